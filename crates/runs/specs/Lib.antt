pub mod Count
pub mod Run
pub mod Promise
pub mod Example
