pub mod States
pub mod Promise
pub mod Words
