pub mod Leaps
pub mod Walk
pub mod Busy
