pub mod Limits
pub mod Fields
pub mod Faults
pub mod Checks
pub mod Unique
pub mod Words
