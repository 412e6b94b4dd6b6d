pub mod Parts
pub mod Verdict
pub mod Uniquely
