pub mod Limits
pub mod Faults
pub mod Bytes
pub mod Kinds
pub mod Records
pub mod Opening
pub mod Walks
