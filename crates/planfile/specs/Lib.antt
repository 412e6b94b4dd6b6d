pub mod Kinds
pub mod Lines
pub mod Stages
pub mod Reading
pub mod Figures
pub mod Plans
pub mod Points
