pub mod Lists
pub mod States
pub mod Sound
pub mod Records
pub mod Words
