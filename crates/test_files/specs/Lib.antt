pub mod Names
pub mod Untold
