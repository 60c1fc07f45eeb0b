pub mod Udim
pub mod Parts
