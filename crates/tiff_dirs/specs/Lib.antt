pub mod Dirs
pub mod Values
pub mod Shape
pub mod Numbers
pub mod ReadLevel
pub mod NextLevel
pub mod Chain
