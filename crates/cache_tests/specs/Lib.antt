pub mod Names
pub mod Tiles
