pub mod Load
pub mod LoadError
pub mod CellTile
pub mod Halving
pub mod CellSamples
pub mod PartPlace
pub mod Halved
