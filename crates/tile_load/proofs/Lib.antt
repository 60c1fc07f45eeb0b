pub mod KnownLayouts
pub mod ToldTiles
pub mod HalfSides
pub mod PartRows
pub mod CellParts
pub mod HalfTexels
pub mod HalfMade
pub mod GeneratedCells
