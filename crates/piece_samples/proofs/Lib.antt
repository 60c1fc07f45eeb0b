pub mod LowSamples
pub mod PieceValues
pub mod PieceEnds
pub mod PlaneWrites
pub mod PieceReads
pub mod RowWalk
pub mod RowPlanes
