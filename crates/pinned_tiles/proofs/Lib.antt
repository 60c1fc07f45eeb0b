mod PinnedLemmas
pub mod TileSums
pub mod TurnLemmas
mod VisitLemmas
