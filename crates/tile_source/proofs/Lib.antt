mod CellLemmas
pub mod TexelLemmas
pub mod NeedLemmas
pub mod StepLemmas
mod MakingLemmas
pub mod VisitLemmas
pub mod SourceLemmas
mod UncachedLemmas
