pub mod ValueLemmas
pub mod PlaceLemmas
pub mod AreaLemmas
mod SquareLemmas
