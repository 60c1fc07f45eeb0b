pub mod RecentLemmas
pub mod HitLemmas
pub mod ItemLemmas
pub mod PlaceLemmas
pub mod RunLemmas
