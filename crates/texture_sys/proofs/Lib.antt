mod MovedCells
mod Lent
mod Stays
mod Counted
mod Chains
mod Turns
mod Shown
pub mod LookLemmas
mod Asked
mod TextureLemmas
mod KeptRecord
mod Warm
mod Visits
mod BatchLemmas
mod FetchLemmas
mod LooksLemmas
