pub mod TableLemmas
mod PlanLemmas
pub mod TapLemmas
