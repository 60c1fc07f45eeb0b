pub mod FillLemmas
pub mod SquareLemmas
mod OpenLemmas
mod AskLemmas
mod InvalidLemmas
mod HoldLemmas
pub mod UnreadLemmas
mod FetchedLemmas
