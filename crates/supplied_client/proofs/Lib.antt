pub mod RoundLemmas
pub mod BatchLemmas
