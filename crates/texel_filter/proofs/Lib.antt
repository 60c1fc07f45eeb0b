pub mod WrapLemmas
pub mod CallLemmas
pub mod FineLemmas
pub mod SumLemmas
pub mod RoundLemmas
pub mod FilterLemmas
