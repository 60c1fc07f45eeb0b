pub mod SpaceLemmas
pub mod WordLemmas
pub mod DigitLemmas
pub mod FieldLemmas
pub mod TextLemmas
pub mod AppendLemmas
pub mod PaddedTextLemmas
