mod PlainLemmas
mod NumberLemmas
mod FieldLemmas
mod LookupLemmas
mod ListLemmas
mod WordsLemmas
mod RunLemmas
mod SampleLemmas
