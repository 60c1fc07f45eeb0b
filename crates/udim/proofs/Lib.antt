mod MarkLemmas
mod NameLemmas
