mod KnownLevels
mod IdleLemmas
mod AheadLemmas
