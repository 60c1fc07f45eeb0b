mod SignLemmas
mod LineLemmas
mod FormLemmas
pub mod ChannelLemmas
pub mod FootprintLemmas
