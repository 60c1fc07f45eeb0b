mod CountLemmas
mod EntryLemmas
mod EveryoneLemmas
mod GivenLemmas
mod HomeLemmas
mod LeaveLemmas
mod ListLemmas
mod NewLemmas
mod OwnLemmas
mod PermitLemmas
mod PinLemmas
mod RuleLemmas
mod SeatLemmas
mod SeatRule
pub mod ShardSums
pub mod SinceLemmas
mod SlotLemmas
mod SlotRule
mod SumLemmas
mod TagLemmas
mod TellLemmas
mod TileLemmas
mod TurnLemmas
mod TurnRule
mod VisitLemmas
mod WordLemmas
