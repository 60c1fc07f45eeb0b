mod BoardLemmas
mod ListLemmas
mod RuleLemmas
mod ViewLemmas
