-- Which code does each error have in C?
use Rattle.std.specs.Prelude.{ℕ}
use Rattle.tile_source.specs.declared.error.CacheError.{CacheError}
use Rattle.tile_source.specs.declared.error.CacheError.TheVariants as refused
use Rattle.supplied_tap.specs.declared.supply.SupplyError.{SupplyError}
use Rattle.supplied_tap.specs.declared.supply.SupplyError.TheVariants as supplied

-- the code of a call that failed
abbrev pub code_of : {B : Type 0} → CacheError B → ℕ
code_of (refused.BadFile generation fault) = 10
code_of (refused.TileTooLarge generation) = 11
code_of (refused.NoLevel generation levels) = 12
code_of (refused.Outside generation) = 13
code_of refused.RegionTooLarge = 14
code_of refused.HoldsFull = 15
code_of (refused.Again from to) = 16
code_of refused.ReadFault = 17
code_of refused.NoMemory = 18
code_of (refused.Busy b) = 19

-- the code of a supply that was not accepted
abbrev pub supply_code_of : SupplyError → ℕ
supply_code_of supplied.NotNeeded = 20
supply_code_of supplied.OtherPlace = 21
supply_code_of supplied.Older = 22
supply_code_of supplied.OtherGeneration = 23
supply_code_of supplied.Short = 24
supply_code_of supplied.Long = 25
supply_code_of supplied.NoMemory = 18
