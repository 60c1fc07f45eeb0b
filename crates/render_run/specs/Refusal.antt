-- Which line reports an error of the cache?
use Rattle.tile_source.specs.declared.error.CacheError.{CacheError}
use Rattle.tile_source.specs.declared.error.CacheError.TheVariants as refused
use Rattle.request_lang.specs.declared.answer.Answer.{Answer}
use Rattle.request_lang.specs.declared.answer.Answer.TheVariants as line

-- The line for an error. A waiter that waits for ever never gives up, so `Busy` has no line of its
-- own.
abbrev pub refusal_of : {B : Type 0} → CacheError B → Answer
refusal_of (refused.BadFile generation fault) = line.BadFile generation fault
refusal_of (refused.TileTooLarge generation) = line.TileTooLarge generation
refusal_of (refused.NoLevel generation levels) = line.NoLevel generation levels
refusal_of (refused.Outside generation) = line.Outside generation
refusal_of refused.RegionTooLarge = line.RegionTooLarge
refusal_of refused.HoldsFull = line.HoldsFull
refusal_of (refused.Again from to) = line.Again from to
refusal_of refused.ReadFault = line.ReadFault
refusal_of refused.NoMemory = line.NoMemory
refusal_of (refused.Busy b) = line.NoMemory
