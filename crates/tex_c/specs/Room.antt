-- What does a C buffer own? Bytes in a box, or nothing.
use base.Fml.{Fml, ftrue}
use base.Stored.{Coded}
use denote.RawPtr.{Ptr}
use Rattle.std.specs.Prelude.{Option, None, Some}
use Rattle.std.specs.Coded.{coded_option}
use Rattle.std.specs.Box.Ownership.{box_owns}
use Rattle.std.specs.Global.{Global}
use Rattle.std_heap.specs.contracts.GlobalAllocator.TheImpl.{ghosts}
use Rattle.supplied_client.specs.contracts.bytes.Bytes.{the_row}

-- a buffer with bytes owns the box of the bytes
abbrev pub room_owns : Global → Ptr → Option the_row.Denot → Fml
room_owns alloc at None = ftrue
room_owns alloc at (Some bytes) = box_owns (ghosts.dealloc_token alloc) the_row at bytes

abbrev pub room_coded : Coded (Option the_row.Denot)
room_coded = coded_option the_row.coded
