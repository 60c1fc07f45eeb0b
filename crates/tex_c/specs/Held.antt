-- What does a handle of C own? A client in a box, or nothing.
use base.Fml.{Fml, ftrue}
use base.Stored.{Coded}
use denote.RawPtr.{Ptr}
use Rattle.std.specs.Prelude.{Option, None, Some}
use Rattle.std.specs.Coded.{coded_option}
use Rattle.std.specs.Box.Ownership.{box_owns}
use Rattle.std.specs.Global.{Global}
use Rattle.std_heap.specs.contracts.GlobalAllocator.TheImpl.{ghosts}
use Rattle.supplied_client.specs.contracts.client.Client.{the_row}

-- a handle with a client owns the box of the client
abbrev pub held_owns : Global → Ptr → Option the_row.Denot → Fml
held_owns alloc at None = ftrue
held_owns alloc at (Some client) = box_owns (ghosts.dealloc_token alloc) the_row at client

abbrev pub held_coded : Coded (Option the_row.Denot)
held_coded = coded_option the_row.coded
