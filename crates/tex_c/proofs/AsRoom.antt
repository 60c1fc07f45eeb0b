-- A buffer with bytes, and the parts of its box, own what a box at the same types owns.
use mir.Syntax.{impl, tnil, dnil}
use mathlib.Core.List.{[]}
use denote.Signature.{Slot, plain}
use Rattle.std_alloc.proofs.BoxSteps.Form.{Bx}
use Rattle.std_heap.specs.contracts.Global as Heap
use Rattle.std_heap.specs.contracts.GlobalAllocator.TheImpl.{ghosts, dict}
use Rattle.std_heap.proofs.Global.TheLaws as heap
use Rattle.supplied_client.specs.contracts.bytes.Bytes as Bytes
use Rattle.supplied_client.proofs.bytes.Bytes.TheLaws as bytes
use Rattle.tex_c.specs.contracts.parts.BoxParts as BoxParts
use Rattle.tex_c.specs.contracts.room.Room as Room

abbrev pub E : Bx
E = record { row = Bytes.the_row; laws = bytes.the_row_laws; al = record { row = Heap.the_row; laws = heap.the_row_laws; g = ghosts; d = dict; drops = impl [] tnil dnil } }

abbrev pub FromParts : Slot 0
FromParts = plain (λ _. BoxParts.the_row Bytes.the_row Heap.the_row ghosts)

abbrev pub FromRoom : Slot 0
FromRoom = plain (λ _. Room.the_row)
