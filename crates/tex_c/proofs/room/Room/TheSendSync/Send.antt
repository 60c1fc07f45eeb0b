use mir.Raw.{raw}
use denote.Memory.{lone}
use denote.Struct.Struct.{exits_of}
use denote.Struct.Owning.{shape, fields, to}
use denote.Param.Send.{IsSend, AllSend, owning_send, struct_send, sendable}
use Rattle.std.proofs.Crossing as heap
use Rattle.std_alloc.proofs.SendSync.{quiet, lies}
use Rattle.std_heap.proofs.Global.TheSendSync as handle
use Rattle.supplied_client.specs.contracts.bytes.Bytes as Bytes
use Rattle.supplied_client.proofs.bytes.Bytes.TheSendSync.{the_send as bytes}
use Rattle.std.specs.Prelude.{Option, None, Some}
use Rattle.std.specs.Global.{Global}
use denote.RawPtr.{Ptr}
use base.Shift.{Keyless}
use Rattle.tex_c.specs.Room.{room_owns}
use Rattle.tex_c.specs.contracts.room.Room.{the_row, the_type}

owned : (a : Global) (at : Ptr) (held : Option Bytes.the_row.Denot) → Keyless (room_owns a at held)
owned a at None = tt
owned a at (Some x) =
    (lies Bytes.the_row bytes at x, heap.frees.frees a (raw (lone Bytes.the_row.mir)) at)

pub send : IsSend the_row
send =
    let all : AllSend (fields the_type) = (search sendable, (handle.the_field_send, tt)) in
    owning_send the_type all (λ d. owned d.alloc d.at d.value)
    (λ k. quiet (to the_type) (exits_of k (fields the_type)) ((struct_send (shape the_type) all).leaving k))
