use mir.Raw.{raw}
use base.Shift.{Keyless}
use denote.Memory.{lone}
use denote.RawPtr.{Ptr}
use denote.Struct.Struct.{exits_of}
use denote.Struct.Owning.{shape, fields, to}
use denote.Param.Send.{IsSend, AllSend, owning_send, struct_send, sendable}
use Rattle.std.proofs.Common.{Option, None, Some}
use Rattle.std.specs.Global.{Global}
use Rattle.std.proofs.Crossing as heap
use Rattle.std_alloc.proofs.SendSync.{quiet, lies}
use Rattle.std_heap.proofs.Global.TheSendSync as handle
use Rattle.nulbiko.specs.contracts.kept.Kept as Kept
use Rattle.nulbiko.proofs.kept.Kept.TheSendSync.{the_send as sent}
use Rattle.nulbiko.specs.Keeping.{handle_owns}
use Rattle.nulbiko.specs.contracts.handle.Handle.{the_row, the_type}

owned : (alloc : Global) (at : Ptr) (kept : Option Kept.the_row.Denot) → Keyless (handle_owns alloc at kept)
owned alloc at None = tt
owned alloc at (Some kept) = (lies Kept.the_row sent at kept, heap.frees.frees alloc (raw (lone Kept.the_row.mir)) at)

pub send : IsSend the_row
send =
    let all : AllSend (fields the_type) = (search sendable, (handle.the_field_send, tt)) in
    owning_send the_type all (λ d. owned d.alloc d.at d.kept)
    (λ k. quiet (to the_type) (exits_of k (fields the_type)) ((struct_send (shape the_type) all).leaving k))
