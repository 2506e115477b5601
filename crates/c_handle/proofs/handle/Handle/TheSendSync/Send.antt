use denote.Struct.Struct.{exits_of}
use denote.Struct.Owning.{shape, fields, to}
use denote.Param.Send.{IsSend, AllSend, owning_send, struct_send, sendable}
use Rattle.std.proofs.Crossing as crossing
use Rattle.std.proofs.alloc.Global.TheSendSync as heap_send
use Rattle.std.specs.contracts.alloc.Global as heap
use Rattle.std.specs.contracts.impls.GlobalAllocator.TheImpl.{ghosts}
use Rattle.bl_session.specs.contracts.session.boot_holder.OwnedBootBootHolder.TheImpl as holder
use Rattle.bl_session.proofs.OwnedBoot.TheSendSync.{the_send as boot_send}
use Rattle.bl_session.proofs.SessionOver.TheSendSync.{the_send as session_send}
use Rattle.c_handle.specs.Handles.{boot_type, session_type}
use Rattle.c_handle.specs.contracts.handle.Handle.{the_row, the_type}
use Rattle.c_handle.proofs.SendSteps.{keyless, quiet}

session : IsSend session_type
session =
    session_send heap.the_row boot_type ghosts
    (holder.ghosts heap.the_row ghosts holder.no_dict holder.no_dict) crossing.send
    (boot_send heap.the_row ghosts crossing.send crossing.frees) crossing.frees

pub send : IsSend the_row
send =
    let all : AllSend (fields the_type) = (search sendable, (heap_send.the_field_send, tt)) in
    owning_send the_type all (λ d. keyless session_type session d.alloc d.at d.kept)
    (λ k.
    quiet (to the_type) (exits_of k (fields the_type))
    ((struct_send (shape the_type) all).leaving k))
