use denote.Struct.Struct.{exits_of}
use denote.Struct.Owning.{shape, fields, to}
use denote.Param.Send.{IsSend, AllSend, owning_send, struct_send, sendable}
use Rattle.std.proofs.Crossing as crossing
use Rattle.std.proofs.alloc.Global.TheSendSync as heap_send
use Rattle.std.specs.contracts.alloc.Global as heap
use Rattle.std.specs.contracts.impls.GlobalAllocator.TheImpl.{ghosts}
use Rattle.bl_digest.proofs.digesting.Digesting.TheSendSync.{the_send as digesting_send}
use Rattle.c_handle.specs.Handles.{digest_type}
use Rattle.c_handle.specs.contracts.digest_handle.DigestHandle.{the_row, the_type}
use Rattle.c_handle.proofs.SendSteps.{keyless, quiet}

digest : IsSend digest_type
digest = digesting_send heap.the_row ghosts crossing.send crossing.frees

pub send : IsSend the_row
send =
    let all : AllSend (fields the_type) = (search sendable, (heap_send.the_field_send, tt)) in
    owning_send the_type all (λ d. keyless digest_type digest d.alloc d.at d.kept)
    (λ k.
    quiet (to the_type) (exits_of k (fields the_type))
    ((struct_send (shape the_type) all).leaving k))
