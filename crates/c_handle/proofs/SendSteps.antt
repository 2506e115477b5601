-- What a handle keeps may go to another thread.
use Rattle.std.proofs.Common.{Option, None, Some}
use mir.Raw.{raw}
use base.Fraction.{full_share}
use base.Shift.{Keyless}
use denote.Exit.{Exit, unchanged, leaves, hidden, under}
use denote.Memory.{lone}
use denote.RattleType.{RattleType}
use denote.RawPtr.{Ptr, block_ptr, null_ptr, lies_at}
use denote.Param.Send.{IsSend, Quiet, part_keyless}
use Rattle.std.proofs.Crossing as crossing
use Rattle.std.specs.declared.alloc.Global.{Global}
use Rattle.c_handle.specs.Handles.{handle_owns}

pub quiet : {D X : Type 0} (to : D → X) (e : Exit X) → Quiet e → Quiet (hidden (under to e))
quiet to unchanged q = λ x w. tt
quiet to (leaves L l S s r) q = λ d. q (to d)

lies : (R : RattleType) → IsSend R → (at : Ptr) (x : R.Denot) → Keyless (lies_at R full_share at x)
lies R s (block_ptr b o) x = part_keyless R s full_share x b o
lies R s null_ptr x = tt

pub keyless : (R : RattleType) → IsSend R → (alloc : Global) (at : Ptr) (kept : Option R.Denot)
    → Keyless (handle_owns R alloc at kept)
keyless R s alloc at None = tt
keyless R s alloc at (Some x) =
    (lies R s at x, crossing.frees.frees alloc (raw (lone R.mir)) at)
