-- What a handle owns, and how two of its values stand to each other. Own.
use Rattle.std.specs.Prelude.{Option, None, Some}
use Rattle.std.specs.Coded.{Coded, coded_option}
use Rattle.std.specs.Box.Ownership.{box_owns}
use Rattle.std.specs.contracts.alloc.Global as heap
use Rattle.std.specs.contracts.impls.GlobalAllocator.TheImpl.{ghosts}
use Rattle.std.specs.declared.alloc.Global.{Global}
use base.Fml.{Fml, Lft, feq, fex, fsep, ftrue}
use denote.RattleType.{RattleType}
use denote.RawPtr.{Ptr, Testable, null_ptr}
use denote.Struct.Lending.{lent_at}
use Rattle.bl_digest.specs.contracts.digesting.Digesting as digesting
use Rattle.bl_digest.specs.PlanInSteps.{DigestingFacts}
use Rattle.bl_session.specs.contracts.OwnedBoot as owned
use Rattle.bl_session.specs.contracts.SessionOver as session
use Rattle.bl_session.specs.contracts.session.boot_holder.OwnedBootBootHolder.TheImpl as holder
use Rattle.bl_session.specs.session.Phases.{SessionFacts}

-- a session on the heap, with what holds its machine and its menu, and a digest, as the logic sees
-- their types
abbrev pub boot_type : RattleType
boot_type = owned.the_row heap.the_row ghosts

abbrev pub session_type : RattleType
session_type =
    session.the_row heap.the_row boot_type ghosts
    (holder.ghosts heap.the_row ghosts holder.no_dict holder.no_dict)

abbrev pub digest_type : RattleType
digest_type = digesting.the_row heap.the_row ghosts

abbrev pub coded_kept_session : Coded (Option SessionFacts)
coded_kept_session = coded_option session_type.coded

abbrev pub coded_kept_digest : Coded (Option DigestingFacts)
coded_kept_digest = coded_option digest_type.coded

-- behind null there is nothing; behind another pointer the value that is kept, of the type `R`, and
-- the right to free its block
abbrev pub handle_owns : (R : RattleType) → Global → Ptr → Option R.Denot → Fml
handle_owns R alloc at None = feq Ptr at null_ptr
handle_owns R alloc at (Some value) = box_owns (ghosts.dealloc_token alloc) R at value

-- for as long as a handle is lent: behind null there is nothing; behind another pointer the value
-- that is kept is lent too, and the pointer may be compared with null
abbrev pub handle_shares : (R : RattleType) → Ptr → Option R.Denot → Lft → Fml
handle_shares R at None κ = feq Ptr at null_ptr
handle_shares R at (Some value) κ = fsep (lent_at R at value κ) (fex (Testable at) (λ _. ftrue))

-- a value is kept before and after, and the two stand so to each other; or none before and after,
-- and the other holds
abbrev pub RelatesKept : {X : Type 0} → Option X → Option X → (none : Type 0)
    → (X → X → Type 0) → Type 0
RelatesKept None None none some = none
RelatesKept None (Some new) none some = ⊥
RelatesKept (Some old) None none some = ⊥
RelatesKept (Some old) (Some new) none some = some old new
