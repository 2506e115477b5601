-- A `&` to a handle is made where one to the session that it keeps is.
use contract.BorrowLft.{⊑_static}
use denote.Shares.{Shares-less}
use denote.Param.Shared.{copy_shared}
use denote.Struct.Field.{RawPtr-field}
use denote.Struct.Laws.{RawPtr-copy}
use denote.Struct.Lending.{of_Lends}
use denote.Param.Laws.{Laws}
use Rattle.std.specs.contracts.alloc.Global as heap
use Rattle.std.proofs.alloc.Global.TheLaws as heap_laws
use Rattle.std.specs.contracts.impls.GlobalAllocator.TheImpl.{ghosts}
use Rattle.bl_session.specs.contracts.session.boot_holder.OwnedBootBootHolder.TheImpl as holder
use Rattle.bl_session.proofs.OwnedBoot.TheLaws as boot_laws
use Rattle.bl_session.proofs.SessionOver.TheLaws as kept_laws
use Rattle.c_handle.specs.Handles.{boot_type, session_type}
use Rattle.c_handle.specs.contracts.lent_handle.LentHandle as handle
use Rattle.c_handle.proofs.LookSteps.{handle_lends, shares_laws}
use Rattle.c_handle.proofs.lent_handle.LentHandle.TheLaw.Statement.{statement}

laws : Laws session_type
laws =
    kept_laws.the_row_laws heap.the_row boot_type ghosts
    (holder.ghosts heap.the_row ghosts holder.no_dict holder.no_dict) heap_laws.the_row_laws
    (boot_laws.the_row_laws heap.the_row ghosts heap_laws.the_row_laws)

pub shares : statement
shares =
    of_Lends handle.struct (handle.the_codes heap.the_row.coded) handle.the_heap handle.the_lent
    (λ d p. shares_laws session_type laws.shr_laws d.at d.kept)
    (copy_shared RawPtr-field RawPtr-copy, (heap_laws.the_field_shared, tt))
    (λ M 𝓤 𝓛 d p.
    let l = handle.the_row.lives in
    handle_lends 𝓛 session_type l
    (λ x. Shares-less 𝓛 session_type session_type.lives l (⊑_static l) (laws.shares 𝓛) x) d.alloc d.at d.kept)
