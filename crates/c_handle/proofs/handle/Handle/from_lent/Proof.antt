use Rattle.std.proofs.Common.{◌≡◌, List, [], ◌∷◌, ◌++◌, refl, sym, subst}
use mir.Syntax.{Fn}
use mir.Val.{Val}
use base.Fml.{ftrue}
use base.Logic.{SProp, ent, emp, id⊢}
use prog.Wp.{WpFn}
use contract.Monad.{fact, fact_i}
use contract.Running.{tables}
use types.Kit.{‵, raw, ◌⊛◌, ◌$◌, ◌∵◌, !, qed, by, move, keep, drop, split, fsplit, fjoin, suffices}
use types.Kit.{use0}
use types.Run.{stop, fld, of_opd, no_more, and_then, returns, enter}
use types.ByLocal.{alloc_all, pass_all, free_all, look_at, get, get_in, sets}
use types.Part.{agg, sub, whole}
use denote.RattleType.{owns}
use denote.RawPtr.{ptr_val}
use denote.Signature.{types_at, plain}
use denote.Steps.{nothing}
use denote.Triple.Entry.{alive}
use denote.Triple.Walked.{Stays, stay_dropped, walk_of}
use Rattle.std.proofs.alloc.Calls.{Goes-blank}
use Rattle.std.proofs.raw_atomic.Walks.{proved_at, leaves}
use Rattle.c_handle.proofs.RawBoxSteps.{two}
use Rattle.c_handle.proofs.HandleSteps.{handle_good, pointer_good}
use Rattle.c_handle.proofs.SessionHandleSteps.{handle_in}
use Rattle.c_handle.proofs.LentSessionHandleSteps.{LentHandle, lent_out}
use Rattle.c_handle.specs.contracts.handle.Handle.from_lent.{ended, clauses}
use Rattle.c_handle.specs.contracts.handle.Handle.from_lent.Key.{name as #self}
use Rattle.c_handle.proofs.handle.Handle.from_lent.Statement.{statement}
use Rattle.c_handle.proofs.handle.Handle.from_lent.Code as code

pub from_lent_spec : {M : Type 1} → statement M
from_lent_spec 𝓤 𝓛 𝓜 𝓡 wired =
    let H = 𝓛.H in let 𝓣 = tables 𝓤 H 𝓜 𝓡 𝓡.env in let c = clauses 𝓛 𝓜.mem 𝓡.returns in
    let fn : Fn = code.function in
    let hs : Stays ended.signature.params ended.kept =
    (stay_dropped (plain (λ _. LentHandle)) ended.kept.0, tt) in
    proved_at 𝓛 ended hs c 𝓜 𝓡
    (Goes-blank 𝓛 0 (plain (λ _. LentHandle)) ended.kept.0 (λ κs x f. tt), tt)
    #self fn (code.unfolded 𝓤 H 𝓜 𝓡 wired) (λ z are.
    let Post : Val → SProp 𝓤 = (walk_of 𝓛 ended hs c).post z in
    let Run : List Val → SProp 𝓤 = λ ws. WpFn 𝓤 H 𝓣.C 𝓣.Λ fn ws Post in
    let d = z.0.3.0 in
    qed 𝓛 ((raw (alive 𝓛 ended.signature z.0.0 z.0.1)
    ⊛ ‵ (owns (types_at ended.signature.params z.0.0) z.0.3 z.0.4)) ∷ ‵ ftrue ∷ []) ∵
    move ! (1 ∷ []) $ drop ! $ split ! $ move ! (1 ∷ []) $ fsplit ! $
    lent_out ! d z.0.4.0 (λ h ws fits.
    let good = handle_good d.at h fits in
    move ! (2 ∷ []) $ drop ! $
    suffices ! (Run (two (ptr_val d.at) h ∷ []))
    (subst (λ (us : List Val). ent 𝓤 (Run (two (ptr_val d.at) h ∷ [])) (Run us))
    (sym (λ i. ws i ++ [])) (id⊢ 𝓤 (Run (two (ptr_val d.at) h ∷ [])))) $
    enter ! 𝓣.C 𝓣.Λ fn (two (ptr_val d.at) h ∷ []) Post $
    alloc_all ! (λ l. pass_all ! refl (good, tt) $
    sets ! (of_opd ! (get_in ! (fld ! refl (stop !)) (sub ! 0 refl (whole !)))) refl
    (pointer_good d.at) $
    sets ! (of_opd ! (get_in ! (fld ! refl (stop !)) (sub ! 1 refl (whole !)))) refl fits $
    sets ! (agg ! (and_then ! (get ! refl) (and_then ! (get ! refl) (no_more !)))) refl good $
    returns ! (look_at ! 0 refl) $ free_all ! refl $
    handle_in ! d.at h d.alloc d.kept $
    use0 𝓛 (raw (fact 𝓤 ((d.at ≡ d.at) × (d.kept ≡ d.kept))))
    (fact_i 𝓤 ((d.at ≡ d.at) × (d.kept ≡ d.kept)) (emp 𝓤) (refl, refl)) $
    nothing ! $ nothing ! $ fjoin ! $ keep ! (3 ∷ 0 ∷ 2 ∷ 1 ∷ []) $
    by ! (leaves 𝓛 ended hs c z (two (ptr_val d.at) h)
    (record { at = d.at; alloc = d.alloc; kept = d.kept }) (tt, tt) (tt, tt)))))
