use Rattle.std.proofs.Common.{◌≡◌, List, [], ◌∷◌, ◌++◌, refl, sym, subst, lit<}
use mir.Syntax.{Fn}
use mir.Val.{Val, vptr, vcons, vnil}
use base.Logic.{SProp, ent, emp, id⊢}
use prog.Wp.{WpFn}
use contract.Monad.{fact, fact_i}
use contract.Running.{tables}
use types.Kit.{‵, raw, ◌⊛◌, at_ret, ◌$◌, ◌∵◌, !, qed, by, move, keep, drop, split, fsplit, fjoin}
use types.Kit.{suffices, use0, use1}
use types.Run.{stop, fld, lit, of_opd, bin, no_more, and_then, first, branches, exec, returns}
use types.Run.{enter}
use types.ByLocal.{alloc_all, pass_all, free_all, look_at, get, get_in, sets, sets_last, env}
use types.Part.{agg, sub, whole}
use types.Match.{live}
use denote.RattleType.{RattleType, owns}
use denote.RawPtr.{Ptr, block_ptr, null_ptr, ptr_val, tests_null}
use denote.Param.{layout}
use denote.Signature.{types_at, type_at, plain}
use denote.Steps.{nothing}
use denote.Triple.Entry.{alive}
use denote.Triple.Walked.{Stays, stay_dropped, walk_of}
use Rattle.std.proofs.VecSteps.Shapes.{after}
use Rattle.std.proofs.alloc.Calls.{Goes-blank}
use Rattle.std.proofs.cell.Inside.{Good}
use Rattle.std.proofs.option.Made.{Some-of, none_of}
use Rattle.std.proofs.ResultValues.{and_tt}
use Rattle.std.specs.Prelude.{option_map}
use Rattle.std.specs.declared.option.Option.{Option}
use Rattle.std.specs.declared.option.Option.TheVariants.{None, Some}
use Rattle.std.specs.contracts.impls.GlobalAllocator.TheImpl.{ghosts}
use Rattle.std.proofs.raw_atomic.Walks.{proved_at, leaves}
use Rattle.c_handle.proofs.RawBoxSteps.{two, two_good, RawBox, raw_box_in}
use Rattle.c_handle.proofs.HandleSteps.{Z, L, handle_good, either_held}
use Rattle.c_handle.proofs.SessionHandleSteps.{R, Handle, handle_out}
use Rattle.c_handle.specs.contracts.handle.Handle.into_raw_box.{ended, clauses}
use Rattle.c_handle.specs.contracts.handle.Handle.into_raw_box.Key.{name as #self}
use Rattle.c_handle.proofs.handle.Handle.into_raw_box.Statement.{statement}
use Rattle.c_handle.proofs.handle.Handle.into_raw_box.Code as code

pub into_raw_box_spec : {M : Type 1} → statement M
into_raw_box_spec 𝓤 𝓛 𝓜 𝓡 wired =
    let H = 𝓛.H in let 𝓣 = tables 𝓤 H 𝓜 𝓡 𝓡.env in let c = clauses 𝓛 𝓜.mem 𝓡.returns in
    let fn : Fn = code.function in let Lr : RattleType = RawBox R Z L ghosts in
    let hs : Stays ended.signature.params ended.kept =
    (stay_dropped (plain (λ _. Handle)) ended.kept.0, tt) in
    proved_at 𝓛 ended hs c 𝓜 𝓡
    (Goes-blank 𝓛 0 (plain (λ _. Handle)) ended.kept.0 (λ κs x f. tt), tt)
    #self fn (code.unfolded 𝓤 H 𝓜 𝓡 wired) (λ z are.
    let Post : Val → SProp 𝓤 = (walk_of 𝓛 ended hs c).post z in
    let Run : List Val → SProp 𝓤 = λ ws. WpFn 𝓤 H 𝓣.C 𝓣.Λ fn ws Post in
    let Out : RattleType = type_at ended.signature.result z.0.0 in
    let d = z.0.3.0 in
    let Said : Option Lr.Denot → Type 0 =
    λ r. option_map (λ (l : Lr.Denot). l.value) r ≡ d.kept in
    qed 𝓛 ((raw (alive 𝓛 ended.signature z.0.0 z.0.1)
    ⊛ ‵ (owns (types_at ended.signature.params z.0.0) z.0.3 z.0.4)) ∷ raw (emp 𝓤) ∷ []) ∵
    move ! (1 ∷ []) $ drop ! $ split ! $ move ! (1 ∷ []) $ fsplit ! $
    handle_out ! d z.0.4.0 (λ h ws fits.
    let At : Ptr → SProp 𝓤 = λ p. Run (two (ptr_val p) h ∷ []) in
    move ! (2 ∷ []) $ drop ! $
    suffices ! (At d.at)
    (subst (λ (us : List Val). ent 𝓤 (At d.at) (Run us)) (sym (λ i. ws i ++ []))
    (id⊢ 𝓤 (At d.at))) $
    either_held R ! d.alloc d.at d.kept
    (λ is none.
    suffices ! (At null_ptr)
    (subst (λ (p : Ptr). ent 𝓤 (At null_ptr) (At p)) (sym is) (id⊢ 𝓤 (At null_ptr))) $
    enter ! 𝓣.C 𝓣.Λ fn (two (ptr_val null_ptr) h ∷ []) Post $
    alloc_all ! (λ l. pass_all ! refl (handle_good null_ptr h fits, tt) $
    let Ev = env fn.locals l in
    let good : Good (layout Out) (live 0 vnil) = (tt, (record { fits = lit< tt }, tt)) in
    sets ! (of_opd ! (get_in ! (fld ! refl (stop !)) (sub ! 0 refl (whole !)))) refl
    (tt, record { fits = lit< tt }) $
    sets ! (of_opd ! (get_in ! (fld ! refl (stop !)) (sub ! 1 refl (whole !)))) refl fits $
    sets ! (bin ! (get ! refl) (lit ! tt) tt) refl (tt, tt) $
    first ! $ branches ! (get ! refl)
    (λ _.
    sets_last ! (agg ! (and_then ! (lit ! tt) (no_more !))) refl good $
    exec ! 𝓣.C 𝓣.Λ Ev (after 4 fn.body) (at_ret Ev Post) $
    sets ! (of_opd ! (get ! refl)) refl good $
    returns ! (look_at ! 0 refl) $ free_all ! refl $
    use0 𝓛 (‵ (Out.own_val None (live 0 vnil ∷ []))) (none_of 𝓛 Lr) $
    use0 𝓛 (raw (fact 𝓤 (Said None))) (fact_i 𝓤 (Said None) (emp 𝓤) (sym none)) $
    nothing ! $ nothing ! $ fjoin ! $ keep ! (4 ∷ 0 ∷ 2 ∷ 1 ∷ []) $
    by ! (leaves 𝓛 ended hs c z (live 0 vnil) None (tt, tt) (tt, tt)))
    (λ wrong. absurd wrong)))
    (λ b o x is some test.
    let made : Val = two (vptr b o) h in
    let typed = two_good R Z L ghosts b o h fits in
    let v₁ : Val = live 1 (vcons made vnil) in
    let lo : Lr.Denot = record { at = block_ptr b o; alloc = d.alloc; value = x } in
    let good : Good (layout Out) v₁ =
    (and_tt _ typed.0, (record { fits = lit< tt }, (typed.1, tt))) in
    suffices ! (At (block_ptr b o))
    (subst (λ (p : Ptr). ent 𝓤 (At (block_ptr b o)) (At p)) (sym is)
    (id⊢ 𝓤 (At (block_ptr b o)))) $
    enter ! 𝓣.C 𝓣.Λ fn (made ∷ []) Post $
    alloc_all ! (λ l. pass_all ! refl (typed, tt) $
    let Ev = env fn.locals l in
    sets ! (of_opd ! (get_in ! (fld ! refl (stop !)) (sub ! 0 refl (whole !)))) refl (tt, tt) $
    sets ! (of_opd ! (get_in ! (fld ! refl (stop !)) (sub ! 1 refl (whole !)))) refl fits $
    sets ! (bin ! (get ! refl) (lit ! tt) (tests_null (block_ptr b o) test)) refl (tt, tt) $
    first ! $ branches ! (get ! refl) (λ wrong. absurd wrong)
    (λ _.
    sets ! (of_opd ! (get ! refl)) refl (tt, tt) $
    sets ! (agg ! (and_then ! (get ! refl) (and_then ! (get ! refl) (no_more !)))) refl typed $
    sets_last ! (agg ! (and_then ! (lit ! tt) (and_then ! (get ! refl) (no_more !)))) refl good $
    exec ! 𝓣.C 𝓣.Λ Ev (after 4 fn.body) (at_ret Ev Post) $
    sets ! (of_opd ! (get ! refl)) refl good $
    returns ! (look_at ! 0 refl) $ free_all ! refl $
    raw_box_in R Z L ghosts ! b o h d.alloc x $
    use1 𝓛 (‵ (Out.own_val (Some lo) (v₁ ∷ []))) (Some-of 𝓛 Lr lo made) $
    use0 𝓛 (raw (fact 𝓤 (Said (Some lo)))) (fact_i 𝓤 (Said (Some lo)) (emp 𝓤) (sym some)) $
    nothing ! $ nothing ! $ fjoin ! $ keep ! (3 ∷ 0 ∷ 2 ∷ 1 ∷ []) $
    by ! (leaves 𝓛 ended hs c z v₁ (Some lo) (tt, tt) (tt, tt)))))))
