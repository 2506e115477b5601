use Rattle.std.proofs.Common.{◌+◌, List, [], ◌∷◌, refl, sym, lit<}
use mir.Syntax.{Fn, named, ty_ptr}
use mir.Val.{Val, vptr, vcons, vnil}
use base.Fml.{Fml, fat, fhide, flft, ftrue}
use contract.Running.{tables}
use types.Kit.{‵, ◌⊛◌, at_ret, ◌$◌, ◌∵◌, !, qed, done, move, keep, drop, split, join, fsplit, fjoin}
use types.Kit.{feq_i, frame, rewrite, suffices, use0, use1}
use types.Run.{stop, fld, lit, of_opd, bin, addr, load, look, no_more, and_then, first, blocks, branches, exec}
use types.Run.{returns, returns_within, skips, enter}
use types.ByLocal.{alloc_all, pass_all, free_all, look_at, get, through, sets, sets_last, env}
use types.Part.{agg}
use types.Match.{live}
use denote.Exit.{yes}
use denote.Memory.{hidden_shr}
use denote.Opens.{shr_dup, unhide, hide}
use denote.RattleType.{RattleType, RowLaws, owns}
use denote.RawPtr.{Ptr, block_ptr, ptr_val, tests_null, ptr_row_laws}
use denote.Ref.{Bor, ShrRef, shr_vals, shr_Tells}
use denote.Signature.{plain}
use denote.Steps.{nothing}
use denote.Struct.Struct.{Struct, Struct-row_laws}
use denote.Struct.Owning.{shape, to}
use denote.Struct.Lending.{lent_out}
use denote.Triple.Walked.{Stays, stay_none_ref, walk_of, ends_at, says, Goes-none_ref}
use Rattle.std.proofs.VecSteps.Shapes.{after}
use Rattle.std.proofs.option.Made.{Some-of, none_of}
use Rattle.std.proofs.raw_atomic.Walks.{proved}
use Rattle.std.proofs.alloc.Global.TheLaws as heap_laws
use Rattle.std.specs.contracts.alloc.Global as heap
use Rattle.std.specs.contracts.option.Option as option
use Rattle.std.specs.declared.option.Option.TheVariants.{None, Some}
use Rattle.c_handle.proofs.LookSteps.{either_lent, pointer_back, pointer_out}
use Rattle.c_handle.proofs.SessionHandleSteps.{R}
use Rattle.c_handle.proofs.lent_handle.LentHandle.TheLaws as handle_laws
use Rattle.c_handle.specs.contracts.lent_handle.LentHandle as handle
use Rattle.c_handle.specs.contracts.lent_handle.LentHandle.look as f
use Rattle.c_handle.proofs.lent_handle.LentHandle.look.Statement.{statement}
use Rattle.c_handle.proofs.lent_handle.LentHandle.look.Code as code

abbrev B : RattleType
B = handle.the_row

abbrev Words : RattleType
Words = Struct (shape handle.the_type)

words_laws : RowLaws Words
words_laws =
    Struct-row_laws (shape handle.the_type)
    (ptr_row_laws, (heap_laws.the_field_shared.shr_laws, tt))

abbrev stayed : Stays f.ended.signature.params f.ended.kept
stayed = (stay_none_ref (0 ∷ []) tt (plain (λ _. B)) yes, tt)

pub look_spec : {M : Type 1} → statement M
look_spec 𝓤 𝓛 𝓜 𝓡 wired =
    let c = f.clauses 𝓛 𝓜.mem 𝓡.returns in let W = walk_of 𝓛 f.ended stayed c in
    let 𝓣 = tables 𝓤 𝓛.H 𝓜 𝓡 𝓡.env in let fn : Fn = code.function in
    proved 𝓛 f.ended stayed c 𝓜 𝓡
    (Goes-none_ref 𝓛 1 (0 ∷ []) tt (plain (λ _. B)) yes, tt)
    f.Key.name fn (code.unfolded 𝓤 𝓛.H 𝓜 𝓡 wired)
    (λ κs. (shr_vals, tt)) (λ κs. (shr_Tells (named 0) κs.0 B, tt)) (λ κs qs bounds a _ are.
    let κ = κs.0 in let q = qs.0 in let d = a.0.now in
    let b = a.0.ref_ptr.0 in let o = a.0.ref_ptr.1 in
    let Lent : RattleType = ShrRef (named 0) κ R in
    let Out : RattleType = option.the_row Lent in
    let y : W.Ghost = ((κs, qs, bounds, a, (vptr b o ∷ [], tt)), tt) in
    let fields : Words.Denot = to handle.the_type d in
    let S : Fml = hidden_shr Words κ fields b o in
    let shown =
    qed 𝓛 (‵ S ∷ []) ∵
    shr_dup ! Words words_laws fields b o κ $ unhide ! $ fsplit ! $ fsplit ! $ hide ! $
    keep ! (0 ∷ 3 ∷ []) $ done ! in
    qed 𝓛 (((‵ (flft κ q) ⊛ ‵ ftrue)
    ⊛ ‵ (owns (ShrRef (named 0) κ B ∷ []) (a.0, tt) (vptr b o ∷ [], tt))) ∷ ‵ ftrue ∷ []) ∵
    split ! $ move ! (1 ∷ []) $ fsplit ! $ fsplit ! $ drop ! $
    shr_dup ! B handle_laws.the_row_laws.shr_laws d b o κ $
    use1 𝓛 (‵ S ⊛ ‵ (fhide (handle.the_lent d d.at κ)))
    (lent_out 𝓛 handle.struct (handle.the_codes heap.the_row.coded) handle.the_heap
    handle.the_lent κ d b o) $ split ! $
    move ! (4 ∷ []) $ split ! $
    -- [the lifetime; nothing; the fields; what is lent; the handle]
    move ! (3 ∷ []) $ unhide ! $
    either_lent ! R κ d.at d.kept
    (λ is none.
    keep ! (2 ∷ 0 ∷ 3 ∷ []) $
    enter ! _ _ _ _ _ $ alloc_all ! (λ l. pass_all ! refl ((tt, tt), tt) $
    pointer_out ! tt d.at b (o + 0) shown (λ q'.
    rewrite ! 0 (λ (p : Ptr). ‵ (fat q' ty_ptr b (o + 0) (ptr_val p))) is refl $
    sets ! (of_opd ! (load ! (through ! refl (fld ! refl (stop !))) (look ! 0 refl))) refl
    (tt, record { fits = lit< tt }) $
    rewrite ! 0 (λ (p : Ptr). ‵ (fat q' ty_ptr b (o + 0) (ptr_val p))) (sym is) refl $
    pointer_back ! tt d.at b (o + 0) $
    sets ! (of_opd ! (get ! refl)) refl (tt, record { fits = lit< tt }) $
    sets ! (bin ! (get ! refl) (lit ! tt) tt) refl (tt, tt) $
    first ! $ branches ! (get ! refl)
    (λ _.
    sets ! (agg ! (and_then ! (lit ! tt) (no_more !))) refl
    (tt, (record { fits = lit< tt }, tt)) $
    returns_within ! (W.post y) refl (look_at ! 0 refl) $ free_all ! refl $
    keep ! (0 ∷ 2 ∷ []) $
    suffices ! _ (ends_at 𝓛 f.ended stayed c y (live 0 vnil) None (tt, tt) (tt, tt)) $
    says ! (sym none) $
    nothing ! $ move ! (1 ∷ 0 ∷ []) $ join ! $ frame ! $
    feq_i ! (List Val) (vptr b o ∷ []) (vptr b o ∷ []) refl $ fjoin ! $
    nothing ! $ move ! (1 ∷ 0 ∷ []) $ fjoin ! $ frame ! $
    use0 𝓛 (‵ (Out.own_val None (live 0 vnil ∷ []))) (none_of 𝓛 Lent) $ done !)
    (λ wrong. absurd wrong))))
    (λ vb vo x is some may. hide ! $
    let v : Val = vptr vb vo in
    let r : Bor R.Denot = record { ref_ptr = (vb, vo); now = x } in
    keep ! (3 ∷ 1 ∷ 4 ∷ 0 ∷ []) $
    enter ! _ _ _ _ _ $ alloc_all ! (λ l. pass_all ! refl ((tt, tt), tt) $
    pointer_out ! tt d.at b (o + 0) shown (λ q'.
    rewrite ! 0 (λ (p : Ptr). ‵ (fat q' ty_ptr b (o + 0) (ptr_val p))) is refl $
    sets ! (of_opd ! (load ! (through ! refl (fld ! refl (stop !))) (look ! 0 refl))) refl (tt, tt) $
    rewrite ! 0 (λ (p : Ptr). ‵ (fat q' ty_ptr b (o + 0) (ptr_val p))) (sym is) refl $
    pointer_back ! tt d.at b (o + 0) $
    sets ! (of_opd ! (get ! refl)) refl (tt, tt) $
    sets ! (bin ! (get ! refl) (lit ! tt) (tests_null (block_ptr vb vo) may)) refl (tt, tt) $
    first ! $ branches ! (get ! refl) (λ wrong. absurd wrong)
    (λ _.
    skips ! $
    exec ! 𝓣.C 𝓣.Λ (env fn.locals l) (after 4 fn.body) (at_ret (env fn.locals l) (W.post y)) $
    first ! $ blocks ! $
    sets ! (of_opd ! (get ! refl)) refl (tt, tt) $
    sets ! (of_opd ! (get ! refl)) refl (tt, tt) $
    sets_last ! (addr ! (through ! refl (stop !))) refl (tt, tt) $
    exec ! 𝓣.C 𝓣.Λ (env fn.locals l) (after 5 fn.body) (at_ret (env fn.locals l) (W.post y)) $
    sets ! (of_opd ! (get ! refl)) refl (tt, tt) $
    sets ! (agg ! (and_then ! (lit ! tt) (and_then ! (get ! refl) (no_more !)))) refl
    (tt, (record { fits = lit< tt }, (tt, tt))) $
    returns ! (look_at ! 0 refl) $ free_all ! refl $
    keep ! (0 ∷ 2 ∷ 3 ∷ []) $
    suffices ! _ (ends_at 𝓛 f.ended stayed c y (live 1 (vcons v vnil)) (Some r) (tt, tt) (tt, tt)) $
    says ! (sym some) $
    nothing ! $ move ! (1 ∷ 0 ∷ []) $ join ! $ frame ! $
    feq_i ! (List Val) (vptr b o ∷ []) (vptr b o ∷ []) refl $ fjoin ! $
    nothing ! $ move ! (1 ∷ 0 ∷ []) $ fjoin ! $ frame ! $
    feq_i ! (List Val) (v ∷ []) (v ∷ []) refl $ fjoin ! $
    use1 𝓛 (‵ (Out.own_val (Some r) (live 1 (vcons v vnil) ∷ []))) (Some-of 𝓛 Lent r v) $
    done !)))))
