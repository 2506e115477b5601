-- The body makes the struct, which takes no memory. The proof picks what it says: what the writer
-- tells that it holds.
use Rattle.std.proofs.Common.{[], ◌∷◌, unwrap_or, refl}
use mir.Syntax.{a_type, dcons, dnil, named}
use mir.MapTy.{inst_fn}
use mir.Val.{Val, vptr, vstruct, vnil}
use types.Kit.{‵, raw, ◌⊛◌, ◌$◌, ◌∵◌, !, qed, move, keep, split, suffices, done}
use types.Part.{agg}
use types.Run.{no_more, returns, enter}
use types.ByLocal.{alloc_all, pass_all, free_all, look_at, sets}
use contract.Running.{tables}
use denote.Exit.{yes}
use denote.RattleType.{owns}
use denote.Param.{param, bounded}
use denote.Ref.{shr_vals, shr_Tells}
use denote.Shadow.{pure_i}
use denote.Signature.{plain, types_at}
use denote.Triple.Entry.{alive}
use denote.Triple.Walked.{says, Stays, stay_none_ref, Goes-none_ref, walk_of, ends_at}
use Rattle.std.proofs.raw_atomic.Walks.{proved}
use Rattle.bl_image.specs.contracts.ghost_history.History as H
use Rattle.bl_image.specs.contracts.ghost_history.History.of as F
use Rattle.bl_image.proofs.ghost_history.History.of.Statement.{statement}
use Rattle.bl_image.proofs.ghost_history.History.of.Code as code

pub of_spec : {M : Type 1} → statement M
of_spec 𝓤 𝓛 𝓜 𝓡 wired W L g d met =
    let 𝓣 = tables 𝓤 𝓛.H 𝓜 𝓡 𝓡.env in
    let ended = F.ended W g d in
    let clauses = F.clauses W g d 𝓛 𝓜.mem 𝓡.returns in
    let inst = bounded (a_type ∷ []) (W, tt) (dcons d dnil) in
    let function = inst_fn inst code.function in
    let stayed : Stays ended.signature.params ended.kept =
    (stay_none_ref (0 ∷ []) tt (plain (λ _. param 0 W)) yes, tt) in
    proved 𝓛 ended stayed clauses 𝓜 𝓡
    (Goes-none_ref 𝓛 2 (0 ∷ []) tt (plain (λ _. param 0 W)) yes, tt)
    (F.Key.name inst) function (code.unfolded 𝓤 𝓛.H 𝓜 𝓡 wired (W, tt) d)
    (λ κs. (shr_vals, tt)) (λ κs. (shr_Tells (named 0) κs.0 (param 0 W), tt))
    (λ κs qs bounds a ghost are.
    let writer : Val = vptr a.0.ref_ptr.0 a.0.ref_ptr.1 in
    let made : H.the_row.Denot = record { bytes = unwrap_or (g.contents a.0.now) [] } in
    let bound : (walk_of 𝓛 ended stayed clauses).Ghost =
    ((κs, qs, bounds, a, (writer ∷ [], tt)), ghost) in
    qed 𝓛
    ((raw (alive 𝓛 ended.signature κs qs) ⊛ ‵
    (owns (types_at ended.signature.params κs) a bound.0.4))
    ∷ raw ((clauses κs a).requires ghost) ∷ []) ∵
    keep ! (0 ∷ []) $ split ! $ enter ! 𝓣.C 𝓣.Λ function (writer ∷ []) _ $
    alloc_all ! (λ l. pass_all ! refl ((tt, tt), tt) $ sets ! (agg ! (no_more !)) refl (tt, tt) $
    returns ! (look_at ! 0 refl) $ free_all ! refl $
    suffices ! _ (ends_at 𝓛 ended stayed clauses bound (vstruct vnil) made (tt, tt) (tt, tt)) $
    says ! refl $
    pure_i ! (H.the_row.own_val made (vstruct vnil ∷ [])) ((λ vss. (tt, tt)), tt)
    ((tt, (refl, tt)), tt) $
    move ! (1 ∷ 2 ∷ 0 ∷ []) $ done !))
