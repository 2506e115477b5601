-- The body makes the struct, which takes no memory. The proof picks what it says: one item more.
use Rattle.std.proofs.Common.{[], ◌∷◌, ◌++◌, refl}
use mir.Syntax.{a_type, dcons, dnil, named}
use mir.MapTy.{inst_fn}
use mir.Val.{Val, vptr, vstruct, vnil}
use types.Kit.{‵, raw, ◌⊛◌, ◌$◌, ◌∵◌, !, qed, move, keep, split, suffices, done}
use types.Part.{agg}
use types.Run.{no_more, returns, enter}
use types.ByLocal.{alloc_all, pass_all, free_all, look_at, sets}
use contract.Running.{tables}
use denote.Exit.{yes}
use denote.RattleType.{owns}
use denote.Param.{param, bounded}
use denote.Ref.{shr_vals, shr_Tells}
use denote.Shadow.{pure_i}
use denote.Signature.{plain, types_at}
use denote.Triple.Entry.{alive}
use denote.Triple.Walked.{says, Stays, stay_none_ref, Goes-none_ref, walk_of, ends_at}
use Rattle.std.proofs.raw_atomic.Walks.{proved}
use Rattle.bl_store.specs.Stores.{item_of_completion}
use Rattle.std.specs.contracts.option.Option as O
use Rattle.bl_store.specs.contracts.store.Completion as C
use Rattle.bl_store.specs.contracts.history.History as H
use Rattle.bl_store.specs.contracts.history.History.and_answer as F
use Rattle.bl_store.proofs.history.History.and_answer.Statement.{statement}
use Rattle.bl_store.proofs.history.History.and_answer.Code as code

pub and_answer_spec : {M : Type 1} → statement M
and_answer_spec 𝓤 𝓛 𝓜 𝓡 wired B A L h g d e f k met lends drops =
    let 𝓣 = tables 𝓤 𝓛.H 𝓜 𝓡 𝓡.env in
    let ended = F.ended B A g d e f k in
    let clauses = F.clauses B A g d e f k 𝓛 𝓜.mem 𝓡.returns in
    let inst =
    bounded (a_type ∷ a_type ∷ []) (B, (A, tt)) (dcons d (dcons f (dcons k dnil))) in
    let function = inst_fn inst code.function in
    let told = O.the_row (C.the_row (param 1 A) e) in
    let stayed : Stays ended.signature.params ended.kept = (
      stay_none_ref (0 ∷ []) tt (plain (λ _. H.the_row)) yes,
      (
        stay_none_ref (1 ∷ []) tt (plain (λ _. param 0 B)) yes,
        (stay_none_ref (2 ∷ []) tt (plain (λ _. told)) yes, tt),
      ),
    ) in
    proved 𝓛 ended stayed clauses 𝓜 𝓡 (
      Goes-none_ref 𝓛 5 (0 ∷ []) tt (plain (λ _. H.the_row)) yes,
      (
        Goes-none_ref 𝓛 5 (1 ∷ []) tt (plain (λ _. param 0 B)) yes,
        (Goes-none_ref 𝓛 5 (2 ∷ []) tt (plain (λ _. told)) yes, tt),
      ),
    )
    (F.Key.name inst) function (code.unfolded 𝓤 𝓛.H 𝓜 𝓡 wired (B, (A, tt)) d f k)
    (λ κs. (shr_vals, (shr_vals, (shr_vals, tt))))
    (λ κs. (
      shr_Tells (named 0) κs.0 H.the_row,
      (
        shr_Tells (named 1) κs.1.0 (param 0 B),
        (shr_Tells (named 2) κs.1.1.0 told, tt),
      ),
    ))
    (λ κs qs bounds a ghost are.
    let before : Val = vptr a.0.ref_ptr.0 a.0.ref_ptr.1 in
    let files : Val = vptr a.1.0.ref_ptr.0 a.1.0.ref_ptr.1 in
    let answer : Val = vptr a.1.1.0.ref_ptr.0 a.1.1.0.ref_ptr.1 in
    let made : H.the_row.Denot = record {
      items = a.0.now.items ++ item_of_completion (g.files a.1.0.now) a.0.now.items a.1.1.0.now ∷ [];
    } in
    let bound : (walk_of 𝓛 ended stayed clauses).Ghost =
    ((κs, qs, bounds, a, (before ∷ [], (files ∷ [], (answer ∷ [], tt)))), ghost) in
    qed 𝓛
    ((raw (alive 𝓛 ended.signature κs qs) ⊛ ‵
    (owns (types_at ended.signature.params κs) a bound.0.4))
    ∷ raw ((clauses κs a).requires ghost) ∷ []) ∵
    keep ! (0 ∷ []) $ split ! $ enter ! 𝓣.C 𝓣.Λ function (before ∷ files ∷ answer ∷ []) _ $
    alloc_all ! (λ l.
    pass_all ! refl ((tt, tt), ((tt, tt), ((tt, tt), tt))) $
    sets ! (agg ! (no_more !)) refl (tt, tt) $ returns ! (look_at ! 0 refl) $ free_all ! refl $
    suffices ! _ (ends_at 𝓛 ended stayed clauses bound (vstruct vnil) made (tt, (tt, (tt, tt)))
    (tt, (tt, (tt, tt)))) $
    says ! refl $
    pure_i ! (H.the_row.own_val made (vstruct vnil ∷ [])) ((λ vss. (tt, tt)), tt)
    ((tt, (refl, tt)), tt) $
    move ! (1 ∷ 2 ∷ 0 ∷ []) $ done !))
