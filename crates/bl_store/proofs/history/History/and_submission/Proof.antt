-- The body makes the struct, which takes no memory. The proof picks what it says: one item more.
use Rattle.std.proofs.Common.{[], ◌∷◌, ◌++◌, refl}
use mir.Syntax.{named}
use mir.Val.{Val, vptr, vstruct, vnil}
use base.Fml.{Fml}
use types.Kit.{‵, raw, ◌⊛◌, ◌$◌, ◌∵◌, !, qed, move, keep, split, suffices, done}
use types.Part.{agg}
use types.Run.{no_more, returns, enter}
use types.ByLocal.{alloc_all, pass_all, free_all, look_at, sets}
use contract.Running.{tables}
use denote.Exit.{yes}
use denote.RattleType.{owns}
use denote.Ref.{shr_vals, shr_Tells}
use denote.Shadow.{pure_i}
use denote.Signature.{plain, types_at}
use denote.Triple.Entry.{alive}
use denote.Triple.Walked.{says, Stays, stay_none_ref, Goes-none_ref, walk_of, ends_at}
use Rattle.std.proofs.raw_atomic.Walks.{proved}
use Rattle.bl_store.specs.History.{submitted}
use Rattle.bl_store.specs.contracts.history.History as H
use Rattle.bl_store.specs.contracts.submission.Submission as R
use Rattle.bl_store.specs.contracts.history.History.and_submission as F
use Rattle.bl_store.proofs.history.History.and_submission.Statement.{statement}
use Rattle.bl_store.proofs.history.History.and_submission.Code as code

pub and_submission_spec : {M : Type 1} → statement M
and_submission_spec 𝓤 𝓛 𝓜 𝓡 wired =
    let 𝓣 = tables 𝓤 𝓛.H 𝓜 𝓡 𝓡.env in
    let clauses = F.clauses 𝓛 𝓜.mem 𝓡.returns in
    let stayed : Stays F.ended.signature.params F.ended.kept = (
      stay_none_ref (0 ∷ []) tt (plain (λ _. H.the_row)) yes,
      (stay_none_ref (1 ∷ []) tt (plain (λ _. R.the_row)) yes, tt),
    ) in
    proved 𝓛 F.ended stayed clauses 𝓜 𝓡 (
      Goes-none_ref 𝓛 2 (0 ∷ []) tt (plain (λ _. H.the_row)) yes,
      (Goes-none_ref 𝓛 2 (1 ∷ []) tt (plain (λ _. R.the_row)) yes, tt),
    )
    F.Key.name code.function (code.unfolded 𝓤 𝓛.H 𝓜 𝓡 wired)
    (λ κs. (shr_vals, (shr_vals, tt)))
    (λ κs. (shr_Tells (named 0) κs.0 H.the_row, (shr_Tells (named 1) κs.1.0 R.the_row, tt)))
    (λ κs qs bounds a ghost are.
    let before : Val = vptr a.0.ref_ptr.0 a.0.ref_ptr.1 in
    let submission : Val = vptr a.1.0.ref_ptr.0 a.1.0.ref_ptr.1 in
    let made : H.the_row.Denot = record {
      items = a.0.now.items ++ submitted a.1.0.now.file a.1.0.now.ticket ∷ [];
    } in
    let bound : (walk_of 𝓛 F.ended stayed clauses).Ghost =
    ((κs, qs, bounds, a, (before ∷ [], (submission ∷ [], tt))), ghost) in
    let passed : Fml = owns (types_at F.signature.params κs) a (before ∷ [], (submission ∷ [], tt)) in
    qed 𝓛
    ((raw (alive 𝓛 F.signature κs qs) ⊛ ‵ passed) ∷ raw ((clauses κs a).requires ghost) ∷ []) ∵
    keep ! (0 ∷ []) $ split ! $ enter ! 𝓣.C 𝓣.Λ code.function (before ∷ submission ∷ []) _ $
    alloc_all ! (λ l. pass_all ! refl ((tt, tt), ((tt, tt), tt)) $
    sets ! (agg ! (no_more !)) refl (tt, tt) $ returns ! (look_at ! 0 refl) $ free_all ! refl $
    suffices ! _ (ends_at 𝓛 F.ended stayed clauses bound (vstruct vnil) made (tt, (tt, tt))
    (tt, (tt, tt))) $
    says ! refl $
    pure_i ! (H.the_row.own_val made (vstruct vnil ∷ [])) ((λ vss. (tt, tt)), tt)
    ((tt, (refl, tt)), tt) $
    move ! (1 ∷ 2 ∷ 0 ∷ []) $ done !))
