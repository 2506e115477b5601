-- The body makes the struct, which takes no memory. The proof picks what it says: one name more.
use Rattle.std.proofs.Common.{◌<◌, ◌^◌, [], ◌∷◌, ◌++◌, length, refl}
use mir.Syntax.{named}
use mir.Val.{Val, vptr, vstruct, vnil}
use base.Fml.{Fml}
use types.Kit.{‵, raw, ◌⊛◌, ◌$◌, ◌∵◌, !, qed, move, keep, split, suffices, done}
use types.Part.{agg}
use types.Run.{no_more, returns, enter}
use types.ByLocal.{alloc_all, pass_all, free_all, look_at, sets}
use contract.Running.{tables}
use denote.Builtin.{u8}
use denote.Exit.{yes}
use denote.RattleType.{owns}
use denote.Ref.{shr_vals, shr_Tells}
use denote.Slice.{slice_val, shr_slice_vals, shr_slice_Tells}
use denote.Shadow.{pure_i}
use denote.Signature.{plain, types_at}
use denote.Triple.Entry.{alive}
use denote.Triple.Walked.{says, Stays, stay_none_ref, stay_none_slice, Goes-none_ref}
use denote.Triple.Walked.{Goes-none_slice, walk_of, ends_at}
use Rattle.std.proofs.raw_atomic.Walks.{proved}
use Rattle.program_boots.specs.contracts.described.files.asked_names.AskedNames as N
use Rattle.program_boots.specs.contracts.described.files.asked_names.AskedNames.with_name as F
use Rattle.program_boots.proofs.described.files.asked_names.AskedNames.with_name.Statement.{statement}
use Rattle.program_boots.proofs.described.files.asked_names.AskedNames.with_name.Code as code

pub with_name_spec : {M : Type 1} → statement M
with_name_spec 𝓤 𝓛 𝓜 𝓡 wired =
    let 𝓣 = tables 𝓤 𝓛.H 𝓜 𝓡 𝓡.env in
    let clauses = F.clauses 𝓛 𝓜.mem 𝓡.returns in
    let stayed : Stays F.ended.signature.params F.ended.kept = (
      stay_none_ref (0 ∷ []) tt (plain (λ _. N.the_row)) yes,
      (stay_none_slice (1 ∷ []) tt (plain (λ _. u8)) yes, tt),
    ) in
    proved 𝓛 F.ended stayed clauses 𝓜 𝓡 (
      Goes-none_ref 𝓛 2 (0 ∷ []) tt (plain (λ _. N.the_row)) yes,
      (Goes-none_slice 𝓛 2 (1 ∷ []) tt (plain (λ _. u8)) yes, tt),
    )
    F.Key.name code.function (code.unfolded 𝓤 𝓛.H 𝓜 𝓡 wired)
    (λ κs. (shr_vals, (shr_slice_vals, tt)))
    (λ κs. (shr_Tells (named 0) κs.0 N.the_row, (shr_slice_Tells (named 1) κs.1.0 u8, tt)))
    (λ κs qs bounds a ghost are.
    let before : Val = vptr a.0.ref_ptr.0 a.0.ref_ptr.1 in
    let name : Val = slice_val a.1.0.ref_ptr (length a.1.0.now) in
    let fits : length a.1.0.now < 2 ^ 64 = are.1.0.0.1.0 in
    let made : N.the_row.Denot = record { names = a.0.now.names ++ a.1.0.now ∷ [] } in
    let bound : (walk_of 𝓛 F.ended stayed clauses).Ghost =
    ((κs, qs, bounds, a, (before ∷ [], (name ∷ [], tt))), ghost) in
    let passed : Fml = owns (types_at F.signature.params κs) a (before ∷ [], (name ∷ [], tt)) in
    qed 𝓛
    ((raw (alive 𝓛 F.signature κs qs) ⊛ ‵ passed) ∷ raw ((clauses κs a).requires ghost) ∷ []) ∵
    keep ! (0 ∷ []) $ split ! $ enter ! 𝓣.C 𝓣.Λ code.function (before ∷ name ∷ []) _ $
    alloc_all ! (λ l.
    pass_all ! refl ((tt, tt), ((tt, (tt, (record { fits = fits }, tt))), tt)) $
    sets ! (agg ! (no_more !)) refl (tt, tt) $ returns ! (look_at ! 0 refl) $ free_all ! refl $
    suffices ! _ (ends_at 𝓛 F.ended stayed clauses bound (vstruct vnil) made (tt, (tt, tt))
    (tt, (tt, tt))) $
    says ! refl $
    pure_i ! (N.the_row.own_val made (vstruct vnil ∷ [])) ((λ vss. (tt, tt)), tt)
    ((tt, (refl, tt)), tt) $
    move ! (1 ∷ 2 ∷ 0 ∷ []) $ done !))
