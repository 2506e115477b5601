-- The body makes the struct, which takes no memory. The proof picks what it says: no item.
use Rattle.std.proofs.Common.{[], ◌∷◌, refl}
use mir.Val.{vstruct, vnil}
use types.Kit.{‵, raw, ◌⊛◌, ◌$◌, ◌∵◌, !, qed, move, keep, split, suffices, done}
use types.Part.{agg}
use types.Run.{no_more, returns, enter}
use types.ByLocal.{alloc_all, pass_all, free_all, look_at, sets}
use contract.Running.{tables}
use denote.Shadow.{pure_i}
use denote.RattleType.{owns}
use denote.Signature.{types_at}
use denote.Triple.Entry.{alive}
use denote.Triple.Walked.{says, Stays, walk_of, ends_at}
use Rattle.std.proofs.raw_atomic.Walks.{proved}
use Rattle.bl_store.specs.contracts.history.History as H
use Rattle.bl_store.specs.contracts.history.History.new as F
use Rattle.bl_store.proofs.history.History.new.Statement.{statement}
use Rattle.bl_store.proofs.history.History.new.Code as code

pub new_spec : {M : Type 1} → statement M
new_spec 𝓤 𝓛 𝓜 𝓡 wired =
    let 𝓣 = tables 𝓤 𝓛.H 𝓜 𝓡 𝓡.env in
    let clauses = F.clauses 𝓛 𝓜.mem 𝓡.returns in
    let stayed : Stays F.ended.signature.params F.ended.kept = tt in
    proved 𝓛 F.ended stayed clauses 𝓜 𝓡 tt
    F.Key.name code.function (code.unfolded 𝓤 𝓛.H 𝓜 𝓡 wired)
    (λ κs. tt) (λ κs. tt) (λ κs qs bounds a ghost are.
    let made : H.the_row.Denot = record { items = [] } in
    let bound : (walk_of 𝓛 F.ended stayed clauses).Ghost = ((κs, qs, bounds, a, tt), ghost) in
    qed 𝓛 ((raw (alive 𝓛 F.signature κs qs) ⊛ ‵ (owns (types_at F.signature.params κs) a tt))
    ∷ raw ((clauses κs a).requires ghost) ∷ []) ∵
    keep ! (0 ∷ []) $ split ! $ enter ! 𝓣.C 𝓣.Λ code.function [] _ $
    alloc_all ! (λ l. pass_all ! refl tt $
    sets ! (agg ! (no_more !)) refl (tt, tt) $ returns ! (look_at ! 0 refl) $ free_all ! refl $
    suffices ! _ (ends_at 𝓛 F.ended stayed clauses bound (vstruct vnil) made tt tt) $
    says ! refl $
    pure_i ! (H.the_row.own_val made (vstruct vnil ∷ [])) ((λ vss. (tt, tt)), tt)
    ((tt, (refl, tt)), tt) $
    move ! (1 ∷ 2 ∷ 0 ∷ []) $ done !))
