-- The body makes the struct, which takes no memory. The proof picks what it says: these bytes more.
use Rattle.std.proofs.Common.{◌<◌, ◌^◌, [], ◌∷◌, ◌++◌, length, refl}
use seplogic.Ra.Ura.{Ura}
use mir.Syntax.{named}
use mir.Val.{Val, vptr, vstruct, vnil}
use base.Logic.{SProp, ent, emp, via, fst∗}
use base.Fml.{Fml}
use prog.Memory.{Memory}
use prog.Routine.{Routine}
use prog.Wp.{Calls, Loops, WpFn}
use types.Logic.{Logic}
use types.Kit.{‵, raw, ◌$◌, ◌∵◌, !, qed, move, suffices, done}
use types.Part.{agg}
use types.Run.{no_more, returns, enter}
use types.ByLocal.{alloc_all, pass_all, free_all, look_at, sets}
use contract.Lifetimes.{Lfts, Shares}
use contract.Running.{tables}
use denote.Exit.{yes}
use denote.RattleType.{owns}
use denote.Builtin.{u8}
use denote.Ref.{shr_vals, shr_Tells}
use denote.Slice.{slice_val, shr_slice_vals, shr_slice_Tells}
use denote.Shadow.{pure_i}
use denote.Signature.{plain, types_at}
use denote.Triple.Entry.{on_entry, alive, Args}
use denote.Triple.Walked.{says, Stays, stay_none_ref, stay_none_slice, Goes-none_ref}
use denote.Triple.Walked.{Goes-none_slice, walk_of, ends_at}
use Rattle.std.proofs.raw_atomic.Walks.{proved}
use Rattle.bl_image.specs.contracts.ghost_history.History as H
use Rattle.bl_image.specs.contracts.ghost_history.History.with_part as F
use Rattle.bl_image.proofs.ghost_history.History.with_part.Statement.{statement}
use Rattle.bl_image.proofs.ghost_history.History.with_part.Code as code

abbrev stayed : Stays F.ended.signature.params F.ended.kept
stayed = (
  stay_none_ref (0 ∷ []) tt (plain (λ _. H.the_row)) yes,
  (stay_none_slice (1 ∷ []) tt (plain (λ _. u8)) yes, tt),
)

module _ {M : Type 1} {𝓤 : Ura M} (𝓛 : Logic 𝓤) (mem : Memory → SProp 𝓤)
    (run : Routine → contract.Monad.Fun 𝓤) (C : Calls 𝓤 𝓛.H) (Λ : Loops 𝓤 𝓛.H)
    (κs : Lfts 2) (qs : Shares 2) (a : Args F.signature κs) where
  abbrev before : Val
  before = vptr a.0.ref_ptr.0 a.0.ref_ptr.1

  abbrev part : Val
  part = slice_val a.1.0.ref_ptr (length a.1.0.now)

  abbrev bound : (walk_of 𝓛 F.ended stayed (F.clauses 𝓛 mem run)).Ghost
  bound = ((κs, qs, tt, a, (before ∷ [], (part ∷ [], tt))), tt)

  abbrev made : H.the_row.Denot
  made = record { bytes = a.0.now.bytes ++ a.1.0.now }

  abbrev passed : Fml
  passed = owns (types_at F.signature.params κs) a (before ∷ [], (part ∷ [], tt))

  walk : length a.1.0.now < 2 ^ 64
      → ent 𝓤 (on_entry 𝓛 F.signature κs qs a (before ∷ [], (part ∷ [], tt)))
      (WpFn 𝓤 𝓛.H C Λ code.function (before ∷ part ∷ [])
      ((walk_of 𝓛 F.ended stayed (F.clauses 𝓛 mem run)).post bound))
  walk fits =
      qed 𝓛 (raw (alive 𝓛 F.signature κs qs) ∷ ‵ passed ∷ []) ∵ enter ! C Λ code.function
      (before ∷ part ∷ []) _ $
      alloc_all ! (λ l. pass_all ! refl ((tt, tt), ((tt, (tt, (record { fits = fits }, tt))), tt)) $
      sets ! (agg ! (no_more !)) refl (tt, tt) $
      returns ! (look_at ! 0 refl) $ free_all ! refl $
      suffices ! _ (ends_at 𝓛 F.ended stayed (F.clauses 𝓛 mem run) bound (vstruct vnil) made
      (tt, (tt, tt)) (tt, (tt, tt))) $
      says ! refl $
      pure_i ! (H.the_row.own_val made (vstruct vnil ∷ [])) ((λ vss. (tt, tt)), tt)
      ((tt, (refl, tt)), tt) $
      move ! (1 ∷ 2 ∷ 0 ∷ []) $ done !)

pub with_part_spec : {M : Type 1} → statement M
with_part_spec 𝓤 𝓛 𝓜 𝓡 wired =
    let 𝓣 = tables 𝓤 𝓛.H 𝓜 𝓡 𝓡.env in
    proved 𝓛 F.ended stayed (F.clauses 𝓛 𝓜.mem 𝓡.returns) 𝓜 𝓡 (
      Goes-none_ref 𝓛 2 (0 ∷ []) tt (plain (λ _. H.the_row)) yes,
      (Goes-none_slice 𝓛 2 (1 ∷ []) tt (plain (λ _. u8)) yes, tt),
    )
    F.Key.name code.function (code.unfolded 𝓤 𝓛.H 𝓜 𝓡 wired)
    (λ κs. (shr_vals, (shr_slice_vals, tt)))
    (λ κs. (shr_Tells (named 0) κs.0 H.the_row, (shr_slice_Tells (named 1) κs.1.0 u8, tt)))
    (λ κs qs bounds a g are.
    via 𝓤 _ (fst∗ 𝓤 _ (emp 𝓤)) (walk 𝓛 𝓜.mem 𝓡.returns 𝓣.C 𝓣.Λ κs qs a are.1.0.0.1.0))
