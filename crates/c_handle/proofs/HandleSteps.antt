-- What is owned behind a handle of either kind.
use Rattle.std.proofs.Common.{◌≡◌, ◌&&◌, true, ℕ, List, ◌∷◌, refl, lit<}
use lib.Dec.{T}
use seplogic.Ra.Ura.{Ura}
use mir.Raw.{raw as bare}
use mir.Val.{Val, has_ty, WT}
use base.Logic.{ent, guard, via, snd∗, fst∗, never, guard_i}
use types.Logic.{Logic, sem}
use types.Kit.{Item, Goal, Seq, ‵, given, ◌$◌}
use types.Kit.{feq_l, use1, learn}
use contract.Monad.{fact_use}
use denote.RattleType.{RattleType}
use denote.Memory.{lone}
use denote.RawPtr.{Ptr, block_ptr, null_ptr, ptr_val, in_a_block, lies_at, Testable}
use denote.Param.{layout}
use denote.Param.Laws.{Laws}
use base.Fraction.{full_share}
use Rattle.std.proofs.cell.Inside.{Good}
use Rattle.std.specs.declared.option.Option.{Option}
use Rattle.std.specs.declared.option.Option.TheVariants.{None, Some}
use Rattle.std.specs.declared.alloc.Global.{Global}
use Rattle.std.specs.contracts.alloc.Global as heap
use Rattle.std.proofs.alloc.Global.TheLaws as heap_laws
use Rattle.std.specs.contracts.impls.GlobalAllocator.TheImpl.{ghosts}
use Rattle.std.proofs.GlobalToken.{dealloc_token-Testable}
use Rattle.std.specs.Box.Ownership.{box_owns}
use Rattle.std.proofs.ResultValues.{and_tt}
use Rattle.c_handle.specs.Handles.{handle_owns}
use Rattle.c_handle.proofs.RawBoxSteps.{two}

abbrev pub Z : RattleType
Z = heap.the_row

abbrev pub L : Laws Z
L = heap_laws.the_row_laws

abbrev pub token : Global → mir.Syntax.Ty → Ptr → base.Fml.Fml
token a = ghosts.dealloc_token a

pub handle_good : (p : Ptr) (h : Val) → Good (layout Z) h
    → T (has_ty mir.Syntax.ty_ptr (ptr_val p) && (has_ty (layout Z) h && true))
    × WT (two (ptr_val p) h)
handle_good (block_ptr b o) h fits = (and_tt (has_ty (layout Z) h) fits.0, (tt, (fits.1, tt)))
handle_good null_ptr h fits =
    (and_tt (has_ty (layout Z) h) fits.0, (record { fits = lit< tt }, (fits.1, tt)))

pub pointer_good : (p : Ptr) → T (has_ty mir.Syntax.ty_ptr (ptr_val p)) × WT (ptr_val p)
pointer_good (block_ptr b o) = (tt, tt)
pointer_good null_ptr = (tt, record { fits = lit< tt })

module _ {M : Type 1} {𝓤 : Ura M} (𝓛 : Logic 𝓤) (R : RattleType) where
  tested : (a : Global) (p : Ptr) (x : R.Denot)
      → ent 𝓤 (sem 𝓛 (box_owns (token a) R p x))
      (guard 𝓤 (Testable p) (sem 𝓛 (box_owns (token a) R p x)))
  tested a p x =
      let B = sem 𝓛 (box_owns (token a) R p x) in
      fact_use 𝓤 (Testable p)
      (via 𝓤 _
      (snd∗ 𝓤 (sem 𝓛 (lies_at R full_share p x)) (sem 𝓛 (token a (bare (lone R.mir)) p)))
      (dealloc_token-Testable 𝓛 a (bare (lone R.mir)) p))
      (guard_i 𝓤 (Testable p) B)

module _ {M : Type 1} {𝓤 : Ura M} {𝓛 : Logic 𝓤} {K : Type 0} {Γ : List (Item 𝓤)}
    {G : Goal 𝓤 𝓛.H} (R : RattleType) where
  pub either_held : K → (a : Global) (p : Ptr) (v : Option R.Denot)
      → (p ≡ null_ptr → v ≡ None → Seq K 𝓛 Γ G)
      → ((b o : ℕ) (x : R.Denot) → p ≡ block_ptr b o → v ≡ Some x → Testable (block_ptr b o)
      → Seq K 𝓛 (‵ (box_owns (token a) R (block_ptr b o) x) ∷ Γ) G)
      → Seq K 𝓛 (‵ (handle_owns R a p v) ∷ Γ) G
  either_held t a p None none one = feq_l t (λ e. none e refl)
  either_held t a p (Some x) none one =
      in_a_block t p (λ q. box_owns (token a) R q x)
      (fst∗ 𝓤 (never 𝓤) (sem 𝓛 (token a (bare (lone R.mir)) null_ptr)))
      (λ b o e.
      use1 𝓛 (given (Testable (block_ptr b o)) (‵ (box_owns (token a) R (block_ptr b o) x)))
      (tested 𝓛 R a (block_ptr b o) x) $
      learn t (λ test. one b o x e refl test))
