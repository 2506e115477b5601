-- What a `&` to a handle of either kind lends.
use Rattle.std.proofs.Common.{◌≡◌, List, [], ◌∷◌, ℕ, refl}
use seplogic.Ra.Ura.{Ura}
use mir.Raw.{raw as bare}
use mir.Syntax.{ty_ptr}
use mir.Val.{Val}
use base.Fml.{Fml, Lft, Share, fat, fbor, fex, flft, fsep, ftrue}
use base.Fraction.{full_share}
use base.Logic.{apply∗, ent, fst∗, never, sep, via, wand}
use contract.Monad.{fact_use}
use types.Logic.{Logic, lfts, sem}
use types.Kit.{Goal, Item, Seq, Soaks, Step, ‵, ◌⊛◌, raw, later, step, ◌$◌, !, await, done, drop}
use types.Kit.{feq_i, feq_l, fpack, fpick, fsplit, move, now, qed, rewrite, split, updating, use1, use2}
use denote.Copied.{plain_Copied}
use denote.Memory.{cell_at, hidden_shr, lone, part_at, shared_of}
use denote.Opens.{Shut}
use denote.RattleType.{RattleType, RowLaws}
use denote.RawPtr.{Ptr, RawPtr, Testable, block_ptr, coded_ptr, in_a_block, lies_at, null_ptr, ptr_own}
use denote.RawPtr.{ptr_val, rawptr_pure}
use denote.Shares.{SharesAt}
use denote.Sharing.{ShrLaws, said}
use denote.SharingLaws.{beside_shr_laws, said_shr_laws}
use denote.Steps.{looks, nothing, shuts}
use denote.Struct.Laws.{RawPtr-laws}
use denote.Struct.Lending.{Lends, Lends-both, Lends-lies, Lends-said, lent_at, lent_at_shr_laws}
use Rattle.std.specs.declared.alloc.Global.{Global}
use Rattle.std.specs.declared.option.Option.{Option}
use Rattle.std.specs.declared.option.Option.TheVariants.{None, Some}
use Rattle.std.proofs.GlobalToken.{dealloc_token-Testable}
use Rattle.c_handle.specs.Handles.{handle_owns, handle_shares}
use Rattle.c_handle.proofs.HandleSteps.{token}

abbrev testable : Ptr → Fml
testable p = fex (Testable p) (λ _. ftrue)

-- ---- the law

pub shares_laws : (R : RattleType) → RowLaws R → (p : Ptr) (v : Option R.Denot)
    → ShrLaws (handle_shares R p v)
shares_laws R laws p None = said_shr_laws (handle_shares R p None []) tt
shares_laws R laws p (Some x) =
    beside_shr_laws (lent_at R p x) (said (testable p)) (lent_at_shr_laws R laws p x)
    (said_shr_laws (testable p) (λ _. tt))

module _ {M : Type 1} {𝓤 : Ura M} (𝓛 : Logic 𝓤) where
  open 𝓛 use {H, A}

  -- the right to free a block says that its pointer may be compared with null
  testable_too : (a : Global) (τ : mir.Syntax.Ty) (p : Ptr)
      → ent 𝓤 (sem 𝓛 (token a τ p)) (sep 𝓤 (sem 𝓛 (token a τ p)) (sem 𝓛 (testable p)))
  testable_too a τ p =
      let P = token a τ p in
      fact_use 𝓤 (Testable p) (dealloc_token-Testable 𝓛 a τ p) (λ may.
      qed 𝓛 (‵ P ∷ []) {P = sep 𝓤 (sem 𝓛 P) (sem 𝓛 (testable p))}
      (nothing ! $ fpack ! (Testable p) (λ _. ftrue) may $ move ! (1 ∷ []) $ done !))

  lends_test : (a : Global) (τ : mir.Syntax.Ty) (p : Ptr) (l : Lft)
      → Lends 𝓛 (token a τ p) (said (testable p)) l
  lends_test a τ p l κ ts inc sp =
      let P = token a τ p in let T = testable p in
      qed 𝓛 (‵ (fbor κ P) ∷ raw (lfts 𝓛 ts) ∷ []) {P = H.⇛ (sep 𝓤 (sem 𝓛 T) (lfts 𝓛 ts))} (
      updating ! $
      use2 𝓛 (later (‵ P ⊛ raw (wand 𝓤 (sem 𝓛 P) (H.⇛ (sep 𝓤 (A.bor κ P) (lfts 𝓛 ts))))))
      (𝓛.more.bor_acc_by κ ts P sp) $ await ! tt $ split ! $
      use1 𝓛 (‵ P ⊛ ‵ T) (testable_too a τ p) $ split ! $ move ! (0 ∷ 2 ∷ []) $
      use2 𝓛 (later (‵ (fbor κ P) ⊛ raw (lfts 𝓛 ts)))
      (apply∗ 𝓤 (sem 𝓛 P) (H.⇛ (sep 𝓤 (A.bor κ P) (lfts 𝓛 ts)))) $ await ! tt $
      split ! $ drop ! $ move ! (1 ∷ 0 ∷ []) $ now ! $ done !)

  pub handle_lends : (R : RattleType) (l : Lft) → ((x : R.Denot) → SharesAt 𝓛 R x (shared_of R x) l)
      → (a : Global) (p : Ptr) (v : Option R.Denot)
      → Lends 𝓛 (handle_owns R a p v) (handle_shares R p v) l
  handle_lends R l shares a p None = Lends-said 𝓛 (handle_owns R a p None) tt l
  handle_lends R l shares a p (Some x) =
      Lends-both 𝓛 (lies_at R full_share p x) (token a (bare (lone R.mir)) p) (lent_at R p x)
      (said (testable p)) l (Lends-lies 𝓛 R l p x (shares x))
      (lends_test a (bare (lone R.mir)) p l)

-- ---- a look through the `&`

module _ {M : Type 1} {𝓤 : Ura M} {𝓛 : Logic 𝓤} {K : Type 0} {Γ : List (Item 𝓤)}
    {G : Goal 𝓤 𝓛.H} where
  -- nothing is kept, or a value is lent
  pub either_lent : K → (R : RattleType) (κ : Lft) (p : Ptr) (v : Option R.Denot)
      → (p ≡ null_ptr → v ≡ None → Seq K 𝓛 Γ G)
      → ((b o : ℕ) (x : R.Denot) → p ≡ block_ptr b o → v ≡ Some x → Testable (block_ptr b o)
      → Seq K 𝓛 (‵ (shared_of R x b o κ) ∷ Γ) G)
      → Seq K 𝓛 (‵ (handle_shares R p v κ) ∷ Γ) G
  either_lent t R κ p None none one = feq_l t (λ e. none e refl)
  either_lent t R κ p (Some x) none one =
      in_a_block t p (λ q. fsep (lent_at R q x κ) (testable q))
      (via 𝓤 (sem 𝓛 (lent_at R null_ptr x κ))
      (fst∗ 𝓤 (sem 𝓛 (lent_at R null_ptr x κ)) (sem 𝓛 (testable null_ptr)))
      (fst∗ 𝓤 (never 𝓤) (sem 𝓛 (shared_of R x 0 0 κ))))
      (λ b o e. fsplit t $ move t (1 ∷ []) $ fpick t (λ may. drop t $
      fsplit t $ drop t $ one b o x e refl may))

  -- the pointer is read, and the way back is kept
  pub pointer_out : K → Soaks G → {κ : Lft} {q : Share} {S : Fml} (p : Ptr) (b at : ℕ)
      → ent 𝓤 (sem 𝓛 S) (sep 𝓤 (sem 𝓛 (hidden_shr RawPtr κ p b at)) (sem 𝓛 S))
      → ((q' : Share) → Seq K 𝓛
      (‵ (fat q' ty_ptr b at (ptr_val p)) ∷ Shut 𝓛 κ q (part_at RawPtr q' p b at) ∷ ‵ S ∷ Γ) G)
      → Seq K 𝓛 (‵ S ∷ ‵ (flft κ q) ∷ Γ) G
  pointer_out t z {κ} {q} {S} p b at shown k =
      use1 𝓛 (‵ (hidden_shr RawPtr κ p b at) ⊛ ‵ S) shown $ split t $ move t (0 ∷ 2 ∷ []) $
      looks t z RawPtr
      (plain_Copied 𝓛 Ptr coded_ptr (ty_ptr ∷ []) ptr_own rawptr_pure ptr_val
      RawPtr-laws.tells).opens p b at (λ q' vs. move t (1 ∷ []) $ feq_l t (λ e.
      rewrite t 0 (λ (us : List Val). ‵ (cell_at q' RawPtr.mir us b at)) e refl $
      move t (2 ∷ []) $ drop t $ k q'))

  pub pointer_back : K → Soaks G → {κ : Lft} {q q' : Share} (p : Ptr) (b at : ℕ)
      → Step K 𝓛 (‵ (flft κ q) ∷ Γ) G
      (‵ (fat q' ty_ptr b at (ptr_val p)) ∷ Shut 𝓛 κ q (part_at RawPtr q' p b at) ∷ Γ) G
  pointer_back t z {q' = q'} p b at = step (λ s.
      feq_i t (List Val) (ptr_val p ∷ []) (ptr_val p ∷ []) refl $ move t (1 ∷ 0 ∷ []) $
      shuts t z RawPtr q' p (ptr_val p ∷ []) b at $ s)
