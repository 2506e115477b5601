-- What is owned of a handle to a session for the time of a call, at its machine value.
use Rattle.std.proofs.Common.{◌≡◌, List, [], ◌∷◌, ◌++◌, refl, subst}
use seplogic.Ra.Ura.{Ura}
use mir.Val.{Val, vstruct, of_list}
use types.Logic.{Logic}
use types.Kit.{Item, Goal, Seq, Step, step, ‵, ◌$◌, move, drop, fsplit, fjoin, fpick, fpack}
use types.Kit.{feq_i, feq_l}
use denote.RattleType.{RattleType, Valss}
use denote.Builtin.{RawPtr}
use denote.RawPtr.{Ptr, ptr_val}
use denote.Steps.{nothing}
use denote.Param.{layout}
use denote.Struct.Struct.{within}
use denote.Struct.Owning.{shape}
use Rattle.std.proofs.alloc.Calls.{handle_tells}
use Rattle.std.proofs.cell.Inside.{Good}
use Rattle.std.specs.declared.option.Option.{Option}
use Rattle.std.specs.declared.alloc.Global.{Global}
use Rattle.std.specs.contracts.alloc.Global as heap
use Rattle.std.specs.contracts.impls.GlobalAllocator.TheImpl.{ghosts}
use Rattle.c_handle.specs.Handles.{session_type, handle_owns}
use Rattle.c_handle.specs.contracts.lent_handle.LentHandle as handle
use Rattle.c_handle.proofs.HandleSteps.{Z, L}
use Rattle.c_handle.proofs.RawBoxSteps.{two, al}

abbrev pub R : RattleType
R = session_type

abbrev pub LentHandle : RattleType
LentHandle = handle.the_row

module _ {M : Type 1} {𝓤 : Ura M} {𝓛 : Logic 𝓤} {K : Type 0} {Γ : List (Item 𝓤)}
    {G : Goal 𝓤 𝓛.H} where
  pub lent_out : K → (d : LentHandle.Denot) (vs : List Val)
      → ((h : Val) → vs ≡ two (ptr_val d.at) h ∷ [] → Good (layout Z) h
      → Seq K 𝓛 (‵ (handle_owns R d.alloc d.at d.kept) ∷ ‵ (Z.own_val d.alloc (h ∷ [])) ∷ Γ) G)
      → Seq K 𝓛 (‵ (LentHandle.own_val d vs) ∷ Γ) G
  lent_out t d vs k =
      fsplit t $ fpick t (λ vss. fsplit t $ feq_l t (λ ev. fsplit t $ feq_l t (λ ep. fsplit t $
      handle_tells (al R Z L ghosts) t d.alloc vss.1.0 (λ h ea fits.
      move t (1 ∷ []) $ drop t $ move t (1 ∷ []) $ k h
      (subst (λ (ws : List Val). vs ≡ vstruct (of_list (ptr_val d.at ∷ (ws ++ []))) ∷ []) ea
      (subst (λ (ps : List Val). vs ≡ vstruct (of_list (ps ++ (vss.1.0 ++ []))) ∷ []) ep ev))
      fits))))

  pub lent_in : K → (p : Ptr) (h : Val) (a : Global) (x : Option R.Denot)
      → Step K 𝓛
      (‵ (LentHandle.own_val (record { at = p; alloc = a; kept = x }) (two (ptr_val p) h ∷ [])) ∷ Γ) G
      (‵ (handle_owns R a p x) ∷ ‵ (Z.own_val a (h ∷ [])) ∷ Γ) G
  lent_in t p h a x = step (λ s. let v : Val = two (ptr_val p) h in
      nothing t $ move t (2 ∷ 0 ∷ []) $ fjoin t $
      feq_i t (List Val) (ptr_val p ∷ []) (ptr_val p ∷ []) refl $ fjoin t $
      feq_i t (List Val) (v ∷ []) (v ∷ []) refl $ fjoin t $
      fpack t (Valss (RawPtr ∷ Z ∷ []))
      (within (shape handle.the_type) (p, ((heap.the_field).into a, tt)) (v ∷ []))
      (ptr_val p ∷ [], (h ∷ [], tt)) $ fjoin t $ s)
