-- Steps of placing row after row.
use Rattle.std.proofs.Common.{◌≡◌, ◌+◌, ℕ, List, [], ◌∷◌, ◌++◌, length, sym, refl, subst, ap, ◌∙◌}
use Rattle.std.proofs.Common.{append_assoc, inr}
use Rattle.std.proofs.lemmas.List.{append-nil}
use Rattle.std.specs.declared.ops.Range.{Range}
use Rattle.bl_map.specs.MachineFacts.{MachineFacts, AllUsable}
use Rattle.bl_plan.specs.declared.part.Choice.{Choice}
use Rattle.bl_plan.specs.declared.part.Choice.TheVariants.{Fixed}
use Rattle.bl_plan.specs.declared.fault.PlanFault.{PlanFault}
use Rattle.bl_plan.specs.declared.part.Row.{Row}
use Rattle.bl_plan.specs.declared.part.Place.{Place}
use Rattle.bl_plan.specs.Permitted.{AreUntaken, AreUnavoided, HasFixedFault, OrNoMemory}
use Rattle.bl_plan.specs.Placed.{IsChosen, HasChoiceFault, ArePlaced, IsFirstPlaceFault, row_place}
use Rattle.bl_plan.specs.PlannerFacts.{put_in}

pub fixed_chosen : (facts : MachineFacts) (taken : List (Range ℕ)) (length at end : ℕ)
    (choice : Choice) → choice ≡ Fixed at → end ≡ at + length
    → AllUsable facts at end × AreUnavoided facts at end × AreUntaken taken at end
    → IsChosen facts taken length choice at
fixed_chosen facts taken length at end choice fixed sum h =
    let here =
    subst (λ (n : ℕ). AllUsable facts at n × AreUnavoided facts at n × AreUntaken taken at n) sum h in
    subst (λ (x : Choice). IsChosen facts taken length x at) (sym fixed)
    (refl, here.0, here.1, here.2)

pub fixed_fault : (facts : MachineFacts) (taken : List (Range ℕ)) (length at end : ℕ)
    (choice : Choice) (fault : PlanFault) → choice ≡ Fixed at → end ≡ at + length
    → OrNoMemory (HasFixedFault facts taken at end) fault
    → OrNoMemory (HasChoiceFault facts taken length choice) fault
fixed_fault facts taken length at end choice fault fixed sum h =
    let here = subst (λ (n : ℕ). OrNoMemory (HasFixedFault facts taken at n) fault) sum h in
    subst (λ (x : Choice). OrNoMemory (HasChoiceFault facts taken length x) fault) (sym fixed) here

-- all rows are placed where nothing is left
pub placed_all : (facts : MachineFacts) (taken : List (Range ℕ)) (rest all : List Row)
    (front : List Place) → rest ≡ []
    → ((places : List Place) → ArePlaced facts taken rest places
    → ArePlaced facts [] all (front ++ places)) → ArePlaced facts [] all front
placed_all facts taken rest all front none so_far =
    subst (λ (places : List Place). ArePlaced facts [] all places) (append-nil front)
    (so_far [] (subst (λ (left : List Row). ArePlaced facts taken left []) (sym none) tt))

-- once a row has its place, the rows after it go on beside that
module _ (facts : MachineFacts) (taken more : List (Range ℕ)) (all rows : List Row) (row : Row)
    (rest : List Row) (address : ℕ) (cons : rows ≡ row ∷ rest)
    (chosen : IsChosen facts taken row.length row.choice address)
    (put : more ≡ put_in (record { start = address; end = address + row.length }) taken) where
  pub one_more_placed : (front longer : List Place) → longer ≡ front ++ row_place row address ∷ []
      → ((places : List Place) → ArePlaced facts taken rows places
      → ArePlaced facts [] all (front ++ places))
      → (places : List Place) → ArePlaced facts more rest places
      → ArePlaced facts [] all (longer ++ places)
  one_more_placed front longer is so_far places placed =
      let later = subst (λ (t : List (Range ℕ)). ArePlaced facts t rest places) put placed in
      let here : ArePlaced facts taken (row ∷ rest) (row_place row address ∷ places) =
      (chosen, refl, later) in
      let whole = so_far (row_place row address ∷ places)
      (subst (λ (r : List Row). ArePlaced facts taken r (row_place row address ∷ places))
      (sym cons) here) in
      let same : longer ++ places ≡ front ++ (row_place row address ∷ places) =
      ap (λ (ps : List Place). ps ++ places) is
      ∙ append_assoc front (row_place row address ∷ []) places in
      subst (λ (ps : List Place). ArePlaced facts [] all ps) (sym same) whole

  pub one_more_refused : (fault : PlanFault)
      → (IsFirstPlaceFault facts taken rows fault → IsFirstPlaceFault facts [] all fault)
      → IsFirstPlaceFault facts more rest fault → IsFirstPlaceFault facts [] all fault
  one_more_refused fault so_far has =
      let later = subst (λ (t : List (Range ℕ)). IsFirstPlaceFault facts t rest fault) put has in
      so_far (subst (λ (r : List Row). IsFirstPlaceFault facts taken r fault) (sym cons)
      (inr (address, chosen, later)))
