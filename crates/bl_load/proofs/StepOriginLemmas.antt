-- Plans whose parts come from the same have the same steps.
use Rattle.std.proofs.Common.{◌≡◌, ℕ, ◌+◌, ◌-◌, List, [], ◌∷◌, ◌++◌, length, map, refl, sym, ap, ap₂}
use Rattle.std.proofs.Common.{◌∙◌, subst, get_or}
use Rattle.std.proofs.lemmas.List.Elements.{All-map}
use Rattle.bl_map.specs.MachineFacts.{MachineFacts}
use Rattle.bl_mem.specs.declared.segment.Segment.{Segment}
use Rattle.bl_plan.specs.AddressOrder.{places_in_order}
use Rattle.bl_plan.specs.Placed.{ArePlaced}
use Rattle.bl_plan.specs.declared.part.Place.{Place}
use Rattle.bl_plan.specs.declared.part.Role.{Role}
use Rattle.bl_plan.proofs.OneListLaws as places
use Rattle.bl_load.specs.declared.plan.Content.{Content}
use Rattle.bl_load.specs.declared.plan.Content.TheVariants.{Own, File, Block}
use Rattle.bl_load.specs.declared.plan.PlannedPart.{PlannedPart}
use Rattle.bl_load.specs.declared.step.Step.{Step}
use Rattle.bl_load.specs.declared.step.StepSource.TheVariants as source
use Rattle.bl_load.specs.EntryValue.{EntryValue}
use Rattle.bl_load.specs.KernelBlock.{span_of}
use Rattle.bl_load.specs.KernelReading.{KernelReading}
use Rattle.bl_load.specs.LeanPlans.{IsLean, IsLeanContent, IsLeanOrigin, AreLeanOrigins}
use Rattle.bl_load.specs.Loadable.{content_length}
use Rattle.bl_load.specs.Origins.{origin_of, PartOrigin}
use Rattle.bl_load.specs.Origins.{planned_origin, origin_at, AreOrigins}
use Rattle.bl_load.specs.PlanSteps.{one_step, block_steps, own_of, content_steps}
use Rattle.bl_load.specs.PlanSteps.{steps_from, own_bytes}
use Rattle.bl_load.specs.StepsByOrigins.{origin_length, own_of_origin, origin_steps, steps_by, own_by}
use Rattle.bl_load.specs.Rows.{rows_of}
use Rattle.bl_load.proofs.OneReadingLaws.{one_reading}

-- two contents at one address have the same steps, hold the same themselves and are as long
record AreAlike {A B : Type 0} (before at : ℕ) (c : Content A) (d : Content B) : Type 0 where
  steps : content_steps before at c ≡ content_steps before at d
  own : own_of c ≡ own_of d
  count : content_length c ≡ content_length d

same_content : {A B : Type 0} (before at : ℕ) (c : Content A) (d : Content B)
    → origin_of c ≡ origin_of d → AreAlike before at c d
same_content before at (Own x) (Own y) is =
    let e : x ≡ y = cc in
    record {
      steps =
          ap (λ (bytes : List ℕ). one_step at (length bytes) (source.Own before)) e;
      own = e;
      count = ap (λ (bytes : List ℕ). length bytes) e;
    }
same_content before at (Own x) (File g p m) is = absurd cc
same_content before at (Own x) (Block g t) is = absurd cc
same_content before at (File f o n) (Own y) is = absurd cc
same_content before at (File f o n) (File g p m) is =
    let file : f ≡ g = cc in
    let offset : o ≡ p = cc in
    let count : n ≡ m = cc in
    record { steps = rw (file, offset, count) refl; own = refl; count = count }
same_content before at (File f o n) (Block g t) is = absurd cc
same_content before at (Block f s) (Own y) is = absurd cc
same_content before at (Block f s) (File g p m) is = absurd cc
same_content before at (Block f s) (Block g t) is =
    let file : f ≡ g = cc in
    let e : s.items ≡ t.items = cc in
    record {
      steps = ap₂ (λ (x : ℕ) (xs : List Segment). block_steps at x xs) file e;
      own = refl;
      count = ap (λ (xs : List Segment). span_of xs) e;
    }

pub same_steps : {A B : Type 0} (before : ℕ) (ps : List (PlannedPart A)) (qs : List (PlannedPart B))
    → map planned_origin ps ≡ map planned_origin qs
    → (steps_from before ps ≡ steps_from before qs) × (own_bytes ps ≡ own_bytes qs)
same_steps before [] [] is = (refl, refl)
same_steps before [] (q ∷ qs) is = absurd cc
same_steps before (p ∷ ps) [] is = absurd cc
same_steps before (p ∷ ps) (q ∷ qs) is =
    let head : planned_origin p ≡ planned_origin q = cc in
    let tail : map planned_origin ps ≡ map planned_origin qs = cc in
    let place : p.place ≡ q.place = ap (λ (o : PartOrigin). o.place) head in
    let origin : origin_of p.content ≡ origin_of q.content =
    ap (λ (o : PartOrigin). o.origin) head in
    let at : ℕ = q.place.address in
    let same = same_content before at p.content q.content origin in
    let behind : ℕ = before + length (own_of q.content) in
    let rest = same_steps behind ps qs tail in
    let zeros : List Step =
    one_step (at + content_length q.content) (q.place.length - content_length q.content)
    source.Zeros in (
      rw (place, same.count, same.own)
          (ap₂ (λ (xs ys : List Step). xs ++ zeros ++ ys) same.steps rest.0),
      ap₂ (λ (xs ys : List ℕ). xs ++ ys) same.own rest.1,
    )

-- ---- the same by where the parts come from

record IsBroughtBy {A : Type 0} (before at : ℕ) (c : Content A) : Type 0 where
  steps : content_steps before at c ≡ origin_steps before at (origin_of c)
  own : own_of c ≡ own_of_origin (origin_of c)
  count : content_length c ≡ origin_length (origin_of c)

brought : {A : Type 0} (before at : ℕ) (c : Content A) → IsBroughtBy before at c
brought before at (Own bytes) = record { steps = refl; own = refl; count = refl }
brought before at (File file offset count) = record { steps = refl; own = refl; count = refl }
brought before at (Block file segments) = record { steps = refl; own = refl; count = refl }

pub by_origins : {A : Type 0} (before : ℕ) (parts : List (PlannedPart A))
    → (steps_from before parts ≡ steps_by before (map planned_origin parts))
    × (own_bytes parts ≡ own_by (map planned_origin parts))
by_origins before [] = (refl, refl)
by_origins before (p ∷ parts) =
    let at : ℕ = p.place.address in
    let from = origin_of p.content in
    let same = brought before at p.content in
    let rest = by_origins (before + length (own_of_origin from)) parts in
    let zeros : List Step =
    one_step (at + origin_length from) (p.place.length - origin_length from) source.Zeros in (
      rw (same.count, same.own)
          (ap₂ (λ (xs ys : List Step). xs ++ zeros ++ ys) same.steps rest.0),
      ap₂ (λ (xs ys : List ℕ). xs ++ ys) same.own rest.1,
    )

-- ---- what a plan holds itself is made

lean_origin : {A : Type 0} (role : Role) (content : Content A) → IsLeanContent role content
    → IsLeanOrigin role (origin_of content)
lean_origin role (Own bytes) lean = lean
lean_origin role (File file offset count) lean = lean
lean_origin role (Block file segments) lean = lean

pub lean_origins : {A : Type 0} (parts : List (PlannedPart A)) → IsLean parts
    → AreLeanOrigins (map planned_origin parts)
lean_origins parts lean =
    All-map (λ (part : PartOrigin). IsLeanOrigin part.place.role part.origin) planned_origin parts
    (λ k d within.
    lean_origin (get_or parts k d).place.role (get_or parts k d).content (lean k d within))

-- equal facts and equal values have parts that come from the same
pub one_origins : (facts : MachineFacts) (value : EntryValue) (xs ys : List PartOrigin)
    → AreOrigins facts value xs → AreOrigins facts value ys → xs ≡ ys
one_origins facts value xs ys a b =
    let reading : b.reading ≡ a.reading =
    one_reading facts value b.reading a.reading b.read a.read in
    let moved : ArePlaced facts [] (rows_of facts value a.reading) b.places =
    subst (λ (x : KernelReading). ArePlaced facts [] (rows_of facts value x) b.places) reading
    b.placed in
    let same : a.places ≡ b.places =
    places.one_list facts [] (rows_of facts value a.reading) a.places b.places a.placed moved in
    a.are
    ∙ ap (λ (ps : List Place). map (origin_at facts value a.reading ps) (places_in_order ps)) same
    ∙ ap
    (λ (x : KernelReading). map (origin_at facts value x b.places) (places_in_order b.places))
    (sym reading)
    ∙ sym b.are
