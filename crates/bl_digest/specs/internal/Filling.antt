-- What the code keeps as ranges of files come. Own.
use Rattle.std.specs.Prelude.{◌≡◌, ℕ, ◌+◌, ◌<◌, ◌≤◌, ◌^◌, List, [], ◌∷◌, ◌++◌, length, take, drop}
use Rattle.std.specs.Prelude.{All}
use Rattle.bl_plan.specs.declared.part.Place.{Place}
use Rattle.bl_plan.specs.declared.protocol.Protocol.{Protocol}
use Rattle.bl_load.specs.declared.step.Step.{Step}
use Rattle.bl_load.specs.declared.step.StepSource.{StepSource}
use Rattle.bl_load.specs.declared.step.StepSource.TheVariants.{File, Own, Zeros}
use Rattle.bl_load.specs.declared.registers.Registers.{Registers}
use Rattle.bl_load.specs.Handover.{Handover}
use Rattle.bl_image.specs.Front.{front_of}
use Rattle.bl_image.specs.ImageHandover.{handoff_of}
use Rattle.bl_image.specs.Versions.{written_version}
use Rattle.bl_digest.specs.declared.file_range.FileRange.{FileRange}
use Rattle.bl_digest.specs.PlanInSteps.{PlanInSteps, filled}
use Rattle.bl_digest.specs.Ranges.{ranges_of, wanted_after}
use Rattle.bl_digest.specs.internal.Hashing.{total_of}

-- and of these so many of a file first
abbrev pub filled_behind : List ℕ → ℕ → List Step → List ℕ → List ℕ
filled_behind own count steps fed = take count fed ++ filled own steps (drop count fed)

-- how many bytes steps write
abbrev pub length_of_steps : List Step → ℕ
length_of_steps [] = 0
length_of_steps (step ∷ steps) = step.length + length_of_steps steps

-- the plan has the bytes that a step takes of its own
abbrev pub HasOwn : ℕ → StepSource → ℕ → Type 0
HasOwn own (File file offset) count = Unit {0}
HasOwn own (Own offset) count = offset + count ≤ own
HasOwn own Zeros count = Unit {0}

-- a step is not empty, and the plan has what it takes of it
abbrev pub TakesWhatIsThere : ℕ → Step → Type 0
TakesWhatIsThere own step = (1 ≤ step.length) × HasOwn own step.source step.length

-- a plan of these fields
abbrev pub plan_kept : Protocol → Registers → List Place → List Step → List ℕ → PlanInSteps
plan_kept protocol registers places steps own = record {
  protocol = protocol;
  registers = registers;
  places = places;
  steps = steps;
  own = own;
}

-- the front is that of each handover with this protocol, these registers and places
abbrev pub IsFrontOf : PlanInSteps → List ℕ → Type 0
IsFrontOf plan front = (h : Handover)
    → handoff_of h ≡ record {
      protocol = plan.protocol;
      registers = plan.registers;
      places = plan.places;
    }
    → front ≡ front_of written_version h

-- from some step on: what was taken before, and what these bytes of a file and then the other steps
-- still give, is what steps give; and so with what is wanted, and with lengths
pub record TakesUpTo (own : List ℕ) (steps : List Step) (old new : List ℕ) (range : FileRange)
    (rest : List Step) : Type 0 where
  pub filling : (more : List ℕ) → old ++ filled own steps more
      ≡ new ++ filled_behind own range.length rest more
  pub wanting : (count : ℕ) → wanted_after (ranges_of steps) count
      ≡ wanted_after (range ∷ ranges_of rest) count
  pub count : length old + length_of_steps steps
      ≡ length new + (range.length + length_of_steps rest)

-- what was taken is what the bytes that came fill, up to the range that is wanted; `next` is the
-- step behind that range
pub record IsFed (plan : PlanInSteps) (fed front taken : List ℕ) (range : FileRange) (next : ℕ) :
    Type 0 where
  pub fronted : IsFrontOf plan front
  pub filling : (more : List ℕ) → filled plan.own plan.steps (fed ++ more)
      ≡ taken ++ filled_behind plan.own range.length (drop next plan.steps) more
  pub wanting : (count : ℕ) → wanted_after (ranges_of plan.steps) (length fed + count)
      ≡ wanted_after (range ∷ ranges_of (drop next plan.steps)) count
  pub count : length taken + (range.length + length_of_steps (drop next plan.steps))
      ≡ total_of plan.places
  pub held : All (TakesWhatIsThere (length plan.own)) plan.steps

-- a digest under way: a range that is wanted is not empty, but behind the last step
pub record IsUnderWay (plan : PlanInSteps) (fed front taken : List ℕ) (range : FileRange)
    (next : ℕ) : Type 0 where
  pub is_fed : IsFed plan fed front taken range next
  pub small : range.offset < 2 ^ 64
  pub last : range.length ≡ 0 → length plan.steps ≤ next
