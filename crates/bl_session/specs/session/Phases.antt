-- Where a session stands, by its fields and by what memory holds. Own.
use Rattle.std.specs.Prelude.{◌≡◌, ℕ, ◌+◌, ◌≤◌, Bool, true, false, List, drop, All, Option, None}
use Rattle.std.specs.Prelude.{Some, Result, Ok, Err}
use Rattle.std.specs.Borrow.{Bor}
use Rattle.std.specs.declared.ops.Range.{Range}
use Rattle.bl_map.specs.MachineFacts.{MachineFacts}
use Rattle.bl_load.specs.HandoffFacts.{HandoffFacts}
use Rattle.bl_load.specs.Handover.{Handover}
use Rattle.bl_load.specs.PlanContents.{handover_in}
use Rattle.bl_load.specs.declared.refused_entry.RefusedEntry.{RefusedEntry}
use Rattle.bl_stage.specs.Staged.{Staging, AreStaged}
use Rattle.bl_stage.specs.PieceStates.{piece_states}
use Rattle.bl_session.specs.declared.session.outcome.BootFault.{BootFault}
use Rattle.bl_session.specs.declared.session.outcome.BootFault.TheVariants.{NoEntryLeft, NoMemory}
use Rattle.bl_session.specs.declared.session.outcome.Outcome.{Outcome}
use Rattle.bl_session.specs.declared.session.phase.Running.{Running}
use Rattle.bl_session.specs.declared.session.phase.Phase.{Phase}
use Rattle.bl_session.specs.declared.session.phase.Phase.TheVariants.{Unstarted, Waits, HandedOver}
use Rattle.bl_session.specs.declared.session.phase.Phase.TheVariants.{Failed}
use Rattle.bl_session.specs.menu.Menu.{MenuFacts}
use Rattle.bl_session.specs.session.BootSteps.{BootFacts, State}
use Rattle.bl_session.specs.session.BootSteps.{unstarted}
use Rattle.bl_session.specs.session.BootSteps.{running}
use Rattle.bl_session.specs.session.BootSteps.{handed_over, none_left, out_of_memory}

-- what memory of these bytes hands over
abbrev pub handover_held : List ℕ → HandoffFacts → Handover
handover_held bytes handoff = handover_in bytes handoff.protocol handoff.registers handoff.places

-- where a session stands; what memory holds is told beside
pub data PhaseFacts : Type 0 where
  not_started : PhaseFacts
  waits : (entry : ℕ) → (rest : List ℕ) → (earlier : List RefusedEntry) → Staging → PhaseFacts
  hands_over : (entry : ℕ) → (earlier : List RefusedEntry) → HandoffFacts → PhaseFacts
  has_none : (earlier : List RefusedEntry) → PhaseFacts
  lacks_memory : PhaseFacts

-- the state of the boot, where memory has these bytes: a stage's pieces and the parts of a handover
-- are what it holds
abbrev pub state_at : List ℕ → PhaseFacts → State
state_at bytes not_started = unstarted
state_at bytes (waits entry rest earlier stage) =
    running entry rest earlier (piece_states bytes stage)
state_at bytes (hands_over entry earlier handoff) =
    handed_over entry earlier (handover_held bytes handoff)
state_at bytes (has_none earlier) = none_left earlier
state_at bytes lacks_memory = out_of_memory

abbrev pub outcome_facts : {A : Type 0} → Outcome A → PhaseFacts
outcome_facts outcome = hands_over outcome.entry outcome.refused.items outcome.handoff

abbrev pub fault_facts : {A : Type 0} → BootFault A → PhaseFacts
fault_facts (NoEntryLeft refused) = has_none refused.items
fault_facts NoMemory = lacks_memory

-- a boot that ended so
abbrev pub final_phase : {A : Type 0} → Result (Outcome A) (BootFault A) → PhaseFacts
final_phase (Ok outcome) = outcome_facts outcome
final_phase (Err why) = fault_facts why

abbrev pub running_facts : {A : Type 0} → (attempts : List ℕ) → Running A → PhaseFacts
running_facts attempts r = waits r.entry (drop r.next attempts) r.earlier.items r.stage

-- the attempts are those of the menu
abbrev pub phase_facts : {A : Type 0} → (attempts : List ℕ) → Phase A → PhaseFacts
phase_facts attempts Unstarted = not_started
phase_facts attempts (Waits r) = running_facts attempts r
phase_facts attempts (HandedOver outcome) = outcome_facts outcome
phase_facts attempts (Failed why) = fault_facts why

abbrev pub is_waiting : PhaseFacts → Bool
is_waiting not_started = false
is_waiting (waits entry rest earlier stage) = true
is_waiting (hands_over entry earlier handoff) = false
is_waiting (has_none earlier) = false
is_waiting lacks_memory = false

-- the end of a boot that has ended
abbrev pub end_facts : PhaseFacts → Option PhaseFacts
end_facts not_started = None
end_facts (waits entry rest earlier stage) = None
end_facts (hands_over entry earlier handoff) = Some (hands_over entry earlier handoff)
end_facts (has_none earlier) = Some (has_none earlier)
end_facts lacks_memory = Some lacks_memory

-- the end that is told
abbrev pub told_end :
    {A : Type 0} → Option (Result (Bor (Outcome A)) (Bor (BootFault A))) → Option PhaseFacts
told_end None = None
told_end (Some (Ok outcome)) = Some (outcome_facts outcome.now)
told_end (Some (Err why)) = Some (fault_facts why.now)

-- a session as contracts see it: what does not change, and where it stands
pub record SessionFacts : Type 0 where
  pub boot : BootFacts
  pub phase : PhaseFacts

-- what does not change in a boot, by the machine, the menu and the files' sizes
abbrev pub boot_facts : MachineFacts → MenuFacts → List (Option ℕ) → BootFacts
boot_facts machine menu sizes = record { machine = machine; menu = menu; sizes = sizes }

-- each part that is handed over lies within a memory of this size
abbrev pub LiesWithin : ℕ → HandoffFacts → Type 0
LiesWithin size handoff = All (λ place. place.address + place.length ≤ size) handoff.places

-- what a session hands over, if it does, lies within a memory of this size
abbrev pub HandsOverWithin : ℕ → PhaseFacts → Type 0
HandsOverWithin size not_started = Unit {0}
HandsOverWithin size (waits entry rest earlier stage) = Unit {0}
HandsOverWithin size (hands_over entry earlier handoff) = LiesWithin size handoff
HandsOverWithin size (has_none earlier) = Unit {0}
HandsOverWithin size lacks_memory = Unit {0}

-- each frame that a session which waits has of a file is a frame of this pool, and none is named
-- twice
abbrev pub KeepsFramesIn : Range ℕ → PhaseFacts → Type 0
KeepsFramesIn pool not_started = Unit {0}
KeepsFramesIn pool (waits entry rest earlier stage) = (stage.pool ≡ pool) × AreStaged stage
KeepsFramesIn pool (hands_over entry earlier handoff) = Unit {0}
KeepsFramesIn pool (has_none earlier) = Unit {0}
KeepsFramesIn pool lacks_memory = Unit {0}
