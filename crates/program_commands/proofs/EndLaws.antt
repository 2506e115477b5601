-- Of two boots.
use Rattle.std.proofs.Common.{◌≡◌, ◌++◌, ◌∙◌, ℕ, Bool, true, false, List, Option, None, refl, sym}
use Rattle.std.proofs.Common.{ap, if◌then◌else◌}
use Rattle.std.specs.declared.ops.Range.{Range}
use Rattle.bl_map.specs.Firmware.{FirmwareFacts}
use Rattle.bl_map.specs.MachineFacts.{MachineFacts}
use Rattle.bl_map.specs.NormalMap.{kind_at}
use Rattle.bl_map.specs.declared.region.Region.{Region}
use Rattle.bl_map.proofs.MapLaws.{one_normal_map}
use Rattle.bl_load.specs.Handover.{Handover}
use Rattle.bl_load.specs.EntryValue.{EntryValue}
use Rattle.bl_stage.specs.Files.{File}
use Rattle.bl_image.specs.Image.{spelling}
use Rattle.bl_image.specs.Versions.{written_version}
use Rattle.bl_session.specs.session.BootSteps.{fresh}
use Rattle.bl_session.specs.attempt.AttemptResult.{AttemptResult, AttemptHasResult}
use Rattle.bl_session.specs.session.Schedules.{no_fault}
use Rattle.bl_session.specs.session.Outcome.{faulty_file}
use Rattle.bl_session.specs.attempt.AwaitedPieces.{are_whole}
use Rattle.bl_session.proofs.attempt_lemmas.EndLaws.{one_end}
use Rattle.bl_session.proofs.session_lemmas.OutcomeLaws.{same_handover}
use Rattle.program_desc.specs.Described.{DescriptionFacts}
use Rattle.program_boots.specs.described.BootCases.{boot_of}
use Rattle.program_boots.specs.described.DescribedMachine.{IsMachineOf}
use Rattle.program_boots.specs.described.BootCases.{BootCase, HasResultAt, file_sizes_at}
use Rattle.program_boots.specs.described.BootCases.{entry_value_at}
use Rattle.program_commands.specs.Ends.{IsBooted, Surroundings}

-- two boots
module _ {F G : Type 0} {answers : F → List ℕ → File → Type 0} {faults : F → ℕ} {desc : List ℕ}
    {before after : Surroundings F}
    {replies : G → List ℕ → File → Type 0} {wants : G → ℕ} {other : List ℕ}
    {began ended : Surroundings G} where
  pub one_image : (a : IsBooted answers faults desc before after)
      (b : IsBooted replies wants other began ended)
      → a.case.facts ≡ b.case.facts → entry_value_at a.case a.entry ≡ entry_value_at b.case b.entry
      → (image : List ℕ) × (after.sink ≡ before.sink ++ image) × (ended.sink ≡ began.sink ++ image)
  one_image a b machine value =
      let f = boot_of a.case.description a.case.facts a.case.files in
      let g = boot_of b.case.description b.case.facts b.case.files in
      let one : a.handover ≡ b.handover =
      same_handover f g a.case.files b.case.files no_fault no_fault
      a.entry b.entry
      a.earlier b.earlier a.handover b.handover machine value a.outcome b.outcome in (
        spelling written_version a.handover,
        a.image,
        b.image ∙ ap (λ (h : Handover). began.sink ++ spelling written_version h) (sym one),
      )

-- without a fault no file is faulty
none_if : (b : Bool) → (if b then None else None) ≡ (let none : Option ℕ = None in none)
none_if true = refl
none_if false = refl

ends_alike : (m n : MachineFacts) (s t : List (Option ℕ)) (p q : Option ℕ) (v w : EntryValue)
    (e f : AttemptResult)
    → m ≡ n → s ≡ t → p ≡ q → v ≡ w → AttemptHasResult m s p v e → AttemptHasResult n t q w f
    → e ≡ f
ends_alike m n s t p q v w e f machine sizes faulty value x y =
    one_end n t q w e f (rw (← machine, ← sizes, ← faulty, ← value) x) y

module _ {F G : Type 0} {answers : F → List ℕ → File → Type 0} {faults : F → ℕ} {desc : List ℕ}
    {before after : F}
    {replies : G → List ℕ → File → Type 0} {wants : G → ℕ} {other : List ℕ} {began ended : G}
  where
    pub one_end_at : (a : BootCase answers faults desc before after)
        (b : BootCase replies wants other began ended)
        → a.facts ≡ b.facts → (entry index : ℕ) → file_sizes_at a entry ≡ file_sizes_at b index
        → entry_value_at a entry ≡ entry_value_at b index
        → (e f : AttemptResult) → HasResultAt a entry e → HasResultAt b index f → e ≡ f
    one_end_at a b machine entry index sizes value e f x y =
        let f_a = boot_of a.description a.facts a.files in
        let f_b = boot_of b.description b.facts b.files in
        ends_alike a.facts b.facts (file_sizes_at a entry) (file_sizes_at b index)
        (faulty_file f_a entry None)
        (faulty_file f_b index None)
        (entry_value_at a entry) (entry_value_at b index) e f machine sizes
        (none_if (are_whole (fresh f_a entry)) ∙ sym (none_if (are_whole (fresh f_b index)))) value
        x y

facts_of : (s t : ℕ) (x y : List Region) (p q : Range ℕ) (f g : FirmwareFacts)
    → s ≡ t → x ≡ y → p ≡ q → f ≡ g
    → ◌≡◌ {A = MachineFacts} record { size = s; runs = x; pool = p; firmware = f }
    record { size = t; runs = y; pool = q; firmware = g }
facts_of s t x y p q f g size runs pool firmware = rw (size, runs, pool, firmware) refl

pub same_facts : (one two : DescriptionFacts) (f g : MachineFacts) → IsMachineOf one f → IsMachineOf two g
    → one.size ≡ two.size → one.pool ≡ two.pool → one.firmware ≡ two.firmware
    → ((a : ℕ) → kind_at one.regions a ≡ kind_at two.regions a) → f ≡ g
same_facts one two f g a b size pool firmware kinds =
    facts_of f.size g.size f.runs g.runs f.pool g.pool f.firmware g.firmware
    (a.size ∙ size ∙ sym b.size)
    (one_normal_map one.regions two.regions f.runs g.runs kinds a.runs b.runs)
    (a.pool ∙ pool ∙ sym b.pool) (a.firmware ∙ firmware ∙ sym b.firmware)
