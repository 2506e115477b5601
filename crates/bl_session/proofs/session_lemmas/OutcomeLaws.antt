-- What a boot hands over, and that it has one outcome.
use Rattle.std.proofs.Common.{◌≡◌, ℕ, List, [], ◌∷◌, ◌++◌, length, Option, Some, None, option_map}
use Rattle.std.proofs.Common.{sym, subst, ◌∙◌}
use Rattle.bl_map.specs.MachineFacts.{MachineFacts}
use Rattle.bl_load.specs.declared.refusal.Refusal.{Refusal}
use Rattle.bl_load.specs.declared.refusal.Refusal.TheVariants.{FileFault}
use Rattle.bl_load.specs.EntryValue.{EntryValue}
use Rattle.bl_load.specs.Handover.{Handover}
use Rattle.bl_load.specs.Parts.{IsHandover}
use Rattle.bl_load.proofs.HandoverLaws.{one_handover}
use Rattle.bl_load.specs.declared.refused_entry.RefusedEntry.{RefusedEntry}
use Rattle.bl_stage.specs.Files.{File}
use Rattle.bl_session.specs.attempt.AttemptResult.{AttemptResult, handed, refused}
use Rattle.bl_session.specs.attempt.AttemptResult.{HasWholeFilesResult}
use Rattle.bl_session.specs.attempt.AttemptResult.{AttemptHasResult, UnlessRefused, size_refusal}
use Rattle.bl_session.specs.session.BootSteps.{BootFacts, State, handed_over, sizes_of}
use Rattle.bl_session.specs.menu.EntryContents.{entry_value_in}
use Rattle.bl_session.specs.session.Outcome.{faulty_file, IsFirst, IsOutcome}
use Rattle.bl_session.proofs.attempt_lemmas.EndLaws.{one_end}
use Rattle.bl_session.proofs.session_lemmas.BootLaws.{one_goes}

-- ---- what is handed over

handed_behind : (first : Option Refusal) (rest : AttemptResult → Type 0) (h : Handover)
    → UnlessRefused first rest (handed h) → rest (handed h)
handed_behind None rest h is = is
handed_behind (Some r) rest h is = absurd cc

handed_value : (facts : MachineFacts) (sizes : List (Option ℕ)) (faulty : Option ℕ)
    (value : EntryValue) (h : Handover) → AttemptHasResult facts sizes faulty value (handed h)
    → IsHandover facts value h
handed_value facts sizes faulty value h is =
    (handed_behind (option_map FileFault faulty) (HasWholeFilesResult facts value) h
    (handed_behind (size_refusal facts sizes)
    (UnlessRefused (option_map FileFault faulty) (HasWholeFilesResult facts value)) h is)).0

first_handed : (facts : BootFacts) (files : List File) (faults : ℕ → Option ℕ) (attempts : List ℕ)
    (before earlier : List RefusedEntry) (entry : ℕ) (h : Handover)
    → IsFirst facts files faults attempts before (handed_over entry earlier h)
    → IsHandover facts.machine (entry_value_in facts files entry) h
first_handed facts files faults [] before earlier entry h is = absurd cc
first_handed facts files faults (e ∷ rest) before earlier entry h (handed k, ends, goes) =
    let same : entry ≡ e = cc in
    let handover : h ≡ k = cc in
    subst (λ (x : ℕ). IsHandover facts.machine (entry_value_in facts files x) h) (sym same)
    (subst (λ (x : Handover). IsHandover facts.machine (entry_value_in facts files e) x)
    (sym handover)
    (handed_value facts.machine (sizes_of facts e) _ (entry_value_in facts files e) k ends))
first_handed facts files faults (e ∷ rest) before earlier entry h (refused r, ends, goes) =
    first_handed facts files faults rest (before ++ record { entry = e; refusal = r } ∷ []) earlier
    entry h goes

pub is_handover : (facts : BootFacts) (files : List File) (faults : ℕ → Option ℕ) (entry : ℕ)
    (earlier : List RefusedEntry) (h : Handover)
    → IsOutcome facts files faults (handed_over entry earlier h)
    → IsHandover facts.machine (entry_value_in facts files entry) h
is_handover facts files faults entry earlier h is =
    first_handed facts files faults facts.menu.attempts [] earlier entry h is

-- two boots of equal machines that hand over entries of equal values hand over the same
pub same_handover : (facts other : BootFacts) (files those : List File)
    (faults fails : ℕ → Option ℕ) (entry index : ℕ) (earlier before : List RefusedEntry)
    (h k : Handover)
    → facts.machine ≡ other.machine → entry_value_in facts files entry
    ≡ entry_value_in other those index
    → IsOutcome facts files faults (handed_over entry earlier h)
    → IsOutcome other those fails (handed_over index before k) → h ≡ k
same_handover facts other files those faults fails entry index earlier before h k machine value a
    b =
    let mine : IsHandover facts.machine (entry_value_in facts files entry) h =
    is_handover facts files faults entry earlier h a in
    let moved : IsHandover other.machine (entry_value_in facts files entry) h =
    subst (λ (m : MachineFacts). IsHandover m (entry_value_in facts files entry) h) machine mine in
    one_handover other.machine (entry_value_in other those index) h k
    (subst (λ (v : EntryValue). IsHandover other.machine v h) value moved)
    (is_handover other those fails index before k b)

-- ---- one outcome

one_first : (facts : BootFacts) (files : List File) (faults : ℕ → Option ℕ) (attempts : List ℕ)
    (earlier : List RefusedEntry) (a b : State)
    → IsFirst facts files faults attempts earlier a → IsFirst facts files faults attempts earlier b
    → a ≡ b
one_first facts files faults [] earlier a b p q = p ∙ sym q
one_first facts files faults (entry ∷ rest) earlier a b (e, p, x) (f, q, y) =
    one_goes (IsFirst facts files faults rest) entry earlier e f (one_first facts files faults rest)
    (one_end facts.machine (sizes_of facts entry)
    (faulty_file facts entry (faults (length earlier)))
    (entry_value_in facts files entry) e f p q) a b x y

pub one_outcome : (facts : BootFacts) (files : List File) (faults : ℕ → Option ℕ) (a b : State)
    → IsOutcome facts files faults a → IsOutcome facts files faults b → a ≡ b
one_outcome facts files faults a b p q = one_first facts files faults facts.menu.attempts [] a b p q
