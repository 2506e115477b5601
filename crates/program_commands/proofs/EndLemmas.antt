-- How boots, their digests and their explanations end, by what their steps answer.
use Rattle.std.proofs.Common.{◌≡◌, ℕ, List, [], Some, None, Result, Ok, Err, All, refl, subst}
use Rattle.std.proofs.Common.{◌≢◌, inl, inr, sym}
use Rattle.bl_map.specs.FirmwareFaults.{HasFirstMachineFault}
use Rattle.bl_map.specs.MachineFacts.{MachineFacts}
use Rattle.bl_map.specs.declared.fault.MapFault.{MapFault}
use Rattle.bl_map.specs.declared.fault.MapFault.TheVariants as map_fault
use Rattle.bl_load.specs.WellFormedEntry.{IsWellFormedValue}
use Rattle.bl_stage.specs.Files.{File}
use Rattle.bl_session.specs.menu.Menu.{MenuFacts}
use Rattle.bl_session.proofs.menu_lemmas.MenuLemmas.{offered_values}
use Rattle.program_desc.specs.declared.desc.Description.{Description}
use Rattle.program_desc.specs.Described.{DescriptionFacts, described}
use Rattle.program_desc.specs.declared.fault.DescFault.{DescFault}
use Rattle.program_desc.specs.declared.fault.DescFault.TheVariants as desc_fault
use Rattle.program_desc.specs.Views.{view}
use Rattle.program_say.specs.declared.subjects.blame.Blame.{Blame}
use Rattle.program_say.specs.declared.subjects.blame.Blame.TheVariants.{BadMachine}
use Rattle.program_boots.specs.described.BootCases.{BootCase, boot_of, entry_value_at}
use Rattle.program_boots.specs.described.DescribedMachine.{IsMachineOf}
use Rattle.program_boots.specs.described.DescribedMenu.{attempted_file_names, menu_of}
use Rattle.program_boots.specs.described.FoundFiles.{AreFound}
use Rattle.program_boots.specs.explaining.ToldBoots.{sought_in}
use Rattle.program_commands.specs.Ends.{Surroundings}
use Rattle.program_commands.specs.declared.boot_end.End.{End}
use Rattle.program_commands.specs.declared.boot_end.End.TheVariants.{Booted, NoEntryLeft}
use Rattle.program_commands.specs.declared.boot_end.EndFault.{EndFault}
use Rattle.program_commands.specs.declared.boot_end.EndFault.TheVariants.{BadDescription}
use Rattle.program_commands.specs.declared.boot_end.EndFault.TheVariants.{Device, NoMemory}
use Rattle.program_commands.specs.explaining.BlameConditions.{HasBlame, TellsBlame}
use Rattle.program_commands.specs.internal.CallEnds.{BootEnds, CountsSinkFault, FoundBootEnds}
use Rattle.program_commands.specs.internal.DigestEnds.{DigestEnds, FoundDigestEnds}
use Rattle.program_commands.specs.internal.ExplanationEnds.{ExplainEnds, ExplainFoundEnds}
use Rattle.program_commands.specs.internal.CallEnds.{end_fault_of_desc_fault}
use Rattle.program_commands.specs.internal.Readings.{IsMachineBlame, IsReadBlame, IsReadingFault}
use Rattle.program_commands.specs.internal.Readings.{SaysMore}

-- ---- no machine is described, or memory ran out

pub sound_unread : (faults : ℕ) (fault : DescFault)
    → CountsSinkFault faults faults (Err (end_fault_of_desc_fault fault))
sound_unread faults desc_fault.BadDescription = refl
sound_unread faults desc_fault.NoMemory = refl

-- a blame of what describes nothing is told of these bytes, which are that text
pub tells_nothing : (desc text : List ℕ) (blame : Blame) → desc ≡ text
    → described text ≡ None → HasBlame text blame → TellsBlame desc blame None
tells_nothing desc text blame same none stands =
    let told : TellsBlame text blame None = record { stands = stands; is_described = none } in
    subst (λ (bytes : List ℕ). TellsBlame bytes blame None) (sym same) told

-- a machine's first fault is told of what describes it
pub tells_machine : (desc : List ℕ) (d : DescriptionFacts) (fault : MapFault)
    → described desc ≡ Some d → (fault ≢ map_fault.NoMemory)
    → HasFirstMachineFault d.size d.regions d.pool d.firmware fault
    → TellsBlame desc (BadMachine fault) (Some d)
tells_machine desc d fault is named first = record {
  stands = record { description = d; is_described = is; named = named; first = first };
  is_described = is;
}

-- a blame that stands of what describes nothing is told
pub blamed_for : (desc : List ℕ) (blame : Blame) (old new : List ℕ) (fault : DescFault)
    → described desc ≡ None → HasBlame desc blame
    → SaysMore old new fault → IsReadBlame desc old new fault
blamed_for desc blame old new desc_fault.BadDescription none stands said =
    record { bad = inl none; blame = blame; stands = stands; said = said }
blamed_for desc blame old new desc_fault.NoMemory none stands said = said

-- files of a type F
module _ {F : Type 0} (answers : F → List ℕ → File → Type 0) (faults : F → ℕ) (desc : List ℕ)
  where
    -- a boot ends as it began
    pub unread : (around : Surroundings F) (fault : DescFault) → IsReadingFault desc fault
        → BootEnds answers faults desc around around (Err (end_fault_of_desc_fault fault))
    unread around desc_fault.BadDescription bad = (bad, refl)
    unread around desc_fault.NoMemory given = (refl, refl)

    pub undigested : (files : F) (said : List ℕ) (fault : DescFault) → IsReadingFault desc fault
        → DigestEnds answers faults desc files files said said
        (Err (end_fault_of_desc_fault fault))
    undigested files said desc_fault.BadDescription bad = (bad, refl, refl)
    undigested files said desc_fault.NoMemory given = refl

    pub unexplained : (M : Type 0) (files : F) (old new : List ℕ) (fault : DescFault)
        → IsReadBlame desc old new fault
        → ExplainEnds M answers faults desc files files old new
        (Err (end_fault_of_desc_fault fault))
    unexplained M files old new desc_fault.BadDescription is = (is, refl)
    unexplained M files old new desc_fault.NoMemory is = is

    -- there is no such machine
    pub unmade : {A : Type 0} (d : Description A) (is : described desc ≡ Some (view d)) (M : Type 0)
        (files : F) (old new : List ℕ) (fault : DescFault) → IsMachineBlame (view d) old new fault
        → ExplainEnds M answers faults desc files files old new
        (Err (end_fault_of_desc_fault fault))
    unmade d is M files old new desc_fault.BadDescription m = (
      record {
        bad = inr (view d, is, record { fault = m.0; named = m.1; first = m.2 });
        blame = BadMachine m.0;
        stands = record { description = view d; is_described = is; named = m.1; first = m.2 };
        said = m.3;
      },
      refl,
    )
    unmade d is M files old new desc_fault.NoMemory m = m

-- ---- the boot of what was found

-- the bytes describe d, its machine has these facts, and these files were found
abbrev pub case_of : {A F : Type 0} (answers : F → List ℕ → File → Type 0) (faults : F → ℕ)
    (desc : List ℕ) (d : Description A) (is : described desc ≡ Some (view d))
    (facts : MachineFacts) (machine : IsMachineOf (view d) facts) (before after : F)
    (files : List File)
    (found : AreFound answers faults (view d).files (attempted_file_names (view d)) before after files)
    → BootCase answers faults desc before after
case_of answers faults desc d is facts machine before after files found = record {
  description = view d;
  facts = facts;
  files = files;
  is_described = is;
  machine = machine;
  found = found;
}

-- around it the sink and what is said went so
abbrev around : {F : Type 0} → F → List ℕ → List ℕ → Surroundings F
around files sink said = record { files = files; sink = sink; said = said }

module _ {F : Type 0} {answers : F → List ℕ → File → Type 0} {faults : F → ℕ} {desc : List ℕ}
    {before after : F} (case : BootCase answers faults desc before after)
  where
    -- the values of its entries are well-formed, since those of its menu are
    pub offered : (menu : MenuFacts) → menu ≡ menu_of case.description
        → All (λ e. IsWellFormedValue e.blank) menu.entries
        → (entry : ℕ) → IsWellFormedValue (entry_value_at case entry)
    offered menu is well_formed entry =
        offered_values (boot_of case.description case.facts case.files) case.files entry
        (subst (λ (m : MenuFacts). All (λ e. IsWellFormedValue e.blank) m.entries) is well_formed)

    -- the boot ends as that of what was found
    pub ends_by : ((entry : ℕ) → IsWellFormedValue (entry_value_at case entry))
        → (s t u v : List ℕ) (ended : Result End EndFault)
        → FoundBootEnds case.description (boot_of case.description case.facts case.files) case.files
        s t u v ended
        → BootEnds answers faults desc (around before s u) (around after t v) ended
    ends_by well_formed s t u v (Ok Booted) (entry, earlier, handover, came, kept, image, said) =
        record {
          case = case;
          entry = entry;
          earlier = earlier;
          handover = handover;
          outcome = came;
          well_formed = well_formed entry;
          kept = kept;
          image = image;
          said = said;
        }
    ends_by well_formed s t u v (Ok NoEntryLeft) (refused, came, nothing, said) = record {
      case = case;
      refused = refused;
      outcome = came;
      nothing = nothing;
      said = said;
    }
    ends_by well_formed s t u v (Err BadDescription) never = absurd never
    ends_by well_formed s t u v (Err Device) (entry, earlier, handover, came, begun, unsaid) =
        record {
          case = case;
          entry = entry;
          earlier = earlier;
          handover = handover;
          outcome = came;
          begun = begun;
          unsaid = unsaid;
        }
    ends_by well_formed s t u v (Err NoMemory) kept = kept

    pub digested_by : ((entry : ℕ) → IsWellFormedValue (entry_value_at case entry))
        → (old new : List ℕ) (ended : Result End EndFault)
        → FoundDigestEnds case.description (boot_of case.description case.facts case.files)
        case.files old new ended
        → DigestEnds answers faults desc before after old new ended
    digested_by well_formed old new (Ok Booted) (entry, earlier, handover, came, said) = record {
      case = case;
      entry = entry;
      earlier = earlier;
      handover = handover;
      outcome = came;
      well_formed = well_formed entry;
      said = said;
    }
    digested_by well_formed old new (Ok NoEntryLeft) (refused, came, said) =
        record { case = case; refused = refused; outcome = came; said = said }
    digested_by well_formed old new (Err BadDescription) never = absurd never
    digested_by well_formed old new (Err Device) never = absurd never
    digested_by well_formed old new (Err NoMemory) kept = kept

    pub explained_by : (M : Type 0) (old new : List ℕ) (ended : Result End EndFault)
        → ExplainFoundEnds M case.description
        (boot_of case.description case.facts case.files) case.files
        (sought_in case.description case.files) old new ended
        → ExplainEnds M answers faults desc before after old new ended
    explained_by M old new (Ok Booted)
        (entry, earlier, handover, came, told, are, steps, are_steps, said) = record {
          entry = entry;
          earlier = earlier;
          handover = handover;
          explained = record {
            case = case;
            outcome = came;
            told = told;
            are_told = are;
            steps = steps;
            are_steps = are_steps;
            said = said;
          };
        }
    explained_by M old new (Ok NoEntryLeft) (refused, came, told, are, said) = record {
      refused = refused;
      explained = record {
        case = case;
        outcome = came;
        told = told;
        are_told = are;
        steps = [];
        are_steps = refl;
        said = said;
      };
    }
    explained_by M old new (Err BadDescription) never = absurd never
    explained_by M old new (Err Device) never = absurd never
    explained_by M old new (Err NoMemory) kept = kept
