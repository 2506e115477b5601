-- The names that were asked for.
use Rattle.std.proofs.Common.{◌≡◌, ◌∙◌, ◌+◌, ◌≤◌, ◌++◌, ℕ, List, [], Some, All, IsSome, refl, sym}
use Rattle.std.proofs.Common.{length, subst, arith, Result, Ok, Err}
use Rattle.std.proofs.lemmas.List.{append-nil}
use Rattle.std.proofs.lemmas.Option.{same_Some}
use Rattle.bl_stage.specs.Files.{File}
use Rattle.program_desc.specs.declared.desc.Description.{Description}
use Rattle.program_desc.specs.declared.fault.DescFault.{DescFault}
use Rattle.program_desc.specs.declared.fault.DescFault.TheVariants as desc_fault
use Rattle.program_desc.specs.Described.{DescriptionFacts, described, file_named}
use Rattle.program_desc.specs.Views.{view}
use Rattle.program_boots.specs.described.DescribedMenu.{attempted_file_names, max_names}
use Rattle.program_boots.specs.described.BootCases.{HasInlineFiles, names_sought, names_fetched}
use Rattle.program_boots.specs.described.FoundFiles.{AsksPrefix, names_to_ask}
use Rattle.program_commands.specs.declared.boot_end.End.{End}
use Rattle.program_commands.specs.declared.boot_end.EndFault.{EndFault}
use Rattle.program_commands.specs.declared.boot_end.EndFault.TheVariants.{BadDescription}
use Rattle.program_commands.specs.declared.boot_end.EndFault.TheVariants.{Device, NoMemory}
use Rattle.program_commands.specs.internal.CallEnds.{end_fault_of_desc_fault}
use Rattle.program_commands.specs.internal.SoughtFiles.{HasAsked, SeeksNamesOf}

-- none of them is a beginning of them, and so are all
pub none_asked : (names before : List (List ℕ)) → AsksPrefix names before before
none_asked names before =
    record { first = []; left = names; names_are = refl; after_is = sym (append-nil before) }

pub all_asked : (names before after : List (List ℕ)) → after ≡ before ++ names
    → AsksPrefix names before after
all_asked names before after is =
    record { first = names; left = []; names_are = sym (append-nil names); after_is = is }

-- no name was missing, of so many
pub none_missing : (faults names : ℕ) → (faults ≤ faults) × (faults ≤ faults + names)
none_missing faults names = (omega arith, omega arith)

-- none is asked for, if nothing is read
asked_unread : (names before : List (List ℕ)) (fault : DescFault)
    → HasAsked names before before (Err (end_fault_of_desc_fault fault))
asked_unread names before desc_fault.BadDescription = none_asked names before
asked_unread names before desc_fault.NoMemory = none_asked names before

-- all are, before the boot of what was found
asked_by : (ended : Result End EndFault) (names before after : List (List ℕ))
    → after ≡ before ++ names → HasAsked names before after ended
asked_by (Ok end) names before after all = all
asked_by (Err BadDescription) names before after all = all_asked names before after all
asked_by (Err Device) names before after all = all
asked_by (Err NoMemory) names before after all = all_asked names before after all

-- files of a type F
module _ {F : Type 0} (answers : F → List ℕ → File → Type 0) (faults : F → ℕ)
    (names_asked : F → List (List ℕ)) (desc : List ℕ)
  where
    -- where nothing is read, no name is looked for, and the files are as they were
    pub none_sought : (files : F) (fault : DescFault)
        → SeeksNamesOf answers faults names_asked desc files files
        (Err (end_fault_of_desc_fault fault))
    none_sought files fault = record {
      asked = asked_unread (names_fetched (described desc)) (names_asked files) fault;
      inline = λ _. refl;
      same_files = λ file answer told. told;
      missing = none_missing (faults files) (length (names_sought (described desc)));
      few = (none_missing (faults files) max_names).1;
    }

    -- the bytes describe d, and its names are looked for
    module _ {A : Type 0} (d : Description A) (is : described desc ≡ Some (view d))
        (before after : F)
        (inline : All (λ name. IsSome (file_named name (view d).files))
        (attempted_file_names (view d)) → after ≡ before)
        (same : (file : List ℕ) (answer : File) → answers after file answer
        → answers before file answer)
        (missing : (faults before ≤ faults after)
        × (faults after ≤ faults before + length (attempted_file_names (view d))))
        (few : faults after ≤ faults before + max_names)
      where
        inline_in : HasInlineFiles desc
            → All (λ name. IsSome (file_named name (view d).files)) (attempted_file_names (view d))
        inline_in has =
            let one : has.description ≡ view d = same_Some _ _ (sym has.is_described ∙ is) in
            subst (λ (x : DescriptionFacts). All (λ name. IsSome (file_named name x.files)) (attempted_file_names x)) one
            has.inline

        sought_by : (ended : Result End EndFault)
            → HasAsked (names_to_ask (view d).files (attempted_file_names (view d)))
            (names_asked before) (names_asked after) ended
            → SeeksNamesOf answers faults names_asked desc before after ended
        sought_by ended asked = record {
          asked = rw is asked;
          inline = λ has. inline (inline_in has);
          same_files = same;
          missing = rw is missing;
          few = few;
        }

        pub all_sought : (ended : Result End EndFault)
            → names_asked after
            ≡ names_asked before ++ names_to_ask (view d).files (attempted_file_names (view d))
            → SeeksNamesOf answers faults names_asked desc before after ended
        all_sought ended all =
            sought_by ended
            (asked_by ended (names_to_ask (view d).files (attempted_file_names (view d)))
            (names_asked before) (names_asked after) all)

        pub first_sought : AsksPrefix (names_to_ask (view d).files (attempted_file_names (view d)))
            (names_asked before) (names_asked after)
            → SeeksNamesOf answers faults names_asked desc before after (Err NoMemory)
        first_sought asked = sought_by (Err NoMemory) asked
