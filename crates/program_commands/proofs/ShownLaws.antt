-- The image of an entry that was booted shows it.
use Rattle.std.proofs.Common.{ℕ, List}
use Rattle.bl_map.specs.MachineFacts.{IsWellFormedMachine}
use Rattle.bl_load.specs.Handover.{Handover}
use Rattle.bl_load.specs.Parts.{IsHandover}
use Rattle.bl_stage.specs.Files.{File}
use Rattle.bl_image.specs.Image.{spelling}
use Rattle.bl_image.specs.ImageHandover.{IsImage}
use Rattle.bl_image.specs.Versions.{written_version}
use Rattle.bl_image.specs.declared.version.Version.{Version}
use Rattle.bl_walk.specs.Faults.{IsSound}
use Rattle.bl_walk.specs.Seen.{IsSeen}
use Rattle.bl_walk.specs.SeenFacts.{SeenFacts}
use Rattle.bl_walk.specs.EntryShown.{ShowsEntry}
use Rattle.bl_walk.specs.State.{IsEntered}
use Rattle.bl_walk.proofs.LegalLaws.{images_show, images_are_entered, images_are_sound}
use Rattle.bl_session.specs.session.Schedules.{no_fault}
use Rattle.bl_session.proofs.session_lemmas.OutcomeLaws.{is_handover}
use Rattle.program_boots.specs.described.BootCases.{boot_of}
use Rattle.program_boots.specs.described.BootCases.{entry_value_at}
use Rattle.program_commands.specs.Ends.{IsBooted, Surroundings}
use Rattle.program_boots.proofs.RunLemmas.{machine_facts}

module _ {F : Type 0} {answers : F → List ℕ → File → Type 0} {faults : F → ℕ} {desc : List ℕ}
  where
    module _ {before after : Surroundings F} (b : IsBooted answers faults desc before after) where
      handed : IsHandover b.case.facts (entry_value_at b.case b.entry) b.handover
      handed =
          is_handover (boot_of b.case.description b.case.facts b.case.files) b.case.files no_fault
          b.entry b.earlier b.handover b.outcome

      machine : IsWellFormedMachine b.case.facts
      machine = machine_facts b.case.description b.case.facts b.case.machine

      pub booted_image_shows : (version : Version) (image : Handover) (seen : SeenFacts)
          → IsImage version (spelling written_version b.handover) image → IsSeen image seen
          → ShowsEntry b.case.facts (entry_value_at b.case b.entry) seen
      booted_image_shows version image seen is sees =
          images_show b.case.facts (entry_value_at b.case b.entry) written_version version b.handover
          image seen machine b.well_formed handed b.kept is sees

      pub booted_image_is_entered : (version : Version) (image : Handover)
          → IsImage version (spelling written_version b.handover) image → IsEntered image
      booted_image_is_entered version image is =
          images_are_entered b.case.facts (entry_value_at b.case b.entry) written_version version
          b.handover image machine b.well_formed handed b.kept is

      pub booted_image_is_sound : (version : Version) (image : Handover)
          → IsImage version (spelling written_version b.handover) image → IsSound image
      booted_image_is_sound version image is =
          images_are_sound b.case.facts (entry_value_at b.case b.entry) written_version version b.handover
          image machine b.well_formed handed b.kept is
