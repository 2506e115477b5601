-- The image of an entry's handover shows the entry, and no fault stands in it.
use Rattle.std.proofs.Common.{◌≤◌, ◌≡◌, List, [], None, sym, subst, AllPairs}
use Rattle.bl_map.specs.MachineFacts.{MachineFacts, IsWellFormedMachine}
use Rattle.bl_plan.specs.Placed.{ArePlaced}
use Rattle.bl_plan.specs.declared.part.Place.{Place}
use Rattle.bl_load.specs.Handover.{Part, Handover, end_of}
use Rattle.bl_load.specs.WellFormedEntry.{IsWellFormedValue}
use Rattle.bl_load.specs.Parts.{IsHandover, handover_of}
use Rattle.bl_load.specs.KernelReading.{KernelReading, multiboot2, linux, IsKernelReading}
use Rattle.bl_load.specs.Rows.{rows_of}
use Rattle.bl_load.specs.EntryValue.{EntryValue, lines_fault, lines_of}
use Rattle.bl_load.proofs.PartLaws.{all_apart}
use Rattle.bl_image.specs.declared.version.Version.{Version}
use Rattle.bl_image.specs.Image.{spelling}
use Rattle.bl_image.specs.ImageHandover.{IsImage, IsKeptByImages}
use Rattle.bl_image.proofs.ReadAgain.{image_is_read_again}
use Rattle.bl_walk.specs.Faults.{IsSound}
use Rattle.bl_walk.specs.Seen.{IsSeen}
use Rattle.bl_walk.specs.SeenFacts.{SeenFacts}
use Rattle.bl_walk.specs.EntryShown.{ShowsEntry}
use Rattle.bl_walk.specs.State.{IsEntered}
use Rattle.bl_walk.proofs.InformationLaws as information
use Rattle.bl_walk.proofs.ParametersLaws as parameters
use Rattle.bl_walk.proofs.SeenLaws.{seen_is_determined}
use Rattle.bl_walk.proofs.SoundLemmas.{seen_is_sound}

-- what a handover shows, and that its kernel is entered as it must be
record Shows (facts : MachineFacts) (value : EntryValue) (h : Handover) : Type 0 where
  seen : SeenFacts
  is_seen : IsSeen h seen
  entry : ShowsEntry facts value seen
  entered : IsEntered h

-- by what is read of the kernel
by_reading : (facts : MachineFacts) (value : EntryValue) (places : List Place) (reading : KernelReading)
    → IsWellFormedMachine facts → IsWellFormedValue value → lines_fault (lines_of value) ≡ None
    → IsKernelReading facts value reading
    → ArePlaced facts [] (rows_of facts value reading) places
    → AllPairs (λ p q. end_of p ≤ q.address) (handover_of facts value reading places).parts
    → Shows facts value (handover_of facts value reading places)
by_reading facts value places (multiboot2 kernel) machine offered lines read placed apart =
    record {
      seen =
          information.seen facts value kernel places machine offered lines read.1 placed apart
          read.0;
      is_seen =
          information.information_seen facts value kernel places machine offered lines read.1
          placed apart read.0;
      entry =
          information.information_shown facts value kernel places machine offered lines read.1
          placed apart read.0;
      entered =
          information.information_entered facts value kernel places machine offered lines read.1
          placed apart read.0;
    }
by_reading facts value places (linux setup) machine offered lines read placed apart = record {
  seen = parameters.seen facts value setup places machine offered lines read.0 read.1 placed apart;
  is_seen =
      parameters.linux_seen facts value setup places machine offered lines read.0 read.1
      placed apart;
  entry =
      parameters.linux_shown facts value setup places machine offered lines read.0 read.1
      placed apart;
  entered =
      parameters.linux_entered facts value setup places machine offered lines read.0 read.1
      placed apart;
}

shows : (facts : MachineFacts) (value : EntryValue) (h : Handover) → IsWellFormedMachine facts
    → IsWellFormedValue value → IsHandover facts value h → Shows facts value h
shows facts value h machine offered is =
    let apart =
    subst (λ (x : Handover). AllPairs (λ (p q : Part). end_of p ≤ q.address) x.parts) is.is
    (all_apart facts value h is) in
    subst (Shows facts value) (sym is.is)
    (by_reading facts value is.places is.reading machine offered is.lines is.read is.placed
    apart)

pub handovers_are_seen : (facts : MachineFacts) (value : EntryValue) (h : Handover)
    → IsWellFormedMachine facts → IsWellFormedValue value → IsHandover facts value h
    → (seen : SeenFacts) × IsSeen h seen × ShowsEntry facts value seen
handovers_are_seen facts value h machine offered is =
    let all = shows facts value h machine offered is in
    (all.seen, all.is_seen, all.entry)

pub handovers_are_entered : (facts : MachineFacts) (value : EntryValue) (h : Handover)
    → IsWellFormedMachine facts → IsWellFormedValue value → IsHandover facts value h → IsEntered h
handovers_are_entered facts value h machine offered is =
    (shows facts value h machine offered is).entered

pub handovers_are_sound : (facts : MachineFacts) (value : EntryValue) (h : Handover)
    → IsWellFormedMachine facts → IsWellFormedValue value → IsHandover facts value h → IsSound h
handovers_are_sound facts value h machine offered is =
    let all = shows facts value h machine offered is in
    seen_is_sound h all.seen all.entered all.is_seen

-- ---- from the image

-- an image is one handover's, in one version
same_handover : (version other : Version) (h image : Handover) → IsKeptByImages h
    → IsImage other (spelling version h) image → h ≡ image
same_handover version other h image kept is =
    (image_is_read_again version other h image kept.spellable is.kept.spellable is.is).1

pub images_show : (facts : MachineFacts) (value : EntryValue) (version other : Version)
    (h image : Handover) (seen : SeenFacts) → IsWellFormedMachine facts → IsWellFormedValue value
    → IsHandover facts value h → IsKeptByImages h → IsImage other (spelling version h) image
    → IsSeen image seen → ShowsEntry facts value seen
images_show facts value version other h image seen machine offered is kept spelled sees =
    let all = shows facts value h machine offered is in
    let own =
    subst (λ (x : Handover). IsSeen x seen)
    (sym (same_handover version other h image kept spelled)) sees in
    subst (ShowsEntry facts value) (seen_is_determined h all.seen seen all.is_seen own) all.entry

pub images_are_sound : (facts : MachineFacts) (value : EntryValue) (version other : Version)
    (h image : Handover) → IsWellFormedMachine facts → IsWellFormedValue value → IsHandover facts value h
    → IsKeptByImages h → IsImage other (spelling version h) image → IsSound image
images_are_sound facts value version other h image machine offered is kept spelled =
    subst IsSound (same_handover version other h image kept spelled)
    (handovers_are_sound facts value h machine offered is)

pub images_are_entered : (facts : MachineFacts) (value : EntryValue) (version other : Version)
    (h image : Handover) → IsWellFormedMachine facts → IsWellFormedValue value → IsHandover facts value h
    → IsKeptByImages h → IsImage other (spelling version h) image → IsEntered image
images_are_entered facts value version other h image machine offered is kept spelled =
    subst IsEntered (same_handover version other h image kept spelled)
    (handovers_are_entered facts value h machine offered is)
