-- A converted image is walked as its source is.
use Rattle.std.proofs.Common.{◌≡◌, ℕ, List, Some, inl, inr, refl, sym, ap, ◌∙◌}
use Rattle.std.proofs.Common.{subst}
use Rattle.std.proofs.lemmas.List.{append_cancel_left}
use Rattle.bl_load.specs.Handover.{Handover}
use Rattle.bl_image.specs.declared.fault.ImageFault.{ImageFault}
use Rattle.bl_image.specs.declared.fault.ImageFault.TheVariants as image
use Rattle.bl_image.specs.declared.version.Version.{Version}
use Rattle.bl_image.specs.ImageHandover.{IsImage}
use Rattle.bl_image.specs.SourceFacts.{SourceFacts, IsTransient}
use Rattle.bl_image.specs.Versions.{written_version}
use Rattle.bl_image.proofs.ImageLaws.{image_not_refused}
use Rattle.bl_image.proofs.KnownLemmas.{known_ok}
use Rattle.bl_image.proofs.ReadAgain.{image_is_read_again}
use Rattle.bl_walk.specs.Faults.{HasWalkFault, IsSound}
use Rattle.bl_walk.specs.Seen.{IsSeen}
use Rattle.bl_walk.specs.declared.fault.WalkFault.{WalkFault}
use Rattle.bl_walk.specs.declared.fault.WalkFault.TheVariants as walking
use Rattle.bl_walk.proofs.SeenLaws.{seen_is_determined}
use Rattle.program_commands.specs.Converted.{Converts, Walks, WalkRefuses}
use Rattle.program_commands.specs.ReadImage.{ReadsImage}
use Rattle.program_commands.specs.Walked.{IsBadImage}
use Rattle.program_say.specs.WalkLines.{walk_lines}

-- what was read of bytes that are known is an image of them
is_image : (before after : SourceFacts) (h : Handover) (bytes : List ℕ) → before.rest ≡ Some bytes
    → ReadsImage before after h → (version : Version) × IsImage version bytes h
is_image before after h bytes e read =
    known_ok h before after (read.version, read.has, read.came) read.ended read.kept bytes e

-- and the one that they are an image of
read_same : (before after : SourceFacts) (h k : Handover) (bytes : List ℕ) (version : Version)
    → before.rest ≡ Some bytes → ReadsImage before after k → IsImage version bytes h → k ≡ h
read_same before after h k bytes version e read is =
    let other = is_image before after k bytes e read in
    (image_is_read_again other.0 version k h other.1.kept.spellable is.kept.spellable
    (sym other.1.is ∙ is.is)).1

of_the_bytes : (fault : ImageFault) → IsTransient fault → (fault ≡ image.DeviceFault → ⊥)
    → (fault ≡ image.NoMemory → ⊥) → ⊥
of_the_bytes image.BadMagic moment device memory = absurd moment
of_the_bytes image.BadVersion moment device memory = absurd moment
of_the_bytes image.BadHeader moment device memory = absurd moment
of_the_bytes (image.BadPart i) moment device memory = absurd moment
of_the_bytes image.WrongLength moment device memory = absurd moment
of_the_bytes image.DeviceFault moment device memory = absurd (device refl)
of_the_bytes image.NoMemory moment device memory = absurd (memory refl)

sound_has_none : (h : Handover) (fault : WalkFault) → IsSound h → HasWalkFault h fault
    → (fault ≡ walking.NoMemory → ⊥) → ⊥
sound_has_none h walking.OutsideImage sound stands memory = sound.inside stands
sound_has_none h walking.BadInfo sound stands memory = sound.info stands
sound_has_none h walking.BadState sound stands memory = sound.state stands
sound_has_none h walking.NoMemory sound stands memory = memory refl

-- an image in which no fault stands is not refused
not_bad : (before after : SourceFacts) (h : Handover) (bytes : List ℕ) (version : Version) (number : ℕ)
    → before.rest ≡ Some bytes → IsImage version bytes h → IsSound h
    → IsBadImage before after number → ⊥
not_bad before after h bytes version number e is sound (inl none) =
    of_the_bytes none.fault
    (image_not_refused before after none.fault bytes version h is e none.shown)
    none.no_device none.no_memory
not_bad before after h bytes version number e is sound (inr nothing) =
    let same = read_same before after h nothing.handover bytes version e nothing.read is in
    sound_has_none h nothing.fault sound
    (subst (λ (k : Handover). HasWalkFault k nothing.fault) same nothing.stands) nothing.no_memory

module _ (source converted : List ℕ) (c : Converts source converted) where
  abbrev h : Handover
  h = c.done.handover

  from : (version : Version) × IsImage version source h
  from = is_image c.before c.after h source c.known c.done.read

  to : IsImage written_version converted h
  to = record {
    is = append_cancel_left c.old converted _ c.done.written;
    has = tt;
    kept = c.done.read.kept;
  }

  pub one_handover : (version : Version) × (handover : Handover) × IsImage version source handover
      × IsImage written_version converted handover
  one_handover = (from.0, h, from.1, to)

  -- what a walk of an image of the same sees
  sees : (bytes said : List ℕ) (version : Version) → IsImage version bytes h
      → (w : Walks bytes said)
      → IsSeen h w.done.seen × IsSound h × (said ≡ walk_lines w.done.seen)
  sees bytes said version is w =
      let same =
      read_same w.before w.after h w.done.handover bytes version w.known w.done.read is in (
        subst (λ (k : Handover). IsSeen k w.done.seen) same w.done.is_seen,
        subst IsSound same w.done.sound,
        append_cancel_left w.old said _ w.done.said,
      )

  pub said_alike : (a b : List ℕ) → Walks source a → Walks converted b → a ≡ b
  said_alike a b one two =
      let p = sees source a from.0 from.1 one in
      let q = sees converted b written_version to two in
      p.2 ∙ ap walk_lines (seen_is_determined h one.done.seen two.done.seen p.0 q.0) ∙ sym q.2

  pub not_refused : (a : List ℕ) (number : ℕ) → Walks source a → WalkRefuses converted number → ⊥
  not_refused a number one bad =
      let p = sees source a from.0 from.1 one in
      not_bad bad.before bad.after h converted written_version number bad.known to p.1 bad.bad

  pub not_walked : (b : List ℕ) (number : ℕ) → WalkRefuses source number → Walks converted b → ⊥
  not_walked b number bad two =
      let q = sees converted b written_version to two in
      not_bad bad.before bad.after h source from.0 number bad.known from.1 q.1 bad.bad
