-- Digests are those of the images that boots write, and an image has one table.
use Rattle.std.proofs.Common.{◌≡◌, ◌∙◌, ◌++◌, ℕ, List, Some, refl, sym, ap}
use Rattle.bl_digest.specs.Digests.{digests_of}
use Rattle.bl_load.specs.Handover.{Handover}
use Rattle.bl_image.specs.Image.{spelling}
use Rattle.bl_image.specs.ImageHandover.{IsImage}
use Rattle.bl_image.specs.SourceFacts.{SourceFacts}
use Rattle.bl_image.specs.Versions.{written_version}
use Rattle.bl_image.specs.declared.version.Version.{Version}
use Rattle.bl_image.proofs.KnownLemmas.{known_ok}
use Rattle.bl_image.proofs.ReadAgain.{image_is_read_again}
use Rattle.bl_stage.specs.Files.{File}
use Rattle.bl_session.specs.session.Schedules.{no_fault}
use Rattle.bl_session.proofs.session_lemmas.OutcomeLaws.{same_handover}
use Rattle.program_commands.specs.Converted.{Converts}
use Rattle.program_commands.specs.Ends.{IsBooted, Surroundings}
use Rattle.program_commands.specs.ReadImage.{ReadsImage}
use Rattle.program_commands.proofs.ConvertLaws.{one_handover}
use Rattle.program_boots.specs.described.BootCases.{entry_value_at}
use Rattle.program_boots.specs.described.BootCases.{boot_of}
use Rattle.program_boots.specs.described.DescribedMenu.{described_entry}
use Rattle.program_say.specs.DigestLines.{digest_lines}
use Rattle.program_boots.specs.BootLines.{boot_lines}
use Rattle.program_commands.specs.digesting.Digested.{IsDigested}
use Rattle.program_commands.specs.digesting.ImageDigested.{IsImageDigested, HasDigestLines}

-- the table of a handover
abbrev table_by : Handover → List ℕ
table_by h = digest_lines (digests_of h)

-- the digest of a boot
module _ {F : Type 0} {answers : F → List ℕ → File → Type 0} {faults : F → ℕ} {desc : List ℕ}
    {before after : F} {old new : List ℕ}
    (a : IsDigested answers faults desc before after old new) where
  abbrev lines : List ℕ
  lines = boot_lines a.earlier a.entry (described_entry a.case.description a.entry).title

  -- beside another boot or digest
  module _ {G : Type 0} {replies : G → List ℕ → File → Type 0} {wants : G → ℕ} {other : List ℕ}
    where
      pub of_booted : {began ended : Surroundings G} (b : IsBooted replies wants other began ended)
          → a.case.facts ≡ b.case.facts → entry_value_at a.case a.entry ≡ entry_value_at b.case b.entry
          → (image table : List ℕ) × (ended.sink ≡ began.sink ++ image) × HasDigestLines image table
          × (new ≡ old ++ (lines ++ table))
      of_booted b machine value =
          let f = boot_of a.case.description a.case.facts a.case.files in
          let g = boot_of b.case.description b.case.facts b.case.files in
          let same : a.handover ≡ b.handover =
          same_handover f g a.case.files b.case.files no_fault no_fault
          a.entry b.entry
          a.earlier b.earlier a.handover b.handover machine value a.outcome b.outcome in (
            spelling written_version b.handover,
            table_by b.handover,
            b.image,
            record {
              version = written_version;
              handover = b.handover;
              is = record { is = refl; has = tt; kept = b.kept };
              lines_are = refl;
            },
            a.said ∙ ap (λ (h : Handover). old ++ (lines ++ table_by h)) same,
          )

      pub of_digested : {began ended : G} {was is : List ℕ}
          (b : IsDigested replies wants other began ended was is)
          → a.case.facts ≡ b.case.facts → entry_value_at a.case a.entry ≡ entry_value_at b.case b.entry
          → (table : List ℕ) × (new ≡ old ++ (lines ++ table))
          × (is ≡ was ++ (boot_lines b.earlier b.entry
          (described_entry b.case.description b.entry).title ++ table))
      of_digested b machine value =
          let f = boot_of a.case.description a.case.facts a.case.files in
          let g = boot_of b.case.description b.case.facts b.case.files in
          let same : a.handover ≡ b.handover =
          same_handover f g a.case.files b.case.files no_fault no_fault
          a.entry b.entry
          a.earlier b.earlier a.handover b.handover machine value a.outcome b.outcome in (
            table_by b.handover,
            a.said ∙ ap (λ (h : Handover). old ++ (lines ++ table_by h)) same,
            b.said,
          )

-- what was read of bytes that are known is an image of them
pub said_table : (image old new : List ℕ) (before after : SourceFacts)
    → before.rest ≡ Some image → IsImageDigested before after old new
    → (table : List ℕ) × HasDigestLines image table × (new ≡ old ++ table)
said_table image old new before after known d =
    let read : ReadsImage before after d.handover = d.read in
    let is =
    known_ok d.handover before after (read.version, read.has, read.came) read.ended read.kept image
    known in (
      table_by d.handover,
      record { version = is.0; handover = d.handover; is = is.1; lines_are = refl },
      d.said,
    )

-- two handovers of one image are one
one_of_image : (image : List ℕ) (v w : Version) (h k : Handover) → IsImage v image h
    → IsImage w image k → h ≡ k
one_of_image image v w h k a b =
    (image_is_read_again v w h k a.kept.spellable b.kept.spellable (sym a.is ∙ b.is)).1

pub one_table : (image a b : List ℕ) → HasDigestLines image a → HasDigestLines image b → a ≡ b
one_table image a b x y =
    x.lines_are
    ∙ ap table_by (one_of_image image x.version y.version x.handover y.handover x.is y.is)
    ∙ sym y.lines_are

pub converted_table : (image converted a b : List ℕ) → Converts image converted
    → HasDigestLines image a → HasDigestLines converted b → a ≡ b
converted_table image converted a b c x y =
    let one = one_handover image converted c in
    x.lines_are
    ∙ ap table_by (one_of_image image x.version one.0 x.handover one.1 x.is one.2)
    ∙ ap table_by (one_of_image converted written_version y.version one.1 y.handover one.3 y.is)
    ∙ sym y.lines_are
