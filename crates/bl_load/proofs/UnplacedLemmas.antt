-- Rows of files that no machine can hold may be told shorter, where one of them has no place.
use Rattle.std.proofs.Common.{◌≡◌, ◌<◌, ◌+◌, ℕ, suc, List, [], ◌∷◌, ◌++◌, length, arith, subst}
use Rattle.std.proofs.Common.{refl, sym, inl, inr, Option, Some, None, get_or, drop}
use Rattle.std.proofs.Math.Seq.{drop-cons}
use Rattle.std.specs.Prelude.{max}
use Rattle.std.specs.declared.ops.Range.{Range}
use Rattle.bl_bzimage.specs.declared.setup.Setup.{Setup}
use Rattle.bl_map.specs.MachineFacts.{MachineFacts}
use Rattle.bl_map.specs.Limits.{max_size}
use Rattle.bl_map.specs.PoolFrames.{round_up_to_frames}
use Rattle.bl_plan.specs.Permitted.{OrNoMemory}
use Rattle.bl_plan.specs.Placed.{ArePlaced, IsChosen, HasChoiceFault, row_place, place_range}
use Rattle.bl_plan.specs.PlannerFacts.{put_in}
use Rattle.bl_plan.specs.declared.fault.PlanFault.{PlanFault}
use Rattle.bl_plan.specs.declared.part.Choice.{Choice}
use Rattle.bl_plan.specs.declared.part.Choice.TheVariants.{Lowest, Highest}
use Rattle.bl_plan.specs.declared.part.Place.{Place}
use Rattle.bl_plan.specs.declared.part.Role.{Role}
use Rattle.bl_plan.specs.declared.part.Role.TheVariants.{Module, Initrd}
use Rattle.bl_plan.specs.declared.part.Row.{Row}
use Rattle.bl_plan.specs.declared.protocol.Protocol.{Protocol}
use Rattle.bl_load.specs.LinuxRows.{front_rows, initrd_rows}
use Rattle.bl_load.specs.internal.Placing.{capped_length, capped_module_rows, capped_initrd_rows}
use Rattle.bl_load.specs.internal.Placing.{capped_rows_of}
use Rattle.bl_load.specs.KernelReading.{KernelReading, multiboot2, linux, IsKernelReading}
use Rattle.bl_load.specs.Rows.{module_rows, kernel_rows, information_row, rows_of}
use Rattle.bl_load.specs.Unplaced.{IsToldAs, IsFirstUnplaced, IsUnplacedOf, IsUnplaced}
use Rattle.bl_load.specs.Unplaced.{IsFaultBeforePlacing}
use Rattle.bl_load.specs.EntryValue.{EntryValue, module_file, initrd_file}
use Rattle.bl_load.specs.EntryValue.{lines_fault, lines_of}
use Rattle.bl_load.specs.internal.ReadKernels.{IsKernelFault}
use Rattle.bl_load.specs.declared.refusal.PrepFault.{PrepFault}
use Rattle.bl_load.specs.declared.refusal.PrepFault.TheVariants as prep
use Rattle.bl_load.proofs.NoRoomLemmas as modules
use Rattle.bl_load.proofs.LinuxToldLemmas as initrds
use Rattle.bl_load.proofs.ReadingLemmas.{told_placed}

-- a row of this role, index and choice, of so many bytes
abbrev pub row_of : Role → ℕ → Choice → ℕ → Row
row_of part i choice count = record { role = part; index = i; length = count; choice = choice }

-- a row that no machine can hold is told as another of its kind
long_told : (part : Role) (i : ℕ) (choice : Choice) (told count : ℕ) (which : Row)
    → max_size < told → max_size < count → IsToldAs (row_of part i choice told) which
    → IsToldAs (row_of part i choice count) which
long_told part i choice told count which told_long long kind = record {
  role = kind.role;
  index = kind.index;
  choice = kind.choice;
  length = elim kind.length [
    | inl same ↦ inr (omega (arith, same, told_long), long)
    | inr both ↦ inr (both.0, long)
  ];
}

-- the row itself is told so
pub itself_told : (row : Row) → IsToldAs row row
itself_told row = record { role = refl; index = refl; choice = refl; length = inl refl }

module _ (facts : MachineFacts) (which : Row) where
  told_unplaced : (files : List (List ℕ)) (rest : List Row) (k : ℕ) (lines : List (List ℕ))
      (taken : List (Range ℕ))
      → IsFirstUnplaced facts taken (capped_module_rows files k lines ++ rest) which
      → IsFirstUnplaced facts taken (module_rows files k lines ++ rest) which
  told_unplaced files rest k [] taken has = has
  told_unplaced files rest k (line ∷ lines) taken (inl (kind, (fault, here))) =
      let size = length (module_file files k) in
      let choice = Lowest 4096 0x100000 max_size in
      elim (modules.alike_lengths size) [
        | inl same ↦ inl (
          subst (λ (n : ℕ). IsToldAs (row_of Module k choice n) which) same kind,
          (fault, subst (λ (n : ℕ). HasChoiceFault facts taken n choice fault) same here),
        )
        | inr long ↦ inl (
          long_told Module k choice (capped_length size) (round_up_to_frames (max size 1)) which
              long.0
              long.1 kind,
          (
            fault,
            modules.no_room facts taken 4096 0x100000 (round_up_to_frames (max size 1))
                (capped_length size)
                fault long.1 here,
          ),
        )
      ]
  told_unplaced files rest k (line ∷ lines) taken (inr (a, chosen, later)) =
      let size = length (module_file files k) in
      let choice = Lowest 4096 0x100000 max_size in
      elim (modules.alike_lengths size) [
        | inl same ↦ inr (
          a,
          subst (λ (n : ℕ). IsChosen facts taken n choice a) same chosen,
          told_unplaced files rest (suc k) lines
              _ (subst
              (λ (n : ℕ).
              IsFirstUnplaced facts
              (put_in (place_range (row_place (row_of Module k choice n) a)) taken)
              (capped_module_rows files (suc k) lines ++ rest) which) same
              later),
        )
        | inr long ↦
            absurd (modules.no_chosen facts taken 4096 0x100000 (capped_length size) a long.0
            chosen)
      ]

  told_initrd_unplaced : (protocol : Protocol) (setup : Setup) (initrd : List ℕ)
      (taken : List (Range ℕ))
      → IsFirstUnplaced facts taken (capped_initrd_rows setup initrd) which
      → IsFirstUnplaced facts taken (initrd_rows setup initrd) which
  told_initrd_unplaced protocol setup [] taken has = has
  told_initrd_unplaced protocol setup (byte ∷ bytes) taken (inl (kind, (fault, here))) =
      let size = length (byte ∷ bytes) in
      let high = setup.initrd_addr_max + 1 in
      let choice = Highest 4096 4096 high in
      elim (initrds.alike size (omega arith)) [
        | inl same ↦ inl (
          subst (λ (n : ℕ). IsToldAs (row_of Initrd 0 choice n) which) same kind,
          (fault, subst (λ (n : ℕ). HasChoiceFault facts taken n choice fault) same here),
        )
        | inr long ↦ inl (
          long_told Initrd 0 choice (capped_length size) (round_up_to_frames size) which long.0
              long.1 kind,
          (
            fault,
            initrds.no_room facts protocol setup taken 4096 4096 high (round_up_to_frames size)
                (capped_length size) fault long.1 here,
          ),
        )
      ]
  told_initrd_unplaced protocol setup (byte ∷ bytes) taken (inr (a, chosen, later)) = absurd later

  -- rows with the same ones before them
  behind_unplaced : (first told rest : List Row)
      → ((taken : List (Range ℕ)) → IsFirstUnplaced facts taken told which
      → IsFirstUnplaced facts taken rest which)
      → (taken : List (Range ℕ)) → IsFirstUnplaced facts taken (first ++ told) which
      → IsFirstUnplaced facts taken (first ++ rest) which
  behind_unplaced [] told rest each taken has = each taken has
  behind_unplaced (row ∷ first) told rest each taken (inl here) = inl here
  behind_unplaced (row ∷ first) told rest each taken (inr (a, chosen, later)) =
      inr (a, chosen, behind_unplaced first told rest each _ later)

  as_unplaced : (value : EntryValue) (reading : KernelReading)
      → IsFirstUnplaced facts [] (capped_rows_of facts value reading) which
      → IsFirstUnplaced facts [] (rows_of facts value reading) which
  as_unplaced value (multiboot2 kernel) has =
      let rest = information_row facts value kernel.relocation ∷ [] in
      behind_unplaced (kernel_rows kernel.segments kernel.relocation)
      (capped_module_rows value.files 0 value.module_lines ++ rest)
      (module_rows value.files 0 value.module_lines ++ rest)
      (λ taken. told_unplaced value.files rest 0 value.module_lines taken) [] has
  as_unplaced value (linux setup) has =
      let initrd = initrd_file value.files in
      behind_unplaced (front_rows value.protocol setup) (capped_initrd_rows setup initrd)
      (initrd_rows setup initrd)
      (λ taken. told_initrd_unplaced value.protocol setup initrd taken) [] has

-- which of the rows has no place as the code tells them, has none
pub as_unplaced_of : (facts : MachineFacts) (value : EntryValue) (reading : KernelReading)
    (which : Option Row)
    → IsUnplacedOf facts [] (capped_rows_of facts value reading) which
    → IsUnplacedOf facts [] (rows_of facts value reading) which
as_unplaced_of facts value reading None has =
    (has.0, told_placed facts value reading has.0 has.1)
as_unplaced_of facts value reading (Some which) has = as_unplaced facts which value reading has

-- what its kernel's file refuses, where its lines have no fault
pub early_fault : (facts : MachineFacts) (value : EntryValue) → lines_fault (lines_of value) ≡ None
    → (fault : PrepFault) → IsKernelFault facts value fault → IsFaultBeforePlacing facts value fault
early_fault facts value sound (prep.Refused refused) has = inr (sound, has)
early_fault facts value sound prep.NoMemory has = tt

-- want of memory is no refusal
pub reading_no_memory : (facts : MachineFacts) (value : EntryValue) (fault : PrepFault)
    → fault ≡ prep.NoMemory → IsFaultBeforePlacing facts value fault
reading_no_memory facts value fault is = subst (IsFaultBeforePlacing facts value) (sym is) tt

-- what has no place, where its lines have no fault and its kernel was read
pub unplaced_read : (facts : MachineFacts) (value : EntryValue)
    → lines_fault (lines_of value) ≡ None → (reading : KernelReading) (which : Option Row)
    → IsKernelReading facts value reading → IsUnplacedOf facts [] (rows_of facts value reading) which
    → IsUnplaced facts value which
unplaced_read facts value sound reading which is has =
    record { reading = reading; lines = sound; read = is; is = has }

-- the rows from i on, of which the first is placed at an address
module _ (facts : MachineFacts) (taken : List (Range ℕ)) (all : List Row) (i : ℕ) (d : Row)
    (within : i < length all) where
  next : drop i all ≡ get_or all i d ∷ drop (i + 1) all
  next =
      let e : i + 1 ≡ suc i = omega arith in
      subst (λ (n : ℕ). drop i all ≡ get_or all i d ∷ drop n all) (sym e) (drop-cons all i d within)

  pub placed_step : (m : MachineFacts) → m ≡ facts → (more : List (Range ℕ)) (a : ℕ)
      → IsChosen m taken (get_or all i d).length (get_or all i d).choice a
      → more ≡ put_in (place_range (row_place (get_or all i d) a)) taken
      → (((places : List Place) × ArePlaced facts taken (drop i all) places)
      → ((places : List Place) × ArePlaced facts [] all places))
      → ((places : List Place) × ArePlaced facts more (drop (i + 1) all) places)
      → ((places : List Place) × ArePlaced facts [] all places)
  placed_step m same more a has is so_far rest =
      let here = row_place (get_or all i d) a in
      let chosen =
      subst (λ (n : MachineFacts).
      IsChosen n taken (get_or all i d).length (get_or all i d).choice a) same has in
      so_far (
        here ∷ rest.0,
        subst (λ (rs : List Row). ArePlaced facts taken rs (here ∷ rest.0))
            (sym next) (
              chosen,
              refl,
              subst (λ (t : List (Range ℕ)). ArePlaced facts t (drop (i + 1) all) rest.0) is rest.1,
            ),
      )

  pub unplaced_step : (m : MachineFacts) → m ≡ facts → (more : List (Range ℕ)) (a : ℕ)
      → IsChosen m taken (get_or all i d).length (get_or all i d).choice a
      → more ≡ put_in (place_range (row_place (get_or all i d) a)) taken
      → (which : Row)
      → (IsFirstUnplaced facts taken (drop i all) which → IsFirstUnplaced facts [] all which)
      → IsFirstUnplaced facts more (drop (i + 1) all) which → IsFirstUnplaced facts [] all which
  unplaced_step m same more a has is which so_far later =
      let chosen =
      subst (λ (n : MachineFacts).
      IsChosen n taken (get_or all i d).length (get_or all i d).choice a) same has in
      so_far
      (subst (λ (rs : List Row). IsFirstUnplaced facts taken rs which)
      (sym next)
      (inr (
        a,
        chosen,
        subst (λ (t : List (Range ℕ)). IsFirstUnplaced facts t (drop (i + 1) all) which) is later,
      )))

  pub unplaced_here : (m : MachineFacts) → m ≡ facts → (told fault : PlanFault) → told ≡ fault
      → OrNoMemory (HasChoiceFault m taken (get_or all i d).length (get_or all i d).choice) told
      → (OrNoMemory (HasChoiceFault m taken (get_or all i d).length (get_or all i d).choice) fault
      → HasChoiceFault m taken (get_or all i d).length (get_or all i d).choice fault)
      → (IsFirstUnplaced facts taken (drop i all) (get_or all i d)
      → IsFirstUnplaced facts [] all (get_or all i d))
      → IsFirstUnplaced facts [] all (get_or all i d)
  unplaced_here m same told fault is refused known so_far =
      let at_fault =
      known
      (subst
      (OrNoMemory (HasChoiceFault m taken (get_or all i d).length (get_or all i d).choice))
      is refused) in
      let has =
      subst (λ (n : MachineFacts).
      HasChoiceFault n taken (get_or all i d).length (get_or all i d).choice fault) same at_fault in
      so_far
      (subst (λ (rs : List Row). IsFirstUnplaced facts taken rs (get_or all i d))
      (sym next) (inl (itself_told (get_or all i d), (fault, has))))
