-- Of what a machine is made of one first fault stands, and none where it is accepted; memory may run
-- out beside it.
use Rattle.std.proofs.Common.{◌≡◌, ◌≢◌, ◌≤◌, ◌<◌, ◌∙◌, ℕ, List, length, take, sym, get_or}
use Rattle.std.proofs.Common.{subst, refl, arith, inl, inr}
use Rattle.std.specs.Prelude.{◌⊎◌, ◌+◌, All, Option, Some, None, IfSome, IsSomeAnd, slice_get}
use Rattle.std.proofs.lemmas.Bool.{cases_order}
use Rattle.std.proofs.lemmas.List.{get_or-take, length-take-le}
use Rattle.std.proofs.lemmas.Option.{slice_get-get_or}
use Rattle.std.specs.declared.ops.Range.{Range}
use Rattle.bl_map.specs.Faults.{HasFirstMapFault, IsAccepted, HasAllowedEnd}
use Rattle.bl_map.specs.Firmware.{FirmwareFacts, EfiFacts, SmbiosFacts, efi_info}
use Rattle.bl_map.specs.FirmwareFaults.{HasPlacedFault, HasScreenFault, HasEfiFault}
use Rattle.bl_map.specs.FirmwareFaults.{HasAvoidedFault}
use Rattle.bl_map.specs.FirmwareFaults.{HasFirmwareFault, HasFirstMachineFault}
use Rattle.bl_map.specs.FirmwareLimits.{max_avoided, screen_fault, screen_end, machine_efi_fault}
use Rattle.bl_map.specs.Limits.{max_regions}
use Rattle.bl_map.specs.MachineFacts.{IsSize, IsPool, IsFirmware, IsScreen, IsRsdp, IsEfi, IsSmbios}
use Rattle.bl_map.specs.MachineFacts.{AreUnusable, IsAvoidable, AreAvoided, MissesPool}
use Rattle.bl_map.specs.declared.fault.MapFault.{MapFault}
use Rattle.bl_map.specs.declared.fault.MapFault.TheVariants as fault
use Rattle.bl_map.specs.declared.firmware.screen.Screen.{Screen}
use Rattle.bl_map.specs.declared.kind.Kind.TheVariants.{Usable}
use Rattle.bl_map.specs.declared.region.Region.{Region}

-- one fault stands at most, and none of what is sound
record IsFirst (Sound : Type 0) (Has : MapFault → Type 0) : Type 0 where
  pub one : (f g : MapFault) → Has f → Has g → f ≡ g
  pub none : (f : MapFault) → Sound → Has f → ⊥

-- ---- a check

abbrev HasLast : Type 0 → MapFault → MapFault → Type 0
HasLast Kept broken f = (¬ Kept) × (f ≡ broken)

first_last : (Kept : Type 0) (broken : MapFault) → IsFirst Kept (HasLast Kept broken)
first_last Kept broken = record {
  one = λ f g a b. a.1 ∙ sym b.1;
  none = λ f kept a. a.0 kept;
}

-- a limit, and then the place
module _ (place : MapFault) (Apart Sound : Type 0) (apart : Sound → Apart) where
  first_placed : (broken : Option MapFault) → (Sound → broken ≡ None)
      → IsFirst Sound (HasPlacedFault broken place Apart)
  first_placed None sound = record {
    one = λ f g a b. a.1 ∙ sym b.1;
    none = λ f kept a. a.0 (apart kept);
  }
  first_placed (Some broken) sound = record {
    one = λ f g a b. a ∙ sym b;
    none = λ f kept a. let never = sound kept in absurd cc;
  }

-- ---- a check, and what is checked after it

abbrev HasThen : Type 0 → (MapFault → Type 0) → (MapFault → Type 0) → MapFault → Type 0
HasThen Kept Has Rest f = Has f ⊎ (Kept × Rest f)

module _ (Kept Sound : Type 0) (Has Rest : MapFault → Type 0) (here : IsFirst Kept Has)
    (rest : IsFirst Sound Rest) where
  one_then : (f g : MapFault) → HasThen Kept Has Rest f → HasThen Kept Has Rest g → f ≡ g
  one_then f g (inl a) (inl b) = here.one f g a b
  one_then f g (inl a) (inr b) = absurd (here.none f b.0 a)
  one_then f g (inr a) (inl b) = absurd (here.none g a.0 b)
  one_then f g (inr a) (inr b) = rest.one f g a.1 b.1

  none_then : (f : MapFault) → Kept × Sound → HasThen Kept Has Rest f → ⊥
  none_then f sound (inl a) = here.none f sound.0 a
  none_then f sound (inr a) = rest.none f sound.1 a.1

  first_then : IsFirst (Kept × Sound) (HasThen Kept Has Rest)
  first_then = record { one = one_then; none = none_then }

-- what may be missing
module _ (T : Type 0) (IsSound : T → Type 0) (Has : T → MapFault → Type 0)
    (each : (x : T) → IsFirst (IsSound x) (Has x)) where
  first_told : (told : Option T)
      → IsFirst (IfSome told IsSound) (λ f. IsSomeAnd told (λ x. Has x f))
  first_told None = record { one = λ f g a b. absurd a; none = λ f kept a. a }
  first_told (Some x) = record { one = (each x).one; none = (each x).none }

-- ---- the first element that is bad

record HasBadAt (X : Type 0) (IsGood : X → Type 0) (named : ℕ → MapFault) (xs : List X)
    (f : MapFault) : Type 0 where
  pub at : ℕ
  pub is : f ≡ named at
  pub within : at < length xs
  pub before : All IsGood (take at xs)
  pub here : IfSome (slice_get xs at) (λ x. ¬ IsGood x)

module _ (X : Type 0) (IsGood : X → Type 0) (named : ℕ → MapFault) (xs : List X) (none : X) where
  bad_at : (i : ℕ) → i < length xs → IfSome (slice_get xs i) (λ x. ¬ IsGood x)
      → ¬ IsGood (get_or xs i none)
  bad_at i within bad =
      subst (λ (x : Option X). IfSome x (λ y. ¬ IsGood y)) (slice_get-get_or xs i none within) bad

  good_before : (i k : ℕ) → i < length xs → k < i → All IsGood (take i xs)
      → IsGood (get_or xs k none)
  good_before i k within less good =
      let whole = length-take-le i xs (omega (arith, within)) in
      subst IsGood (get_or-take i xs k none less) (good k none (omega (arith, whole, less)))

  not_before : (i k : ℕ) → i < length xs → k < i → All IsGood (take i xs)
      → IfSome (slice_get xs k) (λ x. ¬ IsGood x) → ⊥
  not_before i k within less good bad =
      bad_at k (omega (arith, within, less)) bad (good_before i k within less good)

  one_index : (i k : ℕ) → i < length xs → k < length xs → All IsGood (take i xs)
      → All IsGood (take k xs) → IfSome (slice_get xs i) (λ x. ¬ IsGood x)
      → IfSome (slice_get xs k) (λ x. ¬ IsGood x) → i ≡ k
  one_index i k a b before earlier here there =
      elim (cases_order i k) [
        | inl same ↦ same
        | inr other ↦ elim other [
          | inl less ↦ absurd (not_before k i b less earlier here)
          | inr less ↦ absurd (not_before i k a less before there)
        ]
      ]

  first_bad : IsFirst (All IsGood xs) (HasBadAt X IsGood named xs)
  first_bad = record {
    one = λ f g a b.
        rw (a.is, b.is, one_index a.at b.at a.within b.within a.before b.before a.here b.here) refl;
    none = λ f good a. bad_at a.at a.within a.here (good a.at none a.within);
  }

-- ---- of a machine's parts

no_region : Region
no_region = record { base = 0; length = 0; kind = Usable }

no_range : Range ℕ
no_range = record { start = 0; end = 0 }

module _ (size : ℕ) (regions : List Region) (pool : Range ℕ) where
  -- the faults of a machine, but for want of memory, as checks that follow each other
  abbrev HasChecked : MapFault → Type 0
  HasChecked =
      HasThen (IsSize size) (HasLast (IsSize size) fault.BadSize)
      (HasThen (length regions ≤ max_regions)
      (HasLast (length regions ≤ max_regions) fault.TooManyRegions)
      (HasThen (All HasAllowedEnd regions)
      (HasBadAt Region HasAllowedEnd fault.BadRegion regions)
      (HasLast (IsPool regions size pool) fault.BadPool)))

  first_checked :
      IsFirst (IsSize size × ((length regions ≤ max_regions) × (All HasAllowedEnd regions
      × IsPool regions size pool))) HasChecked
  first_checked =
      first_then _ _ _ _ (first_last (IsSize size) fault.BadSize)
      (first_then _ _ _ _ (first_last (length regions ≤ max_regions) fault.TooManyRegions)
      (first_then _ _ _ _ (first_bad Region HasAllowedEnd fault.BadRegion regions no_region)
      (first_last (IsPool regions size pool) fault.BadPool)))

  checked : (f : MapFault) → HasFirstMapFault size regions pool f
      → (f ≡ fault.NoMemory) ⊎ HasChecked f
  checked fault.NoMemory has = inl refl
  checked fault.BadSize has = inr (inl (has, refl))
  checked fault.TooManyRegions has =
      let many = has.1 in
      inr (inr (has.0, inl ((λ few. omega (arith, few, many)), refl)))
  checked (fault.BadRegion i) has =
      inr (inr (
        has.0,
        inr (
          has.1,
          inl (record {
            at = i;
            is = refl;
            within = has.2;
            before = has.3;
            here = has.4;
          }),
        ),
      ))
  checked fault.BadPool has = inr (inr (has.0, inr (has.1, inr (has.2, (has.3, refl)))))
  checked f has = absurd has

  -- two that are told are one
  pub one_map_fault : (f g : MapFault) → f ≢ fault.NoMemory → g ≢ fault.NoMemory
      → HasFirstMapFault size regions pool f → HasFirstMapFault size regions pool g → f ≡ g
  one_map_fault f g told said a b =
      elim (checked f a) [
        | inl short ↦ absurd (told short)
        | inr x ↦ elim (checked g b) [
          | inl short ↦ absurd (said short)
          | inr y ↦ first_checked.one f g x y
        ]
      ]

  -- of parts that are accepted memory alone may run out
  pub no_map_fault : (f : MapFault) → IsAccepted size regions pool
      → HasFirstMapFault size regions pool f → f ≡ fault.NoMemory
  no_map_fault f sound a =
      elim (checked f a) [
        | inl short ↦ short
        | inr x ↦
            absurd (first_checked.none f (sound.size_is, (sound.few, (sound.low, sound.pool_is))) x)
      ]

-- ---- of what firmware tells

module _ (pool : Range ℕ) (avoided : List (Range ℕ)) where
  abbrev HasCheckedRange : MapFault → Type 0
  HasCheckedRange =
      HasThen (length avoided ≤ max_avoided)
      (HasLast (length avoided ≤ max_avoided) fault.TooManyAvoided)
      (HasThen (All IsAvoidable avoided)
      (HasBadAt (Range ℕ) IsAvoidable fault.BadAvoided avoided)
      (HasLast (All (MissesPool pool) avoided) fault.PoolAvoided))

  first_checked_range :
      IsFirst ((length avoided ≤ max_avoided) × (All IsAvoidable avoided
      × All (MissesPool pool) avoided)) HasCheckedRange
  first_checked_range =
      first_then _ _ _ _ (first_last (length avoided ≤ max_avoided) fault.TooManyAvoided)
      (first_then _ _ _ _ (first_bad (Range ℕ) IsAvoidable fault.BadAvoided avoided no_range)
      (first_last (All (MissesPool pool) avoided) fault.PoolAvoided))

  checked_range : (f : MapFault) → HasAvoidedFault pool avoided f → HasCheckedRange f
  checked_range fault.TooManyAvoided has =
      inl ((λ few. omega (arith, few, has)), refl)
  checked_range (fault.BadAvoided i) has =
      inr (
        has.0,
        inl (record {
          at = i;
          is = refl;
          within = has.1;
          before = has.2;
          here = has.3;
        }),
      )
  checked_range fault.PoolAvoided has = inr (has.0, inr (has.1, (has.2, refl)))
  checked_range f has = absurd has

  first_range : IsFirst (AreAvoided pool avoided) (HasAvoidedFault pool avoided)
  first_range = record {
    one = λ f g a b. first_checked_range.one f g (checked_range f a) (checked_range g b);
    none = λ f sound a.
        first_checked_range.none f (sound.few, (sound.avoidable, sound.apart)) (checked_range f a);
  }

module _ (regions : List Region) where
  first_screen : (screen : Screen)
      → IsFirst (IsScreen regions screen) (HasScreenFault regions screen)
  first_screen screen =
      first_placed fault.BadScreenPlace
      (AreUnusable regions screen.base (screen_end screen)) (IsScreen regions screen)
      (λ sound. sound.apart) (screen_fault screen) (λ sound. sound.sound)

  first_efi : (efi : EfiFacts) → IsFirst (IsEfi regions efi) (HasEfiFault regions efi)
  first_efi efi =
      first_placed fault.BadEfiMapPlace
      (AreUnusable regions efi.map_address (efi.map_address + length efi.map))
      (IsEfi regions efi) (λ sound. sound.apart) (machine_efi_fault (efi_info efi))
      (λ sound. sound.sound)

  module _ (pool : Range ℕ) (firmware : FirmwareFacts) where
    first_firmware :
        IsFirst (IfSome firmware.screen (IsScreen regions)
        × (IfSome firmware.rsdp (IsRsdp regions)
        × (IfSome firmware.efi (IsEfi regions)
        × (IfSome firmware.smbios IsSmbios × AreAvoided pool firmware.avoided))))
        (HasFirmwareFault regions pool firmware)
    first_firmware =
        first_then _ _ _ _ (first_told Screen _ _ first_screen firmware.screen)
        (first_then _ _ _ _ (first_told ℕ _ _
        (λ a. first_last (IsRsdp regions a) fault.BadRsdp) firmware.rsdp)
        (first_then _ _ _ _ (first_told EfiFacts _ _ first_efi firmware.efi)
        (first_then _ _ _ _ (first_told SmbiosFacts _ _
        (λ a. first_last (IsSmbios a) fault.BadSmbiosSize) firmware.smbios)
        (first_range pool firmware.avoided))))

-- ---- of both

module _ (size : ℕ) (regions : List Region) (pool : Range ℕ) (firmware : FirmwareFacts) where
  -- two that are told are one
  pub one_machine_fault : (f g : MapFault) → f ≢ fault.NoMemory → g ≢ fault.NoMemory
      → HasFirstMachineFault size regions pool firmware f
      → HasFirstMachineFault size regions pool firmware g → f ≡ g
  one_machine_fault f g told said (inl a) (inl b) =
      one_map_fault size regions pool f g told said a b
  one_machine_fault f g told said (inl a) (inr b) =
      absurd (told (no_map_fault size regions pool f b.0 a))
  one_machine_fault f g told said (inr a) (inl b) =
      absurd (said (no_map_fault size regions pool g a.0 b))
  one_machine_fault f g told said (inr a) (inr b) =
      (first_firmware regions pool firmware).one f g a.1 b.1

  -- of a machine that is accepted, with what firmware may tell, memory alone may run out
  pub no_machine_fault : (f : MapFault) → IsAccepted size regions pool
      → IsFirmware regions pool firmware
      → HasFirstMachineFault size regions pool firmware f → f ≡ fault.NoMemory
  no_machine_fault f sound told (inl a) = no_map_fault size regions pool f sound a
  no_machine_fault f sound told (inr a) =
      absurd ((first_firmware regions pool firmware).none f
      (told.screen, (told.rsdp, (told.efi, (told.smbios, told.avoided)))) a.1)
