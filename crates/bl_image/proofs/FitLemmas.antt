-- What memory hands over fits its image.
use Rattle.std.proofs.Common.{◌≡◌, ◌+◌, ◌<◌, ◌≤◌, ◌^◌, ℕ, List, [], ◌∷◌, length, get_or, All}
use Rattle.std.proofs.Common.{arith, sym, subst}
use Rattle.std.proofs.lemmas.List.{length-map}
use Rattle.std.proofs.lemmas.List.Elements.{All-map, All-cons, All-nil}
use Rattle.bl_plan.specs.declared.part.Place.{Place}
use Rattle.bl_plan.specs.declared.protocol.Protocol.{Protocol}
use Rattle.bl_load.specs.declared.registers.Registers.{Registers}
use Rattle.bl_load.specs.HandoffFacts.{IsWellFormedHandoff}
use Rattle.bl_load.specs.Protocols.{is_wide}
use Rattle.bl_load.specs.Registers.{are_wide}
use Rattle.bl_load.specs.PlanContents.{part_in, handover_in}
use Rattle.bl_image.specs.ImageHandover.{IsKeptByImages}
use Rattle.bl_image.specs.Spellable.{FitsRecord, IsSpellable, AreFit}
use Rattle.bl_image.specs.internal.PlaceRecords.{PlaceFits, AreSpellable}
use Rattle.bl_image.proofs.PartLemmas.{memory_kept}
use Rattle.bl_image.proofs.Spelled.{EndsIn, length-place_bytes}

-- places that a handoff keeps fit
pub records_fit : (protocol : Protocol) (r : Registers) (ps : List Place)
    → AreFit r → All (λ (p : Place). p.index < 2 ^ 32) ps
    → IsWellFormedHandoff (record { protocol = protocol; registers = r; places = ps })
    → AreSpellable r ps
records_fit protocol r ps registers indices kept =
    record {
      registers = registers;
      count = let few : length ps ≤ 256 = kept.few in omega arith;
      places = λ k d within.
          let below : (get_or ps k d).address + (get_or ps k d).length ≤ 2 ^ 32 =
          kept.below k d within in
          record { index = indices k d within; address = omega arith; count = omega arith };
    }

part_fits : (bytes : List ℕ) (place : Place) → EndsIn bytes place → PlaceFits place
    → FitsRecord (part_in bytes place)
part_fits bytes place inside fits =
    record {
      index = fits.index;
      address = fits.address;
      count =
          subst (λ (n : ℕ). n < 2 ^ 64) (sym (length-place_bytes bytes place inside)) fits.count;
    }

-- and so do the parts that memory has there
pub handover_fits : (bytes : List ℕ) (protocol : Protocol) (r : Registers) (ps : List Place)
    → All (EndsIn bytes) ps → are_wide r ≡ is_wide protocol → AreSpellable r ps
    → IsSpellable (handover_in bytes protocol r ps)
handover_fits bytes protocol r ps inside width fit =
    record {
      registers = (width, fit.registers);
      count = subst (λ (n : ℕ). n < 2 ^ 32) (sym (length-map ps (part_in bytes))) fit.count;
      parts =
          All-map FitsRecord (part_in bytes) ps
          (λ k d within.
          part_fits bytes (get_or ps k d) (inside k d within) (fit.places k d within));
    }

-- and are what an image keeps
pub handover_kept : (bytes : List ℕ) (protocol : Protocol) (r : Registers) (ps : List Place)
    → All (EndsIn bytes) ps → AreSpellable r ps
    → IsWellFormedHandoff (record { protocol = protocol; registers = r; places = ps })
    → IsKeptByImages (handover_in bytes protocol r ps)
handover_kept bytes protocol r ps inside fit kept = record {
  handoff = memory_kept bytes protocol r ps inside kept;
  spellable = handover_fits bytes protocol r ps inside kept.width fit;
}

-- the goal, by a proof that each of these numbers is below the limit
abbrev pub ByNumbers : ℕ → List ℕ → Type 0 → Type 0
ByNumbers limit [] goal = goal
ByNumbers limit (n ∷ ns) goal = n < limit → ByNumbers limit ns goal

by_numbers : (limit : ℕ) (ns : List ℕ) (goal : Type 0) → (All (λ n. n < limit) ns → goal)
    → ByNumbers limit ns goal
by_numbers limit [] goal all = all (All-nil (λ n. n < limit))
by_numbers limit (n ∷ ns) goal all =
    λ first. by_numbers limit ns goal
    (λ rest. all (All-cons (λ k. k < limit) n ns first rest))

-- numbers are all below a limit, where each is
pub all_below : (limit : ℕ) (ns : List ℕ) → ByNumbers limit ns (All (λ n. n < limit) ns)
all_below limit ns = by_numbers limit ns (All (λ n. n < limit) ns) (λ all. all)
