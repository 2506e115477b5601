-- Bytes that have no fault are an image.
use Rattle.std.proofs.Common.{◌≡◌, ◌+◌, ◌≤◌, ◌<◌, ◌^◌, ℕ, zero, suc, Bool, true, false, List, []}
use Rattle.std.proofs.Common.{◌∷◌, ◌++◌, length, take, drop, map, All, Some, None, refl, sym, ap}
use Rattle.std.proofs.Common.{◌∙◌, arith, append_assoc}
use Rattle.std.specs.Prelude.{◌==◌, if◌then◌else◌}
use Rattle.std.specs.List.{flat_map}
use Rattle.std.proofs.lemmas.Bool.Decides.{Decides-eqb}
use Rattle.std.proofs.lemmas.List.{append-nil, take-append-drop, length-take-le, length-drop}
use Rattle.std.proofs.lemmas.List.{drop_all}
use Rattle.std.proofs.lemmas.List.Elements.{All-cons, All-nil}
use Rattle.std.proofs.lemmas.List.Concat.{flat_map-cons}
use Rattle.bl_plan.specs.declared.part.Place.{Place}
use Rattle.bl_plan.proofs.OrderLemmas.{AreRelated, related_pairs}
use Rattle.bl_load.specs.Handover.{Part, Handover}
use Rattle.bl_load.specs.HandoffFacts.{Ascends, IsWellFormedHandoff, IsRoleAllowed}
use Rattle.bl_load.specs.Protocols.{is_wide}
use Rattle.bl_image.specs.Layouts.{max_role}
use Rattle.bl_image.specs.declared.fault.ImageFault.TheVariants.{WrongLength}
use Rattle.bl_image.specs.declared.version.Version.{Version}
use Rattle.bl_image.specs.Image.{head}
use Rattle.bl_image.specs.internal.PlaceRecords.{place_record, total_length, PlaceFits}
use Rattle.bl_image.specs.ImageFaults.{head_fault, image_fault, records_fault, parts_behind}
use Rattle.bl_image.specs.ImageFaults.{RecordsBefore}
use Rattle.bl_image.specs.ImageFaults.{with_record}
use Rattle.bl_image.specs.ImageFaults.{no_records, end_fault}
use Rattle.bl_image.specs.ImageHandover.{part_place, IsImage}
use Rattle.bl_image.proofs.FrontLemmas.{head_front}
use Rattle.bl_image.proofs.PartLemmas.{all_bytes, spelled_by, image_kept}
use Rattle.bl_image.proofs.RecordLemmas.{parts_step}
use Rattle.bl_image.proofs.NoFaultLemmas.{IsSmall, first_none}
use Rattle.bl_image.proofs.FoundLemmas.{head_found, record_found}

record IsSoundPlace (wide : Bool) (p : Place) : Type 0 where
  may : IsRoleAllowed wide p.role
  index : p.index < 2 ^ 32
  filled : 1 ≤ p.length
  below : p.address + p.length ≤ 2 ^ 32

record PlacesFound (wide : Bool) (count : ℕ) (before : RecordsBefore) (bytes : List ℕ) : Type 0 where
  places : List Place
  tail : List ℕ
  is : flat_map place_record places ++ tail ≡ bytes
  size : length places ≡ count
  long : length tail ≡ before.bytes + total_length places
  above : All (λ (p : Place). before.end ≤ p.address) places
  related : AreRelated Ascends places
  each : All (IsSoundPlace wide) places

kept_none : (same : Bool) → (if same then None else Some WrongLength) ≡ None → same ≡ true
kept_none true e = refl
kept_none false e = cc

end_none : (count : ℕ) (bytes : List ℕ) → end_fault count bytes ≡ None → length bytes ≡ count
end_none count bytes e = (Decides-eqb (length bytes) count).0 (kept_none (length bytes == count) e)

places_found : (wide : Bool) (count : ℕ) (before : RecordsBefore) (bytes : List ℕ) → IsSmall bytes
    → records_fault parts_behind (max_role wide) count before bytes ≡ None → PlacesFound wide count before bytes
places_found wide zero before bytes small none = record {
  places = [];
  tail = bytes;
  is = refl;
  size = refl;
  long = let same = end_none before.bytes bytes none in omega arith;
  above = All-nil (λ (p : Place). before.end ≤ p.address);
  related = tt;
  each = All-nil (IsSoundPlace wide);
}
places_found wide (suc count) before bytes small none =
    let here = record_found wide before.count before.end bytes small (first_none _ _ none).0 in
    let p = here.place in
    let after : RecordsBefore = with_record before p.address p.length in
    let left : records_fault parts_behind (max_role wide) count after here.rest ≡ None =
    sym (parts_step parts_behind wide count before p here.rest here.may here.next)
    ∙ ap (records_fault parts_behind (max_role wide) (suc count) before) here.is ∙ none in
    let others = places_found wide count after here.rest here.small left in
    let next = here.next in
    let above : before.end ≤ p.address = next.above in
    record {
      places = p ∷ others.places;
      tail = others.tail;
      is =
          ap (λ (l : List ℕ). l ++ others.tail) (flat_map-cons place_record p others.places)
          ∙ append_assoc (place_record p) (flat_map place_record others.places) others.tail
          ∙ ap (λ (l : List ℕ). place_record p ++ l) others.is
          ∙ here.is;
      size = ap suc others.size;
      long = let rest = others.long in omega arith;
      above =
          All-cons (λ (q : Place). before.end ≤ q.address) p others.places above
          (λ k d within. let behind = others.above k d within in omega arith);
      related = (others.above, others.related);
      each =
          All-cons (IsSoundPlace wide) p others.places
          (record {
            may = here.may;
            index = next.index;
            filled = next.filled;
            below = next.below;
          }) others.each;
    }

split_tail : (ps : List Place) (tail : List ℕ) → length tail ≡ total_length ps
    → (parts : List Part) × (map part_place parts ≡ ps) × (all_bytes parts ≡ tail)
split_tail [] tail size = ([], refl, sym (drop_all 0 tail (omega arith)))
split_tail (p ∷ ps) tail size =
    let long : p.length ≤ length tail = omega arith in
    let shorter = length-drop p.length tail in
    let rest = split_tail ps (drop p.length tail) (omega arith) in
    let part : Part =
    record {
      role = p.role;
      index = p.index;
      address = p.address;
      bytes = take p.length tail;
    } in
    let made : ℕ → Place =
    λ n. record { role = p.role; index = p.index; address = p.address; length = n } in (
      part ∷ rest.0,
      ap (λ (q : Place). q ∷ map part_place rest.0) (ap made (length-take-le p.length tail long))
          ∙ ap (λ (l : List Place). p ∷ l) rest.1,
      flat_map-cons (λ (q : Part). q.bytes) part rest.0
          ∙ ap (λ (l : List ℕ). take p.length tail ++ l) rest.2 ∙ take-append-drop p.length tail,
    )

head_none : (bytes : List ℕ) → image_fault bytes ≡ None → head_fault bytes ≡ None
unfolding image_fault
head_none bytes e = (first_none _ _ e).0

-- bytes that have no fault are an image
pub image_found : (bytes : List ℕ) → IsSmall bytes → image_fault bytes ≡ None
    → (version : Version) × (handover : Handover) × IsImage version bytes handover
image_found bytes small none =
    let h = head_found bytes small (head_none bytes none) in
    let top : List ℕ = head h.version h.protocol h.registers h.count in
    let wide = is_wide h.protocol in
    let left : records_fault parts_behind (max_role wide) h.count no_records h.rest ≡ None =
    sym (head_front h.version h.protocol h.registers h.count h.rest h.has h.fit h.few)
    ∙ ap image_fault h.is ∙ none in
    let f = places_found wide h.count no_records h.rest h.small left in
    let parts = split_tail f.places f.tail (let long = f.long in omega arith) in
    let kept : IsWellFormedHandoff
    (record { protocol = h.protocol; registers = h.registers; places = f.places }) =
    record {
      width = h.fit.0;
      roles = λ k d within. (f.each k d within).may;
      few = let size = f.size in let few = h.few in omega arith;
      filled = λ k d within. (f.each k d within).filled;
      below = λ k d within. (f.each k d within).below;
      ascending = related_pairs Ascends f.places f.related;
    } in
    let fit : All PlaceFits f.places =
    λ k d within. let e =
    f.each k d within in
    record { index = e.index; address = omega arith; count = omega arith } in
    let spelled =
    spelled_by h.version h.protocol h.registers h.count f.places parts.0 parts.1 f.size in
    let pieces : (top ++ flat_map place_record f.places) ++ all_bytes parts.0 ≡ bytes =
    append_assoc top (flat_map place_record f.places) (all_bytes parts.0)
    ∙ ap (λ (l : List ℕ). top ++ (flat_map place_record f.places ++ l)) parts.2
    ∙ ap (λ (l : List ℕ). top ++ l) f.is
    ∙ h.is in (
      h.version,
      record { protocol = h.protocol; registers = h.registers; parts = parts.0 },
      record {
        is =
            sym pieces
            ∙ sym (append-nil ((top ++ flat_map place_record f.places) ++ all_bytes parts.0))
            ∙ spelled;
        has = h.has;
        kept = image_kept h.protocol h.registers f.places parts.0 parts.1 kept fit h.fit.1;
      },
    )
