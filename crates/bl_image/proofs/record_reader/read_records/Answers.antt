use Rattle.std.proofs.Common.{◌≡◌, ◌+◌, ◌-◌, ◌<◌, ℕ, suc, List, [], ◌∷◌, ◌++◌, length, sym, ap, ◌∙◌}
use Rattle.std.proofs.Common.{All, subst, arith, length-append}
use Rattle.std.specs.List.{flat_map}
use Rattle.bl_plan.specs.declared.part.Place.{Place}
use Rattle.bl_image.specs.internal.PlaceRecords.{place_record, AreSound, total_length}
use Rattle.std.proofs.lemmas.Result.{err_from_is_err_and}
use Rattle.bl_load.specs.HandoffFacts.{IsRoleAllowed}
use Rattle.bl_image.specs.Layouts.{max_role}
use Rattle.bl_image.specs.ImageFaults.{FaultBehind, records_fault, no_records, parts_behind}
use Rattle.bl_image.specs.ImageFaults.{RecordsBefore}
use Rattle.bl_image.proofs.Inputs.{comes_more, comes_as}
use Rattle.bl_image.proofs.FieldLemmas.{Passed, passed_refuses}
use Rattle.bl_image.proofs.RecordLemmas.{record_refuses}
use Rattle.bl_image.proofs.SoundLemmas.{so_far, judged_more, came_more, sound_more}
use Rattle.bl_image.proofs.SoundLemmas.{sound_low, one_more}
use Rattle.bl_image.proofs.record_reader.read_records.Goals as goal

pub returns-in_err-place-clause-refused : goal.returns-in_err-place-clause-refused
returns-in_err-place-clause-refused g c behind =
    let p = err_from_is_err_and c.from_residual.result c.from_residual.ensures.1 in
    let count = c.args.count in
    let part = c.loop-part.part in
    let before : RecordsBefore =
    record {
      count = part;
      end = c.loop-part.before;
      bytes = total_length c.loop-part.places.items;
    } in
    let inside : part < count = omega arith in
    let left : count - part ≡ suc (count - (part + 1)) = omega arith in
    let passed : Passed (records_fault behind (max_role c.args.wide) count no_records) _ _
    (records_fault behind (max_role c.args.wide) (count - part) before) =
    record {
      done = _;
      comes = c.loop-part.invariant.came;
      on = c.loop-part.invariant.judged behind;
    } in
    rw (p.1, p.2)
    (passed_refuses passed _ _ (rw left (record_refuses behind (max_role c.args.wide)
    (count - (part + 1)) before _ _ _ c.in_err-place.ensures.read.refused)))

pub returns-in_err-place-clause-read : goal.returns-in_err-place-clause-read
returns-in_err-place-clause-read g c =
    let p = err_from_is_err_and c.from_residual.result c.from_residual.ensures.1 in
    let refused = returns-in_err-place-clause-refused g c parts_behind in
    rw (p.1, p.2)
    (record {
      ok = tt;
      refused = rw (p.1, p.2) at refused;
      faults = omega (arith, c.in_err-place.ensures.read.faults, c.loop-part.invariant.faults);
    })

pub loop-part-preserved : goal.loop-part-preserved
loop-part-preserved g c =
    let count = c.args.count in
    let part = c.loop-part.part in
    let old = c.loop-part.places.items in
    let place = c.in_ok-place.place in
    let end = place.address + place.length in
    let inside : part < count = omega arith in
    let e : c.push.new.self.items ≡ old ++ place ∷ [] = c.in_ok-push.ensures.items in
    let longer : length (old ++ place ∷ []) ≡ length old + 1 = length-append old (place ∷ []) in
    let judged : (behind : FaultBehind) (bytes : List ℕ)
    → records_fault behind (max_role c.args.wide) count no_records
    (flat_map place_record (old ++ place ∷ []) ++ bytes)
    ≡ records_fault behind (max_role c.args.wide) (count - (part + 1))
    (so_far (part + 1) end (old ++ place ∷ [])) bytes =
    λ behind.
    judged_more behind c.args.wide count part old c.loop-part.before place inside
    c.in_ok-place.ensures.may c.in_ok-place.ensures.next
    (c.loop-part.invariant.judged behind) in
    record {
      came =
          comes_as (sym (ap (flat_map place_record) e ∙ came_more old place))
          (comes_more c.loop-part.invariant.came c.in_ok-place.ensures.read.ok);
      size = ap length e ∙ omega (arith, longer, c.loop-part.invariant.size);
      sound =
          subst (λ (ps : List Place). AreSound ps end) (sym e)
          (sound_more old c.loop-part.before place c.loop-part.invariant.sound
          c.in_ok-place.ensures.next);
      judged =
          subst
          (λ (ps : List Place). (behind : FaultBehind) (bytes : List ℕ)
          → records_fault behind (max_role c.args.wide) count no_records
          (flat_map place_record ps ++ bytes)
          ≡ records_fault behind (max_role c.args.wide) (count - (part + 1))
          (so_far (part + 1) end ps) bytes)
          (sym e) judged;
      may =
          subst (All (λ (p : Place). IsRoleAllowed c.args.wide p.role)) (sym e)
          (one_more (λ (p : Place). IsRoleAllowed c.args.wide p.role) old place
          c.loop-part.invariant.may c.in_ok-place.ensures.may);
      faults = omega (arith, c.in_ok-place.ensures.read.faults, c.loop-part.invariant.faults);
    }

pub returns-clause-are : goal.returns-clause-are
returns-clause-are g c =
    let count = c.args.count in
    let part = c.loop-part.part in
    let before : RecordsBefore =
    record {
      count = part;
      end = c.loop-part.before;
      bytes = total_length c.loop-part.places.items;
    } in
    let none : count - part ≡ 0 = omega arith in
    record {
      count = omega (arith, c.loop-part.invariant.size);
      sound = sound_low c.loop-part.places.items c.loop-part.before c.loop-part.invariant.sound;
      may = c.loop-part.invariant.may;
      judged =
          λ bytes.
          c.loop-part.invariant.judged parts_behind bytes
          ∙ ap (λ (k : ℕ). records_fault parts_behind (max_role c.args.wide) k before bytes) none;
    }
