use Rattle.std.proofs.Common.{◌≡◌, ◌≤◌, ◌<◌, ◌∙◌, ℕ, List, length, ap, arith, rules, sym, inl, inr}
use Rattle.std.proofs.Common.{refl, false, slice_index}
use Rattle.std.specs.Prelude.{Result, Ok, Err, IsErr, OnErr, OnOk}
use Rattle.std.proofs.lemmas.Bool.{cases_lt}
use Rattle.std.proofs.lemmas.List.Elements.{All-map}
use Rattle.std.proofs.lemmas.Result.{err_from_is_err_and}
use Rattle.std.specs.declared.ops.Range.{Range}
use Rattle.bl_map.proofs.PoolLemmas.{pool_in_memory}
use Rattle.bl_plan.specs.Placed.{place_range}
use Rattle.bl_map.specs.PoolFrames.{HasFramesFor, open_frames, frames_for}
use Rattle.bl_mem.specs.FileSet.{AreAddressesBelow, AllApartFrom}
use Rattle.bl_stage.specs.Staged.{Staging, HasPool, AreStaged, IsStagedOn, staged_file, staged_texts}
use Rattle.bl_stage.specs.Staged.{with_frames}
use Rattle.bl_stage.specs.Ranges.{meets}
use Rattle.bl_session.proofs.menu_lemmas.MenuLemmas.{few_counted}
use Rattle.bl_session.proofs.attempt_lemmas.StageLemmas.{texts_needed, files_below, files_beside}
use Rattle.bl_session.proofs.attempt_lemmas.StageLemmas.{texts_kept}
use Rattle.bl_load.specs.PlanContents.{handover_by, places_of}
use Rattle.bl_load.specs.EntryValue.{value_of}
use Rattle.bl_session.proofs.attempt_lemmas.AfterLemmas.{after_before}
use Rattle.bl_session.proofs.session_lemmas.KeptMemoryLemmas.{keeps_on}
use Rattle.bl_session.proofs.attempt_lemmas.EarlyReturnLemmas.{keeps_same, no_value}
use Rattle.bl_session.proofs.attempt_lemmas.FinishLemmas.{unprepared, has_room, lacks_room}
use Rattle.bl_session.proofs.attempt.handing_over.finish_attempt.Goals as goal

pub returns-in_err-plan-clause-err : goal.returns-in_err-plan-clause-err
returns-in_err-plan-clause-err g c =
    let old = g.M.PhysMem.bytes c.args.memory.now in
    let value = value_of (staged_texts old c.args.stage.now) c.args.entry.now in
    let p = err_from_is_err_and c.from_residual.result c.from_residual.ensures.1 in
    rw (p.1, p.2)
    (unprepared c.args.machine.now value c.in_err-plan.field-0.0 old
    c.in_err-plan.ensures.fault)

pub prepare_staged-requires-clause-whole : goal.prepare_staged-requires-clause-whole
prepare_staged-requires-clause-whole g c =
    let few = few_counted c.args.entry.now c.requires.limits in
    record {
      few = omega (arith, few, c.requires.files);
      complete = c.requires.complete;
      inside = rw c.requires.pool (λ some.
          let end = pool_in_memory c.args.machine.now c.pool.ensures.facts some in
          omega (arith, end, c.requires.size));
    }

pub evacuate-requires-clause-inside : goal.evacuate-requires-clause-inside
evacuate-requires-clause-inside g c = rw c.requires.pool (λ some.
    let end = pool_in_memory c.args.machine.now c.pool.ensures.facts some in
    omega (arith, end, c.requires.size))

failed : {T E P : Type 0} (r : Result T E) → IsErr r → OnErr r P → P
failed (Ok x) is told = absurd cc
failed (Err e) is told = told

passed : {T E P : Type 0} (r : Result T E) → ¬ IsErr r → OnOk r P → P
passed (Ok x) not told = told
passed (Err e) not told = absurd (not refl)

pub returns-then-is_err-clause-err : goal.returns-then-is_err-clause-err
returns-then-is_err-clause-err g c =
    let stage = c.args.stage.now in
    let old = g.M.PhysMem.bytes c.args.memory.now in
    let texts = staged_texts old stage in
    let few : open_frames stage.pool c.ranges-2.result.now < frames_for stage.sizes =
    search rules in
    let count = texts_needed old stage in
    let lacks : ¬ HasFramesFor stage.pool c.ranges-2.result.now texts =
    λ room. omega (arith, room, count, few) in
    let full = rw (c.requires.pool, c.ranges-2.ensures) at lacks in (
      lacks_room c.args.machine.now texts c.args.entry.now c.in_ok-plan.plan
          c.in_ok-plan.ensures.ok.handover c.in_ok-plan.ensures.ok.loadable.backed full,
      (failed c.evacuate.result (c.evacuate.ensures.exact.1 few) c.evacuate.ensures.unchanged).1,
    )

-- way was made for the parts' ranges among the files of the stage
record HasMadeWay (old new : Staging) (ranges : List (Range ℕ)) (before after : List ℕ)
    : Type 0 where
  room : HasFramesFor old.pool ranges (staged_texts before old)
  texts : staged_texts after new ≡ staged_texts before old
  held : AreAddressesBelow (λ a. IsStagedOn new a) (length after)
  beside : AllApartFrom (λ a. IsStagedOn new a) ranges

has_made_way : {T E : Type 0} (result : Result T E) (old new : List ℕ) (stage left : Staging)
    (ranges : List (Range ℕ)) → ¬ (open_frames stage.pool ranges < frames_for stage.sizes)
    → (IsErr result → open_frames stage.pool ranges < frames_for stage.sizes)
    → OnOk result ((file : ℕ) → file < length stage.sizes
    → staged_file new left file ≡ staged_file old stage file)
    → OnOk result ((k : ℕ) → k < length left.frames
    → meets ranges (slice_index left.frames k) ≡ false)
    → left ≡ with_frames stage left.frames → AreStaged left → length new ≡ length old
    → HasPool old stage.pool → HasMadeWay stage left ranges old new
has_made_way result old new stage left ranges enough exact files clear same kept size inside =
    let not_err : ¬ IsErr result = λ is. enough (exact is) in
    let count = texts_needed old stage in
    record {
      room =
          elim (cases_lt (open_frames stage.pool ranges) (frames_for stage.sizes)) [
            | inl few ↦ absurd (enough few)
            | inr most ↦ omega (arith, most, count)
          ];
      texts =
          ap (λ (s : Staging). staged_texts new s) same
          ∙ texts_kept old new stage left.frames
          (λ file within. sym (ap (λ (s : Staging). staged_file new s file) same)
          ∙ passed result not_err files file within);
      held = files_below left new kept (rw (ap (λ (s : Staging). s.pool) same, size) inside);
      beside = files_beside left ranges kept (passed result not_err clear);
    }

pub reserve-requires-clause-forward : goal.reserve-requires-clause-forward
reserve-requires-clause-forward g c = rw c.ranges-3.ensures
    (All-map (λ (r : Range ℕ). r.start ≤ r.end) place_range (places_of c.in_ok-plan.plan)
    (λ k d h. omega arith))

pub reserve-requires-clause-inside : goal.reserve-requires-clause-inside
reserve-requires-clause-inside g c = rw c.ranges-3.ensures
    (All-map (λ (r : Range ℕ). r.end ≤ length (g.M.PhysMem.bytes c.evacuate.new.memory))
    place_range (places_of c.in_ok-plan.plan)
    (λ k d h. let i = c.in_ok-plan.ensures.ok.loadable.inside k d h in
    omega (arith, i, c.requires.size, c.evacuate.ensures.kept.size)))

pub hand_over-requires : goal.hand_over-requires
hand_over-requires g c =
    let inside : HasPool (g.M.PhysMem.bytes c.args.memory.now) c.args.stage.now.pool =
    rw c.requires.pool (λ some.
    let end = pool_in_memory c.args.machine.now c.pool.ensures.facts some in
    omega (arith, end, c.requires.size)) in
    let way =
    has_made_way c.evacuate.result (g.M.PhysMem.bytes c.args.memory.now)
    (g.M.PhysMem.bytes c.evacuate.new.memory) c.args.stage.now c.evacuate.new.self
    c.ranges-2.result.now (search rules) c.evacuate.ensures.exact.0 c.evacuate.ensures.files
    c.evacuate.ensures.clear c.evacuate.ensures.same c.evacuate.ensures.staged
    c.evacuate.ensures.kept.size inside in
    let size = ap (λ (m : List ℕ). length m) c.reserve.ensures.same in
    record {
      held = rw c.reserve.ensures.same way.held;
      loadable = search rules;
      room = rw (← c.ranges-3.ensures) c.in_ok-reserve.ensures.made;
      beside = rw (← c.ranges-2.ensures) way.beside;
      inside = λ some.
          let end = pool_in_memory c.args.machine.now c.pool.ensures.facts some in
          omega (arith, end, size, c.requires.size, c.evacuate.ensures.kept.size);
      pool_room =
          λ a low high. c.reserve.ensures.kept.room a
          (c.evacuate.ensures.kept.room a (c.requires.room a low high));
    }

pub returns-clause-ok : goal.returns-clause-ok
returns-clause-ok g c =
    let inside : HasPool (g.M.PhysMem.bytes c.args.memory.now) c.args.stage.now.pool =
    rw c.requires.pool (λ some.
    let end = pool_in_memory c.args.machine.now c.pool.ensures.facts some in
    omega (arith, end, c.requires.size)) in
    let way =
    has_made_way c.evacuate.result (g.M.PhysMem.bytes c.args.memory.now)
    (g.M.PhysMem.bytes c.evacuate.new.memory) c.args.stage.now c.evacuate.new.self
    c.ranges-2.result.now (search rules) c.evacuate.ensures.exact.0 c.evacuate.ensures.files
    c.evacuate.ensures.clear c.evacuate.ensures.same c.evacuate.ensures.staged
    c.evacuate.ensures.kept.size inside in
    let facts = c.args.machine.now in
    let old = g.M.PhysMem.bytes c.args.memory.now in
    let texts = staged_texts old c.args.stage.now in
    let plan = c.in_ok-plan.plan in
    let handover = handover_by texts plan in
    let beside = rw (c.requires.pool, c.ranges-2.ensures) at way.room in
    let read : staged_texts (g.M.PhysMem.bytes c.reserve.new.self) c.evacuate.new.self
    ≡ texts =
    ap (λ m. staged_texts m c.evacuate.new.self) c.reserve.ensures.same
    ∙ way.texts in
    let outside =
    rw (c.requires.pool, ← c.reserve.ensures.same) at c.evacuate.ensures.outside in
    let after = rw read at c.hand_over.ensures.loaded.memory in
    let size = ap (λ (m : List ℕ). length m) c.reserve.ensures.same in
    record {
      handover = handover;
      ends = (
        c.in_ok-plan.ensures.ok.handover,
        has_room facts texts c.args.entry.now plan
            c.in_ok-plan.ensures.ok.handover c.in_ok-plan.ensures.ok.loadable.backed beside,
      );
      held = rw read at c.hand_over.ensures.loaded.held;
      inside =
          rw c.hand_over.ensures.loaded.places
          (λ k d h. let i = c.in_ok-plan.ensures.ok.loadable.inside k d h in
          omega (
            arith,
            i,
            size,
            c.requires.size,
            c.evacuate.ensures.kept.size,
            c.hand_over.ensures.kept.size,
          ));
      after =
          after_before facts.pool handover.parts old (g.M.PhysMem.bytes c.reserve.new.self)
          (g.M.PhysMem.bytes c.hand_over.new.memory) outside after;
    }

pub returns-clause-kept : goal.returns-clause-kept
returns-clause-kept g c =
    keeps_on (keeps_on c.evacuate.ensures.kept c.reserve.ensures.kept)
    c.hand_over.ensures.kept

pub returns-in_err-reserve-clause-kept : goal.returns-in_err-reserve-clause-kept
returns-in_err-reserve-clause-kept g c =
    keeps_on c.evacuate.ensures.kept c.reserve.ensures.kept

pub returns-in_err-reserve-clause-left : goal.returns-in_err-reserve-clause-left
returns-in_err-reserve-clause-left g c =
    let inside : HasPool (g.M.PhysMem.bytes c.args.memory.now) c.args.stage.now.pool =
    rw c.requires.pool (λ some.
    let end = pool_in_memory c.args.machine.now c.pool.ensures.facts some in
    omega (arith, end, c.requires.size)) in
    let way =
    has_made_way c.evacuate.result (g.M.PhysMem.bytes c.args.memory.now)
    (g.M.PhysMem.bytes c.evacuate.new.memory) c.args.stage.now c.evacuate.new.self
    c.ranges-2.result.now (search rules) c.evacuate.ensures.exact.0 c.evacuate.ensures.files
    c.evacuate.ensures.clear c.evacuate.ensures.same c.evacuate.ensures.staged
    c.evacuate.ensures.kept.size inside in
    let p =
    err_from_is_err_and c.from_residual-in_err-reserve.result
    c.from_residual-in_err-reserve.ensures.1 in
    rw (p.1, p.2)
    (ap (λ m. staged_texts m c.evacuate.new.self) c.reserve.ensures.same ∙ way.texts)

pub returns-in_err-plan-clause-ok : goal.returns-in_err-plan-clause-ok
returns-in_err-plan-clause-ok g c = no_value _ _ c.from_residual.result c.from_residual.ensures.1

pub returns-in_err-plan-clause-stage : goal.returns-in_err-plan-clause-stage
returns-in_err-plan-clause-stage g c = refl

pub returns-in_err-plan-clause-kept : goal.returns-in_err-plan-clause-kept
returns-in_err-plan-clause-kept g c = keeps_same

pub returns-then-is_err-clause-ok : goal.returns-then-is_err-clause-ok
returns-then-is_err-clause-ok g c = tt

pub returns-then-is_err-clause-stage : goal.returns-then-is_err-clause-stage
returns-then-is_err-clause-stage g c = c.evacuate.ensures.same

pub returns-then-is_err-clause-kept : goal.returns-then-is_err-clause-kept
returns-then-is_err-clause-kept g c = c.evacuate.ensures.kept

pub returns-in_err-reserve-clause-ok : goal.returns-in_err-reserve-clause-ok
returns-in_err-reserve-clause-ok g c =
    no_value _ _ c.from_residual-in_err-reserve.result c.from_residual-in_err-reserve.ensures.1

pub returns-in_err-reserve-clause-stage : goal.returns-in_err-reserve-clause-stage
returns-in_err-reserve-clause-stage g c = c.evacuate.ensures.same

pub returns-clause-err : goal.returns-clause-err
returns-clause-err g c = tt

pub returns-clause-left : goal.returns-clause-left
returns-clause-left g c = tt

pub returns-clause-stage : goal.returns-clause-stage
returns-clause-stage g c = c.evacuate.ensures.same
