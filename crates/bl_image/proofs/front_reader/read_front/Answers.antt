use Rattle.std.proofs.Common.{◌≡◌, ◌∙◌, ◌^◌, ◌++◌, ◌≤◌, ℕ, Bool, None, All, length, sym, ap, subst, arith}
use Rattle.std.proofs.lemmas.Result.{err_from_is_err_and}
use Rattle.std.specs.List.{flat_map}
use Rattle.bl_plan.specs.declared.part.Place.{Place}
use Rattle.bl_load.specs.HandoffFacts.{IsRoleAllowed}
use Rattle.bl_load.specs.Protocols.{is_wide}
use Rattle.bl_image.specs.Image.{head}
use Rattle.bl_image.specs.internal.PlaceRecords.{place_record}
use Rattle.bl_image.proofs.Inputs.{comes_more, comes_as}
use Rattle.bl_image.proofs.FrontRead.{front_known, front_fails, head_faults, records_faults}
use Rattle.bl_image.proofs.SoundLemmas.{sound_kept}
use Rattle.bl_image.proofs.front_reader.read_front.Goals as goal

pub returns-in_err-head-clause-refused : goal.returns-in_err-head-clause-refused
returns-in_err-head-clause-refused g c =
    let p = err_from_is_err_and c.from_residual.result c.from_residual.ensures.1 in
    rw (p.1, p.2) (head_faults _ _ _ c.in_err-head.ensures.read.refused)

pub returns-in_err-places-clause-refused : goal.returns-in_err-places-clause-refused
returns-in_err-places-clause-refused g c =
    let p =
    err_from_is_err_and c.from_residual-in_err-places.result
    c.from_residual-in_err-places.ensures.1 in
    let head = c.in_ok-head.head in
    let wide = c.are_wide.ensures ∙ c.in_ok-head.ensures.fit.0 in
    rw (p.1, p.2)
    (records_faults head.version head.protocol head.registers head.count c.are_wide.result
    c.in_ok-head.ensures.read.ok c.in_ok-head.ensures.has c.in_ok-head.ensures.fit
    c.in_ok-head.ensures.few wide _ _
    (c.in_err-places.ensures.refused (λ records rest. None)))

pub returns-clause-ok : goal.returns-clause-ok
returns-clause-ok g c =
    let h = c.in_ok-head.head in
    let places = c.in_ok-places.places.items in
    comes_as
    (ap (λ (n : ℕ). head h.version h.protocol h.registers n ++ flat_map place_record places)
    (sym c.in_ok-places.ensures.are.count))
    (comes_more c.in_ok-head.ensures.read.ok c.in_ok-places.ensures.read.ok)

pub returns-clause-kept : goal.returns-clause-kept
returns-clause-kept g c =
    let h = c.in_ok-head.head in
    let places = c.in_ok-places.places.items in
    let few : length places ≤ 256 =
    omega (arith, c.in_ok-places.ensures.are.count, c.in_ok-head.ensures.few) in
    let roles : All (λ (p : Place). IsRoleAllowed (is_wide h.protocol) p.role) places =
    subst (λ (b : Bool). All (λ (p : Place). IsRoleAllowed b p.role) places)
    (c.are_wide.ensures ∙ c.in_ok-head.ensures.fit.0) c.in_ok-places.ensures.are.may in
    record {
      handoff =
          sound_kept h.protocol h.registers places (2 ^ 32) c.in_ok-head.ensures.fit.0 roles few
          c.in_ok-places.ensures.are.sound;
      has = c.in_ok-head.ensures.has;
      registers = c.in_ok-head.ensures.fit.1;
      indices = λ k d within. (c.in_ok-places.ensures.are.sound.fit k d within).index;
    }

pub returns-clause-known : goal.returns-clause-known
returns-clause-known g c =
    front_known _ (g.S.Source.input c.args.source.now)
    (g.S.Source.input c.read_records.new.source) (returns-clause-ok g c)

pub returns-in_err-head-clause-known : goal.returns-in_err-head-clause-known
returns-in_err-head-clause-known g c =
    front_fails c.from_residual.result (g.S.Source.input c.args.source.now) _ _
    c.from_residual.ensures.1 (returns-in_err-head-clause-refused g c)

pub returns-in_err-places-clause-known : goal.returns-in_err-places-clause-known
returns-in_err-places-clause-known g c =
    front_fails c.from_residual-in_err-places.result (g.S.Source.input c.args.source.now) _ _
    c.from_residual-in_err-places.ensures.1 (returns-in_err-places-clause-refused g c)
