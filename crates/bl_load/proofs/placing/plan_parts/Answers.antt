use Rattle.std.proofs.Common.{rules}
use Rattle.std.proofs.lemmas.List.{length-map}
use Rattle.std.proofs.Common.{◌≡◌, ◌≤◌, ◌<◌, ◌+◌, ◌^◌, List, [], All, map, arith, ap, ap₂, subst, sym}
use Rattle.std.proofs.Common.{◌∙◌}
use Rattle.std.proofs.lemmas.Result.{err_from_is_err_and}
use Rattle.bl_plan.specs.declared.part.Place.{Place}
use Rattle.bl_plan.specs.declared.part.Row.{Row}
use Rattle.bl_plan.specs.Placed.{ArePlaced, IsWellFormedRow, IsPlacingFault, place_range}
use Rattle.bl_plan.specs.AddressOrder.{places_in_order, place_key}
use Rattle.bl_plan.proofs.OrderLemmas.{in_order_all}
use Rattle.bl_load.specs.PlannedPlaces.{planned_place}
use Rattle.bl_load.specs.HandoffFacts.{IsWellFormedHandoff}
use Rattle.bl_load.specs.Origins.{origin_at}
use Rattle.bl_load.specs.Parts.{registers_of}
use Rattle.bl_load.specs.declared.registers.Registers.{Registers}
use Rattle.bl_load.specs.declared.plan.PlannedPart.{PlannedPart}
use Rattle.bl_load.specs.internal.Placing.{HasRowLength, EndsLow, capped_rows_of}
use Rattle.bl_load.specs.Rows.{rows_of}
use Rattle.bl_load.specs.internal.ReadKernels.{ToldFits32Bits, EntryPointFits32Bits}
use Rattle.bl_load.specs.internal.CheckedEntries.{value_of_files}
use Rattle.bl_load.proofs.PlacingLemmas.{refused_place}
use Rattle.bl_load.proofs.ReadingLaws.{reading_rows, reading_rowed, reading_kept}
use Rattle.bl_load.proofs.ReadingLaws.{reading_not_overlap}
use Rattle.bl_load.proofs.ReadingLemmas.{told_are_rows, told_placed, told_fault, fits_told}
use Rattle.bl_load.proofs.ReadingLemmas.{can_enter, enters_by}
use Rattle.bl_load.proofs.PlaceBoundLemmas.{are_inside}
use Rattle.bl_load.proofs.placing.plan_parts.Goals as goal

pub place_rows-requires : goal.place_rows-requires
place_rows-requires g c =
    let facts = c.args.entry.now.machine.now in
    let reading = g.K.LoadableKernel.reading c.args.kernel.now in
    let value = value_of_files c.args.entry.now in
    let rows : c.as_slice.result.now ≡ capped_rows_of facts value reading =
    c.as_slice.ensures.value ∙ c.in_ok-rows.ensures in
    subst (λ (rs : List Row). All IsWellFormedRow rs) (sym rows)
    (told_are_rows facts value reading _ c.requires.read c.requires.files)

pub as_prep_fault-requires : goal.as_prep_fault-requires
as_prep_fault-requires g c =
    let facts = c.args.entry.now.machine.now in
    let reading = g.K.LoadableKernel.reading c.args.kernel.now in
    let value = value_of_files c.args.entry.now in
    let rows : c.as_slice.result.now ≡ capped_rows_of facts value reading =
    c.as_slice.ensures.value ∙ c.in_ok-rows.ensures in
    reading_not_overlap facts value reading c.in-Err.fault c.requires.read
    (told_fault facts value reading c.in-Err.fault
    (subst (λ (rs : List Row). IsPlacingFault facts rs c.in-Err.fault) rows
    c.in-Err.ensures.fault))

pub returns-in-Err-clause-fault : goal.returns-in-Err-clause-fault
returns-in-Err-clause-fault g c =
    let facts = c.args.entry.now.machine.now in
    let reading = g.K.LoadableKernel.reading c.args.kernel.now in
    let value = value_of_files c.args.entry.now in
    let rows : c.as_slice.result.now ≡ capped_rows_of facts value reading =
    c.as_slice.ensures.value ∙ c.in_ok-rows.ensures in
    refused_place facts (rows_of facts value reading) c.in-Err.fault c.as_prep_fault.result
    (told_fault facts value reading c.in-Err.fault
    (subst (λ (rs : List Row). IsPlacingFault facts rs c.in-Err.fault) rows
    c.in-Err.ensures.fault)) c.as_prep_fault.ensures

pub registers-registers-requires-clause-protocol : goal.registers-registers-requires-clause-protocol
registers-registers-requires-clause-protocol g c =
    enters_by c.args.entry.now.machine.now (value_of_files c.args.entry.now)
    (g.K.LoadableKernel.reading c.args.kernel.now) c.requires.read

pub registers-registers-requires-clause-low : goal.registers-registers-requires-clause-low
registers-registers-requires-clause-low g c = rw c.as_slice-2.ensures.value c.in-Ok.ensures.below

pub registers-registers-requires-clause-enter : goal.registers-registers-requires-clause-enter
registers-registers-requires-clause-enter g c =
    let facts = c.args.entry.now.machine.now in
    let reading = g.K.LoadableKernel.reading c.args.kernel.now in
    let value = value_of_files c.args.entry.now in
    let rows : c.as_slice.result.now ≡ capped_rows_of facts value reading =
    c.as_slice.ensures.value ∙ c.in_ok-rows.ensures in
    let told : ArePlaced facts [] (capped_rows_of facts value reading) c.in-Ok.places.items =
    subst (λ (rs : List Row). ArePlaced facts [] rs c.in-Ok.places.items) rows
    c.in-Ok.ensures.placed in
    let placed = told_placed facts value reading c.in-Ok.places.items told in
    subst (λ (ps : List Place). EntryPointFits32Bits reading ps) (sym c.as_slice-2.ensures.value)
    (can_enter facts value reading _ c.in-Ok.places.items c.requires.read c.requires.files placed
    c.in-Ok.ensures.below)

pub parts_at-requires : goal.parts_at-requires
parts_at-requires g c =
    let facts = c.args.entry.now.machine.now in
    let reading = g.K.LoadableKernel.reading c.args.kernel.now in
    let value = value_of_files c.args.entry.now in
    let rows : c.as_slice.result.now ≡ capped_rows_of facts value reading =
    c.as_slice.ensures.value ∙ c.in_ok-rows.ensures in
    let told : ArePlaced facts [] (capped_rows_of facts value reading) c.in-Ok.places.items =
    subst (λ (rs : List Row). ArePlaced facts [] rs c.in-Ok.places.items) rows
    c.in-Ok.ensures.placed in
    let placed = told_placed facts value reading c.in-Ok.places.items told in
    let sorted : c.as_slice-5.result.now ≡ places_in_order c.in-Ok.places.items =
    c.as_slice-5.ensures.value ∙ c.in_ok-sorted.ensures
    ∙ ap places_in_order c.as_slice-3.ensures.value in
    let fits =
    subst (λ (ps : List Place). ToldFits32Bits value reading ps) (sym c.as_slice-4.ensures.value)
    (fits_told facts value reading c.in-Ok.places.items placed
    (reading_rowed facts value reading c.in-Ok.places.items placed) c.in-Ok.ensures.below) in
    let low : All EndsLow c.as_slice-4.result.now =
    rw c.as_slice-4.ensures.value c.in-Ok.ensures.below in
    let rowed =
    subst (λ (ps : List Place). All (HasRowLength facts value reading) ps) (sym sorted)
    (in_order_all place_key (HasRowLength facts value reading) c.in-Ok.places.items
    (reading_rowed facts value reading c.in-Ok.places.items placed)) in
    let small =
    subst (λ (ps : List Place). All (λ p. p.length ≤ 2 ^ 32) ps) (sym sorted)
    (in_order_all place_key (λ (p : Place). p.length ≤ 2 ^ 32) c.in-Ok.places.items
    (λ k d within. let low = c.in-Ok.ensures.below k d within in omega arith)) in
    λ k d within. record {
      ready = c.requires;
      fits = fits;
      low = low;
      rowed = rowed k d within;
      small = small k d within;
    }

pub ranges_of-requires : goal.ranges_of-requires
ranges_of-requires g c =
    let facts = c.args.entry.now.machine.now in
    let reading = g.K.LoadableKernel.reading c.args.kernel.now in
    let value = value_of_files c.args.entry.now in
    let rows : c.as_slice.result.now ≡ capped_rows_of facts value reading =
    c.as_slice.ensures.value ∙ c.in_ok-rows.ensures in
    let told : ArePlaced facts [] (capped_rows_of facts value reading) c.in-Ok.places.items =
    subst (λ (rs : List Row). ArePlaced facts [] rs c.in-Ok.places.items) rows
    c.in-Ok.ensures.placed in
    let placed = told_placed facts value reading c.in-Ok.places.items told in
    let sorted : c.as_slice-5.result.now ≡ places_in_order c.in-Ok.places.items =
    c.as_slice-5.ensures.value ∙ c.in_ok-sorted.ensures
    ∙ ap places_in_order c.as_slice-3.ensures.value in
    let places : map planned_place c.in_ok-parts.parts.items ≡ places_in_order c.in-Ok.places.items =
    c.in_ok-parts.ensures.places ∙ sorted in
    let count = length-map c.args.entry.now.modules.now (λ m. m.line) in
    let kept =
    reading_kept facts value reading c.in-Ok.places.items c.requires.read
    (omega (arith, count, c.args.entry.now.few)) placed in
    let small : All (λ p. p.address + p.length < 2 ^ 64) (places_in_order c.in-Ok.places.items) =
    λ k d within. let low = kept.below k d within in omega arith in
    rw (c.as_slice-6.ensures.value, places) small

pub returns-clause-ok : goal.returns-clause-ok
returns-clause-ok g c =
    let facts = c.args.entry.now.machine.now in
    let reading = g.K.LoadableKernel.reading c.args.kernel.now in
    let value = value_of_files c.args.entry.now in
    let rows : c.as_slice.result.now ≡ capped_rows_of facts value reading =
    c.as_slice.ensures.value ∙ c.in_ok-rows.ensures in
    let told : ArePlaced facts [] (capped_rows_of facts value reading) c.in-Ok.places.items =
    subst (λ (rs : List Row). ArePlaced facts [] rs c.in-Ok.places.items) rows
    c.in-Ok.ensures.placed in
    let placed = told_placed facts value reading c.in-Ok.places.items told in
    let sorted : c.as_slice-5.result.now ≡ places_in_order c.in-Ok.places.items =
    c.as_slice-5.ensures.value ∙ c.in_ok-sorted.ensures
    ∙ ap places_in_order c.as_slice-3.ensures.value in
    let places : map planned_place c.in_ok-parts.parts.items ≡ places_in_order c.in-Ok.places.items =
    c.in_ok-parts.ensures.places ∙ sorted in
    let count = length-map c.args.entry.now.modules.now (λ m. m.line) in
    let registers : c.registers-registers.result
    ≡ registers_of value.protocol reading c.in-Ok.places.items =
    c.registers-registers.ensures
    ∙ ap (registers_of value.protocol reading) c.as_slice-2.ensures.value in
    let kept =
    subst (λ (r : Registers). IsWellFormedHandoff (record {
      protocol = value.protocol;
      registers = r;
      places = places_in_order c.in-Ok.places.items;
    })) (sym registers)
    (reading_kept facts value reading c.in-Ok.places.items c.requires.read
    (omega (arith, count, c.args.entry.now.few)) placed) in
    let inside =
    in_order_all place_key (λ (p : Place). p.address + p.length ≤ facts.size)
    c.in-Ok.places.items
    (are_inside facts [] (rows_of facts value reading) c.in-Ok.places.items placed
    (reading_rows facts value reading c.requires.read)) in
    record {
      handover = record {
        places = c.in-Ok.places.items;
        placed = placed;
        is = search (rules);
      };
      loadable = record {
        backed = c.in_ok-parts.ensures.backed;
        inside =
            subst (λ (ps : List Place). All (λ p. p.address + p.length ≤ facts.size) ps)
            (sym places) inside;
        kept =
            subst (λ (ps : List Place). IsWellFormedHandoff (record {
              protocol = c.args.entry.now.protocol;
              registers = c.registers-registers.result;
              places = ps;
            })) (sym places) kept;
      };
      lean = c.in_ok-parts.ensures.lean;
      origins = record {
        reading = reading;
        places = c.in-Ok.places.items;
        read = c.requires.read;
        placed = placed;
        are = c.in_ok-parts.ensures.origins
            ∙ ap₂ (λ (all ps : List Place). map (origin_at facts value reading all) ps)
            c.as_slice-4.ensures.value sorted;
      };
    }

pub returns-in_err-rows-clause-ok : goal.returns-in_err-rows-clause-ok
returns-in_err-rows-clause-ok g c =
    let p = err_from_is_err_and c.from_residual.result c.from_residual.ensures.1 in
    rw p.1 tt

pub returns-in_err-rows-clause-fault : goal.returns-in_err-rows-clause-fault
returns-in_err-rows-clause-fault g c =
    let p = err_from_is_err_and c.from_residual.result c.from_residual.ensures.1 in
    rw (p.1, p.2) tt

pub returns-in_err-sorted-clause-ok : goal.returns-in_err-sorted-clause-ok
returns-in_err-sorted-clause-ok g c =
    let p =
    err_from_is_err_and c.from_residual-in_err-sorted.result
    c.from_residual-in_err-sorted.ensures.1 in
    rw p.1 tt

pub returns-in_err-sorted-clause-fault : goal.returns-in_err-sorted-clause-fault
returns-in_err-sorted-clause-fault g c =
    let p =
    err_from_is_err_and c.from_residual-in_err-sorted.result
    c.from_residual-in_err-sorted.ensures.1 in
    rw (p.1, p.2) tt

pub returns-in_err-parts-clause-ok : goal.returns-in_err-parts-clause-ok
returns-in_err-parts-clause-ok g c =
    let p =
    err_from_is_err_and c.from_residual-in_err-parts.result
    c.from_residual-in_err-parts.ensures.1 in
    rw p.1 tt

pub returns-in_err-parts-clause-fault : goal.returns-in_err-parts-clause-fault
returns-in_err-parts-clause-fault g c =
    let p =
    err_from_is_err_and c.from_residual-in_err-parts.result
    c.from_residual-in_err-parts.ensures.1 in
    rw (p.1, p.2) tt

pub returns-in_err-ranges-clause-ok : goal.returns-in_err-ranges-clause-ok
returns-in_err-ranges-clause-ok g c =
    let p =
    err_from_is_err_and c.from_residual-in_err-ranges.result
    c.from_residual-in_err-ranges.ensures.1 in
    rw p.1 tt

pub returns-in_err-ranges-clause-fault : goal.returns-in_err-ranges-clause-fault
returns-in_err-ranges-clause-fault g c =
    let p =
    err_from_is_err_and c.from_residual-in_err-ranges.result
    c.from_residual-in_err-ranges.ensures.1 in
    rw (p.1, p.2) tt

pub returns-in-Err-clause-ok : goal.returns-in-Err-clause-ok
returns-in-Err-clause-ok g c = tt

pub rows-requires : goal.rows-requires
rows-requires g c = c.requires

pub invariant_of-result : goal.invariant_of-result
invariant_of-result g c = record {
  ranges_are =
      c.in_ok-ranges.ensures
      ∙ ap (λ (parts : List (PlannedPart g.row.A.Denot)).
      map place_range (map planned_place parts)) c.as_slice-6.ensures.value;
}

pub returns-clause-fault : goal.returns-clause-fault
returns-clause-fault g c = tt
