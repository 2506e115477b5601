use Rattle.std.proofs.Common.{◌≡◌, map}
use Rattle.bl_load.specs.EntryValue.{value_of}
use Rattle.program_desc.specs.Views.{entry_view}
use Rattle.program_boots.specs.explaining.Details.{value_sought}
use Rattle.program_boots.proofs.explaining_lemmas.NoPlaceLemmas.{no_place_placed, no_place_read}
use Rattle.program_boots.proofs.explaining.placing_details.place_detail.Goals as goal

pub unreachable-requires : goal.unreachable-requires
unreachable-requires g c =
    let value = value_sought c.args.sought.now (entry_view c.args.row.now) in
    let same : value_of (map (λ f. f.bytes.now) c.deref.result.now) c.in_ok-found.found.entry ≡ value =
    rw c.deref.ensures.value c.in_ok-found.ensures.value in
    no_place_placed c.args.machine.now value c.requires
    (rw same at (rw c.in-Ok-None.field-0-is at c.in-Ok-None.ensures.which))

pub unreachable-requires-in-Err-Refused : goal.unreachable-requires-in-Err-Refused
unreachable-requires-in-Err-Refused g c =
    let value = value_sought c.args.sought.now (entry_view c.args.row.now) in
    let same : value_of (map (λ f. f.bytes.now) c.deref.result.now) c.in_ok-found.found.entry ≡ value =
    rw c.deref.ensures.value c.in_ok-found.ensures.value in
    no_place_read c.args.machine.now value _ c.requires
    (rw same at (rw c.in-Err-Refused.field-0-is at c.in-Err-Refused.ensures.fault))

pub returns-in-Ok-Some : goal.returns-in-Ok-Some
returns-in-Ok-Some g c =
    let value = value_sought c.args.sought.now (entry_view c.args.row.now) in
    let same : value_of (map (λ f. f.bytes.now) c.deref.result.now) c.in_ok-found.found.entry ≡ value =
    rw c.deref.ensures.value c.in_ok-found.ensures.value in (
      rw same at (rw c.in-Ok-Some.field-0-is at c.in-Ok-Some.ensures.which),
      c.unplaceable_byte.ensures,
    )
