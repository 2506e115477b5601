use Rattle.std.proofs.Common.{Ok, ◌≡◌, ◌≤◌, ◌^◌, ℕ, Bool, All, length, sym, ap, ◌∙◌, subst, arith}
use Rattle.std.proofs.lemmas.Result.{err_from_is_err_and}
use Rattle.bl_image.specs.Image.{head, spelling}
use Rattle.bl_image.specs.ImageHandover.{IsKeptByImages}
use Rattle.bl_image.specs.ImageFaults.{image_fault, records_fault, parts_behind, no_records}
use Rattle.bl_image.specs.ImageFaults.{end_fault}
use Rattle.bl_image.specs.internal.PlaceRecords.{total_length}
use Rattle.bl_plan.specs.declared.part.Place.{Place}
use Rattle.bl_plan.specs.declared.protocol.Protocol.{Protocol}
use Rattle.bl_load.specs.declared.registers.Registers.{Registers}
use Rattle.bl_load.specs.Handover.{Handover}
use Rattle.bl_load.specs.HandoffFacts.{IsRoleAllowed}
use Rattle.bl_load.specs.Protocols.{is_wide}
use Rattle.bl_image.specs.declared.version.Version.{Version}
use Rattle.bl_image.specs.Layouts.{max_role}
use Rattle.bl_image.specs.SourceFacts.{SourceFacts, Comes}
use Rattle.bl_image.specs.Spellable.{AreRegistersOf}
use Rattle.bl_image.specs.Versions.{HasProtocol}
use Rattle.bl_image.proofs.Inputs.{comes_more, comes_as}
use Rattle.bl_image.proofs.FieldLemmas.{Passed, passed_more, passed_refuses, cut_refuses}
use Rattle.bl_image.proofs.FrontLemmas.{head_refuses}
use Rattle.bl_image.proofs.FrontRead.{fronted_image}
use Rattle.bl_image.proofs.PartLemmas.{all_bytes, end_short, end_more, parts_size, spelled_by}
use Rattle.bl_image.proofs.PartLemmas.{parts_kept, image_kept}
use Rattle.bl_image.proofs.SoundLemmas.{sound_kept}
use Rattle.bl_image.proofs.KnownLemmas.{known_ok, known_err}
use Rattle.bl_image.proofs.ImageLaws.{accepted_by}
use Rattle.bl_image.proofs.read.read_image.Goals as goal

pub returns-in_err-head-clause-refused : goal.returns-in_err-head-clause-refused
returns-in_err-head-clause-refused g c =
    let p = err_from_is_err_and c.from_residual.result c.from_residual.ensures.1 in
    rw (p.1, p.2) (head_refuses _ _ _ c.in_err-head.ensures.read.refused)

pub returns-in_err-places-clause-refused : goal.returns-in_err-places-clause-refused
returns-in_err-places-clause-refused g c =
    let p =
    err_from_is_err_and c.from_residual-in_err-places.result
    c.from_residual-in_err-places.ensures.1 in
    let head = c.in_ok-head.head in
    let wide = c.are_wide.ensures ∙ c.in_ok-head.ensures.fit.0 in
    let front : Passed image_fault _ _
    (records_fault parts_behind (max_role c.are_wide.result) head.count no_records) =
    fronted_image head.version head.protocol head.registers head.count c.are_wide.result
    c.in_ok-head.ensures.read.ok c.in_ok-head.ensures.has c.in_ok-head.ensures.fit
    c.in_ok-head.ensures.few wide in
    rw (p.1, p.2) (passed_refuses front _ _ c.in_err-places.ensures.read.refused)

pub returns-in_err-parts-clause-refused : goal.returns-in_err-parts-clause-refused
returns-in_err-parts-clause-refused g c =
    let p =
    err_from_is_err_and c.from_residual-in_err-parts.result
    c.from_residual-in_err-parts.ensures.1 in
    let head = c.in_ok-head.head in
    let places = c.in_ok-places.places.items in
    let wide = c.are_wide.ensures ∙ c.in_ok-head.ensures.fit.0 in
    let front : Passed image_fault _ _
    (records_fault parts_behind (max_role c.are_wide.result) head.count no_records) =
    fronted_image head.version head.protocol head.registers head.count c.are_wide.result
    c.in_ok-head.ensures.read.ok c.in_ok-head.ensures.has c.in_ok-head.ensures.fit
    c.in_ok-head.ensures.few wide in
    let passed : Passed image_fault _ _ (end_fault (total_length places)) =
    passed_more _ front c.in_ok-places.ensures.read.ok c.in_ok-places.ensures.are.judged in
    let cut = rw c.deref.ensures.value at c.in_err-parts.ensures.read.cut in
    rw (p.1, p.2)
    (passed_refuses passed
    _ _ (cut_refuses (end_fault (total_length places)) _ _ (total_length places)
    _ (end_short (total_length places)) cut))

pub returns-in_err-read_end-clause-refused : goal.returns-in_err-read_end-clause-refused
returns-in_err-read_end-clause-refused g c =
    let p =
    err_from_is_err_and c.from_residual-in_err-read_end.result
    c.from_residual-in_err-read_end.ensures.1 in
    let head = c.in_ok-head.head in
    let places = c.in_ok-places.places.items in
    let parts = c.in_ok-parts.parts.items in
    let wide = c.are_wide.ensures ∙ c.in_ok-head.ensures.fit.0 in
    let front : Passed image_fault _ _
    (records_fault parts_behind (max_role c.are_wide.result) head.count no_records) =
    fronted_image head.version head.protocol head.registers head.count c.are_wide.result
    c.in_ok-head.ensures.read.ok c.in_ok-head.ensures.has c.in_ok-head.ensures.fit
    c.in_ok-head.ensures.few wide in
    let passed : Passed image_fault _ _ (end_fault (total_length places)) =
    passed_more _ front c.in_ok-places.ensures.read.ok c.in_ok-places.ensures.are.judged in
    let size : length (all_bytes parts) ≡ total_length places =
    parts_size parts ∙ ap total_length (c.in_ok-parts.ensures.places ∙ c.deref.ensures.value) in
    let left : Passed image_fault _ _ (end_fault 0) =
    passed_more _ passed c.in_ok-parts.ensures.read.ok
    (λ bytes. end_more (total_length places) (all_bytes parts) bytes size) in
    rw (p.1, p.2) (passed_refuses left _ _ c.in_err-read_end.ensures.read.refused)

pub read_parts-requires-clause-few : goal.read_parts-requires-clause-few
read_parts-requires-clause-few g c =
    rw c.deref.ensures.value
    (λ k d within. let low = c.in_ok-places.ensures.are.sound.below k d within in omega arith)

pub new-requires : goal.new-requires
new-requires g c =
    let head = c.in_ok-head.head in
    let places = c.in_ok-places.places.items in
    let few : length places ≤ 256 =
    omega (arith, c.in_ok-places.ensures.are.count, c.in_ok-head.ensures.few) in
    let roles : All (λ (p : Place). IsRoleAllowed (is_wide head.protocol) p.role) places =
    subst (λ (b : Bool). All (λ (p : Place). IsRoleAllowed b p.role) places)
    (c.are_wide.ensures ∙ c.in_ok-head.ensures.fit.0) c.in_ok-places.ensures.are.may in
    parts_kept head.protocol head.registers places c.in_ok-parts.parts.items
    (c.in_ok-parts.ensures.places ∙ c.deref.ensures.value)
    (sound_kept head.protocol head.registers places (2 ^ 32) c.in_ok-head.ensures.fit.0 roles few
    c.in_ok-places.ensures.are.sound)

pub returns-clause-ok : goal.returns-clause-ok
returns-clause-ok g c =
    let head = c.in_ok-head.head in
    let came =
    comes_more
    (comes_more (comes_more c.in_ok-head.ensures.read.ok c.in_ok-places.ensures.read.ok)
    c.in_ok-parts.ensures.read.ok) c.in_ok-read_end.ensures.read.ok in (
      head.version,
      subst (λ (p : Protocol). HasProtocol head.version p)
          (ap (λ (h : Handover). h.protocol) (sym c.new.ensures)) c.in_ok-head.ensures.has,
      comes_as
          (spelled_by head.version head.protocol head.registers head.count
          c.in_ok-places.places.items c.in_ok-parts.parts.items
          (c.in_ok-parts.ensures.places ∙ c.deref.ensures.value) c.in_ok-places.ensures.are.count
          ∙ ap (spelling head.version) (sym c.new.ensures)) came,
    )

pub returns-clause-kept : goal.returns-clause-kept
returns-clause-kept g c =
    let head = c.in_ok-head.head in
    let places = c.in_ok-places.places.items in
    let few : length places ≤ 256 =
    omega (arith, c.in_ok-places.ensures.are.count, c.in_ok-head.ensures.few) in
    let roles : All (λ (p : Place). IsRoleAllowed (is_wide head.protocol) p.role) places =
    subst (λ (b : Bool). All (λ (p : Place). IsRoleAllowed b p.role) places)
    (c.are_wide.ensures ∙ c.in_ok-head.ensures.fit.0) c.in_ok-places.ensures.are.may in
    subst IsKeptByImages (sym c.new.ensures)
    (image_kept head.protocol head.registers places
    c.in_ok-parts.parts.items (c.in_ok-parts.ensures.places ∙ c.deref.ensures.value)
    (sound_kept head.protocol head.registers places (2 ^ 32) c.in_ok-head.ensures.fit.0 roles few
    c.in_ok-places.ensures.are.sound)
    c.in_ok-places.ensures.are.sound.fit c.in_ok-head.ensures.fit.1)

pub returns-in_err-head-clause-known : goal.returns-in_err-head-clause-known
returns-in_err-head-clause-known g c =
    known_err c.from_residual.result (g.S.Source.input c.args.source.now) _ _
    c.from_residual.ensures.1 (returns-in_err-head-clause-refused g c)

pub returns-in_err-head-clause-accepts : goal.returns-in_err-head-clause-accepts
returns-in_err-head-clause-accepts g c bytes e =
    accepted_by c.from_residual.result bytes (returns-in_err-head-clause-known g c bytes e)

pub returns-in_err-places-clause-known : goal.returns-in_err-places-clause-known
returns-in_err-places-clause-known g c =
    known_err c.from_residual-in_err-places.result (g.S.Source.input c.args.source.now) _ _
    c.from_residual-in_err-places.ensures.1 (returns-in_err-places-clause-refused g c)

pub returns-in_err-places-clause-accepts : goal.returns-in_err-places-clause-accepts
returns-in_err-places-clause-accepts g c bytes e =
    accepted_by c.from_residual-in_err-places.result bytes
    (returns-in_err-places-clause-known g c bytes e)

pub returns-in_err-parts-clause-known : goal.returns-in_err-parts-clause-known
returns-in_err-parts-clause-known g c =
    known_err c.from_residual-in_err-parts.result (g.S.Source.input c.args.source.now) _ _
    c.from_residual-in_err-parts.ensures.1 (returns-in_err-parts-clause-refused g c)

pub returns-in_err-parts-clause-accepts : goal.returns-in_err-parts-clause-accepts
returns-in_err-parts-clause-accepts g c bytes e =
    accepted_by c.from_residual-in_err-parts.result bytes
    (returns-in_err-parts-clause-known g c bytes e)

pub returns-in_err-read_end-clause-known : goal.returns-in_err-read_end-clause-known
returns-in_err-read_end-clause-known g c =
    known_err c.from_residual-in_err-read_end.result (g.S.Source.input c.args.source.now) _ _
    c.from_residual-in_err-read_end.ensures.1 (returns-in_err-read_end-clause-refused g c)

pub returns-in_err-read_end-clause-accepts : goal.returns-in_err-read_end-clause-accepts
returns-in_err-read_end-clause-accepts g c bytes e =
    accepted_by c.from_residual-in_err-read_end.result bytes
    (returns-in_err-read_end-clause-known g c bytes e)

pub returns-clause-known : goal.returns-clause-known
returns-clause-known g c =
    known_ok c.new.result (g.S.Source.input c.args.source.now)
    (g.S.Source.input c.read_end.new.source) (returns-clause-ok g c)
    c.in_ok-read_end.ensures.ended (returns-clause-kept g c)

pub returns-clause-accepts : goal.returns-clause-accepts
returns-clause-accepts g c bytes e =
    accepted_by (Ok c.new.result) bytes (returns-clause-known g c bytes e)
