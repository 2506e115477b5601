use Rattle.std.proofs.Common.{◌≡◌, ℕ, List, ◌∷◌, ◌++◌, ◌+◌, get_or, map, drop, arith, sym, ap, ◌∙◌}
use Rattle.std.proofs.lemmas.Grind.{common_steps}
use Rattle.std.proofs.Common.{length}
use Rattle.std.proofs.lemmas.List.{drop_more, at_drop_all, append-nil}
use Rattle.std.proofs.lemmas.List.Elements.{All-push}
use Rattle.bl_plan.specs.declared.part.Role.TheVariants as role
use Rattle.bl_load.specs.declared.entry.Module.{Module}
use Rattle.bl_load.specs.Addresses.{address_of}
use Rattle.bl_mbi.specs.InfoToWriteFacts.{IsModule}
use Rattle.bl_load.specs.internal.Multiboot2Entries.{lines_of_modules}
use Rattle.bl_load.specs.Rows.{told_modules}
use Rattle.bl_load.proofs.ModuleLemmas.{told_by, told_module, told_more, view_length_at}
use Rattle.bl_load.proofs.multiboot2.information.modules_at.Goals as goal

pub module_at-requires-clause-end : goal.module_at-requires-clause-end
module_at-requires-clause-end g c =
    let size =
    c.len-size.ensures
    ∙ ap (λ (v : g.row.V.Denot). length (g.V.ByteView.bytes v)) (sym c.index-entry-index.is)
    ∙ view_length_at g.V.ByteView.bytes c.args.entry.now.files.now (c.loop-index.index + 1)
    c.index-entry-index.result c.index-entry-index.is
    (omega (arith, c.requires.files, c.loop-index-test.true)) in
    rw size (c.requires.ends c.loop-index.index c.loop-index-test.true)

pub module_at-requires-clause-sound : goal.module_at-requires-clause-sound
module_at-requires-clause-sound g c =
    rw (c.as_slice-line.ensures, c.module-item.is)
    (c.args.entry.now.sound_modules c.loop-index.index c.module-item.result c.loop-index-test.true)

pub loop-index-preserved : goal.loop-index-preserved
loop-index-preserved g c =
    let texts = map g.V.ByteView.bytes c.args.entry.now.files.now in
    let places = c.args.places.now in
    let k = c.loop-index.index in
    let modules = c.args.entry.now.modules.now in
    let i = c.loop-index.invariant in
    let m = get_or modules k c.module-item.result in
    let rest = drop (k + 1) modules in
    let new = c.module_at.result in
    let left : lines_of_modules (drop k modules) ≡ m.line ∷ lines_of_modules rest =
    ap lines_of_modules (drop_more modules k c.module-item.result c.loop-index-test.true) in
    let size =
    c.len-size.ensures
    ∙ ap (λ (v : g.row.V.Denot). length (g.V.ByteView.bytes v)) (sym c.index-entry-index.is)
    ∙ view_length_at g.V.ByteView.bytes c.args.entry.now.files.now (k + 1) c.index-entry-index.result
    c.index-entry-index.is (omega (arith, c.requires.files, c.loop-index-test.true)) in
    let line : c.as_slice-line.result.now ≡ m.line =
    c.as_slice-line.ensures
    ∙ ap (λ (x : Module g.row.A.Denot). x.line) c.module-item.is in
    let is : new ≡ told_module texts places k m.line =
    c.module_at.ensures.told
    ∙ ap (λ (n : ℕ). told_by (address_of role.Module k places) n c.as_slice-line.result.now) size
    ∙ ap (told_module texts places k) line in
    let all : c.loop-index.told.items ++ told_modules texts places k (m.line ∷ lines_of_modules rest)
    ≡ told_modules texts places 0 (lines_of_modules modules) =
    ap (λ (ls : List (List ℕ)). c.loop-index.told.items ++ told_modules texts places k ls) (sym left)
    ∙ i.told in
    record {
      told =
          rw c.in_ok-push.ensures.items
          (told_more texts places k c.loop-index.told.items new m.line (lines_of_modules rest)
          (told_modules texts places 0 (lines_of_modules modules)) is all);
      fits =
          rw c.in_ok-push.ensures.items
          (All-push IsModule c.loop-index.told.items new i.fits c.module_at.ensures.fits);
    }

pub returns-clause-told : goal.returns-clause-told
returns-clause-told g c =
    let all = at_drop_all lines_of_modules c.args.entry.now.modules.now c.loop-index.index
    (omega (arith, c.loop-index-test.false)) in
    rw (all, append-nil) at c.loop-index.invariant.told

pub offset_bounds-entry-index : goal.offset_bounds-entry-index
offset_bounds-entry-index g c = grind (arith, common_steps)
