use Rattle.std.proofs.Common.{List, ℕ, ◌++◌, ◌∙◌, ap, refl, length, arith}
use Rattle.bl_mbi.specs.InfoToWriteFacts.{ModuleInfo}
use Rattle.bl_mbi.specs.Tags.{module_tag}
use Rattle.bl_mbi.proofs.Pieces.{appended_7, module_pieces}
use Rattle.bl_mbi.proofs.tag_writer.put_module.Goals as goal

pub returns : goal.returns
returns g c =
    let inside : ModuleInfo =
    record {
      mod_start = c.loaded.inside.mod_start;
      mod_end = c.loaded.inside.mod_end;
      line = c.loaded.inside.line.now;
    } in
    let long = ap (λ (m : ModuleInfo). length m.line) c.loaded.view_is in
    record {
      items = appended_7 _ _ _ _ _ _ _ _ _ _ _ _ _ _ _ c.put_u32.ensures.items c.put_u32-2.ensures.items c.put_u32-3.ensures.items c.put_u32-4.ensures.items c.put_bytes.ensures.items c.put_bytes-2.ensures.items c.put_padding.ensures.items ∙ ap (λ (x : List ℕ). c.args.out.now.items ++ x) (module_pieces inside inside.line refl) ∙ ap (λ (m : ModuleInfo). c.args.out.now.items ++ module_tag m) c.loaded.view_is;
      len = omega (arith, long);
      capacity = omega arith;
    }
