use Rattle.std.proofs.Common.{◌≡◌, ◌≤◌, ◌+◌, ◌++◌, length, sum_by, take, vec_len, vec_capacity}
use Rattle.std.specs.List.{flat_map}
use Rattle.bl_mbi.specs.Size.{tag_size}
use Rattle.bl_mbi.specs.Tags.{module_tag}
use Rattle.bl_mbi.proofs.tag_writer.put_modules.Given as goal

-- the modules so far are appended
abbrev pub invariant-loop-module : goal.invariant-loop-module
invariant-loop-module g l = record {
  items : l.out.items ≡ l.fn.out.items ++ flat_map module_tag (take l.module-index l.modules);
  len : vec_len l.out
      ≡ vec_len l.fn.out
      + sum_by (λ m. tag_size (length m.line + 9)) (take l.module-index l.modules);
  capacity : vec_capacity l.fn.out ≤ vec_capacity l.out;
}
