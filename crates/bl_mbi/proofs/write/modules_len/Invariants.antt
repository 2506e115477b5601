use Rattle.std.proofs.Common.{◌≡◌, ◌+◌, length, sum_by, take}
use Rattle.bl_mbi.specs.Size.{tag_size}
use Rattle.bl_mbi.proofs.write.modules_len.Given as goal

-- what the modules so far take
abbrev pub invariant-loop-loaded : goal.invariant-loop-loaded
invariant-loop-loaded l =
    l.sum ≡ sum_by (λ m. tag_size (length m.line + 9)) (take l.loaded-index l.modules)
