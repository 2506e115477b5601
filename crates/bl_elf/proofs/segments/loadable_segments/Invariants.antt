use Rattle.std.proofs.Common.{◌≡◌, ◌<◌, ◌-◌, ◌++◌, ℕ, None}
use Rattle.bl_elf.specs.ProgramHeaders.{program_headers_from, program_headers, segments_of}
use Rattle.bl_elf.specs.ProgramHeaders.{program_fault_at}
use Rattle.bl_elf.proofs.segments.loadable_segments.Given as goal

-- no program header so far has a fault, and their segments are those before the rest
abbrev pub invariant-loop-i : goal.invariant-loop-i
invariant-loop-i g l =
    let bytes = g.V.ByteView.bytes l.view in
    record {
      sound : (k : ℕ) → k < l.i → program_fault_at bytes k ≡ None;
      so_far : l.segments.items ++ segments_of (program_headers_from bytes l.i (l.i-end - l.i))
          ≡ segments_of (program_headers bytes);
    }
