-- The lines of a boot. Own.
use Rattle.std.specs.Prelude.{ℕ, ◌++◌, List}
use Rattle.bl_load.specs.declared.refused_entry.RefusedEntry.{RefusedEntry}
use Rattle.program_say.specs.BootAndMapLines.{booted_line, refused_lines}

-- the lines of an entry that is booted, and of the refusals before it
abbrev pub boot_lines : List RefusedEntry → (entry : ℕ) → (title : List ℕ) → List ℕ
boot_lines earlier entry title = refused_lines earlier ++ booted_line entry title
