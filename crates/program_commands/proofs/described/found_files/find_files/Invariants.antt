use Rattle.std.proofs.Common.{◌≡◌, ◌+◌, ◌≤◌, ◌++◌, ℕ, List, IsSome, All, take, map}
use Rattle.bl_stage.specs.Files.{File, file_of}
use Rattle.program_desc.specs.Described.{file_named}
use Rattle.program_desc.specs.Views.{view}
use Rattle.program_boots.specs.described.FoundFiles.{AreFound, names_to_ask}
use Rattle.program_commands.proofs.described.found_files.find_files.Given as goal

abbrev pub invariant-loop-name : goal.invariant-loop-name
invariant-loop-name g l = record {
  found : AreFound g.F.Files.answers g.F.Files.faults (view l.description).files
      (map (λ n. n.now) (take l.name-index l.names)) l.initial.files l.files
      (map file_of l.found.items);
  asked : g.F.Files.asked l.files ≡ g.F.Files.asked l.initial.files
      ++ names_to_ask (view l.description).files (map (λ n. n.now) (take l.name-index l.names));
  inline : All (λ name. IsSome (file_named name (view l.description).files))
      (map (λ n. n.now) l.names) → l.files ≡ l.initial.files;
  same : (file : List ℕ) (answer : File) → g.F.Files.answers l.files file answer
      → g.F.Files.answers l.initial.files file answer;
  least : g.F.Files.faults l.initial.files ≤ g.F.Files.faults l.files;
  most : g.F.Files.faults l.files ≤ g.F.Files.faults l.initial.files + l.name-index;
}
