use Rattle.std.proofs.Common.{◌≡◌, ℕ, List, Bor, true, take, map}
use Rattle.std.specs.BTreeSet as sorted
use Rattle.std.specs.Cmp.Lexicographic.{slice_cmp}
use Rattle.std.specs.Ordering.{nat_cmp}
use Rattle.program_desc.specs.Described.{has_file, names_differ}
use Rattle.program_desc.specs.Views.{file_view}
use Rattle.program_desc.proofs.files.same_name.Given as goal

-- the set has the names of the files so far, which differ
abbrev pub invariant-loop-i : goal.invariant-loop-i
invariant-loop-i g l = record {
  differ : names_differ (map file_view (take l.i l.files)) ≡ true;
  has : (q : Bor (List ℕ))
      → sorted.contains (λ x y. slice_cmp nat_cmp x.now y.now) l.names q
      ≡ has_file q.now (map file_view (take l.i l.files));
}
