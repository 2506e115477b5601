use Rattle.std.proofs.Common.{◌≡◌, ◌≤◌, ◌-◌, ◌++◌, replicate}
use Rattle.bl_digest.proofs.step_taking.take_zeros.Given as goal

-- all but these zeros were taken
abbrev pub invariant-loop-left : goal.invariant-loop-left
invariant-loop-left g l = record {
  taken : l.hasher ≡ record {
    front = l.fn.hasher.front;
    places = l.fn.hasher.places;
    taken = l.fn.hasher.taken ++ replicate (l.count - l.left) 0;
  };
  within : l.left ≤ l.count;
}

abbrev pub decreases-loop-left : goal.decreases-loop-left
decreases-loop-left g l = l.left
