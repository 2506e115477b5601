use Rattle.std.proofs.Common.{◌+◌, ◌-◌, ◌≡◌, ◌≤◌, ◌%◌, ℕ, length}
use Rattle.bl_mb2head.specs.HeaderPlace.{IsHeaderAt}
use Rattle.bl_mb2head.proofs.header_place.find_header_place.Given as goal

-- the places are multiples of 8, no header stands before the place, and each that stands ends in
-- time
abbrev pub invariant-loop-at : goal.invariant-loop-at
invariant-loop-at g l =
    let bytes = g.V.ByteView.bytes l.view in
    record {
      aligned : l.at % 8 ≡ 0;
      none : (h : ℕ) → IsHeaderAt bytes h → l.at ≤ h;
      end_in : l.end ≤ length bytes;
      end_all : (h : ℕ) → IsHeaderAt bytes h → h + 16 ≤ l.end;
      end_front : l.end ≤ 32768;
      in_front : l.at ≤ 32768;
    }

abbrev pub decreases-loop-at : goal.decreases-loop-at
decreases-loop-at g l = l.end + 1 - l.at
