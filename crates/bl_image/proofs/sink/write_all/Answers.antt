use Rattle.std.proofs.Common.{◌≡◌, ◌+◌, ◌-◌, ◌≤◌, ◌++◌, ℕ, List, take, drop, length, ◌∙◌, arith}
use Rattle.std.proofs.Common.{rules}
use Rattle.std.proofs.lemmas.List.{drop_all, places, same_lists}
use Rattle.bl_image.proofs.Ways.{way_ends, way_as, way_goes_on}
use Rattle.bl_image.proofs.sink.write_all.Goals as goal

-- what is left after the bytes that were taken
within-more : (bytes : List ℕ) (done n : ℕ) → done ≤ length bytes
    → n ≤ length (take (length bytes - done) (drop done bytes)) → done + n ≤ length bytes
within-more bytes done n h w =
    let e : length (take (length bytes - done) (drop done bytes)) ≡ length bytes - done =
    search (rules, places) in omega arith

drop-split : (bytes : List ℕ) (done n : ℕ) → done + n ≤ length bytes
    → drop done bytes
    ≡ take n (take (length bytes - done) (drop done bytes)) ++ drop (done + n) bytes
drop-split bytes done n h =
    same_lists _ _ (search (rules, places)) (λ k d within. grind (arith, places))

pub loop-done-preserved : goal.loop-done-preserved
loop-done-preserved g c =
    let i = c.loop-done.invariant in
    let e = c.in_ok-done.ensures in
    let bytes = c.args.bytes.now in
    let within = within-more bytes c.loop-done.done c.in_ok-done.field-0 i.within e.within in
    record {
      within = within;
      way =
          way_goes_on
          _ (way_as (drop-split bytes c.loop-done.done c.in_ok-done.field-0 within)
          i.way) e.took;
      sound = e.sound ∙ i.sound;
    }

pub returns-clause-ok : goal.returns-clause-ok
returns-clause-ok g c =
    way_ends
    (way_as (drop_all c.loop-done.done c.args.bytes.now c.loop-done-test.false)
    c.loop-done.invariant.way)
