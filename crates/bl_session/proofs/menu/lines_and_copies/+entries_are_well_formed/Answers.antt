use Rattle.std.proofs.Common.{◌≡◌, ◌≤◌, All, List, [], ◌∷◌, arith, drop, get_or, length, subst}
use Rattle.std.proofs.Common.{◌-◌, sym, take}
use Rattle.std.proofs.lemmas.List.{take_all}
use Rattle.std.proofs.lemmas.List.Elements.{All-cons}
use Rattle.bl_load.specs.WellFormedEntry.{IsWellFormedEntry}
use Rattle.bl_session.proofs.menu.lines_and_copies.+entries_are_well_formed.Goals as goal

-- the first and the others are all
all_from_first : {X : Type 0} (P : X → Type 0) (xs : List X) (x : X) → 1 ≤ length xs
    → x ≡ get_or xs 0 x → P x → All P (take (length xs - 1) (drop 1 xs)) → All P xs
all_from_first P [] x some is first others = absurd (omega (arith, some))
all_from_first P (y ∷ ys) x some is first others =
    All-cons P y ys (subst P is first)
    (subst (All P) (take_all (length (y ∷ ys) - 1) ys (omega arith)) others)

pub returns-in-empty : goal.returns-in-empty
returns-in-empty g t c = λ k d within. absurd (omega (arith, within, c.in-empty.len_below))

pub returns-in-len1-up : goal.returns-in-len1-up
returns-in-len1-up g t c =
    all_from_first IsWellFormedEntry c.args.entries.now c.entry-item.result c.in-len1-up.len_at_least
    c.entry-item.is c.entry_is_well_formed.ensures c.entries_are_well_formed.ensures

pub entry_is_well_formed-requires : goal.entry_is_well_formed-requires
entry_is_well_formed-requires g t c =
    rw (sym c.entry-item.is) at (c.requires 0 c.entry-item.result c.in-len1-up.len_at_least)
