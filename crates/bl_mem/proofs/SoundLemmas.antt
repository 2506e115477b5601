-- What keeps frames sound.
use Rattle.std.proofs.Common.{◌≡◌, ℕ, ◌+◌, ◌-◌, ◌*◌, ◌/◌, ◌%◌, ◌<◌, ◌≤◌, List, length, get_or, set}
use Rattle.std.proofs.Common.{None, Some, arith, refl, sym, ap, ◌∙◌, inl, inr, true}
use Rattle.std.proofs.Common.{subst, false, replicate, ◌++◌, [], ◌∷◌, zero, suc}
use Rattle.std.specs.List.{sum_by, fold}
use Rattle.std.proofs.lemmas.Bool.{cases_eq, cases_lt}
use Rattle.std.proofs.lemmas.List.{get_or-set_same, get_or-set_other, length-set}
use Rattle.std.proofs.lemmas.List.Sums.{sum_by-set, get_or-le-sum_by}
use Rattle.bl_mem.specs.declared.frame_state.FrameState.{FrameState}
use Rattle.bl_mem.specs.declared.frame_state.FrameState.TheVariants.{Bare, Plain, Kept, Wiped, Lent}
use Rattle.bl_mem.specs.declared.frame_state.FrameState.TheVariants.{Borrowed}
use Rattle.bl_mem.specs.FrameState.{has_room}
use Rattle.bl_mem.specs.internal.FrameSlots.{slot_of, owed_slots, partner, AreSoundSlots, max_kept}
use Rattle.bl_mem.specs.internal.FrameSlots.{AreGivenRoom}
use Rattle.bl_mem.proofs.PairLemmas.{pairs_set}
use Rattle.bl_mem.proofs.FrameLemmas.{set_room}

none_some : (s : ℕ) → None ≡ Some s → ⊥
none_some s e = cc

some_same : (a b : ℕ) → Some a ≡ Some b → a ≡ b
some_same a b e = cc

-- a frame is set to one that has the same slot or none, and owes as much
pub sound_set : (table : List FrameState) (len owed capacity more i : ℕ) (frame : FrameState)
    → AreSoundSlots table len owed capacity → i < length table → capacity ≤ more
    → owed_slots frame ≡ owed_slots (get_or table i Bare)
    → partner (get_or table i Bare) ≡ None → partner frame ≡ None
    → ((s : ℕ) → slot_of frame ≡ Some s → slot_of (get_or table i Bare) ≡ Some s)
    → AreSoundSlots (set table i frame) len owed more
sound_set table len owed capacity more i frame sound within fits same was_alone alone back =
    let was : (j s : ℕ) → slot_of (get_or (set table i frame) j Bare) ≡ Some s
    → slot_of (get_or table j Bare) ≡ Some s =
    λ j s is. elim (cases_eq j i) [
      | inl here ↦
          rw here
          (back s
          (ap slot_of (sym (get_or-set_same table i frame Bare within))
          ∙ subst (λ n. slot_of (get_or (set table i frame) n Bare) ≡ Some s) here is))
      | inr other ↦ ap slot_of (sym (get_or-set_other table i j frame Bare other)) ∙ is
    ] in
    record {
      whole = sound.whole;
      counted =
          let sum = sum_by-set owed_slots table i frame Bare within in
          omega (arith, sum, same, sound.counted);
      room = omega (arith, sound.room);
      few = sound.few;
      inside = λ j s is. sound.inside j s (was j s is);
      own = λ j k s a b. sound.own j k s (was j s a) (was k s b);
      paired = pairs_set table i frame sound.paired within was_alone alone;
    }

-- a frame that owed a slot gets the next one
pub sound_appended : (table : List FrameState) (len owed capacity more i slot : ℕ)
    → AreSoundSlots table len owed capacity → i < length table → capacity ≤ more
    → owed_slots (get_or table i Bare) ≡ 1 → partner (get_or table i Bare) ≡ None → slot
    ≡ len / 4096
    → AreSoundSlots (set table i (Kept slot)) (len + 4096) (owed - 1) more
sound_appended table len owed capacity more i slot sound within fits owing alone next =
    let whole : len % 4096 ≡ 0 = sound.whole in
    let sum = sum_by-set owed_slots table i (Kept slot) Bare within in
    let one = get_or-le-sum_by owed_slots table i Bare within in
    let counted = sound.counted in
    let here : slot_of (get_or (set table i (Kept slot)) i Bare) ≡ Some slot =
    ap slot_of (get_or-set_same table i (Kept slot) Bare within) in
    let other : (j s : ℕ) → (j ≡ i → ⊥)
    → slot_of (get_or (set table i (Kept slot)) j Bare) ≡ Some s
    → slot_of (get_or table j Bare) ≡ Some s =
    λ j s not is. ap slot_of (sym (get_or-set_other table i j (Kept slot) Bare not)) ∙ is in
    let mine : (j s : ℕ) → j ≡ i → slot_of (get_or (set table i (Kept slot)) j Bare) ≡ Some s
    → s ≡ slot =
    λ j s same is.
    some_same s slot
    (sym (subst (λ n. slot_of (get_or (set table i (Kept slot)) n Bare) ≡ Some s) same is)
    ∙ here) in
    record {
      whole = omega arith;
      counted = omega (arith, sum, owing, counted, one);
      room = omega (arith, sound.room, one, owing, counted);
      few = omega (arith, sound.few, one, owing, counted);
      inside = λ j s is. elim (cases_eq j i) [
        | inl same ↦ let e = mine j s same is in omega arith
        | inr not ↦ let e = sound.inside j s (other j s not is) in omega arith
      ];
      own = λ j k s a b. elim (cases_eq j i) [
        | inl first ↦ elim (cases_eq k i) [
          | inl second ↦ first ∙ sym second
          | inr not ↦
              let e = mine j s first a in
              let f = sound.inside k s (other k s not b) in absurd (omega arith)
        ]
        | inr not ↦ elim (cases_eq k i) [
          | inl second ↦
              let e = mine k s second b in
              let f = sound.inside j s (other j s not a) in absurd (omega arith)
          | inr also ↦ sound.own j k s (other j s not a) (other k s also b)
        ]
      ];
      paired = pairs_set table i (Kept slot) sound.paired within alone refl;
    }

-- frames got room, after there was memory for them
pub sound_opened : (table new : List FrameState) (len owed capacity more first end fill opened : ℕ)
    → AreSoundSlots table len owed capacity → AreGivenRoom table new first end fill opened
    → len + 4096 * (owed + opened) ≤ more → len + 4096 * (owed + opened) ≤ max_kept
    → AreSoundSlots new len (owed + opened) more
sound_opened table new len owed capacity more first end fill opened sound is fits few = record {
  whole = sound.whole;
  counted = omega (arith, sound.counted, is.counted);
  room = fits;
  few = few;
  inside = λ j s a. sound.inside j s (is.slots j s a);
  own = λ j k s a b. sound.own j k s (is.slots j s a) (is.slots k s b);
  paired = record {
    lends = λ i j s a.
        let was : get_or table i Bare ≡ Lent s j = sym (is.partners i j (ap partner a)) ∙ a in
        let pair = sound.paired.lends i j s was in
        is.stays j i (ap partner pair) ∙ pair;
    borrows = λ i j s a.
        let was : get_or table i Bare ≡ Borrowed s j =
        sym (is.partners i j (ap partner a)) ∙ a in
        let pair = sound.paired.borrows i j s was in
        is.stays j i (ap partner pair) ∙ pair;
  };
}

-- no frame had room, for none
pub opened_none : (table : List FrameState) (first fill : ℕ)
    → AreGivenRoom table table first first fill 0
opened_none table first fill = record {
  size = refl;
  counted = omega arith;
  most = omega arith;
  made = λ i a b. absurd (omega arith);
  room = λ i a. a;
  slots = λ i s a. a;
  partners = λ i j a. refl;
  stays = λ i j a. refl;
  bytes = λ kept i place. refl;
}

-- one that has room
pub opened_had : (table : List FrameState) (at fill : ℕ) → has_room (get_or table at Bare) ≡ true
    → AreGivenRoom table table at (at + 1) fill 0
opened_had table at fill had = record {
  size = refl;
  counted = omega arith;
  most = omega arith;
  made = λ i a b. let e : i ≡ at = omega arith in rw e had;
  room = λ i a. a;
  slots = λ i s a. a;
  partners = λ i j a. refl;
  stays = λ i j a. refl;
  bytes = λ kept i place. refl;
}

bare_of : (frame : FrameState) → has_room frame ≡ false → frame ≡ Bare
bare_of Bare h = refl
bare_of (Plain value) h = cc
bare_of (Kept slot) h = cc
bare_of (Wiped slot) h = cc
bare_of (Lent slot to) h = cc
bare_of (Borrowed slot from) h = cc

-- one that had none
pub opened_one : (table : List FrameState) (at fill : ℕ) → at < length table
    → has_room (get_or table at Bare) ≡ false
    → AreGivenRoom table (set table at (Plain fill)) at (at + 1) fill 1
opened_one table at fill within bare =
    let is : get_or table at Bare ≡ Bare = bare_of _ bare in
    let sum = sum_by-set owed_slots table at (Plain fill) Bare within in
    let none : owed_slots (get_or table at Bare) ≡ 0 = ap owed_slots is in
    let now : get_or (set table at (Plain fill)) at Bare ≡ Plain fill =
    get_or-set_same table at (Plain fill) Bare within in
    record {
      size = length-set table at (Plain fill);
      counted = omega (arith, sum, none);
      most = omega arith;
      made = λ i a b. let e : i ≡ at = omega arith in rw (e, now) refl;
      room = λ i had. set_room table at (Plain fill) i within refl had;
      slots = λ i s has. elim (cases_eq i at) [
        | inl same ↦
            absurd
            (none_some s
            (sym (ap slot_of now)
            ∙ subst (λ n. slot_of (get_or (set table at (Plain fill)) n Bare) ≡ Some s) same has))
        | inr other ↦ ap slot_of (sym (get_or-set_other table at i (Plain fill) Bare other)) ∙ has
      ];
      partners = λ i j has. elim (cases_eq i at) [
        | inl same ↦
            absurd
            (none_some j
            (sym (ap partner now)
            ∙ subst (λ n. partner (get_or (set table at (Plain fill)) n Bare) ≡ Some j) same has))
        | inr other ↦ get_or-set_other table at i (Plain fill) Bare other
      ];
      stays = λ i j has. elim (cases_eq i at) [
        | inl same ↦
            absurd
            (none_some j
            (sym (ap partner is) ∙ subst (λ n. partner (get_or table n Bare) ≡ Some j) same has))
        | inr other ↦ get_or-set_other table at i (Plain fill) Bare other
      ];
      bytes = λ kept i place. elim (cases_eq i at) [
        | inl same ↦ rw (same, now, is) refl
        | inr other ↦ rw (get_or-set_other table at i (Plain fill) Bare other) refl
      ];
    }

-- some, and then more
pub opened_more : (old mid new : List FrameState) (first at fill n k : ℕ) → first ≤ at
    → AreGivenRoom old mid first at fill n → AreGivenRoom mid new at (at + 1) fill k
    → AreGivenRoom old new first (at + 1) fill (n + k)
opened_more old mid new first at fill n k from some more = record {
  size = more.size ∙ some.size;
  counted = omega (arith, some.counted, more.counted);
  most = omega (arith, some.most, more.most);
  made = λ i a b. elim (cases_lt i at) [
    | inl low ↦ more.room i (some.made i a low)
    | inr high ↦ more.made i high b
  ];
  room = λ i had. more.room i (some.room i had);
  slots = λ i s has. some.slots i s (more.slots i s has);
  partners = λ i j has.
      let step = more.partners i j has in
      step ∙ some.partners i j (sym (ap partner step) ∙ has);
  stays = λ i j has.
      let step = some.stays i j has in
      more.stays i j (ap partner step ∙ has) ∙ step;
  bytes = λ kept i place. more.bytes kept i place ∙ some.bytes kept i place;
}

-- frames without room at the end are as none
pub get_or_bare : (table : List FrameState) (n i : ℕ)
    → get_or (table ++ replicate n Bare) i Bare ≡ get_or table i Bare
get_or_bare [] zero i = refl
get_or_bare [] (suc n) zero = refl
get_or_bare [] (suc n) (suc i) = get_or_bare [] n i
get_or_bare (x ∷ xs) n zero = refl
get_or_bare (x ∷ xs) n (suc i) = get_or_bare xs n i

sum_bare : (n a : ℕ) → fold (λ b x. b + owed_slots x) a (replicate n Bare) ≡ a
sum_bare zero a = refl
sum_bare (suc n) a = sum_bare n (a + 0) ∙ omega arith

fold_grown : (table : List FrameState) (n a : ℕ)
    → fold (λ b x. b + owed_slots x) a (table ++ replicate n Bare)
    ≡ fold (λ b x. b + owed_slots x) a table
fold_grown [] n a = sum_bare n a
fold_grown (x ∷ xs) n a = fold_grown xs n (a + owed_slots x)

sum_grown : (table : List FrameState) (n : ℕ)
    → sum_by owed_slots (table ++ replicate n Bare) ≡ sum_by owed_slots table
sum_grown table n = fold_grown table n 0

-- the table grows
pub sound_grown : (table : List FrameState) (len owed capacity n : ℕ)
    → AreSoundSlots table len owed capacity
    → AreSoundSlots (table ++ replicate n Bare) len owed capacity
sound_grown table len owed capacity n sound = record {
  whole = sound.whole;
  counted = sound.counted ∙ sym (sum_grown table n);
  room = sound.room;
  few = sound.few;
  inside = λ j s a. sound.inside j s (ap slot_of (sym (get_or_bare table n j)) ∙ a);
  own = λ j k s a b.
      sound.own j k s (ap slot_of (sym (get_or_bare table n j)) ∙ a)
      (ap slot_of (sym (get_or_bare table n k)) ∙ b);
  paired = record {
    lends = λ i j s a. get_or_bare table n j
        ∙ sound.paired.lends i j s (sym (get_or_bare table n i) ∙ a);
    borrows = λ i j s a. get_or_bare table n j
        ∙ sound.paired.borrows i j s (sym (get_or_bare table n i) ∙ a);
  };
}
