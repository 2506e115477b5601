-- Frames that share a slot.
use Rattle.std.proofs.Common.{◌≡◌, ◌⊎◌, ℕ, ◌+◌, ◌*◌, ◌/◌, ◌%◌, ◌<◌, ◌≤◌, List, Some, None, get_or}
use Rattle.std.proofs.Common.{set, length, refl, sym, ap, ◌∙◌, inl, inr, subst, arith, true}
use Rattle.std.specs.List.{sum_by}
use Rattle.std.proofs.lemmas.Bool.{cases_eq}
use Rattle.std.proofs.lemmas.List.{get_or-set_same, get_or-set_other, length-set}
use Rattle.std.proofs.lemmas.List.Sums.{sum_by-set}
use Rattle.bl_mem.specs.declared.frame_state.FrameState.{FrameState}
use Rattle.bl_mem.specs.declared.frame_state.FrameState.TheVariants.{Bare, Plain, Kept, Wiped, Lent}
use Rattle.bl_mem.specs.declared.frame_state.FrameState.TheVariants.{Borrowed}
use Rattle.bl_mem.specs.FrameState.{has_room, slot_read}
use Rattle.bl_mem.specs.SparseFrames.{SparseFramesFacts, IsShared}
use Rattle.bl_mem.specs.internal.FrameSlots.{slot_of, owed_slots, partner, ArePair, ArePaired}
use Rattle.bl_mem.specs.internal.FrameSlots.{AreSoundSlots}
use Rattle.bl_mem.specs.internal.FrameSlots.{IsUnshared}
use Rattle.bl_mem.proofs.FrameLemmas.{in_table, set_room, byte_read}

never : (j : ℕ) → None ≡ Some j → ⊥
never j e = cc

-- a frame that shares no slot is set to one that shares none
pub pairs_set : (table : List FrameState) (i : ℕ) (frame : FrameState) → ArePaired table
    → i < length table → partner (get_or table i Bare) ≡ None → partner frame ≡ None
    → ArePaired (set table i frame)
pairs_set table i frame paired within was alone =
    let now : get_or (set table i frame) i Bare ≡ frame =
    get_or-set_same table i frame Bare within in
    let not : (a b : ℕ) → partner (get_or (set table i frame) a Bare) ≡ Some b → a ≡ i → ⊥ =
    λ a b has same.
    never b
    (sym alone ∙ sym (ap partner now)
    ∙ subst (λ n. partner (get_or (set table i frame) n Bare) ≡ Some b) same has) in
    let had : (a b : ℕ) → partner (get_or table a Bare) ≡ Some b → a ≡ i → ⊥ =
    λ a b has same.
    never b (sym was ∙ subst (λ n. partner (get_or table n Bare) ≡ Some b) same has) in
    let old : (a : ℕ) → (a ≡ i → ⊥) → get_or (set table i frame) a Bare ≡ get_or table a Bare =
    λ a other. get_or-set_other table i a frame Bare other in
    record {
      lends = λ a b s is.
          let pair = paired.lends a b s (sym (old a (not a b (ap partner is))) ∙ is) in
          old b (had b a (ap partner pair)) ∙ pair;
      borrows = λ a b s is.
          let pair = paired.borrows a b s (sym (old a (not a b (ap partner is))) ∙ is) in
          old b (had b a (ap partner pair)) ∙ pair;
    }

same_some : (a b : ℕ) → Some a ≡ Some b → a ≡ b
same_some a b e = cc

-- ---- whose slot a frame reads

own_or_borrowed : (frame : FrameState) (s : ℕ) → slot_read frame ≡ Some s
    → (slot_of frame ≡ Some s) ⊎ ((from : ℕ) × (frame ≡ Borrowed s from))
own_or_borrowed Bare s h = absurd (never s h)
own_or_borrowed (Plain value) s h = absurd (never s h)
own_or_borrowed (Kept slot) s h = inl h
own_or_borrowed (Wiped slot) s h = absurd (never s h)
own_or_borrowed (Lent slot to) s h = inl h
own_or_borrowed (Borrowed slot from) s h =
    inr (from, ap (λ n. Borrowed n from) (same_some slot s h))

-- it is among those kept
pub reads_inside : (table : List FrameState) (len owed capacity j s : ℕ)
    → AreSoundSlots table len owed capacity → slot_read (get_or table j Bare) ≡ Some s
    → 4096 * s + 4096 ≤ len
reads_inside table len owed capacity j s sound reads =
    elim (own_or_borrowed (get_or table j Bare) s reads) [
      | inl own ↦ sound.inside j s own
      | inr other ↦
          sound.inside other.0 s (ap slot_of (sound.paired.borrows j other.0 s other.1))
    ]

-- it is not that of another frame that shares none
pub reads_other : (table : List FrameState) (len owed capacity i j slot s : ℕ)
    → AreSoundSlots table len owed capacity → (j ≡ i → ⊥)
    → partner (get_or table i Bare) ≡ None → slot_of (get_or table i Bare) ≡ Some slot
    → slot_read (get_or table j Bare) ≡ Some s → s ≡ slot → ⊥
reads_other table len owed capacity i j slot s sound not alone mine reads same =
    elim (own_or_borrowed (get_or table j Bare) s reads) [
      | inl own ↦ not (sound.own j i s own (mine ∙ ap (λ n. Some n) (sym same)))
      | inr other ↦
          let pair = sound.paired.borrows j other.0 s other.1 in
          let here : other.0 ≡ i =
          sound.own other.0 i s (ap slot_of pair) (mine ∙ ap (λ n. Some n) (sym same)) in
          never j
          (sym alone
          ∙ subst (λ n. partner (get_or table n Bare) ≡ Some j) here (ap partner pair))
    ]

-- ---- two frames are set

module _ (table : List FrameState) (a b : ℕ) (x y : FrameState) (not : a ≡ b → ⊥)
    (in_a : a < length table)
    (in_b : b < length table) where
  abbrev both : List FrameState
  both = set (set table a x) b y

  in_set : b < length (set table a x)
  in_set = rw (length-set table a x) in_b

  pub at_second : get_or both b Bare ≡ y
  at_second = get_or-set_same (set table a x) b y Bare in_set

  pub at_first : get_or both a Bare ≡ x
  at_first =
      get_or-set_other (set table a x) b a y Bare not ∙ get_or-set_same table a x Bare in_a

  pub at_other : (k : ℕ) → (k ≡ a → ⊥) → (k ≡ b → ⊥) → get_or both k Bare ≡ get_or table k Bare
  at_other k p q =
      get_or-set_other (set table a x) b k y Bare q ∙ get_or-set_other table a k x Bare p

  pub sum_both : owed_slots x + owed_slots y ≡ owed_slots (get_or table a Bare)
      + owed_slots (get_or table b Bare)
      → sum_by owed_slots both ≡ sum_by owed_slots table
  sum_both same =
      let first = sum_by-set owed_slots table a x Bare in_a in
      let second = sum_by-set owed_slots (set table a x) b y Bare in_set in
      let was : owed_slots (get_or (set table a x) b Bare) ≡ owed_slots (get_or table b Bare) =
      ap owed_slots (get_or-set_other table a b x Bare (λ e. not (sym e))) in
      omega (arith, same, first, second, was)

  pub room_both : has_room x ≡ true → has_room y ≡ true → (k : ℕ)
      → has_room (get_or table k Bare) ≡ true → has_room (get_or both k Bare) ≡ true
  room_both p q k had =
      set_room (set table a x) b y k in_set q (set_room table a x k in_a p had)

-- a slot goes to one of two frames, from itself or from the other
module _ (table : List FrameState) (len owed capacity a b s : ℕ) (x y : FrameState)
    (sound : AreSoundSlots table len owed capacity) (not : a ≡ b → ⊥) (in_a : a < length table)
    (in_b : b < length table) (has : slot_of x ≡ Some s) (none : slot_of y ≡ None)
    (same : owed_slots x + owed_slots y ≡ owed_slots (get_or table a Bare)
    + owed_slots (get_or table b Bare)) (owner : ℕ)
    (owns : slot_of (get_or table owner Bare) ≡ Some s) (one : (owner ≡ a) ⊎ (owner ≡ b)) where
  abbrev now : List FrameState
  now = both table a b x y not in_a in_b

  first_has : (k t : ℕ) → k ≡ a → slot_of (get_or now k Bare) ≡ Some t → t ≡ s
  first_has k t here is =
      same_some t s
      (sym (subst (λ n. slot_of (get_or now n Bare) ≡ Some t) here is)
      ∙ ap slot_of (at_first table a b x y not in_a in_b) ∙ has)

  second_none : (k t : ℕ) → k ≡ b → slot_of (get_or now k Bare) ≡ Some t → ⊥
  second_none k t here is =
      never t
      (sym none ∙ sym (ap slot_of (at_second table a b x y not in_a in_b))
      ∙ subst (λ n. slot_of (get_or now n Bare) ≡ Some t) here is)

  other_had : (k t : ℕ) → (k ≡ a → ⊥) → (k ≡ b → ⊥) → slot_of (get_or now k Bare) ≡ Some t
      → slot_of (get_or table k Bare) ≡ Some t
  other_had k t p q is =
      ap slot_of (sym (at_other table a b x y not in_a in_b k p q)) ∙ is

  -- no third frame has it
  not_third : (k : ℕ) → (k ≡ a → ⊥) → (k ≡ b → ⊥) → slot_of (get_or table k Bare) ≡ Some s → ⊥
  not_third k p q had =
      let e : k ≡ owner = sound.own k owner s had owns in
      elim one [
        | inl f ↦ p (e ∙ f)
        | inr f ↦ q (e ∙ f)
      ]

  pub sound_moved : ArePaired now → AreSoundSlots now len owed capacity
  sound_moved pairs = record {
    whole = sound.whole;
    counted = sound.counted ∙ sym (sum_both table a b x y not in_a in_b same);
    room = sound.room;
    few = sound.few;
    inside = λ k t is. elim (cases_eq k b) [
      | inl here ↦ absurd (second_none k t here is)
      | inr q ↦ elim (cases_eq k a) [
        | inl here ↦
            subst (λ n. 4096 * n + 4096 ≤ len) (sym (first_has k t here is))
            (sound.inside owner s owns)
        | inr p ↦ sound.inside k t (other_had k t p q is)
      ]
    ];
    own = λ k l t u v. elim (cases_eq k b) [
      | inl here ↦ absurd (second_none k t here u)
      | inr q ↦ elim (cases_eq l b) [
        | inl here ↦ absurd (second_none l t here v)
        | inr r ↦ elim (cases_eq k a) [
          | inl first ↦ elim (cases_eq l a) [
            | inl second ↦ first ∙ sym second
            | inr m ↦
                absurd
                (not_third l m r
                (other_had l t m r v ∙ ap (λ n. Some n) (first_has k t first u)))
          ]
          | inr p ↦ elim (cases_eq l a) [
            | inl second ↦
                absurd
                (not_third k p q
                (other_had k t p q u ∙ ap (λ n. Some n) (first_has l t second v)))
            | inr m ↦ sound.own k l t (other_had k t p q u) (other_had l t m r v)
          ]
        ]
      ]
    ];
    paired = pairs;
  }

-- ---- a frame leaves its slot to the other of its pair

module _ (table : List FrameState) (i j s : ℕ) (paired : ArePaired table)
    (at_i : partner (get_or table i Bare) ≡ Some j) (at_j : partner (get_or table j Bare) ≡ Some i)
    (not : j ≡ i → ⊥) (in_i : i < length table) (in_j : j < length table) where
  abbrev left : List FrameState
  left = both table j i (Kept s) (Plain 0) not in_j in_i

  left_out : (k m : ℕ) → partner (get_or left k Bare) ≡ Some m → (k ≡ j → ⊥) × (k ≡ i → ⊥)
  left_out k m has = (
    λ here. never m
        (sym (ap partner (at_first table j i (Kept s) (Plain 0) not in_j in_i))
        ∙ subst (λ n. partner (get_or left n Bare) ≡ Some m) here has),
    λ here. never m
        (sym (ap partner (at_second table j i (Kept s) (Plain 0) not in_j in_i))
        ∙ subst (λ n. partner (get_or left n Bare) ≡ Some m) here has),
  )

  stays : (k : ℕ) → (k ≡ j → ⊥) → (k ≡ i → ⊥) → get_or left k Bare ≡ get_or table k Bare
  stays = at_other table j i (Kept s) (Plain 0) not in_j in_i

  -- the partner of a third frame is a third one
  third : (k m : ℕ) → (k ≡ j → ⊥) → (k ≡ i → ⊥) → partner (get_or table m Bare) ≡ Some k
      → (m ≡ j → ⊥) × (m ≡ i → ⊥)
  third k m p q has = (
    λ here. q
        (same_some k i (sym (subst (λ n. partner (get_or table n Bare) ≡ Some k) here has) ∙ at_j)),
    λ here. p
        (same_some k j (sym (subst (λ n. partner (get_or table n Bare) ≡ Some k) here has) ∙ at_i)),
  )

  pub left_paired : ArePaired left
  left_paired = record {
    lends = λ k m t is.
        let out = left_out k m (ap partner is) in
        let pair = paired.lends k m t (sym (stays k out.0 out.1) ∙ is) in
        let there = third k m out.0 out.1 (ap partner pair) in
        stays m there.0 there.1 ∙ pair;
    borrows = λ k m t is.
        let out = left_out k m (ap partner is) in
        let pair = paired.borrows k m t (sym (stays k out.0 out.1) ∙ is) in
        let there = third k m out.0 out.1 (ap partner pair) in
        stays m there.0 there.1 ∙ pair;
  }

-- ---- a frame comes to share the slot of another

lent_slot : (s a t b : ℕ) → Lent s a ≡ Lent t b → s ≡ t
lent_slot s a t b h = cc

lent_to : (s a t b : ℕ) → Lent s a ≡ Lent t b → a ≡ b
lent_to s a t b h = cc

borrowed_slot : (s a t b : ℕ) → Borrowed s a ≡ Borrowed t b → s ≡ t
borrowed_slot s a t b h = cc

borrowed_from : (s a t b : ℕ) → Borrowed s a ≡ Borrowed t b → a ≡ b
borrowed_from s a t b h = cc

lent_borrowed : (s a t b : ℕ) → Lent s a ≡ Borrowed t b → ⊥
lent_borrowed s a t b h = cc

module _ (table : List FrameState) (from to s : ℕ) (paired : ArePaired table)
    (alone_from : partner (get_or table from Bare) ≡ None)
    (alone_to : partner (get_or table to Bare) ≡ None) (not : to ≡ from → ⊥)
    (in_from : from < length table) (in_to : to < length table) where
  abbrev joined : List FrameState
  joined = both table to from (Lent s from) (Borrowed s to) not in_to in_from

  lender : get_or joined to Bare ≡ Lent s from
  lender = at_first table to from (Lent s from) (Borrowed s to) not in_to in_from

  borrower : get_or joined from Bare ≡ Borrowed s to
  borrower = at_second table to from (Lent s from) (Borrowed s to) not in_to in_from

  rest : (k : ℕ) → (k ≡ to → ⊥) → (k ≡ from → ⊥) → get_or joined k Bare ≡ get_or table k Bare
  rest = at_other table to from (Lent s from) (Borrowed s to) not in_to in_from

  outside : (k m : ℕ) → partner (get_or table k Bare) ≡ Some m
      → (k ≡ to → ⊥) × (k ≡ from → ⊥)
  outside k m has = (
    λ here. never m
        (sym alone_to ∙ subst (λ n. partner (get_or table n Bare) ≡ Some m) here has),
    λ here. never m
        (sym alone_from ∙ subst (λ n. partner (get_or table n Bare) ≡ Some m) here has),
  )

  pub joined_paired : ArePaired joined
  joined_paired = record {
    lends = λ k m t is. elim (cases_eq k from) [
      | inl here ↦
          absurd
          (lent_borrowed t m s to
          (sym (subst (λ n. get_or joined n Bare ≡ Lent t m) here is) ∙ borrower))
      | inr q ↦ elim (cases_eq k to) [
        | inl here ↦
            let e =
            sym (subst (λ n. get_or joined n Bare ≡ Lent t m) here is) ∙ lender in
            rw (lent_slot t m s from e, lent_to t m s from e, here) borrower
        | inr p ↦
            let pair = paired.lends k m t (sym (rest k p q) ∙ is) in
            let out = outside m k (ap partner pair) in
            rest m out.0 out.1 ∙ pair
      ]
    ];
    borrows = λ k m t is. elim (cases_eq k to) [
      | inl here ↦
          absurd
          (lent_borrowed s from t m
          (sym lender ∙ subst (λ n. get_or joined n Bare ≡ Borrowed t m) here is))
      | inr p ↦ elim (cases_eq k from) [
        | inl here ↦
            let e =
            sym (subst (λ n. get_or joined n Bare ≡ Borrowed t m) here is) ∙ borrower in
            rw (borrowed_slot t m s to e, borrowed_from t m s to e, here) lender
        | inr q ↦
            let pair = paired.borrows k m t (sym (rest k p q) ∙ is) in
            let out = outside m k (ap partner pair) in
            rest m out.0 out.1 ∙ pair
      ]
    ];
  }

-- ---- both steps, over frames

kept_plain : (s value : ℕ) → Kept s ≡ Plain value → ⊥
kept_plain s value h = cc

not_one : (table : List FrameState) (i j s : ℕ) → get_or table i Bare ≡ Lent s j
    → get_or table j Bare ≡ Borrowed s i → i ≡ j → ⊥
not_one table i j s lent borrowed same =
    lent_borrowed s j s i
    (sym lent ∙ subst (λ n. get_or table n Bare ≡ Borrowed s i) (sym same) borrowed)

module _ (fill : ℕ) (table : List FrameState) (kept : List ℕ) (len owed capacity : ℕ)
    (sound : AreSoundSlots table len owed capacity) where
  abbrev old : SparseFramesFacts
  old = record { fill = fill; table = table; kept = kept }

  -- a frame leaves its slot to the other of its pair
  module _ (i j s : ℕ) where
    abbrev parted : List FrameState
    parted = set (set table j (Kept s)) i (Plain 0)

    abbrev after : SparseFramesFacts
    after = record { fill = fill; table = parted; kept = kept }

    -- whichever of the two lends
    module _ (not : j ≡ i → ⊥) (in_i : i < length table) (in_j : j < length table)
        (reads : slot_read (get_or table j Bare) ≡ Some s) where
      is_released : IsUnshared old after i
      is_released = record {
        alone = ap partner (at_second table j i (Kept s) (Plain 0) not in_j in_i);
        beside = λ a other. elim (cases_eq (a / 4096) j) [
          | inl here ↦
              rw (here, at_first table j i (Kept s) (Plain 0) not in_j in_i)
              (sym (byte_read fill kept (get_or table j Bare) s (a % 4096) reads))
          | inr third ↦
              rw (at_other table j i (Kept s) (Plain 0) not in_j in_i (a / 4096) third other) refl
        ];
        room = λ a had.
            room_both table j i (Kept s) (Plain 0) not in_j in_i refl refl (a / 4096) had;
      }

    pub leaves : ArePair old i j s
        → AreSoundSlots parted len owed capacity × IsUnshared old after i
    leaves (inl (lends, borrows)) =
        let not : j ≡ i → ⊥ = λ e. not_one table i j s lends borrows (sym e) in
        let in_i = in_table table i (ap has_room lends) in
        let in_j = in_table table j (ap has_room borrows) in
        let a = ap owed_slots lends in
        let b = ap owed_slots borrows in (
          sound_moved table len owed capacity j i s (Kept s) (Plain 0) sound not in_j in_i refl refl
              (omega (arith, a, b)) i (ap slot_of lends) (inr refl)
              (left_paired table i j s sound.paired (ap partner lends) (ap partner borrows) not in_i
              in_j),
          is_released not in_i in_j (ap slot_read borrows),
        )
    leaves (inr (borrows, lends)) =
        let not : j ≡ i → ⊥ = not_one table j i s lends borrows in
        let in_i = in_table table i (ap has_room borrows) in
        let in_j = in_table table j (ap has_room lends) in
        let a = ap owed_slots lends in
        let b = ap owed_slots borrows in (
          sound_moved table len owed capacity j i s (Kept s) (Plain 0) sound not in_j in_i refl refl
              (omega (arith, a, b)) j (ap slot_of lends) (inl refl)
              (left_paired table i j s sound.paired (ap partner borrows) (ap partner lends) not in_i
              in_j),
          is_released not in_i in_j (ap slot_read lends),
        )

  -- a frame comes to share the slot of another
  module _ (from to s value : ℕ) (kept_there : get_or table from Bare ≡ Kept s)
      (plain : get_or table to Bare ≡ Plain value) where
    abbrev pooled : List FrameState
    pooled = set (set table to (Lent s from)) from (Borrowed s to)

    apart : to ≡ from → ⊥
    apart same =
        kept_plain s value
        (sym kept_there ∙ subst (λ n. get_or table n Bare ≡ Plain value) same plain)

    in_from : from < length table
    in_from = in_table table from (ap has_room kept_there)

    in_to : to < length table
    in_to = in_table table to (ap has_room plain)

    pub joined_sound : AreSoundSlots pooled len owed capacity
    joined_sound =
        let a = ap owed_slots kept_there in
        let b = ap owed_slots plain in
        sound_moved table len owed capacity to from s (Lent s from) (Borrowed s to) sound apart
        in_to in_from refl refl (omega (arith, a, b)) from (ap slot_of kept_there) (inr refl)
        (joined_paired table from to s sound.paired (ap partner kept_there) (ap partner plain) apart
        in_from in_to)

    pub joined_bytes : IsShared old (record { fill = fill; table = pooled; kept = kept }) from to
    joined_bytes = record {
      here = λ place small.
          let number : (4096 * to + place) / 4096 ≡ to = omega arith in
          let rest : (4096 * to + place) % 4096 ≡ place = omega arith in
          let source : (4096 * from + place) / 4096 ≡ from = omega arith in
          let left_of : (4096 * from + place) % 4096 ≡ place = omega arith in
          rw (
            number,
            rest,
            source,
            left_of,
            at_first table to from (Lent s from) (Borrowed s to) apart in_to in_from,
            kept_there,
          ) refl;
      beside = λ a other. elim (cases_eq (a / 4096) from) [
        | inl here ↦
            rw (
              here,
              at_second table to from (Lent s from) (Borrowed s to) apart in_to in_from,
              kept_there,
            ) refl
        | inr third ↦
            rw
            (at_other table to from (Lent s from) (Borrowed s to) apart in_to in_from (a / 4096)
            other
            third) refl
      ];
      room = λ a had.
          room_both table to from (Lent s from) (Borrowed s to) apart in_to in_from refl refl
          (a / 4096) had;
    }
