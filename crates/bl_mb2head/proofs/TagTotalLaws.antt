-- Each place has tags or the first fault of one.
use Rattle.std.proofs.Common.{◌≡◌, ◌≤◌, ◌+◌, ◌⊎◌, inl, inr, ℕ, zero, suc, Bool, true, false, Option}
use Rattle.std.proofs.Common.{Some, None, List, [], ◌∷◌, nat_eq, refl, arith}
use Rattle.std.proofs.lemmas.Bool.{cases_Bool}
use Rattle.std.proofs.lemmas.Bool.Decides.{nat_tests}
use Rattle.bl_mem.specs.LittleEndian.{u16_at, u32_at}
use Rattle.bl_mb2head.specs.declared.fault.HeadFault.{HeadFault}
use Rattle.bl_mb2head.specs.declared.tag.Tag.{Tag}
use Rattle.bl_mb2head.specs.Tags.{tag_at, next_tag_place, is_well_formed, tag_fault_at, AreAllTags}
use Rattle.bl_mb2head.specs.Tags.{IsFirstTagFault}

pub some_or_none : (fault : Option HeadFault)
    → ((f : HeadFault) × (fault ≡ Some f)) ⊎ (fault ≡ None)
some_or_none None = inr refl
some_or_none (Some f) = inl (f, refl)

-- the first 8 bytes of a sound tag lie before the header's end, and it has no fewer
record HasRoom (bytes : List ℕ) (end at : ℕ) : Type 0 where
  before : at + 8 ≤ end
  size : 8 ≤ u32_at bytes (at + 4)

well_formed_room : (bytes : List ℕ) (end at : ℕ) → is_well_formed bytes end at ≡ true
    → HasRoom bytes end at
unfolding is_well_formed
well_formed_room bytes end at well =
    record { before = grind (arith, nat_tests); size = grind (arith, nat_tests) }

sound_room : (console : Bool) (bytes : List ℕ) (end at : ℕ) → tag_fault_at console bytes end at ≡ None → HasRoom bytes end at
unfolding tag_fault_at
sound_room console bytes end at sound = well_formed_room bytes end at (grind (arith, nat_tests))

-- the tags from a place on, or the first fault among them
abbrev pub Tagged : Bool → List ℕ → ℕ → ℕ → Type 0
Tagged console bytes end at =
    ((ts : List Tag) × AreAllTags console bytes end at ts)
    ⊎ ((fault : HeadFault) × IsFirstTagFault console bytes end at fault)

one_more : (console : Bool) (bytes : List ℕ) (end at : ℕ) → tag_fault_at console bytes end at ≡ None
    → nat_eq (u16_at bytes at) 0 ≡ false → Tagged console bytes end (next_tag_place (tag_at bytes at))
    → Tagged console bytes end at
one_more console bytes end at sound more (inl (ts, all)) =
    inl (
      tag_at bytes at ∷ ts,
      record {
        next = all.next;
        tags = (refl, sound, more, all.tags);
        sound = all.sound;
        ends = all.ends;
      },
    )
one_more console bytes end at sound more (inr (fault, first)) =
    inr (
      fault,
      record {
        before = tag_at bytes at ∷ first.before;
        next = first.next;
        tags = (refl, sound, more, first.tags);
        faulty = first.faulty;
      },
    )

tagged_at : (console : Bool) (bytes : List ℕ) (end at : ℕ)
    → (HasRoom bytes end at → Tagged console bytes end (next_tag_place (tag_at bytes at))) → Tagged console bytes end at
tagged_at console bytes end at rest =
    elim (some_or_none (tag_fault_at console bytes end at)) [
      | inl (fault, faulty) ↦
          inr (fault, record { before = []; next = at; tags = refl; faulty = faulty })
      | inr sound ↦ elim (cases_Bool (nat_eq (u16_at bytes at) 0)) [
        | inl last ↦
            inl (
              [],
              record {
                next = at;
                tags = refl;
                sound = sound;
                ends = grind (arith, nat_tests);
              },
            )
        | inr more ↦ one_more console bytes end at sound more (rest (sound_room console bytes end at sound))
      ]
    ]

-- each tag leaves fewer bytes before the header's end
tagged_by : (n : ℕ) (console : Bool) (bytes : List ℕ) (end at : ℕ) → end ≤ at + n → Tagged console bytes end at
tagged_by zero console bytes end at near =
    tagged_at console bytes end at (λ room. let before = room.before in absurd (omega arith))
tagged_by (suc n) console bytes end at near =
    tagged_at console bytes end at
    (λ room.
    tagged_by n console bytes end (next_tag_place (tag_at bytes at)) (omega (arith, room.before, room.size)))

pub tags_or_fault : (console : Bool) (bytes : List ℕ) (end at : ℕ)
    → ((ts : List Tag) × AreAllTags console bytes end at ts)
    ⊎ ((fault : HeadFault) × IsFirstTagFault console bytes end at fault)
tags_or_fault console bytes end at = tagged_by end console bytes end at (omega arith)
