-- Each file has a header or a first fault.
use Rattle.std.proofs.Common.{◌≡◌, ◌+◌, ◌%◌, ◌^◌, ◌⊎◌, inl, inr, ℕ, Bool, List, length}
use Rattle.std.proofs.Common.{refl, arith}
use Rattle.std.proofs.lemmas.Bool.{cases_lt, cases_Bool}
use Rattle.bl_mem.specs.Least.{IsLeast}
use Rattle.bl_mem.specs.LittleEndian.{u32_at}
use Rattle.bl_mem.proofs.LeastLaws.{least_below}
use Rattle.bl_mb2head.specs.declared.fault.HeadFault.{HeadFault}
use Rattle.bl_mb2head.specs.declared.fault.HeadFault.TheVariants.{NoHeader, HeaderCut}
use Rattle.bl_mb2head.specs.declared.fault.HeadFault.TheVariants.{BadArchitecture}
use Rattle.bl_mb2head.specs.declared.header.Header.{Header}
use Rattle.bl_mb2head.specs.declared.tag.Tag.{Tag}
use Rattle.bl_mb2head.specs.Address.{address_fault, address_segment}
use Rattle.bl_mb2head.specs.HeaderPlace.{IsHeaderAt, sum_at}
use Rattle.bl_mb2head.specs.Tags.{last_of}
use Rattle.bl_mb2head.specs.Header.{tags_end, is_cut, architecture_at, entry_address_of}
use Rattle.bl_mb2head.specs.Header.{relocation_of, has_console, AreTagsOf}
use Rattle.bl_mb2head.specs.Header.{BeginsAt, IsHeader, HasFirstHeadFault}
use Rattle.bl_mb2head.proofs.FaultLemmas.{tag_fault_first, address_fault_first}
use Rattle.bl_mb2head.proofs.TagTotalLaws.{some_or_none, tags_or_fault}

eq_or_not : (m n : ℕ) → (m ≡ n) ⊎ (m ≡ n → ⊥)
eq_or_not m n =
    elim (cases_lt m n) [
      | inl below ↦ inr (λ same. omega arith)
      | inr above ↦
          elim (cases_lt n m)
          [ inl more ↦ inr (λ same. omega arith) | inr less ↦ inl (omega arith) ]
    ]

-- a header stands at a place or does not
stands_or_not : (bytes : List ℕ) (h : ℕ) → IsHeaderAt bytes h ⊎ (IsHeaderAt bytes h → ⊥)
stands_or_not bytes h =
    elim (eq_or_not (h % 8) 0) [
      | inr other ↦ inr (λ here. other here.aligned)
      | inl aligned ↦ elim (cases_lt (length bytes) (h + 16)) [
        | inl short ↦ inr (λ here. omega (arith, here.in_file))
        | inr in_file ↦ elim (cases_lt 32768 (h + 16)) [
          | inl far ↦ inr (λ here. omega (arith, here.in_front))
          | inr in_front ↦ elim (eq_or_not (u32_at bytes h) 0xE85250D6) [
            | inr other ↦ inr (λ here. other here.magic)
            | inl magic ↦ elim (eq_or_not (sum_at bytes h % 2 ^ 32) 0) [
              | inr other ↦ inr (λ here. other here.sums)
              | inl sums ↦
                  inl
                  record {
                    aligned = aligned;
                    in_file = in_file;
                    in_front = in_front;
                    magic = magic;
                    sums = sums;
                  }
            ]
          ]
        ]
      ]
    ]

-- the file has a header or a first fault
abbrev IsJudged : Bool → List ℕ → Type 0
IsJudged screen bytes =
    ((header : Header) × IsHeader screen bytes header)
    ⊎ ((fault : HeadFault) × HasFirstHeadFault screen bytes fault)

judged_tags : (screen : Bool) (bytes : List ℕ) (h : ℕ) → BeginsAt bytes h → (ts : List Tag)
    → AreTagsOf screen bytes h ts → IsJudged screen bytes
judged_tags screen bytes h begins ts all =
    elim (some_or_none (address_fault bytes h (last_of 2 ts))) [
      | inl (fault, faulty) ↦
          inr (
            fault,
            address_fault_first screen bytes h fault begins
                record { tags = ts; all = all; faulty = faulty },
          )
      | inr sound ↦ inl (
        record {
          place = h;
          segment = address_segment bytes h (last_of 2 ts);
          entry = entry_address_of bytes (last_of 3 ts);
          relocation = relocation_of bytes (last_of 10 ts);
        },
        record {
          begins = begins;
          tags = ts;
          all = all;
          sound = sound;
          segment = refl;
          entry = refl;
          relocation = refl;
        },
      )
    ]

judged_begun : (screen : Bool) (bytes : List ℕ) (h : ℕ) → BeginsAt bytes h → IsJudged screen bytes
judged_begun screen bytes h begins =
    elim (tags_or_fault (has_console screen bytes h) bytes (tags_end bytes h) (h + 16)) [
      | inl (ts, all) ↦ judged_tags screen bytes h begins ts all
      | inr (fault, first) ↦ inr (fault, tag_fault_first screen bytes h fault begins first)
    ]

judged_at : (screen : Bool) (bytes : List ℕ) (h : ℕ) → IsLeast (IsHeaderAt bytes) h → IsJudged screen bytes
judged_at screen bytes h place =
    elim (cases_Bool (is_cut bytes h)) [
      | inl cut ↦ inr (HeaderCut, (h, place, cut))
      | inr whole ↦ elim (eq_or_not (architecture_at bytes h) 0) [
        | inl architecture ↦
            judged_begun screen bytes h
            record { place = place; whole = whole; architecture = architecture }
        | inr other ↦ inr (BadArchitecture, (h, place, whole, other))
      ]
    ]

pub header_or_fault : (screen : Bool) (bytes : List ℕ)
    → ((header : Header) × IsHeader screen bytes header)
    ⊎ ((fault : HeadFault) × HasFirstHeadFault screen bytes fault)
header_or_fault screen bytes =
    elim (least_below (IsHeaderAt bytes) (stands_or_not bytes) (length bytes)) [
      | inl none ↦ inr (NoHeader, (λ h here. none h (omega (arith, here.in_file)) here))
      | inr some ↦ judged_at screen bytes some.0 some.2
    ]
