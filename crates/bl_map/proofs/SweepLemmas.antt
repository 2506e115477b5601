-- The normal map of the addresses below one, and its steps.
use Rattle.std.proofs.Common.{◌≡◌, ◌≢◌, ◌-◌, ◌^◌, ◌≤◌, ◌<◌, ℕ, max, List, [], ◌∷◌, ◌++◌, All, ap}
use Rattle.std.proofs.Common.{sym, ◌∙◌, arith, inl, inr}
use Rattle.std.proofs.Math.Nat.{max-zero, zero-max}
use Rattle.std.proofs.lemmas.Bool.{cases_lt}
use Rattle.std.proofs.lemmas.List.Elements.{All-nil, All-push, All-weaker}
use Rattle.std.proofs.lemmas.List.Quantifiers.{all_pairs_push}
use Rattle.bl_map.specs.declared.kind.Kind.{Kind}
use Rattle.bl_map.specs.declared.region.Region.{Region}
use Rattle.bl_map.specs.Kinds.{kind_number}
use Rattle.bl_map.specs.NormalMap.{region_end, kind_at, ComesBefore, AreRuns, IsNormalMap}
use Rattle.bl_map.specs.Faults.{HasAllowedEnd}
use Rattle.bl_map.proofs.KindLemmas.{held, not_held_before, number_in, number_in-held}
use Rattle.bl_map.proofs.KindLemmas.{number_in-not_held, kind_at-push, none_behind, number_positive}

-- the run ends at an address or before it, and can't go on there
abbrev pub EndsBefore : List Region → ℕ → Region → Type 0
EndsBefore regions at run =
    (region_end run ≤ at) × (region_end run ≡ at → kind_number run.kind ≢ kind_at regions at)

-- runs that are the normal map of the addresses below one
pub record IsMapUpto (regions runs : List Region) (at : ℕ) : Type 0 where
  pub within : at ≤ 2 ^ 52
  pub runs_are : AreRuns runs
  pub ended : All (EndsBefore regions at) runs
  pub same_kinds : (a : ℕ) → a < at → kind_at runs a ≡ kind_at regions a

-- an address where one kind ends that holds from at on
pub record IsRunEnd (regions : List Region) (at end : ℕ) : Type 0 where
  pub ahead : at < end
  pub within : end ≤ 2 ^ 52
  pub same : (a : ℕ) → at ≤ a → a < end → kind_at regions a ≡ kind_at regions at
  pub other : end < 2 ^ 52 → kind_at regions end ≢ kind_at regions at

pub upto_none : (regions : List Region) → IsMapUpto regions [] 0
upto_none regions =
    record {
      within = omega arith;
      runs_are =
          record {
            filled = All-nil (λ run. 1 ≤ run.length);
            low =
                All-nil (λ run. region_end run ≤ 2 ^ 52);
            in_order =
                λ i j d less within. absurd (omega arith);
          };
      ended = All-nil (EndsBefore regions 0);
      same_kinds = λ a below. absurd (omega arith);
    }

-- nothing is held after the runs
none_yet : (regions runs : List Region) (at a : ℕ) → All (EndsBefore regions at) runs → at ≤ a
    → kind_at runs a ≡ 0
none_yet regions runs at a ended from =
    none_behind runs at a
    (All-weaker (EndsBefore regions at) (λ r. region_end r ≤ at) (λ r h. h.0) runs ended) from

ends_later : (regions runs : List Region) (at end : ℕ) → at < end → All (EndsBefore regions at) runs
    → All (EndsBefore regions end) runs
ends_later regions runs at end ahead ended =
    All-weaker (EndsBefore regions at) (EndsBefore regions end)
    (λ r h. let below = h.0 in (omega arith, λ e. absurd (omega arith))) runs ended

pub upto_gap : (regions runs : List Region) (at end : ℕ) → IsMapUpto regions runs at
    → IsRunEnd regions at end → kind_at regions at ≡ 0 → IsMapUpto regions runs end
upto_gap regions runs at end upto run gap =
    record {
      within = run.within;
      runs_are = upto.runs_are;
      ended = ends_later regions runs at end run.ahead upto.ended;
      same_kinds = λ a below. elim (cases_lt a at) [
        | inl before ↦ upto.same_kinds a before
        | inr from ↦ none_yet regions runs at a upto.ended from ∙ sym (run.same a from below ∙ gap)
      ];
    }

abbrev pub run_of : ℕ → ℕ → Kind → Region
run_of at end kind = record { base = at; length = end - at; kind = kind }

module _ (regions runs : List Region) (at end : ℕ) (kind : Kind)
    (low : All HasAllowedEnd regions) (upto : IsMapUpto regions runs at)
    (run : IsRunEnd regions at end)
    (is : kind_number kind ≡ kind_at regions at) where
  end_is : region_end (run_of at end kind) ≡ end
  end_is = let a = run.ahead in omega arith

  runs_are_after : AreRuns (runs ++ run_of at end kind ∷ [])
  runs_are_after =
      let ahead = run.ahead in let within = run.within in
      record {
        filled =
            All-push (λ run. 1 ≤ run.length) runs (run_of at end kind) upto.runs_are.filled
            (omega arith);
        low =
            All-push (λ run. region_end run ≤ 2 ^ 52) runs (run_of at end kind) upto.runs_are.low
            (omega arith);
        in_order = all_pairs_push ComesBefore runs (run_of at end kind) upto.runs_are.in_order
            (λ k d inside. let h = upto.ended k d inside in
            (h.0, λ adjoins same. h.1 adjoins (ap kind_number same ∙ is)));
      }

  ends_there : EndsBefore regions end (run_of at end kind)
  ends_there =
      let e = end_is in (
        omega arith,
        λ _ same. elim (cases_lt end (2 ^ 52)) [
          | inl inside ↦ run.other inside (sym same ∙ is)
          | inr behind ↦
              let none = none_behind regions (2 ^ 52) end low behind in
              let p = number_positive kind in absurd (omega arith)
        ],
      )

  kinds_after : (a : ℕ) → a < end → kind_at (runs ++ run_of at end kind ∷ []) a ≡ kind_at regions a
  kinds_after a below =
      let e = end_is in
      kind_at-push runs (run_of at end kind) a ∙
      elim (cases_lt a at) [
        | inl before ↦
            ap (λ n. max (kind_at runs a) n)
            (number_in-not_held (run_of at end kind) a
            (not_held_before (run_of at end kind) a before))
            ∙ max-zero (kind_at runs a) ∙ upto.same_kinds a before
        | inr from ↦
            ap (λ n. max n (number_in (run_of at end kind) a))
            (none_yet regions runs at a upto.ended from)
            ∙ zero-max (number_in (run_of at end kind) a)
            ∙ number_in-held (run_of at end kind) a (held (run_of at end kind) a from (omega arith))
            ∙ is ∙ sym (run.same a from below)
      ]

  pub upto_run : IsMapUpto regions (runs ++ run_of at end kind ∷ []) end
  upto_run =
      record {
        within = run.within;
        runs_are = runs_are_after;
        ended =
            All-push (EndsBefore regions end) runs (run_of at end kind)
            (ends_later regions runs at end run.ahead upto.ended) ends_there;
        same_kinds = kinds_after;
      }

pub upto_all : (regions runs : List Region) (at : ℕ) → All HasAllowedEnd regions
    → IsMapUpto regions runs at
    → 2 ^ 52 ≤ at → IsNormalMap regions runs
upto_all regions runs at low upto over =
    record {
      runs_are = upto.runs_are;
      same_kinds = λ a. elim (cases_lt a at) [
        | inl before ↦ upto.same_kinds a before
        | inr from ↦
            none_yet regions runs at a upto.ended from
            ∙ sym (none_behind regions (2 ^ 52) a low (omega arith))
      ];
    }
