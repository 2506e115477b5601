-- Each run of boot parameters ends at most at 2^52.
use Rattle.std.proofs.Common.{◌≡◌, ◌<◌, ◌≤◌, ◌+◌, ◌^◌, ℕ, suc, false, List, [], ◌∷◌, length, arith}
use Rattle.std.proofs.Common.{subst, ◌∙◌, All}
use Rattle.std.proofs.lemmas.Bool.{ltb-false}
use Rattle.std.proofs.lemmas.List.Elements.{All-nil, All-cons}
use Rattle.bl_map.specs.declared.region.Region.{Region}
use Rattle.bl_map.specs.NormalMap.{region_end}
use Rattle.bl_params.specs.BootParamsForm.{breaks_at, e820_entry_count, e820_entry_offset}
use Rattle.bl_params.specs.ParamsFacts.{ParamsFacts}
use Rattle.bl_params.specs.Reading.{IsE820Entry, AreE820Entries, IsParams}
use Rattle.bl_params.proofs.FormLemmas.{entry_is}

module _ (bytes : List ℕ) (sound : (k : ℕ) → k < 4096 → breaks_at bytes k ≡ false) where
  run_ends_low : (i : ℕ) (run : Region) → i < e820_entry_count bytes → e820_entry_offset i < 4096
      → IsE820Entry bytes (e820_entry_offset i) run → region_end run ≤ 2 ^ 52
  run_ends_low i run counted within is =
      let test =
      entry_is bytes i run.base run.length counted is.base is.size
      ∙ sound (e820_entry_offset i) within in
      ltb-false (2 ^ 52) (run.base + run.length) test

  entries_end_low : (i : ℕ) (runs : List Region) → i + length runs ≤ e820_entry_count bytes
      → e820_entry_offset (i + length runs) ≤ 4096
      → AreE820Entries bytes (e820_entry_offset i) runs → All (λ run. region_end run ≤ 2 ^ 52) runs
  entries_end_low i [] counted within are = All-nil (λ (run : Region). region_end run ≤ 2 ^ 52)
  entries_end_low i (run ∷ runs) counted within are =
      let next : e820_entry_offset i + 20 ≡ e820_entry_offset (suc i) = omega arith in
      All-cons (λ (r : Region). region_end r ≤ 2 ^ 52) run runs
      (run_ends_low i run (omega arith) (omega arith) are.0)
      (entries_end_low (suc i) runs (omega arith) (omega arith)
      (subst (λ (at : ℕ). AreE820Entries bytes at runs) next are.1))

-- the number of entries is in bounds
few_entries : (bytes : List ℕ) → breaks_at bytes 0x1E8 ≡ false → e820_entry_count bytes ≤ 128
unfolding breaks_at
few_entries bytes test = ltb-false 128 (e820_entry_count bytes) test

pub runs_end_low : (bytes : List ℕ) (params : ParamsFacts) → IsParams bytes params
    → All (λ run. region_end run ≤ 2 ^ 52) params.runs
runs_end_low bytes params is =
    let few = few_entries bytes (is.sound 0x1E8 (omega arith)) in
    let count = is.count in
    entries_end_low bytes is.sound 0 params.runs (omega arith) (omega arith) is.runs
