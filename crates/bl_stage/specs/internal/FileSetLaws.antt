-- That a write beside the files' frames changes none of the files. A law of a trait is proved here.
use Rattle.std.specs.Prelude.{◌≡◌, ℕ, ◌/◌, ◌<◌, List, [], length, map, slice_index}
use Rattle.std.proofs.Common.{arith, sym, ◌∙◌}
use Rattle.std.specs.List.{range_with_len}
use Rattle.std.proofs.lemmas.List.{ext_get_or}
use Rattle.std.proofs.lemmas.List.FromFn.{length-map-range_with_len, get_or-map-range_with_len}
use Rattle.bl_mem.specs.FileSet.{Agree}
use Rattle.bl_stage.specs.Staged.{Staging, staged_file, frames_of_file, staged_texts, place_of}
use Rattle.bl_stage.specs.Staged.{IsStagedOn}

-- functions that agree below n have the same first n values
pub same_firsts : {X : Type 0} (d : X) (f g : ℕ → X) (n : ℕ) → ((a : ℕ) → a < n → f a ≡ g a)
    → map f (range_with_len 0 n) ≡ map g (range_with_len 0 n)
same_firsts d f g n same =
    ext_get_or d _ _ (length-map-range_with_len f 0 n ∙ sym (length-map-range_with_len g 0 n))
    (λ a h.
    let below : a < n = let e = length-map-range_with_len f 0 n in omega arith in
    get_or-map-range_with_len f 0 n a a d below (omega arith) ∙ same a below
    ∙ sym (get_or-map-range_with_len g 0 n a a d below (omega arith)))

pub same_texts : (stage : Staging) (old new : List ℕ) → Agree (λ a. IsStagedOn stage a) old new
    → staged_texts new stage ≡ staged_texts old stage
same_texts stage old new agree =
    let d : List ℕ = [] in
    same_firsts d (λ file. staged_file new stage file) (λ file. staged_file old stage file)
    (length stage.sizes) (λ file h.
    let table = frames_of_file stage file in
    same_firsts 0 (λ i. slice_index new (place_of table i))
    (λ i. slice_index old (place_of table i)) (slice_index stage.sizes file) (λ i hi.
    agree (place_of table i) (record {
      file = file;
      index = i / 4096;
      of_stage = h;
      of_file = omega arith;
      low = omega arith;
      high = omega arith;
    })))
