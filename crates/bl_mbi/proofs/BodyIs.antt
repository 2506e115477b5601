-- A body that is read is spelled so, and what it tells is in the ranges of its fields.
use Rattle.std.proofs.Common.{◌≡◌, ◌≢◌, ◌<◌, ◌≤◌, ◌-◌, ◌^◌, ℕ, suc, false, Some, List, [], ◌∷◌}
use Rattle.std.proofs.Common.{◌++◌, length, get_or, take, drop, arith, sym, ap, ap₂, ◌∙◌}
use Rattle.std.proofs.Common.{length-drop}
use Rattle.std.specs.Prelude.{nat_eq, nat_lt, not}
use Rattle.std.specs.List.{list_any}
use Rattle.std.proofs.lemmas.Bool.{not-false, or_parts}
use Rattle.std.proofs.lemmas.Bool.Decides.{nat_tests}
use Rattle.std.proofs.lemmas.List.{drop-drop, drop_all, take-append-drop, append-nil}
use Rattle.std.proofs.lemmas.List.Elements.{All-nil, All-cons, All-head, All-tail}
use Rattle.std.proofs.Math.Seq.{drop-cons}
use Rattle.bl_mbi.specs.InfoToWriteFacts.{ModuleInfo, IsModule, IsText, AreBytes}
use Rattle.bl_mem.specs.LittleEndian.{u32_bytes}
use Rattle.bl_mbi.specs.Tags.{text_body, module_body, memory_body}
use Rattle.bl_mbi.specs.ReadingSteps.{first_u32}
use Rattle.bl_mbi.specs.Bodies.{text_of_body, module_of, memory_of, load_base_of}
use Rattle.bl_mbi.proofs.Inverse.{passed_some, mapped, same_some}
use Rattle.bl_mbi.proofs.WordLaws.{word_then, word_small}
use Rattle.bl_mbi.proofs.TagIs.{drop_small, take_small}

is_text : (text : List ℕ) → AreBytes text → list_any (λ c. nat_eq c 0) text ≡ false → IsText text
is_text [] small none = All-nil (λ c. (c ≢ 0) × (c < 256))
is_text (x ∷ xs) small none =
    let both = or_parts (nat_eq x 0) (list_any (λ c. nat_eq c 0) xs) none in
    let here : x ≢ 0 = grind (arith, nat_tests, both.0) in
    All-cons (λ c. (c ≢ 0) × (c < 256)) x xs (here, All-head (λ b. b < 256) x xs small)
    (is_text xs (All-tail (λ b. b < 256) x xs small) both.1)

pub text_is : (body text : List ℕ) → AreBytes body → text_of_body body ≡ Some text
    → (body ≡ text_body text) × IsText text
unfolding text_of_body
text_is body text small h =
    let len = length body - 1 in
    let s1 = passed_some (nat_eq (length body) 0) _ text h in
    let s2 = passed_some (not (nat_eq (get_or body len 0) 0)) _ text s1.1 in
    let s3 = passed_some (list_any (λ c. nat_eq c 0) (take len body)) _ text s2.1 in
    let front : take len body ≡ text = same_some _ text s3.1 in
    let not_empty : 1 ≤ length body = grind (arith, nat_tests, s1.0) in
    let last : get_or body len 0 ≡ 0 = grind (arith, nat_tests, not-false _ s2.0) in
    let nothing : drop (suc len) body ≡ [] = drop_all (suc len) body (omega arith) in
    let end : drop len body ≡ 0 ∷ [] =
    drop-cons body len 0 (omega arith) ∙ ap₂ (λ (x : ℕ) (xs : List ℕ). x ∷ xs) last nothing in
    let split : body ≡ take len body ++ 0 ∷ [] =
    sym (take-append-drop len body) ∙ ap (λ (xs : List ℕ). take len body ++ xs) end in
    let is : (body ≡ text_body (take len body)) × IsText (take len body) =
    (split, is_text (take len body) (take_small len body small) s3.0) in
    rw (← front) is

pub module_is : (body : List ℕ) (m : ModuleInfo) → AreBytes body → module_of body ≡ Some m
    → (body ≡ module_body m) × IsModule m
unfolding module_of
module_is body m small h =
    let s1 = passed_some (nat_lt (length body) 8) _ m h in
    let s2 = passed_some (nat_lt (first_u32 (drop 4 body)) (first_u32 body)) _ m s1.1 in
    let s3 = mapped _ (text_of_body (drop 8 body)) m s2.1 in
    let long_enough : 8 ≤ length body = grind (arith, nat_tests, s1.0) in
    let forward : first_u32 body ≤ first_u32 (drop 4 body) = grind (arith, nat_tests, s2.0) in
    let line = text_is (drop 8 body) s3.0 (drop_small 8 body small) s3.1 in
    let front : u32_bytes (first_u32 body) ++ drop 4 body
    ≡ body = word_then body small (omega arith) in
    let second : u32_bytes (first_u32 (drop 4 body)) ++ drop 4 (drop 4 body) ≡ drop 4 body =
    word_then (drop 4 body) (drop_small 4 body small) (omega (arith, length-drop 4 body)) in
    let read : ModuleInfo =
    record { mod_start = first_u32 body; mod_end = first_u32 (drop 4 body); line = s3.0 } in
    let spelled : body ≡ module_body read =
    sym front ∙ ap (λ (xs : List ℕ). u32_bytes (first_u32 body) ++ xs) (sym second)
    ∙ ap (λ (xs : List ℕ). u32_bytes (first_u32 body)
    ++ (u32_bytes (first_u32 (drop 4 body)) ++ xs))
    (drop-drop 4 4 body ∙ line.0) in
    let ranges : IsModule read =
    record {
      forward = forward;
      small = word_small (drop 4 body) (drop_small 4 body small);
      line = line.1;
    } in
    let is : (body ≡ module_body read) × IsModule read = (spelled, ranges) in
    rw (← s3.2) is

pub memory_is : (body : List ℕ) (sizes : ℕ × ℕ) → AreBytes body → memory_of body ≡ Some sizes
    → (body ≡ memory_body sizes.0 sizes.1) × (sizes.0 ≤ 640) × (sizes.1 < 2 ^ 32)
unfolding memory_of
memory_is body sizes small h =
    let s1 = passed_some (not (nat_eq (length body) 8)) _ sizes h in
    let s2 = passed_some (nat_lt 640 (first_u32 body)) _ sizes s1.1 in
    let read = same_some _ sizes s2.1 in
    let len : length body ≡ 8 = grind (arith, nat_tests, not-false _ s1.0) in
    let low : first_u32 body ≤ 640 = grind (arith, nat_tests, s2.0) in
    let front : u32_bytes (first_u32 body) ++ drop 4 body
    ≡ body = word_then body small (omega arith) in
    let second : u32_bytes (first_u32 (drop 4 body)) ++ drop 4 (drop 4 body) ≡ drop 4 body =
    word_then (drop 4 body) (drop_small 4 body small) (omega (arith, length-drop 4 body)) in
    let nothing : drop 4 (drop 4 body) ≡ [] = drop-drop 4 4 body ∙ drop_all 8 body (omega arith) in
    let spelled : body ≡ memory_body (first_u32 body) (first_u32 (drop 4 body)) =
    sym front
    ∙ ap (λ (xs : List ℕ). u32_bytes (first_u32 body) ++ xs)
    (sym second ∙ ap (λ (xs : List ℕ). u32_bytes (first_u32 (drop 4 body)) ++ xs) nothing
    ∙ append-nil (u32_bytes (first_u32 (drop 4 body)))) in
    let is : (body ≡ memory_body (first_u32 body) (first_u32 (drop 4 body)))
    × (first_u32 body ≤ 640)
    × (first_u32 (drop 4 body) < 2 ^ 32) =
    (spelled, low, word_small (drop 4 body) (drop_small 4 body small)) in
    rw (← read) is

pub load_base_is : (body : List ℕ) (base : ℕ) → AreBytes body → load_base_of body ≡ Some base
    → (body ≡ u32_bytes base) × (base < 2 ^ 32)
unfolding load_base_of
load_base_is body base small h =
    let s1 = passed_some (not (nat_eq (length body) 4)) _ base h in
    let read = same_some _ base s1.1 in
    let len : length body ≡ 4 = grind (arith, nat_tests, not-false _ s1.0) in
    let nothing : drop 4 body ≡ [] = drop_all 4 body (omega arith) in
    let front : u32_bytes (first_u32 body) ++ drop 4 body
    ≡ body = word_then body small (omega arith) in
    let spelled : body ≡ u32_bytes (first_u32 body) =
    sym front ∙ ap (λ (xs : List ℕ). u32_bytes (first_u32 body) ++ xs) nothing
    ∙ append-nil (u32_bytes (first_u32 body)) in
    let is : (body ≡ u32_bytes (first_u32 body)) × (first_u32 body < 2 ^ 32) =
    (spelled, word_small body small) in
    rw (← read) is
