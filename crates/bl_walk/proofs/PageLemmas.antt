-- Page tables that keep each page of 2 MiB keep each address.
use Rattle.std.proofs.Common.{◌≡◌, ◌∙◌, ◌<◌, ◌+◌, ◌*◌, ◌/◌, ◌%◌, ◌^◌, ℕ, true, false, List, length}
use Rattle.std.proofs.Common.{Option, None, Some, cond, nat_lt, refl, ap, subst, arith}
use Rattle.std.specs.Prelude.{◌&&◌, ◌==◌}
use Rattle.std.proofs.lemmas.Bool.Decides.{nat_tests}
use Rattle.bl_params.specs.Translation.{index_at, table_entry_at, frame_in_word, in_page}
use Rattle.bl_params.specs.Translation.{next_frame}
use Rattle.bl_params.specs.Translation.{walk_if, page_walk, translation}
use Rattle.bl_walk.specs.State.{IsIdentityMapping}

-- an address in the page that another one begins
page_same : (a b word : ℕ) → b + a % 0x200000 ≡ a → b % 0x200000 ≡ 0 → in_page b word ≡ Some b
    → in_page a word ≡ Some a
unfolding in_page
page_same a b word within begins page =
    elim (word % 0x200000 == 0x83) as (λ t.
    cond t (Some (word / 0x200000 * 0x200000 + b % 0x200000)) None ≡ Some b
    → cond t (Some (word / 0x200000 * 0x200000 + a % 0x200000)) None ≡ Some a) [
      | true ↦ λ is. (
          let same : word / 0x200000 * 0x200000 + b % 0x200000 ≡ b = cc in
          ap Some (omega (arith, same, within, begins)))
      | false ↦ λ is. absurd (cc)
    ] page

-- a walk that ends goes on at each frame, and ends so wherever it then ends
on_some : (found : Option ℕ) (walk other : ℕ → Option ℕ) (a b : ℕ)
    → ((frame : ℕ) → walk frame ≡ Some b → other frame ≡ Some a)
    → walk_if found walk ≡ Some b → walk_if found other ≡ Some a
on_some None walk other a b each is = absurd (cc)
on_some (Some frame) walk other a b each is = each frame is

walked_same : (tables : List ℕ) (base a b : ℕ) → index_at 39 b ≡ index_at 39 a
    → index_at 30 b ≡ index_at 30 a → index_at 21 b ≡ index_at 21 a
    → b + a % 0x200000 ≡ a → b % 0x200000 ≡ 0 → page_walk tables base b ≡ Some b
    → page_walk tables base a ≡ Some a
unfolding page_walk
walked_same tables base a b first second third within begins is =
    let page : ℕ → ℕ → ℕ → Option ℕ =
    λ x i directory. in_page x (table_entry_at tables directory i) in
    let after : ℕ → ℕ → ℕ → ℕ → Option ℕ =
    λ x j i pointers. walk_if (next_frame tables base x 30 pointers) (page x i) in
    subst
    (λ (i : ℕ). walk_if (frame_in_word base (table_entry_at tables 0 i))
    (after a (index_at 30 a) (index_at 21 a))
    ≡ Some a) first
    (on_some (next_frame tables base b 39 0) (after b (index_at 30 b) (index_at 21 b))
    (after a (index_at 30 a) (index_at 21 a)) a b
    (λ pointers goes.
    subst
    (λ (i : ℕ). walk_if (frame_in_word base (table_entry_at tables pointers i)) (page a (index_at 21 a))
    ≡ Some a) second
    (on_some (next_frame tables base b 30 pointers) (page b (index_at 21 b))
    (page a (index_at 21 a)) a b
    (λ directory ends.
    subst (λ (i : ℕ). in_page a (table_entry_at tables directory i) ≡ Some a) third
    (page_same a b (table_entry_at tables directory (index_at 21 b)) within begins ends))
    goes))
    is)

-- where something is translated there are tables, and they are walked
walked_there : (tables : List ℕ) (base b : ℕ) (n : ℕ) → translation tables base b ≡ Some n
    → (length tables ≡ 0x6000) × (page_walk tables base b ≡ Some n)
unfolding translation
walked_there tables base b n is =
    elim (length tables == 0x6000) as (λ t. (length tables == 0x6000) ≡ t
    → cond (t && nat_lt b (2 ^ 48)) (page_walk tables base b) None ≡ Some n
    → (length tables ≡ 0x6000) × (page_walk tables base b ≡ Some n)) [
      | true ↦ λ e. (
          let long : length tables ≡ 0x6000 = grind (arith, nat_tests) in
          elim (nat_lt b (2 ^ 48)) as (λ t. cond t (page_walk tables base b) None ≡ Some n
          → (length tables ≡ 0x6000) × (page_walk tables base b ≡ Some n)) [
            | true ↦ λ there. (long, there)
            | false ↦ λ none. absurd (cc)
          ])
      | false ↦ λ e none. absurd (cc)
    ] refl is

there : (tables : List ℕ) (base a : ℕ) → length tables ≡ 0x6000 → a < 2 ^ 48
    → translation tables base a ≡ page_walk tables base a
unfolding translation
there tables base a long small = grind (arith, nat_tests)

pub pages_keep : (tables : List ℕ) (base : ℕ)
    → ((page : ℕ) → page < 2048
    → translation tables base (page * 0x200000) ≡ Some (page * 0x200000))
    → IsIdentityMapping base tables
pages_keep tables base each a small =
    let page = a / 0x200000 in
    let b = page * 0x200000 in
    let begins = walked_there tables base b b (each page (omega arith)) in
    there tables base a begins.0 (omega arith)
    ∙ walked_same tables base a b (omega arith) (omega arith) (omega arith) (omega arith)
    (omega arith) begins.1
