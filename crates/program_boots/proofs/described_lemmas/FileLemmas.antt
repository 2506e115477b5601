-- What is found for names, one after the other.
use Rattle.std.proofs.Common.{◌≡◌, ◌∙◌, ◌+◌, ◌<◌, ℕ, List, [], ◌∷◌, ◌++◌, All, Bor, get_or, take}
use Rattle.std.proofs.Common.{drop, length, map, refl, sym, ap, subst, arith, append_assoc}
use Rattle.std.specs.Prelude.{is_none}
use Rattle.std.proofs.lemmas.List.{get_or-map, map-append, length-map, take_more, take-append-drop}
use Rattle.std.proofs.lemmas.List.Elements.{filter-append}
use Rattle.bl_stage.specs.Files.{File}
use Rattle.program_desc.specs.Described.{InlineFile, file_named}
use Rattle.program_boots.specs.described.FoundFiles.{IsFound, AreFound, AsksPrefix, names_to_ask}

-- ---- found

-- one more is found after those before
pub one_more_found : {F : Type 0} (answers : F → List ℕ → File → Type 0) (faults : F → ℕ)
    (inline : List InlineFile)
    (names : List (List ℕ)) (name : List ℕ) (found : List File) (answer : File)
    (before between after : F)
    → AreFound answers faults inline names before between found
    → IsFound answers faults inline name between after answer
    → AreFound answers faults inline (names ++ name ∷ []) before after (found ++ answer ∷ [])
one_more_found answers faults inline [] name [] answer before between after is found =
    (after, subst (λ x. IsFound answers faults inline name x after answer) is found, refl)
one_more_found answers faults inline [] name (a ∷ found) answer before between after is one =
    absurd is
one_more_found answers faults inline (n ∷ names) name [] answer before between after is one =
    absurd is
one_more_found answers faults inline (n ∷ names) name (a ∷ found) answer before between after is
    one = (
      is.0,
      is.1,
      one_more_found answers faults inline names name found answer is.0 between after is.2 one,
    )

-- there is an answer for each name
pub answers_for_all : {F : Type 0} (answers : F → List ℕ → File → Type 0) (faults : F → ℕ)
    (inline : List InlineFile)
    (names : List (List ℕ)) (found : List File) (before after : F)
    → AreFound answers faults inline names before after found → length found ≡ length names
answers_for_all answers faults inline [] [] before after is = refl
answers_for_all answers faults inline [] (a ∷ found) before after is = absurd is
answers_for_all answers faults inline (n ∷ names) [] before after is = absurd is
answers_for_all answers faults inline (n ∷ names) (a ∷ found) before after is =
    let rest =
    answers_for_all answers faults inline names found is.0 after is.2 in omega (arith, rest)

-- ---- names

-- what stands in the place of a name where there is none
abbrev pub no_name : Bor (List ℕ)
no_name = record { ref_ptr = (0, 0); now = [] }

-- what holds for each name holds for the one at a place
pub stands_at : (P : List ℕ → Type 0) (names : List (Bor (List ℕ))) (i : ℕ)
    → All P (map (λ n. n.now) names) → i < length names → P (get_or names i no_name).now
stands_at P names i all within =
    let inside : i < length (map (λ (n : Bor (List ℕ)). n.now) names) = rw length-map within in
    subst P (get_or-map (λ (n : Bor (List ℕ)). n.now) names i no_name [] within) (all i [] inside)

-- one name more
pub names_grow : (names : List (Bor (List ℕ))) (i : ℕ) → i < length names
    → map (λ n. n.now) (take (i + 1) names)
    ≡ map (λ n. n.now) (take i names) ++ (get_or names i no_name).now ∷ []
names_grow names i within = rw (take_more names i no_name within, map-append) refl

-- ---- asked

-- one name more is asked for, if no file of the description has it
pub one_more_asked : (inline : List InlineFile) (names : List (Bor (List ℕ))) (i : ℕ)
    (before between after : List (List ℕ)) → i < length names
    → between ≡ before ++ names_to_ask inline (map (λ n. n.now) (take i names))
    → after ≡ between ++ names_to_ask inline ((get_or names i no_name).now ∷ [])
    → after ≡ before ++ names_to_ask inline (map (λ n. n.now) (take (i + 1) names))
one_more_asked inline names i before between after within so_far one =
    let first : List (List ℕ) = map (λ (n : Bor (List ℕ)). n.now) (take i names) in
    let next : List (List ℕ) = (get_or names i no_name).now ∷ [] in
    one ∙ ap (λ (asked : List (List ℕ)). asked ++ names_to_ask inline next) so_far
    ∙ append_assoc before (names_to_ask inline first) (names_to_ask inline next)
    ∙ ap (λ (asked : List (List ℕ)). before ++ asked)
    (sym (filter-append (λ (name : List ℕ). is_none (file_named name inline)) first next))
    ∙ ap (λ (all : List (List ℕ)). before ++ names_to_ask inline all)
    (sym (names_grow names i within))

-- of names the first ones were asked for
pub asks_first : (inline : List InlineFile) (names : List (Bor (List ℕ))) (i : ℕ)
    (before after : List (List ℕ))
    → after ≡ before ++ names_to_ask inline (map (λ n. n.now) (take i names))
    → AsksPrefix (names_to_ask inline (map (λ n. n.now) names)) before after
asks_first inline names i before after is =
    let text : Bor (List ℕ) → List ℕ = λ n. n.now in
    let first : List (List ℕ) = map text (take i names) in
    let left : List (List ℕ) = map text (drop i names) in
    record {
      first = names_to_ask inline first;
      left = names_to_ask inline left;
      names_are =
          ap (λ (all : List (Bor (List ℕ))). names_to_ask inline (map text all))
          (sym (take-append-drop i names))
          ∙ ap (names_to_ask inline) (map-append text (take i names) (drop i names))
          ∙ filter-append (λ (name : List ℕ). is_none (file_named name inline)) first left;
      after_is = is;
    }
