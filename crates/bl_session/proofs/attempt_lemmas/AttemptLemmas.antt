-- An attempt that waits, or whose files are whole.
use Rattle.std.proofs.Common.{◌≡◌, ◌↔◌, ℕ, Bool, true, false, List, map, Option, None}
use Rattle.std.proofs.Common.{MatchOption, refl, sym, ap, subst, ◌∙◌, length, slice_index_or}
use Rattle.std.proofs.Common.{unwrap_or}
use Rattle.std.proofs.lemmas.List.{length-map}
use Rattle.std.specs.Bool.{IsTrue}
use Rattle.bl_map.specs.MachineFacts.{MachineFacts}
use Rattle.bl_load.specs.declared.entry.Entry.{Entry}
use Rattle.bl_load.specs.declared.entry.Entry.TheVariants.{Multiboot2, Linux}
use Rattle.bl_load.specs.declared.refusal.Refusal.{Refusal}
use Rattle.bl_load.specs.EntryValue.{EntryValue, value_of}
use Rattle.bl_stage.specs.Staged.{Staging, AreStaged, AllCame, staged_texts}
use Rattle.bl_stage.specs.PieceStates.{PieceState, piece_states, came_bytes}
use Rattle.bl_session.specs.attempt.AttemptResult.{AttemptResult, HasWholeFilesResult, size_refusal}
use Rattle.bl_session.specs.attempt.AttemptResult.{known_lengths}
use Rattle.bl_session.specs.menu.Menu.{EntryFacts, facts_of, value_with}
use Rattle.bl_session.specs.attempt.AwaitedPieces.{are_whole, waiting_files}
use Rattle.bl_session.specs.internal.session.KeptPhases.{IsFreshStage}
use Rattle.bl_session.specs.internal.attempt.AttemptStates.{IsAttempt, IsAttemptBegun, IsRefusedFor}
use Rattle.bl_session.specs.declared.attempt.Attempt.{Attempt}
use Rattle.bl_session.proofs.attempt_lemmas.WholeLemmas.{first_awaited, whole_came, whole_texts}

-- its value once its files hold these texts
pub value_is : {A : Type 0} (entry : Entry A) (texts : List (List ℕ))
    → value_with (facts_of entry) texts ≡ value_of texts entry
value_is (Multiboot2 kernel line modules rsdp_old rsdp_new) texts = refl
value_is (Linux kernel line initrd wide) texts = refl

by_whole : (b : Bool) (P : Type 0) → (b ≡ true → P) → ¬ P → b ≡ false
by_whole true P holds none = absurd (none (holds refl))
by_whole false P holds none = refl

-- a stage that lacks a piece is not whole
pub not_whole : (bytes : List ℕ) (stage : Staging) (complete : Bool) → AreStaged stage
    → (IsTrue complete ↔ AllCame stage) → complete ≡ false
    → are_whole (piece_states bytes stage) ≡ false
not_whole bytes stage complete kept exact is =
    by_whole (are_whole (piece_states bytes stage)) (AllCame stage) (whole_came bytes stage kept)
    (λ came. absurd (let e : complete ≡ true = exact.1 came in cc))

-- what is known of the texts is known of the pieces
pub ends_by_piece_states : {A : Type 0} (facts : MachineFacts) (entry : Entry A) (bytes : List ℕ)
    (stage : Staging) (end : AttemptResult) → AreStaged stage → AllCame stage
    → HasWholeFilesResult facts (value_of (staged_texts bytes stage) entry) end
    → HasWholeFilesResult facts (value_with (facts_of entry) (map came_bytes (piece_states bytes stage))) end
ends_by_piece_states facts entry bytes stage end kept came ends =
    let value : value_of (staged_texts bytes stage) entry
    ≡ value_with (facts_of entry) (map came_bytes (piece_states bytes stage)) =
    sym
    (ap (value_with (facts_of entry)) (whole_texts bytes stage kept came)
    ∙ value_is entry (staged_texts bytes stage)) in
    subst (λ (v : EntryValue). HasWholeFilesResult facts v end) value ends

-- a stage that was begun has a file for each of its entry's
pub staged_lengths : (sizes : List (Option ℕ)) (files : List ℕ) (facts : MachineFacts)
    (stage : Staging)
    → IsFreshStage facts (map (λ file. slice_index_or sizes file None) files) stage
    → length stage.sizes ≡ length files
staged_lengths sizes files facts stage fresh =
    ap (λ (s : Staging). length s.sizes) fresh.1
    ∙ length-map (map (λ file. slice_index_or sizes file None) files) (λ size. unwrap_or size 0)
    ∙ length-map files (λ file. slice_index_or sizes file None)

-- an attempt whose stage was begun
pub begun_staged : {A : Type 0} (facts : MachineFacts) (entry : EntryFacts)
    (sizes : List (Option ℕ)) (old new : List ℕ) (stage : Staging) (attempt : Attempt A)
    → size_refusal facts sizes ≡ None → IsFreshStage facts sizes stage
    → IsAttempt facts entry (piece_states old stage) new attempt
    → IsAttemptBegun facts entry sizes new attempt
begun_staged facts entry sizes old new stage attempt none begun is =
    let same : piece_states old stage ≡ waiting_files (known_lengths sizes) =
    ap (piece_states old) begun.1 ∙ first_awaited old facts.pool (known_lengths sizes) begun.0 in
    subst
    (λ (o : Option Refusal).
    MatchOption o (IsAttempt facts entry (waiting_files (known_lengths sizes)) new attempt)
    (IsRefusedFor attempt)) (sym none)
    (subst (λ (files : List (List PieceState)). IsAttempt facts entry files new attempt) same is)
