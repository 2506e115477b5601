-- The bytes that a plan's steps write are those of its parts.
use Rattle.std.proofs.Common.{◌≡◌, ℕ, ◌+◌, ◌-◌, ◌≤◌, List, [], ◌∷◌, ◌++◌, length}
use Rattle.std.proofs.Common.{zero, suc, get_or, drop, map, All, AllPairs, arith, refl, sym, ap}
use Rattle.std.proofs.Common.{◌∙◌, replicate, append_assoc, subst, slice_range}
use Rattle.std.proofs.Common.{add-zero}
use Rattle.std.proofs.lemmas.List.{append-nil, nil_from_length, drop-drop, drop_at, take_at}
use Rattle.bl_mem.specs.declared.segment.Segment.{Segment}
use Rattle.bl_mem.specs.FileSet.{nth_file}
use Rattle.bl_mem.specs.SegmentContents.{file_part, contents_of}
use Rattle.bl_plan.specs.declared.part.Place.{Place}
use Rattle.bl_load.specs.declared.plan.Content.{Content}
use Rattle.bl_load.specs.declared.plan.Content.TheVariants.{Own, File, Block}
use Rattle.bl_load.specs.declared.plan.PlannedPart.{PlannedPart}
use Rattle.bl_load.specs.declared.plan.Plan.{Plan}
use Rattle.bl_load.specs.declared.step.Step.{Step}
use Rattle.bl_load.specs.declared.step.StepSource.{StepSource}
use Rattle.bl_load.specs.declared.step.StepSource.TheVariants as source
use Rattle.bl_load.specs.Handover.{Part, placed_part}
use Rattle.bl_load.specs.Loadable.{lengths_of, content_length, IsCopyable, SegmentsAscend}
use Rattle.bl_load.specs.Loadable.{IsInFiles, IsBacked, IsLoadable}
use Rattle.bl_load.specs.Parts.{no_segment}
use Rattle.bl_load.specs.PlanContents.{content_by, bytes_by, part_by, handover_by}
use Rattle.bl_load.specs.PlannedPlaces.{planned_place}
use Rattle.bl_load.specs.PlanSteps.{one_step, segment_steps, steps_in_block, own_of}
use Rattle.bl_load.specs.PlanSteps.{content_steps, part_steps, steps_from, own_bytes}
use Rattle.bl_load.specs.Steps.{source_bytes}
use Rattle.bl_load.proofs.BlockLemmas.{block_from, length-filed}
use Rattle.bl_load.proofs.BlockStepLemmas.{first_below, block_from_first}
use Rattle.bl_load.proofs.HeldLemmas.{length-content_by, length-bytes_by, length_at}
use Rattle.bl_digest.specs.PlanInSteps.{bytes_of_steps, parts_along, plan_in_steps}
use Rattle.bl_digest.specs.PlanInSteps.{handover_in_steps}

-- steps, one after the other; `own` is what the plan holds itself
module _ (own : List ℕ) (texts : List (List ℕ)) where
  bytes_append : (xs ys : List Step)
      → bytes_of_steps own texts (xs ++ ys)
      ≡ bytes_of_steps own texts xs ++ bytes_of_steps own texts ys
  bytes_append [] ys = refl
  bytes_append (x ∷ xs) ys =
      let mine : List ℕ = source_bytes own texts x.source x.length in
      ap (λ (l : List ℕ). mine ++ l) (bytes_append xs ys)
      ∙ sym (append_assoc mine (bytes_of_steps own texts xs) (bytes_of_steps own texts ys))

  bytes_one : (at n : ℕ) (from : StepSource) → length (source_bytes own texts from n) ≡ n
      → bytes_of_steps own texts (one_step at n from) ≡ source_bytes own texts from n
  bytes_one at zero from is = sym (nil_from_length (source_bytes own texts from 0) is)
  bytes_one at (suc n) from is = append-nil (source_bytes own texts from (suc n))

  bytes_zeros : (at n : ℕ) → bytes_of_steps own texts (one_step at n source.Zeros) ≡ replicate n 0
  bytes_zeros at zero = refl
  bytes_zeros at (suc n) = append-nil (replicate (suc n) 0)

  bytes_segment : (at file : ℕ) (s : Segment) → IsCopyable (length (nth_file texts file)) s
      → bytes_of_steps own texts (segment_steps at file s) ≡ contents_of (nth_file texts file) s
  bytes_segment at file s copied =
      let text = nth_file texts file in
      let filed : length (file_part text s) ≡ s.filesz = length-filed text s copied in
      let first : List Step = one_step at s.filesz (source.File file s.offset) in
      let rest : List Step = one_step (at + s.filesz) (s.memsz - s.filesz) source.Zeros in
      bytes_append first rest
      ∙ ap (λ (l : List ℕ). l ++ bytes_of_steps own texts rest)
      (bytes_one at s.filesz (source.File file s.offset) filed)
      ∙ ap (λ (l : List ℕ). file_part text s ++ l)
      (bytes_zeros (at + s.filesz) (s.memsz - s.filesz))

  bytes_in_block : (at file low done : ℕ) (segments : List Segment)
      → All (IsCopyable (length (nth_file texts file))) segments
      → AllPairs SegmentsAscend segments → All (λ s. low + done ≤ s.address) segments
      → bytes_of_steps own texts (steps_in_block at file low done segments)
      ≡ block_from (nth_file texts file) (low + done) segments
  bytes_in_block at file low done [] copied ascend above = refl
  bytes_in_block at file low done (s ∷ segments) copied ascend above =
      let text : List ℕ = nth_file texts file in
      let up : low + done ≤ s.address = above 0 s (omega arith) in
      let start : ℕ = s.address - low in
      let gap : ℕ = s.address - low - done in
      let zeros : List Step = one_step (at + done) gap source.Zeros in
      let this : List Step = segment_steps (at + start) file s in
      let rest : List Step = steps_in_block at file low (start + s.memsz) segments in
      let same_gap : gap ≡ s.address - (low + done) = omega arith in
      let end : low + (start + s.memsz) ≡ s.address + s.memsz = omega arith in
      bytes_append (zeros ++ this) rest
      ∙ ap (λ (l : List ℕ). l ++ bytes_of_steps own texts rest)
      (bytes_append zeros this
      ∙ ap (λ (l : List ℕ). l ++ bytes_of_steps own texts this)
      (bytes_zeros (at + done) gap ∙ ap (λ (n : ℕ). replicate n 0) same_gap)
      ∙ ap (λ (l : List ℕ). replicate (s.address - (low + done)) 0 ++ l)
      (bytes_segment (at + start) file s (copied 0 s (omega arith))))
      ∙ ap
      (λ (l : List ℕ). (replicate (s.address - (low + done)) 0 ++ contents_of text s) ++ l)
      (bytes_in_block at file low (start + s.memsz) segments
      (λ k d h. copied (suc k) d (omega arith))
      (λ i j d ij h. ascend (suc i) (suc j) d (omega arith) (omega arith))
      (λ k d h. let next = ascend 0 (suc k) d (omega arith) (omega arith) in omega arith)
      ∙ ap (λ (n : ℕ). block_from text n segments) end)

  bytes_content : {A : Type 0} (before at : ℕ) (content : Content A)
      → IsInFiles (lengths_of texts) content
      → slice_range own before (before + length (own_of content)) ≡ own_of content
      → bytes_of_steps own texts (content_steps before at content) ≡ content_by texts content
  bytes_content {A = A} before at (Own bytes) there held =
      bytes_one at (length bytes) (source.Own before) (ap (λ (xs : List ℕ). length xs) held) ∙ held
  bytes_content {A = A} before at (File file offset count) there held =
      bytes_one at count (source.File file offset)
      (length-content_by {A = A} texts (File file offset count) there)
  bytes_content {A = A} before at (Block file segments) there held =
      let text : List ℕ = nth_file texts file in
      let copied : All (IsCopyable (length text)) segments.items =
      subst (λ (n : ℕ). All (IsCopyable n) segments.items) (length_at texts file) there.2 in
      let low : ℕ = (get_or segments.items 0 no_segment).address in
      let first = block_from_first text segments.items no_segment there.1 copied there.3 in
      bytes_in_block at file low 0 segments.items copied there.3
      (λ k d h. let up = first_below segments.items no_segment there.3 k d h in omega arith)
      ∙ ap (λ (n : ℕ). block_from text n segments.items) (add-zero low)
      ∙ sym first.1

  -- a part, if what it holds itself is there
  bytes_part : {A : Type 0} (before : ℕ) (part : PlannedPart A) → IsBacked (lengths_of texts) part
      → slice_range own before (before + length (own_of part.content)) ≡ own_of part.content
      → bytes_of_steps own texts (part_steps before part) ≡ bytes_by texts part
  bytes_part before part backed held =
      let at : ℕ = part.place.address in
      let content : List ℕ = content_by texts part.content in
      let count : length content ≡ content_length part.content =
      length-content_by texts part.content backed.there in
      let first : List Step = content_steps before at part.content in
      let left : ℕ = part.place.length - content_length part.content in
      let rest : List Step = one_step (at + content_length part.content) left source.Zeros in
      bytes_append first rest
      ∙ ap (λ (l : List ℕ). l ++ bytes_of_steps own texts rest)
      (bytes_content before at part.content backed.there held)
      ∙ ap (λ (l : List ℕ). content ++ l) (bytes_zeros (at + content_length part.content) left)
      ∙ ap (λ (n : ℕ). content ++ replicate (part.place.length - n) 0) (sym count)

  -- parts along their places, if what is held from `before` on is theirs
  along_parts : {A : Type 0} (before : ℕ) (parts : List (PlannedPart A))
      → All (IsBacked (lengths_of texts)) parts → drop before own ≡ own_bytes parts
      → parts_along (map planned_place parts) (bytes_of_steps own texts (steps_from before parts))
      ≡ map (part_by texts) parts
  along_parts before [] backed held = refl
  along_parts before (part ∷ parts) backed held =
      let mine : List ℕ = own_of part.content in
      let count : ℕ = length mine in
      let this : List ℕ = bytes_by texts part in
      let size : length this ≡ part.place.length =
      length-bytes_by texts part (backed 0 part (omega arith)) in
      let here : slice_range own before (before + count) ≡ mine =
      let same : before + count - before ≡ count = omega arith in
      rw (same, held) (take_at mine (own_bytes parts) count refl) in
      let next : drop (before + count) own ≡ own_bytes parts =
      sym (drop-drop count before own) ∙ ap (λ (xs : List ℕ). drop count xs) held
      ∙ drop_at mine (own_bytes parts) count refl in
      let rest : List Step = steps_from (before + count) parts in
      let after : List ℕ = bytes_of_steps own texts rest in
      let places : List Place = map planned_place (part ∷ parts) in
      ap (parts_along places) (bytes_append (part_steps before part) rest)
      ∙ ap (λ (l : List ℕ). parts_along places (l ++ after))
      (bytes_part before part (backed 0 part (omega arith)) here)
      ∙ ap
      (λ (l : List ℕ).
      placed_part part.place l
      ∷ parts_along (map planned_place parts) (drop part.place.length (this ++ after)))
      (take_at this after part.place.length size)
      ∙ ap (λ (l : List ℕ). part_by texts part ∷ parts_along (map planned_place parts) l)
      (drop_at this after part.place.length size)
      ∙ ap (λ (l : List Part). part_by texts part ∷ l)
      (along_parts (before + count) parts (λ k d h. backed (suc k) d (omega arith)) next)

-- a plan's steps hand over what the plan does
pub steps_hand_over : {A : Type 0} (texts : List (List ℕ)) (size : ℕ) (plan : Plan A)
    → IsLoadable (lengths_of texts) size plan
    → handover_in_steps texts (plan_in_steps plan) ≡ handover_by texts plan
steps_hand_over texts size plan loadable =
    let along =
    along_parts (own_bytes plan.parts.items) texts 0 plan.parts.items loadable.backed refl in
    ap
    (λ (parts : List Part). record {
      protocol = plan.protocol;
      registers = plan.registers;
      parts = parts;
    })
    along
