-- What memory holds once the steps of a plan are carried out.
use Rattle.std.proofs.Common.{◌≡◌, ℕ, ◌+◌, ◌-◌, ◌<◌, ◌≤◌, List, [], ◌∷◌, ◌++◌, length, drop, get_or}
use Rattle.std.proofs.Common.{replicate, zero, suc, arith, refl, sym, ap, ◌∙◌, map}
use Rattle.std.proofs.Common.{All, AllPairs, slice_range, add-zero, zero-add, subst}
use Rattle.std.proofs.lemmas.List.{length-replicate, append-nil, take-append-drop, take_at, drop_at}
use Rattle.std.proofs.lemmas.List.{nil_from_length, drop-drop}
use Rattle.bl_mem.specs.declared.segment.Segment.{Segment}
use Rattle.bl_mem.specs.FileSet.{nth_file}
use Rattle.bl_mem.specs.Memory.{overwrite}
use Rattle.bl_mem.specs.SegmentContents.{file_part, contents_of}
use Rattle.bl_mem.proofs.Overwrites.{length-overwrite, overwrite_more}
use Rattle.bl_plan.specs.declared.part.Place.{Place}
use Rattle.bl_load.specs.declared.plan.Content.{Content}
use Rattle.bl_load.specs.declared.plan.Content.TheVariants.{Own, File, Block}
use Rattle.bl_load.specs.declared.plan.PlannedPart.{PlannedPart}
use Rattle.bl_load.specs.declared.plan.Plan.{Plan}
use Rattle.bl_load.specs.declared.step.Step.{Step}
use Rattle.bl_load.specs.declared.step.StepSource.{StepSource}
use Rattle.bl_load.specs.declared.step.StepSource.TheVariants as source
use Rattle.bl_load.specs.Handover.{overwrite_parts}
use Rattle.bl_load.specs.Loadable.{lengths_of, content_length, IsCopyable, SegmentsAscend}
use Rattle.bl_load.specs.Loadable.{IsInFiles, IsBacked, IsLoadable}
use Rattle.bl_load.specs.Parts.{no_segment}
use Rattle.bl_load.specs.PlanContents.{content_by, bytes_by, part_by, handover_by}
use Rattle.bl_load.specs.PlannedPlaces.{planned_place}
use Rattle.bl_load.specs.PlanSteps.{one_step, segment_steps, steps_in_block, own_of}
use Rattle.bl_load.specs.PlanSteps.{content_steps, part_steps, steps_from, own_bytes}
use Rattle.bl_load.specs.Steps.{source_bytes, carry_out}
use Rattle.bl_load.proofs.BlockLemmas.{block_from, length-filed, length-contents_of}
use Rattle.bl_load.proofs.BlockStepLemmas.{first_below, block_from_first, left_behind, block_step}
use Rattle.bl_load.proofs.HeldLemmas.{length-content_by, length-bytes_by, length_at, all_under}

-- no bytes change nothing
pub overwrite_nothing : (m : List ℕ) (at : ℕ) (part : List ℕ) → length part ≡ 0 → at ≤ length m
    → overwrite m at part ≡ m
overwrite_nothing m at part none inside =
    rw (nil_from_length part none) (simp (append-nil, add-zero) (take-append-drop at m))

-- no step is told that is empty
pub tells_none : (steps : List Step) (address n : ℕ) (from : StepSource) → n ≡ 0
    → steps ≡ steps ++ one_step address n from
tells_none steps address zero from none = sym (append-nil steps)
tells_none steps address (suc n) from none = absurd (omega arith)

-- and each other is
pub tells_one : (old new : List Step) (address n : ℕ) (from : StepSource) → 0 < n
    → new ≡ old ++ record { address = address; length = n; source = from } ∷ []
    → new ≡ old ++ one_step address n from
tells_one old new address zero from some is = absurd (omega arith)
tells_one old new address (suc n) from some is = is

-- steps, one after the other; `own` is what the plan holds itself
module _ (own : List ℕ) (texts : List (List ℕ)) where
  pub carry_append : (xs ys : List Step) (m : List ℕ)
      → carry_out (xs ++ ys) own texts m ≡ carry_out ys own texts (carry_out xs own texts m)
  carry_append [] ys m = refl
  carry_append (x ∷ xs) ys m = carry_append xs ys _

  pub carry_one : (at n : ℕ) (from : StepSource) (m : List ℕ)
      → length (source_bytes own texts from n) ≡ n → at + n ≤ length m
      → carry_out (one_step at n from) own texts m ≡ overwrite m at (source_bytes own texts from n)
  carry_one at zero from m is inside = sym (overwrite_nothing m at _ is (omega arith))
  carry_one at (suc n) from m is inside = refl

  -- zeros behind what was written
  pub carry_zeros : (content : List ℕ) (at count wide : ℕ) (m : List ℕ) → length content ≡ count
      → count ≤ wide → at + wide ≤ length m
      → carry_out (one_step (at + count) (wide - count) source.Zeros) own texts (overwrite m at content)
      ≡ overwrite m at (content ++ replicate (wide - count) 0)
  carry_zeros content at count wide m is short inside =
      let size : length (overwrite m at content) ≡ length m = length-overwrite m at content (omega arith) in
      let zeros : List ℕ = replicate (wide - count) 0 in
      let left : length zeros ≡ wide - count = length-replicate (wide - count) 0 in
      carry_one (at + count) (wide - count) source.Zeros (overwrite m at content) left (omega arith)
      ∙ overwrite_more m at content zeros (at + count) (omega arith) (omega arith)

  pub carry_segment : (at file : ℕ) (s : Segment) (m : List ℕ)
      → IsCopyable (length (nth_file texts file)) s → at + s.memsz ≤ length m
      → carry_out (segment_steps at file s) own texts m
      ≡ overwrite m at (contents_of (nth_file texts file) s)
  carry_segment at file s m copied inside =
      let text = nth_file texts file in
      let filed : length (file_part text s) ≡ s.filesz = length-filed text s copied in
      let fits = copied.fits in
      let first : List Step = one_step at s.filesz (source.File file s.offset) in
      let rest : List Step = one_step (at + s.filesz) (s.memsz - s.filesz) source.Zeros in
      carry_append first rest m
      ∙ ap (carry_out rest own texts)
      (carry_one at s.filesz (source.File file s.offset) m filed (omega arith))
      ∙ carry_zeros (file_part text s) at s.filesz s.memsz m filed fits inside

  pub carry_block : (at file low done : ℕ) (segments : List Segment) (m : List ℕ)
      → All (IsCopyable (length (nth_file texts file))) segments
      → AllPairs SegmentsAscend segments → All (λ s. low + done ≤ s.address) segments
      → at + (done + length (block_from (nth_file texts file) (low + done) segments)) ≤ length m
      → carry_out (steps_in_block at file low done segments) own texts m
      ≡ overwrite m (at + done) (block_from (nth_file texts file) (low + done) segments)
  carry_block at file low done [] m copied ascend above inside =
      sym (overwrite_nothing m (at + done) [] refl (omega arith))
  carry_block at file low done (s ∷ segments) m copied ascend above inside =
      let text : List ℕ = nth_file texts file in
      let c = copied 0 s (omega arith) in
      let up : low + done ≤ s.address = above 0 s (omega arith) in
      let start : ℕ = s.address - low in
      let gap : ℕ = s.address - low - done in
      let zeros : List Step = one_step (at + done) gap source.Zeros in
      let this : List Step = segment_steps (at + start) file s in
      let rest : List Step = steps_in_block at file low (start + s.memsz) segments in
      let none : List ℕ = replicate gap 0 in
      let filled : List ℕ = overwrite m (at + done) none in
      let held : List ℕ = overwrite filled (at + start) (contents_of text s) in
      let wide : length none ≡ gap = length-replicate gap 0 in
      let own_wide : length (contents_of text s) ≡ s.memsz = length-contents_of text s c in
      let left : start + s.memsz + length (block_from text (low + (start + s.memsz)) segments)
      ≡ done + length (block_from text (low + done) (s ∷ segments)) =
      left_behind text m at low done s segments c up inside in
      let size : length filled ≡ length m =
      length-overwrite m (at + done) none (omega arith) in
      let size_after : length held ≡ length filled =
      length-overwrite filled (at + start) (contents_of text s) (omega arith) in
      let same_gap : at + start - (at + done) ≡ gap = omega arith in
      let joined = rw same_gap at (block_step text m at low done s segments c up inside) in
      carry_append (zeros ++ this) rest m
      ∙ ap (carry_out rest own texts)
      (carry_append zeros this m
      ∙ ap (carry_out this own texts) (carry_one (at + done) gap source.Zeros m wide (omega arith))
      ∙ carry_segment (at + start) file s filled c (omega arith))
      ∙ carry_block at file low (start + s.memsz) segments held
      (λ k d h. copied (suc k) d (omega arith))
      (λ i j d ij h. ascend (suc i) (suc j) d (omega arith) (omega arith))
      (λ k d h. let next = ascend 0 (suc k) d (omega arith) (omega arith) in omega arith)
      (omega arith)
      ∙ joined

  pub carry_content : {A : Type 0} (before at : ℕ) (content : Content A) (m : List ℕ)
      → IsInFiles (lengths_of texts) content → at + content_length content ≤ length m
      → slice_range own before (before + length (own_of content)) ≡ own_of content
      → carry_out (content_steps before at content) own texts m
      ≡ overwrite m at (content_by texts content)
  carry_content {A = A} before at (Own bytes) m there inside held =
      carry_one at (length bytes) (source.Own before) m (ap (λ (xs : List ℕ). length xs) held) inside
      ∙ ap (λ (xs : List ℕ). overwrite m at xs) held
  carry_content {A = A} before at (File file offset count) m there inside held =
      carry_one at count (source.File file offset) m
      (length-content_by {A = A} texts (File file offset count) there) inside
  carry_content {A = A} before at (Block file segments) m there inside held =
      let text : List ℕ = nth_file texts file in
      let copied : All (IsCopyable (length text)) segments.items =
      subst (λ (n : ℕ). All (IsCopyable n) segments.items) (length_at texts file) there.2 in
      let low : ℕ = (get_or segments.items 0 no_segment).address in
      let first = block_from_first text segments.items no_segment there.1 copied there.3 in
      let span : at + (0 + length (block_from text (low + 0) segments.items)) ≤ length m =
      simp (add-zero, zero-add) (omega (arith, first.0)) in
      let told =
      simp (add-zero, zero-add) at
      (carry_block at file low 0 segments.items m copied there.3
      (λ k d h. let up = first_below segments.items no_segment there.3 k d h in omega arith) span)
      in
      told ∙ ap (λ (xs : List ℕ). overwrite m at xs) (sym first.1)

  -- a part, if what it holds itself is there
  pub carry_part : {A : Type 0} (before : ℕ) (part : PlannedPart A) (m : List ℕ)
      → IsBacked (lengths_of texts) part → part.place.address + part.place.length ≤ length m
      → slice_range own before (before + length (own_of part.content)) ≡ own_of part.content
      → carry_out (part_steps before part) own texts m
      ≡ overwrite m part.place.address (bytes_by texts part)
  carry_part before part m backed inside held =
      let at : ℕ = part.place.address in
      let content : List ℕ = content_by texts part.content in
      let count : length content ≡ content_length part.content =
      length-content_by texts part.content backed.there in
      let short = backed.short in
      let first : List Step = content_steps before at part.content in
      let rest : List Step =
      one_step (at + content_length part.content)
      (part.place.length - content_length part.content) source.Zeros in
      carry_append first rest m
      ∙ ap (carry_out rest own texts)
      (carry_content before at part.content m backed.there (omega arith) held)
      ∙ carry_zeros content at (content_length part.content) part.place.length m count short inside
      ∙ ap (λ (n : ℕ). overwrite m at (content ++ replicate (part.place.length - n) 0)) (sym count)

  -- parts, if what is held from `before` on is theirs
  pub carry_parts : {A : Type 0} (before : ℕ) (parts : List (PlannedPart A)) (m : List ℕ)
      → All (IsBacked (lengths_of texts)) parts
      → All (λ part. part.place.address + part.place.length ≤ length m) parts
      → drop before own ≡ own_bytes parts
      → carry_out (steps_from before parts) own texts m ≡ overwrite_parts (map (part_by texts) parts) m
  carry_parts before [] m backed inside held = refl
  carry_parts before (part ∷ parts) m backed inside held =
      let mine : List ℕ = own_of part.content in
      let count : ℕ = length mine in
      let wide = length-bytes_by texts part (backed 0 part (omega arith)) in
      let fits = inside 0 part (omega arith) in
      let written : List ℕ = overwrite m part.place.address (bytes_by texts part) in
      let size : length written ≡ length m =
      length-overwrite m part.place.address (bytes_by texts part) (omega arith) in
      let here : slice_range own before (before + count) ≡ mine =
      let same : before + count - before ≡ count = omega arith in
      rw (same, held) (take_at mine (own_bytes parts) count refl) in
      let next : drop (before + count) own ≡ own_bytes parts =
      sym (drop-drop count before own) ∙ ap (λ (xs : List ℕ). drop count xs) held ∙ drop_at mine (own_bytes parts) count refl in
      carry_append (part_steps before part) (steps_from (before + count) parts) m
      ∙ ap (carry_out (steps_from (before + count) parts) own texts)
      (carry_part before part m (backed 0 part (omega arith)) fits here)
      ∙ carry_parts (before + count) parts written (λ k d h. backed (suc k) d (omega arith))
      (λ k d h. let end = inside (suc k) d (omega arith) in omega arith) next

-- a plan's steps load it
pub carry_plan : {A : Type 0} (texts : List (List ℕ)) (size : ℕ) (plan : Plan A) (m : List ℕ)
    → IsLoadable (lengths_of texts) size plan → size ≤ length m
    → carry_out (steps_from 0 plan.parts.items) (own_bytes plan.parts.items) texts m
    ≡ overwrite_parts (handover_by texts plan).parts m
carry_plan texts size plan m loadable inside =
    carry_parts (own_bytes plan.parts.items) texts 0 plan.parts.items m loadable.backed
    (λ k d h. let end =
    all_under (λ (place : Place). place.address + place.length ≤ size) planned_place
    plan.parts.items loadable.inside k d h in omega arith) refl
