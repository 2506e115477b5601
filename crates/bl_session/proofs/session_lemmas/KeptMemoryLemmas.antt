-- The memory that an attempt leaves to the next.
use Rattle.std.proofs.Common.{◌≡◌, ℕ, ◌<◌, ◌≤◌, Bool, true, false, ◌&&◌, if◌then◌else◌, nat_le}
use Rattle.std.proofs.Common.{nat_lt, List, [], get_or, Result, Ok, Err, IfOk, refl, ◌∙◌, ◌⊎◌, inl}
use Rattle.std.proofs.Common.{inr, arith}
use Rattle.std.specs.declared.ops.Range.{Range}
use Rattle.std.proofs.lemmas.Bool.{cases_lt}
use Rattle.std.proofs.lemmas.Bool.Decides.{nat_tests}
use Rattle.bl_mem.specs.Memory.{IsIn, KeepsSizeAndRoom}
use Rattle.bl_load.specs.MemoryAfter.{IsMemoryAfter}
use Rattle.bl_load.specs.Handover.{Part}
use Rattle.bl_stage.specs.Ranges.{IsSameOutside, scrubbed_byte}
use Rattle.bl_session.specs.session.BootSteps.{State, running, handed_over, none_left, unstarted}
use Rattle.bl_session.specs.session.BootSteps.{out_of_memory}
use Rattle.bl_session.specs.session.BootMemory.{IsMemoryAt}

-- ---- memory

-- a call after another keeps what both keep
pub keeps_on : {M : Type 0} {lender : M → ℕ} {bytes : M → List ℕ} {room : M → ℕ → Type 0}
    {old mid new : M} → KeepsSizeAndRoom lender bytes room old mid
    → KeepsSizeAndRoom lender bytes room mid new → KeepsSizeAndRoom lender bytes room old new
keeps_on first second = record {
  lender = second.lender ∙ first.lender;
  size = second.size ∙ first.size;
  room = λ a had. second.room a (first.room a had);
}

pub same_on : (pool : Range ℕ) (old mid new : List ℕ) → IsSameOutside pool old mid
    → IsSameOutside pool mid new → IsSameOutside pool old new
same_on pool old mid new first second = λ a outside. second a outside ∙ first a outside

beside : (pool : Range ℕ) (a : ℕ) → ¬ IsIn pool a → (a < pool.start) ⊎ (pool.end ≤ a)
beside pool a out = elim (cases_lt a pool.start) [
  | inl below ↦ inl below
  | inr from ↦
      elim (cases_lt a pool.end)
      [ inl within ↦ absurd (out (from, within)) | inr above ↦ inr above ]
]

pub after_on : (pool : Range ℕ) (parts : List Part) (old mid new : List ℕ)
    → IsSameOutside pool old mid → IsMemoryAfter pool parts mid new → IsMemoryAfter pool parts old new
after_on pool parts old mid new first second = record {
  in_parts = second.in_parts;
  in_pool = second.in_pool;
  elsewhere = λ a none out. second.elsewhere a none out ∙ first a (beside pool a out);
}

pub memory_on : (pool : Range ℕ) (state : State) (old mid new : List ℕ) → IsSameOutside pool old mid
    → IsMemoryAt pool state mid new → IsMemoryAt pool state old new
memory_on pool unstarted old mid new first second = same_on pool old mid new first second
memory_on pool (running entry rest earlier files) old mid new first second =
    same_on pool old mid new first second
memory_on pool (handed_over entry earlier handover) old mid new first second =
    after_on pool handover.parts old mid new first second
memory_on pool (none_left earlier) old mid new first second =
    after_on pool [] old mid new first second
memory_on pool out_of_memory old mid new first second = same_on pool old mid new first second

pub memory_later : {P E : Type 0} (pool : Range ℕ) (old mid new : List ℕ) (result : Result P E)
    (state : P → State)
    → IsSameOutside pool old mid → IfOk result (λ phase. IsMemoryAt pool (state phase) mid new)
    → IfOk result (λ phase. IsMemoryAt pool (state phase) old new)
memory_later pool old mid new (Err e) state first second = tt
memory_later pool old mid new (Ok phase) state first second =
    memory_on pool (state phase) old mid new first second

zero_if : (b c d : Bool) (x : ℕ) → c ≡ false → (if b && (c && d) then 0 else x) ≡ x
zero_if true c d x e = rw e refl
zero_if false c d x e = refl

scrubbed_in : (pool : Range ℕ) (old : List ℕ) (a : ℕ) → IsIn pool a → scrubbed_byte pool [] old a ≡ 0
scrubbed_in pool old a (low, high) =
    let from : nat_le pool.start a ≡ true = grind (arith, nat_tests) in
    let to : nat_lt a pool.end ≡ true = grind (arith, nat_tests) in
    rw (from, to) refl

scrubbed_out : (pool : Range ℕ) (old : List ℕ) (a : ℕ) → ¬ IsIn pool a
    → scrubbed_byte pool [] old a ≡ get_or old a 0
scrubbed_out pool old a out = elim (beside pool a out) [
  | inl below ↦ let from : nat_le pool.start a ≡ false = grind (arith, nat_tests) in rw from refl
  | inr above ↦
      let to : nat_lt a pool.end ≡ false =
      grind (arith, nat_tests) in
      zero_if (nat_le pool.start a) (nat_lt a pool.end) true (get_or old a 0) to
]

-- a pool that was scrubbed whole
pub after_scrub : (pool : Range ℕ) (old new : List ℕ)
    → ((a : ℕ) → get_or new a 0 ≡ scrubbed_byte pool [] old a) → IsMemoryAfter pool [] old new
after_scrub pool old new scrubs = record {
  in_parts = λ k d h. absurd (omega arith);
  in_pool = λ a none within. scrubs a ∙ scrubbed_in pool old a within;
  elsewhere = λ a none out. scrubs a ∙ scrubbed_out pool old a out;
}
