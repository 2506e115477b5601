-- Modules that are read one after the other.
use Rattle.std.proofs.Common.{◌≡◌, ◌≤◌, ◌+◌, ◌-◌, ℕ, zero, suc, true, false, List, [], ◌∷◌, ◌++◌}
use Rattle.std.proofs.Common.{length, Result, Ok, Err, arith, refl, sym, ap, ◌∙◌, append_assoc}
use Rattle.std.proofs.Common.{length-append}
use Rattle.std.proofs.lemmas.Bool.Decides.{nat_tests}
use Rattle.std.proofs.lemmas.List.{append-nil}
use Rattle.bl_mbi.specs.declared.fault.InfoFault.{InfoFault}
use Rattle.bl_mbi.specs.declared.fault.InfoFault.TheVariants.{WrongLength, BadReserved, BadTag}
use Rattle.bl_mbi.specs.declared.fault.InfoFault.TheVariants.{BadOrder, NoMemory}
use Rattle.bl_mbi.specs.InfoToWriteFacts.{ModuleInfo}
use Rattle.bl_mbi.specs.declared.tag_types.TheConstants.{TAG_MODULE}
use Rattle.bl_mbi.specs.Bodies.{module_of}
use Rattle.bl_mbi.specs.ReadingSteps.{◌>>=◌, MatchesFault, RestFacts, is_next, required_at}
use Rattle.bl_mbi.specs.Reading.{modules_upto, modules_at}

-- what was read, and after it what is still read
abbrev pub behind : List ModuleInfo → Result (List ModuleInfo × RestFacts) InfoFault
    → Result (List ModuleInfo × RestFacts) InfoFault
behind done (Ok more) = Ok (done ++ more.0, more.1)
behind done (Err fault) = Err fault

-- the modules so far, and those that are still to be read, are all of them
pub record IsOnWay (start left : RestFacts) (done : List ModuleInfo) : Type 0 where
  pub all : behind done (modules_upto (length start.bytes - length done) left) ≡ modules_at start
  pub room : length left.bytes + length done ≤ length start.bytes

behind_none : (read : Result (List ModuleInfo × RestFacts) InfoFault) → behind [] read ≡ read
behind_none (Ok more) = refl
behind_none (Err fault) = refl

pub starts : (start : RestFacts) → IsOnWay start start []
unfolding modules_at
starts start =
    let whole : length start.bytes - 0 ≡ length start.bytes = omega arith in
    record { all = rw whole (behind_none _); room = omega arith }

pub no_more : (n : ℕ) (left : RestFacts) → is_next TAG_MODULE left ≡ false
    → modules_upto n left ≡ Ok ([], left)
no_more zero left last = refl
no_more (suc n) left last = rw last refl

-- no further module is there
pub ends : (start left : RestFacts) (done : List ModuleInfo) → IsOnWay start left done
    → is_next TAG_MODULE left ≡ false → modules_at start ≡ Ok (done, left)
ends start left done way last =
    sym way.all
    ∙ rw (no_more (length start.bytes - length done) left last)
    (ap (λ (ms : List ModuleInfo). Ok (ms, left)) (append-nil done))

behind_one : (done : List ModuleInfo) (m : ModuleInfo)
    (read : Result (List ModuleInfo × RestFacts) InfoFault)
    → behind done (read >>= (λ more. Ok (m ∷ more.0, more.1))) ≡ behind (done ++ m ∷ []) read
behind_one done m (Ok more) =
    ap (λ (ms : List ModuleInfo). Ok (ms, more.1)) (sym (append_assoc done (m ∷ []) more.0))
behind_one done m (Err fault) = refl

pub one_more : (n : ℕ) (left after : RestFacts) (m : ModuleInfo) → is_next TAG_MODULE left ≡ true
    → required_at TAG_MODULE module_of left ≡ Ok (m, after)
    → modules_upto (suc n) left ≡ (modules_upto n after >>= (λ more. Ok (m ∷ more.0, more.1)))
one_more n left after m next is = rw (next, is) refl

pub reads_on : (start left after : RestFacts) (done : List ModuleInfo) (m : ModuleInfo)
    → IsOnWay start left done → is_next TAG_MODULE left ≡ true
    → required_at TAG_MODULE module_of left ≡ Ok (m, after)
    → length after.bytes + 8 ≤ length left.bytes → IsOnWay start after (done ++ m ∷ [])
reads_on start left after done m way next is shorter =
    let len : length (done ++ m ∷ []) ≡ length done + 1 = length-append done (m ∷ []) in
    let room = way.room in
    let count : length start.bytes - length done
    ≡ suc (length start.bytes - length (done ++ m ∷ [])) = omega arith in
    let before : behind done
    (modules_upto (suc (length start.bytes - length (done ++ m ∷ []))) left)
    ≡ modules_at start = rw count at way.all in
    record {
      all =
          sym (behind_one done m _) ∙ ap (behind done) (sym (one_more _ left after m next is))
          ∙ before;
      room = omega arith;
    }

one_fault : (n : ℕ) (left : RestFacts) (fault : InfoFault) → is_next TAG_MODULE left ≡ true
    → required_at TAG_MODULE module_of left ≡ Err fault → modules_upto (suc n) left ≡ Err fault
one_fault n left fault next is = rw (next, is) refl

next_long : (kind : ℕ) (left : RestFacts) → is_next kind left ≡ true → 8 ≤ length left.bytes
next_long kind left next = grind (arith, nat_tests)

stops : (start left : RestFacts) (done : List ModuleInfo) (fault : InfoFault)
    → IsOnWay start left done → is_next TAG_MODULE left ≡ true
    → required_at TAG_MODULE module_of left ≡ Err fault → modules_at start ≡ Err fault
stops start left done fault way next is =
    let room = way.room in
    let long = next_long TAG_MODULE left next in
    let count : length start.bytes - length done ≡ suc (length start.bytes - length done - 1) =
    omega arith in
    let before : behind done (modules_upto (suc (length start.bytes - length done - 1)) left)
    ≡ modules_at start = rw count at way.all in
    sym before ∙ ap (behind done) (one_fault _ left fault next is)

-- a module that fails there is where all of them fail
pub fails : (start left : RestFacts) (done : List ModuleInfo) (fault : InfoFault)
    → IsOnWay start left done → is_next TAG_MODULE left ≡ true
    → MatchesFault fault (required_at TAG_MODULE module_of left)
    → MatchesFault fault (modules_at start)
fails start left done NoMemory way next is = tt
fails start left done WrongLength way next is = stops start left done WrongLength way next is
fails start left done BadReserved way next is = stops start left done BadReserved way next is
fails start left done (BadTag at) way next is = stops start left done (BadTag at) way next is
fails start left done (BadOrder at) way next is = stops start left done (BadOrder at) way next is
