-- What the code keeps as it reads a source. Own.
use Rattle.std.specs.Prelude.{◌≡◌, ◌+◌, ◌<◌, ◌≤◌, ℕ, true, List, ◌∷◌, ◌++◌, length, Option, Result}
use Rattle.std.specs.Prelude.{MatchOption, MatchResult, IfOk, OnOk, IfErr}
use Rattle.bl_image.specs.declared.fault.ImageFault.{ImageFault}
use Rattle.bl_image.specs.declared.fault.ImageFault.TheVariants.{WrongLength, DeviceFault, NoMemory}
use Rattle.bl_image.specs.Fields.{Field, fields_fault}
use Rattle.bl_image.specs.SourceFacts.{SourceFacts, FaultIn, Comes, IsEnded, IsInputFault}
use Rattle.bl_image.specs.SourceFacts.{faults_met}

-- fewer bytes came than so many, and then the input ended
pub record EndsEarly (old new : SourceFacts) (count : ℕ) : Type 0 where
  pub came : List ℕ
  pub comes : Comes old new came
  pub short : length came < count
  pub ended : IsEnded new

-- why fewer came: the input ended; or the device failed, or memory ran out
abbrev pub IsCut : SourceFacts → SourceFacts → ℕ → ImageFault → Type 0
IsCut old new count WrongLength = EndsEarly old new count
IsCut old new count DeviceFault = Unit {0}
IsCut old new count NoMemory = Unit {0}
IsCut old new count fault = ⊥

-- the bytes that spell what was read came, or fewer than so many; the source counts one fault more
-- exactly where that is the answer
pub record ReadsBytes {S X : Type 0} (input_in : S → SourceFacts) (faults_in : S → ℕ) (old new : S)
    (count : ℕ) (spelled : X → List ℕ) (result : Result X ImageFault) : Type 0 where
  pub ok : IfOk result (λ value. Comes (input_in old) (input_in new) (spelled value))
  pub cut : IfErr result (IsCut (input_in old) (input_in new) count)
  pub faults : faults_in new ≡ faults_in old + faults_met result

-- so many bytes came, and stand behind those that were kept before
pub record IsReadBehind (old new : SourceFacts) (before after : List ℕ) (count : ℕ) : Type 0 where
  pub came : List ℕ
  pub comes : Comes old new came
  pub size : length came ≡ count
  pub behind : after ≡ before ++ came

-- the same, or fewer came
pub record AppendsBytes {S X : Type 0} (input_in : S → SourceFacts) (faults_in : S → ℕ)
    (old new : S) (before after : List ℕ) (count : ℕ) (result : Result X ImageFault)
    : Type 0 where
  pub ok : OnOk result (IsReadBehind (input_in old) (input_in new) before after count)
  pub cut : IfErr result (IsCut (input_in old) (input_in new) count)
  pub faults : faults_in new ≡ faults_in old + faults_met result

-- the field came, and is as it must be
pub record Passes (field : Field) (old new : SourceFacts) (bytes : List ℕ) : Type 0 where
  pub comes : Comes old new bytes
  pub size : length bytes ≡ field.size
  pub passes : field.passes bytes ≡ true

-- these fields came, and leave to be judged what follows
pub record PassAll (fields : List Field) (old new : SourceFacts) (bytes : List ℕ) : Type 0 where
  pub comes : Comes old new bytes
  pub on : (others : List Field) (more : List ℕ)
      → fields_fault (fields ++ others) (bytes ++ more) ≡ fields_fault others more

-- what was read is the field; or it has a fault, whatever fields follow
pub record ReadsField {S X : Type 0} (input_in : S → SourceFacts) (faults_in : S → ℕ) (old new : S)
    (expected : Field) (spelled : X → List ℕ) (result : Result X ImageFault) : Type 0 where
  pub field : MatchResult result
      (λ value. Passes expected (input_in old) (input_in new) (spelled value))
      (λ fault. (fields : List Field)
      → IsInputFault (fields_fault (expected ∷ fields)) (input_in old) (input_in new) fault)
  pub faults : faults_in new ≡ faults_in old + faults_met result

-- the same of several fields
pub record ReadsFields {S X : Type 0} (input_in : S → SourceFacts) (faults_in : S → ℕ) (old new : S)
    (expected : List Field) (spelled : X → List ℕ) (result : Result X ImageFault) : Type 0 where
  pub fields : MatchResult result
      (λ value. PassAll expected (input_in old) (input_in new) (spelled value))
      (λ fault. (others : List Field)
      → IsInputFault (fields_fault (expected ++ others)) (input_in old) (input_in new) fault)
  pub faults : faults_in new ≡ faults_in old + faults_met result

-- what spells the value came; or what came has the first fault of this definition
pub record ReadsOrRefuses {S X : Type 0} (input_in : S → SourceFacts) (faults_in : S → ℕ)
    (old new : S) (fault_in : FaultIn) (spelled : X → List ℕ) (result : Result X ImageFault)
    : Type 0 where
  pub ok : IfOk result (λ value. Comes (input_in old) (input_in new) (spelled value))
  pub refused : IfErr result (IsInputFault fault_in (input_in old) (input_in new))
  pub faults : faults_in new ≡ faults_in old + faults_met result

-- the value that has this number; none where the number is 0, or above the greatest
abbrev pub IsFoundByNumber : {X : Type 0} → (X → ℕ) → ℕ → ℕ → Option X → Type 0
IsFoundByNumber number_of most number found =
    MatchOption found ((1 ≤ number) × (number ≤ most) → ⊥) (λ value. number_of value ≡ number)
