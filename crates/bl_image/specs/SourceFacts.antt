-- What came from a source. Own.
use Rattle.std.specs.Prelude.{◌≡◌, ℕ, Bool, List, [], ◌++◌, take, drop, if◌then◌else◌}
use Rattle.std.specs.Prelude.{Option, Some, None, Result, Ok, Err}
use Rattle.std.specs.Io.KnownBytes.{Consumes}
use Rattle.bl_image.specs.declared.fault.ImageFault.{ImageFault}
use Rattle.bl_image.specs.declared.fault.ImageFault.TheVariants.{DeviceFault, NoMemory}

-- the bytes that reads gave so far; those that they will give from here on, where that is known
pub record SourceFacts : Type 0 where
  pub given : List ℕ
  pub rest : Option (List ℕ)

-- these bytes came, and no others; where it was known what was to come, it begins with them
pub record Comes (old new : SourceFacts) (bytes : List ℕ) : Type 0 where
  pub given_is : new.given ≡ old.given ++ bytes
  pub rest_is : Consumes old.rest new.rest bytes

-- nothing is to come
abbrev pub IsEnded : SourceFacts → Type 0
IsEnded input = input.rest ≡ Some []

-- these bytes may be all that is to come
abbrev pub IsPossibleRest : Option (List ℕ) → List ℕ → Type 0
IsPossibleRest None bytes = Unit {0}
IsPossibleRest (Some rest) bytes = bytes ≡ rest

-- a definition of the first fault of bytes
abbrev pub FaultIn : Type 0
FaultIn = List ℕ → Option ImageFault

-- what came shows this fault, whatever may follow
pub record ShowsFault (fault_in : FaultIn) (old new : SourceFacts)
    (fault : ImageFault) : Type 0 where
  pub came : List ℕ
  pub comes : Comes old new came
  pub shown : (bytes : List ℕ) → IsPossibleRest new.rest bytes
      → fault_in (came ++ bytes) ≡ Some fault

-- a fault of what came; but a device may fail and memory run out at any time
abbrev pub IsInputFault : FaultIn → SourceFacts → SourceFacts → ImageFault → Type 0
IsInputFault fault_in old new DeviceFault = Unit {0}
IsInputFault fault_in old new NoMemory = Unit {0}
IsInputFault fault_in old new fault = ShowsFault fault_in old new fault

-- the same of bytes that are known
abbrev pub IsBytesFault : FaultIn → List ℕ → ImageFault → Type 0
IsBytesFault fault_in bytes DeviceFault = Unit {0}
IsBytesFault fault_in bytes NoMemory = Unit {0}
IsBytesFault fault_in bytes fault = fault_in bytes ≡ Some fault

-- a fault that says nothing of the bytes
abbrev pub IsTransient : ImageFault → Type 0
IsTransient DeviceFault = Unit {0}
IsTransient NoMemory = Unit {0}
IsTransient fault = ⊥

-- how many faults of the source a reader met
abbrev pub faults_met : {T : Type 0} → Result T ImageFault → ℕ
faults_met (Ok value) = 0
faults_met (Err DeviceFault) = 1
faults_met (Err fault) = 0

-- ---- what contracts see of the sources here

-- of an `IoSource`: what its reader gave since it was wrapped, and what it tells that it still has;
-- its faults so far
pub record IoSourceFacts : Type 0 where
  pub input : SourceFacts
  pub faults : ℕ

-- once its reader said that the input ended, nothing is to come
abbrev pub rest_of : Bool → Option (List ℕ) → Option (List ℕ)
rest_of is_ended rest = if is_ended then Some [] else rest

-- of a `MemSource`: its bytes, and how many of them it gave; how many it gives at once; which read
-- from now on is a fault, or 0; its faults so far
pub record MemSourceFacts : Type 0 where
  pub bytes : List ℕ
  pub at : ℕ
  pub step : ℕ
  pub fail : ℕ
  pub faults : ℕ

abbrev pub mem_source_input : MemSourceFacts → SourceFacts
mem_source_input source = record {
  given = take source.at source.bytes;
  rest = Some (drop source.at source.bytes);
}
