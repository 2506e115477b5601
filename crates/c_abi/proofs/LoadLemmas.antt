-- How a load of an entry ends, by what was made of it.
use Rattle.std.proofs.Common.{◌≡◌, ◌≤◌, ◌<◌, ℕ, zero, suc, List, [], ◌∷◌, None, length, map, subst, sym}
use Rattle.std.proofs.Common.{ap, ◌∙◌, All, AllPairs, get_or, arith}
use Rattle.std.proofs.Common.{Result, Ok, Err, IfOk, IfErr, OnOk, OnErr}
use Rattle.std.proofs.lemmas.List.{length-map, get_or-map}
use Rattle.std.proofs.lemmas.List.Elements.{All-map}
use Rattle.bl_map.specs.MachineFacts.{MachineFacts}
use Rattle.std.specs.declared.ops.Range.{Range}
use Rattle.bl_mem.specs.Memory.{AllHaveRoom, HasRoom}
use Rattle.bl_plan.specs.Placed.{place_range}
use Rattle.bl_plan.specs.declared.part.Place.{Place}
use Rattle.bl_load.specs.declared.entry.Entry.{Entry}
use Rattle.bl_load.specs.declared.refusal.PrepFault.{PrepFault}
use Rattle.bl_load.specs.declared.refusal.PrepFault.TheVariants as prep_fault
use Rattle.bl_load.specs.Parts.{IsHandover, IsPrepFault, IsRefusal}
use Rattle.bl_load.specs.EntryValue.{EntryValue, HasLimits, IsWithinLimits, file_count, value_of}
use Rattle.bl_load.specs.HandoffFacts.{Ascends, HandoffFacts, max_parts}
use Rattle.bl_load.specs.Handover.{Part}
use Rattle.bl_load.specs.Loadable.{IsLoadable}
use Rattle.bl_load.specs.PlanContents.{handover_in, part_by}
use Rattle.bl_load.specs.PlannedPlaces.{planned_place}
use Rattle.bl_load.specs.declared.plan.Plan.{Plan}
use Rattle.bl_load.specs.declared.plan.PlannedPart.{PlannedPart}
use Rattle.c_records.specs.declared.given_records.FileRecord.{FileRecord}
use Rattle.c_records.specs.declared.given_records.MachineRecord.{MachineRecord}
use Rattle.c_records.specs.declared.load_fault.LoadFault.{LoadFault}
use Rattle.c_records.specs.declared.load_fault.LoadFault.TheVariants.{Misused, Refused, NoMemory}
use Rattle.c_records.specs.declared.load_fault.LoadFault.TheVariants.{Outside}
use Rattle.c_records.specs.declared.given_records.EntryRecord.{EntryRecord}
use Rattle.c_records.specs.declared.given_fault.GivenFault.{GivenFault}
use Rattle.c_records.specs.declared.given_fault.GivenFault.TheVariants as given_fault
use Rattle.c_records.specs.GivenChecks.{entry_misuse}
use Rattle.c_records.specs.Given.{entry_without_files, files_given, texts_given, value_with}
use Rattle.c_records.specs.Given.{value_given}
use Rattle.c_abi.specs.Load.{IsEntryFault}
use Rattle.c_records.specs.EntryFaults.{IsEntrySound, IsEntryGivenFault}
use Rattle.c_records.specs.EntryFaults.{load_fault_of_given, load_fault_of_prep}
use Rattle.c_abi.specs.Load.{IsEntryLoaded, IsGivenLoadEnd, bad_entry}
use Rattle.c_records.specs.Machines.{IsMachineGiven, IsMachineSound}
use Rattle.c_abi.specs.internal.LoadEnds.{IsValueFault, LoadsValue}
use Rattle.c_abi.specs.internal.TakenEntries.{IsTakenFrom}
use Rattle.c_abi.proofs.ValueLemmas.{value_is}

-- an entry's value is the one that is given
pub given_value : {A : Type 0} (r : EntryRecord) (entry : Entry A)
    (texts files : List (List ℕ)) → value_of [] entry ≡ entry_without_files r
    → texts ≡ files → value_of texts entry ≡ value_with r files
given_value r entry texts files is same =
    value_is entry (entry_without_files r) texts files is same

-- as many files as are given
pub given_count : {V : Type 0} (bytes : V → List ℕ) (r : EntryRecord)
    (views : List V) → map bytes views ≡ texts_given r → length views ≡ length (files_given r)
given_count bytes r views is =
    sym (length-map views bytes) ∙ ap length is
    ∙ length-map (files_given r) (λ (file : FileRecord). file.bytes.now)

-- an entry within its limits has no misuse
pub entry_sound : {A : Type 0} (r : EntryRecord) (entry : Entry A)
    → value_of [] entry ≡ entry_without_files r → entry_misuse r ≡ None
    → IsWithinLimits entry → IsEntrySound r
unfolding IsWithinLimits
entry_sound r entry is names within =
    record { names = names; limits = subst HasLimits is within }

-- what is known of an entry that was taken
pub taken : {A : Type 0} (r : EntryRecord) (entry : Entry A)
    → value_of [] entry ≡ entry_without_files r → file_count entry ≡ length (files_given r)
    → IsWithinLimits entry → entry_misuse r ≡ None → IsTakenFrom r entry
taken r entry is count within names = record {
  value = is;
  count = count;
  limits = within;
  sound = entry_sound r entry is names within;
}

-- what is not taken is not loaded
pub of_given_is : (facts : MachineFacts) (r : EntryRecord) (texts : List (List ℕ)) (base : ℕ)
    (fault : GivenFault) → IsEntryGivenFault r fault
    → IsEntryFault facts r texts base (load_fault_of_given fault)
of_given_is facts r texts base (given_fault.Misused misuse) is = is
of_given_is facts r texts base given_fault.NoMemory is = tt

pub of_prepared_is : (facts : MachineFacts) (r : EntryRecord) (texts : List (List ℕ)) (base : ℕ)
    (value : EntryValue) (fault : PrepFault) → IsEntrySound r → value ≡ value_with r texts
    → IsPrepFault facts value fault → IsEntryFault facts r texts base (load_fault_of_prep fault)
of_prepared_is facts r texts base value (prep_fault.Refused refused) sound same is =
    (sound, subst (λ (v : EntryValue). IsRefusal facts v refused) same is)
of_prepared_is facts r texts base value prep_fault.NoMemory sound same is = tt

-- a value that is not prepared is not loaded
pub value_not_prepared : (facts : MachineFacts) (value : EntryValue) (base : ℕ)
    (fault : PrepFault) → IsPrepFault facts value fault
    → IsValueFault facts value base (load_fault_of_prep fault)
value_not_prepared facts value base (prep_fault.Refused refused) is = is
value_not_prepared facts value base prep_fault.NoMemory is = tt

-- the entry that has this value is not loaded either
pub of_value_is : (facts : MachineFacts) (r : EntryRecord) (texts : List (List ℕ)) (base : ℕ)
    (value : EntryValue) (fault : LoadFault) → IsEntrySound r → value ≡ value_with r texts
    → IsValueFault facts value base fault → IsEntryFault facts r texts base fault
of_value_is facts r texts base value (Misused misuse) sound same is = absurd is
of_value_is facts r texts base value (Refused refused) sound same is =
    (sound, subst (λ (v : EntryValue). IsRefusal facts v refused) same is)
of_value_is facts r texts base value Outside sound same is =
    (sound, subst (λ (v : EntryValue). IsValueFault facts v base Outside) same is)
of_value_is facts r texts base value NoMemory sound same is = tt

-- the first part begins below an address
pub first_is_low : {A : Type 0} (base : ℕ) (parts : List (PlannedPart A)) (d : PlannedPart A)
    → 0 < length parts → (get_or parts 0 d).place.address < base
    → ¬ All (λ place. base ≤ place.address) (map planned_place parts)
first_is_low base [] d some low = absurd (omega arith)
first_is_low base (p ∷ parts) d some low = λ above.
    let high : base ≤ p.place.address = above 0 p.place (omega arith) in
    let under : p.place.address < base = low in
    omega (arith, under, high)

-- it does not, and so none does, where they ascend
pub first_is_high : {A : Type 0} (base : ℕ) (parts : List (PlannedPart A)) (d : PlannedPart A)
    → 0 < length parts → base ≤ (get_or parts 0 d).place.address
    → AllPairs Ascends (map planned_place parts)
    → All (λ place. base ≤ place.address) (map planned_place parts)
first_is_high base [] d some high ascend k e within = absurd (omega arith)
first_is_high base (p ∷ parts) d some high ascend zero e within = high
first_is_high base (p ∷ parts) d some high ascend (suc k) e within =
    let from : base ≤ p.place.address = high in
    let up : Ascends p.place (get_or (map planned_place (p ∷ parts)) (suc k) e) =
    ascend 0 (suc k) e (omega arith) within in
    omega (arith, from, up)

-- if no part begins below an address, no place does
pub places_above : {A : Type 0} (texts : List (List ℕ)) (base : ℕ) (parts : List (PlannedPart A))
    → All (λ part. base ≤ part.address) (map (part_by texts) parts)
    → All (λ place. base ≤ place.address) (map planned_place parts)
places_above texts base parts above =
    All-map (λ (place : Place). base ≤ place.address) planned_place parts (λ k d within.
    subst (λ (p : Part). base ≤ p.address)
    (get_or-map (part_by texts) parts k d (part_by texts d) within)
    (above k (part_by texts d) (omega (arith, within, length-map parts (part_by texts)))))

-- a plan that fits into memory fits into larger memory
pub fits_larger : {A : Type 0} (lengths : List ℕ) (size larger : ℕ) (plan : Plan A)
    → size ≤ larger → IsLoadable lengths size plan → IsLoadable lengths larger plan
fits_larger lengths size larger plan grows loadable = record {
  backed = loadable.backed;
  inside = λ k d within. let end = loadable.inside k d within in omega (arith, end, grows);
  kept = loadable.kept;
}

-- where no place lies below the base, all that the places cover has room
pub have_room : (base : ℕ) (places : List Place) → All (λ place. base ≤ place.address) places
    → AllHaveRoom (λ a. base ≤ a) (map place_range places)
have_room base places above =
    All-map (λ (r : Range ℕ). HasRoom (λ a. base ≤ a) r.start r.end) place_range places
    (λ k d within a low high.
    let up = above k d within in
    let from : (get_or places k d).address ≤ a = low in omega (arith, up, from))

-- what is loaded of a value is loaded of the entry that has it
pub loads_entry : (facts : MachineFacts) (r : EntryRecord) (value : EntryValue) (base : ℕ)
    (old new : List ℕ) (result : Result HandoffFacts LoadFault) → value ≡ value_given r
    → LoadsValue facts value base old new result
    → IfOk result (IsEntryLoaded facts r base old new)
loads_entry facts r value base old new (Ok handoff) same loads = record {
  handover =
      subst
      (λ (v : EntryValue).
      IsHandover facts v
      (handover_in new handoff.protocol handoff.registers handoff.places))
      same loads.handover;
  after = loads.after;
  inside = loads.inside;
  above = loads.above;
}
loads_entry facts r value base old new (Err fault) same loads = tt

pub loads_not : (facts : MachineFacts) (r : EntryRecord) (value : EntryValue) (base : ℕ)
    (old new : List ℕ) (result : Result HandoffFacts LoadFault) → IsEntrySound r
    → value ≡ value_given r → LoadsValue facts value base old new result
    → IfErr result (IsEntryFault facts r (texts_given r) base)
loads_not facts r value base old new (Ok handoff) sound same loads = tt
loads_not facts r value base old new (Err fault) sound same loads =
    of_value_is facts r (texts_given r) base value fault sound same loads.fault

-- how a load on the machine that is given ends, by how that of its entry did
pub given_end : (machine : MachineRecord) (entry : EntryRecord) (room base : ℕ)
    (old new : List ℕ) (facts : MachineFacts) (result : Result HandoffFacts LoadFault)
    → max_parts ≤ room → IsMachineGiven machine facts → IsMachineSound machine
    → machine.size ≤ length old → OnOk result (IsEntrySound entry)
    → IfOk result (IsEntryLoaded facts entry base old new)
    → IfErr result (IsEntryFault facts entry (texts_given entry) base) → OnErr result (new ≡ old)
    → IsGivenLoadEnd machine entry room base old new result
given_end machine entry room base old new facts (Ok handoff) many is sound reaches entry_sound handed
    fault same = record {
      has_room = many;
      facts = facts;
      machine_is = is;
      machine_sound = sound;
      has_memory = reaches;
      entry_sound = entry_sound;
      handed = handed;
    }
given_end machine entry room base old new facts (Err found) many is sound reaches entry_sound handed
    fault same = (
      bad_entry many sound reaches found record { facts = facts; machine_is = is; is = fault },
      same,
    )
