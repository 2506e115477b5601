-- What C is told of a part that finds no place. Own.
use Rattle.std.specs.Prelude.{◌≡◌, ◌-◌, ◌^◌, ℕ, nat_le, if◌then◌else◌, Option, Some, None, Result}
use Rattle.std.specs.Prelude.{Ok, Err}
use Rattle.bl_map.specs.Limits.{max_size}
use Rattle.bl_plan.specs.RoleNumbers.{role_number}
use Rattle.bl_plan.specs.declared.part.Choice.{Choice}
use Rattle.bl_plan.specs.declared.part.Choice.TheVariants.{Fixed, Lowest, Highest, Preferred}
use Rattle.bl_plan.specs.declared.part.Row.{Row}
use Rattle.c_records.specs.declared.end_records.RefusalRecord.{RefusalRecord}
use Rattle.c_records.specs.declared.load_fault.LoadFault.{LoadFault}
use Rattle.c_records.specs.declared.unplaced_record.UnplacedRecord.{UnplacedRecord}
use Rattle.c_records.specs.LoadTold.{after_fault}
use Rattle.c_records.specs.Status.{done_status, fault_status}

-- a length of at most 4 GiB; for one that no machine can hold the greatest number stands
abbrev pub length_told : ℕ → ℕ
length_told count = if nat_le count max_size then count else 2 ^ 64 - 1

-- which address is wanted: 1 this one, 2 the least permitted, 3 the greatest, 4 this one if it is
-- permitted and else the least
abbrev pub choice_number : Choice → ℕ
choice_number (Fixed at) = 1
choice_number (Lowest align low high) = 2
choice_number (Highest align low high) = 3
choice_number (Preferred at align low high) = 4

-- what it is a multiple of, where the part may begin, where it must end, and the address; 0 if the
-- choice says nothing of it
abbrev pub choice_alignment : Choice → ℕ
choice_alignment (Fixed at) = 0
choice_alignment (Lowest align low high) = align
choice_alignment (Highest align low high) = align
choice_alignment (Preferred at align low high) = align

abbrev pub choice_low : Choice → ℕ
choice_low (Fixed at) = 0
choice_low (Lowest align low high) = low
choice_low (Highest align low high) = low
choice_low (Preferred at align low high) = low

abbrev pub choice_high : Choice → ℕ
choice_high (Fixed at) = 0
choice_high (Lowest align low high) = high
choice_high (Highest align low high) = high
choice_high (Preferred at align low high) = high

abbrev pub choice_address : Choice → ℕ
choice_address (Fixed at) = at
choice_address (Lowest align low high) = 0
choice_address (Highest align low high) = 0
choice_address (Preferred at align low high) = at

abbrev pub row_told : Row → UnplacedRecord
row_told row = record {
  role = role_number row.role;
  index = row.index;
  length = length_told row.length;
  alignment = choice_alignment row.choice;
  low = choice_low row.choice;
  high = choice_high row.choice;
  address = choice_address row.choice;
  choice = choice_number row.choice;
  reserved = 0;
}

-- if each part has its place, all is 0
abbrev pub unplaced_told : Option Row → UnplacedRecord
unplaced_told None = record {
  role = 0;
  index = 0;
  length = 0;
  alignment = 0;
  low = 0;
  high = 0;
  address = 0;
  choice = 0;
  reserved = 0;
}
unplaced_told (Some row) = row_told row

-- a status, and the part or a fault; what is not told is as before
abbrev pub TellsUnplaced : Result (Option Row) LoadFault → ℕ → (old new : UnplacedRecord)
    → (refusal_old refusal : RefusalRecord) → Type 0
TellsUnplaced (Ok which) status old new refusal_old refusal =
    (status ≡ done_status) × (new ≡ unplaced_told which) × (refusal ≡ refusal_old)
TellsUnplaced (Err fault) status old new refusal_old refusal =
    (status ≡ fault_status fault) × (new ≡ old) × (refusal ≡ after_fault fault refusal_old)
