-- An entry that was taken from a record of C's. Own.
use Rattle.std.specs.Prelude.{◌≡◌, [], length}
use Rattle.bl_load.specs.declared.entry.Entry.{Entry}
use Rattle.bl_load.specs.EntryValue.{value_of, file_count, IsWithinLimits}
use Rattle.c_records.specs.Given.{entry_without_files, files_given}
use Rattle.c_records.specs.EntryFaults.{IsEntrySound}
use Rattle.c_records.specs.declared.given_records.EntryRecord.{EntryRecord}

-- it has the record's value, but for its files' bytes, and the record may be given
pub record IsTakenFrom {A : Type 0} (row : EntryRecord) (entry : Entry A) : Type 0 where
  pub value : value_of [] entry ≡ entry_without_files row
  pub count : file_count entry ≡ length (files_given row)
  pub limits : IsWithinLimits entry
  pub sound : IsEntrySound row
