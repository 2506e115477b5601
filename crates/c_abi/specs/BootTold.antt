-- What C is told of the end of a boot. Own.
use Rattle.std.specs.Prelude.{◌≡◌, ℕ, List, ◌++◌, length, map, take, drop, Result, Ok, Err}
use Rattle.bl_load.specs.HandoffFacts.{HandoffFacts}
use Rattle.bl_load.specs.declared.refused_entry.RefusedEntry.{RefusedEntry}
use Rattle.bl_session.specs.session.Phases.{PhaseFacts, not_started, waits, hands_over, has_none}
use Rattle.bl_session.specs.session.Phases.{lacks_memory}
use Rattle.c_records.specs.declared.end_records.PlaceRecord.{PlaceRecord}
use Rattle.c_records.specs.declared.end_records.HandoffRecord.{HandoffRecord}
use Rattle.c_records.specs.declared.end_records.RefusalRecord.{RefusalRecord}
use Rattle.c_records.specs.declared.given_fault.GivenFault.{GivenFault}
use Rattle.c_records.specs.EntryFaults.{load_fault_of_given}
use Rattle.c_records.specs.RefusalTold.{refusal_record}
use Rattle.c_records.specs.Status.{done_status, refused_status, no_memory_status, fault_status}
use Rattle.c_records.specs.LoadTold.{handoff_told, places_told}

abbrev pub refused_told : RefusedEntry → RefusalRecord
refused_told refused = refusal_record refused.entry refused.refusal

-- records whose first ones tell these refusals, as many as there is room for
abbrev pub refusals_told : List RefusedEntry → List RefusalRecord → List RefusalRecord
refusals_told refused old =
    map refused_told (take (length old) refused) ++ drop (length refused) old

-- what is told beside the status
pub record Telling : Type 0 where
  pub handoff : HandoffRecord
  pub places : List PlaceRecord
  pub refusals : List RefusalRecord
  pub count : ℕ

abbrev pub end_status : PhaseFacts → ℕ
end_status not_started = no_memory_status
end_status (waits entry rest earlier stage) = no_memory_status
end_status (hands_over entry earlier handoff) = done_status
end_status (has_none earlier) = refused_status
end_status lacks_memory = no_memory_status

-- what C is told of refusals, and how many there were
abbrev pub with_refusals : List RefusedEntry → Telling → Telling
with_refusals refused old = record {
  handoff = old.handoff;
  places = old.places;
  refusals = refusals_told refused old.refusals;
  count = length refused;
}

abbrev pub with_handoff : ℕ → HandoffFacts → Telling → Telling
with_handoff entry handoff old = record {
  handoff = handoff_told entry handoff;
  places = places_told handoff.places old.places;
  refusals = old.refusals;
  count = old.count;
}

abbrev pub end_told : PhaseFacts → Telling → Telling
end_told not_started old = old
end_told (waits entry rest earlier stage) old = old
end_told (hands_over entry earlier handoff) old =
    with_refusals earlier (with_handoff entry handoff old)
end_told (has_none earlier) old = with_refusals earlier old
end_told lacks_memory old = old

-- a status and what is told beside it
abbrev pub TellsBoot : Result PhaseFacts GivenFault → ℕ → (old new : Telling) → Type 0
TellsBoot (Ok end) status old new = (status ≡ end_status end) × (new ≡ end_told end old)
TellsBoot (Err fault) status old new =
    (status ≡ fault_status (load_fault_of_given fault)) × (new ≡ old)
