-- What C is told of registers, places and refusals. Own.
use Rattle.std.specs.Prelude.{◌≡◌, ℕ, List, [], ◌∷◌, length, map, drop, ◌++◌, Result, Ok, Err}
use Rattle.bl_plan.specs.declared.part.Place.{Place}
use Rattle.bl_plan.specs.RoleNumbers.{role_number}
use Rattle.bl_plan.specs.Protocols.{protocol_number}
use Rattle.bl_load.specs.HandoffFacts.{HandoffFacts}
use Rattle.bl_load.specs.declared.registers.Registers.{Registers}
use Rattle.bl_load.specs.declared.registers.Registers.TheVariants.{Bits32, Bits64}
use Rattle.bl_load.specs.declared.registers.Registers32.{Registers32}
use Rattle.bl_load.specs.declared.registers64.Registers64.{Registers64}
use Rattle.c_records.specs.declared.end_records.RegistersRecord.{RegistersRecord}
use Rattle.c_records.specs.declared.end_records.PlaceRecord.{PlaceRecord}
use Rattle.c_records.specs.declared.end_records.HandoffRecord.{HandoffRecord}
use Rattle.c_records.specs.declared.end_records.RefusalRecord.{RefusalRecord}
use Rattle.c_records.specs.declared.load_fault.LoadFault.{LoadFault}
use Rattle.c_records.specs.declared.load_fault.LoadFault.TheVariants.{Misused, Refused, NoMemory}
use Rattle.c_records.specs.declared.load_fault.LoadFault.TheVariants.{Outside}
use Rattle.c_records.specs.RefusalTold.{refusal_record}
use Rattle.c_records.specs.Status.{done_status, fault_status}

-- words that may get a meaning later
abbrev pub no_words : List ℕ
no_words = 0 ∷ 0 ∷ 0 ∷ 0 ∷ []

-- registers of 32 bits, under the names of 64
abbrev pub told_32 : Registers32 → RegistersRecord
told_32 r = record {
  bits = 32;
  rip = r.eip;
  rax = r.eax;
  rbx = r.ebx;
  rcx = r.ecx;
  rdx = r.edx;
  rsi = r.esi;
  rdi = r.edi;
  rbp = r.ebp;
  rsp = r.esp;
  r8 = 0;
  r9 = 0;
  r10 = 0;
  r11 = 0;
  r12 = 0;
  r13 = 0;
  r14 = 0;
  r15 = 0;
  rflags = r.eflags;
  cr0 = r.cr0;
  cr3 = 0;
  cr4 = 0;
  efer = 0;
  cs = r.cs;
  ds = r.ds;
  es = r.es;
  fs = r.fs;
  gs = r.gs;
  ss = r.ss;
  gdt_base = r.gdt_base;
  gdt_limit = r.gdt_limit;
  a20 = r.a20;
  reserved = no_words;
}

abbrev pub told_64 : Registers64 → RegistersRecord
told_64 r = record {
  bits = 64;
  rip = r.rip;
  rax = r.rax;
  rbx = r.rbx;
  rcx = r.rcx;
  rdx = r.rdx;
  rsi = r.rsi;
  rdi = r.rdi;
  rbp = r.rbp;
  rsp = r.rsp;
  r8 = r.r8;
  r9 = r.r9;
  r10 = r.r10;
  r11 = r.r11;
  r12 = r.r12;
  r13 = r.r13;
  r14 = r.r14;
  r15 = r.r15;
  rflags = r.rflags;
  cr0 = r.cr0;
  cr3 = r.cr3;
  cr4 = r.cr4;
  efer = r.efer;
  cs = r.cs;
  ds = r.ds;
  es = r.es;
  fs = r.fs;
  gs = r.gs;
  ss = r.ss;
  gdt_base = r.gdt_base;
  gdt_limit = r.gdt_limit;
  a20 = r.a20;
  reserved = no_words;
}

abbrev pub registers_told : Registers → RegistersRecord
registers_told (Bits32 r) = told_32 r
registers_told (Bits64 r) = told_64 r

abbrev pub place_told : Place → PlaceRecord
place_told place = record {
  role = role_number place.role;
  index = place.index;
  address = place.address;
  length = place.length;
  reserved = 0;
}

-- what is handed over of the entry with this index
abbrev pub handoff_told : ℕ → HandoffFacts → HandoffRecord
handoff_told entry handoff = record {
  entry = entry;
  protocol = protocol_number handoff.protocol;
  places = length handoff.places;
  reserved = 0;
  registers = registers_told handoff.registers;
}

-- records whose first ones tell these places, the others as they were
abbrev pub places_told : List Place → List PlaceRecord → List PlaceRecord
places_told places old = map place_told places ++ drop (length places) old

-- the record of a refusal after a fault: another fault than a refusal leaves it as it was
abbrev pub after_fault : LoadFault → RefusalRecord → RefusalRecord
after_fault (Misused misuse) old = old
after_fault (Refused refused) old = refusal_record 0 refused
after_fault NoMemory old = old
after_fault Outside old = old

-- what C is told of the end of a load: a status, and in its records the handoff and the places, or
-- the refusal
pub record TellsHandoff (handoff : HandoffFacts) (status : ℕ) (told : HandoffRecord)
    (places_old places : List PlaceRecord) (refusal_old refusal : RefusalRecord) : Type 0 where
  pub status_is : status ≡ done_status
  pub handoff_is : told ≡ handoff_told 0 handoff
  pub places_are : places ≡ places_told handoff.places places_old
  pub refusal_is : refusal ≡ refusal_old

pub record TellsFault (fault : LoadFault) (status : ℕ) (told_old told : HandoffRecord)
    (places_old places : List PlaceRecord) (refusal_old refusal : RefusalRecord) : Type 0 where
  pub status_is : status ≡ fault_status fault
  pub handoff_is : told ≡ told_old
  pub places_are : places ≡ places_old
  pub refusal_is : refusal ≡ after_fault fault refusal_old

abbrev pub TellsEnd : Result HandoffFacts LoadFault → ℕ → (told_old told : HandoffRecord)
    → (places_old places : List PlaceRecord) → (refusal_old refusal : RefusalRecord) → Type 0
TellsEnd (Ok handoff) status told_old told places_old places refusal_old refusal =
    TellsHandoff handoff status told places_old places refusal_old refusal
TellsEnd (Err fault) status told_old told places_old places refusal_old refusal =
    TellsFault fault status told_old told places_old places refusal_old refusal
