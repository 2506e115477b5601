use Rattle.std.proofs.Common.{◌≡◌, ◌≤◌, ◌*◌, All, length, map, take}
use Rattle.bl_load.specs.EntryValue.{IsWithinLimits}
use Rattle.bl_session.specs.menu.Menu.{facts_of}
use Rattle.c_records.specs.MenuGiven.{entries_facts, menu_files}
use Rattle.c_abi.proofs.menus.entries_of.Given as goal

-- the entries so far, each within its limits, and how many files they have
abbrev pub invariant-loop-record : goal.invariant-loop-record
invariant-loop-record g l = record {
  facts : map facts_of l.entries.items ≡ entries_facts 0 (take l.record-index l.records);
  count : l.before ≡ length (menu_files (take l.record-index l.records));
  few : l.before ≤ 65 * l.record-index;
  limits : All IsWithinLimits l.entries.items;
}
