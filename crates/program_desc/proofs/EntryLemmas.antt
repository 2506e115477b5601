-- Faults of an entry and of its modules, and what an entry has.
use Rattle.std.proofs.Common.{◌≡◌, ◌≤◌, ◌<◌, ℕ, zero, suc, Bool, true, false, ◌&&◌, Option, Some, None}
use Rattle.std.proofs.Common.{Result, List, [], ◌∷◌, ◌++◌, length, map, refl, sym, ◌∙◌, arith, All, inl, inr}
use Rattle.std.specs.Prelude.{codes, nat_le, nat_lt, slice_get, IfSome}
use Rattle.std.specs.Option.{IsSomeAnd}
use Rattle.std.proofs.lemmas.Bool.{cases_Bool}
use Rattle.std.proofs.lemmas.Bool.Decides.{nat_tests}
use Rattle.std.proofs.lemmas.List.{length-map}
use Rattle.std.proofs.lemmas.List.Elements.{All-nil, All-cons}
use Rattle.toml.specs.Data.{Data, string, integer, float, boolean, datetime, array, table, Items}
use Rattle.toml.specs.Data.{no_items, item, Members, get_member, as_array, as_table}
use Rattle.bl_plan.specs.MenuLimits.{max_entries, max_modules}
use Rattle.bl_plan.specs.declared.protocol.Protocol.{Protocol}
use Rattle.bl_plan.specs.declared.protocol.Protocol.TheVariants.{Multiboot2, Linux, Linux64}
use Rattle.program_desc.specs.TomlValues.{◌>>=◌, at_key, at_key_if, at_key_or, each_item, if_given}
use Rattle.program_desc.specs.TomlValues.{in_table, in_tables, optional, required, some_when, toml_bytes}
use Rattle.program_desc.specs.TomlValues.{toml_index, toml_indices, toml_number, toml_text}
use Rattle.program_desc.specs.Entries.{Entry, Form, form_in, is_menu, is_rsdp_copy}
use Rattle.program_desc.specs.Entries.{has_few_modules, menu_entry_in, module_in, toml_entries, toml_modules, toml_protocol}
use Rattle.program_desc.specs.Entries.{toml_rsdp_copy}
use Rattle.program_desc.specs.Entries.{HasCopyLength}
use Rattle.program_desc.specs.Entries.{module_view}
use Rattle.program_desc.specs.Allowed.{allows, item_count}
use Rattle.program_desc.specs.KeyRules.{KeyRule, common_entry_rules, key_rules, multiboot2_rules}
use Rattle.program_desc.specs.KeyRules.{linux_rules, optional_key, required_key, set_of_protocol}
use Rattle.program_desc.specs.BadKeys.{IsBadKey, IsFaultAt, item_at, entry_set}
use Rattle.program_desc.specs.BadKeys.{item_count_or_zero}
use Rattle.program_desc.specs.TableFaults.{IsTableFault, ReadsAs}
use Rattle.program_desc.specs.internal.EntryReading.{IsEntryBad, IsEntryFaultAt, IsEntryItemBad}
use Rattle.program_desc.specs.internal.EntryReading.{IsEntryItemFaultAt, entry_set_in}
use Rattle.program_desc.specs.internal.TableReading.{BreaksAt, HasBadItem, IsBadTable, IsFaultOf}
use Rattle.program_desc.specs.internal.TableReading.{IsNoTable, array_by}
use Rattle.program_desc.specs.declared.allowed.Allowed.TheVariants.{EntryTables, ModuleTables, ProtocolName}
use Rattle.program_desc.specs.declared.bad_key.BadKey.{BadKey}
use Rattle.program_desc.specs.declared.bad_key.KeyFault.{KeyFault}
use Rattle.program_desc.specs.Views.{entry_view}
use Rattle.program_desc.specs.declared.entry_row.EntryRow.{EntryRow}
use Rattle.program_desc.specs.declared.entry_form.ModuleRow.{ModuleRow}
use Rattle.program_desc.specs.declared.bad_key.TablePlace.{TablePlace}
use Rattle.program_desc.specs.declared.bad_key.TablePlace.TheVariants as places
use Rattle.program_desc.specs.declared.key_set.KeySet.{KeySet}
use Rattle.program_desc.specs.declared.key_set.KeySet.TheVariants as keys
use Rattle.program_desc.specs.declared.table_fault.TableFault.{TableFault}
use Rattle.program_desc.specs.declared.table_fault.TableFault.TheVariants as faults
use Rattle.program_desc.proofs.ArrayLemmas.{at_table, each_counted, given_item, items_allowed}
use Rattle.program_desc.proofs.ArrayLemmas.{optional_items, required_items, tested_items}
use Rattle.program_desc.proofs.FaultLemmas.{at_rule, must_stand, read_as}
use Rattle.program_desc.proofs.ItemLemmas.{is_table, table_fault}

-- ---- bad keys

-- a fault of an entry's table
pub at_entry : (set : KeySet) (i : ℕ) (ms : Members) (bad : BadKey)
    → IsFaultOf (places.Entry i) set ms bad → IsEntryBad set i ms bad
at_entry set i ms bad h = rw h.0 (refl, h.1)

-- a broken rule of those of its keys
pub entry_rule : (set : KeySet) (n : ℕ) (rule : KeyRule) (i : ℕ) (ms : Members)
    → slice_get (key_rules 0 set) n ≡ Some rule → (bad : BadKey)
    → BreaksAt (places.Entry i) rule ms bad → IsEntryBad set i ms bad
entry_rule set n rule i ms is bad h =
    at_entry set i ms bad (at_rule set n rule (places.Entry i) ms is bad h)

front_get : (rules more : List KeyRule) (n : ℕ) (rule : KeyRule) → slice_get rules n ≡ Some rule
    → slice_get (rules ++ more) n ≡ Some rule
front_get [] more n rule is = absurd (cc is)
front_get (r ∷ rules) more zero rule is = is
front_get (r ∷ rules) more (suc n) rule is = front_get rules more n rule is

-- the same of a key that each entry has
pub common_rule : (protocol : Protocol) (n : ℕ) (rule : KeyRule) (i : ℕ) (ms : Members)
    → slice_get common_entry_rules n ≡ Some rule → (bad : BadKey)
    → BreaksAt (places.Entry i) rule ms bad
    → IsEntryBad (set_of_protocol (Some protocol)) i ms bad
common_rule Multiboot2 n rule i ms is =
    entry_rule keys.Multiboot2Entry n rule i ms
    (front_get common_entry_rules multiboot2_rules n rule is)
common_rule Linux n rule i ms is =
    entry_rule keys.LinuxEntry n rule i ms (front_get common_entry_rules linux_rules n rule is)
common_rule Linux64 n rule i ms is =
    entry_rule keys.LinuxEntry n rule i ms (front_get common_entry_rules linux_rules n rule is)

-- a bad module
pub at_module : (i : ℕ) (rule : KeyRule) (ms : Members) (ds : Items) → rule.key ≡ codes "module"
    → array_by rule ms ≡ Some ds → (bad : BadKey)
    → HasBadItem (IsBadTable (places.Module i) keys.Module) ds bad
    → IsEntryBad keys.Multiboot2Entry i ms bad
at_module i rule ms ds named is bad h =
    at_table (IsEntryFaultAt keys.Multiboot2Entry i ms) (places.Module i) keys.Module rule ms ds
    (λ j fault f. (refl, rw named at f)) is bad h

-- an entry's fault is one of the value that it is
entry_fault : (i : ℕ) (ms : Members) (place : TablePlace) (fault : KeyFault)
    → IsEntryFaultAt (entry_set_in ms) i ms place fault
    → IsEntryItemFaultAt i (table ms) place fault
entry_fault i ms places.Description fault h = h
entry_fault i ms (places.Region k) fault h = h
entry_fault i ms places.Firmware fault h = h
entry_fault i ms places.Screen fault h = h
entry_fault i ms places.Efi fault h = h
entry_fault i ms places.Smbios fault h = h
entry_fault i ms (places.Avoided k) fault h = h
entry_fault i ms (places.File k) fault h = h
entry_fault i ms (places.Entry k) fault h = (h.0, table_fault (entry_set_in ms) ms fault h.1)
entry_fault i ms (places.Module k j) fault h = h

pub by_entry : {X : Type 0} (seen : X → Entry) (i : ℕ) (d : Data) (ms : Members)
    (result : Result X TableFault) → as_table d ≡ Some ms
    → ReadsAs seen (IsEntryBad (entry_set_in ms) i ms) result (menu_entry_in ms)
    → ReadsAs seen (IsEntryItemBad i d) result (in_table menu_entry_in d)
by_entry seen i d ms result is h =
    rw (is_table d ms is) (read_as seen _ _ result (menu_entry_in ms) (menu_entry_in ms) refl
    (λ bad fault. entry_fault i ms bad.table bad.fault fault) h)

-- an entry that is no table
pub entry_no_table : (i : ℕ) (d : Data) (bad : BadKey) → IsNoTable (places.Entry i) d bad
    → IsEntryItemBad i d bad
entry_no_table i d bad h = rw h.0 (refl, h.1 (entry_set d))

-- a bad entry, or a module of one
menu_at : (ms : Members) (i : ℕ) (place : TablePlace) (fault : KeyFault) (o : Option Data)
    → item_at (codes "entry") i ms ≡ o → IsSomeAnd o (λ d. IsEntryItemFaultAt i d place fault)
    → IsFaultAt ms place fault
menu_at ms i place fault None is h = absurd h
menu_at ms i places.Description fault (Some d) is h = absurd h
menu_at ms i (places.Region k) fault (Some d) is h = absurd h
menu_at ms i places.Firmware fault (Some d) is h = absurd h
menu_at ms i places.Screen fault (Some d) is h = absurd h
menu_at ms i places.Efi fault (Some d) is h = absurd h
menu_at ms i places.Smbios fault (Some d) is h = absurd h
menu_at ms i (places.Avoided k) fault (Some d) is h = absurd h
menu_at ms i (places.File k) fault (Some d) is h = absurd h
menu_at ms i (places.Entry k) fault (Some d) is h = rw (h.0, is) h.1
menu_at ms i (places.Module k j) fault (Some d) is h = rw (h.0, is) h.1

pub at_menu : (rule : KeyRule) (ms : Members) (ds : Items) → rule.key ≡ codes "entry"
    → array_by rule ms ≡ Some ds → (bad : BadKey) → HasBadItem IsEntryItemBad ds bad
    → IsBadKey ms bad
at_menu rule ms ds named is bad h =
    let there = rw (given_item rule ms ds h.0 is, named) at h.1 in
    menu_at ms h.0 bad.table bad.fault (item_at (codes "entry") h.0 ms) refl there

-- an entry whose protocol is not read
pub protocol_fails : {Y : Type 0} (i : ℕ) (ms : Members) (fault : TableFault)
    (rest : Protocol → Option Y)
    → IsTableFault (BreaksAt (places.Entry i) (required_key (codes "protocol") ProtocolName) ms)
    fault (at_key toml_protocol (codes "protocol") ms)
    → IsTableFault (IsEntryBad (entry_set_in ms) i ms) fault
    (at_key toml_protocol (codes "protocol") ms >>= rest)
protocol_fails i ms faults.NoMemory rest h = tt
protocol_fails i ms (faults.BadKey bad) rest h =
    let none = must_stand toml_protocol (get_member (codes "protocol") ms) ∙ h.0 in (
      rw h.0 refl,
      rw none (entry_rule keys.Entry 1 (required_key (codes "protocol") ProtocolName) i ms refl bad h.1),
    )

-- the keys of an entry whose protocol is read
pub set_is : (ms : Members) (protocol : Protocol)
    → at_key toml_protocol (codes "protocol") ms ≡ Some protocol
    → entry_set_in ms ≡ set_of_protocol (Some protocol)
set_is ms protocol is =
    rw (must_stand toml_protocol (get_member (codes "protocol") ms), is) refl

-- ---- what an entry has

-- what the first of two steps gave, where the second gave something
step : {A B : Type 0} (x : Option A) (f : A → Option B) (y : B) → (x >>= f) ≡ Some y
    → (a : A) × ((x ≡ Some a) × (f a ≡ Some y))
step None f y h = absurd (cc h)
step (Some a) f y h = (a, (refl, h))

-- what holds of a thing holds of the same thing
of_same : {A : Type 0} (P : A → Type 0) (x y : A) → Some x ≡ Some y → P x → P y
of_same P x y h holds =
    let same : x ≡ y = cc h in rw (← same) holds

-- what was given passed the test
passed : {A : Type 0} (test : A → Bool) (x y : A) → some_when test x ≡ Some y → test y ≡ true
passed test x y h =
    elim (cases_Bool (test x)) [
      | inl is ↦ of_same (λ z. test z ≡ true) x y (rw is at h) is
      | inr other ↦ absurd (cc (rw other at h))
    ]

-- a test gives what it tests
some_of_test : {A : Type 0} (test : A → Bool) (x y : A) → some_when test x ≡ Some y
    → Some x ≡ Some y
some_of_test test x y h =
    elim (cases_Bool (test x)) [
      | inl is ↦ rw is at h
      | inr other ↦ absurd (cc (rw other at h))
    ]

copy_length : (copy : List ℕ) → is_rsdp_copy copy ≡ true → HasCopyLength copy
copy_length copy h = (grind (arith, nat_tests), grind (arith, nat_tests))

copy_in : (o : Option Data) (copy : Option (List ℕ)) → if_given toml_rsdp_copy o ≡ Some copy
    → IfSome copy HasCopyLength
copy_in None copy h = of_same (λ c. IfSome c HasCopyLength) None copy h tt
copy_in (Some d) copy h =
    let read = step (toml_rsdp_copy d) (λ c. Some (Some c)) copy h in
    let bytes = step (toml_bytes d) (some_when is_rsdp_copy) read.0 read.1.0 in
    of_same (λ c. IfSome c HasCopyLength) (Some read.0) copy read.1.1
    (copy_length read.0 (passed is_rsdp_copy bytes.0 read.0 bytes.1.1))

abbrev HaveCopyLength : Form → Type 0
HaveCopyLength form = IfSome form.rsdp_old HasCopyLength × IfSome form.rsdp_new HasCopyLength

-- the copies of what an entry has
pub copies_of : (protocol : Protocol) (ms : Members) (form : Form)
    → form_in protocol ms ≡ Some form
    → IfSome form.rsdp_old HasCopyLength × IfSome form.rsdp_new HasCopyLength
copies_of Multiboot2 ms form h =
    let modules = step (at_key_or [] toml_modules (codes "module") ms) _ form h in
    let old = step (at_key_if toml_rsdp_copy (codes "rsdp_old") ms) _ form modules.1.1 in
    let new = step (at_key_if toml_rsdp_copy (codes "rsdp_new") ms) _ form old.1.1 in
    of_same HaveCopyLength _ form new.1.1 (
      copy_in (get_member (codes "rsdp_old") ms) old.0 old.1.0,
      copy_in (get_member (codes "rsdp_new") ms) new.0 new.1.0,
    )
copies_of Linux ms form h =
    let initrd = step (at_key_if toml_text (codes "initrd") ms) _ form h in
    of_same HaveCopyLength _ form initrd.1.1 (tt, tt)
copies_of Linux64 ms form h =
    let initrd = step (at_key_if toml_text (codes "initrd") ms) _ form h in
    of_same HaveCopyLength _ form initrd.1.1 (tt, tt)

-- ---- a menu

few : (n : ℕ) → (nat_le 1 n && nat_le n max_entries) ≡ true → (1 ≤ n) × (n ≤ max_entries)
few n h = (grind (arith, nat_tests), grind (arith, nat_tests))

pub entries_few : (o : Option Data) (entries : List Entry)
    → required toml_entries o ≡ Some entries
    → (1 ≤ length entries) × (length entries ≤ max_entries)
unfolding toml_entries
entries_few None entries h = absurd (cc h)
entries_few (Some d) entries h =
    let read = step (in_tables menu_entry_in d) (some_when is_menu) entries h in
    few (length entries) (passed is_menu read.0 entries read.1.1)

-- as many entries as items
pub entries_counted : (o : Option Data) (entries : List Entry)
    → required toml_entries o ≡ Some entries
    → length entries ≡ item_count_or_zero (o >>= as_array)
unfolding toml_entries
entries_counted None entries h = absurd (cc h)
entries_counted (Some (array ds)) entries h =
    let read = step (each_item (in_table menu_entry_in) ds) (some_when is_menu) entries h in
    let tested = read.1.1 in
    of_same (λ es. length es ≡ item_count ds) read.0 entries
    (some_of_test is_menu read.0 entries tested)
    (each_counted (in_table menu_entry_in) ds read.0 read.1.0)
entries_counted (Some (string s)) entries h = absurd (cc h)
entries_counted (Some (integer z)) entries h = absurd (cc h)
entries_counted (Some (float x)) entries h = absurd (cc h)
entries_counted (Some (boolean b)) entries h = absurd (cc h)
entries_counted (Some (datetime t)) entries h = absurd (cc h)
entries_counted (Some (table ms)) entries h = absurd (cc h)

-- ---- indices

below : (count : ℕ) (d : Data) (n : ℕ) → toml_index count d ≡ Some n → n < count
below count d n h =
    let read = step (toml_number d) (some_when (λ m. nat_lt m count)) n h in
    let test : nat_lt n count ≡ true = passed (λ m. nat_lt m count) read.0 n read.1.1 in
    grind (arith, nat_tests)

all_below : (count : ℕ) (ds : Items) (ns : List ℕ) → each_item (toml_index count) ds ≡ Some ns
    → All (λ n. n < count) ns
all_below count no_items ns h =
    of_same (All (λ n. n < count)) [] ns h (All-nil (λ n. n < count))
all_below count (item d ds) ns h =
    let one = step (toml_index count d) _ ns h in
    let more = step (each_item (toml_index count) ds) _ ns one.1.1 in
    of_same (All (λ n. n < count)) _ ns more.1.1
    (All-cons (λ n. n < count) one.0 more.0 (below count d one.0 one.1.0)
    (all_below count ds more.0 more.1.0))

indices_below : (count : ℕ) (d : Data) (ns : List ℕ) → toml_indices count d ≡ Some ns
    → All (λ n. n < count) ns
indices_below count (array ds) ns h = all_below count ds ns h
indices_below count (string s) ns h = absurd (cc h)
indices_below count (integer z) ns h = absurd (cc h)
indices_below count (float x) ns h = absurd (cc h)
indices_below count (boolean b) ns h = absurd (cc h)
indices_below count (datetime dt) ns h = absurd (cc h)
indices_below count (table ms) ns h = absurd (cc h)

pub default_below : (count : ℕ) (o : Option Data) (n : ℕ) → 1 ≤ count
    → optional (toml_index count) 0 o ≡ Some n → n < count
default_below count None n some h = of_same (λ m. m < count) 0 n h (omega (arith, some))
default_below count (Some d) n some h = below count d n h

pub fallbacks_below : (count : ℕ) (o : Option Data) (ns : List ℕ)
    → optional (toml_indices count) [] o ≡ Some ns → All (λ n. n < count) ns
fallbacks_below count None ns h =
    of_same (All (λ n. n < count)) [] ns h (All-nil (λ n. n < count))
fallbacks_below count (Some d) ns h = indices_below count d ns h

-- what is read has a menu
pub menu_by : {A : Type 0} (entries : List (EntryRow A)) (default : ℕ) (fallbacks : List ℕ)
    (ms : Members) → at_key toml_entries (codes "entry") ms ≡ Some (map entry_view entries)
    → at_key_or 0 (toml_index (length (map entry_view entries))) (codes "default") ms ≡ Some default
    → at_key_or [] (toml_indices (length (map entry_view entries))) (codes "fallback") ms
    ≡ Some fallbacks
    → (1 ≤ length entries) × (length entries ≤ max_entries) × (default < length entries)
    × All (λ index. index < length entries) fallbacks
menu_by entries default fallbacks ms read first others =
    let some = rw length-map at (entries_few (get_member (codes "entry") ms) _ read) in
    let first_read = rw length-map at first in
    let others_read = rw length-map at others in (
      some.0,
      some.1,
      default_below _ (get_member (codes "default") ms) default some.0 first_read,
      fallbacks_below _ (get_member (codes "fallback") ms) fallbacks others_read,
    )

-- ---- arrays of an entry and of a menu

abbrev module_rule : KeyRule
module_rule = optional_key (codes "module") ModuleTables

abbrev entry_array_rule : KeyRule
entry_array_rule = required_key (codes "entry") EntryTables

many : (n : ℕ) → (nat_le 0 n && nat_le n max_modules) ≡ false → nat_le n max_modules ≡ false
many n h = grind (arith, nat_tests)

not_many : (n : ℕ) → (nat_le 0 n && nat_le n max_modules) ≡ true → nat_le n max_modules ≡ true
not_many n h = grind (arith, nat_tests)

pub modules_none : (d : Data) → allows ModuleTables d ≡ false → toml_modules d ≡ None
unfolding toml_modules
modules_none (array ds) h =
    tested_items (in_table module_in) has_few_modules ds false
    (λ xs same. rw same (many (item_count ds) h))
modules_none (string s) h = refl
modules_none (integer z) h = refl
modules_none (float x) h = refl
modules_none (boolean b) h = refl
modules_none (datetime t) h = refl
modules_none (table ms) h = refl

pub modules_read : (ms : Members) (ds : Items) → array_by module_rule ms ≡ Some ds
    → each_item (in_table module_in) ds ≡ at_key_or [] toml_modules (codes "module") ms
unfolding toml_modules
modules_read ms ds h =
    let all = items_allowed module_rule ms ds tt (λ none. refl) h in
    sym (tested_items (in_table module_in) has_few_modules ds true
    (λ xs same. rw same (not_many (item_count ds) all)))
    ∙ optional_items module_rule ms ds toml_modules
    (λ es. each_item (in_table module_in) es >>= some_when has_few_modules) [] tt refl
    (λ es. refl) refl h

pub modules_few : {A : Type 0} (ms : Members) (ds : Items) (rows : List (ModuleRow A))
    → array_by module_rule ms ≡ Some ds
    → each_item (in_table module_in) ds ≡ Some (map module_view rows) → length rows ≤ 64
modules_few ms ds rows h read =
    let all = items_allowed module_rule ms ds tt (λ none. refl) h in
    let few = not_many (item_count ds) all in
    let same = rw length-map at (each_counted (in_table module_in) ds (map module_view rows) read) in
    let within : nat_le (length rows) max_modules ≡ true = rw same few in
    grind (arith, nat_tests)

pub entries_none : (d : Data) → allows EntryTables d ≡ false → toml_entries d ≡ None
unfolding toml_entries
entries_none (array ds) h =
    tested_items (in_table menu_entry_in) is_menu ds false (λ xs same. rw same h)
entries_none (string s) h = refl
entries_none (integer z) h = refl
entries_none (float x) h = refl
entries_none (boolean b) h = refl
entries_none (datetime t) h = refl
entries_none (table ms) h = refl

pub entries_read : (ms : Members) (ds : Items) → array_by entry_array_rule ms ≡ Some ds
    → each_item (in_table menu_entry_in) ds ≡ at_key toml_entries (codes "entry") ms
unfolding toml_entries
entries_read ms ds h =
    let all = items_allowed entry_array_rule ms ds tt (λ none. absurd (cc none)) h in
    sym (tested_items (in_table menu_entry_in) is_menu ds true (λ xs same. rw same all))
    ∙ required_items entry_array_rule ms ds toml_entries
    (λ es. each_item (in_table menu_entry_in) es >>= some_when is_menu) tt refl (λ es. refl) h
