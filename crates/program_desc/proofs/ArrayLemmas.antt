-- Arrays at keys: which are read, and their bad items.
use Rattle.std.proofs.Common.{◌≡◌, ℕ, suc, Bool, true, false, ◌&&◌, not, Option, Some, None}
use Rattle.std.proofs.Common.{Bor, List, [], ◌∷◌, length, refl, sym, ap, ◌∙◌, arith}
use Rattle.std.specs.Prelude.{codes, nat_le, if◌then◌else◌, is_some}
use Rattle.std.specs.Option.{IsSomeAnd, ok_or}
use Rattle.std.proofs.Math.Bool.{true≢false}
use Rattle.std.proofs.lemmas.Bool.Decides.{nat_tests}
use Rattle.toml.specs.Data.{Data, string, integer, float, boolean, datetime, array, table, Items}
use Rattle.toml.specs.Data.{no_items, item, Members, get_item, get_member, at, as_array}
use Rattle.toml.specs.View.{view, items_view}
use Rattle.toml.specs.declared.value.Value.{Value}
use Rattle.program_desc.specs.TomlValues.{◌>>=◌, array_of, at_key, each_item, optional}
use Rattle.program_desc.specs.TomlValues.{range_in, required, some_when, toml_range}
use Rattle.program_desc.specs.Allowed.{allows, item_count}
use Rattle.program_desc.specs.KeyRules.{KeyRule, required_key, with_items}
use Rattle.program_desc.specs.BadKeys.{BreaksRule, IsItemFault}
use Rattle.program_desc.specs.internal.TableReading.{AllowsArrays, BreaksAt, HasBadItem, IsBadItem}
use Rattle.program_desc.specs.internal.TableReading.{IsBadTable, IsItemFaultAt, allows_count}
use Rattle.program_desc.specs.internal.TableReading.{array_by, array_items, number_item, passes, passes_at}
use Rattle.program_desc.specs.internal.TableReading.{rule_view}
use Rattle.program_desc.specs.TableFaults.{IsTableFault, ReadsAs}
use Rattle.program_desc.specs.declared.key_table.Key.{Key}
use Rattle.program_desc.specs.declared.table_fault.TableFault.TheVariants as faults
use Rattle.program_desc.specs.declared.allowed.Allowed.{Allowed}
use Rattle.program_desc.specs.declared.allowed.Allowed.TheVariants.{Number, Byte, IndexBelow}
use Rattle.program_desc.specs.declared.allowed.Allowed.TheVariants.{TwoNumbers, Indices, Tables}
use Rattle.program_desc.specs.declared.allowed.Allowed.TheVariants.{EntryTables, ModuleTables}
use Rattle.program_desc.specs.declared.allowed.Allowed.TheVariants.{AnyText}
use Rattle.program_desc.specs.declared.allowed.Allowed.TheVariants.{Title, KindName, ProtocolName}
use Rattle.program_desc.specs.declared.allowed.Allowed.TheVariants.{HexText, CopyText}
use Rattle.program_desc.specs.declared.allowed.Allowed.TheVariants.{Word, OneTable, Color}
use Rattle.program_desc.specs.declared.allowed.Allowed.TheVariants as rules
use Rattle.program_desc.specs.declared.bad_key.BadKey.{BadKey}
use Rattle.program_desc.specs.declared.bad_key.KeyFault.{KeyFault}
use Rattle.program_desc.specs.declared.bad_key.KeyFault.TheVariants.{NoTable, Unknown, Missing}
use Rattle.program_desc.specs.declared.bad_key.KeyFault.TheVariants.{BadValue, BadItem, SameName}
use Rattle.program_desc.specs.declared.bad_key.TablePlace.{TablePlace}
use Rattle.program_desc.specs.declared.bad_key.TablePlace.TheVariants as places
use Rattle.program_desc.specs.declared.key_set.KeySet.{KeySet}

-- ---- what is an array

-- an array is allowed by how many items it has
pub counted : (allowed : Allowed) (d : Data) (ds : Items) → AllowsArrays allowed
    → as_array d ≡ Some ds → allows allowed d ≡ allows_count allowed (item_count ds)
counted TwoNumbers d ds ok is = rw is refl
counted Indices d ds ok is = rw is refl
counted Tables d ds ok is = rw is refl
counted EntryTables d ds ok is = rw is refl
counted ModuleTables d ds ok is = rw is refl
counted Number d ds ok is = absurd ok
counted Byte d ds ok is = absurd ok
counted (IndexBelow n) d ds ok is = absurd ok
counted AnyText d ds ok is = absurd ok
counted Title d ds ok is = absurd ok
counted KindName d ds ok is = absurd ok
counted ProtocolName d ds ok is = absurd ok
counted HexText d ds ok is = absurd ok
counted CopyText d ds ok is = absurd ok
counted Word d ds ok is = absurd ok
counted OneTable d ds ok is = absurd ok
counted rules.EfiBits d ds ok is = absurd ok
counted rules.SecureBoot d ds ok is = absurd ok
counted Color d ds ok is = absurd ok

pub no_array : (allowed : Allowed) (d : Data) → AllowsArrays allowed → as_array d ≡ None
    → allows allowed d ≡ false
no_array TwoNumbers d ok is = rw is refl
no_array Indices d ok is = rw is refl
no_array Tables d ok is = rw is refl
no_array EntryTables d ok is = rw is refl
no_array ModuleTables d ok is = rw is refl
no_array Number d ok is = absurd ok
no_array Byte d ok is = absurd ok
no_array (IndexBelow n) d ok is = absurd ok
no_array AnyText d ok is = absurd ok
no_array Title d ok is = absurd ok
no_array KindName d ok is = absurd ok
no_array ProtocolName d ok is = absurd ok
no_array HexText d ok is = absurd ok
no_array CopyText d ok is = absurd ok
no_array Word d ok is = absurd ok
no_array OneTable d ok is = absurd ok
no_array rules.EfiBits d ok is = absurd ok
no_array rules.SecureBoot d ok is = absurd ok
no_array Color d ok is = absurd ok

is_array : (allowed : Allowed) (d : Data) → AllowsArrays allowed → allows allowed d ≡ true
    → (ds : Items) × (d ≡ array ds)
is_array allowed (array ds) ok h = (ds, refl)
is_array allowed (string s) ok h = absurd (true≢false (sym h ∙ no_array allowed (string s) ok refl))
is_array allowed (integer z) ok h = absurd (true≢false (sym h ∙ no_array allowed (integer z) ok refl))
is_array allowed (float x) ok h = absurd (true≢false (sym h ∙ no_array allowed (float x) ok refl))
is_array allowed (boolean b) ok h = absurd (true≢false (sym h ∙ no_array allowed (boolean b) ok refl))
is_array allowed (datetime t) ok h = absurd (true≢false (sym h ∙ no_array allowed (datetime t) ok refl))
is_array allowed (table ms) ok h = absurd (true≢false (sym h ∙ no_array allowed (table ms) ok refl))

-- the items of the array that a value is
pub items_in : (d : Data) (ds : Items) → as_array d ≡ Some ds → array_items (Some d) ≡ ds
items_in (array es) ds h = cc h
items_in (string s) ds h = absurd (cc h)
items_in (integer z) ds h = absurd (cc h)
items_in (float x) ds h = absurd (cc h)
items_in (boolean b) ds h = absurd (cc h)
items_in (datetime t) ds h = absurd (cc h)
items_in (table ms) ds h = absurd (cc h)

-- as many items as values
pub item_count-view : (vs : List Value) → item_count (items_view vs) ≡ length vs
item_count-view [] = refl
item_count-view (v ∷ vs) = rw (item_count-view vs) refl

-- ---- the array at a key

-- a value that is not allowed
pub array_refused : (place : TablePlace) (key : Key) (ms : Members) (value : Bor Value)
    → get_member key.name.now ms ≡ Some (view value.now)
    → allows key.allowed (view value.now) ≡ false
    → IsTableFault (BreaksAt place (rule_view key) ms)
    (faults.BadKey record { table = place; fault = BadValue key.name value key.allowed })
    (array_by (rule_view key) ms)
array_refused place key ms value there test =
    (rw (there, test) refl, (refl, (refl, refl, there, test)))

-- an array that is
pub array_taken : (key : Key) (ms : Members) (d : Data) (ds : Items)
    → get_member key.name.now ms ≡ Some d → allows key.allowed d ≡ true → as_array d ≡ Some ds
    → array_by (rule_view key) ms ≡ Some ds
array_taken key ms d ds there test is = rw (there, test) (ap Some (items_in d ds is))

given : (test : Bool) (ds es : Items) → (if test then Some ds else None) ≡ Some es
    → (test ≡ true) × (ds ≡ es)
given true ds es h = (refl, cc h)
given false ds es h = absurd (cc h)

refused : (test : Bool) (ds : Items) → (if test then Some ds else None) ≡ None → test ≡ false
refused true ds h = absurd (cc h)
refused false ds h = refl

-- what is read of the array at a key that must stand, and at one that may be left out
pub required_items : {A : Type 0} (rule : KeyRule) (ms : Members) (ds : Items)
    (read : Data → Option A) (by_items : Items → Option A) → AllowsArrays rule.allowed
    → rule.required ≡ true → ((es : Items) → read (array es) ≡ by_items es)
    → array_by rule ms ≡ Some ds → by_items ds ≡ required read (get_member rule.key ms)
required_items rule ms ds read by_items ok must each h =
    let is = given (passes rule ms) (array_items (get_member rule.key ms)) ds h in
    of_value (get_member rule.key ms) (rw must at is.0) is.1
  where
    of_value : (o : Option Data) → passes_at true rule.allowed o ≡ true → array_items o ≡ ds
        → by_items ds ≡ required read o
    of_value None h same = absurd (cc h)
    of_value (Some d) h same =
        let a = is_array rule.allowed d ok h in
        let items : a.0 ≡ ds = ap (λ e. array_items (Some e)) (sym a.1) ∙ same in
        rw (a.1, ← items) (sym (each a.0))

pub optional_items : {A : Type 0} (rule : KeyRule) (ms : Members) (ds : Items)
    (read : Data → Option A) (by_items : Items → Option A) (x : A) → AllowsArrays rule.allowed
    → rule.required ≡ false → ((es : Items) → read (array es) ≡ by_items es)
    → by_items no_items ≡ Some x
    → array_by rule ms ≡ Some ds → by_items ds ≡ optional read x (get_member rule.key ms)
optional_items rule ms ds read by_items x ok may each empty h =
    let is = given (passes rule ms) (array_items (get_member rule.key ms)) ds h in
    of_value (get_member rule.key ms) (rw may at is.0) is.1
  where
    of_value : (o : Option Data) → passes_at false rule.allowed o ≡ true → array_items o ≡ ds
        → by_items ds ≡ optional read x o
    of_value None h same = rw (← same) empty
    of_value (Some d) h same =
        let a = is_array rule.allowed d ok h in
        let items : a.0 ≡ ds = ap (λ e. array_items (Some e)) (sym a.1) ∙ same in
        rw (a.1, ← items) (sym (each a.0))

-- where the rule of its key is broken, it is not read
pub required_none : {A : Type 0} (rule : KeyRule) (ms : Members) (read : Data → Option A)
    → rule.required ≡ true
    → ((d : Data) → allows rule.allowed d ≡ false → read d ≡ None)
    → array_by rule ms ≡ None → required read (get_member rule.key ms) ≡ None
required_none rule ms read must fails h =
    of_value (get_member rule.key ms)
    (rw must at (refused (passes rule ms) (array_items (get_member rule.key ms)) h))
  where
    of_value : (o : Option Data) → passes_at true rule.allowed o ≡ false → required read o ≡ None
    of_value None h = refl
    of_value (Some d) h = fails d h

pub optional_none : {A : Type 0} (rule : KeyRule) (ms : Members) (read : Data → Option A) (x : A)
    → rule.required ≡ false
    → ((d : Data) → allows rule.allowed d ≡ false → read d ≡ None)
    → array_by rule ms ≡ None → optional read x (get_member rule.key ms) ≡ None
optional_none rule ms read x may fails h =
    of_value (get_member rule.key ms)
    (rw may at (refused (passes rule ms) (array_items (get_member rule.key ms)) h))
  where
    of_value : (o : Option Data) → passes_at false rule.allowed o ≡ false → optional read x o ≡ None
    of_value None h = absurd (cc h)
    of_value (Some d) h = fails d h

-- there are as many as are allowed
pub items_allowed : (rule : KeyRule) (ms : Members) (ds : Items) → AllowsArrays rule.allowed
    → (rule.required ≡ false → allows_count rule.allowed 0 ≡ true) → array_by rule ms ≡ Some ds
    → allows_count rule.allowed (item_count ds) ≡ true
items_allowed rule ms ds ok empty h =
    let is = given (passes rule ms) (array_items (get_member rule.key ms)) ds h in
    of_value (get_member rule.key ms) is.0 is.1
  where
    left_out : (required : Bool) → not required ≡ true → required ≡ false
    left_out true h = absurd (cc h)
    left_out false h = refl

    of_value : (o : Option Data) → passes_at rule.required rule.allowed o ≡ true
        → array_items o ≡ ds → allows_count rule.allowed (item_count ds) ≡ true
    of_value None h same = rw (← same) (empty (left_out rule.required h))
    of_value (Some d) h same =
        let a = is_array rule.allowed d ok h in
        let items : a.0 ≡ ds = ap (λ e. array_items (Some e)) (sym a.1) ∙ same in
        let all : allows rule.allowed (array a.0) ≡ true = rw a.1 at h in
        rw (← items) (sym (counted rule.allowed (array a.0) a.0 ok refl) ∙ all)

-- what is no array is not read
pub no_list : {A : Type 0} (read : Data → Option A) (d : Data) → is_some (as_array d) ≡ false
    → array_of read d ≡ None
no_list read (array ds) h = absurd (cc h)
no_list read (string s) h = refl
no_list read (integer z) h = refl
no_list read (float x) h = refl
no_list read (boolean b) h = refl
no_list read (datetime t) h = refl
no_list read (table ms) h = refl

counted_more : {A : Type 0} (o : Option A) (rest : Option (List A)) (n : ℕ) (xs : List A)
    → ((ys : List A) → rest ≡ Some ys → length ys ≡ n)
    → (o >>= λ x. rest >>= λ ys. Some (x ∷ ys)) ≡ Some xs → length xs ≡ suc n
counted_more None rest n xs more h = absurd (cc h)
counted_more (Some x) None n xs more h = absurd (cc h)
counted_more (Some x) (Some ys) n xs more h =
    let same : x ∷ ys ≡ xs = cc h in rw (← same) (ap suc (more ys refl))

-- as many are read as there are items
pub each_counted : {A : Type 0} (read : Data → Option A) (ds : Items) (xs : List A)
    → each_item read ds ≡ Some xs → length xs ≡ item_count ds
each_counted read no_items xs h = let same : [] ≡ xs = cc h in rw (← same) refl
each_counted read (item d ds) xs h =
    counted_more (read d) (each_item read ds) (item_count ds) xs
    (λ ys is. each_counted read ds ys is) h

tested : {A : Type 0} (test : List A → Bool) (passed : Bool) (o : Option (List A))
    → ((xs : List A) → o ≡ Some xs → test xs ≡ passed)
    → (o >>= some_when test) ≡ (if passed then o else None)
tested test true None h = refl
tested test false None h = refl
tested test true (Some xs) h = rw (h xs refl) refl
tested test false (Some xs) h = rw (h xs refl) refl

-- a test of how many there are, of what is read and of the items
pub tested_items : {A : Type 0} (read : Data → Option A) (test : List A → Bool) (ds : Items)
    (passed : Bool) → ((xs : List A) → length xs ≡ item_count ds → test xs ≡ passed)
    → (each_item read ds >>= some_when test) ≡ (if passed then each_item read ds else None)
tested_items read test ds passed by_count =
    tested test passed (each_item read ds) (λ xs is. by_count xs (each_counted read ds xs is))

-- ---- bad items

-- an item of the array at a key
pub item_of : (o : Option Data) (i : ℕ) → get_item i (array_items o) ≡ (o >>= at i)
item_of None i = refl
item_of (Some (string s)) i = refl
item_of (Some (integer z)) i = refl
item_of (Some (float x)) i = refl
item_of (Some (boolean b)) i = refl
item_of (Some (datetime t)) i = refl
item_of (Some (array ds)) i = refl
item_of (Some (table ms)) i = refl

-- the items of an array that is given are those at its key
pub given_item : (rule : KeyRule) (ms : Members) (ds : Items) (i : ℕ) → array_by rule ms ≡ Some ds
    → get_item i ds ≡ (get_member rule.key ms >>= at i)
given_item rule ms ds i h =
    ap (get_item i) (sym (given (passes rule ms) (array_items (get_member rule.key ms)) ds h).1)
    ∙ item_of (get_member rule.key ms) i

-- a bad item that is to be a table, with its place
pub bad_table : (place_of : ℕ → TablePlace) (set : KeySet) (i : ℕ) (bad : BadKey) (o : Option Data)
    → IsSomeAnd o (λ d. IsBadTable place_of set i d bad)
    → (bad.table ≡ place_of i) × IsSomeAnd o (λ d. IsItemFault set d bad.fault)
bad_table place_of set i bad None h = absurd h
bad_table place_of set i bad (Some d) h = h

-- a bad item of another array breaks the rule of its key
pub item_breaks : (rule : KeyRule) (allowed : Allowed) (ms : Members) (ds : Items) (bad : BadKey)
    → array_by rule ms ≡ Some ds → HasBadItem (IsBadItem rule.key allowed) ds bad
    → BreaksAt places.Description (with_items rule allowed) ms bad
item_breaks rule allowed ms ds bad is h =
    let at_i : IsSomeAnd (get_member rule.key ms >>= at h.0)
    (λ d. IsBadItem rule.key allowed h.0 d bad) = rw (← given_item rule ms ds h.0 is) h.1 in
    of_item (get_member rule.key ms >>= at h.0) refl at_i
  where
    of_fault : (d : Data) (fault : KeyFault) → (get_member rule.key ms >>= at h.0) ≡ Some d
        → IsItemFaultAt rule.key allowed h.0 d fault → BreaksRule (with_items rule allowed) ms fault
    of_fault d (NoTable value) there f = f
    of_fault d (Unknown key known) there f = absurd f
    of_fault d (Missing key told) there f = absurd f
    of_fault d (BadValue key value told) there f = absurd f
    of_fault d (SameName value) there f = f
    of_fault d (BadItem key index value told) there f =
        (f.0, ap Some (sym f.1), rw (f.2, f.3) there, rw (f.1, f.3) f.4)

    of_item : (o : Option Data) → (get_member rule.key ms >>= at h.0) ≡ o
        → IsSomeAnd o (λ d. IsBadItem rule.key allowed h.0 d bad)
        → BreaksAt places.Description (with_items rule allowed) ms bad
    of_item None there f = absurd f
    of_item (Some d) there f = (f.0, of_fault d bad.fault there f.1)

-- a value is read, or it is a bad item
pub item_reads : {X : Type 0} (o read : Option X) (key : Bor (List ℕ)) (i : ℕ) (value : Bor Value)
    (allowed : Allowed) (ds : Items) → get_item i ds ≡ Some (view value.now) → o ≡ read
    → allows allowed (view value.now) ≡ is_some read
    → ReadsAs (λ x. x) (HasBadItem (IsBadItem key.now allowed) ds)
    (ok_or o (faults.BadKey record {
      table = places.Description;
      fault = BadItem key i value allowed;
    })) read
item_reads None read key i value allowed ds here is test =
    (sym is, (i, rw here (refl, (refl, refl, refl, refl, rw (← is) at test))))
item_reads (Some x) read key i value allowed ds here is test = sym is

-- a broken rule is so where items of the key's array have a rule too
pub with_items-broken : (rule : KeyRule) (allowed : Allowed) (ms : Members) → rule.items ≡ None
    → (place : TablePlace) (bad : BadKey) → BreaksAt place rule ms bad
    → BreaksAt place (with_items rule allowed) ms bad
with_items-broken rule allowed ms none place bad h = (h.0, of_fault bad.fault h.1)
  where
    of_fault : (fault : KeyFault) → BreaksRule rule ms fault
        → BreaksRule (with_items rule allowed) ms fault
    of_fault (NoTable value) f = f
    of_fault (Unknown key known) f = f
    of_fault (Missing key told) f = f
    of_fault (BadValue key value told) f = f
    of_fault (SameName value) f = f
    of_fault (BadItem key index value told) f =
        let other : None ≡ Some told = sym none ∙ f.1 in absurd (cc other)

-- a bad table, of those in the array at a key, where its faults are faults of the whole
pub at_table : (IsFault : TablePlace → KeyFault → Type 0) (place_of : ℕ → TablePlace) (set : KeySet)
    (rule : KeyRule) (ms : Members) (ds : Items)
    → ((i : ℕ) (fault : KeyFault) → IsSomeAnd (get_member rule.key ms >>= at i)
    (λ d. IsItemFault set d fault) → IsFault (place_of i) fault)
    → array_by rule ms ≡ Some ds → (bad : BadKey) → HasBadItem (IsBadTable place_of set) ds bad
    → IsFault bad.table bad.fault
at_table IsFault place_of set rule ms ds stands is bad h =
    let t = bad_table place_of set h.0 bad (get_item h.0 ds) h.1 in
    rw t.0 (stands h.0 bad.fault (rw (given_item rule ms ds h.0 is) at t.1))

-- ---- the pool

-- of two items, each is a number
pub range_of_two : (vs : List Value) → length vs ≡ 2
    → range_in (items_view vs)
    ≡ (number_item 0 (items_view vs) >>= λ start. number_item 1 (items_view vs) >>= λ end.
    Some record { start = start; end = end })
range_of_two [] two = absurd (omega (arith, two))
range_of_two (a ∷ []) two = absurd (omega (arith, two))
range_of_two (a ∷ b ∷ []) two = refl
range_of_two (a ∷ b ∷ c ∷ vs) two = absurd (omega (arith, two))

no_two : (ds : Items) → (nat_le 2 (item_count ds) && nat_le (item_count ds) 2) ≡ false
    → range_in ds ≡ None
no_two no_items h = refl
no_two (item a no_items) h = refl
no_two (item a (item b no_items)) h = absurd (cc h)
no_two (item a (item b (item c ds))) h = refl

pub pool_none : (d : Data) → allows TwoNumbers d ≡ false → toml_range d ≡ None
unfolding toml_range
pool_none (array ds) h = no_two ds h
pool_none (string s) h = refl
pool_none (integer z) h = refl
pool_none (float x) h = refl
pool_none (boolean b) h = refl
pool_none (datetime t) h = refl
pool_none (table ms) h = refl

pub pool_counted : (ms : Members) (vs : List Value)
    → array_by (required_key (codes "pool") TwoNumbers) ms ≡ Some (items_view vs) → length vs ≡ 2
pool_counted ms vs h =
    let all =
    items_allowed (required_key (codes "pool") TwoNumbers) ms (items_view vs) tt
    (λ none. absurd (cc none)) h in
    let few : (nat_le 2 (length vs) && nat_le (length vs) 2) ≡ true =
    rw item_count-view at all in
    grind (arith, nat_tests)

pub pool_read : (ms : Members) (ds : Items)
    → array_by (required_key (codes "pool") TwoNumbers) ms ≡ Some ds
    → range_in ds ≡ at_key toml_range (codes "pool") ms
unfolding toml_range
pool_read ms ds h =
    required_items (required_key (codes "pool") TwoNumbers) ms ds toml_range range_in tt refl
    (λ es. refl) h
