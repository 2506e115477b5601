-- What is read of a part of a table, and the bad key of a part as one of the whole.
use Rattle.std.proofs.Common.{◌≡◌, ℕ, zero, suc, Option, Some, None, List, []}
use Rattle.std.proofs.Common.{◌∷◌, Result, Ok, Err, Bor, refl, sym, ◌∙◌, inl, inr}
use Rattle.std.specs.Prelude.{if◌then◌else◌, slice_get, codes}
use Rattle.toml.specs.Data.{Data, Members}
use Rattle.toml.specs.declared.value.Value.{Value}
use Rattle.program_desc.specs.TomlValues.{◌>>=◌, has_only, required}
use Rattle.program_desc.specs.KeyRules.{KeyRule, key_rules, keys_of_set}
use Rattle.program_desc.specs.BadKeys.{BreaksAnyOf, BreaksRule, IsBadKey, IsKeyFault, count_at}
use Rattle.program_desc.specs.TableFaults.{IsTableFault, ReadsAs}
use Rattle.program_desc.specs.internal.TableReading.{BreaksAt, HasUnknownKey, IsFaultOf}
use Rattle.program_desc.specs.declared.bad_key.BadKey.{BadKey}
use Rattle.program_desc.specs.declared.bad_key.KeyFault.{KeyFault}
use Rattle.program_desc.specs.declared.bad_key.KeyFault.TheVariants.{NoTable, Unknown, Missing}
use Rattle.program_desc.specs.declared.bad_key.KeyFault.TheVariants.{BadValue, BadItem, SameName}
use Rattle.program_desc.specs.declared.bad_key.TablePlace.{TablePlace}
use Rattle.program_desc.specs.declared.bad_key.TablePlace.TheVariants.{Description}
use Rattle.program_desc.specs.declared.key_set.KeySet.{KeySet}
use Rattle.program_desc.specs.declared.key_set.KeySet.TheVariants as keys
use Rattle.program_desc.specs.declared.table_fault.TableFault.{TableFault}
use Rattle.program_desc.specs.declared.table_fault.TableFault.TheVariants as faults

-- ---- parts

-- where a part is not read, the whole is not, for the same bad key
pub fault_as : {X Y : Type 0} (P Q : BadKey → Type 0) (fault : TableFault) (x : Option X)
    (y : Option Y) → (x ≡ None → y ≡ None) → ((bad : BadKey) → P bad → Q bad)
    → IsTableFault P fault x → IsTableFault Q fault y
fault_as P Q (faults.BadKey bad) x y none among h = (none h.0, among bad h.1)
fault_as P Q faults.NoMemory x y none among h = tt

-- the same of the first of two steps
pub fails_as : {X Y : Type 0} (P Q : BadKey → Type 0) (fault : TableFault) (x : Option X)
    (rest : X → Option Y) → ((bad : BadKey) → P bad → Q bad) → IsTableFault P fault x
    → IsTableFault Q fault (x >>= rest)
fails_as P Q (faults.BadKey bad) x rest among h = (rw h.0 refl, among bad h.1)
fails_as P Q faults.NoMemory x rest among h = tt

-- what is read is read of the whole, and a bad key of it is one of the whole
pub read_as : {X Y : Type 0} (seen : X → Y) (P Q : BadKey → Type 0) (result : Result X TableFault)
    (x y : Option Y) → x ≡ y → ((bad : BadKey) → P bad → Q bad) → ReadsAs seen P result x
    → ReadsAs seen Q result y
read_as seen P Q (Ok r) x y same among h = sym same ∙ h
read_as seen P Q (Err (faults.BadKey bad)) x y same among h = (sym same ∙ h.0, among bad h.1)
read_as seen P Q (Err faults.NoMemory) x y same among h = tt

-- a table with a key that it may not have is not read
pub unknown_fails : {Y : Type 0} (place : TablePlace) (set : KeySet) (ms : Members) (x : Option Y)
    (Q : BadKey → Type 0) (fault : TableFault)
    → ((bad : BadKey) → bad.table ≡ place → ((count : ℕ) → IsKeyFault count set ms bad.fault)
    → Q bad)
    → HasUnknownKey place set ms fault
    → IsTableFault Q fault (if has_only (keys_of_set set) ms then x else None)
unknown_fails place set ms x Q (faults.BadKey bad) among h = (rw h.0 refl, among bad h.1 h.2)
unknown_fails place set ms x Q faults.NoMemory among h = absurd h

-- ---- values

-- what must stand is read of what stands
pub must_stand : {A : Type 0} (read : Data → Option A) (o : Option Data)
    → (o >>= read) ≡ required read o
must_stand read None = refl
must_stand read (Some d) = refl

-- ---- rules

-- one of these rules is broken
nth_breaks : (rules : List KeyRule) (i : ℕ) (rule : KeyRule) (ms : Members) (fault : KeyFault)
    → slice_get rules i ≡ Some rule → BreaksRule rule ms fault → BreaksAnyOf rules ms fault
nth_breaks [] i rule ms fault is h = absurd (cc is)
nth_breaks (r ∷ rules) zero rule ms fault is h =
    let same : r ≡ rule = cc is in inl (rw same h)
nth_breaks (r ∷ rules) (suc i) rule ms fault is h = inr (nth_breaks rules i rule ms fault is h)

-- no rule of a key is broken by an unknown key, or by a value that is no table
no_rule-Unknown : (rules : List KeyRule) (ms : Members) (key : Bor (List ℕ)) (set : KeySet)
    → BreaksAnyOf rules ms (Unknown key set) → ⊥
no_rule-Unknown [] ms key set h = h
no_rule-Unknown (r ∷ rules) ms key set (inl h) = h
no_rule-Unknown (r ∷ rules) ms key set (inr h) = no_rule-Unknown rules ms key set h

pub no_rule-NoTable : (rules : List KeyRule) (ms : Members) (value : Bor Value)
    → BreaksAnyOf rules ms (NoTable value) → ⊥
no_rule-NoTable [] ms value h = h
no_rule-NoTable (r ∷ rules) ms value (inl h) = h
no_rule-NoTable (r ∷ rules) ms value (inr h) = no_rule-NoTable rules ms value h

-- a broken rule is a fault of the table
rule_fault : (count : ℕ) (set : KeySet) (ms : Members) (fault : KeyFault)
    → BreaksAnyOf (key_rules count set) ms fault → IsKeyFault count set ms fault
rule_fault count set ms (NoTable value) h = h
rule_fault count set ms (Unknown key known) h =
    absurd (no_rule-Unknown (key_rules count set) ms key known h)
rule_fault count set ms (Missing key allowed) h = h
rule_fault count set ms (BadValue key value allowed) h = h
rule_fault count set ms (BadItem key index value allowed) h = h
rule_fault count set ms (SameName value) h = h

-- the rule of this index among those of the table
pub at_rule : (set : KeySet) (i : ℕ) (rule : KeyRule) (place : TablePlace) (ms : Members)
    → slice_get (key_rules 0 set) i ≡ Some rule → (bad : BadKey) → BreaksAt place rule ms bad
    → IsFaultOf place set ms bad
at_rule set i rule place ms is bad h =
    (h.0, rule_fault 0 set ms bad.fault (nth_breaks (key_rules 0 set) i rule ms bad.fault is h.1))

-- the same of the whole, where there are so many entries
pub of_whole : (i : ℕ) (rule : KeyRule) (ms : Members) (count : ℕ)
    → count ≡ count_at (codes "entry") ms
    → slice_get (key_rules count keys.Description) i ≡ Some rule → (bad : BadKey)
    → BreaksAt Description rule ms bad → IsBadKey ms bad
of_whole i rule ms count same is bad h =
    rw (h.0, ← same) (rule_fault count keys.Description ms bad.fault
    (nth_breaks (key_rules count keys.Description) i rule ms bad.fault is h.1))
