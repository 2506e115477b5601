-- What the values of a description's TOML tree mean, one by one. Own.
use Rattle.std.specs.Prelude.{ℕ, pos, ◌^◌, Bool, true, ◌&&◌, if◌then◌else◌, nat_lt, List, [], ◌∷◌}
use Rattle.std.specs.Prelude.{Option, Some, None, Result, Ok, Err}
use Rattle.std.specs.Str.{bytes_eq}
use Rattle.std.specs.List.{list_any}
use Rattle.std.specs.declared.ops.Range.{Range}
use Rattle.toml.specs.Data.{Data, integer, string, array, table, Items, no_items, item, Members}
use Rattle.toml.specs.Data.{no_members, member, get_member}
use Rattle.hex.specs.Hex.{decode_of}
use Rattle.bl_map.specs.Kinds.{kind_named}
use Rattle.bl_map.specs.declared.kind.Kind.{Kind}

infixl 10 ◌>>=◌
abbrev pub ◌>>=◌ : {A B : Type 0} → Option A → (A → Option B) → Option B
(Some x) >>= f = f x
None >>= f = None

-- what was read, where it passes a test
abbrev pub some_when : {A : Type 0} → (A → Bool) → A → Option A
some_when test x = if test x then Some x else None

-- ---- values

-- a number is a TOML integer that is not negative
abbrev pub toml_number : Data → Option ℕ
toml_number (integer (pos n)) = Some n
toml_number _ = None

abbrev pub toml_byte : Data → Option ℕ
toml_byte d = toml_number d >>= some_when (λ n. nat_lt n 256)

-- a number of 32 bits
abbrev pub toml_word : Data → Option ℕ
toml_word d = toml_number d >>= some_when (λ n. nat_lt n (2 ^ 32))

abbrev pub toml_text : Data → Option (List ℕ)
toml_text (string s) = Some s
toml_text _ = None

-- a kind of memory, by its name
abbrev pub toml_kind : Data → Option Kind
toml_kind d = toml_text d >>= kind_named

abbrev pub bytes_from : {E : Type 0} → Result (List ℕ) E → Option (List ℕ)
bytes_from (Ok bytes) = Some bytes
bytes_from (Err e) = None

-- the bytes that a text of hexadecimal digits stands for, two digits a byte
abbrev pub toml_bytes : Data → Option (List ℕ)
toml_bytes d = toml_text d >>= λ text. bytes_from (decode_of text)

-- two numbers: where a range starts, and its end
abbrev pub range_in : Items → Option (Range ℕ)
range_in (item a (item b no_items)) = do
  start ← toml_number a
  end ← toml_number b
  Some record { start = start; end = end }
range_in _ = None

unfoldable pub toml_range : Data → Option (Range ℕ)
toml_range (array ds) = range_in ds
toml_range _ = None

-- ---- keys

-- the table has no key but these
abbrev pub has_only : List (List ℕ) → Members → Bool
has_only keys no_members = true
has_only keys (member k d ms) = list_any (λ x. bytes_eq x k) keys && has_only keys ms

-- the value at a key that must stand
abbrev pub required : {A : Type 0} → (Data → Option A) → Option Data → Option A
required read None = None
required read (Some d) = read d

-- the value at a key that may be left out
abbrev pub optional : {A : Type 0} → (Data → Option A) → A → Option Data → Option A
optional read x None = Some x
optional read x (Some d) = read d

-- the same, where no value stands for one that is left out
abbrev pub if_given : {A : Type 0} → (Data → Option A) → Option Data → Option (Option A)
if_given read None = Some None
if_given read (Some d) = read d >>= λ x. Some (Some x)

abbrev pub at_key : {A : Type 0} → (Data → Option A) → List ℕ → Members → Option A
at_key read key ms = required read (get_member key ms)

abbrev pub at_key_or : {A : Type 0} → A → (Data → Option A) → List ℕ → Members → Option A
at_key_or x read key ms = optional read x (get_member key ms)

abbrev pub at_key_if : {A : Type 0} → (Data → Option A) → List ℕ → Members → Option (Option A)
at_key_if read key ms = if_given read (get_member key ms)

-- ---- arrays of tables

abbrev pub in_table : {A : Type 0} → (Members → Option A) → Data → Option A
in_table read (table ms) = read ms
in_table read _ = None

-- each of the items, in order
abbrev pub each_item : {A : Type 0} → (Data → Option A) → Items → Option (List A)
each_item read no_items = Some []
each_item read (item d ds) = do
  x ← read d
  xs ← each_item read ds
  Some (x ∷ xs)

abbrev pub array_of : {A : Type 0} → (Data → Option A) → Data → Option (List A)
array_of read (array ds) = each_item read ds
array_of read _ = None

-- an array of tables, each read by itself
abbrev pub in_tables : {A : Type 0} → (Members → Option A) → Data → Option (List A)
in_tables read d = array_of (in_table read) d

-- ---- indices

-- the index of one of so many
abbrev pub toml_index : ℕ → Data → Option ℕ
toml_index count d = toml_number d >>= some_when (λ n. nat_lt n count)

-- an array of such indices, in which one may repeat
abbrev pub toml_indices : ℕ → Data → Option (List ℕ)
toml_indices count d = array_of (toml_index count) d
