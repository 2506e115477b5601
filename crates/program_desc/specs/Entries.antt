-- What a boot description says of its menu: for each table of an entry or a module a function from
-- the table's keys to a record, or to none if the table is a bad one. Own.
use Rattle.std.specs.Prelude.{ℕ, ◌≤◌, Bool, ◌&&◌, if◌then◌else◌, nat_le, List, [], length, map}
use Rattle.std.specs.Prelude.{Option, Some, None, codes}
use Rattle.std.specs.List.{list_all}
use Rattle.toml.specs.Data.{Data, Members}
use Rattle.program_desc.specs.TomlValues.{◌>>=◌, some_when, toml_text, toml_bytes, has_only, at_key}
use Rattle.program_desc.specs.TomlValues.{at_key_or}
use Rattle.program_desc.specs.TomlValues.{at_key_if, in_tables}
use Rattle.program_desc.specs.KeyRules.{keys_of_set, set_of_protocol}
use Rattle.program_desc.specs.declared.key_set.KeySet.TheVariants as keys
use Rattle.program_desc.specs.declared.entry_form.EntryForm.{EntryForm}
use Rattle.program_desc.specs.declared.entry_form.EntryForm.TheVariants as forms
use Rattle.program_desc.specs.declared.entry_form.ModuleRow.{ModuleRow}
use Rattle.bl_plan.specs.Protocols.{of_linux}
use Rattle.bl_plan.specs.MenuLimits.{max_rsdp_length, max_entries, max_modules}
use Rattle.bl_plan.specs.Protocols.{protocol_named}
use Rattle.bl_plan.specs.declared.protocol.Protocol.{Protocol}
use Rattle.bl_plan.specs.declared.protocol.Protocol.TheVariants.{Multiboot2, Linux, Linux64}

-- a module of an entry: the name of a file, and the module's line
pub record Module : Type 0 where
  pub file : List ℕ
  pub line : List ℕ

-- what an entry has beside its kernel: modules, and perhaps copies of the Root System Description
-- Pointer (RSDP) of ACPI 1.0 and of ACPI 2.0 or later (Multiboot2 3.6.16, 3.6.17), and an initial
-- ramdisk, which is the name of a file; its protocol says which it may have
pub record Form : Type 0 where
  pub protocol : Protocol
  pub modules : List Module
  pub rsdp_old : Option (List ℕ)
  pub rsdp_new : Option (List ℕ)
  pub initrd : Option (List ℕ)

-- nothing beside the kernel
abbrev pub bare_form : Protocol → Form
bare_form protocol = record {
  protocol = protocol;
  modules = [];
  rsdp_old = None;
  rsdp_new = None;
  initrd = None;
}

-- an entry of the menu; kernel is the name of a file
pub record Entry : Type 0 where
  pub title : List ℕ
  pub kernel : List ℕ
  pub line : List ℕ
  pub form : Form

-- how modules, and what an entry has beside its kernel, are seen
abbrev pub module_view : {A : Type 0} → ModuleRow A → Module
module_view m = record { file = m.file; line = m.line }

abbrev pub form_view : {A : Type 0} → EntryForm A → Form
form_view (forms.Multiboot2 modules rsdp_old rsdp_new) =
    record (bare_form Multiboot2) {
      modules = map module_view modules.rows.items;
      rsdp_old = rsdp_old;
      rsdp_new = rsdp_new;
    }
form_view (forms.Linux initrd wide) = record (bare_form (of_linux wide)) { initrd = initrd }

-- ---- module

unfoldable pub module_in : Members → Option Module
module_in ms =
    if has_only (keys_of_set keys.Module) ms then (do
      file ← at_key toml_text (codes "file") ms
      line ← at_key_or [] toml_text (codes "line") ms
      Some record { file = file; line = line })
    else None

-- ---- title, modules, copies of an RSDP

-- each byte is printable ASCII
abbrev pub is_printable : List ℕ → Bool
is_printable text = list_all (λ c. nat_le 0x20 c && nat_le c 0x7E) text

-- 1 to 64 such bytes
abbrev pub is_title : List ℕ → Bool
is_title text = (nat_le 1 (length text) && nat_le (length text) 64) && is_printable text

abbrev pub toml_title : Data → Option (List ℕ)
toml_title d = toml_text d >>= some_when is_title

abbrev pub has_few_modules : List Module → Bool
has_few_modules modules = nat_le (length modules) max_modules

unfoldable pub toml_modules : Data → Option (List Module)
toml_modules d = in_tables module_in d >>= some_when has_few_modules

-- 1 to 256 bytes
abbrev pub is_rsdp_copy : List ℕ → Bool
is_rsdp_copy copy = nat_le 1 (length copy) && nat_le (length copy) max_rsdp_length

abbrev pub toml_rsdp_copy : Data → Option (List ℕ)
toml_rsdp_copy d = toml_bytes d >>= some_when is_rsdp_copy

-- the same as a fact of a copy that was read
abbrev pub HasCopyLength : List ℕ → Type 0
HasCopyLength copy = (1 ≤ length copy) × (length copy ≤ max_rsdp_length)

-- ---- protocol

-- with multiboot2 an entry may have modules and copies of RSDPs
abbrev pub multiboot2_form : Members → Option Form
multiboot2_form ms = do
  modules ← at_key_or [] toml_modules (codes "module") ms
  rsdp_old ← at_key_if toml_rsdp_copy (codes "rsdp_old") ms
  rsdp_new ← at_key_if toml_rsdp_copy (codes "rsdp_new") ms
  Some (record (bare_form Multiboot2) {
    modules = modules;
    rsdp_old = rsdp_old;
    rsdp_new = rsdp_new;
  })

-- with linux, and with linux64, it may have an initial ramdisk
abbrev pub linux_form : Protocol → Members → Option Form
linux_form protocol ms = do
  initrd ← at_key_if toml_text (codes "initrd") ms
  Some (record (bare_form protocol) { initrd = initrd })

-- what an entry of this protocol has beside its kernel
abbrev pub form_in : Protocol → Members → Option Form
form_in Multiboot2 ms = multiboot2_form ms
form_in Linux ms = linux_form Linux ms
form_in Linux64 ms = linux_form Linux64 ms

abbrev pub toml_protocol : Data → Option Protocol
toml_protocol d = toml_text d >>= protocol_named

-- ---- entry

unfoldable pub entry_by : Members → Protocol → Option Entry
entry_by ms protocol =
    if has_only (keys_of_set (set_of_protocol (Some protocol))) ms then (do
      title ← at_key toml_title (codes "title") ms
      kernel ← at_key toml_text (codes "kernel") ms
      line ← at_key_or [] toml_text (codes "line") ms
      form ← form_in protocol ms
      Some record { title = title; kernel = kernel; line = line; form = form })
    else None

unfoldable pub menu_entry_in : Members → Option Entry
menu_entry_in ms = at_key toml_protocol (codes "protocol") ms >>= entry_by ms

-- ---- menu

-- it has an entry, and not too many
abbrev pub is_menu : List Entry → Bool
is_menu entries = nat_le 1 (length entries) && nat_le (length entries) max_entries

unfoldable pub toml_entries : Data → Option (List Entry)
toml_entries d = in_tables menu_entry_in d >>= some_when is_menu
