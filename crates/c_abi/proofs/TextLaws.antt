-- Each range of a text is the piece that stands there.
use Rattle.std.proofs.Common.{◌≡◌, ◌∙◌, ◌+◌, ◌-◌, ℕ, Bool, true, List, [], ◌∷◌, ◌++◌, length}
use Rattle.std.proofs.Common.{map, take, drop, slice_range, Option, Some, if◌then◌else◌, refl, ap}
use Rattle.std.proofs.Common.{ap₂, sym, subst, arith, append_assoc, length-append}
use Rattle.std.specs.Prelude.{unwrap_or, None}
use Rattle.std.specs.List.{flat_map}
use Rattle.std.proofs.lemmas.Bool.{le-leb}
use Rattle.std.proofs.lemmas.List.{append-nil}
use Rattle.std.proofs.Math.Seq.{drop-append_seam, take-append_seam}
use Rattle.bl_map.specs.Firmware.{SmbiosFacts}
use Rattle.bl_map.specs.declared.firmware.efi.EfiInfo.{EfiInfo}
use Rattle.bl_mbi.specs.InfoToWriteFacts.{EfiTables}
use Rattle.bl_walk.specs.SeenFacts.{SeenFacts, SeenModuleFacts}
use Rattle.c_records.specs.SeenFirmwareTold.{map_seen, tables_seen, efi_told, smbios_told}
use Rattle.c_records.specs.SeenFirmwareTold.{firmware_told}
use Rattle.c_records.specs.TextRanges.{are_among, range_bytes}
use Rattle.c_records.specs.SeenTold.{copy_range, lines_seen, modules_told, text_seen}
use Rattle.c_records.specs.SeenTold.{text_before_rsdp_new, text_before_firmware}

-- as many elements as the piece has, from where it begins
piece_at : (before piece after text : List ℕ) (at n : ℕ) → text ≡ before ++ (piece ++ after)
    → at ≡ length before → n ≡ length piece → take n (drop at text) ≡ piece
piece_at before piece after text at n is start long =
    rw (is, start, long, drop-append_seam before (piece ++ after)) (take-append_seam piece after)

range_of : (before piece after text : List ℕ) (at : ℕ) → text ≡ before ++ (piece ++ after)
    → at ≡ length before
    → range_bytes text (record { offset = at; length = length piece }) ≡ piece
range_of before piece after text at is start =
    let all : length text ≡ length before + (length piece + length after) =
    ap length is ∙ length-append before (piece ++ after)
    ∙ ap (λ n. length before + n) (length-append piece after) in
    let among : are_among at (length piece) (length text) ≡ true =
    le-leb (at + length piece) (length text) (omega (arith, all, start)) in
    subst (λ (b : Bool). (if b then slice_range text at (at + length piece) else []) ≡ piece)
    (sym among)
    (piece_at before piece after text at (at + length piece - at) is start (omega arith))

-- a copy that something follows, and the last one
copy_of : (before after copy : List ℕ) (given : Option (List ℕ)) → given ≡ Some copy
    → range_bytes ((before ++ unwrap_or given []) ++ after) (copy_range (length before) given)
    ≡ copy
copy_of before after copy given is =
    rw is
    (range_of before copy after ((before ++ copy) ++ after) (length before)
    (append_assoc before copy after) refl)

-- a memory map of UEFI, and tables of SMBIOS, which stand last
map_of : (before after : List ℕ) (info : Option EfiInfo) (tables : Option EfiTables)
    (efi : EfiTables) → info ≡ None → tables ≡ Some efi
    → range_bytes ((before ++ map_seen tables) ++ after) (efi_told (length before) info tables).map
    ≡ efi.map
map_of before after info tables efi none is =
    rw (none, is)
    (range_of before efi.map after ((before ++ efi.map) ++ after) (length before)
    (append_assoc before efi.map after) refl)

tables_of : (before : List ℕ) (told : Option SmbiosFacts) (smbios : SmbiosFacts)
    → told ≡ Some smbios
    → range_bytes (before ++ tables_seen told) (smbios_told (length before) told).tables
    ≡ smbios.tables
tables_of before told smbios is =
    rw is
    (range_of before smbios.tables [] (before ++ smbios.tables) (length before)
    (ap (λ t. before ++ t) (sym (append-nil smbios.tables))) refl)

-- the lines of modules that stand one after the other
lines_of : (ms : List SeenModuleFacts) (before after text : List ℕ) (at : ℕ)
    → text ≡ before ++ (flat_map (λ m. m.line) ms ++ after) → at ≡ length before
    → map (λ m. range_bytes text m.line) (modules_told at ms) ≡ map (λ m. m.line) ms
lines_of [] before after text at is start = refl
lines_of (m ∷ ms) before after text at is start =
    let rest = flat_map (λ (m : SeenModuleFacts). m.line) ms in
    let split : text ≡ before ++ (m.line ++ (rest ++ after)) =
    is ∙ ap (λ t. before ++ t) (append_assoc m.line rest after) in
    let moved : text ≡ (before ++ m.line) ++ (rest ++ after) =
    split ∙ sym (append_assoc before m.line (rest ++ after)) in
    ap₂ (λ line lines. line ∷ lines) (range_of before m.line (rest ++ after) text at split start)
    (lines_of ms (before ++ m.line) after text (at + length m.line) moved
    (omega (arith, start, length-append before m.line)))

module _ (seen : SeenFacts) where
  abbrev lines_in : List ℕ
  lines_in = flat_map (λ (m : SeenModuleFacts). m.line) seen.modules

  abbrev old_in : List ℕ
  old_in = unwrap_or seen.rsdp_old []

  abbrev new_in : List ℕ
  new_in = unwrap_or seen.rsdp_new []

  -- the tables of what firmware tells
  abbrev tables_in : List ℕ
  tables_in = map_seen seen.firmware.efi_tables ++ tables_seen seen.firmware.smbios

  -- the text, from each of its seams on
  from_tables : text_seen seen ≡ text_before_firmware seen ++ tables_in
  from_tables =
      append_assoc (text_before_firmware seen) (map_seen seen.firmware.efi_tables)
      (tables_seen seen.firmware.smbios)

  from_new : text_seen seen ≡ text_before_rsdp_new seen ++ (new_in ++ tables_in)
  from_new = from_tables ∙ append_assoc (text_before_rsdp_new seen) new_in tables_in

  from_line : text_seen seen ≡ seen.line ++ (lines_in ++ (old_in ++ (new_in ++ tables_in)))
  from_line =
      from_new ∙ append_assoc (seen.line ++ lines_in) old_in (new_in ++ tables_in)
      ∙ append_assoc seen.line lines_in (old_in ++ (new_in ++ tables_in))

  pub line_first : take (length seen.line) (text_seen seen) ≡ seen.line
  line_first =
      ap (take (length seen.line)) from_line
      ∙ take-append_seam seen.line (lines_in ++ (old_in ++ (new_in ++ tables_in)))

  pub module_lines :
      map (λ m. range_bytes (text_seen seen) m.line) (modules_told (length seen.line) seen.modules)
      ≡ map (λ m. m.line) seen.modules
  module_lines =
      lines_of seen.modules seen.line (old_in ++ (new_in ++ tables_in)) (text_seen seen)
      (length seen.line) from_line refl

  pub old_copy : (copy : List ℕ) → seen.rsdp_old ≡ Some copy
      → range_bytes (text_seen seen) (copy_range (length (lines_seen seen)) seen.rsdp_old) ≡ copy
  old_copy copy is =
      ap (λ t. range_bytes t (copy_range (length (lines_seen seen)) seen.rsdp_old)) from_new
      ∙ copy_of (lines_seen seen) (new_in ++ tables_in) copy seen.rsdp_old is

  pub new_copy : (copy : List ℕ) → seen.rsdp_new ≡ Some copy
      → range_bytes (text_seen seen)
      (copy_range (length (text_before_rsdp_new seen)) seen.rsdp_new) ≡ copy
  new_copy copy is =
      ap (λ t. range_bytes t (copy_range (length (text_before_rsdp_new seen)) seen.rsdp_new))
      from_tables
      ∙ copy_of (text_before_rsdp_new seen) tables_in copy seen.rsdp_new is

  pub efi_map : (efi : EfiTables) → seen.firmware.efi_info ≡ None
      → seen.firmware.efi_tables ≡ Some efi
      → range_bytes (text_seen seen)
      (firmware_told (text_before_firmware seen) seen.firmware).efi.map ≡ efi.map
  efi_map efi none is =
      map_of (text_before_firmware seen) (tables_seen seen.firmware.smbios) seen.firmware.efi_info
      seen.firmware.efi_tables efi none is

  pub smbios_tables : (smbios : SmbiosFacts) → seen.firmware.smbios ≡ Some smbios
      → range_bytes (text_seen seen)
      (firmware_told (text_before_firmware seen) seen.firmware).smbios.tables ≡ smbios.tables
  smbios_tables smbios is =
      tables_of (text_before_firmware seen ++ map_seen seen.firmware.efi_tables)
      seen.firmware.smbios smbios is
