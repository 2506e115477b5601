-- What bytes describe, by whether they are UTF-8.
use Rattle.std.proofs.Common.{◌≡◌, ℕ, List, Some, None, inl, inr}
use Rattle.std.proofs.lemmas.Bool.{cases_Bool}
use Rattle.std.specs.Prelude.{IsUtf8}
use Rattle.std.specs.Str.{is_utf8}
use Rattle.std.proofs.lemmas.Str.{IsUtf8-from_is_utf8, is_utf8-from_IsUtf8}
use Rattle.toml.specs.Data.{Members}
use Rattle.toml.specs.Parse.{parse_document}
use Rattle.program_desc.specs.Described.{described, described_in}

pub described-table : (bytes text : List ℕ) (ms : Members)
    → text ≡ bytes → IsUtf8 bytes → parse_document text ≡ Some ms
    → described bytes ≡ described_in ms
unfolding described
described-table bytes text ms same utf8 read =
    let from_bytes : parse_document bytes ≡ Some ms = rw same at read in
    rw (is_utf8-from_IsUtf8 bytes utf8, from_bytes)

pub described-no_text : (bytes : List ℕ) → ¬ IsUtf8 bytes → described bytes ≡ None
unfolding described
described-no_text bytes h =
    elim (cases_Bool (is_utf8 bytes)) [
      | inl is ↦ absurd (h (IsUtf8-from_is_utf8 bytes is))
      | inr other ↦ rw other
    ]

pub described-no_table : (bytes text : List ℕ)
    → text ≡ bytes → parse_document text ≡ None → described bytes ≡ None
unfolding described
described-no_table bytes text same none =
    let from_bytes : parse_document bytes ≡ None = rw same at none in
    elim (cases_Bool (is_utf8 bytes)) [
      | inl is ↦ rw (is, from_bytes)
      | inr other ↦ rw other
    ]
