-- The head of an image, judged field by field.
use Rattle.std.proofs.Common.{◌≡◌, ℕ, true, List, [], ◌∷◌, ◌++◌, drop, None, Option}
use Rattle.std.proofs.Common.{refl, ap, ◌∙◌, append_assoc}
use Rattle.std.specs.Prelude.{nat_le, ◌&&◌}
use Rattle.std.proofs.lemmas.List.{drop_at}
use Rattle.bl_mem.specs.LittleEndian.{number_at, u32_at, u32_bytes}
use Rattle.bl_mem.proofs.LittleEndianLaws.{length-u32_bytes, u32_again}
use Rattle.bl_plan.specs.declared.protocol.Protocol.{Protocol}
use Rattle.bl_plan.specs.Protocols.{protocol_number}
use Rattle.bl_image.specs.declared.fault.ImageFault.{ImageFault}
use Rattle.bl_image.specs.declared.fault.ImageFault.TheVariants.{BadVersion, BadHeader}
use Rattle.bl_image.specs.declared.version.Version.{Version}
use Rattle.bl_image.specs.Image.{magic}
use Rattle.bl_image.specs.Fields.{fields_fault, opening_fields, magic_field, version_field}
use Rattle.bl_image.specs.Fields.{protocol_field}
use Rattle.bl_image.specs.ImageFaults.{fault_or, head_fault}
use Rattle.bl_image.specs.Layouts.{layout, layout_of, layout_fields}
use Rattle.bl_image.specs.SourceFacts.{SourceFacts, Comes, IsInputFault}
use Rattle.bl_image.specs.Versions.{version_number, max_protocol, HasProtocol}
use Rattle.bl_image.proofs.FieldLemmas.{field_passes, word_tells, Passed, passed_more}
use Rattle.bl_image.proofs.FieldLemmas.{passed_refuses}
use Rattle.bl_image.proofs.Inputs.{comes_more}
use Rattle.bl_image.proofs.NumbersAgain.{version_fits, version_between, protocol_fits}
use Rattle.bl_image.proofs.NumbersAgain.{protocol_between}
use Rattle.bl_image.proofs.RecordLemmas.{first_refuses}

pub version_passes : (v : Version) → version_field.passes (u32_bytes (version_number v)) ≡ true
unfolding version_field
version_passes v =
    word_tells (λ k. nat_le 1 k && nat_le k 2) BadVersion (version_number v) true (version_fits v)
    (version_between v)

-- a protocol that the version has passes
pub protocol_passes : (v : Version) (p : Protocol) → HasProtocol v p
    → (protocol_field (version_number v)).passes (u32_bytes (protocol_number p)) ≡ true
unfolding protocol_field
protocol_passes v p has =
    word_tells (λ k. nat_le 1 k && nat_le k (max_protocol (version_number v))) BadHeader
    (protocol_number p) true (protocol_fits p) (protocol_between v p has)

-- ---- magic and version came: the protocol is to be judged, and what it tells

abbrev pub after_version : ℕ → List ℕ → Option ImageFault
after_version version bytes =
    fault_or (fields_fault (protocol_field version ∷ []) bytes)
    (fields_fault (layout_fields (layout version (u32_at bytes 0))) (drop 4 bytes))

opened_by : (version : ℕ) (bytes x : List ℕ) → fields_fault opening_fields bytes ≡ None
    → u32_at bytes 8 ≡ version → u32_at bytes 12 ≡ u32_at x 0
    → drop 12 bytes ≡ x → drop 16 bytes ≡ drop 4 x → head_fault bytes ≡ after_version version x
unfolding head_fault
opened_by version bytes x sound is told behind further =
    rw (sound, is, told, behind, further) refl

opening_passes : (v : Version) (x : List ℕ)
    → fields_fault opening_fields ((magic ++ u32_bytes (version_number v)) ++ x) ≡ None
unfolding magic_field version_field
opening_passes v x =
    let b : List ℕ = u32_bytes (version_number v) in
    ap (fields_fault opening_fields) (append_assoc magic b x)
    ∙ field_passes magic_field (version_field ∷ []) magic (b ++ x) refl refl
    ∙ field_passes version_field [] b x (length-u32_bytes (version_number v)) (version_passes v)

version_stands : (v : Version) (x : List ℕ)
    → u32_at ((magic ++ u32_bytes (version_number v)) ++ x) 8 ≡ version_number v
unfolding number_at
version_stands v x = u32_again (version_number v) x (version_fits v)

protocol_behind : (n : ℕ) (x : List ℕ) → u32_at ((magic ++ u32_bytes n) ++ x) 12 ≡ u32_at x 0
unfolding number_at u32_bytes
protocol_behind n x = refl

behind_version : (n : ℕ) (x : List ℕ) → drop 12 ((magic ++ u32_bytes n) ++ x) ≡ x
unfolding u32_bytes
behind_version n x = refl

further : (n : ℕ) (x : List ℕ) → drop 16 ((magic ++ u32_bytes n) ++ x) ≡ drop 4 x
unfolding u32_bytes
further n x = refl

pub opened : (v : Version) (x : List ℕ)
    → head_fault ((magic ++ u32_bytes (version_number v)) ++ x) ≡ after_version (version_number v) x
opened v x =
    let n = version_number v in
    opened_by n ((magic ++ u32_bytes n) ++ x) x (opening_passes v x) (version_stands v x)
    (protocol_behind n x) (behind_version n x) (further n x)

pub opened_passed : {old mid new : SourceFacts} (v : Version) → Comes old mid magic
    → Comes mid new (u32_bytes (version_number v))
    → Passed head_fault old new (after_version (version_number v))
opened_passed v first_came then_came =
    record { done = _; comes = comes_more first_came then_came; on = opened v }

-- ---- the protocol came: what it tells is to be judged

told_by : (version protocol : ℕ) (bytes x : List ℕ)
    → fields_fault (protocol_field version ∷ []) bytes ≡ None → u32_at bytes 0 ≡ protocol
    → drop 4 bytes ≡ x
    → after_version version bytes ≡ fields_fault (layout_fields (layout version protocol)) x
told_by version protocol bytes x sound is behind = rw (sound, is, behind) refl

pub told : (v : Version) (p : Protocol) → HasProtocol v p → (x : List ℕ)
    → after_version (version_number v) (u32_bytes (protocol_number p) ++ x)
    ≡ fields_fault (layout_fields (layout (version_number v) (protocol_number p))) x
unfolding protocol_field
told v p has x =
    let version : ℕ = version_number v in
    let b : List ℕ = u32_bytes (protocol_number p) in
    let size = length-u32_bytes (protocol_number p) in
    told_by version (protocol_number p) (b ++ x) x
    (field_passes (protocol_field version) [] b x size (protocol_passes v p has))
    (u32_again (protocol_number p) x (protocol_fits p)) (drop_at b x 4 size)

pub told_passed : {old mid new : SourceFacts} (v : Version) (p : Protocol) → HasProtocol v p
    → Passed head_fault old mid (after_version (version_number v))
    → Comes mid new (u32_bytes (protocol_number p))
    → Passed head_fault old new
    (fields_fault (layout_fields (layout (version_number v) (protocol_number p))))
told_passed v p has passed comes =
    passed_more (u32_bytes (protocol_number p)) passed comes (told v p has)

-- ---- faults of the head's beginning are faults of the head

pub opening_refuses : (old new : SourceFacts) (fault : ImageFault)
    → IsInputFault (fields_fault opening_fields) old new fault → IsInputFault head_fault old new fault
unfolding head_fault
opening_refuses old new fault s =
    first_refuses (fields_fault opening_fields)
    (λ bytes.
    fault_or (fields_fault (protocol_field (u32_at bytes 8) ∷ []) (drop 12 bytes))
    (fields_fault (layout_fields (layout_of bytes)) (drop 16 bytes))) old new fault s

pub protocol_refuses : {old mid : SourceFacts} (version : ℕ)
    → Passed head_fault old mid (after_version version) → (new : SourceFacts) (fault : ImageFault)
    → IsInputFault (fields_fault (protocol_field version ∷ [])) mid new fault
    → IsInputFault head_fault old new fault
protocol_refuses {mid = mid} version passed new fault s =
    passed_refuses passed new fault
    (first_refuses (fields_fault (protocol_field version ∷ []))
    (λ bytes.
    fields_fault (layout_fields (layout version (u32_at bytes 0))) (drop 4 bytes)) mid new fault s)
