-- Equal facts and equal values give one handover, or one first refusal, and never both.
use Rattle.std.proofs.Common.{◌≡◌, List, [], Option, Some, None, sym, ap, subst, ◌∙◌, ◌⊎◌, inl, inr}
use Rattle.std.proofs.lemmas.Option.{same_Some}
use Rattle.bl_map.specs.MachineFacts.{MachineFacts}
use Rattle.bl_plan.specs.Placed.{ArePlaced}
use Rattle.bl_plan.specs.declared.part.Row.{Row}
use Rattle.bl_plan.proofs.OneListLaws as places
use Rattle.bl_load.specs.declared.refusal.Refusal.{Refusal}
use Rattle.bl_load.specs.EntryValue.{EntryValue, lines_fault, lines_of}
use Rattle.bl_load.specs.KernelReading.{KernelReading, HasKernelFileFault}
use Rattle.bl_load.specs.Rows.{rows_of}
use Rattle.bl_load.specs.Handover.{Handover}
use Rattle.bl_load.specs.Parts.{IsHandover, IsRefusal, HasRowFault, HasPlaceFault, OrRefused}
use Rattle.bl_load.specs.Parts.{handover_of, placing_refusal}
use Rattle.bl_load.proofs.OneReadingLaws.{one_reading, one_read_fault, read_not_fault}

-- equal facts and equal values hand over the same
pub one_handover : (facts : MachineFacts) (value : EntryValue) (h k : Handover)
    → IsHandover facts value h → IsHandover facts value k → h ≡ k
one_handover facts value h k a b =
    let reading : b.reading ≡ a.reading =
    one_reading facts value b.reading a.reading b.read a.read in
    let moved : ArePlaced facts [] (rows_of facts value a.reading) b.places =
    subst (λ (x : KernelReading). ArePlaced facts [] (rows_of facts value x) b.places) reading
    b.placed in
    let same : a.places ≡ b.places =
    places.one_list facts [] (rows_of facts value a.reading) a.places b.places a.placed moved in
    a.is ∙ ap (handover_of facts value a.reading) same
    ∙ ap (λ (x : KernelReading). handover_of facts value x b.places) (sym reading) ∙ sym b.is

-- rows are refused for one fault
one_row_fault : (facts : MachineFacts) (rows : List Row) (r s : Refusal) → HasRowFault facts rows r
    → HasRowFault facts rows s → r ≡ s
one_row_fault facts rows r s (f, a, f_is) (g, b, g_is) =
    same_Some r s (sym f_is ∙ ap placing_refusal (places.one_fault facts [] rows f g a b) ∙ g_is)

one_then : (first : Option Refusal) (rest : Refusal → Type 0) (r s : Refusal)
    → (rest r → rest s → r ≡ s) → OrRefused first rest r → OrRefused first rest s → r ≡ s
one_then first rest r s one (inl a) (inl b) = same_Some r s (sym a ∙ b)
one_then first rest r s one (inl a) (inr b) = let bad : Some r ≡ None = sym a ∙ b.0 in absurd cc
one_then first rest r s one (inr a) (inl b) = let bad : Some s ≡ None = sym b ∙ a.0 in absurd cc
one_then first rest r s one (inr a) (inr b) = one a.1 b.1

-- the kernel is refused, or one of the rows
abbrev IsLateRefusal : MachineFacts → EntryValue → Refusal → Type 0
IsLateRefusal facts value r = HasKernelFileFault facts value r ⊎ HasPlaceFault facts value r

one_late : (facts : MachineFacts) (value : EntryValue) (r s : Refusal) → IsLateRefusal facts value r
    → IsLateRefusal facts value s → r ≡ s
one_late facts value r s (inl a) (inl b) = one_read_fault facts value r s a b
one_late facts value r s (inl a) (inr (k, is, b)) = absurd (read_not_fault facts value k r is a)
one_late facts value r s (inr (k, is, a)) (inl b) = absurd (read_not_fault facts value k s is b)
one_late facts value r s (inr (k, is_k, a)) (inr (l, is_l, b)) =
    one_row_fault facts (rows_of facts value k) r s a
    (subst (λ (x : KernelReading). HasRowFault facts (rows_of facts value x) s)
    (one_reading facts value l k is_l is_k) b)

-- or have one first refusal
pub one_refusal : (facts : MachineFacts) (value : EntryValue) (r s : Refusal)
    → IsRefusal facts value r → IsRefusal facts value s → r ≡ s
one_refusal facts value r s a b =
    one_then (lines_fault (lines_of value)) (IsLateRefusal facts value) r s
    (one_late facts value r s) a b

-- and never both
pub not_both : (facts : MachineFacts) (value : EntryValue) (h : Handover) (r : Refusal)
    → IsHandover facts value h → IsRefusal facts value r → ⊥
not_both facts value h r is (inl lines) =
    let bad : None ≡ Some r = sym is.lines ∙ lines in absurd cc
not_both facts value h r is (inr (lines, inl read)) =
    read_not_fault facts value is.reading r is.read read
not_both facts value h r is (inr (lines, inr (k, is_k, (f, a, f_is)))) =
    let placed : ArePlaced facts [] (rows_of facts value k) is.places =
    subst (λ (x : KernelReading). ArePlaced facts [] (rows_of facts value x) is.places)
    (one_reading facts value is.reading k is.read is_k) is.placed in
    places.not_both facts [] (rows_of facts value k) is.places f placed a
