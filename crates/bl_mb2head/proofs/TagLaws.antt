-- The tags from a place on, or their first fault, are determined by the bytes.
use Rattle.std.proofs.Common.{◌≡◌, ℕ, Bool, false, Some, None, List, [], ◌∷◌, refl, sym, ap, ap₂, subst}
use Rattle.std.proofs.Common.{◌∙◌, nat_eq}
use Rattle.std.proofs.lemmas.Option.{same_Some}
use Rattle.bl_mem.specs.LittleEndian.{u16_at}
use Rattle.bl_mb2head.specs.declared.tag.Tag.{Tag}
use Rattle.bl_mb2head.specs.declared.fault.HeadFault.{HeadFault}
use Rattle.bl_mb2head.specs.Tags.{next_tag_place, tag_fault_at, AreTags, AreAllTags}
use Rattle.bl_mb2head.specs.Tags.{IsFirstTagFault}

-- a place at which no further tag is passed: that of the last tag, or of one with a fault
abbrev pub Stops : Bool → List ℕ → ℕ → ℕ → Type 0
Stops console bytes end at = (tag_fault_at console bytes end at ≡ None) → u16_at bytes at ≡ 0

-- two runs of tags that begin at one place and stop are one
same_run : (console : Bool) (bytes : List ℕ) (end at p q : ℕ) (ts us : List Tag) → AreTags console bytes end at p ts
    → AreTags console bytes end at q us → Stops console bytes end p → Stops console bytes end q → (p ≡ q) × (ts ≡ us)
same_run console bytes end at p q [] [] a b p_stops q_stops = (sym a ∙ b, refl)
same_run console bytes end at p q [] (u ∷ us) a b p_stops q_stops =
    let ends : u.kind ≡ 0 =
    ap (λ (t : Tag). t.kind) b.0 ∙ ap (u16_at bytes) a
    ∙ p_stops (subst (λ (k : ℕ). tag_fault_at console bytes end k ≡ None) a b.1) in
    let bad : nat_eq 0 0 ≡ false = subst (λ (k : ℕ). nat_eq k 0 ≡ false) ends b.2 in absurd cc
same_run console bytes end at p q (t ∷ ts) [] a b p_stops q_stops =
    let ends : t.kind ≡ 0 =
    ap (λ (s : Tag). s.kind) a.0 ∙ ap (u16_at bytes) b
    ∙ q_stops (subst (λ (k : ℕ). tag_fault_at console bytes end k ≡ None) b a.1) in
    let bad : nat_eq 0 0 ≡ false = subst (λ (k : ℕ). nat_eq k 0 ≡ false) ends a.2 in absurd cc
same_run console bytes end at p q (t ∷ ts) (u ∷ us) a b p_stops q_stops =
    let same : u ≡ t = b.0 ∙ sym a.0 in
    let rest : AreTags console bytes end (next_tag_place t) q us =
    subst (λ (s : Tag). AreTags console bytes end (next_tag_place s) q us) same b.3 in
    let behind = same_run console bytes end (next_tag_place t) p q ts us a.3 rest p_stops q_stops in
    (behind.0, ap₂ (λ (x : Tag) (xs : List Tag). x ∷ xs) (sym same) behind.1)

stops_at_fault : (console : Bool) (bytes : List ℕ) (end p : ℕ) (f : HeadFault) → tag_fault_at console bytes end p ≡ Some f
    → Stops console bytes end p
stops_at_fault console bytes end p f faulty = λ sound. absurd cc

-- the tags from a place on are one list
pub one_list : (console : Bool) (bytes : List ℕ) (end at : ℕ) (ts us : List Tag) → AreAllTags console bytes end at ts
    → AreAllTags console bytes end at us → ts ≡ us
one_list console bytes end at ts us a b =
    (same_run console bytes end at a.next b.next ts us a.tags b.tags (λ _. a.ends) (λ _. b.ends)).1

-- the first fault among them is one
pub one_fault : (console : Bool) (bytes : List ℕ) (end at : ℕ) (f g : HeadFault) → IsFirstTagFault console bytes end at f
    → IsFirstTagFault console bytes end at g → f ≡ g
one_fault console bytes end at f g a b =
    let same =
    same_run console bytes end at a.next b.next a.before b.before a.tags b.tags
    (stops_at_fault console bytes end a.next f a.faulty)
    (stops_at_fault console bytes end b.next g b.faulty) in
    same_Some f g (sym a.faulty ∙ ap (tag_fault_at console bytes end) same.0 ∙ b.faulty)

-- and where all tags are sound there is none
pub not_both : (console : Bool) (bytes : List ℕ) (end at : ℕ) (ts : List Tag) (f : HeadFault)
    → AreAllTags console bytes end at ts → IsFirstTagFault console bytes end at f → ⊥
not_both console bytes end at ts f a b =
    let same =
    same_run console bytes end at a.next b.next ts b.before a.tags b.tags (λ _. a.ends)
    (stops_at_fault console bytes end b.next f b.faulty) in
    let bad : None ≡ Some f = sym a.sound ∙ ap (tag_fault_at console bytes end) same.0 ∙ b.faulty in
    cc
