use Rattle.std.proofs.Common.{◌≡◌, subst, sym, arith}
use Rattle.bl_mem.specs.declared.frame_state.FrameState.TheVariants.{Kept, Plain}
use Rattle.bl_mem.specs.SparseFrames.{SparseFramesFacts, frame_numbered}
use Rattle.bl_mem.proofs.PairLemmas.{joined_bytes, joined_sound}
use Rattle.std.proofs.lemmas.Grind.{common_steps}
use Rattle.bl_mem.proofs.sparse_frames.SparseFrames.share.Goals as goal

pub invariant_of-self : goal.invariant_of-self
invariant_of-self g c =
    joined_sound c.self.inside.fill c.self.inside.table.items c.self.inside.kept.items _ _ _
    c.self.invariant c.args.from c.args.to c.in-Kept.slot c.in-Plain.field-0
    (subst (λ (facts : SparseFramesFacts). frame_numbered facts c.args.from ≡ Kept c.in-Kept.slot)
    (sym c.self.view_is) (sym c.in-Kept.ensures))
    (subst (λ (facts : SparseFramesFacts). frame_numbered facts c.args.to
    ≡ Plain c.in-Plain.field-0)
    (sym c.self.view_is) (sym c.in-Plain.ensures))

pub returns-clause-shared : goal.returns-clause-shared
returns-clause-shared g c = λ _.
    rw (← c.self.view_is)
    (joined_bytes c.self.inside.fill c.self.inside.table.items c.self.inside.kept.items _ _ _
    c.self.invariant c.args.from c.args.to c.in-Kept.slot c.in-Plain.field-0
    (subst (λ (facts : SparseFramesFacts). frame_numbered facts c.args.from ≡ Kept c.in-Kept.slot)
    (sym c.self.view_is) (sym c.in-Kept.ensures))
    (subst (λ (facts : SparseFramesFacts). frame_numbered facts c.args.to
    ≡ Plain c.in-Plain.field-0)
    (sym c.self.view_is) (sym c.in-Plain.ensures)))

pub index_mut-requires : goal.index_mut-requires
index_mut-requires g c = grind (arith, common_steps)

pub index_mut-requires-2 : goal.index_mut-requires-2
index_mut-requires-2 g c = grind (arith, common_steps)
