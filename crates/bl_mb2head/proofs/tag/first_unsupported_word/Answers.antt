use Rattle.std.proofs.Common.{◌∙◌, sym, ap, ◌≡◌, true, false, Some}
use Rattle.bl_mb2head.specs.Tags.{can_be_given}
use Rattle.bl_mb2head.proofs.TagLemmas.{unknown_here, unknown_from}
use Rattle.bl_mb2head.proofs.tag.first_unsupported_word.Goals as goal

pub returns-then-not-can_be_given : goal.returns-then-not-can_be_given
returns-then-not-can_be_given g c =
    let unknown : can_be_given c.u32_at-kind.result ≡ false =
    sym c.can_be_given.ensures ∙ c.if-not-can_be_given.true in
    let bytes = g.V.ByteView.bytes c.args.view.now in
    ap Some c.u32_at-kind.ensures
    ∙ sym
    (unknown_here bytes c.args.at c.args.count c.loop-i.i c.loop-i-test.true
    (rw (← c.u32_at-kind.ensures) unknown)) ∙ c.loop-i.invariant

pub loop-i-preserved : goal.loop-i-preserved
loop-i-preserved g c =
    let known : can_be_given c.u32_at-kind.result ≡ true =
    sym c.can_be_given.ensures ∙ c.if-not-can_be_given.false in
    let bytes = g.V.ByteView.bytes c.args.view.now in
    sym
    (unknown_from bytes c.args.at c.args.count c.loop-i.i c.loop-i-test.true
    (rw (← c.u32_at-kind.ensures) known)) ∙ c.loop-i.invariant
