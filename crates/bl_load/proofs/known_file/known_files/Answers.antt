use Rattle.std.proofs.Common.{ℕ, List, [], ◌∷◌, ◌++◌, get_or, map, ap, sym, ◌∙◌, refl}
use Rattle.std.proofs.lemmas.List.{map_push, map_more, take_all}
use Rattle.bl_load.specs.declared.known_file.KnownFile.TheVariants.{Length}
use Rattle.bl_load.specs.internal.KnownFiles.{blank_file, known_bytes}
use Rattle.bl_load.proofs.known_file.known_files.Goals as goal

pub loop-size-init : goal.loop-size-init
loop-size-init g c = rw (c.in_ok-push.ensures.items, c.in_ok-files.ensures.items) refl

pub loop-size-preserved : goal.loop-size-preserved
loop-size-preserved g c =
    let known = known_bytes g.V.ByteView.bytes in
    let first = g.V.ByteView.bytes c.args.kernel.now in
    let sizes = c.args.lengths.now in
    let k = c.loop-size.size-index in
    let size : ℕ = get_or sizes k 0 in
    ap (map known) c.in_ok-push-2.ensures.items
    ∙ map_push known c.loop-size.files.items (Length size)
    ∙ ap (λ (texts : List (List ℕ)). texts ++ blank_file size ∷ []) c.loop-size.invariant
    ∙ ap (λ (texts : List (List ℕ)). first ∷ texts)
    (sym (map_more blank_file sizes k 0 c.loop-size-test.true))

pub returns : goal.returns
returns g c =
    let first = g.V.ByteView.bytes c.args.kernel.now in
    c.loop-size.invariant
    ∙ ap (λ (sizes : List ℕ). first ∷ map blank_file sizes)
    (take_all c.loop-size.size-index c.args.lengths.now c.loop-size-test.false)
