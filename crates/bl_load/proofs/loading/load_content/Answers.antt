use Rattle.std.proofs.Common.{◌≡◌, ◌<◌, ◌≤◌, ◌+◌, ℕ, length, slice_index, refl, subst, arith, All}
use Rattle.std.proofs.Common.{AllPairs}
use Rattle.bl_load.specs.KernelBlock.{span_of}
use Rattle.bl_load.specs.Loadable.{lengths_of, content_length, IsCopyable, SegmentsAscend}
use Rattle.bl_load.proofs.HeldLemmas.{within_texts, length_at}
use Rattle.bl_load.proofs.loading.load_content.Goals as goal

pub copy-requires-clause-piece : goal.copy-requires-clause-piece
copy-requires-clause-piece g c =
    let texts = g.F.FileSet.texts c.args.files.now (g.M.PhysMem.bytes c.args.memory.now) in
    let file = c.in-File.file in
    let there : (file < length (lengths_of texts))
    × (1 ≤ c.in-File.count
    → c.in-File.offset + c.in-File.count ≤ slice_index (lengths_of texts) file) =
    rw c.in-File.is at c.requires.there in
    let size = length_at texts file in
    record {
      file = within_texts texts file there.0;
      source = λ some. let inside = there.1 some in omega (arith, inside, size);
    }

pub load_block-requires-clause-block : goal.load_block-requires-clause-block
load_block-requires-clause-block g c =
    let texts = g.F.FileSet.texts c.args.files.now (g.M.PhysMem.bytes c.args.memory.now) in
    let file = c.in-Block.file in
    let segments = c.in-Block.segments.items in
    let lengths = lengths_of texts in
    let there : (file < length lengths) × (1 ≤ length segments)
    × All (IsCopyable (slice_index lengths file)) segments × AllPairs SegmentsAscend segments =
    rw c.in-Block.is at c.requires.there in
    rw c.as_slice-in-Block.ensures.value
    (record {
      file = within_texts texts file there.0;
      some = there.1;
      copied = subst (λ (n : ℕ). All (IsCopyable n) segments) (length_at texts file) there.2;
      ascending = there.3;
    })

-- the block is as long as the content
block_length : (g : _) (c : goal.After-as_slice-in-Block g)
    → span_of c.as_slice-in-Block.result.now ≡ content_length c.args.content.now
block_length g c = rw (c.as_slice-in-Block.ensures.value, c.in-Block.is) refl

pub load_block-requires-clause-free : goal.load_block-requires-clause-free
load_block-requires-clause-free g c = rw (block_length g c) c.requires.free

pub write_beside-requires : goal.write_beside-requires
write_beside-requires g c =
    rw c.as_slice.ensures (rw c.in-Own.is at c.requires.free)
