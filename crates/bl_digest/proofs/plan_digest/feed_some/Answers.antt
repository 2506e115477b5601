use Rattle.std.proofs.Common.{drop, ◌-◌, ◌≡◌, ◌+◌, ◌<◌, ◌≤◌, ◌^◌, ℕ, length, map, take, ap, ◌∙◌}
use Rattle.std.proofs.Common.{arith, length-take, slice_range}
use Rattle.std.proofs.lemmas.List.{length-map}
use Rattle.bl_mem.specs.FileSet.{nth_file}
use Rattle.bl_digest.specs.PlanInSteps.{DigestingFacts}
use Rattle.bl_digest.specs.Ranges.{ranges_of}
use Rattle.bl_digest.proofs.RangeLemmas.{wanted_is_next, view_is, next_inside, comes_more}
use Rattle.bl_digest.proofs.RangeLemmas.{comes_within, comes_first}
use Rattle.bl_digest.proofs.plan_digest.feed_some.Goals as goal

pub offset_bounds-files-range : goal.offset_bounds-files-range
offset_bounds-files-range g c =
    let files = c.args.files.now in
    let texts = map g.V.ByteView.bytes files in
    let digesting = c.args.digesting.now in
    let next =
    wanted_is_next texts (ranges_of digesting.plan.steps) (length digesting.fed) c.args.range
    c.requires.lie c.requires.wanted in
    omega (arith, next.file, length-map files g.V.ByteView.bytes)

pub bounds-files-range : goal.bounds-files-range
bounds-files-range g c =
    let files = c.args.files.now in
    let texts = map g.V.ByteView.bytes files in
    let digesting = c.args.digesting.now in
    let next =
    wanted_is_next texts (ranges_of digesting.plan.steps) (length digesting.fed) c.args.range
    c.requires.lie c.requires.wanted in
    omega (arith, next.file, length-map files g.V.ByteView.bytes)

pub lend-requires : goal.lend-requires
lend-requires g c =
    let files = c.args.files.now in
    let texts = map g.V.ByteView.bytes files in
    let digesting = c.args.digesting.now in
    let range = c.args.range in
    let view = c.index-files-range.result in
    let next =
    wanted_is_next texts (ranges_of digesting.plan.steps) (length digesting.fed) range
    c.requires.lie c.requires.wanted in
    let file : range.file < length files =
    omega (arith, next.file, length-map files g.V.ByteView.bytes) in
    let text : nth_file texts range.file ≡ g.V.ByteView.bytes view =
    view_is g.V.ByteView.bytes files range.file view file c.index-files-range.is in
    let small : length (g.V.ByteView.bytes view) < 2 ^ 64 = omega (arith, c.len-length.ensures, c.len-length.type_inv) in
    let inside = next_inside texts (ranges_of digesting.plan.steps) (length digesting.fed) range
    (g.V.ByteView.bytes view) next text small in
    omega (arith, inside, c.min-count.ensures)

pub read-requires : goal.read-requires
read-requires g c =
    let files = c.args.files.now in
    let texts = map g.V.ByteView.bytes files in
    let digesting = c.args.digesting.now in
    let range = c.args.range in
    let view = c.index-files-range.result in
    let next =
    wanted_is_next texts (ranges_of digesting.plan.steps) (length digesting.fed) range
    c.requires.lie c.requires.wanted in
    let file : range.file < length files =
    omega (arith, next.file, length-map files g.V.ByteView.bytes) in
    let text : nth_file texts range.file ≡ g.V.ByteView.bytes view =
    view_is g.V.ByteView.bytes files range.file view file c.index-files-range.is in
    let small : length (g.V.ByteView.bytes view) < 2 ^ 64 = omega (arith, c.len-length.ensures, c.len-length.type_inv) in
    let inside = next_inside texts (ranges_of digesting.plan.steps) (length digesting.fed) range
    (g.V.ByteView.bytes view) next text small in
    let count = length-take c.min-count-in-None.result c.args.buffer.now in
    omega (arith, inside, count, c.min-count.ensures, c.min-count-in-None.ensures)

pub returns-in-Some-clause-more : goal.returns-in-Some-clause-more
returns-in-Some-clause-more g c =
    let files = c.args.files.now in
    let texts = map g.V.ByteView.bytes files in
    let digesting = c.args.digesting.now in
    let range = c.args.range in
    let view = c.index-files-range.result in
    let next =
    wanted_is_next texts (ranges_of digesting.plan.steps) (length digesting.fed) range
    c.requires.lie c.requires.wanted in
    let file : range.file < length files =
    omega (arith, next.file, length-map files g.V.ByteView.bytes) in
    let text : nth_file texts range.file ≡ g.V.ByteView.bytes view =
    view_is g.V.ByteView.bytes files range.file view file c.index-files-range.is in
    let small : length (g.V.ByteView.bytes view) < 2 ^ 64 = omega (arith, c.len-length.ensures, c.len-length.type_inv) in
    let n = c.min-count.result in
    let n_some : 1 ≤ n = omega (arith, next.some, c.min-count.ensures) in
    let within : n ≤ range.length = omega (arith, c.min-count.ensures) in
    let are = ap (λ (d : DigestingFacts). d.fed) c.feed.ensures in
    comes_more texts (ranges_of digesting.plan.steps) digesting.fed c.feed.new.self.fed
    (g.V.ByteView.bytes view) c.in-Some.bytes.now range n next text small n_some within
    c.in-Some.ensures are

pub returns-in-Some-clause-within : goal.returns-in-Some-clause-within
returns-in-Some-clause-within g c =
    let files = c.args.files.now in
    let texts = map g.V.ByteView.bytes files in
    let digesting = c.args.digesting.now in
    let range = c.args.range in
    let view = c.index-files-range.result in
    let next =
    wanted_is_next texts (ranges_of digesting.plan.steps) (length digesting.fed) range
    c.requires.lie c.requires.wanted in
    let file : range.file < length files =
    omega (arith, next.file, length-map files g.V.ByteView.bytes) in
    let text : nth_file texts range.file ≡ g.V.ByteView.bytes view =
    view_is g.V.ByteView.bytes files range.file view file c.index-files-range.is in
    let small : length (g.V.ByteView.bytes view) < 2 ^ 64 = omega (arith, c.len-length.ensures, c.len-length.type_inv) in
    let n = c.min-count.result in
    let n_some : 1 ≤ n = omega (arith, next.some, c.min-count.ensures) in
    let within : n ≤ range.length = omega (arith, c.min-count.ensures) in
    let are = ap (λ (d : DigestingFacts). d.fed) c.feed.ensures in
    comes_within texts (ranges_of digesting.plan.steps) digesting.fed c.feed.new.self.fed
    (g.V.ByteView.bytes view) c.in-Some.bytes.now range n next text small n_some within
    c.in-Some.ensures are

pub returns-in-Some-clause-first : goal.returns-in-Some-clause-first
returns-in-Some-clause-first g c =
    let files = c.args.files.now in
    let texts = map g.V.ByteView.bytes files in
    let digesting = c.args.digesting.now in
    let range = c.args.range in
    let view = c.index-files-range.result in
    let next =
    wanted_is_next texts (ranges_of digesting.plan.steps) (length digesting.fed) range
    c.requires.lie c.requires.wanted in
    let file : range.file < length files =
    omega (arith, next.file, length-map files g.V.ByteView.bytes) in
    let text : nth_file texts range.file ≡ g.V.ByteView.bytes view =
    view_is g.V.ByteView.bytes files range.file view file c.index-files-range.is in
    let small : length (g.V.ByteView.bytes view) < 2 ^ 64 = omega (arith, c.len-length.ensures, c.len-length.type_inv) in
    let n = c.min-count.result in
    let n_some : 1 ≤ n = omega (arith, next.some, c.min-count.ensures) in
    let within : n ≤ range.length = omega (arith, c.min-count.ensures) in
    let are = ap (λ (d : DigestingFacts). d.fed) c.feed.ensures in
    comes_first texts (ranges_of digesting.plan.steps) digesting.fed c.feed.new.self.fed
    (g.V.ByteView.bytes view) c.in-Some.bytes.now range n next text small n_some within
    c.in-Some.ensures are c.requires.first

pub returns-in-None-clause-more : goal.returns-in-None-clause-more
returns-in-None-clause-more g c =
    let files = c.args.files.now in
    let texts = map g.V.ByteView.bytes files in
    let digesting = c.args.digesting.now in
    let range = c.args.range in
    let view = c.index-files-range.result in
    let next =
    wanted_is_next texts (ranges_of digesting.plan.steps) (length digesting.fed) range
    c.requires.lie c.requires.wanted in
    let file : range.file < length files =
    omega (arith, next.file, length-map files g.V.ByteView.bytes) in
    let text : nth_file texts range.file ≡ g.V.ByteView.bytes view =
    view_is g.V.ByteView.bytes files range.file view file c.index-files-range.is in
    let small : length (g.V.ByteView.bytes view) < 2 ^ 64 = omega (arith, c.len-length.ensures, c.len-length.type_inv) in
    let n = c.min-count-in-None.result in
    let n_some : 1 ≤ n =
    omega (arith, next.some, c.min-count.ensures, c.min-count-in-None.ensures, c.requires.room) in
    let within : n ≤ range.length =
    omega (arith, c.min-count.ensures, c.min-count-in-None.ensures) in
    let long : length (take n c.args.buffer.now) ≡ n =
    length-take n c.args.buffer.now ∙ omega (arith, c.min-count-in-None.ensures) in
    let piece =
    c.read.ensures
    ∙ ap (λ (k : ℕ). slice_range (g.V.ByteView.bytes view) range.offset (range.offset + k)) long in
    let are = ap (λ (d : DigestingFacts). d.fed) c.feed-in-None.ensures in
    comes_more texts (ranges_of digesting.plan.steps) digesting.fed c.feed-in-None.new.self.fed
    (g.V.ByteView.bytes view) c.read.new.out range n next text small n_some within piece are

pub returns-in-None-clause-within : goal.returns-in-None-clause-within
returns-in-None-clause-within g c =
    let files = c.args.files.now in
    let texts = map g.V.ByteView.bytes files in
    let digesting = c.args.digesting.now in
    let range = c.args.range in
    let view = c.index-files-range.result in
    let next =
    wanted_is_next texts (ranges_of digesting.plan.steps) (length digesting.fed) range
    c.requires.lie c.requires.wanted in
    let file : range.file < length files =
    omega (arith, next.file, length-map files g.V.ByteView.bytes) in
    let text : nth_file texts range.file ≡ g.V.ByteView.bytes view =
    view_is g.V.ByteView.bytes files range.file view file c.index-files-range.is in
    let small : length (g.V.ByteView.bytes view) < 2 ^ 64 = omega (arith, c.len-length.ensures, c.len-length.type_inv) in
    let n = c.min-count-in-None.result in
    let n_some : 1 ≤ n =
    omega (arith, next.some, c.min-count.ensures, c.min-count-in-None.ensures, c.requires.room) in
    let within : n ≤ range.length =
    omega (arith, c.min-count.ensures, c.min-count-in-None.ensures) in
    let long : length (take n c.args.buffer.now) ≡ n =
    length-take n c.args.buffer.now ∙ omega (arith, c.min-count-in-None.ensures) in
    let piece =
    c.read.ensures
    ∙ ap (λ (k : ℕ). slice_range (g.V.ByteView.bytes view) range.offset (range.offset + k)) long in
    let are = ap (λ (d : DigestingFacts). d.fed) c.feed-in-None.ensures in
    comes_within texts (ranges_of digesting.plan.steps) digesting.fed c.feed-in-None.new.self.fed
    (g.V.ByteView.bytes view) c.read.new.out range n next text small n_some within piece are

pub returns-in-None-clause-first : goal.returns-in-None-clause-first
returns-in-None-clause-first g c =
    let files = c.args.files.now in
    let texts = map g.V.ByteView.bytes files in
    let digesting = c.args.digesting.now in
    let range = c.args.range in
    let view = c.index-files-range.result in
    let next =
    wanted_is_next texts (ranges_of digesting.plan.steps) (length digesting.fed) range
    c.requires.lie c.requires.wanted in
    let file : range.file < length files =
    omega (arith, next.file, length-map files g.V.ByteView.bytes) in
    let text : nth_file texts range.file ≡ g.V.ByteView.bytes view =
    view_is g.V.ByteView.bytes files range.file view file c.index-files-range.is in
    let small : length (g.V.ByteView.bytes view) < 2 ^ 64 = omega (arith, c.len-length.ensures, c.len-length.type_inv) in
    let n = c.min-count-in-None.result in
    let n_some : 1 ≤ n =
    omega (arith, next.some, c.min-count.ensures, c.min-count-in-None.ensures, c.requires.room) in
    let within : n ≤ range.length =
    omega (arith, c.min-count.ensures, c.min-count-in-None.ensures) in
    let long : length (take n c.args.buffer.now) ≡ n =
    length-take n c.args.buffer.now ∙ omega (arith, c.min-count-in-None.ensures) in
    let piece =
    c.read.ensures
    ∙ ap (λ (k : ℕ). slice_range (g.V.ByteView.bytes view) range.offset (range.offset + k)) long in
    let are = ap (λ (d : DigestingFacts). d.fed) c.feed-in-None.ensures in
    comes_first texts (ranges_of digesting.plan.steps) digesting.fed c.feed-in-None.new.self.fed
    (g.V.ByteView.bytes view) c.read.new.out range n next text small n_some within piece are c.requires.first

pub feed-requires : goal.feed-requires
feed-requires g c =
    let within : c.min-count.result ≤ c.args.range.length = omega (arith, c.min-count.ensures) in
    let from = c.args.range.offset in
    let n = c.min-count.result in
    let lent = ap length c.in-Some.ensures in
    let few =
    length-take (from + n - from) (drop from (g.V.ByteView.bytes c.index-files-range.result)) in
    rw c.requires.wanted (omega (arith, within, lent, few))
