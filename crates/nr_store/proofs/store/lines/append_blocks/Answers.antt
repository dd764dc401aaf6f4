use Rattle.std.proofs.Common.{◌≡◌, ◌+◌, ◌-◌, ◌++◌, length, map, take, drop, ap, sym, ◌∙◌, arith}
use Rattle.std.proofs.Math.Seq.{take-add}
use Rattle.std.proofs.lemmas.List.{take_all, take_at, length-map, length-drop, map-append}
use Rattle.std.proofs.lemmas.List as lists
use Rattle.nr_store.proofs.Lines.{with_more, none_more, more_open, some_more}
use Rattle.nr_store.proofs.store.lines.append_blocks.Goals as goal

pub loop-done-init : goal.loop-done-init
loop-done-init g c = record { so_far = none_more c.args.pool.now c.args.id c.requires.is_open; within = omega arith }

pub append_slice-requires : goal.append_slice-requires
append_slice-requires g c = rw c.loop-done.invariant.so_far (more_open c.args.pool.now c.args.id c.requires.is_open (map g.T.Single.single (take c.loop-done.done c.args.more.now)))

pub loop-done-preserved : goal.loop-done-preserved
loop-done-preserved g c =
    let single = g.T.Single.single in
    let items = c.args.more.now in
    let done = c.loop-done.done in
    let count = c.min-count.result in
    let test = c.loop-done-test.true in
    let counted = c.min-count.ensures in
    let room = c.requires.room in
    let xs = map single (take done items) in
    let more = take count (drop done items) in
    let rest = length-drop done items in
    let few = lists.length-take-le count (drop done items) (omega arith) in
    let prefix = lists.length-take-le done items (omega arith) in
    let as_many : (done + count) - done ≡ count = omega arith in
    let filled = c.fill.ensures ∙ ap (λ n. map single (take n (drop done items))) as_many in
    let long = length-map more single in
    let long_prefix = length-map (take done items) single in
    let block_is = take_at c.fill.new.block (drop count c.loop-done.block) count (ap length filled ∙ long ∙ few) ∙ filled in
    let long_block = ap length block_is in
    record {
      so_far = some_more c.args.pool.now c.args.id c.requires.is_open _ _ xs (take count (c.fill.new.block ++ drop count c.loop-done.block)) _ c.loop-done.invariant.so_far (omega arith) c.append_slice.ensures.full c.append_slice.ensures.ok
          ∙ ap (with_more c.args.pool.now c.args.id c.requires.is_open)
          (ap (λ ys. xs ++ ys) block_is ∙ sym (map-append single (take done items) more) ∙ ap (map single) (sym (take-add done count items)));
      within = omega arith;
    }

pub returns : goal.returns
returns g c =
    let test = c.loop-done-test.false in
    c.loop-done.invariant.so_far ∙ ap (λ zs. with_more c.args.pool.now c.args.id c.requires.is_open (map g.T.Single.single zs)) (take_all c.loop-done.done c.args.more.now test)
