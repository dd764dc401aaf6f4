use Rattle.std.proofs.Common.{◌∙◌, ap, sym}
use Rattle.utf8_own_characters.specs.Ranking.{ranked}
use Rattle.nulbiko.proofs.OwnRun.{lacks-none, lacks-some, not-asked, short-if}
use Rattle.nulbiko.proofs.own.own_cells.Goals as goal

pub returns-then-not-asks_for_own : goal.returns-then-not-asks_for_own
returns-then-not-asks_for_own c short fixed =
    not-asked c.args.setup.now c.args.text.now _ c.asks_for_own.ensures c.if-not-asks_for_own.true

pub returns-then-not-lacks : goal.returns-then-not-lacks
returns-then-not-lacks c short fixed =
    let small = short-if c.args.setup.now c.args.text.now _ c.asks_for_own.ensures c.if-not-asks_for_own.false short in
    lacks-none c.args.setup.now c.args.text.now _ _ _ _ c.asks_for_own.ensures c.if-not-asks_for_own.false c.lacks.ensures c.if-not-lacks.true fixed
    (c.deref.ensures.value ∙ c.in_ok-counts.ensures.items small.look)

pub returns : goal.returns
returns c short fixed =
    let small = short-if c.args.setup.now c.args.text.now _ c.asks_for_own.ensures c.if-not-asks_for_own.false short in
    lacks-some c.args.setup.now c.args.text.now _ _ _ _ _ c.asks_for_own.ensures c.if-not-asks_for_own.false c.lacks.ensures c.if-not-lacks.false fixed
    (c.deref.ensures.value ∙ c.in_ok-counts.ensures.items small.look)
    (c.in_ok-of.ensures ∙ ap ranked (c.deref-2.ensures.value ∙ sym c.deref.ensures.value))
