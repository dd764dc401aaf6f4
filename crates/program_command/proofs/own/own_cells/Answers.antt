use Rattle.std.proofs.Common.{sym, ap, ◌∙◌}
use Rattle.utf8_own_characters.specs.Ranking.{ranked}
use Rattle.program_command.proofs.Shown.{needs-as, needs-not}
use Rattle.program_command.proofs.own.own_cells.Goals as goal

pub returns-then-not-may_need_own : goal.returns-then-not-may_need_own
returns-then-not-may_need_own c short =
    needs-not c.args.plan.now c.args.prefix.now _ c.may_need_own.ensures c.if-not-may_need_own.true

pub returns-then-not-lacks : goal.returns-then-not-lacks
returns-then-not-lacks c short =
    needs-as c.args.plan.now c.args.prefix.now _ _ _ _ c.may_need_own.ensures c.if-not-may_need_own.false c.lacks.ensures c.if-not-lacks.true
    (c.deref.ensures.value ∙ c.in_ok-counts.ensures.counted short.man_is short.plain_is)

pub returns : goal.returns
returns c short =
    let counts = c.in_ok-counts.ensures.counted short.man_is short.plain_is in (
      needs-as c.args.plan.now c.args.prefix.now _ _ _ _ c.may_need_own.ensures c.if-not-may_need_own.false c.lacks.ensures c.if-not-lacks.false
          (c.deref.ensures.value ∙ counts),
      c.in_ok-of.ensures ∙ ap ranked (c.deref-2.ensures.value ∙ counts),
    )
