use Rattle.std.proofs.Common.{◌≡◌, ℕ, ◌<◌, List, ap, subst, ◌∙◌, sym}
use Rattle.nr_formatter.specs.Many.Runs.{is_in_line}
use Rattle.nr_machine.specs.Holding.{Shape, shape}
use Rattle.fast_machine.specs.LineBeginnings.{begun_shape, may_take, PutsMost}
use Rattle.fast_machine.specs.Running.{MakesReading}
use Rattle.nr_machine.specs.declared.engine.Engine.{Engine}
use Rattle.fast_machine.proofs.LineBeginnings.{before, begins_still, begun_line, makes_begun}
use Rattle.fast_machine.proofs.Running.{reading_in_place}
use Rattle.fast_machine.proofs.plain_text.put_text.Goals.{else-not-in_line-2-via-then-not-in_line-2+else-not-begin_text, else-not-in_line-2-via-else-not-in_line-2}
use Rattle.fast_machine.proofs.plain_text.put_text.Goals as goal

pub returns-then-is_reading-clause-reads : goal.returns-then-is_reading-clause-reads
returns-then-is_reading-clause-reads g c = reading_in_place c.put_level_text.result (shape c.args.engine.now) (shape c.put_level_text.new.engine) _ _ c.put_level_text.ensures.puts

pub put_source_text-requires : goal.put_source_text-requires
put_source_text-requires g c =
    let f = c.args.engine.now.formatter in
    let at = c.requires.at_text in
    elim c.else-not-in_line-2.branch [
      | else-not-in_line-2-via-then-not-in_line-2+else-not-begin_text w ↦ (let half = before f at (sym c.is_in_line-in_line.ensures ∙ w.if-not-in_line-2.true) in
          let begins = w.begin_text.ensures.begins w.if-not-begin_text.false in
          record {
            line = ap (λ (e : Engine). is_in_line e.formatter) w.engine-is ∙ ap (λ (e : Shape). is_in_line e.formatter) begins.is ∙ begun_line f at half;
          })
      | else-not-in_line-2-via-else-not-in_line-2 w ↦ record {
        line = ap (λ (e : Engine). is_in_line e.formatter) w.engine-is ∙ sym c.is_in_line-in_line.ensures ∙ w.if-not-in_line-2.false;
      }
    ]

pub returns-clause-reads : goal.returns-clause-reads
returns-clause-reads g c =
    let e : Shape = shape c.args.engine.now in
    let at = c.requires.at_text in
    let put = c.put_source_text.ensures in
    let n = c.put_source_text.result in
    let last : Shape = shape c.put_source_text.new.engine in
    let s0 = g.R.Source.supply c.args.input.now in
    let s1 = g.R.Source.supply c.put_source_text.new.input in
    let k0 = g.R.Source.failures c.args.input.now in
    let k1 = g.R.Source.failures c.put_source_text.new.input in
    let bs : List ℕ = g.R.Source.at_hand c.args.input.now in
    elim c.else-not-in_line-2.branch [
      | else-not-in_line-2-via-then-not-in_line-2+else-not-begin_text w ↦ (let half = before e.formatter at (sym c.is_in_line-in_line.ensures ∙ w.if-not-in_line-2.true) in
          let begins = w.begin_text.ensures.begins w.if-not-begin_text.false in
          let there : shape c.else-not-in_line-2.engine ≡ begun_shape e = ap shape w.engine-is ∙ begins.is in
          let reads = subst (λ (x : Shape). MakesReading n x last s0 s1 k0 k1) there put.reads in
          let most = subst (λ (x : Shape). PutsMost bs n x last) there put.most in
          let some : 0 < n = most.some begins.has.levels begins.has.unseen (begins_still (may_take e.place bs) e.formatter begins.begins) in
          record {
            makes = makes_begun (may_take e.place bs) e s0 at half begins.begins begins.has n last s1 some reads.makes (most.saves some);
            failures = reads.failures;
            unfailed = reads.unfailed;
          })
      | else-not-in_line-2-via-else-not-in_line-2 w ↦ subst (λ (x : Engine). MakesReading n (shape x) last s0 s1 k0 k1) w.engine-is put.reads
    ]
