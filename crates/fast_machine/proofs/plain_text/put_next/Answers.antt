use Rattle.std.proofs.Common.{◌≡◌, ℕ, subst, arith}
use Rattle.nr_machine.specs.Holding.{Shape, shape}
use Rattle.fast_machine.specs.Running.{MakesInPlace, MakesReading}
use Rattle.fast_machine.proofs.Running.{reading-add, reading_in_place, reading_later, reading_none}
use Rattle.fast_machine.proofs.plain_text.put_next.Given.{Over}
use Rattle.fast_machine.proofs.plain_text.put_next.Goals.{Joined-is_at_text, then-is_at_text+else-text-gt0, else-is_at_text}
use Rattle.fast_machine.proofs.plain_text.put_next.Goals as goal

-- no text was put
no_text : (g : Over) (c : Joined-is_at_text g) → MakesReading 0 (shape c.args.engine.now) (shape c.if-is_at_text.engine)
    (g.R.Source.supply c.args.input.now) (g.R.Source.supply c.if-is_at_text.input) (g.R.Source.failures c.args.input.now) (g.R.Source.failures c.if-is_at_text.input)
no_text g c =
    elim c.if-is_at_text.branch [
      | then-is_at_text+else-text-gt0 w ↦ (let none : w.put_text-text.result ≡ 0 = omega (arith, w.if-text-gt0.false) in rw (w.engine-is, w.input-is) (rw none at w.put_text-text.ensures.reads))
      | else-is_at_text w ↦ (rw (w.engine-is, w.input-is) (reading_none (shape c.args.engine.now) (g.R.Source.supply c.args.input.now) (g.R.Source.failures c.args.input.now)))
    ]

pub returns-then-cells-gt0-clause-reads : goal.returns-then-cells-gt0-clause-reads
returns-then-cells-gt0-clause-reads g c =
    let next : Shape = shape c.if-is_at_text.engine in
    let afterwards : Shape = shape c.put_row-cells.new.engine in
    reading_later c.put_row-cells.result (shape c.args.engine.now) next afterwards _ _ _ _ _ _ (no_text g (goal.at.returns-then-cells-gt0-clause-reads g c).Joined-is_at_text)
    (reading_in_place c.put_row-cells.result next afterwards (g.R.Source.supply c.if-is_at_text.input) (g.R.Source.failures c.if-is_at_text.input) c.put_row-cells.ensures.puts)

pub returns-clause-reads : goal.returns-clause-reads
returns-clause-reads g c =
    let next : Shape = shape c.if-is_at_text.engine in
    let afterwards : Shape = shape c.put_row-cells.new.engine in
    let last : Shape = shape c.read_lines.new.engine in
    let none : c.put_row-cells.result ≡ 0 = omega (arith, c.if-cells-gt0.false) in
    let no_cells = reading_in_place 0 next afterwards (g.R.Source.supply c.if-is_at_text.input) (g.R.Source.failures c.if-is_at_text.input)
    (subst (λ (n : ℕ). MakesInPlace n next afterwards) none c.put_row-cells.ensures.puts) in
    reading_later c.read_lines.result (shape c.args.engine.now) next last _ _ _ _ _ _ (no_text g (goal.at.returns-clause-reads g c).Joined-is_at_text)
    (reading_later c.read_lines.result next afterwards last _ _ _ _ _ _ no_cells c.read_lines.ensures.reads)

pub returns-then-text-gt0-clause-reads : goal.returns-then-text-gt0-clause-reads
returns-then-text-gt0-clause-reads g c =
    reading-add c.put_text-text.result c.read_after.result (shape c.args.engine.now) (shape c.put_text-text.new.engine) (shape c.read_after.new.engine)
    _ _ _ _ _ _ c.put_text-text.ensures.reads c.read_after.ensures.reads
