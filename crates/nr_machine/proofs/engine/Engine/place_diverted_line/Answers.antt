use Rattle.std.proofs.Common.{rules, arith}
use Rattle.nr_formatter.specs.Places.{to_read}
use Rattle.nr_formatter.proofs.Falling.{falls-then, falls-less, on_ok}
use Rattle.nr_machine.proofs.Lightening.{falls-line}
use Rattle.nr_machine.proofs.engine.Engine.place_diverted_line.Goals as goal

pub returns : goal.returns
returns c =
    let f = c.args.self.now.formatter in
    let g = c.place_row.new.self.formatter in
    record {
      works = record {
        comes = search rules;
        lightens = on_ok c.place_row.result
            (λ p. (falls-less 5 4 1 0 f g (falls-then 5 0 0 4 f (to_read f) g (falls-line c.args.height f c.requires.idle c.requires.task) p.0) (omega arith), p.1)) c.place_row.ensures.falls;
      };
      limits = c.place_row.ensures.limits;
    }
