use Rattle.std.proofs.Common.{rules, refl, ap}
use Rattle.nr_machine.proofs.Spending.{exit_spends}
use Rattle.nr_formatter.specs.Limits as formatter
use Rattle.nr_machine.specs.Holding.{shape}
use Rattle.nr_machine.proofs.LimitsStay.{formatter-limits}
use Rattle.nr_machine.proofs.engine.Engine.exit.Goals as goal

pub returns : goal.returns
returns c =
    let falls = c.ex.ensures.falls c.requires.idle c.requires.task in
    record {
      exits = record {
        comes = search rules;
        unfailed = rw c.empty.ensures.place refl;
        spends = record {
          limit = falls.limit;
          most = falls.most;
          spends = rw c.empty.ensures.place (exit_spends _ c.args.self.now.place c.args.self.now.formatter c.ex.new.self falls);
        };
      };
      limits = formatter-limits (shape c.args.self.now) c.ex.new.self (ap formatter.limits_of c.ex.ensures.is);
    }
