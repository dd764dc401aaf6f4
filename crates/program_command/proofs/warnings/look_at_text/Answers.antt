use Rattle.std.proofs.Common.{Option, sym, subst}
use Rattle.nr_units.specs.Source.{Supply}
use Rattle.document_stages.specs.Pulling.{Stays}
use Rattle.program_options.specs.Job.{asked_of}
use Rattle.program_command.proofs.Warning.{TellsText-of}
use Rattle.program_command.proofs.warnings.look_at_text.Goals as goal

pub returns-clause-stays : goal.returns-clause-stays
returns-clause-stays g c = subst (λ (s : Option Supply). Stays (g.S.Source.supply c.args.text) s) (sym c.over.ensures) c.in_ok-read.ensures.came

pub returns-clause-reported : goal.returns-clause-reported
returns-clause-reported g c =
    TellsText-of (asked_of c.args.job.now) c.args.looks.coding c.args.name.now (g.S.Source.supply c.args.text) c.in_ok-read.read.whole c.in_ok-read.read.bytes.items _ _
    c.in_ok-read.ensures.whole c.in_ok-read.ensures.cut c.in_ok-tell_read.ensures
