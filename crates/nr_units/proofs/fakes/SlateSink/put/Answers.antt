use Rattle.std.proofs.Common.{◌-◌, length, take, drop, sym, ap, ◌∙◌}
use Rattle.std.proofs.lemmas.List.{take-append-drop}
use Rattle.nr_units.specs.Sink.{Slate}
use Rattle.nr_units.proofs.fakes.SlateSink.put.Goals as goal

-- the front is what fits
pub returns-clause-err : goal.returns-clause-err
returns-clause-err c =
    let room = length c.self.inside.cells.now - c.self.inside.used in
    (take room c.args.bytes.now, drop room c.args.bytes.now, sym (take-append-drop room c.args.bytes.now), ap (λ (s : Slate). s.bytes) (c.self-2.view_is ∙ c.take-2.ensures.taken))
