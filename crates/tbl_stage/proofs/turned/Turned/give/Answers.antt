use Rattle.document_stages.proofs.Steps.{Gives-item}
use Rattle.tbl_stage.proofs.turned.Turned.give.Goals as goal

pub returns-clause-gives : goal.returns-clause-gives
returns-clause-gives g c =
    let s = c.args.self.now in
    Gives-item (g.R.Source.supply s.input) _ (g.T.Turning.says s.stage) (g.T.Turning.fits s.stage) s.out.now.items s.at c.get-byte.result s.taken s.ended c.get-byte.ensures
