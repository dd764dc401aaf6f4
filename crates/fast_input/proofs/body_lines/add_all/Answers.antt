use Rattle.fast_input.proofs.BodyLines.{all_added}
use Rattle.fast_input.proofs.body_lines.add_all.Goals as goal

pub returns-clause-added : goal.returns-clause-added
returns-clause-added g c = λ is.
    let add = c.add_bytes in
    all_added add.result c.args.bytes.now c.args.store.now add.new.self add.ensures.within (c.admits.ensures.charge c.if-not-admits.false) add.ensures.added add.ensures.most
