use Prim.Native.Char.{code}
use Rattle.std.proofs.Common.{true, sym, ap, ◌∙◌}
use Rattle.std.proofs.lemmas.Bool.{ne_eqb}
use Rattle.nr_reading.specs.declared.half.Half.{Half}
use Rattle.nr_reading.specs.Step.{Step}
use Rattle.nr_reading.specs.Half.{settled, taken_in_copied}
use Rattle.nr_reading.proofs.Newest.{take_in-copied}
use Rattle.nr_reading.proofs.half.Half.copy_byte.Goals as goal

pub returns : goal.returns
returns c =
    let h = c.args.self.now in
    let s = c.read-said.result in
    c.settle.ensures ∙ ap (λ (k : Half). settled s.takes true s.event k) c.note.ensures
    ∙ ap (λ (t : Step). taken_in_copied true t h) c.read-said.ensures
    ∙ sym (take_in-copied c.args.byte h c.requires.plain c.requires.copied (ne_eqb c.args.byte (code "\\") c.if-byte-eq92.false))
