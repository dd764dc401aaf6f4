use Rattle.std.proofs.Common.{refl, reverse, ap, ◌∷◌, ◌∙◌, sym, eqb-true, length}
use Rattle.std.proofs.lemmas.List.{length-reverse}
use Rattle.nr_units.specs.Scan.{fresh, with_open}
use Rattle.nr_units.specs.Scanner.{scan_of}
use Rattle.nr_units.proofs.scanner.Scanner.open.Goals as goal

pub returns-then-is_full : goal.returns-then-is_full
returns-then-is_full c =
    let s = c.args.self.now in
    λ x. (
      refl,
      length-reverse s.outer.items ∙ eqb-true (length s.outer.items) 64 (sym c.is_full.ensures.value ∙ c.if-is_full.true),
      (record { level = fresh; outer = s.level.waiting ∷ reverse s.outer.items }, ap (with_open (scan_of s)) c.in-Before.is),
    )
