use Rattle.std.proofs.Common.{◌≡◌, ◌+◌, ◌-◌, take, drop, ap, sym, ◌∙◌, subst, arith}
use Rattle.std.proofs.lemmas.List.{drop-take}
use Rattle.nr_units.specs.Source.{buffered_supply, Offers}
use Rattle.nr_units.proofs.Offering.{offers_buffered}
use Rattle.nr_units.proofs.buffered.BufferedSource.window.Goals as goal

pub returns-clause-offers : goal.returns-clause-offers
returns-clause-offers g c =
    let s = c.args.self.now in
    let far : s.at + (s.end - s.at) ≡ s.end = omega arith in
    let same : drop s.at (take s.end s.buffer.now) ≡ take (s.end - s.at) (drop s.at s.buffer.now) = ap (λ k. drop s.at (take k s.buffer.now)) (sym far) ∙ drop-take s.at (s.end - s.at) s.buffer.now in
    subst (Offers (buffered_supply (drop s.at (take s.end s.buffer.now)) s.ended (g.R.Read.remaining s.reader))) same (offers_buffered _ s.ended (g.R.Read.remaining s.reader))
