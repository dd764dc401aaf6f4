use Rattle.std.proofs.Common.{◌≡◌, ◌∙◌, [], sym, subst}
use Rattle.nr_units.specs.Source.{Offers}
use Rattle.preconv_coding.specs.UnderCoding.{supply_from}
use Rattle.preconv_coding.proofs.Giving.{no_bytes, plain_offers}
use Rattle.preconv_coding.proofs.under_coding.UnderCodingSource.window.Goals as goal

pub returns-then-is_plain-clause-offers : goal.returns-then-is_plain-clause-offers
returns-then-is_plain-clause-offers g c =
    let s = c.args.self.now in
    let known = g.S.Source.supply s.source in
    let hand = c.window.result.now in
    let none : s.ready ≡ [] = no_bytes s.ready (sym c.is_empty.ensures ∙ c.if-is_empty.true) in
    subst (λ ready. Offers (supply_from s.part ready known) hand) (sym none)
    (plain_offers s.part (sym c.is_plain.ensures ∙ c.if-is_plain.true) known hand c.window.ensures.offers)
