use Rattle.std.proofs.Common.{◌≡◌, ℕ, List, Some, ◌∷◌, ◌++◌, sym, ◌∙◌, ap}
use Rattle.std.proofs.lemmas.Bool.Decides.{Decides-eqb}
use Rattle.std.proofs.lemmas.Slice.Eq.{strip_prefix_is}
use Rattle.document_sources.proofs.inside.lies_in.Goals as goal

pub returns : goal.returns
returns c =
    let root = c.args.root.now in
    let rest = c.in-Some-split_first.rest.now in
    let following : c.args.path.now ≡ root ++ c.in-Some.below.now =
    strip_prefix_is Decides-eqb c.args.path.now root (Some c.in-Some.below) c.in-Some.ensures.cases in
    λ is. record {
      rest = rest;
      path_is = following ∙ ap (λ (x : List ℕ). root ++ x) (c.in-Some-split_first.ensures.cases.0 ∙ ap (λ (b : ℕ). b ∷ rest) c.if-first-ne47.false);
      inner = sym c.is_inner.ensures ∙ is;
    }
