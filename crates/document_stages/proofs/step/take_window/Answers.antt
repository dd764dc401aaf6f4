use Rattle.std.proofs.Common.{◌≤◌, length, sym, subst, List, ℕ, arith}
use Rattle.std.proofs.lemmas.List.{length-take}
use Rattle.document_stages.proofs.Stepping.{Turned-window}
use Rattle.document_stages.proofs.step.take_window.Goals as goal

within : (g : _) (c : goal.After-skip g) → c.args.len ≤ length c.window-window.result.now
within g c = let P : List ℕ → Type 0 = λ ws. c.args.len ≤ length ws in subst P (sym c.window-window.ensures.value) c.requires.within

few : (g : _) (c : goal.After-skip g) → c.turn-count.result ≤ c.args.len
few g c =
    let cut = length-take c.args.len c.window-window.result.now in
    let some = c.turn-count.ensures.within in
    let fits = within g c in
    omega (arith, cut, some, fits)

pub returns-clause-turned : goal.returns-clause-turned
returns-clause-turned g c =
    Turned-window _ _ c.window-window.result.now c.args.len c.turn-count.result _ _ _ _ (few g c) (within g c) c.window-window.ensures.offers c.skip.ensures.skips
    c.turn-count.ensures.says c.turn-count.ensures.fits c.turn-count.ensures.counts

pub returns-clause-few : goal.returns-clause-few
returns-clause-few g c = few g c
