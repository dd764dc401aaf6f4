-- A byte is offered until it is taken.
use Rattle.std.proofs.Common.{◌≡◌, ℕ, suc, ◌-◌, ◌<◌, [], Bool, false, if◌then◌else◌, ◌∙◌, ap, arith}
use Rattle.mdoc_converter.specs.Reading.{State, Emitted, Once, emitted, preceded, once, heard_in}

-- what comes of one step
after_once : ℕ → ℕ → Once → Emitted
after_once k b o = preceded o.bytes 1 (if o.takes then emitted o.state [] 0 else heard_in k b o.state)

offered_once : (n b : ℕ) (s : State) → 0 < n → heard_in n b s ≡ after_once (n - 1) b (once b s)
unfolding after_once
offered_once n b s l =
    let e : n ≡ suc (n - 1) = omega arith in
    ap (λ (k : ℕ). heard_in k b s) e

pub heard_left : (n b : ℕ) (s : State) → 0 < n → (once b s).takes ≡ false
    → heard_in n b s ≡ preceded (once b s).bytes 1 (heard_in (n - 1) b (once b s).state)
unfolding after_once
heard_left n b s l takes =
    let o = once b s in
    offered_once n b s l
    ∙ ap (λ (t : Bool). preceded o.bytes 1 (if t then emitted o.state [] 0 else heard_in (n - 1) b o.state)) takes
