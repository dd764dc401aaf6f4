-- A page that is none of mdoc stays as it is.
use Rattle.std.proofs.Common.{◌≡◌, ℕ, List, [], ◌∷◌, Bool, true, not, ◌==◌, ◌&&◌, ◌||◌, if◌then◌else◌, refl, ◌∙◌, ap}
use Prim.Native.Char.{code}
use Rattle.mdoc_command.specs.Lines.{is_passed, is_unwatched, taken_in}
use Rattle.mdoc_command.specs.Watching.{Page, acted, all_heard, counted, gone_on, heard, with_half}

unwatched_heard : (b : ℕ) (p : Page) → is_unwatched p.half ≡ true → heard b p ≡ p
unwatched_heard b p e =
    ap (λ (u : Bool). if u || (not (b == code "\n") && is_passed p.half.line) then p else
    (let m = taken_in b p.half in
    counted b (gone_on p.half.line (acted m.1 (with_half m.0 p))))) e

pub all_unwatched : (bs : List ℕ) (p : Page) → is_unwatched p.half ≡ true → all_heard bs p ≡ p
all_unwatched [] p e = refl
all_unwatched (b ∷ bs) p e = ap (all_heard bs) (unwatched_heard b p e) ∙ all_unwatched bs p e
