-- A name in memory and its bytes tell each other.
use Rattle.std.specs.Prelude.{◌≡◌, ℕ, ◌-◌, List, ◌++◌, length, take, replicate}
use Rattle.std.proofs.Common.{ap, sym, ◌∙◌, length-take-le, take-append-drop, arith}
use Rattle.nr_units.specs.Name.{IsPadded, capacity, padded}

pub length-take_padded : (bytes : List ℕ) (len : ℕ) → IsPadded bytes len → length (take len bytes) ≡ len
length-take_padded bytes len is = let within = is.within in let whole = is.whole in
    length-take-le len bytes (omega arith)

pub padded-take : (bytes : List ℕ) (len : ℕ) → IsPadded bytes len → padded (take len bytes) ≡ bytes
padded-take bytes len is =
    ap (λ n. take len bytes ++ replicate (capacity - n) 0) (length-take_padded bytes len is)
    ∙ ap (λ zeros. take len bytes ++ zeros) (sym is.zeros)
    ∙ take-append-drop len bytes
