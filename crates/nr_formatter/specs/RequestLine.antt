-- How the line of a request that waits lies in memory.
use Rattle.std.specs.Prelude.{◌≡◌, ℕ, ◌-◌, ◌≤◌, List, ◌++◌, length, take, drop, replicate}
use Rattle.std.proofs.Common.{ap, sym, ◌∙◌, length-take-le, take-append-drop, arith}

-- its bytes, and zeros after them to 256
abbrev pub filled : List ℕ → List ℕ
filled bytes = bytes ++ replicate (256 - length bytes) 0

-- 256 bytes, of which those from a place on are zeros
pub record IsFilled (bytes : List ℕ) (len : ℕ) : Type 0 where
  pub within : len ≤ 256
  pub whole : length bytes ≡ 256
  pub zeros : drop len bytes ≡ replicate (256 - len) 0

pub length-take_filled : (bytes : List ℕ) (len : ℕ) → IsFilled bytes len → length (take len bytes) ≡ len
length-take_filled bytes len is = let within = is.within in let whole = is.whole in
    length-take-le len bytes (omega arith)

pub filled-take : (bytes : List ℕ) (len : ℕ) → IsFilled bytes len → filled (take len bytes) ≡ bytes
filled-take bytes len is =
    ap (λ n. take len bytes ++ replicate (256 - n) 0) (length-take_filled bytes len is)
    ∙ ap (λ zeros. take len bytes ++ zeros) (sym is.zeros)
    ∙ take-append-drop len bytes
