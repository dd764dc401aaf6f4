-- A byte at the end of a name.
use Rattle.std.proofs.Common.{◌≡◌, ℕ, ◌+◌, ◌-◌, ◌<◌, List, set, drop, replicate, ap, sym, ◌∙◌, arith}
use Rattle.std.proofs.lemmas.List.{length-set, drop-set-lt, drop-drop, drop-replicate}
use Rattle.nr_units.specs.Name.{IsPadded, capacity}

pub IsPadded-set : (bytes : List ℕ) (len at byte : ℕ) → at ≡ len → IsPadded bytes len → len < capacity → IsPadded (set bytes at byte) (len + 1)
IsPadded-set bytes len at byte is padded below =
    let whole = padded.whole in
    let one : (capacity - len) - 1 ≡ capacity - (len + 1) = omega arith in
    record {
      within = omega arith;
      whole = length-set bytes at byte ∙ padded.whole;
      zeros = drop-set-lt (len + 1) bytes at byte (omega arith) ∙ sym (drop-drop 1 len bytes) ∙ ap (drop 1) padded.zeros ∙ drop-replicate 1 (capacity - len) 0 ∙ ap (λ n. replicate n 0) one;
    }
