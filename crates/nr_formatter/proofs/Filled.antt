-- A byte at the end of a name.
use Rattle.std.proofs.Common.{◌≡◌, ℕ, ◌+◌, ◌-◌, ◌<◌, List, set, drop, replicate, ap, sym, ◌∙◌, arith}
use Rattle.std.proofs.lemmas.List.{length-set, drop-set-lt, drop-drop, drop-replicate}
use Rattle.nr_formatter.specs.RequestLine.{IsFilled}

pub IsFilled-set : (bytes : List ℕ) (len at byte : ℕ) → at ≡ len → IsFilled bytes len → len < 256 → IsFilled (set bytes at byte) (len + 1)
IsFilled-set bytes len at byte is filled below =
    let whole = filled.whole in
    let one : (256 - len) - 1 ≡ 256 - (len + 1) = omega arith in
    record {
      within = omega arith;
      whole = length-set bytes at byte ∙ filled.whole;
      zeros = drop-set-lt (len + 1) bytes at byte (omega arith) ∙ sym (drop-drop 1 len bytes) ∙ ap (drop 1) filled.zeros ∙ drop-replicate 1 (256 - len) 0 ∙ ap (λ n. replicate n 0) one;
    }
