-- Where the text of a field ends.
use Rattle.std.proofs.Common.{◌≡◌, ℕ, ◌+◌, ◌-◌, ◌<◌, ◌≤◌, ◌^◌, Bool, true, false, ◌&&◌, nat_le, List, [], length, take, drop, arith, if◌then◌else◌}
use Rattle.std.proofs.lemmas.Bool.Decides.{nat_tests}
use Rattle.std.proofs.lemmas.List.{length-take}
use Rattle.tbl_table.specs.declared.table.Span.{Span}
use Rattle.tbl_table.specs.Held.{part}

part_len : (a b : Bool) (text : List ℕ) (start end : ℕ) → (a ≡ true → start ≤ end) → start < 2 ^ 64 → end < 2 ^ 64
    → start + length (if a && b then take (end - start) (drop start text) else []) < 2 ^ 64
part_len true true text start end h s e =
    let ordered : start ≤ end = h cc in
    simp length-take (omega (arith, ordered, s, e))
part_len true false text start end h s e = omega (arith, s)
part_len false b text start end h s e = omega (arith, s)

pub part_within : (text : List ℕ) (s : Span) → s.start < 2 ^ 64 → s.«end» < 2 ^ 64 → s.start + length (part text s) < 2 ^ 64
part_within text s h k =
    part_len (nat_le s.start s.«end») (nat_le s.«end» (length text)) text s.start s.«end» (λ e. grind (arith, nat_tests, e)) h k
