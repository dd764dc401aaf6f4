-- An expression is filled in, byte by byte.
use Rattle.std.proofs.Common.{◌≡◌, ℕ, zero, ◌+◌, ◌-◌, ◌<◌, ◌==◌, Bool, true, false, nat_lt, List, length, get_or, take, drop, refl, sym, ap, arith, ◌∙◌, if◌then◌else◌}
use Prim.Native.Char.{code}
use Rattle.std.proofs.lemmas.Bool.Decides.{nat_tests}
use Rattle.std.proofs.lemmas.List.{at_drop_more, take_rest}
use Rattle.tbl_columns.specs.declared.grid.Grid.{Grid}
use Rattle.tbl_columns.specs.declared.registers.Expression.{Expression}
use Rattle.tbl_columns.specs.Registers.{Filling, filled_from, waiting, with_byte, with_register, written}
use Rattle.tbl_columns.proofs.Choices.{left, taken}

-- a byte that belongs to a register is passed
pub byte_passed : (g : Grid) (text : List ℕ) (n more : ℕ) (e : Expression) → n < length text → 0 < more
    → filled_from g (drop (n + 1) text) (waiting (more - 1) (written e)) ≡ filled_from g (drop n text) (waiting more (written e))
byte_passed g text n more e h some =
    let f : Filling = waiting more (written e) in
    let b : ℕ = get_or text n 0 in
    let rest : List ℕ = drop (n + 1) text in
    let is : nat_lt 0 more ≡ true = grind (arith, nat_tests, some) in
    sym (at_drop_more (λ (xs : List ℕ). filled_from g xs f) text n 0 h
    ∙ taken (nat_lt 0 more) (filled_from g rest (waiting (more - 1) (written e)))
    (if b == code "\\" then filled_from g rest (with_register g rest f) else filled_from g rest (with_byte b f)) is)

none_waits : (more : ℕ) → more ≡ 0 → nat_lt 0 more ≡ false
none_waits more e = ap (nat_lt 0) e

-- the number of a register is filled in
pub register_filled : (g : Grid) (text : List ℕ) (n more len : ℕ) (e new : Expression) → n < length text → more ≡ 0 → get_or text n 0 ≡ 92
    → with_register g (take (length text - (n + 1)) (drop (n + 1) text)) (written e) ≡ waiting len (written new)
    → filled_from g (drop (n + 1) text) (waiting len (written new)) ≡ filled_from g (drop n text) (waiting more (written e))
register_filled g text n more len e new h none is filled =
    let f : Filling = waiting more (written e) in
    let b : ℕ = get_or text n 0 in
    let rest : List ℕ = drop (n + 1) text in
    let same : f ≡ written e = ap (λ (m : ℕ). waiting m (written e)) none in
    let made : with_register g rest f ≡ waiting len (written new) =
    ap (with_register g rest) same ∙ ap (λ (xs : List ℕ). with_register g xs (written e)) (sym (take_rest text (n + 1))) ∙ filled in
    let slash : (b == code "\\") ≡ true = ap (λ (x : ℕ). x == code "\\") is in
    sym (at_drop_more (λ (xs : List ℕ). filled_from g xs f) text n 0 h
    ∙ left (nat_lt 0 more) (filled_from g rest (waiting (more - 1) (written e)))
    (if b == code "\\" then filled_from g rest (with_register g rest f) else filled_from g rest (with_byte b f)) (none_waits more none)
    ∙ taken (b == code "\\") (filled_from g rest (with_register g rest f)) (filled_from g rest (with_byte b f)) slash
    ∙ ap (filled_from g rest) made)

-- any other byte is taken over
pub byte_filled : (g : Grid) (text : List ℕ) (n more : ℕ) (e new : Expression) → n < length text → more ≡ 0 → (get_or text n 0 ≡ 92 → ⊥)
    → written new ≡ with_byte (get_or text n 0) (written e)
    → filled_from g (drop (n + 1) text) (waiting more (written new)) ≡ filled_from g (drop n text) (waiting more (written e))
byte_filled g text n more e new h none other filled =
    let f : Filling = waiting more (written e) in
    let b : ℕ = get_or text n 0 in
    let rest : List ℕ = drop (n + 1) text in
    let same : f ≡ written e = ap (λ (m : ℕ). waiting m (written e)) none in
    let made : with_byte b f ≡ waiting more (written new) =
    ap (with_byte b) same ∙ sym filled ∙ sym (ap (λ (m : ℕ). waiting m (written new)) none) in
    let slash : (b == code "\\") ≡ false = grind (arith, nat_tests, other) in
    sym (at_drop_more (λ (xs : List ℕ). filled_from g xs f) text n 0 h
    ∙ left (nat_lt 0 more) (filled_from g rest (waiting (more - 1) (written e)))
    (if b == code "\\" then filled_from g rest (with_register g rest f) else filled_from g rest (with_byte b f)) (none_waits more none)
    ∙ left (b == code "\\") (filled_from g rest (with_register g rest f)) (filled_from g rest (with_byte b f)) slash
    ∙ ap (filled_from g rest) made)
