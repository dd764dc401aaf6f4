-- Lines of formats that are rules, letter by letter and line by line.
use Rattle.std.proofs.Common.{◌≡◌, ℕ, zero, suc, ◌+◌, ◌-◌, ◌<◌, ◌≤◌, Bool, true, false, ◌&&◌, sym, ap, add-one, ◌∙◌, inl, inr, arith, if◌then◌else◌}
use Rattle.std.proofs.Math.Bool.{and-false}
use Rattle.std.proofs.Math.Nat.{eq-or-lt_of_le}
use Rattle.tbl_table.specs.declared.table.Line.{Line}
use Rattle.tbl_table.specs.declared.table.Table.{Table}
use Rattle.tbl_table.specs.Held.{is_ruling, key, line}
use Rattle.tbl_table.specs.Rows.{are_ruling, is_rule, rule_added, rules_in, with_next_line}

-- one other letter is enough
pub not_ruling : (n c : ℕ) (t : Table) (l : Line) → c < n → is_ruling (key t l c).kind ≡ false → are_ruling n t l ≡ false
not_ruling zero c t l h e = absurd (omega arith)
not_ruling (suc n) c t l h e =
    let within : c ≤ n = omega arith in
    elim (eq-or-lt_of_le within) [
      | inl is ↦ ap (λ b. are_ruling n t l && b) (ap (λ (d : ℕ). is_ruling (key t l d).kind) (sym is) ∙ e) ∙ and-false (are_ruling n t l)
      | inr less ↦ ap (λ b. b && is_ruling (key t l n).kind) (not_ruling n c t l less e)
    ]

-- a line more is skipped
pub one_skipped : (n m : ℕ) (t u : Table) → m < n → t.next_line ≡ m → u ≡ rule_added t → is_rule t (line t m) ≡ true
    → rules_in (n - (m + 1)) (with_next_line (m + 1) u) ≡ rules_in (n - m) t
one_skipped n m t u h at adds e =
    let is : n - m ≡ suc (n - (m + 1)) = omega arith in
    let rule : is_rule t (line t t.next_line) ≡ true = ap (λ (k : ℕ). is_rule t (line t k)) at ∙ e in
    sym (ap (λ (k : ℕ). rules_in k t) is
    ∙ ap (λ (b : Bool). if b then rules_in (n - (m + 1)) (with_next_line (suc t.next_line) (rule_added t)) else t) rule
    ∙ ap (λ (k : ℕ). rules_in (n - (m + 1)) (with_next_line (suc k) (rule_added t))) at
    ∙ ap (λ (v : Table). rules_in (n - (m + 1)) (with_next_line (suc m) v)) (sym adds)
    ∙ ap (λ (k : ℕ). rules_in (n - (m + 1)) (with_next_line k u)) (sym (add-one m)))
