use Rattle.std.specs.Prelude.{codes}
use Rattle.std.proofs.Common.{◌≡◌, List, [], ℕ, ◌++◌, ◌&&◌, Bool, true, false, if◌then◌else◌, sym, refl, ap, subst, ◌∙◌, append-nil}
use Rattle.utf8_characters.specs.declared.table.FixedTable.{FixedTable}
use Rattle.utf8_characters.specs.Tables.{name_of}
use Rattle.utf8_command.specs.Choosing.{IsShortIf, asks_for_own, fixed_for, lacks, needs_own}
use Rattle.utf8_command.proofs.choosing.choice.Goals as goal
use Rattle.utf8_command.proofs.choosing.choice.Goals.{else-asks_for_own-via-then-asks_for_own+in_ok-lacks+else-branch, else-asks_for_own-via-else-asks_for_own}

own_line : (asks lacking : Bool) (name fixed : List ℕ) → asks ≡ true → lacking ≡ true
    → codes "own:" ++ name ++ codes "\n" ≡ (if asks && lacking then codes "own:" ++ name else fixed) ++ codes "\n"
own_line true true name fixed first second = refl
own_line true false name fixed first second = cc
own_line false lacking name fixed first second = cc

fixed_line : (own : Bool) (mine fixed : List ℕ) → own ≡ false → fixed ++ codes "\n" ≡ (if own then mine else fixed) ++ codes "\n"
fixed_line true mine fixed is = cc
fixed_line false mine fixed is = refl

not_second : (a b : Bool) → b ≡ false → (a && b) ≡ false
not_second true b is = is
not_second false b is = refl

not_first : (a b : Bool) → a ≡ false → (a && b) ≡ false
not_first true b is = cc
not_first false b is = refl

pub returns-then-branch : goal.returns-then-branch
returns-then-branch c short =
    let asks : asks_for_own c.args.name.now c.args.prefix.now ≡ true = sym c.asks_for_own.ensures ∙ c.if-asks_for_own.true in
    own_line (asks_for_own c.args.name.now c.args.prefix.now) (lacks (fixed_for c.args.prefix.now) c.args.prefix.now) c.args.name.now (name_of (fixed_for c.args.prefix.now)) asks
    (ap (λ (t : FixedTable). lacks t c.args.prefix.now) (sym c.in_ok-fixed.ensures)
    ∙ sym (c.in_ok-lacks.ensures (subst (λ (b : Bool). IsShortIf b c.args.prefix.now) asks short)) ∙ c.if-branch.true)

pub returns : goal.returns
returns c short =
    let none : needs_own c.args.name.now c.args.prefix.now ≡ false = elim c.else-asks_for_own.branch [
      | else-asks_for_own-via-then-asks_for_own+in_ok-lacks+else-branch w ↦ not_second (asks_for_own c.args.name.now c.args.prefix.now) (lacks (fixed_for c.args.prefix.now) c.args.prefix.now)
          (ap (λ (t : FixedTable). lacks t c.args.prefix.now) (sym c.in_ok-fixed.ensures)
          ∙ sym (w.in_ok-lacks.ensures (subst (λ (b : Bool). IsShortIf b c.args.prefix.now) (sym c.asks_for_own.ensures ∙ w.if-asks_for_own.true) short)) ∙ w.if-branch.false)
      | else-asks_for_own-via-else-asks_for_own w ↦ not_first (asks_for_own c.args.name.now c.args.prefix.now) (lacks (fixed_for c.args.prefix.now) c.args.prefix.now) (sym c.asks_for_own.ensures ∙ w.if-asks_for_own.false)
    ] in
    ap (λ (xs : List ℕ). xs ++ codes "\n") (append-nil c.name.result.now ∙ c.name.ensures.value ∙ ap name_of c.in_ok-fixed.ensures)
    ∙ fixed_line (needs_own c.args.name.now c.args.prefix.now) (codes "own:" ++ c.args.name.now) (name_of (fixed_for c.args.prefix.now)) none
