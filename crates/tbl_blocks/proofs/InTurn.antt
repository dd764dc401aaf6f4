-- Words of a request, one after the other.
use Rattle.std.proofs.Common.{◌≡◌, ℕ, zero, suc, ◌+◌, ◌-◌, ◌<◌, List, drop, refl, sym, ap, arith, ◌∙◌, Option, Some, None}
use Rattle.std.proofs.lemmas.List.{drop-drop}
use Rattle.tbl_blocks.specs.declared.arguments.Argument.{Argument}
use Rattle.tbl_blocks.specs.declared.blocks.Blocks.{Blocks}
use Rattle.tbl_blocks.specs.declared.reading.Manner.{Manner}
use Rattle.tbl_blocks.specs.Arguments.{argument}
use Rattle.tbl_blocks.specs.Words.{argument_read, arguments_from}

-- none is left
pub no_argument : (most n place : ℕ) (text : List ℕ) (m : Manner) (s : Blocks) → argument text ≡ None → arguments_from most n text place m s ≡ s
no_argument zero n place text m s h = refl
no_argument (suc most) n place text m s h = ap (λ (o : Option Argument). elim o [
  | None ↦ s
  | Some a ↦ arguments_from most (n + 1) (drop a.next text) (place + a.next) m (argument_read a text place n m s)
]) h

one_argument : (most n place : ℕ) (text : List ℕ) (m : Manner) (s : Blocks) (a : Argument) → argument text ≡ Some a
    → arguments_from (suc most) n text place m s ≡ arguments_from most (n + 1) (drop a.next text) (place + a.next) m (argument_read a text place n m s)
one_argument most n place text m s a h = ap (λ (o : Option Argument). elim o [
  | None ↦ s
  | Some b ↦ arguments_from most (n + 1) (drop b.next text) (place + b.next) m (argument_read b text place n m s)
]) h

-- the next one is read
pub next_argument : (len n at place : ℕ) (text : List ℕ) (m : Manner) (s t r : Blocks) (a : Argument) → n < len → argument (drop at text) ≡ Some a
    → t ≡ argument_read a (drop at text) (place + at) n m s → arguments_from (len - n) n (drop at text) (place + at) m s ≡ r
    → arguments_from (len - (n + 1)) (n + 1) (drop (at + a.next) text) (place + (at + a.next)) m t ≡ r
next_argument len n at place text m s t r a some found now before =
    let count : len - n ≡ suc (len - (n + 1)) = omega (arith, some) in
    let further : place + at + a.next ≡ place + (at + a.next) = omega arith in
    let here : arguments_from (suc (len - (n + 1))) n (drop at text) (place + at) m s ≡ r =
    ap (λ (q : ℕ). arguments_from q n (drop at text) (place + at) m s) (sym count) ∙ before in
    ap (arguments_from (len - (n + 1)) (n + 1) (drop (at + a.next) text) (place + (at + a.next)) m) now
    ∙ (ap (λ (q : ℕ). arguments_from (len - (n + 1)) (n + 1) (drop (at + a.next) text) q m (argument_read a (drop at text) (place + at) n m s)) (sym further)
    ∙ (ap (λ (q : List ℕ). arguments_from (len - (n + 1)) (n + 1) q (place + at + a.next) m (argument_read a (drop at text) (place + at) n m s)) (sym (drop-drop a.next at text))
    ∙ (sym (one_argument (len - (n + 1)) n (place + at) (drop at text) m s a found)
    ∙ here)))
