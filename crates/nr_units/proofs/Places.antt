-- Places in an expression that is being read: what stands in front of them, and what waits there.
use Prim.Native.Char.{code}
use Rattle.std.proofs.Common.{◌≡◌, ℕ, Bool, true, false, Some, List, [], ◌∷◌, ◌++◌, refl, ap, append_assoc, append-nil, ◌∙◌}
use Rattle.nr_units.specs.Grammar.{Operand, Expression, Plus, Minus, Past, Parentheses, Single, Joined, blanks, operator_text, operand_text, expression_text}
use Rattle.nr_units.specs.Expression.{operand_value, expression_value}
use Rattle.nr_units.specs.Prefix.{no_prefix, after_minus, after_bar}
use Rattle.nr_units.specs.Scan.{nothing_waits, joined_left, finished}
use Rattle.nr_units.specs.declared.operators.Operator.{Operator}
use Rattle.nr_units.specs.declared.level.Waiting.{Waiting}
use Rattle.nr_units.specs.declared.expression.Ctx.{Ctx}
use Rattle.nr_units.proofs.Values.{operand_in_range, prefixed-minus, prefixed-bar}
use Rattle.nr_units.proofs.Runs.{finished-nothing, finished-left}

-- Where an expression stands: outermost, or after an open parenthesis and blanks. Where an operand stands: first, or
-- after an expression and an operator with blanks at either side of it, or after a sign, or after a bar and blanks.
mutual
  pub data Slot : Type 0 where
    Outermost : Slot
    Inside : Place → ℕ → Slot

  pub data Place : Type 0 where
    First : Slot → Place
    Next : Slot → Expression → ℕ → Operator → ℕ → Place
    AfterPlus : Place → Place
    AfterMinus : Place → Place
    AfterBar : Place → ℕ → Place

abbrev pub slot_of : Place → Slot
slot_of (First k) = k
slot_of (Next k e n o m) = k
slot_of (AfterPlus p) = slot_of p
slot_of (AfterMinus p) = slot_of p
slot_of (AfterBar p n) = slot_of p

abbrev pub is_inside : Slot → Bool
is_inside Outermost = false
is_inside (Inside p n) = true

-- the text in front
abbrev mutual
  pub slot_text : Slot → List ℕ
  slot_text Outermost = []
  slot_text (Inside p n) = place_text p ++ (code "(" ∷ blanks true n)

  pub place_text : Place → List ℕ
  place_text (First k) = slot_text k
  place_text (Next k e n o m) =
      slot_text k ++ (expression_text (is_inside k) e ++ (blanks (is_inside k) n ++ (operator_text o ++ blanks (is_inside k) m)))
  place_text (AfterPlus p) = place_text p ++ code "+" ∷ []
  place_text (AfterMinus p) = place_text p ++ code "-" ∷ []
  place_text (AfterBar p n) = place_text p ++ (code "|" ∷ blanks (is_inside (slot_of p)) n)

-- what waits there, and what waits at each open parenthesis
abbrev pub waiting : Ctx → Place → Waiting
waiting c (First k) = nothing_waits
waiting c (Next k e n o m) = record { left = Some (record { value = expression_value c e; operator = o }); prefix = no_prefix }
waiting c (AfterPlus p) = waiting c p
waiting c (AfterMinus p) = record { left = (waiting c p).left; prefix = after_minus (waiting c p).prefix }
waiting c (AfterBar p n) = record { left = (waiting c p).left; prefix = after_bar c.here (waiting c p).prefix }

abbrev mutual
  pub outer_slot : Ctx → Slot → List Waiting
  outer_slot c Outermost = []
  outer_slot c (Inside p n) = waiting c p ∷ outer_place c p

  pub outer_place : Ctx → Place → List Waiting
  outer_place c (First k) = outer_slot c k
  outer_place c (Next k e n o m) = outer_slot c k
  outer_place c (AfterPlus p) = outer_place c p
  outer_place c (AfterMinus p) = outer_place c p
  outer_place c (AfterBar p n) = outer_place c p

pub outer_place-slot_of : (c : Ctx) (p : Place) → outer_place c p ≡ outer_slot c (slot_of p)
outer_place-slot_of c (First k) = refl
outer_place-slot_of c (Next k e n o m) = refl
outer_place-slot_of c (AfterPlus p) = outer_place-slot_of c p
outer_place-slot_of c (AfterMinus p) = outer_place-slot_of c p
outer_place-slot_of c (AfterBar p n) = outer_place-slot_of c p

-- the expression that an operand at a place ends
abbrev pub ended : Place → Operand → Expression
ended (First k) o = Single o
ended (Next k e n p m) o = Joined e n p m o
ended (AfterPlus q) o = ended q (Plus o)
ended (AfterMinus q) o = ended q (Minus o)
ended (AfterBar q n) o = ended q (Past n o)

pub ended_text : (p : Place) (o : Operand) → place_text p ++ operand_text (is_inside (slot_of p)) o ≡ slot_text (slot_of p) ++ expression_text (is_inside (slot_of p)) (ended p o)
ended_text (First k) o = refl
ended_text (Next k e n q m) o = simp append_assoc
ended_text (AfterPlus p) o = append_assoc (place_text p) (code "+" ∷ []) (operand_text (is_inside (slot_of p)) o) ∙ ended_text p (Plus o)
ended_text (AfterMinus p) o = append_assoc (place_text p) (code "-" ∷ []) (operand_text (is_inside (slot_of p)) o) ∙ ended_text p (Minus o)
ended_text (AfterBar p n) o = append_assoc (place_text p) (code "|" ∷ blanks (is_inside (slot_of p)) n) (operand_text (is_inside (slot_of p)) o) ∙ ended_text p (Past n o)

pub ended_value : (c : Ctx) (p : Place) (o : Operand) → finished (waiting c p) (operand_value c o) ≡ expression_value c (ended p o)
ended_value c (First k) o = finished-nothing (operand_value c o) (operand_in_range c o)
ended_value c (Next k e n q m) o = finished-left (expression_value c e) q (operand_value c o) (operand_in_range c o)
ended_value c (AfterPlus p) o = ended_value c p (Plus o)
ended_value c (AfterMinus p) o = ap (joined_left (waiting c p).left) (prefixed-minus (waiting c p).prefix (operand_value c o)) ∙ ended_value c p (Minus o)
ended_value c (AfterBar p n) o = ap (joined_left (waiting c p).left) (prefixed-bar c.here (waiting c p).prefix (operand_value c o) (operand_in_range c o)) ∙ ended_value c p (Past n o)

-- the outermost expression, with this one in a slot or this operand at a place, its parentheses closed; and what
-- closes them
abbrev mutual
  pub closed_slot : Slot → Expression → Expression
  closed_slot Outermost e = e
  closed_slot (Inside p n) e = closed_place p (Parentheses n e 0)

  pub closed_place : Place → Operand → Expression
  closed_place (First k) o = closed_slot k (Single o)
  closed_place (Next k e n p m) o = closed_slot k (Joined e n p m o)
  closed_place (AfterPlus q) o = closed_place q (Plus o)
  closed_place (AfterMinus q) o = closed_place q (Minus o)
  closed_place (AfterBar q n) o = closed_place q (Past n o)

abbrev mutual
  pub slot_end : Slot → List ℕ
  slot_end Outermost = []
  slot_end (Inside p n) = code ")" ∷ place_end p

  pub place_end : Place → List ℕ
  place_end (First k) = slot_end k
  place_end (Next k e n p m) = slot_end k
  place_end (AfterPlus q) = place_end q
  place_end (AfterMinus q) = place_end q
  place_end (AfterBar q n) = place_end q

mutual
  pub closed_slot_text : (k : Slot) (e : Expression) → slot_text k ++ (expression_text (is_inside k) e ++ slot_end k) ≡ expression_text false (closed_slot k e)
  closed_slot_text Outermost e = append-nil (expression_text false e)
  closed_slot_text (Inside p n) e =
      let here : slot_text (Inside p n) ++ (expression_text true e ++ slot_end (Inside p n)) ≡ place_text p ++ (operand_text (is_inside (slot_of p)) (Parentheses n e 0) ++ place_end p) = simp append_assoc in
      here ∙ closed_place_text p (Parentheses n e 0)

  pub closed_place_text : (p : Place) (o : Operand) → place_text p ++ (operand_text (is_inside (slot_of p)) o ++ place_end p) ≡ expression_text false (closed_place p o)
  closed_place_text (First k) o = closed_slot_text k (Single o)
  closed_place_text (Next k e n q m) o =
      let here : place_text (Next k e n q m) ++ (operand_text (is_inside k) o ++ slot_end k) ≡ slot_text k ++ (expression_text (is_inside k) (Joined e n q m o) ++ slot_end k) = simp append_assoc in
      here ∙ closed_slot_text k (Joined e n q m o)
  closed_place_text (AfterPlus p) o = append_assoc (place_text p) (code "+" ∷ []) (operand_text (is_inside (slot_of p)) o ++ place_end p) ∙ closed_place_text p (Plus o)
  closed_place_text (AfterMinus p) o = append_assoc (place_text p) (code "-" ∷ []) (operand_text (is_inside (slot_of p)) o ++ place_end p) ∙ closed_place_text p (Minus o)
  closed_place_text (AfterBar p n) o =
      let i : Bool = is_inside (slot_of p) in
      let here : place_text (AfterBar p n) ++ (operand_text i o ++ place_end p) ≡ place_text p ++ (operand_text i (Past n o) ++ place_end p) = simp append_assoc in
      here ∙ closed_place_text p (Past n o)
