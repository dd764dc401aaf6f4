-- What the scan keeps is that of an expression's text.
use Prim.Native.Char.{code}
use Rattle.std.proofs.Common.{◌≡◌, ℕ, zero, suc, ◌+◌, ◌-◌, ◌<◌, Bool, true, false, cond, ◌&&◌, ◌==◌, Some, None, List, [], ◌∷◌, ◌++◌, nat_le, inl, inr, arith, refl, ap, sym, subst, append_assoc, append-nil, ◌∙◌}
use Rattle.std.specs.Option.{option_and_then}
use Rattle.nr_units.specs.Grammar.{Expression, blanks, operator_text, letter, expression_text}
use Rattle.nr_units.specs.Expression.{expression_value}
use Rattle.nr_units.specs.Prefix.{no_prefix}
use Rattle.nr_units.specs.Scan.{found, symbols, symbol_of, blank_in, with_blank, on_level, Scan, after_symbol, after_byte, run}
use Rattle.nr_units.specs.declared.operators.Operator.{Operator}
use Rattle.nr_units.specs.declared.operators.Operator.TheVariants.{Add, Subtract, Multiply, Divide, Remainder, Less, LessOrEqual, Greater, GreaterOrEqual, Equal, DoubleEqual, And, Or}
use Rattle.nr_units.specs.declared.symbols.Symbol.{Symbol}
use Rattle.nr_units.specs.declared.symbols.Symbol.TheVariants.{Digit, Point, Letter, Mark, Bar, Open, Close, Blank}
use Rattle.nr_units.specs.declared.level.Waiting.{Waiting}
use Rattle.nr_units.specs.declared.level.Preceding.{Preceding}
use Rattle.nr_units.specs.declared.level.Preceding.TheVariants.{Nothing, AnOperator, ASign}
use Rattle.nr_units.specs.declared.level.Mode.TheVariants.{Before}
use Rattle.nr_units.specs.declared.level.Level.{Level}
use Rattle.nr_units.specs.declared.expression.Ctx.{Ctx}
use Rattle.std.proofs.lemmas.Bool.Decides.{leb_tells}
use Rattle.std.proofs.lemmas.Bool.{eqb-true}
use Rattle.nr_units.proofs.Runs.{preceding, MayHaveBlanks, preceding_may}
use Rattle.nr_units.proofs.Places.{Slot, Outermost, Inside, Place, First, Next, AfterPlus, AfterMinus, AfterBar, slot_of, is_inside, slot_text, place_text, waiting, outer_slot, outer_place, outer_place-slot_of}
use Rattle.nr_units.proofs.Steps.{State, AtPlace, AtPoint, InWhole, InFraction, After, state_text, shown, preceding_place, Goes, blanks-zero, blanks-more, goes_to, stuck, blank_opened, inside_is, blank_ends, mark_ends, ends_whole, ends_fraction, ends_after, by_digit, by_point, by_letter, by_bar, by_open, by_close}

-- ---- a blank

blank_none : (c : Ctx) (l : Level) (ws : List Waiting) → blank_in c l.waiting l.mode ≡ None → with_blank c l ws ≡ None
blank_none c l [] h = refl
blank_none c l (w ∷ ws) h = ap (on_level (w ∷ ws)) h

blank_before : (c : Ctx) (b : Preceding) (w : Waiting) → MayHaveBlanks b → blank_in c w (Before b) ≡ Some (record { mode = Before Nothing; waiting = w })
blank_before c Nothing w may = refl
blank_before c AnOperator w may = refl
blank_before c ASign w may = absurd may

place_inside : (c : Ctx) (p : Place) (w : Waiting) (ws : List Waiting) → outer_place c p ≡ w ∷ ws → is_inside (slot_of p) ≡ true
place_inside c p w ws h = inside_is c (slot_of p) w ws (sym (outer_place-slot_of c p) ∙ h)

blank_first : (c : Ctx) (k : Slot) (s : Scan) → after_symbol c (shown c (AtPlace (First k))) Blank ≡ Some s → Goes c (AtPlace (First k)) (code " " ∷ []) s
blank_first c Outermost s h = cc
blank_first c (Inside p n) s h =
    goes_to c (AtPlace (First (Inside p n))) (code " " ∷ []) _ s (AtPlace (First (Inside p (suc n))))
    (ap (λ v. place_text p ++ (code "(" ∷ v)) (blanks-more true n refl) ∙ simp append_assoc) refl h

blank_next : (c : Ctx) (k : Slot) (e : Expression) (n : ℕ) (o : Operator) (m : ℕ) (s : Scan) → MayHaveBlanks (preceding_place (Next k e n o m)) → after_symbol c (shown c (AtPlace (Next k e n o m))) Blank ≡ Some s → Goes c (AtPlace (Next k e n o m)) (code " " ∷ []) s
blank_next c k e n o m s may h =
    let p : Place = Next k e n o m in
    let l : Level = (shown c (AtPlace p)).level in
    let ws : List Waiting = outer_slot c k in
    let opened = blank_opened c l ws s h in
    let i : Bool = is_inside k in
    let inside : i ≡ true = inside_is c k opened.0.0 opened.0.1 opened.0.2 in
    let regrouped : state_text (AtPlace p) ++ code " " ∷ [] ≡ slot_text k ++ (expression_text i e ++ (blanks i n ++ (operator_text o ++ (blanks i m ++ code " " ∷ [])))) = simp append_assoc in
    goes_to c (AtPlace p) (code " " ∷ []) (with_blank c l ws) s (AtPlace (Next k e n o (suc m)))
    (ap (λ v. slot_text k ++ (expression_text i e ++ (blanks i n ++ (operator_text o ++ v)))) (blanks-more i m inside) ∙ sym regrouped)
    (opened.1 ∙ ap (on_level ws) (blank_before c (preceding_place p) (waiting c p) may)) h

blank_bar : (c : Ctx) (p : Place) (n : ℕ) (s : Scan) → after_symbol c (shown c (AtPlace (AfterBar p n))) Blank ≡ Some s → Goes c (AtPlace (AfterBar p n)) (code " " ∷ []) s
blank_bar c p n s h =
    let l : Level = (shown c (AtPlace (AfterBar p n))).level in
    let opened = blank_opened c l (outer_place c p) s h in
    let i : Bool = is_inside (slot_of p) in
    let inside : i ≡ true = place_inside c p opened.0.0 opened.0.1 opened.0.2 in
    let regrouped : (place_text p ++ (code "|" ∷ blanks i n)) ++ code " " ∷ [] ≡ place_text p ++ (code "|" ∷ (blanks i n ++ code " " ∷ [])) = simp append_assoc in
    goes_to c (AtPlace (AfterBar p n)) (code " " ∷ []) (with_blank c l (outer_place c p)) s (AtPlace (AfterBar p (suc n)))
    (ap (λ v. place_text p ++ (code "|" ∷ v)) (blanks-more i n inside) ∙ sym regrouped)
    opened.1 h

blank_at : (c : Ctx) (p : Place) (s : Scan) → after_symbol c (shown c (AtPlace p)) Blank ≡ Some s → Goes c (AtPlace p) (code " " ∷ []) s
blank_at c (First k) s h = blank_first c k s h
blank_at c (Next k e n o zero) s h = blank_next c k e n o zero s (preceding_may o) h
blank_at c (Next k e n o (suc m)) s h = blank_next c k e n o (suc m) s tt h
blank_at c (AfterPlus p) s h =
    let l : Level = (shown c (AtPlace (AfterPlus p))).level in stuck (with_blank c l (outer_place c p)) s (blank_none c l (outer_place c p) refl) h
blank_at c (AfterMinus p) s h =
    let l : Level = (shown c (AtPlace (AfterMinus p))).level in stuck (with_blank c l (outer_place c p)) s (blank_none c l (outer_place c p) refl) h
blank_at c (AfterBar p n) s h = blank_bar c p n s h

by_blank : (c : Ctx) (z : State) (s : Scan) → after_symbol c (shown c z) Blank ≡ Some s → Goes c z (code " " ∷ []) s
by_blank c (AtPlace p) s h = blank_at c p s h
by_blank c (AtPoint p) s h = let l : Level = (shown c (AtPoint p)).level in stuck (with_blank c l (outer_place c p)) s (blank_none c l (outer_place c p) refl) h
by_blank c (InWhole p ds a some) s h = blank_ends c (InWhole p ds a some) (ends_whole c p ds a some) s h
by_blank c (InFraction p ds fs a b some) s h = blank_ends c (InFraction p ds fs a b some) (ends_fraction c p ds fs a b some) s h
by_blank c (After k e n) s h = blank_ends c (After k e n) (ends_after c k e n) s h

-- ---- an operator's byte

-- `=` after an operator
wider : (c : Ctx) (k : Slot) (e : Expression) (n : ℕ) (o wide : Operator) (s : Scan) → operator_text wide ≡ operator_text o ++ code "=" ∷ [] → preceding wide ≡ Nothing → after_symbol c (shown c (AtPlace (Next k e n o 0))) (Mark Equal) ≡ Some (record { level = record { mode = Before Nothing; waiting = record { left = Some (record { value = expression_value c e; operator = wide }); prefix = no_prefix } }; outer = outer_slot c k }) → after_symbol c (shown c (AtPlace (Next k e n o 0))) (Mark Equal) ≡ Some s → Goes c (AtPlace (Next k e n o 0)) (code "=" ∷ []) s
wider c k e n o wide s text is step h =
    let i : Bool = is_inside k in
    let w : Waiting = record { left = Some (record { value = expression_value c e; operator = wide }); prefix = no_prefix } in
    let old : operator_text o ++ blanks i 0 ≡ operator_text o = ap (λ v. operator_text o ++ v) (blanks-zero i) ∙ append-nil (operator_text o) in
    let new : operator_text wide ++ blanks i 0 ≡ operator_text o ++ code "=" ∷ [] = ap (λ v. operator_text wide ++ v) (blanks-zero i) ∙ append-nil (operator_text wide) ∙ text in
    let regrouped : slot_text k ++ (expression_text i e ++ (blanks i n ++ (operator_text o ++ code "=" ∷ []))) ≡ (slot_text k ++ (expression_text i e ++ (blanks i n ++ operator_text o))) ++ code "=" ∷ [] = simp append_assoc in
    goes_to c (AtPlace (Next k e n o 0)) (code "=" ∷ []) _ s (AtPlace (Next k e n wide 0))
    (ap (λ v. slot_text k ++ (expression_text i e ++ (blanks i n ++ v))) new ∙ regrouped ∙ ap (λ v. (slot_text k ++ (expression_text i e ++ (blanks i n ++ v))) ++ code "=" ∷ []) (sym old))
    (step ∙ ap (λ b. Some (record { level = record { mode = Before b; waiting = w }; outer = outer_slot c k })) (sym is)) h

equal_next : (c : Ctx) (k : Slot) (e : Expression) (n : ℕ) (o : Operator) (s : Scan) → after_symbol c (shown c (AtPlace (Next k e n o 0))) (Mark Equal) ≡ Some s → Goes c (AtPlace (Next k e n o 0)) (code "=" ∷ []) s
equal_next c k e n Add s h = cc
equal_next c k e n Subtract s h = cc
equal_next c k e n Multiply s h = cc
equal_next c k e n Divide s h = cc
equal_next c k e n Remainder s h = cc
equal_next c k e n Less s h = wider c k e n Less LessOrEqual s refl refl refl h
equal_next c k e n LessOrEqual s h = cc
equal_next c k e n Greater s h = wider c k e n Greater GreaterOrEqual s refl refl refl h
equal_next c k e n GreaterOrEqual s h = cc
equal_next c k e n Equal s h = wider c k e n Equal DoubleEqual s refl refl refl h
equal_next c k e n DoubleEqual s h = cc
equal_next c k e n And s h = cc
equal_next c k e n Or s h = cc

equal_at : (c : Ctx) (p : Place) (s : Scan) → after_symbol c (shown c (AtPlace p)) (Mark Equal) ≡ Some s → Goes c (AtPlace p) (code "=" ∷ []) s
equal_at c (First k) s h = cc
equal_at c (Next k e n o zero) s h = equal_next c k e n o s h
equal_at c (Next k e n o (suc m)) s h = cc
equal_at c (AfterPlus p) s h = cc
equal_at c (AfterMinus p) s h = cc
equal_at c (AfterBar p n) s h = cc

mark_at : (c : Ctx) (p : Place) (o : Operator) (s : Scan) → after_symbol c (shown c (AtPlace p)) (Mark o) ≡ Some s → Goes c (AtPlace p) (operator_text o) s
mark_at c p Add s h = goes_to c (AtPlace p) (code "+" ∷ []) _ s (AtPlace (AfterPlus p)) refl refl h
mark_at c p Subtract s h = goes_to c (AtPlace p) (code "-" ∷ []) _ s (AtPlace (AfterMinus p)) refl refl h
mark_at c p Equal s h = equal_at c p s h
mark_at c p Multiply s h = cc
mark_at c p Divide s h = cc
mark_at c p Remainder s h = cc
mark_at c p Less s h = cc
mark_at c p LessOrEqual s h = cc
mark_at c p Greater s h = cc
mark_at c p GreaterOrEqual s h = cc
mark_at c p DoubleEqual s h = cc
mark_at c p And s h = cc
mark_at c p Or s h = cc

by_mark : (c : Ctx) (z : State) (o : Operator) (s : Scan) → preceding o ≡ AnOperator → after_symbol c (shown c z) (Mark o) ≡ Some s → Goes c z (operator_text o) s
by_mark c (AtPlace p) o s one h = mark_at c p o s h
by_mark c (AtPoint p) o s one h = cc
by_mark c (InWhole p ds a some) o s one h = mark_ends c (InWhole p ds a some) (ends_whole c p ds a some) o s one h
by_mark c (InFraction p ds fs a b some) o s one h = mark_ends c (InFraction p ds fs a b some) (ends_fraction c p ds fs a b some) o s one h
by_mark c (After k e n) o s one h = mark_ends c (After k e n) (ends_after c k e n) o s one h

-- ---- bytes and their symbols

-- the byte b is this symbol's
abbrev pub IsByteOf : ℕ → Symbol → Type 0
IsByteOf b (Digit d) = (d < 10) × (b ≡ code "0" + d)
IsByteOf b Point = b ≡ code "."
IsByteOf b (Letter scale) = b ≡ letter scale
IsByteOf b (Mark o) = (operator_text o ≡ b ∷ []) × (preceding o ≡ AnOperator)
IsByteOf b Bar = b ≡ code "|"
IsByteOf b Open = b ≡ code "("
IsByteOf b Close = b ≡ code ")"
IsByteOf b Blank = b ≡ code " "

abbrev AreBytes : List (ℕ × Symbol) → Type 0
AreBytes [] = Unit {0}
AreBytes (entry ∷ more) = IsByteOf entry.0 entry.1 × AreBytes more

found_tells : (b : ℕ) (table : List (ℕ × Symbol)) (y : Symbol) → AreBytes table → found b table ≡ Some y → IsByteOf b y
found_tells b [] y are h = cc
found_tells b (entry ∷ more) y are h =
    (elim (b == entry.0) as (λ t. (b == entry.0) ≡ t → cond t (Some entry.1) (found b more) ≡ Some y → IsByteOf b y) [
      | true ↦ λ e k.
          let same : entry.0 ≡ b = sym (eqb-true b entry.0 e) in
          let what : entry.1 ≡ y = cc in
          subst (λ x. IsByteOf b x) what (subst (λ x. IsByteOf x entry.1) same are.0)
      | false ↦ λ e k. found_tells b more y are.1 k
    ]) refl h

symbols_are : AreBytes symbols
symbols_are =
    (refl, (refl, (refl, (refl, (refl, (refl, (refl, (refl, (refl, ((refl, refl), ((refl, refl), ((refl, refl), ((refl, refl), ((refl, refl), ((refl, refl), ((refl, refl), ((refl, refl), ((refl, refl), ((refl, refl), (refl, (refl, (refl, (refl, tt)))))))))))))))))))))))

pub symbol_tells : (b : ℕ) (y : Symbol) → symbol_of b ≡ Some y → IsByteOf b y
symbol_tells b y h =
    elim (leb_tells (code "0") b) [
      | inr w ↦
          let test : (nat_le (code "0") b && nat_le b (code "9")) ≡ false = rw w.0 refl in
          found_tells b symbols y symbols_are (ap (λ t. cond t (Some (Digit (b - code "0"))) (found b symbols)) (sym test) ∙ h)
      | inl w ↦ elim (leb_tells b (code "9")) [
        | inr v ↦
            let test : (nat_le (code "0") b && nat_le b (code "9")) ≡ false = rw (w.0, v.0) refl in
            found_tells b symbols y symbols_are (ap (λ t. cond t (Some (Digit (b - code "0"))) (found b symbols)) (sym test) ∙ h)
        | inl v ↦
            let low = w.1 in
            let high = v.1 in
            let test : (nat_le (code "0") b && nat_le b (code "9")) ≡ true = rw (w.0, v.0) refl in
            let is : Some (Digit (b - code "0")) ≡ Some y = ap (λ t. cond t (Some (Digit (b - code "0"))) (found b symbols)) (sym test) ∙ h in
            let what : Digit (b - code "0") ≡ y = cc in
            subst (λ x. IsByteOf b x) what (omega arith, omega arith)
      ]
    ]

-- ---- any byte, and a text

by_symbol : (c : Ctx) (z : State) (b : ℕ) (y : Symbol) (s : Scan) → IsByteOf b y → after_symbol c (shown c z) y ≡ Some s → Goes c z (b ∷ []) s
by_symbol c z b (Digit d) s is h = subst (λ x. Goes c z (x ∷ []) s) (sym is.1) (by_digit c z d s is.0 h)
by_symbol c z b Point s is h = subst (λ x. Goes c z (x ∷ []) s) (sym is) (by_point c z s h)
by_symbol c z b (Letter scale) s is h = subst (λ x. Goes c z (x ∷ []) s) (sym is) (by_letter c z scale s h)
by_symbol c z b (Mark o) s is h = subst (λ x. Goes c z x s) is.0 (by_mark c z o s is.1 h)
by_symbol c z b Bar s is h = subst (λ x. Goes c z (x ∷ []) s) (sym is) (by_bar c z s h)
by_symbol c z b Open s is h = subst (λ x. Goes c z (x ∷ []) s) (sym is) (by_open c z s h)
by_symbol c z b Close s is h = subst (λ x. Goes c z (x ∷ []) s) (sym is) (by_close c z s h)
by_symbol c z b Blank s is h = subst (λ x. Goes c z (x ∷ []) s) (sym is) (by_blank c z s h)

by_byte : (c : Ctx) (z : State) (b : ℕ) (s : Scan) → after_byte c (shown c z) b ≡ Some s → Goes c z (b ∷ []) s
by_byte c z b s h =
    (elim (symbol_of b) as (λ r. symbol_of b ≡ r → option_and_then (after_symbol c (shown c z)) r ≡ Some s → Goes c z (b ∷ []) s)
    [ None ↦ λ e k. cc | Some y ↦ λ e k. by_symbol c z b y s (symbol_tells b y e) k ]) refl h

pub goes : (c : Ctx) (z : State) (u : List ℕ) (s : Scan) → run c (shown c z) u ≡ Some s → Goes c z u s
goes c z [] s h = record { to = z; text = sym (append-nil (state_text z)); shows = cc }
goes c z (b ∷ bs) s h =
    (elim (after_byte c (shown c z) b) as (λ r. after_byte c (shown c z) b ≡ r → option_and_then (λ t. run c t bs) r ≡ Some s → Goes c z (b ∷ bs) s) [
      | None ↦ λ e k. cc
      | Some t ↦ λ e k.
          let one = by_byte c z b t e in
          let more = goes c one.to bs s (ap (λ x. run c x bs) one.shows ∙ k) in
          record { to = more.to; text = more.text ∙ ap (λ v. v ++ bs) one.text ∙ append_assoc (state_text z) (b ∷ []) bs; shows = more.shows }
    ]) refl h
