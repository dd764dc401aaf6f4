-- Each step of the scan goes on with an expression's text.
use Prim.Native.Char.{code}
use Rattle.std.proofs.Common.{◌≡◌, ℕ, zero, suc, ◌+◌, ◌*◌, ◌/◌, ◌<◌, ◌≤◌, Bool, true, false, Option, Some, None, List, [], ◌∷◌, ◌++◌, length, ℤ, unwrap_or, arith, refl, ap, sym, append_assoc, append-nil, length-append, ◌∙◌}
use Rattle.std.specs.Option.{option_map}
use Rattle.nr_units.specs.Grammar.{AreDigits, Operand, Expression, Numeral, Parentheses, blanks, operator_text, letter, digits_text, fraction_digits, operand_text, expression_text}
use Rattle.nr_units.specs.Expression.{expression_value, whole_after, fraction_by}
use Rattle.nr_units.specs.Prefix.{no_prefix}
use Rattle.nr_units.specs.Scan.{finished, number_value, level_value, completed, capped, after_operator, blank_in, with_mark, with_close, with_blank, on_level, Scan, after_symbol}
use Rattle.nr_units.specs.declared.units.Scale.{Scale}
use Rattle.nr_units.specs.declared.operators.Operator.{Operator}
use Rattle.nr_units.specs.declared.symbols.Symbol.TheVariants.{Digit, Point, Letter, Mark, Bar, Open, Close, Blank}
use Rattle.nr_units.specs.declared.level.Waiting.{Waiting}
use Rattle.nr_units.specs.declared.level.Preceding.{Preceding}
use Rattle.nr_units.specs.declared.level.Preceding.TheVariants.{Nothing, AnOperator, ASign}
use Rattle.nr_units.specs.declared.level.Mode.{Mode}
use Rattle.nr_units.specs.declared.level.Mode.TheVariants.{Before, LonePoint, Whole, Fraction}
use Rattle.nr_units.specs.declared.level.Level.{Level}
use Rattle.nr_units.specs.declared.expression.Ctx.{Ctx}
use Rattle.std.proofs.Math.Nat.{mul-le-mul_left}
use Rattle.nr_units.proofs.Rounding.{scaled-capped}
use Rattle.nr_units.proofs.Runs.{preceding, blank_in-value, mark_in-value}
use Rattle.nr_units.proofs.Places.{Slot, Outermost, Inside, Place, First, Next, AfterPlus, AfterMinus, AfterBar, slot_of, is_inside, slot_text, place_text, waiting, outer_slot, outer_place, outer_place-slot_of, ended, ended_text, ended_value}

-- ---- how far an expression is read

pub data State : Type 0 where
  AtPlace : Place → State
  AtPoint : Place → State
  InWhole : Place → (ds : List ℕ) → AreDigits ds → 0 < length ds → State
  InFraction : Place → (ds fs : List ℕ) → AreDigits ds → AreDigits fs → 0 < length ds + length fs → State
  After : Slot → Expression → ℕ → State

abbrev pub state_text : State → List ℕ
state_text (AtPlace p) = place_text p
state_text (AtPoint p) = place_text p ++ code "." ∷ []
state_text (InWhole p ds are some) = place_text p ++ digits_text ds
state_text (InFraction p ds fs are_ds are_fs some) = place_text p ++ (digits_text ds ++ (code "." ∷ digits_text fs))
state_text (After k e n) = slot_text k ++ (expression_text (is_inside k) e ++ blanks (is_inside k) n)

abbrev pub preceding_place : Place → Preceding
preceding_place (First k) = Nothing
preceding_place (Next k e n o zero) = preceding o
preceding_place (Next k e n o (suc m)) = Nothing
preceding_place (AfterPlus p) = ASign
preceding_place (AfterMinus p) = ASign
preceding_place (AfterBar p n) = Nothing

abbrev pub place_after : ℕ → List ℕ → ℕ
place_after p [] = p
place_after p (d ∷ ds) = place_after (p / 10) ds

abbrev pub shown_at : Ctx → Place → Mode → Scan
shown_at c p m = record { level = record { mode = m; waiting = waiting c p }; outer = outer_place c p }

-- what is kept of it
abbrev pub shown : Ctx → State → Scan
shown c (AtPlace p) = shown_at c p (Before (preceding_place p))
shown c (AtPoint p) = shown_at c p LonePoint
shown c (InWhole p ds are some) = shown_at c p (Whole (capped (whole_after 0 ds)))
shown c (InFraction p ds fs are_ds are_fs some) = shown_at c p (Fraction (capped (whole_after 0 ds)) (fraction_by 1000 fs) (place_after 1000 fs))
shown c (After k e n) = record { level = completed (expression_value c e); outer = outer_slot c k }

-- From z the text goes on to a state of which s is kept.
pub record Goes (c : Ctx) (z : State) (u : List ℕ) (s : Scan) : Type 0 where
  pub to : State
  pub text : state_text to ≡ state_text z ++ u
  pub shows : shown c to ≡ s

-- ---- states where an operand may end

pub record EndsAt (c : Ctx) (z : State) : Type 0 where
  pub slot : Slot
  pub expression : Expression
  pub count : ℕ
  pub text : state_text z ≡ state_text (After slot expression count)
  pub value : level_value c (shown c z).level ≡ Some (expression_value c expression)
  pub outer : (shown c z).outer ≡ outer_slot c slot

-- a number at a place, ended with a scale or without
abbrev pub numeral : (whole : List ℕ) (fraction : Option (List ℕ)) → Option Scale → AreDigits whole → AreDigits (fraction_digits fraction) → 0 < length whole + length (fraction_digits fraction) → Operand
numeral whole fraction scale are_whole are_fraction some =
    Numeral (record { whole = whole; fraction = fraction; scale = scale }) (record { whole = are_whole; fraction = are_fraction; not_empty = some })

pub blanks-zero : (inside : Bool) → blanks inside 0 ≡ []
blanks-zero false = refl
blanks-zero true = refl

pub blanks-more : (inside : Bool) (n : ℕ) → inside ≡ true → blanks inside (suc n) ≡ blanks inside n ++ code " " ∷ []
blanks-more true zero h = refl
blanks-more true (suc n) h = ap (λ bs. code " " ∷ bs) (blanks-more true n refl)
blanks-more false n h = cc

-- the text up to the end of an operand
text_ended : (p : Place) (o : Operand) (u : List ℕ) → u ≡ operand_text (is_inside (slot_of p)) o → place_text p ++ u ≡ state_text (After (slot_of p) (ended p o) 0)
text_ended p o u h =
    ap (λ v. place_text p ++ v) h ∙ ended_text p o
    ∙ ap (λ v. slot_text (slot_of p) ++ v) (sym (append-nil (expression_text (is_inside (slot_of p)) (ended p o))) ∙ ap (λ v. expression_text (is_inside (slot_of p)) (ended p o) ++ v) (sym (blanks-zero (is_inside (slot_of p)))))

-- a number of a place, and the value it gives there
number_ended : (c : Ctx) (p : Place) (scale : Option Scale) (ds : List ℕ) (fraction : Option (List ℕ)) (a : AreDigits ds) (b : AreDigits (fraction_digits fraction)) (some : 0 < length ds + length (fraction_digits fraction)) → number_value c (unwrap_or scale c.default) (waiting c p) (10000 * capped (whole_after 0 ds) + fraction_by 1000 (fraction_digits fraction)) ≡ expression_value c (ended p (numeral ds fraction scale a b some))
number_ended c p scale ds fraction a b some =
    ap (finished (waiting c p)) (scaled-capped c.v (unwrap_or scale c.default) (whole_after 0 ds) (fraction_by 1000 (fraction_digits fraction)))
    ∙ ended_value c p (numeral ds fraction scale a b some)

whole_ended : (c : Ctx) (p : Place) (scale : Option Scale) (ds : List ℕ) (a : AreDigits ds) (some : 0 < length ds + length (fraction_digits None)) → number_value c (unwrap_or scale c.default) (waiting c p) (10000 * capped (whole_after 0 ds)) ≡ expression_value c (ended p (numeral ds None scale a tt some))
whole_ended c p scale ds a some =
    ap (number_value c (unwrap_or scale c.default) (waiting c p)) (omega arith) ∙ number_ended c p scale ds None a tt some

pub ends_whole : (c : Ctx) (p : Place) (ds : List ℕ) (a : AreDigits ds) (some : 0 < length ds) → EndsAt c (InWhole p ds a some)
ends_whole c p ds a some =
    let more : 0 < length ds + 0 = omega arith in
    record {
      slot = slot_of p;
      expression = ended p (numeral ds None None a tt more);
      count = 0;
      text = text_ended p (numeral ds None None a tt more) (digits_text ds) (sym (append-nil (digits_text ds)));
      value = ap Some (whole_ended c p None ds a more);
      outer = outer_place-slot_of c p;
    }

pub ends_fraction : (c : Ctx) (p : Place) (ds fs : List ℕ) (a : AreDigits ds) (b : AreDigits fs) (some : 0 < length ds + length fs) → EndsAt c (InFraction p ds fs a b some)
ends_fraction c p ds fs a b some = record {
  slot = slot_of p;
  expression = ended p (numeral ds (Some fs) None a b some);
  count = 0;
  text = text_ended p (numeral ds (Some fs) None a b some) (digits_text ds ++ (code "." ∷ digits_text fs)) (ap (λ v. digits_text ds ++ v) (sym (append-nil (code "." ∷ digits_text fs))));
  value = ap Some (number_ended c p None ds (Some fs) a b some);
  outer = outer_place-slot_of c p;
}

pub ends_after : (c : Ctx) (k : Slot) (e : Expression) (n : ℕ) → EndsAt c (After k e n)
ends_after c k e n = record { slot = k; expression = e; count = n; text = refl; value = refl; outer = refl }

-- ---- steps

pub goes_to : (c : Ctx) (z : State) (u : List ℕ) (r : Option Scan) (s : Scan) (to : State) → state_text to ≡ state_text z ++ u → r ≡ Some (shown c to) → r ≡ Some s → Goes c z u s
goes_to c z u r s to text step h =
    let same : Some (shown c to) ≡ Some s = sym step ∙ h in
    record { to = to; text = text; shows = cc }

pub stuck : {P : Type 0} (r : Option Scan) (s : Scan) → r ≡ None → r ≡ Some s → P
stuck r s e h = let no : ◌≡◌ {A = Option Scan} None (Some s) = sym e ∙ h in cc

-- blanks, operators and closing parentheses where an operand may end
pub blank_opened : (c : Ctx) (l : Level) (ws : List Waiting) (s : Scan) → with_blank c l ws ≡ Some s → ((w : Waiting) × (vs : List Waiting) × (ws ≡ w ∷ vs)) × (with_blank c l ws ≡ on_level ws (blank_in c l.waiting l.mode))
blank_opened c l [] s h = cc
blank_opened c l (w ∷ ws) s h = ((w, ws, refl), refl)

pub inside_is : (c : Ctx) (k : Slot) (w : Waiting) (ws : List Waiting) → outer_slot c k ≡ w ∷ ws → is_inside k ≡ true
inside_is c Outermost w ws h = cc
inside_is c (Inside p n) w ws h = refl

pub blank_ends : (c : Ctx) (z : State) (e : EndsAt c z) (s : Scan) → after_symbol c (shown c z) Blank ≡ Some s → Goes c z (code " " ∷ []) s
blank_ends c z e s h =
    let l : Level = (shown c z).level in
    let ws : List Waiting = (shown c z).outer in
    let opened = blank_opened c l ws s h in
    let inside : is_inside e.slot ≡ true = inside_is c e.slot opened.0.0 opened.0.1 (sym e.outer ∙ opened.0.2) in
    let i : Bool = is_inside e.slot in
    let to : State = After e.slot e.expression (suc e.count) in
    let regrouped : slot_text e.slot ++ (expression_text i e.expression ++ (blanks i e.count ++ code " " ∷ [])) ≡ (slot_text e.slot ++ (expression_text i e.expression ++ blanks i e.count)) ++ code " " ∷ [] = simp append_assoc in
    let text : state_text to ≡ state_text z ++ code " " ∷ [] =
    ap (λ v. slot_text e.slot ++ (expression_text i e.expression ++ v)) (blanks-more i e.count inside)
    ∙ regrouped
    ∙ ap (λ v. v ++ code " " ∷ []) (sym e.text) in
    goes_to c z (code " " ∷ []) (with_blank c l ws) s to text
    (opened.1 ∙ ap (on_level ws) (blank_in-value c l.waiting l.mode (expression_value c e.expression) e.value) ∙ ap (λ v. on_level v (Some (completed (expression_value c e.expression)))) e.outer) h

pub mark_ends : (c : Ctx) (z : State) (e : EndsAt c z) (o : Operator) (s : Scan) → preceding o ≡ AnOperator → after_symbol c (shown c z) (Mark o) ≡ Some s → Goes c z (operator_text o) s
mark_ends c z e o s one h =
    let l : Level = (shown c z).level in
    let i : Bool = is_inside e.slot in
    let v : Option ℤ = expression_value c e.expression in
    let to : State = AtPlace (Next e.slot e.expression e.count o 0) in
    let regrouped : slot_text e.slot ++ (expression_text i e.expression ++ (blanks i e.count ++ operator_text o)) ≡ (slot_text e.slot ++ (expression_text i e.expression ++ blanks i e.count)) ++ operator_text o = simp append_assoc in
    let text : state_text to ≡ state_text z ++ operator_text o =
    ap (λ v. slot_text e.slot ++ (expression_text i e.expression ++ (blanks i e.count ++ v))) (ap (λ v. operator_text o ++ v) (blanks-zero i) ∙ append-nil (operator_text o))
    ∙ regrouped
    ∙ ap (λ v. v ++ operator_text o) (sym e.text) in
    goes_to c z (operator_text o) (on_level (shown c z).outer (with_mark c o l)) s to text
    (ap (on_level (shown c z).outer) (mark_in-value c o l.waiting l.mode v e.value)
    ∙ ap (λ ws. on_level ws (Some (after_operator o v))) e.outer
    ∙ ap (λ b. Some (record { level = record { mode = Before b; waiting = record { left = Some (record { value = v; operator = o }); prefix = no_prefix } }; outer = outer_slot c e.slot })) (sym one)) h

close_ends_at : (c : Ctx) (z : State) (k : Slot) (x : Expression) (n : ℕ) (s : Scan) → state_text z ≡ state_text (After k x n) → level_value c (shown c z).level ≡ Some (expression_value c x) → (shown c z).outer ≡ outer_slot c k → after_symbol c (shown c z) Close ≡ Some s → Goes c z (code ")" ∷ []) s
close_ends_at c z Outermost x n s text value outer h =
    stuck (with_close c (shown c z).level (shown c z).outer) s (ap (with_close c (shown c z).level) outer) h
close_ends_at c z (Inside p m) x n s text value outer h =
    let o : Operand = Parentheses m x n in
    let v : Option ℤ = expression_value c x in
    let to : State = After (slot_of p) (ended p o) 0 in
    let here : state_text (After (Inside p m) x n) ++ code ")" ∷ [] ≡ place_text p ++ operand_text (is_inside (slot_of p)) o = simp append_assoc in
    goes_to c z (code ")" ∷ []) (with_close c (shown c z).level (shown c z).outer) s to
    (sym (ap (λ v. v ++ code ")" ∷ []) text ∙ here ∙ text_ended p o (operand_text (is_inside (slot_of p)) o) refl))
    (ap (with_close c (shown c z).level) outer
    ∙ ap (option_map (λ v. record { level = completed (finished (waiting c p) v); outer = outer_place c p })) value
    ∙ ap (λ v. Some (record { level = completed v; outer = outer_place c p })) (ended_value c p o)
    ∙ ap (λ ws. Some (record { level = completed (expression_value c (ended p o)); outer = ws })) (outer_place-slot_of c p)) h

close_ends : (c : Ctx) (z : State) (e : EndsAt c z) (s : Scan) → after_symbol c (shown c z) Close ≡ Some s → Goes c z (code ")" ∷ []) s
close_ends c z e s h = close_ends_at c z e.slot e.expression e.count s e.text e.value e.outer h

-- digits
digits_text-push : (ds : List ℕ) (d : ℕ) → digits_text (ds ++ d ∷ []) ≡ digits_text ds ++ (code "0" + d) ∷ []
digits_text-push [] d = refl
digits_text-push (x ∷ ds) d = ap (λ v. (code "0" + x) ∷ v) (digits_text-push ds d)

AreDigits-push : (ds : List ℕ) (d : ℕ) → AreDigits ds → d < 10 → AreDigits (ds ++ d ∷ [])
AreDigits-push [] d are h = (h, tt)
AreDigits-push (x ∷ ds) d are h = (are.0, AreDigits-push ds d are.1 h)

whole_after-push : (n : ℕ) (ds : List ℕ) (d : ℕ) → whole_after n (ds ++ d ∷ []) ≡ 10 * whole_after n ds + d
whole_after-push n [] d = refl
whole_after-push n (x ∷ ds) d = whole_after-push (10 * n + x) ds d

place_after-push : (p : ℕ) (ds : List ℕ) (d : ℕ) → place_after p (ds ++ d ∷ []) ≡ place_after p ds / 10
place_after-push p [] d = refl
place_after-push p (x ∷ ds) d = place_after-push (p / 10) ds d

fraction_by-push : (p : ℕ) (ds : List ℕ) (d : ℕ) → fraction_by p (ds ++ d ∷ []) ≡ fraction_by p ds + place_after p ds * d
fraction_by-push p [] d = omega arith
fraction_by-push p (x ∷ ds) d = omega (arith, fraction_by-push (p / 10) ds d)

fraction_small : (f p : ℕ) (ds : List ℕ) → AreDigits ds → f + 10 * p ≤ 10000 → (f + fraction_by p ds) + 10 * place_after p ds ≤ 10000
fraction_small f p [] are h = omega arith
fraction_small f p (d ∷ ds) are h =
    let most : p * d ≤ p * 9 = mul-le-mul_left p (let small = are.0 in omega arith) in
    let more = fraction_small (f + p * d) (p / 10) ds are.1 (omega (arith, most)) in
    omega (arith, more)

capped-more : (n d : ℕ) → capped (10 * n + d) ≡ capped (capped (capped n * 10) + d)
capped-more n d = omega arith

digit_at : (c : Ctx) (p : Place) (d : ℕ) (s : Scan) → d < 10 → after_symbol c (shown c (AtPlace p)) (Digit d) ≡ Some s → Goes c (AtPlace p) ((code "0" + d) ∷ []) s
digit_at c p d s small h =
    goes_to c (AtPlace p) ((code "0" + d) ∷ []) _ s (InWhole p (d ∷ []) (small, tt) (omega arith)) refl
    (let e : d ≡ capped (10 * 0 + d) = omega arith in ap (λ x. Some (shown_at c p (Whole x))) e) h

digit_point : (c : Ctx) (p : Place) (d : ℕ) (s : Scan) → d < 10 → after_symbol c (shown c (AtPoint p)) (Digit d) ≡ Some s → Goes c (AtPoint p) ((code "0" + d) ∷ []) s
digit_point c p d s small h =
    goes_to c (AtPoint p) ((code "0" + d) ∷ []) _ s (InFraction p [] (d ∷ []) tt (small, tt) (omega arith)) (simp append_assoc)
    (let e : capped (0 + capped (1000 * d)) ≡ 1000 * d + 0 = omega arith in ap (λ x. Some (shown_at c p (Fraction 0 x 100))) e) h

digit_whole : (c : Ctx) (p : Place) (ds : List ℕ) (a : AreDigits ds) (some : 0 < length ds) (d : ℕ) (s : Scan) → d < 10 → after_symbol c (shown c (InWhole p ds a some)) (Digit d) ≡ Some s → Goes c (InWhole p ds a some) ((code "0" + d) ∷ []) s
digit_whole c p ds a some d s small h =
    goes_to c (InWhole p ds a some) ((code "0" + d) ∷ []) _ s (InWhole p (ds ++ d ∷ []) (AreDigits-push ds d a small) (omega (arith, length-append ds (d ∷ []))))
    (ap (λ v. place_text p ++ v) (digits_text-push ds d) ∙ simp append_assoc)
    (let e : capped (capped (capped (whole_after 0 ds) * 10) + d) ≡ capped (whole_after 0 (ds ++ d ∷ [])) = sym (ap capped (whole_after-push 0 ds d) ∙ capped-more (whole_after 0 ds) d) in
    ap (λ x. Some (shown_at c p (Whole x))) e) h

digit_fraction : (c : Ctx) (p : Place) (ds fs : List ℕ) (a : AreDigits ds) (b : AreDigits fs) (some : 0 < length ds + length fs) (d : ℕ) (s : Scan) → d < 10 → after_symbol c (shown c (InFraction p ds fs a b some)) (Digit d) ≡ Some s → Goes c (InFraction p ds fs a b some) ((code "0" + d) ∷ []) s
digit_fraction c p ds fs a b some d s small h =
    let room = fraction_small 0 1000 fs b (omega arith) in
    let f : ℕ = fraction_by 1000 fs in
    let q : ℕ = place_after 1000 fs in
    let most : q * d ≤ q * 9 = mul-le-mul_left q (omega arith) in
    let is_f : capped (f + capped (q * d)) ≡ fraction_by 1000 (fs ++ d ∷ []) = omega (arith, fraction_by-push 1000 fs d, most, room) in
    goes_to c (InFraction p ds fs a b some) ((code "0" + d) ∷ []) _ s (InFraction p ds (fs ++ d ∷ []) a (AreDigits-push fs d b small) (omega (arith, length-append fs (d ∷ []))))
    (ap (λ v. place_text p ++ (digits_text ds ++ (code "." ∷ v))) (digits_text-push fs d) ∙ simp append_assoc)
    (ap (λ x. Some (shown_at c p (Fraction (capped (whole_after 0 ds)) x (q / 10)))) is_f
    ∙ ap (λ x. Some (shown_at c p (Fraction (capped (whole_after 0 ds)) (fraction_by 1000 (fs ++ d ∷ [])) x))) (sym (place_after-push 1000 fs d))) h

pub by_digit : (c : Ctx) (z : State) (d : ℕ) (s : Scan) → d < 10 → after_symbol c (shown c z) (Digit d) ≡ Some s → Goes c z ((code "0" + d) ∷ []) s
by_digit c (AtPlace p) d s small h = digit_at c p d s small h
by_digit c (AtPoint p) d s small h = digit_point c p d s small h
by_digit c (InWhole p ds a some) d s small h = digit_whole c p ds a some d s small h
by_digit c (InFraction p ds fs a b some) d s small h = digit_fraction c p ds fs a b some d s small h
by_digit c (After k e n) d s small h = cc

pub by_point : (c : Ctx) (z : State) (s : Scan) → after_symbol c (shown c z) Point ≡ Some s → Goes c z (code "." ∷ []) s
by_point c (AtPlace p) s h = goes_to c (AtPlace p) (code "." ∷ []) _ s (AtPoint p) refl refl h
by_point c (AtPoint p) s h = cc
by_point c (InWhole p ds a some) s h =
    goes_to c (InWhole p ds a some) (code "." ∷ []) _ s (InFraction p ds [] a tt (omega arith)) (simp append_assoc) refl h
by_point c (InFraction p ds fs a b some) s h = cc
by_point c (After k e n) s h = cc

pub by_letter : (c : Ctx) (z : State) (scale : Scale) (s : Scan) → after_symbol c (shown c z) (Letter scale) ≡ Some s → Goes c z (letter scale ∷ []) s
by_letter c (AtPlace p) scale s h = cc
by_letter c (AtPoint p) scale s h = cc
by_letter c (InWhole p ds a some) scale s h =
    let more : 0 < length ds + 0 = omega arith in
    let o : Operand = numeral ds None (Some scale) a tt more in
    goes_to c (InWhole p ds a some) (letter scale ∷ []) _ s (After (slot_of p) (ended p o) 0)
    (sym (append_assoc (place_text p) (digits_text ds) (letter scale ∷ []) ∙ text_ended p o (digits_text ds ++ letter scale ∷ []) refl))
    (ap (λ v. Some (record { level = completed v; outer = outer_place c p })) (whole_ended c p (Some scale) ds a more)
    ∙ ap (λ ws. Some (record { level = completed (expression_value c (ended p o)); outer = ws })) (outer_place-slot_of c p)) h
by_letter c (InFraction p ds fs a b some) scale s h =
    let o : Operand = numeral ds (Some fs) (Some scale) a b some in
    goes_to c (InFraction p ds fs a b some) (letter scale ∷ []) _ s (After (slot_of p) (ended p o) 0)
    (sym (append_assoc (place_text p) (digits_text ds ++ (code "." ∷ digits_text fs)) (letter scale ∷ []) ∙ text_ended p o ((digits_text ds ++ (code "." ∷ digits_text fs)) ++ letter scale ∷ []) (append_assoc (digits_text ds) (code "." ∷ digits_text fs) (letter scale ∷ []))))
    (ap (λ v. Some (record { level = completed v; outer = outer_place c p })) (number_ended c p (Some scale) ds (Some fs) a b some)
    ∙ ap (λ ws. Some (record { level = completed (expression_value c (ended p o)); outer = ws })) (outer_place-slot_of c p)) h
by_letter c (After k e n) scale s h = cc

pub by_bar : (c : Ctx) (z : State) (s : Scan) → after_symbol c (shown c z) Bar ≡ Some s → Goes c z (code "|" ∷ []) s
by_bar c (AtPlace p) s h =
    goes_to c (AtPlace p) (code "|" ∷ []) _ s (AtPlace (AfterBar p 0)) (ap (λ v. place_text p ++ (code "|" ∷ v)) (blanks-zero (is_inside (slot_of p)))) refl h
by_bar c (AtPoint p) s h = cc
by_bar c (InWhole p ds a some) s h = cc
by_bar c (InFraction p ds fs a b some) s h = cc
by_bar c (After k e n) s h = cc

pub by_open : (c : Ctx) (z : State) (s : Scan) → after_symbol c (shown c z) Open ≡ Some s → Goes c z (code "(" ∷ []) s
by_open c (AtPlace p) s h = goes_to c (AtPlace p) (code "(" ∷ []) _ s (AtPlace (First (Inside p 0))) refl refl h
by_open c (AtPoint p) s h = cc
by_open c (InWhole p ds a some) s h = cc
by_open c (InFraction p ds fs a b some) s h = cc
by_open c (After k e n) s h = cc

close_none : (c : Ctx) (l : Level) (ws : List Waiting) → level_value c l ≡ None → with_close c l ws ≡ None
close_none c l [] h = refl
close_none c l (w ∷ ws) h = ap (option_map (λ v. record { level = completed (finished w v); outer = ws })) h

pub by_close : (c : Ctx) (z : State) (s : Scan) → after_symbol c (shown c z) Close ≡ Some s → Goes c z (code ")" ∷ []) s
by_close c (AtPlace p) s h = stuck (with_close c (shown c (AtPlace p)).level (outer_place c p)) s (close_none c (shown c (AtPlace p)).level (outer_place c p) refl) h
by_close c (AtPoint p) s h = stuck (with_close c (shown c (AtPoint p)).level (outer_place c p)) s (close_none c (shown c (AtPoint p)).level (outer_place c p) refl) h
by_close c (InWhole p ds a some) s h = close_ends c (InWhole p ds a some) (ends_whole c p ds a some) s h
by_close c (InFraction p ds fs a b some) s h = close_ends c (InFraction p ds fs a b some) (ends_fraction c p ds fs a b some) s h
by_close c (After k e n) s h = close_ends c (After k e n) (ends_after c k e n) s h
