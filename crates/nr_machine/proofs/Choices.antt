-- The options take effect.
use Prim.Native.Char.{code}
use Rattle.std.proofs.Common.{◌≡◌, ℕ, ◌+◌, ◌≤◌, ◌<◌, Bool, true, false, List, [], ◌∷◌, length, Option, None, Some, Ok, Err, refl, sym, ap, ◌∙◌, subst, arith}
use Rattle.std.specs.Prelude.{ℤ, ◌==◌, if◌then◌else◌}
use Rattle.std.specs.Prelude.{map, drop, get_or}
use Rattle.std.proofs.lemmas.List.{drop_more, drop_all}
use Rattle.std.proofs.KnownBytes.{Keeps-refl}
use Rattle.nr_units.specs.Source.{Supply}
use Rattle.nr_symbol_tables.specs.Table.{Named, find}
use Rattle.nr_store.specs.declared.register.Register.{Register as Numbered}
use Rattle.nr_store.specs.Store.{charge_of, is_held, written, set_to, register_of}
use Rattle.nr_fill.specs.Piece.{line_cells}
use Rattle.nr_formatter.specs.Access.{collected}
use Rattle.nr_input.specs.Place.{Reached}
use Rattle.nr_formatter.specs.Limits as formatter
use Rattle.nr_formatter.specs.Weights.{weight, owed, steps_left}
use Rattle.nr_formatter.specs.Registers.{register_set_by}
use Rattle.nr_formatter.specs.declared.formatter.Formatter.{Formatter}
use Rattle.nr_formatter.specs.declared.built_in.BuiltInRegister.TheVariants as given
use Rattle.nr_machine.specs.State.{State, Choice, First, Register}
use Rattle.nr_machine.specs.Machine.{step, state_after, choose, choose_or}
use Rattle.nr_machine.specs.Measures.{IsWithin, passed}
use Rattle.nr_machine.specs.Run.{Works as WorksKind, kind, kind_of, Goes, GoesBy, PassesBy, Stops, place_by}
use Rattle.nr_machine.specs.Holding.{Shape, Holds, Made, Halts}
use Rattle.nr_machine.specs.Choosing.{Chooses, StaysLight}
use Rattle.nr_machine.specs.declared.outcome.Measure.TheVariants.{Stored}
use Rattle.nr_machine.specs.declared.outcome.Outcome.{Outcome}
use Rattle.nr_machine.specs.declared.outcome.Outcome.TheVariants.{Limit}
use Rattle.nr_machine.proofs.Standing.{wrote_nothing, made_all, halts_here, halts_after}
use Rattle.nr_machine.proofs.Measured.{passed_none, passed_stored}

-- ---- a choice sets registers and the page's number, and nothing else

abbrev set_so : List (Named Numbered) → ℤ → Formatter → Formatter
set_so rs n f = record f { store = record f.store { registers = rs }; paper = record f.paper { number = n } }

record Chosen (f g : Formatter) : Type 0 where
  registers : List (Named Numbered)
  number : ℤ
  is : g ≡ set_so registers number f

by_first : (b : Bool) (n : ℤ) (f : Formatter) → Chosen f (if b then record f { paper = record f.paper { number = n } } else f)
by_first true n f = record { registers = f.store.registers; number = n; is = refl }
by_first false n f = record { registers = f.store.registers; number = f.paper.number; is = refl }

by_other : (b : Bool) (f : Formatter) → Chosen f (if b then f else f)
by_other true f = record { registers = f.store.registers; number = f.paper.number; is = refl }
by_other false f = record { registers = f.store.registers; number = f.paper.number; is = refl }

by_written : (r : Option Numbered) (name : List ℕ) (f : Formatter) → Chosen f (record f { store = written r name f.store })
by_written None name f = record { registers = f.store.registers; number = f.paper.number; is = refl }
by_written (Some r) name f = record { registers = (written (Some r) name f.store).registers; number = f.paper.number; is = refl }

by_byte : (p q : Bool) (name : List ℕ) (n : ℤ) (f : Formatter)
    → Chosen f (register_set_by (if p then Some given.Page else (if q then Some given.Other else None)) name n None f)
by_byte true q name n f = by_first (is_held n) n f
by_byte false true name n f = by_other (is_held n) f
by_byte false false name n f = by_written (set_to n None (register_of (find name f.store.registers))) name f

chosen : (c : Choice) (f : Formatter) → Chosen f (choose c f)
chosen (First n) f = by_first (is_held n) n f
chosen (Register name n) f = by_byte (name == code "%") (name == code ".") (name ∷ []) n f

weighs_so : (rs : List (Named Numbered)) (n : ℤ) (p : Reached) (f : Formatter) → weight p (set_so rs n f) ≡ weight p f
unfolding weight owed steps_left
weighs_so rs n p f = refl

-- it weighs nothing
pub choice_stays : (c : Choice) (e f : Shape) → f ≡ record e { formatter = choose c e.formatter } → StaysLight e f
choice_stays c e f is =
    let so = chosen c e.formatter in
    let eq : f ≡ record e { formatter = set_so so.registers so.number e.formatter } = is ∙ ap (λ g. record e { formatter = g }) so.is in
    subst (λ x. StaysLight e x) (sym eq) (record { place = refl; limit = refl; most = refl; weighs = weighs_so so.registers so.number e.place e.formatter })

pub stays-trans : (e f g : Shape) → StaysLight e f → StaysLight f g → StaysLight e g
stays-trans e f g a b = record { place = b.place ∙ a.place; limit = b.limit ∙ a.limit; most = b.most ∙ a.most; weighs = b.weighs ∙ a.weighs }

-- the first page's number stores nothing
first_charge : (b : Bool) (n : ℤ) (f : Formatter) → charge_of (if b then record f { paper = record f.paper { number = n } } else f).store ≡ charge_of f.store
first_charge true n f = refl
first_charge false n f = refl

pub first_chooses : (n : ℤ) (e f : Shape) → f ≡ record e { formatter = choose (First n) e.formatter } → Chooses (First n) e f (Ok tt)
first_chooses n e f is = (is, λ w. subst (λ k. k ≤ e.formatter.store.limit) (sym (first_charge (is_held n) n e.formatter)) w.stored)

within_so : (f g : Formatter) → Chosen f g → formatter.IsWithin f → charge_of g.store ≤ f.store.limit → formatter.IsWithin g
within_so f g so w stored = record {
  stored = subst (λ k. charge_of g.store ≤ k) (sym (ap (λ x. x.store.limit) so.is)) stored;
  depth = subst (λ (x : Formatter). length x.store.levels ≤ x.store.deepest) (sym so.is) w.depth;
  line = subst (λ (x : Formatter). line_cells (collected x) ≤ x.line.limit) (sym so.is) w.line;
  burst = subst (λ (x : Formatter). x.reader.burst ≤ x.reader.most) (sym so.is) w.burst;
}

-- ---- a choice is a move

abbrev next : Choice → List Choice → State → State
next c cs t = record t { chosen = cs; formatter = choose c t.formatter }

step_of : (t : State) (c : Choice) (cs : List Choice) → t.chosen ≡ c ∷ cs → step t ≡ next c cs t
unfolding step
step_of t c cs is = ap (λ k. choose_or k t) is

works : (t : State) (c : Choice) (cs : List Choice) → t.chosen ≡ c ∷ cs → kind t ≡ WorksKind
works t c cs is = ap (λ k. kind_of k t.formatter.springs t.formatter.event t.formatter.task) is

module _ (c : Choice) (cs : List Choice) (supply : Option Supply) (held : Option (List ℕ)) (t : State) (e : Shape) (h : Holds (c ∷ cs) supply t e) where
  same : step t ≡ next c cs t
  same = step_of t c cs h.stands.chosen_is

  of_formatter : choose c e.formatter ≡ choose c t.formatter
  of_formatter = ap (choose c) h.formatter

  pub choice_made : (f : Shape) → Chooses c e f (Ok tt) → Made cs t 1 f supply held held
  choice_made f does =
      let within : formatter.IsWithin (choose c e.formatter) = within_so e.formatter (choose c e.formatter) (chosen c e.formatter) h.stands.within.formatter (does.1 h.stands.within.formatter) in
      let there : IsWithin (next c cs t) = record { formatter = subst (λ (x : Formatter). formatter.IsWithin x) of_formatter within; page = h.stands.within.page } in
      let goes : Goes t = subst (λ k. GoesBy k t) (sym (works t c cs h.stands.chosen_is)) (ap passed same ∙ passed_none (next c cs t) there) in
      let holds : Holds cs supply (next c cs t) (record e { formatter = choose c e.formatter }) = record {
        formatter = of_formatter;
        stands = record {
          chosen_is = refl;
          coming = h.stands.coming;
          row = h.stands.row;
          page = h.stands.page;
          page_limit = h.stands.page_limit;
          select = h.stands.select;
          faces = h.stands.faces;
          within = record { formatter = within; page = h.stands.within.page };
        };
      } in
      record {
        runs = λ k below. (let first : 0 ≡ k = omega arith in subst (λ j. Goes (state_after j t)) first goes);
        holds = subst (λ u. Holds cs supply u f) (sym same) (subst (λ x. Holds cs supply (next c cs t) x) (sym does.0) holds);
        wrote = wrote_nothing t (step t) held (ap (λ u. u.pages) same);
      }

  pub choice_halts : (f : Shape) (outcome : Outcome) → Chooses c e f (Err outcome) → Halts t 0 outcome held held
  choice_halts f outcome does =
      let over : (next c cs t).formatter.store.limit < charge_of (next c cs t).formatter.store =
      subst (λ (x : Formatter). x.store.limit < charge_of x.store) of_formatter
      (subst (λ k. k < charge_of (choose c e.formatter).store) (sym (ap (λ x. x.store.limit) (chosen c e.formatter).is)) (does.1 h.stands.within.formatter)) in
      let stops : Stops t (Limit Stored e.place.taken) = (
        subst (λ k. PassesBy k t Stored) (sym (works t c cs h.stands.chosen_is)) (ap passed same ∙ passed_stored (next c cs t) over),
        subst (λ k. e.place.taken ≡ place_by k t) (sym (works t c cs h.stands.chosen_is)) h.stands.coming.taken,
      )
      in
      subst (λ o. Halts t 0 o held held) (sym does.0) (halts_here t (Limit Stored e.place.taken) held held stops (Keeps-refl held))

-- ---- the registers, one after another

abbrev pub registers_of : List (ℕ × ℤ) → List Choice
registers_of xs = map (λ r. Register r.0 r.1) xs

module _ (xs : List (ℕ × ℤ)) (i n : ℕ) (d : ℕ × ℤ) (supply : Option Supply) (held : Option (List ℕ)) (s : State) (e : Shape) (below : i < length xs) (made : Made (registers_of (drop i xs)) s n e supply held held) where
  holds : Holds (Register (get_or xs i d).0 (get_or xs i d).1 ∷ registers_of (drop (i + 1) xs)) supply (state_after n s) e
  holds = subst (λ ys. Holds (registers_of ys) supply (state_after n s) e) (drop_more xs i d below) made.holds

  pub register_made : (f : Shape) → Chooses (Register (get_or xs i d).0 (get_or xs i d).1) e f (Ok tt) → Made (registers_of (drop (i + 1) xs)) s (n + 1) f supply held held
  register_made f does =
      made_all (registers_of (drop i xs)) (registers_of (drop (i + 1) xs)) s n 1 e f supply supply held held held made
      (choice_made (Register (get_or xs i d).0 (get_or xs i d).1) (registers_of (drop (i + 1) xs)) supply held (state_after n s) e holds f does)

  pub register_halts : (f : Shape) (outcome : Outcome) → Chooses (Register (get_or xs i d).0 (get_or xs i d).1) e f (Err outcome) → Halts s n outcome held held
  register_halts f outcome does =
      let none : n + 0 ≡ n = omega arith in
      subst (λ k. Halts s k outcome held held) none
      (halts_after (registers_of (drop i xs)) s n 0 e supply outcome held held held made
      (choice_halts (Register (get_or xs i d).0 (get_or xs i d).1) (registers_of (drop (i + 1) xs)) supply held (state_after n s) e holds f outcome does))

pub register_stays : (name : ℕ) (n : ℤ) (e f : Shape) → Chooses (Register name n) e f (Ok tt) → StaysLight e f
register_stays name n e f does = choice_stays (Register name n) e f does.0

pub all_made : (xs : List (ℕ × ℤ)) (i n : ℕ) (supply : Option Supply) (held : Option (List ℕ)) (s : State) (e : Shape) → length xs ≤ i
    → Made (registers_of (drop i xs)) s n e supply held held → Made [] s n e supply held held
all_made xs i n supply held s e past made = subst (λ ys. Made (registers_of ys) s n e supply held held) (drop_all i xs past) made
