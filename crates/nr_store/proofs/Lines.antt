-- Lemmas on lines that are added to a text.
use Rattle.std.proofs.Common.{◌≡◌, ℕ, ◌+◌, ◌<◌, ◌≤◌, ◌↔◌, List, [], ◌∷◌, ◌++◌, length, map, replicate, Result, Ok, Err, refl, ap, sym, ◌∙◌, append_assoc, length-append, arith}
use Rattle.std.specs.Result.{IsErr, OnOk}
use Rattle.std.specs.Option.{option_map}
use Rattle.std.proofs.lemmas.List.{append-nil, length-map, length-replicate}
use Rattle.nr_vectors.specs.Items.{Items}
use Rattle.nr_vectors.specs.declared.cell.Cell.{Cell}
use Rattle.nr_pool.specs.Texts.{Texts, text, used, IsOpen, with_text}
use Rattle.nr_pool.specs.Laws.{within_of_open, with_text-text, append_more, open-with_text, used-with_text}
use Rattle.nr_pool.specs.declared.Full.{Full}
use Rattle.nr_symbol_tables.specs.Rows.{SymbolTable}
use Rattle.nr_levels.specs.Levels.{Levels}
use Rattle.nr_store.specs.declared.named.Sense.{Sense}
use Rattle.nr_store.specs.declared.element.Element.{Element}
use Rattle.nr_store.specs.declared.element.Element.TheVariants as elements
use Rattle.nr_store.specs.declared.element.Draft.{Draft}
use Rattle.nr_store.specs.Store.{Stored, Built, charge_of, blank_cell, line_of, taken, diverted, diverted_end, on_newest}
use Rattle.nr_store.specs.Holders.{Beside, built_of, stored_of, IsStore}
use Rattle.nr_store.proofs.Building.{charge_of-grown}

-- an answer that is no error
pub ok_of : {E : Type 0} (r : Result (Unit {0}) E) (P : Type 0) → (IsErr r → ⊥) → OnOk r P → P
ok_of (Ok u) P not_err was_ok = was_ok
ok_of (Err e) P not_err was_ok = absurd (not_err refl)

-- no items are none
pub no_items : {T : Type 0} (xs : List T) → length xs ≡ 0 → xs ≡ []
no_items [] none = refl
no_items (x ∷ xs) none = absurd (omega (arith, none))

module _ (p : Texts Element) (id : ℕ) (is_open : IsOpen p id) where
  abbrev pub with_more : List Element → Texts Element
  with_more xs = with_text p id (text p id ++ xs)

  pub none_more : p ≡ with_more []
  none_more = sym (ap (with_text p id) (append-nil (text p id)) ∙ with_text-text p id)

  pub more_open : (xs : List Element) → IsOpen (with_more xs) id
  more_open xs = open-with_text p id id (text p id ++ xs) is_open

  pub more_used : (xs : List Element) → used (with_more xs) ≡ used p + length xs
  more_used xs =
      let sum = used-with_text p id (text p id ++ xs) (within_of_open p id is_open) in
      let all = length-append (text p id) xs in
      omega arith

  -- more after what is more already
  pub more_more : (q r : Texts Element) (xs ys : List Element) → q ≡ with_more xs → r ≡ with_text q id (text q id ++ ys) → r ≡ with_more (xs ++ ys)
  more_more q r xs ys wrote more =
      append_more p q r id (text p id ++ xs) ys (within_of_open p id is_open) wrote more ∙ ap (with_text p id) (append_assoc (text p id) xs ys)

  pub one_more : (q r : Texts Element) (xs : List Element) (x : Element) (answer : Result (Unit {0}) Full) → q ≡ with_more xs → used p + length xs < p.capacity → (IsErr answer ↔ (used q ≡ q.capacity))
      → OnOk answer (r ≡ with_text q id (text q id ++ x ∷ [])) → r ≡ with_more (xs ++ x ∷ [])
  one_more q r xs x answer wrote room full ok =
      let used_is : used q ≡ used p + length xs = ap used wrote ∙ more_used xs in
      let capacity_is : q.capacity ≡ p.capacity = ap (λ (t : Texts Element). t.capacity) wrote in
      more_more q r xs (x ∷ []) wrote (ok_of answer _ (λ err. let is = full.0 err in omega arith) ok)

  -- a slice of more
  pub some_more : (q r : Texts Element) (xs ys : List Element) (answer : Result (Unit {0}) Full) → q ≡ with_more xs → used p + (length xs + length ys) ≤ p.capacity → (IsErr answer ↔ (q.capacity < used q + length ys))
      → OnOk answer (r ≡ with_text q id (text q id ++ ys)) → r ≡ with_more (xs ++ ys)
  some_more q r xs ys answer wrote room full ok =
      let used_is : used q ≡ used p + length xs = ap used wrote ∙ more_used xs in
      let capacity_is : q.capacity ≡ p.capacity = ap (λ (t : Texts Element). t.capacity) wrote in
      more_more q r xs ys wrote (ok_of answer _ (λ err. let is = full.0 err in omega arith) ok)

pub length-line_of : (indent : ℕ) (cells : List Cell) (height : ℕ) → length (line_of indent cells height) ≡ indent + length cells + 1
length-line_of indent cells height =
    let first = length-append (replicate indent blank_cell) (map elements.Cell cells ++ elements.LineEnd height ∷ []) in
    let second = length-append (map elements.Cell cells) (elements.LineEnd height ∷ []) in
    let blanks = length-replicate indent blank_cell in
    let mapped = length-map cells elements.Cell in
    omega arith

-- ---- a line in the newest text being built

module _ {K : Type 0} (p : Texts Element) (names : SymbolTable Sense) (drafts : Items Draft) (levels : Levels K) (beside : Beside) (charge limit : ℕ) (d : Draft) (ds : List Draft) (h : IsStore p names drafts levels beside charge limit) (first : drafts.items ≡ d ∷ ds)
    (indent : ℕ) (cells : List Cell) (height : ℕ) where
  abbrev v : Stored K
  v = stored_of p names.entries drafts.items levels beside limit

  pub diverted_is : diverted indent cells height v
      ≡ record v { building = record { text = text p d.id ++ line_of indent cells height; diversion = option_map (taken (indent + length cells) height) d.diversion } ∷ map (built_of p) ds }
  diverted_is = ap (λ b. record v { building = on_newest (λ (c : Built). record { text = c.text ++ line_of indent cells height; diversion = option_map (taken (indent + length cells) height) c.diversion }) (map (built_of p) b) }) first

  pub charge_of-diverted : charge_of (diverted indent cells height v) ≡ charge + (indent + length cells + 1)
  charge_of-diverted =
      let was = h.charged in
      let long = length-line_of indent cells height in
      let grown = charge_of-grown (line_of indent cells height) (built_of p d) (map (built_of p) ds) (option_map (taken (indent + length cells) height) d.diversion) v (ap (map (built_of p)) first) in
      let is = ap charge_of diverted_is in
      omega arith

-- ---- a line whose cells were added one by one

module _ {K : Type 0} (p : Texts Element) (names : SymbolTable Sense) (drafts : Items Draft) (levels : Levels K) (beside : Beside) (charge limit : ℕ) (d : Draft) (ds : List Draft) (h : IsStore p names drafts levels beside charge limit) (first : drafts.items ≡ d ∷ ds)
    (cells height : ℕ) where
  abbrev before : Stored K
  before = stored_of p names.entries drafts.items levels beside limit

  pub diverted_end_is : diverted_end cells height before
      ≡ record before { building = record { text = text p d.id ++ elements.LineEnd height ∷ []; diversion = option_map (taken cells height) d.diversion } ∷ map (built_of p) ds }
  diverted_end_is = ap (λ b. record before { building = on_newest (λ (c : Built). record { text = c.text ++ elements.LineEnd height ∷ []; diversion = option_map (taken cells height) c.diversion }) (map (built_of p) b) }) first

  pub charge_of-diverted_end : charge_of (diverted_end cells height before) ≡ charge + 1
  charge_of-diverted_end =
      let was = h.charged in
      let grown = charge_of-grown (elements.LineEnd height ∷ []) (built_of p d) (map (built_of p) ds) (option_map (taken cells height) d.diversion) before (ap (map (built_of p)) first) in
      let is = ap charge_of diverted_end_is in
      omega arith
