-- The fields of a line, one after the other.
use Rattle.std.proofs.Common.{◌≡◌, ℕ, zero, suc, ◌+◌, ◌-◌, ◌≤◌, List, [], ◌++◌, Option, None, Some, refl, sym, ◌∙◌, ap, subst, append_assoc, append-nil, arith}
use Rattle.tbl_reader.specs.Fields.{place_of}
use Rattle.tbl_reader.specs.Pages.{Page, Effect, effect, and_then, line_of}
use Rattle.tbl_reader.specs.RowLines.{next_said, after_field, ended_at, fields_ended}
use Rattle.tbl_reader.specs.Telling.{Piece, Tells}
use Rattle.tbl_reader.proofs.Hearing.{tells_then}

-- the place of the next field's end
abbrev pub next_end : Page → Option ℕ
next_end p = place_of p.state.options.tab (line_of p)

-- what was found is that place
pub found_next : (q : Page) (tab : ℕ) (line : List ℕ) (found place : Option ℕ) → found ≡ place_of tab line → tab ≡ q.state.options.tab → line ≡ line_of q
    → found ≡ place → next_end q ≡ place
found_next q tab line found place is same_tab same_line at =
    sym (is ∙ ap (λ (t : ℕ). place_of t line) same_tab ∙ ap (place_of q.state.options.tab) same_line) ∙ at

none_more : (n : ℕ) (p : Page) → next_end p ≡ None → fields_ended n p ≡ effect p []
none_more zero p e = refl
none_more (suc n) p e = ap (λ (x : Option ℕ). ended_at x (fields_ended n) p) e

split_at : (place : Option ℕ) (k m : ℕ) (p : Page) → next_end p ≡ place → ((q : Page) → fields_ended (k + m) q ≡ and_then (fields_ended k q) (fields_ended m))
    → ended_at place (fields_ended (k + m)) p ≡ and_then (ended_at place (fields_ended k) p) (fields_ended m)
split_at None k m p e more = sym (none_more m p e)
split_at (Some len) k m p e more =
    let q = after_field len p in
    let said = next_said len p in
    let f = fields_ended k q in
    let g = fields_ended m f.page in
    ap (λ (x : Effect). effect x.page (said.pieces ++ x.pieces)) (more q)
    ∙ ap (λ (ps : List Piece). effect g.page ps) (sym (append_assoc said.pieces f.pieces g.pieces))

split : (k m : ℕ) (p : Page) → fields_ended (k + m) p ≡ and_then (fields_ended k p) (fields_ended m)
split zero m p = let e : 0 + m ≡ m = omega arith in ap (λ (n : ℕ). fields_ended n p) e
split (suc k) m p =
    let e : suc k + m ≡ suc (k + m) = omega arith in
    ap (λ (n : ℕ). fields_ended n p) e ∙ split_at (next_end p) k m p refl (split k m)

-- no further field ends
pub ended_here : (k n : ℕ) (p q : Page) → k ≤ n → q ≡ (fields_ended k p).page → next_end q ≡ None → fields_ended n p ≡ fields_ended k p
ended_here k n p q few page e =
    let m = n - k in
    let all : n ≡ k + m = omega (arith, few) in
    let f = fields_ended k p in
    ap (λ (x : ℕ). fields_ended x p) all ∙ split k m p
    ∙ ap (λ (x : Effect). effect x.page (f.pieces ++ x.pieces)) (none_more m f.page (ap next_end (sym page) ∙ e))
    ∙ ap (λ (ps : List Piece). effect f.page ps) (append-nil f.pieces)

one_more : (len : ℕ) (p : Page) → next_end p ≡ Some len → fields_ended 1 p ≡ effect (after_field len p) (next_said len p).pieces
one_more len p e =
    ap (λ (x : Option ℕ). ended_at x (fields_ended 0) p) e
    ∙ ap (λ (ps : List Piece). effect (after_field len p) ps) (append-nil (next_said len p).pieces)

-- one field more ends
pub record FieldsEmitted {A S : Type 0} (shows : A → S → Type 0) (hears : Piece → S → S) (k : ℕ) (p q : Page) (a b : A) : Type 0 where
  pub page : q ≡ (fields_ended k p).page
  pub emitted : Tells shows hears (fields_ended k p).pieces a b

pub emitted_first : {A S : Type 0} (shows : A → S → Type 0) (hears : Piece → S → S) (p : Page) (a : A) → FieldsEmitted shows hears 0 p p a a
emitted_first shows hears p a = record { page = refl; emitted = λ s h. h }

pub emitted_more : {A S : Type 0} (shows : A → S → Type 0) (hears : Piece → S → S) (k len : ℕ) (p q r : Page) (a b c : A)
    → FieldsEmitted shows hears k p q a b → next_end q ≡ Some len → r ≡ after_field len q → Tells shows hears (next_said len q).pieces b c
    → FieldsEmitted shows hears (k + 1) p r a c
emitted_more shows hears k len p q r a b c before e page emitted =
    let f = fields_ended k p in
    let one = one_more len q e in
    let here : Tells shows hears (fields_ended 1 q).pieces b c = subst (λ (x : Effect). Tells shows hears x.pieces b c) (sym one) emitted in
    let there : r ≡ (fields_ended 1 q).page = page ∙ ap (λ (x : Effect). x.page) (sym one) in
    let both = sym (split k 1 p) in
    record {
      page = there ∙ ap (λ (x : Page). (fields_ended 1 x).page) before.page ∙ ap (λ (x : Effect). x.page) both;
      emitted = subst (λ (x : Effect). Tells shows hears x.pieces a c) both (tells_then shows hears f (fields_ended 1) q a b c before.page before.emitted here);
    }

-- all have ended
pub emitted_all : {A S : Type 0} (shows : A → S → Type 0) (hears : Piece → S → S) (k n : ℕ) (p q : Page) (a b : A)
    → FieldsEmitted shows hears k p q a b → k ≤ n → next_end q ≡ None → FieldsEmitted shows hears n p q a b
emitted_all shows hears k n p q a b t few e =
    let same = sym (ended_here k n p q few t.page e) in
    record {
      page = t.page ∙ ap (λ (x : Effect). x.page) same;
      emitted = subst (λ (x : Effect). Tells shows hears x.pieces a b) same t.emitted;
    }
