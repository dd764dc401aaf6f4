use Rattle.std.proofs.Common.{◌≡◌, ◌-◌, ℕ, List, true, false, get_or, ap, sym, ◌∙◌, arith}
use Rattle.std.specs.Str.{bytes_eq}
use Rattle.std.proofs.lemmas.Slice.Eq.{bytes_eq-Decides}
use Rattle.nr_symbol_tables.specs.Word.{bytes_of}
use Rattle.nr_symbol_tables.specs.Given.{word_in}
use Rattle.nr_symbol_tables.specs.Hyphenation.{earliers, words_in, word_at, number_at}
use Rattle.nr_symbol_tables.specs.declared.hyphenation.Linked.{Linked}
use Rattle.nr_symbol_tables.proofs.Chaining.{first_within, first_last, first_of_kind, next_lower, next_of_kind, next_last, earlier_is, word_is, length-words_in}
use Rattle.nr_symbol_tables.proofs.hyphenation.latest_with.Goals as goal

pub loop-at-init : goal.loop-at-init
loop-at-init c =
    let row = c.args.row.now in
    let latest = c.args.latest.now in
    let bytes = bytes_of c.args.cells.now in
    rw c.kind_of_cells.ensures.is
    (record {
      within = first_within row latest bytes c.requires;
      last = first_last row latest bytes c.requires;
      of_kind = first_of_kind row latest bytes c.requires;
    })

-- the word that is looked at is this one of the row
linked_is : (row : List Linked) (k : ℕ) (l : Linked) → l ≡ get_or row k l → (get_or row k l).earlier ≡ l.earlier
linked_is row k l is = ap (λ (m : Linked). m.earlier) (sym is)

pub loop-at-preserved : goal.loop-at-preserved
loop-at-preserved c =
    let row = c.args.row.now in
    let latest = c.args.latest.now in
    let bytes = bytes_of c.args.cells.now in
    let at = c.loop-at.at in
    let l = c.index-row-at.result in
    let some = c.loop-at-test.true in
    let within = c.loop-at.invariant.within in
    let is : number_at (earliers row) (at - 1) ≡ l.earlier = earlier_is row (at - 1) l (omega arith) ∙ linked_is row (at - 1) l c.index-row-at.is in
    let of_kind = c.loop-at.invariant.of_kind some in
    let lower = next_lower row latest bytes c.requires at l.earlier some within is in
    let letters : (word_at (words_in row) (at - 1)).letters ≡ (word_in l.word).letters =
    ap (λ w. w.letters) (word_is row (at - 1) l (omega arith)) ∙ ap (λ (m : Linked). (word_in m.word).letters) (sym c.index-row-at.is) in
    let not_this : (word_at (words_in row) (at - 1)).letters ≡ bytes → ⊥ = λ same.
    (let hit : bytes_eq bytes (word_in l.word).letters ≡ true = (bytes_eq-Decides bytes (word_in l.word).letters).1 (sym same ∙ letters) in
    let wrong : true ≡ false = sym hit ∙ sym c.has_letters.ensures ∙ c.if-has_letters.false in cc) in
    record {
      within = omega arith;
      last = next_last row latest bytes c.requires at l.earlier some within is of_kind not_this c.loop-at.invariant.last;
      of_kind = next_of_kind row latest bytes c.requires at l.earlier some within is of_kind;
    }

pub loop-at-smaller : goal.loop-at-smaller
loop-at-smaller c =
    let row = c.args.row.now in
    let at = c.loop-at.at in
    let l = c.index-row-at.result in
    let some = c.loop-at-test.true in
    let within = c.loop-at.invariant.within in
    let is : number_at (earliers row) (at - 1) ≡ l.earlier = earlier_is row (at - 1) l (omega arith) ∙ linked_is row (at - 1) l c.index-row-at.is in
    next_lower row c.args.latest.now (bytes_of c.args.cells.now) c.requires at l.earlier some within is

pub returns-then-has_letters : goal.returns-then-has_letters
returns-then-has_letters c =
    let row = c.args.row.now in
    let bytes = bytes_of c.args.cells.now in
    let at = c.loop-at.at in
    let l = c.index-row-at.result in
    let some = c.loop-at-test.true in
    let within = c.loop-at.invariant.within in
    let long = length-words_in row in
    let letters : (word_at (words_in row) (at - 1)).letters ≡ (word_in l.word).letters =
    ap (λ w. w.letters) (word_is row (at - 1) l (omega arith)) ∙ ap (λ (m : Linked). (word_in m.word).letters) (sym c.index-row-at.is) in
    let same : bytes ≡ (word_in l.word).letters = (bytes_eq-Decides bytes (word_in l.word).letters).0 (sym c.has_letters.ensures ∙ c.if-has_letters.true) in
    record {
      within = omega arith;
      is = λ _. letters ∙ sym same;
      last = λ k above below. c.loop-at.invariant.last k above (omega arith);
    }
