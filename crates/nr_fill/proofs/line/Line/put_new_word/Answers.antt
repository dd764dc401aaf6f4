use Rattle.std.proofs.Common.{◌≡◌, ◌+◌, ◌-◌, ◌<◌, ◌≤◌, List, [], ◌∷◌, ◌++◌, length, map, take, drop, get_or, None, true, false, ◌&&◌, if◌then◌else◌, All, ap, sym, subst, ◌∙◌, refl, arith, length-append}
use Rattle.std.proofs.lemmas.Grind.{common_steps}
use Rattle.std.proofs.lemmas.List.{length-map, length-take, length-take-le, nil_from_length, take_all, drop_all}
use Rattle.nr_settings.specs.Indents.{margins_of}
use Rattle.nr_fill.specs.Cutting.{pieces_width}
use Rattle.nr_fill.specs.Line.{Lined}
use Rattle.nr_fill.specs.Piece.{Collected, Piece, begins_line, ends_sentence, is_nil, text_cells}
use Rattle.nr_fill.specs.Plain.{IsPlain, run_cell}
use Rattle.nr_fill.specs.declared.piece.Join.TheVariants.{Gap}
use Rattle.nr_fill.specs.Laid.{read_cells}
use Rattle.nr_fill.proofs.Lines.{line_cells-le, no_title_cells, no_title_of, none_from_word_of, text_cells-collected_of, widths_small}
use Rattle.nr_fill.proofs.RunLemmas.{add_run-none, add_word-none, last_prefix, length_prefix, run_begun, run_worded, taken_prefix}
use Rattle.nr_fill.proofs.line.Line.put_new_word.Goals.{then-self-eq0, else-self-eq0}
use Rattle.nr_fill.proofs.line.Line.put_new_word.Goals as goal

-- a list of some items is not empty
some_pieces : (ps : List Piece) → 0 < length ps → is_nil ps ≡ false
some_pieces [] h = absurd (omega arith)
some_pieces (p ∷ ps) h = refl

pub push_plain-count-requires-clause-room : goal.push_plain-count-requires-clause-room
push_plain-count-requires-clause-room c =
    let s = c.self.inside in
    let text = text_cells-collected_of s.barred s.sentence s.margins s.turn c.self.invariant in
    let same = ap (λ (v : Lined). text_cells v.collected) c.self.view_is in
    let taken = length-take c.min.result c.args.bytes.now in
    omega (arith, c.self.invariant.room, c.text_measure.ensures.value, c.text_measure.ensures.within)

pub returns-clause-plain : goal.returns-clause-plain
returns-clause-plain c =
    subst (λ xs. All IsPlain xs) (taken_prefix c.push_plain-count.result c.min.result c.args.bytes.now c.push_plain-count.ensures.prefix) c.push_plain-count.ensures.plain

pub close-requires-clause-room : goal.close-requires-clause-room
close-requires-clause-room c =
    let s = c.self.inside in
    let none = none_from_word_of s.word (drop s.pieces s.row.pieces) s.row.last (ap (λ (v : Lined). v.collected.word) c.self.view_is ∙ c.requires.word) in
    let h = rw none at c.self.invariant in
    let all = h.no_word refl in
    let text = text_cells-collected_of s.barred s.sentence s.margins s.turn c.self.invariant in
    let same = ap (λ (v : Lined). text_cells v.collected) c.self.view_is in
    let taken = length-take c.min.result c.args.bytes.now in
    rw c.push_plain-count.ensures.cells (omega (arith, h.room, c.push_plain-count.ensures.prefix, c.text_measure.ensures.value, c.text_measure.ensures.within))

pub overflow_add-self-2 : goal.overflow_add-self-2
overflow_add-self-2 c =
    let s = c.self.inside in
    let none = none_from_word_of s.word (drop s.pieces s.row.pieces) s.row.last (ap (λ (v : Lined). v.collected.word) c.self.view_is ∙ c.requires.word) in
    let h = rw none at c.self.invariant in
    let all = h.no_word refl in
    let whole = ap pieces_width (take_all s.pieces s.row.pieces (omega arith)) in
    let small = widths_small h in
    let width = h.wide_is in
    let limit = ap (λ (v : Lined). v.limit) c.self.view_is in
    let taken = length-take c.min.result c.args.bytes.now in
    omega (arith, h.gap_within, h.is_small, c.from.ensures, c.push_plain-count.ensures.prefix, c.text_measure.ensures.within)

pub invariant_of-self-2 : goal.invariant_of-self-2
invariant_of-self-2 c =
    let s = c.self.inside in
    let text = text_cells-collected_of s.barred s.sentence s.margins s.turn c.self.invariant in
    let same = ap (λ (v : Lined). text_cells v.collected) c.self.view_is in
    let limit = ap (λ (v : Lined). v.limit) c.self.view_is in
    let room : s.pieces + read_cells s.row + c.min.result ≤ s.limit = omega (arith, c.text_measure.ensures.value, c.text_measure.ensures.within) in
    rw (c.close.ensures, c.push_plain-count.ensures.cells, c.from.ensures) (run_worded c.push_plain-count.result c.min.result c.args.bytes.now c.push_plain-count.ensures.prefix c.args.look c.self.invariant
    (none_from_word_of s.word (drop s.pieces s.row.pieces) s.row.last (ap (λ (v : Lined). v.collected.word) c.self.view_is ∙ c.requires.word))
    (no_title_of s.title s.row.title (ap (λ (v : Lined). v.collected.title) c.self.view_is ∙ c.requires.title)) room (omega (arith, length-take c.min.result c.args.bytes.now)))

pub returns-clause-word : goal.returns-clause-word
returns-clause-word c = λ some.
    let s = c.self.inside in
    let none = none_from_word_of s.word (drop s.pieces s.row.pieces) s.row.last (ap (λ (v : Lined). v.collected.word) c.self.view_is ∙ c.requires.word) in
    let untitled = no_title_of s.title s.row.title (ap (λ (v : Lined). v.collected.title) c.self.view_is ∙ c.requires.title) in
    let all = (rw none at c.self.invariant).no_word refl in
    let last : s.row.last ≡ [] = nil_from_length s.row.last all.1 in
    let bytes = c.args.bytes.now in
    let count = c.push_plain-count.result in
    let m = c.min.result in
    let prefix_is = taken_prefix count m bytes c.push_plain-count.ensures.prefix in
    let run = map (run_cell c.args.look) (take count bytes) in
    let long = length_prefix count m bytes c.push_plain-count.ensures.prefix in
    let many : length run ≡ count = length-map (take count bytes) (run_cell c.args.look) ∙ long in
    let whole : take count run ≡ run = take_all count run (omega arith) in
    let p : Piece = record { join = Gap s.gap; cells = run } in
    let afterwards : take (s.pieces + 1) (s.row.pieces ++ p ∷ []) ≡ s.row.pieces ++ p ∷ [] = take_all (s.pieces + 1) (s.row.pieces ++ p ∷ []) (omega (arith, length-append s.row.pieces (p ∷ []))) in
    let before : take s.pieces s.row.pieces ≡ s.row.pieces = take_all s.pieces s.row.pieces (omega arith) in
    let last_at = last_prefix count m bytes c.push_plain-count.ensures.prefix (omega arith) in
    let now = c.args.self.now.collected in
    let word : now.word ≡ None = ap (λ (v : Lined). v.collected.word) (sym c.self.view_is) ∙ rw none refl in
    let begins : begins_line now ≡ (is_nil s.row.pieces && true) = ap (λ (v : Lined). begins_line v.collected) (sym c.self.view_is) ∙ rw (none, before) refl in
    let margins : c.if-self-eq0.self ≡ (if begins_line now then margins_of c.args.indents.now else now.margins) = rw begins (elim c.if-self-eq0.branch [
      | then-self-eq0 w ↦ rw (nil_from_length s.row.pieces (omega arith)) (w.self-is ∙ w.margins-self-inside.ensures)
      | else-self-eq0 w ↦ rw (some_pieces s.row.pieces (omega arith)) (w.self-is ∙ ap (λ (v : Lined). v.collected.margins) c.self.view_is)
    ]) in
    let sentence : c.ends_sentence-self-inside.result ≡ ends_sentence (run_cell c.args.look (get_or (take count bytes) (length (take count bytes) - 1) 0)) =
    c.ends_sentence-self-inside.ensures ∙ ap (λ b. ends_sentence (run_cell c.args.look b)) last_at in
    rw (c.close.ensures, c.push_plain-count.ensures.cells, last, prefix_is, whole, afterwards, none, untitled, margins, sentence, ← c.self.view_is) (rw before refl)
    ∙ ap (λ (k : Collected). record c.args.self.now { collected = k }) (sym (add_word-none (margins_of c.args.indents.now) c.args.look (take count bytes) now word (omega (arith, long))))

pub returns-then-count-near-clause-plain : goal.returns-then-count-near-clause-plain
returns-then-count-near-clause-plain c =
    subst (λ xs. All IsPlain xs) (taken_prefix c.push_plain-count.result c.min.result c.args.bytes.now c.push_plain-count.ensures.prefix) c.push_plain-count.ensures.plain

pub invariant_of-self-then-count-near : goal.invariant_of-self-then-count-near
invariant_of-self-then-count-near c =
    let s = c.self.inside in
    let text = text_cells-collected_of s.barred s.sentence s.margins s.turn c.self.invariant in
    let same = ap (λ (v : Lined). text_cells v.collected) c.self.view_is in
    let limit = ap (λ (v : Lined). v.limit) c.self.view_is in
    let room : s.pieces + read_cells s.row + c.min.result ≤ s.limit = omega (arith, c.text_measure.ensures.value, c.text_measure.ensures.within) in
    rw c.push_plain-count.ensures.cells (run_begun c.push_plain-count.result c.min.result c.args.bytes.now c.push_plain-count.ensures.prefix c.args.look c.self.invariant
    (none_from_word_of s.word (drop s.pieces s.row.pieces) s.row.last (ap (λ (v : Lined). v.collected.word) c.self.view_is ∙ c.requires.word))
    (no_title_of s.title s.row.title (ap (λ (v : Lined). v.collected.title) c.self.view_is ∙ c.requires.title)) room c.new.result c.new.ensures)

pub returns-then-count-near-clause-run : goal.returns-then-count-near-clause-run
returns-then-count-near-clause-run c = λ goes_on.
    let s = c.self.inside in
    let none = none_from_word_of s.word (drop s.pieces s.row.pieces) s.row.last (ap (λ (v : Lined). v.collected.word) c.self.view_is ∙ c.requires.word) in
    let untitled = no_title_of s.title s.row.title (ap (λ (v : Lined). v.collected.title) c.self.view_is ∙ c.requires.title) in
    let all = (rw none at c.self.invariant).no_word refl in
    let last : s.row.last ≡ [] = nil_from_length s.row.last all.1 in
    let bytes = c.args.bytes.now in
    let count = c.push_plain-count.result in
    let m = c.min.result in
    let some : 0 < count = omega (arith, c.if-count-eq0.false) in
    let prefix_is = taken_prefix count m bytes c.push_plain-count.ensures.prefix in
    let long = length_prefix count m bytes c.push_plain-count.ensures.prefix in
    let before : take s.pieces s.row.pieces ≡ s.row.pieces = take_all s.pieces s.row.pieces (omega arith) in
    let afterwards : drop s.pieces s.row.pieces ≡ [] = drop_all s.pieces s.row.pieces (omega arith) in
    let last_at = last_prefix count m bytes c.push_plain-count.ensures.prefix some in
    let now = c.args.self.now.collected in
    let begins : begins_line now ≡ (is_nil s.row.pieces && true) = ap (λ (v : Lined). begins_line v.collected) (sym c.self.view_is) ∙ rw (none, before) refl in
    let margins : c.if-self-eq0.self ≡ (if begins_line now then margins_of c.args.indents.now else now.margins) = rw begins (elim c.if-self-eq0.branch [
      | then-self-eq0 w ↦ rw (nil_from_length s.row.pieces (omega arith)) (w.self-is ∙ w.margins-self-inside.ensures)
      | else-self-eq0 w ↦ rw (some_pieces s.row.pieces (omega arith)) (w.self-is ∙ ap (λ (v : Lined). v.collected.margins) c.self.view_is)
    ]) in
    let sentence : c.ends_sentence-self-inside.result ≡ ends_sentence (run_cell c.args.look (get_or (take count bytes) (length (take count bytes) - 1) 0)) =
    c.ends_sentence-self-inside.ensures ∙ ap (λ b. ends_sentence (run_cell c.args.look b)) last_at in
    rw (c.new.ensures, c.push_plain-count.ensures.cells, last, prefix_is, afterwards, untitled, margins, sentence, ← c.self.view_is) (rw before refl)
    ∙ ap (λ (k : Collected). record c.args.self.now { collected = k }) (sym (add_run-none (margins_of c.args.indents.now) c.args.look (take count bytes) now c.requires.word (omega (arith, long, some))))

pub push_plain-count-requires-clause-no_title : goal.push_plain-count-requires-clause-no_title
push_plain-count-requires-clause-no_title c =
    let s = c.self.inside in
    nil_from_length s.row.title (no_title_cells c.self.invariant (ap (λ (v : Lined). v.collected.title) c.self.view_is ∙ c.requires.title))

pub returns-then-count-near-clause-within : goal.returns-then-count-near-clause-within
returns-then-count-near-clause-within c = λ some. line_cells-le c.self.inside.barred c.ends_sentence-self-inside.result c.if-self-eq0.self c.self.inside.turn (invariant_of-self-then-count-near c)

pub returns-then-count-near-clause-stops : goal.returns-then-count-near-clause-stops
returns-then-count-near-clause-stops c = grind (arith, common_steps)

pub returns-then-count-near-clause-longest : goal.returns-then-count-near-clause-longest
returns-then-count-near-clause-longest c = grind (arith, common_steps)

pub close-requires-clause-within : goal.close-requires-clause-within
close-requires-clause-within c =
    let near = take c.min.result c.args.bytes.now in
    let count = c.push_plain-count.result in
    let run = map (run_cell c.args.look) (take count near) in
    let long = length-take-le count near c.push_plain-count.ensures.prefix in
    rw c.push_plain-count.ensures.cells (omega (arith, length-append c.self.inside.row.last run, length-map (take count near) (run_cell c.args.look)))

pub returns-clause-ends : goal.returns-clause-ends
returns-clause-ends c = grind (arith, common_steps)

pub returns-clause-within : goal.returns-clause-within
returns-clause-within c = λ some. line_cells-le false c.ends_sentence-self-inside.result c.if-self-eq0.self c.self.inside.turn (invariant_of-self-2 c)
