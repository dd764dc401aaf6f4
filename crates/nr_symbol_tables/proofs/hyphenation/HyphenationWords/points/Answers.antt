use Rattle.std.proofs.Common.{◌-◌, ◌<◌, List, length, map, get_or, ap, sym, ◌∙◌, arith}
use Rattle.nr_vectors.specs.Items.{Items}
use Rattle.nr_symbol_tables.specs.Word.{Word, bytes_of, points_of, stem}
use Rattle.nr_symbol_tables.specs.Given.{word_in}
use Rattle.nr_symbol_tables.specs.Hyphenation.{words_in, IsLatestGiven}
use Rattle.nr_symbol_tables.specs.declared.hyphenation.Linked.{Linked}
use Rattle.nr_symbol_tables.specs.declared.word.HyphenationWord.{HyphenationWord}
use Rattle.nr_symbol_tables.proofs.Chaining.{points_none, points_found, word_is, length-words_in}
use Rattle.nr_symbol_tables.proofs.hyphenation.HyphenationWords.points.Goals as goal

pub returns-then-at-eq0 : goal.returns-then-at-eq0
returns-then-at-eq0 c =
    let row = c.self.inside.row.items in
    let bytes = bytes_of c.args.word.now in
    let at = c.latest_given-at.result in
    let given : IsLatestGiven (stem bytes) (words_in row) at = rw (c.stem.ensures, c.as_slice-row.ensures.value) at c.latest_given-at.ensures in
    points_none bytes row at given c.if-at-eq0.true ∙ ap (λ (v : Items HyphenationWord). points_of bytes (map word_in v.items)) c.self.view_is

pub returns : goal.returns
returns c =
    let row = c.self.inside.row.items in
    let bytes = bytes_of c.args.word.now in
    let at = c.latest_given-at.result in
    let l = c.index-row-at.result in
    let given : IsLatestGiven (stem bytes) (words_in row) at = rw (c.stem.ensures, c.as_slice-row.ensures.value) at c.latest_given-at.ensures in
    let none = c.if-at-eq0.false in
    let some : 0 < at = omega arith in
    let long = length-words_in row in
    let within = given.within in
    let low : at - 1 < length row = omega arith in
    c.points.ensures.points ∙ ap (λ (ls : List Linked). (word_in (get_or ls (at - 1) l).word).points) c.as_slice-row.ensures.value
    ∙ sym (ap (λ (w : Word). w.points) (word_is row (at - 1) l low)) ∙ points_found bytes row at given some
    ∙ ap (λ (v : Items HyphenationWord). points_of bytes (map word_in v.items)) c.self.view_is
