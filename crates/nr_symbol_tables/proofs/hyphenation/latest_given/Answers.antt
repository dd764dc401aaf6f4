use Prim.Native.Char.{code}
use Rattle.std.proofs.Common.{◌≡◌, ℕ, ◌+◌, ◌-◌, ◌<◌, [], ◌∷◌, ◌++◌, length, take, get_or, ap, sym, ◌∙◌, arith}
use Rattle.std.proofs.lemmas.List.{get_or-map, length-map, length-take-le, take_all, take_more, take-map}
use Rattle.nr_vectors.specs.declared.cell.Cell.{Cell}
use Rattle.nr_vectors.specs.declared.cell.Look.TheVariants.{Plain}
use Rattle.nr_symbol_tables.specs.Word.{bytes_of}
use Rattle.nr_symbol_tables.specs.Hyphenation.{words_in}
use Rattle.nr_symbol_tables.proofs.Chaining.{latest_whole, latest_of_both}
use Rattle.nr_symbol_tables.proofs.hyphenation.latest_given.Goals.{then-len-eq1-via-then-len-eq1, then-len-eq1-via-else-len-eq1+then-cells-len-ne115}
use Rattle.nr_symbol_tables.proofs.hyphenation.latest_given.Goals as goal

-- no cell
abbrev nothing : Cell
nothing = record { byte = 0; look = Plain }

abbrev byte : Cell → ℕ
byte x = x.byte

pub returns-then-len-eq1 : goal.returns-then-len-eq1
returns-then-len-eq1 c =
    let cells = c.args.cells.now in
    let bytes = bytes_of cells in
    let ws = words_in c.args.row.now in
    let at = c.latest_with-whole.result in
    let long = length-map cells byte in
    let some = c.if-len-eq0.false in
    let more : 0 < length bytes = omega arith in
    elim c.then-len-eq1.branch [
      | then-len-eq1-via-then-len-eq1 w ↦ latest_whole bytes ws at more (λ two. (let one = w.if-len-eq1.true in absurd (two (omega arith)))) c.latest_with-whole.ensures
      | then-len-eq1-via-else-len-eq1+then-cells-len-ne115 w ↦
          latest_whole bytes ws at more
          (λ two ends. absurd (w.if-cells-len-ne115.true (sym (get_or-map byte cells (length cells - 1) nothing 0 (omega arith)) ∙ ap (λ n. get_or bytes (n - 1) 0) (sym long) ∙ ends)))
          c.latest_with-whole.ensures
    ]

pub returns : goal.returns
returns c =
    let cells = c.args.cells.now in
    let bytes = bytes_of cells in
    let ws = words_in c.args.row.now in
    let long = length-map cells byte in
    let n = length cells - 1 in
    let some = c.if-len-eq0.false in
    let two = c.if-len-eq1.false in
    let prefix = bytes_of (take n cells) in
    let prefix_long : length prefix ≡ n = length-map (take n cells) byte ∙ length-take-le n cells (omega arith) in
    let last : get_or bytes n 0 ≡ code "s" = get_or-map byte cells n nothing 0 (omega arith) ∙ c.if-cells-len-ne115.false in
    let is : bytes ≡ prefix ++ code "s" ∷ [] =
    sym (take_all (n + 1) bytes (omega arith)) ∙ take_more bytes n 0 (omega arith) ∙ ap (λ l. l ++ get_or bytes n 0 ∷ []) (take-map byte n cells) ∙ ap (λ b. prefix ++ b ∷ []) last in
    rw c.max.ensures (latest_of_both bytes prefix ws c.latest_with-whole.result c.latest_with.result is (omega arith) c.latest_with-whole.ensures c.latest_with.ensures)
