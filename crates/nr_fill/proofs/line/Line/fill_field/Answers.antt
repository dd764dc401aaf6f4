use Rattle.std.proofs.Common.{◌≡◌, ◌+◌, ◌-◌, ◌++◌, length, take, drop, replicate, ap, sym, ◌∙◌, refl, arith, length-append}
use Rattle.std.proofs.lemmas.List.{length-replicate, take-append-drop}
use Rattle.nr_fill.specs.declared.line.WordState.{WordState}
use Rattle.nr_fill.specs.declared.stops.Pending.TheVariants.{Nothing}
use Rattle.nr_fill.specs.Line.{Lined}
use Rattle.nr_fill.specs.PieceRow.{word_of}
use Rattle.nr_fill.specs.Piece.{text_cells}
use Rattle.nr_fill.specs.Tabs.{field_fill, fill_count}
use Rattle.nr_fill.proofs.Lines.{the_word, is_line_untitled, is_line_last, text_cells-collected_of}
use Rattle.nr_fill.proofs.Pendings.{are_small}
use Rattle.nr_fill.proofs.line.Line.fill_field.Goals as goal

pub invariant_of-self-in_default-pending : goal.invariant_of-self-in_default-pending
invariant_of-self-in_default-pending c = let h = rw c.in-Some.is at (is_line_untitled c.self.invariant) in rw c.clear_title.ensures h

pub insert_copies-requires : goal.insert_copies-requires
insert_copies-requires c =
    let s = c.self.inside in
    let small = are_small (rw c.in-Some.is at (is_line_untitled c.self.invariant)) in
    let needed = rw c.in-ForStop.is at small.needed in
    let text = text_cells-collected_of s.barred s.sentence s.margins s.turn c.self.invariant in
    let own = ap (λ (v : Lined). v.limit) c.self.view_is in
    let all = ap (λ (v : Lined). text_cells v.collected) c.self.view_is in
    rw c.clear_title.ensures record {
      within = omega arith;
      room = omega (arith, c.requires.room, small.room);
      no_title = refl;
    }

pub invariant_of-self-2 : goal.invariant_of-self-2
invariant_of-self-2 c =
    let s = c.self.inside in
    let h = rw c.in-Some.is at (is_line_untitled c.self.invariant) in
    let iw = the_word h in
    let w = c.in-Some.word in
    let field = c.in-ForStop.field in
    let n = c.args.n in
    let needed = rw c.in-ForStop.is at iw.needed in
    let text = text_cells-collected_of s.barred s.sentence s.margins s.turn c.self.invariant in
    let own = ap (λ (v : Lined). v.limit) c.self.view_is in
    let all = ap (λ (v : Lined). text_cells v.collected) c.self.view_is in
    let last = s.row.last in
    let xs = take field.before last ++ replicate n field.fill ++ drop field.before last in
    let longer : length xs ≡ length last + n =
    omega (
      arith,
      length-append (take field.before last ++ replicate n field.fill) (drop field.before last),
      length-append (take field.before last) (replicate n field.fill),
      length-replicate n field.fill,
      ap length (take-append-drop field.before last),
      length-append (take field.before last) (drop field.before last),
    ) in
    let v : WordState = record w { pending = Nothing } in
    rw (c.insert_copies.ensures, c.clear_title.ensures) (is_line_last xs v h (record {
      parted_is = iw.parted_is;
      wide_is = iw.wide_is;
      pieces_have_cells = iw.pieces_have_cells;
      join_within = iw.join_within;
      needed = omega arith;
    }) (omega (arith, c.requires.room)))

pub returns : goal.returns
returns c =
    let s = c.self.inside in
    let field = c.in-ForStop.field in
    let asked : field_fill (word_of s.word (drop s.pieces s.row.pieces) s.row.last) ≡ fill_count field (length s.row.last - field.before) = rw (c.in-Some.is, c.in-ForStop.is) refl in
    let count : c.args.n ≡ fill_count field (length s.row.last - field.before) = c.requires.count ∙ sym (ap (λ (v : Lined). field_fill v.collected.word) c.self.view_is) ∙ asked in
    rw (c.insert_copies.ensures, c.clear_title.ensures, count, ← c.self.view_is, c.in-Some.is, c.in-ForStop.is) refl
