use Rattle.std.proofs.Common.{rules, length, replicate, ap, sym, subst, arith}
use Rattle.nr_fill.specs.Line.{Lined}
use Rattle.nr_fill.proofs.Lines.{is_line_untitled}
use Rattle.nr_vectors.specs.Cell.{blank}
use Rattle.nr_fill.specs.Title.{title_or_empty, title_row, titled_row}
use Rattle.nr_fill.specs.Titling.{title_of}
use Rattle.nr_fill.proofs.Lines.{title_cells-title_of, parts_within}
use Rattle.nr_fill.proofs.line.Line.set_title.Goals as goal

pub invariant_of-self : goal.invariant_of-self
invariant_of-self g c = rw c.clear_title.ensures (is_line_untitled c.self.invariant)

pub set_parts-requires : goal.set_parts-requires
set_parts-requires g c =
    let s = c.self.inside in
    let h = c.self.invariant in
    let all = title_cells-title_of s.title s.row.title h.title_is h.no_title in
    let within = parts_within (title_of s.title s.row.title) in
    let left = ap length (rw c.title.ensures at c.of-parts.ensures.left) in
    let centre = ap length (rw c.title.ensures at c.of-parts.ensures.centre) in
    let right = ap length (rw c.title.ensures at c.of-parts.ensures.right) in
    record {
      line = search rules;
      left = omega (arith, h.within, h.is_small);
      centre = omega (arith, h.within, h.is_small);
      right = omega (arith, h.within, h.is_small);
    }

pub returns-clause-out : goal.returns-clause-out
returns-clause-out g c =
    let s = c.self.inside in
    let t = title_or_empty (title_of s.title s.row.title) in
    let R = replicate c.args.offset blank in
    let line = title_row c.args.length t in
    let set_is = c.set_parts.ensures t (sym (rw c.title.ensures at c.of-parts.ensures.left)) (sym (rw c.title.ensures at c.of-parts.ensures.centre)) (sym (rw c.title.ensures at c.of-parts.ensures.right)) in
    let added = g.met.S.CellSink.adds_both c.args.out.now c.blanks.new.self c.set_parts.new.out R line c.blanks.ensures set_is in
    subst (λ (v : Lined). g.S.CellSink.Adds c.args.out.now (titled_row c.args.offset c.args.length v.collected.title) c.set_parts.new.out) c.self.view_is added
