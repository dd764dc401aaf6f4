use Rattle.std.proofs.Common.{◌≡◌, ◌-◌, [], length, take, ap, sym, ◌∙◌, refl, arith}
use Rattle.std.proofs.lemmas.Bool.{le-leb}
use Rattle.std.proofs.lemmas.List.{length-take-le}
use Rattle.std.proofs.Common.{get_or}
use Rattle.std.proofs.lemmas.List.{get_or-take}
use Rattle.nr_fill.specs.Cutting.{join_width, prefix_width}
use Rattle.nr_fill.specs.Piece.{Piece}
use Rattle.nr_fill.specs.declared.piece.Join.TheVariants.{Soft}
use Rattle.nr_fill.proofs.PiecesOf.{width-first, width-le, prefix_width-all}
use Rattle.nr_fill.proofs.Lines.{first_is, has_pieces}
use Rattle.nr_fill.proofs.line.Line.fits.Goals as goal

pub returns-then-self-length : goal.returns-then-self-length
returns-then-self-length c =
    let s = c.self.inside in
    let h = c.self.invariant in
    let ps = take s.pieces s.row.pieces in
    let prefix = prefix_width-all ps in
    let narrow = width-le ps in
    rw (← c.self.view_is) (sym (le-leb _ _ (omega (arith, h.wide_is, c.if-self-length.true))))

pub first_join-requires : goal.first_join-requires
first_join-requires c = omega (arith, has_pieces c.self.invariant c.if-self-length.false, c.self.invariant.pieces_within)

pub returns : goal.returns
returns c =
    let s = c.self.inside in
    let h = c.self.invariant in
    let d : Piece = record { join = Soft; cells = [] } in
    let ps = take s.pieces s.row.pieces in
    let long = length-take-le s.pieces s.row.pieces h.pieces_within in
    let some = has_pieces h c.if-self-length.false in
    let all = width-first ps d (omega arith) in
    let first = first_is s.row.pieces c.first_join.result d (omega (arith, h.pieces_within)) c.first_join.ensures in
    let join : c.from-first.result ≡ join_width (get_or ps 0 d).join = c.from-first.ensures ∙ c.width.ensures ∙ ap join_width first ∙ ap (λ (p : Piece). join_width p.join) (sym (get_or-take s.pieces s.row.pieces 0 d some)) in
    let prefix = prefix_width-all ps in
    let is : s.wide - c.from-first.result ≡ prefix_width (length ps) ps = omega (arith, h.wide_is) in
    rw (← c.self.view_is, is) refl
