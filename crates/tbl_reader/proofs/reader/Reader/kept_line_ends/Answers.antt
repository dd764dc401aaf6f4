use Rattle.std.proofs.Common.{◌≡◌, List, sym, ◌∙◌, ap, subst, append-nil, arith}
use Rattle.tbl_reader.specs.Pages.{Page}
use Rattle.tbl_reader.specs.Reading.{line_ended_in}
use Rattle.tbl_reader.specs.Telling.{Piece, Tells}
use Rattle.tbl_reader.proofs.Steady.{fitting_ended}
use Rattle.tbl_reader.proofs.reader.Reader.kept_line_ends.Goals as goal

pub overflow_add-self : goal.overflow_add-self
overflow_add-self g c =
    let p = c.args.self.now in
    let stays = (fitting_ended p c.requires.fits c.requires.kept).same in
    let here : c.self.inside.state.line ≡ (line_ended_in p.state.mode p).page.state.line = ap (λ (x : Page). x.state.line) (c.self.view_is ∙ c.line_ends.ensures.page) in
    omega (arith, stays, here)

pub returns-clause-emitted : goal.returns-clause-emitted
returns-clause-emitted g c =
    let p = c.args.self.now in
    subst (λ (ps : List Piece). Tells g.S.Setter.shows g.S.Setter.hears ps c.args.setter.now c.line_ends.new.setter) (sym (append-nil (line_ended_in p.state.mode p).pieces))
    c.line_ends.ensures.emitted
