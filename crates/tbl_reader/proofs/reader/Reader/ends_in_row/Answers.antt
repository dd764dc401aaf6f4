use Rattle.std.proofs.Common.{ℕ, [], ◌∷◌, true, ap, subst}
use Rattle.tbl_reader.specs.declared.complaint.Kind.TheVariants.{OpenTable}
use Rattle.tbl_reader.specs.declared.telling.Tell.TheVariants as tells
use Rattle.tbl_reader.specs.Ending.{wrong_at_end}
use Rattle.tbl_reader.specs.Pages.{Page}
use Rattle.tbl_reader.specs.RowLines.{last_field}
use Rattle.tbl_reader.specs.Telling.{piece}
use Rattle.tbl_reader.proofs.Hearing.{tells_append}
use Rattle.tbl_reader.proofs.reader.Reader.ends_in_row.Goals as goal

pub returns-clause-emitted : goal.returns-clause-emitted
returns-clause-emitted g c =
    let p = c.args.self.now in
    tells_append g.S.Setter.shows g.S.Setter.hears (wrong_at_end (OpenTable p.state.begun) true p.state ∷ (last_field p).pieces) (piece tells.Row [] ∷ piece tells.TableEnd [] ∷ [])
    c.args.setter.now c.tell_last_field.new.setter c.tell-2.new.self (λ s h. c.tell_last_field.ensures.emitted _ (subst
    (λ (line : ℕ). g.S.Setter.shows c.complains_at_end.new.setter (g.S.Setter.hears (wrong_at_end (OpenTable line) true p.state) s))
    (ap (λ (q : Page). q.state.begun) c.self.view_is) (c.complains_at_end.ensures s h)))
    (λ s h. c.tell-2.ensures _ (c.tell.ensures s h))
