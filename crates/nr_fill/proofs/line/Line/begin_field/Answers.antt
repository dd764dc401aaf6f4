use Rattle.std.proofs.Common.{◌≡◌, length, ap, ◌∙◌, arith}
use Rattle.nr_fill.specs.Laid.{Laid}
use Rattle.nr_fill.proofs.Lines.{is_line_untitled}
use Rattle.nr_fill.proofs.Pendings.{is_line_pending}
use Rattle.nr_fill.specs.declared.stops.Pending.TheVariants.{ForStop}
use Rattle.nr_fill.proofs.line.Line.begin_field.Goals as goal

pub invariant_of-self-2 : goal.invariant_of-self-2
invariant_of-self-2 c =
    let h = rw c.in-Some.is at (is_line_untitled c.self.invariant) in
    let len : c.last_len.result ≡ length c.self.inside.row.last = c.last_len.ensures ∙ ap (λ (l : Laid). length l.last) c.clear_title.ensures in
    rw c.clear_title.ensures (is_line_pending (ForStop (record { before = c.last_len.result; width = c.args.width; kind = c.args.kind; fill = c.args.fill })) 0 h (omega arith))
