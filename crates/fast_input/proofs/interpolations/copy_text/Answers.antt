use Rattle.std.proofs.Common.{◌≡◌, ◌++◌, length, take, drop, ap, sym, ◌∙◌, subst}
use Rattle.std.proofs.Math.Seq.{take-append_seam}
use Rattle.nr_store.specs.Windows.{left_times}
use Rattle.fast_input.specs.Interpolations.{MaySplice}
use Rattle.fast_input.proofs.TextGathered.{register_may}
use Rattle.fast_input.proofs.interpolations.copy_text.Goals as goal

pub returns-clause-may : goal.returns-clause-may
returns-clause-may g c = λ n few.
    let bytes = c.args.text.now in
    let v = c.args.store.now in
    let r = c.args.reader.now in
    let rest = drop (length bytes) c.args.chunk.now in
    let yes = c.if-not-may_splice.false in
    let may = c.may_splice.ensures in
    let copied : take (length bytes) (c.copy_from_slice.new.self ++ rest) ≡ bytes = ap (λ xs. take (length bytes) (xs ++ rest)) c.copy_from_slice.ensures.after ∙ take-append_seam bytes rest in
    subst (λ bs. MaySplice bs (left_times n v) r) (sym copied) (register_may n bytes v r few (may.charge yes) (may.depth yes) (may.burst yes) c.requires.pending_act c.requires.text)
