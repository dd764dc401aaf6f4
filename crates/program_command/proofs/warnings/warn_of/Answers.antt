use Rattle.std.proofs.Common.{rules, ◌≡◌, ◌∷◌, [], ◌++◌, drop, map, length, Option, refl, sym, subst, ap, ◌∙◌, append-nil, append_assoc, arith}
use Rattle.std.specs.Vec.Iter.{into_iter_items}
use Rattle.nr_units.specs.Source.{Supply}
use Rattle.document_stages.specs.Joined.{joined}
use Rattle.program_options.specs.Job.{asked_of}
use Rattle.program_command.specs.Warnings.{AreAhead, TellsTexts, heard}
use Rattle.program_command.proofs.Warning.{ahead-more, reported-more}
use Rattle.program_command.proofs.warnings.warn_of.Goals as goal

pub loop-text-preserved : goal.loop-text-preserved
loop-text-preserved g c =
    let at = c.loop-text in
    let text = c.in-Some.text in
    let supply = g.S.Source.supply in
    let steps : into_iter_items at.text-iterator ≡ text ∷ into_iter_items c.next.new.self = c.in-Some.ensures.steps.0 in
    record {
      parted = append_assoc at.yielded (text ∷ []) _ ∙ rw (← steps) at.invariant.parted;
      count =
          let was = at.invariant.count in
          let gone = c.in-Some.ensures.steps.1 in
          let short = ap length steps in
          omega arith;
      ahead = ahead-more supply (λ a. joined (drop a.taken a.first.items) (supply a.rest)) at.yielded text at.all.items _ c.in_ok-ahead.ahead c.in_ok-push.ensures.items
          at.invariant.ahead c.in_ok-ahead.ensures.stays;
      reported = reported-more supply (λ a. joined (drop a.taken a.first.items) (supply a.rest)) (asked_of c.args.job.now) c.args.coding at.yielded text at.all.items c.len.result _ _ _
          (c.len.ensures ∙ at.all.ok.0) at.invariant.ahead at.invariant.reported c.in_ok-ahead.ensures.reported;
      silent = λ none. c.in_ok-ahead.ensures.silent none ∙ at.invariant.silent none;
    }
