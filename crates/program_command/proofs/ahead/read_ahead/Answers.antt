use Rattle.std.proofs.Common.{rules, arith, ◌≡◌, ℕ, List, ◌∷◌, [], append-nil, sym, subst}
use Rattle.std.proofs.lemmas.Grind.{common_steps}
use Rattle.document_stages.specs.Joined.{joined}
use Rattle.document_stages.specs.Pulling.{Stays}
use Rattle.document_printing.proofs.Prefixes.{more-came}
use Rattle.program_command.proofs.Bytewise.{Stays-byte, Stays-end, Stays-fault, Stays-nothing, cut-fault, cut-long, whole}
use Rattle.program_command.proofs.ahead.read_ahead.Goals as goal

pub loop-text-init : goal.loop-text-init
loop-text-init g c =
    let none : c.new-bytes.result.items ≡ [] = search rules in
    let known = g.S.Source.supply c.args.text.now in
    subst (λ (bs : List ℕ). Stays known (joined bs known)) (sym none) (Stays-nothing known)

pub loop-text-preserved : goal.loop-text-preserved
loop-text-preserved g c =
    more-came _ _ _ _ (c.in-Ok-Some.byte ∷ []) _ c.loop-text.invariant
    (Stays-byte _ _ c.in-Ok-Some.byte (rw c.in-Ok-Some.field-0-is at c.in-Ok-Some.ensures.gives)) c.in_ok-push-in-Ok-Some.ensures.items

pub returns-in-Ok-None-clause-came : goal.returns-in-Ok-None-clause-came
returns-in-Ok-None-clause-came g c =
    more-came _ _ _ _ [] _ c.loop-text.invariant (Stays-end _ _ (rw c.in-Ok-None.field-0-is at c.in-Ok-None.ensures.gives)) (sym (append-nil _))

pub returns-in-Ok-None-clause-whole : goal.returns-in-Ok-None-clause-whole
returns-in-Ok-None-clause-whole g c = λ all q known.
    whole _ _ _ _ q c.loop-text.invariant (rw c.in-Ok-None.field-0-is at c.in-Ok-None.ensures.gives) known

pub returns-in-Err-clause-came : goal.returns-in-Err-clause-came
returns-in-Err-clause-came g c =
    more-came _ _ _ _ [] _ c.loop-text.invariant (Stays-fault _ _ _ c.in-Err.ensures.gives) (sym (append-nil _))

pub returns-in-Err-clause-cut : goal.returns-in-Err-clause-cut
returns-in-Err-clause-cut g c = λ part q known. cut-fault _ _ _ _ q _ c.loop-text.invariant c.in-Err.ensures.gives known

pub returns-clause-cut : goal.returns-clause-cut
returns-clause-cut g c = λ part q known. cut-long _ _ _ q c.loop-text.invariant known (grind (arith, common_steps))
