-- What a run of preconv came to, said of what its caller knows.
use Rattle.std.proofs.Common.{◌≡◌, ℕ, List, false, Option, refl, subst, arith}
use Rattle.nr_units.specs.Failures.{next_count}
use Rattle.nr_units.specs.Source.{Supply}
use Rattle.preconv_characters.specs.declared.target.Target.{Target}
use Rattle.document_stages.specs.Running.{TellsReads, is_read_fault}
use Rattle.preconv_converter.specs.Running.{Ran}
use Rattle.document_stages.specs.declared.running.RunEnd.{RunEnd}
use Rattle.document_stages.specs.declared.running.RunEnd.TheVariants.{Done, ReadFault, TooLong, WriteFault}

-- of the same bytes before and after
pub carried : (e e' : Target) (q q' left : Option Supply) (old old' new new' : Option (List ℕ)) (steps : ℕ) (o : RunEnd)
    → Ran e q left old new steps o → e ≡ e' → q ≡ q' → old ≡ old' → new ≡ new' → Ran e' q' left old' new' steps o
carried e e' q q' left old old' new new' steps o ran target same before after =
    subst (λ z. Ran e' q' left old' z steps o) after
    (subst (λ y. Ran e' q' left y new steps o) before
    (subst (λ x. Ran e' x left old new steps o) same
    (subst (λ w. Ran w q left old new steps o) target ran)))

-- where no call of the source failed, none is reported
pub unread : (o : RunEnd) → TellsReads o 0 0 → is_read_fault o ≡ false
unfolding next_count
unread Done e = refl
unread (ReadFault at) e = absurd (omega (arith, e))
unread TooLong e = refl
unread WriteFault e = refl
