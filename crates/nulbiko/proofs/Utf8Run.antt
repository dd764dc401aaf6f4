-- What a run of utf8 came to, said of what its caller knows.
use Rattle.std.proofs.Common.{◌≡◌, ℕ, List, take, Bool, false, Option, Some, Ok, refl, ap, ◌∙◌, subst, arith}
use Rattle.nr_units.specs.Failures.{next_count}
use Rattle.nr_units.specs.Source.{Supply}
use Rattle.nr_units.specs.declared.source.Fault.{Fault}
use Rattle.utf8_characters.specs.declared.table.FixedTable.{FixedTable}
use Rattle.utf8_converter.specs.Choosing.{Chooses, IsBest, looked_at}
use Rattle.document_stages.specs.Running.{TellsReads, is_read_fault}
use Rattle.utf8_converter.specs.Running.{Ran}
use Rattle.document_stages.specs.declared.running.RunEnd.{RunEnd}
use Rattle.document_stages.specs.declared.running.RunEnd.TheVariants.{Done, ReadFault, TooLong, WriteFault}
use Rattle.nulbiko.specs.Tables.{number_of}
use Rattle.nulbiko.specs.Reported.{whole_text}
use Rattle.nulbiko.specs.Utf8.{ChoosesNumber}

-- of the same bytes before and after
pub carried : (t : FixedTable) (e : Bool) (q q' left : Option Supply) (old old' new new' : Option (List ℕ)) (strays : ℕ) (o : RunEnd)
    → Ran t e q left old new strays o → q ≡ q' → old ≡ old' → new ≡ new' → Ran t e q' left old' new' strays o
carried t e q q' left old old' new new' strays o ran same before after =
    subst (λ z. Ran t e q' left old' z strays o) after
    (subst (λ y. Ran t e q' left y new strays o) before
    (subst (λ x. Ran t e x left old new strays o) same ran))

-- where no call of the source failed, none is reported
pub unread : (o : RunEnd) → TellsReads o 0 0 → is_read_fault o ≡ false
unfolding next_count
unread Done e = refl
unread (ReadFault at) e = absurd (omega (arith, e))
unread TooLong e = refl
unread WriteFault e = refl

-- no call of a slice fails
pub never : 0 ≡ next_count 0 → ⊥
unfolding next_count
never e = omega (arith, e)

-- the number of the table that was chosen
pub numbered : (q : Option Supply) (text : List ℕ) (t : FixedTable) (n : ℕ) → Chooses {E = Fault} q (Ok t) → q ≡ Some (whole_text text) → n ≡ number_of t → ChoosesNumber text n
numbered q text t n h same is =
    let P : Option Supply → Type 0 = λ x. Chooses {E = Fault} x (Ok t) in
    let g = subst P same h in
    let Q : FixedTable → Type 0 = λ x. IsBest (take looked_at text) x in
    record { is = is ∙ ap number_of g.0; best = subst Q g.0 g.1 }
