use Rattle.std.proofs.Common.{◌≡◌, Result, Ok, Err, refl, rules}
use Rattle.nr_command_options.specs.Job.{asked_of, complaint_of}
use Rattle.nr_command_options.specs.Arguments.{Asked, Complaint}
use Rattle.nr_command.proofs.program.run_words.Goals as goal

-- there is no other answer than the one that was read
no_job : (complaint : Complaint) (asked : Asked) (x : Result Asked Complaint) → x ≡ Err complaint → x ≡ Ok asked → ⊥
no_job complaint asked x is other = cc

same : (complaint other : Complaint) (x : Result Asked Complaint) → x ≡ Err complaint → x ≡ Err other → complaint ≡ other
same complaint other x is too = cc

pub returns-in-Ok-clause-bad_word : goal.returns-in-Ok-clause-bad_word
returns-in-Ok-clause-bad_word g c = λ complaint bad. absurd (no_job complaint (asked_of c.in-Ok.job) (Err complaint) refl (c.in-Ok.ensures.only (Err complaint) bad))

pub returns-in-Ok-clause-ran : goal.returns-in-Ok-clause-ran
returns-in-Ok-clause-ran g c = λ good. (c.in-Ok.job, c.in-Ok.ensures.answer, c.run_job.ensures.ran)

pub returns-in-Err-clause-bad_word : goal.returns-in-Err-clause-bad_word
returns-in-Err-clause-bad_word g c = λ complaint bad.
    let is : complaint ≡ complaint_of c.in-Err.usage = same complaint (complaint_of c.in-Err.usage) (Err complaint) refl (c.in-Err.ensures.only (Err complaint) bad) in
    rw is (c.refuse_word.ensures.status, c.refuse_word.ensures.reported)

pub returns-in-Err-clause-unopened : goal.returns-in-Err-clause-unopened
returns-in-Err-clause-unopened g c = search rules
