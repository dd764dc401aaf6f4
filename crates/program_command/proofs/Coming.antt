-- What the program comes to, part by part.
use Rattle.std.proofs.Common.{◌≡◌, ℕ, List, [], append-nil, Bool, Option, None, Some, Result, Ok, ◌⊎◌, inl, inr, refl, sym, subst}
use Rattle.nr_command_options.specs.Inputs.{Reading}
use Rattle.std.specs.Option.{option_map}
use Rattle.nr_units.specs.Source.{Supply}
use Rattle.document_sources.specs.Joining.{Texts}
use Rattle.preconv_coding.specs.declared.names.Coding.{Coding}
use Rattle.nr_command.specs.Opening.{AreOpen, Opening, Asks}
use Rattle.nr_command.specs.Program.{IsRefused}
use Rattle.nr_command.specs.declared.opening.NotRun.TheVariants as not_run
use Rattle.nr_command_options.specs.declared.inputs.Input.{Input}
use Rattle.program_options.specs.Job.{Asked}
use Rattle.program_options.specs.Reading.{Complaint, is_bad}
use Rattle.program_options.specs.declared.usage.Usage.{Usage}
use Rattle.program_plan.specs.Texts.{readings_of}
use Rattle.program_command.specs.Program.{Comes, ComesTo, ComesToPages, EndsUnrun, IsNotRun, IsOfRun, IsUnopened, Opens, Passes, Warned}
use Rattle.program_command.specs.Running.{IsNamed}
use Rattle.program_command.specs.Warnings.{Heard}
use Rattle.program_command.specs.declared.surroundings.Surroundings.{Surroundings}
use Rattle.program_command.proofs.Kept.{Keeps-refl}
use Rattle.program_command.specs.declared.endings.Ending.{Ending}
use Rattle.program_command.specs.declared.endings.Ending.TheVariants.{BadWord, CannotOpen, Done, Limit, NoMacros, NeedsOthers, LeftOut, NoFolder, NoRoom, OutOfMemory, ReadFault, TooLong, Unshown, WriteFault}

-- nothing was asked for
pub Asks-same : {A : Type 0} (xs : Option (List A)) → Asks xs xs []
Asks-same None = tt
Asks-same (Some xs) = sym (append-nil xs)

-- a run asked for all texts, or for none
pub Opens-of_run : (may_come : Reading → Opening → Type 0) (asked asked' : Option (List Reading)) (readings : List Reading) (ending : Ending)
    → IsOfRun ending → (Asks asked asked' [] ⊎ Asks asked asked' readings) → Opens may_come asked asked' readings ending
Opens-of_run may_come asked asked' readings (CannotOpen input) run opened = absurd run
Opens-of_run may_come asked asked' readings other run opened = opened

-- all texts were opened
pub Opens-run : (may_come : Reading → Opening → Type 0) (asked asked' : Option (List Reading)) (readings others : List Reading) (ending : Ending)
    → readings ≡ others → IsOfRun ending → Asks asked asked' readings → Opens may_come asked asked' others ending
Opens-run may_come asked asked' readings others ending same run opened =
    Opens-of_run may_come asked asked' others ending run (inr (subst (λ (rs : List Reading). Asks asked asked' rs) same opened))

-- none was
pub Opens-none : (may_come : Reading → Opening → Type 0) (asked : Option (List Reading)) (readings : List Reading) (ending : Ending)
    → IsUnopened ending → Opens may_come asked asked readings ending
Opens-none may_come asked readings (BadWord usage) unopened = inl (Asks-same asked)
Opens-none may_come asked readings (NoMacros name) unopened = inl (Asks-same asked)
Opens-none may_come asked readings (NoFolder path) unopened = inl (Asks-same asked)
Opens-none may_come asked readings Done unopened = absurd unopened
Opens-none may_come asked readings (Unshown name names) unopened = absurd unopened
Opens-none may_come asked readings (Limit place which) unopened = absurd unopened
Opens-none may_come asked readings (NoRoom place) unopened = absurd unopened
Opens-none may_come asked readings TooLong unopened = absurd unopened
Opens-none may_come asked readings (CannotOpen input) unopened = absurd unopened
Opens-none may_come asked readings (ReadFault place) unopened = absurd unopened
Opens-none may_come asked readings WriteFault unopened = absurd unopened
Opens-none may_come asked readings OutOfMemory unopened = absurd unopened
Opens-none may_come asked readings NeedsOthers unopened = absurd unopened
Opens-none may_come asked readings (LeftOut place why) unopened = absurd unopened

pub Opens-memory : (may_come : Reading → Opening → Type 0) (asked asked' : Option (List Reading)) (readings others : List Reading)
    → readings ≡ others → IsRefused may_come asked asked' readings not_run.OutOfMemory → Opens may_come asked asked' others OutOfMemory
Opens-memory may_come asked asked' readings others same refused =
    subst (λ (rs : List Reading). IsRefused may_come asked asked' rs not_run.OutOfMemory) same refused

-- the same texts
pub Opens-refused : (may_come : Reading → Opening → Type 0) (asked asked' : Option (List Reading)) (readings others : List Reading) (input : Input)
    → readings ≡ others → IsRefused may_come asked asked' readings (not_run.CannotOpen input) → Opens may_come asked asked' others (CannotOpen input)
Opens-refused may_come asked asked' readings others input same refused =
    subst (λ (rs : List Reading). IsRefused may_come asked asked' rs (not_run.CannotOpen input)) same refused

-- why a job isn't run
IsNotRun-unopened : (ending : Ending) → IsUnopened ending → IsNotRun ending
IsNotRun-unopened (BadWord usage) unopened = tt
IsNotRun-unopened (NoMacros name) unopened = tt
IsNotRun-unopened (NoFolder path) unopened = tt
IsNotRun-unopened Done unopened = absurd unopened
IsNotRun-unopened (Unshown name names) unopened = absurd unopened
IsNotRun-unopened (Limit place which) unopened = absurd unopened
IsNotRun-unopened (NoRoom place) unopened = absurd unopened
IsNotRun-unopened TooLong unopened = absurd unopened
IsNotRun-unopened (CannotOpen input) unopened = absurd unopened
IsNotRun-unopened (ReadFault place) unopened = absurd unopened
IsNotRun-unopened WriteFault unopened = absurd unopened
IsNotRun-unopened OutOfMemory unopened = absurd unopened
IsNotRun-unopened NeedsOthers unopened = absurd unopened
IsNotRun-unopened (LeftOut place why) unopened = absurd unopened

-- nothing goes out then
pub ComesTo-unopened : (may_come : Reading → Opening → Type 0) (texts_in : List ℕ → Option Texts) (job : Asked) (around : Surroundings) (ending : Ending) (a : Option (List ℕ))
    (before after : Heard) → IsUnopened ending → ComesTo may_come texts_in job around ending a a before after
ComesTo-unopened may_come texts_in job around ending a before after unopened = inl (record { unrun = IsNotRun-unopened ending unopened; kept = Keeps-refl a })

pub ComesTo-unrun : (may_come : Reading → Opening → Type 0) (texts_in : List ℕ → Option Texts) (job : Asked) (around : Surroundings) (ending : Ending) (a : Option (List ℕ))
    (before after : Heard) → IsNotRun ending → ComesTo may_come texts_in job around ending a a before after
ComesTo-unrun may_come texts_in job around ending a before after unrun = inl (record { unrun = unrun; kept = Keeps-refl a })

pub AreOpen-same : (may_come : Reading → Opening → Type 0) (readings : List Reading) (given others : List (Option Supply)) → given ≡ others
    → AreOpen may_come readings given → AreOpen may_come readings others
AreOpen-same may_come readings given others same opened = subst (λ (ss : List (Option Supply)). AreOpen may_come readings ss) same opened

-- or what its texts come to
pub ComesTo-run : (may_come : Reading → Opening → Type 0) (texts_in : List ℕ → Option Texts) (job : Asked) (around : Surroundings) (readings : List Reading) (given : List (Option Supply))
    (coding : Option Coding) (folder : Option (Option Texts)) (ending : Ending) (a b : Option (List ℕ)) (before after : Heard) → readings ≡ readings_of job → AreOpen may_come readings given
    → IsNamed job.coding coding → folder ≡ option_map texts_in job.within
    → (EndsUnrun ending a b ⊎ Warned job around coding folder given ending a b before after)
    → ComesTo may_come texts_in job around ending a b before after
ComesTo-run may_come texts_in job around readings given coding folder ending a b before after same opened named within (inl unrun) = inl unrun
ComesTo-run may_come texts_in job around readings given coding folder ending a b before after same opened named within (inr warned) = inr (record {
  given = given;
  opened = subst (λ (rs : List Reading). AreOpen may_come rs given) same opened;
  coding = coding;
  named = named;
  warned = subst (λ (f : Option (Option Texts)). Warned job around coding f given ending a b before after) within warned;
})

pub Comes-good : (answer : Result Asked Complaint) (job : Asked) (around : Surroundings) (may_come : Reading → Opening → Type 0) (texts_in : List ℕ → Option Texts) (asked asked' : Option (List Reading))
    (unopened unprinted : Type 0) (held held' : Option (List ℕ)) (passed_on : Bool) (before after : Heard) (ending : Ending) → Ok job ≡ answer
    → Opens may_come asked asked' (readings_of job) ending → ComesToPages may_come texts_in job around ending held held' before after
    → (unprinted ⊎ Passes ending passed_on) → Comes answer around may_come texts_in asked asked' unopened unprinted held held' passed_on before after ending
Comes-good answer job around may_come texts_in asked asked' unopened unprinted held held' passed_on before after ending is opens pages prints =
    subst (λ (a : Result Asked Complaint). Comes a around may_come texts_in asked asked' unopened unprinted held held' passed_on before after ending) is (opens, pages, prints)

pub Comes-bad : (answer : Result Asked Complaint) (usage : Usage) (around : Surroundings) (may_come : Reading → Opening → Type 0) (texts_in : List ℕ → Option Texts) (asked asked' : Option (List Reading))
    (unopened unprinted : Type 0) (held held' : Option (List ℕ)) (passed_on : Bool) (before after : Heard) → is_bad usage.case usage.word.now ≡ answer → unopened → unprinted
    → Comes answer around may_come texts_in asked asked' unopened unprinted held held' passed_on before after (BadWord usage)
Comes-bad answer usage around may_come texts_in asked asked' unopened unprinted held held' passed_on before after is same_opener same_output =
    subst (λ (a : Result Asked Complaint). Comes a around may_come texts_in asked asked' unopened unprinted held held' passed_on before after (BadWord usage)) is ((refl, refl), same_opener, same_output)
