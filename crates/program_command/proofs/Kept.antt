-- What went out stays where only what was taken is passed on.
use Rattle.std.proofs.Common.{◌≡◌, ℕ, List, [], Bool, true, false, Option, None, Some, Result, Ok, Err, IfOk, IfErr, ◌⊎◌, inl, inr, refl, sym, subst}
use Rattle.std.specs.Io.KnownBytes.{Keeps}
use Rattle.std.proofs.KnownBytes.{Appends-kept}
use Rattle.nr_units.specs.Sink.{AppendsPrefix}
use Rattle.nr_units.specs.Source.{Supply}
use Rattle.document_printing.specs.Document.{Setting}
use Rattle.document_printing.specs.Showing.{IsCut, IsShown, Shows, document}
use Rattle.document_printing.specs.declared.setup.PageEnd.{PageEnd}
use Rattle.document_printing.specs.declared.setup.PageEnd.TheVariants.{Done, Limit, NoRoom, ReadFault, TooLong, WriteFault}
use Rattle.document_printing.specs.declared.setup.Report.{Report}
use Rattle.document_printing.specs.declared.showing.Spelling.{Spelling}
use Rattle.nr_machine.specs.declared.outcome.Outcome as machine
use Rattle.program_options.specs.Job.{Asked}
use Rattle.program_command.specs.Own.{needs_own}
use Rattle.program_command.specs.Printing.{Given, ShowsBy}
use Rattle.program_command.specs.Program.{IsOfRun}
use Rattle.program_command.specs.Running.{EndsBefore, EndsBy, IsDocument, IsReported, Runs, is_for_others}
use Rattle.program_command.specs.declared.endings.Ending.{Ending}
use Rattle.program_command.specs.declared.endings.Ending.TheVariants as endings
use Rattle.program_command.specs.declared.plan.Plan.{Plan}
use Rattle.program_command.specs.declared.surroundings.Surroundings.{Surroundings}

pub Keeps-refl : (a : Option (List ℕ)) → Keeps a a
Keeps-refl None = tt
Keeps-refl (Some xs) = refl

pub Keeps-trans : (a b c : Option (List ℕ)) → Keeps a b → Keeps b c → Keeps a c
Keeps-trans None b c p q = tt
Keeps-trans (Some x) None c p q = absurd p
Keeps-trans (Some x) (Some y) None p q = absurd q
Keeps-trans (Some x) (Some y) (Some z) p q = rw q p

-- a sink that is the same holds the same
pub Keeps-same : {S : Type 0} → (held : S → Option (List ℕ)) (a b : S) → b ≡ a → Keeps (held a) (held b)
Keeps-same {S} held a b same = subst (λ (s : S). Keeps (held a) (held s)) (sym same) (Keeps-refl (held a))

AppendsPrefix-kept : (a b c : Option (List ℕ)) (bs : List ℕ) → AppendsPrefix a b bs → Keeps b c → AppendsPrefix a c bs
AppendsPrefix-kept a b c bs (prefix, rest, is, grown) q = (prefix, rest, is, Appends-kept a b c prefix grown q)

IsShown-kept : (s : Setting) (spelling : Spelling) (source : Supply) (n : ℕ) (ended : machine.Outcome) (a b c : Option (List ℕ))
    → IsShown s spelling source n ended a b → Keeps b c → IsShown s spelling source n ended a c
IsShown-kept s spelling source n ended a b c shown q = record {
  ran = shown.ran;
  out = Appends-kept a b c (document s spelling source n) shown.out q;
}

IsCut-kept : (s : Setting) (spelling : Spelling) (source : Supply) (n : ℕ) (ended : machine.Outcome) (a b c : Option (List ℕ))
    → IsCut s spelling source n ended a b → Keeps b c → IsCut s spelling source n ended a c
IsCut-kept s spelling source n ended a b c cut q = record {
  ran = cut.ran;
  prefix = AppendsPrefix-kept a b c (document s spelling source n) cut.prefix q;
}

pub Shows-kept : (s : Setting) (spelling : Spelling) (source : Supply) (n : ℕ) (outcome : PageEnd) (a b c : Option (List ℕ))
    → Shows s spelling source n outcome a b → Keeps b c → Shows s spelling source n outcome a c
Shows-kept s spelling source n Done a b c shows q = IsShown-kept s spelling source n _ a b c shows q
Shows-kept s spelling source n (Limit which at) a b c shows q = IsShown-kept s spelling source n _ a b c shows q
Shows-kept s spelling source n NoRoom a b c (sets, shows) q = (sets, IsShown-kept s spelling source n _ a b c shows q)
Shows-kept s spelling source n ReadFault a b c shows q = IsCut-kept s spelling source n _ a b c shows q
Shows-kept s spelling source n TooLong a b c shows q = IsCut-kept s spelling source n _ a b c shows q
Shows-kept s spelling source n WriteFault a b c shows q = record {
  made = shows.made;
  few = shows.few;
  prefix = AppendsPrefix-kept a b c _ shows.prefix q;
}

ShowsBy-kept : (needs : Bool) (plan : Plan) (first : List ℕ) (given : Given) (page : Supply) (report : Report) (a b c : Option (List ℕ))
    → ShowsBy needs plan first given page report a b → Keeps b c → ShowsBy needs plan first given page report a c
ShowsBy-kept true plan first given page report a b c shows q = record {
  table = shows.table;
  made = shows.made;
  good = shows.good;
  shows = record { shows = Shows-kept _ _ _ report.moves report.outcome a b c shows.shows.shows q };
}
ShowsBy-kept false plan first given page report a b c shows q = record { shows = Shows-kept _ _ _ report.moves report.outcome a b c shows.shows q }

IsDocument-kept : (job : Asked) (around : Surroundings) (files : Option Supply) (page : Supply) (ending reported : Ending) (a b c : Option (List ℕ))
    → ((report : Report) (name unshown : List ℕ) → IsReported name unshown report ending → IsReported name unshown report reported)
    → IsDocument job around files page ending a b → Keeps b c → IsDocument job around files page reported a c
IsDocument-kept job around files page ending reported a b c tells document q = record {
  first = document.first;
  rest = document.rest;
  looked_at = document.looked_at;
  plan = document.plan;
  plan_is = document.plan_is;
  macros = document.macros;
  macros_are = document.macros_are;
  options = document.options;
  options_are = document.options_are;
  report = document.report;
  printed = ShowsBy-kept (needs_own document.plan document.first) document.plan document.first _ page document.report a b c document.printed q;
  reported = tells document.report _ _ document.reported;
}

-- ---- the output is flushed

EndsBefore-kept : (ending : Ending) (a b c : Option (List ℕ)) → EndsBefore ending a b → Keeps b c → EndsBefore ending a c
EndsBefore-kept ending a b c ends q = record { before = ends.before; kept = Keeps-trans a b c ends.kept q }

EndsBy-kept : (others : Bool) (job : Asked) (around : Surroundings) (files : Option Supply) (page : Supply) (ending : Ending) (a b c : Option (List ℕ))
    → EndsBy others job around files page ending a b → Keeps b c → EndsBy others job around files page ending a c
EndsBy-kept true job around files page ending a b c ends q = record { reported = ends.reported; kept = Keeps-trans a b c ends.kept q }
EndsBy-kept false job around files page ending a b c ends q = IsDocument-kept job around files page ending ending a b c (λ report name unshown reported. reported) ends q

ends-kept : (job : Asked) (around : Surroundings) (files : Option Supply) (first : List ℕ) (page : Supply) (ending : Ending) (a b c : Option (List ℕ))
    → (EndsBefore ending a b ⊎ EndsBy (is_for_others job first) job around files page ending a b) → Keeps b c
    → EndsBefore ending a c ⊎ EndsBy (is_for_others job first) job around files page ending a c
ends-kept job around files first page ending a b c (inl before) q = inl (EndsBefore-kept ending a b c before q)
ends-kept job around files first page ending a b c (inr ends) q = inr (EndsBy-kept (is_for_others job first) job around files page ending a b c ends q)

pub Runs-kept : (job : Asked) (around : Surroundings) (files supply : Option Supply) (ending : Ending) (a b c : Option (List ℕ))
    → Runs job around files supply ending a b → Keeps b c → Runs job around files supply ending a c
Runs-kept job around files supply ending a b c runs q = record {
  checks = λ only. Keeps-trans a b c (runs.checks only) q;
  prints = λ asks page known short. let gives = runs.prints asks page known short in record {
    first = gives.first;
    rest = gives.rest;
    looked_at = gives.looked_at;
    ends = ends-kept job around files gives.first page ending a b c gives.ends q;
  };
}

-- ---- or can't be: that is reported then

EndsBy-failed : (others : Bool) (job : Asked) (around : Surroundings) (files : Option Supply) (page : Supply) (ending : Ending) (a b c : Option (List ℕ))
    → EndsBy others job around files page ending a b → Keeps b c → EndsBefore endings.WriteFault a c ⊎ EndsBy others job around files page endings.WriteFault a c
EndsBy-failed true job around files page ending a b c ends q = inl (record { before = tt; kept = Keeps-trans a b c ends.kept q })
EndsBy-failed false job around files page ending a b c ends q =
    inr (IsDocument-kept job around files page ending endings.WriteFault a b c (λ report name unshown reported. tt) ends q)

ends-failed : (job : Asked) (around : Surroundings) (files : Option Supply) (first : List ℕ) (page : Supply) (ending : Ending) (a b c : Option (List ℕ))
    → (EndsBefore ending a b ⊎ EndsBy (is_for_others job first) job around files page ending a b) → Keeps b c
    → EndsBefore endings.WriteFault a c ⊎ EndsBy (is_for_others job first) job around files page endings.WriteFault a c
ends-failed job around files first page ending a b c (inl before) q = inl (record { before = tt; kept = Keeps-trans a b c before.kept q })
ends-failed job around files first page ending a b c (inr ends) q = EndsBy-failed (is_for_others job first) job around files page ending a b c ends q

pub Runs-failed : (job : Asked) (around : Surroundings) (files supply : Option Supply) (ending : Ending) (a b c : Option (List ℕ))
    → Runs job around files supply ending a b → Keeps b c → Runs job around files supply endings.WriteFault a c
Runs-failed job around files supply ending a b c runs q = record {
  checks = λ only. Keeps-trans a b c (runs.checks only) q;
  prints = λ asks page known short. let gives = runs.prints asks page known short in record {
    first = gives.first;
    rest = gives.rest;
    looked_at = gives.looked_at;
    ends = ends-failed job around files gives.first page ending a b c gives.ends q;
  };
}

-- ---- nothing went out

pub Runs-unprinted : (job : Asked) (around : Surroundings) (files supply : Option Supply) (ending : Ending) (a b : Option (List ℕ))
    → EndsBefore ending a b → Runs job around files supply ending a b
Runs-unprinted job around files supply ending a b ends = record {
  checks = λ only. ends.kept;
  prints = λ asks page known short. record { first = []; rest = page.bytes; looked_at = refl; ends = inl ends };
}

-- a run for which there was enough memory or not
pub settled-runs : {S E : Type 0} → (held : S → Option (List ℕ)) (job : Asked) (around : Surroundings) (files supply : Option Supply) (old new : S)
    (ran : Result Ending E) (ending : Ending) → IfOk ran (λ e. Runs job around files supply e (held old) (held new)) → IfErr ran (λ _. new ≡ old)
    → IfOk ran (λ e. ending ≡ e) → IfErr ran (λ _. ending ≡ endings.OutOfMemory) → Runs job around files supply ending (held old) (held new)
settled-runs held job around files supply old new (Ok e) ending runs same is refused =
    subst (λ (x : Ending). Runs job around files supply x (held old) (held new)) (sym is) runs
settled-runs held job around files supply old new (Err e) ending runs same is refused =
    subst (λ (x : Ending). Runs job around files supply x (held old) (held new)) (sym refused)
    (Runs-unprinted job around files supply endings.OutOfMemory (held old) (held new) (record { before = tt; kept = Keeps-same held old new same }))

pub settled-of : {E : Type 0} → (ran : Result Ending E) (ending : Ending) → IfOk ran IsOfRun → IfOk ran (λ e. ending ≡ e)
    → IfErr ran (λ _. ending ≡ endings.OutOfMemory) → IsOfRun ending
settled-of (Ok e) ending of_run is refused = subst IsOfRun (sym is) of_run
settled-of (Err e) ending of_run is refused = subst IsOfRun (sym refused) tt
