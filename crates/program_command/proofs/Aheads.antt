-- Texts that were read before come to what they were to come to.
use Rattle.std.proofs.Common.{◌≡◌, ℕ, zero, suc, List, [], ◌∷◌, drop, take, length, Bool, true, false, Option, None, Some, ◌⊎◌, inl, inr, refl, sym, subst, ap, ◌∙◌}
use Rattle.std.specs.Option.{option_map}
use Rattle.nr_units.specs.Source.{Supply}
use Rattle.nr_command_options.specs.Chained.{all_known}
use Rattle.nr_command_options.specs.Files.{files_supply, one_after_the_other}
use Rattle.document_sources.specs.Joining.{Texts}
use Rattle.preconv_coding.specs.declared.names.Coding.{Coding}
use Rattle.program_options.specs.Job.{Asked}
use Rattle.program_plan.specs.Texts.{macro_names}
use Rattle.program_plan.specs.declared.macros.Macros.{Macros}
use Rattle.program_command.specs.Running.{AreMacros, EndsBefore, EndsBy, IsDocument, Runs, files_of, is_for_others, text_of, under, with_named}
use Rattle.program_command.specs.Warnings.{AreAhead}
use Rattle.program_command.specs.declared.endings.Ending.{Ending}
use Rattle.program_command.specs.declared.surroundings.Surroundings.{Surroundings}

-- ---- what is known of the ones is known of the others

abbrev pub Implies : {A : Type 0} → Option A → Option A → Type 0
Implies {A} old new = (x : A) → old ≡ Some x → new ≡ Some x

mapped : {A B : Type 0} (f : A → B) (old new : Option A) → Implies old new → Implies (option_map f old) (option_map f new)
mapped f None new known y is = absurd (cc)
mapped f (Some x) new known y is = ap (option_map f) (known x refl) ∙ is

all : (olds news : List (Option Supply)) → AreAhead olds news → Implies (all_known olds) (all_known news)
all [] [] ahead qs is = is
all [] (new ∷ news) ahead qs is = absurd ahead
all (old ∷ olds) [] ahead qs is = absurd ahead
all (None ∷ olds) (new ∷ news) ahead qs is = absurd (cc)
all (Some q ∷ olds) (new ∷ news) (stays, ahead) qs is =
    subst (λ (x : Option Supply). all_known (x ∷ news) ≡ Some qs) (sym stays)
    (mapped (λ (others : List Supply). q ∷ others) (all_known olds) (all_known news) (all olds news ahead) qs is)

files : (olds news : List (Option Supply)) → AreAhead olds news → Implies (files_supply olds) (files_supply news)
files olds news ahead = mapped one_after_the_other (all_known olds) (all_known news) (all olds news ahead)

named : (folder : Option (Option Texts)) (old new : Option Supply) → Implies old new → Implies (with_named folder old) (with_named folder new)
named None old new known q is = known q is
named (Some None) old new known q is = absurd (cc)
named (Some (Some texts)) None new known q is = absurd (cc)
named (Some (Some texts)) (Some p) new known q is = ap (with_named (Some (Some texts))) (known p refl) ∙ is

coded : (coding : Option Coding) (old new : Option Supply) → Implies old new → Implies (under coding old) (under coding new)
coded None old new known = mapped _ old new known
coded (Some coding) old new known = mapped _ old new known

without : (n : ℕ) (olds news : List (Option Supply)) → AreAhead olds news → AreAhead (drop n olds) (drop n news)
without zero olds news ahead = ahead
without (suc n) [] [] ahead = ahead
without (suc n) [] (new ∷ news) ahead = absurd ahead
without (suc n) (old ∷ olds) [] ahead = absurd ahead
without (suc n) (old ∷ olds) (new ∷ news) (stays, ahead) = without n olds news ahead

first : (n : ℕ) (olds news : List (Option Supply)) → AreAhead olds news → AreAhead (take n olds) (take n news)
first zero olds news ahead = tt
first (suc n) [] [] ahead = ahead
first (suc n) [] (new ∷ news) ahead = absurd ahead
first (suc n) (old ∷ olds) [] ahead = absurd ahead
first (suc n) (old ∷ olds) (new ∷ news) (stays, ahead) = (stays, first n olds news ahead)

text : (job : Asked) (coding : Option Coding) (folder : Option (Option Texts)) (olds news : List (Option Supply)) → AreAhead olds news
    → Implies (text_of job coding folder olds) (text_of job coding folder news)
text job coding folder olds news ahead =
    let n = length (macro_names job) in
    coded coding _ _ (named folder _ _ (files (drop n olds) (drop n news) (without n olds news ahead)))

-- ---- and so a run over these is one over those

macros : (job : Asked) (kind : Macros) (old new : Option Supply) (before : List ℕ) → Implies old new → AreMacros job kind new before → AreMacros job kind old before
macros job kind old new before known are = record { own = are.own; begins = are.begins; read = λ q is. are.read q (known q is) }

document : (job : Asked) (around : Surroundings) (old new : Option Supply) (q : Supply) (ending : Ending) (a b : Option (List ℕ)) → Implies old new
    → IsDocument job around new q ending a b → IsDocument job around old q ending a b
document job around old new q ending a b known d = record {
  first = d.first;
  rest = d.rest;
  looked_at = d.looked_at;
  plan = d.plan;
  plan_is = d.plan_is;
  macros = d.macros;
  macros_are = macros job _ old new d.macros known d.macros_are;
  options = d.options;
  options_are = d.options_are;
  report = d.report;
  printed = d.printed;
  reported = d.reported;
}

ends : (others : Bool) (job : Asked) (around : Surroundings) (old new : Option Supply) (q : Supply) (ending : Ending) (a b : Option (List ℕ)) → Implies old new
    → EndsBy others job around new q ending a b → EndsBy others job around old q ending a b
ends true job around old new q ending a b known end = end
ends false job around old new q ending a b known end = document job around old new q ending a b known end

either : (others : Bool) (job : Asked) (around : Surroundings) (old new : Option Supply) (q : Supply) (ending : Ending) (a b : Option (List ℕ)) → Implies old new
    → (EndsBefore ending a b ⊎ EndsBy others job around new q ending a b) → EndsBefore ending a b ⊎ EndsBy others job around old q ending a b
either others job around old new q ending a b known (inl before) = inl before
either others job around old new q ending a b known (inr end) = inr (ends others job around old new q ending a b known end)

over : (job : Asked) (around : Surroundings) (old new text text' : Option Supply) (ending : Ending) (a b : Option (List ℕ)) → Implies old new → Implies text text'
    → Runs job around new text' ending a b → Runs job around old text ending a b
over job around old new text text' ending a b known same runs = record {
  checks = runs.checks;
  prints = λ asks q is short. let given = runs.prints asks q (same q is) short in record {
    first = given.first;
    rest = given.rest;
    looked_at = given.looked_at;
    ends = either (is_for_others job given.first) job around old new q ending a b known given.ends;
  };
}

pub Runs-ahead : (job : Asked) (around : Surroundings) (coding : Option Coding) (folder : Option (Option Texts)) (olds news : List (Option Supply)) (ending : Ending)
    (a b : Option (List ℕ)) → AreAhead olds news → Runs job around (files_of job news) (text_of job coding folder news) ending a b
    → Runs job around (files_of job olds) (text_of job coding folder olds) ending a b
Runs-ahead job around coding folder olds news ending a b ahead runs =
    let n = length (macro_names job) in
    over job around _ _ _ _ ending a b (files (take n olds) (take n news) (first n olds news ahead)) (text job coding folder olds news ahead) runs
