-- The text of a job: its first bytes, and where it may fail.
use Rattle.std.proofs.Common.{◌≡◌, ℕ, List, ◌++◌, length, drop, take, map, min, Bool, true, false, Option, None, Some, Result, Ok, Err, IfOk, ◌⊎◌, inl, inr, refl, sym, subst, ap, ◌∙◌}
use Rattle.std.proofs.lemmas.List.{drop-map, drop_min, take-map, take_min}
use Rattle.std.specs.Io.KnownBytes.{Keeps}
use Rattle.nr_units.specs.Source.{Faults, Never, After, Anytime, Supply}
use Rattle.nr_options.specs.Limits.{Bounds}
use Rattle.nr_options.specs.declared.options.Options.{Options}
use Rattle.preconv_coding.specs.UnderCoding.{coded, text_faults}
use Rattle.preconv_coding.specs.UnderCoding as coding
use Rattle.preconv_coding.specs.declared.names.Coding.{Coding}
use Rattle.nr_command_options.specs.Files.{files_supply}
use Rattle.document_stages.specs.Joined.{Begins}
use Rattle.document_stages.specs.Pulling.{Stays}
use Rattle.document_reader.specs.Page.{breaks_off}
use Rattle.tbl_stage.specs.declared.rooms.PageLimits.{PageLimits}
use Rattle.document_printing.specs.declared.setup.Report.{Report}
use Rattle.program_options.specs.Job.{Asked}
use Rattle.program_options.specs.declared.plain.Faces.{Faces}
use Rattle.program_options.specs.declared.plain.Faces.TheVariants as faces
use Rattle.program_plan.specs.Texts.{macro_names}
use Rattle.program_command.specs.Own.{unshown_of}
use Rattle.program_command.specs.Plan.{AreOptions, has_strikes, kind_of, page_limits_of, plan_of}
use Rattle.program_command.specs.Printing.{AreShort, Printed, Where}
use Rattle.program_command.specs.Running.{AreMacros, EndsBefore, EndsBy, PrefixGives, IsDocument, IsReported, Runs, files_of, first_of, is_for_others, text_of, under, with_named}
use Rattle.document_sources.specs.Joining.{Texts}
use Rattle.program_command.specs.declared.endings.Ending.{Ending}
use Rattle.program_command.specs.declared.endings.Ending.TheVariants as endings
use Rattle.program_command.specs.declared.plan.Plan.{Plan}
use Rattle.program_command.specs.declared.surroundings.Surroundings.{Surroundings}
use Rattle.program_command.proofs.Kept.{Keeps-refl}

-- ---- it breaks off nowhere

faults-unbroken : (f : Faults) → breaks_off (text_faults f) ≡ false
faults-unbroken Never = refl
faults-unbroken (After n) = refl
faults-unbroken Anytime = refl

known-unbroken : (bytes : List ℕ) (f : Faults) (q : Supply) → Some (let s : Supply = record { bytes = bytes; faults = text_faults f } in s) ≡ Some q → breaks_off q.faults ≡ false
known-unbroken bytes f q known =
    let same : (let s : Supply = record { bytes = bytes; faults = text_faults f } in s) ≡ q = cc in
    subst (λ (s : Supply). breaks_off s.faults ≡ false) same (faults-unbroken f)

pub under-unbroken : (named : Option Coding) (files : Option Supply) (q : Supply) → under named files ≡ Some q → breaks_off q.faults ≡ false
under-unbroken None None q known = absurd (cc)
under-unbroken None (Some f) q known = known-unbroken (coding.text_of f.bytes) f.faults q known
under-unbroken (Some c) None q known = absurd (cc)
under-unbroken (Some c) (Some f) q known = known-unbroken (coded c f.bytes) f.faults q known

-- ---- what was looked at comes first

pub stays : (known new : Option Supply) (q : Supply) → Stays known new → known ≡ Some q → new ≡ Some q
stays known new q still is = subst (λ (k : Option Supply). Stays k new) is still

pub begins : (known : Option Supply) (q : Supply) (first : List ℕ) → Begins known first → known ≡ Some q
    → (rest : List ℕ) × (q.bytes ≡ first ++ rest)
begins known q first begun is = subst (λ (k : Option Supply). Begins k first) is begun

-- ---- what is struck over

pub strikes : (f : Faces) → (f ≡ faces.None → ⊥) → has_strikes f ≡ true
strikes faces.Auto not = refl
strikes faces.On not = refl
strikes faces.Off not = refl
strikes faces.None not = absurd (not refl)

-- ---- from its first bytes on

pub Runs-others : (job : Asked) (around : Surroundings) (macros files known : Option Supply) (first : List ℕ) (a : Option (List ℕ))
    → Stays files known → Begins known first → is_for_others job first ≡ true → Runs job around macros files endings.NeedsOthers a a
Runs-others job around macros files known first a still begun others = record {
  checks = λ only. Keeps-refl a;
  prints = λ asks page is short. let following = begins known page first begun (stays files known page still is) in record {
    first = first;
    rest = following.0;
    looked_at = following.1;
    ends = inr (subst (λ (b : Bool). EndsBy b job around macros page endings.NeedsOthers a a) (sym others) (record { reported = refl; kept = Keeps-refl a }));
  };
}

either : (job : Asked) (around : Surroundings) (files : Option Supply) (page : Supply) (first : List ℕ) (ending : Ending) (a b : Option (List ℕ))
    → is_for_others job first ≡ false → (EndsBefore ending a b ⊎ IsDocument job around files page ending a b)
    → EndsBefore ending a b ⊎ EndsBy (is_for_others job first) job around files page ending a b
either job around files page first ending a b others (inl before) = inl before
either job around files page first ending a b others (inr document) =
    inr (subst (λ (b' : Bool). EndsBy b' job around files page ending a b) (sym others) document)

-- of files under a coding, of which some bytes were looked at, and then maybe more
pub Runs-from : (job : Asked) (around : Surroundings) (macros : Option Supply) (named : Option Coding) (files known prefix : Option Supply) (first : List ℕ) (ending : Ending)
    (a b : Option (List ℕ)) → Stays (under named files) known → Begins known first → is_for_others job first ≡ false → Stays known prefix
    → PrefixGives job around macros prefix ending a b → (job.plain.checks ≡ true → Keeps a b) → Runs job around macros (under named files) ending a b
Runs-from job around macros named files known prefix first ending a b still begun others more gives only = record {
  checks = only;
  prints = λ asks page is short.
      let held = stays (under named files) known page still is in
      let following = begins known page first begun held in
      record {
        first = first;
        rest = following.0;
        looked_at = following.1;
        ends = either job around macros page first ending a b others
            (gives asks page (stays known prefix page more held) (under-unbroken named files page is) short);
      };
}

-- ---- the macro files, and the pages after them

pub files-are : {T : Type 0} → (supply : T → Option Supply) (job : Asked) (texts macros : List T) (count : ℕ)
    → count ≡ min (length (macro_names job)) (length texts) → macros ≡ take count texts
    → files_supply (map supply macros) ≡ files_of job (map supply texts)
files-are {T} supply job texts macros count few are =
    let all : take count texts ≡ take (length (macro_names job)) texts = ap (λ (n : ℕ). take n texts) few ∙ take_min (length (macro_names job)) texts in
    ap files_supply (ap (λ (ps : List T). map supply ps) (are ∙ all) ∙ sym (take-map supply (length (macro_names job)) texts))

pub pages-are : {T : Type 0} → (supply : T → Option Supply) (job : Asked) (named : Option Coding) (folder : Option (Option Texts)) (texts pages : List T) (count : ℕ)
    → count ≡ min (length (macro_names job)) (length texts) → pages ≡ drop count texts
    → under named (with_named folder (files_supply (map supply pages))) ≡ text_of job named folder (map supply texts)
pages-are {T} supply job named folder texts pages count few are =
    let all : drop count texts ≡ drop (length (macro_names job)) texts = ap (λ (n : ℕ). drop n texts) few ∙ drop_min (length (macro_names job)) texts in
    ap (λ (ps : List (Option Supply)). under named (with_named folder (files_supply ps)))
    (ap (λ (ps : List T). map supply ps) (are ∙ all) ∙ sym (drop-map supply (length (macro_names job)) texts))

pub Runs-texts : {T : Type 0} → (supply : T → Option Supply) (job : Asked) (around : Surroundings) (named : Option Coding) (folder : Option (Option Texts)) (texts macros pages : List T)
    (count : ℕ) (ending : Ending) (a b : Option (List ℕ)) → count ≡ min (length (macro_names job)) (length texts) → macros ≡ take count texts → pages ≡ drop count texts
    → Runs job around (files_supply (map supply macros)) (under named (with_named folder (files_supply (map supply pages)))) ending a b
    → Runs job around (files_of job (map supply texts)) (text_of job named folder (map supply texts)) ending a b
Runs-texts {T} supply job around named folder texts macros pages count ending a b few macros_are pages_are runs =
    subst (λ (f : Option Supply). Runs job around f (text_of job named folder (map supply texts)) ending a b) (files-are supply job texts macros count few macros_are)
    (subst (λ (t : Option Supply). Runs job around (files_supply (map supply macros)) t ending a b) (pages-are supply job named folder texts pages count few pages_are) runs)

pub Runs-same : (job : Asked) (around : Surroundings) (macros s t : Option Supply) (ending : Ending) (a b : Option (List ℕ)) → s ≡ t
    → Runs job around macros s ending a b → Runs job around macros t ending a b
Runs-same job around macros s t ending a b same runs = subst (λ (x : Option Supply). Runs job around macros x ending a b) same runs

-- ---- a page by its plan

pub PrefixGives-of : (job : Asked) (around : Surroundings) (files prefix : Option Supply) (first : List ℕ) (plan : Plan) (macros : List ℕ) (options : Options)
    (page_limits : PageLimits) (limits : Bounds) (report : Report) (ending : Ending) (a b : Option (List ℕ)) → Begins prefix first
    → plan ≡ plan_of job around (kind_of job first) first → AreMacros job (kind_of job first) files macros
    → AreOptions job plan options → page_limits ≡ page_limits_of job → limits ≡ job.limits
    → Where plan prefix (λ q. Printed plan first (record { macros = macros; options = options; page_limits = page_limits; limits = limits }) q report a b)
    → (AreShort plan.stages first → IsReported (first_of job.files) (unshown_of plan first) report ending) → PrefixGives job around files prefix ending a b
PrefixGives-of job around files prefix first plan macros options page_limits limits report ending a b begun planned read given tables bounds prints reported = λ asks q known unbroken short.
    let following = begins prefix q first begun known in
    let checks : plan.checks ≡ false = ap (λ (p : Plan). p.checks) planned ∙ asks.prints in
    let struck : plan.strikes ≡ true = ap (λ (p : Plan). p.strikes) planned ∙ strikes job.plain.faces asks.strikes in
    let printed : Printed plan first (record { macros = macros; options = options; page_limits = page_limits; limits = limits }) q report a b = prints checks struck q known unbroken short in
    let tabled : Printed plan first (record { macros = macros; options = options; page_limits = page_limits_of job; limits = limits }) q report a b =
    subst (λ (l : PageLimits). Printed plan first (record { macros = macros; options = options; page_limits = l; limits = limits }) q report a b) tables printed in
    inr (record {
      first = first;
      rest = following.0;
      looked_at = following.1;
      plan = plan;
      plan_is = planned;
      macros = macros;
      macros_are = read;
      options = options;
      options_are = given;
      report = report;
      printed = subst (λ (l : Bounds). Printed plan first (record { macros = macros; options = options; page_limits = page_limits_of job; limits = l }) q report a b) bounds tabled;
      reported = reported (short plan.stages first following.0 following.1);
    })

pub Runs-prefix : {E : Type 0} → (job : Asked) (around : Surroundings) (macros : Option Supply) (named : Option Coding) (files known prefix : Option Supply)
    (first : List ℕ) (r : Result Ending E) (a b : Option (List ℕ)) → Stays (under named files) known → Begins known first → is_for_others job first ≡ false
    → Stays known prefix → (job.plain.checks ≡ true → Keeps a b) → IfOk r (λ ending. PrefixGives job around macros prefix ending a b)
    → IfOk r (λ ending. Runs job around macros (under named files) ending a b)
Runs-prefix job around macros named files known prefix first (Ok ending) a b still begun others more only gives =
    Runs-from job around macros named files known prefix first ending a b still begun others more gives only
Runs-prefix job around macros named files known prefix first (Err e) a b still begun others more only gives = tt
