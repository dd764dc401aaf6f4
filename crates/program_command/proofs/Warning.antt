-- What is wrong in texts is reported where words ask for it.
use Rattle.std.proofs.Common.{◌≡◌, ℕ, zero, suc, ◌+◌, ◌-◌, ◌<◌, ◌≤◌, List, [], ◌∷◌, ◌++◌, length, map, Bool, true, false, not, ◌&&◌, nat_le, Option, None, Some, Result, Ok, Err, IfOk, ◌⊎◌, inl, inr, append-nil, if◌then◌else◌, refl, sym, subst, ◌∙◌, ap, arith}
use Rattle.std.proofs.lemmas.List.{length-map, map-append}
use Rattle.nr_units.specs.Source.{Supply}
use Rattle.document_stages.specs.Pulling.{Stays, whole}
use Rattle.preconv_coding.specs.UnderCoding.{coded, text_of}
use Rattle.preconv_coding.specs.declared.names.Coding.{Coding}
use Rattle.program_options.specs.Job.{Asked}
use Rattle.program_options.specs.Reading.{Complaint}
use Rattle.program_command.specs.Program.{is_silent}
use Rattle.nr_units.specs.Failures.{SinkFailures}
use Rattle.filters.specs.Endings.{Tells}
use Rattle.preconv_converter.specs.Reading as preconv
use Rattle.preconv_characters.specs.declared.target.Target.TheVariants.{Ascii}
use Rattle.document_printing.specs.Tables.{has_tables}
use Rattle.man_lint.specs.Complaints as man
use Rattle.mdoc_command.specs.Complaints as mdoc
use Rattle.tbl_command.proofs.Looked.{lines-reported}
use Rattle.tbl_command.specs.Looking.{AreReportedOf, lines_of_page}
use Rattle.tbl_command.specs.declared.arguments.Job.{Job}
use Rattle.tbl_command.specs.declared.looking.Tables.{Tables}
use Rattle.program_plan.specs.declared.macros.Macros.{Macros}
use Rattle.program_plan.specs.declared.macros.Macros.TheVariants.{Manual, Named}
use Rattle.program_plan.specs.declared.macros.Macros.TheVariants as kinds
use Rattle.document_reader.specs.Page.{IsShort}
use Rattle.program_command.specs.Printing.{AreAllShort}
use Rattle.program_command.specs.Running.{under}
use Rattle.program_command.specs.Plan.{kind_of}
use Rattle.program_command.specs.Warnings.{AreAhead, AreTablesOf, Heard, MayBeCut, PROGRAM, TellsAt, TellsBytes, TellsEach, TellsOne, TellsRead, TellsText, TellsTexts, heard, is_looked_at, lines_of, macro_count, name_at, of_macros, of_man, of_tables, page_of, tables_job, unlooked, warnings_of}

is_false : (b : Bool) → not b ≡ true → b ≡ false
is_false true h = sym h
is_false false h = refl

-- no word asks for it
pub asks_not : (answer : Result Asked Complaint) (job : Asked) → Ok job ≡ answer → is_silent answer ≡ true → job.plain.warns ≡ false
asks_not answer job is silent = is_false job.plain.warns (ap is_silent is ∙ silent)

-- one text more
pub TellsTexts-more : (job : Asked) (coding : Option Coding) (place : ℕ) (given : List (Option Supply)) (one : Option Supply) (old next new : Heard)
    → TellsTexts job coding place given old next → TellsAt job coding (place + length given) one next new
    → TellsTexts job coding place (given ++ one ∷ []) old new
TellsTexts-more job coding place [] one old next new reported more =
    let at : place + length {A = Option Supply} [] ≡ place = omega arith in
    (new, subst (λ (h : Heard). TellsAt job coding place one h new) reported (subst (λ (n : ℕ). TellsAt job coding n one next new) at more), refl)
TellsTexts-more job coding place (first ∷ given) one old next new (mid, reported, rest) more =
    let at : place + length (first ∷ given) ≡ (place + 1) + length given = omega arith in
    (mid, reported, TellsTexts-more job coding (place + 1) given one mid next new rest (subst (λ (n : ℕ). TellsAt job coding n one next new) at more))

pub AreAhead-more : (olds news : List (Option Supply)) (old new : Option Supply) → AreAhead olds news → Stays old new → AreAhead (olds ++ old ∷ []) (news ++ new ∷ [])
AreAhead-more [] [] old new ahead stays = (stays, tt)
AreAhead-more [] (n ∷ news) old new ahead stays = absurd ahead
AreAhead-more (o ∷ olds) [] old new ahead stays = absurd ahead
AreAhead-more (o ∷ olds) (n ∷ news) old new (first, ahead) stays = (first, AreAhead-more olds news old new ahead stays)

pub AreAhead-same : {A : Type 0} (shown : A → Option Supply) (olds : List (Option Supply)) (xs ys : List A) → ys ≡ xs → AreAhead olds (map shown xs)
    → AreAhead olds (map shown ys)
AreAhead-same {A} shown olds xs ys same ahead = subst (λ (zs : List A). AreAhead olds (map shown zs)) (sym same) ahead

-- as many
AreAhead-length : (olds news : List (Option Supply)) → AreAhead olds news → length news ≡ length olds
AreAhead-length [] [] ahead = refl
AreAhead-length [] (n ∷ news) ahead = absurd ahead
AreAhead-length (o ∷ olds) [] ahead = absurd ahead
AreAhead-length (o ∷ olds) (n ∷ news) (first, ahead) = ap suc (AreAhead-length olds news ahead)

-- ---- lines

pub TellsEach-one : (a b : Option (List ℕ)) (f h : SinkFailures) (line : List ℕ) → Tells a b f h line → TellsEach (heard a f) (heard b h) (line ∷ [])
TellsEach-one a b f h line tells = (heard b h, tells, refl)

pub TellsEach-append : (old next new : Heard) (xs ys : List (List ℕ)) → TellsEach old next xs → TellsEach next new ys → TellsEach old new (xs ++ ys)
TellsEach-append old next new [] ys first rest = subst (λ (h : Heard). TellsEach h new ys) first rest
TellsEach-append old next new (x ∷ xs) ys (mid, tells, first) rest = (mid, tells, TellsEach-append mid next new xs ys first rest)

-- nothing was reported
pub heard-same : {E : Type 0} (held : E → Option (List ℕ)) (failures : E → SinkFailures) (old new : E) → new ≡ old
    → heard (held new) (failures new) ≡ heard (held old) (failures old)
heard-same {E} held failures old new same = ap (λ (e : E). heard (held e) (failures e)) same

-- what mdoc tells
pub macros-reported : {T E : Type 0} (r : Result T E) (kind : Macros) (name page : List ℕ) (a b : Option (List ℕ)) (f h : SinkFailures) → kind ≡ Manual
    → IfOk r (λ _. Tells a b f h (mdoc.lines_of PROGRAM name (mdoc.reported_of page)))
    → IfOk r (λ _. TellsEach (heard a f) (heard b h) (of_macros kind name page))
macros-reported (Ok x) kind name page a b f h is reported =
    subst (λ (k : Macros). TellsEach (heard a f) (heard b h) (of_macros k name page)) (sym is) (TellsEach-one a b f h _ reported)
macros-reported (Err e) kind name page a b f h is reported = reported

pub macros-none : (kind : Macros) (name page : List ℕ) (old : Heard) → (kind ≡ Manual → ⊥) → TellsEach old old (of_macros kind name page)
macros-none Manual name page old not = absurd (not refl)
macros-none kinds.None name page old not = refl
macros-none Named name page old not = refl

-- what is wrong with the lines of a page of man(7)
pub man-reported : {T E : Type 0} (r : Result T E) (kind : Macros) (name page : List ℕ) (a b : Option (List ℕ)) (f h : SinkFailures) → kind ≡ Manual
    → IfOk r (λ _. Tells a b f h (man.lines_of PROGRAM name (man.faults_of page)))
    → IfOk r (λ _. TellsEach (heard a f) (heard b h) (of_man kind name page))
man-reported (Ok x) kind name page a b f h is reported =
    subst (λ (k : Macros). TellsEach (heard a f) (heard b h) (of_man k name page)) (sym is) (TellsEach-one a b f h _ reported)
man-reported (Err e) kind name page a b f h is reported = reported

pub man-none : (kind : Macros) (name page : List ℕ) (old : Heard) → (kind ≡ Manual → ⊥) → TellsEach old old (of_man kind name page)
man-none Manual name page old not = absurd (not refl)
man-none kinds.None name page old not = refl
man-none Named name page old not = refl

-- what tbl tells
abbrev tables_if : Bool → Job → List ℕ → List ℕ → List (List ℕ)
tables_if true job name page = lines_of_page PROGRAM name job (preconv.converted Ascii page) ∷ []
tables_if false job name page = []

by_has : (has : Bool) (job : Job) (name page : List ℕ) (tables : Option Tables) → AreTablesOf has job page tables → lines_of name tables ≡ tables_if has job name page
by_has true job name page None are = absurd are
by_has false job name page None are = refl
by_has false job name page (Some tables) are = absurd are
by_has true job name page (Some tables) are =
    ap (λ (line : List ℕ). line ∷ []) (lines-reported PROGRAM name job (preconv.converted Ascii page) tables are)

as_if : (has : Bool) (job : Job) (name page : List ℕ) → tables_if has job name page ≡ (if has then lines_of_page PROGRAM name job (preconv.converted Ascii page) ∷ [] else [])
as_if true job name page = refl
as_if false job name page = refl

pub tables-none : (has : Bool) (job : Job) (page : List ℕ) → has ≡ false → AreTablesOf has job page None
tables-none has job page is = subst (λ (b : Bool). AreTablesOf b job page None) (sym is) tt

pub tables-some : (has : Bool) (job : Job) (page : List ℕ) (tables : Tables) → has ≡ true → AreReportedOf job (preconv.converted Ascii page) tables
    → AreTablesOf has job page (Some tables)
tables-some has job page tables is reported = subst (λ (b : Bool). AreTablesOf b job page (Some tables)) (sym is) reported

-- a page is short if all of its first bytes are
short-page : (page : List ℕ) → AreAllShort page → IsShort page page
short-page page short = (short (record { mdoc = false; characters = true }) page [] (sym (append-nil page))).man_is

-- what is reported of the tables of a page that was read
pub tables-looked : (job other : Job) (page : List ℕ) (tables : Tables) (known : Option Supply) → other ≡ job
    → (IsShort page page → known ≡ Some (whole (preconv.converted Ascii page))) → ((q : Supply) → known ≡ Some q → AreReportedOf other q.bytes tables)
    → AreAllShort page → AreReportedOf job (preconv.converted Ascii page) tables
tables-looked job other page tables known same given reported short =
    subst (λ (j : Job). AreReportedOf j (preconv.converted Ascii page) tables) same (reported _ (given (short-page page short)))

tables-are : (job : Asked) (name page : List ℕ) (tables : Option Tables) → AreTablesOf (has_tables page) (tables_job job (kind_of job page)) page tables
    → lines_of name tables ≡ of_tables job name page
tables-are job name page tables are =
    by_has (has_tables page) (tables_job job (kind_of job page)) name page tables are ∙ as_if (has_tables page) (tables_job job (kind_of job page)) name page

-- all three
pub page-reported : (job : Asked) (name page : List ℕ) (kind : Macros) (tables : Option Tables) (old mid next new : Heard) → kind ≡ kind_of job page
    → TellsEach old mid (of_macros kind name page) → TellsEach mid next (of_man kind name page)
    → (AreAllShort page → AreTablesOf (has_tables page) (tables_job job kind) page tables)
    → TellsEach next new (lines_of name tables) → AreAllShort page → TellsEach old new (warnings_of job name page)
page-reported job name page kind tables old mid next new is macros calls are reported short =
    let of : AreTablesOf (has_tables page) (tables_job job (kind_of job page)) page tables =
    subst (λ (k : Macros). AreTablesOf (has_tables page) (tables_job job k) page tables) is (are short) in
    let first : TellsEach old mid (of_macros (kind_of job page) name page) = subst (λ (k : Macros). TellsEach old mid (of_macros k name page)) is macros in
    let second : TellsEach mid next (of_man (kind_of job page) name page) = subst (λ (k : Macros). TellsEach mid next (of_man k name page)) is calls in
    TellsEach-append old next new (of_macros (kind_of job page) name page ++ of_man (kind_of job page) name page) (of_tables job name page)
    (TellsEach-append old mid next (of_macros (kind_of job page) name page) (of_man (kind_of job page) name page) first second)
    (subst (λ (ls : List (List ℕ)). TellsEach next new ls) (tables-are job name page tables of) reported)

-- ---- texts

-- the bytes of a page under its coding
pub decoded-is : (coding : Option Coding) (bytes old new : List ℕ) (known : Option Supply) → known ≡ under coding (Some (whole bytes)) → old ≡ []
    → ((q : Supply) → known ≡ Some q → new ≡ old ++ q.bytes) → new ≡ page_of coding bytes
decoded-is None bytes old new known is none all = all _ is ∙ ap (λ (o : List ℕ). o ++ text_of bytes) none
decoded-is (Some coding) bytes old new known is none all = all _ is ∙ ap (λ (o : List ℕ). o ++ coded coding bytes) none

pub TellsBytes-page : {T E : Type 0} (r : Result T E) (job : Asked) (coding : Option Coding) (name bytes page : List ℕ) (old new : Heard)
    → page ≡ page_of coding bytes → IfOk r (λ _. AreAllShort page → TellsEach old new (warnings_of job name page))
    → IfOk r (λ _. TellsBytes job coding name bytes old new)
TellsBytes-page r job coding name bytes page old new is reported =
    subst (λ (p : List ℕ). IfOk r (λ _. AreAllShort p → TellsEach old new (warnings_of job name p))) is reported

pub TellsText-of : (job : Asked) (coding : Option Coding) (name : List ℕ) (given : Option Supply) (whole : Bool) (bytes : List ℕ) (old new : Heard)
    → (whole ≡ true → (q : Supply) → given ≡ Some q → q.bytes ≡ bytes) → (whole ≡ false → (q : Supply) → given ≡ Some q → MayBeCut q)
    → TellsRead job coding name whole bytes old new → TellsText job coding name given old new
TellsText-of job coding name given true bytes old new all cut reported = λ q known.
    inl (subst (λ (bs : List ℕ). TellsBytes job coding name bs old new) (sym (all refl q known)) reported)
TellsText-of job coding name given false bytes old new all cut reported = λ q known. inr (cut refl q known, reported)

-- what was reported of all that was read
pub TellsRead-whole : {T E : Type 0} (r : Result T E) (job : Asked) (coding : Option Coding) (name : List ℕ) (whole : Bool) (bytes same : List ℕ) (old new : Heard)
    → whole ≡ true → same ≡ bytes → IfOk r (λ _. TellsBytes job coding name same old new) → IfOk r (λ _. TellsRead job coding name whole bytes old new)
TellsRead-whole r job coding name whole bytes same old new is all reported =
    subst (λ (b : Bool). IfOk r (λ _. TellsRead job coding name b bytes old new)) (sym is)
    (subst (λ (bs : List ℕ). IfOk r (λ _. TellsBytes job coding name bs old new)) all reported)

pub TellsRead-cut : (job : Asked) (coding : Option Coding) (name : List ℕ) (whole : Bool) (bytes : List ℕ) (old new : Heard) → whole ≡ false
    → TellsEach old new (unlooked name ∷ []) → TellsRead job coding name whole bytes old new
TellsRead-cut job coding name whole bytes old new is reported = subst (λ (b : Bool). TellsRead job coding name b bytes old new) (sym is) reported

by_flag : (flag : Bool) (job : Asked) (coding : Option Coding) (name : List ℕ) (given : Option Supply) (old new : Heard) → flag ≡ true
    → TellsText job coding name given old new → TellsOne flag job coding name given old new
by_flag flag job coding name given old new is reported = subst (λ (b : Bool). TellsOne b job coding name given old new) (sym is) reported

pub TellsAt-looked : {T E : Type 0} (r : Result T E) (job : Asked) (coding : Option Coding) (place : ℕ) (name : List ℕ) (given : Option Supply) (old new : Heard)
    → is_looked_at job place ≡ true → name ≡ name_at job place → IfOk r (λ _. TellsText job coding name given old new) → IfOk r (λ _. TellsAt job coding place given old new)
TellsAt-looked (Ok x) job coding place name given old new is named reported =
    by_flag (is_looked_at job place) job coding (name_at job place) given old new is (subst (λ (n : List ℕ). TellsText job coding n given old new) named reported)
TellsAt-looked (Err e) job coding place name given old new is named reported = tt

pub TellsAt-passed : (job : Asked) (coding : Option Coding) (place : ℕ) (given : Option Supply) (old : Heard) → is_looked_at job place ≡ false
    → TellsAt job coding place given old old
TellsAt-passed job coding place given old is = subst (λ (b : Bool). TellsOne b job coding (name_at job place) given old old) (sym is) refl

-- where no word asks for it no text is looked at
neither : (asks comes : Bool) → (asks && comes) ≡ true → asks ≡ false → ⊥
neither true comes both none = absurd (cc)
neither false comes both none = absurd (cc)

pub not-looked : (job : Asked) (place : ℕ) → is_looked_at job place ≡ true → job.plain.warns ≡ false → ⊥
not-looked job place is none = neither job.plain.warns (nat_le (macro_count job) place) is none

-- ---- one text more, of those that are gone over

pub ahead-more : {S A : Type 0} (supply : S → Option Supply) (shown : A → Option Supply) (yielded : List S) (text : S) (all new : List A) (ahead : A)
    → new ≡ all ++ ahead ∷ [] → AreAhead (map supply yielded) (map shown all) → Stays (supply text) (shown ahead)
    → AreAhead (map supply (yielded ++ text ∷ [])) (map shown new)
ahead-more {S} {A} supply shown yielded text all new ahead is were stays =
    subst (λ (xs : List A). AreAhead (map supply (yielded ++ text ∷ [])) (map shown xs)) (sym is)
    (subst (λ (ys : List (Option Supply)). AreAhead ys (map shown (all ++ ahead ∷ []))) (sym (map-append supply yielded (text ∷ [])))
    (subst (λ (zs : List (Option Supply)). AreAhead (map supply yielded ++ supply text ∷ []) zs) (sym (map-append shown all (ahead ∷ [])))
    (AreAhead-more (map supply yielded) (map shown all) (supply text) (shown ahead) were stays)))

pub reported-more : {S A : Type 0} (supply : S → Option Supply) (shown : A → Option Supply) (job : Asked) (coding : Option Coding) (yielded : List S) (text : S)
    (all : List A) (n : ℕ) (old next new : Heard) → n ≡ length all → AreAhead (map supply yielded) (map shown all)
    → TellsTexts job coding 0 (map supply yielded) old next → TellsAt job coding n (supply text) next new
    → TellsTexts job coding 0 (map supply (yielded ++ text ∷ [])) old new
reported-more supply shown job coding yielded text all n old next new is ahead reported at =
    let many : n ≡ length (map supply yielded) = is ∙ (sym (length-map all shown) ∙ AreAhead-length (map supply yielded) (map shown all) ahead) in
    let count : n ≡ 0 + length (map supply yielded) = omega (arith, many) in
    subst (λ (ys : List (Option Supply)). TellsTexts job coding 0 ys old new) (sym (map-append supply yielded (text ∷ [])))
    (TellsTexts-more job coding 0 (map supply yielded) (supply text) old next new reported
    (subst (λ (m : ℕ). TellsAt job coding m (supply text) next new) count at))
