-- What a call for a stage with a page's own table came to, said of what its caller knows.
use Rattle.std.proofs.Common.{◌≡◌, ℕ, ◌+◌, ◌<◌, ◌≤◌, List, [], length, take, nat_le, nat_lt, Bool, true, false, ◌&&◌, if◌then◌else◌, Option, Some, refl, sym, ap, subst, ◌∙◌, arith}
use Rattle.std.proofs.lemmas.Grind.{common_steps}
use Rattle.nr_units.specs.Source.{Supply}
use Rattle.utf8_characters.specs.declared.table.FixedTable.{FixedTable}
use Rattle.utf8_characters.specs.declared.table.FixedTable.TheVariants.{English, Latin, Cyrillic, Greek, Latin1}
use Rattle.utf8_converter.specs.Choosing.{chosen, looked_at}
use Rattle.utf8_own_characters.specs.declared.counting.Count.{Count}
use Rattle.utf8_own_characters.specs.Table.{Characters}
use Rattle.utf8_own_page.specs.Needing.{IsTableOf, lacks, may_need_own}
use Rattle.document_stages.specs.Pulling.{fits_always, pulled, pulled_from, whole}
use Rattle.nulbiko.specs.Looked.{MakesByOwn, choice, counts_in, needs_own}
use Rattle.nulbiko.specs.Reported.{IsHanded, code_within, only_written}
use Rattle.nulbiko.specs.Tables.{number_of, table_numbered}
use Rattle.nulbiko.specs.declared.reported.Report.{Report}

-- ---- a stage over a text

short : (n : ℕ) → n < 1099511627776 → nat_lt (0 + n) 1099511627776 ≡ true
short n h = grind (arith, common_steps)

wide : (n room : ℕ) → n ≤ room → nat_le n room ≡ true
wide n room h = grind (arith, common_steps)

pub pulled-whole : (text : List ℕ) (from result : Option Supply) (says said : Bool → List ℕ → List ℕ) (fits : List ℕ → Bool) (wants room : ℕ)
    → result ≡ pulled from (nat_le wants room) says fits [] 0 false → from ≡ Some (whole text) → wants ≡ 256 → 256 ≤ room → says ≡ said → fits ≡ fits_always
    → length text < 1099511627776 → result ≡ Some (whole (said true text))
pulled-whole text from result says said fits wants room is of few fit same fitted few_bytes =
    is
    ∙ ap (λ (b : Bool). pulled from b says fits [] 0 false) (ap (λ (k : ℕ). nat_le k room) few ∙ wide 256 room fit)
    ∙ ap (λ (q : Option Supply). pulled q true says fits [] 0 false) of
    ∙ ap (λ (z : Bool → List ℕ → List ℕ). pulled (Some (whole text)) true z fits [] 0 false) same
    ∙ ap (λ (z : List ℕ → Bool). pulled (Some (whole text)) true said z [] 0 false) fitted
    ∙ ap (λ (b : Bool). Some (pulled_from b false (whole text) said fits_always [])) (short (length text) few_bytes)

-- ---- what is reported

pub made-own : (page : List ℕ) (makes : Characters → List ℕ) (output : List ℕ) (report : Report) (code n : ℕ) (table : Characters)
    → report ≡ only_written n → IsTableOf (counts_in page) table → IsHanded (makes table) output n
    → code ≡ code_within 0 (length (makes table)) (length output) → MakesByOwn page makes output report code
made-own page makes output report code n table reported is handed coded = record {
  table = table;
  is = is;
  handed = subst (λ (r : Report). IsHanded (makes table) output r.written) (sym reported) handed;
  code_is = coded;
  only = reported ∙ ap (λ (r : Report). only_written r.written) (sym reported);
}

-- ---- the table that is chosen

named : (t : FixedTable) → table_numbered (number_of t) ≡ Some t
named English = refl
named Latin = refl
named Cyrillic = refl
named Greek = refl
named Latin1 = refl

-- it isn't asked whether it takes its own
pub chosen-fixed : (text : List ℕ) (n : ℕ) → n ≡ number_of (chosen (take looked_at text)) → may_need_own text ≡ false → n ≡ choice text
chosen-fixed text n is unasked =
    is ∙ ap (λ (z : Bool). if z && lacks (Some (chosen (take looked_at text))) (counts_in text) then 8 else number_of (chosen (take looked_at text))) (sym unasked)

-- whether the fixed one lacks something
lacking : (text : List ℕ) (n : ℕ) (counts : List Count) (l : Bool) → n ≡ number_of (chosen (take looked_at text)) → counts ≡ counts_in text
    → may_need_own text ≡ true → l ≡ lacks (table_numbered n) counts → needs_own text ≡ l
lacking text n counts l is counted asked lacked =
    let t = chosen (take looked_at text) in
    ap (λ (z : Bool). z && lacks (Some t) (counts_in text)) asked
    ∙ ap (λ (xs : List Count). lacks (Some t) xs) (sym counted)
    ∙ ap (λ (o : Option FixedTable). lacks o counts) (sym (ap table_numbered is ∙ named t))
    ∙ sym lacked

pub chosen-own : (text : List ℕ) (n : ℕ) (counts : List Count) (l : Bool) → n ≡ number_of (chosen (take looked_at text)) → counts ≡ counts_in text
    → may_need_own text ≡ true → l ≡ lacks (table_numbered n) counts → l ≡ true → 8 ≡ choice text
chosen-own text n counts l is counted asked lacked does =
    ap (λ (z : Bool). if z then 8 else number_of (chosen (take looked_at text))) (sym (lacking text n counts l is counted asked lacked ∙ does))

pub chosen-still : (text : List ℕ) (n : ℕ) (counts : List Count) (l : Bool) → n ≡ number_of (chosen (take looked_at text)) → counts ≡ counts_in text
    → may_need_own text ≡ true → l ≡ lacks (table_numbered n) counts → l ≡ false → n ≡ choice text
chosen-still text n counts l is counted asked lacked doesnt =
    is ∙ ap (λ (z : Bool). if z then 8 else number_of (chosen (take looked_at text))) (sym (lacking text n counts l is counted asked lacked ∙ doesnt))
