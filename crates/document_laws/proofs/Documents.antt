-- The laws of documents, by those of the formatter's output.
use Rattle.std.specs.Prelude.{◌==◌, ◌||◌}
use Rattle.std.specs.List.{All}
use Rattle.std.proofs.Common.{◌≡◌, ℕ, List, [], ◌++◌, Bool, true, false, Some, refl, sym, ◌∙◌, ap, subst}
use Rattle.nr_units.specs.Source.{Supply}
use Rattle.nr_machine.specs.declared.outcome.Outcome as machine
use Rattle.nr_machine.specs.declared.outcome.Outcome.TheVariants as machines
use Rattle.nr_laws.specs.Laws.{AnswersWith, IsPrefixOf, is_settled}
use Rattle.nr_laws.specs.Printed.{is_of_row}
use Rattle.nr_laws.proofs.OutputLaws.{limits_unmet, one_answer, wider_limits}
use Rattle.nr_laws.proofs.PrintedLaw.{no_control_goes_out}
use Rattle.document_printing.specs.Document.{Ran, Setting, pages_of, state_of, reported}
use Rattle.document_printing.specs.Showing.{document, in_utf8, shown}
use Rattle.document_printing.specs.declared.setup.PageEnd.{PageEnd}
use Rattle.document_printing.specs.declared.setup.PageEnd.TheVariants.{Done, Limit, NoRoom, ReadFault, TooLong, WriteFault}
use Rattle.document_printing.specs.declared.showing.PageTable.{PageTable}
use Rattle.document_printing.specs.declared.showing.PageTable.TheVariants.{Fixed, Own}
use Rattle.document_printing.specs.declared.showing.Spelling.{Spelling}
use Rattle.document_printing.specs.declared.showing.Spelling.TheVariants.{Bytes, Utf8}
use Rattle.document_laws.specs.Laws.{DoneStays, FewMoves, NoControlGoesOut, OneDocument, Reaches, WiderLimitsLengthen, under}
use Rattle.document_laws.proofs.Lines.{AreLines, lines-prefix, pages-lines}
use Rattle.document_laws.proofs.OwnLines.{own-lines-prefix}

-- what the formatter came to, of which that is shown
record Came (s : Setting) (spelling : Spelling) (source : Supply) (n : ℕ) (outcome : PageEnd) (out : List ℕ) : Type 0 where
  end : machine.Outcome
  reported_so : reported end false ≡ outcome
  settled : is_settled source.faults end ≡ true
  ran : Ran s source n end
  answers : AnswersWith s.limits s.options source n end (pages_of s source n)
  out_is : out ≡ document s spelling source n

came : (s : Setting) (spelling : Spelling) (source : Supply) (n : ℕ) (outcome : PageEnd) (out : List ℕ) → Reaches s spelling source n outcome out → Came s spelling source n outcome out
came s spelling source n Done out r =
    let ran = r.shows.ran in
    record {
      end = machines.Done;
      reported_so = refl;
      settled = refl;
      ran = ran;
      answers = record { runs = ran.runs; allowed = ran.allowed; ends = ran.ends; writes = refl; bound = ran.bound };
      out_is = r.shows.out;
    }
came s spelling source n (Limit which at) out r =
    let ran = r.shows.ran in
    record {
      end = machines.Limit which at;
      reported_so = refl;
      settled = refl;
      ran = ran;
      answers = record { runs = ran.runs; allowed = ran.allowed; ends = ran.ends; writes = refl; bound = ran.bound };
      out_is = r.shows.out;
    }
came s spelling source n NoRoom out r = absurd (let never : false ≡ true = r.ended in cc)
came s spelling source n ReadFault out r = absurd (let never : false ≡ true = r.ended in cc)
came s spelling source n TooLong out r = absurd (let never : false ≡ true = r.ended in cc)
came s spelling source n WriteFault out r = absurd (let never : false ≡ true = r.ended in cc)

-- ---- wider limits

utf8_prefix : (table : PageTable) (escapes : Bool) (pages rest : List ℕ) → AreLines pages → IsPrefixOf (in_utf8 table escapes pages) (in_utf8 table escapes (pages ++ rest))
utf8_prefix (Fixed table) escapes pages rest lines = lines-prefix table escapes pages rest lines
utf8_prefix (Own table) escapes pages rest lines = own-lines-prefix table.now escapes pages rest lines

shown_prefix : (spelling : Spelling) (pages more : List ℕ) → AreLines pages → IsPrefixOf pages more → IsPrefixOf (shown spelling pages) (shown spelling more)
shown_prefix Bytes pages more lines prefix = prefix
shown_prefix (Utf8 table escapes) pages more lines prefix =
    subst (λ (z : List ℕ). IsPrefixOf (in_utf8 table escapes pages) (in_utf8 table escapes z)) (sym prefix.whole_is) (utf8_prefix table escapes pages prefix.rest lines)

pub wider_limits_lengthen : WiderLimitsLengthen
wider_limits_lengthen s b spelling source n n' outcome outcome' out out' least r r' =
    let c = came s spelling source n outcome out r in
    let c' = came (under b s) spelling source n' outcome' out' r' in
    let prefix = wider_limits s.limits b s.options source n n' c.end c'.end (pages_of s source n) (pages_of (under b s) source n') least c.answers c'.answers c'.settled in
    let both = shown_prefix spelling (pages_of s source n) (pages_of (under b s) source n') (pages-lines (state_of s source n).pages) prefix in
    subst (λ (z : List ℕ). IsPrefixOf z out') (sym c.out_is) (subst (λ (z : List ℕ). IsPrefixOf (document s spelling source n) z) (sym c'.out_is) both)

pub done_stays : DoneStays
done_stays s b spelling source n n' outcome' out out' least r r' =
    let ran = r.shows.ran in
    let answers : AnswersWith s.limits s.options source n machines.Done (pages_of s source n) =
    record { runs = ran.runs; allowed = ran.allowed; ends = ran.ends; writes = refl; bound = ran.bound } in
    let c' = came (under b s) spelling source n' outcome' out' r' in
    let same = limits_unmet s.limits b s.options source n n' machines.Done c'.end (pages_of s source n) (pages_of (under b s) source n') least answers c'.answers refl refl c'.settled in
    (same.0, ap (λ (e : machine.Outcome). reported e false) same.1 ∙ c'.reported_so, r.shows.out ∙ ap (λ (z : List ℕ). shown spelling z) same.2 ∙ sym c'.out_is)

-- ---- one document

pub one_document : OneDocument
one_document s spelling source n n' outcome outcome' out out' r r' =
    let c = came s spelling source n outcome out r in
    let c' = came s spelling source n' outcome' out' r' in
    let same = one_answer s.limits s.options source n n' c.end c'.end (pages_of s source n) (pages_of s source n') c.answers c'.answers c.settled c'.settled in
    (same.0, sym c.reported_so ∙ ap (λ (e : machine.Outcome). reported e false) same.1 ∙ c'.reported_so, c.out_is ∙ ap (λ (z : List ℕ). shown spelling z) same.2 ∙ sym c'.out_is)

-- ---- moves, and what goes out as it is

pub few_moves : FewMoves
few_moves s spelling source n outcome out r = let c = came s spelling source n outcome out r in (c.ran.allowed, c.ran.bound)

pub none_goes_out : NoControlGoesOut
none_goes_out s source n outcome out r =
    let c = came s Bytes source n outcome out r in
    subst (λ (z : List ℕ). All (λ byte. (is_of_row byte || byte == 8) ≡ true) z) (sym c.out_is)
    (no_control_goes_out s.limits s.options source n c.end (pages_of s source n) c.answers)
