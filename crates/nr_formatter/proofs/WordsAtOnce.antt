-- A word and the blank after it, put at once.
use Rattle.std.proofs.Common.{◌≡◌, ℕ, ◌≤◌, Bool, true, false, ◌&&◌, List, length, take, All, sym, ap, ◌∙◌, arith, length-take-le}
use Rattle.std.specs.Prelude.{is_none, nat_lt, not}
use Rattle.nr_settings.specs.Fonts.{present_look}
use Rattle.nr_fill.specs.Piece.{Collected, line_cells, reads_field}
use Rattle.nr_fill.specs.Plain.{IsPlain}
use Rattle.nr_fill.specs.Runs.{add_run, add_word}
use Rattle.nr_fill.specs.Runs as runs
use Rattle.nr_fill.proofs.Measures.{line_cells-end_word}
use Rattle.nr_fill.proofs.RunLemmas.{add_run-none}
use Rattle.nr_formatter.specs.Access.{collected, is_filling, margins, with_collected}
use Rattle.nr_formatter.specs.Many.Runs.{AfterWord, IsGap, PutsWord, gaps_plainly, manner_of, run_put}
use Rattle.nr_formatter.specs.declared.formatter.Formatter.{Formatter}
use Rattle.nr_formatter.specs.declared.many.runs.Gap.{Gap}
use Rattle.nr_formatter.specs.declared.many.runs.Gap.TheVariants as gaps
use Rattle.nr_formatter.specs.declared.tasks.After.TheVariants as afters
use Rattle.nr_formatter.specs.declared.tasks.Task.TheVariants as tasks
use Rattle.nr_formatter.specs.Lines.{fits_line}

and_trues : (a b : Bool) → (a && b) ≡ true → (((a && true) && true) && b) ≡ true
and_trues true b is = is
and_trues false b is = is

module _ (n : ℕ) (bs : List ℕ) (f : Formatter) (prefix : n ≤ length bs) (plain : All IsPlain (take n bs)) (ends : runs.EndsWord (manner_of f).ends n bs (collected f))
    (fits : line_cells (add_word (margins f) (present_look f.settings.fonts) (take n bs) (collected f)) ≤ f.line.limit) where
  -- the run, before the blank
  abbrev put : Formatter
  put = run_put (take n bs) f

  -- a blank does nothing but end it
  word_gaps : gaps_plainly put ≡ true
  word_gaps =
      let run_is = add_run-none (margins f) (present_look f.settings.fonts) (take n bs) (collected f) ends.word (omega (arith, ends.some, length-take-le n bs prefix)) in
      let some : is_none (collected put).word ≡ false = ap (λ (c : Collected). is_none c.word) run_is in
      let field : reads_field (collected put).word ≡ false = ap (λ (c : Collected). reads_field c.word) run_is in
      rw (some, field) (and_trues (is_filling f) (not f.breaks && not (nat_lt 0 (length f.store.words))) ends.ends_is)

  word_gap : IsGap put
  word_gap = record { plain = word_gaps; within = fits }

  -- the word is put, and the blank read
  pub puts_word : (g h : Formatter) (gap : Gap) → g ≡ with_collected (add_word (margins f) (present_look f.settings.fonts) (take n bs) (collected f)) f → AfterWord g gap h
      → PutsWord bs f (record { count = n; gap = gap }) h
  puts_word g h gaps.Left is afterwards = absurd afterwards
  puts_word g h gaps.Flows is afterwards = record {
    prefix = prefix;
    plain = plain;
    within = λ some. omega (arith, fits, line_cells-end_word (collected put));
    gap = (word_gap, afterwards ∙ ap (λ (x : Formatter). record x { task = tasks.Flow afters.Text false }) is);
    below = λ read. ends.within;
    blank = λ read. ends.blank;
    stops = λ no. absurd (let wrong : true ≡ false = no in cc);
    left = λ no. absurd (let wrong : true ≡ false = no in cc);
  }
  puts_word g h gaps.Reads is afterwards = record {
    prefix = prefix;
    plain = plain;
    within = λ some. omega (arith, fits, line_cells-end_word (collected put));
    gap = (word_gap, ap (λ (x : Formatter). fits_line (collected x)) (sym is) ∙ afterwards.0, afterwards.1 ∙ is);
    below = λ read. ends.within;
    blank = λ read. ends.blank;
    stops = λ no. absurd (let wrong : true ≡ false = no in cc);
    left = λ no. absurd (let wrong : true ≡ false = no in cc);
  }
