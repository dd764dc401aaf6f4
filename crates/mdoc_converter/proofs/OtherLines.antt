-- Empty lines and comments say nothing.
use Rattle.std.proofs.Common.{◌≡◌, ℕ, ◌≤◌, List, [], ◌∷◌, ◌++◌, Bool, true, false, ◌==◌, if◌then◌else◌, refl, sym, ◌∙◌, ap, subst, arith}
use Rattle.std.specs.Prelude.{codes}
use Prim.Native.Char.{code}
use Rattle.mdoc_layout.specs.declared.acts.Act.{Act}
use Rattle.mdoc_layout.specs.declared.acts.Act.TheVariants as acts
use Rattle.mdoc_layout.specs.declared.acts.Text.TheVariants as texts
use Rattle.mdoc_layout.specs.declared.page.Page.{Page}
use Rattle.mdoc_layout.specs.declared.page.Scan.{Scan}
use Rattle.mdoc_layout.specs.declared.page.Scan.TheVariants as scans
use Rattle.mdoc_layout.specs.declared.seen.Seen.{Seen}
use Rattle.mdoc_words.specs.Rules.{with_scan}
use Rattle.mdoc_layout.specs.LayingOut.{lay_out}
use Rattle.mdoc_converter.specs.Reading.{State, said}
use Rattle.mdoc_converter.specs.Saying.{parts_of, parts_seen, words_of}
use Rattle.mdoc_converter.specs.Scanning.{offer}
use Rattle.mdoc_layout.specs.Seeing.{offered, three, and_taken, taken, two}
use Rattle.mdoc_converter.specs.WordLaws.{reads_at}
use Rattle.mdoc_converter.specs.WrittenLines.{each, is_text}
use Rattle.mdoc_converter.proofs.After.{after, next-state, Fresh}
use Rattle.mdoc_converter.proofs.Endings.{is_laid, three_laid}
use Rattle.mdoc_converter.proofs.Escapes.{and_left, and_right, is_not}
use Rattle.mdoc_converter.proofs.Offering.{Takes, takes_by}
use Rattle.mdoc_converter.proofs.Outcomes.{is_quiet}
use Rattle.mdoc_converter.proofs.TextSaid.{next-words}

-- what a line says, and that another begins after it
pub record Said (s : State) (bs said : List ℕ) : Type 0 where
  pub words : words_of (parts_of (reads_at scans.Start s) bs) ≡ said
  pub fresh : Fresh (after (reads_at scans.Start s) bs)

one_enough : 1 ≤ 16
one_enough = omega arith

-- ---- an empty line

empty_seen : Bool → Seen
empty_seen t = if t then and_taken (two (acts.Text texts.Empty) acts.Ends) else taken acts.Space

empty_offered : (t : Bool) (s : State) → s.page.lay.literal ≡ t
    → offer (code "\n") (reads_at scans.Start s).page ≡ offered (with_scan scans.Start s.page) (empty_seen t)
unfolding offer empty_seen
empty_offered t s e = ap (λ (u : Bool). offered (with_scan scans.Start s.page) (empty_seen u)) e

silent_said : (x y : Act) (s : State) → is_laid x ≡ true → is_laid y ≡ true → s.page.marks ≡ []
    → offer (code "\n") (reads_at scans.Start s).page ≡ offered (with_scan scans.Start s.page) (and_taken (three x y acts.Nothing))
    → words_of (parts_seen (three x y acts.Nothing) (with_scan scans.Start s.page)) ≡ [] → Said s (codes "\n") []
unfolding is_laid is_quiet
silent_said x y s i j none e silent =
    let start = reads_at scans.Start s in
    let p = with_scan scans.Start s.page in
    let l = three_laid x y acts.Nothing p i j refl in
    let takes = takes_by (code "\n") start p (said (three x y acts.Nothing) p).page x y acts.Nothing [] e refl silent in
    record {
      words = next-words (code "\n") [] start _ 1 [] [] one_enough takes refl;
      fresh =
          subst Fresh (sym (next-state (code "\n") [] start _ 1 [] one_enough takes))
          (record { scan_is = ap (λ (r : Page). r.scan) l.1; marks_are = ap (λ (r : Page). r.marks) l.1 ∙ none });
    }

empty_by : (t : Bool) (s : State) → s.page.lay.literal ≡ t → s.page.marks ≡ [] → Said s (codes "\n") []
unfolding is_laid is_quiet empty_seen
empty_by true s e none = silent_said (acts.Text texts.Empty) acts.Ends s refl refl none (empty_offered true s e) refl
empty_by false s e none = silent_said acts.Space acts.Nothing s refl refl none (empty_offered false s e) refl

pub empty_said : (s : State) → s.page.marks ≡ [] → Said s (codes "\n") []
empty_said s none = empty_by s.page.lay.literal s refl none

-- ---- a comment

-- a byte that says nothing
turned : (b : ℕ) (from to : Scan) (s : State) → offer b (with_scan from s.page) ≡ offered (with_scan to s.page) (taken acts.Nothing)
    → Takes b (reads_at from s) (reads_at to s) 1 []
unfolding said lay_out
turned b from to s e =
    takes_by b (reads_at from s) (with_scan to s.page) (with_scan to s.page) acts.Nothing acts.Nothing acts.Nothing [] e refl refl

comment_offered : (b : ℕ) (t : Bool) (p : Page) → (b == code "\n") ≡ t
    → offer b (with_scan scans.Comment p) ≡ offered (with_scan (if t then scans.Start else scans.Comment) p) (taken acts.Nothing)
unfolding offer
comment_offered b t p e = ap (λ (u : Bool). offered (with_scan (if u then scans.Start else scans.Comment) p) (taken acts.Nothing)) e

record Rest (s : State) (bs : List ℕ) : Type 0 where
  words : words_of (parts_of (reads_at scans.Comment s) (bs ++ codes "\n")) ≡ []
  state : after (reads_at scans.Comment s) (bs ++ codes "\n") ≡ reads_at scans.Start s

comment_rest : (bs : List ℕ) (s : State) → each is_text bs ≡ true → Rest s bs
comment_rest [] s h =
    let takes = turned (code "\n") scans.Comment scans.Start s (comment_offered (code "\n") true s.page refl) in
    record {
      words = next-words (code "\n") [] (reads_at scans.Comment s) _ 1 [] [] one_enough takes refl;
      state = next-state (code "\n") [] (reads_at scans.Comment s) _ 1 [] one_enough takes;
    }
comment_rest (b ∷ bs) s h =
    let later = comment_rest bs s (and_right (is_text b) (each is_text bs) h) in
    let takes = turned b scans.Comment scans.Comment s
    (comment_offered b false s.page (is_not (b == code "\n") (and_left (is_text b) (each is_text bs) h))) in
    record {
      words = next-words b (bs ++ codes "\n") (reads_at scans.Comment s) _ 1 [] [] one_enough takes later.words;
      state = next-state b (bs ++ codes "\n") (reads_at scans.Comment s) _ 1 [] one_enough takes ∙ later.state;
    }

dot_offered : (p : Page) → offer (code ".") (with_scan scans.Start p) ≡ offered (with_scan scans.Control p) (taken acts.Nothing)
unfolding offer
dot_offered p = refl

slash_offered : (p : Page) → offer (code "\\") (with_scan scans.Control p) ≡ offered (with_scan scans.ControlEscape p) (taken acts.Nothing)
unfolding offer
slash_offered p = refl

quote_offered : (p : Page) → offer (code "\"") (with_scan scans.ControlEscape p) ≡ offered (with_scan scans.Comment p) (taken acts.Nothing)
unfolding offer
quote_offered p = refl

pub comment_said : (bs : List ℕ) (s : State) → s.page.marks ≡ [] → each is_text bs ≡ true → Said s (codes ".\\\"" ++ bs ++ codes "\n") []
comment_said bs s none h =
    let rest = bs ++ codes "\n" in
    let dot = turned (code ".") scans.Start scans.Control s (dot_offered s.page) in
    let slash = turned (code "\\") scans.Control scans.ControlEscape s (slash_offered s.page) in
    let quote = turned (code "\"") scans.ControlEscape scans.Comment s (quote_offered s.page) in
    let later = comment_rest bs s h in
    record {
      words =
          next-words (code ".") (code "\\" ∷ code "\"" ∷ rest) (reads_at scans.Start s) _ 1 [] [] one_enough dot
          (next-words (code "\\") (code "\"" ∷ rest) (reads_at scans.Control s) _ 1 [] [] one_enough slash
          (next-words (code "\"") rest (reads_at scans.ControlEscape s) _ 1 [] [] one_enough quote later.words));
      fresh =
          subst Fresh
          (sym (next-state (code ".") (code "\\" ∷ code "\"" ∷ rest) (reads_at scans.Start s) _ 1 [] one_enough dot
          ∙ next-state (code "\\") (code "\"" ∷ rest) (reads_at scans.Control s) _ 1 [] one_enough slash
          ∙ next-state (code "\"") rest (reads_at scans.ControlEscape s) _ 1 [] one_enough quote ∙ later.state))
          (record { scan_is = refl; marks_are = none });
    }
