-- A line of a row, and the lines of options and formats, part by part.
use Rattle.std.proofs.Common.{◌≡◌, ℕ, List, [], ◌∷◌, ◌++◌, Bool, true, false, if◌then◌else◌, Option, sym, ◌∙◌, ap, subst}
use Prim.Native.Char.{code}
use Rattle.tbl_reader.specs.Commands.{is_command}
use Rattle.tbl_reader.specs.Ending.{is_begin, is_open_in, line_closed, closed, finished, wrong_at_end}
use Rattle.tbl_reader.specs.Fields.{continues}
use Rattle.tbl_reader.specs.HeadLines.{head_line, head_ended, options_line, formats_line, formats_after, formats_said, formats_judged, formats_taken, formats_ended, wrong_in, with_newline}
use Rattle.tbl_reader.specs.Pages.{Page, Effect, effect, and_then, line_of, rest_of}
use Rattle.tbl_reader.specs.Reading.{read}
use Rattle.tbl_reader.specs.RowLines.{all_ended, line_cleaned, line_continued, row_line}
use Rattle.tbl_reader.specs.Telling.{Piece, Tells, piece}
use Rattle.tbl_reader.specs.declared.complaint.Kind.{Kind}
use Rattle.tbl_reader.specs.declared.complaint.Kind.TheVariants.{OpenTable}
use Rattle.tbl_reader.specs.declared.formats.Formats.{Formats}
use Rattle.tbl_reader.specs.declared.telling.Tell.TheVariants as tells
use Rattle.tbl_reader.proofs.Hearing.{page_then, tells_append, tells_then}

-- a page is so, and one who hears what is said has heard it
pub record Comes {A S : Type 0} (shows : A → S → Type 0) (hears : Piece → S → S) (e : Effect) (q : Page) (a b : A) : Type 0 where
  pub page : q ≡ e.page
  pub emitted : Tells shows hears e.pieces a b

pub comes_then : {A S : Type 0} (shows : A → S → Type 0) (hears : Piece → S → S) (e : Effect) (f : Page → Effect) (q r : Page) (a b c : A)
    → q ≡ e.page → Tells shows hears e.pieces a b → r ≡ (f q).page → Tells shows hears (f q).pieces b c → Comes shows hears (and_then e f) r a c
comes_then shows hears e f q r a b c h t k u = record { page = page_then e f q r h k; emitted = tells_then shows hears e f q a b c h t u }

comes_as : {A S : Type 0} (shows : A → S → Type 0) (hears : Piece → S → S) (e f : Effect) (q : Page) (a b : A) → e ≡ f → Comes shows hears e q a b → Comes shows hears f q a b
comes_as shows hears e f q a b same h = subst (λ (x : Effect). Comes shows hears x q a b) same h

pub row_comes : {A S : Type 0} (shows : A → S → Type 0) (hears : Piece → S → S) (p q r t : Page) (alone : Bool) (a b c : A)
    → q ≡ line_cleaned p → alone ≡ continues (line_of p) → r ≡ (all_ended q).page → Tells shows hears (all_ended q).pieces a b
    → t ≡ (line_continued alone r).page → Tells shows hears (line_continued alone r).pieces b c → Comes shows hears (row_line p) t a c
row_comes shows hears p q r t alone a b c pairs is page emitted page2 told2 =
    comes_then shows hears (all_ended (line_cleaned p)) (line_continued (continues (line_of p))) r t a b c
    (page ∙ ap (λ (x : Page). (all_ended x).page) pairs) (subst (λ (x : Page). Tells shows hears (all_ended x).pieces a b) pairs emitted)
    (page2 ∙ ap (λ (x : Bool). (line_continued x r).page) is) (subst (λ (x : Bool). Tells shows hears (line_continued x r).pieces b c) is told2)

head_goes_on : (p : Page) → is_command (code "E") (line_of p) ≡ false → head_line p ≡ and_then (options_line p) formats_line
head_goes_on p e = ap (λ (t : Bool). if t then head_ended p else and_then (options_line p) formats_line) e

pub head_comes : {A S : Type 0} (shows : A → S → Type 0) (hears : Piece → S → S) (p q r : Page) (a b c : A) → is_command (code "E") (line_of p) ≡ false
    → q ≡ (options_line p).page → Tells shows hears (options_line p).pieces a b → r ≡ (formats_line q).page → Tells shows hears (formats_line q).pieces b c
    → Comes shows hears (head_line p) r a c
head_comes shows hears p q r a b c e h t k u =
    comes_as shows hears (and_then (options_line p) formats_line) (head_line p) r a c (sym (head_goes_on p e))
    (comes_then shows hears (options_line p) formats_line q r a b c h t k u)

end_goes_on : (p : Page) → is_begin p.state.mode ≡ false → finished p ≡ and_then (line_closed p) closed
end_goes_on p e = ap (λ (t : Bool). if t then effect p (wrong_at_end (OpenTable p.state.line) false p.state ∷ []) else and_then (line_closed p) closed) e

pub end_comes : {A S : Type 0} (shows : A → S → Type 0) (hears : Piece → S → S) (p q r : Page) (a b c : A) → is_begin p.state.mode ≡ false
    → q ≡ (line_closed p).page → Tells shows hears (line_closed p).pieces a b → r ≡ (closed q).page → Tells shows hears (closed q).pieces b c
    → Comes shows hears (finished p) r a c
end_comes shows hears p q r a b c e h t k u =
    comes_as shows hears (and_then (line_closed p) closed) (finished p) r a c (sym (end_goes_on p e))
    (comes_then shows hears (line_closed p) closed q r a b c h t k u)

pub line_closes : {A S : Type 0} (shows : A → S → Type 0) (hears : Piece → S → S) (p q : Page) (a b : A) → is_open_in p.state.mode p ≡ true
    → (q ≡ (read (code "\n") p).page) × Tells shows hears (read (code "\n") p).pieces a b → Comes shows hears (line_closed p) q a b
line_closes shows hears p q a b e h =
    comes_as shows hears (read (code "\n") p) (line_closed p) q a b (sym (ap (λ (t : Bool). if t then read (code "\n") p else effect p []) e)) (record { page = h.0; emitted = h.1 })

-- formats were read, and judged
pub formats_come : {A S : Type 0} (shows : A → S → Type 0) (hears : Piece → S → S) (p : Page) (first f : Formats) (text : List ℕ) (kind : Option Kind) (q r : Page) (a b d e : A)
    → first ≡ p.state.formats → text ≡ rest_of p → f ≡ formats_after first (with_newline text) → Tells shows hears (formats_said first (with_newline text)) a b
    → Tells shows hears (piece tells.FormatsEnd [] ∷ []) b d → kind ≡ wrong_in f p → q ≡ formats_taken f p
    → r ≡ (formats_judged kind q).page → Tells shows hears (formats_judged kind q).pieces d e → Comes shows hears (formats_ended p) r a e
formats_come shows hears p first f text kind q r a b d e same_first same_text read_is emitted end kind_is q_is r_is judged =
    let whole = with_newline (rest_of p) in
    let g = formats_after p.state.formats whole in
    let f_is : f ≡ g =
    read_is ∙ ap (λ (x : Formats). formats_after x (with_newline text)) same_first ∙ ap (λ (xs : List ℕ). formats_after p.state.formats (with_newline xs)) same_text in
    let said : Tells shows hears (formats_said p.state.formats whole) a b =
    subst (λ (xs : List ℕ). Tells shows hears (formats_said p.state.formats (with_newline xs)) a b) same_text
    (subst (λ (x : Formats). Tells shows hears (formats_said x (with_newline text)) a b) same_first emitted) in
    let kind_g : kind ≡ wrong_in g p = kind_is ∙ ap (λ (x : Formats). wrong_in x p) f_is in
    let q_g : q ≡ formats_taken g p = q_is ∙ ap (λ (x : Formats). formats_taken x p) f_is in
    let judged_g : Tells shows hears (formats_judged (wrong_in g p) (formats_taken g p)).pieces d e =
    subst (λ (x : Page). Tells shows hears (formats_judged (wrong_in g p) x).pieces d e) q_g (subst (λ (k : Option Kind). Tells shows hears (formats_judged k q).pieces d e) kind_g judged) in
    record {
      page = r_is ∙ ap (λ (k : Option Kind). (formats_judged k q).page) kind_g ∙ ap (λ (x : Page). (formats_judged (wrong_in g p) x).page) q_g;
      emitted = tells_append shows hears (formats_said p.state.formats whole ++ piece tells.FormatsEnd [] ∷ []) (formats_judged (wrong_in g p) (formats_taken g p)).pieces a d e
          (tells_append shows hears (formats_said p.state.formats whole) (piece tells.FormatsEnd [] ∷ []) a b d said end) judged_g;
    }
