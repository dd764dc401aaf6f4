-- A line of a macro begins, its words end, and it ends.
use Rattle.std.proofs.Common.{◌≡◌, ℕ, ◌≤◌, ◌<◌, ◌+◌, List, [], ◌∷◌, ◌++◌, length, Bool, true, false, not, ◌&&◌, ◌||◌, ◌==◌, if◌then◌else◌, Option, None, Some, refl, sym, ◌∙◌, ap, subst, append_assoc, append-nil, length-append, arith}
use Rattle.std.proofs.lemmas.Bool.Decides.{nat_tests}
use Rattle.std.specs.Prelude.{codes}
use Prim.Native.Char.{code}
use Rattle.nr_units.specs.Name.{capacity, is_full}
use Rattle.mdoc_layout.specs.declared.acts.Act.TheVariants as acts
use Rattle.mdoc_layout.specs.declared.page.Escape.{Escape as Reached}
use Rattle.mdoc_layout.specs.declared.macros.Macro.{Macro}
use Rattle.mdoc_layout.specs.declared.macros.Macro.TheVariants as macros
use Rattle.mdoc_layout.specs.declared.page.Block.{Block}
use Rattle.mdoc_layout.specs.declared.page.Page.{Page}
use Rattle.mdoc_layout.specs.declared.page.Scan.{Scan}
use Rattle.mdoc_layout.specs.declared.page.Scan.TheVariants as scans
use Rattle.mdoc_converter.specs.declared.pending.Pending.TheVariants.{Nothing}
use Rattle.mdoc_words.specs.Calls.{called_by, is_item}
use Rattle.mdoc_words.specs.Macros.{macro_of}
use Rattle.mdoc_words.specs.Rules.{with_scan}
use Rattle.mdoc_words.specs.Keeping.{ends_word, in_named, keep_byte}
use Rattle.mdoc_layout.specs.LayingOut.{lay_out}
use Rattle.mdoc_layout.specs.Blocks.{is_diagnosis, item}
use Rattle.mdoc_converter.specs.Lines.{begins, begins_or_other, call_of, calls_none, named_line}
use Rattle.mdoc_converter.specs.Reading.{State, said}
use Rattle.mdoc_converter.specs.Saying.{parts_of, words_of}
use Rattle.mdoc_converter.specs.Scanning.{offer, offer_at, name_begins}
use Rattle.mdoc_layout.specs.Seeing.{Offered, offered, left, taken}
use Rattle.mdoc_converter.specs.WordLaws.{reads_at}
use Rattle.mdoc_converter.specs.WrittenLines.{Way, way_of, begins_star, each, names_no_string, Letter, Plain, Escape, are_letters, bytes_of, is_escaped, is_letter, is_plain, written, heads_words, is_mute, kept, prints_words, none_or, is_word, unless_called}
use Rattle.mdoc_converter.proofs.After.{after, next-state}
use Rattle.mdoc_converter.proofs.Begins.{begins_apart, begins_out, item_out, muted}
use Rattle.mdoc_converter.proofs.BlockEnds.{Begun, display_step, heads_step, list_step}
use Rattle.mdoc_converter.proofs.PartLines.{book_step, part_step}
use Rattle.mdoc_converter.proofs.Endings.{ends_quiet, Ended, line_ended}
use Rattle.mdoc_converter.proofs.Escapes.{and_left, and_right, both, is_not}
use Rattle.mdoc_converter.proofs.Offering.{with_page, Leads, Takes, then_takes, leads_by, takes_by}
use Rattle.mdoc_converter.proofs.Outcomes.{Lined, lined_as, never}
use Rattle.mdoc_converter.proofs.ReadWords.{not_of, between_by, between_offered}
use Rattle.mdoc_converter.proofs.TextSaid.{next-words, or_left, or_right}
use Rattle.mdoc_converter.proofs.Stepping.{At, In, Head, Manner, plainly, Stepped, in_as, out_step, step_at}
use Rattle.mdoc_converter.proofs.WholeWords.{heads_plain}
use Rattle.mdoc_converter.proofs.WordRoom.{named_offered, not_ending, no_escape, quotable_slash}

-- ---- between words

blank_offered : (head : Head) (s : State) (word marks : List ℕ) → At head s scans.Between word marks → offer (code " ") s.page ≡ offered s.page (taken acts.Nothing)
unfolding between_by
blank_offered head s word marks at = between_offered (plainly head) (code " ") s word marks at

pub blank_taken : (head : Head) (s : State) (word marks : List ℕ) → At head s scans.Between word marks → Takes (code " ") s s 1 []
unfolding said lay_out
blank_taken head s word marks at =
    takes_by (code " ") s s.page s.page acts.Nothing acts.Nothing acts.Nothing [] (blank_offered head s word marks at) refl refl

newline_offered : (head : Head) (s : State) (word marks : List ℕ) → At head s scans.Between word marks
    → offer (code "\n") s.page ≡ offered (with_scan scans.Ends s.page) (left acts.Nothing)
unfolding between_by
newline_offered head s word marks at = between_offered (plainly head) (code "\n") s word marks at

at_end : State → State
at_end s = with_page (with_scan scans.Ends s.page) s

newline_leads : (head : Head) (s : State) (word marks : List ℕ) → At head s scans.Between word marks → Leads (code "\n") s (at_end s) 1 []
unfolding said lay_out at_end
newline_leads head s word marks at =
    leads_by (code "\n") s (with_scan scans.Ends s.page) (with_scan scans.Ends s.page) acts.Nothing acts.Nothing acts.Nothing []
    (newline_offered head s word marks at) refl refl

ends_at : (head : Head) (s : State) (scan : Scan) (word marks : List ℕ) → At head s scan word marks → At head (at_end s) scans.Ends word marks
unfolding at_end
ends_at head s scan word marks at = record {
  scan_is = refl;
  word_is = at.word_is;
  marks_are = at.marks_are;
  few = at.few;
  going = at.going;
  comment = at.comment;
  line = at.line;
  fits = at.fits;
  way = at.way;
  free = at.free;
}

-- the line ends between words
pub over : (head : Head) (s : State) (word marks : List ℕ) → At head s scans.Between word marks → ends_quiet head.line.macro ≡ true → Ended (code "\n") s 12 marks
over head s word marks at h =
    let e = line_ended head (code "\n") (at_end s) word marks (ends_at head s scans.Between word marks at) h in
    record {
      next = e.next;
      steps = 1 + e.steps;
      few = (let few = e.few in omega arith);
      takes = then_takes (code "\n") s (at_end s) e.next 1 e.steps [] marks (newline_leads head s word marks at) e.takes;
      fresh = e.fresh;
    }

-- ---- a word ends

unfoldable pub given : State → State
given s = with_page (with_scan (scans.Given false) s.page) s

pub given_at : (going : Bool) (head : Manner) (s : State) (scan : Scan) (word marks : List ℕ) → In going head s scan word marks
    → In going head (given s) (scans.Given false) word marks
unfolding given
given_at going head s scan word marks at =
    in_as going head s (with_scan (scans.Given false) s.page) scan (scans.Given false) word word marks at refl at.word_is refl refl refl refl refl refl refl

in_word_rest : ℕ → Page → Offered
in_word_rest b p = if b == code "\\" then offered (with_scan scans.Escape p) (taken acts.Nothing) else keep_byte b false p

given_offered : (reached : Option Reached) (going : Bool) (head : Manner) (b : ℕ) (s : State) (word marks : List ℕ) → In going head s (in_named reached false) word marks → ends_word b ≡ true
    → offer b s.page ≡ offered (with_scan (scans.Given false) s.page) (left acts.Nothing)
unfolding offer in_word_rest
given_offered None going head b s word marks at e =
    let p = s.page in
    ap (λ (sc : Scan). offer_at sc b p) at.scan_is ∙ ap (λ (t : Bool). if t then offered (with_scan (scans.Given false) p) (left acts.Nothing) else in_word_rest b p) e
given_offered (Some reached) going head b s word marks at e =
    let p = s.page in
    named_offered false reached b p true at.scan_is (ap (λ (t : Bool). t || (b == code "\"") || (b == code "\\")) e)
    ∙ ap (λ (t : Bool). if t then offered (with_scan (scans.Given false) p) (left acts.Nothing) else in_word_rest b (with_scan scans.Word p)) e

pub given_leads : (reached : Option Reached) (going : Bool) (head : Manner) (b : ℕ) (s : State) (word marks : List ℕ) → In going head s (in_named reached false) word marks → ends_word b ≡ true
    → Leads b s (given s) 1 []
unfolding said lay_out given
given_leads reached going head b s word marks at e =
    leads_by b s (with_scan (scans.Given false) s.page) (with_scan (scans.Given false) s.page) acts.Nothing acts.Nothing acts.Nothing []
    (given_offered reached going head b s word marks at e) refl refl

-- a blank ends a word: these bytes of words were said, and the line is read between words
pub record Said (m : Head) (s : State) (all : List ℕ) : Type 0 where
  pub next : State
  pub xs : List ℕ
  pub word : List ℕ
  pub marks : List ℕ
  pub said : (rest : List ℕ) → words_of (parts_of s (code " " ∷ rest)) ≡ xs ++ words_of (parts_of next rest)
  pub state : after s (codes " ") ≡ next
  pub at : At m next scans.Between word marks
  pub total : xs ++ marks ≡ all

pub five : (k : ℕ) → k ≤ 3 → 1 + (k + 1) ≤ 16
five k l = omega arith

pub sixteen : (j k : ℕ) → j ≤ 3 → k ≤ 12 → 1 + (j + k) ≤ 16
sixteen j k l m = omega arith

-- ---- the words of a line

pub word_letters : (mute : Bool) (way : Way) (l : Letter) (ls : List Letter) → is_word mute way (l ∷ ls) ≡ true → are_letters false (l ∷ ls) ≡ true
word_letters mute way l ls h = and_left (are_letters false (l ∷ ls)) (none_or prints_words (called_by mute (kept way false (l ∷ ls)))) h

pub word_prints : (mute : Bool) (way : Way) (l : Letter) (ls : List Letter) → is_word mute way (l ∷ ls) ≡ true
    → none_or prints_words (called_by mute (kept way false (l ∷ ls))) ≡ true
word_prints mute way l ls h = and_right (are_letters false (l ∷ ls)) (none_or prints_words (called_by mute (kept way false (l ∷ ls)))) h

-- what is printed of a word that is kept so
unfoldable pub of_kept : Bool → Way → List ℕ → List ℕ
of_kept mute way word = unless_called way (called_by mute word) word

pub regrouped : (xs marks all us vs : List ℕ) → xs ++ marks ≡ all → xs ++ (marks ++ us ++ vs) ≡ all ++ (us ++ vs)
regrouped xs marks all us vs e =
    ap (λ (zs : List ℕ). xs ++ zs) (append_assoc marks us vs) ∙ sym (append_assoc xs marks (us ++ vs)) ∙ ap (λ (zs : List ℕ). zs ++ (us ++ vs)) e

-- ---- the name of a line

control_offered : (p : Page) → offer (code ".") (with_scan scans.Start p) ≡ offered (with_scan scans.Control p) (taken acts.Nothing)
unfolding offer
control_offered p = refl

pub control_taken : (s : State) → Takes (code ".") (reads_at scans.Start s) (reads_at scans.Control s) 1 []
unfolding said lay_out
control_taken s =
    takes_by (code ".") (reads_at scans.Start s) (with_scan scans.Control s.page) (with_scan scans.Control s.page) acts.Nothing acts.Nothing acts.Nothing []
    (control_offered s.page) refl refl

-- so much of a name was read
unfoldable pub reads_name : List ℕ → State → State
reads_name name s = record s { page = record s.page { scan = scans.Name; word = name }; pending = Nothing }

after_by : Bool → Bool → Bool → ℕ → Page → Offered
after_by blank newline escape b p =
    if blank then offered p (taken acts.Nothing) else
    if newline then offered (with_scan scans.Start p) (taken acts.Nothing) else
    if escape then offered (with_scan scans.ControlEscape p) (taken acts.Nothing) else name_begins b p

begins_offered : (b : ℕ) (p : Page)
    → offer b (with_scan scans.Control p) ≡ after_by ((b == code " ") || (b == code "\t")) (b == code "\n") (b == code "\\") b (with_scan scans.Control p)
unfolding offer after_by
begins_offered b p = refl

pub name_begun : (b : ℕ) (s : State) → is_plain b ≡ true → Takes b (reads_at scans.Control s) (reads_name (b ∷ []) s) 1 []
unfolding said lay_out after_by reads_name
name_begun b s h =
    let p = with_scan scans.Control s.page in
    let q = record s.page { scan = scans.Name; word = b ∷ [] } in
    let blank_or = (b == code " ") || (b == code "\t") in
    let other = not_of (ends_word b) (not_ending b h) in
    takes_by b (reads_at scans.Control s) q q acts.Nothing acts.Nothing acts.Nothing []
    (begins_offered b s.page
    ∙ ap (λ (t : Bool). after_by t (b == code "\n") (b == code "\\") b p) (or_left blank_or (b == code "\n") other)
    ∙ ap (λ (t : Bool). after_by false t (b == code "\\") b p) (or_right blank_or (b == code "\n") other)
    ∙ ap (λ (t : Bool). after_by false false t b p) (no_escape b h))
    refl refl

name_by : Bool → Bool → Bool → ℕ → Page → Offered
name_by ends escape full b p = if ends || escape || full then named_line p else offered (record p { word = p.word ++ b ∷ [] }) (taken acts.Nothing)

name_offered : (b : ℕ) (name : List ℕ) (s : State)
    → offer b (reads_name name s).page ≡ name_by (ends_word b) (b == code "\\") (is_full name) b (reads_name name s).page
unfolding offer name_by reads_name
name_offered b name s = refl

not_full : (name : List ℕ) → length name < capacity → is_full name ≡ false
not_full name l = grind (arith, nat_tests)

pub name_taken : (b : ℕ) (name : List ℕ) (s : State) → is_plain b ≡ true → length name < capacity
    → Takes b (reads_name name s) (reads_name (name ++ b ∷ []) s) 1 []
unfolding said lay_out name_by reads_name
name_taken b name s h l =
    let p = record s.page { scan = scans.Name; word = name } in
    let q = record s.page { scan = scans.Name; word = name ++ b ∷ [] } in
    takes_by b (reads_name name s) q q acts.Nothing acts.Nothing acts.Nothing []
    (name_offered b name s
    ∙ ap (λ (t : Bool). name_by t (b == code "\\") (is_full name) b p) (not_ending b h)
    ∙ ap (λ (t : Bool). name_by false t (is_full name) b p) (no_escape b h)
    ∙ ap (λ (t : Bool). name_by false false t b p) (not_full name l))
    refl refl

pub one_enough : 1 ≤ 16
one_enough = omega arith

pub name_more : (bs name : List ℕ) (s : State) (rest : List ℕ) → each is_plain bs ≡ true → length name + length bs ≤ capacity
    → words_of (parts_of (reads_name name s) (bs ++ rest)) ≡ words_of (parts_of (reads_name (name ++ bs) s) rest)
name_more [] name s rest h l = ap (λ (xs : List ℕ). words_of (parts_of (reads_name xs s) rest)) (sym (append-nil name))
name_more (b ∷ bs) name s rest h l =
    next-words b (bs ++ rest) (reads_name name s) (reads_name (name ++ b ∷ []) s) 1 [] _ one_enough
    (name_taken b name s (and_left (is_plain b) (each is_plain bs) h) (omega arith)) refl
    ∙ name_more bs (name ++ b ∷ []) s rest (and_right (is_plain b) (each is_plain bs) h)
    (let longer : length (name ++ b ∷ []) ≡ length name + length (b ∷ []) = length-append name (b ∷ []) in omega arith)
    ∙ ap (λ (xs : List ℕ). words_of (parts_of (reads_name xs s) rest)) (append_assoc name (b ∷ []) bs)

pub name_more_state : (bs name : List ℕ) (s : State) (rest : List ℕ) → each is_plain bs ≡ true → length name + length bs ≤ capacity
    → after (reads_name name s) (bs ++ rest) ≡ after (reads_name (name ++ bs) s) rest
name_more_state [] name s rest h l = ap (λ (xs : List ℕ). after (reads_name xs s) rest) (sym (append-nil name))
name_more_state (b ∷ bs) name s rest h l =
    next-state b (bs ++ rest) (reads_name name s) (reads_name (name ++ b ∷ []) s) 1 [] one_enough
    (name_taken b name s (and_left (is_plain b) (each is_plain bs) h) (omega arith))
    ∙ name_more_state bs (name ++ b ∷ []) s rest (and_right (is_plain b) (each is_plain bs) h)
    (let longer : length (name ++ b ∷ []) ≡ length name + length (b ∷ []) = length-append name (b ∷ []) in omega arith)
    ∙ ap (λ (xs : List ℕ). after (reads_name xs s) rest) (append_assoc name (b ∷ []) bs)

-- ---- the macro begins the line

-- the page that it begins on
unfoldable pub beginning : Macro → List ℕ → State → Page
beginning m name s = record s.page { scan = scans.Between; word = name; closers = []; call = call_of m }

pub macro_offered : (b : ℕ) (m : Macro) (name : List ℕ) (s : State) → ends_word b ≡ true → macro_of name ≡ Some m
    → offer b (reads_name name s).page ≡ begins m (beginning m name s)
unfolding name_by reads_name beginning
macro_offered b m name s e f =
    let p = record s.page { scan = scans.Name; word = name } in
    name_offered b name s ∙ ap (λ (t : Bool). name_by t (b == code "\\") (is_full name) b p) e
    ∙ ap (λ (o : Option Macro). begins_or_other o (record p { scan = scans.Between; closers = [] })) f

-- its words are taken as the macro takes them
abbrev pub head_of : Macro → Bool → Head
head_of m mute = record { line = record { macro = m; mute = mute }; way = way_of m }

begun_on : (m : Macro) (name : List ℕ) (s : State) → s.page.marks ≡ [] → heads_words m ≡ true → Begun (head_of m (calls_none m)) (beginning m name s) name
unfolding beginning
begun_on m name s marks h = record {
  scan_is = refl;
  word_is = refl;
  marks_are = marks;
  few = omega arith;
  going = refl;
  comment = refl;
  line = refl;
  fits = heads_plain m h;
  way = refl;
}

-- the words of an item's line may call macros, or call none
item_step : (b : ℕ) (s : State) (q : Page) (word : List ℕ) → Begun (head_of macros.Item false) q word
    → offer b s.page ≡ item q → Stepped (head_of macros.Item (is_diagnosis q.block.kind)) b s 1 [] scans.Between word []
item_step b s q word begun e =
    let mute = is_diagnosis q.block.kind in
    let head = head_of macros.Item mute in
    step_at head b s 1 [] q.scan scans.Between q.word word [] begun.scan_is begun.word_is
    (out_step head b s (item q) (muted mute q) [] [] e
    (item_out q (ap (λ (l : Lined). l.mute) begun.line) begun.fits begun.way)
    begun.marks_are begun.few begun.going begun.comment
    (ap (λ (l : Lined). lined_as l.macro mute) begun.line) begun.way (λ n. refl))

apart_step : (b : ℕ) (m : Macro) (name : List ℕ) (s : State) → s.page.marks ≡ [] → ends_word b ≡ true → macro_of name ≡ Some m → heads_words m ≡ true
    → begins_apart m ≡ true → Stepped (head_of m (is_mute s.page.block m)) b (reads_name name s) 1 [] scans.Between name []
unfolding begins beginning
apart_step b macros.ListEnds name s marks e f h c =
    let q = beginning macros.ListEnds name s in
    list_step (head_of macros.ListEnds false) b (reads_name name s) q name (begun_on macros.ListEnds name s marks h) (macro_offered b macros.ListEnds name s e f)
apart_step b macros.DisplayEnds name s marks e f h c =
    let q = beginning macros.DisplayEnds name s in
    display_step q.block.kind (head_of macros.DisplayEnds false) b (reads_name name s) q name (begun_on macros.DisplayEnds name s marks h)
    (macro_offered b macros.DisplayEnds name s e f)
apart_step b macros.BookEnds name s marks e f h c =
    let q = beginning macros.BookEnds name s in
    book_step (head_of macros.BookEnds false) b (reads_name name s) q name (begun_on macros.BookEnds name s marks h) (macro_offered b macros.BookEnds name s e f)
apart_step b (macros.Part letter) name s marks e f h c =
    let q = beginning (macros.Part letter) name s in
    part_step letter (head_of (macros.Part letter) true) b (reads_name name s) q name (begun_on (macros.Part letter) name s marks h)
    (macro_offered b (macros.Part letter) name s e f)
apart_step b macros.Subsection name s marks e f h c =
    let q = beginning macros.Subsection name s in
    heads_step (head_of macros.Subsection false) b (reads_name name s) q name (begun_on macros.Subsection name s marks h)
    (macro_offered b macros.Subsection name s e f)
apart_step b macros.Item name s marks e f h c =
    let q = beginning macros.Item name s in
    item_step b (reads_name name s) q name (begun_on macros.Item name s marks h) (macro_offered b macros.Item name s e f)
apart_step b m name s marks e f h c = never c

not_item : (m : Macro) → begins_apart m ≡ false → is_item m ≡ false
not_item macros.Item c = never (sym c)
not_item m c = refl

or_none : (t : Bool) → (t || false) ≡ t
or_none true = refl
or_none false = refl

-- of other macros only itself says whether words call
mute_by : (m : Macro) (block : Block) → begins_apart m ≡ false → is_mute block m ≡ calls_none m
mute_by m block c = ap (λ (u : Bool). calls_none m || (u && is_diagnosis block.kind)) (not_item m c) ∙ or_none (calls_none m)

macro_step_by : (t : Bool) (b : ℕ) (m : Macro) (name : List ℕ) (s : State) → s.page.marks ≡ [] → ends_word b ≡ true → macro_of name ≡ Some m
    → heads_words m ≡ true → begins_apart m ≡ t → Stepped (head_of m (is_mute s.page.block m)) b (reads_name name s) 1 [] scans.Between name []
unfolding beginning
macro_step_by true b m name s marks e f h c = apart_step b m name s marks e f h c
macro_step_by false b m name s marks e f h c =
    let q = beginning m name s in
    out_step (head_of m (is_mute s.page.block m)) b (reads_name name s) (begins m q) q [] [] (macro_offered b m name s e f)
    (begins_out m q h c (heads_plain m h) refl) marks (omega arith) refl refl
    (ap (lined_as m) (sym (mute_by m s.page.block c))) refl (λ k. refl)

pub macro_step : (b : ℕ) (m : Macro) (name : List ℕ) (s : State) → s.page.marks ≡ [] → ends_word b ≡ true → macro_of name ≡ Some m → heads_words m ≡ true
    → Stepped (head_of m (is_mute s.page.block m)) b (reads_name name s) 1 [] scans.Between name []
macro_step b m name s marks e f h = macro_step_by (begins_apart m) b m name s marks e f h refl

pub thirteen : (k : ℕ) → k ≤ 12 → 1 + k ≤ 16
thirteen k l = omega arith

pub two_enough : 1 + 1 ≤ 16
two_enough = omega arith

-- ---- the whole line

pub short_name : (name : List ℕ) (m : Macro) → macro_of name ≡ Some m → length name ≤ 3
short_name [] m e = absurd (let no : None ≡ Some m = e in cc)
short_name (a ∷ []) m e = absurd (let no : None ≡ Some m = e in cc)
short_name (a ∷ b ∷ []) m e = omega arith
short_name (a ∷ b ∷ c ∷ []) m e = omega arith
short_name (a ∷ b ∷ c ∷ d ∷ rest) m e = absurd (let no : None ≡ Some m = e in cc)

-- ---- no string is named in it

not_and : (a b : Bool) → a ≡ false → not (a && b) ≡ true
not_and a b e = ap (λ (t : Bool). not (t && b)) e

pub plain_names : (bs rest : List ℕ) → each is_plain bs ≡ true → names_no_string rest ≡ true → names_no_string (bs ++ rest) ≡ true
plain_names [] rest h e = e
plain_names (b ∷ bs) rest h e =
    both (not ((b == code "\\") && begins_star (bs ++ rest))) (names_no_string (bs ++ rest))
    (not_and (b == code "\\") (begins_star (bs ++ rest)) (no_escape b (and_left (is_plain b) (each is_plain bs) h)))
    (plain_names bs rest (and_right (is_plain b) (each is_plain bs) h) e)

pub no_star : (b : ℕ) → is_escaped b ≡ true → (b == code "*") ≡ false
no_star b h =
    is_not (b == code "*")
    (and_right (not (b == code "\"") && not (b == code "\n")) (not (b == code "*"))
    (and_left (not (b == code "\"") && not (b == code "\n") && not (b == code "*")) (not (b == code "\\")) h))

pub no_slash : (b : ℕ) → is_escaped b ≡ true → (b == code "\\") ≡ false
no_slash b h =
    is_not (b == code "\\") (and_right (not (b == code "\"") && not (b == code "\n") && not (b == code "*")) (not (b == code "\\")) h)

plain_bytes : Bool → ℕ → List ℕ
plain_bytes t b = if t then codes "\"\"" else b ∷ []

plain_slash : (quoted : Bool) (b : ℕ) → is_letter quoted (Plain b) ≡ true → (b == code "\\") ≡ false
plain_slash true b h = quotable_slash b h
plain_slash false b h = no_escape b h

letter_by : (t : Bool) (b : ℕ) (rest : List ℕ) → (b == code "\\") ≡ false → names_no_string rest ≡ true → names_no_string (plain_bytes t b ++ rest) ≡ true
unfolding plain_bytes
letter_by true b rest h e = e
letter_by false b rest h e =
    both (not ((b == code "\\") && begins_star rest)) (names_no_string rest) (not_and (b == code "\\") (begins_star rest) h) e

letter_names : (quoted : Bool) (l : Letter) (rest : List ℕ) → is_letter quoted l ≡ true → names_no_string rest ≡ true
    → names_no_string (bytes_of quoted l ++ rest) ≡ true
unfolding plain_bytes
letter_names quoted (Plain b) rest h e = letter_by (quoted && (b == code "\"")) b rest (plain_slash quoted b h) e
letter_names quoted (Escape b) rest h e =
    both (not (b == code "*")) (not ((b == code "\\") && begins_star rest) && names_no_string rest) (ap not (no_star b h))
    (both (not ((b == code "\\") && begins_star rest)) (names_no_string rest) (not_and (b == code "\\") (begins_star rest) (no_slash b h)) e)

pub letters_names : (quoted : Bool) (ls : List Letter) (rest : List ℕ) → are_letters quoted ls ≡ true → names_no_string rest ≡ true
    → names_no_string (written quoted ls ++ rest) ≡ true
letters_names quoted [] rest h e = e
letters_names quoted (l ∷ ls) rest h e =
    subst (λ (xs : List ℕ). names_no_string xs ≡ true) (sym (append_assoc (bytes_of quoted l) (written quoted ls) rest))
    (letter_names quoted l (written quoted ls ++ rest) (and_left (is_letter quoted l) (are_letters quoted ls) h)
    (letters_names quoted ls rest (and_right (is_letter quoted l) (are_letters quoted ls) h) e))
