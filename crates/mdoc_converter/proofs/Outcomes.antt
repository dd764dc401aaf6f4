-- What a step says of a word, and what it leaves of the page as it was.
use Rattle.std.proofs.Common.{◌≡◌, ℕ, ◌≤◌, List, [], ◌++◌, length, Bool, true, false, not, ◌&&◌, if◌then◌else◌, refl, sym, ◌∙◌, ap}
use Prim.Native.Char.{code}
use Rattle.mdoc_layout.specs.declared.acts.Act.{Act}
use Rattle.mdoc_layout.specs.declared.acts.Act.TheVariants as acts
use Rattle.mdoc_layout.specs.declared.acts.Request.TheVariants as requests
use Rattle.mdoc_layout.specs.declared.acts.Sized.{Sized}
use Rattle.mdoc_layout.specs.declared.acts.Sized.TheVariants as sizes
use Rattle.mdoc_layout.specs.declared.acts.Text.TheVariants as texts
use Rattle.mdoc_layout.specs.declared.macros.Font.{Font}
use Rattle.mdoc_layout.specs.declared.macros.Font.TheVariants.{Roman, Bold}
use Rattle.mdoc_layout.specs.declared.macros.Macro.{Macro}
use Rattle.mdoc_layout.specs.declared.macros.Macro.TheVariants as macros
use Rattle.mdoc_layout.specs.declared.page.Call.{Call}
use Rattle.mdoc_layout.specs.declared.page.Lay.{Lay}
use Rattle.mdoc_layout.specs.declared.page.Page.{Page}
use Rattle.mdoc_layout.specs.declared.seen.Seen.{Seen}
use Rattle.mdoc_words.specs.Calls.{leaves, pending}
use Rattle.mdoc_words.specs.Meanings.{pending_from}
use Rattle.mdoc_words.specs.Rules.{after_name, function_closes, heads_line, is_synopsis, takes_no_more}
use Rattle.mdoc_layout.specs.Laying.{laid, with_lay}
use Rattle.mdoc_layout.specs.LayingOut.{lay_out}
use Rattle.mdoc_words.specs.Options.{is_heading, reads_for}
use Rattle.mdoc_layout.specs.OwnLines.{fresh, was_sized}
use Rattle.mdoc_converter.specs.Reading.{said}
use Rattle.mdoc_converter.specs.Saying.{part_of, parts_seen, words_of}
use Rattle.mdoc_layout.specs.Seeing.{Offered, offered, three}
use Rattle.mdoc_converter.specs.WrittenLines.{prints_otherwise, Usual, way_of}

-- ---- acts that leave all of the page but how text is laid out

unfoldable pub is_quiet : Act → Bool
is_quiet acts.Nothing = true
is_quiet (acts.Word font) = true
is_quiet (acts.Joined font) = true
is_quiet acts.Flag = true
is_quiet acts.LastMore = true
is_quiet acts.Release = true
is_quiet acts.Own = true
is_quiet (acts.Text text) = true
is_quiet (acts.Close text) = true
is_quiet acts.Join = true
is_quiet acts.Apart = true
is_quiet acts.Space = true
is_quiet (acts.Request request) = true
is_quiet (acts.Hanging n) = true
is_quiet acts.Cell = true
is_quiet acts.Row = true
is_quiet acts.Fresh = true
is_quiet (acts.Sized sized n) = true
is_quiet (acts.Tag width) = true
is_quiet (acts.Numbered n width) = true
is_quiet (acts.Stops gap) = true
is_quiet acts.Subsection = true
is_quiet acts.Naming = true
is_quiet act = false

-- what they say of a word
unfoldable pub of_word : Act → List ℕ → List ℕ
of_word (acts.Word font) word = word
of_word (acts.Joined font) word = word
of_word acts.Flag word = word
of_word acts.LastMore word = word
of_word acts.Release word = word
of_word act word = []

pub never : {A : Type 0} → false ≡ true → A
never h = absurd (let no : false ≡ true = h in cc)

-- a page of which only the lay is another
abbrev pub Lays : Page → Page → Type 0
Lays p q = (l : Lay) × (q ≡ with_lay l p)

ended_by : (t : Bool) (font : Font) (l m : Lay) (p : Page) (bytes : List ℕ) → (if t then laid (with_lay l p) [] else laid (with_lay m p) bytes).page ≡ with_lay (if t then l else m) p
ended_by true font l m p bytes = refl
ended_by false font l m p bytes = refl

sized_page : (sized : Sized) (p : Page) → Lays p (was_sized sized (fresh p))
sized_page sizes.Indent p = (_, refl)
sized_page sizes.Inner p = (_, refl)
sized_page sizes.Tag p = (_, refl)
sized_page sizes.Hanging p = (_, refl)
sized_page sized p = (_, refl)

pub quiet-page : (act : Act) (p : Page) → is_quiet act ≡ true → Lays p (lay_out act p).page
unfolding is_quiet lay_out
quiet-page acts.Nothing p h = (p.lay, refl)
quiet-page (acts.Word font) p h = (_, ended_by _ font _ _ p _)
quiet-page (acts.Joined font) p h = (_, ended_by _ font _ _ p _)
quiet-page acts.Flag p h = (_, ended_by _ Bold _ _ p _)
quiet-page acts.LastMore p h = (_, refl)
quiet-page acts.Release p h = (_, ended_by _ Roman _ _ p _)
quiet-page acts.Own p h = (_, refl)
quiet-page (acts.Text text) p h = (_, refl)
quiet-page (acts.Close text) p h = (_, refl)
quiet-page acts.Join p h = (_, refl)
quiet-page acts.Apart p h = (_, refl)
quiet-page acts.Space p h = (_, refl)
quiet-page (acts.Request request) p h = (_, refl)
quiet-page (acts.Hanging n) p h = (_, refl)
quiet-page acts.Cell p h = (_, refl)
quiet-page acts.Row p h = (_, refl)
quiet-page acts.Fresh p h = (_, refl)
quiet-page (acts.Sized sized n) p h = sized_page sized p
quiet-page (acts.Tag width) p h = (_, refl)
quiet-page (acts.Numbered n width) p h = (_, refl)
quiet-page (acts.Stops gap) p h = (_, refl)
quiet-page acts.Subsection p h = (_, refl)
quiet-page acts.Naming p h = (_, refl)
quiet-page act p h = never h

pub quiet-word : (act : Act) (p : Page) → is_quiet act ≡ true → (part_of act p).word ≡ of_word act p.word
unfolding is_quiet of_word
quiet-word acts.Nothing p h = refl
quiet-word (acts.Word font) p h = refl
quiet-word (acts.Joined font) p h = refl
quiet-word acts.Flag p h = refl
quiet-word acts.LastMore p h = refl
quiet-word acts.Release p h = refl
quiet-word acts.Own p h = refl
quiet-word (acts.Text text) p h = refl
quiet-word (acts.Close text) p h = refl
quiet-word acts.Join p h = refl
quiet-word acts.Apart p h = refl
quiet-word acts.Space p h = refl
quiet-word (acts.Request request) p h = refl
quiet-word (acts.Hanging n) p h = refl
quiet-word acts.Cell p h = refl
quiet-word acts.Row p h = refl
quiet-word acts.Fresh p h = refl
quiet-word (acts.Sized sized n) p h = refl
quiet-word (acts.Tag width) p h = refl
quiet-word (acts.Numbered n width) p h = refl
quiet-word (acts.Stops gap) p h = refl
quiet-word acts.Subsection p h = refl
quiet-word acts.Naming p h = refl
quiet-word act p h = never h

-- ---- three such acts

pub three-page : (x y z : Act) (p : Page) → is_quiet x ≡ true → is_quiet y ≡ true → is_quiet z ≡ true → Lays p (said (three x y z) p).page
unfolding said
three-page x y z p i j k =
    let q = (lay_out x p).page in
    let r = (lay_out y q).page in
    let a = quiet-page x p i in
    let b = quiet-page y q j in
    let c = quiet-page z r k in
    (c.0, c.1 ∙ ap (with_lay c.0) (b.1 ∙ ap (with_lay b.0) a.1))

same_three : (a b c d e f : List ℕ) → a ≡ d → b ≡ e → c ≡ f → a ++ (b ++ (c ++ [])) ≡ d ++ (e ++ (f ++ []))
same_three a b c d e f i j k = cc

pub three-words : (x y z : Act) (p : Page) → is_quiet x ≡ true → is_quiet y ≡ true → is_quiet z ≡ true
    → words_of (parts_seen (three x y z) p) ≡ of_word x p.word ++ (of_word y p.word ++ (of_word z p.word ++ []))
three-words x y z p i j k =
    let q = (lay_out x p).page in
    let r = (lay_out y q).page in
    let a : q.word ≡ p.word = ap (λ (t : Page). t.word) (quiet-page x p i).1 in
    let b : r.word ≡ q.word = ap (λ (t : Page). t.word) (quiet-page y q j).1 in
    same_three (part_of x p).word (part_of y q).word (part_of z r).word (of_word x p.word) (of_word y p.word) (of_word z p.word)
    (quiet-word x p i) (quiet-word y q j ∙ ap (of_word y) a) (quiet-word z r k ∙ ap (of_word z) (b ∙ a))

-- ---- what is left as it was

-- a macro that prints its words as they stand
unfoldable pub takes_plain : Macro → Bool
takes_plain m = not (prints_otherwise m) && not (reads_for m)

-- or, where the first word of a heading is read, that
abbrev pub takes_as : Bool → Macro → Bool
takes_as true m = takes_plain m
takes_as false m = is_heading m

-- the macro that a line begins with, and whether its words call none
pub record Lined : Type 0 where
  pub macro : Macro
  pub mute : Bool

abbrev pub lined_as : Macro → Bool → Lined
lined_as m mute = record { macro = m; mute = mute }

abbrev pub lined : Call → Lined
lined c = record { macro = c.line; mute = c.plain }

abbrev pub line_in : Page → Lined
line_in p = lined p.call

pub record Keeps (q p : Page) : Type 0 where
  pub scan : p.scan ≡ q.scan
  pub word : p.word ≡ q.word
  pub marks : p.marks ≡ q.marks
  pub few : length q.closers ≤ 8 → length p.closers ≤ 8
  pub going : p.call.going ≡ q.call.going
  pub comment : p.call.comment ≡ q.call.comment
  pub line : line_in p ≡ line_in q
  pub fits : takes_plain p.call.taker ≡ true
  pub way : way_of p.call.taker ≡ way_of q.call.taker

pub keeps_if : (t : Bool) (q p r : Page) → Keeps q p → Keeps q r → Keeps q (if t then p else r)
keeps_if true q p r i j = i
keeps_if false q p r i j = j

pub keeps_no_more : (q p : Page) → way_of q.call.taker ≡ Usual → Keeps q p → Keeps q (takes_no_more p)
unfolding takes_plain
keeps_no_more q p u i = record {
  scan = i.scan;
  word = i.word;
  marks = i.marks;
  few = i.few;
  going = i.going;
  comment = i.comment;
  line = i.line;
  fits = refl;
  way = sym u;
}

-- ---- what is said

-- of the word these bytes are said
pub record Out (m : Offered) (q : Page) (xs : List ℕ) : Type 0 where
  pub x : Act
  pub y : Act
  pub z : Act
  pub seen : m.seen ≡ three x y z
  pub quiet_x : is_quiet x ≡ true
  pub quiet_y : is_quiet y ≡ true
  pub quiet_z : is_quiet z ≡ true
  pub words : of_word x q.word ++ (of_word y q.word ++ (of_word z q.word ++ [])) ≡ xs
  pub keeps : Keeps q m.page

pub out : (p q : Page) (x y z : Act) (xs : List ℕ) → is_quiet x ≡ true → is_quiet y ≡ true → is_quiet z ≡ true
    → of_word x q.word ++ (of_word y q.word ++ (of_word z q.word ++ [])) ≡ xs → Keeps q p → Out (offered p (three x y z)) q xs
out p q x y z xs i j k e keeps =
    record { x = x; y = y; z = z; seen = refl; quiet_x = i; quiet_y = j; quiet_z = k; words = e; keeps = keeps }

pub out_if : (t : Bool) (m n : Offered) (q : Page) (xs : List ℕ) → Out m q xs → Out n q xs → Out (if t then m else n) q xs
out_if true m n q xs i j = i
out_if false m n q xs i j = j

pub out_when : (t : Bool) (m n : Offered) (q : Page) (xs : List ℕ) → (t ≡ true → Out m q xs) → Out n q xs → Out (if t then m else n) q xs
out_when true m n q xs i j = i refl
out_when false m n q xs i j = j

pub out_seen_if : (t : Bool) (a b : Seen) (p q : Page) (xs : List ℕ) → Out (offered p a) q xs → Out (offered p b) q xs → Out (offered p (if t then a else b)) q xs
out_seen_if true a b p q xs i j = i
out_seen_if false a b p q xs i j = j

pub out_act_if : (t : Bool) (a b : Act) (p q : Page) (xs : List ℕ)
    → Out (offered p (three a acts.Nothing acts.Nothing)) q xs → Out (offered p (three b acts.Nothing acts.Nothing)) q xs
    → Out (offered p (three (if t then a else b) acts.Nothing acts.Nothing)) q xs
out_act_if true a b p q xs i j = i
out_act_if false a b p q xs i j = j

-- ---- nothing of a word is said: what is pending, and macros that are called

pub same_page : (q : Page) → takes_plain q.call.taker ≡ true → Keeps q q
same_page q f =
    record { scan = refl; word = refl; marks = refl; few = λ l. l; going = refl; comment = refl; line = refl; fits = f; way = refl }

pub function_closes_out : (p : Page) → takes_plain p.call.taker ≡ true → Out (function_closes p) p []
unfolding is_quiet of_word
function_closes_out p f =
    out_seen_if (is_synopsis p) _ _ _ p []
    (out _ p (acts.Close texts.FunctionEnds) (acts.Request requests.HangEnds) acts.Nothing [] refl refl refl refl assumption)
    (out _ p (acts.Close (texts.Closing (code ")"))) acts.Nothing acts.Nothing [] refl refl refl refl assumption)

pub pending_out : (m : Macro) (p : Page) → takes_plain p.call.taker ≡ true → Out (pending_from m p) p []
unfolding is_quiet of_word
pending_out macros.Flag p f = out p p (acts.Text texts.Dash) acts.Nothing acts.Nothing [] refl refl refl refl (same_page p f)
pending_out macros.Argument p f = out p p (acts.Text texts.File) (acts.Text texts.Dots) acts.Nothing [] refl refl refl refl (same_page p f)
pending_out macros.Path p f = out p p (acts.Text texts.Home) acts.Nothing acts.Nothing [] refl refl refl refl (same_page p f)
pending_out macros.Mail p f = out p p (acts.Text texts.Home) acts.Nothing acts.Nothing [] refl refl refl refl (same_page p f)
pending_out macros.Att p f = out p p (acts.Text texts.Att) acts.Nothing acts.Nothing [] refl refl refl refl (same_page p f)
pending_out (macros.Stands system) p f = out p p (acts.Text (texts.System system)) acts.Nothing acts.Nothing [] refl refl refl refl (same_page p f)
pending_out macros.Bsd p f = out p p (acts.Text texts.Bsd) acts.Nothing acts.Nothing [] refl refl refl refl (same_page p f)
pending_out macros.Name p f =
    out_if (heads_line p) _ _ p []
    (out (after_name p) p (acts.Hanging _) acts.Own acts.Nothing [] refl refl refl refl assumption)
    (out p p acts.Own acts.Nothing acts.Nothing [] refl refl refl refl (same_page p f))
pending_out macros.Function p f = function_closes_out p f
pending_out macros.Link p f =
    out_seen_if p.call.listed _ _ p p []
    (out p p (acts.Close texts.Colon) (acts.Text texts.Link) acts.Nothing [] refl refl refl refl (same_page p f))
    (out p p acts.Fresh (acts.Text texts.Link) acts.Nothing [] refl refl refl refl (same_page p f))
pending_out (macros.Encloses pair) p f = out p p (acts.Text (texts.Opening pair)) acts.Join acts.Nothing [] refl refl refl refl (same_page p f)
pending_out (macros.Opens pair) p f = out p p (acts.Text (texts.Opening pair)) acts.Join acts.Nothing [] refl refl refl refl (same_page p f)
pending_out m p f = out p p acts.Nothing acts.Nothing acts.Nothing [] refl refl refl refl (same_page p f)

pub leaves_out : (p : Page) → takes_plain p.call.taker ≡ true → way_of p.call.taker ≡ Usual → Out (leaves p) p []
unfolding leaves
leaves_out p f u =
    let d = pending_out p.call.taker p f in
    record {
      x = d.x;
      y = d.y;
      z = d.z;
      seen = d.seen;
      quiet_x = d.quiet_x;
      quiet_y = d.quiet_y;
      quiet_z = d.quiet_z;
      words = d.words;
      keeps = keeps_no_more p (pending p).page u d.keeps;
    }
