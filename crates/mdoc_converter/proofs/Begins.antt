-- What a macro says where it begins a line: nothing of its words.
use Rattle.std.proofs.Common.{◌≡◌, ℕ, ◌+◌, List, [], ◌++◌, Bool, true, false, not, ◌||◌, if◌then◌else◌, refl, sym, ◌∙◌, ap}
use Rattle.mdoc_layout.specs.declared.acts.Act.TheVariants as acts
use Rattle.mdoc_layout.specs.declared.acts.Request.TheVariants as requests
use Rattle.mdoc_layout.specs.declared.acts.Sized.TheVariants as sizes
use Rattle.mdoc_layout.specs.declared.acts.Text.TheVariants as texts
use Rattle.mdoc_layout.specs.declared.macros.Font.{Font}
use Rattle.mdoc_layout.specs.declared.macros.Font.TheVariants.{Roman, Bold}
use Rattle.mdoc_layout.specs.declared.macros.Macro.{Macro}
use Rattle.mdoc_layout.specs.declared.macros.Macro.TheVariants as macros
use Rattle.mdoc_layout.specs.declared.page.Kind.{Kind}
use Rattle.mdoc_layout.specs.declared.page.Kind.TheVariants as kinds
use Rattle.mdoc_layout.specs.declared.page.Last.{Last}
use Rattle.mdoc_layout.specs.declared.page.Last.TheVariants as lasts
use Rattle.mdoc_layout.specs.declared.page.Page.{Page}
use Rattle.mdoc_layout.specs.Blocks.{before_item, counted_item, counts, inner, is_bare, is_diagnosis, is_list, item, item_head, item_head_of, line_opens, new_item, plainly, space, stands_close, taking}
use Rattle.mdoc_words.specs.Rules.{is_synopsis}
use Rattle.mdoc_converter.specs.Lines.{after, begins, book, function_line, is_see_also, include_line, line_before, stands_after, synopsis_line}
use Rattle.mdoc_layout.specs.Seeing.{none}
use Rattle.mdoc_converter.specs.WrittenLines.{heads_words, Usual, way_of}
use Rattle.mdoc_converter.proofs.Outcomes.{is_quiet, of_word, never, Lined, lined_as, takes_plain, Keeps, Out, out, out_if, out_when, out_act_if, same_page}
use Rattle.mdoc_converter.proofs.Taken.{called_out}

quiet_by : (t : Bool) → is_quiet (if t then acts.Request requests.Break else acts.Space) ≡ true
unfolding is_quiet
quiet_by true = refl
quiet_by false = refl

silent_by : (t : Bool) (w : List ℕ) → of_word (if t then acts.Request requests.Break else acts.Space) w ++ [] ≡ []
unfolding of_word
silent_by true w = refl
silent_by false w = refl

quiet_before : (kind : Last) (p : Page) → is_quiet (line_before kind p) ≡ true
quiet_before kind p = quiet_by (stands_after p.place.last kind)

silent_before : (kind : Last) (p : Page) (w : List ℕ) → of_word (line_before kind p) w ++ [] ≡ []
silent_before kind p w = silent_by (stands_after p.place.last kind) w

kept_after : (kind : Last) (q : Page) → takes_plain q.call.taker ≡ true → Keeps q (after kind q)
kept_after kind q f = record { scan = refl; word = refl; marks = refl; few = λ l. l; going = refl; comment = refl; line = refl; fits = f; way = refl }

pub none_out : (q : Page) → takes_plain q.call.taker ≡ true → Out (none q) q []
unfolding is_quiet of_word
none_out q f = out q q acts.Nothing acts.Nothing acts.Nothing [] refl refl refl refl (same_page q f)

synopsis_out : (kind : Last) (q : Page) → takes_plain q.call.taker ≡ true → Out (synopsis_line kind q) q []
unfolding is_quiet of_word
synopsis_out kind q f =
    out_if (not (is_synopsis q)) _ _ q [] (none_out q f)
    (out (after kind q) q (line_before kind q) acts.Nothing acts.Nothing [] (quiet_before kind q) refl refl (silent_before kind q q.word) (kept_after kind q f))

function_out : (q : Page) → takes_plain q.call.taker ≡ true → Out (function_line q) q []
unfolding is_quiet of_word
function_out q f =
    out_if (not (is_synopsis q)) _ _ q [] (none_out q f)
    (out (after lasts.Function q) q (line_before lasts.Function q) (acts.Request requests.Hangs) acts.Nothing []
    (quiet_before lasts.Function q) refl refl (silent_before lasts.Function q q.word) (kept_after lasts.Function q f))

include_out : (q : Page) → takes_plain q.call.taker ≡ true → Out (include_line q) q []
unfolding is_quiet of_word
include_out q f =
    out_if (not (is_synopsis q)) _ _ q [] (none_out q f)
    (out (after lasts.Include q) q (line_before lasts.Include q) (acts.Text texts.Include) acts.Nothing []
    (quiet_before lasts.Include q) refl refl (silent_before lasts.Include q q.word) (kept_after lasts.Include q f))

-- ---- items, and lines that are indented

kept_taking : (p q : Page) (font : Font) → way_of q.call.taker ≡ Usual → Keeps q p → Keeps q (taking font p)
unfolding takes_plain
kept_taking p q font u i = record {
  scan = i.scan;
  word = i.word;
  marks = i.marks;
  few = i.few;
  going = i.going;
  comment = i.comment;
  line = i.line;
  fits = refl;
  way = sym u;
}

kept_new : (q : Page) → takes_plain q.call.taker ≡ true → way_of q.call.taker ≡ Usual → Keeps q (new_item q)
kept_new q f u =
    kept_taking (record q { place = record q.place { depth = 0 } }) q Roman u
    (record { scan = refl; word = refl; marks = refl; few = λ l. l; going = refl; comment = refl; line = refl; fits = f; way = refl })

kept_counts : (p q : Page) → Keeps q p → Keeps q (counts p)
kept_counts p q i = record {
  scan = i.scan;
  word = i.word;
  marks = i.marks;
  few = i.few;
  going = i.going;
  comment = i.comment;
  line = i.line;
  fits = i.fits;
  way = i.way;
}

-- a page whose line's words call no macro, or may
abbrev pub muted : Bool → Page → Page
muted t p = record p { call = record p.call { plain = t } }

kept_muted : (t : Bool) (p q : Page) → Keeps q p → Keeps (muted t q) (muted t p)
kept_muted t p q i = record {
  scan = i.scan;
  word = i.word;
  marks = i.marks;
  few = i.few;
  going = i.going;
  comment = i.comment;
  line = ap (λ (l : Lined). lined_as l.macro t) i.line;
  fits = i.fits;
  way = i.way;
}

kept_loud : (t : Bool) (p q : Page) → t ≡ false → q.call.plain ≡ false → Keeps q p → Keeps (muted t q) p
kept_loud t p q e f i = record {
  scan = i.scan;
  word = i.word;
  marks = i.marks;
  few = i.few;
  going = i.going;
  comment = i.comment;
  line = i.line ∙ ap (lined_as q.call.line) (f ∙ sym e);
  fits = i.fits;
  way = i.way;
}

kept_counted : (t : Bool) (p q : Page) → q.call.plain ≡ false → way_of q.call.taker ≡ Usual → Keeps q p
    → Keeps (muted t q) (if t then plainly (taking Bold (counts p)) else counts p)
kept_counted true p q f u i = kept_muted true (taking Bold (counts p)) q (kept_taking (counts p) q Bold u (kept_counts p q i))
kept_counted false p q f u i = kept_loud false (counts p) q refl f (kept_counts p q i)

quiet_space : (t : Bool) → is_quiet (space t) ≡ true
unfolding is_quiet
quiet_space true = refl
quiet_space false = refl

space_word : (t : Bool) (w : List ℕ) → of_word (space t) w ≡ []
unfolding of_word
space_word true w = refl
space_word false w = refl

quiet_item_by : (t u c : Bool) → is_quiet (if t then space c else if u then acts.Fresh else acts.Request requests.Space) ≡ true
unfolding is_quiet
quiet_item_by true u c = quiet_space c
quiet_item_by false true c = refl
quiet_item_by false false c = refl

item_word_by : (t u c : Bool) (w : List ℕ) → of_word (if t then space c else if u then acts.Fresh else acts.Request requests.Space) w ≡ []
unfolding of_word
item_word_by true u c w = space_word c w
item_word_by false true c w = refl
item_word_by false false c w = refl

quiet_head : (kind : Kind) (p : Page) → is_quiet (item_head_of kind p) ≡ true
unfolding is_quiet
quiet_head kinds.Bullet p = refl
quiet_head kinds.Dash p = refl
quiet_head kinds.Number p = refl
quiet_head kinds.Tag p = refl
quiet_head kinds.Hang p = refl
quiet_head kinds.Column p = refl
quiet_head kind p = refl

head_word : (kind : Kind) (p : Page) (w : List ℕ) → of_word (item_head_of kind p) w ≡ []
unfolding of_word
head_word kinds.Bullet p w = refl
head_word kinds.Dash p w = refl
head_word kinds.Number p w = refl
head_word kinds.Tag p w = refl
head_word kinds.Hang p w = refl
head_word kinds.Column p w = refl
head_word kind p w = refl

no_words : (xs ys : List ℕ) → xs ≡ [] → ys ≡ [] → xs ++ (ys ++ ([] ++ [])) ≡ []
no_words xs ys e f = ap (λ (zs : List ℕ). zs ++ (ys ++ [])) e ∙ ap (λ (zs : List ℕ). zs ++ []) f

outside_list : (kind : Kind) → not (is_list kind) ≡ true → is_diagnosis kind ≡ false
outside_list kinds.Diagnosis h = never h
outside_list kind h = refl

-- a list of `-diag` has heads whose words call no macro
pub item_out : (q : Page) → q.call.plain ≡ false → takes_plain q.call.taker ≡ true → way_of q.call.taker ≡ Usual
    → Out (item q) (muted (is_diagnosis q.block.kind) q) []
unfolding is_quiet of_word
item_out q quiet f u =
    let p = counted_item (new_item q) in
    let t = is_diagnosis q.block.kind in
    let close = stands_close q.block || not q.block.begun in
    out_when (not (is_list q.block.kind)) _ _ (muted t q) []
    (λ h.
    out (new_item q) (muted t q) acts.Nothing acts.Nothing acts.Nothing [] refl refl refl refl
    (kept_loud t (new_item q) q (outside_list q.block.kind h) quiet (kept_new q f u)))
    (out p (muted t q) (before_item q) (item_head p) acts.Nothing []
    (quiet_item_by close (is_bare q) (stands_close q.block)) (quiet_head p.block.kind p) refl
    (no_words (of_word (before_item q) q.word) (of_word (item_head p) q.word) (item_word_by close (is_bare q) (stands_close q.block) q.word) (head_word p.block.kind p q.word))
    (kept_counted t (new_item q) q quiet u (kept_new q f u)))

indented_out : (q : Page) → takes_plain q.call.taker ≡ true → way_of q.call.taker ≡ Usual → Out (line_opens q) q []
unfolding is_quiet of_word
indented_out q f u =
    out (taking Roman q) q (acts.Sized sizes.Indent (inner q.block + 6)) acts.Nothing acts.Nothing [] refl refl refl refl (kept_taking q q Roman u (same_page q f))

book_out : (q : Page) → takes_plain q.call.taker ≡ true → Out (book q) q []
unfolding is_quiet of_word
book_out q f =
    let p = record q { place = record q.place { reference = true; authors = 0 }; parts = [] } in
    let keeps : Keeps q p =
    record { scan = refl; word = refl; marks = refl; few = λ l. l; going = refl; comment = refl; line = refl; fits = f; way = refl } in
    out_act_if (is_see_also q.place.section) acts.Space acts.Nothing p q []
    (out p q acts.Space acts.Nothing acts.Nothing [] refl refl refl refl keeps)
    (out p q acts.Nothing acts.Nothing acts.Nothing [] refl refl refl refl keeps)

-- those whose lines begin with more than acts that leave all but how text is laid out
abbrev pub begins_apart : Macro → Bool
begins_apart macros.ListEnds = true
begins_apart macros.DisplayEnds = true
begins_apart macros.BookEnds = true
begins_apart macros.Subsection = true
begins_apart macros.Item = true
begins_apart (macros.Part letter) = true
begins_apart m = false

pub begins_out : (m : Macro) (q : Page) → heads_words m ≡ true → begins_apart m ≡ false → takes_plain q.call.taker ≡ true → way_of q.call.taker ≡ way_of m → Out (begins m q) q []
unfolding begins is_quiet of_word
begins_out macros.Title q h c f u = never h
begins_out macros.System q h c f u = never h
begins_out macros.Section q h c f u = never h
begins_out macros.Subsection q h c f u = never (sym c)
begins_out macros.Paragraph q h c f u = out _ q acts.Space acts.Nothing acts.Nothing [] refl refl refl refl (kept_after lasts.Heading q f)
begins_out macros.Describes q h c f u = out q q (acts.Text texts.Description) acts.Nothing acts.Nothing [] refl refl refl refl (same_page q f)
begins_out macros.Silent q h c f u = never h
begins_out macros.Spaces q h c f u = never h
begins_out macros.Defines q h c f u = never h
begins_out macros.Book q h c f u = book_out q f
begins_out macros.BookEnds q h c f u = never (sym c)
begins_out (macros.Part letter) q h c f u = never (sym c)
begins_out macros.Keeps q h c f u = never h
begins_out macros.KeepEnds q h c f u = never h
begins_out macros.Table q h c f u = never h
begins_out macros.TableEnds q h c f u = never h
begins_out macros.FontEnds q h c f u = out q q (acts.Request (requests.Font Roman)) acts.Nothing acts.Nothing [] refl refl refl refl (same_page q f)
begins_out macros.Exits q h c f u = never h
begins_out macros.Returns q h c f u = never h
begins_out macros.List q h c f u = never h
begins_out macros.Display q h c f u = never h
begins_out macros.Item q h c f u = never (sym c)
begins_out macros.ListEnds q h c f u = never (sym c)
begins_out macros.DisplayEnds q h c f u = never (sym c)
begins_out macros.Line q h c f u = indented_out q f u
begins_out macros.LiteralLine q h c f u = indented_out q f u
begins_out macros.ResultType q h c f u = synopsis_out lasts.ResultType q f
begins_out macros.Function q h c f u = function_out q f
begins_out macros.FunctionOpens q h c f u = function_out q f
begins_out macros.Variable q h c f u = synopsis_out lasts.Variable q f
begins_out macros.Declaration q h c f u = synopsis_out lasts.Declaration q f
begins_out macros.Configuration q h c f u = synopsis_out lasts.Configuration q f
begins_out macros.Include q h c f u = include_out q f
begins_out m q h c f u = called_out m q f
