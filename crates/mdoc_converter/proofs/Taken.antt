-- Macros that are called say nothing of a word, and those that take one say it once.
use Rattle.std.proofs.Common.{◌≡◌, ℕ, ◌≤◌, ◌+◌, ◌-◌, List, [], ◌∷◌, ◌++◌, length, Bool, true, false, not, ◌&&◌, nat_lt, if◌then◌else◌, refl, sym, ◌∙◌, ap, subst, append-nil, length-append, arith}
use Rattle.std.proofs.lemmas.Bool.Decides.{nat_tests}
use Rattle.std.specs.Prelude.{codes}
use Rattle.std.specs.Str.{bytes_eq}
use Prim.Native.Char.{code}
use Rattle.mdoc_layout.specs.declared.acts.Act.{Act}
use Rattle.mdoc_layout.specs.declared.acts.Act.TheVariants as acts
use Rattle.mdoc_layout.specs.declared.acts.Request.TheVariants as requests
use Rattle.mdoc_layout.specs.declared.acts.Text.TheVariants as texts
use Rattle.mdoc_layout.specs.declared.macros.Font.{Font}
use Rattle.mdoc_layout.specs.declared.macros.Font.TheVariants.{Roman, Bold, Italic}
use Rattle.mdoc_layout.specs.declared.macros.Macro.{Macro}
use Rattle.mdoc_layout.specs.declared.macros.Macro.TheVariants as macros
use Rattle.mdoc_layout.specs.declared.macros.Pair.TheVariants as pairs
use Rattle.mdoc_layout.specs.declared.page.Following.{Following}
use Rattle.mdoc_layout.specs.declared.page.Following.TheVariants as followings
use Rattle.mdoc_layout.specs.declared.page.Page.{Page}
use Rattle.mdoc_layout.specs.declared.page.Parameters.TheVariants.{First, Further}
use Rattle.mdoc_layout.specs.declared.page.Split.{Split}
use Rattle.mdoc_layout.specs.declared.page.Split.TheVariants.{Never, Next, Always}
use Rattle.mdoc_words.specs.Calls.{called}
use Rattle.mdoc_words.specs.Macros.{part_font}
use Rattle.mdoc_words.specs.Meanings.{is_nothing, taken_by}
use Rattle.mdoc_words.specs.Rules.{after_first, after_later, after_name, author, author_line_by, function, function_begins, heads_line, include, is_conditional, is_first, is_listed, is_none, is_outside, keeps_link, link, listing, named, named_author, named_under_condition, naming, parameter, prefix, reference, splits, takes_no_more, with_call, with_place}
use Rattle.mdoc_words.specs.Taking.{taken_word}
use Rattle.mdoc_layout.specs.Seeing.{Offered, offered, three}
use Rattle.mdoc_layout.specs.Texts.{closer}
use Rattle.mdoc_converter.specs.WrittenLines.{Authors, Usual, said_of, way_of}
use Rattle.mdoc_converter.proofs.Outcomes.{is_quiet, of_word, never, takes_plain, Keeps, keeps_if, keeps_no_more, Out, out, out_if, out_seen_if, out_act_if, same_page, function_closes_out}
use Rattle.mdoc_converter.proofs.Ways.{said_part}

-- ---- macros that are called

one_closer : (cs : List ℕ) (c : ℕ) → nat_lt (length cs) 8 ≡ true → length (cs ++ c ∷ []) ≤ 8
one_closer cs c e = rw (length-append cs (c ∷ [])) (grind (arith, nat_tests))

enclosed : (t : Bool) (c : ℕ) (q : Page) → takes_plain q.call.taker ≡ true → nat_lt (length q.closers) 8 ≡ t
    → Keeps q (if t then record q { closers = q.closers ++ c ∷ [] } else q)
enclosed true c q f e =
    record {
      scan = refl;
      word = refl;
      marks = refl;
      few = λ l. one_closer q.closers c e;
      going = refl;
      comment = refl;
      line = refl;
      fits = f;
      way = refl;
    }
enclosed false c q f e = same_page q f

pub called_out : (m : Macro) (q : Page) → takes_plain q.call.taker ≡ true → Out (called m q) q []
unfolding is_quiet of_word
called_out (macros.Encloses pair) q f =
    out _ q acts.Nothing acts.Nothing acts.Nothing [] refl refl refl refl (enclosed (nat_lt (length q.closers) 8) (closer pair) q f refl)
called_out (macros.Opens pair) q f =
    out _ q acts.Nothing acts.Nothing acts.Nothing [] refl refl refl refl (keeps_if (nat_lt q.place.depth 255) q (with_place (record q.place { depth = q.place.depth + 1 }) q) q (assumption) (same_page q f))
called_out (macros.Closes pair) q f =
    let keeps = keeps_if (nat_lt 0 q.place.depth) q (with_place (record q.place { depth = q.place.depth - 1 }) q) q (assumption) (same_page q f) in
    out_seen_if (is_nothing pair) _ _ _ q []
    (out _ q acts.Apart acts.Nothing acts.Nothing [] refl refl refl refl keeps)
    (out _ q (acts.Close (texts.Closing (closer pair))) (acts.Close texts.Empty) acts.Nothing [] refl refl refl refl keeps)
called_out macros.Joins q f =
    out_seen_if q.call.first _ _ q q []
    (out q q acts.Nothing acts.Nothing acts.Nothing [] refl refl refl refl (same_page q f))
    (out q q acts.Join acts.Nothing acts.Nothing [] refl refl refl refl (same_page q f))
called_out macros.Apostrophe q f = out q q (acts.Close texts.Apostrophe) acts.Join acts.Nothing [] refl refl refl refl (same_page q f)
called_out macros.FunctionCloses q f = function_closes_out q f
called_out macros.Cell q f = out q q acts.Cell acts.Nothing acts.Nothing [] refl refl refl refl (same_page q f)
called_out m q f = out q q acts.Nothing acts.Nothing acts.Nothing [] refl refl refl refl (same_page q f)

-- ---- macros that take a word

pub said_in : (font : Font) (p q : Page) → Keeps q p → Out (offered p (three (acts.Word font) acts.Nothing acts.Nothing)) q q.word
unfolding is_quiet of_word
said_in font p q keeps = out p q (acts.Word font) acts.Nothing acts.Nothing q.word refl refl refl (append-nil q.word) keeps

after_act : (x : Act) (font : Font) (p q : Page) → is_quiet x ≡ true → of_word x q.word ≡ [] → Keeps q p
    → Out (offered p (three x (acts.Word font) acts.Nothing)) q q.word
unfolding is_quiet of_word
after_act x font p q i e keeps =
    out p q x (acts.Word font) acts.Nothing q.word i refl refl (ap (λ (xs : List ℕ). xs ++ (q.word ++ [])) e ∙ append-nil q.word) keeps

name_kept : (q : Page) → takes_plain q.call.taker ≡ true → Keeps q (naming q)
name_kept q f = keeps_if (is_none q.name) q (record q { name = q.word; place = record q.place { width = q.call.width } }) q (assumption) (same_page q f)

pub name_headed : (q p : Page) → Keeps q p → Keeps q (after_name p)
name_headed q p i = record {
  scan = i.scan;
  word = i.word;
  marks = i.marks;
  few = i.few;
  going = i.going;
  comment = i.comment;
  line = i.line;
  fits = i.fits;
  way = i.way;
}

conditional_kept : (q : Page) → takes_plain q.call.taker ≡ true → Keeps q (named_under_condition q)
conditional_kept q f =
    record { scan = refl; word = refl; marks = refl; few = λ l. l; going = refl; comment = refl; line = refl; fits = f; way = refl }

named_out : (q : Page) → takes_plain q.call.taker ≡ true → Out (named q) q q.word
unfolding is_quiet of_word
named_out q f =
    out_if (is_conditional q.place.section) _ _ q q.word
    (after_act acts.Naming Bold (named_under_condition q) q refl refl (conditional_kept q f))
    (out_if (heads_line (naming q)) _ _ q q.word
    (after_act (acts.Hanging _) Bold (after_name (naming q)) q refl refl (name_headed q (naming q) (name_kept q f)))
    (said_in Bold (naming q) q (name_kept q f)))

listing_kept : (q p : Page) → Keeps q p → Keeps q (listing p)
listing_kept q p i = record {
  scan = i.scan;
  word = i.word;
  marks = i.marks;
  few = i.few;
  going = i.going;
  comment = i.comment;
  line = i.line;
  fits = i.fits;
  way = i.way;
}

parameter_out : (q : Page) → takes_plain q.call.taker ≡ true → Out (parameter q) q q.word
unfolding is_quiet of_word
parameter_out q f =
    let first = keeps_if (is_first q.place.parameters) q (with_place (record q.place { parameters = Further }) q) q (assumption) (same_page q f) in
    out_if (is_outside q.place.parameters) _ _ q q.word (said_in Italic q q (same_page q f))
    (out_seen_if (is_listed q) _ _ _ q q.word
    (after_act (acts.Close texts.Comma) Italic (listing (after_first q)) q refl refl (listing_kept q (after_first q) first))
    (said_in Italic (listing (after_first q)) q (listing_kept q (after_first q) first)))

pub no_more : (q : Page) → takes_plain q.call.taker ≡ true → way_of q.call.taker ≡ Usual → Keeps q (takes_no_more q)
no_more q f u = keeps_no_more q q u (same_page q f)

reference_out : (q : Page) → takes_plain q.call.taker ≡ true → way_of q.call.taker ≡ Usual → Out (reference q) q q.word
unfolding is_quiet of_word
reference_out q f u =
    out_if (not q.call.some) _ _ q q.word (said_in Roman q q (same_page q f))
    (out (takes_no_more q) q (acts.Close (texts.Opening pairs.Parentheses)) (acts.Joined Roman) (acts.Close (texts.Closing (code ")"))) q.word
    refl refl refl (append-nil q.word) (no_more q f u))

-- what stands after a long word comes later
after_kept : (following : Following) (q p : Page) → Keeps q p → Keeps q (after_later following p)
after_kept following q p i = record {
  scan = i.scan;
  word = i.word;
  marks = i.marks;
  few = i.few;
  going = i.going;
  comment = i.comment;
  line = i.line;
  fits = i.fits;
  way = i.way;
}

pub prefix_out : (q : Page) → takes_plain q.call.taker ≡ true → way_of q.call.taker ≡ Usual → Out (prefix q) q q.word
unfolding is_quiet of_word
prefix_out q f u =
    out_if q.lay.partial _ _ q q.word (said_in Roman _ q (after_kept followings.Joint q (takes_no_more q) (no_more q f u)))
    (out (takes_no_more q) q (acts.Word Roman) acts.Join acts.Nothing q.word refl refl refl (append-nil q.word) (no_more q f u))

include_out : (q : Page) → takes_plain q.call.taker ≡ true → way_of q.call.taker ≡ Usual → Out (include q) q q.word
unfolding is_quiet of_word
include_out q f u =
    out_if q.lay.partial _ _ q q.word
    (out _ q (acts.Text (texts.Opening pairs.Signs)) (acts.Joined Italic) acts.Nothing q.word refl refl refl (append-nil q.word)
    (after_kept followings.Angle q (takes_no_more q) (no_more q f u)))
    (out (takes_no_more q) q (acts.Text (texts.Opening pairs.Signs)) (acts.Joined Italic) (acts.Close (texts.Closing (code ">"))) q.word
    refl refl refl (append-nil q.word) (no_more q f u))

link_out : (q : Page) → takes_plain q.call.taker ≡ true → way_of q.call.taker ≡ Usual → Out (link q) q q.word
unfolding is_quiet of_word takes_plain
link_out q f u =
    out_if q.call.some _ _ q q.word
    (out_if q.call.listed _ _ q q.word (said_in Italic q q (same_page q f))
    (after_act acts.Fresh Italic (listing q) q refl refl (listing_kept q q (same_page q f))))
    (out_if (keeps_link q) _ _ q q.word (after_act (acts.Request requests.Link) Bold q q refl refl (same_page q f))
    (said_in Bold _ q (record {
      scan = refl;
      word = refl;
      marks = refl;
      few = λ l. l;
      going = refl;
      comment = refl;
      line = refl;
      fits = refl;
      way = sym u;
    })))

function_begins_out : (p q : Page) → Keeps q p → Out (function_begins p) q q.word
unfolding is_quiet of_word
function_begins_out p q keeps =
    out_if p.lay.partial _ _ q q.word
    (said_in Bold _ q (record {
      scan = keeps.scan;
      word = keeps.word;
      marks = keeps.marks;
      few = keeps.few;
      going = keeps.going;
      comment = keeps.comment;
      line = keeps.line;
      fits = keeps.fits;
      way = keeps.way;
    }))
    (out p q (acts.Word Bold) (acts.Close (texts.Opening pairs.Parentheses)) acts.Join q.word refl refl refl (append-nil q.word) keeps)

function_out : (q : Page) → takes_plain q.call.taker ≡ true → Out (function q) q q.word
unfolding is_quiet of_word
function_out q f =
    out_if (not q.call.some) _ _ q q.word (function_begins_out q q (same_page q f))
    (out_if (not q.call.listed) _ _ q q.word (said_in Italic (listing q) q (listing_kept q q (same_page q f)))
    (after_act (acts.Close texts.Comma) Italic q q refl refl (same_page q f)))

-- no more is taken, and a function's parameters begin
opens_kept : (q : Page) → takes_plain q.call.taker ≡ true → way_of q.call.taker ≡ Usual
    → Keeps q (with_place (record q.place { parameters = First }) (takes_no_more q))
opens_kept q f u =
    let i = no_more q f u in
    record {
      scan = i.scan;
      word = i.word;
      marks = i.marks;
      few = i.few;
      going = i.going;
      comment = i.comment;
      line = i.line;
      fits = i.fits;
      way = i.way;
    }

release_kept : (q : Page) → way_of q.call.taker ≡ Usual → Keeps q (with_call (record q.call { taker = macros.BsdRelease }) q)
unfolding takes_plain
release_kept q u =
    record { scan = refl; word = refl; marks = refl; few = λ l. l; going = refl; comment = refl; line = refl; fits = refl; way = sym u }

-- ---- authors

split_kept : (split : Split) (q : Page) → takes_plain q.call.taker ≡ true → Keeps q (with_place (record q.place { split = split }) q)
split_kept split q f =
    record { scan = refl; word = refl; marks = refl; few = λ l. l; going = refl; comment = refl; line = refl; fits = f; way = refl }

author_line_out : (split : Split) (q : Page) → takes_plain q.call.taker ≡ true → Out (author_line_by split q) q q.word
unfolding is_quiet of_word
author_line_out Always q f = after_act (acts.Request requests.Break) Roman q q refl refl (same_page q f)
author_line_out Next q f = said_in Roman (with_place (record q.place { split = Always }) q) q (split_kept Always q f)
author_line_out Never q f = said_in Roman q q (same_page q f)

named_author_out : (q : Page) → takes_plain q.call.taker ≡ true → Out (named_author q) q q.word
unfolding named_author
named_author_out q f =
    out_if (q.call.first && not q.call.some) _ _ q q.word (author_line_out q.place.split q f) (said_in Roman q q (same_page q f))

splits_out : (split : Split) (q : Page) → takes_plain q.call.taker ≡ true → Out (splits split q) q []
unfolding is_quiet of_word
splits_out split q f =
    out _ q acts.Nothing acts.Nothing acts.Nothing [] refl refl refl refl (split_kept split q f)

-- by which option a word is, or none
author_by : Bool → Bool → Page → Offered
author_by split nosplit q = if split then splits Always q else if nosplit then splits Never q else named_author q

author_out_by : (t u : Bool) (q : Page) → takes_plain q.call.taker ≡ true → Out (author_by t u q) q (if t then [] else if u then [] else q.word)
unfolding author_by
author_out_by true u q f = splits_out Always q f
author_out_by false true q f = splits_out Never q f
author_out_by false false q f = named_author_out q f

author_out : (q : Page) → takes_plain q.call.taker ≡ true → Out (author q) q (said_of Authors q.word)
unfolding author_by
author_out q f = author_out_by (bytes_eq q.word (codes "-split")) (bytes_eq q.word (codes "-nosplit")) q f

-- ---- by the macro that takes the word

usual_is : (m : Macro) (q : Page) → q.call.taker ≡ m → way_of m ≡ Usual → way_of q.call.taker ≡ Usual
usual_is m q e u = ap way_of e ∙ u

as_said : (m : Macro) (l : Offered) (q : Page) → q.word ≡ said_of (way_of m) q.word → Out l q q.word → Out l q (said_of (way_of m) q.word)
as_said m l q e o = subst (λ (xs : List ℕ). Out l q xs) e o

taken_by_out : (m : Macro) (q : Page) → q.call.taker ≡ m → takes_plain m ≡ true → takes_plain q.call.taker ≡ true
    → Out (taken_by m q) q (said_of (way_of m) q.word)
unfolding is_quiet of_word takes_plain
taken_by_out (macros.Words font) q e h f = said_in font q q (same_page q f)
taken_by_out (macros.Part letter) q e h f =
    as_said (macros.Part letter) _ q (said_part letter q.word) (said_in (part_font letter) q q (same_page q f))
taken_by_out macros.Flag q e h f = out q q acts.Flag acts.Nothing acts.Nothing q.word refl refl refl (append-nil q.word) (same_page q f)
taken_by_out macros.Argument q e h f = said_in Italic q q (same_page q f)
taken_by_out macros.Path q e h f = said_in Italic q q (same_page q f)
taken_by_out macros.Mail q e h f = said_in Italic q q (same_page q f)
taken_by_out macros.SectionName q e h f = said_in Italic q q (same_page q f)
taken_by_out macros.Variable q e h f = said_in Italic q q (same_page q f)
taken_by_out macros.ResultType q e h f = said_in Italic q q (same_page q f)
taken_by_out macros.Declaration q e h f = said_in Bold q q (same_page q f)
taken_by_out macros.Configuration q e h f = said_in Bold q q (same_page q f)
taken_by_out macros.Name q e h f = named_out q f
taken_by_out macros.Parameter q e h f = parameter_out q f
taken_by_out macros.Reference q e h f = reference_out q f (usual_is macros.Reference q e refl)
taken_by_out macros.Author q e h f = author_out q f
taken_by_out macros.Section q e h f = never h
taken_by_out macros.Link q e h f = link_out q f (usual_is macros.Link q e refl)
taken_by_out macros.Function q e h f = function_out q f
taken_by_out (macros.Stands system) q e h f =
    out _ q (acts.Text (texts.System system)) (acts.Close texts.FixedSpace) (acts.Joined Roman) q.word refl refl refl (append-nil q.word)
    (no_more q f (usual_is (macros.Stands system) q e refl))
taken_by_out macros.Att q e h f = never h
taken_by_out macros.Standard q e h f = never h
taken_by_out macros.Library q e h f = never h
taken_by_out macros.Bsd q e h f =
    out _ q (acts.Word Roman) (acts.Close texts.Bsd) acts.Nothing q.word refl refl refl (append-nil q.word) (release_kept q (usual_is macros.Bsd q e refl))
taken_by_out macros.BsdRelease q e h f =
    out _ q acts.Release acts.Nothing acts.Nothing q.word refl refl refl (append-nil q.word) (no_more q f (usual_is macros.BsdRelease q e refl))
taken_by_out macros.Prefix q e h f = prefix_out q f (usual_is macros.Prefix q e refl)
taken_by_out macros.OwnOpens q e h f = prefix_out q f (usual_is macros.OwnOpens q e refl)
taken_by_out macros.OwnCloses q e h f =
    out _ q (acts.Joined Roman) acts.Nothing acts.Nothing q.word refl refl refl (append-nil q.word) (no_more q f (usual_is macros.OwnCloses q e refl))
taken_by_out macros.FunctionOpens q e h f =
    function_begins_out (with_place (record q.place { parameters = First }) (takes_no_more q)) q (opens_kept q f (usual_is macros.FunctionOpens q e refl))
taken_by_out macros.Include q e h f = include_out q f (usual_is macros.Include q e refl)
taken_by_out m q e h f = said_in Roman q q (same_page q f)

pub taken_out : (q : Page) → takes_plain q.call.taker ≡ true → Out (taken_word q) q (said_of (way_of q.call.taker) q.word)
unfolding taken_word
taken_out q f = taken_by_out q.call.taker q refl f f
