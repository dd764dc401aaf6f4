-- Whether the blanks of a word between quotes stay together is so for all of it.
use Rattle.std.proofs.Common.{◌≡◌, Bool, true, false, not, ◌&&◌, if◌then◌else◌, refl, sym, ◌∙◌, ap}
use Rattle.std.specs.Prelude.{codes}
use Rattle.std.specs.Str.{bytes_eq}
use Rattle.mdoc_layout.specs.declared.macros.Macro.{Macro}
use Rattle.mdoc_layout.specs.declared.macros.Macro.TheVariants as macros
use Rattle.mdoc_layout.specs.declared.page.Page.{Page}
use Rattle.mdoc_layout.specs.declared.page.Parameters.{Parameters}
use Rattle.mdoc_layout.specs.declared.page.Parameters.TheVariants.{Outside, First, Further}
use Rattle.mdoc_layout.specs.declared.page.Place.{Place}
use Rattle.mdoc_layout.specs.declared.page.Split.{Split}
use Rattle.mdoc_layout.specs.declared.page.Split.TheVariants.{Never, Next, Always}
use Rattle.mdoc_words.specs.Meanings.{taken_by}
use Rattle.mdoc_words.specs.Rules.{after_first, author, author_line_by, function, function_begins, heads_line, include, is_conditional, is_first, is_in_synopsis, is_none, is_outside, keeps_link, link, listing, named, named_author, naming, parameter, prefix, reference, takes_no_more, with_place}
use Rattle.mdoc_words.specs.Taking.{taken_word}
use Rattle.mdoc_words.specs.Keeping.{is_whole, whole_for}
use Rattle.mdoc_layout.specs.Seeing.{Offered}
use Rattle.mdoc_converter.proofs.Outcomes.{never}

-- ---- pages that are the same in this

pub whole_kept : (m : Macro) (p q : Page) → q.place ≡ p.place → whole_for m q ≡ whole_for m p
whole_kept macros.Parameter p q e = ap (λ (place : Place). not (is_outside place.parameters)) e
whole_kept macros.Function p q e = ap (λ (place : Place). is_in_synopsis place.section) e
whole_kept m p q e = refl

pub same_whole : (p q : Page) → q.call.taker ≡ p.call.taker → q.place ≡ p.place → is_whole q ≡ is_whole p
same_whole p q e f = whole_kept q.call.taker p q f ∙ ap (λ (m : Macro). whole_for m p) e

-- ---- macros that leave their blanks

unfoldable pub apart : Macro → Bool
apart macros.Parameter = false
apart macros.Function = false
apart m = true

pub apart_whole : (m : Macro) (p : Page) → apart m ≡ true → whole_for m p ≡ false
unfolding apart
apart_whole macros.Parameter p h = never h
apart_whole macros.Function p h = never h
apart_whole m p h = refl

apart_if : (t : Bool) (a b : Offered) → apart a.page.call.taker ≡ true → apart b.page.call.taker ≡ true → apart (if t then a else b).page.call.taker ≡ true
apart_if true a b h i = h
apart_if false a b h i = i

apart_page : (t : Bool) (p q : Page) → apart p.call.taker ≡ true → apart q.call.taker ≡ true → apart (if t then p else q).call.taker ≡ true
apart_page true p q h i = h
apart_page false p q h i = i

named_apart : (q : Page) → apart q.call.taker ≡ true → apart (named q).page.call.taker ≡ true
named_apart q h =
    let n = apart_page (is_none q.name) (record q { name = q.word; place = record q.place { width = q.call.width } }) q h h in
    apart_if (is_conditional q.place.section) _ _ h (apart_if (heads_line (naming q)) _ _ n n)

author_line_apart : (split : Split) (q : Page) → apart q.call.taker ≡ true → apart (author_line_by split q).page.call.taker ≡ true
author_line_apart Always q h = h
author_line_apart Next q h = h
author_line_apart Never q h = h

named_author_apart : (q : Page) → apart q.call.taker ≡ true → apart (named_author q).page.call.taker ≡ true
unfolding named_author
named_author_apart q h = apart_if (q.call.first && not q.call.some) _ _ (author_line_apart q.place.split q h) h

author_apart : (q : Page) → apart q.call.taker ≡ true → apart (author q).page.call.taker ≡ true
author_apart q h =
    apart_if (bytes_eq q.word (codes "-split")) _ _ h (apart_if (bytes_eq q.word (codes "-nosplit")) _ _ h (named_author_apart q h))

reference_apart : (q : Page) → apart q.call.taker ≡ true → apart (reference q).page.call.taker ≡ true
unfolding apart
reference_apart q h = apart_if (not q.call.some) _ _ h refl

link_apart : (q : Page) → apart q.call.taker ≡ true → apart (link q).page.call.taker ≡ true
unfolding apart
link_apart q h = apart_if q.call.some _ _ (apart_if q.call.listed _ _ h h) (apart_if (keeps_link q) _ _ h refl)

prefix_apart : (q : Page) → apart (prefix q).page.call.taker ≡ true
unfolding apart
prefix_apart q = apart_if q.lay.partial _ _ refl refl

include_apart : (q : Page) → apart (include q).page.call.taker ≡ true
unfolding apart
include_apart q = apart_if q.lay.partial _ _ refl refl

begins_apart : (q : Page) → apart q.call.taker ≡ true → apart (function_begins q).page.call.taker ≡ true
begins_apart q h = apart_if q.lay.partial _ _ h h

taken_apart : (m : Macro) (q : Page) → apart m ≡ true → apart q.call.taker ≡ true → apart (taken_by m q).page.call.taker ≡ true
unfolding apart
taken_apart (macros.Words font) q i h = h
taken_apart (macros.Part letter) q i h = h
taken_apart macros.Flag q i h = h
taken_apart macros.Argument q i h = h
taken_apart macros.Path q i h = h
taken_apart macros.Mail q i h = h
taken_apart macros.SectionName q i h = h
taken_apart macros.Variable q i h = h
taken_apart macros.ResultType q i h = h
taken_apart macros.Declaration q i h = h
taken_apart macros.Configuration q i h = h
taken_apart macros.Name q i h = named_apart q h
taken_apart macros.Parameter q i h = never i
taken_apart macros.Reference q i h = reference_apart q h
taken_apart macros.Author q i h = author_apart q h
taken_apart macros.Link q i h = link_apart q h
taken_apart macros.Function q i h = never i
taken_apart (macros.Stands system) q i h = refl
taken_apart macros.Att q i h = refl
taken_apart macros.Bsd q i h = refl
taken_apart macros.BsdRelease q i h = refl
taken_apart macros.Standard q i h = refl
taken_apart macros.Library q i h = refl
taken_apart macros.Prefix q i h = prefix_apart q
taken_apart macros.OwnOpens q i h = prefix_apart q
taken_apart macros.OwnCloses q i h = refl
taken_apart macros.FunctionOpens q i h = begins_apart (with_place (record q.place { parameters = First }) (takes_no_more q)) refl
taken_apart macros.Include q i h = include_apart q
taken_apart m q i h = h

-- ---- parameters, and a function's

whole_if : (t : Bool) (a b : Offered) (w : Bool) → is_whole a.page ≡ w → is_whole b.page ≡ w → is_whole (if t then a else b).page ≡ w
whole_if true a b w h i = h
whole_if false a b w h i = i

further_by : (x : Parameters) → is_outside (if is_first x then Further else x) ≡ is_outside x
further_by Outside = refl
further_by First = refl
further_by Further = refl

further_is : (t : Bool) (q : Page)
    → (if t then with_place (record q.place { parameters = Further }) q else q).place.parameters ≡ (if t then Further else q.place.parameters)
further_is true q = refl
further_is false q = refl

first_taker : (t : Bool) (q : Page) → (if t then with_place (record q.place { parameters = Further }) q else q).call.taker ≡ q.call.taker
first_taker true q = refl
first_taker false q = refl

parameter_whole : (q : Page) → q.call.taker ≡ macros.Parameter → is_whole (parameter q).page ≡ is_whole q
parameter_whole q e =
    let p = listing (after_first q) in
    let first = is_first q.place.parameters in
    whole_if (is_outside q.place.parameters) _ _ (is_whole q) refl
    (ap (λ (m : Macro). whole_for m p) (first_taker first q ∙ e)
    ∙ ap (λ (x : Parameters). not (is_outside x)) (further_is first q) ∙ ap not (further_by q.place.parameters)
    ∙ ap (λ (m : Macro). whole_for m q) (sym e))

function_whole : (q : Page) → is_whole (function q).page ≡ is_whole q
function_whole q =
    whole_if (not q.call.some) _ _ (is_whole q)
    (whole_if q.lay.partial _ _ (is_whole q) (same_whole q _ refl refl) refl)
    (whole_if (not q.call.listed) _ _ (is_whole q) (same_whole q _ refl refl) refl)

close_whole : (m : Macro) (q : Page) → q.call.taker ≡ m → apart m ≡ false → is_whole (taken_by m q).page ≡ is_whole q
unfolding apart
close_whole macros.Parameter q e h = parameter_whole q e
close_whole macros.Function q e h = function_whole q
close_whole m q e h = never (sym h)

taken_whole_by : (t : Bool) (q : Page) → apart q.call.taker ≡ t → is_whole (taken_by q.call.taker q).page ≡ is_whole q
taken_whole_by true q h =
    let p = (taken_by q.call.taker q).page in
    apart_whole p.call.taker p (taken_apart q.call.taker q h h) ∙ sym (apart_whole q.call.taker q h)
taken_whole_by false q h = close_whole q.call.taker q refl h

pub taken_whole : (q : Page) → is_whole (taken_word q).page ≡ is_whole q
unfolding taken_word
taken_whole q = taken_whole_by (apart q.call.taker) q refl
