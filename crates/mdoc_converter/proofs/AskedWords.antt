-- A word that is read for what it asks is not said.
use Rattle.std.proofs.Common.{◌≡◌, ℕ, ◌+◌, List, [], ◌∷◌, ◌++◌, length, Bool, true, false, not, ◌&&◌, ◌||◌, ◌==◌, nat_lt, if◌then◌else◌, Option, None, Some, is_some, refl, ◌∙◌, ap}
use Prim.Native.Char.{code}
use Rattle.mdoc_layout.specs.declared.acts.Act.{Act}
use Rattle.mdoc_layout.specs.declared.acts.Act.TheVariants as acts
use Rattle.mdoc_layout.specs.declared.acts.Request.TheVariants as requests
use Rattle.mdoc_layout.specs.declared.page.Escape.TheVariants as escapes
use Rattle.mdoc_layout.specs.declared.macros.Font.{Font}
use Rattle.mdoc_layout.specs.declared.macros.Macro.{Macro}
use Rattle.mdoc_layout.specs.declared.macros.Macro.TheVariants as macros
use Rattle.mdoc_layout.specs.declared.page.Asks.{Asks}
use Rattle.mdoc_layout.specs.declared.page.Asks.TheVariants as asked_for
use Rattle.mdoc_layout.specs.declared.page.Page.{Page}
use Rattle.mdoc_layout.specs.declared.page.Scan.{Scan}
use Rattle.mdoc_layout.specs.declared.page.Scan.TheVariants as scans
use Rattle.mdoc_layout.specs.declared.page.Wanted.{Wanted}
use Rattle.mdoc_layout.specs.declared.page.Wanted.TheVariants as wanteds
use Rattle.mdoc_words.specs.Calls.{called_by}
use Rattle.mdoc_words.specs.Rules.{is_none, with_scan}
use Rattle.mdoc_words.specs.Words.{ends_long, heading_calls, parsed}
use Rattle.mdoc_words.specs.Escaping.{escape_then}
use Rattle.mdoc_words.specs.Keeping.{after_prefix, ends_in_hyphen, has_dashes, in_named, is_titling, keep, keep_begun, keep_byte, keep_escape, keep_unshown, keeping, looks_up, whole_for, widens, wider, within, within_escape}
use Rattle.mdoc_layout.specs.Laying.{with_lay}
use Rattle.mdoc_layout.specs.LayingOut.{lay_out}
use Rattle.mdoc_words.specs.Options.{added_column, asked, block_asked, block_wanted, column, column_width, dated, date_word, font_named, font_or, is_heading, is_shown, is_version, option, option_for, option_word, reads_for, title_word, wants_column}
use Rattle.mdoc_layout.specs.Columns.{is_column}
use Rattle.mdoc_layout.specs.Seeing.{Offered, and_taken, left, none, offered, taken, three, two}
use Rattle.mdoc_converter.specs.Reading.{State, said}
use Rattle.mdoc_converter.specs.Saying.{part_of, parts_seen, words_of}
use Rattle.mdoc_converter.specs.Scanning.{offer, offer_at, offer_whole, offer_whole_at}
use Rattle.mdoc_converter.specs.WrittenLines.{asks}
use Rattle.mdoc_converter.proofs.Offering.{with_page, Leads, Takes, leads_by, takes_by}
use Rattle.mdoc_converter.proofs.Outcomes.{is_quiet, never, Lays, quiet-page}
use Rattle.mdoc_converter.proofs.WholeWords.{and_false}
use Rattle.mdoc_converter.proofs.WordRoom.{begun_rest}

-- ---- acts that say nothing of a word, and leave all of the page but how text is laid out

unfoldable pub is_hushed : Act → Bool
is_hushed acts.Nothing = true
is_hushed acts.Fresh = true
is_hushed acts.Space = true
is_hushed (acts.Request request) = true
is_hushed (acts.Sized sized n) = true
is_hushed acts.Cell = true
is_hushed acts.Columns = true
is_hushed (acts.Column width) = true
is_hushed acts.TitlePrefix = true
is_hushed act = false

hushed_page : (act : Act) (p : Page) → is_hushed act ≡ true → Lays p (lay_out act p).page
unfolding is_hushed is_quiet lay_out
hushed_page acts.Nothing p h = (p.lay, refl)
hushed_page acts.Fresh p h = (_, refl)
hushed_page acts.Space p h = (_, refl)
hushed_page (acts.Request request) p h = (_, refl)
hushed_page (acts.Sized sized n) p h = quiet-page (acts.Sized sized n) p refl
hushed_page acts.Cell p h = (_, refl)
hushed_page acts.Columns p h = (_, refl)
hushed_page (acts.Column width) p h = (_, refl)
hushed_page acts.TitlePrefix p h = (_, refl)
hushed_page act p h = never h

pub hushed_word : (act : Act) (p : Page) → is_hushed act ≡ true → (part_of act p).word ≡ []
unfolding is_hushed
hushed_word acts.Nothing p h = refl
hushed_word acts.Fresh p h = refl
hushed_word acts.Space p h = refl
hushed_word (acts.Request request) p h = refl
hushed_word (acts.Sized sized n) p h = refl
hushed_word acts.Cell p h = refl
hushed_word acts.Columns p h = refl
hushed_word (acts.Column width) p h = refl
hushed_word acts.TitlePrefix p h = refl
hushed_word act p h = never h

pub three_page : (x y z : Act) (p : Page) → is_hushed x ≡ true → is_hushed y ≡ true → is_hushed z ≡ true → Lays p (said (three x y z) p).page
unfolding said
three_page x y z p i j k =
    let q = (lay_out x p).page in
    let r = (lay_out y q).page in
    let a = hushed_page x p i in
    let b = hushed_page y q j in
    let c = hushed_page z r k in
    (c.0, c.1 ∙ ap (with_lay c.0) (b.1 ∙ ap (with_lay b.0) a.1))

no_words : (xs ys zs : List ℕ) → xs ≡ [] → ys ≡ [] → zs ≡ [] → xs ++ (ys ++ (zs ++ [])) ≡ []
no_words xs ys zs e f g = cc

pub three_words : (x y z : Act) (p : Page) → is_hushed x ≡ true → is_hushed y ≡ true → is_hushed z ≡ true → words_of (parts_seen (three x y z) p) ≡ []
three_words x y z p i j k =
    let q = (lay_out x p).page in
    let r = (lay_out y q).page in
    no_words (part_of x p).word (part_of y q).word (part_of z r).word (hushed_word x p i) (hushed_word y q j) (hushed_word z r k)

-- ---- where such a line is read

pub record Asking (m : Macro) (p : Page) (scan : Scan) : Type 0 where
  pub scan_is : p.scan ≡ scan
  pub marks : p.marks ≡ []
  pub closers : p.closers ≡ []
  pub going : p.call.going ≡ false
  pub comment : p.call.comment ≡ false
  pub line : p.call.line ≡ m
  pub taker : p.call.taker ≡ m

pub asking_as : (m : Macro) (scan : Scan) (q p : Page) → p.scan ≡ scan → p.marks ≡ q.marks → p.closers ≡ q.closers → p.call.going ≡ q.call.going
    → p.call.comment ≡ q.call.comment → p.call.line ≡ q.call.line → p.call.taker ≡ q.call.taker → {from : Scan} → Asking m q from → Asking m p scan
asking_as m scan q p a b c d e f g {from} at = record {
  scan_is = a;
  marks = b ∙ at.marks;
  closers = c ∙ at.closers;
  going = d ∙ at.going;
  comment = e ∙ at.comment;
  line = f ∙ at.line;
  taker = g ∙ at.taker;
}

asking_laid : (m : Macro) (scan : Scan) (l : _) (p : Page) → Asking m p scan → Asking m (with_lay l p) scan
asking_laid m scan l p at = asking_as m scan p (with_lay l p) at.scan_is refl refl refl refl refl refl at

asking_if : (t : Bool) (m : Macro) (p q : Page) (scan : Scan) → Asking m p scan → Asking m q scan → Asking m (if t then p else q) scan
asking_if true m p q scan i j = i
asking_if false m p q scan i j = j

-- so many steps lead there, or take the byte, and say nothing
pub record Leading (m : Macro) (b : ℕ) (s : State) (k : ℕ) (scan : Scan) : Type 0 where
  pub next : State
  pub leads : Leads b s next k []
  pub at : Asking m next.page scan

pub record Taking (m : Macro) (b : ℕ) (s : State) (k : ℕ) (scan : Scan) : Type 0 where
  pub next : State
  pub takes : Takes b s next k []
  pub at : Asking m next.page scan

hush_leads : (m : Macro) (b : ℕ) (s : State) (p : Page) (x y z : Act) (scan : Scan) → offer b s.page ≡ offered p (three x y z)
    → is_hushed x ≡ true → is_hushed y ≡ true → is_hushed z ≡ true → Asking m p scan → Leading m b s 1 scan
hush_leads m b s p x y z scan e i j k at =
    let l = three_page x y z p i j k in
    record {
      next = with_page (with_lay l.0 p) s;
      leads = leads_by b s p (with_lay l.0 p) x y z [] e l.1 (three_words x y z p i j k);
      at = asking_laid m scan l.0 p at;
    }

hush_takes : (m : Macro) (b : ℕ) (s : State) (p : Page) (x y z : Act) (scan : Scan) → offer b s.page ≡ offered p (and_taken (three x y z))
    → is_hushed x ≡ true → is_hushed y ≡ true → is_hushed z ≡ true → Asking m p scan → Taking m b s 1 scan
hush_takes m b s p x y z scan e i j k at =
    let l = three_page x y z p i j k in
    record {
      next = with_page (with_lay l.0 p) s;
      takes = takes_by b s p (with_lay l.0 p) x y z [] e l.1 (three_words x y z p i j k);
      at = asking_laid m scan l.0 p at;
    }

pub left_leads : (m : Macro) (b : ℕ) (s : State) (p : Page) (scan : Scan) → offer b s.page ≡ offered p (left acts.Nothing) → Asking m p scan → Leading m b s 1 scan
unfolding is_hushed
left_leads m b s p scan e at = hush_leads m b s p acts.Nothing acts.Nothing acts.Nothing scan e refl refl refl at

pub taken_takes : (m : Macro) (b : ℕ) (s : State) (p : Page) (scan : Scan) → offer b s.page ≡ offered p (taken acts.Nothing) → Asking m p scan → Taking m b s 1 scan
unfolding is_hushed
taken_takes m b s p scan e at = hush_takes m b s p acts.Nothing acts.Nothing acts.Nothing scan e refl refl refl at

pub cell_takes : (m : Macro) (b : ℕ) (s : State) (p : Page) (scan : Scan) → offer b s.page ≡ offered p (taken acts.Cell) → Asking m p scan → Taking m b s 1 scan
unfolding is_hushed
cell_takes m b s p scan e at = hush_takes m b s p acts.Cell acts.Nothing acts.Nothing scan e refl refl refl at

-- ---- what a word asks

record Asked (m : Macro) (l : Offered) : Type 0 where
  x : Act
  y : Act
  z : Act
  seen : l.seen ≡ three x y z
  hushed_x : is_hushed x ≡ true
  hushed_y : is_hushed y ≡ true
  hushed_z : is_hushed z ≡ true
  at : Asking m l.page scans.Between

asked_if : (t : Bool) (m : Macro) (k l : Offered) → Asked m k → Asked m l → Asked m (if t then k else l)
asked_if true m k l i j = i
asked_if false m k l i j = j

asked_none : (m : Macro) (p : Page) → Asking m p scans.Between → Asked m (none p)
unfolding is_hushed
asked_none m p at = record { x = acts.Nothing; y = acts.Nothing; z = acts.Nothing; seen = refl; hushed_x = refl; hushed_y = refl; hushed_z = refl; at = at }

asked_act : (m : Macro) (p : Page) (x y : Act) → is_hushed x ≡ true → is_hushed y ≡ true → Asking m p scans.Between → Asked m (offered p (two x y))
unfolding is_hushed
asked_act m p x y i j at = record { x = x; y = y; z = acts.Nothing; seen = refl; hushed_x = i; hushed_y = j; hushed_z = refl; at = at }

date_asked : (q : Page) (m : Macro) → Asking m q scans.Between → Asked m (date_word q)
date_asked q m at =
    let b = scans.Between in
    asked_if (is_version q.word) m _ _ (asked_none m q at)
    (asked_none m (dated q)
    (asking_if (length q.month == 0) m _ _ b (asking_as m b q (record q { month = q.word }) at.scan_is refl refl refl refl refl refl at)
    (asking_if (length q.day == 0) m _ _ b (asking_as m b q (record q { day = q.word }) at.scan_is refl refl refl refl refl refl at)
    (asking_if (length q.year == 0) m _ _ b (asking_as m b q (record q { year = q.word }) at.scan_is refl refl refl refl refl refl at) at))))

title_asked : (q : Page) (m : Macro) → Asking m q scans.Between → Asked m (title_word q)
title_asked q m at =
    let b = scans.Between in
    asked_none m _
    (asking_if (not q.call.some) m _ _ b (asking_as m b q (record q { title = q.word }) at.scan_is refl refl refl refl refl refl at)
    (asking_if (length q.chapter == 0) m _ _ b (asking_as m b q (record q { chapter = q.word }) at.scan_is refl refl refl refl refl refl at) at))

font_asked : (o : Option Font) (q : Page) (m : Macro) → Asking m q scans.Between → Asked m (font_or o q)
unfolding is_hushed
font_asked None q m at = asked_none m q at
font_asked (Some font) q m at = asked_act m q (acts.Request (requests.Font font)) acts.Nothing refl refl at

column_asked : (q : Page) (m : Macro) → Asking m q scans.Between → Asked m (column q)
unfolding is_hushed
column_asked q m at =
    let n = column_width q in
    let p = added_column q in
    let added = asking_as m scans.Between q p at.scan_is refl refl refl refl refl refl at in
    asked_if (not (is_column q.block.kind)) m _ _ (asked_none m q at)
    (asked_if (wants_column q.call.wanted) m _ _ (asked_act m p (acts.Column n) acts.Nothing refl refl added)
    (asked_act m (record p { call = record p.call { wanted = wanteds.Column } }) acts.Columns (acts.Column n) refl refl
    (asking_as m scans.Between p _ added.scan_is refl refl refl refl refl refl added)))

option_asked : (o : Option Asks) (q : Page) (m : Macro) → Asking m q scans.Between → Asked m (block_asked o q)
option_asked None q m at = column_asked q m at
option_asked (Some asked_for.Width) q m at =
    asked_none m _ (asking_as m scans.Between q _ at.scan_is refl refl refl refl refl refl at)
option_asked (Some asked_for.Offset) q m at =
    asked_none m _ (asking_as m scans.Between q _ at.scan_is refl refl refl refl refl refl at)
option_asked (Some asked_for.Compact) q m at =
    asked_none m _ (asking_as m scans.Between q _ at.scan_is refl refl refl refl refl refl at)
option_asked (Some (asked_for.Kind kind)) q m at =
    asked_none m _ (asking_as m scans.Between q _ at.scan_is refl refl refl refl refl refl at)

block_asked_by : (w : Wanted) (q : Page) (m : Macro) → Asking m q scans.Between → Asked m (block_wanted w q)
block_asked_by wanteds.Width q m at = asked_none m _ (asking_as m scans.Between q _ at.scan_is refl refl refl refl refl refl at)
block_asked_by wanteds.Offset q m at = asked_none m _ (asking_as m scans.Between q _ at.scan_is refl refl refl refl refl refl at)
block_asked_by wanteds.Option q m at = option_asked (asked q.word) q m at
block_asked_by wanteds.Column q m at = option_asked (asked q.word) q m at

asked_by : (k : Macro) (q : Page) (m : Macro) → asks k ≡ true → Asking m q scans.Between → Asked m (option_for k q)
asked_by macros.Date q m h at = date_asked q m at
asked_by macros.Title q m h at = title_asked q m at
asked_by macros.List q m h at = block_asked_by q.call.wanted q m at
asked_by macros.Display q m h at = block_asked_by q.call.wanted q m at
asked_by macros.FontBegins q m h at = font_asked (font_named q.word) q m at
asked_by macros.Spacing q m h at = asked_none m _ (asking_as m scans.Between q _ at.scan_is refl refl refl refl refl refl at)
asked_by k q m h at = never h

asks_alone : (m : Macro) (calls : Bool) → asks m ≡ true → (reads_for m && not (is_heading m && calls)) ≡ true
asks_alone macros.Date calls h = refl
asks_alone macros.Title calls h = refl
asks_alone macros.List calls h = refl
asks_alone macros.Display calls h = refl
asks_alone macros.FontBegins calls h = refl
asks_alone macros.Spacing calls h = refl
asks_alone m calls h = never h

optioned : Offered → Offered
optioned o = offered (record o.page { call = record o.page.call { some = true } }) o.seen

option_is : (p : Page) → option p ≡ optioned (option_for p.call.taker (with_scan scans.Between p))
unfolding option_word optioned
option_is p = refl

given_offered : (m : Macro) (quoted : Bool) (b : ℕ) (s : State) → asks m ≡ true → Asking m s.page (scans.Given quoted)
    → offer b s.page ≡ optioned (option_for m (with_scan scans.Between s.page))
unfolding offer offer_whole
given_offered m quoted b s h at =
    let p = s.page in
    ap (λ (sc : Scan). offer_at sc b p) at.scan_is ∙ ap (λ (sc : Scan). offer_whole_at sc b p) at.scan_is
    ∙ ap (λ (t : Bool). if t then ends_long p else if reads_for p.call.taker && not (heading_calls quoted p) then option p else parsed quoted p) at.going
    ∙ ap (λ (k : Macro). if reads_for k && not (is_heading k && is_some (called_by quoted p.word)) then option p else parsed quoted p) at.taker
    ∙ ap (λ (t : Bool). if t then option p else parsed quoted p) (asks_alone m (is_some (called_by quoted p.word)) h)
    ∙ option_is p ∙ ap (λ (k : Macro). optioned (option_for k (with_scan scans.Between p))) at.taker

pub given_step : (m : Macro) (quoted : Bool) (b : ℕ) (s : State) → asks m ≡ true → Asking m s.page (scans.Given quoted) → Leading m b s 1 scans.Between
unfolding optioned
given_step m quoted b s h at =
    let q = with_scan scans.Between s.page in
    let o = asked_by m q m h (asking_as m scans.Between s.page q refl refl refl refl refl refl refl at) in
    let l = option_for m q in
    let p = record l.page { call = record l.page.call { some = true } } in
    hush_leads m b s p o.x o.y o.z scans.Between (given_offered m quoted b s h at ∙ ap (offered p) o.seen) o.hushed_x o.hushed_y o.hushed_z
    (asking_as m scans.Between l.page p o.at.scan_is refl refl refl refl refl refl o.at)

-- ---- its bytes

pub asks_shown : (m : Macro) → asks m ≡ true → (not (reads_for m) || is_heading m) ≡ false
asks_shown macros.Date h = refl
asks_shown macros.Title h = refl
asks_shown macros.List h = refl
asks_shown macros.Display h = refl
asks_shown macros.FontBegins h = refl
asks_shown macros.Spacing h = refl
asks_shown m h = never h

asks_hyphens : (m : Macro) (dash : Bool) → asks m ≡ true → (not (looks_up m) || (has_dashes m && dash)) ≡ false
asks_hyphens macros.Date dash h = refl
asks_hyphens macros.Title dash h = refl
asks_hyphens macros.List dash h = refl
asks_hyphens macros.Display dash h = refl
asks_hyphens macros.FontBegins dash h = refl
asks_hyphens macros.Spacing dash h = refl
asks_hyphens m dash h = never h

pub asks_whole : (m : Macro) (p : Page) → asks m ≡ true → whole_for m p ≡ false
asks_whole macros.Date p h = refl
asks_whole macros.Title p h = refl
asks_whole macros.List p h = refl
asks_whole macros.Display p h = refl
asks_whole macros.FontBegins p h = refl
asks_whole macros.Spacing p h = refl
asks_whole m p h = never h

widened : Bool → Page → Page
widened t p = if t then record p { call = record p.call { width = p.call.width + 1 } } else p

asking_wide : (t : Bool) (m : Macro) (scan : Scan) (p : Page) → Asking m p scan → Asking m (widened t p) scan
unfolding widened
asking_wide true m scan p at = asking_as m scan p _ at.scan_is refl refl refl refl refl refl at
asking_wide false m scan p at = at

wide_takes : (t : Bool) (m : Macro) (b : ℕ) (s : State) (p : Page) (scan : Scan) → offer b s.page ≡ offered (widened t p) (taken acts.Nothing) → Asking m p scan
    → Taking m b s 1 scan
wide_takes t m b s p scan e at = taken_takes m b s (widened t p) scan e (asking_wide t m scan p at)

title_takes : (m : Macro) (b : ℕ) (s : State) (p : Page) (scan : Scan) → offer b s.page ≡ offered p (taken acts.TitlePrefix) → Asking m p scan → Taking m b s 1 scan
unfolding is_hushed
title_takes m b s p scan e at = hush_takes m b s p acts.TitlePrefix acts.Nothing acts.Nothing scan e refl refl refl at

unshown_by : (t : Bool) (m : Macro) (b c : ℕ) (s : State) (p : Page) (scan : Scan)
    → offer b s.page ≡ (if t then offered (widens (keeping (c ∷ []) (after_prefix p))) (taken acts.TitlePrefix) else offered (widens p) (taken acts.Nothing))
    → Asking m p scan → Taking m b s 1 scan
unfolding widened
unshown_by true m b c s p scan e at =
    let q = keeping (c ∷ []) (after_prefix p) in
    let wide = nat_lt p.call.width 9999 in
    title_takes m b s (widened wide q) scan e
    (asking_wide wide m scan q (asking_as m scan p q at.scan_is refl refl refl refl refl refl at))
unshown_by false m b c s p scan e at = wide_takes (nat_lt p.call.width 9999) m b s p scan e at

kept_by : (t : Bool) (m : Macro) (b c : ℕ) (quoted : Bool) (s : State) (p : Page) (scan : Scan) → asks m ≡ true → offer b s.page ≡ keep c quoted p
    → Asking m p scan → nat_lt (length p.word) 30 ≡ t → Taking m b s 1 scan
unfolding widened keep_unshown
kept_by true m b c quoted s p scan h e at room =
    let q = keeping (c ∷ []) p in
    wide_takes (nat_lt p.call.width 9999) m b s q scan
    (e ∙ ap (λ (t : Bool). if t then offered (widens q) (taken acts.Nothing) else if is_shown p then offered (with_scan (scans.Long (within quoted)) p) (left acts.Nothing) else keep_unshown c p) room)
    (asking_as m scan p q at.scan_is refl refl refl refl refl refl at)
kept_by false m b c quoted s p scan h e at room =
    let q = keeping (c ∷ []) p in
    unshown_by (is_titling p) m b c s p scan
    (e ∙ ap (λ (t : Bool). if t then offered (widens q) (taken acts.Nothing) else if is_shown p then offered (with_scan (scans.Long (within quoted)) p) (left acts.Nothing) else keep_unshown c p) room
    ∙ ap (λ (k : Macro). if not (reads_for k) || is_heading k then offered (with_scan (scans.Long (within quoted)) p) (left acts.Nothing) else keep_unshown c p) at.taker
    ∙ ap (λ (t : Bool). if t then offered (with_scan (scans.Long (within quoted)) p) (left acts.Nothing) else keep_unshown c p) (asks_shown m h))
    at

pub kept : (m : Macro) (b c : ℕ) (quoted : Bool) (s : State) (p : Page) (scan : Scan) → asks m ≡ true → offer b s.page ≡ keep c quoted p
    → Asking m p scan → Taking m b s 1 scan
kept m b c quoted s p scan h e at = kept_by (nat_lt (length p.word) 30) m b c quoted s p scan h e at refl

pub kept_byte : (m : Macro) (b : ℕ) (quoted : Bool) (s : State) (p : Page) (scan : Scan) → asks m ≡ true → offer b s.page ≡ keep_byte b quoted p
    → Asking m p scan → Taking m b s 1 scan
kept_byte m b quoted s p scan h e at =
    kept m b b quoted s p scan h
    (e
    ∙ ap (λ (k : Macro). if (b == code "-") && not (is_none p.word) && (not (looks_up k) || (has_dashes k && ends_in_hyphen p.word)) then keep_escape b quoted p else keep b quoted p) at.taker
    ∙ ap (λ (t : Bool). if (b == code "-") && not (is_none p.word) && t then keep_escape b quoted p else keep b quoted p) (asks_hyphens m (ends_in_hyphen p.word) h)
    ∙ ap (λ (t : Bool). if t then keep_escape b quoted p else keep b quoted p) (and_false ((b == code "-") && not (is_none p.word)) false refl))
    at

-- an escape in it
inside_of : Bool → Scan
inside_of quoted = if quoted then scans.Quoted else scans.Word

wide_asking : (t : Bool) (m : Macro) (here : Scan) (p : Page) → {from : Scan} → Asking m p from
    → Asking m (with_scan here (if t then record p { call = record p.call { width = p.call.width + 1 } } else p)) here
wide_asking true m here p {from} at = asking_as m here p _ refl refl refl refl refl refl refl at
wide_asking false m here p {from} at = asking_as m here p _ refl refl refl refl refl refl refl at

escape_wide : (t : Bool) (m : Macro) (b : ℕ) (here : Scan) (s : State) (p : Page) → offer b s.page ≡ offered (with_scan here (if t then widens p else p)) (taken acts.Nothing)
    → {from : Scan} → Asking m p from → Taking m b s 1 here
escape_wide false m b here s p e {from} at =
    taken_takes m b s (with_scan here p) here e (asking_as m here p _ refl refl refl refl refl refl refl at)
escape_wide true m b here s p e {from} at =
    taken_takes m b s (with_scan here (widens p)) here e
    (wide_asking (nat_lt p.call.width 9999) m here p at)

escape_by : (t : Bool) (m : Macro) (b : ℕ) (quoted : Bool) (s : State) (scan : Scan) → asks m ≡ true → offer b s.page ≡ keep_begun b quoted s.page
    → Asking m s.page scan → nat_lt (length s.page.word) 30 ≡ t → Taking m b s 1 (in_named (escape_then escapes.Begun b) quoted)
unfolding inside_of begun_rest
escape_by true m b quoted s scan h e at room =
    let p = s.page in
    let q = keeping (b ∷ []) (keeping (code "\\" ∷ []) p) in
    escape_wide (not (b == code "&")) m b (in_named (escape_then escapes.Begun b) quoted) s q
    (e ∙ ap (λ (t : Bool). begun_rest b quoted (if t then offered (with_scan (inside_of quoted) (wider b q)) (taken acts.Nothing) else if is_shown p then offered (with_scan (scans.Long (within_escape quoted)) p) (left acts.Nothing) else offered (with_scan (inside_of quoted) (wider b p)) (taken acts.Nothing))) room)
    (asking_as m scan p q at.scan_is refl refl refl refl refl refl at)
escape_by false m b quoted s scan h e at room =
    let p = s.page in
    let q = keeping (b ∷ []) (keeping (code "\\" ∷ []) p) in
    escape_wide (not (b == code "&")) m b (in_named (escape_then escapes.Begun b) quoted) s p
    (e ∙ ap (λ (t : Bool). begun_rest b quoted (if t then offered (with_scan (inside_of quoted) (wider b q)) (taken acts.Nothing) else if is_shown p then offered (with_scan (scans.Long (within_escape quoted)) p) (left acts.Nothing) else offered (with_scan (inside_of quoted) (wider b p)) (taken acts.Nothing))) room
    ∙ ap (λ (k : Macro). begun_rest b quoted (if not (reads_for k) || is_heading k then offered (with_scan (scans.Long (within_escape quoted)) p) (left acts.Nothing) else offered (with_scan (inside_of quoted) (wider b p)) (taken acts.Nothing))) at.taker
    ∙ ap (λ (t : Bool). begun_rest b quoted (if t then offered (with_scan (scans.Long (within_escape quoted)) p) (left acts.Nothing) else offered (with_scan (inside_of quoted) (wider b p)) (taken acts.Nothing))) (asks_shown m h))
    at

pub kept_begun : (m : Macro) (b : ℕ) (quoted : Bool) (s : State) (scan : Scan) → asks m ≡ true → offer b s.page ≡ keep_begun b quoted s.page
    → Asking m s.page scan → Taking m b s 1 (in_named (escape_then escapes.Begun b) quoted)
kept_begun m b quoted s scan h e at = escape_by (nat_lt (length s.page.word) 30) m b quoted s scan h e at refl
