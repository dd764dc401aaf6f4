-- The line of a part of a reference begins, and the one that ends a reference, as others do.
use Rattle.std.proofs.Common.{◌≡◌, ℕ, ◌≤◌, ◌+◌, List, [], ◌∷◌, ◌++◌, length, Bool, true, false, not, ◌==◌, nat_lt, if◌then◌else◌, refl, sym, ◌∙◌, ap, subst}
use Rattle.std.specs.Prelude.{codes}
use Prim.Native.Char.{code}
use Rattle.mdoc_layout.specs.declared.acts.Act.TheVariants as acts
use Rattle.mdoc_layout.specs.declared.page.Call.{Call}
use Rattle.mdoc_layout.specs.declared.page.Page.{Page}
use Rattle.mdoc_layout.specs.declared.page.Scan.TheVariants as scans
use Rattle.mdoc_words.specs.Rules.{with_place}
use Rattle.mdoc_layout.specs.Laying.{Laid, laid, put, is_joined, was_put}
use Rattle.mdoc_layout.specs.LayingOut.{lay_out}
use Rattle.mdoc_converter.specs.Lines.{book_ends, part_begins}
use Rattle.mdoc_layout.specs.Seeing.{left, none, offered, two}
use Rattle.mdoc_layout.specs.OwnLines.{put_head}
use Rattle.mdoc_converter.specs.Reading.{State, said}
use Rattle.mdoc_layout.specs.References.{author_head, authors_of, has_part, more_authors, most_parts, order, put_author_head, put_authors, put_comma, put_part, put_part_begin, put_part_head, put_parts, put_stop, put_title_part, with_listed, with_part}
use Rattle.mdoc_converter.specs.Scanning.{offer}
use Rattle.mdoc_converter.specs.WrittenLines.{way_of}
use Rattle.mdoc_converter.proofs.BlockEnds.{Begun, none_step}
use Rattle.mdoc_converter.proofs.Offering.{with_page, leads_by}
use Rattle.mdoc_converter.proofs.Outcomes.{lined, takes_plain}
use Rattle.mdoc_converter.proofs.Stepping.{Head, Stepped}

-- ---- how a line is read is left as it was

record Same (q p : Page) : Type 0 where
  scan : p.scan ≡ q.scan
  word : p.word ≡ q.word
  marks : p.marks ≡ q.marks
  closers : p.closers ≡ q.closers
  call : p.call ≡ q.call

same_then : (q p r : Page) → Same q p → Same p r → Same q r
same_then q p r i j = record {
  scan = j.scan ∙ i.scan;
  word = j.word ∙ i.word;
  marks = j.marks ∙ i.marks;
  closers = j.closers ∙ i.closers;
  call = j.call ∙ i.call;
}

same : (p : Page) → Same p p
same p = record { scan = refl; word = refl; marks = refl; closers = refl; call = refl }

same_if : (t : Bool) (q : Page) (k l : Laid) → Same q k.page → Same q l.page → Same q (if t then k else l).page
same_if true q k l i j = i
same_if false q k l i j = j

put_same : (p : Page) → Same p (was_put p)
put_same p = record { scan = refl; word = refl; marks = refl; closers = refl; call = refl }

listed_same : (t : Bool) (p : Page) → Same p (with_listed t p)
listed_same t p = record { scan = refl; word = refl; marks = refl; closers = refl; call = refl }

begun_as : (head : Head) (q p : Page) (word : List ℕ) → Same q p → Begun head q word → Begun head p word
begun_as head q p word same begun = record {
  scan_is = same.scan ∙ begun.scan_is;
  word_is = same.word ∙ begun.word_is;
  marks_are = same.marks ∙ begun.marks_are;
  few = subst (λ (cs : List ℕ). length cs ≤ 8) (sym same.closers) begun.few;
  going = ap (λ (c : Call). c.going) same.call ∙ begun.going;
  comment = ap (λ (c : Call). c.comment) same.call ∙ begun.comment;
  line = ap lined same.call ∙ begun.line;
  fits = subst (λ (c : Call). takes_plain c.taker ≡ true) (sym same.call) begun.fits;
  way = ap (λ (c : Call). way_of c.taker) same.call ∙ begun.way;
}

-- ---- a part begins

heads_same : (t : Bool) (p : Page) → Same p (if t then record p { place = record p.place { authors = p.place.authors + 1 } } else p)
heads_same true p = record { scan = refl; word = refl; marks = refl; closers = refl; call = refl }
heads_same false p = same p

parts_same : (t : Bool) (letter : ℕ) (p : Page) → Same p (if t then record p { parts = p.parts ++ letter ∷ [] } else p)
parts_same true letter p = record { scan = refl; word = refl; marks = refl; closers = refl; call = refl }
parts_same false letter p = same p

head_page : List ℕ → Page → Page
head_page head p = (put_head head p).page

head_same : (head : List ℕ) (p : Page) → Same p (head_page head p)
unfolding head_page
head_same head p = record { scan = refl; word = refl; marks = refl; closers = refl; call = refl }

author_same : (p : Page) → Same p (put_author_head p).page
unfolding head_page
author_same p =
    let q = head_page (author_head p.place.authors) p in
    same_then p q (more_authors q) (head_same (author_head p.place.authors) p) (heads_same (nat_lt q.place.authors 3) q)

part_head_by : (t : Bool) (letter : ℕ) (p : Page) → has_part letter p ≡ t → Same p (put_part_head letter p).page
unfolding head_page
part_head_by t letter p e =
    same_if (has_part letter p) p _ _ (head_same (codes ".as %") p)
    (let q = head_page (codes ".ds %") p in
    same_then p q (with_part letter q) (head_same (codes ".ds %") p) (parts_same (not (length q.parts == most_parts)) letter q))

begin_same : (letter : ℕ) (p : Page) → Same p (put_part_begin letter p).page
begin_same letter p = same_if (letter == code "A") p _ _ (author_same p) (part_head_by (has_part letter p) letter p refl)

part_by : (t : Bool) (letter : ℕ) (head : Head) (b : ℕ) (s : State) (p : Page) (word : List ℕ) → Begun head p word
    → offer b s.page ≡ (if not t then none p else offered p (two (acts.Part letter) acts.Join)) → Stepped head b s 1 [] scans.Between word []
unfolding said lay_out
part_by false letter head b s p word begun e = none_step head b s p word begun e
part_by true letter head b s p word begun e =
    let q = (put_part_begin letter p).page in
    let r = record q { lay = record q.lay { joined = true } } in
    let i = begun_as head p r word (same_then p q r (begin_same letter p) (record { scan = refl; word = refl; marks = refl; closers = refl; call = refl })) begun in
    record {
      next = with_page r s;
      leads = leads_by b s p r (acts.Part letter) acts.Join acts.Nothing [] e refl refl;
      at = record {
        scan_is = i.scan_is;
        word_is = i.word_is;
        marks_are = i.marks_are;
        few = i.few;
        going = i.going;
        comment = i.comment;
        line = i.line;
        fits = i.fits;
        way = i.way;
        free = λ n. refl;
      };
    }

pub part_step : (letter : ℕ) (head : Head) (b : ℕ) (s : State) (p : Page) (word : List ℕ) → Begun head p word → offer b s.page ≡ part_begins letter p
    → Stepped head b s 1 [] scans.Between word []
part_step letter head b s p word begun e = part_by p.place.reference letter head b s p word begun e

-- ---- a reference ends

authors_same : (p : Page) → Same p (put_authors p).page
unfolding put_authors
authors_same p =
    let q = with_listed (nat_lt 0 p.place.authors) p in
    same_then p q _ (listed_same (nat_lt 0 p.place.authors) p)
    (same_if (nat_lt 0 p.place.authors) q (put (is_joined q) (authors_of p.place.authors) q) (laid q []) (put_same q) (same q))

comma_same : (p : Page) → Same p (put_comma p).page
comma_same p =
    let l = if p.place.listed then put true (codes ",") p else laid p [] in
    same_then p l.page (with_listed true l.page) (same_if p.place.listed p (put true (codes ",") p) (laid p []) (put_same p) (same p)) (listed_same true l.page)

title_same : (p : Page) → Same p (put_title_part p).page
unfolding put_title_part
title_same p =
    same_if (not (has_part (code "T") p)) p _ _ (same p)
    (same_then p (put_comma p).page (was_put (put_comma p).page) (comma_same p) (put_same (put_comma p).page))

string_same : (letter : ℕ) (p : Page) → Same p (put_part letter p).page
string_same letter p =
    same_if (not (has_part letter p)) p _ _ (same p)
    (same_then p (put_comma p).page (was_put (put_comma p).page) (comma_same p) (put_same (put_comma p).page))

strings_same : (letters : List ℕ) (p : Page) → Same p (put_parts letters p).page
unfolding put_parts
strings_same [] p = same p
strings_same (letter ∷ letters) p =
    let q = (put_part letter p).page in same_then p q (put_parts letters q).page (string_same letter p) (strings_same letters q)

stop_same : (p : Page) → Same p (put_stop p).page
unfolding put_stop
stop_same p = same_if p.place.listed p (put true (codes ".") p) (laid p []) (put_same p) (same p)

reference_same : (p : Page) → Same p (lay_out acts.Reference p).page
unfolding lay_out
reference_same p =
    let a = (put_authors p).page in
    let t = (put_title_part a).page in
    let o = (put_parts order t).page in
    same_then p a (put_stop o).page (authors_same p)
    (same_then a t (put_stop o).page (title_same a) (same_then t o (put_stop o).page (strings_same order t) (stop_same o)))

nothing_page : (p : Page) → (lay_out acts.Nothing p).page ≡ p
unfolding lay_out
nothing_page p = refl

ended_same : (q : Page) → Same q (said (left acts.Reference) q).page
unfolding said
ended_same q =
    let r = (lay_out acts.Reference q).page in
    subst (λ (p : Page). Same q p) (sym (ap (λ (p : Page). (lay_out acts.Nothing p).page) (nothing_page r) ∙ nothing_page r)) (reference_same q)

book_by : (t : Bool) (head : Head) (b : ℕ) (s : State) (p : Page) (word : List ℕ) → Begun head p word
    → offer b s.page ≡ (if not t then none p else offered (with_place (record p.place { reference = false }) p) (left acts.Reference))
    → Stepped head b s 1 [] scans.Between word []
unfolding said
book_by false head b s p word begun e = none_step head b s p word begun e
book_by true head b s p word begun e =
    let q = with_place (record p.place { reference = false }) p in
    let r = (said (left acts.Reference) q).page in
    let i = begun_as head p r word
    (same_then p q r (record { scan = refl; word = refl; marks = refl; closers = refl; call = refl }) (ended_same q)) begun in
    record {
      next = with_page r s;
      leads = leads_by b s q r acts.Reference acts.Nothing acts.Nothing [] e refl refl;
      at = record {
        scan_is = i.scan_is;
        word_is = i.word_is;
        marks_are = i.marks_are;
        few = i.few;
        going = i.going;
        comment = i.comment;
        line = i.line;
        fits = i.fits;
        way = i.way;
        free = λ n. refl;
      };
    }

pub book_step : (head : Head) (b : ℕ) (s : State) (p : Page) (word : List ℕ) → Begun head p word → offer b s.page ≡ book_ends p
    → Stepped head b s 1 [] scans.Between word []
book_step head b s p word begun e = book_by p.place.reference head b s p word begun e
