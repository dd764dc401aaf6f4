-- Each word of a text is read once, and in order.
use Rattle.std.proofs.Common.{◌≡◌, ◌==◌, ℕ, ◌+◌, ◌-◌, ◌<◌, ◌≤◌, Bool, true, false, ◌&&◌, ◌||◌, nat_lt, List, [], ◌∷◌, ◌++◌, length, take, drop, slice_range, refl, sym, ap, subst, arith, ◌∙◌, inl, inr, append_assoc, if◌then◌else◌}
use Rattle.std.specs.Prelude.{◌⊎◌}
use Rattle.std.proofs.Math.Seq.{take-append_seam, drop-append_seam}
use Rattle.std.proofs.lemmas.Bool.Decides.{nat_tests}
use Rattle.std.proofs.lemmas.List.{length-append, append-nil}
use Prim.Native.Char.{code}
use Rattle.nr_settings.specs.Characters.{prints as is_printed}
use Rattle.tbl_blocks.specs.declared.blocks.Blocks.{Blocks}
use Rattle.tbl_blocks.specs.declared.parts.Part.{Part}
use Rattle.tbl_blocks.specs.declared.reading.Reading.{Reading}
use Rattle.tbl_blocks.specs.declared.units.Does.{Does}
use Rattle.tbl_blocks.specs.declared.units.Does.TheVariants as does
use Rattle.tbl_blocks.specs.declared.units.Unit.{Unit}
use Rattle.tbl_blocks.specs.Arguments.{is_blank}
use Rattle.tbl_blocks.specs.Laws.{IsPlain, WordsAreRead, text_of_parts, without_blanks}
use Rattle.tbl_blocks.specs.Lists.{added}
use Rattle.tbl_blocks.specs.Parts.{sum}
use Rattle.tbl_blocks.specs.Reading.{after_part, ends_part, is_cut_before, part_to, parts_before, read_as, skipped, taken}
use Rattle.tbl_blocks.specs.Units.{byte_does, escape, is_letter}
use Rattle.tbl_blocks.specs.Words.{byte_taken, part_ended, parted, unit_taken, with_reading, with_unit, word_at_place, words_from}

if_true : {T : Type 0} → (b : Bool) (x y : T) → b ≡ true → (if b then x else y) ≡ x
if_true b x y h = ap (λ (c : Bool). if c then x else y) h

if_false : {T : Type 0} → (b : Bool) (x y : T) → b ≡ false → (if b then x else y) ≡ y
if_false b x y h = ap (λ (c : Bool). if c then x else y) h

-- ---- lists

blanks_apart : (xs ys : List ℕ) → without_blanks (xs ++ ys) ≡ without_blanks xs ++ without_blanks ys
blanks_apart [] ys = refl
blanks_apart (x ∷ xs) ys = choose (blanks_apart xs ys) (is_blank x)
  where
    choose : without_blanks (xs ++ ys) ≡ without_blanks xs ++ without_blanks ys → (b : Bool)
        → (if b then without_blanks (xs ++ ys) else x ∷ without_blanks (xs ++ ys)) ≡ (if b then without_blanks xs else x ∷ without_blanks xs) ++ without_blanks ys
    choose later true = later
    choose later false = ap (λ (q : List ℕ). x ∷ q) later

parts_apart : (place : ℕ) (text : List ℕ) (ps : List Part) (p : Part)
    → text_of_parts place text (ps ++ p ∷ []) ≡ text_of_parts place text ps ++ slice_range text (p.start - place) (p.«end» - place)
parts_apart place text [] p = append-nil (slice_range text (p.start - place) (p.«end» - place))
parts_apart place text (q ∷ ps) p =
    ap (λ (r : List ℕ). slice_range text (q.start - place) (q.«end» - place) ++ r) (parts_apart place text ps p)
    ∙ sym (append_assoc (slice_range text (q.start - place) (q.«end» - place)) (text_of_parts place text ps) (slice_range text (p.start - place) (p.«end» - place)))

-- what stands between what is before it and the rest
middle : (done pending rest : List ℕ) → slice_range (done ++ (pending ++ rest)) (length done) (length done + length pending) ≡ pending
middle done pending rest =
    let long : length done + length pending - length done ≡ length pending = omega arith in
    ap (λ (q : ℕ). take q (drop (length done) (done ++ (pending ++ rest)))) long
    ∙ (ap (take (length pending)) (drop-append_seam done (pending ++ rest)) ∙ take-append_seam pending rest)

none_left : (xs : List ℕ) → length xs ≡ 0 → xs ≡ []
none_left [] h = refl
none_left (x ∷ xs) h = let never : ⊥ = omega (arith, h) in absurd never

-- ---- where a text is read: what is done, what has no part yet, and the rest

record At (place : ℕ) (text : List ℕ) (old items : List Part) (room from more here : ℕ) (rest : List ℕ) : Type 0 where
  done : List ℕ
  pending : List ℕ
  new : List Part
  whole : text ≡ done ++ (pending ++ rest)
  starts : from ≡ place + length done
  stands : here ≡ place + (length done + length pending)
  whole_unit : more ≡ 0
  added_to : items ≡ old ++ new
  words : text_of_parts place text new ≡ without_blanks done
  no_blanks : without_blanks pending ≡ pending
  fits : length items + (length pending + length rest) ≤ room

abbrev AtState : ℕ → List ℕ → List Part → Blocks → ℕ → List ℕ → Type 0
AtState place text old s here rest = At place text old s.parts.items s.parts.capacity s.reading.word.from s.reading.word.more here rest

-- the same, with no byte that has no part
abbrev EndedAt : ℕ → List ℕ → List Part → Blocks → ℕ → List ℕ → Type 0
EndedAt place text old s here rest = (a : AtState place text old s here rest) × (a.pending ≡ [])

-- ---- the part under way ends

ended_at : (place : ℕ) (text : List ℕ) (old : List Part) (s : Blocks) (here : ℕ) (rest : List ℕ) → AtState place text old s here rest
    → EndedAt place text old (part_ended here s) here rest
ended_at place text old s here rest a = choose (nat_lt s.reading.word.from here) refl
  where
    p : Part
    p = part_to here s.reading

    more_parts : Blocks
    more_parts = record s { parts = added (part_to here s.reading) s.parts; reading = after_part here s.reading }

    choose : (b : Bool) → nat_lt s.reading.word.from here ≡ b → EndedAt place text old (if b then (record s { parts = added (part_to here s.reading) s.parts; reading = after_part here s.reading }) else s) here rest
    choose true h =
        let some : s.reading.word.from < here = grind (arith, nat_tests, h) in
        let pending_some : 0 < length a.pending = omega (arith, some, a.starts, a.stands) in
        let free : length s.parts.items < s.parts.capacity = omega (arith, pending_some, a.fits) in
        let is_free : nat_lt (length s.parts.items) s.parts.capacity ≡ true = grind (arith, nat_tests, free) in
        let one : (added (part_to here s.reading) s.parts).items ≡ s.parts.items ++ part_to here s.reading ∷ [] =
        if_true (nat_lt (length s.parts.items) s.parts.capacity) (s.parts.items ++ part_to here s.reading ∷ []) s.parts.items is_free in
        let first : s.reading.word.from - place ≡ length a.done = omega (arith, a.starts) in
        let last : here - place ≡ length a.done + length a.pending = omega (arith, a.stands) in
        let here_text : slice_range text (s.reading.word.from - place) (here - place) ≡ a.pending =
        ap (λ (q : ℕ). slice_range text q (here - place)) first
        ∙ (ap (λ (q : ℕ). slice_range text (length a.done) q) last
        ∙ (ap (λ (q : List ℕ). slice_range q (length a.done) (length a.done + length a.pending)) a.whole ∙ middle a.done a.pending rest)) in
        let long : length (a.done ++ a.pending) ≡ length a.done + length a.pending = length-append a.done a.pending in
        let longer : length (s.parts.items ++ part_to here s.reading ∷ []) ≡ length s.parts.items + 1 = length-append s.parts.items (part_to here s.reading ∷ []) in
        let longer_now : length ((added (part_to here s.reading) s.parts).items) ≡ length s.parts.items + 1 = ap length one ∙ longer in (
          record {
            done = a.done ++ a.pending;
            pending = [];
            new = a.new ++ part_to here s.reading ∷ [];
            whole = a.whole ∙ sym (append_assoc a.done a.pending rest);
            starts = omega (arith, a.stands, long);
            stands = omega (arith, a.stands, long);
            whole_unit = a.whole_unit;
            added_to = one ∙ (ap (λ (q : List Part). q ++ part_to here s.reading ∷ []) a.added_to ∙ append_assoc old a.new (part_to here s.reading ∷ []));
            words = parts_apart place text a.new (part_to here s.reading)
                ∙ (ap (λ (q : List ℕ). q ++ slice_range text (s.reading.word.from - place) (here - place)) a.words
                ∙ (ap (λ (q : List ℕ). without_blanks a.done ++ q) (here_text ∙ sym a.no_blanks)
                ∙ sym (blanks_apart a.done a.pending)));
            no_blanks = refl;
            fits = omega (arith, a.fits, pending_some, longer_now);
          },
          refl,
        )
    choose false h =
        let none : here ≤ s.reading.word.from = grind (arith, nat_tests, h) in
        let short : length a.pending ≡ 0 = omega (arith, none, a.starts, a.stands) in
        (a, none_left a.pending short)

-- ---- bytes

abbrev plain_unit : ℕ → Unit
plain_unit b = record { more = 0; cells = 1; does = byte_does b }

is_printing : Does → Bool
is_printing does.Blank = false
is_printing (does.Font f) = false
is_printing does.Back = false
is_printing does.Comment = false
is_printing does.Point = false
is_printing does.Cut = false
is_printing what = true

prints_else : (t1 t2 t3 t4 t5 : Bool) → t4 ≡ false
    → is_printing (if t1 then does.Letter else if t2 then does.Hyphen else if t3 then does.Stop else if t4 then does.Blank else if t5 then does.Print else does.Unsure) ≡ true
unfolding is_printing
prints_else true t2 t3 t4 t5 h = refl
prints_else false true t3 t4 t5 h = refl
prints_else false false true t4 t5 h = refl
prints_else false false false true t5 h = cc
prints_else false false false false true h = refl
prints_else false false false false false h = refl

byte_prints : (b : ℕ) → is_blank b ≡ false → is_printing (byte_does b) ≡ true
byte_prints b h =
    prints_else (is_letter b) (b == code "-") ((b == code ".") || (b == code "?") || (b == code "!")) ((b == code " ") || (b == code "\t")) (is_printed b) h

byte_blank : (b : ℕ) → is_blank b ≡ true → byte_does b ≡ does.Blank
byte_blank b h = elim two [
  | inl e ↦ ap byte_does e
  | inr e ↦ ap byte_does e
]
  where
    two : (b ≡ code " ") ⊎ (b ≡ code "\t")
    two = either (b == code " ") (b == code "\t") h refl refl
      where
        either : (x y : Bool) → (x || y) ≡ true → (b == code " ") ≡ x → (b == code "\t") ≡ y → (b ≡ code " ") ⊎ (b ≡ code "\t")
        either true y k e f = inl (grind (arith, nat_tests, e))
        either false true k e f = inr (grind (arith, nat_tests, f))
        either false false k e f = cc

-- what prints leaves where the part under way began
from_printed : (what : Does) (u : Unit) (next : ℕ) (r : Reading) → is_printing what ≡ true → (read_as what u next r).word.from ≡ r.word.from
unfolding is_printing
from_printed does.Blank u next r h = cc
from_printed (does.Font f) u next r h = cc
from_printed does.Back u next r h = cc
from_printed does.Comment u next r h = cc
from_printed does.Point u next r h = cc
from_printed does.Cut u next r h = cc
from_printed does.Print u next r h = refl
from_printed does.Nothing u next r h = refl
from_printed does.Letter u next r h = refl
from_printed does.Stop u next r h = refl
from_printed does.Hyphen u next r h = refl
from_printed does.Dash u next r h = refl
from_printed does.Unsure u next r h = refl

-- ---- a byte

-- a blank, once the part before it has ended
blank_at : (place : ℕ) (text : List ℕ) (old : List Part) (t : Blocks) (here b : ℕ) (rest : List ℕ) → is_blank b ≡ true → here + 1 < 18446744073709551616
    → EndedAt place text old t here (b ∷ rest) → AtState place text old (with_reading (taken (plain_unit b) here t.reading) t) (here + 1) rest
blank_at place text old t here b rest h few (a, none) = record {
  done = a.done ++ b ∷ [];
  pending = [];
  new = a.new;
  whole = a.whole ∙ (ap (λ (q : List ℕ). a.done ++ (q ++ b ∷ rest)) none ∙ sym (append_assoc a.done (b ∷ []) rest));
  starts = begins ∙ omega (arith, a.stands, empty, long, few);
  stands = omega (arith, a.stands, empty, long);
  whole_unit = refl;
  added_to = a.added_to;
  words = a.words ∙ (sym (append-nil (without_blanks a.done))
      ∙ (ap (λ (q : List ℕ). without_blanks a.done ++ q) (sym gone) ∙ sym (blanks_apart a.done (b ∷ []))));
  no_blanks = refl;
  fits = omega (arith, a.fits);
}
  where
    empty : length a.pending ≡ 0
    empty = ap length none

    long : length (a.done ++ b ∷ []) ≡ length a.done + 1
    long = length-append a.done (b ∷ [])

    begins : (taken (plain_unit b) here t.reading).word.from ≡ sum (sum here 1) 0
    begins = ap (λ (w : Does). (read_as w (plain_unit b) (sum (sum here 1) 0) t.reading).word.from) (byte_blank b h)

    gone : without_blanks (b ∷ []) ≡ []
    gone = if_true (is_blank b) [] (b ∷ []) h

-- another byte
printed_at : (place : ℕ) (text : List ℕ) (old : List Part) (t : Blocks) (here b : ℕ) (rest : List ℕ) → is_blank b ≡ false
    → AtState place text old t here (b ∷ rest) → AtState place text old (with_reading (taken (plain_unit b) here t.reading) t) (here + 1) rest
printed_at place text old t here b rest h a = record {
  done = a.done;
  pending = a.pending ++ b ∷ [];
  new = a.new;
  whole = a.whole ∙ ap (λ (q : List ℕ). a.done ++ q) (sym (append_assoc a.pending (b ∷ []) rest));
  starts = from_printed (byte_does b) (plain_unit b) (sum (sum here 1) 0) t.reading (byte_prints b h) ∙ a.starts;
  stands = omega (arith, a.stands, long);
  whole_unit = refl;
  added_to = a.added_to;
  words = a.words;
  no_blanks = blanks_apart a.pending (b ∷ [])
      ∙ (ap (λ (q : List ℕ). q ++ without_blanks (b ∷ [])) a.no_blanks ∙ ap (λ (q : List ℕ). a.pending ++ q) (if_false (is_blank b) [] (b ∷ []) h));
  fits = omega (arith, a.fits, long);
}
  where
    long : length (a.pending ++ b ∷ []) ≡ length a.pending + 1
    long = length-append a.pending (b ∷ [])

byte_at : (place : ℕ) (text : List ℕ) (old : List Part) (s : Blocks) (here b : ℕ) (rest : List ℕ) → (b == code "\\") ≡ false
    → here + 1 < 18446744073709551616 → AtState place text old s here (b ∷ rest) → AtState place text old (byte_taken b rest here s) (here + 1) rest
byte_at place text old s here b rest plain few a =
    subst (λ (q : Blocks). AtState place text old q (here + 1) rest) (sym is) (unit_at (is_blank b) refl)
  where
    whole : nat_lt 0 s.reading.word.more ≡ false
    whole = ap (λ (q : ℕ). nat_lt 0 q) a.whole_unit

    is : byte_taken b rest here s ≡ with_unit (plain_unit b) here s
    is =
        if_false (nat_lt 0 s.reading.word.more) (with_reading (skipped s.reading) s) (unit_taken b rest here s) whole
        ∙ ap (λ (u : Unit). with_unit u here s) (if_false (b == code "\\") (escape rest s.strings.items) (plain_unit b) plain)

    unit_at : (x : Bool) → is_blank b ≡ x → AtState place text old (with_unit (plain_unit b) here s) (here + 1) rest
    unit_at true h =
        let parts : parts_before (plain_unit b) s.reading ≡ true =
        ap (λ (w : Does). ends_part w (s.reading.fills && is_cut_before (plain_unit b) s.reading.word)) (byte_blank b h) in
        let same : parted (plain_unit b) here s ≡ part_ended here s = if_true (parts_before (plain_unit b) s.reading) (part_ended here s) s parts in
        subst (λ (q : Blocks). AtState place text old (with_reading (taken (plain_unit b) here q.reading) q) (here + 1) rest) (sym same)
        (blank_at place text old (part_ended here s) here b rest h few (ended_at place text old s here (b ∷ rest) a))
    unit_at false h = printed_at place text old (parted (plain_unit b) here s) here b rest h (cut (parts_before (plain_unit b) s.reading))
      where
        cut : (x : Bool) → AtState place text old (if x then part_ended here s else s) here (b ∷ rest)
        cut true = (ended_at place text old s here (b ∷ rest) a).0
        cut false = a

-- ---- all bytes

walk : (place : ℕ) (text : List ℕ) (old : List Part) (rest : List ℕ) (s : Blocks) (here : ℕ) → IsPlain rest → here + length rest < 18446744073709551616
    → AtState place text old s here rest → (end : ℕ) × EndedAt place text old (words_from here rest s) end []
walk place text old [] s here plain few a = (here, ended_at place text old s here [] a)
walk place text old (b ∷ rest) s here plain few a =
    walk place text old rest (byte_taken b rest here s) (here + 1) plain.1 (omega (arith, few))
    (byte_at place text old s here b rest plain.0 (omega (arith, few)) a)

pub words_are_read : WordsAreRead
words_are_read text place s plain few room = finish (walk place text s.parts.items text (word_at_place place s) place plain few begun)
  where
    begun : AtState place text s.parts.items (word_at_place place s) place text
    begun = record {
      done = [];
      pending = [];
      new = [];
      whole = refl;
      starts = omega arith;
      stands = omega arith;
      whole_unit = refl;
      added_to = sym (append-nil s.parts.items);
      words = refl;
      no_blanks = refl;
      fits = omega (arith, room);
    }

    finish : (end : ℕ) × EndedAt place text s.parts.items (words_from place text (word_at_place place s)) end [] → (new : List Part)
        × (((words_from place text (word_at_place place s)).parts.items ≡ s.parts.items ++ new) × (text_of_parts place text new ≡ without_blanks text))
    finish (end, (a, none)) =
        let all : text ≡ a.done = a.whole ∙ (ap (λ (q : List ℕ). a.done ++ (q ++ [])) none ∙ append-nil a.done) in
        (a.new, (a.added_to, a.words ∙ ap without_blanks (sym all)))
