-- A plain byte, before which no part ends, is read at once.
use Rattle.std.proofs.Common.{◌≡◌, ◌==◌, ℕ, Bool, true, false, not, ◌&&◌, ◌||◌, List, refl, sym, ap, arith, ◌∙◌, if◌then◌else◌}
use Rattle.std.proofs.lemmas.Bool.Decides.{nat_tests}
use Rattle.std.proofs.lemmas.Grind.{common_steps}
use Prim.Native.Char.{code}
use Rattle.nr_settings.specs.Characters.{prints as is_printed}
use Rattle.tbl_blocks.specs.declared.blocks.Blocks.{Blocks}
use Rattle.tbl_blocks.specs.declared.parts.Join.TheVariants as joins
use Rattle.tbl_blocks.specs.declared.reading.Last.{Last}
use Rattle.tbl_blocks.specs.declared.reading.Last.TheVariants as lasts
use Rattle.tbl_blocks.specs.declared.reading.Reading.{Reading}
use Rattle.tbl_blocks.specs.declared.units.Does.{Does}
use Rattle.tbl_blocks.specs.declared.units.Does.TheVariants as does
use Rattle.tbl_blocks.specs.declared.units.Unit.{Unit}
use Rattle.tbl_blocks.specs.Parts.{sum}
use Rattle.tbl_blocks.specs.Reading.{cut_after, cuts_none, is_cut_before, is_quiet, letter_or, parts_before, plain_read, taken}
use Rattle.tbl_blocks.specs.Units.{byte_does, escape, is_letter, is_plain, is_stop}
use Rattle.tbl_blocks.specs.Words.{part_ended, unit_taken, with_reading, with_unit}

if_false : {T : Type 0} → (b : Bool) (x y : T) → b ≡ false → (if b then x else y) ≡ y
if_false b x y h = ap (λ (c : Bool). if c then x else y) h

both_left : (a b : Bool) → (a && b) ≡ true → a ≡ true
both_left true b h = refl
both_left false b h = h

both_right : (a b : Bool) → (a && b) ≡ true → b ≡ true
both_right true b h = h
both_right false b h = cc

not_it : (a : Bool) → not a ≡ true → a ≡ false
not_it true h = cc
not_it false h = refl

not_both : (a b : Bool) → b ≡ false → (a && b) ≡ false
not_both true b h = h
not_both false b h = refl

and_true : (a : Bool) → (a && true) ≡ a
and_true true = refl
and_true false = refl

or_true : (a : Bool) → (a || true) ≡ true
or_true true = refl
or_true false = refl

abbrev one : Does → Unit
one w = record { more = 0; cells = 1; does = w }

-- a letter, what ends a sentence, or another character
is_character : Does → Bool
is_character does.Letter = true
is_character does.Stop = true
is_character does.Print = true
is_character w = false

stops : Does → Bool
stops does.Stop = true
stops w = false

prints_letter : Does → Bool
prints_letter does.Letter = true
prints_letter w = false

abbrev read_once : Does → Reading → Reading
read_once w r = record r {
  ends = stops w;
  word = record r.word { cells = sum r.word.cells 1; begun = true; last = letter_or (prints_letter w); more = 0 };
}

settled : (r : Reading) (e c s b : Bool) (l : Last) → c ≡ false → s ≡ r.seen.sure → b ≡ true
    → (let t : Reading = record r {
      join = if c then joins.Cut else r.join;
      ends = e;
      word = record r.word { cells = sum r.word.cells 1; begun = b; last = l; more = 0 };
      seen = record r.seen { sure = s };
    } in t)
    ≡ (let t : Reading = record r { ends = e; word = record r.word { cells = sum r.word.cells 1; begun = true; last = l; more = 0 } } in t)
settled r e c s b l hc hs hb =
    ap (λ (x : Bool). let t : Reading = record r {
      join = if x then joins.Cut else r.join;
      ends = e;
      word = record r.word { cells = sum r.word.cells 1; begun = b; last = l; more = 0 };
      seen = record r.seen { sure = s };
    } in t) hc
    ∙ (ap (λ (x : Bool). let t : Reading = record r {
      ends = e;
      word = record r.word { cells = sum r.word.cells 1; begun = b; last = l; more = 0 };
      seen = record r.seen { sure = x };
    } in t) hs
    ∙ ap (λ (x : Bool). let t : Reading = record r { ends = e; word = record r.word { cells = sum r.word.cells 1; begun = x; last = l; more = 0 } } in t) hb)

none_cut : (last : Last) (u : Unit) → cuts_none last ≡ true → cut_after last u ≡ false
none_cut lasts.Letter u h = refl
none_cut lasts.Other u h = refl
none_cut lasts.Hyphen u h = cc
none_cut lasts.Dash u h = cc

character_taken : (w : Does) (place : ℕ) (r : Reading) → is_character w ≡ true → (r.fills && is_cut_before (one w) r.word) ≡ false → taken (one w) place r ≡ read_once w r
unfolding is_character stops prints_letter
character_taken does.Letter place r h cut =
    settled r false (r.fills && is_cut_before (one does.Letter) r.word) (r.seen.sure && true) (r.word.begun || true) lasts.Letter cut (and_true r.seen.sure) (or_true r.word.begun)
character_taken does.Stop place r h cut =
    settled r true (r.fills && is_cut_before (one does.Stop) r.word) (r.seen.sure && true) (r.word.begun || true) lasts.Other cut (and_true r.seen.sure) (or_true r.word.begun)
character_taken does.Print place r h cut =
    settled r false (r.fills && is_cut_before (one does.Print) r.word) (r.seen.sure && true) (r.word.begun || true) lasts.Other cut (and_true r.seen.sure) (or_true r.word.begun)
character_taken does.Nothing place r h cut = cc
character_taken does.Hyphen place r h cut = cc
character_taken does.Dash place r h cut = cc
character_taken does.Blank place r h cut = cc
character_taken does.Point place r h cut = cc
character_taken does.Cut place r h cut = cc
character_taken (does.Font f) place r h cut = cc
character_taken does.Back place r h cut = cc
character_taken does.Unsure place r h cut = cc
character_taken does.Comment place r h cut = cc

character_parts : (w : Does) (r : Reading) → is_character w ≡ true → parts_before (one w) r ≡ (r.fills && is_cut_before (one w) r.word)
unfolding is_character
character_parts does.Letter r h = refl
character_parts does.Stop r h = refl
character_parts does.Print r h = refl
character_parts does.Nothing r h = cc
character_parts does.Hyphen r h = cc
character_parts does.Dash r h = cc
character_parts does.Blank r h = cc
character_parts does.Point r h = cc
character_parts does.Cut r h = cc
character_parts (does.Font f) r h = cc
character_parts does.Back r h = cc
character_parts does.Unsure r h = cc
character_parts does.Comment r h = cc

-- ---- a plain byte is one of these

never : false ≡ true → ⊥
never h = cc

plain_seen : (b : ℕ) (t1 t2 t3 t4 t5 : Bool) → t2 ≡ false → t4 ≡ false → t5 ≡ true → is_letter b ≡ t1 → (b == code "-") ≡ t2 → is_stop b ≡ t3
    → ((b == code " ") || (b == code "\t")) ≡ t4 → is_printed b ≡ t5
    → (is_character (if t1 then does.Letter else if t2 then does.Hyphen else if t3 then does.Stop else if t4 then does.Blank else if t5 then does.Print else does.Unsure) ≡ true)
    × ((stops (if t1 then does.Letter else if t2 then does.Hyphen else if t3 then does.Stop else if t4 then does.Blank else if t5 then does.Print else does.Unsure) ≡ (t3 && not t1))
    × (prints_letter (if t1 then does.Letter else if t2 then does.Hyphen else if t3 then does.Stop else if t4 then does.Blank else if t5 then does.Print else does.Unsure) ≡ t1))
unfolding is_character stops prints_letter
plain_seen b true t2 true t4 t5 h2 h4 h5 e1 e2 e3 e4 e5 = (refl, (refl, refl))
plain_seen b true t2 false t4 t5 h2 h4 h5 e1 e2 e3 e4 e5 = (refl, (refl, refl))
plain_seen b false true t3 t4 t5 h2 h4 h5 e1 e2 e3 e4 e5 = absurd (never (sym h2))
plain_seen b false false true t4 t5 h2 h4 h5 e1 e2 e3 e4 e5 = (refl, (refl, refl))
plain_seen b false false false true t5 h2 h4 h5 e1 e2 e3 e4 e5 = absurd (never (sym h4))
plain_seen b false false false false true h2 h4 h5 e1 e2 e3 e4 e5 = (refl, (refl, refl))
plain_seen b false false false false false h2 h4 h5 e1 e2 e3 e4 e5 = absurd (never h5)

-- ---- the byte

pub quiet_unit : (b : ℕ) (rest : List ℕ) (place : ℕ) (s : Blocks) → is_quiet b s.reading ≡ true → unit_taken b rest place s ≡ with_reading (plain_read b s.reading) s
quiet_unit b rest place s quiet =
    ap (λ (u : Unit). with_unit u place s) (if_false (b == code "\\") (escape rest s.strings.items) (one (byte_does b)) no_backslash)
    ∙ (ap (λ (t : Blocks). with_reading (taken (one (byte_does b)) place t.reading) t) (if_false (parts_before (one (byte_does b)) s.reading) (part_ended place s) s no_part)
    ∙ (ap (λ (r : Reading). with_reading r s) (character_taken (byte_does b) place s.reading seen.0 none)
    ∙ (ap (λ (e : Bool). with_reading (record s.reading {
      ends = e;
      word = record s.reading.word { cells = sum s.reading.word.cells 1; begun = true; last = letter_or (prints_letter (byte_does b)); more = 0 };
    }) s) seen.1.0
    ∙ ap (λ (l : Bool). with_reading (record s.reading {
      ends = is_stop b && not (is_letter b);
      word = record s.reading.word { cells = sum s.reading.word.cells 1; begun = true; last = letter_or l; more = 0 };
    }) s) seen.1.1)))
  where
    plain : is_plain b ≡ true
    plain = both_left (is_plain b) (cuts_none s.reading.word.last) quiet

    printed : is_printed b ≡ true
    printed = both_left (is_printed b) _ (both_left (is_printed b && not (b == code " ")) _ (both_left (is_printed b && not (b == code " ") && not (b == code "-")) _ plain))

    no_blank : (b == code " ") ≡ false
    no_blank = not_it (b == code " ") (both_right (is_printed b) _ (both_left (is_printed b && not (b == code " ")) _ (both_left (is_printed b && not (b == code " ") && not (b == code "-")) _ plain)))

    no_hyphen : (b == code "-") ≡ false
    no_hyphen = not_it (b == code "-") (both_right (is_printed b && not (b == code " ")) _ (both_left (is_printed b && not (b == code " ") && not (b == code "-")) _ plain))

    no_backslash : (b == code "\\") ≡ false
    no_backslash = not_it (b == code "\\") (both_right (is_printed b && not (b == code " ") && not (b == code "-")) _ plain)

    no_tab : (b == code "\t") ≡ false
    no_tab = grind (arith, nat_tests, common_steps, printed)

    neither : ((b == code " ") || (b == code "\t")) ≡ false
    neither = ap (λ (x : Bool). x || (b == code "\t")) no_blank ∙ no_tab

    seen : (is_character (byte_does b) ≡ true) × ((stops (byte_does b) ≡ (is_stop b && not (is_letter b))) × (prints_letter (byte_does b) ≡ is_letter b))
    seen = plain_seen b (is_letter b) (b == code "-") (is_stop b) ((b == code " ") || (b == code "\t")) (is_printed b) no_hyphen neither printed refl refl refl refl refl

    none : (s.reading.fills && is_cut_before (one (byte_does b)) s.reading.word) ≡ false
    none = not_both s.reading.fills (cut_after s.reading.word.last (one (byte_does b)))
        (none_cut s.reading.word.last (one (byte_does b)) (both_right (is_plain b) (cuts_none s.reading.word.last) quiet))

    no_part : parts_before (one (byte_does b)) s.reading ≡ false
    no_part = character_parts (byte_does b) s.reading seen.0 ∙ none
