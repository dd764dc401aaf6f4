-- How macros take their words.
use Rattle.std.proofs.Common.{◌≡◌, ℕ, ◌-◌, List, [], ◌∷◌, ◌++◌, length, length-append, Bool, true, false, not, ◌&&◌, ◌||◌, ◌==◌, nat_lt, if◌then◌else◌, Option, refl, sym, ◌∙◌, ap, append_assoc, arith}
use Rattle.std.proofs.lemmas.Bool.Decides.{nat_tests}
use Rattle.std.specs.Prelude.{codes, slice_index}
use Rattle.std.proofs.Math.Seq.{get_or-append_seam}
use Prim.Native.Char.{code}
use Rattle.mdoc_layout.specs.declared.page.Escape.{Escape as Reached}
use Rattle.mdoc_layout.specs.declared.macros.Macro.{Macro}
use Rattle.mdoc_layout.specs.declared.macros.Macro.TheVariants as macros
use Rattle.mdoc_layout.specs.declared.page.Page.{Page}
use Rattle.mdoc_words.specs.Calls.{is_enclosure_pending, is_pending}
use Rattle.mdoc_words.specs.Meanings.{is_opened_by, is_pending_from}
use Rattle.mdoc_words.specs.Rules.{is_none}
use Rattle.mdoc_words.specs.Taking.{is_bar, is_opening, is_prefix}
use Rattle.mdoc_words.specs.Keeping.{ends_in_hyphen, has_dashes, is_title, looks_up}
use Rattle.mdoc_words.specs.Options.{is_heading, reads_for}
use Rattle.mdoc_converter.specs.WrittenLines.{is_held, is_hyphen, is_named, kept_first, kept_letter, Letter, Plain, Escape, prints_otherwise, Way, Usual, Titled, Authors, Headed, way_of, way_of_part, said_of, holds_hyphen}
use Rattle.mdoc_converter.proofs.Escapes.{and_left, and_right, is_not, same_byte}
use Rattle.mdoc_converter.proofs.Outcomes.{never, takes_as, takes_plain}

-- ---- macros that take words otherwise are not pending

pending_from_usual : (m : Macro) (some named : Bool) → is_pending_from m some named ≡ true → way_of m ≡ Usual
pending_from_usual macros.Describes some named h = never h
pending_from_usual (macros.Part letter) some named h = never h
pending_from_usual macros.Author some named h = never h
pending_from_usual macros.Section some named h = never h
pending_from_usual macros.SectionName some named h = never h
pending_from_usual macros.Subsection some named h = never h
pending_from_usual m some named h = refl

pub pending_usual : (p : Page) → is_pending p ≡ true → way_of p.call.taker ≡ Usual
pending_usual p h = pending_from_usual p.call.taker p.call.some _ h

opened_by_usual : (m : Macro) → is_opened_by m ≡ true → way_of m ≡ Usual
opened_by_usual macros.Describes h = never h
opened_by_usual (macros.Part letter) h = never h
opened_by_usual macros.Author h = never h
opened_by_usual macros.Section h = never h
opened_by_usual macros.SectionName h = never h
opened_by_usual macros.Subsection h = never h
opened_by_usual m h = refl

pub opened_usual : (p : Page) → is_enclosure_pending p ≡ true → way_of p.call.taker ≡ Usual
opened_usual p h = opened_by_usual p.call.taker (and_left (is_opened_by p.call.taker) (not p.call.some) h)

pub prefix_usual : (m : Macro) → is_prefix m ≡ true → way_of m ≡ Usual
prefix_usual macros.Prefix h = refl
prefix_usual m h = never h

-- ---- hyphens

part_holds : (t dash : Bool) → (not t || dash) ≡ holds_hyphen (way_of_part t) dash
part_holds true dash = refl
part_holds false dash = refl

usual_holds : (t dash : Bool) → t ≡ false → (not t || dash) ≡ true
usual_holds t dash e = ap (λ (u : Bool). not u || dash) e

holds_by : (m : Macro) (dash : Bool) → prints_otherwise m ≡ false → reads_for m ≡ false
    → (not (looks_up m) || (has_dashes m && dash)) ≡ holds_hyphen (way_of m) dash
holds_by macros.Standard dash h e = never (sym h)
holds_by macros.Describes dash h e = refl
holds_by macros.SectionName dash h e = refl
holds_by macros.Subsection dash h e = refl
holds_by (macros.Part letter) dash h e = part_holds (is_title letter) dash
holds_by macros.Author dash h e = refl
holds_by macros.Section dash h e = never (sym e)
holds_by m dash h e = usual_holds (reads_for m) (has_dashes m && dash) e

heading_holds : (m : Macro) (dash : Bool) → is_heading m ≡ true → (not (looks_up m) || (has_dashes m && dash)) ≡ holds_hyphen (way_of m) dash
heading_holds macros.Section dash h = refl
heading_holds m dash h = never h

-- whether a hyphen is kept as an escape
pub plain_hyphen : (plain : Bool) (m : Macro) (dash : Bool) → takes_as plain m ≡ true
    → (not (looks_up m) || (has_dashes m && dash)) ≡ holds_hyphen (way_of m) dash
unfolding takes_plain
plain_hyphen true m dash h =
    holds_by m dash (is_not (prints_otherwise m) (and_left (not (prints_otherwise m)) (not (reads_for m)) h))
    (is_not (reads_for m) (and_right (not (prints_otherwise m)) (not (reads_for m)) h))
plain_hyphen false m dash h = heading_holds m dash h

one_less : (xs : List ℕ) (c : ℕ) → length (xs ++ c ∷ []) - 1 ≡ length xs
one_less xs c = rw (length-append xs (c ∷ [])) (omega arith)

some_length : (xs : List ℕ) (c : ℕ) → nat_lt 0 (length (xs ++ c ∷ [])) ≡ true
some_length xs c = rw (length-append xs (c ∷ [])) (grind (arith, nat_tests))

pub last_hyphen : (xs : List ℕ) (c : ℕ) → ends_in_hyphen (xs ++ c ∷ []) ≡ (c == code "-")
last_hyphen xs c =
    ap (λ (t : Bool). t && (slice_index (xs ++ c ∷ []) (length (xs ++ c ∷ []) - 1) == code "-")) (some_length xs c)
    ∙ ap (λ (k : ℕ). slice_index (xs ++ c ∷ []) k == code "-") (one_less xs c)
    ∙ ap (λ (k : ℕ). k == code "-") (get_or-append_seam xs c [] 0)

none_by : (n t u : Bool) (b : ℕ) → is_none (if n then b ∷ [] else if t then codes "\\~" else if u then codes "\\-" else b ∷ []) ≡ false
none_by true t u b = refl
none_by false true u b = refl
none_by false false true b = refl
none_by false false false b = refl

pub letter_some : (way : Way) (whole : Bool) (reached : Option Reached) (following : Bool) (l : Letter) → is_none (kept_letter way whole reached following l) ≡ false
letter_some way whole reached following (Plain b) = none_by (is_named reached b) ((b == code " ") && whole) (is_held way following b) b
letter_some way whole reached following (Escape b) = refl

first_none : (t : Bool) (b : ℕ) → is_none (if t then codes "\\~" else b ∷ []) ≡ false
first_none true b = refl
first_none false b = refl

pub first_some : (whole : Bool) (l : Letter) → is_none (kept_first whole l) ≡ false
first_some whole (Plain b) = first_none ((b == code " ") && whole) b
first_some whole (Escape b) = refl

-- a hyphen is the last byte of what is kept where it is the last letter
pub plain_last : (t v : Bool) (b : ℕ) (word : List ℕ) → (b == code "-") ≡ t → ends_in_hyphen (word ++ (if t && v then codes "\\-" else b ∷ [])) ≡ t
plain_last true true b word e =
    ap ends_in_hyphen (sym (append_assoc word (code "\\" ∷ []) (code "-" ∷ []))) ∙ last_hyphen (word ++ code "\\" ∷ []) (code "-")
plain_last true false b word e = last_hyphen word b ∙ e
plain_last false v b word e = last_hyphen word b ∙ e

escape_last : (b : ℕ) (word : List ℕ) → ends_in_hyphen (word ++ code "\\" ∷ b ∷ []) ≡ (b == code "-")
escape_last b word =
    ap ends_in_hyphen (sym (append_assoc word (code "\\" ∷ []) (b ∷ []))) ∙ last_hyphen (word ++ code "\\" ∷ []) b

blank_no_hyphen : (b : ℕ) → (b == code " ") ≡ true → (b == code "-") ≡ false
blank_no_hyphen b e = ap (λ (k : ℕ). k == code "-") (sym (same_byte b (code " ") e))

blank_last : (word : List ℕ) → ends_in_hyphen (word ++ codes "\\~") ≡ false
blank_last word =
    ap ends_in_hyphen (sym (append_assoc word (code "\\" ∷ []) (code "~" ∷ []))) ∙ last_hyphen (word ++ code "\\" ∷ []) (code "~")

letter_last_by : (n t f v : Bool) (b : ℕ) (word : List ℕ) → (b == code " ") ≡ t
    → ends_in_hyphen (word ++ (if n then b ∷ [] else if t && f then codes "\\~" else if (b == code "-") && v then codes "\\-" else b ∷ [])) ≡ (b == code "-")
letter_last_by true t f v b word e = last_hyphen word b
letter_last_by false true true v b word e = blank_last word ∙ sym (blank_no_hyphen b e)
letter_last_by false true false v b word e = plain_last (b == code "-") v b word refl
letter_last_by false false f v b word e = plain_last (b == code "-") v b word refl

pub letter_last : (way : Way) (whole : Bool) (reached : Option Reached) (following : Bool) (l : Letter) (word : List ℕ)
    → ends_in_hyphen (word ++ kept_letter way whole reached following l) ≡ is_hyphen l
letter_last way whole reached following (Plain b) word = letter_last_by (is_named reached b) (b == code " ") whole (holds_hyphen way following) b word refl
letter_last way whole reached following (Escape b) word = escape_last b word

first_last_by : (t f : Bool) (b : ℕ) (word : List ℕ) → (b == code " ") ≡ t
    → ends_in_hyphen (word ++ (if t && f then codes "\\~" else b ∷ [])) ≡ (b == code "-")
first_last_by true true b word e = blank_last word ∙ sym (blank_no_hyphen b e)
first_last_by true false b word e = last_hyphen word b
first_last_by false f b word e = last_hyphen word b

pub first_last : (whole : Bool) (l : Letter) (word : List ℕ) → ends_in_hyphen (word ++ kept_first whole l) ≡ is_hyphen l
first_last whole (Plain b) word = first_last_by (b == code " ") whole b word refl
first_last whole (Escape b) word = escape_last b word

-- ---- what is said of words that authors have none of

one_said : (t : Bool) (c : ℕ) → c ∷ [] ≡ (if t && false then [] else if t && false then [] else c ∷ [])
one_said true c = refl
one_said false c = refl

pub said_one : (way : Way) (c : ℕ) → c ∷ [] ≡ said_of way (c ∷ [])
said_one Usual c = refl
said_one Titled c = refl
said_one Authors c = one_said (c == code "-") c
said_one Headed c = refl

pub said_bar : (way : Way) (word : List ℕ) → is_bar word ≡ true → word ≡ said_of way word
said_bar way [] h = never h
said_bar way (b ∷ []) h = said_one way b
said_bar way (a ∷ b ∷ rest) h = never h

pub said_opening : (way : Way) (word : List ℕ) → is_opening word ≡ true → word ≡ said_of way word
said_opening way [] h = never h
said_opening way (b ∷ []) h = said_one way b
said_opening way (a ∷ b ∷ rest) h = never h

part_said : (t : Bool) (word : List ℕ) → word ≡ said_of (way_of_part t) word
part_said true word = refl
part_said false word = refl

pub said_part : (letter : ℕ) (word : List ℕ) → word ≡ said_of (way_of (macros.Part letter)) word
said_part letter word = part_said (is_title letter) word
