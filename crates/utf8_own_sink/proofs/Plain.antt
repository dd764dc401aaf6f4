-- What is plain goes out as it is, and the first half of a pair waits.
use Rattle.std.proofs.Common.{◌≡◌, ℕ, ◌<◌, List, [], ◌∷◌, ◌++◌, Bool, true, false, not, ◌&&◌, nat_le, nat_lt, if◌then◌else◌, Option, None, Some, is_some, refl, sym, ◌∙◌, ap, append-nil, arith}
use Rattle.std.proofs.lemmas.Bool.Decides.{nat_tests}
use Rattle.std.proofs.lemmas.Str.{encode_ascii}
use Rattle.std.specs.Char.{encode_utf8}
use Rattle.nr_vectors.specs.declared.cell.Look.{Look}
use Rattle.nr_vectors.specs.declared.cell.Look.TheVariants.{Plain, Under, Bold}
use Rattle.utf8_own_characters.specs.Cluster.{single}
use Rattle.utf8_own_characters.specs.Reading.{alone, read, waits}
use Rattle.utf8_own_characters.specs.Table.{Characters, is_lead}
use Rattle.utf8_converter.specs.Cells.{is_same}
use Rattle.utf8_own_characters.specs.declared.reading.Read.{Read}
use Rattle.utf8_own_sink.specs.Cells.{ascii, come, lead_after, letters_of, read_byte, waiting}
use Rattle.utf8_own_sink.specs.Letters.{Letter, drawn, is_plain, is_shown, letter, look_of, text_of, way_past}
use Rattle.utf8_own_sink.specs.Reading.{cell_said, drawn_all, holds, is_as_is, passes, ways_past}
use Rattle.utf8_own_sink.specs.declared.cells.Cell.{Cell}
use Rattle.utf8_own_sink.specs.declared.cells.Reader.{Reader}
use Rattle.utf8_own_sink.specs.declared.letters.Way.{Way}
use Rattle.utf8_own_sink.specs.declared.letters.Way.TheVariants.{Backspaces, Escapes}

pub and_first : (x y : Bool) → x && y ≡ true → x ≡ true
and_first true y p = refl
and_first false y p = p

and_second : (x y : Bool) → x && y ≡ true → y ≡ true
and_second true y p = p
and_second false y p = absurd (let no : false ≡ true = p in cc)

-- ---- its byte

low : (b : ℕ) → is_as_is b ≡ true → b < 128
low b e = grind (arith, nat_tests)

seen : (b : ℕ) → is_as_is b ≡ true → is_shown (single b) ≡ true
seen b e = grind (arith, nat_tests)

low_test : (b : ℕ) → is_as_is b ≡ true → nat_lt b 128 ≡ true
low_test b e = grind (arith, nat_tests)

pub no_marks : (xs : List ℕ) → xs ++ [] ++ [] ++ [] ≡ xs
no_marks [] = refl
no_marks (x ∷ xs) = ap (λ (zs : List ℕ). x ∷ zs) (no_marks xs)

text : (b : ℕ) → b < 128 → text_of (single b) ≡ b ∷ []
text b l = no_marks (encode_utf8 b) ∙ encode_ascii b l

-- ---- how it looks

plain_look : (look : Look) → is_same look Plain ≡ true → look ≡ Plain
plain_look Plain e = refl
plain_look Under e = absurd (let no : false ≡ true = e in cc)
plain_look Bold e = absurd (let no : false ≡ true = e in cc)

either : (x : Bool) → (if x then Plain else Plain) ≡ Plain
either true = refl
either false = refl

pub stays_plain : (b : ℕ) → look_of (single b) Plain ≡ Plain
stays_plain b = either (nat_le b 32)

no_lead : (lead : Option Cell) → not (is_some lead) ≡ true → lead ≡ None
no_lead None e = refl
no_lead (Some c) e = absurd (let no : false ≡ true = e in cc)

-- ---- what is drawn

drawn_by : (w : Way) (b : ℕ) (look : Look) → is_plain w ≡ true → look_of (single b) look ≡ Plain → is_shown (single b) ≡ true → b < 128 → drawn w (letter (single b) look) ≡ b ∷ []
drawn_by Backspaces b look p e is l = rw (is, e) (text b l)
drawn_by (Escapes Plain) b look p e is l = rw (is, e) (text b l)
drawn_by (Escapes Under) b look p e is l = absurd (let no : false ≡ true = p in cc)
drawn_by (Escapes Bold) b look p e is l = absurd (let no : false ≡ true = p in cc)

pub way_by : (w : Way) (b : ℕ) (look : Look) → is_plain w ≡ true → look_of (single b) look ≡ Plain → is_shown (single b) ≡ true → way_past w (letter (single b) look) ≡ w
way_by Backspaces b look p e is = rw is refl
way_by (Escapes Plain) b look p e is = rw (is, e) refl
way_by (Escapes Under) b look p e is = absurd (let no : false ≡ true = p in cc)
way_by (Escapes Bold) b look p e is = absurd (let no : false ≡ true = p in cc)

-- ---- a cell

record Passes (r : Reader) (c : Cell) : Type 0 where
  byte : is_as_is c.byte ≡ true
  look : c.look ≡ Plain
  lead : r.lead ≡ None
  way : is_plain r.way ≡ true

passed : (r : Reader) (c : Cell) → passes r c ≡ true → Passes r c
passed r c e =
    let a = is_as_is c.byte in
    let l = is_same c.look Plain in
    let n = not (is_some r.lead) in
    let first = and_first (a && l && n) (is_plain r.way) e in
    let both = and_first (a && l) n first in
    record {
      byte = and_first a l both;
      look = plain_look c.look (and_second a l both);
      lead = no_lead r.lead (and_second (a && l) n first);
      way = and_second (a && l && n) (is_plain r.way) e;
    }

one_letter : (t : Characters) (lead : Option Cell) (c : Cell) → lead ≡ None → is_as_is c.byte ≡ true → letters_of t lead c ≡ letter (single c.byte) c.look ∷ []
one_letter t lead c none is =
    ap (λ (o : Option Cell). letters_of t o c) none
    ∙ ap (λ (x : Bool). come None c.look (if x then ascii None c.byte else read t None c.byte)) (low_test c.byte is)

none_waits : (t : Characters) (lead : Option Cell) (c : Cell) → lead ≡ None → is_as_is c.byte ≡ true → lead_after t lead c ≡ None
none_waits t lead c none is =
    ap (λ (o : Option Cell). lead_after t o c) none
    ∙ ap (λ (x : Bool). waiting c (if x then ascii None c.byte else read t None c.byte).held) (low_test c.byte is)

looks : (c : Cell) → c.look ≡ Plain → look_of (single c.byte) c.look ≡ Plain
looks c e = ap (λ (look : Look). look_of (single c.byte) look) e ∙ stays_plain c.byte

pub passes-said : (t : Characters) (c : Cell) (r : Reader) → passes r c ≡ true → cell_said t c r ≡ c.byte ∷ []
passes-said t c r e =
    let is = passed r c e in
    ap (λ (ls : List Letter). drawn_all r.way ls) (one_letter t r.lead c is.lead is.byte)
    ∙ append-nil (drawn r.way (letter (single c.byte) c.look))
    ∙ drawn_by r.way c.byte c.look is.way (looks c is.look) (seen c.byte is.byte) (low c.byte is.byte)

pub passes-after : (t : Characters) (c : Cell) (r : Reader) → passes r c ≡ true
    → record r { before = c.look } ≡ record r { before = c.look; lead = lead_after t r.lead c; way = ways_past r.way (letters_of t r.lead c) }
passes-after t c r e =
    let is = passed r c e in
    let lead : r.lead ≡ lead_after t r.lead c = is.lead ∙ sym (none_waits t r.lead c is.lead is.byte) in
    let way : r.way ≡ ways_past r.way (letters_of t r.lead c) =
    sym (ap (λ (ls : List Letter). ways_past r.way ls) (one_letter t r.lead c is.lead is.byte)
    ∙ way_by r.way c.byte c.look is.way (looks c is.look) (seen c.byte is.byte)) in
    ap (λ (o : Option Cell). record r { before = c.look; lead = o }) lead
    ∙ ap (λ (w : Way). record r { before = c.look; lead = lead_after t r.lead c; way = w }) way

-- ---- the first half of a pair

record Holds (t : Characters) (r : Reader) (c : Cell) : Type 0 where
  high : nat_le 128 c.byte ≡ true
  lead : r.lead ≡ None
  first : is_lead t c.byte ≡ true

held : (t : Characters) (r : Reader) (c : Cell) → holds t r c ≡ true → Holds t r c
held t r c e =
    let h = nat_le 128 c.byte in
    let n = not (is_some r.lead) in
    let both = and_first (h && n) (is_lead t c.byte) e in
    record {
      high = and_first h n both;
      lead = no_lead r.lead (and_second h n both);
      first = and_second (h && n) (is_lead t c.byte) e;
    }

high_test : (b : ℕ) → nat_le 128 b ≡ true → nat_lt b 128 ≡ false
high_test b e = grind (arith, nat_tests)

lead_read : (t : Characters) (b : ℕ) → nat_le 128 b ≡ true → is_lead t b ≡ true → read_byte t None b ≡ waits b
lead_read t b high is =
    ap (λ (x : Bool). if x then ascii None b else read t None b) (high_test b high) ∙ ap (λ (x : Bool). if x then waits b else alone t b) is

no_letter : (t : Characters) (lead : Option Cell) (c : Cell) → lead ≡ None → nat_le 128 c.byte ≡ true → is_lead t c.byte ≡ true → letters_of t lead c ≡ []
no_letter t lead c none high is =
    ap (λ (o : Option Cell). letters_of t o c) none ∙ ap (λ (x : Read). come None c.look x) (lead_read t c.byte high is)

one_waits : (t : Characters) (lead : Option Cell) (c : Cell) → lead ≡ None → nat_le 128 c.byte ≡ true → is_lead t c.byte ≡ true → lead_after t lead c ≡ Some c
one_waits t lead c none high is =
    ap (λ (o : Option Cell). lead_after t o c) none ∙ ap (λ (x : Read). waiting c x.held) (lead_read t c.byte high is)

pub holds-said : (t : Characters) (c : Cell) (r : Reader) → holds t r c ≡ true → cell_said t c r ≡ []
holds-said t c r e =
    let is = held t r c e in
    ap (λ (ls : List Letter). drawn_all r.way ls) (no_letter t r.lead c is.lead is.high is.first)

pub holds-after : (t : Characters) (c : Cell) (r : Reader) → holds t r c ≡ true
    → record r { lead = Some c; before = c.look } ≡ record r { before = c.look; lead = lead_after t r.lead c; way = ways_past r.way (letters_of t r.lead c) }
holds-after t c r e =
    let is = held t r c e in
    let way : r.way ≡ ways_past r.way (letters_of t r.lead c) = sym (ap (λ (ls : List Letter). ways_past r.way ls) (no_letter t r.lead c is.lead is.high is.first)) in
    ap (λ (o : Option Cell). record r { before = c.look; lead = o }) (sym (one_waits t r.lead c is.lead is.high is.first))
    ∙ ap (λ (w : Way). record r { before = c.look; lead = lead_after t r.lead c; way = w }) way
