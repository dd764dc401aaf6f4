-- A text is as wide as `\w` has it.
use Rattle.std.proofs.Common.{◌≡◌, ◌==◌, ℕ, suc, ◌+◌, ◌-◌, ◌*◌, ◌<◌, ◌≤◌, Bool, true, false, not, ◌&&◌, ◌||◌, nat_lt, List, [], ◌∷◌, length, take, refl, sym, ap, subst, arith, ◌∙◌, codes, Option, Some, None, if◌then◌else◌}
use Rattle.std.proofs.lemmas.Bool.Decides.{nat_tests}
use Rattle.std.proofs.lemmas.Grind.{common_steps}
use Prim.Native.Char.{code}
use Rattle.nr_settings.specs.Characters.{prints as is_printed}
use Rattle.nr_settings.specs.Escapes.{bracketed, escape_of, is_one_of, len_before}
use Rattle.nr_settings.specs.Specials.{special_of}
use Rattle.nr_settings.specs.Widths.{after_backslash, byte_width, element_of, escaped, of_width, special_width, widths}
use Rattle.nr_settings.specs.declared.specials.Special.{Special}
use Rattle.nr_settings.specs.declared.specials.Special.TheVariants as specials
use Rattle.tbl_blocks.specs.declared.blocks.Measured.{Measured}
use Rattle.tbl_blocks.specs.declared.parts.Known.{Known}
use Rattle.tbl_blocks.specs.declared.units.Does.TheVariants as does
use Rattle.tbl_blocks.specs.declared.units.Unit.{Unit}
use Rattle.tbl_blocks.specs.Extents.{extended, measured, measured_from, nothing_measured}
use Rattle.tbl_blocks.specs.Laws.{HasNoStrings, WidthIsThatOfW}
use Rattle.tbl_blocks.specs.Parts.{sum}
use Rattle.tbl_blocks.specs.Units.{byte_does, escape, escape_by, is_letter, is_sure, prints, special, unit_in, unit_of}

never : false ≡ true → ⊥
never h = cc

-- ---- an escape

-- of as many bytes, and as wide in cells of 24 units, two at most
record Agrees (u : Unit) (more width : ℕ) : Type 0 where
  bytes : u.more ≡ more
  cells : 24 * u.cells ≡ width
  few : u.cells ≤ 2

abbrev EscapeAgrees : ℕ → ℕ → List ℕ → List Known → Type 0
EscapeAgrees v b text strings =
    (b == code "*") ≡ false → is_sure (unit_in (escape_by b) b text strings).does ≡ true
    → Agrees (unit_in (escape_by b) b text strings) (escaped true v b text (escape_of true b)).more (escaped true v b text (escape_of true b)).width

abbrev AllHave : List ℕ → (ℕ → Type 0) → Type 0
AllHave [] P = Prim.Unit {0}
AllHave (x ∷ xs) P = P x × AllHave xs P

-- what all of some bytes have, one of them has
one_has : (xs : List ℕ) (P : ℕ → Type 0) (b : ℕ) → AllHave xs P → is_one_of xs b ≡ true → P b
one_has [] P b all h = let none : ⊥ = never h in absurd none
one_has (x ∷ xs) P b all h = choose (one_has xs P b all.1) (b == x) refl h
  where
    choose : (is_one_of xs b ≡ true → P b) → (t : Bool) → (b == x) ≡ t → (t || is_one_of xs b) ≡ true → P b
    choose later true e k = let is : x ≡ b = grind (arith, nat_tests, e) in subst P is all.0
    choose later false e k = later k

eq_has : (x : ℕ) (P : ℕ → Type 0) (b : ℕ) → P x → (b == x) ≡ true → P b
eq_has x P b has e = let is : x ≡ b = grind (arith, nat_tests, e) in subst P is has

special_agrees : (more : ℕ) (o : Option Special) → Agrees (special more o) more (special_width o)
special_agrees more None = record { bytes = refl; cells = refl; few = omega arith }
special_agrees more (Some specials.Hyphen) = record { bytes = refl; cells = refl; few = omega arith }
special_agrees more (Some specials.Dash) = record { bytes = refl; cells = refl; few = omega arith }
special_agrees more (Some specials.Bullet) = record { bytes = refl; cells = refl; few = omega arith }
special_agrees more (Some specials.Apostrophe) = record { bytes = refl; cells = refl; few = omega arith }
special_agrees more (Some specials.Quote) = record { bytes = refl; cells = refl; few = omega arith }
special_agrees more (Some specials.Backslash) = record { bytes = refl; cells = refl; few = omega arith }
special_agrees more (Some specials.Point) = record { bytes = refl; cells = refl; few = omega arith }
special_agrees more (Some specials.Joint) = record { bytes = refl; cells = refl; few = omega arith }

printed_cells : (b : ℕ) → (24 * (if is_printed b then 1 else 0) ≡ byte_width b) × ((if is_printed b then 1 else 0) ≤ 2)
printed_cells b = choose (is_printed b)
  where
    choose : (t : Bool) → (24 * (if t then 1 else 0) ≡ (if t then 24 else 0)) × ((if t then 1 else 0) ≤ 2)
    choose true = (refl, omega arith)
    choose false = (refl, omega arith)

-- each of the bytes, by its test
one_cells : (v : ℕ) (text : List ℕ) (strings : List Known) → AllHave (code "\\" ∷ code "'" ∷ code " " ∷ codes "e0-.`") (λ (n : ℕ). EscapeAgrees v n text strings)
one_cells v text strings = (λ star sure. record { bytes = refl; cells = refl; few = omega arith }, (λ star sure. record { bytes = refl; cells = refl; few = omega arith }, (λ star sure. record { bytes = refl; cells = refl; few = omega arith }, (λ star sure. record { bytes = refl; cells = refl; few = omega arith }, (λ star sure. record { bytes = refl; cells = refl; few = omega arith }, (λ star sure. record { bytes = refl; cells = refl; few = omega arith }, (λ star sure. record { bytes = refl; cells = refl; few = omega arith }, (λ star sure. record { bytes = refl; cells = refl; few = omega arith }, tt))))))))

no_cells : (v : ℕ) (text : List ℕ) (strings : List Known) → AllHave (code "\n" ∷ codes "&|^!%cdurzpat{}") (λ (n : ℕ). EscapeAgrees v n text strings)
no_cells v text strings = (λ star sure. record { bytes = refl; cells = refl; few = omega arith }, (λ star sure. record { bytes = refl; cells = refl; few = omega arith }, (λ star sure. record { bytes = refl; cells = refl; few = omega arith }, (λ star sure. record { bytes = refl; cells = refl; few = omega arith }, (λ star sure. record { bytes = refl; cells = refl; few = omega arith }, (λ star sure. record { bytes = refl; cells = refl; few = omega arith }, (λ star sure. record { bytes = refl; cells = refl; few = omega arith }, (λ star sure. record { bytes = refl; cells = refl; few = omega arith }, (λ star sure. record { bytes = refl; cells = refl; few = omega arith }, (λ star sure. record { bytes = refl; cells = refl; few = omega arith }, (λ star sure. record { bytes = refl; cells = refl; few = omega arith }, (λ star sure. record { bytes = refl; cells = refl; few = omega arith }, (λ star sure. record { bytes = refl; cells = refl; few = omega arith }, (λ star sure. record { bytes = refl; cells = refl; few = omega arith }, (λ star sure. record { bytes = refl; cells = refl; few = omega arith }, (λ star sure. record { bytes = refl; cells = refl; few = omega arith }, tt))))))))))))))))

names : (v : ℕ) (text : List ℕ) (strings : List Known) → AllHave (codes "*fk") (λ (n : ℕ). EscapeAgrees v n text strings)
names v text strings = (λ star sure. absurd (never (sym star)), (λ star sure. record { bytes = refl; cells = refl; few = omega arith }, (λ star sure. record { bytes = refl; cells = refl; few = omega arith }, tt)))

motions : (v : ℕ) (text : List ℕ) (strings : List Known) → AllHave (codes "hl") (λ (n : ℕ). EscapeAgrees v n text strings)
motions v text strings = (λ star sure. absurd (never sure), (λ star sure. absurd (never sure), tt))

delimited_ones : (v : ℕ) (text : List ℕ) (strings : List Known) → AllHave (codes "vxboLDw") (λ (n : ℕ). EscapeAgrees v n text strings)
delimited_ones v text strings = (λ star sure. absurd (never sure), (λ star sure. absurd (never sure), (λ star sure. absurd (never sure), (λ star sure. absurd (never sure), (λ star sure. absurd (never sure), (λ star sure. absurd (never sure), (λ star sure. absurd (never sure), tt)))))))

escape_agrees : (v b : ℕ) (text : List ℕ) (strings : List Known) (t1 t2 t3 t4 t5 t6 t7 t8 t9 t10 t11 : Bool)
    → is_one_of (code "\\" ∷ code "'" ∷ code " " ∷ codes "e0-.`") b ≡ t1 → is_one_of (code "\n" ∷ codes "&|^!%cdurzpat{}") b ≡ t2
    → (b == code "\"") ≡ t3 → (b == code "$") ≡ t4 → is_one_of (codes "*fk") b ≡ t5 → (b == code "n") ≡ t6 → (b == code "(") ≡ t7 → (b == code "[") ≡ t8
    → is_one_of (codes "hl") b ≡ t9 → is_one_of (codes "vxboLDw") b ≡ t10 → (b == code "s") ≡ t11 → EscapeAgrees v b text strings
escape_agrees v b text strings true t2 t3 t4 t5 t6 t7 t8 t9 t10 t11 h1 h2 h3 h4 h5 h6 h7 h8 h9 h10 h11 =
    one_has (code "\\" ∷ code "'" ∷ code " " ∷ codes "e0-.`") (λ (n : ℕ). EscapeAgrees v n text strings) b (one_cells v text strings) h1
escape_agrees v b text strings false true t3 t4 t5 t6 t7 t8 t9 t10 t11 h1 h2 h3 h4 h5 h6 h7 h8 h9 h10 h11 =
    one_has (code "\n" ∷ codes "&|^!%cdurzpat{}") (λ (n : ℕ). EscapeAgrees v n text strings) b (no_cells v text strings) h2
escape_agrees v b text strings false false true t4 t5 t6 t7 t8 t9 t10 t11 h1 h2 h3 h4 h5 h6 h7 h8 h9 h10 h11 =
    eq_has (code "\"") (λ (n : ℕ). EscapeAgrees v n text strings) b (λ star sure. record { bytes = refl; cells = refl; few = omega arith }) h3
escape_agrees v b text strings false false false true t5 t6 t7 t8 t9 t10 t11 h1 h2 h3 h4 h5 h6 h7 h8 h9 h10 h11 =
    eq_has (code "$") (λ (n : ℕ). EscapeAgrees v n text strings) b (λ star sure. absurd (never sure)) h4
escape_agrees v b text strings false false false false true t6 t7 t8 t9 t10 t11 h1 h2 h3 h4 h5 h6 h7 h8 h9 h10 h11 =
    one_has (codes "*fk") (λ (n : ℕ). EscapeAgrees v n text strings) b (names v text strings) h5
escape_agrees v b text strings false false false false false true t7 t8 t9 t10 t11 h1 h2 h3 h4 h5 h6 h7 h8 h9 h10 h11 =
    eq_has (code "n") (λ (n : ℕ). EscapeAgrees v n text strings) b (λ star sure. absurd (never sure)) h6
escape_agrees v b text strings false false false false false false true t8 t9 t10 t11 h1 h2 h3 h4 h5 h6 h7 h8 h9 h10 h11 =
    eq_has (code "(") (λ (n : ℕ). EscapeAgrees v n text strings) b (λ star sure. special_agrees 3 (special_of (take 2 text))) h7
escape_agrees v b text strings false false false false false false false true t9 t10 t11 h1 h2 h3 h4 h5 h6 h7 h8 h9 h10 h11 =
    eq_has (code "[") (λ (n : ℕ). EscapeAgrees v n text strings) b
    (λ star sure. special_agrees (2 + len_before (code "]") text) (special_of (bracketed text))) h8
escape_agrees v b text strings false false false false false false false false true t10 t11 h1 h2 h3 h4 h5 h6 h7 h8 h9 h10 h11 =
    one_has (codes "hl") (λ (n : ℕ). EscapeAgrees v n text strings) b (motions v text strings) h9
escape_agrees v b text strings false false false false false false false false false true t11 h1 h2 h3 h4 h5 h6 h7 h8 h9 h10 h11 =
    one_has (codes "vxboLDw") (λ (n : ℕ). EscapeAgrees v n text strings) b (delimited_ones v text strings) h10
escape_agrees v b text strings false false false false false false false false false false true h1 h2 h3 h4 h5 h6 h7 h8 h9 h10 h11 =
    eq_has (code "s") (λ (n : ℕ). EscapeAgrees v n text strings) b (λ star sure. record { bytes = refl; cells = refl; few = omega arith }) h11
escape_agrees v b text strings false false false false false false false false false false false h1 h2 h3 h4 h5 h6 h7 h8 h9 h10 h11 = λ star sure.
    let mine : unit_in (escape_by b) b text strings ≡ prints 1 (if is_printed b then 1 else 0) = simp (h1, h2, h3, h4, h5, h6, h7, h8, h9, h10, h11) refl in
    let more : (escaped true v b text (escape_of true b)).more ≡ 1 = simp (h1, h2, h3, h4, h5, h6, h7, h8, h9, h10, h11) refl in
    let width : (escaped true v b text (escape_of true b)).width ≡ byte_width b = simp (h1, h2, h3, h4, h5, h6, h7, h8, h9, h10, h11) refl in
    record {
      bytes = ap (λ (u : Unit). u.more) mine ∙ sym more;
      cells = ap (λ (u : Unit). 24 * u.cells) mine ∙ ((printed_cells b).0 ∙ sym width);
      few = omega (arith, ap (λ (u : Unit). u.cells) mine, (printed_cells b).1);
    }

-- ---- a unit

byte_sure : (b : ℕ) (t1 t2 t3 t4 t5 : Bool) → is_letter b ≡ t1 → (b == code "-") ≡ t2 → ((b == code ".") || (b == code "?") || (b == code "!")) ≡ t3
    → ((b == code " ") || (b == code "\t")) ≡ t4 → is_printed b ≡ t5 → (b == code "\t") ≡ false
    → is_sure (if t1 then does.Letter else if t2 then does.Hyphen else if t3 then does.Stop else if t4 then does.Blank else if t5 then does.Print else does.Unsure) ≡ true
    → is_printed b ≡ true
byte_sure b t1 t2 t3 t4 true e1 e2 e3 e4 e5 tab sure = e5
byte_sure b true t2 t3 t4 false e1 e2 e3 e4 e5 tab sure = grind (arith, nat_tests, common_steps, e1)
byte_sure b false true t3 t4 false e1 e2 e3 e4 e5 tab sure = grind (arith, nat_tests, common_steps, e2)
byte_sure b false false true t4 false e1 e2 e3 e4 e5 tab sure = grind (arith, nat_tests, common_steps, e3)
byte_sure b false false false true false e1 e2 e3 e4 e5 tab sure = grind (arith, nat_tests, common_steps, e4, tab)
byte_sure b false false false false false e1 e2 e3 e4 e5 tab sure = absurd (never sure)

unit_agrees : (v b : ℕ) (text : List ℕ) (strings : List Known) → HasNoStrings text → is_sure (unit_of b text strings).does ≡ true → (b == code "\t") ≡ false
    → Agrees (unit_of b text strings) (element_of true v b text).more (element_of true v b text).width
unit_agrees v b text strings no_strings sure tab = choose (b == code "\\") sure
  where
    after : (text : List ℕ) → HasNoStrings text → is_sure (escape text strings).does ≡ true
        → Agrees (escape text strings) (after_backslash true v text).more (after_backslash true v text).width
    after [] none is = record { bytes = refl; cells = refl; few = omega arith }
    after (c ∷ cs) none is = escape_agrees v c cs strings _ _ _ _ _ _ _ _ _ _ _ refl refl refl refl refl refl refl refl refl refl refl none.0 is

    byte : is_sure (byte_does b) ≡ true → Agrees (record { more = 0; cells = 1; does = byte_does b }) 0 (byte_width b)
    byte is =
        let prints_it : is_printed b ≡ true =
        byte_sure b (is_letter b) (b == code "-") ((b == code ".") || (b == code "?") || (b == code "!")) ((b == code " ") || (b == code "\t")) (is_printed b)
        refl refl refl refl refl tab is in
        record { bytes = refl; cells = sym (ap (λ (t : Bool). if t then 24 else 0) prints_it); few = omega arith }

    choose : (t : Bool) → is_sure (if t then escape text strings else record { more = 0; cells = 1; does = byte_does b }).does ≡ true
        → Agrees (if t then escape text strings else record { more = 0; cells = 1; does = byte_does b })
        (if t then after_backslash true v text else of_width 0 (byte_width b)).more (if t then after_backslash true v text else of_width 0 (byte_width b)).width
    choose true is = after text no_strings is
    choose false is = byte is

-- ---- a text

both_left : (a b : Bool) → (a && b) ≡ true → a ≡ true
both_left true b h = refl
both_left false b h = h

both_right : (a b : Bool) → (a && b) ≡ true → b ≡ true
both_right true b h = h
both_right false b h = cc

not_it : (a : Bool) → not a ≡ true → a ≡ false
not_it true h = cc
not_it false h = refl

sure_before : (text : List ℕ) (strings : List Known) (m : Measured) → (measured_from text strings m).extent.sure ≡ true → m.extent.sure ≡ true
sure_before [] strings m h = h
sure_before (b ∷ bs) strings m h = choose (nat_lt 0 m.more) (sure_before bs strings (measured b bs strings m) h)
  where
    choose : (t : Bool) → (if t then record m { more = m.more - 1 } else extended (unit_of b bs strings) b m).extent.sure ≡ true → m.extent.sure ≡ true
    choose true k = k
    choose false k = both_left m.extent.sure (is_sure (unit_of b bs strings).does && not (b == code "\t")) k

walk : (v : ℕ) (text : List ℕ) (strings : List Known) (m : Measured) → HasNoStrings text → m.extent.cells + 2 * length text < 18446744073709551616
    → (measured_from text strings m).extent.sure ≡ true
    → 24 * (measured_from text strings m).extent.cells ≡ 24 * m.extent.cells + widths true v m.more text
walk v [] strings m none few sure = omega arith
walk v (b ∷ bs) strings m none few sure =
    choose (λ (k : Measured) (small : k.extent.cells + 2 * length bs < 18446744073709551616) (is : (measured_from bs strings k).extent.sure ≡ true).
    walk v bs strings k none.1 small is) (nat_lt 0 m.more) refl sure
  where
    choose : ((k : Measured) → k.extent.cells + 2 * length bs < 18446744073709551616 → (measured_from bs strings k).extent.sure ≡ true
        → 24 * (measured_from bs strings k).extent.cells ≡ 24 * k.extent.cells + widths true v k.more bs)
        → (t : Bool) → nat_lt 0 m.more ≡ t
        → (measured_from bs strings (if t then record m { more = m.more - 1 } else extended (unit_of b bs strings) b m)).extent.sure ≡ true
        → 24 * (measured_from bs strings (if t then record m { more = m.more - 1 } else extended (unit_of b bs strings) b m)).extent.cells
        ≡ 24 * m.extent.cells + widths true v m.more (b ∷ bs)
    choose later true e is =
        let some : 0 < m.more = grind (arith, nat_tests, e) in
        let one : m.more ≡ suc (m.more - 1) = omega (arith, some) in
        let same : widths true v m.more (b ∷ bs) ≡ widths true v (m.more - 1) bs = ap (λ (q : ℕ). widths true v q (b ∷ bs)) one in
        later (record m { more = m.more - 1 }) (omega (arith, few)) is ∙ ap (λ (q : ℕ). 24 * m.extent.cells + q) (sym same)
    choose later false e is =
        let begins : m.more ≡ 0 = grind (arith, nat_tests, e) in
        let u : Unit = unit_of b bs strings in
        let now : (m.extent.sure && (is_sure (unit_of b bs strings).does && not (b == code "\t"))) ≡ true =
        sure_before bs strings (extended (unit_of b bs strings) b m) is in
        let two : (is_sure (unit_of b bs strings).does && not (b == code "\t")) ≡ true = both_right m.extent.sure _ now in
        let tab : (b == code "\t") ≡ false = not_it (b == code "\t") (both_right (is_sure (unit_of b bs strings).does) _ two) in
        let agrees : Agrees (unit_of b bs strings) (element_of true v b bs).more (element_of true v b bs).width =
        unit_agrees v b bs strings none.1 (both_left (is_sure (unit_of b bs strings).does) _ two) tab in
        let next : 24 * (measured_from bs strings (extended (unit_of b bs strings) b m)).extent.cells
        ≡ 24 * sum m.extent.cells (unit_of b bs strings).cells + widths true v (unit_of b bs strings).more bs =
        later (extended (unit_of b bs strings) b m) (omega (arith, few, agrees.few)) is in
        let rest : widths true v (unit_of b bs strings).more bs ≡ widths true v (element_of true v b bs).more bs = ap (λ (q : ℕ). widths true v q bs) agrees.bytes in
        let here : widths true v m.more (b ∷ bs) ≡ (element_of true v b bs).width + widths true v (element_of true v b bs).more bs =
        ap (λ (q : ℕ). widths true v q (b ∷ bs)) begins in
        omega (arith, next, rest, here, agrees.cells, agrees.few, few)

pub width_is_that_of_w : WidthIsThatOfW
width_is_that_of_w v text strings none few sure =
    sym (walk v text strings nothing_measured none (omega (arith, few)) sure ∙ nothing)
  where
    nothing : 24 * 0 + widths true v 0 text ≡ widths true v 0 text
    nothing = omega arith
