-- Text whose first line names its coding, and text of ASCII in a set.
use Prim.Native.Char.{code}
use Rattle.std.proofs.Common.{◌≡◌, ℕ, ◌+◌, ◌<◌, ◌≤◌, List, [], ◌∷◌, ◌++◌, length, Bool, true, false, not, ◌==◌, ◌&&◌, nat_le, nat_lt, if◌then◌else◌, Option, None, Some, refl, sym, ◌∙◌, ap, append-nil, append_assoc, length-append, arith}
use Rattle.std.proofs.lemmas.Bool.Decides.{nat_tests}
use Rattle.std.specs.Prelude.{codes, encode_utf8_all}
use Rattle.std.specs.Char.{encode_utf8}
use Rattle.nr_units.specs.Name.{is_full}
use Rattle.preconv_coding.specs.declared.part.Part.TheVariants.{Head, Eight}
use Rattle.preconv_coding.specs.declared.tag.Head.{Head as Heads}
use Rattle.preconv_coding.specs.declared.tag.Tag.TheVariants.{Blanks, Value}
use Rattle.preconv_coding.specs.declared.tag.Tells.{Tells}
use Rattle.preconv_coding.specs.declared.names.Coding.{Coding}
use Rattle.preconv_coding.specs.declared.names.Coding.TheVariants as codings
use Rattle.preconv_coding.specs.declared.sets.Set.{Set}
use Rattle.preconv_coding.specs.Names.{coding_named}
use Rattle.preconv_coding.specs.Sets.{character_of, characters_of}
use Rattle.preconv_coding.specs.Tag.{goes_on, lowered, named, of_name, spelling, line_ended, going, in_value}
use Rattle.preconv_coding.specs.Part.{decided}
use Rattle.std.specs.Option.{option_map}
use Rattle.nr_units.specs.Source.{Supply}
use Rattle.preconv_coding.specs.declared.tag.Tells.TheVariants.{Reads}
use Rattle.preconv_coding.specs.UnderCoding.{coded_supply, supply_from, text_faults, text_from, text_of}
use Rattle.preconv_coding.specs.Laws.{line_of, all_go_on, is_name, all_lowered, is_no_set, all_ascii, SetsAreRead, OthersStay, AsciiStays}
use Rattle.preconv_coding.proofs.Giving.{plain_text, unknown_text}

-- ---- a set

pub eight_text : (set : Set) (bs : List ℕ) → text_from (Eight set) bs ≡ encode_utf8_all (characters_of set bs)
eight_text set [] = refl
eight_text set (b ∷ bs) = ap (λ (xs : List ℕ). encode_utf8 (character_of set b) ++ xs) (eight_text set bs)

-- a coding that is named beside the text
pub coded_is : (coding : Coding) (known : Option Supply) → supply_from (decided (Reads coding)) [] known ≡ coded_supply coding known
coded_is coding None = refl
coded_is codings.Plain (Some q) = ap (λ (bytes : List ℕ). Some (record { bytes = bytes; faults = text_faults q.faults })) (plain_text q.bytes)
coded_is (codings.Eight set) (Some q) = ap (λ (bytes : List ℕ). Some (record { bytes = bytes; faults = text_faults q.faults })) (eight_text set q.bytes)

if_first : {T : Type 0} (x : Bool) (a b : T) → x ≡ true → (if x then a else b) ≡ a
if_first true a b is = refl
if_first false a b is = absurd (let no : false ≡ true = is in cc)

if_second : {T : Type 0} (x : Bool) (a b : T) → x ≡ false → (if x then a else b) ≡ b
if_second false a b is = refl
if_second true a b is = absurd (let no : true ≡ false = is in cc)

and-first : (x y : Bool) → (x && y) ≡ true → x ≡ true
and-first true y h = refl
and-first false y h = h

and-second : (x y : Bool) → (x && y) ≡ true → y ≡ true
and-second true y h = h
and-second false y h = absurd (let no : false ≡ true = h in cc)

one_byte : (b : ℕ) → nat_lt b 128 ≡ true → encode_utf8 b ≡ b ∷ []
unfolding encode_utf8
one_byte b is = if_first (nat_lt b 128) _ _ is

pub ascii_stays : AsciiStays
ascii_stays set [] is = refl
ascii_stays set (b ∷ bs) is =
    let small = and-first (nat_lt b 128) (all_ascii bs) is in
    ap (λ (c : ℕ). encode_utf8 c ++ encode_utf8_all (characters_of set bs)) (if_first (nat_lt b 128) b _ small)
    ∙ ap (λ (xs : List ℕ). xs ++ encode_utf8_all (characters_of set bs)) (one_byte b small)
    ∙ ap (λ (xs : List ℕ). b ∷ xs) (ascii_stays set bs (and-second (nat_lt b 128) (all_ascii bs) is))

-- ---- a name is read

abbrev value : List ℕ → Heads
value name = record { second = false; tag = Value; name = name }

abbrev blanks : Heads
blanks = record { second = false; tag = Blanks; name = [] }

not_full : (pre : List ℕ) → length pre < 32 → is_full pre ≡ false
not_full pre few = grind (arith, nat_tests)

-- a byte of the name
spelled_by : (x full : Bool) (b : ℕ) (h : Heads) → x ≡ true → full ≡ false → (if x && not full then spelling b h else named h) ≡ spelling b h
spelled_by true false b h is few = refl
spelled_by true true b h is few = absurd (let no : true ≡ false = few in cc)
spelled_by false full b h is few = absurd (let no : false ≡ true = is in cc)

spelled : (pre name rest : List ℕ) → all_go_on name ≡ true → length pre + length name ≤ 32
    → text_from (Head (value pre)) (name ++ rest) ≡ name ++ text_from (Head (value (pre ++ all_lowered name))) rest
spelled pre [] rest is few = ap (λ (xs : List ℕ). text_from (Head (value xs)) rest) (sym (append-nil pre))
spelled pre (b ∷ bs) rest is few =
    let next : List ℕ = pre ++ lowered b ∷ [] in
    let long : length next ≡ length pre + 1 = length-append pre (lowered b ∷ []) in
    ap (λ (t : Tells). b ∷ text_from (decided t) (bs ++ rest)) (spelled_by (goes_on b) (is_full pre) b (value pre) (and-first (goes_on b) (all_go_on bs) is) (not_full pre (omega (arith, few))))
    ∙ ap (λ (xs : List ℕ). b ∷ xs) (spelled next bs rest (and-second (goes_on b) (all_go_on bs) is) (omega (arith, few, long)))
    ∙ ap (λ (xs : List ℕ). b ∷ bs ++ text_from (Head (value xs)) rest) (append_assoc pre (lowered b ∷ []) (all_lowered bs))

-- its first byte ends neither the line nor the blanks
no_newline : (b : ℕ) → goes_on b ≡ true → (b == code "\n") ≡ false
no_newline b is = grind (arith, nat_tests)

no_blank : (b : ℕ) → goes_on b ≡ true → (b == code " ") ≡ false
no_blank b is = grind (arith, nat_tests)

first_spelled : (b : ℕ) (bs : List ℕ) → goes_on b ≡ true → text_from (Head blanks) (b ∷ bs) ≡ b ∷ text_from (Head (value (lowered b ∷ []))) bs
first_spelled b bs is =
    ap (λ (x : Bool). b ∷ text_from (decided (if x then line_ended blanks else if b == code " " then going Blanks blanks else in_value b blanks)) bs) (no_newline b is)
    ∙ ap (λ (x : Bool). b ∷ text_from (decided (if x then going Blanks blanks else in_value b blanks)) bs) (no_blank b is)
    ∙ ap (λ (t : Tells). b ∷ text_from (decided t) bs) (spelled_by (goes_on b) false b blanks is refl)

few_of : (xs : List ℕ) → nat_le (length xs) 32 ≡ true → length xs ≤ 32
few_of xs is = grind (arith, nat_tests)

name_read : (name rest : List ℕ) → is_name name ≡ true → text_from (Head blanks) (name ++ rest) ≡ name ++ text_from (Head (value (all_lowered name))) rest
name_read [] rest is = absurd (let no : false ≡ true = is in cc)
name_read (b ∷ bs) rest is =
    let all = all_go_on (b ∷ bs) in
    let some = nat_le 1 (length (b ∷ bs)) in
    let within = nat_le (length (b ∷ bs)) 32 in
    let go = and-first all some (and-first (all && some) within is) in
    let few : length (b ∷ bs) ≤ 32 = few_of (b ∷ bs) (and-second (all && some) within is) in
    first_spelled b (bs ++ rest) (and-first (goes_on b) (all_go_on bs) go)
    ∙ ap (λ (xs : List ℕ). b ∷ xs) (spelled (lowered b ∷ []) bs rest (and-second (goes_on b) (all_go_on bs) go) (omega (arith, few)))

-- ---- the line is read

abbrev prefix : List ℕ
prefix = codes ".\\\" -*- coding: "

abbrev tail : List ℕ
tail = codes " -*-\n"

is_not_empty : (full : List ℕ) → 0 < length full → (length full == 0) ≡ false
is_not_empty full some = grind (arith, nat_tests)

named_is : (full : List ℕ) → 0 < length full → named (value full) ≡ of_name (coding_named full) (value full)
named_is full some = if_second (length full == 0) _ _ (is_not_empty full some)

after_name : (full bs : List ℕ) → 0 < length full
    → text_from (Head (value full)) (code " " ∷ bs) ≡ code " " ∷ text_from (decided (of_name (coding_named full) (value full))) bs
after_name full bs some = ap (λ (t : Tells). code " " ∷ text_from (decided t) bs) (named_is full some)

some_lowered : (name : List ℕ) → is_name name ≡ true → 0 < length (all_lowered name)
some_lowered [] is = absurd (let no : false ≡ true = is in cc)
some_lowered (b ∷ bs) is = omega arith

line_read : (name bs : List ℕ) → is_name name ≡ true
    → text_of (line_of name ++ bs) ≡ prefix ++ name ++ code " " ∷ text_from (decided (of_name (coding_named (all_lowered name)) (value (all_lowered name)))) (codes "-*-\n" ++ bs)
line_read name bs is =
    ap (λ (xs : List ℕ). prefix ++ text_from (Head blanks) xs) (append_assoc name tail bs)
    ∙ ap (λ (xs : List ℕ). prefix ++ xs) (name_read name (tail ++ bs) is)
    ∙ ap (λ (xs : List ℕ). prefix ++ name ++ xs) (after_name (all_lowered name) (codes "-*-\n" ++ bs) (some_lowered name is))

whole_line : (name bs : List ℕ) → prefix ++ (name ++ (tail ++ bs)) ≡ line_of name ++ bs
whole_line name bs = ap (λ (xs : List ℕ). prefix ++ xs) (sym (append_assoc name tail bs))

rest_in_set : (set : Set) (bs : List ℕ) → code " " ∷ text_from (Eight set) (codes "-*-\n" ++ bs) ≡ tail ++ encode_utf8_all (characters_of set bs)
unfolding encode_utf8
rest_in_set set bs = ap (λ (xs : List ℕ). code " " ∷ xs) (eight_text set (codes "-*-\n" ++ bs))

pub sets_are_read : SetsAreRead
sets_are_read name set bs is known =
    line_read name bs is
    ∙ ap (λ (r : Option Coding). prefix ++ name ++ code " " ∷ text_from (decided (of_name r (value (all_lowered name)))) (codes "-*-\n" ++ bs)) known
    ∙ ap (λ (xs : List ℕ). prefix ++ name ++ xs) (rest_in_set set bs)
    ∙ whole_line name (encode_utf8_all (characters_of set bs))

others_by : (r : Option Coding) (h : Heads) (bs : List ℕ) → is_no_set r ≡ true → text_from (decided (of_name r h)) bs ≡ bs
others_by None h bs is = unknown_text h bs
others_by (Some codings.Plain) h bs is = plain_text bs
others_by (Some (codings.Eight set)) h bs is = absurd (let no : false ≡ true = is in cc)

pub others_stay : OthersStay
others_stay name bs is none =
    line_read name bs is
    ∙ ap (λ (xs : List ℕ). prefix ++ name ++ code " " ∷ xs) (others_by (coding_named (all_lowered name)) (value (all_lowered name)) (codes "-*-\n" ++ bs) none)
    ∙ whole_line name bs
