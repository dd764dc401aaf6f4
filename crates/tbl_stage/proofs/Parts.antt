-- Bytes that come some after others.
use Rattle.std.proofs.Common.{◌≡◌, ℕ, suc, ◌+◌, ◌<◌, ◌≤◌, List, [], ◌∷◌, ◌++◌, length, Bool, true, false, not, ◌&&◌, nat_le, nat_lt, Option, None, Some, if◌then◌else◌, refl, sym, ap, subst, ◌∙◌, append_assoc, append-nil, length-append, arith, inl, inr}
use Rattle.std.proofs.lemmas.Bool.Decides.{nat_tests}
use Rattle.document_stages.specs.Pulling.{SaysNothing}
use Rattle.tbl_drawing.specs.Pens.{first}
use Rattle.tbl_reader.specs.declared.telling.Tell.TheVariants as tells
use Rattle.tbl_reader.specs.Pages.{Page, Effect, effect}
use Rattle.tbl_reader.specs.Reading.{read, fed}
use Rattle.tbl_reader.specs.Telling.{each}
use Rattle.tbl_setting.specs.declared.setting.Setting.{Setting}
use Rattle.tbl_setting.specs.Held.{page_heard}
use Rattle.tbl_setting.specs.Setting.{set}
use Rattle.tbl_setting.specs.Stepping.{pieces_bytes}
use Rattle.tbl_setting.proofs.Pieces.{pass-bytes, pass-set, set-append}
use Rattle.tbl_stage.specs.Filling.{Fills}
use Rattle.tbl_stage.specs.Staged.{Held, Stepped, Turned, IsAfter, after, after_byte, bytes_for, has_all, has_room, said}
use Rattle.tbl_stage.proofs.Pens.{pieces_then}

-- ---- once it is full

room_full : (most : ℕ) (next : Option ℕ) (h : Held) → h.is_full ≡ true → has_room most next h ≡ false
room_full most next h full = ap (λ (b : Bool). not b && (nat_le (length (bytes_for next h)) most && nat_lt h.taken 1099511627776)) full

pub says_none : (most : ℕ) (h : Held) → h.is_full ≡ true → (ends : Bool) (rest : List ℕ) → said most h ends rest ≡ []
says_none most h full false [] = refl
says_none most h full true [] = ap (λ (b : Bool). if b then bytes_for None h else []) (room_full most None h full)
says_none most h full ends (b ∷ bs) = ap (λ (x : Bool). if x then bytes_for (Some b) h ++ said most (after_byte b h) ends bs else []) (room_full most (Some b) h full)

pub has_none : (most : ℕ) (h : Held) → h.is_full ≡ true → (rest : List ℕ) → has_all most h rest ≡ false
has_none most h full [] = room_full most None h full
has_none most h full (b ∷ bs) = ap (λ (x : Bool). x && has_all most (after_byte b h) bs) (room_full most (Some b) h full)

pub says_nothing : (most : ℕ) (h : Held) → h.is_full ≡ true → SaysNothing (said most h) (has_all most h)
says_nothing most h full = record { says_none = says_none most h full; fits_none = has_none most h full }

-- what came to nothing comes to nothing then
pub turned_full : (most : ℕ) (h : Held) (bytes : List ℕ) → h.is_full ≡ true → Turned most h h bytes []
turned_full most h bytes full = record {
  says = λ ends rest. says_none most h full ends (bytes ++ rest) ∙ sym (says_none most h full ends rest);
  fits = λ rest. has_none most h full (bytes ++ rest) ∙ sym (has_none most h full rest);
}

-- ---- the next byte

byte_in : (most b : ℕ) (h h' : Held) (items : List ℕ) (fits : Bool) → fits ≡ has_room most (Some b) h → items ≡ (if fits then bytes_for (Some b) h else [])
    → (fits ≡ true → IsAfter (Some b) h h') → (fits ≡ false → h'.is_full ≡ true) → Turned most h h' (b ∷ []) items
byte_in most b h h' items true has went goes_on full = record {
  says = λ ends rest.
      ap (λ (x : Bool). if x then bytes_for (Some b) h ++ said most (after_byte b h) ends rest else []) (sym has)
      ∙ ap (λ (l : List ℕ). l ++ said most (after_byte b h) ends rest) (sym went)
      ∙ ap (λ (k : Held). items ++ said most k ends rest) (sym (goes_on refl));
  fits = λ rest. ap (λ (x : Bool). x && has_all most (after_byte b h) rest) (sym has) ∙ ap (λ (k : Held). has_all most k rest) (sym (goes_on refl));
}
byte_in most b h h' items false has went goes_on full = record {
  says = λ ends rest.
      ap (λ (x : Bool). if x then bytes_for (Some b) h ++ said most (after_byte b h) ends rest else []) (sym has)
      ∙ sym (ap (λ (l : List ℕ). l ++ said most h' ends rest) went ∙ says_none most h' (full refl) ends rest);
  fits = λ rest. ap (λ (x : Bool). x && has_all most (after_byte b h) rest) (sym has) ∙ sym (has_none most h' (full refl) rest);
}

pub byte_turned : (most b : ℕ) (h h' : Held) (items : List ℕ) (fits : Bool) → Stepped most (Some b) h h' items fits → Turned most h h' (b ∷ []) items
byte_turned most b h h' items fits s = byte_in most b h h' items fits s.has s.went s.goes_on s.full

-- the end
pub end_says : (most : ℕ) (h h' : Held) (items : List ℕ) (fits : Bool) → Stepped most None h h' items fits → said most h true [] ≡ items
end_says most h h' items fits s = ap (λ (x : Bool). if x then bytes_for None h else []) (sym s.has) ∙ sym s.went

-- ---- many bytes

short : (xs ys : List ℕ) (most : ℕ) → length (xs ++ ys) ≤ most → nat_le (length xs) most ≡ true
short xs ys most few = let sum = length-append xs ys in grind (arith, nat_tests)

rest_short : (xs ys : List ℕ) (most : ℕ) → length (xs ++ ys) ≤ most → length ys ≤ most
rest_short xs ys most few = let sum = length-append xs ys in omega (arith, few, sum)

few_taken : (taken n : ℕ) → taken + suc n ≤ 1099511627776 → nat_lt taken 1099511627776 ≡ true
few_taken taken n few = grind (arith, nat_tests)

pub has_room_for : (most : ℕ) (next : Option ℕ) (h : Held) → h.is_full ≡ false → nat_le (length (bytes_for next h)) most ≡ true → nat_lt h.taken 1099511627776 ≡ true → has_room most next h ≡ true
has_room_for most next h live short few = rw (live, short, few) refl

-- one after the other
then_turned : (most b : ℕ) (bs : List ℕ) (h k : Held) (items : List ℕ) → has_room most (Some b) h ≡ true → Turned most (after_byte b h) k bs items
    → Turned most h k (b ∷ bs) (bytes_for (Some b) h ++ items)
then_turned most b bs h k items room t = record {
  says = λ ends rest.
      ap (λ (x : Bool). if x then bytes_for (Some b) h ++ said most (after_byte b h) ends (bs ++ rest) else []) room
      ∙ ap (λ (l : List ℕ). bytes_for (Some b) h ++ l) (t.says ends rest)
      ∙ sym (append_assoc (bytes_for (Some b) h) items (said most k ends rest));
  fits = λ rest. ap (λ (x : Bool). x && has_all most (after_byte b h) (bs ++ rest)) room ∙ t.fits rest;
}

-- bytes that come to no more together than may go out at once
pub fed_turned : (most : ℕ) (xs : List ℕ) (h : Held) → h.is_full ≡ false → length (pieces_bytes (fed xs h.page).pieces h.setting) ≤ most
    → h.taken + length xs ≤ 1099511627776 → Turned most h (after (fed xs h.page) (length xs) h) xs (pieces_bytes (fed xs h.page).pieces h.setting)
fed_turned most [] h live room few =
    let same : h.taken + 0 ≡ h.taken = omega arith in
    subst (λ (n : ℕ). Turned most h (record h { taken = n }) [] []) (sym same) (record { says = λ ends rest. refl; fits = λ rest. refl })
fed_turned most (b ∷ bs) h live room few =
    let e = read b h.page in
    let k = after_byte b h in
    let f = fed bs e.page in
    let here = pieces_bytes e.pieces h.setting in
    let there = pieces_bytes f.pieces k.setting in
    let split : pieces_bytes (e.pieces ++ f.pieces) h.setting ≡ here ++ there = pieces_then e.pieces f.pieces h.setting in
    let within : length (here ++ there) ≤ most = subst (λ (l : List ℕ). length l ≤ most) split room in
    let all : Turned most h (after f (length bs) k) (b ∷ bs) (here ++ there) =
    then_turned most b bs h (after f (length bs) k) there
    (has_room_for most (Some b) h live (short here there most within) (few_taken h.taken (length bs) few))
    (fed_turned most bs k live (rest_short here there most within) (omega (arith, few))) in
    let count : (h.taken + 1) + length bs ≡ h.taken + suc (length bs) = omega arith in
    let setting : set f.pieces k.setting ≡ set (e.pieces ++ f.pieces) h.setting = sym (set-append e.pieces f.pieces h.setting) in
    let last : after f (length bs) k ≡ after (fed (b ∷ bs) h.page) (length (b ∷ bs)) h =
    ap (λ (n : ℕ). record h { page = f.page; setting = set f.pieces k.setting; taken = n }) count
    ∙ ap (λ (t : Setting). record h { page = f.page; setting = t; taken = h.taken + suc (length bs) }) setting in
    subst (λ (l : List ℕ). Turned most h (after (fed (b ∷ bs) h.page) (length (b ∷ bs)) h) (b ∷ bs) l) (sym split)
    (subst (λ (z : Held). Turned most h z (b ∷ bs) (here ++ there)) last all)

-- as an effect that is known
fed_so : (most : ℕ) (xs : List ℕ) (h : Held) (e : Effect) → fed xs h.page ≡ e → h.is_full ≡ false → length (pieces_bytes e.pieces h.setting) ≤ most
    → h.taken + length xs ≤ 1099511627776 → Turned most h (after e (length xs) h) xs (pieces_bytes e.pieces h.setting)
fed_so most xs h e is live room few =
    subst (λ (x : Effect). Turned most h (after x (length xs) h) xs (pieces_bytes x.pieces h.setting)) is
    (fed_turned most xs h live (subst (λ (x : Effect). length (pieces_bytes x.pieces h.setting) ≤ most) (sym is) room) few)

pub passed_bytes : (xs : List ℕ) (t : Setting) → pieces_bytes (each tells.Pass xs) t ≡ xs
passed_bytes xs t = pass-bytes xs t first ∙ append-nil xs

-- bytes that pass
pub passing_turned : (most : ℕ) (xs : List ℕ) (h : Held) (p : Page) (n : ℕ) → fed xs h.page ≡ effect p (each tells.Pass xs) → h.is_full ≡ false → length xs ≤ most
    → length xs ≡ n → h.taken + n ≤ 1099511627776
    → Turned most h (record h { page = p; setting = page_heard xs h.setting; taken = h.taken + n }) xs xs
passing_turned most xs h p n is live room count few =
    let out = passed_bytes xs h.setting in
    let t = fed_so most xs h (effect p (each tells.Pass xs)) is live (subst (λ (l : List ℕ). length l ≤ most) (sym out) room) (omega (arith, few, count)) in
    subst (λ (m : ℕ). Turned most h (record h { page = p; setting = page_heard xs h.setting; taken = h.taken + m }) xs xs) count
    (subst (λ (u : Setting). Turned most h (record h { page = p; setting = u; taken = h.taken + length xs }) xs xs) (pass-set xs h.setting)
    (subst (λ (l : List ℕ). Turned most h (after (effect p (each tells.Pass xs)) (length xs) h) xs l) out t))

-- bytes that are kept
pub kept_turned : (most : ℕ) (xs : List ℕ) (h : Held) (p : Page) (n : ℕ) → fed xs h.page ≡ effect p [] → h.is_full ≡ false
    → length xs ≡ n → h.taken + n ≤ 1099511627776 → Turned most h (record h { page = p; taken = h.taken + n }) xs []
kept_turned most xs h p n is live count few =
    subst (λ (m : ℕ). Turned most h (record h { page = p; taken = h.taken + m }) xs []) count
    (fed_so most xs h (effect p []) is live (omega arith) (omega (arith, few, count)))

-- ---- a step

too_long : (all items : List ℕ) (most room : ℕ) → Fills all items room → most < room → most < length items → nat_le (length all) most ≡ false
too_long all items most room (inl is) wide long = let same : length items ≡ length all = ap (λ (l : List ℕ). length l) is in grind (arith, nat_tests)
too_long all items most room (inr (full, over)) wide long = grind (arith, nat_tests)

not_long : (all items : List ℕ) (most room : ℕ) → Fills all items room → most < room → length items ≤ most → items ≡ all
not_long all items most room (inl is) wide few = is
not_long all items most room (inr (full, over)) wide few = absurd (omega (arith, full, over, wide, few))

fits_then : (all items : List ℕ) (most room : ℕ) → Fills all items room → most < room → length items ≤ most → nat_le (length all) most ≡ true
fits_then all items most room fills wide few =
    let same : length items ≡ length all = ap (λ (l : List ℕ). length l) (not_long all items most room fills wide few) in grind (arith, nat_tests)

and_none : (a b : Bool) → (a && (false && b)) ≡ false
and_none true b = refl
and_none false b = refl

none_of_both : (a b : Bool) → (a && (b && false)) ≡ false
none_of_both true true = refl
none_of_both true false = refl
none_of_both false b = refl

no_room : (most : ℕ) (next : Option ℕ) (h : Held) → nat_le (length (bytes_for next h)) most ≡ false → has_room most next h ≡ false
no_room most next h long =
    ap (λ (x : Bool). not h.is_full && (x && nat_lt h.taken 1099511627776)) long ∙ and_none (not h.is_full) (nat_lt h.taken 1099511627776)

too_many : (most taken : ℕ) (next : Option ℕ) (h : Held) → taken ≡ h.taken → taken ≡ 1099511627776 → has_room most next h ≡ false
too_many most taken next h is many =
    let all : nat_lt h.taken 1099511627776 ≡ false = grind (arith, nat_tests) in
    ap (λ (x : Bool). not h.is_full && (nat_le (length (bytes_for next h)) most && x)) all
    ∙ none_of_both (not h.is_full) (nat_le (length (bytes_for next h)) most)

-- too many bytes came
pub stepped_late : (most : ℕ) (next : Option ℕ) (h h' : Held) → h.taken ≡ 1099511627776 → h'.is_full ≡ true → Stepped most next h h' [] false
stepped_late most next h h' many full = record {
  has = sym (too_many most h.taken next h refl many);
  went = refl;
  goes_on = λ e. absurd (let no : false ≡ true = e in cc);
  full = λ e. full;
}

-- what went into the room was all
pub stepped_all : (most : ℕ) (next : Option ℕ) (h h' : Held) (items : List ℕ) (room : ℕ) → h.is_full ≡ false → h.taken < 1099511627776
    → Fills (bytes_for next h) items room → most < room → length items ≤ most → IsAfter next h h' → Stepped most next h h' items true
stepped_all most next h h' items room live few fills wide short goes_on = record {
  has = sym (has_room_for most next h live (fits_then (bytes_for next h) items most room fills wide short) (let k = few in grind (arith, nat_tests)));
  went = not_long (bytes_for next h) items most room fills wide short;
  goes_on = λ e. goes_on;
  full = λ e. absurd (let no : true ≡ false = e in cc);
}

pub stepped_over : (most : ℕ) (next : Option ℕ) (h h' : Held) (items : List ℕ) (room : ℕ)
    → Fills (bytes_for next h) items room → most < room → most < length items → h'.is_full ≡ true → Stepped most next h h' [] false
stepped_over most next h h' items room fills wide long full = record {
  has = sym (no_room most next h (too_long (bytes_for next h) items most room fills wide long));
  went = refl;
  goes_on = λ e. absurd (let no : false ≡ true = e in cc);
  full = λ e. full;
}
