-- What a page comes to that is turned a part at a time, said of what is held.
use Rattle.std.proofs.Common.{◌≡◌, ℕ, ◌+◌, ◌<◌, ◌≤◌, List, [], ◌∷◌, ◌++◌, length, take, get_or, Bool, true, false, not, Option, None, Some, refl, sym, ap, subst, ◌∙◌, arith}
use Rattle.std.proofs.lemmas.List.{length-take, take-take}
use Rattle.std.specs.Option.{is_some}
use Rattle.tbl_reader.specs.declared.telling.Tell.TheVariants as tells
use Rattle.tbl_reader.specs.Pages.{Page, effect}
use Rattle.tbl_reader.specs.Ending.{GoesOn, next_read}
use Rattle.tbl_reader.specs.Quiet.{Stays}
use Rattle.tbl_reader.specs.Reading.{fed}
use Rattle.tbl_reader.specs.Telling.{each}
use Rattle.tbl_setting.specs.declared.setting.Setting.{Setting}
use Rattle.tbl_setting.specs.Held.{page_heard}
use Rattle.tbl_setting.specs.Setting.{set}
use Rattle.tbl_stage.specs.Rooms.{Room}
use Rattle.tbl_stage.specs.Staged.{Held, IsAfter, Stands, Stepped, Turned, has_all, held_in, said}
use Rattle.tbl_stage.proofs.Parts.{byte_turned, kept_turned, passing_turned}

-- ---- parts of some bytes

part : (n m : ℕ) (bytes : List ℕ) → n ≤ m → take n (take m bytes) ≡ take n bytes
part n m bytes few = take-take n m bytes few

count_of : (n m : ℕ) (bytes : List ℕ) → n ≤ length (take m bytes) → length (take n (take m bytes)) ≡ n
count_of n m bytes within = let cut = length-take n (take m bytes) in omega (arith, cut, within)

few_of : (n m : ℕ) (bytes : List ℕ) → n ≤ length (take m bytes) → n ≤ m
few_of n m bytes within = let cut = length-take m bytes in omega (arith, cut, within)

-- ---- the same, said of other names

moved : (most : ℕ) (h k k' : Held) (bytes bytes' items items' : List ℕ) → Turned most h k bytes items → k ≡ k' → bytes ≡ bytes' → items ≡ items'
    → Turned most h k' bytes' items'
moved most h k k' bytes bytes' items items' t held came went =
    subst (λ (l : List ℕ). Turned most h k' bytes' l) went
    (subst (λ (l : List ℕ). Turned most h k' l items) came
    (subst (λ (z : Held). Turned most h z bytes items) held t))

held_so : (p : Page) (s s' : Setting) (n n' : ℕ) (f f' : Bool) → s' ≡ s → n' ≡ n → f' ≡ f → held_in (record { page = p; setting = s }) n f ≡ held_in (record { page = p; setting = s' }) n' f'
held_so p s s' n n' f f' setting count full =
    ap (λ (u : Setting). held_in (record { page = p; setting = u }) n f) (sym setting)
    ∙ ap (λ (m : ℕ). held_in (record { page = p; setting = s' }) m f) (sym count)
    ∙ ap (λ (b : Bool). held_in (record { page = p; setting = s' }) n' b) (sym full)

-- bytes that pass
pub passing_so : (most n len : ℕ) (bytes items : List ℕ) (r r' : Room) (taken taken' : ℕ) (full full' : Bool)
    → fed (take n (take len bytes)) r.page ≡ effect r'.page (each tells.Pass (take n (take len bytes))) → r'.setting ≡ page_heard (take n (take len bytes)) r.setting → full ≡ false → full' ≡ full
    → n ≤ length (take len bytes) → len ≤ most → taken' ≡ taken + n → taken + len ≤ 1099511627776 → items ≡ take n bytes
    → Turned most (held_in r taken full) (held_in r' taken' full') (take n bytes) items
passing_so most n len bytes items r r' taken taken' full full' is setting live full_is within short count few went =
    let xs = take n (take len bytes) in
    let so : length xs ≡ n = count_of n len bytes within in
    let most_n : n ≤ len = few_of n len bytes within in
    let h : Held = held_in r taken full in
    moved most h (record h { page = r'.page; setting = page_heard xs r.setting; taken = taken + n }) (held_in r' taken' full') xs (take n bytes) xs items
    (passing_turned most xs h r'.page n is live (omega (arith, so, most_n, short)) so (omega (arith, most_n, few)))
    (held_so r'.page (page_heard xs r.setting) r'.setting (taken + n) taken' full full' setting count full_is)
    (part n len bytes most_n) (part n len bytes most_n ∙ sym went)

-- bytes that are kept
pub kept_so : (most n len : ℕ) (bytes : List ℕ) (r r' : Room) (taken taken' : ℕ) (full full' : Bool)
    → fed (take n (take len bytes)) r.page ≡ effect r'.page [] → r'.setting ≡ r.setting → full ≡ false → full' ≡ full
    → n ≤ length (take len bytes) → taken' ≡ taken + n → taken + len ≤ 1099511627776
    → Turned most (held_in r taken full) (held_in r' taken' full') (take n bytes) []
kept_so most n len bytes r r' taken taken' full full' is setting live full_is within count few =
    let xs = take n (take len bytes) in
    let so : length xs ≡ n = count_of n len bytes within in
    let most_n : n ≤ len = few_of n len bytes within in
    let h : Held = held_in r taken full in
    moved most h (record h { page = r'.page; taken = taken + n }) (held_in r' taken' full') xs (take n bytes) [] []
    (kept_turned most xs h r'.page n is live so (omega (arith, most_n, few)))
    (held_so r'.page r.setting r'.setting (taken + n) taken' full full' setting count full_is)
    (part n len bytes most_n) refl

-- the page can be read on
pub stands_on : (p q : Page) (taken taken' n len : ℕ) → Stands p taken → Stays p q n → n ≤ len → taken + len ≤ 1099511627776 → taken' ≡ taken + n → Stands q taken'
stands_on p q taken taken' n len s stays within few count = record {
  fits = stays.fits;
  lines = let a = stays.lines in let b = s.lines in omega (arith, a, b, count);
  few = omega (arith, few, within, count);
}

-- what is kept says nothing of lines
pub stays_more : (p q : Page) (n : ℕ) → Stays p q 0 → Stays p q n
stays_more p q n stays = record { limits = stays.limits; fits = stays.fits; lines = let a = stays.lines in omega (arith, a) }

-- ---- a step

not_full : (b : Bool) → true ≡ not b → b ≡ false
not_full true e = absurd (let never : true ≡ false = e in cc)
not_full false e = refl

pub not_not : (b : Bool) → not b ≡ false → b ≡ true
not_not true e = refl
not_not false e = absurd (let never : true ≡ false = e in cc)

pub after_so : (next : Option ℕ) (r r' : Room) (taken taken' : ℕ) (full full' : Bool) → r'.page ≡ (next_read next r.page).page → r'.setting ≡ set (next_read next r.page).pieces r.setting
    → taken' ≡ taken + 1 → full ≡ false → is_some next ≡ not full' → IsAfter next (held_in r taken full) (held_in r' taken' full')
after_so None r r' taken taken' full full' page setting count live full_is = tt
after_so (Some b) r r' taken taken' full full' page setting count live full_is =
    ap (λ (p : Page). held_in (record { page = p; setting = r'.setting }) taken' full') page
    ∙ sym (held_so (next_read (Some b) r.page).page (set (next_read (Some b) r.page).pieces r.setting) r'.setting (taken + 1) taken' full full' setting count (not_full full' full_is ∙ sym live))

pub stands_after : (next : Option ℕ) (p q : Page) (taken taken' : ℕ) (full : Bool) → GoesOn next p q → Stands p taken → taken' ≡ taken + 1 → taken < 1099511627776
    → is_some next ≡ not full → full ≡ false → Stands q taken'
stands_after None p q taken taken' full goes s count few is live = absurd (let never : false ≡ true = is ∙ ap not live in cc)
stands_after (Some b) p q taken taken' full goes s count few is live = record {
  fits = goes.1;
  lines = let a = goes.2 in let b = s.lines in omega (arith, a, b, count);
  few = omega (arith, few, count);
}

-- the first of some bytes
pub one_byte : (bytes : List ℕ) → 0 < length bytes → take 1 bytes ≡ get_or bytes 0 0 ∷ []
one_byte [] some = absurd (omega (arith, some))
one_byte (x ∷ xs) some = refl

-- no byte came first
none_turned : (most n : ℕ) (bytes items : List ℕ) (h k : Held) → Turned most h k (take n bytes) items → n ≤ 0 → items ≡ [] → Turned most h k [] []
none_turned most n bytes items h k t none nothing =
    let zero : n ≡ 0 = omega (arith, none) in
    subst (λ (l : List ℕ). Turned most h k [] l) nothing (subst (λ (m : ℕ). Turned most h k (take m bytes) items) zero t)

then_turned : (most : ℕ) (bytes items : List ℕ) (h k m : Held) → Turned most h k [] [] → Turned most k m bytes items → Turned most h m bytes items
then_turned most bytes items h k m first next = record {
  says = λ ends rest. first.says ends (bytes ++ rest) ∙ next.says ends rest;
  fits = λ rest. first.fits (bytes ++ rest) ∙ next.fits rest;
}

-- a step over the first byte, where none passed and none was kept
pub last_turned : (most most' most'' n m b : ℕ) (bytes items items' : List ℕ) (h h' h'' k : Held) (fits : Bool)
    → Turned most h h' (take n bytes) items → n ≤ 0 → items ≡ [] → Turned most' h' h'' (take m bytes) [] → m ≤ 0 → Stepped most'' (Some b) h'' k items' fits
    → take 1 bytes ≡ b ∷ [] → most' ≡ most → most'' ≡ most' → Turned most h k (take 1 bytes) items'
last_turned most most' most'' n m b bytes items items' h h' h'' k fits passed none nothing kept none' step one same same' =
    let first = none_turned most n bytes items h h' passed none nothing in
    let second : Turned most h' h'' [] [] = subst (λ (l : ℕ). Turned l h' h'' [] []) same (none_turned most' m bytes [] h' h'' kept none' refl) in
    let third : Stepped most (Some b) h'' k items' fits = subst (λ (l : ℕ). Stepped l (Some b) h'' k items' fits) (same' ∙ same) step in
    subst (λ (l : List ℕ). Turned most h k l items') (sym one)
    (then_turned most (b ∷ []) items' h h' k first (then_turned most (b ∷ []) items' h' h'' k second (byte_turned most b h'' k items' fits third)))

pub said_at : (most most' : ℕ) (bytes items : List ℕ) (h k : Held) → Turned most h k bytes items → most' ≡ most → (ends : Bool) (rest : List ℕ) → said most h ends (bytes ++ rest) ≡ items ++ said most' k ends rest
said_at most most' bytes items h k t same ends rest = t.says ends rest ∙ ap (λ (l : ℕ). items ++ said l k ends rest) (sym same)

pub fits_at : (most most' : ℕ) (bytes items : List ℕ) (h k : Held) → Turned most h k bytes items → most' ≡ most → (rest : List ℕ) → has_all most h (bytes ++ rest) ≡ has_all most' k rest
fits_at most most' bytes items h k t same rest = t.fits rest ∙ ap (λ (l : ℕ). has_all l k rest) (sym same)
