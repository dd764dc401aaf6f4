-- Letters of three bytes that are looked at one after another: each ends where the next begins.
use Rattle.std.proofs.Common.{◌≡◌, ℕ, zero, suc, ◌+◌, ◌-◌, ◌≤◌, List, [], ◌∷◌, ◌++◌, length, take, drop, get_or, Bool, true, false, not, ◌==◌, ◌&&◌, ◌||◌, nat_le, nat_lt, if◌then◌else◌, Option, None, Some, refl, sym, ◌∙◌, ap, subst, arith}
use Rattle.std.proofs.lemmas.Bool.Decides.{nat_tests}
use Rattle.std.proofs.lemmas.List.{length-drop, take_all}
use Rattle.unicode_width.specs.Width.{char_width}
use Rattle.utf8_own_characters.specs.declared.cluster.Cluster.{Cluster}
use Rattle.utf8_own_characters.specs.declared.counting.Count.{Count}
use Rattle.utf8_own_characters.specs.declared.listening.Listener.{Listener}
use Rattle.utf8_own_characters.specs.declared.listening.Listened.{Listened}
use Rattle.utf8_own_characters.specs.Cluster.{is_mark, is_zero, single}
use Rattle.utf8_own_characters.specs.Counting.{counted_within}
use Rattle.utf8_own_characters.specs.Decoding.{none}
use Rattle.utf8_own_characters.specs.Listening.{after, done_in, hear, is_unseen, read}
use Rattle.utf8_own_characters.specs.Looking.{BeginsPlaced, is_gap, is_placed, is_some_width, noted, seen, takes_columns, takes_place}
use Rattle.utf8_own_characters.specs.Reading.{list_of}
use Rattle.utf8_own_characters.proofs.Letters.{after-append, done-append, prefix_three, seen-append, seen_one, three_done, three_heard}
use Rattle.utf8_own_characters.proofs.Tests.{and_first, and_second}

-- ---- such a letter is no mark, shows something, and takes a place

pub record Placed (c : ℕ) : Type 0 where
  pub beyond : nat_le 0x2070 c ≡ true
  pub no_order : not (c == 0xFEFF) ≡ true
  pub columns : takes_columns c ≡ true

placed_is : (c : ℕ) → is_placed c ≡ true → Placed c
placed_is c e =
    let A = nat_le 0x2070 c in
    let B = not (c == 0xFEFF) in
    let both = and_first (A && B) (takes_columns c) e in
    record { beyond = and_first A B both; no_order = and_second A B both; columns = and_second (A && B) (takes_columns c) e }

seen_sign : (c : ℕ) → nat_le 0x2070 c ≡ true → not (c == 0xFEFF) ≡ true → is_unseen c ≡ false
seen_sign c l n = grind (arith, nat_tests)

no_gap : (c : ℕ) → nat_le 0x2070 c ≡ true → is_gap c ≡ false
no_gap c l = grind (arith, nat_tests)

high : (c : ℕ) → nat_le 0x2070 c ≡ true → nat_lt c 128 ≡ false
high c l = grind (arith, nat_tests)

no_backslash : (c : ℕ) → nat_le 0x2070 c ≡ true → (c == 0x5C) ≡ false
no_backslash c l = grind (arith, nat_tests)

no_blank : (c : ℕ) → nat_le 0x2070 c ≡ true → nat_le c 0x20 ≡ false
no_blank c l = grind (arith, nat_tests)

beyond_ascii : (c : ℕ) → nat_le 0x2070 c ≡ true → nat_le 128 c ≡ true
beyond_ascii c l = grind (arith, nat_tests)

some_width : (o : Option ℕ) → is_some_width o ≡ true → is_zero o ≡ false
some_width None e = absurd (let no : false ≡ true = e in cc)
some_width (Some n) e = grind (arith, nat_tests)

no_mark : (c : ℕ) → takes_columns c ≡ true → is_mark c ≡ false
no_mark c e = some_width (char_width false c) e

pub takes : (c : ℕ) → is_placed c ≡ true → takes_place (single c) ≡ true
takes c e =
    let p = placed_is c e in
    rw (high c p.beyond, p.columns, no_gap c p.beyond) refl

-- ---- it is held

abbrev pub holding : ℕ → Listener
holding c = record { part = none; held = Some (single c); is_plain = true }

held_by : (l : Listener) (c : ℕ) (x : Bool) → l.part ≡ none
    → ◌≡◌ {A = Listened} (record { listener = record { part = l.part; held = Some (single c); is_plain = x || true }; done = l.held; byte = None })
    (record { listener = holding c; done = l.held; byte = None })
held_by l c true e = rw e refl
held_by l c false e = rw e refl

heard_placed : (l : Listener) (c : ℕ) → is_placed c ≡ true → l.part ≡ none → hear l c ≡ record { listener = holding c; done = l.held; byte = None }
heard_placed l c e none_left =
    let p = placed_is c e in
    rw (seen_sign c p.beyond p.no_order, no_mark c p.columns, high c p.beyond, no_backslash c p.beyond, no_blank c p.beyond, beyond_ascii c p.beyond)
    (held_by l c l.is_plain none_left)

three_read : (l : Listener) (bs : List ℕ) (c : ℕ) → BeginsPlaced bs c
    → read (read (read l (get_or bs 0 0)).listener (get_or bs 1 0)).listener (get_or bs 2 0) ≡ record { listener = holding c; done = l.held; byte = None }
three_read l bs c begins =
    three_heard l (get_or bs 0 0) (get_or bs 1 0) (get_or bs 2 0) c begins.three begins.is_character
    ∙ heard_placed (record l { part = none }) c begins.placed refl

-- after the three bytes it is, and what was held ended
pub placed_after : (l : Listener) (bs : List ℕ) (c : ℕ) → BeginsPlaced bs c → after l (take 3 bs) ≡ holding c
placed_after l bs c begins =
    ap (after l) (prefix_three bs begins.long) ∙ ap (λ (x : Listened). x.listener) (three_read l bs c begins)

pub placed_done : (l : Listener) (bs : List ℕ) (c : ℕ) → BeginsPlaced bs c → done_in l (take 3 bs) ≡ list_of l.held ++ []
placed_done l bs c begins =
    ap (done_in l) (prefix_three bs begins.long)
    ∙ three_done l (get_or bs 0 0) (get_or bs 1 0) (get_or bs 2 0) begins.three
    ∙ ap (λ (x : Listened). list_of x.done ++ []) (three_read l bs c begins)

-- ---- one more of them

one_less : (n : ℕ) → suc n + 3 ≡ suc (n + 3)
one_less n = omega arith

three_more : (n : ℕ) (bs : List ℕ) → take (n + 3) bs ≡ take n bs ++ take 3 (drop n bs)
three_more zero bs = refl
three_more (suc n) [] = ap (λ (k : ℕ). take k []) (one_less n)
three_more (suc n) (b ∷ bs) = ap (λ (k : ℕ). take k (b ∷ bs)) (one_less n) ∙ ap (λ (zs : List ℕ). b ∷ zs) (three_more n bs)

pub begins_rest : (bs : List ℕ) (n d : ℕ) → BeginsPlaced (take (length bs - n) (drop n bs)) d → BeginsPlaced (drop n bs) d
begins_rest bs n d begins =
    let rest = length-drop n bs in
    subst (λ (zs : List ℕ). BeginsPlaced zs d) (take_all (length bs - n) (drop n bs) (omega (arith, rest))) begins

pub few_more : (bs : List ℕ) (n d : ℕ) → n ≤ length bs → BeginsPlaced (drop n bs) d → n + 3 ≤ length bs
few_more bs n d within begins =
    let rest = length-drop n bs in
    let long = begins.long in
    omega (arith, rest, long, within)

pub more_held : (l : Listener) (bs : List ℕ) (n c d : ℕ) → BeginsPlaced (drop n bs) d → after l (take n bs) ≡ holding c → after l (take (n + 3) bs) ≡ holding d
more_held l bs n c d begins held =
    ap (after l) (three_more n bs)
    ∙ after-append l (take n bs) (take 3 (drop n bs))
    ∙ placed_after (after l (take n bs)) (drop n bs) d begins

counted_one : (room : ℕ) (xs : List Count) (c : ℕ) → is_placed c ≡ true → counted_within room xs (single c) ≡ seen room xs (single c ∷ [])
counted_one room xs c e = ap (λ (x : Bool). if x then counted_within room xs (single c) else xs) (sym (takes c e))

pub more_counted : (room : ℕ) (l : Listener) (bs : List ℕ) (n c d : ℕ) (xs ys zs : List Count) → BeginsPlaced (drop n bs) d → after l (take n bs) ≡ holding c
    → is_placed c ≡ true → ys ≡ seen room xs (done_in l (take n bs)) → zs ≡ counted_within room ys (single c) → zs ≡ seen room xs (done_in l (take (n + 3) bs))
more_counted room l bs n c d xs ys zs begins held placed saw counted =
    let A = take n bs in
    let B = take 3 (drop n bs) in
    let done : done_in (after l A) B ≡ single c ∷ [] = placed_done (after l A) (drop n bs) d begins ∙ ap (λ (m : Listener). list_of m.held ++ []) held in
    counted
    ∙ counted_one room ys c placed
    ∙ ap (λ (ws : List Count). seen room ws (single c ∷ [])) saw
    ∙ sym (seen-append room xs (done_in l A) (single c ∷ []))
    ∙ ap (λ (cs : List Cluster). seen room xs (done_in l A ++ cs)) (sym done)
    ∙ ap (seen room xs) (sym (done-append l A B) ∙ ap (done_in l) (sym (three_more n bs)))

-- the first of them
pub first_counted : (room : ℕ) (l : Listener) (bs : List ℕ) (c : ℕ) (xs ys : List Count) → BeginsPlaced bs c → ys ≡ noted room xs l.held → ys ≡ seen room xs (done_in l (take 3 bs))
first_counted room l bs c xs ys begins counted =
    counted ∙ seen_one room xs l.held ∙ ap (seen room xs) (sym (placed_done l bs c begins))
