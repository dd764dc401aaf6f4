-- A row is read back in one way.
use Rattle.std.proofs.Common.{◌≡◌, ℕ, zero, suc, ◌+◌, ◌-◌, ◌*◌, ◌/◌, ◌%◌, ◌<◌, ◌≤◌, List, [], ◌∷◌, ◌++◌, length, Bool, true, false, not, ◌&&◌, ◌||◌, nat_lt, nat_le, is_some, flat_map, replicate, if◌then◌else◌, Option, None, Some, slice_get, refl, sym, ◌∙◌, ap, subst, arith, append_assoc}
use Rattle.std.specs.Prelude.{sum_by}
use Rattle.std.proofs.lemmas.Option.{slice_get_within}
use Rattle.std.proofs.lemmas.List.Sums.{sum_by-append, sum_by-cons}
use Rattle.std.proofs.Math.Numerals.{add-one}
use Rattle.unicode_width.specs.Width.{char_width}
use Rattle.unicode_width.specs.Width as width
use Rattle.utf8_own_characters.specs.declared.cluster.Cluster.{Cluster}
use Rattle.utf8_own_characters.specs.declared.reading.Read.{Read}
use Rattle.utf8_own_characters.specs.declared.table.Code.{Code}
use Rattle.utf8_own_characters.specs.declared.table.Code.TheVariants.{One, Two}
use Rattle.utf8_own_characters.specs.Cluster as of
use Rattle.utf8_own_characters.specs.Cluster.{single, blank, is_ascii, is_wide, is_two, columns}
use Rattle.utf8_own_characters.specs.Table.{Characters, Good, leads, trails, first_lead, first_trail, is_lead, is_trail, place_of, code_at, code, bytes_in, bytes, covers, is_none}
use Rattle.utf8_own_characters.specs.Reading.{shows, strays, waits, shows_cell, alone, begun, shows_pair, both, after_blank, read, list_of, text_of, end_of, decode_from, decode}
use Rattle.utf8_own_characters.specs.Laws.{Inverse, InverseWhole, OneWay, ColumnsAreBytes, ColumnsStay, Apart, HalvesAreApart}
use Rattle.utf8_own_characters.proofs.Tests.{no_some, and_first, and_second, and_true, and_false, and_not, not_both, if_not, if_so, lt_so, lt_not, le_so, le_not, lt_is, lt_is_not, le_is}
use Rattle.utf8_own_characters.proofs.Places.{same_cluster, not_none, stands_there, narrow_there, wide_there, Halved, halved}

-- ---- bytes

low_no_lead : (t : Characters) (b : ℕ) → b + t.halves < 256 → is_lead t b ≡ false
low_no_lead t b h =
    and_false (nat_le (first_lead t) b) (nat_lt b (first_trail t)) (le_not (first_lead t) b (omega arith))

alone_ascii : (t : Characters) (b : ℕ) → b < 128 → alone t b ≡ shows (single b)
alone_ascii t b h = if_so (nat_lt b 128) (shows (single b)) (shows_cell (slice_get t.narrow (b - 128))) (lt_so b 128 h)

alone_narrow : (t : Characters) (n : ℕ) (c : Cluster) → slice_get t.narrow n ≡ Some c → is_none c ≡ false → alone t (128 + n) ≡ shows c
alone_narrow t n c there some =
    let back : 128 + n - 128 ≡ n = omega arith in
    if_not (nat_lt (128 + n) 128) (shows (single (128 + n))) (shows_cell (slice_get t.narrow (128 + n - 128))) (lt_not (128 + n) 128 (omega arith))
    ∙ ap (λ (k : ℕ). shows_cell (slice_get t.narrow k)) back ∙ ap shows_cell there ∙ if_not (is_none c) (strays 1) (shows c) some

pub begun_low : (t : Characters) (b : ℕ) → b + t.halves < 256 → begun t b ≡ alone t b
begun_low t b h = if_not (is_lead t b) (waits b) (alone t b) (low_no_lead t b h)

pub decode_step : (t : Characters) (held : Option ℕ) (b : ℕ) (bs : List ℕ) (r : Read) → read t held b ≡ r
    → decode_from t held (b ∷ bs) ≡ text_of r ++ decode_from t r.held bs
decode_step t held b bs r e = ap (λ (k : Read). text_of k ++ decode_from t k.held bs) e

-- ---- a cluster is read back

ascii_back : (t : Characters) (c : Cluster) (rest : List ℕ) → Good t → is_ascii c ≡ true
    → decode t (c.letter ∷ rest) ≡ c ∷ decode t rest
ascii_back t c rest good e =
    let low : c.letter < 128 = lt_is c.letter 128 (and_first (nat_lt c.letter 128) (of.is_same c (single c.letter)) e) in
    let few = good.few in
    let small : c.letter + t.halves < 256 = omega arith in
    let same : c ≡ single c.letter = same_cluster c (single c.letter) (and_second (nat_lt c.letter 128) (of.is_same c (single c.letter)) e) in
    decode_step t None c.letter rest (shows c) (begun_low t c.letter small ∙ alone_ascii t c.letter low ∙ ap shows (sym same))

narrow_back : (t : Characters) (c : Cluster) (n : ℕ) (rest : List ℕ) → Good t → is_ascii c ≡ false → place_of t.narrow c ≡ Some n
    → decode t ((128 + n) ∷ rest) ≡ c ∷ decode t rest
narrow_back t c n rest good e p =
    let there = stands_there t.narrow c n p in
    let within : n < length t.narrow = slice_get_within t.narrow n c there in
    let few = good.few in
    let small : 128 + n + t.halves < 256 = omega arith in
    decode_step t None (128 + n) rest (shows c) (begun_low t (128 + n) small ∙ alone_narrow t n c there (not_none c e))

lead_is : (t : Characters) (q : ℕ) → t.halves ≤ 128 → q < leads t → is_lead t (first_lead t + q) ≡ true
lead_is t q few low =
    let above : first_lead t ≤ first_lead t + q = omega arith in
    let below : first_lead t + q < first_trail t = omega arith in
    and_true (nat_le (first_lead t) (first_lead t + q)) (nat_lt (first_lead t + q) (first_trail t)) (le_so _ _ above) (lt_so _ _ below)

trail_is : (t : Characters) (r : ℕ) → is_trail t (first_trail t + r) ≡ true
trail_is t r = le_so (first_trail t) (first_trail t + r) (omega arith)

pair_place : (l f p q r n : ℕ) → q * n + r ≡ p → (l + q - l) * n + (f + r - f) ≡ p
pair_place l f p q r n e =
    let a : l + q - l ≡ q = omega arith in
    let b : f + r - f ≡ r = omega arith in
    ap (λ (k : ℕ). k * n + (f + r - f)) a ∙ ap (λ (k : ℕ). q * n + k) b ∙ e

wide_back : (t : Characters) (c : Cluster) (p : ℕ) (rest : List ℕ) → Good t → place_of t.wide c ≡ Some p
    → decode t ((first_lead t + p / trails t) ∷ (first_trail t + p % trails t) ∷ rest) ≡ c ∷ decode t rest
wide_back t c p rest good e =
    let there = stands_there t.wide c p e in
    let within : p < length t.wide = slice_get_within t.wide p c there in
    let h = halved p (length t.wide) (leads t) (trails t) within good.enough in
    let few = good.few in
    let small : t.halves ≤ 128 = omega arith in
    let lead = first_lead t + p / trails t in
    let trail = first_trail t + p % trails t in
    let first : read t None lead ≡ waits lead = if_so (is_lead t lead) (waits lead) (alone t lead) (lead_is t (p / trails t) small h.row) in
    let place : (lead - first_lead t) * trails t + (trail - first_trail t) ≡ p =
    pair_place (first_lead t) (first_trail t) p (p / trails t) (p % trails t) (trails t) h.whole in
    let second : read t (Some lead) trail ≡ shows c =
    if_so (is_trail t trail) (both t lead trail) (after_blank (begun t trail)) (trail_is t (p % trails t))
    ∙ ap (λ (k : ℕ). shows_pair (slice_get t.wide k)) place ∙ ap shows_pair there in
    decode_step t None lead (trail ∷ rest) (waits lead) first ∙ decode_step t (Some lead) trail rest (shows c) second

back_by : (t : Characters) (c : Cluster) (rest : List ℕ) → Good t → (a : Bool) → is_ascii c ≡ a
    → (n p : Option ℕ) → place_of t.narrow c ≡ n → place_of t.wide c ≡ p
    → is_some (if a then Some (One c.letter) else code_at t n p) ≡ true
    → decode t (bytes_in (if a then Some (One c.letter) else code_at t n p) ++ rest) ≡ c ∷ decode t rest
back_by t c rest good true e n p en ep some = ascii_back t c rest good e
back_by t c rest good false e (Some n) p en ep some = narrow_back t c n rest good e en
back_by t c rest good false e None (Some p) en ep some = wide_back t c p rest good ep
back_by t c rest good false e None None en ep some = absurd (let no : false ≡ true = some in cc)

cluster_back : (t : Characters) (c : Cluster) (rest : List ℕ) → Good t → is_some (code t c) ≡ true
    → decode t (bytes t c ++ rest) ≡ c ∷ decode t rest
cluster_back t c rest good some =
    back_by t c rest good (is_ascii c) refl (place_of t.narrow c) (place_of t.wide c) refl refl some

pub inverse : Inverse
inverse t [] rest good covered = refl
inverse t (c ∷ cs) rest good covered =
    ap (λ (bs : List ℕ). decode t bs) (append_assoc (bytes t c) (flat_map (bytes t) cs) rest)
    ∙ cluster_back t c (flat_map (bytes t) cs ++ rest) good (and_first (is_some (code t c)) (covers t cs) covered)
    ∙ ap {B = List Cluster} (λ (k : List Cluster). c ∷ k) (inverse t cs rest good (and_second (is_some (code t c)) (covers t cs) covered))

pub inverse_whole : InverseWhole
inverse_whole t [] good covered = refl
inverse_whole t (c ∷ cs) good covered =
    cluster_back t c (flat_map (bytes t) cs) good (and_first (is_some (code t c)) (covers t cs) covered)
    ∙ ap {B = List Cluster} (λ (k : List Cluster). c ∷ k) (inverse_whole t cs good (and_second (is_some (code t c)) (covers t cs) covered))

pub one_way : OneWay
one_way t cs ds good first second same =
    sym (inverse_whole t cs good first) ∙ ap (λ (bs : List ℕ). decode t bs) same ∙ inverse_whole t ds good second

-- ---- columns

width_by : (b : ℕ) (x y z : Bool) → nat_lt b 0x7F ≡ x → nat_le 0xA0 b ≡ z → b < 128
    → is_two (if x then (if y then Some 1 else None) else (if z then Some (width.alone false b).0 else None)) ≡ false
width_by b true true z ex ez h = refl
width_by b true false z ex ez h = refl
width_by b false y true ex ez h = absurd (let high : 0xA0 ≤ b = le_is 0xA0 b ez in omega arith)
width_by b false y false ex ez h = refl

ascii_narrow : (b : ℕ) → b < 128 → is_wide (single b) ≡ false
unfolding char_width
ascii_narrow b h = width_by b (nat_lt b 0x7F) (nat_le 0x20 b) (nat_le 0xA0 b) refl refl h

wide_columns : (c : Cluster) → is_wide c ≡ true → columns c ≡ 2
wide_columns c e = if_so (is_wide c) 2 1 e

narrow_columns : (c : Cluster) → is_wide c ≡ false → columns c ≡ 1
narrow_columns c e = if_not (is_wide c) 2 1 e

ascii_columns : (b : ℕ) → b < 128 → columns (single b) ≡ 1
ascii_columns b h = narrow_columns (single b) (ascii_narrow b h)

columns_by : (t : Characters) (c : Cluster) → Good t → (a : Bool) → is_ascii c ≡ a
    → (n p : Option ℕ) → place_of t.narrow c ≡ n → place_of t.wide c ≡ p
    → is_some (if a then Some (One c.letter) else code_at t n p) ≡ true
    → length (bytes_in (if a then Some (One c.letter) else code_at t n p)) ≡ columns c
columns_by t c good true e n p en ep some =
    let low : c.letter < 128 = lt_is c.letter 128 (and_first (nat_lt c.letter 128) (of.is_same c (single c.letter)) e) in
    sym (narrow_columns c (ascii_narrow c.letter low))
columns_by t c good false e (Some n) p en ep some =
    sym (narrow_columns c (narrow_there t.narrow n c good.narrow (stands_there t.narrow c n en)))
columns_by t c good false e None (Some p) en ep some =
    sym (wide_columns c (wide_there t.wide p c good.wide (stands_there t.wide c p ep)))
columns_by t c good false e None None en ep some = absurd (let no : false ≡ true = some in cc)

pub columns_are_bytes : ColumnsAreBytes
columns_are_bytes t c good covered =
    columns_by t c good (is_ascii c) refl (place_of t.narrow c) (place_of t.wide c) refl refl (and_first (is_some (code t c)) true covered)

waiting : Option ℕ → ℕ
waiting None = 0
waiting (Some lead) = 1

taken : Read → ℕ
taken r = sum_by columns (text_of r) + waiting r.held

blank_column : columns blank ≡ 1
blank_column = ascii_columns 32 (omega arith)

taken_stray : taken (strays 1) ≡ 1
unfolding taken waiting
taken_stray = let e = blank_column in omega arith

taken_strays : taken (strays 2) ≡ 2
unfolding taken waiting
taken_strays = let e = blank_column in omega arith

taken_shows : (c : Cluster) → taken (shows c) ≡ columns c
unfolding taken waiting
taken_shows c = omega arith

taken_waits : (b : ℕ) → taken (waits b) ≡ 1
unfolding taken waiting
taken_waits b = refl

plus_one : (a b s w : ℕ) → a ≡ b + s → b ≡ 1 → a + w ≡ 1 + (s + w)
plus_one a b s w e f = omega arith

taken_after : (r : Read) → taken (after_blank r) ≡ 1 + taken r
unfolding taken
taken_after r =
    let more : text_of (after_blank r) ≡ blank ∷ text_of r = ap (λ (k : ℕ). replicate k blank ++ list_of r.cluster) (add-one r.blanks) in
    ap (λ (k : List Cluster). sum_by columns k + waiting r.held) more
    ∙ plus_one (sum_by columns (blank ∷ text_of r)) (columns blank) (sum_by columns (text_of r)) (waiting r.held)
    (sum_by-cons columns blank (text_of r)) blank_column

cell_by : (x : Bool) (c : Cluster) → is_wide c ≡ false → taken (if x then strays 1 else shows c) ≡ 1
cell_by true c e = taken_stray
cell_by false c e = taken_shows c ∙ narrow_columns c e

taken_cell : (t : Characters) (i : ℕ) (o : Option Cluster) → slice_get t.narrow i ≡ o → Good t → taken (shows_cell o) ≡ 1
taken_cell t i None e good = taken_stray
taken_cell t i (Some c) e good = cell_by (is_none c) c (narrow_there t.narrow i c good.narrow e)

taken_alone_by : (t : Characters) (b : ℕ) (x : Bool) → nat_lt b 128 ≡ x → Good t
    → taken (if x then shows (single b) else shows_cell (slice_get t.narrow (b - 128))) ≡ 1
taken_alone_by t b true e good = taken_shows (single b) ∙ ascii_columns b (lt_is b 128 e)
taken_alone_by t b false e good = taken_cell t (b - 128) (slice_get t.narrow (b - 128)) refl good

taken_begun_by : (t : Characters) (b : ℕ) (x : Bool) → Good t → taken (if x then waits b else alone t b) ≡ 1
taken_begun_by t b true good = taken_waits b
taken_begun_by t b false good = taken_alone_by t b (nat_lt b 128) refl good

taken_begun : (t : Characters) (b : ℕ) → Good t → taken (begun t b) ≡ 1
taken_begun t b good = taken_begun_by t b (is_lead t b) good

taken_pair : (t : Characters) (i : ℕ) (o : Option Cluster) → slice_get t.wide i ≡ o → Good t → taken (shows_pair o) ≡ 2
taken_pair t i None e good = taken_strays
taken_pair t i (Some c) e good = taken_shows c ∙ wide_columns c (wide_there t.wide i c good.wide e)

taken_second : (t : Characters) (lead b : ℕ) (x : Bool) → Good t → taken (if x then both t lead b else after_blank (begun t b)) ≡ 2
taken_second t lead b true good =
    let i = (lead - first_lead t) * trails t + (b - first_trail t) in taken_pair t i (slice_get t.wide i) refl good
taken_second t lead b false good = taken_after (begun t b) ∙ ap (λ (k : ℕ). 1 + k) (taken_begun t b good)

taken_read : (t : Characters) (held : Option ℕ) (b : ℕ) → Good t → taken (read t held b) ≡ waiting held + 1
unfolding waiting
taken_read t None b good = taken_begun t b good
taken_read t (Some lead) b good = taken_second t lead b (is_trail t b) good

columns_from : (t : Characters) (held : Option ℕ) (row : List ℕ) → Good t → sum_by columns (decode_from t held row) ≡ waiting held + length row
unfolding waiting taken
columns_from t None [] good = refl
columns_from t (Some lead) [] good = let e = blank_column in omega arith
columns_from t held (b ∷ bs) good =
    let r = read t held b in
    let here : sum_by columns (text_of r) + waiting r.held ≡ waiting held + 1 = taken_read t held b good in
    let later = columns_from t r.held bs good in
    sum_by-append columns (text_of r) (decode_from t r.held bs) ∙ omega arith

pub columns_stay : ColumnsStay
unfolding waiting
columns_stay t row good = columns_from t None row good ∙ omega arith

-- ---- leads and trails

pub halves_are_apart : HalvesAreApart
halves_are_apart t b good =
    let few = good.few in
    record {
      no_trail = λ h. le_not (first_trail t) b (lt_is b (first_trail t) (and_second (nat_le (first_lead t) b) (nat_lt b (first_trail t)) h));
      no_lead = λ h. and_not (nat_le (first_lead t) b) (nat_lt b (first_trail t)) (lt_not b (first_trail t) (le_is (first_trail t) b h));
      lead_high = λ h. (let low : first_lead t ≤ b = le_is (first_lead t) b (and_first (nat_le (first_lead t) b) (nat_lt b (first_trail t)) h) in omega arith);
      trail_high = λ h. (let low : first_trail t ≤ b = le_is (first_trail t) b h in omega arith);
    }
