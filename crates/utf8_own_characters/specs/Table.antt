-- The characters of a page, and the bytes that stand for them.
use Rattle.std.specs.Prelude.{◌≡◌, ℕ, ◌+◌, ◌-◌, ◌*◌, ◌/◌, ◌%◌, ◌≤◌, List, [], ◌∷◌, length, Bool, true, false, not, ◌&&◌, ◌||◌, nat_lt, nat_le, is_some, flat_map, slice_get, Option, None, Some, if◌then◌else◌}
use Rattle.utf8_own_characters.specs.declared.cluster.Cluster.{Cluster}
use Rattle.utf8_own_characters.specs.declared.table.Code.{Code}
use Rattle.utf8_own_characters.specs.declared.table.Code.TheVariants.{One, Two}
use Rattle.utf8_own_characters.specs.Cluster.{single, is_same, is_ascii, is_wide, columns}

-- the characters of one column, from byte 128 on, and those of two; and how many bytes, the last of all, are halves of these
pub record Characters : Type 0 where
  pub narrow : List Cluster
  pub wide : List Cluster
  pub halves : ℕ

-- the lower halves are leads, the upper ones trails, and of these there is one more where their number is odd
abbrev pub leads : Characters → ℕ
leads t = t.halves / 2

abbrev pub trails : Characters → ℕ
trails t = t.halves - t.halves / 2

abbrev pub first_lead : Characters → ℕ
first_lead t = 256 - t.halves

abbrev pub first_trail : Characters → ℕ
first_trail t = 256 - trails t

abbrev pub is_lead : Characters → ℕ → Bool
is_lead t b = nat_le (first_lead t) b && nat_lt b (first_trail t)

abbrev pub is_trail : Characters → ℕ → Bool
is_trail t b = nat_le (first_trail t) b

-- the place of a cluster among these, of which the first has this place
abbrev pub place_from : ℕ → List Cluster → Cluster → Option ℕ
place_from k [] c = None
place_from k (x ∷ xs) c = if is_same x c then Some k else place_from (k + 1) xs c

abbrev pub place_of : List Cluster → Cluster → Option ℕ
place_of = place_from 0

-- the n-th of one column is byte 128 + n; the pairs go through all trails of a lead, then through those of the next
abbrev pub code_at : Characters → Option ℕ → Option ℕ → Option Code
code_at t (Some n) place = Some (One (128 + n))
code_at t None (Some p) = Some (Two (first_lead t + p / trails t) (first_trail t + p % trails t))
code_at t None None = None

-- what stands for a cluster: a character of ASCII is its byte
abbrev pub code : Characters → Cluster → Option Code
code t c = if is_ascii c then Some (One c.letter) else code_at t (place_of t.narrow c) (place_of t.wide c)

abbrev pub bytes_in : Option Code → List ℕ
bytes_in None = []
bytes_in (Some (One b)) = b ∷ []
bytes_in (Some (Two lead trail)) = lead ∷ trail ∷ []

abbrev pub bytes : Characters → Cluster → List ℕ
bytes t c = bytes_in (code t c)

-- each of these has a code
abbrev pub covers : Characters → List Cluster → Bool
covers t [] = true
covers t (c ∷ cs) = is_some (code t c) && covers t cs

-- ---- a table that is read in one way

-- no character: NUL
abbrev pub is_none : Cluster → Bool
is_none c = is_same c (single 0)

abbrev pub is_among : Cluster → List Cluster → Bool
is_among c [] = false
is_among c (x ∷ xs) = is_same x c || is_among c xs

-- each stands once, but for NUL, which stands where there is none
abbrev pub is_distinct : List Cluster → Bool
is_distinct [] = true
is_distinct (x ∷ xs) = (is_none x || not (is_among x xs)) && is_distinct xs

abbrev pub all_narrow : List Cluster → Bool
all_narrow [] = true
all_narrow (x ∷ xs) = not (is_wide x) && all_narrow xs

abbrev pub all_wide : List Cluster → Bool
all_wide [] = true
all_wide (x ∷ xs) = is_wide x && all_wide xs

pub record Good (t : Characters) : Type 0 where
  pub few : length t.narrow + t.halves ≤ 128
  pub enough : length t.wide ≤ leads t * trails t
  pub narrow : all_narrow t.narrow ≡ true
  pub wide : all_wide t.wide ≡ true
  pub narrow_once : is_distinct t.narrow ≡ true
  pub wide_once : is_distinct t.wide ≡ true
