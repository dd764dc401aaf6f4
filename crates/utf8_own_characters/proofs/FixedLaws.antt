-- The five fixed tables have the same bytes and characters as tables like those of a page.
use Rattle.std.proofs.Common.{◌≡◌, ℕ, ◌+◌, ◌-◌, ◌<◌, ◌≤◌, List, [], ◌∷◌, ◌++◌, Bool, true, false, ◌&&◌, ◌==◌, nat_lt, map, if◌then◌else◌, Option, None, Some, option_map, slice_get, refl, sym, ◌∙◌, ap, arith}
use Rattle.std.proofs.lemmas.Bool.Decides.{nat_tests}
use Rattle.std.proofs.lemmas.Option.{slice_get-map}
use Rattle.utf8_characters.specs.declared.table.FixedTable.{FixedTable}
use Rattle.utf8_characters.specs.Tables.{characters, character_of, byte_of, byte_in, if_any}
use Rattle.utf8_own_characters.specs.Cluster.{single, blank, is_same, is_ascii}
use Rattle.utf8_own_characters.specs.Table.{Characters, code, code_at, place_from, place_of, is_lead}
use Rattle.utf8_own_characters.specs.Reading.{strays, shows, shows_cell, alone, text_of, list_of, decode_from}
use Rattle.utf8_own_characters.specs.Fixed.{fixed, fixed_cells, one, shown, SameBytes, SameCharacters}
use Rattle.utf8_own_characters.proofs.Tests.{and_false, if_not, lt_not}
use Rattle.utf8_own_characters.proofs.RowLaws.{decode_step, begun_low}

and_unit : (b : Bool) → b && true && true && true ≡ b
and_unit true = refl
and_unit false = refl

same_single : (x c : ℕ) → is_same (single x) (single c) ≡ (x == c)
same_single x c = and_unit (x == c)

code_by : (t : Characters) (b : Bool) (x : ℕ) (xs : List ℕ) (k c : ℕ)
    → code_at t (place_from (k + 1) (map single xs) (single c)) None ≡ one (byte_in (128 + (k + 1)) xs c)
    → code_at t (if b then Some k else place_from (k + 1) (map single xs) (single c)) None ≡ one (if b then Some (128 + k) else byte_in (128 + k + 1) xs c)
code_by t true x xs k c later = refl
code_by t false x xs k c later =
    let same : 128 + (k + 1) ≡ 128 + k + 1 = omega arith in later ∙ ap (λ (n : ℕ). one (byte_in n xs c)) same

code_from : (t : Characters) (xs : List ℕ) (k c : ℕ) → code_at t (place_from k (map single xs) (single c)) None ≡ one (byte_in (128 + k) xs c)
code_from t [] k c = refl
code_from t (x ∷ xs) k c =
    ap (λ (b : Bool). code_at t (if b then Some k else place_from (k + 1) (map single xs) (single c)) None) (same_single x c)
    ∙ code_by t (x == c) x xs k c (code_from t xs (k + 1) c)

not_zero : (c : ℕ) → 128 ≤ c → (c == 0) ≡ false
not_zero c h = grind (arith, nat_tests)

pub same_bytes : SameBytes
same_bytes table c h =
    if_not (is_ascii (single c)) _ (code_at (fixed table) (place_of (fixed_cells table) (single c)) None)
    (and_false (nat_lt c 128) (is_same (single c) (single c)) (lt_not c 128 h))
    ∙ code_from (fixed table) (characters table) 0 c
    ∙ sym (ap one (if_not (c == 0) None (byte_in 128 (characters table) c) (not_zero c h)))

cell_by : (c : ℕ) (z : Bool) → text_of (if z then strays 1 else shows (single c)) ++ [] ≡ shown (if z then None else Some c)
cell_by c true = refl
cell_by c false = refl

cell_of : (o : Option ℕ) → text_of (shows_cell (option_map single o)) ++ [] ≡ shown (if_any o)
cell_of None = refl
cell_of (Some c) = ap (λ (b : Bool). text_of (if b then strays 1 else shows (single c)) ++ []) (same_single c 0) ∙ cell_by c (c == 0)

held_by : (c : ℕ) (z : Bool) → (if z then strays 1 else shows (single c)).held ≡ None
held_by c true = refl
held_by c false = refl

held_of : (o : Option ℕ) → (shows_cell (option_map single o)).held ≡ None
held_of None = refl
held_of (Some c) = held_by c (is_same (single c) (single 0))

ends : (t : Characters) (o : Option ℕ) → text_of (shows_cell (option_map single o)) ++ decode_from t (shows_cell (option_map single o)).held [] ≡ shown (if_any o)
ends t o = ap (λ (h : Option ℕ). text_of (shows_cell (option_map single o)) ++ decode_from t h []) (held_of o) ∙ cell_of o

pub same_characters : SameCharacters
same_characters table b h g =
    let o = slice_get (characters table) (b - 128) in
    let low : b + 0 < 256 = omega arith in
    decode_step (fixed table) None b [] (shows_cell (option_map single o))
    (begun_low (fixed table) b low
    ∙ if_not (nat_lt b 128) (shows (single b)) (shows_cell (slice_get (fixed_cells table) (b - 128))) (lt_not b 128 h)
    ∙ ap shows_cell (slice_get-map single (characters table) (b - 128)))
    ∙ ends (fixed table) o
    ∙ sym (ap shown (if_not (nat_lt b 128) None (if_any o) (lt_not b 128 h)))
