-- What the language reads of a cluster.
use Prim.Native.Char.{code}
use Rattle.std.proofs.Common.{◌≡◌, ℕ, ◌≤◌, Bool, true, false, not, ◌&&◌, ◌==◌, nat_le, nat_lt, if◌then◌else◌, refl, sym, ◌∙◌, arith}
use Rattle.std.proofs.lemmas.Bool.Decides.{nat_tests}
use Rattle.utf8_own_characters.specs.declared.cluster.Cluster.{Cluster}
use Rattle.utf8_own_characters.specs.Cluster.{is_ascii, is_same, single}
use Rattle.utf8_own_characters.proofs.Places.{cluster_same, same_cluster}
use Rattle.utf8_own_characters.proofs.Tests.{and_second}
use Rattle.utf8_own_stage.specs.Points.{read_as}

-- of a letter without marks the letter
by_same : (x y : Bool) (o n : ℕ) → y ≡ true → (if x && not (x && y) then o else n) ≡ n
by_same true true o n e = refl
by_same true false o n e = absurd (let no : false ≡ true = e in cc)
by_same false y o n e = refl

pub single_read : (n : ℕ) → read_as (single n) ≡ n
single_read n = by_same (nat_lt n 128) (is_same (single n) (single n)) (code "_") n (cluster_same (single n) (single n) refl)

pub ascii_read : (c : Cluster) → is_ascii c ≡ true → read_as c ≡ c.letter
ascii_read c e = by_same (nat_lt c.letter 128) (is_same c (single c.letter)) (code "_") c.letter (and_second (nat_lt c.letter 128) (is_same c (single c.letter)) e)

-- and of one that is read as a character of ASCII, but not as the other, the whole
own_by : (c : Cluster) (x y : Bool) → nat_lt c.letter 128 ≡ x → is_same c (single c.letter) ≡ y
    → nat_lt (if x && not (x && y) then code "_" else c.letter) 128 ≡ true → ((if x && not (x && y) then code "_" else c.letter) == code "_") ≡ false
    → c ≡ single (if x && not (x && y) then code "_" else c.letter)
own_by c true true low same few other = same_cluster c (single c.letter) same
own_by c true false low same few other = absurd (let no : true ≡ false = other in cc)
own_by c false y low same few other = absurd (let no : false ≡ true = sym low ∙ few in cc)

pub own_whole : (c : Cluster) → nat_lt (read_as c) 128 ≡ true → (read_as c == code "_") ≡ false → c ≡ single (read_as c)
own_whole c few other = own_by c (nat_lt c.letter 128) (is_same c (single c.letter)) refl refl few other

-- a letter beyond ASCII is read as itself, and nothing else as one
beyond_by : (k n : ℕ) (x : Bool) → nat_lt (code "_") k ≡ true → nat_le k (if x then code "_" else n) ≡ true → nat_le k n ≡ true
beyond_by k n true low e = absurd (let first : code "_" ≤ k = grind (arith, nat_tests) in let no : nat_le k (code "_") ≡ false = grind (arith, nat_tests) in cc)
beyond_by k n false low e = e

pub beyond_read : (c : Cluster) → nat_le 0x2E80 (read_as c) ≡ true → nat_le 0x2E80 c.letter ≡ true
beyond_read c e = beyond_by 0x2E80 c.letter (nat_lt c.letter 128 && not (is_ascii c)) refl e
