-- Names in a row, each linked to the last of its kind before it.
use Rattle.std.specs.Prelude.{◌≡◌, ℕ, ◌+◌, ◌-◌, ◌*◌, ◌%◌, ◌<◌, ◌≤◌, ◌==◌, nat_lt, if◌then◌else◌, List, [], ◌∷◌, length, map, slice_index_or, slice_set, None}
use Rattle.std.specs.List.{fold}
use Rattle.nr_units.specs.Name.{kind_of_name}
use Rattle.nr_symbol_tables.specs.Table.{Named, find, put}
use Rattle.nr_symbol_tables.specs.declared.table.Entry.{Entry}

-- what a table holds, and how many names it has room for
pub record SymbolTable (V : Type 0) : Type 0 where
  pub entries : List (Named V)
  pub capacity : ℕ

-- what an entry stands for
abbrev pub named : {V : Type 0} → Entry V → Named V
named e = record { name = e.name; value = e.value }

-- the same names with their values, in the order of the names
abbrev pub in_order : {X : Type 0} → List (Named X) → List (Named X)
in_order [] = []
in_order (n ∷ ns) = put n.name n.value (in_order ns)

-- no two names are one
abbrev pub AreApart : {X : Type 0} → List (Named X) → Type 0
AreApart [] = Unit {0}
AreApart (n ∷ ns) = (find n.name ns ≡ None) × AreApart ns

-- the kind of a name, of 512: where it has more than two bytes, by all of them
abbrev pub long_kind : List ℕ → ℕ
long_kind bytes = fold (λ k b. (k * 31 + b) % 512) 0 bytes

abbrev pub kind : List ℕ → ℕ
kind name = if nat_lt 2 (length name) then long_kind name else kind_of_name name

-- the names, their kinds, and what each is linked to
abbrev pub names : {X : Type 0} → List (Named X) → List (List ℕ)
names ns = map (λ (n : Named _). n.name) ns

abbrev pub kinds : {X : Type 0} → List (Named X) → List ℕ
kinds ns = map (λ (n : Named _). kind n.name) ns

abbrev pub earliers : {V : Type 0} → List (Entry V) → List ℕ
earliers row = map (λ (e : Entry _). e.earlier) row

abbrev pub place_in : List ℕ → ℕ → ℕ
place_in ps k = slice_index_or ps k 0

abbrev pub name_in : List (List ℕ) → ℕ → List ℕ
name_in ns k = slice_index_or ns k []

-- where a name stands, counted from 1, or 0 where it is not there
pub record IsPlace (name : List ℕ) (ns : List (List ℕ)) (at : ℕ) : Type 0 where
  pub within : at ≤ length ns
  pub is : 0 < at → name_in ns (at - 1) ≡ name
  pub none : at ≡ 0 → (k : ℕ) → k < length ns → name_in ns k ≡ name → ⊥

-- the last entry of a kind before a place, counted from 1, or 0 where there is none
pub record IsLastOf (kinds : List ℕ) (c k at : ℕ) : Type 0 where
  pub within : at ≤ k
  pub is : 0 < at → place_in kinds (at - 1) ≡ c
  pub last : (j : ℕ) → at ≤ j → j < k → place_in kinds j ≡ c → ⊥

-- each kind has its last entry, and each entry the last of its kind before it
pub record AreChains (kinds earlier latest : List ℕ) : Type 0 where
  pub first : (c : ℕ) → c < 512 → IsLastOf kinds c (length kinds) (place_in latest c)
  pub next : (k c : ℕ) → k < length kinds → place_in kinds k ≡ c → c < 512
      → IsLastOf kinds c k (place_in earlier k)

-- the chain of a kind comes to a place or passes it: from an entry after that place, counted from 1, or from its beginning, which is 0
pub record IsLink (kinds earlier latest : List ℕ) (c p over to : ℕ) : Type 0 where
  pub begins : over ≡ 0 → place_in latest c ≡ to
  pub passes : 0 < over → p + 1 < over
  pub within : over ≤ length kinds
  pub of_kind : 0 < over → place_in kinds (over - 1) ≡ c
  pub goes : 0 < over → place_in earlier (over - 1) ≡ to
  pub below : to ≤ p + 1

-- the links after the chain of a kind is led elsewhere
abbrev pub led : ℕ → ℕ → List ℕ → List ℕ
led over to es = if over == 0 then es else slice_set es (over - 1) to

abbrev pub begun : ℕ → ℕ → ℕ → List ℕ → List ℕ
begun over c to ls = if over == 0 then slice_set ls c to else ls

pub record IsLed {V : Type 0} (c over to : ℕ) (row new : List (Entry V))
    (latest later : List ℕ) : Type 0 where
  pub names : map named new ≡ map named row
  pub links : earliers new ≡ led over to (earliers row)
  pub begins : later ≡ begun over c to latest

-- what is always true of a table's entries
pub record IsLinked {V : Type 0} (row : List (Entry V)) (latest : List ℕ) : Type 0 where
  pub chains : AreChains (kinds (map named row)) (earliers row) latest
  pub apart : AreApart (map named row)
