-- In which way a row is read back.
use Rattle.std.specs.Prelude.{◌≡◌, ℕ, ◌≤◌, List, [], ◌∷◌, ◌++◌, length, Bool, true, false, sum_by, flat_map, Option, None}
use Rattle.utf8_own_characters.specs.declared.cluster.Cluster.{Cluster}
use Rattle.utf8_own_characters.specs.Cluster.{columns}
use Rattle.utf8_own_characters.specs.Table.{Characters, Good, bytes, covers, is_lead, is_trail}
use Rattle.utf8_own_characters.specs.Reading.{decode}

-- the bytes of clusters are read back as these clusters, whatever comes after
abbrev pub Inverse : Type 0
Inverse = (t : Characters) (cs : List Cluster) (rest : List ℕ) → Good t → covers t cs ≡ true
    → decode t (flat_map (bytes t) cs ++ rest) ≡ cs ++ decode t rest

abbrev pub InverseWhole : Type 0
InverseWhole = (t : Characters) (cs : List Cluster) → Good t → covers t cs ≡ true → decode t (flat_map (bytes t) cs) ≡ cs

-- no two texts have the same bytes
abbrev pub OneWay : Type 0
OneWay = (t : Characters) (cs ds : List Cluster) → Good t → covers t cs ≡ true → covers t ds ≡ true
    → flat_map (bytes t) cs ≡ flat_map (bytes t) ds → cs ≡ ds

-- a cluster has a byte for each of its columns
abbrev pub ColumnsAreBytes : Type 0
ColumnsAreBytes = (t : Characters) (c : Cluster) → Good t → covers t (c ∷ []) ≡ true → length (bytes t c) ≡ columns c

-- however a row is laid over, it keeps its columns: one for each byte
abbrev pub ColumnsStay : Type 0
ColumnsStay = (t : Characters) (row : List ℕ) → Good t → sum_by columns (decode t row) ≡ length row

-- no byte is a lead and a trail, and neither is ASCII
pub record Apart (t : Characters) (b : ℕ) : Type 0 where
  pub no_trail : is_lead t b ≡ true → is_trail t b ≡ false
  pub no_lead : is_trail t b ≡ true → is_lead t b ≡ false
  pub lead_high : is_lead t b ≡ true → 128 ≤ b
  pub trail_high : is_trail t b ≡ true → 128 ≤ b

abbrev pub HalvesAreApart : Type 0
HalvesAreApart = (t : Characters) (b : ℕ) → Good t → Apart t b
