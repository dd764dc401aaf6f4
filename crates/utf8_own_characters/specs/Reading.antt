-- How the bytes of a row are read back, one after the other.
use Rattle.std.specs.Prelude.{ℕ, ◌+◌, ◌-◌, ◌*◌, List, [], ◌∷◌, ◌++◌, replicate, nat_lt, slice_get, Option, None, Some, if◌then◌else◌}
use Rattle.utf8_own_characters.specs.declared.cluster.Cluster.{Cluster}
use Rattle.utf8_own_characters.specs.declared.reading.Read.{Read}
use Rattle.utf8_own_characters.specs.Cluster.{single, blank}
use Rattle.utf8_own_characters.specs.Table.{Characters, first_lead, first_trail, trails, is_lead, is_trail, is_none}

-- a cluster comes; no byte waits
abbrev pub shows : Cluster → Read
shows c = record { blanks = 0; cluster = Some c; held = None }

-- blanks stand for what is no character
abbrev pub strays : ℕ → Read
strays n = record { blanks = n; cluster = None; held = None }

abbrev pub waits : ℕ → Read
waits lead = record { blanks = 0; cluster = None; held = Some lead }

abbrev pub shows_cell : Option Cluster → Read
shows_cell None = strays 1
shows_cell (Some c) = if is_none c then strays 1 else shows c

-- a byte that is no half of a pair
abbrev pub alone : Characters → ℕ → Read
alone t b = if nat_lt b 128 then shows (single b) else shows_cell (slice_get t.narrow (b - 128))

-- a byte before which none waits
abbrev pub begun : Characters → ℕ → Read
begun t b = if is_lead t b then waits b else alone t b

-- a lead and its trail
abbrev pub shows_pair : Option Cluster → Read
shows_pair None = strays 2
shows_pair (Some c) = shows c

abbrev pub both : Characters → ℕ → ℕ → Read
both t lead trail = shows_pair (slice_get t.wide ((lead - first_lead t) * trails t + (trail - first_trail t)))

-- where a lead waits that is half laid over, a blank keeps its column
abbrev pub after_blank : Read → Read
after_blank r = record r { blanks = r.blanks + 1 }

abbrev pub read : Characters → Option ℕ → ℕ → Read
read t None b = begun t b
read t (Some lead) b = if is_trail t b then both t lead b else after_blank (begun t b)

abbrev pub list_of : Option Cluster → List Cluster
list_of None = []
list_of (Some c) = c ∷ []

abbrev pub text_of : Read → List Cluster
text_of r = replicate r.blanks blank ++ list_of r.cluster

abbrev pub end_of : Option ℕ → List Cluster
end_of None = []
end_of (Some lead) = blank ∷ []

-- the clusters of a row, where a lead may wait
abbrev pub decode_from : Characters → Option ℕ → List ℕ → List Cluster
decode_from t held [] = end_of held
decode_from t held (b ∷ bs) = text_of (read t held b) ++ decode_from t (read t held b).held bs

abbrev pub decode : Characters → List ℕ → List Cluster
decode t = decode_from t None

-- how many blanks stand in it for what is no character
abbrev pub strays_from : Characters → Option ℕ → List ℕ → ℕ
strays_from t None [] = 0
strays_from t (Some lead) [] = 1
strays_from t held (b ∷ bs) = (read t held b).blanks + strays_from t (read t held b).held bs
