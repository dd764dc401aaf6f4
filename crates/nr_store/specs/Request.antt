-- The requests of the language under their names.
use Rattle.std.specs.Prelude.{ℕ, List, [], ◌∷◌}
use Rattle.nr_symbol_tables.specs.Table.{Named, put}
use Rattle.nr_store.specs.declared.request.Request.{Request}
use Rattle.nr_store.specs.declared.request.TheConstants.{REQUESTS}
use Rattle.nr_store.specs.declared.named.Sense.{Sense}
use Rattle.nr_store.specs.declared.named.Sense.TheVariants as senses
use Rattle.nr_store.specs.Store.{Means, Act}

-- the name in an entry of the table
abbrev pub name_of : (ℕ × ℕ × Request) → List ℕ
name_of e = e.0 ∷ (e.1 ∷ [])

-- these names with these requests, and what had names before
abbrev pub with_acts : List (ℕ × ℕ × Request) → List (Named Means) → List (Named Means)
with_acts [] ns = ns
with_acts (e ∷ es) ns = with_acts es (put (name_of e) (Act e.2) ns)

-- the names of the requests, and nothing else
abbrev pub request_names : List (Named Means)
request_names = with_acts REQUESTS []

-- the same, as the name list keeps them
abbrev pub with_senses : List (ℕ × ℕ × Request) → List (Named Sense) → List (Named Sense)
with_senses [] ns = ns
with_senses (e ∷ es) ns = with_senses es (put (name_of e) (senses.Request e.2) ns)
