-- Characters of ASCII that are printed as they come.
use Prim.Native.Char.{code}
use Rattle.std.specs.Prelude.{ℕ, Bool, true, not, ◌==◌, ◌&&◌, nat_lt, Option, None, Some, if◌then◌else◌}
use Rattle.utf8_own_characters.specs.declared.cluster.Cluster.{Cluster}
use Rattle.utf8_own_characters.specs.declared.listening.Listener.{Listener}
use Rattle.utf8_own_characters.specs.Cluster.{is_ascii, single}
use Rattle.utf8_own_stage.specs.declared.points.Place.{Place}
use Rattle.utf8_own_stage.specs.Letters.{is_quiet}
use Rattle.utf8_own_stage.specs.Points.{newline}

-- no newline and no backslash
abbrev pub is_plain : ℕ → Bool
is_plain b = nat_lt b 128 && not (b == newline) && not (b == code "\\")

abbrev pub is_plain_cluster : Cluster → Bool
is_plain_cluster c = is_ascii c && not (c.letter == newline) && not (c.letter == code "\\")

abbrev pub holds_plain : Option Cluster → Bool
holds_plain None = true
holds_plain (Some c) = is_plain_cluster c

-- what is held is one, and so is what is printed before it
abbrev pub is_ready_for : Option Cluster → Place → Bool
is_ready_for held p = is_quiet p && nat_lt p.before 128 && holds_plain held

abbrev pub is_ready : Listener → Place → Bool
is_ready l p = is_ready_for l.held p

-- a byte that is held, or not
abbrev pub unheld : ℕ → Bool → Option ℕ
unheld b holds = if holds then None else Some b

abbrev pub held_of : ℕ → Bool → Option Cluster
held_of b holds = if holds then Some (single b) else None
