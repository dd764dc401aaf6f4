-- Letters of three bytes, which are read at once, and how lines may be cut between them.
use lib.Utf8.{scalar}
use Rattle.std.specs.Prelude.{◌≡◌, ℕ, ◌≤◌, List, length, get_or, Bool, true, false, not, ◌&&◌, if◌then◌else◌, None, Some}
use Rattle.ucd_breaks.specs.LineBreak.{line_break}
use Rattle.ucd_breaks.specs.declared.LineBreak.{LineBreak}
use Rattle.ucd_breaks.specs.declared.LineBreak.TheVariants as class
use Rattle.utf8_own_characters.specs.declared.listening.Listener.{Listener}
use Rattle.utf8_own_characters.specs.declared.listening.Listened.{Listened}
use Rattle.utf8_own_characters.specs.Breaking.{may_break}
use Rattle.utf8_own_characters.specs.Cluster.{is_mark, is_wide, single}
use Rattle.utf8_own_characters.specs.Decoding.{none}
use Rattle.utf8_own_characters.specs.Listening.{begins_three, is_unseen, read}
use Rattle.utf8_own_stage.specs.declared.points.Line.{Line}
use Rattle.utf8_own_stage.specs.declared.points.Line.TheVariants as lines
use Rattle.utf8_own_stage.specs.declared.points.Place.{Place}
use Rattle.utf8_own_stage.specs.declared.points.Point.{Point}
use Rattle.utf8_own_stage.specs.declared.points.Point.TheVariants.{Nothing, Cut}
use Rattle.utf8_own_stage.specs.Points.{is_open, is_waiting}

-- the class of ideographs and most kana
abbrev pub is_ideographic : LineBreak → Bool
is_ideographic class.Ideographic = true
is_ideographic _ = false

-- one of two columns: between two of these a line may be cut
abbrev pub is_common : ℕ → Bool
is_common c = is_ideographic (line_break c) && is_wide (single c)

-- what goes out between two letters
abbrev pub cut_between : ℕ → ℕ → Point
cut_between a b = if may_break a b then Cut else Nothing

-- a letter is held, on which marks may come
abbrev pub holding : ℕ → Listener
holding c = record { part = none; held = Some (single c); is_plain = true }

abbrev pub held : Listener → ℕ → Listened
held l c = record { listener = holding c; done = l.held; byte = None }

-- a character of this number, which is no mark and shows something
pub record IsLetter (code c : ℕ) : Type 0 where
  pub same : c ≡ code
  pub scalar : scalar code ≡ true
  pub beyond : 128 ≤ code
  pub seen : is_unseen code ≡ false
  pub unmarked : is_mark code ≡ false

-- a text begins with three bytes that are this letter, whatever stands before it
pub record Begins (bytes : List ℕ) (c : ℕ) : Type 0 where
  pub long : 3 ≤ length bytes
  pub three : begins_three bytes ≡ true
  pub beyond : 128 ≤ c
  pub letter : (l : Listener) → read (read (read l (get_or bytes 0 0)).listener (get_or bytes 1 0)).listener (get_or bytes 2 0) ≡ held l c

-- ---- where each character is printed as it comes

abbrev pub is_printed : Line → Bool
is_printed lines.Text = true
is_printed lines.Rest = true
is_printed line = false

-- no escape or format of a table is read, and nothing waits
abbrev pub is_quiet : Place → Bool
is_quiet p = is_printed p.line && is_open p && not (is_waiting p.waits)
