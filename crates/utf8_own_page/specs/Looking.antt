-- What a page prints, and how often.
use Rattle.std.specs.Prelude.{◌≡◌, ℕ, ◌<◌, List, [], ◌∷◌, ◌++◌, length, Bool, true, false, Option, None, Some}
use Rattle.std.specs.Prelude.{⊤}
use Rattle.nr_units.specs.Source.{Never, Supply}
use Rattle.utf8_own_characters.specs.declared.counting.Count.{Count}
use Rattle.utf8_own_characters.specs.declared.listening.Listener.{Listener}
use Rattle.utf8_own_characters.specs.Cluster.{single}
use Rattle.utf8_own_characters.specs.Counting.{counted_within}
use Rattle.utf8_own_characters.specs.Listening.{after, done_in, first}
use Rattle.utf8_own_characters.specs.Looking.{noted, seen}

-- what frames are drawn with: `─│┌┬┐├┼┤└┴┘`
abbrev pub frames : List ℕ
frames = 9472 ∷ 9474 ∷ 9484 ∷ 9516 ∷ 9488 ∷ 9500 ∷ 9532 ∷ 9508 ∷ 9492 ∷ 9524 ∷ 9496 ∷ []

unfoldable pub with_all : ℕ → List Count → List ℕ → List Count
with_all room xs [] = xs
with_all room xs (c ∷ cs) = with_all room (counted_within room xs (single c)) cs

abbrev pub framed : ℕ → Bool → List Count
framed room true = with_all room [] frames
framed room false = []

-- THE COUNTS of a page: of its letters with their marks, where there is room for so many
abbrev pub counts_of : ℕ → Bool → List ℕ → List Count
counts_of room with_frames text = noted room (seen room (framed room with_frames) (done_in first text)) (after first text).held

-- ---- some of the bytes that are to come are looked at

-- these were, and come no more
pub record Looked (room : ℕ) (q t : Supply) (l m : Listener) (xs ys : List Count) : Type 0 where
  pub bytes : List ℕ
  pub some : 0 < length bytes
  pub came : q.bytes ≡ bytes ++ t.bytes
  pub faults : t.faults ≡ Never
  pub listener : m ≡ after l bytes
  pub counts : ys ≡ seen room xs (done_in l bytes)

-- there were none
pub record Ended (q : Supply) (l m : Listener) (xs ys : List Count) : Type 0 where
  pub none : q.bytes ≡ []
  pub listener : m ≡ l
  pub counts : ys ≡ xs

abbrev pub LookedOrEnded : ℕ → Supply → Option Supply → Listener → Listener → List Count → List Count → Bool → Type 0
LookedOrEnded room q new l m xs ys true = (t : Supply) × (new ≡ Some t) × Looked room q t l m xs ys
LookedOrEnded room q new l m xs ys false = Ended q l m xs ys

-- the same of a source that never fails, where it is known
abbrev pub LooksOn : ℕ → Option Supply → Option Supply → Listener → Listener → List Count → List Count → Bool → Type 0
LooksOn room None new l m xs ys going = ⊤
LooksOn room (Some q) new l m xs ys going = q.faults ≡ Never → LookedOrEnded room q new l m xs ys going
