-- Bytes, or strokes, that a test chooses.
use Rattle.std.proofs.Common.{◌≡◌, ℕ, Bool, true, false, ◌==◌, ◌&&◌, List, [], ◌∷◌, arith, if◌then◌else◌, refl}
use Rattle.std.proofs.lemmas.Bool.Decides.{nat_tests}
use Rattle.tbl_drawing.specs.Pens.{Stroke, Bytes}
use Rattle.tbl_drawing.specs.Tapes.{Tape, Draws}
use Rattle.tbl_drawing.proofs.Tapes.{draws_no_bytes, draws_nothing}

pub draws_chosen : {a b : Tape} {xs : List ℕ} (t : Bool) (ys : List ℕ) → Draws a b (Bytes xs ∷ []) → t ≡ true
    → Draws a b (Bytes (if t then xs else ys) ∷ [])
draws_chosen true ys d is = d
draws_chosen false ys d is = absurd (cc)

pub draws_other : {a b : Tape} {ys : List ℕ} (t : Bool) (xs : List ℕ) → Draws a b (Bytes ys ∷ []) → t ≡ false
    → Draws a b (Bytes (if t then xs else ys) ∷ [])
draws_other false xs d is = d
draws_other true xs d is = absurd (cc)

pub none_asked : {a : Tape} (t : Bool) (xs : List ℕ) → t ≡ false → Draws a a (Bytes (if t then xs else []) ∷ [])
none_asked false xs is = draws_no_bytes _
none_asked true xs is = absurd (cc)

pub strokes_chosen : {a b : Tape} {ss : List Stroke} (t : Bool) (ts : List Stroke) → Draws a b ss → t ≡ true
    → Draws a b (if t then ss else ts)
strokes_chosen true ts d is = d
strokes_chosen false ts d is = absurd (cc)

pub strokes_other : {a b : Tape} {ts : List Stroke} (t : Bool) (ss : List Stroke) → Draws a b ts → t ≡ false
    → Draws a b (if t then ss else ts)
strokes_other false ss d is = d
strokes_other true ss d is = absurd (cc)

pub nothing_chosen : {a : Tape} (t : Bool) (ss : List Stroke) → t ≡ false → Draws a a (if t then ss else [])
nothing_chosen false ss is = draws_nothing _
nothing_chosen true ss is = absurd (cc)

pub first_fails : (s t : Bool) → s ≡ false → (s && t) ≡ false
first_fails false t is = refl
first_fails true t is = absurd (cc)

pub last_fails : (s t : Bool) → t ≡ false → (s && t) ≡ false
last_fails false t is = refl
last_fails true t is = is

pub not_same : (a b : ℕ) → (a ≡ b → ⊥) → (a == b) ≡ false
not_same a b other = grind (arith, nat_tests)
