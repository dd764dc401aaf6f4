-- The lines of a text that define something, one after the other: so much of one was read.
use Rattle.std.proofs.Common.{◌≡◌, ℕ, ◌+◌, ◌-◌, ◌<◌, ◌≤◌, ◌==◌, Bool, true, false, List, [], ◌∷◌, ◌++◌, length, get_or, take, drop, refl, sym, ap, ◌∙◌, arith, length-drop, eq-eqb, if◌then◌else◌}
use Prim.Native.Char.{code}
use Rattle.std.proofs.lemmas.Bool.Decides.{nat_tests}
use Rattle.std.proofs.lemmas.List.{at_drop_more, at_drop_all, get_or-drop, take_more}
use Rattle.tbl_drawing.specs.Lines.{definition, definition_at, definitions_in, ends_at, from_after}
use Rattle.tbl_drawing.proofs.Choices.{other}
use Rattle.tbl_drawing.proofs.Chosen.{not_same}

-- from a place up to another
abbrev pub read : ℕ → ℕ → List ℕ → List ℕ
read from at text = take (at - from) (drop from text)

-- what is left to define
abbrev pub left_in : ℕ → ℕ → List ℕ → List ℕ
left_in from at text = definitions_in (read from at text) (drop at text)

none_read : (at : ℕ) (text : List ℕ) → read at at text ≡ []
none_read at text =
    let none : at - at ≡ 0 = omega arith in
    ap (λ (k : ℕ). take k (drop at text)) none

more_read : (from at : ℕ) (text : List ℕ) → from ≤ at → at < length text
    → read from (at + 1) text ≡ read from at text ++ get_or text at 0 ∷ []
more_read from at text h lt =
    let next : at + 1 - from ≡ at - from + 1 = omega (arith, h) in
    let here : from + (at - from) ≡ at = omega (arith, h) in
    let len : length (drop from text) ≡ length text - from = length-drop from text in
    let inside : at - from < length (drop from text) = omega (arith, h, lt, len) in
    ap (λ (k : ℕ). take k (drop from text)) next
    ∙ take_more (drop from text) (at - from) 0 inside
    ∙ ap (λ (b : ℕ). read from at text ++ b ∷ []) (get_or-drop from text (at - from) 0 ∙ ap (λ (k : ℕ). get_or text k 0) here)

pub line_ends : (from at : ℕ) (text : List ℕ) → at < length text → get_or text at 0 ≡ code "\n"
    → left_in from at text ≡ definition (read from at text) ++ left_in (at + 1) (at + 1) text
line_ends from at text lt is =
    at_drop_more (definitions_in (read from at text)) text at 0 lt
    ∙ ap (λ (b : ℕ). definitions_in (read from at text) (b ∷ drop (at + 1) text)) is
    ∙ ap (λ (s : List ℕ). definition (read from at text) ++ definitions_in s (drop (at + 1) text)) (sym (none_read (at + 1) text))

pub line_goes_on : (from at : ℕ) (text : List ℕ) → from ≤ at → at < length text → (get_or text at 0 ≡ code "\n" → ⊥)
    → left_in from at text ≡ left_in from (at + 1) text
line_goes_on from at text h lt other_byte =
    at_drop_more (definitions_in (read from at text)) text at 0 lt
    ∙ other (get_or text at 0 == code "\n") (definition (read from at text) ++ definitions_in [] (drop (at + 1) text))
    (definitions_in (read from at text ++ get_or text at 0 ∷ []) (drop (at + 1) text)) (not_same (get_or text at 0) (code "\n") other_byte)
    ∙ ap (λ (s : List ℕ). definitions_in s (drop (at + 1) text)) (sym (more_read from at text h lt))

pub text_ends : (from at : ℕ) (text : List ℕ) → at ≡ length text → left_in from at text ≡ definition (read from (length text) text)
text_ends from at text end =
    at_drop_all (definitions_in (read from at text)) text at (omega (arith, end))
    ∙ ap (λ (k : ℕ). definition (read from k text)) end

differ : false ≡ true → ⊥
differ e = cc

pub line_step : (text : List ℕ) (from at : ℕ) → from ≤ at → at < length text
    → left_in from at text ≡ definition_at text from at ++ left_in (from_after text from at) (at + 1) text
line_step text from at h lt = split (ends_at text at) refl
  where
    split : (b : Bool) → ends_at text at ≡ b
        → left_in from at text ≡ (if b then definition (read from at text) else []) ++ left_in (if b then at + 1 else from) (at + 1) text
    split true e = line_ends from at text lt (grind (arith, nat_tests, e))
    split false e = line_goes_on from at text h lt (λ is. differ (sym e ∙ eq-eqb (get_or text at 0) (code "\n") is))

pub from_within : (text : List ℕ) (from at : ℕ) → from ≤ at → from_after text from at ≤ at + 1
from_within text from at h = split (ends_at text at)
  where
    split : (b : Bool) → (if b then at + 1 else from) ≤ at + 1
    split true = omega arith
    split false = omega (arith, h)
