-- The state after many bytes.
use Rattle.std.proofs.Common.{◌≡◌, ℕ, ◌≤◌, List, [], ◌∷◌, ◌++◌, refl, sym, ◌∙◌, ap, append_assoc}
use Rattle.mdoc_layout.specs.declared.page.Scan.TheVariants as scans
use Rattle.mdoc_converter.specs.Reading.{State, heard}
use Rattle.mdoc_converter.specs.Saying.{parts_at, parts_of, state_after, words_of}
use Rattle.mdoc_converter.proofs.Escapes.{heard-pending}
use Rattle.mdoc_converter.proofs.Offering.{Takes, takes-state}
use Rattle.mdoc_converter.proofs.Saying.{words_of-append}

abbrev pub after : State → List ℕ → State
after s bs = state_after s bs

pub after-append : (s : State) (xs ys : List ℕ) → after s (xs ++ ys) ≡ after (after s xs) ys
after-append s [] ys = refl
after-append s (x ∷ xs) ys = after-append (heard x s).state xs ys

pub after-pending : (s : State) (bs : List ℕ) → (after s bs).pending ≡ s.pending
after-pending s [] = refl
after-pending s (b ∷ bs) = after-pending (heard b s).state bs ∙ heard-pending b s

pub next-state : (b : ℕ) (bs : List ℕ) (s t : State) (k : ℕ) (xs : List ℕ) → k ≤ 16 → Takes b s t k xs → after s (b ∷ bs) ≡ after t bs
next-state b bs s t k xs l p = ap (λ (u : State). after u bs) (takes-state b s t k xs l p)

pub words-append : (s : State) (xs ys : List ℕ) → words_of (parts_of s (xs ++ ys)) ≡ words_of (parts_of s xs) ++ words_of (parts_of (after s xs) ys)
words-append s [] ys = refl
words-append s (x ∷ xs) ys =
    let t = (heard x s).state in
    let one = words_of (parts_at x s) in
    let rest = words_of (parts_of (after t xs) ys) in
    words_of-append (parts_at x s) (parts_of t (xs ++ ys))
    ∙ ap (λ (zs : List ℕ). one ++ zs) (words-append t xs ys)
    ∙ sym (append_assoc one (words_of (parts_of t xs)) rest)
    ∙ ap (λ (zs : List ℕ). zs ++ rest) (sym (words_of-append (parts_at x s) (parts_of t xs)))

-- a line begins, and no marks are held back
pub record Fresh (s : State) : Type 0 where
  pub scan_is : s.page.scan ≡ scans.Start
  pub marks_are : s.page.marks ≡ []
