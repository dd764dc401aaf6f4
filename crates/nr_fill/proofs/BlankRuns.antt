-- Blanks of a text, read one by one and at once.
use Rattle.std.proofs.Common.{◌≡◌, ℕ, zero, suc, ◌+◌, ◌<◌, List, [], ◌∷◌, ◌++◌, replicate, Bool, false, refl, ap, ◌∙◌, append_assoc, arith}
use Rattle.nr_vectors.specs.Cell.{blank}
use Rattle.nr_vectors.specs.declared.cell.Cell.{Cell}
use Rattle.nr_settings.specs.declared.indents.Margins.{Margins}
use Rattle.nr_fill.specs.declared.stops.Pending.{Pending}
use Rattle.nr_fill.specs.declared.stops.Pending.TheVariants.{Nothing, AtPoint, ForStop}
use Rattle.nr_fill.specs.Piece.{Collected, Word, add_blank, add_blank_to, ended, ended_at, in_word, with_word, word_or_new}
use Rattle.nr_fill.specs.Runs.{add_blanks, blanks_after}
use Rattle.nr_fill.proofs.RunLemmas.{HasNoPoint, at_word, ended_at-none, with_word-at_word}

-- no break point waits once the piece that one ended is
no_point_ended : (p : Pending) (w : Word) → w.pending ≡ p → HasNoPoint (ended_at p w).pending
no_point_ended Nothing w is = rw is refl
no_point_ended (AtPoint point) w is = refl
no_point_ended (ForStop f) w is = rw is refl

-- one blank more
blank_more : (m : Margins) (c : Collected) (w : Word) (sentence : Bool) → HasNoPoint w.pending → add_blank m (at_word c w sentence) ≡ at_word c (add_blank_to w) false
blank_more m c w sentence none =
    ap (λ (k : Collected). record (in_word add_blank_to (in_word ended k)) { sentence = false }) (with_word-at_word m c w sentence)
    ∙ ap (λ (v : Word). at_word c (add_blank_to v) false) (ended_at-none w.pending w none)

-- one after others
after_more : (n : ℕ) (w : Word) → blanks_after n (add_blank_to w) ≡ blanks_after (suc n) w
after_more n w =
    let count : w.blanks + 1 + n ≡ w.blanks + suc n = omega arith in
    ap (λ (cells : List Cell). record w { last = record w.last { cells = cells }; blanks = w.blanks + 1 + n }) (append_assoc w.last.cells (blank ∷ []) (replicate n blank))
    ∙ ap (λ k. record w { last = record w.last { cells = w.last.cells ++ replicate (suc n) blank }; blanks = k }) count

blanks_more : (m : Margins) (n : ℕ) (c : Collected) (w : Word) (sentence : Bool) → HasNoPoint w.pending → add_blanks m (suc n) (at_word c w sentence) ≡ at_word c (blanks_after (suc n) w) false
blanks_more m zero c w sentence none = blank_more m c w sentence none
blanks_more m (suc n) c w sentence none =
    ap (add_blanks m (suc n)) (blank_more m c w sentence none) ∙ blanks_more m n c (add_blank_to w) false none
    ∙ ap (λ (v : Word). at_word c v false) (after_more (suc n) w)

-- all at once
pub add_blanks-run : (m : Margins) (n : ℕ) (c : Collected) → 0 < n → add_blanks m n c ≡ record (in_word (blanks_after n) (in_word ended (with_word m c))) { sentence = false }
add_blanks-run m zero c some = absurd (omega (arith, some))
add_blanks-run m (suc zero) c some = refl
add_blanks-run m (suc (suc n)) c some =
    let w = word_or_new c.gap c.word in
    blanks_more m n (with_word m c) (add_blank_to (ended w)) false (no_point_ended w.pending w refl)
    ∙ ap (λ (v : Word). at_word (with_word m c) v false) (after_more (suc n) (ended w))
