-- A word is given: in so many steps all of it was said, or is held back.
use Rattle.std.proofs.Common.{◌≡◌, ℕ, ◌≤◌, ◌+◌, List, ◌++◌, Bool, true, false, not, ◌&&◌, if◌then◌else◌, ◌∙◌, ap, append_assoc, arith}
use Rattle.mdoc_layout.specs.declared.macros.Macro.{Macro}
use Rattle.mdoc_layout.specs.declared.page.Scan.{Scan}
use Rattle.mdoc_layout.specs.declared.page.Scan.TheVariants as scans
use Rattle.mdoc_words.specs.Options.{option, reads_for}
use Rattle.mdoc_converter.specs.Reading.{State}
use Rattle.mdoc_converter.specs.Scanning.{offer, offer_at, offer_whole, offer_whole_at}
use Rattle.mdoc_converter.specs.WrittenLines.{prints_otherwise}
use Rattle.mdoc_words.specs.Words.{ends_long, heading_calls, parsed}
use Rattle.mdoc_converter.proofs.Escapes.{and_right, is_not}
use Rattle.mdoc_converter.proofs.Offering.{Leads, then_leads}
use Rattle.mdoc_converter.proofs.Outcomes.{takes_plain}
use Rattle.mdoc_converter.proofs.Stepping.{At, Head, Stepped}

-- ---- steps after one another

pub then_stepped : (m : Head) (b : ℕ) (s t : State) (j k : ℕ) (xs ys : List ℕ) (scan : Scan) (word marks : List ℕ)
    → Leads b s t j xs → Stepped m b t k ys scan word marks → Stepped m b s (j + k) (xs ++ ys) scan word marks
then_stepped m b s t j k xs ys scan word marks p q =
    record { next = q.next; leads = then_leads b s t q.next j k xs ys p q.leads; at = q.at }

-- a word is whole: between words again, all of these bytes were said or are held back
pub record Whole (m : Head) (b : ℕ) (s : State) (k : ℕ) (all : List ℕ) : Type 0 where
  pub steps : ℕ
  pub few : steps ≤ k
  pub xs : List ℕ
  pub word : List ℕ
  pub marks : List ℕ
  pub step : Stepped m b s steps xs scans.Between word marks
  pub total : xs ++ marks ≡ all

pub whole_of : (m : Head) (b : ℕ) (s : State) (j k : ℕ) (xs word marks all : List ℕ) → j ≤ k → Stepped m b s j xs scans.Between word marks
    → xs ++ marks ≡ all → Whole m b s k all
whole_of m b s j k xs word marks all few step total =
    record { steps = j; few = few; xs = xs; word = word; marks = marks; step = step; total = total }

pub one_more : (i k : ℕ) → i ≤ k → 1 + i ≤ 1 + k
one_more i k l = omega arith

-- one step before a word is whole
pub whole_after : (m : Head) (b : ℕ) (s t : State) (k : ℕ) (xs ys all : List ℕ) → Leads b s t 1 xs → Whole m b t k ys → xs ++ ys ≡ all
    → Whole m b s (1 + k) all
whole_after m b s t k xs ys all p w e = record {
  steps = 1 + w.steps;
  few = one_more w.steps k w.few;
  xs = xs ++ w.xs;
  word = w.word;
  marks = w.marks;
  step = then_stepped m b s t 1 w.steps xs w.xs scans.Between w.word w.marks p w.step;
  total = append_assoc xs w.xs w.marks ∙ ap (λ (zs : List ℕ). xs ++ zs) w.total ∙ e;
}

pub whole_within : (m : Head) (b : ℕ) (s : State) (j k : ℕ) (all : List ℕ) → j ≤ k → Whole m b s j all → Whole m b s k all
whole_within m b s j k all l w =
    record { steps = w.steps; few = (let few = w.few in omega arith); xs = w.xs; word = w.word; marks = w.marks; step = w.step; total = w.total }

-- ---- a word is given

pub plain_reads : (m : Macro) → takes_plain m ≡ true → reads_for m ≡ false
unfolding takes_plain
plain_reads m h = is_not (reads_for m) (and_right (not (prints_otherwise m)) (not (reads_for m)) h)

pub given_offered : (head : Head) (b : ℕ) (s : State) (word marks : List ℕ) → At head s (scans.Given false) word marks → offer b s.page ≡ parsed false s.page
unfolding offer offer_whole
given_offered head b s word marks at =
    let p = s.page in
    ap (λ (sc : Scan). offer_at sc b p) at.scan_is ∙ ap (λ (sc : Scan). offer_whole_at sc b p) at.scan_is
    ∙ ap (λ (t : Bool). if t then ends_long p else if reads_for p.call.taker && not (heading_calls false p) then option p else parsed false p) at.going
    ∙ ap (λ (t : Bool). if t && not (heading_calls false p) then option p else parsed false p) (plain_reads p.call.taker at.fits)
