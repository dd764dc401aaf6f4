-- What came of a run is the definition's text, and what it counted the definition's number.
use Rattle.std.proofs.Common.{◌≡◌, ℕ, ◌+◌, ◌*◌, ◌≤◌, List, length, Bool, true, false, Option, refl, sym, subst, arith}
use Rattle.std.specs.Io.KnownBytes.{Appends}
use Rattle.nr_units.specs.Sink.{AppendsPrefix}
use Rattle.nr_units.specs.Source.{Supply}
use Rattle.document_stages.specs.Running as runs
use Rattle.document_stages.specs.Running.{at_most}
use Rattle.document_stages.specs.declared.running.RunEnd.{RunEnd}
use Rattle.document_stages.specs.declared.running.RunEnd.TheVariants.{Done, ReadFault, TooLong, WriteFault}
use Rattle.document_stages.proofs.Runs.{Ran-counted, Ran-known}
use Rattle.utf8_characters.specs.declared.table.FixedTable.{FixedTable}
use Rattle.utf8_converter.specs.Cells.{strays_of}
use Rattle.utf8_converter.specs.Reading.{first_reader}
use Rattle.utf8_converter.specs.Running.{Ran, drops, says}
use Rattle.utf8_converter.specs.Staged.{counted, said, strays_said}
use Rattle.utf8_converter.specs.Text.{IsText}
use Rattle.utf8_converter.proofs.Kept.{converted-fed, strays-fed}
use Rattle.utf8_converter.proofs.Text.{converted-few, converted-lines, converted-text, fed-text}

-- ---- what goes out

said-says : (t : FixedTable) (e : Bool) (ends : Bool) (bytes : List ℕ) → said (first_reader t e) ends bytes ≡ says t e ends bytes
said-says t e true bytes = sym (converted-fed t e bytes)
said-says t e false bytes = refl

-- both agree on what goes out
Ran-says : (a b : Bool → List ℕ → List ℕ) (counts : Bool → List ℕ → ℕ) (wants : ℕ) (first last : Option Supply) (held new : Option (List ℕ)) (n : ℕ)
    → ((ends : Bool) → (bytes : List ℕ) → a ends bytes ≡ b ends bytes)
    → (outcome : RunEnd) → runs.Ran a counts wants first last held new n outcome → runs.Ran b counts wants first last held new n outcome
Ran-says a b counts wants first last held new n same Done ran = record {
  bytes = ran.bytes;
  came = ran.came;
  ends = ran.ends;
  short = ran.short;
  went_out = subst (λ (xs : List ℕ). Appends held new xs) (same true ran.bytes) ran.went_out;
  few = subst (λ (xs : List ℕ). length xs ≤ wants * (length ran.bytes + 1)) (same true ran.bytes) ran.few;
  counted = ran.counted;
}
Ran-says a b counts wants first last held new n same (ReadFault at) ran = record {
  bytes = ran.bytes;
  came = ran.came;
  at_is = ran.at_is;
  short = ran.short;
  went_out = subst (λ (xs : List ℕ). Appends held new xs) (same false ran.bytes) ran.went_out;
  counted = ran.counted;
}
Ran-says a b counts wants first last held new n same TooLong ran = record {
  bytes = ran.bytes;
  came = ran.came;
  at_is = ran.at_is;
  short = ran.short;
  went_out = subst (λ (xs : List ℕ). Appends held new xs) (same false ran.bytes) ran.went_out;
  counted = ran.counted;
}
Ran-says a b counts wants first last held new n same WriteFault ran = record {
  bytes = ran.bytes;
  came = ran.came;
  short = ran.short;
  went_out = subst (λ (xs : List ℕ). AppendsPrefix held new xs) (same true ran.bytes) ran.went_out;
  ended = ran.ended;
  counted = ran.counted;
}

-- ---- how many bytes are dropped

few_strays : (t : FixedTable) (bytes : List ℕ) → strays_of t bytes ≤ length bytes
few_strays t bytes = omega arith

drops-few : (t : FixedTable) (e : Bool) (ends : Bool) (bytes : List ℕ) → drops t e ends bytes ≤ length bytes
drops-few t e true bytes = few_strays t bytes
drops-few t e false bytes = let all = strays-fed t e bytes in let few = few_strays t bytes in omega (arith, all, few)

said-drops : (t : FixedTable) (e : Bool) (ends : Bool) (bytes : List ℕ) → strays_said (first_reader t e) ends bytes ≡ drops t e ends bytes
said-drops t e true bytes = sym (strays-fed t e bytes)
said-drops t e false bytes = refl

below-most : (n m k : ℕ) → n ≡ m → m ≤ k → k ≤ 1099511627776 → at_most (0 + n) ≡ m
below-most n m k e l s = omega (arith, e, l, s)

-- ---- a run

text_of : (t : FixedTable) (e : Bool) (ends : Bool) (bytes : List ℕ) → IsText e (says t e ends bytes)
text_of t e true bytes = converted-text t e bytes
text_of t e false bytes = fed-text t e bytes

pub ran-of : (t : FixedTable) (e : Bool) (a : Bool → List ℕ → List ℕ) (counts : Bool → List ℕ → ℕ) (wants : ℕ) (first last : Option Supply) (held new : Option (List ℕ))
    (n k : ℕ) (outcome : RunEnd) → a ≡ said (first_reader t e) → counts ≡ counted 0 (first_reader t e) → wants ≡ 1536 → k ≡ n
    → runs.Ran a counts wants first last held new n outcome → Ran t e first last held new k outcome
ran-of t e a counts wants first last held new n k outcome p q w same ran =
    let r = first_reader t e in record {
      ran = Ran-says (said r) (says t e) (drops t e) 1536 first last held new k (said-says t e) outcome
          (Ran-counted (said r) (counted 0 r) (drops t e) 1536 first last held new k
          (λ ends bytes short. below-most (strays_said r ends bytes) (drops t e ends bytes) (length bytes) (said-drops t e ends bytes) (drops-few t e ends bytes) short)
          outcome (Ran-known a (said r) counts (counted 0 r) wants 1536 first last held new n k outcome p q w same ran));
      few = λ bytes. converted-few t e bytes;
      lines = λ bytes. converted-lines t e bytes;
      text = λ ends bytes. text_of t e ends bytes;
    }
