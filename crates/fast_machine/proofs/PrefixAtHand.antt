-- A prefix of the bytes of the source that are at hand.
use Rattle.std.proofs.Common.{◌≡◌, ℕ, ◌<◌, ◌≤◌, min, List, length, take, Option, sym, ap, ◌∙◌, subst, arith, take-take}
use Rattle.std.specs.Prelude.{slice_index}
use Rattle.std.proofs.lemmas.List.{get_or-take, length-take, take_min}
use Rattle.nr_units.specs.Source.{Supply}
use Rattle.nr_fill.specs.Plain.{IsPlain}
use Rattle.nr_reading.specs.Many.LineBeginnings.{begins_control}
use Rattle.nr_formatter.specs.Many.LineBeginnings.{BeginsText}
use Rattle.nr_formatter.specs.declared.formatter.Formatter.{Formatter}
use Rattle.fast_input.specs.AtHand.{ComeNext}
use Rattle.nr_machine.specs.Holding.{Shape}
use Rattle.fast_machine.specs.Running.{HasNext}
use Rattle.fast_machine.proofs.PlainText.{come_prefix}

pub prefix_of : (k : ℕ) (bs all : List ℕ) → take (length bs) all ≡ bs → take (length (take k bs)) all ≡ take k bs
prefix_of k bs all is =
    let count = length-take k bs in
    let less : length (take k bs) ≤ length bs = omega (arith, count) in
    sym (take-take (length (take k bs)) (length bs) all less) ∙ ap (take (length (take k bs))) is ∙ ap (λ n. take n bs) count ∙ take_min k bs

pub prefix_next : (k : ℕ) (bs : List ℕ) (e : Shape) (supply : Option Supply) → HasNext bs e supply → HasNext (take k bs) e supply
prefix_next k bs e supply h = record {
  levels = h.levels;
  unseen = h.unseen;
  next = λ c holds.
      let less : min k (length bs) ≤ length bs = omega arith in
      subst (λ xs. ComeNext xs c) (take_min k bs) (come_prefix (min k (length bs)) bs c less (h.next c holds));
}

pub prefix_begins : (k : ℕ) (bs : List ℕ) (f : Formatter) → 0 < k → BeginsText bs f → BeginsText (take k bs) f
prefix_begins k bs f some h =
    let count = length-take k bs in
    let first : slice_index (take k bs) 0 ≡ slice_index bs 0 = get_or-take k bs 0 0 some in
    record {
      some = omega (arith, count, some, h.some);
      plain = subst IsPlain (sym first) h.plain;
      control = ap (λ b. begins_control b f.reader.half.signs) first ∙ h.control;
      room = h.room;
    }
