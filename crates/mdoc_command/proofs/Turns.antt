-- What came of a text is what mdoc makes of it.
use Rattle.std.proofs.Common.{◌≡◌, ℕ, List, [], ◌++◌, Bool, true, false, Option, Some, None, refl, sym, ap, subst, ◌∙◌, append-nil, inl}
use Rattle.nr_units.specs.Source.{Supply, reader_supply}
use Rattle.nr_units.specs.Failures.{SinkFailures, put_counted_if}
use Rattle.mdoc_converter.specs.Reading.{converted}
use Rattle.mdoc_converter.specs.Running as running
use Rattle.document_stages.specs.Pulling.{Came}
use Rattle.document_stages.specs.Running as runs
use Rattle.document_stages.specs.declared.running.RunEnd.{RunEnd}
use Rattle.document_stages.specs.declared.running.RunEnd.TheVariants as outcomes
use Rattle.filters.specs.Turning.{Begins, IsAll, Turned, is_write_fault, text_left}
use Rattle.filters.specs.declared.endings.Ending.{Ending}
use Rattle.mdoc_command.specs.Converting.{ending_of, mdoc}

came : (left : Option (List ℕ)) (last : Option Supply) (bytes : List ℕ) → Came (reader_supply left) bytes last
    → Begins (text_left mdoc left) bytes
came None last bytes comes = tt
came (Some all) None bytes comes = absurd comes
came (Some all) (Some t) bytes comes = (t.bytes, comes.0)

came_all : (left : Option (List ℕ)) (last : Option Supply) (bytes : List ℕ) → Came (reader_supply left) bytes last
    → runs.Ends (reader_supply left) last → IsAll (text_left mdoc left) bytes
came_all None last bytes comes ends = tt
came_all (Some all) None bytes comes ends = absurd comes
came_all (Some all) (Some t) bytes comes ends = sym (comes.0 ∙ ap (λ (l : List ℕ). bytes ++ l) ends ∙ append-nil bytes)

by_outcome : (wrong : Bool) (name : List ℕ) (left : Option (List ℕ)) (last : Option Supply) (held new : Option (List ℕ)) (steps : ℕ)
    (outcome : RunEnd) → running.Ran (reader_supply left) last held new steps outcome
    → Turned mdoc (record { name = name; left = left }) held new (ending_of wrong outcome)
by_outcome true name left last held new steps outcomes.Done ran = record {
  text = ran.bytes;
  all = came_all left last ran.bytes ran.came ran.ends;
  end = [];
  may_end = refl;
  went_out = rw (append-nil (converted ran.bytes)) ran.went_out;
  complains = tt;
}
by_outcome false name left last held new steps outcomes.Done ran = record {
  text = ran.bytes;
  all = came_all left last ran.bytes ran.came ran.ends;
  end = [];
  may_end = refl;
  went_out = rw (append-nil (converted ran.bytes)) ran.went_out;
  complains = tt;
}
by_outcome wrong name left last held new steps (outcomes.ReadFault at) ran = (
  refl,
  record {
    text = ran.bytes;
    first = came left last ran.bytes ran.came;
    count = ran.at_is;
    went_out = ran.went_out;
  },
)
by_outcome wrong name left last held new steps outcomes.TooLong ran = (
  refl,
  record {
    text = ran.bytes;
    first = came left last ran.bytes ran.came;
    count = ran.at_is;
    went_out = ran.went_out;
  },
)
by_outcome wrong name left last held new steps outcomes.WriteFault ran = record {
  text = ran.bytes;
  first = came left last ran.bytes ran.came;
  end = [];
  may_end = refl;
  went_out = inl (rw (append-nil (converted ran.bytes)) ran.went_out);
}

pub turned : (wrong : Bool) (name : List ℕ) (left : Option (List ℕ)) (first last : Option Supply) (held new : Option (List ℕ)) (steps : ℕ)
    (outcome : RunEnd) (ending : Ending) → first ≡ reader_supply left → running.Ran first last held new steps outcome
    → ending ≡ ending_of wrong outcome → Turned mdoc (record { name = name; left = left }) held new ending
turned wrong name left first last held new steps outcome ending supply ran ended =
    rw ended (by_outcome wrong name left last held new steps outcome
    (subst (λ (s : Option Supply). running.Ran s last held new steps outcome) supply ran))

-- each failed call was counted
same_fault : (wrong : Bool) (outcome : RunEnd) → runs.is_write_fault outcome ≡ is_write_fault (ending_of wrong outcome)
same_fault true outcomes.Done = refl
same_fault false outcomes.Done = refl
same_fault wrong (outcomes.ReadFault at) = refl
same_fault wrong outcomes.TooLong = refl
same_fault wrong outcomes.WriteFault = refl

pub failures : (wrong : Bool) (outcome : RunEnd) (ending : Ending) (old new : SinkFailures) → ending ≡ ending_of wrong outcome
    → new ≡ put_counted_if (runs.is_write_fault outcome) old → new ≡ put_counted_if (is_write_fault ending) old
failures wrong outcome ending old new ended counted =
    rw ended (counted ∙ ap (λ (b : Bool). put_counted_if b old) (same_fault wrong outcome))
