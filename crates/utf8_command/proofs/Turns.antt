-- What came of a text is what a stage makes of it.
use Rattle.std.proofs.Common.{◌≡◌, ℕ, List, [], ◌++◌, Bool, true, false, Option, Some, None, refl, sym, ap, subst, ◌∙◌, append-nil, inl}
use Rattle.std.specs.Borrow.{Bor}
use Rattle.nr_units.specs.Source.{Supply, reader_supply}
use Rattle.nr_units.specs.Failures.{SinkFailures, put_counted_if}
use Rattle.document_stages.specs.Pulling.{Came}
use Rattle.document_stages.specs.Running as runs
use Rattle.document_stages.specs.declared.running.RunEnd.{RunEnd}
use Rattle.document_stages.specs.declared.running.RunEnd.TheVariants as outcomes
use Rattle.filters.specs.Turning.{Begins, Filter, IsAll, Turned, is_write_fault, text_left}
use Rattle.filters.specs.declared.endings.Ending.{Ending}
use Rattle.utf8_command.specs.Converting.{ending_of}

-- what a filter makes of texts whose stage says this
abbrev pub saying : (Bool → List ℕ → List ℕ) → Filter
saying says = record {
  text_of = λ bytes. bytes;
  whole = says true;
  begun = says false;
  may_end_line = false;
  complains = λ text. Some false;
  is_naming = true;
}

came : (says : Bool → List ℕ → List ℕ) (left : Option (List ℕ)) (last : Option Supply) (bytes : List ℕ) → Came (reader_supply left) bytes last
    → Begins (text_left (saying says) left) bytes
came says None last bytes comes = tt
came says (Some all) None bytes comes = absurd comes
came says (Some all) (Some t) bytes comes = (t.bytes, comes.0)

came_all : (says : Bool → List ℕ → List ℕ) (left : Option (List ℕ)) (last : Option Supply) (bytes : List ℕ) → Came (reader_supply left) bytes last
    → runs.Ends (reader_supply left) last → IsAll (text_left (saying says) left) bytes
came_all says None last bytes comes ends = tt
came_all says (Some all) None bytes comes ends = absurd comes
came_all says (Some all) (Some t) bytes comes ends = sym (comes.0 ∙ ap (λ (l : List ℕ). bytes ++ l) ends ∙ append-nil bytes)

by_outcome : (says : Bool → List ℕ → List ℕ) (counts : Bool → List ℕ → ℕ) (wants : ℕ) (name : Bor (List ℕ)) (left : Option (List ℕ)) (last : Option Supply)
    (held new : Option (List ℕ)) (count : ℕ) (outcome : RunEnd) → runs.Ran says counts wants (reader_supply left) last held new count outcome
    → Turned (saying says) (record { name = name.now; left = left }) held new (ending_of name outcome)
by_outcome says counts wants name left last held new count outcomes.Done ran = record {
  text = ran.bytes;
  all = came_all says left last ran.bytes ran.came ran.ends;
  end = [];
  may_end = refl;
  went_out = rw (append-nil (says true ran.bytes)) ran.went_out;
  complains = refl;
}
by_outcome says counts wants name left last held new count (outcomes.ReadFault at) ran = (
  refl,
  record {
    text = ran.bytes;
    first = came says left last ran.bytes ran.came;
    count = ran.at_is;
    went_out = ran.went_out;
  },
)
by_outcome says counts wants name left last held new count outcomes.TooLong ran = (
  refl,
  record {
    text = ran.bytes;
    first = came says left last ran.bytes ran.came;
    count = ran.at_is;
    went_out = ran.went_out;
  },
)
by_outcome says counts wants name left last held new count outcomes.WriteFault ran = record {
  text = ran.bytes;
  first = came says left last ran.bytes ran.came;
  end = [];
  may_end = refl;
  went_out = inl (rw (append-nil (says true ran.bytes)) ran.went_out);
}

pub turned : (says : Bool → List ℕ → List ℕ) (counts : Bool → List ℕ → ℕ) (wants : ℕ) (name : Bor (List ℕ)) (left : Option (List ℕ)) (first last : Option Supply)
    (held new : Option (List ℕ)) (count : ℕ) (outcome : RunEnd) (ending : Ending) → first ≡ reader_supply left
    → runs.Ran says counts wants first last held new count outcome → ending ≡ ending_of name outcome
    → Turned (saying says) (record { name = name.now; left = left }) held new ending
turned says counts wants name left first last held new count outcome ending supply ran ended =
    rw ended (by_outcome says counts wants name left last held new count outcome
    (subst (λ (s : Option Supply). runs.Ran says counts wants s last held new count outcome) supply ran))

-- each failed call was counted
same_fault : (name : Bor (List ℕ)) (outcome : RunEnd) → runs.is_write_fault outcome ≡ is_write_fault (ending_of name outcome)
same_fault name outcomes.Done = refl
same_fault name (outcomes.ReadFault at) = refl
same_fault name outcomes.TooLong = refl
same_fault name outcomes.WriteFault = refl

pub failures : (name : Bor (List ℕ)) (outcome : RunEnd) (ending : Ending) (old new : SinkFailures) → ending ≡ ending_of name outcome
    → new ≡ put_counted_if (runs.is_write_fault outcome) old → new ≡ put_counted_if (is_write_fault ending) old
failures name outcome ending old new ended counted =
    rw ended (counted ∙ ap (λ (b : Bool). put_counted_if b old) (same_fault name outcome))
