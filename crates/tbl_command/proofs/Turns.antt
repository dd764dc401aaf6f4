-- What came of a text is what tbl makes of it.
use Rattle.std.proofs.Common.{◌≡◌, ℕ, List, [], ◌++◌, Bool, true, false, Option, Some, None, refl, sym, ap, subst, ◌∙◌, append-nil, inl, inr, ◌⊎◌}
use Rattle.nr_vectors.specs.Items.{Items}
use Rattle.nr_units.specs.Source.{Supply, reader_supply}
use Rattle.nr_units.specs.Failures.{SinkFailures, put_counted_if}
use Rattle.nr_units.specs.Sink.{AppendsPrefix}
use Rattle.tbl_reader.specs.Running as reading
use Rattle.tbl_reader.specs.Telling.{Piece}
use Rattle.tbl_reader.specs.declared.complaint.Complaint.{Complaint}
use Rattle.tbl_reader.specs.declared.running.ReadEnd.{ReadEnd}
use Rattle.tbl_reader.specs.declared.running.ReadEnd.TheVariants as outcomes
use Rattle.tbl_setting.specs.declared.setting.Setting.{Setting}
use Rattle.tbl_setting.specs.Bounds.{Bounds}
use Rattle.tbl_setting.specs.Running.{PutsPrefix, Ran, set_page}
use Rattle.filters.specs.Turning.{Begins, IsAll, Turned, is_write_fault, text_left}
use Rattle.filters.specs.declared.endings.Ending.{Ending}
use Rattle.tbl_command.specs.Converting.{ending_of, tbl}

came : (b : Bounds) (left : Option (List ℕ)) (last : Option Supply) (bytes : List ℕ) → reading.Came (reader_supply left) bytes last → Begins (text_left (tbl b) left) bytes
came b None last bytes comes = tt
came b (Some all) None bytes comes = absurd comes
came b (Some all) (Some t) bytes comes = (t.bytes, comes)

came_all : (b : Bounds) (left : Option (List ℕ)) (last : Option Supply) (bytes : List ℕ) → reading.Came (reader_supply left) bytes last
    → reading.Ends (reader_supply left) last → IsAll (text_left (tbl b) left) bytes
came_all b None last bytes comes ends = tt
came_all b (Some all) None bytes comes ends = absurd comes
came_all b (Some all) (Some t) bytes comes ends = sym (comes ∙ ap (λ (l : List ℕ). bytes ++ l) ends ∙ append-nil bytes)

either : (begun whole : List ℕ) (some all : List Piece) (t : Setting) (held new : Option (List ℕ)) (kept : Items Complaint) (missed uneven : Bool)
    → PutsPrefix begun some t held new kept missed uneven ⊎ PutsPrefix whole all t held new kept missed uneven
    → AppendsPrefix held new (whole ++ []) ⊎ AppendsPrefix held new begun
either begun whole some all t held new kept missed uneven (inl p) = inr p.went_out
either begun whole some all t held new kept missed uneven (inr p) = inl (rw (append-nil whole) p.went_out)

by_outcome : (wrong : Bool) (b : Bounds) (name : List ℕ) (left : Option (List ℕ)) (last : Option Supply) (held new : Option (List ℕ)) (kept : Items Complaint)
    (missed uneven : Bool) (outcome : ReadEnd) → Ran b (reader_supply left) last held new kept missed uneven outcome
    → Turned (tbl b) (record { name = name; left = left }) held new (ending_of wrong outcome)
by_outcome true b name left last held new kept missed uneven outcomes.Done ran = record {
  text = ran.bytes;
  all = came_all b left last ran.bytes ran.came ran.ends;
  end = [];
  may_end = refl;
  went_out = rw (append-nil (set_page b ran.bytes)) ran.puts.went_out;
  complains = tt;
}
by_outcome false b name left last held new kept missed uneven outcomes.Done ran = record {
  text = ran.bytes;
  all = came_all b left last ran.bytes ran.came ran.ends;
  end = [];
  may_end = refl;
  went_out = rw (append-nil (set_page b ran.bytes)) ran.puts.went_out;
  complains = tt;
}
by_outcome wrong b name left last held new kept missed uneven (outcomes.ReadFault at) ran = (
  refl,
  record {
    text = ran.bytes;
    first = came b left last ran.bytes ran.came;
    count = ran.count;
    went_out = ran.puts.went_out;
  },
)
by_outcome wrong b name left last held new kept missed uneven outcomes.TooLong ran = (
  refl,
  record {
    text = ran.bytes;
    first = came b left last ran.bytes ran.came;
    count = ran.count;
    went_out = ran.puts.went_out;
  },
)
by_outcome wrong b name left last held new kept missed uneven outcomes.WriteFault ran = record {
  text = ran.bytes;
  first = came b left last ran.bytes ran.came;
  end = [];
  may_end = refl;
  went_out = either _ _ _ _ _ _ _ _ _ _ ran.puts;
}

pub turned : (wrong : Bool) (b : Bounds) (name : List ℕ) (left : Option (List ℕ)) (first last : Option Supply) (held new : Option (List ℕ)) (kept : Items Complaint)
    (missed uneven : Bool) (outcome : ReadEnd) (ending : Ending) → first ≡ reader_supply left → Ran b first last held new kept missed uneven outcome
    → ending ≡ ending_of wrong outcome → Turned (tbl b) (record { name = name; left = left }) held new ending
turned wrong b name left first last held new kept missed uneven outcome ending supply ran ended =
    rw ended (by_outcome wrong b name left last held new kept missed uneven outcome
    (subst (λ (s : Option Supply). Ran b s last held new kept missed uneven outcome) supply ran))

-- each failed call was counted
same_fault : (wrong : Bool) (outcome : ReadEnd) → reading.is_write_fault outcome ≡ is_write_fault (ending_of wrong outcome)
same_fault true outcomes.Done = refl
same_fault false outcomes.Done = refl
same_fault wrong (outcomes.ReadFault at) = refl
same_fault wrong outcomes.TooLong = refl
same_fault wrong outcomes.WriteFault = refl

pub failures : (wrong : Bool) (outcome : ReadEnd) (ending : Ending) (old new : SinkFailures) → ending ≡ ending_of wrong outcome
    → new ≡ put_counted_if (reading.is_write_fault outcome) old → new ≡ put_counted_if (is_write_fault ending) old
failures wrong outcome ending old new ended counted =
    rw ended (counted ∙ ap (λ (b : Bool). put_counted_if b old) (same_fault wrong outcome))
