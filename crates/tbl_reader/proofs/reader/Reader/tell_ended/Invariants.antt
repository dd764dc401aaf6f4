use Rattle.std.proofs.Common.{◌≡◌, ◌≤◌, ◌-◌}
use Rattle.tbl_reader.proofs.Fielding.{FieldsEmitted}
use Rattle.tbl_reader.proofs.reader.Reader.tell_ended.Given as goal

abbrev pub invariant-loop : goal.invariant-loop
invariant-loop g l = record {
  emitted : FieldsEmitted g.S.Setter.shows g.S.Setter.hears (l.counter - l.fn.self.state.fields) l.fn.self l.self l.fn.setter l.setter;
  from : l.fn.self.state.fields ≤ l.counter;
  few : l.counter - l.fn.self.state.fields ≤ l.fn.self.state.formats.columns - l.fn.self.state.fields;
  end : l.end ≡ l.fn.self.state.formats.columns;
}
