use Rattle.std.proofs.Common.{◌≡◌, ◌≤◌, drop}
use Rattle.tbl_reader.specs.Fields.{marks_after, marks_of}
use Rattle.tbl_reader.proofs.field.marks_of.Given as goal

abbrev pub invariant-loop-place : goal.invariant-loop-place
invariant-loop-place l = record {
  same : marks_after l.point l.place (drop l.place l.text) l.marks ≡ marks_of l.point l.text;
  few : l.marks.solid ≤ l.place;
}
