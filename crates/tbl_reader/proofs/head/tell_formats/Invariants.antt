use Rattle.std.proofs.Common.{◌≡◌, drop}
use Rattle.tbl_reader.specs.HeadLines.{formats_after, formats_said, with_newline}
use Rattle.tbl_reader.specs.Telling.{Tells}
use Rattle.tbl_reader.proofs.head.tell_formats.Given as goal

abbrev pub invariant-loop-byte : goal.invariant-loop-byte
invariant-loop-byte g l = record {
  formats : formats_after l.formats (with_newline (drop l.byte-index l.text)) ≡ formats_after l.fn.first (with_newline l.text);
  emitted : (c : g.row.S.Denot) → Tells g.S.Setter.shows g.S.Setter.hears (formats_said l.formats (with_newline (drop l.byte-index l.text))) l.setter c
      → Tells g.S.Setter.shows g.S.Setter.hears (formats_said l.fn.first (with_newline l.text)) l.fn.setter c;
}
