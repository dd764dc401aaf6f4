use Rattle.std.proofs.Common.{◌≡◌, drop}
use Rattle.std.specs.Str.{bytes_eq}
use Rattle.nr_symbol_tables.specs.Word.{bytes_of}
use Rattle.nr_symbol_tables.proofs.word.has_bytes.Given as goal

abbrev pub invariant-loop-place : goal.invariant-loop-place
invariant-loop-place l = bytes_eq (bytes_of (drop l.place l.cells)) (drop l.place l.bytes) ≡ bytes_eq (bytes_of l.cells) l.bytes
