use Rattle.std.proofs.Common.{◌≡◌, drop}
use Rattle.tbl_reader.specs.Fields.{place_of}
use Rattle.tbl_reader.proofs.Finding.{moved}
use Rattle.tbl_reader.proofs.rows.place_of.Given as goal

abbrev pub invariant-loop-other : goal.invariant-loop-other
invariant-loop-other l =
    (moved l.other-index (place_of l.byte (drop l.other-index l.text)) ≡ place_of l.byte l.text)
    × (l.at ≡ l.other-index)
