use Rattle.std.proofs.Common.{◌≡◌, drop}
use Rattle.tbl_table.specs.Held.{emptied}
use Rattle.tbl_setting.specs.Hearing.{texts_held}
use Rattle.tbl_setting.proofs.hearing.add_texts.Given as goal

abbrev pub invariant-loop-byte : goal.invariant-loop-byte
invariant-loop-byte l =
    (texts_held (drop l.byte-index l.text) l.table ≡ texts_held l.text l.initial.table) × (emptied l.table ≡ emptied l.initial.table)
