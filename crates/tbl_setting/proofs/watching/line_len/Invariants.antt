use Rattle.std.proofs.Common.{◌≡◌, ◌+◌, drop}
use Rattle.tbl_setting.specs.Watching.{line_len}
use Rattle.tbl_setting.proofs.watching.line_len.Given as goal

abbrev pub invariant-loop-byte : goal.invariant-loop-byte
invariant-loop-byte l = record {
  value : l.len + line_len (drop l.byte-index l.text) ≡ line_len l.text;
  len : l.len ≡ l.byte-index;
}
