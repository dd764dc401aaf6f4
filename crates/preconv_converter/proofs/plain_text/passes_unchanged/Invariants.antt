use Rattle.std.proofs.Common.{◌≡◌, true, drop}
use Rattle.preconv_converter.specs.PlainText.{is_plain_from}
use Rattle.preconv_converter.proofs.plain_text.passes_unchanged.Given as goal

abbrev pub invariant-loop-byte : goal.invariant-loop-byte
invariant-loop-byte l = is_plain_from l.starts (drop l.byte-index l.text) ≡ is_plain_from true l.text
