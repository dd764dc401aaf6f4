use Rattle.std.proofs.Common.{◌≡◌, length, false, ◌==◌, ap, sym, ◌∙◌, arith}
use Rattle.std.proofs.lemmas.Bool.Decides.{nat_tests}
use Rattle.std.specs.Char.{encode_utf8}
use Rattle.utf8_converter.specs.Cells.{is_shown}
use Rattle.utf8_converter.proofs.Makes.{few-spelled}
use Rattle.utf8_converter.proofs.Spelled.{Spelled-character}
use Rattle.utf8_converter.proofs.spelling.spell.Goals as goal

pub returns : goal.returns
returns c =
    let unshown : is_shown c.args.byte ≡ false = sym c.is_shown.ensures ∙ c.if-is_shown.false in
    let is_not = c.if-byte-eq8.false in
    let other : (c.args.byte == 8) ≡ false = grind (arith, nat_tests, is_not) in
    let text : c.as_bytes-text.result.now ≡ encode_utf8 c.in-Some.character = c.as_bytes-text.ensures.value ∙ c.encode_utf8.ensures.value in
    let size : length c.as_bytes-text.result.now ≡ length (encode_utf8 c.in-Some.character) = ap length text in
    let few = few-spelled c.in-Some.character c.in-Some.ensures.shown in
    Spelled-character c.args.table c.args.byte c.in-Some.character c.copy_from_slice.new.self c.as_bytes-text.result.now
    unshown other (sym c.in-Some.ensures.value) text c.copy_from_slice.ensures.after (omega (arith, size, few))
