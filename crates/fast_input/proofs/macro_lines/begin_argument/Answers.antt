use Rattle.std.proofs.Common.{◌<◌, length, arith}
use Rattle.fast_input.proofs.MacroBytes.{spaces_passed, begun_taken_in}
use Rattle.fast_input.proofs.macro_lines.begin_argument.Goals as goal

pub returns-then-spaces-bytes-clause-taken_in : goal.returns-then-spaces-bytes-clause-taken_in
returns-then-spaces-bytes-clause-taken_in c =
    let spaces = c.space_count-spaces.ensures in
    spaces_passed c.args.bytes.now c.args.half.now c.space_count-spaces.result c.requires.before spaces.prefix spaces.spaces

pub returns-then-byte-eq92-clause-taken_in : goal.returns-then-byte-eq92-clause-taken_in
returns-then-byte-eq92-clause-taken_in c =
    let spaces = c.space_count-spaces.ensures in
    spaces_passed c.args.bytes.now c.args.half.now c.space_count-spaces.result c.requires.before spaces.prefix spaces.spaces

pub returns-clause-taken_in : goal.returns-clause-taken_in
returns-clause-taken_in c =
    let k = c.space_count-spaces.result in
    let h = c.args.half.now in
    let bs = c.args.bytes.now in
    let spaces = c.space_count-spaces.ensures in
    let less : k < length bs = omega (arith, spaces.prefix, c.if-spaces-bytes.false) in
    rw (c.begin_with.ensures, c.blanks_left-left.ensures.is) (begun_taken_in bs h k c.requires.before less spaces.spaces c.if-byte-eq92.false c.if-byte-eq9.false (spaces.stops less))
