use Rattle.std.proofs.Common.{◌≡◌, ℕ, ◌+◌, ◌-◌, ◌==◌, get_or, true, false, subst, sym, arith}
use Rattle.utf8_converter.specs.Spelling.{Cuts}
use Rattle.utf8_converter.proofs.Shaped.{Cuts-none, Cuts-one, Cuts-two, is-back, is-other, left-one, left-two}
use Rattle.utf8_converter.proofs.spelling.Spelling.cut.Goals as goal

pub overflow_sub-result-then-bytes-eq8 : goal.overflow_sub-result-then-bytes-eq8
overflow_sub-result-then-bytes-eq8 c =
    let back : (get_or c.args.bytes.now 31 0 == 8) ≡ true = is-back (get_or c.args.bytes.now 31 0) c.if-bytes-eq8.true in
    let far = left-two c.args.reader.now.table c.args.bytes.now c.args.to c.requires.seen back c.requires.far in
    omega (arith, far)

pub returns-then-bytes-eq8 : goal.returns-then-bytes-eq8
returns-then-bytes-eq8 c =
    let table = c.args.reader.now.table in
    let back : (get_or c.args.bytes.now 31 0 == 8) ≡ true = is-back (get_or c.args.bytes.now 31 0) c.if-bytes-eq8.true in
    let P : ℕ → Type 0 = λ n. Cuts table c.args.bytes.now c.args.to 30 (c.args.to - (n + 1)) in
    subst P (sym c.count-begun.ensures.count) (Cuts-two c.args.self.now c.args.reader.now c.args.bytes.now c.args.to c.requires.seen c.requires.chunk back
    (left-two table c.args.bytes.now c.args.to c.requires.seen back c.requires.far))

pub overflow_sub-result-then-bytes-eq8-2-2 : goal.overflow_sub-result-then-bytes-eq8-2-2
overflow_sub-result-then-bytes-eq8-2-2 c =
    let far = left-one c.args.reader.now.table c.args.bytes.now c.args.to c.requires.seen c.requires.far in
    omega (arith, far)

pub returns-then-bytes-eq8-2 : goal.returns-then-bytes-eq8-2
returns-then-bytes-eq8-2 c =
    let table = c.args.reader.now.table in
    let back : (get_or c.args.bytes.now 32 0 == 8) ≡ true = is-back (get_or c.args.bytes.now 32 0) c.if-bytes-eq8-2.true in
    let P : ℕ → Type 0 = λ n. Cuts table c.args.bytes.now c.args.to 31 (c.args.to - n) in
    subst P (sym c.count-begun-then-bytes-eq8-2.ensures.count) (Cuts-one c.args.self.now c.args.reader.now c.args.bytes.now c.args.to c.requires.seen c.requires.chunk back
    (left-one table c.args.bytes.now c.args.to c.requires.seen c.requires.far))

pub returns : goal.returns
returns c =
    let other : (get_or c.args.bytes.now 31 0 == 8) ≡ false = is-other (get_or c.args.bytes.now 31 0) c.if-bytes-eq8.false in
    Cuts-none c.args.reader.now.table c.args.bytes.now c.args.to c.requires.seen other
