use Rattle.std.proofs.Common.{ℕ, List, subst, sym, ◌∙◌, arith}
use Rattle.utf8_converter.specs.Spelling.{Goes}
use Rattle.utf8_converter.proofs.Goes.{Goes-rest, Goes-serves}
use Rattle.utf8_converter.proofs.Makes.{none-owed}
use Rattle.utf8_converter.proofs.spelling.Spelling.put_all.Goals as goal

pub put_row-requires-clause-serves : goal.put_row-requires-clause-serves
put_row-requires-clause-serves c =
    Goes-serves c.args.reader.now c.loop-taken.reader c.args.bytes.now c.loop-taken.taken c.args.room.now c.loop-taken.room c.args.begin c.loop-taken.end c.args.self.now c.requires.serves c.loop-taken.invariant.goes

pub put_some-some-requires-clause-serves : goal.put_some-some-requires-clause-serves
put_some-some-requires-clause-serves c =
    Goes-serves c.args.reader.now c.loop-taken.reader c.args.bytes.now c.loop-taken.taken c.args.room.now c.loop-taken.room c.args.begin c.loop-taken.end c.args.self.now c.requires.serves c.loop-taken.invariant.goes

pub loop-taken-preserved-in-Some : goal.loop-taken-preserved-in-Some
loop-taken-preserved-in-Some c =
    let most = c.in-Some.ensures.few in
    let room = c.if-end-le-FULL.true in
    record {
      goes = Goes-rest c.args.reader.now c.loop-taken.reader c.loop-taken.reader c.args.bytes.now c.loop-taken.taken 32 c.args.room.now c.loop-taken.room c.put_row.new.room c.args.begin c.loop-taken.end
          c.in-Some.to c.requires.fresh c.loop-taken.invariant.goes c.in-Some.ensures;
      shut = c.loop-taken.invariant.shut;
      few = omega (arith, most, room);
    }

pub returns-then-some-eq0-clause-goes : goal.returns-then-some-eq0-clause-goes
returns-then-some-eq0-clause-goes c =
    let Q : List ℕ → Type 0 = λ xs. Goes c.args.reader.now c.loop-taken.reader c.args.bytes.now c.loop-taken.taken c.args.room.now c.args.begin xs c.loop-taken.end in
    Goes-rest c.args.reader.now c.loop-taken.reader c.put_some-some.new.reader c.args.bytes.now c.loop-taken.taken c.put_some-some.result.taken c.args.room.now c.put_row.new.room c.put_some-some.new.room c.args.begin c.loop-taken.end
    c.put_some-some.result.end c.requires.fresh (subst Q (sym c.in-None.ensures) c.loop-taken.invariant.goes) c.put_some-some.ensures.goes

pub loop-taken-preserved : goal.loop-taken-preserved
loop-taken-preserved c =
    let Q : List ℕ → Type 0 = λ xs. Goes c.args.reader.now c.loop-taken.reader c.args.bytes.now c.loop-taken.taken c.args.room.now c.args.begin xs c.loop-taken.end in
    let most = c.put_some-some.ensures.goes.few in
    let few = c.put_some-some.ensures.few in
    let room = c.if-end-le-FULL.true in
    let none = none-owed c.loop-taken.reader.way c.loop-taken.invariant.shut in
    record {
      goes = Goes-rest c.args.reader.now c.loop-taken.reader c.put_some-some.new.reader c.args.bytes.now c.loop-taken.taken c.put_some-some.result.taken c.args.room.now c.put_row.new.room c.put_some-some.new.room c.args.begin c.loop-taken.end
          c.put_some-some.result.end c.requires.fresh (subst Q (sym c.in-None.ensures) c.loop-taken.invariant.goes) c.put_some-some.ensures.goes;
      shut = sym c.is_shut-else-some-eq0.ensures ∙ c.if-not-is_shut-2.false;
      few = omega (arith, most, few, room, none);
    }
