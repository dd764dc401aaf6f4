use Rattle.std.proofs.Common.{◌≡◌, ◌+◌, ◌≤◌, length, take, sym, subst, arith}
use Rattle.std.proofs.lemmas.List.{length-take}
use Rattle.nr_store.specs.Store.{Stored, charge_of}
use Rattle.nr_input.specs.declared.reader.Reader.{Reader}
use Rattle.fast_input.specs.declared.target.Target.TheVariants.{Text}
use Rattle.fast_input.specs.MacroLines.{ReadsOn}
use Rattle.fast_input.specs.Target.{with_more}
use Rattle.fast_input.proofs.BodyLines.{all_added}
use Rattle.fast_input.proofs.body_lines.read_chunk.Goals as goal

pub returns-then-copied-eq0-clause-reads : goal.returns-then-copied-eq0-clause-reads
returns-then-copied-eq0-clause-reads g c =
    let part = c.read_part-then-copied-eq0 in
    subst (λ (q : Reader). ReadsOn part.result.moves part.result.taken c.args.bytes.now c.args.store.now q part.new.store part.new.reader) (c.copy_parts-copied.ensures.none c.if-copied-eq0.true) part.ensures.reads

pub returns-clause-reads : goal.returns-clause-reads
returns-clause-reads g c =
    let v = c.args.store.now in
    let copied = c.copy_parts-copied in
    let n = copied.result.count in
    let add = c.add_bytes in
    let xs = take n copied.new.chunk in
    let room : charge_of v + length xs ≤ v.limit = omega (arith, c.admits.ensures.charge c.if-not-admits.false, copied.ensures.within, length-take n copied.new.chunk) in
    let all : add.new.self ≡ with_more Text xs v = all_added add.result xs v add.new.self add.ensures.within room add.ensures.added add.ensures.most in
    subst (λ (w : Stored _). ReadsOn (copied.result.taken + n) copied.result.taken c.args.bytes.now v c.args.reader.now w copied.new.reader) (sym all) copied.ensures.reads
