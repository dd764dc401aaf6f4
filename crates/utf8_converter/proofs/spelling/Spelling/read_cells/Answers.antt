use Rattle.std.proofs.Common.{ℕ, ◌-◌, ◌<◌, ◌≤◌, ap, length, subst, sym, ◌∙◌, arith}
use Rattle.utf8_characters.specs.declared.table.FixedTable.{FixedTable}
use Rattle.utf8_converter.specs.declared.reader.Half.{Half}
use Rattle.utf8_converter.specs.declared.reader.Reader.{Reader}
use Rattle.utf8_converter.specs.Reading.{with_half}
use Rattle.utf8_converter.specs.Spelling.{Reads, Spells, half_text}
use Rattle.utf8_converter.proofs.Goes.{Goes-serves, Reads-few, Reads-prefix}
use Rattle.utf8_converter.proofs.Held.{released-table}
use Rattle.utf8_converter.proofs.spelling.Spelling.read_cells.Goals as goal

pub half_after-half-requires-clause-serves : goal.half_after-half-requires-clause-serves
half_after-half-requires-clause-serves c =
    let P : FixedTable → Type 0 = λ t. Spells t 256 c.args.self.now.all c.args.self.now.whole in
    let before = subst P (sym (ap (λ (q : Reader). q.table) c.release-begun.ensures.fills.reader ∙ released-table c.args.reader.now.half c.args.reader.now)) c.requires.serves in
    Goes-serves c.release-begun.new.reader c.put_all-reached.new.reader c.args.bytes.now c.put_all-reached.result.taken c.release-begun.new.room c.put_all-reached.new.room c.release-begun.result.end
    c.put_all-reached.result.end c.args.self.now before c.put_all-reached.ensures.goes

pub count_half-requires : goal.count_half-requires
count_half-requires c =
    let P : FixedTable → Type 0 = λ t. Spells t 256 c.args.self.now.all c.args.self.now.whole in
    let before = subst P (sym (ap (λ (q : Reader). q.table) c.release-begun.ensures.fills.reader ∙ released-table c.args.reader.now.half c.args.reader.now)) c.requires.serves in
    record {
      serves = Goes-serves c.release-begun.new.reader c.put_all-reached.new.reader c.args.bytes.now c.put_all-reached.result.taken c.release-begun.new.room c.put_all-reached.new.room c.release-begun.result.end
          c.put_all-reached.result.end c.args.self.now before c.put_all-reached.ensures.goes;
    }

pub overflow_sub-result : goal.overflow_sub-result
overflow_sub-result c =
    let s = c.put_all-reached.new.reader in
    let room = c.requires.room in
    let few = c.put_all-reached.ensures.few in
    let long = c.put_all-reached.auto.room in
    let same = c.release-begun.auto.room in
    let some : 0 < length c.args.bytes.now = omega arith in
    let fits = Reads-few c.args.reader.now c.release-begun.new.reader s c.args.bytes.now c.put_all-reached.result.taken c.args.room.now c.release-begun.new.room c.put_all-reached.new.room
    c.release-begun.result.end c.put_all-reached.result.end c.release-begun.result.strays (omega arith) some (sym c.begins.ensures ∙ c.if-not-begins.false) c.release-begun.ensures.fills
    c.put_all-reached.ensures.goes (omega (arith, room, few, long, same)) in
    let P : ℕ → Type 0 = λ n. n ≤ c.put_all-reached.result.end in
    subst P (sym (c.count_half.ensures ∙ ap (λ (h : Half). length (half_text s.table h)) c.half_after-half.ensures)) fits

pub returns-clause-reads : goal.returns-clause-reads
returns-clause-reads c =
    let s = c.put_all-reached.new.reader in
    let room = c.requires.room in
    let few = c.put_all-reached.ensures.few in
    let long = c.put_all-reached.auto.room in
    let same = c.release-begun.auto.room in
    let some : 0 < length c.args.bytes.now = omega arith in
    let reads = Reads-prefix c.args.reader.now c.release-begun.new.reader s c.args.bytes.now c.put_all-reached.result.taken c.args.room.now c.release-begun.new.room c.put_all-reached.new.room
    c.release-begun.result.end c.put_all-reached.result.end c.release-begun.result.strays (omega arith) some (sym c.begins.ensures ∙ c.if-not-begins.false) c.release-begun.ensures.fills
    c.put_all-reached.ensures.goes (omega (arith, room, few, long, same)) in
    let P : Half → Type 0 = λ h. Reads c.args.reader.now (with_half h s) c.args.bytes.now c.put_all-reached.result.taken c.put_all-reached.new.room (c.put_all-reached.result.end - length (half_text s.table h)) in
    let Q : ℕ → Type 0 = λ n. Reads c.args.reader.now (with_half c.half_after-half.result s) c.args.bytes.now c.put_all-reached.result.taken c.put_all-reached.new.room (c.put_all-reached.result.end - n) in
    subst Q (sym c.count_half.ensures) (subst P (sym c.half_after-half.ensures) reads)
