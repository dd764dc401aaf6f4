use Rattle.std.specs.Prelude.{slice_get}
use Rattle.std.proofs.Common.{◌≡◌, ℕ, ◌+◌, ◌-◌, ◌<◌, ◌≤◌, false, length, take, List, Option, Some, IfSome, arith, subst}
use Rattle.nr_store.specs.Windows.{left_times}
use Rattle.nr_store.specs.Laws.{left_times-run}
use Rattle.fast_input.specs.declared.splices.Splice.{Splice}
use Rattle.fast_input.specs.Gathering.{Leaves, bytes_before, own_bytes, spliced}
use Rattle.fast_input.specs.Interpolations.{opened}
use Rattle.fast_input.proofs.TextLeft.{first_left, first_within, up_to, begun_last, one_before, after_left, after_within, within_left}
use Rattle.fast_input.proofs.gathering.leave_part.Goals as goal

first_few : (n taken : ℕ) (splices : List Splice) (bytes : List ℕ) → n ≡ 0 → IfSome (slice_get splices n) (λ (s : Splice). taken ≤ s.before) → taken ≤ length bytes → taken ≤ bytes_before (slice_get splices 0) (length bytes)
first_few n taken splices bytes none next within = up_to taken (slice_get splices 0) bytes (subst (λ k. IfSome (slice_get splices k) (λ (s : Splice). taken ≤ s.before)) none next) within

pub skip-requires : goal.skip-requires
skip-requires g c =
    let gathered = c.requires.gathered.gathered in
    let splices = c.args.gathered.now.splices in
    let few = first_few c.begun-begun.result c.args.taken splices c.args.bytes.now c.if-begun-eq0.true c.begun-begun.ensures.next c.requires.within in
    first_within c.args.bytes.now c.args.gathered.now.items c.args.taken c.args.store.now c.args.reader.now c.requires.within (slice_get splices 0) gathered.first few

pub returns-then-begun-eq0-clause-leaves : goal.returns-then-begun-eq0-clause-leaves
returns-then-begun-eq0-clause-leaves g c =
    let gathered = c.requires.gathered.gathered in
    let splices = c.args.gathered.now.splices in
    let few = first_few c.begun-begun.result c.args.taken splices c.args.bytes.now c.if-begun-eq0.true c.begun-begun.ensures.next c.requires.within in
    rw c.skip.ensures
    (first_left c.args.bytes.now c.args.gathered.now.items c.args.taken c.args.store.now c.args.reader.now c.requires.within (slice_get splices 0) gathered.first few)

pub pass_splices-requires : goal.pass_splices-requires
pass_splices-requires g c =
    let n = c.begun-begun.result in
    let s = c.at-splice.result in
    let is = begun_last n s c.args.bytes.now c.args.gathered.now.items c.args.gathered.now.moves c.args.gathered.now.splices c.args.store.now c.args.reader.now c.if-begun-eq0.false c.at-splice.ensures c.requires.gathered.gathered in
    let burst = is.burst in
    record { burst = omega (arith, burst, one_before n c.if-begun-eq0.false) }

pub overflow_cast-splice : goal.overflow_cast-splice
overflow_cast-splice g c =
    let n = c.begun-begun.result in
    let s = c.at-splice.result in
    let gathered = c.requires.gathered.gathered in
    let is = begun_last n s c.args.bytes.now c.args.gathered.now.items c.args.gathered.now.moves c.args.gathered.now.splices c.args.store.now c.args.reader.now c.if-begun-eq0.false c.at-splice.ensures gathered in
    let short = is.short in
    let within = is.within in
    let few = gathered.few in
    let most = c.begun-begun.ensures.most in
    omega (arith, short, within, few, most)

pub skip-requires-2 : goal.skip-requires-2
skip-requires-2 g c = (begun_last c.begun-begun.result c.at-splice.result c.args.bytes.now c.args.gathered.now.items c.args.gathered.now.moves c.args.gathered.now.splices c.args.store.now c.args.reader.now c.if-begun-eq0.false c.at-splice.ensures c.requires.gathered.gathered).there

pub overflow_add-end : goal.overflow_add-end
overflow_add-end g c =
    let is = begun_last c.begun-begun.result c.at-splice.result c.args.bytes.now c.args.gathered.now.items c.args.gathered.now.moves c.args.gathered.now.splices c.args.store.now c.args.reader.now c.if-begun-eq0.false c.at-splice.ensures c.requires.gathered.gathered in
    let within = is.within in
    let few = c.requires.gathered.gathered.few in
    omega (arith, within, few)

pub skip-requires-then-end-taken : goal.skip-requires-then-end-taken
skip-requires-then-end-taken g c =
    let n = c.begun-begun.result in
    let s = c.at-splice.result in
    let next = slice_get c.args.gathered.now.splices n in
    let is = begun_last n s c.args.bytes.now c.args.gathered.now.items c.args.gathered.now.moves c.args.gathered.now.splices c.args.store.now c.args.reader.now c.if-begun-eq0.false c.at-splice.ensures c.requires.gathered.gathered in
    rw c.skip-2.ensures
    (after_within c.args.bytes.now c.args.gathered.now.items c.args.taken c.args.store.now c.args.reader.now c.requires.within (n - 1) s next is c.if-end-taken.true (up_to c.args.taken next c.args.bytes.now c.begun-begun.ensures.next c.requires.within))

pub overflow_add-result : goal.overflow_add-result
overflow_add-result g c =
    let is = begun_last c.begun-begun.result c.at-splice.result c.args.bytes.now c.args.gathered.now.items c.args.gathered.now.moves c.args.gathered.now.splices c.args.store.now c.args.reader.now c.if-begun-eq0.false c.at-splice.ensures c.requires.gathered.gathered in
    let few = is.few in
    let most = c.begun-begun.ensures.most in
    omega (arith, few, most)

pub returns-then-end-taken-clause-leaves : goal.returns-then-end-taken-clause-leaves
returns-then-end-taken-clause-leaves g c =
    let n = c.begun-begun.result in
    let s = c.at-splice.result in
    let v = c.args.store.now in
    let r = c.args.reader.now in
    let taken = c.args.taken in
    let bytes = c.args.bytes.now in
    let next = slice_get c.args.gathered.now.splices n in
    let is = begun_last n s bytes c.args.gathered.now.items c.args.gathered.now.moves c.args.gathered.now.splices v r c.if-begun-eq0.false c.at-splice.ensures c.requires.gathered.gathered in
    let same : (n - 1) + 1 ≡ n = omega (arith, one_before n c.if-begun-eq0.false) in
    rw (c.skip-then-end-taken.ensures, c.skip-2.ensures, c.pass_splices.ensures)
    (subst (λ j. Leaves false (s.moves + 1) (take taken bytes) v r (left_times (taken - (s.before + s.count)) (left_times s.afterwards v)) (spliced j s.asked r)) same
    (after_left bytes c.args.gathered.now.items taken v r c.requires.within (n - 1) s next is c.if-end-taken.true (up_to taken next bytes c.begun-begun.ensures.next c.requires.within)))

pub returns-then-end-taken-clause-few : goal.returns-then-end-taken-clause-few
returns-then-end-taken-clause-few g c =
    let is = begun_last c.begun-begun.result c.at-splice.result c.args.bytes.now c.args.gathered.now.items c.args.gathered.now.moves c.args.gathered.now.splices c.args.store.now c.args.reader.now c.if-begun-eq0.false c.at-splice.ensures c.requires.gathered.gathered in
    let few = is.few in
    let most = c.begun-begun.ensures.most in
    omega (arith, few, most)

-- its bytes were begun
begun_before : (n taken : ℕ) (s : Splice) (splices : List Splice) → (n ≡ 0 → ⊥) → slice_get splices (n - 1) ≡ Some s → ((k : ℕ) → k < n → IfSome (slice_get splices k) (λ (t : Splice). t.before < taken)) → s.before < taken
begun_before n taken s splices some is begun = subst (λ (o : Option Splice). IfSome o (λ (t : Splice). t.before < taken)) is (begun (n - 1) (omega (arith, one_before n some)))

pub enter_splice-requires : goal.enter_splice-requires
enter_splice-requires g c =
    let n = c.begun-begun.result in
    let s = c.at-splice.result in
    let gathered = c.requires.gathered.gathered in
    let splices = c.args.gathered.now.splices in
    let is = begun_last n s c.args.bytes.now c.args.gathered.now.items c.args.gathered.now.moves splices c.args.store.now c.args.reader.now c.if-begun-eq0.false c.at-splice.ensures gathered in
    let past = c.if-end-taken.false in
    record {
      few = gathered.few;
      within = is.within;
      begun = begun_before n c.args.taken s splices c.if-begun-eq0.false c.at-splice.ensures c.begun-begun.ensures.begun;
      part = omega (arith, past);
      charge = rw c.skip-2.ensures is.charge;
      depth = rw c.skip-2.ensures is.depth;
      text = λ named. rw (c.skip-2.ensures, left_times-run s.afterwards c.args.store.now is.there) (is.text named);
    }

pub returns-clause-leaves : goal.returns-clause-leaves
returns-clause-leaves g c =
    let n = c.begun-begun.result in
    let s = c.at-splice.result in
    let v = c.args.store.now in
    let r = c.args.reader.now in
    let taken = c.args.taken in
    let bytes = c.args.bytes.now in
    let splices = c.args.gathered.now.splices in
    let next = slice_get splices n in
    let is = begun_last n s bytes c.args.gathered.now.items c.args.gathered.now.moves splices v r c.if-begun-eq0.false c.at-splice.ensures c.requires.gathered.gathered in
    let same : (n - 1) + 1 ≡ n = omega (arith, one_before n c.if-begun-eq0.false) in
    let begun = begun_before n taken s splices c.if-begun-eq0.false c.at-splice.ensures c.begun-begun.ensures.begun in
    let past = c.if-end-taken.false in
    rw (c.enter_splice.ensures, c.skip-2.ensures, c.pass_splices.ensures)
    (subst (λ j. Leaves false s.moves (take taken bytes) v r (left_times (taken - s.before) (opened s.named (own_bytes s bytes) s.asked (left_times s.afterwards v))) (spliced j s.asked r)) same
    (within_left bytes c.args.gathered.now.items taken v r c.requires.within (n - 1) s next is begun (omega (arith, past))))

pub returns-clause-few : goal.returns-clause-few
returns-clause-few g c =
    let is = begun_last c.begun-begun.result c.at-splice.result c.args.bytes.now c.args.gathered.now.items c.args.gathered.now.moves c.args.gathered.now.splices c.args.store.now c.args.reader.now c.if-begun-eq0.false c.at-splice.ensures c.requires.gathered.gathered in
    let few = is.few in
    let most = c.begun-begun.ensures.most in
    omega (arith, few, most)
