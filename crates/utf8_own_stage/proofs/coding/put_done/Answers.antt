use Rattle.std.proofs.Common.{◌≡◌, ℕ, ◌++◌, ◌∙◌, length, Bool, true, nat_le, ap, subst, length-append, arith}
use Rattle.utf8_own_stage.specs.Coding.{coded, kept}
use Rattle.utf8_own_stage.specs.Points.{is_waiting, point, text_of}
use Rattle.utf8_own_stage.proofs.Few.{all_few, waiting_few}
use Rattle.utf8_own_stage.proofs.ReadAs.{beyond_read}
use Rattle.utf8_own_stage.proofs.coding.put_done.Goals as goal

pub put_point-requires : goal.put_point-requires
put_point-requires c =
    let room = c.requires.room in
    let few = waiting_few c.args.place.now.waits in
    record { room = omega (arith, room, few) }

pub returns-in-Some-clause-few : goal.returns-in-Some-clause-few
returns-in-Some-clause-few c =
    let p = c.args.place.now in
    let k = c.in-Some.cluster in
    let w = c.passes.new.self.waits in
    let bytes = coded c.args.table.now k in
    let text = text_of p.waits (point p c.read_as-letter.result) in
    let put = ap length c.put_point.ensures.items ∙ length-append c.args.out.now.items text in
    let more =
    ap length c.put_kept.ensures.items ∙ ap (λ (x : Bool). length (c.put_point.new.out.items ++ kept x bytes)) c.is_some.ensures
    ∙ length-append c.put_point.new.out.items (kept (is_waiting w) bytes) in
    let few = c.put_kept.ensures.few in
    let short = c.put_point.ensures.few in
    let held = waiting_few p.waits in
    let all = all_few p c.read_as-letter.result w bytes (omega (arith, more, few))
    (λ beyond. let fewer = c.put_kept.ensures.fewer (beyond_read k (subst (λ (n : ℕ). nat_le 0x2E80 n ≡ true) c.read_as-letter.ensures beyond)) in omega (arith, more, fewer))
    (omega (arith, put, short, held)) in
    omega (arith, put, more, all)
