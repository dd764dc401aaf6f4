use Rattle.std.proofs.Common.{◌≡◌, ◌+◌, ◌-◌, ◌∙◌, ℕ, List, length, take, drop, get_or, refl, sym, ap, true, arith}
use Rattle.std.proofs.lemmas.List.{take-take}
use Rattle.preconv_lines.specs.declared.half.Half.{Half}
use Rattle.preconv_characters.specs.declared.beginnings.Opens.{Opens}
use Rattle.preconv_characters.specs.Beginnings.{opened, goes_out}
use Rattle.preconv_converter.specs.Reading.{emitted, with_half}
use Rattle.preconv_converter.specs.Runs.{after_control}
use Rattle.preconv_converter.proofs.Controls.{control_fed}
use Rattle.preconv_converter.proofs.reader.Reader.pass_control.Goals as goal

pub returns-clause-taken : goal.returns-clause-taken
returns-clause-taken c = λ _.
    let n = c.name_len-len.result in
    let bs = c.args.bytes.now in
    let r = c.args.self.now in
    let b = get_or bs (n + 1) 0 in
    let within = c.name_len-len.ensures.within (omega arith) in
    let cut : take n (take (length bs - 1) (drop 1 bs)) ≡ take n (drop 1 bs) = take-take n (length bs - 1) (drop 1 bs) (omega (arith, within)) in
    let is : c.opened-opens.result ≡ opened (take n (drop 1 bs)) = c.opened-opens.ensures ∙ ap (λ (name : List ℕ). opened name) cut in
    let goes : goes_out (opened (take n (drop 1 bs))) n ≡ true =
    ap (λ (o : Opens). goes_out o n) (sym is) ∙ sym c.goes_out.ensures ∙ c.if-not-goes_out.false in
    control_fed n bs r b (c.is_between.ensures.pending c.if-not-is_between.false) (c.is_between.ensures.clear c.if-not-is_between.false) c.name_len-len.ensures.len (omega arith) (omega arith) refl
    (sym c.is_end.ensures ∙ c.if-not-is_end.false) goes
    ∙ ap (λ (h : Half). emitted (with_half h r) (take (n + 2) bs) (n + 3)) (ap (λ (o : Opens). after_control o b r.half) (sym is) ∙ sym c.takes_control.ensures)
    ∙ ap (λ (m : ℕ). emitted (with_half c.takes_control.new.half r) (take (n + 2) bs) m) (let e : n + 3 ≡ n + 2 + 1 = omega arith in e)
