use Rattle.std.proofs.Common.{◌≡◌, ℕ, ◌+◌, ◌-◌, None, Some, ap, subst, arith}
use Rattle.tbl_reader.specs.Pages.{Page}
use Rattle.tbl_reader.proofs.Fielding.{FieldsEmitted, emitted_first, emitted_more, emitted_all, found_next}
use Rattle.tbl_reader.proofs.reader.Reader.tell_ended.Goals as goal

pub loop-init : goal.loop-init
loop-init g c =
    let p = c.args.self.now in
    let same : c.self.inside.state.fields ≡ p.state.fields = ap (λ (x : Page). x.state.fields) c.self.view_is in
    let zero_is : 0 ≡ c.self.inside.state.fields - p.state.fields = omega (arith, same) in
    record {
      emitted = subst (λ (k : ℕ). FieldsEmitted g.S.Setter.shows g.S.Setter.hears k p p c.args.setter.now c.args.setter.now) zero_is
          (emitted_first g.S.Setter.shows g.S.Setter.hears p c.args.setter.now);
      from = omega (arith, same);
      few = omega (arith, same);
      end = ap (λ (x : Page). x.state.formats.columns) c.self.view_is;
    }

pub loop-preserved : goal.loop-preserved
loop-preserved g c =
    let p = c.args.self.now in
    let q = c.loop.self in
    let k = c.loop.counter - p.state.fields in
    let from = c.loop.invariant.from in
    let end = c.loop.invariant.end in
    let test = c.loop-test.true in
    let tab = ap (λ (x : Page). x.state.options.tab) c.self-in-loop.view_is in
    let e = found_next q c.self-in-loop.inside.state.options.tab c.line.result.now c.place_of.result (Some c.in-Some.len) c.place_of.ensures.value tab c.line.ensures c.in-Some.is in
    let more : k + 1 ≡ c.loop.counter + 1 - p.state.fields = omega (arith, from) in
    record {
      emitted = subst (λ (n : ℕ). FieldsEmitted g.S.Setter.shows g.S.Setter.hears n p c.tell_ended_at.new.self c.args.setter.now c.tell_ended_at.new.setter) more
          (emitted_more g.S.Setter.shows g.S.Setter.hears k c.in-Some.len p q c.tell_ended_at.new.self c.args.setter.now c.loop.setter c.tell_ended_at.new.setter
          c.loop.invariant.emitted e c.tell_ended_at.ensures.page c.tell_ended_at.ensures.emitted);
      from = omega (arith, from);
      few = omega (arith, from, end, test);
      end = end;
    }

pub returns-in-None : goal.returns-in-None
returns-in-None g c =
    let p = c.args.self.now in
    let q = c.loop.self in
    let k = c.loop.counter - p.state.fields in
    let tab = ap (λ (x : Page). x.state.options.tab) c.self-in-loop.view_is in
    let e = found_next q c.self-in-loop.inside.state.options.tab c.line.result.now c.place_of.result None c.place_of.ensures.value tab c.line.ensures c.in-None.is in
    let all = emitted_all g.S.Setter.shows g.S.Setter.hears k (p.state.formats.columns - p.state.fields) p q c.args.setter.now c.loop.setter c.loop.invariant.emitted c.loop.invariant.few e in
    record { page = all.page; emitted = all.emitted }

pub returns : goal.returns
returns g c =
    let p = c.args.self.now in
    let from = c.loop.invariant.from in
    let few = c.loop.invariant.few in
    let end = c.loop.invariant.end in
    let test = c.loop-test.false in
    let same : c.loop.counter - p.state.fields ≡ p.state.formats.columns - p.state.fields = omega (arith, from, few, end, test) in
    let all = subst (λ (n : ℕ). FieldsEmitted g.S.Setter.shows g.S.Setter.hears n p c.loop.self c.args.setter.now c.loop.setter) same c.loop.invariant.emitted in
    record { page = all.page; emitted = all.emitted }
