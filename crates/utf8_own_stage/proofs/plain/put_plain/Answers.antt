use Rattle.std.proofs.Common.{ℕ, List, [], ◌∷◌, ◌+◌, ◌++◌, ◌∙◌, get_or, take, sym, ap, subst, append_assoc, arith}
use Rattle.utf8_own_characters.specs.declared.listening.Listener.{Listener}
use Rattle.utf8_own_stage.specs.declared.points.Place.{Place}
use Rattle.utf8_own_stage.specs.Coding.{place_after_all, said_of}
use Rattle.utf8_own_stage.proofs.LettersMore.{After, after_none, after_one, said_one}
use Rattle.utf8_own_stage.proofs.plain.put_plain.Goals as goal

pub loop-count-init : goal.loop-count-init
loop-count-init c =
    let bs = c.args.bytes.now in
    let l = c.args.listener.now in
    let p = c.args.place.now in
    let put = c.put_one.ensures in
    let some = c.requires.some in
    record {
      some = omega arith;
      within = omega (arith, some);
      room = put.room;
      few = (let few = put.few in omega (arith, few));
      ready = put.ready;
      so_far =
          subst (λ (z : Place). After l c.put_one.new.listener p z bs 1) (sym put.place)
          (subst (λ (z : Listener). After l z p (place_after_all l p (get_or bs 0 0 ∷ [])) bs 1) (sym put.listener) (after_one l l p p bs 0 some (after_none l p bs)));
      items = λ t. put.items t ∙ ap (λ (zs : List ℕ). c.args.out.now.items ++ zs) (said_one t l l p p bs 0 some (after_none l p bs));
    }

pub loop-count-preserved : goal.loop-count-preserved
loop-count-preserved c =
    let bs = c.args.bytes.now in
    let n = c.loop-count.count in
    let l = c.args.listener.now in
    let p = c.args.place.now in
    let m = c.loop-count.heard in
    let q = c.loop-count.here in
    let before = c.loop-count.invariant in
    let inside = c.loop-count-test.true in
    let put = c.put_one-in-loop-count.ensures in
    record {
      some = omega arith;
      within = omega (arith, inside);
      room = put.room ∙ before.room;
      few = (let said = put.few in let few = before.few in omega (arith, said, few));
      ready = put.ready;
      so_far =
          subst (λ (z : Place). After l c.put_one-in-loop-count.new.listener p z bs (n + 1)) (sym put.place)
          (subst (λ (z : Listener). After l z p (place_after_all m q (get_or bs n 0 ∷ [])) bs (n + 1)) (sym put.listener) (after_one l m p q bs n inside before.so_far));
      items = λ t.
          put.items t
          ∙ ap (λ (zs : List ℕ). zs ++ said_of t m q (get_or bs n 0 ∷ [])) (before.items t)
          ∙ append_assoc c.args.out.now.items (said_of t l p (take n bs)) (said_of t m q (get_or bs n 0 ∷ []))
          ∙ ap (λ (zs : List ℕ). c.args.out.now.items ++ zs) (said_one t l m p q bs n inside before.so_far);
    }
