use Rattle.std.proofs.Common.{◌≡◌, ℕ, List, Bool, ◌+◌, ◌-◌, ◌*◌, ◌≤◌, ◌++◌, length, refl, subst, sym, ◌∙◌, arith}
use Rattle.std.proofs.lemmas.List.{take_all}
use Rattle.preconv_command.proofs.TwoStages.{few_more, rest_some, rest_within, room_for, said_more}
use Rattle.preconv_command.proofs.through.turn_all.Goals as goal

pub loop-at-init : goal.loop-at-init
loop-at-init g c = record { within = omega arith; says = λ ends rest. refl; few = omega arith; wants = refl; room = refl }

pub turn-at-requires : goal.turn-at-requires
turn-at-requires g c =
    let l = c.loop-at in
    let wants = g.T.Stage.wants in
    let capacity = sym l.invariant.room in
    let fits = subst (λ (w : ℕ). length l.out.items + w ≤ l.out.capacity) (sym l.invariant.wants)
    (subst (λ (k : ℕ). length l.out.items + wants c.args.stage.now ≤ k) capacity
    (room_for (wants c.args.stage.now) l.at (length c.args.bytes.now) (length c.args.out.now.items) (length l.out.items) c.args.out.now.capacity c.loop-at-test.true
    l.invariant.few c.requires.room)) in
    record { room = fits }

pub overflow_add-at : goal.overflow_add-at
overflow_add-at g c = let all = rest_within c.args.bytes.now c.loop-at.at c.turn-at.result c.loop-at-test.true c.turn-at.ensures.within in omega (arith, all)

pub loop-at-smaller : goal.loop-at-smaller
loop-at-smaller g c =
    let some = c.turn-at.ensures.some (rest_some c.args.bytes.now c.loop-at.at c.loop-at-test.true) in
    let more = c.loop-at-test.true in
    omega (arith, some, more)

pub loop-at-preserved : goal.loop-at-preserved
loop-at-preserved g c =
    let bytes = c.args.bytes.now in
    let l = c.loop-at in
    let n = c.turn-at.result in
    let says = g.T.Stage.says in
    let wants = g.T.Stage.wants in
    let out = c.turn-at.new.out.items in
    let few : length out ≤ length l.out.items + wants c.args.stage.now * n =
    subst (λ (w : ℕ). length out ≤ length l.out.items + w * n) l.invariant.wants c.turn-at.ensures.few in
    record {
      within = rest_within bytes l.at n c.loop-at-test.true c.turn-at.ensures.within;
      says = said_more (says c.args.stage.now) (says l.stage) (says c.turn-at.new.self) bytes c.args.out.now.items l.out.items out l.at n l.invariant.says
          c.turn-at.ensures.says;
      few = few_more (wants c.args.stage.now) l.at n (length c.args.out.now.items) (length l.out.items) (length out) l.invariant.few few;
      wants = c.turn-at.ensures.wants ∙ l.invariant.wants;
      room = c.turn-at.ensures.room ∙ l.invariant.room;
    }

pub returns-clause-says : goal.returns-clause-says
returns-clause-says g c =
    let l = c.loop-at in
    let all = take_all l.at c.args.bytes.now (let end = c.loop-at-test.false in omega (arith, end)) in
    subst (λ (bytes : List ℕ). (ends : Bool) → (rest : List ℕ) → c.args.out.now.items ++ g.T.Stage.says c.args.stage.now ends (bytes ++ rest)
    ≡ l.out.items ++ g.T.Stage.says l.stage ends rest) all l.invariant.says

pub returns-clause-few : goal.returns-clause-few
returns-clause-few g c =
    let l = c.loop-at in
    let all : l.at ≡ length c.args.bytes.now = (let end = c.loop-at-test.false in let within = l.invariant.within in omega (arith, end, within)) in
    subst (λ (n : ℕ). length l.out.items ≤ length c.args.out.now.items + g.T.Stage.wants c.args.stage.now * n) all l.invariant.few
