use Rattle.std.proofs.lemmas.Grind.{common_steps}
use Rattle.std.proofs.Common.{◌≡◌, ◌≤◌, List, [], ◌∷◌, ◌++◌, length, take, Option, None, Some, Result, Ok, Err, OnOk, OnErr, is_none, true, refl, sym, ap, ◌∙◌, subst, arith}
use Rattle.std.proofs.lemmas.Bool.{eqb-false}
use Rattle.std.proofs.lemmas.Result.{on_ok_weaker}
use Rattle.nr_pool.specs.Texts.{Texts, text, holders, used, with_text, IsOpen}
use Rattle.nr_pool.specs.Laws.{open_after_text}
use Rattle.nr_pool.specs.Sharing.{seen, MayShare}
use Rattle.nr_pool.specs.declared.sharing.Share.{Share}
use Rattle.nr_pool.proofs.Shared.{added, all_taken, capacity-seen, given_seen, has_room, holders-seen, may_added, used-least, whole_text}
use Rattle.nr_pool.proofs.pool.Pool.copy_text.Goals as goal

none_is : {X : Type 0} (o : Option X) → is_none o ≡ true → o ≡ None
none_is None is = refl
none_is (Some x) is = cc

no_elements : {X : Type 0} (xs : List X) → length xs ≡ 0 → xs ≡ []
no_elements [] none = refl
no_elements (x ∷ xs) none = absurd (omega arith)

-- what may be shared, whether the elements were added or not
kept : {T X Y : Type 0} (p q s : Texts T) (o : Option Share) (r : Result X Y) → OnOk r (s ≡ q) → OnErr r (s ≡ p) → MayShare p o → MayShare q o → MayShare s o
kept p q s o (Ok x) ok err may more = subst (λ (u : Texts _). MayShare u o) (sym ok) more
kept p q s o (Err e) ok err may more = subst (λ (u : Texts _). MayShare u o) (sym err) may

pub returns-then-not-is-clause-ok : goal.returns-then-not-is-clause-ok
returns-then-not-is-clause-ok g c =
    let s = c.self.inside in
    let from = c.args.from in
    let to = c.args.to in
    let share_is : s.share ≡ None = none_is s.share (grind (arith, common_steps, c.is_none.ensures, c.if-is_none.true)) in
    let is_seen : s.texts ≡ c.args.self.now = ap (λ (o : Option _). seen s.texts o) (sym share_is) ∙ c.self.view_is in
    let from_open : IsOpen s.texts from = rw is_seen c.requires.from_open in
    let to_open : IsOpen s.texts to = rw is_seen c.requires.to_open in
    let long : c.len-len.result ≡ length (text s.texts from) = c.len-len.ensures ∙ ap (λ (q : Texts _). length (text q from)) (sym is_seen) in
    ap (λ (q : Texts _). with_text q from (take c.len-len.result (text q to))) c.give.ensures.given
    ∙ given_seen s.texts from to c.len-len.result (eqb-false from to (sym c.is.ensures ∙ c.if-not-is.true)) (no_elements (text s.texts to) (sym c.len.ensures ∙ c.if-len-eq0.true)) from_open to_open long
    ∙ ap (λ (q : Texts _). with_text q to (text q to ++ text q from)) is_seen

pub returns-then-not-is-clause-keeps : goal.returns-then-not-is-clause-keeps
returns-then-not-is-clause-keeps g c = open_after_text c.args.self.now _ _ _ (returns-then-not-is-clause-ok g c)

pub returns-clause-ok : goal.returns-clause-ok
returns-clause-ok g c =
    let now = c.args.self.now in
    let from = c.args.from in
    let to = c.args.to in
    let one = c.whole_only-self-inside in
    let two = c.whole_only-self-inside-2 in
    let q = two.new.texts in
    let is_seen : seen q two.result ≡ now = two.ensures.seen ∙ one.ensures.seen ∙ c.self.view_is in
    let from_is : text q from ≡ text now from = sym (whole_text q two.result from two.ensures.may (two.ensures.fewer from one.ensures.whole)) ∙ ap (λ (p : Texts _). text p from) is_seen in
    let first : take c.len-len.result (text q from) ≡ text now from = ap (take c.len-len.result) from_is ∙ all_taken (text now from) c.len-len.result c.len-len.ensures in
    on_ok_weaker c.copy_first.result (λ is. ap (λ (p : Texts _). seen p two.result) is
    ∙ ap (λ xs. seen (with_text q to (text q to ++ xs)) two.result) first
    ∙ added q two.result to (text now from) two.ensures.may two.ensures.whole
    ∙ ap (λ (p : Texts _). with_text p to (text p to ++ text now from)) is_seen) c.copy_first.ensures.ok

pub returns-clause-keeps : goal.returns-clause-keeps
returns-clause-keeps g c = λ other is_open.
    let one = c.whole_only-self-inside in
    let two = c.whole_only-self-inside-2 in
    let q = two.new.texts in
    let is_seen : seen q two.result ≡ c.args.self.now = two.ensures.seen ∙ one.ensures.seen ∙ c.self.view_is in
    let before : holders q other ≡ holders c.args.self.now other = sym (holders-seen q two.result other) ∙ ap (λ (p : Texts _). holders p other) is_seen in
    let now = c.copy_first.ensures.keeps other (omega arith) in
    let after = holders-seen c.copy_first.new.self two.result other in
    omega arith

pub returns-clause-full : goal.returns-clause-full
returns-clause-full g c =
    let one = c.whole_only-self-inside in
    let two = c.whole_only-self-inside-2 in
    let q = two.new.texts in
    let is_seen : seen q two.result ≡ c.args.self.now = two.ensures.seen ∙ one.ensures.seen ∙ c.self.view_is in
    let room : q.capacity ≡ c.args.self.now.capacity = sym (capacity-seen q two.result) ∙ ap (λ (p : Texts _). p.capacity) is_seen in
    let least : used q ≤ used c.args.self.now = rw (← is_seen) (used-least q two.result two.ensures.may) in
    let counted : c.used.result ≡ used c.args.self.now = c.used.ensures.value ∙ ap (λ (p : Texts _). used p) c.self.view_is in
    let memory : c.element_memory.result ≡ c.args.self.now.capacity = c.element_memory.ensures ∙ sym (capacity-seen c.self.inside.texts c.self.inside.share) ∙ ap (λ (p : Texts _). p.capacity) c.self.view_is in
    let fits = c.if-len-element_memory.false in
    let long = c.len-len.ensures in
    let within = c.used.ensures.within in (
      λ err. let more = c.copy_first.ensures.full.0 err in omega arith,
      λ more. absurd (omega arith),
    )

pub invariant_of-self-2 : goal.invariant_of-self-2
invariant_of-self-2 g c =
    let now = c.args.self.now in
    let from = c.args.from in
    let to = c.args.to in
    let one = c.whole_only-self-inside in
    let two = c.whole_only-self-inside-2 in
    let q = two.new.texts in
    let is_seen : seen q two.result ≡ now = two.ensures.seen ∙ one.ensures.seen ∙ c.self.view_is in
    let from_is : text q from ≡ text now from = sym (whole_text q two.result from two.ensures.may (two.ensures.fewer from one.ensures.whole)) ∙ ap (λ (p : Texts _). text p from) is_seen in
    let first : take c.len-len.result (text q from) ≡ text now from = ap (take c.len-len.result) from_is ∙ all_taken (text now from) c.len-len.result c.len-len.ensures in
    let size : length (take c.len-len.result (text q from)) ≡ c.len-len.result = ap length first ∙ sym c.len-len.ensures in
    let room : q.capacity ≡ now.capacity = sym (capacity-seen q two.result) ∙ ap (λ (p : Texts _). p.capacity) is_seen in
    let counted : c.used.result ≡ used (seen q two.result) = c.used.ensures.value ∙ ap (λ (p : Texts _). used p) (c.self.view_is ∙ sym is_seen) in
    let memory : c.element_memory.result ≡ now.capacity = c.element_memory.ensures ∙ sym (capacity-seen c.self.inside.texts c.self.inside.share) ∙ ap (λ (p : Texts _). p.capacity) c.self.view_is in
    let fits = c.if-len-element_memory.false in
    let within = c.used.ensures.within in
    let open_now : holders q to ≡ holders now to = sym (holders-seen q two.result to) ∙ ap (λ (p : Texts _). holders p to) is_seen in
    let is_open = c.requires.to_open in
    kept q (with_text q to (text q to ++ take c.len-len.result (text q from))) c.copy_first.new.self two.result c.copy_first.result c.copy_first.ensures.ok c.copy_first.ensures.err two.ensures.may
    (may_added q two.result to (take c.len-len.result (text q from)) two.ensures.may two.ensures.whole (omega arith) (has_room q two.result (length (take c.len-len.result (text q from))) two.ensures.may (omega arith)))
