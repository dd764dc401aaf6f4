use Rattle.std.proofs.Common.{◌≡◌, List, [], ℕ, Bool, true, false, if◌then◌else◌, Result, Ok, Err, IfOk, sym, refl, ap, ◌∙◌}
use Rattle.preconv_characters.specs.Targets.{target_of}
use Rattle.preconv_characters.specs.declared.target.Target.{Target}
use Rattle.utf8_own_characters.specs.declared.counting.Count.{Count}
use Rattle.utf8_own_characters.specs.Ranking.{ranked}
use Rattle.utf8_own_page.specs.Lacking.{names_of, numbered}
use Rattle.program_command.specs.declared.plan.Plan.{Plan}
use Rattle.program_command.specs.Own.{counts_of, may_have_numbers, numbered_of}
use Rattle.program_command.proofs.own.numbered.Goals as goal

first_of : (b : Bool) (xs ys : List ℕ) → b ≡ true → (if b then xs else ys) ≡ xs
first_of true xs ys is = refl
first_of false xs ys is = cc

numbered_as : (plan : Plan) (first : List ℕ) (may : Bool) (t : Target) (counts : List Count) (names : List ℕ)
    → may ≡ may_have_numbers plan first → may ≡ true → t ≡ target_of plan.characters → counts ≡ counts_of plan first
    → names ≡ names_of (numbered t (ranked counts)) → names ≡ numbered_of plan first
numbered_as plan first may t counts names asks is target are made =
    made ∙ ap (λ (u : Target). names_of (numbered u (ranked counts))) target
    ∙ ap (λ (xs : List Count). names_of (numbered (target_of plan.characters) (ranked xs))) are
    ∙ sym (first_of (may_have_numbers plan first) _ [] (sym asks ∙ is))

IfOk-to : {T E : Type 0} (P Q : T → Type 0) (r : Result T E) → ((x : T) → P x → Q x) → IfOk r P → IfOk r Q
IfOk-to P Q (Ok x) f p = f x p
IfOk-to P Q (Err e) f p = p

pub returns : goal.returns
returns c short =
    IfOk-to _ _ c.names_of_numbered.result
    (λ x made. numbered_as c.args.plan.now c.args.prefix.now c.may_have_numbers.result c.of.result c.deref.result.now x.items c.may_have_numbers.ensures c.if-not-may_have_numbers.false c.of.ensures
    (c.deref.ensures.value ∙ c.in_ok-counts.ensures.counted short.man_is short.plain_is) made)
    c.names_of_numbered.ensures
