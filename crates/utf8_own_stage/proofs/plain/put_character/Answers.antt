use Rattle.std.proofs.Common.{ℕ, List, [], ◌∷◌, ◌++◌, ◌%◌, ◌∙◌, sym, ap}
use Rattle.utf8_own_stage.proofs.PlainRead.{plain_passed, plain_put, same_byte}
use Rattle.utf8_own_stage.proofs.plain.put_character.Goals as goal

pub returns-clause-items : goal.returns-clause-items
returns-clause-items c =
    let out = c.args.out.now.items in
    let b = c.args.character in
    c.push.ensures.items
    ∙ ap (λ (n : ℕ). out ++ (n % 128 ∷ [])) c.from.ensures
    ∙ ap (λ (n : ℕ). out ++ (n ∷ [])) (same_byte b c.requires.plain)
    ∙ ap (λ (zs : List ℕ). out ++ zs) (sym (plain_put c.args.place.now b c.requires.ready c.requires.plain))

pub returns-clause-place : goal.returns-clause-place
returns-clause-place c = sym (plain_passed c.args.place.now c.args.character c.requires.ready c.requires.plain)
