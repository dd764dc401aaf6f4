use Rattle.std.proofs.Common.{ℕ, List, ◌++◌, ◌∙◌, sym, ap, append-nil}
use Rattle.utf8_own_characters.specs.declared.listening.Listened.{Listened}
use Rattle.utf8_own_characters.specs.Listening.{after}
use Rattle.utf8_own_characters.proofs.Letters.{prefix_one}
use Rattle.utf8_own_stage.specs.Coding.{said, said_of, place_after, place_after_all}
use Rattle.utf8_own_stage.proofs.coding.put_one.Goals as goal

pub returns-clause-items : goal.returns-clause-items
returns-clause-items c =
    let t = c.args.table.now in
    let l = c.args.listener.now in
    let p = c.args.place.now in
    let out = c.args.out.now.items in
    c.put_listened.ensures.items
    ∙ ap (λ (x : Listened). out ++ said t p x) c.read-listened.ensures
    ∙ ap (λ (zs : List ℕ). out ++ zs) (sym (append-nil _) ∙ ap (said_of t l p) (sym (prefix_one c.args.bytes.now c.requires.some)))

pub returns-clause-listener : goal.returns-clause-listener
returns-clause-listener c =
    ap (λ (x : Listened). x.listener) c.read-listened.ensures
    ∙ ap (after c.args.listener.now) (sym (prefix_one c.args.bytes.now c.requires.some))

pub returns-clause-place : goal.returns-clause-place
returns-clause-place c =
    c.put_listened.ensures.place
    ∙ ap (place_after c.args.place.now) c.read-listened.ensures
    ∙ ap (place_after_all c.args.listener.now c.args.place.now) (sym (prefix_one c.args.bytes.now c.requires.some))
