use Rattle.std.proofs.Common.{ℕ, List, ◌-◌, ◌++◌, ◌∙◌, length, take, drop, Some, true, ap, append_assoc, arith}
use Rattle.std.proofs.lemmas.List.{length-drop, length-take, take_rest}
use Rattle.utf8_own_characters.specs.declared.cluster.Cluster.{Cluster}
use Rattle.utf8_own_characters.specs.declared.decoding.Part.{Part}
use Rattle.utf8_own_characters.specs.Decoding.{none}
use Rattle.utf8_own_characters.specs.Listening.{after}
use Rattle.utf8_own_stage.specs.declared.points.Place.{Place}
use Rattle.utf8_own_stage.specs.Coding.{place_after_all, said_cluster, said_of}
use Rattle.utf8_own_stage.specs.Letters.{holding}
use Rattle.utf8_own_stage.proofs.LettersMore.{heard_rest, placed_rest, said_rest}
use Rattle.utf8_own_stage.proofs.runs.put_letters.Goals as goal

pub returns-clause-items : goal.returns-clause-items
returns-clause-items c =
    let t = c.args.table.now in
    let l = c.args.listener.now in
    let p = c.args.place.now in
    let bs = c.args.bytes.now in
    let out = c.args.out.now.items in
    let m = holding c.args.first in
    let n = c.put_rest-run.result.count in
    c.put_rest-run.ensures.items
    ∙ ap (λ (zs : List ℕ). zs ++ said_of t m c.put_done.new.place (take n (take (length bs - 3) (drop 3 bs)))) c.put_done.ensures.items
    ∙ append_assoc out (said_cluster t p l.held) (said_of t m c.put_done.new.place (take n (take (length bs - 3) (drop 3 bs))))
    ∙ ap (λ (zs : List ℕ). out ++ (said_cluster t p l.held ++ said_of t m c.put_done.new.place (take n zs))) (take_rest bs 3)
    ∙ ap (λ (z : Place). out ++ (said_cluster t p l.held ++ said_of t m z (take n (drop 3 bs)))) c.put_done.ensures.place
    ∙ ap (λ (zs : List ℕ). out ++ zs) (said_rest t l p bs c.args.first n c.requires.begins)

pub returns-clause-few : goal.returns-clause-few
returns-clause-few c =
    let rest = c.put_rest-run.ensures.few in
    let done = c.put_done.ensures.few in
    omega (arith, rest, done)

pub returns-clause-listener : goal.returns-clause-listener
returns-clause-listener c =
    let bs = c.args.bytes.now in
    let n = c.put_rest-run.result.count in
    ap (λ (x : Part). record { part = x; held = Some c.single.result; is_plain = true }) c.none.ensures
    ∙ ap (λ (x : Cluster). record { part = none; held = Some x; is_plain = true }) c.single.ensures
    ∙ c.put_rest-run.ensures.listener
    ∙ ap (λ (zs : List ℕ). after (holding c.args.first) (take n zs)) (take_rest bs 3)
    ∙ heard_rest c.args.listener.now bs c.args.first n c.requires.begins

pub returns-clause-place : goal.returns-clause-place
returns-clause-place c =
    let bs = c.args.bytes.now in
    let n = c.put_rest-run.result.count in
    let m = holding c.args.first in
    c.put_rest-run.ensures.place
    ∙ ap (λ (zs : List ℕ). place_after_all m c.put_done.new.place (take n zs)) (take_rest bs 3)
    ∙ ap (λ (z : Place). place_after_all m z (take n (drop 3 bs))) c.put_done.ensures.place
    ∙ placed_rest c.args.listener.now c.args.place.now bs c.args.first n c.requires.begins

pub returns-clause-within : goal.returns-clause-within
returns-clause-within c =
    let bs = c.args.bytes.now in
    let few = c.put_rest-run.ensures.within in
    let cut = length-take (length bs - 3) (drop 3 bs) in
    let rest = length-drop 3 bs in
    let long = c.requires.begins.long in
    omega (arith, few, cut, rest, long)
