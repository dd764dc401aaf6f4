use Rattle.std.proofs.Common.{◌≡◌, ℕ, List, ◌++◌, ◌∙◌, Option, true, sym, ap, subst}
use Rattle.utf8_own_characters.specs.declared.cluster.Cluster.{Cluster}
use Rattle.utf8_own_stage.specs.Coding.{after_cluster, said_cluster}
use Rattle.utf8_own_stage.specs.Plain.{is_ready_for}
use Rattle.utf8_own_stage.specs.Points.{passed}
use Rattle.utf8_own_stage.proofs.PlainRead.{cluster_plain, cluster_read, cluster_said, none_ready}
use Rattle.utf8_own_stage.proofs.plain.put_held.Goals as goal

pub put_character-requires-clause-ready : goal.put_character-requires-clause-ready
put_character-requires-clause-ready c = none_ready c.args.held c.args.place.now c.requires.ready

pub put_character-requires-clause-plain : goal.put_character-requires-clause-plain
put_character-requires-clause-plain c =
    cluster_plain c.in-Some.cluster c.args.place.now
    (subst (λ (h : Option Cluster). is_ready_for h c.args.place.now ≡ true) c.in-Some.is c.requires.ready)

pub returns-in-Some-clause-items : goal.returns-in-Some-clause-items
returns-in-Some-clause-items c = λ t.
    let p = c.args.place.now in
    let k = c.in-Some.cluster in
    let ready = subst (λ (h : Option Cluster). is_ready_for h p ≡ true) c.in-Some.is c.requires.ready in
    c.put_character.ensures.items
    ∙ ap (λ (zs : List ℕ). c.args.out.now.items ++ zs) (sym (cluster_said t k p ready))
    ∙ ap (λ (h : Option Cluster). c.args.out.now.items ++ said_cluster t p h) (sym c.in-Some.is)

pub returns-in-Some-clause-place : goal.returns-in-Some-clause-place
returns-in-Some-clause-place c =
    let p = c.args.place.now in
    let k = c.in-Some.cluster in
    let ready = subst (λ (h : Option Cluster). is_ready_for h p ≡ true) c.in-Some.is c.requires.ready in
    c.put_character.ensures.place
    ∙ ap (passed p) (sym (cluster_read k p ready))
    ∙ ap (after_cluster p) (sym c.in-Some.is)
