use Rattle.std.proofs.Common.{ℕ, List, ◌++◌, ◌∙◌, Bool, Option, sym, ap, append-nil, append_assoc}
use Rattle.utf8_own_characters.specs.declared.cluster.Cluster.{Cluster}
use Rattle.utf8_own_characters.specs.declared.decoding.Part.{Part}
use Rattle.utf8_own_characters.specs.declared.listening.Listened.{Listened}
use Rattle.utf8_own_characters.specs.Decoding.{none}
use Rattle.utf8_own_characters.specs.Listening.{read, takes_marks}
use Rattle.utf8_own_stage.specs.declared.points.Place.{Place}
use Rattle.utf8_own_stage.specs.Coding.{after_byte, after_cluster, place_after, said, said_byte, said_cluster}
use Rattle.utf8_own_stage.specs.Plain.{held_of, unheld}
use Rattle.utf8_own_stage.proofs.PlainRead.{plain_read}
use Rattle.utf8_own_stage.proofs.plain.put_one.Goals as goal

pub returns-clause-items : goal.returns-clause-items
returns-clause-items c = λ t.
    let b = c.args.byte in
    let l = c.args.listener.now in
    let p = c.args.place.now in
    let out = c.args.out.now.items in
    let q = c.put_held.new.place in
    c.put_unheld.ensures.items
    ∙ ap (λ (zs : List ℕ). zs ++ said_byte q (unheld b c.takes_marks-holds.result)) (c.put_held.ensures.items t)
    ∙ append_assoc out (said_cluster t p l.held) (said_byte q (unheld b c.takes_marks-holds.result))
    ∙ ap (λ (z : Place). out ++ (said_cluster t p l.held ++ said_byte z (unheld b c.takes_marks-holds.result))) c.put_held.ensures.place
    ∙ ap (λ (x : Bool). out ++ (said_cluster t p l.held ++ said_byte (after_cluster p l.held) (unheld b x))) c.takes_marks-holds.ensures
    ∙ ap (λ (x : Listened). out ++ said t p x) (sym (plain_read l b c.requires.plain))
    ∙ ap (λ (zs : List ℕ). out ++ zs) (sym (append-nil (said t p (read l b))))

pub returns-clause-listener : goal.returns-clause-listener
returns-clause-listener c =
    let b = c.args.byte in
    let l = c.args.listener.now in
    ap (λ (x : Part). record { part = x; held = c.held_of.result; is_plain = c.plain_after.result }) c.none.ensures
    ∙ ap (λ (x : Option Cluster). record { part = none; held = x; is_plain = c.plain_after.result }) c.held_of.ensures
    ∙ ap (λ (x : Bool). record { part = none; held = held_of b x; is_plain = c.plain_after.result }) c.takes_marks-holds.ensures
    ∙ ap (λ (x : Bool). record { part = none; held = held_of b (takes_marks b l.is_plain); is_plain = x }) c.plain_after.ensures
    ∙ ap (λ (x : Listened). x.listener) (sym (plain_read l b c.requires.plain))

pub returns-clause-place : goal.returns-clause-place
returns-clause-place c =
    let b = c.args.byte in
    let l = c.args.listener.now in
    let p = c.args.place.now in
    c.put_unheld.ensures.place
    ∙ ap (λ (z : Place). after_byte z (unheld b c.takes_marks-holds.result)) c.put_held.ensures.place
    ∙ ap (λ (x : Bool). after_byte (after_cluster p l.held) (unheld b x)) c.takes_marks-holds.ensures
    ∙ ap (place_after p) (sym (plain_read l b c.requires.plain))
