use Rattle.std.proofs.Common.{◌≡◌, ℕ, List, true, Some, Option, length, nat_lt, sym, ◌∙◌, ap, subst}
use Rattle.utf8_own_characters.specs.declared.counting.Count.{Count}
use Rattle.utf8_own_characters.specs.Counting.{count_from, is_counted, is_once}
use Rattle.utf8_own_characters.proofs.Tests.{or_left}
use Rattle.utf8_own_characters.proofs.Counted.{KnownAt, known_at, within_known, once_within}
use Rattle.utf8_own_characters.proofs.counting.count_cluster.Goals as goal

pub raise-requires : goal.raise-requires
raise-requires c =
    let cl = c.args.cluster.now in
    let e = sym (ap (λ (ys : List Count). count_from 0 ys cl) c.as_slice.ensures.value) ∙ (sym c.place_in-found.ensures ∙ c.in-Some.is) in
    (known_at c.args.counts.now.items cl c.in-Some.place e).within

pub returns-in-Some-clause-items : goal.returns-in-Some-clause-items
returns-in-Some-clause-items c =
    let cl = c.args.cluster.now in let xs = c.args.counts.now.items in
    let e = sym (ap (λ (ys : List Count). count_from 0 ys cl) c.as_slice.ensures.value) ∙ (sym c.place_in-found.ensures ∙ c.in-Some.is) in
    let k = known_at xs cl c.in-Some.place e in
    c.raise.ensures.items k.count k.there ∙ sym (within_known c.args.counts.now.capacity xs cl k.known ∙ k.raises)

pub returns-in-Some-clause-once : goal.returns-in-Some-clause-once
returns-in-Some-clause-once c =
    let cl = c.args.cluster.now in let xs = c.args.counts.now.items in
    let e = sym (ap (λ (ys : List Count). count_from 0 ys cl) c.as_slice.ensures.value) ∙ (sym c.place_in-found.ensures ∙ c.in-Some.is) in
    let k = known_at xs cl c.in-Some.place e in
    let P : List Count → Type 0 = λ ys. is_once ys ≡ true in
    subst P (sym (c.raise.ensures.items k.count k.there ∙ sym (within_known c.args.counts.now.capacity xs cl k.known ∙ k.raises)))
    (once_within c.args.counts.now.capacity xs cl c.requires)

pub returns-in-Some-clause-reported : goal.returns-in-Some-clause-reported
returns-in-Some-clause-reported c =
    let cl = c.args.cluster.now in let xs = c.args.counts.now.items in
    let e = sym (ap (λ (ys : List Count). count_from 0 ys cl) c.as_slice.ensures.value) ∙ (sym c.place_in-found.ensures ∙ c.in-Some.is) in
    let k = known_at xs cl c.in-Some.place e in
    sym (or_left (is_counted xs cl) (nat_lt (length xs) c.args.counts.now.capacity) k.known)

pub returns-in-None-clause-once : goal.returns-in-None-clause-once
returns-in-None-clause-once c =
    let P : List Count → Type 0 = λ ys. is_once ys ≡ true in
    subst P (sym c.add.ensures.items) (once_within c.args.counts.now.capacity c.args.counts.now.items c.args.cluster.now c.requires)
