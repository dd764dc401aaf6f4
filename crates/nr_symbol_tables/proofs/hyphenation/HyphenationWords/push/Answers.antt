use Rattle.std.proofs.Common.{◌≡◌, ◌+◌, [], ◌∷◌, ◌++◌, length, ap, sym, ◌∙◌, arith, length-append}
use Rattle.std.proofs.lemmas.List.{length-map, map-append}
use Rattle.nr_symbol_tables.specs.Given.{word_in}
use Rattle.nr_symbol_tables.specs.Hyphenation.{kind, kinds, earliers, number_at}
use Rattle.nr_symbol_tables.specs.declared.hyphenation.Linked.{Linked}
use Rattle.nr_symbol_tables.proofs.Chaining.{chained_more, length-kinds}
use Rattle.nr_symbol_tables.proofs.hyphenation.HyphenationWords.push.Goals as goal

pub invariant_of-self : goal.invariant_of-self
invariant_of-self c =
    let row = c.self.inside.row.items in
    let ls = c.self.inside.latest in
    let kind_is = c.kind_of-kind.ensures.is in
    let d = c.kind_of-kind.result in
    let earlier = number_at ls d in
    let new : Linked = record { word = c.args.word; earlier = earlier } in
    let few = c.kind_of-kind.ensures.few in
    let pushed = rw (c.latest_of-earlier.ensures.is, c.as_array.ensures) at c.push.ensures.items in
    let latest_is = c.set.ensures in
    let low = rw c.as_array.ensures at c.latest_of-earlier.ensures.long in
    let long : c.len.result ≡ length (kinds row) + 1 = c.len.ensures.value ∙ ap length pushed ∙ length-append row (new ∷ []) ∙ ap (λ n. n + 1) (sym (length-kinds row)) in
    let kind_of_new : kind (word_in c.args.word).letters ≡ d = ap kind (sym c.letters.ensures.letters) ∙ sym kind_is in
    let both = length-map row (λ (l : Linked). l.earlier) in
    let kinds_are : kinds (row ++ new ∷ []) ≡ kinds row ++ d ∷ [] = map-append (λ (l : Linked). kind (word_in l.word).letters) row (new ∷ []) ∙ ap (λ n. kinds row ++ n ∷ []) kind_of_new in
    let earliers_are : earliers (row ++ new ∷ []) ≡ earliers row ++ earlier ∷ [] = map-append (λ (l : Linked). l.earlier) row (new ∷ []) in
    rw (c.push.ensures.items, c.latest_of-earlier.ensures.is, c.as_array.ensures, latest_is, long)
    (rw (kinds_are, earliers_are) (chained_more (kinds row) (earliers row) ls d (both ∙ sym (length-kinds row)) (omega arith) c.self.invariant))
