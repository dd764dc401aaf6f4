-- Where all that was counted of a page has room, its table has all of it.
use Rattle.std.proofs.Common.{◌≡◌, ℕ, ◌<◌, List, [], ◌∷◌, ◌++◌, Bool, true, Option, None, Some, sym, subst, ap, ◌∙◌, append-nil, arith}
use Rattle.utf8_own_characters.specs.declared.cluster.Cluster.{Cluster}
use Rattle.utf8_own_characters.specs.declared.counting.Count.{Count}
use Rattle.utf8_own_characters.specs.Choosing.{Choice, chosen, has_room, narrow_count, nothing, table_of, wide_count}
use Rattle.utf8_own_characters.specs.Covering.{taking_place}
use Rattle.utf8_own_characters.specs.Listening.{after, clusters_in, done_in, first}
use Rattle.utf8_own_characters.specs.Looking.{noted, seen}
use Rattle.utf8_own_characters.specs.Ranking.{ranked}
use Rattle.utf8_own_characters.specs.Reading.{list_of}
use Rattle.utf8_own_characters.specs.Table.{Characters, covers}
use Rattle.utf8_own_characters.proofs.Covered.{all_are_covered}
use Rattle.utf8_own_characters.proofs.Letters.{seen-append}
use Rattle.utf8_own_page.specs.Laws.{PagesAreCovered}
use Rattle.utf8_own_page.specs.Looking.{counts_of, framed}
use Rattle.utf8_own_page.specs.Needing.{IsTableOf}

held_seen : (room : ℕ) (xs : List Count) (cs : List Cluster) (held : Option Cluster) → noted room (seen room xs cs) held ≡ seen room xs (cs ++ list_of held)
held_seen room xs cs None = ap (seen room xs) (sym (append-nil cs))
held_seen room xs cs (Some c) = sym (seen-append room xs cs (c ∷ []))

counts_are : (room : ℕ) (frames : Bool) (text : List ℕ) → counts_of room frames text ≡ seen room (framed room frames) (clusters_in first text)
counts_are room frames text = held_seen room (framed room frames) (done_in first text) (after first text).held

table_is : (t : Characters) (k : Choice) → t.narrow ≡ k.narrow → t.wide ≡ k.wide → table_of k t.halves ≡ t
table_is t k narrow wide =
    ap (λ (xs : List Cluster). record { narrow = xs; wide = k.wide; halves = t.halves }) (sym narrow)
    ∙ ap (λ (xs : List Cluster). record { narrow = t.narrow; wide = xs; halves = t.halves }) (sym wide)

pub pages_are_covered : PagesAreCovered
pages_are_covered frames text t made fits =
    let cs = clusters_in first text in
    let xs = seen 4352 (framed 4352 frames) cs in
    let is : counts_of 4352 frames text ≡ xs = counts_are 4352 frames text in
    let table = subst (λ (ys : List Count). IsTableOf ys t) is made in
    let room = subst (λ (ys : List Count). has_room (narrow_count ys) (wide_count ys) ≡ true) is fits in
    let enough : 4224 < 4352 = omega arith in
    subst (λ (u : Characters). covers u (taking_place cs) ≡ true) (table_is t (chosen nothing (ranked xs)) table.narrow table.wide)
    (all_are_covered 4352 (framed 4352 frames) cs t.halves enough room)
