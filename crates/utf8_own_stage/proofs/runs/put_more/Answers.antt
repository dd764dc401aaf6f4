use Rattle.std.proofs.Common.{ℕ, List, ◌+◌, ◌++◌, ◌∙◌, take, drop, Some, refl, sym, ap, subst, append_assoc, arith}
use Rattle.std.proofs.lemmas.List.{length-drop, take_rest}
use Rattle.utf8_own_characters.specs.Cluster.{single}
use Rattle.utf8_own_stage.specs.declared.points.Place.{Place}
use Rattle.utf8_own_stage.specs.Coding.{said_cluster, said_of}
use Rattle.utf8_own_stage.specs.Letters.{Begins, holding}
use Rattle.utf8_own_stage.specs.Points.{passed}
use Rattle.utf8_own_stage.proofs.LettersMore.{After, after_more, said_more}
use Rattle.utf8_own_stage.proofs.ReadAs.{single_read}
use Rattle.utf8_own_stage.proofs.runs.put_more.Goals as goal

pub loop-next-preserved : goal.loop-next-preserved
loop-next-preserved c =
    let t = c.args.table.now in
    let bs = c.args.bytes.now in
    let n = c.loop-next.count in
    let d = c.in-Some.next in
    let l = holding c.args.first in
    let m = holding c.loop-next.letter in
    let p = c.args.place.now in
    let q = c.loop-next.place in
    let before = c.loop-next.invariant in
    let begins : Begins (drop n bs) d = subst (λ (zs : List ℕ). Begins zs d) (take_rest bs n) (c.in-Some.ensures d refl) in
    let long = begins.long in
    let rest = length-drop n bs in
    let inside = before.within in
    let put = c.put_next-last.ensures in
    record {
      within = omega (arith, long, rest, inside);
      room = put.room ∙ before.room;
      few = (let said = put.few in let few = before.few in omega (arith, said, few));
      beyond = begins.beyond;
      quiet = put.quiet;
      common = put.common;
      so_far =
          subst (λ (z : Place). After l (holding d) p z bs (n + 3)) (ap (passed q) (single_read c.loop-next.letter) ∙ sym put.place)
          (after_more l m p q bs n d before.so_far begins);
      items =
          put.items
          ∙ ap (λ (zs : List ℕ). zs ++ said_cluster t q (Some (single c.loop-next.letter))) before.items
          ∙ append_assoc c.args.out.now.items (said_of t l p (take n bs)) (said_cluster t q (Some (single c.loop-next.letter)))
          ∙ ap (λ (zs : List ℕ). c.args.out.now.items ++ zs) (said_more t l m p q bs n d before.so_far begins);
    }
