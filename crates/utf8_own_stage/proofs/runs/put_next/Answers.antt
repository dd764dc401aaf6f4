use Rattle.std.proofs.Common.{ℕ, List, ◌++◌, ◌∙◌, sym, ap, append_assoc}
use Rattle.utf8_own_characters.specs.declared.cluster.Cluster.{Cluster}
use Rattle.utf8_own_characters.specs.Cluster.{single}
use Rattle.utf8_own_characters.proofs.Tests.{not_both}
use Rattle.utf8_own_stage.specs.declared.points.Waiting.TheVariants as waiting
use Rattle.utf8_own_stage.specs.Coding.{coded, put_at}
use Rattle.utf8_own_stage.specs.Letters.{cut_between}
use Rattle.utf8_own_stage.specs.Points.{text_of}
use Rattle.utf8_own_stage.proofs.Quiet.{common_cut, letter_passed, letter_put}
use Rattle.utf8_own_stage.proofs.ReadAs.{single_read}
use Rattle.utf8_own_stage.proofs.runs.put_next.Goals as goal
use Rattle.utf8_own_stage.proofs.runs.put_next.Goals.{then-last, else-last}

pub returns-clause-place : goal.returns-clause-place
returns-clause-place c = sym (letter_passed c.args.place.now c.args.letter c.requires.quiet c.requires.beyond)

pub put_cut-requires-clause-common : goal.put_cut-requires-clause-common
put_cut-requires-clause-common c = λ is. elim c.if-last.branch [
  | then-last w ↦
      common_cut c.args.place.now.before c.args.letter (sym c.requires.last ∙ w.if-last.true)
      (sym c.is_common-common.ensures ∙ sym w.put_cut-is ∙ is)
  | else-last w ↦ not_both c.if-last.put_cut is (w.put_cut-is ∙ w.if-last.false)
]

pub returns-clause-items : goal.returns-clause-items
returns-clause-items c =
    let out = c.args.out.now.items in
    let t = c.args.table.now in
    let p = c.args.place.now in
    let l = c.args.letter in
    c.put_cluster.ensures.items
    ∙ ap (λ (zs : List ℕ). zs ++ coded t c.single.result) c.put_cut.ensures.items
    ∙ append_assoc out (text_of waiting.Nothing (cut_between p.before l)) (coded t c.single.result)
    ∙ ap (λ (x : Cluster). out ++ (text_of waiting.Nothing (cut_between p.before l) ++ coded t x)) c.single.ensures
    ∙ ap (λ (zs : List ℕ). out ++ zs) (sym (letter_put p l (coded t (single l)) c.requires.quiet c.requires.beyond))
    ∙ ap (λ (n : ℕ). out ++ put_at p n (coded t (single l))) (sym (single_read l))
