use Rattle.std.proofs.Common.{◌≡◌, ◌∙◌, ◌<◌, ℕ, List, length, refl, subst}
use Rattle.preconv_coding.specs.UnderCoding.{text_of}
use Rattle.preconv_characters.specs.declared.target.Target.TheVariants.{Utf8}
use Rattle.document_reader.specs.Page.{own_of, plain_of}
use Rattle.utf8_own_characters.specs.Table.{Characters}
use Rattle.nulbiko.specs.Looked.{characters_alone, counts_in}
use Rattle.nulbiko.specs.Reported.{IsHanded, code_within}
use Rattle.nulbiko.proofs.OwnRun.{made-as}
use Rattle.nulbiko.proofs.StagedRun.{made-own}
use Rattle.nulbiko.proofs.staged.nulbiko_preconv_own_lent.Goals as goal

pub returns-in_default-clause-made : goal.returns-in_default-clause-made
returns-in_default-clause-made c = λ done short. absurd (done refl)

pub returns-in_default-text_of-clause-made : goal.returns-in_default-text_of-clause-made
returns-in_default-text_of-clause-made c = λ done short. absurd (done refl)

pub returns-clause-made : goal.returns-clause-made
returns-clause-made c = λ done short.
    let page = text_of c.args.page.now in
    let text = text_of c.args.input.now in
    let is : c.deref.result.now ≡ text = c.deref.ensures.value ∙ c.in-Ok-text_of.ensures in
    let table = c.table-table.result in
    let out = c.code_text-written.new.output in
    let end = c.code_text-written.result in
    made-own page (λ (t : Characters). own_of characters_alone t text) _ _ _ _ table c.of_bytes.ensures
    (made-as (counts_in page) _ _ c.table-table.ensures.made (c.in-Ok.ensures short.look))
    (subst (λ (z : List ℕ). length z < 1099511627776 → length (plain_of characters_alone Utf8 z) < 1099511627776
    → IsHanded (own_of characters_alone table z) out end.0) is c.code_text-written.ensures.handed short.text_is short.plain)
    (subst (λ (z : List ℕ). length z < 1099511627776 → length (plain_of characters_alone Utf8 z) < 1099511627776
    → end.1 ≡ code_within 0 (length (own_of characters_alone table z)) (length out)) is c.code_text-written.ensures.code short.text_is short.plain)
