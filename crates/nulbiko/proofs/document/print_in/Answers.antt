use Rattle.std.proofs.Common.{◌≡◌, ◌∙◌, ℕ, List, ap, refl, sym}
use Rattle.preconv_coding.specs.UnderCoding.{text_of}
use Rattle.nulbiko.specs.Document.{sets_of, table_for}
use Rattle.nulbiko.proofs.OwnRun.{has-own, printed-fixed, printed-own}
use Rattle.nulbiko.proofs.document.print_in.Goals as goal

pub returns-in_default-clause-printed : goal.returns-in_default-clause-printed
returns-in_default-clause-printed c = λ bounds two. absurd (two refl)

pub returns-in_default-table_for-clause-printed : goal.returns-in_default-table_for-clause-printed
returns-in_default-table_for-clause-printed c = λ bounds two. absurd (two refl)

pub returns-in_default-own_cells-clause-printed : goal.returns-in_default-own_cells-clause-printed
returns-in_default-own_cells-clause-printed c = λ bounds two. absurd (two refl)

pub returns-in-Some-clause-printed : goal.returns-in-Some-clause-printed
returns-in-Some-clause-printed c = λ bounds two. absurd (two refl)

pub returns-clause-printed : goal.returns-clause-printed
returns-clause-printed c = λ bounds two. absurd (two refl)

pub returns-in-Ok-prepare_own-clause-printed : goal.returns-in-Ok-prepare_own-clause-printed
returns-in-Ok-prepare_own-clause-printed c = λ bounds two short.
    let setup = c.args.asked.setup.now in
    let page = text_of c.args.page.now in
    let first : c.deref.result.now ≡ page = c.deref.ensures.value ∙ c.in-Ok.ensures in
    let second : c.deref-2.result.now ≡ page = c.deref-2.ensures.value ∙ c.in-Ok.ensures in
    let third : c.deref-in-Some.result.now ≡ page = c.deref-in-Some.ensures.value ∙ c.in-Ok.ensures in
    let last : c.deref-in-Ok-prepare_own.result.now ≡ page = c.deref-in-Ok-prepare_own.ensures.value ∙ c.in-Ok.ensures in
    printed-own setup c.args.asked.macros.now page _ _ _ _ _ _ last
    (has-own setup page _ _ _ _ _ first second c.in-Ok-table_for.ensures c.in-Ok-own_cells.ensures c.in-Some.is short.own)
    short.own c.in-Ok-prepare_own.ensures.cells
    (c.print_own.ensures.printed
    (c.in-Ok-prepare_own.ensures.sets ∙ ap (λ (z : List ℕ). sets_of setup z) (third ∙ sym last))
    c.in-Ok-prepare_own.ensures.pages bounds c.in-Ok-prepare_own.ensures.tables)

pub returns-in-Ok-prepare-clause-printed : goal.returns-in-Ok-prepare-clause-printed
returns-in-Ok-prepare-clause-printed c = λ bounds two short.
    let setup = c.args.asked.setup.now in
    let page = text_of c.args.page.now in
    let first : c.deref.result.now ≡ page = c.deref.ensures.value ∙ c.in-Ok.ensures in
    let second : c.deref-2.result.now ≡ page = c.deref-2.ensures.value ∙ c.in-Ok.ensures in
    let third : c.deref-in-None.result.now ≡ page = c.deref-in-None.ensures.value ∙ c.in-Ok.ensures in
    let last : c.deref-in-Ok-prepare.result.now ≡ page = c.deref-in-Ok-prepare.ensures.value ∙ c.in-Ok.ensures in
    printed-fixed setup c.args.asked.macros.now page _ _ _ _ last
    (has-own setup page _ _ _ _ _ first second c.in-Ok-table_for.ensures c.in-Ok-own_cells.ensures c.in-None.is short.own)
    short.page
    (c.print_document.ensures.printed
    (c.in-Ok-prepare.ensures.sets ∙ ap (λ (z : List ℕ). sets_of setup z) (third ∙ sym last))
    (c.in-Ok-prepare.ensures.characters ∙ c.in-Ok-table_for.ensures ∙ ap (λ (z : List ℕ). table_for setup.options.table z) (first ∙ sym last))
    c.in-Ok-prepare.ensures.pages bounds c.in-Ok-prepare.ensures.tables)
