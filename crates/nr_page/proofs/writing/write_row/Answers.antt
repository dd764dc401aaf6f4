use Prim.Native.Char.{code}
use Rattle.std.proofs.Common.{◌++◌, [], ◌∷◌, take, replicate, sym, ap, ◌∙◌, append_assoc}
use Rattle.std.proofs.lemmas.Result.{err_from_is_err_and}
use Rattle.std.specs.List.{flat_map}
use Rattle.nr_page.specs.PageBytes.{cell_bytes}
use Rattle.nr_page.specs.Overlay.{line_bytes}
use Rattle.nr_page.proofs.Prefixes.{Gathers-append, Gathers-prefix, GathersOrFails-last, prefix_of_more}
use Rattle.nr_page.proofs.PageText.{line_bytes-trimmed}
use Rattle.nr_page.proofs.writing.write_row.Goals as goal

pub returns-in_err-write_newlines-clause-gathers : goal.returns-in_err-write_newlines-clause-gathers
returns-in_err-write_newlines-clause-gathers g c =
    let z = err_from_is_err_and c.from_residual.result c.from_residual.ensures.1 in
    rw z.1 (prefix_of_more _ _ c.args.pending.now.items (replicate c.args.empty (code "\n")) (line_bytes c.args.faces c.args.cells.now) c.in_err-write_newlines.ensures.gathers)

pub returns-in_err-write_cells-clause-gathers : goal.returns-in_err-write_cells-clause-gathers
returns-in_err-write_cells-clause-gathers g c =
    let z = err_from_is_err_and c.from_residual-in_err-write_cells.result c.from_residual-in_err-write_cells.ensures.1 in
    let size = c.trimmed_len.result in
    let own = flat_map (cell_bytes c.args.faces) (take size c.args.cells.now) in
    let line = line_bytes-trimmed c.args.faces c.args.cells.now size c.trimmed_len.ensures.trimmed c.trimmed_len.ensures.within in
    rw z.1 (Gathers-prefix _ _ _ _ _ _ _ (code "\n" ∷ []) _ c.in_ok-write_newlines.ensures.gathers c.in_err-write_cells.ensures.gathers
    (ap (λ bs. replicate c.args.empty (code "\n") ++ bs) line ∙ sym (append_assoc (replicate c.args.empty (code "\n")) own (code "\n" ∷ []))))

pub returns-clause-gathers : goal.returns-clause-gathers
returns-clause-gathers g c =
    let size = c.trimmed_len.result in
    let own = flat_map (cell_bytes c.args.faces) (take size c.args.cells.now) in
    let line = line_bytes-trimmed c.args.faces c.args.cells.now size c.trimmed_len.ensures.trimmed c.trimmed_len.ensures.within in
    GathersOrFails-last _ _ _ _ _ _ _ _ _ c.write_newlines-2.result (Gathers-append c.in_ok-write_newlines.ensures.gathers c.in_ok-write_cells.ensures.gathers) c.write_newlines-2.ensures.gathers
    (ap (λ bs. replicate c.args.empty (code "\n") ++ bs) line ∙ sym (append_assoc (replicate c.args.empty (code "\n")) own (code "\n" ∷ [])))
