use Rattle.std.proofs.Common.{ℕ, ap, ◌∙◌}
use Rattle.tbl_blocks.specs.declared.blocks.Blocks.{Blocks}
use Rattle.tbl_blocks.specs.Words.{is_request, line_as, tag_taken}
use Rattle.tbl_blocks.proofs.blocks.Blocks.read_line.Goals as goal

pub returns : goal.returns
returns c =
    let s = c.args.self.now in
    let read : Blocks = line_as (is_request c.args.line.now) c.args.line.now c.args.place s in
    c.take_tag.ensures
    ∙ ap (λ (x : Blocks). tag_taken s.reading.tag c.len-first.result x) c.read_as.ensures
    ∙ ap (λ (n : ℕ). tag_taken s.reading.tag n read) c.len-first.ensures.value
