use Rattle.std.proofs.Common.{◌≤◌, length, arith}
use Rattle.std.proofs.lemmas.List.{length-take}
use Rattle.tbl_reader.proofs.Lines.{took_kept, took_end}
use Rattle.tbl_reader.proofs.reader.Reader.keeps.Goals as goal

pub returns-then-len-eq0 : goal.returns-then-len-eq0
returns-then-len-eq0 g c =
    let value = c.line_len-len.ensures.value in
    took_end g.S.Setter.shows g.S.Setter.hears c.args.bytes.now c.args.self.now c.kept_line_ends.new.self c.args.setter.now c.kept_line_ends.new.setter
    c.requires.kept c.requires.fits c.requires.some (omega (arith, value)) c.kept_line_ends.ensures.page c.kept_line_ends.ensures.emitted

pub returns : goal.returns
returns g c =
    let len = c.line_len-len.result in
    let bytes = c.args.bytes.now in
    let inside : len ≤ length bytes = c.line_len-len.ensures.within in
    let cut = length-take len bytes in
    let few = c.keeps_prefix-count.ensures.within in
    took_kept g.S.Setter.shows g.S.Setter.hears bytes c.keeps_prefix-count.result len c.args.self.now c.keeps_prefix-count.new.self c.kept_more.new.self
    c.args.setter.now c.kept_more.new.setter c.requires.kept c.requires.fits c.line_len-len.ensures.value inside
    c.keeps_prefix-count.ensures.some (omega (arith, cut, few, inside)) c.keeps_prefix-count.ensures.few c.keeps_prefix-count.ensures.page
    c.kept_more.ensures.page c.kept_more.ensures.emitted
