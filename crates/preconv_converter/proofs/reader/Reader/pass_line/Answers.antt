use Rattle.std.proofs.Common.{◌≤◌, ◌-◌, length, drop, arith}
use Rattle.std.proofs.lemmas.List.{length-take}
use Rattle.preconv_converter.proofs.Plain.{Passes-both}
use Rattle.preconv_converter.proofs.reader.Reader.pass_line.Goals as goal

pub returns-clause-plain : goal.returns-clause-plain
returns-clause-plain c =
    let bs = c.args.bytes.now in
    let n = c.pass_one-first.result in
    let k = length bs - n in
    let cut = length-take k (drop n bs) in
    let prefix = c.pass_text.ensures.within in
    let within : c.pass_text.result ≤ k = omega (arith, cut, prefix) in
    Passes-both n c.pass_text.result k bs c.args.self.now c.pass_one-first.new.self c.pass_text.new.self within c.pass_one-first.ensures.plain c.pass_text.ensures.plain
