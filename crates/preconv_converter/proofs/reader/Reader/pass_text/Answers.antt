use Rattle.std.proofs.Common.{◌≤◌, ◌-◌, length, drop, arith}
use Rattle.std.proofs.lemmas.List.{length-take}
use Rattle.preconv_converter.proofs.Plain.{Passes-both}
use Rattle.preconv_converter.proofs.reader.Reader.pass_text.Goals as goal

pub returns-clause-plain : goal.returns-clause-plain
returns-clause-plain c =
    let bs = c.args.bytes.now in
    let n = c.pass_run-run.result in
    let k = length bs - n in
    let cut = length-take k (drop n bs) in
    let prefix = c.pass_stop.ensures.within in
    let within : c.pass_stop.result ≤ k = omega (arith, cut, prefix) in
    Passes-both n c.pass_stop.result k bs c.args.self.now c.pass_run-run.new.self c.pass_stop.new.self within c.pass_run-run.ensures.plain c.pass_stop.ensures.plain
