use Rattle.std.proofs.Common.{◌+◌, ◌<◌, length, drop, refl, arith}
use Rattle.document_sources.proofs.Steps.{Came-run}
use Rattle.document_sources.proofs.joining.Joining.read_run.Goals as goal

pub returns-then-count-gt0-clause-stays : goal.returns-then-count-gt0-clause-stays
returns-then-count-gt0-clause-stays g c =
    let s = c.args.self.now in
    let line = s.line.items in
    let n = c.run_len-count.result in
    let fits : length line + n < s.line.capacity =
    (let most = c.run_len-count.ensures.few in let left = c.saturating_sub.ensures in let all = c.capacity.ensures.value in
    let is = c.len.ensures.value in let some = c.if-count-gt0.true in omega (arith, most, left, all, is, some)) in
    Came-run (g.F.Folder.texts s.folder) (g.R.Source.supply s.input) (g.R.Source.supply c.skip.new.self) (drop s.ahead.taken s.ahead.text.items)
    s.line.capacity c.extend.new.self.capacity s.standing s.standing line c.extend.new.self.items c.window-window.result.now n
    c.requires (c.is_spent.ensures c.if-not-is_spent.false) c.run_len-count.ensures.within c.run_len-count.ensures.plain fits
    c.window-window.ensures.offers c.skip.ensures.skips c.extend.ensures.items c.extend.ensures.room refl
