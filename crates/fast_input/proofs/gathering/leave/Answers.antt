use Prim.Native.Char.{code}
use Rattle.std.proofs.Common.{◌≡◌, ◌+◌, take, arith}
use Rattle.std.proofs.lemmas.List.{take_all}
use Rattle.fast_input.specs.Gathering.{brace_items}
use Rattle.fast_input.proofs.TextBraces.{after_within, leaves_after}
use Rattle.fast_input.proofs.TextBytes.{shown_after}
use Rattle.fast_input.proofs.TextLeft.{burst_within}
use Rattle.fast_input.proofs.gathering.leave.Goals as goal

pub pass_all-requires : goal.pass_all-requires
pass_all-requires g c =
    let gathered = c.requires.gathered.gathered in
    record { burst = λ some. burst_within c.args.bytes.now c.args.gathered.now.items c.args.gathered.now.moves c.args.gathered.now.splices c.args.store.now c.args.reader.now gathered some }

pub returns-clause-next : goal.returns-clause-next
returns-clause-next g c = λ goes ends all.
    let is = c.requires.gathered in
    let gathered = c.args.gathered.now in
    let within = after_within c.args.bytes.now gathered.items gathered.moves gathered.splices c.args.store.now c.args.reader.now is.gathered c.requires.text gathered.closes is.closes in
    rw (c.skip.ensures, c.brace-brace.ensures) (shown_after (gathered.items + brace_items gathered.closes) (code "\n") c.args.store.now within (is.ends ends))

pub returns-clause-leaves : goal.returns-clause-leaves
returns-clause-leaves g c =
    let is = c.requires.gathered in
    let gathered = c.args.gathered.now in
    let bytes = c.args.bytes.now in
    let past = c.if-taken-gathered.false in
    let all : take c.args.taken bytes ≡ bytes = take_all c.args.taken bytes (omega (arith, past, is.count)) in
    rw (c.if-not-goes.false, c.skip.ensures, c.pass_all.ensures, c.brace-brace.ensures, all)
    (leaves_after bytes gathered.items gathered.moves gathered.splices c.args.store.now c.args.reader.now is.gathered c.requires.text gathered.closes is.closes)
