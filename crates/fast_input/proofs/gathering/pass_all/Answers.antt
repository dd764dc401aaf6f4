use Rattle.std.proofs.Common.{arith}
use Rattle.fast_input.proofs.gathering.pass_all.Goals as goal

pub pass_splices-requires : goal.pass_splices-requires
pass_splices-requires c =
    let fits = c.requires.burst c.in-Some.ensures.there in
    let count = c.len.ensures.value in
    record { burst = omega (arith, fits, count) }
