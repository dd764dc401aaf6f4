use Rattle.std.proofs.lemmas.Grind.{common_steps}
use Rattle.std.proofs.Common.{arith}
use Rattle.nr_fill.proofs.title.TitleParts.of.Goals as goal

pub split_at-requires : goal.split_at-requires
split_at-requires c =
    let within = rw c.in-Centre.is at (c.requires.within c.in-Some.state c.in-Some.is) in
    within

pub split_at-requires-in-Right : goal.split_at-requires-in-Right
split_at-requires-in-Right c =
    let within = rw c.in-Right.is at (c.requires.within c.in-Some.state c.in-Some.is) in
    omega arith

pub split_at-requires-in-Right-2 : goal.split_at-requires-in-Right-2
split_at-requires-in-Right-2 c =
    let within = rw c.in-Right.is at (c.requires.within c.in-Some.state c.in-Some.is) in
    omega (arith, c.split_at-in-Right.ensures.back_len)

pub returns-in_default-clause-left : goal.returns-in_default-clause-left
returns-in_default-clause-left c = grind (arith, common_steps)
