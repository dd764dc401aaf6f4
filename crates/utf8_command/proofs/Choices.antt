-- The table of a page is printed.
use Rattle.std.proofs.Common.{◌≡◌, ◌≢◌, ℕ, List, [], Bool, true, false, Option, None, Some, inr, refl, subst, arith}
use Rattle.nr_units.specs.Failures.{SinkFailures, next_count}
use Rattle.filters.specs.Disk.{IsUnlooked, Opened, Opening}
use Rattle.filters.specs.Program.{Answers, Comes, Puts}
use Rattle.filters.specs.declared.endings.Ending.{Ending}
use Rattle.filters.specs.declared.endings.Ending.TheVariants.{OutOfMemory}
use Rattle.filters.proofs.After.{unanswered}
use Rattle.filters_own.specs.Looking.{IsPrefixIn, IsOf}
use Rattle.utf8_command.specs.Choosing.{ComesToChoice, IsLine, IsLineIn}

-- a call that failed was counted
pub next-some : next_count 0 ≢ 0
unfolding next_count
next-some e = let never : 1 ≡ 0 = e in absurd (omega (arith, never))

line-in : (name : List ℕ) (left : Option (List ℕ)) (prefix line : List ℕ) → IsPrefixIn left prefix → IsLine name prefix line → IsLineIn name left line
line-in name None prefix line is chosen = tt
line-in name (Some bytes) prefix line is chosen = subst (λ (f : List ℕ). IsLine name f line) is chosen

-- a line that was chosen
pub chosen : (may_come : List ℕ → Opening → Type 0) (asked asked' : Option (List (List ℕ))) (held new : Option (List ℕ)) (writes writes' : SinkFailures)
    (passed_on : Bool) (name prefix line : List ℕ) (ending : Ending) → IsOf may_come asked asked' name (λ left. IsPrefixIn left prefix) → IsLine name prefix line
    → Puts line held new passed_on ending → ComesToChoice name (Comes may_come asked asked' held new writes writes' passed_on) ending
chosen may_come asked asked' held new writes writes' passed_on name prefix line ending look is puts =
    let text : Opened = record { name = name; left = look.left } in (
      Answers text line,
      record { left = look.left; line = line; is = line-in name look.left prefix line look.is is; job_is = refl },
      inr (record { opened = look.opened; asks = look.asks; puts = puts }),
    )

-- the text was not looked at
pub unchosen : (may_come : List ℕ → Opening → Type 0) (asked asked' : Option (List (List ℕ))) (held : Option (List ℕ)) (writes : SinkFailures)
    (passed_on : Bool) (name : List ℕ) (ending : Ending) → IsUnlooked may_come asked asked' name ending
    → ComesToChoice name (Comes may_come asked asked' held held writes writes passed_on) ending
unchosen may_come asked asked' held writes passed_on name ending un =
    let text : Opened = record { name = name; left = None } in
    (Answers text [], record { left = None; line = []; is = tt; job_is = refl }, unanswered may_come asked asked' held writes passed_on text [] ending un)

-- there was not enough memory
pub no-memory : (may_come : List ℕ → Opening → Type 0) (asked asked' : Option (List (List ℕ))) (held : Option (List ℕ)) (writes : SinkFailures)
    (passed_on : Bool) (name prefix : List ℕ) → IsOf may_come asked asked' name (λ left. IsPrefixIn left prefix)
    → ComesToChoice name (Comes may_come asked asked' held held writes writes passed_on) OutOfMemory
no-memory may_come asked asked' held writes passed_on name prefix look = unchosen may_come asked asked' held writes passed_on name OutOfMemory (inr look.asks)
