-- Texts are turned by the table of what was looked at.
use Rattle.std.proofs.Common.{◌≡◌, ℕ, List, [], Bool, true, Option, None, Some, inr, refl, subst}
use Rattle.nr_units.specs.Failures.{SinkFailures}
use Rattle.utf8_own_characters.specs.declared.counting.Count.{Count}
use Rattle.utf8_own_characters.specs.Ranking.{ranked}
use Rattle.utf8_own_characters.specs.Table.{Characters}
use Rattle.utf8_own_page.specs.Needing.{IsMadeOf}
use Rattle.filters.specs.Disk.{IsUnlooked, MayCome, Opened, Opening}
use Rattle.filters.specs.Program.{Comes, TurnsAfter, TurnsNames}
use Rattle.filters.specs.Turning.{Filter}
use Rattle.filters.specs.declared.endings.Ending.{Ending}
use Rattle.filters.specs.declared.endings.Ending.TheVariants.{OutOfMemory}
use Rattle.filters.proofs.After.{turned-after, unlooked}
use Rattle.filters_own.specs.Looking.{AreRankedIn, ComesTo, IsPrefixIn, IsOf, IsTableIn, LookIsShort, counts_in, prefix_in}

-- what was counted of the first bytes
pub ranked-in : (left : Option (List ℕ)) (prefix : List ℕ) (cells : List Count) → IsPrefixIn left prefix
    → (LookIsShort prefix → cells ≡ ranked (counts_in true prefix)) → AreRankedIn left cells
ranked-in None prefix cells is ranks = tt
ranked-in (Some bytes) prefix cells is ranks = subst (λ (f : List ℕ). LookIsShort f → cells ≡ ranked (counts_in true f)) is ranks

-- and the table of it
table-in : (left : Option (List ℕ)) (cells : List Count) (table : Characters) → AreRankedIn left cells → IsMadeOf cells table → IsTableIn left table
table-in None cells table ranks made = tt
table-in (Some bytes) cells table ranks made = λ short. subst (λ (xs : List Count). IsMadeOf xs table) (ranks short) made

-- ---- how that ended

pub own-turned : (f : Characters → Filter) (standard first : Option (List ℕ)) (new old : List ℕ → Opening → Type 0) (asked between asked' : Option (List (List ℕ)))
    (held last : Option (List ℕ)) (writes writes' : SinkFailures) (passed_on : Bool) (file : List ℕ) (cells : List Count) (table : Characters)
    (names : List (List ℕ)) (ending : Ending) → standard ≡ first → ((other : List ℕ) → (o : Opening) → new other o → old other o)
    → IsOf (MayCome first old) asked between file (λ left. AreRankedIn left cells) → IsMadeOf cells table
    → TurnsNames (MayCome standard new) between asked' held last writes writes' passed_on (f table) names ending
    → ComesTo f file names (Comes (MayCome first old) asked asked' held last writes writes' passed_on) ending
own-turned f standard first new old asked between asked' held last writes writes' passed_on file cells table names ending same stays look made turns =
    let text : Opened = record { name = file; left = look.left } in (
      TurnsAfter text (f table) names,
      record { left = look.left; table = table; made = table-in look.left cells table look.is made; job_is = refl },
      turned-after standard first new old asked between asked' held last writes writes' passed_on text (f table) names ending same stays look.opened look.asks turns,
    )

abbrev no_characters : Characters
no_characters = record { narrow = []; wide = []; halves = 0 }

pub own-unlooked : (f : Characters → Filter) (may_come : List ℕ → Opening → Type 0) (asked asked' : Option (List (List ℕ))) (held : Option (List ℕ))
    (writes : SinkFailures) (passed_on : Bool) (file : List ℕ) (names : List (List ℕ)) (ending : Ending) → IsUnlooked may_come asked asked' file ending
    → ComesTo f file names (Comes may_come asked asked' held held writes writes passed_on) ending
own-unlooked f may_come asked asked' held writes passed_on file names ending un =
    let text : Opened = record { name = file; left = None } in (
      TurnsAfter text (f no_characters) names,
      record { left = None; table = no_characters; made = tt; job_is = refl },
      unlooked may_come asked asked' held writes passed_on text (f no_characters) names ending un,
    )

-- there was not enough memory after it
pub own-no-memory : (f : Characters → Filter) (may_come : List ℕ → Opening → Type 0) (asked asked' : Option (List (List ℕ))) (held : Option (List ℕ))
    (writes : SinkFailures) (passed_on : Bool) (file : List ℕ) (cells : List Count) (names : List (List ℕ))
    → IsOf may_come asked asked' file (λ left. AreRankedIn left cells)
    → ComesTo f file names (Comes may_come asked asked' held held writes writes passed_on) OutOfMemory
own-no-memory f may_come asked asked' held writes passed_on file cells names look =
    own-unlooked f may_come asked asked' held writes passed_on file names OutOfMemory (inr look.asks)
