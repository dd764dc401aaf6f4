-- Pages that are no mdoc(7): none of the first sixty-four lines that are neither empty nor comments begins
-- with `.Dd` and what ends a word.
use Rattle.std.specs.Prelude.{ℕ, List, [], ◌∷◌, Bool, if◌then◌else◌, Option, None, Some, is_some}
use Rattle.mdoc_layout.specs.declared.page.Prefix.{Prefix}
use Rattle.mdoc_layout.specs.declared.page.Prefix.TheVariants as prefixes
use Rattle.mdoc_layout.specs.declared.page.Scan.{Scan}
use Rattle.mdoc_layout.specs.declared.page.Scan.TheVariants as scans
use Rattle.mdoc_words.specs.Keeping.{ends_word}
use Rattle.mdoc_converter.specs.Scanning.{prefix_grows, given_up, passes_to}

-- where a byte leads that goes on no `.Dd`: nowhere, if it ends one
abbrev pub leads_after : Prefix → ℕ → ℕ → Option Scan
leads_after prefixes.Whole lines b =
    if ends_word b then None else Some (passes_to (given_up prefixes.Whole) lines b)
leads_after prefix lines b = Some (passes_to (given_up prefix) lines b)

abbrev pub leads_with : Option Prefix → Prefix → ℕ → ℕ → Option Scan
leads_with None prefix lines b = leads_after prefix lines b
leads_with (Some more) prefix lines b = Some (scans.Asleep more lines)

abbrev pub leads_from : Scan → ℕ → Option Scan
leads_from (scans.Asleep prefix lines) b = leads_with (prefix_grows prefix b) prefix lines b
leads_from scan b = Some scan

abbrev pub leads : Option Scan → ℕ → Option Scan
leads None b = None
leads (Some scan) b = leads_from scan b

abbrev pub leads_on : Option Scan → List ℕ → Option Scan
leads_on scan [] = scan
leads_on scan (b ∷ bs) = leads_on (leads scan b) bs

-- no line begins so
abbrev pub is_other : List ℕ → Bool
is_other text = is_some (leads_on (Some (scans.Asleep prefixes.Nothing 0)) text)
