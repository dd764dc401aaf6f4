use Rattle.std.proofs.Common.{◌≡◌, drop, Some}
use Rattle.mdoc_layout.specs.declared.page.Prefix.TheVariants as prefixes
use Rattle.mdoc_layout.specs.declared.page.Scan.TheVariants as scans
use Rattle.mdoc_converter.specs.Passing.{leads_on}
use Rattle.mdoc_converter.proofs.passing.passes_unchanged.Given as goal

abbrev pub invariant-loop-byte : goal.invariant-loop-byte
invariant-loop-byte l = leads_on l.scan (drop l.byte-index l.text) ≡ leads_on (Some (scans.Asleep prefixes.Nothing 0)) l.text
