-- What words set that is a number or one of a few things.
use Rattle.std.specs.Prelude.{None, Some, true, false}
use Rattle.program_options.specs.declared.plain.Plain.{Plain}
use Rattle.program_options.specs.declared.plain.Faces.TheVariants.{Auto}
use Rattle.program_options.specs.declared.plain.Change.{Change}
use Rattle.program_options.specs.declared.plain.Change.TheVariants as changes

-- where no word sets anything
abbrev pub nothing_set : Plain
nothing_set = record {
  device = None;
  width = None;
  faces = Auto;
  shows_bold = false;
  says = None;
  first = 1;
  formats = 262144;
  row = 65536;
  is_paged = false;
  warns = false;
  checks = false;
  reads_input = false;
  is_alone = false;
}

-- with one thing set
abbrev pub changed : Change → Plain → Plain
changed (changes.Device device) plain = record plain { device = Some device }
changed (changes.Width cells) plain = record plain { width = Some cells }
changed (changes.Faces faces) plain = record plain { faces = faces }
changed changes.Bold plain = record plain { shows_bold = true }
changed (changes.Says says) plain = record plain { says = Some says }
changed (changes.First n) plain = record plain { first = n }
changed (changes.Formats bytes) plain = record plain { formats = bytes }
changed (changes.Row bytes) plain = record plain { row = bytes }
changed changes.Paged plain = record plain { is_paged = true }
changed changes.Warns plain = record plain { warns = true }
changed changes.Checks plain = record plain { checks = true }
changed changes.Input plain = record plain { reads_input = true }
changed changes.Alone plain = record plain { is_alone = true }
