-- The words before the place were taken, and one may await the next.
use Rattle.std.proofs.Common.{◌≡◌, drop}
use Rattle.std.specs.Option.{option_map}
use Rattle.program_options.specs.Job.{asked_of, texts}
use Rattle.program_options.specs.Reading.{asked, comes_to, pending_of}
use Rattle.program_options.proofs.reading.read_words.Given as goal

abbrev pub invariant-loop-at : goal.invariant-loop-at
invariant-loop-at l =
    asked (texts l.words) ≡ comes_to (texts (drop l.at l.words)) (option_map pending_of l.awaited) (asked_of l.job)
