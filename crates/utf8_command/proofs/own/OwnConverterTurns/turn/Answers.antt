use Rattle.std.proofs.Common.{◌≡◌, ℕ, List, Bool, Option, subst}
use Rattle.std.specs.Borrow.{Bor}
use Rattle.nr_units.specs.Source.{Supply, reader_supply}
use Rattle.document_stages.specs.Running.{Ran}
use Rattle.document_stages.specs.declared.running.RunEnd.{RunEnd}
use Rattle.utf8_own_characters.specs.Table.{Characters}
use Rattle.utf8_own_sink.specs.Reading.{decoding, first}
use Rattle.filters.specs.Turning.{Turned}
use Rattle.filters.specs.declared.endings.Ending.{Ending}
use Rattle.utf8_command.specs.Converting.{ending_of, own}
use Rattle.utf8_command.proofs.Turns.{failures, turned}
use Rattle.utf8_command.proofs.own.OwnConverterTurns.turn.Goals as goal

own_turned : (table : Characters) (escapes : Bool) (name : Bor (List ℕ)) (left : Option (List ℕ)) (says : Bool → List ℕ → List ℕ) (counts : Bool → List ℕ → ℕ)
    (wants : ℕ) (from last : Option Supply) (held new : Option (List ℕ)) (count : ℕ) (outcome : RunEnd) (ending : Ending)
    → says ≡ decoding table (first escapes) → from ≡ reader_supply left → Ran says counts wants from last held new count outcome
    → ending ≡ ending_of name outcome → Turned (own escapes table) (record { name = name.now; left = left }) held new ending
own_turned table escapes name left says counts wants from last held new count outcome ending is supply ran =
    turned (decoding table (first escapes)) counts wants name left from last held new count outcome ending supply
    (subst (λ (f : Bool → List ℕ → List ℕ). Ran f counts wants from last held new count outcome) is ran)

pub returns-clause-turned : goal.returns-clause-turned
returns-clause-turned g c =
    let s = c.args.self.now in
    own_turned s.table.now s.escapes c.args.name _ _ _ _ _ _ _ _ _ c.run-outcome.result _ c.over-decoder.ensures.says c.over-source.ensures.supply
    c.run-outcome.ensures.ran c.ended.ensures

pub returns-clause-failures : goal.returns-clause-failures
returns-clause-failures g c = failures c.args.name c.run-outcome.result _ _ _ c.ended.ensures c.run-outcome.ensures.write_faults
