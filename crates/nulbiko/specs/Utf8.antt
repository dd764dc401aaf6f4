-- What a call of utf8 comes to.
use Rattle.std.specs.Prelude.{◌≡◌, ℕ, List, [], length, take, Bool, false, Option, Some}
use Rattle.nr_units.specs.Source.{Supply}
use Rattle.utf8_characters.specs.declared.table.FixedTable.{FixedTable}
use Rattle.utf8_converter.specs.Choosing.{IsBest, chosen, looked_at}
use Rattle.document_stages.specs.Running.{is_read_fault}
use Rattle.utf8_converter.specs.Running.{Ran}
use Rattle.document_stages.specs.declared.running.RunEnd.{RunEnd}
use Rattle.document_stages.specs.declared.running.RunEnd.TheVariants.{Done, ReadFault, TooLong, WriteFault}
use Rattle.nulbiko.specs.Tables.{number_of}
use Rattle.nulbiko.specs.Reported.{IsHanded, code_within, whole_text}
use Rattle.nulbiko.specs.declared.reported.Report.{Report}

-- the number of an outcome
abbrev pub code_of : RunEnd → ℕ
code_of Done = 0
code_of WriteFault = 4
code_of TooLong = 6
-- never reported
code_of (ReadFault at) = 9

-- The bytes became characters of the table, and what came out was handed over; how many were dropped is
-- reported.
pub record TurnsBytes (table : FixedTable) (escapes : Bool) (text output : List ℕ) (report : Report)
    (code : ℕ) : Type 0 where
  pub outcome : RunEnd
  pub left : Option Supply
  pub bytes : List ℕ
  pub ran : Ran table escapes (Some (whole_text text)) left (Some []) (Some bytes) report.dropped outcome
  pub handed : IsHanded bytes output report.written
  pub code_is : code ≡ code_within (code_of outcome) (length bytes) (length output)
  pub no_moves : report.moves ≡ 0
  pub no_limit : report.limit ≡ 0
  pub no_place : report.at ≡ 0
  pub no_line : report.line ≡ 0
  -- a slice doesn't fail
  pub readable : is_read_fault outcome ≡ false

-- the number of the table that has most characters of the text, and so leaves the fewest out
pub record ChoosesNumber (text : List ℕ) (number : ℕ) : Type 0 where
  pub is : number ≡ number_of (chosen (take looked_at text))
  pub best : IsBest (take looked_at text) (chosen (take looked_at text))
