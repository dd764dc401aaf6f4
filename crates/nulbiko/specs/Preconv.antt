-- What a call of preconv comes to.
use Rattle.std.specs.Prelude.{◌≡◌, ℕ, List, [], length, false, Option, Some}
use Rattle.nr_units.specs.Source.{Supply}
use Rattle.utf8_characters.specs.declared.table.FixedTable.{FixedTable}
use Rattle.preconv_coding.specs.UnderCoding.{text_supply}
use Rattle.document_stages.specs.Running.{is_read_fault}
use Rattle.preconv_converter.specs.Running.{Ran}
use Rattle.preconv_characters.specs.Targets.{target_of}
use Rattle.document_stages.specs.declared.running.RunEnd.{RunEnd}
use Rattle.document_stages.specs.declared.running.RunEnd.TheVariants.{Done, ReadFault, TooLong, WriteFault}
use Rattle.nulbiko.specs.Reported.{IsHanded, code_within, whole_text}
use Rattle.nulbiko.specs.declared.reported.Report.{Report}

-- the number of an outcome
abbrev pub code_of : RunEnd → ℕ
code_of Done = 0
code_of WriteFault = 4
code_of TooLong = 6
-- never reported
code_of (ReadFault at) = 9

-- The text, read under its coding, was turned into the language, with bytes for characters of the table if
-- there is one, and what came out was handed over.
pub record TurnsText (table : Option FixedTable) (text output : List ℕ) (report : Report) (code : ℕ) : Type 0 where
  pub outcome : RunEnd
  pub left : Option Supply
  pub bytes : List ℕ
  pub ran : Ran (target_of table) (text_supply (Some (whole_text text))) left (Some []) (Some bytes) report.moves outcome
  pub handed : IsHanded bytes output report.written
  pub code_is : code ≡ code_within (code_of outcome) (length bytes) (length output)
  pub no_limit : report.limit ≡ 0
  pub no_place : report.at ≡ 0
  pub none_dropped : report.dropped ≡ 0
  pub no_line : report.line ≡ 0
  -- a slice doesn't fail
  pub readable : is_read_fault outcome ≡ false
