-- What a call that formats comes to.
use Rattle.std.specs.Prelude.{◌≡◌, ℕ, Bool, if◌then◌else◌, List, [], length, false, None, Some}
use Rattle.nr_options.specs.Limits.{Bounds}
use Rattle.nr_page.specs.declared.faces.Faces.{Faces}
use Rattle.nr_page.specs.declared.faces.Faces.TheVariants.{Letters, All}
use Rattle.nr_options.specs.declared.options.Options.{Options}
use Rattle.nr_machine.specs.State.{start}
use Rattle.nr_machine.specs.Run.{Answers, is_read_fault}
use Rattle.nr_machine.specs.declared.outcome.Measure.{Measure}
use Rattle.nr_machine.specs.declared.outcome.Measure.TheVariants as measures
use Rattle.nr_machine.specs.declared.outcome.Outcome.{Outcome}
use Rattle.nr_machine.specs.declared.outcome.Outcome.TheVariants.{Done, Limit, ReadFault, TooLong, WriteFault}
use Rattle.nulbiko.specs.Reported.{IsHanded, code_within, count_reported, whole_text}
use Rattle.nulbiko.specs.declared.formatting.TextLimits.{TextLimits}
use Rattle.nulbiko.specs.declared.formatting.TextOptions.{TextOptions}
use Rattle.nulbiko.specs.declared.reported.Report.{Report}

-- what the limits bound
abbrev pub bounds_of : TextLimits → Bounds
bounds_of limits =
    record {
      stored = limits.stored;
      depth = limits.depth;
      cells = limits.cells;
      expansions = limits.expansions;
      moves = limits.moves;
    }

-- the number of an outcome
abbrev pub code_of : Outcome → ℕ
code_of Done = 0
code_of (Limit which at) = 1
-- there is no room for the next byte
code_of WriteFault = 4
code_of TooLong = 6
-- never reported
code_of (ReadFault at) = 9

abbrev pub limit_number : Measure → ℕ
limit_number measures.Stored = 1
limit_number measures.Depth = 2
limit_number measures.LineCells = 3
limit_number measures.PageCells = 4
limit_number measures.Expansions = 5
limit_number measures.Moves = 6

-- which limit would be passed, and 0 where none would
abbrev pub limit_reported : Outcome → ℕ
limit_reported (Limit which at) = limit_number which
limit_reported outcome = 0

-- after how many bytes of the text
abbrev pub place_reported : Outcome → ℕ
place_reported (Limit which at) = at
place_reported outcome = 0

-- where bold is asked for, each cell but a blank shows as it looks
abbrev pub faces_of : Bool → Faces
faces_of bold = if bold then All else Letters

-- the first page has this number, no register is set, all pages are printed, and they show these faces
pub record AreAsked (asked : TextOptions) (options : Options) : Type 0 where
  pub first_page : options.first ≡ asked.first
  pub no_registers : options.registers.items ≡ []
  pub all_pages : options.select ≡ None
  pub faces : options.faces ≡ faces_of asked.bold

-- The text was formatted under the bounds, and its pages were handed over.
pub record FormatsText (b : Bounds) (wanted : TextOptions) (text output : List ℕ) (report : Report)
    (code : ℕ) : Type 0 where
  pub options : Options
  pub asked : AreAsked wanted options
  pub moves : ℕ
  pub outcome : Outcome
  pub bytes : List ℕ
  pub answers : Answers b (start b options (whole_text text)) moves outcome (Some []) (Some bytes)
  pub handed : IsHanded bytes output report.written
  pub code_is : code ≡ code_within (code_of outcome) (length bytes) (length output)
  pub moves_reported : report.moves ≡ count_reported moves
  pub limit : report.limit ≡ limit_reported outcome
  pub place : report.at ≡ place_reported outcome
  pub none_dropped : report.dropped ≡ 0
  pub no_line : report.line ≡ 0
  -- a slice doesn't fail
  pub readable : is_read_fault outcome ≡ false
