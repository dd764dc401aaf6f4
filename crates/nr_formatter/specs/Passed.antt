-- The limit that a move would pass, by what refused it.
use Rattle.std.specs.Prelude.{Result, Ok, Err}
use Rattle.nr_fill.specs.declared.line.LineCells as cells
use Rattle.nr_input.specs.declared.refusal.Refusal.{Refusal}
use Rattle.nr_input.specs.declared.refusal.Refusal.TheVariants as refusals
use Rattle.nr_formatter.specs.declared.passed.Passed.{Passed}
use Rattle.nr_formatter.specs.declared.passed.Passed.TheVariants as measures

-- what refuses a splice
abbrev pub passed_of : Refusal → Passed
passed_of refusals.Depth = measures.Depth
passed_of refusals.Expansions = measures.Expansions
passed_of r = measures.Stored

-- the answer of a call that adds to the line
abbrev pub line_answer : Result (Unit {0}) cells.LineCells → Result (Unit {0}) Passed
line_answer (Ok x) = Ok x
line_answer (Err e) = Err measures.LineCells

-- the answer of a splice
abbrev pub splice_answer : Result (Unit {0}) Refusal → Result (Unit {0}) Passed
splice_answer (Ok x) = Ok x
splice_answer (Err e) = Err (passed_of e)
