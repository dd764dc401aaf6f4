-- What is read and what goes on, under limits.
use Rattle.std.proofs.Common.{◌≡◌, ◌≤◌, true, false, Result, Ok, Err, Option, Some, None, if◌then◌else◌, ap, sym, subst, ◌∙◌}
use Rattle.std.specs.Prelude.{OnOk}
use Rattle.std.proofs.lemmas.Bool.{cond-true}
use Rattle.nr_fill.specs.declared.line.LineCells.{LineCells}
use Rattle.nr_fill.specs.Piece.{line_cells}
use Rattle.nr_fill.specs.Line as lined
use Rattle.nr_store.specs.declared.request.Request.{Request}
use Rattle.nr_reading.specs.declared.event.Event.{Event}
use Rattle.nr_formatter.specs.declared.formatter.Formatter.{Formatter}
use Rattle.nr_formatter.specs.declared.built_in.BuiltInRegister.{BuiltInRegister}
use Rattle.nr_formatter.specs.declared.passed.Passed.{Passed}
use Rattle.nr_formatter.specs.Access.{collected, asked}
use Rattle.nr_formatter.specs.BuiltIn.{given_named}
use Rattle.nr_formatter.specs.Limits.{IsWithin, FitsMemory, judged}
use Rattle.nr_formatter.specs.Moves.{is_text, text_heard, heard_beside, heard}
use Rattle.nr_formatter.specs.Passed.{line_answer, splice_answer}
use Rattle.nr_formatter.specs.Registers.{given_by, given_register, splice_checked}
use Rattle.nr_formatter.specs.Requests.{act}
use Rattle.nr_formatter.specs.Text.{text}
use Rattle.nr_formatter.specs.Titles.{reads_title, title}
use Rattle.nr_formatter.proofs.Judging.{judged_none, judged_splice}
use Rattle.nr_formatter.proofs.Calm.{IsCalm, calm-act}
use Rattle.nr_formatter.proofs.TextKeeps.{Keeps, keeps-text, keeps-title, judged-keeps}

-- an answer of another type says of the same calls that they were made
pub ok_line : (r : Result (Unit {0}) LineCells) (answer : Result (Unit {0}) Passed) (f g h : Formatter) → answer ≡ line_answer r → g ≡ h → OnOk r (f ≡ g) → OnOk answer (f ≡ h)
ok_line (Ok x) answer f g h same is ok = subst (λ a. OnOk a (f ≡ h)) (sym same) (ok ∙ is)
ok_line (Err e) answer f g h same is ok = subst (λ a. OnOk a (f ≡ h)) (sym same) tt

-- ---- text

keeps-text_heard : (e : Event) (f : Formatter) → Keeps f (text_heard e f)
keeps-text_heard e f = elim (reads_title f) as (λ b. Keeps f (if b then title e f else text e f)) [ true ↦ keeps-title e f | false ↦ keeps-text e f ]

pub heard-text : (e : Event) (f : Formatter) → is_text e ≡ true → text_heard e f ≡ heard e f
heard-text e f is = sym (cond-true (is_text e) (text_heard e f) (heard_beside e f) is)

pub judged-text_heard : (e : Event) (f : Formatter) → is_text e ≡ true → IsWithin f → line_answer (lined.afforded (text_heard e f).line) ≡ judged (heard e f)
judged-text_heard e f is within = sym (judged-keeps f (text_heard e f) (keeps-text_heard e f) within) ∙ ap judged (heard-text e f is)

-- ---- what is read beside text

line-given_by : (r : Option BuiltInRegister) (f : Formatter) → line_cells (collected f) ≤ f.line.limit → line_cells (collected (given_by r f)) ≤ (given_by r f).line.limit
line-given_by None f h = h
line-given_by (Some r) f h = h

pub judged-given_register : (f : Formatter) → IsWithin f → splice_answer (splice_checked (given_register f)) ≡ judged (given_register f)
judged-given_register f within = sym (judged_splice (given_register f) (line-given_by (given_named (asked f)) f within.line))

-- what adds to nothing that has a limit is made
made : (f g : Formatter) → f ≡ g → FitsMemory f → IsCalm g → Ok tt ≡ judged g
made f g is fits calm = sym (judged_none g (subst FitsMemory is fits) calm)

-- ---- what is under way

pub made-act : (r : Request) (old new : Formatter) → new ≡ act r old → FitsMemory new → IsWithin old → Ok tt ≡ judged (act r old)
made-act r old new is fits within = made new (act r old) is fits (calm-act r old within.burst)
