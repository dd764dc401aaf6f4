-- Whether a move is made, by what it adds to.
use Rattle.std.proofs.Common.{◌≡◌, ◌≤◌, length, Bool, true, false, Result, Ok, Err, Some, None, if◌then◌else◌, refl}
use Rattle.std.proofs.lemmas.Bool.{le-ltb}
use Rattle.nr_fill.specs.Piece.{line_cells}
use Rattle.nr_fill.specs.Line as lined
use Rattle.nr_store.specs.Store as stored
use Rattle.nr_input.specs.declared.refusal.Refusal.{Refusal}
use Rattle.nr_input.specs.declared.refusal.Refusal.TheVariants as refusals
use Rattle.nr_formatter.specs.declared.formatter.Formatter.{Formatter}
use Rattle.nr_formatter.specs.declared.passed.Passed.{Passed}
use Rattle.nr_formatter.specs.declared.passed.Passed.TheVariants as measures
use Rattle.nr_formatter.specs.Access.{collected}
use Rattle.nr_formatter.specs.Limits.{FitsMemory, judged, judged_by}
use Rattle.nr_formatter.specs.Passed.{line_answer, splice_answer}
use Rattle.nr_formatter.specs.Registers.{splice_checked}

-- what four tests answer, in their order
abbrev tested : Bool → Bool → Bool → Bool → Result (Unit {0}) Passed
tested s d l b = judged_by (if s then Some measures.Stored else (if d then Some measures.Depth else (if l then Some measures.LineCells else (if b then Some measures.Expansions else None))))

abbrev spliced : Bool → Bool → Bool → Result (Unit {0}) Refusal
spliced s d b = if s then Err refusals.Stored else (if d then Err refusals.Depth else (if b then Err refusals.Expansions else Ok tt))

none_by : (s d l b : Bool) → s ≡ false → d ≡ false → l ≡ false → b ≡ false → tested s d l b ≡ Ok tt
none_by false false false false _ _ _ _ = refl
none_by true d l b h _ _ _ = cc
none_by false true l b _ h _ _ = cc
none_by false false true b _ _ h _ = cc
none_by false false false true _ _ _ h = cc

line_by : (s d l b : Bool) → s ≡ false → d ≡ false → b ≡ false → tested s d l b ≡ line_answer (if l then Err (record {}) else Ok tt)
line_by false false true b _ _ _ = refl
line_by false false false false _ _ _ = refl
line_by true d l b h _ _ = cc
line_by false true l b _ h _ = cc
line_by false false false true _ _ h = cc

splice_by : (s d l b : Bool) → l ≡ false → tested s d l b ≡ splice_answer (spliced s d b)
splice_by true d l b _ = refl
splice_by false true l b _ = refl
splice_by false false false true _ = refl
splice_by false false false false _ = refl
splice_by false false true b h = cc

-- a move that keeps all limits is made
pub judged_none : (g : Formatter) → FitsMemory g → g.reader.burst ≤ g.reader.most → judged g ≡ Ok tt
judged_none g fits burst =
    none_by _ _ _ _ (le-ltb g.store.limit (stored.charge_of g.store) fits.stored) (le-ltb g.store.deepest (length g.store.levels) fits.depth)
    (le-ltb g.line.limit (line_cells (collected g)) fits.line) (le-ltb g.reader.most g.reader.burst burst)

-- a move that adds to the line alone
pub judged_line : (g : Formatter) → stored.charge_of g.store ≤ g.store.limit → length g.store.levels ≤ g.store.deepest → g.reader.burst ≤ g.reader.most
    → judged g ≡ line_answer (lined.afforded g.line)
judged_line g charge depth burst =
    line_by _ _ _ _ (le-ltb g.store.limit (stored.charge_of g.store) charge) (le-ltb g.store.deepest (length g.store.levels) depth) (le-ltb g.reader.most g.reader.burst burst)

-- a move that splices
pub judged_splice : (g : Formatter) → line_cells (collected g) ≤ g.line.limit → judged g ≡ splice_answer (splice_checked g)
judged_splice g line = splice_by _ _ _ _ (le-ltb g.line.limit (line_cells (collected g)) line)
