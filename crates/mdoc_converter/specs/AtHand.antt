-- Bytes that pass at once.
use Rattle.std.specs.Prelude.{◌≡◌, ℕ, ◌+◌, List, [], ◌∷◌, length, Bool, true, false, ◌==◌, if◌then◌else◌}
use Prim.Native.Char.{code}
use Rattle.mdoc_layout.specs.declared.page.Prefix.TheVariants.{Comment, Other}
use Rattle.mdoc_layout.specs.declared.page.Scan.{Scan}
use Rattle.mdoc_layout.specs.declared.page.Scan.TheVariants as scans
use Rattle.mdoc_converter.specs.declared.pending.Pending.{Pending}
use Rattle.mdoc_converter.specs.declared.pending.Pending.TheVariants.{Nothing}
use Rattle.mdoc_converter.specs.declared.reader.Reader.{Reader}
use Rattle.mdoc_converter.specs.Reading.{State, emitted, fed}

-- in a line that passes, of a page that is not known to be one of mdoc, or after the first lines
abbrev pub may_pass : Scan → Bool
may_pass scans.Passes = true
may_pass (scans.Asleep Other lines) = true
may_pass (scans.Asleep Comment lines) = true
may_pass scan = false

-- how many bytes come before the first newline
abbrev pub before_newline : List ℕ → ℕ
before_newline [] = 0
before_newline (b ∷ bs) = if b == code "\n" then 0 else 1 + before_newline bs

-- how many of some bytes pass at once: after the first lines all of them, and before up to a line's end
abbrev pub passing_in : Scan → List ℕ → ℕ
passing_in scans.Passes bs = length bs
passing_in (scans.Asleep Other lines) bs = before_newline bs
passing_in (scans.Asleep Comment lines) bs = before_newline bs
passing_in scan bs = 0

abbrev pub passing_by : Pending → Scan → List ℕ → ℕ
passing_by Nothing scan bs = passing_in scan bs
passing_by pending scan bs = 0

abbrev pub passing : Reader → List ℕ → ℕ
passing r bs = passing_by r.pending r.page.scan bs

-- these bytes go out as they are, each in one step, and leave what is half read
abbrev pub Passes : State → List ℕ → Type 0
Passes s bs = fed s bs ≡ emitted s bs (length bs)
