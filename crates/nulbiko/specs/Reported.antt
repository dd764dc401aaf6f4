-- What a call from C gets beside its bytes, and what is handed over.
use Rattle.std.specs.Prelude.{◌≡◌, ℕ, List, length, take, min, nat_lt, if◌then◌else◌}
use Rattle.nr_units.specs.Source.{Supply, Never}
use Rattle.nulbiko.specs.declared.reported.Report.{Report}

-- a count of moves or steps, the greatest number of 64 bits where it is above
abbrev pub count_reported : ℕ → ℕ
count_reported n = if nat_lt n 18446744073709551616 then n else 18446744073709551615

-- where nothing was done
abbrev pub nothing_reported : Report
nothing_reported = record { written = 0; at = 0; moves = 0; limit = 0; dropped = 0; line = 0 }

-- so many bytes were put, and nothing else is reported
abbrev pub only_written : ℕ → Report
only_written n = record { written = n; at = 0; moves = 0; limit = 0; dropped = 0; line = 0 }

-- the number where so many bytes came out and so many fit: 4 where not all of them do
abbrev pub code_within : ℕ → ℕ → ℕ → ℕ
code_within code came fit = if nat_lt fit came then 4 else code

-- These bytes came out: as many as fit stand at the beginning of the output, and their count is reported.
pub record IsHanded (bytes output : List ℕ) (written : ℕ) : Type 0 where
  pub prefix : take written output ≡ take written bytes
  pub count : written ≡ min (length bytes) (length output)

-- a text, all of which comes and none of which fails
abbrev pub whole_text : List ℕ → Supply
whole_text text = record { bytes = text; faults = Never }
