-- How failed calls are counted.
use Rattle.std.specs.Prelude.{ℕ, ◌+◌, ◌%◌, ◌^◌, Bool, if◌then◌else◌, Result, Ok, Err}

-- the count once one more call failed: after 2^64 - 1 comes 0, and no count is its own next one
unfoldable pub next_count : ℕ → ℕ
next_count n = (n + 1) % 2 ^ 64

-- the count after a call that gave this result
abbrev pub counted : {A E : Type 0} → ℕ → Result A E → ℕ
counted n (Ok x) = n
counted n (Err e) = next_count n

-- the count after calls of which one failed, if it is emitted that one did
abbrev pub counted_if : Bool → ℕ → ℕ
counted_if reported n = if reported then next_count n else n

-- a sink's failed calls: those of put and those of flush apart
pub record SinkFailures : Type 0 where
  pub puts : ℕ
  pub flushes : ℕ

-- none yet
abbrev pub no_failures : SinkFailures
no_failures = record { puts = 0; flushes = 0 }

-- the counts after a put that gave this result
abbrev pub put_counted : {A E : Type 0} → SinkFailures → Result A E → SinkFailures
put_counted before result = record before { puts = counted before.puts result }

-- the counts after a flush that gave this result
abbrev pub flush_counted : {A E : Type 0} → SinkFailures → Result A E → SinkFailures
flush_counted before result = record before { flushes = counted before.flushes result }

-- the counts after puts of which one failed, if it is emitted that one did
abbrev pub put_counted_if : Bool → SinkFailures → SinkFailures
put_counted_if reported before = record before { puts = counted_if reported before.puts }

-- the counts after a flush that failed, if it is emitted that it did
abbrev pub flush_counted_if : Bool → SinkFailures → SinkFailures
flush_counted_if reported before = record before { flushes = counted_if reported before.flushes }
