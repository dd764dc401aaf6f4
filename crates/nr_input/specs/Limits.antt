-- The limits that stand in what is stored and in what is read.
use Rattle.std.specs.Prelude.{ℕ}
use Rattle.nr_store.specs.Store.{Stored}
use Rattle.nr_input.specs.declared.reader.Reader.{Reader}

-- of stored bytes, of levels, and of splices and springs after one byte of the input
pub record Limits : Type 0 where
  pub stored : ℕ
  pub depth : ℕ
  pub expansions : ℕ

abbrev pub limits_of : {K : Type 0} → Stored K → Reader → Limits
limits_of v r = record { stored = v.limit; depth = v.deepest; expansions = r.most }
