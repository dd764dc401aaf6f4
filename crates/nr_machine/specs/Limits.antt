-- The limits that stand in an engine.
use Rattle.std.specs.Prelude.{ℕ}
use Rattle.nr_formatter.specs.Limits as formatter
use Rattle.nr_options.specs.Limits.{Bounds}
use Rattle.nr_machine.specs.Holding.{Shape}

-- those of the formatter, and what the open page may be charged
pub record Limits : Type 0 where
  pub formatter : formatter.Limits
  pub page : ℕ

abbrev pub limits_of : Shape → Limits
limits_of e = record { formatter = formatter.limits_of e.formatter; page = e.page.limit }

-- those of a run under these limits
abbrev pub limits_under : Bounds → Limits
limits_under b = record {
  formatter = record { stored = b.stored; depth = b.depth; cells = b.cells; expansions = b.expansions };
  page = b.cells;
}
