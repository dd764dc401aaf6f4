-- The same values under other limits.
use Rattle.std.specs.Prelude.{ℕ}
use Rattle.nr_store.specs.Store.{Stored}
use Rattle.nr_input.specs.declared.reader.Reader.{Reader}
use Rattle.nr_options.specs.Limits.{Bounds}
use Rattle.nr_formatter.specs.declared.formatter.Formatter.{Formatter}
use Rattle.nr_machine.specs.State.{State}

-- what is stored, under a limit of stored bytes and one of depth
abbrev pub stored_under : {K : Type 0} → ℕ → ℕ → Stored K → Stored K
stored_under l d v = record v { limit = l; deepest = d }

-- what is half read, under a limit of splices
abbrev pub reader_under : ℕ → Reader → Reader
reader_under m r = record r { most = m }

abbrev pub under : Bounds → Formatter → Formatter
under b f = record f {
  store = stored_under b.stored b.depth f.store;
  line = record f.line { limit = b.cells };
  reader = reader_under b.expansions f.reader;
}

-- the state under these limits, all else in it unchanged
abbrev pub state_under : Bounds → State → State
state_under b s = record s { formatter = under b s.formatter; page_limit = b.cells }
