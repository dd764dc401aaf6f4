-- How many there is room for of each.
use Rattle.std.specs.Prelude.{ℕ, ◌+◌, ◌*◌, ◌/◌, min}
use Rattle.nr_store.specs.declared.memory.Room.{Room}

-- under this limit, with so many levels at most
abbrev pub rooms_of : ℕ → ℕ → Room
rooms_of limit deepest = record {
  elements = limit;
  slots = limit / 16 + 1;
  names = limit / 48 + 1 + 56;
  drafts = limit / 48 + 1;
  frames = deepest;
  modes = deepest;
  bytes = limit;
  places = 9 * min deepest (limit / 16);
  gathering = limit;
  registers = limit / 48 + 1;
  traps = limit / 48 + 1;
  trap_order = limit / 48 + 1;
  words = limit / 16 + 1;
  kinds = 1280;
}

-- the elements of all
abbrev pub elements_in : Room → ℕ
elements_in r =
    r.elements + r.slots + r.names + r.drafts + r.frames + r.modes + r.bytes + r.places + r.gathering
    + r.registers + r.traps + r.trap_order + r.words + r.kinds
