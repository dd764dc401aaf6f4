-- What is under way makes no cell of a control byte, and tells nothing.
use Rattle.std.specs.Prelude.{is_none, is_some, not, int_lt, map, min, length, nat_lt, take, slice_get, unsigned_abs, ◌/◌, ◌&&◌, ◌||◌}
use Rattle.std.specs.Option.{unwrap_or}
use Rattle.std.specs.List.{prefix_len}
use Rattle.std.proofs.lemmas.Bool.{ltb-false}
use Rattle.std.proofs.lemmas.List.Elements.{All-nil, All-cons, All-head, All-tail, All-drop, All-take}
use Rattle.std.proofs.Common.{◌≡◌, ℕ, zero, suc, ◌+◌, ◌-◌, ◌≤◌, ◌==◌, Bool, true, false, if◌then◌else◌, List, [], ◌∷◌, Option, None, Some, ℤ, pos, negsuc, refl, arith}
use Rattle.nr_vectors.specs.Cell.{blank, is_blank}
use Rattle.nr_vectors.specs.declared.cell.Cell.{Cell}
use Rattle.nr_units.specs.declared.number_text.Format.{Format}
use Rattle.nr_symbol_tables.specs.Table.{find}
use Rattle.nr_symbol_tables.specs.declared.trap.Trap.{Trap}
use Rattle.nr_store.specs.declared.element.Diversion.{Diversion}
use Rattle.nr_store.specs.declared.element.Element.{Element}
use Rattle.nr_store.specs.declared.register.Register.{Register}
use Rattle.nr_store.specs.declared.request.Request.{Request}
use Rattle.nr_store.specs.declared.request.Request.TheVariants as requests
use Rattle.nr_symbol_tables.specs.Word.{word_of}
use Rattle.nr_store.specs.Store.{Stored, words, newest_diversion, diversion_ended as ended_diversion, begun, fresh, text_of, trapped, removed, renamed, written, set_to, register_of, is_held, unregistered, worded}
use Rattle.nr_settings.specs.Arguments.{is_blank as is_space, name_in, name_of, name_len, after_blanks, after_name, byte_in, word_in, after_word}
use Rattle.nr_settings.specs.Numbers.{applied}
use Rattle.nr_settings.specs.Registers as register_lines
use Rattle.nr_settings.specs.Spacing as space_lines
use Rattle.nr_settings.specs.Traps as trap_lines
use Rattle.nr_settings.specs.declared.registers.RegisterChange.{RegisterChange}
use Rattle.nr_settings.specs.declared.registers.FormatChange.{FormatChange}
use Rattle.nr_settings.specs.declared.traps.DiversionTrap.{DiversionTrap}
use Rattle.nr_settings.specs.declared.traps.DiversionTrap.TheVariants as diversion_traps
use Rattle.nr_settings.specs.declared.traps.PageTrap.{PageTrap}
use Rattle.nr_settings.specs.declared.traps.PageTrap.TheVariants as page_traps
use Rattle.nr_settings.specs.declared.traps.TrapMove.{TrapMove}
use Rattle.nr_reading.specs.declared.event.Event.TheVariants as events
use Rattle.nr_input.specs.Splicing.{base}
use Rattle.nr_input.specs.declared.splicing.Definition.{Definition}
use Rattle.nr_input.specs.declared.splicing.Definition.TheVariants as definitions
use Rattle.nr_formatter.specs.declared.built_in.BuiltInRegister.{BuiltInRegister}
use Rattle.nr_formatter.specs.declared.built_in.BuiltInRegister.TheVariants as given
use Rattle.nr_formatter.specs.declared.formatter.Formatter.{Formatter}
use Rattle.nr_formatter.specs.declared.lines.Going.{Going}
use Rattle.nr_formatter.specs.declared.paper.PageState.{PageState}
use Rattle.nr_formatter.specs.declared.paper.PageState.TheVariants as states
use Rattle.nr_formatter.specs.declared.tasks.Ejected.TheVariants as ejecteds
use Rattle.nr_formatter.specs.declared.tasks.Resume.{Resume}
use Rattle.nr_formatter.specs.declared.tasks.Step.{Step}
use Rattle.nr_formatter.specs.declared.tasks.Step.TheVariants as steps
use Rattle.nr_formatter.specs.declared.tasks.Task.{Task}
use Rattle.nr_formatter.specs.declared.tasks.Task.TheVariants as tasks
use Rattle.nr_formatter.specs.Access.{line, long, spacing, diversion, collected, cell, margins}
use Rattle.nr_formatter.specs.BuiltIn.{given_named}
use Rattle.nr_formatter.specs.DiversionRow.{diverted_cells, plain}
use Rattle.nr_formatter.specs.Diversions as diversions
use Rattle.nr_formatter.specs.Ending as ending
use Rattle.nr_formatter.specs.Lines as lines
use Rattle.nr_formatter.specs.Moves as moves
use Rattle.nr_formatter.specs.Names as naming
use Rattle.nr_formatter.specs.Numbering as numbering
use Rattle.nr_formatter.specs.Pages as pages
use Rattle.nr_formatter.specs.Places.{is_diverting, is_open, outlet, present_place, page_place, distance_below, diversion_room, to_read}
use Rattle.nr_formatter.specs.Registers as registers
use Rattle.nr_formatter.specs.Requests.{act}
use Rattle.nr_formatter.specs.Spacing as spaces
use Rattle.nr_formatter.specs.Springing as springing
use Rattle.nr_formatter.specs.Text as texts
use Rattle.nr_formatter.specs.Titles as titles
use Rattle.nr_formatter.specs.Traps as traps
use Rattle.nr_fill.specs.Piece.{add_cell, with_title_cell}
use Rattle.nr_fill.specs.declared.piece.CutAfter.TheVariants.{Dash}
use Rattle.nr_laws.proofs.ChargedOnce.{once-none}
use Rattle.nr_laws.proofs.PrintedLines.{IsAmong, AreAmong, IsPrinted, ArePrinted, IsLined, IsSet, either, trim, line_row-printed, titled_row-printed, add_cell-lined, with_title_cell-lined}
use Rattle.nr_laws.proofs.PrintedStores.{AreStored, IfText, no_words, none-gathered, begun-stored, begun_empty, text_of-stored, diverted-stored, diverted_end-stored, diversion_ended-stored, removed-stored, renamed-stored, entered-stored, named-words, added-stored, blanks_and, no_levels, trapped-stored}
use Rattle.nr_laws.proofs.PrintedItems.{IfAmong}
use Rattle.nr_laws.proofs.PrintedDirect.{none-texts}
use Rattle.nr_laws.proofs.PrintedWorks.{IsKept, printing-filler}

module _ (set : ℕ → Bool) where
  -- nothing is emitted that is still to be heard
  pub record Resting (f : Formatter) : Type 0 where
    pub kept : IsKept set f
    pub idle : f.event ≡ events.Nothing

  pub resting-if : (c : Bool) (f g : Formatter) → Resting f → Resting g → Resting (if c then f else g)
  resting-if true f g first second = first
  resting-if false f g first second = second

  pub tasked : (t : Task) (f : Formatter) → Resting f → Resting (record f { task = t })
  tasked t f h = record { kept = h.kept; idle = h.idle }

  stored-in : (v : Stored Resume) (f : Formatter) → AreStored set v → Resting f → Resting (record f { store = v })
  stored-in v f is h = record { kept = record { stored = is; lined = h.kept.lined; tab = h.kept.tab; leader = h.kept.leader; half = h.kept.half }; idle = h.idle }

  -- ---- lines that go out

  pub plain-cells : (xs : List Cell) → ArePrinted set xs → ArePrinted set (map plain xs)
  plain-cells [] h = h
  plain-cells (x ∷ xs) h =
      All-cons (IsPrinted set) (plain x) (map plain xs) (either (IsPrinted set) (is_blank x) blank x refl (All-head (IsPrinted set) x xs h)) (plain-cells xs (All-tail (IsPrinted set) x xs h))

  diverted-row : (xs : List Cell) → ArePrinted set xs → ArePrinted set (diverted_cells xs)
  diverted-row xs h = trim set (map plain xs) (plain-cells xs h)

  pub row-printed : (g : Going) (offset : ℕ) (f : Formatter) → IsKept set f → ArePrinted set (lines.row_going g offset f)
  row-printed g offset f h = line_row-printed set (record { align = g.align; offset = offset }) (collected f) (lines.pieces_going g (collected f)) h.lined

  pub line-afterwards : (g : Going) (f : Formatter) → Resting f → Resting (lines.after_line g f)
  line-afterwards g f h =
      record {
        kept = record {
          stored = h.kept.stored;
          lined = record { pieces = All-drop (IsSet set) (lines.pieces_going g (collected f)) (collected f).pieces h.kept.lined.pieces; word = h.kept.lined.word; title = h.kept.lined.title };
          tab = h.kept.tab;
          leader = h.kept.leader;
          half = h.kept.half;
        };
        idle = h.idle;
      }

  pub title-row : (offset : ℕ) (f : Formatter) → IsKept set f → ArePrinted set (titles.title_row offset f)
  title-row offset f h = titled_row-printed set offset (f.settings.indents.title_length.value / 24) (collected f).title h.lined.title

  pub title-afterwards : (f : Formatter) → Resting f → Resting (titles.title_set f)
  title-afterwards f h =
      record {
        kept = record { stored = h.kept.stored; lined = record { pieces = h.kept.lined.pieces; word = h.kept.lined.word; title = tt }; tab = h.kept.tab; leader = h.kept.leader; half = h.kept.half };
        idle = h.idle;
      }

  diverted-with : (indent : ℕ) (xs : List Cell) (height : ℕ) (f : Formatter) → ArePrinted set xs → Resting f → Resting (diversions.with_diverted indent xs height f)
  diverted-with indent xs height f is h =
      record { kept = record { stored = diverted-stored set indent xs height f.store is h.kept.stored; lined = h.kept.lined; tab = h.kept.tab; leader = h.kept.leader; half = h.kept.half }; idle = h.idle }

  row-diverted : (xs : List Cell) (f : Formatter) → ArePrinted set xs → Resting f → Resting (diversions.with_diverted_row xs f)
  row-diverted xs f is h = diverted-with 0 xs (spacing f) (pages.without_no_space f) is (record { kept = h.kept; idle = h.idle })

  pub line-diverted : (g : Going) (f : Formatter) → Resting f → Resting (diversions.divert_line g f)
  line-diverted g f h = row-diverted (diverted_cells (lines.row_going g 0 f)) (lines.after_line g f) (diverted-row (lines.row_going g 0 f) (row-printed g 0 f h.kept)) (line-afterwards g f h)

  pub title-diverted : (f : Formatter) → Resting f → Resting (diversions.divert_title f)
  title-diverted f h = row-diverted (diverted_cells (titles.title_row 0 f)) (titles.title_set f) (diverted-row (titles.title_row 0 f) (title-row 0 f h.kept)) (title-afterwards f h)

  pub space-diverted : (n : ℕ) (f : Formatter) → Resting f → Resting (diversions.with_diverted_space n f)
  space-diverted n f h =
      let height = min n (diversion_room f) in tasked tasks.Read (diversions.with_diverted 0 [] height f) (diverted-with 0 [] height f (All-nil (IsPrinted set)) h)

  pub end-diverted : (width height : ℕ) (f : Formatter) → Resting f → Resting (diversions.with_diverted_end width height f)
  end-diverted width height f h =
      record { kept = record { stored = diverted_end-stored set width height f.store h.kept.stored; lined = h.kept.lined; tab = h.kept.tab; leader = h.kept.leader; half = h.kept.half }; idle = h.idle }

  pub cell-diverted : (indent : ℕ) (x : Cell) (f : Formatter) → IsPrinted set x → IsKept set f → IsKept set (diversions.with_diverted_cell indent x f)
  cell-diverted indent x f is h = record { stored = added-stored set _ f.store (blanks_and set indent x is) h.stored; lined = h.lined; tab = h.tab; leader = h.leader; half = h.half }

  -- ---- springing

  pub text-sprung : (name : List ℕ) (text : Option (List Element)) (f : Formatter) → words (find name f.store.names) ≡ text → IfText set text → IsKept set f → IsKept set (springing.sprung_text name text f)
  text-sprung name None f has is h = h
  text-sprung name (Some text) f has is h =
      record { stored = entered-stored set name (Some text) (Some (springing.interrupted f)) f.store has is h.half.line h.stored; lined = h.lined; tab = h.tab; leader = h.leader; half = record { pending_act = tt; held = tt; few = omega arith; ending = h.half.ending; ends = h.half.ends; line = h.half.line; texts = none-texts set } }

  pub sprung-kept : (name : List ℕ) (f : Formatter) → IsKept set f → IsKept set (springing.sprung name f)
  sprung-kept name f h = text-sprung name (words (find name f.store.names)) f refl (named-words set name f.store h.stored) h

  sprung-idle : (name : List ℕ) (text : Option (List Element)) (f : Formatter) → f.event ≡ events.Nothing → (springing.sprung_text name text f).event ≡ events.Nothing
  sprung-idle name None f is = is
  sprung-idle name (Some text) f is = is

  pub sprung-resting : (name : List ℕ) (f : Formatter) → Resting f → Resting (springing.sprung name f)
  sprung-resting name f h = record { kept = sprung-kept name f h.kept; idle = sprung-idle name (words (find name f.store.names)) f h.idle }

  pub ejected-resting : (t : Trap) (f : Formatter) → Resting f → Resting (springing.ejected_to t f)
  ejected-resting t f h =
      let g = record f { paper = record f.paper { place = unsigned_abs t.place } } in
      sprung-resting t.name g (record { kept = h.kept; idle = h.idle })

  -- ---- requests

  spaced-up : (n : ℕ) (f : Formatter) → Resting f → Resting (spaces.spaced_up n f)
  spaced-up n f h =
      resting-if (spaces.is_on_page (outlet f) && not f.settings.pages.no_space) (record f { paper = record f.paper { place = f.paper.place - n } }) f (record { kept = h.kept; idle = h.idle }) h

  spaced-by : (z : ℤ) (f : Formatter) → Resting f → Resting (spaces.sp_by z f)
  spaced-by (pos n) f h = tasked (tasks.Space n) f h
  spaced-by (negsuc n) f h = tasked tasks.Read (spaces.spaced_up (suc n) f) (spaced-up (suc n) f h)

  needed-space : (below : ℕ) (n : ℤ) (f : Formatter) → Resting f → Resting (spaces.needed below n f)
  needed-space below n f h =
      resting-if (spaces.has_room (outlet f) && int_lt (pos below) n) (pages.moved_to (f.paper.place + below) f) f (record { kept = h.kept; idle = h.idle }) h

  returned-to : (z : ℤ) (f : Formatter) → Resting f → Resting (spaces.returned z f)
  returned-to (pos n) f h =
      resting-if (not (is_diverting (diversion f)) && nat_lt n (page_place f.paper)) (record f { paper = record f.paper { place = n } }) f (record { kept = h.kept; idle = h.idle }) h
  returned-to (negsuc n) f h = h

  turned : (given : Bool) (f : Formatter) → Resting f → Resting (pages.turned given f)
  turned given f h =
      resting-if (is_open f.paper.state && (given || not f.settings.pages.no_space))
      (record f { paper = record f.paper { ejecting = true }; task = tasks.Eject ejecteds.Request }) (record f { task = tasks.Read }) (record { kept = h.kept; idle = h.idle }) (tasked tasks.Read f h)

  number-next : (n : Option ℤ) (f : Formatter) → Resting f → Resting (numbering.number_next n f)
  number-next None f h = h
  number-next (Some n) f h = record { kept = h.kept; idle = h.idle }

  page-begun : (s : PageState) (n : Option ℤ) (f : Formatter) → Resting f → Resting (numbering.bp_at s n f)
  page-begun states.Unbegun n f h = record { kept = h.kept; idle = h.idle }
  page-begun states.Open n f h = tasked (tasks.Turn (is_some n)) (numbering.number_next n f) (number-next n f h)
  page-begun states.Closed n f h = tasked (tasks.Begin (Some (is_some n))) (numbering.number_next n f) (number-next n f h)

  bp-resting : (f : Formatter) → Resting f → Resting (numbering.bp f)
  bp-resting f h =
      resting-if (is_diverting (diversion f)) (record f { task = tasks.Read }) (numbering.bp_at f.paper.state (numbering.given_number f) f) (tasked tasks.Read f h)
      (page-begun f.paper.state (numbering.given_number f) f h)

  numbered : (n : Option ℤ) (f : Formatter) → Resting f → Resting (numbering.numbered n f)
  numbered None f h = h
  numbered (Some n) f h = record { kept = h.kept; idle = h.idle }

  trap-moved : (m : Option TrapMove) (f : Formatter) → Resting f → Resting (traps.with_trap_moved m f)
  trap-moved None f h = h
  trap-moved (Some m) f h = record { kept = h.kept; idle = h.idle }

  trap-planted : (t : PageTrap) (f : Formatter) → Resting f → Resting (traps.with_page_trap t f)
  trap-planted (page_traps.Plant place name) f h = record { kept = h.kept; idle = h.idle }
  trap-planted (page_traps.Remove place) f h = record { kept = h.kept; idle = h.idle }
  trap-planted page_traps.Nothing f h = h

  measured : (d : Option Diversion) (f : Formatter) → Resting f → Resting (diversions.measured d f)
  measured None f h = h
  measured (Some d) f h = record { kept = h.kept; idle = h.idle }

  diversion-ended : (f : Formatter) → Resting f → Resting (diversions.end_diversion f)
  diversion-ended f h =
      measured (newest_diversion f.store.building) (record f { store = ended_diversion f.store }) (stored-in (ended_diversion f.store) f (diversion_ended-stored set f.store h.kept.stored) h)

  -- ---- what a request's line has

  abbrev IfName : Option (List ℕ) → Type 0
  IfName None = Unit {0}
  IfName (Some name) = AreAmong set name

  afterwards-among : (text : List ℕ) → AreAmong set text → AreAmong set (after_blanks text)
  afterwards-among text h = All-drop (IsAmong set) (prefix_len is_space text) text h

  name-among : (long : Bool) (text : List ℕ) → AreAmong set text → IfName (name_in long text)
  name-among long text h =
      let bytes = take (name_len long (after_blanks text)) (after_blanks text) in
      either IfName ((length bytes == 0) || nat_lt 32 (length bytes)) None (Some bytes) tt (All-take (IsAmong set) (name_len long (after_blanks text)) (after_blanks text) (afterwards-among text h))

  second-among : (long : Bool) (text : List ℕ) → AreAmong set text → IfName (name_in long (after_name long text))
  second-among long text h =
      name-among long (after_name long text) (All-drop (IsAmong set) (name_len long (after_blanks text)) (after_blanks text) (afterwards-among text h))

  first-among : (bs : List ℕ) → AreAmong set bs → IfAmong set (slice_get bs 0)
  first-among [] h = tt
  first-among (b ∷ bs) h = All-head (IsAmong set) b bs h

  byte-among : (text : List ℕ) → AreAmong set text → IfAmong set (byte_in text)
  byte-among text h = first-among (after_blanks text) (afterwards-among text h)

  or-none : (name : Option (List ℕ)) → IfName name → AreAmong set (unwrap_or name [])
  or-none None h = All-nil (IsAmong set)
  or-none (Some name) h = h

  -- ---- diversions

  diverted-to : (name : Option (List ℕ)) (f : Formatter) → IfName name → Resting f → Resting (diversions.divert_to name f)
  diverted-to None f is h = diversion-ended f h
  diverted-to (Some name) f is h = stored-in (begun [] (Some (fresh name)) f.store) f (begun_empty set (Some (fresh name)) f.store is h.kept.stored) h

  appended-to : (name : Option (List ℕ)) (f : Formatter) → IfName name → Resting f → Resting (diversions.append_to name f)
  appended-to None f is h = diversion-ended f h
  appended-to (Some name) f is h =
      let text = text_of name f.store in
      stored-in (begun text (Some (fresh name)) f.store) f (begun-stored set text (Some (fresh name)) f.store (text_of-stored set name f.store h.kept.stored) is h.kept.stored) h

  diversion-trap : (t : DiversionTrap) (f : Formatter) → Resting f → Resting (diversions.with_diversion_trap t f)
  diversion-trap (diversion_traps.Set place name) f h =
      let trap : Option Trap = Some (record { place = place; name = name }) in stored-in (trapped trap f.store) f (trapped-stored set trap f.store h.kept.stored) h
  diversion-trap diversion_traps.Remove f h = stored-in (trapped None f.store) f (trapped-stored set None f.store h.kept.stored) h
  diversion-trap diversion_traps.Nothing f h = h

  last-diversion : (f : Formatter) → Resting f → Resting (ending.end_last_diversion f)
  last-diversion f h =
      resting-if (is_diverting (newest_diversion f.store.building)) (diversions.end_diversion f) (ending.eject_last f) (diversion-ended f h) (record { kept = h.kept; idle = h.idle })

  finished-at : (s : Step) (f : Formatter) → Resting f → Resting (ending.finish_at s f)
  finished-at steps.Diversions f h = last-diversion f h
  finished-at s f h = record { kept = h.kept; idle = h.idle }

  -- a name has 32 bytes at most
  few-bytes : (bytes : List ℕ) → length (unwrap_or (name_of bytes) []) ≤ 32
  few-bytes bytes = by (length bytes == 0) (nat_lt 32 (length bytes)) (ltb-false 32 (length bytes))
    where
      by : (c d : Bool) → (d ≡ false → length bytes ≤ 32) → length (unwrap_or (if c || d then None else Some bytes) []) ≤ 32
      by true d few = omega arith
      by false true few = omega arith
      by false false few = few refl

  few-named : (long : Bool) (text : List ℕ) → length (unwrap_or (name_in long text) []) ≤ 32
  few-named long text = few-bytes (take (name_len long (after_blanks text)) (after_blanks text))

  base-stored : (d : Definition) (name : List ℕ) (v : Stored Resume) → AreStored set v → AreStored set (base d name v)
  base-stored definitions.De name v h = begun_empty set None v tt h
  base-stored definitions.Am name v h = begun-stored set (text_of name v) None v (text_of-stored set name v h) tt h
  base-stored definitions.Ig name v h = h

  with-lines : (d : Definition) (name : List ℕ) (end : Option (List ℕ)) (f : Formatter) → length (unwrap_or end []) ≤ 32 → IfName end → Resting f → Resting (naming.with_lines d name end f)
  with-lines d name end f few is h =
      record {
        kept = record {
          stored = base-stored d name f.store h.kept.stored;
          lined = h.kept.lined;
          tab = h.kept.tab;
          leader = h.kept.leader;
          half = record { pending_act = h.kept.half.pending_act; held = omega arith; few = h.kept.half.few; ending = few; ends = or-none end is; line = h.kept.half.line; texts = h.kept.half.texts };
        };
        idle = h.idle;
      }

  defined-as : (d : Definition) (name : Option (List ℕ)) (f : Formatter) → Resting f → Resting (naming.defined_as d name f)
  defined-as d None f h = h
  defined-as d (Some name) f h = with-lines d name (naming.second_name f) f (few-named (long f) (after_name (long f) (line f))) (second-among (long f) (line f) h.kept.half.line) h

  without-name : (name : Option (List ℕ)) (f : Formatter) → Resting f → Resting (naming.without_name name f)
  without-name None f h = h
  without-name (Some name) f h = stored-in (removed name f.store) f (removed-stored set name f.store h.kept.stored) h

  with-renamed : (from to : Option (List ℕ)) (f : Formatter) → Resting f → Resting (naming.with_renamed from to f)
  with-renamed None to f h = h
  with-renamed (Some from) None f h = h
  with-renamed (Some from) (Some to) f h = stored-in (renamed from to f.store) f (renamed-stored set from to f.store h.kept.stored) h

  worded-stored : (word : List ℕ) (v : Stored Resume) → AreStored set v → AreStored set (worded word v)
  worded-stored word v h = either (AreStored set) (nat_lt 64 (length word)) v (record v { words = word_of word ∷ v.words }) h (record { names = h.names; building = h.building; levels = h.levels; once = h.once; arguments = h.arguments; gathered = h.gathered })

  words-stored : (n : ℕ) (l : List ℕ) (v : Stored Resume) → AreStored set v → AreStored set (naming.with_words n l v)
  words-stored zero l v h = h
  words-stored (suc n) l v h =
      either (AreStored set) (length (word_in l) == 0) v (naming.with_words n (after_word l) (worded (word_in l) v)) h
      (words-stored n (after_word l) (worded (word_in l) v) (worded-stored (word_in l) v h))

  written-stored : (r : Option Register) (name : List ℕ) (v : Stored Resume) → AreStored set v → AreStored set (written r name v)
  written-stored None name v h = h
  written-stored (Some r) name v h = h

  given-set : (r : BuiltInRegister) (n : ℤ) (f : Formatter) → Resting f → Resting (registers.given_set r n f)
  given-set given.Page n f h = record { kept = h.kept; idle = h.idle }
  given-set given.Height n f h = record { kept = h.kept; idle = h.idle }
  given-set given.Width n f h = record { kept = h.kept; idle = h.idle }
  given-set r n f h = h

  register-set-by : (r : Option BuiltInRegister) (name : List ℕ) (n : ℤ) (step : Option ℤ) (f : Formatter) → Resting f → Resting (registers.register_set_by r name n step f)
  register-set-by None name n step f h =
      stored-in (written (set_to n step (register_of (find name f.store.registers))) name f.store) f (written-stored (set_to n step (register_of (find name f.store.registers))) name f.store h.kept.stored) h
  register-set-by (Some r) name n step f h = resting-if (is_held n) (registers.given_set r n f) f (given-set r n f h) h

  pub register-set : (name : List ℕ) (n : ℤ) (step : Option ℤ) (f : Formatter) → Resting f → Resting (registers.register_set name n step f)
  register-set name n step f h = register-set-by (given_named name) name n step f h

  register-changed : (c : Option RegisterChange) (f : Formatter) → Resting f → Resting (registers.register_changed c f)
  register-changed None f h = h
  register-changed (Some c) f h = register-set c.name (applied c.change (registers.register_value c.name f)) c.step f h

  formatted-by : (r : Option BuiltInRegister) (name : List ℕ) (x : Format) (f : Formatter) → Resting f → Resting (registers.formatted_by r name x f)
  formatted-by None name x f h = record { kept = h.kept; idle = h.idle }
  formatted-by (Some r) name x f h = record { kept = h.kept; idle = h.idle }

  format-changed : (c : Option FormatChange) (f : Formatter) → Resting f → Resting (registers.format_changed c f)
  format-changed None f h = h
  format-changed (Some c) f h = formatted-by (given_named c.name) c.name c.format f h

  register-removed : (name : Option (List ℕ)) (f : Formatter) → Resting f → Resting (registers.register_removed name f)
  register-removed None f h = h
  register-removed (Some name) f h = resting-if (is_none (given_named name)) (record f { store = unregistered name f.store }) f (record { kept = h.kept; idle = h.idle }) h

  place-marked : (name : Option (List ℕ)) (f : Formatter) → Resting f → Resting (registers.place_marked name f)
  place-marked None f h = record { kept = h.kept; idle = h.idle }
  place-marked (Some name) f h = register-set name (present_place f) None f h

  to-read : (f : Formatter) → Resting f → Resting (to_read f)
  to-read f h = tasked tasks.Read f h

  acted : (r : Request) (f : Formatter) → Resting f → Resting (act r f)
  acted requests.Af f h = format-changed (register_lines.af (line f) (long f)) (to_read f) (to-read f h)
  acted requests.Am f h = to-read (naming.defined_as definitions.Am (naming.first_name f) f) (defined-as definitions.Am (naming.first_name f) f h)
  acted requests.Bp f h = bp-resting f h
  acted requests.Ch f h = let m = trap_lines.ch (line f) (long f) (spacing f) (present_place f) in tasked tasks.Read (traps.with_trap_moved m f) (trap-moved m f h)
  acted requests.Da f h = tasked tasks.Read (diversions.append_to (name_in (long f) (line f)) f) (appended-to (name_in (long f) (line f)) f (name-among (long f) (line f) h.kept.half.line) h)
  acted requests.De f h = to-read (naming.defined_as definitions.De (naming.first_name f) f) (defined-as definitions.De (naming.first_name f) f h)
  acted requests.Di f h = tasked tasks.Read (diversions.divert_to (name_in (long f) (line f)) f) (diverted-to (name_in (long f) (line f)) f (name-among (long f) (line f) h.kept.half.line) h)
  acted requests.Dt f h = let t = trap_lines.dt (line f) (long f) (spacing f) (present_place f) in tasked tasks.Read (diversions.with_diversion_trap t f) (diversion-trap t f h)
  acted requests.Ex f h =
      record { kept = record { stored = record { names = h.kept.stored.names; building = h.kept.stored.building; levels = no_levels set; once = once-none f.store.names; arguments = no_words set; gathered = none-gathered set }; lined = h.kept.lined; tab = h.kept.tab; leader = h.kept.leader; half = h.kept.half }; idle = refl }
  acted requests.Hw f h = let v = naming.with_words (length (line f)) (line f) f.store in to-read (record f { store = v }) (stored-in v f (words-stored (length (line f)) (line f) f.store h.kept.stored) h)
  acted requests.Ig f h = to-read (naming.with_lines definitions.Ig [] (naming.first_name f) f) (with-lines definitions.Ig [] (naming.first_name f) f (few-named (long f) (line f)) (name-among (long f) (line f) h.kept.half.line) h)
  acted requests.Lc f h = record { kept = record { stored = h.kept.stored; lined = h.kept.lined; tab = h.kept.tab; leader = printing-filler set (byte_in (line f)) (byte-among (line f) h.kept.half.line); half = h.kept.half }; idle = h.idle }
  acted requests.Mk f h = place-marked (name_in (long f) (line f)) (to_read f) (to-read f h)
  acted requests.Ne f h = let n = space_lines.ne (line f) (spacing f) (present_place f) in
      let below = distance_below f.paper.place f in
      tasked tasks.Read (spaces.needed below n f) (needed-space below n f h)
  acted requests.Nr f h = register-changed (register_lines.nr (line f) (long f) (spacing f)) (to_read f) (to-read f h)
  acted requests.Pn f h = tasked tasks.Read (numbering.numbered (numbering.given_number f) f) (numbered (numbering.given_number f) f h)
  acted requests.Rm f h = to-read (naming.without_name (naming.first_name f) f) (without-name (naming.first_name f) f h)
  acted requests.Rn f h = to-read (naming.with_renamed (naming.first_name f) (naming.second_name f) f) (with-renamed (naming.first_name f) (naming.second_name f) f h)
  acted requests.Rr f h = register-removed (name_in (long f) (line f)) (to_read f) (to-read f h)
  acted requests.Rt f h = let z = space_lines.rt (line f) (spacing f) (page_place f.paper) f.settings.pages.mark in tasked tasks.Read (spaces.returned z f) (returned-to z f h)
  acted requests.Sp f h = spaced-by (space_lines.sp (line f) (spacing f) (present_place f)) f h
  acted requests.Tc f h = record { kept = record { stored = h.kept.stored; lined = h.kept.lined; tab = printing-filler set (byte_in (line f)) (byte-among (line f) h.kept.half.line); leader = h.kept.leader; half = h.kept.half }; idle = h.idle }
  acted requests.Wh f h = let t = trap_lines.wh (line f) (long f) (spacing f) (present_place f) in tasked tasks.Read (traps.with_page_trap t f) (trap-planted t f h)
  acted r f h = record { kept = h.kept; idle = h.idle }

  -- ---- what is under way

  -- the second cell of a dash
  dash-ended : (f : Formatter) → Resting f → Resting (texts.finish_dash f)
  dash-ended f h =
      resting-if (titles.reads_title f) (titles.title_dash_end f) (texts.dash_end f)
      (record { kept = record { stored = h.kept.stored; lined = title h; tab = h.kept.tab; leader = h.kept.leader; half = h.kept.half }; idle = refl })
      (record { kept = record { stored = h.kept.stored; lined = word h; tab = h.kept.tab; leader = h.kept.leader; half = h.kept.half }; idle = refl })
    where
      title : Resting f → IsLined set (with_title_cell (cell 45 f) (collected f))
      title h = with_title_cell-lined set (cell 45 f) (collected f) refl h.kept.lined

      word : Resting f → IsLined set (add_cell (margins f) Dash (cell 45 f) (collected f))
      word h = add_cell-lined set (margins f) Dash (cell 45 f) (collected f) refl h.kept.lined

  gone-on : (t : Task) (f : Formatter) → Resting f → Resting (moves.gone_on t f)
  gone-on (tasks.Turn given) f h = turned given f h
  gone-on tasks.Finish f h = finished-at f.step f h
  gone-on t f h = record { kept = h.kept; idle = h.idle }

  pub worked-resting : (t : Task) (f : Formatter) → Resting f → Resting (moves.worked t f)
  worked-resting tasks.Dash f h = dash-ended f h
  worked-resting (tasks.Act r) f h = acted r f h
  worked-resting t f h = gone-on t f h
