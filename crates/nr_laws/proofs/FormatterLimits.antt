-- The moves of the formatter do not depend on the limits.
use Rattle.std.specs.Prelude.{nat_lt, int_lt, is_some, is_none, not, length, ◌==◌, ◌&&◌, ◌||◌}
use Rattle.std.proofs.Common.{◌≡◌, ℕ, suc, ◌+◌, ◌-◌, Bool, true, false, if◌then◌else◌, List, Option, None, Some, ℤ, pos, negsuc, refl, ap, ◌∙◌}
use Rattle.nr_units.specs.declared.number_text.Format.{Format}
use Rattle.nr_symbol_tables.specs.Table.{find}
use Rattle.nr_symbol_tables.specs.declared.trap.Trap.{Trap}
use Rattle.nr_store.specs.declared.element.Diversion.{Diversion}
use Rattle.nr_store.specs.declared.element.Element.{Element}
use Rattle.nr_store.specs.declared.request.Request.{Request}
use Rattle.nr_store.specs.declared.request.Request.TheVariants as requests
use Rattle.nr_store.specs.Store.{Stored, words, newest_diversion, diversion_ended, renamed, written, set_to, register_of, is_held, unregistered}
use Rattle.nr_settings.specs.Arguments.{name_in}
use Rattle.nr_settings.specs.Characters.{prints}
use Rattle.nr_settings.specs.Numbers.{applied}
use Rattle.nr_settings.specs.Pages as page_lines
use Rattle.nr_settings.specs.Registers as register_lines
use Rattle.nr_settings.specs.Spacing as space_lines
use Rattle.nr_settings.specs.Specials.{special_of}
use Rattle.nr_settings.specs.Traps as trap_lines
use Rattle.nr_settings.specs.declared.registers.RegisterChange.{RegisterChange}
use Rattle.nr_settings.specs.declared.registers.FormatChange.{FormatChange}
use Rattle.nr_settings.specs.declared.specials.Special.{Special}
use Rattle.nr_settings.specs.declared.specials.Special.TheVariants as specials
use Rattle.nr_settings.specs.declared.traps.DiversionTrap.{DiversionTrap}
use Rattle.nr_settings.specs.declared.traps.DiversionTrap.TheVariants as diversion_traps
use Rattle.nr_settings.specs.declared.traps.PageTrap.{PageTrap}
use Rattle.nr_settings.specs.declared.traps.PageTrap.TheVariants as page_traps
use Rattle.nr_settings.specs.declared.traps.TrapMove.{TrapMove}
use Rattle.nr_reading.specs.declared.event.Event.{Event}
use Rattle.nr_reading.specs.declared.event.Event.TheVariants as events
use Rattle.nr_reading.specs.Conditionals.{judged}
use Rattle.nr_reading.specs.declared.event.Question.{Question}
use Rattle.nr_reading.specs.declared.event.Question.TheVariants as questions
use Rattle.nr_input.specs.Acting.{on_half}
use Rattle.nr_units.specs.NumberText.{number_text}
use Rattle.nr_input.specs.declared.splicing.Definition.{Definition}
use Rattle.nr_input.specs.declared.splicing.Definition.TheVariants as definitions
use Rattle.nr_options.specs.Limits.{Bounds}
use Rattle.nr_formatter.specs.declared.formatter.Formatter.{Formatter}
use Rattle.nr_formatter.specs.declared.built_in.BuiltInRegister.{BuiltInRegister}
use Rattle.nr_formatter.specs.declared.built_in.BuiltInRegister.TheVariants as given
use Rattle.nr_formatter.specs.declared.paper.PageState.{PageState}
use Rattle.nr_formatter.specs.declared.paper.PageState.TheVariants as states
use Rattle.nr_formatter.specs.declared.tasks.After.{After}
use Rattle.nr_formatter.specs.declared.tasks.After.TheVariants as afters
use Rattle.nr_formatter.specs.declared.tasks.Ejected.TheVariants as ejecteds
use Rattle.nr_formatter.specs.declared.tasks.Resume.{Resume}
use Rattle.nr_formatter.specs.declared.tasks.Step.{Step}
use Rattle.nr_formatter.specs.declared.tasks.Step.TheVariants as steps
use Rattle.nr_formatter.specs.declared.tasks.Task.{Task}
use Rattle.nr_formatter.specs.declared.tasks.Task.TheVariants as tasks
use Rattle.nr_formatter.specs.Access.{line, long, spacing, diversion, is_filling, asked, done}
use Rattle.nr_formatter.specs.Conditions as conditions
use Rattle.nr_formatter.specs.Diversions as diversions
use Rattle.nr_formatter.specs.Ending as ending
use Rattle.nr_formatter.specs.BuiltIn.{given_named}
use Rattle.nr_formatter.specs.Lines as lines
use Rattle.nr_formatter.specs.Moves as moves
use Rattle.nr_formatter.specs.Names as naming
use Rattle.nr_formatter.specs.Numbering as numbering
use Rattle.nr_formatter.specs.Pages as pages
use Rattle.nr_formatter.specs.Places.{is_diverting, is_open, outlet, outlet_of, present_place, page_place, place_in, distance_below, to_read}
use Rattle.nr_formatter.specs.Registers as registers
use Rattle.nr_formatter.specs.Requests.{act}
use Rattle.nr_formatter.specs.Settings as settings
use Rattle.nr_formatter.specs.Spacing as spaces
use Rattle.nr_formatter.specs.Springing as springing
use Rattle.nr_formatter.specs.Text as texts
use Rattle.nr_formatter.specs.Titles as titles
use Rattle.nr_formatter.specs.Traps as traps
use Rattle.nr_laws.specs.Limited.{stored_under, under}
use Rattle.nr_laws.proofs.InputLimits.{written_under}
use Rattle.nr_laws.proofs.StoreLimits.{ended-under, renamed-under, with_words-under}

module _ (b : Bounds) where
  -- ---- what is stored

  abbrev stores_under : Stored Resume → Stored Resume
  stores_under v = stored_under b.stored b.depth v

  -- where only what is stored changes
  stored : (f : Formatter) (v w : Stored Resume) → v ≡ stores_under w → record (under b f) { store = v } ≡ under b (record f { store = w })
  stored f v w same = ap (λ x. record (under b f) { store = x }) same

  -- ---- of two

  pub either : (c : Bool) (g h g' h' : Formatter) → g' ≡ under b g → h' ≡ under b h → (if c then g' else h') ≡ under b (if c then g else h)
  either true g h g' h' first second = first
  either false g h g' h' first second = second

  -- another task
  tasked : (t : Task) (g : Formatter → Formatter) (f : Formatter) → g (under b f) ≡ under b (g f) → record (g (under b f)) { task = t } ≡ under b (record (g f) { task = t })
  tasked t g f same = ap (λ (x : Formatter). record x { task = t }) same

  heard_of : (g' g : Formatter) → g' ≡ under b g → record g' { event = events.Nothing } ≡ under b (record g { event = events.Nothing })
  heard_of g' g same = ap (λ (x : Formatter). record x { event = events.Nothing }) same

  -- ---- words and lines

  word_ended-under : (f : Formatter) → lines.word_ended (under b f) ≡ under b (lines.word_ended f)
  unfolding lines.pointed
  word_ended-under f = refl

  pub break_word_end-under : (f : Formatter) → lines.break_word_end (under b f) ≡ under b (lines.break_word_end f)
  break_word_end-under f =
      either (lines.reads_a_field f) (lines.field_ended f) (lines.word_ended f) (lines.field_ended (under b f)) (lines.word_ended (under b f)) refl (word_ended-under f)

  -- ---- text

  gap_blank-under : (f : Formatter) → texts.gap_blank (under b f) ≡ under b (texts.gap_blank f)
  unfolding lines.pointed
  gap_blank-under f = refl

  blank-under : (f : Formatter) → texts.blank (under b f) ≡ under b (texts.blank f)
  unfolding texts.blank
  blank-under f =
      either (not (is_filling f)) (texts.blank_cell f) _ (texts.blank_cell (under b f)) _ refl
      (either (lines.reads_a_field f) (lines.field_ended f) (texts.gap_blank f) (lines.field_ended (under b f)) (texts.gap_blank (under b f)) refl (gap_blank-under f))

  tab-under : (filler : Option ℕ) (f : Formatter) → texts.tab filler (under b f) ≡ under b (texts.tab filler f)
  unfolding texts.tab
  tab-under filler f = either (lines.reads_a_field f) (lines.field_ended f) _ (lines.field_ended (under b f)) _ refl refl

  text_byte-under : (x : ℕ) (f : Formatter) → texts.text_byte x (under b f) ≡ under b (texts.text_byte x f)
  unfolding texts.text_byte
  text_byte-under x f =
      either (x == 32) (texts.blank f) _ (texts.blank (under b f)) _ (blank-under f)
      (either (x == 9) (texts.tab f.settings.tabs.tab f) _ (texts.tab f.settings.tabs.tab (under b f)) _ (tab-under f.settings.tabs.tab f)
      (either (x == 1) (texts.tab f.settings.tabs.leader f) _ (texts.tab f.settings.tabs.leader (under b f)) _ (tab-under f.settings.tabs.leader f)
      (either (prints x) (texts.character x f) _ (texts.character x (under b f)) _ refl refl)))

  special_at-under : (s : Option Special) (f : Formatter) → texts.special_at s (under b f) ≡ under b (texts.special_at s f)
  special_at-under None f = refl
  special_at-under (Some specials.Hyphen) f = refl
  special_at-under (Some specials.Dash) f = refl
  special_at-under (Some s) f = refl

  special-under : (f : Formatter) → texts.special (under b f) ≡ under b (texts.special f)
  unfolding texts.special
  special-under f = special_at-under (special_of (asked f)) f

  blanks_dropped-under : (f : Formatter) → texts.blanks_dropped (under b f) ≡ under b (texts.blanks_dropped f)
  blanks_dropped-under f = either (not (is_filling f)) _ f _ (under b f) refl refl

  word_line_ended-under : (after : After) (f : Formatter) → texts.word_line_ended after (under b f) ≡ under b (texts.word_line_ended after f)
  unfolding lines.pointed
  word_line_ended-under after f = refl

  trimmed_end-under : (after : After) (f : Formatter) → texts.trimmed_end after (under b f) ≡ under b (texts.trimmed_end after f)
  trimmed_end-under after f =
      either (lines.reads_a_field f) (lines.field_ended f) (texts.word_line_ended after f) (lines.field_ended (under b f)) (texts.word_line_ended after (under b f)) refl (word_line_ended-under after f)

  line_end-under : (after : After) (f : Formatter) → texts.line_end after (under b f) ≡ under b (texts.line_end after f)
  unfolding texts.line_end
  line_end-under after f = ap (λ g. texts.trimmed_end after g) (blanks_dropped-under f) ∙ trimmed_end-under after (texts.blanks_dropped f)

  text_line_end-under : (f : Formatter) → texts.text_line_end (under b f) ≡ under b (texts.text_line_end f)
  unfolding texts.text_line_end
  text_line_end-under f =
      either (texts.joins_lines f) (done f) (texts.line_end afters.Line f) (done (under b f)) (texts.line_end afters.Line (under b f)) refl (line_end-under afters.Line f)

  text-under : (e : Event) (f : Formatter) → texts.text e (under b f) ≡ under b (texts.text e f)
  text-under (events.Byte x) f = text_byte-under x f
  text-under events.Tab f = tab-under f.settings.tabs.tab f
  text-under events.Leader f = tab-under f.settings.tabs.leader f
  text-under events.Special f = special-under f
  text-under events.EndLine f = text_line_end-under f
  text-under events.EndContinued f = line_end-under afters.Continued f
  text-under e f = refl

  -- ---- titles

  title_special-under : (s : Option Special) (f : Formatter) → titles.title_special s (under b f) ≡ under b (titles.title_special s f)
  title_special-under None f = refl
  title_special-under (Some specials.Dash) f = refl
  title_special-under (Some s) f = refl

  title-under : (e : Event) (f : Formatter) → titles.title e (under b f) ≡ under b (titles.title e f)
  title-under events.Special f = title_special-under (special_of (asked f)) f
  title-under e f = refl

  finish_dash-under : (f : Formatter) → texts.finish_dash (under b f) ≡ under b (texts.finish_dash f)
  finish_dash-under f = either (titles.reads_title f) (titles.title_dash_end f) (texts.dash_end f) (titles.title_dash_end (under b f)) (texts.dash_end (under b f)) refl refl

  -- ---- what was read

  text_heard-under : (e : Event) (f : Formatter) → moves.text_heard e (under b f) ≡ under b (moves.text_heard e f)
  text_heard-under e f = either (titles.reads_title f) (titles.title e f) (texts.text e f) (titles.title e (under b f)) (texts.text e (under b f)) (title-under e f) (text-under e f)

  -- ---- places and outlets

  pub place_in-under : (d : Option Diversion) (f : Formatter) → place_in d (under b f) ≡ place_in d f
  place_in-under None f = refl
  place_in-under (Some d) f = refl

  place-under : (f : Formatter) → present_place (under b f) ≡ present_place f
  place-under f = ap pos (place_in-under (diversion f) f)

  outlet_of-under : (d : Option Diversion) (f : Formatter) → outlet_of d (under b f) ≡ outlet_of d f
  outlet_of-under None f = refl
  outlet_of-under (Some d) f = refl

  pub outlet-under : (f : Formatter) → outlet (under b f) ≡ outlet f
  outlet-under f = outlet_of-under (diversion f) f

  value-under : (r : BuiltInRegister) (f : Formatter) → registers.given_value r (under b f) ≡ registers.given_value r f
  value-under given.DiversionPlace f = place-under f
  value-under r f = refl

  holds-under : (q : Question) (f : Formatter) → conditions.holds q (under b f) ≡ conditions.holds q f
  holds-under questions.Odd f = refl
  holds-under questions.Even f = refl
  holds-under questions.Number f = refl

  answered-under : (q : Question) (f : Formatter) → conditions.answered q (under b f) ≡ under b (conditions.answered q f)
  answered-under q f =
      ap (λ h. record (under b f) { reader = on_half (judged h) (under b f).reader; event = events.Nothing }) (holds-under q f)

  given_by-under : (r : Option BuiltInRegister) (f : Formatter) → registers.given_by r (under b f) ≡ under b (registers.given_by r f)
  given_by-under None f = refl
  given_by-under (Some given.Diversion) f = refl
  given_by-under (Some r) f = ap (λ n. registers.spliced (number_text (registers.given_format r f.given) n) (under b f)) (value-under r f)

  heard_beside-under : (e : Event) (f : Formatter) → moves.heard_beside e (under b f) ≡ under b (moves.heard_beside e f)
  heard_beside-under events.Given f =
      heard_of (registers.given_by (given_named (asked f)) (under b f)) (registers.given_by (given_named (asked f)) f) (given_by-under (given_named (asked f)) f)
  heard_beside-under (events.Judge q) f = answered-under q f
  heard_beside-under (events.DivertedEnd None) f = refl
  heard_beside-under (events.DivertedEnd (Some height)) f = refl
  heard_beside-under e f = refl

  pub heard-under : (e : Event) (f : Formatter) → moves.heard e (under b f) ≡ under b (moves.heard e f)
  heard-under e f = either (moves.is_text e) (moves.text_heard e f) (moves.heard_beside e f) (moves.text_heard e (under b f)) (moves.heard_beside e (under b f)) (text_heard-under e f) (heard_beside-under e f)

  -- ---- springing

  sprung_text-under : (name : List ℕ) (text : Option (List Element)) (f : Formatter) → springing.sprung_text name text (under b f) ≡ under b (springing.sprung_text name text f)
  sprung_text-under name None f = refl
  sprung_text-under name (Some text) f = refl

  pub sprung-under : (name : List ℕ) (f : Formatter) → springing.sprung name (under b f) ≡ under b (springing.sprung name f)
  sprung-under name f = sprung_text-under name (words (find name f.store.names)) f

  pub ejected_to-under : (t : Trap) (f : Formatter) → springing.ejected_to t (under b f) ≡ under b (springing.ejected_to t f)
  ejected_to-under t f = sprung_text-under t.name (words (find t.name f.store.names)) _

  -- ---- space and pages

  spaced_up-under : (n : ℕ) (f : Formatter) → spaces.spaced_up n (under b f) ≡ under b (spaces.spaced_up n f)
  spaced_up-under n f =
      ap (λ o. if spaces.is_on_page o && not f.settings.pages.no_space then record (under b f) { paper = record f.paper { place = f.paper.place - n } } else under b f) (outlet-under f)
      ∙ either (spaces.is_on_page (outlet f) && not f.settings.pages.no_space) (record f { paper = record f.paper { place = f.paper.place - n } }) f _ (under b f) refl refl

  sp_by-under : (z : ℤ) (f : Formatter) → spaces.sp_by z (under b f) ≡ under b (spaces.sp_by z f)
  sp_by-under (pos n) f = refl
  sp_by-under (negsuc n) f = tasked tasks.Read (spaces.spaced_up (suc n)) f (spaced_up-under (suc n) f)

  sp-under : (f : Formatter) → spaces.sp (under b f) ≡ under b (spaces.sp f)
  sp-under f = ap (λ z. spaces.sp_by (space_lines.sp (line f) (spacing f) z) (under b f)) (place-under f) ∙ sp_by-under (space_lines.sp (line f) (spacing f) (present_place f)) f

  needed-under : (below : ℕ) (n : ℤ) (f : Formatter) → spaces.needed below n (under b f) ≡ under b (spaces.needed below n f)
  needed-under below n f =
      ap (λ o. if spaces.has_room o && int_lt (pos below) n then pages.moved_to (f.paper.place + below) (under b f) else under b f) (outlet-under f)
      ∙ either (spaces.has_room (outlet f) && int_lt (pos below) n) (pages.moved_to (f.paper.place + below) f) f _ (under b f) refl refl

  ne-under : (f : Formatter) → spaces.ne (under b f) ≡ under b (spaces.ne f)
  ne-under f =
      let below = distance_below f.paper.place f in
      ap (λ z. record (spaces.needed below (space_lines.ne (line f) (spacing f) z) (under b f)) { task = tasks.Read }) (place-under f)
      ∙ tasked tasks.Read (spaces.needed below (space_lines.ne (line f) (spacing f) (present_place f))) f (needed-under below (space_lines.ne (line f) (spacing f) (present_place f)) f)

  returned-under : (z : ℤ) (f : Formatter) → spaces.returned z (under b f) ≡ under b (spaces.returned z f)
  returned-under (pos n) f = either (not (is_diverting (diversion f)) && nat_lt n (page_place f.paper)) (record f { paper = record f.paper { place = n } }) f _ (under b f) refl refl
  returned-under (negsuc n) f = refl

  rt-under : (f : Formatter) → spaces.rt (under b f) ≡ under b (spaces.rt f)
  rt-under f =
      tasked tasks.Read (spaces.returned (space_lines.rt (line f) (spacing f) (page_place f.paper) f.settings.pages.mark)) f (returned-under (space_lines.rt (line f) (spacing f) (page_place f.paper) f.settings.pages.mark) f)

  turned-under : (t : Bool) (f : Formatter) → pages.turned t (under b f) ≡ under b (pages.turned t f)
  turned-under t f =
      either (is_open f.paper.state && (t || not f.settings.pages.no_space))
      (record f { paper = record f.paper { ejecting = true }; task = tasks.Eject ejecteds.Request }) (to_read f) _ (to_read (under b f)) refl refl

  number_next-under : (n : Option ℤ) (f : Formatter) → numbering.number_next n (under b f) ≡ under b (numbering.number_next n f)
  number_next-under None f = refl
  number_next-under (Some n) f = refl

  numbered-under : (n : Option ℤ) (f : Formatter) → numbering.numbered n (under b f) ≡ under b (numbering.numbered n f)
  numbered-under None f = refl
  numbered-under (Some n) f = refl

  pn-under : (f : Formatter) → numbering.pn (under b f) ≡ under b (numbering.pn f)
  pn-under f = tasked tasks.Read (numbering.numbered (numbering.given_number f)) f (numbered-under (numbering.given_number f) f)

  bp_at-under : (s : PageState) (n : Option ℤ) (f : Formatter) → numbering.bp_at s n (under b f) ≡ under b (numbering.bp_at s n f)
  bp_at-under states.Unbegun n f = refl
  bp_at-under states.Open n f = tasked (tasks.Turn (is_some n)) (numbering.number_next n) f (number_next-under n f)
  bp_at-under states.Closed n f = tasked (tasks.Begin (Some (is_some n))) (numbering.number_next n) f (number_next-under n f)

  bp-under : (f : Formatter) → numbering.bp (under b f) ≡ under b (numbering.bp f)
  bp-under f = either (is_diverting (diversion f)) (to_read f) (numbering.bp_at f.paper.state (numbering.given_number f) f) (to_read (under b f)) _ refl (bp_at-under f.paper.state (numbering.given_number f) f)

  -- ---- traps

  with_page_trap-under : (t : PageTrap) (f : Formatter) → traps.with_page_trap t (under b f) ≡ under b (traps.with_page_trap t f)
  with_page_trap-under (page_traps.Plant place name) f = refl
  with_page_trap-under (page_traps.Remove place) f = refl
  with_page_trap-under page_traps.Nothing f = refl

  wh-under : (f : Formatter) → traps.wh (under b f) ≡ under b (traps.wh f)
  wh-under f =
      ap (λ z. record (traps.with_page_trap (trap_lines.wh (line f) (long f) (spacing f) z) (under b f)) { task = tasks.Read }) (place-under f)
      ∙ tasked tasks.Read (traps.with_page_trap (trap_lines.wh (line f) (long f) (spacing f) (present_place f))) f (with_page_trap-under (trap_lines.wh (line f) (long f) (spacing f) (present_place f)) f)

  with_trap_moved-under : (t : Option TrapMove) (f : Formatter) → traps.with_trap_moved t (under b f) ≡ under b (traps.with_trap_moved t f)
  with_trap_moved-under None f = refl
  with_trap_moved-under (Some t) f = refl

  ch-under : (f : Formatter) → traps.ch (under b f) ≡ under b (traps.ch f)
  ch-under f =
      ap (λ z. record (traps.with_trap_moved (trap_lines.ch (line f) (long f) (spacing f) z) (under b f)) { task = tasks.Read }) (place-under f)
      ∙ tasked tasks.Read (traps.with_trap_moved (trap_lines.ch (line f) (long f) (spacing f) (present_place f))) f (with_trap_moved-under (trap_lines.ch (line f) (long f) (spacing f) (present_place f)) f)

  -- ---- diversions

  measured-under : (d : Option Diversion) (f : Formatter) → diversions.measured d (under b f) ≡ under b (diversions.measured d f)
  measured-under None f = refl
  measured-under (Some d) f = refl

  end_diversion-under : (f : Formatter) → diversions.end_diversion (under b f) ≡ under b (diversions.end_diversion f)
  end_diversion-under f =
      ap (λ v. diversions.measured (newest_diversion f.store.building) (record (under b f) { store = v })) (ended-under b (newest_diversion f.store.building) f.store)
      ∙ measured-under (newest_diversion f.store.building) (record f { store = diversion_ended f.store })

  divert_to-under : (name : Option (List ℕ)) (f : Formatter) → diversions.divert_to name (under b f) ≡ under b (diversions.divert_to name f)
  divert_to-under None f = end_diversion-under f
  divert_to-under (Some name) f = refl

  di-under : (f : Formatter) → diversions.di (under b f) ≡ under b (diversions.di f)
  di-under f = tasked tasks.Read (diversions.divert_to (name_in (long f) (line f))) f (divert_to-under (name_in (long f) (line f)) f)

  append_to-under : (name : Option (List ℕ)) (f : Formatter) → diversions.append_to name (under b f) ≡ under b (diversions.append_to name f)
  append_to-under None f = end_diversion-under f
  append_to-under (Some name) f = refl

  da-under : (f : Formatter) → diversions.da (under b f) ≡ under b (diversions.da f)
  da-under f = tasked tasks.Read (diversions.append_to (name_in (long f) (line f))) f (append_to-under (name_in (long f) (line f)) f)

  with_diversion_trap-under : (t : DiversionTrap) (f : Formatter) → diversions.with_diversion_trap t (under b f) ≡ under b (diversions.with_diversion_trap t f)
  with_diversion_trap-under (diversion_traps.Set place name) f = refl
  with_diversion_trap-under diversion_traps.Remove f = refl
  with_diversion_trap-under diversion_traps.Nothing f = refl

  dt-under : (f : Formatter) → diversions.dt (under b f) ≡ under b (diversions.dt f)
  dt-under f =
      ap (λ z. record (diversions.with_diversion_trap (trap_lines.dt (line f) (long f) (spacing f) z) (under b f)) { task = tasks.Read }) (place-under f)
      ∙ tasked tasks.Read (diversions.with_diversion_trap (trap_lines.dt (line f) (long f) (spacing f) (present_place f))) f (with_diversion_trap-under (trap_lines.dt (line f) (long f) (spacing f) (present_place f)) f)

  -- ---- the end

  end_last_diversion-under : (f : Formatter) → ending.end_last_diversion (under b f) ≡ under b (ending.end_last_diversion f)
  end_last_diversion-under f = either (is_diverting (newest_diversion f.store.building)) (diversions.end_diversion f) (ending.eject_last f) (diversions.end_diversion (under b f)) (ending.eject_last (under b f)) (end_diversion-under f) refl

  finish_at-under : (s : Step) (f : Formatter) → ending.finish_at s (under b f) ≡ under b (ending.finish_at s f)
  finish_at-under steps.Diversions f = end_last_diversion-under f
  finish_at-under s f = refl

  finish-under : (f : Formatter) → ending.finish (under b f) ≡ under b (ending.finish f)
  finish-under f = finish_at-under f.step f

  -- ---- names

  with_lines-under : (d : Definition) (name : List ℕ) (end : Option (List ℕ)) (f : Formatter) → naming.with_lines d name end (under b f) ≡ under b (naming.with_lines d name end f)
  with_lines-under definitions.De name end f = refl
  with_lines-under definitions.Am name end f = refl
  with_lines-under definitions.Ig name end f = refl

  defined_as-under : (d : Definition) (name : Option (List ℕ)) (f : Formatter) → naming.defined_as d name (under b f) ≡ under b (naming.defined_as d name f)
  defined_as-under d None f = refl
  defined_as-under d (Some name) f = with_lines-under d name (naming.second_name f) f

  named_definition-under : (d : Definition) (f : Formatter) → naming.named_definition d (under b f) ≡ under b (naming.named_definition d f)
  named_definition-under d f = tasked tasks.Read (naming.defined_as d (naming.first_name f)) f (defined_as-under d (naming.first_name f) f)

  without_name-under : (name : Option (List ℕ)) (f : Formatter) → naming.without_name name (under b f) ≡ under b (naming.without_name name f)
  without_name-under None f = refl
  without_name-under (Some name) f = refl

  with_renamed-under : (from to : Option (List ℕ)) (f : Formatter) → naming.with_renamed from to (under b f) ≡ under b (naming.with_renamed from to f)
  with_renamed-under None to f = refl
  with_renamed-under (Some from) None f = refl
  with_renamed-under (Some from) (Some to) f = stored f (renamed from to (stores_under f.store)) (renamed from to f.store) (renamed-under b from to f.store)

  hw-under : (f : Formatter) → naming.hw (under b f) ≡ under b (naming.hw f)
  hw-under f = stored (to_read f) (naming.with_words (length (line f)) (line f) (stores_under f.store)) (naming.with_words (length (line f)) (line f) f.store) (with_words-under b (length (line f)) (line f) f.store)

  -- ---- registers

  given_set-under : (r : BuiltInRegister) (n : ℤ) (f : Formatter) → registers.given_set r n (under b f) ≡ under b (registers.given_set r n f)
  given_set-under given.Page n f = refl
  given_set-under given.Height n f = refl
  given_set-under given.Width n f = refl
  given_set-under r n f = refl

  register_set_by-under : (r : Option BuiltInRegister) (name : List ℕ) (n : ℤ) (step : Option ℤ) (f : Formatter)
      → registers.register_set_by r name n step (under b f) ≡ under b (registers.register_set_by r name n step f)
  register_set_by-under None name n step f =
      let r = set_to n step (register_of (find name f.store.registers)) in
      stored f (written r name (stores_under f.store)) (written r name f.store) (written_under b.stored b.depth r name f.store)
  register_set_by-under (Some r) name n step f = either (is_held n) (registers.given_set r n f) f (registers.given_set r n (under b f)) (under b f) (given_set-under r n f) refl

  pub register_set-under : (name : List ℕ) (n : ℤ) (step : Option ℤ) (f : Formatter) → registers.register_set name n step (under b f) ≡ under b (registers.register_set name n step f)
  register_set-under name n step f = register_set_by-under (given_named name) name n step f

  register_value_by-under : (r : Option BuiltInRegister) (name : List ℕ) (f : Formatter) → registers.register_value_by r name (under b f) ≡ registers.register_value_by r name f
  register_value_by-under None name f = refl
  register_value_by-under (Some r) name f = value-under r f

  register_changed-under : (c : Option RegisterChange) (f : Formatter) → registers.register_changed c (under b f) ≡ under b (registers.register_changed c f)
  register_changed-under None f = refl
  register_changed-under (Some c) f =
      ap (λ n. registers.register_set c.name (applied c.change n) c.step (under b f)) (register_value_by-under (given_named c.name) c.name f)
      ∙ register_set-under c.name (applied c.change (registers.register_value c.name f)) c.step f

  formatted_by-under : (r : Option BuiltInRegister) (name : List ℕ) (x : Format) (f : Formatter) → registers.formatted_by r name x (under b f) ≡ under b (registers.formatted_by r name x f)
  formatted_by-under None name x f = refl
  formatted_by-under (Some r) name x f = refl

  format_changed-under : (c : Option FormatChange) (f : Formatter) → registers.format_changed c (under b f) ≡ under b (registers.format_changed c f)
  format_changed-under None f = refl
  format_changed-under (Some c) f = formatted_by-under (given_named c.name) c.name c.format f

  register_removed-under : (name : Option (List ℕ)) (f : Formatter) → registers.register_removed name (under b f) ≡ under b (registers.register_removed name f)
  register_removed-under None f = refl
  register_removed-under (Some name) f = either (is_none (given_named name)) (record f { store = unregistered name f.store }) f _ (under b f) refl refl

  place_marked-under : (name : Option (List ℕ)) (f : Formatter) → registers.place_marked name (under b f) ≡ under b (registers.place_marked name f)
  place_marked-under None f =
      ap (λ n. record (under b f) { settings = record f.settings { pages = record f.settings.pages { mark = n } } }) (place_in-under (diversion f) f)
  place_marked-under (Some name) f =
      ap (λ z. registers.register_set name z None (under b f)) (place-under f) ∙ register_set-under name (present_place f) None f

  -- ---- all requests

  pl-under : (f : Formatter) → settings.pl (under b f) ≡ under b (settings.pl f)
  pl-under f = ap (λ z. settings.with_pages (page_lines.pl (line f) z f.settings.pages) (under b f)) (place-under f)

  vs-under : (f : Formatter) → settings.vs (under b f) ≡ under b (settings.vs f)
  vs-under f = ap (λ z. settings.with_pages (page_lines.vs (line f) z f.settings.pages) (under b f)) (place-under f)

  act-under : (r : Request) (f : Formatter) → act r (under b f) ≡ under b (act r f)
  act-under requests.Af f = format_changed-under (register_lines.af (line f) (long f)) (to_read f)
  act-under requests.Am f = named_definition-under definitions.Am f
  act-under requests.Bp f = bp-under f
  act-under requests.Ch f = ch-under f
  act-under requests.Da f = da-under f
  act-under requests.De f = named_definition-under definitions.De f
  act-under requests.Di f = di-under f
  act-under requests.Dt f = dt-under f
  act-under requests.Hw f = hw-under f
  act-under requests.Ig f = refl
  act-under requests.Mk f = place_marked-under (name_in (long f) (line f)) (to_read f)
  act-under requests.Ne f = ne-under f
  act-under requests.Nr f = register_changed-under (register_lines.nr (line f) (long f) (spacing f)) (to_read f)
  act-under requests.Pl f = pl-under f
  act-under requests.Pn f = pn-under f
  act-under requests.Rm f = tasked tasks.Read (naming.without_name (naming.first_name f)) f (without_name-under (naming.first_name f) f)
  act-under requests.Rn f = tasked tasks.Read (naming.with_renamed (naming.first_name f) (naming.second_name f)) f (with_renamed-under (naming.first_name f) (naming.second_name f) f)
  act-under requests.Rr f = register_removed-under (name_in (long f) (line f)) (to_read f)
  act-under requests.Rt f = rt-under f
  act-under requests.Sp f = sp-under f
  act-under requests.Vs f = vs-under f
  act-under requests.Wh f = wh-under f
  act-under r f = refl

  gone_on-under : (t : Task) (f : Formatter) → moves.gone_on t (under b f) ≡ under b (moves.gone_on t f)
  gone_on-under (tasks.Turn t) f = turned-under t f
  gone_on-under tasks.Finish f = finish-under f
  gone_on-under t f = refl

  pub worked-under : (t : Task) (f : Formatter) → moves.worked t (under b f) ≡ under b (moves.worked t f)
  worked-under tasks.Dash f = finish_dash-under f
  worked-under (tasks.Act r) f = act-under r f
  worked-under t f = gone_on-under t f
