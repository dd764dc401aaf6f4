-- No move of the formatter makes a cell of a control byte.
use Prim.Native.Char.{code}
use Rattle.std.specs.Prelude.{map, replicate, drop, not, nat_lt, ◌||◌, ◌&&◌}
use Rattle.std.specs.Option.{unwrap_or}
use Rattle.std.specs.Cmp.Derive.{both_true}
use Rattle.std.proofs.lemmas.List.Elements.{All-nil, All-cons, All-head, All-tail, All-drop, All-replicate}
use Rattle.std.proofs.Common.{◌≡◌, ℕ, ◌==◌, Bool, true, false, if◌then◌else◌, List, [], ◌∷◌, Option, None, Some, refl, subst, ◌∙◌}
use Rattle.nr_vectors.specs.declared.cell.Cell.{Cell}
use Rattle.nr_units.specs.NumberText.{number_text}
use Rattle.nr_fill.specs.declared.piece.CutAfter.{CutAfter}
use Rattle.nr_fill.specs.declared.piece.CutAfter.TheVariants.{Letter, Hyphen}
use Rattle.nr_fill.specs.declared.piece.Point.{Point}
use Rattle.nr_fill.specs.declared.piece.Point.TheVariants as points
use Rattle.nr_fill.specs.Piece.{Collected, Word, Piece, add_cell, add_cells, add_blank, marked, pointed_here, barred_here, without_blanks, hyphenated, joined, may_hyphenate, with_title_cell}
use Rattle.nr_fill.specs.Tabs.{tabbed, with_field_filled}
use Rattle.nr_fill.specs.Title.{Title}
use Rattle.nr_settings.specs.Characters.{prints, printing}
use Rattle.nr_units.specs.LongestPrefix.{read_of}
use Rattle.nr_units.specs.declared.units.Scale.TheVariants.{Em}
use Rattle.nr_settings.specs.Numbers.{context}
use Rattle.nr_settings.specs.Motions.{first_printing, after_ampersand, rule_byte}
use Rattle.nr_settings.specs.Widths.{width_of}
use Rattle.nr_settings.specs.Specials.{special_of, byte_of}
use Rattle.nr_settings.specs.declared.indents.Margins.{Margins}
use Rattle.nr_settings.specs.declared.specials.Special.{Special}
use Rattle.nr_settings.specs.declared.specials.Special.TheVariants as specials
use Rattle.nr_levels.specs.Gathering.{Gathered}
use Rattle.nr_store.specs.declared.element.Diversion.{Diversion}
use Rattle.nr_store.specs.Store.{Built, Level, Means, Shared, reading_bytes}
use Rattle.nr_reading.specs.declared.ask.Ask.{Ask}
use Rattle.nr_reading.specs.declared.mode.PendingAct.{PendingAct}
use Rattle.nr_reading.specs.declared.mode.PendingAct.TheVariants as pending_acts
use Rattle.nr_symbol_tables.specs.Table.{Named}
use Rattle.nr_reading.specs.declared.event.Event.{Event}
use Rattle.nr_reading.specs.declared.event.Event.TheVariants as events
use Rattle.nr_reading.specs.declared.mode.Mode.{Mode}
use Rattle.nr_reading.specs.declared.mode.Mode.TheVariants as modes
use Rattle.nr_reading.specs.Delimited.{Texts}
use Rattle.nr_reading.specs.TextEscape.{is_titled}
use Rattle.nr_formatter.specs.declared.formatter.Formatter.{Formatter}
use Rattle.nr_formatter.specs.declared.tasks.After.{After}
use Rattle.nr_formatter.specs.declared.tasks.After.TheVariants as afters
use Rattle.nr_formatter.specs.declared.tasks.Resume.{Resume}
use Rattle.nr_formatter.specs.declared.tasks.Task.{Task}
use Rattle.nr_formatter.specs.declared.tasks.Task.TheVariants as tasks
use Rattle.nr_formatter.specs.Access.{done, collected, with_collected, is_filling, cell, margins, asked, argument, spacing, long, diversion}
use Rattle.nr_reading.specs.Conditionals.{answer_of, part_mode}
use Rattle.nr_formatter.specs.Conditions as conditions
use Rattle.nr_formatter.specs.Lines as lines
use Rattle.nr_formatter.specs.Moves as moves
use Rattle.nr_formatter.specs.Motions.{motion_cells, next_place, rule_cells}
use Rattle.nr_formatter.specs.BuiltIn.{given_named}
use Rattle.nr_formatter.specs.Registers as registers
use Rattle.nr_formatter.specs.declared.built_in.BuiltInRegister.{BuiltInRegister}
use Rattle.nr_formatter.specs.declared.built_in.BuiltInRegister.TheVariants as given
use Rattle.nr_formatter.specs.Text as texts
use Rattle.nr_formatter.specs.Titles as titles
use Rattle.nr_laws.proofs.PrintedLines.{IsAmong, AreAmong, IsShown, IsPrinted, ArePrinted, IsLined, Lined, either, add_cell-lined, add_cells-lined, add_blank-lined, marked-lined, named-lined, barred-lined, hyphenated-lined, joined-lined, without_blanks-lined, end_word-lined, tabbed-lined, filled-lined, with_title_cell-lined, with_title-lined, with_part_ended-lined}
use Rattle.nr_laws.proofs.PrintedItems.{IfAmong}
use Rattle.nr_laws.proofs.PrintedNumbers.{IsAscii, AreAscii, decimal-printed, number-printed}
use Rattle.nr_laws.proofs.PrintedStores.{AreStored, IsNamed, Stores, ascii-stored, bytes-stored, innermost-named}
use Rattle.nr_laws.proofs.PrintedDirect.{IsByte, IsHeard, IsHeld, Halved}

module _ (set : ℕ → Bool) where
  -- ---- bytes

  ascii-shown : (b : ℕ) → IsAscii b → IsShown set b
  ascii-shown b is = by (prints b) (nat_lt b 128) is
    where
      by : (c d : Bool) → (c && d) ≡ true → (c && (d || set b)) ≡ true
      by true true is = refl
      by true false is = absurd (let wrong : false ≡ true = is in cc)
      by false d is = absurd (let wrong : false ≡ true = is in cc)

  first-printed : (bs : List ℕ) → AreAmong set bs → IsShown set (first_printing bs)
  first-printed [] h = refl
  first-printed (b ∷ bs) h =
      either (IsShown set) (b == code "\\") (code "_") (if prints b then b else code "_") refl (by (prints b) refl)
    where
      by : (c : Bool) → prints b ≡ c → IsShown set (if c then b else code "_")
      by true is = both_true is (All-head (IsAmong set) b bs h)
      by false is = refl

  ampersand-printed : (bs : List ℕ) → AreAmong set bs → IsShown set (after_ampersand bs)
  ampersand-printed [] h = refl
  ampersand-printed (b ∷ bs) h = either (IsShown set) (b == code "&") (first_printing bs) (code "_") (first-printed bs (All-tail (IsAmong set) b bs h)) refl

  rule-printed : (bs : List ℕ) → AreAmong set bs → IsShown set (rule_byte bs)
  rule-printed [] h = refl
  rule-printed (b ∷ bs) h =
      either (IsShown set) (b == code "\\") (after_ampersand bs) (first_printing (b ∷ bs)) (ampersand-printed bs (All-tail (IsAmong set) b bs h)) (first-printed (b ∷ bs) h)

  rule_cells-printed : (f : Formatter) → AreAmong set (argument f) → IsShown set (rule_cells f).byte
  rule_cells-printed f h =
      let used = (read_of (context Em (spacing f) (next_place f)) (argument f)).used in
      rule-printed (drop used (argument f)) (All-drop (IsAmong set) used (argument f) h)

  special-printed : (s : Special) → IsShown set (byte_of s)
  special-printed specials.Hyphen = refl
  special-printed specials.Dash = refl
  special-printed specials.Bullet = refl
  special-printed specials.Apostrophe = refl
  special-printed specials.Quote = refl
  special-printed specials.Backslash = refl
  special-printed specials.Point = refl
  special-printed specials.Joint = refl

  -- what a tab or a leader repeats
  abbrev pub IsFiller : Option ℕ → Type 0
  IsFiller None = Unit {0}
  IsFiller (Some b) = IsShown set b

  pub printing-filler : (o : Option ℕ) → IfAmong set o → IsFiller (printing o)
  printing-filler None among = tt
  printing-filler (Some b) among = by (prints b) refl
    where
      by : (c : Bool) → prints b ≡ c → IsFiller (if c then Some b else None)
      by true is = both_true is among
      by false is = tt

  filler-printed : (o : Option ℕ) → IsFiller o → IsShown set (unwrap_or o (code " "))
  filler-printed None h = refl
  filler-printed (Some b) h = h

  -- ---- a formatter

  pub record Kept (ns : List (Named Means)) (bs : List Built) (ls : List (Level Resume)) (ps : List Piece) (w : Option Word) (t : Option Title) (b l : Option ℕ) (ts : List Shared) (ws : List (List ℕ)) (g : Gathered) (d : PendingAct) (m : Mode) (asks : List Ask) (name x : List ℕ) (y : Texts) : Type 0 where
    pub stored : Stores set ns bs ls ts ws g
    pub lined : Lined set ps w t
    pub tab : IsFiller b
    pub leader : IsFiller l
    pub half : Halved set d m asks name x y

  abbrev pub IsKept : Formatter → Type 0
  IsKept f =
      Kept f.store.names f.store.building f.store.levels (collected f).pieces (collected f).word (collected f).title f.settings.tabs.tab f.settings.tabs.leader
      f.store.texts f.store.arguments f.store.gathered f.reader.half.reading.pending_act f.reader.half.reading.mode f.reader.half.asks f.reader.half.notes.defining.ending f.reader.half.notes.line f.reader.half.delimited

  -- what was heard was put somewhere, or is still to be heard
  pub record Hearing (f : Formatter) : Type 0 where
    pub kept : IsKept f
    pub heard : IsHeard set f.event f.reader.half.reading.mode
    pub calm : f.springs ≡ None

  -- a text that is spliced is read next
  spliced-half : {d : PendingAct} {m : Mode} {asks : List Ask} {name x : List ℕ} {y : Texts} → Halved set d m asks name x y → Halved set pending_acts.Look m asks name x y
  spliced-half h = record { pending_act = tt; held = h.held; few = h.few; ending = h.ending; ends = h.ends; line = h.line; texts = h.texts }

  kept-with : (f : Formatter) (c : Collected) → IsKept f → IsLined set c → IsKept (with_collected c f)
  kept-with f c h is = record { stored = h.stored; lined = is; tab = h.tab; leader = h.leader; half = h.half }

  pub hearing-if : (c : Bool) (f g : Formatter) → Hearing f → Hearing g → Hearing (if c then f else g)
  hearing-if true f g first second = first
  hearing-if false f g first second = second

  put-word : (add : Margins → Collected → Collected) (f : Formatter) → Hearing f → IsLined set (add (margins f) (collected f)) → Hearing (texts.to_word add f)
  put-word add f h is = record { kept = record { stored = h.kept.stored; lined = is; tab = h.kept.tab; leader = h.kept.leader; half = h.kept.half }; heard = tt; calm = h.calm }

  put-cell : (x : Cell) (b : CutAfter) (f : Formatter) → IsPrinted set x → Hearing f → Hearing (texts.put x b f)
  put-cell x b f is h = put-word (λ m. add_cell m b x) f h (add_cell-lined set (margins f) b x (collected f) is h.kept.lined)

  done-hearing : (f : Formatter) → Hearing f → Hearing (done f)
  done-hearing f h = record { kept = h.kept; heard = tt; calm = h.calm }

  field-ended : (f : Formatter) → Hearing f → Hearing (lines.field_ended f)
  field-ended f h = record { kept = kept-with f (with_field_filled (collected f)) h.kept (filled-lined set (collected f) h.kept.lined); heard = h.heard; calm = h.calm }

  pointed-lined : (places : List ℕ) (c : Collected) → IsLined set c → IsLined set (lines.with_points places c)
  pointed-lined [] c h = h
  pointed-lined (place ∷ places) c h = pointed-lined places (hyphenated place c) (hyphenated-lined set place c h)

  pub pointed-kept : (f : Formatter) → IsKept f → IsLined set (lines.pointed f)
  unfolding lines.pointed
  pointed-kept f h =
      either (IsLined set) (not (is_filling f)) (joined (collected f))
      (if f.settings.hyphenation.on && may_hyphenate (collected f) then lines.with_points (lines.given_points f) (collected f) else collected f)
      (joined-lined set (collected f) h.lined)
      (either (IsLined set) (f.settings.hyphenation.on && may_hyphenate (collected f)) (lines.with_points (lines.given_points f) (collected f)) (collected f)
      (pointed-lined (lines.given_points f) (collected f) h.lined) h.lined)

  pub word-ended : (f : Formatter) → IsKept f → IsKept (lines.word_ended f)
  word-ended f h = record { stored = h.stored; lined = end_word-lined set (lines.pointed f) (pointed-kept f h); tab = h.tab; leader = h.leader; half = h.half }

  pub break-word-end : (f : Formatter) → IsKept f → IsKept (lines.break_word_end f)
  break-word-end f h =
      either IsKept (lines.reads_a_field f) (lines.field_ended f) (lines.word_ended f) (kept-with f (with_field_filled (collected f)) h (filled-lined set (collected f) h.lined)) (word-ended f h)

  -- ---- text

  gap-blank : (f : Formatter) → Hearing f → Hearing (texts.gap_blank f)
  gap-blank f h = let ended = word-ended f h.kept in record { kept = record { stored = ended.stored; lined = record { pieces = ended.lined.pieces; word = ended.lined.word; title = ended.lined.title }; tab = ended.tab; leader = ended.leader; half = ended.half }; heard = tt; calm = h.calm }

  blank-hearing : (f : Formatter) → Hearing f → Hearing (texts.blank f)
  unfolding texts.blank
  blank-hearing f h =
      hearing-if (not (is_filling f)) (texts.blank_cell f) (if lines.reads_a_field f then lines.field_ended f else texts.gap_blank f)
      (put-word add_blank f h (add_blank-lined set (margins f) (collected f) h.kept.lined))
      (hearing-if (lines.reads_a_field f) (lines.field_ended f) (texts.gap_blank f) (field-ended f h) (gap-blank f h))

  tab-hearing : (filler : Option ℕ) (f : Formatter) → IsFiller filler → Hearing f → Hearing (texts.tab filler f)
  unfolding texts.tab
  tab-hearing filler f is h =
      let x = cell (unwrap_or filler (code " ")) f in
      hearing-if (lines.reads_a_field f) (lines.field_ended f)
      (texts.to_word (λ m. tabbed m f.settings.tabs.stops (not f.settings.filling.fill) x) f) (field-ended f h)
      (put-word (λ m. tabbed m f.settings.tabs.stops (not f.settings.filling.fill) x) f h
      (tabbed-lined set (margins f) f.settings.tabs.stops (not f.settings.filling.fill) x (collected f) (filler-printed filler is) h.kept.lined))

  byte-hearing : (b : ℕ) (c : Bool) (f : Formatter) → prints b ≡ c → IsAmong set b → Hearing f → Hearing (if c then texts.character b f else done f)
  byte-hearing b true f is among h = put-cell (cell b f) (texts.after_of b) f (both_true is among) h
  byte-hearing b false f is among h = done-hearing f h

  text_byte-hearing : (b : ℕ) (f : Formatter) → IsAmong set b → Hearing f → Hearing (texts.text_byte b f)
  unfolding texts.text_byte
  text_byte-hearing b f among h =
      let c4 : Formatter = if prints b then texts.character b f else done f in
      let c3 : Formatter = if b == 1 then texts.tab f.settings.tabs.leader f else c4 in
      let c2 : Formatter = if b == code "\t" then texts.tab f.settings.tabs.tab f else c3 in
      hearing-if (b == code " ") (texts.blank f) c2 (blank-hearing f h)
      (hearing-if (b == code "\t") (texts.tab f.settings.tabs.tab f) c3 (tab-hearing f.settings.tabs.tab f h.kept.tab h)
      (hearing-if (b == 1) (texts.tab f.settings.tabs.leader f) c4 (tab-hearing f.settings.tabs.leader f h.kept.leader h) (byte-hearing b (prints b) f refl among h)))

  tasked : (f : Formatter) → Hearing f → (t : Task) → Hearing (record f { task = t })
  tasked f h t = record { kept = h.kept; heard = h.heard; calm = h.calm }

  pointed-hearing : (q : Point) (f : Formatter) → Hearing f → Hearing (texts.break_point q f)
  pointed-hearing q f h = record { kept = kept-with f (pointed_here q (collected f)) h.kept (named-lined set q (collected f) h.kept.lined); heard = tt; calm = h.calm }

  special-at : (s : Option Special) (f : Formatter) → Hearing f → Hearing (texts.special_at s f)
  special-at None f h = done-hearing f h
  special-at (Some specials.Hyphen) f h = put-cell (cell (code "-") f) Hyphen f refl h
  special-at (Some specials.Dash) f h = tasked (texts.letter (code "-") f) (put-cell (cell (code "-") f) Letter f refl h) tasks.Dash
  special-at (Some specials.Point) f h = pointed-hearing points.Hard f h
  special-at (Some specials.Joint) f h = pointed-hearing points.Joining f h
  special-at (Some s) f h = put-cell (cell (byte_of s) f) Letter f (special-printed s) h

  special-hearing : (f : Formatter) → Hearing f → Hearing (texts.special f)
  unfolding texts.special
  special-hearing f h = special-at (special_of (asked f)) f h

  cells-hearing : (b n : ℕ) (f : Formatter) → IsShown set b → Hearing f → Hearing (texts.cells b n f)
  cells-hearing b n f is h = put-word (λ m. add_cells m (cell b f) n) f h (add_cells-lined set (margins f) (cell b f) n (collected f) is h.kept.lined)

  blanks-dropped : (f : Formatter) → Hearing f → Hearing (texts.blanks_dropped f)
  blanks-dropped f h =
      hearing-if (not (is_filling f)) (with_collected (without_blanks (collected f)) f) f
      (record { kept = kept-with f (without_blanks (collected f)) h.kept (without_blanks-lined set (collected f) h.kept.lined); heard = h.heard; calm = h.calm }) h

  line-ended : (after : After) (f : Formatter) → Hearing f → Hearing (texts.word_line_ended after f)
  line-ended after f h = let ended = word-ended f h.kept in record { kept = record { stored = ended.stored; lined = record { pieces = ended.lined.pieces; word = ended.lined.word; title = ended.lined.title }; tab = ended.tab; leader = ended.leader; half = ended.half }; heard = tt; calm = h.calm }

  line_end-hearing : (after : After) (f : Formatter) → Hearing f → Hearing (texts.line_end after f)
  unfolding texts.line_end
  line_end-hearing after f h =
      let g = texts.blanks_dropped f in
      let there = blanks-dropped f h in
      hearing-if (lines.reads_a_field g) (lines.field_ended g) (texts.word_line_ended after g) (field-ended g there) (line-ended after g there)

  text_line_end-hearing : (f : Formatter) → Hearing f → Hearing (texts.text_line_end f)
  unfolding texts.text_line_end
  text_line_end-hearing f h = hearing-if (texts.joins_lines f) (done f) (texts.line_end afters.Line f) (done-hearing f h) (line_end-hearing afters.Line f h)

  sign-hearing : (e : Event) (f : Formatter) → Hearing f → Hearing (texts.text_sign e f)
  sign-hearing events.Zero f h = put-word marked f h (marked-lined set (margins f) (collected f) h.kept.lined)
  sign-hearing events.Percent f h = record { kept = kept-with f (barred_here (collected f)) h.kept (barred-lined set (collected f) h.kept.lined); heard = tt; calm = h.calm }
  sign-hearing events.BreakWord f h = record { kept = h.kept; heard = tt; calm = h.calm }
  sign-hearing e f h = done-hearing f h

  in-text : (titled : Bool) (b : ℕ) → titled ≡ false → IsByte set titled b → prints b ≡ true
  in-text true b is h = absurd (let wrong : true ≡ false = is in cc)
  in-text false b is h = h

  text-hearing : (e : Event) (f : Formatter) → f.event ≡ e → is_titled f.reader.half.reading.mode ≡ false → Hearing f → Hearing (texts.text e f)
  text-hearing events.Lead f event plain h = put-word add_blank f h (add_blank-lined set (margins f) (collected f) h.kept.lined)
  text-hearing (events.Byte b) f event plain h = text_byte-hearing b f (subst (λ e. IsHeard set e f.reader.half.reading.mode) event h.heard) h
  text-hearing (events.Cell x) f event plain h = put-cell x Letter f (subst (λ e. IsHeard set e f.reader.half.reading.mode) event h.heard) h
  text-hearing (events.Plain b) f event plain h =
      let heard : IsHeard set (events.Plain b) f.reader.half.reading.mode = subst (λ e. IsHeard set e f.reader.half.reading.mode) event h.heard in
      put-cell (cell b f) Letter f (both_true (in-text (is_titled f.reader.half.reading.mode) b plain heard.1) heard.0) h
  text-hearing events.Fixed f event plain h = put-cell (cell (code " ") f) Letter f refl h
  text-hearing events.Tab f event plain h = tab-hearing f.settings.tabs.tab f h.kept.tab h
  text-hearing events.Leader f event plain h = tab-hearing f.settings.tabs.leader f h.kept.leader h
  text-hearing events.Special f event plain h = special-hearing f h
  text-hearing events.Horizontal f event plain h = cells-hearing (code " ") (motion_cells f) f refl h
  text-hearing events.Rule f event plain h = cells-hearing (rule_cells f).byte (rule_cells f).cells f (rule_cells-printed f h.kept.half.texts.1) h
  text-hearing events.EndLine f event plain h = text_line_end-hearing f h
  text-hearing events.EndContinued f event plain h = line_end-hearing afters.Continued f h
  text-hearing e f event plain h = sign-hearing e f h

  -- ---- titles

  title-cells : (xs : List Cell) (c : Collected) → ArePrinted set xs → IsLined set c → IsLined set (titles.with_title_cells xs c)
  title-cells [] c is h = h
  title-cells (x ∷ xs) c is h = title-cells xs (with_title_cell x c) (All-tail (IsPrinted set) x xs is) (with_title_cell-lined set x c (All-head (IsPrinted set) x xs is) h)

  titled-hearing : (xs : List Cell) (f : Formatter) → ArePrinted set xs → Hearing f → Hearing (titles.titled xs f)
  titled-hearing xs f is h = record { kept = kept-with f (titles.with_title_cells xs (collected f)) h.kept (title-cells xs (collected f) is h.kept.lined); heard = tt; calm = h.calm }

  byte-cells : (f : Formatter) (bs : List ℕ) → AreAscii bs → ArePrinted set (map (λ b. cell b f) bs)
  byte-cells f [] h = All-nil (IsPrinted set)
  byte-cells f (b ∷ bs) h = All-cons (IsPrinted set) (cell b f) (map (λ b. cell b f) bs) (ascii-shown b (All-head IsAscii b bs h)) (byte-cells f bs (All-tail IsAscii b bs h))

  one-cell : (b : ℕ) (f : Formatter) → IsShown set b → ArePrinted set (cell b f ∷ [])
  one-cell b f is = All-cons (IsPrinted set) (cell b f) [] is (All-nil (IsPrinted set))

  printed-cells : (b : ℕ) (f : Formatter) → IsAmong set b → ArePrinted set (titles.printed b f)
  printed-cells b f among = by (prints b) refl
    where
      by : (c : Bool) → prints b ≡ c → ArePrinted set (if c then cell b f ∷ [] else [])
      by true is = one-cell b f (both_true is among)
      by false is = All-nil (IsPrinted set)

  title_byte-cells : (b : ℕ) (f : Formatter) → IsAmong set b → ArePrinted set (titles.title_byte b f)
  title_byte-cells b f among =
      either (ArePrinted set) (titles.is_number_character b f.settings.pages.number_character) (titles.page_number f) (titles.printed b f)
      (byte-cells f (number_text f.given.page_format f.paper.number) (number-printed f.given.page_format f.paper.number)) (printed-cells b f among)

  title_special-hearing : (s : Option Special) (f : Formatter) → Hearing f → Hearing (titles.title_special s f)
  title_special-hearing None f h = done-hearing f h
  title_special-hearing (Some specials.Dash) f h = tasked (titles.titled (cell (code "-") f ∷ []) f) (titled-hearing (cell (code "-") f ∷ []) f (one-cell (code "-") f refl) h) tasks.Dash
  title_special-hearing (Some specials.Point) f h = done-hearing f h
  title_special-hearing (Some specials.Joint) f h = done-hearing f h
  title_special-hearing (Some s) f h = titled-hearing (cell (byte_of s) f ∷ []) f (one-cell (byte_of s) f (special-printed s)) h

  title-hearing : (e : Event) (f : Formatter) → f.event ≡ e → Hearing f → Hearing (titles.title e f)
  title-hearing (events.Byte b) f event h =
      titled-hearing (titles.title_byte b f) f (title_byte-cells b f (subst (λ e. IsHeard set e f.reader.half.reading.mode) event h.heard)) h
  title-hearing (events.Plain b) f event h =
      let heard : IsHeard set (events.Plain b) f.reader.half.reading.mode = subst (λ e. IsHeard set e f.reader.half.reading.mode) event h.heard in
      titled-hearing (titles.printed b f) f (printed-cells b f heard.0) h
  title-hearing events.Fixed f event h = titled-hearing (cell (code " ") f ∷ []) f (one-cell (code " ") f refl) h
  title-hearing (events.Cell x) f event h =
      titled-hearing (x ∷ []) f (All-cons (IsPrinted set) x [] (subst (λ e. IsHeard set e f.reader.half.reading.mode) event h.heard) (All-nil (IsPrinted set))) h
  title-hearing events.Special f event h = title_special-hearing (special_of (asked f)) f h
  title-hearing events.Horizontal f event h = titled-hearing (replicate (motion_cells f) (cell (code " ") f)) f (All-replicate (IsPrinted set) (motion_cells f) (cell (code " ") f) refl) h
  title-hearing events.Rule f event h =
      titled-hearing (replicate (rule_cells f).cells (cell (rule_cells f).byte f)) f (All-replicate (IsPrinted set) (rule_cells f).cells (cell (rule_cells f).byte f) (rule_cells-printed f h.kept.half.texts.1)) h
  title-hearing e f event h = done-hearing f h

  -- ---- what was read

  same-title : (m : Mode) → is_titled m ≡ titles.is_title m
  same-title modes.TitleBefore = refl
  same-title (modes.Title d n) = refl
  same-title m = refl

  text_heard-hearing : (e : Event) (c : Bool) (f : Formatter) → titles.reads_title f ≡ c → f.event ≡ e → Hearing f → Hearing (if c then titles.title e f else texts.text e f)
  text_heard-hearing e true f is event h = title-hearing e f event h
  text_heard-hearing e false f is event h = text-hearing e f event (same-title f.reader.half.reading.mode ∙ is) h

  title_part-lined : (t : Option Title) (c : Collected) → IsLined set c → IsLined set (titles.with_delimiter t c)
  title_part-lined None c h = with_title-lined set c h
  title_part-lined (Some t) c h = with_part_ended-lined set c h

  named-bytes : (d : Option Diversion) → IsNamed set d → AreAmong set (registers.name_of d)
  named-bytes None h = All-nil (IsAmong set)
  named-bytes (Some d) h = h

  given-stored : (r : BuiltInRegister) (f : Formatter) → IsKept f → AreStored set (reading_bytes (registers.given_text r f) f.store)
  given-stored given.Diversion f h =
      bytes-stored set (registers.name_of (diversion f)) f.store (named-bytes (diversion f) (innermost-named set f.store.building h.stored.building)) h.stored
  given-stored r f h = ascii-stored set _ f.store (number-printed (registers.given_format r f.given) (registers.given_value r f)) h.stored

  given-by : (r : Option BuiltInRegister) (f : Formatter) → IsKept f → IsKept (registers.given_by r f)
  given-by None f h = h
  given-by (Some r) f h = record { stored = given-stored r f h; lined = h.lined; tab = h.tab; leader = h.leader; half = spliced-half h.half }

  given-calm : (r : Option BuiltInRegister) (f : Formatter) → f.springs ≡ None → (registers.given_by r f).springs ≡ None
  given-calm None f is = is
  given-calm (Some r) f is = is

  -- the part after a condition
  pub part-held : (c : Bool) → IsHeld set (part_mode c)
  part-held true = tt
  part-held false = tt

  beside-hearing : (e : Event) (f : Formatter) → Hearing f → Hearing (moves.heard_beside e f)
  beside-hearing events.Given f h = record { kept = given-by (given_named (asked f)) f h.kept; heard = tt; calm = given-calm (given_named (asked f)) f h.calm }
  beside-hearing events.Width f h = record { kept = record { stored = ascii-stored set _ f.store (decimal-printed (width_of (long f) (spacing f) (argument f))) h.kept.stored; lined = h.kept.lined; tab = h.kept.tab; leader = h.kept.leader; half = spliced-half h.kept.half }; heard = tt; calm = h.calm }
  beside-hearing (events.DivertedEnd None) f h = record { kept = h.kept; heard = tt; calm = h.calm }
  beside-hearing (events.DivertedEnd (Some height)) f h = record { kept = h.kept; heard = tt; calm = h.calm }
  beside-hearing events.TitlePart f h = record { kept = kept-with f (titles.with_delimiter (collected f).title (collected f)) h.kept (title_part-lined (collected f).title (collected f) h.kept.lined); heard = tt; calm = h.calm }
  beside-hearing (events.Judge q) f h =
      let found = answer_of (conditions.holds q f) f.reader.half.notes in
      record {
        kept = record { stored = h.kept.stored; lined = h.kept.lined; tab = h.kept.tab; leader = h.kept.leader; half = record { pending_act = h.kept.half.pending_act; held = part-held found; few = h.kept.half.few; ending = h.kept.half.ending; ends = h.kept.half.ends; line = h.kept.half.line; texts = h.kept.half.texts } };
        heard = tt;
        calm = h.calm;
      }
  beside-hearing e f h = record { kept = h.kept; heard = tt; calm = h.calm }

  pub heard-hearing : (e : Event) (f : Formatter) → f.event ≡ e → Hearing f → Hearing (moves.heard e f)
  heard-hearing e f event h =
      hearing-if (moves.is_text e) (moves.text_heard e f) (moves.heard_beside e f) (text_heard-hearing e (titles.reads_title f) f refl event h) (beside-hearing e f h)
