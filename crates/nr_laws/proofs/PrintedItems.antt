-- The next item is of what is stored or of the source, and what is pending stores no other bytes.
use Prim.Native.Char.{code}
use Rattle.std.specs.Prelude.{slice_index}
use Rattle.std.specs.Option.{option_and_then}
use Rattle.std.proofs.lemmas.List.Elements.{All-nil, All-cons, All-head, All-tail, All-push}
use Rattle.std.proofs.Common.{ℕ, zero, suc, ◌≤◌, ◌==◌, Bool, true, false, if◌then◌else◌, List, [], ◌∷◌, ◌++◌, length, Option, None, Some, refl}
use Rattle.nr_symbol_tables.specs.Table.{find}
use Rattle.nr_store.specs.declared.element.Element.{Element}
use Rattle.nr_store.specs.declared.element.Element.TheVariants as elements
use Rattle.nr_store.specs.declared.named.Meaning.{Meaning}
use Rattle.nr_store.specs.declared.named.Meaning.TheVariants as meanings
use Rattle.nr_store.specs.declared.register.Register.{Register}
use Rattle.nr_store.specs.declared.shown.Shown.{Shown}
use Rattle.nr_store.specs.declared.shown.Shown.TheVariants as shows
use Rattle.nr_store.specs.Store.{Stored, Level, Read, Mark, Reading, words, text_of, begun, shown, shown_of, register_of, written, gone_on, defined}
use Rattle.nr_levels.specs.Gathering.{Gathered, with_byte, with_end}
use Rattle.nr_levels.specs.Levels.{argument}
use Rattle.nr_reading.specs.Definitions.{last_line}
use Rattle.nr_reading.specs.Spelled.{is_empty}
use Rattle.nr_reading.specs.declared.ask.Sign.TheVariants as signs
use Rattle.nr_reading.specs.declared.next_item.NextItem.{NextItem}
use Rattle.nr_reading.specs.declared.next_item.NextItem.TheVariants as next_items
use Rattle.nr_reading.specs.declared.mode.PendingAct.{PendingAct}
use Rattle.nr_reading.specs.declared.mode.PendingAct.TheVariants as pending_acts
use Rattle.nr_input.specs.Acting.{act, name_in, after_meaning, meaning_in, register_text}
use Rattle.nr_input.specs.Place.{Coming, next_item, next_item_of, element_item, afterwards, after_item_of}
use Rattle.nr_input.specs.declared.reader.Reader.{Reader}
use Rattle.nr_formatter.specs.declared.tasks.Resume.{Resume}
use Rattle.nr_laws.proofs.PrintedLines.{IsAmong, AreAmong, IsPrinted, either}
use Rattle.nr_laws.proofs.PrintedNumbers.{number-printed}
use Rattle.nr_laws.proofs.PrintedStores.{AreStored, AreLevels, IsLevel, IsElement, IsText, AreWords, IsGathered, none-gathered, byte-text, text_of-stored, begun-stored, begun_empty, added-stored, defined-stored, entered-stored, bytes-stored, ascii-stored, called-stored, named-words}

module _ (set : ℕ → Bool) where
  -- ---- the next item

  abbrev pub IsNextItem : NextItem → Type 0
  IsNextItem (next_items.Byte b) = IsAmong set b
  IsNextItem (next_items.Cell x) = IsPrinted set x
  IsNextItem f = Unit {0}

  of-source : (bs : List ℕ) (inside : Bool) → AreAmong set bs → IsNextItem (next_item_of bs inside)
  of-source (b ∷ bs) inside h = All-head (IsAmong set) b bs h
  of-source [] true h = refl
  of-source [] false h = tt

  of-element : (x : Element) → IsElement set x → IsNextItem (element_item x)
  of-element (elements.Byte b) h = h
  of-element (elements.Cell x) h = h
  of-element (elements.LineEnd n) h = tt

  of-text : (xs : List Element) (l : Reading Resume) (ls : List (Level Resume)) (c : Coming) → IsText set xs → IsNextItem (next_item (shown (Read (record l { rest = xs }) ∷ ls)) c)
  of-text [] l ls c h = tt
  of-text (x ∷ xs) l ls c h = of-element x (All-head (IsElement set) x xs h)

  pub next_item-printed : (ls : List (Level Resume)) (c : Coming) → AreAmong set c.supply.bytes → AreLevels set ls → IsNextItem (next_item (shown ls) c)
  next_item-printed [] c is h = of-source c.supply.bytes c.inside is
  next_item-printed (Read l ∷ ls) c is h = let level : Level Resume = Read l in of-text l.rest l ls c (All-head (IsLevel set) level ls h).rest
  next_item-printed (Mark k ∷ ls) c is h = tt

  -- what is resumed next
  abbrev pub IsResume : Shown Resume → Type 0
  IsResume (shows.Resume k) = AreAmong set k.line
  IsResume s = Unit {0}

  pub resume-among : (ls : List (Level Resume)) → AreLevels set ls → IsResume (shown ls)
  resume-among [] h = tt
  resume-among (Read l ∷ ls) h = by l.rest
    where
      by : (xs : List Element) → IsResume (shown_of xs)
      by [] = tt
      by (x ∷ xs) = tt
  resume-among (Mark k ∷ ls) h = let mark : Level Resume = Mark k in All-head (IsLevel set) mark ls h

  after-among : (bs : List ℕ) (c : Coming) → AreAmong set bs → AreAmong set c.supply.bytes → AreAmong set (after_item_of bs c).supply.bytes
  after-among [] c is h = h
  after-among (b ∷ bs) c is h = All-tail (IsAmong set) b bs is

  pub afterwards-among : (x : Shown Resume) (c : Coming) → AreAmong set c.supply.bytes → AreAmong set (afterwards x c).supply.bytes
  afterwards-among shows.Nothing c h = after-among c.supply.bytes c h h
  afterwards-among x c h = h

  -- ---- what is pending

  place-among : (bs : List ℕ) (n : ℕ) → AreAmong set bs → IsAmong set (slice_index bs n)
  place-among [] n h = refl
  place-among (b ∷ bs) zero h = All-head (IsAmong set) b bs h
  place-among (b ∷ bs) (suc n) h = place-among bs n (All-tail (IsAmong set) b bs h)

  argument-among : (ts : List (List ℕ)) (n : ℕ) → AreWords set ts → AreAmong set (argument ts n)
  argument-among [] n h = All-nil (IsAmong set)
  argument-among (t ∷ ts) zero h = All-head (AreAmong set) t ts h
  argument-among (t ∷ ts) (suc n) h = argument-among ts n (All-tail (AreAmong set) t ts h)

  byte-gathered : (b : ℕ) (g : Gathered) → IsAmong set b → IsGathered set g → IsGathered set (with_byte b g)
  byte-gathered b g is h = either (IsGathered set) (length g.kept == 9) g (record g { last = g.last ++ b ∷ [] }) h (h.0, All-push (IsAmong set) g.last b h.1 is)

  end-gathered : (g : Gathered) → IsGathered set g → IsGathered set (with_end g)
  end-gathered g h =
      either (IsGathered set) (length g.kept == 9) g (record { kept = g.kept ++ g.last ∷ []; last = [] }) h (All-push (AreAmong set) g.kept g.last h.0 h.1, All-nil (IsAmong set))

  abbrev pub IfAmong : Option ℕ → Type 0
  IfAmong None = Unit {0}
  IfAmong (Some b) = IsAmong set b

  -- A splice that was refused is never pending. No more bytes are held back, and released then, than a name has with the `.` before it.
  abbrev pub IsPending : PendingAct → Type 0
  IsPending pending_acts.Expanded = ⊥
  IsPending (pending_acts.Add b) = IsAmong set b
  IsPending (pending_acts.Put b) = IsAmong set b
  IsPending (pending_acts.Release held n b) = (held ≤ 33) × IfAmong b
  IsPending d = Unit {0}

  set-register : (o : Option Register) (name : List ℕ) (v : Stored Resume) → AreStored set v → AreStored set (written o name v)
  set-register None name v h = h
  set-register (Some x) name v h = h

  naming-stored : (keeps : Bool) (name : List ℕ) (v : Stored Resume) → AreStored set v → AreStored set (if keeps then defined name v else v)
  naming-stored true name v h = defined-stored set name v h
  naming-stored false name v h = h

  meant : (m : Meaning) (v : Stored Resume) → AreStored set v → AreStored set (after_meaning m v)
  meant meanings.Text v h = record { names = h.names; building = h.building; levels = h.levels; once = h.once; arguments = h.arguments; gathered = none-gathered set }
  meant m v h = h

  -- the line that ends a definition
  ending-among : (name : List ℕ) → AreAmong set name → AreAmong set (code "." ∷ (if is_empty name then code "." ∷ [] else name))
  ending-among [] h = All-cons (IsAmong set) (code ".") (code "." ∷ []) refl (All-cons (IsAmong set) (code ".") [] refl (All-nil (IsAmong set)))
  ending-among (b ∷ bs) h = All-cons (IsAmong set) (code ".") (b ∷ bs) refl h

  pub act-stored : (d : PendingAct) (v : Stored Resume) (r : Reader) → IsPending d → AreAmong set r.half.notes.defining.ending → AreStored set v → AreStored set (act d v r).stored
  act-stored pending_acts.Begin v r pending_act ends h =
      either (AreStored set) r.half.notes.defining.appends (begun (text_of (name_in r) v) None v) (begun [] None v)
      (begun-stored set (text_of (name_in r) v) None v (text_of-stored set (name_in r) v h) tt h) (begun_empty set None v tt h)
  act-stored (pending_acts.Add b) v r pending_act ends h = added-stored set (elements.Byte b ∷ []) v (byte-text set b pending_act) h
  act-stored (pending_acts.Release held n b) v r pending_act ends h =
      let line = last_line r.half.notes.defining in
      added-stored set (elements.Byte (slice_index line n) ∷ []) v (byte-text set (slice_index line n) (place-among line n (ending-among r.half.notes.defining.ending ends))) h
  act-stored pending_acts.Define v r pending_act ends h = naming-stored r.half.notes.defining.keeps (name_in r) v h
  act-stored pending_acts.DefineAndCall v r pending_act ends h = naming-stored r.half.notes.defining.keeps (name_in r) v h
  act-stored pending_acts.CallEnding v r pending_act ends h =
      let name = r.half.notes.defining.ending in entered-stored set name (words (find name v.names)) None v refl (named-words set name v h) tt h
  act-stored pending_acts.Splice v r pending_act ends h = let name = r.half.notes.asked in entered-stored set name (words (find name v.names)) None v refl (named-words set name v h) tt h
  act-stored (pending_acts.Register signs.None) v r pending_act ends h =
      let x = register_of (find r.half.notes.asked v.registers) in ascii-stored set (register_text x) v (number-printed x.format x.value) h
  act-stored (pending_acts.Register signs.Plus) v r pending_act ends h = set-register (option_and_then (gone_on true) (find r.half.notes.asked v.registers)) r.half.notes.asked v h
  act-stored (pending_acts.Register signs.Minus) v r pending_act ends h = set-register (option_and_then (gone_on false) (find r.half.notes.asked v.registers)) r.half.notes.asked v h
  act-stored (pending_acts.Argument n) v r pending_act ends h = bytes-stored set (argument v.arguments n) v (argument-among v.arguments n h.arguments) h
  act-stored (pending_acts.Put b) v r pending_act ends h =
      record { names = h.names; building = h.building; levels = h.levels; once = h.once; arguments = h.arguments; gathered = byte-gathered b v.gathered pending_act h.gathered }
  act-stored pending_acts.EndArgument v r pending_act ends h =
      record { names = h.names; building = h.building; levels = h.levels; once = h.once; arguments = h.arguments; gathered = end-gathered v.gathered h.gathered }
  act-stored pending_acts.Call v r pending_act ends h = called-stored set (name_in r) (words (find (name_in r) v.names)) v refl (named-words set (name_in r) v h) h
  act-stored pending_acts.Seek v r pending_act ends h = meant (meaning_in v r) v h
  act-stored d v r pending_act ends h = h
