-- No text that is stored has a cell of a control byte, and beyond ASCII all that is stored has only bytes of a set.
use Rattle.std.specs.Prelude.{map, replicate, is_some, nat_lt, ◌&&◌, ◌||◌}
use Rattle.std.specs.Option.{option_map, unwrap_or}
use Rattle.std.specs.List.{All}
use Rattle.std.proofs.lemmas.List.Elements.{All-nil, All-cons, All-head, All-tail, All-append, All-replicate}
use Rattle.std.proofs.Common.{◌≡◌, ℕ, ◌+◌, Bool, true, false, if◌then◌else◌, List, [], ◌∷◌, ◌++◌, length, Option, None, Some, refl}
use Rattle.nr_vectors.specs.declared.cell.Cell.{Cell}
use Rattle.nr_symbol_tables.specs.declared.trap.Trap.{Trap}
use Rattle.nr_symbol_tables.specs.Table.{Named, find, is_same, is_before, put, replaced, inserted, without}
use Rattle.nr_store.specs.declared.element.Element.{Element}
use Rattle.nr_store.specs.declared.element.Element.TheVariants as elements
use Rattle.nr_store.specs.declared.element.Diversion.{Diversion}
use Rattle.nr_store.specs.Request.{request_names, with_acts, name_of}
use Rattle.nr_store.specs.declared.request.TheConstants.{REQUESTS}
use Rattle.nr_store.specs.declared.request.Request.{Request}
use Rattle.nr_store.specs.Store.{Stored, Means, Act, Words, Built, Level, Read, Mark, Reading, words, text_of, begun, on_newest, longer, added, blank_cell, line_of, diverted, diverted_end, taken, Shared, named_newest, defined, ended_by, diversion_ended, newest_diversion, first_of, innermost, trapped, removed, moved, renamed, entered, called, reading_bytes, left, left_of, mark_of}
use Rattle.nr_levels.specs.Gathering.{Gathered, bytes_in, none_gathered}
use Rattle.nr_settings.specs.Characters.{prints}
use Rattle.nr_formatter.specs.declared.tasks.Resume.{Resume}
use Rattle.nr_laws.proofs.ChargedOnce.{AreOnce, once-removed, once-named, once-moved, once-read, once-own, once-dropped}
use Rattle.nr_laws.proofs.PrintedLines.{IsAmong, AreAmong, IsPrinted, ArePrinted, either}
use Rattle.nr_laws.proofs.PrintedNumbers.{IsAscii, AreAscii}

module _ (set : ℕ → Bool) where
  abbrev pub IsElement : Element → Type 0
  IsElement (elements.Byte b) = IsAmong set b
  IsElement (elements.Cell x) = IsPrinted set x
  IsElement (elements.LineEnd n) = Unit {0}

  abbrev pub IsText : List Element → Type 0
  IsText xs = All IsElement xs

  abbrev IsMeant : Means → Type 0
  IsMeant (Act r) = Unit {0}
  IsMeant (Words text) = IsText text

  abbrev HasMeant : Named Means → Type 0
  HasMeant n = IsMeant n.value

  abbrev pub AreNames : List (Named Means) → Type 0
  AreNames ns = All HasMeant ns

  -- a diversion's name may be asked for
  abbrev pub IsNamed : Option Diversion → Type 0
  IsNamed None = Unit {0}
  IsNamed (Some d) = AreAmong set d.name

  pub record Building (xs : List Element) (d : Option Diversion) : Type 0 where
    pub text : IsText xs
    pub named : IsNamed d

  abbrev IsBuilt : Built → Type 0
  IsBuilt b = Building b.text b.diversion

  abbrev pub AreBuilt : List Built → Type 0
  AreBuilt bs = All IsBuilt bs

  -- the arguments of macros
  abbrev pub AreWords : List (List ℕ) → Type 0
  AreWords ts = All (AreAmong set) ts

  abbrev pub IsGathered : Gathered → Type 0
  IsGathered g = AreWords g.kept × AreAmong set g.last

  -- the line that is read again then
  abbrev pub IsResumed : Option Resume → Type 0
  IsResumed None = Unit {0}
  IsResumed (Some k) = AreAmong set k.line

  pub record Opened (xs : List Element) (ws : List (List ℕ)) (k : Option Resume) : Type 0 where
    pub rest : IsText xs
    pub old : AreWords ws
    pub resume : IsResumed k

  abbrev pub IsLevel : Level Resume → Type 0
  IsLevel (Read l) = Opened l.rest l.old l.resume
  IsLevel (Mark k) = AreAmong set k.line

  abbrev pub AreLevels : List (Level Resume) → Type 0
  AreLevels ls = All IsLevel ls

  pub record Stores (ns : List (Named Means)) (bs : List Built) (ls : List (Level Resume)) (ts : List Shared) (ws : List (List ℕ)) (g : Gathered) : Type 0 where
    pub names : AreNames ns
    pub building : AreBuilt bs
    pub levels : AreLevels ls
    pub once : AreOnce ns ts
    pub arguments : AreWords ws
    pub gathered : IsGathered g

  abbrev pub AreStored : Stored Resume → Type 0
  AreStored v = Stores v.names v.building v.levels v.texts v.arguments v.gathered

  -- ---- texts

  both : (xs ys : List Element) → IsText xs → IsText ys → IsText (xs ++ ys)
  both xs ys = All-append IsElement xs ys

  no_text : IsText []
  no_text = All-nil IsElement

  pub cell-texts : (xs : List Cell) → ArePrinted set xs → IsText (map elements.Cell xs)
  cell-texts [] h = no_text
  cell-texts (x ∷ xs) h = All-cons IsElement (elements.Cell x) (map elements.Cell xs) (All-head (IsPrinted set) x xs h) (cell-texts xs (All-tail (IsPrinted set) x xs h))

  byte-texts : (bs : List ℕ) → AreAmong set bs → IsText (map elements.Byte bs)
  byte-texts [] h = no_text
  byte-texts (b ∷ bs) h = All-cons IsElement (elements.Byte b) (map elements.Byte bs) (All-head (IsAmong set) b bs h) (byte-texts bs (All-tail (IsAmong set) b bs h))

  pub byte-text : (b : ℕ) → IsAmong set b → IsText (elements.Byte b ∷ [])
  byte-text b is = All-cons IsElement (elements.Byte b) [] is no_text

  -- ---- bytes

  ascii-among : (bs : List ℕ) → AreAscii bs → AreAmong set bs
  ascii-among [] h = All-nil (IsAmong set)
  ascii-among (b ∷ bs) h = All-cons (IsAmong set) b bs (by (prints b) (nat_lt b 128) (All-head IsAscii b bs h)) (ascii-among bs (All-tail IsAscii b bs h))
    where
      by : (c d : Bool) → (c && d) ≡ true → (d || set b) ≡ true
      by true true is = refl
      by true false is = absurd (let wrong : false ≡ true = is in cc)
      by false d is = absurd (let wrong : false ≡ true = is in cc)

  pub no_words : AreWords []
  no_words = All-nil (AreAmong set)

  pub none-gathered : IsGathered none_gathered
  none-gathered = (no_words, All-nil (IsAmong set))

  -- ---- names

  abbrev IfMeant : Option Means → Type 0
  IfMeant None = Unit {0}
  IfMeant (Some m) = IsMeant m

  abbrev pub IfText : Option (List Element) → Type 0
  IfText None = Unit {0}
  IfText (Some text) = IsText text

  found : (name : List ℕ) (ns : List (Named Means)) → AreNames ns → IfMeant (find name ns)
  found name [] h = tt
  found name (e ∷ es) h =
      either IfMeant (is_same e.name name) (Some e.value) (find name es) (All-head HasMeant e es h) (found name es (All-tail HasMeant e es h))

  replaced-names : (name : List ℕ) (m : Means) (ns : List (Named Means)) → IsMeant m → AreNames ns → AreNames (replaced name m ns)
  replaced-names name m [] is h = h
  replaced-names name m (e ∷ es) is h =
      let n : Named Means = record { name = name; value = m } in
      either AreNames (is_same e.name name) (n ∷ es) (e ∷ replaced name m es) (All-cons HasMeant n es is (All-tail HasMeant e es h))
      (All-cons HasMeant e (replaced name m es) (All-head HasMeant e es h) (replaced-names name m es is (All-tail HasMeant e es h)))

  inserted-names : (name : List ℕ) (m : Means) (ns : List (Named Means)) → IsMeant m → AreNames ns → AreNames (inserted name m ns)
  inserted-names name m [] is h = let n : Named Means = record { name = name; value = m } in All-cons HasMeant n [] is (All-nil HasMeant)
  inserted-names name m (e ∷ es) is h =
      let n : Named Means = record { name = name; value = m } in
      either AreNames (is_before name e.name) (n ∷ (e ∷ es)) (e ∷ inserted name m es) (All-cons HasMeant n (e ∷ es) is h)
      (All-cons HasMeant e (inserted name m es) (All-head HasMeant e es h) (inserted-names name m es is (All-tail HasMeant e es h)))

  put-names : (name : List ℕ) (m : Means) (ns : List (Named Means)) → IsMeant m → AreNames ns → AreNames (put name m ns)
  put-names name m ns is h = either AreNames (is_some (find name ns)) (replaced name m ns) (inserted name m ns) (replaced-names name m ns is h) (inserted-names name m ns is h)

  without-names : (name : List ℕ) (ns : List (Named Means)) → AreNames ns → AreNames (without name ns)
  without-names name [] h = h
  without-names name (e ∷ es) h =
      either AreNames (is_same e.name name) es (e ∷ without name es) (All-tail HasMeant e es h)
      (All-cons HasMeant e (without name es) (All-head HasMeant e es h) (without-names name es (All-tail HasMeant e es h)))

  words-of : (o : Option Means) → IfMeant o → IfText (words o)
  words-of None h = tt
  words-of (Some (Act r)) h = tt
  words-of (Some (Words text)) h = h

  pub named-words : (name : List ℕ) (v : Stored Resume) → AreStored v → IfText (words (find name v.names))
  named-words name v h = words-of (find name v.names) (found name v.names h.names)

  or-empty : (o : Option (List Element)) → IfText o → IsText (unwrap_or o [])
  or-empty None h = no_text
  or-empty (Some text) h = h

  pub text_of-stored : (name : List ℕ) (v : Stored Resume) → AreStored v → IsText (text_of name v)
  text_of-stored name v h = or-empty (words (find name v.names)) (named-words name v h)

  pub removed-stored : (name : List ℕ) (v : Stored Resume) → AreStored v → AreStored (removed name v)
  removed-stored name v h =
      record { names = without-names name v.names h.names; building = h.building; levels = h.levels; once = once-removed name v.names v.texts h.once; arguments = h.arguments; gathered = h.gathered }

  moved-stored : (o : Option Means) (from to : List ℕ) (v : Stored Resume) → find from v.names ≡ o → is_same from to ≡ false → IfMeant o → AreStored v → AreStored (moved o from to v)
  moved-stored None from to v has apart is h = h
  moved-stored (Some m) from to v has apart is h =
      record {
        names = put-names to m (without from v.names) is (without-names from v.names h.names);
        building = h.building;
        levels = h.levels;
        once = once-moved from to m v.names v.texts apart has h.once;
        arguments = h.arguments;
        gathered = h.gathered;
      }

  pub renamed-stored : (from to : List ℕ) (v : Stored Resume) → AreStored v → AreStored (renamed from to v)
  renamed-stored from to v h = by (is_same from to) refl
    where
      by : (c : Bool) → is_same from to ≡ c → AreStored (if c then v else moved (find from v.names) from to v)
      by true is = h
      by false is = moved-stored (find from v.names) from to v refl is (found from v.names h.names) h

  -- ---- texts being built

  newest : (f : Built → Built) (bs : List Built) → ((b : Built) → IsBuilt b → IsBuilt (f b)) → AreBuilt bs → AreBuilt (on_newest f bs)
  newest f [] each h = h
  newest f (b ∷ bs) each h = All-cons IsBuilt (f b) bs (each b (All-head IsBuilt b bs h)) (All-tail IsBuilt b bs h)

  pub begun-stored : (text : List Element) (d : Option Diversion) (v : Stored Resume) → IsText text → IsNamed d → AreStored v → AreStored (begun text d v)
  begun-stored text d v is named h =
      let b : Built = record { text = text; diversion = d } in
      record { names = h.names; building = All-cons IsBuilt b v.building (record { text = is; named = named }) h.building; levels = h.levels; once = h.once; arguments = h.arguments; gathered = h.gathered }

  pub begun_empty : (d : Option Diversion) (v : Stored Resume) → IsNamed d → AreStored v → AreStored (begun [] d v)
  begun_empty d v named h = begun-stored [] d v no_text named h

  -- a diversion changes, and keeps its name
  still-named : (g : Diversion → Diversion) (d : Option Diversion) → ((x : Diversion) → AreAmong set x.name → AreAmong set (g x).name) → IsNamed d → IsNamed (option_map g d)
  still-named g None each h = tt
  still-named g (Some d) each h = each d h

  first-named : (d rest : Option Diversion) → IsNamed d → IsNamed rest → IsNamed (first_of d rest)
  first-named None rest is h = h
  first-named (Some d) rest is h = is

  pub innermost-named : (bs : List Built) → AreBuilt bs → IsNamed (innermost bs)
  innermost-named [] h = tt
  innermost-named (b ∷ bs) h = first-named b.diversion (innermost bs) (All-head IsBuilt b bs h).named (innermost-named bs (All-tail IsBuilt b bs h))

  pub added-stored : (xs : List Element) (v : Stored Resume) → IsText xs → AreStored v → AreStored (added xs v)
  added-stored xs v is h =
      record { names = h.names; building = newest (longer xs) v.building (λ b k. record { text = both b.text xs k.text is; named = k.named }) h.building; levels = h.levels; once = h.once; arguments = h.arguments; gathered = h.gathered }

  ends : (height : ℕ) → IsText (elements.LineEnd height ∷ [])
  ends height = All-cons IsElement (elements.LineEnd height) [] tt no_text

  blank-texts : (n : ℕ) → IsText (replicate n blank_cell)
  blank-texts n = All-replicate IsElement n blank_cell refl

  pub blanks_and : (n : ℕ) (x : Cell) → IsPrinted set x → IsText (replicate n blank_cell ++ elements.Cell x ∷ [])
  blanks_and n x is = both (replicate n blank_cell) (elements.Cell x ∷ []) (blank-texts n) (All-cons IsElement (elements.Cell x) [] is no_text)

  line-text : (indent : ℕ) (xs : List Cell) (height : ℕ) → ArePrinted set xs → IsText (line_of indent xs height)
  line-text indent xs height h =
      both (replicate indent blank_cell) (map elements.Cell xs ++ elements.LineEnd height ∷ []) (blank-texts indent)
      (both (map elements.Cell xs) (elements.LineEnd height ∷ []) (cell-texts xs h) (ends height))

  pub diverted-stored : (indent : ℕ) (xs : List Cell) (height : ℕ) (v : Stored Resume) → ArePrinted set xs → AreStored v → AreStored (diverted indent xs height v)
  diverted-stored indent xs height v is h =
      record {
        names = h.names;
        building = newest (λ (b : Built). record {
          text = b.text ++ line_of indent xs height;
          diversion = option_map (taken (indent + length xs) height) b.diversion;
        }) v.building (λ b k. record {
          text = both b.text (line_of indent xs height) k.text (line-text indent xs height is);
          named = still-named (taken (indent + length xs) height) b.diversion (λ d same. same) k.named;
        }) h.building;
        levels = h.levels;
        once = h.once;
        arguments = h.arguments;
        gathered = h.gathered;
      }

  pub diverted_end-stored : (cells height : ℕ) (v : Stored Resume) → AreStored v → AreStored (diverted_end cells height v)
  diverted_end-stored cells height v h =
      record {
        names = h.names;
        building = newest (λ (b : Built). record { text = b.text ++ elements.LineEnd height ∷ []; diversion = option_map (taken cells height) b.diversion })
            v.building (λ b k. record { text = both b.text (elements.LineEnd height ∷ []) k.text (ends height); named = still-named (taken cells height) b.diversion (λ d same. same) k.named }) h.building;
        levels = h.levels;
        once = h.once;
        arguments = h.arguments;
        gathered = h.gathered;
      }

  pub trapped-stored : (trap : Option Trap) (v : Stored Resume) → AreStored v → AreStored (trapped trap v)
  trapped-stored trap v h =
      record {
        names = h.names;
        building = newest (λ (b : Built). record b { diversion = option_map (λ (d : Diversion). record d { trap = trap }) b.diversion }) v.building
            (λ b k. record { text = k.text; named = still-named (λ (d : Diversion). record d { trap = trap }) b.diversion (λ d same. same) k.named }) h.building;
        levels = h.levels;
        once = h.once;
        arguments = h.arguments;
        gathered = h.gathered;
      }

  acts-stored : (es : List (ℕ × ℕ × Request)) (ns : List (Named Means)) → AreNames ns → AreNames (with_acts es ns)
  acts-stored [] ns h = h
  acts-stored (e ∷ es) ns h = acts-stored es (put (name_of e) (Act e.2) ns) (put-names (name_of e) (Act e.2) ns tt h)

  pub request_names-stored : AreNames request_names
  request_names-stored = acts-stored REQUESTS [] (All-nil HasMeant)

  pub no_building : AreBuilt []
  no_building = All-nil IsBuilt

  pub no_levels : AreLevels []
  no_levels = All-nil IsLevel

  named-newest : (bs : List Built) (name : List ℕ) (v : Stored Resume) → AreBuilt bs → AreStored v → AreStored (named_newest bs name v)
  named-newest [] name v is h = h
  named-newest (b ∷ bs) name v is h =
      record {
        names = put-names name (Words b.text) v.names (All-head IsBuilt b bs is).text h.names;
        building = All-tail IsBuilt b bs is;
        levels = h.levels;
        once = once-named name (Words b.text) v.names v.texts h.once;
        arguments = h.arguments;
        gathered = h.gathered;
      }

  pub defined-stored : (name : List ℕ) (v : Stored Resume) → AreStored v → AreStored (defined name v)
  defined-stored name v h = named-newest v.building name v h.building h

  ended-by : (d : Option Diversion) (v : Stored Resume) → AreStored v → AreStored (ended_by d v)
  ended-by None v h = h
  ended-by (Some d) v h = defined-stored d.name v h

  pub diversion_ended-stored : (v : Stored Resume) → AreStored v → AreStored (diversion_ended v)
  diversion_ended-stored v h = ended-by (newest_diversion v.building) v h

  -- ---- levels

  opened : (l : Reading Resume) (ls : List (Level Resume)) → Opened l.rest l.old l.resume → AreLevels ls → AreLevels (Read l ∷ ls)
  opened l ls is h = All-cons IsLevel (Read l) ls is h

  pub entered-stored : (name : List ℕ) (text : Option (List Element)) (k : Option Resume) (v : Stored Resume)
      → words (find name v.names) ≡ text → IfText text → IsResumed k → AreStored v → AreStored (entered name text k v)
  entered-stored name None k v has is resumed h = h
  entered-stored name (Some text) k v has is resumed h =
      record {
        names = h.names;
        building = h.building;
        levels = opened (record { rest = text; old = v.arguments; charge = 16; resume = k }) v.levels (record { rest = is; old = h.arguments; resume = resumed }) h.levels;
        once = once-read name text v.names v.texts has h.once;
        arguments = no_words;
        gathered = h.gathered;
      }

  pub bytes-stored : (bs : List ℕ) (v : Stored Resume) → AreAmong set bs → AreStored v → AreStored (reading_bytes bs v)
  bytes-stored bs v is h =
      record {
        names = h.names;
        building = h.building;
        levels = opened (record { rest = map elements.Byte bs; old = v.arguments; charge = 32 + length bs; resume = None }) v.levels (record { rest = byte-texts bs is; old = h.arguments; resume = tt }) h.levels;
        once = once-own 0 v.names v.texts h.once;
        arguments = h.arguments;
        gathered = h.gathered;
      }

  -- a number's digits
  pub ascii-stored : (bs : List ℕ) (v : Stored Resume) → AreAscii bs → AreStored v → AreStored (reading_bytes bs v)
  ascii-stored bs v is h = bytes-stored bs v (ascii-among bs is) h

  pub called-stored : (name : List ℕ) (text : Option (List Element)) (v : Stored Resume) → words (find name v.names) ≡ text → IfText text → AreStored v → AreStored (called name text v)
  called-stored name None v has is h =
      record { names = h.names; building = h.building; levels = h.levels; once = h.once; arguments = h.arguments; gathered = none-gathered }
  called-stored name (Some text) v has is h =
      record {
        names = h.names;
        building = h.building;
        levels = opened (record { rest = text; old = v.arguments; charge = 16 + bytes_in v.gathered.kept; resume = None }) v.levels (record { rest = is; old = h.arguments; resume = tt }) h.levels;
        once = once-read name text v.names v.texts has h.once;
        arguments = h.gathered.0;
        gathered = none-gathered;
      }

  marks : (k : Option Resume) (ls : List (Level Resume)) → IsResumed k → AreLevels ls → AreLevels (mark_of k ++ ls)
  marks None ls is h = h
  marks (Some k) ls is h = let mark : Level Resume = Mark k in All-cons IsLevel mark ls is h

  text-left : (xs : List Element) (l : Reading Resume) (ls : List (Level Resume)) (v : Stored Resume) → Opened xs l.old l.resume → AreLevels ls → AreStored v → AreStored (left_of xs l ls v)
  text-left [] l ls v is rest h =
      record { names = h.names; building = h.building; levels = marks l.resume ls is.resume rest; once = once-dropped v.names v.texts h.once; arguments = is.old; gathered = h.gathered }
  text-left (x ∷ xs) l ls v is rest h =
      record {
        names = h.names;
        building = h.building;
        levels = opened (record l { rest = xs }) ls (record { rest = All-tail IsElement x xs is.rest; old = is.old; resume = is.resume }) rest;
        once = h.once;
        arguments = h.arguments;
        gathered = h.gathered;
      }

  pub left-stored : (ls : List (Level Resume)) (v : Stored Resume) → AreLevels ls → AreStored v → AreStored (left ls v)
  left-stored [] v is h = h
  left-stored (Read l ∷ ls) v is h = let level : Level Resume = Read l in text-left l.rest l ls v (All-head IsLevel level ls is) (All-tail IsLevel level ls is) h
  left-stored (Mark k ∷ ls) v is h =
      let mark : Level Resume = Mark k in
      record { names = h.names; building = h.building; levels = All-tail IsLevel mark ls is; once = h.once; arguments = h.arguments; gathered = h.gathered }
