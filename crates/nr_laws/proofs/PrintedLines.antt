-- What is collected has no control byte, and beyond ASCII only bytes of a set: pieces, the word that is being read, and the title. The word has no more parts than cells.
use Rattle.std.specs.Prelude.{take, drop, replicate, map, nat_lt, slice_index_or, not, ◌&&◌}
use Rattle.std.specs.Option.{option_map}
use Rattle.std.specs.List.{All, flat_map, range_with_len, suffix_len}
use Rattle.std.proofs.Math.Bool.{or-true}
use Rattle.std.proofs.lemmas.Bool.{ltb-true}
use Rattle.std.proofs.lemmas.List.{length-append, length-take, length-drop}
use Rattle.std.proofs.lemmas.List.Elements.{All-nil, All-cons, All-head, All-tail, All-append, All-push, All-take, All-drop, All-replicate}
use Rattle.std.proofs.lemmas.List.Sums.{sum_by-append, sum_by-cons}
use Rattle.std.proofs.Common.{◌≡◌, ℕ, zero, suc, ◌+◌, ◌-◌, ◌<◌, ◌≤◌, ◌==◌, Bool, true, false, if◌then◌else◌, List, [], ◌∷◌, ◌++◌, length, Option, None, Some, refl, subst, arith}
use Rattle.nr_vectors.specs.Cell.{blank, is_blank, trimmed}
use Rattle.nr_vectors.specs.declared.cell.Cell.{Cell}
use Rattle.nr_settings.specs.declared.indents.Margins.{Margins}
use Rattle.nr_settings.specs.declared.stops.Stop.{Stop}
use Rattle.nr_settings.specs.declared.stops.StopKind.{StopKind}
use Rattle.nr_fill.specs.declared.setting.Setting.{Setting}
use Rattle.nr_fill.specs.declared.setting.Extra.{Extra}
use Rattle.nr_fill.specs.declared.piece.CutAfter.{CutAfter}
use Rattle.nr_fill.specs.declared.piece.CutAfter.TheVariants.{Letter, Hyphen, Dash}
use Rattle.nr_fill.specs.declared.piece.Join.TheVariants as joins
use Rattle.nr_fill.specs.declared.piece.Point.{Point}
use Rattle.nr_fill.specs.declared.piece.Point.TheVariants as points
use Rattle.nr_fill.specs.declared.stops.Pending.{Pending}
use Rattle.nr_fill.specs.declared.stops.Pending.TheVariants as pendings
use Rattle.nr_fill.specs.declared.title.TitlePart.{TitlePart}
use Rattle.nr_fill.specs.declared.title.TitlePart.TheVariants as parts
use Rattle.nr_fill.specs.Piece.{Piece, Word, Collected, word_or_new, with_word, in_word, ended_at, ended, pending_after, pending_named, with_named_point, pending_soft, with_soft_point, pending_without_point, pointed_here, barred_here, is_for_stop, is_inside, point_at, hyphenated, append, add_cell_after, add_cell, ends_sentence, add_blank_to, add_blank, with_blanks_kept, add_cells, marked, joined_at, joined, shortened, without_blanks, word_pieces, end_word, word_length, with_title, with_title_cell, with_part_ended, cells_in}
use Rattle.nr_fill.specs.Cutting.{hyphen_before}
use Rattle.nr_fill.specs.Setting.{hyphens, hyphen, text_of, extra_of, left_over, shift, line_row}
use Rattle.nr_fill.specs.Spreading.{blanks_before, next_gap, cells_after, cells_in_line}
use Rattle.nr_fill.specs.Tabs.{with_field, to_stop, tabbed, filled_by, fill_count, with_field_filled, is_aligned, column, first_beyond}
use Rattle.nr_fill.specs.Title.{Title, next_part, with_cell_in, with_cell, cell_at, centre_at, right_at, title_row, title_or_empty, titled_row, is_within, reach}
use Rattle.nr_settings.specs.Characters.{prints}
use Rattle.nr_laws.specs.Printed.{is_among}

pub either : {A : Type 0} (P : A → Type 0) (c : Bool) (x y : A) → P x → P y → P (if c then x else y)
either P true x y first second = first
either P false x y first second = second

-- the set of all bytes
abbrev pub every : ℕ → Bool
every b = true

pub all-among : (bs : List ℕ) → All (λ b. is_among every b ≡ true) bs
all-among [] = All-nil (λ b. is_among every b ≡ true)
all-among (b ∷ bs) = All-cons (λ c. is_among every c ≡ true) b bs (or-true (nat_lt b 128)) (all-among bs)

module _ (set : ℕ → Bool) where
  -- ---- bytes

  -- of ASCII, or of the set
  abbrev pub IsAmong : ℕ → Type 0
  IsAmong b = is_among set b ≡ true

  abbrev pub AreAmong : List ℕ → Type 0
  AreAmong bs = All IsAmong bs

  -- and it prints
  abbrev pub IsShown : ℕ → Type 0
  IsShown b = (prints b && is_among set b) ≡ true

  -- ---- cells

  abbrev pub IsPrinted : Cell → Type 0
  IsPrinted x = IsShown x.byte

  abbrev pub ArePrinted : List Cell → Type 0
  ArePrinted xs = All IsPrinted xs

  pub join : (xs ys : List Cell) → ArePrinted xs → ArePrinted ys → ArePrinted (xs ++ ys)
  join xs ys = All-append IsPrinted xs ys

  pub blanks : (n : ℕ) → ArePrinted (replicate n blank)
  blanks n = All-replicate IsPrinted n blank refl

  pub trim : (xs : List Cell) → ArePrinted xs → ArePrinted (trimmed xs)
  trim xs h = All-take IsPrinted (length xs - suffix_len is_blank xs) xs h

  pub at : (xs : List Cell) (i : ℕ) → ArePrinted xs → IsPrinted (slice_index_or xs i blank)
  at [] i h = refl
  at (x ∷ xs) zero h = All-head IsPrinted x xs h
  at (x ∷ xs) (suc i) h = at xs i (All-tail IsPrinted x xs h)

  pub each : (f : ℕ → Cell) (ns : List ℕ) → ((n : ℕ) → IsPrinted (f n)) → ArePrinted (map f ns)
  each f [] h = All-nil IsPrinted
  each f (n ∷ ns) h = All-cons IsPrinted (f n) (map f ns) (h n) (each f ns h)

  -- ---- pieces

  abbrev pub IsSet : Piece → Type 0
  IsSet p = ArePrinted p.cells

  abbrev pub AreSet : List Piece → Type 0
  AreSet ps = All IsSet ps

  abbrev pub IsFilled : Pending → Type 0
  IsFilled (pendings.ForStop f) = IsPrinted f.fill
  IsFilled p = Unit {0}

  -- a break point that waits stands after a cell
  abbrev pub IsPointed : Pending → ℕ → Type 0
  IsPointed (pendings.AtPoint p) n = 0 < n
  IsPointed p n = Unit {0}

  -- a word has no more parts than cells in them
  pub record IsWord (w : Word) : Type 0 where
    pub parts : AreSet w.parts
    pub last : ArePrinted w.last.cells
    pub pending : IsFilled w.pending
    pub few : length w.parts ≤ cells_in w.parts
    pub pointed : IsPointed w.pending (length w.last.cells)

  abbrev pub IsRead : Option Word → Type 0
  IsRead None = Unit {0}
  IsRead (Some w) = IsWord w

  pub record IsThree (t : Title) : Type 0 where
    pub left : ArePrinted t.left
    pub centre : ArePrinted t.centre
    pub right : ArePrinted t.right

  abbrev pub IsTitled : Option Title → Type 0
  IsTitled None = Unit {0}
  IsTitled (Some t) = IsThree t

  pub record Lined (ps : List Piece) (w : Option Word) (t : Option Title) : Type 0 where
    pub pieces : AreSet ps
    pub word : IsRead w
    pub title : IsTitled t

  abbrev pub IsLined : Collected → Type 0
  IsLined c = Lined c.pieces c.word c.title

  -- ---- words

  mapped : (g : Word → Word) → ((w : Word) → IsWord w → IsWord (g w)) → (o : Option Word) → IsRead o → IsRead (option_map g o)
  mapped g each None h = tt
  mapped g each (Some w) h = each w h

  pub changed : (g : Word → Word) (c : Collected) → ((w : Word) → IsWord w → IsWord (g w)) → IsLined c → IsLined (in_word g c)
  changed g c each h = record { pieces = h.pieces; word = mapped g each c.word h.word; title = tt }

  opened : (gap : ℕ) (o : Option Word) → IsRead o → IsWord (word_or_new gap o)
  opened gap None h = record { parts = All-nil IsSet; last = All-nil IsPrinted; pending = tt; few = omega arith; pointed = tt }
  opened gap (Some w) h = h

  pub worded : (m : Margins) (c : Collected) → IsLined c → IsLined (with_word m c)
  worded m c h = record { pieces = h.pieces; word = opened c.gap c.word h.word; title = tt }

  -- one part more, of cells
  more : (ps : List Piece) (p : Piece) → 0 < length p.cells → length ps ≤ cells_in ps → length (ps ++ p ∷ []) ≤ cells_in (ps ++ p ∷ [])
  more ps p some few = omega (arith, some, few, length-append ps (p ∷ []), sum_by-append (λ (q : Piece). length q.cells) ps (p ∷ []), sum_by-cons (λ (q : Piece). length q.cells) p [])

  ended-at : (p : Pending) (w : Word) → w.pending ≡ p → IsWord w → IsWord (ended_at p w)
  ended-at (pendings.AtPoint p) w is h =
      let some : IsPointed (pendings.AtPoint p) (length w.last.cells) = subst (λ q. IsPointed q (length w.last.cells)) is h.pointed in
      record { parts = All-push IsSet w.parts w.last h.parts h.last; last = All-nil IsPrinted; pending = tt; few = more w.parts w.last some h.few; pointed = tt }
  ended-at pendings.Nothing w is h = h
  ended-at (pendings.ForStop f) w is h = h

  ended-word : (m : Margins) (c : Collected) → IsLined c → IsLined (in_word ended (with_word m c))
  ended-word m c h = changed ended (with_word m c) (λ w k. ended-at w.pending w refl k) (worded m c h)

  pended : (m : CutAfter) (n : ℕ) (p : Pending) → IsFilled p → IsFilled (pending_after m n p)
  pended m n (pendings.ForStop f) h = h
  pended Letter n pendings.Nothing h = tt
  pended Letter n (pendings.AtPoint p) h = tt
  pended Hyphen n pendings.Nothing h = either IsFilled (nat_lt 1 n) (pendings.AtPoint points.Hard) pendings.Nothing tt tt
  pended Hyphen n (pendings.AtPoint p) h = either IsFilled (nat_lt 1 n) (pendings.AtPoint points.Hard) pendings.Nothing tt tt
  pended Dash n pendings.Nothing h = either IsFilled (nat_lt 2 n) (pendings.AtPoint points.Hard) pendings.Nothing tt tt
  pended Dash n (pendings.AtPoint p) h = either IsFilled (nat_lt 2 n) (pendings.AtPoint points.Hard) pendings.Nothing tt tt

  longer-pointed : (p : Pending) (n m : ℕ) → n ≤ m → IsPointed p n → IsPointed p m
  longer-pointed (pendings.AtPoint p) n m less h = omega (arith, less, h)
  longer-pointed pendings.Nothing n m less h = tt
  longer-pointed (pendings.ForStop f) n m less h = tt

  -- where there is a cell any point may wait
  any-pointed : (p : Pending) (n : ℕ) → 0 < n → IsPointed p n
  any-pointed (pendings.AtPoint p) n some = some
  any-pointed pendings.Nothing n some = tt
  any-pointed (pendings.ForStop f) n some = tt

  appended : (xs : List Cell) (w : Word) → ArePrinted xs → IsWord w → IsWord (append xs w)
  appended xs w are h =
      let longer = length-append w.last.cells xs in
      record {
        parts = h.parts;
        last = join w.last.cells xs h.last are;
        pending = h.pending;
        few = h.few;
        pointed = longer-pointed w.pending (length w.last.cells) (length (w.last.cells ++ xs)) (omega (arith, longer)) h.pointed;
      }

  one : (x : Cell) → IsPrinted x → ArePrinted (x ∷ [])
  one x h = All-cons IsPrinted x [] h (All-nil IsPrinted)

  celled : (b : CutAfter) (x : Cell) (w : Word) → IsPrinted x → IsWord w → IsWord (add_cell_after b x w)
  celled b x w is h =
      let longer = appended (x ∷ []) w (one x is) h in
      let n = word_length (append (x ∷ []) w) in
      let one-more = length-append w.last.cells (x ∷ []) in
      record {
        parts = longer.parts;
        last = longer.last;
        pending = pended b n w.pending h.pending;
        few = h.few;
        pointed = any-pointed (pending_after b n w.pending) (length (w.last.cells ++ x ∷ [])) (omega (arith, one-more));
      }

  pub add_cell-lined : (m : Margins) (b : CutAfter) (x : Cell) (c : Collected) → IsPrinted x → IsLined c → IsLined (add_cell m b x c)
  add_cell-lined m b x c is h = changed (add_cell_after b x) (in_word ended (with_word m c)) (λ w k. celled b x w is k) (ended-word m c h)

  blanked : (w : Word) → IsWord w → IsWord (add_blank_to w)
  blanked w h =
      let longer = length-append w.last.cells (blank ∷ []) in
      record {
        parts = h.parts;
        last = join w.last.cells (blank ∷ []) h.last (one blank refl);
        pending = h.pending;
        few = h.few;
        pointed = any-pointed w.pending (length (w.last.cells ++ blank ∷ [])) (omega (arith, longer));
      }

  pub add_blank-lined : (m : Margins) (c : Collected) → IsLined c → IsLined (add_blank m c)
  add_blank-lined m c h = changed add_blank_to (in_word ended (with_word m c)) blanked (ended-word m c h)

  kept : (w : Word) → IsWord w → IsWord (with_blanks_kept w)
  kept w h = record { parts = h.parts; last = h.last; pending = h.pending; few = h.few; pointed = h.pointed }

  pub add_cells-lined : (m : Margins) (x : Cell) (n : ℕ) (c : Collected) → IsPrinted x → IsLined c → IsLined (add_cells m x n c)
  add_cells-lined m x n c is h =
      either IsLined (n == 0) (in_word with_blanks_kept (with_word m c)) (record (in_word (append (replicate n x)) (in_word ended (with_word m c))) { sentence = ends_sentence x })
      (changed with_blanks_kept (with_word m c) kept (worded m c h))
      (changed (append (replicate n x)) (in_word ended (with_word m c)) (λ w k. appended (replicate n x) w (All-replicate IsPrinted n x is) k) (ended-word m c h))

  pub marked-lined : (m : Margins) (c : Collected) → IsLined c → IsLined (marked m c)
  marked-lined m c h = changed with_blanks_kept (with_word m c) kept (worded m c h)

  softened : (n : ℕ) (p : Pending) → IsFilled p → IsFilled (pending_soft n p)
  softened n pendings.Nothing h = either IsFilled (nat_lt 0 n) (pendings.AtPoint points.Soft) pendings.Nothing tt tt
  softened n (pendings.AtPoint p) h = tt
  softened n (pendings.ForStop f) h = h

  soft-pointed : (n : ℕ) (p : Pending) → IsPointed p n → IsPointed (pending_soft n p) n
  soft-pointed n pendings.Nothing h = by (nat_lt 0 n) refl
    where
      by : (c : Bool) → nat_lt 0 n ≡ c → IsPointed (if c then pendings.AtPoint points.Soft else pendings.Nothing) n
      by true some = ltb-true 0 n some
      by false some = tt
  soft-pointed n (pendings.AtPoint p) h = h
  soft-pointed n (pendings.ForStop f) h = h

  soft : (w : Word) → IsWord w → IsWord (with_soft_point w)
  soft w h =
      record {
        parts = h.parts;
        last = h.last;
        pending = softened (length w.last.cells) w.pending h.pending;
        few = h.few;
        pointed = soft-pointed (length w.last.cells) w.pending h.pointed;
      }

  pub barred-lined : (c : Collected) → IsLined c → IsLined (barred_here c)
  barred-lined c h = record { pieces = h.pieces; word = mapped with_soft_point soft c.word h.word; title = h.title }

  named-filled : (q : Point) (n : ℕ) (p : Pending) → IsFilled p → IsFilled (pending_named q n p)
  named-filled q n pendings.Nothing h = either IsFilled (nat_lt 0 n) (pendings.AtPoint q) pendings.Nothing tt tt
  named-filled q n (pendings.AtPoint r) h = either IsFilled (nat_lt 0 n) (pendings.AtPoint q) (pendings.AtPoint r) tt tt
  named-filled q n (pendings.ForStop f) h = h

  named-pointed : (q : Point) (n : ℕ) (p : Pending) → IsPointed p n → IsPointed (pending_named q n p) n
  named-pointed q n pendings.Nothing h = by (nat_lt 0 n) refl
    where
      by : (c : Bool) → nat_lt 0 n ≡ c → IsPointed (if c then pendings.AtPoint q else pendings.Nothing) n
      by true some = ltb-true 0 n some
      by false some = tt
  named-pointed q n (pendings.AtPoint r) h = either (λ p. IsPointed p n) (nat_lt 0 n) (pendings.AtPoint q) (pendings.AtPoint r) h h
  named-pointed q n (pendings.ForStop f) h = h

  named : (q : Point) (w : Word) → IsWord w → IsWord (with_named_point q w)
  named q w h =
      record {
        parts = h.parts;
        last = h.last;
        pending = named-filled q (length w.last.cells) w.pending h.pending;
        few = h.few;
        pointed = named-pointed q (length w.last.cells) w.pending h.pointed;
      }

  pub named-lined : (q : Point) (c : Collected) → IsLined c → IsLined (pointed_here q c)
  named-lined q c h = record { pieces = h.pieces; word = mapped (with_named_point q) (named q) c.word h.word; title = h.title }

  -- ---- a word's end

  -- a place inside of a piece has cells before it and after it
  inside : (at blanks n : ℕ) (p : Pending) → is_inside at blanks n p ≡ true → (0 < at) × (at < n)
  inside at blanks n p is = by (nat_lt 0 at) (nat_lt (at + blanks) n) (ltb-true 0 at) (ltb-true (at + blanks) n) is
    where
      by : (c d : Bool) → (c ≡ true → 0 < at) → (d ≡ true → at + blanks < n) → (c && d && not (is_for_stop p)) ≡ true → (0 < at) × (at < n)
      by true true first second is = let few = second refl in (first refl, omega (arith, few))
      by true false first second is = absurd (let wrong : false ≡ true = is in cc)
      by false d first second is = absurd (let wrong : false ≡ true = is in cc)

  pointed-at : (place : ℕ) (w : Word) → IsWord w → IsWord (point_at place w)
  pointed-at place w h = by (is_inside n w.blanks (length w.last.cells) w.pending) refl
    where
      n : ℕ
      n = place - cells_in w.parts

      prefix : Piece
      prefix = record { join = w.last.join; cells = take n w.last.cells }

      by : (c : Bool) → is_inside n w.blanks (length w.last.cells) w.pending ≡ c
          → IsWord (if c then record w { parts = w.parts ++ prefix ∷ []; last = record { join = joins.Soft; cells = drop n w.last.cells } } else w)
      by true is =
          let between = inside n w.blanks (length w.last.cells) w.pending is in
          let before : 0 < length (take n w.last.cells) = omega (arith, between.0, between.1, length-take n w.last.cells) in
          let after : 0 < length (drop n w.last.cells) = omega (arith, between.0, between.1, length-drop n w.last.cells) in
          record {
            parts = All-push IsSet w.parts prefix h.parts (All-take IsPrinted n w.last.cells h.last);
            last = All-drop IsPrinted n w.last.cells h.last;
            pending = h.pending;
            few = more w.parts prefix before h.few;
            pointed = any-pointed w.pending (length (drop n w.last.cells)) after;
          }
      by false is = h

  pub hyphenated-lined : (place : ℕ) (c : Collected) → IsLined c → IsLined (hyphenated place c)
  hyphenated-lined place c h = changed (point_at place) c (pointed-at place) h

  cells-of : (ps : List Piece) → AreSet ps → ArePrinted (flat_map (λ (p : Piece). p.cells) ps)
  cells-of [] h = All-nil IsPrinted
  cells-of (p ∷ ps) h = join p.cells (flat_map (λ (q : Piece). q.cells) ps) (All-head IsSet p ps h) (cells-of ps (All-tail IsSet p ps h))

  joined-at : (p : Pending) (w : Word) → IsWord w → IsWord (joined_at p w)
  joined-at (pendings.ForStop f) w h = h
  joined-at pendings.Nothing w h = record { parts = All-nil IsSet; last = join (flat_map (λ (p : Piece). p.cells) w.parts) w.last.cells (cells-of w.parts h.parts) h.last; pending = tt; few = omega arith; pointed = tt }
  joined-at (pendings.AtPoint p) w h = record { parts = All-nil IsSet; last = join (flat_map (λ (p : Piece). p.cells) w.parts) w.last.cells (cells-of w.parts h.parts) h.last; pending = tt; few = omega arith; pointed = tt }

  pub joined-lined : (c : Collected) → IsLined c → IsLined (joined c)
  joined-lined c h = changed (λ w. joined_at w.pending w) c (λ w k. joined-at w.pending w k) h

  without-point : (p : Pending) → IsFilled p → IsFilled (pending_without_point p)
  without-point (pendings.ForStop f) h = h
  without-point pendings.Nothing h = tt
  without-point (pendings.AtPoint p) h = tt

  no-point : (p : Pending) (n : ℕ) → IsPointed (pending_without_point p) n
  no-point (pendings.ForStop f) n = tt
  no-point pendings.Nothing n = tt
  no-point (pendings.AtPoint p) n = tt

  short : (w : Word) → IsWord w → IsWord (shortened w)
  short w h = record { parts = h.parts; last = All-take IsPrinted (length w.last.cells - w.blanks) w.last.cells h.last; pending = without-point w.pending h.pending; few = h.few; pointed = no-point w.pending (length (take (length w.last.cells - w.blanks) w.last.cells)) }

  pub without_blanks-lined : (c : Collected) → IsLined c → IsLined (without_blanks c)
  without_blanks-lined c h = changed shortened (joined c) short (joined-lined c h)

  pieces-of : (o : Option Word) → IsRead o → AreSet (word_pieces o)
  pieces-of None h = All-nil IsSet
  pieces-of (Some w) h = All-push IsSet w.parts w.last h.parts h.last

  pub end_word-lined : (c : Collected) → IsLined c → IsLined (end_word c)
  end_word-lined c h = record { pieces = All-append IsSet c.pieces (word_pieces c.word) h.pieces (pieces-of c.word h.word); word = tt; title = h.title }

  -- a word has no more parts than cells
  pub parts-le : (w : Word) → IsWord w → length w.parts ≤ word_length w
  parts-le w h = omega (arith, h.few)

  -- ---- stops

  fielded : (width : ℕ) (kind : StopKind) (fill : Cell) (w : Word) → IsPrinted fill → IsWord w → IsWord (with_field width kind fill w)
  fielded width kind fill w is h = record { parts = h.parts; last = h.last; pending = is; few = h.few; pointed = tt }

  to-stop : (m : Margins) (aligned : Bool) (fill : Cell) (c : Collected) (s : Option Stop) → IsPrinted fill → IsLined c → IsLined (to_stop m aligned fill c s)
  to-stop m aligned fill c None is h = worded m c h
  to-stop m aligned fill c (Some s) is h =
      either IsLined (is_aligned aligned s.kind) (in_word (with_field (s.column - column c) s.kind fill) (in_word ended (with_word m c))) (add_cells m fill (s.column - column c) c)
      (changed (with_field (s.column - column c) s.kind fill) (in_word ended (with_word m c)) (λ w k. fielded (s.column - column c) s.kind fill w is k) (ended-word m c h))
      (add_cells-lined m fill (s.column - column c) c is h)

  pub tabbed-lined : (m : Margins) (stops : List Stop) (aligned : Bool) (fill : Cell) (c : Collected) → IsPrinted fill → IsLined c → IsLined (tabbed m stops aligned fill c)
  tabbed-lined m stops aligned fill c is h = to-stop m aligned fill c (first_beyond (column c) stops) is h

  filled-by : (p : Pending) (w : Word) → IsFilled p → IsWord w → IsWord (filled_by p w)
  filled-by (pendings.ForStop f) w is h =
      let n = fill_count f (length w.last.cells - f.before) in
      record {
        parts = h.parts;
        last = join (take f.before w.last.cells ++ replicate n f.fill) (drop f.before w.last.cells)
            (join (take f.before w.last.cells) (replicate n f.fill) (All-take IsPrinted f.before w.last.cells h.last) (All-replicate IsPrinted n f.fill is))
            (All-drop IsPrinted f.before w.last.cells h.last);
        pending = tt;
        few = h.few;
        pointed = tt;
      }
  filled-by pendings.Nothing w is h = h
  filled-by (pendings.AtPoint p) w is h = h

  pub filled-lined : (c : Collected) → IsLined c → IsLined (with_field_filled c)
  filled-lined c h = changed (λ (w : Word). filled_by w.pending w) c (λ w k. filled-by w.pending w k.pending k) h

  -- ---- rows

  afterwards-cells : (x : Extra) (i : ℕ) (ps : List Piece) → AreSet ps → ArePrinted (cells_after x i ps)
  afterwards-cells x i [] h = All-nil IsPrinted
  afterwards-cells x i (p ∷ ps) h =
      join (replicate (blanks_before x i p.join) blank ++ p.cells) (cells_after x (next_gap i p.join) ps)
      (join (replicate (blanks_before x i p.join) blank) p.cells (blanks (blanks_before x i p.join)) (All-head IsSet p ps h))
      (afterwards-cells x (next_gap i p.join) ps (All-tail IsSet p ps h))

  in-line : (x : Extra) (ps : List Piece) → AreSet ps → ArePrinted (cells_in_line x ps)
  in-line x [] h = All-nil IsPrinted
  in-line x (p ∷ ps) h = join p.cells (cells_after x 1 ps) (All-head IsSet p ps h) (afterwards-cells x 1 ps (All-tail IsSet p ps h))

  pub line_row-printed : (s : Setting) (c : Collected) (n : ℕ) → IsLined c → ArePrinted (line_row s c n)
  line_row-printed s c n h =
      let prefix = s.offset + c.margins.indent + shift s.align (left_over c n) in
      let cut = hyphen_before (drop n c.pieces) in
      join (replicate prefix blank) (text_of s.align c n) (blanks prefix)
      (join (cells_in_line (extra_of s.align c n) (take n c.pieces)) (hyphens cut) (in-line (extra_of s.align c n) (take n c.pieces) (All-take IsSet n c.pieces h.pieces)) (All-replicate IsPrinted cut hyphen refl))

  -- ---- titles

  in-part : (p : TitlePart) (x : Cell) (t : Title) → IsPrinted x → IsThree t → IsThree (with_cell_in p x t)
  in-part parts.Left x t is h = record { left = All-push IsPrinted t.left x h.left is; centre = h.centre; right = h.right }
  in-part parts.Centre x t is h = record { left = h.left; centre = All-push IsPrinted t.centre x h.centre is; right = h.right }
  in-part parts.Right x t is h = record { left = h.left; centre = h.centre; right = All-push IsPrinted t.right x h.right is }

  titled-cell : (x : Cell) (o : Option Title) → IsPrinted x → IsTitled o → IsTitled (option_map (with_cell x) o)
  titled-cell x None is h = tt
  titled-cell x (Some t) is h = in-part t.part x t is h

  pub with_title_cell-lined : (x : Cell) (c : Collected) → IsPrinted x → IsLined c → IsLined (with_title_cell x c)
  with_title_cell-lined x c is h = record { pieces = h.pieces; word = h.word; title = titled-cell x c.title is h.title }

  pub with_title-lined : (c : Collected) → IsLined c → IsLined (with_title c)
  with_title-lined c h = record { pieces = h.pieces; word = h.word; title = record { left = All-nil IsPrinted; centre = All-nil IsPrinted; right = All-nil IsPrinted } }

  parted : (o : Option Title) → IsTitled o → IsTitled (option_map (λ (t : Title). record t { part = next_part t.part }) o)
  parted None h = tt
  parted (Some t) h = record { left = h.left; centre = h.centre; right = h.right }

  pub with_part_ended-lined : (c : Collected) → IsLined c → IsLined (with_part_ended c)
  with_part_ended-lined c h = record { pieces = h.pieces; word = h.word; title = parted c.title h.title }

  three-of : (o : Option Title) → IsTitled o → IsThree (title_or_empty o)
  three-of None h = record { left = All-nil IsPrinted; centre = All-nil IsPrinted; right = All-nil IsPrinted }
  three-of (Some t) h = h

  shown-at : (line : ℕ) (t : Title) (column : ℕ) → IsThree t → IsPrinted (cell_at line t column)
  shown-at line t column h =
      let right = right_at line (length t.right) in
      let centre = centre_at line (length t.centre) in
      either IsPrinted (is_within right (length t.right) column) (slice_index_or t.right (column - right) blank)
      (if is_within centre (length t.centre) column then slice_index_or t.centre (column - centre) blank else slice_index_or t.left column blank) (at t.right (column - right) h.right)
      (either IsPrinted (is_within centre (length t.centre) column) (slice_index_or t.centre (column - centre) blank) (slice_index_or t.left column blank) (at t.centre (column - centre) h.centre) (at t.left column h.left))

  pub titled_row-printed : (offset line : ℕ) (o : Option Title) → IsTitled o → ArePrinted (titled_row offset line o)
  titled_row-printed offset line o h =
      let t = title_or_empty o in
      join (replicate offset blank) (title_row line t) (blanks offset) (each (cell_at line t) (range_with_len 0 (reach line t)) (λ column. shown-at line t column (three-of o h)))
