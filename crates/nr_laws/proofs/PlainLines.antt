-- What the collected line holds of plain text, less blanks, and what of it goes out.
use Rattle.std.specs.Prelude.{nat_lt, replicate}
use Rattle.std.specs.List.{flat_map}
use Rattle.std.proofs.lemmas.Grind.{flat_map-append}
use Rattle.std.proofs.lemmas.List.{take-append-drop}
use Rattle.std.proofs.Common.{◌≡◌, ℕ, zero, suc, ◌+◌, Bool, true, false, if◌then◌else◌, List, [], ◌∷◌, ◌++◌, take, drop, Option, None, Some, refl, ap, ap₂, sym, subst, ◌∙◌, append-nil, append_assoc}
use Rattle.nr_vectors.specs.Cell.{blank}
use Rattle.nr_page.specs.declared.faces.Faces.{Faces}
use Rattle.nr_vectors.specs.declared.cell.Look.TheVariants.{Plain}
use Rattle.nr_vectors.specs.declared.cell.Cell.{Cell}
use Rattle.nr_fill.specs.declared.piece.CutAfter.{CutAfter}
use Rattle.nr_fill.specs.declared.piece.CutAfter.TheVariants as behinds
use Rattle.nr_fill.specs.declared.piece.Join.{Join}
use Rattle.nr_fill.specs.declared.piece.Join.TheVariants as joins
use Rattle.nr_fill.specs.declared.stops.Pending.{Pending}
use Rattle.nr_fill.specs.declared.stops.Pending.TheVariants as pendings
use Rattle.nr_fill.specs.declared.piece.Point.TheVariants as points
use Rattle.nr_fill.specs.Piece.{Piece, Word, Collected, ended, ended_at, word_or_new, pending_after, word_length, add_cell_after, add_cell, add_blank, word_pieces, end_word}
use Rattle.nr_fill.specs.Cutting.{hyphen_before, hyphen_width}
use Rattle.nr_fill.specs.Spreading.{blanks_before, next_gap, cells_after, cells_in_line}
use Rattle.nr_fill.specs.Setting.{line_row, extra_of, shift, left_over, afterwards}
use Rattle.nr_fill.specs.declared.setting.Setting.{Setting}
use Rattle.nr_settings.specs.declared.indents.Margins.{Margins}
use Rattle.nr_fill.specs.declared.setting.Extra.{Extra}
use Rattle.nr_laws.proofs.PlainPages.{ink, ink-append, ink-blanks, ink-one_blank}

-- ---- ink

abbrev pub pieces_ink : Faces → List Piece → List ℕ
pieces_ink faces ps = flat_map (λ (p : Piece). ink faces p.cells) ps

abbrev pub word_ink : Faces → Option Word → List ℕ
word_ink faces None = []
word_ink faces (Some w) = pieces_ink faces w.parts ++ ink faces w.last.cells

-- of all that is collected
abbrev pub collected_ink : Faces → Collected → List ℕ
collected_ink faces c = pieces_ink faces c.pieces ++ word_ink faces c.word

pub pieces_ink-append : (faces : Faces) (ps qs : List Piece) → pieces_ink faces (ps ++ qs) ≡ pieces_ink faces ps ++ pieces_ink faces qs
pieces_ink-append faces ps qs = flat_map-append (λ (p : Piece). ink faces p.cells) ps qs

-- ---- plain text makes no soft break points, and no text for a stop

abbrev pub is_soft : Join → Bool
is_soft (joins.Gap k) = false
is_soft joins.Soft = true
is_soft joins.Hard = false

abbrev pub NoSoft : List Piece → Type 0
NoSoft [] = Unit {0}
NoSoft (p ∷ ps) = (is_soft p.join ≡ false) × NoSoft ps

abbrev pub IsPlainPending : Pending → Type 0
IsPlainPending pendings.Nothing = Unit {0}
IsPlainPending (pendings.AtPoint points.Hard) = Unit {0}
IsPlainPending (pendings.AtPoint points.Soft) = ⊥
IsPlainPending (pendings.AtPoint points.Joining) = ⊥
IsPlainPending (pendings.ForStop f) = ⊥

pub record CleanWord (w : Word) : Type 0 where
  pub parts : NoSoft w.parts
  pub last : is_soft w.last.join ≡ false
  pub pending : IsPlainPending w.pending

abbrev pub CleanWords : Option Word → Type 0
CleanWords None = Unit {0}
CleanWords (Some w) = CleanWord w

pub record Clean (c : Collected) : Type 0 where
  pub pieces : NoSoft c.pieces
  pub word : CleanWords c.word

pub no_soft-append : (ps qs : List Piece) → NoSoft ps → NoSoft qs → NoSoft (ps ++ qs)
no_soft-append [] qs a b = b
no_soft-append (p ∷ ps) qs a b = (a.0, no_soft-append ps qs a.1 b)

pub no_soft-drop : (n : ℕ) (ps : List Piece) → NoSoft ps → NoSoft (drop n ps)
no_soft-drop zero ps a = a
no_soft-drop (suc n) [] a = tt
no_soft-drop (suc n) (p ∷ ps) a = no_soft-drop n ps a.1

-- ---- words

-- the word at whose end no break point waits
record Going (w v : Word) : Type 0 where
  same_ink : (faces : Faces) → word_ink faces (Some v) ≡ word_ink faces (Some w)
  parts : NoSoft v.parts
  last : is_soft v.last.join ≡ false
  none : v.pending ≡ pendings.Nothing

going_by : (p : Pending) (w : Word) → w.pending ≡ p → CleanWord w → Going w (ended_at p w)
going_by pendings.Nothing w is clean = record { same_ink = λ faces. refl; parts = clean.parts; last = clean.last; none = is }
going_by (pendings.AtPoint points.Hard) w is clean = record {
  same_ink = λ faces. append-nil (pieces_ink faces (w.parts ++ w.last ∷ [])) ∙ pieces_ink-append faces w.parts (w.last ∷ []) ∙ ap (λ z. pieces_ink faces w.parts ++ z) (append-nil (ink faces w.last.cells));
  parts = no_soft-append w.parts (w.last ∷ []) clean.parts (clean.last, tt);
  last = refl;
  none = refl;
}
going_by (pendings.AtPoint points.Soft) w is clean = absurd (subst IsPlainPending is clean.pending)
going_by (pendings.AtPoint points.Joining) w is clean = absurd (subst IsPlainPending is clean.pending)
going_by (pendings.ForStop f) w is clean = absurd (subst IsPlainPending is clean.pending)

going : (w : Word) → CleanWord w → Going w (ended w)
going w clean = going_by w.pending w refl clean

-- the word that cells go to
word_clean : (gap : ℕ) (w : Option Word) → CleanWords w → CleanWord (word_or_new gap w)
word_clean gap None clean = record { parts = tt; last = refl; pending = tt }
word_clean gap (Some w) clean = clean

word_same : (faces : Faces) (gap : ℕ) (w : Option Word) → word_ink faces (Some (word_or_new gap w)) ≡ word_ink faces w
word_same faces gap None = refl
word_same faces gap (Some w) = refl

-- ---- a cell

pending_if : (b : Bool) → IsPlainPending (if b then pendings.AtPoint points.Hard else pendings.Nothing)
pending_if true = tt
pending_if false = tt

pending_plain : (mark : CutAfter) (n : ℕ) → IsPlainPending (pending_after mark n pendings.Nothing)
pending_plain behinds.Letter n = tt
pending_plain behinds.Hyphen n = pending_if (nat_lt 1 n)
pending_plain behinds.Dash n = pending_if (nat_lt 2 n)

pub add_cell-ink : (faces : Faces) (m : Margins) (mark : CutAfter) (x : Cell) (c : Collected) → Clean c → collected_ink faces (add_cell m mark x c) ≡ collected_ink faces c ++ ink faces (x ∷ [])
add_cell-ink faces m mark x c clean =
    let w = word_or_new c.gap c.word in
    let g = going w (word_clean c.gap c.word clean.word) in
    let longer : word_ink faces (Some (add_cell_after mark x (ended w))) ≡ word_ink faces c.word ++ ink faces (x ∷ []) =
    ap (λ z. pieces_ink faces (ended w).parts ++ z) (ink-append faces (ended w).last.cells (x ∷ [])) ∙ sym (append_assoc (pieces_ink faces (ended w).parts) (ink faces (ended w).last.cells) (ink faces (x ∷ [])))
    ∙ ap (λ z. z ++ ink faces (x ∷ [])) (g.same_ink faces ∙ word_same faces c.gap c.word) in
    ap (λ z. pieces_ink faces c.pieces ++ z) longer ∙ sym (append_assoc (pieces_ink faces c.pieces) (word_ink faces c.word) (ink faces (x ∷ [])))

pub add_cell-clean : (m : Margins) (mark : CutAfter) (x : Cell) (c : Collected) → Clean c → Clean (add_cell m mark x c)
add_cell-clean m mark x c clean =
    let w = word_or_new c.gap c.word in
    let g = going w (word_clean c.gap c.word clean.word) in
    record {
      pieces = clean.pieces;
      word = record { parts = g.parts; last = g.last; pending = subst (λ p. IsPlainPending (pending_after mark (word_length (add_cell_after mark x (ended w))) p)) (sym g.none) (pending_plain mark (word_length (add_cell_after mark x (ended w)))) };
    }

pub add_blank-ink : (faces : Faces) (m : Margins) (c : Collected) → Clean c → collected_ink faces (add_blank m c) ≡ collected_ink faces c
add_blank-ink faces m c clean =
    let w = word_or_new c.gap c.word in
    let g = going w (word_clean c.gap c.word clean.word) in
    ap (λ z. pieces_ink faces c.pieces ++ (pieces_ink faces (ended w).parts ++ z)) (ink-append faces (ended w).last.cells (blank ∷ []) ∙ ap (λ z. ink faces (ended w).last.cells ++ z) (ink-one_blank faces) ∙ append-nil (ink faces (ended w).last.cells))
    ∙ ap (λ z. pieces_ink faces c.pieces ++ z) (g.same_ink faces ∙ word_same faces c.gap c.word)

pub add_blank-clean : (m : Margins) (c : Collected) → Clean c → Clean (add_blank m c)
add_blank-clean m c clean =
    let w = word_or_new c.gap c.word in
    let g = going w (word_clean c.gap c.word clean.word) in
    record { pieces = clean.pieces; word = record { parts = g.parts; last = g.last; pending = subst IsPlainPending (sym g.none) tt } }

-- ---- a word's end

word_pieces-ink : (faces : Faces) (w : Option Word) → pieces_ink faces (word_pieces w) ≡ word_ink faces w
word_pieces-ink faces None = refl
word_pieces-ink faces (Some w) = pieces_ink-append faces w.parts (w.last ∷ []) ∙ ap (λ z. pieces_ink faces w.parts ++ z) (append-nil (ink faces w.last.cells))

word_pieces-clean : (w : Option Word) → CleanWords w → NoSoft (word_pieces w)
word_pieces-clean None clean = tt
word_pieces-clean (Some w) clean = no_soft-append w.parts (w.last ∷ []) clean.parts (clean.last, tt)

pub end_word-ink : (faces : Faces) (c : Collected) → collected_ink faces (end_word c) ≡ collected_ink faces c
end_word-ink faces c =
    append-nil (pieces_ink faces (c.pieces ++ word_pieces c.word)) ∙ pieces_ink-append faces c.pieces (word_pieces c.word) ∙ ap (λ z. pieces_ink faces c.pieces ++ z) (word_pieces-ink faces c.word)

pub end_word-clean : (c : Collected) → Clean c → Clean (end_word c)
end_word-clean c clean = record { pieces = no_soft-append c.pieces (word_pieces c.word) clean.pieces (word_pieces-clean c.word clean.word); word = tt }

-- ---- a line goes out

afterwards-ink : (faces : Faces) (x : Extra) (i : ℕ) (ps : List Piece) → ink faces (cells_after x i ps) ≡ pieces_ink faces ps
afterwards-ink faces x i [] = refl
afterwards-ink faces x i (p ∷ ps) =
    ink-append faces (replicate (blanks_before x i p.join) blank ++ p.cells) (cells_after x (next_gap i p.join) ps)
    ∙ ap₂ (λ a b. a ++ b) (ink-append faces (replicate (blanks_before x i p.join) blank) p.cells ∙ ap (λ z. z ++ ink faces p.cells) (ink-blanks faces (blanks_before x i p.join))) (afterwards-ink faces x (next_gap i p.join) ps)

line-ink : (faces : Faces) (x : Extra) (ps : List Piece) → ink faces (cells_in_line x ps) ≡ pieces_ink faces ps
line-ink faces x [] = refl
line-ink faces x (p ∷ ps) = ink-append faces p.cells (cells_after x 1 ps) ∙ ap (λ z. ink faces p.cells ++ z) (afterwards-ink faces x 1 ps)

no_width : (j : Join) → is_soft j ≡ false → hyphen_width j ≡ 0
no_width (joins.Gap k) is = refl
no_width joins.Soft is = absurd (let e : true ≡ false = is in cc)
no_width joins.Hard is = refl

pub no_hyphen : (ps : List Piece) → NoSoft ps → hyphen_before ps ≡ 0
no_hyphen [] a = refl
no_hyphen (p ∷ ps) a = no_width p.join a.0

-- the row of the first n pieces
pub row-ink : (faces : Faces) (s : Setting) (c : Collected) (n : ℕ) → NoSoft c.pieces → ink faces (line_row s c n) ≡ pieces_ink faces (take n c.pieces)
row-ink faces s c n clean =
    let before = s.offset + c.margins.indent + shift s.align (left_over c n) in
    let x = extra_of s.align c n in
    ap (λ h. ink faces (replicate before blank ++ (cells_in_line x (take n c.pieces) ++ replicate h (record { byte = 45; look = Plain })))) (no_hyphen (drop n c.pieces) (no_soft-drop n c.pieces clean))
    ∙ ink-append faces (replicate before blank) (cells_in_line x (take n c.pieces) ++ []) ∙ ap₂ (λ a b. a ++ b) (ink-blanks faces before) (ap (ink faces) (append-nil (cells_in_line x (take n c.pieces))) ∙ line-ink faces x (take n c.pieces))

-- and of what is left after it
pub cut-ink : (faces : Faces) (s : Setting) (m : Margins) (c : Collected) (n : ℕ) → NoSoft c.pieces → ink faces (line_row s c n) ++ collected_ink faces (afterwards m s.align c n) ≡ collected_ink faces c
cut-ink faces s m c n clean =
    ap (λ z. z ++ (pieces_ink faces (drop n c.pieces) ++ word_ink faces c.word)) (row-ink faces s c n clean)
    ∙ sym (append_assoc (pieces_ink faces (take n c.pieces)) (pieces_ink faces (drop n c.pieces)) (word_ink faces c.word))
    ∙ ap (λ z. z ++ word_ink faces c.word) (sym (pieces_ink-append faces (take n c.pieces) (drop n c.pieces)) ∙ ap (pieces_ink faces) (take-append-drop n c.pieces))

pub afterwards-clean : (m : Margins) (s : Setting) (c : Collected) (n : ℕ) → Clean c → Clean (afterwards m s.align c n)
afterwards-clean m s c n clean = record { pieces = no_soft-drop n c.pieces clean.pieces; word = clean.word }
