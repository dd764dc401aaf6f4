-- Lemmas on frames that go on.
use Rattle.std.proofs.Common.{◌≡◌, ℕ, Bool, true, false, ◌==◌, ◌+◌, ◌<◌, List, [], ◌∷◌, length, take, drop, Option, Some, None, refl, ap, ap₂, sym, ◌∙◌, subst, arith}
use Rattle.std.specs.List.{slice_get}
use Rattle.std.proofs.lemmas.List.{drop-drop, drop_all, length-drop}
use Rattle.std.proofs.lemmas.Bool.Decides.{nat_tests}
use Rattle.nr_levels.specs.Levels.{Source, Text, Own, Mark, Open, Levels, next_item, next_item_of, afterwards, advanced, HasNext, HasMark, resumed}
use Rattle.nr_levels.specs.Further.{further, further_on, Reaches, NewestReaches}
use Rattle.nr_levels.specs.Frame.{part, source_of, resume_of, open_of, opens_of, mode_of, modes_after, modes_in, mode_count, levels_of, ReadsBelow, IsBare, IsStacked, AreLevels, MarkHasMode, AreModes}
use Rattle.nr_levels.specs.Moving.{gone_on, newest_gone_on, MayGoOn, NewestMayGoOn}
use Rattle.nr_levels.specs.declared.frame.Span.{Span}
use Rattle.nr_levels.specs.declared.frame.Frame.{Frame}
use Rattle.nr_levels.specs.declared.frame.NextItem.TheVariants as next_items
use Rattle.nr_levels.specs.declared.frame.Reads.{Reads}
use Rattle.nr_levels.specs.declared.frame.Reads.TheVariants as reads
use Rattle.nr_levels.proofs.Stacked.{has_next_own, cons_of, next_item_is}
use Rattle.nr_levels.proofs.Pushing.{length_part}

-- ---- where it leads

gone_resume : {K : Type 0} → (n : ℕ) (r : Reads) (mode : Option K) → resume_of (gone_on n r) mode ≡ resume_of r mode
gone_resume n (reads.Text id place) mode = refl
gone_resume n (reads.Own s) mode = refl
gone_resume n reads.Mark mode = refl

gone_source : {K : Type 0} → (n : ℕ) (xs : List ℕ) (r : Reads) (mode : Option K) → source_of xs (gone_on n r) mode ≡ further n (source_of xs r mode)
gone_source n xs (reads.Text id place) mode = refl
gone_source n xs (reads.Own s) mode = sym (ap Own (drop-drop n s.first (take s.last xs)))
gone_source n xs reads.Mark (Some mode) = refl
gone_source n xs reads.Mark None = sym (ap Own (drop_all n [] (omega arith)))

-- the newest level is so many elements further on
pub gone_further : {K : Type 0} → (fs : List Frame) (ms : List K) (xs : List ℕ) (ps : List Span) (now : Span) (room most n : ℕ) (v : Levels K)
    → levels_of fs ms xs ps now room most ≡ v → levels_of (newest_gone_on n fs) ms xs ps now room most ≡ record v { levels = further_on n v.levels }
gone_further [] ms xs ps now room most n v view = ap (λ (w : Levels _). record w { levels = further_on n w.levels }) view
gone_further (f ∷ fs) ms xs ps now room most n v view =
    let mode = mode_of f.has_mode ms in
    ap₂ (λ s o. record (levels_of fs ms xs ps now room most) { levels = record (open_of xs ps f mode) { source = s; resume = o } ∷ opens_of xs ps fs (modes_after f.has_mode ms) }) (gone_source n xs f.reads mode) (gone_resume n f.reads mode)
    ∙ ap (λ (w : Levels _). record w { levels = further_on n w.levels }) view

once : {K : Type 0} → (s : Source K) → further 1 s ≡ afterwards s
once (Text id place) = refl
once (Own bytes) = refl
once (Mark mode) = refl

further_once : {K : Type 0} → (ls : List (Open K)) → further_on 1 ls ≡ advanced ls
further_once [] = refl
further_once (l ∷ ls) = ap (λ s. record l { source = s } ∷ ls) (once l.source)

pub gone_once : {K : Type 0} → (fs : List Frame) (ms : List K) (xs : List ℕ) (ps : List Span) (now : Span) (room most : ℕ) (v : Levels K)
    → levels_of fs ms xs ps now room most ≡ v → levels_of (newest_gone_on 1 fs) ms xs ps now room most ≡ record v { levels = advanced v.levels }
gone_once fs ms xs ps now room most v view = gone_further fs ms xs ps now room most 1 v view ∙ ap (λ ls. record v { levels = ls }) (further_once v.levels)

-- ---- that there is as much

reaches_by : {K : Type 0} → (n : ℕ) (xs : List ℕ) (r : Reads) (mode : Option K) → ReadsBelow (length xs) r → Reaches n (source_of xs r mode) → MayGoOn n r
reaches_by n xs (reads.Text id place) mode below h = h
reaches_by n xs (reads.Own s) mode below h = let long = length_part xs s below in omega arith
reaches_by n xs reads.Mark mode below h = tt

pub some_of : (n : ℕ) → false ≡ (n == 0) → 0 < n
some_of n some = grind (arith, nat_tests)

pub may_go_further : {K : Type 0} → (fs : List Frame) (ms : List K) (xs : List ℕ) (ps : List Span) (now : Span) (room most n : ℕ) (v : Levels K)
    → levels_of fs ms xs ps now room most ≡ v → IsStacked ps fs now (length xs) → 0 < length fs → NewestReaches n v.levels → NewestMayGoOn n fs
may_go_further [] ms xs ps now room most n v view stacked some h = absurd (omega arith)
may_go_further (f ∷ fs) ms xs ps now room most n v view stacked some h =
    reaches_by n xs f.reads (mode_of f.has_mode ms) stacked.0.reads (subst (λ (w : Levels _). NewestReaches n w.levels) (sym view) h)

next_by : {K : Type 0} → (xs : List ℕ) (r : Reads) (mode : Option K) → HasNext (Some (next_item (source_of xs r mode))) → MayGoOn 1 r
next_by xs (reads.Text id place) mode h = λ some. h
next_by xs (reads.Own s) mode h = let some = has_next_own xs s _ refl h in omega arith
next_by xs reads.Mark mode h = tt

pub may_go_once : {K : Type 0} → (fs : List Frame) (ms : List K) (xs : List ℕ) (ps : List Span) (now : Span) (room most : ℕ) (v : Levels K)
    → levels_of fs ms xs ps now room most ≡ v → HasNext (next_item_of v.levels) → NewestMayGoOn 1 fs
may_go_once [] ms xs ps now room most v view h = absurd (subst (λ (w : Levels _). HasNext (next_item_of w.levels)) (sym view) h)
may_go_once (f ∷ fs) ms xs ps now room most v view h = next_by xs f.reads (mode_of f.has_mode ms) (subst (λ (w : Levels _). HasNext (next_item_of w.levels)) (sym view) h)

-- ---- a mode that comes next

own_has_none : (K : Type 0) → (bs : List ℕ) → HasMark {K = K} (Some (next_item (Own bs))) → ⊥
own_has_none K [] h = h
own_has_none K (b ∷ bs) h = h

-- only a frame whose end was taken gives one
mark_has : {K : Type 0} → (xs : List ℕ) (r : Reads) (has : Bool) (mode : Option K) → HasMark (Some (next_item (source_of xs r mode))) → MarkHasMode r has → has ≡ true
mark_has xs (reads.Text id place) has mode h mark = absurd h
mark_has xs (reads.Own s) has mode h mark = absurd (own_has_none _ (part xs s) h)
mark_has xs reads.Mark has mode h mark = mark

mark_next_item : {K : Type 0} → (xs : List ℕ) (r : Reads) (mode : K) → HasMark (Some (next_item (source_of xs r (Some mode)))) → next_item (source_of xs r (Some mode)) ≡ next_items.Resume mode
mark_next_item xs (reads.Text id place) mode h = absurd h
mark_next_item xs (reads.Own s) mode h = absurd (own_has_none _ (part xs s) h)
mark_next_item xs reads.Mark mode h = refl

-- the newest level's mode is taken: it is the newest mode
module _ {K : Type 0} (xs : List ℕ) (ps : List Span) (now : Span) (room most mode_room : ℕ) (v : Levels K) where
  newest_has : (f : Frame) (fs : List Frame) (ms : List K) → levels_of (f ∷ fs) ms xs ps now room most ≡ v → HasMark (next_item_of v.levels) → AreModes (f ∷ fs) ms mode_room most → f.has_mode ≡ true
  newest_has f fs ms view mark modes =
      mark_has xs f.reads f.has_mode (mode_of f.has_mode ms) (subst (λ (w : Levels _). HasMark (next_item_of w.levels)) (sym view) mark) modes.marks.0

  pub some_mode : (fs : List Frame) (ms : List K) → levels_of fs ms xs ps now room most ≡ v → HasMark (next_item_of v.levels) → AreModes fs ms mode_room most → (0 < length fs) × (0 < length ms)
  some_mode [] ms view mark modes = absurd (subst (λ (w : Levels _). HasMark (next_item_of w.levels)) (sym view) mark)
  some_mode (f ∷ fs) ms view mark modes =
      let one : modes_in f.has_mode ≡ 1 = ap modes_in (newest_has f fs ms view mark modes) in
      let each : modes_in f.has_mode + mode_count fs ≡ length ms = modes.each in
      (omega arith, omega arith)

  pub next_item_mode : (fs : List Frame) (ms : List K) (mode : K) → levels_of fs ms xs ps now room most ≡ v → HasMark (next_item_of v.levels) → AreModes fs ms mode_room most → slice_get ms 0 ≡ Some mode → next_item_of v.levels ≡ Some (next_items.Resume mode)
  next_item_mode [] ms mode view mark modes newest = absurd (subst (λ (w : Levels _). HasMark (next_item_of w.levels)) (sym view) mark)
  next_item_mode (f ∷ fs) ms mode view mark modes newest =
      let is : mode_of f.has_mode ms ≡ Some mode = ap (λ has. mode_of has ms) (newest_has f fs ms view mark modes) ∙ newest in
      let here = sym (ap (λ (w : Levels _). next_item_of w.levels) view) ∙ ap (λ o. Some (next_item (source_of xs f.reads o))) is in
      here ∙ ap Some (mark_next_item xs f.reads mode (subst HasMark here mark))

  pub mode_dropped : (fs : List Frame) (ms : List K) → levels_of fs ms xs ps now room most ≡ v → HasMark (next_item_of v.levels) → AreModes fs ms mode_room most → levels_of (drop 1 fs) (drop 1 ms) xs ps now room most ≡ resumed v.levels v
  mode_dropped [] ms view mark modes = absurd (subst (λ (w : Levels _). HasMark (next_item_of w.levels)) (sym view) mark)
  mode_dropped (f ∷ fs) ms view mark modes =
      sym (ap (λ has. levels_of fs (modes_after has ms) xs ps now room most) (newest_has f fs ms view mark modes)) ∙ ap (λ (w : Levels _). resumed w.levels w) view

  pub modes_stand : (fs : List Frame) (ms : List K) → levels_of fs ms xs ps now room most ≡ v → HasMark (next_item_of v.levels) → AreModes fs ms mode_room most → AreModes (drop 1 fs) (drop 1 ms) mode_room most
  modes_stand [] ms view mark modes = absurd (subst (λ (w : Levels _). HasMark (next_item_of w.levels)) (sym view) mark)
  modes_stand (f ∷ fs) ms view mark modes =
      let one : modes_in f.has_mode ≡ 1 = ap modes_in (newest_has f fs ms view mark modes) in
      let each : modes_in f.has_mode + mode_count fs ≡ length ms = modes.each in
      record { each = omega (arith, length-drop 1 ms); marks = modes.marks.1; suffice = modes.suffice }

mark_bare : {K : Type 0} → (xs : List ℕ) (r : Reads) (mode : Option K) (old now : Span) (low h : ℕ) → HasMark (Some (next_item (source_of xs r mode))) → IsBare r old now low h → (old ≡ now) × (low ≡ h)
mark_bare xs (reads.Text id place) mode old now low h mark bare = absurd mark
mark_bare xs (reads.Own s) mode old now low h mark bare = absurd (own_has_none _ (part xs s) mark)
mark_bare xs reads.Mark mode old now low h mark bare = bare

-- what is always true stays where its frame is taken away
pub levels_stand : {K : Type 0} → (fs : List Frame) (ms : List K) (xs : List ℕ) (ps : List Span) (now : Span) (room most place_room : ℕ) (v : Levels K)
    → levels_of fs ms xs ps now room most ≡ v → HasMark (next_item_of v.levels) → AreLevels fs xs ps now room most place_room → AreLevels (drop 1 fs) xs ps now room most place_room
levels_stand [] ms xs ps now room most place_room v view mark h = absurd (subst (λ (w : Levels _). HasMark (next_item_of w.levels)) (sym view) mark)
levels_stand (f ∷ fs) ms xs ps now room most place_room v view mark h =
    let stacked = h.stacked in
    let bare = mark_bare xs f.reads (mode_of f.has_mode ms) f.old now f.height (length xs) (subst (λ (w : Levels _). HasMark (next_item_of w.levels)) (sym view) mark) stacked.0.bare in
    record {
      stacked = subst (λ s. IsStacked ps fs s (length xs)) bare.0 (subst (IsStacked ps fs f.old) bare.1 stacked.1);
      now = h.now;
      top = h.top;
      places_suffice = h.places_suffice;
      places_small = h.places_small;
      small = h.small;
    }

has_mark : {K : Type 0} → (xs : List ℕ) (has : Bool) (ms : List K) → has ≡ true → 0 < length ms → HasMark (Some (next_item (source_of xs reads.Mark (mode_of has ms))))
has_mark xs true [] is some = absurd (omega arith)
has_mark xs true (m ∷ ms) is some = tt
has_mark xs false ms is some = let no : ⊥ = cc in absurd no

-- a mode comes next where the newest frame's end was taken
pub mark_comes : {K : Type 0} → (fs : List Frame) (ms : List K) (xs : List ℕ) (ps : List Span) (now : Span) (room most mode_room : ℕ) (v : Levels K) (f : Frame)
    → levels_of fs ms xs ps now room most ≡ v → slice_get fs 0 ≡ Some f → f.reads ≡ reads.Mark → AreModes fs ms mode_room most → HasMark (next_item_of v.levels)
mark_comes fs ms xs ps now room most mode_room v f view top is modes =
    let parted : AreModes (f ∷ drop 1 fs) ms mode_room most = subst (λ gs. AreModes gs ms mode_room most) (cons_of fs f top) modes in
    let has : f.has_mode ≡ true = subst (λ r. MarkHasMode r f.has_mode) is parted.marks.0 in
    let all : modes_in f.has_mode + mode_count (drop 1 fs) ≡ length ms = parted.each in
    let one : modes_in f.has_mode ≡ 1 = ap modes_in has in
    subst HasMark (sym (next_item_is fs ms xs ps now room most v f reads.Mark view top is)) (has_mark xs f.has_mode ms has (omega arith))
