-- Lemmas on levels in a row of frames.
use Rattle.std.proofs.Common.{◌≡◌, ℕ, suc, ◌+◌, ◌*◌, ◌<◌, ◌≤◌, List, [], ◌∷◌, ◌++◌, length, map, take, drop, get_or, Option, Some, None, Bool, true, false, refl, ap, ap₂, sym, ◌∙◌, subst, inl, inr, arith}
use Rattle.std.specs.List.{slice_get}
use Rattle.std.proofs.lemmas.List.{take-take, length-take, drop_all, drop_more, get_or-take, length-take-le}
use Rattle.std.proofs.lemmas.Bool.{cases_lt}
use Rattle.std.proofs.lemmas.List.Sums.{sum_by-cons}
use Rattle.std.proofs.lemmas.Option.{get_or_from_slice_get}
use Rattle.nr_levels.specs.Levels.{Source, Own, Mark, Open, Levels, total, next_item, next_item_of, marks, closed, HasNext, HasEnd}
use Rattle.nr_levels.specs.Frame.{part, arguments_of, source_of, resume_of, open_of, opens_of, mode_of, modes_after, modes_in, mode_count, levels_of, EndBy, AreBelow, ReadsBelow, reader, readers, IsStacked, AreLevels, MarkHasMode, AreModes}
use Rattle.nr_levels.specs.Windows.{left_in, rest_of}
use Rattle.nr_levels.specs.declared.frame.Span.{Span}
use Rattle.nr_levels.specs.declared.frame.Frame.{Frame}
use Rattle.nr_levels.specs.declared.frame.NextItem.{NextItem}
use Rattle.nr_levels.specs.declared.frame.Reads.{Reads}
use Rattle.nr_levels.specs.declared.frame.Reads.TheVariants as reads

-- a list whose first item is known
pub cons_of : {X : Type 0} (xs : List X) (x : X) → slice_get xs 0 ≡ Some x → xs ≡ x ∷ drop 1 xs
cons_of [] x is = cc
cons_of (y ∷ ys) x is = let same : y ≡ x = cc in ap (λ z. z ∷ ys) same

-- ---- parts of rows

pub part_none : {X : Type 0} (xs : List X) (s : Span) → s.last ≤ s.first → part xs s ≡ []
part_none xs s none = drop_all s.first (take s.last xs) (omega (arith, length-take s.last xs))

pub part_more : {X : Type 0} (xs : List X) (s : Span) (x : X) → s.first < s.last → s.last ≤ length xs → slice_get xs s.first ≡ Some x
    → part xs s ≡ x ∷ part xs (record s { first = s.first + 1 })
part_more xs s x some within is =
    let row = take s.last xs in
    let here : get_or row s.first x ≡ x = get_or-take s.last xs s.first x some ∙ get_or_from_slice_get xs s.first x x is in
    drop_more row s.first x (omega (arith, length-take s.last xs)) ∙ ap (λ y. y ∷ drop (s.first + 1) row) here

-- rows that agree up to q have the same parts up to there
pub same_prefix : {X : Type 0} (xs ys : List X) (n q : ℕ) → n ≤ q → take q xs ≡ take q ys → take n xs ≡ take n ys
same_prefix xs ys n q le same = sym (take-take n q xs le) ∙ ap (take n) same ∙ take-take n q ys le

pub same_part : {X : Type 0} (xs ys : List X) (s : Span) (q : ℕ) → s.last ≤ q → take q xs ≡ take q ys → part xs s ≡ part ys s
same_part xs ys s q le same = ap (drop s.first) (same_prefix xs ys s.last q le same)

pub same_below : (ps qs : List Span) (q h : ℕ) (s : Span) → take q ps ≡ take q qs → s.last ≤ q → q ≤ length ps → AreBelow qs h s → AreBelow ps h s
same_below ps qs q h s same le room below = record {
  within = omega arith;
  below = subst (EndBy h) (sym (same_part ps qs s q le same)) below.below;
}

pub end_by_more : (h k : ℕ) (ss : List Span) → h ≤ k → EndBy h ss → EndBy k ss
end_by_more h k [] le e = tt
end_by_more h k (s ∷ ss) le e = let now = e.0 in (omega arith, end_by_more h k ss le e.1)

same_texts : (xs ys : List ℕ) (h : ℕ) (ss : List Span) → take h xs ≡ take h ys → EndBy h ss → map (part xs) ss ≡ map (part ys) ss
same_texts xs ys h [] same e = refl
same_texts xs ys h (s ∷ ss) same e = ap₂ (λ z zs. z ∷ zs) (same_part xs ys s h e.0 same) (same_texts xs ys h ss same e.1)

-- some arguments over rows that agree as far as they reach
pub same_arguments : (xs ys : List ℕ) (ps qs : List Span) (h q : ℕ) (s : Span) → take h xs ≡ take h ys → take q ps ≡ take q qs → s.last ≤ q → AreBelow qs h s → arguments_of xs ps s ≡ arguments_of ys qs s
same_arguments xs ys ps qs h q s same_bytes same_places le below =
    ap (map (part xs)) (same_part ps qs s q le same_places) ∙ same_texts xs ys h (part qs s) same_bytes below.below

same_source : {K : Type 0} → (xs ys : List ℕ) (h : ℕ) (r : Reads) (mode : Option K) → take h xs ≡ take h ys → ReadsBelow h r → source_of xs r mode ≡ source_of ys r mode
same_source xs ys h (reads.Text id place) mode same below = refl
same_source xs ys h (reads.Own s) mode same below = ap Own (same_part xs ys s h below same)
same_source xs ys h reads.Mark (Some mode) same below = refl
same_source xs ys h reads.Mark None same below = refl

-- the levels over rows that agree as far as the levels reach
pub same_levels : {K : Type 0} → (xs ys : List ℕ) (ps qs : List Span) (n q : ℕ) (fs : List Frame) (ms : List K) (now : Span) (h : ℕ) → take n xs ≡ take n ys → take q ps ≡ take q qs → h ≤ n → now.last ≤ q
    → IsStacked qs fs now h → opens_of xs ps fs ms ≡ opens_of ys qs fs ms
same_levels xs ys ps qs n q [] ms now h same_bytes same_places below top stacked = refl
same_levels xs ys ps qs n q (f ∷ fs) ms now h same_bytes same_places below top stacked =
    let on = stacked.0 in
    let lower = on.lower in
    let above = on.above in
    let mode = mode_of f.has_mode ms in
    let here : open_of xs ps f mode ≡ open_of ys qs f mode = ap₂ (λ (s : Source _) o. record { source = s; old = o; charge = f.charge; resume = resume_of f.reads mode })
    (same_source xs ys h f.reads mode (same_prefix xs ys h n below same_bytes) on.reads)
    (same_arguments xs ys ps qs f.height q f.old (same_prefix xs ys f.height n (omega arith) same_bytes) same_places (omega arith) on.old) in
    ap₂ (λ z zs. z ∷ zs) here (same_levels xs ys ps qs n q fs (modes_after f.has_mode ms) f.old f.height same_bytes same_places (omega arith) (omega arith) stacked.1)

-- and they are stacked there too
pub same_stack : (ps qs : List Span) (q : ℕ) (fs : List Frame) (now : Span) (h : ℕ) → take q ps ≡ take q qs → now.last ≤ q → q ≤ length ps → IsStacked qs fs now h → IsStacked ps fs now h
same_stack ps qs q [] now h same top room stacked = stacked
same_stack ps qs q (f ∷ fs) now h same top room stacked =
    let on = stacked.0 in
    let above = on.above in (
      record {
        lower = on.lower;
        paid = on.paid;
        costs = on.costs;
        reads = on.reads;
        bare = on.bare;
        old = same_below ps qs q f.height f.old same (omega arith) room on.old;
        above = on.above;
        few = on.few;
      },
      same_stack ps qs q fs f.old f.height same (omega arith) room stacked.1,
    )

-- the bytes are within what the levels are charged
pub stacked_total : {K : Type 0} → (xs : List ℕ) (ps qs : List Span) (fs : List Frame) (ms : List K) (now : Span) (h : ℕ) → IsStacked ps fs now h → h ≤ total (opens_of xs qs fs ms)
stacked_total xs ps qs [] ms now h stacked = let none = stacked.1 in omega arith
stacked_total xs ps qs (f ∷ fs) ms now h stacked =
    let paid = stacked.0.paid in
    let rest = stacked_total xs ps qs fs (modes_after f.has_mode ms) f.old f.height stacked.1 in
    let all = sum_by-cons (λ (l : Open _). l.charge) (open_of xs qs f (mode_of f.has_mode ms)) (opens_of xs qs fs (modes_after f.has_mode ms)) in
    omega arith

-- no more than nine arguments a level that reads
pub stacked_places : (ps : List Span) (fs : List Frame) (now : Span) (h : ℕ) → IsStacked ps fs now h → now.last ≤ 9 * readers fs
stacked_places ps [] now h stacked = let none = stacked.0 in omega arith
stacked_places ps (f ∷ fs) now h stacked =
    let few = stacked.0.few in
    let rest = stacked_places ps fs f.old f.height stacked.1 in
    omega arith

one_reader : (r : Reads) → reader r ≤ 1
one_reader (reads.Text id place) = omega arith
one_reader (reads.Own s) = omega arith
one_reader reads.Mark = omega arith

pub readers_deep : (fs : List Frame) → readers fs ≤ length fs
readers_deep [] = omega arith
readers_deep (f ∷ fs) = let rest = readers_deep fs in let one = one_reader f.reads in omega arith

-- each level that reads is charged 16 at least
pub readers_total : {K : Type 0} → (xs : List ℕ) (ps qs : List Span) (fs : List Frame) (ms : List K) (now : Span) (h : ℕ) → IsStacked ps fs now h → 16 * readers fs ≤ total (opens_of xs qs fs ms)
readers_total xs ps qs [] ms now h stacked = omega arith
readers_total xs ps qs (f ∷ fs) ms now h stacked =
    let costs = stacked.0.costs in
    let rest = readers_total xs ps qs fs (modes_after f.has_mode ms) f.old f.height stacked.1 in
    let all = sum_by-cons (λ (l : Open _). l.charge) (open_of xs qs f (mode_of f.has_mode ms)) (opens_of xs qs fs (modes_after f.has_mode ms)) in
    omega arith

pub modes_deep : (fs : List Frame) → mode_count fs ≤ length fs
modes_deep [] = omega arith
modes_deep (f ∷ fs) = let rest = modes_deep fs in let one = one_mode f.has_mode in omega arith
  where
    one_mode : (has : Bool) → modes_in has ≤ 1
    one_mode true = omega arith
    one_mode false = omega arith

pub length-opens_of : {K : Type 0} → (xs : List ℕ) (ps : List Span) (fs : List Frame) (ms : List K) → length (opens_of xs ps fs ms) ≡ length fs
length-opens_of xs ps [] ms = refl
length-opens_of xs ps (f ∷ fs) ms = ap suc (length-opens_of xs ps fs (modes_after f.has_mode ms))

-- ---- the newest level

pub next_item_is : {K : Type 0} → (fs : List Frame) (ms : List K) (xs : List ℕ) (ps : List Span) (now : Span) (room most : ℕ) (v : Levels K) (f : Frame) (r : Reads)
    → levels_of fs ms xs ps now room most ≡ v → slice_get fs 0 ≡ Some f → f.reads ≡ r → next_item_of v.levels ≡ Some (next_item (source_of xs r (mode_of f.has_mode ms)))
next_item_is fs ms xs ps now room most v f r view top is =
    ap (λ (w : Levels _). next_item_of w.levels) (sym view) ∙ ap (λ gs. next_item_of (opens_of xs ps gs ms)) (cons_of fs f top) ∙ ap (λ t. Some (next_item (source_of xs t (mode_of f.has_mode ms)))) is

-- what is left of it
pub left_is : {K : Type 0} → (fs : List Frame) (ms : List K) (xs : List ℕ) (ps : List Span) (now : Span) (room most : ℕ) (v : Levels K) (f : Frame) (r : Reads)
    → levels_of fs ms xs ps now room most ≡ v → slice_get fs 0 ≡ Some f → f.reads ≡ r → rest_of v.levels ≡ left_in (source_of xs r (mode_of f.has_mode ms))
left_is fs ms xs ps now room most v f r view top is =
    ap (λ (w : Levels _). rest_of w.levels) (sym view) ∙ ap (λ gs. rest_of (opens_of xs ps gs ms)) (cons_of fs f top) ∙ ap (λ t. left_in (source_of xs t (mode_of f.has_mode ms))) is

-- nothing where its end was taken
pub left_none : {K : Type 0} → (xs : List ℕ) (mode : Option K) → left_in (source_of xs reads.Mark mode) ≡ Own []
left_none xs (Some mode) = refl
left_none xs None = refl

-- the newest frame is on the others
pub newest_on : (fs : List Frame) (ps : List Span) (now : Span) (h : ℕ) (f : Frame) → IsStacked ps fs now h → slice_get fs 0 ≡ Some f → IsStacked ps (f ∷ drop 1 fs) now h
newest_on fs ps now h f stacked top = subst (λ gs. IsStacked ps gs now h) (cons_of fs f top) stacked

pub reads_below : (h : ℕ) (r : Reads) (s : Span) → r ≡ reads.Own s → ReadsBelow h r → s.last ≤ h
reads_below h r s is below = rw is at below

pub next_item_none : {K : Type 0} → (xs : List ℕ) (s : Span) → s.last ≤ s.first → next_item {K = K} (Own (part xs s)) ≡ next_item (Own [])
next_item_none xs s none = ap (λ ys. next_item (Own ys)) (part_none xs s none)

pub next_item_some : {K : Type 0} → (xs : List ℕ) (s : Span) (b : ℕ) → s.first < s.last → s.last ≤ length xs → slice_get xs s.first ≡ Some b → next_item {K = K} (Own (part xs s)) ≡ next_item (Own (b ∷ []))
next_item_some xs s b some within is = ap (λ ys. next_item (Own ys)) (part_more xs s b some within is)

pub has_next_own : {K : Type 0} → (xs : List ℕ) (s : Span) (o : Option (NextItem K)) → o ≡ Some (next_item (Own (part xs s))) → HasNext o → s.first < s.last
has_next_own xs s o is next = elim (cases_lt s.first s.last) [
  | inl some ↦ some
  | inr none ↦ let h = rw (is, next_item_none xs s none) at next in absurd h
]

-- ---- the newest level's end

no_resume : (K : Type 0) (r : Reads) → resume_of {K = K} r None ≡ None
no_resume K (reads.Text id place) = refl
no_resume K (reads.Own s) = refl
no_resume K reads.Mark = refl

-- a frame whose end is still to be taken resumes its mode then
end_resumes : {K : Type 0} (xs : List ℕ) (r : Reads) (mode : K) → HasEnd (Some (next_item (source_of xs r (Some mode)))) → resume_of r (Some mode) ≡ Some mode
end_resumes xs (reads.Text id place) mode end = refl
end_resumes xs (reads.Own s) mode end = refl
end_resumes xs reads.Mark mode end = absurd end

-- the levels below the newest, over the bytes and places below it
module _ (fs : List Frame) (xs : List ℕ) (ps : List Span) (now : Span) (room most place_room : ℕ) (f : Frame) (top : slice_get fs 0 ≡ Some f) (h : AreLevels fs xs ps now room most place_room) where
  abbrev low_bytes : List ℕ
  low_bytes = take f.height xs

  abbrev low_places : List Span
  low_places = take f.old.last ps

  stacked : IsStacked ps (f ∷ drop 1 fs) now (length xs)
  stacked = newest_on fs ps now (length xs) f h.stacked top

  bytes_same : take f.height low_bytes ≡ take f.height xs
  bytes_same = take-take f.height f.height xs (omega arith)

  places_same : take f.old.last low_places ≡ take f.old.last ps
  places_same = take-take f.old.last f.old.last ps (omega arith)

  below_is : {K : Type 0} (ms : List K) → levels_of (drop 1 fs) ms low_bytes low_places f.old room most
      ≡ record { levels = opens_of xs ps (drop 1 fs) ms; arguments = arguments_of xs ps f.old; capacity = room; most = most }
  below_is ms =
      let on = stacked.0 in
      ap₂ (λ ls os. record { levels = ls; arguments = os; capacity = room; most = most })
      (same_levels low_bytes xs low_places ps f.height f.old.last (drop 1 fs) ms f.old f.height bytes_same places_same (omega arith) (omega arith) stacked.1)
      (same_arguments low_bytes xs low_places ps f.height f.old.last f.old bytes_same places_same (omega arith) on.old)

  same_old : arguments_of low_bytes low_places f.old ≡ arguments_of xs ps f.old
  same_old = let on = stacked.0 in same_arguments low_bytes xs low_places ps f.height f.old.last f.old bytes_same places_same (omega arith) on.old

  abbrev marked : Frame
  marked = record { reads = reads.Mark; old = f.old; charge = 0; height = f.height; has_mode = true }

  pub marked_is : {K : Type 0} (mode : K) (ms : List K) → levels_of (marked ∷ drop 1 fs) (mode ∷ ms) low_bytes low_places f.old room most
      ≡ record { levels = marks (Some mode) (arguments_of xs ps f.old) ++ opens_of xs ps (drop 1 fs) ms; arguments = arguments_of xs ps f.old; capacity = room; most = most }
  marked_is mode ms =
      ap₂ (λ (v : Levels _) os. record v { levels = record { source = Mark mode; old = os; charge = 0; resume = None } ∷ v.levels }) (below_is ms) same_old

  pub below_stands : AreLevels (drop 1 fs) low_bytes low_places f.old room most place_room
  below_stands =
      let on = stacked.0 in
      let lower = on.lower in
      let within = on.old.within in
      let long : length low_places ≡ f.old.last = length-take-le f.old.last ps within in
      let height : length low_bytes ≡ f.height = length-take-le f.height xs lower in
      record {
        stacked = rw height (same_stack low_places ps f.old.last (drop 1 fs) f.old f.height places_same (omega arith) (omega arith) stacked.1);
        now = rw height (same_below low_places ps f.old.last f.height f.old places_same (omega arith) (omega arith) on.old);
        top = sym long;
        places_suffice = h.places_suffice;
        places_small = h.places_small;
        small = h.small;
      }

  pub marked_stands : AreLevels (marked ∷ drop 1 fs) low_bytes low_places f.old room most place_room
  marked_stands =
      let on = stacked.0 in
      let lower = on.lower in
      let rest = below_stands in
      let height : length low_bytes ≡ f.height = length-take-le f.height xs lower in
      record {
        stacked = (
          record { lower = omega arith; paid = omega arith; costs = omega arith; reads = tt; bare = (refl, sym height); old = rw (sym height) rest.now; above = omega arith; few = omega arith },
          rw (sym height) rest.stacked,
        );
        now = rest.now;
        top = rest.top;
        places_suffice = h.places_suffice;
        places_small = h.places_small;
        small = h.small;
      }

  -- what the newest level is, with the others
  whole : {K : Type 0} (ms : List K) (v : Levels K) → levels_of fs ms xs ps now room most ≡ v
      → closed (open_of xs ps f (mode_of f.has_mode ms) ∷ opens_of xs ps (drop 1 fs) (modes_after f.has_mode ms)) (levels_of fs ms xs ps now room most) ≡ closed v.levels v
  whole ms v view =
      ap (λ ls. closed ls (levels_of fs ms xs ps now room most)) (sym (ap (λ gs. opens_of xs ps gs ms) (cons_of fs f top)))
      ∙ ap (λ (w : Levels _). closed w.levels w) view

  -- with no mode to resume
  pub closed_is : {K : Type 0} (ms : List K) (v : Levels K) → levels_of fs ms xs ps now room most ≡ v → f.has_mode ≡ false → levels_of (drop 1 fs) ms low_bytes low_places f.old room most ≡ closed v.levels v
  closed_is ms v view none =
      below_is ms
      ∙ sym (ap (λ o. record { levels = marks o (arguments_of xs ps f.old) ++ opens_of xs ps (drop 1 fs) ms; arguments = arguments_of xs ps f.old; capacity = room; most = most }) (no_resume _ f.reads))
      ∙ sym (ap (λ has. record { levels = marks (resume_of f.reads (mode_of has ms)) (arguments_of xs ps f.old) ++ opens_of xs ps (drop 1 fs) (modes_after has ms); arguments = arguments_of xs ps f.old; capacity = room; most = most }) none)
      ∙ whole ms v view

  -- with one
  pub closed_marked : {K : Type 0} (ms : List K) (v : Levels K) → levels_of fs ms xs ps now room most ≡ v → f.has_mode ≡ true → HasEnd (next_item_of v.levels) → 0 < length ms → levels_of (marked ∷ drop 1 fs) ms low_bytes low_places f.old room most ≡ closed v.levels v
  closed_marked [] v view some end more = absurd (omega arith)
  closed_marked (m ∷ ms) v view some end more =
      let here = next_item_is fs (m ∷ ms) xs ps now room most v f f.reads view top refl ∙ ap (λ has. Some (next_item (source_of xs f.reads (mode_of has (m ∷ ms))))) some in
      marked_is m ms
      ∙ sym (ap (λ o. record { levels = marks o (arguments_of xs ps f.old) ++ opens_of xs ps (drop 1 fs) ms; arguments = arguments_of xs ps f.old; capacity = room; most = most }) (end_resumes xs f.reads m (subst HasEnd here end)))
      ∙ sym (ap (λ has. record { levels = marks (resume_of f.reads (mode_of has (m ∷ ms))) (arguments_of xs ps f.old) ++ opens_of xs ps (drop 1 fs) (modes_after has (m ∷ ms)); arguments = arguments_of xs ps f.old; capacity = room; most = most }) some)
      ∙ whole (m ∷ ms) v view

-- the modes of the frames below the newest, and of one whose end was taken
module _ {K : Type 0} (fs : List Frame) (ms : List K) (mode_room most : ℕ) (f : Frame) (top : slice_get fs 0 ≡ Some f) (h : AreModes fs ms mode_room most) where
  parted : AreModes (f ∷ drop 1 fs) ms mode_room most
  parted = subst (λ gs. AreModes gs ms mode_room most) (cons_of fs f top) h

  pub modes_below : f.has_mode ≡ false → AreModes (drop 1 fs) ms mode_room most
  modes_below none =
      let all : modes_in f.has_mode + mode_count (drop 1 fs) ≡ length ms = parted.each in
      let no : modes_in f.has_mode ≡ 0 = ap modes_in none in
      record { each = omega arith; marks = parted.marks.1; suffice = h.suffice }

  pub modes_marked : (g : Frame) → g.has_mode ≡ true → f.has_mode ≡ true → AreModes (g ∷ drop 1 fs) ms mode_room most
  modes_marked g has some =
      let all : modes_in f.has_mode + mode_count (drop 1 fs) ≡ length ms = parted.each in
      let same : modes_in g.has_mode ≡ modes_in f.has_mode = ap modes_in (has ∙ sym some) in
      record { each = omega arith; marks = (mark g.reads g.has_mode has, parted.marks.1); suffice = h.suffice }
    where
      mark : (r : Reads) (b : Bool) → b ≡ true → MarkHasMode r b
      mark (reads.Text id place) b is = tt
      mark (reads.Own s) b is = tt
      mark reads.Mark b is = is

  pub mode_there : f.has_mode ≡ true → 0 < length ms
  mode_there some =
      let all : modes_in f.has_mode + mode_count (drop 1 fs) ≡ length ms = parted.each in
      let one : modes_in f.has_mode ≡ 1 = ap modes_in some in
      omega arith

-- with no levels the arguments may be forgotten
pub forgotten : {K : Type 0} → (fs : List Frame) (ms : List K) (xs : List ℕ) (ps : List Span) (now : Span) (room most place_room : ℕ) (v : Levels K) → levels_of fs ms xs ps now room most ≡ v → v.levels ≡ [] → AreLevels fs xs ps now room most place_room
    → AreLevels fs xs ps (record { first = 0; last = 0 }) room most place_room
forgotten [] ms xs ps now room most place_room v view none h =
    let stacked = h.stacked in
    let zero_last = stacked.0 in
    let top = h.top in
    record {
      stacked = (refl, stacked.1);
      now = record { within = omega arith; below = tt };
      top = omega arith;
      places_suffice = h.places_suffice;
      places_small = h.places_small;
      small = h.small;
    }
forgotten (f ∷ fs) ms xs ps now room most place_room v view none h =
    let is = ap (λ (w : Levels _). w.levels) view ∙ none in let no : ⊥ = cc in absurd no
