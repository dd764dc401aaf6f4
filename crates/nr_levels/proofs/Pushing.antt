-- Lemmas on a level more.
use Rattle.std.proofs.Common.{◌≡◌, ℕ, Bool, zero, suc, ◌+◌, ◌*◌, ◌-◌, ◌<◌, ◌≤◌, List, [], ◌∷◌, ◌++◌, length, map, take, drop, get_or, sum, refl, ap, ap₂, sym, ◌∙◌, inl, inr, append_assoc, length-append, arith}
use Rattle.std.proofs.lemmas.List.{drop_at, take_all, take-append-le, get_or-map, get_or_past, length-take, length-drop, length-map, take-append-drop}
use Rattle.std.proofs.lemmas.List.Sums.{sum_by-cons}
use Rattle.std.proofs.lemmas.Bool.{cases_lt}
use Rattle.nr_vectors.specs.Items.{Items}
use Rattle.nr_levels.specs.Levels.{Levels, total, deeper, cut, argument}
use Rattle.nr_levels.specs.Frame.{part, arguments_of, source_of, resume_of, opens_of, mode_of, modes_after, levels_of, EndBy, AreBelow, ReadsBelow, IsBare, reader, AreLevels, MarkHasMode, modes_in, AreModes, spans_from, no_span}
use Rattle.nr_levels.specs.declared.frame.Span.{Span}
use Rattle.nr_levels.specs.declared.frame.Frame.{Frame}
use Rattle.nr_levels.specs.declared.frame.Reads.{Reads}
use Rattle.nr_levels.proofs.Stacked.{same_levels, same_arguments, same_stack, same_below, end_by_more, stacked_total, stacked_places, readers_deep, readers_total, length-opens_of, modes_deep}

-- items that are the same, with the same room
pub items_are : {T : Type 0} (v w : Items T) → v.items ≡ w.items → v.capacity ≡ w.capacity → v ≡ w
items_are v w items room = ap₂ (λ xs n. record { items = xs; capacity = n }) items room

-- there is room for what a level brings
pub record HasRoom (bytes : List ℕ) (places : List Span) (more room count most place_room : ℕ) : Type 0 where
  pub bytes_fit : length bytes + more ≤ room
  pub places_fit : length places + 9 ≤ place_room

pub has_room : {K : Type 0} → (fs : List Frame) (ms : List K) (xs : List ℕ) (ps : List Span) (now : Span) (room most place_room : ℕ) (v : Levels K) (more charge : ℕ) → AreLevels fs xs ps now room most place_room → levels_of fs ms xs ps now room most ≡ v
    → 16 + more ≤ charge → total v.levels + charge ≤ v.capacity → length v.levels < v.most → HasRoom xs ps more room (length fs) most place_room
has_room fs ms xs ps now room most place_room v more charge h view paid fits deep =
    let all = stacked_total xs ps ps fs ms now (length xs) h.stacked in
    let few = stacked_places ps fs now (length xs) h.stacked in
    let less = readers_deep fs in
    let read = readers_total xs ps ps fs ms now (length xs) h.stacked in
    let is : total (opens_of xs ps fs ms) ≡ total v.levels = ap (λ (w : Levels _). total w.levels) view in
    let same_room : room ≡ v.capacity = ap (λ (w : Levels _). w.capacity) view in
    let same_most : most ≡ v.most = ap (λ (w : Levels _). w.most) view in
    let long : length (opens_of xs ps fs ms) ≡ length v.levels = ap (λ (w : Levels _). length w.levels) view in
    let mapped = length-opens_of xs ps fs ms in
    let top = h.top in
    let suffice = h.places_suffice in
    record { bytes_fit = omega arith; places_fit = omega arith }

-- there are as many frames as levels
pub depth_is : {K : Type 0} → (fs : List Frame) (ms : List K) (xs : List ℕ) (ps : List Span) (now : Span) (room most : ℕ) (v : Levels K) → levels_of fs ms xs ps now room most ≡ v → length fs ≡ length v.levels
depth_is fs ms xs ps now room most v view = sym (length-opens_of xs ps fs ms) ∙ ap (λ (w : Levels _). length w.levels) view

-- there is room for its frame, and for its mode
pub more_frames : {K : Type 0} → (fs : List Frame) (ms : List K) (xs : List ℕ) (ps : List Span) (now : Span) (room most : ℕ) (v : Levels K) → levels_of fs ms xs ps now room most ≡ v → length v.levels < v.most → length fs < most
more_frames fs ms xs ps now room most v view deep =
    let same_most : most ≡ v.most = ap (λ (w : Levels _). w.most) view in
    let long : length (opens_of xs ps fs ms) ≡ length v.levels = ap (λ (w : Levels _). length w.levels) view in
    let each = length-opens_of xs ps fs ms in
    omega arith

pub more_modes : {K : Type 0} → (fs : List Frame) (ms : List K) (mode_room most : ℕ) → AreModes fs ms mode_room most → length fs < most → length ms < mode_room
more_modes fs ms mode_room most h deep =
    let each = h.each in
    let few = modes_deep fs in
    let suffice = h.suffice in
    omega arith

-- a level more, over rows that go on from the old ones
module _ (fs : List Frame) (xs ys : List ℕ) (ps qs : List Span) (now inforce : Span) (room most place_room : ℕ) (r : Reads) (charge : ℕ) (has : Bool)
    (h : AreLevels fs xs ps now room most place_room) (bytes : take (length xs) ys ≡ take (length xs) xs) (places : take (length ps) qs ≡ take (length ps) ps) (longer : length ps ≤ length qs) where
  abbrev pub pushed : Frame
  pushed = record { reads = r; old = now; charge = charge; height = length xs; has_mode = has }

  -- with these modes
  pub pushed_is : {K : Type 0} (ms : List K) → levels_of (pushed ∷ fs) ms ys qs inforce room most
      ≡ deeper (source_of ys r (mode_of has ms)) (arguments_of ys qs inforce) charge (resume_of r (mode_of has ms)) (levels_of fs (modes_after has ms) xs ps now room most)
  pushed_is ms =
      let top = h.top in
      ap₂ (λ ls os. record { levels = record { source = source_of ys r (mode_of has ms); old = os; charge = charge; resume = resume_of r (mode_of has ms) } ∷ ls; arguments = arguments_of ys qs inforce; capacity = room; most = most })
      (same_levels ys xs qs ps (length xs) (length ps) fs (modes_after has ms) now (length xs) bytes places (omega arith) (omega arith) h.stacked)
      (same_arguments ys xs qs ps (length xs) (length ps) now bytes places (omega arith) h.now)

  pub pushed_stands : length ys ≤ charge + length xs → length xs ≤ length ys → ReadsBelow (length ys) r → IsBare r now inforce (length xs) (length ys) → inforce.last ≡ length qs → AreBelow qs (length ys) inforce → length qs ≤ length ps + 9 * reader r → 16 * reader r ≤ charge
      → AreLevels (pushed ∷ fs) ys qs inforce room most place_room
  pushed_stands paid grown below bare last arguments few costs =
      let top = h.top in
      record {
        stacked = (
          record {
            lower = grown;
            paid = omega arith;
            costs = costs;
            reads = below;
            bare = bare;
            old = same_below qs ps (length ps) (length xs) now places (omega arith) longer h.now;
            above = omega arith;
            few = omega arith;
          },
          same_stack qs ps (length ps) fs now (length xs) places (omega arith) longer h.stacked,
        );
        now = arguments;
        top = last;
        places_suffice = h.places_suffice;
        places_small = h.places_small;
        small = h.small;
      }

-- the modes are those of the frames still, with one frame more
pub modes_more : {K : Type 0} → (r : Reads) (has : Bool) (old : Span) (charge height : ℕ) (fs : List Frame) (ms ns : List K) (mode_room most : ℕ) → MarkHasMode r has → length ns ≡ modes_in has + length ms → AreModes fs ms mode_room most
    → AreModes (record { reads = r; old = old; charge = charge; height = height; has_mode = has } ∷ fs) ns mode_room most
modes_more r has old charge height fs ms ns mode_room most mark longer h =
    let each = h.each in
    record { each = omega arith; marks = (mark, h.marks); suffice = h.suffice }

pub more_below : (ps : List Span) (h k : ℕ) (s : Span) → h ≤ k → AreBelow ps h s → AreBelow ps k s
more_below ps h k s le below = record { within = below.within; below = end_by_more h k (part ps s) le below.below }

pub same_start : {X : Type 0} (xs more : List X) → take (length xs) (xs ++ more) ≡ take (length xs) xs
same_start xs more = take-append-le (length xs) xs more (omega arith)

-- ---- new arguments

pub spans_end : (start : ℕ) (lens : List ℕ) (h : ℕ) → start + sum lens ≤ h → EndBy h (spans_from start lens)
spans_end start [] h le = tt
spans_end start (n ∷ ns) h le =
    let all = sum_by-cons (λ (x : ℕ). x) n ns in
    (omega arith, spans_end (start + n) ns h (omega arith))

pub length-spans_from : (start : ℕ) (lens : List ℕ) → length (spans_from start lens) ≡ length lens
length-spans_from start [] = refl
length-spans_from start (n ∷ ns) = ap suc (length-spans_from (start + n) ns)

part_after : (xs more : List ℕ) (n : ℕ) → n ≤ length more → drop (length xs) (take (length xs + n) (xs ++ more)) ≡ take n more
part_after [] more n le = ap (λ k. take k more) (omega arith)
part_after (x ∷ xs) more n le =
    let is : suc (length xs) + n ≡ suc (length xs + n) = omega arith in
    ap (λ k. drop (suc (length xs)) (take k (x ∷ (xs ++ more)))) is ∙ part_after xs more n le

pub spans_cut : (xs more : List ℕ) (start : ℕ) (lens : List ℕ) → start ≡ length xs → sum lens ≤ length more → map (part (xs ++ more)) (spans_from start lens) ≡ cut lens more
spans_cut xs more start [] at le = refl
spans_cut xs more start (n ∷ ns) at le =
    let all = sum_by-cons (λ (x : ℕ). x) n ns in
    let taken = length-take n more in
    let left = length-drop n more in
    let whole : xs ++ more ≡ (xs ++ take n more) ++ drop n more = sym (append_assoc xs (take n more) (drop n more) ∙ ap (λ zs. xs ++ zs) (take-append-drop n more)) in
    ap₂ (λ z zs. z ∷ zs)
    (ap (λ k. drop k (take (k + n) (xs ++ more))) at ∙ part_after xs more n (omega arith))
    (ap (λ zs. map (part zs) (spans_from (start + n) ns)) whole
    ∙ spans_cut (xs ++ take n more) (drop n more) (start + n) ns (omega (arith, length-append xs (take n more))) (omega arith))

pub part_new : {X : Type 0} (ps more : List X) (s : Span) → s.first ≡ length ps → s.last ≡ length (ps ++ more) → part (ps ++ more) s ≡ more
part_new ps more s first last =
    ap (drop s.first) (take_all s.last (ps ++ more) (omega arith)) ∙ drop_at ps more s.first (sym first)

-- ---- an argument

pub argument_is : (xs : List ℕ) (ps : List Span) (s : Span) (n : ℕ) → argument (arguments_of xs ps s) n ≡ part xs (get_or (part ps s) n no_span)
argument_is xs ps s n = elim (cases_lt n (length (part ps s))) [
  | inl below ↦ get_or-map (part xs) (part ps s) n no_span [] below
  | inr past ↦ get_or_past (map (part xs) (part ps s)) n [] (omega (arith, length-map (part ps s) (part xs))) ∙ ap (part xs) (sym (get_or_past (part ps s) n no_span past))
]

pub end_at : (h : ℕ) (ss : List Span) (n : ℕ) → EndBy h ss → (get_or ss n no_span).last ≤ h
end_at h [] n e = omega arith
end_at h (s ∷ ss) zero e = e.0
end_at h (s ∷ ss) (suc n) e = end_at h ss n e.1

pub length_part : (xs : List ℕ) (s : Span) → s.last ≤ length xs → length (part xs s) ≡ s.last - s.first
length_part xs s within = omega (arith, length-drop s.first (take s.last xs), length-take s.last xs)

-- the bytes after the others
pub part_last : (xs more : List ℕ) (s : Span) → s.first ≡ length xs → s.last ≡ length (xs ++ more) → part (xs ++ more) s ≡ more
part_last xs more s first last = part_new xs more s first last
