-- Bytes of a text line that come one after another, with what is spliced between them.
use Rattle.std.specs.Prelude.{slice_get, slice_index}
use Rattle.std.proofs.Common.{◌≡◌, ℕ, zero, suc, ◌+◌, ◌<◌, ◌≤◌, Bool, true, false, List, [], ◌∷◌, ◌++◌, length, drop, None, Some, refl, ap, sym, ◌∙◌, subst, arith}
use Rattle.std.proofs.lemmas.List.{append_assoc, append-nil}
use Rattle.nr_store.specs.Store.{Stored, Level, Read, Reading, Mark, left, left_of, shown, shown_of}
use Rattle.nr_store.specs.Windows.{rest_of, left_times}
use Rattle.nr_store.specs.declared.element.Element.{Element}
use Rattle.nr_store.specs.declared.element.Element.TheVariants as elements
use Rattle.nr_store.specs.declared.shown.Shown.TheVariants as shows
use Rattle.nr_reading.specs.declared.event.Event.TheVariants as events
use Rattle.nr_input.specs.declared.reader.Reader.{Reader}
use Rattle.fast_input.specs.Gathering.{LeadsInText, Brings, Leaves}
use Rattle.nr_input.specs.Moving.{situation}
use Rattle.fast_input.specs.Runs.{PaysAll}
use Rattle.fast_input.proofs.ControlLines.{pays_then}
use Rattle.fast_input.proofs.Interpolated.{pays_nothing, read_then}
use Rattle.fast_input.proofs.LevelStretches.{rest-left_times}
use Rattle.fast_input.proofs.StretchMoves.{reads_nothing}

-- ---- moves that tell nothing

-- none
pub stays_there : {K : Type 0} (v : Stored K) (r : Reader) → LeadsInText 0 v r v r
stays_there v r = record {
  reads = λ c p supply holds. reads_nothing (situation v c r) v r p supply (record { stored = refl; reader = refl; coming = holds });
  pays = λ p. pays_nothing v p r;
  stored = refl;
  reader = refl;
  charge = λ fits. fits;
  depth = λ fits. fits;
}

-- and then more of them
pub leads_add : {K : Type 0} (m n : ℕ) (v w x : Stored K) (r q s : Reader) → LeadsInText m v r w q → LeadsInText n w q x s → LeadsInText (m + n) v r x s
leads_add m n v w x r q s first second =
    let same : n + m ≡ m + n = omega arith in
    record {
      reads = λ c p supply holds. read_then n m (situation v c r) events.Nothing w x q s p p supply supply (first.reads c p supply holds) (λ d here. second.reads d p supply here);
      pays = λ p. subst (λ k. PaysAll k v p r events.Nothing x p s) same (pays_then n m v w x p p p r q s events.Nothing (first.pays p) (second.pays p));
      stored = second.stored ∙ ap (λ (y : Stored _). record y { levels = x.levels; texts = x.texts; arguments = x.arguments }) first.stored;
      reader = second.reader ∙ ap (λ (y : Reader). record y { half = record y.half { notes = record y.half.notes { asked = s.half.notes.asked } }; burst = s.burst }) first.reader;
      charge = λ fits. second.charge (first.charge fits);
      depth = λ fits. second.depth (first.depth fits);
    }

-- ---- bytes

-- a byte more
brings_more : {K : Type 0} (n k b : ℕ) (bs : List ℕ) (v w x : Stored K) (r q s : Reader) → Brings n bs v r w q → LeadsInText k w q x s → shown x.levels ≡ shows.Item (elements.Byte b)
    → Brings (n + k) (bs ++ b ∷ []) v r (left x.levels x) s
brings_more {K} n k b [] v w x r q s brings leads is =
    let count : n + k ≡ k + 0 = let none = brings.0 in omega (arith, none) in
    let there : LeadsInText k v r x s = subst (λ (y : Stored K). LeadsInText k y r x s) brings.1 (subst (λ (y : Reader). LeadsInText k w y x s) brings.2 leads) in
    (k, 0, x, s, count, there, is, (refl, refl, refl))
brings_more n k b (c ∷ cs) v w x r q s (i, m, u, t, count, first, shows, rest) leads is =
    let counted : n + k ≡ i + (m + k) = omega (arith, count) in (i, m + k, u, t, counted, first, shows, brings_more m k b cs (left u.levels u) w x t q s rest leads is)

-- no byte
pub leaves_nothing : {K : Type 0} (goes : Bool) (v : Stored K) (r : Reader) → Leaves goes 0 [] v r v r
leaves_nothing goes v r = record {
  before = 0;
  afterwards = 0;
  there = v;
  reader = r;
  counted = refl;
  brings = (refl, refl, refl);
  leads = stays_there v r;
  stays = λ stops. (refl, refl, refl);
}

-- where nothing was taken after the last of them, it is so too where it goes on there
pub leaves_goes : {K : Type 0} (goes : Bool) (n : ℕ) (bs : List ℕ) (v w : Stored K) (r q : Reader) → Leaves false n bs v r w q → Leaves goes n bs v r w q
leaves_goes goes n bs v w r q leaves = record {
  before = leaves.before;
  afterwards = leaves.afterwards;
  there = leaves.there;
  reader = leaves.reader;
  counted = leaves.counted;
  brings = leaves.brings;
  leads = leaves.leads;
  stays = λ stops. leaves.stays refl;
}

-- and then moves that tell nothing
pub leaves_on : {K : Type 0} (m n : ℕ) (bs : List ℕ) (v w x : Stored K) (r q s : Reader) → Leaves true m bs v r w q → LeadsInText n w q x s → Leaves true (m + n) bs v r x s
leaves_on m n bs v w x r q s leaves leads = record {
  before = leaves.before;
  afterwards = leaves.afterwards + n;
  there = leaves.there;
  reader = leaves.reader;
  counted = let count = leaves.counted in omega (arith, count);
  brings = leaves.brings;
  leads = leads_add leaves.afterwards n leaves.there w x leaves.reader q s leaves.leads leads;
  stays = λ wrong. cc;
}

-- and then a byte
leaves_byte : {K : Type 0} (m b : ℕ) (bs : List ℕ) (v w : Stored K) (r q : Reader) → Leaves true m bs v r w q → shown w.levels ≡ shows.Item (elements.Byte b) → Leaves false m (bs ++ b ∷ []) v r (left w.levels w) q
leaves_byte m b bs v w r q leaves is = record {
  before = leaves.before + leaves.afterwards;
  afterwards = 0;
  there = left w.levels w;
  reader = q;
  counted = let count = leaves.counted in omega (arith, count);
  brings = brings_more leaves.before leaves.afterwards b bs v leaves.there w r leaves.reader q leaves.brings leaves.leads is;
  leads = stays_there (left w.levels w) q;
  stays = λ stops. (refl, refl, refl);
}

-- ---- bytes of the newest level

-- what stands after some
pub slice_get-drop : {X : Type 0} (m n : ℕ) (xs : List X) → slice_get (drop m xs) n ≡ slice_get xs (m + n)
slice_get-drop zero n xs = let same : n ≡ 0 + n = omega arith in ap (slice_get xs) same
slice_get-drop (suc m) n [] = refl
slice_get-drop (suc m) n (x ∷ xs) = let same : suc (m + n) ≡ suc m + n = omega arith in slice_get-drop m n xs ∙ ap (slice_get (x ∷ xs)) same

-- the newest level begins with a byte
record BeginsWith {K : Type 0} (b : ℕ) (levels : List (Level K)) (v : Stored K) : Type 0 where
  shows : shown levels ≡ shows.Item (elements.Byte b)
  goes : (n : ℕ) → slice_get (rest_of (left levels v).levels) n ≡ slice_get (rest_of levels) (suc n)

begins_text : {K : Type 0} (b : ℕ) (xs : List Element) (l : Reading K) (ls : List (Level K)) (v : Stored K) → slice_get xs 0 ≡ Some (elements.Byte b)
    → (shown_of {K = K} xs ≡ shows.Item (elements.Byte b)) × ((n : ℕ) → slice_get (rest_of (left_of xs l ls v).levels) n ≡ slice_get xs (suc n))
begins_text b [] l ls v is = absurd (let wrong : None ≡ Some (elements.Byte b) = is in cc)
begins_text b (x ∷ xs) l ls v is = let first : Some x ≡ Some (elements.Byte b) = is in (let same : x ≡ elements.Byte b = cc in ap shows.Item same, λ n. refl)

begins_with : {K : Type 0} (b : ℕ) (levels : List (Level K)) (v : Stored K) → slice_get (rest_of levels) 0 ≡ Some (elements.Byte b) → BeginsWith b levels v
begins_with b [] v is = absurd (let wrong : None ≡ Some (elements.Byte b) = is in cc)
begins_with b (Mark mode ∷ ls) v is = absurd (let wrong : None ≡ Some (elements.Byte b) = is in cc)
begins_with b (Read l ∷ ls) v is = let text = begins_text b l.rest l ls v is in record { shows = text.0; goes = text.1 }

-- the same, after so many of its items
pub shown_after : {K : Type 0} (n b : ℕ) (v : Stored K) → n ≤ length (rest_of v.levels) → slice_get (rest_of v.levels) n ≡ Some (elements.Byte b) → shown (left_times n v).levels ≡ shows.Item (elements.Byte b)
shown_after n b v within is =
    let same : n + 0 ≡ n = omega arith in
    let first = ap (λ (xs : List Element). slice_get xs 0) (rest-left_times n v within) ∙ slice_get-drop n 0 (rest_of v.levels) ∙ ap (slice_get (rest_of v.levels)) same ∙ is in
    (begins_with b (left_times n v).levels v first).shows

-- bytes that the newest level begins with
abbrev pub AreNext : {K : Type 0} → List ℕ → List (Level K) → Type 0
AreNext bs levels = (n : ℕ) → n < length bs → slice_get (rest_of levels) n ≡ Some (elements.Byte (slice_index bs n))

-- they come, and nothing after the last of them
pub leaves_next : {K : Type 0} (m b : ℕ) (cs bs : List ℕ) (v w : Stored K) (r q : Reader) → Leaves true m bs v r w q → AreNext (b ∷ cs) w.levels → Leaves false m (bs ++ b ∷ cs) v r (left_times (suc (length cs)) w) q
leaves_next m b [] bs v w r q leaves next = leaves_byte m b bs v w r q leaves (begins_with b w.levels w (next 0 (omega arith))).shows
leaves_next {K} m b (c ∷ cs) bs v w r q leaves next =
    let first = begins_with b w.levels w (next 0 (omega arith)) in
    let more = leaves_next m c cs (bs ++ b ∷ []) v (left w.levels w) r q (leaves_goes true m (bs ++ b ∷ []) v (left w.levels w) r q (leaves_byte m b bs v w r q leaves first.shows))
    (λ n less. first.goes n ∙ next (suc n) (omega (arith, less))) in
    subst (λ ys. Leaves false m ys v r (left_times (suc (suc (length cs))) w) q) (append_assoc bs (b ∷ []) (c ∷ cs)) more

-- the same, where there may be none
pub leaves_all : {K : Type 0} (m : ℕ) (cs bs : List ℕ) (v w : Stored K) (r q : Reader) → Leaves true m bs v r w q → AreNext cs w.levels → Leaves true m (bs ++ cs) v r (left_times (length cs) w) q
leaves_all m [] bs v w r q leaves next = subst (λ ys. Leaves true m ys v r w q) (sym (append-nil bs)) leaves
leaves_all m (c ∷ cs) bs v w r q leaves next = leaves_goes true m (bs ++ c ∷ cs) v (left_times (suc (length cs)) w) r q (leaves_next m c cs bs v w r q leaves next)

-- the same, where there are some, and nothing after the last of them
pub leaves_some : {K : Type 0} (m : ℕ) (cs bs : List ℕ) (v w : Stored K) (r q : Reader) → 0 < length cs → Leaves true m bs v r w q → AreNext cs w.levels → Leaves false m (bs ++ cs) v r (left_times (length cs) w) q
leaves_some m [] bs v w r q some leaves next = absurd (omega (arith, some))
leaves_some m (c ∷ cs) bs v w r q some leaves next = leaves_next m c cs bs v w r q leaves next

-- bytes of the newest level alone
pub leaves_level : {K : Type 0} (cs : List ℕ) (v : Stored K) (r : Reader) → AreNext cs v.levels → Leaves false 0 cs v r (left_times (length cs) v) r
leaves_level [] v r next = leaves_nothing false v r
leaves_level (c ∷ cs) v r next = leaves_next 0 c cs [] v v r r (leaves_nothing true v r) next
