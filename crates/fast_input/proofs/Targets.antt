-- What is stored once bytes were added to an argument, or to a text that is being defined.
use Rattle.std.specs.Prelude.{map, slice_index}
use Rattle.std.proofs.Common.{◌≡◌, ℕ, suc, ◌+◌, ◌<◌, ◌≤◌, ◌==◌, true, List, [], ◌∷◌, ◌++◌, length, take, inl, inr, sum_by, refl, ap, sym, ◌∙◌, append_assoc, length-append, arith}
use Rattle.std.proofs.Math.Seq.{take-suc}
use Rattle.std.proofs.lemmas.Bool.{cases_Bool}
use Rattle.std.proofs.lemmas.List.{append-nil, length-map, length-take, map-append}
use Rattle.std.proofs.lemmas.List.Sums.{sum_by-cons}
use Rattle.nr_levels.specs.Gathering.{Gathered, gathered_len, with_bytes}
use Rattle.nr_levels.specs.Laws.{with_bytes-full, with_bytes-more, with_bytes-append}
use Rattle.nr_store.specs.Store.{Stored, Built, charge_of, weight, longer, on_newest}
use Rattle.nr_store.specs.declared.element.Element.{Element}
use Rattle.nr_store.specs.declared.element.Element.TheVariants as elements
use Rattle.nr_reading.specs.declared.event.Event.TheVariants as events
use Rattle.nr_reading.specs.declared.next_item.NextItem.TheVariants as next_items
use Rattle.nr_reading.specs.declared.half.Half.{Half}
use Rattle.nr_reading.specs.declared.mode.PendingAct.TheVariants as pending_acts
use Rattle.nr_reading.specs.Many.InArgument.{ending_of, IsPlain}
use Rattle.nr_reading.specs.Half.{take_in}
use Rattle.nr_reading.proofs.InArgument.{take_in-put, pending_act-is_in_argument}
use Rattle.nr_reading.proofs.InDefinition.{take_in-add, pending_act-is_in_definition}
use Rattle.fast_input.specs.declared.target.Target.{Target}
use Rattle.fast_input.specs.declared.target.Target.TheVariants.{Argument, Text}
use Rattle.nr_input.specs.Acting.{next}
use Rattle.fast_input.specs.Target.{is_read_for, pending_for, with_more}
use Rattle.nr_input.specs.Weights.{diversions_in}
use Rattle.fast_input.proofs.Putting.{Adds}
use Rattle.nr_input.proofs.Staying.{longer_count}

-- ---- what is read for it

-- nothing is pending
pub pending_act-is_read_for : (t : Target) (h : Half) → is_read_for t h ≡ true → h.reading.pending_act ≡ pending_acts.Look
pending_act-is_read_for Argument h is = pending_act-is_in_argument h is
pending_act-is_read_for Text h is = pending_act-is_in_definition h is

-- a plain byte is taken, is to be added, and nothing else changes
pub take_in-plain : (t : Target) (b : ℕ) (h : Half) → is_read_for t h ≡ true → IsPlain (ending_of h.reading.mode) b → take_in (next_items.Byte b) h ≡ record { half = next (pending_for t b) h; event = events.Nothing; takes = true }
take_in-plain Argument b h is plain = take_in-put b h is plain
take_in-plain Text b h is plain = take_in-add b h is plain

-- it is added where that is within the limit
pub adds_byte : {K : Type 0} (t : Target) (b : ℕ) (w : Stored K) → charge_of (with_more t (b ∷ []) w) ≤ w.limit → Adds (pending_for t b) w (with_more t (b ∷ []) w)
adds_byte Argument b w fits = record { waits = refl; acts = λ r. refl; answers = λ r. refl; fits = fits }
adds_byte Text b w fits = record { waits = refl; acts = λ r. refl; answers = λ r. refl; fits = fits }

-- ---- what stays as it was

pub levels-with_more : {K : Type 0} (t : Target) (bs : List ℕ) (v : Stored K) → (with_more t bs v).levels ≡ v.levels
levels-with_more Argument bs v = refl
levels-with_more Text bs v = refl

pub limit-with_more : {K : Type 0} (t : Target) (bs : List ℕ) (v : Stored K) → (with_more t bs v).limit ≡ v.limit
limit-with_more Argument bs v = refl
limit-with_more Text bs v = refl

pub diversions-with_more : {K : Type 0} (t : Target) (bs : List ℕ) (v : Stored K) → diversions_in (with_more t bs v).building ≡ diversions_in v.building
diversions-with_more Argument bs v = refl
diversions-with_more Text bs v = longer_count (map elements.Byte bs) v.building

-- ---- more bytes

-- no elements more
longer_none : (bs : List Built) → on_newest (longer []) bs ≡ bs
longer_none [] = refl
longer_none (b ∷ bs) = ap (λ (t : List Element). let c : Built = record b { text = t } in c ∷ bs) (append-nil b.text)

-- no bytes more
pub with_more-none : {K : Type 0} (t : Target) (v : Stored K) → with_more t [] v ≡ v
with_more-none Argument v = refl
with_more-none Text v = ap (λ (bs : List Built). let w : Stored _ = record v { building = bs } in w) (longer_none v.building)

-- none was added
pub nothing_added : {K : Type 0} (t : Target) (n : ℕ) (bytes : List ℕ) (v w : Stored K) → n ≡ 0 → w ≡ with_more t (take n bytes) v → w ≡ v
nothing_added t n bytes v w none is = is ∙ ap (λ k. with_more t (take k bytes) v) none ∙ with_more-none t v

-- elements after others
longer_longer : (xs ys : List Element) (bs : List Built) → on_newest (longer ys) (on_newest (longer xs) bs) ≡ on_newest (longer (xs ++ ys)) bs
longer_longer xs ys [] = refl
longer_longer xs ys (b ∷ bs) = ap (λ (t : List Element). let c : Built = record b { text = t } in c ∷ bs) (append_assoc b.text xs ys)

with_more-append : {K : Type 0} (t : Target) (bs : List ℕ) (b : ℕ) (v : Stored K) → with_more t (b ∷ []) (with_more t bs v) ≡ with_more t (bs ++ b ∷ []) v
with_more-append Argument bs b v = ap (λ (g : Gathered). record v { gathered = g }) (sym (with_bytes-append bs b v.gathered))
with_more-append Text bs b v =
    ap (λ (built : List Built). let w : Stored _ = record v { building = built } in w)
    (longer_longer (map elements.Byte bs) (elements.Byte b ∷ []) v.building ∙ ap (λ xs. on_newest (longer xs) v.building) (sym (map-append elements.Byte bs (b ∷ []))))

-- bytes after others
pub with_more-more : {K : Type 0} (xs ys : List ℕ) (v : Stored K) → with_more Text ys (with_more Text xs v) ≡ with_more Text (xs ++ ys) v
with_more-more xs ys v =
    ap (λ (built : List Built). let w : Stored _ = record v { building = built } in w)
    (longer_longer (map elements.Byte xs) (map elements.Byte ys) v.building ∙ ap (λ zs. on_newest (longer zs) v.building) (sym (map-append elements.Byte xs ys)))

-- one byte more
pub with_more-next : {K : Type 0} (t : Target) (k : ℕ) (bs : List ℕ) (v : Stored K) → k < length bs → with_more t (slice_index bs k ∷ []) (with_more t (take k bs) v) ≡ with_more t (take (suc k) bs) v
with_more-next t k bs v less = with_more-append t (take k bs) (slice_index bs k) v ∙ ap (λ xs. with_more t xs v) (sym (take-suc bs k 0 less))

-- ---- what it is charged

gathered_len-le : (xs ys : List ℕ) (g : Gathered) → length xs ≤ length ys → gathered_len (with_bytes xs g) ≤ gathered_len (with_bytes ys g)
gathered_len-le xs ys g fewer = elim (cases_Bool (length g.kept == 9)) [
  | inl full ↦ let x = ap gathered_len (with_bytes-full xs g full) in let y = ap gathered_len (with_bytes-full ys g full) in omega (arith, x, y)
  | inr more ↦
      let x = ap gathered_len (with_bytes-more xs g more) in
      let y = ap gathered_len (with_bytes-more ys g more) in
      omega (arith, x, y, fewer, length-append g.last xs, length-append g.last ys)
]

longer-le : (xs ys : List Element) (bs : List Built) → length xs ≤ length ys → sum_by (λ (b : Built). weight b.text) (on_newest (longer xs) bs) ≤ sum_by (λ (b : Built). weight b.text) (on_newest (longer ys) bs)
longer-le xs ys [] fewer = omega arith
longer-le xs ys (b ∷ bs) fewer =
    let cost = λ (d : Built). weight d.text in
    omega (arith, fewer, sum_by-cons cost (longer xs b) bs, sum_by-cons cost (longer ys b) bs, length-append b.text xs, length-append b.text ys)

-- elements more cost no more than as many
pub longer-bound : (xs : List Element) (bs : List Built) → sum_by (λ (b : Built). weight b.text) (on_newest (longer xs) bs) ≤ sum_by (λ (b : Built). weight b.text) bs + length xs
longer-bound xs [] = omega arith
longer-bound xs (b ∷ bs) =
    let cost = λ (d : Built). weight d.text in
    omega (arith, sum_by-cons cost (longer xs b) bs, sum_by-cons cost b bs, length-append b.text xs)

-- more bytes are charged no less
pub charge_of-le : {K : Type 0} (t : Target) (xs ys : List ℕ) (v : Stored K) → length xs ≤ length ys → charge_of (with_more t xs v) ≤ charge_of (with_more t ys v)
charge_of-le Argument xs ys v fewer = let less = gathered_len-le xs ys v.gathered fewer in omega (arith, less)
charge_of-le Text xs ys v fewer =
    let less = longer-le (map elements.Byte xs) (map elements.Byte ys) v.building (omega (arith, fewer, length-map xs elements.Byte, length-map ys elements.Byte)) in
    omega (arith, less)

-- where all can be stored, so can some
pub charge_of-some : {K : Type 0} (t : Target) (k n : ℕ) (bs : List ℕ) (v : Stored K) → k < n → n ≤ length bs → charge_of (with_more t (take n bs) v) ≤ v.limit
    → charge_of (with_more t (slice_index bs k ∷ []) (with_more t (take k bs) v)) ≤ v.limit
charge_of-some t k n bs v below within fits =
    let less = charge_of-le t (take (suc k) bs) (take n bs) v (omega (arith, below, within, length-take (suc k) bs, length-take n bs)) in
    let is = ap (λ (w : Stored _). charge_of w) (with_more-next t k bs v (omega (arith, below, within))) in
    omega (arith, is, less, fits)
