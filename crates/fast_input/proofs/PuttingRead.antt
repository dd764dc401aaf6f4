-- Bytes of the source that are added one by one to what is stored, as those who read them say it.
use Prim.Native.Char.{code}
use Rattle.std.specs.Prelude.{map, slice_index, not}
use Rattle.std.specs.Option.{option_map}
use Rattle.std.proofs.Common.{◌≡◌, ℕ, suc, ◌+◌, ◌*◌, ◌<◌, ◌≤◌, ◌==◌, true, List, [], ◌∷◌, length, take, All, Option, refl, ap, sym, ◌∙◌, zero, subst, arith}
use Rattle.std.proofs.lemmas.List.{length-map, length-take, get_or-take}
use Rattle.std.proofs.lemmas.List.Elements.{All-get_or}
use Rattle.std.proofs.lemmas.Option.{slice_get-map, slice_get-get_or}
use Rattle.nr_units.specs.Source.{Supply}
use Rattle.nr_store.specs.Store.{Stored, charge_of}
use Rattle.nr_reading.specs.declared.event.Event.TheVariants as events
use Rattle.nr_reading.specs.declared.next_item.NextItem.TheVariants as next_items
use Rattle.nr_reading.specs.declared.mode.PendingAct.{PendingAct}
use Rattle.nr_reading.specs.Many.InArgument.{ending_of, IsPlain}
use Rattle.nr_reading.specs.Many.Runs.{Spot}
use Rattle.nr_input.specs.declared.reader.Reader.{Reader}
use Rattle.fast_input.specs.declared.target.Target.{Target}
use Rattle.fast_input.specs.AtHand.{ComeNext}
use Rattle.nr_input.specs.Place.{Coming, Reached, HoldsComing, passed_run}
use Rattle.nr_input.specs.Moving.{Situation, Stands, situation, burst_past}
use Rattle.fast_input.specs.Runs.{HasRead, PaysAll, after_run}
use Rattle.fast_input.specs.Target.{is_read_for, pending_for, with_more}
use Rattle.nr_input.specs.Weights.{items_left, expansions_worth, diversions_in}
use Rattle.fast_input.proofs.StretchMoves.{at_source, source_goings}
use Rattle.fast_input.proofs.StretchesRead.{begins_there, burst_some, some_taken, newline_left-le, worth_more, pays_each}
use Rattle.fast_input.proofs.Putting.{has_read_quietly, Adds, goes_put, move-put, twice, twice-is, spot_at, Puttings, all_put}
use Rattle.fast_input.proofs.Targets.{pending_act-is_read_for, take_in-plain, adds_byte, levels-with_more, limit-with_more, diversions-with_more, with_more-none, with_more-next, charge_of-some}

-- each of the first n bytes stands for itself
pub plain_at : (n k ending : ℕ) (bs : List ℕ) → k < n → n ≤ length bs → All (IsPlain ending) (take n bs) → IsPlain ending (slice_index bs k)
plain_at n k ending bs below within plain =
    subst (IsPlain ending) (get_or-take n bs k 0 below) (All-get_or (IsPlain ending) (take n bs) k 0 (omega (arith, below, within, length-take n bs)) plain)

-- ---- bytes of the source

module _ {K : Type 0} (t : Target) (n : ℕ) (v w : Stored K) (c : Coming) (r : Reader) (bs : List ℕ) (none : v.levels ≡ []) (next_come : ComeNext bs c) (reads : is_read_for t r.half ≡ true)
    (within : n ≤ length bs) (plain : All (IsPlain (ending_of r.half.reading.mode)) (take n bs)) (is : w ≡ with_more t (take n bs) v) (fits : charge_of w ≤ w.limit) where
  -- so many were added
  abbrev stored : ℕ → Stored K
  stored k = with_more t (take k bs) v

  no_levels : (k : ℕ) → (stored k).levels ≡ []
  no_levels k = levels-with_more t (take k bs) v ∙ none

  abbrev pending_act : ℕ → PendingAct
  pending_act k = pending_for t (slice_index bs k)

  one_fits : (k : ℕ) → k < n → charge_of (with_more t (slice_index bs k ∷ []) (stored k)) ≤ (stored k).limit
  one_fits k below =
      let all_fit : charge_of (stored n) ≤ (stored n).limit = subst (λ (x : Stored K). charge_of x ≤ x.limit) is fits in
      omega (arith, charge_of-some t k n bs v below within (omega (arith, all_fit, limit-with_more t (take n bs) v)), limit-with_more t (take k bs) v)

  adds : (k : ℕ) → k < n → Adds (pending_act k) (stored k) (stored (suc k))
  adds k below = subst (λ (x : Stored K). Adds (pending_act k) (stored k) x) (with_more-next t k bs v (omega (arith, below, within))) (adds_byte t (slice_index bs k) (stored k) (one_fits k below))

  abbrev at : ℕ → Spot → Situation K
  at k p = at_source (stored k) c r p

  -- after so many bytes
  abbrev reader_after : ℕ → Reader
  reader_after k = record r { burst = burst_past c.taken (c.taken + k) r.burst }

  puttings : Puttings n (map next_items.Byte bs) (λ k. slice_index bs k) pending_act r.half at
  puttings = record {
    goings = λ k below. source_goings (stored k) c r bs (no_levels k) next_come;
    next_items = λ k below. slice_get-map next_items.Byte bs k ∙ ap (option_map next_items.Byte) (slice_get-get_or bs k 0 (omega (arith, below, within)));
    takes_in = λ k below. take_in-plain t (slice_index bs k) r.half reads (plain_at n k (ending_of r.half.reading.mode) bs below within plain);
    goes = λ k below. goes_put (pending_act k) (stored k) (stored (suc k)) (after_run (suc k) c) (reader_after (suc k)) (adds k below);
    puts = λ k below. move-put (pending_act k) (stored k) (stored (suc k)) (after_run (suc k) c) (reader_after (suc k)) (adds k below) (pending_act-is_read_for t r.half reads);
  }

  pub source_added : (q : Reached) (supply : Option Supply) → 0 < n → HoldsComing (after_run n c) q supply → HasRead (2 * n) (situation v c r) events.Nothing w (record r { burst = 0 }) q supply
  source_added q supply some holds =
      let many = some_taken n (λ e. omega (arith, e, some)) in
      let stands : Stands (at n (spot_at n r.half)) w (record r { burst = 0 }) q supply = record {
        stored = is;
        reader = sym (ap reader_after many.1 ∙ ap (λ (j : ℕ). record r { burst = j }) (burst_some c.taken many.0 r.burst));
        coming = holds;
      } in
      let all = all_put n (map next_items.Byte bs) (λ j. slice_index bs j) pending_act r.half at (pending_act-is_read_for t r.half reads) (omega (arith, within, length-map bs next_items.Byte)) puttings n (omega arith) in
      let begins : at 0 (spot_at 0 r.half) ≡ situation v c r = begins_there (stored 0) c r bs (no_levels 0) next_come ∙ ap (λ (x : Stored K). situation x c r) (with_more-none t v) in
      subst (λ m. HasRead m (situation v c r) events.Nothing w (record r { burst = 0 }) q supply) (twice-is n)
      (subst (λ s. HasRead (twice n) s events.Nothing w (record r { burst = 0 }) q supply) begins (has_read_quietly (twice n) _ _ _ _ q supply all stands))

-- each byte pays for its two moves
some_pays : {K : Type 0} (n last : ℕ) (v w : Stored K) (q : Reached) (r : Reader) → 0 < n → w.levels ≡ v.levels → w.limit ≡ v.limit → diversions_in w.building ≡ diversions_in v.building
    → PaysAll (2 * n) v q r events.Nothing w (passed_run last n q) (record r { burst = 0 })
some_pays zero last v w q r some levels limit diversions = absurd (omega (arith, some))
some_pays (suc k) last v w q r some levels limit diversions = record {
  limit = limit;
  diversions = diversions;
  most = refl;
  pays = λ worth enough.
      let items = ap items_left levels in
      let worths = ap (λ n. expansions_worth r.most 0 n) limit in
      omega (arith, enough, items, worths, worth_more worth q.taken k, pays_each worth k (omega (arith, enough)), newline_left-le (not (last == code "\n")));
  tells = refl;
}

pub source_added_pays : {K : Type 0} (t : Target) (n last : ℕ) (bytes : List ℕ) (v w : Stored K) (q p : Reached) (r : Reader) → 0 < n → w ≡ with_more t bytes v → p ≡ passed_run last n q
    → PaysAll (2 * n) v q r events.Nothing w p (record r { burst = 0 })
source_added_pays t n last bytes v w q p r some added is =
    subst (λ x. PaysAll (2 * n) v q r events.Nothing w x (record r { burst = 0 })) (sym is) (some_pays n last v w q r some
    (ap (λ (x : Stored _). x.levels) added ∙ levels-with_more t bytes v) (ap (λ (x : Stored _). x.limit) added ∙ limit-with_more t bytes v)
    (ap (λ (x : Stored _). diversions_in x.building) added ∙ diversions-with_more t bytes v))
