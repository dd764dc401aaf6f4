-- What is emitted of an item that is taken, with the mode beside it.
use Rattle.std.specs.Prelude.{if◌then◌else◌}
use Rattle.std.proofs.Common.{◌≡◌, ℕ, true, Option, refl, ap, ap₂, sym, ◌∙◌, subst}
use Rattle.nr_units.specs.Source.{Supply}
use Rattle.nr_store.specs.Store.{Stored, shown, left}
use Rattle.nr_store.specs.Sights.{shown_with}
use Rattle.nr_store.specs.declared.shown.Sight.{Sight}
use Rattle.nr_store.specs.declared.shown.Sight.TheVariants as sights
use Rattle.nr_reading.specs.Half.{TakenIn, take_in}
use Rattle.nr_reading.specs.declared.event.Event.{Event}
use Rattle.nr_reading.specs.declared.next_item.NextItem.{NextItem}
use Rattle.nr_reading.specs.declared.half.Half.{Half}
use Rattle.nr_input.specs.declared.reader.Reader.{Reader}
use Rattle.nr_input.specs.declared.emitted.Emitted.{Emitted}
use Rattle.nr_input.specs.Acting.{is_look}
use Rattle.nr_input.specs.Place.{Coming, Reached, HoldsComing, MayLook, next_item, afterwards}
use Rattle.nr_input.specs.Moving.{Situation, situation, Move, emitted_of, taken_at, taken_in_at, look, acted_at, move, burst_past, burst_after, Stands, Goes, GoesBy}
use Rattle.nr_input.specs.Emitted.{heard_of, emitted_as}

pub heard_is : {K : Type 0} → (s : Sight) (mode : K) (e : Event) → emitted_as mode (heard_of s e) ≡ emitted_of (shown_with s mode) e
heard_is (sights.Item x) mode e = refl
heard_is sights.End mode e = refl
heard_is sights.Resume mode e = refl
heard_is sights.Nothing mode e = refl

-- ---- where an item leads that is taken

module _ {K : Type 0} (v : Stored K) (r : Reader) (c : Coming) (k : Half) (e : Event) where
  abbrev at : Situation K
  at = situation v c r

  abbrev seen : TakenIn
  seen = record { half = k; event = e; takes = true }

  moved_is : is_look r.half.reading.pending_act ≡ true → seen ≡ take_in (next_item (shown v.levels) c) r.half → move at ≡ taken_at seen at
  moved_is looks takes_in = ap (λ b. if b then look at else acted_at at) looks ∙ ap (λ m. taken_in_at m at) (sym takes_in)

  -- the reader after it, and the situation
  pub taken_moves : (q n : Reached) (f : NextItem) (w : Stored K) (t : Emitted K) (burst : ℕ) (before supply : Option Supply) → is_look r.half.reading.pending_act ≡ true
      → f ≡ next_item (shown v.levels) c → HoldsComing c q before → MayLook (shown v.levels) c → seen ≡ take_in f r.half
      → w ≡ left v.levels v → HoldsComing (afterwards (shown v.levels) c) n supply → burst ≡ burst_past q.taken n.taken r.burst → t ≡ emitted_of (shown v.levels) e
      → (t ≡ (move at).emitted) × Stands (move at).situation w (record r { half = k; burst = burst }) n supply × Goes at
  taken_moves q n f w t burst before supply looks is holds may takes_in store coming burst_is emitted =
      let there = moved_is looks (takes_in ∙ ap (λ g. take_in g r.half) is) in
      let burst_at : burst ≡ burst_after c (afterwards (shown v.levels) c) r.burst = burst_is ∙ ap₂ (λ a b. burst_past a b r.burst) holds.taken coming.taken in
      let stands : Stands (taken_at seen at).situation w (record r { half = k; burst = burst }) n supply = record {
        stored = store;
        reader = ap (λ b. record r { half = k; burst = b }) burst_at;
        coming = coming;
      } in (
        emitted ∙ ap (λ (m : Move K). m.emitted) (sym there),
        subst (λ (m : Move K). Stands m.situation w (record r { half = k; burst = burst }) n supply) (sym there) stands,
        subst (λ b. GoesBy b at) (sym looks) may,
      )
