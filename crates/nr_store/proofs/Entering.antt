-- Lemmas on a level more that reads a text.
use Rattle.std.proofs.Common.{◌≡◌, ℕ, ◌+◌, ◌*◌, ◌<◌, ◌≤◌, List, ◌++◌, length, Option, Some, refl, ap, ap₂, ◌∙◌, inl, inr, arith}
use Rattle.std.proofs.lemmas.List.{length-set}
use Rattle.std.proofs.lemmas.List.Sums.{sum_by-cons}
use Rattle.std.proofs.lemmas.Bool.{cases_eq}
use Rattle.nr_pool.specs.Texts.{Texts, text, holders, IsOpen, with_holders}
use Rattle.nr_pool.specs.Laws.{text-with_holders, holders-with_holders_other}
use Rattle.nr_vectors.specs.Items.{Items}
use Rattle.nr_symbol_tables.specs.Table.{find}
use Rattle.nr_symbol_tables.specs.Rows.{SymbolTable}
use Rattle.nr_levels.specs.Levels.{Text, Levels, deeper}
use Rattle.nr_store.specs.Store.{Read, Shared, level_charge, text_charge, Stored, charge_of, share, shared_by, reading}
use Rattle.nr_store.specs.Holders.{Beside, draft_ids, stored_of, count, ids_of, values, held_ids, name_for, texts_in, IsStore}
use Rattle.nr_store.specs.declared.element.Element.{Element}
use Rattle.nr_store.specs.declared.element.Draft.{Draft}
use Rattle.nr_store.specs.declared.named.Sense.{Sense}
use Rattle.nr_store.specs.declared.named.Sense.TheVariants as senses
use Rattle.nr_store.specs.Senses.{text_id}
use Rattle.std.specs.Prelude.{nat_lt, if◌then◌else◌}
use Rattle.nr_store.proofs.Counting.{count-append, held_more}
use Rattle.nr_store.proofs.Keeping.{Keeps, same_view, share_paid, many_paid, charged_once}
use Rattle.nr_store.proofs.Sharing.{shared_is}
use Rattle.nr_store.proofs.Naming.{find_counts}
use Rattle.nr_store.proofs.Reading.{adds_level}

pub charge_of-reading : {K : Type 0} (xs : List Element) (arguments : List (List ℕ)) (charge : ℕ) (resume : Option K) (t : Shared) (v : Stored K) → text_charge t ≡ 0 → charge_of (reading xs arguments charge resume t v) ≡ charge_of v + charge
charge_of-reading xs arguments charge resume t v free =
    let all = sum_by-cons level_charge (Read (record { rest = xs; old = v.arguments; charge = charge; resume = resume })) v.levels in
    let texts = sum_by-cons text_charge t v.texts in
    omega arith

-- a text that someone holds
pub record IsThere (p : Texts Element) (charge id : ℕ) : Type 0 where
  pub is_open : IsOpen p id
  pub weighs : share (text p id) ≤ charge
  pub few : 16 * holders p id ≤ charge

module _ {K : Type 0} (p : Texts Element) (names : SymbolTable Sense) (drafts : Items Draft) (levels : Levels K) (beside : Beside) (charge limit id : ℕ) (h : IsStore p names drafts levels beside charge limit) where
  pub there : 0 < count id (held_ids names.entries (draft_ids drafts.items) levels.levels) → IsThere p charge id
  there some =
      let held = h.held.held id in
      let is_open : IsOpen p id = omega (arith, held, some) in
      record { is_open = is_open; weighs = share_paid p names drafts levels beside charge limit id h is_open; few = many_paid p names drafts levels beside charge limit id h }

  module _ (name : List ℕ) (named : find name names.entries ≡ Some (senses.Text id)) (arguments : List (List ℕ)) (cost : ℕ) (resume : Option K) (pays : 16 ≤ cost) where
    held : Texts Element
    held = with_holders p id (holders p id + 1)

    keeps_held : Keeps p held (held_ids names.entries (draft_ids drafts.items) levels.levels)
    unfolding held
    keeps_held = record { kept = λ k some. text-with_holders p id k (holders p id + 1) }

    pub entered_is : stored_of (with_holders p id (holders p id + 1)) names.entries drafts.items (deeper (Text id 0) arguments cost resume levels) beside limit ≡ reading (text p id) arguments cost resume (shared_by name (text p id) (texts_in p names.entries levels.levels)) (stored_of p names.entries drafts.items levels beside limit)
    unfolding held
    entered_is =
        ap₂ (λ v xs. reading xs arguments cost resume (record { name = name_for id names.entries; share = if nat_lt 0 (count id (ids_of levels.levels)) then 0 else share xs }) v) (same_view p held names.entries drafts.items levels beside limit keeps_held)
        (text-with_holders p id id (holders p id + 1))
        ∙ ap (λ t. reading (text p id) arguments cost resume t (stored_of p names.entries drafts.items levels beside limit)) (shared_is p name id names.entries h.named named levels.levels)

    pub entered_stands : charge + cost ≤ limit → length levels.levels < levels.most → IsStore (with_holders p id (holders p id + 1)) names drafts (deeper (Text id 0) arguments cost resume levels) beside (charge + cost) limit
    unfolding held
    entered_stands room deeper_room =
        let counted = find_counts name id names.entries (ap text_id named) in
        let in_names = count-append id (values names.entries) (draft_ids drafts.items ++ ids_of levels.levels) in
        let in_building = count-append id (draft_ids drafts.items) (ids_of levels.levels) in
        let here = h.held.held id in
        let held_now = held_more p id (held_ids names.entries (draft_ids drafts.items) levels.levels) (held_ids names.entries (draft_ids drafts.items) (deeper (Text id 0) arguments cost resume levels).levels) h.held (omega arith)
        (adds_level id names.entries (draft_ids drafts.items) (record { source = Text id 0; old = levels.arguments; charge = cost; resume = resume }) levels.levels refl) in
        let alone : (k : ℕ) → 0 < count k (draft_ids drafts.items) → holders held k ≡ 1 = λ k some. elim (cases_eq k id) [
          | inl same ↦
              let one = h.alone k some in
              let is : holders p k ≡ holders p id = ap (holders p) same in
              let same_count : count k (draft_ids drafts.items) ≡ count id (draft_ids drafts.items) = ap (λ j. count j (draft_ids drafts.items)) same in
              absurd (omega arith)
          | inr apart ↦ holders-with_holders_other p id k (holders p id + 1) apart ∙ h.alone k some
        ] in
        let charged : charge + cost ≡ charge_of (stored_of held names.entries drafts.items (deeper (Text id 0) arguments cost resume levels) beside limit) =
        let was = h.charged in
        let more = charge_of-reading (text p id) arguments cost resume (shared_by name (text p id) (texts_in p names.entries levels.levels)) (stored_of p names.entries drafts.items levels beside limit) refl in
        let is = ap charge_of entered_is in
        omega arith in
        record {
          held = held_now;
          alone = alone;
          few_acts = h.few_acts;
          pays = (pays, h.pays);
          named = h.named;
          charged = charged;
          once = charged_once held names.entries drafts.items (deeper (Text id 0) arguments cost resume levels) beside (charge + cost) limit held_now alone (pays, h.pays) h.named charged;
          within = room;
          deep = omega arith;
          small = h.small;
          elements_suffice = h.elements_suffice;
          slots_suffice = let slots = h.slots_suffice in let same = length-set p.texts id (record { elements = text p id; holders = holders p id + 1 }) in omega arith;
          names_suffice = h.names_suffice;
          drafts_suffice = h.drafts_suffice;
          bytes_suffice = h.bytes_suffice;
          beside_suffices = h.beside_suffices;
        }
