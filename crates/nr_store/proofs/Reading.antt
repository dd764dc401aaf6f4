-- Lemmas on the newest level.
use Rattle.std.proofs.Common.{◌≡◌, ℕ, ◌+◌, ◌-◌, ◌<◌, ◌≤◌, List, [], ◌∷◌, ◌++◌, length, map, drop, sum_by, Option, Some, None, refl, ap, ap₂, sym, ◌∙◌, subst, inl, inr, arith}
use Rattle.std.specs.List.{slice_get}
use Rattle.std.proofs.lemmas.List.{drop_more, drop_all}
use Rattle.std.proofs.lemmas.List.Sums.{sum_by-cons}
use Rattle.std.specs.Prelude.{nat_lt, if◌then◌else◌}
use Rattle.std.proofs.lemmas.Bool.{cases_lt, ne_eqb, eq-eqb, cond-true, cond-false}
use Rattle.std.proofs.lemmas.Option.{slice_get_within, get_or_from_slice_get}
use Rattle.nr_vectors.specs.Items.{Items}
use Rattle.nr_pool.specs.Texts.{Texts, text, holders, IsOpen, released}
use Rattle.nr_symbol_tables.specs.Table.{Named}
use Rattle.nr_symbol_tables.specs.Rows.{SymbolTable}
use Rattle.nr_levels.specs.Levels.{Source, Text, Own, Mark as Marked, Open, Levels, next_item, next_item_of, afterwards, advanced, marks, closed, charge_of_newest}
use Rattle.nr_levels.specs.declared.frame.NextItem.TheVariants as next_items
use Rattle.nr_store.specs.declared.named.Sense.{Sense}
use Rattle.nr_store.specs.declared.element.Element.{Element}
use Rattle.nr_store.specs.declared.element.Draft.{Draft}
use Rattle.nr_store.specs.declared.shown.Shown.TheVariants as shows
use Rattle.nr_store.specs.Store.{Level, Read, Mark, level_charge, Stored, charge_of, share, shown, shown_in, shown_of, mark_of, left, left_in, left_of, dropped, dropped_in}
use Rattle.nr_store.specs.Holders.{Beside, level_in, level_of, stored_of, count, ids_of, ids_of_source, values, draft_ids, held_ids, text_in, texts_in, IsHeld, AllPay, IsStore, lone}
use Rattle.nr_store.proofs.Counting.{AddsOne, one_same, count-cons, count-append, held_less, open_of_adds, text_kept, released_capacity, released_slots}
use Rattle.nr_store.proofs.Keeping.{Keeps, same_view, charged_once}
use Rattle.nr_store.proofs.Sharing.{texts_charge, source_charge, charged_level, named_free, unnamed_pays, again_free, first_pays}

-- the newest level reads this
pub record Newest {K : Type 0} (levels : List (Open K)) (s : Source K) : Type 0 where
  pub level : Open K
  pub first : levels ≡ level ∷ drop 1 levels
  pub reads : level.source ≡ s

source_text : {K : Type 0} (s : Source K) (id place : ℕ) → next_item s ≡ next_items.Text id place → s ≡ Text id place
source_text (Text i j) id place is = let same : i ≡ id = cc in let at : j ≡ place = cc in ap₂ Text same at
source_text (Own []) id place is = cc
source_text (Own (b ∷ bs)) id place is = cc
source_text (Marked mode) id place is = cc

pub newest_text : {K : Type 0} (levels : List (Open K)) (id place : ℕ) → next_item_of levels ≡ Some (next_items.Text id place) → Newest levels (Text id place)
newest_text [] id place is = let no : ⊥ = cc in absurd no
newest_text (l ∷ ls) id place is = record { level = l; first = refl; reads = source_text l.source id place cc }

-- what a text has from a place on
pub rest_more : (xs : List Element) (place : ℕ) (x : Element) → slice_get xs place ≡ Some x → drop place xs ≡ x ∷ drop (place + 1) xs
rest_more xs place x is = drop_more xs place x (slice_get_within xs place x is) ∙ ap (λ y. y ∷ drop (place + 1) xs) (get_or_from_slice_get xs place x x is)

-- ---- an element is taken

after_text : {K : Type 0} (p : Texts Element) (names : List (Named Sense)) (older : List ℕ) (s : Source K) → text_in p names older (afterwards s) ≡ text_in p names older s
after_text p names older (Text id place) = refl
after_text p names older (Own bytes) = refl
after_text p names older (Marked mode) = refl

module _ {K : Type 0} (p : Texts Element) (names : List (Named Sense)) (drafts : List Draft) (levels : Levels K) (beside : Beside) (limit : ℕ) (s : Source K) (n : Newest levels.levels s) where
  abbrev with : List (Open K) → Stored K
  with ls = stored_of p names drafts (record levels { levels = ls }) beside limit

  abbrev after : List (Open K) → Stored K
  after ls = left (map (level_of p) ls) (with ls)

  pub shown_is : shown (map (level_of p) levels.levels) ≡ shown_in (level_in p s n.level)
  shown_is = ap (λ ls. shown (map (level_of p) ls)) n.first ∙ ap (λ t. shown_in (level_in p t n.level)) n.reads

  pub advanced_is : with (advanced levels.levels) ≡ record (with (n.level ∷ drop 1 levels.levels)) { levels = level_in p (afterwards s) (record n.level { source = afterwards s }) ∷ map (level_of p) (drop 1 levels.levels) }
  advanced_is =
      ap (λ ks. with (advanced ks)) n.first
      ∙ ap₂ (λ k ts. record (with (n.level ∷ drop 1 levels.levels)) { levels = k ∷ map (level_of p) (drop 1 levels.levels); texts = ts ++ texts_in p names (drop 1 levels.levels) }) (ap (λ t. level_in p (afterwards t) (record n.level { source = afterwards t })) n.reads)
      (after_text p names (ids_of (drop 1 levels.levels)) n.level.source)

  pub after_is : after levels.levels ≡ left_in (level_in p s n.level) (map (level_of p) (drop 1 levels.levels)) (with (n.level ∷ drop 1 levels.levels))
  after_is = ap after n.first ∙ ap (λ t. left_in (level_in p t n.level) (map (level_of p) (drop 1 levels.levels)) (with (n.level ∷ drop 1 levels.levels))) n.reads

module _ {K : Type 0} (p : Texts Element) (names : List (Named Sense)) (drafts : List Draft) (levels : Levels K) (beside : Beside) (limit id place : ℕ) (n : Newest levels.levels (Text id place)) where
  module _ (x : Element) (is : slice_get (text p id) place ≡ Some x) where
    pub item_shown : shown (map (level_of p) levels.levels) ≡ shows.Item x
    item_shown = shown_is p names drafts levels beside limit (Text id place) n ∙ ap shown_of (rest_more (text p id) place x is)

    pub item_left : stored_of p names drafts (record levels { levels = advanced levels.levels }) beside limit ≡ left (map (level_of p) levels.levels) (stored_of p names drafts levels beside limit)
    item_left =
        let l = n.level in
        let ls = map (level_of p) (drop 1 levels.levels) in
        let v = stored_of p names drafts (record levels { levels = l ∷ drop 1 levels.levels }) beside limit in
        advanced_is p names drafts levels beside limit (Text id place) n
        ∙ sym (ap (λ r. left_of r (record { rest = drop place (text p id); old = l.old; charge = l.charge; resume = l.resume }) ls v) (rest_more (text p id) place x is))
        ∙ sym (after_is p names drafts levels beside limit (Text id place) n)

  module _ (none : length (text p id) ≤ place) where
    pub end_left : left (map (level_of p) levels.levels) (stored_of p names drafts levels beside limit)
        ≡ record (stored_of p names drafts levels beside limit) { levels = mark_of n.level.resume ++ map (level_of p) (drop 1 levels.levels); texts = texts_in p names (drop 1 levels.levels); arguments = n.level.old }
    end_left =
        let l = n.level in
        let ls = map (level_of p) (drop 1 levels.levels) in
        let v = stored_of p names drafts (record levels { levels = l ∷ drop 1 levels.levels }) beside limit in
        after_is p names drafts levels beside limit (Text id place) n
        ∙ ap (λ r. left_of r (record { rest = drop place (text p id); old = l.old; charge = l.charge; resume = l.resume }) ls v) (drop_all place (text p id) none)
        ∙ ap (λ s. record v { levels = mark_of l.resume ++ ls; texts = drop 1 (text_in p names (ids_of (drop 1 levels.levels)) s ++ texts_in p names (drop 1 levels.levels)); arguments = l.old }) n.reads

pub adds_level : {K : Type 0} (id : ℕ) (names : List (Named Sense)) (building : List ℕ) (l : Open K) (levels : List (Open K)) → ids_of_source l.source ≡ id ∷ [] → AddsOne id (held_ids names building levels) (held_ids names building (l ∷ levels))
adds_level id names building l levels is = record {
  counts = λ k.
      let less = count-append k (values names) (building ++ ids_of levels) in
      let less_after = count-append k building (ids_of levels) in
      let more = count-append k (values names) (building ++ (ids_of_source l.source ++ ids_of levels)) in
      let more_after = count-append k building (ids_of_source l.source ++ ids_of levels) in
      let these : count k (ids_of_source l.source ++ ids_of levels) ≡ count k (id ∷ ids_of levels) = ap (λ ks. count k (ks ++ ids_of levels)) is in
      let this = count-cons k id (ids_of levels) in
      omega arith;
}

-- ---- the end of a level is taken

-- what a level with a mode leaves
marks_levels : {K : Type 0} (p : Texts Element) (o : Option K) (old : List (List ℕ)) (ls : List (Open K)) → map (level_of p) (marks o old ++ ls) ≡ mark_of o ++ map (level_of p) ls
marks_levels p None old ls = refl
marks_levels p (Some mode) old ls = refl

marks_ids : {K : Type 0} (o : Option K) (old : List (List ℕ)) (ls : List (Open K)) → ids_of (marks o old ++ ls) ≡ ids_of ls
marks_ids None old ls = refl
marks_ids (Some mode) old ls = refl

marks_texts : {K : Type 0} (p : Texts Element) (names : List (Named Sense)) (o : Option K) (old : List (List ℕ)) (ls : List (Open K)) → texts_in p names (marks o old ++ ls) ≡ texts_in p names ls
marks_texts p names None old ls = refl
marks_texts p names (Some mode) old ls = refl

marks_pay : {K : Type 0} (o : Option K) (old : List (List ℕ)) (ls : List (Open K)) → AllPay ls → AllPay (marks o old ++ ls)
marks_pay None old ls pays = pays
marks_pay (Some mode) old ls pays = (refl, pays)

marks_length : {K : Type 0} (o : Option K) (old : List (List ℕ)) (ls : List (Open K)) → length (marks o old ++ ls) ≤ length ls + 1
marks_length None old ls = omega arith
marks_length (Some mode) old ls = omega arith

marks_charge : {K : Type 0} (o : Option K) (ls : List (Level K)) → sum_by level_charge (mark_of o ++ ls) ≡ sum_by level_charge ls
marks_charge None ls = refl
marks_charge (Some mode) ls = sum_by-cons level_charge (Mark mode) ls ∙ omega arith

module _ {K : Type 0} (p q : Texts Element) (names : SymbolTable Sense) (drafts : Items Draft) (levels : Levels K) (beside : Beside) (charge limit : ℕ) (s : Source K) (n : Newest levels.levels s)
    (h : IsStore p names drafts levels beside charge limit) (held : IsHeld q (held_ids names.entries (draft_ids drafts.items) (drop 1 levels.levels)))
    (keeps : Keeps p q (held_ids names.entries (draft_ids drafts.items) (drop 1 levels.levels)))
    (alone : (k : ℕ) → 0 < count k (draft_ids drafts.items) → holders q k ≡ 1)
    (same_capacity : q.capacity ≡ p.capacity) (same_slots : length q.texts ≡ length p.texts) where
  abbrev ls : List (Open K)
  ls = drop 1 levels.levels

  rest_pays : AllPay ls
  rest_pays = let all : AllPay (n.level ∷ ls) = subst AllPay n.first h.pays in all.1

  -- what the levels and their texts are charged
  levels_charge : sum_by level_charge (map (level_of p) levels.levels) + texts_charge p names.entries levels.levels
      ≡ (level_charge (level_of p n.level) + source_charge p names.entries (ids_of ls) n.level.source) + (sum_by level_charge (map (level_of p) ls) + texts_charge p names.entries ls)
  levels_charge =
      let all : sum_by level_charge (map (level_of p) levels.levels) ≡ level_charge (level_of p n.level) + sum_by level_charge (map (level_of p) ls) =
      ap (λ ks. sum_by level_charge (map (level_of p) ks)) n.first ∙ sum_by-cons level_charge (level_of p n.level) (map (level_of p) ls) in
      let texts : texts_charge p names.entries levels.levels ≡ source_charge p names.entries (ids_of ls) n.level.source + texts_charge p names.entries ls =
      ap (texts_charge p names.entries) n.first ∙ charged_level p names.entries n.level ls in
      omega arith

  -- with the levels that are left, one way or the other
  module _ (now : List (Open K)) (seen : List (Level K)) (arguments : List (List ℕ)) (views : (r : Texts Element) → map (level_of r) now ≡ seen ++ map (level_of r) ls) (ids : ids_of now ≡ ids_of ls) (texts : (r : Texts Element) → texts_in r names.entries now ≡ texts_in r names.entries ls) (pays : AllPay ls → AllPay now)
      (short : length now ≤ length ls + 1) (bare : sum_by level_charge (seen ++ map (level_of p) ls) ≡ sum_by level_charge (map (level_of p) ls)) where
    pub now_is : stored_of q names.entries drafts.items (record levels { levels = now; arguments = arguments }) beside limit
        ≡ record (stored_of p names.entries drafts.items levels beside limit) { levels = seen ++ map (level_of p) ls; texts = texts_in p names.entries ls; arguments = arguments }
    now_is =
        ap₂ (λ ks ts. record (stored_of q names.entries drafts.items levels beside limit) { levels = ks; texts = ts; arguments = arguments }) (views q) (texts q)
        ∙ ap (λ (v : Stored K). record v { levels = seen ++ v.levels; arguments = arguments }) (same_view p q names.entries drafts.items (record levels { levels = ls }) beside limit keeps)

    pub now_stands : (m : ℕ) → level_charge (level_of p n.level) + source_charge p names.entries (ids_of ls) n.level.source ≡ m → IsStore q names drafts (record levels { levels = now; arguments = arguments }) beside (charge - m) limit
    now_stands m gone =
        let was = h.charged in
        let within = h.within in
        let all = levels_charge in
        let view = ap charge_of now_is in
        let held_now = subst (λ ks. IsHeld q (values names.entries ++ (draft_ids drafts.items ++ ks))) (sym ids) held in
        let charged : charge - m ≡ charge_of (stored_of q names.entries drafts.items (record levels { levels = now; arguments = arguments }) beside limit) = omega arith in
        record {
          held = held_now;
          alone = alone;
          pays = pays rest_pays;
          named = h.named;
          few_acts = h.few_acts;
          charged = charged;
          once = charged_once q names.entries drafts.items (record levels { levels = now; arguments = arguments }) beside (charge - m) limit held_now alone (pays rest_pays) h.named charged;
          within = omega arith;
          deep = let deep = h.deep in let long = ap length n.first in omega arith;
          small = h.small;
          elements_suffice = let elements = h.elements_suffice in omega arith;
          slots_suffice = let slots = h.slots_suffice in omega arith;
          names_suffice = h.names_suffice;
          drafts_suffice = h.drafts_suffice;
          bytes_suffice = h.bytes_suffice;
          beside_suffices = h.beside_suffices;
        }

  -- its end is taken
  pub closed_view : stored_of q names.entries drafts.items (closed levels.levels levels) beside limit
      ≡ record (stored_of p names.entries drafts.items levels beside limit) { levels = mark_of n.level.resume ++ map (level_of p) ls; texts = texts_in p names.entries ls; arguments = n.level.old }
  closed_view =
      ap (λ ks. stored_of q names.entries drafts.items (closed ks levels) beside limit) n.first
      ∙ now_is (marks n.level.resume n.level.old ++ ls) (mark_of n.level.resume) n.level.old (λ r. marks_levels r n.level.resume n.level.old ls) (marks_ids n.level.resume n.level.old ls) (λ r. marks_texts r names.entries n.level.resume n.level.old ls) (marks_pay n.level.resume n.level.old ls)
      (marks_length n.level.resume n.level.old ls) (marks_charge n.level.resume (map (level_of p) ls))

  pub closed_stands : (own : ℕ) → level_charge (level_of p n.level) ≡ n.level.charge → source_charge p names.entries (ids_of ls) n.level.source ≡ own
      → IsStore q names drafts (closed levels.levels levels) beside (charge - (own + charge_of_newest levels.levels)) limit
  closed_stands own paid texts =
      subst (λ ks. IsStore q names drafts (closed ks levels) beside (charge - (own + charge_of_newest ks)) limit) (sym n.first)
      (now_stands (marks n.level.resume n.level.old ++ ls) (mark_of n.level.resume) n.level.old (λ r. marks_levels r n.level.resume n.level.old ls) (marks_ids n.level.resume n.level.old ls) (λ r. marks_texts r names.entries n.level.resume n.level.old ls) (marks_pay n.level.resume n.level.old ls)
      (marks_length n.level.resume n.level.old ls) (marks_charge n.level.resume (map (level_of p) ls)) (own + n.level.charge) (omega (arith, paid, texts)))

  pub newest_paid : (own : ℕ) → level_charge (level_of p n.level) ≡ n.level.charge → source_charge p names.entries (ids_of ls) n.level.source ≡ own → own + charge_of_newest levels.levels ≤ charge
  newest_paid own paid texts =
      let was = h.charged in
      let all = levels_charge in
      let is : charge_of_newest levels.levels ≡ n.level.charge = ap charge_of_newest n.first in
      omega arith

-- ---- the end of a level that reads a text

module _ {K : Type 0} (p : Texts Element) (names : SymbolTable Sense) (drafts : Items Draft) (levels : Levels K) (beside : Beside) (charge limit id place : ℕ) (h : IsStore p names drafts levels beside charge limit) (n : Newest levels.levels (Text id place)) where
  adds : AddsOne id (held_ids names.entries (draft_ids drafts.items) (drop 1 levels.levels)) (held_ids names.entries (draft_ids drafts.items) levels.levels)
  adds = subst (λ ls. AddsOne id (held_ids names.entries (draft_ids drafts.items) (drop 1 levels.levels)) (held_ids names.entries (draft_ids drafts.items) ls)) (sym n.first)
      (adds_level id names.entries (draft_ids drafts.items) n.level (drop 1 levels.levels) (ap ids_of_source n.reads))

  pub read_open : IsOpen p id
  read_open = open_of_adds p id (held_ids names.entries (draft_ids drafts.items) (drop 1 levels.levels)) (held_ids names.entries (draft_ids drafts.items) levels.levels) h.held adds

  held_after : IsHeld (released p id) (held_ids names.entries (draft_ids drafts.items) (drop 1 levels.levels))
  held_after = held_less p id (held_ids names.entries (draft_ids drafts.items) (drop 1 levels.levels)) (held_ids names.entries (draft_ids drafts.items) levels.levels) h.held adds

  keeps_after : Keeps p (released p id) (held_ids names.entries (draft_ids drafts.items) (drop 1 levels.levels))
  keeps_after = record { kept = λ k some. let held = held_after.held k in text_kept p id k read_open (omega arith) }

  alone_after : (k : ℕ) → 0 < count k (draft_ids drafts.items) → holders (released p id) k ≡ 1
  alone_after k some =
      let one = h.alone k some in
      let now = held_after.held k in
      let old = h.held.held k in
      let counts = adds.counts k in
      let less = count-append k (values names.entries) (draft_ids drafts.items ++ ids_of (drop 1 levels.levels)) in
      let less_after = count-append k (draft_ids drafts.items) (ids_of (drop 1 levels.levels)) in
      omega arith

  charged : level_charge (level_of p n.level) ≡ n.level.charge
  charged = ap (λ s. level_charge (level_in p s n.level)) n.reads

  -- its text is charged where neither a name nor another level holds it
  own_is : source_charge p names.entries (ids_of (drop 1 levels.levels)) n.level.source ≡ lone p id
  own_is =
      let older = ids_of (drop 1 levels.levels) in
      let once = if nat_lt 0 (count id older) then 0 else share (text p id) in
      let here = h.held.held id in
      let more = adds.counts id in
      let this = one_same id id refl in
      let split = count-append id (values names.entries) (draft_ids drafts.items ++ older) in
      let split_after = count-append id (draft_ids drafts.items) older in
      let unbuilt : count id (draft_ids drafts.items) ≡ 0 = elim (cases_lt 0 (count id (draft_ids drafts.items))) [
        | inl some ↦ let one = h.alone id some in absurd (omega (arith, one, here, more, this, split, split_after, some))
        | inr none ↦ omega (arith, none)
      ] in
      ap (source_charge p names.entries older) n.reads ∙ elim (cases_lt 0 (count id (values names.entries))) [
        | inl some ↦ named_free id once names.entries some ∙ sym (cond-false _ _ _ (ne_eqb (holders p id) 1 (λ one. absurd (omega (arith, one, here, more, this, split, split_after, some)))))
        | inr unnamed ↦ unnamed_pays id once names.entries (omega (arith, unnamed)) ∙ elim (cases_lt 0 (count id older)) [
          | inl again ↦ again_free (share (text p id)) id older again ∙ sym (cond-false _ _ _ (ne_eqb (holders p id) 1 (λ one. absurd (omega (arith, one, here, more, this, split, split_after, again)))))
          | inr first ↦ first_pays (share (text p id)) id older (omega (arith, first)) ∙ sym (cond-true _ _ _ (eq-eqb (holders p id) 1 (omega (arith, here, more, this, split, split_after, unbuilt, unnamed, first))))
        ]
      ]

  pub text_ended : stored_of (released p id) names.entries drafts.items (closed levels.levels levels) beside limit
      ≡ record (stored_of p names.entries drafts.items levels beside limit) { levels = mark_of n.level.resume ++ map (level_of p) (drop 1 levels.levels); texts = texts_in p names.entries (drop 1 levels.levels); arguments = n.level.old }
  text_ended = closed_view p (released p id) names drafts levels beside charge limit (Text id place) n h held_after keeps_after alone_after (released_capacity p id) (released_slots p id)

  pub text_ended_stands : IsStore (released p id) names drafts (closed levels.levels levels) beside (charge - (lone p id + charge_of_newest levels.levels)) limit
  text_ended_stands = closed_stands p (released p id) names drafts levels beside charge limit (Text id place) n h held_after keeps_after alone_after (released_capacity p id) (released_slots p id) (lone p id) charged own_is

  pub text_paid : lone p id + charge_of_newest levels.levels ≤ charge
  text_paid = newest_paid p (released p id) names drafts levels beside charge limit (Text id place) n h held_after keeps_after alone_after (released_capacity p id) (released_slots p id) (lone p id) charged own_is

-- ---- levels that go, their texts unread

-- the newest level reads this, and goes
pub dropped_is : {K : Type 0} (p : Texts Element) (names : List (Named Sense)) (drafts : List Draft) (levels : Levels K) (beside : Beside) (limit : ℕ) (s : Source K) (n : Newest levels.levels s)
    → dropped (map (level_of p) levels.levels) (stored_of p names drafts levels beside limit) ≡ dropped_in (level_in p s n.level) (map (level_of p) (drop 1 levels.levels)) (stored_of p names drafts levels beside limit)
dropped_is p names drafts levels beside limit s n =
    let v = stored_of p names drafts levels beside limit in
    ap (λ ls. dropped (map (level_of p) ls) v) n.first ∙ ap (λ t. dropped_in (level_in p t n.level) (map (level_of p) (drop 1 levels.levels)) v) n.reads

-- a level that reads a text goes
pub text_gone : {K : Type 0} (p : Texts Element) (names : List (Named Sense)) (drafts : List Draft) (levels : Levels K) (beside : Beside) (limit id place : ℕ) (n : Newest levels.levels (Text id place))
    → dropped (map (level_of p) levels.levels) (stored_of p names drafts levels beside limit)
    ≡ record (stored_of p names drafts levels beside limit) { levels = mark_of n.level.resume ++ map (level_of p) (drop 1 levels.levels); texts = texts_in p names (drop 1 levels.levels); arguments = n.level.old }
text_gone p names drafts levels beside limit id place n =
    let rest = drop 1 levels.levels in
    dropped_is p names drafts levels beside limit (Text id place) n
    ∙ ap (λ ts. record (stored_of p names drafts levels beside limit) { levels = mark_of n.level.resume ++ map (level_of p) rest; texts = ts; arguments = n.level.old })
    (ap (λ ks. drop 1 (texts_in p names ks)) n.first ∙ ap (λ s. drop 1 (text_in p names (ids_of rest) s ++ texts_in p names rest)) n.reads)

-- how many times a level can go: once more where a mode is after its end
abbrev pub times : {K : Type 0} → Level K → ℕ
times (Read l) = 2
times (Mark mode) = 1

abbrev pub all_times : {K : Type 0} → List (Level K) → ℕ
all_times levels = sum_by times levels
