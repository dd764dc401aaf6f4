-- Lemmas on a store with nothing but the requests.
use Rattle.std.proofs.Common.{◌≡◌, ℕ, min, ◌+◌, ◌*◌, ◌/◌, ◌^◌, ◌<◌, ◌≤◌, List, [], ◌∷◌, ◌++◌, length, map, drop, replicate, get_or, Option, Some, None, refl, sum_by, ◌⊎◌, ap, ap₂, sym, ◌∙◌, subst, inl, inr, arith}
use Rattle.std.proofs.lemmas.List.{get_or-replicate, get_or_past, length-replicate, drop_more}
use Rattle.std.proofs.lemmas.List.Sums.{sum_by-cons}
use Rattle.std.proofs.lemmas.Bool.{cases_lt}
use Rattle.nr_vectors.specs.Items.{Items}
use Rattle.nr_pool.specs.Texts.{Held, Texts, no_text, entry, holders}
use Rattle.nr_symbol_tables.specs.Table.{Named, find, put}
use Rattle.nr_symbol_tables.specs.Rows.{SymbolTable}
use Rattle.nr_symbol_tables.specs.Given.{word_in}
use Rattle.nr_levels.specs.Levels.{Levels}
use Rattle.nr_store.specs.declared.named.Sense.{Sense}
use Rattle.nr_store.specs.declared.named.Sense.TheVariants as senses
use Rattle.nr_store.specs.declared.element.Element.{Element}
use Rattle.nr_store.specs.declared.element.Draft.{Draft}
use Rattle.nr_store.specs.declared.request.Request.{Request}
use Rattle.nr_store.specs.declared.request.TheConstants.{REQUESTS}
use Rattle.nr_store.specs.Senses.{act}
use Rattle.nr_levels.specs.Gathering.{Gathered, Gathering, none_gathered}
use Rattle.nr_symbol_tables.specs.declared.trap.Trap.{Trap}
use Rattle.nr_symbol_tables.specs.declared.word.HyphenationWord.{HyphenationWord}
use Rattle.nr_store.specs.declared.register.Register.{Register}
use Rattle.nr_store.specs.declared.memory.Room.{Room}
use Rattle.nr_store.specs.Memory.{elements_in, rooms_of}
use Rattle.nr_store.specs.Store.{Stored, Built, nothing, weight, level_charge, text_charge, charge_of, charge_beside}
use Rattle.nr_store.specs.Request.{name_of, with_senses, request_names}
use Rattle.nr_store.specs.Holders.{Beside, Suffice, acts, named_means, built_of, level_of, stored_of, beside_of, count, values, draft_ids, held_ids, texts_in, IsHeld, AllPay, AreNamed, IsStore}
use Rattle.nr_store.proofs.Counting.{count-append}
use Rattle.nr_store.proofs.Naming.{ones, sum_of, put_sum, put_sum_new, count-values}
use Rattle.nr_store.proofs.Keeping.{charged_once}
use Rattle.nr_store.proofs.Sharing.{no_name}
use Rattle.nr_store.proofs.Defining.{cost_of, names_charge}

known : {X : Type 0} → (o : Option X) → (o ≡ None) ⊎ ((x : X) × (o ≡ Some x))
known None = inl refl
known (Some x) = inr (x, refl)

-- a name given anew adds no more than its own
pub put_sum-le : {X : Type 0} (f : X → ℕ) (name : List ℕ) (x : X) (ns : List (Named X)) → sum_of f (put name x ns) ≤ f x + sum_of f ns
put_sum-le f name x ns = elim (known (find name ns)) [
  | inl none ↦ let is = put_sum_new f name x ns none in omega arith
  | inr some ↦ let is = put_sum f name x some.0 ns some.1 in omega arith
]

-- the requests cost nothing and hold nothing
pub senses_sum-le : (f : Sense → ℕ) (n : ℕ) → ((r : Request) → f (senses.Request r) ≤ n) → (es : List (ℕ × ℕ × Request)) (ns : List (Named Sense)) → sum_of f (with_senses es ns) ≤ n * length es + sum_of f ns
senses_sum-le f n each [] ns = omega arith
senses_sum-le f n each (e ∷ es) ns =
    let rest = senses_sum-le f n each es (put (name_of e) (senses.Request e.2) ns) in
    let this = put_sum-le f (name_of e) (senses.Request e.2) ns in
    let one = each e.2 in
    let long : n * length (e ∷ es) ≡ n * length es + n = grind arith in
    omega arith

-- a pool with no texts
bare_entry : (p : Texts Element) (n k : ℕ) → p.texts ≡ replicate n no_text → entry p k ≡ no_text
bare_entry p n k empty = ap (λ ts. get_or ts k no_text) empty ∙ elim (cases_lt k n) [
  | inl below ↦ get_or-replicate n k no_text no_text below
  | inr past ↦ get_or_past (replicate n no_text) k no_text (omega (arith, length-replicate n (no_text {T = Element})))
]

module _ {K : Type 0} (p : Texts Element) (names : SymbolTable Sense) (drafts : Items Draft) (levels : Levels K) (beside : Beside) (limit n : ℕ) (empty : p.texts ≡ replicate n no_text) (named : names.entries ≡ with_senses REQUESTS [])
    (no_drafts : drafts.items ≡ []) (no_levels : levels.levels ≡ []) (no_beside : charge_beside beside.gathering.gathered beside.registers.entries beside.traps.items (map word_in beside.words.items) ≡ 0) where
  nothing_of : (f : Sense → ℕ) → ((r : Request) → f (senses.Request r) ≤ 0) → sum_of f names.entries ≡ 0
  nothing_of f each = let all = senses_sum-le f 0 each REQUESTS [] in let is = ap (sum_of f) named in omega arith

  few : acts names.entries ≤ length REQUESTS
  few = let all = senses_sum-le act 1 (λ r. omega arith) REQUESTS [] in let is = ap (sum_of act) named in omega arith

  free : 0 ≡ charge_of (stored_of p names.entries drafts.items levels beside limit)
  free =
      let cost = nothing_of (cost_of p) (λ r. omega arith) in
      let of_names = names_charge p names.entries in
      let of_drafts : sum_by (λ (b : Built). weight b.text) (map (built_of p) drafts.items) ≡ 0 = ap (λ ds. sum_by (λ (b : Built). weight b.text) (map (built_of p) ds)) no_drafts in
      let of_levels : sum_by level_charge (map (level_of p) levels.levels) ≡ 0 = ap (λ ls. sum_by level_charge (map (level_of p) ls)) no_levels in
      let of_texts : sum_by text_charge (texts_in p names.entries levels.levels) ≡ 0 = ap (λ ls. sum_by text_charge (texts_in p names.entries ls)) no_levels in
      omega arith

  pub begins_empty : limit < 2 ^ 32 → p.capacity ≡ limit → length p.texts ≡ limit / 16 + 1 → names.capacity ≡ limit / 48 + 1 + length REQUESTS → drafts.capacity ≡ limit / 48 + 1 → levels.capacity ≡ limit → Suffice beside limit
      → IsStore p names drafts levels beside 0 limit
  begins_empty small elements slots room drafts_room bytes suffice =
      let held : IsHeld p (held_ids names.entries (draft_ids drafts.items) levels.levels) = record {
        held = λ k.
            let none : holders p k ≡ 0 = ap (λ (t : Held Element). t.holders) (bare_entry p n k empty) in
            let named_none = nothing_of (ones k) (λ r. omega arith) in
            let values_none = count-values k names.entries in
            let ids : held_ids names.entries (draft_ids drafts.items) levels.levels ≡ values names.entries ++ [] = ap₂ (λ (ds : List Draft) ls. held_ids names.entries (draft_ids ds) ls) no_drafts no_levels in
            let counted : count k (held_ids names.entries (draft_ids drafts.items) levels.levels) ≡ count k (values names.entries ++ []) = ap (count k) ids in
            let split = count-append k (values names.entries) [] in
            omega arith;
        bare = λ k _. ap (λ (t : Held Element). t.elements) (bare_entry p n k empty);
      } in
      let alone : (k : ℕ) → 0 < count k (draft_ids drafts.items) → holders p k ≡ 1 = λ k some. let is : count k (draft_ids drafts.items) ≡ 0 = ap (λ ds. count k (draft_ids ds)) no_drafts in absurd (omega arith) in
      let pays = subst AllPay (sym no_levels) tt in
      let single_name : AreNamed names.entries = record {
        single = λ k. let named_none = nothing_of (ones k) (λ r. omega arith) in let values_none = count-values k names.entries in omega arith;
        found = λ k name is.
            let named_none = nothing_of (ones k) (λ r. omega arith) in
            let values_none = count-values k names.entries in
            let none : None ≡ Some name = sym (no_name k names.entries (omega (arith, named_none, values_none))) ∙ is in
            let no : ⊥ = cc in
            absurd no;
      } in
      record {
        held = held;
        alone = alone;
        pays = pays;
        named = single_name;
        few_acts = few;
        charged = free;
        once = charged_once p names.entries drafts.items levels beside 0 limit held alone pays single_name free;
        within = omega arith;
        deep = let is : length levels.levels ≡ 0 = ap length no_levels in omega arith;
        small = small;
        elements_suffice = elements;
        slots_suffice = slots;
        names_suffice = room;
        drafts_suffice = drafts_room;
        bytes_suffice = bytes;
        beside_suffices = suffice;
      }

-- ---- the names are given one after another

ones_length : {X : Type 0} (ns : List (Named X)) → sum_of (λ _. 1) ns ≡ length ns
ones_length [] = refl
ones_length (n ∷ ns) = sum_by-cons (λ (m : Named _). 1) n ns ∙ ap (λ k. 1 + k) (ones_length ns) ∙ omega arith

pub put_length-le : {X : Type 0} (name : List ℕ) (x : X) (ns : List (Named X)) → length (put name x ns) ≤ length ns + 1
put_length-le name x ns = let most = put_sum-le (λ _. 1) name x ns in let before = ones_length ns in let after = ones_length (put name x ns) in omega arith

pub one_request : (es : List (ℕ × ℕ × Request)) (i : ℕ) (d : ℕ × ℕ × Request) (ns all : List (Named Sense)) → i < length es
    → with_senses (drop i es) ns ≡ all → with_senses (drop (i + 1) es) (put (name_of (get_or es i d)) (senses.Request (get_or es i d).2) ns) ≡ all
one_request es i d ns all below before = sym (ap (λ xs. with_senses xs ns) (drop_more es i d below)) ∙ before

pub put_few : {X : Type 0} (name : List ℕ) (x : X) (ns : List (Named X)) (n i : ℕ) → length ns ≤ n + i → length (put name x ns) ≤ n + (i + 1)
put_few name x ns n i few = let one = put_length-le name x ns in omega arith

-- ---- what such a store shows

-- the names of the requests, whatever texts there are
names_are : (p : Texts Element) → map (named_means p) (with_senses REQUESTS []) ≡ request_names
names_are p = refl

-- what is shown of these
shows : {K : Type 0} → Texts Element → List (Named Sense) → List Draft → Levels K → Gathered → List (Named Register) → List Trap → List HyphenationWord → ℕ → Stored K
shows p ns ds ls g rs ts ws limit = record {
  names = map (named_means p) ns;
  building = map (built_of p) ds;
  levels = map (level_of p) ls.levels;
  texts = texts_in p ns ls.levels;
  arguments = ls.arguments;
  gathered = g;
  registers = rs;
  traps = ts;
  words = map word_in ws;
  limit = limit;
  deepest = ls.most;
}

pub begun : {K : Type 0} (p : Texts Element) (entries : List (Named Sense)) (drafts : Items Draft) (levels : Levels K) (gathering : Gathering) (registers : SymbolTable Register) (traps : Items Trap) (words : Items HyphenationWord) (limit room most : ℕ)
    → entries ≡ with_senses REQUESTS [] → drafts.items ≡ [] → levels ≡ record { levels = []; arguments = []; capacity = room; most = most } → gathering.gathered ≡ none_gathered → registers.entries ≡ [] → traps.items ≡ [] → words.items ≡ []
    → stored_of p entries drafts.items levels (beside_of gathering registers traps words) limit ≡ nothing request_names limit most
unfolding shows
begun {K = K} p entries drafts levels gathering registers traps words limit room most named no_drafts levels_is no_gathered no_registers no_traps no_words =
    let base = with_senses REQUESTS [] in
    let none : Levels K = record { levels = []; arguments = []; capacity = room; most = most } in
    ap (λ ns. shows p ns drafts.items levels gathering.gathered registers.entries traps.items words.items limit) named
    ∙ ap (λ ds. shows p base ds levels gathering.gathered registers.entries traps.items words.items limit) no_drafts
    ∙ ap (λ (ls : Levels K). shows p base [] ls gathering.gathered registers.entries traps.items words.items limit) levels_is
    ∙ ap (λ g. shows p base [] none g registers.entries traps.items words.items limit) no_gathered
    ∙ ap (λ rs. shows p base [] none none_gathered rs traps.items words.items limit) no_registers
    ∙ ap (λ ts. shows p base [] none none_gathered [] ts words.items limit) no_traps
    ∙ ap (λ ws. shows p base [] none none_gathered [] [] ws limit) no_words
    ∙ ap (λ ns. nothing {K = K} ns limit most) (names_are p)

-- what stands beside names and levels costs nothing where there is none of it
pub costs_nothing : (gathered : Gathered) (registers : List (Named Register)) (traps : List Trap) (words : List HyphenationWord) → gathered ≡ none_gathered → registers ≡ [] → traps ≡ [] → words ≡ []
    → charge_beside gathered registers traps (map word_in words) ≡ 0
costs_nothing gathered registers traps words no_gathered no_registers no_traps no_words =
    ap (λ (g : Gathered). charge_beside g registers traps (map word_in words)) no_gathered
    ∙ ap (λ (rs : List (Named Register)). charge_beside none_gathered rs traps (map word_in words)) no_registers
    ∙ ap (λ (ts : List Trap). charge_beside none_gathered [] ts (map word_in words)) no_traps
    ∙ ap (λ (ws : List HyphenationWord). charge_beside none_gathered [] [] (map word_in ws)) no_words

-- ---- the elements that its parts take, one part after the other

all_taken : (fewer some places limit deepest a b c d : ℕ) → b ≡ a + (fewer + 1 + 56) + 512 + (fewer + 1) → c ≡ b + limit + (some + 1) + 2 * deepest + limit + places
    → d ≡ c + limit + (fewer + 1 + 512) + 2 * (fewer + 1) + (some + 1 + 256)
    → d ≡ a + (limit + (some + 1) + (fewer + 1 + 56) + (fewer + 1) + deepest + deepest + limit + places + limit + (fewer + 1) + (fewer + 1) + (fewer + 1) + (some + 1) + 1280)
all_taken fewer some places limit deepest a b c d named held beside = omega arith

pub taken_by_all : (r : Room) (limit deepest a b c d : ℕ) → r ≡ rooms_of limit deepest → b ≡ a + r.names + 512 + r.drafts
    → c ≡ b + r.elements + r.slots + 2 * r.frames + r.bytes + 9 * min r.frames (r.bytes / 16) → d ≡ c + r.gathering + (r.registers + 512) + 2 * r.traps + (r.words + 256)
    → d ≡ a + elements_in (rooms_of limit deepest)
taken_by_all r limit deepest a b c d is named held beside =
    let named_taken : b ≡ a + (limit / 48 + 1 + 56) + 512 + (limit / 48 + 1) = named ∙ ap (λ (x : Room). a + x.names + 512 + x.drafts) is in
    let held_taken : c ≡ b + limit + (limit / 16 + 1) + 2 * deepest + limit + 9 * min deepest (limit / 16) = held ∙ ap (λ (x : Room). b + x.elements + x.slots + 2 * x.frames + x.bytes + 9 * min x.frames (x.bytes / 16)) is in
    let beside_taken : d ≡ c + limit + (limit / 48 + 1 + 512) + 2 * (limit / 48 + 1) + (limit / 16 + 1 + 256) = beside ∙ ap (λ (x : Room). c + x.gathering + (x.registers + 512) + 2 * x.traps + (x.words + 256)) is in
    all_taken (limit / 48) (limit / 16) (9 * min deepest (limit / 16)) limit deepest a b c d named_taken held_taken beside_taken
