-- Lemmas on what is stored beside texts and levels.
use Rattle.std.proofs.Common.{◌≡◌, ℕ, ◌+◌, ◌≤◌, List, [], ◌∷◌, ◌++◌, length, eqb, false, Some, None, refl, ap, ◌∙◌, arith, length-append}
use Rattle.std.proofs.lemmas.List.Sums.{sum_by-cons}
use Rattle.nr_vectors.specs.Items.{Items}
use Rattle.nr_pool.specs.Texts.{Texts}
use Rattle.nr_symbol_tables.specs.Table.{Named, find, put, without}
use Rattle.nr_symbol_tables.specs.Rows.{SymbolTable}
use Rattle.nr_levels.specs.Levels.{Levels}
use Rattle.nr_levels.specs.Gathering.{Gathered, Gathering, bytes_in, gathered_len, with_byte, with_bytes}
use Rattle.nr_levels.specs.Laws.{with_bytes-more, with_bytes-append}
use Rattle.nr_symbol_tables.specs.declared.trap.Trap.{Trap}
use Rattle.nr_symbol_tables.specs.declared.word.HyphenationWord.{HyphenationWord}
use Rattle.nr_store.specs.declared.register.Register.{Register}
use Rattle.nr_store.specs.declared.named.Sense.{Sense}
use Rattle.nr_store.specs.declared.element.Element.{Element}
use Rattle.nr_store.specs.declared.element.Draft.{Draft}
use Rattle.nr_store.specs.Store.{Stored, charge_of, gathering}
use Rattle.nr_store.specs.Holders.{Beside, Suffice, beside_of, stored_of, beside_cost, IsStore}
use Rattle.nr_store.proofs.Naming.{sum_of, put_sum, put_sum_new, without_sum}

module _ {K : Type 0} (p : Texts Element) (names : SymbolTable Sense) (drafts : Items Draft) (levels : Levels K) (beside : Beside) (charge limit : ℕ) (h : IsStore p names drafts levels beside charge limit) where
  pub beside_paid : beside_cost beside ≤ charge
  beside_paid = let charged = h.charged in omega arith

  module _ (b : Beside) (now : ℕ) (cost : now + beside_cost beside ≡ charge + beside_cost b) where
    pub beside_charge : now ≡ charge_of (stored_of p names.entries drafts.items levels b limit)
    beside_charge = let charged = h.charged in omega arith

    pub beside_stands : now ≤ limit → Suffice b limit → IsStore p names drafts levels b now limit
    beside_stands within suffice = record {
      held = h.held;
      alone = h.alone;
      pays = h.pays;
      named = h.named;
      few_acts = h.few_acts;
      charged = beside_charge;
      once = let once = h.once in omega arith;
      within = within;
      deep = h.deep;
      small = h.small;
      elements_suffice = h.elements_suffice;
      slots_suffice = h.slots_suffice;
      names_suffice = h.names_suffice;
      drafts_suffice = h.drafts_suffice;
      bytes_suffice = h.bytes_suffice;
      beside_suffices = suffice;
    }

-- ---- arguments that are being read

pub bytes_more : (bytes : List ℕ) (g : Gathered) → eqb (length g.kept) 9 ≡ false → gathered_len (with_bytes bytes g) ≡ gathered_len g + length bytes
bytes_more bytes g more = ap gathered_len (with_bytes-more bytes g more) ∙ (let all = length-append g.last bytes in let e : bytes_in g.kept + length (g.last ++ bytes) ≡ gathered_len g + length bytes = omega arith in e)

-- with bytes more, for which there is room
module _ {K : Type 0} (p : Texts Element) (names : SymbolTable Sense) (drafts : Items Draft) (levels : Levels K) (g : Gathering) (registers : SymbolTable Register) (traps : Items Trap) (words : Items HyphenationWord) (charge limit : ℕ)
    (h : IsStore p names drafts levels (beside_of g registers traps words) charge limit) (more : eqb (length g.gathered.kept) 9 ≡ false) (bytes : List ℕ) (count : ℕ) (long : length bytes ≡ count) where
  abbrev pub extended : Beside
  extended = beside_of (record g { gathered = with_bytes bytes g.gathered }) registers traps words

  abbrev pub extended_store : Stored K
  extended_store = stored_of p names.entries drafts.items levels extended limit

  cost : charge + count + beside_cost (beside_of g registers traps words) ≡ charge + beside_cost extended
  cost = omega (arith, long, bytes_more bytes g.gathered more)

  pub extended_charge : charge + count ≡ charge_of extended_store
  extended_charge = beside_charge p names drafts levels (beside_of g registers traps words) charge limit h extended (charge + count) cost

  pub extended_stands : charge + count ≤ limit → IsStore p names drafts levels extended (charge + count) limit
  extended_stands fits =
      beside_stands p names drafts levels (beside_of g registers traps words) charge limit h extended (charge + count) cost fits
      (record { gathering = h.beside_suffices.gathering; registers = h.beside_suffices.registers; traps = h.beside_suffices.traps; words = h.beside_suffices.words })

  one_cost : (b : ℕ) → gathered_len (with_byte b (with_bytes bytes g.gathered)) ≡ gathered_len (with_bytes bytes g.gathered) + 1
  one_cost b =
      let all = ap gathered_len (with_bytes-append bytes b g.gathered) in
      omega (arith, all, bytes_more bytes g.gathered more, bytes_more (bytes ++ b ∷ []) g.gathered more, length-append bytes (b ∷ []))

  -- one byte more
  pub gathering_charge : (b : ℕ) → charge_of (gathering b extended_store) ≡ charge + count + 1
  gathering_charge b = let all = extended_charge in omega (arith, all, one_cost b)

-- ---- registers

ones_length : {X : Type 0} (ns : List (Named X)) → sum_of (λ _. 1) ns ≡ length ns
ones_length [] = refl
ones_length (n ∷ ns) = sum_by-cons (λ (m : Named _). 1) n ns ∙ ap (λ k. 1 + k) (ones_length ns) ∙ omega arith

pub put_length : {X : Type 0} (name : List ℕ) (x y : X) (ns : List (Named X)) → find name ns ≡ Some y → length (put name x ns) ≡ length ns
put_length name x y ns some = let sum = put_sum (λ _. 1) name x y ns some in let before = ones_length ns in let after = ones_length (put name x ns) in omega arith

pub put_length_new : {X : Type 0} (name : List ℕ) (x : X) (ns : List (Named X)) → find name ns ≡ None → length (put name x ns) ≡ length ns + 1
put_length_new name x ns none = let sum = put_sum_new (λ _. 1) name x ns none in let before = ones_length ns in let after = ones_length (put name x ns) in omega arith

pub without_length : {X : Type 0} (name : List ℕ) (y : X) (ns : List (Named X)) → find name ns ≡ Some y → length (without name ns) + 1 ≡ length ns
without_length name y ns some = let sum = without_sum (λ _. 1) name y ns some in let before = ones_length ns in let after = ones_length (without name ns) in omega arith
