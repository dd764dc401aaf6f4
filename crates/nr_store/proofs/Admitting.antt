-- Lemmas on what a call that opens a level answers.
use Rattle.std.proofs.Common.{◌≡◌, ℕ, ◌+◌, ◌<◌, ◌≤◌, List, [], ◌++◌, length, Option, Some, None, is_some, refl, Ok, Err, false, ap, sym, ◌∙◌, arith}
use Rattle.std.proofs.lemmas.List.{length-map}
use Rattle.std.specs.Option.{option_map, unwrap_or}
use Rattle.nr_vectors.specs.Items.{Items}
use Rattle.nr_pool.specs.Texts.{Texts, text}
use Rattle.nr_symbol_tables.specs.Table.{Named, find}
use Rattle.nr_symbol_tables.specs.Rows.{SymbolTable}
use Rattle.nr_levels.specs.Levels.{Levels}
use Rattle.nr_store.specs.declared.named.Sense.{Sense}
use Rattle.nr_store.specs.declared.named.Sense.TheVariants as senses
use Rattle.nr_store.specs.declared.element.Element.{Element}
use Rattle.nr_store.specs.declared.element.Draft.{Draft}
use Rattle.nr_store.specs.declared.refusal.Refusal.TheVariants as refusals
use Rattle.nr_store.specs.Senses.{text_id}
use Rattle.nr_store.specs.Store.{words, text_of, Shared, text_charge, Stored, charge_of, checked, reading}
use Rattle.nr_store.specs.Holders.{Beside, means_of, level_of, stored_of, count, values, ids_of, draft_ids, IsStore}
use Rattle.nr_store.proofs.Counting.{count-append}
use Rattle.nr_store.proofs.Naming.{find-map, find_counts}
use Rattle.nr_store.proofs.Building.{Within, refused, too_deep, admitted}
use Rattle.nr_store.proofs.Entering.{charge_of-reading, IsThere, there}

words_of : (p : Texts Element) (o : Option Sense) → words (option_map (means_of p) o) ≡ option_map (text p) (text_id o)
words_of p None = refl
words_of p (Some (senses.Request r)) = refl
words_of p (Some (senses.Text id)) = refl

-- the text of a name
pub named_text : {K : Type 0} (p : Texts Element) (names : List (Named Sense)) (drafts : List Draft) (levels : Levels K) (beside : Beside) (limit : ℕ) (name : List ℕ) (o : Option ℕ) (v : Stored K) → stored_of p names drafts levels beside limit ≡ v
    → o ≡ text_id (find name names) → words (find name v.names) ≡ option_map (text p) o
named_text p names drafts levels beside limit name o v view is =
    ap (λ (w : Stored _). words (find name w.names)) (sym view) ∙ ap words (find-map (means_of p) name names) ∙ words_of p (find name names) ∙ ap (option_map (text p)) (sym is)

-- where there is no such text
pub answer_none : {K : Type 0} (v : Stored K) (charge limit : ℕ) (f : Option (List Element) → Stored K) (o : Option (List Element)) → Within v charge limit → f None ≡ v → o ≡ None → checked (f o) (is_some o) ≡ Ok false
answer_none v charge limit f o h same none =
    let charged = h.charged in
    let same_limit = h.same_limit in
    let within = h.within in
    ap (λ q. checked (f q) (is_some q)) none ∙ ap (λ w. checked w false) same ∙ admitted v false (omega arith) h.deep

-- where there is one
module _ {K X : Type 0} (charge limit cost : ℕ) (resume : Option K) (arguments : List (List ℕ)) (v : Stored K) (xs : List Element) (t : Shared) (free : text_charge t ≡ 0) (x : X) (h : Within v charge limit) where
  more : charge_of (reading xs arguments cost resume t v) ≡ charge_of v + cost
  more = charge_of-reading xs arguments cost resume t v free

  pub answer_refused : limit < charge + cost → checked (reading xs arguments cost resume t v) x ≡ Err refusals.Stored
  answer_refused above = let all = more in let charged = h.charged in let same = h.same_limit in refused (reading xs arguments cost resume t v) x (omega arith)

  pub answer_deep : charge + cost ≤ limit → v.deepest ≤ length v.levels → checked (reading xs arguments cost resume t v) x ≡ Err refusals.Depth
  answer_deep room full = let all = more in let charged = h.charged in let same = h.same_limit in too_deep (reading xs arguments cost resume t v) x (omega arith) (omega arith)

  pub answer_admitted : charge + cost ≤ limit → length v.levels < v.deepest → checked (reading xs arguments cost resume t v) x ≡ Ok x
  answer_admitted room deeper = let all = more in let charged = h.charged in let same = h.same_limit in admitted (reading xs arguments cost resume t v) x (omega arith) (omega arith)

-- a text that has a name
pub record IsNamed (p : Texts Element) (names : SymbolTable Sense) (charge id : ℕ) : Type 0 where
  pub counted : 0 < count id (values names.entries)
  pub there : IsThere p charge id

-- where its number is found under a name
pub text_found : (o : Option Sense) (id : ℕ) → text_id o ≡ Some id → o ≡ Some (senses.Text id)
text_found None id is = let no : ⊥ = cc in absurd no
text_found (Some (senses.Request r)) id is = let no : ⊥ = cc in absurd no
text_found (Some (senses.Text k)) id is = let same : k ≡ id = cc in ap (λ j. Some (senses.Text j)) same

pub is_named : {K : Type 0} (p : Texts Element) (names : SymbolTable Sense) (drafts : Items Draft) (levels : Levels K) (beside : Beside) (charge limit : ℕ) (name : List ℕ) (id : ℕ) (o : Option ℕ) → IsStore p names drafts levels beside charge limit
    → o ≡ text_id (find name names.entries) → o ≡ Some id → IsNamed p names charge id
is_named p names drafts levels beside charge limit name id o h is some =
    let counted = find_counts name id names.entries (sym is ∙ some) in
    record {
      counted = counted;
      there = there p names drafts levels beside charge limit id h (omega (arith, count-append id (values names.entries) (draft_ids drafts.items ++ ids_of levels.levels)));
    }

-- how deep the levels are, as the caller sees it
pub record Depths {K : Type 0} (levels : Levels K) (v : Stored K) : Type 0 where
  pub same_most : levels.most ≡ v.deepest
  pub same_depth : length levels.levels ≡ length v.levels

pub depths : {K : Type 0} (p : Texts Element) (names : List (Named Sense)) (drafts : List Draft) (levels : Levels K) (beside : Beside) (limit : ℕ) (v : Stored K) → stored_of p names drafts levels beside limit ≡ v → Depths levels v
depths p names drafts levels beside limit v view = record {
  same_most = ap (λ (w : Stored _). w.deepest) view;
  same_depth = sym (length-map levels.levels (level_of p)) ∙ ap (λ (w : Stored _). length w.levels) view;
}

-- a name whose text is copied
pub no_text_of : {K : Type 0} (p : Texts Element) (names : List (Named Sense)) (drafts : List Draft) (levels : Levels K) (beside : Beside) (limit : ℕ) (name : List ℕ) (o : Option ℕ) (v : Stored K) → stored_of p names drafts levels beside limit ≡ v
    → o ≡ text_id (find name names) → o ≡ None → text_of name v ≡ []
no_text_of p names drafts levels beside limit name o v view is none =
    ap (λ q. unwrap_or q []) (named_text p names drafts levels beside limit name o v view is ∙ ap (option_map (text p)) none)

pub some_text_of : {K : Type 0} (p : Texts Element) (names : List (Named Sense)) (drafts : List Draft) (levels : Levels K) (beside : Beside) (limit : ℕ) (name : List ℕ) (id : ℕ) (o : Option ℕ) (v : Stored K) → stored_of p names drafts levels beside limit ≡ v
    → o ≡ text_id (find name names) → o ≡ Some id → text_of name v ≡ text p id
some_text_of p names drafts levels beside limit name id o v view is some =
    ap (λ q. unwrap_or q []) (named_text p names drafts levels beside limit name o v view is ∙ ap (option_map (text p)) some)
