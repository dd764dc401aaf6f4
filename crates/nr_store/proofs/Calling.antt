-- Lemmas on the call of a macro: the arguments that are being read are given back, and what it answers.
use Rattle.std.proofs.Common.{◌≡◌, ℕ, ◌+◌, ◌-◌, ◌<◌, ◌≤◌, Bool, true, List, length, Option, Some, None, is_some, Result, Ok, Err, refl, ap, ◌∙◌, arith}
use Rattle.std.specs.Option.{option_map}
use Rattle.nr_vectors.specs.Items.{Items}
use Rattle.nr_pool.specs.Texts.{Texts, text}
use Rattle.nr_symbol_tables.specs.Table.{find}
use Rattle.nr_symbol_tables.specs.Rows.{SymbolTable}
use Rattle.nr_symbol_tables.specs.declared.trap.Trap.{Trap}
use Rattle.nr_symbol_tables.specs.declared.word.HyphenationWord.{HyphenationWord}
use Rattle.nr_levels.specs.Levels.{Levels}
use Rattle.nr_levels.specs.Gathering.{Gathering, none_gathered, gathered_len, bytes_in}
use Rattle.nr_store.specs.declared.named.Sense.{Sense}
use Rattle.nr_store.specs.declared.element.Element.{Element}
use Rattle.nr_store.specs.declared.element.Draft.{Draft}
use Rattle.nr_store.specs.declared.refusal.Refusal.{Refusal}
use Rattle.nr_store.specs.declared.refusal.Refusal.TheVariants as refusals
use Rattle.nr_store.specs.declared.register.Register.{Register}
use Rattle.nr_store.specs.Senses.{text_id}
use Rattle.nr_store.specs.Store.{Stored, called, checked, shared_by, ungathered, words as words_of}
use Rattle.nr_store.specs.Holders.{Beside, beside_of, stored_of, IsStore}
use Rattle.nr_store.proofs.Admitting.{answer_admitted, answer_deep, answer_refused, depths, named_text}
use Rattle.nr_store.proofs.Building.{Within, is_within}
use Rattle.nr_store.proofs.Besides.{beside_paid, beside_stands}

-- with no arguments being read
abbrev pub cleared : Gathering → SymbolTable Register → Items Trap → Items HyphenationWord → Beside
cleared gathering registers traps words = beside_of (record gathering { gathered = none_gathered }) registers traps words

module _ {K : Type 0} (p : Texts Element) (names : SymbolTable Sense) (drafts : Items Draft) (levels : Levels K) (gathering : Gathering) (registers : SymbolTable Register) (traps : Items Trap) (words : Items HyphenationWord) (charge limit : ℕ)
    (h : IsStore p names drafts levels (beside_of gathering registers traps words) charge limit) where
  pub clear_stands : IsStore p names drafts levels (cleared gathering registers traps words) (charge - gathered_len gathering.gathered) limit
  clear_stands =
      let below = h.within in
      let paid = beside_paid p names drafts levels (beside_of gathering registers traps words) charge limit h in
      let suffice = h.beside_suffices in
      beside_stands p names drafts levels (beside_of gathering registers traps words) charge limit h (cleared gathering registers traps words) (charge - gathered_len gathering.gathered) (omega arith) (omega arith)
      (record { gathering = suffice.gathering; registers = suffice.registers; traps = suffice.traps; words = suffice.words })

  pub clear_within : (v : Stored K) → stored_of p names.entries drafts.items levels (beside_of gathering registers traps words) limit ≡ v → Within (ungathered v) (charge - gathered_len gathering.gathered) limit
  clear_within v view =
      is_within p names drafts levels (cleared gathering registers traps words) (charge - gathered_len gathering.gathered) limit (ungathered v) clear_stands (ap ungathered view)

  -- where the name has a text
  module _ (v : Stored K) (view : stored_of p names.entries drafts.items levels (beside_of gathering registers traps words) limit ≡ v) (name : List ℕ) (id : ℕ) (o : Option ℕ) (is : o ≡ text_id (find name names.entries)) (some : o ≡ Some id) where
    found : (r : Result Bool Refusal) → checked (called name (Some (text p id)) v) true ≡ r → checked (called name (words_of (find name v.names)) v) (is_some (words_of (find name v.names))) ≡ r
    found r answer =
        ap (λ q. checked (called name q v) (is_some q)) (named_text p names.entries drafts.items levels (beside_of gathering registers traps words) limit name o v view is ∙ ap (option_map (text p)) some) ∙ answer

    same_bytes : bytes_in gathering.gathered.kept ≡ bytes_in v.gathered.kept
    same_bytes = ap (λ (w : Stored _). bytes_in w.gathered.kept) view

    -- the call would pass the limit
    pub call_refused : limit < charge - gathered_len gathering.gathered + (16 + bytes_in gathering.gathered.kept) → checked (called name (words_of (find name v.names)) v) (is_some (words_of (find name v.names))) ≡ Err refusals.Stored
    call_refused above =
        found (Err refusals.Stored) (answer_refused (charge - gathered_len gathering.gathered) limit (16 + bytes_in v.gathered.kept) None v.gathered.kept (ungathered v) (text p id) (shared_by name (text p id) v.texts) refl true (clear_within v view) (omega (arith, above, same_bytes)))

    -- there are as many levels as there may be
    pub call_deep : charge - gathered_len gathering.gathered + (16 + bytes_in gathering.gathered.kept) ≤ limit → levels.most ≤ length levels.levels → checked (called name (words_of (find name v.names)) v) (is_some (words_of (find name v.names))) ≡ Err refusals.Depth
    call_deep room full =
        let same = depths p names.entries drafts.items levels (beside_of gathering registers traps words) limit v view in
        found (Err refusals.Depth) (answer_deep (charge - gathered_len gathering.gathered) limit (16 + bytes_in v.gathered.kept) None v.gathered.kept (ungathered v) (text p id) (shared_by name (text p id) v.texts) refl true (clear_within v view) (omega (arith, room, same_bytes)) (omega (arith, full, same.same_most, same.same_depth)))

    -- there are fewer
    pub call_admitted : charge - gathered_len gathering.gathered + (16 + bytes_in gathering.gathered.kept) ≤ limit → length levels.levels < levels.most → checked (called name (words_of (find name v.names)) v) (is_some (words_of (find name v.names))) ≡ Ok true
    call_admitted room deeper =
        let same = depths p names.entries drafts.items levels (beside_of gathering registers traps words) limit v view in
        found (Ok true) (answer_admitted (charge - gathered_len gathering.gathered) limit (16 + bytes_in v.gathered.kept) None v.gathered.kept (ungathered v) (text p id) (shared_by name (text p id) v.texts) refl true (clear_within v view) (omega (arith, room, same_bytes)) (omega (arith, deeper, same.same_most, same.same_depth)))
