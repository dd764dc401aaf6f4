-- What is stored changes in the same way under any limits.
use Rattle.std.specs.Prelude.{nat_lt, length, ◌==◌}
use Rattle.std.proofs.Common.{◌≡◌, ℕ, zero, suc, Bool, true, false, if◌then◌else◌, List, [], ◌∷◌, Option, None, Some, refl, ap, ◌∙◌}
use Rattle.nr_symbol_tables.specs.Table.{find, is_same}
use Rattle.nr_store.specs.declared.element.Diversion.{Diversion}
use Rattle.nr_store.specs.Store.{Stored, Built, Means, named_newest, ended_by, moved, renamed, worded}
use Rattle.nr_settings.specs.Arguments.{word_in, after_word}
use Rattle.nr_options.specs.Limits.{Bounds}
use Rattle.nr_formatter.specs.declared.tasks.Resume.{Resume}
use Rattle.nr_formatter.specs.Names as naming
use Rattle.nr_laws.specs.Limited.{stored_under}

module _ (b : Bounds) where
  abbrev pub stores_under : Stored Resume → Stored Resume
  stores_under v = stored_under b.stored b.depth v

  named-under : (bs : List Built) (name : List ℕ) (v : Stored Resume) → named_newest bs name (stores_under v) ≡ stores_under (named_newest bs name v)
  named-under [] name v = refl
  named-under (x ∷ bs) name v = refl

  pub ended-under : (d : Option Diversion) (v : Stored Resume) → ended_by d (stores_under v) ≡ stores_under (ended_by d v)
  ended-under None v = refl
  ended-under (Some d) v = named-under v.building d.name v

  moved-under : (m : Option Means) (from to : List ℕ) (v : Stored Resume) → moved m from to (stores_under v) ≡ stores_under (moved m from to v)
  moved-under None from to v = refl
  moved-under (Some m) from to v = refl

  store-if : (c : Bool) (v w v' w' : Stored Resume) → v' ≡ stores_under v → w' ≡ stores_under w → (if c then v' else w') ≡ stores_under (if c then v else w)
  store-if true v w v' w' first second = first
  store-if false v w v' w' first second = second

  pub renamed-under : (from to : List ℕ) (v : Stored Resume) → renamed from to (stores_under v) ≡ stores_under (renamed from to v)
  renamed-under from to v =
      store-if (is_same from to) v (moved (find from v.names) from to v) (stores_under v) (moved (find from v.names) from to (stores_under v)) refl (moved-under (find from v.names) from to v)

  worded-under : (word : List ℕ) (v : Stored Resume) → worded word (stores_under v) ≡ stores_under (worded word v)
  worded-under word v = store-if (nat_lt 64 (length word)) v _ (stores_under v) _ refl refl

  pub with_words-under : (n : ℕ) (l : List ℕ) (v : Stored Resume) → naming.with_words n l (stores_under v) ≡ stores_under (naming.with_words n l v)
  with_words-under zero l v = refl
  with_words-under (suc n) l v =
      store-if (length (word_in l) == 0) v (naming.with_words n (after_word l) (worded (word_in l) v)) (stores_under v) (naming.with_words n (after_word l) (worded (word_in l) (stores_under v))) refl
      (ap (λ w. naming.with_words n (after_word l) w) (worded-under (word_in l) v) ∙ with_words-under n (after_word l) (worded (word_in l) v))
