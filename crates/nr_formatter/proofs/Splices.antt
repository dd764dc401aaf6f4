-- What a spring answers is what judges the move.
use Rattle.std.specs.Prelude.{is_some, length}
use Rattle.std.proofs.lemmas.Bool.{le-ltb}
use Rattle.std.proofs.Common.{◌≡◌, ℕ, Bool, true, false, List, Option, None, Some, Result, Ok, Err, refl, ap}
use Rattle.nr_symbol_tables.specs.Table.{find}
use Rattle.nr_store.specs.declared.element.Element.{Element}
use Rattle.nr_store.specs.Store.{Stored, charge_of, entered, words}
use Rattle.nr_input.specs.Refusal.{Called, called, answered, splicing_answer}
use Rattle.nr_input.specs.Splicing.{springing, springing_text}
use Rattle.nr_input.specs.declared.reader.Reader.{Reader}
use Rattle.nr_input.specs.declared.refusal.Refusal.{Refusal}
use Rattle.nr_formatter.specs.declared.formatter.Formatter.{Formatter}
use Rattle.nr_formatter.specs.Limits.{IsWithin}
use Rattle.nr_formatter.specs.Registers.{splice_checked}
use Rattle.nr_formatter.specs.Springing.{sprung_text}

-- ---- a name without text

not_unsprung : (x : Result (Unit {0}) Refusal) → Ok false ≡ answered x true → ⊥
not_unsprung (Ok x) q = cc
not_unsprung (Err e) q = cc

unsprung_by : {K : Type 0} (name : List ℕ) (text : Option (List Element)) (mode : K) (v w : Stored K) (r s : Reader)
    → called w s (Ok false) ≡ springing_text (is_some text) (entered name text (Some mode) v) v r → text ≡ None
unsprung_by name None mode v w r s q = refl
unsprung_by {K} name (Some text) mode v w r s q =
    absurd (not_unsprung (splicing_answer true (entered name (Some text) (Some mode) v) r) (ap (λ (c : Called K (Result Bool Refusal)). c.answer) q))

pub unsprung : {K : Type 0} (name : List ℕ) (mode : K) (v w : Stored K) (r s : Reader)
    → called w s (Ok false) ≡ springing name mode v r → words (find name v.names) ≡ None
unsprung name mode v w r s q = unsprung_by name (words (find name v.names)) mode v w r s q

-- where nothing springs, nothing is passed
pub springs_nothing : (f : Formatter) (name : List ℕ) (text : Option (List Element)) → text ≡ None → IsWithin f → Ok tt ≡ splice_checked (sprung_text name text f)
springs_nothing f name None e w =
    rw (le-ltb f.store.limit (charge_of f.store) w.stored, le-ltb f.store.deepest (length f.store.levels) w.depth, le-ltb f.reader.most f.reader.burst w.burst) refl
springs_nothing f name (Some text) e w = cc

pub sprung_none : (f : Formatter) (name : List ℕ) (text : Option (List Element)) → text ≡ None → record f { springs = None } ≡ sprung_text name text f
sprung_none f name None e = refl
sprung_none f name (Some text) e = cc
