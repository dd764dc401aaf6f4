-- What a call that is allowed or not makes of what is stored and read.
use Rattle.std.proofs.Common.{◌≡◌, Result, Ok, Err, refl, ap, ◌∙◌}
use Rattle.nr_store.specs.Store.{Stored}
use Rattle.nr_reading.specs.declared.event.Event.{Event}
use Rattle.nr_input.specs.declared.reader.Reader.{Reader}
use Rattle.nr_input.specs.declared.refusal.Refusal.{Refusal}
use Rattle.nr_input.specs.Acting.{Acted, done}
use Rattle.nr_input.specs.Refusal.{Called, called, stored_by, reader_by, answered, called_by, acted_by}

answered-ok : {A : Type 0} (x : Result (Unit {0}) Refusal) (a b : A) → Ok b ≡ answered x a → (x ≡ Ok tt) × (b ≡ a)
answered-ok (Ok x) a b is = (refl, cc)
answered-ok (Err e) a b is = cc

answered-err : {A : Type 0} (x : Result (Unit {0}) Refusal) (a : A) (e : Refusal) → Err e ≡ answered x a → x ≡ Err e
answered-err (Ok x) a e is = cc
answered-err (Err y) a e is = cc

-- a call that was allowed leads there
pub record Leads {K A : Type 0} (x : Result (Unit {0}) Refusal) (new : Stored K) (afterwards : Reader) (a : A) (w : Stored K) (s : Reader) (b : A) : Type 0 where
  pub allowed : x ≡ Ok tt
  pub stored : w ≡ new
  pub reader : s ≡ afterwards
  pub answer : b ≡ a

-- one that was not stays there
pub record Stays {K : Type 0} (x : Result (Unit {0}) Refusal) (new : Stored K) (afterwards : Reader) (v : Stored K) (r : Reader) (w : Stored K) (s : Reader) (e : Refusal) : Type 0 where
  pub refused : x ≡ Err e
  pub stored : w ≡ stored_by (Err e) new v
  pub reader : s ≡ reader_by (Err e) afterwards r

pub called-ok : {K A : Type 0} (x : Result (Unit {0}) Refusal) (new : Stored K) (afterwards : Reader) (a : A) (v w : Stored K) (r s : Reader) (b : A)
    → called w s (Ok b) ≡ called_by x new afterwards a v r → Leads x new afterwards a w s b
called-ok {K} {A} x new afterwards a v w r s b is =
    let answers = answered-ok x a b (ap (λ (c : Called K (Result A Refusal)). c.answer) is) in record {
      allowed = answers.0;
      stored = ap (λ (c : Called K (Result A Refusal)). c.stored) is ∙ ap (λ y. stored_by y new v) answers.0;
      reader = ap (λ (c : Called K (Result A Refusal)). c.reader) is ∙ ap (λ y. reader_by y afterwards r) answers.0;
      answer = answers.1;
    }

pub called-err : {K A : Type 0} (x : Result (Unit {0}) Refusal) (new : Stored K) (afterwards : Reader) (a : A) (v w : Stored K) (r s : Reader) (e : Refusal)
    → called w s (Err e) ≡ called_by x new afterwards a v r → Stays x new afterwards v r w s e
called-err {K} {A} x new afterwards a v w r s e is =
    let refused = answered-err x a e (ap (λ (c : Called K (Result A Refusal)). c.answer) is) in record {
      refused = refused;
      stored = ap (λ (c : Called K (Result A Refusal)). c.stored) is ∙ ap (λ y. stored_by y new v) refused;
      reader = ap (λ (c : Called K (Result A Refusal)). c.reader) is ∙ ap (λ y. reader_by y afterwards r) refused;
    }

-- what is pending was done
pub acted-ok : {K : Type 0} (x : Result (Unit {0}) Refusal) (a : Acted K) (v w : Stored K) (r s : Reader) (e : Event)
    → called w s (Ok e) ≡ acted_by x a v r → (x ≡ Ok tt) × (done e w s ≡ a)
acted-ok x a v w r s e is =
    let leads = called-ok x a.stored a.reader a.event v w r s e is in (leads.allowed, rw (leads.stored, leads.reader, leads.answer) refl)

-- a call that answers with another value was allowed or not as this one
pub called-as : {K A B : Type 0} (x : Result (Unit {0}) Refusal) (new : Stored K) (afterwards : Reader) (a : A) (c : B) (v w : Stored K) (r s : Reader) (b : A)
    → called w s (Ok b) ≡ called_by x new afterwards a v r → called w s (Ok c) ≡ called_by x new afterwards c v r
called-as x new afterwards a c v w r s b is =
    let leads = called-ok x new afterwards a v w r s b is in rw (leads.stored, leads.reader, leads.allowed) refl

pub refused-as : {K A B : Type 0} (x : Result (Unit {0}) Refusal) (new : Stored K) (afterwards : Reader) (a : A) (c : B) (v w : Stored K) (r s : Reader) (e : Refusal)
    → called w s (Err e) ≡ called_by x new afterwards a v r → called w s (Err e) ≡ called_by x new afterwards c v r
refused-as x new afterwards a c v w r s e is =
    let stays = called-err x new afterwards a v w r s e is in rw (stays.stored, stays.reader, stays.refused) refl
