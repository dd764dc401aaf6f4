-- What is pending leads to the same under any limits, and what is made under some is made under wider ones.
use Rattle.std.specs.Prelude.{nat_le, nat_lt, length}
use Rattle.std.specs.Option.{option_and_then}
use Rattle.std.proofs.lemmas.Bool.{ltb-false, leb-false}
use Rattle.std.proofs.lemmas.Bool.Decides.{nat_tests}
use Rattle.std.proofs.Common.{◌≡◌, ℕ, ◌≤◌, Bool, true, false, if◌then◌else◌, List, [], ◌∷◌, Option, None, Some, Result, Ok, Err, refl, ap, ap₂, sym, ◌∙◌, arith}
use Rattle.nr_symbol_tables.specs.Table.{find}
use Rattle.nr_store.specs.Store.{Stored, Built, charge_of, begun, text_of, defined, named_newest, words, entered, called, written, gone_on}
use Rattle.nr_store.specs.declared.element.Element.{Element}
use Rattle.nr_store.specs.declared.named.Meaning.{Meaning}
use Rattle.nr_store.specs.declared.named.Meaning.TheVariants as meanings
use Rattle.nr_store.specs.declared.refusal.Refusal.TheVariants as stores
use Rattle.nr_store.specs.declared.register.Register.{Register}
use Rattle.nr_reading.specs.declared.ask.Sign.TheVariants as signs
use Rattle.nr_reading.specs.declared.event.Event.TheVariants as events
use Rattle.nr_reading.specs.declared.mode.PendingAct.{PendingAct}
use Rattle.nr_reading.specs.declared.mode.PendingAct.TheVariants as pending_acts
use Rattle.nr_reading.specs.Seeking.{sought, sought_event}
use Rattle.nr_input.specs.declared.reader.Reader.{Reader}
use Rattle.nr_input.specs.declared.refusal.Refusal.{Refusal}
use Rattle.nr_input.specs.declared.refusal.Refusal.TheVariants as refusals
use Rattle.nr_input.specs.Acting.{Acted, done, splicing, has_text, name_in, then_pending, idle, meaning_in, after_meaning, after_definition, act, calls_of, request_of, next}
use Rattle.nr_input.specs.Refusal.{Asking, Nothing, Bytes, Splice, Refused, asking, answer_to, answer, storing_by, splicing_by, expanding_answer}
use Rattle.nr_laws.specs.Limited.{stored_under, reader_under}

-- ---- what is pending does not depend on limits

-- with these limits
abbrev pub acted_under : {K : Type 0} → ℕ → ℕ → ℕ → Acted K → Acted K
acted_under l d m a = done a.event (stored_under l d a.stored) (reader_under m a.reader)

base_under : {K : Type 0} (l d : ℕ) (b : Bool) (name : List ℕ) (v : Stored K)
    → (if b then begun (text_of name (stored_under l d v)) None (stored_under l d v) else begun [] None (stored_under l d v))
    ≡ stored_under l d (if b then begun (text_of name v) None v else begun [] None v)
base_under l d true name v = refl
base_under l d false name v = refl

named_under : {K : Type 0} (l d : ℕ) (bs : List Built) (name : List ℕ) (v : Stored K)
    → named_newest bs name (stored_under l d v) ≡ stored_under l d (named_newest bs name v)
named_under l d [] name v = refl
named_under l d (b ∷ bs) name v = refl

naming_under : {K : Type 0} (l d : ℕ) (keeps : Bool) (name : List ℕ) (v : Stored K)
    → (if keeps then defined name (stored_under l d v) else stored_under l d v) ≡ stored_under l d (if keeps then defined name v else v)
naming_under l d true name v = named_under l d v.building name v
naming_under l d false name v = refl

pub entered_under : {K : Type 0} (l d : ℕ) (name : List ℕ) (text : Option (List Element)) (k : Option K) (v : Stored K)
    → entered name text k (stored_under l d v) ≡ stored_under l d (entered name text k v)
entered_under l d name None k v = refl
entered_under l d name (Some text) k v = refl

called_under : {K : Type 0} (l d : ℕ) (name : List ℕ) (text : Option (List Element)) (v : Stored K) → called name text (stored_under l d v) ≡ stored_under l d (called name text v)
called_under l d name None v = refl
called_under l d name (Some text) v = refl

pub written_under : {K : Type 0} (l d : ℕ) (x : Option Register) (name : List ℕ) (v : Stored K)
    → written x name (stored_under l d v) ≡ stored_under l d (written x name v)
written_under l d None name v = refl
written_under l d (Some x) name v = refl

meaning_under : {K : Type 0} (l d : ℕ) (m : Meaning) (v : Stored K) → after_meaning m (stored_under l d v) ≡ stored_under l d (after_meaning m v)
meaning_under l d meanings.Text v = refl
meaning_under l d m v = refl

splicing_under : {K : Type 0} (l d m : ℕ) (is_text : Bool) (w : Stored K) (r : Reader) → splicing is_text (stored_under l d w) (reader_under m r) ≡ acted_under l d m (splicing is_text w r)
splicing_under l d m true w r = refl
splicing_under l d m false w r = refl

name_under : {K : Type 0} (l d m : ℕ) (name : List ℕ) (is_text : Bool) (text : Option (List Element)) (v : Stored K) (r : Reader)
    → splicing is_text (entered name text None (stored_under l d v)) (reader_under m r) ≡ acted_under l d m (splicing is_text (entered name text None v) r)
name_under l d m name is_text text v r =
    ap (λ w. splicing is_text w (reader_under m r)) (entered_under l d name text None v) ∙ splicing_under l d m is_text (entered name text None v) r

pub act-under : {K : Type 0} (l d m : ℕ) (pending_act : PendingAct) (v : Stored K) (r : Reader) → act pending_act (stored_under l d v) (reader_under m r) ≡ acted_under l d m (act pending_act v r)
act-under l d m pending_acts.Look v r = refl
act-under l d m pending_acts.Begin v r = ap (λ w. done events.Nothing w (reader_under m (idle r))) (base_under l d r.half.notes.defining.appends (name_in r) v)
act-under l d m (pending_acts.Add b) v r = refl
act-under l d m (pending_acts.Release held n b) v r = refl
act-under l d m pending_acts.Define v r = ap (λ w. done events.Nothing w (reader_under m (idle r))) (naming_under l d r.half.notes.defining.keeps (name_in r) v)
act-under l d m pending_acts.DefineAndCall v r =
    ap (λ w. done events.Nothing w (reader_under m (then_pending (after_definition r) r))) (naming_under l d r.half.notes.defining.keeps (name_in r) v)
act-under l d m pending_acts.CallEnding v r =
    let name = r.half.notes.defining.ending in name_under l d m name (has_text name v) (words (find name v.names)) v r
act-under l d m pending_acts.Splice v r = let name = r.half.notes.asked in name_under l d m name (has_text name v) (words (find name v.names)) v r
act-under l d m (pending_acts.Register signs.None) v r = refl
act-under l d m (pending_acts.Register signs.Plus) v r =
    ap (λ w. done events.Nothing w (reader_under m (then_pending (pending_acts.Register signs.None) r))) (written_under l d (option_and_then (gone_on true) (find r.half.notes.asked v.registers)) r.half.notes.asked v)
act-under l d m (pending_acts.Register signs.Minus) v r =
    ap (λ w. done events.Nothing w (reader_under m (then_pending (pending_acts.Register signs.None) r))) (written_under l d (option_and_then (gone_on false) (find r.half.notes.asked v.registers)) r.half.notes.asked v)
act-under l d m (pending_acts.Argument n) v r = refl
act-under l d m (pending_acts.Put b) v r = refl
act-under l d m pending_acts.EndArgument v r = refl
act-under l d m pending_acts.Call v r =
    let text = words (find (name_in r) v.names) in
    let is_text = has_text (name_in r) v in
    ap (λ w. splicing is_text w (reader_under m r)) (called_under l d (name_in r) text v) ∙ splicing_under l d m is_text (called (name_in r) text v) r
act-under l d m pending_acts.Seek v r =
    let q = meaning_in v r in
    ap (λ w. done (sought_event (calls_of q)) w (record (reader_under m r) { half = sought (calls_of q) (next pending_acts.Look r.half); request = request_of q r.request })) (meaning_under l d q v)
act-under l d m (pending_acts.Judge b) v r = refl
act-under l d m (pending_acts.Lead n) v r = refl
act-under l d m pending_acts.Expanded v r = refl

-- nor does what it asks of them
asking-under : {K : Type 0} (l d m : ℕ) (pending_act : PendingAct) (v : Stored K) (r : Reader) → asking pending_act (stored_under l d v) (reader_under m r) ≡ asking pending_act v r
asking-under l d m (pending_acts.Register signs.None) v r = refl
asking-under l d m (pending_acts.Register signs.Plus) v r = refl
asking-under l d m (pending_acts.Register signs.Minus) v r = refl
asking-under l d m pending_act v r = refl

answer-under : {K : Type 0} (l d m : ℕ) (pending_act : PendingAct) (v : Stored K) (r : Reader)
    → answer pending_act (stored_under l d v) (reader_under m r) ≡ answer_to (asking pending_act v r) (stored_under l d (act pending_act v r).stored) (reader_under m r)
answer-under {K} l d m pending_act v r =
    ap₂ (λ (a : Asking) (x : Acted K). answer_to a x.stored (reader_under m r)) (asking-under l d m pending_act v r) (act-under l d m pending_act v r)

-- ---- what is allowed under some limits is allowed under wider ones

-- a test that fails at a number fails at a greater one
pub lt-wider : (a b n : ℕ) → a ≤ b → nat_lt a n ≡ false → nat_lt b n ≡ false
lt-wider a b n wider e = let h = ltb-false a n e in grind (arith, nat_tests)

le-wider : (a b n : ℕ) → a ≤ b → nat_le a n ≡ false → nat_le b n ≡ false
le-wider a b n wider e = let h = leb-false a n e in grind (arith, nat_tests)

-- what is stored, by the test that it meets
abbrev stored_test : Bool → Result (Unit {0}) Refusal
stored_test charged = storing_by (if charged then Err (record {}) else Ok tt)

stored_wider : (b c : Bool) → (b ≡ false → c ≡ false) → stored_test b ≡ Ok tt → stored_test c ≡ Ok tt
stored_wider true c wider ok = cc
stored_wider false true wider ok = cc (wider refl)
stored_wider false false wider ok = refl

-- a splice more
abbrev splices_test : Bool → Result (Unit {0}) Refusal
splices_test full = if full then Err refusals.Expansions else Ok tt

splices_wider : (b c : Bool) → (b ≡ false → c ≡ false) → splices_test b ≡ Ok tt → splices_test c ≡ Ok tt
splices_wider true c wider ok = cc
splices_wider false true wider ok = cc (wider refl)
splices_wider false false wider ok = refl

-- what is spliced
abbrev splicing_test : Bool → Bool → Bool → Reader → Result (Unit {0}) Refusal
splicing_test charged deep is_text r = splicing_by (if charged then Err stores.Stored else (if deep then Err stores.Depth else Ok is_text)) r

splicing_wider : (charged deep charged' deep' is_text : Bool) (r r' : Reader) → (charged ≡ false → charged' ≡ false) → (deep ≡ false → deep' ≡ false)
    → (expanding_answer r ≡ Ok tt → expanding_answer r' ≡ Ok tt) → splicing_test charged deep is_text r ≡ Ok tt → splicing_test charged' deep' is_text r' ≡ Ok tt
splicing_wider true deep charged' deep' is_text r r' a b c ok = cc
splicing_wider false true charged' deep' is_text r r' a b c ok = cc
splicing_wider false false true deep' is_text r r' a b c ok = cc (a refl)
splicing_wider false false false true is_text r r' a b c ok = cc (b refl)
splicing_wider false false false false true r r' a b c ok = c ok
splicing_wider false false false false false r r' a b c ok = refl

module _ {K : Type 0} (l l' d d' m m' : ℕ) (few : l ≤ l') (shallow : d ≤ d') (rare : m ≤ m') where
  answered_wider : (a : Asking) (w : Stored K) (r : Reader) → answer_to a (stored_under l d w) (reader_under m r) ≡ Ok tt → answer_to a (stored_under l' d' w) (reader_under m' r) ≡ Ok tt
  answered_wider Nothing w r ok = refl
  answered_wider Bytes w r ok = stored_wider (nat_lt l (charge_of w)) (nat_lt l' (charge_of w)) (lt-wider l l' (charge_of w) few) ok
  answered_wider (Splice is_text) w r ok =
      splicing_wider (nat_lt l (charge_of w)) (nat_lt d (length w.levels)) (nat_lt l' (charge_of w)) (nat_lt d' (length w.levels)) is_text (reader_under m r) (reader_under m' r)
      (lt-wider l l' (charge_of w) few) (lt-wider d d' (length w.levels) shallow) (splices_wider (nat_le m r.burst) (nat_le m' r.burst) (le-wider m m' r.burst rare)) ok
  answered_wider Refused w r ok = cc

  pub answer-wider : (pending_act : PendingAct) (v : Stored K) (r : Reader) → answer pending_act (stored_under l d v) (reader_under m r) ≡ Ok tt → answer pending_act (stored_under l' d' v) (reader_under m' r) ≡ Ok tt
  answer-wider pending_act v r ok =
      answer-under l' d' m' pending_act v r ∙ answered_wider (asking pending_act v r) (act pending_act v r).stored r (sym (answer-under l d m pending_act v r) ∙ ok)
