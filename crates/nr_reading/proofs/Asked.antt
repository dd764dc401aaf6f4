-- Elements that come to an escape whose argument is half read pay for what it answers.
use Prim.Native.Char.{code}
use Rattle.std.specs.Prelude.{◌&&◌, ◌||◌, not, nat_le}
use Rattle.std.proofs.Common.{◌≡◌, ℕ, ◌+◌, ◌-◌, ◌*◌, ◌≤◌, ◌==◌, Bool, true, false, if◌then◌else◌, List, ◌∷◌, refl, arith}
use Rattle.std.proofs.lemmas.List.Sums.{sum_by-cons}
use Rattle.nr_reading.specs.declared.ask.Ask.{Ask}
use Rattle.nr_reading.specs.declared.ask.Answer.{Answer}
use Rattle.nr_reading.specs.declared.ask.Answer.TheVariants as answers
use Rattle.nr_reading.specs.declared.ask.Kind.{Kind}
use Rattle.nr_reading.specs.declared.ask.Kind.TheVariants as kinds
use Rattle.nr_reading.specs.declared.ask.Sign.{Sign}
use Rattle.nr_reading.specs.declared.ask.Sign.TheVariants as signs
use Rattle.nr_reading.specs.declared.ask.Stage.{Stage}
use Rattle.nr_reading.specs.declared.ask.Stage.TheVariants as stages
use Rattle.nr_reading.specs.declared.event.Event.TheVariants as events
use Rattle.nr_reading.specs.declared.half.Half.{Half}
use Rattle.nr_reading.specs.declared.mode.PendingAct.TheVariants as pending_acts
use Rattle.nr_reading.specs.declared.mode.Escape.{Escape}
use Rattle.nr_reading.specs.declared.mode.Escape.TheVariants as escapes
use Rattle.nr_reading.specs.declared.mode.Mode.{Mode}
use Rattle.nr_reading.specs.declared.mode.Reading.{Reading}
use Rattle.nr_reading.specs.declared.mode.Signs.{Signs}
use Rattle.nr_reading.specs.declared.notes.Notes.{Notes}
use Rattle.nr_reading.specs.declared.spelled.Spelled.{Spelled}
use Rattle.nr_reading.specs.Ask.{is_argument, is_digit, is_unsigned, is_given, answer_byte, answer}
use Rattle.nr_reading.specs.Ended.{pending_of, event_of}
use Rattle.nr_reading.specs.Delimited.{Texts}
use Rattle.nr_reading.specs.Half.{TakenIn, answered, left_escape}
use Rattle.nr_reading.specs.Spelled.{is_blank, is_empty, name_of}
use Rattle.nr_reading.specs.Weights.{cost_of_event, paid_by, weight_by, weight_of_escape, weight_of_backslash, weight_of_half, weight_of_ask, blanks_owed, blanks_of_pending, is_lead}
use Rattle.nr_reading.proofs.Weighing.{at, weight_of_backslash-ge, weight_of_stage-ge}

-- an item has come to what is half read: what comes of it is paid, at so much for the item
pub record TakesIn (h : Half) (worth : ℕ) (m : TakenIn) : Type 0 where
  pub pays : weight_of_half m.half + cost_of_event m.event + 178 * (blanks_owed m.half - blanks_owed h) ≤ weight_of_half h + paid_by m.takes worth
  pub tells : is_lead m.event ≡ false

abbrev pub half_at : Reading → Signs → List Ask → Texts → Notes → Half
half_at r s asks d o = record { reading = r; signs = s; asks = asks; delimited = d; notes = o }

pub left_escape-le : (w : ℕ) (e : Escape) → weight_of_escape w (left_escape e) ≤ weight_of_escape w e
left_escape-le w escapes.Plain = omega arith
left_escape-le w escapes.Begun = omega arith
left_escape-le w escapes.Comment = omega arith

-- ---- what it answers

abbrev weight_of_answer : Answer → ℕ
weight_of_answer (answers.Goes a) = weight_of_ask a
weight_of_answer (answers.Turns a) = weight_of_ask a + 1
weight_of_answer x = 0

pub record Affords (a : Ask) (x : Answer) : Type 0 where
  pub pays : weight_of_answer x ≤ weight_of_ask a

either : {a : Ask} (b : Bool) {x y : Answer} → Affords a x → Affords a y → Affords a (if b then x else y)
either true p q = p
either false p q = q

abbrev asking : Kind → Stage → Spelled → Ask
asking k s n = record { kind = k; stage = s; name = n }

byte_answers : (s : Stage) (b : ℕ) (long : Bool) (k : Kind) (n : Spelled) → Affords (asking k s n) (answer_byte b long s (asking k s n))
byte_answers stages.First b long k n =
    either (is_argument k) (either (nat_le (code "1") b && nat_le b (code "9")) (record { pays = omega arith }) (record { pays = omega arith }))
    (either (b == code "(") (record { pays = omega arith })
    (either ((b == code "[") && long) (record { pays = omega arith })
    (either ((b == code "+") && is_unsigned k) (record { pays = omega arith })
    (either ((b == code "-") && is_unsigned k) (record { pays = omega arith }) (record { pays = omega arith })))))
byte_answers stages.Two b long k n = either (is_empty n.bytes) (record { pays = omega arith }) (record { pays = omega arith })
byte_answers stages.Bracket b long k n =
    either (b == code "]") (record { pays = omega arith }) (either (is_blank b) (record { pays = omega arith }) (record { pays = omega arith }))
byte_answers stages.Delimiter b long k n = record { pays = omega arith }
byte_answers (stages.Inside d) b long k n = either (b == d) (record { pays = omega arith }) (record { pays = omega arith })
byte_answers stages.Sign b long k n = either ((b == code "+") || (b == code "-")) (record { pays = omega arith }) (record { pays = omega arith })
byte_answers (stages.Digit signed) b long k n =
    either (not (is_digit b)) (record { pays = omega arith })
    (either (not signed && nat_le (code "1") b && nat_le b (code "3")) (record { pays = omega arith }) (record { pays = omega arith }))
byte_answers stages.Second b long k n = either (is_digit b) (record { pays = omega arith }) (record { pays = omega arith })

pub answer_answers : (b : ℕ) (long : Bool) (a : Ask) → Affords a (answer b long a)
answer_answers b long a = either (b == code "\n") (record { pays = omega arith }) (byte_answers a.stage b long a.kind a.name)

-- ---- where it has ended, what it splices and what it tells weigh 367

record Ends (k : Kind) (name : List ℕ) (m : Mode) (e : Escape) : Type 0 where
  pub pays : weight_by (pending_of k name) m e + cost_of_event (event_of k name) ≤ weight_by pending_acts.Look m e + 367
  pub blanks : blanks_of_pending (pending_of k name) ≡ 0
  pub tells : is_lead (event_of k name) ≡ false

register_ends : (given : Bool) (s : Sign) (m : Mode) (e : Escape)
    → (weight_by (if given then pending_acts.Look else pending_acts.Register s) m e + cost_of_event (if given then events.Given else events.Nothing) ≤ weight_by pending_acts.Look m e + 367)
    × (blanks_of_pending (if given then pending_acts.Look else pending_acts.Register s) ≡ 0)
    × (is_lead (if given then events.Given else events.Nothing) ≡ false)
register_ends true s m e = (omega arith, refl, refl)
register_ends false signs.None m e = (omega arith, refl, refl)
register_ends false signs.Plus m e = (omega arith, refl, refl)
register_ends false signs.Minus m e = (omega arith, refl, refl)

ends : (k : Kind) (name : List ℕ) (m : Mode) (e : Escape) → Ends k name m e
ends (kinds.Register s) name m e = let r = register_ends (is_given name) s m e in record { pays = r.0; blanks = r.1; tells = r.2 }
ends kinds.String name m e = record { pays = omega arith; blanks = refl; tells = refl }
ends k name m e = record { pays = omega arith; blanks = refl; tells = refl }

-- ---- the next item comes to it

pub next_item_takes_in : (x : Answer) (a : Ask) (asks : List Ask) (m : Mode) (e : Escape) (c n : Bool) (s : Signs) (d : Texts) (o : Notes) → Affords a x
    → let h = half_at (at m e c n) s (a ∷ asks) d o in TakesIn h 256 (answered true x h)
next_item_takes_in (answers.Goes b) a asks m e c n s d o p =
    let new = sum_by-cons weight_of_ask b asks in let old = sum_by-cons weight_of_ask a asks in let q = p.pays in record { pays = omega arith; tells = refl }
next_item_takes_in (answers.Turns b) a asks m e c n s d o p =
    let new = sum_by-cons weight_of_ask b asks in let old = sum_by-cons weight_of_ask a asks in let q = p.pays in record { pays = omega (arith, left_escape-le (weight_of_backslash m) e); tells = refl }
next_item_takes_in (answers.Keeps b) a asks m e c n s d o p = record { pays = omega arith; tells = refl }
next_item_takes_in (answers.Ends b) a asks m e c n s d o p =
    let old = sum_by-cons weight_of_ask a asks in
    let end = ends b.kind (name_of b.name) m escapes.Plain in
    let worth = end.pays in
    let none = end.blanks in
    record { pays = omega (arith, weight_of_stage-ge a.stage); tells = end.tells }
next_item_takes_in (answers.Stops b) a asks m e c n s d o p =
    let old = sum_by-cons weight_of_ask a asks in
    let end = ends b.kind (name_of b.name) m (left_escape e) in
    let worth = end.pays in
    let none = end.blanks in
    record { pays = omega (arith, weight_of_stage-ge a.stage, left_escape-le (weight_of_backslash m) e); tells = end.tells }
next_item_takes_in (answers.Argument k) a asks m e c n s d o p =
    let old = sum_by-cons weight_of_ask a asks in record { pays = omega (arith, weight_of_stage-ge a.stage); tells = refl }

-- ---- a `\` that was begun comes to it

pub backslash_takes_in : (x : Answer) (a : Ask) (asks : List Ask) (m : Mode) (c n : Bool) (s : Signs) (d : Texts) (o : Notes) (w : ℕ) → Affords a x
    → let h = half_at (at m escapes.Begun c n) s (a ∷ asks) d o in TakesIn h w (answered false x h)
backslash_takes_in (answers.Goes b) a asks m c n s d o w p =
    let new = sum_by-cons weight_of_ask b asks in let old = sum_by-cons weight_of_ask a asks in let q = p.pays in record { pays = omega (arith, weight_of_backslash-ge m); tells = refl }
backslash_takes_in (answers.Turns b) a asks m c n s d o w p =
    let new = sum_by-cons weight_of_ask b asks in let old = sum_by-cons weight_of_ask a asks in let q = p.pays in record { pays = omega arith; tells = refl }
backslash_takes_in (answers.Keeps b) a asks m c n s d o w p = record { pays = omega (arith, weight_of_backslash-ge m); tells = refl }
backslash_takes_in (answers.Ends b) a asks m c n s d o w p =
    let old = sum_by-cons weight_of_ask a asks in
    let end = ends b.kind (name_of b.name) m escapes.Plain in
    let worth = end.pays in
    let none = end.blanks in
    record { pays = omega (arith, weight_of_stage-ge a.stage); tells = end.tells }
backslash_takes_in (answers.Stops b) a asks m c n s d o w p =
    let old = sum_by-cons weight_of_ask a asks in
    let end = ends b.kind (name_of b.name) m escapes.Begun in
    let worth = end.pays in
    let none = end.blanks in
    record { pays = omega (arith, weight_of_stage-ge a.stage); tells = end.tells }
backslash_takes_in (answers.Argument k) a asks m c n s d o w p =
    let old = sum_by-cons weight_of_ask a asks in record { pays = omega (arith, weight_of_stage-ge a.stage); tells = refl }

-- ---- it ends where the list does

pub stop_takes_in : (b a : Ask) (asks : List Ask) (m : Mode) (e : Escape) (c n : Bool) (s : Signs) (d : Texts) (o : Notes) (w : ℕ)
    → let h = half_at (at m e c n) s (a ∷ asks) d o in TakesIn h w (answered false (answers.Stops b) h)
stop_takes_in b a asks m e c n s d o w =
    let old = sum_by-cons weight_of_ask a asks in
    let end = ends b.kind (name_of b.name) m (left_escape e) in
    let worth = end.pays in
    let none = end.blanks in
    record { pays = omega (arith, weight_of_stage-ge a.stage, left_escape-le (weight_of_backslash m) e); tells = end.tells }
