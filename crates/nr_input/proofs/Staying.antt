-- What is pending begins no diversion.
use Rattle.std.specs.Prelude.{slice_index}
use Rattle.std.specs.Option.{option_and_then}
use Rattle.std.proofs.Common.{◌≡◌, ℕ, ◌≤◌, Bool, true, false, if◌then◌else◌, List, [], ◌∷◌, Option, None, Some, Result, Ok, Err, refl, ap, sym, subst, arith}
use Rattle.std.proofs.lemmas.List.Sums.{sum_by-cons}
use Rattle.nr_symbol_tables.specs.Table.{find}
use Rattle.nr_levels.specs.Levels.{argument}
use Rattle.nr_store.specs.Store.{Stored, Built, begun, text_of, added, on_newest, longer, defined, named_newest, words, entered, called as called_text, reading_bytes, gathering, gathered_whole, register_of, written, gone_on}
use Rattle.nr_store.specs.declared.element.Element.{Element}
use Rattle.nr_store.specs.declared.element.Element.TheVariants as elements
use Rattle.nr_store.specs.declared.named.Meaning.{Meaning}
use Rattle.nr_store.specs.declared.named.Meaning.TheVariants as meanings
use Rattle.nr_store.specs.declared.register.Register.{Register}
use Rattle.nr_reading.specs.declared.ask.Sign.TheVariants as signs
use Rattle.nr_reading.specs.declared.event.Event.{Event}
use Rattle.nr_reading.specs.declared.mode.PendingAct.{PendingAct}
use Rattle.nr_reading.specs.declared.mode.PendingAct.TheVariants as pending_acts
use Rattle.nr_reading.specs.Definitions.{last_line}
use Rattle.nr_input.specs.declared.reader.Reader.{Reader}
use Rattle.nr_input.specs.declared.refusal.Refusal.{Refusal}
use Rattle.nr_input.specs.declared.refusal.Refusal.TheVariants as refusals
use Rattle.nr_input.specs.Acting.{name_in, register_text, meaning_in, after_meaning, act}
use Rattle.nr_input.specs.Refusal.{answer, Called, called, stored_by, acted}
use Rattle.nr_input.specs.Weights.{diversions_of, diversions_in}

-- no more texts that are being built have a diversion
record NoMore {K : Type 0} (v w : Stored K) : Type 0 where
  pub within : diversions_in w.building ≤ diversions_in v.building

same : {K : Type 0} (v w : Stored K) → w.building ≡ v.building → NoMore v w
same v w is = let counts = ap diversions_in is in record { within = omega arith }

-- ---- what is built

begun_more : {K : Type 0} (text : List Element) (v : Stored K) → NoMore v (begun text None v)
begun_more text v = record { within = omega (arith, sum_by-cons diversions_of (record { text = text; diversion = None }) v.building) }

base_more : {K : Type 0} (appends : Bool) (name : List ℕ) (v : Stored K) → NoMore v (if appends then begun (text_of name v) None v else begun [] None v)
base_more true name v = begun_more (text_of name v) v
base_more false name v = begun_more [] v

pub longer_count : (xs : List Element) (building : List Built) → diversions_in (on_newest (longer xs) building) ≡ diversions_in building
longer_count xs [] = refl
longer_count xs (b ∷ bs) = omega (arith, sum_by-cons diversions_of (longer xs b) bs, sum_by-cons diversions_of b bs)

added_more : {K : Type 0} (xs : List Element) (v : Stored K) → NoMore v (added xs v)
added_more xs v = record { within = omega (arith, longer_count xs v.building) }

named_more : {K : Type 0} (building : List Built) (name : List ℕ) (v : Stored K) → v.building ≡ building → NoMore v (named_newest building name v)
named_more [] name v is = same v v refl
named_more (b ∷ bs) name v is = let counts = ap diversions_in is in record { within = omega (arith, sum_by-cons diversions_of b bs) }

naming_more : {K : Type 0} (keeps : Bool) (name : List ℕ) (v : Stored K) → NoMore v (if keeps then defined name v else v)
naming_more true name v = named_more v.building name v refl
naming_more false name v = same v v refl

-- ---- what is only read, or counted

entered_more : {K : Type 0} (name : List ℕ) (text : Option (List Element)) (v : Stored K) → NoMore v (entered name text None v)
entered_more name None v = same v v refl
entered_more name (Some text) v = same v (entered name (Some text) None v) refl

called_more : {K : Type 0} (name : List ℕ) (text : Option (List Element)) (v : Stored K) → NoMore v (called_text name text v)
called_more name None v = same v (called_text name None v) refl
called_more name (Some text) v = same v (called_text name (Some text) v) refl

written_more : {K : Type 0} (x : Option Register) (name : List ℕ) (v : Stored K) → NoMore v (written x name v)
written_more None name v = same v v refl
written_more (Some x) name v = same v (written (Some x) name v) refl

meaning_more : {K : Type 0} (m : Meaning) (v : Stored K) → NoMore v (after_meaning m v)
meaning_more meanings.Text v = same v (after_meaning meanings.Text v) refl
meaning_more m v = same v v refl

-- ---- all of it

pending_more : {K : Type 0} (d : PendingAct) (v : Stored K) (r : Reader) → NoMore v (act d v r).stored
pending_more pending_acts.Look v r = same v v refl
pending_more pending_acts.Begin v r = base_more r.half.notes.defining.appends (name_in r) v
pending_more (pending_acts.Add b) v r = added_more (elements.Byte b ∷ []) v
pending_more (pending_acts.Release held n b) v r = added_more (elements.Byte (slice_index (last_line r.half.notes.defining) n) ∷ []) v
pending_more pending_acts.Define v r = naming_more r.half.notes.defining.keeps (name_in r) v
pending_more pending_acts.DefineAndCall v r = naming_more r.half.notes.defining.keeps (name_in r) v
pending_more pending_acts.CallEnding v r = entered_more r.half.notes.defining.ending (words (find r.half.notes.defining.ending v.names)) v
pending_more pending_acts.Splice v r = entered_more r.half.notes.asked (words (find r.half.notes.asked v.names)) v
pending_more (pending_acts.Register signs.None) v r = same v (reading_bytes (register_text (register_of (find r.half.notes.asked v.registers))) v) refl
pending_more (pending_acts.Register signs.Plus) v r = written_more (option_and_then (gone_on true) (find r.half.notes.asked v.registers)) r.half.notes.asked v
pending_more (pending_acts.Register signs.Minus) v r = written_more (option_and_then (gone_on false) (find r.half.notes.asked v.registers)) r.half.notes.asked v
pending_more (pending_acts.Argument n) v r = same v (reading_bytes (argument v.arguments n) v) refl
pending_more (pending_acts.Put b) v r = same v (gathering b v) refl
pending_more pending_acts.EndArgument v r = same v (gathered_whole v) refl
pending_more pending_acts.Call v r = called_more (name_in r) (words (find (name_in r) v.names)) v
pending_more pending_acts.Seek v r = meaning_more (meaning_in v r) v
pending_more (pending_acts.Judge b) v r = same v v refl
pending_more (pending_acts.Lead n) v r = same v v refl
pending_more pending_acts.Expanded v r = same v v refl

stored_by_more : {K : Type 0} (x : Result (Unit {0}) Refusal) (v w : Stored K) → NoMore v w → NoMore v (stored_by x w v)
stored_by_more (Ok x) v w few = few
stored_by_more (Err refusals.Expansions) v w few = few
stored_by_more (Err e) v w few = same v v refl

-- the same, as the program has it
pub act_begins_none : {K : Type 0} (v w : Stored K) (r s : Reader) (x : Result Event Refusal) → called w s x ≡ acted r.half.reading.pending_act v r
    → diversions_in w.building ≤ diversions_in v.building
act_begins_none {K} v w r s x is =
    let d = r.half.reading.pending_act in
    let there : w ≡ stored_by (answer d v r) (act d v r).stored v = ap (λ (c : Called K (Result Event Refusal)). c.stored) is in
    let few : NoMore v w = subst (λ (y : Stored K). NoMore v y) (sym there) (stored_by_more (answer d v r) v (act d v r).stored (pending_more d v r)) in few.within
