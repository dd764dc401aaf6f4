-- No call changes the limits, whether it is refused or not.
use Rattle.std.specs.Option.{option_and_then}
use Rattle.std.proofs.Common.{◌≡◌, ℕ, Bool, true, false, if◌then◌else◌, List, [], ◌∷◌, Option, None, Some, Result, Ok, Err, refl, ap, ◌∙◌}
use Rattle.nr_symbol_tables.specs.Table.{find}
use Rattle.nr_store.specs.Store.{Stored, Built, Level, Read, Mark, Reading, begun, text_of, defined, named_newest, words, entered, called as called_text, reading_bytes, written, gone_on, left, left_of}
use Rattle.nr_store.specs.declared.element.Element.{Element}
use Rattle.nr_store.specs.declared.named.Meaning.{Meaning}
use Rattle.nr_store.specs.declared.named.Meaning.TheVariants as meanings
use Rattle.nr_store.specs.declared.register.Register.{Register}
use Rattle.nr_reading.specs.declared.ask.Sign.TheVariants as signs
use Rattle.nr_reading.specs.declared.event.Event.{Event}
use Rattle.nr_reading.specs.declared.mode.PendingAct.{PendingAct}
use Rattle.nr_reading.specs.declared.mode.PendingAct.TheVariants as pending_acts
use Rattle.nr_input.specs.declared.reader.Reader.{Reader}
use Rattle.nr_input.specs.declared.refusal.Refusal.{Refusal}
use Rattle.nr_input.specs.declared.refusal.Refusal.TheVariants as refusals
use Rattle.nr_input.specs.Acting.{act, splicing, has_text, name_in, meaning_in, after_meaning, expanded}
use Rattle.nr_input.specs.Limits.{Limits, limits_of}
use Rattle.nr_input.specs.Refusal.{Called, called, called_by, answer, acted, splicing_answer}
use Rattle.nr_input.specs.Splicing.{giving}

-- ---- what is stored

base-limits : {K : Type 0} (appends : Bool) (name : List ℕ) (v : Stored K) (r : Reader) → limits_of (if appends then begun (text_of name v) None v else begun [] None v) r ≡ limits_of v r
base-limits true name v r = refl
base-limits false name v r = refl

named-limits : {K : Type 0} (building : List Built) (name : List ℕ) (v : Stored K) (r : Reader) → limits_of (named_newest building name v) r ≡ limits_of v r
named-limits [] name v r = refl
named-limits (b ∷ bs) name v r = refl

naming-limits : {K : Type 0} (keeps : Bool) (name : List ℕ) (v : Stored K) (r : Reader) → limits_of (if keeps then defined name v else v) r ≡ limits_of v r
naming-limits true name v r = named-limits v.building name v r
naming-limits false name v r = refl

entered-limits : {K : Type 0} (name : List ℕ) (text : Option (List Element)) (k : Option K) (v : Stored K) (r : Reader) → limits_of (entered name text k v) r ≡ limits_of v r
entered-limits name None k v r = refl
entered-limits name (Some text) k v r = refl

called-limits : {K : Type 0} (name : List ℕ) (text : Option (List Element)) (v : Stored K) (r : Reader) → limits_of (called_text name text v) r ≡ limits_of v r
called-limits name None v r = refl
called-limits name (Some text) v r = refl

written-limits : {K : Type 0} (x : Option Register) (name : List ℕ) (v : Stored K) (r : Reader) → limits_of (written x name v) r ≡ limits_of v r
written-limits None name v r = refl
written-limits (Some x) name v r = refl

meaning-limits : {K : Type 0} (m : Meaning) (v : Stored K) (r : Reader) → limits_of (after_meaning m v) r ≡ limits_of v r
meaning-limits meanings.Text v r = refl
meaning-limits m v r = refl

left_of-limits : {K : Type 0} (text : List Element) (l : Reading K) (ls : List (Level K)) (v : Stored K) (r : Reader) → limits_of (left_of text l ls v) r ≡ limits_of v r
left_of-limits [] l ls v r = refl
left_of-limits (x ∷ xs) l ls v r = refl

-- after what comes next
pub left-limits : {K : Type 0} (levels : List (Level K)) (v : Stored K) (r : Reader) → limits_of (left levels v) r ≡ limits_of v r
left-limits [] v r = refl
left-limits (Read l ∷ ls) v r = left_of-limits l.rest l ls v r
left-limits (Mark mode ∷ ls) v r = refl

-- ---- what is pending

splicing-limits : {K : Type 0} (is_text : Bool) (w : Stored K) (r : Reader) → limits_of (splicing is_text w r).stored (splicing is_text w r).reader ≡ limits_of w r
splicing-limits true w r = refl
splicing-limits false w r = refl

act-limits : {K : Type 0} (d : PendingAct) (v : Stored K) (r : Reader) → limits_of (act d v r).stored (act d v r).reader ≡ limits_of v r
act-limits pending_acts.Look v r = refl
act-limits pending_acts.Begin v r = base-limits r.half.notes.defining.appends (name_in r) v r
act-limits (pending_acts.Add b) v r = refl
act-limits (pending_acts.Release held n b) v r = refl
act-limits pending_acts.Define v r = naming-limits r.half.notes.defining.keeps (name_in r) v r
act-limits pending_acts.DefineAndCall v r = naming-limits r.half.notes.defining.keeps (name_in r) v r
act-limits pending_acts.CallEnding v r =
    let name = r.half.notes.defining.ending in
    splicing-limits (has_text name v) (entered name (words (find name v.names)) None v) r ∙ entered-limits name (words (find name v.names)) None v r
act-limits pending_acts.Splice v r =
    let name = r.half.notes.asked in
    splicing-limits (has_text name v) (entered name (words (find name v.names)) None v) r ∙ entered-limits name (words (find name v.names)) None v r
act-limits (pending_acts.Register signs.None) v r = refl
act-limits (pending_acts.Register signs.Plus) v r = written-limits (option_and_then (gone_on true) (find r.half.notes.asked v.registers)) r.half.notes.asked v r
act-limits (pending_acts.Register signs.Minus) v r = written-limits (option_and_then (gone_on false) (find r.half.notes.asked v.registers)) r.half.notes.asked v r
act-limits (pending_acts.Argument n) v r = refl
act-limits (pending_acts.Put b) v r = refl
act-limits pending_acts.EndArgument v r = refl
act-limits pending_acts.Call v r =
    let name = name_in r in
    splicing-limits (has_text name v) (called_text name (words (find name v.names)) v) r ∙ called-limits name (words (find name v.names)) v r
act-limits pending_acts.Seek v r = meaning-limits (meaning_in v r) v r
act-limits (pending_acts.Judge b) v r = refl
act-limits (pending_acts.Lead n) v r = refl
act-limits pending_acts.Expanded v r = refl

-- ---- a call that is allowed or not

-- the limits after a call
abbrev limits_after : {K A : Type 0} → Called K A → Limits
limits_after c = limits_of c.stored c.reader

called_by-limits : {K A : Type 0} (x : Result (Unit {0}) Refusal) (new : Stored K) (afterwards : Reader) (a : A) (v : Stored K) (r : Reader)
    → limits_of new afterwards ≡ limits_of v r → limits_after (called_by x new afterwards a v r) ≡ limits_of v r
called_by-limits (Ok x) new afterwards a v r same = same
called_by-limits (Err refusals.Expansions) new afterwards a v r same = ap (λ (l : Limits). record l { expansions = r.most }) same
called_by-limits (Err e) new afterwards a v r same = refl

module _ {K : Type 0} (v w : Stored K) (r s : Reader) where
  -- what is pending
  pub act_stays : (d : PendingAct) (x : Result Event Refusal) → called w s x ≡ acted d v r → limits_of w s ≡ limits_of v r
  act_stays d x is =
      ap (λ (c : Called K (Result Event Refusal)). limits_after c) is ∙ called_by-limits (answer d v r) (act d v r).stored (act d v r).reader (act d v r).event v r (act-limits d v r)

  -- what is given
  pub give_stays : (bytes : List ℕ) (x : Result (Unit {0}) Refusal) → called w s x ≡ giving bytes v r → limits_of w s ≡ limits_of v r
  give_stays bytes x is =
      let new = reading_bytes bytes v in
      let done : Unit {0} = tt in
      ap (λ (c : Called K (Result (Unit {0}) Refusal)). limits_after c) is ∙ called_by-limits (splicing_answer true new r) new (expanded r) done v r refl
