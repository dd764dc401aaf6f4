-- What a request leaves of what weighs: all but the page and the macro that springs next.
use Rattle.std.specs.Prelude.{nat_lt, ◌==◌, length}
use Rattle.std.proofs.lemmas.List.Sums.{sum_by-cons}
use Rattle.std.proofs.Common.{◌≡◌, ℕ, zero, suc, ◌+◌, ◌≤◌, List, [], ◌∷◌, Bool, true, false, if◌then◌else◌, Option, Some, None, refl, ap, ◌∙◌, arith}
use Rattle.std.specs.Option.{option_map}
use Rattle.nr_symbol_tables.specs.Table.{find, is_same}
use Rattle.nr_symbol_tables.specs.Word.{word_of}
use Rattle.nr_symbol_tables.specs.declared.trap.Trap.{Trap}
use Rattle.nr_store.specs.declared.element.Diversion.{Diversion}
use Rattle.nr_store.specs.declared.element.Element.{Element}
use Rattle.nr_store.specs.declared.register.Register.{Register}
use Rattle.nr_store.specs.Store.{Stored, Built, Level, Means, begun, moved, renamed, written, worded, trapped, on_newest, named_newest, newest_diversion, ended_by, diversion_ended}
use Rattle.nr_settings.specs.Arguments.{word_in, after_word}
use Rattle.nr_reading.specs.declared.event.Event.{Event}
use Rattle.nr_formatter.specs.declared.formatter.Formatter.{Formatter}
use Rattle.nr_formatter.specs.declared.tasks.Resume.{Resume}
use Rattle.nr_formatter.specs.declared.tasks.Step.{Step}
use Rattle.nr_formatter.specs.declared.tasks.Task.{Task}
use Rattle.nr_formatter.specs.Access.{collected}
use Rattle.nr_formatter.specs.Names.{with_words}
use Rattle.nr_formatter.specs.Weights.{weight_of_built, weight_of_diversion, weight_of_diversions, weight_of_line}
use Rattle.nr_formatter.proofs.Falling.{weight_read}

-- ---- of what is stored

pub record StoreView : Type 0 where
  pub levels : List (Level Resume)
  pub limit : ℕ
  pub diversions : ℕ

abbrev pub seen : Stored Resume → StoreView
seen v = record { levels = v.levels; limit = v.limit; diversions = weight_of_diversions v.building }

-- ---- of all

pub record View : Type 0 where
  pub store : StoreView
  pub burst : ℕ
  pub most : ℕ
  pub read : ℕ
  pub line : ℕ
  pub step : Step
  pub event : Event
  pub task : Task

abbrev pub view : Formatter → View
view f = record {
  store = seen f.store;
  burst = f.reader.burst;
  most = f.reader.most;
  read = weight_read f.reader.half;
  line = weight_of_line (collected f);
  step = f.step;
  event = f.event;
  task = f.task;
}

-- where what is stored is seen the same
pub view-stored : (v : Stored Resume) (f : Formatter) → seen v ≡ seen f.store → view (record f { store = v }) ≡ view f
view-stored v f same = ap (λ (s : StoreView). record (view f) { store = s }) same

pub view-if : (b : Bool) (f g h : Formatter) → view g ≡ view f → view h ≡ view f → view (if b then g else h) ≡ view f
view-if true f g h first second = first
view-if false f g h first second = second

-- with another task
pub view-task : (t : Task) (f g : Formatter) → view g ≡ view f → view (record g { task = t }) ≡ view (record f { task = t })
view-task t f g same = ap (λ (s : View). record s { task = t }) same

-- ---- names, registers

pub seen-written : (r : Option Register) (name : List ℕ) (v : Stored Resume) → seen (written r name v) ≡ seen v
seen-written None name v = refl
seen-written (Some r) name v = refl

seen-moved : (m : Option Means) (from to : List ℕ) (v : Stored Resume) → seen (moved m from to v) ≡ seen v
seen-moved None from to v = refl
seen-moved (Some m) from to v = refl

seen-if : (b : Bool) (u v w : Stored Resume) → seen v ≡ seen u → seen w ≡ seen u → seen (if b then v else w) ≡ seen u
seen-if true u v w first second = first
seen-if false u v w first second = second

pub seen-renamed : (from to : List ℕ) (v : Stored Resume) → seen (renamed from to v) ≡ seen v
seen-renamed from to v = seen-if (is_same from to) v v (moved (find from v.names) from to v) refl (seen-moved (find from v.names) from to v)

-- ---- hyphenation words

seen-worded : (word : List ℕ) (v : Stored Resume) → seen (worded word v) ≡ seen v
seen-worded word v = seen-if (nat_lt 64 (length word)) v v (record v { words = word_of word ∷ v.words }) refl refl

pub seen-with_words : (n : ℕ) (line : List ℕ) (v : Stored Resume) → seen (with_words n line v) ≡ seen v
seen-with_words zero line v = refl
seen-with_words (suc n) line v =
    let w = worded (word_in line) v in
    seen-if (length (word_in line) == 0) v v (with_words n (after_word line) w) refl (seen-with_words n (after_word line) w ∙ seen-worded (word_in line) v)

-- ---- texts being built

with_trap-weighs : (trap : Option Trap) (d : Option Diversion) → weight_of_diversion (option_map (λ (x : Diversion). record x { trap = trap }) d) ≡ weight_of_diversion d
with_trap-weighs trap None = refl
with_trap-weighs trap (Some d) = refl

abbrev with_trap : Option Trap → Built → Built
with_trap trap b = record b { diversion = option_map (λ (d : Diversion). record d { trap = trap }) b.diversion }

trapped-weighs : (trap : Option Trap) (bs : List Built) → weight_of_diversions (on_newest (with_trap trap) bs) ≡ weight_of_diversions bs
trapped-weighs trap [] = refl
trapped-weighs trap (b ∷ bs) =
    omega (arith, sum_by-cons weight_of_built (with_trap trap b) bs, sum_by-cons weight_of_built b bs, with_trap-weighs trap b.diversion)

pub seen-trapped : (trap : Option Trap) (v : Stored Resume) → seen (trapped trap v) ≡ seen v
seen-trapped trap v = ap (λ n. record (seen v) { diversions = n }) (trapped-weighs trap v.building)

-- a diversion more weighs 1, a text that is none nothing
pub begun-weighs : (text : List Element) (d : Option Diversion) (v : Stored Resume) → weight_of_diversions (begun text d v).building ≤ weight_of_diversions v.building + 1
begun-weighs text None v = omega (arith, sum_by-cons weight_of_built (record { text = text; diversion = None }) v.building)
begun-weighs text (Some d) v = omega (arith, sum_by-cons weight_of_built (record { text = text; diversion = Some d }) v.building)

-- one that ends weighs no more
named-keeps : (bs : List Built) (name : List ℕ) (v : Stored Resume) → ((named_newest bs name v).levels ≡ v.levels) × ((named_newest bs name v).limit ≡ v.limit)
named-keeps [] name v = (refl, refl)
named-keeps (b ∷ bs) name v = (refl, refl)

ended-keeps : (d : Option Diversion) (v : Stored Resume) → ((ended_by d v).levels ≡ v.levels) × ((ended_by d v).limit ≡ v.limit)
ended-keeps None v = (refl, refl)
ended-keeps (Some d) v = named-keeps v.building d.name v

pub diversion_ended-keeps : (v : Stored Resume) → ((diversion_ended v).levels ≡ v.levels) × ((diversion_ended v).limit ≡ v.limit)
diversion_ended-keeps v = ended-keeps (newest_diversion v.building) v

named-weighs : (bs : List Built) (d : Diversion) (name : List ℕ) (v : Stored Resume) → newest_diversion bs ≡ Some d
    → weight_of_diversions (named_newest bs name v).building + 1 ≡ weight_of_diversions bs
named-weighs [] d name v newest = cc
named-weighs (b ∷ bs) d name v newest = omega (arith, sum_by-cons weight_of_built b bs, ap weight_of_diversion newest)

-- and 1 less where it is a diversion
pub ended-weighs : (d : Diversion) (v : Stored Resume) → newest_diversion v.building ≡ Some d → weight_of_diversions (diversion_ended v).building + 1 ≡ weight_of_diversions v.building
ended-weighs d v newest = rw newest (named-weighs v.building d d.name v newest)

ended_by-le : (d : Option Diversion) (v : Stored Resume) → newest_diversion v.building ≡ d → weight_of_diversions (ended_by d v).building ≤ weight_of_diversions v.building
ended_by-le None v newest = omega arith
ended_by-le (Some d) v newest = omega (arith, named-weighs v.building d d.name v newest)

pub diversion_ended-le : (v : Stored Resume) → weight_of_diversions (diversion_ended v).building ≤ weight_of_diversions v.building
diversion_ended-le v = ended_by-le (newest_diversion v.building) v refl
