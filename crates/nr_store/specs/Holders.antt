-- Who holds which text of the pool.
use Rattle.std.specs.Prelude.{◌≡◌, ℕ, ◌+◌, ◌/◌, ◌^◌, ◌<◌, ◌≤◌, ◌==◌, nat_lt, if◌then◌else◌, List, [], ◌∷◌, ◌++◌, map, length, drop, sum_by, Option, Some, None}
use Rattle.std.specs.List.{range_with_len}
use Rattle.nr_vectors.specs.Items.{Items}
use Rattle.nr_pool.specs.Texts.{Texts, text, holders}
use Rattle.nr_symbol_tables.specs.Table.{Named, find}
use Rattle.nr_symbol_tables.specs.Rows.{SymbolTable}
use Rattle.nr_levels.specs.Gathering.{Gathering}
use Rattle.nr_symbol_tables.specs.Given.{word_in}
use Rattle.nr_symbol_tables.specs.declared.word.HyphenationWord.{HyphenationWord}
use Rattle.nr_symbol_tables.specs.declared.trap.Trap.{Trap}
use Rattle.nr_levels.specs.Levels.{Source, Text, Own, Mark as Marked, Open, Levels, total}
use Rattle.nr_store.specs.declared.named.Sense.{Sense}
use Rattle.nr_store.specs.declared.named.Sense.TheVariants as senses
use Rattle.nr_store.specs.declared.element.Element.{Element}
use Rattle.nr_store.specs.declared.element.Element.TheVariants.{Byte}
use Rattle.nr_store.specs.declared.element.Draft.{Draft}
use Rattle.nr_store.specs.declared.register.Register.{Register}
use Rattle.nr_store.specs.declared.request.TheConstants.{REQUESTS}
use Rattle.nr_store.specs.Senses.{ids_of_sense, act}
use Rattle.nr_store.specs.Store.{Means, Act, Words, Built, Level, Read, Mark, Shared, Stored, charge_beside, charge_of, weight, share, own_text}

-- ---- what the fields stand for

-- what is stored beside texts and levels
pub record Beside : Type 0 where
  pub gathering : Gathering
  pub registers : SymbolTable Register
  pub traps : Items Trap
  pub words : Items HyphenationWord

-- these
abbrev pub beside_of : Gathering → SymbolTable Register → Items Trap → Items HyphenationWord → Beside
beside_of gathering registers traps words =
    record { gathering = gathering; registers = registers; traps = traps; words = words }

-- there is room for as much of it as may be charged, and for no more
pub record Suffice (beside : Beside) (limit : ℕ) : Type 0 where
  pub gathering : beside.gathering.capacity ≡ limit
  pub registers : beside.registers.capacity ≡ limit / 48 + 1
  pub traps : beside.traps.capacity ≡ limit / 48 + 1
  pub words : beside.words.capacity ≡ limit / 16 + 1

-- what a name stands for
abbrev pub means_of : Texts Element → Sense → Means
means_of p (senses.Request r) = Act r
means_of p (senses.Text id) = Words (text p id)

-- what stands under a name
abbrev pub named_means : Texts Element → Named Sense → Named Means
named_means p n = record { name = n.name; value = means_of p n.value }

-- the text of a draft
abbrev pub built_of : Texts Element → Draft → Built
built_of p d = record { text = text p d.id; diversion = d.diversion }

-- what a source still gives
abbrev pub level_in : {K : Type 0} → Texts Element → Source K → Open K → Level K
level_in p (Text id place) l =
    Read (record { rest = drop place (text p id); old = l.old; charge = l.charge; resume = l.resume })
level_in p (Own bytes) l =
    Read (record { rest = map Byte bytes; old = l.old; charge = l.charge; resume = l.resume })
level_in p (Marked mode) l = Mark mode

-- a level with its text
abbrev pub level_of : {K : Type 0} → Texts Element → Open K → Level K
level_of p l = level_in p l.source l

-- 1 for this text, else 0
abbrev pub one : ℕ → ℕ → ℕ
one id k = if k == id then 1 else 0

-- how often a text is among these
abbrev pub count : ℕ → List ℕ → ℕ
count id ids = sum_by (one id) ids

-- the texts that a level holds
abbrev pub ids_of_source : {K : Type 0} → Source K → List ℕ
ids_of_source (Text id place) = id ∷ []
ids_of_source (Own bytes) = []
ids_of_source (Marked mode) = []

-- the texts that levels hold
abbrev pub ids_of : {K : Type 0} → List (Open K) → List ℕ
ids_of [] = []
ids_of (l ∷ ls) = ids_of_source l.source ++ ids_of ls

-- the texts that names hold
abbrev pub values : List (Named Sense) → List ℕ
values [] = []
values (n ∷ ns) = ids_of_sense n.value ++ values ns

-- the texts that are being built
abbrev pub draft_ids : List Draft → List ℕ
draft_ids drafts = map (λ (d : Draft). d.id) drafts

-- each text that a name, a text being built or a level holds, as often as it is held
abbrev pub held_ids : {K : Type 0} → List (Named Sense) → List ℕ → List (Open K) → List ℕ
held_ids names building levels = values names ++ (building ++ ids_of levels)

-- the name that holds a text
abbrev pub name_by : Sense → List ℕ → ℕ → Option (List ℕ) → Option (List ℕ)
name_by (senses.Request r) name k rest = rest
name_by (senses.Text id) name k rest = if id == k then Some name else rest

abbrev pub name_for : ℕ → List (Named Sense) → Option (List ℕ)
name_for k [] = None
name_for k (n ∷ ns) = name_by n.value n.name k (name_for k ns)

-- the text that a source reads: it is charged where none of these reads it too
abbrev pub text_in : {K : Type 0} → Texts Element → List (Named Sense) → List ℕ → Source K → List Shared
text_in p names older (Text id place) =
    record {
      name = name_for id names;
      share = if nat_lt 0 (count id older) then 0
          else share (text p id);
    } ∷ []
text_in p names older (Own bytes) = own_text ∷ []
text_in p names older (Marked mode) = []

-- the texts of levels
abbrev pub texts_in : {K : Type 0} → Texts Element → List (Named Sense) → List (Open K) → List Shared
texts_in p names [] = []
texts_in p names (l ∷ ls) = text_in p names (ids_of ls) l.source ++ texts_in p names ls

-- what all fields stand for
abbrev pub stored_of : {K : Type 0} → Texts Element → List (Named Sense) → List Draft → Levels K
    → Beside → ℕ → Stored K
stored_of p names drafts levels beside limit = record {
  names = map (named_means p) names;
  building = map (built_of p) drafts;
  levels = map (level_of p) levels.levels;
  texts = texts_in p names levels.levels;
  arguments = levels.arguments;
  gathered = beside.gathering.gathered;
  registers = beside.registers.entries;
  traps = beside.traps.items;
  words = map word_in beside.words.items;
  limit = limit;
  deepest = levels.most;
}

-- ---- holders

-- these are the holders of the pool's texts
pub record IsHeld (p : Texts Element) (ids : List ℕ) : Type 0 where
  pub held : (k : ℕ) → holders p k ≡ count k ids
  pub bare : (k : ℕ) → holders p k ≡ 0 → text p k ≡ []

-- a level is charged 16, and nothing once its end was taken
abbrev pub Pays : {K : Type 0} → Source K → ℕ → Type 0
Pays (Text id place) charge = 16 ≤ charge
Pays (Own bytes) charge = Unit {0}
Pays (Marked mode) charge = charge ≡ 0

-- each level is
abbrev pub AllPay : {K : Type 0} → List (Open K) → Type 0
AllPay [] = Unit {0}
AllPay (l ∷ ls) = Pays l.source l.charge × AllPay ls

-- a text is held by one name at most, and the name that holds it is found
pub record AreNamed (names : List (Named Sense)) : Type 0 where
  pub single : (k : ℕ) → count k (values names) ≤ 1
  pub found : (k : ℕ) (name : List ℕ) → name_for k names ≡ Some name → find name names ≡ Some (senses.Text k)

-- what is no longer charged for a text where one of those who hold it lets it go: nothing where another holds it too
abbrev pub lone : Texts Element → ℕ → ℕ
lone p id = if holders p id == 1 then share (text p id) else 0

-- ---- what is charged

-- what a text is charged: where a name or a text being built has it, with that alone; else where levels read it, however
-- many
abbrev pub charge_of_text : Texts Element → List ℕ → List ℕ → ℕ → ℕ
charge_of_text p kept read id =
    if nat_lt 0 (count id kept) then weight (text p id) else if nat_lt 0 (count id read)
    then share (text p id) else 0

-- what all texts of the pool are charged, each once
abbrev pub charge_of_texts : Texts Element → List ℕ → List ℕ → ℕ
charge_of_texts p kept read = sum_by (charge_of_text p kept read) (range_with_len 0 (length p.texts))

-- what is charged beside texts, names and levels
abbrev pub beside_cost : Beside → ℕ
beside_cost beside =
    charge_beside beside.gathering.gathered beside.registers.entries beside.traps.items
    (map word_in beside.words.items)

-- how many names are those of requests
abbrev pub acts : List (Named Sense) → ℕ
acts names = sum_by (λ (n : Named Sense). act n.value) names

-- what is always true of the texts, the names and the levels
pub record IsStore {K : Type 0} (p : Texts Element) (names : SymbolTable Sense) (drafts : Items Draft)
    (levels : Levels K) (beside : Beside) (charge limit : ℕ) : Type 0 where
  pub held : IsHeld p (held_ids names.entries (draft_ids drafts.items) levels.levels)
  -- a text that is being built has no other holder
  pub alone : (k : ℕ) → 0 < count k (draft_ids drafts.items) → holders p k ≡ 1
  pub pays : AllPay levels.levels
  pub named : AreNamed names.entries
  pub few_acts : acts names.entries ≤ length REQUESTS
  pub charged : charge ≡ charge_of (stored_of p names.entries drafts.items levels beside limit)
  -- what is charged is a sum over the pool, in which each text stands once, however many levels read it
  pub once : charge ≡ charge_of_texts p (values names.entries ++ draft_ids drafts.items)
      (ids_of levels.levels) + total levels.levels + beside_cost beside
  pub within : charge ≤ limit
  pub deep : length levels.levels ≤ levels.most
  pub small : limit < 2 ^ 32
  pub elements_suffice : p.capacity ≡ limit
  pub slots_suffice : length p.texts ≡ limit / 16 + 1
  pub names_suffice : names.capacity ≡ limit / 48 + 1 + length REQUESTS
  pub drafts_suffice : drafts.capacity ≡ limit / 48 + 1
  pub bytes_suffice : levels.capacity ≡ limit
  pub beside_suffices : Suffice beside limit
