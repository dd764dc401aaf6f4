-- What is asked for, and with one option more.
use Rattle.std.specs.Prelude.{ℕ, List, [], ◌∷◌, ◌++◌, length, map, Bool, ◌&&◌, nat_le, Option, None, Some, Result, Ok, Err, if◌then◌else◌}
use Rattle.std.specs.Borrow.{Bor}
use Rattle.std.specs.Option.{option_copied}
use Rattle.nr_options.specs.Limits.{Bounds, with_bound, least_of, greatest_of}
use Rattle.nr_options.specs.declared.limits.Limit.{Limit}
use Rattle.program_options.specs.declared.plain.Plain.{Plain}
use Rattle.program_options.specs.declared.plain.Kind.{Kind}
use Rattle.program_options.specs.declared.usage.Case.{Case}
use Rattle.program_options.specs.declared.usage.Case.TheVariants.{BadValue, TooMany}
use Rattle.program_options.specs.declared.job.Setting.{Setting}
use Rattle.program_options.specs.declared.job.Job.{Job}
use Rattle.program_options.specs.declared.values.Which.{Which}
use Rattle.program_options.specs.declared.values.Which.TheVariants.{Folder, Coding, Pages, Within}
use Rattle.program_options.specs.Plain.{nothing_set, changed}
use Rattle.program_options.specs.Values.{Meaning, IsNothing, Changes, Limits, ReadsMacros, Names, Sets}

-- a register or a string, by its name, and what it is set to
pub record Assignment : Type 0 where
  pub kind : Kind
  pub name : List ℕ
  pub value : List ℕ

-- WHAT ALL WORDS COME TO
pub record Asked : Type 0 where
  pub plain : Plain
  pub limits : Bounds
  -- of the macro files
  pub folder : Option (List ℕ)
  pub coding : Option (List ℕ)
  -- the list of the pages to print
  pub pages : Option (List ℕ)
  -- the folder that `.so` may read of
  pub within : Option (List ℕ)
  -- the names of macro files; none: the text itself says what it asks for
  pub macros : List (List ℕ)
  pub settings : List Assignment
  pub files : List (List ℕ)

-- the limits where no word sets them
abbrev pub usual_bounds : Bounds
usual_bounds = record { stored = 4194304; depth = 256; cells = 1048576; expansions = 10000; moves = 1000000000 }

-- where there is no word
abbrev pub nothing_asked : Asked
nothing_asked = record {
  plain = nothing_set;
  limits = usual_bounds;
  folder = None;
  coding = None;
  pages = None;
  within = None;
  macros = [];
  settings = [];
  files = [];
}

abbrev pub with_files : List (List ℕ) → Asked → Asked
with_files files asked = record asked { files = files }

-- a limit in its range
abbrev pub is_in_range : Limit → ℕ → Bool
is_in_range limit n = nat_le (least_of limit) n && nat_le n (greatest_of limit)

abbrev pub limited : Limit → ℕ → Asked → Result Asked Case
limited limit n asked =
    if is_in_range limit n then Ok (record asked { limits = with_bound limit n asked.limits }) else Err BadValue

-- the last of a kind counts
abbrev pub named : Which → List ℕ → Asked → Asked
named Folder text asked = record asked { folder = Some text }
named Coding text asked = record asked { coding = Some text }
named Pages text asked = record asked { pages = Some text }
named Within text asked = record asked { within = Some text }

-- With one option more: of each kind the last counts, but macro files, registers and strings all do, in order, 32 of each.
abbrev pub with_meaning : Meaning → Asked → Result Asked Case
with_meaning IsNothing asked = Ok asked
with_meaning (Changes change) asked = Ok (record asked { plain = changed change asked.plain })
with_meaning (Limits limit n) asked = limited limit n asked
with_meaning (Names which text) asked = Ok (named which text asked)
with_meaning (ReadsMacros name) asked =
    if nat_le 32 (length asked.macros) then Err TooMany
    else Ok (record asked { macros = asked.macros ++ name ∷ [] })
with_meaning (Sets kind name value) asked =
    if nat_le 32 (length asked.settings) then Err TooMany
    else Ok (record asked { settings = asked.settings ++ record { kind = kind; name = name; value = value } ∷ [] })

-- ---- what the program holds of this, as texts

abbrev pub texts : List (Bor (List ℕ)) → List (List ℕ)
texts words = map (λ (word : Bor (List ℕ)). word.now) words

abbrev pub assignment_of : Setting → Assignment
assignment_of setting = record { kind = setting.kind; name = setting.name.now; value = setting.value.now }

abbrev pub asked_of : Job → Asked
asked_of job = record {
  plain = job.plain;
  limits = job.limits;
  folder = option_copied job.folder;
  coding = option_copied job.coding;
  pages = option_copied job.pages;
  within = option_copied job.within;
  macros = texts job.macros.items;
  settings = map assignment_of job.settings.items;
  files = texts job.files.now;
}

-- what a call came to that left this, or failed
abbrev pub after : {A E : Type 0} → Result (Unit {0}) E → A → Result A E
after (Ok done) asked = Ok asked
after (Err error) asked = Err error
