-- What a pool holds.
use Rattle.std.specs.Prelude.{ℕ, ◌<◌, ◌-◌, List, [], length, sum_by, slice_set, slice_index_or, nat_le, if◌then◌else◌}

-- a text, and how many hold it
pub record Held (T : Type 0) : Type 0 where
  pub elements : List T
  pub holders : ℕ

-- how many elements there is room for, and the text of each number
pub record Texts (T : Type 0) : Type 0 where
  pub capacity : ℕ
  pub texts : List (Held T)

-- what a number has that has no text
abbrev pub no_text : {T : Type 0} → Held T
no_text = record { elements = []; holders = 0 }

-- what a number has
abbrev pub entry : {T : Type 0} → Texts T → ℕ → Held T
entry p id = slice_index_or p.texts id no_text

-- the text of a number
abbrev pub text : {T : Type 0} → Texts T → ℕ → List T
text p id = (entry p id).elements

-- how many hold the text of a number
abbrev pub holders : {T : Type 0} → Texts T → ℕ → ℕ
holders p id = (entry p id).holders

-- a number has a text
abbrev pub IsOpen : {T : Type 0} → Texts T → ℕ → Type 0
IsOpen p id = 0 < holders p id

-- how many elements all texts have
abbrev pub used : {T : Type 0} → Texts T → ℕ
used p = sum_by (λ (t : Held _). length t.elements) p.texts

-- p where a number has this
abbrev pub with_entry : {T : Type 0} → Texts T → ℕ → Held T → Texts T
with_entry p id t = record p { texts = slice_set p.texts id t }

-- p with a new text at a number: empty, with one holder
abbrev pub opened : {T : Type 0} → Texts T → ℕ → Texts T
opened p id = with_entry p id (record { elements = []; holders = 1 })

-- p with another text at a number, and as many holders
abbrev pub with_text : {T : Type 0} → Texts T → ℕ → List T → Texts T
with_text p id xs = with_entry p id (record { elements = xs; holders = holders p id })

-- p with n holders of the text of a number
abbrev pub with_holders : {T : Type 0} → Texts T → ℕ → ℕ → Texts T
with_holders p id n = with_entry p id (record { elements = text p id; holders = n })

-- p with no text at a number
abbrev pub without_text : {T : Type 0} → Texts T → ℕ → Texts T
without_text p id = with_entry p id no_text

-- p with one holder less of the text of a number, which goes with its last holder
abbrev pub released : {T : Type 0} → Texts T → ℕ → Texts T
released p id = if nat_le (holders p id) 1 then without_text p id else with_holders p id (holders p id - 1)
