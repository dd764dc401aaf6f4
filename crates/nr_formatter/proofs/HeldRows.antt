-- What is held of a row that goes into a diversion, once more cells came.
use Prim.Native.Char.{code}
use Rattle.std.proofs.Common.{◌≡◌, ℕ, ◌+◌, ◌-◌, ◌^◌, ◌<◌, min, ◌&&◌, Bool, true, false, not, if◌then◌else◌, List, [], ◌∷◌, ◌++◌, length, map, take, replicate, Result, Err, refl, ap, ap₂, sym, ◌∙◌, append_assoc, subst, arith, length-append, inl, inr}
use Rattle.std.specs.List.{list_any}
use Rattle.std.specs.Prelude.{◌==◌, get_or}
use Rattle.std.proofs.lemmas.Bool.{cases_lt, eqb-true, ne_eqb, or_parts}
use Rattle.std.proofs.lemmas.List.{append-nil, length-replicate, map-append, replicate-append-replicate, replicate_more, take_all, take_more}
use Rattle.nr_vectors.specs.Cell.{blank, is_blank, is_plain, trimmed}
use Rattle.nr_vectors.specs.declared.cell.Cell.{Cell}
use Rattle.nr_vectors.specs.declared.cell.Look.{Look}
use Rattle.nr_vectors.specs.declared.cell.Look.TheVariants.{Plain, Under, Bold}
use Rattle.nr_store.specs.declared.element.Element.TheVariants as elements
use Rattle.nr_store.specs.declared.refusal.StoredBytes.{StoredBytes}
use Rattle.nr_store.proofs.Building.{affordable}
use Rattle.nr_store.specs.Store.{Stored, Built, afforded, charge_of, on_newest, longer, diverted, diverted_end}
use Rattle.nr_formatter.specs.declared.tasks.Resume.{Resume}
use Rattle.nr_formatter.specs.DiversionRow.{plain, diverted_cells, is_faced_blank, with_cells, EndsRow, HoldsRow}
use Rattle.nr_formatter.specs.Limits.{stored_limits}
use Rattle.nr_formatter.proofs.DivertedRows.{share, share-le, with_cells-with_cells, with_cells-nothing, charge_of-with_cells, diverted_end-with_cells, charge_of-diverted-le, trimmed-blanks, trimmed-some, plain-blank, plain-some, plain-blanks}

pub holds_nothing : (v : Stored Resume) → HoldsRow v [] v 0 false
holds_nothing v = record {
  done = [];
  waiting = 0;
  row_is = refl;
  all_written = refl;
  blanks_are = λ differs. refl;
  store_is = λ differs. sym (with_cells-nothing v);
  passed = λ agrees. cc;
  limits = refl;
}

-- more blanks wait
pub holds_blanks : {before store : Stored Resume} {row : List Cell} {blanks : ℕ} {refused : Bool} → (n now : ℕ) → HoldsRow before row store blanks refused
    → now ≡ min (blanks + n) (2 ^ 64 - 1) → HoldsRow before (row ++ replicate n blank) store now refused
holds_blanks {before} {store} {row} {blanks} {refused} n now h now_is = record {
  done = h.done;
  waiting = h.waiting + n;
  row_is = map-append plain row (replicate n blank) ∙ ap₂ (λ a b. a ++ b) h.row_is (plain-blanks n) ∙ append_assoc h.done (replicate h.waiting blank) (replicate n blank)
      ∙ ap (λ zs. h.done ++ zs) (replicate-append-replicate h.waiting n blank);
  all_written = h.all_written;
  blanks_are = λ differs. let was = h.blanks_are differs in omega arith;
  store_is = h.store_is;
  passed = h.passed;
  limits = h.limits;
}

pub holds_blank : {before store : Stored Resume} {row : List Cell} {blanks : ℕ} {refused : Bool} → (cell : Cell) (now : ℕ) → is_blank cell ≡ true → HoldsRow before row store blanks refused
    → now ≡ min (blanks + 1) (2 ^ 64 - 1) → HoldsRow before (row ++ cell ∷ []) store now refused
holds_blank {before} {store} {row} {blanks} {refused} cell now agrees h now_is = record {
  done = h.done;
  waiting = h.waiting + 1;
  row_is = map-append plain row (cell ∷ []) ∙ ap₂ (λ a x. a ++ x ∷ []) h.row_is (plain-blank cell agrees) ∙ append_assoc h.done (replicate h.waiting blank) (blank ∷ [])
      ∙ ap (λ zs. h.done ++ zs) (replicate_more h.waiting blank);
  all_written = h.all_written;
  blanks_are = λ differs. let was = h.blanks_are differs in omega arith;
  store_is = h.store_is;
  passed = h.passed;
  limits = h.limits;
}

-- a cell that is no blank, after plain ones
ends_after : (prefix : List Cell) (cell : Cell) → is_blank cell ≡ false → (xs : List Cell) → trimmed (xs ++ (prefix ++ cell ∷ [])) ≡ xs ++ (prefix ++ cell ∷ [])
ends_after prefix cell some xs =
    subst (λ (zs : List Cell). trimmed zs ≡ zs) (append_assoc xs prefix (cell ∷ [])) (trimmed-some (xs ++ prefix) cell some)

-- one that is no blank by itself
pub ends_one : (cell : Cell) → is_blank cell ≡ false → EndsRow (cell ∷ [])
ends_one cell some = record { plain_is = ap (λ (x : Cell). x ∷ []) (plain-some cell some); all_written = ends_after [] cell some }

-- a blank that looks plain is a plain blank
plain_look : (look : Look) (byte : ℕ) → (not (is_plain look) && (byte == code " ")) ≡ false → plain (record { byte = byte; look = look }) ≡ record { byte = byte; look = look }
plain_look look byte none = by_blank (byte == code " ") refl none
  where
    by_look : (l : Look) → byte ≡ code " " → (not (is_plain l) && true) ≡ false → ◌≡◌ {A = Cell} blank (record { byte = byte; look = l })
    by_look Plain is other = ap (λ n. record { byte = n; look = Plain }) (sym is)
    by_look Under is other = absurd (let wrong : true ≡ false = other in cc)
    by_look Bold is other = absurd (let wrong : true ≡ false = other in cc)

    by_blank : (b : Bool) → (byte == code " ") ≡ b → (not (is_plain look) && b) ≡ false → (if b then blank else record { byte = byte; look = look }) ≡ record { byte = byte; look = look }
    by_blank true is other = by_look look (eqb-true byte (code " ") is) other
    by_blank false is other = refl

plain_cells : (cells : List Cell) → list_any is_faced_blank cells ≡ false → map plain cells ≡ cells
plain_cells [] none = refl
plain_cells (cell ∷ cells) none =
    let parts = or_parts (is_faced_blank cell) (list_any is_faced_blank cells) none in
    ap₂ (λ (x : Cell) (xs : List Cell). x ∷ xs) (plain_look cell.look cell.byte parts.0) (plain_cells cells parts.1)

-- the last of these cells is no blank, and each blank of them is plain
pub ends_row : (cells : List Cell) (d : Cell) → 0 < length cells → list_any is_faced_blank cells ≡ false → ((get_or cells (length cells - 1) d).byte ≡ code " " → ⊥) → EndsRow cells
ends_row cells d some none last =
    let n = length cells - 1 in
    let cell = get_or cells n d in
    let one : n + 1 ≡ length cells = omega (arith, some) in
    let all : cells ≡ take n cells ++ cell ∷ [] = sym (take_all (n + 1) cells (omega (arith, one))) ∙ take_more cells n d (omega (arith, some)) in
    record {
      plain_is = plain_cells cells none;
      all_written = λ xs. subst (λ (zs : List Cell). trimmed (xs ++ zs) ≡ xs ++ zs) (sym all) (ends_after (take n cells) cell (ne_eqb cell.byte (code " ") last) xs);
    }

-- the row up to such cells
module _ {before store : Stored Resume} {row : List Cell} {blanks : ℕ} {refused : Bool} (cells : List Cell) (ends : EndsRow cells) (h : HoldsRow before row store blanks refused) where
  abbrev pub longer_row : List Cell
  longer_row = (h.done ++ replicate h.waiting blank) ++ cells

  pub longer_row_is : map plain (row ++ cells) ≡ longer_row ++ []
  longer_row_is = map-append plain row cells ∙ ap₂ (λ a b. a ++ b) h.row_is ends.plain_is ∙ sym (append-nil longer_row)

  length-longer_row : length longer_row ≡ length h.done + h.waiting + length cells
  length-longer_row = omega (arith, length-append (h.done ++ replicate h.waiting blank) cells, length-append h.done (replicate h.waiting blank), length-replicate h.waiting blank)

  pub charge_is : charge_of (with_cells longer_row before) ≡ charge_of before + share before.building (length h.done + h.waiting + length cells)
  charge_is = charge_of-with_cells longer_row before ∙ ap (λ n. charge_of before + share before.building n) length-longer_row

  pub holds_refused : (store_now : Stored Resume) (now : ℕ) → stored_limits store_now ≡ stored_limits before → before.limit < charge_of (with_cells h.done before)
      → HoldsRow before (row ++ cells) store_now now true
  holds_refused store_now now limits above = record {
    done = longer_row;
    waiting = 0;
    row_is = longer_row_is;
    all_written = ends.all_written (h.done ++ replicate h.waiting blank);
    blanks_are = λ e. cc;
    store_is = λ e. cc;
    passed = λ agrees. let was = charge_of-with_cells h.done before in let more = share-le before.building (length h.done) (length h.done + h.waiting + length cells) (omega arith) in let is = charge_is in omega arith;
    limits = limits;
  }

-- where nothing is being built nothing is added
none_added : (v : Stored Resume) (xs ys : List Cell) → v.building ≡ [] → with_cells xs v ≡ with_cells ys v
none_added v xs ys is =
    ap (λ (bs : List Built). let w : Stored Resume = record v { building = on_newest (longer (map elements.Cell xs)) bs } in w) is
    ∙ sym (ap (λ (bs : List Built). let w : Stored Resume = record v { building = on_newest (longer (map elements.Cell ys)) bs } in w) is)

-- all blanks that wait were counted, where the cells after them are afforded
counted_all : (v : Stored Resume) (bs : List Built) → v.building ≡ bs → (done : List Cell) (blanks waiting : ℕ) (cells : List Cell) → blanks ≡ min waiting (2 ^ 64 - 1)
    → share bs (blanks + length cells) < 2 ^ 32 → with_cells (done ++ (replicate blanks blank ++ cells)) v ≡ with_cells ((done ++ replicate waiting blank) ++ cells) v
counted_all v [] is done blanks waiting cells counted few = none_added v _ _ is
counted_all v (b ∷ bs) is done blanks waiting cells counted few =
    let all : blanks ≡ waiting = omega arith in
    ap (λ n. with_cells (done ++ (replicate n blank ++ cells)) v) all ∙ ap (λ zs. with_cells zs v) (sym (append_assoc done (replicate waiting blank) cells))

-- such cells, where nothing was refused before
module _ {before store : Stored Resume} {row : List Cell} {blanks : ℕ} (cells : List Cell) (ends : EndsRow cells) (h : HoldsRow before row store blanks false) where
  abbrev pub afterwards : List Cell
  afterwards = replicate blanks blank ++ cells

  added_is : with_cells afterwards store ≡ with_cells (h.done ++ afterwards) before
  added_is = ap (with_cells afterwards) (h.store_is refl) ∙ with_cells-with_cells h.done afterwards before

  length-afterwards : length afterwards ≡ blanks + length cells
  length-afterwards = omega (arith, length-append (replicate blanks blank) cells, length-replicate blanks blank)

  charge_after : charge_of (with_cells afterwards store) ≡ charge_of before + share before.building (length h.done + (blanks + length cells))
  charge_after = ap charge_of added_is ∙ charge_of-with_cells (h.done ++ afterwards) before
      ∙ ap (λ n. charge_of before + share before.building n) (length-append h.done afterwards ∙ ap (λ n. length h.done + n) length-afterwards)

  pub holds_some : (store_now : Stored Resume) → store_now ≡ with_cells afterwards store → charge_of (with_cells afterwards store) < 2 ^ 32 → HoldsRow before (row ++ cells) store_now 0 false
  holds_some store_now now_is small = record {
    done = longer_row cells ends h;
    waiting = 0;
    row_is = longer_row_is cells ends h;
    all_written = ends.all_written (h.done ++ replicate h.waiting blank);
    blanks_are = λ e. refl;
    store_is = λ e.
        let is = charge_after in
        let part = share-le before.building (blanks + length cells) (length h.done + (blanks + length cells)) (omega arith) in
        now_is ∙ added_is ∙ counted_all before before.building refl h.done blanks h.waiting cells (h.blanks_are refl) (omega arith);
    passed = λ agrees. cc;
    limits = ap stored_limits now_is ∙ h.limits;
  }

  pub holds_no_more : (store_now : Stored Resume) (now : ℕ) → stored_limits store_now ≡ stored_limits store → store.limit < charge_of (with_cells afterwards store)
      → HoldsRow before (row ++ cells) store_now now true
  holds_no_more store_now now limits above = record {
    done = longer_row cells ends h;
    waiting = 0;
    row_is = longer_row_is cells ends h;
    all_written = ends.all_written (h.done ++ replicate h.waiting blank);
    blanks_are = λ e. cc;
    store_is = λ e. cc;
    passed = λ agrees.
        let is = charge_after in
        let all = charge_is cells ends h in
        let counted = h.blanks_are refl in
        let limit : store.limit ≡ before.limit = ap (λ (v : Stored Resume). v.limit) (h.store_is refl) in
        let more = share-le before.building (length h.done + (blanks + length cells)) (length h.done + h.waiting + length cells) (omega arith) in
        omega arith;
    limits = limits ∙ h.limits;
  }

-- ---- the row ends

row_done : {before store : Stored Resume} {row : List Cell} {blanks : ℕ} {refused : Bool} (h : HoldsRow before row store blanks refused) → diverted_cells row ≡ h.done
row_done h = ap trimmed h.row_is ∙ trimmed-blanks h.done h.waiting h.all_written

pub line_ended : {before store : Stored Resume} {row : List Cell} {blanks : ℕ} (n height : ℕ) (h : HoldsRow before row store blanks false) → n ≡ charge_of store - charge_of before
    → diverted_end n height store ≡ diverted 0 (diverted_cells row) height before
line_ended {before} {store} {row} {blanks} n height h n_is =
    let charged = ap charge_of (h.store_is refl) in
    let cells = charge_of-with_cells h.done before in
    ap (diverted_end n height) (h.store_is refl) ∙ diverted_end-with_cells n height h.done before (omega arith) ∙ ap (λ cs. diverted 0 cs height before) (sym (row_done h))

pub line_passes : {before store : Stored Resume} {row : List Cell} {blanks : ℕ} (height : ℕ) (h : HoldsRow before row store blanks true)
    → before.limit < charge_of (diverted 0 (diverted_cells row) height before)
line_passes {before} {store} {row} {blanks} height h =
    let cells = charge_of-diverted-le height h.done before in
    let above = h.passed refl in
    let same = ap (λ cs. charge_of (diverted 0 cs height before)) (row_done h) in
    omega arith

-- ---- answers

-- what is refused
pub refused_by : (v : Stored Resume) (n : ℕ) (e : StoredBytes) → ◌≡◌ {A = Result ℕ StoredBytes} (Err e) (afforded v n) → v.limit < charge_of v
refused_by v n e is = elim (cases_lt v.limit (charge_of v)) [
  | inl above ↦ above
  | inr within ↦ let agrees = affordable v n within in cc
]
