-- What is read of a table: rows stand in their order, within the room.
use Rattle.std.proofs.Common.{◌≡◌, ℕ, zero, suc, ◌+◌, ◌-◌, ◌<◌, ◌≤◌, Bool, true, false, ◌||◌, nat_le, nat_lt, List, [], ◌∷◌, ◌++◌, length, get_or, refl, sym, ap, subst, arith, ◌∙◌, length-append, inl, inr, if◌then◌else◌}
use Rattle.std.specs.Prelude.{◌⊎◌}
use Rattle.std.proofs.Math.ListN.{get_or-append}
use Rattle.std.proofs.Math.Seq.{get_or-append_seam}
use Rattle.std.proofs.lemmas.Bool.Decides.{nat_tests}
use Rattle.nr_vectors.specs.Items.{Items}
use Rattle.tbl_drawing.specs.ReadTables.{IsHeld, NothingIsHeld, OthersStayHeld, StaysHeld}
use Rattle.tbl_drawing.proofs.Below.{below_by, by_cases, two}
use Rattle.tbl_table.specs.declared.table.Item.{Item}
use Rattle.tbl_table.specs.declared.table.Item.TheVariants as items
use Rattle.tbl_table.specs.declared.table.Row.{Row}
use Rattle.tbl_table.specs.declared.table.Span.{Span}
use Rattle.tbl_table.specs.declared.table.Table.{Table}
use Rattle.tbl_table.specs.Formats.{with_one}
use Rattle.tbl_table.specs.Held.{line, text_of}
use Rattle.tbl_table.specs.Rows.{has_all_rows, is_comment, is_rule, request_ended, request_read, row_added, row_ended, row_read, rule_added, rules_in, rules_skipped, with_next_line}

-- ---- rows and items alone, in room for so many

record Listed (rows : List Row) (row_room : ℕ) (is : List Item) (item_room : ℕ) : Type 0 where
  among : (r : ℕ) → r < length rows → (i : ℕ) × (i < length is) × (get_or is i items.Rule ≡ items.Row r)
  held : (i r : ℕ) → i < length is → get_or is i items.Rule ≡ items.Row r → r < length rows
  order : (i j r s : ℕ) → i < j → j < length is → get_or is i items.Rule ≡ items.Row r → get_or is j items.Rule ≡ items.Row s → r < s
  few_rows : length rows ≤ row_room
  few_items : length is ≤ item_room

abbrev ListedIn : Table → Type 0
ListedIn t = Listed t.rows.items t.rows.capacity t.items.items t.items.capacity

listed : (t : Table) → IsHeld t → ListedIn t
listed t h = record { among = h.read.among; held = h.read.held; order = h.read.order; few_rows = h.rows; few_items = h.items }

is_held : (t : Table) → ListedIn t → IsHeld t
is_held t l = record {
  read = record { among = l.among; held = l.held; order = l.order };
  rows = l.few_rows;
  items = l.few_items;
}

before : (is : List Item) (x : Item) (i : ℕ) → i < length is → get_or (is ++ x ∷ []) i items.Rule ≡ get_or is i items.Rule
before is x i less = get_or-append is (x ∷ []) items.Rule i less

at_end : (is : List Item) (x : Item) (i : ℕ) → i ≡ length is → get_or (is ++ x ∷ []) i items.Rule ≡ x
at_end is x i end = ap (λ (k : ℕ). get_or (is ++ x ∷ []) k items.Rule) end ∙ get_or-append_seam is x [] items.Rule

row_is : (r s : ℕ) → items.Row r ≡ items.Row s → r ≡ s
row_is r s e = cc

-- ---- what is no row

abbrev IsNoRow : Item → Type 0
IsNoRow x = (r : ℕ) → x ≡ items.Row r → ⊥

one_listed : (rows : List Row) (row_room : ℕ) (is : List Item) (room : ℕ) (x : Item) → IsNoRow x → length is < room → Listed rows row_room is room
    → Listed rows row_room (is ++ x ∷ []) room
one_listed rows row_room is room x other free l = record {
  among = λ r less. found r (l.among r less);
  held = λ i r less e. in_rows i r e (two i (length is) (omega (arith, less, long)));
  order = λ i j r s low less e f. in_order i j r s low e f (two j (length is) (omega (arith, less, long)));
  few_rows = l.few_rows;
  few_items = omega (arith, long, free);
}
  where
    long : length (is ++ x ∷ []) ≡ length is + 1
    long = length-append is (x ∷ [])

    found : (r : ℕ) → (i : ℕ) × (i < length is) × (get_or is i items.Rule ≡ items.Row r)
        → (i : ℕ) × (i < length (is ++ x ∷ [])) × (get_or (is ++ x ∷ []) i items.Rule ≡ items.Row r)
    found r (i, less, e) = (i, omega (arith, less, long), before is x i less ∙ e)

    in_rows : (i r : ℕ) → get_or (is ++ x ∷ []) i items.Rule ≡ items.Row r → (i < length is) ⊎ (i ≡ length is) → r < length rows
    in_rows i r e (inl less) = l.held i r less (sym (before is x i less) ∙ e)
    in_rows i r e (inr end) = absurd (other r (sym (at_end is x i end) ∙ e))

    in_order : (i j r s : ℕ) → i < j → get_or (is ++ x ∷ []) i items.Rule ≡ items.Row r → get_or (is ++ x ∷ []) j items.Rule ≡ items.Row s
        → (j < length is) ⊎ (j ≡ length is) → r < s
    in_order i j r s low e f (inl less) =
        l.order i j r s low less (sym (before is x i (omega (arith, low, less))) ∙ e) (sym (before is x j less) ∙ f)
    in_order i j r s low e f (inr end) = absurd (other s (sym (at_end is x j end) ∙ f))

one_held : (t : Table) (x : Item) → IsNoRow x → IsHeld t → IsHeld (record t { items = with_one x t.items })
one_held t x other h =
    is_held (record t { items = with_one x t.items })
    (by_cases (λ (is : List Item). Listed t.rows.items t.rows.capacity is t.items.capacity) (nat_lt (length t.items.items) t.items.capacity)
    (t.items.items ++ x ∷ []) t.items.items
    (λ e. one_listed t.rows.items t.rows.capacity t.items.items t.items.capacity x other (below_by (length t.items.items) t.items.capacity e) (listed t h))
    (λ e. listed t h))

rule_no_row : IsNoRow items.Rule
rule_no_row r e = cc

request_no_row : (s : Span) → IsNoRow (items.Request s)
request_no_row s r e = cc

-- ---- a row

row_listed : (rows : List Row) (row_room : ℕ) (is : List Item) (room : ℕ) (x : Row) → length rows < row_room → length is < room
    → Listed rows row_room is room → Listed (rows ++ x ∷ []) row_room (is ++ items.Row (length rows) ∷ []) room
row_listed rows row_room is room x free free_too l = record {
  among = λ r less. found r (two r (length rows) (omega (arith, less, more)));
  held = λ i r less e. in_rows i r e (two i (length is) (omega (arith, less, long)));
  order = λ i j r s low less e f. in_order i j r s low e f (two j (length is) (omega (arith, less, long)));
  few_rows = omega (arith, more, free);
  few_items = omega (arith, long, free_too);
}
  where
    y : Item
    y = items.Row (length rows)

    more : length (rows ++ x ∷ []) ≡ length rows + 1
    more = length-append rows (x ∷ [])

    long : length (is ++ items.Row (length rows) ∷ []) ≡ length is + 1
    long = length-append is (items.Row (length rows) ∷ [])

    old : (r : ℕ) → (i : ℕ) × (i < length is) × (get_or is i items.Rule ≡ items.Row r)
        → (i : ℕ) × (i < length (is ++ items.Row (length rows) ∷ [])) × (get_or (is ++ items.Row (length rows) ∷ []) i items.Rule ≡ items.Row r)
    old r (i, less, e) = (i, omega (arith, less, long), before is (items.Row (length rows)) i less ∙ e)

    found : (r : ℕ) → (r < length rows) ⊎ (r ≡ length rows)
        → (i : ℕ) × (i < length (is ++ items.Row (length rows) ∷ [])) × (get_or (is ++ items.Row (length rows) ∷ []) i items.Rule ≡ items.Row r)
    found r (inl less) = old r (l.among r less)
    found r (inr end) =
        (length is, omega (arith, long), at_end is (items.Row (length rows)) (length is) refl ∙ ap (λ (k : ℕ). items.Row k) (sym end))

    in_rows : (i r : ℕ) → get_or (is ++ items.Row (length rows) ∷ []) i items.Rule ≡ items.Row r → (i < length is) ⊎ (i ≡ length is)
        → r < length (rows ++ x ∷ [])
    in_rows i r e (inl less) =
        let inside : r < length rows = l.held i r less (sym (before is (items.Row (length rows)) i less) ∙ e) in
        omega (arith, inside, more)
    in_rows i r e (inr end) =
        let is_last : length rows ≡ r = row_is (length rows) r (sym (at_end is (items.Row (length rows)) i end) ∙ e) in
        omega (arith, is_last, more)

    in_order : (i j r s : ℕ) → i < j → get_or (is ++ items.Row (length rows) ∷ []) i items.Rule ≡ items.Row r
        → get_or (is ++ items.Row (length rows) ∷ []) j items.Rule ≡ items.Row s → (j < length is) ⊎ (j ≡ length is) → r < s
    in_order i j r s low e f (inl less) =
        l.order i j r s low less (sym (before is (items.Row (length rows)) i (omega (arith, low, less))) ∙ e)
        (sym (before is (items.Row (length rows)) j less) ∙ f)
    in_order i j r s low e f (inr end) =
        let inside : r < length rows = l.held i r (omega (arith, low, end)) (sym (before is (items.Row (length rows)) i (omega (arith, low, end))) ∙ e) in
        let is_last : length rows ≡ s = row_is (length rows) s (sym (at_end is (items.Row (length rows)) j end) ∙ f) in
        omega (arith, inside, is_last)

or_false : (a b : Bool) → (a || b) ≡ false → (a ≡ false) × (b ≡ false)
or_false false b h = (refl, h)
or_false true b h = absurd (cc)

above : (a b : ℕ) → nat_le a b ≡ false → b < a
above a b h = grind (arith, nat_tests, h)

if_so : {A : Type 0} (b : Bool) (x y : List A) → b ≡ true → (if b then x else y) ≡ x
if_so true x y e = refl
if_so false x y e = cc

is_below : (a b : ℕ) → a < b → nat_lt a b ≡ true
is_below a b h = grind (arith, nat_tests, h)

row_is_added : (t : Table) → has_all_rows t ≡ false → IsHeld t → IsHeld (row_added t)
row_is_added t free h = is_held (row_added t) (added_row (or_false (nat_le t.rows.capacity (length t.rows.items)) (nat_le t.items.capacity (length t.items.items)) free))
  where
    added_row : (nat_le t.rows.capacity (length t.rows.items) ≡ false) × (nat_le t.items.capacity (length t.items.items) ≡ false) → ListedIn (row_added t)
    added_row (rows_free, items_free) =
        let room : length t.rows.items < t.rows.capacity = above t.rows.capacity (length t.rows.items) rows_free in
        let item_room : length t.items.items < t.items.capacity = above t.items.capacity (length t.items.items) items_free in
        let rows_are : (with_one (row_read t) t.rows).items ≡ t.rows.items ++ row_read t ∷ [] =
        if_so (nat_lt (length t.rows.items) t.rows.capacity) (t.rows.items ++ row_read t ∷ []) t.rows.items (is_below (length t.rows.items) t.rows.capacity room) in
        let items_are : (with_one (items.Row (length t.rows.items)) t.items).items ≡ t.items.items ++ items.Row (length t.rows.items) ∷ [] =
        if_so (nat_lt (length t.items.items) t.items.capacity) (t.items.items ++ items.Row (length t.rows.items) ∷ []) t.items.items
        (is_below (length t.items.items) t.items.capacity item_room) in
        subst (λ (rs : List Row). Listed rs t.rows.capacity (with_one (items.Row (length t.rows.items)) t.items).items t.items.capacity) (sym rows_are)
        (subst (λ (is : List Item). Listed (t.rows.items ++ row_read t ∷ []) t.rows.capacity is t.items.capacity) (sym items_are)
        (row_listed t.rows.items t.rows.capacity t.items.items t.items.capacity (row_read t) room item_room (listed t h)))

-- ---- the laws

pub nothing_is_held : NothingIsHeld
nothing_is_held t rows is = is_held t (subst (λ (rs : List Row). Listed rs t.rows.capacity t.items.items t.items.capacity) (sym rows)
    (subst (λ (xs : List Item). Listed [] t.rows.capacity xs t.items.capacity) (sym is) (record {
      among = λ r less. absurd (none r less);
      held = λ i r less e. absurd (none i less);
      order = λ i j r s low less e f. absurd (none j less);
      few_rows = omega arith;
      few_items = omega arith;
    })))
  where
    none : (n : ℕ) → n < 0 → ⊥
    none n less = omega (arith, less)

pub others_stay_held : OthersStayHeld
others_stay_held t u rows is h =
    is_held u (subst (λ (rs : Items Row). Listed rs.items rs.capacity u.items.items u.items.capacity) (sym rows)
    (subst (λ (xs : Items Item). Listed t.rows.items t.rows.capacity xs.items xs.capacity) (sym is) (listed t h)))

pub rule_stays_held : StaysHeld rule_added
rule_stays_held t h = one_held t items.Rule rule_no_row h

pub request_stays_held : StaysHeld request_ended
request_stays_held t h =
    let s : Span = record { start = t.from; «end» = length t.text.items } in
    let u : Table = request_read s t in
    let read : IsHeld u =
    by_cases IsHeld (is_comment (text_of t s)) t (record t { items = with_one (items.Request s) t.items }) (λ e. h)
    (λ e. one_held t (items.Request s) (request_no_row s) h) in
    others_stay_held u (request_ended t) refl refl read

rules_stay_held : (n : ℕ) (t : Table) → IsHeld t → IsHeld (rules_in n t)
rules_stay_held zero t h = h
rules_stay_held (suc n) t h =
    let u : Table = with_next_line (suc t.next_line) (rule_added t) in
    let next : IsHeld u = others_stay_held (rule_added t) u refl refl (rule_stays_held t h) in
    let later : IsHeld (rules_in n u) = rules_stay_held n u next in
    by_cases IsHeld (is_rule t (line t t.next_line)) (rules_in n u) t (λ e. later) (λ e. h)

pub row_stays_held : StaysHeld row_ended
row_stays_held t h =
    let u : Table = rules_skipped t in
    let read : IsHeld u = rules_stay_held (length t.lines.items - 1 - t.next_line) t h in
    by_cases IsHeld (has_all_rows u) u (row_added u) (λ e. read) (λ e. row_is_added u e read)
