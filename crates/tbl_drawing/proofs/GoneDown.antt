-- A field that goes on over rows below stands in its first column in each of them, and ends in a row that takes room.
use Rattle.std.specs.Prelude.{◌⊎◌}
use Rattle.std.proofs.Common.{◌≡◌, ◌≢◌, ℕ, zero, suc, ◌+◌, ◌-◌, ◌*◌, ◌<◌, ◌≤◌, Bool, true, false, ◌==◌, ◌&&◌, nat_lt, List, length, get_or, refl, sym, ap, subst, arith, ◌∙◌, length-set, inl, inr, if◌then◌else◌}
use Rattle.std.proofs.lemmas.Bool.Decides.{nat_tests}
use Rattle.std.proofs.lemmas.List.{get_or-set_other, get_or-set_same}
use Rattle.nr_vectors.specs.Items.{Items}
use Rattle.tbl_columns.specs.declared.grid.Cell.{Cell}
use Rattle.tbl_columns.specs.declared.grid.Column.{Column}
use Rattle.tbl_columns.specs.declared.grid.Grid.{Grid}
use Rattle.tbl_columns.specs.declared.grid.Placed.{Placed}
use Rattle.tbl_columns.specs.Cells.{Settling, columns_over, ended_above, ended_in, gone_down, is_whole, new_cell, placed_cells, placed_row, place_of, placing, settled_cell, settled_row, settling, stands_over, went_on, went_on_at}
use Rattle.tbl_columns.specs.Held.{cell_number, cell_of, columns, forgotten_cells, no_cell, no_place, number_place, placed}
use Rattle.tbl_columns.proofs.Turns.{set_has, set_same}
use Rattle.tbl_drawing.proofs.Below.{below_by, below_or, by_cases, equal_or, not_below_by, two}
use Rattle.tbl_drawing.proofs.PlacedRows.{AllRoom, RowsPlaced, rows_placed, up_to, within}
use Rattle.tbl_drawing.proofs.RowJudged.{judged, place_is}
use Rattle.tbl_drawing.proofs.RowPlaced.{Alone, HasRoom, Mine, Olds, Partly, Starts, added_old, entry, one_less, row_filled, row_olds}
use Rattle.tbl_table.specs.declared.table.Row.{Row}
use Rattle.tbl_table.specs.Held.{key, line, no_field, row}
use Rattle.tbl_table.specs.Lists.{added, in_turn, put}

equal : (a b : ℕ) → (a == b) ≡ true → a ≡ b
equal a b h = grind (arith, nat_tests, h)

equal_is : (a b : ℕ) → a ≡ b → (a == b) ≡ true
equal_is a b h = grind (arith, nat_tests, h)

both_left : (a b : Bool) → (a && b) ≡ true → a ≡ true
both_left true b h = refl
both_left false b h = h

both_right : (a b : Bool) → (a && b) ≡ true → b ≡ true
both_right true b h = h
both_right false b h = absurd (differ h)
  where
    differ : false ≡ true → ⊥
    differ e = cc

both : (a b : Bool) → a ≡ true → b ≡ true → (a && b) ≡ true
both true b h k = k
both false b h k = h

differ : false ≡ true → ⊥
differ e = cc

none : (i : ℕ) → i < 0 → ⊥
none i less = omega (arith, less)

-- ---- in a row: fields from above that go on over it stand in all of their columns

abbrev Covers : Grid → Grid → ℕ → Type 0
Covers b t f = (c : ℕ) → (cell_of b f).first ≤ c → c ≤ (cell_of b f).last → entry t.numbers (length b.numbers.items + c) ≡ f

abbrev Ends : Grid → ℕ → Grid → ℕ → Type 0
Ends b n t f = ((cell_of t f).bottom ≡ (cell_of b f).bottom) ⊎ (((cell_of t f).bottom ≡ n) × Covers b t f)

-- what stands in a column is the row's own, or went on
abbrev Done : Grid → ℕ → Grid → ℕ → Type 0
Done b n t c =
    (length b.cells.items ≤ entry t.numbers (length b.numbers.items + c))
    ⊎ ((cell_of t (entry t.numbers (length b.numbers.items + c))).bottom ≡ n)

record Decided (b : Grid) (n c : ℕ) (t : Grid) : Type 0 where
  ends : (f : ℕ) → f < length b.cells.items → Ends b n t f
  done : (d : ℕ) → d < c → Done b n t d

abbrev Broad : Grid → Type 0
Broad b = (f : ℕ) → f < length b.cells.items → ((cell_of b f).first ≤ (cell_of b f).last) × ((cell_of b f).last < columns b)

over_all : (m : ℕ) (g : Grid) (r f c : ℕ) → stands_over m g r f c ≡ true → (d : ℕ) → c ≤ d → d < c + m → cell_number g r d ≡ f
over_all zero g r f c h d low high = absurd (let no : ⊥ = omega (arith, low, high) in no)
over_all (suc m) g r f c h d low high =
    elim (equal_or d c) [
      | inl same ↦ ap (cell_number g r) same ∙ equal (cell_number g r c) f (both_left (cell_number g r c == f) (stands_over m g r f (c + 1)) h)
      | inr differ ↦ over_all m g r f (c + 1) (both_right (cell_number g r c == f) (stands_over m g r f (c + 1)) h) d
          (let further : c ≢ d = λ e. differ (sym e) in omega (arith, low, further)) (omega (arith, high))
    ]

all_over : (m : ℕ) (g : Grid) (r f c : ℕ) → ((d : ℕ) → c ≤ d → d < c + m → cell_number g r d ≡ f) → stands_over m g r f c ≡ true
all_over zero g r f c h = refl
all_over (suc m) g r f c h =
    both (cell_number g r c == f) (stands_over m g r f (c + 1)) (equal_is (cell_number g r c) f (h c (omega arith) (omega arith)))
    (all_over m g r f (c + 1) (λ d low high. h d (omega (arith, low)) (omega (arith, high))))

whole_covers : (b : Grid) (n f : ℕ) (t : Grid) → HasRoom b → Starts b n → Partly b n (columns b) t → Broad b → f < length b.cells.items
    → is_whole t n f ≡ true → Covers b t f
whole_covers b n f t room starts p broad less h c low high =
    let first : (cell_of t f).first ≡ (cell_of b f).first = p.firsts f less in
    let last : (cell_of t f).last ≡ (cell_of b f).last = p.lasts f less in
    let inside : c < columns b = omega (arith, high, (broad f less).1) in
    ap (entry t.numbers) (sym (place_is b t n c room starts p.heads inside))
    ∙ over_all (columns_over (cell_of t f).first (cell_of t f).last) t n f (cell_of t f).first h c (omega (arith, low, first))
    (omega (arith, high, first, last, low, inside, (broad f less).1, room.0, room.1))

covers_whole : (b : Grid) (n f : ℕ) (t : Grid) → HasRoom b → Starts b n → Partly b n (columns b) t → Broad b → f < length b.cells.items
    → Covers b t f → is_whole t n f ≡ true
covers_whole b n f t room starts p broad less h =
    let first : (cell_of t f).first ≡ (cell_of b f).first = p.firsts f less in
    let last : (cell_of t f).last ≡ (cell_of b f).last = p.lasts f less in
    all_over (columns_over (cell_of t f).first (cell_of t f).last) t n f (cell_of t f).first
    (λ c low high.
    let upto : c ≤ (cell_of b f).last = omega (arith, high, low, first, last, (broad f less).1, room.0, room.1) in
    let inside : c < columns b = omega (arith, upto, (broad f less).1) in
    ap (entry t.numbers) (place_is b t n c room starts p.heads inside) ∙ h c (omega (arith, low, first)) upto)

gone_decided : (b : Grid) (n c f : ℕ) (t : Grid) → Partly b n (columns b) t → entry t.numbers (length b.numbers.items + c) ≡ f → f < length b.cells.items
    → Covers b t f → Decided b n c t → Decided b n (suc c) (gone_down n f t)
gone_decided b n c f t p here less cov d =
    let x : Cell = record (cell_of t f) { bottom = n } in
    let u : Grid = gone_down n f t in
    record {
      ends = λ i small.
          set_has (λ (y : Cell). (y.bottom ≡ (cell_of b i).bottom) ⊎ ((y.bottom ≡ n) × Covers b t i)) t.cells.items f x no_cell i (d.ends i small)
          (λ e. inr (refl, subst (Covers b t) (sym e) cov));
      done = λ j under.
          elim (two j c (omega (arith, under))) [
            | inl low ↦
                elim (d.done j low) [
                  | inl own ↦ inl own
                  | inr gone ↦ inr (set_has (λ (y : Cell). y.bottom ≡ n) t.cells.items f x no_cell (entry t.numbers (length b.numbers.items + j)) gone (λ e. refl))
                ]
            | inr last ↦ inr (ap (λ (k : ℕ). (cell_of u (entry t.numbers (length b.numbers.items + k))).bottom) last
                ∙ ap (λ (k : ℕ). (cell_of u k).bottom) here
                ∙ ap (λ (y : Cell). y.bottom) (get_or-set_same t.cells.items f x no_cell (omega (arith, less, p.more))))
          ];
    }

ended_decided : (b : Grid) (n c : ℕ) (x : Cell) (t : Grid) → Partly b n (columns b) t → c < columns b
    → ((i : ℕ) → i < length b.cells.items → Covers b t i → (cell_of b i).first ≤ c → c ≤ (cell_of b i).last → ⊥)
    → Decided b n c t
    → Decided b n (suc c) (record t { cells = added x t.cells; numbers = put (length b.numbers.items + c) (length t.cells.items) t.numbers })
ended_decided b n c x t p inside free d =
    let number : ℕ = length t.cells.items in
    let place : ℕ = length b.numbers.items + c in
    let u : Grid = record t { cells = added x t.cells; numbers = put place number t.numbers } in
    let here : entry u.numbers place ≡ number = get_or-set_same t.numbers.items place number 0 (omega (arith, inside, p.grid.count)) in
    let other : (j : ℕ) → j ≢ c → entry u.numbers (length b.numbers.items + j) ≡ entry t.numbers (length b.numbers.items + j) =
    λ j ne. get_or-set_other t.numbers.items place (length b.numbers.items + j) number 0 (λ e. ne (omega (arith, e))) in
    let old : (i : ℕ) → i < length b.cells.items → cell_of u i ≡ cell_of t i = λ i small. added_old x t.cells i (omega (arith, small, p.more)) in
    record {
      ends = λ i small.
          elim (d.ends i small) [
            | inl same ↦ inl (ap (λ (y : Cell). y.bottom) (old i small) ∙ same)
            | inr gone ↦ inr (
              ap (λ (y : Cell). y.bottom) (old i small) ∙ gone.0,
              λ j low high.
                  elim (equal_or j c) [
                    | inl same ↦ absurd (free i small gone.1 (omega (arith, low, same)) (omega (arith, high, same)))
                    | inr ne ↦ other j ne ∙ gone.1 j low high
                  ],
            )
          ];
      done = λ j under.
          elim (equal_or j c) [
            | inl same ↦
                (let is : entry u.numbers (length b.numbers.items + j) ≡ number =
                ap (λ (k : ℕ). entry u.numbers (length b.numbers.items + k)) same ∙ here in
                inl (omega (arith, is, p.more)))
            | inr ne ↦
                elim (d.done j (omega (arith, under, ne))) [
                  | inl own ↦ inl (omega (arith, own, other j ne))
                  | inr gone ↦
                      elim (below_or (entry t.numbers (length b.numbers.items + j)) (length b.cells.items)) [
                        | inl low ↦ inr (ap (λ (k : ℕ). (cell_of u k).bottom) (other j ne)
                            ∙ ap (λ (y : Cell). y.bottom) (old (entry t.numbers (length b.numbers.items + j)) low) ∙ gone)
                        | inr high ↦ inl (omega (arith, high, other j ne))
                      ]
                ]
          ];
    }

own_decided : (b : Grid) (n c : ℕ) (t : Grid) → length b.cells.items ≤ entry t.numbers (length b.numbers.items + c) → Decided b n c t → Decided b n (suc c) t
own_decided b n c t own d = record {
  ends = d.ends;
  done = λ j under.
      elim (two j c (omega (arith, under))) [
        | inl low ↦ d.done j low
        | inr last ↦ subst (Done b n t) (sym last) (inl own)
      ];
}

decided_at : (b : Grid) (n c : ℕ) (t : Grid) → HasRoom b → Starts b n → Broad b → c < columns b → Partly b n (columns b) t → Decided b n c t
    → Decided b n (suc c) (went_on_at n (length b.cells.items) c t)
decided_at b n c t room starts broad inside p d =
    let f : ℕ = cell_number t n c in
    let at : number_place t n c ≡ length b.numbers.items + c = place_is b t n c room starts p.heads inside in
    let here : entry t.numbers (length b.numbers.items + c) ≡ f = ap (entry t.numbers) (sym at) in
    let x : Cell = new_cell t n (key t.table (line t.table (row t.table n).line) c) no_field c c in
    by_cases (Decided b n (suc c)) (nat_lt f (length b.cells.items)) (if is_whole t n f then gone_down n f t else ended_above n c t) t
    (λ e.
    let less : f < length b.cells.items = below_by f (length b.cells.items) e in
    by_cases (Decided b n (suc c)) (is_whole t n f) (gone_down n f t) (ended_above n c t)
    (λ whole. gone_decided b n c f t p here less (whole_covers b n f t room starts p broad less whole) d)
    (λ whole.
    subst (λ (i : ℕ). Decided b n (suc c) (record t { cells = added x t.cells; numbers = put i (length t.cells.items) t.numbers })) (sym at)
    (ended_decided b n c x t p inside
    (λ i small cov low high.
    let same : i ≡ f = sym (cov c low high) ∙ here in
    differ (sym whole ∙ ap (is_whole t n) (sym same) ∙ covers_whole b n i t room starts p broad small cov)) d)))
    (λ e. own_decided b n c t (let high : length b.cells.items ≤ f = not_below_by f (length b.cells.items) e in omega (arith, high, here)) d)

decided : (b : Grid) (n c : ℕ) (t : Grid) → HasRoom b → Starts b n → Broad b → c ≤ columns b → Partly b n (columns b) t → Olds b t
    → Decided b n c (in_turn c (went_on_at n (length b.cells.items)) t)
decided b n zero t room starts broad h p olds = record {
  ends = λ f less. inl (ap (λ (y : Cell). y.bottom) (olds f less));
  done = λ d under. absurd (none d under);
}
decided b n (suc c) t room starts broad h p olds =
    decided_at b n c (in_turn c (went_on_at n (length b.cells.items)) t) room starts broad (omega (arith, h))
    (judged b n c t room starts (omega (arith, h)) p) (decided b n c t room starts broad (omega (arith, h)) p olds)

-- ---- in all rows

abbrev pub Span : ℕ → ℕ → Items ℕ → ℕ → Cell → Type 0
Span w k numbers f x =
    (x.top ≤ x.bottom) × (x.bottom < k) × ((r : ℕ) → x.top ≤ r → r ≤ x.bottom → entry numbers (r * w + x.first) ≡ f)

record Spans (w k : ℕ) (t : Grid) : Type 0 where
  spans : (f : ℕ) → f < length t.cells.items → Span w k t.numbers f (cell_of t f)
  broad : (f : ℕ) → f < length t.cells.items → ((cell_of t f).first ≤ (cell_of t f).last) × ((cell_of t f).last < w)
  ends : (j : ℕ) → k ≡ suc j → (c : ℕ) → c < w → entry t.numbers (j * w + c) < length t.cells.items
      → (cell_of t (entry t.numbers (j * w + c))).bottom ≡ j

-- a field from above that went on over the row stood in the one above it
stood_above : (w n f : ℕ) (t u : Grid) → columns t ≡ w → length t.numbers.items ≡ n * w → Spans w n t → Partly t n (columns t) u → f < length t.cells.items
    → Covers t u f → (0 < n) × ((cell_of t f).bottom ≡ n - 1)
stood_above w n f t u same starts s p before cov =
    let first : ℕ = (cell_of t f).first in
    let b = s.broad f before in
    let here : entry u.numbers (length t.numbers.items + first) ≡ f = cov first (omega arith) b.0 in
    elim (p.copied first (omega (arith, b.0, b.1, same))) [
      | inl own ↦ absurd (let no : ⊥ = omega (arith, own, here, before) in no)
      | inr down ↦
          (let up : n * w ≡ (n - 1) * w + w = one_less n w down.0 in
          let at : (n - 1) * w + first ≡ length t.numbers.items + first - columns t = omega (arith, up, starts, same) in
          let is : entry t.numbers ((n - 1) * w + first) ≡ f = ap (entry t.numbers) at ∙ sym down.1 ∙ here in (
            down.0,
            ap (λ (k : ℕ). (cell_of t k).bottom) (sym is)
                ∙ s.ends (n - 1) (omega (arith, down.0)) first (omega (arith, b.0, b.1)) (omega (arith, is, before)),
          ))
    ]

old_span : (w n f : ℕ) (t u : Grid) → columns t ≡ w → length t.numbers.items ≡ n * w → Spans w n t → Partly t n (columns t) u → f < length t.cells.items
    → Ends t n u f → Span w (suc n) u.numbers f (cell_of u f)
old_span w n f t u same starts s p before h =
    let o = s.spans f before in
    let b = s.broad f before in
    let top : (cell_of u f).top ≡ (cell_of t f).top = p.tops f before in
    let first : (cell_of u f).first ≡ (cell_of t f).first = p.firsts f before in
    let above : (r : ℕ) → (cell_of t f).top ≤ r → r ≤ (cell_of t f).bottom → entry u.numbers (r * w + (cell_of u f).first) ≡ f =
    λ r low high.
    ap (λ (i : ℕ). entry u.numbers (r * w + i)) first
    ∙ p.grid.kept (r * w + (cell_of t f).first)
    (omega (arith, within w n r (cell_of t f).first (omega (arith, high, o.1)) (omega (arith, b.0, b.1)), starts))
    ∙ o.2 r low high in
    elim h [
      | inl kept ↦ (omega (arith, o.0, top, kept), omega (arith, o.1, kept), λ r low high. above r (omega (arith, low, top)) (omega (arith, high, kept)))
      | inr gone ↦
          (let more = stood_above w n f t u same starts s p before gone.1 in (
            omega (arith, o.0, top, gone.0, more.1),
            omega (arith, gone.0),
            λ r low high.
                elim (two r n (omega (arith, high, gone.0))) [
                  | inl less ↦ above r (omega (arith, low, top)) (omega (arith, less, more.0, more.1))
                  | inr last ↦
                      (let at : r * w ≡ length t.numbers.items = ap (λ (k : ℕ). k * w) last ∙ sym starts in
                      ap (λ (i : ℕ). entry u.numbers (r * w + i)) first
                      ∙ ap (λ (i : ℕ). entry u.numbers (i + (cell_of t f).first)) at
                      ∙ gone.1 (cell_of t f).first (omega arith) b.0)
                ],
          ))
    ]

row_spans : (w n : ℕ) (t u : Grid) (x : Placed) → columns t ≡ w → length t.numbers.items ≡ n * w → Spans w n t → Partly t n (columns t) u
    → Decided t n (columns t) u → Spans w (suc n) (record u { placed = added x u.placed })
row_spans w n t u x same starts s p d = record {
  spans = λ f less.
      elim (below_or f (length t.cells.items)) [
        | inl before ↦ old_span w n f t u same starts s p before (d.ends f before)
        | inr low ↦
            (let my : Mine t n (columns t) u f = p.mine f low less in
            let a : Alone t n u f = p.alone f low less in (
              omega (arith, my.0, a.0),
              omega (arith, a.0),
              λ r from to.
                  let last : r ≡ n = omega (arith, from, to, my.0, a.0) in
                  let at : r * w ≡ length t.numbers.items = ap (λ (k : ℕ). k * w) last ∙ sym starts in
                  ap (λ (i : ℕ). entry u.numbers (i + (cell_of u f).first)) at ∙ my.2,
            ))
      ];
  broad = λ f less.
      elim (below_or f (length t.cells.items)) [
        | inl before ↦
            (let b = s.broad f before in
            (omega (arith, b.0, p.firsts f before, p.lasts f before), omega (arith, b.1, p.lasts f before)))
        | inr low ↦ (let a : Alone t n u f = p.alone f low less in (a.1.0, omega (arith, a.1.1, same)))
      ];
  ends = λ j e c less inside.
      let last : n ≡ j = omega (arith, e) in
      let at : j * w + c ≡ length t.numbers.items + c =
      ap (λ (k : ℕ). k * w + c) (sym last) ∙ ap (λ (k : ℕ). k + c) (sym starts) in
      let is : entry u.numbers (j * w + c) ≡ entry u.numbers (length t.numbers.items + c) = ap (entry u.numbers) at in
      ap (λ (k : ℕ). (cell_of u k).bottom) is
      ∙ elim (d.done c (omega (arith, less, same))) [
        | inl own ↦ (p.alone (entry u.numbers (length t.numbers.items + c)) own (omega (arith, inside, is))).0
        | inr gone ↦ gone
      ]
      ∙ last;
}

one_more_row : (s : Grid) (n : ℕ) (t : Grid) → AllRoom s → n < length s.table.rows.items → RowsPlaced s n t → Spans (columns s) n t
    → Spans (columns s) (suc n) (placed_row n t)
one_more_row s n t room inside p k =
    let w : ℕ = columns s in
    let same : columns t ≡ w = ap (λ (xs : Items Column). length xs.items) p.heads in
    let up : n * w + w ≤ length s.table.rows.items * w = up_to w n (length s.table.rows.items) inside in
    let has : HasRoom t = (omega (arith, p.grid, p.room, same, room.0, up), omega (arith, p.room, room.1)) in
    let starts : Starts t n = p.grid ∙ ap (λ (i : ℕ). n * i) (sym same) in
    let broad : (f : ℕ) → f < length t.cells.items → ((cell_of t f).first ≤ (cell_of t f).last) × ((cell_of t f).last < columns t) =
    λ f less. (let b = k.broad f less in (b.0, omega (arith, b.1, same))) in
    let r : Row = row t.table n in
    let q : Grid = (placing (columns t) n r t).grid in
    let filled : Partly t n (columns t) q = row_filled t n r has starts in
    let inner : columns q ≡ columns t = ap (λ (xs : Items Column). length xs.items) filled.heads in
    let u : Grid = went_on n (length t.cells.items) q in
    let j : Partly t n (columns t) u =
    subst (λ (i : ℕ). Partly t n (columns t) (in_turn i (went_on_at n (length t.cells.items)) q)) (sym inner)
    (judged t n (columns t) q has starts (omega arith) filled) in
    let d : Decided t n (columns t) u =
    subst (λ (i : ℕ). Decided t n (columns t) (in_turn i (went_on_at n (length t.cells.items)) q)) (sym inner)
    (decided t n (columns t) q has starts broad (omega arith) filled (row_olds t n r has starts)) in
    row_spans w n t u (place_of n (length t.cells.items) (placing (columns t) n r t).given u) same p.grid k j d

rows_spans : (t : Grid) (k : ℕ) → AllRoom (forgotten_cells t) → k ≤ length t.table.rows.items
    → Spans (columns (forgotten_cells t)) k (in_turn k placed_row (forgotten_cells t))
rows_spans t zero room h = record {
  spans = λ f less. absurd (none f less);
  broad = λ f less. absurd (none f less);
  ends = λ j e c less inside. absurd (let no : ⊥ = omega (arith, e) in no);
}
rows_spans t (suc k) room h =
    one_more_row (forgotten_cells t) k (in_turn k placed_row (forgotten_cells t)) room (omega (arith, h)) (rows_placed t k room (omega (arith, h)))
    (rows_spans t k room (omega (arith, h)))

-- ---- the last row that takes room, from each row upward

abbrev Upward : Grid → ℕ → ℕ → ℕ → Type 0
Upward a r t last = (t ≤ last) × (last ≤ r) × ((placed a last).own ≡ true)

record Settles (a : Grid) (j : ℕ) (s : Settling) : Type 0 where
  cells : s.grid.cells ≡ a.cells
  numbers : s.grid.numbers ≡ a.numbers
  heads : s.grid.columns ≡ a.columns
  count : length s.grid.placed.items ≡ length a.placed.items
  owns : (r : ℕ) → (placed s.grid r).own ≡ (placed a r).own
  so_far : (t : ℕ) → t < j → (placed a t).own ≡ true → (t ≤ s.last_own) × (s.last_own < j) × ((placed a s.last_own).own ≡ true)
  each : (r t : ℕ) → r < j → t ≤ r → (placed a t).own ≡ true → Upward a r t (placed s.grid r).last_own

last_so_far : (a : Grid) (j last : ℕ) (b : Bool) → b ≡ (placed a j).own
    → ((t : ℕ) → t < j → (placed a t).own ≡ true → (t ≤ last) × (last < j) × ((placed a last).own ≡ true))
    → (t : ℕ) → t < suc j → (placed a t).own ≡ true
    → (t ≤ (if b then j else last)) × ((if b then j else last) < suc j) × ((placed a (if b then j else last)).own ≡ true)
last_so_far a j last true e before t less own = (omega (arith, less), omega arith, sym e)
last_so_far a j last false e before t less own =
    elim (two t j (omega (arith, less))) [
      | inl low ↦ (let o = before t low own in (o.0, omega (arith, o.1), o.2))
      | inr same ↦ absurd (differ (e ∙ ap (λ (k : ℕ). (placed a k).own) (sym same) ∙ own))
    ]

row_settles : (a : Grid) (j : ℕ) (s : Settling) → j < length a.placed.items → Settles a j s → Settles a (suc j) (settled_row j s)
row_settles a j s inside h =
    let own : Bool = (placed s.grid j).own in
    let last : ℕ = if own then j else s.last_own in
    let x : Placed = record (placed s.grid j) { last_own = last } in
    let ps : List Placed = s.grid.placed.items in
    let far : (t : ℕ) → t < suc j → (placed a t).own ≡ true → (t ≤ last) × (last < suc j) × ((placed a last).own ≡ true) =
    last_so_far a j s.last_own own (h.owns j) h.so_far in
    record {
      cells = h.cells;
      numbers = h.numbers;
      heads = h.heads;
      count = length-set ps j x ∙ h.count;
      owns = λ r. set_same (λ (y : Placed). y.own) ps j x no_place refl r ∙ h.owns r;
      so_far = far;
      each = λ r t less under taken.
          elim (two r j (omega (arith, less))) [
            | inl low ↦
                (let ne : r ≢ j = λ e. omega (arith, low, e) in
                let is : get_or (put j x s.grid.placed).items r no_place ≡ placed s.grid r = get_or-set_other ps j r x no_place ne in
                subst (λ (y : Placed). Upward a r t y.last_own) (sym is) (h.each r t low under taken))
            | inr same ↦
                (let is : get_or (put j x s.grid.placed).items r no_place ≡ x =
                ap (λ (k : ℕ). get_or (put j x s.grid.placed).items k no_place) same
                ∙ get_or-set_same ps j x no_place (omega (arith, inside, h.count)) in
                let o = far t (omega (arith, under, same)) taken in
                subst (λ (y : Placed). Upward a r t y.last_own) (sym is) (o.0, omega (arith, o.1, same), o.2))
          ];
    }

rows_settle : (a : Grid) (k : ℕ) → k ≤ length a.placed.items → Settles a k (in_turn k settled_row (settling a 0))
rows_settle a zero h = record {
  cells = refl;
  numbers = refl;
  heads = refl;
  count = refl;
  owns = λ r. refl;
  so_far = λ t less own. absurd (none t less);
  each = λ r t less under own. absurd (none r less);
}
rows_settle a (suc k) h = row_settles a k (in_turn k settled_row (settling a 0)) (omega (arith, h)) (rows_settle a k (omega (arith, h)))

-- ---- fields end in rows that take room

record Ended (w k : ℕ) (q : Grid) (j : ℕ) (u : Grid) : Type 0 where
  numbers : u.numbers ≡ q.numbers
  places : u.placed ≡ q.placed
  count : length u.cells.items ≡ length q.cells.items
  tops : (f : ℕ) → (cell_of u f).top ≡ (cell_of q f).top
  spans : (f : ℕ) → f < length q.cells.items → Span w k q.numbers f (cell_of u f)
  owned : (f : ℕ) → f < j → f < length q.cells.items → (placed q (cell_of u f).bottom).own ≡ true

cell_ends : (w k j : ℕ) (q u : Grid) → ((r t : ℕ) → r < k → t ≤ r → (placed q t).own ≡ true → Upward q r t (placed q r).last_own)
    → ((f : ℕ) → f < length q.cells.items → (placed q (cell_of q f).top).own ≡ true) → j < length q.cells.items → Ended w k q j u
    → Ended w k q (suc j) (settled_cell j u)
cell_ends w k j q u each tops inside h =
    let x : Cell = ended_in u (cell_of u j) in
    let cs : List Cell = u.cells.items in
    let o = h.spans j inside in
    let last : (placed u (cell_of u j).bottom).last_own ≡ (placed q (cell_of u j).bottom).last_own =
    ap (λ (ps : Items Placed). (get_or ps.items (cell_of u j).bottom no_place).last_own) h.places in
    let own : (placed q (cell_of u j).top).own ≡ true = ap (λ (t : ℕ). (placed q t).own) (h.tops j) ∙ tops j inside in
    let e = each (cell_of u j).bottom (cell_of u j).top o.1 o.0 own in
    record {
      numbers = h.numbers;
      places = h.places;
      count = length-set cs j x ∙ h.count;
      tops = λ f. set_same (λ (y : Cell). y.top) cs j x no_cell refl f ∙ h.tops f;
      spans = λ f less.
          set_has (Span w k q.numbers f) cs j x no_cell f (h.spans f less)
          (λ same. subst (λ (i : ℕ). Span w k q.numbers i x) (sym same) (
            omega (arith, e.0, last),
            omega (arith, e.1, last, o.1),
            λ r low high. o.2 r low (omega (arith, high, e.1, last)),
          ));
      owned = λ f less small.
          elim (two f j (omega (arith, less))) [
            | inl low ↦
                (let ne : f ≢ j = λ same. omega (arith, low, same) in
                ap (λ (y : Cell). (placed q y.bottom).own) (get_or-set_other cs j f x no_cell ne) ∙ h.owned f low small)
            | inr same ↦ ap (λ (y : Cell). (placed q y.bottom).own)
                (ap (λ (i : ℕ). get_or (put j x u.cells).items i no_cell) same ∙ get_or-set_same cs j x no_cell (omega (arith, inside, h.count)))
                ∙ ap (λ (i : ℕ). (placed q i).own) last ∙ e.2
          ];
    }

cells_end : (w k j : ℕ) (q : Grid) → ((r t : ℕ) → r < k → t ≤ r → (placed q t).own ≡ true → Upward q r t (placed q r).last_own)
    → ((f : ℕ) → f < length q.cells.items → (placed q (cell_of q f).top).own ≡ true)
    → ((f : ℕ) → f < length q.cells.items → Span w k q.numbers f (cell_of q f))
    → j ≤ length q.cells.items → Ended w k q j (in_turn j settled_cell q)
cells_end w k zero q each tops spans h = record {
  numbers = refl;
  places = refl;
  count = refl;
  tops = λ f. refl;
  spans = spans;
  owned = λ f less small. absurd (none f less);
}
cells_end w k (suc j) q each tops spans h =
    cell_ends w k j q (in_turn j settled_cell q) each tops (omega (arith, h)) (cells_end w k j q each tops spans (omega (arith, h)))

-- ---- of a table

pub record GoesDown (w k : ℕ) (t : Grid) (f : ℕ) : Type 0 where
  pub span : Span w k t.numbers f (cell_of t f)
  pub own : (placed t (cell_of t f).bottom).own ≡ true

pub all_go_down : (t : Grid) → AllRoom (forgotten_cells t) → length t.table.rows.items ≤ t.placed.capacity
    → (f : ℕ) → f < length (placed_cells t).cells.items → GoesDown (columns (forgotten_cells t)) (length t.table.rows.items) (placed_cells t) f
all_go_down t room places f less =
    let s : Grid = forgotten_cells t in
    let w : ℕ = columns s in
    let k : ℕ = length t.table.rows.items in
    let a : Grid = in_turn k placed_row s in
    let p : RowsPlaced s k a = rows_placed t k room (omega arith) in
    let z : Spans w k a = rows_spans t k room (omega arith) in
    let full : length a.placed.items ≡ k = omega (arith, p.count, p.places, places) in
    let b : Settling = in_turn (length a.placed.items) settled_row (settling a 0) in
    let m : Settles a (length a.placed.items) b = rows_settle a (length a.placed.items) (omega arith) in
    let q : Grid = b.grid in
    let cells : (i : ℕ) → cell_of q i ≡ cell_of a i = λ i. ap (λ (cs : Items Cell). get_or cs.items i no_cell) m.cells in
    let count : length q.cells.items ≡ length a.cells.items = ap (λ (cs : Items Cell). length cs.items) m.cells in
    let each : (r u : ℕ) → r < k → u ≤ r → (placed q u).own ≡ true → Upward q r u (placed q r).last_own = λ r u inside under own.
    (let o = m.each r u (omega (arith, inside, full)) under (sym (m.owns u) ∙ own) in (o.0, o.1, m.owns (placed q r).last_own ∙ o.2)) in
    let tops : (i : ℕ) → i < length q.cells.items → (placed q (cell_of q i).top).own ≡ true = λ i small.
    ap (λ (c : Cell). (placed q c.top).own) (cells i) ∙ m.owns (cell_of a i).top ∙ (p.begins i (omega (arith, small, count))).3 in
    let spans : (i : ℕ) → i < length q.cells.items → Span w k q.numbers i (cell_of q i) = λ i small.
    subst (λ (c : Cell). Span w k q.numbers i c) (sym (cells i))
    (subst (λ (g : Items ℕ). Span w k g i (cell_of a i)) (sym m.numbers) (z.spans i (omega (arith, small, count)))) in
    let n : ℕ = length q.cells.items in
    let v : Grid = in_turn n settled_cell q in
    let e : Ended w k q n v = cells_end w k n q each tops spans (omega arith) in
    let inside : f < n = omega (arith, less, e.count) in
    record {
      span = subst (λ (g : Items ℕ). Span w k g f (cell_of v f)) (sym e.numbers) (e.spans f inside);
      own = ap (λ (ps : Items Placed). (get_or ps.items (cell_of v f).bottom no_place).own) e.places ∙ e.owned f inside inside;
    }
