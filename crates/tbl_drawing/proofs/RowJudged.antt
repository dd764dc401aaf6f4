-- A field from above goes on over a row in all of its columns, or ends above.
use Rattle.std.proofs.Common.{◌≡◌, ◌≢◌, ℕ, zero, suc, ◌+◌, ◌*◌, ◌<◌, ◌≤◌, min, nat_lt, List, [], ◌∷◌, ◌++◌, length, refl, sym, ap, subst, arith, ◌∙◌, length-append, length-set, inl, inr, if◌then◌else◌}
use Rattle.std.proofs.Math.ListN.{get_or-append}
use Rattle.std.proofs.Math.Seq.{get_or-append_seam}
use Rattle.std.proofs.lemmas.List.{get_or-set_other, get_or-set_same}
use Rattle.nr_vectors.specs.Items.{Items}
use Rattle.tbl_columns.specs.declared.grid.Cell.{Cell}
use Rattle.tbl_columns.specs.declared.grid.Column.{Column}
use Rattle.tbl_columns.specs.declared.grid.Grid.{Grid}
use Rattle.tbl_columns.specs.Cells.{ended_above, gone_down, is_whole, new_cell, went_on_at}
use Rattle.tbl_columns.specs.Held.{cell_number, cell_of, columns, no_cell, number_place}
use Rattle.tbl_table.specs.Held.{key, line, no_field, row}
use Rattle.tbl_table.specs.Lists.{added, in_turn, put}
use Rattle.tbl_table.specs.Sums.{sum}
use Rattle.tbl_columns.proofs.Turns.{set_has, set_same}
use Rattle.tbl_drawing.proofs.Below.{below_by, by_cases, equal_or, two}
use Rattle.tbl_drawing.proofs.RowPlaced.{Alone, HasRoom, Mine, Narrow, Partly, Starts, entry, kept_copied, most}

-- ---- a field from above goes on over the row, or ends above

partly_gone : (b : Grid) (n w f : ℕ) (t : Grid) → Partly b n w t → Partly b n w (gone_down n f t)
partly_gone b n w f t p =
    let x : Cell = record (cell_of t f) { bottom = n } in
    let u : Grid = gone_down n f t in
    let count : length u.cells.items ≡ length t.cells.items = length-set t.cells.items f x in
    let tops : (i : ℕ) → (cell_of u i).top ≡ (cell_of t i).top = set_same (λ (c : Cell). c.top) t.cells.items f x no_cell refl in
    let firsts : (i : ℕ) → (cell_of u i).first ≡ (cell_of t i).first = set_same (λ (c : Cell). c.first) t.cells.items f x no_cell refl in
    let lasts : (i : ℕ) → (cell_of u i).last ≡ (cell_of t i).last = set_same (λ (c : Cell). c.last) t.cells.items f x no_cell refl in
    record {
      heads = p.heads;
      table = p.table;
      rows = p.rows;
      grid = p.grid;
      more = omega (arith, p.more, count);
      tops = λ i less. tops i ∙ p.tops i less;
      firsts = λ i less. firsts i ∙ p.firsts i less;
      mine = λ i low less.
          let my : Mine b n w t i = p.mine i low (omega (arith, less, count)) in (
            tops i ∙ my.0,
            omega (arith, firsts i, my.1),
            ap (λ (k : ℕ). entry t.numbers (length b.numbers.items + k)) (firsts i) ∙ my.2,
          );
      lasts = λ i less. lasts i ∙ p.lasts i less;
      alone = λ i low less.
          let a : Alone b n t i = p.alone i low (omega (arith, less, count)) in
          set_has (λ (c : Cell). (c.bottom ≡ n) × Narrow b c) t.cells.items f x no_cell i a
          (λ e. (refl, subst (λ (k : ℕ). Narrow b (cell_of t k)) e a.1));
      copied = p.copied;
    }

-- an entry of the row is another
grid_put : (b : Grid) (n w c x : ℕ) (t : Grid) → Partly b n w t → length b.cells.items ≤ x → c < w → entry t.numbers (length b.numbers.items + c) < length b.cells.items
    → Partly b n w (record t { numbers = put (length b.numbers.items + c) x t.numbers })
grid_put b n w c x t p own inside above =
    let place : ℕ = length b.numbers.items + c in
    let u : Grid = record t { numbers = put place x t.numbers } in
    let count : length u.numbers.items ≡ length t.numbers.items = length-set t.numbers.items place x in
    record {
      heads = p.heads;
      table = p.table;
      rows = p.rows;
      grid = record {
        count = count ∙ p.grid.count;
        room = p.grid.room;
        kept = λ i less. get_or-set_other t.numbers.items place i x 0 (other i less) ∙ p.grid.kept i less;
      };
      more = p.more;
      tops = p.tops;
      firsts = p.firsts;
      mine = λ f low less.
          let my : Mine b n w t f = p.mine f low less in (
            my.0,
            my.1,
            get_or-set_other t.numbers.items place (length b.numbers.items + (cell_of t f).first) x 0 (apart f low my.2) ∙ my.2,
          );
      lasts = p.lasts;
      alone = p.alone;
      copied = λ d less.
          elim (equal_or d c) [
            | inl same ↦
                (let here : entry u.numbers (length b.numbers.items + d) ≡ x =
                ap (λ (k : ℕ). entry u.numbers (length b.numbers.items + k)) same
                ∙ get_or-set_same t.numbers.items place x 0 (omega (arith, inside, p.grid.count)) in
                inl (omega (arith, here, own)))
            | inr differ ↦ kept_copied b n d t u
                (get_or-set_other t.numbers.items place (length b.numbers.items + d) x 0 (λ e. differ (omega (arith, e)))) (p.copied d less)
          ];
    }
  where
    other : (i : ℕ) → i < length b.numbers.items → i ≢ length b.numbers.items + c
    other i less same = omega (arith, less, same)

    apart : (f : ℕ) → length b.cells.items ≤ f → entry t.numbers (length b.numbers.items + (cell_of t f).first) ≡ f
        → length b.numbers.items + (cell_of t f).first ≢ length b.numbers.items + c
    apart f low is same = omega (arith, low, is, above, ap (entry t.numbers) same)

one_ended : (b : Grid) (n w c : ℕ) (x : Cell) (t : Grid) → Partly b n w t → c < w → entry t.numbers (length b.numbers.items + c) < length b.cells.items
    → x.top ≡ n → x.first ≡ c → x.bottom ≡ n → Narrow b x
    → Partly b n w (record t { cells = record t.cells { items = t.cells.items ++ x ∷ [] }; numbers = put (length b.numbers.items + c) (length t.cells.items) t.numbers })
one_ended b n w c x t p inside above top first bottom wide =
    let number : ℕ = length t.cells.items in
    let place : ℕ = length b.numbers.items + c in
    let v : Grid = record t { numbers = put place number t.numbers } in
    let q : Partly b n w v = grid_put b n w c number t p p.more inside above in
    let u : Grid = record v { cells = record t.cells { items = t.cells.items ++ x ∷ [] } } in
    let longer : length u.cells.items ≡ number + 1 = length-append t.cells.items (x ∷ []) in
    let old : (f : ℕ) → f < number → cell_of u f ≡ cell_of t f = λ f less. get_or-append t.cells.items (x ∷ []) no_cell f less in
    let last : cell_of u number ≡ x = get_or-append_seam t.cells.items x [] no_cell in
    let there : entry u.numbers place ≡ number = get_or-set_same t.numbers.items place number 0 (omega (arith, inside, p.grid.count)) in
    record {
      heads = p.heads;
      table = p.table;
      rows = p.rows;
      grid = q.grid;
      more = omega (arith, p.more, longer);
      tops = λ f less. ap (λ (d : Cell). d.top) (old f (omega (arith, less, p.more))) ∙ p.tops f less;
      firsts = λ f less. ap (λ (d : Cell). d.first) (old f (omega (arith, less, p.more))) ∙ p.firsts f less;
      mine = λ f low less.
          elim (two f number (omega (arith, less, longer))) [
            | inl before ↦
                (let my : Mine b n w v f = q.mine f low before in
                let here : (cell_of u f).first ≡ (cell_of t f).first = ap (λ (d : Cell). d.first) (old f before) in (
                  ap (λ (d : Cell). d.top) (old f before) ∙ my.0,
                  omega (arith, here, my.1),
                  ap (λ (i : ℕ). entry u.numbers (length b.numbers.items + i)) here ∙ my.2,
                ))
            | inr same ↦
                (let it : cell_of u f ≡ x = ap (cell_of u) same ∙ last in
                let here : (cell_of u f).first ≡ c = ap (λ (d : Cell). d.first) it ∙ first in (
                  ap (λ (d : Cell). d.top) it ∙ top,
                  omega (arith, here, inside),
                  ap (λ (i : ℕ). entry u.numbers (length b.numbers.items + i)) here ∙ there ∙ sym same,
                ))
          ];
      lasts = λ f less. ap (λ (d : Cell). d.last) (old f (omega (arith, less, p.more))) ∙ p.lasts f less;
      alone = λ f low less.
          elim (two f number (omega (arith, less, longer))) [
            | inl before ↦ subst (λ (d : Cell). (d.bottom ≡ n) × Narrow b d) (sym (old f before)) (p.alone f low before)
            | inr same ↦
                (let it : cell_of u f ≡ x = ap (cell_of u) same ∙ last in
                subst (λ (d : Cell). (d.bottom ≡ n) × Narrow b d) (sym it) (bottom, wide))
          ];
      copied = q.copied;
    }

cell_ended : (b : Grid) (n w c : ℕ) (x : Cell) (t : Grid) → Partly b n w t → c < w → entry t.numbers (length b.numbers.items + c) < length b.cells.items
    → x.top ≡ n → x.first ≡ c → x.bottom ≡ n → Narrow b x
    → Partly b n w (record t { cells = added x t.cells; numbers = put (length b.numbers.items + c) (length t.cells.items) t.numbers })
cell_ended b n w c x t p inside above top first bottom wide =
    by_cases
    (λ (cs : List Cell). Partly b n w (record t { cells = record t.cells { items = cs }; numbers = put (length b.numbers.items + c) (length t.cells.items) t.numbers }))
    (nat_lt (length t.cells.items) t.cells.capacity) (t.cells.items ++ x ∷ []) t.cells.items
    (λ e. one_ended b n w c x t p inside above top first bottom wide) (λ e. grid_put b n w c (length t.cells.items) t p p.more inside above)

pub place_is : (b t : Grid) (n c : ℕ) → HasRoom b → Starts b n → t.columns ≡ b.columns → c < columns b → number_place t n c ≡ length b.numbers.items + c
place_is b t n c room starts heads inside =
    let same : columns t ≡ columns b = ap (λ (xs : Items Column). length xs.items) heads in
    let fits : sum (min (length b.numbers.items) most) c ≡ length b.numbers.items + c = omega (arith, room.0, room.1, inside) in
    ap (λ (k : ℕ). sum (min (n * k) most) c) same ∙ ap (λ (k : ℕ). sum (min k most) c) (sym starts) ∙ fits

judged_at : (b : Grid) (n c : ℕ) (t : Grid) → HasRoom b → Starts b n → c < columns b → Partly b n (columns b) t
    → Partly b n (columns b) (went_on_at n (length b.cells.items) c t)
judged_at b n c t room starts inside p =
    let f : ℕ = cell_number t n c in
    let at : number_place t n c ≡ length b.numbers.items + c = place_is b t n c room starts p.heads inside in
    let x : Cell = new_cell t n (key t.table (line t.table (row t.table n).line) c) no_field c c in
    by_cases (Partly b n (columns b)) (nat_lt f (length b.cells.items)) (if is_whole t n f then gone_down n f t else ended_above n c t) t
    (λ e.
    by_cases (Partly b n (columns b)) (is_whole t n f) (gone_down n f t) (ended_above n c t)
    (λ whole. partly_gone b n (columns b) f t p)
    (λ whole.
    subst (λ (i : ℕ). Partly b n (columns b) (record t { cells = added x t.cells; numbers = put i (length t.cells.items) t.numbers })) (sym at)
    (cell_ended b n (columns b) c x t p inside
    (let here : entry t.numbers (length b.numbers.items + c) ≡ f = ap (entry t.numbers) (sym at) in
    let less : f < length b.cells.items = below_by f (length b.cells.items) e in omega (arith, here, less))
    refl refl refl (omega arith, inside))))
    (λ e. p)

pub judged : (b : Grid) (n c : ℕ) (t : Grid) → HasRoom b → Starts b n → c ≤ columns b → Partly b n (columns b) t
    → Partly b n (columns b) (in_turn c (went_on_at n (length b.cells.items)) t)
judged b n zero t room starts h p = p
judged b n (suc c) t room starts h p =
    judged_at b n c (in_turn c (went_on_at n (length b.cells.items)) t) room starts (omega (arith, h)) (judged b n c t room starts (omega (arith, h)) p)
