-- Cells are taken from columns: as many as are asked, or until none may be narrower.
use Rattle.std.proofs.Common.{◌≡◌, ℕ, zero, suc, ◌+◌, ◌-◌, ◌<◌, ◌≤◌, ◌&&◌, min, Bool, true, false, nat_lt, Option, None, Some, get_or, inl, inr, refl, sym, ap, subst, arith, ◌∙◌, length-set, if◌then◌else◌}
use Rattle.std.specs.Prelude.{◌⊎◌}
use Rattle.std.proofs.lemmas.Bool.Decides.{nat_tests}
use Rattle.std.proofs.lemmas.List.{get_or-set_same}
use Rattle.tbl_blocks.specs.declared.blocks.Blocks.{Blocks}
use Rattle.tbl_columns.specs.declared.grid.Column.{Column}
use Rattle.tbl_columns.specs.declared.grid.Grid.{Grid}
use Rattle.tbl_columns.specs.Held.{column, columns, fresh}
use Rattle.tbl_columns.specs.Narrow.{Widest, cells_taken, found_at, is_widest, narrower, nothing_found, taken_from, widest}
use Rattle.tbl_table.specs.Lists.{in_turn}
use Rattle.tbl_columns.proofs.Ends.{Alike, gap_at, total, total_alike, total_least, width_at}
use Rattle.tbl_columns.proofs.Taken.{none_taken}
use Rattle.tbl_columns.proofs.Turns.{set_has, set_same}

-- ---- what the search for the widest column finds

pub record NoneFound (n : ℕ) (g : Grid) (f : ℕ → ℕ) (w : Widest) : Type 0 where
  pub none : w.found ≡ None
  pub least : w.most ≡ 0
  pub narrow : (c : ℕ) → c < n → width_at g c ≤ f c

pub record SomeFound (n : ℕ) (g : Grid) (f : ℕ → ℕ) (w : Widest) : Type 0 where
  pub place : ℕ
  pub found : w.found ≡ Some place
  pub inside : place < n
  pub wide : f place < width_at g place

narrow_by : (a b : Bool) (w f m : ℕ) → nat_lt f w ≡ a → nat_lt m w ≡ b → m ≡ 0 → (a && b) ≡ false → w ≤ f
narrow_by true true w f m p q z e = absurd (cc)
narrow_by true false w f m p q z e = let h : w ≤ m = grind (arith, nat_tests, q) in omega (arith, h, z)
narrow_by false b w f m p q z e = grind (arith, nat_tests, p)

wide_by : (a b : Bool) (w f : ℕ) → nat_lt f w ≡ a → (a && b) ≡ true → f < w
wide_by true b w f p e = grind (arith, nat_tests, p)
wide_by false b w f p e = absurd (cc)

pub up_to : (n : ℕ) (P : ℕ → Type 0) → ((c : ℕ) → c < n → P c) → P n → (c : ℕ) → c < suc n → P c
up_to n P before last c h = at (n - c) refl
  where
    at : (d : ℕ) → n - c ≡ d → P c
    at zero e = let is : n ≡ c = omega (arith, e, h) in subst P is last
    at (suc d) e = before c (omega (arith, e))

found_next : (n : ℕ) (g : Grid) (f : ℕ → ℕ) (w : Widest) → (NoneFound n g f w ⊎ SomeFound n g f w)
    → (b : Bool) → is_widest (column g n).width (f n) w.most ≡ b
    → NoneFound (suc n) g f (if b then record { found = Some n; most = (column g n).width } else w)
    ⊎ SomeFound (suc n) g f (if b then record { found = Some n; most = (column g n).width } else w)
found_next n g f w before true e =
    inr (record { place = n; found = refl; inside = omega arith; wide = wide_by (nat_lt (f n) (width_at g n)) (nat_lt w.most (width_at g n)) (width_at g n) (f n) refl e })
found_next n g f w (inr s) false e =
    inr (record { place = s.place; found = s.found; inside = let h = s.inside in omega (arith, h); wide = s.wide })
found_next n g f w (inl s) false e =
    inl (record {
      none = s.none;
      least = s.least;
      narrow = up_to n (λ c. width_at g c ≤ f c) s.narrow
          (narrow_by (nat_lt (f n) (width_at g n)) (nat_lt w.most (width_at g n)) (width_at g n) (f n) w.most refl refl s.least e);
    })

pub found_in : (n : ℕ) (g : Grid) (f : ℕ → ℕ)
    → NoneFound n g f (in_turn n (found_at g f) nothing_found) ⊎ SomeFound n g f (in_turn n (found_at g f) nothing_found)
found_in zero g f = inl (record { none = refl; least = refl; narrow = λ c h. absurd (omega (arith, h)) })
found_in (suc n) g f =
    let w : Widest = in_turn n (found_at g f) nothing_found in
    found_next n g f w (found_in n g f) (is_widest (column g n).width (f n) w.most) refl

-- ---- a total of which one part is less

total_less : (k c : ℕ) (v w : ℕ → ℕ) → ((i : ℕ) → i < k → v i ≤ w i) → c < k → v c + 1 ≤ w c → total k v + 1 ≤ total k w
total_less zero c v w le h one = absurd (omega (arith, h))
total_less (suc k) c v w le h one = less (λ p. total_less k c v w (λ i q. le i (omega (arith, q))) p one) (k - c) refl
  where
    less : (c < k → total k v + 1 ≤ total k w) → (d : ℕ) → k - c ≡ d → total k v + v k + 1 ≤ total k w + w k
    less later zero e =
        let is : c ≡ k = omega (arith, e, h) in
        let before : total k v ≤ total k w = total_least k v w (λ i p. le i (omega (arith, p))) in
        let last : v k + 1 ≤ w k = subst (λ (i : ℕ). v i + 1 ≤ w i) is one in
        omega (arith, before, last)
    less later (suc d) e =
        let before : total k v + 1 ≤ total k w = later (omega (arith, e)) in
        let last : v k ≤ w k = le k (omega arith) in
        omega (arith, before, last)

-- ---- what is taken

pub record Took (n : ℕ) (f : ℕ → ℕ) (g h : Grid) : Type 0 where
  pub alike : Alike g h
  pub blocks : h.blocks ≡ g.blocks
  pub texts : h.texts ≡ g.texts
  pub cells : h.cells ≡ g.cells
  pub no_less : (c : ℕ) → f c ≤ width_at g c → f c ≤ width_at h c
  pub no_more : (c : ℕ) → width_at h c ≤ width_at g c
  pub fewer : (total (columns g) (width_at h) + n ≤ total (columns g) (width_at g)) ⊎ ((c : ℕ) → c < columns g → width_at h c ≤ f c)

one_no_less : (c : ℕ) (f : ℕ → ℕ) (g : Grid) → f c < width_at g c → (k : ℕ) → f k ≤ width_at g k → f k ≤ width_at (taken_from (Some c) g) k
one_no_less c f g wide k h =
    set_has (λ (x : Column). f k ≤ x.width) g.columns.items c (narrower (column g c)) fresh k h
    (λ e. let here : f k < width_at g k = subst (λ (i : ℕ). f i < width_at g i) (sym e) wide in
    let is : width_at g k ≡ width_at g c = ap (width_at g) e in omega (arith, here, is))

one_no_more : (c : ℕ) (g : Grid) (k : ℕ) → width_at (taken_from (Some c) g) k ≤ width_at g k
one_no_more c g k =
    set_has (λ (x : Column). x.width ≤ width_at g k) g.columns.items c (narrower (column g c)) fresh k (omega arith)
    (λ e. let is : width_at g k ≡ width_at g c = ap (width_at g) e in omega (arith, is))

one_alike : (c : ℕ) (g : Grid) → Alike g (taken_from (Some c) g)
one_alike c g = record {
  table = refl;
  edges = refl;
  count = length-set g.columns.items c (narrower (column g c));
  gap = set_same (λ (x : Column). x.gap) g.columns.items c (narrower (column g c)) fresh refl;
}

one_fewer : (c : ℕ) (f : ℕ → ℕ) (g : Grid) → c < columns g → f c < width_at g c
    → total (columns g) (width_at (taken_from (Some c) g)) + 1 ≤ total (columns g) (width_at g)
one_fewer c f g inside wide =
    let there : column (taken_from (Some c) g) c ≡ narrower (column g c) = get_or-set_same g.columns.items c (narrower (column g c)) fresh inside in
    let width : width_at (taken_from (Some c) g) c ≡ width_at g c - 1 = ap (λ (x : Column). x.width) there in
    total_less (columns g) c (width_at (taken_from (Some c) g)) (width_at g) (λ i p. one_no_more c g i) inside (omega (arith, width, wide))

pub alike_both : (g h k : Grid) → Alike g h → Alike h k → Alike g k
alike_both g h k a b = record {
  table = b.table ∙ a.table;
  edges = b.edges ∙ a.edges;
  count = b.count ∙ a.count;
  gap = λ c. b.gap c ∙ a.gap c;
}

took_more : (n c : ℕ) (f : ℕ → ℕ) (g h : Grid) → c < columns g → f c < width_at g c → Took n f (taken_from (Some c) g) h → Took (suc n) f g h
took_more n c f g h inside wide t =
    let u : Grid = taken_from (Some c) g in
    let count : columns u ≡ columns g = length-set g.columns.items c (narrower (column g c)) in
    record {
      alike = alike_both g u h (one_alike c g) t.alike;
      blocks = t.blocks;
      texts = t.texts;
      cells = t.cells;
      no_less = λ k p. t.no_less k (one_no_less c f g wide k p);
      no_more = λ k. let one = one_no_more c g k in let all = t.no_more k in omega (arith, one, all);
      fewer = fewer_more count t.fewer;
    }
  where
    fewer_more : columns (taken_from (Some c) g) ≡ columns g
        → ((total (columns (taken_from (Some c) g)) (width_at h) + n ≤ total (columns (taken_from (Some c) g)) (width_at (taken_from (Some c) g)))
        ⊎ ((k : ℕ) → k < columns (taken_from (Some c) g) → width_at h k ≤ f k))
        → ((total (columns g) (width_at h) + suc n ≤ total (columns g) (width_at g)) ⊎ ((k : ℕ) → k < columns g → width_at h k ≤ f k))
    fewer_more count (inl less) =
        let one : total (columns g) (width_at (taken_from (Some c) g)) + 1 ≤ total (columns g) (width_at g) = one_fewer c f g inside wide in
        let all : total (columns g) (width_at h) + n ≤ total (columns g) (width_at (taken_from (Some c) g)) =
        subst (λ (k : ℕ). total k (width_at h) + n ≤ total k (width_at (taken_from (Some c) g))) count less in
        inl (omega (arith, one, all))
    fewer_more count (inr narrow) = inr (λ k p. narrow k (subst (λ (m : ℕ). k < m) (sym count) p))

took_none : (n : ℕ) (f : ℕ → ℕ) (g : Grid) → ((c : ℕ) → c < columns g → width_at g c ≤ f c) → Took n f g g
took_none n f g narrow = record {
  alike = record { table = refl; edges = refl; count = refl; gap = λ c. refl };
  blocks = refl;
  texts = refl;
  cells = refl;
  no_less = λ c p. p;
  no_more = λ c. omega arith;
  fewer = inr narrow;
}

pub took : (n : ℕ) (f : ℕ → ℕ) (g : Grid) → columns g ≤ 64 → Took n f g (cells_taken n f g)
took zero f g few = record {
  alike = record { table = refl; edges = refl; count = refl; gap = λ c. refl };
  blocks = refl;
  texts = refl;
  cells = refl;
  no_less = λ c p. p;
  no_more = λ c. omega arith;
  fewer = inl (omega arith);
}
took (suc n) f g few = by_found (λ u h. took n f u h) (found_in (min (columns g) 64) g f)
  where
    by_found : ((u : Grid) → columns u ≤ 64 → Took n f u (cells_taken n f u))
        → (NoneFound (min (columns g) 64) g f (in_turn (min (columns g) 64) (found_at g f) nothing_found)
        ⊎ SomeFound (min (columns g) 64) g f (in_turn (min (columns g) 64) (found_at g f) nothing_found))
        → Took (suc n) f g (cells_taken n f (taken_from (widest g f) g))
    by_found later (inl s) =
        subst (Took (suc n) f g) (sym (none_taken (suc n) f g s.none))
        (took_none (suc n) f g (λ c p. s.narrow c (omega (arith, p, few))))
    by_found later (inr s) =
        let c : ℕ = s.place in
        let low : c < min (columns g) 64 = s.inside in
        let inside : c < columns g = omega (arith, low) in
        let u : Grid = taken_from (Some c) g in
        let count : columns u ≡ columns g = length-set g.columns.items c (narrower (column g c)) in
        subst (λ (o : Option ℕ). Took (suc n) f g (cells_taken n f (taken_from o g))) (sym s.found)
        (took_more n c f g (cells_taken n f u) inside s.wide (later u (omega (arith, count, few))))
