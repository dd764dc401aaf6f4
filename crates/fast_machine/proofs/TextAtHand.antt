-- Text of the source that is at hand: runs of plain bytes, and the blanks after them.
use Prim.Native.Char.{code}
use Rattle.std.proofs.Common.{◌≡◌, ℕ, zero, suc, ◌+◌, ◌-◌, ◌*◌, ◌<◌, ◌≤◌, Bool, true, false, List, [], ◌∷◌, ◌++◌, length, take, drop, Option, None, Some, refl, sym, ap, ◌∙◌, subst, arith, length-drop, length-take-le}
use Rattle.std.specs.Prelude.{◌==◌, is_none, not, slice_index}
use Rattle.std.specs.Option.{option_map}
use Rattle.std.proofs.Math.Seq.{drop-nil}
use Rattle.std.proofs.lemmas.List.{drop-take, get_or-drop, get_or-take, take_rest}
use Rattle.nr_vectors.specs.declared.cell.Look.{Look}
use Rattle.nr_units.specs.Source.{Faults, Never, After, Anytime, Supply, MayGiveAll, later, skipped}
use Rattle.nr_settings.specs.declared.indents.Margins.{Margins}
use Rattle.nr_settings.specs.Fonts.{present_look}
use Rattle.nr_fill.specs.Piece.{Collected, Piece, Word, begins_line, is_nil, line_cells, word_pieces}
use Rattle.nr_fill.specs.Plain.{run_cell}
use Rattle.nr_fill.specs.Runs.{add_run}
use Rattle.fast_input.specs.AtHand.{ComeNext, after_last}
use Rattle.nr_input.specs.Place.{Coming, HoldsComing, HoldsSupply, Reached, is_unseen, passed_run}
use Rattle.nr_input.specs.declared.place.Ahead.{Ahead}
use Rattle.nr_input.specs.declared.place.Ahead.TheVariants.{Unseen}
use Rattle.nr_formatter.specs.Access.{collected, margins}
use Rattle.nr_formatter.specs.Lines.{fits_line}
use Rattle.nr_formatter.specs.Many.Runs.{IsGap, gap_flows, gap_put, gapped, is_in_line, run_put}
use Rattle.nr_formatter.specs.declared.formatter.Formatter.{Formatter}
use Rattle.nr_formatter.proofs.PlainText.{begun-cell, ends_word, in_line}
use Rattle.nr_machine.specs.Machine.{state_after}
use Rattle.nr_machine.specs.Holding.{Shape, at, weight, worth}
use Rattle.fast_machine.specs.Running.{HasNext, Longest, Makes, PutsText, Saves, taken_shape, unburst}
use Rattle.fast_machine.proofs.PlainGaps.{first_of, makes_flows, makes_put, saves_flows, saves_put}
use Rattle.fast_machine.proofs.PlainText.{ArePlain, after_many, come_prefix, makes_run, newline, passed_many, run_saves}
use Rattle.fast_machine.proofs.Running.{makes-add, worth_same}

-- ---- what is to come after some bytes

-- where nothing was read ahead, all that is to come is the source's
supply_unseen : (c : Coming) (a : Ahead) (supply : Option Supply) → is_unseen a ≡ true → HoldsSupply c a supply → supply ≡ Some c.supply
supply_unseen c Unseen supply unseen h = h
supply_unseen c a supply unseen h = absurd (let wrong : false ≡ true = unseen in cc)

-- and it stands before that
supply_held : (c : Coming) (a : Ahead) → is_unseen a ≡ true → HoldsSupply c a (Some c.supply)
supply_held c Unseen unseen = refl
supply_held c a unseen = absurd (let wrong : false ≡ true = unseen in cc)

-- the program stands after the next n bytes
pub holds_after : (last n : ℕ) (c : Coming) (p : Reached) (supply : Option Supply) → is_unseen p.ahead ≡ true → HoldsComing c p supply
    → HoldsComing (after_last last n c) (passed_run last n p) (option_map (skipped n) supply)
holds_after last n c p supply unseen h = record {
  taken = ap (λ t. t + n) h.taken;
  inside = refl;
  stands = ap (option_map (skipped n)) (supply_unseen c p.ahead supply unseen h.stands);
}

-- what is to come after the next n bytes is so of something that was to come before them
record Before (last n : ℕ) (k : Coming) (p : Reached) (supply : Option Supply) : Type 0 where
  coming : Coming
  holds : HoldsComing coming p supply
  is : k ≡ after_last last n coming

-- where the program stands after n bytes, it stood before them
before : (last n : ℕ) (k : Coming) (p : Reached) (supply : Option Supply) → is_unseen p.ahead ≡ true → HoldsComing k (passed_run last n p) (option_map (skipped n) supply) → Before last n k p supply
before last n k p None unseen h = absurd (let wrong : None ≡ Some k.supply = h.stands in cc)
before last n k p (Some q) unseen h =
    let coming : Coming = record { supply = q; taken = p.taken; inside = p.inside } in
    let stands : Some (skipped n q) ≡ Some k.supply = h.stands in
    let supply : k.supply ≡ skipped n q = cc in
    let taken : k.taken ≡ p.taken + n = sym h.taken in
    let inside : k.inside ≡ not (last == code "\n") = sym h.inside in
    record {
      coming = coming;
      holds = record { taken = refl; inside = refl; stands = supply_held coming p.ahead unseen };
      is = ap (λ x. record k { supply = x }) supply ∙ ap (λ x. record (after_last last n coming) { taken = x; inside = k.inside }) taken
          ∙ ap (λ x. record (after_last last n coming) { inside = x }) inside;
    }

-- so many bytes on, and then more of them
drop_on : (t n : ℕ) (xs : List ℕ) → drop n (drop t xs) ≡ drop (t + n) xs
drop_on zero n xs = let count : n ≡ 0 + n = omega arith in ap (λ k. drop k xs) count
drop_on (suc t) n [] = drop-nil n ∙ sym (drop-nil (suc t + n))
drop_on (suc t) n (x ∷ xs) = let count : suc (t + n) ≡ suc t + n = omega arith in drop_on t n xs ∙ ap (λ k. drop k (x ∷ xs)) count

-- so many calls on, and then more of them
later_on : (t n : ℕ) (f : Faults) → later n (later t f) ≡ later (t + n) f
later_on t n Never = refl
later_on t n (After m) = let counts : m - t - n ≡ m - (t + n) = omega arith in ap After counts
later_on t n Anytime = refl

-- what is to come after them all
pub skipped_on : (t n : ℕ) (supply : Option Supply) → option_map (skipped n) (option_map (skipped t) supply) ≡ option_map (skipped (t + n)) supply
skipped_on t n None = refl
skipped_on t n (Some q) =
    ap (λ xs. Some (record { bytes = xs; faults = later n (later t q.faults) })) (drop_on t n q.bytes)
    ∙ ap (λ f. Some (record { bytes = drop (t + n) q.bytes; faults = f })) (later_on t n q.faults)

-- where the program stands after them all
pub passed_on : (t n : ℕ) (bs : List ℕ) (p : Reached) → 0 < n
    → passed_run (slice_index (drop t bs) (n - 1)) n (passed_run (slice_index bs (t - 1)) t p) ≡ passed_run (slice_index bs (t + n - 1)) (t + n) p
passed_on t n bs p some =
    let counts : p.taken + t + n ≡ p.taken + (t + n) = omega arith in
    let place : t + (n - 1) ≡ t + n - 1 = omega (arith, some) in
    let last : slice_index (drop t bs) (n - 1) ≡ slice_index bs (t + n - 1) = get_or-drop t bs (n - 1) 0 ∙ ap (slice_index bs) place in
    ap (λ k. record (passed_run (slice_index (drop t bs) (n - 1)) n p) { taken = k }) counts ∙ ap (λ b. passed_run b (t + n) p) last

-- a byte that is no newline is the last
pub passed_inside : (b n : ℕ) (p : Reached) → (b == code "\n") ≡ false → passed_many n p ≡ passed_run b n p
passed_inside b n p is = rw is refl

pub holds_inside : (n : ℕ) (c : Coming) (p : Reached) (supply : Option Supply) → is_unseen p.ahead ≡ true → HoldsComing c p supply
    → HoldsComing (after_many n c) (passed_many n p) (option_map (skipped n) supply)
holds_inside n c p supply unseen h = holds_after 0 n c p supply unseen h

-- no call for the other bytes fails
may_give_after : (t n m : ℕ) (f : Faults) → t + n ≤ m → MayGiveAll m f → MayGiveAll n (later t f)
may_give_after t n m Never less h = tt
may_give_after t n m (After k) less h = omega (arith, less, h)
may_give_after t n m Anytime less h = tt

-- the other bytes come next after the first t
come_after : (last t : ℕ) (bs : List ℕ) (c : Coming) → t ≤ length bs → ComeNext bs c → ComeNext (drop t bs) (after_last last t c)
come_after last t bs c less next =
    let xs = c.supply.bytes in
    let left : length (drop t bs) ≡ length bs - t = length-drop t bs in
    let all : t + (length bs - t) ≡ length bs = omega (arith, less) in
    record {
      bytes = ap (λ k. take k (drop t xs)) left ∙ sym (drop-take t (length bs - t) xs) ∙ ap (λ k. drop t (take k xs)) all ∙ ap (drop t) next.bytes;
      faults = may_give_after t (length (drop t bs)) (length bs) c.supply.faults (omega (arith, left, less)) next.faults;
      few = omega (arith, left, less, next.few);
    }

-- they are read next once the first t were put
pub next_after : (t : ℕ) (bs : List ℕ) (e : Shape) (supply : Option Supply) (g : Formatter) → t ≤ length bs → g.store.levels ≡ [] → HasNext bs e supply
    → HasNext (drop t bs) (taken_shape bs t g e) (option_map (skipped t) supply)
next_after t bs e supply g less levels has = record {
  levels = levels;
  unseen = refl;
  next = λ k h.
      let last = slice_index bs (t - 1) in
      let b = before last t k e.place supply has.unseen h in
      subst (λ c. ComeNext (drop t bs) c) (sym b.is) (come_after last t bs b.coming less (has.next b.coming b.holds));
}

-- ---- a line that has begun

-- it has begun after a run
begun-run : (m : Margins) (look : Look) (bs : List ℕ) (c : Collected) → begins_line c ≡ false → begins_line (add_run m look bs c) ≡ false
begun-run m look [] c begun = begun
begun-run m look (b ∷ bs) c begun = begun-run m look bs _ (begun-cell m (run_cell look b) c)

-- the input is read next in it still
line_run : (bs : List ℕ) (f : Formatter) → is_in_line f ≡ true → is_in_line (run_put bs f) ≡ true
line_run bs f is =
    let line = in_line f is in
    rw (line.springs, line.event, line.task, line.half, begun-run (margins f) (present_look f.settings.fonts) bs (collected f) line.begun) refl

-- a list with an item at its end is not empty
some_after : (ps qs : List Piece) (p : Piece) → is_nil (ps ++ (qs ++ p ∷ [])) ≡ false
some_after [] [] p = refl
some_after [] (q ∷ qs) p = refl
some_after (x ∷ ps) qs p = refl

-- and after the blank that ends a word
pub begun-gap : (c : Collected) (word : Option Word) → c.word ≡ word → is_none word ≡ false → begins_line (gapped c) ≡ false
begun-gap c None is some = absurd (let wrong : true ≡ false = some in cc)
begun-gap c (Some w) is some = let pieces : is_nil (c.pieces ++ word_pieces c.word) ≡ false = rw is (some_after c.pieces w.parts w.last) in rw pieces refl

-- the input is read next in it there too
line_gap : (f : Formatter) → is_in_line f ≡ true → IsGap f → is_in_line (gap_put f) ≡ true
line_gap f is gap =
    let line = in_line f is in
    let ends = ends_word f gap.plain in
    rw (line.springs, line.event, line.task, line.half, begun-gap (collected f) (collected f).word refl ends.word) refl

-- ---- text that is put

-- what the later of two runs of moves saves, both save
pub saves_on : (saved m k : ℕ) (e f g : Shape) → f.formatter.store.limit ≡ e.formatter.store.limit → f.formatter.reader.most ≡ e.formatter.reader.most
    → Saves saved m e f → Saves saved k f g → Saves saved (m + k) e g
saves_on saved m k e f g limit most a b =
    let more : weight g + k + saved + worth e * f.place.taken ≤ weight f + worth e * g.place.taken =
    subst (λ w. weight g + k + saved + w * f.place.taken ≤ weight f + w * g.place.taken) (worth_same e f limit most) b in
    omega (arith, a, more)

-- one after the other
pub puts_on : (t m n k : ℕ) (bs : List ℕ) (f g h : Formatter) → PutsText bs t m f g → PutsText (drop t bs) n k g h → PutsText bs (t + n) (m + k) f h
puts_on zero m n k bs f g h a b =
    let count : n ≡ 0 + n = omega arith in
    let moves : k ≡ m + k = omega (arith, a.most) in
    subst (λ i. PutsText bs i (m + k) f h) count (subst (λ j. PutsText bs n j f h) moves (subst (λ (x : Formatter). PutsText bs n k x h) (a.none refl) b))
puts_on (suc t) m zero k bs f g h a b =
    let count : suc t ≡ suc t + 0 = omega arith in
    let moves : m ≡ m + k = omega (arith, b.most) in
    subst (λ i. PutsText bs i (m + k) f h) count (subst (λ j. PutsText bs (suc t) j f h) moves (subst (λ (x : Formatter). PutsText bs (suc t) m f x) (sym (b.none refl)) a))
puts_on (suc t) m (suc n) k bs f g h a b =
    let left : length (drop (suc t) bs) ≡ length bs - suc t = length-drop (suc t) bs in
    record {
      prefix = omega (arith, a.prefix, b.prefix, left);
      least = omega (arith, a.least, b.least);
      most = omega (arith, a.most, b.most);
      none = λ none. absurd (omega (arith, none));
      store = b.store ∙ a.store;
      makes = λ e supply is has some.
          let between : Shape = taken_shape bs (suc t) g e in
          let rest = option_map (skipped (suc t)) supply in
          let levels : g.store.levels ≡ [] = ap (λ v. v.levels) (a.store ∙ sym (ap (λ (x : Formatter). x.store) is)) ∙ has.levels in
          let first = a.makes e supply is has (omega arith) in
          let second = b.makes between rest refl (next_after (suc t) bs e supply g a.prefix levels has) (omega arith) in
          subst (λ q. Makes (m + k) e (taken_shape bs (suc t + suc n) h e) supply q) (skipped_on (suc t) (suc n) supply)
          (subst (λ p. Makes (m + k) e (record e { formatter = unburst h; place = p }) supply (option_map (skipped (suc n)) rest)) (passed_on (suc t) (suc n) bs e.place (omega arith))
          (makes-add m k e between (taken_shape (drop (suc t) bs) (suc n) h between) supply rest (option_map (skipped (suc n)) rest) first second));
      saves = λ e supply is has some.
          let between : Shape = taken_shape bs (suc t) g e in
          let levels : g.store.levels ≡ [] = ap (λ v. v.levels) (a.store ∙ sym (ap (λ (x : Formatter). x.store) is)) ∙ has.levels in
          let first = a.makes e supply is has (omega arith) in
          let second = b.saves between (option_map (skipped (suc t)) supply) refl (next_after (suc t) bs e supply g a.prefix levels has) (omega arith) in
          subst (λ p. Saves 20 (m + k) e (record e { formatter = unburst h; place = p })) (passed_on (suc t) (suc n) bs e.place (omega arith))
          (saves_on 20 m k e between (taken_shape (drop (suc t) bs) (suc n) h between) first.limit first.most (a.saves e supply is has (omega arith)) second);
    }

-- the last byte of a run is no newline
last_inside : (n : ℕ) (bs : List ℕ) → n ≤ length bs → ArePlain (take n bs) → 0 < n → (slice_index bs (n - 1) == code "\n") ≡ false
last_inside n bs prefix plain some =
    let below : n - 1 < n = omega (arith, some) in
    subst (λ b. (b == code "\n") ≡ false) (get_or-take n bs (n - 1) 0 below) (newline (slice_index (take n bs) (n - 1)) (plain (n - 1) 0 (omega (arith, below, length-take-le n bs prefix))))

-- a run of plain bytes
puts_run : (n : ℕ) (bs : List ℕ) (f : Formatter) → is_in_line f ≡ true → n ≤ length bs → ArePlain (take n bs)
    → (0 < n → line_cells (collected (run_put (take n bs) f)) ≤ f.line.limit) → PutsText bs n (2 * n) f (run_put (take n bs) f)
puts_run n bs f line prefix plain fits =
    let count : length (take n bs) ≡ n = length-take-le n bs prefix in
    record {
      prefix = prefix;
      least = omega arith;
      most = omega arith;
      none = λ none. ap (λ k. run_put (take k bs) f) none;
      store = refl;
      makes = λ e supply is has some.
          let rest = option_map (skipped n) supply in
          let fits_there : line_cells (collected (run_put (take n bs) e.formatter)) ≤ e.formatter.line.limit =
          subst (λ (x : Formatter). line_cells (collected (run_put (take n bs) x)) ≤ x.line.limit) (sym is) (fits some) in
          let run = makes_run (take n bs) e supply rest (omega (arith, count, some)) (ap is_in_line is ∙ line) has.levels plain
          (λ c h. come_prefix n bs c prefix (has.next c h)) fits_there
          (λ c h. subst (λ m. HoldsComing (after_many m c) (passed_many m e.place) rest) (sym count) (holds_inside n c e.place supply has.unseen h)) in
          subst (λ p. Makes (2 * n) e (record e { formatter = run_put (take n bs) (unburst f); place = p }) supply rest) (passed_inside (slice_index bs (n - 1)) n e.place (last_inside n bs prefix plain some))
          (subst (λ (x : Formatter). Makes (2 * n) e (record e { formatter = run_put (take n bs) x; place = passed_many n e.place }) supply rest) is
          (subst (λ m. Makes (2 * m) e (record e { formatter = run_put (take n bs) (unburst e.formatter); place = passed_many m e.place }) supply rest) count run));
      saves = λ e supply is has some.
          subst (λ p. Saves 20 (2 * n) e (record e { formatter = run_put (take n bs) (unburst f); place = p })) (passed_inside (slice_index bs (n - 1)) n e.place (last_inside n bs prefix plain some))
          (subst (λ (x : Formatter). Saves 20 (2 * n) e (record e { formatter = run_put (take n bs) x; place = passed_many n e.place })) is
          (subst (λ m. Saves 20 (2 * m) e (record e { formatter = run_put (take n bs) (unburst e.formatter); place = passed_many m e.place })) count
          (run_saves (take n bs) e (omega (arith, count, some)))));
    }

-- a byte that is put in one way wherever the engine stands
pub puts_byte : (b m : ℕ) (bs : List ℕ) (f : Formatter) (put : Formatter → Formatter) → 0 < length bs → slice_index bs 0 ≡ b → 2 ≤ m → m ≤ 5 → put (unburst f) ≡ unburst (put f) → (put f).store ≡ f.store
    → ((e : Shape) (supply : Option Supply) → unburst e.formatter ≡ unburst f → HasNext bs e supply
    → Makes m e (record e { formatter = put (unburst e.formatter); place = passed_run b 1 e.place }) supply (option_map (skipped 1) supply))
    → ((e : Shape) → unburst e.formatter ≡ unburst f → Saves 20 m e (record e { formatter = put (unburst e.formatter); place = passed_run b 1 e.place }))
    → PutsText bs 1 m f (put f)
puts_byte b m bs f put some first least most same store makes saves =
    let there : (e : Shape) → unburst e.formatter ≡ unburst f → record e { formatter = put (unburst e.formatter); place = passed_run b 1 e.place } ≡ taken_shape bs 1 (put f) e = λ e is.
    ap (λ (x : Formatter). record e { formatter = x; place = passed_run b 1 e.place }) (ap put is ∙ same)
    ∙ ap (λ c. record e { formatter = unburst (put f); place = passed_run c 1 e.place }) (sym first) in
    record {
      prefix = omega (arith, some);
      least = omega (arith, least);
      most = omega (arith, most);
      none = λ none. absurd (omega (arith, none));
      store = store;
      makes = λ e supply is has any. subst (λ x. Makes m e x supply (option_map (skipped 1) supply)) (there e is) (makes e supply is has);
      saves = λ e supply is has any. subst (λ x. Saves 20 m e x) (there e is) (saves e is);
    }

-- a blank that does nothing but end its word
module _ (bs : List ℕ) (f : Formatter) (line : is_in_line f ≡ true) (some : 0 < length bs) (blank : slice_index bs 0 ≡ code " ") (gap : IsGap f) where
  -- it is so whatever was spliced before it
  gap_there : (e : Shape) → unburst e.formatter ≡ unburst f → IsGap e.formatter
  gap_there e is =
      let here : IsGap (unburst f) = record { plain = gap.plain; within = gap.within } in
      let there = subst IsGap (sym is) here in
      record { plain = there.plain; within = there.within }

  -- it comes next
  blank_next : (e : Shape) (supply : Option Supply) → HasNext bs e supply → (c : Coming) → HoldsComing c e.place supply → ComeNext (code " " ∷ (first_of bs (code " ") some blank).0) c
  blank_next e supply has c h = subst (λ xs. ComeNext xs c) (first_of bs (code " ") some blank).1 (has.next c h)

  -- the line is full then
  puts_flows : PutsText bs 1 2 f (gap_flows f)
  puts_flows =
      puts_byte (code " ") 2 bs f gap_flows some blank (omega arith) (omega arith) refl refl
      (λ e supply is has. makes_flows (first_of bs (code " ") some blank).0 e supply (option_map (skipped 1) supply) (ap is_in_line is ∙ line) has.levels (gap_there e is) (blank_next e supply has)
      (λ c h. holds_inside 1 c e.place supply has.unseen h))
      (λ e is. let there = in_line e.formatter (ap is_in_line is ∙ line) in saves_flows e there.event there.task)

  -- or it is not
  puts_gap : fits_line (gapped (collected f)) ≡ true → PutsText bs 1 3 f (gap_put f)
  puts_gap fits =
      puts_byte (code " ") 3 bs f gap_put some blank (omega arith) (omega arith) refl refl
      (λ e supply is has. makes_put (first_of bs (code " ") some blank).0 e supply (option_map (skipped 1) supply) (ap is_in_line is ∙ line) has.levels (gap_there e is) (blank_next e supply has)
      (λ c h. holds_inside 1 c e.place supply has.unseen h) (ap (λ (x : Formatter). fits_line (gapped (collected x))) is ∙ fits))
      (λ e is. saves_put e)

-- ---- one turn

-- a byte after the first t is one of the others
pub some_left : (t : ℕ) (bs : List ℕ) → t < length bs → 0 < length (drop t bs)
some_left t bs below = let left : length (drop t bs) ≡ length bs - t = length-drop t bs in omega (arith, left, below)

-- and the first of them
pub first_left : (t b : ℕ) (bs : List ℕ) → slice_index bs t ≡ b → slice_index (drop t bs) 0 ≡ b
first_left t b bs is = let same : t + 0 ≡ t = omega arith in get_or-drop t bs 0 0 ∙ ap (slice_index bs) same ∙ is

-- the bytes after the first t, as they are lent
abbrev pub rest_of : ℕ → List ℕ → List ℕ
rest_of t bs = take (length bs - t) (drop t bs)

-- each of them stands among all bytes
pub index_rest : (t n : ℕ) (bs : List ℕ) → n < length (rest_of t bs) → slice_index (rest_of t bs) n ≡ slice_index bs (t + n)
index_rest t n bs below =
    let left = length-drop t bs in
    get_or-take (length bs - t) (drop t bs) n 0 (omega (arith, below, length-take-le (length bs - t) (drop t bs) (omega (arith, left)))) ∙ get_or-drop t bs n 0

pub length_rest : (t : ℕ) (bs : List ℕ) → length (rest_of t bs) ≡ length bs - t
length_rest t bs = length-take-le (length bs - t) (drop t bs) (omega (arith, length-drop t bs))

-- after the first t bytes comes a run
pub turn_run : (t m n : ℕ) (bs : List ℕ) (f g h : Formatter) → PutsText bs t m f g → is_in_line g ≡ true → n ≤ length (rest_of t bs) → ArePlain (take n (rest_of t bs))
    → h ≡ run_put (take n (rest_of t bs)) g → (0 < n → line_cells (collected h) ≤ h.line.limit) → PutsText bs (t + n) (m + 2 * n) f h
turn_run t m n bs f g h puts line prefix plain is fits =
    let run = puts_run n (rest_of t bs) g line prefix plain (λ some. subst (λ (x : Formatter). line_cells (collected x) ≤ x.line.limit) is (fits some)) in
    puts_on t m n (2 * n) bs f g h puts (subst (λ xs. PutsText xs n (2 * n) g h) (take_rest bs t) (subst (λ (x : Formatter). PutsText (rest_of t bs) n (2 * n) g x) (sym is) run))

-- the line has begun after it
pub turn_line : (bs : List ℕ) (g h : Formatter) → is_in_line g ≡ true → h ≡ run_put bs g → is_in_line h ≡ true
turn_line bs g h line is = ap is_in_line is ∙ line_run bs g line

-- and after it comes a blank
module _ (t m : ℕ) (bs : List ℕ) (f g : Formatter) (puts : PutsText bs t m f g) (line : is_in_line g ≡ true) (below : t < length bs) (blank : slice_index bs t ≡ code " ")
    (gap : IsGap g) where
  -- the line is full then
  pub turn_flows : (h : Formatter) → h ≡ gap_flows g → PutsText bs (t + 1) (m + 2) f h
  turn_flows h is =
      puts_on t m 1 2 bs f g h puts (subst (λ (x : Formatter). PutsText (drop t bs) 1 2 g x) (sym is) (puts_flows (drop t bs) g line (some_left t bs below) (first_left t (code " ") bs blank) gap))

  -- or it is not
  pub turn_gap : (h : Formatter) → fits_line (gapped (collected g)) ≡ true → h ≡ gap_put g → PutsText bs (t + 1) (m + 3) f h
  turn_gap h fits is =
      puts_on t m 1 3 bs f g h puts (subst (λ (x : Formatter). PutsText (drop t bs) 1 3 g x) (sym is) (puts_gap (drop t bs) g line (some_left t bs below) (first_left t (code " ") bs blank) gap fits))

  -- and the next item is read in a line that has begun
  pub turn_on : (h : Formatter) → h ≡ gap_put g → is_in_line h ≡ true
  turn_on h is = ap is_in_line is ∙ line_gap g line gap

-- ---- the source after it

-- what the source is about to give then
makes_there : (n : ℕ) (e f : Shape) (x y z : Option Supply) → Makes n e f x y → ((c : Coming) → HoldsComing c f.place y → HoldsComing c f.place z) → Makes n e f x z
makes_there n e f x y z m there = record {
  makes = λ held s h.
      let made = m.makes held s h in
      let stands = made.holds.stands in
      record {
        runs = made.runs;
        holds = record {
          formatter = made.holds.formatter;
          stands = record {
            chosen_is = stands.chosen_is;
            coming = there (state_after n (at e s)).coming stands.coming;
            row = stands.row;
            page = stands.page;
            page_limit = stands.page_limit;
            select = stands.select;
            faces = stands.faces;
            within = stands.within;
          };
        };
        wrote = made.wrote;
      };
  limit = m.limit;
  most = m.most;
  limits = m.limits;
  spends = m.spends;
}

-- the source was moved after the bytes that were put
pub makes_taken : (t m : ℕ) (bs : List ℕ) (e : Shape) (supply supply' : Option Supply) (g : Formatter) → PutsText bs t m e.formatter g → 0 < t → HasNext bs e supply
    → ((c : Coming) → HoldsComing c e.place supply → HoldsComing (after_last (slice_index bs (t - 1)) t c) (passed_run (slice_index bs (t - 1)) t e.place) supply')
    → Makes m e (taken_shape bs t g e) supply supply'
makes_taken t m bs e supply supply' g puts some has afterwards =
    makes_there m e (taken_shape bs t g e) supply (option_map (skipped t) supply) supply' (puts.makes e supply refl has some)
    (λ k h.
    let last = slice_index bs (t - 1) in
    let b = before last t k e.place supply has.unseen h in
    subst (λ c. HoldsComing c (passed_run last t e.place) supply') (sym b.is) (afterwards b.coming b.holds))

-- no less could be put
pub longest_taken : (bs : List ℕ) (t m : ℕ) (f : Formatter) → Longest bs t m f → Longest bs t m (unburst f)
longest_taken bs t m f h = record {
  least = h.least;
  most = h.most;
  words = record {
    stops = h.words.stops;
    blank = λ below line is gap. h.words.blank below line is (record { plain = gap.plain; within = gap.within });
  };
  newline = λ below is line. h.newline below is (record { line = line.line; plain = line.plain; joint = line.joint; trap = line.trap; underlined = line.underlined; within = line.within });
  begins = λ at out begins. h.begins at out (record { some = begins.some; plain = begins.plain; control = begins.control; room = begins.room });
  font = h.font;
  escape = h.escape;
}
