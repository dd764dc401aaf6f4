-- Of a line of a request that is under way all bytes are heard at once.
use Rattle.std.proofs.Common.{◌≡◌, ◌==◌, ℕ, suc, ◌+◌, ◌-◌, ◌<◌, ◌≤◌, Bool, true, false, not, List, [], ◌∷◌, ◌++◌, length, take, drop, min, nat_lt, refl, ap, sym, ◌∙◌, add-one, append_assoc, append-nil, arith, if◌then◌else◌}
use Rattle.std.proofs.lemmas.List.{length-append}
use Rattle.std.proofs.lemmas.Bool.Decides.{nat_tests}
use Prim.Native.Char.{code}
use Rattle.nr_vectors.specs.Items.{Items}
use Rattle.tbl_setting.specs.Watching.{Watching, begins_control, byte_heard, filled, heard, held, is_text, line_ended, line_len, request_len, watching}
use Rattle.tbl_setting.specs.declared.watching.Watch.{Watch}
use Rattle.tbl_table.specs.Lists.{added}

abbrev with_items : List ℕ → Items ℕ → Items ℕ
with_items items xs = record xs { items = items }

nothing_filled : (text : List ℕ) (xs : Items ℕ) → filled 0 text xs ≡ xs
nothing_filled text xs =
    let none : min 0 (xs.capacity - length xs.items) ≡ 0 = omega arith in
    ap (λ (k : ℕ). with_items (xs.items ++ take k text) xs) none
    ∙ ap (λ (l : List ℕ). with_items l xs) (append-nil xs.items)

-- ---- one more

in_room : (n b : ℕ) (bs : List ℕ) (xs : Items ℕ) → length xs.items < xs.capacity
    → (xs.items ++ b ∷ []) ++ take (min n (xs.capacity - length (xs.items ++ b ∷ []))) bs
    ≡ xs.items ++ take (min (n + 1) (xs.capacity - length xs.items)) (b ∷ bs)
in_room n b bs xs room =
    let long : length (xs.items ++ b ∷ []) ≡ length xs.items + 1 = length-append xs.items (b ∷ []) in
    let more : suc (min n (xs.capacity - length (xs.items ++ b ∷ []))) ≡ min (n + 1) (xs.capacity - length xs.items) =
    omega (arith, long, room) in
    append_assoc xs.items (b ∷ []) (take (min n (xs.capacity - length (xs.items ++ b ∷ []))) bs)
    ∙ ap (λ (k : ℕ). xs.items ++ take k (b ∷ bs)) more

no_room : (n b : ℕ) (bs : List ℕ) (xs : Items ℕ) → xs.capacity ≤ length xs.items
    → xs.items ++ take (min n (xs.capacity - length xs.items)) bs
    ≡ xs.items ++ take (min (n + 1) (xs.capacity - length xs.items)) (b ∷ bs)
no_room n b bs xs full =
    let none : min n (xs.capacity - length xs.items) ≡ 0 = omega (arith, full) in
    let none_more : min (n + 1) (xs.capacity - length xs.items) ≡ 0 = omega (arith, full) in
    ap (λ (k : ℕ). xs.items ++ take k bs) none
    ∙ sym (ap (λ (k : ℕ). xs.items ++ take k (b ∷ bs)) none_more)

one_filled : (n b : ℕ) (bs : List ℕ) (xs : Items ℕ) → filled n bs (added b xs) ≡ filled (n + 1) (b ∷ bs) xs
one_filled n b bs xs = by_room (nat_lt (length xs.items) xs.capacity) refl
  where
    by_room : (t : Bool) → nat_lt (length xs.items) xs.capacity ≡ t
        → filled n bs (with_items (if t then xs.items ++ b ∷ [] else xs.items) xs) ≡ filled (n + 1) (b ∷ bs) xs
    by_room true is =
        let room : length xs.items < xs.capacity = grind (arith, nat_tests, is) in
        ap (λ (l : List ℕ). with_items l xs) (in_room n b bs xs room)
    by_room false is =
        let full : xs.capacity ≤ length xs.items = grind (arith, nat_tests, is) in
        ap (λ (l : List ℕ). with_items l xs) (no_room n b bs xs full)

-- ---- a line that begins so goes on so

goes_on : (b : ℕ) (xs : Items ℕ) → begins_control xs.items ≡ true → begins_control (added b xs).items ≡ true
goes_on b xs is = by_items xs.items xs.capacity is
  where
    by_test : (t : Bool) (items : List ℕ) → begins_control items ≡ true → begins_control (if t then items ++ b ∷ [] else items) ≡ true
    by_test t [] none = absurd (let no : false ≡ true = none in cc)
    by_test true (c ∷ cs) is = is
    by_test false (c ∷ cs) is = is

    by_items : (items : List ℕ) (capacity : ℕ) → begins_control items ≡ true
        → begins_control (if nat_lt (length items) capacity then items ++ b ∷ [] else items) ≡ true
    by_items items capacity is = by_test (nat_lt (length items) capacity) items is

no_text : (items : List ℕ) → begins_control items ≡ true → is_text items ≡ false
no_text [] none = absurd (let no : false ≡ true = none in cc)
no_text (c ∷ cs) is = ap not is

heard_so : (b : ℕ) (s : Watching) → (b == code "\n") ≡ false → begins_control s.watch.line.items ≡ true
    → byte_heard b s ≡ watching (record s.watch { line = added b s.watch.line }) s.grid
heard_so b s other is =
    let more : Watching = watching (record s.watch { line = added b s.watch.line }) s.grid in
    ap (λ (x : Bool). if x then line_ended s else (if is_text s.watch.line.items then s else more)) other
    ∙ ap (λ (x : Bool). if x then s else more) (no_text s.watch.line.items is)

-- ---- so many bytes of it are held

abbrev with_line : Items ℕ → Watching → Watching
with_line line s = watching (record s.watch { line = line }) s.grid

after_one : (n b : ℕ) (bs : List ℕ) → drop (n + 1) (b ∷ bs) ≡ drop n bs
after_one n b bs = ap (λ (k : ℕ). drop k (b ∷ bs)) (add-one n)

line_passed : (text : List ℕ) (s : Watching) → begins_control s.watch.line.items ≡ true
    → heard (drop (line_len text) text) (with_line (filled (line_len text) text s.watch.line) s) ≡ heard text s
line_passed [] s is = ap (λ (l : Items ℕ). with_line l s) (nothing_filled [] s.watch.line)
line_passed (b ∷ bs) s is =
    by_byte (line_passed bs (with_line (added b s.watch.line) s) (goes_on b s.watch.line is)) (b == code "\n") refl
  where
    by_byte : heard (drop (line_len bs) bs) (with_line (filled (line_len bs) bs (added b s.watch.line)) s) ≡ heard bs (with_line (added b s.watch.line) s)
        → (x : Bool) → (b == code "\n") ≡ x
        → heard (drop (if x then 0 else line_len bs + 1) (b ∷ bs)) (with_line (filled (if x then 0 else line_len bs + 1) (b ∷ bs) s.watch.line) s)
        ≡ heard bs (byte_heard b s)
    by_byte later true newline = ap (λ (l : Items ℕ). heard (b ∷ bs) (with_line l s)) (nothing_filled (b ∷ bs) s.watch.line)
    by_byte later false other =
        ap (λ (l : List ℕ). heard l (with_line (filled (line_len bs + 1) (b ∷ bs) s.watch.line) s)) (after_one (line_len bs) b bs)
        ∙ ap (λ (l : Items ℕ). heard (drop (line_len bs) bs) (with_line l s)) (sym (one_filled (line_len bs) b bs s.watch.line))
        ∙ later
        ∙ sym (ap (heard bs) (heard_so b s other is))

-- what it comes to
pub request_heard_so : (text : List ℕ) (s : Watching) (n : ℕ) → n ≡ request_len text s.watch → 0 < n
    → heard (drop n text) (watching (held n text s.watch) s.grid) ≡ heard text s
request_heard_so text s n is some = by_line (begins_control s.watch.line.items) refl
  where
    by_line : (x : Bool) → begins_control s.watch.line.items ≡ x → heard (drop n text) (watching (held n text s.watch) s.grid) ≡ heard text s
    by_line true line =
        ap (λ (k : ℕ). heard (drop k text) (watching (held k text s.watch) s.grid)) (is ∙ ap (λ (x : Bool). if x then line_len text else 0) line)
        ∙ line_passed text s line
    by_line false other =
        let none : n ≡ 0 = is ∙ ap (λ (x : Bool). if x then line_len text else 0) other in absurd (omega (arith, none, some))

-- and nothing where none is under way
pub none_held : (text : List ℕ) (w : Watch) → held 0 text w ≡ w
none_held text w = ap (λ (l : Items ℕ). record w { line = l }) (nothing_filled text w.line)
