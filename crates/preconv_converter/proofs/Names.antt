-- The name of a control line is taken at once: its bytes are kept, and say nothing yet.
use Prim.Native.Char.{code}
use Rattle.std.proofs.Common.{◌≡◌, ℕ, zero, suc, ◌+◌, ◌-◌, ◌<◌, ◌≤◌, List, [], ◌∷◌, ◌++◌, length, take, drop, get_or, Bool, true, false, not, ◌==◌, ◌&&◌, ◌||◌, nat_lt, if◌then◌else◌, refl, sym, ◌∙◌, ap, subst, add-one, min, arith}
use Rattle.std.specs.List.{prefix_len}
use Rattle.std.proofs.lemmas.Bool.Decides.{nat_tests}
use Rattle.std.proofs.lemmas.List.{length-take, take_more}
use Rattle.std.proofs.lemmas.List.Sums.{prefix_len_passes, prefix_len-le-length}
use Rattle.nr_units.specs.Name.{capacity, is_full}
use Rattle.preconv_lines.specs.declared.half.Half.{Half}
use Rattle.preconv_characters.specs.declared.marks.Mark.TheVariants.{Stop}
use Rattle.preconv_lines.specs.declared.half.Line.{Line}
use Rattle.preconv_lines.specs.declared.half.Line.TheVariants as lines
use Rattle.preconv_lines.specs.declared.half.Coming.TheVariants as comings
use Rattle.preconv_characters.specs.declared.said.Said.TheVariants as says
use Rattle.preconv_converter.specs.declared.reader.Reader.{Reader}
use Rattle.preconv_converter.specs.declared.reader.Pending.TheVariants.{Nothing}
use Rattle.preconv_lines.specs.Half.{taken, is_plain}
use Rattle.preconv_lines.specs.Hyphens.{placed}
use Rattle.preconv_lines.specs.Conditions.{is_gap}
use Rattle.preconv_lines.specs.Escapes.{in_escape}
use Rattle.preconv_lines.specs.Lines.{ends_name, naming, blanks_said, named_line, in_line, in_line_at}
use Rattle.preconv_lines.specs.Offering.{offer, plain_byte, beginning, is_raw}
use Rattle.preconv_converter.specs.Reading.{Emitted, emitted, preceded, then_emitted, with_half, read, fed}
use Rattle.preconv_converter.specs.Runs.{goes_on_name, dotted_len, is_start, name_len, after_name}
use Rattle.preconv_converter.proofs.Plain.{and-first, and-second, is_not}
use Rattle.preconv_converter.proofs.Reading.{fed-append}
use Rattle.preconv_converter.proofs.AtOnce.{placed_as, placed_escape}
use Rattle.preconv_converter.proofs.PlainEscapes.{offers}
use Rattle.preconv_characters.proofs.Tests.{is_one}

-- ---- a byte of a name

pub is_ascii : (b : ℕ) → goes_on_name b ≡ true → nat_lt b 127 ≡ true
is_ascii b p = and-first (nat_lt b 127) (not (ends_name b)) p

no_end : (b : ℕ) → goes_on_name b ≡ true → ends_name b ≡ false
no_end b p = is_not (ends_name b) (and-second (nat_lt b 127) (not (ends_name b)) p)

no_backslash : (b : ℕ) → goes_on_name b ≡ true → (b == code "\\") ≡ false
no_backslash b p = grind (arith, nat_tests)

no_gap : (b : ℕ) → goes_on_name b ≡ true → is_gap b ≡ false
no_gap b p = grind (arith, nat_tests)

-- ---- after the dot, and in the name

unfoldable pub after_dot : Half → Half
after_dot h = record (placed Stop h) { conditional = false; name = []; line = lines.Control }

dot_by : (m : Bool) (h : Half)
    → record (placed_as m Stop (record h { name = []; conditional = false })) { line = lines.Control } ≡ record (placed_as m Stop h) { conditional = false; name = []; line = lines.Control }
dot_by true h = refl
dot_by false h = refl

dot_offered : (h : Half) → is_plain h.escape ≡ true → h.line ≡ lines.Start → offer (comings.Byte (code ".")) h ≡ taken (says.Byte (code ".")) (after_dot h)
unfolding after_dot
dot_offered h plain start =
    ap (λ (x : Bool). if x then plain_byte (code ".") h else in_escape (code ".") h) plain
    ∙ ap (λ (l : Line). in_line_at l (code ".") h) start
    ∙ ap (taken (says.Byte (code "."))) (dot_by h.manual h)

first_offered : (b : ℕ) (h : Half) → is_plain h.escape ≡ true → goes_on_name b ≡ true → (b == code ".") ≡ false
    → offer (comings.Byte b) (after_dot h) ≡ taken says.Nothing (after_name (b ∷ []) h)
unfolding after_dot
first_offered b h plain goes other =
    let k = record (placed Stop h) { conditional = false; name = []; line = lines.Control } in
    ap (λ (x : Bool). if x then plain_byte b k else in_escape b k) (placed_escape Stop h ∙ plain)
    ∙ ap (λ (x : Bool). if x && false then beginning k else in_line b k) (no_backslash b goes)
    ∙ ap (λ (x : Bool). if x && k.defining then naming (code "." ∷ []) lines.Name k else
    (if is_gap b && not (is_full k.name) then naming (k.name ++ b ∷ []) lines.Control k else
    (if not (length k.name == 0) then blanks_said lines.Control k else
    (if ends_name b then blanks_said lines.Request k else naming (b ∷ []) lines.Name k)))) other
    ∙ ap (λ (x : Bool). if x && true then naming (b ∷ []) lines.Control k else
    (if ends_name b then blanks_said lines.Request k else naming (b ∷ []) lines.Name k)) (no_gap b goes)
    ∙ ap (λ (x : Bool). if x then blanks_said lines.Request k else naming (b ∷ []) lines.Name k) (no_end b goes)

not_full : (name : List ℕ) → length name < capacity → is_full name ≡ false
not_full name l = grind (arith, nat_tests)

next_offered : (b : ℕ) (name : List ℕ) (h : Half) → is_plain h.escape ≡ true → goes_on_name b ≡ true → length name < capacity
    → offer (comings.Byte b) (after_name name h) ≡ taken says.Nothing (after_name (name ++ b ∷ []) h)
next_offered b name h plain goes few =
    let k = after_name name h in
    ap (λ (x : Bool). if x then plain_byte b k else in_escape b k) (placed_escape Stop h ∙ plain)
    ∙ ap (λ (x : Bool). if x && false then beginning k else in_line b k) (no_backslash b goes)
    ∙ ap (λ (x : Bool). if x || is_full name then named_line b k else taken says.Nothing (record k { name = name ++ b ∷ [] })) (no_end b goes)
    ∙ ap (λ (x : Bool). if x then named_line b k else taken says.Nothing (record k { name = name ++ b ∷ [] })) (not_full name few)

-- ---- the bytes come

pub dot_read : (r : Reader) → r.pending ≡ Nothing → is_plain r.half.escape ≡ true → r.half.line ≡ lines.Start
    → read (code ".") r ≡ emitted (with_half (after_dot r.half) r) (code "." ∷ []) 1
dot_read r none plain start =
    offers (code ".") r (says.Byte (code ".")) (after_dot r.half) none (ap is_raw start) refl (dot_offered r.half plain start)

first_read : (b : ℕ) (r : Reader) → r.pending ≡ Nothing → is_plain r.half.escape ≡ true → goes_on_name b ≡ true → (b == code ".") ≡ false
    → read b (with_half (after_dot r.half) r) ≡ emitted (with_half (after_name (b ∷ []) r.half) r) [] 1
unfolding after_dot
first_read b r none plain goes other =
    offers b (with_half (after_dot r.half) r) says.Nothing (after_name (b ∷ []) r.half) none refl (is_ascii b goes) (first_offered b r.half plain goes other)

next_read : (b : ℕ) (name : List ℕ) (r : Reader) → r.pending ≡ Nothing → is_plain r.half.escape ≡ true → goes_on_name b ≡ true → length name < capacity
    → read b (with_half (after_name name r.half) r) ≡ emitted (with_half (after_name (name ++ b ∷ []) r.half) r) [] 1
next_read b name r none plain goes few =
    offers b (with_half (after_name name r.half) r) says.Nothing (after_name (name ++ b ∷ []) r.half) none refl (is_ascii b goes) (next_offered b name r.half plain goes few)

fed_one : (b : ℕ) (s t : Reader) (bytes : List ℕ) → read b s ≡ emitted t bytes 1 → fed s (b ∷ []) ≡ emitted t (bytes ++ []) 1
fed_one b s t bytes p = ap (λ (u : Emitted). then_emitted u (λ v. emitted v [] 0)) p

-- the first n + 1 of these bytes
names_fed : (n : ℕ) (bs : List ℕ) (r : Reader) → r.pending ≡ Nothing → is_plain r.half.escape ≡ true
    → ((i : ℕ) → i < n + 1 → goes_on_name (get_or bs i 0) ≡ true) → (get_or bs 0 0 == code ".") ≡ false → n < length bs → n < capacity
    → fed (with_half (after_dot r.half) r) (take (n + 1) bs) ≡ emitted (with_half (after_name (take (n + 1) bs) r.half) r) [] (n + 1)
names_fed zero bs r none plain goes other within few =
    let b = get_or bs 0 0 in
    let prefix : take (0 + 1) bs ≡ b ∷ [] = take_more bs 0 0 within in
    let P : List ℕ → Type 0 = λ xs. fed (with_half (after_dot r.half) r) xs ≡ emitted (with_half (after_name xs r.half) r) [] 1 in
    let one : P (b ∷ []) = fed_one b (with_half (after_dot r.half) r) (with_half (after_name (b ∷ []) r.half) r) []
    (first_read b r none plain (goes 0 (omega arith)) other) in
    subst P (sym prefix) one
names_fed (suc n) bs r none plain goes other within few =
    let b = get_or bs (suc n) 0 in
    let s = with_half (after_dot r.half) r in
    let back : n + 1 ≡ suc n = add-one n in
    let Q : ℕ → Type 0 = λ k. fed s (take k bs) ≡ emitted (with_half (after_name (take k bs) r.half) r) [] k in
    let before : Q (suc n) = subst Q back (names_fed n bs r none plain (λ i below. goes i (omega arith)) other (omega arith) (omega arith)) in
    let xs = take (suc n) bs in
    let prefix : take (suc n + 1) bs ≡ xs ++ b ∷ [] = take_more bs (suc n) 0 within in
    let short : length xs < capacity = omega (arith, length-take (suc n) bs) in
    let one = fed_one b (with_half (after_name xs r.half) r) (with_half (after_name (xs ++ b ∷ []) r.half) r) []
    (next_read b xs r none plain (goes (suc n) (omega arith)) short) in
    let P : List ℕ → Type 0 = λ ys. fed s ys ≡ emitted (with_half (after_name ys r.half) r) [] (suc n + 1) in
    let whole : P (xs ++ b ∷ []) =
    fed-append s xs (b ∷ []) ∙ ap (λ (u : Emitted). then_emitted u (λ v. fed v (b ∷ []))) before ∙ ap (preceded [] (suc n)) one in
    subst P (sym prefix) whole

-- ---- the dot, and the name

pub dotted_is : (x y : Bool) (k : ℕ) → 0 < (if x && not y then k else 0) → (x ≡ true) × (y ≡ false)
dotted_is true false k l = (refl, refl)
dotted_is true true k l = absurd (omega arith)
dotted_is false y k l = absurd (omega arith)

pub dotted_value : (x y : Bool) (k : ℕ) → x ≡ true → y ≡ false → (if x && not y then k else 0) ≡ k
dotted_value true false k p q = refl
dotted_value true true k p q = absurd (let no : true ≡ false = q in cc)
dotted_value false y k p q = absurd (let no : false ≡ true = p in cc)

dotted_fed : (n : ℕ) (bs : List ℕ) (r : Reader) → r.pending ≡ Nothing → is_plain r.half.escape ≡ true → r.half.line ≡ lines.Start
    → n ≡ dotted_len bs → 0 < n
    → fed r (take (n + 1) bs) ≡ emitted (with_half (after_name (take n (drop 1 bs)) r.half) r) (code "." ∷ []) (n + 1)
dotted_fed n [] r none plain start is some = absurd (omega arith)
dotted_fed n (dot ∷ []) r none plain start is some = absurd (omega arith)
dotted_fed n (dot ∷ first ∷ more) r none plain start is some =
    let bs = first ∷ more in
    let k = min (prefix_len goes_on_name bs) capacity in
    let has : 0 < (if (dot == code ".") && not (first == code ".") then k else 0) = subst (λ (m : ℕ). 0 < m) is some in
    let parts = dotted_is (dot == code ".") (first == code ".") k has in
    let value : n ≡ k = is ∙ dotted_value (dot == code ".") (first == code ".") k parts.0 parts.1 in
    let most : n ≤ prefix_len goes_on_name bs = (let l : min (prefix_len goes_on_name bs) capacity ≤ prefix_len goes_on_name bs = omega arith in omega (arith, value)) in
    let short : n ≤ capacity = (let l : min (prefix_len goes_on_name bs) capacity ≤ capacity = omega arith in omega (arith, value)) in
    let within = prefix_len-le-length goes_on_name bs in
    let back : n - 1 + 1 ≡ n = omega arith in
    let s = with_half (after_dot r.half) r in
    let Q : ℕ → Type 0 = λ m. fed s (take m bs) ≡ emitted (with_half (after_name (take m bs) r.half) r) [] m in
    let name : Q n = subst Q back
    (names_fed (n - 1) bs r none plain (λ i below. prefix_len_passes goes_on_name bs i 0 (omega arith)) parts.1 (omega arith) (omega arith)) in
    let R : ℕ → Type 0 = λ d. fed r (d ∷ take n bs) ≡ emitted (with_half (after_name (take n bs) r.half) r) (code "." ∷ []) (1 + n) in
    let whole : R (code ".") = ap (λ (t : Emitted). then_emitted t (λ v. fed v (take n bs))) (dot_read r none plain start) ∙ ap (preceded (code "." ∷ []) 1) name in
    let here : R dot = subst R (sym (is_one dot (code ".") parts.0)) whole in
    let cut : take (n + 1) (dot ∷ bs) ≡ dot ∷ take n bs = ap (λ (m : ℕ). take m (dot ∷ bs)) (add-one n) in
    let count : 1 + n ≡ n + 1 = omega arith in
    ap (fed r) cut ∙ here ∙ ap (emitted (with_half (after_name (take n bs) r.half) r) (code "." ∷ [])) count

pub start_is : (l : Line) → is_start l ≡ true → l ≡ lines.Start
start_is lines.Start p = refl
start_is line p = absurd (let no : false ≡ true = p in cc)

pub both_first : (x y : Bool) (k : ℕ) → 0 < (if x && y then k else 0) → (x ≡ true) × (y ≡ true)
both_first true true k l = (refl, refl)
both_first true false k l = absurd (omega arith)
both_first false y k l = absurd (omega arith)

pub both_value : (x y : Bool) (k : ℕ) → x ≡ true → y ≡ true → (if x && y then k else 0) ≡ k
both_value true true k p q = refl
both_value true false k p q = absurd (let no : false ≡ true = q in cc)
both_value false y k p q = absurd (let no : false ≡ true = p in cc)

pub name_fed : (n : ℕ) (bs : List ℕ) (r : Reader) → r.pending ≡ Nothing → n ≡ name_len bs r.half → 0 < n
    → fed r (take (n + 1) bs) ≡ emitted (with_half (after_name (take n (drop 1 bs)) r.half) r) (code "." ∷ []) (n + 1)
name_fed n bs r none is some =
    let x = is_plain r.half.escape in
    let y = is_start r.half.line in
    let k = dotted_len bs in
    let has : 0 < (if x && y then k else 0) = subst (λ (m : ℕ). 0 < m) is some in
    let parts = both_first x y k has in
    dotted_fed n bs r none parts.0 (start_is r.half.line parts.1) (is ∙ both_value x y k parts.0 parts.1) some
