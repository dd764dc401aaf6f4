-- Pages that are no mdoc(7) go out as they are.
use Rattle.std.proofs.Common.{◌≡◌, ℕ, ◌+◌, ◌≤◌, length, drop, ◌==◌, List, [], ◌∷◌, ◌++◌, Bool, true, false, not, ◌||◌, nat_lt, if◌then◌else◌, Option, None, Some, is_some, refl, sym, ◌∙◌, ap, append_assoc, append-nil, arith}
use Prim.Native.Char.{code}
use Rattle.std.proofs.lemmas.Bool.Decides.{nat_tests}
use Rattle.std.proofs.lemmas.List.{drop_all}
use Rattle.mdoc_layout.specs.declared.page.Prefix.{Prefix}
use Rattle.mdoc_layout.specs.declared.page.Prefix.TheVariants as prefixes
use Rattle.mdoc_layout.specs.declared.page.Scan.{Scan}
use Rattle.mdoc_layout.specs.declared.page.Scan.TheVariants as scans
use Rattle.mdoc_converter.specs.declared.pending.Pending.TheVariants.{Nothing}
use Rattle.mdoc_layout.specs.LayingOut.{lay_out}
use Rattle.mdoc_converter.specs.Passing.{leads_after, leads_with, leads_on, is_other}
use Rattle.mdoc_converter.specs.Reading.{State, Emitted, emitted, preceded, said, once, once_seen, heard_in, heard, read, fed, finished, first_state, converted}
use Rattle.mdoc_words.specs.Keeping.{ends_word}
use Rattle.mdoc_converter.specs.Scanning.{asleep_with, prefix_grows, prefix_then, gives_up, is_blank, offer, offer_whole, passes_to, wakes}
use Rattle.mdoc_layout.specs.Texts.{prefix_of}
use Rattle.mdoc_words.specs.Rules.{with_scan}

-- a page that is read so
unfoldable pub at : Scan → State → State
at scan s = record s { page = with_scan scan s.page; pending = Nothing }

-- all that comes of bytes, to the end
all_of : State → List ℕ → List ℕ
all_of s bs = (fed s bs).bytes ++ (finished (fed s bs).state).bytes

all-step : (s : State) (b : ℕ) (bs : List ℕ) → all_of s (b ∷ bs) ≡ (read b s).bytes ++ all_of (read b s).state bs
unfolding all_of
all-step s b bs =
    let t = read b s in
    append_assoc t.bytes (fed t.state bs).bytes (finished (fed t.state bs).state).bytes

-- one byte leads from one state to another, and says this
all-by : (s t : State) (b : ℕ) (bs xs ys : List ℕ) → (read b s).state ≡ t → (read b s).bytes ≡ xs → all_of t bs ≡ ys
    → all_of s (b ∷ bs) ≡ xs ++ ys
all-by s t b bs xs ys p q r =
    all-step s b bs ∙ ap (λ (zs : List ℕ). zs ++ all_of (read b s).state bs) q
    ∙ ap (λ (u : State). xs ++ all_of u bs) p ∙ ap (λ (zs : List ℕ). xs ++ zs) r

-- ---- all passes

passes_state : (b : ℕ) (s : State) → (read b (at scans.Passes s)).state ≡ at scans.Passes s
unfolding at read heard once said offer offer_whole lay_out
passes_state b s = refl

passes_bytes : (b : ℕ) (s : State) → (read b (at scans.Passes s)).bytes ≡ b ∷ []
unfolding at read heard once said offer offer_whole lay_out
passes_bytes b s = refl

passes_end : (s : State) → all_of (at scans.Passes s) [] ≡ []
unfolding at all_of finished
passes_end s = refl

all-passes : (s : State) (bs : List ℕ) → all_of (at scans.Passes s) bs ≡ bs
all-passes s [] = passes_end s
all-passes s (b ∷ bs) =
    all-by (at scans.Passes s) (at scans.Passes s) b bs (b ∷ []) bs (passes_state b s) (passes_bytes b s) (all-passes s bs)

-- ---- before `.Dd`

-- what is read by what the prefix grows to
unfoldable pub read_with : Option Prefix → Prefix → ℕ → ℕ → State → Emitted
read_with g prefix lines b s =
    let st = at (scans.Asleep prefix lines) s in
    let o = once_seen (asleep_with g prefix lines b st.page) st.page.block st in
    preceded [] 0 (preceded o.bytes 1 (if o.takes then emitted o.state [] 0 else heard_in 15 b o.state))

pub read-is : (prefix : Prefix) (lines b : ℕ) (s : State) → read b (at (scans.Asleep prefix lines) s) ≡ read_with (prefix_grows prefix b) prefix lines b s
unfolding at read heard once offer read_with
read-is prefix lines b s = refl

grows_state : (prefix more : Prefix) (lines b : ℕ) (s : State) → (read_with (Some more) prefix lines b s).state ≡ at (scans.Asleep more lines) s
unfolding at said lay_out read_with
grows_state prefix more lines b s = refl

grows_bytes : (prefix more : Prefix) (lines b : ℕ) (s : State) → (read_with (Some more) prefix lines b s).bytes ≡ []
unfolding at said lay_out read_with
grows_bytes prefix more lines b s = refl

nothing_state : (lines b : ℕ) (s : State) → (read_with None prefixes.Nothing lines b s).state ≡ at (passes_to prefixes.Nothing lines b) s
unfolding at said lay_out read_with
nothing_state lines b s = refl

nothing_bytes : (lines b : ℕ) (s : State) → (read_with None prefixes.Nothing lines b s).bytes ≡ b ∷ []
unfolding at said lay_out read_with
nothing_bytes lines b s = refl

other_state : (lines b : ℕ) (s : State) → (read_with None prefixes.Other lines b s).state ≡ at (passes_to prefixes.Other lines b) s
unfolding at said lay_out read_with
other_state lines b s = refl

other_bytes : (lines b : ℕ) (s : State) → (read_with None prefixes.Other lines b s).bytes ≡ b ∷ []
unfolding at said lay_out read_with
other_bytes lines b s = refl

control_state : (lines b : ℕ) (s : State) → (read_with None prefixes.Control lines b s).state ≡ at (passes_to prefixes.Control lines b) s
unfolding at said lay_out read_with
control_state lines b s = refl

control_bytes : (lines b : ℕ) (s : State) → (read_with None prefixes.Control lines b s).bytes ≡ b ∷ []
unfolding at said lay_out read_with
control_bytes lines b s = refl

escape_state : (lines b : ℕ) (s : State) → (read_with None prefixes.Escape lines b s).state ≡ at (passes_to prefixes.Escape lines b) s
unfolding at said lay_out read_with
escape_state lines b s = refl

escape_bytes : (lines b : ℕ) (s : State) → (read_with None prefixes.Escape lines b s).bytes ≡ b ∷ []
unfolding at said lay_out read_with
escape_bytes lines b s = refl

comment_state : (lines b : ℕ) (s : State) → (read_with None prefixes.Comment lines b s).state ≡ at (passes_to prefixes.Comment lines b) s
unfolding at said lay_out read_with
comment_state lines b s = refl

comment_bytes : (lines b : ℕ) (s : State) → (read_with None prefixes.Comment lines b s).bytes ≡ b ∷ []
unfolding at said lay_out read_with
comment_bytes lines b s = refl

dot_state : (lines b : ℕ) (s : State) → (read_with None prefixes.Dot lines b s).state ≡ at (passes_to prefixes.Control lines b) s
unfolding at once said offer lay_out read_with
dot_state lines b s = refl

dot_bytes : (lines b : ℕ) (s : State) → (read_with None prefixes.Dot lines b s).bytes ≡ prefix_of prefixes.Dot ++ b ∷ []
unfolding at once said offer lay_out read_with
dot_bytes lines b s = refl

half_state : (lines b : ℕ) (s : State) → (read_with None prefixes.Half lines b s).state ≡ at (passes_to prefixes.Other lines b) s
unfolding at once said offer lay_out read_with
half_state lines b s = refl

half_bytes : (lines b : ℕ) (s : State) → (read_with None prefixes.Half lines b s).bytes ≡ prefix_of prefixes.Half ++ b ∷ []
unfolding at once said offer lay_out read_with
half_bytes lines b s = refl

-- after all of `.Dd`, by whether its word ends
whole_with : Bool → ℕ → ℕ → State → Emitted
whole_with ends lines b s =
    let st = at (scans.Asleep prefixes.Whole lines) s in
    let o = once_seen (if ends then wakes st.page else gives_up prefixes.Whole lines st.page) st.page.block st in
    preceded [] 0 (preceded o.bytes 1 (if o.takes then emitted o.state [] 0 else heard_in 15 b o.state))

whole-is : (lines b : ℕ) (s : State) → read_with None prefixes.Whole lines b s ≡ whole_with (ends_word b) lines b s
unfolding at read_with whole_with
whole-is lines b s = refl

whole_state : (lines b : ℕ) (s : State) → (whole_with false lines b s).state ≡ at (passes_to prefixes.Other lines b) s
unfolding at once said offer lay_out whole_with
whole_state lines b s = refl

whole_bytes : (lines b : ℕ) (s : State) → (whole_with false lines b s).bytes ≡ prefix_of prefixes.Whole ++ b ∷ []
unfolding at once said offer lay_out whole_with
whole_bytes lines b s = refl

-- ---- what the prefix grows to

same_byte : (b n : ℕ) → (b == n) ≡ true → b ≡ n
same_byte b n e = grind (arith, nat_tests)

grown : (t : Bool) (b n : ℕ) (to more : Prefix) (xs : List ℕ) → (b == n) ≡ t → prefix_of to ≡ xs ++ n ∷ []
    → (if t then Some to else None) ≡ Some more → prefix_of more ≡ xs ++ b ∷ []
grown true b n to more xs e f g =
    let same : more ≡ to = cc in
    let byte : b ≡ n = same_byte b n e in
    ap prefix_of same ∙ f ∙ ap (λ (k : ℕ). xs ++ k ∷ []) (sym byte)
grown false b n to more xs e f g = absurd (let no : None ≡ Some more = g in cc)

grown_prefix : (prefix more : Prefix) (b : ℕ) → prefix_grows prefix b ≡ Some more → prefix_of more ≡ prefix_of prefix ++ b ∷ []
grown_prefix prefixes.Nothing more b e = grown (b == code ".") b (code ".") prefixes.Dot more [] refl refl e
grown_prefix prefixes.Dot more b e = grown (b == code "D") b (code "D") prefixes.Half more (prefix_of prefixes.Dot) refl refl e
grown_prefix prefixes.Half more b e = grown (b == code "d") b (code "d") prefixes.Whole more (prefix_of prefixes.Half) refl refl e
grown_prefix prefixes.Whole more b e = absurd (let no : None ≡ Some more = e in cc)
grown_prefix prefixes.Control more b e = absurd (let no : None ≡ Some more = e in cc)
grown_prefix prefixes.Escape more b e = absurd (let no : None ≡ Some more = e in cc)
grown_prefix prefixes.Comment more b e = absurd (let no : None ≡ Some more = e in cc)
grown_prefix prefixes.Other more b e = absurd (let no : None ≡ Some more = e in cc)

-- ---- all bytes

-- what holds of the bytes that come after
Rest : List ℕ → Type 0
Rest bs = (prefix : Prefix) (lines : ℕ) (s : State) → is_some (leads_on (Some (scans.Asleep prefix lines)) bs) ≡ true
    → all_of (at (scans.Asleep prefix lines) s) bs ≡ prefix_of prefix ++ bs

unfoldable pub scan_by : Bool → Bool → Bool → Prefix → ℕ → Scan
scan_by inside blank few prefix lines =
    if inside then scans.Asleep prefix lines else
    if blank then scans.Asleep prefixes.Nothing lines else
    if few then scans.Asleep prefixes.Nothing (lines + 1) else scans.Passes

by-scan : (inside blank few : Bool) (prefix : Prefix) (lines : ℕ) (s : State) (bs : List ℕ) → prefix_of prefix ≡ [] → Rest bs
    → is_some (leads_on (Some (scan_by inside blank few prefix lines)) bs) ≡ true
    → all_of (at (scan_by inside blank few prefix lines) s) bs ≡ bs
unfolding scan_by Rest
by-scan true blank few prefix lines s bs e rest h = rest prefix lines s h ∙ ap (λ (xs : List ℕ). xs ++ bs) e
by-scan false true few prefix lines s bs e rest h = rest prefixes.Nothing lines s h
by-scan false false true prefix lines s bs e rest h = rest prefixes.Nothing (lines + 1) s h
by-scan false false false prefix lines s bs e rest h = all-passes s bs

none_of : (t : Bool) (prefix : Prefix) → prefix_of prefix ≡ [] → prefix_of (if t then prefix else prefixes.Other) ≡ []
none_of true prefix e = e
none_of false prefix e = refl

none_then : (prefix : Prefix) (b : ℕ) → prefix_of (prefix_then prefix b) ≡ []
none_then prefixes.Nothing b = none_of (b == code "'") prefixes.Control refl
none_then prefixes.Control b = none_of (b == code "\\") prefixes.Escape refl
none_then prefixes.Escape b = none_of ((b == code "\"") || (b == code "#")) prefixes.Comment refl
none_then prefixes.Comment b = refl
none_then prefixes.Dot b = refl
none_then prefixes.Half b = refl
none_then prefixes.Whole b = refl
none_then prefixes.Other b = refl

-- a byte that goes on no `.Dd` passes, after what was read of one
passed : (prefix kept : Prefix) (lines b : ℕ) (s : State) (bs xs : List ℕ) → Rest bs
    → (read b (at (scans.Asleep prefix lines) s)).state ≡ at (passes_to kept lines b) s
    → (read b (at (scans.Asleep prefix lines) s)).bytes ≡ xs ++ b ∷ []
    → is_some (leads_on (Some (passes_to kept lines b)) bs) ≡ true
    → all_of (at (scans.Asleep prefix lines) s) (b ∷ bs) ≡ xs ++ b ∷ bs
unfolding scan_by
passed prefix kept lines b s bs xs rest p q h =
    all-by (at (scans.Asleep prefix lines) s) (at (passes_to kept lines b) s) b bs (xs ++ b ∷ []) bs p q
    (by-scan (not (b == code "\n")) (is_blank kept) (nat_lt lines 63) (prefix_then kept b) lines s bs (none_then kept b) rest h)
    ∙ append_assoc xs (b ∷ []) bs

none_leads : (bs : List ℕ) → is_some (leads_on None bs) ≡ true → ⊥
none_leads [] h = cc
none_leads (b ∷ bs) h = none_leads bs h

-- by whether the word after `.Dd` ends
whole : (ends : Bool) (lines b : ℕ) (s : State) (bs : List ℕ) → Rest bs → prefix_grows prefixes.Whole b ≡ None → ends_word b ≡ ends
    → is_some (leads_on (if ends then None else Some (passes_to prefixes.Other lines b)) bs) ≡ true
    → all_of (at (scans.Asleep prefixes.Whole lines) s) (b ∷ bs) ≡ prefix_of prefixes.Whole ++ b ∷ bs
whole true lines b s bs rest g e h = absurd (none_leads bs h)
whole false lines b s bs rest g e h =
    let here : read b (at (scans.Asleep prefixes.Whole lines) s) ≡ whole_with false lines b s =
    read-is prefixes.Whole lines b s ∙ whole-is lines b s ∙ ap (λ (t : Bool). whole_with t lines b s) e in
    passed prefixes.Whole prefixes.Other lines b s bs (prefix_of prefixes.Whole) rest
    (ap (λ (t : Emitted). t.state) here ∙ whole_state lines b s) (ap (λ (t : Emitted). t.bytes) here ∙ whole_bytes lines b s) h

by-prefix : (prefix : Prefix) (lines b : ℕ) (s : State) (bs : List ℕ) → Rest bs → prefix_grows prefix b ≡ None
    → is_some (leads_on (leads_after prefix lines b) bs) ≡ true
    → all_of (at (scans.Asleep prefix lines) s) (b ∷ bs) ≡ prefix_of prefix ++ b ∷ bs
by-prefix prefixes.Nothing lines b s bs rest g h =
    let here = read-is prefixes.Nothing lines b s ∙ ap (λ (x : Option Prefix). read_with x prefixes.Nothing lines b s) g in
    passed prefixes.Nothing prefixes.Nothing lines b s bs [] rest
    (ap (λ (t : Emitted). t.state) here ∙ nothing_state lines b s) (ap (λ (t : Emitted). t.bytes) here ∙ nothing_bytes lines b s) h
by-prefix prefixes.Other lines b s bs rest g h =
    let here = read-is prefixes.Other lines b s ∙ ap (λ (x : Option Prefix). read_with x prefixes.Other lines b s) g in
    passed prefixes.Other prefixes.Other lines b s bs [] rest
    (ap (λ (t : Emitted). t.state) here ∙ other_state lines b s) (ap (λ (t : Emitted). t.bytes) here ∙ other_bytes lines b s) h
by-prefix prefixes.Control lines b s bs rest g h =
    let here = read-is prefixes.Control lines b s ∙ ap (λ (x : Option Prefix). read_with x prefixes.Control lines b s) g in
    passed prefixes.Control prefixes.Control lines b s bs [] rest
    (ap (λ (t : Emitted). t.state) here ∙ control_state lines b s) (ap (λ (t : Emitted). t.bytes) here ∙ control_bytes lines b s) h
by-prefix prefixes.Escape lines b s bs rest g h =
    let here = read-is prefixes.Escape lines b s ∙ ap (λ (x : Option Prefix). read_with x prefixes.Escape lines b s) g in
    passed prefixes.Escape prefixes.Escape lines b s bs [] rest
    (ap (λ (t : Emitted). t.state) here ∙ escape_state lines b s) (ap (λ (t : Emitted). t.bytes) here ∙ escape_bytes lines b s) h
by-prefix prefixes.Comment lines b s bs rest g h =
    let here = read-is prefixes.Comment lines b s ∙ ap (λ (x : Option Prefix). read_with x prefixes.Comment lines b s) g in
    passed prefixes.Comment prefixes.Comment lines b s bs [] rest
    (ap (λ (t : Emitted). t.state) here ∙ comment_state lines b s) (ap (λ (t : Emitted). t.bytes) here ∙ comment_bytes lines b s) h
by-prefix prefixes.Dot lines b s bs rest g h =
    let here = read-is prefixes.Dot lines b s ∙ ap (λ (x : Option Prefix). read_with x prefixes.Dot lines b s) g in
    passed prefixes.Dot prefixes.Control lines b s bs (prefix_of prefixes.Dot) rest
    (ap (λ (t : Emitted). t.state) here ∙ dot_state lines b s) (ap (λ (t : Emitted). t.bytes) here ∙ dot_bytes lines b s) h
by-prefix prefixes.Half lines b s bs rest g h =
    let here = read-is prefixes.Half lines b s ∙ ap (λ (x : Option Prefix). read_with x prefixes.Half lines b s) g in
    passed prefixes.Half prefixes.Other lines b s bs (prefix_of prefixes.Half) rest
    (ap (λ (t : Emitted). t.state) here ∙ half_state lines b s) (ap (λ (t : Emitted). t.bytes) here ∙ half_bytes lines b s) h
by-prefix prefixes.Whole lines b s bs rest g h = whole (ends_word b) lines b s bs rest g refl h

by-growth : (g : Option Prefix) (prefix : Prefix) (lines b : ℕ) (s : State) (bs : List ℕ) → Rest bs → prefix_grows prefix b ≡ g
    → is_some (leads_on (leads_with g prefix lines b) bs) ≡ true
    → all_of (at (scans.Asleep prefix lines) s) (b ∷ bs) ≡ prefix_of prefix ++ b ∷ bs
unfolding Rest
by-growth None prefix lines b s bs rest g h = by-prefix prefix lines b s bs rest g h
by-growth (Some more) prefix lines b s bs rest g h =
    let here = read-is prefix lines b s ∙ ap (λ (x : Option Prefix). read_with x prefix lines b s) g in
    all-by (at (scans.Asleep prefix lines) s) (at (scans.Asleep more lines) s) b bs [] (prefix_of more ++ bs)
    (ap (λ (t : Emitted). t.state) here ∙ grows_state prefix more lines b s) (ap (λ (t : Emitted). t.bytes) here ∙ grows_bytes prefix more lines b s)
    (rest more lines s h)
    ∙ ap (λ (xs : List ℕ). xs ++ bs) (grown_prefix prefix more b g)
    ∙ append_assoc (prefix_of prefix) (b ∷ []) bs

prefix_end : (prefix : Prefix) (lines : ℕ) (s : State) → all_of (at (scans.Asleep prefix lines) s) [] ≡ prefix_of prefix
unfolding at all_of finished
prefix_end prefix lines s = refl

all-asleep : (bs : List ℕ) → Rest bs
unfolding Rest
all-asleep [] = λ prefix lines s h. prefix_end prefix lines s ∙ sym (append-nil (prefix_of prefix))
all-asleep (b ∷ bs) = λ prefix lines s h. by-growth (prefix_grows prefix b) prefix lines b s bs (all-asleep bs) refl h

pub other_unchanged : (text : List ℕ) → is_other text ≡ true → converted text ≡ text
unfolding Rest at all_of
other_unchanged text h = all-asleep text prefixes.Nothing 0 first_state h

pub other_at_end : (text : List ℕ) (i : ℕ) (scan : Option Scan) → length text ≤ i
    → leads_on scan (drop i text) ≡ leads_on (Some (scans.Asleep prefixes.Nothing 0)) text → is_some scan ≡ true → is_other text ≡ true
other_at_end text i scan l e h =
    ap is_some (sym e ∙ ap (leads_on scan) (drop_all i text l)) ∙ h
