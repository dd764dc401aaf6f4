-- The beginning of a control line that goes out as it is: a dot, a name, and a blank or a newline, which is offered twice.
use Prim.Native.Char.{code}
use Rattle.std.proofs.Common.{◌≡◌, ℕ, zero, suc, ◌+◌, ◌<◌, ◌≤◌, List, [], ◌∷◌, ◌++◌, length, take, drop, get_or, Bool, true, false, not, ◌==◌, ◌&&◌, ◌||◌, if◌then◌else◌, refl, sym, ◌∙◌, ap, subst, add-one, append-nil, min, arith}
use Rattle.std.specs.List.{prefix_len}
use Rattle.std.proofs.lemmas.List.{length-take, take_more}
use Rattle.std.proofs.lemmas.List.Sums.{prefix_len-le-length}
use Rattle.preconv_characters.specs.declared.target.Target.{Target}
use Rattle.nr_units.specs.Name.{capacity, is_full}
use Rattle.preconv_characters.specs.declared.said.Said.TheVariants as says
use Rattle.preconv_characters.specs.declared.beginnings.Opens.{Opens}
use Rattle.preconv_characters.specs.declared.beginnings.Opens.TheVariants as opens
use Rattle.preconv_lines.specs.declared.half.Half.{Half}
use Rattle.preconv_characters.specs.declared.marks.Mark.TheVariants.{Stop}
use Rattle.preconv_lines.specs.declared.half.Coming.TheVariants as comings
use Rattle.preconv_converter.specs.declared.reader.Reader.{Reader}
use Rattle.preconv_converter.specs.declared.reader.Pending.TheVariants.{Nothing}
use Rattle.preconv_lines.specs.Half.{Offered, taken, is_plain, is_open}
use Rattle.preconv_characters.specs.Beginnings.{opened, said_name, goes_out, apart, is_alone}
use Rattle.preconv_characters.specs.Saying.{all_sent, bytes_of}
use Rattle.preconv_lines.specs.Escapes.{in_escape}
use Rattle.preconv_lines.specs.Lines.{ends_name, line_of, manual_by, opening, named_line, in_line}
use Rattle.preconv_lines.specs.Offering.{offer, plain_byte, beginning, is_as_is, is_as_is_at}
use Rattle.preconv_converter.specs.Reading.{Emitted, emitted, preceded, then_emitted, heard, heard_in}
use Rattle.preconv_converter.specs.Reading.{with_half, read, fed}
use Rattle.preconv_converter.specs.Runs.{goes_on_name, dotted_len, is_start, name_len, after_name}
use Rattle.preconv_converter.specs.Runs.{after_control, is_end}
use Rattle.preconv_converter.proofs.Plain.{is_not, nothing_pending, heard_as_is}
use Rattle.preconv_converter.proofs.Reading.{fed-append}
use Rattle.preconv_converter.proofs.AtOnce.{placed_escape, placed_open}
use Rattle.preconv_characters.proofs.Tests.{is_one}
use Rattle.preconv_converter.proofs.Names.{is_ascii, dotted_is, dotted_value, both_first, both_value}
use Rattle.preconv_converter.proofs.Names.{name_fed}
use Rattle.preconv_characters.proofs.SentWhole.{sent_is}
use Rattle.preconv_converter.proofs.Sent.{ascii-goes}

-- ---- the name goes out

short_prefix : (x : Bool) (n k : ℕ) → suc n ≤ (if x then 1 + k else 0) → (x ≡ true) × (n ≤ k)
short_prefix true n k l = (refl, omega arith)
short_prefix false n k l = absurd (omega arith)

name_sent : (e : Target) (n : ℕ) (bs : List ℕ) → n ≤ prefix_len goes_on_name bs → all_sent e (take n bs) ≡ take n bs
name_sent e zero bs l = refl
name_sent e (suc n) [] l = refl
name_sent e (suc n) (b ∷ bs) l =
    let parts = short_prefix (goes_on_name b) n (prefix_len goes_on_name bs) l in
    ap (λ (x : ℕ). x ∷ all_sent e (take n bs)) (sent_is e b (ascii-goes e b (is_ascii b parts.0)))
    ∙ ap (λ (xs : List ℕ). b ∷ xs) (name_sent e n bs parts.1)

-- before a blank or a newline it gets no blank
pub no_blank : (x : Bool) (name : List ℕ) (b : ℕ) → (b == code "\\") ≡ false → (if x then apart name b else name) ≡ name
no_blank true name b back = ap (λ (y : Bool). if y && not (is_full name) then name ++ code " " ∷ [] else name) back
no_blank false name b back = refl

-- by what it opens, before one of these
name_said : (o : Opens) (e : Target) (name : List ℕ) (b : ℕ) → (b == code "\\") ≡ false → goes_out o (length name) ≡ true → all_sent e name ≡ name
    → bytes_of e (said_name o name b) ≡ name
name_said opens.Definition e name b back p is =
    ap (λ (x : Bool). all_sent e (if x then take 2 name else name)) (is_not (length name == 3) p) ∙ is
name_said opens.Condition e name b back p is = absurd (let no : false ≡ true = p in cc)
name_said opens.Else e name b back p is = absurd (let no : false ≡ true = p in cc)
name_said opens.Nop e name b back p is = absurd (let no : false ≡ true = p in cc)
name_said opens.Ignored e name b back p is = absurd (let no : false ≡ true = p in cc)
name_said opens.Rest e name b back p is = ap (all_sent e) (no_blank (is_alone name) name b back) ∙ is
name_said o e name b back p is = is

-- ---- the line then

blank_goes : (o : Opens) (len : ℕ) (x : Bool) (h : Half) → goes_out o len ≡ true → is_as_is_at (line_of o x) (code " ") h ≡ true
blank_goes opens.Condition len x h p = absurd (let no : false ≡ true = p in cc)
blank_goes opens.Else len x h p = absurd (let no : false ≡ true = p in cc)
blank_goes opens.Nop len x h p = absurd (let no : false ≡ true = p in cc)
blank_goes opens.Translation len x h p = absurd (let no : false ≡ true = p in cc)
blank_goes opens.Face len x h p = absurd (let no : false ≡ true = p in cc)
blank_goes opens.Ignored len x h p = absurd (let no : false ≡ true = p in cc)
blank_goes o len x h p = refl

newline_goes : (o : Opens) (len : ℕ) (x : Bool) (h : Half) → goes_out o len ≡ true → is_as_is_at (line_of o x) (code "\n") h ≡ true
newline_goes opens.Condition len x h p = absurd (let no : false ≡ true = p in cc)
newline_goes opens.Else len x h p = absurd (let no : false ≡ true = p in cc)
newline_goes opens.Nop len x h p = absurd (let no : false ≡ true = p in cc)
newline_goes opens.Translation len x h p = absurd (let no : false ≡ true = p in cc)
newline_goes opens.Face len x h p = absurd (let no : false ≡ true = p in cc)
newline_goes opens.Ignored len x h p = absurd (let no : false ≡ true = p in cc)
newline_goes o len x h p = refl

manual_same : (o : Opens) (h : Half) (name : List ℕ) → manual_by o (after_name name h) ≡ manual_by o (after_name [] h)
manual_same opens.Title h name = refl
manual_same o h name = refl

opening_same : (o : Opens) (b : ℕ) (name : List ℕ) (h : Half) → record (opening o b (after_name name h)) { name = [] } ≡ opening o b (after_name [] h)
opening_same o b name h =
    ap (λ (m : Bool). record (opening o b (after_name [] h)) { manual = m }) (manual_same o h name)

-- ---- what ends the name

Ends : ℕ → List ℕ → Reader → Type 0
Ends b name r = read b (with_half (after_name name r.half) r) ≡ emitted (with_half (after_control (opened name) b r.half) r) (name ++ b ∷ []) 2

end_offered : (b : ℕ) (name : List ℕ) (h : Half) → (b == code "\\") ≡ false → ends_name b ≡ true → is_plain h.escape ≡ true
    → offer (comings.Byte b) (after_name name h) ≡ named_line b (after_name name h)
end_offered b name h back ends plain =
    let k = after_name name h in
    ap (λ (x : Bool). if x then plain_byte b k else in_escape b k) (placed_escape Stop h ∙ plain)
    ∙ ap (λ (x : Bool). if x && false then beginning k else in_line b k) back
    ∙ ap (λ (x : Bool). if x || is_full name then named_line b k else taken says.Nothing (record k { name = name ++ b ∷ [] })) ends

end_heard : (b : ℕ) (name : List ℕ) (r : Reader) → (b == code "\\") ≡ false → ends_name b ≡ true → is_plain r.half.escape ≡ true
    → goes_out (opened name) (length name) ≡ true → all_sent r.table name ≡ name → is_as_is b (opening (opened name) b (after_name [] r.half)) ≡ true
    → heard (comings.Byte b) (with_half (after_name name r.half) r) ≡ emitted (with_half (after_control (opened name) b r.half) r) (name ++ b ∷ []) 2
unfolding heard
end_heard b name r back ends plain goes sends is =
    let c = comings.Byte b in
    let o = opened name in
    let h = opening o b (after_name [] r.half) in
    ap (λ (m : Offered). preceded (bytes_of r.table m.said) 1 (if m.takes then emitted (with_half m.half r) [] 0 else heard_in 5 c (with_half m.half r))) (end_offered b name r.half back ends plain)
    ∙ ap (λ (xs : List ℕ). preceded xs 1 (heard_in 5 c (with_half (record (opening o b (after_name name r.half)) { name = [] }) r))) (name_said o r.table name b back goes sends)
    ∙ ap (λ (k : Half). preceded name 1 (heard_in 5 c (with_half k r))) (opening_same o b name r.half)
    ∙ ap (preceded name 1) (heard_as_is 5 b (with_half h r) (omega arith) is)

blank_ends : (name : List ℕ) (r : Reader) → r.pending ≡ Nothing → is_plain r.half.escape ≡ true → is_open r.half ≡ true → goes_out (opened name) (length name) ≡ true
    → all_sent r.table name ≡ name → Ends (code " ") name r
unfolding Ends
blank_ends name r none plain free goes sends =
    let s = with_half (after_name name r.half) r in
    let o = opened name in
    let h = opening o (code " ") (after_name [] r.half) in
    nothing_pending (code " ") s none
    ∙ end_heard (code " ") name r refl refl plain goes sends
    (ap (λ (x : Bool). x && is_as_is_at h.line (code " ") h) (placed_open Stop r.half ∙ free) ∙ blank_goes o (length name) false h goes)

newline_ends : (name : List ℕ) (r : Reader) → r.pending ≡ Nothing → is_plain r.half.escape ≡ true → is_open r.half ≡ true → goes_out (opened name) (length name) ≡ true
    → all_sent r.table name ≡ name → Ends (code "\n") name r
unfolding Ends
newline_ends name r none plain free goes sends =
    let s = with_half (after_name name r.half) r in
    let o = opened name in
    let h = opening o (code "\n") (after_name [] r.half) in
    nothing_pending (code "\n") s none
    ∙ end_heard (code "\n") name r refl refl plain goes sends
    (ap (λ (x : Bool). x && is_as_is_at h.line (code "\n") h) (placed_open Stop r.half ∙ free) ∙ newline_goes o (length name) true h goes)

by_end : (P : ℕ → Type 0) → P (code " ") → P (code "\n") → (b : ℕ) (x y : Bool) → (b == code " ") ≡ x → (b == code "\n") ≡ y → (x || y) ≡ true → P b
by_end P p q b true y e f is = subst P (sym (is_one b (code " ") e)) p
by_end P p q b false true e f is = subst P (sym (is_one b (code "\n") f)) q
by_end P p q b false false e f is = absurd (let no : false ≡ true = is in cc)

ends_of : (b : ℕ) (name : List ℕ) (r : Reader) → Ends b name r → read b (with_half (after_name name r.half) r) ≡ emitted (with_half (after_control (opened name) b r.half) r) (name ++ b ∷ []) 2
unfolding Ends
ends_of b name r p = p

control_emitted : (s : Reader) (xs ys : List ℕ) (m n : ℕ) → xs ≡ ys → m ≡ n → emitted s xs m ≡ emitted s ys n
control_emitted s xs ys m n p q = cc

-- ---- the dot, the name, and what ends it

-- the first byte is a dot
dotted : (n : ℕ) (bs : List ℕ) → n ≡ dotted_len bs → 0 < n → (take (n + 1) bs ≡ code "." ∷ take n (drop 1 bs)) × (n ≤ prefix_len goes_on_name (drop 1 bs))
dotted n [] is some = absurd (omega arith)
dotted n (dot ∷ []) is some = absurd (omega arith)
dotted n (dot ∷ first ∷ more) is some =
    let bs = first ∷ more in
    let k = min (prefix_len goes_on_name bs) capacity in
    let has : 0 < (if (dot == code ".") && not (first == code ".") then k else 0) = subst (λ (m : ℕ). 0 < m) is some in
    let parts = dotted_is (dot == code ".") (first == code ".") k has in
    let value : n ≡ k = is ∙ dotted_value (dot == code ".") (first == code ".") k parts.0 parts.1 in (
      ap (λ (m : ℕ). take m (dot ∷ bs)) (add-one n) ∙ ap (λ (d : ℕ). d ∷ take n bs) (is_one dot (code ".") parts.0),
      (let l : min (prefix_len goes_on_name bs) capacity ≤ prefix_len goes_on_name bs = omega arith in omega (arith, value)),
    )

pub control_fed : (n : ℕ) (bs : List ℕ) (r : Reader) (b : ℕ) → r.pending ≡ Nothing → is_open r.half ≡ true → n ≡ name_len bs r.half → 0 < n → n + 1 < length bs → b ≡ get_or bs (n + 1) 0
    → is_end b ≡ true → goes_out (opened (take n (drop 1 bs))) n ≡ true
    → fed r (take (n + 2) bs) ≡ emitted (with_half (after_control (opened (take n (drop 1 bs))) b r.half) r) (take (n + 2) bs) (n + 3)
control_fed n bs r b none free is some more last ends goes =
    let x = is_plain r.half.escape in
    let y = is_start r.half.line in
    let k = dotted_len bs in
    let has : 0 < (if x && y then k else 0) = subst (λ (m : ℕ). 0 < m) is some in
    let parts = both_first x y k has in
    let prefix = dotted n bs (is ∙ both_value x y k parts.0 parts.1) some in
    let name = take n (drop 1 bs) in
    let within : n ≤ length (drop 1 bs) = (let l = prefix_len-le-length goes_on_name (drop 1 bs) in let m = prefix.1 in omega (arith, l, m)) in
    let len : length name ≡ n = (let l = length-take n (drop 1 bs) in omega (arith, l, within)) in
    let all : goes_out (opened name) (length name) ≡ true = ap (λ (m : ℕ). goes_out (opened name) m) len ∙ goes in
    let sends = name_sent r.table n (drop 1 bs) prefix.1 in
    let end : Ends b name r = by_end (λ (c : ℕ). Ends c name r) (blank_ends name r none parts.0 free all sends) (newline_ends name r none parts.0 free all sends)
    b (b == code " ") (b == code "\n") refl refl ends in
    let whole : take (n + 2) bs ≡ take (n + 1) bs ++ b ∷ [] =
    ap (λ (m : ℕ). take m bs) (let e : n + 2 ≡ n + 1 + 1 = omega arith in e) ∙ take_more bs (n + 1) 0 more ∙ ap (λ (c : ℕ). take (n + 1) bs ++ c ∷ []) (sym last) in
    let out : (code "." ∷ []) ++ ((name ++ b ∷ []) ++ []) ≡ take (n + 2) bs =
    ap (λ (xs : List ℕ). code "." ∷ xs) (append-nil (name ++ b ∷ [])) ∙ ap (λ (xs : List ℕ). xs ++ b ∷ []) (sym prefix.0) ∙ sym whole in
    ap (fed r) whole
    ∙ fed-append r (take (n + 1) bs) (b ∷ [])
    ∙ ap (λ (t : Emitted). then_emitted t (λ v. fed v (b ∷ []))) (name_fed n bs r none is some)
    ∙ ap (λ (t : Emitted). preceded (code "." ∷ []) (n + 1) (then_emitted t (λ v. emitted v [] 0))) (ends_of b name r end)
    ∙ control_emitted (with_half (after_control (opened name) b r.half) r) ((code "." ∷ []) ++ ((name ++ b ∷ []) ++ [])) (take (n + 2) bs) (n + 1 + 2) (n + 3) out (omega arith)
