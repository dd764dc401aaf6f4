-- Plain text is what comes of it.
use Prim.Native.Char.{code}
use Rattle.std.proofs.Common.{◌≡◌, ℕ, suc, ◌+◌, ◌≤◌, List, [], ◌∷◌, ◌++◌, length, drop, Bool, true, false, not, ◌==◌, ◌&&◌, ◌||◌, nat_lt, if◌then◌else◌, refl, sym, ◌∙◌, ap, append-nil, arith}
use Rattle.std.proofs.lemmas.List.{drop_all}
use Rattle.preconv_characters.specs.declared.target.Target.{Target}
use Rattle.preconv_lines.specs.declared.half.Half.{Half}
use Rattle.preconv_lines.specs.declared.half.Line.{Line}
use Rattle.preconv_lines.specs.declared.half.Line.TheVariants as lines
use Rattle.preconv_characters.specs.declared.marks.Before.TheVariants.{Character}
use Rattle.preconv_characters.specs.declared.marks.Mark.TheVariants.{Other}
use Rattle.preconv_lines.specs.declared.half.Coming.TheVariants as comings
use Rattle.preconv_characters.specs.declared.said.Said.TheVariants as says
use Rattle.preconv_converter.specs.declared.reader.Reader.{Reader}
use Rattle.preconv_converter.specs.declared.reader.Pending.TheVariants as pendings
use Rattle.preconv_lines.specs.Half.{Offered, taken, first_half}
use Rattle.preconv_characters.specs.Marks.{mark_of}
use Rattle.preconv_lines.specs.Hyphens.{placed, carriage_return, moved, saying, in_text}
use Rattle.preconv_lines.specs.Lines.{in_line, is_control, control}
use Rattle.preconv_lines.specs.Offering.{offer, beginning, may_pass}
use Rattle.preconv_converter.specs.PlainText.{goes_on, is_plain_from, is_plain_text}
use Rattle.preconv_converter.specs.Reading.{Emitted, emitted, preceded, then_emitted, heard, read, fed, fresh}
use Rattle.preconv_converter.specs.Reading.{stray, is_lead, pending_with, pending_heard, finished}
use Rattle.preconv_converter.specs.Reading.{first_reader, converted, steps_of}
use Rattle.preconv_converter.proofs.Reading.{emitted-eq}
use Rattle.preconv_converter.proofs.Plain.{and-first, and-second, is_not, heard_byte_taken}

-- what is half read of such text: at the beginning of a line, or in its midst
half_at : Bool → Half
half_at starts = record first_half { line = if starts then lines.Start else lines.Text }

reader_at : Target → Bool → Reader
reader_at e starts = record { half = half_at starts; pending = pendings.Nothing; table = e }

said_as : Bool → ℕ → Line → Half → Offered
said_as x b line h = taken (says.Byte b) (record (if x then record h { before = Character Other } else placed (mark_of b) h) { line = line })

text_as : Bool → ℕ → Half → Offered
text_as x b h = if x then said_as x b lines.Start h else said_as x b lines.Text h

text_said : (x : Bool) (b : ℕ) (starts : Bool) → text_as x b (half_at starts) ≡ taken (says.Byte b) (half_at x)
unfolding half_at text_as said_as
text_said true b starts = refl
text_said false b starts = refl

start_said : (x : Bool) (b : ℕ) → (if x then said_as x b lines.Start (half_at true) else text_as x b (half_at true)) ≡ taken (says.Byte b) (half_at x)
unfolding half_at text_as said_as
start_said true b = refl
start_said false b = refl

-- a byte that goes on it
start_offers : (b : ℕ) → (b == code "\\") ≡ false → (b == carriage_return) ≡ false → is_control b ≡ false → offer (comings.Byte b) (half_at true) ≡ taken (says.Byte b) (half_at (b == code "\n"))
unfolding half_at text_as said_as
start_offers b back return_no control_no =
    ap (λ (x : Bool). if x && true then beginning (half_at true) else in_line b (half_at true)) back
    ∙ ap (λ (x : Bool). if x then control false b (half_at true) else
    (if b == code "\n" then saying b lines.Start (half_at true) else in_text b (half_at true))) control_no
    ∙ ap (λ (x : Bool). if b == code "\n" then said_as (b == code "\n") b lines.Start (half_at true) else
    (if x || false then moved b (half_at true) else text_as (b == code "\n") b (half_at true))) return_no
    ∙ start_said (b == code "\n") b

text_offers : (b : ℕ) → (b == code "\\") ≡ false → (b == carriage_return) ≡ false → offer (comings.Byte b) (half_at false) ≡ taken (says.Byte b) (half_at (b == code "\n"))
unfolding half_at text_as said_as
text_offers b back return_no =
    ap (λ (x : Bool). if x && true then beginning (half_at false) else in_line b (half_at false)) back
    ∙ ap (λ (x : Bool). if x || false then moved b (half_at false) else text_as (b == code "\n") b (half_at false)) return_no
    ∙ text_said (b == code "\n") b false

offers_by : (starts : Bool) (b : ℕ) → (b == code "\\") ≡ false → (b == carriage_return) ≡ false → (starts && is_control b) ≡ false
    → offer (comings.Byte b) (half_at starts) ≡ taken (says.Byte b) (half_at (b == code "\n"))
offers_by true b back return_no control_no = start_offers b back return_no control_no
offers_by false b back return_no control_no = text_offers b back return_no

goes_offers : (starts : Bool) (b : ℕ) → goes_on starts b ≡ true → offer (comings.Byte b) (half_at starts) ≡ taken (says.Byte b) (half_at (b == code "\n"))
goes_offers starts b g =
    let both = and-first (may_pass b && not (b == code "\\")) (not (starts && is_control b)) g in
    let back = is_not (b == code "\\") (and-second (may_pass b) (not (b == code "\\")) both) in
    let return_no = is_not (b == carriage_return) (and-second (nat_lt b 127) (not (b == carriage_return)) (and-first (may_pass b) (not (b == code "\\")) both)) in
    let last = is_not (starts && is_control b) (and-second (may_pass b && not (b == code "\\")) (not (starts && is_control b)) g) in
    offers_by starts b back return_no last

read_going : (e : Target) (starts : Bool) (b : ℕ) → goes_on starts b ≡ true → fresh b (reader_at e starts) ≡ emitted (reader_at e (b == code "\n")) (b ∷ []) 1
unfolding reader_at
read_going e starts b g =
    let passes : may_pass b ≡ true = and-first (may_pass b) (not (b == code "\\")) (and-first (may_pass b && not (b == code "\\")) (not (starts && is_control b)) g) in
    let ascii : nat_lt b 127 ≡ true = and-first (nat_lt b 127) (not (b == carriage_return)) passes in
    let r = reader_at e starts in
    ap (λ (x : Bool). if x then heard (comings.Byte b) r else (if is_lead b then emitted (pending_with (pendings.One b) r) [] 0 else stray b r)) ascii
    ∙ heard_byte_taken b r (half_at (b == code "\n")) ascii (goes_offers starts b g)

read_on : (e : Target) (starts : Bool) (b : ℕ) → goes_on starts b ≡ true → read b (reader_at e starts) ≡ emitted (reader_at e (b == code "\n")) (b ∷ []) 1
unfolding reader_at half_at
read_on e true b g = ap (preceded [] 0) (read_going e true b g)
read_on e false b g = ap (preceded [] 0) (read_going e false b g)

-- where the last line stands
ends : Bool → List ℕ → Bool
ends starts [] = starts
ends starts (b ∷ bs) = ends (b == code "\n") bs

one_before : (n : ℕ) → 1 + n ≡ suc n
one_before n = omega arith

fed_on : (e : Target) (starts : Bool) (bs : List ℕ) → is_plain_from starts bs ≡ true → fed (reader_at e starts) bs ≡ emitted (reader_at e (ends starts bs)) bs (length bs)
unfolding ends
fed_on e starts [] p = refl
fed_on e starts (b ∷ bs) p =
    let g : goes_on starts b ≡ true = and-first (goes_on starts b) (is_plain_from (b == code "\n") bs) p in
    let rest : is_plain_from (b == code "\n") bs ≡ true = and-second (goes_on starts b) (is_plain_from (b == code "\n") bs) p in
    ap (λ (t : Emitted). then_emitted t (λ s. fed s bs)) (read_on e starts b g)
    ∙ ap (preceded (b ∷ []) 1) (fed_on e (b == code "\n") bs rest)
    ∙ emitted-eq _ _ _ _ _ _ refl refl (one_before (length bs))

nothing_left : (e : Target) (starts : Bool) → finished (reader_at e starts) ≡ []
unfolding reader_at half_at
nothing_left e true = refl
nothing_left e false = refl

first_is : (e : Target) → first_reader e ≡ reader_at e true
unfolding reader_at half_at
first_is e = refl

pub plain_unchanged : (e : Target) (text : List ℕ) → is_plain_text text ≡ true → converted e text ≡ text
plain_unchanged e text p =
    ap (λ (r : Reader). (fed r text).bytes ++ finished (fed r text).reader) (first_is e)
    ∙ ap (λ (t : Emitted). t.bytes ++ finished t.reader) (fed_on e true text p)
    ∙ ap (λ (xs : List ℕ). text ++ xs) (nothing_left e (ends true text))
    ∙ append-nil text

no_steps_left : (e : Target) (starts : Bool) → (pending_heard (reader_at e starts)).steps ≡ 0
unfolding reader_at half_at
no_steps_left e true = refl
no_steps_left e false = refl

none_added : (n : ℕ) → n + 0 ≡ n
none_added n = omega arith

-- one step for each byte
pub plain_steps : (e : Target) (text : List ℕ) → is_plain_text text ≡ true → steps_of e text ≡ length text
plain_steps e text p =
    ap (λ (r : Reader). (fed r text).steps + (pending_heard (fed r text).reader).steps) (first_is e)
    ∙ ap (λ (t : Emitted). t.steps + (pending_heard t.reader).steps) (fed_on e true text p)
    ∙ ap (λ (n : ℕ). length text + n) (no_steps_left e (ends true text))
    ∙ none_added (length text)

-- at the end of the text
pub plain_at_end : (text : List ℕ) (i : ℕ) (starts : Bool) → length text ≤ i → is_plain_from starts (drop i text) ≡ is_plain_from true text
    → is_plain_text text ≡ true
plain_at_end text i starts l e = sym e ∙ ap (is_plain_from starts) (drop_all i text l)
