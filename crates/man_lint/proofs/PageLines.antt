-- Each complaint is of a line of the page.
use Rattle.std.proofs.Common.{◌≡◌, ℕ, suc, ◌+◌, ◌≤◌, List, [], ◌∷◌, length, take, drop, Bool, true, false, not, ◌==◌, ◌&&◌, ◌||◌, nat_lt, if◌then◌else◌, codes, Option, None, Some, refl, arith}
use Rattle.std.proofs.lemmas.Grind.{common_steps}
use Rattle.std.proofs.lemmas.List.Elements.{All-append, All-cons, All-drop, All-nil, All-push, All-take, All-weaker}
use Rattle.std.specs.List.{All, insert, remove}
use Rattle.std.specs.Str.{bytes_eq}
use Prim.Native.Char.{code}
use Rattle.filters_complaints.specs.Blocks.{place_of}
use Rattle.man_lint.specs.Escapes as escapes
use Rattle.man_lint.specs.Laws.{ComplaintsHaveLines, IsIn, lines_in, newlines}
use Rattle.man_lint.specs.Lines as lines
use Rattle.man_lint.specs.Names.{defines, is_macro, is_request, is_string, leaves, names_first, opener_of, opens, reads_macros, region_end}
use Rattle.man_lint.specs.OwnNames.{given, has}
use Rattle.filters_complaints.specs.Complaints.{with_complaint}
use Rattle.man_lint.specs.Reporting as reporting
use Rattle.man_lint.specs.Reporting.{AllReported}
use Rattle.man_lint.specs.Watching.{Page, acted, all_heard, block_called, byte_read, called, counted, defined_until, ended_at, ended_by, ends_all, finished, first_page, gone, heard, ignored, in_definition, is_empty, judged, line_ended, macro_called, macro_in, name_given, not_ended, opened, read_byte, read_escape, reported, requested, string_judged, taken, titled_at_end, unknown, with_blocks, with_macro, with_title}
use Rattle.filters_complaints.specs.declared.blocks.OpenBlock.{OpenBlock}
use Rattle.man_lint.specs.declared.calls.Call.{Call}
use Rattle.man_lint.specs.declared.escapes.Found.{Found}
use Rattle.man_lint.specs.declared.escapes.Found.TheVariants as founds
use Rattle.man_lint.specs.declared.reporting.Complaint.{Complaint}
use Rattle.man_lint.specs.declared.reporting.Kind.{Kind}
use Rattle.man_lint.specs.declared.reporting.Kind.TheVariants as kinds

-- ---- what a page remembers of lines

abbrev BlocksIn : ℕ → List OpenBlock → Type 0
BlocksIn n blocks = All (λ (b : OpenBlock). IsIn n b.line) blocks

abbrev ComplaintsIn : ℕ → List Complaint → Type 0
ComplaintsIn n complaints = All (λ (c : Complaint). IsIn n c.line) complaints

record Kept (n begun : ℕ) (blocks : List OpenBlock) (complaints : List Complaint) : Type 0 where
  begun_in : begun ≤ n
  blocks_in : BlocksIn n blocks
  complaints_in : ComplaintsIn n complaints

abbrev Keeps : ℕ → Page → Type 0
Keeps n p = Kept n p.place.begun p.blocks.items p.reports.first.items

-- and the line at which it is
abbrev Within : ℕ → Page → Type 0
Within n p = IsIn n p.place.line × Keeps n p

wider-line : (m n k : ℕ) → m ≤ n → IsIn m k → IsIn n k
wider-line m n k le h = record { first = h.first; last = omega (arith, h.last) }

wider : (m n : ℕ) (p : Page) → m ≤ n → Keeps m p → Keeps n p
wider m n p le h = record {
  begun_in = omega (arith, h.begun_in);
  blocks_in = All-weaker (λ (b : OpenBlock). IsIn m b.line) (λ (b : OpenBlock). IsIn n b.line) (λ b. wider-line m n b.line le) p.blocks.items h.blocks_in;
  complaints_in = All-weaker (λ (c : Complaint). IsIn m c.line) (λ (c : Complaint). IsIn n c.line) (λ c. wider-line m n c.line le) p.reports.first.items h.complaints_in;
}

either : (n : ℕ) (t : Bool) (p q : Page) → Within n p → Within n q → Within n (if t then p else q)
either n true p q a b = a
either n false p q a b = b

-- ---- complaints

added : (n : ℕ) (t : Bool) (c : Complaint) (r : AllReported) → IsIn n c.line → ComplaintsIn n r.first.items
    → ComplaintsIn n (if t then record r { missed = true } else with_complaint c r).first.items
added n true c r is h = h
added n false c r is h = All-push (λ (x : Complaint). IsIn n x.line) r.first.items c h is

reported-in : (n : ℕ) (kind : Kind) (name : List ℕ) (line : ℕ) (r : AllReported) → IsIn n line → ComplaintsIn n r.first.items
    → ComplaintsIn n (reporting.reported kind name line r).first.items
reported-in n kind name line r is h =
    added n (length r.first.items == r.first.capacity) (record { kind = kind; name = name; line = line }) r is h

reported-keeps : (n : ℕ) (kind : Kind) (name : List ℕ) (p : Page) → Within n p → Within n (reported kind name p)
reported-keeps n kind name p (line, h) = (
  line,
  record {
    begun_in = h.begun_in;
    blocks_in = h.blocks_in;
    complaints_in = reported-in n kind name p.place.line p.reports line h.complaints_in;
  },
)

-- ---- blocks

with_blocks-keeps : (n : ℕ) (blocks : List OpenBlock) (p : Page) → BlocksIn n blocks → Within n p → Within n (with_blocks blocks p)
with_blocks-keeps n blocks p are (line, h) = (
  line,
  record {
    begun_in = h.begun_in;
    blocks_in = are;
    complaints_in = h.complaints_in;
  },
)

inserted : (n : ℕ) (blocks : List OpenBlock) (b : OpenBlock) → BlocksIn n blocks → IsIn n b.line → BlocksIn n (insert blocks 0 b)
inserted n blocks b h is =
    All-append (λ (x : OpenBlock). IsIn n x.line) (take 0 blocks) (b ∷ drop 0 blocks) (All-take (λ (x : OpenBlock). IsIn n x.line) 0 blocks h)
    (All-cons (λ (x : OpenBlock). IsIn n x.line) b (drop 0 blocks) is (All-drop (λ (x : OpenBlock). IsIn n x.line) 0 blocks h))

removed : (n : ℕ) (blocks : List OpenBlock) (place : ℕ) → BlocksIn n blocks → BlocksIn n (remove blocks place)
removed n blocks place h =
    All-append (λ (x : OpenBlock). IsIn n x.line) (take place blocks) (drop (suc place) blocks)
    (All-take (λ (x : OpenBlock). IsIn n x.line) place blocks h) (All-drop (λ (x : OpenBlock). IsIn n x.line) (suc place) blocks h)

opened-keeps : (n : ℕ) (name : List ℕ) (p : Page) → Within n p → Within n (opened name p)
opened-keeps n name p h =
    let block : OpenBlock = record { name = name; line = p.place.line; columns = false } in
    either n (length p.blocks.items == p.blocks.capacity) (reported kinds.TooMany name p) (with_blocks (insert p.blocks.items 0 block) p)
    (reported-keeps n kinds.TooMany name p h)
    (with_blocks-keeps n (insert p.blocks.items 0 block) p (inserted n p.blocks.items block h.1.blocks_in h.0) h)

ended_at-keeps : (n : ℕ) (place : Option ℕ) (name : List ℕ) (p : Page) → Within n p → Within n (ended_at place name p)
ended_at-keeps n None name p h = reported-keeps n kinds.NotOpen name p h
ended_at-keeps n (Some place) name p h = with_blocks-keeps n (remove p.blocks.items place) p (removed n p.blocks.items place h.1.blocks_in) h

ended_by-keeps : (n : ℕ) (opener : Option (List ℕ)) (name : List ℕ) (p : Page) → Within n p → Within n (ended_by opener name p)
ended_by-keeps n None name p h = h
ended_by-keeps n (Some opener) name p h = ended_at-keeps n (place_of opener p.blocks.items) name p h

block_called-keeps : (n : ℕ) (c : Call) (p : Page) → Within n p → Within n (block_called c p)
unfolding block_called
block_called-keeps n c p h =
    either n (ends_all c) (with_blocks [] p) (if opens c.name then opened c.name p else ended_by (opener_of c.name) c.name p)
    (with_blocks-keeps n [] p (All-nil (λ (x : OpenBlock). IsIn n x.line)) h)
    (either n (opens c.name) (opened c.name p) (ended_by (opener_of c.name) c.name p) (opened-keeps n c.name p h)
    (ended_by-keeps n (opener_of c.name) c.name p h))

-- ---- macros

with_title-keeps : (n : ℕ) (p : Page) → Within n p → Within n (with_title p)
with_title-keeps n p h =
    either n (nat_lt 0 p.place.begun && not p.place.titled) (reported kinds.LateTitle (codes "TH") p) p
    (reported-keeps n kinds.LateTitle (codes "TH") p h) h

with_macro-keeps : (n : ℕ) (p : Page) → Within n p → Within n (with_macro p)
with_macro-keeps n p h =
    either n (p.place.begun == 0) (record p { place = record p.place { begun = p.place.line } }) p
    (h.0, record { begun_in = h.0.last; blocks_in = h.1.blocks_in; complaints_in = h.1.complaints_in }) h

macro_in-keeps : (n : ℕ) (end : Option (List ℕ)) (c : Call) (p : Page) → Within n p → Within n (macro_in end c p)
macro_in-keeps n (Some end) c p h = h
macro_in-keeps n None c p h =
    either n (bytes_eq c.name (codes "TH")) (with_title p) (block_called c (with_macro p)) (with_title-keeps n p h)
    (block_called-keeps n c (with_macro p) (with_macro-keeps n p h))

macro_called-keeps : (n : ℕ) (c : Call) (p : Page) → Within n p → Within n (macro_called c p)
unfolding macro_called
macro_called-keeps n c p h = macro_in-keeps n (region_end c.name) c p h

-- ---- requests

name_given-keeps : (n : ℕ) (c : Call) (p : Page) → Within n p → Within n (name_given c p)
unfolding name_given
name_given-keeps n c p h =
    let q : Page = record p { names = given c.second false p.names } in
    let r : Page = record p { names = given c.first true p.names } in
    let others : Page = if reads_macros c.name then r else p in
    either n (names_first c.name) (record p { names = given c.first c.escaped p.names }) (if bytes_eq c.name (codes "rn") then q else others) h
    (either n (bytes_eq c.name (codes "rn")) q others h (either n (reads_macros c.name) r p h h))

requested-keeps : (n : ℕ) (c : Call) (p : Page) → Within n p → Within n (requested c p)
unfolding requested
requested-keeps n c p h =
    let q : Page = name_given c p in
    let k : Within n q = name_given-keeps n c p h in
    either n (defines c.name) (defined_until c.second q) (if bytes_eq c.name (codes "ig") then ignored c q else q) k
    (either n (bytes_eq c.name (codes "ig")) (ignored c q) q (either n c.conditional (gone q) (defined_until c.first q) k k) k)

-- ---- lines

unknown-keeps : (n : ℕ) (c : Call) (p : Page) → Within n p → Within n (unknown c p)
unknown-keeps n c p h =
    either n (not c.conditional && not p.names.others) (reported kinds.NoMacro c.name p) p (reported-keeps n kinds.NoMacro c.name p h) h

called-keeps : (n : ℕ) (c : Call) (p : Page) → Within n p → Within n (called c p)
unfolding called
called-keeps n c p h =
    let third : Page = if is_request c.name then requested c p else unknown c p in
    let second : Page = if is_macro c.name then macro_called c p else third in
    let first : Page = if leaves c.name then gone p else second in
    either n (has c.name p.names.names.items) p first h
    (either n (leaves c.name) (gone p) second h
    (either n (is_macro c.name) (macro_called c p) third (macro_called-keeps n c p h)
    (either n (is_request c.name) (requested c p) (unknown c p) (requested-keeps n c p h) (unknown-keeps n c p h))))

in_definition-keeps : (n : ℕ) (c : Call) (p : Page) → Within n p → Within n (in_definition c p)
in_definition-keeps n c p h =
    either n (not c.conditional && bytes_eq c.name p.until) (record p { until = [] }) (name_given c p) h (name_given-keeps n c p h)

acted-keeps : (n : ℕ) (c : Call) (p : Page) → Within n p → Within n (acted c p)
unfolding acted
acted-keeps n c p h = either n (is_empty p.until) (called c p) (in_definition c p) (called-keeps n c p h) (in_definition-keeps n c p h)

line_ended-keeps : (n : ℕ) (p : Page) → Within n p → Within n (line_ended p)
line_ended-keeps n p h = either n (is_empty p.half.call.name) p (acted p.half.call p) h (acted-keeps n p.half.call p h)

-- ---- bytes

string_judged-keeps : (n : ℕ) (p : Page) → Within n p → Within n (string_judged p)
string_judged-keeps n p h =
    let name : List ℕ = p.escaping.name in
    either n (not (is_string name) && (not p.names.others && not (has name p.names.names.items))) (reported kinds.NoString name p) p
    (reported-keeps n kinds.NoString name p h) h

judged-keeps : (n : ℕ) (f : Found) (b : ℕ) (p : Page) → Within n p → Within n (judged f b p)
judged-keeps n founds.Nothing b p h = h
judged-keeps n founds.Unknown b p h = reported-keeps n kinds.NoEscape (code "\\" ∷ b ∷ []) p h
judged-keeps n founds.String b p h = string_judged-keeps n p h

taken-keeps : (n b : ℕ) (p : Page) → Within n p → Within n (taken b p)
unfolding taken
taken-keeps n b p h =
    let q : Page = record p { half = lines.taken b p.half } in
    either n (b == code "\n") (line_ended q) q (line_ended-keeps n q h) h

read_escape-keeps : (n b : ℕ) (p : Page) → Within n p → Within n (read_escape b p)
read_escape-keeps n b p h =
    let q : Page = record p { escaping = escapes.taken b p.escaping } in
    either n (is_empty p.until) (judged (escapes.found b p.escaping) b q) q (judged-keeps n (escapes.found b p.escaping) b q h) h

read_byte-keeps : (n : ℕ) (t : Bool) (b : ℕ) (p : Page) → Within n p → Within n (read_byte t b p)
read_byte-keeps n true b p h = h
read_byte-keeps n false b p h = either n (b == code "\\") p (taken b p) h (taken-keeps n b p h)

byte_read-keeps : (n b : ℕ) (p : Page) → Within n p → Within n (byte_read b p)
unfolding byte_read
byte_read-keeps n b p h = read_byte-keeps n (escapes.is_begun p.escaping.escape) b (read_escape b p) (read_escape-keeps n b p h)

-- ---- newlines

abbrev more : ℕ → ℕ
more b = if b == code "\n" then 1 else 0

-- what a byte does before it is counted
abbrev uncounted : ℕ → Page → Page
uncounted b p = if lines.is_comment p.half.line then taken b p else byte_read b p

uncounted-keeps : (n b : ℕ) (p : Page) → Within n p → Within n (uncounted b p)
uncounted-keeps n b p h =
    either n (lines.is_comment p.half.line) (taken b p) (byte_read b p) (taken-keeps n b p h) (byte_read-keeps n b p h)

count-by : (n : ℕ) (new far : Bool) (p : Page) → Within n p
    → Within (n + (if new then 1 else 0)) (if new && far then record p { place = record p.place { line = p.place.line + 1 } } else p)
count-by n true true p h = (
  record { first = omega (arith, h.0.first); last = omega (arith, h.0.last) },
  wider n (n + 1) p (omega arith) h.1,
)
count-by n true false p h = (wider-line n (n + 1) p.place.line (omega arith) h.0, wider n (n + 1) p (omega arith) h.1)
count-by n false far p h = (wider-line n (n + 0) p.place.line (omega arith) h.0, wider n (n + 0) p (omega arith) h.1)

counted-keeps : (n b : ℕ) (p : Page) → Within n p → Within (n + more b) (counted b p)
counted-keeps n b p h = count-by n (b == code "\n") (nat_lt p.place.line 18446744073709551615) p h

heard-by : (n b : ℕ) (t : Bool) (p : Page) → Within n p → Within (n + more b) (if t then p else counted b (uncounted b p))
heard-by n b true p h =
    (wider-line n (n + more b) p.place.line (omega arith) h.0, wider n (n + more b) p (omega arith) h.1)
heard-by n b false p h = counted-keeps n b (uncounted b p) (uncounted-keeps n b p h)

heard-keeps : (n b : ℕ) (p : Page) → Within n p → Within (n + more b) (heard b p)
heard-keeps n b p h = heard-by n b p.place.left p h

all_heard-keeps : (bs : List ℕ) (n : ℕ) (p : Page) → Within n p → Within (n + newlines bs) (all_heard bs p)
all_heard-keeps [] n p h = (wider-line n (n + 0) p.place.line (omega arith) h.0, wider n (n + 0) p (omega arith) h.1)
all_heard-keeps (b ∷ bs) n p h =
    let k : Within (n + more b + newlines bs) (all_heard bs (heard b p)) = all_heard-keeps bs (n + more b) (heard b p) (heard-keeps n b p h) in
    let le : n + more b + newlines bs ≤ n + newlines (b ∷ bs) = omega arith in
    (wider-line _ _ (all_heard bs (heard b p)).place.line le k.0, wider _ _ (all_heard bs (heard b p)) le k.1)

-- ---- the end, whose newline is none of the page

same-count : (new far : Bool) (n : ℕ) (p : Page) → Keeps n p
    → Keeps n (if new && far then record p { place = record p.place { line = p.place.line + 1 } } else p)
same-count true true n p h = h
same-count true false n p h = h
same-count false far n p h = h

last-by : (n b : ℕ) (t : Bool) (p : Page) → Within n p → Keeps n (if t then p else counted b (uncounted b p))
last-by n b true p h = h.1
last-by n b false p h =
    same-count (b == code "\n") (nat_lt (uncounted b p).place.line 18446744073709551615) n (uncounted b p) (uncounted-keeps n b p h).1

last-keeps : (n b : ℕ) (p : Page) → Within n p → Keeps n (heard b p)
last-keeps n b p h = last-by n b p.place.left p h

not_ended-in : (n : ℕ) (blocks : List OpenBlock) (r : AllReported) → BlocksIn n blocks → ComplaintsIn n r.first.items
    → ComplaintsIn n (reporting.not_ended blocks r).first.items
not_ended-in n [] r are h = h
not_ended-in n (block ∷ blocks) r are h =
    not_ended-in n blocks (reporting.reported kinds.NotEnded block.name block.line r) (λ k d lt. are (suc k) d (omega arith))
    (reported-in n kinds.NotEnded block.name block.line r (are 0 block (omega arith)) h)

title-by : (n : ℕ) (begun titled : Bool) (p : Page) → (begun ≡ true → 1 ≤ p.place.begun) → Keeps n p
    → Keeps n (if begun && not titled then record p { reports = reporting.reported kinds.NoTitle (codes "TH") p.place.begun p.reports } else p)
title-by n true false p is h = record {
  begun_in = h.begun_in;
  blocks_in = h.blocks_in;
  complaints_in = reported-in n kinds.NoTitle (codes "TH") p.place.begun p.reports (record { first = is refl; last = h.begun_in }) h.complaints_in;
}
title-by n true true p is h = h
title-by n false titled p is h = h

begun-first : (k : ℕ) → nat_lt 0 k ≡ true → 1 ≤ k
begun-first k e = grind (arith, common_steps)

titled-keeps : (n : ℕ) (p : Page) → Keeps n p → Keeps n (titled_at_end p)
titled-keeps n p h = title-by n (nat_lt 0 p.place.begun) p.place.titled p (begun-first p.place.begun) h

closed-by : (n : ℕ) (t : Bool) (p : Page) → Keeps n p → ComplaintsIn n (if t then p else not_ended (titled_at_end p)).reports.first.items
closed-by n true p h = h.complaints_in
closed-by n false p h =
    let k : Keeps n (titled_at_end p) = titled-keeps n p h in
    not_ended-in n (titled_at_end p).blocks.items (titled_at_end p).reports k.blocks_in k.complaints_in

finished-in : (n : ℕ) (p : Page) → Within n p → ComplaintsIn n (finished p).reports.first.items
unfolding finished
finished-in n p h =
    let q : Page = heard (code "\n") p in
    closed-by n (q.place.left || not (is_empty q.until)) q (last-keeps n (code "\n") p h)

-- ---- the whole page

first-within : Within 1 (first_page 512 64 64)
first-within = (
  record { first = omega arith; last = omega arith },
  record {
    begun_in = omega arith;
    blocks_in = All-nil (λ (x : OpenBlock). IsIn 1 x.line);
    complaints_in = All-nil (λ (x : Complaint). IsIn 1 x.line);
  },
)

pub have-lines : ComplaintsHaveLines
have-lines page =
    finished-in (lines_in page) (all_heard page (first_page 512 64 64)) (all_heard-keeps page 1 (first_page 512 64 64) first-within)
