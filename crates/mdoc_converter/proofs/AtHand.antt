-- Bytes that pass at once.
use Rattle.std.proofs.Common.{◌≡◌, ℕ, suc, ◌+◌, ◌≤◌, List, [], ◌∷◌, length, take, Bool, true, false, not, ◌==◌, nat_lt, if◌then◌else◌, None, refl, sym, ◌∙◌, ap, subst, arith}
use Prim.Native.Char.{code}
use Rattle.mdoc_layout.specs.declared.page.Prefix.{Prefix}
use Rattle.mdoc_layout.specs.declared.page.Prefix.TheVariants as prefixes
use Rattle.mdoc_layout.specs.declared.page.Scan.{Scan}
use Rattle.mdoc_layout.specs.declared.page.Scan.TheVariants as scans
use Rattle.mdoc_converter.specs.declared.pending.Pending.{Pending}
use Rattle.mdoc_converter.specs.declared.pending.Pending.TheVariants.{Nothing}
use Rattle.mdoc_layout.specs.declared.page.Block.{Block}
use Rattle.mdoc_converter.specs.declared.reader.Reader.{Reader}
use Rattle.mdoc_converter.specs.AtHand.{before_newline, passing, passing_by, passing_in, Passes}
use Rattle.mdoc_words.specs.Rules.{with_scan}
use Rattle.mdoc_layout.specs.LayingOut.{lay_out}
use Rattle.mdoc_converter.specs.Reading.{State, Emitted, state, emitted, preceded, then_emitted, said, once, heard, read, fed}
use Rattle.mdoc_converter.specs.Scanning.{prefix_then, is_blank, offer, offer_whole, passes_to}
use Rattle.mdoc_converter.specs.WrittenLines.{each, is_text}
use Rattle.mdoc_converter.proofs.Escapes.{and_left, and_right, both, is_not}
use Rattle.mdoc_converter.proofs.Unchanged.{at, read-is, read_with, scan_by}

-- ---- where each of some bytes passes, all do

one-more : (b : ℕ) (bs : List ℕ) → 1 + length bs ≡ length (b ∷ bs)
one-more b bs = omega arith

fed-passing : (test : ℕ → Bool) (s : State) → ((b : ℕ) → test b ≡ true → read b s ≡ emitted s (b ∷ []) 1) → (bs : List ℕ)
    → each test bs ≡ true → fed s bs ≡ emitted s bs (length bs)
fed-passing test s step [] h = refl
fed-passing test s step (b ∷ bs) h =
    ap (λ (t : Emitted). then_emitted t (λ u. fed u bs)) (step b (and_left (test b) (each test bs) h))
    ∙ ap (preceded (b ∷ []) 1) (fed-passing test s step bs (and_right (test b) (each test bs) h))
    ∙ ap (emitted s (b ∷ bs)) (one-more b bs)

any : ℕ → Bool
any b = true

each_any : (bs : List ℕ) → each any bs ≡ true
unfolding any
each_any [] = refl
each_any (b ∷ bs) = each_any bs

at-self : (scan : Scan) (s : State) → s.page.scan ≡ scan → s.pending ≡ Nothing → at scan s ≡ s
unfolding at
at-self scan s e f =
    ap (λ (x : Scan). record s { page = with_scan x s.page; pending = Nothing }) (sym e)
    ∙ ap (λ (x : Pending). record s { pending = x }) (sym f)

-- ---- after the first lines

passes_read : (b : ℕ) (s : State) → read b (at scans.Passes s) ≡ emitted (at scans.Passes s) (b ∷ []) 1
unfolding at read heard once said offer offer_whole lay_out
passes_read b s = refl

all-pass : (s : State) (bs : List ℕ) → s.page.scan ≡ scans.Passes → s.pending ≡ Nothing → fed s bs ≡ emitted s bs (length bs)
all-pass s bs e f =
    let P : State → Type 0 = λ u. fed u bs ≡ emitted u bs (length bs) in
    subst P (at-self scans.Passes s e f)
    (fed-passing any (at scans.Passes s) (λ b h. passes_read b s) bs (each_any bs))

-- ---- in one of the first lines

one-suc : (n : ℕ) → 1 + n ≡ suc n
one-suc n = omega arith

before-text : (t : Bool) (b : ℕ) (bs : List ℕ) → (b == code "\n") ≡ t → each is_text (take (before_newline bs) bs) ≡ true
    → each is_text (take (if t then 0 else 1 + before_newline bs) (b ∷ bs)) ≡ true
before-text true b bs e h = refl
before-text false b bs e h =
    subst (λ (n : ℕ). each is_text (take n (b ∷ bs)) ≡ true) (sym (one-suc (before_newline bs)))
    (both (is_text b) (each is_text (take (before_newline bs) bs)) (ap not e) h)

text-before : (bs : List ℕ) → each is_text (take (before_newline bs) bs) ≡ true
text-before [] = refl
text-before (b ∷ bs) = before-text (b == code "\n") b bs refl (text-before bs)

stays : (prefix : Prefix) (lines b : ℕ) → (b == code "\n") ≡ false → passes_to prefix lines b ≡ scans.Asleep (prefix_then prefix b) lines
unfolding scan_by
stays prefix lines b e =
    ap (λ (t : Bool). scan_by (not t) (is_blank prefix) (nat_lt lines 63) (prefix_then prefix b) lines) e

other_read : (lines b : ℕ) (s : State) → read_with None prefixes.Other lines b s ≡ emitted (at (passes_to prefixes.Other lines b) s) (b ∷ []) 1
unfolding at said lay_out read_with
other_read lines b s = refl

comment_read : (lines b : ℕ) (s : State) → read_with None prefixes.Comment lines b s ≡ emitted (at (passes_to prefixes.Comment lines b) s) (b ∷ []) 1
unfolding at said lay_out read_with
comment_read lines b s = refl

other-pass : (s : State) (lines : ℕ) (bs : List ℕ) → s.page.scan ≡ scans.Asleep prefixes.Other lines → s.pending ≡ Nothing
    → fed s (take (before_newline bs) bs) ≡ emitted s (take (before_newline bs) bs) (length (take (before_newline bs) bs))
other-pass s lines bs e f =
    let scan = scans.Asleep prefixes.Other lines in
    let text = take (before_newline bs) bs in
    let P : State → Type 0 = λ u. fed u text ≡ emitted u text (length text) in
    subst P (at-self scan s e f)
    (fed-passing is_text (at scan s) (λ b h. read-is prefixes.Other lines b s ∙ other_read lines b s
    ∙ ap (λ (x : Scan). emitted (at x s) (b ∷ []) 1) (stays prefixes.Other lines b (is_not (b == code "\n") h))) text (text-before bs))

comment-pass : (s : State) (lines : ℕ) (bs : List ℕ) → s.page.scan ≡ scans.Asleep prefixes.Comment lines → s.pending ≡ Nothing
    → fed s (take (before_newline bs) bs) ≡ emitted s (take (before_newline bs) bs) (length (take (before_newline bs) bs))
comment-pass s lines bs e f =
    let scan = scans.Asleep prefixes.Comment lines in
    let text = take (before_newline bs) bs in
    let P : State → Type 0 = λ u. fed u text ≡ emitted u text (length text) in
    subst P (at-self scan s e f)
    (fed-passing is_text (at scan s) (λ b h. read-is prefixes.Comment lines b s ∙ comment_read lines b s
    ∙ ap (λ (x : Scan). emitted (at x s) (b ∷ []) 1) (stays prefixes.Comment lines b (is_not (b == code "\n") h))) text (text-before bs))

-- ---- by where the line is read

passes_in : (scan : Scan) (s : State) (bs : List ℕ) → s.page.scan ≡ scan → s.pending ≡ Nothing → Passes s (take (passing_in scan bs) bs)
passes_in scans.Passes s bs e f = all-pass s (take (length bs) bs) e f
passes_in (scans.Asleep prefixes.Other lines) s bs e f = other-pass s lines bs e f
passes_in (scans.Asleep prefixes.Comment lines) s bs e f = comment-pass s lines bs e f
passes_in scan s bs e f = refl

passes_by : (pending : Pending) (s : State) (bs : List ℕ) → s.pending ≡ pending → Passes s (take (passing_by pending s.page.scan bs) bs)
passes_by Nothing s bs f = passes_in s.page.scan s bs refl f
passes_by pending s bs f = refl

-- the first of these
pub passes_at_hand : (r : Reader) (n : ℕ) (bytes : List ℕ) (around : List Block) → n ≡ passing r bytes → Passes (state r around) (take n bytes)
passes_at_hand r n bytes around e =
    let P : ℕ → Type 0 = λ k. Passes (state r around) (take k bytes) in
    subst P (sym e) (passes_by r.pending (state r around) bytes refl)
