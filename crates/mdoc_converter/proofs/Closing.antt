-- At the end of a line its enclosures are closed, the last first.
use Rattle.std.proofs.Common.{◌≡◌, ℕ, ◌+◌, ◌-◌, List, [], ◌∷◌, ◌++◌, length, take, Bool, true, false, not, if◌then◌else◌, refl, sym, ◌∙◌, ap, append_assoc, append-nil, length-append, arith}
use Rattle.std.proofs.lemmas.Bool.Decides.{nat_tests}
use Rattle.std.proofs.lemmas.List.{length-reverse, reverse-append, reverse-reverse}
use Rattle.std.proofs.Math.Seq.{get_or-append_seam, take-append_seam}
use Rattle.std.specs.Prelude.{reverse, slice_index}
use Rattle.mdoc_layout.specs.declared.acts.Act.TheVariants as acts
use Rattle.mdoc_layout.specs.declared.acts.Text.TheVariants as texts
use Rattle.mdoc_layout.specs.declared.page.Page.{Page}
use Rattle.mdoc_layout.specs.declared.page.Scan.{Scan}
use Rattle.mdoc_layout.specs.declared.page.Scan.TheVariants as scans
use Rattle.mdoc_words.specs.Calls.{is_pending, leaves}
use Rattle.mdoc_words.specs.Rules.{is_none}
use Rattle.mdoc_layout.specs.Laying.{Laid, laid, then_laid}
use Rattle.mdoc_layout.specs.LayingOut.{lay_out}
use Rattle.mdoc_converter.specs.Lines.{closes_last, ends_joined, line_ends}
use Rattle.mdoc_converter.specs.Reading.{State, Emitted, preceded, said, once, once_seen, heard_in}
use Rattle.mdoc_converter.specs.Scanning.{offer, offer_at, offer_whole, offer_whole_at}
use Rattle.mdoc_layout.specs.Seeing.{Offered, offered, left, two}
use Rattle.mdoc_converter.specs.WordLaws.{close, close_all, with_closers, LastIsClosedFirst}
use Rattle.mdoc_converter.proofs.Hearing.{heard_left}
use Rattle.mdoc_converter.proofs.Reading.{emitted-eq, preceded-none}

-- ---- the last one

one_less : (xs : List ℕ) (c : ℕ) → length (xs ++ c ∷ []) - 1 ≡ length xs
one_less xs c = rw (length-append xs (c ∷ [])) (omega arith)

last_of : (xs : List ℕ) (c : ℕ) → slice_index (xs ++ c ∷ []) (length (xs ++ c ∷ []) - 1) ≡ c
last_of xs c = ap (λ (k : ℕ). slice_index (xs ++ c ∷ []) k) (one_less xs c) ∙ get_or-append_seam xs c [] 0

rest_of : (xs : List ℕ) (c : ℕ) → take (length (xs ++ c ∷ []) - 1) (xs ++ c ∷ []) ≡ xs
rest_of xs c = ap (λ (k : ℕ). take k (xs ++ c ∷ [])) (one_less xs c) ∙ take-append_seam xs (c ∷ [])

closing : List ℕ → ℕ → Page → Offered
closing cs c p =
    offered (with_closers cs p) (if ends_joined p then two (acts.Close (texts.Closing c)) acts.Join else left (acts.Close (texts.Closing c)))

closes_is : (p : Page) → closes_last p ≡ closing (take (length p.closers - 1) p.closers) (slice_index p.closers (length p.closers - 1)) p
unfolding closes_last closing
closes_is p = refl

closes_seam : (xs : List ℕ) (c : ℕ) (p : Page) → p.closers ≡ xs ++ c ∷ [] → closes_last p ≡ closing xs c p
closes_seam xs c p e =
    closes_is p ∙ ap (λ (cs : List ℕ). closing (take (length cs - 1) cs) (slice_index cs (length cs - 1)) p) e
    ∙ ap (λ (cs : List ℕ). closing cs (slice_index (xs ++ c ∷ []) (length (xs ++ c ∷ []) - 1)) p) (rest_of xs c)
    ∙ ap (λ (k : ℕ). closing xs k p) (last_of xs c)

not_none : (xs : List ℕ) (c : ℕ) → is_none (xs ++ c ∷ []) ≡ false
not_none xs c = rw (length-append xs (c ∷ [])) (grind (arith, nat_tests))

ends_offered : (xs : List ℕ) (b c : ℕ) (p : Page) → p.scan ≡ scans.Ends → is_pending p ≡ false → p.closers ≡ xs ++ c ∷ [] → offer b p ≡ closing xs c p
unfolding offer offer_whole
ends_offered xs b c p scan pending e =
    ap (λ (sc : Scan). offer_at sc b p) scan ∙ ap (λ (sc : Scan). offer_whole_at sc b p) scan
    ∙ ap (λ (t : Bool). if t then leaves p else if not (is_none p.closers) then closes_last p else if not (is_none p.marks) then offered p (left acts.Marks) else line_ends p) pending
    ∙ ap (λ (t : Bool). if not t then closes_last p else if not (is_none p.marks) then offered p (left acts.Marks) else line_ends p) (ap is_none e ∙ not_none xs c)
    ∙ closes_seam xs c p e

-- ---- what is said of it

said_by : Bool → List ℕ → ℕ → Page → Laid
said_by t cs c p =
    let l = lay_out (acts.Close (texts.Closing c)) p in
    let m = if t then then_laid l (λ q. lay_out acts.Join q) else l in laid (with_closers cs m.page) m.bytes

closed_page : (t : Bool) (cs : List ℕ) (c : ℕ) (p : Page)
    → (said (if t then two (acts.Close (texts.Closing c)) acts.Join else left (acts.Close (texts.Closing c))) (with_closers cs p)).page ≡ (said_by t cs c p).page
unfolding said lay_out said_by
closed_page true cs c p = refl
closed_page false cs c p = refl

closed_bytes : (t : Bool) (cs : List ℕ) (c : ℕ) (p : Page)
    → (said (if t then two (acts.Close (texts.Closing c)) acts.Join else left (acts.Close (texts.Closing c))) (with_closers cs p)).bytes ≡ (said_by t cs c p).bytes
unfolding said lay_out said_by
closed_bytes true cs c p = append-nil _
closed_bytes false cs c p = append-nil _ ∙ append-nil _

-- the state once it was closed
shut : List ℕ → ℕ → State → State
shut cs c s = record s { page = with_closers cs (close c s.page).page }

stays : (t : Bool) (cs : List ℕ) (c : ℕ) (s : State)
    → (once_seen (offered (with_closers cs s.page) (if t then two (acts.Close (texts.Closing c)) acts.Join else left (acts.Close (texts.Closing c)))) s.page.block s).state
    ≡ record s { page = (said (if t then two (acts.Close (texts.Closing c)) acts.Join else left (acts.Close (texts.Closing c))) (with_closers cs s.page)).page }
stays true cs c s = refl
stays false cs c s = refl

left_by : (t : Bool) (c : ℕ) → (if t then two (acts.Close (texts.Closing c)) acts.Join else left (acts.Close (texts.Closing c))).takes ≡ false
left_by true c = refl
left_by false c = refl

closed_state : (cs : List ℕ) (b c : ℕ) (s : State) → offer b s.page ≡ closing cs c s.page → (once b s).state ≡ shut cs c s
unfolding once closing shut said_by
closed_state cs b c s e =
    ap (λ (m : Offered). (once_seen m s.page.block s).state) e ∙ stays (ends_joined s.page) cs c s
    ∙ ap (λ (p : Page). record s { page = p }) (closed_page (ends_joined s.page) cs c s.page)

closed_out : (cs : List ℕ) (b c : ℕ) (s : State) → offer b s.page ≡ closing cs c s.page → (once b s).bytes ≡ (close c s.page).bytes
unfolding once closing said_by
closed_out cs b c s e = ap (λ (m : Offered). (said m.seen m.page).bytes) e ∙ closed_bytes (ends_joined s.page) cs c s.page

closed_left : (cs : List ℕ) (b c : ℕ) (s : State) → offer b s.page ≡ closing cs c s.page → (once b s).takes ≡ false
unfolding once closing
closed_left cs b c s e = ap (λ (m : Offered). m.seen.takes) e ∙ left_by (ends_joined s.page) c

-- ---- all of them

reverse_cons : (c : ℕ) (cs : List ℕ) → reverse (c ∷ cs) ≡ reverse cs ++ c ∷ []
reverse_cons c cs = reverse-append (c ∷ []) cs

shut_scan : (t : Bool) (c : ℕ) (p : Page) → (if t then then_laid (lay_out (acts.Close (texts.Closing c)) p) (λ q. lay_out acts.Join q) else lay_out (acts.Close (texts.Closing c)) p).page.scan ≡ p.scan
unfolding lay_out
shut_scan true c p = refl
shut_scan false c p = refl

shut_pending : (t : Bool) (c : ℕ) (cs : List ℕ) (p : Page)
    → is_pending (with_closers cs (if t then then_laid (lay_out (acts.Close (texts.Closing c)) p) (λ q. lay_out acts.Join q) else lay_out (acts.Close (texts.Closing c)) p).page) ≡ is_pending p
unfolding lay_out
shut_pending true c cs p = refl
shut_pending false c cs p = refl

-- closers of the line make no difference to what closes one
close_free : (t : Bool) (c : ℕ) (cs : List ℕ) (p : Page)
    → (if t then then_laid (lay_out (acts.Close (texts.Closing c)) (with_closers cs p)) (λ q. lay_out acts.Join q) else lay_out (acts.Close (texts.Closing c)) (with_closers cs p))
    ≡ (let l = (if t then then_laid (lay_out (acts.Close (texts.Closing c)) p) (λ q. lay_out acts.Join q) else lay_out (acts.Close (texts.Closing c)) p) in laid (with_closers cs l.page) l.bytes)
unfolding lay_out
close_free true c cs p = refl
close_free false c cs p = refl

all_free : (ds cs : List ℕ) (p : Page) → close_all ds (with_closers cs p) ≡ laid (with_closers cs (close_all ds p).page) (close_all ds p).bytes
all_free [] cs p = refl
all_free (d ∷ ds) cs p =
    ap (λ (l : Laid). then_laid l (λ q. close_all ds q)) (close_free (ends_joined p) d cs p)
    ∙ ap (λ (l : Laid). laid l.page ((close d p).bytes ++ l.bytes)) (all_free ds cs (close d p).page)

none_closed : (p : Page) → p.closers ≡ [] → p ≡ with_closers [] p
none_closed p e = ap (λ (cs : List ℕ). with_closers cs p) e

regrouped : (xs ys : List ℕ) (j k : ℕ) (u : Emitted) → 1 + j ≡ k → preceded xs 1 (preceded ys j u) ≡ preceded (xs ++ ys) k u
regrouped xs ys j k u e =
    let all : 1 + (j + u.steps) ≡ k + u.steps = omega arith in
    emitted-eq _ _ _ _ _ _ refl (sym (append_assoc xs ys u.bytes)) all

closed_from : (ds : List ℕ) (n b : ℕ) (s : State) → s.page.scan ≡ scans.Ends → is_pending s.page ≡ false → s.page.closers ≡ reverse ds
    → heard_in (n + length ds) b s ≡ preceded (close_all ds s.page).bytes (length ds) (heard_in n b (record s { page = with_closers [] (close_all ds s.page).page }))
unfolding shut
closed_from [] n b s scan pending e =
    let none : n + 0 ≡ n = omega arith in
    ap (λ (k : ℕ). heard_in k b s) none
    ∙ ap (λ (p : Page). heard_in n b (record s { page = p })) (none_closed s.page e)
    ∙ sym (preceded-none (heard_in n b (record s { page = with_closers [] s.page })))
closed_from (d ∷ ds) n b s scan pending e =
    let xs = reverse ds in
    let here = ends_offered xs b d s.page scan pending (e ∙ reverse_cons d ds) in
    let t = shut xs d s in
    let l = close d s.page in
    let then_scan = shut_scan (ends_joined s.page) d s.page ∙ scan in
    let then_pending = shut_pending (ends_joined s.page) d xs s.page ∙ pending in
    let k = n + length (d ∷ ds) in
    let less : k - 1 ≡ n + length ds = omega arith in
    heard_left k b s (omega arith) (closed_left xs b d s here)
    ∙ ap (λ (ys : List ℕ). preceded ys 1 (heard_in (k - 1) b (once b s).state)) (closed_out xs b d s here)
    ∙ ap (λ (u : State). preceded l.bytes 1 (heard_in (k - 1) b u)) (closed_state xs b d s here)
    ∙ ap (λ (j : ℕ). preceded l.bytes 1 (heard_in j b t)) less
    ∙ ap (λ (u : Emitted). preceded l.bytes 1 u) (closed_from ds n b t then_scan then_pending refl)
    ∙ ap (λ (m : Laid). preceded l.bytes 1 (preceded m.bytes (length ds) (heard_in n b (record s { page = with_closers [] m.page })))) (all_free ds xs l.page)
    ∙ regrouped l.bytes (close_all ds l.page).bytes (length ds) (length (d ∷ ds)) (heard_in n b (record s { page = with_closers [] (close_all ds l.page).page })) (omega arith)

pub last_is_closed_first : LastIsClosedFirst
last_is_closed_first n b s scan pending =
    let cs = s.page.closers in
    ap (λ (k : ℕ). heard_in (n + k) b s) (sym (length-reverse cs))
    ∙ closed_from (reverse cs) n b s scan pending (sym (reverse-reverse cs))
    ∙ ap (λ (k : ℕ). preceded (close_all (reverse cs) s.page).bytes k (heard_in n b (record s { page = with_closers [] (close_all (reverse cs) s.page).page }))) (length-reverse cs)
