-- Lines without escapes are heard as they come, and what goes out of them is what they say.
use Rattle.std.proofs.Common.{◌≡◌, ℕ, zero, suc, ◌==◌, List, [], ◌∷◌, ◌++◌, length, Bool, true, false, not, ◌&&◌, nat_lt, if◌then◌else◌, refl, sym, ◌∙◌, ap, subst, append_assoc, arith}
use Rattle.std.proofs.lemmas.Bool.Decides.{nat_tests}
use Rattle.std.specs.Prelude.{codes}
use Prim.Native.Char.{code}
use Rattle.mdoc_layout.specs.declared.acts.Stack.{Stack}
use Rattle.mdoc_layout.specs.declared.acts.Stack.TheVariants.{Stay, Opens, Closes, Empties}
use Rattle.mdoc_layout.specs.declared.page.Block.{Block}
use Rattle.mdoc_converter.specs.declared.strings.Next.TheVariants.{Waits, Breaks}
use Rattle.mdoc_converter.specs.declared.pending.Pending.{Pending}
use Rattle.mdoc_converter.specs.declared.pending.Pending.TheVariants.{Nothing, Backslash, Star}
use Rattle.mdoc_converter.specs.Reading.{State, Emitted, emitted, then_emitted, refused, stacked, once, heard_in, heard, with_pending, heard_raw, read_by, read, fed}
use Rattle.mdoc_converter.specs.Saying.{parts_at, parts_of, text_of}
use Rattle.mdoc_converter.specs.Scanning.{offer}
use Rattle.mdoc_converter.specs.Strings.{offered_by, takes_strings}
use Rattle.mdoc_converter.specs.WrittenLines.{begins_star, names_no_string}
use Rattle.mdoc_converter.proofs.Reading.{preceded-none}
use Rattle.mdoc_converter.proofs.Saying.{heard-text, text_of-append}

-- ---- tests of each byte

pub and_left : (a b : Bool) → (a && b) ≡ true → a ≡ true
and_left true b h = refl
and_left false b h = absurd (let no : false ≡ true = h in cc)

pub and_right : (a b : Bool) → (a && b) ≡ true → b ≡ true
and_right true b h = h
and_right false b h = absurd (let no : false ≡ true = h in cc)

pub both : (a b : Bool) → a ≡ true → b ≡ true → (a && b) ≡ true
both a b p q = ap (λ (t : Bool). t && b) p ∙ q

pub is_not : (t : Bool) → not t ≡ true → t ≡ false
is_not true h = absurd (let no : false ≡ true = h in cc)
is_not false h = refl

-- ---- one byte

read_by_pending : Pending → ℕ → State → Emitted
read_by_pending pending b s = read_by (offered_by pending b (takes_strings s.page.scan)) b s

no_escape : (t : Bool) (b : ℕ) (s : State) → (b == code "\\") ≡ false → read_by (if t && (b == code "\\") then Waits Backslash else Breaks) b s ≡ read_by Breaks b s
no_escape true b s f = ap (λ (u : Bool). read_by (if u then Waits Backslash else Breaks) b s) f
no_escape false b s f = refl

heard_none : (b : ℕ) (s : State) → s.pending ≡ Nothing → read_by Breaks b s ≡ heard b s
heard_none b s e =
    ap (λ (x : Pending). then_emitted (heard_raw x (with_pending Nothing s)) (λ t. heard b t)) e
    ∙ preceded-none (heard b (with_pending Nothing s)) ∙ ap (λ (x : Pending). heard b (with_pending x s)) (sym e)

read-plain : (b : ℕ) (s : State) → s.pending ≡ Nothing → (b == code "\\") ≡ false → read b s ≡ heard b s
unfolding read read_by_pending
read-plain b s e f =
    ap (λ (x : Pending). read_by_pending x b s) e ∙ no_escape (takes_strings s.page.scan) b s f ∙ heard_none b s e

-- ---- nothing is pending then

opened-pending : (t : Bool) (outer : Block) (s : State)
    → (if t then record s { blocks = s.blocks ++ outer ∷ [] } else record s { page = refused outer s.page }).pending ≡ s.pending
opened-pending true outer s = refl
opened-pending false outer s = refl

stacked-pending : (stack : Stack) (outer : Block) (s : State) → (stacked stack outer s).pending ≡ s.pending
stacked-pending Stay outer s = refl
stacked-pending Opens outer s = opened-pending (nat_lt (length s.blocks) 64) outer s
stacked-pending Closes outer s = refl
stacked-pending Empties outer s = refl

once-pending : (b : ℕ) (s : State) → (once b s).state.pending ≡ s.pending
unfolding once
once-pending b s = stacked-pending (offer b s.page).seen.stack s.page.block _

rest-pending : (t : Bool) (s : State) (u : Emitted) (x : Pending) → s.pending ≡ x → u.state.pending ≡ x → (if t then emitted s [] 0 else u).state.pending ≡ x
rest-pending true s u x p q = p
rest-pending false s u x p q = q

in-pending : (n b : ℕ) (s : State) → (heard_in n b s).state.pending ≡ s.pending
in-pending zero b s = refl
in-pending (suc n) b s =
    let o = once b s in
    rest-pending o.takes o.state (heard_in n b o.state) s.pending (once-pending b s) (in-pending n b o.state ∙ once-pending b s)

pub heard-pending : (b : ℕ) (s : State) → (heard b s).state.pending ≡ s.pending
unfolding heard
heard-pending b s = in-pending 16 b s

pub same_byte : (b n : ℕ) → (b == n) ≡ true → n ≡ b
same_byte b n e = grind (arith, nat_tests)

-- ---- a backslash waits for what comes after it

waits : (t : Bool) (s : State) → takes_strings s.page.scan ≡ t → s.pending ≡ Nothing
    → read (code "\\") s ≡ (if t then emitted (with_pending Backslash s) [] 0 else heard (code "\\") s)
unfolding read read_by_pending
waits true s e f =
    ap (λ (x : Pending). read_by_pending x (code "\\") s) f
    ∙ ap (λ (t : Bool). read_by (if t && true then Waits Backslash else Breaks) (code "\\") s) e
waits false s e f =
    ap (λ (x : Pending). read_by_pending x (code "\\") s) f
    ∙ ap (λ (t : Bool). read_by (if t && true then Waits Backslash else Breaks) (code "\\") s) e
    ∙ heard_none (code "\\") s f

-- what is heard of a backslash and the byte after it
after_slash : ℕ → State → Emitted
after_slash b s = then_emitted (heard (code "\\") s) (λ t. heard b t)

read-slash : (b : ℕ) (s : State) → s.pending ≡ Backslash → (b == code "*") ≡ false → read b s ≡ after_slash b (with_pending Nothing s)
unfolding read read_by_pending after_slash
read-slash b s e f =
    ap (λ (x : Pending). read_by_pending x b s) e
    ∙ ap (λ (t : Bool). read_by (if t then Waits Star else Breaks) b s) f
    ∙ ap (λ (x : Pending). then_emitted (heard_raw x (with_pending Nothing s)) (λ t. heard b t)) e

slash-text : (b : ℕ) (bs : List ℕ) (s : State) → s.pending ≡ Backslash → (b == code "*") ≡ false
    → ((t : State) → t.pending ≡ Nothing → (fed t bs).bytes ≡ text_of (parts_of t bs))
    → (fed s (b ∷ bs)).bytes ≡ text_of (parts_of (with_pending Nothing s) (code "\\" ∷ b ∷ bs))
unfolding after_slash
slash-text b bs s e f rest =
    let slash = code "\\" in
    let s0 = with_pending Nothing s in
    let t = (heard slash s0).state in
    let u = (heard b t).state in
    let none : u.pending ≡ Nothing = heard-pending b t ∙ heard-pending slash s0 in
    ap (λ (v : Emitted). (then_emitted v (λ w. fed w bs)).bytes) (read-slash b s e f)
    ∙ append_assoc (heard slash s0).bytes (heard b t).bytes (fed u bs).bytes
    ∙ ap (λ (xs : List ℕ). xs ++ ((heard b t).bytes ++ (fed u bs).bytes)) (heard-text slash s0)
    ∙ ap (λ (xs : List ℕ). text_of (parts_at slash s0) ++ (xs ++ (fed u bs).bytes)) (heard-text b t)
    ∙ ap (λ (xs : List ℕ). text_of (parts_at slash s0) ++ (text_of (parts_at b t) ++ xs)) (rest u none)
    ∙ ap (λ (xs : List ℕ). text_of (parts_at slash s0) ++ xs) (sym (text_of-append (parts_at b t) (parts_of u bs)))
    ∙ sym (text_of-append (parts_at slash s0) (parts_at b t ++ parts_of u bs))

first-text : (b : ℕ) (bs : List ℕ) (s : State) → s.pending ≡ Nothing → read b s ≡ heard b s
    → ((t : State) → t.pending ≡ Nothing → (fed t bs).bytes ≡ text_of (parts_of t bs))
    → (fed s (b ∷ bs)).bytes ≡ text_of (parts_of s (b ∷ bs))
first-text b bs s e first rest =
    let next = (heard b s).state in
    ap (λ (t : Emitted). (then_emitted t (λ u. fed u bs)).bytes) first
    ∙ ap (λ (xs : List ℕ). xs ++ (fed next bs).bytes) (heard-text b s)
    ∙ ap (λ (xs : List ℕ). text_of (parts_at b s) ++ xs) (rest next (heard-pending b s ∙ e))
    ∙ sym (text_of-append (parts_at b s) (parts_of next bs))

-- bytes up to the end of a line, after nothing and after a backslash
record Heard (bs : List ℕ) : Type 0 where
  none : (s : State) → s.pending ≡ Nothing → (fed s (bs ++ codes "\n")).bytes ≡ text_of (parts_of s (bs ++ codes "\n"))
  slash : (s : State) → s.pending ≡ Backslash → begins_star bs ≡ false
      → (fed s (bs ++ codes "\n")).bytes ≡ text_of (parts_of (with_pending Nothing s) (code "\\" ∷ bs ++ codes "\n"))

not_both : (a b : Bool) → not (a && b) ≡ true → a ≡ true → b ≡ false
not_both true b h e = is_not b h
not_both false b h e = absurd (let no : false ≡ true = e in cc)

slash_first : (t : Bool) (bs : List ℕ) (s : State) → takes_strings s.page.scan ≡ t → s.pending ≡ Nothing → begins_star bs ≡ false → Heard bs
    → (fed s (code "\\" ∷ bs ++ codes "\n")).bytes ≡ text_of (parts_of s (code "\\" ∷ bs ++ codes "\n"))
slash_first true bs s e f star rest =
    ap (λ (t : Emitted). (then_emitted t (λ u. fed u (bs ++ codes "\n"))).bytes) (waits true s e f)
    ∙ rest.slash (with_pending Backslash s) refl star
    ∙ ap (λ (x : Pending). text_of (parts_of (with_pending x s) (code "\\" ∷ bs ++ codes "\n"))) (sym f)
slash_first false bs s e f star rest = first-text (code "\\") (bs ++ codes "\n") s f (waits false s e f) rest.none

byte_first : (t : Bool) (b : ℕ) (bs : List ℕ) (s : State) → (b == code "\\") ≡ t → s.pending ≡ Nothing
    → names_no_string (b ∷ bs) ≡ true → Heard bs → (fed s (b ∷ bs ++ codes "\n")).bytes ≡ text_of (parts_of s (b ∷ bs ++ codes "\n"))
byte_first true b bs s e f h rest =
    let star = not_both (b == code "\\") (begins_star bs) (and_left (not ((b == code "\\") && begins_star bs)) (names_no_string bs) h) e in
    subst (λ (k : ℕ). (fed s (k ∷ bs ++ codes "\n")).bytes ≡ text_of (parts_of s (k ∷ bs ++ codes "\n"))) (same_byte b (code "\\") e)
    (slash_first (takes_strings s.page.scan) bs s refl f star rest)
byte_first false b bs s e f h rest = first-text b (bs ++ codes "\n") s f (read-plain b s f e) rest.none

heard_all : (bs : List ℕ) → names_no_string bs ≡ true → Heard bs
heard_all [] h = record {
  none = λ s e. first-text (code "\n") [] s e (read-plain (code "\n") s e refl) (λ t f. refl);
  slash = λ s e star. slash-text (code "\n") [] s e refl (λ t f. refl);
}
heard_all (b ∷ bs) h =
    let later = heard_all bs (and_right (not ((b == code "\\") && begins_star bs)) (names_no_string bs) h) in
    record {
      none = λ s e. byte_first (b == code "\\") b bs s refl e h later;
      slash = λ s e star. slash-text b (bs ++ codes "\n") s e star later.none;
    }

pub line-text : (bs : List ℕ) (s : State) → s.pending ≡ Nothing → names_no_string bs ≡ true
    → (fed s (bs ++ codes "\n")).bytes ≡ text_of (parts_of s (bs ++ codes "\n"))
line-text bs s e h = (heard_all bs h).none s e
