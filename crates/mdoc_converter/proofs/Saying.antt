-- What goes out is what is said.
use Rattle.std.proofs.Common.{◌≡◌, ℕ, zero, suc, List, [], ◌∷◌, ◌++◌, Bool, true, false, if◌then◌else◌, refl, sym, ◌∙◌, ap, append_assoc, append-nil}
use Rattle.mdoc_layout.specs.declared.acts.Act.{Act}
use Rattle.mdoc_layout.specs.declared.acts.Act.TheVariants as acts
use Rattle.mdoc_layout.specs.declared.page.Page.{Page}
use Rattle.mdoc_layout.specs.declared.seen.Seen.{Seen}
use Rattle.mdoc_layout.specs.Laying.{before_hyphen, first_of, gap, word_end}
use Rattle.mdoc_layout.specs.LayingOut.{lay_out}
use Rattle.mdoc_converter.specs.Reading.{State, Emitted, emitted, said, once, heard_in, heard}
use Rattle.mdoc_converter.specs.Scanning.{offer}
use Rattle.mdoc_converter.specs.Saying.{Part, part_of, parts_seen, parts_in, parts_at, text_of, words_of}
use Rattle.mdoc_layout.specs.Texts.{font_end}

-- ---- parts in a row

pub text_of-append : (xs ys : List Part) → text_of (xs ++ ys) ≡ text_of xs ++ text_of ys
text_of-append [] ys = refl
text_of-append (x ∷ xs) ys =
    ap (λ (zs : List ℕ). (x.before ++ x.word ++ x.following) ++ zs) (text_of-append xs ys)
    ∙ sym (append_assoc (x.before ++ x.word ++ x.following) (text_of xs) (text_of ys))

pub words_of-append : (xs ys : List Part) → words_of (xs ++ ys) ≡ words_of xs ++ words_of ys
words_of-append [] ys = refl
words_of-append (x ∷ xs) ys =
    ap (λ (zs : List ℕ). x.word ++ zs) (words_of-append xs ys)
    ∙ sym (append_assoc x.word (words_of xs) (words_of ys))

-- ---- one act

only_before : (xs : List ℕ) → xs ≡ xs ++ [] ++ []
only_before xs = sym (append-nil (xs ++ []) ∙ append-nil xs)

pub part-text : (act : Act) (p : Page) → (lay_out act p).bytes ≡ (part_of act p).before ++ (part_of act p).word ++ (part_of act p).following
unfolding lay_out
part-text (acts.Byte b) p = refl
part-text acts.Hyphen p = refl
part-text (acts.Begin b) p = sym (append-nil (gap p.lay.joined b p ++ b ∷ []))
part-text (acts.Word font) p = refl
part-text (acts.Joined font) p = refl
part-text acts.Flag p = refl
part-text acts.Release p = refl
part-text acts.More p = sym (append-nil (before_hyphen p.word ++ p.word))
part-text acts.LastMore p = append_assoc (before_hyphen p.word ++ p.word) (word_end p) (font_end p.lay.font)
part-text acts.Marks p = sym (append-nil (gap true (first_of p.marks) p ++ p.marks))
part-text act p = only_before (lay_out act p).bytes

-- ---- one step

seen-text : (seen : Seen) (p : Page) → (said seen p).bytes ≡ text_of (parts_seen seen p)
unfolding said
seen-text seen p =
    let q = (lay_out seen.first p).page in
    let r = (lay_out seen.second q).page in
    let a = part-text seen.first p in
    let b = part-text seen.second q in
    let c = part-text seen.third r in
    append_assoc (lay_out seen.first p).bytes (lay_out seen.second q).bytes (lay_out seen.third r).bytes
    ∙ ap (λ (xs : List ℕ). xs ++ ((lay_out seen.second q).bytes ++ (lay_out seen.third r).bytes)) a
    ∙ ap (λ (xs : List ℕ). ((part_of seen.first p).before ++ (part_of seen.first p).word ++ (part_of seen.first p).following) ++ (xs ++ (lay_out seen.third r).bytes)) b
    ∙ ap (λ (xs : List ℕ). ((part_of seen.first p).before ++ (part_of seen.first p).word ++ (part_of seen.first p).following) ++ (((part_of seen.second q).before ++ (part_of seen.second q).word ++ (part_of seen.second q).following) ++ xs)) (c ∙ sym (append-nil _))

once-text : (b : ℕ) (s : State) → (once b s).bytes ≡ text_of (parts_seen (offer b s.page).seen (offer b s.page).page)
unfolding once
once-text b s = seen-text (offer b s.page).seen (offer b s.page).page

once-takes : (b : ℕ) (s : State) → (once b s).takes ≡ (offer b s.page).seen.takes
unfolding once
once-takes b s = refl

rest-text : (t : Bool) (u : State) (v : Emitted) (xs : List Part) → v.bytes ≡ text_of xs
    → (if t then emitted u [] 0 else v).bytes ≡ text_of (if t then [] else xs)
rest-text true u v xs e = refl
rest-text false u v xs e = e

in-text : (n b : ℕ) (s : State) → (heard_in n b s).bytes ≡ text_of (parts_in n b s)
in-text zero b s = refl
in-text (suc n) b s =
    let o = once b s in
    let m = offer b s.page in
    ap (λ (xs : List ℕ). xs ++ (if o.takes then emitted o.state [] 0 else heard_in n b o.state).bytes) (once-text b s)
    ∙ ap (λ (xs : List ℕ). text_of (parts_seen m.seen m.page) ++ xs)
    (rest-text o.takes o.state (heard_in n b o.state) (parts_in n b o.state) (in-text n b o.state)
    ∙ ap (λ (t : Bool). text_of (if t then [] else parts_in n b o.state)) (once-takes b s))
    ∙ sym (text_of-append (parts_seen m.seen m.page) (if m.seen.takes then [] else parts_in n b o.state))

pub heard-text : (b : ℕ) (s : State) → (heard b s).bytes ≡ text_of (parts_at b s)
unfolding heard parts_at
heard-text b s = in-text 16 b s
