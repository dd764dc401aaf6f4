-- How often a byte is offered until it is taken, and what is said then.
use Rattle.std.proofs.Common.{◌≡◌, ℕ, suc, ◌+◌, ◌-◌, ◌≤◌, List, [], ◌++◌, if◌then◌else◌, refl, sym, ◌∙◌, ap, append_assoc, append-nil, arith}
use Rattle.mdoc_layout.specs.declared.acts.Act.{Act}
use Rattle.mdoc_layout.specs.declared.acts.Stack.{Stack}
use Rattle.mdoc_layout.specs.declared.page.Page.{Page}
use Rattle.mdoc_layout.specs.declared.page.Scan.{Scan}
use Rattle.mdoc_words.specs.Rules.{with_scan}
use Rattle.mdoc_converter.specs.Reading.{State, Emitted, emitted, preceded, said, once, once_seen, stacked, heard_in, heard}
use Rattle.mdoc_converter.specs.Saying.{parts_seen, parts_in, parts_at, words_of}
use Rattle.mdoc_converter.specs.Scanning.{offer}
use Rattle.mdoc_layout.specs.Seeing.{Offered, offered, three, and_taken, with_stack}
use Rattle.mdoc_converter.proofs.Saying.{words_of-append}

abbrev pub with_page : Page → State → State
with_page p s = record s { page = p }

-- so many steps lead from one state to another, and say these words
pub record Leads (b : ℕ) (s t : State) (k : ℕ) (xs : List ℕ) : Type 0 where
  pub words : (n : ℕ) → words_of (parts_in (n + k) b s) ≡ xs ++ words_of (parts_in n b t)
  pub state : (n : ℕ) → (heard_in (n + k) b s).state ≡ (heard_in n b t).state

-- the byte is taken in so many steps, or fewer
pub record Takes (b : ℕ) (s t : State) (k : ℕ) (xs : List ℕ) : Type 0 where
  pub words : (n : ℕ) → words_of (parts_in (n + k) b s) ≡ xs
  pub state : (n : ℕ) → (heard_in (n + k) b s).state ≡ t

more_first : (n j k : ℕ) → n + (j + k) ≡ n + k + j
more_first n j k = omega arith

pub then_leads : (b : ℕ) (s t u : State) (j k : ℕ) (xs ys : List ℕ) → Leads b s t j xs → Leads b t u k ys → Leads b s u (j + k) (xs ++ ys)
then_leads b s t u j k xs ys p q = record {
  words = λ n.
      ap (λ (i : ℕ). words_of (parts_in i b s)) (more_first n j k) ∙ p.words (n + k) ∙ ap (λ (zs : List ℕ). xs ++ zs) (q.words n)
      ∙ sym (append_assoc xs ys (words_of (parts_in n b u)));
  state = λ n. ap (λ (i : ℕ). (heard_in i b s).state) (more_first n j k) ∙ p.state (n + k) ∙ q.state n;
}

pub then_takes : (b : ℕ) (s t u : State) (j k : ℕ) (xs ys : List ℕ) → Leads b s t j xs → Takes b t u k ys → Takes b s u (j + k) (xs ++ ys)
then_takes b s t u j k xs ys p q = record {
  words = λ n.
      ap (λ (i : ℕ). words_of (parts_in i b s)) (more_first n j k) ∙ p.words (n + k) ∙ ap (λ (zs : List ℕ). xs ++ zs) (q.words n);
  state = λ n. ap (λ (i : ℕ). (heard_in i b s).state) (more_first n j k) ∙ p.state (n + k) ∙ q.state n;
}

-- ---- one step

one_more : (n : ℕ) → n + 1 ≡ suc n
one_more n = omega arith

emitted_once : ℕ → ℕ → Offered → State → Emitted
emitted_once n b m s =
    let o = once_seen m s.page.block s in preceded o.bytes 1 (if o.takes then emitted o.state [] 0 else heard_in n b o.state)

words_once : ℕ → ℕ → Offered → State → List ℕ
words_once n b m s =
    words_of (parts_seen m.seen m.page ++ (if m.seen.takes then [] else parts_in n b (once_seen m s.page.block s).state))

heard-once : (n b : ℕ) (s : State) → heard_in (suc n) b s ≡ emitted_once n b (offer b s.page) s
unfolding once emitted_once
heard-once n b s = refl

words-once : (n b : ℕ) (s : State) → words_of (parts_in (suc n) b s) ≡ words_once n b (offer b s.page) s
unfolding once words_once
words-once n b s = refl

after_left : (n b : ℕ) (s : State) (p : Page) (x y z : Act) → (emitted_once n b (offered p (three x y z)) s).state ≡ (heard_in n b (with_page (said (three x y z) p).page s)).state
unfolding emitted_once
after_left n b s p x y z = refl

words_left : (n b : ℕ) (s : State) (p : Page) (x y z : Act)
    → words_once n b (offered p (three x y z)) s ≡ words_of (parts_seen (three x y z) p) ++ words_of (parts_in n b (with_page (said (three x y z) p).page s))
unfolding words_once
words_left n b s p x y z = words_of-append (parts_seen (three x y z) p) (parts_in n b (record s { page = (said (three x y z) p).page }))

after_taken : (n b : ℕ) (s : State) (p : Page) (x y z : Act) → (emitted_once n b (offered p (and_taken (three x y z))) s).state ≡ with_page (said (three x y z) p).page s
unfolding emitted_once said
after_taken n b s p x y z = refl

words_taken : (n b : ℕ) (s : State) (p : Page) (x y z : Act)
    → words_once n b (offered p (and_taken (three x y z))) s ≡ words_of (parts_seen (three x y z) p)
unfolding words_once
words_taken n b s p x y z = ap words_of (append-nil (parts_seen (three x y z) p))

pub leads_by : (b : ℕ) (s : State) (p q : Page) (x y z : Act) (xs : List ℕ) → offer b s.page ≡ offered p (three x y z)
    → (said (three x y z) p).page ≡ q → words_of (parts_seen (three x y z) p) ≡ xs → Leads b s (with_page q s) 1 xs
leads_by b s p q x y z xs e f g = record {
  words = λ n.
      ap (λ (i : ℕ). words_of (parts_in i b s)) (one_more n) ∙ words-once n b s ∙ ap (λ (m : Offered). words_once n b m s) e
      ∙ words_left n b s p x y z ∙ ap (λ (r : Page). words_of (parts_seen (three x y z) p) ++ words_of (parts_in n b (with_page r s))) f
      ∙ ap (λ (zs : List ℕ). zs ++ words_of (parts_in n b (with_page q s))) g;
  state = λ n.
      ap (λ (i : ℕ). (heard_in i b s).state) (one_more n) ∙ ap (λ (t : Emitted). t.state) (heard-once n b s)
      ∙ ap (λ (m : Offered). (emitted_once n b m s).state) e ∙ after_left n b s p x y z
      ∙ ap (λ (r : Page). (heard_in n b (with_page r s)).state) f;
}

-- the same, where a block opens or closes
after_with : (n b : ℕ) (s : State) (p : Page) (st : Stack) (x y z : Act)
    → (emitted_once n b (offered p (with_stack st (three x y z))) s).state ≡ (heard_in n b (stacked st s.page.block (with_page (said (three x y z) p).page s))).state
unfolding emitted_once said
after_with n b s p st x y z = refl

words_with : (n b : ℕ) (s : State) (p : Page) (st : Stack) (x y z : Act)
    → words_once n b (offered p (with_stack st (three x y z))) s
    ≡ words_of (parts_seen (three x y z) p) ++ words_of (parts_in n b (stacked st s.page.block (with_page (said (three x y z) p).page s)))
unfolding words_once said
words_with n b s p st x y z = words_of-append (parts_seen (three x y z) p) (parts_in n b (stacked st s.page.block (record s { page = (said (three x y z) p).page })))

pub leads_with : (b : ℕ) (s : State) (p q : Page) (st : Stack) (x y z : Act) (xs : List ℕ) → offer b s.page ≡ offered p (with_stack st (three x y z))
    → (said (three x y z) p).page ≡ q → words_of (parts_seen (three x y z) p) ≡ xs → Leads b s (stacked st s.page.block (with_page q s)) 1 xs
leads_with b s p q st x y z xs e f g = record {
  words = λ n.
      ap (λ (i : ℕ). words_of (parts_in i b s)) (one_more n) ∙ words-once n b s ∙ ap (λ (m : Offered). words_once n b m s) e
      ∙ words_with n b s p st x y z
      ∙ ap (λ (r : Page). words_of (parts_seen (three x y z) p) ++ words_of (parts_in n b (stacked st s.page.block (with_page r s)))) f
      ∙ ap (λ (zs : List ℕ). zs ++ words_of (parts_in n b (stacked st s.page.block (with_page q s)))) g;
  state = λ n.
      ap (λ (i : ℕ). (heard_in i b s).state) (one_more n) ∙ ap (λ (t : Emitted). t.state) (heard-once n b s)
      ∙ ap (λ (m : Offered). (emitted_once n b m s).state) e ∙ after_with n b s p st x y z
      ∙ ap (λ (r : Page). (heard_in n b (stacked st s.page.block (with_page r s))).state) f;
}

pub takes_by : (b : ℕ) (s : State) (p q : Page) (x y z : Act) (xs : List ℕ) → offer b s.page ≡ offered p (and_taken (three x y z))
    → (said (three x y z) p).page ≡ q → words_of (parts_seen (three x y z) p) ≡ xs → Takes b s (with_page q s) 1 xs
takes_by b s p q x y z xs e f g = record {
  words = λ n.
      ap (λ (i : ℕ). words_of (parts_in i b s)) (one_more n) ∙ words-once n b s ∙ ap (λ (m : Offered). words_once n b m s) e
      ∙ words_taken n b s p x y z ∙ g;
  state = λ n.
      ap (λ (i : ℕ). (heard_in i b s).state) (one_more n) ∙ ap (λ (t : Emitted). t.state) (heard-once n b s)
      ∙ ap (λ (m : Offered). (emitted_once n b m s).state) e ∙ after_taken n b s p x y z ∙ ap (λ (r : Page). with_page r s) f;
}

-- ---- a byte is offered as where the line is read otherwise

one_of : (n k : ℕ) → 1 ≤ k → n + k ≡ suc (n + (k - 1))
one_of n k l = omega arith

state_by : (n b : ℕ) (s : State) (m : Offered) (scan : Scan)
    → (emitted_once n b m s).state ≡ (emitted_once n b m (with_page (with_scan scan s.page) s)).state
unfolding emitted_once
state_by n b s m scan = refl

words_by : (n b : ℕ) (s : State) (m : Offered) (scan : Scan) → words_once n b m s ≡ words_once n b m (with_page (with_scan scan s.page) s)
unfolding words_once
words_by n b s m scan = refl

pub takes_with : (b : ℕ) (s t : State) (scan : Scan) (k : ℕ) (xs : List ℕ) → offer b s.page ≡ offer b (with_scan scan s.page) → 1 ≤ k
    → Takes b (with_page (with_scan scan s.page) s) t k xs → Takes b s t k xs
takes_with b s t scan k xs e l p =
    let r = with_page (with_scan scan s.page) s in
    let m = offer b r.page in
    record {
      words = λ n.
          let i = n + (k - 1) in
          ap (λ (j : ℕ). words_of (parts_in j b s)) (one_of n k l) ∙ words-once i b s ∙ ap (λ (m : Offered). words_once i b m s) e
          ∙ words_by i b s m scan ∙ sym (words-once i b r) ∙ ap (λ (j : ℕ). words_of (parts_in j b r)) (sym (one_of n k l)) ∙ p.words n;
      state = λ n.
          let i = n + (k - 1) in
          ap (λ (j : ℕ). (heard_in j b s).state) (one_of n k l) ∙ ap (λ (t : Emitted). t.state) (heard-once i b s)
          ∙ ap (λ (m : Offered). (emitted_once i b m s).state) e ∙ state_by i b s m scan
          ∙ sym (ap (λ (t : Emitted). t.state) (heard-once i b r)) ∙ ap (λ (j : ℕ). (heard_in j b r).state) (sym (one_of n k l)) ∙ p.state n;
    }

-- ---- sixteen steps are enough

sixteen : (k : ℕ) → k ≤ 16 → 16 ≡ (16 - k) + k
sixteen k l = omega arith

pub takes-words : (b : ℕ) (s t : State) (k : ℕ) (xs : List ℕ) → k ≤ 16 → Takes b s t k xs → words_of (parts_at b s) ≡ xs
unfolding parts_at
takes-words b s t k xs l p = ap (λ (i : ℕ). words_of (parts_in i b s)) (sixteen k l) ∙ p.words (16 - k)

pub takes-state : (b : ℕ) (s t : State) (k : ℕ) (xs : List ℕ) → k ≤ 16 → Takes b s t k xs → (heard b s).state ≡ t
unfolding heard
takes-state b s t k xs l p = ap (λ (i : ℕ). (heard_in i b s).state) (sixteen k l) ∙ p.state (16 - k)
