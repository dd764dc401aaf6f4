-- How a run goes on and ends.
use Rattle.std.proofs.Common.{◌≡◌, ℕ, ◌+◌, ◌≤◌, List, [], ◌∷◌, ◌++◌, length, take, drop, Option, None, Some, Ok, Err, inl, inr, refl, sym, ◌∙◌, ap, subst, append_assoc, append-nil, length-append, arith}
use Rattle.std.proofs.lemmas.List.{take-append-drop, take-take, length-take}
use Rattle.nr_units.specs.Source.{Supply, Gives, Offers, Skips, skipped}
use Rattle.nr_units.specs.declared.source.Fault.{Fault}
use Rattle.tbl_reader.specs.declared.reader.Limits.{Limits}
use Rattle.tbl_reader.specs.Ending.{finished, first_page, page_said}
use Rattle.tbl_reader.specs.Pages.{Page}
use Rattle.tbl_reader.specs.Reading.{read, fed}
use Rattle.tbl_reader.specs.Reading as read_some
use Rattle.tbl_reader.specs.Running.{Came, Ends, Took, Ended, Turns, Stands, IsDone, IsCut, IsBroken}
use Rattle.tbl_reader.specs.declared.running.TurnResult.{TurnResult}
use Rattle.tbl_reader.specs.declared.running.TurnResult.TheVariants as turns
use Rattle.tbl_reader.specs.Telling.{Piece, Tells}
use Rattle.tbl_reader.proofs.Counting.{cut_few, page_few}
use Rattle.tbl_reader.proofs.Hearing.{tells_append, tells_then}
use Rattle.tbl_reader.proofs.Keeping.{fed_stays, end_stays}

-- ---- what comes of a source

pub Came-nil : (a : Option Supply) → Came a [] a
Came-nil None = tt
Came-nil (Some q) = refl

pub Came-trans : (a b c : Option Supply) (xs ys : List ℕ) → Came a xs b → Came b ys c → Came a (xs ++ ys) c
Came-trans None b c xs ys p q = tt
Came-trans (Some a) None c xs ys p q = absurd p
Came-trans (Some a) (Some b) None xs ys p q = absurd q
Came-trans (Some a) (Some b) (Some c) xs ys p q = p ∙ ap (λ (zs : List ℕ). xs ++ zs) q ∙ sym (append_assoc xs ys c.bytes)

pub Came-then_nothing : (a b c : Option Supply) (xs : List ℕ) → Came a xs b → Came b [] c → Came a xs c
Came-then_nothing a b c xs p q =
    let P : List ℕ → Type 0 = λ ys. Came a ys c in
    subst P (append-nil xs) (Came-trans a b c xs [] p q)

pub Came-next : (a b : Option Supply) (byte : ℕ) → Gives {E = Fault} a (Ok (Some byte)) b → Came a (byte ∷ []) b
Came-next None b byte h = tt
Came-next (Some q) None byte h = absurd h
Came-next (Some q) (Some t) byte h = h.0

pub Came-end : (a b : Option Supply) → Gives {E = Fault} a (Ok None) b → Came a [] b × Ends a b
Came-end None b h = (tt, tt)
Came-end (Some q) None h = absurd h
Came-end (Some q) (Some t) h = (ap (λ (x : Supply). x.bytes) (sym h.1), ap (λ (x : Supply). x.bytes) h.1 ∙ h.0)

pub Ends-after : (a b c : Option Supply) (xs : List ℕ) → Came a xs b → Ends b c → Ends a c
Ends-after None b c xs p q = tt
Ends-after (Some a) None c xs p q = absurd p
Ends-after (Some a) (Some b) None xs p q = absurd q
Ends-after (Some a) (Some b) (Some c) xs p q = q

pub Came-fault : (a b : Option Supply) (e : Fault) → Gives a (Err e) b → Came a [] b
Came-fault None b e h = tt
Came-fault (Some q) None e h = absurd h
Came-fault (Some q) (Some t) e h = ap (λ (x : Supply). x.bytes) (sym h.0)

some-injective : (x y : Supply) → Some x ≡ Some y → x ≡ y
some-injective x y h = cc

skipped-bytes : (q t : Supply) (n : ℕ) → Some t ≡ Some (skipped n q) → t.bytes ≡ drop n q.bytes
skipped-bytes q t n h = ap (λ (x : Supply). x.bytes) (some-injective t (skipped n q) h)

-- those at hand that are skipped came
pub Came-skip : (a b : Option Supply) (window : List ℕ) (n : ℕ) → n ≤ length window → Offers a window → Skips a n b → Came a (take n window) b
Came-skip None b window n l o s = tt
Came-skip (Some q) None window n l o s = absurd (let no : None ≡ Some (skipped n q) = s in cc)
Came-skip (Some q) (Some t) window n l o s =
    let prefix : take n window ≡ take n q.bytes =
    ap (λ (ys : List ℕ). take n ys) (sym o.0) ∙ take-take n (length window) q.bytes l in
    let rest : t.bytes ≡ drop n q.bytes = skipped-bytes q t n s in
    rw (prefix, rest) (sym (take-append-drop n q.bytes))

-- ---- many bytes

fed-append_page : (xs ys : List ℕ) (p : Page) → (fed (xs ++ ys) p).page ≡ (fed ys (fed xs p).page).page
fed-append_page [] ys p = refl
fed-append_page (x ∷ xs) ys p = fed-append_page xs ys (read x p).page

fed-append_pieces : (xs ys : List ℕ) (p : Page) → (fed (xs ++ ys) p).pieces ≡ (fed xs p).pieces ++ (fed ys (fed xs p).page).pieces
fed-append_pieces [] ys p = refl
fed-append_pieces (x ∷ xs) ys p =
    ap (λ (ps : List Piece). (read x p).pieces ++ ps) (fed-append_pieces xs ys (read x p).page)
    ∙ sym (append_assoc (read x p).pieces (fed xs (read x p).page).pieces (fed ys (fed xs (read x p).page).page).pieces)

pub page-fed : (xs ys : List ℕ) (p q r : Page) → q ≡ (fed xs p).page → r ≡ (fed ys q).page → r ≡ (fed (xs ++ ys) p).page
page-fed xs ys p q r h k = k ∙ ap (λ (t : Page). (fed ys t).page) h ∙ sym (fed-append_page xs ys p)

pub emitted-fed : {A S : Type 0} (shows : A → S → Type 0) (hears : Piece → S → S) (xs ys : List ℕ) (p q : Page) (a b c : A)
    → q ≡ (fed xs p).page → Tells shows hears (fed xs p).pieces a b → Tells shows hears (fed ys q).pieces b c
    → Tells shows hears (fed (xs ++ ys) p).pieces a c
emitted-fed shows hears xs ys p q a b c same h k =
    let here : Tells shows hears (fed ys (fed xs p).page).pieces b c = subst (λ (t : Page). Tells shows hears (fed ys t).pieces b c) same k in
    let both = tells_append shows hears (fed xs p).pieces (fed ys (fed xs p).page).pieces a b c h here in
    subst (λ (ps : List Piece). Tells shows hears ps a c) (sym (fed-append_pieces xs ys p)) both

-- ---- a run goes on

pub Stands-took : {A S : Type 0} (shows : A → S → Type 0) (hears : Piece → S → S) (l : Limits) (first a b : Option Supply) (p q : Page) (old now new : A) (taken n : ℕ)
    → Stands shows hears l first a p old now taken → Took shows hears a b p q now new n → Stands shows hears l first b q old new (taken + n)
Stands-took shows hears l first a b p q old now new taken n s t = record {
  bytes = s.bytes ++ t.bytes;
  came = Came-trans first a b s.bytes t.bytes s.came t.came;
  count = (let both = length-append s.bytes t.bytes in let x = s.count in let y = t.count in omega (arith, both, x, y));
  page = page-fed s.bytes t.bytes (first_page l) p q s.page t.page;
  emitted = emitted-fed shows hears s.bytes t.bytes (first_page l) p old now new s.page s.emitted t.emitted;
  fits = t.fits;
  lines = (let x = s.lines in let y = t.lines in omega (arith, x, y));
}

-- with the end all was emitted
pub emitted-all : {A S : Type 0} (shows : A → S → Type 0) (hears : Piece → S → S) (l : Limits) (first a b : Option Supply) (p q : Page) (old now new : A) (taken : ℕ)
    → (s : Stands shows hears l first a p old now taken) → Ended shows hears a b p q now new → Tells shows hears (page_said l s.bytes) old new
emitted-all shows hears l first a b p q old now new taken s e =
    tells_then shows hears (fed s.bytes (first_page l)) finished p old now new s.page s.emitted e.emitted

pub Ran-done : {A S : Type 0} (shows : A → S → Type 0) (hears : Piece → S → S) (l : Limits) (first a b : Option Supply) (p q : Page) (old now new : A) (taken : ℕ)
    → Stands shows hears l first a p old now taken → Ended shows hears a b p q now new → IsDone shows hears l first b old new
Ran-done shows hears l first a b p q old now new taken s e = record {
  bytes = s.bytes;
  came = Came-then_nothing first a b s.bytes s.came e.came;
  ends = Ends-after first a b s.bytes s.came e.ends;
  emitted = emitted-all shows hears l first a b p q old now new taken s e;
  few = page_few l s.bytes;
}

pub Ran-fault : {A S : Type 0} (shows : A → S → Type 0) (hears : Piece → S → S) (l : Limits) (first a b : Option Supply) (p q : Page) (old now new : A) (taken : ℕ)
    → Stands shows hears l first a p old now taken → Took shows hears a b p q now new 0 → IsCut shows hears l first b old new taken
Ran-fault shows hears l first a b p q old now new taken s t =
    let on = Stands-took shows hears l first a b p q old now new taken 0 s t in
    record { bytes = on.bytes; came = on.came; count = (let n = on.count in omega (arith, n)); emitted = on.emitted; few = cut_few l on.bytes }

pub Ran-long : {A S : Type 0} (shows : A → S → Type 0) (hears : Piece → S → S) (l : Limits) (first a : Option Supply) (p : Page) (old now : A) (taken : ℕ)
    → Stands shows hears l first a p old now taken → taken ≡ 1099511627776 → IsCut shows hears l first a old now 1099511627776
Ran-long shows hears l first a p old now taken s all = record { bytes = s.bytes; came = s.came; count = s.count ∙ all; emitted = s.emitted; few = cut_few l s.bytes }

-- one who heard what a turn says could not put out all of it
pub Ran-broken : {A S : Type 0} (shows : A → S → Type 0) (hears : Piece → S → S) (l : Limits) (first a b : Option Supply) (p q : Page) (old now new : A) (taken : ℕ) (turn : TurnResult)
    → Stands shows hears l first a p old now taken → Turns shows hears a b p q now new turn → IsBroken shows hears l first b old new
Ran-broken shows hears l first a b p q old now new taken (turns.Took n) s t =
    let on = Stands-took shows hears l first a b p q old now new taken n s t in
    record { bytes = on.bytes; came = on.came; emitted = inl on.emitted; few = page_few l on.bytes }
Ran-broken shows hears l first a b p q old now new taken turns.End s t = record {
  bytes = s.bytes;
  came = Came-then_nothing first a b s.bytes s.came t.came;
  emitted = inr (emitted-all shows hears l first a b p q old now new taken s t);
  few = page_few l s.bytes;
}
Ran-broken shows hears l first a b p q old now new taken turns.ReadFault s t =
    let on = Stands-took shows hears l first a b p q old now new taken 0 s t in
    record { bytes = on.bytes; came = on.came; emitted = inl on.emitted; few = page_few l on.bytes }

-- ---- a turn

-- the next byte, which was read
pub Took-byte : {A S : Type 0} (shows : A → S → Type 0) (hears : Piece → S → S) (a b : Option Supply) (byte m : ℕ) (p q : Page) (old new : A)
    → Gives {E = Fault} a (Ok (Some byte)) b → read_some.Took shows hears (byte ∷ []) p q old new m → Took shows hears a b p q old new 1
Took-byte shows hears a b byte m p q old new gives t =
    let one : m ≡ 1 = (let x = t.some in let y = t.within in omega (arith, x, y)) in
    let same : take m (byte ∷ []) ≡ byte ∷ [] = ap (λ (k : ℕ). take k (byte ∷ [])) one in
    record {
      bytes = byte ∷ [];
      came = Came-next a b byte gives;
      count = refl;
      page = t.page ∙ ap (λ (xs : List ℕ). (fed xs p).page) same;
      emitted = subst (λ (xs : List ℕ). Tells shows hears (fed xs p).pieces old new) same t.emitted;
      fits = t.fits;
      lines = (let x = t.lines in omega (arith, x, one));
    }

-- none, where the source fails
pub Took-fault : {A S : Type 0} (shows : A → S → Type 0) (hears : Piece → S → S) (a b c : Option Supply) (p q : Page) (old new : A) (n : ℕ) (e : Fault)
    → n ≡ 0 → Took shows hears a b p q old new n → Gives b (Err e) c → Took shows hears a c p q old new 0
Took-fault shows hears a b c p q old new n e zero_is t gives = record {
  bytes = t.bytes;
  came = Came-then_nothing a b c t.bytes t.came (Came-fault b c e gives);
  count = t.count ∙ zero_is;
  page = t.page;
  emitted = t.emitted;
  fits = t.fits;
  lines = (let x = t.lines in omega (arith, x, zero_is));
}

-- bytes at hand
pub Took-window : {A S : Type 0} (shows : A → S → Type 0) (hears : Piece → S → S) (a b : Option Supply) (window : List ℕ) (len n : ℕ) (p q : Page) (old new : A)
    → len ≤ length window → Offers a window → Skips a n b → read_some.Took shows hears (take len window) p q old new n → Took shows hears a b p q old new n
Took-window shows hears a b window len n p q old new within offers skips t =
    let few : n ≤ len = (let x = length-take len window in let y = t.within in omega (arith, x, y)) in
    let same : take n (take len window) ≡ take n window = take-take n len window few in
    record {
      bytes = take n window;
      came = Came-skip a b window n (omega (arith, few, within)) offers skips;
      count = (let x = length-take n window in omega (arith, x, few, within));
      page = t.page ∙ ap (λ (xs : List ℕ). (fed xs p).page) same;
      emitted = subst (λ (xs : List ℕ). Tells shows hears (fed xs p).pieces old new) same t.emitted;
      fits = t.fits;
      lines = t.lines;
    }

-- some bytes and then others
pub Took-then : {A S : Type 0} (shows : A → S → Type 0) (hears : Piece → S → S) (a b c : Option Supply) (p q r : Page) (old now new : A) (n m : ℕ)
    → Took shows hears a b p q old now n → Took shows hears b c q r now new m → Took shows hears a c p r old new (n + m)
Took-then shows hears a b c p q r old now new n m s t = record {
  bytes = s.bytes ++ t.bytes;
  came = Came-trans a b c s.bytes t.bytes s.came t.came;
  count = (let both = length-append s.bytes t.bytes in let x = s.count in let y = t.count in omega (arith, both, x, y));
  page = page-fed s.bytes t.bytes p q r s.page t.page;
  emitted = emitted-fed shows hears s.bytes t.bytes p q old now new s.page s.emitted t.emitted;
  fits = t.fits;
  lines = (let x = s.lines in let y = t.lines in omega (arith, x, y));
}

none : (bytes : List ℕ) → length bytes ≡ 0 → bytes ≡ []
none [] h = refl
none (b ∷ bs) h = absurd (omega (arith, h))

-- no bytes and then the end
pub Ended-after : {A S : Type 0} (shows : A → S → Type 0) (hears : Piece → S → S) (a b c : Option Supply) (p q r : Page) (old now new : A) (n : ℕ)
    → n ≡ 0 → Took shows hears a b p q old now n → Ended shows hears b c q r now new → Ended shows hears a c p r old new
Ended-after shows hears a b c p q r old now new n zero_is t e =
    let no = none t.bytes (t.count ∙ zero_is) in
    let came : Came a [] b = subst (λ (xs : List ℕ). Came a xs b) no t.came in
    let same : q ≡ p = t.page ∙ ap (λ (xs : List ℕ). (fed xs p).page) no in
    let heard_none : Tells shows hears [] old now = subst (λ (xs : List ℕ). Tells shows hears (fed xs p).pieces old now) no t.emitted in
    let ended : Tells shows hears (finished p).pieces now new = subst (λ (x : Page). Tells shows hears (finished x).pieces now new) same e.emitted in
    record {
      came = Came-trans a b c [] [] came e.came;
      ends = Ends-after a b c [] came e.ends;
      page = e.page ∙ ap (λ (x : Page). (finished x).page) same;
      emitted = λ s h. ended s (heard_none s h);
    }

pub Took-after : {A S : Type 0} (shows : A → S → Type 0) (hears : Piece → S → S) (a b c : Option Supply) (p q r : Page) (old now new : A) (n m : ℕ)
    → n ≡ 0 → Took shows hears a b p q old now n → Took shows hears b c q r now new m → Took shows hears a c p r old new m
Took-after shows hears a b c p q r old now new n m zero_is s t =
    let all : n + m ≡ m = omega (arith, zero_is) in
    subst (λ (k : ℕ). Took shows hears a c p r old new k) all (Took-then shows hears a b c p q r old now new n m s t)

-- ---- what stays

pub Stands-stays : {A S : Type 0} (shows : A → S → Type 0) (hears : Piece → S → S) (l : Limits) (first a : Option Supply) (p : Page) (old now : A) (taken : ℕ)
    → Stands shows hears l first a p old now taken → p.limits ≡ l
Stands-stays shows hears l first a p old now taken s = fed_stays l s.bytes p s.page

pub Turns-stay : {A S : Type 0} (shows : A → S → Type 0) (hears : Piece → S → S) (l : Limits) (first a b : Option Supply) (p q : Page) (old now new : A) (taken : ℕ) (turn : TurnResult)
    → Stands shows hears l first a p old now taken → Turns shows hears a b p q now new turn → q.limits ≡ l
Turns-stay shows hears l first a b p q old now new taken (turns.Took n) s t =
    Stands-stays shows hears l first b q old new (taken + n) (Stands-took shows hears l first a b p q old now new taken n s t)
Turns-stay shows hears l first a b p q old now new taken turns.End s t =
    end_stays p q s.fits t.page ∙ Stands-stays shows hears l first a p old now taken s
Turns-stay shows hears l first a b p q old now new taken turns.ReadFault s t =
    Stands-stays shows hears l first b q old new (taken + 0) (Stands-took shows hears l first a b p q old now new taken 0 s t)

-- ---- where a run begins

pub Stands-first : {A S : Type 0} (shows : A → S → Type 0) (hears : Piece → S → S) (l : Limits) (a : Option Supply) (p : Page) (old : A)
    → p ≡ first_page l → Stands shows hears l a a p old old 0
Stands-first shows hears l a p old page = record {
  bytes = [];
  came = Came-nil a;
  count = refl;
  page = page;
  emitted = λ s h. h;
  fits = rw page (omega arith);
  lines = rw page (omega arith);
}
