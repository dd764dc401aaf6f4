-- How a run goes on and ends.
use Rattle.std.proofs.Common.{◌≡◌, ℕ, ◌+◌, ◌-◌, ◌*◌, ◌≤◌, List, [], ◌++◌, length, Bool, true, false, Option, None, Some, Result, Ok, Err, OnOk, refl, sym, ◌∙◌, ap, subst, append_assoc, append-nil, arith, length-append}
use Rattle.std.proofs.lemmas.Grind.{common_steps}
use Rattle.std.specs.Io.KnownBytes.{Appends}
use Rattle.std.proofs.KnownBytes.{Appends-trans, Appends-nil}
use Rattle.nr_units.specs.Sink.{AppendsPrefix}
use Rattle.nr_units.specs.Source.{Faults, Never, After, Anytime, Supply, Gives, MayGiveAll, later}
use Rattle.nr_units.specs.declared.source.Fault.{Fault}
use Rattle.nr_units.proofs.Prefixes.{AppendsPrefix-append, AppendsPrefix-after}
use Rattle.document_stages.specs.Pulling.{Came}
use Rattle.document_stages.specs.Running.{EndsAs, Ends, Flushes, IsBroken, IsCut, Ran, Stands, at_most}
use Rattle.document_stages.specs.Stepping.{Meaning, Turned, TurnedEnd, after}
use Rattle.document_stages.specs.declared.running.RunEnd.{RunEnd}
use Rattle.document_stages.specs.declared.running.RunEnd.TheVariants.{Done, ReadFault, TooLong, WriteFault}

-- ---- what came of a source

later-none : (f : Faults) → f ≡ later 0 f
later-none Never = refl
later-none (After n) = ap After (let e : n ≡ n - 0 = omega arith in e)
later-none Anytime = refl

may-none : (f : Faults) → MayGiveAll 0 f
may-none Never = tt
may-none (After n) = omega arith
may-none Anytime = tt

pub Came-nil : (a : Option Supply) → Came a [] a
Came-nil None = tt
Came-nil (Some q) = (refl, later-none q.faults, may-none q.faults)

later-both : (f : Faults) (i j k : ℕ) → k ≡ i + j → later j (later i f) ≡ later k f
later-both Never i j k e = refl
later-both (After n) i j k e = ap After (let d : n - i - j ≡ n - k = omega (arith, e) in d)
later-both Anytime i j k e = refl

may-both : (f : Faults) (i j k : ℕ) → k ≡ i + j → MayGiveAll i f → MayGiveAll j (later i f) → MayGiveAll k f
may-both Never i j k e p q = tt
may-both (After n) i j k e p q = omega (arith, e, p, q)
may-both Anytime i j k e p q = tt

Came-trans : (a b c : Option Supply) (xs ys : List ℕ) → Came a xs b → Came b ys c → Came a (xs ++ ys) c
Came-trans None b c xs ys p q = tt
Came-trans (Some a) None c xs ys p q = absurd p
Came-trans (Some a) (Some b) None xs ys p q = absurd q
Came-trans (Some a) (Some b) (Some c) xs ys p q =
    let lengths : length (xs ++ ys) ≡ length xs + length ys = length-append xs ys in (
      p.0 ∙ ap (λ (zs : List ℕ). xs ++ zs) q.0 ∙ sym (append_assoc xs ys c.bytes),
      q.1 ∙ ap (λ (f : Faults). later (length ys) f) p.1 ∙ later-both a.faults (length xs) (length ys) (length (xs ++ ys)) lengths,
      may-both a.faults (length xs) (length ys) (length (xs ++ ys)) lengths p.2 (subst (λ (f : Faults). MayGiveAll (length ys) f) p.1 q.2),
    )

Came-then_nothing : (a b c : Option Supply) (xs : List ℕ) → Came a xs b → Came b [] c → Came a xs c
Came-then_nothing a b c xs p q =
    let P : List ℕ → Type 0 = λ ys. Came a ys c in
    subst P (append-nil xs) (Came-trans a b c xs [] p q)

Came-end : (a b : Option Supply) → Gives {E = Fault} a (Ok None) b → Came a [] b
Came-end None b g = tt
Came-end (Some q) None g = absurd g
Came-end (Some q) (Some t) g = subst (λ (x : Supply). Came (Some q) [] (Some x)) (sym g.1) (Came-nil (Some q))

Came-fault : (a b : Option Supply) (e : Fault) → Gives a (Err e) b → Came a [] b
Came-fault None b e g = tt
Came-fault (Some q) None e g = absurd g
Came-fault (Some q) (Some t) e g = subst (λ (x : Supply). Came (Some q) [] (Some x)) (sym g.0) (Came-nil (Some q))

Ends-after : (a b c : Option Supply) (xs : List ℕ) → Came a xs b → Gives {E = Fault} b (Ok None) c → Ends a c
Ends-after None b c xs p g = tt
Ends-after (Some a) None c xs p g = absurd p
Ends-after (Some a) (Some b) None xs p g = absurd g
Ends-after (Some a) (Some b) (Some c) xs p g = ap (λ (x : Supply). x.bytes) g.1 ∙ g.0

-- ---- a run goes on

pub Stands-first : (m : Meaning) (wants : ℕ) (a : Option Supply) (h : Option (List ℕ)) (waits : List ℕ) → waits ≡ [] → Stands m m wants a a h h waits 0
Stands-first m wants a h waits none = record {
  bytes = [];
  came = Came-nil a;
  count = refl;
  sent = [];
  went_out = Appends-nil h;
  said = λ ends rest. ap (λ (w : List ℕ). w ++ m.says ends rest) (sym none);
  fitted = λ rest. refl;
  counted = λ ends rest. refl;
  few = (let e : length waits ≡ 0 = ap length none in omega (arith, e));
}

pub Stands-flushed : (m now : Meaning) (wants : ℕ) (a b : Option Supply) (h k l : Option (List ℕ)) (waits left : List ℕ) (t : ℕ)
    → Stands m now wants a b h k waits t → Flushes k l waits left → Stands m now wants a b h l left t
Stands-flushed m now wants a b h k l waits left t st f = record {
  bytes = st.bytes;
  came = st.came;
  count = st.count;
  sent = st.sent ++ f.out;
  went_out = Appends-trans h k l st.sent f.out st.went_out f.went_out;
  said = λ ends rest.
      st.said ends rest ∙ ap (λ (w : List ℕ). st.sent ++ (w ++ now.says ends rest)) f.all
      ∙ ap (λ (w : List ℕ). st.sent ++ w) (append_assoc f.out left (now.says ends rest))
      ∙ sym (append_assoc st.sent f.out (left ++ now.says ends rest));
  fitted = st.fitted;
  counted = st.counted;
  few = (let p : length (st.sent ++ f.out) ≡ length st.sent + length f.out = length-append st.sent f.out in
      let q : length waits ≡ length f.out + length left = ap length f.all ∙ length-append f.out left in
      let few = st.few in omega (arith, p, q, few));
}

more-each : (w t n : ℕ) → w * (t + n) ≡ w * t + w * n
more-each w t n = grind (arith, common_steps)

few-more : (sent waits left w t n : ℕ) → sent + waits ≤ w * t → left ≤ waits + w * n → sent + left ≤ w * (t + n)
few-more sent waits left w t n p q = let e = more-each w t n in omega (arith, p, q, e)

pub Stands-turned : (m now then : Meaning) (wants : ℕ) (a b c : Option Supply) (h k : Option (List ℕ)) (waits left : List ℕ) (t n : ℕ)
    → Stands m now wants a b h k waits t → Turned b c now then waits left n → length left ≤ length waits + wants * n
    → Stands m then wants a c h k left (t + n)
Stands-turned m now then wants a b c h k waits left t n st w l =
    let place : (rest : List ℕ) → (st.bytes ++ w.bytes) ++ rest ≡ st.bytes ++ (w.bytes ++ rest) = λ rest. append_assoc st.bytes w.bytes rest in
    record {
      bytes = st.bytes ++ w.bytes;
      came = Came-trans a b c st.bytes w.bytes st.came w.came;
      count = (let e : length (st.bytes ++ w.bytes) ≡ length st.bytes + length w.bytes = length-append st.bytes w.bytes in
          let p = st.count in let q = w.count in omega (arith, e, p, q));
      sent = st.sent;
      went_out = st.went_out;
      said = λ ends rest.
          ap (λ (z : List ℕ). m.says ends z) (place rest) ∙ st.said ends (w.bytes ++ rest) ∙ ap (λ (z : List ℕ). st.sent ++ z) (w.said ends rest);
      fitted = λ rest. ap (λ (z : List ℕ). m.fits z) (place rest) ∙ st.fitted (w.bytes ++ rest) ∙ w.fitted rest;
      counted = λ ends rest.
          ap (λ (z : List ℕ). m.counts ends z) (place rest) ∙ st.counted ends (w.bytes ++ rest) ∙ w.counted ends rest;
      few = few-more (length st.sent) (length waits) (length left) wants t n st.few l;
    }

-- ---- a run ends

-- what all comes to: what went out, what waits, and what the stage makes of the end
said-all : (m now : Meaning) (wants : ℕ) (a b : Option Supply) (h k : Option (List ℕ)) (waits : List ℕ) (t : ℕ) (ends : Bool)
    → (st : Stands m now wants a b h k waits t) → m.says ends st.bytes ≡ st.sent ++ (waits ++ now.says ends [])
said-all m now wants a b h k waits t ends st =
    ap (λ (z : List ℕ). m.says ends z) (sym (append-nil st.bytes)) ∙ st.said ends []

counted-all : (m now : Meaning) (wants : ℕ) (a b : Option Supply) (h k : Option (List ℕ)) (waits : List ℕ) (t : ℕ) (ends : Bool)
    → (st : Stands m now wants a b h k waits t) → now.counts ends [] ≡ m.counts ends st.bytes
counted-all m now wants a b h k waits t ends st =
    sym (ap (λ (z : List ℕ). m.counts ends z) (sym (append-nil st.bytes)) ∙ st.counted ends [])

few-all : (all sent waits items w t n : ℕ) → all ≡ sent + items → sent + waits ≤ w * t → items ≤ waits + w → n ≡ t → all ≤ w * (n + 1)
few-all all sent waits items w t n e p q same =
    let d : w * (n + 1) ≡ w * n + w * 1 = more-each w n 1 in
    let f : w * n ≡ w * t = ap (λ (x : ℕ). w * x) same in omega (arith, e, p, q, d, f)

short-of : (n t : ℕ) → n ≡ t → t ≤ 1099511627776 → n ≤ 1099511627776
short-of n t e l = omega (arith, e, l)

pub Ran-done : (m now then : Meaning) (wants : ℕ) (a b c : Option Supply) (h k l : Option (List ℕ)) (waits items : List ℕ) (t : ℕ) (fit : Bool)
    → t ≤ 1099511627776 → Stands m now wants a b h k waits t → TurnedEnd b c now then waits items fit → length items ≤ length waits + wants
    → (outcome : RunEnd) → EndsAs Done outcome k l items → Ran m.says m.counts wants a c h l (then.counts false []) outcome
Ran-done m now then wants a b c h k l waits items t fit small st w few Done ends =
    let all : m.says true st.bytes ≡ st.sent ++ items =
    said-all m now wants a b h k waits t true st ∙ ap (λ (z : List ℕ). st.sent ++ z) w.said in
    record {
      bytes = st.bytes;
      came = Came-then_nothing a b c st.bytes st.came (Came-end b c w.gives);
      ends = Ends-after a b c st.bytes st.came w.gives;
      short = short-of (length st.bytes) t st.count small;
      went_out = subst (λ (z : List ℕ). Appends h l z) (sym all) (Appends-trans h k l st.sent items st.went_out ends.1);
      few = few-all (length (m.says true st.bytes)) (length st.sent) (length waits) (length items) wants t (length st.bytes)
          (ap length all ∙ length-append st.sent items) st.few few st.count;
      counted = sym w.counted ∙ counted-all m now wants a b h k waits t true st;
    }
Ran-done m now then wants a b c h k l waits items t fit small st w few (ReadFault at) ends = absurd (let no : Done ≡ ReadFault at = ends.0 in cc)
Ran-done m now then wants a b c h k l waits items t fit small st w few TooLong ends = absurd (let no : Done ≡ TooLong = ends.0 in cc)
Ran-done m now then wants a b c h k l waits items t fit small st w few WriteFault ends =
    let all : m.says true st.bytes ≡ st.sent ++ items =
    said-all m now wants a b h k waits t true st ∙ ap (λ (z : List ℕ). st.sent ++ z) w.said in
    record {
      bytes = st.bytes;
      came = Came-then_nothing a b c st.bytes st.came (Came-end b c w.gives);
      short = short-of (length st.bytes) t st.count small;
      went_out = subst (λ (z : List ℕ). AppendsPrefix h l z) (sym all) (AppendsPrefix-after h k l st.sent items st.went_out ends);
      ended = true;
      counted = sym w.counted ∙ counted-all m now wants a b h k waits t true st;
    }

pub Ran-broken : (m now : Meaning) (wants : ℕ) (a b c : Option Supply) (h k l : Option (List ℕ)) (waits : List ℕ) (t : ℕ)
    → t ≤ 1099511627776 → Stands m now wants a b h k waits t → Came b [] c → AppendsPrefix k l waits
    → IsBroken m.says m.counts a c h l (now.counts false [])
Ran-broken m now wants a b c h k l waits t small st came broke = record {
  bytes = st.bytes;
  came = Came-then_nothing a b c st.bytes st.came came;
  short = short-of (length st.bytes) t st.count small;
  went_out = subst (λ (z : List ℕ). AppendsPrefix h l z) (sym (said-all m now wants a b h k waits t true st))
      (AppendsPrefix-after h k l st.sent (waits ++ now.says true []) st.went_out (AppendsPrefix-append k l waits (now.says true []) broke));
  ended = false;
  counted = counted-all m now wants a b h k waits t false st;
}

cut-off : (m now : Meaning) (wants : ℕ) (a b c : Option Supply) (h k l : Option (List ℕ)) (waits : List ℕ) (t : ℕ)
    → t ≤ 1099511627776 → Stands m now wants a b h k waits t → Came b [] c → now.says false [] ≡ [] → Appends k l waits
    → IsCut m.says m.counts a c h l (now.counts false []) t
cut-off m now wants a b c h k l waits t small st came none went =
    let all : m.says false st.bytes ≡ st.sent ++ waits =
    said-all m now wants a b h k waits t false st ∙ ap (λ (z : List ℕ). st.sent ++ (waits ++ z)) none
    ∙ ap (λ (z : List ℕ). st.sent ++ z) (append-nil waits) in
    record {
      bytes = st.bytes;
      came = Came-then_nothing a b c st.bytes st.came came;
      at_is = st.count;
      short = small;
      went_out = subst (λ (z : List ℕ). Appends h l z) (sym all) (Appends-trans h k l st.sent waits st.went_out went);
      counted = counted-all m now wants a b h k waits t false st;
    }

Ran-fault : (m now : Meaning) (wants : ℕ) (a b c : Option Supply) (h k l : Option (List ℕ)) (waits : List ℕ) (t : ℕ)
    → t ≤ 1099511627776 → Stands m now wants a b h k waits t → Came b [] c → now.says false [] ≡ []
    → (outcome : RunEnd) → EndsAs (ReadFault t) outcome k l waits → Ran m.says m.counts wants a c h l (now.counts false []) outcome
Ran-fault m now wants a b c h k l waits t small st came none Done ends = absurd (let no : ReadFault t ≡ Done = ends.0 in cc)
Ran-fault m now wants a b c h k l waits t small st came none (ReadFault at) ends =
    let same : ReadFault t ≡ ReadFault at = ends.0 in
    let n : t ≡ at = cc in
    subst (λ (x : ℕ). IsCut m.says m.counts a c h l (now.counts false []) x) n (cut-off m now wants a b c h k l waits t small st came none ends.1)
Ran-fault m now wants a b c h k l waits t small st came none TooLong ends = absurd (let no : ReadFault t ≡ TooLong = ends.0 in cc)
Ran-fault m now wants a b c h k l waits t small st came none WriteFault ends = Ran-broken m now wants a b c h k l waits t small st came ends

pub Ran-failed : (m now then : Meaning) (wants : ℕ) (a b c : Option Supply) (h k l : Option (List ℕ)) (waits left : List ℕ) (t : ℕ) (e : Fault)
    → t ≤ 1099511627776 → Stands m now wants a b h k waits t → Gives b (Err e) c × (then ≡ now) × (left ≡ waits) → then.says false [] ≡ []
    → (outcome : RunEnd) → EndsAs (ReadFault t) outcome k l left → Ran m.says m.counts wants a c h l (then.counts false []) outcome
Ran-failed m now then wants a b c h k l waits left t e small st failed none outcome ends =
    Ran-fault m then wants a b c h k l waits t small (subst (λ (x : Meaning). Stands m x wants a b h k waits t) (sym failed.1) st)
    (Came-fault b c e failed.0) none outcome (subst (λ (w : List ℕ). EndsAs (ReadFault t) outcome k l w) failed.2 ends)

pub Ran-long : (m now : Meaning) (wants : ℕ) (a b : Option Supply) (h k l : Option (List ℕ)) (waits : List ℕ) (t : ℕ)
    → t ≡ 1099511627776 → Stands m now wants a b h k waits t → now.says false [] ≡ []
    → (outcome : RunEnd) → EndsAs TooLong outcome k l waits → Ran m.says m.counts wants a b h l (now.counts false []) outcome
Ran-long m now wants a b h k l waits t n st none Done ends = absurd (let no : TooLong ≡ Done = ends.0 in cc)
Ran-long m now wants a b h k l waits t n st none (ReadFault at) ends = absurd (let no : TooLong ≡ ReadFault at = ends.0 in cc)
Ran-long m now wants a b h k l waits t n st none TooLong ends =
    subst (λ (x : ℕ). IsCut m.says m.counts a b h l (now.counts false []) x) n
    (cut-off m now wants a b b h k l waits t (omega (arith, n)) st (Came-nil b) none ends.1)
Ran-long m now wants a b h k l waits t n st none WriteFault ends =
    Ran-broken m now wants a b b h k l waits t (omega (arith, n)) st (Came-nil b) ends

-- ---- what is counted, and what a definition says of it

pub at_most-more : (n k m : ℕ) → at_most (n + (k + m)) ≡ at_most (at_most (n + k) + m)
at_most-more n k m = omega arith

-- both agree on so many bytes as may come
pub Ran-counted : (says : Bool → List ℕ → List ℕ) (counts counts' : Bool → List ℕ → ℕ) (wants : ℕ) (first last : Option Supply) (held new : Option (List ℕ))
    (n : ℕ) → ((ends : Bool) → (bytes : List ℕ) → length bytes ≤ 1099511627776 → counts ends bytes ≡ counts' ends bytes)
    → (outcome : RunEnd) → Ran says counts wants first last held new n outcome → Ran says counts' wants first last held new n outcome
Ran-counted says counts counts' wants first last held new n same Done ran = record {
  bytes = ran.bytes;
  came = ran.came;
  ends = ran.ends;
  short = ran.short;
  went_out = ran.went_out;
  few = ran.few;
  counted = ran.counted ∙ same true ran.bytes ran.short;
}
Ran-counted says counts counts' wants first last held new n same (ReadFault at) ran = record {
  bytes = ran.bytes;
  came = ran.came;
  at_is = ran.at_is;
  short = ran.short;
  went_out = ran.went_out;
  counted = ran.counted ∙ same false ran.bytes (short-of (length ran.bytes) at ran.at_is ran.short);
}
Ran-counted says counts counts' wants first last held new n same TooLong ran = record {
  bytes = ran.bytes;
  came = ran.came;
  at_is = ran.at_is;
  short = ran.short;
  went_out = ran.went_out;
  counted = ran.counted ∙ same false ran.bytes (short-of (length ran.bytes) 1099511627776 ran.at_is ran.short);
}
Ran-counted says counts counts' wants first last held new n same WriteFault ran = record {
  bytes = ran.bytes;
  came = ran.came;
  short = ran.short;
  went_out = ran.went_out;
  ended = ran.ended;
  counted = ran.counted ∙ same ran.ended ran.bytes ran.short;
}

-- of a stage that is known
pub Ran-known : (says says' : Bool → List ℕ → List ℕ) (counts counts' : Bool → List ℕ → ℕ) (wants wants' : ℕ) (first last : Option Supply) (held new : Option (List ℕ))
    (n k : ℕ) (outcome : RunEnd) → says ≡ says' → counts ≡ counts' → wants ≡ wants' → k ≡ n
    → Ran says counts wants first last held new n outcome → Ran says' counts' wants' first last held new k outcome
Ran-known says says' counts counts' wants wants' first last held new n k outcome p q e same ran =
    subst (λ j. Ran says' counts' wants' first last held new j outcome) (sym same)
    (subst (λ w. Ran says' counts' w first last held new n outcome) e
    (subst (λ c. Ran says' c wants first last held new n outcome) q
    (subst (λ s. Ran s counts wants first last held new n outcome) p ran)))
