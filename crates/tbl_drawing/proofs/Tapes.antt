-- Strokes that are drawn after others.
use Rattle.std.proofs.Common.{◌≡◌, ℕ, Bool, true, false, ◌==◌, ◌||◌, nat_lt, List, [], ◌∷◌, ◌++◌, replicate, Option, refl, sym, ap, subst, ◌∙◌, append_assoc, append-nil, if◌then◌else◌}
use Prim.Native.Char.{code}
use Rattle.std.proofs.KnownBytes.{Appends-nil, Appends-trans, Appends-kept, Keeps-refl, Keeps-trans}
use Rattle.nr_units.specs.Failures.{SinkFailures, put_counted_if}
use Rattle.nr_units.specs.Sink.{AppendsPrefix}
use Rattle.nr_units.proofs.Prefixes.{AppendsPrefix-append}
use Rattle.tbl_drawing.specs.declared.pen.Pen.{Pen}
use Rattle.tbl_drawing.specs.Pens.{Stroke, Release, Guard, Bytes, after, after_all, bytes, bytes_of, guard, lead, released}
use Rattle.tbl_drawing.specs.Tapes.{Tape, SendsIn, Sends, Draws, failed_since}

nothing_in : (failed : Bool) (h : Option (List ℕ)) (w : List ℕ) → SendsIn failed failed h w h w []
nothing_in true h w = Keeps-refl h
nothing_in false h w = ([], Appends-nil h, append-nil w)

none_counted : (f : Bool) (n : SinkFailures) → n ≡ put_counted_if (failed_since f f) n
none_counted true n = refl
none_counted false n = refl

-- once the sink failed, it stays so
counted_then : (f g k : Bool) (h i j : Option (List ℕ)) (v w x xs ys : List ℕ) (l m n : SinkFailures) → SendsIn f g h v i w xs → SendsIn g k i w j x ys
    → m ≡ put_counted_if (failed_since f g) l → n ≡ put_counted_if (failed_since g k) m → n ≡ put_counted_if (failed_since f k) l
counted_then true true true h i j v w x xs ys l m n s t p q = q ∙ p
counted_then true true false h i j v w x xs ys l m n s t p q = absurd t
counted_then true false k h i j v w x xs ys l m n s t p q = absurd s
counted_then false true true h i j v w x xs ys l m n s t p q = q ∙ p
counted_then false true false h i j v w x xs ys l m n s t p q = absurd t
counted_then false false k h i j v w x xs ys l m n s t p q = q ∙ ap (put_counted_if (failed_since false k)) p

pub sends_nothing : (a : Tape) → Sends a a []
sends_nothing a = record { failures = none_counted a.failed a.failures; sends = nothing_in a.failed a.held a.pending }

then_in : (f g k : Bool) (h i j : Option (List ℕ)) (v w x xs ys : List ℕ) → SendsIn f g h v i w xs → SendsIn g k i w j x ys → SendsIn f k h v j x (xs ++ ys)
then_in true true true h i j v w x xs ys p q = Keeps-trans h i j p q
then_in true true false h i j v w x xs ys p q = absurd q
then_in true false k h i j v w x xs ys p q = absurd p
then_in false true true h i j v w x xs ys p q =
    let e = AppendsPrefix-append h i (v ++ xs) ys p in
    subst (λ l. AppendsPrefix h j l) (append_assoc v xs ys) (e.0, e.1, e.2, Appends-kept h i j e.0 e.3 q)
then_in false true false h i j v w x xs ys p q = absurd q
then_in false false true h i j v w x xs ys p q =
    (p.0 ++ q.0, q.1, sym (append_assoc v xs ys) ∙ ap (λ l. l ++ ys) p.2 ∙ append_assoc p.0 w ys ∙ ap (λ l. p.0 ++ l) q.2 ∙ sym (append_assoc p.0 q.0 q.1), Appends-trans h i j p.0 q.0 p.1 q.3)
then_in false false false h i j v w x xs ys p q =
    (p.0 ++ q.0, Appends-trans h i j p.0 q.0 p.1 q.1, sym (append_assoc v xs ys) ∙ ap (λ l. l ++ ys) p.2 ∙ append_assoc p.0 w ys ∙ ap (λ l. p.0 ++ l) q.2 ∙ sym (append_assoc p.0 q.0 x))

pub sends_then : {a b c : Tape} {xs ys : List ℕ} → Sends a b xs → Sends b c ys → Sends a c (xs ++ ys)
sends_then {a} {b} {c} {xs} {ys} p q = record {
  failures = counted_then a.failed b.failed c.failed a.held b.held c.held a.pending b.pending c.pending xs ys a.failures b.failures c.failures p.sends q.sends p.failures q.failures;
  sends = then_in a.failed b.failed c.failed a.held b.held c.held a.pending b.pending c.pending xs ys p.sends q.sends;
}

-- ---- strokes

pub after_all-append : (ss ts : List Stroke) (p : Pen) → after_all (ss ++ ts) p ≡ after_all ts (after_all ss p)
after_all-append [] ts p = refl
after_all-append (s ∷ ss) ts p = after_all-append ss ts (after s p)

pub bytes_of-append : (ss ts : List Stroke) (p : Pen) → bytes_of (ss ++ ts) p ≡ bytes_of ss p ++ bytes_of ts (after_all ss p)
bytes_of-append [] ts p = refl
bytes_of-append (s ∷ ss) ts p = ap (λ l. bytes s p ++ l) (bytes_of-append ss ts (after s p)) ∙ sym (append_assoc (bytes s p) (bytes_of ss (after s p)) (bytes_of ts (after_all ss (after s p))))

pub draws_nothing : (a : Tape) → Draws a a []
draws_nothing a = record { pen = refl; sends = sends_nothing a }

pub draws_then : {a b c : Tape} {ss ts : List Stroke} → Draws a b ss → Draws b c ts → Draws a c (ss ++ ts)
draws_then {a} {b} {c} {ss} {ts} p q =
    let ys : Sends b c (bytes_of ts (after_all ss a.pen)) = subst (λ n. Sends b c (bytes_of ts n)) p.pen q.sends in
    record {
      pen = q.pen ∙ ap (after_all ts) p.pen ∙ sym (after_all-append ss ts a.pen);
      sends = subst (Sends a c) (sym (bytes_of-append ss ts a.pen)) (sends_then p.sends ys);
    }

-- other strokes that come to the same
pub draws_as : {a b : Tape} {ss : List Stroke} (ts : List Stroke) → Draws a b ss → after_all ts a.pen ≡ after_all ss a.pen → bytes_of ts a.pen ≡ bytes_of ss a.pen → Draws a b ts
draws_as {a} {b} {ss} ts p same_pen same_bytes = record { pen = p.pen ∙ sym same_pen; sends = subst (Sends a b) (sym same_bytes) p.sends }

pub draws_same : {a b : Tape} {ss ts : List Stroke} → Draws a b ss → ts ≡ ss → Draws a b ts
draws_same {a} {b} {ss} {ts} p same = subst (Draws a b) (sym same) p

-- the same, and the pen is put elsewhere
pub draws_to : {a b : Tape} {ss : List Stroke} (n : Pen) (ts : List Stroke) → Draws a b ss → n ≡ after_all ts a.pen → bytes_of ts a.pen ≡ bytes_of ss a.pen → Draws a (record b { pen = n }) ts
draws_to {a} {b} {ss} n ts p pen_is same_bytes = record {
  pen = pen_is;
  sends = record { failures = p.sends.failures; sends = (subst (Sends a b) (sym same_bytes) p.sends).sends };
}

-- bytes in two parts
pub draws_both : {a b c : Tape} {xs ys : List ℕ} → Draws a b (Bytes xs ∷ []) → Draws b c (Bytes ys ∷ []) → Draws a c (Bytes (xs ++ ys) ∷ [])
draws_both {a} {b} {c} {xs} {ys} p q =
    draws_as (Bytes (xs ++ ys) ∷ []) (draws_then p q) refl (append-nil (xs ++ ys) ∙ sym (ap (λ l. xs ++ l) (append-nil ys)))

pub draws_no_bytes : (a : Tape) → Draws a a (Bytes [] ∷ [])
draws_no_bytes a = draws_as (Bytes [] ∷ []) (draws_nothing a) refl refl

-- ---- what puts nothing out

or_none : (b : Bool) → (b || false) ≡ b
or_none true = refl
or_none false = refl

no_blanks : (p : Pen) → p.blanks ≡ 0 → released p ≡ p
no_blanks p none =
    let same : (p.begun || nat_lt 0 p.blanks) ≡ p.begun = ap (λ (n : ℕ). p.begun || nat_lt 0 n) none ∙ or_none p.begun in
    ap (λ (b : Bool). record p { blanks = 0; begun = b }) same ∙ ap (λ (n : ℕ). record p { blanks = n }) (sym none)

pub draws_no_blanks : (a : Tape) → a.pen.blanks ≡ 0 → Draws a a (Release ∷ [])
draws_no_blanks a none =
    draws_as (Release ∷ []) (draws_nothing a) (no_blanks a.pen none) (ap (λ (n : ℕ). (if n == 0 then [] else lead a.pen.begun ++ replicate n (code " ")) ++ []) none)

pub draws_no_guard : (a : Tape) (b : ℕ) → guard a.pen.begun b ≡ [] → Draws a a (Guard b ∷ [])
draws_no_guard a b none = draws_as (Guard b ∷ []) (draws_nothing a) refl (ap (λ (l : List ℕ). l ++ []) none)
