-- How far the answer for a text is known as it is scanned, and the answer where the scan ends.
use Prim.Native.Char.{code}
use Rattle.std.proofs.Common.{◌≡◌, ℕ, zero, suc, ◌+◌, ◌*◌, ◌<◌, ◌≤◌, Option, Some, None, List, [], ◌∷◌, ◌++◌, length, take, ℤ, inl, inr, ◌⊎◌, arith, refl, ap, sym, subst, append_assoc, append-nil, ◌∙◌}
use Rattle.std.specs.Option.{option_map, option_and_then}
use Rattle.nr_units.specs.Grammar.{Expression}
use Rattle.nr_units.specs.Expression.{past, expression_value}
use Rattle.nr_units.specs.Scan.{symbol_of, number_of, number_value, value_in, level_value, completed, in_mode, capped, more_whole, more_fraction, with_digit, with_point, bar_in, with_open, with_close, with_blank, on_level, fresh, Scan, after_symbol, after_byte, run, start}
use Rattle.nr_units.specs.declared.units.Scale.{Scale}
use Rattle.nr_units.specs.declared.operators.Operator.{Operator}
use Rattle.nr_units.specs.declared.symbols.Symbol.{Symbol}
use Rattle.nr_units.specs.declared.symbols.Symbol.TheVariants.{Digit, Point, Letter, Mark, Bar, Open, Close, Blank}
use Rattle.nr_units.specs.declared.level.Waiting.{Waiting}
use Rattle.nr_units.specs.declared.level.Mode.{Mode}
use Rattle.nr_units.specs.declared.level.Mode.TheVariants.{Before, LonePoint, Whole, Fraction, Complete}
use Rattle.nr_units.specs.declared.level.Level.{Level}
use Rattle.nr_units.specs.declared.expression.Ctx.{Ctx}
use Rattle.nr_units.specs.Scan.{whole_value}
use Rattle.nr_units.specs.Expression.{IsPrefix, IsTooDeep}
use Rattle.std.proofs.lemmas.List.{length-take, length-append}
use Rattle.std.proofs.lemmas.Bool.Decides.{leb_tells}
use Rattle.nr_units.specs.Expression.{IsAnswer, Longest, Nothing as NoPrefix, TooDeep as Deep}
use Rattle.nr_units.specs.Scanner.{read_at, noted, Steps}
use Rattle.nr_units.specs.declared.expression.Read.{Read}
use Rattle.nr_units.specs.declared.scanner.Step.TheVariants.{Taken, TooDeep}
use Rattle.nr_units.proofs.Runs.{run-append, run-then, run-one}
use Rattle.nr_units.proofs.Texts.{IsByteOf, symbol_tells}
use Rattle.nr_units.proofs.ExpressionPrefixes.{IsRead, expression_read, read_spelled, open_ends, run-prefix, open_fresh, depth, outermost-nil, value_outer}

-- ---- prefixes by the scan

pub prefix_read : (c : Ctx) (text : List ℕ) (m : ℕ) (e : Expression) → IsPrefix text m e → IsRead c (take m text) (expression_value c e)
prefix_read c text m e f = subst (λ u. IsRead c u (expression_value c e)) (sym f.prefix) (expression_read c e)

not_prefix : (c : Ctx) (text : List ℕ) (m : ℕ) (s : Scan) (e : Expression) → run c start (take m text) ≡ Some s → whole_value c s ≡ None → IsPrefix text m e → ⊥
not_prefix c text m s e h no_value f =
    let r = prefix_read c text m e f in
    let same : Some r.to ≡ Some s = sym r.runs ∙ h in
    let to : r.to ≡ s = cc in
    let no : ◌≡◌ {A = Option (Option ℤ)} (Some (expression_value c e)) None = sym r.value ∙ ap (whole_value c) to ∙ no_value in
    cc

is_prefix : (c : Ctx) (text : List ℕ) (m : ℕ) (s : Scan) (v : Option ℤ) → m ≤ length text → run c start (take m text) ≡ Some s → whole_value c s ≡ Some v → (e : Expression) × IsPrefix text m e × (v ≡ expression_value c e)
is_prefix c text m s v within h value =
    let e = read_spelled c (take m text) s v h value in
    (e.expression, record { within = within; prefix = sym e.text }, sym e.value)

-- a longer prefix begins with a shorter one
take-more : (i m : ℕ) (text : List ℕ) → i ≤ m → (v : List ℕ) × (take m text ≡ take i text ++ v)
take-more zero m text h = (take m text, refl)
take-more (suc i) zero text h = absurd (omega arith)
take-more (suc i) (suc m) [] h = ([], refl)
take-more (suc i) (suc m) (x ∷ xs) h = let v = take-more i m xs (omega arith) in (v.0, ap (λ u. x ∷ u) v.1)

-- ---- the answer for the prefixes of at most i bytes

pub record Covers (c : Ctx) (text : List ℕ) (i : ℕ) (read : Read) : Type 0 where
  pub longest : (m : ℕ) (e : Expression) → m ≤ i → IsPrefix text m e → m ≤ read.used
  pub found : ((e : Expression) × IsPrefix text read.used e × (read.value ≡ expression_value c e)) ⊎ ((read.value ≡ None) × (read.used ≡ 0) × ((m : ℕ) (e : Expression) → m ≤ i → IsPrefix text m e → ⊥))

pub record Along (c : Ctx) (text : List ℕ) (i : ℕ) (s : Scan) (read : Read) : Type 0 where
  pub within : i ≤ length text
  pub reads : run c start (take i text) ≡ Some s
  pub shallow : (k : ℕ) → k < i → IsTooDeep text k → ⊥
  pub covers : whole_value c s ≡ None → Covers c text i read

-- what is known with the bytes so far
covers_at : (c : Ctx) (text : List ℕ) (i : ℕ) (s : Scan) (read : Read) (r : Option (Option ℤ)) → Along c text i s read → whole_value c s ≡ r → Covers c text i (read_at r i read)
covers_at c text i s read None a h = a.covers h
covers_at c text i s read (Some v) a h = record {
  longest = λ m e short f. short;
  found = inl (is_prefix c text i s v a.within a.reads h);
}

pub begins : (c : Ctx) (text : List ℕ) → Along c text 0 start (record { value = None; used = 0 })
begins c text = record {
  within = omega arith;
  reads = refl;
  shallow = λ k h. absurd (omega arith);
  covers = λ h. record {
    longest = λ m e short f. short;
    found = inr (refl, refl, λ m e short f. not_prefix c text 0 start e refl refl (subst (λ n. IsPrefix text n e) (let z : m ≡ 0 = omega arith in z) f));
  };
}

-- ---- one more byte

-- only an operator leaves the end of an operand
digit_stays : (c : Ctx) (w : Waiting) (m : Mode) (d : ℕ) (v : Option ℤ) (l : Level) → value_in c w m ≡ Some v → option_map (in_mode (record { mode = m; waiting = w })) (with_digit d m) ≡ Some l → (x : Option ℤ) × (level_value c l ≡ Some x)
digit_stays c w (Before b) d v l h k = cc
digit_stays c w LonePoint d v l h k = cc
digit_stays c w (Whole n) d v l h k =
    let e : l ≡ in_mode (record { mode = Whole n; waiting = w }) (more_whole n d) = cc in
    (number_value c c.default w (10000 * capped (capped (n * 10) + d)), ap (level_value c) e)
digit_stays c w (Fraction n f p) d v l h k =
    let e : l ≡ in_mode (record { mode = Fraction n f p; waiting = w }) (more_fraction n f p d) = cc in
    (number_value c c.default w (10000 * n + capped (f + capped (p * d))), ap (level_value c) e)
digit_stays c w (Complete x) d v l h k = cc

point_stays : (c : Ctx) (w : Waiting) (m : Mode) (v : Option ℤ) (l : Level) → value_in c w m ≡ Some v → option_map (in_mode (record { mode = m; waiting = w })) (with_point m) ≡ Some l → (x : Option ℤ) × (level_value c l ≡ Some x)
point_stays c w (Before b) v l h k = cc
point_stays c w LonePoint v l h k = cc
point_stays c w (Whole n) v l h k =
    let e : l ≡ in_mode (record { mode = Whole n; waiting = w }) (Fraction n 0 1000) = cc in
    (number_value c c.default w (10000 * n + 0), ap (level_value c) e)
point_stays c w (Fraction n f p) v l h k = cc
point_stays c w (Complete x) v l h k = cc

letter_stays : (c : Ctx) (scale : Scale) (w : Waiting) (r : Option ℕ) (l : Level) → option_map (λ n. completed (number_value c scale w n)) r ≡ Some l → (x : Option ℤ) × (level_value c l ≡ Some x)
letter_stays c scale w None l k = cc
letter_stays c scale w (Some n) l k =
    let e : l ≡ completed (number_value c scale w n) = cc in (number_value c scale w n, ap (level_value c) e)

level_stays : (c : Ctx) (ws : List Waiting) (t : Scan) (r : Option Level) → ws ≡ [] → on_level ws r ≡ Some t → ((l : Level) → r ≡ Some l → (x : Option ℤ) × (level_value c l ≡ Some x)) → whole_value c t ≡ None → ⊥
level_stays c ws t None nil h stays none = cc
level_stays c ws t (Some l) nil h stays none =
    let x = stays l refl in
    let same : record { level = l; outer = ws } ≡ t = cc in
    let no : ◌≡◌ {A = Option (Option ℤ)} (Some x.0) None = sym (outermost-nil c (record { level = l; outer = ws }) (Some x.0) x.1 nil) ∙ ap (whole_value c) same ∙ none in
    cc

no_bar : (c : Ctx) (w : Waiting) (m : Mode) (v : Option ℤ) (l : Level) → value_in c w m ≡ Some v → bar_in c.here w m ≡ Some l → (x : Option ℤ) × (level_value c l ≡ Some x)
no_bar c w (Before b) v l h k = cc
no_bar c w LonePoint v l h k = cc
no_bar c w (Whole n) v l h k = cc
no_bar c w (Fraction n f p) v l h k = cc
no_bar c w (Complete x) v l h k = cc

no_open : (c : Ctx) (s : Scan) (w : Waiting) (m : Mode) (v : Option ℤ) (t : Scan) → value_in c w m ≡ Some v → with_open s m ≡ Some t → ⊥
no_open c s w (Before b) v t h k = cc
no_open c s w LonePoint v t h k = cc
no_open c s w (Whole n) v t h k = cc
no_open c s w (Fraction n f p) v t h k = cc
no_open c s w (Complete x) v t h k = cc

leaves : (c : Ctx) (s : Scan) (y : Symbol) (t : Scan) (v : Option ℤ) → ((o : Operator) → y ≡ Mark o → ⊥) → whole_value c s ≡ Some v → after_symbol c s y ≡ Some t → whole_value c t ≡ None → ⊥
leaves c s (Digit d) t v no_mark value step none =
    let o = value_outer c s.level s.outer v value in
    level_stays c s.outer t _ o.0 step (λ l e. digit_stays c s.level.waiting s.level.mode d v l o.1 e) none
leaves c s Point t v no_mark value step none =
    let o = value_outer c s.level s.outer v value in
    level_stays c s.outer t _ o.0 step (λ l e. point_stays c s.level.waiting s.level.mode v l o.1 e) none
leaves c s (Letter scale) t v no_mark value step none =
    let o = value_outer c s.level s.outer v value in
    level_stays c s.outer t _ o.0 step (λ l e. letter_stays c scale s.level.waiting (number_of s.level.mode) l e) none
leaves c s (Mark o) t v no_mark value step none = no_mark o refl
leaves c s Bar t v no_mark value step none =
    let o = value_outer c s.level s.outer v value in
    level_stays c s.outer t _ o.0 step (λ l e. no_bar c s.level.waiting s.level.mode v l o.1 e) none
leaves c s Open t v no_mark value step none =
    let o = value_outer c s.level s.outer v value in no_open c s s.level.waiting s.level.mode v t o.1 step
leaves c s Close t v no_mark value step none =
    let o = value_outer c s.level s.outer v value in
    let no : ◌≡◌ {A = Option Scan} None (Some t) = sym (ap (with_close c s.level) o.0) ∙ step in cc
leaves c s Blank t v no_mark value step none =
    let o = value_outer c s.level s.outer v value in
    let no : ◌≡◌ {A = Option Scan} None (Some t) = sym (ap (with_blank c s.level) o.0) ∙ step in cc

covers_more : (c : Ctx) (text : List ℕ) (i : ℕ) (t : Scan) (read : Read) → Covers c text i read → run c start (take (suc i) text) ≡ Some t → whole_value c t ≡ None → Covers c text (suc i) read
covers_more c text i t read k h none =
    let last : (m : ℕ) (e : Expression) → m ≡ suc i → IsPrefix text m e → ⊥ = λ m e is f. not_prefix c text (suc i) t e h none (subst (λ n. IsPrefix text n e) is f) in
    record {
      longest = λ m e short f. elim (leb_tells m i) [ inl w ↦ k.longest m e w.1 f | inr w ↦ absurd (last m e (let high = w.1 in omega arith) f) ];
      found = elim k.found [
        | inl w ↦ inl w
        | inr w ↦ inr (w.0, w.1, λ m e short f. elim (leb_tells m i) [ inl x ↦ w.2 m e x.1 f | inr x ↦ last m e (let high = x.1 in omega arith) f ])
      ];
    }

plain_covers : (c : Ctx) (text : List ℕ) (i : ℕ) (y : Symbol) (s t : Scan) (read : Read) → ((o : Operator) → y ≡ Mark o → ⊥) → Along c text i s read → after_symbol c s y ≡ Some t → whole_value c t ≡ None → Covers c text i read
plain_covers c text i y s t read no_mark a step none =
    (elim (whole_value c s) as (λ r. whole_value c s ≡ r → Covers c text i read)
    [ None ↦ λ e. a.covers e | Some v ↦ λ e. absurd (leaves c s y t v no_mark e step none) ]) refl

noted_covers : (c : Ctx) (text : List ℕ) (i : ℕ) (y : Symbol) (s t : Scan) (read : Read) → Along c text i s read → after_symbol c s y ≡ Some t → whole_value c t ≡ None → Covers c text i (noted (whole_value c s) y i read)
noted_covers c text i (Mark o) s t read a step none = covers_at c text i s read (whole_value c s) a refl
noted_covers c text i (Digit d) s t read a step none = plain_covers c text i (Digit d) s t read (λ o e. cc) a step none
noted_covers c text i Point s t read a step none = plain_covers c text i Point s t read (λ o e. cc) a step none
noted_covers c text i (Letter scale) s t read a step none = plain_covers c text i (Letter scale) s t read (λ o e. cc) a step none
noted_covers c text i Bar s t read a step none = plain_covers c text i Bar s t read (λ o e. cc) a step none
noted_covers c text i Open s t read a step none = plain_covers c text i Open s t read (λ o e. cc) a step none
noted_covers c text i Close s t read a step none = plain_covers c text i Close s t read (λ o e. cc) a step none
noted_covers c text i Blank s t read a step none = plain_covers c text i Blank s t read (λ o e. cc) a step none

last-byte : (xs : List ℕ) (a b : ℕ) → xs ++ a ∷ [] ≡ xs ++ b ∷ [] → a ≡ b
last-byte [] a b h = cc
last-byte (x ∷ xs) a b h = let e : xs ++ a ∷ [] ≡ xs ++ b ∷ [] = cc in last-byte xs a b e

-- the parentheses that are open at a place are those that wait
too_deep_waits : (c : Ctx) (text : List ℕ) (i b : ℕ) (y : Symbol) (s : Scan) → take (suc i) text ≡ take i text ++ b ∷ [] → symbol_of b ≡ Some y → run c start (take i text) ≡ Some s → IsTooDeep text i → (y ≡ Open) × (length s.outer ≡ 64)
too_deep_waits c text i b y s more is reads deep =
    let byte : b ≡ code "(" = last-byte (take i text) b (code "(") (sym more ∙ deep.opens) in
    let same : Some Open ≡ Some y = sym (ap symbol_of byte) ∙ is in
    let what : y ≡ Open = cc in
    (what, omega (arith, depth c start (take i text) s reads, deep.depth))

pub advances : (c : Ctx) (text : List ℕ) (i b : ℕ) (y : Symbol) (s t : Scan) (read : Read) → i < length text → take (suc i) text ≡ take i text ++ b ∷ [] → symbol_of b ≡ Some y → Along c text i s read → Steps c s y Taken t → Along c text (suc i) t (noted (whole_value c s) y i read)
advances c text i b y s t read h more is a step =
    let byte : after_byte c s b ≡ Some t = ap (option_and_then (after_symbol c s)) is ∙ step.0 in
    let reads : run c start (take (suc i) text) ≡ Some t = ap (run c start) more ∙ run-then c start s (take i text) (b ∷ []) (Some t) a.reads (run-one c s t b byte) in
    record {
      within = omega arith;
      reads = reads;
      shallow = λ k below deep. elim (leb_tells i k) [
        | inr w ↦ a.shallow k w.1 deep
        | inl w ↦
            let at : k ≡ i = let high = w.1 in omega arith in
            let waits = too_deep_waits c text i b y s more is a.reads (subst (IsTooDeep text) at deep) in
            let room = step.1 waits.0 in
            omega (arith, waits.1, room)
      ];
      covers = λ none. covers_more c text i t (noted (whole_value c s) y i read) (noted_covers c text i y s t read a step.0 none) reads none;
    }

-- ---- where the scan ends

answers : (c : Ctx) (text : List ℕ) (i : ℕ) (s : Scan) (read : Read) (r : Option (Option ℤ)) → Along c text i s read → ((k : ℕ) → IsTooDeep text k → ⊥) → ((m : ℕ) (e : Expression) → IsPrefix text m e → m ≤ i) → whole_value c s ≡ r → IsAnswer c text (read_at r i read)
answers c text i s read None a shallow last h =
    let k = a.covers h in
    elim k.found [
      | inl w ↦ Longest shallow w.0 (record { prefix = w.1; longest = λ m e f. k.longest m e (last m e f) f; value = w.2 })
      | inr w ↦ NoPrefix shallow (λ m e f. w.2 m e (last m e f) f) w.0 w.1
    ]
answers c text i s read (Some v) a shallow last h =
    let e = is_prefix c text i s v a.within a.reads h in
    Longest shallow e.0 (record { prefix = e.1; longest = λ m other f. last m other f; value = e.2 })

-- no expression goes on past a byte where the scan is stuck
blocked : (c : Ctx) (text : List ℕ) (i b : ℕ) (s : Scan) (m : ℕ) (rest : List ℕ) (t : Scan) → take (suc i) text ≡ take i text ++ b ∷ [] → run c start (take i text) ≡ Some s → after_byte c s b ≡ None → i < m → run c start (take m text ++ rest) ≡ Some t → ⊥
blocked c text i b s m rest t more reads step past h =
    let v = take-more (suc i) m text past in
    let whole : run c start (take (suc i) text ++ (v.0 ++ rest)) ≡ Some t = ap (run c start) (sym (append_assoc (take (suc i) text) v.0 rest) ∙ ap (λ u. u ++ rest) (sym v.1)) ∙ h in
    let prefix = run-prefix c start t (take (suc i) text) (v.0 ++ rest) whole in
    let none : run c start (take (suc i) text) ≡ None = ap (run c start) more ∙ run-append c start s (take i text) (b ∷ []) reads ∙ ap (option_and_then (λ x. run c x [])) step in
    let no : ◌≡◌ {A = Option Scan} None (Some prefix.0) = sym none ∙ prefix.1 in
    cc

pub stops : (c : Ctx) (text : List ℕ) (i b : ℕ) (s : Scan) (read : Read) → take (suc i) text ≡ take i text ++ b ∷ [] → after_byte c s b ≡ None → Along c text i s read → IsAnswer c text (read_at (whole_value c s) i read)
stops c text i b s read more step a =
    answers c text i s read (whole_value c s) a
    (λ k deep. elim (leb_tells i k) [
      | inr w ↦ a.shallow k w.1 deep
      | inl w ↦
          let g = deep.goes_on in
          let r = expression_read c g.1 in
          blocked c text i b s (suc k) g.0 r.to more a.reads step (let high = w.1 in omega arith) (ap (run c start) (sym g.2) ∙ r.runs)
    ])
    (λ m e f. elim (leb_tells m i) [
      | inl w ↦ w.1
      | inr w ↦
          let r = prefix_read c text m e f in
          absurd (blocked c text i b s m [] r.to more a.reads step w.1 (ap (run c start) (append-nil (take m text)) ∙ r.runs))
    ])
    refl

pub ends : (c : Ctx) (text : List ℕ) (s : Scan) (read : Read) → Along c text (length text) s read → IsAnswer c text (read_at (whole_value c s) (length text) read)
ends c text s read a =
    answers c text (length text) s read (whole_value c s) a
    (λ k deep. elim (leb_tells (length text) k) [
      | inr w ↦ a.shallow k w.1 deep
      | inl w ↦
          let past = w.1 in
          let lengths : length (take (suc k) text) ≡ length (take k text) + 1 = ap length deep.opens ∙ length-append (take k text) (code "(" ∷ []) in
          omega (arith, lengths, length-take (suc k) text, length-take k text)
    ])
    (λ m e f. f.within)
    refl

pub too_deep : (c : Ctx) (text : List ℕ) (i b : ℕ) (y : Symbol) (s t : Scan) (read : Read) → take (suc i) text ≡ take i text ++ b ∷ [] → symbol_of b ≡ Some y → Along c text i s read → Steps c s y TooDeep t → IsAnswer c text (record { value = None; used = i })
too_deep c text i b y s t read more is a step =
    let byte : b ≡ code "(" = subst (IsByteOf b) step.0 (symbol_tells b y is) in
    let next = step.2 in
    let reads : run c start (take (suc i) text) ≡ Some next.0 =
    ap (run c start) more ∙ run-then c start s (take i text) (b ∷ []) (Some next.0) a.reads (run-one c s next.0 b (ap (option_and_then (after_symbol c s)) is ∙ next.1)) in
    let fresh_is : next.0.level ≡ fresh = open_fresh s s.level.mode next.0 (sym (ap (after_symbol c s) step.0) ∙ next.1) in
    let e = open_ends c (take (suc i) text) next.0 reads fresh_is in
    Deep (record {
      opens = more ∙ ap (λ x. take i text ++ x ∷ []) byte;
      depth = omega (arith, depth c start (take i text) s a.reads, step.1);
      goes_on = (e.rest, e.expression, e.text);
    }) a.shallow refl

-- what was noted counts only where the bytes so far are no expression
pub read_at-noted : (r : Option (Option ℤ)) (y : Symbol) (i : ℕ) (read : Read) → read_at r i (noted r y i read) ≡ read_at r i read
read_at-noted None (Digit d) i read = refl
read_at-noted None Point i read = refl
read_at-noted None (Letter scale) i read = refl
read_at-noted None (Mark o) i read = refl
read_at-noted None Bar i read = refl
read_at-noted None Open i read = refl
read_at-noted None Close i read = refl
read_at-noted None Blank i read = refl
read_at-noted (Some v) y i read = refl
