-- How bytes that are shown pass on to another sink.
use Rattle.std.proofs.Common.{◌≡◌, ℕ, ◌+◌, ◌-◌, ◌<◌, ◌≤◌, List, [], ◌∷◌, ◌++◌, length, take, drop, Bool, true, false, Option, None, Some, Result, Ok, Err, IsErr, OnOk, refl, sym, ◌∙◌, ap, subst, append_assoc, append-nil, arith}
use Rattle.std.proofs.lemmas.Grind.{common_steps}
use Rattle.std.proofs.Math.Logic.{∥∥₁_map}
use Rattle.std.specs.Result.{is_err}
use Rattle.std.specs.Io.KnownBytes.{Appends, Keeps}
use Rattle.std.proofs.KnownBytes.{Appends-nil, Appends-trans}
use Rattle.nr_units.specs.Failures.{SinkFailures, next_count, put_counted}
use Rattle.nr_units.specs.Sink.{AppendsPrefix}
use Rattle.nr_units.specs.declared.source.Fault.{Fault}
use Rattle.nr_units.proofs.Prefixes.{AppendsPrefix-append}
use Rattle.document_stages.specs.Running.{Flushes, PrefixAtErr}
use Rattle.utf8_converter.specs.Showing.{AddsPrefix, Sends}
use Rattle.utf8_converter.proofs.Passing.{AddsPrefix-more, AddsPrefix-of, AddsPrefix-then, Sends-kept, Sends-on, puts-failed, puts-went}
use Rattle.utf8_own_characters.specs.Table.{Characters}
use Rattle.utf8_own_sink.specs.declared.cells.Reader.{Reader}
use Rattle.utf8_own_sink.specs.Reading.{Emitted, Moves, fed, first}
use Rattle.utf8_own_sink.specs.Showing.{Broke, Making, Reads, Stands, StandsOr, Takes}
use Rattle.utf8_own_sink.proofs.Going.{fed-append_bytes, fed-append_reader}

-- ---- bytes are taken

pub Takes-err : (t : Characters) (x : Result (Unit {0}) Fault) (a b : Option (List ℕ)) (r s : Reader) (p left bytes : List ℕ) → IsErr x → AppendsPrefix a b (p ++ (fed t r bytes).bytes) → Takes t a b r s p left bytes x
Takes-err t (Ok n) a b r s p left bytes e prefix = absurd (let never : false ≡ true = e in cc)
Takes-err t (Err f) a b r s p left bytes e prefix = prefix

-- what waits goes out
pub Waits-out : (t : Characters) (x : Result (Unit {0}) Fault) (a b : Option (List ℕ)) (r : Reader) (p left : List ℕ) → OnOk x (Appends a b p) → PrefixAtErr x a b p → OnOk x (left ≡ []) → Takes t a b r r p left [] x
Waits-out t (Ok x) a b r p left went prefix none = record {
  reader = refl;
  out = record { out = p; went_out = went; all = ap (λ (zs : List ℕ). p ++ zs) (sym none) };
}
Waits-out t (Err e) a b r p left went prefix none =
    let P : List ℕ → Type 0 = λ zs. AppendsPrefix a b zs in
    subst P (sym (append-nil p)) prefix

-- the end, after what waits
Closes : (a b c : Option (List ℕ)) (p q e : List ℕ) → Flushes a b p q → Appends b c (q ++ e) → Appends a c (p ++ e)
Closes a b c p q e f went =
    subst (λ (zs : List ℕ). Appends a c zs) (sym (append_assoc f.out q e) ∙ ap (λ (zs : List ℕ). zs ++ e) (sym f.all)) (Appends-trans a b c f.out (q ++ e) f.went_out went)

pub Closes-ok : (x : Result (Unit {0}) Fault) (a b c : Option (List ℕ)) (p q e left : List ℕ) → Flushes a b p q → left ≡ q ++ e → OnOk x (Appends b c left) → OnOk x (Appends a c (p ++ e))
Closes-ok (Ok n) a b c p q e left f is went = Closes a b c p q e f (subst (λ (zs : List ℕ). Appends b c zs) is went)
Closes-ok (Err n) a b c p q e left f is went = tt

pub Closes-err : (x : Result (Unit {0}) Fault) (a b c : Option (List ℕ)) (p q e left : List ℕ) → Flushes a b p q → left ≡ q ++ e → PrefixAtErr x b c left → PrefixAtErr x a c (p ++ e)
Closes-err (Ok n) a b c p q e left f is prefix = tt
Closes-err (Err n) a b c p q e left f is prefix = AddsPrefix-then a b c p q e f (subst (λ (zs : List ℕ). AppendsPrefix b c zs) is prefix)

pub Closes-room : (x : Result (Unit {0}) Fault) (a b : Option (List ℕ)) (p e : List ℕ) → AppendsPrefix a b p → PrefixAtErr x a b (p ++ e)
Closes-room (Ok n) a b p e prefix = tt
Closes-room (Err n) a b p e prefix = AppendsPrefix-append a b p e prefix

-- ---- how it stands

sends_first : (begun : Option (List ℕ)) (waits : List ℕ) → waits ≡ [] → Sends begun begun waits []
sends_first None waits none = tt
sends_first (Some xs) waits none = (ap (λ (zs : List ℕ). xs ++ zs) none, omega arith)

pub Stands-first : (m : Making) (r : Reader) (waits : List ℕ) → r ≡ first m.escapes → waits ≡ [] → Stands m [] m.begun m.failed r waits
Stands-first m r waits is none = record { reader = is; out = sends_first m.begun waits none; none = refl }

Stands-read : (m : Making) (came bytes : List ℕ) (a b : Option (List ℕ)) (f g : ℕ) (r s : Reader) (p left : List ℕ) → Stands m came a f r p → Reads m.table a b r s p left bytes → g ≡ f → Stands m (came ++ bytes) b g s left
Stands-read m came bytes a b f g r s p left st reads same =
    let t = m.table in
    let F = fed t (first m.escapes) came in
    let here : fed t F.reader bytes ≡ fed t r bytes = ap (λ (x : Reader). fed t x bytes) (sym st.reader) in
    let whole : (fed t (first m.escapes) (came ++ bytes)).bytes ≡ F.bytes ++ (fed t r bytes).bytes = fed-append_bytes t (first m.escapes) came bytes ∙ ap (λ (x : Emitted). F.bytes ++ x.bytes) here in
    let P : List ℕ → Type 0 = λ zs. Sends m.begun b left zs in
    record {
      reader = reads.reader ∙ ap (λ (x : Emitted). x.reader) (sym here) ∙ sym (fed-append_reader t (first m.escapes) came bytes);
      out = subst P (sym whole) (Sends-on m.begun a b p left F.bytes (fed t r bytes).bytes st.out reads.out);
      none = same ∙ st.none;
    }

Stands-broke : (m : Making) (came bytes : List ℕ) (a b : Option (List ℕ)) (f g : ℕ) (r : Reader) (p : List ℕ) → Stands m came a f r p → AppendsPrefix a b (p ++ (fed m.table r bytes).bytes) → g ≡ next_count f
    → Broke m (came ++ bytes) b g
Stands-broke m came bytes a b f g r p st prefix one =
    let t = m.table in
    let F = fed t (first m.escapes) came in
    let whole : (fed t (first m.escapes) (came ++ bytes)).bytes ≡ F.bytes ++ (fed t r bytes).bytes =
    fed-append_bytes t (first m.escapes) came bytes ∙ ap (λ (x : Reader). F.bytes ++ (fed t x bytes).bytes) (sym st.reader) in
    let P : List ℕ → Type 0 = λ zs. AddsPrefix m.begun b zs in
    record {
      out = subst P (sym whole) (AddsPrefix-of m.begun a b p F.bytes (fed t r bytes).bytes st.out prefix);
      one = one ∙ ap next_count st.none;
    }

pub Broke-more : (m : Making) (came bytes : List ℕ) (a : Option (List ℕ)) (f : ℕ) → Broke m came a f → Broke m (came ++ bytes) a f
Broke-more m came bytes a f br =
    let t = m.table in
    let F = fed t (first m.escapes) came in
    let P : List ℕ → Type 0 = λ zs. AddsPrefix m.begun a zs in
    record { out = subst P (sym (fed-append_bytes t (first m.escapes) came bytes)) (AddsPrefix-more m.begun a F.bytes (fed t F.reader bytes).bytes br.out); one = br.one }

broke_is : (m : Making) (came new : List ℕ) (a b : Option (List ℕ)) (f g : ℕ) → new ≡ came → b ≡ a → g ≡ f → Broke m came a f → Broke m new b g
broke_is m came new a b f g more held failed br =
    let P : List ℕ → Type 0 = λ zs. Broke m zs a f in
    let Q : Option (List ℕ) → Type 0 = λ x. Broke m new x f in
    let R : ℕ → Type 0 = λ k. Broke m new b k in
    subst R (sym failed) (subst Q (sym held) (subst P (sym more) br))

Stands-kept : (m : Making) (came : List ℕ) (a b : Option (List ℕ)) (f g : ℕ) (r : Reader) (p : List ℕ) → Stands m came a f r p → Keeps a b → g ≡ f → Stands m came b g r p
Stands-kept m came a b f g r p st kept same = record {
  reader = st.reader;
  out = Sends-kept m.begun a b p (fed m.table (first m.escapes) came).bytes st.out kept;
  none = same ∙ st.none;
}

-- ---- one call

call-failed : (t : Characters) (x : Result (Unit {0}) Fault) (a b : Option (List ℕ)) (r s : Reader) (p left bytes : List ℕ) → is_err x ≡ true → Takes t a b r s p left bytes x → AppendsPrefix a b (p ++ (fed t r bytes).bytes)
call-failed t (Ok n) a b r s p left bytes e takes = absurd (let never : false ≡ true = e in cc)
call-failed t (Err f) a b r s p left bytes e takes = takes

call-went : (t : Characters) (x : Result (Unit {0}) Fault) (a b : Option (List ℕ)) (r s : Reader) (p left bytes : List ℕ) → is_err x ≡ false → Takes t a b r s p left bytes x → Reads t a b r s p left bytes
call-went t (Ok n) a b r s p left bytes e takes = takes
call-went t (Err f) a b r s p left bytes e takes = absurd (let never : true ≡ false = e in cc)

pub broken-more : (z : Bool) (m : Making) (came new bytes : List ℕ) (a b : Option (List ℕ)) (f g : ℕ) (r : Reader) (p : List ℕ) → z ≡ true → ∥ StandsOr z m came a f r p ∥₁
    → new ≡ came ++ bytes → b ≡ a → g ≡ f → ∥ Broke m new b g ∥₁
broken-more false m came new bytes a b f g r p e st more held failed = absurd (let never : false ≡ true = e in cc)
broken-more true m came new bytes a b f g r p e st more held failed = ∥∥₁_map st (λ br. broke_is m (came ++ bytes) new a b f g more held failed (Broke-more m came bytes a f br))

breaks : (z : Bool) (m : Making) (came new bytes : List ℕ) (a b : Option (List ℕ)) (f g : ℕ) (r : Reader) (p : List ℕ) → z ≡ false → ∥ StandsOr z m came a f r p ∥₁
    → new ≡ came ++ bytes → AppendsPrefix a b (p ++ (fed m.table r bytes).bytes) → g ≡ next_count f → ∥ Broke m new b g ∥₁
breaks false m came new bytes a b f g r p e st more prefix failed = ∥∥₁_map st (λ s. broke_is m (came ++ bytes) new b b g g more refl refl (Stands-broke m came bytes a b f g r p s prefix failed))
breaks true m came new bytes a b f g r p e st more prefix failed = absurd (let never : true ≡ false = e in cc)

reads-on : (z : Bool) (m : Making) (came new bytes : List ℕ) (a b : Option (List ℕ)) (f g : ℕ) (r s : Reader) (p left : List ℕ) → z ≡ false → ∥ StandsOr z m came a f r p ∥₁
    → new ≡ came ++ bytes → Reads m.table a b r s p left bytes → g ≡ f → ∥ StandsOr z m new b g s left ∥₁
reads-on false m came new bytes a b f g r s p left e st more reads failed = ∥∥₁_map st (λ stands.
    let P : List ℕ → Type 0 = λ zs. Stands m zs b g s left in
    subst P (sym more) (Stands-read m came bytes a b f g r s p left stands reads failed))
reads-on true m came new bytes a b f g r s p left e st more reads failed = absurd (let never : true ≡ false = e in cc)

kept-on : (z : Bool) (m : Making) (came : List ℕ) (a b : Option (List ℕ)) (f g : ℕ) (r : Reader) (p : List ℕ) → z ≡ false → ∥ StandsOr z m came a f r p ∥₁ → Keeps a b → g ≡ f → ∥ StandsOr z m came b g r p ∥₁
kept-on false m came a b f g r p e st kept same = ∥∥₁_map st (λ s. Stands-kept m came a b f g r p s kept same)
kept-on true m came a b f g r p e st kept same = absurd (let never : true ≡ false = e in cc)

-- a call that went, and one that failed
pub call-on : (z : Bool) (m : Making) (came new bytes : List ℕ) (a b : Option (List ℕ)) (f g : SinkFailures) (r s : Reader) (p left : List ℕ) (x : Result (Unit {0}) Fault) → z ≡ false
    → ∥ StandsOr z m came a f.puts r p ∥₁ → new ≡ came ++ bytes → is_err x ≡ false → Takes m.table a b r s p left bytes x → g ≡ put_counted f x → ∥ StandsOr z m new b g.puts s left ∥₁
call-on z m came new bytes a b f g r s p left x e st more went takes failed =
    reads-on z m came new bytes a b f.puts g.puts r s p left e st more (call-went m.table x a b r s p left bytes went takes) (puts-went x f g went failed)

pub call-breaks : (z : Bool) (m : Making) (came new bytes : List ℕ) (a b : Option (List ℕ)) (f g : SinkFailures) (r s : Reader) (p left : List ℕ) (x : Result (Unit {0}) Fault) → z ≡ false
    → ∥ StandsOr z m came a f.puts r p ∥₁ → new ≡ came ++ bytes → is_err x ≡ true → Takes m.table a b r s p left bytes x → g ≡ put_counted f x → ∥ Broke m new b g.puts ∥₁
call-breaks z m came new bytes a b f g r s p left x e st more broke takes failed =
    breaks z m came new bytes a b f.puts g.puts r p e st more (call-failed m.table x a b r s p left bytes broke takes) (puts-failed x f g broke failed)

-- a call that went, and then a flush
pub call-flushed : (z : Bool) (m : Making) (came : List ℕ) (a b c : Option (List ℕ)) (f g h : SinkFailures) (r s : Reader) (p left : List ℕ) (x : Result (Unit {0}) Fault) → z ≡ false
    → ∥ StandsOr z m came a f.puts r p ∥₁ → is_err x ≡ false → Takes m.table a b r s p left [] x → g ≡ put_counted f x → Keeps b c → h.puts ≡ g.puts → ∥ StandsOr z m came c h.puts s left ∥₁
call-flushed z m came a b c f g h r s p left x e st went takes failed kept same =
    kept-on z m came b c g.puts h.puts s left e (call-on z m came came [] a b f g r s p left x e st (sym (append-nil came)) went takes failed) kept same

-- ---- what comes of bytes that are read in parts

Flushes-between : (a b c : Option (List ℕ)) (x q left y : List ℕ) → Flushes a b x (q ++ y) → Flushes b c q left → Flushes a c x (left ++ y)
Flushes-between a b c x q left y f h = record {
  out = f.out ++ h.out;
  went_out = Appends-trans a b c f.out h.out f.went_out h.went_out;
  all = f.all ∙ ap (λ (zs : List ℕ). f.out ++ zs) (ap (λ (zs : List ℕ). zs ++ y) h.all ∙ append_assoc h.out left y) ∙ sym (append_assoc f.out h.out (left ++ y));
}

pub Flushes-moved : (t : Characters) (a b c : Option (List ℕ)) (s u : Reader) (x q w left bytes rest : List ℕ) → Flushes a b x (q ++ (fed t s bytes).bytes) → Flushes b c q w → Moves t s u w left bytes rest
    → Flushes a c x (left ++ (fed t u rest).bytes)
Flushes-moved t a b c s u x q w left bytes rest f h moves =
    subst (λ (zs : List ℕ). Flushes a c x zs) (sym moves.text) (Flushes-between a b c x q w (fed t s bytes).bytes f h)

pub Prefix-between : (a b c : Option (List ℕ)) (x q y : List ℕ) → Flushes a b x (q ++ y) → AppendsPrefix b c q → AppendsPrefix a c x
Prefix-between a b c x q y f prefix =
    subst (λ (zs : List ℕ). AppendsPrefix a c zs) (append-nil x)
    (AddsPrefix-then a b c x (q ++ y) [] f (subst (λ (zs : List ℕ). AppendsPrefix b c zs) (sym (append-nil (q ++ y))) (AppendsPrefix-append b c q y prefix)))

pub Reads-all : (t : Characters) (a b : Option (List ℕ)) (r s : Reader) (p left bytes rest : List ℕ) → rest ≡ [] → (fed t s rest).reader ≡ (fed t r bytes).reader → Flushes a b (p ++ (fed t r bytes).bytes) (left ++ (fed t s rest).bytes)
    → Reads t a b r s p left bytes
Reads-all t a b r s p left bytes rest none is out =
    let F = fed t r bytes in
    record {
      reader = sym (ap (λ (zs : List ℕ). (fed t s zs).reader) none) ∙ is;
      out = subst (λ (zs : List ℕ). Flushes a b (p ++ F.bytes) zs) (ap (λ (zs : List ℕ). left ++ (fed t s zs).bytes) none ∙ append-nil left) out;
    }

-- the bytes from a place on
pub rest-whole : (at : ℕ) (xs : List ℕ) → take (length xs - at) (drop at xs) ≡ drop at xs
rest-whole at xs = grind (arith, common_steps)

pub within-past : (at n : ℕ) (xs : List ℕ) → at ≤ length xs → n ≤ length (take (length xs - at) (drop at xs)) → at + n ≤ length xs
within-past at n xs l m = grind (arith, common_steps)
