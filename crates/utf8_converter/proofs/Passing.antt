-- How bytes that are turned pass on to another sink.
use Rattle.std.proofs.Common.{◌≡◌, ℕ, ◌+◌, ◌-◌, ◌^◌, ◌<◌, ◌≤◌, List, [], ◌++◌, length, take, drop, Bool, true, false, Option, None, Some, Result, Ok, Err, IsErr, OnOk, refl, sym, ◌∙◌, ap, subst, append_assoc, append-nil, length-append, arith}
use Rattle.std.proofs.Math.Logic.{∥∥₁_map}
use Rattle.std.specs.Result.{is_err}
use Rattle.std.specs.Io.KnownBytes.{Appends, Keeps}
use Rattle.std.proofs.KnownBytes.{Appends-trans, Appends-nil}
use Rattle.std.proofs.lemmas.List.{length-take, take-append-drop, take-append-le, take_all}
use Rattle.std.proofs.Math.Seq.{take-append-add}
use Rattle.nr_units.specs.Failures.{SinkFailures, next_count, put_counted}
use Rattle.nr_units.specs.Sink.{AppendsPrefix}
use Rattle.nr_units.specs.declared.source.Fault.{Fault}
use Rattle.nr_units.proofs.Prefixes.{AppendsPrefix-append, AppendsPrefix-after}
use Rattle.document_stages.specs.Running.{Flushes, PrefixAtErr, at_most}
use Rattle.utf8_converter.specs.declared.reader.Reader.{Reader}
use Rattle.utf8_converter.specs.Reading.{Emitted, fed, first_reader}
use Rattle.utf8_converter.specs.Staged.{ReadsSome}
use Rattle.utf8_converter.specs.Showing.{Broke, AddsPrefix, Making, Reads, Sends, Stands, StandsOr, TakesAll, TakesSome}
use Rattle.utf8_converter.proofs.Reading.{fed-append_bytes, fed-append_reader, fed-append_strays}
use Rattle.utf8_converter.proofs.Staging.{at_most-none}

-- ---- what waits

pub Flushes-then : (a b c : Option (List ℕ)) (p left end g : List ℕ) → Flushes a b p left → Flushes b c (left ++ g) end → Flushes a c (p ++ g) end
Flushes-then a b c p left end g f h = record {
  out = f.out ++ h.out;
  went_out = Appends-trans a b c f.out h.out f.went_out h.went_out;
  all = ap (λ (xs : List ℕ). xs ++ g) f.all ∙ append_assoc f.out left g ∙ ap (λ (xs : List ℕ). f.out ++ xs) h.all ∙ sym (append_assoc f.out h.out end);
}

pub AddsPrefix-then : (a b c : Option (List ℕ)) (p left g : List ℕ) → Flushes a b p left → AppendsPrefix b c (left ++ g) → AppendsPrefix a c (p ++ g)
AddsPrefix-then a b c p left g f prefix =
    let P : List ℕ → Type 0 = λ xs. AppendsPrefix a c xs in
    subst P (sym (append_assoc f.out left g) ∙ ap (λ (xs : List ℕ). xs ++ g) (sym f.all)) (AppendsPrefix-after a b c f.out (left ++ g) f.went_out prefix)

-- ---- counts that stop

at_most-more : (i a b : ℕ) → at_most (at_most (i + a) + b) ≡ at_most (i + (a + b))
at_most-more i a b = omega arith

-- ---- bytes are taken

pub Reads-none : (a : Option (List ℕ)) (r s : Reader) (p left : List ℕ) (i j : ℕ) → i < 2 ^ 64 → s ≡ r → left ≡ p → j ≡ i → Reads a a r s p left i j []
Reads-none a r s p left i j l is same count = record {
  reader = is;
  out = record { out = []; went_out = Appends-nil a; all = append-nil p ∙ sym same };
  made = count ∙ at_most-none i l;
}

pub Reads-then : (a b c : Option (List ℕ)) (r s u : Reader) (p q left : List ℕ) (i j k : ℕ) (xs ys : List ℕ) → Reads a b r s p q i j xs → Reads b c s u q left j k ys
    → Reads a c r u p left i k (xs ++ ys)
Reads-then a b c r s u p q left i j k xs ys f g =
    let F = fed r xs in
    let here : fed F.reader ys ≡ fed s ys = ap (λ (x : Reader). fed x ys) (sym f.reader) in
    let bytes : (fed r (xs ++ ys)).bytes ≡ F.bytes ++ (fed s ys).bytes = fed-append_bytes r xs ys ∙ ap (λ (t : Emitted). F.bytes ++ t.bytes) here in
    let strays : (fed r (xs ++ ys)).strays ≡ F.strays + (fed s ys).strays = fed-append_strays r xs ys ∙ ap (λ (t : Emitted). F.strays + t.strays) here in
    let P : List ℕ → Type 0 = λ zs. Flushes a c zs left in
    record {
      reader = g.reader ∙ ap (λ (t : Emitted). t.reader) (sym here) ∙ sym (fed-append_reader r xs ys);
      out = subst P (append_assoc p F.bytes (fed s ys).bytes ∙ ap (λ (zs : List ℕ). p ++ zs) (sym bytes)) (Flushes-then a b c (p ++ F.bytes) q left (fed s ys).bytes f.out g.out);
      made = g.made ∙ ap (λ (n : ℕ). at_most (n + (fed s ys).strays)) f.made ∙ at_most-more i F.strays (fed s ys).strays ∙ ap (λ (n : ℕ). at_most (i + n)) (sym strays);
    }

-- some of them
pub Reads-some : (a b : Option (List ℕ)) (r s : Reader) (p left : List ℕ) (i j : ℕ) (bs : List ℕ) (n : ℕ) (room : List ℕ) (end : ℕ) → ReadsSome r s bs n room end i j
    → Flushes a b (p ++ take end room) left → Reads a b r s p left i j (take n bs)
Reads-some a b r s p left i j bs n room end reads out =
    let P : List ℕ → Type 0 = λ xs. Flushes a b (p ++ xs) left in
    record { reader = reads.reader; out = subst P reads.out out; made = reads.made }

-- a prefix of what these bytes come to is one of what more come to
pub Prefix-more : (a b : Option (List ℕ)) (r : Reader) (p : List ℕ) (n : ℕ) (bytes : List ℕ) → AppendsPrefix a b (p ++ (fed r (take n bytes)).bytes) → AppendsPrefix a b (p ++ (fed r bytes).bytes)
Prefix-more a b r p n bytes prefix =
    let rest = (fed (fed r (take n bytes)).reader (drop n bytes)).bytes in
    let whole : (fed r (take n bytes)).bytes ++ rest ≡ (fed r bytes).bytes =
    sym (fed-append_bytes r (take n bytes) (drop n bytes)) ∙ ap (λ (xs : List ℕ). (fed r xs).bytes) (take-append-drop n bytes) in
    let P : List ℕ → Type 0 = λ xs. AppendsPrefix a b xs in
    subst P (append_assoc p (fed r (take n bytes)).bytes rest ∙ ap (λ (xs : List ℕ). p ++ xs) whole) (AppendsPrefix-append a b (p ++ (fed r (take n bytes)).bytes) rest prefix)

-- and after bytes that were read
pub Prefix-then : (a b c : Option (List ℕ)) (r s : Reader) (p q : List ℕ) (i j : ℕ) (xs ys : List ℕ) → Reads a b r s p q i j xs → AppendsPrefix b c (q ++ (fed s ys).bytes)
    → AppendsPrefix a c (p ++ (fed r (xs ++ ys)).bytes)
Prefix-then a b c r s p q i j xs ys f prefix =
    let F = fed r xs in
    let here : fed F.reader ys ≡ fed s ys = ap (λ (x : Reader). fed x ys) (sym f.reader) in
    let bytes : (fed r (xs ++ ys)).bytes ≡ F.bytes ++ (fed s ys).bytes = fed-append_bytes r xs ys ∙ ap (λ (t : Emitted). F.bytes ++ t.bytes) here in
    let P : List ℕ → Type 0 = λ zs. AppendsPrefix a c zs in
    subst P (append_assoc p F.bytes (fed s ys).bytes ∙ ap (λ (zs : List ℕ). p ++ zs) (sym bytes)) (AddsPrefix-then a b c (p ++ F.bytes) q (fed s ys).bytes f.out prefix)

-- where the sink failed
pub Some-err : (x : Result ℕ Fault) (a b : Option (List ℕ)) (r s : Reader) (p left : List ℕ) (i j : ℕ) (bytes : List ℕ) → IsErr x → AppendsPrefix a b (p ++ (fed r bytes).bytes)
    → TakesSome a b r s p left i j bytes x
Some-err (Ok n) a b r s p left i j bytes e prefix = absurd (let never : false ≡ true = e in cc)
Some-err (Err f) a b r s p left i j bytes e prefix = prefix

pub All-err : (x : Result (Unit {0}) Fault) (a b : Option (List ℕ)) (r s : Reader) (p left : List ℕ) (i j : ℕ) (bytes : List ℕ) → IsErr x → AppendsPrefix a b (p ++ (fed r bytes).bytes)
    → TakesAll a b r s p left i j bytes x
All-err (Ok n) a b r s p left i j bytes e prefix = absurd (let never : false ≡ true = e in cc)
All-err (Err f) a b r s p left i j bytes e prefix = prefix

pub counted-err : (x : Result (Unit {0}) Fault) (old loop new : SinkFailures) → IsErr x → loop ≡ old → new ≡ record loop { puts = next_count loop.puts } → new ≡ put_counted old x
counted-err (Ok n) old loop new e same is = absurd (let never : false ≡ true = e in cc)
counted-err (Err f) old loop new e same is = is ∙ ap (λ (q : SinkFailures). record q { puts = next_count q.puts }) same

-- what waits goes out
pub Waits-out : (x : Result (Unit {0}) Fault) (a b : Option (List ℕ)) (r : Reader) (p left : List ℕ) (i : ℕ) → i < 2 ^ 64 → OnOk x (Appends a b p) → PrefixAtErr x a b p → OnOk x (left ≡ [])
    → TakesAll a b r r p left i i [] x
Waits-out (Ok x) a b r p left i l went prefix none = record {
  reader = refl;
  out = record { out = p; went_out = went; all = ap (λ (xs : List ℕ). p ++ xs) (sym none) };
  made = at_most-none i l;
}
Waits-out (Err e) a b r p left i l went prefix none =
    let P : List ℕ → Type 0 = λ xs. AppendsPrefix a b xs in
    subst P (sym (append-nil p)) prefix

pub Flushes-prefix : (x : Result ℕ Fault) (a b c : Option (List ℕ)) (p left : List ℕ) → Flushes a b p left → AppendsPrefix b c left → PrefixAtErr x a c p
Flushes-prefix (Ok n) a b c p left f prefix = tt
Flushes-prefix (Err e) a b c p left f prefix =
    let P : List ℕ → Type 0 = λ xs. AppendsPrefix a c xs in
    subst P (sym f.all) (AppendsPrefix-after a b c f.out left f.went_out prefix)

-- ---- what the other sink holds

pub Sends-on : (begun a b : Option (List ℕ)) (waits left text more : List ℕ) → Sends begun a waits text → Flushes a b (waits ++ more) left → Sends begun b left (text ++ more)
Sends-on None a b waits left text more s f = tt
Sends-on (Some xs) None b waits left text more s f = absurd s
Sends-on (Some xs) (Some ys) None waits left text more s f = absurd f.went_out
Sends-on (Some xs) (Some ys) (Some zs) waits left text more s f =
    let grown : zs ≡ ys ++ f.out = f.went_out in
    let long : length zs ≡ length ys + length f.out = ap length grown ∙ length-append ys f.out in
    let before : length xs ≤ length ys = s.1 in (
      ap (λ (ws : List ℕ). ws ++ left) grown ∙ append_assoc ys f.out left ∙ ap (λ (ws : List ℕ). ys ++ ws) (sym f.all)
          ∙ sym (append_assoc ys waits more) ∙ ap (λ (ws : List ℕ). ws ++ more) s.0 ∙ append_assoc xs text more,
      omega (arith, long, before),
    )

pub AddsPrefix-of : (begun a b : Option (List ℕ)) (waits text more : List ℕ) → Sends begun a waits text → AppendsPrefix a b (waits ++ more) → AddsPrefix begun b (text ++ more)
AddsPrefix-of None a b waits text more s f = tt
AddsPrefix-of (Some xs) None b waits text more s f = absurd s
AddsPrefix-of (Some xs) (Some ys) None waits text more s f = absurd f.3
AddsPrefix-of (Some xs) (Some ys) (Some zs) waits text more s f =
    let grown : zs ≡ ys ++ f.0 = f.3 in
    let long : length zs ≡ length ys + length f.0 = ap length grown ∙ length-append ys f.0 in
    let before : length xs ≤ length ys = s.1 in
    let all : xs ++ (text ++ more) ≡ zs ++ f.1 =
    sym (append_assoc xs text more) ∙ ap (λ (ws : List ℕ). ws ++ more) (sym s.0) ∙ append_assoc ys waits more ∙ ap (λ (ws : List ℕ). ys ++ ws) f.2
    ∙ sym (append_assoc ys f.0 f.1) ∙ ap (λ (ws : List ℕ). ws ++ f.1) (sym grown) in
    (ap (λ (ws : List ℕ). take (length zs) ws) all ∙ take-append-le (length zs) zs f.1 (omega arith) ∙ take_all (length zs) zs (omega arith), omega (arith, long, before))

pub AddsPrefix-more : (begun a : Option (List ℕ)) (text more : List ℕ) → AddsPrefix begun a text → AddsPrefix begun a (text ++ more)
AddsPrefix-more None a text more f = tt
AddsPrefix-more (Some xs) None text more f = absurd f
AddsPrefix-more (Some xs) (Some ys) text more f =
    let prefix : take (length ys) (xs ++ text) ≡ ys = f.0 in
    let most = length-take (length ys) (xs ++ text) in
    let same : length (take (length ys) (xs ++ text)) ≡ length ys = ap length prefix in
    (ap (λ (ws : List ℕ). take (length ys) ws) (sym (append_assoc xs text more)) ∙ take-append-le (length ys) (xs ++ text) more (omega (arith, most, same)) ∙ prefix, f.1)

pub Sends-kept : (begun a b : Option (List ℕ)) (waits text : List ℕ) → Sends begun a waits text → Keeps a b → Sends begun b waits text
Sends-kept None a b waits text s k = tt
Sends-kept (Some xs) None b waits text s k = absurd s
Sends-kept (Some xs) (Some ys) None waits text s k = absurd k
Sends-kept (Some xs) (Some ys) (Some zs) waits text s k =
    let P : List ℕ → Type 0 = λ ws. Sends (Some xs) (Some ws) waits text in
    let same : zs ≡ ys = k in
    subst P (sym same) s

-- all of it goes out
pub Sends-all : (begun a b : Option (List ℕ)) (waits text more : List ℕ) → Sends begun a waits text → Appends a b (waits ++ more) → Appends begun b (text ++ more)
Sends-all None a b waits text more s f = tt
Sends-all (Some xs) None b waits text more s f = absurd s
Sends-all (Some xs) (Some ys) None waits text more s f = absurd f
Sends-all (Some xs) (Some ys) (Some zs) waits text more s f =
    let grown : zs ≡ ys ++ (waits ++ more) = f in
    grown ∙ sym (append_assoc ys waits more) ∙ ap (λ (ws : List ℕ). ws ++ more) s.0 ∙ append_assoc xs text more

pub AddsPrefix-Appends : (begun a : Option (List ℕ)) (text : List ℕ) → AddsPrefix begun a text → AppendsPrefix begun a text
AddsPrefix-Appends None a text f = ([], text, refl, tt)
AddsPrefix-Appends (Some xs) None text f = absurd f
AddsPrefix-Appends (Some xs) (Some ys) text f =
    let n = length ys - length xs in
    let far : length xs ≤ length ys = f.1 in
    let at : length ys ≡ length xs + n = omega (arith, far) in
    let prefix : take (length ys) (xs ++ text) ≡ xs ++ take n text = ap (λ (k : ℕ). take k (xs ++ text)) at ∙ take-append-add xs text n in
    (take n text, drop n text, sym (take-append-drop n text), sym f.0 ∙ prefix)

-- ---- how it stands

sends_first : (begun : Option (List ℕ)) (waits : List ℕ) → waits ≡ [] → Sends begun begun waits []
sends_first None waits none = tt
sends_first (Some xs) waits none = (ap (λ (ws : List ℕ). xs ++ ws) none, omega arith)

pub Stands-first : (m : Making) (r : Reader) (waits : List ℕ) (strays : ℕ) → r ≡ first_reader m.table m.escapes → waits ≡ [] → strays ≡ 0 → Stands m [] m.begun m.failed r waits strays
Stands-first m r waits strays is none zero = record {
  reader = is;
  out = sends_first m.begun waits none;
  made = zero ∙ at_most-none 0 (omega arith);
  none = refl;
}

pub at_most-two : (a b : ℕ) → at_most (at_most a + b) ≡ at_most (a + b)
at_most-two a b = omega arith

pub Stands-read : (m : Making) (came bytes : List ℕ) (a b : Option (List ℕ)) (f g : ℕ) (r s : Reader) (p left : List ℕ) (i j : ℕ) → Stands m came a f r p i → Reads a b r s p left i j bytes → g ≡ f
    → Stands m (came ++ bytes) b g s left j
Stands-read m came bytes a b f g r s p left i j st reads same =
    let first = first_reader m.table m.escapes in
    let F = fed first came in
    let here : fed F.reader bytes ≡ fed r bytes = ap (λ (x : Reader). fed x bytes) (sym st.reader) in
    let whole : (fed first (came ++ bytes)).bytes ≡ F.bytes ++ (fed r bytes).bytes = fed-append_bytes first came bytes ∙ ap (λ (t : Emitted). F.bytes ++ t.bytes) here in
    let strays : (fed first (came ++ bytes)).strays ≡ F.strays + (fed r bytes).strays = fed-append_strays first came bytes ∙ ap (λ (t : Emitted). F.strays + t.strays) here in
    let P : List ℕ → Type 0 = λ xs. Sends m.begun b left xs in
    record {
      reader = reads.reader ∙ ap (λ (t : Emitted). t.reader) (sym here) ∙ sym (fed-append_reader first came bytes);
      out = subst P (sym whole) (Sends-on m.begun a b p left F.bytes (fed r bytes).bytes st.out reads.out);
      made = reads.made ∙ ap (λ (n : ℕ). at_most (n + (fed r bytes).strays)) st.made ∙ at_most-two F.strays (fed r bytes).strays ∙ ap at_most (sym strays);
      none = same ∙ st.none;
    }

pub Stands-broke : (m : Making) (came bytes : List ℕ) (a b : Option (List ℕ)) (f g : ℕ) (r : Reader) (p : List ℕ) (i : ℕ) → Stands m came a f r p i → AppendsPrefix a b (p ++ (fed r bytes).bytes)
    → g ≡ next_count f → Broke m (came ++ bytes) b g
Stands-broke m came bytes a b f g r p i st prefix one =
    let first = first_reader m.table m.escapes in
    let F = fed first came in
    let whole : (fed first (came ++ bytes)).bytes ≡ F.bytes ++ (fed r bytes).bytes =
    fed-append_bytes first came bytes ∙ ap (λ (x : Reader). F.bytes ++ (fed x bytes).bytes) (sym st.reader) in
    let P : List ℕ → Type 0 = λ xs. AddsPrefix m.begun b xs in
    record {
      out = subst P (sym whole) (AddsPrefix-of m.begun a b p F.bytes (fed r bytes).bytes st.out prefix);
      one = one ∙ ap next_count st.none;
    }

pub Broke-more : (m : Making) (came bytes : List ℕ) (a : Option (List ℕ)) (f : ℕ) → Broke m came a f → Broke m (came ++ bytes) a f
Broke-more m came bytes a f br =
    let first = first_reader m.table m.escapes in
    let F = fed first came in
    let P : List ℕ → Type 0 = λ xs. AddsPrefix m.begun a xs in
    record { out = subst P (sym (fed-append_bytes first came bytes)) (AddsPrefix-more m.begun a F.bytes (fed F.reader bytes).bytes br.out); one = br.one }

broke_is : (m : Making) (came new : List ℕ) (a b : Option (List ℕ)) (f g : ℕ) → new ≡ came → b ≡ a → g ≡ f → Broke m came a f → Broke m new b g
broke_is m came new a b f g more held failed br =
    let P : List ℕ → Type 0 = λ xs. Broke m xs a f in
    let Q : Option (List ℕ) → Type 0 = λ xs. Broke m new xs f in
    let R : ℕ → Type 0 = λ k. Broke m new b k in
    subst R (sym failed) (subst Q (sym held) (subst P (sym more) br))

pub Stands-kept : (m : Making) (came : List ℕ) (a b : Option (List ℕ)) (f g : ℕ) (r : Reader) (p : List ℕ) (i : ℕ) → Stands m came a f r p i → Keeps a b → g ≡ f → Stands m came b g r p i
Stands-kept m came a b f g r p i st kept same = record {
  reader = st.reader;
  out = Sends-kept m.begun a b p (fed (first_reader m.table m.escapes) came).bytes st.out kept;
  made = st.made;
  none = same ∙ st.none;
}

-- ---- one call

pub call-failed : (x : Result (Unit {0}) Fault) (a b : Option (List ℕ)) (r s : Reader) (p left : List ℕ) (i j : ℕ) (bytes : List ℕ) → is_err x ≡ true → TakesAll a b r s p left i j bytes x
    → AppendsPrefix a b (p ++ (fed r bytes).bytes)
call-failed (Ok n) a b r s p left i j bytes e takes = absurd (let never : false ≡ true = e in cc)
call-failed (Err f) a b r s p left i j bytes e takes = takes

pub call-went : (x : Result (Unit {0}) Fault) (a b : Option (List ℕ)) (r s : Reader) (p left : List ℕ) (i j : ℕ) (bytes : List ℕ) → is_err x ≡ false → TakesAll a b r s p left i j bytes x
    → Reads a b r s p left i j bytes
call-went (Ok n) a b r s p left i j bytes e takes = takes
call-went (Err f) a b r s p left i j bytes e takes = absurd (let never : true ≡ false = e in cc)

pub puts-failed : {T : Type 0} (x : Result T Fault) (old new : SinkFailures) → is_err x ≡ true → new ≡ put_counted old x → new.puts ≡ next_count old.puts
puts-failed (Ok n) old new e is = absurd (let never : false ≡ true = e in cc)
puts-failed (Err f) old new e is = ap (λ (q : SinkFailures). q.puts) is

pub puts-went : {T : Type 0} (x : Result T Fault) (old new : SinkFailures) → is_err x ≡ false → new ≡ put_counted old x → new.puts ≡ old.puts
puts-went (Ok n) old new e is = ap (λ (q : SinkFailures). q.puts) is
puts-went (Err f) old new e is = absurd (let never : true ≡ false = e in cc)

pub broken-more : (z : Bool) (m : Making) (came new bytes : List ℕ) (a b : Option (List ℕ)) (f g : ℕ) (r : Reader) (p : List ℕ) (i : ℕ) → z ≡ true → ∥ StandsOr z m came a f r p i ∥₁
    → new ≡ came ++ bytes → b ≡ a → g ≡ f → ∥ Broke m new b g ∥₁
broken-more false m came new bytes a b f g r p i e st more held failed = absurd (let never : false ≡ true = e in cc)
broken-more true m came new bytes a b f g r p i e st more held failed = ∥∥₁_map st (λ br. broke_is m (came ++ bytes) new a b f g more held failed (Broke-more m came bytes a f br))

pub breaks : (z : Bool) (m : Making) (came new bytes : List ℕ) (a b : Option (List ℕ)) (f g : ℕ) (r : Reader) (p : List ℕ) (i : ℕ) → z ≡ false → ∥ StandsOr z m came a f r p i ∥₁
    → new ≡ came ++ bytes → AppendsPrefix a b (p ++ (fed r bytes).bytes) → g ≡ next_count f → ∥ Broke m new b g ∥₁
breaks false m came new bytes a b f g r p i e st more prefix failed = ∥∥₁_map st (λ s. broke_is m (came ++ bytes) new b b g g more refl refl (Stands-broke m came bytes a b f g r p i s prefix failed))
breaks true m came new bytes a b f g r p i e st more prefix failed = absurd (let never : true ≡ false = e in cc)

pub reads-on : (z : Bool) (m : Making) (came new bytes : List ℕ) (a b : Option (List ℕ)) (f g : ℕ) (r s : Reader) (p left : List ℕ) (i j : ℕ) → z ≡ false → ∥ StandsOr z m came a f r p i ∥₁
    → new ≡ came ++ bytes → Reads a b r s p left i j bytes → g ≡ f → ∥ StandsOr z m new b g s left j ∥₁
reads-on false m came new bytes a b f g r s p left i j e st more reads failed = ∥∥₁_map st (λ stands.
    let P : List ℕ → Type 0 = λ xs. Stands m xs b g s left j in
    subst P (sym more) (Stands-read m came bytes a b f g r s p left i j stands reads failed))
reads-on true m came new bytes a b f g r s p left i j e st more reads failed = absurd (let never : true ≡ false = e in cc)

pub kept-on : (z : Bool) (m : Making) (came : List ℕ) (a b : Option (List ℕ)) (f g : ℕ) (r : Reader) (p : List ℕ) (i : ℕ) → z ≡ false → ∥ StandsOr z m came a f r p i ∥₁
    → Keeps a b → g ≡ f → ∥ StandsOr z m came b g r p i ∥₁
kept-on false m came a b f g r p i e st kept same = ∥∥₁_map st (λ s. Stands-kept m came a b f g r p i s kept same)
kept-on true m came a b f g r p i e st kept same = absurd (let never : true ≡ false = e in cc)

-- a call that went, and one that failed
pub call-on : (z : Bool) (m : Making) (came new bytes : List ℕ) (a b : Option (List ℕ)) (f g : SinkFailures) (r s : Reader) (p left : List ℕ) (i j : ℕ) (x : Result (Unit {0}) Fault) → z ≡ false
    → ∥ StandsOr z m came a f.puts r p i ∥₁ → new ≡ came ++ bytes → is_err x ≡ false → TakesAll a b r s p left i j bytes x → g ≡ put_counted f x → ∥ StandsOr z m new b g.puts s left j ∥₁
call-on z m came new bytes a b f g r s p left i j x e st more went takes failed =
    reads-on z m came new bytes a b f.puts g.puts r s p left i j e st more (call-went x a b r s p left i j bytes went takes) (puts-went x f g went failed)

pub call-breaks : (z : Bool) (m : Making) (came new bytes : List ℕ) (a b : Option (List ℕ)) (f g : SinkFailures) (r s : Reader) (p left : List ℕ) (i j : ℕ) (x : Result (Unit {0}) Fault) → z ≡ false
    → ∥ StandsOr z m came a f.puts r p i ∥₁ → new ≡ came ++ bytes → is_err x ≡ true → TakesAll a b r s p left i j bytes x → g ≡ put_counted f x → ∥ Broke m new b g.puts ∥₁
call-breaks z m came new bytes a b f g r s p left i j x e st more broke takes failed =
    breaks z m came new bytes a b f.puts g.puts r p i e st more (call-failed x a b r s p left i j bytes broke takes) (puts-failed x f g broke failed)
