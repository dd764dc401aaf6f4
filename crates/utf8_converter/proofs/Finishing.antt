-- How a sink that shows bytes in another ends.
use Rattle.std.proofs.Common.{◌≡◌, ℕ, ◌+◌, ◌==◌, List, [], ◌∷◌, ◌++◌, length, Bool, true, false, if◌then◌else◌, Option, None, Some, Result, Ok, Err, OnOk, IfOk, refl, sym, ◌∙◌, ap, subst, arith}
use Rattle.std.proofs.Math.Logic.{∥∥₁_elim}
use Rattle.std.proofs.Props.{props}
use Rattle.std.specs.Io.KnownBytes.{Appends}
use Rattle.nr_units.specs.Failures.{SinkFailures, next_count, put_counted}
use Rattle.nr_units.specs.Sink.{AppendsPrefix}
use Rattle.nr_units.specs.declared.source.Fault.{Fault}
use Rattle.document_stages.specs.Running.{PrefixAtErr, at_most}
use Rattle.utf8_characters.specs.declared.table.FixedTable.{FixedTable}
use Rattle.utf8_characters.specs.declared.table.FixedTable.TheVariants.{English, Latin, Cyrillic, Greek, Latin1}
use Rattle.utf8_converter.specs.declared.reader.Reader.{Reader}
use Rattle.utf8_converter.specs.Cells.{converted, strays_of}
use Rattle.utf8_converter.specs.Reading.{ended, fed, first_reader}
use Rattle.utf8_converter.specs.Showing.{Broke, Finishes, AddsPrefix, IsCutOff, IsShown, Making, Sends, Stands, StandsOr, counted_bytes, made_of, number_of}
use Rattle.utf8_converter.proofs.Kept.{converted-fed, strays-fed}
use Rattle.utf8_converter.proofs.Passing.{Broke-more, AddsPrefix-Appends, AddsPrefix-more, AddsPrefix-of, Sends-all, at_most-two}
use Rattle.utf8_converter.proofs.Text.{converted-lines}

-- ---- how it ends

-- what an end needs of how it stands
pub record Ready (m : Making) (came : List ℕ) (held : Option (List ℕ)) (failed : ℕ) (r : Reader) (waits : List ℕ) (strays : ℕ) : Type 0 where
  pub out : Sends m.begun held waits (fed (first_reader m.table m.escapes) came).bytes
  pub rest : (ended r).bytes ≡ (ended (fed (first_reader m.table m.escapes) came).reader).bytes
  pub more : (ended r).strays ≡ (ended (fed (first_reader m.table m.escapes) came).reader).strays
  pub made : strays ≡ at_most (fed (first_reader m.table m.escapes) came).strays
  pub none : failed ≡ m.failed

Sends-prop : (begun held : Option (List ℕ)) (waits text : List ℕ) → IsProp (Sends begun held waits text)
Sends-prop None held waits text = hlevel props
Sends-prop (Some xs) None waits text = hlevel props
Sends-prop (Some xs) (Some ys) waits text = hlevel props

AddsPrefix-prop : (begun held : Option (List ℕ)) (text : List ℕ) → IsProp (AddsPrefix begun held text)
AddsPrefix-prop None held text = hlevel props
AddsPrefix-prop (Some xs) None text = hlevel props
AddsPrefix-prop (Some xs) (Some ys) text = hlevel props

list_prop : (xs ys : List ℕ) → IsProp (xs ≡ ys)
list_prop xs ys = hlevel props

number_prop : (m n : ℕ) → IsProp (m ≡ n)
number_prop m n = hlevel props

pub ready : (m : Making) (came : List ℕ) (held : Option (List ℕ)) (failed : ℕ) (r : Reader) (waits : List ℕ) (strays : ℕ) → ∥ Stands m came held failed r waits strays ∥₁ → Ready m came held failed r waits strays
ready m came held failed r waits strays st =
    let F = fed (first_reader m.table m.escapes) came in
    record {
      out = ∥∥₁_elim st (Sends-prop m.begun held waits F.bytes) (λ s. s.out);
      rest = ∥∥₁_elim st (list_prop (ended r).bytes (ended F.reader).bytes) (λ s. ap (λ (x : Reader). (ended x).bytes) s.reader);
      more = ∥∥₁_elim st (number_prop (ended r).strays (ended F.reader).strays) (λ s. ap (λ (x : Reader). (ended x).strays) s.reader);
      made = ∥∥₁_elim st (number_prop strays (at_most F.strays)) (λ s. s.made);
      none = ∥∥₁_elim st (number_prop failed m.failed) (λ s. s.none);
    }

pub broke : (m : Making) (came : List ℕ) (held : Option (List ℕ)) (failed : ℕ) → ∥ Broke m came held failed ∥₁ → Broke m came held failed
broke m came held failed br =
    let F = fed (first_reader m.table m.escapes) came in
    record {
      out = ∥∥₁_elim br (AddsPrefix-prop m.begun held F.bytes) (λ b. b.out);
      one = ∥∥₁_elim br (number_prop failed (next_count m.failed)) (λ b. b.one);
    }

pub Shown-whole : (m : Making) (came : List ℕ) (a b : Option (List ℕ)) (f g : ℕ) (r : Reader) (p : List ℕ) (i n : ℕ) → Ready m came a f r p i → Appends a b (p ++ (ended r).bytes) → g ≡ f
    → n ≡ at_most (i + (ended r).strays) → IsShown m came b g n
Shown-whole m came a b f g r p i n st went same count =
    let first = first_reader m.table m.escapes in
    let F = fed first came in
    let whole : F.bytes ++ (ended r).bytes ≡ converted m.table m.escapes came = ap (λ (xs : List ℕ). F.bytes ++ xs) st.rest ∙ sym (converted-fed m.table m.escapes came) in
    let strays : F.strays + (ended r).strays ≡ strays_of m.table came = ap (λ (k : ℕ). F.strays + k) st.more ∙ sym (strays-fed m.table m.escapes came) in
    let P : List ℕ → Type 0 = λ xs. Appends m.begun b xs in
    record {
      went_out = subst P whole (Sends-all m.begun a b p F.bytes (ended r).bytes st.out went);
      text = converted-lines m.table m.escapes came;
      made = count ∙ ap (λ (k : ℕ). at_most (k + (ended r).strays)) st.made ∙ at_most-two F.strays (ended r).strays ∙ ap at_most strays;
      none = same ∙ st.none;
    }

pub Shown-cut : (m : Making) (came : List ℕ) (a b : Option (List ℕ)) (f g : ℕ) (r : Reader) (p : List ℕ) (i : ℕ) → Ready m came a f r p i → AppendsPrefix a b (p ++ (ended r).bytes) → g ≡ next_count f
    → IsCutOff m came b g
Shown-cut m came a b f g r p i st prefix one =
    let first = first_reader m.table m.escapes in
    let F = fed first came in
    let whole : F.bytes ++ (ended r).bytes ≡ converted m.table m.escapes came = ap (λ (xs : List ℕ). F.bytes ++ xs) st.rest ∙ sym (converted-fed m.table m.escapes came) in
    let P : List ℕ → Type 0 = λ xs. AppendsPrefix m.begun b xs in
    record {
      went_out = subst P whole (AddsPrefix-Appends m.begun b (F.bytes ++ (ended r).bytes) (AddsPrefix-of m.begun a b p F.bytes (ended r).bytes st.out prefix));
      one = one ∙ ap next_count st.none;
    }

pub Shown-broke : (m : Making) (came : List ℕ) (a : Option (List ℕ)) (f : ℕ) → Broke m came a f → IsCutOff m came a f
Shown-broke m came a f br =
    let first = first_reader m.table m.escapes in
    let F = fed first came in
    let P : List ℕ → Type 0 = λ xs. AppendsPrefix m.begun a xs in
    record {
      went_out = subst P (sym (converted-fed m.table m.escapes came)) (AddsPrefix-Appends m.begun a (F.bytes ++ (ended F.reader).bytes) (AddsPrefix-more m.begun a F.bytes (ended F.reader).bytes br.out));
      one = br.one;
    }

-- ---- what it holds says how it was made

abbrev table_numbered : ℕ → FixedTable
table_numbered n = if n == 1 then English else if n == 2 then Latin else if n == 3 then Cyrillic else if n == 4 then Greek else Latin1

numbered : (t : FixedTable) → table_numbered (number_of t) ≡ t
numbered English = refl
numbered Latin = refl
numbered Cyrillic = refl
numbered Greek = refl
numbered Latin1 = refl

is_one : (e : Bool) → ((if e then 1 else 0) == 1) ≡ e
is_one true = refl
is_one false = refl

record SameBytes (a b : Option (List ℕ)) (xs ys : List ℕ) : Type 0 where
  first : a ≡ b
  rest : xs ≡ ys

append_same : (vs ws xs ys : List ℕ) → length vs ≡ length ws → vs ++ xs ≡ ws ++ ys → (vs ≡ ws) × (xs ≡ ys)
append_same [] [] xs ys l e = (refl, e)
append_same [] (w ∷ ws) xs ys l e = absurd (omega (arith, l))
append_same (v ∷ vs) [] xs ys l e = absurd (omega (arith, l))
append_same (v ∷ vs) (w ∷ ws) xs ys l e =
    let head : v ≡ w = cc in
    let tail : vs ++ xs ≡ ws ++ ys = cc in
    let both = append_same vs ws xs ys (omega (arith, l)) tail in
    let prefix : vs ≡ ws = both.0 in
    (cc, both.1)

counted_same : (a b : Option (List ℕ)) (xs ys : List ℕ) → counted_bytes a ++ xs ≡ counted_bytes b ++ ys → SameBytes a b xs ys
counted_same None None xs ys e = record { first = refl; rest = (let tail : xs ≡ ys = cc in tail) }
counted_same None (Some ws) xs ys e = absurd (let head : 0 ≡ length ws + 1 = cc in omega (arith, head))
counted_same (Some vs) None xs ys e = absurd (let head : length vs + 1 ≡ 0 = cc in omega (arith, head))
counted_same (Some vs) (Some ws) xs ys e =
    let head : length vs + 1 ≡ length ws + 1 = cc in
    let tail : vs ++ xs ≡ ws ++ ys = cc in
    let both = append_same vs ws xs ys (omega (arith, head)) tail in
    record { first = ap (λ (zs : List ℕ). Some zs) both.0; rest = both.1 }

pub record SameMaking (m n : Making) (xs ys : List ℕ) : Type 0 where
  pub making : m ≡ n
  pub rest : xs ≡ ys

abbrev making : FixedTable → Bool → Option (List ℕ) → ℕ → Making
making table escapes begun failed = record { table = table; escapes = escapes; begun = begun; failed = failed }

making_eq : (t u : FixedTable) (e f : Bool) (a b : Option (List ℕ)) (i j : ℕ) → t ≡ u → e ≡ f → a ≡ b → i ≡ j → making t e a i ≡ making u f b j
making_eq t u e f a b i j p q r s = cc

pub same-making : (m n : Making) (xs ys : List ℕ) → made_of m ++ xs ≡ made_of n ++ ys → SameMaking m n xs ys
same-making m n xs ys e =
    let table : number_of m.table ≡ number_of n.table = cc in
    let one : ℕ = if m.escapes then 1 else 0 in
    let two : ℕ = if n.escapes then 1 else 0 in
    let escapes : one ≡ two = cc in
    let failed : m.failed ≡ n.failed = cc in
    let tail : counted_bytes m.begun ++ xs ≡ counted_bytes n.begun ++ ys = cc in
    let bytes = counted_same m.begun n.begun xs ys tail in
    record {
      making = making_eq m.table n.table m.escapes n.escapes m.begun n.begun m.failed n.failed
          (sym (numbered m.table) ∙ ap table_numbered table ∙ numbered n.table) (sym (is_one m.escapes) ∙ ap (λ (k : ℕ). k == 1) escapes ∙ is_one n.escapes) bytes.first failed;
      rest = bytes.rest;
    }

-- ---- the answers

-- it got a prefix of what more bytes come to
pub broke-more : (m : Making) (came more : List ℕ) (a : Option (List ℕ)) (f : ℕ) → Broke m came a f → AppendsPrefix m.begun a (converted m.table m.escapes (came ++ more))
broke-more m came more a f br = let cut = Shown-broke m (came ++ more) a f (Broke-more m came more a f br) in cut.went_out

pub ends-broken : (z : Bool) (m n : Making) (came more value : List ℕ) (a : Option (List ℕ)) (f : ℕ) (r : Reader) (p : List ℕ) (i : ℕ) → z ≡ true → ∥ StandsOr z m came a f r p i ∥₁
    → made_of m ++ came ≡ value → value ≡ made_of n ++ more → IsCutOff n more a f
ends-broken false m n came more value a f r p i broken st is says = absurd (let never : false ≡ true = broken in cc)
ends-broken true m n came more value a f r p i broken st is says =
    let same = same-making m n came more (is ∙ says) in
    let P : Making → Type 0 = λ x. IsCutOff x more a f in
    let Q : List ℕ → Type 0 = λ xs. IsCutOff m xs a f in
    subst P same.making (subst Q same.rest (Shown-broke m came a f (broke m came a f st)))

pub ends-short : (z : Bool) (m n : Making) (came prefix more value : List ℕ) (a : Option (List ℕ)) (f : ℕ) (r : Reader) (p : List ℕ) (i : ℕ) → z ≡ true → ∥ StandsOr z m came a f r p i ∥₁
    → made_of m ++ came ≡ value → value ≡ made_of n ++ prefix → AppendsPrefix n.begun a (converted n.table n.escapes (prefix ++ more))
ends-short false m n came prefix more value a f r p i broken st is says = absurd (let never : false ≡ true = broken in cc)
ends-short true m n came prefix more value a f r p i broken st is says =
    let same = same-making m n came prefix (is ∙ says) in
    let P : Making → Type 0 = λ x. AppendsPrefix x.begun a (converted x.table x.escapes (prefix ++ more)) in
    let Q : List ℕ → Type 0 = λ xs. AppendsPrefix m.begun a (converted m.table m.escapes (xs ++ more)) in
    subst P same.making (subst Q same.rest (broke-more m came more a f (broke m came a f st)))

finishes : (m : Making) (came : List ℕ) (a b : Option (List ℕ)) (f g : SinkFailures) (r : Reader) (p : List ℕ) (i : ℕ) (x : Result ℕ Fault) → Ready m came a f.puts r p i
    → OnOk x (Appends a b (p ++ (ended r).bytes)) → PrefixAtErr x a b (p ++ (ended r).bytes) → IfOk x (λ n. n ≡ at_most (i + (ended r).strays)) → g ≡ put_counted f x → Finishes m came b g.puts x
finishes m came a b f g r p i (Ok n) st went prefix count failed = Shown-whole m came a b f.puts g.puts r p i n st went (ap (λ (q : SinkFailures). q.puts) failed) count
finishes m came a b f g r p i (Err e) st went prefix count failed = Shown-cut m came a b f.puts g.puts r p i st prefix (ap (λ (q : SinkFailures). q.puts) failed)

pub ends : (z : Bool) (m n : Making) (came more value : List ℕ) (a b : Option (List ℕ)) (f g : SinkFailures) (r : Reader) (p : List ℕ) (i : ℕ) (x : Result ℕ Fault) → z ≡ false
    → ∥ StandsOr z m came a f.puts r p i ∥₁ → made_of m ++ came ≡ value → value ≡ made_of n ++ more
    → OnOk x (Appends a b (p ++ (ended r).bytes)) → PrefixAtErr x a b (p ++ (ended r).bytes) → IfOk x (λ n. n ≡ at_most (i + (ended r).strays)) → g ≡ put_counted f x → Finishes n more b g.puts x
ends true m n came more value a b f g r p i x whole st is says went prefix count failed = absurd (let never : true ≡ false = whole in cc)
ends false m n came more value a b f g r p i x whole st is says went prefix count failed =
    let same = same-making m n came more (is ∙ says) in
    let P : Making → Type 0 = λ y. Finishes y more b g.puts x in
    let Q : List ℕ → Type 0 = λ xs. Finishes m xs b g.puts x in
    subst P same.making (subst Q same.rest (finishes m came a b f g r p i x (ready m came a f.puts r p i st) went prefix count failed))
