-- How a sink that shows bytes in another ends.
use Rattle.std.proofs.Common.{◌≡◌, ℕ, ◌+◌, ◌==◌, List, [], ◌∷◌, ◌++◌, length, Bool, true, false, if◌then◌else◌, Option, None, Some, Result, Ok, Err, OnOk, refl, sym, ◌∙◌, ap, subst, append_assoc, arith}
use Rattle.std.proofs.Math.Logic.{∥∥₁_elim}
use Rattle.std.proofs.Props.{props}
use Rattle.std.specs.Io.KnownBytes.{Appends}
use Rattle.nr_units.specs.Failures.{SinkFailures, next_count, put_counted}
use Rattle.nr_units.specs.Sink.{AppendsPrefix}
use Rattle.nr_units.specs.declared.source.Fault.{Fault}
use Rattle.document_stages.specs.Running.{PrefixAtErr}
use Rattle.utf8_converter.specs.Showing.{AddsPrefix, Sends, counted_bytes}
use Rattle.utf8_converter.proofs.Passing.{AddsPrefix-Appends, AddsPrefix-more, AddsPrefix-of, Sends-all}
use Rattle.utf8_own_characters.specs.Table.{Characters}
use Rattle.utf8_own_characters.specs.declared.cluster.Cluster.{Cluster}
use Rattle.utf8_own_sink.specs.declared.cells.Reader.{Reader}
use Rattle.utf8_own_sink.specs.Cells.{converted}
use Rattle.utf8_own_sink.specs.Reading.{ended, fed, first}
use Rattle.utf8_own_sink.specs.Showing.{Broke, Finishes, IsCutOff, IsShown, Making, Stands, StandsOr, listed_before, emitted}
use Rattle.utf8_own_sink.proofs.Going.{converted-fed}
use Rattle.utf8_own_sink.proofs.Passing.{Broke-more}

-- ---- how it ends

-- what an end needs of how it stands
record Ready (m : Making) (came : List ℕ) (held : Option (List ℕ)) (failed : ℕ) (r : Reader) (waits : List ℕ) : Type 0 where
  out : Sends m.begun held waits (fed m.table (first m.escapes) came).bytes
  rest : ended m.table r ≡ ended m.table (fed m.table (first m.escapes) came).reader
  none : failed ≡ m.failed

Sends-prop : (begun held : Option (List ℕ)) (waits text : List ℕ) → IsProp (Sends begun held waits text)
Sends-prop None held waits text = hlevel props
Sends-prop (Some xs) None waits text = hlevel props
Sends-prop (Some xs) (Some ys) waits text = hlevel props

AddsPrefix-prop : (begun held : Option (List ℕ)) (text : List ℕ) → IsProp (AddsPrefix begun held text)
AddsPrefix-prop None held text = hlevel props
AddsPrefix-prop (Some xs) None text = hlevel props
AddsPrefix-prop (Some xs) (Some ys) text = hlevel props

list_prop : (xs ys : List ℕ) → IsProp (xs ≡ ys)
list_prop xs ys = hlevel props

number_prop : (m n : ℕ) → IsProp (m ≡ n)
number_prop m n = hlevel props

ready : (m : Making) (came : List ℕ) (held : Option (List ℕ)) (failed : ℕ) (r : Reader) (waits : List ℕ) → ∥ Stands m came held failed r waits ∥₁ → Ready m came held failed r waits
ready m came held failed r waits st =
    let F = fed m.table (first m.escapes) came in
    record {
      out = ∥∥₁_elim st (Sends-prop m.begun held waits F.bytes) (λ s. s.out);
      rest = ∥∥₁_elim st (list_prop (ended m.table r) (ended m.table F.reader)) (λ s. ap (λ (x : Reader). ended m.table x) s.reader);
      none = ∥∥₁_elim st (number_prop failed m.failed) (λ s. s.none);
    }

broke : (m : Making) (came : List ℕ) (held : Option (List ℕ)) (failed : ℕ) → ∥ Broke m came held failed ∥₁ → Broke m came held failed
broke m came held failed br =
    let F = fed m.table (first m.escapes) came in
    record {
      out = ∥∥₁_elim br (AddsPrefix-prop m.begun held F.bytes) (λ b. b.out);
      one = ∥∥₁_elim br (number_prop failed (next_count m.failed)) (λ b. b.one);
    }

Shown-whole : (m : Making) (came : List ℕ) (a b : Option (List ℕ)) (f g : ℕ) (r : Reader) (p : List ℕ) → Ready m came a f r p → Appends a b (p ++ ended m.table r) → g ≡ f → IsShown m came b g
Shown-whole m came a b f g r p st went same =
    let F = fed m.table (first m.escapes) came in
    let whole : F.bytes ++ ended m.table r ≡ converted m.table m.escapes came = ap (λ (zs : List ℕ). F.bytes ++ zs) st.rest ∙ sym (converted-fed m.table m.escapes came) in
    let P : List ℕ → Type 0 = λ zs. Appends m.begun b zs in
    record { went_out = subst P whole (Sends-all m.begun a b p F.bytes (ended m.table r) st.out went); none = same ∙ st.none }

Shown-cut : (m : Making) (came : List ℕ) (a b : Option (List ℕ)) (f g : ℕ) (r : Reader) (p : List ℕ) → Ready m came a f r p → AppendsPrefix a b (p ++ ended m.table r) → g ≡ next_count f → IsCutOff m came b g
Shown-cut m came a b f g r p st prefix one =
    let F = fed m.table (first m.escapes) came in
    let whole : F.bytes ++ ended m.table r ≡ converted m.table m.escapes came = ap (λ (zs : List ℕ). F.bytes ++ zs) st.rest ∙ sym (converted-fed m.table m.escapes came) in
    let P : List ℕ → Type 0 = λ zs. AppendsPrefix m.begun b zs in
    record {
      went_out = subst P whole (AddsPrefix-Appends m.begun b (F.bytes ++ ended m.table r) (AddsPrefix-of m.begun a b p F.bytes (ended m.table r) st.out prefix));
      one = one ∙ ap next_count st.none;
    }

Shown-broke : (m : Making) (came : List ℕ) (a : Option (List ℕ)) (f : ℕ) → Broke m came a f → IsCutOff m came a f
Shown-broke m came a f br =
    let F = fed m.table (first m.escapes) came in
    let P : List ℕ → Type 0 = λ zs. AppendsPrefix m.begun a zs in
    record {
      went_out = subst P (sym (converted-fed m.table m.escapes came))
          (AddsPrefix-Appends m.begun a (F.bytes ++ ended m.table F.reader) (AddsPrefix-more m.begun a F.bytes (ended m.table F.reader) br.out));
      one = br.one;
    }

-- ---- what it holds says how it was made

listed-append : (cs : List Cluster) (xs ys : List ℕ) → listed_before cs (xs ++ ys) ≡ listed_before cs xs ++ ys
listed-append [] xs ys = refl
listed-append (c ∷ cs) xs ys = ap (λ (zs : List ℕ). 1 ∷ c.letter ∷ c.first_mark ∷ c.second_mark ∷ c.third_mark ∷ zs) (listed-append cs xs ys)

pub emitted-append : (m : Making) (xs ys : List ℕ) → emitted m (xs ++ ys) ≡ emitted m xs ++ ys
emitted-append m xs ys =
    let head : List ℕ → List ℕ = λ zs. m.table.halves ∷ (if m.escapes then 1 else 0) ∷ m.failed ∷ zs in
    ap (λ (zs : List ℕ). head (listed_before m.table.narrow (listed_before m.table.wide zs))) (sym (append_assoc (counted_bytes m.begun) xs ys))
    ∙ ap (λ (zs : List ℕ). head (listed_before m.table.narrow zs)) (listed-append m.table.wide (counted_bytes m.begun ++ xs) ys)
    ∙ ap head (listed-append m.table.narrow (listed_before m.table.wide (counted_bytes m.begun ++ xs)) ys)

record SameList (cs ds : List Cluster) (xs ys : List ℕ) : Type 0 where
  first_is : cs ≡ ds
  rest : xs ≡ ys

abbrev cluster : ℕ → ℕ → ℕ → ℕ → Cluster
cluster a b c d = record { letter = a; first_mark = b; second_mark = c; third_mark = d }

cluster_eq : (a b c d e f g h : ℕ) → a ≡ e → b ≡ f → c ≡ g → d ≡ h → cluster a b c d ≡ cluster e f g h
cluster_eq a b c d e f g h p q r s = cc

more_eq : (c d : Cluster) (cs ds : List Cluster) → c ≡ d → cs ≡ ds → c ∷ cs ≡ d ∷ ds
more_eq c d cs ds p q = cc

listed_same : (cs ds : List Cluster) (xs ys : List ℕ) → listed_before cs xs ≡ listed_before ds ys → SameList cs ds xs ys
listed_same [] [] xs ys e = record { first_is = refl; rest = (let tail : xs ≡ ys = cc in tail) }
listed_same [] (d ∷ ds) xs ys e = absurd (let head : ◌≡◌ {A = ℕ} 0 1 = cc in omega (arith, head))
listed_same (c ∷ cs) [] xs ys e = absurd (let head : ◌≡◌ {A = ℕ} 1 0 = cc in omega (arith, head))
listed_same (c ∷ cs) (d ∷ ds) xs ys e =
    let letter : c.letter ≡ d.letter = cc in
    let one : c.first_mark ≡ d.first_mark = cc in
    let two : c.second_mark ≡ d.second_mark = cc in
    let three : c.third_mark ≡ d.third_mark = cc in
    let tail : listed_before cs xs ≡ listed_before ds ys = cc in
    let all = listed_same cs ds xs ys tail in
    record {
      first_is = more_eq c d cs ds (cluster_eq c.letter c.first_mark c.second_mark c.third_mark d.letter d.first_mark d.second_mark d.third_mark letter one two three) all.first_is;
      rest = all.rest;
    }

append_same : (vs ws xs ys : List ℕ) → length vs ≡ length ws → vs ++ xs ≡ ws ++ ys → (vs ≡ ws) × (xs ≡ ys)
append_same [] [] xs ys l e = (refl, e)
append_same [] (w ∷ ws) xs ys l e = absurd (omega (arith, l))
append_same (v ∷ vs) [] xs ys l e = absurd (omega (arith, l))
append_same (v ∷ vs) (w ∷ ws) xs ys l e =
    let head : v ≡ w = cc in
    let tail : vs ++ xs ≡ ws ++ ys = cc in
    let both = append_same vs ws xs ys (omega (arith, l)) tail in
    let prefix : vs ≡ ws = both.0 in
    (cc, both.1)

record SameBytes (a b : Option (List ℕ)) (xs ys : List ℕ) : Type 0 where
  first_is : a ≡ b
  rest : xs ≡ ys

counted_same : (a b : Option (List ℕ)) (xs ys : List ℕ) → counted_bytes a ++ xs ≡ counted_bytes b ++ ys → SameBytes a b xs ys
counted_same None None xs ys e = record { first_is = refl; rest = (let tail : xs ≡ ys = cc in tail) }
counted_same None (Some ws) xs ys e = absurd (let head : 0 ≡ length ws + 1 = cc in omega (arith, head))
counted_same (Some vs) None xs ys e = absurd (let head : length vs + 1 ≡ 0 = cc in omega (arith, head))
counted_same (Some vs) (Some ws) xs ys e =
    let head : length vs + 1 ≡ length ws + 1 = cc in
    let tail : vs ++ xs ≡ ws ++ ys = cc in
    let both = append_same vs ws xs ys (omega (arith, head)) tail in
    record { first_is = ap (λ (zs : List ℕ). Some zs) both.0; rest = both.1 }

record SameMaking (m n : Making) (xs ys : List ℕ) : Type 0 where
  making_is : m ≡ n
  rest : xs ≡ ys

abbrev making : List Cluster → List Cluster → ℕ → Bool → Option (List ℕ) → ℕ → Making
making narrow wide halves escapes begun failed = record { table = record { narrow = narrow; wide = wide; halves = halves }; escapes = escapes; begun = begun; failed = failed }

making_eq : (n o w v : List Cluster) (h k : ℕ) (e f : Bool) (a b : Option (List ℕ)) (i j : ℕ) → n ≡ o → w ≡ v → h ≡ k → e ≡ f → a ≡ b → i ≡ j → making n w h e a i ≡ making o v k f b j
making_eq n o w v h k e f a b i j p q r s t u = cc

is_one : (e : Bool) → ((if e then 1 else 0) == 1) ≡ e
is_one true = refl
is_one false = refl

same-making : (m n : Making) (xs ys : List ℕ) → emitted m xs ≡ emitted n ys → SameMaking m n xs ys
same-making m n xs ys e =
    let halves : m.table.halves ≡ n.table.halves = cc in
    let one : ℕ = if m.escapes then 1 else 0 in
    let two : ℕ = if n.escapes then 1 else 0 in
    let escapes : one ≡ two = cc in
    let failed : m.failed ≡ n.failed = cc in
    let tail : listed_before m.table.narrow (listed_before m.table.wide (counted_bytes m.begun ++ xs)) ≡ listed_before n.table.narrow (listed_before n.table.wide (counted_bytes n.begun ++ ys)) = cc in
    let narrow = listed_same m.table.narrow n.table.narrow (listed_before m.table.wide (counted_bytes m.begun ++ xs)) (listed_before n.table.wide (counted_bytes n.begun ++ ys)) tail in
    let wide = listed_same m.table.wide n.table.wide (counted_bytes m.begun ++ xs) (counted_bytes n.begun ++ ys) narrow.rest in
    let bytes = counted_same m.begun n.begun xs ys wide.rest in
    record {
      making_is = making_eq m.table.narrow n.table.narrow m.table.wide n.table.wide m.table.halves n.table.halves m.escapes n.escapes m.begun n.begun m.failed n.failed
          narrow.first_is wide.first_is halves (sym (is_one m.escapes) ∙ ap (λ (k : ℕ). k == 1) escapes ∙ is_one n.escapes) bytes.first_is failed;
      rest = bytes.rest;
    }

-- ---- the answers

-- it got a prefix of what more bytes come to
broke-more : (m : Making) (came more : List ℕ) (a : Option (List ℕ)) (f : ℕ) → Broke m came a f → AppendsPrefix m.begun a (converted m.table m.escapes (came ++ more))
broke-more m came more a f br = let cut = Shown-broke m (came ++ more) a f (Broke-more m came more a f br) in cut.went_out

pub ends-broken : (z : Bool) (m n : Making) (came more value : List ℕ) (a : Option (List ℕ)) (f : ℕ) (r : Reader) (p : List ℕ) → z ≡ true → ∥ StandsOr z m came a f r p ∥₁
    → emitted m came ≡ value → value ≡ emitted n more → IsCutOff n more a f
ends-broken false m n came more value a f r p broken st is says = absurd (let never : false ≡ true = broken in cc)
ends-broken true m n came more value a f r p broken st is says =
    let same = same-making m n came more (is ∙ says) in
    let P : Making → Type 0 = λ x. IsCutOff x more a f in
    let Q : List ℕ → Type 0 = λ zs. IsCutOff m zs a f in
    subst P same.making_is (subst Q same.rest (Shown-broke m came a f (broke m came a f st)))

pub ends-short : (z : Bool) (m n : Making) (came prefix more value : List ℕ) (a : Option (List ℕ)) (f : ℕ) (r : Reader) (p : List ℕ) → z ≡ true → ∥ StandsOr z m came a f r p ∥₁
    → emitted m came ≡ value → value ≡ emitted n prefix → AppendsPrefix n.begun a (converted n.table n.escapes (prefix ++ more))
ends-short false m n came prefix more value a f r p broken st is says = absurd (let never : false ≡ true = broken in cc)
ends-short true m n came prefix more value a f r p broken st is says =
    let same = same-making m n came prefix (is ∙ says) in
    let P : Making → Type 0 = λ x. AppendsPrefix x.begun a (converted x.table x.escapes (prefix ++ more)) in
    let Q : List ℕ → Type 0 = λ zs. AppendsPrefix m.begun a (converted m.table m.escapes (zs ++ more)) in
    subst P same.making_is (subst Q same.rest (broke-more m came more a f (broke m came a f st)))

finishes : (m : Making) (came : List ℕ) (a b : Option (List ℕ)) (f g : SinkFailures) (r : Reader) (p : List ℕ) (x : Result (Unit {0}) Fault) → Ready m came a f.puts r p
    → OnOk x (Appends a b (p ++ ended m.table r)) → PrefixAtErr x a b (p ++ ended m.table r) → g ≡ put_counted f x → Finishes m came b g.puts x
finishes m came a b f g r p (Ok n) st went prefix failed = Shown-whole m came a b f.puts g.puts r p st went (ap (λ (q : SinkFailures). q.puts) failed)
finishes m came a b f g r p (Err e) st went prefix failed = Shown-cut m came a b f.puts g.puts r p st prefix (ap (λ (q : SinkFailures). q.puts) failed)

pub ends : (z : Bool) (m n : Making) (came more value : List ℕ) (a b : Option (List ℕ)) (f g : SinkFailures) (r : Reader) (p : List ℕ) (x : Result (Unit {0}) Fault) → z ≡ false
    → ∥ StandsOr z m came a f.puts r p ∥₁ → emitted m came ≡ value → value ≡ emitted n more
    → OnOk x (Appends a b (p ++ ended m.table r)) → PrefixAtErr x a b (p ++ ended m.table r) → g ≡ put_counted f x → Finishes n more b g.puts x
ends true m n came more value a b f g r p x whole st is says went prefix failed = absurd (let never : true ≡ false = whole in cc)
ends false m n came more value a b f g r p x whole st is says went prefix failed =
    let same = same-making m n came more (is ∙ says) in
    let P : Making → Type 0 = λ y. Finishes y more b g.puts x in
    let Q : List ℕ → Type 0 = λ zs. Finishes m zs b g.puts x in
    subst P same.making_is (subst Q same.rest (finishes m came a b f g r p x (ready m came a f.puts r p st) went prefix failed))
