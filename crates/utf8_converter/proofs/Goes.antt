-- Cells that go into a room, one after another.
use Rattle.std.proofs.Common.{◌≡◌, ℕ, ◌+◌, ◌-◌, ◌*◌, ◌⊎◌, inl, inr, ◌<◌, ◌≤◌, List, [], ◌∷◌, ◌++◌, length, take, drop, get_or, Bool, true, false, ◌&&◌, nat_lt, refl, sym, subst, ap, ◌∙◌, append-nil, append_assoc, length-drop, arith}
use Rattle.std.proofs.lemmas.List.{get_or-take, length-append, length-take-le, take-append-le, take-take, take_all}
use Rattle.std.proofs.Math.Seq.{take-add}
use Rattle.std.proofs.lemmas.Bool.Decides.{nat_tests}
use Rattle.nr_vectors.specs.declared.cell.Look.TheVariants.{Plain}
use Rattle.utf8_characters.specs.declared.table.FixedTable.{FixedTable}
use Rattle.utf8_converter.specs.declared.reader.Half.{Half}
use Rattle.utf8_converter.specs.declared.reader.Half.TheVariants.{Nothing}
use Rattle.utf8_converter.specs.declared.reader.Reader.{Reader}
use Rattle.utf8_converter.specs.declared.spelling.Spelling.{Spelling}
use Rattle.utf8_converter.specs.Cells.{Over, drawn, goes_out, shows, strikes, text, turning}
use Rattle.utf8_converter.specs.Reading.{Emitted, preceded, fed, out, released, emitted, turned, with_half}
use Rattle.utf8_converter.specs.Spelling.{Fills, Goes, IsFresh, Makes, Puts, Reads, Serves, Spells, begins, byte_of, half_after, half_text, is_shut, owed}
use Rattle.utf8_converter.proofs.Held.{Makes-half, Makes-held, Makes-table, begins-released, fed-begins, goes-no_back}
use Rattle.utf8_converter.proofs.Makes.{Makes-gap, Makes-none, Makes-once, Makes-struck, Makes-then, shut_turning, turned-shut}
use Rattle.utf8_converter.proofs.Spelled.{Puts-then, byte-text}

-- how far a room is filled
pub Puts-long : (old new bytes : List ℕ) (from end : ℕ) → from ≤ length old → end ≤ length new → Puts old from new end bytes → end ≡ from + length bytes
Puts-long old new bytes from end l m put =
    let before = length-take-le from old l in
    let after = length-take-le end new m in
    let same : length (take end new) ≡ length (take from old ++ bytes) = ap length put in
    let both = length-append (take from old) bytes in
    omega (arith, before, after, same, both)

pub Goes-of : (r s : Reader) (bs out : List ℕ) (n : ℕ) (old new : List ℕ) (from end : ℕ) → Makes r s (take n bs) out → n ≤ length bs → from ≤ length old → end ≤ length new
    → Puts old from new end out → Goes r s bs n old from new end
Goes-of r s bs out n old new from end m within l k put =
    let far = Puts-long old new out from end l k put in
    let few : length out + owed s.way ≤ 4 * length (take n bs) + owed r.way = m.few in
    let cut = length-take-le n bs within in
    record { out = out; makes = m; put = put; within = within; few = omega (arith, far, few, cut) }

pub Goes-none : (r : Reader) (bs old : List ℕ) (from : ℕ) → r.half ≡ Nothing → Goes r r bs 0 old from old from
Goes-none r bs old from none = record {
  out = [];
  makes = Makes-none r none;
  put = sym (append-nil (take from old));
  within = omega arith;
  few = omega arith;
}

pub Goes-then : (r s u : Reader) (bs : List ℕ) (n m : ℕ) (old mid new : List ℕ) (from to end : ℕ) → s.half ≡ Nothing → Goes r s bs n old from mid to → Goes s u (drop n bs) m mid to new end
    → Goes r u bs (n + m) old from new end
Goes-then r s u bs n m old mid new from to end none f g =
    let fw : n ≤ length bs = f.within in
    let gw : m ≤ length (drop n bs) = g.within in
    let rest = length-drop n bs in
    let ff : to + owed s.way ≤ from + 4 * n + owed r.way = f.few in
    let gf : end + owed u.way ≤ to + 4 * m + owed s.way = g.few in
    let P : List ℕ → Type 0 = λ xs. Makes r u xs (f.out ++ g.out) in
    record {
      out = f.out ++ g.out;
      makes = subst P (sym (take-add n m bs)) (Makes-then r s u (take n bs) (take m (drop n bs)) f.out g.out none f.makes g.makes);
      put = g.put ∙ ap (λ (xs : List ℕ). xs ++ g.out) f.put ∙ append_assoc (take from old) f.out g.out;
      within = omega (arith, fw, gw, rest);
      few = omega (arith, ff, gf);
    }

-- ---- one cell

take_one : (bs : List ℕ) → 0 < length bs → take 1 bs ≡ get_or bs 0 0 ∷ []
take_one [] some = absurd (omega (arith, some))
take_one (b ∷ bs) some = refl

take_three : (bs : List ℕ) → 3 ≤ length bs → get_or bs 1 0 ≡ 8 → take 3 bs ≡ get_or bs 0 0 ∷ 8 ∷ get_or bs 2 0 ∷ []
take_three [] some is = absurd (omega (arith, some))
take_three (a ∷ []) some is = absurd (omega (arith, some))
take_three (a ∷ b ∷ []) some is = absurd (omega (arith, some))
take_three (a ∷ b ∷ c ∷ bs) some is = ap (λ (x : ℕ). a ∷ x ∷ c ∷ []) is

pub Goes-once : (r : Reader) (bs old new : List ℕ) (from end : ℕ) → IsFresh r → 0 < length bs → goes_out r.table (get_or bs 0 0) ≡ true → from ≤ length old → end ≤ length new
    → Puts old from new end (text r.table (get_or bs 0 0)) → Goes r r bs 1 old from new end
Goes-once r bs old new from end fresh some goes l k put =
    let P : List ℕ → Type 0 = λ xs. Makes r r xs (text r.table (get_or bs 0 0)) in
    Goes-of r r bs (text r.table (get_or bs 0 0)) 1 old new from end (subst P (sym (take_one bs some)) (Makes-once r (get_or bs 0 0) fresh goes)) (omega (arith, some)) l k put

pub Goes-gap : (r : Reader) (bs old new : List ℕ) (from end : ℕ) → r.half ≡ Nothing → 0 < length bs → goes_out r.table (get_or bs 0 0) ≡ true → shows r.table (get_or bs 0 0) ≡ false
    → from ≤ length old → end ≤ length new → Puts old from new end (turning r.way Plain ++ text r.table (get_or bs 0 0)) → Goes r (turned Plain r) bs 1 old from new end
Goes-gap r bs old new from end none some goes hidden l k put =
    let o = turning r.way Plain ++ text r.table (get_or bs 0 0) in
    let P : List ℕ → Type 0 = λ xs. Makes r (turned Plain r) xs o in
    Goes-of r (turned Plain r) bs o 1 old new from end (subst P (sym (take_one bs some)) (Makes-gap r (get_or bs 0 0) none goes hidden)) (omega (arith, some)) l k put

pub Goes-struck : (r : Reader) (bs old new : List ℕ) (from end : ℕ) → r.half ≡ Nothing → 3 ≤ length bs → get_or bs 1 0 ≡ 8 → strikes r.table (get_or bs 0 0) (get_or bs 2 0) ≡ true
    → from ≤ length old → end ≤ length new → Puts old from new end (drawn r.table r.way (Over (get_or bs 0 0) (get_or bs 2 0)))
    → Goes r (out (Over (get_or bs 0 0) (get_or bs 2 0)) r).reader bs 3 old from new end
Goes-struck r bs old new from end none some back is l k put =
    let a = get_or bs 0 0 in
    let b = get_or bs 2 0 in
    let s = (out (Over a b) r).reader in
    let P : List ℕ → Type 0 = λ xs. Makes r s xs (drawn r.table r.way (Over a b)) in
    Goes-of r s bs (drawn r.table r.way (Over a b)) 3 old new from end (subst P (sym (take_three bs some back)) (Makes-struck r a b none is)) some l k put

-- one that shows only where no look is open
pub Goes-alone : (r s : Reader) (bs old new : List ℕ) (from end : ℕ) → r.half ≡ Nothing → 0 < length bs → goes_out r.table (get_or bs 0 0) ≡ true
    → (shows r.table (get_or bs 0 0) ≡ false) ⊎ (is_shut r.way ≡ true) → s ≡ turned Plain r → from ≤ length old → end ≤ length new
    → Puts old from new end (turning r.way Plain ++ text r.table (get_or bs 0 0)) → Goes r s bs 1 old from new end
Goes-alone r s bs old new from end none some goes (inl hidden) is l k put =
    let P : Reader → Type 0 = λ q. Goes r q bs 1 old from new end in
    subst P (sym is) (Goes-gap r bs old new from end none some goes hidden l k put)
Goes-alone r s bs old new from end none some goes (inr shut) is l k put =
    let P : Reader → Type 0 = λ q. Goes r q bs 1 old from new end in
    let Q : List ℕ → Type 0 = λ xs. Puts old from new end (xs ++ text r.table (get_or bs 0 0)) in
    subst P (sym (is ∙ turned-shut r shut)) (Goes-once r bs old new from end (record { half = none; shut = shut }) some goes l k (subst Q (shut_turning r.way shut) put))

pub Goes-over : (r s : Reader) (bs old new : List ℕ) (from end : ℕ) → r.half ≡ Nothing → 3 ≤ length bs → get_or bs 1 0 ≡ 8 → strikes r.table (get_or bs 0 0) (get_or bs 2 0) ≡ true
    → from ≤ length old → end ≤ length new → Fills (out (Over (get_or bs 0 0) (get_or bs 2 0)) r) s old from new end 0 → Goes r s bs 3 old from new end
Goes-over r s bs old new from end none some back is l k fills =
    let P : Reader → Type 0 = λ q. Goes r q bs 3 old from new end in
    subst P (sym fills.reader) (Goes-struck r bs old new from end none some back is l k fills.put)

pub Goes-table : (r s : Reader) (bs : List ℕ) (n : ℕ) (old new : List ℕ) (from end : ℕ) → Goes r s bs n old from new end → s.table ≡ r.table
Goes-table r s bs n old new from end g = Makes-table r s (take n bs) g.out g.makes

pub Goes-half : (r s : Reader) (bs : List ℕ) (n : ℕ) (old new : List ℕ) (from end : ℕ) → Goes r s bs n old from new end → s.half ≡ Nothing
Goes-half r s bs n old new from end g = Makes-half r s (take n bs) g.out g.makes

pub Goes-serves : (r s : Reader) (bs : List ℕ) (n : ℕ) (old new : List ℕ) (from end : ℕ) (p : Spelling) → Serves p r → Goes r s bs n old from new end → Serves p s
Goes-serves r s bs n old new from end p serves g =
    let P : FixedTable → Type 0 = λ t. Spells t 256 p.all p.whole in
    subst P (sym (Goes-table r s bs n old new from end g)) serves

low : (b : ℕ) → b ≤ 32 → nat_lt 32 b ≡ false
low b l = grind (arith, nat_tests)

low_by : (x y : Bool) → x ≡ false → x && y ≡ false
low_by true y p = absurd (let never : true ≡ false = p in cc)
low_by false y p = refl

-- what stands from a place on, as a slice has it
pub rest-of : (bs : List ℕ) (i : ℕ) → take (length bs - i) (drop i bs) ≡ drop i bs
rest-of bs i = let rest = length-drop i bs in take_all (length bs - i) (drop i bs) (omega (arith, rest))

pub Goes-rest : (r s u : Reader) (bs : List ℕ) (n m : ℕ) (old mid new : List ℕ) (from to end : ℕ) → r.half ≡ Nothing → Goes r s bs n old from mid to → Goes s u (take (length bs - n) (drop n bs)) m mid to new end
    → Goes r u bs (n + m) old from new end
Goes-rest r s u bs n m old mid new from to end none f g =
    let P : List ℕ → Type 0 = λ xs. Goes s u xs m mid to new end in
    Goes-then r s u bs n m old mid new from to end (Goes-half r s bs n old mid from to f) f (subst P (rest-of bs n) g)

pub low-hidden : (t : FixedTable) (b : ℕ) → b ≤ 32 → shows t b ≡ false
low-hidden t b l = low_by (nat_lt 32 b) (goes_out t b) (low b l)

pub Puts-alone : (b : ℕ) (r s : Reader) (old mid new : List ℕ) (from to end : ℕ) → goes_out r.table b ≡ true → s ≡ turned Plain r → Puts old from mid to (turning r.way Plain) → Puts mid to new end (byte_of s.table b)
    → Puts old from new end (turning r.way Plain ++ text r.table b)
Puts-alone b r s old mid new from to end goes is first last =
    let P : FixedTable → Type 0 = λ t. Puts mid to new end (byte_of t b) in
    let Q : List ℕ → Type 0 = λ xs. Puts mid to new end xs in
    Puts-then old mid new (turning r.way Plain) (text r.table b) from to end first
    (subst Q (byte-text r.table b (goes-no_back r.table b goes)) (subst P (ap (λ (q : Reader). q.table) is) last))

-- ---- what is at the beginning of a room

pub Reads-none : (r s : Reader) (bs room : List ℕ) → s ≡ r → Reads r s bs 0 room 0
Reads-none r s bs room e = record { all = ap (λ (q : Reader). emitted q [] 0) (sym e); within = omega arith }

record Cut (end n : ℕ) (new xs : List ℕ) : Type 0 where
  prefix : take (end - n) new ≡ xs
  few : n ≤ end

cut_off : (new xs ys : List ℕ) (end : ℕ) → end ≤ length new → take end new ≡ xs ++ ys → Cut end (length ys) new xs
cut_off new xs ys end l e =
    let size = length-take-le end new l in
    let same : length (take end new) ≡ length (xs ++ ys) = ap length e in
    let both = length-append xs ys in
    let at : end - length ys ≡ length xs = omega (arith, size, same, both) in
    record {
      prefix = sym (take-take (end - length ys) end new (omega arith)) ∙ ap (λ (zs : List ℕ). take (end - length ys) zs) e ∙ ap (λ (n : ℕ). take n (xs ++ ys)) at
          ∙ take-append-le (length xs) xs ys (omega arith) ∙ take_all (length xs) xs (omega arith);
      few = omega (arith, size, same, both);
    }

record Prefix (r0 s : Reader) (bs : List ℕ) (n : ℕ) (new : List ℕ) (end : ℕ) : Type 0 where
  reads : Reads r0 (with_half (half_after s.table (take n bs)) s) bs n new (end - length (half_text s.table (half_after s.table (take n bs))))
  few : length (half_text s.table (half_after s.table (take n bs))) ≤ end

prefixes : (r0 r s : Reader) (xs : List ℕ) (bs : List ℕ) (n : ℕ) (room mid new : List ℕ) (begin end m : ℕ) → take n bs ≡ xs → 0 < length xs → begins r0 (get_or xs 0 0) ≡ true
    → Fills (released r0.half r0) r room 0 mid begin m → Goes r s bs n mid begin new end → end ≤ length new → Prefix r0 s bs n new end
prefixes r0 r s [] bs n room mid new begin end m is some begin_is fills g l = absurd (omega (arith, some))
prefixes r0 r s (b ∷ rest) bs n room mid new begin end m is some begin_is fills g l =
    let B = (released r0.half r0).bytes in
    let P : List ℕ → Type 0 = λ ys. Makes r s ys g.out in
    let half : r.half ≡ Nothing = ap (λ (q : Reader). q.half) fills.reader ∙ (begins-released r0.half b r0 refl begin_is).1 in
    let held = Makes-held r s b rest g.out half (subst P is g.makes) in
    let table = Goes-table r s bs n mid new begin end g in
    let H = half_after r.table (b ∷ rest) in
    let same : half_after s.table (take n bs) ≡ H = ap (λ (t : FixedTable). half_after t (take n bs)) table ∙ ap (λ (ys : List ℕ). half_after r.table ys) is in
    let text_same : half_text s.table (half_after s.table (take n bs)) ≡ half_text r.table H = ap (λ (t : FixedTable). half_text t (half_after s.table (take n bs))) table ∙ ap (λ (h : Half). half_text r.table h) same in
    let all : take end new ≡ (B ++ held.prefix) ++ half_text r.table H =
    g.put ∙ ap (λ (ys : List ℕ). ys ++ g.out) fills.put ∙ ap (λ (ys : List ℕ). B ++ ys) held.split ∙ sym (append_assoc B held.prefix (half_text r.table H)) in
    let cut = cut_off new (B ++ held.prefix) (half_text r.table H) end l all in
    let fed_is : fed r0 (b ∷ rest) ≡ emitted (with_half H s) (B ++ held.prefix) 0 =
    fed-begins b rest r0 r B begin_is fills.reader refl ∙ ap (λ (t : Emitted). preceded B 0 t) held.all in
    let Q : List ℕ → Type 0 = λ ys. fed r0 ys ≡ emitted (with_half H s) (take (end - length (half_text r.table H)) new) 0 in
    let prefix : fed r0 (take n bs) ≡ emitted (with_half H s) (take (end - length (half_text r.table H)) new) 0 = subst Q (sym is) (fed_is ∙ ap (λ (ys : List ℕ). emitted (with_half H s) ys 0) (sym cut.prefix)) in
    record {
      reads = record {
        all = prefix ∙ ap (λ (h : Half). emitted (with_half h s) (take (end - length (half_text r.table H)) new) 0) (sym same) ∙ ap (λ (ys : List ℕ). emitted (with_half (half_after s.table (take n bs)) s) (take (end - length ys) new) 0) (sym text_same);
        within = g.within;
      };
      few = (let size : length (half_text s.table (half_after s.table (take n bs))) ≡ length (half_text r.table H) = ap length text_same in let far = cut.few in omega (arith, size, far));
    }

first_of_prefix : (bs : List ℕ) (n : ℕ) → 0 < n → 0 < length bs → get_or (take n bs) 0 0 ≡ get_or bs 0 0
first_of_prefix bs n some more = get_or-take n bs 0 0 some

-- what stands at the beginning of a room once what was half read, cells, and what is half read then were taken out
pub Reads-prefix : (r0 r s : Reader) (bs : List ℕ) (n : ℕ) (room mid new : List ℕ) (begin end m : ℕ) → 0 < n → 0 < length bs → begins r0 (get_or bs 0 0) ≡ true
    → Fills (released r0.half r0) r room 0 mid begin m → Goes r s bs n mid begin new end → end ≤ length new
    → Reads r0 (with_half (half_after s.table (take n bs)) s) bs n new (end - length (half_text s.table (half_after s.table (take n bs))))
Reads-prefix r0 r s bs n room mid new begin end m some more begin_is fills g l =
    let within : n ≤ length bs = g.within in
    let cut = length-take-le n bs within in
    let P : ℕ → Type 0 = λ b. begins r0 b ≡ true in
    (prefixes r0 r s (take n bs) bs n room mid new begin end m refl (omega (arith, cut, some)) (subst P (sym (first_of_prefix bs n some more)) begin_is) fills g l).reads

pub Reads-few : (r0 r s : Reader) (bs : List ℕ) (n : ℕ) (room mid new : List ℕ) (begin end m : ℕ) → 0 < n → 0 < length bs → begins r0 (get_or bs 0 0) ≡ true
    → Fills (released r0.half r0) r room 0 mid begin m → Goes r s bs n mid begin new end → end ≤ length new → length (half_text s.table (half_after s.table (take n bs))) ≤ end
Reads-few r0 r s bs n room mid new begin end m some more begin_is fills g l =
    let within : n ≤ length bs = g.within in
    let cut = length-take-le n bs within in
    let P : ℕ → Type 0 = λ b. begins r0 b ≡ true in
    (prefixes r0 r s (take n bs) bs n room mid new begin end m refl (omega (arith, cut, some)) (subst P (sym (first_of_prefix bs n some more)) begin_is) fills g l).few
