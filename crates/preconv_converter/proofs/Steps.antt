-- How many steps bytes take.
use Rattle.std.proofs.Common.{◌≡◌, ℕ, zero, suc, ◌+◌, ◌*◌, ◌≤◌, List, [], ◌∷◌, length, Bool, true, false, nat_lt, if◌then◌else◌, refl, ◌∙◌, ap, arith}
use Rattle.preconv_characters.specs.declared.target.Target.{Target}
use Rattle.preconv_lines.specs.declared.half.Coming.{Coming}
use Rattle.preconv_lines.specs.declared.half.Coming.TheVariants.{Byte, Wide}
use Rattle.preconv_converter.specs.declared.reader.Reader.{Reader}
use Rattle.preconv_converter.specs.declared.reader.Pending.{Pending}
use Rattle.preconv_converter.specs.declared.reader.Pending.TheVariants.{Nothing, One, Two, Three}
use Rattle.preconv_characters.specs.Saying.{bytes_of, sent}
use Rattle.preconv_lines.specs.Offering.{offer, is_raw}
use Rattle.preconv_converter.specs.Reading.{Emitted, is_lead, is_tail, is_second, emitted, preceded}
use Rattle.preconv_converter.specs.Reading.{then_emitted, with_half, pending_with, heard_in, heard, stray}
use Rattle.preconv_converter.specs.Reading.{strays, pending_heard, fresh, apart, whole, heard_after, read}
use Rattle.preconv_converter.specs.Reading.{fed, first_reader}
use Rattle.preconv_converter.specs.Staged.{steps_said}

-- ---- a character is heard in so many steps at most, and what is pending stays

record Hears (most : ℕ) (p : Pending) (t : Emitted) : Type 0 where
  quick : t.steps ≤ most
  stays : t.reader.pending ≡ p

Hears-split : {n : ℕ} {p : Pending} (x : Bool) {t u : Emitted} → Hears n p t → Hears n p u → Hears n p (if x then t else u)
Hears-split true a b = a
Hears-split false a b = b

Hears-step : (bytes : List ℕ) (n : ℕ) (p : Pending) (t : Emitted) → Hears n p t → Hears (suc n) p (preceded bytes 1 t)
Hears-step bytes n p t h = record { quick = (let few = h.quick in omega (arith, few)); stays = h.stays }

heard_in-quick : (n : ℕ) (c : Coming) (r : Reader) → Hears n r.pending (heard_in n c r)
heard_in-quick zero c r = record { quick = omega arith; stays = refl }
heard_in-quick (suc n) c r =
    let m = offer c r.half in
    let taken : Hears n r.pending (emitted (with_half m.half r) [] 0) = record { quick = omega arith; stays = refl } in
    Hears-step (bytes_of r.table m.said) n r.pending _ (Hears-split m.takes taken (heard_in-quick n c (with_half m.half r)))

heard-quick : (c : Coming) (r : Reader) → Hears 6 r.pending (heard c r)
unfolding heard
heard-quick c r = heard_in-quick 6 c r

pub heard-stays : (c : Coming) (r : Reader) → (heard c r).reader.pending ≡ r.pending
heard-stays c r = (heard-quick c r).stays

Hears-then : (m n : ℕ) (p : Pending) (t : Emitted) (next : Reader → Emitted) → Hears m p t → ((r : Reader) → Hears n r.pending (next r)) → Hears (m + n) p (then_emitted t next)
Hears-then m n p t next h more = record {
  quick = (let first = h.quick in let second = (more t.reader).quick in omega (arith, first, second));
  stays = (more t.reader).stays ∙ h.stays;
}

-- how many bytes are pending
abbrev count : Pending → ℕ
count Nothing = 0
count (One a) = 1
count (Two a b) = 2
count (Three a b c) = 3

strays-quick : (p : Pending) (r : Reader) → Hears (6 * count p) r.pending (strays p r)
strays-quick Nothing r = record { quick = omega arith; stays = refl }
strays-quick (One a) r = heard-quick (Wide a) r
strays-quick (Two a b) r = Hears-then 6 6 r.pending (stray a r) (λ s. stray b s) (heard-quick (Wide a) r) (λ s. heard-quick (Wide b) s)
strays-quick (Three a b c) r =
    Hears-then 12 6 r.pending (then_emitted (stray a r) (λ s. stray b s)) (λ s. stray c s)
    (Hears-then 6 6 r.pending (stray a r) (λ s. stray b s) (heard-quick (Wide a) r) (λ s. heard-quick (Wide b) s))
    (λ s. heard-quick (Wide c) s)

-- ---- six steps are paid for each byte that comes, and kept for one that is pending

record Pays (n : ℕ) (t : Emitted) : Type 0 where
  enough : t.steps + 6 * count t.reader.pending ≤ n

pays : (n : ℕ) (t : Emitted) → t.steps + 6 * count t.reader.pending ≤ n → Pays n t
pays n t l = record { enough = l }

Pays-split : {n : ℕ} (x : Bool) {t u : Emitted} → Pays n t → Pays n u → Pays n (if x then t else u)
Pays-split true p q = p
Pays-split false p q = q

Pays-heard : (n : ℕ) (p : Pending) (t : Emitted) → count p ≡ 0 → Hears n p t → Pays n t
Pays-heard n p t none h =
    let few = h.quick in let same : count t.reader.pending ≡ count p = ap count h.stays in pays n t (omega (arith, few, same, none))

fresh-pays : (b : ℕ) (r : Reader) → r.pending ≡ Nothing → Pays 6 (fresh b r)
fresh-pays b r nothing =
    let none : count r.pending ≡ 0 = ap count nothing in
    Pays-split (nat_lt b 127) (Pays-heard 6 r.pending (heard (Byte b) r) none (heard-quick (Byte b) r))
    (Pays-split (is_lead b) (pays 6 (emitted (pending_with (One b) r) [] 0) (omega arith))
    (Pays-heard 6 r.pending (stray b r) none (heard-quick (Wide b) r)))

-- a byte is paid for, and so is what was pending
abbrev Paid : Reader → Emitted → Type 0
Paid r t = Pays (6 * count r.pending + 6) t

apart-pays : (b : ℕ) (r : Reader) → Paid r (apart b r)
apart-pays b r =
    let before = pending_heard r in
    let h = strays-quick r.pending (pending_with Nothing r) in
    let first : before.steps ≤ 6 * count r.pending = h.quick in
    let second = (fresh-pays b before.reader h.stays).enough in
    pays (6 * count r.pending + 6) (apart b r) (omega (arith, first, second))

whole-pays : (code : ℕ) (r : Reader) → Paid r (whole code r)
whole-pays code r =
    let h = heard-quick (Wide code) (pending_with Nothing r) in
    let few = h.quick in
    let none : count (whole code r).reader.pending ≡ 0 = ap count h.stays in
    pays (6 * count r.pending + 6) (whole code r) (omega (arith, few, none))

-- one more is pending
kept-pays : (p : Pending) (r : Reader) → count p ≤ count r.pending + 1 → Paid r (emitted (pending_with p r) [] 0)
kept-pays p r l = pays (6 * count r.pending + 6) (emitted (pending_with p r) [] 0) (omega (arith, l))

heard_after-pays : (p : Pending) (b : ℕ) (r : Reader) → r.pending ≡ p → Paid r (heard_after p b r)
heard_after-pays Nothing b r e = apart-pays b r
heard_after-pays (One a) b r e =
    let same : count r.pending ≡ 1 = ap count e in
    Pays-split (is_second a b) (Pays-split (nat_lt a 224) (whole-pays _ r) (kept-pays (Two a b) r (omega (arith, same)))) (apart-pays b r)
heard_after-pays (Two a b) c r e =
    let same : count r.pending ≡ 2 = ap count e in
    Pays-split (is_tail c) (Pays-split (nat_lt a 240) (whole-pays _ r) (kept-pays (Three a b c) r (omega (arith, same)))) (apart-pays c r)
heard_after-pays (Three a b c) d r e = Pays-split (is_tail d) (whole-pays _ r) (apart-pays d r)

read-pays : (b : ℕ) (r : Reader) → Paid r (read b r)
read-pays b r = Pays-split (is_raw r.half.line) (pays (6 * count r.pending + 6) (emitted _ (sent r.table b ∷ []) 1) (omega arith)) (heard_after-pays r.pending b r refl)

-- ---- many bytes

fed-paid : (bs : List ℕ) (r : Reader) → (fed r bs).steps + 6 * count (fed r bs).reader.pending ≤ 6 * count r.pending + 6 * length bs
fed-paid [] r = omega arith
fed-paid (b ∷ bs) r =
    let t = read b r in
    let one = (read-pays b r).enough in
    let more = fed-paid bs t.reader in omega (arith, one, more)

pub steps_said-quick : (e : Target) (ends : Bool) (bs : List ℕ) → steps_said (first_reader e) ends bs ≤ 6 * length bs
steps_said-quick e true bs =
    let all = fed-paid bs (first_reader e) in
    let r = (fed (first_reader e) bs).reader in
    let last = (strays-quick r.pending (pending_with Nothing r)).quick in omega (arith, all, last)
steps_said-quick e false bs = let all = fed-paid bs (first_reader e) in omega (arith, all)
