-- The code of a cluster from where it stands.
use Rattle.std.proofs.Common.{◌≡◌, ℕ, ◌+◌, ◌-◌, ◌*◌, ◌/◌, ◌%◌, ◌<◌, ◌≤◌, List, length, Bool, true, false, if◌then◌else◌, Option, None, Some, slice_get, refl, sym, ◌∙◌, ap, arith}
use Rattle.std.proofs.lemmas.Option.{slice_get_within}
use Rattle.utf8_own_characters.specs.declared.cluster.Cluster.{Cluster}
use Rattle.utf8_own_characters.specs.declared.table.Code.{Code}
use Rattle.utf8_own_characters.specs.declared.table.Code.TheVariants.{One, Two}
use Rattle.utf8_own_characters.specs.Cluster.{is_same, is_ascii, is_wide}
use Rattle.utf8_own_characters.specs.Table.{Characters, Good, leads, trails, first_lead, first_trail, place_of, code_at, code}
use Rattle.utf8_own_characters.proofs.Tests.{if_not}
use Rattle.utf8_own_characters.proofs.Places.{same_cluster, not_none, stands_there, place_there, wide_there, no_narrow_place, Halved, halved}

pub record PairFits (t : Characters) (p : ℕ) : Type 0 where
  pub some : 0 < trails t
  pub lead : first_lead t + p / trails t < 256
  pub trail : first_trail t + p % trails t < 256

pub pair_fits : (t : Characters) (p : ℕ) → Good t → p < length t.wide → PairFits t p
pair_fits t p good within =
    let h = halved p (length t.wide) (leads t) (trails t) within good.enough in
    let few = good.few in
    let row : p / trails t < leads t = h.row in
    let column : p % trails t < trails t = h.column in
    record { some = h.some; lead = omega arith; trail = omega arith }

pub narrow_within : (t : Characters) (c : Cluster) (n : ℕ) → Good t → place_of t.narrow c ≡ Some n → 128 + n < 256
narrow_within t c n good e =
    let within : n < length t.narrow = slice_get_within t.narrow n c (stands_there t.narrow c n e) in
    let few = good.few in omega arith

pub wide_within : (t : Characters) (c : Cluster) (p : ℕ) → place_of t.wide c ≡ Some p → p < length t.wide
wide_within t c p e = slice_get_within t.wide p c (stands_there t.wide c p e)

pub narrow_code : (t : Characters) (c : Cluster) (n : ℕ) → Good t → is_ascii c ≡ false → slice_get t.narrow n ≡ Some c → code t c ≡ Some (One (128 + n))
narrow_code t c n good e there =
    if_not (is_ascii c) (Some (One c.letter)) (code_at t (place_of t.narrow c) (place_of t.wide c)) e
    ∙ ap (λ (o : Option ℕ). code_at t o (place_of t.wide c)) (place_there t.narrow n c good.narrow_once (not_none c e) there)

pub wide_code : (t : Characters) (c : Cluster) (p : ℕ) → Good t → is_ascii c ≡ false → slice_get t.wide p ≡ Some c → code t c ≡ code_at t None (Some p)
wide_code t c p good e there =
    let wide = wide_there t.wide p c good.wide there in
    if_not (is_ascii c) (Some (One c.letter)) (code_at t (place_of t.narrow c) (place_of t.wide c)) e
    ∙ ap (λ (o : Option ℕ). code_at t o (place_of t.wide c)) (no_narrow_place t.narrow c good.narrow wide)
    ∙ ap (λ (o : Option ℕ). code_at t None o) (place_there t.wide p c good.wide_once (not_none c e) there)

pub sought_code : (t : Characters) (c : Cluster) → is_ascii c ≡ false → code t c ≡ code_at t (place_of t.narrow c) (place_of t.wide c)
sought_code t c e = if_not (is_ascii c) (Some (One c.letter)) (code_at t (place_of t.narrow c) (place_of t.wide c)) e

pub there_if : (xs : List Cluster) (i : ℕ) (x c : Cluster) (r : Bool) → slice_get xs i ≡ Some x → r ≡ is_same x c → r ≡ true → slice_get xs i ≡ Some c
there_if xs i x c r p e t = p ∙ ap Some (same_cluster x c (sym e ∙ t))

pub wide_fits : (t : Characters) (c : Cluster) (p : ℕ) → Good t → place_of t.wide c ≡ Some p → p < length t.wide
wide_fits t c p good e = wide_within t c p e

pub code_if_narrow : (t : Characters) (c : Cluster) (n : ℕ) → Good t → false ≡ is_ascii c → slice_get t.narrow n ≡ Some c → Some (One (128 + n)) ≡ code t c
code_if_narrow t c n good e there = sym (narrow_code t c n good (sym e) there)

pub code_if_wide : (t : Characters) (c : Cluster) (p : ℕ) (r : Code) → Good t → false ≡ is_ascii c → slice_get t.wide p ≡ Some c
    → code_at t None (Some p) ≡ Some r → Some r ≡ code t c
code_if_wide t c p r good e there made = sym (wide_code t c p good (sym e) there ∙ made)
