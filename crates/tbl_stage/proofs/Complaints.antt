-- The complaints that are kept.
use Rattle.std.proofs.Common.{◌≡◌, ℕ, ◌+◌, ◌<◌, ◌≤◌, List, [], ◌∷◌, ◌++◌, length, take, Bool, true, false, nat_lt, refl, sym, ap, ◌∙◌, length-append, arith}
use Rattle.std.proofs.lemmas.Bool.Decides.{nat_tests}
use Rattle.std.proofs.lemmas.List.{length-take, take_all, take-append-le}
use Rattle.nr_vectors.specs.Items.{Items}
use Rattle.tbl_reader.specs.declared.complaint.Complaint.{Complaint}
use Rattle.tbl_reader.specs.declared.complaint.Kind.TheVariants.{NoFormat}
use Rattle.tbl_setting.specs.Setting.{Keeps, KeepsMore}
use Rattle.tbl_setting.specs.Stepping.{AreKept}
use Rattle.tbl_stage.specs.Staged.{HoldsFirst}

one_more : List Complaint
one_more = record { kind = NoFormat; line = 0 } ∷ []

none_missed : (n cap : ℕ) → n ≤ cap → false ≡ nat_lt cap n
none_missed n cap few = grind (arith, nat_tests)

some_missed : (n cap : ℕ) → cap < n → true ≡ nat_lt cap n
some_missed n cap many = grind (arith, nat_tests)

is_missed : (n cap : ℕ) → nat_lt cap n ≡ true → cap < n
is_missed n cap is = grind (arith, nat_tests)

-- they are the first of some
pub kept_in : (kept : Items Complaint) (missed : Bool) → HoldsFirst kept missed → AreKept kept missed
kept_in kept false (few, full) =
    (kept.items, record { first = sym (take_all kept.capacity kept.items few); others = none_missed (length kept.items) kept.capacity few })
kept_in kept true (few, full) =
    let same : length kept.items ≡ kept.capacity = full refl in
    let more : length (kept.items ++ one_more) ≡ length kept.items + 1 = (unfold one_more in length-append kept.items one_more) in (
      kept.items ++ one_more,
      record {
        first = sym (take-append-le kept.capacity kept.items one_more (omega (arith, same)) ∙ take_all kept.capacity kept.items few);
        others = some_missed (length (kept.items ++ one_more)) kept.capacity (omega (arith, same, more));
      },
    )

missed_so : (all : List Complaint) (cap n : ℕ) (missed : Bool) → missed ≡ nat_lt cap (length all) → n ≡ length (take cap all) → missed ≡ true → n ≡ cap
missed_so all cap n missed others count is =
    let over : cap < length all = is_missed (length all) cap (sym others ∙ is) in
    let cut = length-take cap all in
    omega (arith, over, cut, count)

pub kept_out : (all : List Complaint) (kept : Items Complaint) (missed : Bool) → Keeps all kept missed → HoldsFirst kept missed
kept_out all kept missed k =
    let count : length kept.items ≡ length (take kept.capacity all) = ap (λ (l : List Complaint). length l) k.first in
    let cut = length-take kept.capacity all in
    (omega (arith, count, cut), missed_so all kept.capacity (length kept.items) missed k.others count)

-- and more are reported
pub kept_more : (old new : Items Complaint) (before missed : Bool) (more : List Complaint) → HoldsFirst old before → KeepsMore old before new missed more → HoldsFirst new missed
kept_more old new before missed more holds keeps =
    let all = kept_in old before holds in
    kept_out (all.0 ++ more) new missed (keeps all.0 all.1)
