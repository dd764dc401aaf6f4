-- What went into a room that a sink takes bytes into.
use Rattle.std.proofs.Common.{◌≡◌, ℕ, ◌<◌, List, [], ◌++◌, length, Option, Some, ap, subst, ◌∙◌, length-append, arith, inl, inr}
use Rattle.nr_units.specs.Failures.{SinkFailures, next_count}
use Rattle.tbl_setting.specs.Stepping.{Sent}
use Rattle.tbl_stage.specs.Filling.{Fills}

-- a sink that held nothing, and which is full where a call of it failed
filled : (bytes items : List ℕ) (room : ℕ) (before after : SinkFailures) → before.puts ≡ 0 → (0 < after.puts → length items ≡ room)
    → Sent bytes (Some []) (Some items) before after → Fills bytes items room
unfolding next_count
filled bytes items room before after none full (inl (all, same)) = inl all
filled bytes items room before after none full (inr ((prefix, rest, split, is), fails)) =
    let one : after.puts ≡ 1 = ap (λ (f : SinkFailures). f.puts) fails ∙ ap next_count none in
    let most : length items ≡ room = full (omega (arith, one)) in
    let cut : length bytes ≡ length (prefix ++ rest) = ap (λ (l : List ℕ). length l) split in
    let same : length items ≡ length prefix = ap (λ (l : List ℕ). length l) is in
    let sum = length-append prefix rest in
    inr (most, omega (arith, most, cut, same, sum))

pub filled_so : (bytes items : List ℕ) (room : ℕ) (held new : Option (List ℕ)) (before after : SinkFailures) → Sent bytes held new before after → held ≡ Some [] → new ≡ Some items
    → before.puts ≡ 0 → (0 < after.puts → length items ≡ room) → Fills bytes items room
filled_so bytes items room held new before after sent first last none full =
    filled bytes items room before after none full
    (subst (λ (z : Option (List ℕ)). Sent bytes (Some []) z before after) last (subst (λ (z : Option (List ℕ)). Sent bytes z new before after) first sent))
