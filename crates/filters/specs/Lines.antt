-- Lines of several parts.
use Rattle.std.specs.Prelude.{ℕ, List, map}
use Rattle.std.specs.Borrow.{Bor}
use Rattle.std.specs.List.{concat}

-- the bytes that references point to, one after the other
abbrev pub joined : List (Bor (List ℕ)) → List ℕ
joined parts = concat (map (λ (part : Bor (List ℕ)). part.now) parts)
