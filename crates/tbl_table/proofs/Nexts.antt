-- What is read of the next one, where some are left.
use Rattle.std.proofs.Common.{◌≡◌, ℕ, suc, ◌+◌, ◌-◌, ◌<◌, ◌||◌, ap, arith}
use Rattle.tbl_table.specs.declared.table.Table.{Table}
use Rattle.tbl_table.specs.Held.{field, prints, some_print}

next_left : (n end : ℕ) → n < end → end - n ≡ suc (end - (n + 1))
next_left n end h = omega (arith, h)

pub prints_next : (t : Table) (n end : ℕ) → n < end → some_print (end - n) t n ≡ (prints (field t n) || some_print (end - (n + 1)) t (n + 1))
prints_next t n end h = ap (λ (m : ℕ). some_print m t n) (next_left n end h)
