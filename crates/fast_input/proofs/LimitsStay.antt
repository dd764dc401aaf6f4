-- Many moves change no limit.
use Rattle.std.proofs.Common.{◌≡◌, ℕ, zero, suc, List, refl, ◌∙◌}
use Rattle.nr_store.specs.Store.{Stored, left}
use Rattle.nr_store.specs.Windows.{left_times}
use Rattle.nr_input.specs.declared.reader.Reader.{Reader}
use Rattle.nr_input.specs.Limits.{limits_of}
use Rattle.nr_input.proofs.LimitsStay.{left-limits}
use Rattle.fast_input.specs.declared.target.Target.{Target}
use Rattle.fast_input.specs.declared.target.Target.TheVariants.{Argument, Text}
use Rattle.fast_input.specs.Target.{with_more}

-- after what comes next, so many times
pub left_times-limits : {K : Type 0} (n : ℕ) (v : Stored K) (r : Reader) → limits_of (left_times n v) r ≡ limits_of v r
left_times-limits zero v r = refl
left_times-limits (suc n) v r = left_times-limits n (left v.levels v) r ∙ left-limits v.levels v r

-- with more bytes in an argument or a text
pub with_more-limits : {K : Type 0} (target : Target) (bs : List ℕ) (v : Stored K) (r : Reader) → limits_of (with_more target bs v) r ≡ limits_of v r
with_more-limits Argument bs v r = refl
with_more-limits Text bs v r = refl
