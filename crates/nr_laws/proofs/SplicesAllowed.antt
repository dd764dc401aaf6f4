-- A text is spliced where its level has room.
use Rattle.std.specs.Prelude.{nat_le, nat_lt}
use Rattle.std.proofs.Common.{◌≡◌, ◌<◌, ◌≤◌, Bool, true, false, length, Ok, Err, refl, if◌then◌else◌}
use Rattle.std.proofs.lemmas.Bool.{le-ltb, lt-leb}
use Rattle.nr_store.specs.Store.{Stored, charge_of}
use Rattle.nr_store.specs.declared.refusal.Refusal.TheVariants as stores
use Rattle.nr_input.specs.declared.reader.Reader.{Reader}
use Rattle.nr_input.specs.Refusal.{splicing_by, splicing_answer}

-- by the tests that it meets
allowed : (charged deep : Bool) (r : Reader) → charged ≡ false → deep ≡ false → nat_le r.most r.burst ≡ false
    → splicing_by (if charged then Err stores.Stored else (if deep then Err stores.Depth else Ok true)) r ≡ Ok tt
allowed charged deep r few shallow less = rw (few, shallow, less) refl

pub splicing-allowed : {K : Type 0} (w : Stored K) (r : Reader) → charge_of w ≤ w.limit → length w.levels ≤ w.deepest → r.burst < r.most → splicing_answer true w r ≡ Ok tt
splicing-allowed w r charge depth burst =
    allowed (nat_lt w.limit (charge_of w)) (nat_lt w.deepest (length w.levels)) r (le-ltb w.limit (charge_of w) charge) (le-ltb w.deepest (length w.levels) depth) (lt-leb r.most r.burst burst)
