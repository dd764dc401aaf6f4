-- The newest escape that is half read, or that there is none.
use Prim.Native.Char.{code}
use Rattle.std.specs.Prelude.{slice_get, ◌==◌}
use Rattle.std.proofs.Common.{◌≡◌, ℕ, Bool, true, false, List, [], ◌∷◌, None, Some, refl, ap}
use Rattle.nr_reading.specs.declared.ask.Ask.{Ask}
use Rattle.nr_reading.specs.declared.half.Half.{Half}
use Rattle.nr_reading.specs.declared.mode.Escape.{Escape}
use Rattle.nr_reading.specs.Ask.{answer}
use Rattle.nr_reading.specs.declared.next_item.NextItem.TheVariants as next_items
use Rattle.nr_reading.specs.declared.mode.Escape.TheVariants as escapes
use Rattle.nr_reading.specs.Mode.{is_direct}
use Rattle.nr_reading.specs.Half.{reads_plainly, reads_plainly_at, take_in, taken_in_copied, answered, hear_by}
use Rattle.nr_reading.specs.Reader.{read}

pub hear_reader : (asks : List Ask) (next_item : Bool) (b : ℕ) (h : Half) → slice_get asks 0 ≡ None → hear_by asks next_item b h ≡ taken_in_copied next_item (read b h.signs h.notes h.reading) h
hear_reader [] next_item b h none = refl
hear_reader (a ∷ asks) next_item b h none = let wrong : ⊥ = cc in absurd wrong

pub hear_ask : (asks : List Ask) (a : Ask) (next_item : Bool) (b : ℕ) (h : Half) → slice_get asks 0 ≡ Some a → hear_by asks next_item b h ≡ answered next_item (answer b h.signs.long a) h
hear_ask [] a next_item b h some = let wrong : ⊥ = cc in absurd wrong
hear_ask (n ∷ asks) a next_item b h some = let same : n ≡ a = cc in ap (λ (x : Ask). answered next_item (answer b h.signs.long x) h) same

-- ---- where no part of an escape is half read

parts : (asks : List Ask) (e : Escape) → reads_plainly_at asks e ≡ true → (asks ≡ []) × (e ≡ escapes.Plain)
parts [] escapes.Plain is = (refl, refl)
parts [] escapes.Begun is = absurd (let wrong : false ≡ true = is in cc)
parts [] escapes.Comment is = absurd (let wrong : false ≡ true = is in cc)
parts (a ∷ asks) e is = absurd (let wrong : false ≡ true = is in cc)

pub take_in-copied : (b : ℕ) (h : Half) → reads_plainly h ≡ true → is_direct h.reading.mode ≡ false → (b == code "\\") ≡ false → take_in (next_items.Byte b) h ≡ taken_in_copied true (read b h.signs h.notes h.reading) h
take_in-copied b h is copied plain = let all = parts h.asks h.reading.escape is in rw (all.0, all.1, copied, plain) refl
