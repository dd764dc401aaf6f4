-- The rest of a line that does nothing, as moves of the machine that reads and what they cost.
use Prim.Native.Char.{code}
use Rattle.std.specs.Prelude.{map, take, slice_index}
use Rattle.std.proofs.Common.{◌≡◌, ◌≢◌, ℕ, zero, suc, ◌+◌, ◌<◌, ◌≤◌, true, false, List, length, All, Some, refl, ap, sym, ◌∙◌, subst, add-one, arith}
use Rattle.std.proofs.lemmas.Bool.{ne_eqb}
use Rattle.std.proofs.lemmas.List.{length-map}
use Rattle.nr_store.specs.Store.{Stored}
use Rattle.nr_reading.specs.declared.next_item.NextItem.{NextItem}
use Rattle.nr_reading.specs.declared.next_item.NextItem.TheVariants as next_items
use Rattle.nr_reading.specs.declared.half.Half.{Half}
use Rattle.nr_reading.specs.declared.mode.Mode.{Mode}
use Rattle.nr_reading.specs.declared.mode.Mode.TheVariants as modes
use Rattle.nr_reading.specs.Many.InArgument.{IsPlain}
use Rattle.nr_reading.specs.Many.Passing.{quiet}
use Rattle.nr_reading.specs.Many.Runs.{HasTakenIn}
use Rattle.nr_input.specs.declared.reader.Reader.{Reader}
use Rattle.fast_input.specs.DroppedLines.{is_dropping, is_dropping_in}
use Rattle.fast_input.specs.MacroLines.{ReadsOn}
use Rattle.fast_input.proofs.MacroBytes.{TakesIn, taken_in_byte, nothing_taken_in, byte_there, IsIdle, idle, half_in, is_half_in}
use Rattle.fast_input.proofs.MacroLines.{reads_taken_in}
use Rattle.fast_input.proofs.PuttingRead.{plain_at}

record IsDropping (h : Half) : Type 0 where
  mode : h.reading.mode ≡ modes.Drop
  idle : IsIdle h.reading.pending_act h.asks h.reading.escape

dropping_by : (m : Mode) (h : Half) → is_dropping_in m h ≡ true → h.reading.mode ≡ m → IsDropping h
dropping_by modes.Drop h is mode = record { mode = mode; idle = idle h.reading.pending_act h.asks h.reading.escape is }
dropping_by m h is mode = absurd (let wrong : false ≡ true = is in cc)

-- a byte does nothing, and the newline ends the line
takes_in_plain : (b : ℕ) (h : Half) → b ≢ code "\\" → b ≢ code "\n" → TakesIn b (half_in modes.Drop h) (half_in modes.Drop h) true
takes_in_plain b h apart other = rw (ne_eqb b (code "\\") apart, ne_eqb b (code "\n") other) refl

takes_in_newline : (h : Half) → TakesIn (code "\n") (half_in modes.Drop h) (half_in modes.Start h) true
takes_in_newline h = refl

module _ (n : ℕ) (bs : List ℕ) (h : Half) (less : n < length bs) (plain : All (IsPlain (code "\n")) (take n bs)) (newline : slice_index bs n ≡ code "\n") where
  abbrev fs : List NextItem
  fs = map next_items.Byte bs

  plain_taken_in : (k : ℕ) → k ≤ n → HasTakenIn k fs (half_in modes.Drop h) (quiet k (half_in modes.Drop h))
  plain_taken_in zero few = nothing_taken_in fs (half_in modes.Drop h)
  plain_taken_in (suc k) few =
      let d = half_in modes.Drop h in
      let byte = plain_at n k (code "\n") bs (omega (arith, few)) (omega (arith, less)) plain in
      subst (λ j. HasTakenIn j fs d (quiet j d)) (add-one k)
      (taken_in_byte k k (slice_index bs k) true fs d d d (plain_taken_in k (omega (arith, few))) (omega (arith, few, less, length-map bs next_items.Byte)) refl (byte_there bs k (omega (arith, few, less))) (takes_in_plain (slice_index bs k) h byte.2 byte.0))

  pub line_taken_in : HasTakenIn (n + 1) fs (half_in modes.Drop h) (quiet (n + 1) (half_in modes.Start h))
  line_taken_in =
      let d = half_in modes.Drop h in
      taken_in_byte n n (code "\n") true fs d d (half_in modes.Start h) (plain_taken_in n (omega arith)) (omega (arith, less, length-map bs next_items.Byte)) refl (byte_there bs n less ∙ ap (λ c. Some (next_items.Byte c)) newline) (takes_in_newline h)

pub dropped_reads : {K : Type 0} (n : ℕ) (bs : List ℕ) (v : Stored K) (r : Reader) → is_dropping r.half ≡ true → n < length bs → All (IsPlain (code "\n")) (take n bs) → slice_index bs n ≡ code "\n"
    → ReadsOn (n + 1) (n + 1) bs v r v (record r { half = record r.half { reading = record r.half.reading { mode = modes.Start } } })
dropped_reads n bs v r is less plain newline =
    let i = dropping_by r.half.reading.mode r.half is refl in
    let h = r.half in
    let same = is_half_in modes.Drop h i.mode i.idle in
    let dropped = record r { half = half_in modes.Drop h } in
    let end = record r { half = half_in modes.Start h } in
    let stands : dropped ≡ r = ap (λ (k : Half). record r { half = k }) (sym same) in
    let ends : end ≡ record r { half = record h { reading = record h.reading { mode = modes.Start } } } = ap (λ (k : Half). record r { half = record k { reading = record k.reading { mode = modes.Start } } }) (sym same) in
    subst (λ (q : Reader). ReadsOn (n + 1) (n + 1) bs v q v (record r { half = record h { reading = record h.reading { mode = modes.Start } } })) stands
    (subst (λ (q : Reader). ReadsOn (n + 1) (n + 1) bs v dropped v q) ends (reads_taken_in (n + 1) (n + 1) bs v dropped (half_in modes.Start h) (line_taken_in n bs h less plain newline)))
