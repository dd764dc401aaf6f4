-- Bytes are read one by one: what is half read, and what goes out.
use Rattle.std.specs.Prelude.{ℕ, ◌+◌, List, [], ◌∷◌, ◌++◌, Bool, ◌==◌, if◌then◌else◌}
use Rattle.nr_vectors.specs.declared.cell.Look.{Look}
use Rattle.nr_vectors.specs.declared.cell.Look.TheVariants.{Plain}
use Rattle.utf8_characters.specs.declared.table.FixedTable.{FixedTable}
use Rattle.utf8_converter.specs.Cells.{Cell, Once, Over, drawn, first_way, goes_out, shows, strikes, turning}
use Rattle.utf8_converter.specs.Cells.{way_after, way_to}
use Rattle.utf8_converter.specs.declared.reader.Half.{Half}
use Rattle.utf8_converter.specs.declared.reader.Half.TheVariants.{Nothing, Byte, Backspaced}
use Rattle.utf8_converter.specs.declared.reader.Reader.{Reader}

-- What is half read then, what goes out, and how many bytes were dropped.
pub record Emitted : Type 0 where
  pub reader : Reader
  pub bytes : List ℕ
  pub strays : ℕ

abbrev pub emitted : Reader → List ℕ → ℕ → Emitted
emitted r bytes strays = record { reader = r; bytes = bytes; strays = strays }

-- these bytes and so many strays, and then what comes
abbrev pub preceded : List ℕ → ℕ → Emitted → Emitted
preceded bytes strays t = record { reader = t.reader; bytes = bytes ++ t.bytes; strays = strays + t.strays }

-- first the one, then the other
abbrev pub then_emitted : Emitted → (Reader → Emitted) → Emitted
then_emitted t next = preceded t.bytes t.strays (next t.reader)

-- nothing was read
abbrev pub first_reader : FixedTable → Bool → Reader
first_reader table escapes = record { half = Nothing; way = first_way escapes; table = table }

abbrev pub with_half : Half → Reader → Reader
with_half h r = record r { half = h }

-- ---- cells go out

abbrev pub out : Cell → Reader → Emitted
out c r = emitted (record r { way = way_after r.way c }) (drawn r.table r.way c) 0

-- a byte goes out by itself, or is dropped
abbrev pub put_alone : ℕ → Reader → Emitted
put_alone b r = if goes_out r.table b then out (Once b) r else emitted r [] 1

abbrev pub turned : Look → Reader → Reader
turned look r = record r { way = way_to r.way look }

-- the look that is open ends
abbrev pub shut : Reader → Emitted
shut r = emitted (turned Plain r) (turning r.way Plain) 0

-- ---- bytes are read

-- nothing is half read: a byte that shows may still be struck over
abbrev pub fresh : ℕ → Reader → Emitted
fresh b r = if shows r.table b then emitted (with_half (Byte b) r) [] 0 else put_alone b r

-- what is half read is no cell with what comes, and goes out; a backspace of it is dropped
abbrev pub released : Half → Reader → Emitted
released Nothing r = emitted r [] 0
released (Byte a) r = put_alone a (with_half Nothing r)
released (Backspaced a) r = preceded [] 1 (put_alone a (with_half Nothing r))

abbrev pub released_and_fresh : ℕ → Reader → Emitted
released_and_fresh b r = then_emitted (released r.half r) (λ s. fresh b s)

abbrev pub read_after : Half → ℕ → Reader → Emitted
read_after Nothing b r = fresh b r
read_after (Byte a) b r =
    if b == 8 then emitted (with_half (Backspaced a) r) [] 0 else released_and_fresh b r
read_after (Backspaced a) b r =
    if strikes r.table a b then out (Over a b) (with_half Nothing r) else released_and_fresh b r

abbrev pub read : ℕ → Reader → Emitted
read b r = read_after r.half b r

-- the end comes
abbrev pub ended : Reader → Emitted
ended r = then_emitted (released r.half r) (λ s. shut s)

-- ---- many bytes

abbrev pub fed : Reader → List ℕ → Emitted
fed r [] = emitted r [] 0
fed r (b ∷ bs) = then_emitted (read b r) (λ s. fed s bs)
