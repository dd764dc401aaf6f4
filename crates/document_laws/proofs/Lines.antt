-- What lines come to stands before what they and more come to.
use Prim.Native.Char.{code}
use Rattle.std.specs.List.{flat_map, range_with_len}
use Rattle.std.proofs.Common.{◌≡◌, ℕ, ◌==◌, ◌||◌, ◌&&◌, Bool, true, false, if◌then◌else◌, List, [], ◌∷◌, ◌++◌, append-nil, append_assoc, max, refl, sym, ◌∙◌, ap, subst}
use Rattle.nr_vectors.specs.declared.cell.Look.TheVariants.{Plain}
use Rattle.utf8_characters.specs.declared.table.FixedTable.{FixedTable}
use Rattle.nr_page.specs.Grid.{Placed}
use Rattle.nr_page.specs.PageBytes.{page_bytes, row_bytes, row_cells, row_count}
use Rattle.nr_page.specs.Faces.{cell_bytes}
use Rattle.nr_page.specs.declared.faces.Faces.{Faces}
use Rattle.nr_machine.specs.Printing.{bytes_of, text}
use Rattle.nr_machine.specs.State.{Ended}
use Rattle.nr_laws.specs.Laws.{IsPrefixOf}
use Rattle.utf8_converter.specs.Cells.{Cell, Once, Over, converted, goes_out, shows, strikes, turning, way_after, way_to}
use Rattle.utf8_converter.specs.Reading.{Emitted, ended, fed, first_reader, fresh, out, put_alone, read, read_after, released, released_and_fresh, shut, then_emitted, emitted, with_half}
use Rattle.utf8_converter.specs.declared.reader.Half.{Half}
use Rattle.utf8_converter.specs.declared.reader.Half.TheVariants.{Nothing, Byte, Backspaced}
use Rattle.utf8_converter.specs.declared.reader.Reader.{Reader}
use Rattle.utf8_converter.specs.declared.reader.Way.{Way}
use Rattle.utf8_converter.specs.declared.reader.Way.TheVariants.{Backspaces, Escapes}
use Rattle.utf8_converter.proofs.Kept.{converted-fed}
use Rattle.utf8_converter.proofs.Reading.{fed-append_bytes, fed-append_reader}

-- ---- the bytes of pages are lines

-- there is none, or the last is a newline
pub data AreLines : List ℕ → Type 0 where
  None_is : (xs : List ℕ) → xs ≡ [] → AreLines xs
  Last_is : (xs prefix : List ℕ) → xs ≡ prefix ++ code "\n" ∷ [] → AreLines xs

after_lines : (xs ys : List ℕ) → AreLines xs → AreLines ys → AreLines (xs ++ ys)
after_lines xs ys l (Last_is y prefix is) = Last_is (xs ++ ys) (xs ++ prefix) (ap (λ (z : List ℕ). xs ++ z) is ∙ sym (append_assoc xs prefix (code "\n" ∷ [])))
after_lines xs ys l (None_is y is) = subst AreLines (sym (ap (λ (z : List ℕ). xs ++ z) is ∙ append-nil xs)) l

all_lines : {A : Type 0} (f : A → List ℕ) (xs : List A) → ((x : A) → AreLines (f x)) → AreLines (flat_map f xs)
all_lines f [] each = None_is [] refl
all_lines f (x ∷ xs) each = after_lines (f x) (flat_map f xs) (each x) (all_lines f xs each)

page_lines : (p : Ended) → AreLines (page_bytes p.faces p.rows p.lines)
page_lines p =
    all_lines (row_bytes p.faces p.lines) (range_with_len 0 (max p.rows (row_count p.lines)))
    (λ row. Last_is (row_bytes p.faces p.lines row) (flat_map (cell_bytes p.faces) (row_cells p.lines row)) refl)

if_lines : (x : Bool) (ys : List ℕ) → AreLines ys → AreLines (if x then ys else [])
if_lines true ys l = l
if_lines false ys l = None_is [] refl

pub pages-lines : (pages : List Ended) → AreLines (text pages)
pages-lines pages = all_lines bytes_of pages (λ p. if_lines p.printed (page_bytes p.faces p.rows p.lines) (page_lines p))

-- ---- nothing is half read after a newline, and no look is open

record IsQuiet (r : Reader) : Type 0 where
  nothing : r.half ≡ Nothing
  plain : turning r.way Plain ≡ []

plain_way : (w : Way) → turning (way_to w Plain) Plain ≡ []
plain_way Backspaces = refl
plain_way (Escapes look) = refl

fresh_quiet : (r : Reader) → r.half ≡ Nothing → IsQuiet (fresh (code "\n") r).reader
fresh_quiet r none = record { nothing = none; plain = plain_way r.way }

alone_half : (x : Bool) (c : Cell) (r : Reader) → (if x then out c r else emitted r [] 1).reader.half ≡ r.half
alone_half true c r = refl
alone_half false c r = refl

released_half : (h : Half) (r : Reader) → r.half ≡ h → (released h r).reader.half ≡ Nothing
released_half Nothing r is = is
released_half (Byte a) r is = alone_half (goes_out r.table a) (Once a) (with_half Nothing r)
released_half (Backspaced a) r is = alone_half (goes_out r.table a) (Once a) (with_half Nothing r)

never : (x : Bool) → (x && false) ≡ false
never true = refl
never false = refl

by_strikes : (x : Bool) (a : ℕ) (r : Reader) → x ≡ false
    → IsQuiet (if x then out (Over a (code "\n")) (with_half Nothing r) else released_and_fresh (code "\n") r).reader
by_strikes true a r is = absurd (let no : true ≡ false = is in cc)
by_strikes false a r is = fresh_quiet (released r.half r).reader (released_half r.half r refl)

newline_quiet : (h : Half) (r : Reader) → r.half ≡ h → IsQuiet (read_after h (code "\n") r).reader
newline_quiet Nothing r is = fresh_quiet r is
newline_quiet (Byte a) r is = fresh_quiet (released r.half r).reader (released_half r.half r refl)
newline_quiet (Backspaced a) r is = by_strikes (strikes r.table a (code "\n")) a r (never ((a == code "\n") || (a == code "_")))

ends_quiet : (h : Half) (r : Reader) → h ≡ Nothing → turning r.way Plain ≡ [] → (then_emitted (released h r) (λ s. shut s)).bytes ≡ []
ends_quiet Nothing r is plain = plain
ends_quiet (Byte a) r is plain = absurd (let no : Byte a ≡ Nothing = is in cc)
ends_quiet (Backspaced a) r is plain = absurd (let no : Backspaced a ≡ Nothing = is in cc)

quiet_ends : (r : Reader) → IsQuiet r → (ended r).bytes ≡ []
quiet_ends r q = ends_quiet r.half r q.nothing q.plain

-- ---- text is lengthened

fed_quiet : (r : Reader) (prefix : List ℕ) → IsQuiet (fed r (prefix ++ code "\n" ∷ [])).reader
fed_quiet r prefix =
    let s = (fed r prefix).reader in
    subst IsQuiet (sym (fed-append_reader r prefix (code "\n" ∷ []))) (newline_quiet s.half s refl)

fed_ends : (r : Reader) (xs prefix : List ℕ) → xs ≡ prefix ++ code "\n" ∷ [] → (ended (fed r xs).reader).bytes ≡ []
fed_ends r xs prefix is = ap (λ (z : List ℕ). (ended (fed r z).reader).bytes) is ∙ quiet_ends (fed r (prefix ++ code "\n" ∷ [])).reader (fed_quiet r prefix)

none_converted : (table : FixedTable) (escapes : Bool) → converted table escapes [] ≡ []
none_converted table true = refl
none_converted table false = refl

pub lines-prefix : (table : FixedTable) (escapes : Bool) (xs more : List ℕ) → AreLines xs → IsPrefixOf (converted table escapes xs) (converted table escapes (xs ++ more))
lines-prefix table escapes xs more (None_is x is) = record {
  rest = converted table escapes (xs ++ more);
  whole_is = ap (λ (z : List ℕ). z ++ converted table escapes (xs ++ more)) (sym (ap (λ (z : List ℕ). converted table escapes z) is ∙ none_converted table escapes));
}
lines-prefix table escapes xs more (Last_is x prefix is) =
    let r = first_reader table escapes in
    let first = fed r xs in
    let after = fed first.reader more in
    let last = (ended (fed r (xs ++ more)).reader).bytes in
    let one : converted table escapes xs ≡ first.bytes = converted-fed table escapes xs ∙ ap (λ (z : List ℕ). first.bytes ++ z) (fed_ends r xs prefix is) ∙ append-nil first.bytes in
    record {
      rest = after.bytes ++ last;
      whole_is = converted-fed table escapes (xs ++ more) ∙ ap (λ (z : List ℕ). z ++ last) (fed-append_bytes r xs more)
          ∙ append_assoc first.bytes after.bytes last ∙ ap (λ (z : List ℕ). z ++ (after.bytes ++ last)) (sym one);
    }
