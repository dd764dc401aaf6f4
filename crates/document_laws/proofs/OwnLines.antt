-- What lines come to in the page's own table stands before what they and more come to.
use Prim.Native.Char.{code}
use Rattle.std.proofs.Common.{◌≡◌, ℕ, Bool, true, false, if◌then◌else◌, Option, None, Some, List, [], ◌∷◌, ◌++◌, append-nil, append_assoc, refl, sym, ◌∙◌, ap, subst}
use Rattle.nr_vectors.specs.declared.cell.Look.{Look}
use Rattle.nr_vectors.specs.declared.cell.Look.TheVariants.{Plain}
use Rattle.nr_laws.specs.Laws.{IsPrefixOf}
use Rattle.utf8_own_characters.specs.Table.{Characters}
use Rattle.utf8_own_sink.specs.Cells.{alone, ascii, byte_of, converted, plain, strikes, struck}
use Rattle.utf8_own_sink.specs.Letters.{ends_look, printed, way_to}
use Rattle.utf8_own_sink.specs.Reading.{after, cell_after, drawn_all, ended, fed, first, next_after, released, released_said, ways_past, with_half}
use Rattle.utf8_own_sink.specs.declared.cells.Cell.{Cell}
use Rattle.utf8_own_sink.specs.declared.cells.Half.{Half}
use Rattle.utf8_own_sink.specs.declared.cells.Half.TheVariants.{Nothing, Byte, Backspaced}
use Rattle.utf8_own_sink.specs.declared.cells.Reader.{Reader}
use Rattle.utf8_own_sink.specs.declared.letters.Way.{Way}
use Rattle.utf8_own_sink.specs.declared.letters.Way.TheVariants.{Backspaces, Escapes}
use Rattle.utf8_own_sink.proofs.Going.{converted-fed, fed-append_bytes, fed-append_reader}
use Rattle.document_laws.proofs.Lines.{AreLines, None_is, Last_is}

-- ---- nothing is half read after a newline, and no look is open

record IsQuiet (r : Reader) : Type 0 where
  nothing : r.half ≡ Nothing
  unpaired : r.lead ≡ None
  closed : ends_look r.way ≡ []

plain_way : (w : Way) → ends_look (way_to w Plain) ≡ []
plain_way Backspaces = refl
plain_way (Escapes was) = refl

-- a newline in any look
abbrev newline : Look → Cell
newline look = record { byte = code "\n"; look = look }

unpaired_by : (t : Characters) (look : Look) (r : Reader) (lead : Option Cell) → r.lead ≡ lead → (cell_after t (newline look) r).lead ≡ None
unpaired_by t look r None is = ap (λ (l : Option Cell). (cell_after t (newline look) (record r { lead = l })).lead) is
unpaired_by t look r (Some c) is = ap (λ (l : Option Cell). (cell_after t (newline look) (record r { lead = l })).lead) is

closed_by : (t : Characters) (look : Look) (r : Reader) (lead : Option Cell) → r.lead ≡ lead → ends_look (cell_after t (newline look) r).way ≡ []
closed_by t look r None is = ap (λ (l : Option Cell). ends_look (cell_after t (newline look) (record r { lead = l })).way) is ∙ plain_way r.way
closed_by t look r (Some c) is =
    ap (λ (l : Option Cell). ends_look (cell_after t (newline look) (record r { lead = l })).way) is ∙ plain_way _

newline_out : (t : Characters) (look : Look) (r : Reader) → IsQuiet (with_half Nothing (cell_after t (newline look) r))
newline_out t look r = record { nothing = refl; unpaired = unpaired_by t look r r.lead refl; closed = closed_by t look r r.lead refl }

by_strikes : (t : Characters) (a : ℕ) (r : Reader) (x : Bool)
    → IsQuiet (if x then with_half Nothing (cell_after t (struck r.before a (code "\n")) r) else next_after t a (code "\n") r)
by_strikes t a r true = newline_out t (struck r.before a (code "\n")).look r
by_strikes t a r false = newline_out t Plain (cell_after t (plain a) r)

newline_quiet : (t : Characters) (h : Half) (r : Reader) → IsQuiet (after t h (code "\n") r)
newline_quiet t Nothing r = newline_out t Plain r
newline_quiet t (Byte a) r = newline_out t Plain (cell_after t (plain a) r)
newline_quiet t (Backspaced a) r = by_strikes t a r (strikes a (code "\n"))

-- ---- nothing more goes out then

by_lead : (w : Way) (lead : Option Cell) → lead ≡ None → drawn_all w (alone lead) ++ printed (ways_past w (alone lead)) [] ≡ ends_look w
by_lead w None is = refl
by_lead w (Some c) is = absurd (let no : Some c ≡ None = is in cc)

by_half : (t : Characters) (h : Half) (r : Reader) → h ≡ Nothing
    → (let s = released t h r in released_said t h r ++ drawn_all s.way (alone s.lead) ++ printed (ways_past s.way (alone s.lead)) [])
    ≡ drawn_all r.way (alone r.lead) ++ printed (ways_past r.way (alone r.lead)) []
by_half t Nothing r is = refl
by_half t (Byte a) r is = absurd (let no : Byte a ≡ Nothing = is in cc)
by_half t (Backspaced a) r is = absurd (let no : Backspaced a ≡ Nothing = is in cc)

quiet_ends : (t : Characters) (r : Reader) → IsQuiet r → ended t r ≡ []
quiet_ends t r q = by_half t r.half r q.nothing ∙ by_lead r.way r.lead q.unpaired ∙ q.closed

-- ---- text is lengthened

fed_quiet : (t : Characters) (r : Reader) (prefix : List ℕ) → IsQuiet (fed t r (prefix ++ code "\n" ∷ [])).reader
fed_quiet t r prefix =
    let s = (fed t r prefix).reader in
    subst IsQuiet (sym (fed-append_reader t r prefix (code "\n" ∷ []))) (newline_quiet t s.half s)

fed_ends : (t : Characters) (r : Reader) (xs prefix : List ℕ) → xs ≡ prefix ++ code "\n" ∷ [] → ended t (fed t r xs).reader ≡ []
fed_ends t r xs prefix is =
    ap (λ (z : List ℕ). ended t (fed t r z).reader) is ∙ quiet_ends t (fed t r (prefix ++ code "\n" ∷ [])).reader (fed_quiet t r prefix)

none_converted : (t : Characters) (escapes : Bool) → converted t escapes [] ≡ []
none_converted t true = refl
none_converted t false = refl

pub own-lines-prefix : (t : Characters) (escapes : Bool) (xs more : List ℕ) → AreLines xs → IsPrefixOf (converted t escapes xs) (converted t escapes (xs ++ more))
own-lines-prefix t escapes xs more (None_is x is) = record {
  rest = converted t escapes (xs ++ more);
  whole_is = ap (λ (z : List ℕ). z ++ converted t escapes (xs ++ more)) (sym (ap (λ (z : List ℕ). converted t escapes z) is ∙ none_converted t escapes));
}
own-lines-prefix t escapes xs more (Last_is x prefix is) =
    let r = first escapes in
    let before = fed t r xs in
    let following = fed t before.reader more in
    let last = ended t (fed t r (xs ++ more)).reader in
    let one : converted t escapes xs ≡ before.bytes = converted-fed t escapes xs ∙ ap (λ (z : List ℕ). before.bytes ++ z) (fed_ends t r xs prefix is) ∙ append-nil before.bytes in
    record {
      rest = following.bytes ++ last;
      whole_is = converted-fed t escapes (xs ++ more) ∙ ap (λ (z : List ℕ). z ++ last) (fed-append_bytes t r xs more)
          ∙ append_assoc before.bytes following.bytes last ∙ ap (λ (z : List ℕ). z ++ (following.bytes ++ last)) (sym one);
    }
