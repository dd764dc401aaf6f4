-- What goes out byte by byte is what the definition says.
use Prim.Native.Char.{code}
use Rattle.std.proofs.Common.{◌≡◌, ℕ, List, [], ◌∷◌, ◌++◌, Bool, true, false, ◌==◌, nat_le, if◌then◌else◌, Option, refl, sym, ◌∙◌, ap, append-nil, append_assoc}
use Rattle.nr_vectors.specs.declared.cell.Look.TheVariants.{Plain}
use Rattle.utf8_own_characters.specs.Table.{Characters}
use Rattle.utf8_own_sink.specs.Cells.{alone, begun, cells, converted, lead_after, letters, letters_of, plain, strikes, struck}
use Rattle.utf8_own_sink.specs.Letters.{Letter, drawn, printed, way_past}
use Rattle.utf8_own_sink.specs.Reading.{after, begun_after, begun_said, cell_after, cell_said, decoding, drawn_all, ended, fed, first, next_after, next_said, released, released_said, rest, said, ways_past, with_half}
use Rattle.utf8_own_sink.specs.declared.cells.Cell.{Cell}
use Rattle.utf8_own_sink.specs.declared.cells.Half.{Half}
use Rattle.utf8_own_sink.specs.declared.cells.Half.TheVariants.{Nothing, Byte, Backspaced}
use Rattle.utf8_own_sink.specs.declared.cells.Reader.{Reader}
use Rattle.utf8_own_sink.specs.declared.letters.Way.{Way}

-- ---- letters

printed-append : (w : Way) (xs ys : List Letter) → printed w (xs ++ ys) ≡ drawn_all w xs ++ printed (ways_past w xs) ys
printed-append w [] ys = refl
printed-append w (x ∷ xs) ys =
    ap (λ (zs : List ℕ). drawn w x ++ zs) (printed-append (way_past w x) xs ys)
    ∙ sym (append_assoc (drawn w x) (drawn_all (way_past w x) xs) (printed (ways_past (way_past w x) xs) ys))

-- ---- a cell

shows : Characters → Reader → List Cell → List ℕ
shows t r cs = printed r.way (letters t r.lead cs)

cell-goes : (t : Characters) (c : Cell) (cs : List Cell) (r : Reader) → shows t r (c ∷ cs) ≡ cell_said t c r ++ shows t (cell_after t c r) cs
unfolding shows
cell-goes t c cs r = printed-append r.way (letters_of t r.lead c) (letters t (lead_after t r.lead c) cs)

-- ---- a byte

begun_by : (t : Characters) (b : ℕ) (bs : List ℕ) (r : Reader) (x : Bool)
    → shows t r (if x then plain b ∷ cells Nothing Plain bs else cells (Byte b) r.before bs)
    ≡ (if x then cell_said t (plain b) r else []) ++ rest t (if x then with_half Nothing (cell_after t (plain b) r) else with_half (Byte b) r) bs
unfolding shows
begun_by t b bs r true = cell-goes t (plain b) (cells Nothing Plain bs) r
begun_by t b bs r false = refl

begun-goes : (t : Characters) (b : ℕ) (bs : List ℕ) (r : Reader) → shows t r (begun b (cells Nothing Plain bs) (cells (Byte b) r.before bs)) ≡ begun_said t b r ++ rest t (begun_after t b r) bs
begun-goes t b bs r = begun_by t b bs r (nat_le b (code " "))

next-goes : (t : Characters) (a b : ℕ) (bs : List ℕ) (r : Reader)
    → shows t r (plain a ∷ begun b (cells Nothing Plain bs) (cells (Byte b) Plain bs)) ≡ next_said t a b r ++ rest t (next_after t a b r) bs
next-goes t a b bs r =
    let s = cell_after t (plain a) r in
    cell-goes t (plain a) (begun b (cells Nothing Plain bs) (cells (Byte b) Plain bs)) r
    ∙ ap (λ (zs : List ℕ). cell_said t (plain a) r ++ zs) (begun-goes t b bs s)
    ∙ sym (append_assoc (cell_said t (plain a) r) (begun_said t b s) (rest t (begun_after t b s) bs))

byte_by : (t : Characters) (a b : ℕ) (bs : List ℕ) (r : Reader) (x : Bool)
    → shows t r (if x then cells (Backspaced a) r.before bs else plain a ∷ begun b (cells Nothing Plain bs) (cells (Byte b) Plain bs))
    ≡ (if x then [] else next_said t a b r) ++ rest t (if x then with_half (Backspaced a) r else next_after t a b r) bs
unfolding shows
byte_by t a b bs r true = refl
byte_by t a b bs r false = next-goes t a b bs r

struck_by : (t : Characters) (a b : ℕ) (bs : List ℕ) (r : Reader) (x : Bool)
    → shows t r (if x then struck r.before a b ∷ cells Nothing (struck r.before a b).look bs else plain a ∷ begun b (cells Nothing Plain bs) (cells (Byte b) Plain bs))
    ≡ (if x then cell_said t (struck r.before a b) r else next_said t a b r)
    ++ rest t (if x then with_half Nothing (cell_after t (struck r.before a b) r) else next_after t a b r) bs
unfolding shows
struck_by t a b bs r true = cell-goes t (struck r.before a b) (cells Nothing (struck r.before a b).look bs) r
struck_by t a b bs r false = next-goes t a b bs r

byte-goes : (t : Characters) (h : Half) (b : ℕ) (bs : List ℕ) (r : Reader) → shows t r (cells h r.before (b ∷ bs)) ≡ said t h b r ++ rest t (after t h b r) bs
byte-goes t Nothing b bs r = begun-goes t b bs r
byte-goes t (Byte a) b bs r = byte_by t a b bs r (b == 8)
byte-goes t (Backspaced a) b bs r = struck_by t a b bs r (strikes a b)

-- what comes of bytes and others after them
pub rest-parts : (t : Characters) (r : Reader) (xs ys : List ℕ) → rest t r (xs ++ ys) ≡ (fed t r xs).bytes ++ rest t (fed t r xs).reader ys
unfolding shows
rest-parts t r [] ys = refl
rest-parts t r (b ∷ bs) ys =
    let s = after t r.half b r in
    byte-goes t r.half b (bs ++ ys) r ∙ ap (λ (zs : List ℕ). said t r.half b r ++ zs) (rest-parts t s bs ys)
    ∙ sym (append_assoc (said t r.half b r) (fed t s bs).bytes (rest t (fed t s bs).reader ys))

-- ---- the end

last-goes : (w : Way) (lead : Option Cell) → printed w (alone lead) ≡ drawn_all w (alone lead) ++ printed (ways_past w (alone lead)) []
last-goes w lead = ap (λ (ls : List Letter). printed w ls) (sym (append-nil (alone lead))) ∙ printed-append w (alone lead) []

byte-ends : (t : Characters) (a : ℕ) (r : Reader)
    → shows t r (plain a ∷ []) ≡ (let s = cell_after t (plain a) r in cell_said t (plain a) r ++ drawn_all s.way (alone s.lead) ++ printed (ways_past s.way (alone s.lead)) [])
unfolding shows
byte-ends t a r =
    let s = cell_after t (plain a) r in
    cell-goes t (plain a) [] r ∙ ap (λ (zs : List ℕ). cell_said t (plain a) r ++ zs) (last-goes s.way s.lead)
    ∙ sym (append_assoc (cell_said t (plain a) r) (drawn_all s.way (alone s.lead)) (printed (ways_past s.way (alone s.lead)) []))

end-goes : (t : Characters) (h : Half) (r : Reader) → shows t r (cells h r.before []) ≡ (let s = released t h r in released_said t h r ++ drawn_all s.way (alone s.lead) ++ printed (ways_past s.way (alone s.lead)) [])
unfolding shows
end-goes t Nothing r = last-goes r.way r.lead
end-goes t (Byte a) r = byte-ends t a r
end-goes t (Backspaced a) r = byte-ends t a r

pub rest-ended : (t : Characters) (r : Reader) → rest t r [] ≡ ended t r
unfolding shows
rest-ended t r = end-goes t r.half r

pub converted-fed : (t : Characters) (escapes : Bool) (bs : List ℕ) → converted t escapes bs ≡ (fed t (first escapes) bs).bytes ++ ended t (fed t (first escapes) bs).reader
converted-fed t escapes bs =
    let r = (fed t (first escapes) bs).reader in
    ap (λ (zs : List ℕ). rest t (first escapes) zs) (sym (append-nil bs)) ∙ rest-parts t (first escapes) bs []
    ∙ ap (λ (zs : List ℕ). (fed t (first escapes) bs).bytes ++ zs) (rest-ended t r)

-- ---- bytes after others

pub fed-append_reader : (t : Characters) (r : Reader) (xs ys : List ℕ) → (fed t r (xs ++ ys)).reader ≡ (fed t (fed t r xs).reader ys).reader
fed-append_reader t r [] ys = refl
fed-append_reader t r (x ∷ xs) ys = fed-append_reader t (after t r.half x r) xs ys

pub fed-append_bytes : (t : Characters) (r : Reader) (xs ys : List ℕ) → (fed t r (xs ++ ys)).bytes ≡ (fed t r xs).bytes ++ (fed t (fed t r xs).reader ys).bytes
fed-append_bytes t r [] ys = refl
fed-append_bytes t r (x ∷ xs) ys =
    let s = after t r.half x r in
    ap (λ (zs : List ℕ). said t r.half x r ++ zs) (fed-append_bytes t s xs ys)
    ∙ sym (append_assoc (said t r.half x r) (fed t s xs).bytes (fed t (fed t s xs).reader ys).bytes)

-- ---- a text in parts

decoding-parts : (t : Characters) (r : Reader) (ends : Bool) (xs ys : List ℕ) → decoding t r ends (xs ++ ys) ≡ (fed t r xs).bytes ++ decoding t (fed t r xs).reader ends ys
decoding-parts t r true xs ys = rest-parts t r xs ys
decoding-parts t r false xs ys = fed-append_bytes t r xs ys

-- of what was put, and what the reader became
pub decoding-taken : (t : Characters) (r s : Reader) (xs waits items : List ℕ) → s ≡ (fed t r xs).reader → items ≡ waits ++ (fed t r xs).bytes
    → (ends : Bool) → (ys : List ℕ) → waits ++ decoding t r ends (xs ++ ys) ≡ items ++ decoding t s ends ys
decoding-taken t r s xs waits items is out ends ys =
    ap (λ (z : List ℕ). waits ++ z) (decoding-parts t r ends xs ys)
    ∙ sym (append_assoc waits (fed t r xs).bytes (decoding t (fed t r xs).reader ends ys))
    ∙ ap (λ (z : List ℕ). z ++ decoding t (fed t r xs).reader ends ys) (sym out)
    ∙ ap (λ (z : Reader). items ++ decoding t z ends ys) (sym is)
