-- What goes out of a page in parts, beside what all of it comes to.
use Rattle.std.proofs.Common.{◌≡◌, ℕ, List, [], ◌∷◌, ◌++◌, Bool, true, false, ◌&&◌, None, Some, if◌then◌else◌, refl, sym, ap, ◌∙◌, append_assoc, append-nil}
use Rattle.tbl_reader.specs.Ending.{finished}
use Rattle.tbl_reader.specs.Pages.{and_then}
use Rattle.tbl_reader.specs.Reading.{read, fed}
use Rattle.tbl_reader.specs.Telling.{Piece}
use Rattle.tbl_setting.specs.Stepping.{pieces_bytes}
use Rattle.tbl_stage.specs.Laws.{TurnsPrefix, TurnsSoFar, TurnsWhole}
use Rattle.tbl_stage.specs.Staged.{Held, after_byte, bytes_for, first_held, has_all, has_room, said}
use Rattle.tbl_stage.proofs.Pens.{pieces_then}

-- what these bytes and the end come to, and these bytes alone
whole_of : List ℕ → Held → List ℕ
whole_of bytes h = pieces_bytes (and_then (fed bytes h.page) finished).pieces h.setting

so_far_of : List ℕ → Held → List ℕ
so_far_of bytes h = pieces_bytes (fed bytes h.page).pieces h.setting

whole_more : (b : ℕ) (bs : List ℕ) (h : Held) → whole_of (b ∷ bs) h ≡ bytes_for (Some b) h ++ whole_of bs (after_byte b h)
unfolding whole_of
whole_more b bs h =
    let e = read b h.page in
    let f = fed bs e.page in
    let g = finished f.page in
    ap (λ (ps : List Piece). pieces_bytes ps h.setting) (append_assoc e.pieces f.pieces g.pieces)
    ∙ pieces_then e.pieces (f.pieces ++ g.pieces) h.setting

so_far_more : (b : ℕ) (bs : List ℕ) (h : Held) → so_far_of (b ∷ bs) h ≡ bytes_for (Some b) h ++ so_far_of bs (after_byte b h)
unfolding so_far_of
so_far_more b bs h =
    let e = read b h.page in
    pieces_then e.pieces (fed bs e.page).pieces h.setting

first_of : (a b : Bool) → (a && b) ≡ true → a ≡ true
first_of true b all = refl
first_of false b all = absurd (let no : false ≡ true = all in cc)

second_of : (a b : Bool) → (a && b) ≡ true → b ≡ true
second_of true b all = all
second_of false b all = absurd (let no : false ≡ true = all in cc)

said_more : (most b : ℕ) (bs : List ℕ) (h : Held) (ends : Bool) → has_room most (Some b) h ≡ true → said most h ends (b ∷ bs) ≡ bytes_for (Some b) h ++ said most (after_byte b h) ends bs
said_more most b bs h ends room = ap (λ (x : Bool). if x then bytes_for (Some b) h ++ said most (after_byte b h) ends bs else []) room

-- ---- where there is room for all

said_whole : (most : ℕ) (bytes : List ℕ) (h : Held) → has_all most h bytes ≡ true → said most h true bytes ≡ whole_of bytes h
unfolding whole_of
said_whole most [] h all = ap (λ (x : Bool). if x then bytes_for None h else []) all
said_whole most (b ∷ bs) h all =
    let room = first_of (has_room most (Some b) h) (has_all most (after_byte b h) bs) all in
    let rest = second_of (has_room most (Some b) h) (has_all most (after_byte b h) bs) all in
    said_more most b bs h true room
    ∙ ap (λ (l : List ℕ). bytes_for (Some b) h ++ l) (said_whole most bs (after_byte b h) rest)
    ∙ sym (whole_more b bs h)

said_so_far : (most : ℕ) (bytes : List ℕ) (h : Held) → has_all most h bytes ≡ true → said most h false bytes ≡ so_far_of bytes h
unfolding so_far_of
said_so_far most [] h all = refl
said_so_far most (b ∷ bs) h all =
    let room = first_of (has_room most (Some b) h) (has_all most (after_byte b h) bs) all in
    let rest = second_of (has_room most (Some b) h) (has_all most (after_byte b h) bs) all in
    said_more most b bs h false room
    ∙ ap (λ (l : List ℕ). bytes_for (Some b) h ++ l) (said_so_far most bs (after_byte b h) rest)
    ∙ sym (so_far_more b bs h)

pub turns_whole : TurnsWhole
unfolding whole_of
turns_whole most b bytes all = said_whole most bytes (first_held b) all

pub turns_so_far : TurnsSoFar
unfolding so_far_of
turns_so_far most b bytes all = said_so_far most bytes (first_held b) all

-- ---- and else

prefix_end : (all : List ℕ) (room : Bool) → (rest : List ℕ) × ((if room then all else []) ++ rest ≡ all)
prefix_end all true = ([], append-nil all)
prefix_end all false = (all, refl)

prefix_more : (most b : ℕ) (bs : List ℕ) (h : Held) (room : Bool) → has_room most (Some b) h ≡ room
    → ((rest : List ℕ) × (said most (after_byte b h) true bs ++ rest ≡ whole_of bs (after_byte b h)))
    → (rest : List ℕ) × (said most h true (b ∷ bs) ++ rest ≡ whole_of (b ∷ bs) h)
prefix_more most b bs h true room more = (
  more.0,
  ap (λ (l : List ℕ). l ++ more.0) (said_more most b bs h true room)
      ∙ append_assoc (bytes_for (Some b) h) (said most (after_byte b h) true bs) more.0
      ∙ ap (λ (l : List ℕ). bytes_for (Some b) h ++ l) more.1
      ∙ sym (whole_more b bs h),
)
prefix_more most b bs h false room more = (
  whole_of (b ∷ bs) h,
  ap (λ (x : Bool). (if x then bytes_for (Some b) h ++ said most (after_byte b h) true bs else []) ++ whole_of (b ∷ bs) h) room,
)

said_prefix : (most : ℕ) (bytes : List ℕ) (h : Held) → (rest : List ℕ) × (said most h true bytes ++ rest ≡ whole_of bytes h)
unfolding whole_of
said_prefix most [] h = prefix_end (bytes_for None h) (has_room most None h)
said_prefix most (b ∷ bs) h = prefix_more most b bs h (has_room most (Some b) h) refl (said_prefix most bs (after_byte b h))

pub turns_prefix : TurnsPrefix
unfolding whole_of
turns_prefix most b bytes = said_prefix most bytes (first_held b)
