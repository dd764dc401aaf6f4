-- How wide the first pieces of a line are, and how far it has come.
use Rattle.std.proofs.Common.{◌≡◌, ℕ, ◌+◌, ◌-◌, ◌<◌, ◌≤◌, ◌^◌, ◌++◌, List, [], ◌∷◌, length, take, drop, get_or, Option, Some, Bool, ap, sym, ◌∙◌, arith, length-take, length-append}
use Rattle.std.proofs.lemmas.List.{length-take-le, take-take, get_or-take, get_or_append_left}
use Rattle.std.proofs.lemmas.List.Sums.{sum_by-append, sum_by-take-le}
use Rattle.nr_settings.specs.declared.indents.Margins.{Margins}
use Rattle.nr_fill.specs.declared.line.WordState.{WordState}
use Rattle.nr_fill.specs.declared.margins.Turn.{Turn}
use Rattle.nr_fill.specs.declared.piece.Join.{Join}
use Rattle.nr_fill.specs.declared.piece.Join.TheVariants.{Soft}
use Rattle.nr_fill.specs.declared.title.TitleState.{TitleState}
use Rattle.nr_fill.specs.Cutting.{pieces_width, piece_width, join_width, prefix_width, hyphen_before}
use Rattle.nr_fill.specs.Laid.{Laid}
use Rattle.nr_fill.specs.PieceRow.{IsLine, collected_of}
use Rattle.nr_fill.specs.Piece.{Piece, word_or_new, word_pieces}
use Rattle.nr_fill.specs.Tabs.{column}
use Rattle.nr_fill.proofs.PiecesOf.{width-first}
use Rattle.nr_fill.proofs.Lines.{first_is, column_pieces, widths_small}

-- the first n pieces, how wide they are with their first gap, and how wide that is
pub record IsPrefix (row : Laid) (pieces n wide first : ℕ) : Type 0 where
  pub prefix : take n (take pieces row.pieces) ≡ take n row.pieces
  pub first_within : first ≤ wide
  pub small : wide < 2 ^ 44
  pub width : (hyphen : ℕ) → hyphen ≡ hyphen_before (drop n (take pieces row.pieces)) → wide - first + hyphen ≡ prefix_width n (take pieces row.pieces)

pub is_prefix : {row : Laid} {limit pieces wide : ℕ} {word : Option WordState} {gap : ℕ} {title : Option TitleState} (n prefix_wide first : ℕ) (join : Join)
    → IsLine row limit pieces wide word gap title → 0 < n → n ≤ pieces → prefix_wide ≡ pieces_width (take n row.pieces)
    → ((p : Piece) (ps : List Piece) → row.pieces ≡ p ∷ ps → join ≡ p.join) → first ≡ join_width join → IsPrefix row pieces n prefix_wide first
is_prefix {row} {pieces = pieces} n prefix_wide first join h some within wide_is join_is first_is_wide =
    let d : Piece = record { join = Soft; cells = [] } in
    let low = h.pieces_within in
    let long = length-take-le pieces row.pieces low in
    let part = take-take n pieces row.pieces within in
    let ps = take n (take pieces row.pieces) in
    let any : 0 < length ps = omega (arith, length-take n (take pieces row.pieces)) in
    let all = width-first ps d any in
    let wide : prefix_wide ≡ pieces_width ps = wide_is ∙ ap pieces_width (sym part) in
    let head = first_is row.pieces join d (omega arith) join_is in
    let same : get_or ps 0 d ≡ get_or row.pieces 0 d = get_or-take n (take pieces row.pieces) 0 d some ∙ get_or-take pieces row.pieces 0 d (omega arith) in
    let width : first ≡ join_width (get_or ps 0 d).join = first_is_wide ∙ ap join_width head ∙ ap (λ (p : Piece). join_width p.join) (sym same) in
    let small = widths_small h in
    let taken = sum_by-take-le piece_width row.pieces n in
    record {
      prefix = part;
      first_within = omega arith;
      small = omega arith;
      width = λ hyphen is. omega arith;
    }

-- all pieces, the word's too, but for the first one's join
pub column_is : {row : Laid} {limit pieces wide : ℕ} {word : Option WordState} {gap : ℕ} {title : Option TitleState} (barred sentence : Bool) (margins : Margins) (turn : Turn)
    → (join : Join) (first word_wide : ℕ) → IsLine row limit pieces wide word gap title → 0 < length row.pieces
    → ((p : Piece) (ps : List Piece) → row.pieces ≡ p ∷ ps → join ≡ p.join) → first ≡ join_width join
    → word_wide ≡ pieces_width (word_pieces (Some (word_or_new (collected_of row pieces word gap barred sentence margins turn title).gap (collected_of row pieces word gap barred sentence margins turn title).word)))
    → (first ≤ wide + word_wide) × (wide + word_wide - first ≡ column (collected_of row pieces word gap barred sentence margins turn title))
column_is {row} {pieces = pieces} {word = word} {gap = gap} {title = title} barred sentence margins turn join first word_wide h some join_is first_is_wide word_is =
    let d : Piece = record { join = Soft; cells = [] } in
    let v = collected_of row pieces word gap barred sentence margins turn title in
    let w = word_or_new v.gap v.word in
    let qs = v.pieces ++ word_pieces (Some w) in
    let is = column_pieces barred sentence margins turn h in
    let long = ap length is in
    let all = width-first qs d (omega (arith, length-append row.pieces (w.last ∷ []))) in
    let head = first_is row.pieces join d some join_is in
    let width : first ≡ join_width (get_or qs 0 d).join =
    first_is_wide ∙ ap join_width head ∙ ap (λ (p : Piece). join_width p.join) (sym (get_or_append_left row.pieces (w.last ∷ []) d 0 some)) ∙ ap (λ (ps : List Piece). join_width (get_or ps 0 d).join) (sym is) in
    let both = sum_by-append piece_width v.pieces (word_pieces (Some w)) in
    (omega (arith, h.wide_is), omega (arith, h.wide_is))
