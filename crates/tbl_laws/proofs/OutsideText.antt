-- Text outside of tables goes out as it came.
use Rattle.std.proofs.Common.{◌≡◌, ℕ, List, [], ◌∷◌, ◌++◌, true, refl, sym, ◌∙◌, ap, append_assoc, append-nil}
use Rattle.tbl_drawing.specs.declared.pen.Pen.{Pen}
use Rattle.tbl_drawing.specs.Pens.{Stroke, after_all, bytes_of, first}
use Rattle.tbl_drawing.proofs.Tapes.{bytes_of-append}
use Rattle.tbl_reader.specs.declared.command.Start.TheVariants as starts
use Rattle.tbl_reader.specs.declared.reader.Limits.{Limits}
use Rattle.tbl_reader.specs.declared.state.Mode.TheVariants as modes
use Rattle.tbl_reader.specs.declared.telling.Tell.TheVariants as tells
use Rattle.tbl_reader.specs.Ending.{finished, first_page, page_said}
use Rattle.tbl_reader.specs.Pages.{Effect, and_then}
use Rattle.tbl_reader.specs.Reading.{fed}
use Rattle.tbl_reader.specs.Telling.{Piece, each}
use Rattle.tbl_reader.specs.Untouched.{is_untouched}
use Rattle.tbl_reader.proofs.Runs.{fed_append}
use Rattle.tbl_reader.proofs.Tableless.{untouched}
use Rattle.tbl_setting.specs.declared.setting.Setting.{Setting}
use Rattle.tbl_setting.specs.Bounds.{Bounds, page_setting}
use Rattle.tbl_setting.specs.Held.{page_heard}
use Rattle.tbl_setting.specs.Running.{set_page, set_so_far}
use Rattle.tbl_setting.specs.Setting.{set, set_bytes, set_in, strokes, strokes_in}
use Rattle.tbl_laws.specs.OutsideText.{BeginsWith, FirstTextStays, LastTextStays, PagesStay, TextBetweenStays, table_end}
use Rattle.tbl_laws.proofs.TableEnds.{table_ends}
use Rattle.tbl_laws.proofs.TextPasses.{passes}

-- ---- pieces one after the other

pub strokes_both : (ps qs : List Piece) (t : Setting) → strokes (ps ++ qs) t ≡ strokes ps t ++ strokes qs (set ps t)
strokes_both [] qs t = refl
strokes_both (p ∷ ps) qs t =
    let u = set_in p.tell p.text t in
    ap (λ (l : List Stroke). strokes_in p.tell p.text t ++ l) (strokes_both ps qs u) ∙ sym (append_assoc (strokes_in p.tell p.text t) (strokes ps u) (strokes qs (set ps u)))

pub bytes_both : (ps qs : List Piece) (t : Setting) (pen : Pen)
    → bytes_of (strokes (ps ++ qs) t) pen ≡ bytes_of (strokes ps t) pen ++ bytes_of (strokes qs (set ps t)) (after_all (strokes ps t) pen)
bytes_both ps qs t pen =
    ap (λ (l : List Stroke). bytes_of l pen) (strokes_both ps qs t) ∙ bytes_of-append (strokes ps t) (strokes qs (set ps t)) pen

pub text_bytes : (text : List ℕ) (t : Setting) (pen : Pen) → bytes_of (strokes (each tells.Pass text) t) pen ≡ text
text_bytes [] t pen = refl
text_bytes (b ∷ bs) t pen = ap (λ (l : List ℕ). b ∷ l) (text_bytes bs (page_heard (b ∷ []) t) pen)

-- what these pieces come to, then a text, then others
said_between : (w : Bounds) (ps : List Piece) (text : List ℕ) (qs : List Piece)
    → BeginsWith (set_bytes w ps ++ text) (set_bytes w (ps ++ (each tells.Pass text ++ qs)))
said_between w ps text qs =
    let t = page_setting w in
    let u = set ps t in
    let pen = after_all (strokes ps t) first in
    let v = set (each tells.Pass text) u in
    let more = bytes_of (strokes qs v) (after_all (strokes (each tells.Pass text) u) pen) in (
      more,
      bytes_both ps (each tells.Pass text ++ qs) t first
          ∙ ap (λ (xs : List ℕ). set_bytes w ps ++ xs)
          (bytes_both (each tells.Pass text) qs u pen ∙ ap (λ (xs : List ℕ). xs ++ more) (text_bytes text u pen))
          ∙ sym (append_assoc (set_bytes w ps) text more),
    )

said_last : (w : Bounds) (ps : List Piece) (text : List ℕ) → set_bytes w (ps ++ each tells.Pass text) ≡ set_bytes w ps ++ text
said_last w ps text =
    let t = page_setting w in
    let pen = after_all (strokes ps t) first in
    bytes_both ps (each tells.Pass text) t first ∙ ap (λ (xs : List ℕ). set_bytes w ps ++ xs) (text_bytes text (set ps t) pen)

-- ---- a page that is outside of tables after some bytes

-- the pieces of the bytes before a text, of the text, and of what follows
said_of : (l : Limits) (before text rest : List ℕ)
    → (fed before (first_page l)).page.state.mode ≡ modes.Passing starts.Nothing → is_untouched text ≡ true
    → (qs : List Piece) × (page_said l (before ++ text ++ rest) ≡ (fed before (first_page l)).pieces ++ (each tells.Pass text ++ qs))
said_of l before text rest outside h =
    let p = (fed before (first_page l)).page in
    let q = (fed text p).page in
    let r = fed rest q in
    let ps = (fed before (first_page l)).pieces in
    let ends = (finished r.page).pieces in (
      r.pieces ++ ends,
      ap (λ (xs : List ℕ). page_said l xs) (append_assoc before text rest)
          ∙ ap (λ (e : Effect). (and_then e finished).pieces) (fed_append before (text ++ rest) (first_page l))
          ∙ ap (λ (e : Effect). (ps ++ e.pieces) ++ (finished e.page).pieces) (fed_append text rest p)
          ∙ append_assoc ps ((fed text p).pieces ++ r.pieces) ends
          ∙ ap (λ (xs : List Piece). ps ++ xs) (append_assoc (fed text p).pieces r.pieces ends
          ∙ ap (λ (xs : List Piece). xs ++ (r.pieces ++ ends)) (passes p text outside h).emitted),
    )

-- nothing follows
said_to_end : (l : Limits) (before text : List ℕ)
    → (fed before (first_page l)).page.state.mode ≡ modes.Passing starts.Nothing → is_untouched text ≡ true
    → page_said l (before ++ text) ≡ (fed before (first_page l)).pieces ++ each tells.Pass text
said_to_end l before text outside h =
    let p = (fed before (first_page l)).page in
    let ps = (fed before (first_page l)).pieces in
    let c = passes p text outside h in
    ap (λ (e : Effect). (and_then e finished).pieces) (fed_append before text (first_page l))
    ∙ append_assoc ps (fed text p).pieces (finished (fed text p).page).pieces
    ∙ ap (λ (xs : List Piece). ps ++ xs) (ap (λ (xs : List Piece). (fed text p).pieces ++ xs) c.ends ∙ append-nil (fed text p).pieces ∙ c.emitted)

so_far_is_all : (w : Bounds) (before : List ℕ)
    → (fed before (first_page w.limits)).page.state.mode ≡ modes.Passing starts.Nothing → set_so_far w before ≡ set_page w before
so_far_is_all w before outside =
    sym (ap (set_page w) (sym (append-nil before)) ∙ ap (set_bytes w) (said_to_end w.limits before [] outside refl ∙ append-nil (fed before (first_page w.limits)).pieces))

-- ---- the laws

pub pages_stay : PagesStay
pages_stay w page h =
    ap (set_bytes w) (untouched w.limits page h) ∙ text_bytes page (page_setting w) first

pub first_text_stays : FirstTextStays
first_text_stays w text rest h =
    let (qs, said) = said_of w.limits [] text rest refl h in
    let (more, out) = said_between w [] text qs in
    (more, ap (set_bytes w) said ∙ out)

pub last_text_stays : LastTextStays
last_text_stays w before text row line h =
    let outside = table_ends w.limits before row line in
    let all = before ++ table_end in
    ap (set_bytes w) (said_to_end w.limits all text outside h)
    ∙ said_last w (fed all (first_page w.limits)).pieces text
    ∙ ap (λ (xs : List ℕ). xs ++ text) (so_far_is_all w all outside)

pub text_between_stays : TextBetweenStays
text_between_stays w before text rest row line h =
    let outside = table_ends w.limits before row line in
    let all = before ++ table_end in
    let (qs, said) = said_of w.limits all text rest outside h in
    let (more, out) = said_between w (fed all (first_page w.limits)).pieces text qs in (
      more,
      ap (set_bytes w) said ∙ out
          ∙ ap (λ (xs : List ℕ). (xs ++ text) ++ more) (so_far_is_all w all outside),
    )
