-- Bytes that pass or are kept, and the next byte or the end.
use Rattle.std.proofs.Common.{◌≡◌, ℕ, zero, suc, ◌+◌, ◌<◌, ◌≤◌, List, [], ◌∷◌, ◌++◌, length, take, true, refl, sym, ◌∙◌, ap, subst, append-nil, length-append, arith}
use Rattle.std.proofs.lemmas.List.{length-take}
use Rattle.tbl_reader.specs.declared.command.Start.{Start}
use Rattle.tbl_reader.specs.declared.command.Start.TheVariants as starts
use Rattle.tbl_reader.specs.declared.passing.Lines.{Lines}
use Rattle.tbl_reader.specs.declared.state.Mode.{Mode}
use Rattle.tbl_reader.specs.declared.state.Mode.TheVariants as modes
use Rattle.tbl_reader.specs.declared.telling.Tell.TheVariants as tells
use Rattle.tbl_reader.specs.Commands.{is_free}
use Rattle.tbl_reader.specs.Pages.{Page, effect, at_mode}
use Rattle.tbl_reader.specs.Passing.{line_len}
use Rattle.tbl_reader.specs.Reading.{read, fed, with_kept, is_kept, limit_of, Fits, Took, AreFree, lines_on}
use Rattle.tbl_reader.specs.Telling.{Piece, Tells, each}
use Rattle.tbl_reader.proofs.Keeping.{read_keeps}
use Rattle.tbl_reader.proofs.Runs.{plain_before, fits_more, fed_kept_all, fed_free, free_take}

-- lines outside of tables
pub lines_passed : (bytes : List ℕ) (lines : Lines) (p q : Page) → p.state.mode ≡ modes.Passing starts.Nothing → AreFree lines bytes → q ≡ lines_on lines.count p
    → fed (take lines.len bytes) p ≡ effect q (each tells.Pass (take lines.len bytes))
lines_passed bytes lines p q m free is =
    let here : p ≡ at_mode (modes.Passing starts.Nothing) p = ap (λ (x : Mode). at_mode x p) m in
    ap (fed (take lines.len bytes)) here ∙ free p ∙ ap (λ (x : Page). effect x (each tells.Pass (take lines.len bytes))) (sym is)

-- a part of one
pub part_passed : (start : Start) (bytes : List ℕ) (n : ℕ) (p q : Page) → p.state.mode ≡ modes.Passing start → is_free start bytes ≡ true → 0 < n → n ≤ length bytes
    → n ≡ line_len bytes → q ≡ at_mode (modes.Passing starts.Other) p → fed (take n bytes) p ≡ effect q (each tells.Pass (take n bytes))
part_passed start bytes n p q m f some within same is =
    let cut = length-take n bytes in
    let here : p ≡ at_mode (modes.Passing start) p = ap (λ (x : Mode). at_mode x p) m in
    ap (fed (take n bytes)) here
    ∙ fed_free start (take n bytes) p (free_take start n bytes some same f) (omega (arith, cut, some, within)) (plain_before n bytes (omega (arith, same)))
    ∙ ap (λ (x : Page). effect x (each tells.Pass (take n bytes))) (sym is)

-- a part of one in a table
pub part_kept : (n : ℕ) (bytes : List ℕ) (p q : Page) → is_kept p.state.mode ≡ true → n ≤ length bytes → n ≤ line_len bytes → length p.kept + n ≤ limit_of p
    → q ≡ with_kept (take n bytes) p → fed (take n bytes) p ≡ effect q []
part_kept zero bytes p q k within before room is = ap (λ (x : Page). effect x []) (sym (is ∙ ap (λ (l : List ℕ). record p { kept = l }) (append-nil p.kept)))
part_kept (suc m) bytes p q k within before room is =
    let n = suc m in
    let prefix = take n bytes in
    let cut = length-take n bytes in
    let longer : length (p.kept ++ prefix) ≡ length p.kept + length prefix = length-append p.kept prefix in
    fed_kept_all prefix p k (plain_before n bytes before) (omega (arith, cut, within)) (omega (arith, cut, within, room))
    ∙ fits_more (with_kept prefix p) (omega (arith, longer, cut, within, room))
    ∙ ap (λ (x : Page). effect x []) (sym is)

-- ---- the next byte, or the end

pub record Reads {A S : Type 0} (shows : A → S → Type 0) (hears : Piece → S → S) (b : ℕ) (p q : Page) (old new : A) : Type 0 where
  pub page : q ≡ (read b p).page
  pub emitted : Tells shows hears (read b p).pieces old new
  pub goes_on : (q.limits ≡ p.limits) × Fits q × (q.state.line ≤ p.state.line + 1)

pub one_read : {A S : Type 0} (shows : A → S → Type 0) (hears : Piece → S → S) (b n : ℕ) (p q : Page) (old new : A) → Fits p → Took shows hears (b ∷ []) p q old new n
    → Reads shows hears b p q old new
one_read shows hears b n p q old new fits t =
    let one : n ≡ 1 = (let x = t.some in let y = t.within in omega (arith, x, y)) in
    let same : take n (b ∷ []) ≡ b ∷ [] = ap (λ (k : ℕ). take k (b ∷ [])) one in
    let page : q ≡ (read b p).page = t.page ∙ ap (λ (xs : List ℕ). (fed xs p).page) same in
    record {
      page = page;
      emitted = subst (λ (ps : List Piece). Tells shows hears ps old new) (append-nil (read b p).pieces)
          (subst (λ (xs : List ℕ). Tells shows hears (fed xs p).pieces old new) same t.emitted);
      goes_on = (ap (λ (x : Page). x.limits) page ∙ (read_keeps b p fits).limits, t.fits, (let x = t.lines in omega (arith, x, one)));
    }
