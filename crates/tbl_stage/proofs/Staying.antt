-- The room for a table, and by what it is set, stay while a page is read.
use Rattle.std.proofs.Common.{◌≡◌, ℕ, List, Bool, Option, None, Some, sym, ap, ◌∙◌}
use Rattle.tbl_reader.specs.declared.reader.Limits.{Limits}
use Rattle.tbl_reader.specs.Ending.{next_read}
use Rattle.tbl_reader.specs.Pages.{Page, Effect, effect}
use Rattle.tbl_reader.specs.Reading.{Fits, fed}
use Rattle.tbl_reader.specs.Telling.{Piece}
use Rattle.tbl_reader.proofs.Keeping.{end_stays, fed_keeps, read_keeps}
use Rattle.tbl_setting.specs.declared.setting.Setting.{Setting}
use Rattle.tbl_setting.specs.Bounds.{page_setting}
use Rattle.tbl_setting.specs.Held.{emptied}
use Rattle.tbl_setting.specs.Running.{bounds_in}
use Rattle.tbl_table.specs.declared.signs.Signs.{Signs}

-- the limits stay while bytes are read
pub fed_so : (bytes : List ℕ) (p q : Page) (said : List Piece) → Fits p → fed bytes p ≡ effect q said → q.limits ≡ p.limits
fed_so bytes p q said fits is =
    ap (λ (e : Effect). e.page.limits) (sym is) ∙ (fed_keeps bytes p fits).limits

-- and with what comes next, a byte or the end
pub next_so : (next : Option ℕ) (p q : Page) → Fits p → q ≡ (next_read next p).page → q.limits ≡ p.limits
next_so None p q fits is = end_stays p q fits is
next_so (Some b) p q fits is = ap (λ (x : Page). x.limits) is ∙ (read_keeps b p fits).limits

-- where the room is that of the bounds
pub room_stays : (p q : Page) (s t : Setting) → emptied s ≡ page_setting (bounds_in p s) → emptied t ≡ emptied s → q.limits ≡ p.limits → emptied t ≡ page_setting (bounds_in q t)
room_stays p q s t stands same keeps =
    let made : Signs → Limits → ℕ → Bool → Setting = λ g l n f. page_setting (record { signs = g; limits = l; cells = n; fits = f }) in
    let signs : t.layout.grid.table.signs ≡ s.layout.grid.table.signs = ap (λ (x : Setting). x.layout.grid.table.signs) same in
    let cells : t.cells ≡ s.cells = ap (λ (x : Setting). x.cells) same in
    let fits : t.fits ≡ s.fits = ap (λ (x : Setting). x.fits) same in
    same
    ∙ stands
    ∙ ap (λ (g : Signs). made g p.limits s.cells s.fits) (sym signs)
    ∙ ap (λ (l : Limits). made t.layout.grid.table.signs l s.cells s.fits) (sym keeps)
    ∙ ap (λ (n : ℕ). made t.layout.grid.table.signs q.limits n s.fits) (sym cells)
    ∙ ap (λ (f : Bool). made t.layout.grid.table.signs q.limits t.cells f) (sym fits)
