-- A page with no lines.
use Rattle.std.proofs.Common.{◌≡◌, ℕ, ◌/◌, ◌^◌, ◌<◌, min, List, [], length, replicate, refl, ap, ◌∙◌, arith}
use Rattle.std.specs.List.{sum_by}
use Rattle.std.proofs.lemmas.List.{length-replicate}
use Rattle.std.proofs.lemmas.List.Folds.{sum_by-replicate}
use Rattle.nr_vectors.specs.declared.cell.Cell.{Cell}
use Rattle.nr_vectors.specs.Items.{Items}
use Rattle.nr_pool.specs.Texts.{Held, Texts, no_text, used}
use Rattle.nr_page.specs.declared.row.RowSlot.{RowSlot}
use Rattle.nr_page.specs.Page.{Holds}
use Rattle.nr_page.specs.Rows.{text_count, sheet_of, IsKept}

-- it holds none
holds_none : (texts : Texts Cell) (rows : List RowSlot) (limit : ℕ) → rows ≡ [] → Holds [] (sheet_of texts rows 0 0 limit)
holds_none texts rows limit none = rw none record { shows = λ row column. refl; reaches = refl; charged = refl }

pub kept_new : (texts : Texts Cell) (rows : Items RowSlot) (limit n : ℕ) → limit < 2 ^ 32 → texts.capacity ≡ limit → texts.texts ≡ replicate n no_text → n ≡ limit / 2 → rows.items ≡ [] → rows.capacity ≡ limit / 2 → IsKept texts rows 0 0 limit
kept_new texts rows limit n small capacity empty n_is none room =
    let few : length rows.items ≡ 0 = ap length none in
    let no_cells : used texts ≡ 0 = ap (λ ts. sum_by (λ (t : Held Cell). length t.elements) ts) empty ∙ sum_by-replicate (λ (t : Held Cell). length t.elements) n no_text ∙ omega arith in
    let no_texts : text_count texts ≡ 0 = ap (λ ts. sum_by (λ (t : Held Cell). min t.holders 1) ts) empty ∙ sum_by-replicate (λ (t : Held Cell). min t.holders 1) n no_text ∙ omega arith in
    record {
      in_range = small;
      cell_room = capacity;
      text_room = ap length empty ∙ length-replicate n (no_text {T = Cell}) ∙ n_is;
      row_room = room;
      kept = record {
        order = λ i j before below. absurd (omega arith);
        is_open = λ i below. absurd (omega arith);
        own = λ i j below others same. absurd (omega arith);
        counted = omega arith;
      };
      above = λ i below. absurd (omega arith);
      filled = omega arith;
      halved = omega arith;
      within = omega arith;
      holds = ([], holds_none texts rows.items limit none);
    }
