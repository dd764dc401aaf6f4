-- The rows among the first items of a table are those below a number.
use Rattle.std.proofs.Common.{◌≡◌, ◌≢◌, ℕ, suc, ◌<◌, length, sym, ap, arith, ◌∙◌, inl, inr}
use Rattle.tbl_drawing.specs.declared.layout.Layout.{Layout}
use Rattle.tbl_drawing.specs.Laws.{IsRead}
use Rattle.tbl_drawing.proofs.Below.{below_or, equal_or, two}
use Rattle.tbl_drawing.proofs.Once.{Among, item_same}
use Rattle.tbl_table.specs.declared.table.Item.TheVariants as items
use Rattle.tbl_table.specs.Held.{item}

-- the rows among the first items are those below a number
pub record Prefix (t : Layout) (k a : ℕ) : Type 0 where
  pub all : (r : ℕ) → r < a → Among t k r
  pub only : (r : ℕ) → Among t k r → r < a

pub row_is : (t : Layout) (k a r : ℕ) → IsRead t.grid.table → k < length t.grid.table.items.items → item t.grid.table k ≡ items.Row r → Prefix t k a → r ≡ a
row_is t k a r q inside e f =
    elim (below_or r a) [
      | inl less ↦
          (let m : Among t k r = f.all r less in
          absurd (let no : ⊥ = omega (arith, q.order m.0 k r r m.1 inside m.2 e) in no))
      | inr least ↦
          elim (below_or a r) [
            | inl more ↦
                (let i = q.among a (omega (arith, more, q.held k r inside e)) in
                elim (below_or i.0 k) [
                  | inl before ↦ absurd (let no : ⊥ = omega (arith, f.only a (i.0, before, i.2)) in no)
                  | inr after ↦
                      elim (equal_or i.0 k) [
                        | inl same ↦ item_same r a (sym e ∙ ap (item t.grid.table) (sym same) ∙ i.2)
                        | inr ne ↦
                            (let further : k ≢ i.0 = λ s. ne (sym s) in
                            absurd (let no : ⊥ = omega (arith, more, q.order k i.0 r a (omega (arith, after, further)) i.1 e i.2) in no))
                      ]
                ])
            | inr most ↦ omega (arith, least, most)
          ]
    ]

pub prefix_row : (t : Layout) (k a : ℕ) → item t.grid.table k ≡ items.Row a → Prefix t k a → Prefix t (suc k) (suc a)
prefix_row t k a e f = record {
  all = λ r less.
      elim (two r a (omega (arith, less))) [
        | inl low ↦ (let m : Among t k r = f.all r low in (m.0, omega (arith, m.1), m.2))
        | inr same ↦ (k, omega arith, e ∙ ap (λ (x : ℕ). items.Row x) (sym same))
      ];
  only = λ r m.
      elim (two m.0 k (omega (arith, m.1))) [
        | inl before ↦ (let less : r < a = f.only r (m.0, before, m.2) in omega (arith, less))
        | inr last ↦ (let same : r ≡ a = item_same r a (sym m.2 ∙ ap (item t.grid.table) last ∙ e) in omega (arith, same))
      ];
}

pub prefix_other : (t : Layout) (k a : ℕ) → ((r : ℕ) → item t.grid.table k ≡ items.Row r → ⊥) → Prefix t k a → Prefix t (suc k) a
prefix_other t k a never f = record {
  all = λ r less. (let m : Among t k r = f.all r less in (m.0, omega (arith, m.1), m.2));
  only = λ r m.
      elim (two m.0 k (omega (arith, m.1))) [
        | inl before ↦ f.only r (m.0, before, m.2)
        | inr last ↦ absurd (never r (sym (ap (item t.grid.table) last) ∙ m.2))
      ];
}
