use Rattle.std.proofs.Common.{◌≡◌, ◌-◌, ◌<◌, map, true, false, ap, sym, ◌∙◌, subst, inl, inr, arith}
use Rattle.std.proofs.lemmas.Bool.{cases_order}
use Rattle.nr_symbol_tables.specs.Rows.{named, names, kind, name_in}
use Rattle.nr_symbol_tables.proofs.Rows.{name_is, kind_is, earlier_is, length-names, first_within, first_of_kind, first_last, next_lower, next_of_kind, next_last}
use Rattle.nr_symbol_tables.proofs.table.place_of.Goals as goal

pub loop-at-init : goal.loop-at-init
loop-at-init g c =
    let row = c.args.row.now in
    let latest = c.args.latest.now in
    let d = kind c.args.name.now in
    let low = c.kind_of.ensures.few in
    let is_kind = c.kind_of.ensures.is in
    let few : d < 512 = omega arith in
    rw c.kind_of.ensures.is
    (record {
      within = first_within row latest d few c.requires;
      last = λ k above below is. first_last row latest d few c.requires k above below (kind_is row k below ∙ ap kind is);
      of_kind = first_of_kind row latest d few c.requires;
    })

pub loop-at-preserved : goal.loop-at-preserved
loop-at-preserved g c =
    let row = c.args.row.now in
    let latest = c.args.latest.now in
    let name = c.args.name.now in
    let d = kind name in
    let low = c.kind_of.ensures.few in
    let is_kind = c.kind_of.ensures.is in
    let few : d < 512 = omega arith in
    let at = c.loop-at.at in
    let e = c.index-row-at.result in
    let some = c.loop-at-test.true in
    let within = c.loop-at.invariant.within in
    let is = earlier_is row (at - 1) e (omega arith) c.index-row-at.is in
    let named_so = name_is row (at - 1) e (omega arith) c.index-row-at.is in
    let of_kind = c.loop-at.invariant.of_kind some in
    let lower = next_lower row latest d few c.requires at e.earlier some within is of_kind in
    let not_this : name_in (names (map named row)) (at - 1) ≡ name → ⊥ = λ same.
    (let hit : c.is_same.result ≡ true = c.is_same.ensures.1 (sym named_so ∙ same) in
    let wrong : true ≡ false = sym hit ∙ c.if-is_same.false in cc) in
    record {
      within = omega arith;
      last = λ k above below same. elim (cases_order k (at - 1)) [
        | inl here ↦ not_this (subst (λ n. name_in (names (map named row)) n ≡ name) here same)
        | inr off ↦ elim off [
          | inl under ↦ next_last row latest d few c.requires at e.earlier some within is of_kind k above under (kind_is row k below ∙ ap kind same)
          | inr past ↦ c.loop-at.invariant.last k (omega arith) below same
        ]
      ];
      of_kind = next_of_kind row latest d few c.requires at e.earlier some within is of_kind;
    }

pub loop-at-smaller : goal.loop-at-smaller
loop-at-smaller g c =
    let row = c.args.row.now in
    let d = kind c.args.name.now in
    let low = c.kind_of.ensures.few in
    let is_kind = c.kind_of.ensures.is in
    let few : d < 512 = omega arith in
    let at = c.loop-at.at in
    let e = c.index-row-at.result in
    let some = c.loop-at-test.true in
    let within = c.loop-at.invariant.within in
    let is = earlier_is row (at - 1) e (omega arith) c.index-row-at.is in
    next_lower row c.args.latest.now d few c.requires at e.earlier some within is (c.loop-at.invariant.of_kind some)

pub returns-then-is_same-clause-is : goal.returns-then-is_same-clause-is
returns-then-is_same-clause-is g c =
    let row = c.args.row.now in
    let at = c.loop-at.at in
    let e = c.index-row-at.result in
    let some = c.loop-at-test.true in
    let within = c.loop-at.invariant.within in
    let long = length-names row in
    let named_so = name_is row (at - 1) e (omega arith) c.index-row-at.is in
    record {
      within = omega arith;
      is = λ more. named_so ∙ c.is_same.ensures.0 c.if-is_same.true;
      none = λ nowhere k below same. absurd (omega arith);
    }

pub returns-clause-is : goal.returns-clause-is
returns-clause-is g c =
    let row = c.args.row.now in
    let within = c.loop-at.invariant.within in
    let long = length-names row in
    record {
      within = omega arith;
      is = λ more. absurd (let over = c.loop-at-test.false in omega arith);
      none = λ nowhere k below same. c.loop-at.invariant.last k (omega arith) (omega arith) same;
    }
