-- A byte that prints as it is takes a cell.
use Rattle.std.proofs.Common.{◌≡◌, ◌==◌, ℕ, ◌-◌, ◌≤◌, Bool, true, false, not, ◌&&◌, ◌||◌, nat_lt, List, refl, ap, arith, ◌∙◌, if◌then◌else◌}
use Rattle.std.proofs.lemmas.Bool.Decides.{nat_tests}
use Rattle.std.proofs.lemmas.Grind.{common_steps}
use Prim.Native.Char.{code}
use Rattle.nr_settings.specs.Characters.{prints as is_printed}
use Rattle.tbl_blocks.specs.declared.blocks.Measured.{Measured}
use Rattle.tbl_blocks.specs.declared.parts.Known.{Known}
use Rattle.tbl_blocks.specs.declared.units.Does.TheVariants as does
use Rattle.tbl_blocks.specs.Extents.{extended, measured, widened}
use Rattle.tbl_blocks.specs.Parts.{sum}
use Rattle.tbl_blocks.specs.Units.{byte_does, escape, is_letter, is_printing, is_stop, is_sure, unit_of}

sure_seen : (t1 t2 t3 t4 t5 : Bool) → t5 ≡ true
    → is_sure (if t1 then does.Letter else if t2 then does.Hyphen else if t3 then does.Stop else if t4 then does.Blank else if t5 then does.Print else does.Unsure) ≡ true
sure_seen true t2 t3 t4 t5 h = refl
sure_seen false true t3 t4 t5 h = refl
sure_seen false false true t4 t5 h = refl
sure_seen false false false true t5 h = refl
sure_seen false false false false true h = refl
sure_seen false false false false false h = absurd (let no : false ≡ true = h in cc)

both_left : (a b : Bool) → (a && b) ≡ true → a ≡ true
both_left true b h = refl
both_left false b h = h

both_right : (a b : Bool) → (a && b) ≡ true → b ≡ true
both_right true b h = h
both_right false b h = cc

not_it : (a : Bool) → not a ≡ true → a ≡ false
not_it true h = cc
not_it false h = refl

and_true : (a : Bool) → (a && true) ≡ a
and_true true = refl
and_true false = refl

pub printing_measured : (b : ℕ) (rest : List ℕ) (strings : List Known) (m : Measured) → is_printing b ≡ true
    → extended (unit_of b rest strings) b m ≡ widened m
printing_measured b rest strings m prints =
    ap (λ (x : Bool). extended (if x then escape rest strings else record { more = 0; cells = 1; does = byte_does b }) b m) no_backslash
    ∙ ap (λ (x : Bool). let t : Measured = record { extent = record { cells = sum m.extent.cells 1; sure = m.extent.sure && x }; more = 0 } in t) sure
    ∙ ap (λ (x : Bool). let t : Measured = record { extent = record { cells = sum m.extent.cells 1; sure = x }; more = 0 } in t) (and_true m.extent.sure)
  where
    printed : is_printed b ≡ true
    printed = both_left (is_printed b) (not (b == code "\\")) prints

    no_backslash : (b == code "\\") ≡ false
    no_backslash = not_it (b == code "\\") (both_right (is_printed b) (not (b == code "\\")) prints)

    no_tab : (b == code "\t") ≡ false
    no_tab = grind (arith, nat_tests, common_steps, printed)

    sure : (is_sure (byte_does b) && not (b == code "\t")) ≡ true
    sure =
        ap (λ (x : Bool). x && not (b == code "\t")) (sure_seen (is_letter b) (b == code "-") (is_stop b) ((b == code " ") || (b == code "\t")) (is_printed b) printed)
        ∙ ap (λ (x : Bool). not x) no_tab

-- where it belongs to no unit before it
pub measured_printing : (b : ℕ) (rest : List ℕ) (strings : List Known) (m : Measured) → m.more ≤ 0 → is_printing b ≡ true
    → measured b rest strings m ≡ widened m
measured_printing b rest strings m none prints =
    let no_more : nat_lt 0 m.more ≡ false = grind (arith, nat_tests) in
    ap (λ (x : Bool). if x then record m { more = m.more - 1 } else extended (unit_of b rest strings) b m) no_more
    ∙ printing_measured b rest strings m prints
