use Rattle.std.proofs.Common.{◌≡◌, ◌+◌, ◌++◌, ◌∷◌, [], length, map, take, get_or, ap, sym, ◌∙◌, arith}
use Rattle.std.proofs.lemmas.List.{map-append, take_more, take_more_set}
use Rattle.std.proofs.lemmas.List.Elements.{All-push}
use Rattle.nr_fill.specs.Plain.{IsPlain, run_cell}
use Rattle.nr_fill.proofs.plain.set_plain.Goals as goal

pub loop-i-preserved : goal.loop-i-preserved
loop-i-preserved c =
    let bytes = c.args.bytes.now in
    let i = c.loop-i.i in
    let b = get_or bytes i 0 in
    let cell = run_cell c.args.look in
    let more : take (i + 1) bytes ≡ take i bytes ++ b ∷ [] = take_more bytes i 0 c.loop-i-test.true in
    let plain : IsPlain b = c.is_plain.ensures.0 c.if-not-is_plain.false in
    let mapped : map cell (take (i + 1) bytes) ≡ map cell (take i bytes) ++ cell b ∷ [] = ap (map cell) more ∙ map-append cell (take i bytes) (b ∷ []) in
    record {
      plain = rw more (All-push IsPlain (take i bytes) b c.loop-i.invariant.plain plain);
      cells = take_more_set c.loop-i.slots i (cell b) (omega arith) ∙ ap (λ zs. zs ++ cell b ∷ []) c.loop-i.invariant.cells ∙ sym mapped;
    }

pub returns-clause-cells : goal.returns-clause-cells
returns-clause-cells c =
    let all : c.loop-i.i ≡ length c.args.bytes.now = omega arith in
    ap (λ n. take n c.loop-i.slots) (sym all) ∙ c.loop-i.invariant.cells ∙ ap (λ n. map (run_cell c.args.look) (take n c.args.bytes.now)) all
