use Rattle.std.proofs.Common.{◌≡◌, ℕ, ◌-◌, ◌≤◌, List, length, take, get_or, ap, ap₂, sym, ◌∙◌, arith, inl, inr}
use Rattle.std.proofs.lemmas.Grind.{common_steps}
use Rattle.std.proofs.lemmas.Bool.{cases_lt}
use Rattle.std.proofs.lemmas.List.{get_or-take, length-take, length-take-le, take-take}
use Rattle.nr_fill.specs.Line.{Lined}
use Rattle.nr_fill.specs.Piece.{Collected, ended, ends_sentence, in_word, line_cells, text_cells, with_word}
use Rattle.nr_fill.specs.Plain.{run_cell}
use Rattle.nr_fill.specs.Runs.{run_after}
use Rattle.nr_fill.proofs.Measures.{measured_run}
use Rattle.nr_fill.proofs.RunLemmas.{add_run-run}
use Rattle.nr_fill.proofs.line.Line.put_run.Goals as goal

pub returns-clause-cells : goal.returns-clause-cells
returns-clause-cells c =
    let bytes = c.args.bytes.now in
    let look = c.args.look in
    let margins = c.args.margins in
    let now = c.args.self.now in
    let m = c.min.result in
    let count = c.push_plain.result in
    let prefix = c.push_plain.ensures.prefix in
    let short : count ≤ m = omega (arith, prefix, length-take m bytes) in
    let run : List ℕ = take count bytes in
    let run_is : take count (take m bytes) ≡ run = take-take count m bytes short in
    let long : length run ≡ count = length-take-le count bytes (omega (arith, prefix, length-take m bytes)) in
    let some = c.push_plain.ensures.some in
    let size : count - 1 ≡ length run - 1 = ap (λ k. k - 1) (sym long) in
    let last_is : get_or (take m bytes) (count - 1) 0 ≡ get_or run (length run - 1) 0 =
    get_or-take m bytes (count - 1) 0 (omega arith) ∙ sym (get_or-take count bytes (count - 1) 0 (omega arith)) ∙ ap (λ k. get_or run k 0) size in
    c.push_plain.ensures.cells
    ∙ ap (λ (v : Lined). record v { collected = record (in_word (run_after look (take count (take m bytes))) v.collected) { sentence = ends_sentence (run_cell look (get_or (take m bytes) (count - 1) 0)) } })
    (c.end_piece.ensures ∙ ap (λ (v : Lined). record v { collected = in_word ended v.collected }) c.open_word.ensures.opened)
    ∙ ap₂ (λ (zs : List ℕ) (b : ℕ). record now { collected = record (in_word (run_after look zs) (in_word ended (with_word margins now.collected))) { sentence = ends_sentence (run_cell look b) } }) run_is last_is
    ∙ ap (λ (k : Collected). record now { collected = k }) (sym (add_run-run margins look run now.collected (omega arith)))

pub returns-clause-within : goal.returns-clause-within
returns-clause-within c =
    let bytes = c.args.bytes.now in
    let count = c.push_plain.result in
    let prefix = c.push_plain.ensures.prefix in
    let long : length (take count bytes) ≡ count = length-take-le count bytes (omega (arith, prefix, length-take c.min.result bytes)) in
    let measured = measured_run c.args.margins c.args.look (take count bytes) c.args.self.now.collected (omega (arith, c.push_plain.ensures.some)) in
    let cells = ap (λ (v : Lined). line_cells v.collected) (returns-clause-cells c) in
    let limit = ap (λ (v : Lined). v.limit) (returns-clause-cells c) in
    let own = ap (λ (v : Lined). v.limit) c.self.view_is in
    λ some. omega (arith, prefix, length-take c.min.result bytes, c.text_measure.ensures.value, c.text_measure.ensures.within)

pub returns-clause-stops : goal.returns-clause-stops
returns-clause-stops c =
    let bytes = c.args.bytes.now in
    let m = c.min.result in
    let count = c.push_plain.result in
    let prefix = c.push_plain.ensures.prefix in
    let taken = length-take m bytes in
    let long : length (take count bytes) ≡ count = length-take-le count bytes (omega (arith, prefix, taken)) in
    let measured = measured_run c.args.margins c.args.look (take count bytes) c.args.self.now.collected (omega (arith, c.push_plain.ensures.some)) in
    let cells = ap (λ (v : Lined). text_cells v.collected) (returns-clause-cells c) in
    let limit = ap (λ (v : Lined). v.limit) (returns-clause-cells c) in
    let own = ap (λ (v : Lined). v.limit) c.self.view_is in
    λ more plain. elim (cases_lt count m) [
      | inl below ↦ absurd (c.push_plain.ensures.stops (omega (arith, taken)) (rw (get_or-take m bytes count 0 below) plain))
      | inr all ↦ omega (arith, prefix, taken, c.text_measure.ensures.value, c.text_measure.ensures.within)
    ]

pub push_plain-requires-clause-room : goal.push_plain-requires-clause-room
push_plain-requires-clause-room c = grind (arith, common_steps)

pub returns-clause-plain : goal.returns-clause-plain
returns-clause-plain c = grind (arith, common_steps)
