use Rattle.std.proofs.Common.{◌≡◌, ◌+◌, ◌*◌, inl, inr, subst, ap, ◌∙◌, arith}
use Rattle.std.specs.Prelude.{slice_get}
use Rattle.std.proofs.lemmas.Bool.{cases_lt}
use Rattle.nr_store.specs.Store.{Stored}
use Rattle.nr_store.specs.Windows.{rest_of}
use Rattle.nr_input.specs.Moving.{situation}
use Rattle.fast_input.specs.Runs.{PaysMany}
use Rattle.fast_input.proofs.ControlLines.{pays_then}
use Rattle.fast_input.proofs.Interpolated.{read_then}
use Rattle.fast_input.proofs.LevelParts.{many_of_all}
use Rattle.fast_input.proofs.runs.read_added.Goals as goal

pub returns : goal.returns
returns g c =
    let v = c.args.store.now in
    let r = c.args.reader.now in
    let added = c.add_wanted-added.result in
    let w = c.add_wanted-added.new.store in
    let run = c.read_level-run.result in
    let x = c.read_level-run.new.store in
    let s = c.read_level-run.new.reader in
    let add = c.add_wanted-added.ensures in
    let more = c.read_level-run.ensures in
    let count : run.moves + 2 * added ≡ 2 * added + run.moves = omega arith in
    record {
      read = λ k p supply holds. read_then run.moves (2 * added) (situation v k r) run.event w x r s p p supply supply (add.read k p supply holds) (λ d there. more.read d p supply there);
      pays = λ p.
          subst (λ n. PaysMany n v p r run.event x p s) count
          (many_of_all (run.moves + 2 * added) v x p p r s run.event (pays_then run.moves (2 * added) v w x p p p r r s run.event (add.pays p) (more.pays p)));
      few = omega (arith, add.few, more.few);
      limits = more.limits ∙ add.limits;
      longest = record {
        some = λ b first pending_act. elim (cases_lt 0 added) [
          | inl some ↦ omega (arith, some)
          | inr none ↦
              let same = add.none (omega (arith, none)) in
              let moved = more.longest.some b (ap (λ (y : Stored _). slice_get (rest_of y.levels) 0) same ∙ first) pending_act in
              omega (arith, moved)
        ];
        all = λ few. more.longest.all (omega (arith, few));
      };
    }
