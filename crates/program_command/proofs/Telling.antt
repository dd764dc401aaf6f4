-- The line of an ending, part by part.
use Rattle.std.proofs.Common.{◌≡◌, ℕ, List, ◌++◌, append_assoc, Option, codes, sym, subst, ap, ◌∙◌}
use Rattle.nr_command_options.specs.Inputs.{macro_path, reading_of}
use Rattle.nr_command_options.specs.declared.inputs.Input.{Input}
use Rattle.nr_command.specs.Opening.{name_of}
use Rattle.filters.specs.Endings.{Tells}
use Rattle.nr_units.specs.Failures.{SinkFailures}
use Rattle.program_command.specs.declared.endings.Ending.{Ending}
use Rattle.document_printing.specs.declared.setup.PageEnd.TheVariants as outcomes
use Rattle.document_printing.specs.declared.setup.Report.{Report}
use Rattle.program_command.specs.declared.endings.Ending.TheVariants.{Done, Unshown}
use Rattle.program_command.specs.Running.{IsReported, IsWholeBut}
use Rattle.program_command.specs.Endings.{line_of, placed, reported, unshown_line}

pub reported_is : (w v w' v' : List ℕ) → w ≡ w' → v ≡ v' → reported w v ≡ reported w' v'
reported_is w v w' v' a b = ap (λ x. reported x v) a ∙ ap (λ x. reported w' x) b

pub unshown_is : (n n' names : List ℕ) → n ≡ n' → unshown_line n names ≡ unshown_line n' names
unshown_is n n' names same = ap (λ x. unshown_line x names) same

pub placed_is : (n l w e n' l' w' e' : List ℕ) → n ≡ n' → l ≡ l' → w ≡ w' → e ≡ e' → placed n l w e ≡ placed n' l' w' e'
placed_is n l w e n' l' w' e' a b c d =
    ap (λ x. placed x l w e) a ∙ ap (λ x. placed n' x w e) b ∙ ap (λ x. placed n' l' x e) c ∙ ap (λ x. placed n' l' w' x) d

-- the line of an ending that is known
pub Tells-at : (a b : Option (List ℕ)) (f h : SinkFailures) (e known : Ending) → e ≡ known → Tells a b f h (line_of known) → Tells a b f h (line_of e)
Tells-at a b f h e known is tells = subst (λ (x : Ending). Tells a b f h (line_of x)) (sym is) tells

pub Tells-unopened : (a b : Option (List ℕ)) (f h : SinkFailures) (e known : Input) → e ≡ known
    → Tells a b f h (reported (codes "cannot open ") (name_of (reading_of known))) → Tells a b f h (reported (codes "cannot open ") (name_of (reading_of e)))
Tells-unopened a b f h e known is tells = subst (λ (x : Input). Tells a b f h (reported (codes "cannot open ") (name_of (reading_of x)))) (sym is) tells

pub path_is : (f n f' n' : List ℕ) → f ≡ f' → n ≡ n'
    → codes "nulbiko: cannot open " ++ (f ++ (codes "/tmac." ++ (n ++ codes "\n"))) ≡ reported (codes "cannot open ") (macro_path f' n')
path_is f n f' n' a b =
    ap (λ x. codes "nulbiko: cannot open " ++ (x ++ (codes "/tmac." ++ (n ++ codes "\n")))) a
    ∙ ap (λ x. codes "nulbiko: cannot open " ++ (f' ++ (codes "/tmac." ++ (x ++ codes "\n")))) b
    ∙ ap (λ x. codes "nulbiko: cannot open " ++ x) (sym (append_assoc (f' ++ codes "/tmac.") n' (codes "\n") ∙ append_assoc f' (codes "/tmac.") (n' ++ codes "\n")))

-- all was printed but some characters
pub reported-printed : (name unshown : List ℕ) (report : Report) (ending : Ending) → report.outcome ≡ outcomes.Done → IsWholeBut name unshown ending
    → IsReported name unshown report ending
reported-printed name unshown report Done done whole = (done, whole)
reported-printed name unshown report (Unshown first names) done whole = (done, whole)
reported-printed name unshown report other done whole = absurd whole
