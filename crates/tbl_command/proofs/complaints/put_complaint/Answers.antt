use Rattle.std.proofs.Common.{rules, ◌∷◌, [], codes, ap, ◌∙◌}
use Rattle.std.specs.List.{concat}
use Rattle.nr_units.proofs.Prefixes.{AppendsPrefix-append}
use Rattle.tbl_command.specs.Complaints.{named_by, words_of}
use Rattle.tbl_command.proofs.Written.{err_after, err_is, ok_after, ok_is}
use Rattle.tbl_command.proofs.complaints.put_complaint.Goals as goal

pub returns-in_err-put_place-clause-err : goal.returns-in_err-put_place-clause-err
returns-in_err-put_place-clause-err g c =
    let begun = rw c.format.ensures.text at c.in_err-put_place.ensures.err in
    let reported = AppendsPrefix-append _ _ _ (concat (words_of c.args.complaint.kind ∷ named_by c.args.complaint.kind ∷ codes "\n" ∷ [])) begun in
    search rules

pub returns-clause-ok : goal.returns-clause-ok
returns-clause-ok g c =
    let is = ap (λ x. concat (x ∷ c.named_by-named.result ∷ codes "\n" ∷ [])) c.words_of.ensures ∙ ap (λ x. concat (words_of c.args.complaint.kind ∷ x ∷ codes "\n" ∷ [])) c.named_by-named.ensures in
    ok_after c.put_rest.result _ _ _ _ _ (rw c.format.ensures.text at c.in_ok-put_place.ensures.ok) (ok_is c.put_rest.result _ _ _ _ is c.put_rest.ensures.ok)

pub returns-clause-err : goal.returns-clause-err
returns-clause-err g c =
    let is = ap (λ x. concat (x ∷ c.named_by-named.result ∷ codes "\n" ∷ [])) c.words_of.ensures ∙ ap (λ x. concat (words_of c.args.complaint.kind ∷ x ∷ codes "\n" ∷ [])) c.named_by-named.ensures in
    err_after c.put_rest.result _ _ _ _ _ (rw c.format.ensures.text at c.in_ok-put_place.ensures.ok) (err_is c.put_rest.result _ _ _ _ is c.put_rest.ensures.err)
