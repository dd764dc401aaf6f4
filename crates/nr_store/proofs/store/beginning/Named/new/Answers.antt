use Rattle.std.proofs.Common.{◌∙◌, ap, arith}
use Rattle.nr_symbol_tables.specs.Rows.{SymbolTable}
use Rattle.nr_store.specs.declared.request.TheConstants.{REQUESTS}
use Rattle.nr_store.specs.Request.{with_senses}
use Rattle.nr_store.proofs.store.beginning.Named.new.Goals as goal

pub name_requests-requires : goal.name_requests-requires
name_requests-requires c = record { room = rw c.in_ok-names.ensures.made c.requires }

pub returns-clause-names : goal.returns-clause-names
returns-clause-names c =
    c.name_requests.ensures ∙ ap (λ (t : SymbolTable _). record t { entries = with_senses REQUESTS t.entries }) c.in_ok-names.ensures.made

pub returns-clause-drafts : goal.returns-clause-drafts
returns-clause-drafts c = c.in_ok-drafts.ensures.made

pub returns-clause-taken : goal.returns-clause-taken
returns-clause-taken c = omega (arith, c.in_ok-names.ensures.taken, c.in_ok-drafts.ensures.taken)
