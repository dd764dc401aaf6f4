use Rattle.std.proofs.Common.{Some, ap, sym, ◌∙◌}
use Rattle.std.specs.Option.{option_map}
use Rattle.nr_pool.specs.Texts.{text}
use Rattle.nr_store.specs.Holders.{beside_of}
use Rattle.nr_store.proofs.Admitting.{named_text, is_named}
use Rattle.nr_store.proofs.store.Store.text.Goals as goal

pub returns-in_default-clause-none : goal.returns-in_default-clause-none
returns-in_default-clause-none g c = λ none.
    let s = c.self.inside in
    named_text s.pool s.names.entries s.drafts.items s.levels (beside_of s.gathering s.registers s.traps s.words) s.stored c.args.name c.text_in.result c.args.self.now c.self.view_is c.text_in.ensures ∙ ap (option_map (text s.pool)) c.in_default.is

pub text-requires : goal.text-requires
text-requires g c =
    let s = c.self.inside in
    (is_named s.pool s.names s.drafts s.levels (beside_of s.gathering s.registers s.traps s.words) s.charge s.stored c.args.name c.in-Some.id c.text_in.result c.self.invariant c.text_in.ensures c.in-Some.is).there.is_open

pub returns-clause-text : goal.returns-clause-text
returns-clause-text g c =
    let s = c.self.inside in
    named_text s.pool s.names.entries s.drafts.items s.levels (beside_of s.gathering s.registers s.traps s.words) s.stored c.args.name c.text_in.result c.args.self.now c.self.view_is c.text_in.ensures ∙ ap (option_map (text s.pool)) c.in-Some.is ∙ ap Some (sym c.text.ensures)
