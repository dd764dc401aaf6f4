use Rattle.std.proofs.Common.{List, ◌∙◌, sym, ap}
use Rattle.utf8_own_characters.specs.declared.listening.Listened.{Listened}
use Rattle.utf8_own_characters.specs.Listening.{after}
use Rattle.utf8_own_characters.proofs.Letters.{byte_noted, prefix_one}
use Rattle.utf8_own_characters.proofs.looking.look_at_one.Goals as goal

pub returns-clause-items : goal.returns-clause-items
returns-clause-items c =
    c.note.ensures.items
    ∙ byte_noted c.args.counts.now.capacity c.args.counts.now.items c.args.listener.now c.args.bytes.now c.read-listened.result c.requires.some c.read-listened.ensures

pub returns-clause-listener : goal.returns-clause-listener
returns-clause-listener c =
    ap (λ (x : Listened). x.listener) c.read-listened.ensures
    ∙ ap (after c.args.listener.now) (sym (prefix_one c.args.bytes.now c.requires.some))
