use Rattle.std.proofs.Common.{List, ◌∙◌, sym, ap}
use Rattle.utf8_own_characters.specs.declared.listening.Listened.{Listened}
use Rattle.utf8_own_characters.specs.Listening.{after}
use Rattle.utf8_own_characters.proofs.Letters.{pair_noted, prefix_two}
use Rattle.utf8_own_characters.proofs.looking.look_at_pair.Goals as goal

pub returns-clause-items : goal.returns-clause-items
returns-clause-items c =
    c.note.ensures.items
    ∙ pair_noted c.args.counts.now.capacity c.args.counts.now.items c.args.listener.now c.args.bytes.now c.read_two-listened.result c.requires.long c.requires.two c.read_two-listened.ensures

pub returns-clause-listener : goal.returns-clause-listener
returns-clause-listener c =
    ap (λ (x : Listened). x.listener) c.read_two-listened.ensures
    ∙ ap (after c.args.listener.now) (sym (prefix_two c.args.bytes.now c.requires.long))
