use Rattle.std.proofs.Common.{[], ◌∷◌, ◌∙◌, ap}
use Rattle.tbl_reader.specs.Pages.{Page}
use Prim.Native.Char.{code}
use Rattle.tbl_reader.specs.declared.telling.Tell.TheVariants as tells
use Rattle.tbl_reader.specs.Telling.{piece, each}
use Rattle.tbl_reader.proofs.Hearing.{tells_append, each_same}
use Rattle.tbl_reader.proofs.reader.Reader.table_ends.Goals as goal

pub returns-clause-emitted : goal.returns-clause-emitted
returns-clause-emitted g c =
    let kept = c.args.self.now.kept in
    let all = each_same g.S.Setter.shows g.S.Setter.hears tells.Pass c.as_slice.result.now kept c.tell.new.self c.tell-2.new.self (c.as_slice.ensures.value ∙ ap (λ (p : Page). p.kept) c.self.view_is) c.tell-2.ensures in
    tells_append g.S.Setter.shows g.S.Setter.hears (piece tells.TableEnd [] ∷ each tells.Pass kept) (piece tells.Pass (code "\n" ∷ []) ∷ [])
    c.args.setter.now c.tell-2.new.self c.tell-3.new.self (λ s h. all _ (c.tell.ensures s h)) c.tell-3.ensures
