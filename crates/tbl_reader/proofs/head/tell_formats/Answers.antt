use Rattle.std.proofs.Common.{◌≡◌, ℕ, ◌+◌, ◌<◌, List, [], ◌∷◌, length, get_or, drop, sym, ◌∙◌, ap, subst, add-one, drop-cons}
use Rattle.std.proofs.lemmas.List.{drop_all}
use Prim.Native.Char.{code}
use Rattle.tbl_reader.specs.HeadLines.{formats_after, formats_said, with_newline}
use Rattle.tbl_reader.specs.Telling.{Tells}
use Rattle.tbl_reader.proofs.Formatting.{said_then, after_then}
use Rattle.tbl_reader.proofs.head.tell_formats.Goals as goal

pub loop-byte-preserved : goal.loop-byte-preserved
loop-byte-preserved g c =
    let text = c.args.text.now in
    let i = c.loop-byte.byte-index in
    let f = c.loop-byte.formats in
    let n = c.read-called.new.self in
    let rest = drop (i + 1) text in
    let within : i < length text = c.loop-byte-test.true in
    let cut : drop i text ≡ get_or text i 0 ∷ rest = rw (add-one, drop-cons text i 0) in
    record {
      formats = sym (after_then f n c.read-called.result (get_or text i 0) (with_newline rest) c.read-called.ensures)
          ∙ ap (λ (xs : List ℕ). formats_after f (with_newline xs)) (sym cut) ∙ c.loop-byte.invariant.formats;
      emitted = λ d k. c.loop-byte.invariant.emitted d
          (subst (λ (xs : List ℕ). Tells g.S.Setter.shows g.S.Setter.hears (formats_said f (with_newline xs)) c.loop-byte.setter d) (sym cut)
          (said_then g.S.Setter.shows g.S.Setter.hears f n c.read-called.result (get_or text i 0) (with_newline rest) c.loop-byte.setter c.tell.new.self d
          c.read-called.ensures c.tell.ensures k));
    }

pub returns : goal.returns
returns g c =
    let text = c.args.text.now in
    let i = c.loop-byte.byte-index in
    let f = c.loop-byte.formats in
    let n = c.read-called-2.new.self in
    let cut : drop i text ≡ [] = drop_all i text c.loop-byte-test.false in
    record {
      formats = sym (after_then f n c.read-called-2.result (code "\n") [] c.read-called-2.ensures)
          ∙ ap (λ (xs : List ℕ). formats_after f (with_newline xs)) (sym cut) ∙ c.loop-byte.invariant.formats;
      emitted = c.loop-byte.invariant.emitted c.tell-2.new.self
          (subst (λ (xs : List ℕ). Tells g.S.Setter.shows g.S.Setter.hears (formats_said f (with_newline xs)) c.loop-byte.setter c.tell-2.new.self) (sym cut)
          (said_then g.S.Setter.shows g.S.Setter.hears f n c.read-called-2.result (code "\n") [] c.loop-byte.setter c.tell-2.new.self c.tell-2.new.self
          c.read-called-2.ensures c.tell-2.ensures (λ s h. h)));
    }
