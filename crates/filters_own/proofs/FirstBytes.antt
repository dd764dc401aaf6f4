-- The first bytes of a text were read.
use Rattle.std.proofs.Common.{◌≡◌, ℕ, ◌≤◌, List, length, take, Option, None, Some, sym, ap, subst, ◌∙◌}
use Rattle.nr_units.specs.Source.{Supply, reader_supply}
use Rattle.preconv_coding.specs.UnderCoding.{text_of, text_supply}
use Rattle.utf8_converter.specs.Choosing.{IsPrefix}
use Rattle.utf8_converter.proofs.Choices.{prefix-is}
use Rattle.filters_own.specs.Looking.{IsPrefixIn}

by_left : (left : Option (List ℕ)) (last : Option Supply) (room : ℕ) (items : List ℕ) → room ≡ 524288 → length items ≤ room
    → IsPrefix (text_supply (reader_supply left)) last room items → IsPrefixIn left items
by_left None last room items whole within prefix = tt
by_left (Some bytes) last room items whole within prefix =
    sym (prefix-is _ last room items within prefix) ∙ ap (λ (n : ℕ). take n (text_of bytes)) whole

pub prefix-read : (left : Option (List ℕ)) (first last : Option Supply) (room : ℕ) (items : List ℕ) → first ≡ text_supply (reader_supply left)
    → room ≡ 524288 → length items ≤ room → IsPrefix first last room items → IsPrefixIn left items
prefix-read left first last room items supply whole within prefix =
    by_left left last room items whole within (subst (λ (s : Option Supply). IsPrefix s last room items) supply prefix)
