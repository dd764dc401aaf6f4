-- The table of bytes that go on text tells what the definition does.
use Prim.Native.Char.{code}
use Rattle.std.proofs.Common.{◌≡◌, ℕ, ◌<◌, List, map, get_or, Bool, false, not, ◌==◌, refl, sym, ◌∙◌, ap, arith}
use Rattle.std.specs.List.{range_with_len}
use Rattle.std.proofs.lemmas.List.{get_or-map}
use Rattle.std.proofs.lemmas.List.FromFn.{get_or-map-range_with_len}
use Rattle.preconv_converter.specs.declared.runs.TheConstants.{TEXT}
use Rattle.preconv_converter.specs.Runs.{goes_on_text}

-- an entry is no hyphen
abbrev stands : ℕ → Bool
stands x = not (x == code "-")

all_entries : map stands TEXT ≡ map goes_on_text (range_with_len 0 256)
all_entries = refl

pub text_entry : (b : ℕ) → b < 256 → not (get_or TEXT b 0 == code "-") ≡ goes_on_text b
text_entry b below =
    sym (get_or-map stands TEXT b 0 false below)
    ∙ ap (λ (xs : List Bool). get_or xs b false) all_entries
    ∙ get_or-map-range_with_len goes_on_text 0 256 b b false below (omega arith)
