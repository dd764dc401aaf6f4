-- What the words of a macro are read for (mdoc(7), MACRO OVERVIEW).
use Rattle.std.specs.Prelude.{ℕ, List, [], ◌∷◌, Bool, true, false, not, ◌==◌, ◌&&◌, ◌||◌, if◌then◌else◌}
use Prim.Native.Char.{code}
use Rattle.mdoc_layout.specs.declared.acts.Act.TheVariants as acts
use Rattle.mdoc_layout.specs.declared.macros.Font.TheVariants.{Roman}
use Rattle.mdoc_layout.specs.declared.macros.Macro.{Macro}
use Rattle.mdoc_layout.specs.declared.macros.Macro.TheVariants as macros
use Rattle.mdoc_layout.specs.declared.page.Page.{Page}
use Rattle.mdoc_layout.specs.declared.page.Scan.TheVariants as scans
use Rattle.mdoc_words.specs.Calls.{is_enclosure_pending, is_pending, leaves}
use Rattle.mdoc_words.specs.Meanings.{taken_by}
use Rattle.mdoc_words.specs.Rules.{seen_with}
use Rattle.mdoc_words.specs.Rules.{with_call, with_scan}
use Rattle.mdoc_layout.specs.Seeing.{Offered, offered, left, two}

-- ---- words that a macro takes

abbrev pub is_opening : List ℕ → Bool
is_opening [] = false
is_opening (b ∷ []) = (b == code "(") || (b == code "[")
is_opening (a ∷ b ∷ rest) = false

abbrev pub is_bar : List ℕ → Bool
is_bar [] = false
is_bar (b ∷ []) = b == code "|"
is_bar (a ∷ b ∷ rest) = false

-- an opening mark is the prefix itself
abbrev pub is_prefix : Macro → Bool
is_prefix macros.Prefix = true
is_prefix m = false

unfoldable pub taken_word : Page → Offered
taken_word p = taken_by p.call.taker p

abbrev pub some_taken : Page → Page
some_taken p = with_call (record p.call { some = true }) p

unfoldable pub argument : Bool → Page → Offered
argument quoted p =
    let q = with_scan scans.Between p in
    if not quoted && is_bar p.word && is_pending p then leaves p else
    if is_enclosure_pending p && (quoted || not (is_opening p.word)) then leaves p else
    if not quoted && is_bar p.word then offered q (left (acts.Word Roman)) else
    if not quoted && is_opening p.word && not (is_prefix p.call.taker)
    then offered q (two (acts.Word Roman) acts.Join) else
    seen_with (some_taken (taken_word q).page) (taken_word q)
