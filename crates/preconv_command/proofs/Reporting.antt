-- What is reported of characters that are not shown.
use Rattle.std.proofs.Common.{◌≡◌, ℕ, List, [], ◌∷◌, Bool, true, false, Option, None, Some, refl, ap, subst, ◌∙◌, codes}
use Rattle.std.specs.List.{concat}
use Rattle.nr_units.specs.Failures.{SinkFailures}
use Rattle.utf8_own_characters.specs.declared.counting.Count.{Count}
use Rattle.utf8_own_characters.specs.Ranking.{ranked}
use Rattle.utf8_own_page.specs.Lacking.{left_of, names_of}
use Rattle.filters.specs.Disk.{Opening}
use Rattle.filters.specs.Program.{is_unread}
use Rattle.filters.specs.declared.endings.Ending.{Ending}
use Rattle.filters.specs.declared.endings.Ending.TheVariants.{Done, Complained, TooLong, ReadFault, WriteFault, BadWord, CannotOpen, CannotRead, OutOfMemory}
use Rattle.filters_own.specs.Looking.{AreRankedIn, IsOf, LookIsShort, counts_in, prefix_in}
use Rattle.preconv_command.specs.Unshown.{AreLeftIn, AreReported, EndsWith, is_whole, unshown_line}

-- of some there is a line
pub unshown_is : (bytes name names : List ℕ) → (names ≡ [] → ⊥) → bytes ≡ name
    → concat (codes "preconv: " ∷ bytes ∷ codes ": characters not shown:" ∷ names ∷ codes "\n" ∷ []) ≡ unshown_line name names
unshown_is bytes name [] some is = absurd (some refl)
unshown_is bytes name (b ∷ bs) some is =
    ap (λ (n : List ℕ). concat (codes "preconv: " ∷ n ∷ codes ": characters not shown:" ∷ (b ∷ bs) ∷ codes "\n" ∷ [])) is

left_in : (left : Option (List ℕ)) (cells : List Count) (names : List ℕ) → AreRankedIn left cells → names ≡ names_of (left_of cells) → AreLeftIn left names
left_in None cells names ranks is = tt
left_in (Some bytes) cells names ranks is = λ short. is ∙ ap (λ (xs : List Count). names_of (left_of xs)) (ranks short)

pub left-reported : (may_come : List ℕ → Opening → Type 0) (asked between : Option (List (List ℕ))) (file : List ℕ) (cells : List Count) (names text : List ℕ)
    (held : Option (List ℕ)) (untold : SinkFailures) → IsOf may_come asked between file (λ left. AreRankedIn left cells) → names ≡ names_of (left_of cells)
    → text ≡ names → EndsWith held untold (unshown_line file text) → AreReported may_come file held untold
left-reported may_come asked between file cells names text held untold look are same ends = record {
  left = look.left;
  opened = look.opened;
  names = names;
  are = left_in look.left cells names look.is are;
  line = subst (λ (n : List ℕ). EndsWith held untold (unshown_line file n)) same ends;
}

-- where no text was read, not all went out
pub unread_is_cut : (ending : Ending) → is_unread ending ≡ true → is_whole ending ≡ false
unread_is_cut Done unread = absurd (let no : false ≡ true = unread in cc)
unread_is_cut Complained unread = absurd (let no : false ≡ true = unread in cc)
unread_is_cut (TooLong name) unread = refl
unread_is_cut (ReadFault name at) unread = refl
unread_is_cut WriteFault unread = refl
unread_is_cut (BadWord what word) unread = refl
unread_is_cut (CannotOpen name) unread = refl
unread_is_cut (CannotRead name) unread = refl
unread_is_cut OutOfMemory unread = refl
