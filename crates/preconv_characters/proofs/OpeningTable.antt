-- The names that begin with a byte stand side by side in their table.
use Rattle.std.proofs.Common.{◌≡◌, ℕ, ◌<◌, List, [], ◌∷◌, length, map, get_or, Option, None, refl, sym, ◌∙◌, ap, arith}
use Rattle.std.specs.List.{range_with_len}
use Rattle.std.proofs.lemmas.List.FromFn.{get_or-map-range_with_len}
use Rattle.preconv_characters.specs.declared.beginnings.Opens.{Opens}
use Rattle.preconv_characters.specs.declared.beginnings.TheConstants.{OPENING}
use Rattle.preconv_characters.specs.Beginnings.{entry, group}
use Rattle.preconv_characters.specs.Glyphs.{looked_up}

in_table : ℕ → ℕ → Option Opens
in_table b x = looked_up OPENING b x

in_group : ℕ → ℕ → Option Opens
in_group b x = looked_up (group b) b x

none : ℕ → Option Opens
none x = None

all_groups : map in_table (range_with_len 0 256) ≡ map in_group (range_with_len 0 256)
unfolding in_table in_group
all_groups = refl

pub group_entry : (b : ℕ) → b < 256 → (x : ℕ) → looked_up OPENING b x ≡ looked_up (group b) b x
unfolding in_table in_group
group_entry b below x =
    ap (λ (f : ℕ → Option Opens). f x)
    (sym (get_or-map-range_with_len in_table 0 256 b b none below (omega arith))
    ∙ ap (λ (fs : List (ℕ → Option Opens)). get_or fs b none) all_groups
    ∙ get_or-map-range_with_len in_group 0 256 b b none below (omega arith))

-- a name is found among those with its first byte
pub entry_in_group : (name : List ℕ) → ((x : ℕ) → looked_up OPENING (get_or name 0 0) x ≡ looked_up (group (get_or name 0 0)) (get_or name 0 0) x)
    → entry OPENING name ≡ entry (group (get_or name 0 0)) name
entry_in_group [] all = refl
entry_in_group (a ∷ []) all = all 32
entry_in_group (a ∷ b ∷ []) all = all b
entry_in_group (a ∷ b ∷ c ∷ rest) all = refl

pub empty_entry : (name : List ℕ) → length name ≡ 0 → None ≡ entry OPENING name
empty_entry [] e = refl
empty_entry (a ∷ rest) e = absurd (omega arith)
