-- Whether a page has a table of characters of its own, which, and what that lacks.
use Rattle.std.specs.Prelude.{◌≡◌, ℕ, List, Bool, true, false, not, ◌&&◌, if◌then◌else◌, [], Option, None}
use Rattle.std.specs.Prelude.{Some}
use Rattle.preconv_characters.specs.Targets.{target_of}
use Rattle.preconv_characters.specs.declared.target.Target.TheVariants.{Utf8}
use Rattle.utf8_own_characters.specs.declared.counting.Count.{Count}
use Rattle.utf8_own_characters.specs.Ranking.{ranked}
use Rattle.utf8_own_page.specs.Lacking.{left_of, names_of, numbered}
use Rattle.utf8_own_page.specs.Looking as looking
use Rattle.utf8_own_page.specs.Needing as needing
use Rattle.utf8_own_page.specs.Needing.{lacks}
use Rattle.document_reader.specs.Page.{plain_of}
use Rattle.program_command.specs.declared.plan.Plan.{Plan}

-- how often each cluster beyond ASCII comes in what the stages make of the bytes that were looked at, and in
-- what frames are drawn with where tables are set: 4,352 clusters at most
abbrev pub counts_of : Plan → List ℕ → List Count
counts_of plan first = looking.counts_of 4352 plan.tables (plain_of plan.stages Utf8 first)

-- A page has a table of its own where UTF-8 is printed, and the fixed table lacks one of its characters.
abbrev pub may_need_own : Plan → List ℕ → Bool
may_need_own plan first = plan.spells && (not plan.checks && needing.may_need_own first)

abbrev pub needs_own : Plan → List ℕ → Bool
needs_own plan first = may_need_own plan first && lacks plan.characters (counts_of plan first)

-- what was counted, the most frequent first
abbrev pub ranked_of : Plan → List ℕ → List Count
ranked_of plan first = ranked (counts_of plan first)

-- a page has a table of these, or none
abbrev pub HasOwn : Plan → List ℕ → Option (List Count) → Type 0
HasOwn plan first None = needs_own plan first ≡ false
HasOwn plan first (Some counts) = (needs_own plan first ≡ true) × (counts ≡ ranked_of plan first)

-- ---- its characters that are not shown

-- a page that isn't printed in UTF-8 may have some that are shown by their numbers
abbrev pub may_have_numbers : Plan → List ℕ → Bool
may_have_numbers plan first = not plan.spells && (not plan.checks && needing.may_need_own first)

abbrev pub numbered_of : Plan → List ℕ → List ℕ
numbered_of plan first =
    if may_have_numbers plan first then names_of (numbered (target_of plan.characters) (ranked_of plan first)) else []

-- WHAT IS REPORTED of a page: the characters that its own table lacks, or those that a fixed one shows by
-- their numbers; nothing where there are none
abbrev pub unshown_of : Plan → List ℕ → List ℕ
unshown_of plan first = if needs_own plan first then names_of (left_of (ranked_of plan first)) else numbered_of plan first
