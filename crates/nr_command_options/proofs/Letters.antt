-- From the letter and the value of an option to its meaning.
use Rattle.std.proofs.Common.{◌≡◌, ◌≢◌, ℕ, ◌<◌, true, List, [], ◌∷◌, Option, None, Some, IsTrue, ℤ, sym, ap, subst, ◌∙◌, arith}
use Rattle.std.proofs.lemmas.Bool.Decides.{nat_tests}
use Rattle.std.specs.Option.{ok_or}
use Rattle.nr_command_options.specs.declared.usage.Case.TheVariants.{Unknown, BadValue}
use Rattle.nr_command_options.specs.declared.settings.Setting.{Setting}
use Rattle.nr_command_options.specs.Settings.{Meaning, SetRegister, hyphen, letter_of, IsValue, Means, WritesInteger, known_letters, left_out_letters, is_among, IsIllFormed}
use Rattle.nr_command_options.specs.Arguments.{is_option}
use Rattle.nr_command_options.specs.Job.{HasValue, Reads, ReadsOption}

-- the letters are ASCII bytes
pub known_below : (letter : ℕ) → IsTrue (is_among known_letters letter) → letter < 128
known_below letter among = grind (arith, nat_tests)

pub left_out_below : (letter : ℕ) → IsTrue (is_among left_out_letters letter) → letter < 128
left_out_below letter among = grind (arith, nat_tests)

-- an option begins with `-` and has a byte after it
pub option_parts : (word : List ℕ) → is_option word ≡ true → (letter : ℕ) × (value : List ℕ) × (word ≡ hyphen ∷ letter ∷ value)
option_parts [] is = cc
option_parts (byte ∷ []) is = cc
option_parts (byte ∷ next ∷ rest) is = let same : byte ≡ hyphen = grind (arith, nat_tests) in (next, rest, ap (λ (b : ℕ). b ∷ next ∷ rest) same)

-- a word whose letter is no ASCII byte is unknown
pub unknown_beyond : (word : List ℕ) → is_option word ≡ true
    → ((letter : ℕ) (value : List ℕ) → letter < 128 → word ≢ hyphen ∷ letter ∷ value) → IsIllFormed Unknown word
unknown_beyond word is none =
    let parts = option_parts word is in (
      parts.0,
      parts.1,
      parts.2,
      λ among. none parts.0 parts.1 (left_out_below parts.0 among) parts.2,
      λ among. none parts.0 parts.1 (known_below parts.0 among) parts.2,
    )

-- what a word means has its letter and its value
pub HasValue-of_word : (meaning : Meaning) (word : List ℕ) (letter : ℕ) (value : List ℕ) → word ≡ hyphen ∷ letter ∷ value → Means meaning word
    → HasValue letter value meaning
HasValue-of_word meaning word letter value is (afterwards, after_is, value_is) =
    let same : afterwards ≡ value = cc in
    let letters : letter_of meaning ≡ letter = cc in
    record { letter_is = letters; value_is = subst (λ (v : List ℕ). IsValue meaning v) same value_is }

-- from a value that was read to an option
pub ReadsOption-of_value : (r : Option Setting) (word : List ℕ) (letter : ℕ) (value : List ℕ) → word ≡ hyphen ∷ letter ∷ value
    → IsTrue (is_among known_letters letter) → Reads letter value r → ReadsOption word (ok_or r BadValue)
ReadsOption-of_value None word letter value is known none =
    (letter, value, is, known, λ meaning means. none meaning (HasValue-of_word meaning word letter value is means))
ReadsOption-of_value (Some setting) word letter value is known (can, has, only) = (
  can,
  record {
    means = (value, is ∙ ap (λ (l : ℕ). hyphen ∷ l ∷ value) (sym has.letter_is), has.value_is);
    only = λ other means. only other (HasValue-of_word other word letter value is means);
  },
)

-- what `-r` may mean
pub register_value : (value : List ℕ) (other : Meaning) → HasValue 114 value other
    → (name : ℕ) × (n : ℤ) × (number : List ℕ) × (value ≡ name ∷ number) × WritesInteger n number
register_value value (SetRegister name n) has = (name, n, has.value_is.0, has.value_is.1, has.value_is.4)
register_value value other has = absurd (omega (arith, has.letter_is))
