-- An option is read in one way.
use Rattle.std.proofs.Common.{◌≡◌, ℕ, List, ◌∷◌, ◌++◌, ◌⊎◌, inl, inr, codes, get_or, refl, sym, ap, ◌∙◌, arith}
use Rattle.std.specs.Str.Parse.{digits_value}
use Rattle.tbl_command.specs.declared.arguments.Setting.{Setting}
use Rattle.tbl_command.specs.declared.arguments.Which.{Which}
use Rattle.tbl_command.specs.declared.arguments.Which.TheVariants.{Formats, Row, Line}
use Rattle.tbl_command.specs.declared.arguments.Wrong.{Wrong}
use Rattle.tbl_command.specs.declared.arguments.Wrong.TheVariants.{Unknown, BadValue, UnknownTable, NoTable}
use Rattle.tbl_command.specs.Arguments.{BeginsWith, IsBad, Means, prefix_of}

second : (v w : List ℕ) → v ≡ w → get_or v 1 0 ≡ get_or w 1 0
second v w is = ap (λ (bytes : List ℕ). get_or bytes 1 0) is

third : (v w : List ℕ) → v ≡ w → get_or v 2 0 ≡ get_or w 2 0
third v w is = ap (λ (bytes : List ℕ). get_or bytes 2 0) is

-- two options that are one word set the same, and the same stands after their prefixes
same_prefix : (a b : Which) (v w : List ℕ) → prefix_of a ++ v ≡ prefix_of b ++ w → (a ≡ b) × (v ≡ w)
same_prefix Formats Formats v w is = (refl, cc)
same_prefix Formats Row v w is = absurd (omega (arith, third (prefix_of Formats ++ v) (prefix_of Row ++ w) is))
same_prefix Formats Line v w is = absurd (omega (arith, second (prefix_of Formats ++ v) (prefix_of Line ++ w) is))
same_prefix Row Formats v w is = absurd (omega (arith, third (prefix_of Row ++ v) (prefix_of Formats ++ w) is))
same_prefix Row Row v w is = (refl, cc)
same_prefix Row Line v w is = absurd (omega (arith, second (prefix_of Row ++ v) (prefix_of Line ++ w) is))
same_prefix Line Formats v w is = absurd (omega (arith, second (prefix_of Line ++ v) (prefix_of Formats ++ w) is))
same_prefix Line Row v w is = absurd (omega (arith, second (prefix_of Line ++ v) (prefix_of Row ++ w) is))
same_prefix Line Line v w is = (refl, cc)

-- each prefix begins with `-L` or with `-l`
prefix_known : (which : Which) (digits : List ℕ) → BeginsWith (codes "-L") (prefix_of which ++ digits) ⊎ BeginsWith (codes "-l") (prefix_of which ++ digits)
prefix_known Formats digits = inl (116 ∷ digits, refl)
prefix_known Row digits = inl (114 ∷ digits, refl)
prefix_known Line digits = inr (digits, refl)

-- a word means one thing
pub Means-one : (a b : Setting) (word : List ℕ) → Means a word → Means b word → b ≡ a
Means-one a b word m n =
    let same = same_prefix b.which a.which n.digits m.digits (sym n.word_is ∙ m.word_is) in
    let P : Which → ℕ → Setting = λ which limit. record { which = which; limit = limit } in
    ap (λ (which : Which). P which b.limit) same.0 ∙ ap (P a.which) (n.number ∙ ap (digits_value 10) same.1 ∙ sym m.number)

-- a bad word means nothing
pub Bad-means : (wrong : Wrong) (setting : Setting) (word : List ℕ) → IsBad wrong word → Means setting word → ⊥
Bad-means Unknown setting word bad means =
    elim (prefix_known setting.which means.digits) [
      | inl begins ↦ bad.0 (begins.0, means.word_is ∙ begins.1)
      | inr begins ↦ bad.1 (begins.0, means.word_is ∙ begins.1)
    ]
Bad-means BadValue setting word bad means = bad.1 setting means
Bad-means UnknownTable setting word bad means = absurd bad
Bad-means NoTable setting word bad means = absurd bad

-- a word is bad in one way
pub Bad-one : (wrong other : Wrong) (word : List ℕ) → IsBad wrong word → IsBad other word → other ≡ wrong
Bad-one Unknown Unknown word a b = refl
Bad-one BadValue BadValue word a b = refl
Bad-one Unknown BadValue word a b = elim b.0 [ inl begins ↦ absurd (a.0 begins) | inr begins ↦ absurd (a.1 begins) ]
Bad-one BadValue Unknown word a b = elim a.0 [ inl begins ↦ absurd (b.0 begins) | inr begins ↦ absurd (b.1 begins) ]
Bad-one UnknownTable other word a b = absurd a
Bad-one NoTable other word a b = absurd a
Bad-one Unknown UnknownTable word a b = absurd b
Bad-one Unknown NoTable word a b = absurd b
Bad-one BadValue UnknownTable word a b = absurd b
Bad-one BadValue NoTable word a b = absurd b
