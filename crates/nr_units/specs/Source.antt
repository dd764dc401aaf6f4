-- What a source is about to give, and when it fails.
use Rattle.std.specs.Prelude.{◌≡◌, ℕ, ◌-◌, ◌<◌, ◌≤◌, List, [], ◌∷◌, ◌++◌, length, take, drop, Bool, true, false, Option, None, Some, Result, Ok, Err, ⊤}
use Rattle.std.specs.Option.{option_map}

-- when a source answers an error: at no call, at each call once n more bytes were given and at no call before, or at any call
pub data Faults : Type 0 where
  Never : Faults
  After : ℕ → Faults
  Anytime : Faults

-- the bytes that are to come before the end, and when the source fails
pub record Supply : Type 0 where
  pub bytes : List ℕ
  pub faults : Faults

-- a call may answer an error
abbrev pub MayFail : Faults → Type 0
MayFail Never = ⊥
MayFail (After n) = n ≡ 0
MayFail Anytime = Unit {0}

-- a call may answer no error
abbrev pub MayGive : Faults → Type 0
MayGive Never = Unit {0}
MayGive (After n) = 0 < n
MayGive Anytime = Unit {0}

-- once one more byte was given
abbrev pub one_later : Faults → Faults
one_later Never = Never
one_later (After n) = After (n - 1)
one_later Anytime = Anytime

-- A call answered r, with q to come before it and t after it. An error takes no byte.
abbrev pub Gave : {E : Type 0} → Supply → Result (Option ℕ) E → Supply → Type 0
Gave q (Ok (Some b)) t = (q.bytes ≡ b ∷ t.bytes) × (t.faults ≡ one_later q.faults) × MayGive q.faults
Gave q (Ok None) t = (q.bytes ≡ []) × (t ≡ q) × MayGive q.faults
Gave q (Err e) t = (t ≡ q) × MayFail q.faults

-- the same where what is to come is known, and nothing where it is not
abbrev pub Gives : {E : Type 0} → Option Supply → Result (Option ℕ) E → Option Supply → Type 0
Gives None r new = ⊤
Gives (Some q) r None = ⊥
Gives (Some q) r (Some t) = Gave q r t

-- what a reader is about to give that has these bytes left and may fail at any call
abbrev pub reader_supply : Option (List ℕ) → Option Supply
reader_supply known = option_map (λ bytes. record { bytes = bytes; faults = Anytime }) known

-- the bytes that were read already and then those of the reader, or nothing more once its end was seen
abbrev pub buffered_supply : List ℕ → Bool → Option (List ℕ) → Option Supply
buffered_supply kept true known = Some (record { bytes = kept; faults = Anytime })
buffered_supply kept false known =
    option_map (λ rest. record { bytes = kept ++ rest; faults = Anytime }) known

-- ---- many bytes at once

-- none of the next n calls fails
abbrev pub MayGiveAll : ℕ → Faults → Type 0
MayGiveAll n Never = Unit {0}
MayGiveAll n (After m) = n ≤ m
MayGiveAll n Anytime = Unit {0}

-- once n more bytes were given
abbrev pub later : ℕ → Faults → Faults
later n Never = Never
later n (After m) = After (m - n)
later n Anytime = Anytime

-- these bytes come next, and no call fails before them
abbrev pub Offers : Option Supply → List ℕ → Type 0
Offers None bs = ⊤
Offers (Some q) bs = (take (length bs) q.bytes ≡ bs) × MayGiveAll (length bs) q.faults

-- what is to come after the next n bytes
abbrev pub skipped : ℕ → Supply → Supply
skipped n q = record { bytes = drop n q.bytes; faults = later n q.faults }

abbrev pub Skips : Option Supply → ℕ → Option Supply → Type 0
Skips None n new = ⊤
Skips (Some q) n new = new ≡ Some (skipped n q)

-- the bytes at hand of a list that fails once so many were given
abbrev pub at_hand_of : List ℕ → Option ℕ → List ℕ
at_hand_of bs None = bs
at_hand_of bs (Some left) = take left bs
