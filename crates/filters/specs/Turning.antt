-- What comes of texts that a filter turns, one after the other.
use Rattle.std.specs.Prelude.{◌≡◌, ℕ, List, [], ◌∷◌, ◌++◌, length, Bool, true, false, IsTrue, ◌||◌, if◌then◌else◌, Option, None, Some, ⊤, ◌⊎◌, codes}
use Rattle.std.specs.Borrow.{Bor}
use Rattle.std.specs.Io.KnownBytes.{Appends, Keeps}
use Rattle.std.specs.Option.{option_map}
use Rattle.nr_units.specs.Failures.{SinkFailures, flush_counted_if, put_counted_if}
use Rattle.nr_units.specs.Sink.{AppendsPrefix}
use Rattle.filters.specs.Disk.{Opened}
use Rattle.filters.specs.declared.endings.Ending.{Ending}
use Rattle.filters.specs.declared.endings.Ending.TheVariants.{Done, Complained, TooLong, ReadFault, WriteFault}

-- What a filter makes of texts, as its definition has it.
pub record Filter : Type 0 where
  -- the text of bytes, under their coding
  pub text_of : List ℕ → List ℕ
  -- what goes out of a text, and of the first of one that is cut off
  pub whole : List ℕ → List ℕ
  pub begun : List ℕ → List ℕ
  -- after a whole text a newline may go out
  pub may_end_line : Bool
  -- whether it complains of a text, where that is known
  pub complains : List ℕ → Option Bool
  -- the name of a text that failed is reported
  pub is_naming : Bool

-- ---- one text

-- these are all of a text, where it is known
abbrev pub IsAll : Option (List ℕ) → List ℕ → Type 0
IsAll None all = ⊤
IsAll (Some text) all = all ≡ text

-- these are the first of it
abbrev pub Begins : Option (List ℕ) → List ℕ → Type 0
Begins None first = ⊤
Begins (Some text) first = (rest : List ℕ) × (text ≡ first ++ rest)

-- the text of the bytes that are left, where they are known
abbrev pub text_left : Filter → Option (List ℕ) → Option (List ℕ)
text_left f left = option_map f.text_of left

-- a newline, where one may go out, or nothing
abbrev pub MayEnd : Bool → List ℕ → Type 0
MayEnd false end = end ≡ []
MayEnd true end = (end ≡ []) ⊎ (end ≡ codes "\n")

-- it is this, where that is known
abbrev pub Agrees : Option Bool → Bool → Type 0
Agrees None is = ⊤
Agrees (Some known) is = is ≡ known

-- all of a text came, and what it comes to went out; it was complained of, or not
pub record WentOut (f : Filter) (left held new : Option (List ℕ)) (complained : Bool) : Type 0 where
  pub text : List ℕ
  pub all : IsAll (text_left f left) text
  pub end : List ℕ
  pub may_end : MayEnd f.may_end_line end
  pub went_out : Appends held new (f.whole text ++ end)
  pub complains : Agrees (f.complains text) complained

-- so many bytes of the text came, and what they come to went out but for what is half read
pub record WasCut (f : Filter) (left held new : Option (List ℕ)) (at : ℕ) : Type 0 where
  pub text : List ℕ
  pub first : Begins (text_left f left) text
  pub count : length text ≡ at
  pub went_out : Appends held new (f.begun text)

-- some of the text came, and a prefix of what it comes to went out
pub record Broke (f : Filter) (left held new : Option (List ℕ)) : Type 0 where
  pub text : List ℕ
  pub first : Begins (text_left f left) text
  pub end : List ℕ
  pub may_end : MayEnd f.may_end_line end
  pub went_out : AppendsPrefix held new (f.whole text ++ end) ⊎ AppendsPrefix held new (f.begun text)

-- the name of the text is reported, or none
abbrev pub IsReported : Bool → List ℕ → Option (Bor (List ℕ)) → Type 0
IsReported true name None = ⊥
IsReported true name (Some reported) = reported.now ≡ name
IsReported false name reported = reported ≡ None

-- a text came to this ending
abbrev pub Turned : Filter → Opened → Option (List ℕ) → Option (List ℕ) → Ending → Type 0
Turned f text held new Done = WentOut f text.left held new false
Turned f text held new Complained = WentOut f text.left held new true
Turned f text held new (TooLong name) =
    IsReported f.is_naming text.name name × WasCut f text.left held new 1099511627776
Turned f text held new (ReadFault name at) =
    IsReported f.is_naming text.name name × WasCut f text.left held new at
Turned f text held new WriteFault = Broke f text.left held new
Turned f text held new ending = ⊥

abbrev pub is_write_fault : Ending → Bool
is_write_fault WriteFault = true
is_write_fault ending = false

-- ---- many

-- these went out whole, one after the other, and one was complained of, or none
abbrev pub AllWentOut : Filter → List Opened → Option (List ℕ) → Option (List ℕ) → Bool → Type 0
AllWentOut f [] held new complained = Keeps held new × (complained ≡ false)
AllWentOut f (text ∷ texts) held new complained =
    (between : Option (List ℕ)) × (first : Bool) × (others : Bool) × WentOut f text.left held between first
    × AllWentOut f texts between new others × (complained ≡ (first || others))

-- those before one went out whole, and that one came to a fault
pub record Stopped (f : Filter) (texts : List Opened) (held new : Option (List ℕ)) (ending : Ending) : Type 0 where
  pub before : List Opened
  pub text : Opened
  pub rest : List Opened
  pub texts_are : texts ≡ before ++ text ∷ rest
  pub between : Option (List ℕ)
  pub complained : Bool
  pub went_out : AllWentOut f before held between complained
  pub stops : Turned f text between new ending

-- all went out, or one came to a fault
abbrev pub AllTurned : Filter → List Opened → Option (List ℕ) → Option (List ℕ) → Ending → Type 0
AllTurned f texts held new Done = AllWentOut f texts held new false
AllTurned f texts held new Complained = AllWentOut f texts held new true
AllTurned f texts held new fault = Stopped f texts held new fault

-- Texts were turned, and the output was flushed: a write fault or not. Each failed call was counted.
pub record Ran (f : Filter) (texts : List Opened) (held new : Option (List ℕ)) (writes writes' : SinkFailures)
    (passed_on : Bool) (ending : Ending) : Type 0 where
  pub turned : Ending
  pub between : Option (List ℕ)
  pub all : AllTurned f texts held between turned
  pub flush_failed : Bool
  pub flushed : Keeps between new
  pub passed : flush_failed ≡ false → IsTrue passed_on
  pub ending_is : ending ≡ (if flush_failed then WriteFault else turned)
  pub failures : writes' ≡ flush_counted_if flush_failed (put_counted_if (is_write_fault turned) writes)
