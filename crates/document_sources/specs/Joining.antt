-- A text, and those that lines of it name.
use Prim.Native.Char.{code}
use Rattle.std.specs.Prelude.{◌≡◌, ℕ, suc, zero, ◌-◌, List, [], ◌∷◌, ◌++◌, length, drop, nat_le, Bool, true}
use Rattle.std.specs.Prelude.{false, not, ◌==◌, Option, None, Some, ⊤, if◌then◌else◌}
use Rattle.nr_units.specs.Source.{Anytime, Supply}
use Rattle.document_sources.specs.Names.{so_name}
use Rattle.document_sources.specs.declared.following.Phase.{Phase}
use Rattle.document_sources.specs.declared.following.Phase.TheVariants.{Reads, Ends, Gives}
use Rattle.document_sources.specs.declared.following.Standing.{Standing}

-- the texts of names: each ends with a newline or is empty
abbrev pub Texts : Type 0
Texts = List ℕ → Option (List ℕ)

-- ---- what is read of a name

-- so many bytes at most, or nothing
abbrev pub within : ℕ → Option (List ℕ) → List ℕ
within most None = []
within most (Some text) = if nat_le (length text) most then text else []

abbrev pub text_of : Texts → ℕ → List ℕ → List ℕ
text_of texts most name = within most (texts name)

-- this was read of it, where the texts are known
abbrev pub Takes : Option Texts → List ℕ → ℕ → List ℕ → Type 0
Takes None name most text = ⊤
Takes (Some texts) name most text = text ≡ text_of texts most name

-- ---- lines

-- what a line names that begins a line of the text
abbrev pub named : Bool → List ℕ → Option (List ℕ)
named true line = so_name line
named false line = None

-- what comes of a name that is followed, or of what comes after the line
abbrev pub or_after : Option (List ℕ) → List ℕ → List ℕ
or_after None after = after
or_after (Some text) after = text

-- A line ends: it goes out, or what comes of the text that it names stands in its place. `after` is what
-- comes of the rest where that is only passed by.
abbrev pub ended : (List ℕ → Option (List ℕ)) → Option (List ℕ) → List ℕ → List ℕ → List ℕ
ended follow None line after = line ++ after
ended follow (Some name) line after = or_after (follow name) after

-- a byte within a line
abbrev pub is_line_byte : ℕ → Bool
is_line_byte byte = not (byte == code "\n")

-- The lines of a text, of the first of which this was read. `follow` is what comes of a name and of the text
-- after its line. A line of `room` bytes or more names nothing.
abbrev pub lines : ℕ → (List ℕ → List ℕ → Option (List ℕ)) → Bool → List ℕ → List ℕ → List ℕ
lines room follow begins line [] = ended (λ name. follow name []) (named begins line) line []
lines room follow begins line (byte ∷ bytes) =
    if byte == code "\n"
    then ended (λ name. follow name bytes) (named begins (line ++ byte ∷ [])) (line ++ byte ∷ []) (lines room follow true [] bytes)
    else (if length (line ++ byte ∷ []) == room then (line ++ byte ∷ []) ++ lines room follow false [] bytes
    else lines room follow begins (line ++ byte ∷ []) bytes)

-- A TEXT AND THOSE THAT IT NAMES: so many lines more are followed, and of their texts so many bytes more are
-- read. A text stands in the place of the line that names it, and its own lines are followed too. Where there
-- is none, or it is too long, the line is left out; so it is where no more are followed.
abbrev pub joined : ℕ → Texts → ℕ → ℕ → Bool → List ℕ → List ℕ → List ℕ
joined room texts zero left = lines room (λ name rest. None)
joined room texts (suc files) left = lines room (λ name rest.
    Some (joined room texts files (left - length (text_of texts left name)) true [] (text_of texts left name ++ rest)))

-- what comes of a name and of the text after its line
abbrev pub follow : ℕ → Texts → ℕ → ℕ → List ℕ → List ℕ → Option (List ℕ)
follow room texts zero left name rest = None
follow room texts (suc files) left name rest =
    Some (joined room texts files (left - length (text_of texts left name)) true [] (text_of texts left name ++ rest))

-- ---- what is to come

-- of a line that is read, has ended or goes out, and of the text after it
abbrev pub to_come : Texts → ℕ → Standing → Phase → List ℕ → List ℕ → List ℕ
to_come texts room s Reads line rest = joined room texts s.files s.left s.begins line rest
to_come texts room s Ends line rest =
    ended (λ name. follow room texts s.files s.left name rest) (named s.begins line) line (joined room texts s.files s.left true [] rest)
to_come texts room s Gives line rest = drop s.at line ++ joined room texts s.files s.left s.begins [] rest

abbrev pub uncertain : List ℕ → Supply
uncertain bytes = record { bytes = bytes; faults = Anytime }

-- these bytes, and then those of a source. A call may always fail: the source may, and there may be no
-- memory.
abbrev pub coming : List ℕ → Option Supply → Option Supply
coming ahead None = None
coming ahead (Some q) = Some (uncertain (ahead ++ q.bytes))

-- what comes of these bytes, where the texts are known
abbrev pub joined_supply : Option Texts → Option Supply → ℕ → Standing → List ℕ → Option Supply
joined_supply None known room s line = None
joined_supply (Some texts) None room s line = None
joined_supply (Some texts) (Some q) room s line = Some (uncertain (to_come texts room s s.phase line q.bytes))

-- where nothing was read yet
abbrev pub text_begun : ℕ → ℕ → Standing
text_begun files left = record { phase = Reads; at = 0; begins = true; files = files; left = left }

-- THE TEXT OF A SOURCE, and of those that lines of it name: so many lines are followed, and of their texts so
-- many bytes are read
abbrev pub followed : Option Texts → Option Supply → ℕ → ℕ → ℕ → Option Supply
followed known source room files left = joined_supply known (coming [] source) room (text_begun files left) []

-- ---- steps

-- the next byte of a line was read: the line ends with it, it is as long as a line may be, or it goes on
abbrev pub after_byte : Bool → Bool → Standing → Standing
after_byte true full s = record s { phase = Ends }
after_byte false true s = record s { phase = Gives; at = 0; begins = false }
after_byte false false s = s

-- the line goes out, and another begins after it
abbrev pub going_out : Standing → Standing
going_out s = record s { phase = Gives; at = 0; begins = true }

-- a line begins
abbrev pub line_begun : Bool → Standing → Standing
line_begun begins s = record s { phase = Reads; at = 0; begins = begins }

-- A name was followed: these bytes come first now. Whatever comes after them, it comes to what the definition
-- says.
abbrev pub Follows : Option Texts → List ℕ → Standing → Standing → List ℕ → List ℕ → Type 0
Follows None name s t old new = ⊤
Follows (Some texts) name s t old new = (room : ℕ) → (rest : List ℕ)
    → or_after (follow room texts s.files s.left name (old ++ rest)) (joined room texts s.files s.left true [] (old ++ rest))
    ≡ to_come texts room t t.phase [] (new ++ rest)

-- what goes out of a line
abbrev pub line_at_hand : Phase → ℕ → List ℕ → List ℕ
line_at_hand Reads at line = []
line_at_hand Ends at line = []
line_at_hand Gives at line = drop at line

-- a byte that comes first was taken, or there was none
abbrev pub Pops : List ℕ → Option ℕ → List ℕ → Type 0
Pops old None new = (old ≡ []) × (new ≡ old)
Pops old (Some byte) new = old ≡ byte ∷ new
