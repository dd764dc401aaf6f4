-- The letters of options. (groff's nroff(1) and groff(1), options; CSTR 54, usage.)
use Prim.Native.Char.{code}
use Rattle.std.specs.Prelude.{ℕ, List, Bool, ◌==◌, ◌||◌, if◌then◌else◌, codes}
use Rattle.std.specs.List.{list_any}
use Rattle.program_options.specs.declared.plain.Change.TheVariants as changes
use Rattle.program_options.specs.declared.plain.Faces.TheVariants as faces
use Rattle.program_options.specs.declared.plain.Says.TheVariants as says
use Rattle.program_options.specs.declared.names.Letter.{Letter}
use Rattle.program_options.specs.declared.names.Letter.TheVariants.{Asks, Sets, Passed, LeftOut, Unknown}
use Rattle.program_options.specs.declared.names.Valued.TheVariants as valued

abbrev pub is_among : List ℕ → ℕ → Bool
is_among letters letter = list_any (λ known. known == letter) letters

-- letters that this program takes: those that ask for a value, and those that set something by themselves
abbrev pub taken : ℕ → Letter
taken c =
    if c == code "m" then Asks valued.Macros else
    if c == code "M" then Asks valued.Folder else
    if c == code "r" then Asks valued.Register else
    if c == code "d" then Asks valued.Text else
    if c == code "T" then Asks valued.Device else
    if c == code "K" then Asks valued.Coding else
    if c == code "n" then Asks valued.First else
    if c == code "o" then Asks valued.Pages else
    if c == code "w" then Asks valued.Width else
    if c == code "L" then Asks valued.Limit else
    if c == code "P" then Asks valued.Output else
    if c == code "b" then Sets changes.Bold else
    if c == code "c" then Sets (changes.Faces faces.Off) else
    if c == code "v" then Sets (changes.Says says.Version) else
    if c == code "p" then Sets changes.Paged else
    if c == code "z" || c == code "Z" then Sets changes.Checks else
    if c == code "i" then Sets changes.Input else
    Unknown

-- what a letter stands for: those first that change nothing on a terminal, and those that are not here
abbrev pub letter_of : ℕ → Letter
letter_of c =
    if is_among (codes "CEGJNRSUeghjkqstu") c then Passed else
    if is_among (codes "DFIWf") c then Asks valued.Passed else
    if is_among (codes "VXal") c then LeftOut else
    taken c
