-- What macros mean that take words (mdoc(7), MACRO OVERVIEW), a line for each: whether a word of another macro's line
-- calls it, how it takes words (`taken_as`), and what is said once it takes no more (`said_for`).
use Rattle.std.specs.Prelude.{Bool, true, false, not, ◌&&◌}
use Rattle.mdoc_layout.specs.declared.acts.Act.TheVariants as acts
use Rattle.mdoc_layout.specs.declared.acts.Text.TheVariants as texts
use Rattle.mdoc_layout.specs.declared.macros.Font.{Font}
use Rattle.mdoc_layout.specs.declared.macros.Font.TheVariants.{Roman, Bold, Italic}
use Rattle.mdoc_layout.specs.declared.macros.Macro.{Macro}
use Rattle.mdoc_layout.specs.declared.macros.Macro.TheVariants as macros
use Rattle.mdoc_layout.specs.declared.macros.Pair.{Pair}
use Rattle.mdoc_layout.specs.declared.macros.Pair.TheVariants as pairs
use Rattle.mdoc_layout.specs.declared.macros.System.{System}
use Rattle.mdoc_layout.specs.declared.macros.System.TheVariants as systems
use Rattle.mdoc_layout.specs.declared.page.Page.{Page}
use Rattle.mdoc_words.specs.declared.meanings.Called.{Called}
use Rattle.mdoc_words.specs.declared.meanings.Called.TheVariants.{Never, ByWord, Anew}
use Rattle.mdoc_words.specs.declared.meanings.Meaning.{Meaning}
use Rattle.mdoc_words.specs.declared.meanings.Pending.{Pending}
use Rattle.mdoc_words.specs.declared.meanings.Pending.TheVariants.{Nothing, Stands, Joined, Both, OwnName, Opening}
use Rattle.mdoc_words.specs.declared.meanings.Pending.TheVariants.{FunctionEnds, LinkEnds}
use Rattle.mdoc_words.specs.declared.meanings.Takes.{Takes}
use Rattle.mdoc_words.specs.declared.meanings.Takes.TheVariants.{Each, One, Name, Parameters, Reference, Author}
use Rattle.mdoc_words.specs.declared.meanings.Takes.TheVariants.{Link, Function, FunctionOpens, Include, Version}
use Rattle.mdoc_words.specs.declared.meanings.Takes.TheVariants.{Release, Prefix}
use Rattle.mdoc_words.specs.Macros.{part_font}
use Rattle.mdoc_words.specs.Rules.{author, function, function_closes, function_opens, include, link, link_closes}
use Rattle.mdoc_words.specs.Rules.{named, own_name, parameter, prefix, reference, release, takes_no_more, version}
use Rattle.mdoc_layout.specs.Seeing.{Offered, offered, left, two}

abbrev pub means : Called → Takes → Pending → Meaning
means called takes pending = record { called = called; takes = takes; pending = pending }

-- each word is in a font
abbrev pub each_in : Font → Takes
each_in font = Each (acts.Word font)

-- sentences are called by no word
abbrev pub called_name : System → Called
called_name systems.Beta = Never
called_name systems.Developed = Never
called_name system = ByWord

-- Never: no word calls it. ByWord: a word does. Anew: a word does, and after closing marks it begins anew.
abbrev pub meaning_of : Macro → Meaning
meaning_of (macros.Words font) = means ByWord (each_in font) Nothing  -- Cm, Em, Ic, Li, No, Sy and others
meaning_of macros.Flag = means Anew (Each acts.Flag) (Joined texts.Dash)  -- Fl
meaning_of macros.Argument = means Anew (each_in Italic) (Both texts.File texts.Dots)  -- Ar
meaning_of macros.Path = means Anew (each_in Italic) (Stands texts.Home)  -- Pa
meaning_of macros.Mail = means Anew (each_in Italic) (Stands texts.Home)  -- Mt
meaning_of macros.Name = means Anew Name OwnName  -- Nm
meaning_of macros.Reference = means ByWord Reference Nothing  -- Xr
meaning_of macros.Author = means ByWord Author Nothing  -- An
meaning_of macros.Link = means ByWord Link LinkEnds  -- Lk
meaning_of macros.SectionName = means ByWord (each_in Italic) Nothing  -- Sx
meaning_of macros.ResultType = means ByWord (each_in Italic) Nothing  -- Ft
meaning_of macros.Variable = means ByWord (each_in Italic) Nothing  -- Vt
meaning_of macros.Configuration = means ByWord (each_in Bold) Nothing  -- Cd
meaning_of macros.Declaration = means Never (each_in Bold) Nothing  -- Fd
meaning_of macros.Parameter = means ByWord Parameters Nothing  -- Fa
meaning_of macros.Function = means ByWord Function FunctionEnds  -- Fn
meaning_of macros.FunctionOpens = means ByWord FunctionOpens Nothing  -- Fo
meaning_of macros.FunctionCloses = means ByWord (each_in Roman) Nothing  -- Fc
meaning_of macros.Include = means ByWord Include Nothing  -- In
meaning_of (macros.Encloses pair) = means ByWord (each_in Roman) (Opening pair)  -- Op, Dq, Aq and others
meaning_of (macros.Opens pair) = means ByWord (each_in Roman) (Opening pair)  -- Oo, Do, Ao and others
meaning_of (macros.Closes pair) = means ByWord (each_in Roman) Nothing  -- Oc, Dc, Ac and others
meaning_of macros.OwnOpens = means ByWord Prefix Nothing  -- Eo
meaning_of macros.OwnCloses = means ByWord (One (acts.Joined Roman)) Nothing  -- Ec
meaning_of macros.Prefix = means ByWord Prefix Nothing  -- Pf
meaning_of macros.Joins = means ByWord (each_in Roman) Nothing  -- Ns
meaning_of macros.Apostrophe = means ByWord (each_in Roman) Nothing  -- Ap
meaning_of macros.Cell = means ByWord (each_in Roman) Nothing  -- Ta
meaning_of (macros.Stands system) = means (called_name system) (Version system) (Stands (texts.System system))  -- Fx and others
meaning_of macros.Att = means ByWord (One acts.Att) (Stands texts.Att)  -- At
meaning_of macros.Bsd = means ByWord Release (Stands texts.Bsd)  -- Bx
meaning_of macros.BsdRelease = means Never (One acts.Release) Nothing  -- the second word of Bx
meaning_of macros.Standard = means ByWord (One acts.Standard) Nothing  -- St
meaning_of macros.Library = means Never (One acts.Library) Nothing  -- Lb
meaning_of (macros.Part letter) = means Never (each_in (part_font letter)) Nothing  -- %A to %V
meaning_of m = means Never (each_in Roman) Nothing

-- ---- whether a word calls it

abbrev pub is_called : Called → Bool
is_called Never = false
is_called called = true

-- a word of a line that another macro began calls it
abbrev pub is_callable : Macro → Bool
is_callable m = is_called (meaning_of m).called

abbrev pub is_anew : Called → Bool
is_anew Anew = true
is_anew called = false

-- a macro whose element a mark ends: after marks it begins another
abbrev pub begins_anew : Macro → Bool
begins_anew m = is_anew (meaning_of m).called

-- ---- whether something is said then

abbrev pub is_nothing : Pair → Bool
is_nothing pairs.Nothing = true
is_nothing pair = false

abbrev pub is_opening_of : Pending → Bool
is_opening_of (Opening pair) = not (is_nothing pair)
is_opening_of pending = false

-- an enclosure that has no words yet: what opens it stands after the opening marks that come first in it
abbrev pub is_opened_by : Macro → Bool
is_opened_by m = is_opening_of (meaning_of m).pending

-- by whether it took some word, and the page has a name
abbrev pub is_said : Pending → Bool → Bool → Bool
is_said (Stands text) some has_name = not some
is_said (Joined text) some has_name = not some
is_said (Both first second) some has_name = not some
is_said OwnName some has_name = not some && has_name
is_said FunctionEnds some has_name = some
is_said LinkEnds some has_name = some
is_said pending some has_name = is_opening_of pending && not some

abbrev pub is_pending_from : Macro → Bool → Bool → Bool
is_pending_from m some has_name = is_said (meaning_of m).pending some has_name

abbrev pub is_joined_text : Pending → Bool
is_joined_text (Joined text) = true
is_joined_text pending = false

-- what the next macro says joins it
abbrev pub joins_next : Macro → Bool
joins_next m = is_joined_text (meaning_of m).pending

-- ---- the rules

abbrev pub said_for : Pending → Page → Offered
said_for (Stands text) p = offered p (left (acts.Text text))
said_for (Joined text) p = offered p (left (acts.Text text))
said_for (Both first second) p = offered p (two (acts.Text first) (acts.Text second))
said_for OwnName p = own_name p
said_for FunctionEnds p = function_closes p
said_for LinkEnds p = offered p (link_closes p)
said_for (Opening pair) p = offered p (two (acts.Text (texts.Opening pair)) acts.Join)
said_for Nothing p = offered p (left acts.Nothing)

abbrev pub pending_from : Macro → Page → Offered
pending_from m p = said_for (meaning_of m).pending p

abbrev pub taken_as : Takes → Page → Offered
taken_as (Each act) p = offered p (left act)
taken_as (One act) p = offered (takes_no_more p) (left act)
taken_as Name p = named p
taken_as Parameters p = parameter p
taken_as Reference p = reference p
taken_as Author p = author p
taken_as Link p = link p
taken_as Function p = function p
taken_as FunctionOpens p = function_opens p
taken_as Include p = include p
taken_as (Version system) p = version system p
taken_as Release p = release p
taken_as Prefix p = prefix p

abbrev pub taken_by : Macro → Page → Offered
taken_by m p = taken_as (meaning_of m).takes p
