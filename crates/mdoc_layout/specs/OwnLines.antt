-- Lines of their own: requests, the title and headings.
use Rattle.std.specs.Prelude.{ℕ, ◌+◌, ◌/◌, ◌%◌, List, [], ◌∷◌, ◌++◌, Bool, true, false, not, ◌&&◌, ◌||◌, nat_lt, if◌then◌else◌, codes}
use Rattle.std.specs.Str.{bytes_eq}
use Prim.Native.Char.{code}
use Rattle.mdoc_layout.specs.declared.acts.Request.{Request}
use Rattle.mdoc_layout.specs.declared.acts.Request.TheVariants as requests
use Rattle.mdoc_layout.specs.declared.acts.Sized.{Sized}
use Rattle.mdoc_layout.specs.declared.acts.Sized.TheVariants as sizes
use Rattle.mdoc_layout.specs.declared.macros.Macro.{Macro}
use Rattle.mdoc_layout.specs.declared.macros.Macro.TheVariants as macros
use Rattle.mdoc_layout.specs.declared.page.At.{At}
use Rattle.mdoc_layout.specs.declared.page.At.TheVariants.{Start, Middle, Ended}
use Rattle.mdoc_layout.specs.declared.page.Page.{Page}
use Rattle.mdoc_layout.specs.Dates.{date}
use Rattle.mdoc_layout.specs.Laying.{Laid, laid, with_end, with_lay}
use Rattle.mdoc_layout.specs.Texts.{request_of, sized_of}

-- ---- numbers

abbrev pub digit : ℕ → ℕ
digit n = code "0" + n % 10

-- the digits of a number below ten thousand
abbrev pub digits : ℕ → List ℕ
digits n =
    if nat_lt n 10 then digit n ∷ [] else
    if nat_lt n 100 then digit (n / 10) ∷ digit n ∷ [] else
    if nat_lt n 1000 then digit (n / 100) ∷ digit (n / 10) ∷ digit n ∷ [] else
    digit (n / 1000) ∷ digit (n / 100) ∷ digit (n / 10) ∷ digit n ∷ []

-- ---- lines of their own

abbrev pub line_end_at : At → Bool → List ℕ
line_end_at Start tag = if tag then codes "\\&\n" else []
line_end_at Middle tag = codes "\n"
line_end_at Ended tag = codes "\n"

abbrev pub line_end : Page → List ℕ
line_end p = line_end_at p.lay.at p.lay.tag

abbrev pub fresh : Page → Page
fresh p =
    with_lay (record p.lay {
      at = Start;
      joined = false;
      quiet = p.lay.quiet && not p.lay.tag;
      tag = false;
    }) p

abbrev pub freshen : Page → Laid
freshen p = laid (fresh p) (line_end p)

-- a tag is whole: text stands after it where it is one line, and narrower than this
abbrev pub end_tag : ℕ → Page → Laid
end_tag width p = laid (fresh p) (line_end p ++ codes ".%i " ++ digits width ++ codes "n\n")

-- The same, where text goes on after it: a tag that is wider than this by more than one, or of several lines, has it a blank after
-- its last line.
abbrev pub end_hang : ℕ → Page → Laid
end_hang width p =
    laid (fresh p) (line_end p ++ codes ".br\n.nr %h \\n(.nu-" ++ digits width
    ++ codes "n-1n\n.if \\n(nl-\\n(%tu>1v .nr %h \\n(.nu+1n\n.sp -1\n"
    ++ codes ".if \\n(%h>0 .)T +\\n(%hu\n\\&\\c\n")

abbrev pub quiet : Page → Page
quiet p = with_lay (record p.lay { quiet = true }) p

-- space may come
abbrev pub loud : Page → Page
loud p = with_lay (record p.lay { quiet = false }) p

abbrev pub quiet_down : Page → Laid
quiet_down p = laid (quiet (fresh p)) (line_end p)

-- space as before a paragraph, once
abbrev pub put_space : Page → Laid
put_space p =
    laid (quiet (fresh p)) (line_end p ++ (if not (fresh p).lay.quiet then request_of requests.Space else []))

abbrev pub put_request : Request → Page → Laid
put_request request p = laid (fresh p) (line_end p ++ request_of request)

abbrev pub was_sized : Sized → Page → Page
was_sized sizes.Indent p = p
was_sized sizes.Inner p = p
was_sized sizes.Tag p = with_lay (record p.lay { tag = true }) p
was_sized sizes.Hanging p = quiet p
was_sized sized p = loud p

abbrev pub put_sized : Sized → ℕ → Page → Laid
put_sized sized n p =
    laid (was_sized sized (fresh p)) (line_end p ++ sized_of sized ++ digits n ++ codes "n\n")

abbrev pub put_hanging : ℕ → Page → Laid
put_hanging n p = with_end (request_of requests.Distance) (put_sized sizes.Hanging n p)

-- a tag begins, which hangs, and the place before it is kept
abbrev pub put_tag : ℕ → Page → Laid
put_tag n p = with_end (codes ".nr %t \\n(nl\n") (put_sized sizes.Tag n p)

abbrev pub put_numbered : ℕ → ℕ → Page → Laid
put_numbered n width p =
    laid (loud (fresh p)) (line_end p ++ codes ".PD 0\n.IP " ++ digits n ++ codes ". " ++ digits width
    ++ codes "n\n")

-- ---- the page's title

abbrev pub titled : Page → Page
titled p =
    record p { lay = record p.lay { at = Middle; joined = true }; place = record p.place { titled = true } }

abbrev pub put_title : Page → Laid
put_title p =
    laid (titled (fresh p))
    (line_end p ++ codes ".TH " ++ p.title ++ codes " " ++ p.chapter ++ codes " \"" ++ date p
    ++ codes "\" \"")

-- a string keeps what was read of a title
abbrev pub put_title_prefix : Page → Laid
put_title_prefix p = laid (fresh p) (line_end p ++ codes ".ds %T \"" ++ p.title ++ codes "\n")

abbrev pub names_system : Macro → Bool
names_system macros.System = true
names_system m = false

-- what stands for a system without a name, and in the title's line for one that came before it
abbrev pub other_system : Page → List ℕ
other_system p =
    if not (names_system p.call.line) then codes "\\*(%o" else
    if p.call.some then [] else codes "\\*()O"

-- a section of which the macro file has no manual
abbrev pub is_other : List ℕ → Bool
is_other [] = false
is_other (b ∷ []) = nat_lt b (code "1") || nat_lt (code "9") b
is_other (b ∷ c ∷ rest) = true

-- the manual, where that of its section has another name in pages of mdoc, or none
abbrev pub manual : Page → List ℕ
manual p =
    if bytes_eq p.chapter (codes "4") then codes " \"Device Drivers Manual\"" else
    if is_other p.chapter then codes " \"" ++ p.chapter ++ codes "\"" else []

-- the system stands on both sides of the footer; one that comes before the title is kept in a string
abbrev pub end_title : Page → Laid
end_title p =
    if not p.place.titled then laid (fresh p) (other_system p ++ line_end p) else
    laid (with_lay (record p.lay { at = Start; joined = false; quiet = true }) p)
    (other_system p ++ codes "\"" ++ manual p ++ codes "\n.ds )9 \\*()4\n.nr IN 5n\n.ad l\n")

-- ---- headings, and requests of the page itself

abbrev pub put_head : List ℕ → Page → Laid
put_head head p = laid (with_lay (record (fresh p).lay { at = Middle }) (fresh p)) (line_end p ++ head)

abbrev pub put_control : Page → Laid
put_control p = laid (fresh p) (line_end p ++ codes "." ++ p.word)

-- the string that keeps the page's name
abbrev pub put_naming : Page → Laid
put_naming p = laid (fresh p) (line_end p ++ codes ".ds %n \"" ++ p.word ++ codes "\n")
