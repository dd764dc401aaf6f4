-- The bytes of texts and requests.
use Rattle.std.specs.Prelude.{ℕ, List, [], ◌==◌, if◌then◌else◌, codes}
use Prim.Native.Char.{code}
use Rattle.mdoc_layout.specs.declared.macros.Font.{Font}
use Rattle.mdoc_layout.specs.declared.macros.Font.TheVariants.{Roman, Bold, Italic}
use Rattle.mdoc_layout.specs.declared.macros.Pair.{Pair}
use Rattle.mdoc_layout.specs.declared.macros.Pair.TheVariants as pairs
use Rattle.mdoc_layout.specs.declared.macros.System.{System}
use Rattle.mdoc_layout.specs.declared.macros.System.TheVariants as systems
use Rattle.mdoc_layout.specs.declared.acts.Text.{Text}
use Rattle.mdoc_layout.specs.declared.acts.Text.TheVariants as texts
use Rattle.mdoc_layout.specs.declared.acts.Request.{Request}
use Rattle.mdoc_layout.specs.declared.acts.Request.TheVariants as requests
use Rattle.mdoc_layout.specs.declared.acts.Sized.{Sized}
use Rattle.mdoc_layout.specs.declared.acts.Sized.TheVariants as sizes
use Rattle.mdoc_layout.specs.declared.page.Prefix.{Prefix}
use Rattle.mdoc_layout.specs.declared.page.Prefix.TheVariants as prefixes

-- what begins a font
abbrev pub font_begin : Font → List ℕ
font_begin Roman = []
font_begin Bold = codes "\\fB"
font_begin Italic = codes "\\fI"

-- what ends it
abbrev pub font_end : Font → List ℕ
font_end Roman = []
font_end Bold = codes "\\fR"
font_end Italic = codes "\\fR"

-- what opens an enclosure
abbrev pub opening : Pair → List ℕ
opening pairs.Brackets = codes "["
opening pairs.Angles = codes "\\(la"
opening pairs.Signs = codes "<"
opening pairs.Braces = codes "{"
opening pairs.Parentheses = codes "("
opening pairs.DoubleQuotes = codes "\\(lq"
opening pairs.SingleQuotes = codes "\\(oq"
opening pairs.PlainQuotes = codes "\""
opening pairs.Nothing = []

-- what closes it: the mark itself, or the letter of its escape
abbrev pub closer : Pair → ℕ
closer pairs.Brackets = code "]"
closer pairs.Angles = code "a"
closer pairs.Signs = code ">"
closer pairs.Braces = code "}"
closer pairs.Parentheses = code ")"
closer pairs.DoubleQuotes = code "r"
closer pairs.SingleQuotes = code "c"
closer pairs.PlainQuotes = code "\""
closer pairs.Nothing = code "\""

-- the bytes of that
abbrev pub closing : ℕ → List ℕ
closing b =
    if b == code "]" then codes "]" else
    if b == code ">" then codes ">" else
    if b == code "}" then codes "}" else
    if b == code ")" then codes ")" else
    if b == code "a" then codes "\\(ra" else
    if b == code "r" then codes "\\(rq" else
    if b == code "c" then codes "\\(cq" else
    codes "\""

-- the names of systems
abbrev pub system : System → List ℕ
system systems.BsdOs = codes "BSD/OS"
system systems.FreeBsd = codes "FreeBSD"
system systems.NetBsd = codes "NetBSD"
system systems.OpenBsd = codes "OpenBSD"
system systems.DragonFly = codes "DragonFly"
system systems.Unix = codes "UNIX"
system systems.Beta = codes "is currently in beta test."
system systems.Developed = codes "currently under development."

-- the bytes of a text
abbrev pub text_of : Text → List ℕ
text_of (texts.Opening pair) = opening pair
text_of (texts.Closing by) = closing by
text_of (texts.System of) = system of
text_of texts.Att = codes "AT&T UNIX"
text_of texts.Bsd = codes "BSD"
text_of texts.Dash = codes "\\fB\\-\\fR"
text_of texts.File = codes "\\fIfile\\fR"
text_of texts.Dots = codes "\\fI...\\fR"
text_of texts.Home = codes "\\fI~\\fR"
text_of texts.Apostrophe = codes "\\(aq"
text_of texts.Description = codes "\\(en"
text_of texts.Comma = codes ","
text_of texts.Colon = codes ":"
text_of texts.Link = codes "\\*(%L"
text_of texts.Period = codes "."
text_of texts.FunctionEnds = codes ");"
text_of texts.Empty = codes "\\&"
text_of texts.FixedSpace = codes "\\~"
text_of texts.Include = codes "#include"
text_of texts.The = codes "The"
text_of texts.Exits = codes "utility exits\\~0 on success, and\\~>0 if an error occurs."
text_of texts.AllExit = codes "utilities exit\\~0 on success, and\\~>0 if an error occurs."
text_of texts.Parentheses = codes "()"
text_of texts.Succeeds = codes "Upon successful completion, the value\\~0 is returned; otherwise the value\\~\\-1 is returned and the global variable \\fIerrno\\fR is set to indicate the error."
text_of texts.Returns = codes "function returns the value\\~0 if successful; otherwise the value\\~\\-1 is returned and the global variable \\fIerrno\\fR is set to indicate the error."
text_of texts.AllReturn = codes "functions return the value\\~0 if successful; otherwise the value\\~\\-1 is returned and the global variable \\fIerrno\\fR is set to indicate the error."

-- what was read of `.Dd`
abbrev pub prefix_of : Prefix → List ℕ
prefix_of prefixes.Dot = codes "."
prefix_of prefixes.Half = codes ".D"
prefix_of prefixes.Whole = codes ".Dd"
prefix_of prefix = []

-- The macro `.%i W` ends a tag: text stands after it where it is one line, by the place before it, and narrower than W. The first
-- comparison gives 1 or 0, and no tag is narrower than 0.
abbrev pub tag_macro : List ℕ
tag_macro =
    codes ".de %i\n.br\n.if \\\\n(nl-\\\\n(%t=1v*\\\\$1>\\\\n(.n \\\\{.sp -1\n\\\\&\\\\c\n.\\\\}\n..\n"

-- a request, as a line
abbrev pub request_of : Request → List ℕ
request_of requests.Break = codes ".br\n"
request_of requests.Space = codes ".sp\n"
request_of requests.NoDistance = codes ".PD 0\n"
request_of requests.Distance = codes ".PD\n"
request_of requests.Tabs = codes ".DT\n"
request_of requests.IndentEnds = codes ".RE\n"
request_of requests.Literal = codes ".nf\n.ta 8n 16n 24n 32n 40n 48n 56n 64n 72n 80n 88n 96n 104n 112n 120n 128n 136n 144n 152n 160n 168n 176n 184n 192n 200n 208n 216n 224n 232n 240n 248n 256n\n"
request_of requests.Unfilled = codes ".nf\n.DT\n"
request_of requests.Centered = codes ".nf\n.ce 9999\n"
request_of requests.LiteralEnds = codes ".fi\n.DT\n"
request_of requests.CenteredEnds = codes ".ce 0\n.fi\n"
request_of requests.Hangs = codes ".in +4n\n.)T -4n\n"
request_of requests.HangEnds = codes ".br\n.in -4n\n"
request_of requests.Link = codes ".ds %L \""
request_of requests.TagMacro = tag_macro
request_of (requests.Font Roman) = codes ".ft R\n"
request_of (requests.Font Bold) = codes ".ft B\n"
request_of (requests.Font Italic) = codes ".ft I\n"

-- what stands before the number of a request
abbrev pub sized_of : Sized → List ℕ
sized_of sizes.Indent = codes ".RS "
sized_of sizes.Bullet = codes ".PD 0\n.IP \\fB\\(bu\\fP "
sized_of sizes.Dash = codes ".PD 0\n.IP \\fB\\-\\fP "
sized_of sizes.Inner = codes ".in +"
sized_of sizes.Tag = codes ".PD 0\n.HP "
sized_of sizes.Hanging = codes ".PD 0\n.HP "
