-- The requests that only set, one under each name. (CSTR 54, request reference and index.)
use Rattle.nr_settings.specs.Filling as filling
use Rattle.nr_settings.specs.Fonts as fonts
use Rattle.nr_settings.specs.Hyphenation as hyphenation
use Rattle.nr_settings.specs.Indents as indents
use Rattle.nr_settings.specs.Pages as pages
use Rattle.nr_settings.specs.Tabs as tabs
use Rattle.nr_settings.specs.declared.filling.Filling.{Filling}
use Rattle.nr_settings.specs.declared.fonts.Fonts.{Fonts}
use Rattle.nr_settings.specs.declared.hyphenation.Hyphenation.{Hyphenation}
use Rattle.nr_settings.specs.declared.indents.Indents.{Indents}
use Rattle.nr_settings.specs.declared.pages.Pages.{Pages}
use Rattle.nr_settings.specs.declared.tabs.Tabs.{Tabs}
use Rattle.nr_formatter.specs.declared.formatter.Formatter.{Formatter}
use Rattle.nr_formatter.specs.Access.{line, long, spacing}
use Rattle.nr_formatter.specs.Places.{present_place, to_read}

-- ---- filling, adjusting, centring (CSTR 54, section 4)

abbrev pub with_filling : Filling → Formatter → Formatter
with_filling x f = to_read (record f { settings = record f.settings { filling = x } })

-- `.ad c`, `.ce N`, `.fi`, `.na`, `.nf`
abbrev pub ad : Formatter → Formatter
ad f = with_filling (filling.ad (line f) f.settings.filling) f

abbrev pub ce : Formatter → Formatter
ce f = with_filling (filling.ce (line f) (spacing f) f.settings.filling) f

abbrev pub fi : Formatter → Formatter
fi f = with_filling (filling.fi f.settings.filling) f

abbrev pub na : Formatter → Formatter
na f = with_filling (filling.na f.settings.filling) f

abbrev pub nf : Formatter → Formatter
nf f = with_filling (filling.nf f.settings.filling) f

-- ---- fonts (CSTR 54, sections 2 and 10)

abbrev pub with_fonts : Fonts → Formatter → Formatter
with_fonts x f = to_read (record f { settings = record f.settings { fonts = x } })

-- `.ft f`, `.ul N`
abbrev pub ft : Formatter → Formatter
ft f = with_fonts (fonts.ft (line f) (long f) f.settings.fonts) f

abbrev pub ul : Formatter → Formatter
ul f = with_fonts (fonts.ul (line f) (spacing f) f.settings.fonts) f

-- ---- hyphenation (CSTR 54, section 13)

abbrev pub with_hyphenation : Hyphenation → Formatter → Formatter
with_hyphenation x f = to_read (record f { settings = record f.settings { hyphenation = x } })

-- `.hy N`, `.nh`
abbrev pub hy : Formatter → Formatter
hy f = with_hyphenation (hyphenation.hy (line f) (spacing f) f.settings.hyphenation) f

abbrev pub nh : Formatter → Formatter
nh f = with_hyphenation (hyphenation.nh f.settings.hyphenation) f

-- ---- lengths and indents (CSTR 54, section 6; the page offset: section 3; the title length: section 14)

abbrev pub with_indents : Indents → Formatter → Formatter
with_indents x f = to_read (record f { settings = record f.settings { indents = x } })

-- `.in ±N`, `.ll ±N`, `.lt ±N`, `.po ±N`, `.ti ±N`
abbrev pub in_ : Formatter → Formatter
in_ f = with_indents (indents.in_ (line f) (spacing f) f.settings.indents) f

abbrev pub ll : Formatter → Formatter
ll f = with_indents (indents.ll (line f) (spacing f) f.settings.indents) f

abbrev pub lt : Formatter → Formatter
lt f = with_indents (indents.lt (line f) (spacing f) f.settings.indents) f

abbrev pub po : Formatter → Formatter
po f = with_indents (indents.po (line f) (spacing f) f.settings.indents) f

abbrev pub ti : Formatter → Formatter
ti f = with_indents (indents.ti (line f) (spacing f) f.settings.indents) f

-- ---- tabs and leaders (CSTR 54, section 9)

abbrev pub with_tabs : Tabs → Formatter → Formatter
with_tabs x f = to_read (record f { settings = record f.settings { tabs = x } })

-- `.lc c`, `.ta Nt ..`, `.tc c`
abbrev pub lc : Formatter → Formatter
lc f = with_tabs (tabs.lc (line f) f.settings.tabs) f

abbrev pub ta : Formatter → Formatter
ta f = with_tabs (tabs.ta (line f) (spacing f) f.settings.tabs) f

abbrev pub tc : Formatter → Formatter
tc f = with_tabs (tabs.tc (line f) f.settings.tabs) f

-- ---- pages (CSTR 54, sections 3, 5 and 14)

abbrev pub with_pages : Pages → Formatter → Formatter
with_pages x f = to_read (record f { settings = record f.settings { pages = x } })

-- `.ns`, `.pc c`, `.pl ±N`, `.rs`, `.vs N`
abbrev pub ns : Formatter → Formatter
ns f = with_pages (pages.ns f.settings.pages) f

abbrev pub pc : Formatter → Formatter
pc f = with_pages (pages.pc (line f) f.settings.pages) f

abbrev pub pl : Formatter → Formatter
pl f = with_pages (pages.pl (line f) (present_place f) f.settings.pages) f

abbrev pub rs : Formatter → Formatter
rs f = with_pages (pages.rs f.settings.pages) f

abbrev pub vs : Formatter → Formatter
vs f = with_pages (pages.vs (line f) (present_place f) f.settings.pages) f
