-- What each request does, one under each name. (CSTR 54, request reference and index; groff manual, `.cp`.)
use Rattle.std.specs.Prelude.{Bool, true, false}
use Rattle.nr_store.specs.declared.request.Request.{Request}
use Rattle.nr_store.specs.declared.request.Request.TheVariants.{Ad, Af, Am, As, Bp, Br, C2, Cc, Ce, Ch, Cp, Da, De, Di, Ds, Dt, El, Em, Ex, Fi, Ft, Hw, Hy, Ie, If, Ig, In, It, Lc, Ll, Lt, Mk, Na, Ne, Nf, Nh, Nr, Ns, Pc, Pl, Pn, Po, Ps, Rm, Rn, Rr, Rs, Rt, Sp, Ta, Tc, Ti, Tl, Ul, Vs, Wh}
use Rattle.nr_formatter.specs.declared.formatter.Formatter.{Formatter}
use Rattle.nr_formatter.specs.Diversions as diversions
use Rattle.nr_formatter.specs.Ending as ending
use Rattle.nr_formatter.specs.Names as naming
use Rattle.nr_formatter.specs.Numbering as numbering
use Rattle.nr_formatter.specs.Registers as registers
use Rattle.nr_formatter.specs.Settings as settings
use Rattle.nr_formatter.specs.Spacing as spacing
use Rattle.nr_formatter.specs.Traps as trapping
use Rattle.nr_formatter.specs.Places.{to_read}

-- these break before they take effect
abbrev pub breaks : Request → Bool
breaks Bp = true
breaks Br = true
breaks Ce = true
breaks Fi = true
breaks In = true
breaks Nf = true
breaks Sp = true
breaks Ti = true
breaks r = false

-- What each does. `to_read` has the input read on and does no more: `.br` has broken, `.ps` is ignored, and the reader obeys
-- the rest where it reads their lines (nr_reading): `.as` and `.ds` in Strings, `.el`, `.ie` and `.if` in Conditionals, `.tl` in Titles.
abbrev pub act : Request → Formatter → Formatter
act Ad f = settings.ad f
act Af f = registers.af f
act Am f = naming.am f
act As f = to_read f
act Bp f = numbering.bp f
act Br f = to_read f
act C2 f = naming.c2 f
act Cc f = naming.cc f
act Ce f = settings.ce f
act Ch f = trapping.ch f
act Cp f = naming.cp f
act Da f = diversions.da f
act De f = naming.de f
act Di f = diversions.di f
act Ds f = to_read f
act Dt f = diversions.dt f
act El f = to_read f
act Em f = ending.em f
act Ex f = ending.ex f
act Fi f = settings.fi f
act Ft f = settings.ft f
act Hw f = naming.hw f
act Hy f = settings.hy f
act Ie f = to_read f
act If f = to_read f
act Ig f = naming.ig f
act In f = settings.in_ f
act It f = trapping.it f
act Lc f = settings.lc f
act Ll f = settings.ll f
act Lt f = settings.lt f
act Mk f = registers.mk f
act Na f = settings.na f
act Ne f = spacing.ne f
act Nf f = settings.nf f
act Nh f = settings.nh f
act Nr f = registers.nr f
act Ns f = settings.ns f
act Pc f = settings.pc f
act Pl f = settings.pl f
act Pn f = numbering.pn f
act Po f = settings.po f
act Ps f = to_read f
act Rm f = naming.rm f
act Rn f = naming.rn f
act Rr f = registers.rr f
act Rs f = settings.rs f
act Rt f = spacing.rt f
act Sp f = spacing.sp f
act Ta f = settings.ta f
act Tc f = settings.tc f
act Ti f = settings.ti f
act Tl f = to_read f
act Ul f = settings.ul f
act Vs f = settings.vs f
act Wh f = trapping.wh f
