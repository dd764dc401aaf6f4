-- The request whose line was read, taken effect at once: it is heard, its break does nothing, it only sets or makes space, and it is
-- not refused.
use Rattle.std.specs.Prelude.{ℕ, ◌+◌, Bool, true, false, not, ◌&&◌, ◌||◌, if◌then◌else◌, is_none, is_ok}
use Rattle.nr_fill.specs.Piece.{begins_line}
use Rattle.nr_store.specs.declared.request.Request.{Request}
use Rattle.nr_store.specs.declared.request.Request.TheVariants.{Ad, Br, Ce, Fi, Ft, Hy, In, It, Lc, Ll, Lt, Na, Ne, Nf, Nh, Nr, Ns, Pc, Pl, Po, Rs, Sp, Ta, Tc, Ti, Ul, Vs}
use Rattle.nr_formatter.specs.Access.{collected}
use Rattle.nr_formatter.specs.Lines.{break_done}
use Rattle.nr_formatter.specs.Moves.{heard_for}
use Rattle.nr_formatter.specs.Pages.{begins_first_page}
use Rattle.nr_formatter.specs.Places.{outlet, to_read}
use Rattle.nr_formatter.specs.Registers.{nr_checked}
use Rattle.nr_formatter.specs.Requests.{act, breaks}
use Rattle.nr_formatter.specs.Spacing.{has_room, is_spaceless, spaced}
use Rattle.nr_formatter.specs.declared.formatter.Formatter.{Formatter}
use Rattle.nr_formatter.specs.declared.tasks.Task.{Task}
use Rattle.nr_formatter.specs.declared.tasks.Task.TheVariants as tasks
use Rattle.nr_formatter.specs.declared.tasks.Then.TheVariants as thens

-- these set, or have the input read on, and do nothing else
abbrev pub only_sets : Request → Bool
only_sets Ad = true
only_sets Br = true
only_sets Ce = true
only_sets Fi = true
only_sets Ft = true
only_sets Hy = true
only_sets In = true
only_sets It = true
only_sets Lc = true
only_sets Ll = true
only_sets Lt = true
only_sets Na = true
only_sets Nf = true
only_sets Nh = true
only_sets Ns = true
only_sets Pc = true
only_sets Pl = true
only_sets Po = true
only_sets Rs = true
only_sets Ta = true
only_sets Tc = true
only_sets Ti = true
only_sets Ul = true
only_sets Vs = true
only_sets r = false

-- these go down or up the page, and do nothing else
abbrev pub is_spacing : Request → Bool
is_spacing Ne = true
is_spacing Sp = true
is_spacing r = false

abbrev pub sets_or_spaces : Request → Bool
sets_or_spaces r = only_sets r || is_spacing r

-- this sets too, and may be refused
abbrev pub is_nr : Request → Bool
is_nr Nr = true
is_nr r = false

-- whether all that the request does is to set, and it is not refused: `.nr` is where its register would be above the limit
abbrev pub may_set : Request → Formatter → Bool
may_set r f = only_sets r || (is_nr r && is_ok (nr_checked f))

-- whether all that the request does is to set or to make space, and it is not refused
abbrev pub may_act : Request → Formatter → Bool
may_act r f = may_set r f || is_spacing r

-- the request breaks before it takes effect
abbrev pub breaks_first : Formatter → Bool
breaks_first f = breaks f.reader.request && not f.reader.half.reading.no_break

-- its break does nothing: nothing is collected, and no page begins
abbrev pub breaks_idly : Formatter → Bool
breaks_idly f = begins_line (collected f) && not (begins_first_page (thens.Act f.reader.request) f)

-- its line was heard, and the break is done if it has one
abbrev pub after_break : Formatter → Formatter
after_break f =
    if breaks_first f
    then break_done (thens.Act f.reader.request) (heard_for (tasks.Break (thens.Act f.reader.request)) f)
    else heard_for (tasks.Act f.reader.request) f

-- and it took effect; space that it asks for is still to be made
abbrev pub acted : Formatter → Formatter
acted f = act f.reader.request (after_break f)

-- space is to be made, and there is none or the open page has room
abbrev pub may_space : Task → Formatter → Bool
may_space (tasks.Space n) f = is_spaceless n f || has_room (outlet f)
may_space t f = false

abbrev pub space_made : Task → Formatter → Formatter
space_made (tasks.Space n) f = if is_spaceless n f then to_read f else spaced n f
space_made t f = f

-- after such space; any other is not made yet
abbrev pub after_space : Formatter → Formatter
after_space f = if may_space f.task f then space_made f.task f else f

-- how many moves that is
abbrev pub moves_spacing : Formatter → ℕ
moves_spacing f = if may_space f.task f then 1 else 0

-- no macro springs, and all that the request does is to set or to make space
abbrev pub may_obey : Formatter → Bool
may_obey f =
    is_none f.springs
    && (may_act f.reader.request (after_break f) && (not (breaks_first f) || breaks_idly f))

-- after such a request; any other is not obeyed yet
abbrev pub obeyed : Formatter → Formatter
obeyed f = if may_obey f then after_space (acted f) else f

-- how many moves that is
abbrev pub moves_obeying : Formatter → ℕ
moves_obeying f = if may_obey f then (if breaks_first f then 3 else 2) + moves_spacing (acted f) else 0
