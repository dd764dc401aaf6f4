-- Filling, adjusting and centring (CSTR 54, filling, adjusting, and centering).
use Prim.Native.Char.{code}
use Rattle.std.specs.Prelude.{ℕ, ◌-◌, Bool, true, false, not, ◌&&◌, ◌||◌, List, ◌==◌, Option, Some, None, if◌then◌else◌}
use Rattle.nr_settings.specs.Arguments.{byte_in}
use Rattle.nr_settings.specs.Numbers.{counted_lines}
use Rattle.nr_settings.specs.declared.filling.Way.{Way}
use Rattle.nr_settings.specs.declared.filling.Way.TheVariants.{Left, Right, Centre, Both}
use Rattle.nr_settings.specs.declared.filling.Align.{Align}
use Rattle.nr_settings.specs.declared.filling.Align.TheVariants.{Left as AtLeft, Spread, Right as AtRight, Centre as AtCentre}
use Rattle.nr_settings.specs.declared.filling.Filling.{Filling}

-- `.fi`, `.nf`: lines are filled, or not
abbrev pub fi : Filling → Filling
fi s = record s { fill = true }

abbrev pub nf : Filling → Filling
nf s = record s { fill = false }

-- `.ad c`: l left, r right, c centre, b or n both; with another byte, or none, the way stays
abbrev pub way_of : Option ℕ → Way → Way
way_of None way = way
way_of (Some c) way =
    if c == code "l" then Left
    else if c == code "r" then Right
    else if c == code "c" then Centre
    else if c == code "b" || c == code "n" then Both
    else way

abbrev pub ad : List ℕ → Filling → Filling
ad line s = record s { adjust = true; way = way_of (byte_in line) s.way }

-- `.na`: no adjusting
abbrev pub na : Filling → Filling
na s = record s { adjust = false }

-- `.ce N`: the next N text lines are centred
abbrev pub ce : List ℕ → ℕ → Filling → Filling
ce line v s = record s { centred = counted_lines line v }

-- one text line is counted
abbrev pub after_centred_line : Filling → Filling
after_centred_line s = record s { centred = s.centred - 1 }

-- Lines are filled in fill mode, while none is to be centred.
abbrev pub is_filling : Filling → Bool
is_filling s = s.fill && s.centred == 0

-- how a line is set: a full one is spread, where both ends are adjusted
abbrev pub adjusted : Bool → Way → Align
adjusted full Left = AtLeft
adjusted full Right = AtRight
adjusted full Centre = AtCentre
adjusted full Both = if full then Spread else AtLeft

abbrev pub align_of : Bool → Filling → Align
align_of full s =
    if not (s.centred == 0) then AtCentre
    else if s.fill && s.adjust then adjusted full s.way
    else AtLeft

-- at first lines are filled, and adjusted at both sides
abbrev pub first_filling : Filling
first_filling = record { fill = true; adjust = true; way = Both; centred = 0 }
