-- Empty lines that go down the open page: each is a break at which nothing is collected, and the space of one line.
use Prim.Native.Char.{code}
use Rattle.std.proofs.Common.{◌≡◌, ℕ, zero, suc, ◌+◌, ◌-◌, ◌*◌, ◌/◌, ◌<◌, ◌≤◌, ◌<ℤ◌, ℤ, pos, negsuc, Bool, true, false, ◌&&◌, List, [], ◌∷◌, Option, None, Some, min, refl, sym, ap, ◌∙◌, arith}
use Rattle.std.specs.Prelude.{◌==◌, is_none, not, nat_lt, int_le, unsigned_abs, if◌then◌else◌, IfSome}
use Rattle.std.proofs.lemmas.Bool.{and_parts, lt-ltb, ltb-true, not-true}
use Rattle.std.proofs.lemmas.Bool.Decides.{nat_tests}
use Rattle.std.proofs.lemmas.Int.{ints}
use Rattle.std.proofs.Math.Nat.{div-zero, le-div_iff_mul-le}
use Rattle.nr_fill.specs.Piece.{begins_line, is_nil}
use Rattle.nr_reading.specs.declared.ask.Ask.{Ask}
use Rattle.nr_reading.specs.declared.event.Event.TheVariants as events
use Rattle.nr_reading.specs.declared.half.Half.{Half}
use Rattle.nr_reading.specs.declared.mode.PendingAct.{PendingAct}
use Rattle.nr_reading.specs.declared.mode.PendingAct.TheVariants as pending_acts
use Rattle.nr_reading.specs.declared.mode.Escape.{Escape}
use Rattle.nr_reading.specs.declared.mode.Escape.TheVariants as escapes
use Rattle.nr_reading.specs.declared.mode.Mode.{Mode}
use Rattle.nr_reading.specs.declared.mode.Mode.TheVariants as modes
use Rattle.nr_store.specs.declared.element.Diversion.{Diversion}
use Rattle.nr_symbol_tables.specs.declared.trap.Trap.{Trap}
use Rattle.nr_formatter.specs.Access.{collected, diversion, spacing}
use Rattle.nr_formatter.specs.Many.EmptyLines.{IsAtLine, ends_lines, goes_down, gone_down, is_at_line, is_at_line_by, lines_below}
use Rattle.nr_formatter.specs.Lines.{break_done}
use Rattle.nr_formatter.specs.Moves.{heard}
use Rattle.nr_formatter.specs.Pages.{reached}
use Rattle.nr_formatter.specs.Places.{distance_below, distance_to, outlet, outlet_of, page_outlet, trap_below}
use Rattle.nr_formatter.specs.Spacing.{has_room, spaced}
use Rattle.nr_formatter.specs.Weights.{Falls, owed, steps_left, weight_of_agenda, weight_of_page, weight_of_task}
use Rattle.nr_formatter.specs.declared.formatter.Formatter.{Formatter}
use Rattle.nr_formatter.specs.declared.paper.Outlet.TheVariants as outlets
use Rattle.nr_formatter.specs.declared.paper.PageState.{PageState}
use Rattle.nr_formatter.specs.declared.paper.PageState.TheVariants.{Unbegun, Open, Closed}
use Rattle.nr_formatter.specs.declared.tasks.Then.TheVariants as thens
use Rattle.nr_formatter.proofs.Below.{between_nearest}
use Rattle.nr_formatter.proofs.Falling.{falls-kept}
use Rattle.nr_formatter.proofs.Nearest.{IsAbove, nearest_further}

-- ---- where an empty line does nothing but go down

-- what that asks for, part by part
pub record GoesDown (f : Formatter) : Type 0 where
  pub springs : f.springs ≡ None
  pub pieces : (collected f).pieces ≡ []
  pub word : (collected f).word ≡ None
  pub diversion : diversion f ≡ None
  pub state : f.paper.state ≡ Open
  pub room : f.paper.place < f.settings.pages.page_length
  pub no_space : f.settings.pages.no_space ≡ false

none_of : {X : Type 0} (o : Option X) → is_none o ≡ true → o ≡ None
none_of None is = refl
none_of (Some x) is = absurd (let wrong : false ≡ true = is in cc)

nil_of : {X : Type 0} (xs : List X) → is_nil xs ≡ true → xs ≡ []
nil_of [] is = refl
nil_of (x ∷ xs) is = absurd (let wrong : false ≡ true = is in cc)

room_by : (place length : ℕ) (b : Bool) → nat_lt place length ≡ b → has_room (if b then outlets.Room else outlets.Full) ≡ true → place < length
room_by place length true e is = ltb-true place length e
room_by place length false e is = absurd (let wrong : false ≡ true = is in cc)

open_at : (s : PageState) (place length : ℕ) → has_room (page_outlet s place length) ≡ true → (s ≡ Open) × (place < length)
open_at Unbegun place length is = absurd (let wrong : false ≡ true = is in cc)
open_at Open place length is = (refl, room_by place length (nat_lt place length) refl is)
open_at Closed place length is = absurd (let wrong : false ≡ true = is in cc)

room_at : (d : Option Diversion) (f : Formatter) → has_room (outlet_of d f) ≡ true → (d ≡ None) × (f.paper.state ≡ Open) × (f.paper.place < f.settings.pages.page_length)
room_at None f is = let page = open_at f.paper.state f.paper.place f.settings.pages.page_length is in (refl, page.0, page.1)
room_at (Some d) f is = absurd (let wrong : false ≡ true = is in cc)

parts_down : (f : Formatter) → goes_down f ≡ true → GoesDown f
parts_down f is =
    let all = and_parts (is_none f.springs && begins_line (collected f)) (has_room (outlet f) && not f.settings.pages.no_space) is in
    let line = and_parts (is_none f.springs) (begins_line (collected f)) all.0 in
    let empty = and_parts (is_nil (collected f).pieces) (is_none (collected f).word) line.1 in
    let page = and_parts (has_room (outlet f)) (not f.settings.pages.no_space) all.1 in
    let room = room_at (diversion f) f page.0 in
    record {
      springs = none_of f.springs line.0;
      pieces = nil_of (collected f).pieces empty.0;
      word = none_of (collected f).word empty.1;
      diversion = room.0;
      state = room.1;
      room = room.2;
      no_space = not-true f.settings.pages.no_space page.1;
    }

-- so many lines end above the next trap and the bottom
pub record HasRoom (n : ℕ) (f : Formatter) : Type 0 where
  pub down : GoesDown f
  pub height : 0 < spacing f
  pub below : n * spacing f < distance_below f.paper.place f

times_zero : (n d v : ℕ) → v ≡ 0 → 0 < n → n ≤ (d - 1) / v → ⊥
times_zero n d v none some fits = let none : (d - 1) / v ≡ 0 = rw none (div-zero (d - 1)) in omega (arith, none, some, fits)

-- a quotient times its divisor
times_below : (n d v : ℕ) → 0 < n → n ≤ (d - 1) / v → (0 < v) × (n * v < d)
times_below n d zero some fits = absurd (times_zero n d zero refl some fits)
times_below n d (suc w) some fits =
    let positive : 0 < suc w = omega arith in
    let turned : n * suc w ≤ d - 1 = (le-div_iff_mul-le positive).0 fits in
    (omega arith, omega (arith, turned, some))

-- ---- further down

-- a place that is above the next trap and the bottom
record IsFurther (to bottom : ℕ) (trap : Option Trap) : Type 0 where
  room : to < bottom
  above : IsAbove (pos to) trap
  springs : reached to trap ≡ None

further_at : (place down bottom : ℕ) (z : ℤ) → pos place <ℤ z → z <ℤ pos bottom → down < unsigned_abs z - place
    → (place + down < bottom) × (pos (place + down) <ℤ z) × (int_le z (pos (place + down)) ≡ false)
further_at place down bottom (pos k) over under less =
    let far : place + down < k = omega (arith, less) in
    let low : k < bottom = grind (arith, ints, nat_tests) in
    let lies : pos (place + down) <ℤ pos k = grind (arith, ints, nat_tests) in
    (omega (arith, far, low), lies, grind (arith, ints, nat_tests))
further_at place down bottom (negsuc k) over under less = absurd (omega (arith, ints, over))

further : (place down bottom : ℕ) (o : Option Trap) → IfSome o (λ t. (pos place <ℤ t.place) × (t.place <ℤ pos bottom)) → down < distance_to place bottom o
    → IsFurther (place + down) bottom o
further place down bottom None between less = record { room = omega (arith, less); above = tt; springs = refl }
further place down bottom (Some t) between less =
    let at = further_at place down bottom t.place between.0 between.1 less in
    record { room = at.0; above = at.1; springs = rw at.2 refl }

-- the distance falls by so much
falls_by : (place down bottom : ℕ) (o : Option Trap) → distance_to (place + down) bottom o ≡ distance_to place bottom o - down
falls_by place down bottom None = let e : bottom - (place + down) ≡ bottom - place - down = omega arith in e
falls_by place down bottom (Some t) = let e : unsigned_abs t.place - (place + down) ≡ unsigned_abs t.place - place - down = omega arith in e

-- so many lines as there may be have room
pub room_below : (n : ℕ) (f : Formatter) → 0 < n → n ≤ lines_below f → HasRoom n f
room_below n f some fits = room_if (goes_down f) refl fits
  where
    room_if : (b : Bool) → goes_down f ≡ b → n ≤ (if b then (distance_below f.paper.place f - 1) / spacing f else 0) → HasRoom n f
    room_if true is fits = let low = times_below n (distance_below f.paper.place f) (spacing f) some fits in record { down = parts_down f is; height = low.0; below = low.1 }
    room_if false is fits = absurd (omega (arith, some, fits))

-- where they end
further_by : (down : ℕ) (f : Formatter) → down < distance_below f.paper.place f → IsFurther (f.paper.place + down) f.settings.pages.page_length (trap_below f.paper.place f)
further_by down f less =
    further f.paper.place down f.settings.pages.page_length (trap_below f.paper.place f) (between_nearest f.paper.place f.settings.pages.page_length f.store.traps) less

-- the next trap is the same there
same_trap : (down : ℕ) (f : Formatter) → down < distance_below f.paper.place f → trap_below (f.paper.place + down) f ≡ trap_below f.paper.place f
same_trap down f less =
    nearest_further (pos f.paper.place) (pos (f.paper.place + down)) (pos f.settings.pages.page_length) f.store.traps (grind (arith, ints, nat_tests)) (further_by down f less).above

-- lines that have room go down one after another
pub room_on : (n m : ℕ) (f : Formatter) → HasRoom (n + m) f → HasRoom m (gone_down n f)
room_on n m f room =
    let all : (n + m) * spacing f ≡ n * spacing f + m * spacing f = grind arith in
    let less : n * spacing f < distance_below f.paper.place f = omega (arith, all, room.below) in
    let far = further_by (n * spacing f) f less in
    let down = room.down in
    let left : distance_below (f.paper.place + n * spacing f) f ≡ distance_below f.paper.place f - n * spacing f =
    ap (distance_to (f.paper.place + n * spacing f) f.settings.pages.page_length) (same_trap (n * spacing f) f less)
    ∙ falls_by f.paper.place (n * spacing f) f.settings.pages.page_length (trap_below f.paper.place f) in
    record {
      down = record {
        springs = down.springs;
        pieces = down.pieces;
        word = down.word;
        diversion = down.diversion;
        state = down.state;
        room = far.room;
        no_space = down.no_space;
      };
      height = room.height;
      below = omega (arith, all, left, room.below);
    }

-- ---- one line

-- the break and the space of a line that was read
pub line_gone : (f : Formatter) → HasRoom 1 f → spaced (spacing f) (break_done thens.Space (heard events.Empty f)) ≡ gone_down 1 f
line_gone f room =
    let whole : min (spacing f) (distance_below f.paper.place f) ≡ 1 * spacing f = omega (arith, room.below) in
    let still : reached (f.paper.place + 1 * spacing f) (trap_below f.paper.place f) ≡ f.springs =
    (further_by (1 * spacing f) f room.below).springs ∙ sym room.down.springs in
    ap (λ n. record (gone_down 0 f) { paper = record f.paper { place = f.paper.place + n }; springs = reached (f.paper.place + n) (trap_below f.paper.place f) }) whole
    ∙ ap (λ o. record (gone_down 1 f) { springs = o }) still

-- and another after some
pub lines_gone : (n m : ℕ) (f : Formatter) → gone_down m (gone_down n f) ≡ gone_down (n + m) f
lines_gone n m f =
    let all : f.paper.place + n * spacing f + m * spacing f ≡ f.paper.place + (n + m) * spacing f = grind arith in
    ap (λ place. record (gone_down 0 f) { paper = record f.paper { place = place } }) all

-- ---- what may still come

-- a page with room weighs nothing
pub weigh_gone : (f : Formatter) → GoesDown f → weight_of_page f ≡ 0
weigh_gone f down = rw (down.state, lt-ltb f.paper.place f.settings.pages.page_length down.room) refl

-- the line's three moves, once it was read
pub falls_gone : (f : Formatter) → f.event ≡ events.Empty → HasRoom 1 f → Falls 3 0 f (gone_down 1 f)
unfolding steps_left owed
falls_gone f is room =
    let g = gone_down 1 f in
    let agenda : weight_of_agenda f.event f.task f.step ≡ 19 + weight_of_task f.task f.step = rw is refl in
    let none : weight_of_page g ≡ 0 = weigh_gone g (room_on 1 0 f room).down in
    falls-kept 3 0 f g (record { levels = refl; limit = refl; burst = refl; most = refl }) (omega arith) (omega (arith, agenda, none))

-- ---- at a line's beginning

at_line_by : (m : Mode) (e : Escape) (d : PendingAct) (asks : List Ask) → is_at_line_by m e d asks ≡ true → (m ≡ modes.Start) × (e ≡ escapes.Plain) × (d ≡ pending_acts.Look) × (asks ≡ [])
at_line_by modes.Start escapes.Plain pending_acts.Look [] is = (refl, refl, refl, refl)
at_line_by modes.Start escapes.Plain pending_acts.Look (a ∷ asks) is = absurd (let wrong : false ≡ true = is in cc)
at_line_by m e d asks is = absurd (let wrong : false ≡ true = is in cc)

pub at_line : (h : Half) → is_at_line h ≡ true → IsAtLine h
at_line h is =
    let all = and_parts (is_at_line_by h.reading.mode h.reading.escape h.reading.pending_act h.asks) (ends_lines h.signs) is in
    let reading = at_line_by h.reading.mode h.reading.escape h.reading.pending_act h.asks all.0 in
    let signs = and_parts (not (h.signs.control == code "\n")) (not (h.signs.no_break == code "\n")) all.1 in
    record {
      mode = reading.0;
      escape = reading.1;
      pending_act = reading.2;
      asks = reading.3;
      control = not-true (h.signs.control == code "\n") signs.0;
      no_break = not-true (h.signs.no_break == code "\n") signs.1;
    }
