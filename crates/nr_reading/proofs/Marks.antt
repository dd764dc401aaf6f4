-- The end of a level does nothing to what is half read.
use Rattle.std.proofs.Common.{◌≡◌, Bool, true, false, if◌then◌else◌, List, [], ◌∷◌, refl, ap}
use Rattle.nr_reading.specs.declared.ask.Ask.{Ask}
use Rattle.nr_reading.specs.declared.next_item.NextItem.TheVariants as next_items
use Rattle.nr_reading.specs.declared.half.Half.{Half}
use Rattle.nr_reading.specs.declared.mode.Escape.{Escape}
use Rattle.nr_reading.specs.declared.mode.Escape.TheVariants as escapes
use Rattle.nr_reading.specs.declared.mode.Mode.{Mode}
use Rattle.nr_reading.specs.declared.mode.Mode.TheVariants as modes
use Rattle.nr_reading.specs.declared.mode.Reading.{Reading}
use Rattle.nr_reading.specs.declared.mode.Signs.{Signs}
use Rattle.nr_reading.specs.Ask.{is_size, reads_argument}
use Rattle.nr_reading.specs.Escape.{offer, raw_offer}
use Rattle.nr_reading.specs.Half.{take_in, take_in_by, taken_in_directly, offered, silent}
use Rattle.nr_reading.specs.Mode.{is_direct, reads_arguments}
use Rattle.nr_reading.specs.Reader.{unescaped, after_backslash, direct, direct_by}
use Rattle.nr_reading.specs.Step.{go}

unescaped-mark : (m : Mode) (s : Signs) (r : Reading) → unescaped m next_items.Mark s r ≡ go r
unescaped-mark modes.Diverting s r = refl
unescaped-mark (modes.Leading n) s r = refl
unescaped-mark modes.Continued s r = refl
unescaped-mark modes.Text s r = refl
unescaped-mark modes.Interrupted s r = refl
unescaped-mark modes.TitleBefore s r = refl
unescaped-mark (modes.Title d n) s r = refl
unescaped-mark modes.Diverted s r = refl
unescaped-mark modes.Accepted s r = refl
unescaped-mark (modes.Skip n) s r = refl
unescaped-mark m s r = refl

after_backslash-mark : (m : Mode) (s : Signs) (r : Reading) → after_backslash m next_items.Mark s r ≡ go r
after_backslash-mark modes.Accepted s r = refl
after_backslash-mark (modes.Skip n) s r = refl
after_backslash-mark m s r = refl

direct-mark : (e : Escape) (s : Signs) (r : Reading) → direct_by e next_items.Mark s r ≡ go r
direct-mark escapes.Plain s r = unescaped-mark r.mode s r
direct-mark escapes.Begun s r = after_backslash-mark r.mode s r
direct-mark escapes.Comment s r = refl

asked-mark : (size : Bool) (argument : Bool) (e : Escape) (h : Half) → h.reading.escape ≡ e → offered (if size then raw_offer next_items.Mark e else offer next_items.Mark e argument) h ≡ silent h
asked-mark true argument e h is = rw is refl
asked-mark false argument e h is = rw is refl

take_in_by-mark : (asks : List Ask) (h : Half) → take_in_by asks next_items.Mark h ≡ silent h
take_in_by-mark [] h = by_mode (is_direct h.reading.mode)
  where
    by_mode : (d : Bool) → (if d then taken_in_directly (direct next_items.Mark h.signs h.reading) h else offered (offer next_items.Mark h.reading.escape (reads_arguments h.reading.mode)) h) ≡ silent h
    by_mode true = ap (λ s. taken_in_directly s h) (direct-mark h.reading.escape h.signs h.reading)
    by_mode false = refl
take_in_by-mark (a ∷ asks) h = asked-mark (is_size a.kind) (reads_argument a.kind) h.reading.escape h refl

pub take_in-mark : (h : Half) → take_in next_items.Mark h ≡ silent h
take_in-mark h = take_in_by-mark h.asks h
