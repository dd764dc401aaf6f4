-- Items that are read as they are pay for what comes of them.
use Prim.Native.Char.{code}
use Rattle.std.proofs.Common.{◌≡◌, ℕ, ◌==◌, Bool, true, false, if◌then◌else◌, refl, arith}
use Rattle.nr_reading.specs.declared.event.Event.TheVariants as events
use Rattle.nr_reading.specs.declared.next_item.NextItem.{NextItem}
use Rattle.nr_reading.specs.declared.next_item.NextItem.TheVariants as next_items
use Rattle.nr_reading.specs.declared.mode.Escape.TheVariants as escapes
use Rattle.nr_reading.specs.declared.mode.Mode.{Mode}
use Rattle.nr_reading.specs.declared.mode.Mode.TheVariants as modes
use Rattle.nr_reading.specs.declared.mode.Signs.{Signs}
use Rattle.nr_reading.specs.Mode.{is_direct}
use Rattle.nr_reading.specs.Reader.{unescaped}
use Rattle.nr_reading.specs.Spelled.{is_blank}
use Rattle.nr_reading.specs.Skipping.{accepted_byte, accepted, past_newline, skip_byte, skip, diverted, diverting}
use Rattle.nr_reading.specs.Step.{to, tell}
use Rattle.nr_reading.specs.Text.{start_blank, start_newline, start_byte, start, leading_byte, leading, continued_byte, continued, text_byte, text}
use Rattle.nr_reading.specs.Titles.{before_title_byte, before_title, title_byte, title}
use Rattle.nr_reading.specs.Weights.{worth_of_item}
use Rattle.nr_reading.proofs.Weighing.{at, Pays, either, weight_of_backslash-le}

start_blank_pays : (m : Mode) (c n : Bool) → Pays (at m escapes.Plain c n) 256 (start_blank (at m escapes.Plain c n))
start_blank_pays m true n = record { pays = omega arith; tells = refl }
start_blank_pays m false n = record { pays = omega arith; tells = refl }

start_newline_pays : (m : Mode) (c n : Bool) → Pays (at m escapes.Plain c n) 256 (start_newline (at m escapes.Plain c n))
start_newline_pays m true n = record { pays = omega arith; tells = refl }
start_newline_pays m false n = record { pays = omega arith; tells = refl }

start_byte_pays : (b : ℕ) (s : Signs) (m : Mode) (c n : Bool) → Pays (at m escapes.Plain c n) 256 (start_byte b s (at m escapes.Plain c n))
start_byte_pays b s m c n =
    either (b == s.control) (record { pays = omega arith; tells = refl })
    (either (b == s.no_break) (record { pays = omega arith; tells = refl })
    (either (b == code "\n") (start_newline_pays m c n)
    (either (b == code "\\") (record { pays = omega (arith, weight_of_backslash-le m); tells = refl })
    (either (b == code " ") (start_blank_pays m c n) (record { pays = omega arith; tells = refl })))))

leading_byte_pays : (b k : ℕ) (c n : Bool) → Pays (at (modes.Leading k) escapes.Plain c n) 256 (leading_byte b k (at (modes.Leading k) escapes.Plain c n))
leading_byte_pays b k c n =
    either (b == code "\n") (record { pays = omega arith; tells = refl })
    (either (b == code " ") (record { pays = omega arith; tells = refl })
    (either (b == code "\\") (record { pays = omega arith; tells = refl }) (record { pays = omega arith; tells = refl })))

continued_byte_pays : (b : ℕ) (c n : Bool) → Pays (at modes.Continued escapes.Plain c n) 256 (continued_byte b (at modes.Continued escapes.Plain c n))
continued_byte_pays b c n =
    either (b == code "\n") (record { pays = omega arith; tells = refl })
    (either (b == code " ") (record { pays = omega arith; tells = refl })
    (either (b == code "\\") (record { pays = omega arith; tells = refl }) (record { pays = omega arith; tells = refl })))

text_byte_pays : (b : ℕ) (c n : Bool) → Pays (at modes.Text escapes.Plain c n) 256 (text_byte b (at modes.Text escapes.Plain c n))
text_byte_pays b c n =
    either (b == code "\n") (record { pays = omega arith; tells = refl }) (either (b == code "\\") (record { pays = omega arith; tells = refl }) (record { pays = omega arith; tells = refl }))

interrupted_byte_pays : (b : ℕ) (c n : Bool) → Pays (at modes.Interrupted escapes.Plain c n) 256 (text_byte b (at modes.Interrupted escapes.Plain c n))
interrupted_byte_pays b c n =
    either (b == code "\n") (record { pays = omega arith; tells = refl }) (either (b == code "\\") (record { pays = omega arith; tells = refl }) (record { pays = omega arith; tells = refl }))

before_title_byte_pays : (b : ℕ) (c n : Bool) → Pays (at modes.TitleBefore escapes.Plain c n) 256 (before_title_byte b (at modes.TitleBefore escapes.Plain c n))
before_title_byte_pays b c n =
    either (b == code "\n") (record { pays = omega arith; tells = refl })
    (either (b == code "\\") (record { pays = omega arith; tells = refl }) (either (is_blank b) (record { pays = omega arith; tells = refl }) (record { pays = omega arith; tells = refl })))

title_byte_pays : (b d k : ℕ) (c n : Bool) → Pays (at (modes.Title d k) escapes.Plain c n) 256 (title_byte b d k (at (modes.Title d k) escapes.Plain c n))
title_byte_pays b d k c n =
    either (b == code "\n") (record { pays = omega arith; tells = refl })
    (either (b == code "\\") (record { pays = omega arith; tells = refl })
    (either (b == d) (part (k == 0) (k == 1)) (record { pays = omega arith; tells = refl })))
  where
    part : (first second : Bool)
        → Pays (at (modes.Title d k) escapes.Plain c n) 256 (tell events.TitlePart (if first then to (modes.Title d 1) (at (modes.Title d k) escapes.Plain c n) else (if second then to (modes.Title d 2) (at (modes.Title d k) escapes.Plain c n) else to modes.TitleRest (at (modes.Title d k) escapes.Plain c n))))
    part true second = record { pays = omega arith; tells = refl }
    part false true = record { pays = omega arith; tells = refl }
    part false false = record { pays = omega arith; tells = refl }

accepted_byte_pays : (b : ℕ) (c n : Bool) → Pays (at modes.Accepted escapes.Plain c n) 256 (accepted_byte b (at modes.Accepted escapes.Plain c n))
accepted_byte_pays b c n =
    either (is_blank b) (record { pays = omega arith; tells = refl })
    (either (b == code "\n") (record { pays = omega arith; tells = refl }) (either (b == code "\\") (record { pays = omega arith; tells = refl }) (record { pays = omega arith; tells = refl })))

after_newline_pays : (k : ℕ) (c n : Bool) → Pays (at (modes.Skip k) escapes.Plain c n) 256 (past_newline k (at (modes.Skip k) escapes.Plain c n))
after_newline_pays k c n = either (k == 0) (record { pays = omega arith; tells = refl }) (record { pays = omega arith; tells = refl })

skip_byte_pays : (b k : ℕ) (c n : Bool) → Pays (at (modes.Skip k) escapes.Plain c n) 256 (skip_byte b k (at (modes.Skip k) escapes.Plain c n))
skip_byte_pays b k c n = either (b == code "\n") (after_newline_pays k c n) (either (b == code "\\") (record { pays = omega arith; tells = refl }) (record { pays = omega arith; tells = refl }))

-- ---- by the mode

start_pays : (f : NextItem) (s : Signs) (c n : Bool) → Pays (at modes.Start escapes.Plain c n) (worth_of_item f) (start f s (at modes.Start escapes.Plain c n))
start_pays next_items.Mark s c n = record { pays = omega arith; tells = refl }
start_pays (next_items.Byte b) s c n = start_byte_pays b s modes.Start c n
start_pays (next_items.Cell x) s c n = record { pays = omega arith; tells = refl }
start_pays (next_items.LineEnd h) s c n = record { pays = omega arith; tells = refl }
start_pays next_items.Resume s c n = record { pays = omega arith; tells = refl }
start_pays next_items.Over s c n = record { pays = omega arith; tells = refl }

diverting_pays : (f : NextItem) (s : Signs) (c n : Bool) → Pays (at modes.Diverting escapes.Plain c n) (worth_of_item f) (diverting f s (at modes.Diverting escapes.Plain c n))
diverting_pays next_items.Mark s c n = record { pays = omega arith; tells = refl }
diverting_pays (next_items.Byte b) s c n = start_byte_pays b s modes.Diverting c n
diverting_pays (next_items.Cell x) s c n = record { pays = omega arith; tells = refl }
diverting_pays (next_items.LineEnd h) s c n = record { pays = omega arith; tells = refl }
diverting_pays next_items.Resume s c n = record { pays = omega arith; tells = refl }
diverting_pays next_items.Over s c n = record { pays = omega arith; tells = refl }

leading_pays : (f : NextItem) (k : ℕ) (c n : Bool) → Pays (at (modes.Leading k) escapes.Plain c n) (worth_of_item f) (leading f k (at (modes.Leading k) escapes.Plain c n))
leading_pays next_items.Mark k c n = record { pays = omega arith; tells = refl }
leading_pays (next_items.Byte b) k c n = leading_byte_pays b k c n
leading_pays (next_items.Cell x) k c n = record { pays = omega arith; tells = refl }
leading_pays (next_items.LineEnd h) k c n = record { pays = omega arith; tells = refl }
leading_pays next_items.Resume k c n = record { pays = omega arith; tells = refl }
leading_pays next_items.Over k c n = record { pays = omega arith; tells = refl }

continued_pays : (f : NextItem) (c n : Bool) → Pays (at modes.Continued escapes.Plain c n) (worth_of_item f) (continued f (at modes.Continued escapes.Plain c n))
continued_pays next_items.Mark c n = record { pays = omega arith; tells = refl }
continued_pays (next_items.Byte b) c n = continued_byte_pays b c n
continued_pays (next_items.Cell x) c n = record { pays = omega arith; tells = refl }
continued_pays (next_items.LineEnd h) c n = record { pays = omega arith; tells = refl }
continued_pays next_items.Resume c n = record { pays = omega arith; tells = refl }
continued_pays next_items.Over c n = record { pays = omega arith; tells = refl }

text_pays : (f : NextItem) (c n : Bool) → Pays (at modes.Text escapes.Plain c n) (worth_of_item f) (text f (at modes.Text escapes.Plain c n))
text_pays next_items.Mark c n = record { pays = omega arith; tells = refl }
text_pays (next_items.Byte b) c n = text_byte_pays b c n
text_pays (next_items.Cell x) c n = record { pays = omega arith; tells = refl }
text_pays (next_items.LineEnd h) c n = record { pays = omega arith; tells = refl }
text_pays next_items.Resume c n = record { pays = omega arith; tells = refl }
text_pays next_items.Over c n = record { pays = omega arith; tells = refl }

interrupted_pays : (f : NextItem) (c n : Bool) → Pays (at modes.Interrupted escapes.Plain c n) (worth_of_item f) (text f (at modes.Interrupted escapes.Plain c n))
interrupted_pays next_items.Mark c n = record { pays = omega arith; tells = refl }
interrupted_pays (next_items.Byte b) c n = interrupted_byte_pays b c n
interrupted_pays (next_items.Cell x) c n = record { pays = omega arith; tells = refl }
interrupted_pays (next_items.LineEnd h) c n = record { pays = omega arith; tells = refl }
interrupted_pays next_items.Resume c n = record { pays = omega arith; tells = refl }
interrupted_pays next_items.Over c n = record { pays = omega arith; tells = refl }

before_title_pays : (f : NextItem) (c n : Bool) → Pays (at modes.TitleBefore escapes.Plain c n) (worth_of_item f) (before_title f (at modes.TitleBefore escapes.Plain c n))
before_title_pays next_items.Mark c n = record { pays = omega arith; tells = refl }
before_title_pays (next_items.Byte b) c n = before_title_byte_pays b c n
before_title_pays (next_items.Cell x) c n = record { pays = omega arith; tells = refl }
before_title_pays (next_items.LineEnd h) c n = record { pays = omega arith; tells = refl }
before_title_pays next_items.Resume c n = record { pays = omega arith; tells = refl }
before_title_pays next_items.Over c n = record { pays = omega arith; tells = refl }

title_pays : (f : NextItem) (d k : ℕ) (c n : Bool) → Pays (at (modes.Title d k) escapes.Plain c n) (worth_of_item f) (title f d k (at (modes.Title d k) escapes.Plain c n))
title_pays next_items.Mark d k c n = record { pays = omega arith; tells = refl }
title_pays (next_items.Byte b) d k c n = title_byte_pays b d k c n
title_pays (next_items.Cell x) d k c n = record { pays = omega arith; tells = refl }
title_pays (next_items.LineEnd h) d k c n = record { pays = omega arith; tells = refl }
title_pays next_items.Resume d k c n = record { pays = omega arith; tells = refl }
title_pays next_items.Over d k c n = record { pays = omega arith; tells = refl }

diverted_pays : (f : NextItem) (c n : Bool) → Pays (at modes.Diverted escapes.Plain c n) (worth_of_item f) (diverted f (at modes.Diverted escapes.Plain c n))
diverted_pays next_items.Mark c n = record { pays = omega arith; tells = refl }
diverted_pays (next_items.Byte b) c n = record { pays = omega arith; tells = refl }
diverted_pays (next_items.Cell x) c n = record { pays = omega arith; tells = refl }
diverted_pays (next_items.LineEnd h) c n = record { pays = omega arith; tells = refl }
diverted_pays next_items.Resume c n = record { pays = omega arith; tells = refl }
diverted_pays next_items.Over c n = record { pays = omega arith; tells = refl }

accepted_pays : (f : NextItem) (c n : Bool) → Pays (at modes.Accepted escapes.Plain c n) (worth_of_item f) (accepted f (at modes.Accepted escapes.Plain c n))
accepted_pays next_items.Mark c n = record { pays = omega arith; tells = refl }
accepted_pays (next_items.Byte b) c n = accepted_byte_pays b c n
accepted_pays (next_items.Cell x) c n = record { pays = omega arith; tells = refl }
accepted_pays (next_items.LineEnd h) c n = record { pays = omega arith; tells = refl }
accepted_pays next_items.Resume c n = record { pays = omega arith; tells = refl }
accepted_pays next_items.Over c n = record { pays = omega arith; tells = refl }

skip_pays : (f : NextItem) (k : ℕ) (c n : Bool) → Pays (at (modes.Skip k) escapes.Plain c n) (worth_of_item f) (skip f k (at (modes.Skip k) escapes.Plain c n))
skip_pays next_items.Mark k c n = record { pays = omega arith; tells = refl }
skip_pays (next_items.Byte b) k c n = skip_byte_pays b k c n
skip_pays (next_items.Cell x) k c n = record { pays = omega arith; tells = refl }
skip_pays (next_items.LineEnd h) k c n = after_newline_pays k c n
skip_pays next_items.Resume k c n = record { pays = omega arith; tells = refl }
skip_pays next_items.Over k c n = record { pays = omega arith; tells = refl }

pub unescaped_pays : (m : Mode) (f : NextItem) (s : Signs) (c n : Bool) → is_direct m ≡ true → Pays (at m escapes.Plain c n) (worth_of_item f) (unescaped m f s (at m escapes.Plain c n))
unescaped_pays modes.Start f s c n is = start_pays f s c n
unescaped_pays modes.Diverting f s c n is = diverting_pays f s c n
unescaped_pays (modes.Leading k) f s c n is = leading_pays f k c n
unescaped_pays modes.Continued f s c n is = continued_pays f c n
unescaped_pays modes.Text f s c n is = text_pays f c n
unescaped_pays modes.Interrupted f s c n is = interrupted_pays f c n
unescaped_pays modes.TitleBefore f s c n is = before_title_pays f c n
unescaped_pays (modes.Title d k) f s c n is = title_pays f d k c n
unescaped_pays modes.Diverted f s c n is = diverted_pays f c n
unescaped_pays modes.Accepted f s c n is = accepted_pays f c n
unescaped_pays (modes.Skip k) f s c n is = skip_pays f k c n
unescaped_pays m f s c n is = let wrong : ⊥ = cc in absurd wrong
