-- Items after a `\` pay for what comes of them.
use Prim.Native.Char.{code}
use Rattle.std.specs.Prelude.{◌||◌}
use Rattle.std.proofs.Common.{◌≡◌, ℕ, ◌==◌, Bool, true, false, if◌then◌else◌, Option, None, Some, refl, arith}
use Rattle.nr_reading.specs.declared.ask.Ask.{Ask}
use Rattle.nr_reading.specs.declared.ask.Kind.{Kind}
use Rattle.nr_reading.specs.declared.event.Event.{Event}
use Rattle.nr_reading.specs.declared.next_item.NextItem.{NextItem}
use Rattle.nr_reading.specs.declared.next_item.NextItem.TheVariants as next_items
use Rattle.nr_reading.specs.declared.mode.Escape.{Escape}
use Rattle.nr_reading.specs.declared.mode.Escape.TheVariants as escapes
use Rattle.nr_reading.specs.declared.mode.Mode.{Mode}
use Rattle.nr_reading.specs.declared.mode.Mode.TheVariants as modes
use Rattle.nr_reading.specs.declared.mode.Signs.{Signs}
use Rattle.nr_reading.specs.Step.{Step}
use Rattle.nr_reading.specs.Ask.{first_stage}
use Rattle.nr_reading.specs.Mode.{is_direct}
use Rattle.nr_reading.specs.Reader.{unescaped, after_backslash, direct}
use Rattle.nr_reading.specs.Skipping.{accepted_escape, skip_escape}
use Rattle.nr_reading.specs.Step.{to, tell}
use Rattle.nr_reading.specs.TextEscape.{plain, interpolated, asked_in_text, is_nothing, is_plain, event_after, escape_in_text, escape_by, spliced_or, lone_escape, escaped}
use Rattle.nr_reading.specs.Weights.{worth_of_item, is_lead}
use Rattle.nr_reading.proofs.Unescaped.{unescaped_pays}
use Rattle.nr_reading.proofs.Weighing.{at, Pays, either, cost_of_event-le, weight_of_stage-le, weight_of_backslash-ge}

-- accepted and rejected parts read escapes in another way
abbrev reads_escapes : Mode → Bool
reads_escapes modes.Accepted = false
reads_escapes (modes.Skip k) = false
reads_escapes m = true

-- ---- what an escape without an argument tells

record Tells (e : Event) : Type 0 where
  pub tells : is_lead e ≡ false

one_of : (b : Bool) {x y : Event} → Tells x → Tells y → Tells (if b then x else y)
one_of true p q = p
one_of false p q = q

event_after-tells : (b : ℕ) (titled : Bool) → Tells (event_after b titled)
event_after-tells b titled =
    one_of ((b == code "\\") || (b == code "e")) (record { tells = refl })
    (one_of (b == code "&") (record { tells = refl })
    (one_of ((b == code " ") || (b == code "0")) (record { tells = refl })
    (one_of (is_nothing b) (record { tells = refl })
    (one_of (is_plain b) (record { tells = refl })
    (one_of (b == code "%") (record { tells = refl })
    (one_of (b == code "p") (record { tells = refl })
    (one_of (b == code "a") (record { tells = refl })
    (one_of (b == code "t") (record { tells = refl })
    (one_of (b == code "\t") (record { tells = refl })
    (one_of (b == 1) (record { tells = refl })
    (one_of titled (record { tells = refl }) (record { tells = refl }))))))))))))

-- ---- an escape in the text itself

text_escape_pays : (b : ℕ) (o : Option Ask) (c n : Bool) → Pays (at modes.Text escapes.Begun c n) 256 (escape_in_text b o (at modes.Text escapes.Begun c n))
text_escape_pays b (Some a) c n = record { pays = omega (arith, weight_of_stage-le a.stage); tells = refl }
text_escape_pays b None c n = last (b == code "c") (event_after b false) (event_after-tells b false).tells
  where
    last : (t : Bool) (e : Event) → is_lead e ≡ false → Pays (at modes.Text escapes.Begun c n) 256 (tell e (plain (to (if t then modes.Interrupted else modes.Text) (at modes.Text escapes.Begun c n))))
    last true e unled = record { pays = omega (arith, cost_of_event-le e); tells = unled }
    last false e unled = record { pays = omega (arith, cost_of_event-le e); tells = unled }

before_title_escape_pays : (b : ℕ) (o : Option Ask) (c n : Bool) → Pays (at modes.TitleBefore escapes.Begun c n) 256 (escape_in_text b o (at modes.TitleBefore escapes.Begun c n))
before_title_escape_pays b (Some a) c n = record { pays = omega (arith, weight_of_stage-le a.stage); tells = refl }
before_title_escape_pays b None c n = record { pays = omega (arith, cost_of_event-le (event_after b true)); tells = (event_after-tells b true).tells }

title_escape_pays : (b d k : ℕ) (o : Option Ask) (c n : Bool) → Pays (at (modes.Title d k) escapes.Begun c n) 256 (escape_in_text b o (at (modes.Title d k) escapes.Begun c n))
title_escape_pays b d k (Some a) c n = record { pays = omega (arith, weight_of_stage-le a.stage); tells = refl }
title_escape_pays b d k None c n = record { pays = omega (arith, cost_of_event-le (event_after b true)); tells = (event_after-tells b true).tells }

diverted_escape_pays : (b : ℕ) (o : Option Ask) (c n : Bool) → Pays (at modes.Diverted escapes.Begun c n) 256 (escape_in_text b o (at modes.Diverted escapes.Begun c n))
diverted_escape_pays b (Some a) c n = record { pays = omega (arith, weight_of_stage-le a.stage); tells = refl }
diverted_escape_pays b None c n = record { pays = omega (arith, cost_of_event-le (event_after b false)); tells = (event_after-tells b false).tells }

-- ---- by the mode

escape_by_pays : (b : ℕ) (long : Bool) (m : Mode) (c n : Bool) → is_direct m ≡ true → reads_escapes m ≡ true → Pays (at m escapes.Begun c n) 256 (escape_by b long m (at m escapes.Begun c n))
escape_by_pays b long modes.Start c n is own = either (b == code "!") (record { pays = omega arith; tells = refl }) (record { pays = omega arith; tells = refl })
escape_by_pays b long modes.Diverting c n is own = either (b == code "!") (record { pays = omega arith; tells = refl }) (record { pays = omega arith; tells = refl })
escape_by_pays b long (modes.Leading k) c n is own = record { pays = omega arith; tells = refl }
escape_by_pays b long modes.Continued c n is own = record { pays = omega arith; tells = refl }
escape_by_pays b long modes.Interrupted c n is own = record { pays = omega arith; tells = refl }
escape_by_pays b long modes.Text c n is own = text_escape_pays b (asked_in_text b long) c n
escape_by_pays b long modes.TitleBefore c n is own = before_title_escape_pays b (asked_in_text b long) c n
escape_by_pays b long (modes.Title d k) c n is own = title_escape_pays b d k (asked_in_text b long) c n
escape_by_pays b long modes.Diverted c n is own = diverted_escape_pays b (asked_in_text b long) c n
escape_by_pays b long m c n is own = let wrong : ⊥ = cc in absurd wrong

spliced_or_pays : (b : ℕ) (o : Option Kind) (long : Bool) (m : Mode) (c n : Bool) → is_direct m ≡ true → reads_escapes m ≡ true → Pays (at m escapes.Begun c n) 256 (spliced_or b o long (at m escapes.Begun c n))
spliced_or_pays b (Some k) long m c n is own = record { pays = omega (arith, weight_of_stage-le (first_stage k), weight_of_backslash-ge m); tells = refl }
spliced_or_pays b None long m c n is own =
    either (b == code "\n") (record { pays = omega arith; tells = refl }) (either (b == code "\"") (record { pays = omega arith; tells = refl }) (escape_by_pays b long m c n is own))

lone_escape_pays : (m : Mode) (c n : Bool) → is_direct m ≡ true → reads_escapes m ≡ true → (w : ℕ) → Pays (at m escapes.Begun c n) w (lone_escape m (at m escapes.Begun c n))
lone_escape_pays modes.Start c n is own w = record { pays = omega arith; tells = refl }
lone_escape_pays modes.Diverting c n is own w = record { pays = omega arith; tells = refl }
lone_escape_pays (modes.Leading k) c n is own w = record { pays = omega arith; tells = refl }
lone_escape_pays modes.Continued c n is own w = record { pays = omega arith; tells = refl }
lone_escape_pays modes.Interrupted c n is own w = record { pays = omega arith; tells = refl }
lone_escape_pays modes.Text c n is own w = record { pays = omega arith; tells = refl }
lone_escape_pays modes.TitleBefore c n is own w = record { pays = omega arith; tells = refl }
lone_escape_pays (modes.Title d k) c n is own w = record { pays = omega arith; tells = refl }
lone_escape_pays modes.Diverted c n is own w = record { pays = omega arith; tells = refl }
lone_escape_pays m c n is own w = let wrong : ⊥ = cc in absurd wrong

escaped_pays : (f : NextItem) (long : Bool) (m : Mode) (c n : Bool) → is_direct m ≡ true → reads_escapes m ≡ true → Pays (at m escapes.Begun c n) (worth_of_item f) (escaped f long (at m escapes.Begun c n))
escaped_pays next_items.Mark long m c n is own = record { pays = omega arith; tells = refl }
escaped_pays (next_items.Byte b) long m c n is own = spliced_or_pays b (interpolated b) long m c n is own
escaped_pays (next_items.Cell x) long m c n is own = lone_escape_pays m c n is own 256
escaped_pays (next_items.LineEnd h) long m c n is own = lone_escape_pays m c n is own 256
escaped_pays next_items.Resume long m c n is own = lone_escape_pays m c n is own 1
escaped_pays next_items.Over long m c n is own = lone_escape_pays m c n is own 0

accepted_escape_pays : (f : NextItem) (c n : Bool) → Pays (at modes.Accepted escapes.Begun c n) (worth_of_item f) (accepted_escape f (at modes.Accepted escapes.Begun c n))
accepted_escape_pays next_items.Mark c n = record { pays = omega arith; tells = refl }
accepted_escape_pays (next_items.Byte b) c n = either (b == code "{") (record { pays = omega arith; tells = refl }) (record { pays = omega arith; tells = refl })
accepted_escape_pays (next_items.Cell x) c n = record { pays = omega arith; tells = refl }
accepted_escape_pays (next_items.LineEnd h) c n = record { pays = omega arith; tells = refl }
accepted_escape_pays next_items.Resume c n = record { pays = omega arith; tells = refl }
accepted_escape_pays next_items.Over c n = record { pays = omega arith; tells = refl }

skip_escape_pays : (f : NextItem) (k : ℕ) (c n : Bool) → Pays (at (modes.Skip k) escapes.Begun c n) (worth_of_item f) (skip_escape f k (at (modes.Skip k) escapes.Begun c n))
skip_escape_pays next_items.Mark k c n = record { pays = omega arith; tells = refl }
skip_escape_pays (next_items.Byte b) k c n = record { pays = omega arith; tells = refl }
skip_escape_pays (next_items.Cell x) k c n = record { pays = omega arith; tells = refl }
skip_escape_pays (next_items.LineEnd h) k c n = record { pays = omega arith; tells = refl }
skip_escape_pays next_items.Resume k c n = record { pays = omega arith; tells = refl }
skip_escape_pays next_items.Over k c n = record { pays = omega arith; tells = refl }

after_backslash_pays : (m : Mode) (f : NextItem) (s : Signs) (c n : Bool) → is_direct m ≡ true → Pays (at m escapes.Begun c n) (worth_of_item f) (after_backslash m f s (at m escapes.Begun c n))
after_backslash_pays modes.Accepted f s c n is = accepted_escape_pays f c n
after_backslash_pays (modes.Skip k) f s c n is = skip_escape_pays f k c n
after_backslash_pays m f s c n is = escaped_pays f s.long m c n is refl

-- ---- what is read as it is, with any part of an escape read

-- a comment weighs nothing
uncommented : (m : Mode) (c n : Bool) (w : ℕ) (x : Step) → Pays (at m escapes.Plain c n) w x → Pays (at m escapes.Comment c n) w x
uncommented m c n w x p = record { pays = p.pays; tells = p.tells }

comment_pays : (f : NextItem) (s : Signs) (m : Mode) (c n : Bool) → is_direct m ≡ true → Pays (at m escapes.Comment c n) (worth_of_item f) (direct f s (at m escapes.Comment c n))
comment_pays next_items.Mark s m c n is = record { pays = omega arith; tells = refl }
comment_pays (next_items.Byte b) s m c n is =
    either (b == code "\n") (uncommented m c n 256 (unescaped m (next_items.Byte b) s (at m escapes.Plain c n)) (unescaped_pays m (next_items.Byte b) s c n is)) (record { pays = omega arith; tells = refl })
comment_pays (next_items.Cell x) s m c n is = record { pays = omega arith; tells = refl }
comment_pays (next_items.LineEnd h) s m c n is =
    uncommented m c n 256 (unescaped m (next_items.LineEnd h) s (at m escapes.Plain c n)) (unescaped_pays m (next_items.LineEnd h) s c n is)
comment_pays next_items.Resume s m c n is = uncommented m c n 1 (unescaped m next_items.Resume s (at m escapes.Plain c n)) (unescaped_pays m next_items.Resume s c n is)
comment_pays next_items.Over s m c n is = uncommented m c n 0 (unescaped m next_items.Over s (at m escapes.Plain c n)) (unescaped_pays m next_items.Over s c n is)

pub direct_pays : (f : NextItem) (s : Signs) (m : Mode) (e : Escape) (c n : Bool) → is_direct m ≡ true → Pays (at m e c n) (worth_of_item f) (direct f s (at m e c n))
direct_pays f s m escapes.Plain c n is = unescaped_pays m f s c n is
direct_pays f s m escapes.Begun c n is = after_backslash_pays m f s c n is
direct_pays f s m escapes.Comment c n is = comment_pays f s m c n is
