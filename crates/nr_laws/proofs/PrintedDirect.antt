-- What is read directly: a cell that is read was stored, and another byte that is emitted as a cell prints, or stands in a title. What is
-- half read then is bounded.
use Prim.Native.Char.{code}
use Rattle.std.specs.Prelude.{◌||◌}
use Rattle.std.specs.List.{All}
use Rattle.std.proofs.lemmas.Bool.{eqb-true}
use Rattle.std.proofs.lemmas.List.Elements.{All-nil}
use Rattle.std.proofs.Common.{◌≡◌, ℕ, ◌≤◌, ◌==◌, Bool, true, false, if◌then◌else◌, List, length, Option, None, Some, refl, ap}
use Rattle.nr_reading.specs.declared.ask.Ask.{Ask}
use Rattle.nr_reading.specs.declared.ask.Kind.{Kind}
use Rattle.nr_reading.specs.declared.event.Event.{Event}
use Rattle.nr_reading.specs.declared.event.Event.TheVariants as events
use Rattle.nr_reading.specs.declared.next_item.NextItem.{NextItem}
use Rattle.nr_reading.specs.declared.next_item.NextItem.TheVariants as next_items
use Rattle.nr_reading.specs.declared.half.Half.{Half}
use Rattle.nr_reading.specs.declared.mode.PendingAct.{PendingAct}
use Rattle.nr_reading.specs.declared.mode.Escape.{Escape}
use Rattle.nr_reading.specs.declared.mode.Escape.TheVariants as escapes
use Rattle.nr_reading.specs.declared.mode.Mode.{Mode}
use Rattle.nr_reading.specs.declared.mode.Mode.TheVariants as modes
use Rattle.nr_reading.specs.declared.mode.Reading.{Reading}
use Rattle.nr_reading.specs.declared.mode.Signs.{Signs}
use Rattle.nr_reading.specs.Delimited.{Texts, no_texts}
use Rattle.nr_reading.specs.Notes.{Note}
use Rattle.nr_reading.specs.Notes as notes
use Rattle.nr_reading.specs.Reader.{unescaped, after_backslash, ends_comment, direct_by}
use Rattle.nr_reading.specs.Skipping.{accepted, accepted_escape, past_newline, skip, skip_escape, diverted, diverting}
use Rattle.nr_reading.specs.Spelled.{is_blank}
use Rattle.nr_reading.specs.Step.{Step, to, escaping, go, leave, tell}
use Rattle.nr_reading.specs.Text.{continuing, begin_escape, in_text, start_blank, start_newline, start_control, start_byte, start, one_blank_more, text_after_blanks, leading, end_continued, continued, is_interrupted, ended, end_event, text}
use Rattle.nr_reading.specs.TextEscape.{plain, interpolated, asked_in_text, is_nothing, is_plain, other_byte, event_after, is_titled, after_escape, escape_in_text, escape_at_start, escape_by, spliced_or, lone_escape, escaped}
use Rattle.nr_reading.specs.Titles.{ended_title, before_title, next_part, title}
use Rattle.nr_settings.specs.Characters.{prints}
use Rattle.nr_laws.proofs.PrintedLines.{IsAmong, AreAmong, IsPrinted}
use Rattle.nr_laws.proofs.PrintedItems.{IsPending, IsNextItem}

module _ (set : ℕ → Bool) where
  -- a byte that a title leaves out where it does not print
  abbrev pub IsByte : Bool → ℕ → Type 0
  IsByte true b = Unit {0}
  IsByte false b = prints b ≡ true

  -- what is emitted, in this mode
  abbrev pub IsHeard : Event → Mode → Type 0
  IsHeard (events.Byte b) m = IsAmong set b
  IsHeard (events.Cell x) m = IsPrinted set x
  IsHeard (events.DivertedCell x) m = IsPrinted set x
  IsHeard (events.Plain b) m = IsAmong set b × IsByte (is_titled m) b
  IsHeard e m = Unit {0}

  abbrev pub IsHeld : Mode → Type 0
  IsHeld (modes.BodyStart held) = held ≤ 33
  IsHeld m = Unit {0}

  -- what is kept of a line
  abbrev pub IsNoted : Note → Type 0
  IsNoted (notes.Line b) = IsAmong set b
  IsNoted (notes.First b) = IsAmong set b
  IsNoted n = Unit {0}

  pub record Tells (s : Step) : Type 0 where
    pub heard : IsHeard s.event s.reading.mode
    pub pending_act : IsPending set s.reading.pending_act
    pub held : IsHeld s.reading.mode
    pub note : IsNoted s.note

  -- the arguments of escapes
  abbrev pub AreTexts : Texts → Type 0
  AreTexts t = All (AreAmong set) t.begun × AreAmong set t.last

  pub none-texts : AreTexts no_texts
  none-texts = (All-nil (AreAmong set), All-nil (IsAmong set))

  -- What is half read: ten escapes at most, and a definition that a name of 32 bytes at most ends.
  pub record Halved (d : PendingAct) (m : Mode) (asks : List Ask) (name l : List ℕ) (t : Texts) : Type 0 where
    pub pending_act : IsPending set d
    pub held : IsHeld m
    pub few : length asks ≤ 10
    pub ending : length name ≤ 32
    pub ends : AreAmong set name
    pub line : AreAmong set l
    pub texts : AreTexts t

  abbrev pub IsHalf : Half → Type 0
  IsHalf h = Halved h.reading.pending_act h.reading.mode h.asks h.notes.defining.ending h.notes.line h.delimited

  pub choose : (c : Bool) (x y : Step) → Tells x → Tells y → Tells (if c then x else y)
  choose true x y first second = first
  choose false x y first second = second

  -- ---- a `\` and the byte after it

  any : (titled : Bool) (b : ℕ) → prints b ≡ true → IsByte titled b
  any true b is = tt
  any false b is = is

  in-title : (titled : Bool) (b : ℕ) → titled ≡ true → IsByte titled b
  in-title true b is = tt
  in-title false b is = absurd (let wrong : false ≡ true = is in cc)

  four : (p q r s : Bool) (b : ℕ) → (b == code "-") ≡ p → (b == code ".") ≡ q → (b == code "'") ≡ r → (b == code "`") ≡ s → (p || q || r || s) ≡ true → prints b ≡ true
  four true q r s b p-is q-is r-is s-is is = ap prints (eqb-true b (code "-") p-is)
  four false true r s b p-is q-is r-is s-is is = ap prints (eqb-true b (code ".") q-is)
  four false false true s b p-is q-is r-is s-is is = ap prints (eqb-true b (code "'") r-is)
  four false false false true b p-is q-is r-is s-is is = ap prints (eqb-true b (code "`") s-is)
  four false false false false b p-is q-is r-is s-is is = absurd (let wrong : false ≡ true = is in cc)

  plain-printed : (b : ℕ) → is_plain b ≡ true → prints b ≡ true
  plain-printed b is = four (b == code "-") (b == code ".") (b == code "'") (b == code "`") b refl refl refl refl is

  module _ (m : Mode) where
    hears : (c : Bool) (x y : Event) → IsHeard x m → IsHeard y m → IsHeard (if c then x else y) m
    hears true x y first second = first
    hears false x y first second = second

    hears-plain : (c : Bool) (b : ℕ) (y : Event) → IsAmong set b → (c ≡ true → prints b ≡ true) → IsHeard y m → IsHeard (if c then events.Plain b else y) m
    hears-plain true b y among is second = (among, any (is_titled m) b (is refl))
    hears-plain false b y among is second = second

    other-heard : (titled : Bool) (b : ℕ) → IsAmong set b → is_titled m ≡ titled → IsHeard (if titled then events.Plain b else events.Byte b) m
    other-heard true b among is = (among, in-title (is_titled m) b is)
    other-heard false b among is = among

    afterwards-heard : (titled : Bool) (b : ℕ) → IsAmong set b → is_titled m ≡ titled → IsHeard (event_after b titled) m
    afterwards-heard titled b among is =
        let a9 : Event = other_byte titled b in
        let a8 : Event = if b == code "t" then events.Tab else a9 in
        let a7 : Event = if b == code "a" then events.Leader else a8 in
        let a6 : Event = if b == code "p" then events.BreakWord else a7 in
        let a5 : Event = if b == code "%" then events.Percent else a6 in
        let a4 : Event = if is_plain b then events.Plain b else a5 in
        let a3 : Event = if is_nothing b then events.Nothing else a4 in
        let a2 : Event = if (b == code " ") || (b == code "0") then events.Fixed else a3 in
        let a1 : Event = if b == code "&" then events.Zero else a2 in
        let h9 : IsHeard a9 m =
        hears (b == code "\t") events.Tab (if b == 1 then events.Leader else (if titled then events.Plain b else events.Byte b)) tt
        (hears (b == 1) events.Leader (if titled then events.Plain b else events.Byte b) tt (other-heard titled b among is)) in
        let h5 : IsHeard a5 m = hears (b == code "%") events.Percent a6 tt (hears (b == code "p") events.BreakWord a7 tt (hears (b == code "a") events.Leader a8 tt (hears (b == code "t") events.Tab a9 tt h9))) in
        let h4 : IsHeard a4 m = hears-plain (is_plain b) b a5 among (plain-printed b) h5 in
        hears-plain ((b == code "\\") || (b == code "e")) (code "\\") a1 refl (λ yes. refl)
        (hears (b == code "&") events.Zero a2 tt (hears ((b == code " ") || (b == code "0")) events.Fixed a3 tt (hears (is_nothing b) events.Nothing a4 tt h4)))

  text-afterwards : (c : Bool) → is_titled (if c then modes.Interrupted else modes.Text) ≡ false
  text-afterwards true = refl
  text-afterwards false = refl

  afterwards-titled : (b : ℕ) (m : Mode) → is_titled (after_escape b m) ≡ is_titled m
  afterwards-titled b modes.Text = text-afterwards (b == code "c")
  afterwards-titled b m = refl

  text-held : (c : Bool) → IsHeld (if c then modes.Interrupted else modes.Text)
  text-held true = tt
  text-held false = tt

  afterwards-held : (b : ℕ) (m : Mode) → IsHeld m → IsHeld (after_escape b m)
  afterwards-held b modes.Text k = text-held (b == code "c")
  afterwards-held b m k = k

  in-text : (b : ℕ) (a : Option Ask) (r : Reading) → IsAmong set b → IsPending set r.pending_act → IsHeld r.mode → Tells (escape_in_text b a r)
  in-text b (Some a) r among h j = record { heard = tt; pending_act = assumption; held = assumption; note = tt }
  in-text b None r among h j = record { heard = afterwards-heard (after_escape b r.mode) (is_titled r.mode) b among (afterwards-titled b r.mode); pending_act = assumption; held = afterwards-held b r.mode j; note = tt }

  at-start : (b : ℕ) (r : Reading) → IsPending set r.pending_act → IsHeld r.mode → Tells (escape_at_start b r)
  at-start b r h j = choose (b == code "!") (go (plain (to modes.Transparent r))) (leave (continuing false (to modes.Text r))) (record { heard = tt; pending_act = assumption; held = assumption; note = tt }) (record { heard = tt; pending_act = assumption; held = assumption; note = tt })

  by-mode : (b : ℕ) (long : Bool) (m : Mode) (r : Reading) → IsAmong set b → IsPending set r.pending_act → IsHeld r.mode → Tells (escape_by b long m r)
  by-mode b long modes.Start r among h j = at-start b r h j
  by-mode b long modes.Diverting r among h j = at-start b r h j
  by-mode b long (modes.Leading n) r among h j = record { heard = tt; pending_act = assumption; held = assumption; note = tt }
  by-mode b long modes.Continued r among h j = record { heard = tt; pending_act = assumption; held = assumption; note = tt }
  by-mode b long modes.Interrupted r among h j = record { heard = tt; pending_act = assumption; held = assumption; note = tt }
  by-mode b long m r among h j = in-text b (asked_in_text b long) r among h j

  spliced-or : (b : ℕ) (k : Option Kind) (long : Bool) (r : Reading) → IsAmong set b → IsPending set r.pending_act → IsHeld r.mode → Tells (spliced_or b k long r)
  spliced-or b (Some k) long r among h j = record { heard = tt; pending_act = assumption; held = assumption; note = tt }
  spliced-or b None long r among h j =
      choose (b == code "\n") (go (plain r)) (if b == code "\"" then go (escaping escapes.Comment r) else escape_by b long r.mode r) (record { heard = tt; pending_act = assumption; held = assumption; note = tt })
      (choose (b == code "\"") (go (escaping escapes.Comment r)) (escape_by b long r.mode r) (record { heard = tt; pending_act = assumption; held = assumption; note = tt }) (by-mode b long r.mode r among h j))

  lone : (m : Mode) (r : Reading) → IsPending set r.pending_act → IsHeld r.mode → Tells (lone_escape m r)
  lone modes.Start r h j = record { heard = tt; pending_act = assumption; held = assumption; note = tt }
  lone modes.Diverting r h j = record { heard = tt; pending_act = assumption; held = assumption; note = tt }
  lone (modes.Leading n) r h j = record { heard = tt; pending_act = assumption; held = assumption; note = tt }
  lone modes.Continued r h j = record { heard = tt; pending_act = assumption; held = assumption; note = tt }
  lone modes.Interrupted r h j = record { heard = tt; pending_act = assumption; held = assumption; note = tt }
  lone m r h j = record { heard = tt; pending_act = assumption; held = assumption; note = tt }

  escaped-tells : (f : NextItem) (long : Bool) (r : Reading) → IsPending set r.pending_act → IsHeld r.mode → IsNextItem set f → Tells (escaped f long r)
  escaped-tells next_items.Mark long r h j is = record { heard = tt; pending_act = assumption; held = assumption; note = tt }
  escaped-tells (next_items.Byte b) long r h j is = spliced-or b (interpolated b) long r is h j
  escaped-tells f long r h j is = lone r.mode r h j

  -- ---- items as they are

  start_byte-tells : (b : ℕ) (s : Signs) (r : Reading) → IsAmong set b → IsPending set r.pending_act → IsHeld r.mode → Tells (start_byte b s r)
  start_byte-tells b s r is h j =
      let c5 : Step = if b == code " " then start_blank r else in_text (events.Byte b) r in
      let c4 : Step = if b == code "\\" then begin_escape r else c5 in
      let c3 : Step = if b == code "\n" then start_newline r else c4 in
      let c2 : Step = if b == s.no_break then start_control true r else c3 in
      choose (b == s.control) (start_control false r) c2 (record { heard = tt; pending_act = assumption; held = assumption; note = tt })
      (choose (b == s.no_break) (start_control true r) c3 (record { heard = tt; pending_act = assumption; held = assumption; note = tt })
      (choose (b == code "\n") (start_newline r) c4 (choose r.continued (tell events.EndContinued (continuing false r)) (tell events.Empty r) (record { heard = tt; pending_act = assumption; held = assumption; note = tt }) (record { heard = tt; pending_act = assumption; held = assumption; note = tt }))
      (choose (b == code "\\") (begin_escape r) c5 (record { heard = tt; pending_act = assumption; held = assumption; note = tt })
      (choose (b == code " ") (start_blank r) (in_text (events.Byte b) r)
      (choose r.continued (tell (events.Byte (code " ")) (continuing false (to modes.Continued r))) (tell events.Leading (to (modes.Leading 1) r)) (record { heard = refl; pending_act = assumption; held = assumption; note = tt }) (record { heard = tt; pending_act = assumption; held = assumption; note = tt }))
      (record { heard = is; pending_act = assumption; held = assumption; note = tt })))))

  start-tells : (f : NextItem) (s : Signs) (r : Reading) → IsPending set r.pending_act → IsHeld r.mode → IsNextItem set f → Tells (start f s r)
  start-tells next_items.Mark s r h j is = record { heard = tt; pending_act = assumption; held = assumption; note = tt }
  start-tells (next_items.Byte b) s r h j is = start_byte-tells b s r is h j
  start-tells (next_items.Cell x) s r h j is = record { heard = tt; pending_act = assumption; held = assumption; note = tt }
  start-tells (next_items.LineEnd n) s r h j is = record { heard = tt; pending_act = assumption; held = assumption; note = tt }
  start-tells next_items.Resume s r h j is = record { heard = tt; pending_act = assumption; held = assumption; note = tt }
  start-tells next_items.Over s r h j is = record { heard = tt; pending_act = assumption; held = assumption; note = tt }

  leading-tells : (f : NextItem) (n : ℕ) (r : Reading) → IsPending set r.pending_act → IsHeld r.mode → Tells (leading f n r)
  leading-tells next_items.Mark n r h j = record { heard = tt; pending_act = assumption; held = assumption; note = tt }
  leading-tells (next_items.Byte b) n r h j =
      let c3 : Step = if b == code "\\" then begin_escape r else text_after_blanks n r in
      let c2 : Step = if b == code " " then go (to (modes.Leading (one_blank_more n)) r) else c3 in
      choose (b == code "\n") (tell events.Empty (to modes.Start r)) c2 (record { heard = tt; pending_act = assumption; held = assumption; note = tt })
      (choose (b == code " ") (go (to (modes.Leading (one_blank_more n)) r)) c3 (record { heard = tt; pending_act = assumption; held = assumption; note = tt })
      (choose (b == code "\\") (begin_escape r) (text_after_blanks n r) (record { heard = tt; pending_act = assumption; held = assumption; note = tt }) (record { heard = tt; pending_act = assumption; held = assumption; note = tt })))
  leading-tells (next_items.Cell x) n r h j = record { heard = tt; pending_act = assumption; held = assumption; note = tt }
  leading-tells (next_items.LineEnd k) n r h j = record { heard = tt; pending_act = assumption; held = assumption; note = tt }
  leading-tells next_items.Resume n r h j = record { heard = tt; pending_act = assumption; held = assumption; note = tt }
  leading-tells next_items.Over n r h j = record { heard = tt; pending_act = assumption; held = assumption; note = tt }

  continued-tells : (f : NextItem) (r : Reading) → IsPending set r.pending_act → IsHeld r.mode → IsNextItem set f → Tells (continued f r)
  continued-tells next_items.Mark r h j is = record { heard = tt; pending_act = assumption; held = assumption; note = tt }
  continued-tells (next_items.Byte b) r h j is =
      let c3 : Step = if b == code "\\" then begin_escape r else in_text (events.Byte b) r in
      let c2 : Step = if b == code " " then tell (events.Byte (code " ")) r else c3 in
      choose (b == code "\n") (tell events.EndContinued (end_continued r)) c2 (record { heard = tt; pending_act = assumption; held = assumption; note = tt })
      (choose (b == code " ") (tell (events.Byte (code " ")) r) c3 (record { heard = refl; pending_act = assumption; held = assumption; note = tt })
      (choose (b == code "\\") (begin_escape r) (in_text (events.Byte b) r) (record { heard = tt; pending_act = assumption; held = assumption; note = tt }) (record { heard = is; pending_act = assumption; held = assumption; note = tt })))
  continued-tells (next_items.Cell x) r h j is = record { heard = is; pending_act = assumption; held = assumption; note = tt }
  continued-tells (next_items.LineEnd k) r h j is = record { heard = tt; pending_act = assumption; held = assumption; note = tt }
  continued-tells next_items.Resume r h j is = record { heard = tt; pending_act = assumption; held = assumption; note = tt }
  continued-tells next_items.Over r h j is = record { heard = tt; pending_act = assumption; held = assumption; note = tt }

  -- an end of a text line
  end-heard : (c : Bool) (m : Mode) → IsHeard (if c then events.EndInterrupted else events.EndLine) m
  end-heard true m = tt
  end-heard false m = tt

  text-tells : (f : NextItem) (r : Reading) → IsPending set r.pending_act → IsHeld r.mode → IsNextItem set f → Tells (text f r)
  text-tells next_items.Mark r h j is = record { heard = tt; pending_act = assumption; held = assumption; note = tt }
  text-tells (next_items.Byte b) r h j is =
      choose (b == code "\n") (tell (end_event r) (ended r)) (if b == code "\\" then begin_escape r else tell (events.Byte b) (to modes.Text r)) (record { heard = end-heard (is_interrupted r.mode) modes.Start; pending_act = assumption; held = assumption; note = tt })
      (choose (b == code "\\") (begin_escape r) (tell (events.Byte b) (to modes.Text r)) (record { heard = tt; pending_act = assumption; held = assumption; note = tt }) (record { heard = is; pending_act = assumption; held = assumption; note = tt }))
  text-tells (next_items.Cell x) r h j is = record { heard = is; pending_act = assumption; held = assumption; note = tt }
  text-tells (next_items.LineEnd k) r h j is = record { heard = end-heard (is_interrupted r.mode) modes.Start; pending_act = assumption; held = assumption; note = tt }
  text-tells next_items.Resume r h j is = record { heard = end-heard (is_interrupted r.mode) modes.Start; pending_act = assumption; held = assumption; note = tt }
  text-tells next_items.Over r h j is = record { heard = end-heard (is_interrupted r.mode) modes.Start; pending_act = assumption; held = assumption; note = tt }

  before_title-tells : (f : NextItem) (r : Reading) → IsPending set r.pending_act → IsHeld r.mode → Tells (before_title f r)
  before_title-tells next_items.Mark r h j = record { heard = tt; pending_act = assumption; held = assumption; note = tt }
  before_title-tells (next_items.Byte b) r h j =
      let c3 : Step = if is_blank b then go r else tell events.TitlePart (to (modes.Title b 0) r) in
      let c2 : Step = if b == code "\\" then begin_escape r else c3 in
      choose (b == code "\n") (tell events.TitleEnd (ended_title r)) c2 (record { heard = tt; pending_act = assumption; held = assumption; note = tt })
      (choose (b == code "\\") (begin_escape r) c3 (record { heard = tt; pending_act = assumption; held = assumption; note = tt })
      (choose (is_blank b) (go r) (tell events.TitlePart (to (modes.Title b 0) r)) (record { heard = tt; pending_act = assumption; held = assumption; note = tt }) (record { heard = tt; pending_act = assumption; held = assumption; note = tt })))
  before_title-tells (next_items.Cell x) r h j = record { heard = tt; pending_act = assumption; held = assumption; note = tt }
  before_title-tells (next_items.LineEnd k) r h j = record { heard = tt; pending_act = assumption; held = assumption; note = tt }
  before_title-tells next_items.Resume r h j = record { heard = tt; pending_act = assumption; held = assumption; note = tt }
  before_title-tells next_items.Over r h j = record { heard = tt; pending_act = assumption; held = assumption; note = tt }

  next_part-pending_act : (d n : ℕ) (r : Reading) → IsPending set r.pending_act → IsPending set (next_part d n r).pending_act
  next_part-pending_act d n r h = by (n == 0) (n == 1)
    where
      by : (x y : Bool) → IsPending set (if x then to (modes.Title d 1) r else (if y then to (modes.Title d 2) r else to modes.TitleRest r)).pending_act
      by true y = h
      by false true = h
      by false false = h

  next_part-held : (d n : ℕ) (r : Reading) → IsHeld (next_part d n r).mode
  next_part-held d n r = by (n == 0) (n == 1)
    where
      by : (x y : Bool) → IsHeld (if x then to (modes.Title d 1) r else (if y then to (modes.Title d 2) r else to modes.TitleRest r)).mode
      by true y = tt
      by false true = tt
      by false false = tt

  title-tells : (f : NextItem) (d n : ℕ) (r : Reading) → IsPending set r.pending_act → IsHeld r.mode → IsNextItem set f → Tells (title f d n r)
  title-tells next_items.Mark d n r h j is = record { heard = tt; pending_act = assumption; held = assumption; note = tt }
  title-tells (next_items.Byte b) d n r h j is =
      let c3 : Step = if b == d then tell events.TitlePart (next_part d n r) else tell (events.Byte b) r in
      let c2 : Step = if b == code "\\" then begin_escape r else c3 in
      choose (b == code "\n") (tell events.TitleEnd (ended_title r)) c2 (record { heard = tt; pending_act = assumption; held = assumption; note = tt })
      (choose (b == code "\\") (begin_escape r) c3 (record { heard = tt; pending_act = assumption; held = assumption; note = tt })
      (choose (b == d) (tell events.TitlePart (next_part d n r)) (tell (events.Byte b) r) (record { heard = tt; pending_act = next_part-pending_act d n r h; held = next_part-held d n r; note = tt }) (record { heard = is; pending_act = assumption; held = assumption; note = tt })))
  title-tells (next_items.Cell x) d n r h j is = record { heard = is; pending_act = assumption; held = assumption; note = tt }
  title-tells (next_items.LineEnd k) d n r h j is = record { heard = tt; pending_act = assumption; held = assumption; note = tt }
  title-tells next_items.Resume d n r h j is = record { heard = tt; pending_act = assumption; held = assumption; note = tt }
  title-tells next_items.Over d n r h j is = record { heard = tt; pending_act = assumption; held = assumption; note = tt }

  diverted-tells : (f : NextItem) (r : Reading) → IsPending set r.pending_act → IsHeld r.mode → IsNextItem set f → Tells (diverted f r)
  diverted-tells next_items.Mark r h j is = record { heard = tt; pending_act = assumption; held = assumption; note = tt }
  diverted-tells (next_items.Cell x) r h j is = record { heard = is; pending_act = assumption; held = assumption; note = tt }
  diverted-tells (next_items.LineEnd k) r h j is = record { heard = tt; pending_act = assumption; held = assumption; note = tt }
  diverted-tells f r h j is = record { heard = tt; pending_act = assumption; held = assumption; note = tt }

  diverting-tells : (f : NextItem) (s : Signs) (r : Reading) → IsPending set r.pending_act → IsHeld r.mode → IsNextItem set f → Tells (diverting f s r)
  diverting-tells (next_items.Cell x) s r h j is = record { heard = is; pending_act = assumption; held = assumption; note = tt }
  diverting-tells (next_items.LineEnd k) s r h j is = record { heard = tt; pending_act = assumption; held = assumption; note = tt }
  diverting-tells f s r h j is = start-tells f s r h j is

  accepted-tells : (f : NextItem) (r : Reading) → IsPending set r.pending_act → IsHeld r.mode → Tells (accepted f r)
  accepted-tells next_items.Mark r h j = record { heard = tt; pending_act = assumption; held = assumption; note = tt }
  accepted-tells (next_items.Byte b) r h j =
      let c3 : Step = if b == code "\\" then begin_escape r else leave (to modes.Start r) in
      let c2 : Step = if b == code "\n" then go (to modes.Start r) else c3 in
      choose (is_blank b) (go r) c2 (record { heard = tt; pending_act = assumption; held = assumption; note = tt })
      (choose (b == code "\n") (go (to modes.Start r)) c3 (record { heard = tt; pending_act = assumption; held = assumption; note = tt })
      (choose (b == code "\\") (begin_escape r) (leave (to modes.Start r)) (record { heard = tt; pending_act = assumption; held = assumption; note = tt }) (record { heard = tt; pending_act = assumption; held = assumption; note = tt })))
  accepted-tells f r h j = record { heard = tt; pending_act = assumption; held = assumption; note = tt }

  accepted_escape-tells : (f : NextItem) (r : Reading) → IsPending set r.pending_act → IsHeld r.mode → Tells (accepted_escape f r)
  accepted_escape-tells next_items.Mark r h j = record { heard = tt; pending_act = assumption; held = assumption; note = tt }
  accepted_escape-tells (next_items.Byte b) r h j = choose (b == code "{") (go (plain r)) (leave (to modes.Start r)) (record { heard = tt; pending_act = assumption; held = assumption; note = tt }) (record { heard = tt; pending_act = assumption; held = assumption; note = tt })
  accepted_escape-tells f r h j = record { heard = tt; pending_act = assumption; held = assumption; note = tt }

  newline-tells : (n : ℕ) (r : Reading) → IsPending set r.pending_act → IsHeld r.mode → Tells (past_newline n r)
  newline-tells n r h j = choose (n == 0) (go (to modes.Start r)) (go r) (record { heard = tt; pending_act = assumption; held = assumption; note = tt }) (record { heard = tt; pending_act = assumption; held = assumption; note = tt })

  skip-tells : (f : NextItem) (n : ℕ) (r : Reading) → IsPending set r.pending_act → IsHeld r.mode → Tells (skip f n r)
  skip-tells (next_items.Byte b) n r h j =
      choose (b == code "\n") (past_newline n r) (if b == code "\\" then begin_escape r else go r) (newline-tells n r h j)
      (choose (b == code "\\") (begin_escape r) (go r) (record { heard = tt; pending_act = assumption; held = assumption; note = tt }) (record { heard = tt; pending_act = assumption; held = assumption; note = tt }))
  skip-tells (next_items.LineEnd k) n r h j = newline-tells n r h j
  skip-tells next_items.Resume n r h j = record { heard = tt; pending_act = assumption; held = assumption; note = tt }
  skip-tells next_items.Over n r h j = record { heard = tt; pending_act = assumption; held = assumption; note = tt }
  skip-tells f n r h j = record { heard = tt; pending_act = assumption; held = assumption; note = tt }

  skip_escape-tells : (f : NextItem) (n : ℕ) (r : Reading) → IsPending set r.pending_act → IsHeld r.mode → Tells (skip_escape f n r)
  skip_escape-tells next_items.Mark n r h j = record { heard = tt; pending_act = assumption; held = assumption; note = tt }
  skip_escape-tells (next_items.Byte b) n r h j = record { heard = tt; pending_act = assumption; held = assumption; note = tt }
  skip_escape-tells next_items.Resume n r h j = record { heard = tt; pending_act = assumption; held = assumption; note = tt }
  skip_escape-tells next_items.Over n r h j = record { heard = tt; pending_act = assumption; held = assumption; note = tt }
  skip_escape-tells f n r h j = record { heard = tt; pending_act = assumption; held = assumption; note = tt }

  unescaped-tells : (m : Mode) (f : NextItem) (s : Signs) (r : Reading) → IsPending set r.pending_act → IsHeld r.mode → IsNextItem set f → Tells (unescaped m f s r)
  unescaped-tells modes.Diverting f s r h j is = diverting-tells f s r h j is
  unescaped-tells (modes.Leading n) f s r h j is = leading-tells f n r h j
  unescaped-tells modes.Continued f s r h j is = continued-tells f r h j is
  unescaped-tells modes.Text f s r h j is = text-tells f r h j is
  unescaped-tells modes.Interrupted f s r h j is = text-tells f r h j is
  unescaped-tells modes.TitleBefore f s r h j is = before_title-tells f r h j
  unescaped-tells (modes.Title d n) f s r h j is = title-tells f d n r h j is
  unescaped-tells modes.Diverted f s r h j is = diverted-tells f r h j is
  unescaped-tells modes.Accepted f s r h j is = accepted-tells f r h j
  unescaped-tells (modes.Skip n) f s r h j is = skip-tells f n r h j
  unescaped-tells m f s r h j is = start-tells f s r h j is

  backslash-tells : (m : Mode) (f : NextItem) (s : Signs) (r : Reading) → IsPending set r.pending_act → IsHeld r.mode → IsNextItem set f → Tells (after_backslash m f s r)
  backslash-tells modes.Accepted f s r h j is = accepted_escape-tells f r h j
  backslash-tells (modes.Skip n) f s r h j is = skip_escape-tells f n r h j
  backslash-tells m f s r h j is = escaped-tells f s.long r h j is

  pub direct-tells : (e : Escape) (f : NextItem) (s : Signs) (r : Reading) → IsPending set r.pending_act → IsHeld r.mode → IsNextItem set f → Tells (direct_by e f s r)
  direct-tells escapes.Plain f s r h j is = unescaped-tells r.mode f s r h j is
  direct-tells escapes.Begun f s r h j is = backslash-tells r.mode f s r h j is
  direct-tells escapes.Comment f s r h j is =
      choose (ends_comment f) (unescaped r.mode f s (plain r)) (go r) (unescaped-tells r.mode f s (plain r) h j is) (record { heard = tt; pending_act = assumption; held = assumption; note = tt })
