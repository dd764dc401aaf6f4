-- What is read while a text is copied, and what either way of reading tells.
use Prim.Native.Char.{code}
use Rattle.std.specs.Prelude.{nat_le, nat_lt, not, drop, slice_index, length, ◌||◌, ◌&&◌}
use Rattle.std.specs.List.{All}
use Rattle.std.proofs.lemmas.Bool.{and_parts, ltb-true}
use Rattle.std.proofs.lemmas.List.Elements.{All-nil, All-cons, All-head, All-tail, All-push}
use Rattle.std.proofs.Common.{◌≡◌, ℕ, ◌+◌, ◌<◌, ◌≤◌, ◌==◌, Bool, true, false, if◌then◌else◌, List, [], ◌∷◌, ◌++◌, Option, None, Some, refl, arith}
use Rattle.nr_reading.specs.declared.ask.Ask.{Ask}
use Rattle.nr_reading.specs.declared.ask.Kind.{Kind}
use Rattle.nr_reading.specs.declared.ask.Sign.{Sign}
use Rattle.nr_reading.specs.declared.ask.Sign.TheVariants as signs
use Rattle.nr_reading.specs.declared.ask.Kind.TheVariants as kinds
use Rattle.nr_reading.specs.declared.ask.Stage.{Stage}
use Rattle.nr_reading.specs.declared.ask.Stage.TheVariants as stages
use Rattle.nr_reading.specs.declared.notes.Defining.{Defining}
use Rattle.nr_reading.specs.declared.event.Event.TheVariants as events
use Rattle.nr_reading.specs.declared.event.Question.TheVariants as questions
use Rattle.nr_reading.specs.declared.next_item.NextItem.{NextItem}
use Rattle.nr_reading.specs.declared.next_item.NextItem.TheVariants as next_items
use Rattle.nr_reading.specs.declared.half.Half.{Half}
use Rattle.nr_reading.specs.declared.mode.PendingAct.TheVariants as pending_acts
use Rattle.nr_reading.specs.declared.mode.Escape.{Escape}
use Rattle.nr_reading.specs.declared.mode.Escape.TheVariants as escapes
use Rattle.nr_reading.specs.declared.mode.Mode.{Mode}
use Rattle.nr_reading.specs.declared.mode.Mode.TheVariants as modes
use Rattle.nr_reading.specs.declared.mode.Reading.{Reading}
use Rattle.nr_reading.specs.declared.mode.Signs.{Signs}
use Rattle.nr_reading.specs.declared.spelled.Spelled.{Spelled}
use Rattle.nr_reading.specs.Ask.{at_stage, of_kind, has_text, with_byte, spoiled, begun_ask, answer, answer_byte, argument_asked, answer_first, answer_two, answer_bracket, answer_digit, cut, is_argument, is_digit, is_given, is_unsigned, reads_argument}
use Rattle.nr_reading.specs.Conditions.{begins_number, read_condition_byte, read_condition, parentheses}
use Rattle.nr_reading.specs.Control.{completes, read_name, read_macro_gap}
use Rattle.nr_reading.specs.Definitions.{last_line, ends_whole, kept_byte, released, in_body, not_last, nearer_last, read_body_start, over_body_start}
use Rattle.nr_reading.specs.Delimited.{Texts, begun_text, with_byte_in, ended_of, ended_text}
use Rattle.nr_reading.specs.Kept.{kept}
use Rattle.nr_reading.specs.Ended.{pending_of, event_of}
use Rattle.nr_reading.specs.Half.{TakenIn, take_in, taken_in_directly, taken_in_copied, answered, settled, replaced, finished, offered, hear_by, over_by, offer_to, take_in_by, asking, too_deep, escaping as escaping_half}
use Rattle.nr_reading.specs.Mode.{is_direct, reads_arguments}
use Rattle.nr_reading.specs.Escape.{offer, offer_byte, raw_offer, escaped as copied_escape}
use Rattle.nr_reading.specs.Nesting.{may_nest, pushed}
use Rattle.nr_reading.specs.Notes.{Note}
use Rattle.nr_reading.specs.Notes as notes
use Rattle.nr_reading.specs.declared.notes.Notes.{Notes}
use Rattle.nr_reading.specs.Noting.{are_equal, noted}
use Rattle.nr_reading.specs.Reader.{read_by, read, read_over_by, read_over, direct}
use Rattle.nr_reading.specs.Spelled.{is_blank, is_empty, ends_name, name_of}
use Rattle.nr_reading.specs.Step.{Step, to, pending_act, go, leave, tell, noting, leave_telling, leave_noting}
use Rattle.nr_reading.specs.Strings.{after_string_name, read_string_name}
use Rattle.nr_reading.specs.Titles.{ended_title}
use Rattle.nr_settings.specs.Characters.{prints}
use Rattle.nr_laws.specs.Printed.{is_among}
use Rattle.nr_laws.proofs.PrintedLines.{IsAmong, AreAmong, either}
use Rattle.nr_laws.proofs.PrintedItems.{IfAmong, IsPending, IsNextItem}
use Rattle.nr_laws.proofs.PrintedDirect.{IsHeard, IsHeld, IsHalf, IsNoted, AreTexts, Tells, choose, direct-tells}

module _ (set : ℕ → Bool) where
  -- ---- copied elements

  condition_byte-tells : (b : ℕ) (r : Reading) → IsPending set r.pending_act → IsHeld set r.mode → Tells set (read_condition_byte b r)
  condition_byte-tells b r h k =
      let c5 : Step = if begins_number b then leave_noting notes.NewLine (to (modes.Number 0) r) else noting notes.Strings (to (modes.First b) r) in
      let c4 : Step = if b == code "n" then go (pending_act (pending_acts.Judge true) r) else c5 in
      let c3 : Step = if b == code "t" then go (pending_act (pending_acts.Judge false) r) else c4 in
      let c2 : Step = if b == code "e" then tell (events.Judge questions.Even) (to (modes.Skip 0) r) else c3 in
      choose set (b == code "o") (tell (events.Judge questions.Odd) (to (modes.Skip 0) r)) c2 (record { heard = tt; pending_act = assumption; held = assumption; note = tt })
      (choose set (b == code "e") (tell (events.Judge questions.Even) (to (modes.Skip 0) r)) c3 (record { heard = tt; pending_act = assumption; held = assumption; note = tt })
      (choose set (b == code "t") (go (pending_act (pending_acts.Judge false) r)) c4 (record { heard = tt; pending_act = assumption; held = assumption; note = tt })
      (choose set (b == code "n") (go (pending_act (pending_acts.Judge true) r)) c5 (record { heard = tt; pending_act = assumption; held = assumption; note = tt })
      (choose set (begins_number b) (leave_noting notes.NewLine (to (modes.Number 0) r)) (noting notes.Strings (to (modes.First b) r)) (record { heard = tt; pending_act = assumption; held = assumption; note = tt }) (record { heard = tt; pending_act = assumption; held = assumption; note = tt })))))

  condition-tells : (b : ℕ) (negated : Bool) (r : Reading) → IsPending set r.pending_act → IsHeld set r.mode → Tells set (read_condition b negated r)
  condition-tells b negated r h k =
      let blank : Step = if negated then leave (pending_act (pending_acts.Judge false) r) else go r in
      let c3 : Step = if (b == code "!") && not negated then noting notes.Negated r else read_condition_byte b r in
      let c2 : Step = if is_blank b then blank else c3 in
      choose set (b == code "\n") (leave (pending_act (pending_acts.Judge false) r)) c2 (record { heard = tt; pending_act = assumption; held = assumption; note = tt })
      (choose set (is_blank b) blank c3 (choose set negated (leave (pending_act (pending_acts.Judge false) r)) (go r) (record { heard = tt; pending_act = assumption; held = assumption; note = tt }) (record { heard = tt; pending_act = assumption; held = assumption; note = tt }))
      (choose set ((b == code "!") && not negated) (noting notes.Negated r) (read_condition_byte b r) (record { heard = tt; pending_act = assumption; held = assumption; note = tt }) (condition_byte-tells b r h k)))

  kept-pending_act : (c : Bool) (b : ℕ) → IsAmong set b → IsPending set (if c then pending_acts.Add b else pending_acts.Look)
  kept-pending_act true b among = among
  kept-pending_act false b among = tt

  released-pending_act : (c : Bool) (held : ℕ) (b : Option ℕ) → held ≤ 33 → IfAmong set b → IsPending set (if c then pending_acts.Release held 0 b else pending_acts.Look)
  released-pending_act true held b few among = (few, among)
  released-pending_act false held b few among = tt

  body-held : (c : Bool) → IsHeld set (if c then modes.BodyStart 0 else modes.Body)
  body-held true = omega arith
  body-held false = tt

  -- the bytes of the line that ends a definition: `.` and a name, or two dots
  ending-le : (name : List ℕ) → length name ≤ 32 → length (if is_empty name then code "." ∷ [] else name) ≤ 32
  ending-le [] few = omega arith
  ending-le (b ∷ bs) few = few

  nearer-held : (c : Bool) (held : ℕ) → held < 33 → IsHeld set (if c then modes.BodyEnd else modes.BodyStart (held + 1))
  nearer-held true held less = tt
  nearer-held false held less = omega (arith, less)

  name-pending_act : (c : Bool) (r : Reading) → IsPending set r.pending_act → IsPending set (if c then to modes.Drop r else to modes.StringBlanks r).pending_act
  name-pending_act true r h = h
  name-pending_act false r h = h

  name-held : (c : Bool) (r : Reading) → IsHeld set (if c then to modes.Drop r else to modes.StringBlanks r).mode
  name-held true r = tt
  name-held false r = tt

  not_last-tells : (b : ℕ) (d : Defining) (held : ℕ) (r : Reading) → IsAmong set b → IsPending set r.pending_act → held ≤ 33 → Tells set (not_last b d held r)
  not_last-tells b d held r among h few =
      let there = body-held (b == code "\n") in
      choose set (held == 0) (go (pending_act (kept_byte d b) (to (in_body b) r))) (go (pending_act (released d held (Some b)) (to (in_body b) r)))
      (record { heard = tt; pending_act = kept-pending_act d.keeps b among; held = there; note = tt }) (record { heard = tt; pending_act = released-pending_act d.keeps held (Some b) few among; held = there; note = tt })

  nearer-tells : (d : Defining) (held : ℕ) (r : Reading) → IsPending set r.pending_act → length d.ending ≤ 32 → nat_lt held (length (last_line d)) ≡ true → Tells set (go (to (nearer_last d held) r))
  nearer-tells d held r h ends less =
      let within = ltb-true held (length (last_line d)) less in
      let most = ending-le d.ending ends in
      record { heard = tt; pending_act = h; held = nearer-held ((held + 1 == length (last_line d)) && not (ends_whole d)) held (omega (arith, within, most)); note = tt }

  body_start-tells : (b : ℕ) (d : Defining) (held : ℕ) (r : Reading) → IsAmong set b → IsPending set r.pending_act → held ≤ 33 → length d.ending ≤ 32 → Tells set (read_body_start b d held r)
  body_start-tells b d held r among h few ends = by (nat_lt held (length (last_line d))) refl
    where
      by : (c : Bool) → nat_lt held (length (last_line d)) ≡ c
          → Tells set (if c then (if b == slice_index (last_line d) held then go (to (nearer_last d held) r) else not_last b d held r)
          else (if (b == code "\n") || is_blank b then leave (to modes.BodyEnd r) else not_last b d held r))
      by true less =
          choose set (b == slice_index (last_line d) held) (go (to (nearer_last d held) r)) (not_last b d held r) (nearer-tells d held r h ends less) (not_last-tells b d held r among h few)
      by false less =
          choose set ((b == code "\n") || is_blank b) (leave (to modes.BodyEnd r)) (not_last b d held r) (record { heard = tt; pending_act = h; held = tt; note = tt }) (not_last-tells b d held r among h few)

  body_over-tells : (d : Defining) (held : ℕ) (r : Reading) → IsPending set r.pending_act → held ≤ 33 → Tells set (over_body_start d held r)
  body_over-tells d held r h few =
      choose set (held == 0) (leave (pending_act pending_acts.Define (to modes.Start r)))
      (if nat_lt held (length (last_line d)) then leave (pending_act (released d held None) (to modes.Body r)) else leave (to modes.BodyEnd r)) (record { heard = tt; pending_act = tt; held = tt; note = tt })
      (choose set (nat_lt held (length (last_line d))) (leave (pending_act (released d held None) (to modes.Body r))) (leave (to modes.BodyEnd r))
      (record { heard = tt; pending_act = released-pending_act d.keeps held None few tt; held = tt; note = tt }) (record { heard = tt; pending_act = h; held = tt; note = tt }))

  name-tells : (b : ℕ) (long : Bool) (name : Spelled) (r : Reading) → IsPending set r.pending_act → IsHeld set r.mode → Tells set (read_name b long name r)
  name-tells b long name r h k =
      choose set (ends_name b) (leave (pending_act pending_acts.Seek r)) (if completes long name then noting (notes.Name b) (pending_act pending_acts.Seek r) else noting (notes.Name b) r) (record { heard = tt; pending_act = assumption; held = assumption; note = tt })
      (choose set (completes long name) (noting (notes.Name b) (pending_act pending_acts.Seek r)) (noting (notes.Name b) r) (record { heard = tt; pending_act = assumption; held = assumption; note = tt }) (record { heard = tt; pending_act = assumption; held = assumption; note = tt }))

  gap-tells : (b : ℕ) (r : Reading) → IsAmong set b → IsPending set r.pending_act → IsHeld set r.mode → Tells set (read_macro_gap b r)
  gap-tells b r among h k =
      let c3 : Step = if b == code "\"" then go (to modes.Quoted r) else go (pending_act (pending_acts.Put b) (to modes.Word r)) in
      choose set (b == code "\n") (go (pending_act pending_acts.Call (to modes.Start r))) (if b == code " " then go r else c3) (record { heard = tt; pending_act = assumption; held = assumption; note = tt })
      (choose set (b == code " ") (go r) c3 (record { heard = tt; pending_act = assumption; held = assumption; note = tt })
      (choose set (b == code "\"") (go (to modes.Quoted r)) (go (pending_act (pending_acts.Put b) (to modes.Word r))) (record { heard = tt; pending_act = assumption; held = assumption; note = tt }) (record { heard = tt; pending_act = assumption; held = assumption; note = tt })))

  string_name-tells : (b : ℕ) (long : Bool) (name : Spelled) (r : Reading) → IsPending set r.pending_act → IsHeld set r.mode → Tells set (read_string_name b long name r)
  string_name-tells b long name r h k =
      choose set (ends_name b) (leave (after_string_name name r)) (if completes long name then noting (notes.Name b) (to modes.StringBlanks r) else noting (notes.Name b) r)
      (record { heard = tt; pending_act = name-pending_act (is_empty (name_of name)) r h; held = name-held (is_empty (name_of name)) r; note = tt })
      (choose set (completes long name) (noting (notes.Name b) (to modes.StringBlanks r)) (noting (notes.Name b) r) (record { heard = tt; pending_act = assumption; held = assumption; note = tt }) (record { heard = tt; pending_act = assumption; held = assumption; note = tt }))

  two-tell : (c d : Bool) (x y z : Step) → Tells set x → Tells set y → Tells set z → Tells set (if c then x else (if d then y else z))
  two-tell c d x y z a b e = choose set c x (if d then y else z) a (choose set d y z b e)

  read-tells : (m : Mode) (b : ℕ) (s : Signs) (n : Notes) (r : Reading) → IsAmong set b → IsPending set r.pending_act → IsHeld set r.mode → IsHeld set m → length n.defining.ending ≤ 32 → Tells set (read_by m b s n r)
  read-tells modes.Control b s n r among h k j ends = choose set (is_blank b) (go r) (leave (to modes.Name r)) (record { heard = tt; pending_act = assumption; held = assumption; note = tt }) (record { heard = tt; pending_act = assumption; held = assumption; note = tt })
  read-tells modes.Name b s n r among h k j ends = name-tells b s.long n.name r h k
  read-tells modes.Drop b s n r among h k j ends = choose set (b == code "\n") (go (to modes.Start r)) (go r) (record { heard = tt; pending_act = assumption; held = assumption; note = tt }) (record { heard = tt; pending_act = assumption; held = assumption; note = tt })
  read-tells modes.TitleRest b s n r among h k j ends = choose set (b == code "\n") (tell events.TitleEnd (ended_title r)) (go r) (record { heard = tt; pending_act = assumption; held = assumption; note = tt }) (record { heard = tt; pending_act = assumption; held = assumption; note = tt })
  read-tells modes.RequestBlanks b s n r among h k j ends = choose set (is_blank b) (go r) (leave_noting notes.NewLine (to modes.RequestLine r)) (record { heard = tt; pending_act = assumption; held = assumption; note = tt }) (record { heard = tt; pending_act = assumption; held = assumption; note = tt })
  read-tells modes.RequestLine b s n r among h k j ends = choose set (b == code "\n") (tell events.Request (to modes.Start r)) (noting (notes.Line b) r) (record { heard = tt; pending_act = assumption; held = assumption; note = tt }) (record { heard = tt; pending_act = assumption; held = assumption; note = among })
  read-tells modes.MacroBlanks b s n r among h k j ends = choose set (is_blank b) (go r) (leave (to modes.MacroGap r)) (record { heard = tt; pending_act = assumption; held = assumption; note = tt }) (record { heard = tt; pending_act = assumption; held = assumption; note = tt })
  read-tells modes.MacroGap b s n r among h k j ends = gap-tells b r among h k
  read-tells modes.Word b s n r among h k j ends =
      two-tell (b == code "\n") (b == code " ") (leave (pending_act pending_acts.EndArgument (to modes.MacroGap r))) (go (pending_act pending_acts.EndArgument (to modes.MacroGap r))) (go (pending_act (pending_acts.Put b) r)) (record { heard = tt; pending_act = assumption; held = assumption; note = tt }) (record { heard = tt; pending_act = assumption; held = assumption; note = tt }) (record { heard = tt; pending_act = assumption; held = assumption; note = tt })
  read-tells modes.Quoted b s n r among h k j ends =
      two-tell (b == code "\n") (b == code "\"") (leave (pending_act pending_acts.EndArgument (to modes.MacroGap r))) (go (to modes.Quote r)) (go (pending_act (pending_acts.Put b) r)) (record { heard = tt; pending_act = assumption; held = assumption; note = tt }) (record { heard = tt; pending_act = assumption; held = assumption; note = tt }) (record { heard = tt; pending_act = assumption; held = assumption; note = tt })
  read-tells modes.Quote b s n r among h k j ends =
      choose set (b == code "\"") (go (pending_act (pending_acts.Put (code "\"")) (to modes.Quoted r))) (leave (pending_act pending_acts.EndArgument (to modes.MacroGap r))) (record { heard = tt; pending_act = refl; held = assumption; note = tt }) (record { heard = tt; pending_act = assumption; held = assumption; note = tt })
  read-tells modes.StringBefore b s n r among h k j ends = choose set (is_blank b) (go r) (leave_noting notes.NewName (to modes.StringName r)) (record { heard = tt; pending_act = assumption; held = assumption; note = tt }) (record { heard = tt; pending_act = assumption; held = assumption; note = tt })
  read-tells modes.StringName b s n r among h k j ends = string_name-tells b s.long n.name r h k
  read-tells modes.StringBlanks b s n r among h k j ends =
      two-tell (is_blank b) (b == code "\"") (go r) (go (pending_act pending_acts.Begin (to modes.StringText r))) (leave (pending_act pending_acts.Begin (to modes.StringText r))) (record { heard = tt; pending_act = assumption; held = assumption; note = tt }) (record { heard = tt; pending_act = assumption; held = assumption; note = tt }) (record { heard = tt; pending_act = assumption; held = assumption; note = tt })
  read-tells modes.StringText b s n r among h k j ends = choose set (b == code "\n") (go (pending_act pending_acts.Define (to modes.Start r))) (go (pending_act (pending_acts.Add b) r)) (record { heard = tt; pending_act = assumption; held = assumption; note = tt }) (record { heard = tt; pending_act = assumption; held = assumption; note = tt })
  read-tells (modes.BodyStart held) b s n r among h k j ends = body_start-tells b n.defining held r among h j ends
  read-tells modes.Body b s n r among h k j ends = record { heard = tt; pending_act = kept-pending_act n.defining.keeps b among; held = body-held (b == code "\n"); note = tt }
  read-tells modes.BodyEnd b s n r among h k j ends = choose set (b == code "\n") (go (pending_act pending_acts.DefineAndCall (to modes.Start r))) (go r) (record { heard = tt; pending_act = assumption; held = assumption; note = tt }) (record { heard = tt; pending_act = assumption; held = assumption; note = tt })
  read-tells modes.Condition b s n r among h k j ends = condition-tells b n.condition.negated r h k
  read-tells (modes.Number depth) b s n r among h k j ends =
      choose set ((b == code "\n") || ((depth == 0) && (is_blank b || (b == code "\\")))) (leave_telling (events.Judge questions.Number) (to (modes.Skip 0) r))
      (noting (notes.Line b) (to (modes.Number (parentheses b depth)) r)) (record { heard = tt; pending_act = assumption; held = assumption; note = tt }) (record { heard = tt; pending_act = assumption; held = assumption; note = among })
  read-tells (modes.First d) b s n r among h k j ends =
      two-tell (b == code "\n") (b == d) (leave (pending_act (pending_acts.Judge (are_equal n.condition)) r)) (go (to (modes.Second d) r)) (noting (notes.First b) r) (record { heard = tt; pending_act = assumption; held = assumption; note = tt }) (record { heard = tt; pending_act = assumption; held = assumption; note = tt }) (record { heard = tt; pending_act = assumption; held = assumption; note = among })
  read-tells (modes.Second d) b s n r among h k j ends =
      two-tell (b == code "\n") (b == d) (leave (pending_act (pending_acts.Judge (are_equal n.condition)) r)) (go (pending_act (pending_acts.Judge (are_equal n.condition)) r)) (noting (notes.Second b) r) (record { heard = tt; pending_act = assumption; held = assumption; note = tt }) (record { heard = tt; pending_act = assumption; held = assumption; note = tt }) (record { heard = tt; pending_act = assumption; held = assumption; note = tt })
  read-tells modes.Transparent b s n r among h k j ends =
      choose set (b == code "\n") (go (pending_act (pending_acts.Add (code "\n")) (to modes.Start r))) (go (pending_act (pending_acts.Add b) r)) (record { heard = tt; pending_act = refl; held = assumption; note = tt }) (record { heard = tt; pending_act = assumption; held = assumption; note = tt })
  read-tells m b s n r among h k j ends = record { heard = tt; pending_act = assumption; held = assumption; note = tt }

  over-tells : (m : Mode) (s : Signs) (n : Notes) (r : Reading) → IsPending set r.pending_act → IsHeld set r.mode → IsHeld set m → length n.defining.ending ≤ 32 → Tells set (read_over_by m s n r)
  over-tells (modes.BodyStart held) s n r h k j ends = body_over-tells n.defining held r h j
  over-tells m s n r h k j ends = read-tells m (code "\n") s n r refl h k j ends

  -- ---- the next item

  pub record TakesIn (m : TakenIn) : Type 0 where
    pub heard : IsHeard set m.event m.half.reading.mode
    pub half : IsHalf set m.half

  pushed-few : (a : Ask) (asks : List Ask) → length asks ≤ 10 → length (pushed a asks) ≤ 10
  pushed-few a asks few = by (nat_lt (length asks) 10) refl
    where
      by : (c : Bool) → nat_lt (length asks) 10 ≡ c → length (if c then a ∷ asks else asks) ≤ 10
      by true less = let room = ltb-true (length asks) 10 less in omega (arith, room)
      by false less = few

  renewed-few : (a : Ask) (asks : List Ask) → length asks ≤ 10 → length (a ∷ drop 1 asks) ≤ 10
  renewed-few a [] few = omega arith
  renewed-few a (x ∷ asks) few = few

  fewer : (asks : List Ask) → length asks ≤ 10 → length (drop 1 asks) ≤ 10
  fewer [] few = omega arith
  fewer (x ∷ asks) few = omega (arith, few)

  -- ---- the arguments of escapes

  kept-among : (b : ℕ) (bs : List ℕ) → IsAmong set b → AreAmong set bs → AreAmong set (kept b bs)
  kept-among b bs is h = either (AreAmong set) (nat_lt (length bs) 256) (bs ++ b ∷ []) bs (All-push (IsAmong set) bs b h is) h

  asked-texts : (c : Bool) (t : Texts) → AreTexts set t → AreTexts set (if c then begun_text t else t)
  asked-texts true t h =
      let empty = All-nil (IsAmong set) in
      either (AreTexts set) (nat_lt (length t.begun) 10) (record { begun = [] ∷ t.begun; last = [] }) t (All-cons (AreAmong set) [] t.begun empty h.0, empty) h
  asked-texts false t h = h

  ended-by : (ts : List (List ℕ)) (t : Texts) → All (AreAmong set) ts → AreTexts set t → AreTexts set (ended_of ts t)
  ended-by [] t is h = h
  ended-by (x ∷ xs) t is h = (All-tail (AreAmong set) x xs is, All-head (AreAmong set) x xs is)

  ended-texts : (c : Bool) (t : Texts) → AreTexts set t → AreTexts set (if c then ended_text t else t)
  ended-texts true t h = ended-by t.begun t h.0 h
  ended-texts false t h = h

  byte-in : (b : ℕ) (ts : List (List ℕ)) → IsAmong set b → All (AreAmong set) ts → All (AreAmong set) (with_byte_in b ts)
  byte-in b [] is h = h
  byte-in b (t ∷ ts) is h = All-cons (AreAmong set) (kept b t) ts (kept-among b t is (All-head (AreAmong set) t ts h)) (All-tail (AreAmong set) t ts h)

  -- the line that is noted
  noted-line : (n : Note) (x : Notes) → IsNoted set n → AreAmong set x.line → AreAmong set (noted n x).line
  noted-line notes.NewLine x is h = All-nil (IsAmong set)
  noted-line notes.Strings x is h = All-nil (IsAmong set)
  noted-line (notes.Line b) x is h = kept-among b x.line is h
  noted-line (notes.First b) x is h = kept-among b x.line is h
  noted-line n x is h = h

  asking-half : (a : Ask) (h : Half) → IsHalf set h → IsHalf set (asking a h)
  asking-half a h is = record { pending_act = is.pending_act; held = is.held; few = pushed-few a h.asks is.few; ending = is.ending; ends = is.ends; line = is.line; texts = asked-texts (has_text a.kind) h.delimited is.texts }

  directly-by : (n : Note) (s : Step) (h : Half) → IsHalf set h → Tells set s → IsNoted set n → TakesIn (taken_in_directly (record s { note = n }) h)
  directly-by (notes.Begin a) s h is emitted note =
      record { heard = emitted.heard; half = record { pending_act = emitted.pending_act; held = emitted.held; few = pushed-few a h.asks is.few; ending = is.ending; ends = is.ends; line = is.line; texts = asked-texts (has_text a.kind) h.delimited is.texts } }
  directly-by n s h is emitted note =
      record { heard = emitted.heard; half = record { pending_act = emitted.pending_act; held = emitted.held; few = is.few; ending = is.ending; ends = is.ends; line = noted-line n h.notes note is.line; texts = is.texts } }

  directly : (s : Step) (h : Half) → IsHalf set h → Tells set s → TakesIn (taken_in_directly s h)
  directly s h is emitted = directly-by s.note s h is emitted emitted.note

  copied-by : (n : Note) (next_item : Bool) (s : Step) (h : Half) → IsHalf set h → Tells set s → IsNoted set n → TakesIn (taken_in_copied next_item (record s { note = n }) h)
  copied-by (notes.Begin a) next_item s h is emitted note =
      record { heard = emitted.heard; half = record { pending_act = emitted.pending_act; held = emitted.held; few = pushed-few a h.asks is.few; ending = is.ending; ends = is.ends; line = is.line; texts = asked-texts (has_text a.kind) h.delimited is.texts } }
  copied-by n next_item s h is emitted note =
      record { heard = emitted.heard; half = record { pending_act = emitted.pending_act; held = emitted.held; few = is.few; ending = is.ending; ends = is.ends; line = noted-line n h.notes note is.line; texts = is.texts } }

  copied : (next_item : Bool) (s : Step) (h : Half) → IsHalf set h → Tells set s → TakesIn (taken_in_copied next_item s h)
  copied next_item s h is emitted = copied-by s.note next_item s h is emitted emitted.note

  given : (c : Bool) (m : Mode) → IsHeard set (if c then events.Given else events.Nothing) m
  given true m = tt
  given false m = tt

  register-pending_act : (c : Bool) (s : Sign) → IsPending set (if c then pending_acts.Look else pending_acts.Register s)
  register-pending_act true s = tt
  register-pending_act false s = tt

  ended-pending_act : (k : Kind) (name : List ℕ) → IsPending set (pending_of k name)
  ended-pending_act kinds.String name = tt
  ended-pending_act (kinds.Register s) name = register-pending_act (is_given name) s
  ended-pending_act k name = tt

  deep-half : (k : Kind) (h : Half) → IsHalf set h → IsHalf set (too_deep k h)
  deep-half (kinds.Register s) h is = record { pending_act = tt; held = is.held; few = is.few; ending = is.ending; ends = is.ends; line = is.line; texts = is.texts }
  deep-half k h is = is

  begins-half : (c : Bool) (k : Kind) (h : Half) → IsHalf set h → IsHalf set (if c then asking (begun_ask k) h else too_deep k h)
  begins-half true k h is = asking-half (begun_ask k) h is
  begins-half false k h is = deep-half k h is

  ended-heard : (k : Kind) (name : List ℕ) (m : Mode) → IsHeard set (event_of k name) m
  ended-heard (kinds.Register s) name m = given (is_given name) m
  ended-heard kinds.Width name m = tt
  ended-heard kinds.Font name m = tt
  ended-heard kinds.Special name m = tt
  ended-heard kinds.Horizontal name m = tt
  ended-heard kinds.Rule name m = tt
  ended-heard k name m = tt

  -- an escape whose name or argument was read
  ends : (k : Kind) (name : List ℕ) (m : Mode) → IsHeard set (event_of k name) m
  ends k name m = ended-heard k name m

  -- an escape that is still to be read, and one that has ended
  goes : (takes next_item : Bool) (a : Ask) (h : Half) → IsHalf set h → TakesIn (settled takes next_item events.Nothing (replaced a h))
  goes takes next_item a h is = record { heard = tt; half = record { pending_act = is.pending_act; held = is.held; few = renewed-few a h.asks is.few; ending = is.ending; ends = is.ends; line = is.line; texts = is.texts } }

  stops : (takes next_item : Bool) (a : Ask) (h : Half) → IsHalf set h → TakesIn (settled takes next_item (event_of a.kind (name_of a.name)) (finished a h))
  stops takes next_item a h is =
      record { heard = ends a.kind (name_of a.name) h.reading.mode; half = record { pending_act = ended-pending_act a.kind (name_of a.name); held = is.held; few = fewer h.asks is.few; ending = is.ending; ends = is.ends; line = is.line; texts = ended-texts (has_text a.kind) h.delimited is.texts } }

  argument-takes_in : (next_item : Bool) (b : ℕ) (a : Ask) (h : Half) → IsHalf set h → TakesIn (answered next_item (argument_asked b a) h)
  argument-takes_in next_item b a h owed = by (nat_le (code "1") b && nat_le b (code "9")) refl
    where
      by : (c : Bool) → (nat_le (code "1") b && nat_le b (code "9")) ≡ c → TakesIn (answered next_item (argument_asked b a) h)
      by true e = rw e (record { heard = tt; half = record { pending_act = tt; held = owed.held; few = fewer h.asks owed.few; ending = owed.ending; ends = owed.ends; line = owed.line; texts = owed.texts } })
      by false e = rw e (stops true next_item a h owed)

  first-takes_in : (next_item : Bool) (b : ℕ) (long : Bool) (a : Ask) (h : Half) → IsHalf set h → TakesIn (answered next_item (answer_first b long a) h)
  first-takes_in next_item b long a h owed = by (b == code "(") ((b == code "[") && long) ((b == code "+") && is_unsigned a.kind) ((b == code "-") && is_unsigned a.kind) refl refl refl refl
    where
      by : (c d e f : Bool) → (b == code "(") ≡ c → ((b == code "[") && long) ≡ d → ((b == code "+") && is_unsigned a.kind) ≡ e → ((b == code "-") && is_unsigned a.kind) ≡ f
          → TakesIn (answered next_item (answer_first b long a) h)
      by true d e f c-is d-is e-is f-is = rw c-is (goes true next_item (at_stage stages.Two a) h owed)
      by false true e f c-is d-is e-is f-is = rw (c-is, d-is) (goes true next_item (at_stage stages.Bracket a) h owed)
      by false false true f c-is d-is e-is f-is = rw (c-is, d-is, e-is) (goes true next_item (of_kind (kinds.Register signs.Plus) a) h owed)
      by false false false true c-is d-is e-is f-is = rw (c-is, d-is, e-is, f-is) (goes true next_item (of_kind (kinds.Register signs.Minus) a) h owed)
      by false false false false c-is d-is e-is f-is = rw (c-is, d-is, e-is, f-is) (stops true next_item (with_byte b a) h owed)

  two-takes_in : (next_item : Bool) (b : ℕ) (a : Ask) (h : Half) → IsHalf set h → TakesIn (answered next_item (answer_two b a) h)
  two-takes_in next_item b a h owed = by (is_empty a.name.bytes) refl
    where
      by : (c : Bool) → is_empty a.name.bytes ≡ c → TakesIn (answered next_item (answer_two b a) h)
      by true e = rw e (goes true next_item (with_byte b a) h owed)
      by false e = rw e (stops true next_item (with_byte b a) h owed)

  bracket-takes_in : (next_item : Bool) (b : ℕ) (a : Ask) (h : Half) → IsHalf set h → TakesIn (answered next_item (answer_bracket b a) h)
  bracket-takes_in next_item b a h owed = by (b == code "]") (is_blank b) refl refl
    where
      by : (c d : Bool) → (b == code "]") ≡ c → is_blank b ≡ d → TakesIn (answered next_item (answer_bracket b a) h)
      by true d c-is d-is = rw c-is (stops true next_item a h owed)
      by false true c-is d-is = rw (c-is, d-is) (goes true next_item (spoiled a) h owed)
      by false false c-is d-is = rw (c-is, d-is) (goes true next_item (with_byte b a) h owed)

  digit-takes_in : (next_item : Bool) (b : ℕ) (signed : Bool) (a : Ask) (h : Half) → IsHalf set h → TakesIn (answered next_item (answer_digit b signed a) h)
  digit-takes_in next_item b signed a h owed = by (is_digit b) (not signed && nat_le (code "1") b && nat_le b (code "3")) refl refl
    where
      by : (c d : Bool) → is_digit b ≡ c → (not signed && nat_le (code "1") b && nat_le b (code "3")) ≡ d → TakesIn (answered next_item (answer_digit b signed a) h)
      by false d c-is d-is = rw c-is (stops false next_item a h owed)
      by true true c-is d-is = rw (c-is, d-is) (goes true next_item (at_stage stages.Second a) h owed)
      by true false c-is d-is = rw (c-is, d-is) (stops true next_item a h owed)

  of-kind : (next_item : Bool) (b : ℕ) (long : Bool) (a : Ask) (h : Half) → IsHalf set h → TakesIn (answered next_item (answer_byte b long stages.First a) h)
  of-kind next_item b long a h owed = by (is_argument a.kind) refl
    where
      by : (c : Bool) → is_argument a.kind ≡ c → TakesIn (answered next_item (answer_byte b long stages.First a) h)
      by true e = rw e (argument-takes_in next_item b a h owed)
      by false e = rw e (first-takes_in next_item b long a h owed)

  stage-takes_in : (next_item : Bool) (b : ℕ) (long : Bool) (s : Stage) (a : Ask) (h : Half) → IsAmong set b → IsHalf set h → TakesIn (answered next_item (answer_byte b long s a) h)
  stage-takes_in next_item b long stages.First a h among owed = of-kind next_item b long a h owed
  stage-takes_in next_item b long stages.Two a h among owed = two-takes_in next_item b a h owed
  stage-takes_in next_item b long stages.Bracket a h among owed = bracket-takes_in next_item b a h owed
  stage-takes_in next_item b long stages.Delimiter a h among owed = goes true next_item (at_stage (stages.Inside b) a) h owed
  stage-takes_in next_item b long (stages.Inside d) a h among owed = by (b == d) refl
    where
      by : (c : Bool) → (b == d) ≡ c → TakesIn (answered next_item (answer_byte b long (stages.Inside d) a) h)
      by true e = rw e (stops true next_item a h owed)
      by false e =
          rw e (record { heard = tt; half = record { pending_act = owed.pending_act; held = owed.held; few = owed.few; ending = owed.ending; ends = owed.ends; line = owed.line; texts = (byte-in b h.delimited.begun among owed.texts.0, owed.texts.1) } })
  stage-takes_in next_item b long stages.Sign a h among owed = by ((b == code "+") || (b == code "-")) refl
    where
      by : (c : Bool) → ((b == code "+") || (b == code "-")) ≡ c → TakesIn (answered next_item (answer_byte b long stages.Sign a) h)
      by true e = rw e (goes true next_item (at_stage (stages.Digit true) a) h owed)
      by false e = rw e (goes false next_item (at_stage (stages.Digit false) a) h owed)
  stage-takes_in next_item b long (stages.Digit signed) a h among owed = digit-takes_in next_item b signed a h owed
  stage-takes_in next_item b long stages.Second a h among owed = by (is_digit b) refl
    where
      by : (c : Bool) → is_digit b ≡ c → TakesIn (answered next_item (answer_byte b long stages.Second a) h)
      by true e = rw e (stops true next_item a h owed)
      by false e = rw e (stops false next_item a h owed)

  answered-takes_in : (next_item : Bool) (b : ℕ) (long : Bool) (a : Ask) (h : Half) → IsAmong set b → IsHalf set h → TakesIn (answered next_item (answer b long a) h)
  answered-takes_in next_item b long a h among owed = by (b == code "\n") refl
    where
      by : (c : Bool) → (b == code "\n") ≡ c → TakesIn (answered next_item (answer b long a) h)
      by true e = rw e (stops false next_item (cut a.stage a) h owed)
      by false e = rw e (stage-takes_in next_item b long a.stage a h among owed)

  hear-takes_in : (asks : List Ask) (next_item : Bool) (b : ℕ) (h : Half) → IsAmong set b → IsHalf set h → TakesIn (hear_by asks next_item b h)
  hear-takes_in [] next_item b h among owed = copied next_item (read b h.signs h.notes h.reading) h owed (read-tells h.reading.mode b h.signs h.notes h.reading among owed.pending_act owed.held owed.held owed.ending)
  hear-takes_in (a ∷ asks) next_item b h among owed = answered-takes_in next_item b h.signs.long a h among owed

  over-takes_in : (asks : List Ask) (h : Half) → IsHalf set h → TakesIn (over_by asks h)
  over-takes_in [] h owed = copied false (read_over h.signs h.notes h.reading) h owed (over-tells h.reading.mode h.signs h.notes h.reading owed.pending_act owed.held owed.held owed.ending)
  over-takes_in (a ∷ asks) h owed = answered-takes_in false (code "\n") h.signs.long a h refl owed

  -- a byte after `\`
  begun-takes_in : (b : ℕ) (argument : Bool) (h : Half) → IsHalf set h → TakesIn (offered (copied_escape b argument) h)
  begun-takes_in b argument h owed =
      by (b == code "\\") (b == code ".") (b == code "t") (b == code "a") (b == code "\n") (b == code "\"") (b == code "*") (b == code "$") (b == code "n") ((b == code "w") && argument)
      refl refl refl refl refl refl refl refl refl refl
    where
      by : (c1 c2 c3 c4 c5 c6 c7 c8 c9 c10 : Bool) → (b == code "\\") ≡ c1 → (b == code ".") ≡ c2 → (b == code "t") ≡ c3 → (b == code "a") ≡ c4 → (b == code "\n") ≡ c5 → (b == code "\"") ≡ c6
          → (b == code "*") ≡ c7 → (b == code "$") ≡ c8 → (b == code "n") ≡ c9 → ((b == code "w") && argument) ≡ c10 → TakesIn (offered (copied_escape b argument) h)
      by true c2 c3 c4 c5 c6 c7 c8 c9 c10 e1 e2 e3 e4 e5 e6 e7 e8 e9 e10 = rw e1 (hear-takes_in h.asks true (code "\\") h refl owed)
      by false true c3 c4 c5 c6 c7 c8 c9 c10 e1 e2 e3 e4 e5 e6 e7 e8 e9 e10 = rw (e1, e2) (hear-takes_in h.asks true (code ".") h refl owed)
      by false false true c4 c5 c6 c7 c8 c9 c10 e1 e2 e3 e4 e5 e6 e7 e8 e9 e10 = rw (e1, e2, e3) (hear-takes_in h.asks true (code "\t") h refl owed)
      by false false false true c5 c6 c7 c8 c9 c10 e1 e2 e3 e4 e5 e6 e7 e8 e9 e10 = rw (e1, e2, e3, e4) (hear-takes_in h.asks true 1 h refl owed)
      by false false false false true c6 c7 c8 c9 c10 e1 e2 e3 e4 e5 e6 e7 e8 e9 e10 = rw (e1, e2, e3, e4, e5) (record { heard = tt; half = owed })
      by false false false false false true c7 c8 c9 c10 e1 e2 e3 e4 e5 e6 e7 e8 e9 e10 = rw (e1, e2, e3, e4, e5, e6) (record { heard = tt; half = owed })
      by false false false false false false true c8 c9 c10 e1 e2 e3 e4 e5 e6 e7 e8 e9 e10 = rw (e1, e2, e3, e4, e5, e6, e7) (record { heard = tt; half = begins-half (may_nest h.reading.mode h.asks) kinds.String (escaping_half escapes.Plain h) owed })
      by false false false false false false false true c9 c10 e1 e2 e3 e4 e5 e6 e7 e8 e9 e10 = rw (e1, e2, e3, e4, e5, e6, e7, e8) (record { heard = tt; half = begins-half (may_nest h.reading.mode h.asks) kinds.Argument (escaping_half escapes.Plain h) owed })
      by false false false false false false false false true c10 e1 e2 e3 e4 e5 e6 e7 e8 e9 e10 = rw (e1, e2, e3, e4, e5, e6, e7, e8, e9) (record { heard = tt; half = begins-half (may_nest h.reading.mode h.asks) (kinds.Register signs.None) (escaping_half escapes.Plain h) owed })
      by false false false false false false false false false true e1 e2 e3 e4 e5 e6 e7 e8 e9 e10 = rw (e1, e2, e3, e4, e5, e6, e7, e8, e9, e10) (record { heard = tt; half = begins-half (may_nest h.reading.mode h.asks) kinds.Width (escaping_half escapes.Plain h) owed })
      by false false false false false false false false false false e1 e2 e3 e4 e5 e6 e7 e8 e9 e10 = rw (e1, e2, e3, e4, e5, e6, e7, e8, e9, e10) (hear-takes_in h.asks false (code "\\") h refl owed)

  byte-takes_in : (b : ℕ) (e : Escape) (argument : Bool) (h : Half) → IsAmong set b → IsHalf set h → TakesIn (offered (offer_byte b e argument) h)
  byte-takes_in b escapes.Plain argument h among owed = by (b == code "\\") refl
    where
      by : (c : Bool) → (b == code "\\") ≡ c → TakesIn (offered (offer_byte b escapes.Plain argument) h)
      by true e = rw e (record { heard = tt; half = owed })
      by false e = rw e (hear-takes_in h.asks true b h among owed)
  byte-takes_in b escapes.Begun argument h among owed = begun-takes_in b argument h owed
  byte-takes_in b escapes.Comment argument h among owed = by (b == code "\n") refl
    where
      by : (c : Bool) → (b == code "\n") ≡ c → TakesIn (offered (offer_byte b escapes.Comment argument) h)
      by true e = rw e (hear-takes_in h.asks true (code "\n") h refl owed)
      by false e = rw e (record { heard = tt; half = owed })

  offered-takes_in : (f : NextItem) (e : Escape) (argument : Bool) (h : Half) → IsHalf set h → IsNextItem set f → TakesIn (offered (offer f e argument) h)
  offered-takes_in next_items.Mark e argument h owed is = record { heard = tt; half = owed }
  offered-takes_in (next_items.Byte b) e argument h owed is = byte-takes_in b e argument h is owed
  offered-takes_in (next_items.Cell x) escapes.Plain argument h owed is = hear-takes_in h.asks true x.byte h (and_parts (prints x.byte) (is_among set x.byte) is).1 owed
  offered-takes_in (next_items.Cell x) escapes.Begun argument h owed is = hear-takes_in h.asks false (code "\\") h refl owed
  offered-takes_in (next_items.Cell x) escapes.Comment argument h owed is = record { heard = tt; half = owed }
  offered-takes_in (next_items.LineEnd n) escapes.Begun argument h owed is = hear-takes_in h.asks false (code "\\") h refl owed
  offered-takes_in (next_items.LineEnd n) escapes.Plain argument h owed is = hear-takes_in h.asks true (code "\n") h refl owed
  offered-takes_in (next_items.LineEnd n) escapes.Comment argument h owed is = hear-takes_in h.asks true (code "\n") h refl owed
  offered-takes_in next_items.Resume escapes.Begun argument h owed is = hear-takes_in h.asks false (code "\\") h refl owed
  offered-takes_in next_items.Resume escapes.Plain argument h owed is = over-takes_in h.asks h owed
  offered-takes_in next_items.Resume escapes.Comment argument h owed is = over-takes_in h.asks h owed
  offered-takes_in next_items.Over escapes.Begun argument h owed is = hear-takes_in h.asks false (code "\\") h refl owed
  offered-takes_in next_items.Over escapes.Plain argument h owed is = over-takes_in h.asks h owed
  offered-takes_in next_items.Over escapes.Comment argument h owed is = over-takes_in h.asks h owed

  raw-takes_in : (f : NextItem) (e : Escape) (h : Half) → IsHalf set h → IsNextItem set f → TakesIn (offered (raw_offer f e) h)
  raw-takes_in next_items.Mark e h owed is = record { heard = tt; half = owed }
  raw-takes_in (next_items.Byte b) e h owed is = hear-takes_in h.asks true b h is owed
  raw-takes_in f e h owed is = over-takes_in h.asks h owed

  to-takes_in : (k : Kind) (f : NextItem) (e : Escape) (h : Half) → IsHalf set h → IsNextItem set f → TakesIn (offered (offer_to k f e) h)
  to-takes_in kinds.Size f e h owed is = raw-takes_in f e h owed is
  to-takes_in k f e h owed is = offered-takes_in f e (reads_argument k) h owed is

  takes_in : (c : Bool) (x y : TakenIn) → TakesIn x → TakesIn y → TakesIn (if c then x else y)
  takes_in true x y first second = first
  takes_in false x y first second = second

  by-asks : (asks : List Ask) (f : NextItem) (h : Half) → IsHalf set h → IsNextItem set f → TakesIn (take_in_by asks f h)
  by-asks [] f h owed is =
      takes_in (is_direct h.reading.mode) (taken_in_directly (direct f h.signs h.reading) h) (offered (offer f h.reading.escape (reads_arguments h.reading.mode)) h)
      (directly (direct f h.signs h.reading) h owed (direct-tells set h.reading.escape f h.signs h.reading owed.pending_act owed.held is)) (offered-takes_in f h.reading.escape (reads_arguments h.reading.mode) h owed is)
  by-asks (a ∷ asks) f h owed is = to-takes_in a.kind f h.reading.escape h owed is

  pub take_in-emitted : (f : NextItem) (h : Half) → IsHalf set h → IsNextItem set f → TakesIn (take_in f h)
  take_in-emitted f h owed is = by-asks h.asks f h owed is
