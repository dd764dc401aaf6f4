-- A line whose words are read for what they ask says none of them.
use Rattle.std.proofs.Common.{◌≡◌, ℕ, ◌≤◌, ◌+◌, List, [], ◌∷◌, ◌++◌, length, Bool, true, false, not, ◌&&◌, ◌||◌, ◌==◌, nat_lt, if◌then◌else◌, None, Some, refl, sym, ◌∙◌, ap, subst, append_assoc, arith}
use Rattle.std.specs.Prelude.{codes}
use Prim.Native.Char.{code}
use Rattle.mdoc_layout.specs.declared.acts.Act.{Act}
use Rattle.mdoc_layout.specs.declared.acts.Act.TheVariants as acts
use Rattle.mdoc_layout.specs.declared.acts.Request.{Request}
use Rattle.mdoc_layout.specs.declared.acts.Request.TheVariants as requests
use Rattle.mdoc_layout.specs.declared.acts.Sized.TheVariants as sizes
use Rattle.mdoc_layout.specs.declared.acts.Stack.TheVariants.{Opens}
use Rattle.mdoc_layout.specs.declared.page.Escape.{Escape as Reached}
use Rattle.mdoc_layout.specs.declared.page.Escape.TheVariants as escapes
use Rattle.mdoc_layout.specs.declared.macros.Macro.{Macro}
use Rattle.mdoc_layout.specs.declared.macros.Macro.TheVariants as macros
use Rattle.mdoc_layout.specs.declared.page.Block.{Block}
use Rattle.mdoc_layout.specs.declared.page.Kind.{Kind}
use Rattle.mdoc_layout.specs.declared.page.Kind.TheVariants as kinds
use Rattle.mdoc_layout.specs.declared.page.Page.{Page}
use Rattle.mdoc_layout.specs.declared.page.Scan.{Scan}
use Rattle.mdoc_layout.specs.declared.page.Scan.TheVariants as scans
use Rattle.mdoc_layout.specs.Blocks.{block_opens, display_begins_of, fresh_block, indent, inner, literal, space, stops, with_literal}
use Rattle.mdoc_words.specs.Calls.{is_pending, leaves}
use Rattle.mdoc_words.specs.Macros.{macro_of}
use Rattle.mdoc_words.specs.Meanings.{is_pending_from}
use Rattle.mdoc_words.specs.Rules.{is_none, with_scan}
use Rattle.mdoc_layout.specs.Columns.{gap, is_column}
use Rattle.mdoc_words.specs.Escaping.{escape_then}
use Rattle.mdoc_words.specs.Keeping.{ends_word, in_named}
use Rattle.mdoc_layout.specs.Laying.{with_lay}
use Rattle.mdoc_converter.specs.Lines.{begins, closes_last, end_of, ended_seen, ends, last_act, line_ends, turned}
use Rattle.mdoc_layout.specs.Seeing.{Offered, and_taken, left, none, offered, three, two}
use Rattle.mdoc_converter.specs.Reading.{State, refused, said, stacked}
use Rattle.mdoc_converter.specs.Saying.{part_of, parts_of, words_of}
use Rattle.mdoc_converter.specs.Scanning.{offer, offer_at, offer_whole, offer_whole_at}
use Rattle.mdoc_converter.specs.WordLaws.{reads_at}
use Rattle.mdoc_converter.specs.WrittenLines.{begins_star, each, asks, opens_block, is_plain, Letter, Plain, Escape, bytes_of, is_asking, are_asking, begins_blank, asking_line, written, names_no_string}
use Rattle.mdoc_converter.proofs.After.{after, after-append, next-state, Fresh}
use Rattle.mdoc_converter.proofs.AskedBytes.{between_heard, between_offered, byte_heard, escape_offered, escape_of, given_asking, heard_after, inside_named, is_inside, quoted_rest, slash_heard, word_offered}
use Rattle.mdoc_converter.proofs.AskedWords.{Asking, asking_as, Leading, left_leads, given_step, kept_begun, is_hushed, three_page, three_words}
use Rattle.mdoc_converter.proofs.Endings.{is_laid, last_laid, last_word, three_laid}
use Rattle.mdoc_converter.proofs.Escapes.{and_left, and_right, both, is_not}
use Rattle.mdoc_converter.proofs.ReadWords.{between_by}
use Rattle.mdoc_converter.proofs.MacroLines.{beginning, control_taken, macro_offered, name_begun, name_more, name_more_state, no_slash, no_star, plain_names, reads_name, short_name}
use Rattle.mdoc_converter.proofs.Offering.{with_page, Takes, then_takes, leads_with, takes_by}
use Rattle.mdoc_converter.proofs.OtherLines.{Said}
use Rattle.mdoc_converter.proofs.Outcomes.{is_quiet, never}
use Rattle.mdoc_converter.proofs.TextSaid.{next-words}
use Rattle.mdoc_converter.proofs.WordRoom.{no_comment, no_newline, one_enough}

-- ---- the line ends

asks_no_pending : (m : Macro) (some named : Bool) → asks m ≡ true → is_pending_from m some named ≡ false
asks_no_pending macros.Date some named h = refl
asks_no_pending macros.Title some named h = refl
asks_no_pending macros.List some named h = refl
asks_no_pending macros.Display some named h = refl
asks_no_pending macros.FontBegins some named h = refl
asks_no_pending macros.Spacing some named h = refl
asks_no_pending m some named h = never h

ends_by : Bool → List ℕ → List ℕ → Page → Offered
ends_by pending closers marks p =
    if pending then leaves p else if not (is_none closers) then closes_last p else if not (is_none marks) then offered p (left acts.Marks) else line_ends p

ends_is : (p : Page) → ends p ≡ ends_by (is_pending p) p.closers p.marks p
unfolding ends_by
ends_is p = refl

line_over : Offered → Offered
line_over l = offered (with_scan scans.Start l.page) (ended_seen l.page (and_taken l.seen))

line_ends_is : (p : Page) → line_ends p ≡ line_over (end_of p.call.line p)
unfolding line_ends line_over
line_ends_is p = refl

ends_offered : (m : Macro) (b : ℕ) (s : State) → asks m ≡ true → Asking m s.page scans.Ends → offer b s.page ≡ line_over (end_of m s.page)
unfolding offer offer_whole ends_by
ends_offered m b s h at =
    let p = s.page in
    ap (λ (sc : Scan). offer_at sc b p) at.scan_is ∙ ap (λ (sc : Scan). offer_whole_at sc b p) at.scan_is ∙ ends_is p
    ∙ ap (λ (k : Macro). ends_by (is_pending_from k p.call.some (not (is_none p.name))) p.closers p.marks p) at.taker
    ∙ ap (λ (t : Bool). ends_by t p.closers p.marks p) (asks_no_pending m p.call.some (not (is_none p.name)) h)
    ∙ ap (λ (cs : List ℕ). ends_by false cs p.marks p) at.closers ∙ ap (λ (ms : List ℕ). ends_by false [] ms p) at.marks
    ∙ line_ends_is p ∙ ap (λ (k : Macro). line_over (end_of k p)) at.line

-- at its end the line says nothing, and another begins
record Over (l : Offered) : Type 0 where
  page : Page
  x : Act
  y : Act
  z : Act
  is : line_over l ≡ offered (with_scan scans.Start page) (and_taken (three x y z))
  marks : page.marks ≡ []
  laid_x : is_laid x ≡ true
  laid_y : is_laid y ≡ true
  laid_z : is_laid z ≡ true
  no_x : (q : Page) → (part_of x q).word ≡ []
  no_y : (q : Page) → (part_of y q).word ≡ []
  no_z : (q : Page) → (part_of z q).word ++ [] ≡ []

-- a line that says up to two things at its end, and then ends
over_two : (p : Page) (x y : Act) → p.marks ≡ [] → is_laid x ≡ true → is_laid y ≡ true → ((q : Page) → (part_of x q).word ≡ []) → ((q : Page) → (part_of y q).word ≡ [])
    → Over (offered p (two x y))
unfolding line_over
over_two p x y none i j e f = record {
  page = p;
  x = x;
  y = y;
  z = last_act p;
  is = refl;
  marks = none;
  laid_x = i;
  laid_y = j;
  laid_z = last_laid p;
  no_x = e;
  no_y = f;
  no_z = last_word p;
}

space_laid : (t : Bool) → is_laid (space t) ≡ true
unfolding is_laid is_quiet
space_laid true = refl
space_laid false = refl

space_word : (t : Bool) (q : Page) → (part_of (space t) q).word ≡ []
space_word true q = refl
space_word false q = refl

columns_over : (t : Bool) (p : Page) → p.marks ≡ []
    → Over (offered p (three (space p.block.compact) (indent p) (if t then acts.Nothing else acts.Stops (gap p.block.columns))))
unfolding line_over is_laid is_quiet
columns_over true p none =
    over_two p (space p.block.compact) (indent p) none (space_laid p.block.compact) refl (space_word p.block.compact)
    (λ q. refl)
columns_over false p none = record {
  page = p;
  x = space p.block.compact;
  y = indent p;
  z = acts.Stops (gap p.block.columns);
  is = refl;
  marks = none;
  laid_x = space_laid p.block.compact;
  laid_y = refl;
  laid_z = refl;
  no_x = space_word p.block.compact;
  no_y = λ q. refl;
  no_z = λ q. refl;
}

list_over : (t : Bool) (p : Page) → p.marks ≡ []
    → Over (offered p (if t then three (space p.block.compact) (indent p) (stops p) else left (indent p)))
unfolding is_laid is_quiet
list_over true p none = columns_over (p.block.columns == 0) p none
list_over false p none = over_two p (indent p) acts.Nothing none refl refl (λ q. refl) (λ q. refl)

literal_over : (request : Request) (p : Page) → p.marks ≡ [] → Over (literal (space p.block.compact) (indent p) request p)
unfolding line_over is_laid is_quiet
literal_over request p none = record {
  page = with_literal true p;
  x = space p.block.compact;
  y = indent p;
  z = acts.Request request;
  is = refl;
  marks = none;
  laid_x = space_laid p.block.compact;
  laid_y = refl;
  laid_z = refl;
  no_x = space_word p.block.compact;
  no_y = λ q. refl;
  no_z = λ q. refl;
}

display_over : (kind : Kind) (p : Page) → p.marks ≡ [] → Over (display_begins_of kind p)
unfolding is_laid is_quiet
display_over kinds.Literal p none = literal_over requests.Literal p none
display_over kinds.Unfilled p none = literal_over requests.Unfilled p none
display_over kinds.Centered p none = literal_over requests.Centered p none
display_over kind p none = over_two p (space p.block.compact) (indent p) none (space_laid p.block.compact) refl (space_word p.block.compact) (λ q. refl)

none_over : (p : Page) → p.marks ≡ [] → Over (none p)
unfolding is_laid is_quiet
none_over p none = over_two p acts.Nothing acts.Nothing none refl refl (λ q. refl) (λ q. refl)

turned_marks : (t : Bool) (p : Page) → p.marks ≡ [] → (if t then record p { lay = record p.lay { spaced = not p.lay.spaced } } else p).marks ≡ []
turned_marks true p none = none
turned_marks false p none = none

end_over : (m : Macro) (p : Page) → asks m ≡ true → p.marks ≡ [] → Over (end_of m p)
unfolding end_of
end_over macros.Date p h none = none_over p none
end_over macros.Title p h none = none_over p none
end_over macros.List p h none = list_over (is_column p.block.kind) p none
end_over macros.Display p h none = display_over p.block.kind p none
end_over macros.FontBegins p h none = none_over p none
end_over macros.Spacing p h none =
    none_over (record (turned p) { lay = record (turned p).lay { joined = (turned p).lay.joined && not (turned p).lay.spaced } }) (turned_marks (not p.call.some) p none)
end_over m p h none = never h

-- ---- a newline

-- the line is over in a few steps
record Ended (b : ℕ) (s : State) (k : ℕ) : Type 0 where
  next : State
  steps : ℕ
  few : steps ≤ k
  takes : Takes b s next steps []
  fresh : Fresh next

ended_after : (m : Macro) (b : ℕ) (s : State) (k : ℕ) (scan : Scan) (one : Leading m b s 1 scan) → Ended b one.next k → Ended b s (1 + k)
ended_after m b s k scan one h = record {
  next = h.next;
  steps = 1 + h.steps;
  few = (let few = h.few in omega arith);
  takes = then_takes b s one.next h.next 1 h.steps [] [] one.leads h.takes;
  fresh = h.fresh;
}

ended_within : (b : ℕ) (s : State) (j k : ℕ) → j ≤ k → Ended b s j → Ended b s k
ended_within b s j k l h = record { next = h.next; steps = h.steps; few = (let few = h.few in omega arith); takes = h.takes; fresh = h.fresh }

nothing_said : (xs ys zs : List ℕ) → xs ≡ [] → ys ≡ [] → zs ++ [] ≡ [] → xs ++ (ys ++ (zs ++ [])) ≡ []
nothing_said xs ys zs e f g = ap (λ (us : List ℕ). us ++ (ys ++ (zs ++ []))) e ∙ ap (λ (us : List ℕ). us ++ (zs ++ [])) f ∙ g

over_ended : (m : Macro) (b : ℕ) (s : State) → asks m ≡ true → Asking m s.page scans.Ends → Ended b s 1
over_ended m b s h at =
    let o = end_over m s.page h at.marks in
    let q = with_scan scans.Start o.page in
    let l = three_laid o.x o.y o.z q o.laid_x o.laid_y o.laid_z in
    record {
      next = with_page (said (three o.x o.y o.z) q).page s;
      steps = 1;
      few = omega arith;
      takes =
          takes_by b s q (said (three o.x o.y o.z) q).page o.x o.y o.z [] (ends_offered m b s h at ∙ o.is) refl
          (nothing_said (part_of o.x q).word (part_of o.y _).word (part_of o.z _).word (o.no_x q) (o.no_y _) (o.no_z _));
      fresh = record { scan_is = ap (λ (r : Page). r.scan) l.1; marks_are = ap (λ (r : Page). r.marks) l.1 ∙ o.marks };
    }

between_ended : (m : Macro) (s : State) → asks m ≡ true → Asking m s.page scans.Between → Ended (code "\n") s 2
unfolding between_by
between_ended m s h at =
    let p = s.page in
    let one = left_leads m (code "\n") s (with_scan scans.Ends p) scans.Ends (between_offered m (code "\n") p at)
    (asking_as m scans.Ends p _ refl refl refl refl refl refl refl at) in
    ended_after m (code "\n") s 1 scans.Ends one (over_ended m (code "\n") one.next h one.at)

given_ended : (quoted : Bool) (m : Macro) (s : State) → asks m ≡ true → Asking m s.page (scans.Given quoted) → Ended (code "\n") s 3
given_ended quoted m s h at =
    let one = given_step m quoted (code "\n") s h at in
    ended_after m (code "\n") s 2 scans.Between one (between_ended m one.next h one.at)

named_newline : (reached : Reached) (quoted : Bool) (m : Macro) (s : State) → Asking m s.page (scans.Named reached quoted)
    → Leading m (code "\n") s 1 (scans.Given quoted)
unfolding offer
named_newline reached true m s at =
    let p = s.page in
    left_leads m (code "\n") s (with_scan (scans.Given true) p) (scans.Given true) (ap (λ (sc : Scan). offer_at sc (code "\n") p) at.scan_is)
    (given_asking m true (scans.Named reached true) p at)
named_newline reached false m s at =
    let p = s.page in
    left_leads m (code "\n") s (with_scan (scans.Given false) p) (scans.Given false) (ap (λ (sc : Scan). offer_at sc (code "\n") p) at.scan_is)
    (given_asking m false (scans.Named reached false) p at)

newline_ended : (scan : Scan) (m : Macro) (s : State) → asks m ≡ true → Asking m s.page scan → is_inside scan ≡ true → Ended (code "\n") s 4
unfolding offer is_inside quoted_rest
newline_ended scans.Between m s h at i = ended_within (code "\n") s 2 4 (omega arith) (between_ended m s h at)
newline_ended scans.Word m s h at i =
    let p = s.page in
    let one = left_leads m (code "\n") s (with_scan (scans.Given false) p) (scans.Given false) (word_offered (code "\n") p true at.scan_is refl refl)
    (given_asking m false scans.Word p at) in
    ended_after m (code "\n") s 3 (scans.Given false) one (given_ended false m one.next h one.at)
newline_ended scans.Quoted m s h at i =
    let p = s.page in
    let one = left_leads m (code "\n") s (with_scan (scans.Given true) p) (scans.Given true) (ap (λ (sc : Scan). offer_at sc (code "\n") p) at.scan_is)
    (given_asking m true scans.Quoted p at) in
    ended_after m (code "\n") s 3 (scans.Given true) one (given_ended true m one.next h one.at)
newline_ended scans.Closing m s h at i =
    let p = s.page in
    let one = left_leads m (code "\n") s (with_scan (scans.Given true) p) (scans.Given true) (ap (λ (sc : Scan). offer_at sc (code "\n") p) at.scan_is)
    (given_asking m true scans.Closing p at) in
    ended_after m (code "\n") s 3 (scans.Given true) one (given_ended true m one.next h one.at)
newline_ended (scans.Named reached quoted) m s h at i =
    let one = named_newline reached quoted m s at in
    ended_after m (code "\n") s 3 (scans.Given quoted) one (given_ended quoted m one.next h one.at)
newline_ended scan m s h at i = never i

-- ---- what stands after the name

record Read (m : Macro) (s : State) (bs : List ℕ) : Type 0 where
  next : State
  said : (rest : List ℕ) → words_of (parts_of s (bs ++ rest)) ≡ words_of (parts_of next rest)
  state : after s bs ≡ next
  scan : Scan
  at : Asking m next.page scan
  inside : is_inside scan ≡ true

few_enough : (k : ℕ) → k ≤ 4 → k ≤ 16
few_enough k l = omega arith

letter_read : (l : Letter) (m : Macro) (s : State) (scan : Scan) → asks m ≡ true → Asking m s.page scan → is_inside scan ≡ true → is_asking l ≡ true
    → Read m s (bytes_of false l)
letter_read (Plain b) m s scan h at i good =
    let one = byte_heard scan m b s h at i (is_not (b == code "\n") (and_left (not (b == code "\n")) (not (b == code "\\")) good))
    (is_not (b == code "\\") (and_right (not (b == code "\n")) (not (b == code "\\")) good)) in
    record {
      next = one.next;
      said = λ rest. next-words b rest s one.next one.steps [] _ (few_enough one.steps one.few) one.takes refl;
      state = next-state b [] s one.next one.steps [] (few_enough one.steps one.few) one.takes;
      scan = one.scan;
      at = one.at;
      inside = one.inside;
    }
letter_read (Escape b) m s scan h at i good =
    let slash = slash_heard scan m s h at i in
    let one = kept_begun m b slash.quoted slash.next (escape_of slash.quoted) h
    (escape_offered slash.quoted b slash.next.page slash.at.scan_is (no_comment b good) (no_newline b good)) slash.at in
    record {
      next = one.next;
      said = λ rest.
          next-words (code "\\") (b ∷ rest) s slash.next slash.steps [] _ (few_enough slash.steps slash.few) slash.takes refl
          ∙ next-words b rest slash.next one.next 1 [] _ one_enough one.takes refl;
      state =
          next-state (code "\\") (b ∷ []) s slash.next slash.steps [] (few_enough slash.steps slash.few) slash.takes
          ∙ next-state b [] slash.next one.next 1 [] one_enough one.takes;
      scan = in_named (escape_then escapes.Begun b) slash.quoted;
      at = one.at;
      inside = inside_named (escape_then escapes.Begun b) slash.quoted;
    }

letters_read : (ls : List Letter) (m : Macro) (s : State) (scan : Scan) → asks m ≡ true → Asking m s.page scan → is_inside scan ≡ true → are_asking ls ≡ true
    → Read m s (written false ls)
letters_read [] m s scan h at i good = record { next = s; said = λ rest. refl; state = refl; scan = scan; at = at; inside = i }
letters_read (l ∷ ls) m s scan h at i good =
    let one = letter_read l m s scan h at i (and_left (is_asking l) (are_asking ls) good) in
    let later = letters_read ls m one.next one.scan h one.at one.inside (and_right (is_asking l) (are_asking ls) good) in
    record {
      next = later.next;
      said = λ rest.
          ap (λ (xs : List ℕ). words_of (parts_of s xs)) (append_assoc (bytes_of false l) (written false ls) rest)
          ∙ one.said (written false ls ++ rest) ∙ later.said rest;
      state = after-append s (bytes_of false l) (written false ls) ∙ ap (λ (t : State). after t (written false ls)) one.state ∙ later.state;
      scan = later.scan;
      at = later.at;
      inside = later.inside;
    }

-- ---- the macro begins the line

beginning_asking : (m : Macro) (name : List ℕ) (s : State) → s.page.marks ≡ [] → Asking m (beginning m name s) scans.Between
unfolding beginning
beginning_asking m name s none =
    record { scan_is = refl; marks = none; closers = refl; going = refl; comment = refl; line = refl; taker = refl }

opened_asking : (t : Bool) (m : Macro) (outer : Block) (r : State) → t ≡ true → Asking m r.page scans.Between
    → Asking m (if t then record r { blocks = r.blocks ++ outer ∷ [] } else record r { page = refused outer r.page }).page scans.Between
opened_asking true m outer r e at = at
opened_asking false m outer r e at = never e

block_leads : (kind : Kind) (m : Macro) (b : ℕ) (s : State) (q : Page) → offer b s.page ≡ block_opens kind q → nat_lt (length s.blocks) 64 ≡ true
    → Asking m q scans.Between → Leading m b s 1 scans.Between
unfolding is_hushed
block_leads kind m b s q e room at =
    let p = record q { block = fresh_block kind (inner q.block) } in
    let l = three_page acts.Fresh acts.Nothing acts.Nothing p refl refl refl in
    let r = with_lay l.0 p in
    record {
      next = stacked Opens s.page.block (with_page r s);
      leads = leads_with b s p r Opens acts.Fresh acts.Nothing acts.Nothing [] e l.1 (three_words acts.Fresh acts.Nothing acts.Nothing p refl refl refl);
      at = opened_asking (nat_lt (length s.blocks) 64) m s.page.block (with_page r s) room
          (asking_as m scans.Between q r at.scan_is refl refl refl refl refl refl at);
    }

begin_step : (m : Macro) (b : ℕ) (name : List ℕ) (s : State) → s.page.marks ≡ [] → asks m ≡ true → ends_word b ≡ true → macro_of name ≡ Some m
    → (not (opens_block m) || nat_lt (length s.blocks) 64) ≡ true → Leading m b (reads_name name s) 1 scans.Between
unfolding begins reads_name
begin_step macros.Date b name s none h e f room =
    left_leads macros.Date b (reads_name name s) (beginning macros.Date name s) scans.Between (macro_offered b macros.Date name s e f) (beginning_asking macros.Date name s none)
begin_step macros.Title b name s none h e f room =
    let q = beginning macros.Title name s in
    left_leads macros.Title b (reads_name name s) (record q { title = []; chapter = [] }) scans.Between (macro_offered b macros.Title name s e f)
    (let at = beginning_asking macros.Title name s none in asking_as macros.Title scans.Between q _ at.scan_is refl refl refl refl refl refl at)
begin_step macros.List b name s none h e f room =
    block_leads kinds.Item macros.List b (reads_name name s) (beginning macros.List name s) (macro_offered b macros.List name s e f) room (beginning_asking macros.List name s none)
begin_step macros.Display b name s none h e f room =
    block_leads kinds.Filled macros.Display b (reads_name name s) (beginning macros.Display name s) (macro_offered b macros.Display name s e f) room (beginning_asking macros.Display name s none)
begin_step macros.FontBegins b name s none h e f room =
    left_leads macros.FontBegins b (reads_name name s) (beginning macros.FontBegins name s) scans.Between (macro_offered b macros.FontBegins name s e f)
    (beginning_asking macros.FontBegins name s none)
begin_step macros.Spacing b name s none h e f room =
    left_leads macros.Spacing b (reads_name name s) (beginning macros.Spacing name s) scans.Between (macro_offered b macros.Spacing name s e f)
    (beginning_asking macros.Spacing name s none)
begin_step m b name s none h e f room = never h

-- ---- the whole line

-- from after its name
record Rest (s : State) (bs : List ℕ) : Type 0 where
  words : words_of (parts_of s bs) ≡ []
  fresh : Fresh (after s bs)

newline_rest : (s : State) (k : ℕ) → k ≤ 15 → Ended (code "\n") s k → Rest s (codes "\n")
newline_rest s k l e = record {
  words = next-words (code "\n") [] s e.next e.steps [] [] (let few = e.few in omega arith) e.takes refl;
  fresh = subst Fresh (sym (next-state (code "\n") [] s e.next e.steps [] (let few = e.few in omega arith) e.takes)) e.fresh;
}

read_rest : (m : Macro) (s : State) (bs : List ℕ) → asks m ≡ true → Read m s bs → Rest s (bs ++ codes "\n")
read_rest m s bs h r =
    let end = newline_rest r.next 4 (omega arith) (newline_ended r.scan m r.next h r.at r.inside) in
    record {
      words = r.said (codes "\n") ∙ end.words;
      fresh = subst Fresh (sym (after-append s bs (codes "\n") ∙ ap (λ (t : State). after t (codes "\n")) r.state)) end.fresh;
    }

rest_said : (ls : List Letter) (m : Macro) (name : List ℕ) (s : State) → s.page.marks ≡ [] → asks m ≡ true → macro_of name ≡ Some m
    → (not (opens_block m) || nat_lt (length s.blocks) 64) ≡ true → begins_blank ls ≡ true → are_asking ls ≡ true
    → Rest (reads_name name s) (written false ls ++ codes "\n")
rest_said [] m name s none h f room blank good =
    let one = begin_step m (code "\n") name s none h refl f room in
    newline_rest (reads_name name s) 3 (omega arith) (ended_after m (code "\n") (reads_name name s) 2 scans.Between one (between_ended m one.next h one.at))
rest_said (Escape b ∷ ls) m name s none h f room blank good = never blank
rest_said (Plain b ∷ ls) m name s none h f room blank good =
    let start = reads_name name s in
    let here = and_left (is_asking (Plain b)) (are_asking ls) good in
    let one = begin_step m b name s none h blank f room in
    let first = heard_after m b start 2 scans.Between one
    (between_heard (b == code " ") (b == code "\t") (b == code "\"") m b one.next h one.at refl refl
    (is_not (b == code "\n") (and_left (not (b == code "\n")) (not (b == code "\\")) here)) refl
    (is_not (b == code "\\") (and_right (not (b == code "\n")) (not (b == code "\\")) here))) in
    let rest = read_rest m first.next (written false ls) h (letters_read ls m first.next first.scan h first.at first.inside (and_right (is_asking (Plain b)) (are_asking ls) good)) in
    record {
      words = next-words b (written false ls ++ codes "\n") start first.next first.steps [] [] (let few = first.few in omega arith) first.takes rest.words;
      fresh =
          subst Fresh (sym (next-state b (written false ls ++ codes "\n") start first.next first.steps [] (let few = first.few in omega arith) first.takes))
          rest.fresh;
    }

pub asking_said : (name : List ℕ) (rest : List Letter) (m : Macro) (s : State) → s.page.marks ≡ [] → asks m ≡ true → macro_of name ≡ Some m
    → (not (opens_block m) || nat_lt (length s.blocks) 64) ≡ true → each is_plain name ≡ true → begins_blank rest ≡ true → are_asking rest ≡ true
    → Said s (asking_line name rest) []
asking_said [] rest m s none h f room plain blank good = absurd (let no : None ≡ Some m = f in cc)
asking_said (b ∷ bs) rest m s none h f room plain blank good =
    let following = written false rest ++ codes "\n" in
    let short = short_name (b ∷ bs) m f in
    let line = rest_said rest m (b ∷ bs) s none h f room blank good in
    let begins = name_begun b s (and_left (is_plain b) (each is_plain bs) plain) in
    let more = and_right (is_plain b) (each is_plain bs) plain in
    record {
      words =
          next-words (code ".") ((b ∷ bs ++ written false rest) ++ codes "\n") (reads_at scans.Start s) (reads_at scans.Control s) 1 [] _ one_enough (control_taken s) refl
          ∙ ap (λ (xs : List ℕ). words_of (parts_of (reads_at scans.Control s) xs)) (append_assoc (b ∷ bs) (written false rest) (codes "\n"))
          ∙ next-words b (bs ++ following) (reads_at scans.Control s) (reads_name (b ∷ []) s) 1 [] _ one_enough begins refl
          ∙ name_more bs (b ∷ []) s following more (omega arith) ∙ line.words;
      fresh =
          subst Fresh
          (sym (next-state (code ".") ((b ∷ bs ++ written false rest) ++ codes "\n") (reads_at scans.Start s) (reads_at scans.Control s) 1 [] one_enough (control_taken s)
          ∙ ap (λ (xs : List ℕ). after (reads_at scans.Control s) xs) (append_assoc (b ∷ bs) (written false rest) (codes "\n"))
          ∙ next-state b (bs ++ following) (reads_at scans.Control s) (reads_name (b ∷ []) s) 1 [] one_enough begins
          ∙ name_more_state bs (b ∷ []) s following more (omega arith)))
          line.fresh;
    }

-- ---- no string is named in it

slash_names : (b : ℕ) (rest : List ℕ) → (b == code "\\") ≡ false → names_no_string rest ≡ true → names_no_string (b ∷ rest) ≡ true
slash_names b rest e h =
    both (not ((b == code "\\") && begins_star rest)) (names_no_string rest) (ap (λ (t : Bool). not (t && begins_star rest)) e) h

asking_names : (ls : List Letter) → are_asking ls ≡ true → names_no_string (written false ls) ≡ true
asking_names [] good = refl
asking_names (Plain b ∷ ls) good =
    slash_names b (written false ls) (is_not (b == code "\\") (and_right (not (b == code "\n")) (not (b == code "\\")) (and_left (is_asking (Plain b)) (are_asking ls) good)))
    (asking_names ls (and_right (is_asking (Plain b)) (are_asking ls) good))
asking_names (Escape b ∷ ls) good =
    let here = and_left (is_asking (Escape b)) (are_asking ls) good in
    both (not (b == code "*")) (names_no_string (b ∷ written false ls)) (ap not (no_star b here))
    (slash_names b (written false ls) (no_slash b here) (asking_names ls (and_right (is_asking (Escape b)) (are_asking ls) good)))

pub line_names : (name : List ℕ) (rest : List Letter) → each is_plain name ≡ true → are_asking rest ≡ true
    → names_no_string (codes "." ++ name ++ written false rest) ≡ true
line_names name rest plain good = plain_names name (written false rest) plain (asking_names rest good)
