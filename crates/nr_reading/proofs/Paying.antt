-- Each item that comes to what is half read pays for what comes of it.
use Prim.Native.Char.{code}
use Rattle.std.specs.Prelude.{sum_by, ◌&&◌, nat_lt, length}
use Rattle.std.proofs.Common.{◌≡◌, ℕ, ◌+◌, ◌≤◌, ◌==◌, Bool, true, false, if◌then◌else◌, List, [], ◌∷◌, refl, sym, subst, ap, ◌∙◌, arith}
use Rattle.std.proofs.lemmas.List.Sums.{sum_by-cons}
use Rattle.nr_reading.specs.declared.ask.Ask.{Ask}
use Rattle.nr_reading.specs.declared.ask.Kind.{Kind}
use Rattle.nr_reading.specs.declared.ask.Kind.TheVariants as kinds
use Rattle.nr_reading.specs.declared.ask.Sign.TheVariants as signs
use Rattle.nr_reading.specs.declared.escape.Offer.{Offer}
use Rattle.nr_reading.specs.declared.escape.Offer.TheVariants as offers
use Rattle.nr_reading.specs.declared.event.Event.{Event}
use Rattle.nr_reading.specs.declared.next_item.NextItem.{NextItem}
use Rattle.nr_reading.specs.declared.next_item.NextItem.TheVariants as next_items
use Rattle.nr_reading.specs.declared.half.Half.{Half}
use Rattle.nr_reading.specs.declared.half.Seen.{Seen}
use Rattle.nr_reading.specs.declared.mode.PendingAct.{PendingAct}
use Rattle.nr_reading.specs.declared.mode.PendingAct.TheVariants as pending_acts
use Rattle.nr_reading.specs.declared.mode.Escape.{Escape}
use Rattle.nr_reading.specs.declared.mode.Escape.TheVariants as escapes
use Rattle.nr_reading.specs.declared.mode.Mode.{Mode}
use Rattle.nr_reading.specs.declared.mode.Mode.TheVariants as modes
use Rattle.nr_reading.specs.declared.mode.Reading.{Reading}
use Rattle.nr_reading.specs.declared.mode.Signs.{Signs}
use Rattle.nr_reading.specs.declared.notes.Notes.{Notes}
use Rattle.nr_reading.specs.Notes.{Note}
use Rattle.nr_reading.specs.Notes as notes
use Rattle.nr_reading.specs.Step.{Step}
use Rattle.nr_reading.specs.Ask.{begun_ask, first_stage, answer, cut, reads_argument, is_size}
use Rattle.nr_reading.specs.Escape.{offer, raw_offer, escaped}
use Rattle.nr_reading.specs.Delimited.{Texts}
use Rattle.nr_reading.specs.Half.{TakenIn, taken_in, asking, too_deep, left_escape, taken_in_directly, taken_in_copied, asked_by, silent, hear_by, over_by, offered, take_in}
use Rattle.nr_reading.specs.Mode.{is_direct, reads_arguments}
use Rattle.nr_reading.specs.Nesting.{may_nest}
use Rattle.nr_reading.specs.Noting.{noted}
use Rattle.nr_reading.specs.Reader.{read, read_over, direct}
use Rattle.nr_reading.specs.Weights.{PaysFor, worth_of_item, paid_by, weight_by, weight_of_escape, weight_of_backslash, weight_of_half, weight_of_ask, blanks_owed}
use Rattle.nr_reading.proofs.Asked.{TakesIn, half_at, left_escape-le, answer_answers, next_item_takes_in, backslash_takes_in, stop_takes_in}
use Rattle.nr_reading.proofs.Copied.{Hears, read_hears, over_hears}
use Rattle.nr_reading.proofs.Escaped.{direct_pays}
use Rattle.nr_reading.proofs.Weighing.{at, Pays, weight_of_note, blanks_in, weight_of_stage-le, weight_of_backslash-ge, weight_of_backslash-le}

-- ---- escapes that begin

pushed-le : (few : Bool) (a : Ask) (asks : List Ask) → sum_by weight_of_ask (if few then a ∷ asks else asks) ≤ sum_by weight_of_ask asks + weight_of_ask a
pushed-le true a asks = let new = sum_by-cons weight_of_ask a asks in omega arith
pushed-le false a asks = omega arith

-- what is half read, with an escape that begins with a step
step_weighs : (n : Note) (h : Half) → sum_by weight_of_ask (asked_by n h).asks ≤ sum_by weight_of_ask h.asks + weight_of_note n
step_weighs (notes.Begin a) h = pushed-le (nat_lt (length h.asks) 10) a h.asks
step_weighs n h = omega arith

step_reads : (n : Note) (h : Half) → (asked_by n h).reading ≡ h.reading
step_reads (notes.Begin a) h = refl
step_reads n h = refl

-- ---- the reader

weight_by-le : (d : PendingAct) (m : Mode) (e : Escape) → weight_by d m e ≤ weight_by d m escapes.Plain + weight_of_escape 156 e
weight_by-le pending_acts.Seek m e = omega arith
weight_by-le (pending_acts.Judge b) m e = omega arith
weight_by-le d m escapes.Plain = omega arith
weight_by-le d m escapes.Begun = omega (arith, weight_of_backslash-le m)
weight_by-le d m escapes.Comment = omega arith

weight_of_backslash-copied : (m : Mode) → is_direct m ≡ false → weight_of_backslash m ≡ 156
weight_of_backslash-copied modes.Text is = let wrong : ⊥ = cc in absurd wrong
weight_of_backslash-copied modes.Interrupted is = let wrong : ⊥ = cc in absurd wrong
weight_of_backslash-copied modes.Continued is = let wrong : ⊥ = cc in absurd wrong
weight_of_backslash-copied (modes.Leading n) is = let wrong : ⊥ = cc in absurd wrong
weight_of_backslash-copied modes.TitleBefore is = let wrong : ⊥ = cc in absurd wrong
weight_of_backslash-copied (modes.Title d n) is = let wrong : ⊥ = cc in absurd wrong
weight_of_backslash-copied modes.Diverted is = let wrong : ⊥ = cc in absurd wrong
weight_of_backslash-copied m is = refl

-- what is half read after a step: its escape ends, or stays as far as it was read
settled_weighs : (e : Escape) (r : Reading) (n : Note) (h : Half) → h.reading ≡ r
    → weight_of_half (record (asked_by n h) { reading = record (asked_by n h).reading { escape = e } }) ≤ weight_by r.pending_act r.mode e + sum_by weight_of_ask h.asks + weight_of_note n
settled_weighs e r n h is =
    let same : (asked_by n h).reading ≡ r = step_reads n h ∙ is in
    let weighs : weight_by (asked_by n h).reading.pending_act (asked_by n h).reading.mode e ≡ weight_by r.pending_act r.mode e = ap (λ (q : Reading). weight_by q.pending_act q.mode e) same in
    omega (arith, step_weighs n h)

settled_owes : (e : Escape) (r : Reading) (n : Note) (h : Half) → h.reading ≡ r
    → blanks_owed (record (asked_by n h) { reading = record (asked_by n h).reading { escape = e } }) ≡ blanks_in r
settled_owes e r n h is = ap blanks_in (step_reads n h ∙ is)

-- the step with its parts apart
abbrev stepping : Reading → Note → Event → Bool → Step
stepping r n e takes = record { reading = r; note = n; event = e; takes = takes }

-- the half after it, before its escape ends
abbrev afterwards : Reading → Note → Half → Half
afterwards r n h = record h { reading = r; notes = noted n h.notes }

-- where the element is left, the escape stays as far as it was read, or a comment ends
left_weighs : (r : Reading) (n : Note) (h : Half) (e : Escape) → h.reading ≡ r → r.escape ≡ e
    → weight_by r.pending_act r.mode (left_escape (asked_by n h).reading.escape) ≤ weight_by r.pending_act r.mode escapes.Plain + weight_of_escape 156 e
left_weighs r n h e is reached =
    let x = (asked_by n h).reading.escape in
    let same : x ≡ e = ap (λ (q : Reading). q.escape) (step_reads n h ∙ is) ∙ reached in
    let weighs = ap (λ (y : Escape). weight_of_escape 156 (left_escape y)) same in
    omega (arith, weight_by-le r.pending_act r.mode (left_escape x), left_escape-le 156 e)

-- a `\` that is begun weighs this where elements are copied
copied_weighs : (m : Mode) (e : Escape) → is_direct m ≡ false → weight_of_escape (weight_of_backslash m) e ≡ weight_of_escape 156 e
copied_weighs m e copied = ap (λ w. weight_of_escape w e) (weight_of_backslash-copied m copied)

-- an element comes to the reader, as the next item or not: an item pays for it, or the `\` that was begun
heard : (next_item takes : Bool) (r : Reading) (k : Note) (v : Event) (m : Mode) (e : Escape) (c n : Bool) (s : Signs) (d : Texts) (o : Notes) (worth w : ℕ)
    → is_direct m ≡ false → Hears (at m e c n) worth (stepping r k v takes) → worth ≤ paid_by next_item w + weight_of_escape 156 e
    → let h = half_at (at m e c n) s [] d o in TakesIn h w (taken_in_copied next_item (stepping r k v takes) h)
heard true true r k v m e c n s d o worth w copied p enough =
    let h = half_at (at m e c n) s [] d o in
    let weighs = settled_weighs escapes.Plain r k (afterwards r k h) refl in
    let owes = settled_owes escapes.Plain r k (afterwards r k h) refl in
    let pays = p.pays in
    let none = p.blanks in
    record { pays = omega (arith, copied_weighs m e copied); tells = p.tells }
heard false true r k v m e c n s d o worth w copied p enough =
    let h = half_at (at m e c n) s [] d o in
    let weighs = settled_weighs escapes.Plain r k (afterwards r k h) refl in
    let owes = settled_owes escapes.Plain r k (afterwards r k h) refl in
    let pays = p.pays in
    let none = p.blanks in
    record { pays = omega (arith, copied_weighs m e copied); tells = p.tells }
heard next_item false r k v m e c n s d o worth w copied p enough =
    let h = half_at (at m e c n) s [] d o in
    let x = left_escape (asked_by k (afterwards r k h)).reading.escape in
    let weighs = settled_weighs x r k (afterwards r k h) refl in
    let owes = settled_owes x r k (afterwards r k h) refl in
    let left = left_weighs r k (afterwards r k h) e refl p.escape in
    let pays = p.pays in
    let none = p.blanks in
    record { pays = omega (arith, copied_weighs m e copied); tells = p.tells }

hears : (next_item : Bool) (t : Step) (m : Mode) (e : Escape) (c n : Bool) (s : Signs) (d : Texts) (o : Notes) (worth w : ℕ)
    → is_direct m ≡ false → Hears (at m e c n) worth t → worth ≤ paid_by next_item w + weight_of_escape 156 e
    → let h = half_at (at m e c n) s [] d o in TakesIn h w (taken_in_copied next_item t h)
hears next_item t m e c n s d o worth w copied p enough = heard next_item t.takes t.reading t.note t.event m e c n s d o worth w copied p enough

-- ---- the element comes to the newest escape, and to the reader where there is none

-- which of them reads it
abbrev IsCopied : List Ask → Mode → Type 0
IsCopied [] m = is_direct m ≡ false
IsCopied (a ∷ asks) m = Unit {0}

item_taken_in : (asks : List Ask) (b : ℕ) (m : Mode) (e : Escape) (c n : Bool) (s : Signs) (d : Texts) (o : Notes) → IsCopied asks m
    → let h = half_at (at m e c n) s asks d o in TakesIn h 256 (hear_by asks true b h)
item_taken_in [] b m e c n s d o copied = hears true (read b s o (at m e c n)) m e c n s d o 8 256 copied (read_hears m b s o e c n copied) (omega arith)
item_taken_in (a ∷ asks) b m e c n s d o copied = next_item_takes_in (answer b s.long a) a asks m e c n s d o (answer_answers b s.long a)

backslash_taken_in : (asks : List Ask) (m : Mode) (c n : Bool) (s : Signs) (d : Texts) (o : Notes) (w : ℕ) → IsCopied asks m
    → let h = half_at (at m escapes.Begun c n) s asks d o in TakesIn h w (hear_by asks false (code "\\") h)
backslash_taken_in [] m c n s d o w copied =
    hears false (read (code "\\") s o (at m escapes.Begun c n)) m escapes.Begun c n s d o 8 w copied (read_hears m 92 s o escapes.Begun c n copied) (omega arith)
backslash_taken_in (a ∷ asks) m c n s d o w copied = backslash_takes_in (answer (code "\\") s.long a) a asks m c n s d o w (answer_answers 92 s.long a)

over_taken_in : (asks : List Ask) (m : Mode) (e : Escape) (c n : Bool) (s : Signs) (d : Texts) (o : Notes) (w : ℕ) → IsCopied asks m
    → let h = half_at (at m e c n) s asks d o in TakesIn h w (over_by asks h)
over_taken_in [] m e c n s d o w copied = hears false (read_over s o (at m e c n)) m e c n s d o 0 w copied (over_hears m s o e c n copied) (omega arith)
over_taken_in (a ∷ asks) m e c n s d o w copied = stop_takes_in (cut a.stage a) a asks m e c n s d o w

-- ---- what the next item is in copy mode

record Offers (h : Half) (worth : ℕ) (x : Offer) : Type 0 where
  pub takes_in : TakesIn h worth (offered x h)

either : {h : Half} {w : ℕ} (b : Bool) {x y : Offer} → Offers h w x → Offers h w y → Offers h w (if b then x else y)
either true p q = p
either false p q = q

skip_offers : (x : Escape) (asks : List Ask) (m : Mode) (e : Escape) (c n : Bool) (s : Signs) (d : Texts) (o : Notes) → Offers (half_at (at m e c n) s asks d o) 256 (offers.Skip x)
skip_offers escapes.Plain asks m e c n s d o = record { takes_in = record { pays = omega arith; tells = refl } }
skip_offers escapes.Begun asks m e c n s d o = record { takes_in = record { pays = omega (arith, weight_of_backslash-le m); tells = refl } }
skip_offers escapes.Comment asks m e c n s d o = record { takes_in = record { pays = omega arith; tells = refl } }

-- an escape begins, or is nested too deep
begun_takes_in : (nests : Bool) (k : Kind) (asks : List Ask) (m : Mode) (c n : Bool) (s : Signs) (d : Texts) (o : Notes)
    → let h = half_at (at m escapes.Plain c n) s asks d o in
    TakesIn (half_at (at m escapes.Begun c n) s asks d o) 256 (silent (if nests then asking (begun_ask k) h else too_deep k h))
begun_takes_in true k asks m c n s d o =
    record { pays = omega (arith, pushed-le (nat_lt (length asks) 10) (begun_ask k) asks, weight_of_stage-le (first_stage k), weight_of_backslash-ge m); tells = refl }
begun_takes_in false (kinds.Register x) asks m c n s d o = record { pays = omega arith; tells = refl }
begun_takes_in false k asks m c n s d o = record { pays = omega arith; tells = refl }

begin_offers : (k : Kind) (asks : List Ask) (m : Mode) (c n : Bool) (s : Signs) (d : Texts) (o : Notes) → Offers (half_at (at m escapes.Begun c n) s asks d o) 256 (offers.Begin k)
begin_offers k asks m c n s d o = record { takes_in = begun_takes_in (may_nest m asks) k asks m c n s d o }

byte_offers : (b : ℕ) (asks : List Ask) (m : Mode) (e : Escape) (c n : Bool) (s : Signs) (d : Texts) (o : Notes) → IsCopied asks m → Offers (half_at (at m e c n) s asks d o) 256 (offers.Byte b)
byte_offers b asks m e c n s d o copied = record { takes_in = item_taken_in asks b m e c n s d o copied }

backslash_offers : (asks : List Ask) (m : Mode) (c n : Bool) (s : Signs) (d : Texts) (o : Notes) (w : ℕ) → IsCopied asks m → Offers (half_at (at m escapes.Begun c n) s asks d o) w offers.Backslash
backslash_offers asks m c n s d o w copied = record { takes_in = backslash_taken_in asks m c n s d o w copied }

over_offers : (asks : List Ask) (m : Mode) (e : Escape) (c n : Bool) (s : Signs) (d : Texts) (o : Notes) (w : ℕ) → IsCopied asks m → Offers (half_at (at m e c n) s asks d o) w offers.Over
over_offers asks m e c n s d o w copied = record { takes_in = over_taken_in asks m e c n s d o w copied }

escaped_offers : (b : ℕ) (argument : Bool) (asks : List Ask) (m : Mode) (c n : Bool) (s : Signs) (d : Texts) (o : Notes) → IsCopied asks m
    → Offers (half_at (at m escapes.Begun c n) s asks d o) 256 (escaped b argument)
escaped_offers b argument asks m c n s d o copied =
    let e = escapes.Begun in
    either (b == code "\\") (byte_offers (code "\\") asks m e c n s d o copied)
    (either (b == code ".") (byte_offers (code ".") asks m e c n s d o copied)
    (either (b == code "t") (byte_offers (code "\t") asks m e c n s d o copied)
    (either (b == code "a") (byte_offers 1 asks m e c n s d o copied)
    (either (b == code "\n") (skip_offers escapes.Plain asks m e c n s d o)
    (either (b == code "\"") (skip_offers escapes.Comment asks m e c n s d o)
    (either (b == code "*") (begin_offers kinds.String asks m c n s d o)
    (either (b == code "$") (begin_offers kinds.Argument asks m c n s d o)
    (either (b == code "n") (begin_offers (kinds.Register signs.None) asks m c n s d o)
    (either ((b == 119) && argument) (begin_offers kinds.Width asks m c n s d o) (backslash_offers asks m c n s d o 256 copied))))))))))

mark_offers : (asks : List Ask) (m : Mode) (e : Escape) (c n : Bool) (s : Signs) (d : Texts) (o : Notes) → Offers (half_at (at m e c n) s asks d o) 1 (offers.Skip e)
mark_offers asks m e c n s d o = record { takes_in = record { pays = omega arith; tells = refl } }

offer_offers : (f : NextItem) (argument : Bool) (asks : List Ask) (m : Mode) (e : Escape) (c n : Bool) (s : Signs) (d : Texts) (o : Notes) → IsCopied asks m
    → Offers (half_at (at m e c n) s asks d o) (worth_of_item f) (offer f e argument)
offer_offers next_items.Mark argument asks m e c n s d o copied = mark_offers asks m e c n s d o
offer_offers (next_items.Byte b) argument asks m escapes.Plain c n s d o copied =
    either (b == code "\\") (skip_offers escapes.Begun asks m escapes.Plain c n s d o) (byte_offers b asks m escapes.Plain c n s d o copied)
offer_offers (next_items.Byte b) argument asks m escapes.Begun c n s d o copied = escaped_offers b argument asks m c n s d o copied
offer_offers (next_items.Byte b) argument asks m escapes.Comment c n s d o copied =
    either (b == code "\n") (byte_offers (code "\n") asks m escapes.Comment c n s d o copied) (skip_offers escapes.Comment asks m escapes.Comment c n s d o)
offer_offers (next_items.Cell x) argument asks m escapes.Plain c n s d o copied = byte_offers x.byte asks m escapes.Plain c n s d o copied
offer_offers (next_items.Cell x) argument asks m escapes.Begun c n s d o copied = backslash_offers asks m c n s d o 256 copied
offer_offers (next_items.Cell x) argument asks m escapes.Comment c n s d o copied = skip_offers escapes.Comment asks m escapes.Comment c n s d o
offer_offers (next_items.LineEnd h) argument asks m escapes.Plain c n s d o copied = byte_offers (code "\n") asks m escapes.Plain c n s d o copied
offer_offers (next_items.LineEnd h) argument asks m escapes.Begun c n s d o copied = backslash_offers asks m c n s d o 256 copied
offer_offers (next_items.LineEnd h) argument asks m escapes.Comment c n s d o copied = byte_offers (code "\n") asks m escapes.Comment c n s d o copied
offer_offers next_items.Resume argument asks m escapes.Plain c n s d o copied = over_offers asks m escapes.Plain c n s d o 1 copied
offer_offers next_items.Resume argument asks m escapes.Begun c n s d o copied = backslash_offers asks m c n s d o 1 copied
offer_offers next_items.Resume argument asks m escapes.Comment c n s d o copied = over_offers asks m escapes.Comment c n s d o 1 copied
offer_offers next_items.Over argument asks m escapes.Plain c n s d o copied = over_offers asks m escapes.Plain c n s d o 0 copied
offer_offers next_items.Over argument asks m escapes.Begun c n s d o copied = backslash_offers asks m c n s d o 0 copied
offer_offers next_items.Over argument asks m escapes.Comment c n s d o copied = over_offers asks m escapes.Comment c n s d o 0 copied

raw_offers : (f : NextItem) (asks : List Ask) (m : Mode) (e : Escape) (c n : Bool) (s : Signs) (d : Texts) (o : Notes) → IsCopied asks m
    → Offers (half_at (at m e c n) s asks d o) (worth_of_item f) (raw_offer f e)
raw_offers next_items.Mark asks m e c n s d o copied = mark_offers asks m e c n s d o
raw_offers (next_items.Byte b) asks m e c n s d o copied = byte_offers b asks m e c n s d o copied
raw_offers (next_items.Cell x) asks m e c n s d o copied = over_offers asks m e c n s d o 256 copied
raw_offers (next_items.LineEnd h) asks m e c n s d o copied = over_offers asks m e c n s d o 256 copied
raw_offers next_items.Resume asks m e c n s d o copied = over_offers asks m e c n s d o 1 copied
raw_offers next_items.Over asks m e c n s d o copied = over_offers asks m e c n s d o 0 copied

-- ---- items as they are

directly_taken_in : (takes : Bool) (r : Reading) (k : Note) (v : Event) (m : Mode) (e : Escape) (c n : Bool) (s : Signs) (d : Texts) (o : Notes) (w : ℕ) → Pays (at m e c n) w (stepping r k v takes)
    → let h = half_at (at m e c n) s [] d o in TakesIn h w (taken_in_directly (stepping r k v takes) h)
directly_taken_in takes r k v m e c n s d o w p =
    let h = half_at (at m e c n) s [] d o in
    let reads = step_reads k (afterwards r k h) in
    let weighs : weight_by (asked_by k (afterwards r k h)).reading.pending_act (asked_by k (afterwards r k h)).reading.mode (asked_by k (afterwards r k h)).reading.escape ≡ weight_by r.pending_act r.mode r.escape =
    ap (λ (q : Reading). weight_by q.pending_act q.mode q.escape) reads in
    let owes = ap blanks_in reads in
    let pays = p.pays in
    record { pays = omega (arith, step_weighs k (afterwards r k h)); tells = p.tells }

-- ---- the next item

asked_takes_in : (size : Bool) (f : NextItem) (argument : Bool) (asks : List Ask) (m : Mode) (e : Escape) (c n : Bool) (s : Signs) (d : Texts) (o : Notes) → IsCopied asks m
    → let h = half_at (at m e c n) s asks d o in TakesIn h (worth_of_item f) (offered (if size then raw_offer f e else offer f e argument) h)
asked_takes_in true f argument asks m e c n s d o copied = (raw_offers f asks m e c n s d o copied).takes_in
asked_takes_in false f argument asks m e c n s d o copied = (offer_offers f argument asks m e c n s d o copied).takes_in

read_takes_in : (direct_mode : Bool) (f : NextItem) (m : Mode) (e : Escape) (c n : Bool) (s : Signs) (d : Texts) (o : Notes) → is_direct m ≡ direct_mode
    → let h = half_at (at m e c n) s [] d o in
    TakesIn h (worth_of_item f) (if direct_mode then taken_in_directly (direct f s (at m e c n)) h else offered (offer f e (reads_arguments m)) h)
read_takes_in true f m e c n s d o is =
    let t = direct f s (at m e c n) in directly_taken_in t.takes t.reading t.note t.event m e c n s d o (worth_of_item f) (direct_pays f s m e c n is)
read_takes_in false f m e c n s d o is = (offer_offers f (reads_arguments m) [] m e c n s d o is).takes_in

at_takes_in : (asks : List Ask) (f : NextItem) (m : Mode) (e : Escape) (c n : Bool) (s : Signs) (d : Texts) (o : Notes)
    → let h = half_at (at m e c n) s asks d o in TakesIn h (worth_of_item f) (take_in f h)
at_takes_in [] f m e c n s d o = read_takes_in (is_direct m) f m e c n s d o refl
at_takes_in (a ∷ asks) f m e c n s d o = asked_takes_in (is_size a.kind) f (reads_argument a.kind) (a ∷ asks) m e c n s d o tt

pending_takes_in : (pending_act : PendingAct) (asks : List Ask) (f : NextItem) (m : Mode) (e : Escape) (c n : Bool) (s : Signs) (d : Texts) (o : Notes) → pending_act ≡ pending_acts.Look
    → let h = half_at (record { mode = m; escape = e; pending_act = pending_act; continued = c; no_break = n }) s asks d o in TakesIn h (worth_of_item f) (take_in f h)
pending_takes_in pending_acts.Look asks f m e c n s d o is = at_takes_in asks f m e c n s d o
pending_takes_in pending_act asks f m e c n s d o is = let wrong : ⊥ = cc in absurd wrong

pub take_in_pays : (f : NextItem) (h : Half) → h.reading.pending_act ≡ pending_acts.Look → TakesIn h (worth_of_item f) (take_in f h)
take_in_pays f h is =
    pending_takes_in h.reading.pending_act h.asks f h.reading.mode h.reading.escape h.reading.continued h.reading.no_break h.signs h.delimited h.notes is

-- the same, as the program has it
pub pays_for : (f : NextItem) (h k : Half) (seen : Seen) → taken_in k seen ≡ take_in f h → h.reading.pending_act ≡ pending_acts.Look → PaysFor f h k seen
pays_for f h k seen is look = let m : TakesIn h (worth_of_item f) (taken_in k seen) = subst (λ (x : TakenIn). TakesIn h (worth_of_item f) x) (sym is) (take_in_pays f h look) in record { pays = m.pays; tells = m.tells }
