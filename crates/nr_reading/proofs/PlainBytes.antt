-- Bytes that are taken in many at once.
use Prim.Native.Char.{code}
use Rattle.std.specs.Prelude.{slice_get, ◌==◌, ◌&&◌, ◌||◌, not}
use Rattle.std.proofs.Common.{◌≡◌, ℕ, ◌+◌, ◌<◌, Bool, true, false, List, [], ◌∷◌, length, Some, refl, sym, subst, ap₂, ◌∙◌}
use Rattle.nr_reading.specs.declared.ask.Ask.{Ask}
use Rattle.nr_reading.specs.declared.event.Event.TheVariants as events
use Rattle.nr_reading.specs.declared.next_item.NextItem.{NextItem}
use Rattle.nr_reading.specs.declared.next_item.NextItem.TheVariants as next_items
use Rattle.nr_reading.specs.declared.half.Half.{Half}
use Rattle.nr_reading.specs.declared.half.Seen.{Seen}
use Rattle.nr_reading.specs.declared.mode.PendingAct.{PendingAct}
use Rattle.nr_reading.specs.declared.mode.PendingAct.TheVariants as pending_acts
use Rattle.nr_reading.specs.declared.mode.Escape.{Escape}
use Rattle.nr_reading.specs.declared.mode.Escape.TheVariants as escapes
use Rattle.nr_reading.specs.declared.mode.Mode.{Mode}
use Rattle.nr_reading.specs.declared.mode.Mode.TheVariants as modes
use Rattle.nr_reading.specs.declared.mode.Signs.{Signs}
use Rattle.nr_reading.specs.declared.notes.Notes.{Notes}
use Rattle.nr_reading.specs.Delimited.{Texts}
use Rattle.nr_reading.specs.Half.{take_in, take_in_by}
use Rattle.nr_reading.specs.Mode.{is_direct}
use Rattle.nr_reading.specs.Nesting.{is_none}
use Rattle.nr_reading.specs.Many.Passing.{is_plain, drops_plain, passes_by, passes_plain, quiet, GoesOn}
use Rattle.nr_reading.proofs.Asked.{half_at}
use Rattle.nr_reading.proofs.Moving.{taken_in_more}
use Rattle.nr_reading.proofs.Paying.{pays_for}
use Rattle.nr_reading.proofs.Weighing.{at}

-- ---- from the first item of a stretch to a place

-- the byte is taken, and tells nothing
abbrev taking : Seen
taking = record { event = events.Nothing; takes = true }

-- one byte more is taken
pub goes_more : (fs : List NextItem) (to b : ℕ) (old half new : Half) → GoesOn fs to old half → to < length fs → slice_get fs to ≡ Some (next_items.Byte b) → half.reading.pending_act ≡ pending_acts.Look → new.reading.pending_act ≡ half.reading.pending_act
    → take_in (next_items.Byte b) half ≡ record { half = new; event = events.Nothing; takes = true } → GoesOn fs (to + 1) old new
goes_more fs to b old half new goes within some look same is = record {
  pending_act = same ∙ goes.pending_act;
  taken_in = taken_in_more to fs old (quiet to half) (next_items.Byte b) new taking goes.taken_in (record { some = within; pending_act = look; event = refl }) some refl (sym is) (pays_for (next_items.Byte b) half new taking (sym is) look);
}

-- ---- one plain byte

record IsApart (b : ℕ) : Type 0 where
  escape : (b == code "\\") ≡ false
  newline : (b == code "\n") ≡ false

-- of two facts none holds
pub neither : (x y : Bool) → not (x || y) ≡ true → (x ≡ false) × (y ≡ false)
neither false false is = (refl, refl)
neither false true is = let wrong : ⊥ = cc in absurd wrong
neither true y is = let wrong : ⊥ = cc in absurd wrong

apart : (b : ℕ) → is_plain b ≡ true → IsApart b
apart b is = let two = neither (b == code "\\") (b == code "\n") is in record { escape = two.0; newline = two.1 }

both : (x y : Bool) → (x && y) ≡ true → (x ≡ true) × (y ≡ true)
both true true is = (refl, refl)
both true false is = let wrong : ⊥ = cc in absurd wrong
both false y is = let wrong : ⊥ = cc in absurd wrong

no_asks : (asks : List Ask) → is_none asks ≡ true → asks ≡ []
no_asks [] is = refl
no_asks (a ∷ asks) is = let wrong : ⊥ = cc in absurd wrong

-- it is taken, and nothing else changes
abbrev Passes : ℕ → Half → Type 0
Passes b h = take_in_by [] (next_items.Byte b) h ≡ record { half = h; event = events.Nothing; takes = true }

-- in a comment
in_comment : (direct : Bool) (m : Mode) (c n : Bool) (s : Signs) (d : Texts) (o : Notes) (b : ℕ) → is_direct m ≡ direct → IsApart b → Passes b (half_at (at m escapes.Comment c n) s [] d o)
in_comment true m c n s d o b is byte = rw (is, byte.newline) refl
in_comment false m c n s d o b is byte = rw (is, byte.newline) refl

not_true : (x : Bool) → not x ≡ true → x ≡ false
not_true false is = refl
not_true true is = let wrong : ⊥ = cc in absurd wrong

-- in a mode in which it does nothing
in_mode : (m : Mode) (c n : Bool) (s : Signs) (d : Texts) (o : Notes) (b : ℕ) → drops_plain m o.defining ≡ true → IsApart b → Passes b (half_at (at m escapes.Plain c n) s [] d o)
in_mode (modes.Skip k) c n s d o b is byte = rw (byte.newline, byte.escape) refl
in_mode modes.Drop c n s d o b is byte = rw (byte.escape, byte.newline) refl
in_mode modes.TitleRest c n s d o b is byte = rw (byte.escape, byte.newline) refl
in_mode modes.BodyEnd c n s d o b is byte = rw (byte.escape, byte.newline) refl
in_mode modes.Body c n s d o b is byte = rw (byte.escape, byte.newline, not_true o.defining.keeps is) refl
in_mode m c n s d o b is byte = let wrong : ⊥ = cc in absurd wrong

by_escape : (e : Escape) (m : Mode) (c n : Bool) (s : Signs) (d : Texts) (o : Notes) (b : ℕ) → passes_by e m o.defining ≡ true → IsApart b → Passes b (half_at (at m e c n) s [] d o)
by_escape escapes.Plain m c n s d o b is byte = in_mode m c n s d o b is byte
by_escape escapes.Begun m c n s d o b is byte = let wrong : ⊥ = cc in absurd wrong
by_escape escapes.Comment m c n s d o b is byte = in_comment (is_direct m) m c n s d o b refl byte

-- with nothing asked, and nothing pending
looking : (h : Half) → h.asks ≡ [] → h.reading.pending_act ≡ pending_acts.Look → h ≡ half_at (at h.reading.mode h.reading.escape h.reading.continued h.reading.no_break) h.signs [] h.delimited h.notes
looking h none look = ap₂ (λ (asks : List Ask) (pending_act : PendingAct). record h { reading = record h.reading { pending_act = pending_act }; asks = asks }) none look

pub take_in-passed : (b : ℕ) (h : Half) → passes_plain h ≡ true → h.reading.pending_act ≡ pending_acts.Look → is_plain b ≡ true → take_in (next_items.Byte b) h ≡ record { half = h; event = events.Nothing; takes = true }
take_in-passed b h passes look plain =
    let two = both (is_none h.asks) (passes_by h.reading.escape h.reading.mode h.notes.defining) passes in
    subst (λ (k : Half). take_in (next_items.Byte b) k ≡ record { half = k; event = events.Nothing; takes = true }) (sym (looking h (no_asks h.asks two.0) look))
    (by_escape h.reading.escape h.reading.mode h.reading.continued h.reading.no_break h.signs h.delimited h.notes b two.1 (apart b plain))
