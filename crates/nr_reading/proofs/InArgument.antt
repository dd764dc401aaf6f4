-- A byte that stands for itself in the midst of a macro's argument.
use Prim.Native.Char.{code}
use Rattle.std.proofs.Common.{◌≡◌, ℕ, true, false, List, [], ◌∷◌, refl, ap, sym, ◌∙◌}
use Rattle.std.proofs.lemmas.Bool.{ne_eqb}
use Rattle.nr_reading.specs.declared.ask.Ask.{Ask}
use Rattle.nr_reading.specs.declared.event.Event.TheVariants as events
use Rattle.nr_reading.specs.declared.next_item.NextItem.TheVariants as next_items
use Rattle.nr_reading.specs.declared.half.Half.{Half}
use Rattle.nr_reading.specs.declared.mode.PendingAct.{PendingAct}
use Rattle.nr_reading.specs.declared.mode.PendingAct.TheVariants as pending_acts
use Rattle.nr_reading.specs.declared.mode.Escape.{Escape}
use Rattle.nr_reading.specs.declared.mode.Escape.TheVariants as escapes
use Rattle.nr_reading.specs.declared.mode.Mode.{Mode}
use Rattle.nr_reading.specs.declared.mode.Mode.TheVariants as modes
use Rattle.nr_reading.specs.Many.InArgument.{is_in_argument, is_in_argument_at, ending_of, IsPlain}
use Rattle.nr_reading.specs.Half.{take_in}

-- with this byte to be added to the argument
abbrev pub putting : ℕ → Half → Half
putting b h = record h { reading = record h.reading { pending_act = pending_acts.Put b } }

-- nothing of an escape is read, and nothing is pending
pub record IsIdle (e : Escape) (d : PendingAct) (asks : List Ask) : Type 0 where
  pub escape : e ≡ escapes.Plain
  pub pending_act : d ≡ pending_acts.Look
  pub asks_none : asks ≡ []

idle : (m : Mode) (e : Escape) (d : PendingAct) (asks : List Ask) → is_in_argument_at m e d asks ≡ true → IsIdle e d asks
idle modes.Word escapes.Plain pending_acts.Look [] is = record { escape = refl; pending_act = refl; asks_none = refl }
idle modes.Word escapes.Plain pending_acts.Look (a ∷ asks) is = absurd (let wrong : false ≡ true = is in cc)
idle modes.Quoted escapes.Plain pending_acts.Look [] is = record { escape = refl; pending_act = refl; asks_none = refl }
idle modes.Quoted escapes.Plain pending_acts.Look (a ∷ asks) is = absurd (let wrong : false ≡ true = is in cc)
idle m e d asks is = absurd (let wrong : false ≡ true = is in cc)

-- the byte is to be added, and nothing else changes
taken_by : (m : Mode) (e : Escape) (d : PendingAct) (asks : List Ask) (b : ℕ) (h : Half) → is_in_argument_at m e d asks ≡ true → IsPlain (ending_of m) b → h.reading.mode ≡ m → h.reading.escape ≡ escapes.Plain → h.asks ≡ []
    → take_in (next_items.Byte b) h ≡ record { half = putting b (record h { reading = record h.reading { escape = escapes.Plain } }); event = events.Nothing; takes = true }
taken_by modes.Word e d asks b h is plain mode escape none = rw (none, mode, escape, ne_eqb b (code "\\") plain.2, ne_eqb b (code "\n") plain.1, ne_eqb b (code " ") plain.0) refl
taken_by modes.Quoted e d asks b h is plain mode escape none = rw (none, mode, escape, ne_eqb b (code "\\") plain.2, ne_eqb b (code "\n") plain.1, ne_eqb b (code "\"") plain.0) refl
taken_by m e d asks b h is plain mode escape none = absurd (let wrong : false ≡ true = is in cc)

-- nothing is pending in the midst of an argument
pub pending_act-is_in_argument : (h : Half) → is_in_argument h ≡ true → h.reading.pending_act ≡ pending_acts.Look
pending_act-is_in_argument h is = (idle h.reading.mode h.reading.escape h.reading.pending_act h.asks is).pending_act

-- a plain byte is taken, is to be added, and nothing else changes
pub take_in-put : (b : ℕ) (h : Half) → is_in_argument h ≡ true → IsPlain (ending_of h.reading.mode) b → take_in (next_items.Byte b) h ≡ record { half = putting b h; event = events.Nothing; takes = true }
take_in-put b h is plain =
    let i = idle h.reading.mode h.reading.escape h.reading.pending_act h.asks is in
    taken_by h.reading.mode h.reading.escape h.reading.pending_act h.asks b h is plain refl i.escape i.asks_none
    ∙ ap (λ e. record { half = putting b (record h { reading = record h.reading { escape = e } }); event = events.Nothing; takes = true }) (sym i.escape)
