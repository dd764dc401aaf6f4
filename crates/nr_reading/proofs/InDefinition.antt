-- A byte that stands for itself in the midst of a text that is being defined.
use Prim.Native.Char.{code}
use Rattle.std.proofs.Common.{◌≡◌, ℕ, Bool, true, false, List, [], ◌∷◌, refl, ap, sym, ◌∙◌}
use Rattle.std.proofs.lemmas.Bool.{ne_eqb}
use Rattle.nr_reading.specs.declared.ask.Ask.{Ask}
use Rattle.nr_reading.specs.declared.event.Event.TheVariants as events
use Rattle.nr_reading.specs.declared.next_item.NextItem.TheVariants as next_items
use Rattle.nr_reading.specs.declared.half.Half.{Half}
use Rattle.nr_reading.specs.declared.mode.PendingAct.{PendingAct}
use Rattle.nr_reading.specs.declared.mode.PendingAct.TheVariants as pending_acts
use Rattle.nr_reading.specs.declared.mode.Escape.{Escape}
use Rattle.nr_reading.specs.declared.mode.Escape.TheVariants as escapes
use Rattle.nr_reading.specs.declared.mode.Mode.{Mode}
use Rattle.nr_reading.specs.declared.mode.Mode.TheVariants as modes
use Rattle.nr_reading.specs.Many.InArgument.{ending_of, IsPlain}
use Rattle.nr_reading.specs.Many.InDefinition.{is_in_definition, is_in_definition_at}
use Rattle.nr_reading.specs.Half.{take_in}
use Rattle.nr_reading.proofs.InArgument.{IsIdle}

-- with this byte to be added to the text that is built
abbrev pub adding : ℕ → Half → Half
adding b h = record h { reading = record h.reading { pending_act = pending_acts.Add b } }

idle : (keeps : Bool) (m : Mode) (e : Escape) (d : PendingAct) (asks : List Ask) → is_in_definition_at keeps m e d asks ≡ true → IsIdle e d asks
idle keeps modes.StringText escapes.Plain pending_acts.Look [] is = record { escape = refl; pending_act = refl; asks_none = refl }
idle keeps modes.StringText escapes.Plain pending_acts.Look (a ∷ asks) is = absurd (let wrong : false ≡ true = is in cc)
idle true modes.Body escapes.Plain pending_acts.Look [] is = record { escape = refl; pending_act = refl; asks_none = refl }
idle true modes.Body escapes.Plain pending_acts.Look (a ∷ asks) is = absurd (let wrong : false ≡ true = is in cc)
idle false modes.Body escapes.Plain pending_acts.Look asks is = absurd (let wrong : false ≡ true = is in cc)
idle keeps m e d asks is = absurd (let wrong : false ≡ true = is in cc)

-- the byte is to be added, and nothing else changes
taken_by : (keeps : Bool) (m : Mode) (e : Escape) (d : PendingAct) (asks : List Ask) (b : ℕ) (h : Half) → is_in_definition_at keeps m e d asks ≡ true → IsPlain (ending_of m) b → h.notes.defining.keeps ≡ keeps → h.reading.mode ≡ m → h.reading.escape ≡ escapes.Plain → h.asks ≡ []
    → take_in (next_items.Byte b) h ≡ record { half = adding b (record h { reading = record h.reading { mode = m; escape = escapes.Plain } }); event = events.Nothing; takes = true }
taken_by keeps modes.StringText e d asks b h is plain kept mode escape none = rw (none, mode, escape, ne_eqb b (code "\\") plain.2, ne_eqb b (code "\n") plain.0) refl
taken_by true modes.Body e d asks b h is plain kept mode escape none = rw (none, mode, escape, kept, ne_eqb b (code "\\") plain.2, ne_eqb b (code "\n") plain.0) refl
taken_by false modes.Body escapes.Plain pending_acts.Look asks b h is plain kept mode escape none = absurd (let wrong : false ≡ true = is in cc)
taken_by keeps m e d asks b h is plain kept mode escape none = absurd (let wrong : false ≡ true = is in cc)

-- nothing is pending in the midst of a text that is being defined
pub pending_act-is_in_definition : (h : Half) → is_in_definition h ≡ true → h.reading.pending_act ≡ pending_acts.Look
pending_act-is_in_definition h is = (idle h.notes.defining.keeps h.reading.mode h.reading.escape h.reading.pending_act h.asks is).pending_act

-- a plain byte is taken, is to be added, and nothing else changes
pub take_in-add : (b : ℕ) (h : Half) → is_in_definition h ≡ true → IsPlain (ending_of h.reading.mode) b → take_in (next_items.Byte b) h ≡ record { half = adding b h; event = events.Nothing; takes = true }
take_in-add b h is plain =
    let i = idle h.notes.defining.keeps h.reading.mode h.reading.escape h.reading.pending_act h.asks is in
    taken_by h.notes.defining.keeps h.reading.mode h.reading.escape h.reading.pending_act h.asks b h is plain refl refl i.escape i.asks_none
    ∙ ap (λ e. record { half = adding b (record h { reading = record h.reading { escape = e } }); event = events.Nothing; takes = true }) (sym i.escape)
