-- Text and titles change the line and what is under way, but nothing that is stored or half read.
use Prim.Native.Char.{code}
use Rattle.std.proofs.Common.{◌≡◌, ◌≤◌, ◌==◌, ℕ, Bool, length, subst, sym, true, false, if◌then◌else◌, Option, None, Some, refl, ◌∙◌}
use Rattle.std.specs.Prelude.{not}
use Rattle.nr_fill.specs.Line.{afforded}
use Rattle.nr_store.specs.Store.{Stored, charge_of}
use Rattle.nr_settings.specs.Characters.{prints}
use Rattle.nr_settings.specs.declared.specials.Special.{Special}
use Rattle.nr_settings.specs.declared.specials.Special.TheVariants as specials
use Rattle.nr_settings.specs.Specials.{special_of}
use Rattle.nr_reading.specs.declared.event.Event.{Event}
use Rattle.nr_reading.specs.declared.event.Event.TheVariants as events
use Rattle.nr_formatter.specs.declared.formatter.Formatter.{Formatter}
use Rattle.nr_formatter.specs.declared.tasks.After.{After}
use Rattle.nr_formatter.specs.declared.tasks.After.TheVariants as afters
use Rattle.nr_formatter.specs.declared.tasks.Resume.{Resume}
use Rattle.nr_input.specs.declared.reader.Reader.{Reader}
use Rattle.nr_formatter.specs.Access.{is_filling, asked}
use Rattle.nr_formatter.specs.Lines.{reads_a_field}
use Rattle.nr_formatter.specs.Text.{blank, tab, text_byte, special_at, special, blanks_dropped, line_end, joins_lines, text_line_end, text}
use Rattle.nr_formatter.specs.Limits.{IsWithin, judged}
use Rattle.nr_formatter.specs.Passed.{line_answer}
use Rattle.nr_formatter.specs.Titles.{title_special, title}
use Rattle.nr_formatter.proofs.Judging.{judged_line}

-- g has the store, the reader and the line's limit of f
pub record Keeps (f g : Formatter) : Type 0 where
  pub store : g.store ≡ f.store
  pub reader : g.reader ≡ f.reader
  pub limit : g.line.limit ≡ f.line.limit

keeps-if : (b : Bool) (f g h : Formatter) → Keeps f g → Keeps f h → Keeps f (if b then g else h)
keeps-if true f g h k l = k
keeps-if false f g h k l = l

keeps-blank : (f : Formatter) → Keeps f (blank f)
unfolding blank
keeps-blank f = keeps-if (not (is_filling f)) f _ _ (record { store = refl; reader = refl; limit = refl }) (keeps-if (reads_a_field f) f _ _ (record { store = refl; reader = refl; limit = refl }) (record { store = refl; reader = refl; limit = refl }))

keeps-tab : (filler : Option ℕ) (f : Formatter) → Keeps f (tab filler f)
unfolding tab
keeps-tab filler f = keeps-if (reads_a_field f) f _ _ (record { store = refl; reader = refl; limit = refl }) (record { store = refl; reader = refl; limit = refl })

keeps-text_byte : (b : ℕ) (f : Formatter) → Keeps f (text_byte b f)
unfolding text_byte
keeps-text_byte b f =
    keeps-if (b == code " ") f _ _ (keeps-blank f) (keeps-if (b == code "\t") f _ _ (keeps-tab f.settings.tabs.tab f)
    (keeps-if (b == 1) f _ _ (keeps-tab f.settings.tabs.leader f) (keeps-if (prints b) f _ _ (record { store = refl; reader = refl; limit = refl }) (record { store = refl; reader = refl; limit = refl }))))

keeps-special_at : (s : Option Special) (f : Formatter) → Keeps f (special_at s f)
keeps-special_at None f = record { store = refl; reader = refl; limit = refl }
keeps-special_at (Some specials.Hyphen) f = record { store = refl; reader = refl; limit = refl }
keeps-special_at (Some specials.Dash) f = record { store = refl; reader = refl; limit = refl }
keeps-special_at (Some specials.Point) f = record { store = refl; reader = refl; limit = refl }
keeps-special_at (Some specials.Joint) f = record { store = refl; reader = refl; limit = refl }
keeps-special_at (Some s) f = record { store = refl; reader = refl; limit = refl }

keeps-special : (f : Formatter) → Keeps f (special f)
unfolding special
keeps-special f = keeps-special_at (special_of (asked f)) f

keeps-along : (f g h : Formatter) → Keeps f g → Keeps g h → Keeps f h
keeps-along f g h k l = record { store = l.store ∙ k.store; reader = l.reader ∙ k.reader; limit = l.limit ∙ k.limit }

keeps-line_end : (after : After) (f : Formatter) → Keeps f (line_end after f)
unfolding line_end
keeps-line_end after f =
    let g = blanks_dropped f in
    keeps-along f g _ (keeps-if (not (is_filling f)) f _ _ (record { store = refl; reader = refl; limit = refl }) (record { store = refl; reader = refl; limit = refl })) (keeps-if (reads_a_field g) g _ _ (record { store = refl; reader = refl; limit = refl }) (record { store = refl; reader = refl; limit = refl }))

keeps-text_line_end : (f : Formatter) → Keeps f (text_line_end f)
unfolding text_line_end
keeps-text_line_end f = keeps-if (joins_lines f) f _ _ (record { store = refl; reader = refl; limit = refl }) (keeps-line_end afters.Line f)

pub keeps-text : (e : Event) (f : Formatter) → Keeps f (text e f)
keeps-text (events.Byte b) f = keeps-text_byte b f
keeps-text events.Tab f = keeps-tab f.settings.tabs.tab f
keeps-text events.Leader f = keeps-tab f.settings.tabs.leader f
keeps-text events.Special f = keeps-special f
keeps-text events.EndLine f = keeps-text_line_end f
keeps-text events.EndContinued f = keeps-line_end afters.Continued f
keeps-text e f = record { store = refl; reader = refl; limit = refl }

keeps-title_special : (s : Option Special) (f : Formatter) → Keeps f (title_special s f)
keeps-title_special None f = record { store = refl; reader = refl; limit = refl }
keeps-title_special (Some specials.Dash) f = record { store = refl; reader = refl; limit = refl }
keeps-title_special (Some specials.Point) f = record { store = refl; reader = refl; limit = refl }
keeps-title_special (Some specials.Joint) f = record { store = refl; reader = refl; limit = refl }
keeps-title_special (Some s) f = record { store = refl; reader = refl; limit = refl }

pub keeps-title : (e : Event) (f : Formatter) → Keeps f (title e f)
keeps-title events.Special f = keeps-title_special (special_of (asked f)) f
keeps-title e f = record { store = refl; reader = refl; limit = refl }

-- such a move is refused by the line alone
pub judged-keeps : (f g : Formatter) → Keeps f g → IsWithin f → judged g ≡ line_answer (afforded g.line)
judged-keeps f g keeps within =
    judged_line g (subst (λ (v : Stored Resume). charge_of v ≤ v.limit) (sym keeps.store) within.stored)
    (subst (λ (v : Stored Resume). length v.levels ≤ v.deepest) (sym keeps.store) within.depth)
    (subst (λ (r : Reader). r.burst ≤ r.most) (sym keeps.reader) within.burst)
