-- What reaches a reader of what was printed.
use Rattle.std.proofs.Common.{◌≡◌, ◌≢◌, ℕ, ◌+◌, ◌≤◌, suc, List, [], ◌∷◌, ◌++◌, append-nil, Bool, true, false, Option, None, Some, Result, Ok, Err, IsOk, refl, sym, ◌∙◌, ap, subst, arith}
use Rattle.std.specs.Io.KnownBytes.{Appends}
use Rattle.std.specs.Result.{is_err}
use Rattle.nr_units.specs.Failures.{SinkFailures, next_count, no_failures}
use Rattle.nr_units.specs.Sink.{AppendsPrefix}
use Rattle.nr_units.specs.Source.{Supply}
use Rattle.nr_units.specs.declared.source.Fault.{Fault}
use Rattle.utf8_characters.specs.declared.table.FixedTable.{FixedTable}
use Rattle.nr_machine.specs.declared.outcome.Outcome as machine
use Rattle.nr_machine.specs.declared.outcome.Outcome.TheVariants as machines
use Rattle.utf8_converter.specs.Cells as fixed
use Rattle.utf8_converter.specs.Showing as utf8
use Rattle.utf8_converter.specs.Lines.{KeepsLines}
use Rattle.utf8_converter.specs.Text.{IsText}
use Rattle.utf8_converter.proofs.Text.{converted-lines}
use Rattle.utf8_own_characters.specs.Table.{Characters}
use Rattle.utf8_own_sink.specs.Cells as own
use Rattle.utf8_own_sink.specs.Showing as owns
use Rattle.utf8_own_sink.proofs.Finishing.{emitted-append}
use Rattle.document_printing.specs.declared.setup.PageEnd.{PageEnd}
use Rattle.document_printing.specs.declared.setup.PageEnd.TheVariants as outcomes
use Rattle.document_printing.specs.declared.showing.PageTable.TheVariants.{Fixed}
use Rattle.document_printing.specs.declared.showing.Spelling.{Spelling}
use Rattle.document_printing.specs.declared.showing.Spelling.TheVariants.{Bytes, Utf8}
use Rattle.document_printing.specs.Document.{GoesOut, Prints, Setting, TellsWrites, pages_of, read_fault}
use Rattle.document_printing.specs.Showing.{IsPrefix, IsShown, Shows, document, shown, reported_shown}
use Rattle.document_printing.specs.Laws.{IsPrefixOfText, is_whole}

-- ---- bytes go out as they are

prefixes : (held new : Option (List ℕ)) (bytes : List ℕ) → Appends held new bytes → AppendsPrefix held new bytes
prefixes held new bytes out = (bytes, [], sym (append-nil bytes), out)

shows_goes : (s : Setting) (source : Supply) (n : ℕ) (ended : machine.Outcome) (held new : Option (List ℕ)) → GoesOut s source n ended held new → IsShown s Bytes source n ended held new
shows_goes s source n ended held new g = record { ran = g.ran; out = g.out }

pub shows-bytes : (s : Setting) (source : Supply) (n : ℕ) (o : PageEnd) (held new : Option (List ℕ)) → Prints s source n o held new → Shows s Bytes source n o held new
shows-bytes s source n outcomes.Done held new p = shows_goes s source n machines.Done held new p
shows-bytes s source n (outcomes.Limit which at) held new p = shows_goes s source n (machines.Limit which at) held new p
shows-bytes s source n outcomes.NoRoom held new p = (p.0, shows_goes s source n (read_fault s source n) held new p.1)
shows-bytes s source n outcomes.ReadFault held new p = record { ran = p.ran; prefix = prefixes held new (pages_of s source n) p.out }
shows-bytes s source n outcomes.TooLong held new p = record { ran = p.ran; prefix = prefixes held new (pages_of s source n) p.out }
shows-bytes s source n outcomes.WriteFault held new p = record { made = suc n; few = omega arith; prefix = p.prefix }

pub shows-bytes-as : (w : Spelling) (s : Setting) (source : Supply) (n : ℕ) (o : PageEnd) (held new : Option (List ℕ)) → w ≡ Bytes → Prints s source n o held new → Shows s w source n o held new
shows-bytes-as w s source n o held new is p = subst (λ (x : Spelling). Shows s x source n o held new) (sym is) (shows-bytes s source n o held new p)

-- ---- characters are shown

-- all of these bytes went out as they are shown, or a prefix did
abbrev Ends : {T : Type 0} → Spelling → Option (List ℕ) → ℕ → Option (List ℕ) → ℕ → List ℕ → Result T Fault → Type 0
Ends w begun failed new after came (Ok x) = Appends begun new (shown w came) × (after ≡ failed)
Ends w begun failed new after came (Err f) = AppendsPrefix begun new (shown w came) × (after ≡ next_count failed)

-- How a sink ended that shows bytes so in another one, which had held this and failed so often: it had held these bytes and holds
-- those, and so many of its puts had failed.
pub record Ended (T : Type 0) (w : Spelling) (begun : Option (List ℕ)) (failed : ℕ) (before bytes : List ℕ) (puts : ℕ) (new : Option (List ℕ)) (after : ℕ) (x : Result T Fault) : Type 0 where
  pub shows : (came : List ℕ) → bytes ≡ before ++ came → Ends w begun failed new after came x
  pub broke : (came more : List ℕ) → bytes ≡ before ++ came → puts ≢ 0 → AppendsPrefix begun new (shown w (came ++ more))
  pub fails : IsOk x → puts ≡ 0

next_some : next_count 0 ≢ 0
unfolding next_count
next_some e = let never : 1 ≡ 0 = e in absurd (omega (arith, never))

-- all that came is shown
all_shown : {T : Type 0} (s : Setting) (w : Spelling) (begun : Option (List ℕ)) (failed : ℕ) (source : Supply) (n : ℕ) (before bytes : List ℕ) (puts : ℕ) (new : Option (List ℕ)) (after : ℕ) (k : T)
    → Ended T w begun failed before bytes puts new after (Ok k) → bytes ≡ before ++ pages_of s source n → Appends begun new (document s w source n)
all_shown s w begun failed source n before bytes puts new after k e came =
    let done : Appends begun new (shown w (pages_of s source n)) × (after ≡ failed) = e.shows (pages_of s source n) came in
    done.0

-- or a prefix of it
prefix_shown : {T : Type 0} (s : Setting) (w : Spelling) (begun : Option (List ℕ)) (failed : ℕ) (source : Supply) (n : ℕ) (before bytes : List ℕ) (puts : ℕ) (new : Option (List ℕ)) (after : ℕ) (f : Fault)
    → Ended T w begun failed before bytes puts new after (Err f) → bytes ≡ before ++ pages_of s source n → AppendsPrefix begun new (document s w source n)
prefix_shown s w begun failed source n before bytes puts new after f e came =
    let cut : AppendsPrefix begun new (shown w (pages_of s source n)) × (after ≡ next_count failed) = e.shows (pages_of s source n) came in
    cut.0

some_shown : {T : Type 0} (s : Setting) (w : Spelling) (begun : Option (List ℕ)) (failed : ℕ) (source : Supply) (n : ℕ) (before bytes : List ℕ) (puts : ℕ) (new : Option (List ℕ)) (after : ℕ) (x : Result T Fault)
    → Ended T w begun failed before bytes puts new after x → bytes ≡ before ++ pages_of s source n → AppendsPrefix begun new (document s w source n)
some_shown s w begun failed source n before bytes puts new after (Ok k) e came =
    prefixes begun new (document s w source n) (all_shown s w begun failed source n before bytes puts new after k e came)
some_shown s w begun failed source n before bytes puts new after (Err f) e came = prefix_shown s w begun failed source n before bytes puts new after f e came

-- a put failed: a prefix of the pages came
short_shown : {T : Type 0} (s : Setting) (w : Spelling) (begun : Option (List ℕ)) (failed : ℕ) (source : Supply) (n : ℕ) (before bytes : List ℕ) (puts : ℕ) (new : Option (List ℕ)) (after : ℕ) (x : Result T Fault)
    → Ended T w begun failed before bytes puts new after x → AppendsPrefix (Some before) (Some bytes) (pages_of s source (suc n)) → puts ≢ 0 → IsPrefix s w source n begun new
short_shown s w begun failed source n before bytes puts new after x e came some =
    let P : List ℕ → Type 0 = λ xs. AppendsPrefix begun new (shown w xs) in
    record { made = suc n; few = omega arith; prefix = subst P (sym came.2) (e.broke came.0 came.1 came.3 some) }

pub shows-ended : {T : Type 0} (s : Setting) (w : Spelling) (begun : Option (List ℕ)) (failed : ℕ) (source : Supply) (n : ℕ) (o : PageEnd) (before bytes : List ℕ) (none puts : ℕ) (new : Option (List ℕ)) (after : ℕ) (x : Result T Fault) → none ≡ 0 → Ended T w begun failed before bytes puts new after x → Prints s source n o (Some before) (Some bytes) → TellsWrites o none puts
    → Shows s w source n (reported_shown o (is_err x)) begun new
shows-ended s w begun failed source n outcomes.Done before bytes none puts new after (Ok k) zero e p tells = record { ran = p.ran; out = all_shown s w begun failed source n before bytes puts new after k e p.out }
shows-ended s w begun failed source n outcomes.Done before bytes none puts new after (Err f) zero e p tells = record { made = n; few = omega arith; prefix = prefix_shown s w begun failed source n before bytes puts new after f e p.out }
shows-ended s w begun failed source n (outcomes.Limit which at) before bytes none puts new after (Ok k) zero e p tells = record { ran = p.ran; out = all_shown s w begun failed source n before bytes puts new after k e p.out }
shows-ended s w begun failed source n (outcomes.Limit which at) before bytes none puts new after (Err f) zero e p tells = record { made = n; few = omega arith; prefix = prefix_shown s w begun failed source n before bytes puts new after f e p.out }
shows-ended s w begun failed source n outcomes.NoRoom before bytes none puts new after (Ok k) zero e p tells = (p.0, record { ran = p.1.ran; out = all_shown s w begun failed source n before bytes puts new after k e p.1.out })
shows-ended s w begun failed source n outcomes.NoRoom before bytes none puts new after (Err f) zero e p tells = record { made = n; few = omega arith; prefix = prefix_shown s w begun failed source n before bytes puts new after f e p.1.out }
shows-ended s w begun failed source n outcomes.ReadFault before bytes none puts new after (Ok k) zero e p tells = record { ran = p.ran; prefix = some_shown s w begun failed source n before bytes puts new after (Ok k) e p.out }
shows-ended s w begun failed source n outcomes.ReadFault before bytes none puts new after (Err f) zero e p tells = record { ran = p.ran; prefix = some_shown s w begun failed source n before bytes puts new after (Err f) e p.out }
shows-ended s w begun failed source n outcomes.TooLong before bytes none puts new after (Ok k) zero e p tells = record { ran = p.ran; prefix = some_shown s w begun failed source n before bytes puts new after (Ok k) e p.out }
shows-ended s w begun failed source n outcomes.TooLong before bytes none puts new after (Err f) zero e p tells = record { ran = p.ran; prefix = some_shown s w begun failed source n before bytes puts new after (Err f) e p.out }
shows-ended s w begun failed source n outcomes.WriteFault before bytes none puts new after (Ok k) zero e p tells =
    short_shown s w begun failed source n before bytes puts new after (Ok k) e p.prefix (λ none_did. next_some (sym (ap next_count zero) ∙ sym tells ∙ none_did))
shows-ended s w begun failed source n outcomes.WriteFault before bytes none puts new after (Err f) zero e p tells =
    short_shown s w begun failed source n before bytes puts new after (Err f) e p.prefix (λ none_did. next_some (sym (ap next_count zero) ∙ sym tells ∙ none_did))

pub shows-as : {T : Type 0} (s : Setting) (w : Spelling) (begun : Option (List ℕ)) (failed : ℕ) (source : Supply) (n : ℕ) (v : Spelling) (k : ℕ) (o said : PageEnd) (before bytes : List ℕ) (none puts : ℕ) (new : Option (List ℕ)) (after : ℕ) (x : Result T Fault)
    → v ≡ w → k ≡ n → said ≡ reported_shown o (is_err x) → none ≡ 0 → Ended T w begun failed before bytes puts new after x
    → Prints s source n o (Some before) (Some bytes) → TellsWrites o none puts → Shows s v source k said begun new
shows-as s w begun failed source n v k o said before bytes none puts new after x is moves same zero e p tells =
    let P : Spelling → Type 0 = λ y. Shows s y source k said begun new in
    let Q : ℕ → Type 0 = λ y. Shows s w source y said begun new in
    let R : PageEnd → Type 0 = λ y. Shows s w source n y begun new in
    subst P (sym is) (subst Q (sym moves) (subst R (sym same) (shows-ended s w begun failed source n o before bytes none puts new after x zero e p tells)))

-- ---- faults of the output

went : {T : Type 0} (w : Spelling) (begun : Option (List ℕ)) (failed : ℕ) (before bytes came : List ℕ) (puts : ℕ) (new : Option (List ℕ)) (after : ℕ) (k : T)
    → Ended T w begun failed before bytes puts new after (Ok k) → bytes ≡ before ++ came → after ≡ failed
went w begun failed before bytes came puts new after k e is =
    let done : Appends begun new (shown w came) × (after ≡ failed) = e.shows came is in
    done.1

cut : {T : Type 0} (w : Spelling) (begun : Option (List ℕ)) (failed : ℕ) (before bytes came : List ℕ) (puts : ℕ) (new : Option (List ℕ)) (after : ℕ) (f : Fault)
    → Ended T w begun failed before bytes puts new after (Err f) → bytes ≡ before ++ came → after ≡ next_count failed
cut w begun failed before bytes came puts new after f e is =
    let off : AppendsPrefix begun new (shown w came) × (after ≡ next_count failed) = e.shows came is in
    off.1

tells-ended : {T : Type 0} (s : Setting) (w : Spelling) (begun : Option (List ℕ)) (failed : ℕ) (source : Supply) (n : ℕ) (o : PageEnd) (before bytes : List ℕ) (none puts : ℕ) (new : Option (List ℕ)) (after : ℕ) (x : Result T Fault) → none ≡ 0 → Ended T w begun failed before bytes puts new after x → Prints s source n o (Some before) (Some bytes) → TellsWrites o none puts
    → TellsWrites (reported_shown o (is_err x)) failed after
tells-ended s w begun failed source n outcomes.Done before bytes none puts new after (Ok k) zero e p tells = went w begun failed before bytes (pages_of s source n) puts new after k e p.out
tells-ended s w begun failed source n outcomes.Done before bytes none puts new after (Err f) zero e p tells = cut w begun failed before bytes (pages_of s source n) puts new after f e p.out
tells-ended s w begun failed source n (outcomes.Limit which at) before bytes none puts new after (Ok k) zero e p tells = went w begun failed before bytes (pages_of s source n) puts new after k e p.out
tells-ended s w begun failed source n (outcomes.Limit which at) before bytes none puts new after (Err f) zero e p tells = cut w begun failed before bytes (pages_of s source n) puts new after f e p.out
tells-ended s w begun failed source n outcomes.NoRoom before bytes none puts new after (Ok k) zero e p tells = went w begun failed before bytes (pages_of s source n) puts new after k e p.1.out
tells-ended s w begun failed source n outcomes.NoRoom before bytes none puts new after (Err f) zero e p tells = cut w begun failed before bytes (pages_of s source n) puts new after f e p.1.out
tells-ended s w begun failed source n outcomes.ReadFault before bytes none puts new after (Ok k) zero e p tells = tt
tells-ended s w begun failed source n outcomes.ReadFault before bytes none puts new after (Err f) zero e p tells = tt
tells-ended s w begun failed source n outcomes.TooLong before bytes none puts new after (Ok k) zero e p tells = tt
tells-ended s w begun failed source n outcomes.TooLong before bytes none puts new after (Err f) zero e p tells = tt
tells-ended s w begun failed source n outcomes.WriteFault before bytes none puts new after (Ok k) zero e p tells =
    let ok : puts ≡ 0 = e.fails refl in
    absurd (next_some (sym (ap next_count zero) ∙ sym tells ∙ ok))
tells-ended s w begun failed source n outcomes.WriteFault before bytes none puts new after (Err f) zero e p tells = cut w begun failed before bytes p.prefix.0 puts new after f e p.prefix.3

pub tells-as : {T : Type 0} (s : Setting) (w : Spelling) (begun : Option (List ℕ)) (failed : ℕ) (source : Supply) (n : ℕ) (o said : PageEnd) (before bytes : List ℕ) (none puts : ℕ) (new : Option (List ℕ)) (after : ℕ) (x : Result T Fault) → said ≡ reported_shown o (is_err x) → none ≡ 0 → Ended T w begun failed before bytes puts new after x
    → Prints s source n o (Some before) (Some bytes) → TellsWrites o none puts → TellsWrites said failed after
tells-as s w begun failed source n o said before bytes none puts new after x same zero e p tells =
    subst (λ (y : PageEnd). TellsWrites y failed after) (sym same) (tells-ended s w begun failed source n o before bytes none puts new after x zero e p tells)

-- ---- the sinks that show bytes

fixed_ends : (w : Spelling) (m : utf8.Making) (came : List ℕ) (new : Option (List ℕ)) (after : ℕ) (x : Result ℕ Fault) → shown w came ≡ fixed.converted m.table m.escapes came
    → utf8.Finishes m came new after x → Ends w m.begun m.failed new after came x
fixed_ends w m came new after (Ok k) is e =
    let done : utf8.IsShown m came new after k = e in
    (subst (λ (z : List ℕ). Appends m.begun new z) (sym is) done.went_out, done.none)
fixed_ends w m came new after (Err f) is e =
    let off : utf8.IsCutOff m came new after = e in
    (subst (λ (z : List ℕ). AppendsPrefix m.begun new z) (sym is) off.went_out, off.one)

-- with a fixed table
pub fixed-ended : (w : Spelling) (m : utf8.Making) (before bytes : List ℕ) (puts : ℕ) (new : Option (List ℕ)) (after : ℕ) (x : Result ℕ Fault) → ((z : List ℕ) → shown w z ≡ fixed.converted m.table m.escapes z)
    → before ≡ utf8.made_of m
    → ((k : utf8.Making) (came : List ℕ) → bytes ≡ utf8.made_of k ++ came → utf8.Finishes k came new after x)
    → ((k : utf8.Making) (came more : List ℕ) → bytes ≡ utf8.made_of k ++ came → puts ≢ 0 → AppendsPrefix k.begun new (fixed.converted k.table k.escapes (came ++ more)))
    → (IsOk x → puts ≡ 0) → Ended ℕ w m.begun m.failed before bytes puts new after x
fixed-ended w m before bytes puts new after x is first shows broke fails = record {
  shows = λ came so. fixed_ends w m came new after x (is came) (shows m came (so ∙ ap (λ (z : List ℕ). z ++ came) first));
  broke = λ came more so some. subst (λ (z : List ℕ). AppendsPrefix m.begun new z) (sym (is (came ++ more))) (broke m came more (so ∙ ap (λ (z : List ℕ). z ++ came) first) some);
  fails = fails;
}

own_ends : (w : Spelling) (m : owns.Making) (came : List ℕ) (new : Option (List ℕ)) (after : ℕ) (x : Result (Unit {0}) Fault) → shown w came ≡ own.converted m.table m.escapes came
    → owns.Finishes m came new after x → Ends w m.begun m.failed new after came x
own_ends w m came new after (Ok k) is e =
    let done : owns.IsShown m came new after = e in
    (subst (λ (z : List ℕ). Appends m.begun new z) (sym is) done.went_out, done.none)
own_ends w m came new after (Err f) is e =
    let off : owns.IsCutOff m came new after = e in
    (subst (λ (z : List ℕ). AppendsPrefix m.begun new z) (sym is) off.went_out, off.one)

-- with the page's own
pub own-ended : (w : Spelling) (m : owns.Making) (before bytes : List ℕ) (puts : ℕ) (new : Option (List ℕ)) (after : ℕ) (x : Result (Unit {0}) Fault) → ((z : List ℕ) → shown w z ≡ own.converted m.table m.escapes z)
    → before ≡ owns.emitted m []
    → ((k : owns.Making) (came : List ℕ) → bytes ≡ owns.emitted k came → owns.Finishes k came new after x)
    → ((k : owns.Making) (came more : List ℕ) → bytes ≡ owns.emitted k came → puts ≢ 0 → AppendsPrefix k.begun new (own.converted k.table k.escapes (came ++ more)))
    → (IsOk x → puts ≡ 0) → Ended (Unit {0}) w m.begun m.failed before bytes puts new after x
own-ended w m before bytes puts new after x is first shows broke fails = record {
  shows = λ came so. own_ends w m came new after x (is came) (shows m came (so ∙ ap (λ (z : List ℕ). z ++ came) first ∙ sym (emitted-append m [] came)));
  broke = λ came more so some. subst (λ (z : List ℕ). AppendsPrefix m.begun new z) (sym (is (came ++ more)))
      (broke m came more (so ∙ ap (λ (z : List ℕ). z ++ came) first ∙ sym (emitted-append m [] came)) some);
  fails = fails;
}

-- ---- a text for a terminal

text_of : (table : FixedTable) (escapes : Bool) (pages bytes : List ℕ) → bytes ≡ [] ++ fixed.converted table escapes pages → IsText escapes bytes
text_of table escapes pages bytes is =
    let P : List ℕ → Type 0 = λ xs. IsText escapes xs in
    let lines = converted-lines table escapes pages in
    subst P (sym is) lines.text

pub reached : (s : Setting) (table : FixedTable) (escapes : Bool) (source : Supply) (n : ℕ) (o : PageEnd) (bytes : List ℕ)
    → is_whole o ≡ true → Shows s (Utf8 (Fixed table) escapes) source n o (Some []) (Some bytes) → IsText escapes bytes
reached s table escapes source n outcomes.Done bytes all shows = text_of table escapes (pages_of s source n) bytes shows.out
reached s table escapes source n (outcomes.Limit which at) bytes all shows = text_of table escapes (pages_of s source n) bytes shows.out
reached s table escapes source n outcomes.NoRoom bytes all shows = text_of table escapes (pages_of s source n) bytes shows.1.out
reached s table escapes source n outcomes.ReadFault bytes all shows = absurd (let never : false ≡ true = all in cc)
reached s table escapes source n outcomes.TooLong bytes all shows = absurd (let never : false ≡ true = all in cc)
reached s table escapes source n outcomes.WriteFault bytes all shows = absurd (let never : false ≡ true = all in cc)

pub cut-reached : (s : Setting) (table : FixedTable) (escapes : Bool) (source : Supply) (n : ℕ) (bytes : List ℕ)
    → Shows s (Utf8 (Fixed table) escapes) source n outcomes.WriteFault (Some []) (Some bytes) → IsPrefixOfText escapes bytes
cut-reached s table escapes source n bytes shows =
    let prefix = shows.prefix in
    let P : List ℕ → Type 0 = λ xs. IsText escapes xs in
    let lines = converted-lines table escapes (pages_of s source shows.made) in
    record { rest = prefix.1; text = subst P (prefix.2 ∙ ap (λ (xs : List ℕ). xs ++ prefix.1) (sym prefix.3)) lines.text }

pub lines-stay : (s : Setting) (table : FixedTable) (escapes : Bool) (source : Supply) (n : ℕ) → KeepsLines table escapes (pages_of s source n) (document s (Utf8 (Fixed table) escapes) source n)
lines-stay s table escapes source n = converted-lines table escapes (pages_of s source n)
