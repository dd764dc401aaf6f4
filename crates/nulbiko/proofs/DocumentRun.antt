-- What the pages of a document came to, said of what its caller knows.
use Rattle.std.proofs.Common.{◌≡◌, ℕ, List, [], ◌++◌, append-nil, Bool, true, Option, None, Some, Result, Ok, Err, ◌⊎◌, inl, inr, refl, ap, sym, subst, ◌∙◌}
use Rattle.nr_units.specs.Source.{Supply}
use Rattle.nr_units.specs.declared.source.Fault.{Fault}
use Rattle.utf8_characters.specs.declared.table.FixedTable.{FixedTable}
use Rattle.preconv_characters.specs.declared.target.Target.{Target}
use Rattle.utf8_converter.specs.Cells.{converted}
use Rattle.utf8_converter.specs.Lines.{KeepsLines}
use Rattle.utf8_converter.specs.Showing.{Finishes, Making, made_of}
use Rattle.tbl_stage.specs.Text.{Bounds}
use Rattle.nr_options.specs.Limits as limits
use Rattle.nr_options.specs.declared.options.Options.{Options}
use Rattle.document_stages.specs.Pulling.{whole}
use Rattle.document_printing.specs.Document.{Prints, Setting, pages_of, source_of}
use Rattle.document_printing.specs.declared.setup.PageEnd.{PageEnd}
use Rattle.document_printing.specs.declared.setup.PageEnd.TheVariants.{Done, Limit, NoRoom, ReadFault, TooLong, WriteFault}
use Rattle.nulbiko.specs.Printed.{IsPrefix, IsOut, IsPrinted, cut_off, dropped_of, outcome_of}
use Rattle.nulbiko.specs.declared.printed.Form.{Form}
use Rattle.nulbiko.specs.declared.printed.Form.TheVariants.{Bytes, Characters}

-- what went out is known
abbrev pub IsKnown : PageEnd → Type 0
IsKnown ReadFault = ⊥
IsKnown TooLong = ⊥
IsKnown outcome = Unit {0}

-- these pages came after what was held
pub record Came (s : Setting) (source : Supply) (n : ℕ) (o : PageEnd) (before : List ℕ) (held : Option (List ℕ)) : Type 0 where
  pub pages : List ℕ
  pub prints : Prints s source n o (Some []) (Some pages)
  pub is : IsKnown o → held ≡ Some (before ++ pages)

pub came : (s : Setting) (source : Supply) (n : ℕ) (o : PageEnd) (before : List ℕ) (held : Option (List ℕ))
    → Prints s source n o (Some before) held → Came s source n o before held
came s source n Done before None p = absurd p.out
came s source n Done before (Some ys) p =
    record { pages = pages_of s source n; prints = record { ran = p.ran; out = refl }; is = λ _. ap Some p.out }
came s source n (Limit which at) before None p = absurd p.out
came s source n (Limit which at) before (Some ys) p =
    record { pages = pages_of s source n; prints = record { ran = p.ran; out = refl }; is = λ _. ap Some p.out }
came s source n NoRoom before None p = absurd p.1.out
came s source n NoRoom before (Some ys) p =
    record { pages = pages_of s source n; prints = (p.0, record { ran = p.1.ran; out = refl }); is = λ _. ap Some p.1.out }
came s source n ReadFault before held p = record { pages = pages_of s source n; prints = record { ran = p.ran; out = refl }; is = λ known. absurd known }
came s source n TooLong before held p = record { pages = pages_of s source n; prints = record { ran = p.ran; out = refl }; is = λ known. absurd known }
came s source n WriteFault before None p = absurd p.prefix.3
came s source n WriteFault before (Some ys) p = record {
  pages = p.prefix.0;
  prints = record { ran = p.ran; prefix = (p.prefix.0, p.prefix.1, p.prefix.2, refl) };
  is = λ _. ap Some p.prefix.3;
}

-- ---- as bytes

-- all pages are a prefix of themselves
pub plain_out : (o : PageEnd) (bytes : List ℕ) → IsOut o Bytes bytes bytes 0
plain_out Done bytes = (refl, refl)
plain_out (Limit which at) bytes = (refl, refl)
plain_out NoRoom bytes = (refl, refl)
plain_out ReadFault bytes = tt
plain_out TooLong bytes = tt
plain_out WriteFault bytes = ([], sym (append-nil bytes))

-- ---- in UTF-8

abbrev making : FixedTable → Bool → Option (List ℕ) → ℕ → Making
making t e begun failed = record { table = t; escapes = e; begun = begun; failed = failed }

-- all of it, or a prefix of it
all_of : (t : FixedTable) (e : Bool) (failed failed' : ℕ) (pages bytes : List ℕ) (n : ℕ)
    → Finishes {E = Fault} (making t e (Some []) failed) pages (Some bytes) failed' (Ok n) → IsOut Done (Characters t e) pages bytes n
all_of t e failed failed' pages bytes n f = (f.went_out, subst (λ (z : List ℕ). KeepsLines t e pages z) (sym f.went_out) f.text, f.made)

prefix_of : (t : FixedTable) (e : Bool) (failed failed' : ℕ) (pages bytes : List ℕ) (x : Fault)
    → Finishes (making t e (Some []) failed) pages (Some bytes) failed' (Err x) → IsPrefix bytes (converted t e pages)
prefix_of t e failed failed' pages bytes x f =
    (f.went_out.1, f.went_out.2 ∙ ap (λ (z : List ℕ). z ++ f.went_out.1) (sym f.went_out.3))

shown_at : (t : FixedTable) (e : Bool) (failed failed' : ℕ) (o : PageEnd) (pages bytes : List ℕ) (r : Result ℕ Fault)
    → (IsKnown o → Finishes (making t e (Some []) failed) pages (Some bytes) failed' r)
    → IsOut (outcome_of o r) (Characters t e) pages bytes (dropped_of r)
shown_at t e failed failed' Done pages bytes (Ok n) f = all_of t e failed failed' pages bytes n (f tt)
shown_at t e failed failed' (Limit which at) pages bytes (Ok n) f = all_of t e failed failed' pages bytes n (f tt)
shown_at t e failed failed' NoRoom pages bytes (Ok n) f = all_of t e failed failed' pages bytes n (f tt)
shown_at t e failed failed' ReadFault pages bytes (Ok n) f = tt
shown_at t e failed failed' TooLong pages bytes (Ok n) f = tt
shown_at t e failed failed' WriteFault pages bytes (Ok n) f =
    ([], sym (all_of t e failed failed' pages bytes n (f tt)).0 ∙ sym (append-nil bytes))
shown_at t e failed failed' Done pages bytes (Err x) f = prefix_of t e failed failed' pages bytes x (f tt)
shown_at t e failed failed' (Limit which at) pages bytes (Err x) f = prefix_of t e failed failed' pages bytes x (f tt)
shown_at t e failed failed' NoRoom pages bytes (Err x) f = prefix_of t e failed failed' pages bytes x (f tt)
shown_at t e failed failed' ReadFault pages bytes (Err x) f = tt
shown_at t e failed failed' TooLong pages bytes (Err x) f = tt
shown_at t e failed failed' WriteFault pages bytes (Err x) f = prefix_of t e failed failed' pages bytes x (f tt)

pub shown_out : (t : FixedTable) (e : Bool) (begun new : Option (List ℕ)) (failed failed' : ℕ) (o : PageEnd) (pages bytes : List ℕ) (r : Result ℕ Fault)
    → begun ≡ Some [] → new ≡ Some bytes
    → (IsKnown o → Finishes (making t e begun failed) pages new failed' r)
    → IsOut (outcome_of o r) (Characters t e) pages bytes (dropped_of r)
shown_out t e begun new failed failed' o pages bytes r before after f =
    shown_at t e failed failed' o pages bytes r
    (λ known. subst (λ (z : Option (List ℕ)). Finishes (making t e (Some []) failed) pages z failed' r) after
    (subst (λ (y : Option (List ℕ)). Finishes (making t e y failed) pages new failed' r) before (f known)))

-- ---- how it was printed

reported_of : (o : PageEnd) (r : Result ℕ Fault) → (outcome_of o r ≡ o) ⊎ (outcome_of o r ≡ cut_off o)
reported_of o (Ok n) = inl refl
reported_of o (Err x) = inr refl

pub is_printed : (s : Setting) (form : Form) (page bytes pages : List ℕ) (n m d : ℕ) (o p : PageEnd) (r : Result ℕ Fault)
    → Prints s (source_of s (whole page)) n o (Some []) (Some pages) → IsOut (outcome_of o r) form pages bytes (dropped_of r)
    → m ≡ n → p ≡ outcome_of o r → d ≡ dropped_of r → IsPrinted s form page bytes m p d
is_printed s form page bytes pages n m d o p r prints out moves outcome dropped =
    subst (λ (x : ℕ). IsPrinted s form page bytes m p x) (sym dropped)
    (subst (λ (y : PageEnd). IsPrinted s form page bytes m y (dropped_of r)) (sym outcome)
    (subst (λ (z : ℕ). IsPrinted s form page bytes z (outcome_of o r) (dropped_of r)) (sym moves)
    (record { ended = o; pages = pages; prints = prints; reported = reported_of o r; out = out })))

some_is : (xs ys : List ℕ) → Some xs ≡ Some ys → xs ≡ ys
some_is xs ys e = cc

-- where the pages went out as they are
pub plain_printed : (s : Setting) (form : Form) (page bytes : List ℕ) (old new : Option (List ℕ)) (n m d : ℕ) (o p : PageEnd)
    → form ≡ Bytes → Prints s (source_of s (whole page)) n o old new → old ≡ Some [] → new ≡ Some bytes
    → m ≡ n → p ≡ o → d ≡ 0 → IsPrinted s form page bytes m p d
plain_printed s form page bytes old new n m d o p is prints before after moves outcome dropped =
    subst (λ (f : Form). IsPrinted s f page bytes m p d) (sym is)
    (is_printed s Bytes page bytes bytes n m d o p (Ok 0)
    (subst (λ (z : Option (List ℕ)). Prints s (source_of s (whole page)) n o (Some []) z) after
    (subst (λ (y : Option (List ℕ)). Prints s (source_of s (whole page)) n o y new) before prints))
    (plain_out o bytes) moves outcome dropped)

-- where they went out through a sink that shows them, which held these bytes first and those last
pub shown_printed : (s : Setting) (page : List ℕ) (t : FixedTable) (e : Bool) (begun new : Option (List ℕ)) (failed failed' : ℕ) (first last bytes : List ℕ)
    (n m d : ℕ) (o p : PageEnd) (r : Result ℕ Fault)
    → first ≡ made_of (making t e begun failed) → Prints s (source_of s (whole page)) n o (Some first) (Some last)
    → ((k : Making) (xs : List ℕ) → last ≡ made_of k ++ xs → Finishes k xs new failed' r)
    → begun ≡ Some [] → new ≡ Some bytes → m ≡ n → p ≡ outcome_of o r → d ≡ dropped_of r
    → IsPrinted s (Characters t e) page bytes m p d
shown_printed s page t e begun new failed failed' first last bytes n m d o p r is prints finishes before after moves outcome dropped =
    let k = came s (source_of s (whole page)) n o first (Some last) prints in
    is_printed s (Characters t e) page bytes k.pages n m d o p r k.prints
    (shown_out t e begun new failed failed' o k.pages bytes r before after
    (λ known. finishes (making t e begun failed) k.pages (some_is last (first ++ k.pages) (k.is known) ∙ ap (λ (z : List ℕ). z ++ k.pages) is)))
    moves outcome dropped

-- ---- how it was set

abbrev setting : List ℕ → Bool → Bool → Target → Bounds → limits.Bounds → Options → Setting
setting macros mdoc sets characters tables bounds options = record {
  macros = macros;
  stages = record { mdoc = mdoc; characters = true };
  sets = sets;
  characters = characters;
  tables = tables;
  limits = bounds;
  options = options;
}

pub set_printed : (macros page bytes : List ℕ) (mdoc a a' : Bool) (t t' : Target) (b : Bounds) (l l' : limits.Bounds) (options : Options) (f f' : Form) (n d d' : ℕ) (o : PageEnd)
    → IsPrinted (setting macros mdoc a t b l options) f page bytes n o d → a ≡ a' → t ≡ t' → l ≡ l' → f ≡ f' → d' ≡ d
    → IsPrinted (setting macros mdoc a' t' b l' options) f' page bytes n o d'
set_printed macros page bytes mdoc a a' t t' b l l' options f f' n d d' o printed sets characters bounds form dropped =
    subst (λ (v : ℕ). IsPrinted (setting macros mdoc a' t' b l' options) f' page bytes n o v) (sym dropped)
    (subst (λ (z : Form). IsPrinted (setting macros mdoc a' t' b l' options) z page bytes n o d) form
    (subst (λ (y : limits.Bounds). IsPrinted (setting macros mdoc a' t' b y options) f page bytes n o d) bounds
    (subst (λ (x : Target). IsPrinted (setting macros mdoc a' x b l options) f page bytes n o d) characters
    (subst (λ (w : Bool). IsPrinted (setting macros mdoc w t b l options) f page bytes n o d) sets printed))))
