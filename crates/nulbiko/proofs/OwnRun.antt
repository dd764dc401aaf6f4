-- What a page with a table of its own came to, said of what its caller knows.
use Rattle.std.proofs.Common.{◌≡◌, ℕ, ◌<◌, List, [], length, Bool, true, false, ◌&&◌, Option, None, Some, refl, ap, sym, subst, ◌∙◌}
use Rattle.nr_units.specs.Source.{Supply}
use Rattle.utf8_characters.specs.declared.table.FixedTable as fixed
use Rattle.utf8_own_characters.specs.declared.counting.Count.{Count}
use Rattle.utf8_own_characters.specs.Ranking.{ranked}
use Rattle.utf8_own_characters.specs.Table.{Characters}
use Rattle.utf8_own_page.specs.Looking.{counts_of}
use Rattle.utf8_own_page.specs.Needing.{IsMadeOf, IsTableOf, lacks}
use Rattle.preconv_characters.specs.declared.target.Target.{Target}
use Rattle.preconv_characters.specs.declared.target.Target.TheVariants.{Ascii}
use Rattle.preconv_characters.specs.declared.target.Target.TheVariants as targets
use Rattle.tbl_stage.specs.Text.{Bounds}
use Rattle.nr_options.specs.Limits as limits
use Rattle.nr_options.specs.declared.options.Options.{Options}
use Rattle.document_stages.specs.Pulling.{whole}
use Rattle.document_reader.specs.Page.{IsShort, man_of, own_of, plain_of}
use Rattle.document_reader.specs.declared.page.Stages.{Stages}
use Rattle.document_printing.specs.Document.{Setting, setting_of, source_of}
use Rattle.document_printing.specs.Showing.{Shows}
use Rattle.document_printing.specs.declared.setup.PageEnd.{PageEnd}
use Rattle.document_printing.specs.declared.setup.Setup.{Setup}
use Rattle.document_printing.specs.declared.showing.PageTable.{PageTable}
use Rattle.document_printing.specs.declared.showing.PageTable.TheVariants.{Fixed, Own}
use Rattle.document_printing.specs.declared.showing.Spelling.{Spelling}
use Rattle.document_printing.specs.declared.showing.Spelling.TheVariants.{Utf8}
use Rattle.nulbiko.specs.Document.{PrintsDocument, table_for}
use Rattle.nulbiko.specs.Own.{HasOwn, IsCodedShort, IsOwn, IsShortIf, Lends, LookIsShort, OwnIsShort, OwnIsShortToo, PrintsBy, PrintsOwn, PrintsPage, ShowsOwn, asks_for_own, coded_setup, counts_for, stages_of, takes_own}
use Rattle.nulbiko.specs.declared.document.DocumentSetup.{DocumentSetup}
use Rattle.nulbiko.specs.declared.reported.Report.{Report}

-- where the output was empty, and has these bytes
pub shown-as : (s : Setting) (spelling : Spelling) (source : Supply) (n n' : ℕ) (o o' : PageEnd) (held new : Option (List ℕ)) (bytes : List ℕ)
    → Shows s spelling source n o held new → held ≡ Some [] → new ≡ Some bytes → n' ≡ n → o' ≡ o
    → Shows s spelling source n' o' (Some []) (Some bytes)
shown-as s spelling source n n' o o' held new bytes shows before after moves outcome =
    subst (λ (z : ℕ). Shows s spelling source z o' (Some []) (Some bytes)) (sym moves)
    (subst (λ (z : PageEnd). Shows s spelling source n z (Some []) (Some bytes)) (sym outcome)
    (subst (λ (z : Option (List ℕ)). Shows s spelling source n o (Some []) z) after
    (subst (λ (z : Option (List ℕ)). Shows s spelling source n o z new) before shows)))

-- of a page in the bytes of its table
pub shown-coded : (setup setup' : Setup) (t : Bounds) (l : limits.Bounds) (spelling spelling' : Spelling) (q : Supply) (n n' : ℕ) (o o' : PageEnd)
    (held new : Option (List ℕ)) (bytes : List ℕ)
    → (IsShort q.bytes (man_of setup'.stages.mdoc q.bytes) → Shows (setting_of setup' t l) spelling' (source_of (setting_of setup' t l) q) n o held new)
    → setup' ≡ coded_setup setup → spelling' ≡ spelling → length q.bytes < 1099511627776 → held ≡ Some [] → new ≡ Some bytes → n' ≡ n → o' ≡ o
    → Shows (setting_of (coded_setup setup) t l) spelling (source_of (setting_of (coded_setup setup) t l) q) n' o' (Some []) (Some bytes)
shown-coded setup setup' t l spelling spelling' q n n' o o' held new bytes whole is spells short before after moves outcome =
    shown-as (setting_of (coded_setup setup) t l) spelling (source_of (setting_of (coded_setup setup) t l) q) n n' o o' held new bytes
    (subst (λ (z : Spelling). Shows (setting_of (coded_setup setup) t l) z (source_of (setting_of (coded_setup setup) t l) q) n o held new) spells
    (subst (λ (z : Setup). IsShort q.bytes (man_of z.stages.mdoc q.bytes) → Shows (setting_of z t l) spelling' (source_of (setting_of z t l) q) n o held new) is whole
    (record { page_is = short; man_is = short })))
    before after moves outcome

abbrev coded-bytes : List ℕ → Bool → Bounds → limits.Bounds → Options → Setting
coded-bytes macros sets t l options = record {
  macros = macros;
  stages = record { mdoc = false; characters = false };
  sets = sets;
  characters = Ascii;
  tables = t;
  limits = l;
  options = options;
}

set-bytes : (macros : List ℕ) (own : Stages → List ℕ) (stages stages' : Stages) (a a' : Bool) (t : Bounds) (l l' : limits.Bounds) (options : Options)
    (table : PageTable) (e e' : Bool) (n : ℕ) (o : PageEnd) (bytes : List ℕ)
    → Shows (coded-bytes macros a t l options) (Utf8 table e) (source_of (coded-bytes macros a t l options) (whole (own stages))) n o (Some []) (Some bytes)
    → stages ≡ stages' → a ≡ a' → l ≡ l' → e ≡ e'
    → Shows (coded-bytes macros a' t l' options) (Utf8 table e') (source_of (coded-bytes macros a' t l' options) (whole (own stages'))) n o (Some []) (Some bytes)
set-bytes macros own stages stages' a a' t l l' options table e e' n o bytes shows same sets bounds escapes =
    subst (λ (z : Bool). Shows (coded-bytes macros a' t l' options) (Utf8 table z) (source_of (coded-bytes macros a' t l' options) (whole (own stages'))) n o (Some []) (Some bytes)) escapes
    (subst (λ (z : limits.Bounds). Shows (coded-bytes macros a' t z options) (Utf8 table e) (source_of (coded-bytes macros a' t z options) (whole (own stages'))) n o (Some []) (Some bytes)) bounds
    (subst (λ (z : Bool). Shows (coded-bytes macros z t l options) (Utf8 table e) (source_of (coded-bytes macros z t l options) (whole (own stages'))) n o (Some []) (Some bytes)) sets
    (subst (λ (z : Stages). Shows (coded-bytes macros a t l options) (Utf8 table e) (source_of (coded-bytes macros a t l options) (whole (own z))) n o (Some []) (Some bytes)) same shows)))

abbrev plain-setting : List ℕ → Stages → Bool → Target → Bounds → limits.Bounds → Options → Setting
plain-setting macros stages sets target t l options = record {
  macros = macros;
  stages = stages;
  sets = sets;
  characters = target;
  tables = t;
  limits = l;
  options = options;
}

pub set-own : (macros text : List ℕ) (stages stages' : Stages) (a a' : Bool) (target target' : Target) (t : Bounds) (l l' : limits.Bounds) (options : Options)
    (table : PageTable) (e : Bool) (n : ℕ) (o : PageEnd) (bytes : List ℕ)
    → ShowsOwn (plain-setting macros stages a target t l options) table e text bytes n o
    → stages ≡ stages' → a ≡ a' → l ≡ l' → ShowsOwn (plain-setting macros stages' a' target' t l' options) table e text bytes n o
set-own macros text stages stages' a a' target target' t l l' options (Fixed f) e n o bytes shows same sets bounds = absurd shows
set-own macros text stages stages' a a' target target' t l l' options (Own r) e n o bytes shows same sets bounds =
    set-bytes macros (λ z. own_of z r.now text) stages stages' a a' t l l' options (Own r) e e n o bytes shows same sets bounds refl

pub is-own : (xs : List Count) (table : PageTable) (t : Characters) → Lends table t → IsTableOf xs t → IsOwn xs table
is-own xs (Fixed f) t lent is = absurd lent
is-own xs (Own r) t lent is = subst (λ (z : Characters). IsTableOf xs z) (sym lent) is

pub coded-short : (setup : DocumentSetup) (text : List ℕ) (stages : Stages) (table : Characters) → stages ≡ stages_of setup → OwnIsShort setup text
    → IsTableOf (counts_for setup text) table → IsCodedShort stages table text
coded-short setup text stages table same short is =
    subst (λ (z : Stages). IsCodedShort z table text) (sym same) (record { page = short.page; plain = short.plain; coded = short.coded table is })

-- what was counted of the first of a page
pub looked-as : (P : List Count → Type 0) (stages stages' : Stages) (frames frames' : Bool) (prefix prefix' : List ℕ)
    → (LookIsShort stages prefix → P (counts_of 4352 frames (plain_of stages targets.Utf8 prefix)))
    → stages ≡ stages' → frames ≡ frames' → prefix ≡ prefix'
    → LookIsShort stages' prefix' → P (counts_of 4352 frames' (plain_of stages' targets.Utf8 prefix'))
looked-as P stages stages' frames frames' prefix prefix' looked same same' same'' =
    subst (λ (z : List ℕ). LookIsShort stages' z → P (counts_of 4352 frames' (plain_of stages' targets.Utf8 z))) same''
    (subst (λ (z : Bool). LookIsShort stages' prefix → P (counts_of 4352 z (plain_of stages' targets.Utf8 prefix))) same'
    (subst (λ (z : Stages). LookIsShort z prefix → P (counts_of 4352 frames (plain_of z targets.Utf8 prefix))) same looked))

-- ---- whether a page takes one

pub not-asked : (setup : DocumentSetup) (text : List ℕ) (asks : Bool) → asks ≡ asks_for_own setup text → asks ≡ false → takes_own setup text ≡ false
not-asked setup text asks is none =
    ap (λ (z : Bool). z && lacks (table_for setup.options.table text) (counts_for setup text)) (sym is ∙ none)

asked-lacks : (setup : DocumentSetup) (text : List ℕ) (characters : Option fixed.FixedTable) (xs : List Count) (asks lacking r : Bool)
    → asks ≡ asks_for_own setup text → asks ≡ true → lacking ≡ lacks characters xs → lacking ≡ r
    → characters ≡ table_for setup.options.table text → xs ≡ counts_for setup text → takes_own setup text ≡ r
asked-lacks setup text characters xs asks lacking r is all reported same fixed-is counts =
    ap (λ (z : Bool). z && lacks (table_for setup.options.table text) (counts_for setup text)) (sym is ∙ all)
    ∙ ap (λ (z : Option fixed.FixedTable). lacks z (counts_for setup text)) (sym fixed-is)
    ∙ ap (λ (z : List Count). lacks characters z) (sym counts) ∙ sym reported ∙ same

pub lacks-none : (setup : DocumentSetup) (text : List ℕ) (characters : Option fixed.FixedTable) (xs : List Count) (asks lacking : Bool)
    → asks ≡ asks_for_own setup text → asks ≡ true → lacking ≡ lacks characters xs → lacking ≡ false
    → characters ≡ table_for setup.options.table text → xs ≡ counts_for setup text → HasOwn setup text None
lacks-none setup text characters xs asks lacking is all reported same fixed-is counts =
    asked-lacks setup text characters xs asks lacking false is all reported same fixed-is counts

pub lacks-some : (setup : DocumentSetup) (text : List ℕ) (characters : Option fixed.FixedTable) (xs ys : List Count) (asks lacking : Bool)
    → asks ≡ asks_for_own setup text → asks ≡ true → lacking ≡ lacks characters xs → lacking ≡ true
    → characters ≡ table_for setup.options.table text → xs ≡ counts_for setup text → ys ≡ ranked xs → HasOwn setup text (Some ys)
lacks-some setup text characters xs ys asks lacking is all reported same fixed-is counts order =
    (asked-lacks setup text characters xs asks lacking true is all reported same fixed-is counts, order ∙ ap ranked counts)

-- what is short where one is asked for
pub short-if : (setup : DocumentSetup) (text : List ℕ) (asks : Bool) → asks ≡ asks_for_own setup text → asks ≡ true
    → IsShortIf (asks_for_own setup text) setup text → OwnIsShortToo setup text
short-if setup text asks is all short = subst (λ (z : Bool). IsShortIf z setup text) (sym is ∙ all) short

and-left : (x y : Bool) → x && y ≡ true → x ≡ true
and-left true y both = refl
and-left false y both = both

pub short-own : (setup : DocumentSetup) (text : List ℕ) → takes_own setup text ≡ true → IsShortIf (asks_for_own setup text) setup text
    → OwnIsShortToo setup text
short-own setup text takes short =
    subst (λ (z : Bool). IsShortIf z setup text)
    (and-left (asks_for_own setup text) (lacks (table_for setup.options.table text) (counts_for setup text)) takes) short

pub prints-by : (setup : DocumentSetup) (macros text output : List ℕ) (reported : Report) (code : ℕ) (takes : Bool) → takes_own setup text ≡ takes
    → PrintsBy takes setup macros text output reported code → PrintsPage setup macros text output reported code
unfolding PrintsPage
prints-by setup macros text output reported code takes is prints =
    subst (λ (z : Bool). PrintsBy z setup macros text output reported code) (sym is) prints

pub made-as : (xs ys : List Count) (t : Characters) → IsMadeOf ys t → ys ≡ ranked xs → IsTableOf xs t
made-as xs ys t made is = subst (λ (z : List Count). IsMadeOf z t) is made

-- ---- what the call comes to

-- where its texts are the page's under its coding
pub has-own : (setup : DocumentSetup) (page first second : List ℕ) (characters : Option fixed.FixedTable) (own own' : Option (List Count))
    → first ≡ page → second ≡ page → characters ≡ table_for setup.options.table first
    → (IsShortIf (asks_for_own setup second) setup second → characters ≡ table_for setup.options.table second → HasOwn setup second own)
    → own ≡ own' → IsShortIf (asks_for_own setup page) setup page → HasOwn setup page own'
has-own setup page first second characters own own' same same' chosen has is short =
    subst (λ (z : Option (List Count)). HasOwn setup page z) is
    (subst (λ (z : List ℕ). IsShortIf (asks_for_own setup z) setup z → characters ≡ table_for setup.options.table z → HasOwn setup z own) same' has
    short (chosen ∙ ap (λ (z : List ℕ). table_for setup.options.table z) same))

pub printed-own : (setup : DocumentSetup) (macros page text output : List ℕ) (reported : Report) (code : ℕ) (xs ys : List Count)
    → text ≡ page → HasOwn setup page (Some xs) → IsShortIf (asks_for_own setup page) setup page → ys ≡ xs
    → (ys ≡ ranked (counts_for setup text) → OwnIsShort setup text → PrintsOwn setup macros text output reported code)
    → PrintsPage setup macros page output reported code
printed-own setup macros page text output reported code xs ys same has short order prints =
    prints-by setup macros page output reported code true has.0
    (subst (λ (z : List ℕ). ys ≡ ranked (counts_for setup z) → OwnIsShort setup z → PrintsOwn setup macros z output reported code) same prints
    (order ∙ has.1) (short-own setup page has.0 short).own)

pub printed-fixed : (setup : DocumentSetup) (macros page text output : List ℕ) (reported : Report) (code : ℕ)
    → text ≡ page → HasOwn setup page None → IsShort page (man_of setup.options.mdoc page)
    → (IsShort text (man_of setup.options.mdoc text) → PrintsDocument setup macros text output reported code)
    → PrintsPage setup macros page output reported code
printed-fixed setup macros page text output reported code same has short prints =
    prints-by setup macros page output reported code false has
    (subst (λ (z : List ℕ). IsShort z (man_of setup.options.mdoc z) → PrintsDocument setup macros z output reported code) same prints short)

pub ranged : (code : ℕ) (A : Type 0) → (code ≡ 2 → ⊥) → A → (code ≡ 2 → A → ⊥) × ((A → ⊥) → code ≡ 2)
ranged code A other a = (λ is. absurd (other is), λ none. absurd (none a))
