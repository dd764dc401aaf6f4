-- What a page shows, by how it is set.
use Rattle.std.proofs.Common.{◌≡◌, ℕ, List, [], append-nil, Bool, true, false, ◌&&◌, if◌then◌else◌, Option, None, Some, Result, Ok, Err, IfOk, refl, sym, subst, ap, ◌∙◌}
use Rattle.std.specs.Borrow.{Bor}
use Rattle.nr_units.specs.Source.{Supply}
use Rattle.nr_options.specs.Limits.{Bounds}
use Rattle.tbl_setting.specs.Drawing.{signs_of}
use Rattle.tbl_stage.specs.Text as tbl
use Rattle.utf8_own_characters.specs.Table.{Characters, Good}
use Rattle.utf8_own_characters.specs.declared.counting.Count.{Count}
use Rattle.utf8_own_page.specs.Needing.{IsMadeOf, lacks}
use Rattle.utf8_own_page.specs.Signs.{signs_for}
use Rattle.document_reader.specs.Page.{IsShort, man_of, own_of, own_supply}
use Rattle.document_printing.specs.Document.{setting_of, source_of}
use Rattle.tbl_stage.specs.Memory.{limits_of}
use Rattle.document_printing.specs.Showing.{Shows}
use Rattle.document_printing.specs.declared.setup.Report.{Report}
use Rattle.document_printing.specs.declared.showing.Showing.{Showing}
use Rattle.program_command.specs.Own.{HasOwn, counts_of, may_need_own, needs_own, ranked_of}
use Rattle.program_command.specs.Printing.{AreAllShort, AreShort, FixedShows, Given, OwnShows, Printed, ShowsBy, TableShows, Where, fixed_showing, given_by, own_showing}
use Rattle.program_command.specs.declared.plan.Plan.{Plan}
use Rattle.program_command.specs.declared.printing.Means.{Means}
use Rattle.document_reader.specs.declared.page.Stages.{Stages}

-- all of a page is short
pub short-whole : (stages : Stages) (page : List ℕ) → AreAllShort page → AreShort stages page
short-whole stages page short = short stages page [] (sym (append-nil page))

-- ---- with a fixed table

pub short-fixed : (plan : Plan) (means : Means) (showing : Showing) (page : List ℕ) → showing ≡ fixed_showing plan means → AreAllShort page
    → IsShort page (man_of showing.setup.stages.mdoc page)
short-fixed plan means showing page is short =
    subst (λ (s : Showing). IsShort page (man_of s.setup.stages.mdoc page)) (sym is) (short-whole plan.stages page short).man_is

pub FixedShows-of : (plan : Plan) (means : Means) (limits : Bounds) (showing : Showing) (tables : tbl.Bounds) (q : Supply) (report : Report)
    (held new : Option (List ℕ)) → showing ≡ fixed_showing plan means → tables ≡ limits_of means.limits plan.cells (signs_of plan.characters)
    → Shows (setting_of showing.setup tables limits) showing.spelling (source_of (setting_of showing.setup tables limits) q) report.moves report.outcome held new
    → FixedShows plan (given_by means limits) q report held new
FixedShows-of plan means limits showing tables q report held new is drawn shows =
    let same : Shows (setting_of (fixed_showing plan means).setup tables limits) (fixed_showing plan means).spelling (source_of (setting_of (fixed_showing plan means).setup tables limits) q) report.moves report.outcome held new =
    subst (λ (s : Showing). Shows (setting_of s.setup tables limits) s.spelling (source_of (setting_of s.setup tables limits) q) report.moves report.outcome held new) is shows in
    record { shows = subst (λ (t : tbl.Bounds). Shows (setting_of (fixed_showing plan means).setup t limits) (fixed_showing plan means).spelling (source_of (setting_of (fixed_showing plan means).setup t limits) q) report.moves report.outcome held new) drawn same }

-- ---- with a table of its own

pub short-own : (plan : Plan) (table : Bor Characters) (means : Means) (showing : Showing) (page : List ℕ) → showing ≡ own_showing plan table means
    → AreAllShort page → IsShort (own_of plan.stages table.now page) (man_of showing.setup.stages.mdoc (own_of plan.stages table.now page))
short-own plan table means showing page is short =
    let own : List ℕ = own_of plan.stages table.now page in
    let few = (short-whole plan.stages page short).own_is table.now in
    let both : IsShort own own = record { page_is = few; man_is = few } in
    subst (λ (s : Showing). IsShort own (man_of s.setup.stages.mdoc own)) (sym is) both

pub OwnShows-of : (plan : Plan) (table : Bor Characters) (means : Means) (limits : Bounds) (showing : Showing) (tables : tbl.Bounds) (q : Supply)
    (report : Report) (held new : Option (List ℕ)) → showing ≡ own_showing plan table means
    → tables ≡ limits_of means.limits plan.cells (signs_for table.now)
    → Shows (setting_of showing.setup tables limits) showing.spelling (source_of (setting_of showing.setup tables limits) (own_supply plan.stages table.now q)) report.moves report.outcome held new
    → OwnShows plan table (given_by means limits) q report held new
OwnShows-of plan table means limits showing tables q report held new is drawn shows =
    let p : Supply = own_supply plan.stages table.now q in
    let same : Shows (setting_of (own_showing plan table means).setup tables limits) (own_showing plan table means).spelling (source_of (setting_of (own_showing plan table means).setup tables limits) p) report.moves report.outcome held new =
    subst (λ (s : Showing). Shows (setting_of s.setup tables limits) s.spelling (source_of (setting_of s.setup tables limits) p) report.moves report.outcome held new) is shows in
    record {
      shows = subst (λ (t : tbl.Bounds). Shows (setting_of (own_showing plan table means).setup t limits) (own_showing plan table means).spelling (source_of (setting_of (own_showing plan table means).setup t limits) p) report.moves report.outcome held new) drawn same;
    }

-- ---- with the one or the other

pub needs-not : (plan : Plan) (first : List ℕ) (may : Bool) → may ≡ may_need_own plan first → may ≡ false → needs_own plan first ≡ false
needs-not plan first may is none = ap (λ (b : Bool). b && lacks plan.characters (counts_of plan first)) (sym is ∙ none)

pub needs-as : (plan : Plan) (first : List ℕ) (counts : List Count) (may lacking r : Bool) → may ≡ may_need_own plan first → may ≡ true
    → lacking ≡ lacks plan.characters counts → lacking ≡ r → counts ≡ counts_of plan first → needs_own plan first ≡ r
needs-as plan first counts may lacking r is all reported same are =
    ap (λ (b : Bool). b && lacks plan.characters (counts_of plan first)) (sym is ∙ all)
    ∙ ap (λ (xs : List Count). lacks plan.characters xs) (sym are) ∙ sym reported ∙ same

pub Printed-fixed : (plan : Plan) (first : List ℕ) (given : Given) (q : Supply) (report : Report) (held new : Option (List ℕ)) (own : Option (List Count))
    → own ≡ None → HasOwn plan first own → FixedShows plan given q report held new → Printed plan first given q report held new
Printed-fixed plan first given q report held new own is has shows =
    let none : needs_own plan first ≡ false = subst (λ (o : Option (List Count)). HasOwn plan first o) is has in
    subst (λ (b : Bool). ShowsBy b plan first given q report held new) (sym none) shows

pub Printed-own : (plan : Plan) (first : List ℕ) (given : Given) (q : Supply) (report : Report) (held new : Option (List ℕ)) (own : Option (List Count))
    (counts : List Count) (table : Bor Characters) → own ≡ Some counts → HasOwn plan first own → IsMadeOf counts table.now → Good table.now
    → OwnShows plan table given q report held new → Printed plan first given q report held new
Printed-own plan first given q report held new own counts table is has made good shows =
    let needs : HasOwn plan first (Some counts) = subst (λ (o : Option (List Count)). HasOwn plan first o) is has in
    let all : TableShows plan counts given q report held new = record { table = table; made = made; good = good; shows = shows } in
    subst (λ (b : Bool). ShowsBy b plan first given q report held new) (sym needs.0)
    (subst (λ (xs : List Count). TableShows plan xs given q report held new) needs.1 all)

-- ---- where it is known what a page is to give

pub IfOk-map : {A E : Type 0} → (r : Result A E) (P Q : A → Type 0) → ((x : A) → P x → Q x) → IfOk r P → IfOk r Q
IfOk-map (Ok x) P Q f h = f x h
IfOk-map (Err e) P Q f h = tt

pub Where-map : {A E : Type 0} → (plan : Plan) (supply : Option Supply) (P Q : A → Supply → Type 0) (r : Result A E)
    → ((x : A) (q : Supply) → supply ≡ Some q → AreAllShort q.bytes → P x q → Q x q)
    → IfOk r (λ x. Where plan supply (P x)) → IfOk r (λ x. Where plan supply (Q x))
Where-map plan supply P Q (Ok x) f h = λ checks strikes q known unbroken short. f x q known short (h checks strikes q known unbroken short)
Where-map plan supply P Q (Err e) f h = tt
