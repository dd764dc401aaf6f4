-- What a line of a table leaves as it was: the limits and the count of lines; and that what is kept fits.
use Rattle.std.proofs.Common.{◌≡◌, ℕ, zero, suc, ◌+◌, ◌-◌, ◌<◌, ◌≤◌, List, [], ◌∷◌, ◌++◌, length, take, drop, Bool, true, false, not, ◌==◌, if◌then◌else◌, nat_le, nat_lt, Option, None, Some, refl, sym, ◌∙◌, ap, subst, length-append, arith}
use Rattle.std.proofs.lemmas.Bool.{leb-false, ltb-false}
use Rattle.std.proofs.lemmas.List.{length-take, length-drop}
use Prim.Native.Char.{code}
use Rattle.tbl_reader.specs.declared.complaint.Kind.{Kind}
use Rattle.tbl_reader.specs.declared.complaint.Kind.TheVariants as kinds
use Rattle.tbl_reader.specs.declared.field.Mark.TheVariants as marks
use Rattle.tbl_reader.specs.declared.field.Shape.{Shape}
use Rattle.tbl_reader.specs.declared.field.Shape.TheVariants as shapes
use Rattle.tbl_reader.specs.declared.formats.Formats.{Formats}
use Rattle.tbl_reader.specs.declared.reader.Limits.{Limits}
use Rattle.tbl_reader.specs.declared.state.Mode.{Mode}
use Rattle.tbl_reader.specs.declared.state.Mode.TheVariants as modes
use Rattle.tbl_reader.specs.declared.state.State.{State}
use Rattle.tbl_reader.specs.BlockLines.{ends_block, goes_on, field_at, block_left, block_ended, block_line}
use Rattle.tbl_reader.specs.Commands.{is_command}
use Rattle.tbl_reader.specs.Fields.{is_request, is_alone, paired, place_of, comment_in, cut, cleaned, continues}
use Rattle.tbl_reader.specs.HeadLines as heads
use Rattle.tbl_reader.specs.Heads.{options_end, is_dotted}
use Rattle.tbl_reader.specs.Pages.{Page, Effect, effect, and_then, with_state, at_mode, forgotten, rest_of, line_of, wrong}
use Rattle.tbl_reader.specs.Reading.{Fits, is_kept, limit_of, line_ended_in, overflown_in, overflown, kept_more}
use Rattle.tbl_reader.specs.RowLines.{Said, trimmed, are_empty, field_said, last_said, ended_at, fields_ended, row_ended, last_ended, all_ended, line_cleaned, rest_said, line_continued, row_line, line_between, long_end, row_overflown}
use Rattle.tbl_reader.specs.States as states

pub choose : {A : Type 0} (P : A → Type 0) (b : Bool) (x y : A) → P x → P y → P (if b then x else y)
choose P true x y h k = h
choose P false x y h k = k

-- ---- of a state

abbrev pub Same : State → State → Type 0
Same s t = t.line ≡ s.line

same_field : (s : State) (text : List ℕ) → Same s (field_said s text).state
same_field s text = refl

pub same_last : (s : State) (text : List ℕ) → Same s (last_said s text).state
same_last s text =
    let t = trimmed s text in
    choose (λ (x : Said). Same s x.state) (not (states.is_beyond s)) _ _ (same_field s text)
    (choose (λ (x : Said). Same s x.state) (are_empty s.options.tab t) _ _ refl refl)

-- ---- of a page

-- what is kept fits then
pub record Fitting (p q : Page) : Type 0 where
  pub limits : q.limits ≡ p.limits
  pub same : Same p.state q.state
  pub fits : Fits q

fitting_then : (p q r : Page) → q.limits ≡ p.limits → Same p.state q.state → Fitting q r → Fitting p r
fitting_then p q r l s f = record { limits = f.limits ∙ l; same = f.same ∙ s; fits = f.fits }

-- nothing is kept then
forgets : (p q : Page) → q.limits ≡ p.limits → Same p.state q.state → Fitting p (forgotten q)
forgets p q l s = record { limits = l; same = s; fits = omega arith }

-- ---- fields

record Rowing (p q : Page) : Type 0 where
  pub limits : q.limits ≡ p.limits
  pub same : Same p.state q.state
  pub kept : q.kept ≡ p.kept

rowing_then : (p q r : Page) → Rowing p q → Rowing q r → Rowing p r
rowing_then p q r h k = record { limits = k.limits ∙ h.limits; same = k.same ∙ h.same; kept = k.kept ∙ h.kept }

rowing_at : (place : Option ℕ) (n : ℕ) (p : Page) → ((q : Page) → Rowing q (fields_ended n q).page) → Rowing p (ended_at place (fields_ended n) p).page
rowing_at None n p more = record { limits = refl; same = refl; kept = refl }
rowing_at (Some len) n p more =
    let end = p.start + len in
    let q : Page = record p { state = (field_said p.state (drop p.from (take end p.kept))).state; from = end + 1; start = end + 1 } in
    rowing_then p q (fields_ended n q).page (record { limits = refl; same = same_field p.state (drop p.from (take end p.kept)); kept = refl }) (more q)

rowing : (n : ℕ) (p : Page) → Rowing p (fields_ended n p).page
rowing zero p = record { limits = refl; same = refl; kept = refl }
rowing (suc n) p = rowing_at (place_of p.state.options.tab (line_of p)) n p (rowing n)

-- ---- the end of a line of a row

fitting_last : (p : Page) → Fitting p (last_ended p).page
fitting_last p = let h = same_last p.state (rest_of p) in record { limits = refl; same = h; fits = omega arith }

fitting_shape : (shape : Shape) (p : Page) → Fitting p (rest_said shape p).page
fitting_shape shapes.Empty p = fitting_last p
fitting_shape shapes.Block p = forgets p (with_state (states.block_opened p.state) p) refl (refl)
fitting_shape shapes.Text p = fitting_last p
fitting_shape (shapes.Mark marks.Nothing) p = fitting_last p
fitting_shape (shapes.Mark marks.Rule) p =
    choose (λ (e : Effect). Fitting p e.page) (p.state.fields == 0) _ _
    (forgets p (with_state (states.row_begun p.state) p) refl (refl)) (fitting_last p)
fitting_shape (shapes.Mark marks.Inner) p = fitting_last p
fitting_shape (shapes.Mark (marks.Repeat byte)) p = fitting_last p
fitting_shape (shapes.Mark marks.Above) p = fitting_last p

fitting_continued : (alone : Bool) (p : Page) → length p.kept ≤ p.limits.row → Fitting p (line_continued alone p).page
fitting_continued alone p few =
    choose (λ (e : Effect). Fitting p e.page) alone _ _
    (record { limits = refl; same = refl; fits = (let cut = length-take (length p.kept - 1) p.kept in omega (arith, cut, few)) })
    (fitting_shape _ p)

paired_length : (alone : Bool) (bytes : List ℕ) → length (paired alone bytes) ≡ length bytes
paired_length alone [] = refl
paired_length alone (b ∷ bs) = ap suc (paired_length (is_alone alone b) bs)

cut_shorter : (o : Option ℕ) (bytes : List ℕ) → length (cut o bytes) ≤ length bytes
cut_shorter None bytes = omega arith
cut_shorter (Some n) bytes = let cut = length-take n bytes in omega (arith, cut)

pub cleaned_shorter : (bytes : List ℕ) → length (cleaned bytes) ≤ length bytes
cleaned_shorter bytes =
    let one = cut_shorter (comment_in (paired false bytes)) (paired false bytes) in
    let two = paired_length false bytes in
    omega (arith, one, two)

pub fitting_row : (p : Page) → length p.kept ≤ p.limits.row → Fitting p (row_line p).page
fitting_row p few =
    let q = line_cleaned p in
    let r = (all_ended q).page in
    let h = rowing (p.state.formats.columns - p.state.fields) q in
    let whole = length-append (take p.start p.kept) (cleaned (line_of p)) in
    let prefix = length-take p.start p.kept in
    let back = length-drop p.start p.kept in
    let shorter = cleaned_shorter (line_of p) in
    let same_len : length r.kept ≡ length q.kept = ap length h.kept in
    let l : r.limits.row ≡ p.limits.row = ap (λ (x : Limits). x.row) h.limits in
    fitting_then p r (line_continued (continues (line_of p)) r).page h.limits (h.same)
    (fitting_continued (continues (line_of p)) r (omega (arith, whole, prefix, back, shorter, same_len, l, few)))

pub fitting_between : (p : Page) → length p.kept ≤ p.limits.row → Fitting p (line_between p).page
fitting_between p few =
    choose (λ (e : Effect). Fitting p e.page) (is_command (code "E") p.kept) _ _
    (forgets p (at_mode _ p) refl (refl))
    (choose (λ (e : Effect). Fitting p e.page) (is_command (code "&") p.kept) _ _
    (forgets p (with_state (states.formats_begun p.state) p) refl (refl))
    (choose (λ (e : Effect). Fitting p e.page) (is_request p.kept) _ _ (forgets p p refl refl) (fitting_row p few)))

-- ---- text blocks

-- the page where the row goes on after a block
abbrev gone_on : Page → Page
gone_on p = record p { state = record (states.field_counted p.state) { mode = modes.Row }; from = field_at p; start = field_at p }

left_as : (more : Bool) (p : Page) → goes_on p ≡ more
    → (block_ended p).page ≡ ((if more then row_line else row_ended) (if more then gone_on p else with_state (states.field_counted p.state) p)).page
left_as more p e =
    ap (λ (t : Bool). ((if t then row_line else row_ended) (if t then gone_on p else with_state (states.field_counted p.state) p)).page) e

fitting_left : (more : Bool) (p : Page) → goes_on p ≡ more → length p.kept ≤ p.limits.row → Fitting p (block_ended p).page
fitting_left true p e few =
    subst (λ (q : Page). Fitting p q) (sym (left_as true p e))
    (fitting_then p (gone_on p) (row_line (gone_on p)).page refl (refl) (fitting_row (gone_on p) few))
fitting_left false p e few =
    subst (λ (q : Page). Fitting p q) (sym (left_as false p e)) (record { limits = refl; same = refl; fits = omega arith })

pub fitting_block : (p : Page) → length p.kept ≤ p.limits.row → Fitting p (block_line p).page
fitting_block p few =
    choose (λ (e : Effect). Fitting p e.page) (ends_block p.kept) _ _ (fitting_left (goes_on p) p refl few)
    (choose (λ (e : Effect). Fitting p e.page) (is_command (code "E") p.kept) _ _
    (forgets p (at_mode _ p) refl (refl)) (forgets p p refl refl))

-- ---- options and formats

fitting_judged : (kind : Option Kind) (p : Page) → Fitting p (heads.formats_judged kind p).page
fitting_judged None p = forgets p (with_state (states.row_begun p.state) p) refl (refl)
fitting_judged (Some kinds.NoFormat) p = record { limits = refl; same = refl; fits = omega arith }
fitting_judged (Some kinds.TooManyColumns) p = record { limits = refl; same = refl; fits = omega arith }
fitting_judged (Some (kinds.BadFormat byte)) p = forgets p (with_state (states.row_begun p.state) p) refl (refl)
fitting_judged (Some (kinds.UnknownOption word)) p = forgets p (with_state (states.row_begun p.state) p) refl (refl)
fitting_judged (Some (kinds.BadArgument word)) p = forgets p (with_state (states.row_begun p.state) p) refl (refl)
fitting_judged (Some kinds.TooManyFields) p = forgets p (with_state (states.row_begun p.state) p) refl (refl)
fitting_judged (Some (kinds.OpenBlock line)) p = forgets p (with_state (states.row_begun p.state) p) refl (refl)
fitting_judged (Some (kinds.OpenTable line)) p = forgets p (with_state (states.row_begun p.state) p) refl (refl)
fitting_judged (Some kinds.FormatsLimit) p = forgets p (with_state (states.row_begun p.state) p) refl (refl)
fitting_judged (Some kinds.RowLimit) p = forgets p (with_state (states.row_begun p.state) p) refl (refl)
fitting_judged (Some kinds.TooWide) p = forgets p (with_state (states.row_begun p.state) p) refl (refl)
fitting_judged (Some (kinds.UnsetRequest name)) p = forgets p (with_state (states.row_begun p.state) p) refl (refl)

fitting_formats : (p : Page) → Fitting p (heads.formats_ended p).page
fitting_formats p =
    let f = heads.formats_after p.state.formats (heads.with_newline (rest_of p)) in
    let q = heads.formats_taken f p in
    fitting_then p q (heads.formats_judged (heads.wrong_in f p) q).page refl refl (fitting_judged (heads.wrong_in f p) q)

fitting_room : (full : Bool) (p : Page) → nat_le p.limits.formats (length p.kept) ≡ full → p.state.mode ≡ modes.Head
    → Fitting p (if full then heads.given_up_line kinds.FormatsLimit p else effect (record p { kept = p.kept ++ code "\n" ∷ []; start = length p.kept + 1 }) []).page
fitting_room true p e m = record { limits = refl; same = refl; fits = omega arith }
fitting_room false p e m =
    let few : length p.kept < p.limits.formats = leb-false _ _ e in
    let whole = length-append p.kept (code "\n" ∷ []) in
    record { limits = refl; same = refl; fits = rw m (omega (arith, few, whole)) }

fitting_line : (p : Page) → p.state.mode ≡ modes.Head → Fitting p (heads.formats_line p).page
fitting_line p m =
    choose (λ (e : Effect). Fitting p e.page) (is_dotted (line_of p)) _ _ (fitting_formats p)
    (fitting_room (nat_le p.limits.formats (length p.kept)) p refl m)

record Heading (p q : Page) : Type 0 where
  pub limits : q.limits ≡ p.limits
  pub same : Same p.state q.state
  pub mode : q.state.mode ≡ p.state.mode

heading_split : (end : Option ℕ) (p : Page) → Heading p (heads.options_split end p).page
heading_split None p = record { limits = refl; same = refl; mode = refl }
heading_split (Some end) p = record { limits = refl; same = refl; mode = refl }

heading : (p : Page) → Heading p (heads.options_line p).page
heading p =
    choose (λ (e : Effect). Heading p e.page) p.state.first _ _
    (let h = heading_split (options_end p.kept) (record p { state = record p.state { first = false } }) in
    record { limits = h.limits; same = h.same; mode = h.mode })
    (record { limits = refl; same = refl; mode = refl })

pub fitting_head : (p : Page) → p.state.mode ≡ modes.Head → Fitting p (heads.head_line p).page
fitting_head p m =
    choose (λ (e : Effect). Fitting p e.page) (is_command (code "E") (line_of p)) _ _
    (record { limits = refl; same = refl; fits = omega arith })
    (let h = heading p in fitting_then p (heads.options_line p).page _ h.limits h.same (fitting_line (heads.options_line p).page (h.mode ∙ m)))

-- ---- a line that is kept

-- where more was kept than may be, nothing is
fitting_over_block : (more : Bool) (p : Page) → goes_on p ≡ more → Fitting p (and_then (block_left p) row_overflown).page
fitting_over_block true p e = rw e (record { limits = refl; same = refl; fits = omega arith })
fitting_over_block false p e = rw e (record { limits = refl; same = refl; fits = omega arith })

fitting_over_row : (p : Page) → Fitting p (row_overflown p).page
fitting_over_row p = record { limits = refl; same = refl; fits = omega arith }

fitting_over_end : (p : Page) → Fitting p (long_end p).page
fitting_over_end p = record { limits = refl; same = refl; fits = omega arith }

pub fitting_over : (mode : Mode) (p : Page) → Fitting p (overflown_in mode p).page
fitting_over modes.Head p = record { limits = refl; same = refl; fits = omega arith }
fitting_over modes.Rows p = choose (λ (e : Effect). Fitting p e.page) (is_command (code "E") p.kept) _ _ (fitting_over_end p) (fitting_over_row p)
fitting_over modes.Block p =
    choose (λ (e : Effect). Fitting p e.page) (ends_block p.kept) _ _ (fitting_over_block (goes_on p) p refl)
    (choose (λ (e : Effect). Fitting p e.page) (is_command (code "E") p.kept) _ _ (fitting_over_end p)
    (record { limits = refl; same = refl; fits = omega arith }))
fitting_over modes.Row p = fitting_over_row p
fitting_over modes.BlockLine p = fitting_over_row p
fitting_over (modes.Passing start) p = fitting_over_row p
fitting_over (modes.Plain start) p = fitting_over_row p

fits_in : (mode : Mode) (p : Page) → p.state.mode ≡ mode → Fits p → is_kept mode ≡ true → Fitting p (line_ended_in mode p).page
fits_in modes.Head p m f k = fitting_head p m
fits_in modes.Rows p m f k = fitting_between p (rw m at f)
fits_in modes.Row p m f k = fitting_row p (rw m at f)
fits_in modes.Block p m f k = fitting_block p (rw m at f)
fits_in modes.BlockLine p m f k = absurd (let no : false ≡ true = k in cc)
fits_in (modes.Passing start) p m f k = absurd (let no : false ≡ true = k in cc)
fits_in (modes.Plain start) p m f k = absurd (let no : false ≡ true = k in cc)

-- a line that was kept ends
pub fitting_ended : (p : Page) → Fits p → is_kept p.state.mode ≡ true → Fitting p (line_ended_in p.state.mode p).page
fitting_ended p f k = fits_in p.state.mode p refl f k

-- more of it is kept than there was
more_in : (over : Bool) (p : Page) → nat_lt (limit_of p) (length p.kept) ≡ over → Fitting p (if over then overflown p else effect p []).page
more_in true p e = fitting_over p.state.mode p
more_in false p e = record { limits = refl; same = refl; fits = (let few : length p.kept ≤ limit_of p = ltb-false _ _ e in few) }

pub fitting_more : (p : Page) → Fitting p (kept_more p).page
fitting_more p = more_in (nat_lt (limit_of p) (length p.kept)) p refl
