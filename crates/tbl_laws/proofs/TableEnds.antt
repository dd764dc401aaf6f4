-- `.TE` ends each table, after a line that doesn't end with a backslash.
use Rattle.std.proofs.Common.{◌≡◌, ℕ, zero, suc, ◌+◌, ◌-◌, ◌<◌, ◌≤◌, List, [], ◌∷◌, ◌++◌, length, take, drop, codes, Bool, true, false, not, ◌==◌, ◌&&◌, if◌then◌else◌, nat_eq, nat_le, nat_lt, Option, None, Some, refl, sym, ◌∙◌, ap, subst, length-append, arith}
use Rattle.std.proofs.lemmas.Bool.{eqb-false, eqb-true, leb-false, leb-true, lt-ltb}
use Rattle.std.proofs.lemmas.List.{drop_all}
use Prim.Native.Char.{code}
use Rattle.tbl_reader.specs.declared.command.Start.{Start}
use Rattle.tbl_reader.specs.declared.command.Start.TheVariants as starts
use Rattle.tbl_reader.specs.declared.complaint.Kind.{Kind}
use Rattle.tbl_reader.specs.declared.complaint.Kind.TheVariants as kinds
use Rattle.tbl_reader.specs.declared.reader.Limits.{Limits}
use Rattle.tbl_reader.specs.declared.state.Mode.{Mode}
use Rattle.tbl_reader.specs.declared.state.Mode.TheVariants as modes
use Rattle.tbl_reader.specs.BlockLines.{ends_block, goes_on, field_at, block_left, block_ended, block_line}
use Rattle.tbl_reader.specs.Commands.{is_command, start_of}
use Rattle.tbl_reader.specs.Ending.{first_page}
use Rattle.tbl_reader.specs.Fields.{is_request, is_rule, is_sign, shape_of, is_alone, open_after, has_comment, paired, continues}
use Rattle.tbl_reader.specs.HeadLines as heads
use Rattle.tbl_reader.specs.Heads.{options_end, is_dotted}
use Rattle.tbl_reader.specs.Outside.{given_up, line_passed, plain_line_passed}
use Rattle.tbl_reader.specs.Pages.{Page, Effect, effect, and_then, with_state, at_mode, forgotten, line_counted, rest_of, line_of}
use Rattle.tbl_reader.specs.Reading.{Fits, read, read_in, fed, kept, kept_more, with_kept, line_ended, line_ended_in, is_kept, limit_in, limit_of, overflown, overflown_in}
use Rattle.tbl_reader.specs.RowLines.{trimmed, all_ended, line_cleaned, rest_said, line_continued, row_ended, row_line, line_between, row_overflown}
use Rattle.tbl_reader.specs.States as states
use Rattle.tbl_reader.specs.Whole.{is_line}
use Rattle.tbl_reader.proofs.Keeping.{fed_keeps}
use Rattle.tbl_reader.proofs.Runs.{fed_append, fed_kept_all}
use Rattle.tbl_reader.proofs.Steady.{choose}
use Rattle.tbl_reader.proofs.Whole.{lines_are_read}
use Rattle.tbl_laws.specs.OutsideText.{ends_after, ends_line, table_end}

-- ---- whether the last byte is a backslash

last_open : Bool → List ℕ → Bool
last_open was [] = was
last_open was (b ∷ bs) = last_open (b == code "\\") bs

last_of_more : (was : Bool) (bs : List ℕ) (b : ℕ) → last_open was (bs ++ b ∷ []) ≡ (b == code "\\")
unfolding last_open
last_of_more was [] b = refl
last_of_more was (c ∷ cs) b = last_of_more (c == code "\\") cs b

last_less : (was if_so : Bool) (bs : List ℕ) → last_open was bs ≡ false → last_open (was && if_so) bs ≡ false
unfolding last_open
last_less was if_so [] h = ap (λ (t : Bool). t && if_so) h
last_less was if_so (b ∷ bs) h = h

last_none : (was : Bool) (bs : List ℕ) → last_open was bs ≡ false → last_open false bs ≡ false
unfolding last_open
last_none was [] h = refl
last_none was (b ∷ bs) h = h

last_drop : (n : ℕ) (bs : List ℕ) → last_open false bs ≡ false → last_open false (drop n bs) ≡ false
unfolding last_open
last_drop zero bs h = h
last_drop (suc n) [] h = refl
last_drop (suc n) (b ∷ bs) h = last_drop n bs (last_none (b == code "\\") bs h)

not_open : (alone : Bool) (bs : List ℕ) → last_open alone bs ≡ false → open_after alone bs ≡ false
unfolding last_open
not_open alone [] h = h
not_open alone (b ∷ bs) h = not_open (is_alone alone b) bs (last_less (b == code "\\") (not alone) bs h)

Quiet : Page → Type 0
Quiet p = last_open false (line_of p) ≡ false

ends_there : (p : Page) → Quiet p → continues (line_of p) ≡ false
unfolding Quiet
ends_there p h = ap (λ (t : Bool). t && not (has_comment (paired false (line_of p)))) (not_open false (line_of p) h)

nothing : List ℕ
nothing = []

nothing_dropped : (n : ℕ) → drop n nothing ≡ nothing
unfolding nothing
nothing_dropped n = drop_all n [] (omega arith)

quiet_where : (p : Page) → line_of p ≡ [] → Quiet p
unfolding Quiet last_open
quiet_where p h = ap (last_open false) h

quiet_empty : (p : Page) → p.kept ≡ [] → Quiet p
unfolding nothing
quiet_empty p h = quiet_where p (ap (drop p.start) h ∙ nothing_dropped p.start)

-- ---- what is known of a page between two bytes, and where a line begins in which a table may end

Within : Mode → ℕ → List ℕ → Type 0
Within (modes.Passing s) start kept = kept ≡ []
Within (modes.Plain s) start kept = kept ≡ []
Within modes.Head start kept = Unit {0}
Within modes.Rows start kept = Unit {0}
Within modes.Row start kept = Unit {0}
Within modes.Block start kept = start ≡ 0
Within modes.BlockLine start kept = (start ≡ 0) × (kept ≡ [])

Fresh : Mode → ℕ → List ℕ → Type 0
Fresh (modes.Passing s) start kept = s ≡ starts.Nothing
Fresh (modes.Plain s) start kept = s ≡ starts.Nothing
Fresh modes.Head start kept = start ≡ length kept
Fresh modes.Rows start kept = kept ≡ []
Fresh modes.Row start kept = ⊥
Fresh modes.Block start kept = kept ≡ []
Fresh modes.BlockLine start kept = ⊥

-- after a newline, where the line so far was this one
record New (p q : Page) : Type 0 where
  pub within : Within q.state.mode q.start q.kept
  pub quiet : Quiet q
  pub fresh : Quiet p → Fresh q.state.mode q.start q.kept

-- ---- a row ends, or goes on in the next line

new_row : (p q : Page) → New p (forgotten (with_state (states.row_begun q.state) q))
unfolding Within Fresh
new_row p q = record { within = tt; quiet = quiet_empty _ refl; fresh = λ h. refl }

-- outside of tables, or of those that are set
new_passing : (p q : Page) → q.state.mode ≡ modes.Passing starts.Nothing → q.kept ≡ [] → New p q
unfolding Within Fresh
new_passing p q m k = record { within = rw m k; quiet = quiet_empty q k; fresh = λ h. rw m refl }

new_plain : (p q : Page) → q.state.mode ≡ modes.Plain starts.Nothing → q.kept ≡ [] → New p q
unfolding Within Fresh
new_plain p q m k = record { within = rw m k; quiet = quiet_empty q k; fresh = λ h. rw m refl }

new_head : (p q : Page) → q.state.mode ≡ modes.Head → q.start ≡ length q.kept → New p q
unfolding Within Fresh
new_head p q m k = record {
  within = rw m tt;
  quiet = quiet_where q (drop_all q.start q.kept (omega (arith, k)));
  fresh = λ h. rw m k;
}

new_rows : (p q : Page) → q.state.mode ≡ modes.Rows → q.kept ≡ [] → New p q
unfolding Within Fresh
new_rows p q m k = record { within = rw m tt; quiet = quiet_empty q k; fresh = λ h. rw m k }

new_block : (p q : Page) → q.state.mode ≡ modes.Block → q.start ≡ 0 → q.kept ≡ [] → New p q
unfolding Within Fresh
new_block p q m s k = record { within = rw m s; quiet = quiet_empty q k; fresh = λ h. rw m k }

new_shape : (text : List ℕ) (p q : Page) → New p (rest_said (shape_of text) q).page
unfolding Within Fresh
new_shape [] p q = new_rows p _ refl refl
new_shape (a ∷ []) p q =
    choose (λ shape. New p (rest_said shape q).page) (is_rule a) _ _
    (choose (λ (e : Effect). New p e.page) (q.state.fields == 0) _ _ (new_row p q) (new_rows p _ refl refl)) (new_rows p _ refl refl)
new_shape (a ∷ b ∷ []) p q =
    choose (λ shape. New p (rest_said shape q).page) ((a == code "\\") && is_rule b) _ _ (new_rows p _ refl refl)
    (choose (λ shape. New p (rest_said shape q).page) ((a == code "\\") && (b == code "^")) _ _ (new_rows p _ refl refl)
    (choose (λ shape. New p (rest_said shape q).page) ((a == code "T") && (b == code "{")) _ _
    (new_block p _ refl refl refl) (new_rows p _ refl refl)))
new_shape (a ∷ b ∷ c ∷ []) p q =
    choose (λ shape. New p (rest_said shape q).page) ((a == code "\\") && (b == code "R")) _ _ (new_rows p _ refl refl) (new_rows p _ refl refl)
new_shape (a ∷ b ∷ c ∷ d ∷ []) p q =
    choose (λ shape. New p (rest_said shape q).page) ((a == code "\\") && (b == code "R") && is_sign c d) _ _ (new_rows p _ refl refl) (new_rows p _ refl refl)
new_shape (a ∷ b ∷ c ∷ d ∷ e ∷ rest) p q = new_rows p _ refl refl

new_continued : (alone : Bool) (p q : Page) → (Quiet p → alone ≡ false) → New p (line_continued alone q).page
unfolding Within Fresh
new_continued true p q h = record {
  within = tt;
  quiet = quiet_where _ (drop_all (length (take (length q.kept - 1) q.kept)) (take (length q.kept - 1) q.kept) (omega arith));
  fresh = λ quiet. absurd (let no : true ≡ false = h quiet in cc);
}
new_continued false p q h = new_shape (trimmed q.state (rest_of q)) p q

new_row_line : (p q : Page) → (Quiet p → Quiet q) → New p (row_line q).page
new_row_line p q h = new_continued (continues (line_of q)) p (all_ended (line_cleaned q)).page (λ quiet. ends_there q (h quiet))

-- ---- lines between rows, of blocks, of options and formats

new_between : (p : Page) → p.state.mode ≡ modes.Rows → New p (line_between p).page
new_between p m =
    choose (λ (e : Effect). New p e.page) (is_command (code "E") p.kept) _ _ (new_passing p _ refl refl)
    (choose (λ (e : Effect). New p e.page) (is_command (code "&") p.kept) _ _ (new_head p _ refl refl)
    (choose (λ (e : Effect). New p e.page) (is_request p.kept) _ _ (new_rows p _ m refl) (new_row_line p p (λ h. h))))

gone_on : Page → Page
gone_on p = record p { state = record (states.field_counted p.state) { mode = modes.Row }; from = field_at p; start = field_at p }

left_as : (more : Bool) (p : Page) → goes_on p ≡ more
    → (block_ended p).page ≡ ((if more then row_line else row_ended) (if more then gone_on p else with_state (states.field_counted p.state) p)).page
unfolding gone_on
left_as more p e =
    ap (λ (t : Bool). ((if t then row_line else row_ended) (if t then gone_on p else with_state (states.field_counted p.state) p)).page) e

quiet_on : (p : Page) → p.start ≡ 0 → Quiet p → Quiet (gone_on p)
unfolding Quiet gone_on
quiet_on p s h = last_drop (field_at p) p.kept (subst (λ (n : ℕ). last_open false (drop n p.kept) ≡ false) s h)

new_left : (more : Bool) (p : Page) → goes_on p ≡ more → p.start ≡ 0 → New p (block_ended p).page
new_left true p e s = subst (λ (q : Page). New p q) (sym (left_as true p e)) (new_row_line p (gone_on p) (quiet_on p s))
new_left false p e s = subst (λ (q : Page). New p q) (sym (left_as false p e)) (new_rows p _ refl refl)

new_block_line : (p : Page) → p.state.mode ≡ modes.Block → p.start ≡ 0 → New p (block_line p).page
new_block_line p m s =
    choose (λ (e : Effect). New p e.page) (ends_block p.kept) _ _ (new_left (goes_on p) p refl s)
    (choose (λ (e : Effect). New p e.page) (is_command (code "E") p.kept) _ _ (new_passing p _ refl refl) (new_block p _ m refl refl))

new_judged : (kind : Option Kind) (p q : Page) → New p (heads.formats_judged kind q).page
new_judged None p q = new_row p q
new_judged (Some kinds.NoFormat) p q = new_plain p _ refl refl
new_judged (Some kinds.TooManyColumns) p q = new_plain p _ refl refl
new_judged (Some (kinds.BadFormat byte)) p q = new_row p q
new_judged (Some (kinds.UnknownOption word)) p q = new_row p q
new_judged (Some (kinds.BadArgument word)) p q = new_row p q
new_judged (Some kinds.TooManyFields) p q = new_row p q
new_judged (Some (kinds.OpenBlock line)) p q = new_row p q
new_judged (Some (kinds.OpenTable line)) p q = new_row p q
new_judged (Some kinds.FormatsLimit) p q = new_row p q
new_judged (Some kinds.RowLimit) p q = new_row p q
new_judged (Some kinds.TooWide) p q = new_row p q
new_judged (Some (kinds.UnsetRequest name)) p q = new_row p q

new_formats : (p q : Page) → q.state.mode ≡ modes.Head → New p (heads.formats_line q).page
new_formats p q m =
    choose (λ (e : Effect). New p e.page) (is_dotted (line_of q)) _ _ (new_judged _ p _)
    (choose (λ (e : Effect). New p e.page) (nat_le q.limits.formats (length q.kept)) _ _ (new_plain p _ refl refl)
    (new_head p _ m (let whole = length-append q.kept (code "\n" ∷ []) in omega (arith, whole))))

split_mode : (end : Option ℕ) (p : Page) → (heads.options_split end p).page.state.mode ≡ p.state.mode
split_mode None p = refl
split_mode (Some end) p = refl

options_mode : (p : Page) → (heads.options_line p).page.state.mode ≡ p.state.mode
options_mode p =
    choose (λ (e : Effect). e.page.state.mode ≡ p.state.mode) p.state.first _ _
    (split_mode (options_end p.kept) (record p { state = record p.state { first = false } })) refl

new_head_line : (p : Page) → p.state.mode ≡ modes.Head → New p (heads.head_line p).page
new_head_line p m =
    choose (λ (e : Effect). New p e.page) (is_command (code "E") (line_of p)) _ _ (new_passing p _ refl refl)
    (new_formats p (heads.options_line p).page (options_mode p ∙ m))

-- ---- a newline

new_counted : (p : Page) (e : Effect) → New p e.page → New p (and_then e (λ q. effect (with_state (line_counted q.state) q) [])).page
unfolding Quiet
new_counted p e h = record { within = h.within; quiet = h.quiet; fresh = h.fresh }

kept_newline : (b : ℕ) (p : Page) → (b == code "\n") ≡ true → (mode : Mode) → p.state.mode ≡ mode → New p (line_ended_in mode p).page → New p (kept b p).page
kept_newline b p e mode m h =
    subst (λ (t : Bool). New p (if t then line_ended p else kept_more (with_kept (b ∷ []) p)).page) (sym e)
    (new_counted p (line_ended_in p.state.mode p) (subst (λ (x : Mode). New p (line_ended_in x p).page) (sym m) h))

new_passed : (begun : Bool) (p q : Page) → q.kept ≡ [] → New p (line_passed begun q).page
new_passed true p q k = new_head p _ refl refl
new_passed false p q k = new_passing p _ refl k

new_plain_passed : (ends : Bool) (p q : Page) → q.kept ≡ [] → New p (plain_line_passed ends q).page
new_plain_passed true p q k = new_passing p _ refl k
new_plain_passed false p q k = new_plain p _ refl k

newline_in : (mode : Mode) (b : ℕ) (p : Page) → p.state.mode ≡ mode → Within mode p.start p.kept → (b == code "\n") ≡ true → New p (read_in mode b p).page
unfolding Within
newline_in (modes.Passing s) b p m w e = rw e (new_passed _ p p w)
newline_in (modes.Plain s) b p m w e = rw e (new_plain_passed _ p p w)
newline_in modes.Head b p m w e = kept_newline b p e modes.Head m (new_head_line p m)
newline_in modes.Rows b p m w e = kept_newline b p e modes.Rows m (new_between p m)
newline_in modes.Row b p m w e = kept_newline b p e modes.Row m (new_row_line p p (λ h. h))
newline_in modes.Block b p m w e = kept_newline b p e modes.Block m (new_block_line p m w)
newline_in modes.BlockLine b p m w e = rw e (new_block p _ refl w.0 w.1)

-- ---- another byte

record Midst (b : ℕ) (q : Page) : Type 0 where
  pub within : Within q.state.mode q.start q.kept
  pub quiet : (b == code "\\") ≡ false → Quiet q

midst_passing : (b : ℕ) (q : Page) (s : Start) → q.state.mode ≡ modes.Passing s → q.kept ≡ [] → Midst b q
unfolding Within
midst_passing b q s m k = record { within = rw m k; quiet = λ h. quiet_empty q k }

midst_plain : (b : ℕ) (q : Page) (s : Start) → q.state.mode ≡ modes.Plain s → q.kept ≡ [] → Midst b q
unfolding Within
midst_plain b q s m k = record { within = rw m k; quiet = λ h. quiet_empty q k }

midst_block : (b : ℕ) (q : Page) → q.state.mode ≡ modes.BlockLine → q.start ≡ 0 → q.kept ≡ [] → Midst b q
unfolding Within
midst_block b q m s k = record { within = rw m (s, k); quiet = λ h. quiet_empty q k }

over_block : (b : ℕ) (more : Bool) (q : Page) → goes_on q ≡ more → Midst b (and_then (block_left q) row_overflown).page
over_block b true q e = rw e (midst_plain b _ _ refl refl)
over_block b false q e = rw e (midst_plain b _ _ refl refl)

over : (mode : Mode) (b : ℕ) (q : Page) → Midst b (overflown_in mode q).page
over modes.Head b q = midst_plain b _ _ refl refl
over modes.Rows b q = choose (λ (e : Effect). Midst b e.page) (is_command (code "E") q.kept) _ _ (midst_passing b _ _ refl refl) (midst_plain b _ _ refl refl)
over modes.Block b q =
    choose (λ (e : Effect). Midst b e.page) (ends_block q.kept) _ _ (over_block b (goes_on q) q refl)
    (choose (λ (e : Effect). Midst b e.page) (is_command (code "E") q.kept) _ _ (midst_passing b _ _ refl refl) (midst_block b _ refl refl refl))
over modes.Row b q = midst_plain b _ _ refl refl
over modes.BlockLine b q = midst_plain b _ _ refl refl
over (modes.Passing s) b q = midst_plain b _ _ refl refl
over (modes.Plain s) b q = midst_plain b _ _ refl refl

-- one byte more is kept
within_more : (mode : Mode) (start : ℕ) (kept more : List ℕ) → is_kept mode ≡ true → Within mode start kept → Within mode start more
unfolding Within
within_more (modes.Passing s) start kept more k w = absurd (let no : false ≡ true = k in cc)
within_more (modes.Plain s) start kept more k w = absurd (let no : false ≡ true = k in cc)
within_more modes.Head start kept more k w = tt
within_more modes.Rows start kept more k w = tt
within_more modes.Row start kept more k w = tt
within_more modes.Block start kept more k w = w
within_more modes.BlockLine start kept more k w = absurd (let no : false ≡ true = k in cc)

midst_kept : (b : ℕ) (p : Page) → is_kept p.state.mode ≡ true → Within p.state.mode p.start p.kept → (b == code "\n") ≡ false → Midst b (kept b p).page
unfolding Quiet
midst_kept b p k w e =
    let q = with_kept (b ∷ []) p in
    subst (λ (t : Bool). Midst b (if t then line_ended p else kept_more q).page) (sym e)
    (choose (λ (x : Effect). Midst b x.page) (nat_lt (limit_of q) (length q.kept)) _ _ (over q.state.mode b q)
    (record { within = within_more p.state.mode p.start p.kept q.kept k w; quiet = λ h. last_drop p.start q.kept (last_of_more false p.kept b ∙ h) }))

other_in : (mode : Mode) (b : ℕ) (p : Page) → p.state.mode ≡ mode → Within mode p.start p.kept → (b == code "\n") ≡ false → Midst b (read_in mode b p).page
unfolding Within
other_in (modes.Passing s) b p m w e = rw e (midst_passing b _ _ refl w)
other_in (modes.Plain s) b p m w e = rw e (midst_plain b _ _ refl w)
other_in modes.Head b p m w e = midst_kept b p (ap is_kept m) (rw m w) e
other_in modes.Rows b p m w e = midst_kept b p (ap is_kept m) (rw m w) e
other_in modes.Row b p m w e = midst_kept b p (ap is_kept m) (rw m w) e
other_in modes.Block b p m w e = midst_kept b p (ap is_kept m) (rw m w) e
other_in modes.BlockLine b p m w e = rw e (midst_block b _ m w.0 w.1)

-- ---- all bytes: these two were the last

record Stands (a b : ℕ) (p : Page) : Type 0 where
  pub within : Within p.state.mode p.start p.kept
  pub quiet : (b == code "\\") ≡ false → Quiet p
  pub fresh : (not (a == code "\\") && (b == code "\n")) ≡ true → Fresh p.state.mode p.start p.kept

not_and : (x y : Bool) → (not x && y) ≡ true → x ≡ false
not_and false y h = refl
not_and true y h = absurd (let no : false ≡ true = h in cc)

not_second : (x y : Bool) → (not x && y) ≡ true → y ≡ true
not_second false y h = h
not_second true y h = absurd (let no : false ≡ true = h in cc)

one_byte : (newline : Bool) (a b c : ℕ) (p : Page) → (c == code "\n") ≡ newline → Stands a b p → Stands b c (read c p).page
one_byte true a b c p e h =
    let n = newline_in p.state.mode c p refl h.within e in
    record { within = n.within; quiet = λ q. n.quiet; fresh = λ f. n.fresh (h.quiet (not_and (b == code "\\") (c == code "\n") f)) }
one_byte false a b c p e h =
    let n = other_in p.state.mode c p refl h.within e in
    record { within = n.within; quiet = n.quiet; fresh = λ f. absurd (let yes : (c == code "\n") ≡ true = not_second (b == code "\\") (c == code "\n") f in let no : false ≡ true = sym e ∙ yes in cc) }

walk : (bytes : List ℕ) (a b : ℕ) (p : Page) → Stands a b p → ends_after a b bytes ≡ true
    → (let q = (fed bytes p).page in Fresh q.state.mode q.start q.kept)
walk [] a b p h e = h.fresh e
walk (c ∷ cs) a b p h e = walk cs b c (read c p).page (one_byte (c == code "\n") a b c p refl h) e

begins_fresh : (l : Limits) (before : List ℕ) → ends_line before ≡ true
    → (let q = (fed before (first_page l)).page in Fresh q.state.mode q.start q.kept)
unfolding Within Fresh
begins_fresh l before e =
    walk before (code "\n") (code "\n") (first_page l)
    (record { within = refl; quiet = λ h. quiet_empty (first_page l) refl; fresh = λ h. refl }) e

-- ---- the line `.TE` there

Outside : Page → Type 0
Outside q = q.state.mode ≡ modes.Passing starts.Nothing

passing_ends : (q : Page) → Outside (fed table_end (at_mode (modes.Passing starts.Nothing) q)).page
unfolding Outside
passing_ends q = refl

plain_ends : (q : Page) → Outside (fed table_end (at_mode (modes.Plain starts.Nothing) q)).page
unfolding Outside
plain_ends q = refl

rows_end : (q : Page) → 3 ≤ q.limits.row → Outside (fed table_end (record q { state = record q.state { mode = modes.Rows }; kept = [] })).page
unfolding Outside
rows_end q row =
    ap (λ (e : Effect). e.page.state.mode) (lines_are_read (codes ".TE") (record q { state = record q.state { mode = modes.Rows }; kept = [] }) refl refl row)

block_ends : (q : Page) → 3 ≤ q.limits.row → Outside (fed table_end (record q { state = record q.state { mode = modes.Block }; kept = [] })).page
unfolding Outside
block_ends q row =
    ap (λ (e : Effect). e.page.state.mode) (lines_are_read (codes ".TE") (record q { state = record q.state { mode = modes.Block }; kept = [] }) refl refl row)

line_from : (kept more : List ℕ) → drop (length kept) (kept ++ more) ≡ more
line_from [] more = refl
line_from (b ∷ bs) more = line_from bs more

-- formats end there: the line is read, or more is kept than may be
module _ (q : Page) (m : q.state.mode ≡ modes.Head) (s : q.start ≡ length q.kept) where
  line_is : (bytes : List ℕ) → line_of (with_kept bytes q) ≡ bytes
  line_is bytes = ap (λ (n : ℕ). drop n (q.kept ++ bytes)) s ∙ line_from q.kept bytes

  head_read : length q.kept + 3 ≤ q.limits.formats → Outside (fed table_end q).page
  unfolding Outside
  head_read few =
      ap (λ (e : Effect). e.page.state.mode)
      (lines_are_read (codes ".TE") q (ap is_kept m) refl (rw m few)
      ∙ ap (λ (mode : Mode). and_then (line_ended_in mode (with_kept (codes ".TE") q)) (λ r. effect (with_state (line_counted r.state) r) [])) m)
      ∙ ap (λ (line : List ℕ). (if is_command (code "E") line then heads.head_ended (with_kept (codes ".TE") q)
      else and_then (heads.options_line (with_kept (codes ".TE") q)) heads.formats_line).page.state.mode) (line_is (codes ".TE"))

  -- the bytes that are the first that there is no room for, and those that follow
  head_over : (bytes more : List ℕ) → is_line bytes ≡ true → 0 < length bytes → length q.kept + length bytes ≡ q.limits.formats + 1
      → Outside (fed more (at_mode (modes.Plain (start_of (code "E") bytes)) (forgotten (with_kept bytes q)))).page
      → Outside (fed (bytes ++ more) q).page
  unfolding Outside
  head_over bytes more line some long ends =
      let r = with_kept bytes q in
      let limit : limit_of r ≡ q.limits.formats = ap (λ (mode : Mode). limit_in mode q.limits) m in
      let whole = length-append q.kept bytes in
      let full : nat_lt (limit_of r) (length r.kept) ≡ true = lt-ltb (limit_of r) (length r.kept) (omega (arith, limit, whole, long)) in
      let over : kept_more r ≡ given_up kinds.FormatsLimit r =
      ap (λ (t : Bool). if t then overflown r else effect r []) full ∙ ap (λ (mode : Mode). overflown_in mode r) m in
      ap (λ (e : Effect). e.page.state.mode) (fed_append bytes more q)
      ∙ ap (λ (e : Effect). (fed more e.page).page.state.mode)
      (fed_kept_all bytes q (ap is_kept m) line some (omega (arith, limit, long)) ∙ over)
      ∙ ap (λ (l : List ℕ). (fed more (forgotten (at_mode (modes.Plain (start_of (code "E") l)) r))).page.state.mode) (line_is bytes)
      ∙ ends

  by_room : length q.kept ≤ q.limits.formats → (all none one : Bool) → nat_le (length q.kept + 3) q.limits.formats ≡ all
      → nat_eq (length q.kept) q.limits.formats ≡ none → nat_eq (length q.kept + 1) q.limits.formats ≡ one → Outside (fed table_end q).page
  unfolding Outside
  by_room fits true none one a n o = head_read (leb-true _ _ a)
  by_room fits false true one a n o = head_over (codes ".") (codes "TE\n") refl (omega arith) (let full = eqb-true _ _ n in omega (arith, full)) refl
  by_room fits false false true a n o = head_over (codes ".T") (codes "E\n") refl (omega arith) (let full = eqb-true _ _ o in omega (arith, full)) refl
  by_room fits false false false a n o =
      head_over (codes ".TE") (codes "\n") refl (omega arith)
      (let more = leb-false _ _ a in let some = eqb-false _ _ n in let two = eqb-false _ _ o in omega (arith, more, some, two, fits)) refl

  head_ends : length q.kept ≤ q.limits.formats → Outside (fed table_end q).page
  head_ends fits =
      by_room fits (nat_le (length q.kept + 3) q.limits.formats) (nat_eq (length q.kept) q.limits.formats) (nat_eq (length q.kept + 1) q.limits.formats) refl refl refl

ended : (mode : Mode) (q : Page) → q.state.mode ≡ mode → Fresh mode q.start q.kept → Fits q → 3 ≤ q.limits.row → Outside (fed table_end q).page
unfolding Fresh
ended (modes.Passing s) q m f fits row =
    subst (λ (mode : Mode). Outside (fed table_end (at_mode mode q)).page) (sym (m ∙ ap modes.Passing f)) (passing_ends q)
ended (modes.Plain s) q m f fits row =
    subst (λ (mode : Mode). Outside (fed table_end (at_mode mode q)).page) (sym (m ∙ ap modes.Plain f)) (plain_ends q)
ended modes.Head q m f fits row = head_ends q m f (rw m at fits)
ended modes.Rows q m f fits row =
    subst (λ (k : List ℕ). Outside (fed table_end (record q { kept = k })).page) (sym f)
    (subst (λ (mode : Mode). Outside (fed table_end (record q { state = record q.state { mode = mode }; kept = [] })).page) (sym m) (rows_end q row))
ended modes.Row q m f fits row = absurd f
ended modes.Block q m f fits row =
    subst (λ (k : List ℕ). Outside (fed table_end (record q { kept = k })).page) (sym f)
    (subst (λ (mode : Mode). Outside (fed table_end (record q { state = record q.state { mode = mode }; kept = [] })).page) (sym m) (block_ends q row))
ended modes.BlockLine q m f fits row = absurd f

pub table_ends : (l : Limits) (before : List ℕ) → 3 ≤ l.row → ends_line before ≡ true
    → (fed (before ++ table_end) (first_page l)).page.state.mode ≡ modes.Passing starts.Nothing
unfolding Outside
table_ends l before row line =
    let q = (fed before (first_page l)).page in
    let keeps = fed_keeps before (first_page l) (omega arith) in
    ap (λ (e : Effect). e.page.state.mode) (fed_append before table_end (first_page l))
    ∙ ended q.state.mode q refl (begins_fresh l before line) keeps.fits (subst (λ (x : Limits). 3 ≤ x.row) (sym keeps.limits) row)
