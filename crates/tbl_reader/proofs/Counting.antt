-- How much is said for a byte: what is kept of a line pays for what its end says.
use Rattle.std.proofs.Common.{◌≡◌, ℕ, zero, suc, ◌+◌, ◌-◌, ◌*◌, ◌<◌, ◌≤◌, List, [], ◌∷◌, ◌++◌, length, take, drop, Bool, true, false, not, ◌==◌, if◌then◌else◌, nat_le, nat_lt, Option, None, Some, refl, ◌∙◌, ap, length-append, arith}
use Rattle.std.proofs.lemmas.List.{length-take, length-drop}
use Prim.Native.Char.{code}
use Rattle.tbl_blocks.specs.Words.{is_unset}
use Rattle.tbl_reader.specs.declared.command.Start.{Start}
use Rattle.tbl_reader.specs.declared.complaint.Kind.{Kind}
use Rattle.tbl_reader.specs.declared.complaint.Kind.TheVariants as kinds
use Rattle.tbl_reader.specs.declared.field.Mark.TheVariants as marks
use Rattle.tbl_reader.specs.declared.field.Shape.{Shape}
use Rattle.tbl_reader.specs.declared.field.Shape.TheVariants as shapes
use Rattle.tbl_reader.specs.declared.formats.Formats.{Formats}
use Rattle.tbl_reader.specs.declared.options.Options.{Options}
use Rattle.tbl_reader.specs.declared.reader.Limits.{Limits}
use Rattle.tbl_reader.specs.declared.state.Mode.{Mode}
use Rattle.tbl_reader.specs.declared.state.Mode.TheVariants as modes
use Rattle.tbl_reader.specs.declared.state.State.{State}
use Rattle.tbl_reader.specs.declared.telling.Tell.{Tell}
use Rattle.tbl_reader.specs.declared.telling.Tell.TheVariants as tells
use Rattle.tbl_reader.specs.BlockLines.{ends_block, goes_on, field_at, block_left, block_ended, block_line, block_line_begun, block_overflown, block_said, unset_reported}
use Rattle.tbl_reader.specs.Commands.{begins_command, is_command}
use Rattle.tbl_reader.specs.Ending.{is_begin, is_open_in, closed_in, closed, line_closed, finished, first_page, page_said}
use Rattle.tbl_reader.specs.Fields.{shape_of, is_request, place_of, cleaned, continues, one_later}
use Rattle.tbl_reader.specs.Formats.{read as read_format}
use Rattle.tbl_reader.specs.HeadLines as heads
use Rattle.tbl_reader.specs.Heads.{options_end, is_dotted}
use Rattle.tbl_reader.specs.Options.{options_of}
use Rattle.tbl_reader.specs.Outside.{passed, line_passed, plain_passed, plain_line_passed, given_up}
use Rattle.tbl_reader.specs.Pages.{Page, Effect, effect, and_then, with_state, line_counted, forgotten, rest_of, line_of, wrong}
use Rattle.tbl_reader.specs.Reading.{read, read_in, fed, kept, limit_of, with_kept, block_goes_on, kept_more, line_ended, line_ended_in, overflown, overflown_in}
use Rattle.tbl_reader.specs.RowLines.{Said, trimmed, are_empty, field_said, last_said, ended_at, fields_ended, all_ended, line_cleaned, last_ended, rest_said, rest_emitted, line_continued, row_line, row_so_far, line_between, long_end, row_overflown}
use Rattle.tbl_reader.specs.States as states
use Rattle.tbl_reader.specs.Telling.{Piece, piece, each}
use Rattle.tbl_reader.proofs.Steady.{choose, cleaned_shorter}

-- what a page pays: for the fields of a line, and for all that is kept
abbrev pub row_weight : Page → ℕ
row_weight p = 2 * length p.kept + 2 * (length p.kept - p.start)

abbrev pub weight_in : Mode → Page → ℕ
weight_in modes.Head p = 4 * length p.kept
weight_in modes.Block p = 4 * length p.kept
weight_in modes.BlockLine p = 4 * length p.kept
weight_in mode p = row_weight p

abbrev pub weight : Page → ℕ
weight p = weight_in p.state.mode p

nothing_in : (mode : Mode) (p : Page) → length p.kept ≡ 0 → weight_in mode p ≡ 0
nothing_in modes.Head p e = omega (arith, e)
nothing_in modes.Block p e = omega (arith, e)
nothing_in modes.BlockLine p e = omega (arith, e)
nothing_in modes.Rows p e = omega (arith, e)
nothing_in modes.Row p e = omega (arith, e)
nothing_in (modes.Passing start) p e = omega (arith, e)
nothing_in (modes.Plain start) p e = omega (arith, e)

nothing_left : (p : Page) → weight (forgotten p) ≡ 0
nothing_left p = nothing_in p.state.mode (forgotten p) refl

at_least : (mode : Mode) (p : Page) → 2 * length p.kept ≤ weight_in mode p
at_least modes.Head p = omega arith
at_least modes.Block p = omega arith
at_least modes.BlockLine p = omega arith
at_least modes.Rows p = omega arith
at_least modes.Row p = omega arith
at_least (modes.Passing start) p = omega arith
at_least (modes.Plain start) p = omega arith

record Light (k : ℕ) (e : Effect) : Type 0 where
  pub few : length e.pieces + weight e.page ≤ k

more : (k m : ℕ) (e : Effect) → k ≤ m → Light k e → Light m e
more k m e few h = let x = h.few in record { few = omega (arith, x, few) }

each_length : (t : Tell) (xs : List ℕ) → length (each t xs) ≡ length xs
each_length t [] = refl
each_length t (x ∷ xs) = ap suc (each_length t xs)

-- ---- fields

last_few : (s : State) (text : List ℕ) → length (last_said s text).pieces ≤ 2
last_few s text =
    let t = trimmed s text in
    choose (λ (x : Said). length x.pieces ≤ 2) (not (states.is_beyond s)) _ _ (omega arith)
    (choose (λ (x : Said). length x.pieces ≤ 2) (are_empty s.options.tab t) _ _ (omega arith) (omega arith))

some_is : (x y : ℕ) → Some x ≡ Some y → x ≡ y
some_is x y e = cc

place_step : (here : Bool) (place : Option ℕ) (n len : ℕ) → ((k : ℕ) → place ≡ Some k → k < n) → (if here then Some 0 else one_later place) ≡ Some len → len < suc n
place_step true place n len before e = let x = some_is 0 len e in omega (arith, x)
place_step false None n len before e = absurd (let no : None ≡ Some len = e in cc)
place_step false (Some k) n len before e = let x = some_is (1 + k) len e in let y = before k refl in omega (arith, x, y)

place_within : (byte : ℕ) (xs : List ℕ) (len : ℕ) → place_of byte xs ≡ Some len → len < length xs
place_within byte [] len e = absurd (let no : None ≡ Some len = e in cc)
place_within byte (x ∷ xs) len e = place_step (x == byte) (place_of byte xs) (length xs) len (place_within byte xs) e

fields_at : (place : Option ℕ) (n : ℕ) (p : Page) → place_of p.state.options.tab (line_of p) ≡ place
    → ((q : Page) → length (fields_ended n q).pieces + row_weight (fields_ended n q).page ≤ row_weight q)
    → length (ended_at place (fields_ended n) p).pieces + row_weight (ended_at place (fields_ended n) p).page ≤ row_weight p
fields_at None n p e next = omega arith
fields_at (Some len) n p e next =
    let end = p.start + len in
    let said = field_said p.state (drop p.from (take end p.kept)) in
    let q : Page = record p { state = said.state; from = end + 1; start = end + 1 } in
    let x = next q in
    let z = length-append said.pieces (fields_ended n q).pieces in
    let within = place_within p.state.options.tab (line_of p) len e in
    let cut = length-drop p.start p.kept in
    omega (arith, x, z, within, cut)

fields_few : (n : ℕ) (p : Page) → length (fields_ended n p).pieces + row_weight (fields_ended n p).page ≤ row_weight p
fields_few zero p = omega arith
fields_few (suc n) p = fields_at (place_of p.state.options.tab (line_of p)) n p refl (fields_few n)

-- ---- the end of a line of a row

last_light : (p : Page) → Light 4 (last_ended p)
last_light p =
    let x = last_few p.state (rest_of p) in
    let y = length-append (last_said p.state (rest_of p)).pieces (piece tells.Row [] ∷ []) in
    record { few = omega (arith, x, y) }

rest_light : (shape : Shape) (p : Page) → Light 4 (rest_said shape p)
rest_light shapes.Empty p = last_light p
rest_light shapes.Block p =
    record { few = choose (λ (ps : List Piece). length ps + weight (forgotten (with_state (states.block_opened p.state) p)) ≤ 4) (states.is_beyond p.state) _ _ (omega arith) (omega arith) }
rest_light shapes.Text p = last_light p
rest_light (shapes.Mark marks.Nothing) p = last_light p
rest_light (shapes.Mark marks.Rule) p = choose (Light 4) (p.state.fields == 0) _ _ (record { few = omega arith }) (last_light p)
rest_light (shapes.Mark marks.Inner) p = last_light p
rest_light (shapes.Mark (marks.Repeat byte)) p = last_light p
rest_light (shapes.Mark marks.Above) p = last_light p

continued_light : (alone : Bool) (p : Page) → Light (row_weight p + 4) (line_continued alone p)
continued_light alone p =
    choose (Light (row_weight p + 4)) alone _ _
    (record { few = (let cut = length-take (length p.kept - 1) p.kept in omega (arith, cut)) })
    (more 4 (row_weight p + 4) (rest_emitted p) (omega arith) (rest_light _ p))

row_light : (p : Page) → Light (row_weight p + 4) (row_line p)
row_light p =
    let q = line_cleaned p in
    let r = all_ended q in
    let alone = continues (line_of p) in
    let whole = length-append (take p.start p.kept) (cleaned (line_of p)) in
    let prefix = length-take p.start p.kept in
    let back = length-drop p.start p.kept in
    let shorter = cleaned_shorter (line_of p) in
    let x = fields_few (q.state.formats.columns - q.state.fields) q in
    let y = (continued_light alone r.page).few in
    let z = length-append r.pieces (line_continued alone r.page).pieces in
    record { few = omega (arith, whole, prefix, back, shorter, x, y, z) }

between_light : (p : Page) → Light (row_weight p + 4) (line_between p)
between_light p =
    choose (Light (row_weight p + 4)) (is_command (code "E") p.kept) _ _
    (record { few = (let x = each_length tells.Pass p.kept in let y = length-append (each tells.Pass p.kept) (piece tells.Pass (code "\n" ∷ []) ∷ []) in omega (arith, x, y)) })
    (choose (Light (row_weight p + 4)) (is_command (code "&") p.kept) _ _ (record { few = omega arith })
    (choose (Light (row_weight p + 4)) (is_request p.kept) _ _ (record { few = (let x = nothing_left p in omega (arith, x)) }) (row_light p)))

so_far_few : (s : State) → length (row_so_far s) ≤ 1
so_far_few s = choose (λ (ps : List Piece). length ps ≤ 1) (nat_lt 0 s.fields) _ _ (omega arith) (omega arith)

over_row_light : (p : Page) → Light (length p.kept + 5) (row_overflown p)
over_row_light p =
    let x = so_far_few p.state in
    let tail = wrong kinds.RowLimit p.state ∷ piece tells.Plain [] ∷ each tells.Pass (code "\\" ∷ code "&" ∷ rest_of p) in
    let y : length (row_overflown p).pieces ≡ length (row_so_far p.state) + length tail = length-append (row_so_far p.state) tail in
    let z = each_length tells.Pass (rest_of p) in
    let cut = length-drop p.from p.kept in
    record { few = omega (arith, x, y, z, cut) }

over_end_light : (p : Page) → Light (length p.kept + 1) (long_end p)
over_end_light p = record { few = (let x = each_length tells.Pass p.kept in omega (arith, x)) }

-- ---- text blocks

left_light : (goes : Bool) (p : Page) → goes_on p ≡ goes → Light (4 * length p.kept + 5) (block_ended p)
left_light true p e = rw e (record { few = (let x = (row_light (record p { state = record (states.field_counted p.state) { mode = modes.Row }; from = field_at p; start = field_at p })).few in omega (arith, x)) })
left_light false p e = rw e (record { few = omega arith })

unset_few : (p : Page) → length (unset_reported p) ≤ 1
unset_few p = choose (λ (ps : List Piece). length ps ≤ 1) (is_unset p.kept) _ _ (omega arith) (omega arith)

said_light : (p : Page) → Light (4 * length p.kept + 5) (block_said p)
said_light p =
    let text = each tells.BlockText p.kept in
    let line = text ++ each tells.BlockText (code "\n" ∷ []) in
    let x = each_length tells.BlockText p.kept in
    let y = length-append text (each tells.BlockText (code "\n" ∷ [])) in
    let z = length-append (unset_reported p) line in
    let few = unset_few p in
    let none = nothing_left p in
    record { few = omega (arith, x, y, z, few, none) }

begun_light : (p : Page) → Light (length p.kept + 6) (block_line_begun p)
begun_light p =
    let x = each_length tells.BlockText p.kept in
    let y = length-append (unset_reported p) (each tells.BlockText p.kept) in
    let few = unset_few p in
    record { few = omega (arith, x, y, few) }

block_light : (p : Page) → Light (4 * length p.kept + 5) (block_line p)
block_light p =
    choose (Light (4 * length p.kept + 5)) (ends_block p.kept) _ _ (left_light (goes_on p) p refl)
    (choose (Light (4 * length p.kept + 5)) (is_command (code "E") p.kept) _ _
    (record { few = (let x = each_length tells.Pass p.kept in let y = length-append (each tells.Pass p.kept) (piece tells.Pass (code "\n" ∷ []) ∷ []) in omega (arith, x, y)) })
    (said_light p))

over_left_light : (goes : Bool) (p : Page) → goes_on p ≡ goes → Light (length p.kept + 6) (and_then (block_left p) row_overflown)
over_left_light true p e = rw e (record { few = (let x = (over_row_light (record p { state = record (states.field_counted p.state) { mode = modes.Row }; from = field_at p; start = field_at p })).few in omega (arith, x)) })
over_left_light false p e = rw e (record { few = (let x = (over_row_light (with_state (states.field_counted p.state) p)).few in omega (arith, x)) })

over_block_light : (p : Page) → Light (length p.kept + 6) (block_overflown p)
over_block_light p =
    choose (Light (length p.kept + 6)) (ends_block p.kept) _ _ (over_left_light (goes_on p) p refl)
    (choose (Light (length p.kept + 6)) (is_command (code "E") p.kept) _ _
    (record { few = (let x = each_length tells.Pass p.kept in omega (arith, x)) })
    (begun_light p))

-- ---- options and formats

given_up_light : (kind : Kind) (p : Page) → Light (length p.kept + 2) (given_up kind p)
given_up_light kind p = record { few = (let x = each_length tells.Pass (rest_of p) in let cut = length-drop p.from p.kept in omega (arith, x, cut)) }

given_up_line_light : (kind : Kind) (p : Page) → Light (length p.kept + 3) (heads.given_up_line kind p)
given_up_line_light kind p =
    let x = (given_up_light kind p).few in
    let y = length-append (given_up kind p).pieces (piece tells.Pass (code "\n" ∷ []) ∷ []) in
    record { few = omega (arith, x, y) }

judged_light : (kind : Option Kind) (p : Page) → Light (length p.kept + 3) (heads.formats_judged kind p)
judged_light None p = record { few = omega arith }
judged_light (Some kinds.NoFormat) p = given_up_line_light kinds.NoFormat p
judged_light (Some kinds.TooManyColumns) p = given_up_line_light kinds.TooManyColumns p
judged_light (Some (kinds.BadFormat byte)) p = record { few = omega arith }
judged_light (Some (kinds.UnknownOption word)) p = record { few = omega arith }
judged_light (Some (kinds.BadArgument word)) p = record { few = omega arith }
judged_light (Some kinds.TooManyFields) p = record { few = omega arith }
judged_light (Some (kinds.OpenBlock line)) p = record { few = omega arith }
judged_light (Some (kinds.OpenTable line)) p = record { few = omega arith }
judged_light (Some kinds.FormatsLimit) p = record { few = omega arith }
judged_light (Some kinds.RowLimit) p = record { few = omega arith }
judged_light (Some kinds.TooWide) p = record { few = omega arith }
judged_light (Some (kinds.UnsetRequest name)) p = record { few = omega arith }

formats_length : (text : List ℕ) (f : Formats) → length (heads.formats_said f text) ≡ length text
formats_length [] f = refl
formats_length (b ∷ bs) f = ap suc (formats_length bs (read_format b f).formats)

formats_light : (p : Page) → Light (2 * length p.kept + 5) (heads.formats_ended p)
formats_light p =
    let text = heads.with_newline (rest_of p) in
    let f = heads.formats_after p.state.formats text in
    let q = heads.formats_taken f p in
    let said = heads.formats_said p.state.formats text in
    let x = formats_length text p.state.formats in
    let long = length-append (rest_of p) (code "\n" ∷ []) in
    let cut = length-drop p.from p.kept in
    let y = length-append said (piece tells.FormatsEnd [] ∷ []) in
    let z = length-append (said ++ piece tells.FormatsEnd [] ∷ []) (heads.formats_judged (heads.wrong_in f p) q).pieces in
    let w = (judged_light (heads.wrong_in f p) q).few in
    record { few = omega (arith, x, long, cut, y, z, w) }

abbrev one_line_more : Page → Effect
one_line_more p = effect (record p { kept = p.kept ++ code "\n" ∷ []; start = length p.kept + 1 }) []

line_more_light : (p : Page) → p.state.mode ≡ modes.Head → Light (4 * length p.kept + 5) (one_line_more p)
line_more_light p m =
    let q = (one_line_more p).page in
    let same : weight q ≡ 4 * length q.kept = ap (λ (x : Mode). weight_in x q) m in
    record { few = (let x = length-append p.kept (code "\n" ∷ []) in omega (arith, x, same)) }

line_light : (p : Page) → p.state.mode ≡ modes.Head → Light (4 * length p.kept + 5) (heads.formats_line p)
line_light p m =
    choose (Light (4 * length p.kept + 5)) (is_dotted (line_of p)) _ _ (more _ _ _ (omega arith) (formats_light p))
    (choose (Light (4 * length p.kept + 5)) (nat_le p.limits.formats (length p.kept)) (heads.given_up_line kinds.FormatsLimit p) (one_line_more p)
    (more (length p.kept + 3) (4 * length p.kept + 5) (heads.given_up_line kinds.FormatsLimit p) (omega arith) (given_up_line_light kinds.FormatsLimit p))
    (line_more_light p m))

kind_few : (kind : Option Kind) (s : State) → length (heads.wrong_if kind s) ≤ 1
kind_few None s = omega arith
kind_few (Some kind) s = omega arith

options_few : (o : Options) (s : State) → length (heads.options_wrong o s) ≤ 1
options_few o s = kind_few o.wrong s

-- the same is kept, and few pieces are said
record Split (p : Page) (e : Effect) : Type 0 where
  pub kept : e.page.kept ≡ p.kept
  pub mode : e.page.state.mode ≡ p.state.mode
  pub few : length e.pieces ≤ 2

split_light : (end : Option ℕ) (p : Page) → Split p (heads.options_split end p)
split_light None p = record { kept = refl; mode = refl; few = omega arith }
split_light (Some end) p = record { kept = refl; mode = refl; few = (let x = options_few (options_of (take end p.kept)) p.state in omega (arith, x)) }

options_light : (p : Page) → Split p (heads.options_line p)
options_light p =
    choose (Split p) p.state.first _ _
    (let h = split_light (options_end p.kept) (record p { state = record p.state { first = false } }) in record { kept = h.kept; mode = h.mode; few = h.few })
    (record { kept = refl; mode = refl; few = omega arith })

head_light : (p : Page) → p.state.mode ≡ modes.Head → Light (4 * length p.kept + 7) (heads.head_line p)
head_light p m =
    choose (Light (4 * length p.kept + 7)) (is_command (code "E") (line_of p)) _ _
    (record { few = (let x = (given_up_line_light kinds.NoFormat p).few in let y = length-append (heads.given_up_line kinds.NoFormat p).pieces (piece tells.PlainEnd [] ∷ []) in omega (arith, x, y)) })
    (let h = options_light p in
    let q = (heads.options_line p).page in
    let x = (line_light q (h.mode ∙ m)).few in
    let y = h.few in
    let same = ap length h.kept in
    let z = length-append (heads.options_line p).pieces (heads.formats_line q).pieces in
    record { few = omega (arith, x, y, same, z) })

-- ---- a byte

ended_light : (mode : Mode) (p : Page) → p.state.mode ≡ mode → Light (weight_in mode p + 7) (line_ended_in mode p)
ended_light modes.Head p m = head_light p m
ended_light modes.Rows p m = more _ _ _ (omega arith) (between_light p)
ended_light modes.Row p m = more _ _ _ (omega arith) (row_light p)
ended_light modes.Block p m = more _ _ _ (omega arith) (block_light p)
ended_light modes.BlockLine p m = record { few = rw m (omega arith) }
ended_light (modes.Passing start) p m = record { few = rw m (omega arith) }
ended_light (modes.Plain start) p m = record { few = rw m (omega arith) }

over_light : (mode : Mode) (p : Page) → Light (weight_in mode p + 6) (overflown_in mode p)
over_light modes.Head p = more _ _ _ (omega arith) (given_up_light kinds.FormatsLimit p)
over_light modes.Rows p =
    choose (Light (row_weight p + 6)) (is_command (code "E") p.kept) _ _ (more _ _ _ (omega arith) (over_end_light p)) (more _ _ _ (omega arith) (over_row_light p))
over_light modes.Row p = more _ _ _ (omega arith) (over_row_light p)
over_light modes.Block p = more _ _ _ (omega arith) (over_block_light p)
over_light modes.BlockLine p = more _ _ _ (omega arith) (over_row_light p)
over_light (modes.Passing start) p = more _ _ _ (omega arith) (over_row_light p)
over_light (modes.Plain start) p = more _ _ _ (omega arith) (over_row_light p)

heavier : (mode : Mode) (b : ℕ) (p : Page) → weight_in mode (with_kept (b ∷ []) p) ≤ weight_in mode p + 4
heavier modes.Head b p = (let x = length-append p.kept (b ∷ []) in omega (arith, x))
heavier modes.Block b p = (let x = length-append p.kept (b ∷ []) in omega (arith, x))
heavier modes.BlockLine b p = (let x = length-append p.kept (b ∷ []) in omega (arith, x))
heavier modes.Rows b p = (let x = length-append p.kept (b ∷ []) in omega (arith, x))
heavier modes.Row b p = (let x = length-append p.kept (b ∷ []) in omega (arith, x))
heavier (modes.Passing start) b p = (let x = length-append p.kept (b ∷ []) in omega (arith, x))
heavier (modes.Plain start) b p = (let x = length-append p.kept (b ∷ []) in omega (arith, x))

counted : (mode : Mode) (p : Page) → weight_in mode (with_state (line_counted p.state) p) ≡ weight_in mode p
counted modes.Head p = refl
counted modes.Block p = refl
counted modes.BlockLine p = refl
counted modes.Rows p = refl
counted modes.Row p = refl
counted (modes.Passing start) p = refl
counted (modes.Plain start) p = refl

more_light : (p : Page) → Light (weight p + 6) (kept_more p)
more_light p = choose (Light (weight p + 6)) (nat_lt (limit_of p) (length p.kept)) (overflown p) (effect p []) (over_light p.state.mode p) (record { few = omega arith })

end_light : (p : Page) → Light (weight p + 10) (line_ended p)
end_light p =
    let e = line_ended_in p.state.mode p in
    let x = (ended_light p.state.mode p refl).few in
    let y = length-append e.pieces [] in
    let z = counted e.page.state.mode e.page in
    record { few = omega (arith, x, y, z) }

kept_light : (b : ℕ) (p : Page) → Light (weight p + 10) (kept b p)
kept_light b p =
    choose (Light (weight p + 10)) (b == code "\n") (line_ended p) (kept_more (with_kept (b ∷ []) p)) (end_light p)
    (let x = heavier p.state.mode b p in more _ _ _ (omega (arith, x)) (more_light (with_kept (b ∷ []) p)))

line_passed_light : (u : Bool) (p : Page) → length (line_passed u p).pieces + weight (line_passed u p).page ≤ row_weight p + 1
line_passed_light true p = omega arith
line_passed_light false p = omega arith

passed_light : (b : ℕ) (s : Start) (p : Page) → Light (row_weight p + 2) (passed b s p)
passed_light b s p =
    choose (Light (row_weight p + 2)) (b == code "\n") _ _ (record { few = (let x = line_passed_light (begins_command s) p in omega (arith, x)) }) (record { few = omega arith })

plain_line_light : (u : Bool) (p : Page) → length (plain_line_passed u p).pieces + weight (plain_line_passed u p).page ≤ row_weight p + 1
plain_line_light true p = omega arith
plain_line_light false p = omega arith

plain_light : (b : ℕ) (s : Start) (p : Page) → Light (row_weight p + 2) (plain_passed b s p)
plain_light b s p =
    choose (Light (row_weight p + 2)) (b == code "\n") _ _ (record { few = (let x = plain_line_light (begins_command s) p in omega (arith, x)) }) (record { few = omega arith })

block_on_light : (b : ℕ) (p : Page) → p.state.mode ≡ modes.BlockLine → Light (4 * length p.kept + 2) (block_goes_on b p)
block_on_light b p m =
    choose (λ (q : Page). Light (4 * length p.kept + 2) (effect q (piece tells.BlockText (b ∷ []) ∷ []))) (b == code "\n") _ p
    (record { few = omega arith }) (record { few = (let same : weight p ≡ 4 * length p.kept = ap (λ (x : Mode). weight_in x p) m in omega (arith, same)) })

read_in_light : (mode : Mode) (b : ℕ) (p : Page) → p.state.mode ≡ mode → Light (weight p + 10) (read_in mode b p)
read_in_light (modes.Passing start) b p m =
    (let same : weight p ≡ row_weight p = ap (λ (x : Mode). weight_in x p) m in more _ _ _ (omega (arith, same)) (passed_light b start p))
read_in_light (modes.Plain start) b p m =
    (let same : weight p ≡ row_weight p = ap (λ (x : Mode). weight_in x p) m in more _ _ _ (omega (arith, same)) (plain_light b start p))
read_in_light modes.BlockLine b p m =
    (let same : weight p ≡ 4 * length p.kept = ap (λ (x : Mode). weight_in x p) m in more _ _ _ (omega (arith, same)) (block_on_light b p m))
read_in_light modes.Head b p m = kept_light b p
read_in_light modes.Rows b p m = kept_light b p
read_in_light modes.Row b p m = kept_light b p
read_in_light modes.Block b p m = kept_light b p

fed_light : (bytes : List ℕ) (p : Page) → Light (weight p + 10 * length bytes) (fed bytes p)
fed_light [] p = record { few = omega arith }
fed_light (b ∷ bs) p =
    let e = read b p in
    let x = (read_in_light p.state.mode b p refl).few in
    let y = (fed_light bs e.page).few in
    let z = length-append e.pieces (fed bs e.page).pieces in
    record { few = omega (arith, x, y, z) }

-- ---- the end

closed_few : (mode : Mode) (p : Page) → length (closed_in mode p).pieces ≤ length p.kept + 6
closed_few (modes.Passing start) p = omega arith
closed_few (modes.Plain start) p = omega arith
closed_few modes.Head p =
    (let x = each_length tells.Pass (rest_of p) in let y = length-append (each tells.Pass (rest_of p)) (piece tells.PlainEnd [] ∷ []) in
    let cut = length-drop p.from p.kept in omega (arith, x, y, cut))
closed_few modes.Rows p = omega arith
closed_few modes.Row p =
    (let x = last_few p.state (rest_of p) in let y = length-append (last_said p.state (rest_of p)).pieces (piece tells.Row [] ∷ piece tells.TableEnd [] ∷ []) in omega (arith, x, y))
closed_few modes.Block p = omega arith
closed_few modes.BlockLine p = omega arith

line_closed_light : (p : Page) → Light (weight p + 10) (line_closed p)
line_closed_light p = choose (Light (weight p + 10)) (is_open_in p.state.mode p) _ _ (read_in_light p.state.mode (code "\n") p refl) (record { few = omega arith })

finished_few : (p : Page) → length (finished p).pieces ≤ weight p + 16
finished_few p =
    choose (λ (e : Effect). length e.pieces ≤ weight p + 16) (is_begin p.state.mode) _ _ (omega arith)
    (let e = line_closed p in
    let x = (line_closed_light p).few in
    let y = closed_few e.page.state.mode e.page in
    let z = at_least e.page.state.mode e.page in
    let w = length-append e.pieces (closed e.page).pieces in
    omega (arith, x, y, z, w))

pub cut_few : (l : Limits) (bytes : List ℕ) → length (fed bytes (first_page l)).pieces ≤ 16 * length bytes
cut_few l bytes = (let x = (fed_light bytes (first_page l)).few in omega (arith, x))

pub page_few : (l : Limits) (bytes : List ℕ) → length (page_said l bytes) ≤ 16 * (length bytes + 1)
page_few l bytes =
    let p = first_page l in
    let x = (fed_light bytes p).few in
    let y = finished_few (fed bytes p).page in
    let z = length-append (fed bytes p).pieces (finished (fed bytes p).page).pieces in
    omega (arith, x, y, z)
