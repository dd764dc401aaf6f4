-- Text without a table passes.
use Rattle.std.proofs.Common.{◌≡◌, ◌≢◌, ℕ, ◌+◌, ◌≤◌, List, [], ◌∷◌, ◌++◌, length, drop, Bool, true, false, not, ◌==◌, ◌||◌, refl, sym, ◌∙◌, ap, append_assoc, arith}
use Rattle.std.proofs.lemmas.Grind.{common_steps}
use Rattle.std.proofs.lemmas.List.{drop_all, append-nil}
use Prim.Native.Char.{code}
use Rattle.tbl_reader.specs.declared.command.Start.{Start}
use Rattle.tbl_reader.specs.declared.command.Start.TheVariants as starts
use Rattle.tbl_reader.specs.declared.reader.Limits.{Limits}
use Rattle.tbl_reader.specs.declared.state.Mode.TheVariants as modes
use Rattle.tbl_reader.specs.declared.telling.Tell.TheVariants as tells
use Rattle.tbl_reader.specs.Commands.{ends_name, start_with, begins_command}
use Rattle.tbl_reader.specs.Ending.{finished, first_page, page_said}
use Rattle.tbl_reader.specs.Pages.{Page, Effect, effect}
use Rattle.tbl_reader.specs.Reading.{read, fed}
use Rattle.tbl_reader.specs.States.{first_state}
use Rattle.tbl_reader.specs.Telling.{Piece, piece, each}
use Rattle.tbl_reader.specs.Untouched.{begins_table, has_table_from, has_table, is_untouched}

or_first : (x y : Bool) → (x || y) ≡ false → x ≡ false
or_first false y h = refl
or_first true y h = h

or_second : (x y : Bool) → (x || y) ≡ false → y ≡ false
or_second false y h = h
or_second true y h = absurd (let no : true ≡ false = h in cc)

not_true : (b : Bool) → not b ≡ true → b ≡ false
not_true false h = refl
not_true true h = absurd (let no : false ≡ true = h in cc)

-- a page outside of tables, in a line that begins so
outside : Limits → ℕ → Start → Page
outside l line s =
    record { state = record first_state { mode = modes.Passing s; line = line }; limits = l; kept = []; from = 0; start = 0 }

-- the bytes of such a beginning, where these are known
held : Start → List ℕ
held starts.Nothing = []
held starts.Dot = code "." ∷ []
held starts.DotT = code "." ∷ code "T" ∷ []
held starts.Name = code "." ∷ code "T" ∷ code "S" ∷ []
held starts.Command = []
held starts.Other = []

is_held : Start → Bool
is_held starts.Nothing = true
is_held starts.Dot = true
is_held starts.DotT = true
is_held starts.Name = true
is_held starts.Command = false
is_held starts.Other = false

-- all of these bytes pass, and nothing else is said
record Comes_to (p : Page) (bs : List ℕ) : Type 0 where
  pub emitted : (fed bs p).pieces ≡ each tells.Pass bs
  pub ends : (finished (fed bs p).page).pieces ≡ []

one_more : (p q : Page) (b : ℕ) (bs : List ℕ) → read b p ≡ effect q (piece tells.Pass (b ∷ []) ∷ []) → Comes_to q bs → Comes_to p (b ∷ bs)
one_more p q b bs e more = record {
  emitted = ap (λ (x : Effect). x.pieces ++ (fed bs x.page).pieces) e ∙ ap (λ (ps : List Piece). piece tells.Pass (b ∷ []) ∷ ps) more.emitted;
  ends = ap (λ (x : Effect). (finished (fed bs x.page).page).pieces) e ∙ more.ends;
}

read_on : (l : Limits) (line b : ℕ) (s : Start) → (b == code "\n") ≡ false
    → read b (outside l line s) ≡ effect (outside l line (start_with (code "S") b s)) (piece tells.Pass (b ∷ []) ∷ [])
unfolding outside
read_on l line b s e = rw e refl

read_newline : (l : Limits) (line b : ℕ) (s : Start) → (b == code "\n") ≡ true → begins_command s ≡ false
    → read b (outside l line s) ≡ effect (outside l (line + 1) starts.Nothing) (piece tells.Pass (b ∷ []) ∷ [])
unfolding outside
read_newline l line b s e f = rw e (rw f refl)

finished_outside : (l : Limits) (line : ℕ) (s : Start) → begins_command s ≡ false → (finished (outside l line s)).pieces ≡ []
unfolding outside
finished_outside l line s f = rw f refl

-- ---- what is held, and what follows

held_grows : (s t : Start) (b : ℕ) → start_with (code "S") b s ≡ t → is_held s ≡ true → is_held t ≡ true → held t ≡ held s ++ b ∷ []
unfolding held is_held
held_grows starts.Nothing t b e h k = grind (arith, common_steps)
held_grows starts.Dot t b e h k = grind (arith, common_steps)
held_grows starts.DotT t b e h k = grind (arith, common_steps)
held_grows starts.Name t b e h k = grind (arith, common_steps)
held_grows starts.Command t b e h k = absurd (let no : false ≡ true = h in cc)
held_grows starts.Other t b e h k = absurd (let no : false ≡ true = h in cc)

none_after : (s : Start) (b : ℕ) (bs : List ℕ) → is_held s ≡ true → has_table_from true (held s ++ b ∷ bs) ≡ false → has_table_from (b == code "\n") bs ≡ false
unfolding held is_held
none_after starts.Nothing b bs k h = or_second (begins_table (b ∷ bs)) (has_table_from (b == code "\n") bs) h
none_after starts.Dot b bs k h = or_second (begins_table (code "." ∷ b ∷ bs)) (has_table_from (b == code "\n") bs) h
none_after starts.DotT b bs k h = or_second (begins_table (code "." ∷ code "T" ∷ b ∷ bs)) (has_table_from (b == code "\n") bs) h
none_after starts.Name b bs k h = or_second (begins_table (code "." ∷ code "T" ∷ code "S" ∷ b ∷ bs)) (has_table_from (b == code "\n") bs) h
none_after starts.Command b bs k h = absurd (let no : false ≡ true = k in cc)
none_after starts.Other b bs k h = absurd (let no : false ≡ true = k in cc)

no_name : (b : ℕ) (bs : List ℕ) → has_table_from true (code "." ∷ code "T" ∷ code "S" ∷ b ∷ bs) ≡ false → ((b == code "\n") || ends_name b) ≡ false
no_name b bs h = or_first ((b == code "\n") || ends_name b) (has_table_from (b == code "\n") bs) h

-- no line with a table ends after what is held
no_end : (s : Start) (b : ℕ) (bs : List ℕ) → (b == code "\n") ≡ true → is_held s ≡ true → has_table_from true (held s ++ b ∷ bs) ≡ false → begins_command s ≡ false
unfolding held is_held
no_end starts.Nothing b bs e k h = refl
no_end starts.Dot b bs e k h = refl
no_end starts.DotT b bs e k h = refl
no_end starts.Name b bs e k h = sym e ∙ or_first (b == code "\n") (ends_name b) (no_name b bs h)
no_end starts.Command b bs e k h = absurd (let no : false ≡ true = k in cc)
no_end starts.Other b bs e k h = refl

no_command : (s : Start) (b : ℕ) (bs : List ℕ) → is_held s ≡ true → has_table_from true (held s ++ b ∷ bs) ≡ false → start_with (code "S") b s ≢ starts.Command
unfolding held is_held
no_command starts.Nothing b bs k h e = grind (arith, common_steps)
no_command starts.Dot b bs k h e = grind (arith, common_steps)
no_command starts.DotT b bs k h e = grind (arith, common_steps)
no_command starts.Name b bs k h e = (let no = or_second (b == code "\n") (ends_name b) (no_name b bs h) in grind (arith, common_steps))
no_command starts.Command b bs k h e = absurd (let no : false ≡ true = k in cc)
no_command starts.Other b bs k h e = absurd (let no : false ≡ true = k in cc)

ends_none : (s : Start) → is_held s ≡ true → has_table_from true (held s ++ []) ≡ false → begins_command s ≡ false
unfolding held is_held
ends_none starts.Nothing k h = refl
ends_none starts.Dot k h = refl
ends_none starts.DotT k h = refl
ends_none starts.Name k h = h
ends_none starts.Command k h = absurd (let no : false ≡ true = k in cc)
ends_none starts.Other k h = refl

-- ---- all bytes

record Untouched (l : Limits) (bs : List ℕ) : Type 0 where
  pub midst : (line : ℕ) → has_table_from false bs ≡ false → Comes_to (outside l line starts.Other) bs
  pub start : (line : ℕ) (s : Start) → is_held s ≡ true → has_table_from true (held s ++ bs) ≡ false → Comes_to (outside l line s) bs

none_untouched : (l : Limits) → Untouched l []
none_untouched l = record {
  midst = λ line h. record { emitted = refl; ends = finished_outside l line starts.Other refl };
  start = λ line s k h. record { emitted = refl; ends = finished_outside l line s (ends_none s k h) };
}

-- a newline comes
after_newline : (l : Limits) (line b : ℕ) (bs : List ℕ) (s : Start) → Untouched l bs → (b == code "\n") ≡ true → begins_command s ≡ false
    → has_table_from (b == code "\n") bs ≡ false → Comes_to (outside l line s) (b ∷ bs)
unfolding held is_held
after_newline l line b bs s u e f h =
    one_more (outside l line s) (outside l (line + 1) starts.Nothing) b bs (read_newline l line b s e f)
    (u.start (line + 1) starts.Nothing refl (ap (λ t. has_table_from t bs) (sym e) ∙ h))

-- another byte comes
goes_on : (l : Limits) (line b : ℕ) (bs : List ℕ) (s t : Start) → Untouched l bs → (b == code "\n") ≡ false → start_with (code "S") b s ≡ t
    → Comes_to (outside l line t) bs → Comes_to (outside l line s) (b ∷ bs)
goes_on l line b bs s t u e f more =
    one_more (outside l line s) (outside l line t) b bs
    (read_on l line b s e ∙ ap (λ x. effect (outside l line x) (piece tells.Pass (b ∷ []) ∷ [])) f) more

at_start : (l : Limits) (line b : ℕ) (bs : List ℕ) (s t : Start) → Untouched l bs → (b == code "\n") ≡ false → is_held s ≡ true
    → has_table_from true (held s ++ b ∷ bs) ≡ false → start_with (code "S") b s ≡ t → Comes_to (outside l line t) bs
unfolding is_held
at_start l line b bs s starts.Nothing u e k h f =
    u.start line starts.Nothing refl (ap (λ xs. has_table_from true (xs ++ bs)) (held_grows s starts.Nothing b f k refl) ∙ ap (has_table_from true) (append_assoc (held s) (b ∷ []) bs) ∙ h)
at_start l line b bs s starts.Dot u e k h f =
    u.start line starts.Dot refl (ap (λ xs. has_table_from true (xs ++ bs)) (held_grows s starts.Dot b f k refl) ∙ ap (has_table_from true) (append_assoc (held s) (b ∷ []) bs) ∙ h)
at_start l line b bs s starts.DotT u e k h f =
    u.start line starts.DotT refl (ap (λ xs. has_table_from true (xs ++ bs)) (held_grows s starts.DotT b f k refl) ∙ ap (has_table_from true) (append_assoc (held s) (b ∷ []) bs) ∙ h)
at_start l line b bs s starts.Name u e k h f =
    u.start line starts.Name refl (ap (λ xs. has_table_from true (xs ++ bs)) (held_grows s starts.Name b f k refl) ∙ ap (has_table_from true) (append_assoc (held s) (b ∷ []) bs) ∙ h)
at_start l line b bs s starts.Command u e k h f = absurd (no_command s b bs k h f)
at_start l line b bs s starts.Other u e k h f = u.midst line (ap (λ x. has_table_from x bs) (sym e) ∙ none_after s b bs k h)

start_step : (l : Limits) (line b : ℕ) (bs : List ℕ) (s : Start) (newline : Bool) → (b == code "\n") ≡ newline → Untouched l bs → is_held s ≡ true
    → has_table_from true (held s ++ b ∷ bs) ≡ false → Comes_to (outside l line s) (b ∷ bs)
start_step l line b bs s true e u k h = after_newline l line b bs s u e (no_end s b bs e k h) (none_after s b bs k h)
start_step l line b bs s false e u k h = goes_on l line b bs s (start_with (code "S") b s) u e refl (at_start l line b bs s (start_with (code "S") b s) u e k h refl)

midst_step : (l : Limits) (line b : ℕ) (bs : List ℕ) (newline : Bool) → (b == code "\n") ≡ newline → Untouched l bs
    → has_table_from (b == code "\n") bs ≡ false → Comes_to (outside l line starts.Other) (b ∷ bs)
midst_step l line b bs true e u h = after_newline l line b bs starts.Other u e refl h
midst_step l line b bs false e u h = goes_on l line b bs starts.Other starts.Other u e refl (u.midst line (ap (λ x. has_table_from x bs) (sym e) ∙ h))

all_untouched : (l : Limits) (bs : List ℕ) → Untouched l bs
all_untouched l [] = none_untouched l
all_untouched l (b ∷ bs) =
    let u = all_untouched l bs in
    record {
      midst = λ line h. midst_step l line b bs (b == code "\n") refl u h;
      start = λ line s k h. start_step l line b bs s (b == code "\n") refl u k h;
    }

both : (p : Page) (bs : List ℕ) → Comes_to p bs → (fed bs p).pieces ++ (finished (fed bs p).page).pieces ≡ each tells.Pass bs
both p bs h = ap (λ (ps : List Piece). (fed bs p).pieces ++ ps) h.ends ∙ append-nil (fed bs p).pieces ∙ h.emitted

pub untouched : (l : Limits) (text : List ℕ) → is_untouched text ≡ true → page_said l text ≡ each tells.Pass text
unfolding outside held is_held
untouched l text h =
    both (first_page l) text ((all_untouched l text).start 1 starts.Nothing refl (not_true (has_table text) h))

-- at the end of the text
pub untouched_at_end : (text : List ℕ) (i : ℕ) (starts : Bool) → length text ≤ i → has_table_from starts (drop i text) ≡ has_table text → is_untouched text ≡ true
untouched_at_end text i starts l e =
    ap not (sym e ∙ ap (has_table_from starts) (drop_all i text l))
