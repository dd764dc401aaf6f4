-- A page is lines.
use Rattle.std.proofs.Common.{◌≡◌, ℕ, List, [], ◌∷◌, ◌++◌, Bool, true, false, ◌==◌, ◌&&◌, refl, sym, ◌∙◌, ap, append_assoc, append-nil, length-append, arith}
use Prim.Native.Char.{code}
use Rattle.tbl_reader.specs.declared.command.Start.{Start}
use Rattle.tbl_reader.specs.declared.command.Start.TheVariants as starts
use Rattle.tbl_reader.specs.declared.state.Mode.TheVariants as modes
use Rattle.tbl_reader.specs.declared.telling.Tell.TheVariants as tells
use Rattle.tbl_reader.specs.Commands.{is_command, ends_name, start_with, start_if, start_after, begins_command}
use Rattle.tbl_reader.specs.HeadLines.{with_newline}
use Rattle.tbl_reader.specs.Outside.{line_passed}
use Rattle.tbl_reader.specs.Pages.{Page, Effect, effect, and_then, at_mode}
use Rattle.tbl_reader.specs.Reading.{read, fed, is_kept, line_ended, with_kept}
use Rattle.tbl_reader.specs.Telling.{Piece, piece, each}
use Rattle.tbl_reader.specs.Whole.{is_line, LinesPass, LinesAreRead}
use Rattle.tbl_reader.proofs.Runs.{and_first, and_second, alone, read_at, then_more, fed_append, each_append, fed_kept_all, fits_more, read_kept_in}

-- ---- a line outside of tables

other_stays : (letter : ℕ) (bytes : List ℕ) → start_after letter bytes starts.Other ≡ starts.Other
other_stays letter [] = refl
other_stays letter (b ∷ bs) = other_stays letter bs

command_stays : (letter : ℕ) (bytes : List ℕ) → start_after letter bytes starts.Command ≡ starts.Command
command_stays letter [] = refl
command_stays letter (b ∷ bs) = command_stays letter bs

begins_if : (letter : ℕ) (here : Bool) (s : Start) (bytes : List ℕ) (whole : Bool) → begins_command (start_after letter bytes s) ≡ whole
    → begins_command (start_after letter bytes (start_if here s)) ≡ (here && whole)
begins_if letter true s bytes whole h = h
begins_if letter false s bytes whole h = ap begins_command (other_stays letter bytes)

and_false : (t : Bool) → (t && false) ≡ false
and_false true = refl
and_false false = refl

and_true : (t : Bool) → (t && true) ≡ t
and_true true = refl
and_true false = refl

and_then_and : (x y z : Bool) → (x && (y && z)) ≡ ((x && y) && z)
and_then_and true y z = refl
and_then_and false y z = refl

begins : (letter : ℕ) (line : List ℕ) → begins_command (start_after letter line starts.Nothing) ≡ is_command letter line
begins letter [] = refl
begins letter (a ∷ []) = begins_if letter (a == code ".") starts.Dot [] false refl ∙ and_false (a == code ".")
begins letter (a ∷ b ∷ []) =
    begins_if letter (a == code ".") starts.Dot (b ∷ []) ((b == code "T") && false) (begins_if letter (b == code "T") starts.DotT [] false refl)
    ∙ ap (λ (t : Bool). (a == code ".") && t) (and_false (b == code "T")) ∙ and_false (a == code ".")
begins letter (a ∷ b ∷ c ∷ []) =
    begins_if letter (a == code ".") starts.Dot (b ∷ c ∷ []) ((b == code "T") && ((c == letter) && true))
    (begins_if letter (b == code "T") starts.DotT (c ∷ []) ((c == letter) && true) (begins_if letter (c == letter) starts.Name [] true refl))
    ∙ ap (λ (t : Bool). (a == code ".") && ((b == code "T") && t)) (and_true (c == letter))
    ∙ and_then_and (a == code ".") (b == code "T") (c == letter)
begins letter (a ∷ b ∷ c ∷ d ∷ rest) =
    begins_if letter (a == code ".") starts.Dot (b ∷ c ∷ d ∷ rest) ((b == code "T") && ((c == letter) && (ends_name d && true)))
    (begins_if letter (b == code "T") starts.DotT (c ∷ d ∷ rest) ((c == letter) && (ends_name d && true))
    (begins_if letter (c == letter) starts.Name (d ∷ rest) (ends_name d && true)
    (begins_if letter (ends_name d) starts.Command rest true (ap begins_command (command_stays letter rest)))))
    ∙ ap (λ (t : Bool). (a == code ".") && ((b == code "T") && ((c == letter) && t))) (and_true (ends_name d))
    ∙ and_then_and (a == code ".") (b == code "T") ((c == letter) && ends_name d)
    ∙ and_then_and ((a == code ".") && (b == code "T")) (c == letter) (ends_name d)

fed_passes : (bytes : List ℕ) (s : Start) (p : Page) → is_line bytes ≡ true
    → fed bytes (at_mode (modes.Passing s) p) ≡ effect (at_mode (modes.Passing (start_after (code "S") bytes s)) p) (each tells.Pass bytes)
fed_passes [] s p h = refl
fed_passes (b ∷ bs) s p h =
    let next = start_with (code "S") b s in
    then_more b bs (at_mode (modes.Passing s) p) (at_mode (modes.Passing next) p)
    (effect (at_mode (modes.Passing (start_after (code "S") bs next)) p) (each tells.Pass bs))
    (read_at b s p (and_first (b == code "\n") (is_line bs) h)) (fed_passes bs next p (and_second (b == code "\n") (is_line bs) h))

-- the line after
after_line : Bool → Page → List Piece → Effect
after_line begun p said = let e = line_passed begun p in effect e.page (said ++ e.pieces)

passed_from : (begun : Bool) (s : Start) (p : Page) → line_passed begun (at_mode (modes.Passing s) p) ≡ line_passed begun p
passed_from true s p = refl
passed_from false s p = refl

pub lines_pass : LinesPass
unfolding after_line
lines_pass line p h =
    let s = start_after (code "S") line starts.Nothing in
    let q = at_mode (modes.Passing s) p in
    let said = each tells.Pass line in
    let e = line_passed (begins_command s) q in
    fed_append line (code "\n" ∷ []) (at_mode (modes.Passing starts.Nothing) p)
    ∙ ap (λ (x : Effect). and_then x (fed (code "\n" ∷ []))) (fed_passes line starts.Nothing p h)
    ∙ ap (λ (x : Effect). effect x.page (said ++ x.pieces)) (alone (read (code "\n") q))
    ∙ ap (λ (ps : List Piece). effect e.page ps) (sym (append_assoc said (piece tells.Pass (code "\n" ∷ []) ∷ []) e.pieces))
    ∙ ap (λ (ps : List Piece). effect e.page (ps ++ e.pieces)) (sym (each_append tells.Pass line (code "\n" ∷ [])))
    ∙ ap (λ (x : Effect). effect x.page (each tells.Pass (with_newline line) ++ x.pieces)) (passed_from (begins_command s) s p)
    ∙ ap (λ (t : Bool). after_line t p (each tells.Pass (with_newline line))) (begins (code "S") line)

-- ---- a line of a table

newline_ends : (p : Page) → is_kept p.state.mode ≡ true → fed (code "\n" ∷ []) p ≡ line_ended p
newline_ends p k = alone (read (code "\n") p) ∙ read_kept_in p.state.mode (code "\n") p k

pub lines_are_read : LinesAreRead
lines_are_read [] p k h l =
    newline_ends p k ∙ ap (λ (kept : List ℕ). line_ended (record p { kept = kept })) (sym (append-nil p.kept))
lines_are_read (b ∷ bs) p k h l =
    let line = b ∷ bs in
    let q = with_kept line p in
    fed_append line (code "\n" ∷ []) p
    ∙ ap (λ (x : Effect). and_then x (fed (code "\n" ∷ [])))
    (fed_kept_all line p k h (omega arith) (omega (arith, l)) ∙ fits_more q (let long = length-append p.kept line in omega (arith, long, l)))
    ∙ newline_ends q k
