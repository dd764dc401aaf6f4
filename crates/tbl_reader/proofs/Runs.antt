-- Bytes that are taken at once are read as if one by one.
use Rattle.std.proofs.Common.{◌≡◌, ℕ, zero, suc, ◌+◌, ◌<◌, ◌≤◌, List, [], ◌∷◌, ◌++◌, length, take, drop, Bool, true, false, not, ◌==◌, ◌&&◌, ◌||◌, if◌then◌else◌, refl, sym, ◌∙◌, ap, subst, append_assoc, append-nil, length-append, get_or, arith}
use Rattle.std.proofs.lemmas.Bool.{le-ltb}
use Rattle.std.proofs.lemmas.Grind.{common_steps}
use Rattle.std.proofs.lemmas.List.{length-take, take_all}
use Prim.Native.Char.{code}
use Rattle.tbl_reader.specs.declared.command.Start.{Start}
use Rattle.tbl_reader.specs.declared.command.Start.TheVariants as starts
use Rattle.tbl_reader.specs.declared.passing.Lines.{Lines}
use Rattle.tbl_reader.specs.declared.state.Mode.{Mode}
use Rattle.tbl_reader.specs.declared.state.Mode.TheVariants as modes
use Rattle.tbl_reader.specs.declared.telling.Tell.{Tell}
use Rattle.tbl_reader.specs.declared.telling.Tell.TheVariants as tells
use Rattle.tbl_reader.specs.Commands.{start_with, start_if, is_free, begins_command}
use Rattle.tbl_reader.specs.Pages.{Page, Effect, effect, and_then, at_mode, with_state}
use Rattle.tbl_reader.specs.Outside.{passed, line_passed}
use Rattle.tbl_reader.specs.Passing.{line_len, may_command}
use Rattle.tbl_reader.specs.Reading.{read, read_in, fed, kept, kept_more, with_kept, is_kept, limit_of, limit_in, Fits, Took, AreFree, lines_on}
use Rattle.tbl_reader.specs.Telling.{Piece, Tells, piece, each}
use Rattle.tbl_reader.specs.Whole.{is_line}

or_first : (x y : Bool) → (x || y) ≡ false → x ≡ false
or_first false y h = refl
or_first true y h = h

pub and_first : (x y : Bool) → (not x && y) ≡ true → x ≡ false
and_first false y h = refl
and_first true y h = absurd (let no : false ≡ true = h in cc)

pub and_second : (x y : Bool) → (not x && y) ≡ true → y ≡ true
and_second false y h = h
and_second true y h = absurd (let no : false ≡ true = h in cc)

plain_in : (n b : ℕ) (bs : List ℕ) (newline : Bool) → (b == code "\n") ≡ newline → (n ≤ line_len bs → is_line (take n bs) ≡ true)
    → suc n ≤ line_len (b ∷ bs) → is_line (take (suc n) (b ∷ bs)) ≡ true
plain_in n b bs true e more h = absurd (let few : suc n ≤ 0 = subst (λ (t : Bool). suc n ≤ (if t then 0 else suc (line_len bs))) e h in omega (arith, few))
plain_in n b bs false e more h =
    let few : suc n ≤ suc (line_len bs) = subst (λ (t : Bool). suc n ≤ (if t then 0 else suc (line_len bs))) e h in
    ap (λ (t : Bool). not t && is_line (take n bs)) e ∙ more (omega (arith, few))

-- those before the first newline
pub plain_before : (n : ℕ) (bytes : List ℕ) → n ≤ line_len bytes → is_line (take n bytes) ≡ true
plain_before zero bytes h = refl
plain_before (suc n) [] h = refl
plain_before (suc n) (b ∷ bs) h = plain_in n b bs (b == code "\n") refl (plain_before n bs) h

newline_in : (b : ℕ) (bs : List ℕ) (newline : Bool) → (b == code "\n") ≡ newline → line_len (b ∷ bs) ≡ 0 → take 1 (b ∷ bs) ≡ code "\n" ∷ []
newline_in b bs true e h = grind (arith, common_steps)
newline_in b bs false e h = absurd (let none : suc (line_len bs) ≡ 0 = subst (λ (t : Bool). (if t then 0 else suc (line_len bs)) ≡ 0) e h in omega (arith, none))

-- a newline comes first
pub newline_first : (bytes : List ℕ) → 0 < length bytes → line_len bytes ≡ 0 → take 1 bytes ≡ code "\n" ∷ []
newline_first [] some h = absurd (omega (arith, some))
newline_first (b ∷ bs) some h = newline_in b bs (b == code "\n") refl h

-- one effect alone
pub alone : (e : Effect) → effect e.page (e.pieces ++ []) ≡ e
alone e = ap (λ (ps : List Piece). effect e.page ps) (append-nil e.pieces)

-- ---- in a text block

read_block : (b : ℕ) (p : Page) → p.state.mode ≡ modes.BlockLine → (b == code "\n") ≡ false → read b p ≡ effect p (piece tells.BlockText (b ∷ []) ∷ [])
read_block b p m e = rw m (rw e refl)

pub fed_block : (bytes : List ℕ) (p : Page) → p.state.mode ≡ modes.BlockLine → is_line bytes ≡ true → fed bytes p ≡ effect p (each tells.BlockText bytes)
fed_block [] p m h = refl
fed_block (b ∷ bs) p m h =
    ap (λ (x : Effect). and_then x (fed bs)) (read_block b p m (and_first (b == code "\n") (is_line bs) h))
    ∙ ap (λ (x : Effect). effect x.page (piece tells.BlockText (b ∷ []) ∷ x.pieces)) (fed_block bs p m (and_second (b == code "\n") (is_line bs) h))

-- ---- in a line that is kept

pub read_kept_in : (mode : Mode) (b : ℕ) (p : Page) → is_kept mode ≡ true → read_in mode b p ≡ kept b p
read_kept_in (modes.Passing start) b p k = absurd (let no : false ≡ true = k in cc)
read_kept_in (modes.Plain start) b p k = absurd (let no : false ≡ true = k in cc)
read_kept_in modes.BlockLine b p k = absurd (let no : false ≡ true = k in cc)
read_kept_in modes.Head b p k = refl
read_kept_in modes.Rows b p k = refl
read_kept_in modes.Row b p k = refl
read_kept_in modes.Block b p k = refl

read_kept : (b : ℕ) (p : Page) → is_kept p.state.mode ≡ true → (b == code "\n") ≡ false → read b p ≡ kept_more (with_kept (b ∷ []) p)
read_kept b p k e = read_kept_in p.state.mode b p k ∙ rw e refl

pub fits_more : (q : Page) → length q.kept ≤ limit_of q → kept_more q ≡ effect q []
fits_more q h = rw (le-ltb (limit_of q) (length q.kept) h) refl

-- up to one byte more than may be kept
pub fed_kept : (b : ℕ) (bs : List ℕ) (p : Page) → is_kept p.state.mode ≡ true → is_line (b ∷ bs) ≡ true
    → length p.kept + length (b ∷ bs) ≤ limit_of p + 1 → fed (b ∷ bs) p ≡ kept_more (with_kept (b ∷ bs) p)
fed_kept b [] p k h l = alone (read b p) ∙ read_kept b p k (and_first (b == code "\n") true h)
fed_kept b (c ∷ cs) p k h l =
    let q = with_kept (b ∷ []) p in
    let longer = length-append p.kept (b ∷ []) in
    let here : read b p ≡ effect q [] =
    read_kept b p k (and_first (b == code "\n") (is_line (c ∷ cs)) h) ∙ fits_more q (omega (arith, longer, l)) in
    ap (λ (x : Effect). and_then x (fed (c ∷ cs))) here
    ∙ fed_kept c cs q k (and_second (b == code "\n") (is_line (c ∷ cs)) h) (omega (arith, longer, l))
    ∙ ap (λ (ks : List ℕ). kept_more (record p { kept = ks })) (append_assoc p.kept (b ∷ []) (c ∷ cs))

pub fed_kept_all : (bytes : List ℕ) (p : Page) → is_kept p.state.mode ≡ true → is_line bytes ≡ true → 0 < length bytes
    → length p.kept + length bytes ≤ limit_of p + 1 → fed bytes p ≡ kept_more (with_kept bytes p)
fed_kept_all [] p k h some l = absurd (omega (arith, some))
fed_kept_all (b ∷ bs) p k h some l = fed_kept b bs p k h l

-- ---- in a line outside of tables

pub read_at : (b : ℕ) (s : Start) (p : Page) → (b == code "\n") ≡ false
    → read b (at_mode (modes.Passing s) p) ≡ effect (at_mode (modes.Passing (start_with (code "S") b s)) p) (piece tells.Pass (b ∷ []) ∷ [])
read_at b s p e = rw e refl

-- one byte and then others
pub then_more : (b : ℕ) (bs : List ℕ) (p q : Page) (f : Effect) → read b p ≡ effect q (piece tells.Pass (b ∷ []) ∷ []) → fed bs q ≡ f
    → fed (b ∷ bs) p ≡ effect f.page (piece tells.Pass (b ∷ []) ∷ f.pieces)
then_more b bs p q f e more =
    ap (λ (x : Effect). and_then x (fed bs)) e ∙ ap (λ (x : Effect). effect x.page (piece tells.Pass (b ∷ []) ∷ x.pieces)) more

in_midst : Page → Page
in_midst p = at_mode (modes.Passing starts.Other) p

fed_midst : (bs : List ℕ) (p : Page) → is_line bs ≡ true → fed bs (in_midst p) ≡ effect (in_midst p) (each tells.Pass bs)
unfolding in_midst
fed_midst [] p h = refl
fed_midst (b ∷ bs) p h =
    then_more b bs (in_midst p) (in_midst p) (effect (in_midst p) (each tells.Pass bs))
    (read_at b starts.Other p (and_first (b == code "\n") (is_line bs) h)) (fed_midst bs p (and_second (b == code "\n") (is_line bs) h))

-- from the beginning of a line that is no command
fed_point : (b c : ℕ) (cs : List ℕ) (p : Page) (point : Bool) → (b == code ".") ≡ point → ((b == code ".") && ((c == code "T") || (c == code "\n"))) ≡ false → is_line (b ∷ c ∷ cs) ≡ true
    → fed (b ∷ c ∷ cs) (at_mode (modes.Passing starts.Nothing) p) ≡ effect (in_midst p) (each tells.Pass (b ∷ c ∷ cs))
unfolding in_midst
fed_point b c cs p false e f h =
    then_more b (c ∷ cs) (at_mode (modes.Passing starts.Nothing) p) (in_midst p) (effect (in_midst p) (each tells.Pass (c ∷ cs)))
    (read_at b starts.Nothing p (and_first (b == code "\n") (is_line (c ∷ cs)) h)
    ∙ ap (λ (t : Bool). effect (at_mode (modes.Passing (start_if t starts.Dot)) p) (piece tells.Pass (b ∷ []) ∷ [])) e)
    (fed_midst (c ∷ cs) p (and_second (b == code "\n") (is_line (c ∷ cs)) h))
fed_point b c cs p true e f h =
    let rest = and_second (b == code "\n") (is_line (c ∷ cs)) h in
    let no : (c == code "T") ≡ false = or_first (c == code "T") (c == code "\n") (ap (λ (t : Bool). t && ((c == code "T") || (c == code "\n"))) (sym e) ∙ f) in
    then_more b (c ∷ cs) (at_mode (modes.Passing starts.Nothing) p) (at_mode (modes.Passing starts.Dot) p) (effect (in_midst p) (each tells.Pass (c ∷ cs)))
    (read_at b starts.Nothing p (and_first (b == code "\n") (is_line (c ∷ cs)) h)
    ∙ ap (λ (t : Bool). effect (at_mode (modes.Passing (start_if t starts.Dot)) p) (piece tells.Pass (b ∷ []) ∷ [])) e)
    (then_more c cs (at_mode (modes.Passing starts.Dot) p) (in_midst p) (effect (in_midst p) (each tells.Pass cs))
    (read_at c starts.Dot p (and_first (c == code "\n") (is_line cs) rest)
    ∙ ap (λ (t : Bool). effect (at_mode (modes.Passing (start_if t starts.DotT)) p) (piece tells.Pass (c ∷ []) ∷ [])) no)
    (fed_midst cs p (and_second (c == code "\n") (is_line cs) rest)))

not_true : (b : Bool) → not b ≡ true → b ≡ false
not_true false h = refl
not_true true h = absurd (let no : false ≡ true = h in cc)

fed_start : (bytes : List ℕ) (p : Page) → 0 < length bytes → may_command bytes ≡ false → is_line bytes ≡ true
    → fed bytes (at_mode (modes.Passing starts.Nothing) p) ≡ effect (in_midst p) (each tells.Pass bytes)
unfolding in_midst
fed_start [] p some f h = absurd (omega (arith, some))
fed_start (b ∷ []) p some f h =
    then_more b [] (at_mode (modes.Passing starts.Nothing) p) (in_midst p) (effect (in_midst p) [])
    (read_at b starts.Nothing p (and_first (b == code "\n") true h)
    ∙ ap (λ (t : Bool). effect (at_mode (modes.Passing (start_if t starts.Dot)) p) (piece tells.Pass (b ∷ []) ∷ [])) f) refl
fed_start (b ∷ c ∷ cs) p some f h = fed_point b c cs p (b == code ".") refl f h

pub fed_free : (start : Start) (bytes : List ℕ) (p : Page) → is_free start bytes ≡ true → 0 < length bytes → is_line bytes ≡ true
    → fed bytes (at_mode (modes.Passing start) p) ≡ effect (at_mode (modes.Passing starts.Other) p) (each tells.Pass bytes)
unfolding in_midst
fed_free starts.Nothing bytes p f some h = fed_start bytes p some (not_true (may_command bytes) f) h
fed_free starts.Other bytes p f some h = fed_midst bytes p h
fed_free starts.Dot bytes p f some h = absurd (let no : false ≡ true = f in cc)
fed_free starts.DotT bytes p f some h = absurd (let no : false ≡ true = f in cc)
fed_free starts.Name bytes p f some h = absurd (let no : false ≡ true = f in cc)
fed_free starts.Command bytes p f some h = absurd (let no : false ≡ true = f in cc)

-- the rest of a line was taken
pub took_part : {A S : Type 0} (shows : A → S → Type 0) (hears : Piece → S → S) (start : Start) (bytes : List ℕ) (n : ℕ) (p q : Page) (old new : A) → p.state.mode ≡ modes.Passing start
    → is_free start (take n bytes) ≡ true → 0 < n → n ≤ length bytes → n ≤ line_len bytes → Fits p → q ≡ at_mode (modes.Passing starts.Other) p
    → Tells shows hears (each tells.Pass (take n bytes)) old new → Took shows hears bytes p q old new n
took_part shows hears start bytes n p q old new m f some within before fits page emitted =
    let cut = length-take n bytes in
    let same : p ≡ at_mode (modes.Passing start) p = ap (λ (x : Mode). at_mode x p) m in
    let all : fed (take n bytes) p ≡ effect (at_mode (modes.Passing starts.Other) p) (each tells.Pass (take n bytes)) =
    ap (fed (take n bytes)) same ∙ fed_free start (take n bytes) p f (omega (arith, cut, some, within)) (plain_before n bytes before) in
    record {
      some = some;
      within = within;
      page = page ∙ ap (λ (x : Effect). x.page) (sym all);
      emitted = subst (λ (x : Effect). Tells shows hears x.pieces old new) (sym all) emitted;
      fits = rw page (subst (λ (x : Mode). length p.kept ≤ limit_in x p.limits) m fits);
      lines = rw page (omega arith);
    }

-- a part of a line of a text block was taken
pub took_block : {A S : Type 0} (shows : A → S → Type 0) (hears : Piece → S → S) (bytes : List ℕ) (n : ℕ) (p : Page) (old new : A) → p.state.mode ≡ modes.BlockLine → 0 < n
    → n ≤ length bytes → n ≤ line_len bytes → Fits p → Tells shows hears (each tells.BlockText (take n bytes)) old new → Took shows hears bytes p p old new n
took_block shows hears bytes n p old new m some within before fits emitted =
    let all = fed_block (take n bytes) p m (plain_before n bytes before) in
    record {
      some = some;
      within = within;
      page = ap (λ (x : Effect). x.page) (sym all);
      emitted = subst (λ (x : Effect). Tells shows hears x.pieces old new) (sym all) emitted;
      fits = fits;
      lines = omega arith;
    }

-- ---- whole lines outside of tables

is_newline : (b : ℕ) → (b == code "\n") ≡ true → b ≡ code "\n"
is_newline b e = grind (arith, common_steps)

line_in : (b : ℕ) (bs : List ℕ) (newline : Bool) → (b == code "\n") ≡ newline
    → (line_len bs < length bs → take (suc (line_len bs)) bs ≡ take (line_len bs) bs ++ code "\n" ∷ []) → line_len (b ∷ bs) < length (b ∷ bs)
    → take (suc (line_len (b ∷ bs))) (b ∷ bs) ≡ take (line_len (b ∷ bs)) (b ∷ bs) ++ code "\n" ∷ []
line_in b bs true e more h = rw e (ap (λ (x : ℕ). x ∷ []) (is_newline b e))
line_in b bs false e more h =
    let few : suc (line_len bs) < suc (length bs) = subst (λ (t : Bool). (if t then 0 else suc (line_len bs)) < suc (length bs)) e h in
    rw e (ap (λ (xs : List ℕ). b ∷ xs) (more (omega (arith, few))))

-- a line and its newline
pub line_taken : (bytes : List ℕ) → line_len bytes < length bytes → take (suc (line_len bytes)) bytes ≡ take (line_len bytes) bytes ++ code "\n" ∷ []
line_taken [] h = absurd (omega (arith, h))
line_taken (b ∷ bs) h = line_in b bs (b == code "\n") refl (line_taken bs) h

-- the page after a line
abbrev pub line_on : Page → Page
line_on p = with_state (record p.state { line = p.state.line + 1; mode = modes.Passing starts.Nothing }) p

newline_read : (s : Start) (p : Page) → begins_command s ≡ false → fed (code "\n" ∷ []) (at_mode (modes.Passing s) p) ≡ effect (line_on p) (piece tells.Pass (code "\n" ∷ []) ∷ [])
newline_read s p f = rw f refl

-- ---- one part after another

pub fed_append : (xs ys : List ℕ) (p : Page) → fed (xs ++ ys) p ≡ and_then (fed xs p) (fed ys)
fed_append [] ys p = refl
fed_append (x ∷ xs) ys p =
    let e = read x p in
    let f = fed xs e.page in
    let g = fed ys f.page in
    ap (λ (t : Effect). effect t.page (e.pieces ++ t.pieces)) (fed_append xs ys e.page)
    ∙ ap (λ (ps : List Piece). effect g.page ps) (sym (append_assoc e.pieces f.pieces g.pieces))

pub each_append : (t : Tell) (xs ys : List ℕ) → each t (xs ++ ys) ≡ each t xs ++ each t ys
each_append t [] ys = refl
each_append t (x ∷ xs) ys = ap (λ (ps : List Piece). piece t (x ∷ []) ∷ ps) (each_append t xs ys)

-- ---- a line that is no command, and its newline

line_of_two : (b : ℕ) (rest : List ℕ) → (b == code "\n") ≡ false → line_len (code "." ∷ b ∷ rest) ≡ suc (suc (line_len rest))
line_of_two b rest e = rw e refl

is_point : (a : ℕ) → (a == code ".") ≡ true → a ≡ code "."
is_point a e = grind (arith, common_steps)

or_second : (x y : Bool) → (x || y) ≡ false → y ≡ false
or_second false y h = h
or_second true y h = absurd (let no : true ≡ false = h in cc)

short_point : (a b : ℕ) (rest : List ℕ) (point : Bool) → (a == code ".") ≡ point → ((a == code ".") && ((b == code "T") || (b == code "\n"))) ≡ false → 1 ≡ line_len (a ∷ b ∷ rest)
    → (a == code ".") ≡ false
short_point a b rest false e f n = e
short_point a b rest true e f n =
    let other : (b == code "\n") ≡ false = or_second (b == code "T") (b == code "\n") (ap (λ (t : Bool). t && ((b == code "T") || (b == code "\n"))) (sym e) ∙ f) in
    let long : line_len (a ∷ b ∷ rest) ≡ suc (suc (line_len rest)) = ap (λ (x : ℕ). line_len (x ∷ b ∷ rest)) (is_point a e) ∙ line_of_two b rest other in
    absurd (omega (arith, n, long))

free_prefix : (n : ℕ) (bytes : List ℕ) → 0 < n → n ≡ line_len bytes → may_command bytes ≡ false → may_command (take n bytes) ≡ false
free_prefix zero bytes some n f = absurd (omega (arith, some))
free_prefix (suc m) [] some n f = refl
free_prefix (suc zero) (a ∷ []) some n f = f
free_prefix (suc (suc k)) (a ∷ []) some n f = f
free_prefix (suc zero) (a ∷ b ∷ rest) some n f = short_point a b rest (a == code ".") refl f n
free_prefix (suc (suc k)) (a ∷ b ∷ rest) some n f = f

pub free_take : (start : Start) (n : ℕ) (bytes : List ℕ) → 0 < n → n ≡ line_len bytes → is_free start bytes ≡ true → is_free start (take n bytes) ≡ true
free_take starts.Nothing n bytes some same f = ap not (free_prefix n bytes some same (not_true (may_command bytes) f))
free_take starts.Other n bytes some same f = refl
free_take starts.Dot n bytes some same f = f
free_take starts.DotT n bytes some same f = f
free_take starts.Name n bytes some same f = f
free_take starts.Command n bytes some same f = f

no_command : (start : Start) (bytes : List ℕ) → is_free start bytes ≡ true → begins_command start ≡ false
no_command starts.Nothing bytes f = refl
no_command starts.Other bytes f = refl
no_command starts.Dot bytes f = refl
no_command starts.DotT bytes f = refl
no_command starts.Name bytes f = absurd (let no : false ≡ true = f in cc)
no_command starts.Command bytes f = absurd (let no : false ≡ true = f in cc)

line_read : (n : ℕ) (start : Start) (bytes : List ℕ) (p : Page) → n ≡ line_len bytes → n < length bytes → is_free start bytes ≡ true
    → fed (take n bytes ++ code "\n" ∷ []) (at_mode (modes.Passing start) p) ≡ effect (line_on p) (each tells.Pass (take n bytes ++ code "\n" ∷ []))
line_read zero start bytes p same less f = newline_read start p (no_command start bytes f)
line_read (suc m) start bytes p same less f =
    let n = suc m in
    let prefix = take n bytes in
    let cut = length-take n bytes in
    fed_append prefix (code "\n" ∷ []) (at_mode (modes.Passing start) p)
    ∙ ap (λ (x : Effect). and_then x (fed (code "\n" ∷ [])))
    (fed_free start prefix p (free_take start n bytes (omega arith) same f) (omega (arith, cut, less)) (plain_before n bytes (omega (arith, same))))
    ∙ ap (λ (x : Effect). effect x.page (each tells.Pass prefix ++ x.pieces)) (newline_read starts.Other p refl)
    ∙ ap (λ (ps : List Piece). effect (line_on p) ps) (sym (each_append tells.Pass prefix (code "\n" ∷ [])))

-- a line and its newline were taken
pub took_line : {A S : Type 0} (shows : A → S → Type 0) (hears : Piece → S → S) (start : Start) (bytes : List ℕ) (n : ℕ) (p q : Page) (old new : A) → p.state.mode ≡ modes.Passing start
    → is_free start bytes ≡ true → n ≡ line_len bytes → n < length bytes → Fits p → q ≡ line_on p
    → Tells shows hears (each tells.Pass (take (n + 1) bytes)) old new → Took shows hears bytes p q old new (n + 1)
took_line shows hears start bytes n p q old new m f same less fits page emitted =
    let whole : take (n + 1) bytes ≡ take n bytes ++ code "\n" ∷ [] =
    let more : n + 1 ≡ suc (line_len bytes) = omega (arith, same) in
    rw (more, same) (line_taken bytes (omega (arith, same, less))) in
    let here : p ≡ at_mode (modes.Passing start) p = ap (λ (x : Mode). at_mode x p) m in
    let all : fed (take (n + 1) bytes) p ≡ effect (line_on p) (each tells.Pass (take (n + 1) bytes)) =
    ap (fed (take (n + 1) bytes)) here ∙ ap (λ (xs : List ℕ). fed xs (at_mode (modes.Passing start) p)) whole
    ∙ line_read n start bytes p same less f ∙ ap (λ (xs : List ℕ). effect (line_on p) (each tells.Pass xs)) (sym whole) in
    record {
      some = omega arith;
      within = omega (arith, less);
      page = page ∙ ap (λ (x : Effect). x.page) (sym all);
      emitted = subst (λ (x : Effect). Tells shows hears x.pieces old new) (sym all) emitted;
      fits = rw page (subst (λ (x : Mode). length p.kept ≤ limit_in x p.limits) m fits);
      lines = rw page (omega arith);
    }

-- all that came of a line was taken
pub took_rest : {A S : Type 0} (shows : A → S → Type 0) (hears : Piece → S → S) (start : Start) (bytes : List ℕ) (n : ℕ) (p q : Page) (old new : A) → p.state.mode ≡ modes.Passing start
    → is_free start bytes ≡ true → 0 < n → n ≡ length bytes → n ≡ line_len bytes → Fits p → q ≡ at_mode (modes.Passing starts.Other) p
    → Tells shows hears (each tells.Pass bytes) old new → Took shows hears bytes p q old new n
took_rest shows hears start bytes n p q old new m f some all line fits page emitted =
    let whole : take n bytes ≡ bytes = take_all n bytes (omega (arith, all)) in
    took_part shows hears start bytes n p q old new m (ap (is_free start) whole ∙ f) some (omega (arith, all)) (omega (arith, line)) fits page
    (subst (λ (xs : List ℕ). Tells shows hears (each tells.Pass xs) old new) (sym whole) emitted)

-- ---- many lines

take_nil : (n : ℕ) → take {A = ℕ} n [] ≡ []
take_nil zero = refl
take_nil (suc n) = refl

take_add : (m n : ℕ) (xs : List ℕ) → take (m + n) xs ≡ take m xs ++ take n (drop m xs)
take_add zero n xs = let e : 0 + n ≡ n = omega arith in rw e refl
take_add (suc m) n [] = let e : suc m + n ≡ suc (m + n) = omega arith in rw e (sym (take_nil n))
take_add (suc m) n (x ∷ xs) = let e : suc m + n ≡ suc (m + n) = omega arith in rw e (ap (λ (ys : List ℕ). x ∷ ys) (take_add m n xs))

-- one line more
pub free_more : (bytes : List ℕ) (count len n : ℕ) → AreFree (record { count = count; len = len }) bytes → n ≡ line_len (drop len bytes)
    → n < length (drop len bytes) → may_command (drop len bytes) ≡ false → AreFree (record { count = count + 1; len = len + (n + 1) }) bytes
free_more bytes count len n free same less other p =
    let rest = drop len bytes in
    let q = lines_on count p in
    let whole : take (n + 1) rest ≡ take n rest ++ code "\n" ∷ [] =
    let more : n + 1 ≡ suc (line_len rest) = omega (arith, same) in
    rw (more, same) (line_taken rest (omega (arith, same, less))) in
    let all : take (len + (n + 1)) bytes ≡ take len bytes ++ (take n rest ++ code "\n" ∷ []) =
    take_add len (n + 1) bytes ∙ ap (λ (xs : List ℕ). take len bytes ++ xs) whole in
    let sum : (p.state.line + count) + 1 ≡ p.state.line + (count + 1) = omega arith in
    ap (λ (xs : List ℕ). fed xs (at_mode (modes.Passing starts.Nothing) p)) all
    ∙ fed_append (take len bytes) (take n rest ++ code "\n" ∷ []) (at_mode (modes.Passing starts.Nothing) p)
    ∙ ap (λ (x : Effect). and_then x (fed (take n rest ++ code "\n" ∷ []))) (free p)
    ∙ ap (λ (x : Effect). effect x.page (each tells.Pass (take len bytes) ++ x.pieces))
    (line_read n starts.Nothing rest q same less (ap not other))
    ∙ ap (λ (k : ℕ). effect (with_state (record p.state { line = k; mode = modes.Passing starts.Nothing }) p) (each tells.Pass (take len bytes) ++ each tells.Pass (take n rest ++ code "\n" ∷ []))) sum
    ∙ ap (λ (ps : List Piece). effect (with_state (record p.state { line = p.state.line + (count + 1); mode = modes.Passing starts.Nothing }) p) ps)
    (sym (each_append tells.Pass (take len bytes) (take n rest ++ code "\n" ∷ [])) ∙ ap (each tells.Pass) (sym all))

pub took_lines : {A S : Type 0} (shows : A → S → Type 0) (hears : Piece → S → S) (bytes : List ℕ) (lines : Lines) (p q : Page) (old new : A) → p.state.mode ≡ modes.Passing starts.Nothing
    → AreFree lines bytes → 0 < lines.len → lines.len ≤ length bytes → lines.count ≤ lines.len → Fits p → q ≡ lines_on lines.count p
    → Tells shows hears (each tells.Pass (take lines.len bytes)) old new → Took shows hears bytes p q old new lines.len
took_lines shows hears bytes lines p q old new m free some within few fits page emitted =
    let here : p ≡ at_mode (modes.Passing starts.Nothing) p = ap (λ (x : Mode). at_mode x p) m in
    let all : fed (take lines.len bytes) p ≡ effect (lines_on lines.count p) (each tells.Pass (take lines.len bytes)) =
    ap (fed (take lines.len bytes)) here ∙ free p in
    record {
      some = some;
      within = within;
      page = page ∙ ap (λ (x : Effect). x.page) (sym all);
      emitted = subst (λ (x : Effect). Tells shows hears x.pieces old new) (sym all) emitted;
      fits = rw page (subst (λ (x : Mode). length p.kept ≤ limit_in x p.limits) m fits);
      lines = rw page (omega (arith, few));
    }

-- ---- one byte

pub first_byte : (bytes : List ℕ) (b : ℕ) → 0 < length bytes → b ≡ get_or bytes 0 0 → take 1 bytes ≡ b ∷ []
first_byte [] b some h = absurd (omega (arith, some))
first_byte (x ∷ xs) b some h = ap (λ (y : ℕ). y ∷ []) (sym h)

pub record Goes (p q : Page) : Type 0 where
  pub fits : Fits q
  pub lines : q.state.line ≤ p.state.line + 1

goes_line : (u : Bool) (s : Start) (p : Page) → Fits (at_mode (modes.Passing s) p) → Goes p (line_passed u p).page
goes_line true s p fits = record { fits = omega arith; lines = omega arith }
goes_line false s p fits = record { fits = fits; lines = omega arith }

goes_byte : (b : ℕ) (s : Start) (p : Page) (newline : Bool) → (b == code "\n") ≡ newline → Fits (at_mode (modes.Passing s) p) → Goes p (passed b s p).page
goes_byte b s p true e fits = rw e (goes_line (begins_command s) s p fits)
goes_byte b s p false e fits = rw e (record { fits = fits; lines = omega arith })

pub took_byte : {A S : Type 0} (shows : A → S → Type 0) (hears : Piece → S → S) (bytes : List ℕ) (b : ℕ) (s : Start) (p q : Page) (old new : A)
    → p.state.mode ≡ modes.Passing s → 0 < length bytes → b ≡ get_or bytes 0 0 → Fits p → q ≡ (passed b s p).page
    → Tells shows hears (passed b s p).pieces old new → Took shows hears bytes p q old new 1
took_byte shows hears bytes b s p q old new m some first fits page emitted =
    let here : read b p ≡ passed b s p = rw m refl in
    let all : fed (take 1 bytes) p ≡ passed b s p =
    ap (λ (xs : List ℕ). fed xs p) (first_byte bytes b some first) ∙ alone (read b p) ∙ here in
    let goes = goes_byte b s p (b == code "\n") refl (subst (λ (x : Mode). length p.kept ≤ limit_in x p.limits) m fits) in
    record {
      some = omega arith;
      within = omega (arith, some);
      page = page ∙ ap (λ (x : Effect). x.page) (sym all);
      emitted = subst (λ (x : Effect). Tells shows hears x.pieces old new) (sym all) emitted;
      fits = rw page goes.fits;
      lines = rw page goes.lines;
    }
