-- The limits of a page stay as they were while it is read.
use Rattle.std.proofs.Common.{◌≡◌, ℕ, ◌≤◌, List, [], ◌∷◌, length, Bool, true, false, ◌==◌, refl, sym, ◌∙◌, ap, subst, arith}
use Prim.Native.Char.{code}
use Rattle.tbl_reader.specs.declared.command.Start.{Start}
use Rattle.tbl_reader.specs.declared.reader.Limits.{Limits}
use Rattle.tbl_reader.specs.declared.state.Mode.{Mode}
use Rattle.tbl_reader.specs.declared.state.Mode.TheVariants as modes
use Rattle.tbl_reader.specs.Commands.{begins_command}
use Rattle.tbl_reader.specs.Ending.{closed_in, line_closed, finished, is_begin, is_open_in, first_page}
use Rattle.tbl_reader.specs.Outside.{passed, line_passed, plain_passed, plain_line_passed}
use Rattle.tbl_reader.specs.Pages.{Page, Effect, rest_of}
use Rattle.tbl_reader.specs.Reading.{Fits, read, read_in, fed, kept, is_kept, with_kept, block_goes_on, kept_more, line_ended}
use Rattle.tbl_reader.proofs.Steady.{choose, fitting_ended, fitting_more}

pub record Keeps (p q : Page) : Type 0 where
  pub limits : q.limits ≡ p.limits
  pub fits : Fits q

keeps_then : (p q r : Page) → Keeps p q → Keeps q r → Keeps p r
keeps_then p q r h k = record { limits = k.limits ∙ h.limits; fits = k.fits }

line_keeps : (u : Bool) (p : Page) → length p.kept ≤ p.limits.row → Keeps p (line_passed u p).page
line_keeps true p few = record { limits = refl; fits = omega arith }
line_keeps false p few = record { limits = refl; fits = few }

passed_keeps : (b : ℕ) (s : Start) (p : Page) → length p.kept ≤ p.limits.row → Keeps p (passed b s p).page
passed_keeps b s p few =
    choose (λ (e : Effect). Keeps p e.page) (b == code "\n") _ _ (line_keeps (begins_command s) p few) (record { limits = refl; fits = few })

plain_line_keeps : (u : Bool) (p : Page) → length p.kept ≤ p.limits.row → Keeps p (plain_line_passed u p).page
plain_line_keeps true p few = record { limits = refl; fits = few }
plain_line_keeps false p few = record { limits = refl; fits = few }

plain_keeps : (b : ℕ) (s : Start) (p : Page) → length p.kept ≤ p.limits.row → Keeps p (plain_passed b s p).page
plain_keeps b s p few =
    choose (λ (e : Effect). Keeps p e.page) (b == code "\n") _ _ (plain_line_keeps (begins_command s) p few) (record { limits = refl; fits = few })

block_keeps : (b : ℕ) (p : Page) → length p.kept ≤ p.limits.row → Fits p → Keeps p (block_goes_on b p).page
block_keeps b p few f =
    choose (λ (q : Page). Keeps p q) (b == code "\n") _ p (record { limits = refl; fits = few }) (record { limits = refl; fits = f })

kept_keeps : (b : ℕ) (p : Page) → Fits p → is_kept p.state.mode ≡ true → Keeps p (kept b p).page
kept_keeps b p f k =
    choose (λ (e : Effect). Keeps p e.page) (b == code "\n") (line_ended p) (kept_more (with_kept (b ∷ []) p))
    (let h = fitting_ended p f k in record { limits = h.limits; fits = h.fits })
    (let h = fitting_more (with_kept (b ∷ []) p) in record { limits = h.limits; fits = h.fits })

read_keeps_in : (mode : Mode) (b : ℕ) (p : Page) → p.state.mode ≡ mode → Fits p → Keeps p (read_in mode b p).page
read_keeps_in (modes.Passing start) b p m f = passed_keeps b start p (rw m at f)
read_keeps_in (modes.Plain start) b p m f = plain_keeps b start p (rw m at f)
read_keeps_in modes.BlockLine b p m f = block_keeps b p (rw m at f) f
read_keeps_in modes.Head b p m f = kept_keeps b p f (ap is_kept m)
read_keeps_in modes.Rows b p m f = kept_keeps b p f (ap is_kept m)
read_keeps_in modes.Row b p m f = kept_keeps b p f (ap is_kept m)
read_keeps_in modes.Block b p m f = kept_keeps b p f (ap is_kept m)

pub read_keeps : (b : ℕ) (p : Page) → Fits p → Keeps p (read b p).page
read_keeps b p f = read_keeps_in p.state.mode b p refl f

pub fed_keeps : (bytes : List ℕ) (p : Page) → Fits p → Keeps p (fed bytes p).page
fed_keeps [] p f = record { limits = refl; fits = f }
fed_keeps (b ∷ bs) p f =
    let h = read_keeps b p f in
    keeps_then p (read b p).page (fed bs (read b p).page).page h (fed_keeps bs (read b p).page h.fits)

-- ---- the end

closed_stays : (mode : Mode) (p : Page) → (closed_in mode p).page.limits ≡ p.limits
closed_stays (modes.Passing start) p = refl
closed_stays (modes.Plain start) p = refl
closed_stays modes.Head p = refl
closed_stays modes.Rows p = refl
closed_stays modes.Row p = refl
closed_stays modes.Block p = refl
closed_stays modes.BlockLine p = refl

line_stays : (p : Page) → Fits p → Keeps p (line_closed p).page
line_stays p f = choose (λ (e : Effect). Keeps p e.page) (is_open_in p.state.mode p) _ _ (read_keeps (code "\n") p f) (record { limits = refl; fits = f })

finished_stays : (p : Page) → Fits p → (finished p).page.limits ≡ p.limits
finished_stays p f =
    let q = (line_closed p).page in
    choose (λ (e : Effect). e.page.limits ≡ p.limits) (is_begin p.state.mode) _ _ refl
    (closed_stays q.state.mode q ∙ (line_stays p f).limits)

-- after these bytes, and after the end
pub fed_stays : (l : Limits) (bytes : List ℕ) (q : Page) → q ≡ (fed bytes (first_page l)).page → q.limits ≡ l
fed_stays l bytes q e =
    ap (λ (x : Page). x.limits) e ∙ (fed_keeps bytes (first_page l) (omega arith)).limits

pub end_stays : (p q : Page) → Fits p → q ≡ (finished p).page → q.limits ≡ p.limits
end_stays p q f e = ap (λ (x : Page). x.limits) e ∙ finished_stays p f
