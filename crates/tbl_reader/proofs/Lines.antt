-- Lines of tables that are taken at once are read as if byte by byte.
use Rattle.std.proofs.Common.{◌≡◌, ℕ, ◌+◌, ◌<◌, ◌≤◌, List, [], ◌∷◌, length, take, Bool, true, false, ◌==◌, refl, sym, ◌∙◌, ap, subst, get_or, arith}
use Rattle.std.proofs.lemmas.List.{length-take, take-take}
use Prim.Native.Char.{code}
use Rattle.tbl_reader.specs.declared.command.Start.{Start}
use Rattle.tbl_reader.specs.declared.state.Mode.{Mode}
use Rattle.tbl_reader.specs.declared.state.Mode.TheVariants as modes
use Rattle.tbl_reader.specs.Commands.{begins_command}
use Rattle.tbl_reader.specs.Pages.{Page, Effect, at_mode}
use Rattle.tbl_reader.specs.Outside.{plain_passed, plain_line_passed}
use Rattle.tbl_reader.specs.Passing.{line_len}
use Rattle.tbl_reader.specs.Reading.{read, fed, kept_more, line_ended, with_kept, is_kept, limit_of, limit_in, Fits, Took}
use Rattle.tbl_reader.specs.Telling.{Piece, Tells}
use Rattle.tbl_reader.proofs.Runs.{Goes, alone, first_byte, newline_first, plain_before, read_kept_in, fed_kept_all}
use Rattle.tbl_reader.proofs.Steady.{fitting_more, fitting_ended}

-- ---- a line of a table that isn't set

goes_plain_line : (u : Bool) (s : Start) (p : Page) → Fits (at_mode (modes.Plain s) p) → Goes p (plain_line_passed u p).page
goes_plain_line true s p fits = record { fits = fits; lines = omega arith }
goes_plain_line false s p fits = record { fits = fits; lines = omega arith }

goes_plain : (b : ℕ) (s : Start) (p : Page) (newline : Bool) → (b == code "\n") ≡ newline → Fits (at_mode (modes.Plain s) p) → Goes p (plain_passed b s p).page
goes_plain b s p true e fits = rw e (goes_plain_line (begins_command s) s p fits)
goes_plain b s p false e fits = rw e (record { fits = fits; lines = omega arith })

pub took_plain : {A S : Type 0} (shows : A → S → Type 0) (hears : Piece → S → S) (bytes : List ℕ) (b : ℕ) (s : Start) (p q : Page) (old new : A)
    → p.state.mode ≡ modes.Plain s → 0 < length bytes → b ≡ get_or bytes 0 0 → Fits p → q ≡ (plain_passed b s p).page
    → Tells shows hears (plain_passed b s p).pieces old new → Took shows hears bytes p q old new 1
took_plain shows hears bytes b s p q old new m some first fits page emitted =
    let here : read b p ≡ plain_passed b s p = rw m refl in
    let all : fed (take 1 bytes) p ≡ plain_passed b s p =
    ap (λ (xs : List ℕ). fed xs p) (first_byte bytes b some first) ∙ alone (read b p) ∙ here in
    let goes = goes_plain b s p (b == code "\n") refl (subst (λ (x : Mode). length p.kept ≤ limit_in x p.limits) m fits) in
    record {
      some = omega arith;
      within = omega (arith, some);
      page = page ∙ ap (λ (x : Effect). x.page) (sym all);
      emitted = subst (λ (x : Effect). Tells shows hears x.pieces old new) (sym all) emitted;
      fits = rw page goes.fits;
      lines = rw page goes.lines;
    }

-- ---- a line that is kept

-- a part of it is
pub took_kept : {A S : Type 0} (shows : A → S → Type 0) (hears : Piece → S → S) (bytes : List ℕ) (n len : ℕ) (p q r : Page) (old new : A)
    → is_kept p.state.mode ≡ true → Fits p → len ≡ line_len bytes → len ≤ length bytes → 0 < n → n ≤ len → length p.kept + n ≤ limit_of p + 1
    → q ≡ with_kept (take n (take len bytes)) p → r ≡ (kept_more q).page → Tells shows hears (kept_more q).pieces old new
    → Took shows hears bytes p r old new n
took_kept shows hears bytes n len p q r old new k fits line within some few room kept page emitted =
    let cut = length-take n bytes in
    let prefix : take n (take len bytes) ≡ take n bytes = take-take n len bytes few in
    let all : fed (take n bytes) p ≡ kept_more q =
    fed_kept_all (take n bytes) p k (plain_before n bytes (omega (arith, few, line))) (omega (arith, cut, some, few, within)) (omega (arith, cut, few, within, room))
    ∙ ap (λ (xs : List ℕ). kept_more (with_kept xs p)) (sym prefix) ∙ ap kept_more (sym kept) in
    let goes = fitting_more q in
    record {
      some = some;
      within = omega (arith, few, within);
      page = page ∙ ap (λ (x : Effect). x.page) (sym all);
      emitted = subst (λ (x : Effect). Tells shows hears x.pieces old new) (sym all) emitted;
      fits = subst Fits (sym page) goes.fits;
      lines =
          (let a : r.state.line ≡ (kept_more q).page.state.line = ap (λ (x : Page). x.state.line) page in
          let b : q.state.line ≡ p.state.line = ap (λ (x : Page). x.state.line) kept in
          let d = goes.same in omega (arith, a, b, d));
    }

-- it ends
pub took_end : {A S : Type 0} (shows : A → S → Type 0) (hears : Piece → S → S) (bytes : List ℕ) (p q : Page) (old new : A)
    → is_kept p.state.mode ≡ true → Fits p → 0 < length bytes → line_len bytes ≡ 0 → q ≡ (line_ended p).page
    → Tells shows hears (line_ended p).pieces old new → Took shows hears bytes p q old new 1
took_end shows hears bytes p q old new k fits some first page emitted =
    let all : fed (take 1 bytes) p ≡ line_ended p =
    ap (λ (xs : List ℕ). fed xs p) (newline_first bytes some first) ∙ alone (read (code "\n") p) ∙ read_kept_in p.state.mode (code "\n") p k in
    let goes = fitting_ended p fits k in
    record {
      some = omega arith;
      within = omega (arith, some);
      page = page ∙ ap (λ (x : Effect). x.page) (sym all);
      emitted = subst (λ (x : Effect). Tells shows hears x.pieces old new) (sym all) emitted;
      fits = subst Fits (sym page) goes.fits;
      lines = (let a : q.state.line ≡ (line_ended p).page.state.line = ap (λ (x : Page). x.state.line) page in let d = goes.same in omega (arith, a, d));
    }

-- a newline alone
pub took_newline : {A S : Type 0} (shows : A → S → Type 0) (hears : Piece → S → S) (p q : Page) (old new : A) (n : ℕ)
    → Took shows hears (code "\n" ∷ []) p q old new n → (q ≡ (read (code "\n") p).page) × Tells shows hears (read (code "\n") p).pieces old new
took_newline shows hears p q old new n t =
    let one : n ≡ 1 = (let x = t.some in let y = t.within in omega (arith, x, y)) in
    let all : fed (take n (code "\n" ∷ [])) p ≡ read (code "\n") p = ap (λ (k : ℕ). fed (take k (code "\n" ∷ [])) p) one ∙ alone (read (code "\n") p) in
    (t.page ∙ ap (λ (x : Effect). x.page) all, subst (λ (x : Effect). Tells shows hears x.pieces old new) all t.emitted)
