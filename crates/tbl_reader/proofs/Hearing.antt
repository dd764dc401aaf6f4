-- What one has heard, piece after piece.
use Rattle.std.proofs.Common.{◌≡◌, ℕ, List, [], ◌∷◌, ◌++◌, refl, sym, ◌∙◌, ap, subst}
use Rattle.tbl_reader.specs.declared.telling.Tell.{Tell}
use Rattle.tbl_reader.specs.Telling.{Piece, Tells, each, heard}
use Rattle.tbl_reader.specs.Pages.{Page, Effect, and_then}

pub heard_append : {S : Type 0} (hears : Piece → S → S) (xs ys : List Piece) (s : S) → heard hears (xs ++ ys) s ≡ heard hears ys (heard hears xs s)
heard_append hears [] ys s = refl
heard_append hears (x ∷ xs) ys s = heard_append hears xs ys (hears x s)

-- some pieces and then others
pub tells_append : {A S : Type 0} (shows : A → S → Type 0) (hears : Piece → S → S) (xs ys : List Piece) (a b c : A)
    → Tells shows hears xs a b → Tells shows hears ys b c → Tells shows hears (xs ++ ys) a c
tells_append shows hears xs ys a b c h k = λ s t. subst (shows c) (sym (heard_append hears xs ys s)) (k (heard hears xs s) (h s t))

-- one thing and then another
pub page_then : (e : Effect) (f : Page → Effect) (q r : Page) → q ≡ e.page → r ≡ (f q).page → r ≡ (and_then e f).page
page_then e f q r h k = k ∙ ap (λ p. (f p).page) h

pub tells_then : {A S : Type 0} (shows : A → S → Type 0) (hears : Piece → S → S) (e : Effect) (f : Page → Effect) (q : Page) (a b c : A)
    → q ≡ e.page → Tells shows hears e.pieces a b → Tells shows hears (f q).pieces b c → Tells shows hears (and_then e f).pieces a c
tells_then shows hears e f q a b c same h k =
    tells_append shows hears e.pieces (f e.page).pieces a b c h (subst (λ p. Tells shows hears (f p).pieces b c) same k)

-- the same text
pub each_same : {A S : Type 0} (shows : A → S → Type 0) (hears : Piece → S → S) (tell : Tell) (xs ys : List ℕ) (a b : A)
    → xs ≡ ys → Tells shows hears (each tell xs) a b → Tells shows hears (each tell ys) a b
each_same shows hears tell xs ys a b e h = subst (λ (zs : List ℕ). Tells shows hears (each tell zs) a b) e h
