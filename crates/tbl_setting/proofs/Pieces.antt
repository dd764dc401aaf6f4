-- What is said, what becomes of the table, and which strokes go out for it.
use Rattle.std.proofs.Common.{◌≡◌, ℕ, Bool, List, [], ◌∷◌, ◌++◌, ◌+◌, ◌<◌, drop, get_or, length, refl, sym, ap, subst, ◌∙◌, append_assoc, append-nil, if◌then◌else◌}
use Rattle.std.specs.Borrow.{MutBor}
use Rattle.std.proofs.lemmas.List.{drop_more}
use Rattle.nr_vectors.specs.Items.{Items}
use Rattle.tbl_reader.specs.declared.complaint.Complaint.{Complaint}
use Rattle.tbl_reader.specs.declared.telling.Tell.{Tell}
use Rattle.tbl_reader.specs.declared.telling.Tell.TheVariants as tells
use Rattle.tbl_reader.specs.Telling.{Piece, each, heard, said}
use Rattle.tbl_drawing.specs.declared.pen.Pen.{Pen}
use Rattle.tbl_setting.specs.declared.setting.Setting.{Setting}
use Rattle.tbl_drawing.proofs.Tapes.{draws_as, draws_same, draws_then}
use Rattle.tbl_drawing.specs.Pens.{Stroke, after_all, bytes_of}
use Rattle.tbl_drawing.specs.Tapes.{Tape, Draws}
use Rattle.tbl_setting.specs.Held.{page_heard}
use Rattle.tbl_setting.specs.Setting.{Becomes, IsSame, Keeps, Notes, Shown, Shows, block_added, block_byte, block_strokes, hears, line_set, relief, relieved, room_strokes, set, set_in, strokes, strokes_in, wrong_in, wrongs}

-- ---- what is known once pieces were heard

pub heard-said : (ps : List Piece) (s : Shown) → heard hears ps s ≡ record s { said = s.said ++ ps }
heard-said [] s = ap (λ l. record s { said = l }) (sym (append-nil s.said))
heard-said (p ∷ ps) s = heard-said ps (hears p s) ∙ ap (λ l. record s { said = l }) (append_assoc s.said (p ∷ []) ps)

pub wrongs-append : (ps qs : List Piece) (t : Setting) → wrongs (ps ++ qs) t ≡ wrongs ps t ++ wrongs qs (set ps t)
wrongs-append [] qs t = refl
wrongs-append (p ∷ ps) qs t =
    let u = set_in p.tell p.text t in
    ap (λ l. wrong_in p.tell t ++ l) (wrongs-append ps qs u) ∙ sym (append_assoc (wrong_in p.tell t) (wrongs ps u) (wrongs qs (set ps u)))

pub set-append : (ps qs : List Piece) (t : Setting) → set (ps ++ qs) t ≡ set qs (set ps t)
set-append [] qs t = refl
set-append (p ∷ ps) qs t = set-append ps qs (set_in p.tell p.text t)

pub strokes-append : (ps qs : List Piece) (t : Setting) → strokes (ps ++ qs) t ≡ strokes ps t ++ strokes qs (set ps t)
strokes-append [] qs t = refl
strokes-append (p ∷ ps) qs t =
    let u = set_in p.tell p.text t in
    ap (λ l. strokes_in p.tell p.text t ++ l) (strokes-append ps qs u) ∙ sym (append_assoc (strokes_in p.tell p.text t) (strokes ps u) (strokes qs (set ps u)))

-- something more was heard
shows_then : (a b : Tape) (table after : MutBor Setting) (old new : MutBor (Items Complaint)) (before missed : Bool) (ps : List Piece)
    → Draws a b (strokes ps table.now) → Becomes table after (set ps table.now) → Notes old new before missed (wrongs ps table.now)
    → (s : Shown) → Shows a table old before s → Shows b after new missed (heard hears ps s)
shows_then a b table after old new before missed ps draws becomes notes s h =
    let more : Draws a b (strokes ps (set s.said s.setting)) = subst (λ (t : Setting). Draws a b (strokes ps t)) h.setting_now draws in
    let all : (s.wrong ++ wrongs s.said s.setting) ++ wrongs ps table.now ≡ s.wrong ++ wrongs (s.said ++ ps) s.setting =
    append_assoc s.wrong (wrongs s.said s.setting) (wrongs ps table.now)
    ∙ ap (λ (t : Setting). s.wrong ++ (wrongs s.said s.setting ++ wrongs ps t)) h.setting_now
    ∙ ap (λ (l : List Complaint). s.wrong ++ l) (sym (wrongs-append s.said ps s.setting)) in
    subst (Shows b after new missed) (sym (heard-said ps s)) (record {
      draws = draws_same (draws_then h.draws more) (strokes-append s.said ps s.setting);
      setting_same = becomes.same ∙ h.setting_same;
      setting_now = becomes.now ∙ ap (set ps) h.setting_now ∙ sym (set-append s.said ps s.setting);
      setting_room = becomes.room ∙ h.setting_room;
      same = notes.same ∙ h.same;
      room = notes.room ∙ h.room;
      keeps = subst (λ (l : List Complaint). Keeps l new.now missed) all (notes.keeps (s.wrong ++ wrongs s.said s.setting) h.keeps);
    })

-- ---- what is said in one or more pieces

wrongs-each : (t : Tell) (text : List ℕ) → ((s : Setting) → wrong_in t s ≡ []) → (s : Setting) → wrongs (each t text) s ≡ []
wrongs-each t [] quiet s = refl
wrongs-each t (b ∷ bs) quiet s =
    let u = set_in t (b ∷ []) s in ap (λ l. l ++ wrongs (each t bs) u) (quiet s) ∙ wrongs-each t bs quiet u

pub wrongs-said : (t : Tell) (text : List ℕ) (s : Setting) → wrongs (said t text) s ≡ wrong_in t s
wrongs-said tells.Pass text s = wrongs-each tells.Pass text (λ u. refl) s
wrongs-said tells.BlockText text s = wrongs-each tells.BlockText text (λ u. refl) s
wrongs-said (tells.Table line) text s = refl
wrongs-said (tells.Options o) text s = refl
wrongs-said tells.Formats text s = refl
wrongs-said (tells.Format c) text s = refl
wrongs-said tells.FormatsEnd text s = refl
wrongs-said (tells.Field f) text s = refl
wrongs-said (tells.Mark m) text s = refl
wrongs-said tells.Block text s = refl
wrongs-said tells.BlockEnd text s = refl
wrongs-said tells.Row text s = refl
wrongs-said tells.Rule text s = refl
wrongs-said tells.Request text s = refl
wrongs-said tells.TableEnd text s = append-nil (wrong_in tells.TableEnd s)
wrongs-said tells.Plain text s = append-nil (wrong_in tells.Plain s)
wrongs-said tells.PlainEnd text s = refl
wrongs-said (tells.Wrong c) text s = append-nil (wrong_in (tells.Wrong c) s)

-- text that passes goes out as it is
pass-pen : (text : List ℕ) (t : Setting) (p : Pen) → after_all (strokes (each tells.Pass text) t) p ≡ p
pass-pen [] t p = refl
pass-pen (b ∷ bs) t p = pass-pen bs (page_heard (b ∷ []) t) p

pub pass-bytes : (text : List ℕ) (t : Setting) (p : Pen) → bytes_of (strokes (each tells.Pass text) t) p ≡ text ++ []
pass-bytes [] t p = refl
pass-bytes (b ∷ bs) t p = ap (λ l. b ∷ l) (pass-bytes bs (page_heard (b ∷ []) t) p)

-- and is heard
pub pass-set : (text : List ℕ) (t : Setting) → set (each tells.Pass text) t ≡ page_heard text t
pass-set [] t = refl
pass-set (b ∷ bs) t = pass-set bs (page_heard (b ∷ []) t)

block-set : (text : List ℕ) (t : Setting) → set (each tells.BlockText text) t ≡ block_added text t
block-set [] t = refl
block-set (b ∷ bs) t = block-set bs (block_byte b t)

block-drawn : (text : List ℕ) (t : Setting) → strokes (each tells.BlockText text) t ≡ block_strokes text t
block-drawn [] t = refl
block-drawn (b ∷ bs) t =
    ap (λ l. l ++ strokes (each tells.BlockText bs) (block_byte b t)) (append-nil (room_strokes t)) ∙ ap (λ l. room_strokes t ++ l) (block-drawn bs (block_byte b t))

pub said-set : (tell : Tell) (text : List ℕ) (t : Setting) → set (said tell text) t ≡ set_in tell text t
said-set tells.Pass text t = pass-set text t
said-set tells.BlockText text t = block-set text t
said-set (tells.Table line) text t = refl
said-set (tells.Options o) text t = refl
said-set tells.Formats text t = refl
said-set (tells.Format c) text t = refl
said-set tells.FormatsEnd text t = refl
said-set (tells.Field f) text t = refl
said-set (tells.Mark m) text t = refl
said-set tells.Block text t = refl
said-set tells.BlockEnd text t = refl
said-set tells.Row text t = refl
said-set tells.Rule text t = refl
said-set tells.Request text t = refl
said-set tells.TableEnd text t = refl
said-set tells.Plain text t = refl
said-set tells.PlainEnd text t = refl
said-set (tells.Wrong c) text t = refl

pub said-drawn : {a b : Tape} (tell : Tell) (text : List ℕ) (t : Setting) → Draws a b (strokes_in tell text t) → Draws a b (strokes (said tell text) t)
said-drawn {a} tells.Pass text t d = draws_as (strokes (each tells.Pass text) t) d (pass-pen text t a.pen) (pass-bytes text t a.pen)
said-drawn tells.BlockText text t d = draws_same d (block-drawn text t)
said-drawn (tells.Table line) text t d = draws_same d (append-nil (strokes_in (tells.Table line) text t))
said-drawn (tells.Options o) text t d = draws_same d (append-nil (strokes_in (tells.Options o) text t))
said-drawn tells.Formats text t d = draws_same d (append-nil (strokes_in tells.Formats text t))
said-drawn (tells.Format c) text t d = draws_same d (append-nil (strokes_in (tells.Format c) text t))
said-drawn tells.FormatsEnd text t d = draws_same d (append-nil (strokes_in tells.FormatsEnd text t))
said-drawn (tells.Field f) text t d = draws_same d (append-nil (strokes_in (tells.Field f) text t))
said-drawn (tells.Mark m) text t d = draws_same d (append-nil (strokes_in (tells.Mark m) text t))
said-drawn tells.Block text t d = draws_same d (append-nil (strokes_in tells.Block text t))
said-drawn tells.BlockEnd text t d = draws_same d (append-nil (strokes_in tells.BlockEnd text t))
said-drawn tells.Row text t d = draws_same d (append-nil (strokes_in tells.Row text t))
said-drawn tells.Rule text t d = draws_same d (append-nil (strokes_in tells.Rule text t))
said-drawn tells.Request text t d = draws_same d (append-nil (strokes_in tells.Request text t))
said-drawn tells.TableEnd text t d = draws_same d (append-nil (strokes_in tells.TableEnd text t))
said-drawn tells.Plain text t d = draws_same d (append-nil (strokes_in tells.Plain text t))
said-drawn tells.PlainEnd text t d = draws_same d (append-nil (strokes_in tells.PlainEnd text t))
said-drawn (tells.Wrong c) text t d = draws_same d (append-nil (strokes_in (tells.Wrong c) text t))

pub tells_said : (a b : Tape) (table after : MutBor Setting) (old new : MutBor (Items Complaint)) (before missed : Bool) (tell : Tell) (text : List ℕ)
    → Draws a b (strokes_in tell text table.now) → Becomes table after (set_in tell text table.now) → Notes old new before missed (wrong_in tell table.now)
    → (s : Shown) → Shows a table old before s → Shows b after new missed (heard hears (said tell text) s)
tells_said a b table after old new before missed tell text draws becomes notes =
    shows_then a b table after old new before missed (said tell text) (said-drawn tell text table.now draws)
    (subst (Becomes table after) (sym (said-set tell text table.now)) becomes)
    (subst (Notes old new before missed) (sym (wrongs-said tell text table.now)) notes)

-- by what is said
pub drawn_for : {a b : Tape} (tell is : Tell) (text : List ℕ) (t : Setting) → tell ≡ is → Draws a b (strokes_in is text t) → Draws a b (strokes_in tell text t)
drawn_for {a} {b} tell is text t same d = subst (λ k. Draws a b (strokes_in k text t)) (sym same) d

pub becomes_for : (old new : MutBor Setting) (tell is : Tell) (text : List ℕ) (t : Setting) → tell ≡ is → Becomes old new (set_in is text t)
    → Becomes old new (set_in tell text t)
becomes_for old new tell is text t same becomes = subst (λ (k : Tell). Becomes old new (set_in k text t)) (sym same) becomes

-- a row, a rule or a request
pub line_drawn : {a b : Tape} (tell is : Tell) (text : List ℕ) (t : Setting) → tell ≡ is → strokes_in is text t ≡ relief (line_set is text t)
    → Draws a b (relief (line_set tell text t)) → Draws a b (strokes_in tell text t)
line_drawn {a} {b} tell is text t same comes d =
    drawn_for tell is text t same (draws_same (subst (λ (k : Tell). Draws a b (relief (line_set k text t))) same d) comes)

pub line_becomes : (old new : MutBor Setting) (tell is : Tell) (text : List ℕ) (t : Setting) → tell ≡ is → set_in is text t ≡ relieved (line_set is text t)
    → Becomes old new (relieved (line_set tell text t)) → Becomes old new (set_in tell text t)
line_becomes old new tell is text t same comes become =
    subst (λ (k : Tell). Becomes old new (set_in k text t)) (sym same)
    (subst (Becomes old new) (sym comes) (subst (λ (k : Tell). Becomes old new (relieved (line_set k text t))) same become))

-- where nothing is wrong nothing is reported
pub nothing_reported : {old new : MutBor (Items Complaint)} {before missed : Bool} → IsSame old before new missed → Notes old new before missed []
nothing_reported {old} {new} {before} {missed} (stays, none) = record {
  same = ap (λ (b : MutBor (Items Complaint)). b.ghost_name) stays;
  room = ap (λ (b : MutBor (Items Complaint)). b.now.capacity) stays;
  keeps = λ all kept. subst (λ (l : List Complaint). Keeps l new.now missed) (sym (append-nil all))
      (subst (λ (m : Bool). Keeps all new.now m) (sym none)
      (subst (λ (b : MutBor (Items Complaint)). Keeps all b.now before) (sym stays) kept));
}

pub reported_as : {old new : MutBor (Items Complaint)} {before missed : Bool} {more all : List Complaint} → more ≡ all
    → Notes old new before missed more → Notes old new before missed all
reported_as {old} {new} {before} {missed} same notes = subst (λ (l : List Complaint). Notes old new before missed l) same notes

pub chosen_reported : {old new : MutBor (Items Complaint)} {before missed : Bool} (x y : Bool) (first second : List Complaint) → y ≡ x
    → Notes old new before missed (if x then first else second) → Notes old new before missed (if y then first else second)
chosen_reported {old} {new} {before} {missed} x y first second is notes =
    subst (λ (z : Bool). Notes old new before missed (if z then first else second)) (sym is) notes

pub reported_for : {old new : MutBor (Items Complaint)} {before missed : Bool} (tell is : Tell) (t : Setting) → tell ≡ is
    → Notes old new before missed (wrong_in is t) → Notes old new before missed (wrong_in tell t)
reported_for {old} {new} {before} {missed} tell is t same notes = subst (λ (k : Tell). Notes old new before missed (wrong_in k t)) (sym same) notes

pub line_reported : {old new : MutBor (Items Complaint)} {before missed : Bool} (tell is : Tell) (t : Setting) → tell ≡ is → wrong_in is t ≡ []
    → IsSame old before new missed → Notes old new before missed (wrong_in tell t)
line_reported {old} {new} {before} {missed} tell is t same none stays =
    reported_for tell is t same (subst (λ (l : List Complaint). Notes old new before missed l) (sym none) (nothing_reported stays))

-- ---- one byte more of a block

one_drawn : (drawn : List Stroke) (b : ℕ) (bs : List ℕ) (t u : Setting) → u ≡ block_byte b t
    → (drawn ++ room_strokes t) ++ block_strokes bs u ≡ drawn ++ block_strokes (b ∷ bs) t
one_drawn drawn b bs t u is =
    append_assoc drawn (room_strokes t) (block_strokes bs u) ∙ ap (λ (v : Setting). drawn ++ (room_strokes t ++ block_strokes bs v)) is

pub block_more : (text : List ℕ) (n : ℕ) (t u : Setting) (drawn all : List Stroke) → n < length text → u ≡ block_byte (get_or text n 0) t
    → drawn ++ block_strokes (drop n text) t ≡ all → (drawn ++ room_strokes t) ++ block_strokes (drop (n + 1) text) u ≡ all
block_more text n t u drawn all within is so_far =
    one_drawn drawn (get_or text n 0) (drop (n + 1) text) t u is
    ∙ ap (λ (l : List ℕ). drawn ++ block_strokes l t) (sym (drop_more text n 0 within))
    ∙ so_far

pub block_further : (text : List ℕ) (n : ℕ) (t u all : Setting) → n < length text → u ≡ block_byte (get_or text n 0) t
    → block_added (drop n text) t ≡ all → block_added (drop (n + 1) text) u ≡ all
block_further text n t u all within is so_far =
    ap (λ (v : Setting). block_added (drop (n + 1) text) v) is
    ∙ ap (λ (l : List ℕ). block_added l t) (sym (drop_more text n 0 within))
    ∙ so_far
