-- What comes next of a page was read and set, after other parts of it.
use Rattle.std.proofs.Common.{◌≡◌, ℕ, Bool, false, List, [], ◌∷◌, ◌++◌, Option, refl, sym, ap, subst, ◌∙◌, append-nil, inl, inr}
use Rattle.std.specs.Borrow.{MutBor}
use Rattle.nr_units.specs.Failures.{SinkFailures, put_counted_if}
use Rattle.nr_vectors.specs.Items.{Items}
use Rattle.tbl_setting.specs.declared.setting.Setting.{Setting}
use Rattle.tbl_setting.specs.Held.{emptied}
use Rattle.tbl_drawing.specs.Pens.{Bytes}
use Rattle.tbl_drawing.specs.Tapes.{Tape, Sends, Draws, failed_since}
use Rattle.tbl_drawing.proofs.Tapes.{draws_nothing, sends_then}
use Rattle.tbl_reader.specs.declared.complaint.Complaint.{Complaint}
use Rattle.tbl_reader.specs.declared.running.ReadEnd.{ReadEnd}
use Rattle.tbl_reader.specs.Telling.{Piece, heard}
use Rattle.tbl_setting.specs.Setting.{EndsAs, IsSame, Keeps, KeepsMore, Shown, Shows, first_tape, hears, set, wrongs}
use Rattle.tbl_setting.specs.Stepping.{AreKept, Sent, pieces_bytes}
use Rattle.tbl_setting.proofs.Runs.{prefix_out, lent, went_out}
use Rattle.tbl_setting.proofs.Pieces.{heard-said}

-- ---- one who has heard nothing since these complaints were reported

noting : List Complaint → Tape → MutBor Setting → MutBor (Items Complaint) → Shown
noting all out table kept = record (lent out table kept) { wrong = all }

begins : (all : List Complaint) (out : Tape) (table : MutBor Setting) (kept : MutBor (Items Complaint)) (missed : Bool)
    → out ≡ first_tape out.held out.failures → Keeps all kept.now missed → Shows out table kept missed (noting all out table kept)
unfolding noting
begins all out table kept missed same keeps = record {
  draws = subst (λ t. Draws (first_tape out.held out.failures) t []) (sym same) (draws_nothing (first_tape out.held out.failures));
  setting_same = refl;
  setting_now = refl;
  setting_room = refl;
  same = refl;
  room = refl;
  keeps = subst (λ (l : List Complaint). Keeps l kept.now missed) (sym (append-nil all)) keeps;
}

-- ---- and then these pieces

sent_so : (wanted o : ReadEnd) (bytes : List ℕ) (held : Option (List ℕ)) (failures : SinkFailures) (b : Tape)
    → Sends (first_tape held failures) b bytes → EndsAs wanted o b → Sent bytes held b.held failures b.failures
sent_so wanted o bytes held failures b sends (inl (same, live, empty)) =
    inl (
      went_out b.failed held b.held b.pending bytes sends.sends live empty,
      sends.failures ∙ ap (λ (f : Bool). put_counted_if (failed_since false f) failures) live,
    )
sent_so wanted o bytes held failures b sends (inr (same, fails)) =
    inr (
      prefix_out b.failed held b.held b.pending bytes sends.sends,
      sends.failures ∙ ap (λ (f : Bool). put_counted_if (failed_since false f) failures) fails,
    )

module _ (ps : List Piece) (out a b : Tape) (table table' table'' : MutBor Setting) (kept kept' kept'' : MutBor (Items Complaint)) (missed missed' missed'' : Bool)
    (wanted o : ReadEnd)
    (fresh : out ≡ first_tape out.held out.failures)
    (emitted : (s : Shown) → Shows out table kept missed s → Shows a table' kept' missed' (heard hears ps s))
    (flushed : Draws a b (Bytes [] ∷ []))
    (here : table'' ≡ table')
    (same : IsSame kept' missed' kept'' missed'')
    (ends : EndsAs wanted o b) where
  shown : (all : List Complaint) → Keeps all kept.now missed → Shows a table' kept' missed' (record (lent out table kept) { wrong = all; said = ps })
  unfolding noting
  shown all keeps = subst (Shows a table' kept' missed') (heard-said ps (noting all out table kept)) (emitted (noting all out table kept) (begins all out table kept missed fresh keeps))

  more : KeepsMore kept.now missed kept''.now missed'' (wrongs ps table.now)
  more all keeps =
      let k : Keeps (all ++ wrongs ps table.now) kept'.now missed' = (shown all keeps).keeps in
      subst (λ (m : Bool). Keeps (all ++ wrongs ps table.now) kept''.now m) (sym same.1)
      (subst (λ (x : MutBor (Items Complaint)). Keeps (all ++ wrongs ps table.now) x.now missed') (sym same.0) k)

  drawn : (all : List Complaint) → Keeps all kept.now missed → Sends (first_tape out.held out.failures) b (pieces_bytes ps table.now)
  drawn all keeps =
      subst (Sends (first_tape out.held out.failures) b) (append-nil (pieces_bytes ps table.now)) (sends_then (shown all keeps).draws.sends flushed.sends)

  set_so : (all : List Complaint) → Keeps all kept.now missed → table''.now ≡ set ps table.now
  set_so all keeps = ap (λ (x : MutBor Setting). x.now) here ∙ (shown all keeps).setting_now

-- what a step comes to
pub record StepsTo (ps : List Piece) (out b : Tape) (table table' : MutBor Setting) (kept kept' : MutBor (Items Complaint)) (missed missed' : Bool) : Type 0 where
  pub sent : Sent (pieces_bytes ps table.now) out.held b.held out.failures b.failures
  pub keeps : KeepsMore kept.now missed kept'.now missed' (wrongs ps table.now)
  pub setting_same : table'.ghost_name ≡ table.ghost_name
  pub setting_now : table'.now ≡ set ps table.now
  pub setting_room : emptied table'.now ≡ emptied table.now
  pub same : kept'.ghost_name ≡ kept.ghost_name
  pub room : kept'.now.capacity ≡ kept.now.capacity

pub steps_to : (ps : List Piece) (out a b : Tape) (table table' table'' : MutBor Setting) (kept kept' kept'' : MutBor (Items Complaint)) (missed missed' missed'' : Bool)
    (wanted o : ReadEnd)
    → out ≡ first_tape out.held out.failures
    → ((s : Shown) → Shows out table kept missed s → Shows a table' kept' missed' (heard hears ps s))
    → Draws a b (Bytes [] ∷ []) → table'' ≡ table' → IsSame kept' missed' kept'' missed'' → EndsAs wanted o b
    → AreKept kept.now missed → StepsTo ps out b table table'' kept kept'' missed missed''
steps_to ps out a b table table' table'' kept kept' kept'' missed missed' missed'' wanted o fresh emitted flushed here same ends (all, keeps) =
    let h = shown ps out a b table table' table'' kept kept' kept'' missed missed' missed'' wanted o fresh emitted flushed here same ends all keeps in
    record {
      sent = sent_so wanted o (pieces_bytes ps table.now) out.held out.failures b (drawn ps out a b table table' table'' kept kept' kept'' missed missed' missed'' wanted o fresh emitted flushed here same ends all keeps) ends;
      keeps = more ps out a b table table' table'' kept kept' kept'' missed missed' missed'' wanted o fresh emitted flushed here same ends;
      setting_same = ap (λ (x : MutBor Setting). x.ghost_name) here ∙ h.setting_same;
      setting_now = set_so ps out a b table table' table'' kept kept' kept'' missed missed' missed'' wanted o fresh emitted flushed here same ends all keeps;
      setting_room = ap (λ (x : MutBor Setting). emptied x.now) here ∙ h.setting_room;
      same = ap (λ (x : MutBor (Items Complaint)). x.ghost_name) same.0 ∙ h.same;
      room = ap (λ (x : MutBor (Items Complaint)). x.now.capacity) same.0 ∙ h.room;
    }
