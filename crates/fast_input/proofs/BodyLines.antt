-- Lines of a definition, part by part, as moves of the machine that reads and what they cost.
use Prim.Native.Char.{code}
use Rattle.std.specs.Prelude.{map, drop, take, slice_index}
use Rattle.std.proofs.Common.{◌≡◌, ◌≢◌, ℕ, zero, suc, ◌+◌, ◌-◌, ◌*◌, ◌<◌, ◌≤◌, ◌==◌, Bool, true, false, List, [], ◌∷◌, ◌++◌, length, Some, Ok, inl, inr, All, refl, ap, sym, ◌∙◌, subst, length-drop, arith}
use Rattle.std.proofs.lemmas.Bool.{cases_Bool, cases_lt, cond-false, le-ltb, eqb-true}
use Rattle.std.proofs.lemmas.List.{get_or-drop, get_or-take, length-map, length-take, take_all}
use Rattle.nr_store.specs.Store.{Stored, charge_of}
use Rattle.nr_store.specs.declared.element.Element.TheVariants as elements
use Rattle.nr_reading.specs.declared.event.Event.TheVariants as events
use Rattle.nr_reading.specs.declared.half.Half.{Half}
use Rattle.nr_reading.specs.declared.mode.PendingAct.TheVariants as pending_acts
use Rattle.nr_reading.specs.declared.mode.Mode.{Mode}
use Rattle.nr_reading.specs.declared.mode.Mode.TheVariants as modes
use Rattle.nr_reading.specs.Definitions.{last_line, in_body}
use Rattle.nr_reading.specs.Many.InArgument.{IsPlain}
use Rattle.nr_input.specs.declared.reader.Reader.{Reader}
use Rattle.fast_input.specs.declared.target.Target.TheVariants.{Text}
use Rattle.nr_input.specs.Acting.{act, next}
use Rattle.fast_input.specs.BodyLines.{is_in_body, IsLine, IsOwn, IsPart}
use Rattle.fast_input.specs.MacroLines.{ReadsOn}
use Rattle.nr_input.specs.Refusal.{called, acted, acted_by, storing_by, storing_answer}
use Rattle.fast_input.specs.Target.{with_more}
use Rattle.fast_input.proofs.BodyBytes.{line_mode, in_body-is, in_line, own_taken_in, other_taken_in, escape_taken_in}
use Rattle.fast_input.proofs.MacroBytes.{half_in, is_half_in}
use Rattle.fast_input.proofs.MacroLines.{reads_then, reads_still, reads_none, reads_taken_in, reads_pending}
use Rattle.fast_input.proofs.PuttingRead.{plain_at}
use Rattle.fast_input.proofs.Targets.{diversions-with_more, with_more-none, with_more-more, with_more-next, charge_of-some, charge_of-le, longer-bound}

-- whether a line begins after so many bytes
abbrev begins_after : List ℕ → Bool → ℕ → Bool
begins_after bs x zero = x
begins_after bs x (suc k) = slice_index bs k == code "\n"

-- the reader in a line, or at its beginning
abbrev in_line_at : Reader → Bool → Reader
in_line_at r x = record r { half = half_in (line_mode x) r.half }

-- the reader in the mode after this byte
abbrev reader_after : Reader → ℕ → Reader
reader_after r b = record r { half = record r.half { reading = record r.half.reading { mode = in_body b } } }

module _ {K : Type 0} (r : Reader) where
  -- ---- a byte that is to be added

  -- it may be stored
  allowed : (w : Stored K) → charge_of w ≤ w.limit → storing_answer w ≡ Ok tt
  allowed w fits = ap storing_by (cond-false _ _ _ (le-ltb w.limit (charge_of w) fits))

  add_reads : (bs : List ℕ) (b : ℕ) (u : Stored K) (k : Half) → charge_of (with_more Text (b ∷ []) u) ≤ u.limit
      → ReadsOn 1 0 bs u (record r { half = next (pending_acts.Add b) k }) (with_more Text (b ∷ []) u) (record r { half = next pending_acts.Look k })
  add_reads bs b u k fits =
      let w = with_more Text (b ∷ []) u in
      let before = record r { half = next (pending_acts.Add b) k } in
      let after = record r { half = next pending_acts.Look k } in
      let is : called w after (Ok events.Nothing) ≡ acted (pending_acts.Add b) u before = sym (ap (λ x. acted_by x (act (pending_acts.Add b) u before) u before) (allowed w fits)) in
      reads_pending bs u w before after refl is refl refl (diversions-with_more Text (b ∷ []) u) refl

  -- a dot that was held back, after which this byte is pending
  release_reads : (bs : List ℕ) (b : ℕ) (u : Stored K) (k : Half) → charge_of (with_more Text (code "." ∷ []) u) ≤ u.limit
      → ReadsOn 1 0 bs u (record r { half = next (pending_acts.Release 1 0 (Some b)) k }) (with_more Text (code "." ∷ []) u) (record r { half = next (pending_acts.Add b) k })
  release_reads bs b u k fits =
      let w = with_more Text (code "." ∷ []) u in
      let before = record r { half = next (pending_acts.Release 1 0 (Some b)) k } in
      let after = record r { half = next (pending_acts.Add b) k } in
      let is : called w after (Ok events.Nothing) ≡ acted (pending_acts.Release 1 0 (Some b)) u before = sym (ap (λ x. acted_by x (act (pending_acts.Release 1 0 (Some b)) u before) u before) (allowed w fits)) in
      reads_pending bs u w before after refl is refl refl (diversions-with_more Text (code "." ∷ []) u) refl

  module _ (keeps : r.half.notes.defining.keeps ≡ true) (bs : List ℕ) (u : Stored K) where
    own_reads : (x : Bool) (b : ℕ) → 0 < length bs → slice_index bs 0 ≡ b → b ≢ code "\\" → (x ≡ true → b ≢ code ".") → charge_of (with_more Text (b ∷ []) u) ≤ u.limit
        → ReadsOn 2 1 bs u (in_line_at r x) (with_more Text (b ∷ []) u) (in_line_at r (b == code "\n"))
    own_reads x b some is apart other fits =
        let k = half_in (line_mode (b == code "\n")) r.half in
        reads_still 1 1 1 bs u u (with_more Text (b ∷ []) u) (in_line_at r x) (record r { half = next (pending_acts.Add b) k }) (in_line_at r (b == code "\n"))
        (reads_taken_in 1 1 bs u (in_line_at r x) (next (pending_acts.Add b) k) (own_taken_in bs r.half keeps x b some is apart other)) (add_reads (drop 1 bs) b u k fits)

    other_reads : (b : ℕ) → 1 < length bs → slice_index bs 0 ≡ code "." → slice_index bs 1 ≡ b → b ≢ code "\\" → b ≢ slice_index (last_line r.half.notes.defining) 1
        → charge_of (with_more Text (code "." ∷ []) u) ≤ u.limit → charge_of (with_more Text (b ∷ []) (with_more Text (code "." ∷ []) u)) ≤ u.limit
        → ReadsOn 4 2 bs u (in_line_at r true) (with_more Text (b ∷ []) (with_more Text (code "." ∷ []) u)) (in_line_at r (b == code "\n"))
    other_reads b some first is apart other fits both_fit =
        let k = half_in (line_mode (b == code "\n")) r.half in
        let one = with_more Text (code "." ∷ []) u in
        let held = record r { half = next (pending_acts.Release 1 0 (Some b)) k } in
        let pending_act = record r { half = next (pending_acts.Add b) k } in
        reads_still 3 1 2 bs u one (with_more Text (b ∷ []) one) (in_line_at r true) pending_act (in_line_at r (b == code "\n"))
        (reads_still 2 1 2 bs u u one (in_line_at r true) held pending_act
        (reads_taken_in 2 2 bs u (in_line_at r true) (next (pending_acts.Release 1 0 (Some b)) k) (other_taken_in bs r.half keeps b some first is apart other)) (release_reads (drop 2 bs) b u k fits))
        (add_reads (drop 2 bs) b one k both_fit)

    escape_reads : (x : Bool) → 1 < length bs → slice_index bs 0 ≡ code "\\" → slice_index bs 1 ≡ code "\\" → charge_of (with_more Text (code "\\" ∷ []) u) ≤ u.limit
        → ReadsOn 3 2 bs u (in_line_at r x) (with_more Text (code "\\" ∷ []) u) (in_line_at r false)
    escape_reads x some first second fits =
        let k = half_in modes.Body r.half in
        reads_still 2 1 2 bs u u (with_more Text (code "\\" ∷ []) u) (in_line_at r x) (record r { half = next (pending_acts.Add (code "\\")) k }) (in_line_at r false)
        (reads_taken_in 2 2 bs u (in_line_at r x) (next (pending_acts.Add (code "\\")) k) (escape_taken_in bs r.half keeps x some first second)) (add_reads (drop 2 bs) (code "\\") u k fits)

  -- ---- the bytes of a line, one after another

  module _ (keeps : r.half.notes.defining.keeps ≡ true) (n : ℕ) (bs : List ℕ) (v : Stored K) (within : n ≤ length bs) (escape : (k : ℕ) → k < n → slice_index bs k ≢ code "\\") (line : (k : ℕ) → suc k < n → slice_index bs k ≢ code "\n")
      (fits : charge_of (with_more Text (take n bs) v) ≤ v.limit) where
    -- so many were added
    abbrev stored : ℕ → Stored K
    stored k = with_more Text (take k bs) v

    abbrev ReadsTo : Bool → ℕ → Type 0
    ReadsTo x k = ReadsOn (2 * k) k bs v (in_line_at r x) (stored k) (in_line_at r (begins_after bs x k))

    next_byte : (k : ℕ) → slice_index (drop k bs) 0 ≡ slice_index bs k
    next_byte k = get_or-drop k bs 0 0 ∙ (let same : k + 0 ≡ k = omega arith in ap (slice_index bs) same)

    one_fits : (k : ℕ) → k < n → charge_of (with_more Text (slice_index bs k ∷ []) (stored k)) ≤ (stored k).limit
    one_fits k below = charge_of-some Text k n bs v below within fits

    none_read : (x : Bool) → ReadsTo x 0
    none_read x = reads_none bs v (stored 0) (in_line_at r x) (in_line_at r x) (with_more-none Text v) refl

    one_more : (x y : Bool) (k : ℕ) → k < n → (y ≡ true → slice_index bs k ≢ code ".") → ReadsOn (2 * k) k bs v (in_line_at r x) (stored k) (in_line_at r y)
        → ReadsOn (2 * suc k) (suc k) bs v (in_line_at r x) (stored (suc k)) (in_line_at r (slice_index bs k == code "\n"))
    one_more x y k below other so_far =
        let b = slice_index bs k in
        let moves : 2 * k + 2 ≡ 2 * suc k = omega arith in
        let more : k + 1 ≡ suc k = omega arith in
        subst (λ j. ReadsOn j (suc k) bs v (in_line_at r x) (stored (suc k)) (in_line_at r (b == code "\n"))) moves
        (subst (λ j. ReadsOn (2 * k + 2) j bs v (in_line_at r x) (stored (suc k)) (in_line_at r (b == code "\n"))) more
        (subst (λ (w : Stored K). ReadsOn (2 * k + 2) (k + 1) bs v (in_line_at r x) w (in_line_at r (b == code "\n"))) (with_more-next Text k bs v (omega (arith, below, within)))
        (reads_then (2 * k) 2 k 1 bs v (stored k) (with_more Text (b ∷ []) (stored k)) (in_line_at r x) (in_line_at r y) (in_line_at r (b == code "\n")) so_far
        (own_reads keeps (drop k bs) (stored k) y b (omega (arith, below, within, length-drop k bs)) (next_byte k) (escape k below) other (one_fits k below)))))

    -- after a byte that is not the last no line begins
    still : (x : Bool) (k : ℕ) → suc k < n → begins_after bs x (suc k) ≡ true → slice_index bs (suc k) ≢ code "."
    still x k below is = absurd (line k below (eqb-true (slice_index bs k) (code "\n") is))

    plain_read : (x : Bool) (k : ℕ) → k ≤ n → (x ≡ true → 0 < n → slice_index bs 0 ≢ code ".") → ReadsTo x k
    plain_read x zero few other = none_read x
    plain_read x (suc zero) few other = one_more x x 0 (omega (arith, few)) (λ is. other is (omega (arith, few))) (none_read x)
    plain_read x (suc (suc k)) few other = one_more x (begins_after bs x (suc k)) (suc k) (omega (arith, few)) (still x k (omega (arith, few))) (plain_read x (suc k) (omega (arith, few)) other)

    -- after a dot and another byte
    dot_read : (k : ℕ) → suc (suc k) ≤ n → slice_index bs 0 ≡ code "." → slice_index bs 1 ≢ slice_index (last_line r.half.notes.defining) 1 → ReadsTo true (suc (suc k))
    dot_read zero few first other =
        let b = slice_index bs 1 in
        let one : with_more Text (code "." ∷ []) v ≡ stored 1 =
        ap (λ c. with_more Text (c ∷ []) v) (sym first) ∙ ap (λ (w : Stored K). with_more Text (slice_index bs 0 ∷ []) w) (sym (with_more-none Text v)) ∙ with_more-next Text 0 bs v (omega (arith, few, within)) in
        let two : with_more Text (b ∷ []) (with_more Text (code "." ∷ []) v) ≡ stored 2 = ap (λ (w : Stored K). with_more Text (b ∷ []) w) one ∙ with_more-next Text 1 bs v (omega (arith, few, within)) in
        let first_fits : charge_of (with_more Text (code "." ∷ []) v) ≤ v.limit =
        subst (λ (w : Stored K). charge_of w ≤ v.limit) (sym one) (subst (λ (w : Stored K). charge_of w ≤ v.limit) (with_more-next Text 0 bs v (omega (arith, few, within))) (one_fits 0 (omega (arith, few)))) in
        let both_fit : charge_of (with_more Text (b ∷ []) (with_more Text (code "." ∷ []) v)) ≤ v.limit = subst (λ (w : Stored K). charge_of (with_more Text (b ∷ []) w) ≤ v.limit) (sym one) (one_fits 1 (omega (arith, few))) in
        subst (λ (w : Stored K). ReadsOn 4 2 bs v (in_line_at r true) w (in_line_at r (b == code "\n"))) two
        (other_reads keeps bs v b (omega (arith, few, within)) first refl (escape 1 (omega (arith, few))) other first_fits both_fit)
    dot_read (suc k) few first other = one_more true (begins_after bs true (suc (suc k))) (suc (suc k)) (omega (arith, few)) (still true (suc k) (omega (arith, few))) (dot_read k (omega (arith, few)) first other)

    line_read : (x : Bool) → (x ≡ true → 0 < n → slice_index bs 0 ≡ code "." → (1 < n) × (slice_index bs 1 ≢ slice_index (last_line r.half.notes.defining) 1)) → ReadsTo x n
    line_read false begins = plain_read false n (omega arith) (λ is some dot. let wrong : false ≡ true = is in cc)
    line_read true begins = elim (cases_Bool (slice_index bs 0 == code ".")) [
      | inl is ↦ dotted n refl (eqb-true (slice_index bs 0) (code ".") is)
      | inr apart ↦ plain_read true n (omega arith) (λ is some dot. let wrong : false ≡ true = sym apart ∙ ap (λ b. b == code ".") dot in cc)
    ]
      where
        dotted : (m : ℕ) → n ≡ m → slice_index bs 0 ≡ code "." → ReadsTo true n
        dotted zero is first = subst (λ k. ReadsTo true k) (sym is) (none_read true)
        dotted (suc zero) is first = absurd (let two = begins refl (omega (arith, is)) first in let more = two.0 in omega (arith, is, more))
        dotted (suc (suc k)) is first = let two = begins refl (omega (arith, is)) first in subst (λ j. ReadsTo true j) (sym is) (dot_read k (omega (arith, is)) first two.1)

  -- ---- a part of a line

  module _ (bs : List ℕ) (v w : Stored K) (own : ℕ) (body : is_in_body r.half ≡ true) (is_own : IsOwn own bs r.half.reading.mode r.half.notes.defining) where
    abbrev x : Bool
    x = (in_line r.half body).begins

    stands : r ≡ in_line_at r x
    stands = let i = in_line r.half body in ap (λ (h : Half). record r { half = h }) (is_half_in (line_mode x) r.half i.mode i.idle)

    after_is : (b : ℕ) → reader_after r b ≡ in_line_at r (b == code "\n")
    after_is b =
        let i = in_line r.half body in
        ap (λ (h : Half). record r { half = record h { reading = record h.reading { mode = in_body b } } }) (is_half_in (line_mode x) r.half i.mode i.idle)
        ∙ ap (λ (m : Mode). record r { half = half_in m r.half }) (in_body-is b)

    own_read : charge_of (with_more Text (take own bs) v) ≤ v.limit → ReadsOn (2 * own) own bs v (in_line_at r x) (with_more Text (take own bs) v) (in_line_at r (begins_after bs x own))
    own_read fits =
        let i = in_line r.half body in
        let text = is_own.text in
        let long : 0 < own → 0 < length (take own bs) = λ some. let within = text.within in omega (arith, some, within, length-take own bs) in
        line_read i.keeps own bs v text.within text.escape text.line fits x (λ begins some dot.
        let other = is_own.begins (i.mode ∙ ap line_mode begins) (long some) (get_or-take own bs 0 0 some ∙ dot) in
        let more = other.some in
        let two : 1 < own = omega (arith, more, length-take own bs) in
        (two, λ same. other.other (get_or-take own bs 1 0 two ∙ same)))

    read_plain : (j : ℕ) → own ≡ suc j → w ≡ with_more Text (take own bs) v → charge_of w ≤ w.limit → ReadsOn (2 * own) own bs v r w (reader_after r (slice_index bs j))
    read_plain j is added fits =
        let all = own_read (subst (λ (u : Stored K). charge_of u ≤ u.limit) added fits) in
        let ends : in_line_at r (begins_after bs x own) ≡ reader_after r (slice_index bs j) = ap (λ k. in_line_at r (begins_after bs x k)) is ∙ sym (after_is (slice_index bs j)) in
        subst (λ (q : Reader). ReadsOn (2 * own) own bs v q w (reader_after r (slice_index bs j))) (sym stands)
        (subst (λ (u : Stored K). ReadsOn (2 * own) own bs v (in_line_at r x) u (reader_after r (slice_index bs j))) (sym added)
        (subst (λ (q : Reader). ReadsOn (2 * own) own bs v (in_line_at r x) (with_more Text (take own bs) v) q) ends all))

    read_escaped : own + 1 < length bs → slice_index bs own ≡ code "\\" → slice_index bs (own + 1) ≡ code "\\" → w ≡ with_more Text (take (suc own) bs) v → charge_of w ≤ w.limit → ReadsOn (2 * own + 3) (own + 2) bs v r w (reader_after r (code "\\"))
    read_escaped some first second added fits =
        let i = in_line r.half body in
        let y = begins_after bs x own in
        let u = with_more Text (take own bs) v in
        let all_fit : charge_of (with_more Text (take (suc own) bs) v) ≤ v.limit = subst (λ (o : Stored K). charge_of o ≤ o.limit) added fits in
        let fewer : length (take own bs) ≤ length (take (suc own) bs) = omega (arith, some, length-take own bs, length-take (suc own) bs) in
        let less = charge_of-le Text (take own bs) (take (suc own) bs) v fewer in
        let so_far = own_read (omega (arith, less, all_fit)) in
        let more : with_more Text (slice_index bs own ∷ []) u ≡ with_more Text (take (suc own) bs) v = with_more-next Text own bs v (omega (arith, some)) in
        let escaped : with_more Text (code "\\" ∷ []) u ≡ w = ap (λ b. with_more Text (b ∷ []) u) (sym first) ∙ more ∙ sym added in
        let one_fits : charge_of (with_more Text (code "\\" ∷ []) u) ≤ u.limit = subst (λ (o : Stored K). charge_of o ≤ v.limit) (sym (ap (λ b. with_more Text (b ∷ []) u) (sym first) ∙ more)) all_fit in
        let zero_on : own + 0 ≡ own = omega arith in
        let there = get_or-drop own bs 0 0 ∙ ap (slice_index bs) zero_on ∙ first in
        let afterwards = get_or-drop own bs 1 0 ∙ second in
        let escape = escape_reads i.keeps (drop own bs) u y (omega (arith, some, length-drop own bs)) there afterwards one_fits in
        subst (λ (q : Reader). ReadsOn (2 * own + 3) (own + 2) bs v q w (reader_after r (code "\\"))) (sym stands)
        (subst (λ (q : Reader). ReadsOn (2 * own + 3) (own + 2) bs v (in_line_at r x) w q) (sym (after_is (code "\\")))
        (subst (λ (o : Stored K). ReadsOn (2 * own + 3) (own + 2) bs v (in_line_at r x) o (in_line_at r false)) escaped
        (reads_then (2 * own) 3 own 2 bs v u (with_more Text (code "\\" ∷ []) u) (in_line_at r x) (in_line_at r y) (in_line_at r false) so_far escape)))

    -- what stands for itself, and perhaps a `\\` after it
    pub part_reads : (more : ℕ) → more ≤ 1 → 0 < own + more → (0 < more → (own + 1 < length bs) × ((slice_index bs own ≡ code "\\") × (slice_index bs (own + 1) ≡ code "\\"))) → w ≡ with_more Text (take (own + more) bs) v → charge_of w ≤ w.limit
        → ReadsOn (2 * (own + more) + more) (own + more + more) bs v r w (reader_after r (slice_index bs (own + more - 1)))
    part_reads zero few some escaped added fits = plain_part own refl
      where
        plain_part : (m : ℕ) → own ≡ m → ReadsOn (2 * (own + 0) + 0) (own + 0 + 0) bs v r w (reader_after r (slice_index bs (own + 0 - 1)))
        plain_part zero is = absurd (omega (arith, is, some))
        plain_part (suc j) is =
            let same : own ≡ own + 0 = omega arith in
            let moves : 2 * own ≡ 2 * (own + 0) + 0 = omega arith in
            let taken : own ≡ own + 0 + 0 = omega arith in
            let last : j ≡ own + 0 - 1 = omega (arith, is) in
            subst (λ k. ReadsOn k (own + 0 + 0) bs v r w (reader_after r (slice_index bs (own + 0 - 1)))) moves
            (subst (λ k. ReadsOn (2 * own) k bs v r w (reader_after r (slice_index bs (own + 0 - 1)))) taken
            (subst (λ k. ReadsOn (2 * own) own bs v r w (reader_after r (slice_index bs k))) last
            (read_plain j is (added ∙ ap (λ k. with_more Text (take k bs) v) (sym same)) fits)))
    part_reads (suc zero) few some escaped added fits =
        let two = escaped (omega arith) in
        let afterwards = two.1 in
        let more : own + 1 ≡ suc own = omega arith in
        let moves : 2 * own + 3 ≡ 2 * (own + 1) + 1 = omega arith in
        let taken : own + 2 ≡ own + 1 + 1 = omega arith in
        let last : own ≡ own + 1 - 1 = omega arith in
        subst (λ k. ReadsOn k (own + 1 + 1) bs v r w (reader_after r (slice_index bs (own + 1 - 1)))) moves
        (subst (λ k. ReadsOn (2 * own + 3) k bs v r w (reader_after r (slice_index bs (own + 1 - 1)))) taken
        (subst (λ k. ReadsOn (2 * own + 3) (own + 2) bs v r w (reader_after r k)) (sym afterwards.0 ∙ ap (slice_index bs) last)
        (read_escaped two.0 afterwards.0 afterwards.1 (added ∙ ap (λ k. with_more Text (take k bs) v) more) fits)))
    part_reads (suc (suc k)) few some escaped added fits = absurd (omega (arith, few))

-- ---- room for all of them

-- so many bytes more are charged no more than as many
charge_of-bound : {K : Type 0} (bs : List ℕ) (v : Stored K) → charge_of (with_more Text bs v) ≤ charge_of v + length bs
charge_of-bound bs v = let more = longer-bound (map elements.Byte bs) v.building in omega (arith, more, length-map bs elements.Byte)

-- where there is room for all, all are added
pub all_added : {K : Type 0} (n : ℕ) (bs : List ℕ) (v w : Stored K) → n ≤ length bs → charge_of v + length bs ≤ v.limit → w ≡ with_more Text (take n bs) v
    → (n < length bs → w.limit < charge_of (with_more Text (slice_index bs n ∷ []) w)) → w ≡ with_more Text bs v
all_added {K = K} n bs v w within room added most = elim (cases_lt n (length bs)) [
  | inl less ↦
      let over = most less in
      let one = charge_of-bound (slice_index bs n ∷ []) w in
      let prefix = charge_of-bound (take n bs) v in
      let is = ap (λ (u : Stored K). charge_of u) added in
      let limit = ap (λ (u : Stored K). u.limit) added in
      absurd (omega (arith, over, one, prefix, is, limit, less, room, length-take n bs))
  | inr all ↦ added ∙ ap (λ xs. with_more Text xs v) (take_all n bs (omega (arith, all)))
]

pub all_fit : {K : Type 0} (bs : List ℕ) (v w : Stored K) → charge_of v + length bs ≤ v.limit → w ≡ with_more Text bs v → charge_of w ≤ w.limit
all_fit {K = K} bs v w room added =
    let bound = charge_of-bound bs v in
    subst (λ (u : Stored K). charge_of u ≤ u.limit) (sym added) (omega (arith, bound, room))

-- a part lies within its bytes
pub part_within : (n k : ℕ) (bs : List ℕ) (h : Half) → IsPart n k bs h → n + k ≤ length bs
part_within n zero bs h part = let within = part.own.text.within in omega (arith, within)
part_within n (suc k) bs h part = let within = part.within (omega arith) in let few = part.few in omega (arith, within, few)

-- after parts whose bytes are still to be added another part is read
pub part_copied : {K : Type 0} (r s : Reader) (v : Stored K) (bs near xs ys : List ℕ) (taken count n k : ℕ) → near ≡ drop taken bs → ReadsOn (taken + count) taken bs v r (with_more Text xs v) s
    → IsPart n k near s.half → charge_of v + length ys ≤ v.limit → ys ≡ xs ++ take (n + k) near
    → ReadsOn (taken + (n + k + k) + (count + (n + k))) (taken + (n + k + k)) bs v r (with_more Text ys v) (reader_after s (slice_index near (n + k - 1)))
part_copied {K = K} r s v bs near xs ys taken count n k rest so_far part room is =
    let u = with_more Text xs v in
    let w = with_more Text ys v in
    let more = take (n + k) near in
    let added : w ≡ with_more Text more u = ap (λ zs. with_more Text zs v) is ∙ sym (with_more-more xs more v) in
    let fits : charge_of w ≤ w.limit = all_fit ys v w room refl in
    let moves : taken + count + (2 * (n + k) + k) ≡ taken + (n + k + k) + (count + (n + k)) = omega arith in
    let end = reader_after s (slice_index near (n + k - 1)) in
    subst (λ j. ReadsOn j (taken + (n + k + k)) bs v r w end) moves
    (reads_then (taken + count) (2 * (n + k) + k) taken (n + k + k) bs v u w r s end so_far
    (subst (λ zs. ReadsOn (2 * (n + k) + k) (n + k + k) zs u s w end) rest
    (part_reads s near u w n part.body part.own k part.few part.some (λ escaped. (part.within escaped, (part.first escaped, part.second escaped))) added fits)))

-- ---- the first bytes of a line

-- bytes that stand for themselves, and perhaps a newline after them
module _ (n : ℕ) (bs : List ℕ) (within : n ≤ length bs) (plain : All (IsPlain (code "\n")) (take n bs)) where
  plain_there : (k : ℕ) → k < n → IsPlain (code "\n") (slice_index bs k)
  plain_there k below = plain_at n k (code "\n") bs below within plain

  pub is_line : IsLine n bs
  is_line = record { within = within; escape = λ k below. (plain_there k below).2; line = λ k below. (plain_there k (omega (arith, below))).0 }

  pub is_line_ended : n < length bs → slice_index bs n ≡ code "\n" → IsLine (n + 1) bs
  is_line_ended more newline = record {
    within = omega (arith, more);
    escape = λ k below. elim (cases_lt k n) [
      | inl less ↦ (plain_there k less).2
      | inr last ↦
          let same : k ≡ n = omega (arith, below, last) in
          λ is. let wrong : code "\n" ≡ code "\\" = sym newline ∙ ap (slice_index bs) (sym same) ∙ is in cc
    ];
    line = λ k below. (plain_there k (omega (arith, below))).0;
  }
