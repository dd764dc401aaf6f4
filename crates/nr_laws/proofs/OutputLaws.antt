-- The laws of the output.
use Rattle.std.proofs.lemmas.Bool.{cases_lt}
use Rattle.std.proofs.lemmas.Grind.{flat_map-append}
use Rattle.std.proofs.Common.{◌≡◌, ℕ, zero, suc, ◌+◌, ◌<◌, ◌≤◌, true, false, List, [], ◌∷◌, ◌++◌, Option, None, Some, refl, ap, sym, subst, ◌∙◌, append-nil, append_assoc, arith, inl, inr}
use Rattle.std.specs.Io.KnownBytes.{Appends}
use Rattle.nr_units.specs.Sink.{AppendsPrefix}
use Rattle.nr_units.specs.Source.{Supply, Faults}
use Rattle.nr_options.specs.Limits.{Bounds}
use Rattle.nr_options.specs.declared.options.Options.{Options}
use Rattle.nr_machine.specs.State.{State, Ended, start}
use Rattle.nr_machine.specs.Machine.{step, state_after}
use Rattle.nr_machine.specs.Printing.{bytes_of, text}
use Rattle.nr_machine.specs.Run.{Over, kind, Goes, GoesBy, Runs, Stops, Ends, AreSpent, Writes, BreaksOff, is_write_fault}
use Rattle.nr_machine.specs.declared.outcome.Outcome.{Outcome}
use Rattle.nr_machine.specs.declared.outcome.Outcome.TheVariants.{Done, Limit, ReadFault, TooLong, WriteFault}
use Rattle.nr_laws.specs.Limited.{state_under}
use Rattle.nr_laws.specs.Laws.{IsPrefixOf, AtLeast, is_settled, is_limit, nothing_allowed, unlimited, unlimited_text, AnswersWith, LimitsOnlyStop, NoLimitAsked, LimitsCut, LimitsCutOutput, DoneIsWhole, OneWhole, WiderLimits, LimitsUnmet, OneAnswer}
use Rattle.nr_laws.proofs.Growing.{text-grows, state_after-add}
use Rattle.nr_laws.proofs.Over.{over-step}
use Rattle.nr_laws.proofs.StepLimits.{step-under, state_after-under}
use Rattle.nr_laws.proofs.SourceFaults.{settled_after}
use Rattle.nr_laws.proofs.Stopping.{goes-stops, stops-one, stops-under}
use Rattle.nr_laws.proofs.Wider.{goes-wider}

prefix-trans : (a b c : List ℕ) → IsPrefixOf a b → IsPrefixOf b c → IsPrefixOf a c
prefix-trans a b c x y = record { rest = x.rest ++ y.rest; whole_is = y.whole_is ∙ ap (λ z. z ++ y.rest) x.whole_is ∙ append_assoc a x.rest y.rest }

-- ---- what went out

-- the pages that have ended
wrote : (s : State) (o : Outcome) (out : List ℕ) → is_write_fault o ≡ false → Writes s o (Some []) (Some out) → out ≡ text s.pages
wrote s Done out reported w = w
wrote s (Limit which at) out reported w = w
wrote s TooLong out reported w = w
wrote s (ReadFault at) out reported w = w
wrote s WriteFault out reported w = (let e : true ≡ false = reported in cc)

settled-writes : (f : Faults) (o : Outcome) → is_settled f o ≡ true → is_write_fault o ≡ false
settled-writes f WriteFault reported = (let e : false ≡ true = reported in cc)
settled-writes f o reported = refl

text-one : (pages : List Ended) (page : Ended) → text (pages ++ page ∷ []) ≡ text pages ++ bytes_of page
text-one pages page = flat_map-append bytes_of pages (page ∷ []) ∙ ap (λ z. text pages ++ z) (append-nil (bytes_of page))

broken : (s : State) (out : List ℕ) (b : BreaksOff s (Some []) (Some out)) (between : Option (List ℕ)) → Appends (Some []) between (text s.pages) → AppendsPrefix between (Some out) (bytes_of b.page) → IsPrefixOf out (text (step s).pages)
broken s out b None ended prefix = absurd ended
broken s out b (Some xs) ended prefix =
    record {
      rest = prefix.1;
      whole_is = ap text b.ends ∙ text-one s.pages b.page ∙ ap (λ z. text s.pages ++ z) prefix.2 ∙ sym (append_assoc (text s.pages) prefix.0 prefix.1)
          ∙ ap (λ z. (z ++ prefix.0) ++ prefix.1) (sym ended) ∙ ap (λ z. z ++ prefix.1) (sym prefix.3);
    }

-- a prefix of what the next move brings
wrote_prefix : (s : State) (o : Outcome) (out : List ℕ) → Writes s o (Some []) (Some out) → IsPrefixOf (text s.pages) (text (step s).pages) → IsPrefixOf out (text (step s).pages)
wrote_prefix s Done out w grows = subst (λ z. IsPrefixOf z (text (step s).pages)) (sym w) grows
wrote_prefix s (Limit which at) out w grows = subst (λ z. IsPrefixOf z (text (step s).pages)) (sym w) grows
wrote_prefix s (ReadFault at) out w grows = subst (λ z. IsPrefixOf z (text (step s).pages)) (sym w) grows
wrote_prefix s TooLong out w grows = subst (λ z. IsPrefixOf z (text (step s).pages)) (sym w) grows
wrote_prefix s WriteFault out w grows = broken s out w w.between w.ended w.prefix

-- ---- how a run ends

goes-pending_act : (s : State) → Goes s → kind s ≡ Over → ⊥
goes-pending_act s goes over = subst (λ k. GoesBy k s) over goes

-- where moves are not spent and one more is made, it is allowed
left_one : (most n : ℕ) (s : State) → n ≤ most → (AreSpent most n s → ⊥) → Goes s → n + 1 ≤ most
left_one most n s allowed left goes = elim (cases_lt n most) [ inl less ↦ omega arith | inr more ↦ absurd (left (omega arith, goes-pending_act s goes)) ]

-- where no limit ends it, moves are not spent, and it stops
unmet_stops : (most n : ℕ) (s : State) (o : Outcome) → is_limit o ≡ false → Ends most n s o → (AreSpent most n s → ⊥) × Stops s o
unmet_stops most n s o unmet (inl x) = absurd (let e : true ≡ false = sym (ap is_limit x.1) ∙ unmet in cc)
unmet_stops most n s o unmet (inr x) = x

-- there is one end
ends-one : (most n : ℕ) (s : State) (o o' : Outcome) → is_settled s.coming.supply.faults o ≡ true → is_settled s.coming.supply.faults o' ≡ true → Ends most n s o → Ends most n s o' → o ≡ o'
ends-one most n s o o' reported reported' (inl x) (inl y) = x.1 ∙ sym y.1
ends-one most n s o o' reported reported' (inl x) (inr y) = absurd (y.0 x.0)
ends-one most n s o o' reported reported' (inr x) (inl y) = absurd (x.0 y.0)
ends-one most n s o o' reported reported' (inr x) (inr y) = stops-one s o o' reported reported' x.1 y.1

-- ---- states of a run, and of that without limits

module _ (b : Bounds) (options : Options) (supply : Supply) where
  at : (n : ℕ) → state_after n (start b options supply) ≡ state_under b (unlimited options supply n)
  at n = state_after-under b n (start nothing_allowed options supply)

  text_of : (n : ℕ) → text (state_after n (start b options supply)).pages ≡ unlimited_text options supply n
  text_of n = ap (λ (s : State). text s.pages) (at n)

  pub text_at : (n : ℕ) (o : Outcome) (out : List ℕ) → AnswersWith b options supply n o out → is_write_fault o ≡ false → out ≡ unlimited_text options supply n
  text_at n o out a reported = wrote (state_after n (start b options supply)) o out reported a.writes ∙ text_of n

  pub cut_at : (n : ℕ) (o : Outcome) (out : List ℕ) → AnswersWith b options supply n o out → IsPrefixOf out (unlimited_text options supply (suc n))
  cut_at n o out a =
      let s = state_after n (start b options supply) in
      subst (IsPrefixOf out) (text_of (suc n)) (wrote_prefix s o out a.writes (text-grows zero (suc zero) s (omega arith)))

over_stays : (n : ℕ) (s : State) → kind s ≡ Over → state_after n s ≡ s
over_stays zero s over = refl
over_stays (suc n) s over = ap step (over_stays n s over) ∙ over-step s over

-- ---- the laws

pub no_limit_asked : NoLimitAsked
no_limit_asked b s = step-under b s

pub limits_only_stop : LimitsOnlyStop
limits_only_stop b options supply n = at b options supply n

pub limits_cut : LimitsCut
limits_cut b options supply n o out a m h =
    prefix-trans out (unlimited_text options supply (suc n)) (unlimited_text options supply m) (cut_at b options supply n o out a)
    (text-grows (suc n) m (start nothing_allowed options supply) (omega arith))

-- what is over stays
after_over : (options : Options) (supply : Supply) (n m : ℕ) → kind (unlimited options supply n) ≡ Over → unlimited_text options supply (n + m) ≡ unlimited_text options supply n
after_over options supply n m over =
    let s = start nothing_allowed options supply in
    ap (λ (t : State). text t.pages) (state_after-add s n m ∙ over_stays m (state_after n s) over)

pub limits_cut_output : LimitsCutOutput
limits_cut_output b options supply n o out whole a w =
    subst (IsPrefixOf out) (after_over options supply w.moves (n + 1) w.over ∙ sym w.whole_is) (limits_cut b options supply n o out a (w.moves + (n + 1)) (omega arith))

-- the run without limits is over then too
pub over_at : (b : Bounds) (options : Options) (supply : Supply) (n : ℕ) (out : List ℕ) → AnswersWith b options supply n Done out → kind (unlimited options supply n) ≡ Over
over_at b options supply n out a = ap kind (sym (at b options supply n)) ∙ (unmet_stops b.moves n (state_after n (start b options supply)) Done refl a.ends).1

pub done_is_whole : DoneIsWhole
done_is_whole b options supply n out a = record {
  moves = n;
  over = over_at b options supply n out a;
  whole_is = text_at b options supply n Done out a refl;
}

pub one_whole : OneWhole
one_whole options supply x y v w =
    let e : v.moves + w.moves ≡ w.moves + v.moves = omega arith in
    v.whole_is ∙ sym (after_over options supply v.moves w.moves v.over) ∙ ap (unlimited_text options supply) e
    ∙ after_over options supply w.moves v.moves w.over ∙ sym w.whole_is

-- under wider limits the run does not stop earlier
no_earlier : (b b' : Bounds) (options : Options) (supply : Supply) (n n' : ℕ) (o' : Outcome) → AtLeast b b' → is_settled supply.faults o' ≡ true → n ≤ b'.moves → Runs n (start b options supply) → Runs n' (start b' options supply)
    → Ends b'.moves n' (state_after n' (start b' options supply)) o' → n' < n → ⊥
no_earlier b b' options supply n n' o' h reported allowed runs runs' (inl x) less = (let all : n' ≡ b'.moves = x.0.0 in absurd (omega (arith, all, less, allowed)))
no_earlier b b' options supply n n' o' h reported allowed runs runs' (inr x) less =
    let t = unlimited options supply n' in
    let e = at b options supply n' in
    let e' = at b' options supply n' in
    goes-stops (state_under b' t) o' (settled_after o' n' (start nothing_allowed options supply) reported) (goes-wider b b' t h (subst Goes e (runs n' less))) (subst (λ (s : State). Stops s o') e' x.1)

-- what went out, a page of which a fault broke off among it, is a prefix of what goes out without limits where the run goes as far
prefix_at : (b : Bounds) (options : Options) (supply : Supply) (n m : ℕ) (o : Outcome) (out : List ℕ) → AnswersWith b options supply n o out → n ≤ m
    → (n + 1 ≤ b.moves → Goes (state_after n (start b options supply)) → n + 1 ≤ m) → IsPrefixOf out (unlimited_text options supply m)
prefix_at b options supply n m WriteFault out a far further =
    let s = state_after n (start b options supply) in
    let ends = unmet_stops b.moves n s WriteFault refl a.ends in
    limits_cut b options supply n WriteFault out a m (further (left_one b.moves n s a.allowed ends.0 ends.1.0) ends.1.0)
prefix_at b options supply n m o out a far further =
    subst (λ z. IsPrefixOf z (unlimited_text options supply m)) (sym (text_at b options supply n o out a refl)) (text-grows n m (start nothing_allowed options supply) far)

-- a move more
runs_on : (n : ℕ) (s : State) → Runs n s → Goes (state_after n s) → Runs (n + 1) s
runs_on n s runs goes m h = elim (cases_lt m n) [ inl less ↦ runs m less | inr more ↦ (let e : n ≡ m = omega arith in subst (λ k. Goes (state_after k s)) e goes) ]

pub wider_limits : WiderLimits
wider_limits b b' options supply n n' o o' out out' h a a' reported' =
    let s = start b options supply in
    let moves : b.moves ≤ b'.moves = h.moves in
    let far : n ≤ n' = elim (cases_lt n' n) [ inl less ↦ absurd (no_earlier b b' options supply n n' o' h reported' (omega (arith, a.allowed, moves)) a.runs a'.runs a'.ends less) | inr more ↦ omega arith ] in
    let further = λ (left : n + 1 ≤ b.moves) (goes : Goes (state_after n s)). (let x : n + 1 ≤ n' = elim (cases_lt n' (n + 1)) [
      | inl less ↦ absurd (no_earlier b b' options supply (n + 1) n' o' h reported' (omega (arith, left, moves)) (runs_on n s a.runs goes) a'.runs a'.ends less)
      | inr more ↦ omega arith
    ] in x) in
    subst (IsPrefixOf out) (sym (text_at b' options supply n' o' out' a' (settled-writes supply.faults o' reported'))) (prefix_at b options supply n n' o out a far further)

at_least_itself : (b : Bounds) → AtLeast b b
at_least_itself b = record { stored = omega arith; depth = omega arith; cells = omega arith; expansions = omega arith; moves = omega arith }

pub one_answer : OneAnswer
one_answer b options supply n n' o o' out out' a a' reported reported' =
    let first = no_earlier b b options supply n n' o' (at_least_itself b) reported' a.allowed a.runs a'.runs a'.ends in
    let second = no_earlier b b options supply n' n o (at_least_itself b) reported a'.allowed a'.runs a.runs a.ends in
    let e : n ≡ n' = elim (cases_lt n' n) [ inl x ↦ absurd (first x) | inr x ↦ elim (cases_lt n n') [ inl y ↦ absurd (second y) | inr y ↦ omega arith ] ] in (
      e,
      ends-one b.moves n' (state_after n' (start b options supply)) o o' (settled_after o n' (start b options supply) reported) (settled_after o' n' (start b options supply) reported') (subst (λ k. Ends b.moves k (state_after k (start b options supply)) o) e a.ends) a'.ends,
      text_at b options supply n o out a (settled-writes supply.faults o reported) ∙ ap (unlimited_text options supply) e ∙ sym (text_at b options supply n' o' out' a' (settled-writes supply.faults o' reported')),
    )

-- where no limit stops the run under narrower limits, that under wider ones does not go on
no_later : (b b' : Bounds) (options : Options) (supply : Supply) (n n' : ℕ) (o : Outcome) → is_limit o ≡ false → is_settled supply.faults o ≡ true → Runs n' (start b' options supply)
    → Stops (state_after n (start b options supply)) o → n < n' → ⊥
no_later b b' options supply n n' o unmet reported runs' stops less =
    let t = unlimited options supply n in
    let reported_there = settled_after o n (start nothing_allowed options supply) reported in
    goes-stops (state_under b' t) o reported_there (subst Goes (at b' options supply n) (runs' n less))
    (stops-under b b' t o unmet reported_there (subst (λ (s : State). Stops s o) (at b options supply n) stops))

-- where it stops under narrower limits, moves are not spent under wider ones either
not_spent : (b b' : Bounds) (n : ℕ) (t : State) → AtLeast b b' → n ≤ b.moves → (AreSpent b.moves n (state_under b t) → ⊥) → AreSpent b'.moves n (state_under b' t) → ⊥
not_spent b b' n t h allowed left spent =
    let moves : b.moves ≤ b'.moves = h.moves in
    let all : n ≡ b'.moves = spent.0 in
    let same : n ≡ b.moves = omega (arith, all, moves, allowed) in
    left (same, spent.1)

pub limits_unmet : LimitsUnmet
limits_unmet b b' options supply n n' o o' out out' h a a' unmet reported reported' =
    let moves : b.moves ≤ b'.moves = h.moves in
    let ends = unmet_stops b.moves n (state_after n (start b options supply)) o unmet a.ends in
    let e : n ≡ n' = elim (cases_lt n' n) [
      | inl x ↦ absurd (no_earlier b b' options supply n n' o' h reported' (omega (arith, a.allowed, moves)) a.runs a'.runs a'.ends x)
      | inr x ↦ elim (cases_lt n n') [ inl y ↦ absurd (no_later b b' options supply n n' o unmet reported a'.runs ends.1 y) | inr y ↦ omega arith ]
    ] in
    let t = unlimited options supply n in
    let reported_there = λ (q : Outcome) (is : is_settled supply.faults q ≡ true). settled_after q n (start nothing_allowed options supply) is in
    let left = subst (λ (s : State). AreSpent b.moves n s → ⊥) (at b options supply n) ends.0 in
    let first : Ends b'.moves n (state_under b' t) o = inr (not_spent b b' n t h a.allowed left, stops-under b b' t o unmet (reported_there o reported) (subst (λ (s : State). Stops s o) (at b options supply n) ends.1)) in
    let second = subst (λ (s : State). Ends b'.moves n s o') (at b' options supply n) (subst (λ k. Ends b'.moves k (state_after k (start b' options supply)) o') (sym e) a'.ends) in (
      e,
      ends-one b'.moves n (state_under b' t) o o' (reported_there o reported) (reported_there o' reported') first second,
      text_at b options supply n o out a (settled-writes supply.faults o reported) ∙ ap (unlimited_text options supply) e ∙ sym (text_at b' options supply n' o' out' a' (settled-writes supply.faults o' reported')),
    )
