-- A run that goes on from an engine that is kept.
use Rattle.std.proofs.Common.{◌≡◌, ℕ, ◌+◌, ◌-◌, ◌*◌, ◌≤◌, true, false, List, [], ◌++◌, Option, None, Some, IfSome, refl, sym, ap, ap₂, ◌∙◌, subst, arith}
use Rattle.std.specs.Io.KnownBytes.{Appends}
use Rattle.std.proofs.KnownBytes.{Appends-nil}
use Rattle.nr_units.specs.Source.{Supply}
use Rattle.nr_input.specs.Place.{Coming, HoldsSupply, has_failed, is_unseen}
use Rattle.nr_input.specs.declared.place.Ahead.{Ahead}
use Rattle.nr_input.specs.declared.place.Ahead.TheVariants.{Unseen}
use Rattle.nr_options.specs.Limits.{Bounds}
use Rattle.nr_options.specs.declared.options.Options.{Options}
use Rattle.nr_formatter.specs.Limits as formatter_limits
use Rattle.nr_formatter.specs.declared.formatter.Formatter.{Formatter}
use Rattle.nr_machine.specs.Choosing.{IsNew}
use Rattle.nr_machine.specs.State.{State, start, formatter_at_first}
use Rattle.nr_machine.specs.Machine.{state_after}
use Rattle.nr_machine.specs.Printing.{text}
use Rattle.nr_machine.specs.Run.{Answers, moves_a_byte}
use Rattle.nr_machine.specs.FirstBytes.{preceded, broken_off, with_rest, TakesAll}
use Rattle.nr_machine.specs.Holding.{Shape, Holds, Made, Finishes, Wrote, weight, worth}
use Rattle.nr_machine.specs.Limits.{Limits, limits_of, limits_under}
use Rattle.nr_machine.specs.declared.outcome.Outcome.{Outcome}
use Rattle.nr_machine.proofs.Standing.{state_after-add, made_all, finishes_after, answers}
use Rattle.nr_machine.proofs.FirstBytes.{first_is_kept}
use Rattle.fast_machine.proofs.Running.{worth_same}
use Rattle.nr_engine.specs.Travelling.{Travelled, Travels}
use Rattle.nr_engine.specs.Keeping.{Keeping, Reaches, Reads, GoesOn}
use Rattle.nr_engine.proofs.Starting.{within_moves}

-- ---- what is to come is another

pub unseen_unfailed : (a : Ahead) → is_unseen a ≡ true → has_failed a ≡ false
unseen_unfailed Unseen is = refl
unseen_unfailed a is = absurd (let wrong : false ≡ true = is in cc)

supply_unseen : (c : Coming) (a : Ahead) (supply : Option Supply) → is_unseen a ≡ true → HoldsSupply c a supply → supply ≡ Some c.supply
supply_unseen c Unseen supply is h = h
supply_unseen c a supply is h = absurd (let wrong : false ≡ true = is in cc)

supply_held : (c : Coming) (a : Ahead) → is_unseen a ≡ true → HoldsSupply c a (Some c.supply)
supply_held c Unseen is = refl
supply_held c a is = absurd (let wrong : false ≡ true = is in cc)

all_taken : (s : State) (e : Shape) → is_unseen e.place.ahead ≡ true → Holds [] (Some (broken_off [])) s e → s.coming.supply ≡ broken_off []
all_taken s e unseen h =
    let is : Some (broken_off []) ≡ Some s.coming.supply = supply_unseen s.coming e.place.ahead (Some (broken_off [])) unseen h.stands.coming.stands in cc

holds_before : (rest : Supply) (s : State) (e : Shape) (x : Option Supply) → is_unseen e.place.ahead ≡ true → Holds [] x s e → Holds [] (Some rest) (with_rest rest s) e
holds_before rest s e x unseen h = record {
  formatter = h.formatter;
  stands = record {
    chosen_is = h.stands.chosen_is;
    coming = record {
      taken = h.stands.coming.taken;
      inside = h.stands.coming.inside;
      stands = supply_held (with_rest rest s).coming e.place.ahead unseen;
    };
    row = h.stands.row;
    page = h.stands.page;
    page_limit = h.stands.page_limit;
    select = h.stands.select;
    faces = h.stands.faces;
    within = record { formatter = h.stands.within.formatter; page = h.stands.within.page };
  };
}

-- nothing went out, whatever a sink holds
none_of : (bs : List ℕ) → Appends (Some []) (Some []) bs → bs ≡ []
none_of bs h = cc

wrote_none : (r s t u : State) (held : Option (List ℕ)) → r.pages ≡ s.pages → u.pages ≡ t.pages → Wrote r t (Some []) (Some []) → Wrote s u held held
wrote_none r s t u held same pages w =
    let grew = w.wrote.1.grows ∙ ap (λ bs. text r.pages ++ bs) (none_of w.wrote.0 w.wrote.2) ∙ ap (λ ps. text ps ++ []) same in
    record { wrote = ([], record { grows = ap (λ ps. text ps) pages ∙ grew }, Appends-nil held) }

pub goes_on : (b : Bounds) (options : Options) (first : List ℕ) (n : ℕ) (e : Shape) (rest : Supply) (held : Option (List ℕ))
    → Reaches (start b options (broken_off first)) n e → Made [] (start b options (preceded first rest)) n e (Some rest) held held
goes_on b options first n e rest held r =
    let s = start b options (broken_off first) in
    let t = state_after n s in
    let takes : TakesAll b options first n = record { runs = r.made.runs; taken = all_taken t e r.unseen r.made.holds } in
    let kept = first_is_kept b options first n rest takes in
    record {
      runs = kept.0;
      holds = subst (λ (u : State). Holds [] (Some rest) u e) (sym kept.1) (holds_before rest t e (Some (broken_off [])) r.unseen r.made.holds);
      wrote = wrote_none s (start b options (preceded first rest)) t (state_after n (start b options (preceded first rest))) held refl (ap (λ (u : State). u.pages) kept.1) r.made.wrote;
    }

-- the moves that led to the engine, and then others up to where the run ends
pub answered_after : (b : Bounds) (s : State) (n after : ℕ) (e : Shape) (x : Option Supply) (outcome : Outcome) (held new : Option (List ℕ)) → s.pages ≡ []
    → limits_of e ≡ limits_under b → Made [] s n e x held held → Travelled b.moves (state_after n s) n after (worth e) outcome held new → Answers b s after outcome held new
answered_after b s n after e x outcome held new none limits made u =
    let t = state_after u.count (state_after n s) in
    let first : Shape = record e { formatter = formatter_at_first b } in
    let same = worth_same first e (ap (λ l. l.formatter.stored) limits) (ap (λ l. l.formatter.expansions) limits) in
    let all = within_moves b first after t.coming.taken refl (subst (λ k. after ≤ k * (t.coming.taken + 1)) same u.bound) in
    let bound = subst (λ (v : State). after ≤ moves_a_byte b * (v.coming.taken + 1)) (sym (state_after-add s n u.count)) all in
    subst (λ k. Answers b s k outcome held new) (sym u.counted)
    (answers b s (n + u.count) outcome held new none
    (subst (λ k. Finishes b.moves k s (n + u.count) outcome held new) u.counted (finishes_after [] b.moves after s n u.count e x outcome held held new made u.finishes))
    (subst (λ k. k ≤ moves_a_byte b * ((state_after (n + u.count) s).coming.taken + 1)) u.counted bound))

-- ---- the first bytes are read

-- all were taken, where so many moves are left
pub read_through : (most : ℕ) (e f : Shape) (first : List ℕ) (before left after : ℕ) (x : Option Supply) → f.formatter.store.limit ≡ e.formatter.store.limit → f.formatter.reader.most ≡ e.formatter.reader.most
    → left ≤ most → most + weight f ≤ worth e * (f.place.taken + 1) + left → after ≡ most - left → is_unseen f.place.ahead ≡ true → x ≡ Some (broken_off [])
    → ((s : State) → Holds [] (Some (broken_off first)) s e → (n : ℕ) × (before + n + left ≡ most) × Made [] s n f x (Some []) (Some []))
    → Reads most e first before after f
read_through most e f first before left after x limit same within bound counted unseen over made = record {
  made = λ s h.
      let t = made s h in
      (t.0, omega (arith, t.1, counted), record { made = subst (λ (y : Option Supply). Made [] s t.0 f y (Some []) (Some [])) over t.2; unseen = unseen });
  allowed = omega (arith, counted);
  bound = subst (λ k. after + weight f ≤ k * (f.place.taken + 1)) (sym (worth_same e f limit same)) (omega (arith, bound, within, counted));
  unfailed = unseen_unfailed f.place.ahead unseen;
}

-- from the beginning of a run
pub read_goes_on : (b : Bounds) (options : Options) (first : List ℕ) (most n : ℕ) (f g : Shape) (r : Option ℕ)
    → Made [] (start b options (broken_off first)) n f (Some (broken_off first)) (Some []) (Some []) → most ≡ b.moves → limits_of g ≡ limits_under b
    → IfSome r (λ m. Reads most f first n m g) → IfSome r (λ m. GoesOn (record { limits = b; options = options; first = first; engine = g; moves = m }))
read_goes_on b options first most n f g None made is limits h = tt
read_goes_on b options first most n f g (Some m) made is limits h =
    let s = start b options (broken_off first) in
    let t = h.made (state_after n s) made.holds in
    record {
      read = subst (λ k. Reaches s k g) (sym t.1)
          (record { made = made_all [] [] s n t.0 f g (Some (broken_off first)) (Some (broken_off [])) (Some []) (Some []) (Some []) made t.2.made; unseen = t.2.unseen });
      limits = limits;
      unfailed = h.unfailed;
      allowed = subst (λ k. m ≤ k) is h.allowed;
      bound = h.bound;
    }

pub new_limits : (b : Bounds) (options : Options) (e : Shape) → IsNew b options e → limits_of e ≡ limits_under b
new_limits b options e new =
    ap₂ (λ (f : Formatter) (n : ℕ). let l : Limits = record { formatter = formatter_limits.limits_of f; page = n } in l) new.formatter new.page_limit

-- ---- a run goes on

pub answers_after : (b : Bounds) (options : Options) (first : List ℕ) (rest : Supply) (e : Shape) (most n after : ℕ) (x : Option Supply) (outcome : Outcome) (held new : Option (List ℕ))
    → most ≡ b.moves → x ≡ Some rest → limits_of e ≡ limits_under b → Reaches (start b options (broken_off first)) n e
    → Travels most e x held new n after outcome → Answers b (start b options (preceded first rest)) after outcome held new
answers_after b options first rest e most n after x outcome held new most_is supply_is limits reached travels =
    let s = start b options (preceded first rest) in
    let made = goes_on b options first n e rest held reached in
    let u = travels (state_after n s) (subst (λ (y : Option Supply). Holds [] y (state_after n s) e) (sym supply_is) made.holds) in
    answered_after b s n after e (Some rest) outcome held new refl limits made (subst (λ m. Travelled m (state_after n s) n after (worth e) outcome held new) most_is u)

-- of what was read with these options
pub answers_of : (k : Keeping) (b : Bounds) (options : Options) (first : List ℕ) (rest : Supply) (n : ℕ) (outcome : Outcome) (old new : Option (List ℕ))
    → k.limits ≡ b → k.options ≡ options → k.first ≡ first
    → Answers k.limits (start k.limits k.options (preceded k.first rest)) n outcome old new → Answers b (start b options (preceded first rest)) n outcome old new
answers_of k b options first rest n outcome old new limits_are options_are first_is a =
    subst (λ (c : Bounds). Answers c (start c options (preceded first rest)) n outcome old new) limits_are
    (subst (λ (o : Options). Answers k.limits (start k.limits o (preceded first rest)) n outcome old new) options_are
    (subst (λ (f : List ℕ). Answers k.limits (start k.limits k.options (preceded f rest)) n outcome old new) first_is a))
