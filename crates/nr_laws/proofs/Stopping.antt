-- A run stops in one way, but for faults that no one tells beforehand.
use Rattle.std.specs.Prelude.{nat_le}
use Rattle.std.proofs.Common.{◌≡◌, Bool, true, false, if◌then◌else◌, None, Some, Result, Ok, Err, refl, sym, subst, ◌∙◌, arith}
use Rattle.nr_units.specs.Source.{Faults, Never, After, Anytime, MayFail, MayGive}
use Rattle.nr_store.specs.Store.{Stored, shown, afforded, checked}
use Rattle.nr_store.specs.declared.refusal.Refusal as stored
use Rattle.nr_store.specs.declared.refusal.Refusal.TheVariants as stores
use Rattle.nr_store.specs.declared.refusal.StoredBytes.{StoredBytes}
use Rattle.nr_store.specs.declared.shown.Shown.{Shown}
use Rattle.nr_store.specs.declared.shown.Shown.TheVariants as shows
use Rattle.nr_input.specs.Place.{Coming, MayLook, RefusesLook}
use Rattle.nr_input.specs.Moving.{Situation, looks, answer_at}
use Rattle.nr_input.specs.Moving as input
use Rattle.nr_input.specs.Refusal.{Asking, Nothing, Bytes, Splice, Refused, answer_to, storing_by, splicing_by, asking}
use Rattle.nr_input.specs.declared.reader.Reader.{Reader}
use Rattle.nr_input.specs.declared.refusal.Refusal.{Refusal}
use Rattle.nr_input.specs.declared.refusal.Refusal.TheVariants as refusals
use Rattle.nr_formatter.specs.declared.tasks.Resume.{Resume}
use Rattle.nr_machine.specs.State.{State}
use Rattle.nr_machine.specs.Machine.{situation_of}
use Rattle.nr_machine.specs.declared.outcome.Measure.{Measure}
use Rattle.nr_machine.specs.declared.outcome.Measure.TheVariants as measures
use Rattle.nr_machine.specs.declared.outcome.Outcome.{Outcome}
use Rattle.nr_machine.specs.declared.outcome.Outcome.TheVariants.{Done, Limit, ReadFault, TooLong, WriteFault}
use Rattle.nr_machine.specs.Run.{Kind, Reads, Works, Over, kind, Goes, GoesBy, IsRefusal, PassesBy, Stops}
use Rattle.nr_options.specs.Limits.{Bounds}
use Rattle.nr_laws.specs.Laws.{are_reported, is_settled, is_limit}
use Rattle.nr_laws.specs.Limited.{state_under}

-- ---- a look refuses nothing for a limit

-- a refusal for a limit
pub data ForLimit : Refusal → Type 0 where
  ForStored : ForLimit refusals.Stored
  ForDepth : ForLimit refusals.Depth
  ForExpansions : ForLimit refusals.Expansions

pub for_limit : (m : Measure) (r : Refusal) → IsRefusal m r → ForLimit r
for_limit measures.Stored r is = subst ForLimit (sym is) ForStored
for_limit measures.Depth r is = subst ForLimit (sym is) ForDepth
for_limit measures.LineCells r is = absurd is
for_limit measures.PageCells r is = absurd is
for_limit measures.Moves r is = absurd is
for_limit measures.Expansions r is = subst ForLimit (sym is) ForExpansions

pub no_sight : (s : Shown Resume) (c : Coming) (r : Refusal) → ForLimit r → RefusesLook s c r → ⊥
no_sight shows.Nothing c refusals.Stored ForStored h = h
no_sight shows.Nothing c refusals.Depth ForDepth h = h
no_sight shows.Nothing c refusals.Expansions ForExpansions h = h
no_sight shows.Nothing c refusals.ReadFault l h = elim l [ ]
no_sight shows.Nothing c refusals.TooLong l h = elim l [ ]
no_sight shows.End c r l h = h
no_sight (shows.Item x) c r l h = h
no_sight (shows.Resume k) c r l h = h

not_long : (r : Refusal) → ForLimit r → r ≡ refusals.TooLong → ⊥
not_long refusals.Stored ForStored e = cc
not_long refusals.Depth ForDepth e = cc
not_long refusals.Expansions ForExpansions e = cc
not_long refusals.ReadFault l e = elim l [ ]
not_long refusals.TooLong l e = elim l [ ]

pub not_fault : (r : Refusal) → ForLimit r → r ≡ refusals.ReadFault → ⊥
not_fault refusals.Stored ForStored e = cc
not_fault refusals.Depth ForDepth e = cc
not_fault refusals.Expansions ForExpansions e = cc
not_fault refusals.ReadFault l e = elim l [ ]
not_fault refusals.TooLong l e = elim l [ ]

-- ---- what is pending is refused for a limit alone

storing : (x : Result (Unit {0}) StoredBytes) (e : Refusal) → storing_by x ≡ Err e → ForLimit e
storing (Ok x) e is = cc
storing (Err s) e is = (let same : refusals.Stored ≡ e = cc in subst ForLimit same ForStored)

expanding : (c : Bool) (a : Result (Unit {0}) Refusal) (e : Refusal) → (if c then Err refusals.Expansions else Ok tt) ≡ a → a ≡ Err e → ForLimit e
expanding true a e is err = (let same : refusals.Expansions ≡ e = cc in subst ForLimit same ForExpansions)
expanding false a e is err = cc

splicing : (x : Result Bool stored.Refusal) (r : Reader) (e : Refusal) → splicing_by x r ≡ Err e → ForLimit e
splicing (Ok true) r e is = expanding (nat_le r.most r.burst) (splicing_by (Ok true) r) e refl is
splicing (Ok false) r e is = cc
splicing (Err stores.Stored) r e is = (let same : refusals.Stored ≡ e = cc in subst ForLimit same ForStored)
splicing (Err stores.Depth) r e is = (let same : refusals.Depth ≡ e = cc in subst ForLimit same ForDepth)

answering : (a : Asking) (new : Stored Resume) (r : Reader) (e : Refusal) → answer_to a new r ≡ Err e → ForLimit e
answering Nothing new r e is = cc
answering Bytes new r e is = storing (afforded new tt) e is
answering (Splice is_text) new r e is = splicing (checked new is_text) r e is
answering Refused new r e is = (let same : refusals.Expansions ≡ e = cc in subst ForLimit same ForExpansions)

pub answer_for_limit : (q : Situation Resume) (e : Refusal) → answer_at q ≡ Err e → ForLimit e
answer_for_limit q e is = answering (asking q.reader.half.reading.pending_act q.stored q.reader) (input.acting q).stored q.reader e is

same_limit : (m m' : Measure) (r : Refusal) → IsRefusal m r → IsRefusal m' r → m ≡ m'
same_limit measures.Stored measures.Stored r a b = refl
same_limit measures.Stored measures.Depth r a b = cc
same_limit measures.Stored measures.Expansions r a b = cc
same_limit measures.Depth measures.Stored r a b = cc
same_limit measures.Depth measures.Depth r a b = refl
same_limit measures.Depth measures.Expansions r a b = cc
same_limit measures.Expansions measures.Stored r a b = cc
same_limit measures.Expansions measures.Depth r a b = cc
same_limit measures.Expansions measures.Expansions r a b = refl
same_limit measures.LineCells m' r a b = absurd a
same_limit measures.PageCells m' r a b = absurd a
same_limit measures.Moves m' r a b = absurd a
same_limit m measures.LineCells r a b = absurd b
same_limit m measures.PageCells r a b = absurd b
same_limit m measures.Moves r a b = absurd b

-- ---- a move that reads is made, or refused

one_refusal : (a : Result (Unit {0}) Refusal) (r r' : Refusal) → a ≡ Err r → a ≡ Err r' → r ≡ r'
one_refusal a r r' x y = cc

ok_or : (a : Result (Unit {0}) Refusal) (r : Refusal) → a ≡ Ok tt → a ≡ Err r → ⊥
ok_or a r ok is = cc

limit_goes : (c : Bool) (q : Situation Resume) (r : Refusal) → ForLimit r → input.GoesBy c q → input.RefusesBy c q r → ⊥
limit_goes true q r l goes h = no_sight (shown q.stored.levels) q.coming r l h
limit_goes false q r l goes h = ok_or (answer_at q) r goes h

long_look : (s : Shown Resume) (c : Coming) → MayLook s c → RefusesLook s c refusals.TooLong → ⊥
long_look shows.Nothing c goes h = goes.1 h.1
long_look shows.End c goes h = h
long_look (shows.Item x) c goes h = h
long_look (shows.Resume k) c goes h = h

long_goes : (c : Bool) (q : Situation Resume) → input.GoesBy c q → input.RefusesBy c q refusals.TooLong → ⊥
long_goes true q goes h = long_look (shown q.stored.levels) q.coming goes h
long_goes false q goes h = ok_or (answer_at q) refusals.TooLong goes h

-- a source that reports its failure gives or fails, and not both
gives_or : (f : Faults) → are_reported f ≡ true → MayGive f → MayFail f → ⊥
gives_or Never reported gives fails = fails
gives_or (After n) reported gives fails = absurd (omega arith)
gives_or Anytime reported gives fails = (let e : false ≡ true = reported in cc)

fault_look : (s : Shown Resume) (c : Coming) → are_reported c.supply.faults ≡ true → MayLook s c → RefusesLook s c refusals.ReadFault → ⊥
fault_look shows.Nothing c reported goes h = gives_or c.supply.faults reported goes.0 h
fault_look shows.End c reported goes h = h
fault_look (shows.Item x) c reported goes h = h
fault_look (shows.Resume k) c reported goes h = h

fault_goes : (c : Bool) (q : Situation Resume) → are_reported q.coming.supply.faults ≡ true → input.GoesBy c q → input.RefusesBy c q refusals.ReadFault → ⊥
fault_goes true q reported goes h = fault_look (shown q.stored.levels) q.coming reported goes h
fault_goes false q reported goes h = ok_or (answer_at q) refusals.ReadFault goes h

fault_long_look : (s : Shown Resume) (c : Coming) → are_reported c.supply.faults ≡ true → RefusesLook s c refusals.TooLong → RefusesLook s c refusals.ReadFault → ⊥
fault_long_look shows.Nothing c reported a h = gives_or c.supply.faults reported a.0 h
fault_long_look shows.End c reported a h = h
fault_long_look (shows.Item x) c reported a h = h
fault_long_look (shows.Resume k) c reported a h = h

fault_long : (c : Bool) (q : Situation Resume) → are_reported q.coming.supply.faults ≡ true → input.RefusesBy c q refusals.TooLong → input.RefusesBy c q refusals.ReadFault → ⊥
fault_long true q reported a h = fault_long_look (shown q.stored.levels) q.coming reported a h
fault_long false q reported a h = (let e : refusals.TooLong ≡ refusals.ReadFault = one_refusal (answer_at q) refusals.TooLong refusals.ReadFault a h in cc)

limit_fault : (c : Bool) (q : Situation Resume) (r : Refusal) → ForLimit r → input.RefusesBy c q r → input.RefusesBy c q refusals.ReadFault → ⊥
limit_fault true q r l a b = no_sight (shown q.stored.levels) q.coming r l a
limit_fault false q r l a b = not_fault r l (one_refusal (answer_at q) r refusals.ReadFault a b)

limit_long : (c : Bool) (q : Situation Resume) (r : Refusal) → ForLimit r → input.RefusesBy c q r → input.RefusesBy c q refusals.TooLong → ⊥
limit_long true q r l a b = no_sight (shown q.stored.levels) q.coming r l a
limit_long false q r l a b = not_long r l (one_refusal (answer_at q) r refusals.TooLong a b)

limit_limit : (c : Bool) (q : Situation Resume) (m m' : Measure) (r r' : Refusal) → IsRefusal m r → IsRefusal m' r' → input.RefusesBy c q r → input.RefusesBy c q r' → m ≡ m'
limit_limit true q m m' r r' is is' a b = absurd (no_sight (shown q.stored.levels) q.coming r (for_limit m r is) a)
limit_limit false q m m' r r' is is' a b =
    same_limit m m' r' (subst (IsRefusal m) (one_refusal (answer_at q) r r' a b) is) is'

-- ---- a move is made, or the run stops

goes_by : (k : Kind) (s : State) (o : Outcome) → kind s ≡ k → is_settled s.coming.supply.faults o ≡ true → GoesBy k s → Stops s o → ⊥
goes_by Reads s Done is reported goes stops = (let e : Reads ≡ Over = sym is ∙ stops in cc)
goes_by Reads s (Limit which at) is reported goes stops =
    let p : PassesBy Reads s which = subst (λ k. PassesBy k s which) is stops.0 in
    limit_goes (looks (situation_of s)) (situation_of s) p.0 (for_limit which p.0 p.2) goes p.1
goes_by Reads s TooLong is reported goes stops = long_goes (looks (situation_of s)) (situation_of s) goes stops.1
goes_by Reads s (ReadFault at) is reported goes stops = fault_goes (looks (situation_of s)) (situation_of s) reported goes stops.1
goes_by Works s Done is reported goes stops = (let e : Works ≡ Over = sym is ∙ stops in cc)
goes_by Works s (Limit which at) is reported goes stops =
    let p : PassesBy Works s which = subst (λ k. PassesBy k s which) is stops.0 in (let e : None ≡ Some which = sym goes ∙ p in cc)
goes_by Works s TooLong is reported goes stops = (let e : Works ≡ Reads = sym is ∙ stops.0 in cc)
goes_by Works s (ReadFault at) is reported goes stops = (let e : Works ≡ Reads = sym is ∙ stops.0 in cc)
goes_by Over s o is reported goes stops = goes
goes_by k s WriteFault is reported goes stops = (let e : false ≡ true = reported in cc)

pub goes-stops : (s : State) (o : Outcome) → is_settled s.coming.supply.faults o ≡ true → Goes s → Stops s o → ⊥
goes-stops s o reported goes stops = goes_by (kind s) s o refl reported goes stops

-- ---- the run stops in one way

limits_by : (k : Kind) (s : State) (m m' : Measure) → PassesBy k s m → PassesBy k s m' → m ≡ m'
limits_by Reads s m m' p q = limit_limit (looks (situation_of s)) (situation_of s) m m' p.0 q.0 p.2 q.2 p.1 q.1
limits_by Works s m m' p q = (let e : Some m ≡ Some m' = sym p ∙ q in cc)
limits_by Over s m m' p q = absurd p

over_limits : (k : Kind) (s : State) (m : Measure) → k ≡ Over → PassesBy k s m → ⊥
over_limits Reads s m is p = cc
over_limits Works s m is p = cc
over_limits Over s m is p = p

long_limits : (k : Kind) (s : State) (m : Measure) → k ≡ Reads → PassesBy k s m → input.Refuses (situation_of s) refusals.TooLong → ⊥
long_limits Reads s m is p h = limit_long (looks (situation_of s)) (situation_of s) p.0 (for_limit m p.0 p.2) p.1 h
long_limits Works s m is p h = cc
long_limits Over s m is p h = p

fault_limits : (k : Kind) (s : State) (m : Measure) → k ≡ Reads → PassesBy k s m → input.Refuses (situation_of s) refusals.ReadFault → ⊥
fault_limits Reads s m is p h = limit_fault (looks (situation_of s)) (situation_of s) p.0 (for_limit m p.0 p.2) p.1 h
fault_limits Works s m is p h = cc
fault_limits Over s m is p h = p

pub stops-one : (s : State) (o o' : Outcome) → is_settled s.coming.supply.faults o ≡ true → is_settled s.coming.supply.faults o' ≡ true → Stops s o → Stops s o' → o ≡ o'
stops-one s WriteFault o' reported reported' a b = (let e : false ≡ true = reported in cc)
stops-one s o WriteFault reported reported' a b = (let e : false ≡ true = reported' in cc)
stops-one s Done Done reported reported' a b = refl
stops-one s Done (Limit w at) reported reported' a b = absurd (over_limits (kind s) s w a b.0)
stops-one s Done TooLong reported reported' a b = (let e : Over ≡ Reads = sym a ∙ b.0 in cc)
stops-one s Done (ReadFault at) reported reported' a b = (let e : Over ≡ Reads = sym a ∙ b.0 in cc)
stops-one s (Limit w at) Done reported reported' a b = absurd (over_limits (kind s) s w b a.0)
stops-one s (Limit w at) (Limit w' at') reported reported' a b =
    let e = limits_by (kind s) s w w' a.0 b.0 in let f : at ≡ at' = a.1 ∙ sym b.1 in cc
stops-one s (Limit w at) TooLong reported reported' a b = absurd (long_limits (kind s) s w b.0 a.0 b.1)
stops-one s (Limit w at) (ReadFault at') reported reported' a b = absurd (fault_limits (kind s) s w b.0 a.0 b.1)
stops-one s TooLong Done reported reported' a b = (let e : Over ≡ Reads = sym b ∙ a.0 in cc)
stops-one s TooLong (Limit w at) reported reported' a b = absurd (long_limits (kind s) s w a.0 b.0 a.1)
stops-one s TooLong TooLong reported reported' a b = refl
stops-one s TooLong (ReadFault at) reported reported' a b = absurd (fault_long (looks (situation_of s)) (situation_of s) reported' a.1 b.1)
stops-one s (ReadFault at) Done reported reported' a b = (let e : Over ≡ Reads = sym b ∙ a.0 in cc)
stops-one s (ReadFault at) (Limit w at') reported reported' a b = absurd (fault_limits (kind s) s w a.0 b.0 a.1)
stops-one s (ReadFault at) TooLong reported reported' a b = absurd (fault_long (looks (situation_of s)) (situation_of s) reported b.1 a.1)
stops-one s (ReadFault at) (ReadFault at') reported reported' a b = (let e : at ≡ at' = a.2 ∙ sym b.2 in cc)

-- ---- where no limit stops it, it stops there under any limits

refused_under : (c : Bool) (b b' : Bounds) (s : State) (r : Refusal) → (ForLimit r → ⊥) → input.RefusesBy c (situation_of (state_under b s)) r → input.RefusesBy c (situation_of (state_under b' s)) r
refused_under true b b' s r other h = h
refused_under false b b' s r other h = absurd (other (answer_for_limit (situation_of (state_under b s)) r h))

pub stops-under : (b b' : Bounds) (s : State) (o : Outcome) → is_limit o ≡ false → is_settled s.coming.supply.faults o ≡ true → Stops (state_under b s) o → Stops (state_under b' s) o
stops-under b b' s Done unmet reported stops = stops
stops-under b b' s (Limit which at) unmet reported stops = (let e : true ≡ false = unmet in cc)
stops-under b b' s (ReadFault at) unmet reported stops =
    (stops.0, refused_under (looks (situation_of s)) b b' s refusals.ReadFault (λ l. not_fault refusals.ReadFault l refl) stops.1, stops.2)
stops-under b b' s TooLong unmet reported stops =
    (stops.0, refused_under (looks (situation_of s)) b b' s refusals.TooLong (λ l. not_long refusals.TooLong l refl) stops.1)
stops-under b b' s WriteFault unmet reported stops = (let e : false ≡ true = reported in cc)
