-- No byte goes out that may not.
use Prim.Native.Char.{code}
use Rattle.std.proofs.Common.{◌≡◌, ℕ, zero, suc, List, [], ◌∷◌, ◌++◌, Bool, true, false, nat_lt, ◌||◌, if◌then◌else◌, refl, sym, subst, ap}
use Rattle.std.specs.List.{AllPass}
use Rattle.std.proofs.lemmas.List.Elements.{All-nil, All-cons, All-append}
use Rattle.preconv_characters.specs.declared.target.Target.{Target}
use Rattle.preconv_lines.specs.declared.half.Coming.{Coming}
use Rattle.preconv_lines.specs.declared.half.Coming.TheVariants.{Byte, Wide}
use Rattle.preconv_converter.specs.declared.reader.Reader.{Reader}
use Rattle.preconv_converter.specs.declared.reader.Pending.{Pending}
use Rattle.preconv_converter.specs.declared.reader.Pending.TheVariants.{Nothing, One, Two, Three}
use Rattle.preconv_characters.specs.Saying.{has_byte, may_go_out, sent, all_sent, bytes_of, text_of}
use Rattle.preconv_lines.specs.Offering.{offer, is_raw}
use Rattle.preconv_lines.specs.Lines.{passing}
use Rattle.preconv_converter.specs.Reading.{Emitted, is_lead, is_tail, is_second, emitted, preceded}
use Rattle.preconv_converter.specs.Reading.{then_emitted, with_half, pending_with, heard_in, heard, stray}
use Rattle.preconv_converter.specs.Reading.{strays, pending_heard, fresh, apart, whole, heard_after, read}
use Rattle.preconv_converter.specs.Reading.{name_left, ended, finished, fed, first_reader, converted}

GoesOut : Target → ℕ → Type 0
GoesOut e b = may_go_out e b ≡ true

sent_by : (e : Target) (b : ℕ) (x : Bool) → may_go_out e b ≡ x → may_go_out e (if x then b else code "?") ≡ true
sent_by e b true p = p
sent_by e b false p = refl

sent-goes : (e : Target) (b : ℕ) → may_go_out e (sent e b) ≡ true
sent-goes e b = sent_by e b (may_go_out e b) refl

pub ascii-goes : (e : Target) (b : ℕ) → nat_lt b 127 ≡ true → may_go_out e b ≡ true
ascii-goes e b p = ap (λ (x : Bool). x || has_byte e b) p

all_sent-go : (e : Target) (bs : List ℕ) → AllPass (may_go_out e) (all_sent e bs)
unfolding GoesOut
all_sent-go e [] = All-nil (GoesOut e)
all_sent-go e (b ∷ bs) = All-cons (GoesOut e) (sent e b) (all_sent e bs) (sent-goes e b) (all_sent-go e bs)

-- ---- what comes of bytes goes out

record Shows (e : Target) (t : Emitted) : Type 0 where
  shown : AllPass (may_go_out e) t.bytes
  same : t.reader.table ≡ e

shows_nothing : (e : Target) (r : Reader) → r.table ≡ e → Shows e (emitted r [] 0)
unfolding GoesOut
shows_nothing e r p = record { shown = All-nil (GoesOut e); same = p }

Shows-if : {e : Target} (x : Bool) {t u : Emitted} → Shows e t → Shows e u → Shows e (if x then t else u)
Shows-if true p q = p
Shows-if false p q = q

Shows-preceded : (e : Target) (bytes : List ℕ) (n : ℕ) (t : Emitted) → AllPass (may_go_out e) bytes → Shows e t → Shows e (preceded bytes n t)
unfolding GoesOut
Shows-preceded e bytes n t p q = record { shown = All-append (GoesOut e) bytes t.bytes p q.shown; same = q.same }

Shows-then : (e : Target) (t : Emitted) (next : Reader → Emitted) → Shows e t → ((r : Reader) → r.table ≡ e → Shows e (next r)) → Shows e (then_emitted t next)
Shows-then e t next p q = Shows-preceded e t.bytes t.steps (next t.reader) p.shown (q t.reader p.same)

heard_in-shows : (n : ℕ) (c : Coming) (r : Reader) → Shows r.table (heard_in n c r)
heard_in-shows zero c r = shows_nothing r.table r refl
heard_in-shows (suc n) c r =
    let m = offer c r.half in
    let e = r.table in
    Shows-preceded e (bytes_of e m.said) 1 (if m.takes then emitted (with_half m.half r) [] 0 else heard_in n c (with_half m.half r)) (all_sent-go e (text_of e m.said))
    (Shows-if m.takes (shows_nothing e (with_half m.half r) refl) (heard_in-shows n c (with_half m.half r)))

heard-shows : (e : Target) (c : Coming) (r : Reader) → r.table ≡ e → Shows e (heard c r)
unfolding heard
heard-shows e c r p =
    let P : Target → Type 0 = λ x. Shows x (heard_in 6 c r) in subst P p (heard_in-shows 6 c r)

strays-show : (e : Target) (p : Pending) (r : Reader) → r.table ≡ e → Shows e (strays p r)
strays-show e Nothing r same = shows_nothing e r same
strays-show e (One a) r same = heard-shows e (Wide a) r same
strays-show e (Two a b) r same = Shows-then e (stray a r) (λ s. stray b s) (heard-shows e (Wide a) r same) (λ s q. heard-shows e (Wide b) s q)
strays-show e (Three a b c) r same =
    Shows-then e (then_emitted (stray a r) (λ s. stray b s)) (λ s. stray c s)
    (Shows-then e (stray a r) (λ s. stray b s) (heard-shows e (Wide a) r same) (λ s q. heard-shows e (Wide b) s q))
    (λ s q. heard-shows e (Wide c) s q)

fresh-shows : (e : Target) (b : ℕ) (r : Reader) → r.table ≡ e → Shows e (fresh b r)
fresh-shows e b r same =
    Shows-if (nat_lt b 127) (heard-shows e (Byte b) r same)
    (Shows-if (is_lead b) (shows_nothing e (pending_with (One b) r) same) (heard-shows e (Wide b) r same))

pending-shows : (e : Target) (r : Reader) → r.table ≡ e → Shows e (pending_heard r)
pending-shows e r same = strays-show e r.pending (pending_with Nothing r) same

apart-shows : (e : Target) (b : ℕ) (r : Reader) → r.table ≡ e → Shows e (apart b r)
apart-shows e b r same = Shows-then e (pending_heard r) (λ s. fresh b s) (pending-shows e r same) (λ s q. fresh-shows e b s q)

whole-shows : (e : Target) (c : ℕ) (r : Reader) → r.table ≡ e → Shows e (whole c r)
whole-shows e c r same = heard-shows e (Wide c) (pending_with Nothing r) same

heard_after-shows : (e : Target) (p : Pending) (b : ℕ) (r : Reader) → r.table ≡ e → Shows e (heard_after p b r)
heard_after-shows e Nothing b r same = apart-shows e b r same
heard_after-shows e (One a) b r same =
    Shows-if (is_second a b) (Shows-if (nat_lt a 224) (whole-shows e _ r same) (shows_nothing e (pending_with (Two a b) r) same)) (apart-shows e b r same)
heard_after-shows e (Two a b) c r same =
    Shows-if (is_tail c) (Shows-if (nat_lt a 240) (whole-shows e _ r same) (shows_nothing e (pending_with (Three a b c) r) same)) (apart-shows e c r same)
heard_after-shows e (Three a b c) d r same = Shows-if (is_tail d) (whole-shows e _ r same) (apart-shows e d r same)

passed-shows : (e : Target) (b : ℕ) (r : Reader) → r.table ≡ e → Shows e (emitted (with_half (passing b r.half) r) (sent r.table b ∷ []) 1)
unfolding GoesOut
passed-shows e b r same = record {
  shown = (let P : Target → Type 0 = λ x. AllPass (may_go_out e) (sent x b ∷ []) in
      subst P (sym same) (All-cons (GoesOut e) (sent e b) [] (sent-goes e b) (All-nil (GoesOut e))));
  same = same;
}

read-shows : (e : Target) (b : ℕ) (r : Reader) → r.table ≡ e → Shows e (read b r)
read-shows e b r same = Shows-if (is_raw r.half.line) (passed-shows e b r same) (heard_after-shows e r.pending b r same)

fed-shows : (e : Target) (bs : List ℕ) (r : Reader) → r.table ≡ e → Shows e (fed r bs)
fed-shows e [] r same = shows_nothing e r same
fed-shows e (b ∷ bs) r same = Shows-then e (read b r) (λ s. fed s bs) (read-shows e b r same) (λ s q. fed-shows e bs s q)

pub fed-shown : (e : Target) (bs : List ℕ) → AllPass (may_go_out e) (fed (first_reader e) bs).bytes
fed-shown e bs = (fed-shows e bs (first_reader e) refl).shown

ended-shown : (e : Target) (r : Reader) → r.table ≡ e → AllPass (may_go_out e) (ended r)
unfolding GoesOut
ended-shown e r same =
    let P : Target → Type 0 = λ x. AllPass (may_go_out e) (all_sent x r.half.kept ++ all_sent x (name_left r.half.line r.half.name)) in
    subst P (sym same) (All-append (GoesOut e) (all_sent e r.half.kept) (all_sent e (name_left r.half.line r.half.name))
    (all_sent-go e r.half.kept) (all_sent-go e (name_left r.half.line r.half.name)))

pub converted-shown : (e : Target) (bs : List ℕ) → AllPass (may_go_out e) (converted e bs)
unfolding GoesOut
converted-shown e bs =
    let t = fed (first_reader e) bs in
    let first = fed-shows e bs (first_reader e) refl in
    let last = pending-shows e t.reader first.same in
    All-append (GoesOut e) t.bytes (finished t.reader) first.shown
    (All-append (GoesOut e) (pending_heard t.reader).bytes (ended (pending_heard t.reader).reader) last.shown
    (ended-shown e (pending_heard t.reader).reader last.same))
