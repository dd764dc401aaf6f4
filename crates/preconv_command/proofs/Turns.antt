-- What came of a text is what a stage makes of it.
use Rattle.std.proofs.Common.{◌≡◌, ℕ, List, [], ◌++◌, Bool, true, false, Option, Some, None, refl, sym, ap, subst, ◌∙◌, append-nil, inl, inr, codes}
use Rattle.std.specs.Borrow.{Bor}
use Rattle.std.proofs.KnownBytes.{Appends-trans}
use Rattle.nr_units.proofs.Prefixes.{AppendsPrefix-after}
use Rattle.nr_units.specs.Failures.{SinkFailures, put_counted_if}
use Rattle.nr_units.specs.Source.{Supply, reader_supply}
use Rattle.preconv_coding.specs.UnderCoding as coding
use Rattle.document_stages.specs.Pulling.{Came}
use Rattle.document_stages.specs.Running as runs
use Rattle.document_stages.specs.declared.running.RunEnd.{RunEnd}
use Rattle.document_stages.specs.declared.running.RunEnd.TheVariants as outcomes
use Rattle.filters.specs.Turning.{Begins, Filter, IsAll, Turned, is_write_fault, text_left}
use Rattle.filters.specs.declared.endings.Ending.{Ending}
use Rattle.filters.specs.declared.endings.Ending.TheVariants.{Done, Complained, TooLong, ReadFault, WriteFault, BadWord, CannotOpen, CannotRead, OutOfMemory}
use Rattle.preconv_command.specs.Converting.{Ended, PutsEnd, complained_by, ending_of}

-- what a filter makes of texts whose stage says this
abbrev pub saying : (Bool → List ℕ → List ℕ) → Filter
saying says = record {
  text_of = coding.text_of;
  whole = says true;
  begun = says false;
  may_end_line = true;
  complains = λ text. None;
  is_naming = true;
}

came : (says : Bool → List ℕ → List ℕ) (left : Option (List ℕ)) (last : Option Supply) (bytes : List ℕ) → Came (coding.text_supply (reader_supply left)) bytes last
    → Begins (text_left (saying says) left) bytes
came says None last bytes comes = tt
came says (Some all) None bytes comes = absurd comes
came says (Some all) (Some t) bytes comes = (t.bytes, comes.0)

came_all : (says : Bool → List ℕ → List ℕ) (left : Option (List ℕ)) (last : Option Supply) (bytes : List ℕ) → Came (coding.text_supply (reader_supply left)) bytes last
    → runs.Ends (coding.text_supply (reader_supply left)) last → IsAll (text_left (saying says) left) bytes
came_all says None last bytes comes ends = tt
came_all says (Some all) None bytes comes ends = absurd comes
came_all says (Some all) (Some t) bytes comes ends = sym (comes.0 ∙ ap (λ (l : List ℕ). bytes ++ l) ends ∙ append-nil bytes)

-- by how its line was ended
by_end : (fine : Bool) (says : Bool → List ℕ → List ℕ) (counts : Bool → List ℕ → ℕ) (wants : ℕ) (name : Bor (List ℕ)) (left : Option (List ℕ))
    (last : Option Supply) (held between new : Option (List ℕ)) (count : ℕ) (outcome : RunEnd)
    → runs.Ran says counts wants (coding.text_supply (reader_supply left)) last held between count outcome → PutsEnd fine outcome between new
    → Turned (saying says) (record { name = name.now; left = left }) held new (ending_of fine name outcome)
by_end true says counts wants name left last held between new count outcomes.Done ran puts = record {
  text = ran.bytes;
  all = came_all says left last ran.bytes ran.came ran.ends;
  end = puts.0;
  may_end = puts.1;
  went_out = Appends-trans held between new (says true ran.bytes) puts.0 ran.went_out puts.2;
  complains = tt;
}
by_end false says counts wants name left last held between new count outcomes.Done ran puts = record {
  text = ran.bytes;
  first = came says left last ran.bytes ran.came;
  end = codes "\n";
  may_end = inr refl;
  went_out = inl (AppendsPrefix-after held between new (says true ran.bytes) (codes "\n") ran.went_out puts);
}
by_end fine says counts wants name left last held between new count (outcomes.ReadFault at) ran puts = (
  refl,
  record {
    text = ran.bytes;
    first = came says left last ran.bytes ran.came;
    count = ran.at_is;
    went_out = rw puts ran.went_out;
  },
)
by_end fine says counts wants name left last held between new count outcomes.TooLong ran puts = (
  refl,
  record {
    text = ran.bytes;
    first = came says left last ran.bytes ran.came;
    count = ran.at_is;
    went_out = rw puts ran.went_out;
  },
)
by_end fine says counts wants name left last held between new count outcomes.WriteFault ran puts = record {
  text = ran.bytes;
  first = came says left last ran.bytes ran.came;
  end = [];
  may_end = inl refl;
  went_out = inl (rw puts (rw (append-nil (says true ran.bytes)) ran.went_out));
}

pub turned : (says : Bool → List ℕ → List ℕ) (counts : Bool → List ℕ → ℕ) (wants : ℕ) (name : Bor (List ℕ)) (left : Option (List ℕ)) (first last : Option Supply)
    (held between new : Option (List ℕ)) (count : ℕ) (outcome : RunEnd) (ending : Ending) → first ≡ coding.text_supply (reader_supply left)
    → runs.Ran says counts wants first last held between count outcome → Ended outcome name between new ending
    → Turned (saying says) (record { name = name.now; left = left }) held new ending
turned says counts wants name left first last held between new count outcome ending supply ran ended =
    rw ended.ending_is (by_end ended.fine says counts wants name left last held between new count outcome
    (subst (λ (s : Option Supply). runs.Ran says counts wants s last held between count outcome) supply ran) ended.puts)

-- it was complained of
pub complained_of : (says : Bool → List ℕ → List ℕ) (name : List ℕ) (left held new : Option (List ℕ)) (ending : Ending)
    → Turned (saying says) (record { name = name; left = left }) held new ending
    → Turned (saying says) (record { name = name; left = left }) held new (complained_by ending)
complained_of says name left held new Done t = record { text = t.text; all = t.all; end = t.end; may_end = t.may_end; went_out = t.went_out; complains = tt }
complained_of says name left held new Complained t = t
complained_of says name left held new (TooLong n) t = t
complained_of says name left held new (ReadFault n at) t = t
complained_of says name left held new WriteFault t = t
complained_of says name left held new (BadWord what word) t = absurd t
complained_of says name left held new (CannotOpen n) t = absurd t
complained_of says name left held new (CannotRead n) t = absurd t
complained_of says name left held new OutOfMemory t = absurd t

-- ---- failed calls

same_fault : (ending : Ending) → is_write_fault (complained_by ending) ≡ is_write_fault ending
same_fault Done = refl
same_fault Complained = refl
same_fault (TooLong n) = refl
same_fault (ReadFault n at) = refl
same_fault WriteFault = refl
same_fault (BadWord what word) = refl
same_fault (CannotOpen n) = refl
same_fault (CannotRead n) = refl
same_fault OutOfMemory = refl

still_fault : (fine : Bool) (name : Bor (List ℕ)) (outcome : RunEnd) → runs.is_write_fault outcome ≡ true → is_write_fault (ending_of fine name outcome) ≡ true
still_fault fine name outcomes.WriteFault is = refl
still_fault fine name outcomes.Done is = cc
still_fault fine name (outcomes.ReadFault at) is = cc
still_fault fine name outcomes.TooLong is = cc

-- counted by the conversion, or at the end of the line
by_fault : (is : Bool) (outcome : RunEnd) (name : Bor (List ℕ)) (between new : Option (List ℕ)) (ending : Ending) (old mid last : SinkFailures)
    → runs.is_write_fault outcome ≡ is → Ended outcome name between new ending → mid ≡ put_counted_if is old
    → (runs.is_write_fault outcome ≡ false → last ≡ put_counted_if (is_write_fault ending) mid)
    → (runs.is_write_fault outcome ≡ true → last ≡ mid) → last ≡ put_counted_if (is_write_fault ending) old
by_fault true outcome name between new ending old mid last is ended counted later same =
    let fault : is_write_fault ending ≡ true = ap is_write_fault ended.ending_is ∙ still_fault ended.fine name outcome is in
    same is ∙ counted ∙ ap (λ (b : Bool). put_counted_if b old) (sym fault)
by_fault false outcome name between new ending old mid last is ended counted later same =
    later is ∙ ap (λ (f : SinkFailures). put_counted_if (is_write_fault ending) f) counted

pub failures : (outcome : RunEnd) (name : Bor (List ℕ)) (between new : Option (List ℕ)) (ending : Ending) (old mid last : SinkFailures)
    → Ended outcome name between new ending → mid ≡ put_counted_if (runs.is_write_fault outcome) old
    → (runs.is_write_fault outcome ≡ false → last ≡ put_counted_if (is_write_fault ending) mid)
    → (runs.is_write_fault outcome ≡ true → last ≡ mid) → last ≡ put_counted_if (is_write_fault ending) old
failures outcome name between new ending old mid last = by_fault (runs.is_write_fault outcome) outcome name between new ending old mid last refl

pub complained_failures : (ending : Ending) (old last : SinkFailures) → last ≡ put_counted_if (is_write_fault ending) old
    → last ≡ put_counted_if (is_write_fault (complained_by ending)) old
complained_failures ending old last is = is ∙ ap (λ (b : Bool). put_counted_if b old) (sym (same_fault ending))
