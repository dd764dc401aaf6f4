-- One more option.
use Rattle.std.proofs.Common.{◌≡◌, ℕ, Bool, true, false, ◌||◌, List, [], ◌∷◌, ◌++◌, Option, Some, refl, sym, ap, ◌∙◌, arith, append-nil, length-append}
use Rattle.std.proofs.lemmas.List.Elements.{filter_map-append}
use Rattle.std.specs.List.{last_or, list_any, fold, AllZip}
use Rattle.nr_command_options.specs.Settings.{Meaning, PrintOnly, BeginAt, SetRegister, ReadMacros, MacrosIn, ReadInput, ShowFaces, SetLimit}
use Rattle.nr_command_options.specs.Arguments.{AreFew, asked_by, last_of}
use Rattle.nr_command_options.specs.Job.{Taken, OnlyMeans, HasRoom, with_meaning}

pub last_of-append : {A : Type 0} (d : A) (xs : List A) (x : A) → last_of d (xs ++ x ∷ []) ≡ x
last_of-append d [] x = refl
last_of-append d (y ∷ xs) x = last_of-append y xs x

pub last_or-append : {A : Type 0} (o : Option A) (xs : List A) (x : A) → last_or o (xs ++ x ∷ []) ≡ Some x
last_or-append o [] x = refl
last_or-append o (y ∷ xs) x = last_or-append (Some y) xs x

pub fold-append : {A B : Type 0} (f : B → A → B) (b : B) (xs : List A) (x : A) → fold f b (xs ++ x ∷ []) ≡ f (fold f b xs) x
fold-append f b [] x = refl
fold-append f b (y ∷ xs) x = fold-append f (f b y) xs x

or_assoc : (a b c : Bool) → (a || b) || c ≡ a || (b || c)
or_assoc true b c = refl
or_assoc false b c = refl

or-true : (a : Bool) → a || true ≡ true
or-true true = refl
or-true false = refl

or-false : (a : Bool) → a || false ≡ a
or-false true = refl
or-false false = refl

-- an option among others
pub list_any-more : {A : Type 0} (p : A → Bool) (xs : List A) (x : A) → list_any p (xs ++ x ∷ []) ≡ (list_any p xs || (p x || false))
list_any-more p [] x = refl
list_any-more p (y ∷ xs) x = ap (λ (b : Bool). p y || b) (list_any-more p xs x) ∙ sym (or_assoc (p y) (list_any p xs) (p x || false))

-- what the options so far ask for, and one more
pub asked_by-more : (meanings : List Meaning) (meaning : Meaning) (files : List (List ℕ)) → asked_by (meanings ++ meaning ∷ []) files ≡ with_meaning meaning (asked_by meanings files)
asked_by-more meanings (PrintOnly pages) files = simp (filter_map-append, append-nil, last_or-append, list_any-more, or-false)
asked_by-more meanings (BeginAt n) files = simp (filter_map-append, append-nil, last_of-append, list_any-more, or-false)
asked_by-more meanings (SetRegister name n) files = simp (filter_map-append, append-nil, list_any-more, or-false)
asked_by-more meanings (ReadMacros name) files = simp (filter_map-append, append-nil, list_any-more, or-false)
asked_by-more meanings (MacrosIn folder) files = simp (filter_map-append, append-nil, last_of-append, list_any-more, or-false)
asked_by-more meanings ReadInput files = simp (filter_map-append, append-nil, list_any-more, or-false, or-true)
asked_by-more meanings ShowFaces files = simp (filter_map-append, append-nil, last_of-append, list_any-more, or-false)
asked_by-more meanings (SetLimit which n) files = simp (filter_map-append, append-nil, fold-append, list_any-more, or-false)

-- one more where there is room leaves few
pub AreFew-more : (meanings : List Meaning) (meaning : Meaning) (files : List (List ℕ)) → AreFew meanings → HasRoom (asked_by meanings files) meaning → AreFew (meanings ++ meaning ∷ [])
AreFew-more meanings (SetRegister name n) files few room = record {
  registers = simp (filter_map-append, length-append) (omega (arith, few.registers, room));
  macros = simp (filter_map-append, append-nil) few.macros;
}
AreFew-more meanings (ReadMacros name) files few room = record {
  registers = simp (filter_map-append, append-nil) few.registers;
  macros = simp (filter_map-append, length-append) (omega (arith, few.macros, room));
}
AreFew-more meanings other files few room = record {
  registers = simp (filter_map-append, append-nil) few.registers;
  macros = simp (filter_map-append, append-nil) few.macros;
}

-- two lists place by place, and one more place
pub AllZip-more : {A B : Type 0} (R : A → B → Type 0) (xs : List A) (ys : List B) (x : A) (y : B) → AllZip R xs ys → R x y → AllZip R (xs ++ x ∷ []) (ys ++ y ∷ [])
AllZip-more R [] [] x y all last = (last, tt)
AllZip-more R [] (z ∷ ys) x y all last = absurd all
AllZip-more R (z ∷ xs) [] x y all last = absurd all
AllZip-more R (w ∷ xs) (z ∷ ys) x y all last = (all.0, AllZip-more R xs ys x y all.1 last)

-- no word was taken
pub Taken-nil : (files : List (List ℕ)) → Taken [] files (asked_by [] files)
Taken-nil files = record { meanings = []; meant = tt; few = record { registers = omega arith; macros = omega arith }; asked_is = refl }

-- one more was
pub Taken-more : (words files : List (List ℕ)) (old new : _) (word : List ℕ) (meaning : Meaning) → Taken words files old → OnlyMeans meaning word → HasRoom old meaning → new ≡ with_meaning meaning old → Taken (words ++ word ∷ []) files new
Taken-more words files old new word meaning taken only room is = record {
  meanings = taken.meanings ++ meaning ∷ [];
  meant = AllZip-more OnlyMeans taken.meanings words meaning word taken.meant only;
  few = AreFew-more taken.meanings meaning files taken.few (rw taken.asked_is at room);
  asked_is = is ∙ ap (with_meaning meaning) taken.asked_is ∙ sym (asked_by-more taken.meanings meaning files);
}
