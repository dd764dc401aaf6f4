-- The letters of a word are read, between quotes or not: they are kept, or said where more come than are kept.
use Rattle.std.proofs.Common.{◌≡◌, ℕ, ◌≤◌, ◌+◌, List, [], ◌∷◌, ◌++◌, length, Bool, true, false, not, ◌&&◌, ◌||◌, ◌==◌, if◌then◌else◌, Option, None, Some, refl, sym, ◌∙◌, ap, subst, append_assoc, append-nil, length-append, arith}
use Rattle.std.proofs.lemmas.Bool.Decides.{nat_tests}
use Rattle.std.specs.Prelude.{codes}
use Prim.Native.Char.{code}
use Rattle.mdoc_layout.specs.declared.acts.Act.TheVariants as acts
use Rattle.mdoc_layout.specs.declared.page.Escape.{Escape as Reached}
use Rattle.mdoc_layout.specs.declared.page.Page.{Page}
use Rattle.mdoc_layout.specs.declared.page.Scan.{Scan}
use Rattle.mdoc_layout.specs.declared.page.Scan.TheVariants as scans
use Rattle.mdoc_words.specs.Calls.{tab}
use Rattle.mdoc_words.specs.Rules.{is_none, with_scan}
use Rattle.mdoc_words.specs.Words.{goes_to}
use Rattle.mdoc_words.specs.Keeping.{ends_in_hyphen, ends_word, in_named, in_word_of, is_whole, within_escape, word_begins}
use Rattle.mdoc_layout.specs.LayingOut.{lay_out}
use Rattle.mdoc_converter.specs.Reading.{State, said}
use Rattle.mdoc_converter.specs.Saying.{parts_of, words_of}
use Rattle.mdoc_converter.specs.Scanning.{between, offer, offer_at}
use Rattle.mdoc_layout.specs.Seeing.{Offered, offered, left, taken}
use Rattle.mdoc_converter.specs.WrittenLines.{Letter, Plain, Escape, reached_after, is_hyphen, is_letter, are_letters, bytes_of, kept, kept_first, kept_in, kept_letter, written}
use Rattle.mdoc_converter.proofs.Escapes.{and_left, and_right, same_byte}
use Rattle.mdoc_converter.proofs.After.{after, after-append, next-state}
use Rattle.mdoc_converter.proofs.KeptWords.{Grown, grown_following, grown_escaped, grown_first, grown_quote}
use Rattle.mdoc_converter.proofs.Offering.{with_page, Leads, Takes, then_takes, leads_by, takes_by}
use Rattle.mdoc_converter.proofs.Stepping.{In, Manner, in_as}
use Rattle.mdoc_converter.proofs.TextSaid.{next-words, or_left, or_right}
use Rattle.mdoc_converter.proofs.Together.{same_whole}
use Rattle.mdoc_converter.proofs.Ways.{first_last, first_some, letter_last, letter_some}
use Rattle.mdoc_converter.proofs.WordRoom.{no_quote, not_ending}

-- So many bytes of a word were read: what was said meanwhile, what is kept of it, and the marks that are held back. `first` is that
-- nothing is kept yet, and `hyphen` that a hyphen was the last.
pub record Read (head : Manner) (quoted whole : Bool) (s : State) (scan : Scan) (bs marks all : List ℕ) (first hyphen : Bool) : Type 0 where
  pub going : Bool
  pub next : State
  pub xs : List ℕ
  pub word : List ℕ
  pub held : List ℕ
  pub said : (rest : List ℕ) → words_of (parts_of s (bs ++ rest)) ≡ xs ++ words_of (parts_of next rest)
  pub state : after s bs ≡ next
  pub at : In going head next scan word held
  pub together : (quoted && is_whole next.page) ≡ whole
  pub total : xs ++ (held ++ word) ≡ marks ++ all
  pub clear : going ≡ true → held ≡ []
  pub long : going ≡ true → 30 ≤ length all
  pub silent : going ≡ false → xs ≡ []
  pub same : going ≡ false → word ≡ all
  pub same_marks : going ≡ false → held ≡ marks
  pub is_first : is_none word ≡ first
  pub is_hyphen : ends_in_hyphen word ≡ hyphen

-- ---- a byte more

total_by : (t : Bool) (xs held word piece marks all : List ℕ) → xs ++ (held ++ word) ≡ marks ++ all
    → (xs ++ (if t then held ++ word else [])) ++ ((if t then [] else held) ++ (if t then piece else word ++ piece)) ≡ marks ++ (all ++ piece)
total_by true xs held word piece marks all e = ap (λ (zs : List ℕ). zs ++ piece) e ∙ append_assoc marks all piece
total_by false xs held word piece marks all e =
    ap (λ (zs : List ℕ). zs ++ (held ++ (word ++ piece))) (append-nil xs)
    ∙ ap (λ (zs : List ℕ). xs ++ zs) (sym (append_assoc held word piece)) ∙ sym (append_assoc xs (held ++ word) piece)
    ∙ ap (λ (zs : List ℕ). zs ++ piece) e ∙ append_assoc marks all piece

clear_by : (t g : Bool) (held : List ℕ) → (g ≡ true → held ≡ []) → (t || g) ≡ true → (if t then [] else held) ≡ []
clear_by true g held f h = refl
clear_by false g held f h = f h

longer : (all piece : List ℕ) → 30 ≤ length all → 30 ≤ length (all ++ piece)
longer all piece l = let whole : length (all ++ piece) ≡ length all + length piece = length-append all piece in omega arith

long_by : (t g : Bool) (word all piece : List ℕ) → (t ≡ true → 30 ≤ length word) → (g ≡ true → 30 ≤ length all) → (g ≡ false → word ≡ all)
    → (t || g) ≡ true → 30 ≤ length (all ++ piece)
long_by t true word all piece f i j h = longer all piece (i refl)
long_by true false word all piece f i j h = longer all piece (subst (λ (w : List ℕ). 30 ≤ length w) (j refl) (f refl))
long_by false false word all piece f i j h = absurd (let no : false ≡ true = h in cc)

no_false : {A : Type 0} → true ≡ false → A
no_false h = absurd (let no : true ≡ false = h in cc)

silent_by : (t g : Bool) (xs zs : List ℕ) → (g ≡ false → xs ≡ []) → (t || g) ≡ false → xs ++ (if t then zs else []) ≡ []
silent_by true g xs zs f h = no_false h
silent_by false g xs zs f h = append-nil xs ∙ f h

same_by : (t g : Bool) (word all piece : List ℕ) → (g ≡ false → word ≡ all) → (t || g) ≡ false → (if t then piece else word ++ piece) ≡ all ++ piece
same_by true g word all piece f h = no_false h
same_by false g word all piece f h = ap (λ (zs : List ℕ). zs ++ piece) (f h)

marks_by : (t g : Bool) (held marks : List ℕ) → (g ≡ false → held ≡ marks) → (t || g) ≡ false → (if t then [] else held) ≡ marks
marks_by true g held marks f h = no_false h
marks_by false g held marks f h = f h

some_more : (word piece : List ℕ) → is_none piece ≡ false → is_none (word ++ piece) ≡ false
some_more [] piece e = e
some_more (x ∷ xs) piece e = grind (arith, nat_tests)

first_by : (t : Bool) (word piece : List ℕ) → is_none piece ≡ false → is_none (if t then piece else word ++ piece) ≡ false
first_by true word piece e = e
first_by false word piece e = some_more word piece e

hyphen_by : (t y : Bool) (word piece : List ℕ) → ((w : List ℕ) → ends_in_hyphen (w ++ piece) ≡ y) → ends_in_hyphen (if t then piece else word ++ piece) ≡ y
hyphen_by true y word piece f = f []
hyphen_by false y word piece f = f word

few_enough : (k : ℕ) → k ≤ 6 → k ≤ 16
few_enough k l = omega arith

-- what was read and a byte after it
then_byte : (head : Manner) (quoted whole : Bool) (s : State) (scan scan2 : Scan) (b : ℕ) (bs marks all piece : List ℕ) (first hyphen y : Bool)
    (r : Read head quoted whole s scan bs marks all first hyphen) (g : Grown r.going head b r.next scan2 r.word r.held piece)
    → is_none piece ≡ false → ((w : List ℕ) → ends_in_hyphen (w ++ piece) ≡ y)
    → Read head quoted whole s scan2 (bs ++ b ∷ []) marks (all ++ piece) false y
then_byte head quoted whole s scan scan2 b bs marks all piece first hyphen y r g some last =
    let ys = if g.out then r.held ++ r.word else [] in
    let few = few_enough g.steps g.few in
    record {
      going = g.out || r.going;
      next = g.next;
      xs = r.xs ++ ys;
      word = if g.out then piece else r.word ++ piece;
      held = if g.out then [] else r.held;
      said = λ rest.
          ap (λ (zs : List ℕ). words_of (parts_of s zs)) (append_assoc bs (b ∷ []) rest) ∙ r.said (b ∷ rest)
          ∙ ap (λ (zs : List ℕ). r.xs ++ zs) (next-words b rest r.next g.next g.steps ys _ few g.takes refl)
          ∙ sym (append_assoc r.xs ys (words_of (parts_of g.next rest)));
      state =
          after-append s bs (b ∷ []) ∙ ap (λ (t : State). after t (b ∷ [])) r.state ∙ next-state b [] r.next g.next g.steps ys few g.takes;
      at = g.at;
      together = ap (λ (t : Bool). quoted && t) g.whole ∙ r.together;
      total = total_by g.out r.xs r.held r.word piece marks all r.total;
      clear = clear_by g.out r.going r.held r.clear;
      long = long_by g.out r.going r.word all piece g.long r.long r.same;
      silent = silent_by g.out r.going r.xs (r.held ++ r.word) r.silent;
      same = same_by g.out r.going r.word all piece r.same;
      same_marks = marks_by g.out r.going r.held marks r.same_marks;
      is_first = first_by g.out r.word piece some;
      is_hyphen = hyphen_by g.out y r.word piece last;
    }

-- a byte of which nothing is kept
then_scan : (head : Manner) (quoted whole : Bool) (s t : State) (scan scan2 : Scan) (b : ℕ) (bs marks all : List ℕ) (first hyphen : Bool)
    (r : Read head quoted whole s scan bs marks all first hyphen) → Takes b r.next t 1 [] → In r.going head t scan2 r.word r.held
    → is_whole t.page ≡ is_whole r.next.page → Read head quoted whole s scan2 (bs ++ b ∷ []) marks all first hyphen
then_scan head quoted whole s t scan scan2 b bs marks all first hyphen r takes at same = record {
  going = r.going;
  next = t;
  xs = r.xs;
  word = r.word;
  held = r.held;
  said = λ rest.
      ap (λ (zs : List ℕ). words_of (parts_of s zs)) (append_assoc bs (b ∷ []) rest) ∙ r.said (b ∷ rest)
      ∙ ap (λ (zs : List ℕ). r.xs ++ zs) (next-words b rest r.next t 1 [] _ (omega arith) takes refl);
  state = after-append s bs (b ∷ []) ∙ ap (λ (u : State). after u (b ∷ [])) r.state ∙ next-state b [] r.next t 1 [] (omega arith) takes;
  at = at;
  together = ap (λ (x : Bool). quoted && x) same ∙ r.together;
  total = r.total;
  clear = r.clear;
  long = r.long;
  silent = r.silent;
  same = r.same;
  same_marks = r.same_marks;
  is_first = r.is_first;
  is_hyphen = r.is_hyphen;
}

read_as : (head : Manner) (quoted whole : Bool) (s : State) (scan : Scan) (bs bs2 marks all all2 : List ℕ) (first hyphen : Bool) → bs ≡ bs2 → all ≡ all2
    → Read head quoted whole s scan bs marks all first hyphen → Read head quoted whole s scan bs2 marks all2 first hyphen
read_as head quoted whole s scan bs bs2 marks all all2 first hyphen e f r =
    subst (λ (ys : List ℕ). Read head quoted whole s scan bs2 marks ys first hyphen) f
    (subst (λ (xs : List ℕ). Read head quoted whole s scan xs marks all first hyphen) e r)

-- ---- a backslash, and a quote between quotes

slash_offered : (quoted : Bool) (reached : Option Reached) (going : Bool) (head : Manner) (s : State) (word marks : List ℕ) → In going head s (in_named reached quoted) word marks
    → offer (code "\\") s.page ≡ offered (with_scan (goes_to (within_escape quoted)) s.page) (taken acts.Nothing)
unfolding offer
slash_offered true None going head s word marks at = ap (λ (sc : Scan). offer_at sc (code "\\") s.page) at.scan_is
slash_offered false None going head s word marks at = ap (λ (sc : Scan). offer_at sc (code "\\") s.page) at.scan_is
slash_offered true (Some reached) going head s word marks at = ap (λ (sc : Scan). offer_at sc (code "\\") s.page) at.scan_is
slash_offered false (Some reached) going head s word marks at = ap (λ (sc : Scan). offer_at sc (code "\\") s.page) at.scan_is

then_slash : (reached : Option Reached) (head : Manner) (quoted whole : Bool) (s : State) (bs marks all : List ℕ) (first hyphen : Bool)
    → Read head quoted whole s (in_named reached quoted) bs marks all first hyphen
    → Read head quoted whole s (goes_to (within_escape quoted)) (bs ++ codes "\\") marks all first hyphen
unfolding said lay_out
then_slash reached head quoted whole s bs marks all first hyphen r =
    let p = r.next.page in
    let scan = goes_to (within_escape quoted) in
    let q = with_scan scan p in
    then_scan head quoted whole s (with_page q r.next) (in_named reached quoted) scan (code "\\") bs marks all first hyphen r
    (takes_by (code "\\") r.next q q acts.Nothing acts.Nothing acts.Nothing [] (slash_offered quoted reached r.going head r.next r.word r.held r.at) refl refl)
    (in_as r.going head r.next q (in_named reached quoted) scan r.word r.word r.held r.at refl r.at.word_is refl refl refl refl refl refl refl)
    (same_whole p q refl refl)

closing_offered : (reached : Option Reached) (going : Bool) (head : Manner) (s : State) (word marks : List ℕ) → In going head s (in_named reached true) word marks
    → offer (code "\"") s.page ≡ offered (with_scan scans.Closing s.page) (taken acts.Nothing)
unfolding offer
closing_offered None going head s word marks at = ap (λ (sc : Scan). offer_at sc (code "\"") s.page) at.scan_is
closing_offered (Some reached) going head s word marks at = ap (λ (sc : Scan). offer_at sc (code "\"") s.page) at.scan_is

then_quote : (reached : Option Reached) (head : Manner) (whole : Bool) (s : State) (bs marks all : List ℕ) (first hyphen : Bool)
    → Read head true whole s (in_named reached true) bs marks all first hyphen → Read head true whole s scans.Closing (bs ++ codes "\"") marks all first hyphen
unfolding said lay_out
then_quote reached head whole s bs marks all first hyphen r =
    let p = r.next.page in
    let q = with_scan scans.Closing p in
    then_scan head true whole s (with_page q r.next) (in_named reached true) scans.Closing (code "\"") bs marks all first hyphen r
    (takes_by (code "\"") r.next q q acts.Nothing acts.Nothing acts.Nothing [] (closing_offered reached r.going head r.next r.word r.held r.at) refl refl)
    (in_as r.going head r.next q (in_named reached true) scans.Closing r.word r.word r.held r.at refl r.at.word_is refl refl refl refl refl refl refl)
    (same_whole p q refl refl)

-- ---- a letter more

-- an escape
then_escape : (b : ℕ) (reached : Option Reached) (head : Manner) (quoted whole : Bool) (s : State) (bs marks all : List ℕ) (first hyphen : Bool)
    → Read head quoted whole s (in_named reached quoted) bs marks all first hyphen → is_letter quoted (Escape b) ≡ true
    → Read head quoted whole s (in_named (reached_after reached (Escape b)) quoted) (bs ++ bytes_of quoted (Escape b)) marks (all ++ code "\\" ∷ b ∷ []) false (b == code "-")
then_escape b reached head quoted whole s bs marks all first hyphen r h =
    let here = in_named (reached_after reached (Escape b)) quoted in
    let slash = then_slash reached head quoted whole s bs marks all first hyphen r in
    let piece = code "\\" ∷ b ∷ [] in
    read_as head quoted whole s here ((bs ++ codes "\\") ++ b ∷ []) (bs ++ piece) marks (all ++ piece) (all ++ piece) false (b == code "-")
    (append_assoc bs (codes "\\") (b ∷ [])) refl
    (then_byte head quoted whole s (goes_to (within_escape quoted)) here b (bs ++ codes "\\") marks all piece first hyphen (b == code "-") slash
    (grown_escaped quoted slash.going head b slash.next slash.word slash.held slash.at slash.clear h) refl
    (λ w. letter_last head.way whole reached false (Escape b) w))

-- two quotes
then_two : (reached : Option Reached) (head : Manner) (whole : Bool) (s : State) (bs marks all : List ℕ) (first hyphen : Bool)
    → Read head true whole s (in_named reached true) bs marks all first hyphen
    → Read head true whole s scans.Quoted (bs ++ codes "\"\"") marks (all ++ codes "\"") false false
then_two reached head whole s bs marks all first hyphen r =
    let one = then_quote reached head whole s bs marks all first hyphen r in
    read_as head true whole s scans.Quoted ((bs ++ codes "\"") ++ codes "\"") (bs ++ codes "\"\"") marks (all ++ codes "\"") (all ++ codes "\"") false false
    (append_assoc bs (codes "\"") (codes "\"")) refl
    (then_byte head true whole s scans.Closing scans.Quoted (code "\"") (bs ++ codes "\"") marks all (codes "\"") first hyphen false one
    (grown_quote one.going head one.next one.word one.held one.at one.clear) refl
    (λ w. letter_last head.way whole None false (Plain (code "\"")) w))

-- by whether it is a quote between quotes
plain_bytes : Bool → ℕ → List ℕ
plain_bytes t b = if t then codes "\"\"" else b ∷ []

two_after : (reached : Option Reached) (following : Bool) (head : Manner) (whole : Bool) (s : State) (bs marks all : List ℕ)
    → Read head true whole s (in_named reached true) bs marks all false following
    → Read head true whole s (in_named (reached_after reached (Plain (code "\""))) true) (bs ++ codes "\"\"") marks
    (all ++ kept_letter head.way whole reached following (Plain (code "\""))) false false
two_after None following head whole s bs marks all r = then_two None head whole s bs marks all false following r
two_after (Some reached) following head whole s bs marks all r = then_two (Some reached) head whole s bs marks all false following r

after_by : (t : Bool) (b : ℕ) (reached : Option Reached) (following : Bool) (head : Manner) (quoted whole : Bool) (s : State) (bs marks all : List ℕ)
    → Read head quoted whole s (in_named reached quoted) bs marks all false following → is_letter quoted (Plain b) ≡ true → (quoted && (b == code "\"")) ≡ t
    → Read head quoted whole s (in_named (reached_after reached (Plain b)) quoted) (bs ++ plain_bytes t b) marks
    (all ++ kept_letter head.way whole reached following (Plain b)) false (b == code "-")
unfolding plain_bytes
after_by true b reached following head true whole s bs marks all r h e =
    subst (λ (k : ℕ). Read head true whole s (in_named (reached_after reached (Plain k)) true) (bs ++ codes "\"\"") marks
    (all ++ kept_letter head.way whole reached following (Plain k)) false (k == code "-"))
    (same_byte b (code "\"") e) (two_after reached following head whole s bs marks all r)
after_by true b reached following head false whole s bs marks all r h e = absurd (let no : false ≡ true = e in cc)
after_by false b reached following head quoted whole s bs marks all r h e =
    then_byte head quoted whole s (in_named reached quoted) (in_named (reached_after reached (Plain b)) quoted) b bs marks all
    (kept_letter head.way whole reached following (Plain b)) false following (b == code "-") r
    (grown_following reached following quoted r.going whole head b r.next r.word r.held r.at r.clear r.together h e r.is_first r.is_hyphen)
    (letter_some head.way whole reached following (Plain b)) (λ w. letter_last head.way whole reached following (Plain b) w)

letter_after : (l : Letter) (reached : Option Reached) (following : Bool) (head : Manner) (quoted whole : Bool) (s : State) (bs marks all : List ℕ)
    → Read head quoted whole s (in_named reached quoted) bs marks all false following → is_letter quoted l ≡ true
    → Read head quoted whole s (in_named (reached_after reached l) quoted) (bs ++ bytes_of quoted l) marks
    (all ++ kept_letter head.way whole reached following l) false (is_hyphen l)
unfolding plain_bytes
letter_after (Plain b) reached following head quoted whole s bs marks all r h =
    after_by (quoted && (b == code "\"")) b reached following head quoted whole s bs marks all r h refl
letter_after (Escape b) reached following head quoted whole s bs marks all r h = then_escape b reached head quoted whole s bs marks all false following r h

first_plain : (t : Bool) (b : ℕ) (hyphen : Bool) (head : Manner) (quoted whole : Bool) (s : State) (bs marks all : List ℕ)
    → Read head quoted whole s (in_word_of quoted) bs marks all true hyphen → is_letter quoted (Plain b) ≡ true → (quoted && (b == code "\"")) ≡ t
    → Read head quoted whole s (in_word_of quoted) (bs ++ plain_bytes t b) marks (all ++ kept_first whole (Plain b)) false (b == code "-")
unfolding plain_bytes
first_plain true b hyphen head true whole s bs marks all r h e =
    subst (λ (k : ℕ). Read head true whole s scans.Quoted (bs ++ codes "\"\"") marks (all ++ kept_first whole (Plain k)) false (k == code "-"))
    (same_byte b (code "\"") e) (then_two None head whole s bs marks all true hyphen r)
first_plain true b hyphen head false whole s bs marks all r h e = absurd (let no : false ≡ true = e in cc)
first_plain false b hyphen head quoted whole s bs marks all r h e =
    then_byte head quoted whole s (in_word_of quoted) (in_word_of quoted) b bs marks all (kept_first whole (Plain b)) true hyphen (b == code "-") r
    (grown_first quoted r.going whole head b r.next r.word r.held r.at r.clear r.together h e r.is_first)
    (first_some whole (Plain b)) (λ w. first_last whole (Plain b) w)

letter_first : (l : Letter) (hyphen : Bool) (head : Manner) (quoted whole : Bool) (s : State) (bs marks all : List ℕ)
    → Read head quoted whole s (in_word_of quoted) bs marks all true hyphen → is_letter quoted l ≡ true
    → Read head quoted whole s (in_named (reached_after None l) quoted) (bs ++ bytes_of quoted l) marks (all ++ kept_first whole l) false (is_hyphen l)
unfolding plain_bytes
letter_first (Plain b) hyphen head quoted whole s bs marks all r h = first_plain (quoted && (b == code "\"")) b hyphen head quoted whole s bs marks all r h refl
letter_first (Escape b) hyphen head quoted whole s bs marks all r h = then_escape b None head quoted whole s bs marks all true hyphen r h

-- ---- all letters

-- a word was read
pub record Spelled (head : Manner) (quoted whole : Bool) (s : State) (scan : Scan) (bs marks all : List ℕ) : Type 0 where
  pub first : Bool
  pub hyphen : Bool
  pub read : Read head quoted whole s scan bs marks all first hyphen

-- and an escape that has not ended may be the last of it
pub record Lettered (head : Manner) (quoted whole : Bool) (s : State) (bs marks all : List ℕ) : Type 0 where
  pub reached : Option Reached
  pub spelled : Spelled head quoted whole s (in_named reached quoted) bs marks all

spelled_as : (head : Manner) (quoted whole : Bool) (s : State) (scan : Scan) (bs bs2 marks all all2 : List ℕ) → bs ≡ bs2 → all ≡ all2
    → Spelled head quoted whole s scan bs marks all → Spelled head quoted whole s scan bs2 marks all2
spelled_as head quoted whole s scan bs bs2 marks all all2 e f w =
    record { first = w.first; hyphen = w.hyphen; read = read_as head quoted whole s scan bs bs2 marks all all2 w.first w.hyphen e f w.read }

lettered_as : (head : Manner) (quoted whole : Bool) (s : State) (bs bs2 marks all all2 : List ℕ) → bs ≡ bs2 → all ≡ all2
    → Lettered head quoted whole s bs marks all → Lettered head quoted whole s bs2 marks all2
lettered_as head quoted whole s bs bs2 marks all all2 e f w =
    record { reached = w.reached; spelled = spelled_as head quoted whole s (in_named w.reached quoted) bs bs2 marks all all2 e f w.spelled }

letters_after : (ls : List Letter) (reached : Option Reached) (following : Bool) (head : Manner) (quoted whole : Bool) (s : State) (bs marks all : List ℕ)
    → Read head quoted whole s (in_named reached quoted) bs marks all false following → are_letters quoted ls ≡ true
    → Lettered head quoted whole s (bs ++ written quoted ls) marks (all ++ kept_in head.way whole reached following ls)
letters_after [] reached following head quoted whole s bs marks all r h = record {
  reached = reached;
  spelled = record {
    first = false;
    hyphen = following;
    read = read_as head quoted whole s (in_named reached quoted) bs (bs ++ []) marks all (all ++ []) false following (sym (append-nil bs)) (sym (append-nil all)) r;
  };
}
letters_after (l ∷ ls) reached following head quoted whole s bs marks all r h =
    let bytes = bytes_of quoted l in
    let piece = kept_letter head.way whole reached following l in
    let later = kept_in head.way whole (reached_after reached l) (is_hyphen l) ls in
    let one = letter_after l reached following head quoted whole s bs marks all r (and_left (is_letter quoted l) (are_letters quoted ls) h) in
    lettered_as head quoted whole s ((bs ++ bytes) ++ written quoted ls) (bs ++ (bytes ++ written quoted ls)) marks ((all ++ piece) ++ later) (all ++ (piece ++ later))
    (append_assoc bs bytes (written quoted ls)) (append_assoc all piece later)
    (letters_after ls (reached_after reached l) (is_hyphen l) head quoted whole s (bs ++ bytes) marks (all ++ piece) one
    (and_right (is_letter quoted l) (are_letters quoted ls) h))

-- ---- a word begins

unfoldable pub between_by : Bool → Bool → Bool → Bool → Bool → Page → Offered
between_by comment blank tabbed newline quote p =
    if comment then offered (with_scan scans.Dropped p) (left acts.Nothing) else
    if blank then offered p (taken acts.Nothing) else
    if tabbed then tab p else
    if newline then offered (with_scan scans.Ends p) (left acts.Nothing) else
    if quote then word_begins scans.Quoted (taken acts.Nothing) p else word_begins scans.Word (left acts.Nothing) p

between_is : (b : ℕ) (p : Page)
    → between b p ≡ between_by p.call.comment (b == code " ") (b == code "\t") (b == code "\n") (b == code "\"") p
unfolding between_by
between_is b p = refl

pub between_offered : (head : Manner) (b : ℕ) (s : State) (word marks : List ℕ) → In false head s scans.Between word marks
    → offer b s.page ≡ between_by false (b == code " ") (b == code "\t") (b == code "\n") (b == code "\"") s.page
unfolding offer
between_offered head b s word marks at =
    ap (λ (sc : Scan). offer_at sc b s.page) at.scan_is ∙ between_is b s.page
    ∙ ap (λ (t : Bool). between_by t (b == code " ") (b == code "\t") (b == code "\n") (b == code "\"") s.page) at.comment

pub not_of : (t : Bool) → t ≡ false → not t ≡ true
not_of t e = ap not e

begun : Bool → Page → Page
begun quoted p = with_scan (in_word_of quoted) (record p { word = []; call = record p.call { width = 0 } })

begun_leads : (head : Manner) (b : ℕ) (s : State) (word marks : List ℕ) → In false head s scans.Between word marks → ends_word b ≡ false
    → (b == code "\"") ≡ false → Leads b s (with_page (begun false s.page) s) 1 []
unfolding between_by begun said lay_out
begun_leads head b s word marks at no_end quote =
    let p = s.page in
    let blank_or = (b == code " ") || (b == code "\t") in
    let other = not_of (ends_word b) no_end in
    let no_blank = not_of blank_or (or_left blank_or (b == code "\n") other) in
    leads_by b s (begun false p) (begun false p) acts.Nothing acts.Nothing acts.Nothing []
    (between_offered head b s word marks at
    ∙ ap (λ (t : Bool). between_by false t (b == code "\t") (b == code "\n") (b == code "\"") p) (or_left (b == code " ") (b == code "\t") no_blank)
    ∙ ap (λ (t : Bool). between_by false false t (b == code "\n") (b == code "\"") p) (or_right (b == code " ") (b == code "\t") no_blank)
    ∙ ap (λ (t : Bool). between_by false false false t (b == code "\"") p) (or_right blank_or (b == code "\n") other)
    ∙ ap (λ (t : Bool). between_by false false false false t p) quote)
    refl refl

begun_at : (quoted : Bool) (head : Manner) (s : State) (word marks : List ℕ) → In false head s scans.Between word marks
    → In false head (with_page (begun quoted s.page) s) (in_word_of quoted) [] marks
unfolding begun
begun_at quoted head s word marks at =
    in_as false head s (begun quoted s.page) scans.Between (in_word_of quoted) word [] marks at refl refl refl refl refl refl refl refl refl

-- of a word so much was read, at its beginning
opened : (head : Manner) (quoted whole : Bool) (s t : State) (k : ℕ) (scan : Scan) (b : ℕ) (marks : List ℕ) → k ≤ 16 → Takes b s t k []
    → In false head t scan [] marks → (quoted && is_whole t.page) ≡ whole → Read head quoted whole s scan (b ∷ []) marks [] true false
opened head quoted whole s t k scan b marks few takes at together = record {
  going = false;
  next = t;
  xs = [];
  word = [];
  held = marks;
  said = λ rest. next-words b rest s t k [] _ few takes refl;
  state = next-state b [] s t k [] few takes;
  at = at;
  together = together;
  total = refl;
  clear = λ h. absurd (let no : false ≡ true = h in cc);
  long = λ h. absurd (let no : false ≡ true = h in cc);
  silent = λ h. refl;
  same = λ h. refl;
  same_marks = λ h. refl;
  is_first = refl;
  is_hyphen = refl;
}

seven : (k : ℕ) → k ≤ 6 → 1 + k ≤ 16
seven k l = omega arith

-- the first letter, not between quotes
bare_first : (l : Letter) (head : Manner) (s : State) (word marks : List ℕ) → In false head s scans.Between word marks → is_letter false l ≡ true
    → Read head false false s (in_named (reached_after None l) false) (bytes_of false l) marks (kept_first false l) false (is_hyphen l)
unfolding begun said lay_out
bare_first (Plain b) head s word marks at h =
    let t = with_page (begun false s.page) s in
    let inner = begun_at false head s word marks at in
    let g = grown_first false false false head b t [] marks inner (λ e. absurd (let no : false ≡ true = e in cc)) refl h refl refl in
    let piece = kept_first false (Plain b) in
    let ys = if g.out then marks ++ [] else [] in
    let few = seven g.steps g.few in
    let takes = then_takes b s t g.next 1 g.steps [] ys (begun_leads head b s word marks at (not_ending b h) (no_quote b h)) g.takes in
    record {
      going = g.out || false;
      next = g.next;
      xs = ys;
      word = if g.out then piece else piece;
      held = if g.out then [] else marks;
      said = λ rest. next-words b rest s g.next (1 + g.steps) ys _ few takes refl;
      state = next-state b [] s g.next (1 + g.steps) ys few takes;
      at = g.at;
      together = refl;
      total = total_by g.out [] marks [] piece marks [] refl;
      clear = clear_by g.out false marks (λ e. absurd (let no : false ≡ true = e in cc));
      long = long_by g.out false [] [] piece g.long (λ e. absurd (let no : false ≡ true = e in cc)) (λ e. refl);
      silent = silent_by g.out false [] (marks ++ []) (λ e. refl);
      same = same_by g.out false [] [] piece (λ e. refl);
      same_marks = marks_by g.out false marks marks (λ e. refl);
      is_first = first_by g.out [] piece (first_some false (Plain b));
      is_hyphen = hyphen_by g.out (b == code "-") [] piece (λ w. first_last false (Plain b) w);
    }
bare_first (Escape b) head s word marks at h =
    let slash = code "\\" in
    let t = with_page (begun false s.page) s in
    let inner = begun_at false head s word marks at in
    let q = with_scan scans.Escape t.page in
    let piece = slash ∷ b ∷ [] in
    let taken_slash = takes_by slash t q q acts.Nothing acts.Nothing acts.Nothing [] (slash_offered false None false head t [] marks inner) refl refl in
    let start = opened head false false s (with_page q t) (1 + 1) scans.Escape slash marks (omega arith)
    (then_takes slash s t (with_page q t) 1 1 [] [] (begun_leads head slash s word marks at refl refl) taken_slash)
    (in_as false head t q scans.Word scans.Escape [] [] marks inner refl refl refl refl refl refl refl refl refl) refl in
    then_byte head false false s scans.Escape (in_named (reached_after None (Escape b)) false) b (slash ∷ []) marks [] piece true false (b == code "-") start
    (grown_escaped false start.going head b start.next start.word start.held start.at start.clear h) refl
    (λ w. letter_last head.way false None false (Escape b) w)

pub read_bare : (l : Letter) (ls : List Letter) (head : Manner) (s : State) (word marks : List ℕ) → In false head s scans.Between word marks
    → are_letters false (l ∷ ls) ≡ true → Lettered head false false s (written false (l ∷ ls)) marks (kept head.way false (l ∷ ls))
read_bare l ls head s word marks at h =
    letters_after ls (reached_after None l) (is_hyphen l) head false false s (bytes_of false l) marks (kept_first false l)
    (bare_first l head s word marks at (and_left (is_letter false l) (are_letters false ls) h)) (and_right (is_letter false l) (are_letters false ls) h)

-- ---- a word between quotes

begun_takes : (head : Manner) (s : State) (word marks : List ℕ) → In false head s scans.Between word marks → Takes (code "\"") s (with_page (begun true s.page) s) 1 []
unfolding between_by begun said lay_out
begun_takes head s word marks at =
    takes_by (code "\"") s (begun true s.page) (begun true s.page) acts.Nothing acts.Nothing acts.Nothing [] (between_offered head (code "\"") s word marks at) refl refl

letters_quoted : (ls : List Letter) (head : Manner) (whole : Bool) (s : State) (marks : List ℕ) → Read head true whole s scans.Quoted (codes "\"") marks [] true false
    → are_letters true ls ≡ true → Lettered head true whole s (code "\"" ∷ written true ls) marks (kept head.way whole ls)
letters_quoted [] head whole s marks r h = record { reached = None; spelled = record { first = true; hyphen = false; read = r } }
letters_quoted (l ∷ ls) head whole s marks r h =
    let bytes = bytes_of true l in
    letters_after ls (reached_after None l) (is_hyphen l) head true whole s (code "\"" ∷ bytes) marks (kept_first whole l)
    (letter_first l false head true whole s (codes "\"") marks [] r (and_left (is_letter true l) (are_letters true ls) h))
    (and_right (is_letter true l) (are_letters true ls) h)

-- its blanks stay together or not
pub record Quoted (head : Manner) (s : State) (ls : List Letter) (marks : List ℕ) : Type 0 where
  pub whole : Bool
  pub spelled : Spelled head true whole s scans.Closing (code "\"" ∷ written true ls ++ codes "\"") marks (kept head.way whole ls)

pub read_quoted : (ls : List Letter) (head : Manner) (s : State) (word marks : List ℕ) → In false head s scans.Between word marks → are_letters true ls ≡ true
    → Quoted head s ls marks
read_quoted ls head s word marks at h =
    let t = with_page (begun true s.page) s in
    let whole = is_whole t.page in
    let start = opened head true whole s t 1 scans.Quoted (code "\"") marks (omega arith) (begun_takes head s word marks at) (begun_at true head s word marks at) refl in
    let all = letters_quoted ls head whole s marks start h in
    record {
      whole = whole;
      spelled = record {
        first = all.spelled.first;
        hyphen = all.spelled.hyphen;
        read =
            then_quote all.reached head whole s (code "\"" ∷ written true ls) marks (kept head.way whole ls) all.spelled.first all.spelled.hyphen
            all.spelled.read;
      };
    }
