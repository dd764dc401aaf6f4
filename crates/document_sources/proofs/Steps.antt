-- What is to come stays as it is where a step is made, and a byte of it is given.
use Prim.Native.Char.{code}
use Rattle.std.proofs.Common.{◌≡◌, ℕ, suc, zero, ◌+◌, ◌-◌, ◌<◌, ◌≤◌, List, [], ◌∷◌, ◌++◌, length, take, drop, Option, None, Some, Result, Ok, Err, Bool, true, false, ◌==◌, refl, sym, ◌∙◌, ap, subst, append_assoc, append-nil, length-append, arith, not}
use Rattle.std.proofs.lemmas.List.{drop-append-le, length-drop}
use Rattle.std.proofs.Math.Seq.{take-append_seam}
use Rattle.std.specs.List.{prefix_len, slice_get}
use Rattle.std.proofs.lemmas.Bool.Decides.{nat_tests}
use Rattle.nr_units.specs.Source.{Supply, Gives, Offers, Skips}
use Rattle.nr_units.specs.declared.source.Fault.{Fault}
use Rattle.document_stages.specs.Pulling.{Came, Stays}
use Rattle.document_stages.proofs.Steps.{Came-skip, Stays-same, Skips-none, item-drop, drop_drop}
use Rattle.document_sources.specs.declared.following.Phase.{Phase}
use Rattle.document_sources.specs.declared.following.Phase.TheVariants.{Reads, Ends}
use Rattle.document_sources.specs.declared.following.Phase.TheVariants as phase
use Rattle.document_sources.specs.declared.following.Standing.{Standing}
use Rattle.document_sources.specs.Joining.{Texts, Takes, Follows, Pops, after_byte, coming, ended, follow, going_out, is_line_byte, joined, joined_supply, line_at_hand, line_begun, lines, named, or_after, text_of, to_come, uncertain}

-- ---- what is made of a text

pub joined-lines : (room : ℕ) (texts : Texts) (files left : ℕ) (begins : Bool) (line text : List ℕ)
    → joined room texts files left begins line text ≡ lines room (follow room texts files left) begins line text
joined-lines room texts zero left begins line text = refl
joined-lines room texts (suc files) left begins line text = refl

-- nothing comes of nothing
joined-none : (room : ℕ) (texts : Texts) (files left : ℕ) (begins : Bool) → joined room texts files left begins [] [] ≡ []
joined-none room texts files left true = joined-lines room texts files left true [] []
joined-none room texts files left false = joined-lines room texts files left false [] []

-- ---- a byte of the line came

at_newline : (room : ℕ) (fol : List ℕ → List ℕ → Option (List ℕ)) (begins : Bool) (line rest : List ℕ) (b : ℕ) → (b == code "\n") ≡ true
    → lines room fol begins line (b ∷ rest)
    ≡ ended (λ name. fol name rest) (named begins (line ++ b ∷ [])) (line ++ b ∷ []) (lines room fol true [] rest)
at_newline room fol begins line rest b is = rw is

at_room : (room : ℕ) (fol : List ℕ → List ℕ → Option (List ℕ)) (begins : Bool) (line rest : List ℕ) (b : ℕ) → (b == code "\n") ≡ false
    → (length (line ++ b ∷ []) == room) ≡ true
    → lines room fol begins line (b ∷ rest) ≡ (line ++ b ∷ []) ++ lines room fol false [] rest
at_room room fol begins line rest b other full = rw (other, full)

at_byte : (room : ℕ) (fol : List ℕ → List ℕ → Option (List ℕ)) (begins : Bool) (line rest : List ℕ) (b : ℕ) → (b == code "\n") ≡ false
    → (length (line ++ b ∷ []) == room) ≡ false
    → lines room fol begins line (b ∷ rest) ≡ lines room fol begins (line ++ b ∷ []) rest
at_byte room fol begins line rest b other short = rw (other, short)

came-by : (texts : Texts) (room : ℕ) (s : Standing) (line rest : List ℕ) (b : ℕ) (ends full : Bool)
    → s.phase ≡ Reads → (b == code "\n") ≡ ends → (length (line ++ b ∷ []) == room) ≡ full
    → to_come texts room s Reads line (b ∷ rest)
    ≡ to_come texts room (after_byte ends full s) (after_byte ends full s).phase (line ++ b ∷ []) rest
came-by texts room s line rest b true full reads newline is =
    joined-lines room texts s.files s.left s.begins line (b ∷ rest)
    ∙ at_newline room (follow room texts s.files s.left) s.begins line rest b newline
    ∙ ap (λ (after : List ℕ). ended (λ name. follow room texts s.files s.left name rest) (named s.begins (line ++ b ∷ [])) (line ++ b ∷ []) after)
    (sym (joined-lines room texts s.files s.left true [] rest))
came-by texts room s line rest b false true reads newline is =
    joined-lines room texts s.files s.left s.begins line (b ∷ rest)
    ∙ at_room room (follow room texts s.files s.left) s.begins line rest b newline is
    ∙ ap (λ (after : List ℕ). (line ++ b ∷ []) ++ after) (sym (joined-lines room texts s.files s.left false [] rest))
came-by texts room s line rest b false false reads newline is =
    joined-lines room texts s.files s.left s.begins line (b ∷ rest)
    ∙ at_byte room (follow room texts s.files s.left) s.begins line rest b newline is
    ∙ sym (joined-lines room texts s.files s.left s.begins (line ++ b ∷ []) rest)
    ∙ ap (λ (p : Phase). to_come texts room s p (line ++ b ∷ []) rest) (sym reads)

some-injective : (x y : Supply) → Some x ≡ Some y → x ≡ y
some-injective x y h = cc

-- what is to come at this phase
at_phase : (texts : Texts) (room : ℕ) (s : Standing) (p : Phase) (line rest : List ℕ) → s.phase ≡ p
    → to_come texts room s s.phase line rest ≡ to_come texts room s p line rest
at_phase texts room s p line rest is = ap (λ (q : Phase). to_come texts room s q line rest) is

pub Came-byte : (known : Option Texts) (a b : Option Supply) (room : ℕ) (s : Standing) (line : List ℕ) (byte : ℕ)
    → s.phase ≡ Reads → Gives {E = Fault} a (Ok (Some byte)) b
    → Stays (joined_supply known a room s line)
    (joined_supply known b room (after_byte (byte == code "\n") (length (line ++ byte ∷ []) == room) s) (line ++ byte ∷ []))
Came-byte None a b room s line byte reads gives = tt
Came-byte (Some texts) None b room s line byte reads gives = tt
Came-byte (Some texts) (Some q) None room s line byte reads gives = absurd gives
Came-byte (Some texts) (Some q) (Some t) room s line byte reads gives =
    ap (λ (bytes : List ℕ). Some (uncertain bytes)) (sym (
    at_phase texts room s Reads line q.bytes reads
    ∙ ap (λ (bytes : List ℕ). to_come texts room s Reads line bytes) gives.0
    ∙ came-by texts room s line t.bytes byte (byte == code "\n") (length (line ++ byte ∷ []) == room) reads refl refl
    ))

-- ---- bytes of the line came

not_newline : (b : ℕ) → is_line_byte b ≡ true → (b == code "\n") ≡ false
not_newline b is = elim_not (b == code "\n") is
  where
    elim_not : (t : Bool) → not t ≡ true → t ≡ false
    elim_not true h = absurd (let e : false ≡ true = h in cc)
    elim_not false h = refl

passes : (b : ℕ) (bs : List ℕ) (n : ℕ) → suc n ≤ prefix_len is_line_byte (b ∷ bs) → (t : Bool) → is_line_byte b ≡ t
    → (is_line_byte b ≡ true) × (n ≤ prefix_len is_line_byte bs)
passes b bs n few true is =
    let more : suc n ≤ 1 + prefix_len is_line_byte bs = rw is at few in (is, omega (arith, more))
passes b bs n few false is =
    let none : suc n ≤ 0 = rw is at few in absurd (omega (arith, none))

shorter : (line : List ℕ) (b room n : ℕ) → length line + suc n < room → (length (line ++ b ∷ []) == room) ≡ false
shorter line b room n fits =
    let size = length-append line (b ∷ []) in
    let no_room : length (line ++ b ∷ []) ≡ room → ⊥ = λ is. omega (arith, size, fits, is) in
    grind (arith, nat_tests)

lines-run : (room : ℕ) (fol : List ℕ → List ℕ → Option (List ℕ)) (begins : Bool) (line rest bytes : List ℕ) (n : ℕ)
    → n ≤ prefix_len is_line_byte bytes → length line + n < room
    → lines room fol begins line (take n bytes ++ rest) ≡ lines room fol begins (line ++ take n bytes) rest
lines-run room fol begins line rest [] zero few fits =
    ap (λ (x : List ℕ). lines room fol begins x rest) (sym (append-nil line))
lines-run room fol begins line rest [] (suc n) few fits = absurd (omega (arith, few))
lines-run room fol begins line rest (b ∷ bs) zero few fits =
    ap (λ (x : List ℕ). lines room fol begins x rest) (sym (append-nil line))
lines-run room fol begins line rest (b ∷ bs) (suc n) few fits =
    let both = passes b bs n few (is_line_byte b) refl in
    let size = length-append line (b ∷ []) in
    at_byte room fol begins line (take n bs ++ rest) b (not_newline b both.0) (shorter line b room n fits)
    ∙ lines-run room fol begins (line ++ b ∷ []) rest bs n both.1 (omega (arith, size, fits))
    ∙ ap (λ (x : List ℕ). lines room fol begins x rest) (append_assoc line (b ∷ []) (take n bs))

pub Came-run : (known : Option Texts) (a b : Option Supply) (ahead : List ℕ) (room room' : ℕ) (s s' : Standing) (line line' window : List ℕ) (n : ℕ)
    → s.phase ≡ Reads → ahead ≡ [] → n ≤ length window → n ≤ prefix_len is_line_byte window → length line + n < room
    → Offers a window → Skips a n b → line' ≡ line ++ take n window → room' ≡ room → s' ≡ s
    → Stays (joined_supply known (coming ahead a) room s line) (joined_supply known (coming ahead b) room' s' line')
Came-run known a b ahead room room' s s' line line' window n reads none short few fits offers skips line_is room_is s_is =
    let same : joined_supply known (coming ahead b) room' s' line' ≡ joined_supply known (coming ahead b) room s (line ++ take n window) =
    ap (λ (k : ℕ). joined_supply known (coming ahead b) k s' line') room_is
    ∙ ap (λ (t : Standing). joined_supply known (coming ahead b) room t line') s_is
    ∙ ap (λ (x : List ℕ). joined_supply known (coming ahead b) room s x) line_is in
    subst (λ (z : Option Supply). Stays (joined_supply known (coming ahead a) room s line) z) (sym same)
    (run-came known a b (Came-skip a b window n short offers skips))
  where
    run-came : (k : Option Texts) (x y : Option Supply) → Came x (take n window) y
        → Stays (joined_supply k (coming ahead x) room s line) (joined_supply k (coming ahead y) room s (line ++ take n window))
    run-came None x y came = tt
    run-came (Some texts) None y came = tt
    run-came (Some texts) (Some q) None came = absurd came
    run-came (Some texts) (Some q) (Some t) came =
        ap (λ (bytes : List ℕ). Some (uncertain bytes)) (sym (
        at_phase texts room s Reads line (ahead ++ q.bytes) reads
        ∙ ap (λ (x : List ℕ). to_come texts room s Reads line (x ++ q.bytes)) none
        ∙ ap (λ (x : List ℕ). to_come texts room s Reads line x) came.0
        ∙ joined-lines room texts s.files s.left s.begins line (take n window ++ t.bytes)
        ∙ lines-run room (follow room texts s.files s.left) s.begins line t.bytes window n few fits
        ∙ sym (joined-lines room texts s.files s.left s.begins (line ++ take n window) t.bytes)
        ∙ ap (λ (x : List ℕ). to_come texts room s Reads (line ++ take n window) (x ++ t.bytes)) (sym none)
        ∙ ap (λ (p : Phase). to_come texts room s p (line ++ take n window) (ahead ++ t.bytes)) (sym reads)
        ))

pub Came-pushed : (known : Option Texts) (a b : Option Supply) (room room' : ℕ) (s s' : Standing) (line line' : List ℕ) (byte : ℕ) (full : Bool)
    → s.phase ≡ Reads → Gives {E = Fault} a (Ok (Some byte)) b → line' ≡ line ++ byte ∷ [] → room' ≡ room → full ≡ (length line' == room')
    → s' ≡ after_byte (byte == code "\n") full s
    → Stays (joined_supply known a room s line) (joined_supply known b room' s' line')
Came-pushed known a b room room' s s' line line' byte full reads gives line_is room_is full_is s_is =
    let omissions : full ≡ (length (line ++ byte ∷ []) == room) =
    full_is ∙ ap (λ (xs : List ℕ). length xs == room') line_is ∙ ap (λ (k : ℕ). length (line ++ byte ∷ []) == k) room_is in
    let same : joined_supply known b room' s' line'
    ≡ joined_supply known b room (after_byte (byte == code "\n") (length (line ++ byte ∷ []) == room) s) (line ++ byte ∷ []) =
    ap (λ (k : ℕ). joined_supply known b k s' line') room_is
    ∙ ap (λ (t : Standing). joined_supply known b room t line') (s_is ∙ ap (λ (f : Bool). after_byte (byte == code "\n") f s) omissions)
    ∙ ap (λ (xs : List ℕ). joined_supply known b room (after_byte (byte == code "\n") (length (line ++ byte ∷ []) == room) s) xs) line_is in
    subst (λ (z : Option Supply). Stays (joined_supply known a room s line) z) (sym same) (Came-byte known a b room s line byte reads gives)

-- ---- the end came

pub Came-end : (known : Option Texts) (a b : Option Supply) (room : ℕ) (s : Standing) (line : List ℕ)
    → s.phase ≡ Reads → Gives {E = Fault} a (Ok None) b
    → Stays (joined_supply known a room s line) (joined_supply known b room (after_byte true true s) line)
Came-end None a b room s line reads gives = tt
Came-end (Some texts) None b room s line reads gives = tt
Came-end (Some texts) (Some q) None room s line reads gives = absurd gives
Came-end (Some texts) (Some q) (Some t) room s line reads gives =
    let none : t.bytes ≡ [] = ap (λ (x : Supply). x.bytes) gives.1 ∙ gives.0 in
    ap (λ (bytes : List ℕ). Some (uncertain bytes)) (sym (
    at_phase texts room s Reads line q.bytes reads
    ∙ ap (λ (bytes : List ℕ). to_come texts room s Reads line bytes) gives.0
    ∙ joined-lines room texts s.files s.left s.begins line []
    ∙ ap (λ (after : List ℕ). ended (λ name. follow room texts s.files s.left name []) (named s.begins line) line after)
    (sym (joined-none room texts s.files s.left true))
    ∙ ap (λ (bytes : List ℕ). to_come texts room (after_byte true true s) Ends line bytes) (sym none)
    ))

pub Came-ended : (known : Option Texts) (a b : Option Supply) (room : ℕ) (s s' : Standing) (line : List ℕ)
    → s.phase ≡ Reads → Gives {E = Fault} a (Ok None) b → s' ≡ after_byte true true s
    → Stays (joined_supply known a room s line) (joined_supply known b room s' line)
Came-ended known a b room s s' line reads gives is =
    subst (λ (t : Standing). Stays (joined_supply known a room s line) (joined_supply known b room t line)) (sym is)
    (Came-end known a b room s line reads gives)

pub Came-nothing : (known : Option Texts) (a b : Option Supply) (room : ℕ) (s : Standing) (line : List ℕ)
    → Gives {E = Fault} a (Ok None) b → Stays (joined_supply known a room s line) (joined_supply known b room s line)
Came-nothing None a b room s line gives = tt
Came-nothing (Some texts) None b room s line gives = tt
Came-nothing (Some texts) (Some q) None room s line gives = absurd gives
Came-nothing (Some texts) (Some q) (Some t) room s line gives =
    ap (λ (x : Supply). joined_supply (Some texts) (Some x) room s line) gives.1

pub Came-fault : (known : Option Texts) (a b : Option Supply) (room : ℕ) (s : Standing) (line : List ℕ) (e : Fault)
    → Gives {E = Fault} a (Err e) b → Stays (joined_supply known a room s line) (joined_supply known b room s line)
Came-fault None a b room s line e gives = tt
Came-fault (Some texts) None b room s line e gives = tt
Came-fault (Some texts) (Some q) None room s line e gives = absurd gives
Came-fault (Some texts) (Some q) (Some t) room s line e gives =
    ap (λ (x : Supply). joined_supply (Some texts) (Some x) room s line) gives.0

pub Came-none : (known : Option Texts) (a b : Option Supply) (room : ℕ) (s : Standing) (line : List ℕ)
    → s.phase ≡ Reads → line ≡ [] → Gives {E = Fault} a (Ok None) b
    → Gives {E = Fault} (joined_supply known a room s line) (Ok None) (joined_supply known b room s line)
Came-none None a b room s line reads none gives = tt
Came-none (Some texts) None b room s line reads none gives = tt
Came-none (Some texts) (Some q) None room s line reads none gives = absurd gives
Came-none (Some texts) (Some q) (Some t) room s line reads none gives = (
  at_phase texts room s Reads line q.bytes reads
      ∙ ap (λ (bytes : List ℕ). to_come texts room s Reads line bytes) gives.0
      ∙ ap (λ (held : List ℕ). to_come texts room s Reads held []) none
      ∙ joined-none room texts s.files s.left s.begins,
  ap (λ (x : Supply). uncertain (to_come texts room s s.phase line x.bytes)) gives.1,
  tt,
)

-- what is to come stays as it was, and then a call answers
pub Stays-gives : (a b c : Option Supply) (r : Result (Option ℕ) Fault) → Stays a b → Gives b r c → Gives a r c
Stays-gives None b c r s g = tt
Stays-gives (Some q) b c r s g = subst (λ (z : Option Supply). Gives z r c) s g

-- a call may always fail
pub Fails : (known : Option Texts) (a b : Option Supply) (room : ℕ) (s : Standing) (line : List ℕ) (new : Option Supply) (e : Fault)
    → Stays (joined_supply known a room s line) new → Gives {E = Fault} (joined_supply known a room s line) (Err e) new
Fails None a b room s line new e stays = tt
Fails (Some texts) None b room s line new e stays = tt
Fails (Some texts) (Some q) b room s line new e stays =
    subst (λ (z : Option Supply). Gives {E = Fault} (joined_supply (Some texts) (Some q) room s line) (Err e) z) (sym stays) (refl, tt)

-- ---- a line ends, and another begins

pub Goes-out : (known : Option Texts) (a : Option Supply) (room : ℕ) (s : Standing) (line : List ℕ)
    → s.phase ≡ Ends → None ≡ named s.begins line → Stays (joined_supply known a room s line) (joined_supply known a room (going_out s) line)
Goes-out None a room s line ends is = tt
Goes-out (Some texts) None room s line ends is = tt
Goes-out (Some texts) (Some q) room s line ends is =
    ap (λ (bytes : List ℕ). Some (uncertain bytes)) (sym (
    at_phase texts room s Ends line q.bytes ends
    ∙ ap (λ (name : Option (List ℕ)). ended (λ name. follow room texts s.files s.left name q.bytes) name line (joined room texts s.files s.left true [] q.bytes)) (sym is)
    ))

pub Followed : (known : Option Texts) (known' : Option Texts) (a : Option Supply) (room : ℕ) (s t : Standing) (line name old new : List ℕ)
    → s.phase ≡ Ends → Some name ≡ named s.begins line → known' ≡ known → Follows known name s t old new
    → Stays (joined_supply known (coming old a) room s line) (joined_supply known' (coming new a) room t [])
Followed None known' a room s t line name old new ends is same follows = tt
Followed (Some texts) known' None room s t line name old new ends is same follows = tt
Followed (Some texts) known' (Some q) room s t line name old new ends is same follows =
    ap (λ (k : Option Texts). joined_supply k (coming new (Some q)) room t []) same
    ∙ ap (λ (bytes : List ℕ). Some (uncertain bytes)) (sym (
    at_phase texts room s Ends line (old ++ q.bytes) ends
    ∙ ap (λ (n : Option (List ℕ)). ended (λ m. follow room texts s.files s.left m (old ++ q.bytes)) n line (joined room texts s.files s.left true [] (old ++ q.bytes))) (sym is)
    ∙ follows room q.bytes
    ))

-- the folder was asked, and nothing came of it
pub Not-followed : (known known' : Option Texts) (a : Option Supply) (room : ℕ) (s : Standing) (line old new : List ℕ)
    → known' ≡ known → new ≡ old → Stays (joined_supply known (coming old a) room s line) (joined_supply known' (coming new a) room s line)
Not-followed known known' a room s line old new same is =
    subst (λ (z : Option Supply). Stays (joined_supply known (coming old a) room s line) z)
    (sym (ap (λ (k : Option Texts). joined_supply k (coming new a) room s line) same ∙ ap (λ (x : List ℕ). joined_supply known (coming x a) room s line) is))
    (Stays-same (joined_supply known (coming old a) room s line))

pub Begins-line : (known : Option Texts) (a : Option Supply) (room : ℕ) (s : Standing) (line : List ℕ)
    → s.phase ≡ phase.Gives → drop s.at line ≡ [] → Stays (joined_supply known a room s line) (joined_supply known a room (line_begun s.begins s) [])
Begins-line None a room s line gives is = tt
Begins-line (Some texts) None room s line gives is = tt
Begins-line (Some texts) (Some q) room s line gives is =
    ap (λ (bytes : List ℕ). Some (uncertain bytes)) (sym (
    at_phase texts room s phase.Gives line q.bytes gives
    ∙ ap (λ (first : List ℕ). first ++ joined room texts s.files s.left s.begins [] q.bytes) is
    ))

-- ---- a name is followed

too_many : (files : ℕ) → files ≡ 0 → (room : ℕ) (texts : Texts) (left : ℕ) (name rest after : List ℕ)
    → or_after (follow room texts files left name rest) after ≡ after
too_many zero is room texts left name rest after = refl
too_many (suc files) is room texts left name rest after = absurd (omega (arith, is))

pub Follows-none : (known : Option Texts) (name : List ℕ) (s t : Standing) (old new : List ℕ) → s.files ≡ 0 → t ≡ line_begun true s → new ≡ old
    → Follows known name s t old new
Follows-none None name s t old new many is same = tt
Follows-none (Some texts) name s t old new many is same = λ room rest.
    too_many s.files many room texts s.left name (old ++ rest) (joined room texts s.files s.left true [] (old ++ rest))
    ∙ ap (λ (x : List ℕ). joined room texts s.files s.left true [] (x ++ rest)) (sym same)
    ∙ ap (λ (z : Standing). to_come texts room z z.phase [] (new ++ rest)) (sym is)

one_less : (files : ℕ) → 0 < files → (room : ℕ) (texts : Texts) (left : ℕ) (name rest after : List ℕ)
    → or_after (follow room texts files left name rest) after
    ≡ joined room texts (files - 1) (left - length (text_of texts left name)) true [] (text_of texts left name ++ rest)
one_less zero some room texts left name rest after = absurd (omega (arith, some))
one_less (suc files) some room texts left name rest after =
    let is : files ≡ suc files - 1 = omega arith in
    ap (λ (n : ℕ). joined room texts n (left - length (text_of texts left name)) true [] (text_of texts left name ++ rest)) is

pub Follows-text : (known : Option Texts) (name : List ℕ) (s t : Standing) (old new text : List ℕ) (count : ℕ) → 0 < s.files
    → Takes known name s.left text → count ≡ length text → new ≡ text ++ old
    → t ≡ line_begun true (record s { files = s.files - 1; left = s.left - count }) → Follows known name s t old new
Follows-text None name s t old new text count some takes length_is is same = tt
Follows-text (Some texts) name s t old new text count some takes length_is is same = λ room rest.
    one_less s.files some room texts s.left name (old ++ rest) (joined room texts s.files s.left true [] (old ++ rest))
    ∙ ap (λ (x : List ℕ). joined room texts (s.files - 1) (s.left - length x) true [] (x ++ (old ++ rest))) (sym takes)
    ∙ ap (λ (n : ℕ). joined room texts (s.files - 1) (s.left - n) true [] (text ++ (old ++ rest))) (sym length_is)
    ∙ ap (λ (x : List ℕ). joined room texts (s.files - 1) (s.left - count) true [] x) (sym (append_assoc text old rest))
    ∙ ap (λ (x : List ℕ). joined room texts (s.files - 1) (s.left - count) true [] (x ++ rest)) (sym is)
    ∙ ap (λ (z : Standing). to_come texts room z z.phase [] (new ++ rest)) (sym same)

-- ---- bytes go out

pub Gives-byte : (known : Option Texts) (a : Option Supply) (room : ℕ) (s : Standing) (line : List ℕ) (byte : ℕ)
    → s.phase ≡ phase.Gives → slice_get line s.at ≡ Some byte
    → Gives {E = Fault} (joined_supply known a room s line) (Ok (Some byte)) (joined_supply known a room (record s { at = s.at + 1 }) line)
Gives-byte None a room s line byte gives is = tt
Gives-byte (Some texts) None room s line byte gives is = tt
Gives-byte (Some texts) (Some q) room s line byte gives is = (
  at_phase texts room s phase.Gives line q.bytes gives
      ∙ ap (λ (first : List ℕ). first ++ joined room texts s.files s.left s.begins [] q.bytes) (item-drop line s.at byte is)
      ∙ ap (λ (p : Phase). byte ∷ to_come texts room (record s { at = s.at + 1 }) p line q.bytes) (sym gives),
  refl,
  tt,
)

pub Offers-line : (known : Option Texts) (a : Option Supply) (room : ℕ) (s : Standing) (line : List ℕ)
    → s.phase ≡ phase.Gives → Offers (joined_supply known a room s line) (drop s.at line)
Offers-line None a room s line gives = tt
Offers-line (Some texts) None room s line gives = tt
Offers-line (Some texts) (Some q) room s line gives = (
  ap (λ (bytes : List ℕ). take (length (drop s.at line)) bytes) (at_phase texts room s phase.Gives line q.bytes gives)
      ∙ take-append_seam (drop s.at line) (joined room texts s.files s.left s.begins [] q.bytes),
  tt,
)

pub Offers-none : (known : Option Texts) (a : Option Supply) (room : ℕ) (s : Standing) (line : List ℕ)
    → Offers (joined_supply known a room s line) []
Offers-none None a room s line = tt
Offers-none (Some texts) None room s line = tt
Offers-none (Some texts) (Some q) room s line = (refl, tt)

pub Skips-line : (known : Option Texts) (a : Option Supply) (room : ℕ) (s : Standing) (line : List ℕ) (n : ℕ)
    → s.phase ≡ phase.Gives → n ≤ length (drop s.at line)
    → Skips (joined_supply known a room s line) n (joined_supply known a room (record s { at = s.at + n }) line)
Skips-line None a room s line n gives few = tt
Skips-line (Some texts) None room s line n gives few = tt
Skips-line (Some texts) (Some q) room s line n gives few =
    ap (λ (bytes : List ℕ). Some (uncertain bytes)) (
    ap (λ (p : Phase). to_come texts room (record s { at = s.at + n }) p line q.bytes) gives
    ∙ ap (λ (first : List ℕ). first ++ joined room texts s.files s.left s.begins [] q.bytes) (sym (drop_drop s.at n line))
    ∙ sym (drop-append-le n (drop s.at line) (joined room texts s.files s.left s.begins [] q.bytes) few)
    ∙ ap (λ (bytes : List ℕ). drop n bytes) (sym (at_phase texts room s phase.Gives line q.bytes gives))
    )

pub Skips-none-of : (known : Option Texts) (a : Option Supply) (room : ℕ) (s : Standing) (line : List ℕ) (n : ℕ) → n ≡ 0
    → Skips (joined_supply known a room s line) n (joined_supply known a room (record s { at = s.at + n }) line)
Skips-none-of known a room s line n none =
    let same : s.at + n ≡ s.at = omega (arith, none) in
    subst (λ (k : ℕ). Skips (joined_supply known a room s line) n (joined_supply known a room (record s { at = k }) line)) (sym same)
    (Skips-none (joined_supply known a room s line) n none)

skips-at : (known : Option Texts) (a : Option Supply) (room : ℕ) (s : Standing) (line : List ℕ) (n : ℕ) (p : Phase) → s.phase ≡ p
    → n ≤ length (line_at_hand p s.at line)
    → Skips (joined_supply known a room s line) n (joined_supply known a room (record s { at = s.at + n }) line)
skips-at known a room s line n Reads is few = Skips-none-of known a room s line n (omega (arith, few))
skips-at known a room s line n Ends is few = Skips-none-of known a room s line n (omega (arith, few))
skips-at known a room s line n phase.Gives is few = Skips-line known a room s line n is few

pub Skips-some : (known : Option Texts) (a : Option Supply) (room : ℕ) (s : Standing) (line : List ℕ) (n : ℕ)
    → n ≤ length (line_at_hand s.phase s.at line)
    → Skips (joined_supply known a room s line) n (joined_supply known a room (record s { at = s.at + n }) line)
Skips-some known a room s line n few = skips-at known a room s line n s.phase refl few

pub Within-line : (p : Phase) (at : ℕ) (line : List ℕ) (n : ℕ) → n ≤ length (line_at_hand p at line) → at < length line → at + n ≤ length line
Within-line Reads at line n few short = omega (arith, few, short)
Within-line Ends at line n few short = omega (arith, few, short)
Within-line phase.Gives at line n few short = omega (arith, few, short, length-drop at line)

none_over : (p : Phase) (at : ℕ) (line : List ℕ) (n : ℕ) → n ≤ length (line_at_hand p at line) → length line ≤ at → n ≡ 0
none_over Reads at line n few over = omega (arith, few)
none_over Ends at line n few over = omega (arith, few)
none_over phase.Gives at line n few over = omega (arith, few, over, length-drop at line)

pub Skips-nothing : (known : Option Texts) (a : Option Supply) (room : ℕ) (s : Standing) (line : List ℕ) (n : ℕ)
    → n ≤ length (line_at_hand s.phase s.at line) → length line ≤ s.at
    → Skips (joined_supply known a room s line) n (joined_supply known a room s line)
Skips-nothing known a room s line n few over =
    Skips-none (joined_supply known a room s line) n (none_over s.phase s.at line n few over)

-- ---- bytes that come first

pub Pops-gives : (known : Option Supply) (old new : List ℕ) (byte : ℕ) → Pops old (Some byte) new
    → Gives {E = Fault} (coming old known) (Ok (Some byte)) (coming new known)
Pops-gives None old new byte is = tt
Pops-gives (Some q) old new byte is = (ap (λ (x : List ℕ). x ++ q.bytes) is, refl, tt)

pub None-first : (a b : Option Supply) (old new : List ℕ) (r : Result (Option ℕ) Fault) → Pops old None new → Gives a r b
    → Gives (coming old a) r (coming new b)
None-first None b old new r is gives = tt
None-first (Some q) None old new r is gives = absurd gives
None-first (Some q) (Some t) old new (Ok (Some byte)) is gives =
    let first : old ++ q.bytes ≡ q.bytes = ap (λ (x : List ℕ). x ++ q.bytes) is.0 in
    let rest : new ++ t.bytes ≡ t.bytes = ap (λ (x : List ℕ). x ++ t.bytes) (is.1 ∙ is.0) in
    (first ∙ gives.0 ∙ ap (λ (x : List ℕ). byte ∷ x) (sym rest), refl, tt)
None-first (Some q) (Some t) old new (Ok None) is gives =
    let first : old ++ q.bytes ≡ q.bytes = ap (λ (x : List ℕ). x ++ q.bytes) is.0 in
    (first ∙ gives.0, ap (λ (x : List ℕ). uncertain (x ++ t.bytes)) is.1 ∙ ap (λ (x : Supply). uncertain (old ++ x.bytes)) gives.1, tt)
None-first (Some q) (Some t) old new (Err e) is gives =
    (ap (λ (x : List ℕ). uncertain (x ++ t.bytes)) is.1 ∙ ap (λ (x : Supply). uncertain (old ++ x.bytes)) gives.0, tt)
