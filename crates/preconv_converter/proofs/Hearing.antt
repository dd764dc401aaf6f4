-- A character is offered until it is taken; one beyond ASCII in a text line is taken at once.
use Rattle.std.proofs.Common.{◌≡◌, ℕ, suc, ◌-◌, ◌<◌, List, [], ◌++◌, Bool, true, false, if◌then◌else◌, refl, sym, ◌∙◌, ap, append-nil, arith}
use Rattle.preconv_characters.specs.declared.said.Said.TheVariants.{Character}
use Rattle.preconv_lines.specs.declared.half.Half.{Half}
use Rattle.preconv_lines.specs.declared.half.Seen.{Seen}
use Rattle.preconv_lines.specs.declared.half.Coming.{Coming}
use Rattle.preconv_lines.specs.declared.half.Coming.TheVariants.{Wide}
use Rattle.preconv_converter.specs.declared.reader.Reader.{Reader}
use Rattle.preconv_lines.specs.Half.{Offered, offered, taken}
use Rattle.preconv_characters.specs.Saying.{bytes_of}
use Rattle.preconv_lines.specs.Offering.{offer}
use Rattle.preconv_converter.specs.Reading.{Emitted, emitted, preceded, with_half, heard_in, heard}

-- what comes of one meeting
after_offered : ℕ → Coming → Reader → Offered → Emitted
after_offered k c r m = preceded (bytes_of r.table m.said) 1 (if m.takes then emitted (with_half m.half r) [] 0 else heard_in k c (with_half m.half r))

offered_once : (n : ℕ) (c : Coming) (r : Reader) (h : Half) (seen : Seen) → offered h seen ≡ offer c r.half → 0 < n
    → heard_in n c r ≡ after_offered (n - 1) c r (offered h seen)
unfolding after_offered
offered_once n c r h seen p l =
    let e : n ≡ suc (n - 1) = omega arith in
    ap (λ (k : ℕ). heard_in k c r) e ∙ ap (after_offered (n - 1) c r) (sym p)

pub heard_taken : (n : ℕ) (c : Coming) (r : Reader) (h : Half) (seen : Seen) → offered h seen ≡ offer c r.half → 0 < n → seen.takes ≡ true
    → heard_in n c r ≡ emitted (with_half h r) (bytes_of r.table seen.said ++ []) 1
unfolding after_offered
heard_taken n c r h seen p l takes =
    offered_once n c r h seen p l
    ∙ ap (λ (b : Bool). preceded (bytes_of r.table seen.said) 1 (if b then emitted (with_half h r) [] 0 else heard_in (n - 1) c (with_half h r))) takes

pub heard_left : (n : ℕ) (c : Coming) (r : Reader) (h : Half) (seen : Seen) → offered h seen ≡ offer c r.half → 0 < n → seen.takes ≡ false
    → heard_in n c r ≡ preceded (bytes_of r.table seen.said) 1 (heard_in (n - 1) c (with_half h r))
unfolding after_offered
heard_left n c r h seen p l takes =
    offered_once n c r h seen p l
    ∙ ap (λ (b : Bool). preceded (bytes_of r.table seen.said) 1 (if b then emitted (with_half h r) [] 0 else heard_in (n - 1) c (with_half h r))) takes

pub wide_heard : (c : ℕ) (r : Reader) (h : Half) → taken (Character c) h ≡ offer (Wide c) r.half → heard (Wide c) r ≡ emitted (with_half h r) (bytes_of r.table (Character c)) 1
unfolding heard
wide_heard c r h e =
    heard_taken 6 (Wide c) r h (record { said = Character c; takes = true }) e (omega arith) refl
    ∙ ap (λ (bytes : List ℕ). emitted (with_half h r) bytes 1) (append-nil (bytes_of r.table (Character c)))
