-- What goes out of a text, and how many bytes are dropped, is what comes of its parts.
use Rattle.std.proofs.Common.{◌≡◌, ℕ, ◌+◌, ◌^◌, ◌<◌, List, [], ◌∷◌, ◌++◌, length, take, get_or, Bool, true, false, refl, sym, ◌∙◌, ap, append_assoc, append-nil, arith}
use Rattle.document_stages.specs.Running.{at_most}
use Rattle.document_stages.proofs.Runs as runs
use Rattle.utf8_converter.specs.declared.reader.Reader.{Reader}
use Rattle.utf8_converter.specs.Reading.{Emitted, ended, fed, read}
use Rattle.utf8_converter.specs.Spelling.{Fills, Reads}
use Rattle.utf8_converter.specs.Staged.{ReadsSome, counted, said, strays_said}
use Rattle.utf8_converter.proofs.Reading.{fed-append_bytes, fed-append_reader, fed-append_strays}

-- ---- some are read

pub at_most-none : (i : ℕ) → i < 2 ^ 64 → i ≡ at_most (i + 0)
at_most-none i l = omega (arith, l)

-- cells
pub some-cells : (r s : Reader) (bs : List ℕ) (n : ℕ) (room : List ℕ) (end i : ℕ) → i < 2 ^ 64 → 0 < n → Reads r s bs n room end → ReadsSome r s bs n room end i i
some-cells r s bs n room end i l some reads = record {
  some = some;
  within = reads.within;
  reader = sym (ap (λ (t : Emitted). t.reader) reads.all);
  out = sym (ap (λ (t : Emitted). t.bytes) reads.all);
  made = at_most-none i l ∙ ap (λ (k : ℕ). at_most (i + k)) (sym (ap (λ (t : Emitted). t.strays) reads.all));
}

none-read : (r s : Reader) (bs : List ℕ) (n : ℕ) (room : List ℕ) (end : ℕ) → n ≡ 0 → Reads r s bs n room end → s ≡ r
none-read r s bs n room end zero reads = sym (ap (λ (t : Emitted). t.reader) reads.all) ∙ ap (λ (k : ℕ). (fed r (take k bs)).reader) zero

one_byte : (bs : List ℕ) → 0 < length bs → take 1 bs ≡ get_or bs 0 0 ∷ []
one_byte [] some = absurd (omega (arith, some))
one_byte (b ∷ bs) some = refl

none_more : (n : ℕ) → n + 0 ≡ n
none_more n = omega arith

-- one byte, where no cell was read before
pub some-byte : (r q s : Reader) (bs : List ℕ) (n : ℕ) (before : List ℕ) (begun : ℕ) (old room : List ℕ) (end i j k : ℕ) → n ≡ 0 → Reads r q bs n before begun → 0 < length bs
    → Fills (read (get_or bs 0 0) q) s old 0 room end k → j ≡ at_most (i + k) → ReadsSome r s bs 1 room end i j
some-byte r q s bs n before begun old room end i j k zero reads some fills count =
    let b = get_or bs 0 0 in
    let same : q ≡ r = none-read r q bs n before begun zero reads in
    let one = one_byte bs some in
    let strays : k ≡ (fed r (take 1 bs)).strays =
    fills.made ∙ ap (λ (x : Reader). (read b x).strays) same ∙ sym (none_more (read b r).strays) ∙ ap (λ (xs : List ℕ). (fed r xs).strays) (sym one) in
    record {
      some = omega arith;
      within = omega (arith, some);
      reader = fills.reader ∙ ap (λ (x : Reader). (read b x).reader) same ∙ ap (λ (xs : List ℕ). (fed r xs).reader) (sym one);
      out =
          fills.put ∙ ap (λ (x : Reader). (read b x).bytes) same ∙ sym (append-nil (read b r).bytes)
          ∙ ap (λ (xs : List ℕ). (fed r xs).bytes) (sym one);
      made = count ∙ ap (λ (m : ℕ). at_most (i + m)) strays;
    }

-- ---- what is said of the parts

said-parts : (r : Reader) (ends : Bool) (xs ys : List ℕ) → said r ends (xs ++ ys) ≡ (fed r xs).bytes ++ said (fed r xs).reader ends ys
said-parts r true xs ys =
    ap (λ (z : List ℕ). z ++ (ended (fed r (xs ++ ys)).reader).bytes) (fed-append_bytes r xs ys)
    ∙ ap (λ (s : Reader). ((fed r xs).bytes ++ (fed (fed r xs).reader ys).bytes) ++ (ended s).bytes) (fed-append_reader r xs ys)
    ∙ append_assoc (fed r xs).bytes (fed (fed r xs).reader ys).bytes (ended (fed (fed r xs).reader ys).reader).bytes
said-parts r false xs ys = fed-append_bytes r xs ys

plus_assoc : (a b c : ℕ) → a + b + c ≡ a + (b + c)
plus_assoc a b c = omega arith

strays-parts : (r : Reader) (ends : Bool) (xs ys : List ℕ) → strays_said r ends (xs ++ ys) ≡ (fed r xs).strays + strays_said (fed r xs).reader ends ys
strays-parts r true xs ys =
    ap (λ (k : ℕ). k + (ended (fed r (xs ++ ys)).reader).strays) (fed-append_strays r xs ys)
    ∙ ap (λ (s : Reader). ((fed r xs).strays + (fed (fed r xs).reader ys).strays) + (ended s).strays) (fed-append_reader r xs ys)
    ∙ plus_assoc (fed r xs).strays (fed (fed r xs).reader ys).strays (ended (fed (fed r xs).reader ys).reader).strays
strays-parts r false xs ys = fed-append_strays r xs ys

-- of those that were read
pub said-some : (r s : Reader) (bs : List ℕ) (n : ℕ) (room : List ℕ) (end i j : ℕ) (waits items : List ℕ) → ReadsSome r s bs n room end i j → items ≡ waits ++ take end room
    → (ends : Bool) → (ys : List ℕ) → waits ++ said r ends (take n bs ++ ys) ≡ items ++ said s ends ys
said-some r s bs n room end i j waits items t out ends ys =
    let xs = take n bs in
    ap (λ (z : List ℕ). waits ++ z) (said-parts r ends xs ys) ∙ sym (append_assoc waits (fed r xs).bytes (said (fed r xs).reader ends ys))
    ∙ ap (λ (z : List ℕ). z ++ said (fed r xs).reader ends ys) (sym (out ∙ ap (λ (z : List ℕ). waits ++ z) t.out))
    ∙ ap (λ (z : Reader). items ++ said z ends ys) (sym t.reader)

pub counted-some : (r s : Reader) (bs : List ℕ) (n : ℕ) (room : List ℕ) (end i j : ℕ) → ReadsSome r s bs n room end i j
    → (ends : Bool) → (ys : List ℕ) → counted i r ends (take n bs ++ ys) ≡ counted j s ends ys
counted-some r s bs n room end i j t ends ys =
    let xs = take n bs in
    ap (λ (m : ℕ). at_most (i + m)) (strays-parts r ends xs ys)
    ∙ runs.at_most-more i (fed r xs).strays (strays_said (fed r xs).reader ends ys)
    ∙ ap (λ (m : ℕ). at_most (m + strays_said (fed r xs).reader ends ys)) (sym t.made)
    ∙ ap (λ (z : Reader). at_most (j + strays_said z ends ys)) (sym t.reader)
