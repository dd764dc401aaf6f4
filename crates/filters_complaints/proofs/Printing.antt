-- What is reported of a name prints.
use Rattle.std.proofs.Common.{◌≡◌, ℕ, List, [], ◌∷◌, Bool, true, false, ◌&&◌, if◌then◌else◌, map, refl, ◌∙◌, ap}
use Rattle.std.specs.List.{list_all}
use Prim.Native.Char.{code}
use Rattle.filters_complaints.specs.Names.{is_printing, printable_byte}

byte-by : (t : Bool) (b : ℕ) → is_printing b ≡ t → is_printing (if t then b else code "?") ≡ true
byte-by true b e = e
byte-by false b e = refl

byte-prints : (b : ℕ) → is_printing (printable_byte b) ≡ true
byte-prints b = byte-by (is_printing b) b refl

pub all-print : (bs : List ℕ) → list_all is_printing (map printable_byte bs) ≡ true
all-print [] = refl
all-print (b ∷ bs) = ap (λ (t : Bool). t && list_all is_printing (map printable_byte bs)) (byte-prints b) ∙ all-print bs

pub printable-print : (bs xs : List ℕ) → xs ≡ map printable_byte bs → list_all is_printing xs ≡ true
printable-print bs xs e = ap (λ (zs : List ℕ). list_all is_printing zs) e ∙ all-print bs
