-- Tests and what follows of them.
use Rattle.std.proofs.Common.{◌≡◌, ℕ, ◌+◌, ◌<◌, ◌≤◌, Bool, true, false, not, ◌&&◌, ◌||◌, ◌==◌, nat_lt, nat_le, if◌then◌else◌, Option, None, Some, refl, arith}
use Rattle.std.proofs.lemmas.Bool.Decides.{nat_tests}

pub no_bool : {A : Type 0} → true ≡ false → A
no_bool e = absurd (let no : true ≡ false = e in cc)

pub no_some : {A B : Type 0} (x : A) → ◌≡◌ {A = Option A} None (Some x) → B
no_some x e = absurd (let no : None ≡ Some x = e in cc)

pub and_first : (x y : Bool) → x && y ≡ true → x ≡ true
and_first true y p = refl
and_first false y p = p

pub and_second : (x y : Bool) → x && y ≡ true → y ≡ true
and_second true y p = p
and_second false y p = absurd (let no : false ≡ true = p in cc)

pub and_true : (x y : Bool) → x ≡ true → y ≡ true → x && y ≡ true
and_true true y p q = q
and_true false y p q = absurd (let no : false ≡ true = p in cc)

pub and_false : (x y : Bool) → x ≡ false → x && y ≡ false
and_false true y p = absurd (let no : true ≡ false = p in cc)
and_false false y p = refl

pub and_not : (x y : Bool) → y ≡ false → x && y ≡ false
and_not true y p = p
and_not false y p = refl

pub or_second : (x y : Bool) → x ≡ false → x || y ≡ true → y ≡ true
or_second true y p q = absurd (let no : true ≡ false = p in cc)
or_second false y p q = q

pub or_true : (x y : Bool) → y ≡ true → x || y ≡ true
or_true true y p = refl
or_true false y p = p

pub or_left : (x y : Bool) → x ≡ true → x || y ≡ true
or_left true y p = refl
or_left false y p = absurd (let no : false ≡ true = p in cc)

pub or_none : (x y : Bool) → x ≡ false → y ≡ false → x || y ≡ false
or_none true y p q = p
or_none false y p q = q

pub not_true : (x : Bool) → not x ≡ true → x ≡ false
not_true true p = absurd (let no : false ≡ true = p in cc)
not_true false p = refl

pub not_so : (x : Bool) → x ≡ false → not x ≡ true
not_so true p = absurd (let no : true ≡ false = p in cc)
not_so false p = refl

pub not_both : {A : Type 0} (x : Bool) → x ≡ true → x ≡ false → A
not_both true p q = absurd (let no : true ≡ false = q in cc)
not_both false p q = absurd (let no : false ≡ true = p in cc)

pub if_not : {A : Type 0} (x : Bool) (o u : A) → x ≡ false → (if x then o else u) ≡ u
if_not true o u p = absurd (let no : true ≡ false = p in cc)
if_not false o u p = refl

pub if_so : {A : Type 0} (x : Bool) (o u : A) → x ≡ true → (if x then o else u) ≡ o
if_so true o u p = refl
if_so false o u p = absurd (let no : false ≡ true = p in cc)

pub some_of : {A : Type 0} (x y : A) → Some x ≡ Some y → x ≡ y
some_of x y p = cc

pub same_is : (x c : ℕ) → x ≡ c → (x == c) ≡ true
same_is x c e = grind (arith, nat_tests)

pub is_same : (x c : ℕ) → (x == c) ≡ true → x ≡ c
is_same x c e = grind (arith, nat_tests)

pub lt_so : (a b : ℕ) → a < b → nat_lt a b ≡ true
lt_so a b h = grind (arith, nat_tests)

pub lt_not : (a b : ℕ) → b ≤ a → nat_lt a b ≡ false
lt_not a b h = grind (arith, nat_tests)

pub le_so : (a b : ℕ) → a ≤ b → nat_le a b ≡ true
le_so a b h = grind (arith, nat_tests)

pub le_not : (a b : ℕ) → b < a → nat_le a b ≡ false
le_not a b h = grind (arith, nat_tests)

pub lt_is : (a b : ℕ) → nat_lt a b ≡ true → a < b
lt_is a b h = grind (arith, nat_tests)

pub lt_is_not : (a b : ℕ) → nat_lt a b ≡ false → b ≤ a
lt_is_not a b h = grind (arith, nat_tests)

pub le_is : (a b : ℕ) → nat_le a b ≡ true → a ≤ b
le_is a b h = grind (arith, nat_tests)

pub or_false_first : (x y : Bool) → x || y ≡ false → x ≡ false
or_false_first true y p = p
or_false_first false y p = refl

pub or_false_second : (x y : Bool) → x || y ≡ false → y ≡ false
or_false_second true y p = absurd (let no : true ≡ false = p in cc)
or_false_second false y p = p
