-- What two stages over a source are to give.
use Rattle.std.proofs.Common.{◌≡◌, ℕ, ◌+◌, ◌<◌, ◌≤◌, List, [], length, take, Option, Some, Bool, true, false, nat_lt, nat_le, if◌then◌else◌, refl, ◌∙◌, ap, arith}
use Rattle.std.proofs.lemmas.Grind.{common_steps}
use Rattle.std.proofs.Math.Seq.{take-length}
use Rattle.nr_units.specs.Source.{Faults, Never, After, Anytime, Supply}
use Rattle.preconv_characters.specs.declared.target.Target.{Target}
use Rattle.preconv_characters.specs.declared.target.Target.TheVariants.{Utf8}
use Rattle.utf8_own_characters.specs.Table.{Characters}
use Rattle.utf8_own_stage.specs.Coding.{coded_text}
use Rattle.mdoc_converter.specs.Reading as mdoc
use Rattle.mdoc_converter.specs.Staged as mdoc_part
use Rattle.preconv_converter.specs.Reading as preconv
use Rattle.preconv_converter.specs.Staged as preconv_part
use Rattle.document_stages.specs.Pulling.{all_of, broken_off, fits_always, pulled, pulled_from, whole}
use Rattle.document_stages.specs.Switch.{fits_if, says_if, wants_if}
use Rattle.document_reader.specs.declared.page.Stages.{Stages}
use Rattle.document_reader.specs.Page.{IsShort, breaks_off, characters_of, characters_so_far, man_of, man_so_far, own_so_far, own_supply, plain_of, plain_so_far, plain_supply}

short : (n : ℕ) → n < 1099511627776 → nat_lt (0 + n) 1099511627776 ≡ true
short n h = grind (arith, common_steps)

-- ---- one stage

whole-pulled : (bytes : List ℕ) (says : Bool → List ℕ → List ℕ) (fits : List ℕ → Bool) → length bytes < 1099511627776 → fits bytes ≡ true
    → pulled (Some (whole bytes)) true says fits [] 0 false ≡ Some (whole (says true bytes))
whole-pulled bytes says fits h fitted =
    ap (λ (b : Bool). Some (pulled_from b false (whole bytes) says fits [])) (short (length bytes) h)
    ∙ ap (λ (b : Bool). Some (all_of b (says true bytes))) fitted

-- so it is where each call may fail
kept-pulled : (bytes : List ℕ) (f : Faults) (says : Bool → List ℕ → List ℕ) (fits : List ℕ → Bool) → breaks_off f ≡ false → length bytes < 1099511627776 → fits bytes ≡ true
    → pulled (Some (record { bytes = bytes; faults = f })) true says fits [] 0 false ≡ Some (record { bytes = says true bytes; faults = f })
kept-pulled bytes Never says fits whole h fitted = whole-pulled bytes says fits h fitted
kept-pulled bytes (After n) says fits whole h fitted = absurd (let never : true ≡ false = whole in cc)
kept-pulled bytes Anytime says fits whole h fitted = refl

not-below : (n m : ℕ) → m ≤ n → nat_lt n m ≡ false
not-below n m l = grind (arith, common_steps)

cut-pulled : (bytes : List ℕ) (n : ℕ) (says : Bool → List ℕ → List ℕ) (fits : List ℕ → Bool) → length bytes < 1099511627776 → n ≤ length bytes
    → pulled (Some (record { bytes = bytes; faults = After n })) true says fits [] 0 false ≡ Some (broken_off (says false (take n bytes)))
cut-pulled bytes n says fits h l =
    ap (λ (b : Bool). Some (pulled_from b false (record { bytes = bytes; faults = After n }) says fits [])) (short (length bytes) h)
    ∙ ap (λ (b : Bool). Some (if b then all_of (fits bytes) (says true bytes) else broken_off (says false (take n bytes)))) (not-below (length bytes) n l)

same-length : (n : ℕ) → n ≤ n
same-length n = omega arith

broken-pulled : (bytes : List ℕ) (says : Bool → List ℕ → List ℕ) (fits : List ℕ → Bool) → length bytes < 1099511627776
    → pulled (Some (broken_off bytes)) true says fits [] 0 false ≡ Some (broken_off (says false bytes))
broken-pulled bytes says fits h =
    cut-pulled bytes (length bytes) says fits h (same-length (length bytes))
    ∙ ap (λ (z : List ℕ). Some (broken_off (says false z))) (take-length bytes)

-- ---- a stage that is on or off

wide-if : (on : Bool) (n room : ℕ) → n ≤ room → 1 ≤ room → nat_le (wants_if on n) room ≡ true
wide-if true n room l some = grind (arith, common_steps)
wide-if false n room l some = grind (arith, common_steps)

pub wide : (on : Bool) (wants n room : ℕ) → wants ≡ wants_if on n → n ≤ room → 1 ≤ room → nat_le wants room ≡ true
wide on wants n room is l some = ap (λ (k : ℕ). nat_le k room) is ∙ wide-if on n room l some

fits-if : (on : Bool) (bytes : List ℕ) → fits_if on fits_always bytes ≡ true
fits-if true bytes = refl
fits-if false bytes = refl

man-whole : (on : Bool) (page : List ℕ) → says_if on (mdoc_part.said mdoc.first_state) true page ≡ man_of on page
man-whole true page = refl
man-whole false page = refl

man-prefix : (on : Bool) (page : List ℕ) → says_if on (mdoc_part.said mdoc.first_state) false page ≡ man_so_far on page
man-prefix true page = refl
man-prefix false page = refl

characters-whole : (on : Bool) (table : Target) (page : List ℕ)
    → says_if on (preconv_part.said (preconv.first_reader table)) true page ≡ characters_of on table page
characters-whole true table page = refl
characters-whole false table page = refl

characters-prefix : (on : Bool) (table : Target) (page : List ℕ)
    → says_if on (preconv_part.said (preconv.first_reader table)) false page ≡ characters_so_far on table page
characters-prefix true table page = refl
characters-prefix false table page = refl

-- ---- two stages

abbrev pub piped : Option Supply → Stages → Target → Option Supply
piped a stages table =
    pulled (pulled a true (says_if stages.mdoc (mdoc_part.said mdoc.first_state)) (fits_if stages.mdoc fits_always) [] 0 false) true
    (says_if stages.characters (preconv_part.said (preconv.first_reader table))) (fits_if stages.characters fits_always) [] 0 false

pub piped-whole : (q : Supply) (stages : Stages) (table : Target) → breaks_off q.faults ≡ false → IsShort q.bytes (man_of stages.mdoc q.bytes)
    → piped (Some q) stages table ≡ Some (plain_supply stages table q)
piped-whole q stages table kept h =
    ap (λ (x : Option Supply). pulled x true (says_if stages.characters (preconv_part.said (preconv.first_reader table))) (fits_if stages.characters fits_always) [] 0 false)
    (kept-pulled q.bytes q.faults (says_if stages.mdoc (mdoc_part.said mdoc.first_state)) (fits_if stages.mdoc fits_always) kept h.page_is (fits-if stages.mdoc q.bytes)
    ∙ ap (λ (z : List ℕ). Some (record { bytes = z; faults = q.faults })) (man-whole stages.mdoc q.bytes))
    ∙ kept-pulled (man_of stages.mdoc q.bytes) q.faults (says_if stages.characters (preconv_part.said (preconv.first_reader table))) (fits_if stages.characters fits_always) kept h.man_is (fits-if stages.characters (man_of stages.mdoc q.bytes))
    ∙ ap (λ (z : List ℕ). Some (record { bytes = z; faults = q.faults })) (characters-whole stages.characters table (man_of stages.mdoc q.bytes))

pub piped-cut : (q : Supply) (n : ℕ) (stages : Stages) (table : Target) → q.faults ≡ After n → n ≤ length q.bytes
    → IsShort q.bytes (man_so_far stages.mdoc (take n q.bytes))
    → piped (Some q) stages table ≡ Some (broken_off (plain_so_far stages table (take n q.bytes)))
piped-cut q n stages table after l h =
    ap (λ (f : Faults). piped (Some (record { bytes = q.bytes; faults = f })) stages table) after
    ∙ ap (λ (x : Option Supply). pulled x true (says_if stages.characters (preconv_part.said (preconv.first_reader table))) (fits_if stages.characters fits_always) [] 0 false)
    (cut-pulled q.bytes n (says_if stages.mdoc (mdoc_part.said mdoc.first_state)) (fits_if stages.mdoc fits_always) h.page_is l
    ∙ ap (λ (z : List ℕ). Some (broken_off z)) (man-prefix stages.mdoc (take n q.bytes)))
    ∙ broken-pulled (man_so_far stages.mdoc (take n q.bytes)) (says_if stages.characters (preconv_part.said (preconv.first_reader table))) (fits_if stages.characters fits_always) h.man_is
    ∙ ap (λ (z : List ℕ). Some (broken_off z)) (characters-prefix stages.characters table (man_so_far stages.mdoc (take n q.bytes)))

-- ---- what two stages are over, by what each of them says of itself

pub over-both : (a first second : Option Supply) (stages : Stages) (table : Target) (w v : Bool)
    (says says' said said' : Bool → List ℕ → List ℕ) (fits fits' fitted fitted' : List ℕ → Bool)
    → first ≡ pulled a w says fits [] 0 false → second ≡ pulled first v says' fits' [] 0 false
    → w ≡ true → v ≡ true
    → says ≡ says_if stages.mdoc said → said ≡ mdoc_part.said mdoc.first_state
    → says' ≡ says_if stages.characters said' → said' ≡ preconv_part.said (preconv.first_reader table)
    → fits ≡ fits_if stages.mdoc fitted → fitted ≡ fits_always
    → fits' ≡ fits_if stages.characters fitted' → fitted' ≡ fits_always
    → second ≡ piped a stages table
over-both a first second stages table w v says says' said said' fits fits' fitted fitted' is-first is-second wide wide' e0 e1 e2 e3 e4 e5 e6 e7 =
    let one : Bool → List ℕ → List ℕ = says_if stages.mdoc (mdoc_part.said mdoc.first_state) in
    let two : Bool → List ℕ → List ℕ = says_if stages.characters (preconv_part.said (preconv.first_reader table)) in
    is-second
    ∙ ap (λ (x : Option Supply). pulled x v says' fits' [] 0 false) is-first
    ∙ ap (λ (b : Bool). pulled (pulled a b says fits [] 0 false) v says' fits' [] 0 false) wide
    ∙ ap (λ (b : Bool). pulled (pulled a true says fits [] 0 false) b says' fits' [] 0 false) wide'
    ∙ ap (λ (s : Bool → List ℕ → List ℕ). pulled (pulled a true s fits [] 0 false) true says' fits' [] 0 false) (e0 ∙ ap (λ (z : Bool → List ℕ → List ℕ). says_if stages.mdoc z) e1)
    ∙ ap (λ (s : Bool → List ℕ → List ℕ). pulled (pulled a true one fits [] 0 false) true s fits' [] 0 false) (e2 ∙ ap (λ (z : Bool → List ℕ → List ℕ). says_if stages.characters z) e3)
    ∙ ap (λ (f : List ℕ → Bool). pulled (pulled a true one f [] 0 false) true two fits' [] 0 false) (e4 ∙ ap (λ (z : List ℕ → Bool). fits_if stages.mdoc z) e5)
    ∙ ap (λ (f : List ℕ → Bool). pulled (pulled a true one (fits_if stages.mdoc fits_always) [] 0 false) true two f [] 0 false) (e6 ∙ ap (λ (z : List ℕ → Bool). fits_if stages.characters z) e7)

-- ---- a stage after them, which codes

coded_pulled : (text result : Option Supply) (says : Bool → List ℕ → List ℕ) (fits : List ℕ → Bool) (wants room : ℕ) (t : Characters)
    → result ≡ pulled text (nat_le wants room) says fits [] 0 false → wants ≡ 32 → 32 ≤ room → says ≡ coded_text t → fits ≡ fits_always
    → result ≡ pulled text true (coded_text t) fits_always [] 0 false
coded_pulled text result says fits wants room t is few wide said fitted =
    is
    ∙ ap (λ (b : Bool). pulled text b says fits [] 0 false) (ap (λ (k : ℕ). nat_le k room) few ∙ wide-if true 32 room wide (omega (arith, wide)))
    ∙ ap (λ (z : Bool → List ℕ → List ℕ). pulled text true z fits [] 0 false) said
    ∙ ap (λ (z : List ℕ → Bool). pulled text true (coded_text t) z [] 0 false) fitted

pub own-whole : (text result : Option Supply) (says : Bool → List ℕ → List ℕ) (fits : List ℕ → Bool) (wants room : ℕ) (t : Characters) (stages : Stages) (q : Supply)
    → result ≡ pulled text (nat_le wants room) says fits [] 0 false → wants ≡ 32 → 32 ≤ room → says ≡ coded_text t → fits ≡ fits_always
    → text ≡ Some (plain_supply stages Utf8 q) → breaks_off q.faults ≡ false → length (plain_of stages Utf8 q.bytes) < 1099511627776
    → result ≡ Some (own_supply stages t q)
own-whole text result says fits wants room t stages q is few wide said fitted of kept short =
    coded_pulled text result says fits wants room t is few wide said fitted
    ∙ ap (λ (x : Option Supply). pulled x true (coded_text t) fits_always [] 0 false) of
    ∙ kept-pulled (plain_of stages Utf8 q.bytes) q.faults (coded_text t) fits_always kept short refl

pub own-cut : (text result : Option Supply) (says : Bool → List ℕ → List ℕ) (fits : List ℕ → Bool) (wants room : ℕ) (t : Characters) (stages : Stages) (bytes : List ℕ)
    → result ≡ pulled text (nat_le wants room) says fits [] 0 false → wants ≡ 32 → 32 ≤ room → says ≡ coded_text t → fits ≡ fits_always
    → text ≡ Some (broken_off (plain_so_far stages Utf8 bytes)) → length (plain_so_far stages Utf8 bytes) < 1099511627776
    → result ≡ Some (broken_off (own_so_far stages t bytes))
own-cut text result says fits wants room t stages bytes is few wide said fitted of short =
    coded_pulled text result says fits wants room t is few wide said fitted
    ∙ ap (λ (x : Option Supply). pulled x true (coded_text t) fits_always [] 0 false) of
    ∙ broken-pulled (plain_so_far stages Utf8 bytes) (coded_text t) fits_always short
