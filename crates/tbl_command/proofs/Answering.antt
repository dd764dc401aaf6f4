-- There is one answer, and each word leads to it.
use Rattle.std.proofs.Common.{◌≡◌, ℕ, ◌+◌, ◌<◌, ◌≤◌, List, [], ◌∷◌, length, drop, get_or, Bool, true, false, Option, None, Some, Result, Ok, codes, refl, sym, ap, subst, ◌∙◌, inl, inr}
use Rattle.std.proofs.lemmas.List.{drop_all}
use Rattle.std.specs.Borrow.{Bor}
use Rattle.std.specs.Str.{bytes_eq}
use Rattle.filters_own.specs.declared.names.Named.{Named}
use Rattle.filters_own.specs.Names.{table_at}
use Rattle.tbl_command.specs.declared.arguments.BadWord.{BadWord}
use Rattle.tbl_command.specs.declared.arguments.Job.{Job}
use Rattle.tbl_command.specs.declared.arguments.Setting.{Setting}
use Rattle.tbl_command.specs.declared.arguments.Which.{Which}
use Rattle.tbl_command.specs.declared.arguments.Which.TheVariants.{Formats, Row, Line}
use Rattle.tbl_command.specs.declared.arguments.Wrong.{Wrong}
use Rattle.tbl_command.specs.declared.arguments.Wrong.TheVariants.{UnknownTable}
use Rattle.tbl_command.specs.Arguments.{ComesTo, IsAnswer, IsBad, Keeps, Means, Names, Sets, Stands, at, is_option, is_wrong, texts, usual_job, with_number, with_setting, with_table, without_fit}
use Rattle.tbl_command.proofs.Parting.{texts-from}
use Rattle.tbl_command.proofs.Reading.{Bad-means, Bad-one, Means-one}

-- ---- a word, and those after it

pub named : (job : Job) (place : ℕ) (name : List ℕ) (words : List (List ℕ)) (answer : Result Job BadWord) (t : Named) → table_at place name ≡ Some t
    → ComesTo false (with_table t job) (place + 1) words answer → ComesTo true job place (name ∷ words) answer
named job place name words answer t is rest =
    subst (λ (o : Option Named). Names o place answer (λ t. ComesTo false (with_table t job) (place + 1) words answer)) (sym is) rest

pub unnamed : (job : Job) (place : ℕ) (name : List ℕ) (words : List (List ℕ)) → table_at place name ≡ None
    → ComesTo true job place (name ∷ words) (is_wrong place UnknownTable)
unnamed job place name words is =
    subst (λ (o : Option Named). Names o place (is_wrong place UnknownTable) (λ t. ComesTo false (with_table t job) (place + 1) words (is_wrong place UnknownTable))) (sym is) refl

stands-file : (option names : Bool) (F T O : Type 0) → option ≡ false → F → Stands option names F T O
stands-file false names F T O is x = x
stands-file true names F T O is x = absurd (let no : true ≡ false = is in cc)

stands-table : (option names : Bool) (F T O : Type 0) → option ≡ true → names ≡ true → T → Stands option names F T O
stands-table true true F T O is so x = x
stands-table false names F T O is so x = absurd (let no : false ≡ true = is in cc)
stands-table true false F T O is so x = absurd (let no : false ≡ true = so in cc)

stands-option : (option names : Bool) (F T O : Type 0) → option ≡ true → names ≡ false → O → Stands option names F T O
stands-option true false F T O is so x = x
stands-option false names F T O is so x = absurd (let no : false ≡ true = is in cc)
stands-option true true F T O is so x = absurd (let no : true ≡ false = so in cc)

keeps-this : (keeps : Bool) (K O : Type 0) → keeps ≡ true → K → Keeps keeps K O
keeps-this true K O is x = x
keeps-this false K O is x = absurd (let no : false ≡ true = is in cc)

keeps-other : (keeps : Bool) (K O : Type 0) → keeps ≡ false → O → Keeps keeps K O
keeps-other false K O is x = x
keeps-other true K O is x = absurd (let no : true ≡ false = is in cc)

pub table_follows : (job : Job) (place : ℕ) (word : List ℕ) (words : List (List ℕ)) (answer : Result Job BadWord)
    → is_option word ≡ true → bytes_eq word (codes "-u") ≡ true → ComesTo true job (place + 1) words answer → ComesTo false job place (word ∷ words) answer
table_follows job place word words answer option names rest = stands-table (is_option word) (bytes_eq word (codes "-u")) _ _ _ option names rest

pub option_keeps : (job : Job) (place : ℕ) (word : List ℕ) (words : List (List ℕ)) (answer : Result Job BadWord)
    → is_option word ≡ true → bytes_eq word (codes "-u") ≡ false → bytes_eq word (codes "-n") ≡ true
    → ComesTo false (without_fit job) (place + 1) words answer → ComesTo false job place (word ∷ words) answer
option_keeps job place word words answer option names keeps rest =
    stands-option (is_option word) (bytes_eq word (codes "-u")) _ _ _ option names (keeps-this (bytes_eq word (codes "-n")) _ _ keeps rest)

pub option_sets : (job : Job) (place : ℕ) (word : List ℕ) (words : List (List ℕ)) (answer : Result Job BadWord) (s : Setting)
    → is_option word ≡ true → bytes_eq word (codes "-u") ≡ false → bytes_eq word (codes "-n") ≡ false → Means s word
    → ComesTo false (with_setting s job) (place + 1) words answer → ComesTo false job place (word ∷ words) answer
option_sets job place word words answer s option names keeps means rest =
    stands-option (is_option word) (bytes_eq word (codes "-u")) _ _ _ option names
    (keeps-other (bytes_eq word (codes "-n")) _ _ keeps (inl (s, means, rest)))

pub option_bad : (job : Job) (place : ℕ) (word : List ℕ) (words : List (List ℕ)) (wrong : Wrong)
    → is_option word ≡ true → bytes_eq word (codes "-u") ≡ false → bytes_eq word (codes "-n") ≡ false → IsBad wrong word
    → ComesTo false job place (word ∷ words) (is_wrong place wrong)
option_bad job place word words wrong option names keeps bad =
    stands-option (is_option word) (bytes_eq word (codes "-u")) _ _ _ option names
    (keeps-other (bytes_eq word (codes "-n")) _ _ keeps (inr (wrong, bad, refl)))

pub file_stands : (job : Job) (place : ℕ) (word : List ℕ) (words : List (List ℕ)) → is_option word ≡ false
    → ComesTo false job place (word ∷ words) (Ok (at place job))
file_stands job place word words is = stands-file (is_option word) (bytes_eq word (codes "-u")) _ _ _ is refl

-- ---- no other answer

one_named : (o : Option Named) (place : ℕ) (a b : Result Job BadWord) (P Q : Named → Type 0)
    → ((t : Named) → P t → Q t → b ≡ a) → Names o place a P → Names o place b Q → b ≡ a
one_named None place a b P Q same x y = y ∙ sym x
one_named (Some t) place a b P Q same x y = same t x y

one_sets : (word : List ℕ) (place : ℕ) (a b : Result Job BadWord) (P Q : Setting → Type 0)
    → ((s : Setting) → P s → Q s → b ≡ a) → Sets word place a P → Sets word place b Q → b ≡ a
one_sets word place a b P Q same (inl (s, m, p)) (inl (s', m', q)) = same s p (subst Q (Means-one s s' word m m') q)
one_sets word place a b P Q same (inl (s, m, p)) (inr (w, bad, is)) = absurd (Bad-means w s word bad m)
one_sets word place a b P Q same (inr (w, bad, is)) (inl (s, m, q)) = absurd (Bad-means w s word bad m)
one_sets word place a b P Q same (inr (w, bad, is)) (inr (w', bad', is')) = is' ∙ ap (is_wrong place) (Bad-one w w' word bad bad') ∙ sym is

one_keeps : (keeps : Bool) (E K L O P : Type 0) → (K → L → E) → (O → P → E) → Keeps keeps K O → Keeps keeps L P → E
one_keeps true E K L O P this other x y = this x y
one_keeps false E K L O P this other x y = other x y

one_stands : (option names : Bool) (E F G T U O P : Type 0) → (F → G → E) → (T → U → E) → (O → P → E)
    → Stands option names F T O → Stands option names G U P → E
one_stands false names E F G T U O P file table other x y = file x y
one_stands true true E F G T U O P file table other x y = table x y
one_stands true false E F G T U O P file table other x y = other x y

pub one_answer : (awaits : Bool) (job : Job) (place : ℕ) (words : List (List ℕ)) (a b : Result Job BadWord)
    → ComesTo awaits job place words a → ComesTo awaits job place words b → b ≡ a
one_answer true job place [] a b x y = y ∙ sym x
one_answer false job place [] a b x y = y ∙ sym x
one_answer true job place (name ∷ words) a b x y =
    one_named (table_at place name) place a b _ _ (λ t. one_answer false (with_table t job) (place + 1) words a b) x y
one_answer false job place (word ∷ words) a b x y =
    one_stands (is_option word) (bytes_eq word (codes "-u")) (b ≡ a) _ _ _ _ _ _ (λ p q. q ∙ sym p)
    (one_answer true job (place + 1) words a b)
    (one_keeps (bytes_eq word (codes "-n")) (b ≡ a) _ _ _ _ (one_answer false (without_fit job) (place + 1) words a b)
    (one_sets word place a b _ _ (λ s. one_answer false (with_setting s job) (place + 1) words a b))) x y

pub only : (words : List (List ℕ)) (answer : Result Job BadWord) → IsAnswer words answer → (other : Result Job BadWord) → IsAnswer words other → other ≡ answer
only words answer is other so = one_answer false usual_job 0 words answer other is so

-- ---- what is left of the words comes to the answer

abbrev pub Leads : Bool → Job → ℕ → List (Bor (List ℕ)) → Type 0
Leads awaits job place words = (answer : Result Job BadWord) → ComesTo awaits job place (texts (drop place words)) answer → IsAnswer (texts words) answer

pub next_word : (awaits known : Bool) (job : Job) (place : ℕ) (words : List (Bor (List ℕ))) (d : Bor (List ℕ)) → place < length words → awaits ≡ known
    → Leads awaits job place words → (answer : Result Job BadWord) → ComesTo known job place ((get_or words place d).now ∷ texts (drop (place + 1) words)) answer
    → IsAnswer (texts words) answer
next_word awaits known job place words d within is leads answer comes =
    leads answer (subst (λ (ws : List (List ℕ)). ComesTo awaits job place ws answer) (sym (texts-from words place d within))
    (subst (λ (b : Bool). ComesTo b job place ((get_or words place d).now ∷ texts (drop (place + 1) words)) answer) (sym is) comes))

pub no_word : (awaits known : Bool) (job : Job) (place : ℕ) (words : List (Bor (List ℕ))) → length words ≤ place → awaits ≡ known
    → Leads awaits job place words → (answer : Result Job BadWord) → ComesTo known job place [] answer → IsAnswer (texts words) answer
no_word awaits known job place words after is leads answer comes =
    leads answer (subst (λ (ws : List (Bor (List ℕ))). ComesTo awaits job place (texts ws) answer) (sym (drop_all place words after))
    (subst (λ (b : Bool). ComesTo b job place [] answer) (sym is) comes))

pub goes_on : (awaits known : Bool) (job so : Job) (place : ℕ) (words : List (List ℕ)) (answer : Result Job BadWord) → awaits ≡ known → job ≡ so
    → ComesTo awaits job place words answer → ComesTo known so place words answer
goes_on awaits known job so place words answer is same comes =
    subst (λ (b : Bool). ComesTo b so place words answer) is (subst (λ (j : Job). ComesTo awaits j place words answer) same comes)

-- two texts that are compared
pub compared : (a b v w : List ℕ) (e : Bool) → a ≡ v → b ≡ w → e ≡ bytes_eq a b → bytes_eq v w ≡ e
compared a b v w e is so found = ap (λ (x : List ℕ). bytes_eq x w) (sym is) ∙ ap (bytes_eq a) (sym so) ∙ sym found

-- ---- limits stay in their range

pub formats_fit : (which : Which) (n : ℕ) (job : Job) → n ≤ 1048576 → job.formats ≤ 1048576 → (with_number which n job).formats ≤ 1048576
formats_fit Formats n job fits old = fits
formats_fit Row n job fits old = old
formats_fit Line n job fits old = old

pub row_fits : (which : Which) (n : ℕ) (job : Job) → n ≤ 1048576 → job.row ≤ 1048576 → (with_number which n job).row ≤ 1048576
row_fits Formats n job fits old = old
row_fits Row n job fits old = fits
row_fits Line n job fits old = old
