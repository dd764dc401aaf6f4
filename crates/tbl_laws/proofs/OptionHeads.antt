-- After the line of `.TS`, one of options and one of formats a page stands between rows.
use Rattle.std.proofs.Common.{◌≡◌, ℕ, zero, suc, ◌+◌, ◌<◌, ◌≤◌, List, [], ◌∷◌, ◌++◌, length, drop, codes, Bool, true, false, ◌&&◌, if◌then◌else◌, nat_le, Option, Some, refl, sym, ◌∙◌, ap, subst, append_assoc, length-append, arith}
use Rattle.std.proofs.lemmas.Bool.{lt-leb}
use Rattle.std.proofs.lemmas.List.{drop_all}
use Prim.Native.Char.{code}
use Rattle.tbl_reader.specs.declared.command.Start.TheVariants as starts
use Rattle.tbl_reader.specs.declared.complaint.Kind.TheVariants as kinds
use Rattle.tbl_reader.specs.declared.state.Mode.{Mode}
use Rattle.tbl_reader.specs.declared.state.Mode.TheVariants as modes
use Rattle.tbl_reader.specs.Commands.{is_command}
use Rattle.tbl_reader.specs.Formats.{first_formats}
use Rattle.tbl_reader.specs.HeadLines.{formats_after, formats_ended, formats_line, given_up_line, head_ended, head_line, options_line, options_split}
use Rattle.tbl_reader.specs.Heads.{is_dotted, options_end}
use Rattle.tbl_reader.specs.Options.{options_of}
use Rattle.tbl_reader.specs.Pages.{Page, Effect, effect, and_then, at_mode, line_counted, line_of, rest_of, with_state}
use Rattle.tbl_reader.specs.Reading.{fed, line_ended, with_kept}
use Rattle.tbl_reader.specs.Whole.{is_line}
use Rattle.tbl_reader.proofs.Runs.{fed_append}
use Rattle.tbl_reader.proofs.Whole.{lines_are_read}
use Rattle.tbl_laws.specs.OutsideText.{IsOutside}
use Rattle.tbl_laws.specs.Rows.{IsBetweenRows, OptionsAreRead, are_columns, begins_row, columns_in, separates, table_of}
use Rattle.tbl_laws.proofs.Heads.{begun, dotted, ended, formats_end, judged, no_end, one_line}
use Rattle.tbl_laws.proofs.Rows.{from_there, up_to}
use Rattle.tbl_laws.proofs.RowsLaw.{no_command}

more_line : (xs ys : List ℕ) → is_line xs ≡ true → is_line ys ≡ true → is_line (xs ++ ys) ≡ true
more_line [] ys h k = k
more_line (x ∷ xs) ys h k = ap (λ (t : Bool). t && is_line (xs ++ ys)) (first _ _ h) ∙ more_line xs ys (second _ _ h) k
  where
    first : (x y : Bool) → (x && y) ≡ true → x ≡ true
    first true y h = refl
    first false y h = absurd (let no : false ≡ true = h in cc)

    second : (x y : Bool) → (x && y) ≡ true → y ≡ true
    second true y h = h
    second false y h = absurd (let no : false ≡ true = h in cc)

still_begins : (xs ys : List ℕ) → begins_row xs ≡ true → begins_row ys ≡ true → begins_row (xs ++ ys) ≡ true
still_begins [] ys h k = k
still_begins (x ∷ xs) ys h k = h

nothing : List ℕ
nothing = []

-- the page after the line of options
opted : Page → List ℕ → Page
opted q options = record q {
  state = record q.state { mode = modes.Head; line = q.state.line + 1; first = false; options = options_of options };
  kept = (options ++ codes ";") ++ codes "\n";
  from = length options + 1;
  start = length (options ++ codes ";") + 1;
}

module _ (options : List ℕ) (p : Page) (h : is_line options ≡ true) (b : begins_row options ≡ true)
    (e : options_end (options ++ codes ";") ≡ Some (length options)) where
  line : List ℕ
  line = options ++ codes ";"

  q : Page
  q = with_kept line (begun p)

  r : Page
  r = record q { state = record q.state { first = false } }

  split : Page
  split = record r { state = record r.state { options = options_of options }; from = length options + 1; start = length options + 1 }

  options_read : (options_line q).page ≡ split
  unfolding line q r split nothing begun
  options_read =
      ap (λ (o : Option ℕ). (options_split o r).page) e
      ∙ ap (λ (text : List ℕ). record r { state = record r.state { options = options_of text }; from = length options + 1; start = length options + 1 }) (up_to options (codes ";"))

  none_left : line_of split ≡ []
  unfolding line q r split nothing begun
  none_left = drop_all (length options + 1) (options ++ codes ";") (let long = length-append options (codes ";") in omega (arith, long))

  formats_wait : length options + 1 < p.limits.formats → (formats_line split).page ≡ record split { kept = split.kept ++ code "\n" ∷ []; start = length split.kept + 1 }
  unfolding line q r split nothing begun
  formats_wait room =
      let long = length-append options (codes ";") in
      let room_left : nat_le split.limits.formats (length split.kept) ≡ false = lt-leb _ _ (omega (arith, room, long)) in
      ap (λ (x : List ℕ). (if is_dotted x then formats_ended split
      else (if nat_le split.limits.formats (length split.kept) then given_up_line kinds.FormatsLimit split
      else effect (record split { kept = split.kept ++ code "\n" ∷ []; start = length split.kept + 1 }) [])).page) none_left
      ∙ ap (λ (t : Bool). (if t then given_up_line kinds.FormatsLimit split
      else effect (record split { kept = split.kept ++ code "\n" ∷ []; start = length split.kept + 1 }) []).page) room_left

  opted_is : length options + 1 < p.limits.formats → (fed (line ++ codes "\n") (begun p)).page ≡ opted (begun p) options
  unfolding line q r split nothing begun opted
  opted_is room =
      let long = length-append options (codes ";") in
      ap (λ (x : Effect). x.page) (lines_are_read line (begun p) refl (more_line options (codes ";") h refl) (omega (arith, room, long)))
      ∙ ap (λ (t : Bool). (and_then (if t then head_ended q else and_then (options_line q) formats_line) (λ z. effect (with_state (line_counted z.state) z) [])).page)
      (no_command (code "E") line (still_begins options (codes ";") b refl))
      ∙ ap (λ (x : Page). (and_then (formats_line x) (λ z. effect (with_state (line_counted z.state) z) [])).page) options_read
      ∙ ap (λ (x : Page). with_state (line_counted x.state) x) (formats_wait room)

-- ---- and the line of formats

drop_prefix : (n : ℕ) (xs ys : List ℕ) → n ≡ length xs → drop n (xs ++ ys) ≡ ys
drop_prefix n xs ys h = ap (λ (m : ℕ). drop m (xs ++ ys)) h ∙ from_there xs ys

module _ (options formats : List ℕ) (q : Page) (n : ℕ) (separated : separates (options_of options).tab ≡ true) (blanks : (options_of options).nospaces ≡ false)
    (h : are_columns formats ≡ true) (is : columns_in formats ≡ suc n) (few : suc n ≤ 64) (new : q.state.formats ≡ first_formats 0 0 false) where
  whole : Page
  whole = with_kept (formats ++ codes ".") (opted q options)

  line_is : line_of whole ≡ formats ++ codes "."
  unfolding whole opted
  line_is =
      drop_prefix (length (options ++ codes ";") + 1) ((options ++ codes ";") ++ codes "\n") (formats ++ codes ".")
      (sym (length-append (options ++ codes ";") (codes "\n")))

  rest_is : rest_of whole ≡ codes "\n" ++ (formats ++ codes ".")
  unfolding whole opted
  rest_is =
      ap (drop (length options + 1)) (append_assoc (options ++ codes ";") (codes "\n") (formats ++ codes "."))
      ∙ drop_prefix (length options + 1) (options ++ codes ";") (codes "\n" ++ (formats ++ codes ".")) (sym (length-append options (codes ";")))

  formats_are : formats_after (first_formats 0 0 false) (rest_of whole ++ codes "\n") ≡ ended n
  unfolding ended
  formats_are = ap (λ (text : List ℕ). formats_after (first_formats 0 0 false) (text ++ codes "\n")) rest_is ∙ formats_end formats n h is few

  head_page : (head_line whole).page ≡ (formats_ended whole).page
  unfolding whole opted
  head_page =
      ap (λ (x : List ℕ). (if is_command (code "E") x then head_ended whole else and_then (options_line whole) formats_line).page) line_is
      ∙ ap (λ (t : Bool). (if t then head_ended whole else and_then (options_line whole) formats_line).page)
      (no_end formats h (let i = is in omega (arith, i)))
      ∙ ap (λ (x : List ℕ). (if is_dotted x then formats_ended whole
      else (if nat_le whole.limits.formats (length whole.kept) then given_up_line kinds.FormatsLimit whole
      else effect (record whole { kept = whole.kept ++ code "\n" ∷ []; start = length whole.kept + 1 }) [])).page) line_is
      ∙ ap (λ (t : Bool). (if t then formats_ended whole
      else (if nat_le whole.limits.formats (length whole.kept) then given_up_line kinds.FormatsLimit whole
      else effect (record whole { kept = whole.kept ++ code "\n" ∷ []; start = length whole.kept + 1 }) [])).page) (dotted false formats)

  ends_between : IsBetweenRows (options_of options).tab (suc n) (line_ended whole).page
  unfolding whole opted
  ends_between =
      let f = formats_after whole.state.formats (rest_of whole ++ codes "\n") in
      let f_is : f ≡ ended n = ap (λ x. formats_after x (rest_of whole ++ codes "\n")) new ∙ formats_are in
      let lines : whole.state.formats.lines ≡ 0 = ap (λ x. x.lines) new in
      let j = judged (options_of options).tab n f whole separated f_is lines refl blanks few in
      subst (λ (x : Page). IsBetweenRows (options_of options).tab (suc n) (with_state (line_counted x.state) x)) (sym head_page)
      (record {
        mode = j.mode;
        fields = j.fields;
        kept = j.kept;
        from = j.from;
        start = j.start;
        tab_is = j.tab_is;
        blanks = j.blanks;
        columns_are = j.columns_are;
        separated = j.separated;
        few = j.few;
      })

-- ---- both

read_so : (options formats : List ℕ) (p : Page) (n : ℕ) → is_line options ≡ true → begins_row options ≡ true
    → options_end (options ++ codes ";") ≡ Some (length options) → separates (options_of options).tab ≡ true
    → (options_of options).nospaces ≡ false → are_columns formats ≡ true → columns_in formats ≡ suc n → suc n ≤ 64
    → length options + length formats + 3 ≤ p.limits.formats
    → IsBetweenRows (options_of options).tab (suc n) (fed (table_of options formats) (at_mode (modes.Passing starts.Nothing) p)).page
unfolding begun opted whole line
read_so options formats p n h b e separated blanks are is few room =
    let line = options ++ codes ";" in
    let last = formats ++ codes "." in
    let o = opted (begun p) options in
    let long = length-append line (codes "\n") in
    let longer = length-append options (codes ";") in
    let longest = length-append formats (codes ".") in
    let start = at_mode (modes.Passing starts.Nothing) p in
    let split : fed (table_of options formats) start ≡ fed (codes ".TS\n" ++ ((line ++ codes "\n") ++ (last ++ codes "\n"))) start =
    ap (λ (xs : List ℕ). fed xs start) (append_assoc ((codes ".TS\n" ++ line) ++ codes "\n") last (codes "\n")
    ∙ append_assoc (codes ".TS\n" ++ line) (codes "\n") (last ++ codes "\n")
    ∙ append_assoc (codes ".TS\n") line (codes "\n" ++ (last ++ codes "\n"))
    ∙ ap (λ (xs : List ℕ). codes ".TS\n" ++ xs) (sym (append_assoc line (codes "\n") (last ++ codes "\n")))) in
    let first : (fed (line ++ codes "\n") (begun p)).page ≡ o = opted_is options p h b e (omega (arith, room)) in
    let fits : length o.kept + length last ≤ p.limits.formats = omega (arith, room, long, longer, longest) in
    let there : (fed (table_of options formats) start).page ≡ (line_ended (with_kept last o)).page =
    ap (λ (x : Effect). x.page) (split ∙ fed_append (codes ".TS\n") ((line ++ codes "\n") ++ (last ++ codes "\n")) start)
    ∙ ap (λ (x : Effect). x.page) (fed_append (line ++ codes "\n") (last ++ codes "\n") (begun p))
    ∙ ap (λ (x : Page). (fed (last ++ codes "\n") x).page) first
    ∙ ap (λ (x : Effect). x.page) (lines_are_read last o refl (one_line formats are) fits) in
    subst (IsBetweenRows (options_of options).tab (suc n)) (sym there) (ends_between options formats (begun p) n separated blanks are is few refl)

by_columns : (n : ℕ) (options formats : List ℕ) (p : Page) → IsOutside p → is_line options ≡ true → begins_row options ≡ true
    → options_end (options ++ codes ";") ≡ Some (length options) → separates (options_of options).tab ≡ true
    → (options_of options).nospaces ≡ false → are_columns formats ≡ true → columns_in formats ≡ n → 0 < n → n ≤ 64
    → length options + length formats + 3 ≤ p.limits.formats
    → IsBetweenRows (options_of options).tab n (fed (table_of options formats) p).page
by_columns zero options formats p outside h b e s blanks are is some few room = absurd (omega (arith, some))
by_columns (suc n) options formats p outside h b e s blanks are is some few room =
    subst (λ (m : Mode). IsBetweenRows (options_of options).tab (suc n) (fed (table_of options formats) (at_mode m p)).page) (sym outside)
    (read_so options formats p n h b e s blanks are is few room)

pub options_are_read : OptionsAreRead
options_are_read options formats p outside h b e s blanks are some few room =
    by_columns (columns_in formats) options formats p outside h b e s blanks are refl some few room
