-- The line that ends a list or a display begins as others do, and so does a heading, which ends all.
use Rattle.std.proofs.Common.{◌≡◌, ℕ, ◌≤◌, List, [], ◌++◌, length, Bool, true, false, not, if◌then◌else◌, refl, ◌∙◌}
use Rattle.mdoc_layout.specs.declared.acts.Act.{Act}
use Rattle.mdoc_layout.specs.declared.acts.Act.TheVariants as acts
use Rattle.mdoc_layout.specs.declared.acts.Request.{Request}
use Rattle.mdoc_layout.specs.declared.acts.Request.TheVariants as requests
use Rattle.mdoc_layout.specs.declared.acts.Stack.TheVariants.{Closes, Empties}
use Rattle.mdoc_layout.specs.declared.page.Kind.{Kind}
use Rattle.mdoc_layout.specs.declared.page.Kind.TheVariants as kinds
use Rattle.mdoc_layout.specs.declared.page.Page.{Page}
use Rattle.mdoc_layout.specs.declared.page.Scan.TheVariants as scans
use Rattle.mdoc_layout.specs.Blocks.{display_ends_of, is_list, list_ends, literal_ends, with_literal}
use Rattle.mdoc_layout.specs.Laying.{with_lay}
use Rattle.mdoc_converter.specs.Lines.{heads, is_page, subsection}
use Rattle.mdoc_layout.specs.Columns.{is_column}
use Rattle.mdoc_layout.specs.Seeing.{Offered, left, none, offered, three, two, with_stack}
use Rattle.mdoc_converter.specs.Reading.{State, stacked}
use Rattle.mdoc_converter.specs.Scanning.{offer}
use Rattle.mdoc_converter.specs.WrittenLines.{way_of}
use Rattle.mdoc_converter.proofs.Begins.{none_out}
use Rattle.mdoc_converter.proofs.Offering.{with_page, leads_with}
use Rattle.mdoc_converter.proofs.Outcomes.{is_quiet, line_in, of_word, takes_plain, three-page, three-words}
use Rattle.mdoc_converter.proofs.Stepping.{Head, Stepped, out_step, step_at}

-- a page on which a macro begins its line
pub record Begun (head : Head) (p : Page) (word : List ℕ) : Type 0 where
  pub scan_is : p.scan ≡ scans.Between
  pub word_is : p.word ≡ word
  pub marks_are : p.marks ≡ []
  pub few : length p.closers ≤ 8
  pub going : p.call.going ≡ false
  pub comment : p.call.comment ≡ false
  pub line : line_in p ≡ head.line
  pub fits : takes_plain p.call.taker ≡ true
  pub way : way_of p.call.taker ≡ head.way

-- a block ends, or all do, and the line is read further
ends_step : (head : Head) (b : ℕ) (s : State) (p : Page) (x y z : Act) (word : List ℕ) → Begun head p word
    → offer b s.page ≡ offered p (with_stack Closes (three x y z)) → is_quiet x ≡ true → is_quiet y ≡ true → is_quiet z ≡ true
    → of_word x p.word ++ (of_word y p.word ++ (of_word z p.word ++ [])) ≡ [] → Stepped head b s 1 [] scans.Between word []
ends_step head b s p x y z word begun e i j k silent =
    let lays = three-page x y z p i j k in
    let r = with_lay lays.0 p in
    record {
      next = stacked Closes s.page.block (with_page r s);
      leads = leads_with b s p r Closes x y z [] e lays.1 (three-words x y z p i j k ∙ silent);
      at = record {
        scan_is = begun.scan_is;
        word_is = begun.word_is;
        marks_are = begun.marks_are;
        few = begun.few;
        going = begun.going;
        comment = begun.comment;
        line = begun.line;
        fits = begun.fits;
        way = begun.way;
        free = λ n. refl;
      };
    }

empties_step : (head : Head) (b : ℕ) (s : State) (p : Page) (x y z : Act) (word : List ℕ) → Begun head p word
    → offer b s.page ≡ offered p (with_stack Empties (three x y z)) → is_quiet x ≡ true → is_quiet y ≡ true → is_quiet z ≡ true
    → of_word x p.word ++ (of_word y p.word ++ (of_word z p.word ++ [])) ≡ [] → Stepped head b s 1 [] scans.Between word []
empties_step head b s p x y z word begun e i j k silent =
    let lays = three-page x y z p i j k in
    let r = with_lay lays.0 p in
    record {
      next = stacked Empties s.page.block (with_page r s);
      leads = leads_with b s p r Empties x y z [] e lays.1 (three-words x y z p i j k ∙ silent);
      at = record {
        scan_is = begun.scan_is;
        word_is = begun.word_is;
        marks_are = begun.marks_are;
        few = begun.few;
        going = begun.going;
        comment = begun.comment;
        line = begun.line;
        fits = begun.fits;
        way = begun.way;
        free = λ n. refl;
      };
    }

-- where lists or displays are open, a heading has its space
headed : Bool → Page → Offered
headed alone p =
    offered (heads p) (with_stack Empties (if alone then left acts.Subsection else two (acts.Request requests.Distance) acts.Subsection))

heads_by : (t : Bool) (head : Head) (b : ℕ) (s : State) (p : Page) (word : List ℕ) → Begun head (heads p) word
    → offer b s.page ≡ headed t p → Stepped head b s 1 [] scans.Between word []
unfolding headed is_quiet of_word
heads_by true head b s p word begun e =
    empties_step head b s (heads p) acts.Subsection acts.Nothing acts.Nothing word begun e refl refl refl refl
heads_by false head b s p word begun e =
    empties_step head b s (heads p) (acts.Request requests.Distance) acts.Subsection acts.Nothing word begun e refl refl refl refl

pub heads_step : (head : Head) (b : ℕ) (s : State) (p : Page) (word : List ℕ) → Begun head p word → offer b s.page ≡ subsection p
    → Stepped head b s 1 [] scans.Between word []
unfolding headed
heads_step head b s p word begun e =
    heads_by (is_page p.block.kind) head b s p word
    (record {
      scan_is = begun.scan_is;
      word_is = begun.word_is;
      marks_are = begun.marks_are;
      few = begun.few;
      going = begun.going;
      comment = begun.comment;
      line = begun.line;
      fits = begun.fits;
      way = begun.way;
    })
    e

pub none_step : (head : Head) (b : ℕ) (s : State) (p : Page) (word : List ℕ) → Begun head p word → offer b s.page ≡ none p
    → Stepped head b s 1 [] scans.Between word []
none_step head b s p word begun e =
    step_at head b s 1 [] p.scan scans.Between p.word word [] begun.scan_is begun.word_is
    (out_step head b s (none p) p [] [] e (none_out p begun.fits) begun.marks_are begun.few begun.going begun.comment begun.line begun.way (λ n. refl))

ends_list : Bool → Bool → Page → Offered
ends_list list column p =
    if not list then none p else
    if not column then offered p (with_stack Closes (left (acts.Request requests.IndentEnds))) else
    offered p (with_stack Closes (two (acts.Request requests.Tabs) (acts.Request requests.IndentEnds)))

list_is : (p : Page) → list_ends p ≡ ends_list (is_list p.block.kind) (is_column p.block.kind) p
unfolding ends_list
list_is p = refl

list_by : (t u : Bool) (head : Head) (b : ℕ) (s : State) (p : Page) (word : List ℕ) → Begun head p word → offer b s.page ≡ ends_list t u p
    → Stepped head b s 1 [] scans.Between word []
unfolding ends_list is_quiet of_word
list_by false u head b s p word begun e = none_step head b s p word begun e
list_by true true head b s p word begun e =
    ends_step head b s p (acts.Request requests.Tabs) (acts.Request requests.IndentEnds) acts.Nothing word
    (record {
      scan_is = begun.scan_is;
      word_is = begun.word_is;
      marks_are = begun.marks_are;
      few = begun.few;
      going = begun.going;
      comment = begun.comment;
      line = begun.line;
      fits = begun.fits;
      way = begun.way;
    })
    e refl refl refl refl
list_by true false head b s p word begun e =
    ends_step head b s p (acts.Request requests.IndentEnds) acts.Nothing acts.Nothing word begun e refl refl refl refl

pub list_step : (head : Head) (b : ℕ) (s : State) (p : Page) (word : List ℕ) → Begun head p word → offer b s.page ≡ list_ends p
    → Stepped head b s 1 [] scans.Between word []
list_step head b s p word begun e = list_by (is_list p.block.kind) (is_column p.block.kind) head b s p word begun (e ∙ list_is p)

literal_step : (request : Request) (head : Head) (b : ℕ) (s : State) (p : Page) (word : List ℕ) → Begun head p word
    → offer b s.page ≡ literal_ends request p → Stepped head b s 1 [] scans.Between word []
unfolding is_quiet of_word
literal_step request head b s p word begun e =
    ends_step head b s (with_literal false p) (acts.Request request) (acts.Request requests.IndentEnds) acts.Nothing word
    (record {
      scan_is = begun.scan_is;
      word_is = begun.word_is;
      marks_are = begun.marks_are;
      few = begun.few;
      going = begun.going;
      comment = begun.comment;
      line = begun.line;
      fits = begun.fits;
      way = begun.way;
    })
    e refl refl refl refl

pub display_step : (kind : Kind) (head : Head) (b : ℕ) (s : State) (p : Page) (word : List ℕ) → Begun head p word → offer b s.page ≡ display_ends_of kind p
    → Stepped head b s 1 [] scans.Between word []
unfolding is_quiet of_word
display_step kinds.Literal head b s p word begun e = literal_step requests.LiteralEnds head b s p word begun e
display_step kinds.Unfilled head b s p word begun e = literal_step requests.LiteralEnds head b s p word begun e
display_step kinds.Centered head b s p word begun e = literal_step requests.CenteredEnds head b s p word begun e
display_step kinds.Filled head b s p word begun e =
    ends_step head b s p (acts.Request requests.IndentEnds) acts.Nothing acts.Nothing word begun e refl refl refl refl
display_step kind head b s p word begun e = none_step head b s p word begun e
