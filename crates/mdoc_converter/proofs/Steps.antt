-- In how many steps bytes are read.
use Rattle.std.proofs.Common.{ℕ, zero, suc, ◌+◌, ◌*◌, ◌≤◌, ◌==◌, List, [], ◌∷◌, length, Bool, true, false, if◌then◌else◌, arith}
use Prim.Native.Char.{code}
use Rattle.mdoc_layout.specs.declared.page.RowPart.TheVariants as rows
use Rattle.mdoc_layout.specs.declared.page.Scan.{Scan}
use Rattle.mdoc_layout.specs.declared.page.Scan.TheVariants as scans
use Rattle.mdoc_converter.specs.declared.strings.Next.{Next}
use Rattle.mdoc_converter.specs.declared.strings.Next.TheVariants as nexts
use Rattle.mdoc_converter.specs.declared.pending.Pending.{Pending}
use Rattle.mdoc_converter.specs.declared.pending.Pending.TheVariants as pendings
use Rattle.mdoc_converter.specs.Reading.{State, Emitted, Once, emitted, once, then_emitted, heard_in, heard, heard_some, heard_text, heard_star, heard_raw, read_by, read, with_pending, fed, line_finished, finished_at, finished, first_state}
use Rattle.mdoc_converter.specs.Staged.{steps_said}
use Rattle.mdoc_converter.specs.Strings.{offered_by, takes_strings}

once_more : (n : ℕ) (t : Bool) (o : State) (u : Emitted) → u.steps ≤ n → (if t then emitted o [] 0 else u).steps ≤ n
once_more n true o u l = omega arith
once_more n false o u l = l

pub heard_in-quick : (n b : ℕ) (s : State) → (heard_in n b s).steps ≤ n
heard_in-quick zero b s = omega arith
heard_in-quick (suc n) b s =
    let o : Once = once b s in
    let rest : (heard_in n b o.state).steps ≤ n = heard_in-quick n b o.state in
    let l : (if o.takes then emitted o.state [] 0 else heard_in n b o.state).steps ≤ n = once_more n o.takes o.state (heard_in n b o.state) rest in
    omega arith

pub heard-quick : (b : ℕ) (s : State) → (heard b s).steps ≤ 16
unfolding heard
heard-quick b s = heard_in-quick 16 b s

none_quick : 0 ≤ 16
none_quick = omega arith

some_quick : (t : Bool) (b : ℕ) (s : State) → (if t then emitted s [] 0 else heard b s).steps ≤ 16
some_quick true b s = none_quick
some_quick false b s = heard-quick b s

heard_some-quick : (b : ℕ) (s : State) → (heard_some b s).steps ≤ 16
heard_some-quick b s = some_quick (b == 0) b s

heard_text-quick : (a b c d : ℕ) (s : State) → (heard_text a b c d s).steps ≤ 64
heard_text-quick a b c d s =
    let t = heard_some a s in
    let u = heard_some b t.state in
    let v = heard_some c u.state in
    let i = heard_some-quick a s in
    let j = heard_some-quick b t.state in
    let k = heard_some-quick c u.state in
    let l = heard_some-quick d v.state in
    omega arith

heard_star-quick : (s : State) → (heard_star s).steps ≤ 32
heard_star-quick s = let i = heard-quick (code "\\") s in let j = heard-quick (code "*") (heard (code "\\") s).state in omega arith

star_then-quick : (a : ℕ) (s : State) → (then_emitted (heard_star s) (λ t. heard a t)).steps ≤ 48
star_then-quick a s = let i = heard_star-quick s in let j = heard-quick a (heard_star s).state in omega arith

pair_then-quick : (a b : ℕ) (s : State) → (then_emitted (then_emitted (heard_star s) (λ t. heard a t)) (λ t. heard b t)).steps ≤ 64
pair_then-quick a b s =
    let i = star_then-quick a s in
    let j = heard-quick b (then_emitted (heard_star s) (λ t. heard a t)).state in omega arith

two_then-quick : (a b d : ℕ) (s : State) → (then_emitted (then_emitted (then_emitted (heard_star s) (λ t. heard a t)) (λ t. heard b t)) (λ t. heard d t)).steps ≤ 80
two_then-quick a b d s =
    let i = pair_then-quick a b s in
    let j = heard-quick d (then_emitted (then_emitted (heard_star s) (λ t. heard a t)) (λ t. heard b t)).state in omega arith

heard_raw-quick : (pending : Pending) (s : State) → (heard_raw pending s).steps ≤ 80
heard_raw-quick pendings.Nothing s = omega arith
heard_raw-quick pendings.Backslash s = let i = heard-quick (code "\\") s in omega arith
heard_raw-quick pendings.Star s = let i = heard_star-quick s in omega arith
heard_raw-quick pendings.Open s = let i = star_then-quick (code "(") s in omega arith
heard_raw-quick (pendings.Pair a) s = let i = pair_then-quick (code "(") a s in omega arith
heard_raw-quick pendings.Bracket s = let i = star_then-quick (code "[") s in omega arith
heard_raw-quick (pendings.One a) s = let i = pair_then-quick (code "[") a s in omega arith
heard_raw-quick (pendings.Two a b) s = two_then-quick (code "[") a b s

read_by-quick : (n : Next) (b : ℕ) (s : State) → (read_by n b s).steps ≤ 96
read_by-quick (nexts.Waits pending) b s = omega arith
read_by-quick (nexts.Says c d e f) b s = let i = heard_text-quick c d e f (with_pending pendings.Nothing s) in omega arith
read_by-quick nexts.Breaks b s =
    let i = heard_raw-quick s.pending (with_pending pendings.Nothing s) in
    let j = heard-quick b (heard_raw s.pending (with_pending pendings.Nothing s)).state in omega arith

pub read-quick : (b : ℕ) (s : State) → (read b s).steps ≤ 96
unfolding read
read-quick b s = read_by-quick (offered_by s.pending b (takes_strings s.page.scan)) b s

fed_quick : (s : State) (bs : List ℕ) → (fed s bs).steps ≤ 96 * length bs
fed_quick s [] = omega arith
fed_quick s (b ∷ bs) =
    let first = read-quick b s in
    let rest = fed_quick (read b s).state bs in
    omega arith

line_finished-quick : (s : State) → (line_finished s).steps ≤ 16
unfolding line_finished
line_finished-quick s = heard-quick (code "\n") s

finished_at-quick : (scan : Scan) (s : State) → (finished_at scan s).steps ≤ 16
finished_at-quick (scans.Asleep prefix lines) s = none_quick
finished_at-quick scans.Passes s = none_quick
finished_at-quick scans.Start s = none_quick
finished_at-quick (scans.Table rows.Start) s = none_quick
finished_at-quick scan s = line_finished-quick s

pub finished-quick : (s : State) → (finished s).steps ≤ 96
unfolding finished
finished-quick s =
    let i = heard_raw-quick s.pending (with_pending pendings.Nothing s) in
    let t = (heard_raw s.pending (with_pending pendings.Nothing s)).state in
    let j = finished_at-quick t.page.scan t in omega arith

pub steps_said-quick : (ends : Bool) (bs : List ℕ) → steps_said first_state ends bs ≤ 96 * (length bs + 1)
steps_said-quick true bs =
    let first = fed_quick first_state bs in
    let last = finished-quick (fed first_state bs).state in
    omega arith
steps_said-quick false bs = let first = fed_quick first_state bs in omega arith
