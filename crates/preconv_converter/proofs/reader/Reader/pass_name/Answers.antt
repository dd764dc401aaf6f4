use Rattle.std.proofs.Common.{◌≡◌, ◌+◌, ◌-◌, ◌∷◌, ◌∙◌, ℕ, List, [], length, take, drop, subst, sym, ap, arith}
use Rattle.std.proofs.lemmas.List.{take-take}
use Rattle.std.proofs.lemmas.Bool.{false≢true}
use Rattle.preconv_lines.specs.declared.half.Half.{Half}
use Rattle.preconv_converter.specs.declared.reader.Pending.TheVariants.{Nothing}
use Rattle.preconv_converter.specs.Reading.{fed, emitted, with_half}
use Rattle.preconv_converter.specs.Runs.{after_name}
use Rattle.preconv_converter.proofs.Names.{name_fed}
use Rattle.preconv_converter.proofs.reader.Reader.pass_name.Goals as goal
use Rattle.preconv_converter.proofs.reader.Reader.pass_name.Goals.{in-Nothing, in_default}

pub returns-then-len-gt0-clause-named : goal.returns-then-len-gt0-clause-named
returns-then-len-gt0-clause-named c = λ some.
    let none : c.args.self.now.pending ≡ Nothing =
    elim c.match-matches.branch [ in-Nothing b ↦ b.in-Nothing.is | in_default b ↦ absurd (false≢true (sym b.matches-is ∙ c.if-not-matches.false)) ] in
    let n = c.name_len-len.result in
    let bs = c.args.bytes.now in
    let r = c.args.self.now in
    let P : Half → Type 0 = λ h. fed r (take (n + 1) bs) ≡ emitted (with_half h r) (46 ∷ []) (n + 1) in
    let named : c.of.result ≡ take n (drop 1 bs) = c.of.ensures ∙ take-take n (length bs - 1) (drop 1 bs) (let within = c.name_len-len.ensures.within some in omega (arith, within)) in
    subst P (ap (λ (name : List ℕ). after_name name r.half) (sym named) ∙ sym c.takes_name.ensures)
    (name_fed n bs r none c.name_len-len.ensures.len some)
