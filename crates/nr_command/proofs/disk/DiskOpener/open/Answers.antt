use Rattle.std.proofs.Common.{◌≡◌, ℕ, List, Option, Result, Ok, Err, refl, ap, ◌∙◌}
use Rattle.nr_units.specs.Source.{reader_supply}
use Rattle.nr_command_options.specs.Inputs.{Reading, ReadsMacros, ReadsFile, ReadsStandard, reading_of}
use Rattle.nr_command.specs.Disk.{IsText, MayCome, left_of}
use Rattle.nr_command.specs.Opening.{Opens, Refuses}
use Rattle.nr_command.specs.declared.disk.Text.{Text}
use Rattle.nr_command.specs.declared.disk.Text.TheVariants.{Standard}
use Rattle.nr_command.proofs.disk.DiskOpener.open.Goals as goal

-- standard input gives what is left of it
opens : {F I E : Type 0} (file : F → Option (List ℕ)) (rest : I → Option (List ℕ)) (standard : I) (reading : Reading) (text : Text F I) (r : Result (Text F I) E)
    → r ≡ Ok text → IsText standard reading r → MayCome (rest standard) reading (Opens (reader_supply (left_of file rest text)))
opens file rest standard ReadsStandard text r is made =
    let same : text ≡ Standard standard = cc in
    ap (λ t. Opens (reader_supply (left_of file rest t))) same
opens file rest standard (ReadsFile name) text r is made = tt
opens file rest standard (ReadsMacros folder name) text r is made = tt

-- it is never refused
refuses : {F I E : Type 0} (left : Option (List ℕ)) (standard : I) (reading : Reading) (error : E) (r : Result (Text F I) E)
    → r ≡ Err error → IsText standard reading r → MayCome left reading Refuses
refuses left standard ReadsStandard error r is made = cc
refuses left standard (ReadsFile name) error r is made = tt
refuses left standard (ReadsMacros folder name) error r is made = tt

pub returns-in-Ok-clause-comes : goal.returns-in-Ok-clause-comes
returns-in-Ok-clause-comes g c = rw c.over.ensures.supply (opens g.P.File.Read.remaining g.I.Read.remaining c.args.self.now.standard (reading_of c.args.input) c.in-Ok.text c.text.result c.in-Ok.is c.text.ensures.text)

pub returns-in-Err-clause-comes : goal.returns-in-Err-clause-comes
returns-in-Err-clause-comes g c = refuses (g.I.Read.remaining c.args.self.now.standard) c.args.self.now.standard (reading_of c.args.input) c.in-Err.error c.text.result c.in-Err.is c.text.ensures.text
