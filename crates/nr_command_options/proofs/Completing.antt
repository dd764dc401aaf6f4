-- Files from their beginning, each completed.
use Rattle.std.proofs.Common.{◌≡◌, ℕ, List, [], ◌∷◌, ◌++◌, length, Bool, true, false, not, ◌==◌, cond, append-nil, Option, None, Some, refl, ap, ◌∙◌}
use Rattle.std.specs.Option.{option_map}
use Rattle.std.specs.List.{flat_map}
use Rattle.nr_units.specs.Source.{Supply, Faults, Anytime}
use Rattle.nr_command_options.specs.Chained.{ended, chained_bytes, faults_before, chained_faults, some_anytime, chain_from, all_known, chain_supply}
use Rattle.nr_command_options.specs.Files.{lacks_newline, completed, faults_of_all, one_after_the_other, files_supply}

ended_after : (byte : ℕ) (bytes : List ℕ) (o : Bool) → ended (byte ∷ bytes) o ≡ (byte ∷ bytes) ++ cond (lacks_newline (byte ∷ bytes)) (10 ∷ []) []
ended_after byte [] o = refl
ended_after byte (next ∷ bytes) o = ap (λ (bs : List ℕ). byte ∷ bs) (ended_after next bytes (not (byte == 10)))

completed_is : (b : Bool) (bytes : List ℕ) → bytes ++ cond b (10 ∷ []) [] ≡ cond b (bytes ++ 10 ∷ []) bytes
completed_is true bytes = refl
completed_is false bytes = append-nil bytes

pub ended_completed : (bytes : List ℕ) → ended bytes false ≡ completed bytes
ended_completed [] = refl
ended_completed (byte ∷ bytes) = ended_after byte bytes false ∙ completed_is (lacks_newline (byte ∷ bytes)) (byte ∷ bytes)

chained_completed : (files : List Supply) → chained_bytes false files ≡ flat_map (λ (file : Supply). completed file.bytes) files
chained_completed [] = refl
chained_completed (file ∷ files) =
    ap (λ (bs : List ℕ). bs ++ chained_bytes false files) (ended_completed file.bytes) ∙ ap (λ (bs : List ℕ). completed file.bytes ++ bs) (chained_completed files)

faults_completed : (files : List Supply) → chained_faults false files ≡ faults_of_all files
faults_completed [] = refl
faults_completed (file ∷ files) =
    ap (λ (bs : List ℕ). faults_before file.faults (length file.bytes) (length bs) (chained_faults false files)) (ended_completed file.bytes)
    ∙ ap (faults_before file.faults (length file.bytes) (length (completed file.bytes))) (faults_completed files)

abbrev supply_of : List ℕ → Faults → Supply
supply_of bytes faults = record { bytes = bytes; faults = faults }

chain_from_start : (files : List Supply) → chain_from 0 false files ≡ one_after_the_other files
chain_from_start files =
    ap (λ (bs : List ℕ). supply_of bs (cond (some_anytime files) Anytime (chained_faults false files))) (chained_completed files)
    ∙ ap (λ (fs : Faults). supply_of (flat_map (λ (file : Supply). completed file.bytes) files) (cond (some_anytime files) Anytime fs)) (faults_completed files)

from_start : (known : Option (List Supply)) → option_map (chain_from 0 false) known ≡ option_map one_after_the_other known
from_start None = refl
from_start (Some files) = ap (λ (q : Supply). Some q) (chain_from_start files)

pub chain_supply_start : (files : List (Option Supply)) → chain_supply 0 false files ≡ files_supply files
chain_supply_start files = from_start (all_known files)
