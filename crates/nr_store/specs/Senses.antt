-- What a name stands for, by the numbers of texts.
use Rattle.std.specs.Prelude.{ℕ, List, [], ◌∷◌, Option, Some, None}
use Rattle.nr_store.specs.declared.named.Sense.{Sense}
use Rattle.nr_store.specs.declared.named.Sense.TheVariants as senses

-- the text's number, where it is a text
abbrev pub text_id : Option Sense → Option ℕ
text_id None = None
text_id (Some (senses.Request r)) = None
text_id (Some (senses.Text id)) = Some id

-- the texts that it holds
abbrev pub ids_of_sense : Sense → List ℕ
ids_of_sense (senses.Request r) = []
ids_of_sense (senses.Text id) = id ∷ []

-- 1 for a request, else 0
abbrev pub act : Sense → ℕ
act (senses.Request r) = 1
act (senses.Text id) = 0
