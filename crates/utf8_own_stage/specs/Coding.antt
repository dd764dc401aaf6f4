-- The characters of a page become the bytes of its own table, and points go between them.
use Rattle.std.specs.Prelude.{ℕ, List, [], ◌∷◌, ◌++◌, Bool, true, false, Option, None, Some, if◌then◌else◌}
use Rattle.preconv_characters.specs.Likeness.{likeness}
use Rattle.preconv_characters.specs.declared.target.Target.TheVariants.{Ascii}
use Rattle.utf8_own_characters.specs.declared.cluster.Cluster.{Cluster}
use Rattle.utf8_own_characters.specs.declared.table.Code.{Code}
use Rattle.utf8_own_characters.specs.declared.table.Code.TheVariants.{One, Two}
use Rattle.utf8_own_characters.specs.declared.listening.Listener.{Listener}
use Rattle.utf8_own_characters.specs.declared.listening.Listened.{Listened}
use Rattle.utf8_own_characters.specs.Listening.{after, read, first}
use Rattle.utf8_own_characters.specs.Table.{Characters, code}
use Rattle.utf8_own_stage.specs.declared.points.Place.{Place}
use Rattle.utf8_own_stage.specs.Points.{first_place, is_waiting, left, passed, point, read_as, text_of}

-- its bytes in the table, or what its letter looks like
abbrev pub coded_by : Option Code → ℕ → List ℕ
coded_by None letter = likeness Ascii letter
coded_by (Some (One b)) letter = b ∷ []
coded_by (Some (Two lead trail)) letter = lead ∷ trail ∷ []

abbrev pub coded : Characters → Cluster → List ℕ
coded t c = coded_by (code t c) c.letter

abbrev pub kept : Bool → List ℕ → List ℕ
kept waits bytes = if waits then [] else bytes

-- these bytes of a character, unless it waits, after what goes out before it
abbrev pub put_at : Place → ℕ → List ℕ → List ℕ
put_at p c bytes = text_of p.waits (point p c) ++ kept (is_waiting (passed p c).waits) bytes

abbrev pub said_cluster : Characters → Place → Option Cluster → List ℕ
said_cluster t p None = []
said_cluster t p (Some c) = put_at p (read_as c) (coded t c)

abbrev pub after_cluster : Place → Option Cluster → Place
after_cluster p None = p
after_cluster p (Some c) = passed p (read_as c)

abbrev pub said_byte : Place → Option ℕ → List ℕ
said_byte p None = []
said_byte p (Some b) = put_at p b (b ∷ [])

abbrev pub after_byte : Place → Option ℕ → Place
after_byte p None = p
after_byte p (Some b) = passed p b

-- the cluster that ends, and then a byte of ASCII
abbrev pub said : Characters → Place → Listened → List ℕ
said t p l = said_cluster t p l.done ++ said_byte (after_cluster p l.done) l.byte

abbrev pub place_after : Place → Listened → Place
place_after p l = after_byte (after_cluster p l.done) l.byte

-- what goes out of a text, and the place after it
abbrev pub said_of : Characters → Listener → Place → List ℕ → List ℕ
said_of t l p [] = []
said_of t l p (b ∷ bs) = said t p (read l b) ++ said_of t (read l b).listener (place_after p (read l b)) bs

abbrev pub place_after_all : Listener → Place → List ℕ → Place
place_after_all l p [] = p
place_after_all l p (b ∷ bs) = place_after_all (read l b).listener (place_after p (read l b)) bs

-- of the end
abbrev pub said_last : Characters → Place → Option Cluster → List ℕ
said_last t p held = said_cluster t p held ++ left (after_cluster p held)

-- of a text that is to come, and of its end, if it comes
abbrev pub coding : Characters → Listener → Place → Bool → List ℕ → List ℕ
coding t l p false bytes = said_of t l p bytes
coding t l p true bytes = said_of t l p bytes ++ said_last t (place_after_all l p bytes) (after l bytes).held

abbrev pub coded_text : Characters → Bool → List ℕ → List ℕ
coded_text t = coding t first first_place
