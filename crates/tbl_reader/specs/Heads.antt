-- Lines of options and formats (Tbl, "Options", "Format"): options end with a semicolon, formats with a point at the end of a line.
use Rattle.std.specs.Prelude.{ℕ, List, [], ◌∷◌, Bool, false, ◌==◌, ◌&&◌, ◌||◌, not, if◌then◌else◌, Option, None, Some}
use Prim.Native.Char.{code}
use Rattle.tbl_reader.specs.Fields.{one_later}

-- where the semicolon stands that ends the options: none does right after a parenthesis that opens
abbrev pub options_end_in : Bool → List ℕ → Option ℕ
options_end_in opened [] = None
options_end_in opened (b ∷ bs) =
    if (b == code ";") && not opened then Some 0 else one_later (options_end_in (b == code "(") bs)

abbrev pub options_end : List ℕ → Option ℕ
options_end line = options_end_in false line

abbrev pub is_blank : ℕ → Bool
is_blank b = (b == code " ") || (b == code "\t")

-- a line ends with a point, and blanks
abbrev pub dotted_after : Bool → List ℕ → Bool
dotted_after dotted [] = dotted
dotted_after dotted (b ∷ bs) = dotted_after ((b == code ".") || (dotted && is_blank b)) bs

abbrev pub is_dotted : List ℕ → Bool
is_dotted line = dotted_after false line
