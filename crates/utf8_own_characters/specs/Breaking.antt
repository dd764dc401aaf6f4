-- Where a line of East Asian text may be broken without a blank (JIS X 4051, in the classes of Unicode Standard Annex 14).
use Rattle.std.specs.Prelude.{ℕ, Bool, true, false, not, ◌&&◌, ◌||◌}
use Rattle.ucd_breaks.specs.LineBreak.{line_break}
use Rattle.ucd_breaks.specs.declared.LineBreak.{LineBreak}
use Rattle.ucd_breaks.specs.declared.LineBreak.TheVariants as class
use Rattle.utf8_own_characters.specs.Cluster.{is_wide, single}

-- brackets that open, and signs before numbers
abbrev pub opens : LineBreak → Bool
opens class.OpenPunctuation = true
opens class.PrefixNumeric = true
opens class.Quotation = true
opens _ = false

-- brackets that close, stops, small kana, marks of repetition and of length, signs after numbers
abbrev pub closes : LineBreak → Bool
closes class.ClosePunctuation = true
closes class.CloseParenthesis = true
closes class.ConditionalJapaneseStarter = true
closes class.Nonstarter = true
closes class.Exclamation = true
closes class.InfixNumeric = true
closes class.PostfixNumeric = true
closes class.BreakSymbols = true
closes class.Inseparable = true
closes class.Quotation = true
closes _ = false

-- what is bound to what stands beside it: blanks, control characters, joiners, hyphens, marks
abbrev pub is_bound : LineBreak → Bool
is_bound class.Space = true
is_bound class.Glue = true
is_bound class.WordJoiner = true
is_bound class.Zwj = true
is_bound class.ZWSpace = true
is_bound class.CombiningMark = true
is_bound class.MandatoryBreak = true
is_bound class.CarriageReturn = true
is_bound class.LineFeed = true
is_bound class.NextLine = true
is_bound class.Hyphen = true
is_bound class.UnambiguousHyphen = true
is_bound class.BreakAfter = true
is_bound class.BreakBefore = true
is_bound class.BreakBoth = true
is_bound class.Surrogate = true
is_bound _ = false

-- syllables of Korean: its lines are broken at blanks
abbrev pub is_korean : LineBreak → Bool
is_korean class.H2 = true
is_korean class.H3 = true
is_korean class.Jl = true
is_korean class.Jv = true
is_korean class.Jt = true
is_korean _ = false

-- an ideograph, kana, or a sign among them
abbrev pub is_east_asian : ℕ → Bool
is_east_asian c = is_wide (single c) && not (is_korean (line_break c))

abbrev pub may_end : LineBreak → Bool
may_end k = not (opens k || is_bound k)

abbrev pub may_begin : LineBreak → Bool
may_begin k = not (closes k || is_bound k)

abbrev pub may_break : ℕ → ℕ → Bool
may_break before after = (is_east_asian before || is_east_asian after) && may_end (line_break before) && may_begin (line_break after)
