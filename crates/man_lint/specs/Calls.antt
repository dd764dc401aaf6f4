-- What a control line calls: a macro or a request, and its first words.
use Rattle.std.specs.Prelude.{ℕ, ◌+◌, [], Bool, true, false, ◌==◌, nat_lt, if◌then◌else◌}
use Rattle.man_lint.specs.Names.{grown}
use Rattle.man_lint.specs.declared.calls.Call.{Call}

abbrev pub no_call : Bool → Call
no_call conditional = record { name = []; first = []; second = []; words = 0; escaped = false; conditional = conditional }

-- a byte of the name comes, or of the word that began last
abbrev pub added : ℕ → Call → Call
added b c =
    if c.words == 0 then record c { name = grown c.name b } else
    if c.words == 1 then record c { first = grown c.first b } else
    if c.words == 2 then record c { second = grown c.second b } else c

abbrev pub with_word : Call → Call
with_word c = if nat_lt c.words 3 then record c { words = c.words + 1 } else c

abbrev pub with_escape : Call → Call
with_escape c = if c.words == 1 then record c { escaped = true } else c
