use Rattle.std.proofs.Common.{◌∙◌, ap}
use Rattle.preconv_coding.specs.declared.names.TheConstants.{NAMES}
use Rattle.preconv_coding.specs.Names.{named_in, coding_named}
use Rattle.preconv_coding.proofs.names.coding_named.Goals as goal

pub returns : goal.returns
unfolding coding_named
returns c = c.named_in.ensures ∙ ap (named_in NAMES) c.base_of.ensures
