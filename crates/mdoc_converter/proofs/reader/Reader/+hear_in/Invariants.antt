use Rattle.mdoc_converter.proofs.reader.Reader.+hear_in.Given as goal

abbrev pub decreases-hear_in : goal.decreases-hear_in
decreases-hear_in l = l.most
