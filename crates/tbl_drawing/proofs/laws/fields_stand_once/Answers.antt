use Rattle.tbl_drawing.proofs.FieldsStand.{fields_stand_once}
use Rattle.tbl_drawing.proofs.laws.fields_stand_once.Goals as goal

pub returns : goal.returns
returns c = fields_stand_once
