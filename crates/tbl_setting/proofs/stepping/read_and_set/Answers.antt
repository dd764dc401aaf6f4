use Rattle.tbl_reader.specs.Ending.{next_read}
use Rattle.tbl_reader.specs.declared.running.ReadEnd.TheVariants.{Done}
use Rattle.tbl_setting.proofs.Steps.{steps_to}
use Rattle.tbl_setting.proofs.stepping.read_and_set.Goals as goal

pub returns-clause-setting : goal.returns-clause-setting
returns-clause-setting g c =
    (steps_to (next_read c.args.next c.args.reader.now).pieces c.args.press.now.out c.read_next.new.setter.out c.ends.new.self.out
    c.args.press.now.setting c.read_next.new.setter.setting c.ends.new.self.setting c.args.press.now.complaints c.read_next.new.setter.complaints
    c.ends.new.self.complaints c.args.press.now.missed c.read_next.new.setter.missed c.ends.new.self.missed Done c.ends.result
    c.requires.tape c.read_next.ensures.emitted c.ends.ensures.draws c.ends.ensures.setting c.ends.ensures.complaints c.ends.ensures.ends c.requires.kept).setting_now

pub returns-clause-setting_same : goal.returns-clause-setting_same
returns-clause-setting_same g c =
    (steps_to (next_read c.args.next c.args.reader.now).pieces c.args.press.now.out c.read_next.new.setter.out c.ends.new.self.out
    c.args.press.now.setting c.read_next.new.setter.setting c.ends.new.self.setting c.args.press.now.complaints c.read_next.new.setter.complaints
    c.ends.new.self.complaints c.args.press.now.missed c.read_next.new.setter.missed c.ends.new.self.missed Done c.ends.result
    c.requires.tape c.read_next.ensures.emitted c.ends.ensures.draws c.ends.ensures.setting c.ends.ensures.complaints c.ends.ensures.ends c.requires.kept).setting_same

pub returns-clause-setting_room : goal.returns-clause-setting_room
returns-clause-setting_room g c =
    (steps_to (next_read c.args.next c.args.reader.now).pieces c.args.press.now.out c.read_next.new.setter.out c.ends.new.self.out
    c.args.press.now.setting c.read_next.new.setter.setting c.ends.new.self.setting c.args.press.now.complaints c.read_next.new.setter.complaints
    c.ends.new.self.complaints c.args.press.now.missed c.read_next.new.setter.missed c.ends.new.self.missed Done c.ends.result
    c.requires.tape c.read_next.ensures.emitted c.ends.ensures.draws c.ends.ensures.setting c.ends.ensures.complaints c.ends.ensures.ends c.requires.kept).setting_room

pub returns-clause-sent : goal.returns-clause-sent
returns-clause-sent g c =
    (steps_to (next_read c.args.next c.args.reader.now).pieces c.args.press.now.out c.read_next.new.setter.out c.ends.new.self.out
    c.args.press.now.setting c.read_next.new.setter.setting c.ends.new.self.setting c.args.press.now.complaints c.read_next.new.setter.complaints
    c.ends.new.self.complaints c.args.press.now.missed c.read_next.new.setter.missed c.ends.new.self.missed Done c.ends.result
    c.requires.tape c.read_next.ensures.emitted c.ends.ensures.draws c.ends.ensures.setting c.ends.ensures.complaints c.ends.ensures.ends c.requires.kept).sent

pub returns-clause-keeps : goal.returns-clause-keeps
returns-clause-keeps g c =
    (steps_to (next_read c.args.next c.args.reader.now).pieces c.args.press.now.out c.read_next.new.setter.out c.ends.new.self.out
    c.args.press.now.setting c.read_next.new.setter.setting c.ends.new.self.setting c.args.press.now.complaints c.read_next.new.setter.complaints
    c.ends.new.self.complaints c.args.press.now.missed c.read_next.new.setter.missed c.ends.new.self.missed Done c.ends.result
    c.requires.tape c.read_next.ensures.emitted c.ends.ensures.draws c.ends.ensures.setting c.ends.ensures.complaints c.ends.ensures.ends c.requires.kept).keeps

pub returns-clause-same : goal.returns-clause-same
returns-clause-same g c =
    (steps_to (next_read c.args.next c.args.reader.now).pieces c.args.press.now.out c.read_next.new.setter.out c.ends.new.self.out
    c.args.press.now.setting c.read_next.new.setter.setting c.ends.new.self.setting c.args.press.now.complaints c.read_next.new.setter.complaints
    c.ends.new.self.complaints c.args.press.now.missed c.read_next.new.setter.missed c.ends.new.self.missed Done c.ends.result
    c.requires.tape c.read_next.ensures.emitted c.ends.ensures.draws c.ends.ensures.setting c.ends.ensures.complaints c.ends.ensures.ends c.requires.kept).same

pub returns-clause-room : goal.returns-clause-room
returns-clause-room g c =
    (steps_to (next_read c.args.next c.args.reader.now).pieces c.args.press.now.out c.read_next.new.setter.out c.ends.new.self.out
    c.args.press.now.setting c.read_next.new.setter.setting c.ends.new.self.setting c.args.press.now.complaints c.read_next.new.setter.complaints
    c.ends.new.self.complaints c.args.press.now.missed c.read_next.new.setter.missed c.ends.new.self.missed Done c.ends.result
    c.requires.tape c.read_next.ensures.emitted c.ends.ensures.draws c.ends.ensures.setting c.ends.ensures.complaints c.ends.ensures.ends c.requires.kept).room
