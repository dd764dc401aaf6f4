use Rattle.std.proofs.Common.{refl}
use Rattle.tbl_setting.specs.Running.{bounds_in}
use Rattle.tbl_setting.proofs.Runs.{begins, lent, runs_to}
use Rattle.tbl_setting.proofs.turning.run.Goals as goal

pub returns-clause-ran : goal.returns-clause-ran
returns-clause-ran g c = (runs_to _ _ _ (bounds_in c.args.reader.now c.args.press.now.setting.now) _ _ (lent c.args.press.now.out c.args.press.now.setting c.args.press.now.complaints) _ _ _ _ _ _ _ _ _ _ (record { shows_it = begins _ _ _ _ c.requires.tape c.requires.empty c.requires.missed; setting = c.requires.setting; nothing = refl }) (λ s h. h) c.ends.ensures.draws c.ends.ensures.setting c.ends.ensures.complaints c.read_page-outcome.ensures.ran c.read_page-outcome.ensures.write_faults c.ends.ensures.ends).ran

pub returns-clause-setting_same : goal.returns-clause-setting_same
returns-clause-setting_same g c = (runs_to _ _ _ (bounds_in c.args.reader.now c.args.press.now.setting.now) _ _ (lent c.args.press.now.out c.args.press.now.setting c.args.press.now.complaints) _ _ _ _ _ _ _ _ _ _ (record { shows_it = begins _ _ _ _ c.requires.tape c.requires.empty c.requires.missed; setting = c.requires.setting; nothing = refl }) (λ s h. h) c.ends.ensures.draws c.ends.ensures.setting c.ends.ensures.complaints c.read_page-outcome.ensures.ran c.read_page-outcome.ensures.write_faults c.ends.ensures.ends).setting_same

pub returns-clause-setting_room : goal.returns-clause-setting_room
returns-clause-setting_room g c = (runs_to _ _ _ (bounds_in c.args.reader.now c.args.press.now.setting.now) _ _ (lent c.args.press.now.out c.args.press.now.setting c.args.press.now.complaints) _ _ _ _ _ _ _ _ _ _ (record { shows_it = begins _ _ _ _ c.requires.tape c.requires.empty c.requires.missed; setting = c.requires.setting; nothing = refl }) (λ s h. h) c.ends.ensures.draws c.ends.ensures.setting c.ends.ensures.complaints c.read_page-outcome.ensures.ran c.read_page-outcome.ensures.write_faults c.ends.ensures.ends).setting_room

pub returns-clause-same : goal.returns-clause-same
returns-clause-same g c = (runs_to _ _ _ (bounds_in c.args.reader.now c.args.press.now.setting.now) _ _ (lent c.args.press.now.out c.args.press.now.setting c.args.press.now.complaints) _ _ _ _ _ _ _ _ _ _ (record { shows_it = begins _ _ _ _ c.requires.tape c.requires.empty c.requires.missed; setting = c.requires.setting; nothing = refl }) (λ s h. h) c.ends.ensures.draws c.ends.ensures.setting c.ends.ensures.complaints c.read_page-outcome.ensures.ran c.read_page-outcome.ensures.write_faults c.ends.ensures.ends).same

pub returns-clause-room : goal.returns-clause-room
returns-clause-room g c = (runs_to _ _ _ (bounds_in c.args.reader.now c.args.press.now.setting.now) _ _ (lent c.args.press.now.out c.args.press.now.setting c.args.press.now.complaints) _ _ _ _ _ _ _ _ _ _ (record { shows_it = begins _ _ _ _ c.requires.tape c.requires.empty c.requires.missed; setting = c.requires.setting; nothing = refl }) (λ s h. h) c.ends.ensures.draws c.ends.ensures.setting c.ends.ensures.complaints c.read_page-outcome.ensures.ran c.read_page-outcome.ensures.write_faults c.ends.ensures.ends).room

pub returns-clause-write_faults : goal.returns-clause-write_faults
returns-clause-write_faults g c = (runs_to _ _ _ (bounds_in c.args.reader.now c.args.press.now.setting.now) _ _ (lent c.args.press.now.out c.args.press.now.setting c.args.press.now.complaints) _ _ _ _ _ _ _ _ _ _ (record { shows_it = begins _ _ _ _ c.requires.tape c.requires.empty c.requires.missed; setting = c.requires.setting; nothing = refl }) (λ s h. h) c.ends.ensures.draws c.ends.ensures.setting c.ends.ensures.complaints c.read_page-outcome.ensures.ran c.read_page-outcome.ensures.write_faults c.ends.ensures.ends).failures
