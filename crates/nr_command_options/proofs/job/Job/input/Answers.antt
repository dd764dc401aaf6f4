use Rattle.std.proofs.Common.{ap, arith, length, ◌-◌}
use Rattle.nr_command_options.proofs.InOrder.{macro_at, file_at, standard_at, none_unread, none_after}
use Rattle.nr_command_options.proofs.job.Job.input.Goals as goal
use Rattle.nr_command_options.proofs.job.Job.input.Goals.{else-place-files-2-via-then-place-files-2+else-self, else-place-files-2-via-else-place-files-2}

pub returns-then-place-macros : goal.returns-then-place-macros
returns-then-place-macros c =
    let job = c.args.self.now in
    rw c.as_slice-macros.ensures.value (macro_at job.macro_folder.now job.macros.items job.files.now job.reads_input c.args.place _ (rw c.as_slice-macros.ensures.value at c.if-place-macros.true))

pub returns-then-place-files : goal.returns-then-place-files
returns-then-place-files c =
    let job = c.args.self.now in
    let size = ap length c.as_slice-macros.ensures.value in
    rw c.input_named.ensures (file_at job.macro_folder.now job.macros.items job.files.now job.reads_input c.args.place (c.args.place - length c.as_slice-macros.result.now) _ (omega (arith, size)) c.if-place-files.true)

pub returns-then-self : goal.returns-then-self
returns-then-self c =
    let job = c.args.self.now in
    let size = ap length c.as_slice-macros.ensures.value in
    standard_at job.macro_folder.now job.macros.items job.files.now job.reads_input c.args.place (omega (arith, size)) c.if-self.true

pub returns-else-place-files-2 : goal.returns-else-place-files-2
returns-else-place-files-2 c =
    let job = c.args.self.now in
    let size = ap length c.as_slice-macros.ensures.value in
    elim c.else-place-files-2.branch [
      | else-place-files-2-via-then-place-files-2+else-self w ↦ none_unread job.macro_folder.now job.macros.items job.files.now job.reads_input c.args.place (omega (arith, size)) w.if-self.false
      | else-place-files-2-via-else-place-files-2 w ↦ none_after job.macro_folder.now job.macros.items job.files.now job.reads_input c.args.place (omega (arith, size))
    ]
