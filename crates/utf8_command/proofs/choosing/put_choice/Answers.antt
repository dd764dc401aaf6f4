use Rattle.std.proofs.Common.{append_assoc, codes}
use Rattle.utf8_command.proofs.choosing.put_choice.Goals as goal

pub returns : goal.returns
returns g c =
    let first = rw c.as_bytes.ensures.value at c.put_out.ensures in
    let parts = rw c.as_bytes-2.ensures.value at first in
    rw (append_assoc c.args.before.now c.args.file.now (codes "\n")) parts
