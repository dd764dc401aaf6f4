-- What the words from `place` on come to is the answer; where a name is awaited, its option stands before.
use Rattle.std.proofs.Common.{◌≡◌, ◌≤◌, true}
use Rattle.tbl_command.proofs.Answering.{Leads}
use Rattle.tbl_command.proofs.arguments.read_words.Given as goal

abbrev pub invariant-loop-place : goal.invariant-loop-place
invariant-loop-place l = record {
  comes : Leads l.awaits l.job l.place l.words;
  awaited : l.awaits ≡ true → 1 ≤ l.place;
  formats : l.job.formats ≤ 1048576;
  row : l.job.row ≤ 1048576;
}
