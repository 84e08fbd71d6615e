use Rattle.std.proofs.Common.{◌≤◌}
use Rattle.pbd_tests_text.proofs.tests.log.write_replies.Given as goal

abbrev pub invariant-loop-command : goal.invariant-loop-command
invariant-loop-command g l = l.writer ≤ l.command-index
