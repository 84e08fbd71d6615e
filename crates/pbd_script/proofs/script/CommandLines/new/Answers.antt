use Rattle.std.proofs.Common.{sym}
use Rattle.pbd_script.proofs.CommandLemmas.{few_by_line}
use Rattle.pbd_script.proofs.script.CommandLines.new.Goals as goal

pub returns-clause-all : goal.returns-clause-all
returns-clause-all g c = sym (g.met.C.LineCommand.line_by_line c.args.bytes.now)

pub returns-clause-few : goal.returns-clause-few
returns-clause-few g c = few_by_line g.C.LineCommand.of_line c.args.bytes.now
