use Rattle.pbd_laws_host.proofs.Splits.{splits-alike}
use Rattle.pbd_laws_host.proofs.splitting.the_text_of_a_host_splits_in_one_way.Goals as goal

pub returns : goal.returns
returns c = splits-alike
