use Rattle.std.proofs.Common.{◌≡◌, ◌++◌, take}
use Rattle.pbd_obj.proofs.links.push_links.Given as goal

abbrev pub invariant-loop-link : goal.invariant-loop-link
invariant-loop-link l = l.links ≡ l.fn.links ++ take l.link-index l.new
