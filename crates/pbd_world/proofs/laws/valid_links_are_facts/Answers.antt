use Rattle.pbd_world.proofs.ValidLinks.{link_facts, links_facts}
use Rattle.pbd_world.proofs.laws.valid_links_are_facts.Goals as goal

pub returns-clause-link : goal.returns-clause-link
returns-clause-link c limit n l h = (link_facts limit n l).0 h

pub returns-clause-link_test : goal.returns-clause-link_test
returns-clause-link_test c limit n l h = (link_facts limit n l).1 h

pub returns-clause-links : goal.returns-clause-links
returns-clause-links c limit n links h = (links_facts limit n links).0 h

pub returns-clause-links_test : goal.returns-clause-links_test
returns-clause-links_test c limit n links h = (links_facts limit n links).1 h
