use Rattle.std.proofs.Common.{◌≡◌, ◌∙◌, ap, arith, map, get_or, length, List, ℕ, None}
use Rattle.std.proofs.lemmas.List.{with_items_is}
use Rattle.std.specs.Vec.{with_items}
use Rattle.pbd_chain.specs.Told.{told}
use Rattle.pbd_chain.proofs.Codes.{codes_cleared, codes_length}
use Rattle.pbd_chain.proofs.targets.Targets.clear.Goals as goal

pub returns-clause-each : goal.returns-clause-each
returns-clause-each c =
    let e : (with_items c.self.inside.codes c.zero_all.new.codes).items
    ≡ c.zero_all.new.codes = with_items_is c.self.inside.codes c.zero_all.new.codes
    (omega (arith, c.zero_all.auto.codes, c.as_mut_slice.ensures.len)) in
    λ k. ap (λ (xs : List ℕ). get_or (map told xs) k None) e ∙ codes_cleared c.zero_all.new.codes c.zero_all.ensures k

pub returns-clause-len : goal.returns-clause-len
returns-clause-len c = rw (← c.self.view_is) (
    let e : (with_items c.self.inside.codes c.zero_all.new.codes).items
    ≡ c.zero_all.new.codes = with_items_is c.self.inside.codes c.zero_all.new.codes
    (omega (arith, c.zero_all.auto.codes, c.as_mut_slice.ensures.len)) in
    ap (λ (xs : List ℕ). length (map told xs)) e ∙ codes_length c.zero_all.new.codes
    ∙ omega (arith, c.zero_all.auto.codes, c.as_mut_slice.ensures.len, codes_length c.self.inside.codes.items, c.self.inside.codes.ok.0))
