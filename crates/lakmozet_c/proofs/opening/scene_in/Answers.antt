use Rattle.std.proofs.Common.{ℕ, List, subst}
use Rattle.lakmozet_c.specs.Faults.{IsWhyIn}
use Rattle.lakmozet_c.proofs.opening.scene_in.Goals as goal

-- the text is the bytes
pub returns-in-Err-NotToml : goal.returns-in-Err-NotToml
returns-in-Err-NotToml c = subst (λ (b : List ℕ). IsWhyIn c.args.limit b 0 c.not_toml.result) c.in-Ok.ensures.cases.0
    (c.not_toml.ensures c.args.limit)
