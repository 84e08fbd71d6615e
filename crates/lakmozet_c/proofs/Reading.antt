-- What reading a scene's text says of the scene, or of why there is none.
use Rattle.std.proofs.Common.{ℕ, List, Option, Some, None, Ok, Err, inl, inr, arith}
use Rattle.std.specs.Prelude.{ℤ, Result, MatchResult}
use Rattle.toml.specs.Data.{Members}
use Rattle.pbd_world.specs.declared.parts.Parts.{Parts}
use Rattle.pbd_scene.specs.declared.fault.SceneFault.{SceneFault}
use Rattle.pbd_scene.specs.declared.fault.SceneFault.TheVariants.{NotToml, Refused, OutOfMemory}
use Rattle.pbd_scene.specs.Scene.{Reads}
use Rattle.lakmozet_c.specs.declared.opening.NoCloth.{NoCloth}
use Rattle.lakmozet_c.specs.declared.opening.NoCloth.TheVariants.{TooManySlots, NotText, NoToml, NoScene}
use Rattle.lakmozet_c.specs.Faults.{IsFaultIn, IsSceneIn, IsWhyIn}

pub read_as : (limit : ℤ) (r : Result Parts SceneFault) (tree : Option Members) → Reads limit r tree
    → MatchResult r (λ parts. IsSceneIn limit tree parts) (λ fault. IsFaultIn limit tree fault)
read_as limit (Ok parts) (Some tree) reads = reads
read_as limit (Err NotToml) (Some tree) reads = absurd reads
read_as limit (Err (Refused rule table position key)) (Some tree) reads = reads
read_as limit (Err OutOfMemory) (Some tree) reads = tt
read_as limit (Ok parts) None reads = absurd reads
read_as limit (Err NotToml) None reads = tt
read_as limit (Err (Refused rule table position key)) None (inl wrong) = cc wrong
read_as limit (Err (Refused rule table position key)) None (inr wrong) = cc wrong
read_as limit (Err OutOfMemory) None reads = tt

-- no reason but that there are too many slots has to do with slots
pub with_any_slots : (limit : ℤ) (bytes : List ℕ) (slots : ℕ) (why : NoCloth) → IsWhyIn limit bytes 0 why → IsWhyIn limit bytes slots why
with_any_slots limit bytes slots TooManySlots few = absurd (omega (arith, few))
with_any_slots limit bytes slots NotText is = is
with_any_slots limit bytes slots (NoToml offset) is = is
with_any_slots limit bytes slots (NoScene NotToml) is = is
with_any_slots limit bytes slots (NoScene (Refused rule table position key)) is = is
with_any_slots limit bytes slots (NoScene OutOfMemory) is = is
