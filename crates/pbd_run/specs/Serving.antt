-- What commands that are done one after another are answered.
use Rattle.std.specs.Prelude.{ℕ, ◌+◌, Bool, if◌then◌else◌, List, [], ◌∷◌, ◌++◌}

-- the texts of their answers
unfoldable pub served_text : {S C : Type 0} → (S → C → S) → (S → C → List ℕ) → S → List C → List ℕ
served_text after answer s [] = []
served_text after answer s (c ∷ cs) = answer s c ++ served_text after answer (after s c) cs

-- how many of them are refused
unfoldable pub served_refusals : {S C : Type 0} → (S → C → S) → (S → C → Bool) → S → List C → ℕ
served_refusals after refuses s [] = 0
served_refusals after refuses s (c ∷ cs) = (if refuses s c then 1 else 0) + served_refusals after refuses (after s c) cs
