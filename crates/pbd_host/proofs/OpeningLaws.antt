-- Sessions that are opened one by one.
use Rattle.std.proofs.Common.{◌≡◌, ◌∙◌, sym, ap, subst, ℕ, ◌+◌, ◌-◌, ◌<◌, List, [], ◌∷◌, ◌++◌, length, get_or, take, drop, map, All, arith}
use Rattle.std.proofs.lemmas.List.{map-append, take_all, take_more}
use Rattle.pbd_world.specs.declared.parts.Parts.{Parts}
use Rattle.std.proofs.lemmas.List.Elements.{All-from_recursion, recursion_from_All}
use Rattle.pbd_world.specs.World.{World, opened, IsSound}
use Rattle.pbd_host.specs.Hosted.{AreHosted}

-- one more is the world of the next scene
pub one_more : (scenes : List Parts) (i : ℕ) (d : Parts) (ws vs : List World) (w : World) → ws ≡ map opened (take i scenes)
    → i < length scenes → w ≡ opened (get_or scenes i d) → vs ≡ ws ++ w ∷ [] → vs ≡ map opened (take (i + 1) scenes)
one_more scenes i d ws vs w so_far within is pushed =
    pushed ∙ ap (λ (us : List World). us ++ w ∷ []) so_far ∙ ap (λ (v : World). map opened (take i scenes) ++ v ∷ []) is
    ∙ sym (map-append {A = Parts} {B = World} opened (take i scenes) (get_or scenes i d ∷ []))
    ∙ ap (map opened) (sym (take_more scenes i d within))

-- the worlds of all sessions are sound, as that of the first and those of the others are
pub all_sound : (w : World) (ws : List World) → IsSound w → All IsSound ws → All IsSound (w ∷ ws)
all_sound w ws first others = All-from_recursion IsSound (w ∷ ws) (first, recursion_from_All IsSound ws others)

pub hosted_sound : (w : World) (ws seen : List World) → w ∷ ws ≡ seen → AreHosted w ws → All IsSound seen
hosted_sound w ws seen is are = subst (λ (vs : List World). All IsSound vs) is (all_sound w ws are.first are.others)

-- the scenes behind the first
others_of : (s : Parts) (ss : List Parts) → take (length (s ∷ ss) - 1) (drop 1 (s ∷ ss)) ≡ ss
others_of s ss = take_all (length (s ∷ ss) - 1) ss (omega arith)

-- the world of the first scene, and those of the others
pub all_opened : (scenes : List Parts) (d : Parts) (w : World) (ws : List World) → 0 < length scenes → w ≡ opened (get_or scenes 0 d)
    → ws ≡ map opened (take (length scenes - 1) (drop 1 scenes)) → w ∷ ws ≡ map opened scenes
all_opened [] d w ws some first others = absurd (omega (arith, some))
all_opened (s ∷ ss) d w ws some first others =
    let rest : ws ≡ map opened ss = others ∙ ap (λ (ps : List Parts). map opened ps) (others_of s ss) in
    ap (λ (v : World). v ∷ ws) first ∙ ap (λ (us : List World). opened s ∷ us) rest
