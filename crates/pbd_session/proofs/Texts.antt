-- Printed lines, and lines with something before each.
use Rattle.std.proofs.Common.{◌+◌, ◌<◌, ◌≤◌, ◌≡◌, ◌∙◌, sym, ap, refl, ℕ, zero, suc, List, [], ◌∷◌, ◌++◌, length, get_or, take, map, Option}
use Rattle.std.proofs.Common.{arith, append_assoc, append-nil, codes}
use Rattle.std.specs.Io.KnownBytes.{Appends}
use Rattle.std.specs.List.{flat_map}
use Rattle.std.proofs.lemmas.List.{take_all}
use Rattle.pbd_io.specs.Appending.{appends_then}
use Rattle.pbd_world.specs.declared.command.Reply.{Reply}
use Rattle.pbd_world.specs.declared.parts.Particle.{Particle}
use Rattle.pbd_world.specs.declared.command.Reply.TheVariants as replies
use Rattle.pbd_world.specs.Momentum.{momentum}
use Rattle.pbd_world.specs.World.{World, live_count}
use Rattle.pbd_world.specs.Text.{header_line, place_line, sum_line, text}
use Rattle.pbd_session.specs.declared.printing.NamedTotal.{NamedTotal}
use Rattle.pbd_session.specs.Naming.{named_of}
use Rattle.pbd_session.specs.Printing.{NamedSum, each_after, frame_header, header_after, ledger_sums, named_line, place_after, sum_after}
use Rattle.pbd_session.specs.Printing.{text_after}

-- ---- pieces of a line in their order

pub pieces6 : (a b c d e f : List ℕ) → ((((a ++ b) ++ c) ++ d) ++ e) ++ f ≡ a ++ (b ++ (c ++ (d ++ (e ++ f))))
pieces6 a b c d e f = simp append_assoc refl

pub pieces9 : (a b c d e f g h i : List ℕ) → (((((((a ++ b) ++ c) ++ d) ++ e) ++ f) ++ g) ++ h) ++ i ≡ a
    ++ (b ++ (c ++ (d ++ (e ++ (f ++ (g ++ (h ++ i)))))))
pieces9 a b c d e f g h i = simp append_assoc refl

pub pieces8 : (a b c d e f g h : List ℕ) → ((((((a ++ b) ++ c) ++ d) ++ e) ++ f) ++ g) ++ h ≡ a
    ++ (b ++ (c ++ (d ++ (e ++ (f ++ (g ++ h))))))
pieces8 a b c d e f g h = simp append_assoc refl

pub header_is : (w : World) → header_line w ≡ frame_header w.steps (length w.particles) (live_count w.links) w.contacts
unfolding header_line frame_header
header_is w = refl

pub header_parts : (w : World) (steps particles live contacts : ℕ) (header : List ℕ) → header ≡ frame_header steps particles live contacts
    → steps ≡ w.steps → particles ≡ length w.particles → live ≡ live_count w.links → contacts ≡ w.contacts → header ≡ header_line w
header_parts w steps particles live contacts header is same_steps same_particles same_live same_contacts =
    is ∙ rw (same_steps, same_particles, same_live, same_contacts) (sym (header_is w))

-- lines made of items
each_of : {X : Type 0} (prefix : List ℕ) (f : X → List ℕ) (xs : List X)
    → each_after prefix (map {A = X} {B = List ℕ} f xs) ≡ flat_map (λ x. prefix ++ f x) xs
each_of prefix f [] = refl
each_of prefix f (x ∷ xs) = ap (λ t. (prefix ++ f x) ++ t) (each_of prefix f xs)

pub frame_after : (prefix : List ℕ) (w : World) → text_after prefix w replies.Frame ≡ header_after prefix w
    ++ flat_map (place_after prefix) w.particles
unfolding text_after
frame_after prefix w = ap (λ t. header_after prefix w ++ t) (each_of prefix place_line w.particles)

pub ledger_after : (prefix : List ℕ) (w : World) → text_after prefix w replies.Ledger ≡ flat_map (sum_after prefix) (ledger_sums w)
unfolding text_after
ledger_after prefix w = each_of prefix named_line (ledger_sums w)

pub nothing_before : (w : World) (r : Reply) → text_after [] w r ≡ text w r
unfolding text_after text
nothing_before w replies.Done = refl
nothing_before w replies.Frame = ap (λ t. header_line w ++ t) (each_of [] place_line w.particles)
nothing_before w replies.Ledger =
    rw (append-nil (sum_line (codes "shape") w.totals.shape))
    (sym (pieces8 (sum_line (codes "momentum") (momentum w.particles)) (sum_line (codes "opening") w.opening)
    (sum_line (codes "gravity") w.totals.gravity) (sum_line (codes "damping") w.totals.damping)
    (sum_line (codes "link") w.totals.link) (sum_line (codes "contact") w.totals.contact) (sum_line (codes "pin") w.totals.pin)
    (sum_line (codes "shape") w.totals.shape)))
nothing_before w (replies.Refused r) = append-nil _

-- ---- one piece for each item of a list

flat_more : {X : Type 0} (f : X → List ℕ) (xs : List X) (i : ℕ) (d : X) (piece : List ℕ)
    → i < length xs → piece ≡ f (get_or xs i d) → flat_map f (take (i + 1) xs) ≡ flat_map f (take i xs) ++ piece
flat_more f [] i d piece lt is = absurd (omega arith)
flat_more f (x ∷ xs) zero d piece lt is = rw is (append-nil (f x))
flat_more f (x ∷ xs) (suc i) d piece lt is =
    let e : suc i + 1 ≡ suc (i + 1) = omega arith in
    rw e (ap (λ t. f x ++ t) (flat_more f xs i d piece (omega (arith, lt)) is) ∙ sym (append_assoc (f x) (flat_map f (take i xs)) piece))

-- the pieces of the items before i are written, and then that of item i
pub written_next : {X : Type 0} (f : X → List ℕ) (xs : List X) (i : ℕ) (d : X) (piece : List ℕ) (old mid new : Option (List ℕ))
    → Appends old mid (flat_map f (take i xs)) → i < length xs → piece ≡ f (get_or xs i d) → Appends mid new piece
    → Appends old new (flat_map f (take (i + 1) xs))
written_next f xs i d piece old mid new before lt is wrote =
    rw (flat_more f xs i d piece lt is) (appends_then _ _ _ _ _ before wrote)

pub written_all : {X : Type 0} (f : X → List ℕ) (xs : List X) (i : ℕ) (old new : Option (List ℕ))
    → Appends old new (flat_map f (take i xs)) → length xs ≤ i → Appends old new (flat_map f xs)
written_all f xs i old new wrote all = rw (take_all i xs all) at wrote

pub place_is : (prefix line : List ℕ) (p q : Particle) → line ≡ place_line p → p ≡ q → prefix ++ line ≡ place_after prefix q
place_is prefix line p q is same = rw (is, same) refl

-- ---- the sums of a ledger

mapped_of : {X Y : Type 0} (g : X → Y) (f : Y → List ℕ) (xs : List X) → flat_map (λ x. f (g x)) xs ≡ flat_map f (map {A = X} {B = Y} g xs)
mapped_of g f [] = refl
mapped_of g f (x ∷ xs) = ap (λ t. f (g x) ++ t) (mapped_of g f xs)

pub sums_after : (prefix : List ℕ) (w : World) (ss : List NamedTotal) → map {A = NamedTotal} {B = NamedSum} named_of ss ≡ ledger_sums w
    → flat_map (λ s. sum_after prefix (named_of s)) ss ≡ text_after prefix w replies.Ledger
sums_after prefix w ss is = mapped_of named_of (sum_after prefix) ss ∙ (ap (flat_map (sum_after prefix)) is ∙ sym (ledger_after prefix w))
