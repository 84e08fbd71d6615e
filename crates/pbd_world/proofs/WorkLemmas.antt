-- What steps may cost: at other widths, at most, and without a thickness.
use Rattle.std.proofs.Common.{◌≡◌, refl, ap, sym, ◌∙◌, subst, ℕ, zero, suc, ◌+◌, ◌*◌, ◌/◌, ◌<◌, ◌≤◌, ◌==◌, min, Bool, true, false, List, [], cond}
use Rattle.std.proofs.Common.{◌∷◌, length, map, filter, arith, ℤ, pos, Result, Ok, Err}
use Rattle.std.specs.Prelude.{nat_lt, int_lt, unsigned_abs, if◌then◌else◌}
use Rattle.std.specs.List.{range_with_len}
use Rattle.std.proofs.Math.Nat.{min-eq_left, mul-le-mul_left}
use Rattle.std.proofs.lemmas.Bool.{le-ltb, ltb-false}
use Rattle.std.proofs.lemmas.List.{length-map}
use Rattle.std.proofs.lemmas.List.Sums.{sum_by-cons}
use Rattle.pbd_num.specs.Vectors.{minus, squared_length}
use Rattle.pbd_world.specs.declared.command.Command.{Command}
use Rattle.pbd_world.specs.declared.command.Command.TheVariants as commands
use Rattle.pbd_world.specs.declared.command.Refusal.{Refusal}
use Rattle.pbd_world.specs.declared.parts.Link.{Link}
use Rattle.pbd_world.specs.declared.parts.Particle.{Particle}
use Rattle.pbd_world.specs.Colours.{colour, of_colour, order}
use Rattle.pbd_world.specs.Contacts.{contacts_of, is_contact, all_pairs, are_near, link_pairs, live_flags}
use Rattle.pbd_world.specs.Particles.{Motion, particle_at}
use Rattle.pbd_world.specs.Meaning.{Deed, deed, refusals, after}
use Rattle.pbd_world.specs.Meaning.Edit.{OnParticle}
use Rattle.pbd_world.specs.Meaning.Deed.{Steps, Edits}
use Rattle.pbd_world.specs.Outcomes.{unless}
use Rattle.pbd_world.specs.Step.{predict, step}
use Rattle.pbd_world.specs.Shapes.{shapes_of}
use Rattle.pbd_world.specs.World.{World, IsSound, live_count}
use Rattle.pbd_world.specs.Work.{blocks_in, of_colour_count, colour_work, colours_work, bonds_work, links_work, contacts_work, colours_used}
use Rattle.pbd_world.specs.Work.{beginning_work, finding_work, shapes_work, pass_work, friction_work, tearable_count, settling_work}
use Rattle.pbd_world.specs.Work.{finishing_work, step_work, found_after, found_in, work_from, work_over, steps_work, deed_work}
use Rattle.pbd_world.specs.Work.{command_work, session_work}
use Rattle.pbd_world.proofs.BatchLemmas.{sound-none_last}
use Rattle.pbd_world.proofs.OrderCounts.{total, flat_total, kept_more, links_count, contacts_count}
use Rattle.pbd_world.proofs.PieceLemmas.{pieces_fewer, pieces_each, pieces_half, pieces_some, whole_pieces, some_of}

-- ---- colour after colour

pub colours_next : (lanes : ℕ) (pairs : List (ℕ × ℕ)) (live : List Bool) (c n : ℕ)
    → colours_work lanes pairs live c (suc n) ≡ colour_work lanes pairs live c + colours_work lanes pairs live (c + 1) n
unfolding colours_work
colours_next lanes pairs live c n = sum_by-cons (colour_work lanes pairs live) c (range_with_len (c + 1) n)

pub colours_none : (lanes : ℕ) (pairs : List (ℕ × ℕ)) (live : List Bool) (c : ℕ) → colours_work lanes pairs live c 0 ≡ 0
unfolding colours_work
colours_none lanes pairs live c = refl

pub bonds_are : (lanes : ℕ) (pairs : List (ℕ × ℕ)) (live : List Bool)
    → bonds_work lanes pairs live ≡ colours_work lanes pairs live 0 63 + 4 * of_colour_count pairs live 63
unfolding bonds_work
bonds_are lanes pairs live = refl

-- the colours that some pair has
used : List (ℕ × ℕ) → List Bool → ℕ → ℕ → ℕ
used pairs live c n = length (filter (λ d. nat_lt 0 (of_colour_count pairs live d)) (range_with_len c n))

used_next : (pairs : List (ℕ × ℕ)) (live : List Bool) (c n : ℕ)
    → used pairs live c (suc n) ≡ some_of (of_colour_count pairs live c) + used pairs live (c + 1) n
unfolding used
used_next pairs live c n = kept_more (λ d. nat_lt 0 (of_colour_count pairs live d)) c (range_with_len (c + 1) n)

module _ (pairs : List (ℕ × ℕ)) (live : List Bool) (lanes : ℕ) (some : 0 < lanes) where
  wider : (more c n : ℕ) → lanes ≤ more → colours_work more pairs live c n ≤ colours_work lanes pairs live c n
  wider more c zero h = omega (arith, colours_none more pairs live c)
  wider more c (suc n) h = omega (
    arith,
    colours_next more pairs live c n,
    colours_next lanes pairs live c n,
    pieces_fewer (of_colour_count pairs live c) lanes more some h,
    wider more (c + 1) n h,
  )

  half : (c n : ℕ) → 2 * colours_work (2 * lanes) pairs live c n ≤ colours_work lanes pairs live c n + 4 * used pairs live c n
  half c zero = omega (arith, colours_none (2 * lanes) pairs live c)
  half c (suc n) = omega (
    arith,
    colours_next (2 * lanes) pairs live c n,
    colours_next lanes pairs live c n,
    used_next pairs live c n,
    pieces_half (of_colour_count pairs live c) lanes some,
    half (c + 1) n,
  )

  each : (c n : ℕ) → colours_work lanes pairs live c n ≤ 4 * total (of_colour_count pairs live) c n
  unfolding total
  each c zero = omega (arith, colours_none lanes pairs live c)
  each c (suc n) = omega (arith, colours_next lanes pairs live c n, pieces_each (of_colour_count pairs live c) lanes some, each (c + 1) n)

  colours_few : (c n : ℕ) → colours_work lanes pairs live c n ≤ 4 * (total (of_colour_count pairs live) c n / lanes + used pairs live c n)
  unfolding total
  colours_few c zero = omega (arith, colours_none lanes pairs live c)
  colours_few c (suc n) =
      let k : ℕ = of_colour_count pairs live c in
      omega (
        arith,
        colours_next lanes pairs live c n,
        used_next pairs live c n,
        pieces_some k lanes some,
        colours_few (c + 1) n,
        whole_pieces k (total (of_colour_count pairs live) (c + 1) n) lanes some,
      )

total_last : (f : ℕ → ℕ) (a n : ℕ) → total f a (suc n) ≡ total f a n + f (a + n)
unfolding total
total_last f a zero = (let e : a + 0 ≡ a = omega arith in omega (arith, ap f e))
total_last f a (suc n) = (let e : a + 1 + n ≡ a + suc n = omega arith in omega (arith, ap f e, total_last f (a + 1) n))

-- the pairs of the colours below 63, and those of colour 63, are all
all_of : (pairs : List (ℕ × ℕ)) (live : List Bool) → total (of_colour_count pairs live) 0 63 + of_colour_count pairs live 63
    ≡ length (order pairs live)
unfolding order
all_of pairs live = omega (
  arith,
  total_last (of_colour_count pairs live) 0 63,
  flat_total (of_colour live (colour pairs live) (length pairs)) 0 64,
)

-- ---- links and contacts

bonds_wider : (pairs : List (ℕ × ℕ)) (live : List Bool) (lanes more : ℕ) → 0 < lanes → lanes ≤ more
    → bonds_work more pairs live ≤ bonds_work lanes pairs live
bonds_wider pairs live lanes more some h = omega (
  arith,
  bonds_are more pairs live,
  bonds_are lanes pairs live,
  wider pairs live lanes some more 0 63 h,
)

pub contacts_each : (lanes : ℕ) (contacts : List (ℕ × ℕ)) → 0 < lanes → contacts_work lanes contacts ≤ 4 * length contacts
contacts_each lanes contacts some =
    let live : List Bool = map (λ pair. true) contacts in
    omega (arith, bonds_are lanes contacts live, each contacts live lanes some 0 63, all_of contacts live, contacts_count contacts)

used_are : (links : List Link) → colours_used links ≡ used (link_pairs links) (live_flags links) 0 63
unfolding used colours_used
used_are links = refl

none_serial : (w : World) → IsSound w → of_colour_count (link_pairs w.links) (live_flags w.links) 63 ≡ 0
none_serial w s =
    let pairs = link_pairs w.links in
    let live = live_flags w.links in
    ap (λ (n : ℕ). length (of_colour live (colour pairs live) n 63)) (length-map {A = Link} {B = ℕ × ℕ} w.links (λ l. (l.a, l.b)))
    ∙ ap (λ (xs : List ℕ). length xs) (sound-none_last w s)

pub links_few : (lanes : ℕ) (w : World) → 0 < lanes → IsSound w
    → links_work lanes w.links ≤ 4 * (live_count w.links / lanes + colours_used w.links)
links_few lanes w some s =
    let pairs = link_pairs w.links in
    let live = live_flags w.links in
    let all : total (of_colour_count pairs live) 0 63 ≡ live_count w.links =
    omega (arith, all_of pairs live, links_count w.links, none_serial w s) in
    let same : total (of_colour_count pairs live) 0 63 / lanes ≡ live_count w.links / lanes = ap (λ (n : ℕ). n / lanes) all in
    omega (arith, bonds_are lanes pairs live, colours_few pairs live lanes some 0 63, none_serial w s, used_are w.links, same)

pub links_half : (lanes : ℕ) (w : World) → 0 < lanes → IsSound w
    → 2 * links_work (2 * lanes) w.links ≤ links_work lanes w.links + 4 * colours_used w.links
links_half lanes w some s =
    let pairs = link_pairs w.links in
    let live = live_flags w.links in
    omega (
      arith,
      bonds_are lanes pairs live,
      bonds_are (2 * lanes) pairs live,
      half pairs live lanes some 0 63,
      none_serial w s,
      used_are w.links,
    )

-- ---- the parts of a step

pub pass_is : (width lanes : ℕ) (w : World) (contacts : List (ℕ × ℕ))
    → pass_work width lanes w contacts ≡ links_work lanes w.links + contacts_work lanes contacts + shapes_work width w
unfolding pass_work
pass_is width lanes w contacts = refl

pub beginning_is : (width : ℕ) (w : World) → beginning_work width w ≡ 2 * blocks_in width w + length w.tracks
unfolding beginning_work
beginning_is width w = refl

pub finding_is : (w : World) → finding_work w ≡ (if unsigned_abs w.thickness == 0 then 0 else length w.particles)
unfolding finding_work
finding_is w = refl

pub settling_is : (width : ℕ) (w : World) → settling_work width w ≡ friction_work width w + 2 * tearable_count w.links
unfolding settling_work
settling_is width w = refl

pub finishing_is : (width lanes : ℕ) (w : World) (contacts : List (ℕ × ℕ))
    → finishing_work width lanes w contacts ≡ w.passes * pass_work width lanes w contacts + settling_work width w
unfolding finishing_work
finishing_is width lanes w contacts = refl

pub step_is : (width lanes : ℕ) (w : World) (contacts : List (ℕ × ℕ))
    → step_work width lanes w contacts
    ≡ beginning_work width w + finding_work w + (if nat_lt 262144 (length contacts) then 0 else finishing_work width lanes w contacts)
unfolding step_work
step_is width lanes w contacts = refl

-- a step that doesn't find too many contacts goes on
pub step_goes_on : (width lanes : ℕ) (w : World) (contacts : List (ℕ × ℕ)) → length contacts ≤ 262144
    → step_work width lanes w contacts ≡ beginning_work width w + finding_work w + finishing_work width lanes w contacts
step_goes_on width lanes w contacts few =
    step_is width lanes w contacts
    ∙ ap (λ (b : Bool). beginning_work width w + finding_work w + (if b then 0 else finishing_work width lanes w contacts))
    (le-ltb 262144 (length contacts) few)

-- ---- at other widths

if_less : (b : Bool) (m n : ℕ) → m ≤ n → (if b then 0 else m) ≤ (if b then 0 else n)
if_less true m n h = omega arith
if_less false m n h = h

if_less_else : (b : Bool) (m n : ℕ) → m ≤ n → (if b then m else 0) ≤ (if b then n else 0)
if_less_else true m n h = h
if_less_else false m n h = omega arith

if_most : (b : Bool) (n : ℕ) → (if b then 0 else n) ≤ n
if_most true n = omega arith
if_most false n = omega arith

pub if_most_else : (b : Bool) (n : ℕ) → (if b then n else 0) ≤ n
if_most_else true n = omega arith
if_most_else false n = omega arith

pub step_wider : (width lanes wider_width more_lanes : ℕ) (w : World) (contacts : List (ℕ × ℕ)) → 0 < width → width ≤ wider_width
    → 0 < lanes → lanes ≤ more_lanes
    → step_work wider_width more_lanes w contacts ≤ step_work width lanes w contacts
step_wider width lanes wider_width more_lanes w contacts some wide any more =
    let fewer : blocks_in wider_width w ≤ blocks_in width w = pieces_fewer (length w.particles) width wider_width some wide in
    let twice : 2 * blocks_in wider_width w ≤ 2 * blocks_in width w = omega (arith, fewer) in
    let shapes : shapes_work wider_width w ≤ shapes_work width w =
    if_less (length (shapes_of w.shapes) == 0) (2 * blocks_in wider_width w) (2 * blocks_in width w) twice in
    let friction : friction_work wider_width w ≤ friction_work width w =
    if_less_else (int_lt (pos 0) w.friction) (2 * blocks_in wider_width w) (2 * blocks_in width w) twice in
    let links : links_work more_lanes w.links ≤ links_work lanes w.links =
    bonds_wider (link_pairs w.links) (live_flags w.links) lanes more_lanes any more in
    let found : contacts_work more_lanes contacts ≤ contacts_work lanes contacts =
    bonds_wider contacts (map (λ pair. true) contacts) lanes more_lanes any more in
    let pass : pass_work wider_width more_lanes w contacts
    ≤ pass_work width lanes w contacts = omega (
      arith,
      pass_is wider_width more_lanes w contacts,
      pass_is width lanes w contacts,
      shapes,
      links,
      found,
    ) in
    let passes = mul-le-mul_left {m = pass_work wider_width more_lanes w contacts} {n = pass_work width lanes w contacts} w.passes pass in
    let finishing : finishing_work wider_width more_lanes w contacts ≤ finishing_work width lanes w contacts =
    omega (
      arith,
      finishing_is wider_width more_lanes w contacts,
      finishing_is width lanes w contacts,
      settling_is wider_width w,
      settling_is width w,
      friction,
      passes,
    ) in
    omega (
      arith,
      step_is wider_width more_lanes w contacts,
      step_is width lanes w contacts,
      beginning_is wider_width w,
      beginning_is width w,
      fewer,
      if_less (nat_lt 262144 (length contacts)) (finishing_work wider_width more_lanes w contacts)
          (finishing_work width lanes w contacts) finishing,
    )

module _ (width lanes wider_width more_lanes : ℕ) (some : 0 < width) (wide : width ≤ wider_width) (any : 0 < lanes)
    (more : lanes ≤ more_lanes) where
  from_wider : (f g : World → ℕ) (r : Result World Refusal) → ((v : World) → f v ≤ g v) → work_from f r ≤ work_from g r
  from_wider f g (Ok v) h = h v
  from_wider f g (Err refusal) h = omega arith

  over_wider : (n : ℕ) (w : World) → work_over wider_width more_lanes n w ≤ work_over width lanes n w
  unfolding work_over
  over_wider zero w = omega arith
  over_wider (suc n) w =
      omega (
        arith,
        step_wider width lanes wider_width more_lanes w (found_in w) some wide any more,
        from_wider (work_over wider_width more_lanes n) (work_over width lanes n) (step w) (over_wider n),
      )

  deed_wider : (w : World) (deed : Deed) → deed_work wider_width more_lanes w deed ≤ deed_work width lanes w deed
  unfolding steps_work
  deed_wider w (Steps n) = from_wider (work_over wider_width more_lanes n) (work_over width lanes n)
      (unless (refusals w (commands.Step n)) w) (over_wider n)
  deed_wider w (Edits (OnParticle i change lost)) = omega arith
  deed_wider w deed = omega arith

  pub command_wider : (w : World) (command : Command) → command_work wider_width more_lanes w command ≤ command_work width lanes w command
  unfolding command_work
  command_wider w command = deed_wider w (deed command)

  pub session_wider : (w : World) (cs : List Command) → session_work wider_width more_lanes w cs ≤ session_work width lanes w cs
  unfolding session_work
  session_wider w [] = omega arith
  session_wider w (command ∷ cs) = omega (arith, command_wider w command, session_wider (after w command) cs)

-- ---- at most

pub step_few : (width lanes : ℕ) (w : World) (contacts : List (ℕ × ℕ)) → 0 < lanes → IsSound w
    → step_work width lanes w contacts
    ≤ 4 * (blocks_in width w + w.passes * (live_count w.links / lanes + colours_used w.links + min (length contacts) 262144
    + blocks_in width w))
    + length w.tracks + finding_work w + 2 * tearable_count w.links
step_few width lanes w contacts some s = few_by_count (nat_lt 262144 (length contacts)) refl
  where
    most : ℕ → ℕ
    most found =
        4 * (blocks_in width w + w.passes * (live_count w.links / lanes + colours_used w.links + found + blocks_in width w))
        + length w.tracks + finding_work w + 2 * tearable_count w.links

    going_on : length contacts ≤ 262144 → step_work width lanes w contacts ≤ most (length contacts)
    going_on few =
        let sum : ℕ = live_count w.links / lanes + colours_used w.links + length contacts + blocks_in width w in
        let shapes : shapes_work width w ≤ 2 * blocks_in width w =
        if_most (length (shapes_of w.shapes) == 0) (2 * blocks_in width w) in
        let friction : friction_work width w ≤ 2 * blocks_in width w = if_most_else (int_lt (pos 0) w.friction) (2 * blocks_in width w) in
        let pass : pass_work width lanes w contacts ≤ 4 * sum =
        omega (arith, pass_is width lanes w contacts, shapes, links_few lanes w some s, contacts_each lanes contacts some) in
        let passes = mul-le-mul_left {m = pass_work width lanes w contacts} {n = 4 * sum} w.passes pass in
        let turned : w.passes * (4 * sum) ≡ 4 * (w.passes * sum) = omega arith in
        omega (
          arith,
          step_goes_on width lanes w contacts few,
          finishing_is width lanes w contacts,
          beginning_is width w,
          settling_is width w,
          friction,
          passes,
          turned,
        )

    few_by_count : (b : Bool) → nat_lt 262144 (length contacts) ≡ b → step_work width lanes w contacts ≤ most (min (length contacts) 262144)
    few_by_count true e =
        let refused = ap (λ (b : Bool). if b then 0 else finishing_work width lanes w contacts) e in
        omega (arith, step_is width lanes w contacts, refused, beginning_is width w)
    few_by_count false e =
        let few = ltb-false 262144 (length contacts) e in
        subst (λ (n : ℕ). step_work width lanes w contacts ≤ most n) (sym (min-eq_left few)) (going_on few)

-- ---- without a thickness

none_kept : {A : Type 0} (test : A → Bool) (xs : List A) → ((x : A) → test x ≡ false) → filter test xs ≡ []
none_kept test [] h = refl
none_kept test (x ∷ xs) h = rw (h x) (none_kept test xs h)

none_near : (links : List Link) (ps : List Particle) (pair : ℕ × ℕ) → is_contact (pos 0) links ps pair ≡ false
none_near links ps pair =
    let p = particle_at ps pair.0 in
    let q = particle_at ps pair.1 in
    let far : are_near (pos 0) p q ≡ false = le-ltb (squared_length (minus p.at q.at)) 0 (omega arith) in
    rw far refl

pub none_touch : (links : List Link) (ps : List Particle) → contacts_of (pos 0) links ps ≡ []
unfolding contacts_of
none_touch links ps = none_kept (is_contact (pos 0) links ps) (all_pairs (length ps)) (none_near links ps)

found_none : (w : World) (r : Result Motion ℕ) → w.thickness ≡ pos 0 → found_after w r ≡ []
found_none w (Ok m) e = ap (λ (t : ℤ). contacts_of t w.links m.particles) e ∙ none_touch w.links m.particles
found_none w (Err i) e = refl

pub none_found : (w : World) → w.thickness ≡ pos 0 → found_in w ≡ []
unfolding found_in
none_found w e = found_none w (predict w) e

pub none_looked : (w : World) → w.thickness ≡ pos 0 → finding_work w ≡ 0
none_looked w e = finding_is w ∙ ap (λ (t : ℤ). if unsigned_abs t == 0 then 0 else length w.particles) e

pub none_projected : (lanes : ℕ) (w : World) → 0 < lanes → w.thickness ≡ pos 0 → contacts_work lanes (found_in w) ≡ 0
none_projected lanes w some e = omega (arith, contacts_each lanes (found_in w) some, ap (λ (c : List (ℕ × ℕ)). length c) (none_found w e))

-- ---- how many links are live

kept_few : (keep : Bool) (x : Link) (some all : List Link) → length some ≤ length all
    → length (cond keep (x ∷ some) some) ≤ length (x ∷ all)
kept_few true x some all le = omega (arith, le)
kept_few false x some all le = omega (arith, le)

pub live_few : (links : List Link) → live_count links ≤ length links
live_few [] = omega arith
live_few (l ∷ links) = kept_few l.live l (filter {X = Link} (λ l. l.live) links) links (live_few links)
