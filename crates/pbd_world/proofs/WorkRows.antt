-- Worked rows: what small steps may cost, counted by hand.
use Rattle.std.specs.Prelude.{◌≡◌, refl, ◌+◌, ◌*◌, ℕ, ℤ, pos, true, false, [], ◌∷◌}
use Rattle.pbd_num.specs.Rounding.{rdiv}
use Rattle.pbd_world.specs.declared.parts.Particle.{Particle}
use Rattle.pbd_world.specs.declared.parts.Link.{Link}
use Rattle.pbd_world.specs.declared.parts.Kind.TheVariants.{Plain}
use Rattle.pbd_world.specs.World.{World, opened, no_parts}
use Rattle.pbd_world.specs.Colours.{least_free, colours, colour}
use Rattle.pbd_world.specs.Contacts.{contacts_of}
use Rattle.pbd_world.specs.Step.{predict}
use Rattle.pbd_world.specs.Work.{colours_work, bonds_work, beginning_work, finding_work, pass_work, settling_work, finishing_work}
use Rattle.pbd_world.specs.Work.{step_work, found_in}

abbrev still : ℕ → ℕ → Particle
still x y = record {
  at = record { x = pos x; y = pos y; z = pos 0 };
  before = record { x = pos x; y = pos y; z = pos 0 };
  weight = 1;
  held = false;
}

abbrev link : ℕ → ℕ → ℤ → Link
link a b tear = record { a = a; b = b; rest = pos 10; k = 256; tear = tear; kind = Plain; live = true }

-- five particles in a line, joined by links of the colours 0, 1, 0, 1, of which one may tear, over a plane, in three passes
abbrev line : World
line = opened (record (no_parts (pos 268435456)) {
  particles = still 0 0 ∷ still 10 0 ∷ still 20 0 ∷ still 30 0 ∷ still 40 0 ∷ [];
  links = link 0 1 (pos 0) ∷ link 1 2 (pos 0) ∷ link 2 3 (pos 0) ∷ link 3 4 (pos 50) ∷ [];
  planes = record { normal = record { x = pos 0; y = pos 1; z = pos 0 }; offset = pos 0 } ∷ [];
  passes = 3;
})

-- five blocks are begun, 10; a pass is four links, 16, and five blocks, 10; one link may tear, 2
line_at_one : step_work 1 1 line (found_in line) ≡ 10 + 3 * (16 + 10) + 2
unfolding rdiv least_free colours colour contacts_of predict colours_work bonds_work beginning_work finding_work pass_work settling_work
    finishing_work step_work found_in
line_at_one = refl

-- two blocks are begun, 4; a pass is two colours of two links, 8, and two blocks, 4; one link may tear, 2
line_at_four : step_work 4 4 line (found_in line) ≡ 4 + 3 * (8 + 4) + 2
unfolding rdiv least_free colours colour contacts_of predict colours_work bonds_work beginning_work finding_work pass_work settling_work
    finishing_work step_work found_in
line_at_four = refl

-- three particles that touch each other, with friction and a thickness of 4
abbrev corner : World
corner = opened (record (no_parts (pos 268435456)) {
  particles = still 0 0 ∷ still 2 0 ∷ still 0 2 ∷ [];
  thickness = pos 4;
  friction = pos 128;
})

-- two blocks are begun, 4; three particles are looked at, 3; a pass is three colours of one contact, 12; two blocks rub, 4
corner_at_two : step_work 2 2 corner (found_in corner) ≡ 4 + 3 + 12 + 4
unfolding rdiv least_free colours colour contacts_of predict colours_work bonds_work beginning_work finding_work pass_work settling_work
    finishing_work step_work found_in
corner_at_two = refl
