-- What bytes tell of a world, each number read where it stands.
use Rattle.std.specs.Prelude.{ℕ, ◌+◌, ◌*◌, ◌==◌, List, drop, slice_index}
use Rattle.std.specs.Int.{w64, w128, cast_signed}
use Rattle.byteorder.specs.Endian.{big_number}
use Rattle.pbd_num.specs.declared.Vec3.{Vec3}
use Rattle.pbd_world.specs.Ledger.{Sum, Ledger}
use Rattle.pbd_sound.specs.Described.{Description}

-- the number that `size` bytes from a place on spell
unfoldable pub number_from : ℕ → List ℕ → ℕ → ℕ
number_from size bytes at = big_number size (drop at bytes)

unfoldable pub vector_from : List ℕ → ℕ → Vec3
vector_from bytes at = record {
  x = cast_signed w64 (number_from 8 bytes at);
  y = cast_signed w64 (number_from 8 bytes (at + 8));
  z = cast_signed w64 (number_from 8 bytes (at + 16));
}

unfoldable pub sum_from : List ℕ → ℕ → Sum
sum_from bytes at = record {
  x = cast_signed w128 (number_from 16 bytes at);
  y = cast_signed w128 (number_from 16 bytes (at + 16));
  z = cast_signed w128 (number_from 16 bytes (at + 32));
}

-- where the contacts stand, of n particles and m links
abbrev pub contacts_at : ℕ → ℕ → ℕ
contacts_at n m = 128 + 49 * n + m

abbrev pub ledger_from : List ℕ → ℕ → Ledger
ledger_from bytes at = record {
  gravity = sum_from bytes at;
  damping = sum_from bytes (at + 48);
  link = sum_from bytes (at + 96);
  contact = sum_from bytes (at + 144);
  shape = sum_from bytes (at + 192);
  pin = sum_from bytes (at + 240);
}

-- what bytes tell of a world with n particles and m links
abbrev pub told_by : List ℕ → ℕ → ℕ → Description
told_by bytes n m = record {
  particles = n;
  links = m;
  steps = number_from 8 bytes 96;
  gravity = vector_from bytes 104;
  at = λ i. vector_from bytes (128 + 24 * i);
  before = λ i. vector_from bytes (128 + 24 * n + 24 * i);
  held = λ i. slice_index bytes (128 + 48 * n + i) == 1;
  live = λ l. slice_index bytes (128 + 49 * n + l) == 1;
  contacts = number_from 4 bytes (contacts_at n m);
  totals = ledger_from bytes (contacts_at n m + 4);
}
