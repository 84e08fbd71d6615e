-- How a mesh is made cloth.
use Rattle.std.specs.Prelude.{nat_le, pos, Bool, true, ◌&&◌, Option, Some, None}
use Rattle.pbd_world.specs.Valid.{is_between}
use Rattle.pbd_obj.specs.declared.settings.LinkSettings.{LinkSettings}
use Rattle.pbd_obj.specs.declared.settings.MeshSettings.{MeshSettings}

-- of links that have the greatest stiffness and never tear
abbrev pub stiff : LinkSettings
stiff = record { stiffness = 256; tear = pos 0 }

-- those of the form `obj`
abbrev pub stiff_settings : MeshSettings
stiff_settings = record { weight = 1; stretch = stiff; shear = stiff; bend = None }

-- a stiffness up to 256, and a length up to four times 2^29
abbrev pub are_link_settings : LinkSettings → Bool
are_link_settings s = nat_le s.stiffness 256 && is_between (pos 0) (pos 2147483648) s.tear

abbrev pub are_some_settings : Option LinkSettings → Bool
are_some_settings None = true
are_some_settings (Some s) = are_link_settings s

-- a weight from 1, and such settings of each kind
unfoldable pub are_settings : MeshSettings → Bool
are_settings t = nat_le 1 t.weight && are_link_settings t.stretch && are_link_settings t.shear && are_some_settings t.bend
