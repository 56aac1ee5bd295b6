-- The code's roles in plain words.
use Rattle.std.specs.Prelude.{List, [], ◌∷◌, map}
use Rattle.py_nesting.specs.Outlines as outline
use Rattle.py_demands.specs.Roles as asking
use Rattle.py_depth.specs.PlainEntries.{plain_label}
use Rattle.py_front_depth.specs.declared.role.Role.{Role}
use Rattle.py_front_depth.specs.declared.role.Role.TheVariants as role

abbrev pub plain_role : Role → asking.Role
plain_role role.Lost = asking.Lost
plain_role (role.Head l) = asking.Head (plain_label l) []
plain_role (role.HeadApart l) = asking.Head (plain_label l) (asking.Apart ∷ [])
plain_role role.Kept = asking.Kept
plain_role (role.Below l) = asking.Through (asking.Below (plain_label l) ∷ [])
plain_role role.Apart = asking.Through (asking.Apart ∷ [])
plain_role (role.BelowLoose l) = asking.Through (asking.Below (plain_label l) ∷ asking.Loose ∷ [])
plain_role role.BelowApart = asking.Through (asking.Below outline.Plain ∷ asking.Apart ∷ [])
plain_role role.ApartBelow = asking.Through (asking.Apart ∷ asking.Below outline.Plain ∷ [])
plain_role role.Turned = asking.Through (asking.Turned ∷ [])

abbrev pub plain_roles : List Role → List asking.Role
plain_roles roles = map plain_role roles
