-- Finite maps, as functions.
use Rattle.std.specs.Prelude.{Bool, Option, Some, None, if◌then◌else◌}

abbrev pub Map : Type 0 → Type 0 → Type 0
Map K V = K → Option V

abbrev pub nothing : {K V : Type 0} → Map K V
nothing k = None

-- the map with this value at k, where `same` says whether two keys are one
unfoldable pub put : {K V : Type 0} → (K → K → Bool) → Map K V → K → V → Map K V
put same m k v q = if same k q then Some v else m q
