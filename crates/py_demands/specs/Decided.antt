-- Where tuples may be assigned to: no module that begins with the front has a node less deep than one of the two ways to read them.
use Rattle.std.specs.Prelude.{◌≡◌, suc, ◌≤◌, ◌<◌, Bool, true, false, List, [], ◌∷◌, ◌++◌, ◌⊎◌}
use Rattle.grammars.specs.Grammar.{Do}
use Rattle.py_tokens.specs.Token.{Place}
use Rattle.py_syntax.specs.Token.{Token}
use Rattle.py_syntax.specs.Tree.{Body}
use Rattle.py_syntax.specs.Build.{Part, Parts, AddItem}
use Rattle.py_syntax.specs.Grammar.{IsModule}
use Rattle.py_syntax.specs.Table.{Symbol}
use Rattle.py_nesting.specs.Asked.{targets_last, target_last}
use Rattle.py_nesting.specs.Depths.{body_depth}
use Rattle.py_nesting.specs.Shapes.{entry_of}
use Rattle.py_nesting.specs.Walk.{Demand, Whole, Assigned}
use Rattle.py_demands.specs.Agreed.{Agrees, Agree}
use Rattle.py_demands.specs.Asks.{avoids}
use Rattle.py_demands.specs.Aims.{Aim, Simply, Targets, Target, MayTarget, Never}
use Rattle.py_demands.specs.Aimed.{ItemAsks}
use Rattle.py_demands.specs.Behind.{heads, is_once, drops_first, Behind}
use Rattle.py_demands.specs.Bound.{standing}
use Rattle.py_demands.specs.Least.{Ask, OpenAtLeast}

-- a node is asked for there, no deeper than the deepest of the module
abbrev pub IsNoDeeper : (Place → Bool) → Parts → List Demand → Body → Type 0
IsNoDeeper at v ds body = (0 < standing at v ds) × (standing at v ds ≤ body_depth at body)

-- what holds of the nodes at a place in each module that begins with the front and has some there, but none at later tokens
abbrev pub InModules : List Token → List Symbol → ((Place → Bool) → Body → Type 0) → Type 0
InModules front symbols Holds =
    drops_first symbols ≡ false → (at : Place → Bool) → is_once at (heads front) ≡ true → (more : List Token) (body : Body) → IsModule body (front ++ more) → avoids at more ≡ true → 0 < body_depth at body → Holds at body

-- an item has one more above it where it isn't a target
abbrev pub AgreesAim : Part → Aim → Demand → Type 0
AgreesAim part (Simply q) d = Agrees part q d
AgreesAim part (Targets m) (Assigned n) = m ≡ n
AgreesAim part (Target m) (Whole n) = m ≡ n
AgreesAim part (MayTarget m) (Whole n) = ((target_last (entry_of part ∷ []) ≡ true) × (m ≡ n)) ⊎ ((target_last (entry_of part ∷ []) ≡ false) × (suc m ≡ n))
AgreesAim part aim d = ⊥

abbrev pub AgreeAims : Parts → List Aim → List Demand → Type 0
AgreeAims [] [] [] = Unit {0}
AgreeAims (part ∷ v) (aim ∷ aims) (d ∷ ds) = AgreesAim part aim d × AgreeAims v aims ds
AgreeAims v aims ds = ⊥

-- the part is in no module what it is to be
abbrev pub IsOut : Part → Aim → Type 0
IsOut part Never = Unit {0}
IsOut part (Target n) = target_last (entry_of part ∷ []) ≡ false
IsOut part (Targets n) = targets_last (entry_of part ∷ []) ≡ false
IsOut part aim = ⊥

abbrev pub AreOut : Parts → List Aim → Type 0
AreOut (part ∷ v) (aim ∷ aims) = IsOut part aim ⊎ AreOut v aims
AreOut v aims = ⊥

-- Where an item is read of a tuple, and what is asked at least agrees with what is asked when the symbols are closed and with what is
-- asked when the tuple is assigned to, a node stands no less deep than in one of both.
abbrev pub EitherLaw : Type 0
EitherLaw =
    (front : List Token) (item rest : List Symbol) (v : Parts) (b : Behind front [] (item ++ Do AddItem ∷ rest) v) (i : ItemAsks item rest) (us : List Demand)
    → Agree v i.asks b.demands → AgreeAims v i.aims us → InModules front (item ++ Do AddItem ∷ rest) (λ at body. IsNoDeeper at v b.demands body ⊎ IsNoDeeper at v us body)

-- And where it is assigned to in no module, no less deep than when the symbols are closed.
abbrev pub WholeLaw : Type 0
WholeLaw =
    (front : List Token) (item rest : List Symbol) (v : Parts) (b : Behind front [] (item ++ Do AddItem ∷ rest) v) (i : ItemAsks item rest)
    → Agree v i.asks b.demands → AreOut v i.aims → InModules front (item ++ Do AddItem ∷ rest) (λ at body. IsNoDeeper at v b.demands body)

-- demands that differ in one part alone, which may be read as targets
abbrev pub IsOpen : Ask → Demand → Demand → Type 0
IsOpen (OpenAtLeast m) (Whole k) (Assigned n) = (m ≡ k) × (m ≡ n)
IsOpen q u w = ⊥

abbrev pub AgreeBoth : Parts → List Ask → List Demand → List Demand → Type 0
AgreeBoth (part ∷ v) (q ∷ qs) (u ∷ us) (w ∷ ws) = (Agrees part q u × (u ≡ w) × AgreeBoth v qs us ws) ⊎ (IsOpen q u w × (us ≡ ws) × Agree v qs us)
AgreeBoth v qs us ws = ⊥

-- Where no item is read, and the one part that may be read as targets stands as it is.
abbrev pub BothLaw : Type 0
BothLaw =
    (front : List Token) (symbols : List Symbol) (v : Parts) (b : Behind front [] symbols v) (ws : List Demand)
    → AgreeBoth v b.asks b.demands ws → InModules front symbols (λ at body. IsNoDeeper at v b.demands body ⊎ IsNoDeeper at v ws body)
