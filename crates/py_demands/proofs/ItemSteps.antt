-- What is asked of an item, step by step.
use Rattle.std.proofs.Common.{◌≡◌, ℕ, suc, true, List, [], ◌∷◌, ◌++◌, map, Option, Some, None, refl, ap, ◌∙◌}
use Rattle.grammars.specs.Grammar.{Tok, Non, Do, Row, IsRow}
use Rattle.grammars.proofs.Bools.{and_left, and_right}
use Rattle.py_syntax.specs.Build.{Parts, Action}
use Rattle.py_syntax.specs.Table.{Symbol, Nonterminal, rows, Expression}
use Rattle.py_demands.specs.Aimed.{ItemAsks}
use Rattle.py_demands.specs.Least.{Ask, AtLeast, OpenAtLeast, least, may_ask_first, are_askable}
use Rattle.py_demands.specs.Aims.{Aim, Simply, Targets, Target, aims_before, aimed, may_aim_first, are_aimable}
use Rattle.py_demands.specs.ItemSteps.{ItemBegins, OverFirst, OverItemRow, ItemStepsLaw}
use Rattle.py_demands.proofs.LowRows.{low_row, least_frame, least_joined, askable_joined}
use Rattle.py_demands.proofs.AimRows.{aims_row, aimed_frame, aimed_joined, aimable_joined}
use Rattle.py_demands.proofs.Steps.{asks_behind}

-- with so much asked of the tuple
abbrev pub Asked : List Symbol → List Symbol → ℕ → List Ask → Type 0
Asked item rest n qs = (i : ItemAsks item rest) × (i.above ≡ n) × (i.below ≡ qs)

pub begins_so : (rest : List Symbol) (n : ℕ) (qs : List Ask) → least rest (Some (AtLeast 0 ∷ [])) ≡ Some (OpenAtLeast n ∷ qs) → are_askable rest (Some (AtLeast 0 ∷ [])) ≡ true → Asked (Non Expression ∷ []) rest n qs
begins_so rest n qs e k = (
  record {
    above = n;
    below = qs;
    rest_is = e;
    rest_askable = k;
    asks = AtLeast n ∷ qs;
    asks_are = refl;
    askable = refl;
    aims = Targets n ∷ map Simply qs;
    aims_are = refl;
    aimable = refl;
  },
  refl,
  refl,
)

item_begins : ItemBegins
item_begins rest n qs e k = (begins_so rest n qs e k).0

pub aims_first : (s : Symbol) (symbols : List Symbol) (o : Option (List Aim)) (aims : List Aim) → aimed (s ∷ symbols) o ≡ Some aims → (others : List Aim) × (aimed symbols o ≡ Some others)
aims_first s symbols o aims e = go (aimed symbols o) refl e
  where
    go : (w : Option (List Aim)) → aimed symbols o ≡ w → aims_before s w ≡ Some aims → (others : List Aim) × (aimed symbols o ≡ Some others)
    go None w h = absurd (cc)
    go (Some others) w h = (others, w)

askable_rest : (s : Symbol) (symbols : List Symbol) (o : Option (List Ask)) → are_askable (s ∷ symbols) o ≡ true → are_askable symbols o ≡ true
askable_rest (Tok k) symbols o h = h
askable_rest (Do a) symbols o h = h
askable_rest (Non x) symbols o h = and_right (may_ask_first x (least symbols o)) (are_askable symbols o) h

aimable_rest : (s : Symbol) (symbols : List Symbol) (o : Option (List Aim)) → are_aimable (s ∷ symbols) o ≡ true → are_aimable symbols o ≡ true
aimable_rest (Tok k) symbols o h = h
aimable_rest (Do a) symbols o h = h
aimable_rest (Non x) symbols o h = and_right (may_aim_first x (aimed symbols o)) (are_aimable symbols o) h

pub first_so : (s : Symbol) (item rest : List Symbol) (i : ItemAsks (s ∷ item) rest) → Asked item rest i.above i.below
first_so s item rest i =
    let q = asks_behind s item (Some (AtLeast (suc i.above) ∷ AtLeast i.above ∷ i.below)) i.asks i.asks_are in
    let a = aims_first s item (Some (Target i.above ∷ Targets i.above ∷ map Simply i.below)) i.aims i.aims_are in (
      record {
        above = i.above;
        below = i.below;
        rest_is = i.rest_is;
        rest_askable = i.rest_askable;
        asks = q.0;
        asks_are = q.1;
        askable = askable_rest s item (Some (AtLeast (suc i.above) ∷ AtLeast i.above ∷ i.below)) i.askable;
        aims = a.0;
        aims_are = a.1;
        aimable = aimable_rest s item (Some (Target i.above ∷ Targets i.above ∷ map Simply i.below)) i.aimable;
      },
      refl,
      refl,
    )

over_first : OverFirst
over_first s item rest i = (first_so s item rest i).0

row_asked : (x : Nonterminal) (r : Row Nonterminal Action Parts) (symbols : List Symbol) (start : Option (List Ask)) (o : Option (List Ask)) → IsRow r (rows x) → least symbols start ≡ o → may_ask_first x o ≡ true
    → are_askable symbols start ≡ true → (qs : List Ask) × (least (r.symbols ++ symbols) start ≡ Some qs) × (are_askable (r.symbols ++ symbols) start ≡ true)
row_asked x r symbols start None i e m k = absurd (cc)
row_asked x r symbols start (Some []) i e m k = absurd (cc)
row_asked x r symbols start (Some (q ∷ cs)) i e m k =
    let l = low_row x q r i m in
    (l.asks ++ cs, least_joined r.symbols symbols start ∙ ap (least r.symbols) e ∙ least_frame r.symbols (q ∷ []) l.asks cs l.least_is, askable_joined r.symbols symbols q cs start e l.askable k)

row_aimed_at : (x : Nonterminal) (r : Row Nonterminal Action Parts) (symbols : List Symbol) (start : Option (List Aim)) (o : Option (List Aim)) → IsRow r (rows x) → aimed symbols start ≡ o → may_aim_first x o ≡ true
    → are_aimable symbols start ≡ true → (aims : List Aim) × (aimed (r.symbols ++ symbols) start ≡ Some aims) × (are_aimable (r.symbols ++ symbols) start ≡ true)
row_aimed_at x r symbols start None i e m k = absurd (cc)
row_aimed_at x r symbols start (Some []) i e m k = absurd (cc)
row_aimed_at x r symbols start (Some (aim ∷ cs)) i e m k =
    let l = aims_row x aim r i m in
    (l.aims ++ cs, aimed_joined r.symbols symbols start ∙ ap (aimed r.symbols) e ∙ aimed_frame r.symbols (aim ∷ []) l.aims cs l.aimed_is, aimable_joined r.symbols symbols aim cs start e l.aimable k)

pub item_row_so : (x : Nonterminal) (r : Row Nonterminal Action Parts) (item rest : List Symbol) → IsRow r (rows x) → (i : ItemAsks (Non x ∷ item) rest) → Asked (r.symbols ++ item) rest i.above i.below
item_row_so x r item rest is i =
    let whole : Option (List Ask) = Some (AtLeast (suc i.above) ∷ AtLeast i.above ∷ i.below) in
    let among : Option (List Aim) = Some (Target i.above ∷ Targets i.above ∷ map Simply i.below) in
    let q = row_asked x r item whole (least item whole) is refl (and_left (may_ask_first x (least item whole)) (are_askable item whole) i.askable) (and_right (may_ask_first x (least item whole)) (are_askable item whole) i.askable) in
    let a = row_aimed_at x r item among (aimed item among) is refl (and_left (may_aim_first x (aimed item among)) (are_aimable item among) i.aimable) (and_right (may_aim_first x (aimed item among)) (are_aimable item among) i.aimable) in (
      record {
        above = i.above;
        below = i.below;
        rest_is = i.rest_is;
        rest_askable = i.rest_askable;
        asks = q.0;
        asks_are = q.1;
        askable = q.2;
        aims = a.0;
        aims_are = a.1;
        aimable = a.2;
      },
      refl,
      refl,
    )

over_item_row : OverItemRow
over_item_row x r item rest is i = (item_row_so x r item rest is i).0

pub item_steps_law : ItemStepsLaw
item_steps_law = (item_begins, over_first, over_item_row)
