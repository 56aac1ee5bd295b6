-- Where what is asked at least is what is asked when the symbols are closed, no module has a node less deep.
use Rattle.std.proofs.Common.{◌≡◌, ℕ, suc, max, ◌<◌, ◌≤◌, Bool, true, false, List, [], ◌∷◌, length, Option, Some, None, ◌⊎◌, inl, inr, refl, sym, ap, ◌∙◌, subst, append-nil, arith}
use Rattle.py_tokens.specs.Token.{Place}
use Rattle.py_syntax.specs.Token.{Token, At}
use Rattle.py_syntax.specs.Table.{Symbol}
use Rattle.py_syntax.specs.Build.{Part, PToken, PExpr, PSign, PLoop, PLoopTarget, PTargets, PClass, PStmt, PBody, Parts}
use Rattle.py_nesting.specs.Asked.{targets_last}
use Rattle.py_nesting.specs.Outlines.{Outline, outline_depth}
use Rattle.py_nesting.specs.Depths.{body_depth}
use Rattle.py_nesting.specs.Shapes.{part_outline, entry_of, entries_of, outlines_of}
use Rattle.py_nesting.specs.Walk.{Demand, Nothing, Whole, Inside, Assigned, InsideAssigned, raise, demanded, depth_of}
use Rattle.py_demands.specs.Asks.{of_outlines, entry_depth, tokens_depth}
use Rattle.py_demands.specs.Least.{Ask, NoNode, AtLeast, WithinAtLeast, OpenAtLeast}
use Rattle.py_demands.specs.AtMost.{AtMost, AreAtMost}
use Rattle.py_demands.specs.Bound.{standing}
use Rattle.py_demands.specs.Behind.{heads, is_once, drops_first, Behind}
use Rattle.py_demands.specs.Turned.{IfTurned, AreTurned}
use Rattle.py_demands.specs.Order.{NoDeeper, AreNoDeeper, IsLone}
use Rattle.py_demands.specs.Agreed.{IsSteady, IsReadWhole, Agrees, Agree, LeastLaw}
use Rattle.py_demands.proofs.Lower.{turned_law}

abbrev pub AreAlike : Option Outline → (Place → Bool) → Demand → Demand → Type 0
AreAlike None at w d = Unit {0}
AreAlike (Some o) at w d = demanded at w o ≡ demanded at d o

itself : (o : Option Outline) (at : Place → Bool) (d : Demand) → AreAlike o at d d
itself None at d = tt
itself (Some o) at d = refl

steady_outline : (o : Option Outline) (at : Place → Bool) (n : ℕ) → IsSteady o → AreAlike o at (Whole n) (Assigned n)
steady_outline None at n s = tt
steady_outline (Some o) at n s = ap (λ (x : Outline). raise n (outline_depth at x)) (sym s)

-- what is asked as targets may be targets, so that the other way is out
whole_outline : (part : Part) (at : Place → Bool) (n : ℕ) → IsReadWhole part → IfTurned (targets_last (entry_of part ∷ [])) (Assigned n) → AreAlike (part_outline part) at (Whole n) (Assigned n)
whole_outline part at n (inl s) t = steady_outline (part_outline part) at n s
whole_outline part at n (inr f) t = let no : true ≡ false = sym t ∙ f in absurd (cc)

steady_entry : (part : Part) (at : Place → Bool) (n : ℕ) → entry_depth at (Whole n) (entry_of part) ≡ entry_depth at (Assigned n) (entry_of part)
steady_entry (PToken (At p k)) at n = refl
steady_entry (PExpr e) at n = refl
steady_entry (PSign p o) at n = refl
steady_entry (PLoop p t i cs) at n = refl
steady_entry (PLoopTarget t) at n = refl
steady_entry (PTargets p ts) at n = refl
steady_entry (PClass c) at n = refl
steady_entry (PStmt s) at n = refl
steady_entry (PBody b) at n = refl

-- demands that tell the same of a part
abbrev pub Alike : Part → Demand → Demand → Type 0
Alike part w d = (at : Place → Bool) → (entry_depth at w (entry_of part) ≡ entry_depth at d (entry_of part)) × AreAlike (part_outline part) at w d

pub same : (part : Part) (d : Demand) → Alike part d d
same part d = λ at. (refl, itself (part_outline part) at d)

pub read_whole : (part : Part) (q : Ask) (u d : Demand) → Agrees part q u → AtMost q d → IfTurned (targets_last (entry_of part ∷ [])) d → (w : Demand) × NoDeeper u w × Alike part w d
read_whole part q u Nothing a h t = (Nothing, tt, same part Nothing)
read_whole part NoNode u (Whole n) a h t = absurd h
read_whole part (AtLeast k) (Whole m) (Whole n) a h t = (Whole n, (omega arith), same part (Whole n))
read_whole part (WithinAtLeast k) u (Whole n) a h t = absurd h
read_whole part (OpenAtLeast k) (Whole m) (Whole n) a h t = (Whole n, (let e = a.0 in (omega arith)), same part (Whole n))
read_whole part NoNode u (Inside n) a h t = absurd h
read_whole part (AtLeast k) u (Inside n) a h t = absurd h
read_whole part (WithinAtLeast k) (Inside m) (Inside n) a h t = (Inside n, (omega arith), same part (Inside n))
read_whole part (OpenAtLeast k) u (Inside n) a h t = absurd h
read_whole part NoNode u (Assigned n) a h t = absurd h
read_whole part (AtLeast k) u (Assigned n) a h t = absurd h
read_whole part (WithinAtLeast k) u (Assigned n) a h t = absurd h
read_whole part (OpenAtLeast k) (Whole m) (Assigned n) a h t =
    (Whole n, (let e = a.0 in (omega arith)), λ at. (steady_entry part at n, whole_outline part at n a.1 t))
read_whole part NoNode u (InsideAssigned n) a h t = absurd h
read_whole part (AtLeast k) u (InsideAssigned n) a h t = absurd h
read_whole part (WithinAtLeast k) u (InsideAssigned n) a h t = absurd h
read_whole part (OpenAtLeast k) u (InsideAssigned n) a h t = absurd h
read_whole part q u d a h t = absurd a

max_alike : (a b m n : ℕ) → a ≡ b → m ≡ n → max a m ≡ max b n
max_alike a b m n e f = ap (λ (x : ℕ). max x m) e ∙ ap (max b) f

outlines_alike : (at : Place → Bool) (part : Part) (v : Parts) (w d : Demand) (ws ds : List Demand) → AreAlike (part_outline part) at w d
    → depth_of at (outlines_of v) (of_outlines (entries_of v) ws) ≡ depth_of at (outlines_of v) (of_outlines (entries_of v) ds)
    → depth_of at (outlines_of (part ∷ v)) (of_outlines (entries_of (part ∷ v)) (w ∷ ws)) ≡ depth_of at (outlines_of (part ∷ v)) (of_outlines (entries_of (part ∷ v)) (d ∷ ds))
outlines_alike at (PToken t) v w d ws ds e r = r
outlines_alike at (PSign p o) v w d ws ds e r = r
outlines_alike at (PClass c) v w d ws ds e r = r
outlines_alike at (PExpr x) v w d ws ds e r = max_alike _ _ _ _ e r
outlines_alike at (PLoop p t i cs) v w d ws ds e r = max_alike _ _ _ _ e r
outlines_alike at (PLoopTarget t) v w d ws ds e r = max_alike _ _ _ _ e r
outlines_alike at (PTargets p ts) v w d ws ds e r = max_alike _ _ _ _ e r
outlines_alike at (PStmt s) v w d ws ds e r = max_alike _ _ _ _ e r
outlines_alike at (PBody b) v w d ws ds e r = max_alike _ _ _ _ e r

-- the second ask for what some demands do that are no less deep than the first
abbrev pub AreRead : Parts → List Demand → List Demand → Type 0
AreRead v us ds =
    (ws : List Demand) × (length ws ≡ length ds) × AreNoDeeper us ws
    × ((at : Place → Bool) → (tokens_depth at (entries_of v) ws ≡ tokens_depth at (entries_of v) ds)
    × (depth_of at (outlines_of v) (of_outlines (entries_of v) ws) ≡ depth_of at (outlines_of v) (of_outlines (entries_of v) ds)))

-- what is told of a part
abbrev pub IsRead : Part → Demand → Demand → Type 0
IsRead part u d = (w : Demand) × NoDeeper u w × Alike part w d

pub none_read : AreRead [] [] []
none_read = ([], refl, tt, λ at. (refl, refl))

pub one_read : (part : Part) (v : Parts) (u d : Demand) (us ds : List Demand) → IsRead part u d → AreRead v us ds → AreRead (part ∷ v) (u ∷ us) (d ∷ ds)
one_read part v u d us ds x r = (
  x.0 ∷ r.0,
  ap suc r.1,
  (x.1, r.2),
  λ at. (max_alike _ _ _ _ (x.2 at).0 (r.3 at).0, outlines_alike at part v x.0 d r.0 ds (x.2 at).1 (r.3 at).1),
)

pub all_whole : (v : Parts) (qs : List Ask) (us ds : List Demand) → Agree v qs us → AreAtMost qs ds → AreTurned (entries_of v) ds
    → AreRead v us ds
all_whole [] [] [] [] a h t = none_read
all_whole (part ∷ v) (q ∷ qs) (u ∷ us) (d ∷ ds) a h t = one_read part v u d us ds (read_whole part q u d a.0 h.0 t.0) (all_whole v qs us ds a.1 h.1 t.1)
all_whole v [] us (d ∷ ds) a h t = absurd h
all_whole v (q ∷ qs) us [] a h t = absurd h
all_whole v qs us ds a h t = absurd a

-- where no token of layout is dropped next
pub kept_so : (symbols : List Symbol) (v kept : Parts) → drops_first symbols ≡ false → (kept ≡ v) ⊎ ((t : Token) × (v ≡ PToken t ∷ kept) × (drops_first symbols ≡ true)) → kept ≡ v
kept_so symbols v kept h (inl e) = e
kept_so symbols v kept h (inr e) = let no : true ≡ false = sym e.2 ∙ h in absurd (cc)

-- where one token of the front at most stands, nodes that are asked for no deeper are there as well
pub lone_so : (front : List Token) (symbols : List Symbol) (v : Parts) → Behind front [] symbols v → drops_first symbols ≡ false → (at : Place → Bool) → is_once at (heads front) ≡ true → (us ds : List Demand) → length ds ≡ length (entries_of v)
    → AreRead v us ds → (depth : ℕ) → 0 < depth → standing at v ds ≤ depth → depth ≤ standing at v ds → (0 < standing at v us) × (standing at v us ≤ depth)
lone_so front symbols v b clear at once us ds many w depth h k l =
    let alike : standing at v w.0 ≡ standing at v ds = max_alike _ _ _ _ (w.3 at).0 (w.3 at).1 in
    let all : front ≡ b.read = b.split ∙ append-nil b.read in
    let some : 0 < standing at v w.0 = (omega arith) in
    let r = subst (IsLone at) (kept_so symbols v b.kept clear b.held) (b.lone at (ap (λ (l : List Token). is_once at (heads l)) (sym all) ∙ once)) us w.0 (w.1 ∙ many) w.2 some in
    (r.0, (let j = r.1 in (omega arith)))

pub least_law : LeastLaw
least_law front symbols v b a clear at once more body m away h =
    let l = turned_law front more symbols v body b.asks b.at_front m b.askable b.least_is in
    lone_so front symbols v b clear at once b.demands l.0 l.1 (all_whole v b.asks b.demands l.0 a l.2 l.3) (body_depth at body) h (l.4 at).0 ((l.4 at).1 away)
