-- The nonterminals of the levels of expressions, and how a looser level gives way to a tighter one.
use Rattle.std.proofs.Common.{ℕ, zero, suc, ◌≤◌, Bool, true, false, List, [], ◌∷◌, ◌++◌, refl, arith}
use Rattle.std.specs.Prelude.{if◌then◌else◌}
use Rattle.grammars.specs.Grammar.{Non}
use Rattle.grammars.specs.Derivation.{Yields}
use Rattle.py_syntax.specs.Token.{Token}
use Rattle.py_syntax.specs.Build.{Parts}
use Rattle.py_syntax.specs.Table.{Nonterminal, ExpressionList, ExpressionListTail, Expression, ExpressionTail, OrTest, OrTail, AndTest, AndTail, NotTest, Comparison, ComparisonTail, OrExpr, OrExprTail, XorExpr, XorExprTail, AndExpr, AndExprTail, ShiftExpr, ShiftTail, Sum, SumTail, Product, ProductTail, Factor, PowerExpr, PowerTail, Primary, PrimaryTail, AttributeTail, DeletedTail, DeletedAttribute, DeletedEnd, Symbol, table}
use Rattle.py_syntax.proofs.TakenSteps.{take}

-- What front reads leads from the value v to u, where what stands behind is read next.
abbrev pub Leads : List Symbol → Parts → List Token → List Symbol → Parts → List Token → Type 0
Leads front v ts behind u rest =
    (symbols : List Symbol) (w : Parts) → Yields table (behind ++ symbols) u rest w → Yields table (front ++ symbols) v ts w

-- A level's nonterminal stands for that of the next level with something behind. An operator of the level comes there
-- again behind its right operand, where `goes_on`.
pub record Level : Type 0 where
  pub front : Nonterminal
  pub behind : List Symbol
  pub goes_on : Bool

abbrev level : Nonterminal → Nonterminal → Bool → Level
level x tail goes_on = record { front = x; behind = Non tail ∷ []; goes_on = goes_on }

abbrev level_without_tail : Nonterminal → Level
level_without_tail x = record { front = x; behind = []; goes_on = false }

-- all but the tightest
abbrev pub levels : List Level
levels =
    level ExpressionList ExpressionListTail false ∷ level Expression ExpressionTail false ∷ level OrTest OrTail false
    ∷ level AndTest AndTail false ∷ level_without_tail NotTest ∷ level Comparison ComparisonTail false
    ∷ level OrExpr OrExprTail true ∷ level XorExpr XorExprTail true ∷ level AndExpr AndExprTail true
    ∷ level ShiftExpr ShiftTail true ∷ level Sum SumTail true ∷ level Product ProductTail true
    ∷ level_without_tail Factor ∷ level PowerExpr PowerTail false ∷ []

abbrev pub whole_among : ℕ → List Level → Nonterminal
whole_among l [] = Primary
whole_among zero (x ∷ others) = x.front
whole_among (suc l) (x ∷ others) = whole_among l others

-- `last` comes behind what stands at the tightest level
abbrev pub tail_among : Nonterminal → ℕ → List Level → List Symbol
tail_among last l [] = Non last ∷ []
tail_among last zero (x ∷ others) = if x.goes_on then x.behind else []
tail_among last (suc l) (x ∷ others) = tail_among last l others

abbrev pub whole : ℕ → Nonterminal
whole l = whole_among l levels

abbrev pub tail : Nonterminal → ℕ → List Symbol
tail last l = tail_among last l levels

-- symbols may derive nothing
abbrev pub MayEnd : List Symbol → Type 0
MayEnd s = (v : Parts) (ts : List Token) → Leads s v ts [] v ts

abbrev GivesWay : Nonterminal → Nonterminal → List Symbol → Type 0
GivesWay x y behind = (v : Parts) (ts : List Token) → Leads (Non x ∷ []) v ts (Non y ∷ behind) v ts

abbrev AreLevels : List Level → Type 0
AreLevels [] = Unit {0}
AreLevels (x ∷ others) = GivesWay x.front (whole_among 0 others) x.behind × MayEnd x.behind × AreLevels others

are_levels : AreLevels levels
are_levels = (
  λ v ts s w y. take 0 refl y,
  λ v ts s w y. take 0 refl y,
  (
    λ v ts s w y. take 0 refl y,
    λ v ts s w y. take 0 refl y,
    (
      λ v ts s w y. take 0 refl y,
      λ v ts s w y. take 0 refl y,
      (
        λ v ts s w y. take 0 refl y,
        λ v ts s w y. take 0 refl y,
        (
          λ v ts s w y. take 1 refl y,
          λ v ts s w y. y,
          (
            λ v ts s w y. take 0 refl y,
            λ v ts s w y. take 0 refl y,
            (
              λ v ts s w y. take 0 refl y,
              λ v ts s w y. take 0 refl y,
              (
                λ v ts s w y. take 0 refl y,
                λ v ts s w y. take 0 refl y,
                (
                  λ v ts s w y. take 0 refl y,
                  λ v ts s w y. take 0 refl y,
                  (
                    λ v ts s w y. take 0 refl y,
                    λ v ts s w y. take 0 refl y,
                    (
                      λ v ts s w y. take 0 refl y,
                      λ v ts s w y. take 0 refl y,
                      (
                        λ v ts s w y. take 0 refl y,
                        λ v ts s w y. take 0 refl y,
                        (
                          λ v ts s w y. take 3 refl y,
                          λ v ts s w y. y,
                          (λ v ts s w y. take 0 refl y, λ v ts s w y. take 0 refl y, tt),
                        ),
                      ),
                    ),
                  ),
                ),
              ),
            ),
          ),
        ),
      ),
    ),
  ),
)

-- what stands behind an expression at the tightest level: in `del`, or elsewhere; behind an attribute, or a subscript
abbrev pub behind_of : Bool → Bool → Bool → Nonterminal
behind_of false false subscript = PrimaryTail
behind_of false true subscript = AttributeTail
behind_of true false false = DeletedTail
behind_of true false true = DeletedEnd
behind_of true true subscript = DeletedAttribute

last_may_end : (attribute subscript : Bool) → MayEnd (Non (behind_of false attribute subscript) ∷ [])
last_may_end false subscript v ts s w y = take 0 refl y
last_may_end true subscript v ts s w y = take 0 refl y

if_it_may_end : (goes_on : Bool) (s : List Symbol) → MayEnd s → MayEnd (if goes_on then s else [])
if_it_may_end true s e v ts symbols w y = e v ts symbols w y
if_it_may_end false s e v ts symbols w y = y

may_end_among : (last : Nonterminal) → MayEnd (Non last ∷ []) → (l : ℕ) (ls : List Level) → AreLevels ls → MayEnd (tail_among last l ls)
may_end_among last e zero [] h = e
may_end_among last e (suc l) [] h = e
may_end_among last e zero (x ∷ others) h = if_it_may_end x.goes_on x.behind h.1
may_end_among last e (suc l) (x ∷ others) h = may_end_among last e l others h.2

pub may_end : (attribute subscript : Bool) (l : ℕ) → MayEnd (tail (behind_of false attribute subscript) l)
may_end attribute subscript l = may_end_among (behind_of false attribute subscript) (last_may_end attribute subscript) l levels are_levels

fill : (goes_on : Bool) (s : List Symbol) → MayEnd s → (v : Parts) (ts : List Token) → Leads s v ts (if goes_on then s else []) v ts
fill true s e v ts symbols w y = y
fill false s e v ts symbols w y = e v ts symbols w y

step_down : (last : Nonterminal) → MayEnd (Non last ∷ []) → (x : Level) (others : List Level) → AreLevels (x ∷ others)
    → (v u : Parts) (ts rest : List Token) → Leads (Non (whole_among 0 others) ∷ []) v ts (tail_among last 0 others) u rest
    → Leads (Non x.front ∷ []) v ts (if x.goes_on then x.behind else []) u rest
step_down last e x others h v u ts rest d symbols w y =
    h.0 v ts symbols w (d (x.behind ++ symbols) w
    (may_end_among last e 0 others h.2 u rest (x.behind ++ symbols) w (fill x.goes_on x.behind h.1 u rest symbols w y)))

-- what stands at the tightest level stands at each
lowest_among : (last : Nonterminal) → MayEnd (Non last ∷ []) → (l : ℕ) (ls : List Level) → AreLevels ls
    → (v u : Parts) (ts rest : List Token) → Leads (Non Primary ∷ []) v ts (Non last ∷ []) u rest
    → Leads (Non (whole_among l ls) ∷ []) v ts (tail_among last l ls) u rest
lowest_among last e zero [] h v u ts rest d = d
lowest_among last e (suc l) [] h v u ts rest d = d
lowest_among last e zero (x ∷ others) h v u ts rest d =
    step_down last e x others h v u ts rest (lowest_among last e zero others h.2 v u ts rest d)
lowest_among last e (suc l) (x ∷ others) h v u ts rest d = lowest_among last e l others h.2 v u ts rest d

lower_among : (last : Nonterminal) → MayEnd (Non last ∷ []) → (l m : ℕ) (ls : List Level) → l ≤ m → AreLevels ls
    → (v u : Parts) (ts rest : List Token) → Leads (Non (whole_among m ls) ∷ []) v ts (tail_among last m ls) u rest
    → Leads (Non (whole_among l ls) ∷ []) v ts (tail_among last l ls) u rest
lower_among last e zero zero ls i h v u ts rest d = d
lower_among last e l m [] i h v u ts rest d = d
lower_among last e zero (suc m) (x ∷ others) i h v u ts rest d =
    step_down last e x others h v u ts rest (lower_among last e zero m others (omega arith) h.2 v u ts rest d)
lower_among last e (suc l) zero (x ∷ others) i h v u ts rest d = absurd (omega arith)
lower_among last e (suc l) (suc m) (x ∷ others) i h v u ts rest d = lower_among last e l m others (omega arith) h.2 v u ts rest d

pub lowest : (attribute subscript : Bool) (l : ℕ) (v u : Parts) (ts rest : List Token)
    → Leads (Non Primary ∷ []) v ts (Non (behind_of false attribute subscript) ∷ []) u rest
    → Leads (Non (whole l) ∷ []) v ts (tail (behind_of false attribute subscript) l) u rest
lowest attribute subscript l = lowest_among (behind_of false attribute subscript) (last_may_end attribute subscript) l levels are_levels

pub lower : (attribute subscript : Bool) (l m : ℕ) → l ≤ m → (v u : Parts) (ts rest : List Token)
    → Leads (Non (whole m) ∷ []) v ts (tail (behind_of false attribute subscript) m) u rest
    → Leads (Non (whole l) ∷ []) v ts (tail (behind_of false attribute subscript) l) u rest
lower attribute subscript l m i = lower_among (behind_of false attribute subscript) (last_may_end attribute subscript) l m levels i are_levels
