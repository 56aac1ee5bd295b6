-- What symbols ask of the parts before them where the part that they end with is to be an item among targets.
use Rattle.std.specs.Prelude.{ℕ, suc, Bool, true, false, ◌&&◌, if◌then◌else◌, List, [], ◌∷◌, ◌++◌, map, Option, Some, None}
use Rattle.grammars.specs.Grammar.{Tok, Non, Do}
use Rattle.py_syntax.specs.Build.{Action, Drop, MakeLeaf, MakeAttribute, MakeSubscript}
use Rattle.py_syntax.specs.Table.{Symbol, Nonterminal, ExpressionTail, OrTail, OrMore, AndTail, AndMore, ComparisonTail, ComparisonMore, OrExprTail, XorExprTail, AndExprTail, ShiftTail, SumTail, ProductTail, PowerTail, ExpressionListTail, ItemMore, ItemNext, Arguments, KeywordNext, KeywordMore, PlainArguments, Upper, PairNext, PairMore, Conditions, Comprehensions, PrimaryTail, AttributeTail, ArgumentTail, PlainArgumentTail, Parenthesised, ParenthesisedTail, Bracketed, BracketedTail, Braced, BracedTail, Comprehension, IsTail, BindingTail, BindingMore, BindingNext}
use Rattle.py_demands.specs.Roles.{Role, Lost, roles}
use Rattle.py_demands.specs.Least.{Ask, NoNode, AtLeast, OpenAtLeast, ask_by, Least, As, ask_least, low, may_ask}

pub data Aim : Type 0 where
  -- whatever it turns out to be
  Simply : (ask : Ask) → Aim
  -- it is what is assigned to, with at least so many above
  Targets : (above : ℕ) → Aim
  -- it is one of several targets, with at least so many above
  Target : (above : ℕ) → Aim
  -- it is one, or has one more above
  MayTarget : (above : ℕ) → Aim
  -- it stands in no module
  Never : Aim

-- the actions that leave what may be one of several targets
abbrev pub makes_target : Action → Bool
makes_target MakeLeaf = true
makes_target MakeAttribute = true
makes_target MakeSubscript = true
makes_target a = false

-- what an action makes of what is asked of the part that it leaves
abbrev pub made_by : Action → Aim → Aim
made_by a (Simply q) = Simply q
made_by a (Targets n) = Simply (OpenAtLeast n)
made_by a (Target n) = if makes_target a then Simply (AtLeast n) else Never
made_by a (MayTarget n) = if makes_target a then Simply (AtLeast n) else Simply (AtLeast (suc n))
made_by a Never = Never

abbrev pub aim_by : Aim → Role → Aim
aim_by (Simply q) role = Simply (ask_by q role)
aim_by aim role = Never

-- what becomes of the last part that a nonterminal takes
pub data Way : Type 0 where
  -- it stays, or goes into what is no target
  Keeps : Way
  -- it stays, or stands below a node
  Extends : Way
  -- a target may be made
  Makes : Way
  -- no target is made
  Differs : Way

abbrev pub way : Nonterminal → Way
way ExpressionTail = Keeps
way OrTail = Keeps
way OrMore = Keeps
way AndTail = Keeps
way AndMore = Keeps
way ComparisonTail = Keeps
way ComparisonMore = Keeps
way OrExprTail = Keeps
way XorExprTail = Keeps
way AndExprTail = Keeps
way ShiftTail = Keeps
way SumTail = Keeps
way ProductTail = Keeps
way PowerTail = Keeps
way ExpressionListTail = Keeps
way ItemMore = Keeps
way ItemNext = Keeps
way Arguments = Keeps
way KeywordNext = Keeps
way KeywordMore = Keeps
way PlainArguments = Keeps
way Upper = Keeps
way PairNext = Keeps
way PairMore = Keeps
way Conditions = Keeps
way Comprehensions = Keeps
way PrimaryTail = Extends
way AttributeTail = Extends
way ArgumentTail = Differs
way PlainArgumentTail = Differs
way Parenthesised = Differs
way ParenthesisedTail = Differs
way Bracketed = Differs
way BracketedTail = Differs
way Braced = Differs
way BracedTail = Differs
way Comprehension = Differs
way IsTail = Differs
way BindingTail = Keeps
way BindingMore = Keeps
way BindingNext = Keeps
way x = Makes

abbrev pub gone : Way → Aim → Aim
gone w (Simply q) = Simply q
gone w (Targets n) = Simply (OpenAtLeast n)
gone w Never = Never
gone Keeps (Target n) = Target n
gone Keeps (MayTarget n) = MayTarget n
gone Extends (Target n) = MayTarget n
gone Extends (MayTarget n) = MayTarget n
gone Makes (Target n) = Simply (AtLeast n)
gone Makes (MayTarget n) = Simply (AtLeast n)
gone Differs (Target n) = Never
gone Differs (MayTarget n) = Simply (AtLeast (suc n))

abbrev pub aim_least : Aim → Least → Aim
aim_least (Simply q) l = Simply (ask_least q l)
aim_least aim (As Lost) = Simply NoNode
aim_least aim l = aim

abbrev pub aims_by : Action → List Aim → Option (List Aim)
aims_by Drop aims = Some (Simply NoNode ∷ aims)
aims_by a [] = None
aims_by a (aim ∷ aims) = Some (map (aim_by (made_by a aim)) (roles a) ++ aims)

abbrev pub aims_symbol : Symbol → List Aim → Option (List Aim)
aims_symbol (Tok k) [] = None
aims_symbol (Tok k) (aim ∷ aims) = Some aims
aims_symbol (Do a) aims = aims_by a aims
aims_symbol (Non x) [] = None
aims_symbol (Non x) (aim ∷ aims) = Some (map (aim_least (gone (way x) aim)) (low x) ++ aims)

abbrev pub aims_before : Symbol → Option (List Aim) → Option (List Aim)
aims_before s None = None
aims_before s (Some aims) = aims_symbol s aims

-- the last symbol first
abbrev pub aimed : List Symbol → Option (List Aim) → Option (List Aim)
aimed [] aims = aims
aimed (s ∷ symbols) aims = aims_before s (aimed symbols aims)

-- what may be asked of the part that a nonterminal gives
abbrev pub may_aim : Nonterminal → Aim → Bool
may_aim x (Simply q) = may_ask x q
may_aim x (Targets n) = false
may_aim x aim = true

abbrev pub may_aim_first : Nonterminal → Option (List Aim) → Bool
may_aim_first x None = false
may_aim_first x (Some []) = false
may_aim_first x (Some (aim ∷ aims)) = may_aim x aim

abbrev pub are_aimable : List Symbol → Option (List Aim) → Bool
are_aimable [] aims = true
are_aimable (Tok k ∷ symbols) aims = are_aimable symbols aims
are_aimable (Do a ∷ symbols) aims = are_aimable symbols aims
are_aimable (Non x ∷ symbols) aims = may_aim_first x (aimed symbols aims) && are_aimable symbols aims
