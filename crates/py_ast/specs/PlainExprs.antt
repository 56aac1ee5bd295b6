-- The code's expressions as the plain trees that definitions speak of. `tools/views.py` writes this file.
use Rattle.std.specs.Prelude.{◌≡◌, ℕ, List, [], ◌∷◌, map, Option, Some, None}
use Rattle.std.specs.Option.{option_map}
use Rattle.std.proofs.Common.{refl, ap, ap₂, sym, ◌∙◌}
use Rattle.py_syntax.specs.Tree as meaning
use Rattle.py_ast.specs.PlainOperators.{plain_unary, plain_binary, plain_comparison}
use Rattle.py_lexer.specs.PlainTokens.{plain_place}
use Rattle.shed_base.specs.declared.place.Place.{Place}
use Rattle.shed_base.specs.declared.names.Name.{Name}
use Rattle.py_ast.specs.declared.tree.NameAt.{NameAt}
use Rattle.py_ast.specs.declared.operator.UnaryOperator.{UnaryOperator}
use Rattle.py_ast.specs.declared.operator.BinaryOperator.{BinaryOperator}
use Rattle.py_ast.specs.declared.operator.ComparisonOperator.{ComparisonOperator}
use Rattle.py_ast.specs.declared.tree.LoopTarget.{LoopTarget}
use Rattle.py_ast.specs.declared.tree.LoopTarget.TheVariants as loop_target
use Rattle.py_ast.specs.declared.tree.LoopTarget.TheOpen as loop_target_open
use Rattle.py_ast.specs.declared.tree.LoopTarget.TheFolds.{fold-LoopTarget, fold-roll-LoopTarget}
use Rattle.py_ast.specs.declared.tree.Expr.{Expr}
use Rattle.py_ast.specs.declared.tree.Expr.TheVariants as expr
use Rattle.py_ast.specs.declared.tree.Expr.TheOpen as expr_open
use Rattle.py_ast.specs.declared.tree.Expr.TheFolds.{fold-Expr, fold-roll-Expr}

abbrev pub plain_name : NameAt → meaning.NameAt
plain_name x = record { place = plain_place x.place; name = x.name.0 }

abbrev pub plain_names : List NameAt → List meaning.NameAt
plain_names = map plain_name

-- one level, whose parts are plain already
abbrev pub loop_target_step : loop_target_open.LoopTarget-F meaning.LoopTarget → meaning.LoopTarget
loop_target_step (loop_target_open.Name a) = meaning.LoopName (plain_name a)
loop_target_step (loop_target_open.Names a b) = meaning.LoopNames (plain_place a) (plain_names b)
loop_target_step (loop_target_open.Parenthesis a b) = meaning.LoopParenthesis (plain_place a) b

unfoldable pub plain_loop_target : LoopTarget → meaning.LoopTarget
plain_loop_target = fold-LoopTarget meaning.LoopTarget loop_target_step

pub plain_loop_target-Name : (a : NameAt) → plain_loop_target (loop_target.Name a) ≡ meaning.LoopName (plain_name a)
unfolding plain_loop_target
plain_loop_target-Name a = ap (fold-LoopTarget meaning.LoopTarget loop_target_step) (sym (loop_target.rolls-Name a)) ∙ fold-roll-LoopTarget meaning.LoopTarget loop_target_step _

pub plain_loop_target-Names : (a : Place) (b : List NameAt) → plain_loop_target (loop_target.Names a b) ≡ meaning.LoopNames (plain_place a) (plain_names b)
unfolding plain_loop_target
plain_loop_target-Names a b = ap (fold-LoopTarget meaning.LoopTarget loop_target_step) (sym (loop_target.rolls-Names a b)) ∙ fold-roll-LoopTarget meaning.LoopTarget loop_target_step _

pub plain_loop_target-Parenthesis : (a : Place) (b : LoopTarget) → plain_loop_target (loop_target.Parenthesis a b) ≡ meaning.LoopParenthesis (plain_place a) (plain_loop_target b)
unfolding plain_loop_target
plain_loop_target-Parenthesis a b = ap (fold-LoopTarget meaning.LoopTarget loop_target_step) (sym (loop_target.rolls-Parenthesis a b)) ∙ fold-roll-LoopTarget meaning.LoopTarget loop_target_step _

pub ruleset plain_loop_targets = (plain_loop_target-Name, plain_loop_target-Names, plain_loop_target-Parenthesis)

-- children that are plain already, as the plain trees have them
abbrev pub exprs_of : List meaning.Expr → meaning.Exprs
exprs_of [] = meaning.no_exprs
exprs_of (e ∷ es) = meaning.more_exprs e (exprs_of es)

abbrev pub maybe_of : Option meaning.Expr → meaning.MaybeExpr
maybe_of None = meaning.no_expr
maybe_of (Some e) = meaning.an_expr e

abbrev pub pairs_of : List (meaning.Expr × meaning.Expr) → meaning.Pairs
pairs_of [] = meaning.no_pairs
pairs_of (e ∷ es) = meaning.more_pairs e.0 e.1 (pairs_of es)

abbrev pub links_of : List (Place × ComparisonOperator × meaning.Expr) → meaning.Links
links_of [] = meaning.no_links
links_of (e ∷ es) = meaning.more_links (plain_place e.0) (plain_comparison e.1) e.2 (links_of es)

abbrev pub keywords_of : List (NameAt × meaning.Expr) → meaning.Keywords
keywords_of [] = meaning.no_keywords
keywords_of (e ∷ es) = meaning.more_keywords (plain_name e.0) e.1 (keywords_of es)

abbrev pub loops_of : List (Place × LoopTarget × meaning.Expr × List meaning.Expr) → meaning.Loops
loops_of [] = meaning.no_loops
loops_of (e ∷ es) = meaning.more_loops (plain_place e.0) (plain_loop_target e.1) e.2 (exprs_of e.3) (loops_of es)

-- one level, whose parts are plain already
abbrev pub expr_step : expr_open.Expr-F meaning.Expr → meaning.Expr
expr_step (expr_open.Name a b) = meaning.EName (plain_place a) b.0
expr_step (expr_open.Number a b) = meaning.ENumber (plain_place a) b
expr_step (expr_open.Text a b) = meaning.EText (plain_place a) b
expr_step (expr_open.True a) = meaning.ETrue (plain_place a)
expr_step (expr_open.False a) = meaning.EFalse (plain_place a)
expr_step (expr_open.None a) = meaning.ENone (plain_place a)
expr_step (expr_open.Parenthesis a b) = meaning.EParenthesis (plain_place a) b
expr_step (expr_open.EmptyTuple a) = meaning.EEmptyTuple (plain_place a)
expr_step (expr_open.Tuple a b) = meaning.ETuple (plain_place a) (exprs_of b)
expr_step (expr_open.List a b c) = meaning.EList (plain_place a) (option_map plain_place b) (exprs_of c)
expr_step (expr_open.ListComprehension a b c) = meaning.EListComprehension (plain_place a) b (loops_of c)
expr_step (expr_open.Dict a b) = meaning.EDict (plain_place a) (pairs_of b)
expr_step (expr_open.Set a b) = meaning.ESet (plain_place a) (exprs_of b)
expr_step (expr_open.Attribute a b c) = meaning.EAttribute (plain_place a) b (plain_name c)
expr_step (expr_open.Call a b c d) = meaning.ECall (plain_place a) b (exprs_of c) (keywords_of d)
expr_step (expr_open.Subscript a b c) = meaning.ESubscript (plain_place a) b c
expr_step (expr_open.Slice a b c d) = meaning.ESlice (plain_place a) b (maybe_of c) (maybe_of d)
expr_step (expr_open.Unary a b c) = meaning.EUnary (plain_place a) (plain_unary b) c
expr_step (expr_open.Binary a b c d) = meaning.EBinary (plain_place a) (plain_binary b) c d
expr_step (expr_open.Compare a b c d e) = meaning.ECompare (plain_place a) (plain_comparison b) c d (links_of e)
expr_step (expr_open.Not a b) = meaning.ENot (plain_place a) b
expr_step (expr_open.And a b c d) = meaning.EAnd (plain_place a) b c (exprs_of d)
expr_step (expr_open.Or a b c d) = meaning.EOr (plain_place a) b c (exprs_of d)
expr_step (expr_open.Conditional a b c d) = meaning.EConditional (plain_place a) b c d

unfoldable pub plain_expr : Expr → meaning.Expr
plain_expr = fold-Expr meaning.Expr expr_step

abbrev pub plain_exprs : List Expr → meaning.Exprs
plain_exprs [] = meaning.no_exprs
plain_exprs (e ∷ es) = meaning.more_exprs (plain_expr e) (plain_exprs es)

abbrev pub plain_maybe : Option Expr → meaning.MaybeExpr
plain_maybe None = meaning.no_expr
plain_maybe (Some e) = meaning.an_expr (plain_expr e)

abbrev pub plain_pairs : List (Expr × Expr) → meaning.Pairs
plain_pairs [] = meaning.no_pairs
plain_pairs (e ∷ es) = meaning.more_pairs (plain_expr e.0) (plain_expr e.1) (plain_pairs es)

abbrev pub plain_links : List (Place × ComparisonOperator × Expr) → meaning.Links
plain_links [] = meaning.no_links
plain_links (e ∷ es) = meaning.more_links (plain_place e.0) (plain_comparison e.1) (plain_expr e.2) (plain_links es)

abbrev pub plain_keywords : List (NameAt × Expr) → meaning.Keywords
plain_keywords [] = meaning.no_keywords
plain_keywords (e ∷ es) = meaning.more_keywords (plain_name e.0) (plain_expr e.1) (plain_keywords es)

abbrev pub plain_loops : List (Place × LoopTarget × Expr × List Expr) → meaning.Loops
plain_loops [] = meaning.no_loops
plain_loops (e ∷ es) = meaning.more_loops (plain_place e.0) (plain_loop_target e.1) (plain_expr e.2) (plain_exprs e.3) (plain_loops es)

plain_exprs-map : (es : List Expr) → exprs_of (map (fold-Expr meaning.Expr expr_step) es) ≡ plain_exprs es
unfolding plain_expr
plain_exprs-map [] = refl
plain_exprs-map (e ∷ es) = ap (meaning.more_exprs (plain_expr e)) (plain_exprs-map es)

plain_pairs-map : (es : List (Expr × Expr)) → pairs_of (map (λ e. (fold-Expr meaning.Expr expr_step e.0, fold-Expr meaning.Expr expr_step e.1)) es) ≡ plain_pairs es
unfolding plain_expr
plain_pairs-map [] = refl
plain_pairs-map (e ∷ es) = ap (meaning.more_pairs (plain_expr e.0) (plain_expr e.1)) (plain_pairs-map es)

plain_links-map : (es : List (Place × ComparisonOperator × Expr)) → links_of (map (λ e. (e.0, e.1, fold-Expr meaning.Expr expr_step e.2)) es) ≡ plain_links es
unfolding plain_expr
plain_links-map [] = refl
plain_links-map (e ∷ es) = ap (meaning.more_links (plain_place e.0) (plain_comparison e.1) (plain_expr e.2)) (plain_links-map es)

plain_keywords-map : (es : List (NameAt × Expr)) → keywords_of (map (λ e. (e.0, fold-Expr meaning.Expr expr_step e.1)) es) ≡ plain_keywords es
unfolding plain_expr
plain_keywords-map [] = refl
plain_keywords-map (e ∷ es) = ap (meaning.more_keywords (plain_name e.0) (plain_expr e.1)) (plain_keywords-map es)

plain_loops-map : (es : List (Place × LoopTarget × Expr × List Expr)) → loops_of (map (λ e. (e.0, e.1, fold-Expr meaning.Expr expr_step e.2, map (fold-Expr meaning.Expr expr_step) e.3)) es) ≡ plain_loops es
unfolding plain_expr
plain_loops-map [] = refl
plain_loops-map (e ∷ es) = ap₂ (meaning.more_loops (plain_place e.0) (plain_loop_target e.1) (plain_expr e.2)) (plain_exprs-map e.3) (plain_loops-map es)

pub plain_expr-Name : (a : Place) (b : Name) → plain_expr (expr.Name a b) ≡ meaning.EName (plain_place a) b.0
unfolding plain_expr
plain_expr-Name a b = ap (fold-Expr meaning.Expr expr_step) (sym (expr.rolls-Name a b)) ∙ fold-roll-Expr meaning.Expr expr_step _

pub plain_expr-Number : (a : Place) (b : ℕ) → plain_expr (expr.Number a b) ≡ meaning.ENumber (plain_place a) b
unfolding plain_expr
plain_expr-Number a b = ap (fold-Expr meaning.Expr expr_step) (sym (expr.rolls-Number a b)) ∙ fold-roll-Expr meaning.Expr expr_step _

pub plain_expr-Text : (a : Place) (b : List ℕ) → plain_expr (expr.Text a b) ≡ meaning.EText (plain_place a) b
unfolding plain_expr
plain_expr-Text a b = ap (fold-Expr meaning.Expr expr_step) (sym (expr.rolls-Text a b)) ∙ fold-roll-Expr meaning.Expr expr_step _

pub plain_expr-True : (a : Place) → plain_expr (expr.True a) ≡ meaning.ETrue (plain_place a)
unfolding plain_expr
plain_expr-True a = ap (fold-Expr meaning.Expr expr_step) (sym (expr.rolls-True a)) ∙ fold-roll-Expr meaning.Expr expr_step _

pub plain_expr-False : (a : Place) → plain_expr (expr.False a) ≡ meaning.EFalse (plain_place a)
unfolding plain_expr
plain_expr-False a = ap (fold-Expr meaning.Expr expr_step) (sym (expr.rolls-False a)) ∙ fold-roll-Expr meaning.Expr expr_step _

pub plain_expr-None : (a : Place) → plain_expr (expr.None a) ≡ meaning.ENone (plain_place a)
unfolding plain_expr
plain_expr-None a = ap (fold-Expr meaning.Expr expr_step) (sym (expr.rolls-None a)) ∙ fold-roll-Expr meaning.Expr expr_step _

pub plain_expr-Parenthesis : (a : Place) (b : Expr) → plain_expr (expr.Parenthesis a b) ≡ meaning.EParenthesis (plain_place a) (plain_expr b)
unfolding plain_expr
plain_expr-Parenthesis a b = ap (fold-Expr meaning.Expr expr_step) (sym (expr.rolls-Parenthesis a b)) ∙ fold-roll-Expr meaning.Expr expr_step _

pub plain_expr-EmptyTuple : (a : Place) → plain_expr (expr.EmptyTuple a) ≡ meaning.EEmptyTuple (plain_place a)
unfolding plain_expr
plain_expr-EmptyTuple a = ap (fold-Expr meaning.Expr expr_step) (sym (expr.rolls-EmptyTuple a)) ∙ fold-roll-Expr meaning.Expr expr_step _

pub plain_expr-Tuple : (a : Place) (b : List Expr) → plain_expr (expr.Tuple a b) ≡ meaning.ETuple (plain_place a) (plain_exprs b)
unfolding plain_expr
plain_expr-Tuple a b = ap (fold-Expr meaning.Expr expr_step) (sym (expr.rolls-Tuple a b)) ∙ fold-roll-Expr meaning.Expr expr_step _
    ∙ ap (λ hole. meaning.ETuple (plain_place a) hole) (plain_exprs-map b)

pub plain_expr-List : (a : Place) (b : Option Place) (c : List Expr) → plain_expr (expr.List a b c) ≡ meaning.EList (plain_place a) (option_map plain_place b) (plain_exprs c)
unfolding plain_expr
plain_expr-List a b c = ap (fold-Expr meaning.Expr expr_step) (sym (expr.rolls-List a b c)) ∙ fold-roll-Expr meaning.Expr expr_step _
    ∙ ap (λ hole. meaning.EList (plain_place a) (option_map plain_place b) hole) (plain_exprs-map c)

pub plain_expr-ListComprehension : (a : Place) (b : Expr) (c : List (Place × LoopTarget × Expr × List Expr)) → plain_expr (expr.ListComprehension a b c) ≡ meaning.EListComprehension (plain_place a) (plain_expr b) (plain_loops c)
unfolding plain_expr
plain_expr-ListComprehension a b c = ap (fold-Expr meaning.Expr expr_step) (sym (expr.rolls-ListComprehension a b c)) ∙ fold-roll-Expr meaning.Expr expr_step _
    ∙ ap (λ hole. meaning.EListComprehension (plain_place a) (fold-Expr meaning.Expr expr_step b) hole) (plain_loops-map c)

pub plain_expr-Dict : (a : Place) (b : List (Expr × Expr)) → plain_expr (expr.Dict a b) ≡ meaning.EDict (plain_place a) (plain_pairs b)
unfolding plain_expr
plain_expr-Dict a b = ap (fold-Expr meaning.Expr expr_step) (sym (expr.rolls-Dict a b)) ∙ fold-roll-Expr meaning.Expr expr_step _
    ∙ ap (λ hole. meaning.EDict (plain_place a) hole) (plain_pairs-map b)

pub plain_expr-Set : (a : Place) (b : List Expr) → plain_expr (expr.Set a b) ≡ meaning.ESet (plain_place a) (plain_exprs b)
unfolding plain_expr
plain_expr-Set a b = ap (fold-Expr meaning.Expr expr_step) (sym (expr.rolls-Set a b)) ∙ fold-roll-Expr meaning.Expr expr_step _
    ∙ ap (λ hole. meaning.ESet (plain_place a) hole) (plain_exprs-map b)

pub plain_expr-Attribute : (a : Place) (b : Expr) (c : NameAt) → plain_expr (expr.Attribute a b c) ≡ meaning.EAttribute (plain_place a) (plain_expr b) (plain_name c)
unfolding plain_expr
plain_expr-Attribute a b c = ap (fold-Expr meaning.Expr expr_step) (sym (expr.rolls-Attribute a b c)) ∙ fold-roll-Expr meaning.Expr expr_step _

pub plain_expr-Call : (a : Place) (b : Expr) (c : List Expr) (d : List (NameAt × Expr)) → plain_expr (expr.Call a b c d) ≡ meaning.ECall (plain_place a) (plain_expr b) (plain_exprs c) (plain_keywords d)
unfolding plain_expr
plain_expr-Call a b c d = ap (fold-Expr meaning.Expr expr_step) (sym (expr.rolls-Call a b c d)) ∙ fold-roll-Expr meaning.Expr expr_step _
    ∙ ap (λ hole. meaning.ECall (plain_place a) (fold-Expr meaning.Expr expr_step b) hole (keywords_of (map (λ e. (e.0, fold-Expr meaning.Expr expr_step e.1)) d))) (plain_exprs-map c)
    ∙ ap (λ hole. meaning.ECall (plain_place a) (fold-Expr meaning.Expr expr_step b) (plain_exprs c) hole) (plain_keywords-map d)

pub plain_expr-Subscript : (a : Place) (b : Expr) (c : Expr) → plain_expr (expr.Subscript a b c) ≡ meaning.ESubscript (plain_place a) (plain_expr b) (plain_expr c)
unfolding plain_expr
plain_expr-Subscript a b c = ap (fold-Expr meaning.Expr expr_step) (sym (expr.rolls-Subscript a b c)) ∙ fold-roll-Expr meaning.Expr expr_step _

pub plain_expr-Slice : (a : Place) (b : Expr) (c : Option Expr) (d : Option Expr) → plain_expr (expr.Slice a b c d) ≡ meaning.ESlice (plain_place a) (plain_expr b) (plain_maybe c) (plain_maybe d)
unfolding plain_expr
plain_expr-Slice a b None None = ap (fold-Expr meaning.Expr expr_step) (sym (expr.rolls-Slice a b None None)) ∙ fold-roll-Expr meaning.Expr expr_step _
plain_expr-Slice a b (Some c) None = ap (fold-Expr meaning.Expr expr_step) (sym (expr.rolls-Slice a b (Some c) None)) ∙ fold-roll-Expr meaning.Expr expr_step _
plain_expr-Slice a b None (Some d) = ap (fold-Expr meaning.Expr expr_step) (sym (expr.rolls-Slice a b None (Some d))) ∙ fold-roll-Expr meaning.Expr expr_step _
plain_expr-Slice a b (Some c) (Some d) = ap (fold-Expr meaning.Expr expr_step) (sym (expr.rolls-Slice a b (Some c) (Some d))) ∙ fold-roll-Expr meaning.Expr expr_step _

-- the same for each number of bounds
pub plain_expr-Slice-neither : (a : Place) (b : Expr) → plain_expr (expr.Slice a b None None) ≡ meaning.ESlice (plain_place a) (plain_expr b) meaning.no_expr meaning.no_expr
plain_expr-Slice-neither a b = plain_expr-Slice a b None None

pub plain_expr-Slice-lower : (a : Place) (b c : Expr) → plain_expr (expr.Slice a b (Some c) None) ≡ meaning.ESlice (plain_place a) (plain_expr b) (meaning.an_expr (plain_expr c)) meaning.no_expr
plain_expr-Slice-lower a b c = plain_expr-Slice a b (Some c) None

pub plain_expr-Slice-no-upper : (a : Place) (b : Expr) (c : Option Expr) → plain_expr (expr.Slice a b c None) ≡ meaning.ESlice (plain_place a) (plain_expr b) (plain_maybe c) meaning.no_expr
plain_expr-Slice-no-upper a b c = plain_expr-Slice a b c None

pub plain_expr-Slice-upper : (a : Place) (b : Expr) (c : Option Expr) (d : Expr) → plain_expr (expr.Slice a b c (Some d)) ≡ meaning.ESlice (plain_place a) (plain_expr b) (plain_maybe c) (meaning.an_expr (plain_expr d))
plain_expr-Slice-upper a b c d = plain_expr-Slice a b c (Some d)

pub plain_expr-Unary : (a : Place) (b : UnaryOperator) (c : Expr) → plain_expr (expr.Unary a b c) ≡ meaning.EUnary (plain_place a) (plain_unary b) (plain_expr c)
unfolding plain_expr
plain_expr-Unary a b c = ap (fold-Expr meaning.Expr expr_step) (sym (expr.rolls-Unary a b c)) ∙ fold-roll-Expr meaning.Expr expr_step _

pub plain_expr-Binary : (a : Place) (b : BinaryOperator) (c : Expr) (d : Expr) → plain_expr (expr.Binary a b c d) ≡ meaning.EBinary (plain_place a) (plain_binary b) (plain_expr c) (plain_expr d)
unfolding plain_expr
plain_expr-Binary a b c d = ap (fold-Expr meaning.Expr expr_step) (sym (expr.rolls-Binary a b c d)) ∙ fold-roll-Expr meaning.Expr expr_step _

pub plain_expr-Compare : (a : Place) (b : ComparisonOperator) (c : Expr) (d : Expr) (e : List (Place × ComparisonOperator × Expr)) → plain_expr (expr.Compare a b c d e) ≡ meaning.ECompare (plain_place a) (plain_comparison b) (plain_expr c) (plain_expr d) (plain_links e)
unfolding plain_expr
plain_expr-Compare a b c d e = ap (fold-Expr meaning.Expr expr_step) (sym (expr.rolls-Compare a b c d e)) ∙ fold-roll-Expr meaning.Expr expr_step _
    ∙ ap (λ hole. meaning.ECompare (plain_place a) (plain_comparison b) (fold-Expr meaning.Expr expr_step c) (fold-Expr meaning.Expr expr_step d) hole) (plain_links-map e)

pub plain_expr-Not : (a : Place) (b : Expr) → plain_expr (expr.Not a b) ≡ meaning.ENot (plain_place a) (plain_expr b)
unfolding plain_expr
plain_expr-Not a b = ap (fold-Expr meaning.Expr expr_step) (sym (expr.rolls-Not a b)) ∙ fold-roll-Expr meaning.Expr expr_step _

pub plain_expr-And : (a : Place) (b : Expr) (c : Expr) (d : List Expr) → plain_expr (expr.And a b c d) ≡ meaning.EAnd (plain_place a) (plain_expr b) (plain_expr c) (plain_exprs d)
unfolding plain_expr
plain_expr-And a b c d = ap (fold-Expr meaning.Expr expr_step) (sym (expr.rolls-And a b c d)) ∙ fold-roll-Expr meaning.Expr expr_step _
    ∙ ap (λ hole. meaning.EAnd (plain_place a) (fold-Expr meaning.Expr expr_step b) (fold-Expr meaning.Expr expr_step c) hole) (plain_exprs-map d)

pub plain_expr-Or : (a : Place) (b : Expr) (c : Expr) (d : List Expr) → plain_expr (expr.Or a b c d) ≡ meaning.EOr (plain_place a) (plain_expr b) (plain_expr c) (plain_exprs d)
unfolding plain_expr
plain_expr-Or a b c d = ap (fold-Expr meaning.Expr expr_step) (sym (expr.rolls-Or a b c d)) ∙ fold-roll-Expr meaning.Expr expr_step _
    ∙ ap (λ hole. meaning.EOr (plain_place a) (fold-Expr meaning.Expr expr_step b) (fold-Expr meaning.Expr expr_step c) hole) (plain_exprs-map d)

pub plain_expr-Conditional : (a : Place) (b : Expr) (c : Expr) (d : Expr) → plain_expr (expr.Conditional a b c d) ≡ meaning.EConditional (plain_place a) (plain_expr b) (plain_expr c) (plain_expr d)
unfolding plain_expr
plain_expr-Conditional a b c d = ap (fold-Expr meaning.Expr expr_step) (sym (expr.rolls-Conditional a b c d)) ∙ fold-roll-Expr meaning.Expr expr_step _

-- what functions that build or match them name by `using`
pub ruleset plain_exprs_by_variant = (plain_expr-Name, plain_expr-Number, plain_expr-Text, plain_expr-True, plain_expr-False, plain_expr-None, plain_expr-Parenthesis, plain_expr-EmptyTuple, plain_expr-Tuple, plain_expr-List, plain_expr-ListComprehension, plain_expr-Dict, plain_expr-Set, plain_expr-Attribute, plain_expr-Call, plain_expr-Subscript, plain_expr-Slice-neither, plain_expr-Slice-lower, plain_expr-Slice-no-upper, plain_expr-Slice-upper, plain_expr-Unary, plain_expr-Binary, plain_expr-Compare, plain_expr-Not, plain_expr-And, plain_expr-Or, plain_expr-Conditional)
