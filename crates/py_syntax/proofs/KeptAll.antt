-- Each row of the table keeps what its nonterminal means; so what the table derives is spelt as the grammar says.
use Rattle.std.proofs.Common.{◌≡◌, List, [], refl, sym, ◌∙◌, subst, false}
use Rattle.grammars.specs.Derivation.{Yields}
use Rattle.grammars.proofs.Chains.{chain_of}
use Rattle.py_syntax.specs.Token.{Token}
use Rattle.py_syntax.specs.Tree.{Body, no_stmts}
use Rattle.py_syntax.specs.Build.{Parts}
use Rattle.py_syntax.specs.Grammar.{AreTopLevel, IsModule}
use Rattle.py_syntax.specs.Table.{Nonterminal, Module, TopStatement, Statements, Statement, Compound, Otherwise, Suite, Handler, HandlerAlias, MoreHandlers, QualifiedName, QualifiedNameTail, Definition, ParameterList, ParameterNext, ParameterItem, ParameterDefault, ClassDefinition, ClassBase, BaseList, ClassSuite, Member, Members, Brief, ImportStatement, ImportItem, ImportAlias, ImportNext, FromItem, FromNext, Line, LineTail, LineMore, Small, SmallTail, AssignTail, Returned, GlobalNext, AssertMessage, DeletedTail, DeletedAttribute, DeletedEnd, DeletedSubscript, DeletedSubscriptTail, Binding, BindingTail, BindingMore, BindingNext, ExpressionList, ExpressionListTail, ItemMore, ItemNext, Expression, ExpressionTail, OrTest, OrTail, OrMore, AndTest, AndTail, AndMore, NotTest, Comparison, ComparisonTail, ComparisonMore, ComparisonSign, IsTail, OrExpr, OrExprTail, XorExpr, XorExprTail, AndExpr, AndExprTail, ShiftExpr, ShiftTail, Sum, SumTail, Product, ProductTail, Factor, PowerExpr, PowerTail, Primary, PrimaryTail, AttributeTail, Subscription, SubscriptionTail, Upper, Arguments, ArgumentTail, KeywordNext, KeywordMore, PlainArguments, PlainArgumentTail, Atom, Parenthesised, ParenthesisedTail, Bracketed, BracketedTail, Braced, BracedTail, PairNext, PairMore, Comprehension, Conditions, Comprehensions, AnyName, table}
use Rattle.py_syntax.specs.Laws.{goal, start, finished}
use Rattle.py_syntax.proofs.Means.{Means, Kept}
use Rattle.py_syntax.proofs.KeptAtoms.{kept_any_name, kept_atom, kept_binding, kept_binding_more, kept_binding_next, kept_binding_tail, kept_braced, kept_braced_tail, kept_bracketed, kept_bracketed_tail, kept_comprehension, kept_comprehensions, kept_conditions, kept_pair_more, kept_pair_next, kept_parenthesised, kept_parenthesised_tail}
use Rattle.py_syntax.proofs.KeptBlocks.{kept_compound, kept_handler, kept_handler_alias, kept_more_handlers, kept_otherwise, kept_qualified_name, kept_qualified_name_tail}
use Rattle.py_syntax.proofs.KeptCalls.{kept_argument_tail, kept_arguments, kept_attribute_tail, kept_keyword_more, kept_keyword_next, kept_plain_argument_tail, kept_plain_arguments, kept_primary, kept_primary_tail, kept_subscription, kept_subscription_tail, kept_upper}
use Rattle.py_syntax.proofs.KeptDefinitions.{kept_base_list, kept_brief, kept_class_base, kept_class_definition, kept_class_suite, kept_definition, kept_member, kept_members, kept_parameter_default, kept_parameter_item, kept_parameter_list, kept_parameter_next}
use Rattle.py_syntax.proofs.KeptDeletions.{kept_deleted_attribute, kept_deleted_end, kept_deleted_subscript, kept_deleted_subscript_tail, kept_deleted_tail}
use Rattle.py_syntax.proofs.KeptImports.{kept_from_item, kept_from_next, kept_import_alias, kept_import_item, kept_import_next, kept_import_statement}
use Rattle.py_syntax.proofs.KeptOperators.{kept_and_expr, kept_and_expr_tail, kept_and_more, kept_and_tail, kept_and_test, kept_comparison, kept_comparison_more, kept_comparison_sign, kept_comparison_tail, kept_expression, kept_expression_list, kept_expression_list_tail, kept_expression_tail, kept_factor, kept_is_tail, kept_item_more, kept_item_next, kept_not_test, kept_or_expr, kept_or_expr_tail, kept_or_more, kept_or_tail, kept_or_test, kept_power_expr, kept_power_tail, kept_product, kept_product_tail, kept_shift_expr, kept_shift_tail, kept_sum, kept_sum_tail, kept_xor_expr, kept_xor_expr_tail}
use Rattle.py_syntax.proofs.KeptSmall.{kept_assert_message, kept_assign_tail, kept_global_next, kept_returned, kept_small, kept_small_tail}
use Rattle.py_syntax.proofs.KeptStatements.{kept_line, kept_line_more, kept_line_tail, kept_module, kept_statement, kept_statements, kept_suite, kept_top_statement}

kept : (x : Nonterminal) → Kept x
kept Module = kept_module
kept TopStatement = kept_top_statement
kept Statements = kept_statements
kept Statement = kept_statement
kept Compound = kept_compound
kept Otherwise = kept_otherwise
kept Suite = kept_suite
kept Handler = kept_handler
kept HandlerAlias = kept_handler_alias
kept MoreHandlers = kept_more_handlers
kept QualifiedName = kept_qualified_name
kept QualifiedNameTail = kept_qualified_name_tail
kept Definition = kept_definition
kept ParameterList = kept_parameter_list
kept ParameterNext = kept_parameter_next
kept ParameterItem = kept_parameter_item
kept ParameterDefault = kept_parameter_default
kept ClassDefinition = kept_class_definition
kept ClassBase = kept_class_base
kept BaseList = kept_base_list
kept ClassSuite = kept_class_suite
kept Member = kept_member
kept Members = kept_members
kept Brief = kept_brief
kept ImportStatement = kept_import_statement
kept ImportItem = kept_import_item
kept ImportAlias = kept_import_alias
kept ImportNext = kept_import_next
kept FromItem = kept_from_item
kept FromNext = kept_from_next
kept Line = kept_line
kept LineTail = kept_line_tail
kept LineMore = kept_line_more
kept Small = kept_small
kept SmallTail = kept_small_tail
kept AssignTail = kept_assign_tail
kept Returned = kept_returned
kept GlobalNext = kept_global_next
kept AssertMessage = kept_assert_message
kept DeletedTail = kept_deleted_tail
kept DeletedAttribute = kept_deleted_attribute
kept DeletedEnd = kept_deleted_end
kept DeletedSubscript = kept_deleted_subscript
kept DeletedSubscriptTail = kept_deleted_subscript_tail
kept Binding = kept_binding
kept BindingTail = kept_binding_tail
kept BindingMore = kept_binding_more
kept BindingNext = kept_binding_next
kept ExpressionList = kept_expression_list
kept ExpressionListTail = kept_expression_list_tail
kept ItemMore = kept_item_more
kept ItemNext = kept_item_next
kept Expression = kept_expression
kept ExpressionTail = kept_expression_tail
kept OrTest = kept_or_test
kept OrTail = kept_or_tail
kept OrMore = kept_or_more
kept AndTest = kept_and_test
kept AndTail = kept_and_tail
kept AndMore = kept_and_more
kept NotTest = kept_not_test
kept Comparison = kept_comparison
kept ComparisonTail = kept_comparison_tail
kept ComparisonMore = kept_comparison_more
kept ComparisonSign = kept_comparison_sign
kept IsTail = kept_is_tail
kept OrExpr = kept_or_expr
kept OrExprTail = kept_or_expr_tail
kept XorExpr = kept_xor_expr
kept XorExprTail = kept_xor_expr_tail
kept AndExpr = kept_and_expr
kept AndExprTail = kept_and_expr_tail
kept ShiftExpr = kept_shift_expr
kept ShiftTail = kept_shift_tail
kept Sum = kept_sum
kept SumTail = kept_sum_tail
kept Product = kept_product
kept ProductTail = kept_product_tail
kept Factor = kept_factor
kept PowerExpr = kept_power_expr
kept PowerTail = kept_power_tail
kept Primary = kept_primary
kept PrimaryTail = kept_primary_tail
kept AttributeTail = kept_attribute_tail
kept Subscription = kept_subscription
kept SubscriptionTail = kept_subscription_tail
kept Upper = kept_upper
kept Arguments = kept_arguments
kept ArgumentTail = kept_argument_tail
kept KeywordNext = kept_keyword_next
kept KeywordMore = kept_keyword_more
kept PlainArguments = kept_plain_arguments
kept PlainArgumentTail = kept_plain_argument_tail
kept Atom = kept_atom
kept Parenthesised = kept_parenthesised
kept ParenthesisedTail = kept_parenthesised_tail
kept Bracketed = kept_bracketed
kept BracketedTail = kept_bracketed_tail
kept Braced = kept_braced
kept BracedTail = kept_braced_tail
kept PairNext = kept_pair_next
kept PairMore = kept_pair_more
kept Comprehension = kept_comprehension
kept Conditions = kept_conditions
kept Comprehensions = kept_comprehensions
kept AnyName = kept_any_name

pub spelt_so : (ts : List Token) (v : Parts) → Yields table goal start ts v → (body : Body) × (v ≡ finished body) × IsModule body ts
spelt_so ts v y =
    let c = chain_of table Means kept goal start ts v y in
    let m = c.2 tt no_stmts [] refl in
    (m.0, sym c.3.0 ∙ m.1, subst (AreTopLevel false m.0 ts) c.3.1 m.2)
