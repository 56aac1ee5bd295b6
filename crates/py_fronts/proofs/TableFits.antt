-- Each row of the table finds what it takes, and leaves what its nonterminal gives.
use Rattle.std.proofs.Common.{◌≡◌, Bool, true, false, ◌&&◌, List, [], ◌∷◌, ◌++◌, Option, Some, None, inl, inr, refl, sym, ap, ◌∙◌, subst, append-nil}
use Rattle.grammars.specs.Grammar.{allows, Row, IsRow}
use Rattle.grammars.proofs.Bools.{and_left, and_right, both}
use Rattle.py_syntax.specs.Build.{Parts, Action, are_targets_last, is_target_last, is_name_last}
use Rattle.py_syntax.specs.Table.{Symbol, Nonterminal, Module, TopStatement, Statements, Statement, Compound, Otherwise, Suite, Handler, HandlerAlias, MoreHandlers, QualifiedName, QualifiedNameTail, Definition, ParameterList, ParameterNext, ParameterItem, ParameterDefault, ClassDefinition, ClassBase, BaseList, ClassSuite, Member, Members, Brief, ImportStatement, ImportItem, ImportAlias, ImportNext, FromItem, FromNext, Line, LineTail, LineMore, Small, SmallTail, AssignTail, Returned, GlobalNext, AssertMessage, DeletedTail, DeletedAttribute, DeletedEnd, DeletedSubscript, DeletedSubscriptTail, Binding, BindingTail, BindingMore, BindingNext, ExpressionList, ExpressionListTail, ItemMore, ItemNext, Expression, ExpressionTail, OrTest, OrTail, OrMore, AndTest, AndTail, AndMore, NotTest, Comparison, ComparisonTail, ComparisonMore, ComparisonSign, IsTail, OrExpr, OrExprTail, XorExpr, XorExprTail, AndExpr, AndExprTail, ShiftExpr, ShiftTail, Sum, SumTail, Product, ProductTail, Factor, PowerExpr, PowerTail, Primary, PrimaryTail, AttributeTail, Subscription, SubscriptionTail, Upper, Arguments, ArgumentTail, KeywordNext, KeywordMore, PlainArguments, PlainArgumentTail, Atom, Parenthesised, ParenthesisedTail, Bracketed, BracketedTail, Braced, BracedTail, PairNext, PairMore, Comprehension, Conditions, Comprehensions, AnyName, rows}
use Rattle.py_nesting.specs.Forms.{NameForm}
use Rattle.py_nesting.specs.Shapes.{ExprShape, Entry, entry, entries_of}
use Rattle.py_nesting.specs.Asked.{targets_last, target_last, name_last}
use Rattle.py_nesting.proofs.FormsAgree.{targets_of_entries, target_of_entries, name_of_entries}
use Rattle.py_fronts.specs.Kinds.{Kind, AnExpr, ANameExpr, ATarget, TargetsExpr, ACall, TheTargets, all_fit, without, takes, gives, behind}
use Rattle.py_fronts.specs.Fit.{Takes, Fit}
use Rattle.py_fronts.proofs.RowsFit.{split, fit_so}

-- what is known where a row may be taken
abbrev narrowed : Nonterminal → List (List Kind)
narrowed SmallTail = (AnExpr ∷ []) ∷ (TargetsExpr ∷ []) ∷ (ATarget ∷ []) ∷ (ATarget ∷ []) ∷ (ATarget ∷ []) ∷ (ATarget ∷ []) ∷ (ATarget ∷ []) ∷ (ATarget ∷ []) ∷ (ATarget ∷ []) ∷ (ATarget ∷ []) ∷ (ATarget ∷ []) ∷ (ATarget ∷ []) ∷ (ATarget ∷ []) ∷ []
narrowed AssignTail = (AnExpr ∷ TheTargets ∷ []) ∷ (TargetsExpr ∷ TheTargets ∷ []) ∷ []
narrowed ArgumentTail = (AnExpr ∷ ACall ∷ []) ∷ (AnExpr ∷ ACall ∷ []) ∷ (ANameExpr ∷ ACall ∷ []) ∷ []
narrowed x = []

abbrev is_nothing : Option (List Kind) → Bool
is_nothing (Some []) = true
is_nothing o = false

abbrev ends_in : Option (List Kind) → List Kind → Bool
ends_in None ls = false
ends_in (Some ks) ls = is_nothing (without ls ks)

abbrev rows_end : Nonterminal → List (Row Nonterminal Action Parts) → List (List Kind) → Bool
rows_end x [] ns = true
rows_end x (r ∷ these) [] = ends_in (behind r.symbols (Some (takes x))) (gives x) && rows_end x these []
rows_end x (r ∷ these) (n ∷ ns) = ends_in (behind r.symbols (Some n)) (gives x) && rows_end x these ns

all_end : (x : Nonterminal) → rows_end x (rows x) (narrowed x) ≡ true
all_end Module = refl
all_end TopStatement = refl
all_end Statements = refl
all_end Statement = refl
all_end Compound = refl
all_end Otherwise = refl
all_end Suite = refl
all_end Handler = refl
all_end HandlerAlias = refl
all_end MoreHandlers = refl
all_end QualifiedName = refl
all_end QualifiedNameTail = refl
all_end Definition = refl
all_end ParameterList = refl
all_end ParameterNext = refl
all_end ParameterItem = refl
all_end ParameterDefault = refl
all_end ClassDefinition = refl
all_end ClassBase = refl
all_end BaseList = refl
all_end ClassSuite = refl
all_end Member = refl
all_end Members = refl
all_end Brief = refl
all_end ImportStatement = refl
all_end ImportItem = refl
all_end ImportAlias = refl
all_end ImportNext = refl
all_end FromItem = refl
all_end FromNext = refl
all_end Line = refl
all_end LineTail = refl
all_end LineMore = refl
all_end Small = refl
all_end SmallTail = refl
all_end AssignTail = refl
all_end Returned = refl
all_end GlobalNext = refl
all_end AssertMessage = refl
all_end DeletedTail = refl
all_end DeletedAttribute = refl
all_end DeletedEnd = refl
all_end DeletedSubscript = refl
all_end DeletedSubscriptTail = refl
all_end Binding = refl
all_end BindingTail = refl
all_end BindingMore = refl
all_end BindingNext = refl
all_end ExpressionList = refl
all_end ExpressionListTail = refl
all_end ItemMore = refl
all_end ItemNext = refl
all_end Expression = refl
all_end ExpressionTail = refl
all_end OrTest = refl
all_end OrTail = refl
all_end OrMore = refl
all_end AndTest = refl
all_end AndTail = refl
all_end AndMore = refl
all_end NotTest = refl
all_end Comparison = refl
all_end ComparisonTail = refl
all_end ComparisonMore = refl
all_end ComparisonSign = refl
all_end IsTail = refl
all_end OrExpr = refl
all_end OrExprTail = refl
all_end XorExpr = refl
all_end XorExprTail = refl
all_end AndExpr = refl
all_end AndExprTail = refl
all_end ShiftExpr = refl
all_end ShiftTail = refl
all_end Sum = refl
all_end SumTail = refl
all_end Product = refl
all_end ProductTail = refl
all_end Factor = refl
all_end PowerExpr = refl
all_end PowerTail = refl
all_end Primary = refl
all_end PrimaryTail = refl
all_end AttributeTail = refl
all_end Subscription = refl
all_end SubscriptionTail = refl
all_end Upper = refl
all_end Arguments = refl
all_end ArgumentTail = refl
all_end KeywordNext = refl
all_end KeywordMore = refl
all_end PlainArguments = refl
all_end PlainArgumentTail = refl
all_end Atom = refl
all_end Parenthesised = refl
all_end ParenthesisedTail = refl
all_end Bracketed = refl
all_end BracketedTail = refl
all_end Braced = refl
all_end BracedTail = refl
all_end PairNext = refl
all_end PairMore = refl
all_end Comprehension = refl
all_end Conditions = refl
all_end Comprehensions = refl
all_end AnyName = refl

abbrev Narrows : Nonterminal → Row Nonterminal Action Parts → List Kind → Type 0
Narrows x r n = (v : Parts) (t : Takes x (entries_of v)) → allows r.guard v ≡ true → all_fit n t.front ≡ true

abbrev AreNarrow : Nonterminal → List (Row Nonterminal Action Parts) → List (List Kind) → Type 0
AreNarrow x [] ns = Unit {0}
AreNarrow x (r ∷ these) [] = Unit {0}
AreNarrow x (r ∷ these) (n ∷ ns) = Narrows x r n × AreNarrow x these ns

targets_known : (ks : List Kind) (v : Parts) (front below : List Entry) → entries_of v ≡ front ++ below → all_fit (AnExpr ∷ ks) front ≡ true → are_targets_last v ≡ true
    → all_fit (TargetsExpr ∷ ks) front ≡ true
targets_known ks v (entry (ExprShape f n) p ∷ front) below e h g = both _ (all_fit ks front) (sym (targets_of_entries v ∙ ap targets_last e) ∙ g) h
targets_known ks v front below e h g = absurd (cc)

target_known : (ks : List Kind) (v : Parts) (front below : List Entry) → entries_of v ≡ front ++ below → all_fit (AnExpr ∷ ks) front ≡ true → is_target_last v ≡ true
    → all_fit (ATarget ∷ ks) front ≡ true
target_known ks v (entry (ExprShape f n) p ∷ front) below e h g = both _ (all_fit ks front) (sym (target_of_entries v ∙ ap target_last e) ∙ g) h
target_known ks v front below e h g = absurd (cc)

name_known : (ks : List Kind) (v : Parts) (front below : List Entry) → entries_of v ≡ front ++ below → all_fit (AnExpr ∷ ks) front ≡ true → is_name_last v ≡ true
    → all_fit (ANameExpr ∷ ks) front ≡ true
name_known ks v (entry (ExprShape NameForm n) p ∷ front) below e h g = h
name_known ks v (entry (ExprShape f n) p ∷ front) below e h g = absurd (let no : false ≡ true = sym (name_of_entries v ∙ ap name_last e) ∙ g in cc)
name_known ks v front below e h g = absurd (cc)

a_target : (v : Parts) (t : Takes SmallTail (entries_of v)) → is_target_last v ≡ true → all_fit (ATarget ∷ []) t.front ≡ true
a_target v t g = target_known [] v t.front t.below t.parts t.fit g

are_narrow : (x : Nonterminal) → AreNarrow x (rows x) (narrowed x)
are_narrow SmallTail = (
  (λ v t g. t.fit),
  (
    (λ v t g. targets_known [] v t.front t.below t.parts t.fit g),
    (a_target, (a_target, (a_target, (a_target, (a_target, (a_target, (a_target, (a_target, (a_target, (a_target, (a_target, tt))))))))))),
  ),
)
are_narrow AssignTail = ((λ v t g. t.fit), ((λ v t g. targets_known (TheTargets ∷ []) v t.front t.below t.parts t.fit g), tt))
are_narrow ArgumentTail = ((λ v t g. t.fit), ((λ v t g. t.fit), ((λ v t g. name_known (ACall ∷ []) v t.front t.below t.parts t.fit g), tt)))
are_narrow x = tt

abbrev Starts : Nonterminal → Row Nonterminal Action Parts → Type 0
Starts x r = (n : List Kind) × Narrows x r n × (ends_in (behind r.symbols (Some n)) (gives x) ≡ true)

starts : (x : Nonterminal) (r : Row Nonterminal Action Parts) (these : List (Row Nonterminal Action Parts)) (ns : List (List Kind)) → rows_end x these ns ≡ true → AreNarrow x these ns → IsRow r these → Starts x r
starts x r [] ns h a i = absurd i
starts x r (q ∷ these) [] h a (inl e) = subst (Starts x) (sym e) (takes x, (λ v t g. t.fit), and_left _ (rows_end x these []) h)
starts x r (q ∷ these) [] h a (inr i) = starts x r these [] (and_right (ends_in (behind q.symbols (Some (takes x))) (gives x)) _ h) (none_narrow these) i
  where
    none_narrow : (these : List (Row Nonterminal Action Parts)) → AreNarrow x these []
    none_narrow [] = tt
    none_narrow (r ∷ these) = tt
starts x r (q ∷ these) (n ∷ ns) h a (inl e) = subst (Starts x) (sym e) (n, a.0, and_left _ (rows_end x these ns) h)
starts x r (q ∷ these) (n ∷ ns) h a (inr i) = starts x r these ns (and_right (ends_in (behind q.symbols (Some n)) (gives x)) _ h) a.1 i

all_gone : (es : List Entry) → all_fit [] es ≡ true → es ≡ []
all_gone [] h = refl
all_gone (e ∷ es) h = absurd (cc)

-- what was left is what is given
given : (ls ks : List Kind) (new below : List Entry) (F : List Entry → Type 0) → is_nothing (without ls ks) ≡ true → all_fit ks new ≡ true
    → ((front : List Entry) → all_fit ls front ≡ true → F (front ++ below)) → F (new ++ below)
given ls ks new below F h f next = go (without ls ks) refl h
  where
    go : (o : Option (List Kind)) → without ls ks ≡ o → is_nothing o ≡ true → F (new ++ below)
    go None e h = absurd (cc)
    go (Some []) e h =
        let s = split ls ks [] new e f in
        let whole : new ≡ s.front = s.parts ∙ ap (λ (r : List Entry). s.front ++ r) (all_gone s.rest s.others) ∙ append-nil s.front in
        subst (λ (l : List Entry). F (l ++ below)) (sym whole) (next s.front s.fit)
    go (Some (k ∷ r)) e h = absurd (cc)

-- a row that may be taken
pub row_fits : (x : Nonterminal) (r : Row Nonterminal Action Parts) (v : Parts) (symbols : List Symbol) → IsRow r (rows x) → allows r.guard v ≡ true → (t : Takes x (entries_of v))
    → ((new : List Entry) → all_fit (gives x) new ≡ true → Fit symbols (new ++ t.below)) → Fit (r.symbols ++ symbols) (entries_of v)
row_fits x r v symbols i a t next = begin (starts x r (rows x) (narrowed x) (all_end x) (are_narrow x) i)
  where
    begin : Starts x r → Fit (r.symbols ++ symbols) (entries_of v)
    begin s = go (behind r.symbols (Some s.0)) refl s.2
      where
        go : (o : Option (List Kind)) → behind r.symbols (Some s.0) ≡ o → ends_in o (gives x) ≡ true → Fit (r.symbols ++ symbols) (entries_of v)
        go None e h = absurd (cc)
        go (Some ks) e h =
            subst (Fit (r.symbols ++ symbols)) (sym t.parts)
            (fit_so r.symbols symbols s.0 ks t.front t.below e (s.1 v t a) (λ new f. given (gives x) ks new t.below (Fit symbols) h f next))
