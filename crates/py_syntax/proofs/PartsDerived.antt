-- Parts of expressions that are lists, derived from the derivations of their members.
use Rattle.std.proofs.Common.{◌≡◌, ℕ, Bool, true, false, List, [], ◌∷◌, ◌++◌, codes, inl, inr, refl, sym, ap, ap₂}
use Rattle.std.proofs.lemmas.List.{append_assoc, append-nil}
use Rattle.grammars.specs.Grammar.{Tok, Non, Do}
use Rattle.grammars.specs.Derivation.{Yields}
use Rattle.py_tokens.specs.Token.{Place}
use Rattle.py_syntax.specs.Token.{Token}
use Rattle.py_syntax.specs.Kinds.{kind_of}
use Rattle.py_syntax.specs.Tree.{NameAt, ComparisonOperator, Less, Greater, LessOrEqual, GreaterOrEqual, Equal, NotEqual, In, NotIn, Is, IsNot, LoopTarget, LoopName, LoopNames, LoopParenthesis, Expr, EName, ETuple, EListComprehension, EDict, ESubscript, ECall, ESlice, ECompare, Exprs, no_exprs, more_exprs, MaybeExpr, no_expr, an_expr, Pairs, no_pairs, more_pairs, Links, no_links, more_links, Keywords, no_keywords, more_keywords, Loops, no_loops, more_loops}
use Rattle.py_syntax.specs.Build.{Parts, PToken, PExpr, PSign, PLoop, PLoopTarget, Action, act, with_expr, with_pair, with_link, with_keyword, with_loop, MakeTuple, AddCondition, AddArgument, Drop}
use Rattle.py_syntax.specs.Grammar.{word, sign, IsComparison, IsEndOrComma, AreNames, IsLoopTarget, is_attribute, IsExpr, AreItems, IsMaybe, ArePairs, AreLinks, AreChained, AreArguments, AreKeywords, AreLoops}
use Rattle.py_syntax.specs.Table.{Nonterminal, Expression, ItemMore, PairNext, ComparisonMore, ComparisonSign, Arguments, ArgumentTail, KeywordNext, PlainArguments, PlainArgumentTail, Comprehensions, Comprehension, Conditions, Binding, BindingMore, Upper, Atom, Symbol, the_comma, table}
use Rattle.py_syntax.proofs.TakenSteps.{take, read, perform, with_tokens, with_parts, read_name}
use Rattle.py_syntax.proofs.LevelsDerived.{Leads, whole, tail, behind_of, may_end, lowest, lower}
use Rattle.py_syntax.proofs.ListsJoined.{joined, joined_more, joined_nothing, joined_last, joined_pairs, joined_pairs_more, joined_pairs_nothing, joined_links, joined_links_more, joined_links_nothing, joined_keywords, joined_keywords_more, joined_keywords_nothing, joined_loops, joined_loops_more, joined_loops_nothing}

abbrev pub is_subscript : Expr → Bool
is_subscript (ESubscript p e i) = true
is_subscript e = false

-- what stands behind an expression at the tightest level, in `del` or elsewhere
abbrev pub behind : Bool → Expr → Nonterminal
behind deleted e = behind_of deleted (is_attribute e) (is_subscript e)

-- an expression at a level
abbrev pub Derived : ℕ → Expr → Type 0
Derived l e =
    (v : Parts) (ts rest : List Token) → IsExpr l e ts rest → Leads (Non (whole l) ∷ []) v ts (tail (behind false e) l) (PExpr e ∷ v) rest

-- one at the tightest level, in `del` or elsewhere
abbrev pub Postfix : Bool → Expr → Type 0
Postfix deleted e =
    (v : Parts) (ts rest : List Token) → IsExpr 14 e ts rest
    → Leads (Non Atom ∷ Non (behind_of deleted false false) ∷ []) v ts (Non (behind deleted e) ∷ []) (PExpr e ∷ v) rest

-- behind an expression there may come a comma, and then it is a tuple; `closers` come at last
abbrev pub IsCommaTail : Nonterminal → List Symbol → Type 0
IsCommaTail x closers =
    ((v : Parts) (ts : List Token) → Leads (Non x ∷ []) v ts closers v ts)
    × ((v : Parts) (ts : List Token) → Leads (Non x ∷ []) v ts (the_comma ∷ Do MakeTuple ∷ Non ItemMore ∷ closers) v ts)

-- one with commas or without, in front of such a tail
abbrev pub Listed : Expr → Type 0
Listed e =
    (x : Nonterminal) (closers : List Symbol) → IsCommaTail x closers → (v : Parts) (ts rest : List Token) → IsExpr 0 e ts rest
    → Leads (Non Expression ∷ Non x ∷ []) v ts closers (PExpr e ∷ v) rest

abbrev pub Everywhere : Expr → Type 0
Everywhere e = ((l : ℕ) → Derived l e) × ((deleted : Bool) → Postfix deleted e) × Listed e

abbrev pub EachExpr : Exprs → Type 0
EachExpr no_exprs = Unit {0}
EachExpr (more_exprs e es) = Everywhere e × EachExpr es

abbrev pub EachMaybe : MaybeExpr → Type 0
EachMaybe no_expr = Unit {0}
EachMaybe (an_expr e) = Everywhere e

abbrev pub EachPair : Pairs → Type 0
EachPair no_pairs = Unit {0}
EachPair (more_pairs k e pairs) = Everywhere k × Everywhere e × EachPair pairs

abbrev pub EachLink : Links → Type 0
EachLink no_links = Unit {0}
EachLink (more_links p o e links) = Everywhere e × EachLink links

abbrev pub EachKeyword : Keywords → Type 0
EachKeyword no_keywords = Unit {0}
EachKeyword (more_keywords x e ks) = Everywhere e × EachKeyword ks

abbrev pub EachLoop : Loops → Type 0
EachLoop no_loops = Unit {0}
EachLoop (more_loops p t i cs loops) = Everywhere i × EachExpr cs × EachLoop loops

-- a whole expression, behind which nothing of its level comes
pub complete : {e : Expr} {symbols : List Symbol} {v : Parts} {ts rest : List Token} {w : Parts} → Everywhere e → (l : ℕ) → IsExpr l e ts rest
    → Yields table symbols (PExpr e ∷ v) rest w → Yields table (Non (whole l) ∷ symbols) v ts w
complete {e} {symbols} {v} {ts} {rest} {w} a l h y =
    a.0 l v ts rest h symbols w (may_end (is_attribute e) (is_subscript e) l (PExpr e ∷ v) rest symbols w y)

pub items_derived : (es : Exprs) → EachExpr es → (p : Place) (done : Exprs) (v : Parts) (ts rest : List Token) → AreItems es ts rest
    → Leads (Non ItemMore ∷ []) (PExpr (ETuple p done) ∷ v) ts [] (PExpr (ETuple p (joined done es)) ∷ v) rest
items_derived no_exprs a p done v ts rest h s w y =
    take 0 refl (with_tokens h (with_parts (ap (λ (x : Exprs). PExpr (ETuple p x) ∷ v) (sym (joined_nothing done))) y))
items_derived (more_exprs e es) a p done v ts rest h s w y = take 1 refl (complete a.0 1 h.1 (perform (
    elim h.2 [
      | inl end ↦ take 0 refl (with_tokens end.1 (with_parts (ap (λ (x : Exprs). PExpr (ETuple p x) ∷ v) (joined_last done e es end.0)) y))
      | inr comma ↦ take 1 refl (read comma.2 (perform (items_derived es a.1 p (with_expr done e) v comma.1 rest comma.3 s w
          (with_parts (ap (λ (x : Exprs). PExpr (ETuple p x) ∷ v) (joined_more done e es)) y))))
    ])))

-- Further operands behind `and` or `or`, and conditions: `x` may end, or goes on with the word, one operand and the action,
-- which adds it to what `parts` has.
pub chain_derived : (x : Nonterminal) (spelling : List ℕ) (l : ℕ) (a : Action) (parts : Exprs → Parts)
    → ((v : Parts) (ts : List Token) → Leads (Non x ∷ []) v ts [] v ts)
    → ((p : Place) (v : Parts) (ts : List Token) → Leads (Non x ∷ []) v ts (Tok (kind_of (word p spelling)) ∷ Non (whole l) ∷ Do a ∷ Non x ∷ []) v ts)
    → ((t : Token) (done : Exprs) (e : Expr) → act a (PExpr e ∷ PToken t ∷ parts done) ≡ parts (with_expr done e))
    → (es : Exprs) → EachExpr es → (done : Exprs) (ts rest : List Token) → AreChained spelling l es ts rest
    → Leads (Non x ∷ []) (parts done) ts [] (parts (joined done es)) rest
chain_derived x spelling l a parts ends goes_on adds no_exprs each done ts rest h s w y =
    ends _ _ s w (with_tokens h (with_parts (ap parts (sym (joined_nothing done))) y))
chain_derived x spelling l a parts ends goes_on adds (more_exprs e es) each done ts rest h s w y =
    goes_on h.0 _ _ s w (read h.3 (complete each.0 l h.4 (perform (with_parts (adds (word h.0 spelling) done e)
    (chain_derived x spelling l a parts ends goes_on adds es each.1 (with_expr done e) h.2 rest h.5 s w
    (with_parts (ap parts (joined_more done e es)) y))))))

pub sign_derived : (o : ComparisonOperator) (p : Place) (v : Parts) (ts rest : List Token) → IsComparison p o ts rest
    → Leads (Non ComparisonSign ∷ []) v ts [] (PSign p o ∷ v) rest
sign_derived Less p v ts rest h s w y = take 0 refl (read h (perform y))
sign_derived Greater p v ts rest h s w y = take 1 refl (read h (perform y))
sign_derived LessOrEqual p v ts rest h s w y = take 2 refl (read h (perform y))
sign_derived GreaterOrEqual p v ts rest h s w y = take 3 refl (read h (perform y))
sign_derived Equal p v ts rest h s w y = take 4 refl (read h (perform y))
sign_derived NotEqual p v ts rest h s w y = take 5 refl (read h (perform y))
sign_derived In p v ts rest h s w y = take 6 refl (read h (perform y))
sign_derived NotIn p v ts rest h s w y = take 7 refl (read h.1 (read refl (perform y)))
sign_derived Is p v ts rest h s w y = take 8 refl (read h (take 0 refl (perform y)))
sign_derived IsNot p v ts rest h s w y = take 8 refl (read h.1 (take 1 refl (read {t = word h.0 (codes "not")} refl (perform y))))

pub links_derived : (links : Links) → EachLink links → (p : Place) (o : ComparisonOperator) (a b : Expr) (done : Links) (v : Parts)
    (ts rest : List Token) → AreLinks links ts rest
    → Leads (Non ComparisonMore ∷ []) (PExpr (ECompare p o a b done) ∷ v) ts [] (PExpr (ECompare p o a b (joined_links done links)) ∷ v) rest
links_derived no_links each p o a b done v ts rest h s w y =
    take 0 refl (with_tokens h (with_parts (ap (λ (x : Links). PExpr (ECompare p o a b x) ∷ v) (sym (joined_links_nothing done))) y))
links_derived (more_links q u e links) each p o a b done v ts rest h s w y =
    take 1 refl (sign_derived u q _ ts h.0 h.2 _ w (complete each.0 6 h.3 (perform
    (links_derived links each.1 p o a b (with_link done q u e) v h.1 rest h.4 s w
    (with_parts (ap (λ (x : Links). PExpr (ECompare p o a b x) ∷ v) (joined_links_more done q u e links)) y)))))

-- behind a pair
pub pairs_derived : (pairs : Pairs) → EachPair pairs → (p : Place) (done : Pairs) (v : Parts) (ts rest : List Token)
    → IsEndOrComma (pairs ≡ no_pairs) (ArePairs pairs) ts rest
    → Leads (Non PairNext ∷ []) (PExpr (EDict p done) ∷ v) ts [] (PExpr (EDict p (joined_pairs done pairs)) ∷ v) rest
pairs_derived no_pairs each p done v ts rest h s w y =
    let nothing_more : Yields table s (PExpr (EDict p done) ∷ v) rest w
    = with_parts (ap (λ (x : Pairs). PExpr (EDict p x) ∷ v) (sym (joined_pairs_nothing done))) y in
    elim h [
      | inl end ↦ take 0 refl (with_tokens end.1 nothing_more)
      | inr comma ↦ take 1 refl (read comma.2 (perform (take 0 refl (with_tokens comma.3 nothing_more))))
    ]
pairs_derived (more_pairs k e pairs) each p done v ts rest h s w y = elim h [
  | inl end ↦ let none : more_pairs k e pairs ≡ no_pairs = end.0 in absurd (cc)
  | inr comma ↦ let more : ArePairs (more_pairs k e pairs) comma.1 rest = comma.3 in
      take 1 refl (read comma.2 (perform (take 1 refl (complete each.0 1 more.3 (read refl (complete each.1 1 more.4 (perform
      (pairs_derived pairs each.2 p (with_pair done k e) v more.2 rest more.5 s w
      (with_parts (ap (λ (x : Pairs). PExpr (EDict p x) ∷ v) (joined_pairs_more done k e pairs)) y)))))))))
]

pub names_derived : (names : List NameAt) (p : Place) (done : List NameAt) (v : Parts) (ts rest : List Token) → AreNames names ts rest
    → Leads (Non BindingMore ∷ []) (PLoopTarget (LoopNames p done) ∷ v) ts [] (PLoopTarget (LoopNames p (done ++ names)) ∷ v) rest
names_derived [] p done v ts rest h s w y = take 0 refl (with_tokens h (with_parts (ap (λ (x : List NameAt). PLoopTarget (LoopNames p x) ∷ v) (sym (append-nil done))) y))
names_derived (x ∷ names) p done v ts rest h s w y = take 1 refl (read_name h.1 (perform (
    elim h.2 [
      | inl end ↦ take 0 refl (with_tokens end.1 (with_parts (ap (λ (z : List NameAt). PLoopTarget (LoopNames p (done ++ x ∷ z)) ∷ v) (sym end.0)) y))
      | inr comma ↦ take 1 refl (read comma.2 (perform (names_derived names p (done ++ x ∷ []) v comma.1 rest comma.3 s w
          (with_parts (ap (λ (z : List NameAt). PLoopTarget (LoopNames p z) ∷ v) (append_assoc done (x ∷ []) names)) y))))
    ])))

pub binding_derived : (t : LoopTarget) (v : Parts) (ts rest : List Token) → IsLoopTarget t ts rest
    → Leads (Non Binding ∷ []) v ts [] (PLoopTarget t ∷ v) rest
binding_derived (LoopName x) v ts rest h s w y = take 0 refl (read_name h (perform (take 0 refl y)))
binding_derived (LoopNames p []) v ts rest h s w y = absurd h
binding_derived (LoopNames p (x ∷ names)) v ts rest h s w y =
    take 0 refl (read_name h.1 (perform (take 1 refl (read {t = sign p (codes ",")} refl (perform (names_derived names p (x ∷ []) v h.0 rest h.2 s w y))))))
binding_derived (LoopParenthesis p t) v ts rest h s w y =
    take 1 refl (read h.2 (binding_derived t _ h.1 _ h.3 _ w (read refl (perform y))))

-- the loops of a comprehension
loop_derived : (p : Place) (t : LoopTarget) (i : Expr) (cs : Exprs) → Everywhere i → EachExpr cs → (v : Parts) (ts rest a b c : List Token) (q : Place)
    → ts ≡ word p (codes "for") ∷ a → IsLoopTarget t a (word q (codes "in") ∷ b) → IsExpr 2 i b c → AreChained (codes "if") 2 cs c rest
    → (e : Expr) (r : Place) (done : Loops)
    → Leads (Non Comprehension ∷ []) (PExpr (EListComprehension r e done) ∷ v) ts [] (PExpr (EListComprehension r e (with_loop done p t i cs)) ∷ v) rest
loop_derived p t i cs each_i each_c v ts rest a b c q begins target iterable conditions e r done s w y =
    take 0 refl (read begins (binding_derived t _ a _ target _ w (read refl (complete each_i 2 iterable (perform
    (chain_derived Conditions (codes "if") 2 AddCondition (λ x. PLoop p t i x ∷ PExpr (EListComprehension r e done) ∷ v)
    (λ v ts s w y. take 0 refl y) (λ p v ts s w y. take 1 refl y) (λ t done e. refl)
    cs each_c no_exprs c rest conditions _ w (perform y)))))))

pub loops_derived : (loops : Loops) → EachLoop loops → (e : Expr) (r : Place) (done : Loops) (v : Parts) (ts rest : List Token) → AreLoops loops ts rest
    → Leads (Non Comprehensions ∷ []) (PExpr (EListComprehension r e done) ∷ v) ts [] (PExpr (EListComprehension r e (joined_loops done loops)) ∷ v) rest
loops_derived no_loops each e r done v ts rest h s w y =
    take 0 refl (with_tokens h (with_parts (ap (λ (x : Loops). PExpr (EListComprehension r e x) ∷ v) (sym (joined_loops_nothing done))) y))
loops_derived (more_loops p t i cs loops) each e r done v ts rest h s w y =
    take 1 refl (loop_derived p t i cs each.0 each.1 v ts h.4 h.1 h.2 h.3 h.0 h.5 h.6 h.7 h.8 e r done _ w
    (loops_derived loops each.2 e r (with_loop done p t i cs) v h.4 rest h.9 s w
    (with_parts (ap (λ (x : Loops). PExpr (EListComprehension r e x) ∷ v) (joined_loops_more done p t i cs loops)) y)))

-- the first of some loops, and the others
pub comprehension_derived : (p : Place) (t : LoopTarget) (i : Expr) (cs : Exprs) (loops : Loops) → EachLoop (more_loops p t i cs loops)
    → (e : Expr) (r : Place) (v : Parts) (ts rest : List Token) → AreLoops (more_loops p t i cs loops) ts rest
    → Leads (Non Comprehension ∷ Non Comprehensions ∷ []) (PExpr (EListComprehension r e no_loops) ∷ v) ts []
    (PExpr (EListComprehension r e (more_loops p t i cs loops)) ∷ v) rest
comprehension_derived p t i cs loops each e r v ts rest h s w y =
    loop_derived p t i cs each.0 each.1 v ts h.4 h.1 h.2 h.3 h.0 h.5 h.6 h.7 h.8 e r no_loops _ w
    (loops_derived loops each.2 e r (more_loops p t i cs no_loops) v h.4 rest h.9 s w y)

-- behind a keyword argument
pub keywords_derived : (ks : Keywords) → EachKeyword ks → (p : Place) (f : Expr) (es : Exprs) (done : Keywords) (v : Parts) (ts rest : List Token)
    → IsEndOrComma (ks ≡ no_keywords) (AreKeywords false ks) ts rest
    → Leads (Non KeywordNext ∷ []) (PExpr (ECall p f es done) ∷ v) ts [] (PExpr (ECall p f es (joined_keywords done ks)) ∷ v) rest
keywords_derived no_keywords each p f es done v ts rest h s w y =
    let nothing_more : Yields table s (PExpr (ECall p f es done) ∷ v) rest w
    = with_parts (ap (λ (x : Keywords). PExpr (ECall p f es x) ∷ v) (sym (joined_keywords_nothing done))) y in
    elim h [
      | inl end ↦ take 0 refl (with_tokens end.1 nothing_more)
      | inr comma ↦ take 1 refl (read comma.2 (perform (take 0 refl (with_tokens comma.3 nothing_more))))
    ]
keywords_derived (more_keywords x e ks) each p f es done v ts rest h s w y = elim h [
  | inl end ↦ let none : more_keywords x e ks ≡ no_keywords = end.0 in absurd (cc)
  | inr comma ↦ let more : AreKeywords false (more_keywords x e ks) comma.1 rest = comma.3 in
      take 1 refl (read comma.2 (perform (take 1 refl (read_name more.4 (perform (read refl (complete each.0 1 more.5 (perform
      (keywords_derived ks each.1 p f es (with_keyword done x e) v more.3 rest more.6 s w
      (with_parts (ap (λ (x : Keywords). PExpr (ECall p f es x) ∷ v) (joined_keywords_more done x e ks)) y))))))))))
]

-- Arguments of a call, where there may be keyword arguments among them, or none behind an attribute.
abbrev pub arguments : Bool → Nonterminal
arguments true = PlainArguments
arguments false = Arguments

abbrev argument_tail : Bool → Nonterminal
argument_tail true = PlainArgumentTail
argument_tail false = ArgumentTail

no_more : (plain : Bool) (v : Parts) (ts : List Token) → Leads (Non (arguments plain) ∷ []) v ts [] v ts
no_more true v ts s w y = take 0 refl y
no_more false v ts s w y = take 0 refl y

one_more : (plain : Bool) (v : Parts) (ts : List Token) → Leads (Non (arguments plain) ∷ []) v ts (Non Expression ∷ Non (argument_tail plain) ∷ []) v ts
one_more true v ts s w y = take 1 refl y
one_more false v ts s w y = take 1 refl y

the_last : (plain : Bool) (v : Parts) (ts : List Token) → Leads (Non (argument_tail plain) ∷ []) v ts (Do AddArgument ∷ []) v ts
the_last true v ts s w y = take 0 refl y
the_last false v ts s w y = take 0 refl y

with_comma : (plain : Bool) (v : Parts) (ts : List Token)
    → Leads (Non (argument_tail plain) ∷ []) v ts (the_comma ∷ Do Drop ∷ Do AddArgument ∷ Non (arguments plain) ∷ []) v ts
with_comma true v ts s w y = take 1 refl y
with_comma false v ts s w y = take 1 refl y

-- keyword arguments behind the others, or alone
first_keyword : (plain : Bool) (ks : Keywords) → EachKeyword ks → (p : Place) (f : Expr) (es : Exprs) (v : Parts) (ts rest : List Token)
    → AreKeywords plain ks ts rest
    → Leads (Non (arguments plain) ∷ []) (PExpr (ECall p f es no_keywords) ∷ v) ts [] (PExpr (ECall p f es ks) ∷ v) rest
first_keyword plain no_keywords each p f es v ts rest h s w y = no_more plain _ ts s w (with_tokens h y)
first_keyword true (more_keywords x e ks) each p f es v ts rest h s w y = let none : true ≡ false = h.0 in absurd (cc)
first_keyword false (more_keywords x e ks) each p f es v ts rest h s w y =
    one_more false _ ts s w (lowest false false 1 _ (PExpr (EName x.place x.name) ∷ PExpr (ECall p f es no_keywords) ∷ v) ts _
    (λ s w y. take 0 refl (take 0 refl (read_name h.4 (perform y)))) _ w
    (take 2 refl (read {t = sign h.1 (codes "=")} refl (complete each.0 1 h.5 (perform
    (keywords_derived ks each.1 p f es (more_keywords x e no_keywords) v h.3 rest h.6 s w y))))))

pub arguments_derived : (plain : Bool) (ks : Keywords) → EachKeyword ks → (es : Exprs) → EachExpr es
    → (p : Place) (f : Expr) (done : Exprs) (v : Parts) (ts rest : List Token)
    → AreArguments es (ks ≡ no_keywords) (AreKeywords plain ks) ts rest
    → Leads (Non (arguments plain) ∷ []) (PExpr (ECall p f done no_keywords) ∷ v) ts [] (PExpr (ECall p f (joined done es) ks) ∷ v) rest
arguments_derived plain ks each_k no_exprs each p f done v ts rest h s w y =
    first_keyword plain ks each_k p f done v ts rest h s w (with_parts (ap (λ (x : Exprs). PExpr (ECall p f x ks) ∷ v) (sym (joined_nothing done))) y)
arguments_derived plain ks each_k (more_exprs e es) each p f done v ts rest h s w y =
    one_more plain _ ts s w (complete each.0 1 h.1 (
    elim h.2 [
      | inl end ↦ the_last plain _ _ s w (perform (with_tokens end.1
          (with_parts (ap₂ (λ (x : Exprs) (z : Keywords). PExpr (ECall p f x z) ∷ v) (joined_last done e es end.0.0) (sym end.0.1)) y)))
      | inr comma ↦ with_comma plain _ _ s w (read comma.2 (perform (perform
          (arguments_derived plain ks each_k es each.1 p f (with_expr done e) v comma.1 rest comma.3 s w
          (with_parts (ap (λ (x : Exprs). PExpr (ECall p f x ks) ∷ v) (joined_more done e es)) y)))))
    ]))

-- the upper bound of a slice, if there is one, and its bracket
pub upper_derived : (upper : MaybeExpr) → EachMaybe upper → (q p : Place) (e : Expr) (lower : MaybeExpr) (v : Parts) (ts rest : List Token)
    → IsMaybe upper ts (sign q (codes "]") ∷ rest)
    → Leads (Non Upper ∷ []) (PExpr (ESlice p e lower no_expr) ∷ v) ts [] (PExpr (ESlice p e lower upper) ∷ v) rest
upper_derived no_expr each q p e lower v ts rest h s w y = take 0 refl (read h (perform y))
upper_derived (an_expr u) each q p e lower v ts rest h s w y =
    take 1 refl (complete each 1 h (read refl (perform y)))
