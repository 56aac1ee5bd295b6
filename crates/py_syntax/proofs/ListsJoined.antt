-- Lists of parts of trees, joined: what actions add one by one, behind what there is.
use Rattle.std.proofs.Common.{◌≡◌, refl, sym, ap, ◌∙◌}
use Rattle.py_tokens.specs.Token.{Place}
use Rattle.py_syntax.specs.Tree.{NameAt, ComparisonOperator, LoopTarget, Expr, Exprs, no_exprs, more_exprs, Pairs, no_pairs, more_pairs, Links, no_links, more_links, Keywords, no_keywords, more_keywords, Loops, no_loops, more_loops}
use Rattle.py_syntax.specs.Build.{with_expr, with_pair, with_link, with_keyword, with_loop}

abbrev pub joined : Exprs → Exprs → Exprs
joined no_exprs b = b
joined (more_exprs e a) b = more_exprs e (joined a b)

pub joined_more : (a : Exprs) (e : Expr) (b : Exprs) → joined (with_expr a e) b ≡ joined a (more_exprs e b)
joined_more no_exprs e b = refl
joined_more (more_exprs f a) e b = ap (more_exprs f) (joined_more a e b)

pub joined_nothing : (a : Exprs) → joined a no_exprs ≡ a
joined_nothing no_exprs = refl
joined_nothing (more_exprs e a) = ap (more_exprs e) (joined_nothing a)

pub joined_last : (a : Exprs) (e : Expr) (b : Exprs) → b ≡ no_exprs → with_expr a e ≡ joined a (more_exprs e b)
joined_last a e no_exprs h = sym (joined_nothing (with_expr a e)) ∙ joined_more a e no_exprs
joined_last a e (more_exprs f b) h = absurd (cc)

abbrev pub joined_pairs : Pairs → Pairs → Pairs
joined_pairs no_pairs b = b
joined_pairs (more_pairs k e a) b = more_pairs k e (joined_pairs a b)

pub joined_pairs_more : (a : Pairs) (k e : Expr) (b : Pairs) → joined_pairs (with_pair a k e) b ≡ joined_pairs a (more_pairs k e b)
joined_pairs_more no_pairs k e b = refl
joined_pairs_more (more_pairs i f a) k e b = ap (more_pairs i f) (joined_pairs_more a k e b)

pub joined_pairs_nothing : (a : Pairs) → joined_pairs a no_pairs ≡ a
joined_pairs_nothing no_pairs = refl
joined_pairs_nothing (more_pairs k e a) = ap (more_pairs k e) (joined_pairs_nothing a)

abbrev pub joined_links : Links → Links → Links
joined_links no_links b = b
joined_links (more_links p o e a) b = more_links p o e (joined_links a b)

pub joined_links_more : (a : Links) (p : Place) (o : ComparisonOperator) (e : Expr) (b : Links)
    → joined_links (with_link a p o e) b ≡ joined_links a (more_links p o e b)
joined_links_more no_links p o e b = refl
joined_links_more (more_links q u f a) p o e b = ap (more_links q u f) (joined_links_more a p o e b)

pub joined_links_nothing : (a : Links) → joined_links a no_links ≡ a
joined_links_nothing no_links = refl
joined_links_nothing (more_links p o e a) = ap (more_links p o e) (joined_links_nothing a)

abbrev pub joined_keywords : Keywords → Keywords → Keywords
joined_keywords no_keywords b = b
joined_keywords (more_keywords x e a) b = more_keywords x e (joined_keywords a b)

pub joined_keywords_more : (a : Keywords) (x : NameAt) (e : Expr) (b : Keywords)
    → joined_keywords (with_keyword a x e) b ≡ joined_keywords a (more_keywords x e b)
joined_keywords_more no_keywords x e b = refl
joined_keywords_more (more_keywords z f a) x e b = ap (more_keywords z f) (joined_keywords_more a x e b)

pub joined_keywords_nothing : (a : Keywords) → joined_keywords a no_keywords ≡ a
joined_keywords_nothing no_keywords = refl
joined_keywords_nothing (more_keywords x e a) = ap (more_keywords x e) (joined_keywords_nothing a)

abbrev pub joined_loops : Loops → Loops → Loops
joined_loops no_loops b = b
joined_loops (more_loops p t i cs a) b = more_loops p t i cs (joined_loops a b)

pub joined_loops_more : (a : Loops) (p : Place) (t : LoopTarget) (i : Expr) (cs : Exprs) (b : Loops)
    → joined_loops (with_loop a p t i cs) b ≡ joined_loops a (more_loops p t i cs b)
joined_loops_more no_loops p t i cs b = refl
joined_loops_more (more_loops q u j ds a) p t i cs b = ap (more_loops q u j ds) (joined_loops_more a p t i cs b)

pub joined_loops_nothing : (a : Loops) → joined_loops a no_loops ≡ a
joined_loops_nothing no_loops = refl
joined_loops_nothing (more_loops p t i cs a) = ap (more_loops p t i cs) (joined_loops_nothing a)
