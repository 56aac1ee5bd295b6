-- Lists of parts of a tree, one behind another.
use Rattle.std.proofs.Common.{◌≡◌, refl, ap}
use Rattle.py_tokens.specs.Token.{Place}
use Rattle.py_syntax.specs.Tree.{NameAt, ComparisonOperator, LoopTarget, Expr, Exprs, no_exprs, more_exprs, Pairs, no_pairs, more_pairs, Links, no_links, more_links, Keywords, no_keywords, more_keywords, Loops, no_loops, more_loops, Caught, Stmt, Body, no_stmts, more_stmts, Handlers, no_handlers, more_handlers}
use Rattle.py_syntax.specs.Build.{with_expr, with_pair, with_link, with_keyword, with_loop, with_stmt, with_handler}

abbrev pub exprs_together : Exprs → Exprs → Exprs
exprs_together no_exprs others = others
exprs_together (more_exprs first rest) others = more_exprs first (exprs_together rest others)

-- one more, and then the others
pub exprs_grow : (these : Exprs) (e : Expr) (others : Exprs) → exprs_together (with_expr these e) others ≡ exprs_together these (more_exprs e others)
exprs_grow no_exprs e others = refl
exprs_grow (more_exprs first rest) e others = ap (more_exprs first) (exprs_grow rest e others)

pub exprs_alone : (these : Exprs) → exprs_together these no_exprs ≡ these
exprs_alone no_exprs = refl
exprs_alone (more_exprs first rest) = ap (more_exprs first) (exprs_alone rest)

abbrev pub pairs_together : Pairs → Pairs → Pairs
pairs_together no_pairs others = others
pairs_together (more_pairs first f1 rest) others = more_pairs first f1 (pairs_together rest others)

-- one more, and then the others
pub pairs_grow : (these : Pairs) (k : Expr) (e : Expr) (others : Pairs) → pairs_together (with_pair these k e) others ≡ pairs_together these (more_pairs k e others)
pairs_grow no_pairs k e others = refl
pairs_grow (more_pairs first f1 rest) k e others = ap (more_pairs first f1) (pairs_grow rest k e others)

pub pairs_alone : (these : Pairs) → pairs_together these no_pairs ≡ these
pairs_alone no_pairs = refl
pairs_alone (more_pairs first f1 rest) = ap (more_pairs first f1) (pairs_alone rest)

abbrev pub links_together : Links → Links → Links
links_together no_links others = others
links_together (more_links first f1 f2 rest) others = more_links first f1 f2 (links_together rest others)

-- one more, and then the others
pub links_grow : (these : Links) (q : Place) (u : ComparisonOperator) (e : Expr) (others : Links) → links_together (with_link these q u e) others ≡ links_together these (more_links q u e others)
links_grow no_links q u e others = refl
links_grow (more_links first f1 f2 rest) q u e others = ap (more_links first f1 f2) (links_grow rest q u e others)

pub links_alone : (these : Links) → links_together these no_links ≡ these
links_alone no_links = refl
links_alone (more_links first f1 f2 rest) = ap (more_links first f1 f2) (links_alone rest)

abbrev pub keywords_together : Keywords → Keywords → Keywords
keywords_together no_keywords others = others
keywords_together (more_keywords first f1 rest) others = more_keywords first f1 (keywords_together rest others)

-- one more, and then the others
pub keywords_grow : (these : Keywords) (x : NameAt) (e : Expr) (others : Keywords) → keywords_together (with_keyword these x e) others ≡ keywords_together these (more_keywords x e others)
keywords_grow no_keywords x e others = refl
keywords_grow (more_keywords first f1 rest) x e others = ap (more_keywords first f1) (keywords_grow rest x e others)

pub keywords_alone : (these : Keywords) → keywords_together these no_keywords ≡ these
keywords_alone no_keywords = refl
keywords_alone (more_keywords first f1 rest) = ap (more_keywords first f1) (keywords_alone rest)

abbrev pub loops_together : Loops → Loops → Loops
loops_together no_loops others = others
loops_together (more_loops first f1 f2 f3 rest) others = more_loops first f1 f2 f3 (loops_together rest others)

-- one more, and then the others
pub loops_grow : (these : Loops) (q : Place) (t : LoopTarget) (i : Expr) (cs : Exprs) (others : Loops) → loops_together (with_loop these q t i cs) others ≡ loops_together these (more_loops q t i cs others)
loops_grow no_loops q t i cs others = refl
loops_grow (more_loops first f1 f2 f3 rest) q t i cs others = ap (more_loops first f1 f2 f3) (loops_grow rest q t i cs others)

pub loops_alone : (these : Loops) → loops_together these no_loops ≡ these
loops_alone no_loops = refl
loops_alone (more_loops first f1 f2 f3 rest) = ap (more_loops first f1 f2 f3) (loops_alone rest)

abbrev pub stmts_together : Body → Body → Body
stmts_together no_stmts others = others
stmts_together (more_stmts first rest) others = more_stmts first (stmts_together rest others)

-- one more, and then the others
pub stmts_grow : (these : Body) (s : Stmt) (others : Body) → stmts_together (with_stmt these s) others ≡ stmts_together these (more_stmts s others)
stmts_grow no_stmts s others = refl
stmts_grow (more_stmts first rest) s others = ap (more_stmts first) (stmts_grow rest s others)

pub stmts_alone : (these : Body) → stmts_together these no_stmts ≡ these
stmts_alone no_stmts = refl
stmts_alone (more_stmts first rest) = ap (more_stmts first) (stmts_alone rest)

abbrev pub handlers_together : Handlers → Handlers → Handlers
handlers_together no_handlers others = others
handlers_together (more_handlers first f1 f2 rest) others = more_handlers first f1 f2 (handlers_together rest others)

-- one more, and then the others
pub handlers_grow : (these : Handlers) (q : Place) (c : Caught) (b : Body) (others : Handlers) → handlers_together (with_handler these q c b) others ≡ handlers_together these (more_handlers q c b others)
handlers_grow no_handlers q c b others = refl
handlers_grow (more_handlers first f1 f2 rest) q c b others = ap (more_handlers first f1 f2) (handlers_grow rest q c b others)

pub handlers_alone : (these : Handlers) → handlers_together these no_handlers ≡ these
handlers_alone no_handlers = refl
handlers_alone (more_handlers first f1 f2 rest) = ap (more_handlers first f1 f2) (handlers_alone rest)
