-- Bodies and handlers, joined: what actions add one by one, behind what there is.
use Rattle.std.proofs.Common.{◌≡◌, refl, ap}
use Rattle.py_tokens.specs.Token.{Place}
use Rattle.py_syntax.specs.Tree.{Caught, Stmt, Body, no_stmts, more_stmts, Handlers, no_handlers, more_handlers}
use Rattle.py_syntax.specs.Build.{with_stmt, with_handler}

abbrev pub joined_bodies : Body → Body → Body
joined_bodies no_stmts b = b
joined_bodies (more_stmts t a) b = more_stmts t (joined_bodies a b)

pub joined_bodies_more : (a : Body) (t : Stmt) (b : Body) → joined_bodies (with_stmt a t) b ≡ joined_bodies a (more_stmts t b)
joined_bodies_more no_stmts t b = refl
joined_bodies_more (more_stmts u a) t b = ap (more_stmts u) (joined_bodies_more a t b)

pub joined_bodies_nothing : (a : Body) → joined_bodies a no_stmts ≡ a
joined_bodies_nothing no_stmts = refl
joined_bodies_nothing (more_stmts t a) = ap (more_stmts t) (joined_bodies_nothing a)

abbrev pub joined_handlers : Handlers → Handlers → Handlers
joined_handlers no_handlers b = b
joined_handlers (more_handlers p c body a) b = more_handlers p c body (joined_handlers a b)

pub joined_handlers_more : (a : Handlers) (p : Place) (c : Caught) (body : Body) (b : Handlers)
    → joined_handlers (with_handler a p c body) b ≡ joined_handlers a (more_handlers p c body b)
joined_handlers_more no_handlers p c body b = refl
joined_handlers_more (more_handlers q d e a) p c body b = ap (more_handlers q d e) (joined_handlers_more a p c body b)

pub joined_handlers_nothing : (a : Handlers) → joined_handlers a no_handlers ≡ a
joined_handlers_nothing no_handlers = refl
joined_handlers_nothing (more_handlers p c body a) = ap (more_handlers p c body) (joined_handlers_nothing a)
