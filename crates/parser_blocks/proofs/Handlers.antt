-- One more handler, by what it catches.
use Rattle.std.proofs.Common.{◌≡◌, ℕ, Bool, List, [], ◌∷◌, ◌++◌, Some, None, refl}
use Rattle.py_syntax.specs.Token.{At, TName}
use Rattle.py_syntax.specs.Token as meaning_token
use Rattle.py_syntax.specs.Tree as meaning
use Rattle.py_syntax.specs.Build.{Parts, PToken, PClass, PStmt, PBody, with_handler, catch_all, catch, catch_as}
use Rattle.py_lexer.specs.PlainTokens.{plain_place}
use Rattle.py_ast.specs.PlainExprs.{plain_name}
use Rattle.py_table.specs.PlainTokens.{plain_token}
use Rattle.py_ast.specs.PlainTrees.{plain_class, plain_stmt, plain_stmt-Try, plain_body, plain_handlers}
use Rattle.py_ast.proofs.Pushes.{plain_handlers-push}
use Rattle.shed_base.specs.declared.place.Place.{Place}
use Rattle.py_lexer.specs.declared.token.Token.{Token}
use Rattle.py_ast.specs.declared.tree.NameAt.{NameAt}
use Rattle.py_ast.specs.declared.tree.ClassName.{ClassName}
use Rattle.py_ast.specs.declared.tree.Caught.{Caught}
use Rattle.py_ast.specs.declared.tree.Caught.TheVariants as caught
use Rattle.py_ast.specs.declared.tree.Stmt.{Stmt}
use Rattle.py_ast.specs.declared.tree.Stmt.TheVariants as stmt

plain_handlers-everything : (hs : List (Place × Caught × List Stmt)) (p : Place) (b : List Stmt)
    → plain_handlers (hs ++ (p, caught.Everything, b) ∷ []) ≡ with_handler (plain_handlers hs) (plain_place p) meaning.Everything (plain_body b)
plain_handlers-everything hs p b = plain_handlers-push hs (p, caught.Everything, b)

plain_handlers-class : (hs : List (Place × Caught × List Stmt)) (p : Place) (c : ClassName) (b : List Stmt)
    → plain_handlers (hs ++ (p, caught.Exceptions c None, b) ∷ []) ≡ with_handler (plain_handlers hs) (plain_place p) (meaning.Exceptions (plain_class c) None) (plain_body b)
plain_handlers-class hs p c b = plain_handlers-push hs (p, caught.Exceptions c None, b)

plain_handlers-named : (hs : List (Place × Caught × List Stmt)) (p : Place) (c : ClassName) (x : NameAt) (b : List Stmt)
    → plain_handlers (hs ++ (p, caught.Exceptions c (Some x), b) ∷ []) ≡ with_handler (plain_handlers hs) (plain_place p) (meaning.Exceptions (plain_class c) (Some (plain_name x))) (plain_body b)
plain_handlers-named hs p c x b = plain_handlers-push hs (p, caught.Exceptions c (Some x), b)

pub everything_caught : (u v w x y : Parts) (texts : List (List ℕ)) (body tried : List Stmt) (colon : meaning_token.Token) (word : Token) (s : Stmt) (p : Place)
    (before after : List (Place × Caught × List Stmt))
    → u ≡ PBody (plain_body body) ∷ v → v ≡ PToken colon ∷ w → w ≡ PToken (plain_token texts word) ∷ x → x ≡ PStmt (plain_stmt s) ∷ y
    → s ≡ stmt.Try p tried before → after ≡ before ++ (word.place, caught.Everything, body) ∷ []
    → PStmt (plain_stmt (stmt.Try p tried after)) ∷ y ≡ catch_all u
everything_caught u v w x y texts body tried colon word s p before after e₁ e₂ e₃ e₄ is_try more =
    rw (e₁, e₂, e₃, e₄, is_try, plain_stmt-Try p tried before, plain_stmt-Try p tried after, more, plain_handlers-everything) refl

pub class_caught : (u v w x y z : Parts) (texts : List (List ℕ)) (body tried : List Stmt) (colon : meaning_token.Token) (c : ClassName) (word : Token) (s : Stmt) (p : Place)
    (before after : List (Place × Caught × List Stmt))
    → u ≡ PBody (plain_body body) ∷ v → v ≡ PToken colon ∷ w → w ≡ PClass (plain_class c) ∷ x → x ≡ PToken (plain_token texts word) ∷ y → y ≡ PStmt (plain_stmt s) ∷ z
    → s ≡ stmt.Try p tried before → after ≡ before ++ (word.place, caught.Exceptions c None, body) ∷ []
    → PStmt (plain_stmt (stmt.Try p tried after)) ∷ z ≡ catch u
class_caught u v w x y z texts body tried colon c word s p before after e₁ e₂ e₃ e₄ e₅ is_try more =
    rw (e₁, e₂, e₃, e₄, e₅, is_try, plain_stmt-Try p tried before, plain_stmt-Try p tried after, more, plain_handlers-class) refl

pub named_caught : (u v w x y z u' v' : Parts) (texts : List (List ℕ)) (body tried : List Stmt) (colon as_word : meaning_token.Token) (name : NameAt) (ascii : Bool) (c : ClassName)
    (word : Token) (s : Stmt) (p : Place) (before after : List (Place × Caught × List Stmt))
    → u ≡ PBody (plain_body body) ∷ v → v ≡ PToken colon ∷ w → w ≡ PToken (At (plain_place name.place) (TName ascii name.name.0)) ∷ x → x ≡ PToken as_word ∷ y
    → y ≡ PClass (plain_class c) ∷ z → z ≡ PToken (plain_token texts word) ∷ u' → u' ≡ PStmt (plain_stmt s) ∷ v'
    → s ≡ stmt.Try p tried before → after ≡ before ++ (word.place, caught.Exceptions c (Some name), body) ∷ []
    → PStmt (plain_stmt (stmt.Try p tried after)) ∷ v' ≡ catch_as u
named_caught u v w x y z u' v' texts body tried colon as_word name ascii c word s p before after e₁ e₂ e₃ e₄ e₅ e₆ e₇ is_try more =
    rw (e₁, e₂, e₃, e₄, e₅, e₆, e₇, is_try, plain_stmt-Try p tried before, plain_stmt-Try p tried after, more, plain_handlers-named) refl
