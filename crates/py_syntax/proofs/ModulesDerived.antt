-- The table derives what tokens spell as a module: definitions, classes, imports, and the whole.
use Rattle.std.proofs.Common.{◌≡◌, Bool, true, false, List, [], ◌∷◌, ◌++◌, codes, Option, Some, None, ◌⊎◌, inl, inr, refl, sym, ap}
use Rattle.std.proofs.lemmas.List.{append_assoc, append-nil}
use Rattle.grammars.specs.Grammar.{Non, Do}
use Rattle.grammars.specs.Derivation.{Yields}
use Rattle.grammars.proofs.Steps.{by_nothing}
use Rattle.py_tokens.specs.Token.{Place}
use Rattle.py_syntax.specs.Token.{TName, TNewline, TIndent, TDedent, Token, At}
use Rattle.py_syntax.specs.Tree.{NameAt, EText, MaybeExpr, no_expr, an_expr, ClassName, Imported, Parameter, Stmt, SExpr, SPass, SDef, SClass, SImport, SFromImport, Body, no_stmts, more_stmts}
use Rattle.py_syntax.specs.Build.{Parts, PToken, PStmt, PBody, with_stmt, with_imported, Drop}
use Rattle.py_syntax.specs.Grammar.{sign, word, IsName, IsAlias, IsModuleName, AreImported, IsBase, IsDefault, IsParameter, AreParameters, IsDefinition, IsBrief, AreMembers, IsClassSuite, IsClass, IsImport, IsTopLevel, AreTopLevel, IsModule}
use Rattle.py_syntax.specs.Table.{Nonterminal, Module, TopStatement, Definition, ParameterList, ParameterItem, ClassDefinition, ClassBase, ClassSuite, Member, Members, Brief, ImportStatement, ImportItem, ImportAlias, ImportNext, FromItem, FromNext, the_comma, table}
use Rattle.py_syntax.specs.Laws.{goal, start, finished}
use Rattle.py_syntax.proofs.TakenSteps.{take, read, perform, with_tokens, with_parts, read_name}
use Rattle.py_syntax.proofs.LevelsDerived.{Leads}
use Rattle.py_syntax.proofs.ExpressionsDerived.{spelt}
use Rattle.py_syntax.proofs.BodiesJoined.{joined_bodies, joined_bodies_more, joined_bodies_nothing}
use Rattle.py_syntax.proofs.StatementsDerived.{standing, among_derived, suite_derived, class_name_derived, stmt_derived, each_stmt}

parameter_derived : (x : NameAt) (default : MaybeExpr) (p : Place) (f : NameAt) (done : List Parameter) (v : Parts) (ts mid rest : List Token)
    → IsName x ts mid → IsDefault default mid rest
    → Leads (Non ParameterItem ∷ []) (PStmt (SDef p f done no_stmts) ∷ v) ts
    [] (PStmt (SDef p f (done ++ record { name = x; default = default } ∷ []) no_stmts) ∷ v) rest
parameter_derived x no_expr p f done v ts mid rest h d s w y = take 0 refl (read_name h (take 0 refl (perform (with_tokens d y))))
parameter_derived x (an_expr e) p f done v ts mid rest h d s w y = take 0 refl (read_name h (take 1 refl (read d.2 (spelt {e = e} 1 d.3 (perform y)))))

parameters_derived : (xs : List Parameter) (p : Place) (f : NameAt) (done : List Parameter) (v : Parts) (ts rest : List Token) → AreParameters xs ts rest
    → Leads (Non ParameterList ∷ []) (PStmt (SDef p f done no_stmts) ∷ v) ts [] (PStmt (SDef p f (done ++ xs) no_stmts) ∷ v) rest
parameters_derived [] p f done v ts rest h s w y =
    take 0 refl (with_tokens h (with_parts (ap (λ (z : List Parameter). PStmt (SDef p f z no_stmts) ∷ v) (sym (append-nil done))) y))
parameters_derived (x ∷ xs) p f done v ts rest h s w y =
    let first : IsParameter x ts h.0 = h.1 in
    take 1 refl (parameter_derived x.name x.default p f done v ts first.0 h.0 first.1 first.2 _ w (
    elim h.2 [
      | inl end ↦ take 0 refl (with_tokens end.1
          (with_parts (ap (λ (z : List Parameter). PStmt (SDef p f (done ++ x ∷ z) no_stmts) ∷ v) (sym end.0)) y))
      | inr comma ↦ take 1 refl (read comma.2 (perform (parameters_derived xs p f (done ++ x ∷ []) v comma.1 rest comma.3 s w
          (with_parts (ap (λ (z : List Parameter). PStmt (SDef p f z no_stmts) ∷ v) (append_assoc done (x ∷ []) xs)) y))))
    ]))

definition_derived : (t : Stmt) (v : Parts) (ts rest : List Token) → IsDefinition t ts rest → Leads (Non Definition ∷ []) v ts [] (PStmt t ∷ v) rest
definition_derived (SDef p x xs body) v ts rest h s w y =
    take 0 refl (read h.6 (read_name h.7 (read {t = sign h.0 (codes "(")} refl (perform (parameters_derived xs p x [] v h.4 _ h.8 _ w (
    read {t = sign h.1 (codes ")")} refl (read {t = sign h.2 (codes ":")} refl (suite_derived body (each_stmt body) _ h.5 rest h.9 _ w (perform y)))))))))
definition_derived t v ts rest h s w y = absurd h

brief_derived : (t : Stmt) (done : Body) (v : Parts) (ts rest : List Token) → IsBrief t ts rest
    → Leads (Non Brief ∷ []) (PBody done ∷ v) ts [] (PBody (with_stmt done t) ∷ v) rest
brief_derived (SPass p) done v ts rest h s w y = take 0 refl (read h.1 (perform (perform (read {t = At h.0 TNewline} refl (perform y)))))
brief_derived (SExpr p (EText q t)) done v ts rest h s w y = take 1 refl (read h.2 (perform (perform (perform (read {t = At h.1 TNewline} refl (perform (
    with_parts (ap (λ (z : Place). PBody (with_stmt done (SExpr p (EText z t))) ∷ v) h.0) y)))))))
brief_derived t done v ts rest h s w y = absurd h

member_derived : (t : Stmt) (done : Body) (v : Parts) (ts mid : List Token) → IsBrief t ts mid ⊎ IsDefinition t ts mid
    → Leads (Non Member ∷ []) (PBody done ∷ v) ts [] (PBody (with_stmt done t) ∷ v) mid
member_derived t done v ts mid h s w y = elim h [
  | inl brief ↦ take 0 refl (brief_derived t done v ts mid brief s w y)
  | inr definition ↦ take 1 refl (definition_derived t _ ts mid definition _ w (perform y))
]

members_derived : (body : Body) (done : Body) (v : Parts) (ts rest : List Token) → AreMembers body ts rest
    → Leads (Non Members ∷ []) (PBody done ∷ v) ts [] (PBody (joined_bodies done body) ∷ v) rest
members_derived no_stmts done v ts rest h s w y =
    take 1 refl (with_tokens h (with_parts (ap (λ (x : Body). PBody x ∷ v) (sym (joined_bodies_nothing done))) y))
members_derived (more_stmts t body) done v ts rest h s w y =
    take 0 refl (member_derived t done v ts h.0 h.1 _ w (members_derived body (with_stmt done t) v h.0 rest h.2 s w
    (with_parts (ap (λ (x : Body). PBody x ∷ v) (joined_bodies_more done t body)) y)))

class_suite_derived : (body : Body) (v : Parts) (ts rest : List Token) → IsClassSuite body ts rest
    → Leads (Non ClassSuite ∷ []) v ts [] (PBody body ∷ v) rest
class_suite_derived no_stmts v ts rest h s w y = absurd h
class_suite_derived (more_stmts t body) v ts rest h s w y = elim h [
  | inl brief ↦ take 0 refl (perform (brief_derived t no_stmts v ts rest brief.1 s w
      (with_parts (ap (λ (x : Body). PBody (more_stmts t x) ∷ v) (sym brief.0)) y)))
  | inr block ↦
      let members : AreMembers (more_stmts t body) block.3 (At block.2 TDedent ∷ rest) = block.5 in
      take 1 refl (read block.4 (perform (read {t = At block.1 TIndent} refl (perform (perform (
      member_derived t no_stmts v block.3 members.0 members.1 _ w (members_derived body (more_stmts t no_stmts) v members.0 _ members.2 _ w (
      read {t = At block.2 TDedent} refl (perform y)))))))))
]

base_derived : (base : Option ClassName) (p : Place) (x : NameAt) (v : Parts) (ts rest : List Token) → IsBase base ts rest
    → Leads (Non ClassBase ∷ []) (PStmt (SClass p x None no_stmts) ∷ v) ts [] (PStmt (SClass p x base no_stmts) ∷ v) rest
base_derived None p x v ts rest h s w y = elim h [
  | inl none ↦ take 0 refl (with_tokens none y)
  | inr brackets ↦ take 1 refl (read brackets.2 (take 0 refl (read {t = sign brackets.1 (codes ")")} refl (perform (perform y)))))
]
base_derived (Some c) p x v ts rest h s w y =
    take 1 refl (read h.3 (take 1 refl (class_name_derived c _ h.2 _ h.4 _ w (read {t = sign h.1 (codes ")")} refl (perform y)))))

class_derived : (t : Stmt) (v : Parts) (ts rest : List Token) → IsClass t ts rest → Leads (Non ClassDefinition ∷ []) v ts [] (PStmt t ∷ v) rest
class_derived (SClass p x base body) v ts rest h s w y =
    take 0 refl (read h.4 (read_name h.5 (perform (base_derived base p x v h.2 _ h.6 _ w (read {t = sign h.0 (codes ":")} refl (
    class_suite_derived body _ h.3 rest h.7 _ w (perform y)))))))
class_derived t v ts rest h s w y = absurd h

-- what an imported name is called
alias_derived : (x : NameAt) (ascii : Bool) (alias : Option NameAt) (t : Stmt) (v : Parts) (ts rest : List Token) → IsAlias alias ts rest
    → Leads (Non ImportAlias ∷ []) (PToken (At x.place (TName ascii x.name)) ∷ PStmt t ∷ v) ts
    [] (PStmt (with_imported t (record { name = x; alias = alias })) ∷ v) rest
alias_derived x ascii None t v ts rest h s w y = take 0 refl (perform (with_tokens h y))
alias_derived x ascii (Some z) t v ts rest h s w y = take 1 refl (read h.2 (read_name h.3 (perform y)))

-- Names that are imported: `item` is for one of them, `next` for others behind it. `made` is the statement of those so far.
imported_derived : (item next : Nonterminal) (Spelt : NameAt → List Token → List Token → Type 0) (made : List Imported → Stmt)
    → ((x : Imported) (done : List Imported) (v : Parts) (ts mid rest : List Token) → Spelt x.name ts mid → IsAlias x.alias mid rest
    → Leads (Non item ∷ []) (PStmt (made done) ∷ v) ts [] (PStmt (made (done ++ x ∷ [])) ∷ v) rest)
    → ((v : Parts) (ts : List Token) → Leads (Non next ∷ []) v ts [] v ts)
    → ((v : Parts) (ts : List Token) → Leads (Non next ∷ []) v ts (the_comma ∷ Do Drop ∷ Non item ∷ Non next ∷ []) v ts)
    → (xs : List Imported) (done : List Imported) (v : Parts) (ts rest : List Token) → AreImported Spelt xs ts rest
    → Leads (Non item ∷ Non next ∷ []) (PStmt (made done) ∷ v) ts [] (PStmt (made (done ++ xs)) ∷ v) rest
imported_derived item next Spelt made one ends goes_on [] done v ts rest h s w y = absurd h
imported_derived item next Spelt made one ends goes_on (x ∷ []) done v ts rest h s w y =
    one x done v ts h.0 rest h.1 h.2 _ w (ends _ rest s w y)
imported_derived item next Spelt made one ends goes_on (x ∷ z ∷ xs) done v ts rest h s w y =
    one x done v ts h.1 _ h.3 h.4 _ w (goes_on _ _ s w (read {t = sign h.0 (codes ",")} refl (perform (
    imported_derived item next Spelt made one ends goes_on (z ∷ xs) (done ++ x ∷ []) v h.2 rest h.5 s w
    (with_parts (ap (λ (y : List Imported). PStmt (made y) ∷ v) (append_assoc done (x ∷ []) (z ∷ xs))) y)))))

import_derived : (t : Stmt) (v : Parts) (ts rest : List Token) → IsImport t ts rest → Leads (Non ImportStatement ∷ []) v ts [] (PStmt t ∷ v) rest
import_derived (SImport p modules) v ts rest h s w y =
    take 0 refl (read h.2 (perform (
    imported_derived ImportItem ImportNext IsModuleName (SImport p)
    (λ x done v ts mid rest h k s w y. take 0 refl (read h (alias_derived x.name true x.alias (SImport p done) v mid rest k s w y)))
    (λ v ts s w y. take 0 refl y) (λ v ts s w y. take 1 refl y)
    modules [] v h.1 _ h.3 _ w (read {t = At h.0 TNewline} refl (perform y)))))
import_derived (SFromImport p m names) v ts rest h s w y =
    take 1 refl (read h.4 (read h.5 (read {t = word h.0 (codes "import")} refl (perform (
    imported_derived FromItem FromNext IsName (SFromImport p m)
    (λ x done v ts mid rest h k s w y. take 0 refl (read_name h (alias_derived x.name h.0 x.alias (SFromImport p m done) v mid rest k s w y)))
    (λ v ts s w y. take 0 refl y) (λ v ts s w y. take 1 refl y)
    names [] v h.3 _ h.6 _ w (read {t = At h.1 TNewline} refl (perform y)))))))
import_derived t v ts rest h s w y = absurd h

top_level_derived : (t : Stmt) (done : Body) (v : Parts) (ts mid : List Token) → IsTopLevel t ts mid
    → Leads (Non TopStatement ∷ []) (PBody done ∷ v) ts [] (PBody (with_stmt done t) ∷ v) mid
top_level_derived t done v ts mid h s w y = elim h [
  | inl compound ↦ take 1 refl ((stmt_derived t).0 _ ts mid compound _ w (perform y))
  | inr (inl definition) ↦ take 2 refl (definition_derived t _ ts mid definition _ w (perform y))
  | inr (inr (inl class)) ↦ take 3 refl (class_derived t _ ts mid class _ w (perform y))
  | inr (inr (inr imports)) ↦ take 4 refl (import_derived t _ ts mid imports _ w (perform y))
]

module_derived : (body : Body) (done : Body) (v : Parts) (rest : List Token) (goes_on : Bool) (ts : List Token) → AreTopLevel goes_on body ts rest
    → Leads (standing goes_on (Non Module ∷ []) Module) (PBody done ∷ v) ts [] (PBody (joined_bodies done body) ∷ v) rest
module_derived no_stmts done v rest true ts h s w y = let not_here : true ≡ false = h.0 in absurd (cc)
module_derived no_stmts done v rest false ts h s w y =
    take 1 refl (with_tokens h.1 (with_parts (ap (λ (x : Body). PBody x ∷ v) (sym (joined_bodies_nothing done))) y))
module_derived (more_stmts t body) done v rest goes_on ts h s w y =
    among_derived (Non Module ∷ []) Module (λ v ts s w y. take 0 refl (take 0 refl y)) t (IsTopLevel t) (λ on. AreTopLevel on body)
    done v (PBody (joined_bodies (with_stmt done t) body) ∷ v) rest
    (λ ts mid own s w y. take 0 refl (top_level_derived t done v ts mid own _ w y))
    (module_derived body (with_stmt done t) v rest) goes_on ts h s w
    (with_parts (ap (λ (x : Body). PBody x ∷ v) (joined_bodies_more done t body)) y)

pub derived : (body : Body) (ts : List Token) → IsModule body ts → Yields table goal start ts (finished body)
derived body ts h = perform (module_derived body no_stmts [] [] false ts h [] (finished body) (by_nothing table (finished body)))
