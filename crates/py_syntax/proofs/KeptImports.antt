-- The rows of imports keep what their nonterminals mean.
use Rattle.std.proofs.Common.{◌≡◌, true, List, [], ◌∷◌, ◌++◌, codes, inl, inr, refl, sym, ap, ◌∙◌, subst, Some, None}
use Rattle.grammars.specs.Grammar.{Tok, Do}
use Rattle.grammars.specs.Derivation.{Chain}
use Rattle.py_tokens.specs.Token.{Place}
use Rattle.py_syntax.specs.Token.{Token}
use Rattle.py_syntax.specs.Tree.{NameAt, Imported, Stmt, SImport, SFromImport}
use Rattle.py_syntax.specs.Build.{PStmt, Parts, with_imported, Drop}
use Rattle.py_syntax.specs.Grammar.{sign, IsName, IsAlias, IsModuleName, AreImported}
use Rattle.py_syntax.specs.Table.{ImportStatement, ImportItem, ImportAlias, ImportNext, FromItem, FromNext, table}
use Rattle.py_syntax.proofs.ChainSteps.{read, take, Reading, know, name, before, list_grows, list_stays, the_module_name_is}
use Rattle.py_syntax.proofs.TokenOf.{newline_is, the_as_is, the_from_is, the_import_is, the_comma_is}
use Rattle.py_syntax.proofs.Means.{Grows, import_part, from_part, AreFurther, IsImportItem, Means, Kept}

pub kept_import_alias : Kept ImportAlias
kept_import_alias = (
  λ v ts w rest g c q ascii n s u is. know (Reading ImportAlias 0 ts w rest) is c (λ c. (None, sym c.0, c.1)),
  (
    λ v ts w rest g c q ascii n s u is.
        know (Reading ImportAlias 1 ts w rest) is c (λ c.
        read the_as_is c (λ r after at c.
        name c (λ x ascii last at_name c.
        (Some x, sym c.0, (r, after, at, (ascii, before at_name c.1)))))),
    tt,
  ),
)

pub kept_import_item : Kept ImportItem
kept_import_item = (
  λ v ts w rest g c s u is.
      know (Reading ImportItem 0 ts w rest) is c (λ c.
      read the_module_name_is c (λ x mid at c.
      take c (λ z last alias c.
      let m = alias x.place true x.name s u refl in
      (record { name = x; alias = m.0 }, sym c.0 ∙ m.1, (mid, at, subst (IsAlias m.0 mid) c.1 m.2))))),
  tt,
)

pub kept_from_item : Kept FromItem
kept_from_item = (
  λ v ts w rest g c s u is.
      know (Reading FromItem 0 ts w rest) is c (λ c.
      name c (λ x ascii mid at c.
      take c (λ z last alias c.
      let m = alias x.place ascii x.name s u refl in
      (record { name = x; alias = m.0 }, sym c.0 ∙ m.1, (mid, (ascii, at), subst (IsAlias m.0 mid) c.1 m.2))))),
  tt,
)

-- what is imported, and more behind it
imported_together : (Spelt : NameAt → List Token → List Token → Type 0) (x : Imported) (others : List Imported) (ts mid rest : List Token)
    → (after : List Token) × Spelt x.name ts after × IsAlias x.alias after mid → AreFurther (AreImported Spelt) others mid rest
    → AreImported Spelt (x ∷ others) ts rest
imported_together Spelt x [] ts mid rest h (inl end) = (h.0, h.1, subst (IsAlias x.alias h.0) end.1 h.2)
imported_together Spelt x [] ts mid rest h (inr more) = absurd more.3
imported_together Spelt x (y ∷ others) ts mid rest h (inl end) = let e : y ∷ others ≡ [] = end.0 in absurd (cc)
imported_together Spelt x (y ∷ others) ts mid rest h (inr more) = (more.0, h.0, more.1, h.1, subst (IsAlias x.alias h.0) more.2 h.2, more.3)

-- a comma, what is imported behind it, and more
imported_grow : {K : Type 0} (stmt : K → List Imported → Stmt) (Spelt : NameAt → List Token → List Token → Type 0)
    → ((k : K) (xs : List Imported) (x : Imported) → with_imported (stmt k xs) x ≡ stmt k (xs ++ x ∷ []))
    → (v : Parts) (ts : List Token) (w : Parts) (rest : List Token) (q : Place) (after : List Token) → ts ≡ sign q (codes ",") ∷ after
    → (z : Parts) × (mid : List Token) × IsImportItem Spelt v after z mid
    × ((y : Parts) × (last : List Token) × Grows (λ k xs. PStmt (stmt k xs)) (λ xs ys. xs ++ ys) (AreFurther (AreImported Spelt)) z mid y last
    × ((y ≡ w) × (last ≡ rest))) → Grows (λ k xs. PStmt (stmt k xs)) (λ xs ys. xs ++ ys) (AreFurther (AreImported Spelt)) v ts w rest
imported_grow stmt Spelt grows v ts w rest q after at c k xs u is =
    let m = c.2 (stmt k xs) u is in
    let n = c.3.2 k (xs ++ m.0 ∷ []) u (m.1 ∙ ap (λ (s : Stmt). PStmt s ∷ u) (grows k xs m.0)) in (
      m.0 ∷ n.0,
      sym c.3.3.0 ∙ n.1 ∙ ap (λ (l : List Imported). PStmt (stmt k l) ∷ u) (list_grows xs m.0 n.0),
      inr (q, after, at, subst (AreImported Spelt (m.0 ∷ n.0) after) c.3.3.1 (imported_together Spelt m.0 n.0 after c.1 c.3.1 m.2 n.2)),
    )

pub kept_import_next : Kept ImportNext
kept_import_next = (
  λ v ts w rest g c. list_stays import_part (AreFurther (AreImported IsModuleName)) v ts w rest c.0 (inl (refl, c.1)),
  (
    λ v ts w rest g c.
        read the_comma_is c (λ q after at c. imported_grow SImport IsModuleName (λ k xs x. refl) v ts w rest q after at c),
    tt,
  ),
)

pub kept_from_next : Kept FromNext
kept_from_next = (
  λ v ts w rest g c. list_stays from_part (AreFurther (AreImported IsName)) v ts w rest c.0 (inl (refl, c.1)),
  (
    λ v ts w rest g c.
        read the_comma_is c (λ q after at c. imported_grow (λ (k : Place × NameAt). SFromImport k.0 k.1) IsName (λ k xs x. refl) v ts w rest q after at c),
    tt,
  ),
)

pub kept_import_statement : Kept ImportStatement
kept_import_statement = (
  λ v ts w rest g c.
      read the_import_is c (λ p a at c.
      take c (λ z mid item c.
      let m = item (SImport p []) v refl in
      take c (λ y last further c.
      let n = further p (m.0 ∷ []) v m.1 in
      know (λ (y : Parts). Chain table Means (Tok 8 ∷ Do Drop ∷ []) y last w rest) n.1 c (λ c.
      read newline_is c (λ q after at_newline c. (
        SImport p (m.0 ∷ n.0),
        sym c.0,
        (
          q,
          a,
          at,
          subst (AreImported IsModuleName (m.0 ∷ n.0) a) (before at_newline c.1) (imported_together IsModuleName m.0 n.0 a mid last m.2 n.2),
        ),
      )))))),
  (
    λ v ts w rest g c.
        read the_from_is c (λ p a at c.
        read the_module_name_is c (λ x named at_name c.
        read the_import_is c (λ q b at_import c.
        take c (λ z mid item c.
        let m = item (SFromImport p x []) v refl in
        take c (λ y last further c.
        let n = further (p, x) (m.0 ∷ []) v m.1 in
        know (λ (y : Parts). Chain table Means (Tok 8 ∷ Do Drop ∷ []) y last w rest) n.1 c (λ c.
        read newline_is c (λ r after at_newline c. (
          SFromImport p x (m.0 ∷ n.0),
          sym c.0,
          (
            q,
            r,
            a,
            b,
            at,
            before at_name at_import,
            subst (AreImported IsName (m.0 ∷ n.0) b) (before at_newline c.1) (imported_together IsName m.0 n.0 b mid last m.2 n.2),
          ),
        )))))))),
    tt,
  ),
)
