-- The rows of atoms, displays, comprehensions and what loops bind keep what their nonterminals mean.
use Rattle.std.proofs.Common.{◌≡◌, ℕ, true, false, List, [], ◌∷◌, ◌++◌, inl, inr, codes, refl, sym, ap, ◌∙◌, subst, subst₂, arith, append-nil, append_assoc, Some, None}
use Rattle.py_tokens.specs.Token.{Place}
use Rattle.py_syntax.specs.Token.{TName, TOperator, Token, At}
use Rattle.py_syntax.specs.Tree.{NameAt, LoopTarget, LoopName, LoopNames, LoopParenthesis, Expr, EName, ENumber, EText, ETrue, EFalse, ENone, EParenthesis, EEmptyTuple, ETuple, EList, EListComprehension, EDict, ESet, Exprs, no_exprs, more_exprs, Pairs, no_pairs, more_pairs, Loops, no_loops, more_loops}
use Rattle.py_syntax.specs.Grammar.{word, sign, IsName, IsEndOrComma, AreNames, IsLoopTarget, IsExpr, AreItems, ArePairs, AreChained, AreLoops}
use Rattle.py_syntax.specs.Build.{Parts, PToken, PExpr, PLoopTarget, MakeLeaf, MakeTrue, MakeFalse, MakeNone, MakeEmptyTuple, MakeParenthesis, MakeTuple, MakeEmptyList, MakeListOfOne, MakeList, BeginComprehension, BeginLoop, AddCondition, AddLoop, MakeEmptyDict, BeginDict, AddPair, MakeSetOfOne, MakeSet, MakeLoopName, MakeLoopNames, AddLoopName, MakeLoopParenthesis, with_expr, with_pair, with_loop, act}
use Rattle.py_syntax.specs.Table.{Binding, BindingTail, BindingMore, BindingNext, Atom, Parenthesised, ParenthesisedTail, Bracketed, BracketedTail, Braced, BracedTail, PairNext, PairMore, Comprehension, Conditions, Comprehensions, AnyName}
use Rattle.py_syntax.proofs.Means.{Pushes, IsPlain, IsAtom, IsInside, IsInsideBehind, dict_part, loop_part, comprehension_part, loop_names_part, Kept}
use Rattle.py_syntax.proofs.Together.{exprs_grow, exprs_alone, pairs_grow, pairs_alone, loops_grow, loops_alone}
use Rattle.py_syntax.proofs.TokenOf.{ascii_name_is, other_name_is, number_is, text_is, the_false_is, the_none_is, the_true_is, the_for_is, the_if_is, the_in_is, the_open_parenthesis_is, the_close_parenthesis_is, the_open_bracket_is, the_close_bracket_is, the_open_brace_is, the_close_brace_is, the_comma_is, the_colon_is}
use Rattle.py_syntax.proofs.KeptSteps.{first_is, looser}

pub kept_any_name : Kept AnyName
kept_any_name = (
  λ v ts w rest g c.
      let n = ascii_name_is c.0 c.3 in
      (record { place = n.0; name = n.1 }, true, sym c.4.0 ∙ ap (λ (t : Token). PToken t ∷ v) n.2, first_is c.2 n.2 c.4.1),
  (
    λ v ts w rest g c.
        let n = other_name_is c.0 c.3 in
        (record { place = n.0; name = n.1 }, false, sym c.4.0 ∙ ap (λ (t : Token). PToken t ∷ v) n.2, first_is c.2 n.2 c.4.1),
    tt,
  ),
)

-- a bracket that begins an atom, and what is inside
bracketed : (bracket : List ℕ) (t : Token) (v z w : Parts) (ts after last rest : List Token) → (p : Place) × (t ≡ sign p bracket) → ts ≡ t ∷ after
    → IsInside bracket (PToken t ∷ v) after z last → z ≡ w → last ≡ rest → IsAtom v ts w rest
bracketed bracket t v z w ts after last rest n first inside q end =
    let e = inside n.0 (TOperator bracket) v (ap (λ (x : Token). PToken x ∷ v) n.1) in
    (e.0, sym q ∙ e.1, subst₂ (λ (x y : List Token). IsPlain e.0 x y) (sym (first_is first n.1 refl)) end e.2)

pub kept_atom : Kept Atom
kept_atom = (
  λ v ts w rest g c.
      let x = c.2 in
      (EName x.0.place x.0.name, sym c.3.0 ∙ ap (act MakeLeaf) x.2, ((x.1, x.3 ∙ ap (λ (z : List Token). At x.0.place (TName x.1 x.0.name) ∷ z) c.3.1), refl)),
  (
    λ v ts w rest g c.
        let n = number_is c.0 c.3 in
        (ENumber n.0 n.1, sym c.4.0 ∙ ap (λ (t : Token). act MakeLeaf (PToken t ∷ v)) n.2, (first_is c.2 n.2 c.4.1, refl)),
    (
      λ v ts w rest g c.
          let n = text_is c.0 c.3 in
          (EText n.0 n.1, sym c.4.0 ∙ ap (λ (t : Token). act MakeLeaf (PToken t ∷ v)) n.2, (first_is c.2 n.2 c.4.1, refl)),
      (
        λ v ts w rest g c.
            let n = the_true_is c.0 c.3 in
            (ETrue n.0, sym c.4.0 ∙ ap (λ (t : Token). act MakeTrue (PToken t ∷ v)) n.1, (first_is c.2 n.1 c.4.1, refl)),
        (
          λ v ts w rest g c.
              let n = the_false_is c.0 c.3 in
              (EFalse n.0, sym c.4.0 ∙ ap (λ (t : Token). act MakeFalse (PToken t ∷ v)) n.1, (first_is c.2 n.1 c.4.1, refl)),
          (
            λ v ts w rest g c.
                let n = the_none_is c.0 c.3 in
                (ENone n.0, sym c.4.0 ∙ ap (λ (t : Token). act MakeNone (PToken t ∷ v)) n.1, (first_is c.2 n.1 c.4.1, refl)),
            (
              λ v ts w rest g c. bracketed (codes "(") c.0 v c.4.0 w ts c.1 c.4.1 rest (the_open_parenthesis_is c.0 c.3) c.2 c.4.2 c.4.3.0 c.4.3.1,
              (
                λ v ts w rest g c. bracketed (codes "[") c.0 v c.4.0 w ts c.1 c.4.1 rest (the_open_bracket_is c.0 c.3) c.2 c.4.2 c.4.3.0 c.4.3.1,
                (
                  λ v ts w rest g c. bracketed (codes "{") c.0 v c.4.0 w ts c.1 c.4.1 rest (the_open_brace_is c.0 c.3) c.2 c.4.2 c.4.3.0 c.4.3.1,
                  tt,
                ),
              ),
            ),
          ),
        ),
      ),
    ),
  ),
)

-- a first expression inside brackets, and what is behind it
inside_behind : (bracket : List ℕ) (v u z w : Parts) (ts after last rest : List Token) → Pushes PExpr (IsExpr 1) v ts u after
    → IsInsideBehind bracket u after z last → z ≡ w → last ≡ rest → IsInside bracket v ts w rest
inside_behind bracket v u z w ts after last rest a tail q end p k under is =
    let stack : u ≡ PExpr a.0 ∷ PToken (At p k) ∷ under = cc in
    let e = tail a.0 p k under stack in
    (e.0, sym q ∙ e.1, subst (λ (x : List Token). IsPlain e.0 (sign p bracket ∷ ts) x) end (e.2 ts a.2))

pub kept_parenthesised : Kept Parenthesised
kept_parenthesised = (
  λ v ts w rest g c p k u is.
      let q = the_close_parenthesis_is c.0 c.3 in
      let stack : PToken c.0 ∷ v ≡ PToken (sign q.0 (codes ")")) ∷ PToken (At p k) ∷ u = cc in
      (EEmptyTuple p, sym c.4.0 ∙ ap (act MakeEmptyTuple) stack, ((q.0, ap (λ (x : List Token). sign p (codes "(") ∷ x) (first_is c.2 q.1 c.4.1)), refl)),
  (λ v ts w rest g c. inside_behind (codes "(") v c.0 c.3.0 w ts c.1 c.3.1 rest c.2 c.3.2 c.3.3.0 c.3.3.1, tt),
)

pub kept_parenthesised_tail : Kept ParenthesisedTail
kept_parenthesised_tail = (
  λ v ts w rest g c a p k u is.
      let q = the_close_parenthesis_is c.0 c.3 in
      let stack : PToken c.0 ∷ v ≡ PToken (sign q.0 (codes ")")) ∷ PExpr a ∷ PToken (At p k) ∷ u = cc in (
        EParenthesis p a,
        sym c.4.0 ∙ ap (act MakeParenthesis) stack,
        λ mid h. ((q.0, mid, refl, subst (IsExpr 0 a mid) (first_is c.2 q.1 c.4.1) (looser 1 0 a mid ts (omega arith) h)), refl),
      ),
  (
    λ v ts w rest g c a p k u is.
        let m = the_comma_is c.0 c.3 in
        let comma : PToken c.0 ∷ v ≡ PToken (sign m.0 (codes ",")) ∷ PExpr a ∷ PToken (At p k) ∷ u = cc in
        let items = c.4.2 m.0 (more_exprs a no_exprs) (PToken (At p k) ∷ u) (ap (act MakeTuple) comma) in
        let q = the_close_parenthesis_is c.4.3.0 c.4.3.3 in
        let stack : PToken c.4.3.0 ∷ c.4.0 ≡ PToken (sign q.0 (codes ")")) ∷ PExpr (ETuple m.0 (more_exprs a items.0)) ∷ PToken (At p k) ∷ u = cc in (
          EParenthesis p (ETuple m.0 (more_exprs a items.0)),
          sym c.4.3.4.0 ∙ ap (act MakeParenthesis) stack,
          λ mid h. (
            (
              q.0,
              mid,
              refl,
              (omega arith, c.1, subst (IsExpr 1 a mid) (first_is c.2 m.1 refl) h, subst (AreItems items.0 c.1) (first_is c.4.3.2 q.1 c.4.3.4.1) items.2),
            ),
            refl,
          ),
        ),
    tt,
  ),
)

pub kept_bracketed : Kept Bracketed
kept_bracketed = (
  λ v ts w rest g c p k u is.
      let q = the_close_bracket_is c.0 c.3 in
      let stack : PToken c.0 ∷ v ≡ PToken (sign q.0 (codes "]")) ∷ PToken (At p k) ∷ u = cc in
      (EList p None no_exprs, sym c.4.0 ∙ ap (act MakeEmptyList) stack, ((q.0, ap (λ (x : List Token). sign p (codes "[") ∷ x) (first_is c.2 q.1 c.4.1)), refl)),
  (λ v ts w rest g c. inside_behind (codes "[") v c.0 c.3.0 w ts c.1 c.3.1 rest c.2 c.3.2 c.3.3.0 c.3.3.1, tt),
)

-- loops one behind another
loops_behind : (q : Place) (t : LoopTarget) (i : Expr) (cs : Exprs) (more : Loops) (ts mid rest : List Token) → AreLoops (more_loops q t i cs no_loops) ts mid
    → AreLoops more mid rest → AreLoops (more_loops q t i cs more) ts rest
loops_behind q t i cs more ts mid rest h m = (
  h.0,
  h.1,
  h.2,
  h.3,
  h.4,
  h.5,
  h.6,
  h.7,
  h.8,
  subst (λ (x : List Token). AreLoops more x rest) (sym h.9) m,
)

pub kept_bracketed_tail : Kept BracketedTail
kept_bracketed_tail = (
  λ v ts w rest g c a p k u is.
      let q = the_close_bracket_is c.0 c.3 in
      let stack : PToken c.0 ∷ v ≡ PToken (sign q.0 (codes "]")) ∷ PExpr a ∷ PToken (At p k) ∷ u = cc in (
        EList p None (more_exprs a no_exprs),
        sym c.4.0 ∙ ap (act MakeListOfOne) stack,
        λ mid h. ((q.0, mid, refl, subst (IsExpr 1 a mid) (first_is c.2 q.1 c.4.1) h), refl),
      ),
  (
    λ v ts w rest g c a p k u is.
        let m = the_comma_is c.0 c.3 in
        let comma : PToken c.0 ∷ v ≡ PToken (sign m.0 (codes ",")) ∷ PExpr a ∷ PToken (At p k) ∷ u = cc in
        let items = c.4.2 m.0 (more_exprs a no_exprs) (PToken (At p k) ∷ u) (ap (act MakeTuple) comma) in
        let q = the_close_bracket_is c.4.3.0 c.4.3.3 in
        let stack : PToken c.4.3.0 ∷ c.4.0 ≡ PToken (sign q.0 (codes "]")) ∷ PExpr (ETuple m.0 (more_exprs a items.0)) ∷ PToken (At p k) ∷ u = cc in (
          EList p (Some m.0) (more_exprs a items.0),
          sym c.4.3.4.0 ∙ ap (act MakeList) stack,
          λ mid h. (
            (
              q.0,
              mid,
              c.1,
              refl,
              subst (IsExpr 1 a mid) (first_is c.2 m.1 refl) h,
              subst (AreItems items.0 c.1) (first_is c.4.3.2 q.1 c.4.3.4.1) items.2,
            ),
            refl,
          ),
        ),
    (
      λ v ts w rest g c a p k u is.
          let one = c.2 p a no_loops u (ap (act BeginComprehension) is) in
          let more = c.3.2 (p, a) (more_loops one.0 one.1 one.2 one.3 no_loops) u one.4 in
          let q = the_close_bracket_is c.3.3.0 c.3.3.3 in (
            EListComprehension p a (more_loops one.0 one.1 one.2 one.3 more.0),
            sym c.3.3.4.0 ∙ more.1,
            λ mid h. (
              (
                q.0,
                mid,
                ts,
                refl,
                h,
                subst (AreLoops (more_loops one.0 one.1 one.2 one.3 more.0) ts) (first_is c.3.3.2 q.1 c.3.3.4.1)
                    (loops_behind one.0 one.1 one.2 one.3 more.0 ts c.1 c.3.1 one.5 more.2),
              ),
              refl,
            ),
          ),
      tt,
    ),
  ),
)

pub kept_braced : Kept Braced
kept_braced = (
  λ v ts w rest g c p k u is.
      let q = the_close_brace_is c.0 c.3 in
      let stack : PToken c.0 ∷ v ≡ PToken (sign q.0 (codes "}")) ∷ PToken (At p k) ∷ u = cc in (
        EDict p no_pairs,
        sym c.4.0 ∙ ap (act MakeEmptyDict) stack,
        ((q.0, ts, refl, first_is c.2 q.1 c.4.1), refl),
      ),
  (λ v ts w rest g c. inside_behind (codes "{") v c.0 c.3.0 w ts c.1 c.3.1 rest c.2 c.3.2 c.3.3.0 c.3.3.1, tt),
)

pub kept_braced_tail : Kept BracedTail
kept_braced_tail = (
  λ v ts w rest g c a p k u is.
      let q = the_close_brace_is c.0 c.3 in
      let stack : PToken c.0 ∷ v ≡ PToken (sign q.0 (codes "}")) ∷ PExpr a ∷ PToken (At p k) ∷ u = cc in (
        ESet p (more_exprs a no_exprs),
        sym c.4.0 ∙ ap (act MakeSetOfOne) stack,
        λ mid h. ((q.0, mid, refl, (ts, h, inl (refl, first_is c.2 q.1 c.4.1))), refl),
      ),
  (
    λ v ts w rest g c a p k u is.
        let m = the_comma_is c.0 c.3 in
        let comma : PToken c.0 ∷ v ≡ PToken (sign m.0 (codes ",")) ∷ PExpr a ∷ PToken (At p k) ∷ u = cc in
        let items = c.4.2 m.0 (more_exprs a no_exprs) (PToken (At p k) ∷ u) (ap (act MakeTuple) comma) in
        let q = the_close_brace_is c.4.3.0 c.4.3.3 in
        let stack : PToken c.4.3.0 ∷ c.4.0 ≡ PToken (sign q.0 (codes "}")) ∷ PExpr (ETuple m.0 (more_exprs a items.0)) ∷ PToken (At p k) ∷ u = cc in (
          ESet p (more_exprs a items.0),
          sym c.4.3.4.0 ∙ ap (act MakeSet) stack,
          λ mid h. (
            (
              q.0,
              mid,
              refl,
              (ts, h, inr (m.0, c.1, first_is c.2 m.1 refl, subst (AreItems items.0 c.1) (first_is c.4.3.2 q.1 c.4.3.4.1) items.2)),
            ),
            refl,
          ),
        ),
    (
      λ v ts w rest g c a p k u is.
          let m = the_colon_is c.0 c.3 in
          let e = c.4.2 in
          let colon : c.4.0 ≡ PExpr e.0 ∷ PToken (sign m.0 (codes ":")) ∷ PExpr a ∷ PToken (At p k) ∷ u = cc in
          let pairs = c.4.3.2 p (more_pairs a e.0 no_pairs) u (ap (act BeginDict) colon) in
          let q = the_close_brace_is c.4.3.3.0 c.4.3.3.3 in (
            EDict p (more_pairs a e.0 pairs.0),
            sym c.4.3.3.4.0 ∙ pairs.1,
            λ mid h. (
              (
                q.0,
                mid,
                refl,
                (
                  m.0,
                  c.1,
                  c.4.1,
                  subst (IsExpr 1 a mid) (first_is c.2 m.1 refl) h,
                  e.2,
                  subst (IsEndOrComma (pairs.0 ≡ no_pairs) (ArePairs pairs.0) c.4.1) (first_is c.4.3.3.2 q.1 c.4.3.3.4.1) pairs.2,
                ),
              ),
              refl,
            ),
          ),
      tt,
    ),
  ),
)

pub kept_pair_next : Kept PairNext
kept_pair_next = (
  λ v ts w rest g c p pairs u is. (no_pairs, sym c.0 ∙ is ∙ ap (λ (l : Pairs). dict_part p l ∷ u) (sym (pairs_alone pairs)), inl (refl, c.1)),
  (
    λ v ts w rest g c p pairs u is.
        let q = the_comma_is c.0 c.3 in
        let m = c.4.2 p pairs u is in
        (m.0, sym c.4.3.0 ∙ m.1, inr (q.0, c.1, first_is c.2 q.1 refl, subst (ArePairs m.0 c.1) c.4.3.1 m.2)),
    tt,
  ),
)

pub kept_pair_more : Kept PairMore
kept_pair_more = (
  λ v ts w rest g c p pairs u is. (no_pairs, sym c.0 ∙ is ∙ ap (λ (l : Pairs). dict_part p l ∷ u) (sym (pairs_alone pairs)), c.1),
  (
    λ v ts w rest g c p pairs u is.
        let k = c.2 in
        let q = the_colon_is c.3.0 c.3.3 in
        let e = c.3.4.2 in
        let stack : c.3.4.0 ≡ PExpr e.0 ∷ PToken (sign q.0 (codes ":")) ∷ PExpr k.0 ∷ PExpr (EDict p pairs) ∷ u = cc in
        let m = c.3.4.3.2 p (with_pair pairs k.0 e.0) u (ap (act AddPair) stack) in (
          more_pairs k.0 e.0 m.0,
          sym c.3.4.3.3.0 ∙ m.1 ∙ ap (λ (l : Pairs). dict_part p l ∷ u) (pairs_grow pairs k.0 e.0 m.0),
          (
            q.0,
            c.3.1,
            c.3.4.1,
            subst (IsExpr 1 k.0 ts) (first_is c.3.2 q.1 refl) k.2,
            e.2,
            subst (IsEndOrComma (m.0 ≡ no_pairs) (ArePairs m.0) c.3.4.1) c.3.4.3.3.1 m.2,
          ),
        ),
    tt,
  ),
)

pub kept_comprehension : Kept Comprehension
kept_comprehension = (
  λ v ts w rest g c p e loops u is.
      let f = the_for_is c.0 c.3 in
      let t = c.4.2 in
      let q = the_in_is c.4.3.0 c.4.3.3 in
      let i = c.4.3.4.2 in
      let begun : c.4.3.4.0 ≡ PExpr i.0 ∷ PToken (word q.0 (codes "in")) ∷ PLoopTarget t.0 ∷ PToken (word f.0 (codes "for")) ∷ PExpr (EListComprehension p e loops) ∷ u = cc in
      let cs = c.4.3.4.3.2 (f.0, t.0, i.0) no_exprs (PExpr (EListComprehension p e loops) ∷ u) (ap (act BeginLoop) begun) in (
        f.0,
        t.0,
        i.0,
        cs.0,
        sym c.4.3.4.3.3.0 ∙ ap (act AddLoop) cs.1,
        (
          q.0,
          c.1,
          c.4.3.1,
          c.4.3.4.1,
          rest,
          first_is c.2 f.1 refl,
          subst (IsLoopTarget t.0 c.1) (first_is c.4.3.2 q.1 refl) t.2,
          i.2,
          subst (AreChained (codes "if") 2 cs.0 c.4.3.4.1) c.4.3.4.3.3.1 cs.2,
          refl,
        ),
      ),
  tt,
)

pub kept_conditions : Kept Conditions
kept_conditions = (
  λ v ts w rest g c k cs u is. (no_exprs, sym c.0 ∙ is ∙ ap (λ (l : Exprs). loop_part k l ∷ u) (sym (exprs_alone cs)), c.1),
  (
    λ v ts w rest g c k cs u is.
        let p = the_if_is c.0 c.3 in
        let e = c.4.2 in
        let stack : c.4.0 ≡ PExpr e.0 ∷ PToken (word p.0 (codes "if")) ∷ loop_part k cs ∷ u = cc in
        let m = c.4.3.2 k (with_expr cs e.0) u (ap (act AddCondition) stack) in (
          more_exprs e.0 m.0,
          sym c.4.3.3.0 ∙ m.1 ∙ ap (λ (l : Exprs). loop_part k l ∷ u) (exprs_grow cs e.0 m.0),
          (p.0, c.1, c.4.1, first_is c.2 p.1 refl, e.2, subst (AreChained (codes "if") 2 m.0 c.4.1) c.4.3.3.1 m.2),
        ),
    tt,
  ),
)

pub kept_comprehensions : Kept Comprehensions
kept_comprehensions = (
  λ v ts w rest g c k loops u is. (no_loops, sym c.0 ∙ is ∙ ap (λ (l : Loops). comprehension_part k l ∷ u) (sym (loops_alone loops)), c.1),
  (
    λ v ts w rest g c k loops u is.
        let one = c.2 k.0 k.1 loops u is in
        let m = c.3.2 k (with_loop loops one.0 one.1 one.2 one.3) u one.4 in (
          more_loops one.0 one.1 one.2 one.3 m.0,
          sym c.3.3.0 ∙ m.1 ∙ ap (λ (l : Loops). comprehension_part k l ∷ u) (loops_grow loops one.0 one.1 one.2 one.3 m.0),
          loops_behind one.0 one.1 one.2 one.3 m.0 ts c.1 rest one.5 (subst (AreLoops m.0 c.1) c.3.3.1 m.2),
        ),
    tt,
  ),
)

pub kept_binding : Kept Binding
kept_binding = (
  λ v ts w rest g c.
      let x = c.2 in
      let t = c.3.2 x.0 v (ap (act MakeLoopName) x.2) in
      (t.0, sym c.3.3.0 ∙ t.1, subst (IsLoopTarget t.0 ts) c.3.3.1 (t.2 ts (x.1, x.3))),
  (
    λ v ts w rest g c.
        let p = the_open_parenthesis_is c.0 c.3 in
        let t = c.4.2 in
        let q = the_close_parenthesis_is c.4.3.0 c.4.3.3 in
        let stack : PToken c.4.3.0 ∷ c.4.0 ≡ PToken (sign q.0 (codes ")")) ∷ PLoopTarget t.0 ∷ PToken (sign p.0 (codes "(")) ∷ v = cc in (
          LoopParenthesis p.0 t.0,
          sym c.4.3.4.0 ∙ ap (act MakeLoopParenthesis) stack,
          (q.0, c.1, first_is c.2 p.1 refl, subst (IsLoopTarget t.0 c.1) (first_is c.4.3.2 q.1 c.4.3.4.1) t.2),
        ),
    tt,
  ),
)

pub kept_binding_tail : Kept BindingTail
kept_binding_tail = (
  λ v ts w rest g c x u is. (LoopName x, sym c.0 ∙ is, λ front h. subst (IsName x front) c.1 h),
  (
    λ v ts w rest g c x u is.
        let p = the_comma_is c.0 c.3 in
        let stack : PToken c.0 ∷ v ≡ PToken (sign p.0 (codes ",")) ∷ PLoopTarget (LoopName x) ∷ u = cc in
        let m = c.4.2 p.0 (x ∷ []) u (ap (act MakeLoopNames) stack) in (
          LoopNames p.0 (x ∷ m.0),
          sym c.4.3.0 ∙ m.1,
          λ front h. (c.1, subst (IsName x front) (first_is c.2 p.1 refl) h, subst (AreNames m.0 c.1) c.4.3.1 m.2),
        ),
    tt,
  ),
)

pub kept_binding_more : Kept BindingMore
kept_binding_more = (
  λ v ts w rest g c p xs u is. ([], sym c.0 ∙ is ∙ ap (λ (l : List NameAt). loop_names_part p l ∷ u) (sym (append-nil xs)), c.1),
  (
    λ v ts w rest g c p xs u is.
        let x = c.2 in
        let stack : c.0 ≡ PToken (At x.0.place (TName x.1 x.0.name)) ∷ PLoopTarget (LoopNames p xs) ∷ u = cc in
        let m = c.3.2 p (xs ++ x.0 ∷ []) u (ap (act AddLoopName) stack) in (
          x.0 ∷ m.0,
          sym c.3.3.0 ∙ m.1 ∙ ap (λ (l : List NameAt). loop_names_part p l ∷ u) (append_assoc xs (x.0 ∷ []) m.0),
          (c.1, (x.1, x.3), subst (IsEndOrComma (m.0 ≡ []) (AreNames m.0) c.1) c.3.3.1 m.2),
        ),
    tt,
  ),
)

pub kept_binding_next : Kept BindingNext
kept_binding_next = (
  λ v ts w rest g c p xs u is. ([], sym c.0 ∙ is ∙ ap (λ (l : List NameAt). loop_names_part p l ∷ u) (sym (append-nil xs)), inl (refl, c.1)),
  (
    λ v ts w rest g c p xs u is.
        let q = the_comma_is c.0 c.3 in
        let m = c.4.2 p xs u is in
        (m.0, sym c.4.3.0 ∙ m.1, inr (q.0, c.1, first_is c.2 q.1 refl, subst (AreNames m.0 c.1) c.4.3.1 m.2)),
    tt,
  ),
)
