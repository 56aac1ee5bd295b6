-- The tokens of a front stand in the order in which they all do.
use Rattle.std.proofs.Common.{◌≡◌, ℕ, zero, suc, true, ◌&&◌, ◌==◌, List, [], ◌∷◌, take, ap, ◌∙◌, eqb-true}
use Rattle.grammars.proofs.Bools.{and_left, and_right}
use Rattle.py_tokens.specs.Token.{Place}
use Rattle.py_syntax.specs.Token.{Token}
use Rattle.py_nesting.specs.Ordered.{IsBefore, AreOrdered}
use Rattle.py_nesting.specs.TooDeep.{same_place}

before_front : (t : Token) (count : ℕ) (ts : List Token) → IsBefore t ts → IsBefore t (take count ts)
before_front t zero [] b = tt
before_front t (suc count) [] b = tt
before_front t zero (u ∷ ts) b = tt
before_front t (suc count) (u ∷ ts) b = (b.0, b.1, before_front t count ts b.2)

pub ordered_front : (count : ℕ) (ts : List Token) → AreOrdered ts → AreOrdered (take count ts)
ordered_front zero [] o = tt
ordered_front (suc count) [] o = tt
ordered_front zero (t ∷ ts) o = tt
ordered_front (suc count) (t ∷ ts) o = (before_front t count ts o.0, ordered_front count ts o.1)

-- a place is the same as itself alone
pub same_place_so : (p q : Place) → same_place p q ≡ true → p ≡ q
same_place_so p q h =
    ap (λ (n : ℕ). record { «module» = n; line = p.line; column = p.column }) (eqb-true p.«module» q.«module» (and_left (p.«module» == q.«module») ((p.line == q.line) && (p.column == q.column)) h))
    ∙ ap (λ (n : ℕ). record { «module» = q.«module»; line = n; column = p.column }) (eqb-true p.line q.line (and_left (p.line == q.line) (p.column == q.column) rest))
    ∙ ap (λ (n : ℕ). record { «module» = q.«module»; line = q.line; column = n }) (eqb-true p.column q.column (and_right (p.line == q.line) (p.column == q.column) rest))
  where
    rest : ((p.line == q.line) && (p.column == q.column)) ≡ true
    rest = and_right (p.«module» == q.«module») ((p.line == q.line) && (p.column == q.column)) h
