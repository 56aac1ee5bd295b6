-- The construct whose head comes first is found by looking at one after another.
use Rattle.std.proofs.Common.{◌≡◌, ℕ, suc, ◌<◌, ◌≤◌, nat_lt, Bool, true, false, if◌then◌else◌, List, get_or, ◌⊎◌, inl, inr, Some, None, refl, sym, ap, ◌∙◌, subst, arith, ltb-true}
use Rattle.py_syntax.specs.Token.{Token}
use Rattle.py_constructs.specs.Construct as c
use Rattle.py_constructs.specs.Construct.{Construct, construct_order, constructs}
use Rattle.py_constructs.specs.Values.{Numbered}
use Rattle.py_constructs.specs.Standing.{StandsAt}
use Rattle.py_constructs.specs.Search.{best, IsBest, NextLaw, LastLaw}
use Rattle.py_constructs.proofs.Standing.{once_law}

-- their order tells constructs apart
ordered : (a : Construct) → get_or constructs (construct_order a) c.Float ≡ a
ordered c.Float = refl
ordered _ = refl

one_order : (a d : Construct) → construct_order a ≡ construct_order d → a ≡ d
one_order a d e = sym (ordered a) ∙ ap (λ (n : ℕ). get_or constructs n c.Float) e ∙ ordered d

there_are : (a : Construct) → construct_order a < 44
there_are c.Float = omega arith
there_are _ = omega arith

pub not_below : (m n : ℕ) → nat_lt m n ≡ false → n ≤ m
not_below m n e = grind arith

-- a construct of lower order, or this one
below : (a d : Construct) → construct_order d < suc (construct_order a) → (construct_order d < construct_order a) ⊎ (a ≡ d)
below a d l = go (construct_order d) (construct_order a) l (λ e. one_order a d e)
  where
    go : (m n : ℕ) → m < suc n → (n ≡ m → a ≡ d) → (m < n) ⊎ (a ≡ d)
    go m n l same = by (nat_lt m n) refl
      where
        by : (b : Bool) → nat_lt m n ≡ b → (m < n) ⊎ (a ≡ d)
        by true e = inl (ltb-true m n e)
        by false e = inr (same (let no = not_below m n e in omega arith))

-- where nothing stands, with one construct more
none_more : (ts : List Token) (first : ℕ) (a : Construct) → ((d : Construct) (head : Numbered) → construct_order d < construct_order a → StandsAt d head ts first → ⊥)
    → ((head : Numbered) → StandsAt a head ts first → ⊥) → (d : Construct) (head : Numbered) → construct_order d < suc (construct_order a) → StandsAt d head ts first → ⊥
none_more ts first a before here d head l s = go (below a d l)
  where
    go : (construct_order d < construct_order a) ⊎ (a ≡ d) → ⊥
    go (inl m) = before d head m s
    go (inr e) = here head (subst (λ (x : Construct). StandsAt x head ts first) (sym e) s)

-- the others come later, or no earlier and behind in order
abbrev Behind : Construct → Numbered → Construct → Numbered → Type 0
Behind c head d other = (head.number < other.number) ⊎ ((head.number ≡ other.number) × (construct_order c ≤ construct_order d))

behind_itself : (ts : List Token) (first : ℕ) (a d : Construct) (head other : Numbered) → StandsAt a head ts first → StandsAt d other ts first → a ≡ d → Behind a head d other
behind_itself ts first a d head other h s e =
    let same : head ≡ other = once_law a head other ts first h (subst (λ (x : Construct). StandsAt x other ts first) (sym e) s) in
    inr (ap (λ (x : Numbered). x.number) same, (let order : construct_order a ≡ construct_order d = ap construct_order e in omega arith))

first_one : (ts : List Token) (first : ℕ) (a : Construct) (head : Numbered) → ((d : Construct) (other : Numbered) → construct_order d < construct_order a → StandsAt d other ts first → ⊥)
    → StandsAt a head ts first → (d : Construct) (other : Numbered) → construct_order d < suc (construct_order a) → StandsAt d other ts first → Behind a head d other
first_one ts first a head b h d other l s = go (below a d l)
  where
    go : (construct_order d < construct_order a) ⊎ (a ≡ d) → Behind a head d other
    go (inl m) = absurd (b d other m s)
    go (inr e) = behind_itself ts first a d head other h s e

same_one : (ts : List Token) (first : ℕ) (c a : Construct) (one : Numbered) → ((d : Construct) (other : Numbered) → construct_order d < construct_order a → StandsAt d other ts first → Behind c one d other)
    → ((head : Numbered) → StandsAt a head ts first → Behind c one a head) → (d : Construct) (other : Numbered) → construct_order d < suc (construct_order a) → StandsAt d other ts first → Behind c one d other
same_one ts first c a one b h d other l s = go (below a d l)
  where
    go : (construct_order d < construct_order a) ⊎ (a ≡ d) → Behind c one d other
    go (inl m) = b d other m s
    go (inr e) = subst (λ (x : Construct). Behind c one x other) e (h other (subst (λ (x : Construct). StandsAt x other ts first) (sym e) s))

earlier_one : (ts : List Token) (first : ℕ) (c a : Construct) (one head : Numbered) → head.number < one.number
    → ((d : Construct) (other : Numbered) → construct_order d < construct_order a → StandsAt d other ts first → Behind c one d other)
    → StandsAt a head ts first → (d : Construct) (other : Numbered) → construct_order d < suc (construct_order a) → StandsAt d other ts first → Behind a head d other
earlier_one ts first c a one head n b h d other l s = go (below a d l)
  where
    further : Behind c one d other → Behind a head d other
    further (inl m) = inl (omega arith)
    further (inr m) = inl (let e = m.0 in omega arith)

    go : (construct_order d < construct_order a) ⊎ (a ≡ d) → Behind a head d other
    go (inl m) = further (b d other m s)
    go (inr e) = behind_itself ts first a d head other h s e

pub next_law : NextLaw
next_law ts first None a None b h = none_more ts first a b h
next_law ts first None a (Some head) b h = (omega arith, h, first_one ts first a head b h)
next_law ts first (Some (best c one)) a None b h = ((let l = b.0 in omega arith), b.1, same_one ts first c a one b.2 (λ head s. absurd (h head s)))
next_law ts first (Some (best c one)) a (Some head) b h = choose (nat_lt head.number one.number) refl
  where
    choose : (t : Bool) → nat_lt head.number one.number ≡ t → IsBest (suc (construct_order a)) ts first (if t then Some (best a head) else Some (best c one))
    choose true e = (omega arith, h, earlier_one ts first c a one head (ltb-true _ _ e) b.2 h)
    choose false e = (
      (let l = b.0 in omega arith),
      b.1,
      same_one ts first c a one b.2 (λ other s. no_earlier other (once_law a head other ts first h s)),
    )
      where
        no_earlier : (other : Numbered) → head ≡ other → Behind c one a other
        no_earlier other same = by (nat_lt one.number other.number) refl
          where
            by : (t : Bool) → nat_lt one.number other.number ≡ t → Behind c one a other
            by true k = inl (ltb-true _ _ k)
            by false k =
                let low : one.number ≤ head.number = not_below head.number one.number e in
                let high : other.number ≤ one.number = not_below one.number other.number k in
                let is : head.number ≡ other.number = ap (λ (x : Numbered). x.number) same in
                let order = b.0 in inr ((omega arith), (omega arith))

pub last_law : LastLaw
last_law ts first None b = λ d head s. b d head (there_are d) s
last_law ts first (Some (best c head)) b = (head.number, (b.1, λ d other s. b.2 d other (there_are d) s))
