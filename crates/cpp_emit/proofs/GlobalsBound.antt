-- What the rule on reads and the list of globals say of the names of a body.
use Rattle.std.proofs.Common.{◌≡◌, List, [], ◌∷◌, ◌++◌, Bool, true, false, refl, sym, ap, ◌∙◌, subst}
use Rattle.std.specs.Prelude.{◌||◌, if◌then◌else◌}
use Rattle.grammars.proofs.Bools.{on_right}
use Rattle.py_meaning.specs.Name.{Name, same_name}
use Rattle.py_meaning.specs.Rules.{has_name}
use Rattle.py_meaning.specs.Binding.{once}
use Rattle.cpp_emit.proofs.NamesApart.{same_is, same_self}

-- the names of two lists
has_more : (names others : List Name) (x : Name) (same : Bool) → (has_name names x ≡ true → has_name (names ++ others) x ≡ true) → (same || has_name names x) ≡ true → (same || has_name (names ++ others) x) ≡ true
has_more names others x true later h = refl
has_more names others x false later h = later h

pub has_front : (names others : List Name) (x : Name) → has_name names x ≡ true → has_name (names ++ others) x ≡ true
has_front [] others x h = cc
has_front (y ∷ names) others x h = has_more names others x (same_name y x) (λ l. has_front names others x l) h

pub has_back : (names others : List Name) (x : Name) → has_name others x ≡ true → has_name (names ++ others) x ≡ true
has_back [] others x h = h
has_back (y ∷ names) others x h = on_right (same_name y x) (has_name (names ++ others) x) (has_back names others x h)

-- a name is among those that are kept once, unless it was there before
once_here : (y : Name) (same seen_y : Bool) (seen names : List Name) (x : Name) → same_name y x ≡ same → has_name seen y ≡ seen_y → has_name seen x ≡ false → (same || has_name names x) ≡ true → ((now : List Name) → has_name names x ≡ true → has_name now x ≡ false → has_name (once now names) x ≡ true) → has_name (if seen_y then once seen names else y ∷ once (y ∷ seen) names) x ≡ true
once_here y true true seen names x same seen_y unseen there later =
    let is : has_name seen x ≡ true = subst (λ z. has_name seen z ≡ true) (same_is y x same) seen_y in cc
once_here y false true seen names x same seen_y unseen there later = later seen there unseen
once_here y true false seen names x same seen_y unseen there later = ap (λ b. b || has_name (once (y ∷ seen) names) x) same
once_here y false false seen names x same seen_y unseen there later =
    ap (λ b. b || has_name (once (y ∷ seen) names) x) same
    ∙ later (y ∷ seen) there (ap (λ b. b || has_name seen x) same ∙ unseen)

pub once_has : (names seen : List Name) (x : Name) → has_name names x ≡ true → has_name seen x ≡ false → has_name (once seen names) x ≡ true
once_has [] seen x there unseen = cc
once_has (y ∷ names) seen x there unseen =
    once_here y (same_name y x) (has_name seen y) seen names x refl refl unseen there (λ now b u. once_has names now x b u)

-- the list has each name once
abbrev pub AreDistinct : List Name → Type 0
AreDistinct [] = Unit {0}
AreDistinct (x ∷ names) = (has_name names x ≡ false) × AreDistinct names

-- what was there before is not in the list
not_again : (y : Name) (same seen_y : Bool) (seen names : List Name) (x : Name) → same_name y x ≡ same → has_name seen y ≡ seen_y → has_name seen x ≡ true → ((now : List Name) → has_name now x ≡ true → has_name (once now names) x ≡ false) → has_name (if seen_y then once seen names else y ∷ once (y ∷ seen) names) x ≡ false
not_again y same true seen names x is seen_y was later = later seen was
not_again y true false seen names x is seen_y was later =
    let known : has_name seen y ≡ true = subst (λ z. has_name seen z ≡ true) (sym (same_is y x is)) was in cc
not_again y false false seen names x is seen_y was later =
    ap (λ b. b || has_name (once (y ∷ seen) names) x) is
    ∙ later (y ∷ seen) (ap (λ b. b || has_name seen x) is ∙ was)

once_lacks : (names seen : List Name) (x : Name) → has_name seen x ≡ true → has_name (once seen names) x ≡ false
once_lacks [] seen x was = refl
once_lacks (y ∷ names) seen x was =
    not_again y (same_name y x) (has_name seen y) seen names x refl refl was (λ now w. once_lacks names now x w)

distinct_here : (y : Name) (seen_y : Bool) (seen names : List Name) → ((now : List Name) → AreDistinct (once now names)) → AreDistinct (if seen_y then once seen names else y ∷ once (y ∷ seen) names)
distinct_here y true seen names later = later seen
distinct_here y false seen names later =
    (once_lacks names (y ∷ seen) y (ap (λ b. b || has_name seen y) (same_self y)), later (y ∷ seen))

pub once_distinct : (names seen : List Name) → AreDistinct (once seen names)
once_distinct [] seen = tt
once_distinct (y ∷ names) seen = distinct_here y (has_name seen y) seen names (λ now. once_distinct names now)
