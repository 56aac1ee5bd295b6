-- The sets by which one token of sight decides (nullable, first and follow sets), and tests of them that compute.
-- A set is a list of sights in rising order: with the test `is_within`, one pass tells that one set lies in another.
use Rattle.std.specs.Prelude.{ℕ, Bool, true, false, cond, not, ◌&&◌, ◌||◌, ◌==◌, nat_lt, List, [], ◌∷◌, ◌++◌, Some, None}
use Rattle.grammars.specs.Grammar.{Sym, Tok, Non, Do, Guard, Always, Where, Row, Grammar, Sight}

pub record Sets (N T : Type 0) : Type 0 where
  -- whether it may derive no token
  pub nullable : N → Bool
  -- what it may begin with
  pub first : N → List Sight
  -- what may come behind it
  pub follow : N → List Sight
  -- how deep its exit row goes: that row has nonterminals of lower rank alone
  pub rank : N → ℕ
  -- a token of each kind
  pub specimen : ℕ → T

abbrev pub same_sight : Sight → Sight → Bool
same_sight None None = true
same_sight (Some a) (Some b) = a == b
same_sight None (Some b) = false
same_sight (Some a) None = false

abbrev pub has : List Sight → Sight → Bool
has [] s = false
has (a ∷ sights) s = same_sight a s || has sights s

-- goes on with what comes behind the first a
abbrev pub skip_to : Sight → (List Sight → Bool) → List Sight → Bool
skip_to a again [] = false
skip_to a again (b ∷ sights) = elim (same_sight a b) [ true ↦ again sights | false ↦ skip_to a again sights ]

-- all these sights are among those, in the same order
abbrev pub is_within : List Sight → List Sight → Bool
is_within [] those = true
is_within (a ∷ these) those = skip_to a (is_within these) those

-- no sight is in both
abbrev pub are_apart : List Sight → List Sight → Bool
are_apart [] those = true
are_apart (a ∷ these) those = not (has those a) && are_apart these those

-- whether the symbols may derive no token
abbrev pub are_nullable : {N A T : Type 0} → Sets N T → List (Sym N A) → Bool
are_nullable S [] = true
are_nullable S (Tok k ∷ symbols) = false
are_nullable S (Non x ∷ symbols) = S.nullable x && are_nullable S symbols
are_nullable S (Do a ∷ symbols) = are_nullable S symbols

-- the sights at which what the symbols derive may begin, where `behind` comes behind them
abbrev pub ahead : {N A T : Type 0} → Sets N T → List Sight → List (Sym N A) → List Sight
ahead S behind [] = behind
ahead S behind (Tok k ∷ symbols) = Some k ∷ []
ahead S behind (Non x ∷ symbols) = S.first x ++ cond (S.nullable x) (ahead S behind symbols) []
ahead S behind (Do a ∷ symbols) = ahead S behind symbols

-- those sights are all among these
abbrev pub is_ahead_within : {N A T : Type 0} → Sets N T → List Sight → List (Sym N A) → List Sight → Bool
is_ahead_within S behind [] sights = is_within behind sights
is_ahead_within S behind (Tok k ∷ symbols) sights = has sights (Some k)
is_ahead_within S behind (Non x ∷ symbols) sights =
    is_within (S.first x) sights && (not (S.nullable x) || is_ahead_within S behind symbols sights)
is_ahead_within S behind (Do a ∷ symbols) sights = is_ahead_within S behind symbols sights

-- the follow set of each nonterminal among the symbols has what may come behind it here
abbrev pub are_followed : {N A T : Type 0} → Sets N T → List Sight → List (Sym N A) → Bool
are_followed S behind [] = true
are_followed S behind (Tok k ∷ symbols) = are_followed S behind symbols
are_followed S behind (Non x ∷ symbols) = is_ahead_within S behind symbols (S.follow x) && are_followed S behind symbols
are_followed S behind (Do a ∷ symbols) = are_followed S behind symbols

-- the sets are closed under these rows of x
abbrev pub are_closed : {N A T V : Type 0} → Sets N T → N → List (Row N A V) → Bool
are_closed S x [] = true
are_closed S x (r ∷ rows) =
    (not (are_nullable S r.symbols) || S.nullable x) && is_ahead_within S [] r.symbols (S.first x)
    && are_followed S (S.follow x) r.symbols && are_closed S x rows

-- none of these rows of x is taken at one of these sights
abbrev pub is_apart_from : {N A T V : Type 0} → Sets N T → N → List Sight → List (Row N A V) → Bool
is_apart_from S x sights [] = true
is_apart_from S x sights (r ∷ rows) = are_apart (ahead S (S.follow x) r.symbols) sights && is_apart_from S x sights rows

-- one token of sight tells these rows of x apart, whatever their guards
abbrev pub are_told_apart : {N A T V : Type 0} → Sets N T → N → List (Row N A V) → Bool
are_told_apart S x [] = true
are_told_apart S x (r ∷ rows) = is_apart_from S x (ahead S (S.follow x) r.symbols) rows && are_told_apart S x rows

-- The test of a nonterminal that one token of sight wants. With it for each nonterminal, the grammar is LL(1).
abbrev pub is_decided : {N A T V : Type 0} → Grammar N A T V → Sets N T → N → Bool
is_decided G S x = are_closed S x (G.rows x) && are_told_apart S x (G.rows x)

-- the test of the symbols from which one starts, with the end behind them
abbrev pub is_start : {N A T : Type 0} → Sets N T → List (Sym N A) → Bool
is_start S symbols = are_followed S (None ∷ []) symbols

-- the nonterminals among the symbols have ranks below n
abbrev pub are_below : {N A T : Type 0} → Sets N T → ℕ → List (Sym N A) → Bool
are_below S n [] = true
are_below S n (Tok k ∷ symbols) = are_below S n symbols
are_below S n (Non x ∷ symbols) = nat_lt (S.rank x) n && are_below S n symbols
are_below S n (Do a ∷ symbols) = are_below S n symbols

-- there is a token of each kind among the symbols
abbrev pub have_specimens : {N A T V : Type 0} → Grammar N A T V → Sets N T → List (Sym N A) → Bool
have_specimens G S [] = true
have_specimens G S (Tok k ∷ symbols) = (G.kind (S.specimen k) == k) && have_specimens G S symbols
have_specimens G S (Non x ∷ symbols) = have_specimens G S symbols
have_specimens G S (Do a ∷ symbols) = have_specimens G S symbols

abbrev pub have_all_specimens : {N A T V : Type 0} → Grammar N A T V → Sets N T → List (Row N A V) → Bool
have_all_specimens G S [] = true
have_all_specimens G S (r ∷ rows) = have_specimens G S r.symbols && have_all_specimens G S rows

abbrev pub is_unguarded : {V : Type 0} → Guard V → Bool
is_unguarded Always = true
is_unguarded (Where test) = false

-- one of the rows is an exit: it has no guard, and all its nonterminals have ranks below n
abbrev pub have_exit : {N A T V : Type 0} → Sets N T → ℕ → List (Row N A V) → Bool
have_exit S n [] = false
have_exit S n (r ∷ rows) = (is_unguarded r.guard && are_below S n r.symbols) || have_exit S n rows

-- The test of a nonterminal that a completion wants: whatever the value, something is derived.
abbrev pub is_completable : {N A T V : Type 0} → Grammar N A T V → Sets N T → N → Bool
is_completable G S x = have_exit S (S.rank x) (G.rows x) && have_all_specimens G S (G.rows x)
