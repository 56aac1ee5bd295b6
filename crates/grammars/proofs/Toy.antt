-- A small grammar, to see that the definitions say what is meant: numbers, and brackets round lists of trees, each with
-- the sum of what is in it. A list goes on at a comma only while its sum is below ten.
use Rattle.std.proofs.Common.{◌≡◌, ℕ, ◌+◌, ◌≤◌, ◌==◌, arith, cond, Bool, true, false, nat_lt, List, [], ◌∷◌, refl, Some, None, inl, inr}
use Rattle.grammars.specs.Grammar.{Sym, Tok, Non, Do, Always, Where, Row, Grammar, Sight}
use Rattle.grammars.specs.Derivation.{Derives, Yields}
use Rattle.grammars.specs.Sets.{Sets, is_decided, is_start, is_completable}
use Rattle.grammars.specs.Least.{AreAbove, IsLow, IsMet}
use Rattle.grammars.specs.Run.{Done, Stuck, Late, run}
use Rattle.grammars.proofs.Complete.{one_value}
use Rattle.grammars.proofs.Least.{forced, reached}
use Rattle.grammars.proofs.Sound.{sound}

data Place : Type 0 where
  Tree : Place
  Items : Place
  Tail : Place

data Act : Type 0 where
  Sum : Act

data Piece : Type 0 where
  Open : Piece
  Close : Piece
  Comma : Piece
  Number : ℕ → Piece

abbrev kind : Piece → ℕ
kind Open = 1
kind Close = 2
kind Comma = 3
kind (Number n) = 4

abbrev take_in : Piece → List ℕ → List ℕ
take_in Open v = 0 ∷ v
take_in Close v = v
take_in Comma v = v
take_in (Number n) v = n ∷ v

abbrev act : Act → List ℕ → List ℕ
act Sum (a ∷ b ∷ v) = (b + a) ∷ v
act Sum (a ∷ []) = a ∷ []
act Sum [] = []

abbrev is_small : List ℕ → Bool
is_small [] = false
is_small (a ∷ v) = nat_lt a 10

abbrev row : List (Sym Place Act) → Row Place Act (List ℕ)
row symbols = record { guard = Always; symbols = symbols }

abbrev rows : Place → List (Row Place Act (List ℕ))
rows Tree = row (Tok 4 ∷ []) ∷ row (Tok 1 ∷ Non Items ∷ Tok 2 ∷ []) ∷ []
rows Items = row (Non Tree ∷ Do Sum ∷ Non Tail ∷ []) ∷ row [] ∷ []
rows Tail = record { guard = Where is_small; symbols = Tok 3 ∷ Non Tree ∷ Do Sum ∷ Non Tail ∷ [] } ∷ row [] ∷ []

abbrev toy : Grammar Place Act Piece (List ℕ)
toy = record { kind = kind; take_in = take_in; act = act; rows = rows }

abbrev nullable : Place → Bool
nullable Tree = false
nullable Items = true
nullable Tail = true

abbrev first : Place → List Sight
first Tree = Some 1 ∷ Some 4 ∷ []
first Items = Some 1 ∷ Some 4 ∷ []
first Tail = Some 3 ∷ []

abbrev follow : Place → List Sight
follow Tree = None ∷ Some 2 ∷ Some 3 ∷ []
follow Items = Some 2 ∷ []
follow Tail = Some 2 ∷ []

abbrev specimen : ℕ → Piece
specimen n = cond (n == 1) Open (cond (n == 2) Close (cond (n == 3) Comma (Number 0)))

abbrev sets : Sets Place Piece
sets = record { nullable = nullable; first = first; follow = follow; rank = λ x. 0; specimen = specimen }

-- the tests compute
decided : (x : Place) → is_decided toy sets x ≡ true
decided Tree = refl
decided _ = refl

completable : (x : Place) → is_completable toy sets x ≡ true
completable Tree = refl
completable _ = refl

start_decided : is_start {A = Act} sets (Non Tree ∷ []) ≡ true
start_decided = refl

-- (1,(2),3), with its sum
sentence : List Piece
sentence = Open ∷ Number 1 ∷ Comma ∷ Open ∷ Number 2 ∷ Close ∷ Comma ∷ Number 3 ∷ Close ∷ []

read_whole : run toy sets 30 (Non Tree ∷ []) [] sentence ≡ Done (6 ∷ [])
unfolding sentence
read_whole = refl

-- it has this value and no other
its_value : (w : List ℕ) → Yields toy (Non Tree ∷ []) [] sentence w → w ≡ 6 ∷ []
its_value w y = one_value toy sets decided (Non Tree ∷ []) [] sentence w (6 ∷ []) refl y (sound toy sets 30 (Non Tree ∷ []) [] sentence (6 ∷ []) read_whole)

-- a derivation by hand: ()
empty_brackets : Derives toy 4 (Non Tree ∷ []) [] (Open ∷ Close ∷ []) (0 ∷ [])
empty_brackets = (rows_of_brackets, inr (inl refl), refl, (Open, Close ∷ [], refl, refl, (row [], inr (inl refl), refl, (Close, [], refl, refl, (refl, refl)))))
  where
    rows_of_brackets : Row Place Act (List ℕ)
    rows_of_brackets = row (Tok 1 ∷ Non Items ∷ Tok 2 ∷ [])

-- too few steps
read_late : run toy sets 3 (Non Tree ∷ []) [] (Open ∷ Close ∷ []) ≡ Late
read_late = refl

-- (1,) is stuck at the bracket, (1 at the end, and 1 2 at the second number
stuck_at_bracket : run toy sets 30 (Non Tree ∷ []) [] (Open ∷ Number 1 ∷ Comma ∷ Close ∷ []) ≡ Stuck (Close ∷ [])
stuck_at_bracket = refl

stuck_at_end : run toy sets 30 (Non Tree ∷ []) [] (Open ∷ Number 1 ∷ []) ≡ Stuck []
stuck_at_end = refl

stuck_behind : run toy sets 30 (Non Tree ∷ []) [] (Number 1 ∷ Number 2 ∷ []) ≡ Stuck (Number 2 ∷ [])
stuck_behind = refl

-- by its guard the list ends at ten: (10,1)
stuck_by_guard : run toy sets 30 (Non Tree ∷ []) [] (Open ∷ Number 10 ∷ Comma ∷ Number 1 ∷ Close ∷ []) ≡ Stuck (Comma ∷ Number 1 ∷ Close ∷ [])
stuck_by_guard = refl

-- The tests refuse sets that are too small, and rows that one token does not tell apart: here the end of a list is not
-- known to come behind a tree, and here two rows begin with a bracket.
unfollowed : Sets Place Piece
unfollowed = record sets { follow = λ x. Some 2 ∷ [] }

unfollowed_refused : is_decided toy unfollowed Items ≡ false
unfolding unfollowed
unfollowed_refused = refl

alike : Grammar Place Act Piece (List ℕ)
alike = record toy { rows = λ x. row (Tok 1 ∷ Non Items ∷ Tok 2 ∷ []) ∷ row (Tok 1 ∷ Tok 2 ∷ []) ∷ [] }

alike_refused : is_decided alike sets Tree ≡ false
unfolding alike
alike_refused = refl

-- and rows that never come to an end: the only row without a guard goes back to where it began
endless : Grammar Place Act Piece (List ℕ)
endless = record toy { rows = λ x. row (Tok 1 ∷ Non Tree ∷ []) ∷ record { guard = Where is_small; symbols = [] } ∷ [] }

endless_refused : is_completable endless sets Tree ≡ false
unfolding endless
endless_refused = refl

-- Sums in an order, stack by stack. A tree is at least 0, and the rest may be nothing.
abbrev at_most : List ℕ → List ℕ → Type 0
at_most [] w = Unit {0}
at_most (a ∷ v) [] = ⊥
at_most (a ∷ v) (b ∷ w) = (a ≤ b) × at_most v w

abbrev low : Place → List ℕ → List ℕ
low Tree v = 0 ∷ v
low Items v = v
low Tail v = v

abbrev lowest : ℕ → List ℕ → List ℕ
lowest k v = take_in (specimen k) v

same : (v : List ℕ) → at_most v v
same [] = tt
same (a ∷ v) = (omega arith, same v)

further : (u v w : List ℕ) → at_most u v → at_most v w → at_most u w
further [] v w g h = tt
further (a ∷ u) [] w g h = absurd g
further (a ∷ u) (b ∷ v) [] g h = absurd h
further (a ∷ u) (b ∷ v) (c ∷ w) g h = let p = g.0 in let q = h.0 in (omega arith, further u v w g.1 h.1)

token : (t : Piece) (v : List ℕ) → at_most (lowest (kind t) v) (take_in t v)
token Open v = same (0 ∷ v)
token Close v = same v
token Comma v = same v
token (Number n) v = (omega arith, same v)

tokens : (t : Piece) (v w : List ℕ) → at_most v w → at_most (take_in t v) (take_in t w)
tokens Open v w h = (omega arith, h)
tokens Close v w h = h
tokens Comma v w h = h
tokens (Number n) v w h = (omega arith, h)

nonterminals : (x : Place) (v w : List ℕ) → at_most v w → at_most (low x v) (low x w)
nonterminals Tree v w h = (omega arith, h)
nonterminals Items v w h = h
nonterminals Tail v w h = h

actions : (a : Act) (v w : List ℕ) → at_most v w → at_most (act a v) (act a w)
actions Sum [] w h = tt
actions Sum (a ∷ []) [] h = absurd h
actions Sum (a ∷ []) (b ∷ []) h = h
actions Sum (a ∷ []) (b ∷ c ∷ w) h = let p = h.0 in (omega arith, tt)
actions Sum (a ∷ b ∷ v) [] h = absurd h
actions Sum (a ∷ b ∷ v) (c ∷ []) h = absurd h.1
actions Sum (a ∷ b ∷ v) (c ∷ d ∷ w) h = let p = h.0 in let q = h.1.0 in (omega arith, h.1.1)

one_more : (v : List ℕ) → at_most v (act Sum (0 ∷ v))
one_more [] = tt
one_more (a ∷ v) = (omega arith, same v)

above : (x : Place) → AreAbove at_most toy low lowest x (rows x)
above Tree = (λ v g. same (0 ∷ v), (λ v g. same (0 ∷ v), tt))
above Items = (λ v g. one_more v, (λ v g. same v, tt))
above Tail = (λ v g. one_more v, (λ v g. same v, tt))

is_low : IsLow at_most toy low lowest
is_low = record {
  same = same;
  further = further;
  token = token;
  tokens = λ k. tokens (specimen k);
  nonterminals = nonterminals;
  actions = actions;
  rows = above;
}

met : (x : Place) (v : List ℕ) → IsMet toy sets low lowest x v
met Tree v = (row (Tok 4 ∷ []), inl refl, refl, refl, refl, refl)
met Items v = (row [], inr (inl refl), refl, refl, refl, refl)
met Tail v = (row [], inr (inl refl), refl, refl, refl, refl)

-- no tree has less than 0, and some tree has it
no_less : (ts : List Piece) (a : ℕ) → Yields toy (Non Tree ∷ []) [] ts (a ∷ []) → 0 ≤ a
no_less ts a y = (forced at_most toy low lowest is_low (Non Tree ∷ []) [] ts (a ∷ []) y).0

reaches : (ts : List Piece) × Yields toy (Non Tree ∷ []) [] ts (0 ∷ [])
reaches = reached toy sets low lowest (record { token = λ k v. refl; rows = met }) (Non Tree ∷ []) [] refl
