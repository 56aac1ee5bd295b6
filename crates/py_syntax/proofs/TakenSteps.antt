-- Steps of the table's derivations, written from the end: what comes behind is given, and one symbol is put before it.
use Rattle.std.proofs.Common.{◌≡◌, ℕ, zero, suc, Bool, true, false, List, [], ◌∷◌, ◌++◌, inl, inr, refl, sym, subst}
use Rattle.std.specs.Prelude.{◌&&◌}
use Rattle.grammars.specs.Grammar.{Tok, Non, Do, IsRow, Row, allows}
use Rattle.grammars.specs.Derivation.{Yields}
use Rattle.grammars.proofs.Bools.{and_left, and_right}
use Rattle.grammars.proofs.Steps.{by_token, by_action, by_row}
use Rattle.py_syntax.specs.Token.{TName, Token, At}
use Rattle.py_syntax.specs.Kinds.{kind_of}
use Rattle.py_syntax.specs.Tree.{NameAt}
use Rattle.py_syntax.specs.Build.{Parts, PToken, Action, act}
use Rattle.py_syntax.specs.Grammar.{IsName}
use Rattle.py_syntax.specs.Table.{Nonterminal, AnyName, Symbol, row, rows, table}

-- one of some rows, by its number
abbrev pub row_at : ℕ → List (Row Nonterminal Action Parts) → Row Nonterminal Action Parts
row_at n [] = row []
row_at zero (r ∷ others) = r
row_at (suc n) (r ∷ others) = row_at n others

abbrev pub has_row : ℕ → List (Row Nonterminal Action Parts) → Bool
has_row n [] = false
has_row zero (r ∷ others) = true
has_row (suc n) (r ∷ others) = has_row n others

is_row_at : (n : ℕ) (rs : List (Row Nonterminal Action Parts)) → has_row n rs ≡ true → IsRow (row_at n rs) rs
is_row_at zero [] h = absurd (cc)
is_row_at (suc n) [] h = absurd (cc)
is_row_at zero (r ∷ rs) h = inl refl
is_row_at (suc n) (r ∷ rs) h = inr (is_row_at n rs h)

-- a row by its number, where its guard is proved to allow it
pub take_guarded : {x : Nonterminal} {behind : List Symbol} {v : Parts} {ts : List Token} {w : Parts} (n : ℕ) → has_row n (rows x) ≡ true
    → allows (row_at n (rows x)).guard v ≡ true
    → Yields table ((row_at n (rows x)).symbols ++ behind) v ts w → Yields table (Non x ∷ behind) v ts w
take_guarded {x} {behind} {v} {ts} {w} n h g y = by_row table x (row_at n (rows x)) behind v ts w (is_row_at n (rows x) h) g y

-- a row by its number, where it computes that its guard allows it
pub take : {x : Nonterminal} {behind : List Symbol} {v : Parts} {ts : List Token} {w : Parts} (n : ℕ)
    → has_row n (rows x) && allows (row_at n (rows x)).guard v ≡ true
    → Yields table ((row_at n (rows x)).symbols ++ behind) v ts w → Yields table (Non x ∷ behind) v ts w
take {x} {behind} {v} n h y =
    take_guarded n (and_left (has_row n (rows x)) (allows (row_at n (rows x)).guard v) h) (and_right (has_row n (rows x)) (allows (row_at n (rows x)).guard v) h) y

-- a token is read
pub read : {t : Token} {symbols : List Symbol} {v : Parts} {ts rest : List Token} {w : Parts} → ts ≡ t ∷ rest
    → Yields table symbols (PToken t ∷ v) rest w → Yields table (Tok (kind_of t) ∷ symbols) v ts w
read {t} {symbols} {v} {ts} {rest} {w} h y =
    subst (λ (x : List Token). Yields table (Tok (kind_of t) ∷ symbols) v x w) (sym h) (by_token table t symbols v rest w y)

-- an action is done
pub perform : {a : Action} {symbols : List Symbol} {v : Parts} {ts : List Token} {w : Parts}
    → Yields table symbols (act a v) ts w → Yields table (Do a ∷ symbols) v ts w
perform {a} {symbols} {v} {ts} {w} y = by_action table a symbols v ts w y

-- the same tokens, the same parts
pub with_tokens : {symbols : List Symbol} {v : Parts} {ts rest : List Token} {w : Parts} → ts ≡ rest
    → Yields table symbols v rest w → Yields table symbols v ts w
with_tokens {symbols} {v} {ts} {rest} {w} h y = subst (λ (x : List Token). Yields table symbols v x w) (sym h) y

pub with_parts : {symbols : List Symbol} {v u : Parts} {ts : List Token} {w : Parts} → v ≡ u
    → Yields table symbols u ts w → Yields table symbols v ts w
with_parts {symbols} {v} {u} {ts} {w} h y = subst (λ (x : Parts). Yields table symbols x ts w) (sym h) y

read_name_of : {x : NameAt} {symbols : List Symbol} {v : Parts} {ts rest : List Token} {w : Parts} (ascii : Bool)
    → ts ≡ At x.place (TName ascii x.name) ∷ rest → Yields table symbols (PToken (At x.place (TName ascii x.name)) ∷ v) rest w
    → Yields table (Non AnyName ∷ symbols) v ts w
read_name_of true h y = take 0 refl (read h y)
read_name_of false h y = take 1 refl (read h y)

-- a name of any characters
pub read_name : {x : NameAt} {symbols : List Symbol} {v : Parts} {ts rest : List Token} {w : Parts} (h : IsName x ts rest)
    → Yields table symbols (PToken (At x.place (TName h.0 x.name)) ∷ v) rest w → Yields table (Non AnyName ∷ symbols) v ts w
read_name h y = read_name_of h.0 h.1 y
