-- The stack of symbols has its top at the end.
use Rattle.std.proofs.Common.{◌≡◌, ℕ, zero, suc, ◌-◌, ◌<◌, ◌≤◌, List, [], ◌∷◌, ◌++◌, length, take, drop, get_or, ◌∙◌, drop-cons, map, refl, ap, arith}
use Rattle.std.proofs.lemmas.List.{reverse-append}
use Rattle.py_table.specs.PlainSymbols.{plain_symbol, plain_symbols}
use Rattle.py_syntax.specs.Table.{Symbol as PlainSymbol}
use Rattle.py_table.specs.Steps.{stack_of}
use Rattle.py_table.specs.declared.symbol.Symbol.{Symbol}
use Rattle.py_table.specs.declared.symbol.Symbol.TheVariants as symbol
use Rattle.py_table.specs.declared.symbol.Nonterminal.TheVariants as nonterminal
use Rattle.py_table.specs.declared.symbol.Action.TheVariants as action
use Rattle.py_syntax.specs.Laws.{goal}

pub stack_of-push : (xs : List Symbol) (x : Symbol) → stack_of (xs ++ x ∷ []) ≡ plain_symbol x ∷ stack_of xs
unfolding stack_of
stack_of-push xs x = ap (map plain_symbol) (reverse-append xs (x ∷ []))

pub stack_of-nothing : stack_of [] ≡ []
unfolding stack_of
stack_of-nothing = refl

pub ruleset stacks = (stack_of-push, stack_of-nothing)

-- a row is put on the stack from its end
pub push_before : (row : List Symbol) (i : ℕ) (d : Symbol) (xs : List Symbol) (below : List PlainSymbol) → 0 < i → i ≤ length row
    → stack_of xs ≡ plain_symbols (drop i row) ++ below → stack_of (xs ++ get_or row (i - 1) d ∷ []) ≡ plain_symbols (drop (i - 1) row) ++ below
push_before row zero d xs below p q h = absurd (omega arith)
push_before row (suc i) d xs below p q h =
    let less : i < length row = omega arith in
    let one : suc i - 1 ≡ i = omega arith in
    rw (one, drop-cons row i d, stack_of-push) (ap (λ (l : List PlainSymbol). plain_symbol (get_or row i d) ∷ l) h)

-- where nothing is popped, nothing was there
pub none_left : (old new : List Symbol) {n : ℕ} → old ≡ new ++ [] → new ≡ take (n - 1) old → n ≡ 0 → stack_of old ≡ []
none_left old new e f h = ap stack_of (e ∙ ap (λ (x : List Symbol). x ++ []) (f ∙ ap (λ (n : ℕ). take (n - 1) old) h)) ∙ stack_of-nothing

-- the stack at the start
pub started : (a b c : List Symbol) → a ≡ [] → b ≡ a ++ symbol.Expand nonterminal.Module ∷ [] → c ≡ b ++ symbol.Do action.BeginBody ∷ [] → stack_of c ≡ goal
unfolding stack_of
started a b c e f h = ap stack_of (h ∙ ap (λ (x : List Symbol). x ++ symbol.Do action.BeginBody ∷ []) (f ∙ ap (λ (x : List Symbol). x ++ symbol.Expand nonterminal.Module ∷ []) e))
