-- The stack of symbols has its top at the end.
use Rattle.std.proofs.Common.{◌≡◌, ℕ, zero, suc, ◌-◌, ◌<◌, ◌≤◌, List, [], ◌∷◌, ◌++◌, length, take, drop, get_or, ◌∙◌, drop-cons, map, refl, sym, ap, arith}
use Rattle.std.proofs.lemmas.List.{reverse-append}
use Rattle.py_constructs.specs.Table.{profile_symbol, Symbol as PlainSymbol}
use Rattle.py_table.specs.PlainSymbols as profile
use Rattle.py_table.specs.declared.symbol.Symbol.{Symbol as ProfileSymbol}
use Rattle.py_outside.specs.PlainSymbols.{plain_symbol, plain_symbols}
use Rattle.py_outside.specs.Steps.{stack_of}
use Rattle.py_outside.specs.declared.symbol.Symbol.{Symbol}
use Rattle.py_outside.specs.declared.symbol.Symbol.TheVariants as symbol
use Rattle.py_outside.specs.declared.symbol.Name.TheVariants as name
use Rattle.py_outside.specs.declared.symbol.Action.TheVariants as action
use Rattle.py_table.specs.declared.symbol.Nonterminal.TheVariants as nonterminal
use Rattle.py_table.specs.declared.symbol.Action.TheVariants as profile_action
use Rattle.py_constructs.specs.Table.{goal}

pub stack_of_pushed : (xs : List Symbol) (x : Symbol) → stack_of (xs ++ x ∷ []) ≡ plain_symbol x ∷ stack_of xs
unfolding stack_of
stack_of_pushed xs x = ap (map plain_symbol) (reverse-append xs (x ∷ []))

pub stack_of_nothing : stack_of [] ≡ []
unfolding stack_of
stack_of_nothing = refl

pub ruleset stacks = (stack_of_pushed, stack_of_nothing)

-- a row is put on the stack from its end
pub own_before : (row : List Symbol) (i : ℕ) (d : Symbol) (xs : List Symbol) (below : List PlainSymbol) → 0 < i → i ≤ length row
    → stack_of xs ≡ plain_symbols (drop i row) ++ below → stack_of (xs ++ get_or row (i - 1) d ∷ []) ≡ plain_symbols (drop (i - 1) row) ++ below
own_before row zero d xs below p q h = absurd (omega arith)
own_before row (suc i) d xs below p q h =
    let less : i < length row = omega arith in
    let one : suc i - 1 ≡ i = omega arith in
    rw (one, drop-cons row i d, stack_of_pushed) (ap (λ (l : List PlainSymbol). plain_symbol (get_or row i d) ∷ l) h)

pub profile_before : (row : List ProfileSymbol) (i : ℕ) (d : ProfileSymbol) (x : Symbol) (xs : List Symbol) (below : List PlainSymbol) → 0 < i → i ≤ length row
    → plain_symbol x ≡ profile_symbol (profile.plain_symbol (get_or row (i - 1) d))
    → stack_of xs ≡ map profile_symbol (profile.plain_symbols (drop i row)) ++ below
    → stack_of (xs ++ x ∷ []) ≡ map profile_symbol (profile.plain_symbols (drop (i - 1) row)) ++ below
profile_before row zero d x xs below p q e h = absurd (omega arith)
profile_before row (suc i) d x xs below p q e h =
    let less : i < length row = omega arith in
    let one : suc i - 1 ≡ i = omega arith in
    let same : plain_symbol x ≡ profile_symbol (profile.plain_symbol (get_or row i d)) = e ∙ ap (λ (n : ℕ). profile_symbol (profile.plain_symbol (get_or row n d))) one in
    rw (one, drop-cons row i d, stack_of_pushed, same) (ap (λ (l : List PlainSymbol). profile_symbol (profile.plain_symbol (get_or row i d)) ∷ l) h)

-- where nothing is popped, nothing was there
pub none_left : (old new : List Symbol) {n : ℕ} → old ≡ new ++ [] → new ≡ take (n - 1) old → n ≡ 0 → stack_of old ≡ []
none_left old new e f h = ap stack_of (e ∙ ap (λ (x : List Symbol). x ++ []) (f ∙ ap (λ (n : ℕ). take (n - 1) old) h)) ∙ stack_of_nothing

-- the stack at the start
pub started : (a b c : List Symbol) → a ≡ [] → b ≡ a ++ symbol.Expand (name.Profile nonterminal.Module) ∷ [] → c ≡ b ++ symbol.Do (action.Own profile_action.BeginBody) ∷ [] → stack_of c ≡ goal
unfolding stack_of
started a b c e f h =
    ap stack_of (h ∙ ap (λ (x : List Symbol). x ++ symbol.Do (action.Own profile_action.BeginBody) ∷ []) (f ∙ ap (λ (x : List Symbol). x ++ symbol.Expand (name.Profile nonterminal.Module) ∷ []) e))

-- the last symbol is on top
pub top_of : (all symbols below : List Symbol) (top kept : Symbol) → symbols ≡ all → symbols ≡ below ++ top ∷ [] → top ≡ kept → stack_of all ≡ plain_symbol kept ∷ stack_of below
top_of all symbols below top kept e f g = ap stack_of (sym e ∙ f ∙ ap (λ (x : Symbol). below ++ x ∷ []) g) ∙ stack_of_pushed below kept

pub nothing_left : (all symbols : List Symbol) → symbols ≡ all → length symbols ≡ 0 → stack_of all ≡ []
nothing_left all [] e h = ap stack_of (sym e) ∙ stack_of_nothing
nothing_left all (x ∷ symbols) e h = absurd (omega arith)
