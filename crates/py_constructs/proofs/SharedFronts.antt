-- Runs over tokens that begin alike come to the same place.
use Rattle.std.proofs.Common.{◌≡◌, ℕ, zero, suc, ◌+◌, Bool, true, false, cond, ◌==◌, if◌then◌else◌, List, [], ◌∷◌, ◌++◌, length, Option, Some, None, refl, sym, ap, ◌∙◌, subst, arith}
use Rattle.std.proofs.lemmas.Option.{none-some, same_Some}
use Rattle.grammars.specs.Grammar.{Tok, Non, Do, Row}
use Rattle.grammars.specs.Run.{Done, Stuck, pick, expand, run}
use Rattle.grammars.proofs.Rows.{pick_is_row}
use Rattle.py_syntax.specs.Token.{Token}
use Rattle.py_syntax.specs.Kinds.{kind_of}
use Rattle.py_constructs.specs.Construct.{Construct}
use Rattle.py_constructs.specs.Values.{Value, take_in, Action, Own, Head, Hold, Forget, Plain, TellTargets, TellLoop, HoldSlice, act}
use Rattle.py_constructs.specs.Table.{Name, Symbol, extended, sets}
use Rattle.py_constructs.specs.Reached.{heads_follow}
use Rattle.py_constructs.specs.FrontRead.{Standing, at, through, front_read}
use Rattle.py_constructs.proofs.HeadsFollow.{headed_row, headed_later, headed_joined}

-- what holds of a run that ends, where it has read the front
abbrev pub Splits : Construct → ℕ → List Symbol → Value → List Token → List Token → Value → Type 0
Splits c n symbols v front more w =
    (rest : List Symbol) × (u : Value) × (m : ℕ) × (front_read c n symbols v front ≡ Some (at rest u)) × (run (extended c) sets m rest u more ≡ Done w)

pub splits : (c : Construct) (n : ℕ) (symbols : List Symbol) (v : Value) (front more : List Token) (w : Value)
    → run (extended c) sets n symbols v (front ++ more) ≡ Done w → Splits c n symbols v front more w
splits c n symbols v [] more w h = (symbols, v, n, refl, h)
splits c zero [] v (t ∷ front) more w h = absurd (cc)
splits c zero (s ∷ symbols) v (t ∷ front) more w h = absurd (cc)
splits c (suc n) [] v (t ∷ front) more w h = absurd (cc)
splits c (suc n) (Tok k ∷ symbols) v (t ∷ front) more w h = go (kind_of t == k) refl h (λ e. splits c n symbols (take_in t v) front more w e)
  where
    go : (b : Bool) → (kind_of t == k) ≡ b → cond b (run (extended c) sets n symbols (take_in t v) (front ++ more)) (Stuck (t ∷ front ++ more)) ≡ Done w
        → (run (extended c) sets n symbols (take_in t v) (front ++ more) ≡ Done w → Splits c n symbols (take_in t v) front more w)
        → Splits c (suc n) (Tok k ∷ symbols) v (t ∷ front) more w
    go true e p again = let s = again p in (s.0, s.1, s.2, ap (λ (b : Bool). if b then front_read c n symbols (take_in t v) front else None) e ∙ s.3, s.4)
    go false e p again = absurd (cc)
splits c (suc n) (Non x ∷ symbols) v (t ∷ front) more w h = go (pick (extended c) sets x v (Some (kind_of t))) refl h (λ ss e. splits c n ss v (t ∷ front) more w e)
  where
    go : (o : Option (Row Name Action Value)) → pick (extended c) sets x v (Some (kind_of t)) ≡ o → expand (run (extended c) sets n) symbols v (t ∷ front ++ more) o ≡ Done w
        → ((ss : List Symbol) → run (extended c) sets n ss v (t ∷ front ++ more) ≡ Done w → Splits c n ss v (t ∷ front) more w)
        → Splits c (suc n) (Non x ∷ symbols) v (t ∷ front) more w
    go None e p again = absurd (cc)
    go (Some r) e p again =
        let s = again (r.symbols ++ symbols) p in
        (s.0, s.1, s.2, ap (through (λ ss. front_read c n ss v (t ∷ front)) symbols) e ∙ s.3, s.4)
splits c (suc n) (Do a ∷ symbols) v (t ∷ front) more w h = let s = splits c n symbols (act a v) (t ∷ front) more w h in (s.0, s.1, s.2, s.3, s.4)

-- more steps make no difference
longer : (c : Construct) (n : ℕ) (symbols : List Symbol) (v : Value) (front : List Token) (p : Standing) → front_read c n symbols v front ≡ Some p → front_read c (suc n) symbols v front ≡ Some p
longer c n symbols v [] p h = h
longer c zero symbols v (t ∷ front) p h = absurd (none-some p h)
longer c (suc n) [] v (t ∷ front) p h = absurd (none-some p h)
longer c (suc n) (Tok k ∷ symbols) v (t ∷ front) p h = go (kind_of t == k) h (longer c n symbols (take_in t v) front p)
  where
    go : (b : Bool) → (if b then front_read c n symbols (take_in t v) front else None) ≡ Some p
        → (front_read c n symbols (take_in t v) front ≡ Some p → front_read c (suc n) symbols (take_in t v) front ≡ Some p)
        → (if b then front_read c (suc n) symbols (take_in t v) front else None) ≡ Some p
    go true e again = again e
    go false e again = absurd (none-some p e)
longer c (suc n) (Non x ∷ symbols) v (t ∷ front) p h = go (pick (extended c) sets x v (Some (kind_of t))) h (λ ss. longer c n ss v (t ∷ front) p)
  where
    go : (o : Option (Row Name Action Value)) → through (λ ss. front_read c n ss v (t ∷ front)) symbols o ≡ Some p
        → ((ss : List Symbol) → front_read c n ss v (t ∷ front) ≡ Some p → front_read c (suc n) ss v (t ∷ front) ≡ Some p)
        → through (λ ss. front_read c (suc n) ss v (t ∷ front)) symbols o ≡ Some p
    go None e again = absurd (none-some p e)
    go (Some r) e again = again (r.symbols ++ symbols) e
longer c (suc n) (Do a ∷ symbols) v (t ∷ front) p h = longer c n symbols (act a v) (t ∷ front) p h

much_longer : (c : Construct) (k n : ℕ) (symbols : List Symbol) (v : Value) (front : List Token) (p : Standing) → front_read c n symbols v front ≡ Some p → front_read c (k + n) symbols v front ≡ Some p
much_longer c zero n symbols v front p h = let e : zero + n ≡ n = omega arith in rw e h
much_longer c (suc k) n symbols v front p h = let e : suc k + n ≡ suc (k + n) = omega arith in rw e (longer c (k + n) symbols v front p (much_longer c k n symbols v front p h))

pub one_place : (c : Construct) (n m : ℕ) (symbols : List Symbol) (v : Value) (front : List Token) (p q : Standing) → front_read c n symbols v front ≡ Some p → front_read c m symbols v front ≡ Some q → p ≡ q
one_place c n m symbols v front p q h k =
    let one = much_longer c m n symbols v front p h in
    let other = much_longer c n m symbols v front q k in
    let e : m + n ≡ n + m = omega arith in
    same_Some p q (sym one ∙ ap (λ (i : ℕ). front_read c i symbols v front) e ∙ other)

-- there, each head still comes just behind its token, and so many tokens more were read
pub place_headed : (c : Construct) (n : ℕ) (symbols rest : List Symbol) (v u : Value) (front : List Token) → heads_follow true symbols ≡ true → front_read c n symbols v front ≡ Some (at rest u)
    → (heads_follow true rest ≡ true) × (u.read ≡ length front + v.read)
place_headed c n symbols rest v u [] h e =
    let same : at symbols v ≡ at rest u = same_Some _ _ e in
    (subst (λ (s : List Symbol). heads_follow true s ≡ true) (ap symbols_at same) h, (let read : u.read ≡ v.read = ap (λ (s : Standing). (value_at s).read) (sym same) in omega arith))
  where
    symbols_at : Standing → List Symbol
    symbols_at (at s x) = s

    value_at : Standing → Value
    value_at (at s x) = x
place_headed c zero symbols rest v u (t ∷ front) h e = absurd (none-some _ e)
place_headed c (suc n) [] rest v u (t ∷ front) h e = absurd (none-some _ e)
place_headed c (suc n) (Tok k ∷ symbols) rest v u (t ∷ front) h e = go (kind_of t == k) e (place_headed c n symbols rest (take_in t v) u front h)
  where
    go : (b : Bool) → (if b then front_read c n symbols (take_in t v) front else None) ≡ Some (at rest u)
        → (front_read c n symbols (take_in t v) front ≡ Some (at rest u) → (heads_follow true rest ≡ true) × (u.read ≡ length front + suc v.read))
        → (heads_follow true rest ≡ true) × (u.read ≡ suc (length front) + v.read)
    go true p again = let a = again p in (a.0, (let r = a.1 in omega arith))
    go false p again = absurd (none-some _ p)
place_headed c (suc n) (Non x ∷ symbols) rest v u (t ∷ front) h e = go (pick (extended c) sets x v (Some (kind_of t))) refl e (λ ss k. place_headed c n ss rest v u (t ∷ front) k)
  where
    go : (o : Option (Row Name Action Value)) → pick (extended c) sets x v (Some (kind_of t)) ≡ o → through (λ ss. front_read c n ss v (t ∷ front)) symbols o ≡ Some (at rest u)
        → ((ss : List Symbol) → heads_follow true ss ≡ true → front_read c n ss v (t ∷ front) ≡ Some (at rest u) → (heads_follow true rest ≡ true) × (u.read ≡ suc (length front) + v.read))
        → (heads_follow true rest ≡ true) × (u.read ≡ suc (length front) + v.read)
    go None k p again = absurd (none-some _ p)
    go (Some r) k p again =
        let i = pick_is_row (extended c) sets x v (Some (kind_of t)) r k in
        again (r.symbols ++ symbols) (headed_later (r.symbols ++ symbols) (headed_joined false r.symbols symbols (headed_row c x r i.0) h)) p
place_headed c (suc n) (Do Head ∷ symbols) rest v u (t ∷ front) h e = place_headed c n symbols rest (act Head v) u (t ∷ front) (headed_later symbols h) e
place_headed c (suc n) (Do Hold ∷ symbols) rest v u (t ∷ front) h e = place_headed c n symbols rest (act Hold v) u (t ∷ front) (headed_later symbols h) e
place_headed c (suc n) (Do Forget ∷ symbols) rest v u (t ∷ front) h e = place_headed c n symbols rest (act Forget v) u (t ∷ front) (headed_later symbols h) e
place_headed c (suc n) (Do Plain ∷ symbols) rest v u (t ∷ front) h e = place_headed c n symbols rest (act Plain v) u (t ∷ front) (headed_later symbols h) e
place_headed c (suc n) (Do TellTargets ∷ symbols) rest v u (t ∷ front) h e = place_headed c n symbols rest (act TellTargets v) u (t ∷ front) (headed_later symbols h) e
place_headed c (suc n) (Do TellLoop ∷ symbols) rest v u (t ∷ front) h e = place_headed c n symbols rest (act TellLoop v) u (t ∷ front) (headed_later symbols h) e
place_headed c (suc n) (Do HoldSlice ∷ symbols) rest v u (t ∷ front) h e = place_headed c n symbols rest (act HoldSlice v) u (t ∷ front) (headed_later symbols h) e
place_headed c (suc n) (Do (Own a) ∷ symbols) rest v u (t ∷ front) h e = place_headed c n symbols rest (act (Own a) v) u (t ∷ front) (headed_later symbols h) e
