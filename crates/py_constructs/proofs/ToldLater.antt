-- What is told when a front has been read stays; and what is told later is known by a later token.
use Rattle.std.proofs.Common.{◌≡◌, ℕ, zero, suc, ◌<◌, true, false, List, [], ◌∷◌, ◌++◌, Option, Some, None, refl, sym, ap, ◌∙◌, subst, arith}
use Rattle.std.proofs.lemmas.Option.{none-some, same_Some}
use Rattle.grammars.specs.Grammar.{Tok, Non, Do}
use Rattle.grammars.specs.Derivation.{Derives}
use Rattle.py_syntax.specs.Token.{Token}
use Rattle.py_constructs.specs.Construct.{Construct}
use Rattle.py_constructs.specs.Values.{Numbered, Told, Value, told_so, last_token, head_of_last, loop_head, less, take_in, Own, Head, Hold, Forget, Plain, TellTargets, TellLoop, HoldSlice, act}
use Rattle.py_constructs.specs.Table.{Symbol, extended}
use Rattle.py_constructs.specs.Reached.{heads_follow, settled}
use Rattle.py_constructs.proofs.HeadsFollow.{headed_row, headed_later, headed_joined}

-- by what is told so far: the same, or what is known by a token behind so many
abbrev pub Later : Option Told → ℕ → Option Told → Type 0
Later (Some t) n o = o ≡ Some t
Later None n o = (t : Told) → o ≡ Some t → n < t.known

-- no head comes first
nothing_settles : (symbols : List Symbol) (v : Value) → heads_follow false symbols ≡ true → settled symbols v ≡ v.told
nothing_settles [] v h = refl
nothing_settles (Tok k ∷ symbols) v h = refl
nothing_settles (Non x ∷ symbols) v h = refl
nothing_settles (Do Head ∷ symbols) v h = absurd (cc)
nothing_settles (Do Hold ∷ symbols) v h = refl
nothing_settles (Do Forget ∷ symbols) v h = refl
nothing_settles (Do Plain ∷ symbols) v h = refl
nothing_settles (Do TellTargets ∷ symbols) v h = absurd (cc)
nothing_settles (Do TellLoop ∷ symbols) v h = absurd (cc)
nothing_settles (Do HoldSlice ∷ symbols) v h = refl
nothing_settles (Do (Own a) ∷ symbols) v h = refl

told_stays : (t : Told) (o : Option Numbered) (n : ℕ) → told_so (Some t) o n ≡ Some t
told_stays t None n = refl
told_stays t (Some h) n = refl

new_told : (o : Option Numbered) (n : ℕ) (t : Told) → told_so None o n ≡ Some t → t.known ≡ n
new_told None n t e = absurd (none-some t e)
new_told (Some h) n t e = sym (ap (λ (u : Told). u.known) (same_Some _ t e))

settled_with : (v : Value) (head : Option Numbered) (t : Told) → v.told ≡ Some t → told_so v.told head v.read ≡ Some t
settled_with v head t e = ap (λ (o : Option Told). told_so o head v.read) e ∙ told_stays t head v.read

-- once told, it is settled
pub settled_stays : (symbols : List Symbol) (v : Value) (t : Told) → v.told ≡ Some t → settled symbols v ≡ Some t
settled_stays [] v t e = e
settled_stays (Tok k ∷ symbols) v t e = e
settled_stays (Non x ∷ symbols) v t e = e
settled_stays (Do Head ∷ symbols) v t e = settled_with v (last_token v.items) t e
settled_stays (Do Hold ∷ symbols) v t e = e
settled_stays (Do Forget ∷ symbols) v t e = e
settled_stays (Do Plain ∷ symbols) v t e = e
settled_stays (Do TellTargets ∷ symbols) v t e = settled_with v (head_of_last (less 1 v.items)) t e
settled_stays (Do TellLoop ∷ symbols) v t e = settled_with v (loop_head v.left.here.head v.bracket) t e
settled_stays (Do HoldSlice ∷ symbols) v t e = e
settled_stays (Do (Own a) ∷ symbols) v t e = e

known_with : (v : Value) (head : Option Numbered) (t : Told) → ((u : Told) → v.told ≡ Some u → u.known ≡ v.read) → told_so v.told head v.read ≡ Some t → t.known ≡ v.read
known_with v head t h e = go v.told refl e
  where
    go : (o : Option Told) → v.told ≡ o → told_so o head v.read ≡ Some t → t.known ≡ v.read
    go None s e = new_told head v.read t e
    go (Some u) s e = let same : u ≡ t = same_Some u t (sym (told_stays u head v.read) ∙ e) in subst (λ (x : Told). x.known ≡ v.read) same (h u s)

-- what is told just behind a token is known by that token
known_now : (symbols : List Symbol) (v : Value) (t : Told) → ((u : Told) → v.told ≡ Some u → u.known ≡ v.read) → settled symbols v ≡ Some t → t.known ≡ v.read
known_now [] v t h e = h t e
known_now (Tok k ∷ symbols) v t h e = h t e
known_now (Non x ∷ symbols) v t h e = h t e
known_now (Do Head ∷ symbols) v t h e = known_with v (last_token v.items) t h e
known_now (Do Hold ∷ symbols) v t h e = h t e
known_now (Do Forget ∷ symbols) v t h e = h t e
known_now (Do Plain ∷ symbols) v t h e = h t e
known_now (Do TellTargets ∷ symbols) v t h e = known_with v (head_of_last (less 1 v.items)) t h e
known_now (Do TellLoop ∷ symbols) v t h e = known_with v (loop_head v.left.here.head v.bracket) t h e
known_now (Do HoldSlice ∷ symbols) v t h e = h t e
known_now (Do (Own a) ∷ symbols) v t h e = h t e

-- over one token
over_token : (t : Token) (symbols : List Symbol) (v : Value) (o p : Option Told) (w : Option Told) → v.told ≡ o → settled symbols (take_in t v) ≡ p → Later p (suc v.read) w → Later o v.read w
over_token t symbols v (Some u) p w e s h =
    let first : settled symbols (take_in t v) ≡ Some u = settled_stays symbols (take_in t v) u (ap (λ (o : Option Told). told_so o v.held (suc v.read)) e ∙ told_stays u v.held (suc v.read)) in
    subst (λ (o : Option Told). Later o (suc v.read) w) (sym s ∙ first) h
over_token t symbols v None None w e s h = λ u k. let later = h u k in omega arith
over_token t symbols v None (Some q) w e s h = λ u k.
    let known : q.known ≡ suc v.read = known_now symbols (take_in t v) q (λ r m. new_told v.held (suc v.read) r (sym (ap (λ (o : Option Told). told_so o v.held (suc v.read)) e) ∙ m)) s in
    let same : q ≡ u = same_Some q u (sym h ∙ k) in
    let there : u.known ≡ suc v.read = subst (λ (x : Told). x.known ≡ suc v.read) same known in omega arith

pub told_later : (c : Construct) (n : ℕ) (symbols : List Symbol) (v : Value) (ts : List Token) (w : Value) → heads_follow true symbols ≡ true
    → Derives (extended c) n symbols v ts w → Later (settled symbols v) v.read w.told
told_later c zero [] v ts w h d = go v.told refl
  where
    go : (o : Option Told) → v.told ≡ o → Later o v.read w.told
    go None e = λ t k. absurd (none-some t (sym e ∙ ap (λ (x : Value). x.told) d.1 ∙ k))
    go (Some t) e = sym (ap (λ (x : Value). x.told) d.1) ∙ e
told_later c zero (s ∷ symbols) v ts w h d = absurd d
told_later c (suc n) [] v ts w h d = absurd d
told_later c (suc n) (Tok k ∷ symbols) v ts w h d =
    over_token d.0 symbols v v.told (settled symbols (take_in d.0 v)) w.told refl refl (told_later c n symbols (take_in d.0 v) d.1 w h d.4)
told_later c (suc n) (Non x ∷ symbols) v ts w h d =
    let headed : heads_follow false (d.0.symbols ++ symbols) ≡ true = headed_joined false d.0.symbols symbols (headed_row c x d.0 d.1) h in
    subst (λ (o : Option Told). Later o v.read w.told) (nothing_settles (d.0.symbols ++ symbols) v headed)
    (told_later c n (d.0.symbols ++ symbols) v ts w (headed_later (d.0.symbols ++ symbols) headed) d.3)
told_later c (suc n) (Do Head ∷ symbols) v ts w h d =
    subst (λ (o : Option Told). Later o v.read w.told) (nothing_settles symbols (act Head v) h) (told_later c n symbols (act Head v) ts w (headed_later symbols h) d)
told_later c (suc n) (Do Hold ∷ symbols) v ts w h d =
    subst (λ (o : Option Told). Later o v.read w.told) (nothing_settles symbols (act Hold v) h) (told_later c n symbols (act Hold v) ts w (headed_later symbols h) d)
told_later c (suc n) (Do Forget ∷ symbols) v ts w h d =
    subst (λ (o : Option Told). Later o v.read w.told) (nothing_settles symbols (act Forget v) h) (told_later c n symbols (act Forget v) ts w (headed_later symbols h) d)
told_later c (suc n) (Do Plain ∷ symbols) v ts w h d =
    subst (λ (o : Option Told). Later o v.read w.told) (nothing_settles symbols (act Plain v) h) (told_later c n symbols (act Plain v) ts w (headed_later symbols h) d)
told_later c (suc n) (Do TellTargets ∷ symbols) v ts w h d =
    subst (λ (o : Option Told). Later o v.read w.told) (nothing_settles symbols (act TellTargets v) h) (told_later c n symbols (act TellTargets v) ts w (headed_later symbols h) d)
told_later c (suc n) (Do TellLoop ∷ symbols) v ts w h d =
    subst (λ (o : Option Told). Later o v.read w.told) (nothing_settles symbols (act TellLoop v) h) (told_later c n symbols (act TellLoop v) ts w (headed_later symbols h) d)
told_later c (suc n) (Do HoldSlice ∷ symbols) v ts w h d =
    subst (λ (o : Option Told). Later o v.read w.told) (nothing_settles symbols (act HoldSlice v) h) (told_later c n symbols (act HoldSlice v) ts w (headed_later symbols h) d)
told_later c (suc n) (Do (Own a) ∷ symbols) v ts w h d =
    subst (λ (o : Option Told). Later o v.read w.told) (nothing_settles symbols (act (Own a) v) h) (told_later c n symbols (act (Own a) v) ts w (headed_later symbols h) d)
