-- Levels of indentation that begin and end.
use Rattle.std.proofs.Common.{◌≡◌, ◌≢◌, ℕ, suc, List, [], ◌∷◌, Bool, true, false, ◌&&◌, not, cond, nat_eq, nat_lt, Option, Some, None, inl, inr, refl, sym, ap, ◌∙◌, arith, tests}
use Rattle.std.proofs.lemmas.Bool.Decides.{eqb_tells}
use Rattle.py_tokens.specs.Token.{Place, TDedent, Outcome, Tokens, Refused, MixedTabs}
use Rattle.py_tokens.specs.Lines.{Widths}
use Rattle.py_tokens.specs.Tokens.{token, preceded, levels_left, Indentation, Stays, Deeper, Back, Mixed, back, indented, indented_from, dedents, dropped}
use Rattle.py_lexer.specs.Ahead.{back_to}
use Rattle.py_lexer.proofs.AheadLemmas.{preceded-preceded}

left_here : (width : Widths → ℕ) (n : ℕ) (level : Widths) (levels : List Widths) → width level ≡ n → levels_left width n (level ∷ levels) ≡ Some 0
left_here width n level levels e = let t : nat_eq (width level) n ≡ true = grind (arith, tests) in rw t refl

abbrev further : Option ℕ → Option ℕ
further o = elim o [ None ↦ None | Some k ↦ Some (suc k) ]

left_further : (width : Widths → ℕ) (n : ℕ) (level : Widths) (levels : List Widths) → width level ≢ n → levels_left width n (level ∷ levels) ≡ further (levels_left width n levels)
left_further width n level levels e = let t : nat_eq (width level) n ≡ false = grind (arith, tests) in rw t refl

pub back_to-here : (w level : Widths) (levels : List Widths) → level.eights ≡ w.eights → level.ones ≡ w.ones → back_to w (level ∷ levels) ≡ Back 0
back_to-here w level levels e f =
    ap (λ o. back o (levels_left (λ l. l.ones) w.ones (level ∷ levels))) (left_here (λ l. l.eights) w.eights level levels e)
    ∙ ap (back (Some 0)) (left_here (λ l. l.ones) w.ones level levels f)

mixed_first : (o : Option ℕ) → back (Some 0) (further o) ≡ Mixed
mixed_first None = refl
mixed_first (Some k) = let t : nat_eq 0 (suc k) ≡ false = grind (arith, tests) in ap (λ b. cond b (Back 0) Mixed) t

mixed_second : (o : Option ℕ) → back (further o) (Some 0) ≡ Mixed
mixed_second None = refl
mixed_second (Some k) = let t : nat_eq (suc k) 0 ≡ false = grind (arith, tests) in ap (λ b. cond b (Back (suc k)) Mixed) t

pub back_to-eights : (w level : Widths) (levels : List Widths) → level.eights ≡ w.eights → level.ones ≢ w.ones → back_to w (level ∷ levels) ≡ Mixed
back_to-eights w level levels e f =
    ap (λ o. back o (levels_left (λ l. l.ones) w.ones (level ∷ levels))) (left_here (λ l. l.eights) w.eights level levels e)
    ∙ ap (back (Some 0)) (left_further (λ l. l.ones) w.ones level levels f) ∙ mixed_first (levels_left (λ l. l.ones) w.ones levels)

pub back_to-ones : (w level : Widths) (levels : List Widths) → level.eights ≢ w.eights → level.ones ≡ w.ones → back_to w (level ∷ levels) ≡ Mixed
back_to-ones w level levels e f =
    ap (λ o. back o (levels_left (λ l. l.ones) w.ones (level ∷ levels))) (left_further (λ l. l.eights) w.eights level levels e)
    ∙ ap (back (further (levels_left (λ l. l.eights) w.eights levels))) (left_here (λ l. l.ones) w.ones level levels f) ∙ mixed_second (levels_left (λ l. l.eights) w.eights levels)

some_further : (p : Place) (w level : Widths) (levels : List Widths) (go : List Widths → Outcome) (m n : ℕ)
    → indented (back (Some (suc m)) (Some (suc n))) p w (level ∷ levels) go ≡ preceded (token p TDedent ∷ []) (indented (back (Some m) (Some n)) p w levels go)
some_further p w level levels go m n = elim (eqb_tells m n) [ inl e ↦ same e.0 e.1 | inr e ↦ other e.0 e.1 ]
  where
    same : nat_eq m n ≡ true → m ≡ n → indented (back (Some (suc m)) (Some (suc n))) p w (level ∷ levels) go ≡ preceded (token p TDedent ∷ []) (indented (back (Some m) (Some n)) p w levels go)
    same t e = let u : nat_eq (suc m) (suc n) ≡ true = grind (arith, tests) in
        ap (λ b. indented (cond b (Back (suc m)) Mixed) p w (level ∷ levels) go) u
        ∙ sym (preceded-preceded (token p TDedent ∷ []) (dedents p m) (go (dropped m levels)))
        ∙ ap (λ b. preceded (token p TDedent ∷ []) (indented (cond b (Back m) Mixed) p w levels go)) (sym t)

    other : nat_eq m n ≡ false → m ≢ n → indented (back (Some (suc m)) (Some (suc n))) p w (level ∷ levels) go ≡ preceded (token p TDedent ∷ []) (indented (back (Some m) (Some n)) p w levels go)
    other t e = let u : nat_eq (suc m) (suc n) ≡ false = grind (arith, tests) in
        ap (λ b. indented (cond b (Back (suc m)) Mixed) p w (level ∷ levels) go) u
        ∙ ap (λ b. preceded (token p TDedent ∷ []) (indented (cond b (Back m) Mixed) p w levels go)) (sym t)

both_further : (p : Place) (w level : Widths) (levels : List Widths) (go : List Widths → Outcome) (a b : Option ℕ)
    → indented (back (further a) (further b)) p w (level ∷ levels) go ≡ preceded (token p TDedent ∷ []) (indented (back a b) p w levels go)
both_further p w level levels go None None = refl
both_further p w level levels go None (Some n) = refl
both_further p w level levels go (Some m) None = refl
both_further p w level levels go (Some m) (Some n) = some_further p w level levels go m n

pub back_to-further : (p : Place) (w level : Widths) (levels : List Widths) (go : List Widths → Outcome) → level.eights ≢ w.eights → level.ones ≢ w.ones
    → indented (back_to w (level ∷ levels)) p w (level ∷ levels) go ≡ preceded (token p TDedent ∷ []) (indented (back_to w levels) p w levels go)
back_to-further p w level levels go e f =
    ap (λ o. indented (back o (levels_left (λ l. l.ones) w.ones (level ∷ levels))) p w (level ∷ levels) go) (left_further (λ l. l.eights) w.eights level levels e)
    ∙ ap (λ o. indented (back (further (levels_left (λ l. l.eights) w.eights levels)) o) p w (level ∷ levels) go) (left_further (λ l. l.ones) w.ones level levels f)
    ∙ both_further p w level levels go (levels_left (λ l. l.eights) w.eights levels) (levels_left (λ l. l.ones) w.ones levels)

-- ---- by the tests of the code

abbrev Same : Widths → Widths → Bool
Same a b = nat_eq a.eights b.eights && nat_eq a.ones b.ones

abbrev Other : Widths → Widths → Bool
Other a b = not (nat_eq a.eights b.eights) && not (nat_eq a.ones b.ones)

abbrev Narrower : Widths → Widths → Bool
Narrower a b = nat_lt a.eights b.eights && nat_lt a.ones b.ones

pub preceded-nil : (o : Outcome) → preceded [] o ≡ o
preceded-nil (Tokens ts) = refl
preceded-nil (Refused r p) = refl

pub goes_back : (p : Place) (w level : Widths) (levels : List Widths) (go : List Widths → Outcome) → Other level w ≡ true
    → indented (back_to w (level ∷ levels)) p w (level ∷ levels) go ≡ preceded (token p TDedent ∷ []) (indented (back_to w levels) p w levels go)
goes_back p w level levels go h =
    elim (eqb_tells level.eights w.eights) [
      | inl e ↦ absurd (let f : false ≡ true = rw e.0 at h in cc)
      | inr e ↦
          elim (eqb_tells level.ones w.ones) [
            | inl f ↦ absurd (let g : false ≡ true = rw (e.0, f.0) at h in cc)
            | inr f ↦ back_to-further p w level levels go e.1 f.1
          ]
    ]

pub comes_back : (p : Place) (w level : Widths) (levels : List Widths) (go : List Widths → Outcome) → Same level w ≡ true → indented (back_to w (level ∷ levels)) p w (level ∷ levels) go ≡ go (level ∷ levels)
comes_back p w level levels go h =
    elim (eqb_tells level.eights w.eights) [
      | inl e ↦
          elim (eqb_tells level.ones w.ones) [
            | inl f ↦ ap (λ b. indented b p w (level ∷ levels) go) (back_to-here w level levels e.1 f.1) ∙ preceded-nil (go (level ∷ levels))
            | inr f ↦ absurd (let g : false ≡ true = rw (e.0, f.0) at h in cc)
          ]
      | inr e ↦ absurd (let f : false ≡ true = rw e.0 at h in cc)
    ]

pub is_mixed : (p : Place) (w level : Widths) (levels : List Widths) (go : List Widths → Outcome) → Other level w ≡ false → Same level w ≡ false → indented (back_to w (level ∷ levels)) p w (level ∷ levels) go ≡ Refused MixedTabs p
is_mixed p w level levels go o s =
    elim (eqb_tells level.eights w.eights) [
      | inl e ↦
          elim (eqb_tells level.ones w.ones) [
            | inl f ↦ absurd (let g : true ≡ false = rw (e.0, f.0) at s in cc)
            | inr f ↦ ap (λ b. indented b p w (level ∷ levels) go) (back_to-eights w level levels e.1 f.1)
          ]
      | inr e ↦
          elim (eqb_tells level.ones w.ones) [
            | inl f ↦ ap (λ b. indented b p w (level ∷ levels) go) (back_to-ones w level levels e.1 f.1)
            | inr f ↦ absurd (let g : true ≡ false = rw (e.0, f.0) at o in cc)
          ]
    ]

abbrev Choice : Bool → Bool → Bool → Indentation → Indentation
Choice same deeper narrower b = cond same Stays (cond deeper Deeper (cond narrower b Mixed))

pub indented-stays : (w top : Widths) (levels : List Widths) → Same w top ≡ true → indented_from w (top ∷ levels) ≡ Stays
indented-stays w top levels h = ap (λ t. Choice t (Narrower top w) (Narrower w top) (back_to w (top ∷ levels))) h

pub indented-deeper : (w top : Widths) (levels : List Widths) → Same w top ≡ false → Narrower top w ≡ true → indented_from w (top ∷ levels) ≡ Deeper
indented-deeper w top levels h k =
    ap (λ t. Choice t (Narrower top w) (Narrower w top) (back_to w (top ∷ levels))) h ∙ ap (λ t. Choice false t (Narrower w top) (back_to w (top ∷ levels))) k

pub indented-back : (w top : Widths) (levels : List Widths) → Same w top ≡ false → Narrower top w ≡ false → Narrower w top ≡ true → indented_from w (top ∷ levels) ≡ back_to w (top ∷ levels)
indented-back w top levels h k n =
    ap (λ t. Choice t (Narrower top w) (Narrower w top) (back_to w (top ∷ levels))) h ∙ ap (λ t. Choice false t (Narrower w top) (back_to w (top ∷ levels))) k
    ∙ ap (λ t. Choice false false t (back_to w (top ∷ levels))) n

pub indented-mixed : (w top : Widths) (levels : List Widths) → Same w top ≡ false → Narrower top w ≡ false → Narrower w top ≡ false → indented_from w (top ∷ levels) ≡ Mixed
indented-mixed w top levels h k n =
    ap (λ t. Choice t (Narrower top w) (Narrower w top) (back_to w (top ∷ levels))) h ∙ ap (λ t. Choice false t (Narrower w top) (back_to w (top ∷ levels))) k
    ∙ ap (λ t. Choice false false t (back_to w (top ∷ levels))) n
