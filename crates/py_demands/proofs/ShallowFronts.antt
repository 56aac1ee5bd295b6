-- Where the run over a front is computed, and with it how deep its nodes stand.
use Rattle.std.proofs.Common.{◌≡◌, ℕ, zero, suc, ◌<◌, Bool, true, false, ◌&&◌, ◌||◌, ◌==◌, nat_lt, if◌then◌else◌, List, [], ◌∷◌, ◌++◌, Option, Some, None, inl, inr, refl, sym, ap, ◌∙◌, eqb-true, arith}
use Rattle.grammars.specs.Grammar.{Tok, Non, Do, Row, sight}
use Rattle.grammars.specs.Run.{pick}
use Rattle.grammars.proofs.Bools.{and_left, and_right, either}
use Rattle.grammars.proofs.Rows.{pick_is_row}
use Rattle.py_tokens.specs.Token.{Place}
use Rattle.py_syntax.specs.Token.{Token}
use Rattle.py_syntax.specs.Kinds.{kind_of}
use Rattle.py_syntax.specs.Heights.{most_ancestors}
use Rattle.py_syntax.specs.Build.{PToken, Parts, Action}
use Rattle.py_syntax.specs.Table.{Symbol, Nonterminal, table, sets}
use Rattle.py_syntax.specs.Laws.{goal, start}
use Rattle.py_nesting.specs.Ordered.{AreOrdered}
use Rattle.py_nesting.specs.Shapes.{entries_of}
use Rattle.py_nesting.specs.TooDeep.{same_place, stands_among, IsTooDeepInFront}
use Rattle.py_nesting.specs.Walk.{Demand, Whole}
use Rattle.py_nesting.proofs.FrontsOrdered.{same_place_so}
use Rattle.py_demands.specs.Asks.{place_of}
use Rattle.py_demands.specs.Behind.{drops_first, Behind}
use Rattle.py_demands.specs.Bound.{standing}
use Rattle.py_demands.specs.Closing.{exactly}
use Rattle.py_demands.specs.Readings.{acts_first, targets_reading}
use Rattle.py_demands.specs.Ready.{Ready}
use Rattle.py_demands.specs.Stops.{Stop, nowhere, stop, read, expanded, behind, depth_read, is_light, are_light, is_shallow_at, ShallowFrontLaw}
use Rattle.py_demands.specs.Turning.{IsReached}
use Rattle.py_demands.proofs.FrontFirst.{avoided_so, not_among, last_line, beyond, apart_from}
use Rattle.py_demands.proofs.OrderedFronts.{ordered_apart}
use Rattle.py_demands.proofs.ReadItems.{reached_read_law}
use Rattle.py_demands.proofs.ReadingsLow.{reading_law}
use Rattle.py_demands.proofs.ReadySteps.{ready_law}
use Rattle.py_demands.proofs.Steps.{behind_at_beginning, behind_action, behind_token, behind_row}
use Rattle.py_demands.proofs.Ways.{closing_law}
use Rattle.std.proofs.lemmas.Bool.{ltb-true}

abbrev StopsSo : List Token → Stop → Type 0
StopsSo front nowhere = Unit {0}
StopsSo front (stop symbols v) = Behind front [] symbols v × Ready symbols [] × (acts_first symbols ≡ false)

read_so : (n : ℕ) (front ahead : List Token) (symbols : List Symbol) (v : Parts) → Behind front ahead symbols v → Ready symbols ahead → StopsSo front (read n symbols v ahead)
read_so zero front ahead symbols v b y = tt
read_so (suc n) front ahead [] v b y = tt
read_so (suc n) front ahead (Do a ∷ symbols) v b y = read_so n front ahead symbols _ (behind_action front ahead a symbols v b) (ready_law.1 front ahead a symbols v b y)
read_so (suc n) front [] (Tok k ∷ symbols) v b y = (b, y, refl)
read_so (suc n) front (t ∷ ts) (Tok k ∷ symbols) v b y = go (kind_of t == k) refl (λ c z. read_so n front ts symbols (PToken t ∷ v) c z)
  where
    go : (c : Bool) → (kind_of t == k) ≡ c → (Behind front ts symbols (PToken t ∷ v) → Ready symbols ts → StopsSo front (read n symbols (PToken t ∷ v) ts)) → StopsSo front (if c then read n symbols (PToken t ∷ v) ts else nowhere)
    go true e again = again (behind_token front ts t k symbols v (eqb-true (kind_of t) k e) b) (ready_law.2 ts t k symbols y)
    go false e again = tt
read_so (suc n) front [] (Non x ∷ symbols) v b y = (b, y, refl)
read_so (suc n) front (t ∷ ts) (Non x ∷ symbols) v b y = go (pick table sets x v (sight table (t ∷ ts))) refl (λ more c z. read_so n front (t ∷ ts) more v c z)
  where
    go : (o : Option (Row Nonterminal Action Parts)) → pick table sets x v (sight table (t ∷ ts)) ≡ o
        → ((more : List Symbol) → Behind front (t ∷ ts) more v → Ready more (t ∷ ts) → StopsSo front (read n more v (t ∷ ts))) → StopsSo front (expanded (λ (more : List Symbol). read n more v (t ∷ ts)) symbols o)
    go None e again = tt
    go (Some r) e again =
        let i = pick_is_row table sets x v (sight table (t ∷ ts)) r e in
        again (r.symbols ++ symbols) (behind_row front ts t x r symbols v e i.0 i.1 b) (ready_law.3 front ts t x r symbols v i.0 b y)

pub drops_not : (symbols : List Symbol) → acts_first symbols ≡ false → drops_first symbols ≡ false
drops_not [] h = refl
drops_not (Tok k ∷ symbols) h = refl
drops_not (Non x ∷ symbols) h = refl
drops_not (Do a ∷ symbols) h = absurd (cc)

light_at : (v : Parts) (us ws : Option (List Demand)) (ts : List Token) (p : Place) → are_light v us ws ts ≡ true → stands_among ts p ≡ true → is_light (depth_read (same_place p) v us) (depth_read (same_place p) v ws) ≡ true
light_at v us ws [] p h s = absurd (cc)
light_at v us ws (t ∷ ts) p h s = go (same_place p (place_of t)) refl s (λ i j. light_at v us ws ts p i j)
  where
    go : (b : Bool) → same_place p (place_of t) ≡ b → (b || stands_among ts p) ≡ true → (are_light v us ws ts ≡ true → stands_among ts p ≡ true → is_light (depth_read (same_place p) v us) (depth_read (same_place p) v ws) ≡ true) → is_light (depth_read (same_place p) v us) (depth_read (same_place p) v ws) ≡ true
    go true e s again =
        ap (λ (q : Place). is_light (depth_read (same_place q) v us) (depth_read (same_place q) v ws)) (same_place_so p (place_of t) e)
        ∙ and_left (is_light (depth_read (same_place (place_of t)) v us) (depth_read (same_place (place_of t)) v ws)) (are_light v us ws ts) h
    go false e s again = again (and_right (is_light (depth_read (same_place (place_of t)) v us) (depth_read (same_place (place_of t)) v ws)) (are_light v us ws ts) h) s

-- a module that reaches a reading has a node there, no deeper
not_deep : (front : List Token) (v : Parts) (ds : List Demand) (p : Place) → IsReached front v ds (beyond (last_line front)) → 0 < standing (same_place p) v ds → standing (same_place p) v ds < suc (suc most_ancestors) → IsTooDeepInFront p front → ⊥
not_deep front v ds p r some light t =
    let goes : (q : Place) → stands_among front q ≡ true → stands_among r.0 q ≡ false = λ q h. not_among q r.0 (r.3 (same_place q) (apart_from q front h)) in
    let d = r.5 (same_place p) in
    let low = d.0 in
    let high = d.1 (apart_from p front t.0) in
    let deep = t.2 r.1 (r.0, r.2, goes) (omega arith) in
    omega arith

none_there : (front : List Token) (symbols : List Symbol) (v : Parts) (p : Place) (us ws : Option (List Demand)) → Behind front [] symbols v → Ready symbols [] → acts_first symbols ≡ false → AreOrdered front → exactly symbols (Some (Whole 0 ∷ [])) ≡ us → targets_reading symbols (entries_of v) ≡ ws
    → depth_read (same_place p) v us ≡ 0 → depth_read (same_place p) v ws ≡ 0 → IsTooDeepInFront p front → ⊥
none_there front symbols v p us ws b y acts ordered u w zero_one zero_two t =
    let o = t.1 in
    elim (reading_law front symbols v b y acts (drops_not symbols acts) (same_place p) (ordered_apart front ordered p) o.1.0 o.0 o.1.1 (avoided_so p o.1.0 (o.1.2 p t.0)) o.2) [
      | inl n ↦ (let e = ap (depth_read (same_place p) v) (sym b.exactly_is ∙ u) in let m = n.0 in omega arith)
      | inr n ↦ (let e = ap (depth_read (same_place p) v) (sym n.1 ∙ w) in let m = n.2.0 in omega arith)
    ]

pub shallow_front_law : ShallowFrontLaw
shallow_front_law front ordered h p t = go (behind front) (read_so 300 front front goal start (behind_at_beginning front) (ready_law.0 front)) h
  where
    go : (s : Stop) → StopsSo front s → is_shallow_at s front ≡ true → ⊥
    go nowhere s h = absurd (cc)
    go (stop symbols v) (b, y, acts) h = by_light (light_at v (exactly symbols (Some (Whole 0 ∷ []))) (targets_reading symbols (entries_of v)) front p h t.0)
      where
        closed : (o : Option (List Demand)) → exactly symbols (Some (Whole 0 ∷ [])) ≡ o → 0 < depth_read (same_place p) v o → depth_read (same_place p) v o < suc (suc most_ancestors) → ⊥
        closed None e some light = absurd (omega arith)
        closed (Some ds) e some light = not_deep front v ds p (closing_law front symbols v ds (beyond (last_line front)) b.at_front b.specimens e) some light t

        targets : (o : Option (List Demand)) → targets_reading symbols (entries_of v) ≡ o → 0 < depth_read (same_place p) v o → depth_read (same_place p) v o < suc (suc most_ancestors) → ⊥
        targets None e some light = absurd (omega arith)
        targets (Some ds) e some light = not_deep front v ds p (reached_read_law front symbols v ds b y acts e (beyond (last_line front))) some light t

        a : ℕ
        a = depth_read (same_place p) v (exactly symbols (Some (Whole 0 ∷ [])))

        c : ℕ
        c = depth_read (same_place p) v (targets_reading symbols (entries_of v))

        lighter : (n : ℕ) → (nat_lt 0 n && nat_lt n (suc (suc most_ancestors))) ≡ true → (0 < n) × (n < suc (suc most_ancestors))
        lighter n k = (ltb-true 0 n (and_left (nat_lt 0 n) (nat_lt n (suc (suc most_ancestors))) k), ltb-true n (suc (suc most_ancestors)) (and_right (nat_lt 0 n) (nat_lt n (suc (suc most_ancestors))) k))

        by_light : is_light a c ≡ true → ⊥
        by_light k = elim (either (nat_lt 0 a && nat_lt a (suc (suc most_ancestors))) ((nat_lt 0 c && nat_lt c (suc (suc most_ancestors))) || (a == 0 && c == 0)) k) [
          | inl i ↦ (let l = lighter a i in closed (exactly symbols (Some (Whole 0 ∷ []))) refl l.0 l.1)
          | inr i ↦ elim (either (nat_lt 0 c && nat_lt c (suc (suc most_ancestors))) (a == 0 && c == 0) i) [
            | inl j ↦ (let l = lighter c j in targets (targets_reading symbols (entries_of v)) refl l.0 l.1)
            | inr j ↦ none_there front symbols v p (exactly symbols (Some (Whole 0 ∷ []))) (targets_reading symbols (entries_of v)) b y acts ordered refl refl (eqb-true a 0 (and_left (a == 0) (c == 0) j)) (eqb-true c 0 (and_right (a == 0) (c == 0) j)) t
          ]
        ]
