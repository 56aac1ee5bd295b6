-- Behind a front one reading or two tell where it is nested too deep first.
use Rattle.std.proofs.Common.{◌≡◌, ℕ, Bool, true, false, List, [], ◌∷◌, Option, Some, None, ◌⊎◌, inl, inr, refl, sym, ap, ◌∙◌, subst}
use Rattle.std.specs.Cmp.Lexicographic.{pointwise}
use Rattle.std.specs.Option.{option_map}
use Rattle.grammars.proofs.Bools.{and_left, and_right}
use Rattle.py_tokens.specs.Token.{Place}
use Rattle.py_syntax.specs.Token.{Token}
use Rattle.py_nesting.specs.TooDeep.{IsFirstInFront}
use Rattle.py_nesting.specs.First.{first_of}
use Rattle.py_nesting.specs.Ordered.{AreOrdered}
use Rattle.py_nesting.specs.Shapes as shapes
use Rattle.py_nesting.specs.Walk as walking
use Rattle.py_demands.specs.BothFirst.{first_in_both}
use Rattle.py_demands.specs.Closing.{exactly}
use Rattle.py_demands.specs.Decided.{IsNoDeeper, InModules}
use Rattle.py_demands.specs.FrontDepth.{front_met}
use Rattle.py_demands.specs.Readings.{acts_first, targets_reading}
use Rattle.py_demands.proofs.BothFound.{both_found_law}
use Rattle.py_demands.proofs.FrontFirst.{first_in_front}
use Rattle.py_demands.proofs.OrderedFronts.{ordered_apart, ordered_in_order}
use Rattle.py_demands.proofs.ReadItems.{reached_read_law}
use Rattle.py_demands.proofs.ShallowFronts.{drops_not}
use Rattle.py_demands.proofs.ReadingsLow.{reading_law}
use Rattle.py_demands.proofs.Ways.{closing_law}
use Rattle.py_table.specs.Steps.{stack_of}
use Rattle.py_table.specs.declared.symbol.Symbol.{Symbol}
use Rattle.py_depth.specs.PlainEntries.{entries_of, events_of}
use Rattle.py_depth.specs.declared.nest.Nest.{Nest}
use Rattle.py_depth.specs.declared.walk.Demand.{Demand}
use Rattle.py_depth.specs.PlainDemands.{demands_of}
use Rattle.shed_base.specs.declared.place.Place.{Place as PlaceRead}
use Rattle.py_front_depth.specs.Noted.{AreNoted}
use Rattle.py_front_depth.specs.Reaching.{StandsHere}
use Rattle.std.proofs.lemmas.Option.{same_Some}

-- the demands of the symbols that are closed
abbrev Closes : List Symbol → List walking.Demand → Type 0
Closes symbols ds = exactly (stack_of symbols) (Some (walking.Whole 0 ∷ [])) ≡ Some ds

abbrev Reads : List Symbol → Nest → Option (List walking.Demand) → Type 0
Reads symbols nest o = o ≡ targets_reading (stack_of symbols) (entries_of nest.entries.items)

abbrev pub met_in : Nest → List walking.Demand → List walking.Met
met_in nest ds = front_met (entries_of nest.entries.items) (events_of nest.events.items) ds

one_reading : (front : List Token) (symbols : List Symbol) (nest : Nest) (ds : List walking.Demand) → StandsHere front [] symbols nest → acts_first (stack_of symbols) ≡ false → Closes symbols ds
    → ((ws : List walking.Demand) → targets_reading (stack_of symbols) (entries_of nest.entries.items) ≡ Some ws → ws ≡ ds) → AreOrdered front → IsFirstInFront (first_of None (met_in nest ds)) front
one_reading front symbols nest ds (v, b, y, stands) acts c only o =
    subst (λ (es : List shapes.Entry). IsFirstInFront (first_of None (front_met es (events_of nest.events.items) ds)) front) (sym stands.0)
    (first_in_front front (stack_of symbols) v b ds (events_of nest.events.items) (drops_not (stack_of symbols) acts) (ordered_apart front o) stands.1 lower (λ p. closing_law front (stack_of symbols) v ds p b.at_front b.specimens c))
  where
    same : b.demands ≡ ds
    same = same_Some b.demands ds (sym b.exactly_is ∙ c)

    lower : InModules front (stack_of symbols) (λ at body. IsNoDeeper at v ds body)
    lower clear at once more body m away k = elim (reading_law front (stack_of symbols) v b y acts clear at once more body m away k) [
      | inl n ↦ subst (λ (l : List walking.Demand). IsNoDeeper at v l body) same n
      | inr n ↦ subst (λ (l : List walking.Demand). IsNoDeeper at v l body) (only n.0 (ap (targets_reading (stack_of symbols)) stands.0 ∙ n.1)) n.2
    ]

pub without_targets : {A : Type 0} (f : A → List walking.Demand) (front : List Token) (symbols : List Symbol) (nest : Nest) (ds : List walking.Demand) (targets : Option A) (first : Option Place) → StandsHere front [] symbols nest → acts_first (stack_of symbols) ≡ false
    → Closes symbols ds → Reads symbols nest (option_map f targets) → targets ≡ None → first ≡ first_of None (met_in nest ds) → AreOrdered front → IsFirstInFront first front
without_targets f front symbols nest ds targets first h acts c r i e o =
    subst (λ (p : Option Place). IsFirstInFront p front) (sym e) (one_reading front symbols nest ds h acts c (λ ws w. let no : None ≡ Some ws = sym (ap (option_map f) i) ∙ r ∙ w in absurd (cc)) o)

pub with_same : {A : Type 0} (f : A → List walking.Demand) (front : List Token) (symbols : List Symbol) (nest : Nest) (ds : List walking.Demand) (targets : Option A) (some : A) (first : Option Place) → StandsHere front [] symbols nest → acts_first (stack_of symbols) ≡ false
    → Closes symbols ds → Reads symbols nest (option_map f targets) → targets ≡ Some some → ds ≡ f some → first ≡ first_of None (met_in nest ds) → AreOrdered front → IsFirstInFront first front
with_same f front symbols nest ds targets some first h acts c r i same e o =
    subst (λ (p : Option Place). IsFirstInFront p front) (sym e)
    (one_reading front symbols nest ds h acts c (λ ws w. let one : Some (f some) ≡ Some ws = sym (ap (option_map f) i) ∙ r ∙ w in sym (same_Some (f some) ws one) ∙ sym same) o)

both_readings : (front : List Token) (symbols : List Symbol) (nest : Nest) (ds us : List walking.Demand) (first : Option Place) → StandsHere front [] symbols nest → acts_first (stack_of symbols) ≡ false → Closes symbols ds → Reads symbols nest (Some us)
    → first ≡ first_in_both (met_in nest ds) (met_in nest us) front → AreOrdered front → IsFirstInFront first front
both_readings front symbols nest ds us first (v, b, y, stands) acts c r f o =
    subst (λ (p : Option Place). IsFirstInFront p front) (sym f)
    (subst (λ (es : List shapes.Entry). IsFirstInFront (first_in_both (front_met es (events_of nest.events.items) ds) (front_met es (events_of nest.events.items) us) front) front) (sym stands.0)
    (both_found_law front (stack_of symbols) v b ds us (events_of nest.events.items) (drops_not (stack_of symbols) acts) (ordered_in_order front o) (ordered_apart front o) stands.1 lower
    (λ p. closing_law front (stack_of symbols) v ds p b.at_front b.specimens c) (λ p. reached_read_law front (stack_of symbols) v us b y acts read p)))
  where
    same : b.demands ≡ ds
    same = same_Some b.demands ds (sym b.exactly_is ∙ c)

    read : targets_reading (stack_of symbols) (shapes.entries_of v) ≡ Some us
    read = sym (r ∙ ap (targets_reading (stack_of symbols)) stands.0)

    lower : InModules front (stack_of symbols) (λ at body. IsNoDeeper at v ds body ⊎ IsNoDeeper at v us body)
    lower clear at once more body m away k = elim (reading_law front (stack_of symbols) v b y acts clear at once more body m away k) [
      | inl n ↦ inl (subst (λ (l : List walking.Demand). IsNoDeeper at v l body) same n)
      | inr n ↦ inr (subst (λ (l : List walking.Demand). IsNoDeeper at v l body) (same_Some n.0 us (sym n.1 ∙ read)) n.2)
    ]

pub with_both : {A : Type 0} (f : A → List walking.Demand) (front : List Token) (symbols : List Symbol) (nest : Nest) (ds : List walking.Demand) (targets : Option A) (some : A) (first : Option Place) → StandsHere front [] symbols nest → acts_first (stack_of symbols) ≡ false
    → Closes symbols ds → Reads symbols nest (option_map f targets) → targets ≡ Some some → first ≡ first_in_both (met_in nest ds) (met_in nest (f some)) front → AreOrdered front → IsFirstInFront first front
with_both f front symbols nest ds targets some first h acts c r i e o = both_readings front symbols nest ds (f some) first h acts c (sym (ap (option_map f) i) ∙ r) e o

pub noted_in : (nest : Nest) (depths : List (PlaceRead × ℕ)) {xs ys : List Demand} → xs ≡ ys → AreNoted depths (met_in nest (demands_of xs)) → AreNoted depths (met_in nest (demands_of ys))
noted_in nest depths e n = subst (λ (l : List Demand). AreNoted depths (met_in nest (demands_of l))) e n

-- what is compared part by part is the same
pub same_all : {A : Type 0} (eq : A → A → Bool) → ((a b : A) → eq a b ≡ true → a ≡ b) → (xs ys : List A) → pointwise eq xs ys ≡ true → xs ≡ ys
same_all eq sound [] [] h = refl
same_all eq sound [] (y ∷ ys) h = absurd (cc)
same_all eq sound (x ∷ xs) [] h = absurd (cc)
same_all {A} eq sound (x ∷ xs) (y ∷ ys) h = ap (λ (z : A). z ∷ xs) (sound x y (and_left (eq x y) (pointwise eq xs ys) h)) ∙ ap (λ (l : List A). y ∷ l) (same_all eq sound xs ys (and_right (eq x y) (pointwise eq xs ys) h))
