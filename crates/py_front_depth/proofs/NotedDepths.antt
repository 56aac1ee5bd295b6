-- Depths are noted place by place.
use Rattle.std.proofs.Common.{◌≡◌, ℕ, zero, suc, ◌+◌, ◌-◌, ◌<◌, ◌≤◌, max, Bool, true, false, if◌then◌else◌, List, [], ◌∷◌, length, take, drop, get_or, Option, Some, None, refl, sym, ap, ◌∙◌, subst, arith, drop-cons, drop_of_length-le}
use Rattle.std.proofs.Math.Seq.{take-suc}
use Rattle.std.specs.Map.{lookup}
use Rattle.indexmap.specs.IndexMap.{insert_entry}
use Rattle.py_lexer.specs.PlainTokens.{plain_place}
use Rattle.py_lexer.specs.declared.token.Token.{Token as TokenRead}
use Rattle.py_tokens.specs.Token as token
use Rattle.py_nesting.specs.Depths.{here}
use Rattle.py_nesting.specs.Shapes as shapes
use Rattle.py_nesting.specs.TooDeep.{same_place}
use Rattle.py_nesting.specs.Walk as walking
use Rattle.py_nesting.proofs.FrontsOrdered.{same_place_so}
use Rattle.py_nesting.specs.Walk.{Met, raise, met, met_depth, walk, back, brought}
use Rattle.py_demands.specs.BothFirst.{is_deep_in_both, first_in_both}
use Rattle.py_demands.specs.FrontDepth.{entry_met, tokens_met}
use Rattle.py_table.specs.PlainTokens.{plain_tokens}
use Rattle.py_depth.specs.PlainDemands.{plain_demand, demands_of, with_met}
use Rattle.py_depth.specs.PlainEntries.{plain_entry, plain_event, entries_of, events_of}
use Rattle.py_depth.specs.declared.event.Event.{Event}
use Rattle.py_depth.specs.declared.shape.Entry.{Entry}
use Rattle.py_depth.specs.declared.walk.Demand.{Demand}
use Rattle.shed_base.specs.declared.place.Place.{Place}
use Rattle.py_front_depth.specs.Noted.{depth_at, AreNoted}
use Rattle.py_depth.proofs.Stacks.{entries_of-nothing, events_of-push, events_of-nothing}
use Rattle.py_front_depth.proofs.Entries.{entries_split, demands_split}

-- keys are told apart by their places
abbrev pub IsByPlace : (Place → Place → Bool) → Type 0
IsByPlace eq = (p q : Place) → eq p q ≡ same_place (plain_place p) (plain_place q)

pub depth_got : (eq : Place → Place → Bool) → IsByPlace eq → (es : List (Place × ℕ)) (k : Place) (d : ℕ) → lookup (eq k) es ≡ Some d → d ≡ depth_at es (plain_place k)
depth_got eq law [] k d h = absurd (cc)
depth_got eq law (e ∷ es) k d h = go (eq k e.0) (law k e.0) h (λ i. depth_got eq law es k d i)
  where
    go : (b : Bool) → b ≡ same_place (plain_place k) (plain_place e.0) → (if b then Some e.1 else lookup (eq k) es) ≡ Some d → (lookup (eq k) es ≡ Some d → d ≡ depth_at es (plain_place k)) → d ≡ depth_at (e ∷ es) (plain_place k)
    go true b i again = let one : e.1 ≡ d = cc in sym one ∙ ap (λ (c : Bool). if c then e.1 else depth_at es (plain_place k)) b
    go false b i again = again i ∙ ap (λ (c : Bool). if c then e.1 else depth_at es (plain_place k)) b

pub none_got : (eq : Place → Place → Bool) → IsByPlace eq → (es : List (Place × ℕ)) (k : Place) → lookup (eq k) es ≡ None → 0 ≡ depth_at es (plain_place k)
none_got eq law [] k h = refl
none_got eq law (e ∷ es) k h = go (eq k e.0) (law k e.0) h (λ i. none_got eq law es k i)
  where
    go : (b : Bool) → b ≡ same_place (plain_place k) (plain_place e.0) → (if b then Some e.1 else lookup (eq k) es) ≡ None → (lookup (eq k) es ≡ None → 0 ≡ depth_at es (plain_place k)) → 0 ≡ depth_at (e ∷ es) (plain_place k)
    go true b i again = absurd (cc)
    go false b i again = again i ∙ ap (λ (c : Bool). if c then e.1 else depth_at es (plain_place k)) b

-- a place that has a depth now
depth_put : (eq : Place → Place → Bool) → IsByPlace eq → (es : List (Place × ℕ)) (k : Place) (v : ℕ) (at : token.Place) → depth_at (insert_entry eq es k v) at ≡ (if same_place at (plain_place k) then v else depth_at es at)
depth_put eq law [] k v at = refl
depth_put eq law (e ∷ es) k v at = go (eq k e.0) (same_place at (plain_place k)) (same_place at (plain_place e.0)) (law k e.0) refl refl (depth_put eq law es k v at)
  where
    go : (b c d : Bool) → b ≡ same_place (plain_place k) (plain_place e.0) → same_place at (plain_place k) ≡ c → same_place at (plain_place e.0) ≡ d → depth_at (insert_entry eq es k v) at ≡ (if same_place at (plain_place k) then v else depth_at es at)
        → depth_at (if b then (e.0, v) ∷ es else e ∷ insert_entry eq es k v) at ≡ (if c then v else (if d then e.1 else depth_at es at))
    go true c d b i j again = there c d (sym i ∙ ap (same_place at) (same_place_so (plain_place k) (plain_place e.0) (sym b)) ∙ j) j
      where
        there : (c d : Bool) → c ≡ d → same_place at (plain_place e.0) ≡ d → depth_at ((e.0, v) ∷ es) at ≡ (if c then v else (if d then e.1 else depth_at es at))
        there true true k j = ap (λ (b : Bool). if b then v else depth_at es at) j
        there false false k j = ap (λ (b : Bool). if b then v else depth_at es at) j
        there true false k j = absurd (cc)
        there false true k j = absurd (cc)
    go false true true b i j again =
        let same : same_place (plain_place k) (plain_place e.0) ≡ true = sym (ap (λ (p : token.Place). same_place p (plain_place e.0)) (same_place_so at (plain_place k) i)) ∙ j in
        let no : false ≡ true = b ∙ same in absurd (cc)
    go false true false b i j again = ap (λ (b : Bool). if b then e.1 else depth_at (insert_entry eq es k v) at) j ∙ again ∙ ap (λ (b : Bool). if b then v else depth_at es at) i
    go false false true b i j again = ap (λ (b : Bool). if b then e.1 else depth_at (insert_entry eq es k v) at) j
    go false false false b i j again = ap (λ (b : Bool). if b then e.1 else depth_at (insert_entry eq es k v) at) j ∙ again ∙ ap (λ (b : Bool). if b then v else depth_at es at) i

-- with one more node
abbrev pub IsWith : List (Place × ℕ) → List (Place × ℕ) → token.Place → ℕ → Type 0
IsWith old new p above = (at : token.Place) → depth_at new at ≡ max (raise above (here (same_place at p))) (depth_at old at)

deeper : (b : Bool) (above depth old : ℕ) → depth ≡ suc above → (b ≡ true → old < depth) → (if b then depth else old) ≡ max (raise above (here b)) old
deeper true above depth old d h = let l = h refl in omega arith
deeper false above depth old d h = omega arith

pub put_so : (eq : Place → Place → Bool) → IsByPlace eq → (old new : List (Place × ℕ)) (k : Place) (above depth known : ℕ) → depth ≡ suc above → known ≡ depth_at old (plain_place k) → known < depth → new ≡ insert_entry eq old k depth → IsWith old new (plain_place k) above
put_so eq law old new k above depth known d e p n at =
    ap (λ (es : List (Place × ℕ)). depth_at es at) n ∙ depth_put eq law old k depth at
    ∙ deeper (same_place at (plain_place k)) above depth (depth_at old at) d (λ h. let same = ap (depth_at old) (same_place_so at (plain_place k) h) in omega arith)

kept : (b : Bool) (above depth old : ℕ) → depth ≡ suc above → (b ≡ true → depth ≤ old) → old ≡ max (raise above (here b)) old
kept true above depth old d h = let l = h refl in omega arith
kept false above depth old d h = omega arith

pub kept_so : (old : List (Place × ℕ)) (k : Place) (above depth known : ℕ) → depth ≡ suc above → known ≡ depth_at old (plain_place k) → depth ≤ known → IsWith old old (plain_place k) above
kept_so old k above depth known d e p at = kept (same_place at (plain_place k)) above depth (depth_at old at) d (λ h. let same = ap (depth_at old) (same_place_so at (plain_place k) h) in omega arith)

-- the steps that are left
abbrev pub AreLeft : List (Place × ℕ) → List Met → List Met → Type 0
AreLeft es left all = (at : token.Place) → max (depth_at es at) (met_depth (same_place at) left) ≡ met_depth (same_place at) all

swapped : (a b c : ℕ) → max (max a b) c ≡ max b (max a c)
swapped a b c = omega arith

pub met_so : (old new : List (Place × ℕ)) (p : Place) (above : ℕ) (some : Option (Place × ℕ)) (left all : List Met) → some ≡ Some (p, above) → AreLeft old (with_met some left) all → IsWith old new (plain_place p) above → AreLeft new left all
met_so old new p above some left all e h w at =
    ap (λ (d : ℕ). max d (met_depth (same_place at) left)) (w at) ∙ swapped (raise above (here (same_place at (plain_place p)))) (depth_at old at) (met_depth (same_place at) left)
    ∙ ap (λ (n : Option (Place × ℕ)). max (depth_at old at) (met_depth (same_place at) (with_met n left))) (sym e) ∙ h at

pub walk_split : (events : List Event) (i : ℕ) (x : Event) (ds more : List walking.Demand) (some : Option (Place × ℕ)) (es : List (Place × ℕ)) (all : List Met) → 0 < i → i ≤ length events → AreLeft es (walk (events_of (take i events)) ds) all
    → more ≡ back (plain_event (get_or events (i - 1) x)) ds → ((nodes : List Met) → brought (plain_event (get_or events (i - 1) x)) ds nodes ≡ with_met some nodes) → AreLeft es (with_met some (walk (events_of (take (i - 1) events)) more)) all
walk_split events zero x ds more some es all p q h e f = absurd (omega arith)
walk_split events (suc j) x ds more some es all p q h e f =
    let one : suc j - 1 ≡ j = omega arith in
    let less : j < length events = omega arith in
    let split : events_of (take (suc j) events) ≡ plain_event (get_or events j x) ∷ events_of (take j events) = ap events_of (take-suc events j x less) ∙ events_of-push (take j events) (get_or events j x) in
    let met = (rw one at f) (walk (events_of (take j events)) (back (plain_event (get_or events j x)) ds)) in
    let there : walk (events_of (take (suc j) events)) ds ≡ with_met some (walk (events_of (take j events)) more) =
    ap (λ l. walk l ds) split ∙ met ∙ ap (λ (l : List walking.Demand). with_met some (walk (events_of (take j events)) l)) (sym (rw one at e)) in
    rw one (subst (λ (l : List Met). AreLeft es l all) there h)

pub walk_done : (events : List Event) (i : ℕ) (ds : List walking.Demand) (es : List (Place × ℕ)) (all : List Met) → i ≤ 0 → AreLeft es (walk (events_of (take i events)) ds) all → AreNoted es all
walk_done events zero ds es all p h = λ at.
    let none : depth_at es at ≡ max (depth_at es at) (met_depth (same_place at) (walk [] ds)) = omega arith in
    none ∙ ap (λ l. max (depth_at es at) (met_depth (same_place at) (walk l ds))) (sym events_of-nothing) ∙ h at
walk_done events (suc i) ds es all p h = absurd (omega arith)

-- tokens
abbrev pub TokensNoted : List (Place × ℕ) → List (Place × ℕ) → List Entry → List Demand → ℕ → Type 0
TokensNoted old now entries demands i = (nodes : List Met) → AreNoted old nodes → AreNoted now (tokens_met (entries_of (take i entries)) (demands_of (take i demands)) nodes)

pub tokens_begun : (es : List (Place × ℕ)) (entries : List Entry) (demands : List Demand) → TokensNoted es es entries demands 0
tokens_begun es entries demands nodes h at = h at ∙ ap (λ l. met_depth (same_place at) (tokens_met l (demands_of []) nodes)) (sym entries_of-nothing)

tokens_split : (entries : List Entry) (demands : List Demand) (i : ℕ) (x : Entry) (d : Demand) (nodes : List Met) → length entries ≡ length demands → i < length entries
    → tokens_met (entries_of (take (suc i) entries)) (demands_of (take (suc i) demands)) nodes ≡ entry_met (plain_entry (get_or entries i x)) (plain_demand (get_or demands i d)) (tokens_met (entries_of (take i entries)) (demands_of (take i demands)) nodes)
tokens_split entries demands i x d nodes e p =
    let same : i < length demands = omega arith in
    ap (λ (l : List shapes.Entry). tokens_met l (demands_of (take (suc i) demands)) nodes) (entries_split entries i x p) ∙ ap (λ (l : List walking.Demand). tokens_met (plain_entry (get_or entries i x) ∷ entries_of (take i entries)) l nodes) (demands_split demands i d same)

pub tokens_more : (old now next : List (Place × ℕ)) (entries : List Entry) (demands : List Demand) (i : ℕ) (x : Entry) (d : Demand) (p : token.Place) (found : Option ℕ) (above : ℕ) → length entries ≡ length demands → i < length entries → TokensNoted old now entries demands i
    → ((nodes : List Met) → entry_met (plain_entry (get_or entries i x)) (plain_demand (get_or demands i d)) nodes ≡ met p found nodes) → found ≡ Some above → IsWith now next p above → TokensNoted old next entries demands (i + 1)
tokens_more old now next entries demands i x d p found above e q h m f w nodes n at =
    let one : i + 1 ≡ suc i = omega arith in
    rw one
    (w at ∙ ap (max (raise above (here (same_place at p)))) (h nodes n at)
    ∙ ap (met_depth (same_place at))
    (sym (tokens_split entries demands i x d nodes e q ∙ m (tokens_met (entries_of (take i entries)) (demands_of (take i demands)) nodes) ∙ ap (λ (o : Option ℕ). met p o (tokens_met (entries_of (take i entries)) (demands_of (take i demands)) nodes)) f)))

pub tokens_same : (old now : List (Place × ℕ)) (entries : List Entry) (demands : List Demand) (i : ℕ) (x : Entry) (d : Demand) (p : token.Place) (found : Option ℕ) → length entries ≡ length demands → i < length entries → TokensNoted old now entries demands i
    → ((nodes : List Met) → entry_met (plain_entry (get_or entries i x)) (plain_demand (get_or demands i d)) nodes ≡ met p found nodes) → found ≡ None → TokensNoted old now entries demands (i + 1)
tokens_same old now entries demands i x d p found e q h m f nodes n at =
    let one : i + 1 ≡ suc i = omega arith in
    rw one
    (h nodes n at
    ∙ ap (met_depth (same_place at))
    (sym (tokens_split entries demands i x d nodes e q ∙ m (tokens_met (entries_of (take i entries)) (demands_of (take i demands)) nodes) ∙ ap (λ (o : Option ℕ). met p o (tokens_met (entries_of (take i entries)) (demands_of (take i demands)) nodes)) f)))

-- the first place, token by token
abbrev pub IsFirstFrom : List (Place × ℕ) → List (Place × ℕ) → List TokenRead → ℕ → Type 0
IsFirstFrom es others tokens i =
    (texts : List (List ℕ)) (nodes more : List Met) → AreNoted es nodes → AreNoted others more → first_in_both nodes more (plain_tokens texts tokens) ≡ first_in_both nodes more (plain_tokens texts (drop i tokens))

pub first_further : (es others : List (Place × ℕ)) (tokens : List TokenRead) (i : ℕ) (x : TokenRead) (b : Bool) → i < length tokens → IsFirstFrom es others tokens i
    → ((nodes more : List Met) → AreNoted es nodes → AreNoted others more → b ≡ is_deep_in_both nodes more (plain_place (get_or tokens i x).place)) → b ≡ false → IsFirstFrom es others tokens (i + 1)
first_further es others tokens i x b p h f t texts nodes more n m =
    let one : i + 1 ≡ suc i = omega arith in
    rw one
    (h texts nodes more n m ∙ ap (λ (l : List TokenRead). first_in_both nodes more (plain_tokens texts l)) (drop-cons tokens i x p)
    ∙ ap (λ (c : Bool). if c then Some (plain_place (get_or tokens i x).place) else first_in_both nodes more (plain_tokens texts (drop (suc i) tokens))) (sym (f nodes more n m) ∙ t))

pub none_first : (es others : List (Place × ℕ)) (tokens : List TokenRead) (i : ℕ) → i ≤ length tokens → length tokens ≤ i → IsFirstFrom es others tokens i
    → (texts : List (List ℕ)) (nodes more : List Met) → AreNoted es nodes → AreNoted others more → None ≡ first_in_both nodes more (plain_tokens texts tokens)
none_first es others tokens i p q h texts nodes more n m = let one : i ≡ length tokens = omega arith in sym (h texts nodes more n m ∙ ap (λ (l : List TokenRead). first_in_both nodes more (plain_tokens texts l)) (drop_of_length-le tokens q))

pub none_met : (es : List (Place × ℕ)) (some : Option (Place × ℕ)) (left all : List Met) → some ≡ None → AreLeft es (with_met some left) all → AreLeft es left all
none_met es some left all e h at = ap (λ (n : Option (Place × ℕ)). max (depth_at es at) (met_depth (same_place at) (with_met n left))) (sym e) ∙ h at
