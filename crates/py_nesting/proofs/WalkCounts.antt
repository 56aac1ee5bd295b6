-- Going back through the events that built outlines meets their nodes, each with those that stand above it.
use Rattle.std.proofs.Common.{◌≡◌, ℕ, zero, suc, ◌≤◌, max, Bool, true, false, List, [], ◌∷◌, Option, Some, None, inl, inr, arith, refl, sym, ap, ◌∙◌, subst, if◌then◌else◌, ◌⊎◌}
use Rattle.py_tokens.specs.Token.{Place}
use Rattle.py_nesting.specs.Depths.{here, up, under}
use Rattle.py_nesting.specs.Outlines.{Label, Plain, Bracket, Tuple, Outline, Node, Group, Outlines, none_below, more_below, outline_depth, outlines_depth, as_targets, all_as_targets, with_last, Event, Over, Gather, Join, JoinGroup, Loosen, Assign, Forget, same_label, Taken, take_below, put, step, after, built}
use Rattle.py_nesting.specs.Walk.{Demand, Nothing, Whole, Inside, Assigned, InsideAssigned, raise, inside, demanded, depth_of, below, within, loosened, unassigned, times, back, comes, Met, met, brought, walk, met_depth, WalkLaw}
use Rattle.py_nesting.proofs.Fits.{low_or_high}

raise_more : (d a b : ℕ) → a ≤ b → raise d a ≤ raise d b
raise_more d zero b l = omega arith
raise_more d (suc a) zero l = absurd (omega arith)
raise_more d (suc a) (suc b) l = omega arith

raise_max : (d a b : ℕ) → raise d (max a b) ≡ max (raise d a) (raise d b)
raise_max d a b = at (low_or_high a b)
  where
    at : ((a ≤ b) ⊎ (suc b ≤ a)) → raise d (max a b) ≡ max (raise d a) (raise d b)
    at (inl l) = let e : max a b ≡ b = omega arith in let m = raise_more d a b l in let f : max (raise d a) (raise d b) ≡ raise d b = omega arith in ap (raise d) e ∙ sym f
    at (inr l) =
        let e : max a b ≡ a = omega arith in
        let low : b ≤ a = omega arith in
        let m = raise_more d b a low in
        let f : max (raise d a) (raise d b) ≡ raise d a = omega arith in ap (raise d) e ∙ sym f

raise_up : (d n : ℕ) → raise d (up n) ≡ raise (suc d) n
raise_up d zero = refl
raise_up d (suc n) = omega arith

raise_under : (d : ℕ) (b : Bool) (n : ℕ) → raise d (under b n) ≡ max (raise d (here b)) (raise (suc d) n)
raise_under d b n = raise_max d (here b) (up n) ∙ ap (max (raise d (here b))) (raise_up d n)

-- what is asked of each
abbrev asked : (Place → Bool) → Demand → Outlines → ℕ
asked at d none_below = 0
asked at d (more_below o os) = max (demanded at d o) (asked at d os)

nothing_is_asked : (at : Place → Bool) (os : Outlines) → asked at Nothing os ≡ 0
nothing_is_asked at none_below = refl
nothing_is_asked at (more_below o os) = let e = nothing_is_asked at os in omega arith

whole_asked : (at : Place → Bool) (d : ℕ) (os : Outlines) → asked at (Whole d) os ≡ raise d (outlines_depth at os)
whole_asked at d none_below = refl
whole_asked at d (more_below o os) = let e = whole_asked at d os in let f = raise_max d (outline_depth at o) (outlines_depth at os) in omega arith

assigned_asked : (at : Place → Bool) (d : ℕ) (os : Outlines) → asked at (Assigned d) os ≡ raise d (outlines_depth at (all_as_targets os))
assigned_asked at d none_below = refl
assigned_asked at d (more_below o os) =
    let e = assigned_asked at d os in
    let f = raise_max d (outline_depth at (as_targets o)) (outlines_depth at (all_as_targets os)) in omega arith

last_asked : (at : Place → Bool) (d : Demand) (os : Outlines) (o : Outline) → asked at d (with_last os o) ≡ max (asked at d os) (demanded at d o)
last_asked at d none_below o = omega arith
last_asked at d (more_below first os) o = let e = last_asked at d os o in omega arith

node_asked : (at : Place → Bool) (l : Label) (p : Place) (os : Outlines) (d : Demand)
    → demanded at d (Node l p os) ≡ max (met_depth at (met p (comes l d) [])) (asked at (below l d) os)
node_asked at l p os Nothing = let f = nothing_is_asked at os in omega arith
node_asked at l p os (Whole d) = let e = raise_under d (at p) (outlines_depth at os) in let f = whole_asked at (suc d) os in omega arith
node_asked at l p os (Inside d) = let f = whole_asked at d os in omega arith
node_asked at Plain p os (Assigned d) = let e = raise_under d (at p) (outlines_depth at os) in let f = whole_asked at (suc d) os in omega arith
node_asked at Bracket p os (Assigned d) =
    let e = raise_under d (at p) (outlines_depth at (all_as_targets os)) in let f = assigned_asked at (suc d) os in omega arith
node_asked at Tuple p os (Assigned d) = let f = whole_asked at d os in omega arith
node_asked at Plain p os (InsideAssigned d) = let f = whole_asked at d os in omega arith
node_asked at Bracket p os (InsideAssigned d) = let f = assigned_asked at d os in omega arith
node_asked at Tuple p os (InsideAssigned d) = let f = whole_asked at d os in omega arith

group_asked : (at : Place → Bool) (os : Outlines) (d : Demand) → demanded at d (Group os) ≡ asked at (within d) os
group_asked at os Nothing = sym (nothing_is_asked at os)
group_asked at os (Whole d) = sym (whole_asked at d os)
group_asked at os (Inside d) = sym (whole_asked at d os)
group_asked at os (Assigned d) = sym (whole_asked at d os)
group_asked at os (InsideAssigned d) = sym (whole_asked at d os)

loosened_asked : (at : Place → Bool) (k : Label) (q : Place) (os : Outlines) (d : Demand) → demanded at d (Group os) ≡ demanded at (loosened d) (Node k q os)
loosened_asked at k q os Nothing = refl
loosened_asked at k q os (Whole d) = refl
loosened_asked at k q os (Inside d) = refl
loosened_asked at k q os (Assigned d) = refl
loosened_asked at k q os (InsideAssigned d) = refl

-- targets are targets
mutual
  targets_again : (o : Outline) → as_targets (as_targets o) ≡ as_targets o
  targets_again (Node Plain p os) = refl
  targets_again (Node Bracket p os) = ap (Node Bracket p) (all_targets_again os)
  targets_again (Node Tuple p os) = refl
  targets_again (Group os) = refl

  all_targets_again : (os : Outlines) → all_as_targets (all_as_targets os) ≡ all_as_targets os
  all_targets_again none_below = refl
  all_targets_again (more_below o os) =
      ap (λ (x : Outline). more_below x (all_as_targets (all_as_targets os))) (targets_again o) ∙ ap (more_below (as_targets o)) (all_targets_again os)

targets_asked : (at : Place → Bool) (o : Outline) (d : Demand) → demanded at d (as_targets o) ≡ demanded at (unassigned d) o
targets_asked at o Nothing = refl
targets_asked at o (Whole d) = refl
targets_asked at o (Inside d) = refl
targets_asked at o (Assigned d) = ap (λ (x : Outline). raise d (outline_depth at x)) (targets_again o)
targets_asked at o (InsideAssigned d) = ap (λ (x : Outline). raise d (outlines_depth at (inside x))) (targets_again o)

taken_asked : (at : Place → Bool) (n : ℕ) (os : List Outline) (more : Outlines) (t : Taken) (d : Demand) (ds : List Demand) → take_below n os more ≡ Some t
    → max (asked at d t.taken) (depth_of at t.left ds) ≡ max (asked at d more) (depth_of at os (times n d ds))
taken_asked at zero os more t d ds e =
    let is : record { taken = more; left = os } ≡ t = cc in
    subst (λ (u : Taken). max (asked at d u.taken) (depth_of at u.left ds) ≡ max (asked at d more) (depth_of at os ds)) is refl
taken_asked at (suc n) [] more t d ds e = absurd (cc)
taken_asked at (suc n) (o ∷ os) more t d ds e = let f = taken_asked at n os (more_below o more) t d ds e in omega arith

pub nothing_asked : (at : Place → Bool) (os : List Outline) → depth_of at os [] ≡ 0
nothing_asked at [] = refl
nothing_asked at (o ∷ os) = refl

nothing_brought : (at : Place → Bool) (e : Event) → met_depth at (brought e [] []) ≡ 0
nothing_brought at (Over l p n) = refl
nothing_brought at (Gather n) = refl
nothing_brought at (Join l) = refl
nothing_brought at JoinGroup = refl
nothing_brought at Loosen = refl
nothing_brought at Assign = refl
nothing_brought at Forget = refl

put_asked : (at : Place → Bool) (f : Outlines → Outline) (n : ℕ) (os others : List Outline) (d w : Demand) (ds : List Demand) (k : ℕ)
    → ((below : Outlines) → demanded at d (f below) ≡ max k (asked at w below)) → put f (take_below n os none_below) ≡ Some others
    → depth_of at others (d ∷ ds) ≡ max k (depth_of at os (times n w ds))
put_asked at f n os others d w ds k splits e = go (take_below n os none_below) refl e
  where
    go : (r : Option Taken) → take_below n os none_below ≡ r → put f r ≡ Some others → depth_of at others (d ∷ ds) ≡ max k (depth_of at os (times n w ds))
    go None same q = absurd (cc)
    go (Some t) same q =
        let is : f t.taken ∷ t.left ≡ others = cc in
        let a = taken_asked at n os none_below t w ds same in
        let b = splits t.taken in
        subst (λ (l : List Outline). depth_of at l (d ∷ ds) ≡ max k (depth_of at os (times n w ds))) is (omega arith)

join_asked : (at : Place → Bool) (l k : Label) (p : Place) (under_it : Outlines) (o : Outline) (os : List Outline) (d : Demand) (ds : List Demand)
    → same_label l k ≡ true → depth_of at (Node k p (with_last under_it o) ∷ os) (d ∷ ds) ≡ depth_of at (o ∷ Node k p under_it ∷ os) (below l d ∷ d ∷ ds)
join_asked at l k p under_it o os d ds same =
    let is : below k d ≡ below l d = ap (λ (x : Label). below x d) (label_is l k same) in
    let a = node_asked at k p (with_last under_it o) d in
    let b = node_asked at k p under_it d in
    let c = last_asked at (below k d) under_it o in
    subst (λ (w : Demand). depth_of at (Node k p (with_last under_it o) ∷ os) (d ∷ ds) ≡ depth_of at (o ∷ Node k p under_it ∷ os) (w ∷ d ∷ ds)) is (omega arith)
  where
    label_is : (l k : Label) → same_label l k ≡ true → k ≡ l
    label_is Plain Plain e = refl
    label_is Bracket Bracket e = refl
    label_is Tuple Tuple e = refl
    label_is Plain Bracket e = absurd (cc)
    label_is Plain Tuple e = absurd (cc)
    label_is Bracket Plain e = absurd (cc)
    label_is Bracket Tuple e = absurd (cc)
    label_is Tuple Plain e = absurd (cc)
    label_is Tuple Bracket e = absurd (cc)

step_asked : (at : Place → Bool) (e : Event) (os others : List Outline) (d : Demand) (ds : List Demand) → step e os ≡ Some others
    → depth_of at others (d ∷ ds) ≡ max (met_depth at (brought e (d ∷ ds) [])) (depth_of at os (back e (d ∷ ds)))
step_asked at (Over l p n) os others d ds e = put_asked at (Node l p) n os others d (below l d) ds _ (λ os. node_asked at l p os d) e
step_asked at (Gather n) os others d ds e = put_asked at Group n os others d (within d) ds 0 (λ os. (let a = group_asked at os d in omega arith)) e
step_asked at (Join l) [] others d ds e = absurd (cc)
step_asked at (Join l) (o ∷ []) others d ds e = absurd (cc)
step_asked at (Join l) (o ∷ Group os ∷ rest) others d ds e = absurd (cc)
step_asked at (Join l) (o ∷ Node k p os ∷ rest) others d ds e = go (same_label l k) refl e
  where
    go : (b : Bool) → same_label l k ≡ b → (if b then Some (Node k p (with_last os o) ∷ rest) else None) ≡ Some others
        → depth_of at others (d ∷ ds) ≡ max 0 (depth_of at (o ∷ Node k p os ∷ rest) (below l d ∷ d ∷ ds))
    go false same q = absurd (cc)
    go true same q =
        let is : Node k p (with_last os o) ∷ rest ≡ others = cc in
        let a = join_asked at l k p os o rest d ds same in
        subst (λ (x : List Outline). depth_of at x (d ∷ ds) ≡ max 0 (depth_of at (o ∷ Node k p os ∷ rest) (below l d ∷ d ∷ ds))) is (omega arith)
step_asked at JoinGroup [] others d ds e = absurd (cc)
step_asked at JoinGroup (o ∷ []) others d ds e = absurd (cc)
step_asked at JoinGroup (o ∷ Node k p os ∷ rest) others d ds e = absurd (cc)
step_asked at JoinGroup (o ∷ Group os ∷ rest) others d ds e =
    let is : Group (with_last os o) ∷ rest ≡ others = cc in
    let a = group_asked at (with_last os o) d in
    let b = group_asked at os d in
    let c = last_asked at (within d) os o in
    subst (λ (x : List Outline). depth_of at x (d ∷ ds) ≡ max 0 (depth_of at (o ∷ Group os ∷ rest) (within d ∷ d ∷ ds))) is (omega arith)
step_asked at Loosen [] others d ds e = absurd (cc)
step_asked at Loosen (Group os ∷ rest) others d ds e = absurd (cc)
step_asked at Loosen (Node k q os ∷ rest) others d ds e =
    let is : Group os ∷ rest ≡ others = cc in
    let a = loosened_asked at k q os d in
    subst (λ (x : List Outline). depth_of at x (d ∷ ds) ≡ max 0 (depth_of at (Node k q os ∷ rest) (loosened d ∷ ds))) is (omega arith)
step_asked at Assign [] others d ds e = absurd (cc)
step_asked at Assign (o ∷ rest) others d ds e =
    let is : as_targets o ∷ rest ≡ others = cc in
    let a = targets_asked at o d in
    subst (λ (x : List Outline). depth_of at x (d ∷ ds) ≡ max 0 (depth_of at (o ∷ rest) (unassigned d ∷ ds))) is (omega arith)
step_asked at Forget [] others d ds e = absurd (cc)
step_asked at Forget (o ∷ []) others d ds e = absurd (cc)
step_asked at Forget (o ∷ n ∷ rest) others d ds e =
    let is : o ∷ rest ≡ others = cc in
    subst (λ (x : List Outline). depth_of at x (d ∷ ds) ≡ max 0 (depth_of at (o ∷ n ∷ rest) (d ∷ Nothing ∷ ds))) is (omega arith)

met_more : (at : Place → Bool) (p : Place) (d : Option ℕ) (nodes : List Met) → met_depth at (met p d nodes) ≡ max (met_depth at (met p d [])) (met_depth at nodes)
met_more at p None nodes = omega arith
met_more at p (Some d) nodes = omega arith

pub brought_more : (at : Place → Bool) (e : Event) (ds : List Demand) (nodes : List Met) → met_depth at (brought e ds nodes) ≡ max (met_depth at (brought e ds [])) (met_depth at nodes)
brought_more at (Over l p n) [] nodes = omega arith
brought_more at (Over l p n) (d ∷ ds) nodes = met_more at p (comes l d) nodes
brought_more at Loosen ds nodes = omega arith
brought_more at (Gather n) ds nodes = omega arith
brought_more at (Join l) ds nodes = omega arith
brought_more at JoinGroup ds nodes = omega arith
brought_more at Assign ds nodes = omega arith
brought_more at Forget ds nodes = omega arith

-- one event more
one_more : (at : Place → Bool) (e : Event) (os others : List Outline) (ds : List Demand) (nodes : List Met) → step e os ≡ Some others
    → depth_of at os (back e ds) ≡ met_depth at nodes → depth_of at others ds ≡ met_depth at (brought e ds nodes)
one_more at e os others [] nodes s h =
    let a = nothing_asked at others in
    let b = brought_more at e [] nodes in
    let c = nothing_brought at e in
    let f = nothing_asked at os in
    let g : met_depth at nodes ≡ 0 = sym h ∙ f in omega arith
one_more at e os others (d ∷ ds) nodes s h =
    let a = step_asked at e os others d ds s in
    let b = brought_more at e (d ∷ ds) nodes in omega arith

pub walk_counts : WalkLaw
walk_counts at [] os ds e = let is : [] ≡ os = cc in subst (λ (l : List Outline). depth_of at l ds ≡ 0) is refl
walk_counts at (e ∷ events) os ds b = go (built events) refl b (λ before same. walk_counts at events before (back e ds) same)
  where
    go : (r : Option (List Outline)) → built events ≡ r → after e r ≡ Some os
        → ((before : List Outline) → built events ≡ Some before → depth_of at before (back e ds) ≡ met_depth at (walk events (back e ds)))
        → depth_of at os ds ≡ met_depth at (brought e ds (walk events (back e ds)))
    go None same q again = absurd (cc)
    go (Some before) same q again = one_more at e before os ds (walk events (back e ds)) q (again before same)
