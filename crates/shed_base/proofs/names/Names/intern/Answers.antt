use Rattle.std.proofs.Common.{◌≡◌, ◌+◌, [], ◌∷◌, ◌++◌, length, slice_get, Some, map, string_bytes, arith, refl, sym, ap, subst, ◌∙◌}
use Rattle.std.proofs.lemmas.List.{length-map, length_push}
use Rattle.std.proofs.lemmas.Result.{IfOk-weaker}
use Rattle.shed_base.specs.Names.{with_text, AreDistinct}
use Rattle.shed_base.proofs.NamesPlaced.{kept, added, last_is_with, found, at_found, at_last, distinct-with_text, on_ok}
use Rattle.shed_base.proofs.names.Names.intern.Goals as goal

pub returns-in-Some-clause-texts : goal.returns-in-Some-clause-texts
returns-in-Some-clause-texts c =
    let x = c.args.text.now in
    on_ok c.at.result (subst (λ ts. ts ≡ with_text ts x) c.self.view_is (kept c.self.inside.texts.keys x (sym c.in-Some.ensures.found)))

pub returns-in-Some-clause-place : goal.returns-in-Some-clause-place
returns-in-Some-clause-place c =
    let x = c.args.text.now in
    let there : slice_get c.args.self.now c.in-Some.place ≡ Some x = ap (λ ts. slice_get ts c.in-Some.place) (sym c.self.view_is) ∙ at_found c.self.inside.texts.keys x c.in-Some.place c.in-Some.ensures.index in
    IfOk-weaker c.at.result _ _ (λ name is. ap (λ n. slice_get c.args.self.now n) is ∙ there) c.at.ensures.place

pub returns-in_err-name-clause-known : goal.returns-in_err-name-clause-known
returns-in_err-name-clause-known c there =
    found c.self.inside.texts.keys c.args.self.now c.args.text.now c.self.view_is (sym c.in_default.ensures.found) there

pub returns-in_err-text-clause-known : goal.returns-in_err-text-clause-known
returns-in_err-text-clause-known c there =
    found c.self.inside.texts.keys c.args.self.now c.args.text.now c.self.view_is (sym c.in_default.ensures.found) there

pub returns-in_err-insert-clause-known : goal.returns-in_err-insert-clause-known
returns-in_err-insert-clause-known c there =
    found c.self.inside.texts.keys c.args.self.now c.args.text.now c.self.view_is (sym c.in_default.ensures.found) there

last : (c : goal.In_ok-insert) → map string_bytes c.insert.new.self.keys ≡ map string_bytes c.self.inside.texts.keys ++ c.args.text.now ∷ []
last c =
    added c.self.inside.texts.keys c.insert.new.self.keys c.in_ok-text.text c.args.text.now c.in_ok-text.ensures.ok (sym c.in_default.ensures.found) c.in_ok-insert.ensures.keys

gained : (c : goal.In_ok-insert) → map string_bytes c.insert.new.self.keys ≡ with_text (map string_bytes c.self.inside.texts.keys) c.args.text.now
gained c =
    last c ∙ last_is_with c.self.inside.texts.keys c.args.text.now (sym c.in_default.ensures.found)

pub invariant_of-self-2 : goal.invariant_of-self-2
invariant_of-self-2 c =
    let old = c.self.inside.texts.keys in
    let new = c.insert.new.self.keys in
    let distinct : AreDistinct (map string_bytes new) = subst AreDistinct (sym (gained c)) (distinct-with_text (map string_bytes old) c.args.text.now c.self.invariant.0) in
    let longer : length new ≡ length old + 1 =
    sym (length-map new string_bytes)
    ∙ ap length (last c)
    ∙ length_push (map string_bytes old) c.args.text.now
    ∙ ap (λ n. n + 1) (length-map old string_bytes) in
    let room = c.in_ok-name.ensures.held.0 refl in
    let count = c.len.ensures.len in
    (distinct, omega arith)

pub returns-clause-texts : goal.returns-clause-texts
returns-clause-texts c = gained c ∙ ap (λ ts. with_text ts c.args.text.now) c.self.view_is

pub returns-clause-place : goal.returns-clause-place
returns-clause-place c =
    let old = c.self.inside.texts.keys in
    let place : c.in_ok-name.name.0 ≡ length (map string_bytes old) = c.in_ok-name.ensures.place ∙ c.len.ensures.len ∙ sym (length-map old string_bytes) in
    ap (λ ts. slice_get ts c.in_ok-name.name.0) (last c)
    ∙ ap (λ n. slice_get (map string_bytes old ++ c.args.text.now ∷ []) n) place
    ∙ at_last (map string_bytes old) c.args.text.now

pub returns-clause-distinct : goal.returns-clause-distinct
returns-clause-distinct c = (invariant_of-self-2 c).0
