use Rattle.std.proofs.Common.{◌≡◌, length, inl, inr, sym, arith}
use Rattle.py_recogniser.proofs.FrontsFound.{unexpected_at, outside_at, tells_unexpected, tells_outside, tells_deep}
use Rattle.py_recogniser.proofs.recognition.refusal_at.Goals as goal

pub returns-in-Some-no_later : goal.returns-in-Some-no_later
returns-in-Some-no_later c r =
    let many : length c.split_at.result.1.now ≡ length c.args.rest.now = omega (arith, c.split_at.ensures.back_len, c.in-Some.ensures.0, c.in-Some.ensures.1) in
    let names = c.args.names.now in
    let ts = c.args.tokens.now in
    let front = c.split_at.result.0.now in
    let back = c.split_at.result.1.now in
    tells_deep names ts front back _ c.in_ok-first.first c.no_later.result c.in-Some-2.place c.in-Some-no_later.deep c.split_at.ensures.by_index.0 (sym c.split_at.ensures.front_len) c.in_ok-first.ensures c.no_later.ensures c.in-Some-no_later.is
    (inr (c.in-Some-2.construct, outside_at names ts front back c.args.rest.now _ c.in-Some-2.place c.in-Some-2.construct c.split_at.ensures.by_index.0 many (sym c.split_at.ensures.front_len) (rw c.in-Some-2.is at c.in_ok-construct.ensures) r))

pub returns-in-None : goal.returns-in-None
returns-in-None c r =
    let many : length c.split_at.result.1.now ≡ length c.args.rest.now = omega (arith, c.split_at.ensures.back_len, c.in-Some.ensures.0, c.in-Some.ensures.1) in
    let names = c.args.names.now in
    let ts = c.args.tokens.now in
    let front = c.split_at.result.0.now in
    let back = c.split_at.result.1.now in
    tells_outside names ts front back _ c.in_ok-first.first c.no_later.result c.in-Some-2.place c.in-Some-2.construct c.split_at.ensures.by_index.0 (sym c.split_at.ensures.front_len) c.in_ok-first.ensures c.no_later.ensures c.in-None.is
    (outside_at names ts front back c.args.rest.now _ c.in-Some-2.place c.in-Some-2.construct c.split_at.ensures.by_index.0 many (sym c.split_at.ensures.front_len) (rw c.in-Some-2.is at c.in_ok-construct.ensures) r)

pub returns-in-Some-no_later-2 : goal.returns-in-Some-no_later-2
returns-in-Some-no_later-2 c r =
    let many : length c.split_at.result.1.now ≡ length c.args.rest.now = omega (arith, c.split_at.ensures.back_len, c.in-Some.ensures.0, c.in-Some.ensures.1) in
    let names = c.args.names.now in
    let ts = c.args.tokens.now in
    let front = c.split_at.result.0.now in
    let back = c.split_at.result.1.now in
    tells_deep names ts front back _ c.in_ok-first.first c.no_later-2.result c.in_ok-place.place c.in-Some-no_later-2.deep c.split_at.ensures.by_index.0 (sym c.split_at.ensures.front_len) c.in_ok-first.ensures c.no_later-2.ensures c.in-Some-no_later-2.is
    (inl (
      c.in_ok-place.found,
      unexpected_at names ts front back c.args.rest.now _ c.in_ok-place.place c.in_ok-place.found c.split_at.ensures.by_index.0 many (sym c.split_at.ensures.front_len) (rw c.in_default-2.is at c.in_ok-construct.ensures) (c.in_ok-place.ensures c.args.names.now) r,
    ))

pub returns-in-None-no_later : goal.returns-in-None-no_later
returns-in-None-no_later c r =
    let many : length c.split_at.result.1.now ≡ length c.args.rest.now = omega (arith, c.split_at.ensures.back_len, c.in-Some.ensures.0, c.in-Some.ensures.1) in
    let names = c.args.names.now in
    let ts = c.args.tokens.now in
    let front = c.split_at.result.0.now in
    let back = c.split_at.result.1.now in
    tells_unexpected names ts front back _ c.in_ok-first.first c.no_later-2.result c.in_ok-place.place c.in_ok-place.found c.split_at.ensures.by_index.0 (sym c.split_at.ensures.front_len) c.in_ok-first.ensures c.no_later-2.ensures c.in-None-no_later.is
    (unexpected_at names ts front back c.args.rest.now _ c.in_ok-place.place c.in_ok-place.found c.split_at.ensures.by_index.0 many (sym c.split_at.ensures.front_len) (rw c.in_default-2.is at c.in_ok-construct.ensures) (c.in_ok-place.ensures c.args.names.now) r)
