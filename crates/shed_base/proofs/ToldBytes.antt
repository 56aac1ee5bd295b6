-- Several calls of a source or a sink as one.
use Rattle.std.proofs.Common.{◌≡◌, ◌≤◌, ℕ, ◌+◌, ◌-◌, List, [], ◌++◌, true, ◌==◌, option_map, length, take, drop, Option, Some, None, refl, sym, ap, ◌∙◌, append_assoc, append-nil}
use Rattle.std.proofs.Math.Seq.{take-add}
use Rattle.std.proofs.lemmas.Bool.{eqb-true}
use Rattle.std.proofs.lemmas.List.{nil_from_length, take_all, take_rest}
use Rattle.std.proofs.lemmas.Option.{same_Some}
use Rattle.shed_base.specs.Outside.{appended, put_back, ZeroExactlyAtEnd}

pub appended-nil : (held : Option (List ℕ)) → appended held [] ≡ held
appended-nil None = refl
appended-nil (Some front) = ap Some (append-nil front)

pub appended-appended : (held : Option (List ℕ)) (first second : List ℕ) → appended (appended held first) second ≡ appended held (first ++ second)
appended-appended None first second = refl
appended-appended (Some front) first second = ap Some (append_assoc front first second)

pub put_back-nil : (left : Option (List ℕ)) → put_back [] left ≡ left
put_back-nil None = refl
put_back-nil (Some rest) = refl

pub put_back-put_back : (first second : List ℕ) (left : Option (List ℕ)) → put_back first (put_back second left) ≡ put_back (first ++ second) left
put_back-put_back first second None = refl
put_back-put_back first second (Some rest) = ap Some (sym (append_assoc first second rest))

-- a sink that took the next bytes of a piece has taken a longer front of it
pub appended_further : (before between after : Option (List ℕ)) (piece : List ℕ) (done count : ℕ) → between ≡ appended before (take done piece) → after ≡ appended between (take count (drop done piece)) → after ≡ appended before (take (done + count) piece)
appended_further before between after piece done count first second =
    second
    ∙ ap (λ held. appended held (take count (drop done piece))) first
    ∙ appended-appended before (take done piece) (take count (drop done piece))
    ∙ ap (appended before) (sym (take-add done count piece))

-- the same, where the next bytes are the slice `&piece[done..]`
pub appended_slice : (before between after : Option (List ℕ)) (piece : List ℕ) (done count : ℕ) → between ≡ appended before (take done piece) → after ≡ appended between (take count (take (length piece - done) (drop done piece))) → after ≡ appended before (take (done + count) piece)
appended_slice before between after piece done count first second =
    appended_further before between after piece done count first (second ∙ ap (λ rest. appended between (take count rest)) (take_rest piece done))

-- and all of it at its length
pub appended_whole : (held : Option (List ℕ)) (piece : List ℕ) (done : ℕ) → length piece ≤ done → appended held (take done piece) ≡ appended held piece
appended_whole held piece done all = ap (appended held) (take_all done piece all)

-- what a source gave in two reads
pub put_back_further : (before between after : Option (List ℕ)) (first second : List ℕ) → before ≡ put_back first between → between ≡ put_back second after → before ≡ put_back (first ++ second) after
put_back_further before between after first second one two = one ∙ ap (put_back first) two ∙ put_back-put_back first second after

empty_of_test : (bytes : List ℕ) → (length bytes == 0) ≡ true → bytes ≡ []
empty_of_test bytes tested = nil_from_length bytes (eqb-true (length bytes) 0 tested)

-- a source that gives no byte has none left
pub nothing_left : (left : Option (List ℕ)) → ZeroExactlyAtEnd 0 left → left ≡ option_map (λ (_ : List ℕ). []) left
nothing_left None ended = refl
nothing_left (Some rest) ended = ap Some (empty_of_test rest (same_Some _ _ ended))

-- so what it gave before is all that it had
pub all_taken : (before after : Option (List ℕ)) (bytes : List ℕ) → before ≡ put_back bytes after → ZeroExactlyAtEnd 0 after → before ≡ option_map (λ (_ : List ℕ). bytes) before
all_taken before None bytes taken ended = taken ∙ ap (option_map (λ (_ : List ℕ). bytes)) (sym taken)
all_taken before (Some rest) bytes taken ended =
    let all : before ≡ Some bytes = taken ∙ ap (λ end. Some (bytes ++ end)) (empty_of_test rest (same_Some _ _ ended)) ∙ ap Some (append-nil bytes) in
    all ∙ ap (option_map (λ (_ : List ℕ). bytes)) (sym all)
