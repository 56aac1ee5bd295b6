-- What symbols derive that fit takes outlines to outlines.
use Rattle.std.proofs.Common.{◌≡◌, ℕ, zero, suc, ◌≤◌, true, false, List, [], ◌∷◌, ◌++◌, Option, Some, refl, sym, ap, ◌∙◌, subst, arith}
use Rattle.grammars.specs.Grammar.{Tok, Non, Do}
use Rattle.grammars.specs.Derivation.{Derives}
use Rattle.py_syntax.specs.Token.{TName, TKeyword, TOperator, TNumber, TText, TFloat, TImaginary, TBytes, TFormatted, TNewline, TIndent, TDedent, Token, At}
use Rattle.py_syntax.specs.Kinds.{number_of, kind_of}
use Rattle.py_syntax.specs.Build.{PToken, Parts, act}
use Rattle.py_syntax.specs.Table.{Symbol, table}
use Rattle.py_syntax.specs.Laws.{goal}
use Rattle.py_nesting.specs.Outlines.{Outline, Event, after}
use Rattle.py_tokens.specs.Token.{Place}
use Rattle.py_nesting.specs.Forms.{TokenForm, OtherToken}
use Rattle.py_nesting.specs.Shapes.{TokenShape, entry, entry_of, entries_of, outlines_of}
use Rattle.py_nesting.specs.Effects.{effect, after_all}
use Rattle.py_nesting.proofs.EffectsKept.{effects_kept}
use Rattle.py_fronts.specs.Kinds.{Kind, AToken, ABody, fits, token_kind}
use Rattle.py_fronts.proofs.RowsFit.{fit_so}
use Rattle.py_fronts.specs.Fit.{Fit, FitLaw, StartLaw}
use Rattle.py_fronts.proofs.TableFits.{row_fits}

-- a number above those of names and literals
other_token : (k : ℕ) → 4 ≤ k → token_kind k ≡ AToken
other_token zero h = absurd (omega arith)
other_token (suc zero) h = absurd (omega arith)
other_token (suc (suc zero)) h = absurd (omega arith)
other_token (suc (suc (suc zero))) h = absurd (omega arith)
other_token (suc (suc (suc (suc k)))) h = refl

other_fits : (k : ℕ) (p : Place) (f : TokenForm) → 4 ≤ k → fits (token_kind k) (entry (TokenShape f) p) ≡ true
other_fits k p f h = ap (λ (l : Kind). fits l (entry (TokenShape f) p)) (other_token k h)

pub token_fits_so : (t : Token) → fits (token_kind (kind_of t)) (entry_of (PToken t)) ≡ true
token_fits_so (At p (TName false x)) = refl
token_fits_so (At p (TName true x)) = refl
token_fits_so (At p (TNumber n)) = refl
token_fits_so (At p (TText t)) = refl
token_fits_so (At p TFloat) = refl
token_fits_so (At p TImaginary) = refl
token_fits_so (At p TBytes) = refl
token_fits_so (At p TFormatted) = refl
token_fits_so (At p TNewline) = refl
token_fits_so (At p TIndent) = refl
token_fits_so (At p TDedent) = refl
token_fits_so (At p (TKeyword s)) = other_fits (number_of (TKeyword s)) p OtherToken (omega arith)
token_fits_so (At p (TOperator s)) = other_fits (number_of (TOperator s)) p OtherToken (omega arith)

pub after_both : (more events : List Event) (o : Option (List Outline)) → after_all (more ++ events) o ≡ after_all more (after_all events o)
after_both [] events o = refl
after_both (e ∷ more) events o = ap (after e) (after_both more events o)

derived_fit : (n : ℕ) (symbols : List Symbol) (v w : Parts) (ts : List Token) → Fit symbols (entries_of v) → Derives table n symbols v ts w
    → (events : List Event) × (after_all events (Some (outlines_of v)) ≡ Some (outlines_of w))
derived_fit zero [] v w ts f d = ([], ap (λ (u : Parts). Some (outlines_of u)) d.1)
derived_fit zero (s ∷ symbols) v w ts f d = absurd d
derived_fit (suc n) [] v w ts f d = absurd d
derived_fit (suc n) (Tok k ∷ symbols) v w ts f (t, rest, e, kind, d) =
    derived_fit n symbols (PToken t ∷ v) w rest (f (entry_of (PToken t)) (subst (λ (m : ℕ). fits (token_kind m) (entry_of (PToken t)) ≡ true) kind (token_fits_so t))) d
derived_fit (suc n) (Non x ∷ symbols) v w ts f (r, i, a, d) = derived_fit n (r.symbols ++ symbols) v w ts (row_fits x r v symbols i a f.0 f.1) d
derived_fit (suc n) (Do a ∷ symbols) v w ts f d =
    let kept = effects_kept a v (effect f.0 f.1) f.2 in
    let more = derived_fit n symbols (act a v) w ts (subst (Fit symbols) (sym kept.0) f.3) d in
    (more.0 ++ f.1, after_both more.0 f.1 (Some (outlines_of v)) ∙ ap (after_all more.0) kept.1 ∙ more.1)

pub fit_law : FitLaw
fit_law symbols v w ts f y = derived_fit y.0 symbols v w ts f y.1

pub start_law : StartLaw
start_law = fit_so goal [] [] (ABody ∷ []) [] [] refl refl (λ new f. tt)
