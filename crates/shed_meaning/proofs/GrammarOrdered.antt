-- The tokens of a text as the grammar sees them stand in its order, and so do those of a front.
use Rattle.std.proofs.Common.{◌≡◌, false, List, [], ◌∷◌, map, refl}
use Rattle.py_tokens.specs.Token as texts
use Rattle.py_tokens.specs.Ordered as texts_order
use Rattle.py_tokens.proofs.TokensOrdered.{tokens_are_ordered}
use Rattle.py_syntax.specs.Kinds.{number_of}
use Rattle.py_nesting.specs.Ordered.{is_layout_kind, IsBefore, AreOrdered}
use Rattle.py_nesting.proofs.FrontsOrdered.{ordered_front}
use Rattle.py_meaning.specs.Name.{Name}
use Rattle.py_meaning.specs.Source.{names_of, numbered_kind, numbered}
use Rattle.shed_meaning.specs.Ordered.{GrammarOrderedLaw}

-- tokens of layout are so for the grammar
no_layout : (names : List Name) (k : texts.Kind) → is_layout_kind (number_of (numbered_kind names k)) ≡ false → texts_order.is_layout k ≡ false
no_layout names (texts.TName x) h = refl
no_layout names (texts.TKeyword s) h = refl
no_layout names (texts.TOperator s) h = refl
no_layout names (texts.TNumber n) h = refl
no_layout names (texts.TText t) h = refl
no_layout names texts.TFloat h = refl
no_layout names texts.TImaginary h = refl
no_layout names texts.TBytes h = refl
no_layout names texts.TFormatted h = refl
no_layout names texts.TNewline h = absurd (cc)
no_layout names texts.TIndent h = absurd (cc)
no_layout names texts.TDedent h = absurd (cc)

before_numbered : (names : List Name) (t : texts.Token) (ts : List texts.Token) → texts_order.IsBefore t ts → IsBefore (numbered names t) (map (numbered names) ts)
before_numbered names t [] b = tt
before_numbered names t (u ∷ ts) b = (b.0, (λ i j. b.1 (no_layout names t.kind i) (no_layout names u.kind j)), before_numbered names t ts b.2)

ordered_numbered : (names : List Name) (ts : List texts.Token) → texts_order.AreOrdered ts → AreOrdered (map (numbered names) ts)
ordered_numbered names [] o = tt
ordered_numbered names (t ∷ ts) o = (before_numbered names t ts o.0, ordered_numbered names ts o.1)

pub grammar_tokens_are_ordered : GrammarOrderedLaw
grammar_tokens_are_ordered = ((λ n w text ts e. ordered_numbered (names_of ts) ts (tokens_are_ordered n w text ts e)), ordered_front)
