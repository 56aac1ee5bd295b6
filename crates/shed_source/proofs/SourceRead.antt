-- What stands behind a text that was read, and behind each fault of one that was not.
use Rattle.std.proofs.Common.{◌≡◌, ℕ, List, [], ◌∷◌, Some, None, take, drop, true, false, refl, sym, ap, ◌∙◌, subst, ◌⊎◌, inl, inr}
use Rattle.std.specs.Prelude.{codes, string_bytes, ◌++◌}
use Rattle.runs.specs.Number.{W32}
use Rattle.shed_base.specs.Names.{special_texts, with_texts}
use Rattle.shed_base.specs.declared.place.Place.{Place}
use Rattle.py_tokens.specs.Token as texts
use Rattle.py_tokens.specs.Tokens.{tokens_of}
use Rattle.py_tokens.specs.Names.{names_in}
use Rattle.py_syntax.specs.Token.{Token}
use Rattle.py_syntax.specs.Tree as whole
use Rattle.py_syntax.specs.Grammar.{IsModule}
use Rattle.py_syntax.specs.Laws.{IsLongestFront}
use Rattle.py_syntax.specs.Heights.{IsShallow}
use Rattle.py_nesting.specs.Ordered.{AreOrdered}
use Rattle.py_nesting.specs.TooDeep.{IsFirstInFront, IsShallowTo}
use Rattle.py_constructs.specs.Construct.{construct_text, Construct as PlainConstruct}
use Rattle.py_constructs.specs.Standing.{finding, IsFinding}
use Rattle.py_outside.specs.PlainConstructs.{plain_construct}
use Rattle.py_outside.specs.declared.construct.Construct.{Construct}
use Rattle.py_meaning.specs.Tree.{Body}
use Rattle.py_meaning.specs.Rules.{are_reads_sure}
use Rattle.py_meaning.specs.Built.{built_body, unbuilt, first_place}
use Rattle.py_meaning.specs.Source.{IsText, IsSource, grammar_tokens}
use Rattle.py_lexer.specs.Reading.{AreTokens, IsRefused, AreHeld}
use Rattle.py_lexer.specs.PlainTokens.{plain_place, plain_tokens as text_tokens}
use Rattle.py_lexer.specs.declared.token.Token.{Token as TokenRead}
use Rattle.py_lexer.specs.declared.refusal.LexRefusal.{LexRefusal}
use Rattle.py_lexer.specs.declared.refusal.LexRefusal.TheVariants as refusal
use Rattle.py_table.specs.PlainTokens.{plain_tokens}
use Rattle.py_recogniser.specs.Refused.{IsFound, IsUnexpectedAt, IsOutsideAt, IsStuckAt, IsDeepInFront as IsDeepRead, IsParseRefused, last_place as last_read}
use Rattle.py_recogniser.specs.declared.refusal.Found.{Found}
use Rattle.py_recogniser.specs.declared.refusal.Found.TheVariants as found
use Rattle.py_recogniser.specs.declared.refusal.ParseRefusal.TheVariants as parse
use Rattle.shed_meaning.specs.TokenText.{token_text}
use Rattle.shed_meaning.specs.Fault.{BadToken, Unexpected, Outside, TooDeep, Unbuilt, last_place, place_at, said_at, IsUnexpected, IsOutside, IsTooDeep, IsDeepInFront}
use Rattle.shed_meaning.proofs.GrammarOrdered.{grammar_tokens_are_ordered}
use Rattle.shed_source.specs.Faults.{found_text, status_said, IsRefusalSaid, IsFaultOf}
use Rattle.shed_source.specs.declared.fault.Fault.{Fault as FaultSaid}
use Rattle.shed_source.proofs.TokensNumbered.{grammar_sees}

-- a text that has no tokens, for each reason
pub fault_of_refusal : (text : List ℕ) (r : LexRefusal) (f : FaultSaid) → IsRefused (tokens_of 0 W32 text) r
    → IsRefusalSaid r (plain_place f.place) (string_bytes f.said) f.limit → IsFaultOf text f
fault_of_refusal text (refusal.NotUtf8 p) f h s = (BadToken texts.NotUtf8 (plain_place p), h, s.0, s.1, ap status_said s.2)
fault_of_refusal text (refusal.BadCharacter p) f h s = (BadToken texts.BadCharacter (plain_place p), h, s.0, s.1, ap status_said s.2)
fault_of_refusal text (refusal.BadIndent p) f h s = (BadToken texts.BadIndent (plain_place p), h, s.0, s.1, ap status_said s.2)
fault_of_refusal text (refusal.MixedTabs p) f h s = (BadToken texts.MixedTabs (plain_place p), h, s.0, s.1, ap status_said s.2)
fault_of_refusal text (refusal.UnclosedText p) f h s = (BadToken texts.UnclosedText (plain_place p), h, s.0, s.1, ap status_said s.2)
fault_of_refusal text (refusal.UnclosedBracket p) f h s = (BadToken texts.UnclosedBracket (plain_place p), h, s.0, s.1, ap status_said s.2)
fault_of_refusal text (refusal.BadEscape p) f h s = (BadToken texts.BadEscape (plain_place p), h, s.0, s.1, ap status_said s.2)
fault_of_refusal text (refusal.WideNumber p) f h s = (BadToken texts.WideNumber (plain_place p), h, s.0, s.1, ap status_said s.2)
fault_of_refusal text (refusal.NonAsciiText p) f h s = (BadToken texts.NonAsciiText (plain_place p), h, s.0, s.1, ap status_said s.2)
fault_of_refusal text (refusal.NotNormal p) f h s = (BadToken texts.NotNormal (plain_place p), h, s.0, s.1, ap status_said s.2)
fault_of_refusal text (refusal.TooLong p) f h s = (BadToken texts.TooLong (plain_place p), h, s.0, s.1, ap status_said s.2)
fault_of_refusal text refusal.NoMemory f h s = absurd s.0

same_last : (ts : List texts.Token) → last_read ts ≡ last_place ts
same_last [] = refl
same_last (t ∷ []) = refl
same_last (t ∷ u ∷ ts) = same_last (u ∷ ts)

found_place : (names : List (List ℕ)) (ts : List texts.Token) (p : Place) (f : Found) (rest : List texts.Token)
    → IsFound names ts p f rest → plain_place p ≡ place_at ts rest
found_place names ts p found.End [] h = h ∙ same_last ts
found_place names ts p (found.Token k) [] h = absurd h
found_place names ts p found.End (t ∷ rest) h = absurd h
found_place names ts p (found.Token k) (t ∷ rest) h = h.0

found_words : (names : List (List ℕ)) (ts : List texts.Token) (p : Place) (f : Found) (rest : List texts.Token)
    → IsFound names ts p f rest → found_text names f ≡ said_at rest
found_words names ts p found.End [] h = refl
found_words names ts p (found.Token k) [] h = absurd h
found_words names ts p found.End (t ∷ rest) h = absurd h
found_words names ts p (found.Token k) (t ∷ rest) h = ap token_text h.1

-- where a text has these tokens, and names stand for its texts
module _ (text : List ℕ) (names : List (List ℕ)) (ts : List TokenRead) (lexed : AreTokens (tokens_of 0 W32 text) names ts) (numbering : names ≡ with_texts special_texts (names_in (text_tokens names ts))) (held : AreHeld names ts) where
  seen : grammar_tokens (text_tokens names ts) ≡ plain_tokens names ts
  seen = grammar_sees names ts numbering held

  text_read : (tree : whole.Body) → IsModule tree (plain_tokens names ts) → IsShallow tree → IsText text tree names
  text_read tree spelt shallow =
      record {
        tokens = text_tokens names ts;
        lexed = lexed;
        numbering = numbering;
        spelt = subst (IsModule tree) (sym seen) spelt;
        shallow = shallow;
      }

  pub source_read : (tree : whole.Body) (body : Body) → IsModule tree (plain_tokens names ts) × IsShallow tree
      → (built_body names tree ≡ Some body) × (are_reads_sure [] body ≡ true) → IsSource text body
  source_read tree body spelt built = record { tree = tree; names = names; read = text_read tree spelt.0 spelt.1; built = built.0; sure = built.1 }

  ordered : AreOrdered (plain_tokens names ts)
  ordered = subst AreOrdered seen (grammar_tokens_are_ordered.0 0 W32 text (text_tokens names ts) lexed)

  seen_longest : (count : ℕ) → IsLongestFront (take count (plain_tokens names ts)) (drop count (plain_tokens names ts)) → IsLongestFront (take count (grammar_tokens (text_tokens names ts))) (drop count (grammar_tokens (text_tokens names ts)))
  seen_longest count h = subst (λ (us : List Token). IsLongestFront (take count us) (drop count us)) (sym seen) h

  abbrev unexpected_so : (count : ℕ) (p : Place) (f : Found) → IsUnexpectedAt names ts count p f → IsUnexpected (text_tokens names ts) (plain_place p) (found_text names f)
  unexpected_so count p f h =
      record {
        count = count;
        longest = seen_longest count h.0;
        place = found_place names (text_tokens names ts) p f (drop count (text_tokens names ts)) h.1;
        words = found_words names (text_tokens names ts) p f (drop count (text_tokens names ts)) h.1;
        none = subst (λ (us : List Token). IsFinding us count None) (sym seen) h.2;
      }

  abbrev outside_so : (count : ℕ) (p : Place) (c : Construct) → IsOutsideAt names ts count p c → IsOutside (text_tokens names ts) (plain_place p) (plain_construct c)
  outside_so count p c h =
      record { count = count; longest = seen_longest count h.0; found = subst (λ (us : List Token). IsFinding us count (Some (finding (plain_construct c) (plain_place p)))) (sym seen) h.1 }

  shallow_so : (count : ℕ) (p : texts.Place) → (AreOrdered (plain_tokens names ts) → IsShallowTo p (take count (plain_tokens names ts))) → IsShallowTo p (take count (grammar_tokens (text_tokens names ts)))
  shallow_so count p h = subst (λ (us : List Token). IsShallowTo p (take count us)) (sym seen) (h ordered)

  pub fault_unexpected : (p : Place) (f : Found) (said : FaultSaid) → IsParseRefused names ts (parse.Unexpected p f) → said.place ≡ p
      → string_bytes said.said ≡ codes "P1 Unexpected " ++ found_text names f → said.limit ≡ false → IsFaultOf text said
  fault_unexpected p f said (count, h, shallow) place words limit =
      (Unexpected (plain_place p) (found_text names f), (text_tokens names ts, lexed, unexpected_so count p f h, shallow_so count (plain_place p) shallow), ap plain_place place, words, ap status_said limit)

  pub fault_outside : (p : Place) (c : Construct) (said : FaultSaid) → IsParseRefused names ts (parse.Outside p c) → said.place ≡ p
      → string_bytes said.said ≡ codes "P2 Outside " ++ construct_text (plain_construct c) → said.limit ≡ false → IsFaultOf text said
  fault_outside p c said (count, h, shallow) place words limit =
      (Outside (plain_place p) (plain_construct c), (text_tokens names ts, lexed, outside_so count p c h, shallow_so count (plain_place p) shallow), ap plain_place place, words, ap status_said limit)

  deep_so : (p : Place) → IsDeepRead names ts p → IsDeepInFront text (plain_place p)
  deep_so p (count, stuck, at, later, first) =
      record {
        tokens = text_tokens names ts;
        lexed = lexed;
        count = count;
        longest = seen_longest count (longest at);
        first = subst (λ (us : List Token). IsFirstInFront (Some (plain_place p)) (take count us)) (sym seen) (first ordered);
        place = plain_place stuck;
        refused = refused at;
        no_later = later;
      }
    where
      longest : IsStuckAt names ts count stuck → IsLongestFront (take count (plain_tokens names ts)) (drop count (plain_tokens names ts))
      longest (inl (f, h)) = h.0
      longest (inr (c, h)) = h.0

      refused : IsStuckAt names ts count stuck → ((said : List ℕ) × IsUnexpected (text_tokens names ts) (plain_place stuck) said) ⊎ ((c : PlainConstruct) × IsOutside (text_tokens names ts) (plain_place stuck) c)
      refused (inl (f, h)) = inl (found_text names f, unexpected_so count stuck f h)
      refused (inr (c, h)) = inr (plain_construct c, outside_so count stuck c h)

  pub fault_too_deep : (p : Place) (said : FaultSaid) → IsParseRefused names ts (parse.TooDeep p) → said.place ≡ p
      → string_bytes said.said ≡ codes "P3 TooDeep" → said.limit ≡ true → IsFaultOf text said
  fault_too_deep p said h place words limit = (TooDeep (plain_place p), has h, ap plain_place place, words, ap status_said limit)
    where
      has : IsParseRefused names ts (parse.TooDeep p) → IsTooDeep text (plain_place p) ⊎ IsDeepInFront text (plain_place p)
      has (inl t) = inl (record { tokens = text_tokens names ts; lexed = lexed; tree = t.0; spelt = subst (IsModule t.0) (sym seen) t.1; first = t.2 })
      has (inr d) = inr (deep_so p d)

  pub fault_unbuilt : (tree : whole.Body) (p : Place) (said : FaultSaid) → IsModule tree (plain_tokens names ts) × IsShallow tree
      → first_place (unbuilt names [] tree) ≡ Some (plain_place p) → said.place ≡ p
      → string_bytes said.said ≡ codes "P2 Outside unbuilt" → said.limit ≡ false → IsFaultOf text said
  fault_unbuilt tree p said spelt first place words limit =
      (Unbuilt (plain_place p), (tree, names, text_read tree spelt.0 spelt.1, first), ap plain_place place, words, ap status_said limit)
